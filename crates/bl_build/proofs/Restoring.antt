-- The edit that stands for a whole version makes it of nothing.
use Rattle.std.proofs.Common.{◌≡◌, ◌≢◌, ℕ, ◌+◌, ◌^◌, ◌<◌, Bool, true, false, cond, List, [], ◌∷◌, ◌++◌, refl, sym, ◌∙◌, ap, subst, arith, Some, None, append_assoc}
use Rattle.std.specs.Prelude.{◌==◌, ◌&&◌, ◌||◌, not, map, filter, find, IsTrue, Ok}
use Rattle.std.specs.List.{AllByRecursion, IsDistinct, list_any}
use Rattle.std.specs.Option.{option_map}
use Rattle.std.proofs.lemmas.Bool.{eq-eqb, eqb-true, lt-ltb}
use Rattle.std.proofs.lemmas.Map.Keys.{IsDistinct-head, IsDistinct-tail}
use Rattle.bl_edit.specs.declared.edit.BlobGarbage.{BlobGarbage}
use Rattle.bl_edit.specs.declared.edit.Edit.{Edit}
use Rattle.bl_edit.specs.declared.edit.NewTable.{NewTable}
use Rattle.bl_edit.specs.Bounds.{IsEdit, addition_fits, garbage_fits, is_number}
use Rattle.bl_edit.specs.Options.{AreInRange}
use Rattle.bl_build.specs.declared.meta.BlobMeta.{BlobMeta}
use Rattle.bl_build.specs.declared.meta.Standing.{Standing}
use Rattle.bl_build.specs.Listing.{Ascends, Listing, all_placed, blob_number, nothing, placed, table_rank}
use Rattle.bl_build.specs.Snapshots.{addition_of, garbage_of, has_garbage, snapshot}
use Rattle.bl_build.specs.Versions.{IsVersion, add_garbage, addition_numbers, after, apply, first_over, first_twice, first_unknown_blob, has_same_number, linked_to, new_blob, still_needed, table_numbers, with_blobs, with_garbage, with_links, with_tables}
use Rattle.bl_build.proofs.Clashing.{free_passes, none_and, none_there}
use Rattle.bl_build.proofs.Files.{ascends_more, other_files, over_in}
use Rattle.bl_build.proofs.Keeping.{IsWithin, within_new}
use Rattle.bl_build.proofs.Levels.{both_true, not_eqb}
use Rattle.bl_build.proofs.Placing.{all_filter, all_from, all_map}
use Rattle.bl_build.proofs.Stepping.{step_7}

-- ---- a list in order is placed as it is

all_middle : {A : Type 0} (P : A → Type 0) (ys : List A) (x : A) (xs : List A) → AllByRecursion P (ys ++ x ∷ xs) → P x
all_middle P [] x xs h = h.0
all_middle P (y ∷ ys) x xs h = all_middle P ys x xs h.1

below : {A : Type 0} (key : A → ℕ) (ys : List A) (x : A) (xs : List A) → Ascends key (ys ++ x ∷ xs) → AllByRecursion (λ y. key y < key x) ys
below key [] x xs h = tt
below key (y ∷ ys) x xs h = (all_middle (λ z. key y < key z) ys x xs h.0, below key ys x xs h.1)

above : {A : Type 0} (key : A → ℕ) (ys : List A) (x : A) (xs : List A) → Ascends key (ys ++ x ∷ xs) → AllByRecursion (λ y. key x < key y) xs
above key [] x xs h = h.0
above key (y ∷ ys) x xs h = above key ys x xs h.1

placed_last : {A : Type 0} (key : A → ℕ) (x : A) (ys : List A) → AllByRecursion (λ y. key y < key x) ys → placed key x ys ≡ ys ++ x ∷ []
placed_last key x [] h = refl
placed_last key x (y ∷ ys) h = ap (λ t. cond t (y ∷ placed key x ys) (x ∷ y ∷ ys)) (lt-ltb (key y) (key x) h.0) ∙ ap (λ zs. y ∷ zs) (placed_last key x ys h.1)

placed_in_order : {A : Type 0} (key : A → ℕ) (xs ys : List A) → Ascends key (ys ++ xs) → all_placed key xs ys ≡ ys ++ xs
placed_in_order key [] ys h = sym (append_nothing ys)
  where
    append_nothing : {B : Type 0} (zs : List B) → zs ++ [] ≡ zs
    append_nothing [] = refl
    append_nothing (z ∷ zs) = ap (λ ws. z ∷ ws) (append_nothing zs)
placed_in_order key (x ∷ xs) ys h =
    let same : (ys ++ x ∷ []) ++ xs ≡ ys ++ x ∷ xs = append_assoc ys (x ∷ []) xs in
    ap (all_placed key xs) (placed_last key x ys (below key ys x xs h)) ∙ placed_in_order key xs (ys ++ x ∷ []) (subst (Ascends key) (sym same) h) ∙ same

-- ---- nothing of it is refused

none_is : (n : ℕ) (there : List ℕ) → AllByRecursion (λ m. m ≢ n) there → list_any (λ m. m == n) there ≡ false
none_is n [] h = refl
none_is n (m ∷ ms) h = λ i. not_eqb m n h.0 i || none_is n ms h.1 i

files_once : (there : List ℕ) (bs : List BlobMeta) → Ascends blob_number bs → AllByRecursion (λ m. AllByRecursion (λ b. m < b.number) bs) there → first_twice there (addition_numbers (map addition_of bs)) ≡ None
files_once there [] h k = refl
files_once there (b ∷ bs) h k =
    let rest : List ℕ = addition_numbers (map addition_of bs) in
    let new : AllByRecursion (λ m. m ≢ b.number) there = all_from (λ m. AllByRecursion (λ (c : BlobMeta). m < c.number) (b ∷ bs)) (λ m. m ≢ b.number) there (λ m p e. omega (arith, e, p.0)) k in
    let on : AllByRecursion (λ m. AllByRecursion (λ (c : BlobMeta). m < c.number) bs) there =
    all_from (λ m. AllByRecursion (λ (c : BlobMeta). m < c.number) (b ∷ bs)) (λ m. AllByRecursion (λ (c : BlobMeta). m < c.number) bs) there (λ m p. p.1) k in
    ap (λ t. cond t (Some b.number) (first_twice (b.number ∷ there) rest)) (none_is b.number there new) ∙ files_once (b.number ∷ there) bs h.1 (h.0, on)

none_equal : (n : ℕ) (there : List ℕ) → AllByRecursion (λ m. (m == n) ≡ false) there → list_any (λ m. m == n) there ≡ false
none_equal n [] h = refl
none_equal n (m ∷ ms) h = λ i. h.0 i || none_equal n ms h.1 i

tables_once : (there : List ℕ) (ts : List NewTable) → IsDistinct has_same_number ts → AllByRecursion (λ m. AllByRecursion (λ t. (m == t.number) ≡ false) ts) there → first_twice there (table_numbers ts) ≡ None
tables_once there [] h k = refl
tables_once there (t ∷ ts) h k =
    let new : AllByRecursion (λ m. (m == t.number) ≡ false) there =
    all_from (λ m. AllByRecursion (λ (u : NewTable). (m == u.number) ≡ false) (t ∷ ts)) (λ m. (m == t.number) ≡ false) there (λ m p. p.0) k in
    let on : AllByRecursion (λ m. AllByRecursion (λ (u : NewTable). (m == u.number) ≡ false) ts) there =
    all_from (λ m. AllByRecursion (λ (u : NewTable). (m == u.number) ≡ false) (t ∷ ts)) (λ m. AllByRecursion (λ (u : NewTable). (m == u.number) ≡ false) ts) there (λ m p. p.1) k in
    ap (λ b. cond b (Some t.number) (first_twice (t.number ∷ there) (table_numbers ts))) (none_equal t.number there new)
    ∙ tables_once (t.number ∷ there) ts (IsDistinct-tail has_same_number t ts h) (IsDistinct-head has_same_number t ts h, on)

-- ---- the files, with no garbage and no link yet, and with no link

abbrev fresh : List BlobMeta → List BlobMeta
fresh bs = map new_blob (map addition_of bs)

abbrev unlinked : BlobMeta → BlobMeta
unlinked b = record b { linked = 0 }

abbrev garbages : List BlobMeta → List BlobGarbage
garbages bs = map garbage_of (filter has_garbage bs)

fresh_above : (n : ℕ) (bs : List BlobMeta) → AllByRecursion (λ b. n < b.number) bs → AllByRecursion (λ b. n < b.number) (fresh bs)
fresh_above n [] h = tt
fresh_above n (b ∷ bs) h = (h.0, fresh_above n bs h.1)

fresh_ascends : (bs : List BlobMeta) → Ascends blob_number bs → Ascends blob_number (fresh bs)
fresh_ascends [] h = tt
fresh_ascends (b ∷ bs) h = (fresh_above b.number bs h.0, fresh_ascends bs h.1)

or_right_true : (a b : Bool) → b ≡ true → (a || b) ≡ true
or_right_true true b h = refl
or_right_true false b h = h

all_there : (bs : List BlobMeta) → AllByRecursion (λ b. list_any (λ c. c.number == b.number) (fresh bs) ≡ true) bs
all_there [] = tt
all_there (b ∷ bs) = (
  ap (λ t. t || list_any (λ c. c.number == b.number) (fresh bs)) (eq-eqb b.number b.number refl),
  all_from (λ d. list_any (λ c. c.number == d.number) (fresh bs) ≡ true) (λ d. list_any (λ c. c.number == d.number) (fresh (b ∷ bs)) ≡ true) bs
      (λ d h. or_right_true (b.number == d.number) (list_any (λ c. c.number == d.number) (fresh bs)) h) (all_there bs),
)

find_none : (p : BlobGarbage → Bool) (gs : List BlobGarbage) → AllByRecursion (λ g. p g ≡ false) gs → find p gs ≡ None
find_none p [] h = refl
find_none p (g ∷ gs) h = ap (λ t. cond t (Some g) (find p gs)) h.0 ∙ find_none p gs h.1

files_known : (bs : List BlobMeta) → first_unknown_blob (fresh bs) (garbages bs) ≡ None
files_known bs =
    let missing : BlobGarbage → Bool = λ g. not (list_any (λ c. c.number == g.number) (fresh bs)) in
    ap (option_map (λ g. g.number)) (find_none missing (garbages bs)
    (all_map (λ g. missing g ≡ false) garbage_of (filter has_garbage bs)
    (all_filter (λ b. missing (garbage_of b) ≡ false) has_garbage bs
    (all_from (λ b. list_any (λ c. c.number == b.number) (fresh bs) ≡ true) (λ b. missing (garbage_of b) ≡ false) bs (λ b h. ap not h) (all_there bs)))))

-- ---- garbage comes back

map_append : (f : BlobMeta → BlobMeta) (xs ys : List BlobMeta) → map f (xs ++ ys) ≡ map f xs ++ map f ys
map_append f [] ys = refl
map_append f (x ∷ xs) ys = ap (λ zs. f x ∷ zs) (map_append f xs ys)

filled : (b : BlobMeta) → add_garbage (garbage_of b) (new_blob (addition_of b)) ≡ unlinked b
filled b =
    let file : BlobMeta = new_blob (addition_of b) in
    let count : 0 + b.garbage.count ≡ b.garbage.count = omega arith in
    let bytes : 0 + b.garbage.bytes ≡ b.garbage.bytes = omega arith in
    ap (λ t. cond t (record file { garbage = record { count = 0 + b.garbage.count; bytes = 0 + b.garbage.bytes } }) file) (eq-eqb b.number b.number refl)
    ∙ (λ i. record file { garbage = record { count = count i; bytes = bytes i } })

one_filled : (done : List BlobMeta) (b : BlobMeta) (bs : List BlobMeta) → Ascends blob_number (done ++ fresh (b ∷ bs)) → map (add_garbage (garbage_of b)) (done ++ fresh (b ∷ bs)) ≡ done ++ unlinked b ∷ fresh bs
one_filled done b bs h =
    let g : BlobGarbage = garbage_of b in
    let front : AllByRecursion (λ c. c.number ≢ b.number) done =
    all_from (λ c. c.number < b.number) (λ c. c.number ≢ b.number) done (λ c lt e. omega (arith, e, lt)) (below blob_number done (new_blob (addition_of b)) (fresh bs) h) in
    let back : AllByRecursion (λ c. c.number ≢ b.number) (fresh bs) =
    all_from (λ c. b.number < c.number) (λ c. c.number ≢ b.number) (fresh bs) (λ c lt e. omega (arith, e, lt)) (above blob_number done (new_blob (addition_of b)) (fresh bs) h) in
    map_append (add_garbage g) done (fresh (b ∷ bs)) ∙ (λ i. other_files g done front i ++ filled b i ∷ other_files g (fresh bs) back i)

within_none : (g : BlobGarbage) (bs : List BlobMeta) → AllByRecursion IsWithin bs → over_in g bs ≡ false
within_none g [] h = refl
within_none g (b ∷ bs) h = λ i. (ap (λ t. (b.number == g.number) && t) h.0 ∙ none_and (b.number == g.number)) i || within_none g bs h.1 i

all_append : (P : BlobMeta → Type 0) (xs ys : List BlobMeta) → AllByRecursion P xs → AllByRecursion P ys → AllByRecursion P (xs ++ ys)
all_append P [] ys h k = k
all_append P (x ∷ xs) ys h k = (h.0, all_append P xs ys h.1 k)

record Restores (done bs : List BlobMeta) : Type 0 where
  pub garbage : with_garbage (garbages bs) (done ++ fresh bs) ≡ done ++ map unlinked bs
  pub over : first_over (done ++ fresh bs) (garbages bs) ≡ None

no_garbage : (b : BlobMeta) → has_garbage b ≡ false → new_blob (addition_of b) ≡ unlinked b
no_garbage b h =
    let both = both_true (b.garbage.count == 0) (b.garbage.bytes == 0) (of_not ((b.garbage.count == 0) && (b.garbage.bytes == 0)) h) in
    let count : b.garbage.count ≡ 0 = eqb-true b.garbage.count 0 both.0 in
    let bytes : b.garbage.bytes ≡ 0 = eqb-true b.garbage.bytes 0 both.1 in
    λ i. record (new_blob (addition_of b)) { garbage = record { count = sym count i; bytes = sym bytes i } }
  where
    of_not : (t : Bool) → not t ≡ false → t ≡ true
    of_not true k = refl
    of_not false k = absurd cc

-- one file more
restores_more : (done : List BlobMeta) (b : BlobMeta) (bs : List BlobMeta) (t : Bool) → has_garbage b ≡ t → Ascends blob_number (done ++ fresh (b ∷ bs)) → AllByRecursion IsWithin (done ++ unlinked b ∷ fresh bs)
    → (Ascends blob_number ((done ++ unlinked b ∷ []) ++ fresh bs) → Restores (done ++ unlinked b ∷ []) bs) → Restores done (b ∷ bs)
restores_more done b bs true e h within k =
    let g : BlobGarbage = garbage_of b in
    let same : (done ++ unlinked b ∷ []) ++ fresh bs ≡ done ++ unlinked b ∷ fresh bs = append_assoc done (unlinked b ∷ []) (fresh bs) in
    let same2 : (done ++ unlinked b ∷ []) ++ map unlinked bs ≡ done ++ unlinked b ∷ map unlinked bs = append_assoc done (unlinked b ∷ []) (map unlinked bs) in
    let one : map (add_garbage g) (done ++ fresh (b ∷ bs)) ≡ (done ++ unlinked b ∷ []) ++ fresh bs = one_filled done b bs h ∙ sym same in
    let list : garbages (b ∷ bs) ≡ g ∷ garbages bs = ap (λ t. map garbage_of (cond t (b ∷ filter has_garbage bs) (filter has_garbage bs))) e in
    let rest : Restores (done ++ unlinked b ∷ []) bs = k (subst (Ascends blob_number) one (ascends_more g (done ++ fresh (b ∷ bs)) h)) in
    record {
      garbage = ap (λ gs. with_garbage gs (done ++ fresh (b ∷ bs))) list ∙ ap (with_garbage (garbages bs)) one ∙ rest.garbage ∙ same2;
      over = ap (first_over (done ++ fresh (b ∷ bs))) list ∙ ap (λ cs. cond (over_in g cs) (Some b.number) (first_over cs (garbages bs))) one
          ∙ ap (λ t. cond t (Some b.number) (first_over ((done ++ unlinked b ∷ []) ++ fresh bs) (garbages bs))) (ap (over_in g) same ∙ within_none g (done ++ unlinked b ∷ fresh bs) within) ∙ rest.over;
    }
restores_more done b bs false e h within k =
    let same : (done ++ unlinked b ∷ []) ++ fresh bs ≡ done ++ unlinked b ∷ fresh bs = append_assoc done (unlinked b ∷ []) (fresh bs) in
    let same2 : (done ++ unlinked b ∷ []) ++ map unlinked bs ≡ done ++ unlinked b ∷ map unlinked bs = append_assoc done (unlinked b ∷ []) (map unlinked bs) in
    let one : done ++ fresh (b ∷ bs) ≡ (done ++ unlinked b ∷ []) ++ fresh bs = ap (λ c. done ++ c ∷ fresh bs) (no_garbage b e) ∙ sym same in
    let list : garbages (b ∷ bs) ≡ garbages bs = ap (λ t. map garbage_of (cond t (b ∷ filter has_garbage bs) (filter has_garbage bs))) e in
    let rest : Restores (done ++ unlinked b ∷ []) bs = k (subst (Ascends blob_number) one h) in
    record {
      garbage = (λ i. with_garbage (list i) (one i)) ∙ rest.garbage ∙ same2;
      over = (λ i. first_over (one i) (list i)) ∙ rest.over;
    }

restores : (done bs : List BlobMeta) → Ascends blob_number (done ++ fresh bs) → AllByRecursion IsWithin done → AllByRecursion IsWithin bs → Restores done bs
restores done [] h d w = record { garbage = refl; over = refl }
restores done (b ∷ bs) h d w =
    restores_more done b bs (has_garbage b) refl h (all_append IsWithin done (unlinked b ∷ fresh bs) d (w.0, within_new (map addition_of bs)))
    (λ k. restores (done ++ unlinked b ∷ []) bs k (all_append IsWithin done (unlinked b ∷ []) d (w.0, tt)) w.1)

linked_again : (ts : List NewTable) (bs : List BlobMeta) → AllByRecursion (λ b. linked_to ts b ≡ b) bs → with_links ts (map unlinked bs) ≡ bs
linked_again ts [] h = refl
linked_again ts (b ∷ bs) h = λ i. h.0 i ∷ linked_again ts bs h.1 i

pub restored : (v : Listing) (s : Standing) → IsVersion v → apply nothing (snapshot v s) ≡ Ok v
restored v s h =
    let e : Edit = snapshot v s in
    let back = restores [] v.blobs (fresh_ascends v.blobs h.blobs_ascend) tt h.garbage_fits in
    let tables : with_tables v.tables [] ≡ v.tables = placed_in_order table_rank v.tables [] h.tables_ascend in
    let files : with_blobs (map addition_of v.blobs) [] ≡ fresh v.blobs = placed_in_order blob_number (fresh v.blobs) [] (fresh_ascends v.blobs h.blobs_ascend) in
    let done : after nothing e ≡ v =
    (λ i. record {
      tables = tables i;
      blobs = still_needed (with_links (tables i) (with_garbage (garbages v.blobs) (files i)));
    })
    ∙ ap (λ bs. record { tables = v.tables; blobs = still_needed (with_links v.tables bs) }) back.garbage
    ∙ ap (λ bs. record { tables = v.tables; blobs = still_needed bs }) (linked_again v.tables v.blobs h.linked) ∙ ap (λ bs. record { tables = v.tables; blobs = bs }) h.needed in
    step_7 nothing e (record { known = refl; tables = tables_once [] v.tables h.tables_once tt; blobs = files_once [] v.blobs h.blobs_ascend tt }) (free_passes [] v.tables (none_there v.tables) h.tables_apart)
    (ap (λ bs. first_unknown_blob bs (garbages v.blobs)) files ∙ files_known v.blobs) (ap (λ bs. first_over bs (garbages v.blobs)) files ∙ back.over)
    ∙ ap Ok done

pub snapshot_fits : (v : Listing) (s : Standing) → IsVersion v → AreInRange s.options → s.last_sequence < 2 ^ 56 → IsEdit (snapshot v s)
snapshot_fits v s h o lt = record {
  last_sequence = lt-ltb s.last_sequence (2 ^ 56) lt;
  options = o;
  deleted = tt;
  added = h.tables_fit;
  blobs = all_map (λ a. IsTrue (addition_fits a)) addition_of v.blobs h.blobs_fit;
  garbage = all_map (λ g. IsTrue (garbage_fits g)) garbage_of (filter has_garbage v.blobs) (all_filter (λ b. IsTrue (is_number b.number)) has_garbage v.blobs h.blobs_fit);
}
