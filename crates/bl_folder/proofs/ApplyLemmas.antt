-- The edit of a flush is applied.
use Rattle.std.proofs.Common.{◌≡◌, ◌≢◌, ℕ, suc, ◌+◌, ◌<◌, ◌≤◌, nat_lt, Bool, true, false, cond, List, [], ◌∷◌, ◌++◌, length, refl, sym, ◌∙◌, ap, arith, Some, None, append_assoc, append-nil}
use Rattle.std.specs.Prelude.{◌==◌, ◌&&◌, ◌||◌, not, map, filter, count_by, sum_by, Ok}
use Rattle.std.specs.List.{AllByRecursion, list_any}
use Rattle.std.proofs.lemmas.Bool.{eq-eqb, and_left, and_right, lt-ltb}
use Rattle.std.proofs.lemmas.List.Sums.{sum_by-cons, sum_by-append}
use Rattle.bl_edit.specs.declared.edit.Edit.{Edit}
use Rattle.bl_edit.specs.declared.edit.NewTable.{NewTable}
use Rattle.bl_build.specs.declared.meta.BlobMeta.{BlobMeta}
use Rattle.bl_build.specs.Listing.{Ascends, Listing, all_placed, placed, table_rank}
use Rattle.bl_build.specs.Versions.{addition_numbers, after, apply, blob_numbers, clash, first_over, first_overlap, first_twice, first_unknown, first_unknown_blob, from_linked, is_spent, linked_to, new_blob, overlap, still_needed, table_numbers, with_blobs, with_garbage, with_links, with_tables, without}
use Rattle.bl_code.proofs.Basics.{all_from}
use Rattle.bl_entry.proofs.ListLemmas.{all_append}
use Rattle.bl_folder.proofs.RecordLemmas.{not_eqb}
use Rattle.bl_folder.specs.Flushes.{blob_metas, linked_file}
use Rattle.bl_out.specs.Flushes.{NewBlob}

-- ---- at most one item is placed

pub record Placing {A : Type 0} (key : A → ℕ) (xs ys : List A) : Type 0 where
  pub front : List A
  pub back : List A
  pub is : ys ≡ front ++ back
  pub placed_is : all_placed key xs ys ≡ front ++ (xs ++ back)

place_one : {A : Type 0} (key : A → ℕ) (x : A) (ys : List A) → Placing key (x ∷ []) ys
place_one key x [] = record { front = []; back = []; is = refl; placed_is = refl }
place_one {A} key x (y ∷ ys) = by (nat_lt (key y) (key x)) refl (place_one key x ys)
  where
    by : (b : Bool) → nat_lt (key y) (key x) ≡ b → Placing key (x ∷ []) ys → Placing key (x ∷ []) (y ∷ ys)
    by true t p = record { front = y ∷ p.front; back = p.back; is = ap (λ zs. y ∷ zs) p.is; placed_is = ap (λ b. cond b (y ∷ placed key x ys) (x ∷ y ∷ ys)) t ∙ ap (λ zs. y ∷ zs) p.placed_is }
    by false f p = record { front = []; back = y ∷ ys; is = refl; placed_is = ap (λ b. cond b (y ∷ placed key x ys) (x ∷ y ∷ ys)) f }

pub placing : {A : Type 0} (key : A → ℕ) (xs ys : List A) → length xs ≤ 1 → Placing key xs ys
placing key [] ys one = record { front = []; back = ys; is = refl; placed_is = refl }
placing key (x ∷ []) ys one = place_one key x ys
placing key (x ∷ y ∷ xs) ys one = absurd (omega arith)

-- placing goes by the key alone
map_placed : {A B : Type 0} (f : A → B) (key : B → ℕ) (x : A) (ys : List A) → map f (placed (λ z. key (f z)) x ys) ≡ placed key (f x) (map f ys)
map_placed f key x [] = refl
map_placed f key x (y ∷ ys) = by (nat_lt (key (f y)) (key (f x))) (map_placed f key x ys)
  where
    by : (b : Bool) → map f (placed (λ z. key (f z)) x ys) ≡ placed key (f x) (map f ys)
        → map f (cond b (y ∷ placed (λ z. key (f z)) x ys) (x ∷ y ∷ ys)) ≡ cond b (f y ∷ placed key (f x) (map f ys)) (f x ∷ f y ∷ map f ys)
    by true e = ap (λ zs. f y ∷ zs) e
    by false e = refl

pub map_all_placed : {A B : Type 0} (f : A → B) (key : B → ℕ) (xs ys : List A) → map f (all_placed (λ z. key (f z)) xs ys) ≡ all_placed key (map f xs) (map f ys)
map_all_placed f key [] ys = refl
map_all_placed f key (x ∷ xs) ys = map_all_placed f key xs (placed (λ z. key (f z)) x ys) ∙ ap (all_placed key (map f xs)) (map_placed f key x ys)

-- ---- items above all others stand behind them

placed_last : {A : Type 0} (key : A → ℕ) (x : A) (ys : List A) → AllByRecursion (λ y. key y < key x) ys → placed key x ys ≡ ys ++ x ∷ []
placed_last key x [] h = refl
placed_last key x (y ∷ ys) h = ap (λ t. cond t (y ∷ placed key x ys) (x ∷ y ∷ ys)) (lt-ltb (key y) (key x) h.0) ∙ ap (λ zs. y ∷ zs) (placed_last key x ys h.1)

abbrev pub AreBelow : {A : Type 0} → (A → ℕ) → List A → A → Type 0
AreBelow key ys x = AllByRecursion (λ y. key y < key x) ys

pub all_last : {A : Type 0} (key : A → ℕ) (xs ys : List A) → Ascends key xs → AllByRecursion (AreBelow key ys) xs → all_placed key xs ys ≡ ys ++ xs
all_last key [] ys up h = sym (append-nil ys)
all_last {A} key (x ∷ xs) ys up h =
    let more : AllByRecursion (AreBelow key (ys ++ x ∷ [])) xs = both xs up.0 h.1 in
    ap (all_placed key xs) (placed_last key x ys h.0) ∙ all_last key xs (ys ++ x ∷ []) up.1 more ∙ append_assoc ys (x ∷ []) xs
  where
    both : (zs : List A) → AllByRecursion (λ y. key x < key y) zs → AllByRecursion (AreBelow key ys) zs → AllByRecursion (AreBelow key (ys ++ x ∷ [])) zs
    both [] a b = tt
    both (z ∷ zs) a b = (all_append (λ y. key y < key z) ys (x ∷ []) b.0 (a.0, tt), both zs a.1 b.1)

-- ---- nothing is refused

none_is : (n : ℕ) (there : List ℕ) → AllByRecursion (λ m. m ≢ n) there → list_any (λ m. m == n) there ≡ false
none_is n [] h = refl
none_is n (m ∷ ms) h = λ i. not_eqb m n h.0 i || none_is n ms h.1 i

-- numbers that ascend, above those that are there
pub none_twice : (there ns : List ℕ) → Ascends (λ n. n) ns → AllByRecursion (λ n. AllByRecursion (λ m. m < n) there) ns → first_twice there ns ≡ None
none_twice there [] up h = refl
none_twice there (n ∷ ns) up h =
    ap (λ b. cond b (Some n) (first_twice (n ∷ there) ns)) (none_is n there (all_from (λ m. m < n) (λ m. m ≢ n) there (λ m lt e. omega (arith, lt, e)) h.0))
    ∙ none_twice (n ∷ there) ns up.1 (both ns up.0 h.1)
  where
    both : (ks : List ℕ) → AllByRecursion (λ k. n < k) ks → AllByRecursion (λ k. AllByRecursion (λ m. m < k) there) ks → AllByRecursion (λ k. AllByRecursion (λ m. m < k) (n ∷ there)) ks
    both [] a b = tt
    both (k ∷ ks) a b = ((a.0, b.0), both ks a.1 b.1)

-- tables of level 0 overlap no other
pub no_clash : (t u : NewTable) → t.level ≡ 0 → clash t u ≡ false
no_clash t u e = ap (λ b. not b && (u.level == t.level) && overlap t u) (eq-eqb t.level 0 e)

none_clashes : (t : NewTable) (us : List NewTable) → t.level ≡ 0 → list_any (clash t) us ≡ false
none_clashes t [] e = refl
none_clashes t (u ∷ us) e = λ i. no_clash t u e i || none_clashes t us e i

pub no_overlap : (there ts : List NewTable) → AllByRecursion (λ t. t.level ≡ 0) ts → first_overlap there ts ≡ None
no_overlap there [] h = refl
no_overlap there (t ∷ ts) h = ap (λ b. cond b (Some t.number) (first_overlap (t ∷ there) ts)) (none_clashes t there h.0) ∙ no_overlap (t ∷ there) ts h.1

all_left_in : {A : Type 0} (xs : List A) → filter (λ x. true) xs ≡ xs
all_left_in [] = refl
all_left_in (x ∷ xs) = ap (λ ys. x ∷ ys) (all_left_in xs)

-- an edit that deletes nothing and tells no garbage, whose numbers are new and whose tables overlap no other, is not refused
pub plain_applies : (base : Listing) (e : Edit) → e.deleted ≡ [] → e.garbage ≡ [] → first_twice (table_numbers base.tables) (table_numbers e.added) ≡ None → first_twice (blob_numbers base.blobs) (addition_numbers e.blobs) ≡ None
    → first_overlap base.tables e.added ≡ None → apply base e ≡ Ok (after base e)
unfolding apply
plain_applies base e deleted garbage tables blobs overlaps =
    let left : without e.deleted base.tables ≡ base.tables = ap (λ ds. without ds base.tables) deleted ∙ all_left_in base.tables in
    let a : first_unknown base.tables e.deleted ≡ None = ap (first_unknown base.tables) deleted in
    let b : first_twice (table_numbers (without e.deleted base.tables)) (table_numbers e.added) ≡ None = ap (λ ts. first_twice (table_numbers ts) (table_numbers e.added)) left ∙ tables in
    let d : first_overlap (without e.deleted base.tables) e.added ≡ None = ap (λ ts. first_overlap ts e.added) left ∙ overlaps in
    let f : first_unknown_blob (with_blobs e.blobs base.blobs) e.garbage ≡ None = ap (first_unknown_blob (with_blobs e.blobs base.blobs)) garbage in
    let g : first_over (with_blobs e.blobs base.blobs) e.garbage ≡ None = ap (first_over (with_blobs e.blobs base.blobs)) garbage in
    rw (a, b, blobs, d, f, g) refl

pub plain_after : (base : Listing) (e : Edit) → e.deleted ≡ [] → e.garbage ≡ []
    → after base e ≡ record { tables = with_tables e.added base.tables; blobs = still_needed (with_links (with_tables e.added base.tables) (with_blobs e.blobs base.blobs)) }
plain_after base e deleted garbage =
    ap (λ ds. record {
      tables = with_tables e.added (without ds base.tables);
      blobs = still_needed (with_links (with_tables e.added (without ds base.tables)) (with_garbage e.garbage (with_blobs e.blobs base.blobs)));
    }) deleted
    ∙ ap (λ gs. record {
      tables = with_tables e.added (without [] base.tables);
      blobs = still_needed (with_links (with_tables e.added (without [] base.tables)) (with_garbage gs (with_blobs e.blobs base.blobs)));
    }) garbage
    ∙ ap (λ ts. record { tables = with_tables e.added ts; blobs = still_needed (with_links (with_tables e.added ts) (with_blobs e.blobs base.blobs)) }) (all_left_in base.tables)

-- ---- links

count_none : (n : ℕ) (ts : List NewTable) → AllByRecursion (λ t. t.oldest_blob ≢ n) ts → count_by (λ t. t.oldest_blob == n) ts ≡ 0
count_none n [] h = refl
count_none n (t ∷ ts) h =
    sum_by-cons (λ (u : NewTable). cond (u.oldest_blob == n) 1 0) t ts
    ∙ ap (λ b. cond b 1 0 + count_by (λ u. u.oldest_blob == n) ts) (not_eqb t.oldest_blob n h.0) ∙ ap (λ k. 0 + k) (count_none n ts h.1)

pub links_stay : (ts us : List NewTable) (p : Placing table_rank ts us) (b : BlobMeta) → AllByRecursion (λ t. t.oldest_blob ≢ b.number) ts → linked_to us b ≡ b → linked_to (with_tables ts us) b ≡ b
links_stay ts us p b others linked =
    let f : NewTable → ℕ = λ t. cond (t.oldest_blob == b.number) 1 0 in
    let none : count_by (λ t. t.oldest_blob == b.number) ts ≡ 0 = count_none b.number ts others in
    let whole : count_by (λ t. t.oldest_blob == b.number) (with_tables ts us) ≡ count_by (λ t. t.oldest_blob == b.number) us =
    ap (λ l. sum_by f l) p.placed_is ∙ sum_by-append f p.front (ts ++ p.back) ∙ ap (λ n. sum_by f p.front + n) (sum_by-append f ts p.back ∙ ap (λ n. n + sum_by f p.back) none ∙ zero_add (sum_by f p.back))
    ∙ sym (sum_by-append f p.front p.back) ∙ ap (λ l. sum_by f l) (sym p.is) in
    ap (λ n. record b { linked = n }) whole ∙ linked
  where
    zero_add : (n : ℕ) → 0 + n ≡ n
    zero_add n = omega arith

pub all_links_stay : (ts us : List NewTable) (p : Placing table_rank ts us) (bs : List BlobMeta) → AllByRecursion (λ b. AllByRecursion (λ t. t.oldest_blob ≢ b.number) ts) bs → AllByRecursion (λ b. linked_to us b ≡ b) bs
    → with_links (with_tables ts us) bs ≡ bs
all_links_stay ts us p [] h k = refl
all_links_stay ts us p (b ∷ bs) h k = λ i. links_stay ts us p b h.0 k.0 i ∷ all_links_stay ts us p bs h.1 k.1 i

pub new_links : (ts : List NewTable) (bs : List NewBlob) → with_links ts (map new_blob (map (λ b. b.named) bs)) ≡ blob_metas (map (linked_file ts) bs)
new_links ts [] = refl
new_links ts (b ∷ bs) = ap (λ ms. linked_to ts (new_blob b.named) ∷ ms) (new_links ts bs)

-- ---- what is needed

filter_le : {A : Type 0} (p : A → Bool) (xs : List A) → length (filter p xs) ≤ length xs
filter_le p [] = omega arith
filter_le p (x ∷ xs) = by (p x) (filter_le p xs)
  where
    by : (b : Bool) → length (filter p xs) ≤ length xs → length (cond b (x ∷ filter p xs) (filter p xs)) ≤ suc (length xs)
    by true h = omega arith
    by false h = omega arith

from_le : (bs : List BlobMeta) → length (from_linked bs) ≤ length bs
from_le [] = omega arith
from_le (b ∷ bs) = by (b.linked == 0) (from_le bs)
  where
    by : (t : Bool) → length (from_linked bs) ≤ length bs → length (cond t (from_linked bs) (b ∷ bs)) ≤ suc (length bs)
    by true h = omega arith
    by false h = omega arith

-- the first file of a version is linked
pub first_linked : (b : BlobMeta) (bs : List BlobMeta) → still_needed (b ∷ bs) ≡ b ∷ bs → (b.linked == 0) ≡ false
first_linked b bs needed = by (b.linked == 0) refl
  where
    by : (t : Bool) → (b.linked == 0) ≡ t → (b.linked == 0) ≡ false
    by false f = f
    by true t =
        let kept : filter (λ c. not (is_spent c)) (from_linked bs) ≡ b ∷ bs = sym (ap (λ u. filter (λ c. not (is_spent c)) (cond u (from_linked bs) (b ∷ bs))) t) ∙ needed in
        let long : length (filter (λ c. not (is_spent c)) (from_linked bs)) ≡ suc (length bs) = ap length kept in
        let one : length (filter (λ c. not (is_spent c)) (from_linked bs)) ≤ length (from_linked bs) = filter_le (λ c. not (is_spent c)) (from_linked bs) in
        let two : length (from_linked bs) ≤ length bs = from_le bs in
        absurd (omega arith)

from_first : (b : BlobMeta) (bs : List BlobMeta) → (b.linked == 0) ≡ false → from_linked (b ∷ bs) ≡ b ∷ bs
from_first b bs f = ap (λ t. cond t (from_linked bs) (b ∷ bs)) f

cons_same : {A : Type 0} {x y : A} {xs ys : List A} → x ∷ xs ≡ y ∷ ys → xs ≡ ys
cons_same e = cc

-- what a filter keeps whole passes it
all_pass : {A : Type 0} (p : A → Bool) (xs : List A) → filter p xs ≡ xs → AllByRecursion (λ x. p x ≡ true) xs
all_pass p [] e = tt
all_pass p (x ∷ xs) e = by (p x) refl (all_pass p xs)
  where
    by : (b : Bool) → p x ≡ b → (filter p xs ≡ xs → AllByRecursion (λ y. p y ≡ true) xs) → (p x ≡ true) × AllByRecursion (λ y. p y ≡ true) xs
    by true t rest = (t, rest (cons_same (sym (ap (λ u. cond u (x ∷ filter p xs) (filter p xs)) t) ∙ e)))
    by false f rest =
        let short : filter p xs ≡ x ∷ xs = sym (ap (λ u. cond u (x ∷ filter p xs) (filter p xs)) f) ∙ e in
        let long : length (filter p xs) ≡ suc (length xs) = ap length short in
        let le : length (filter p xs) ≤ length xs = filter_le p xs in
        absurd (omega arith)

pass_all : {A : Type 0} (p : A → Bool) (xs : List A) → AllByRecursion (λ x. p x ≡ true) xs → filter p xs ≡ xs
pass_all p [] h = refl
pass_all p (x ∷ xs) h = ap (λ b. cond b (x ∷ filter p xs) (filter p xs)) h.0 ∙ ap (λ ys. x ∷ ys) (pass_all p xs h.1)

abbrev pub IsKept : BlobMeta → Type 0
IsKept b = not (is_spent b) ≡ true

still_all : (b : BlobMeta) (bs : List BlobMeta) → (b.linked == 0) ≡ false → AllByRecursion IsKept (b ∷ bs) → still_needed (b ∷ bs) ≡ b ∷ bs
still_all b bs f h = ap (filter (λ c. not (is_spent c))) (from_first b bs f) ∙ pass_all (λ c. not (is_spent c)) (b ∷ bs) h

pub old_kept : (bs : List BlobMeta) → still_needed bs ≡ bs → AllByRecursion IsKept bs
old_kept [] needed = tt
old_kept (b ∷ bs) needed = all_pass (λ c. not (is_spent c)) (b ∷ bs) (sym (ap (filter (λ c. not (is_spent c))) (from_first b bs (first_linked b bs needed))) ∙ needed)

-- old files of which each is needed, and new ones of which none is spent and the first is linked
pub all_needed : (olds news : List BlobMeta) → still_needed olds ≡ olds → AllByRecursion IsKept news → ((b : BlobMeta) (bs : List BlobMeta) → news ≡ b ∷ bs → (b.linked == 0) ≡ false) → still_needed (olds ++ news) ≡ olds ++ news
all_needed [] [] needed kept first = refl
all_needed [] (b ∷ bs) needed kept first = still_all b bs (first b bs refl) kept
all_needed (b ∷ bs) news needed kept first = still_all b (bs ++ news) (first_linked b bs needed) (all_append IsKept (b ∷ bs) news (old_kept (b ∷ bs) needed) kept)

-- a file of some records, of which none is garbage, is not spent
pub not_spent : (b : BlobMeta) → b.garbage.count ≡ 0 → 1 ≤ b.total.count → not (is_spent b) ≡ true
not_spent b none some =
    ap not (and_left _ (b.garbage.bytes == b.total.bytes) (and_right (b.linked == 0) (b.garbage.count == b.total.count) (not_eqb b.garbage.count b.total.count (λ e. omega (arith, e, none, some)))))
