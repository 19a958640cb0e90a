-- What a step keeps of a version.
use Rattle.std.proofs.Common.{◌≡◌, ℕ, nat_lt, Bool, true, false, cond, List, [], ◌∷◌, refl, sym, ◌∙◌, ap, arith, inl, inr, Some, None}
use Rattle.std.specs.Prelude.{◌==◌, ◌&&◌, ◌||◌, not, map, filter, Option}
use Rattle.std.specs.List.{AllByRecursion, IsDistinct, list_any}
use Rattle.std.proofs.lemmas.Bool.{cases_eq, eq-eqb, le-ltb}
use Rattle.std.proofs.lemmas.Map.Keys.{IsDistinct-cons, IsDistinct-head, IsDistinct-tail}
use Rattle.bl_edit.specs.declared.edit.BlobAddition.{BlobAddition}
use Rattle.bl_edit.specs.declared.edit.BlobGarbage.{BlobGarbage}
use Rattle.bl_edit.specs.declared.edit.NewTable.{NewTable}
use Rattle.bl_build.specs.declared.meta.BlobMeta.{BlobMeta}
use Rattle.bl_build.specs.Listing.{all_placed, blob_number, placed}
use Rattle.bl_build.specs.Versions.{add_garbage, clash, first_over, first_overlap, first_twice, from_linked, has_same_number, is_over, is_spent, linked_to, new_blob, still_needed, table_numbers, with_blobs, with_garbage, with_links}
use Rattle.bl_build.proofs.Clashing.{same_flip}
use Rattle.bl_build.proofs.Files.{linked_stays, or_parts, other_file, over_in, same_number}
use Rattle.bl_build.proofs.Placing.{all_all_placed, all_filter, all_placed_one, any_placed}

-- ---- no two items of a list

module _ {A : Type 0} (f : A → A → Bool) where
  distinct_cond : (t : Bool) (xs ys : List A) → IsDistinct f xs → IsDistinct f ys → IsDistinct f (cond t xs ys)
  distinct_cond true xs ys h k = h
  distinct_cond false xs ys h k = k

  pub distinct_filter : (p : A → Bool) (xs : List A) → IsDistinct f xs → IsDistinct f (filter p xs)
  distinct_filter p [] h = h
  distinct_filter p (x ∷ xs) h =
      let tail : IsDistinct f (filter p xs) = distinct_filter p xs (IsDistinct-tail f x xs h) in
      distinct_cond (p x) (x ∷ filter p xs) (filter p xs) (IsDistinct-cons f x (filter p xs) (all_filter (λ y. f x y ≡ false) p xs (IsDistinct-head f x xs h)) tail) tail

  distinct_placed : ((a b : A) → f a b ≡ f b a) → (key : A → ℕ) (x : A) (ys : List A) → AllByRecursion (λ y. f x y ≡ false) ys → IsDistinct f ys → IsDistinct f (placed key x ys)
  distinct_placed flips key x [] h d = IsDistinct-cons f x [] tt d
  distinct_placed flips key x (y ∷ ys) h d =
      distinct_cond (nat_lt (key y) (key x)) (y ∷ placed key x ys) (x ∷ y ∷ ys)
      (IsDistinct-cons f y (placed key x ys) (all_placed_one (λ z. f y z ≡ false) key x ys (flips y x ∙ h.0) (IsDistinct-head f y ys d)) (distinct_placed flips key x ys h.1 (IsDistinct-tail f y ys d)))
      (IsDistinct-cons f x (y ∷ ys) h d)

  -- one after the other, none is like one that is there
  abbrev pub Passes : List A → List A → Type 0
  Passes there [] = Unit {0}
  Passes there (x ∷ xs) = (list_any (f x) there ≡ false) × Passes (x ∷ there) xs

  none_like : (x : A) (ys : List A) → list_any (f x) ys ≡ false → AllByRecursion (λ y. f x y ≡ false) ys
  none_like x [] h = tt
  none_like x (y ∷ ys) h = let t = or_parts (f x y) (list_any (f x) ys) h in (t.0, none_like x ys t.1)

  pub distinct_all : ((a b : A) → f a b ≡ f b a) → (key : A → ℕ) (xs ys there : List A) → Passes there xs → ((q : A) → list_any (f q) there ≡ list_any (f q) ys) → IsDistinct f ys → IsDistinct f (all_placed key xs ys)
  distinct_all flips key [] ys there p same d = d
  distinct_all flips key (x ∷ xs) ys there p same d =
      distinct_all flips key xs (placed key x ys) (x ∷ there) p.1 (λ q. ap (λ b. f q x || b) (same q) ∙ sym (any_placed (f q) key x ys))
      (distinct_placed flips key x ys (none_like x ys (sym (same x) ∙ p.0)) d)

pub none_first : (t : Bool) (n : ℕ) (rest : Option ℕ) → cond t (Some n) rest ≡ None → (t ≡ false) × (rest ≡ None)
none_first true n rest h = absurd cc
none_first false n rest h = (refl, h)

pub overlap_passes : (there ts : List NewTable) → first_overlap there ts ≡ None → Passes clash there ts
overlap_passes there [] h = tt
overlap_passes there (t ∷ ts) h =
    let c = none_first (list_any (clash t) there) t.number (first_overlap (t ∷ there) ts) h in (c.0, overlap_passes (t ∷ there) ts c.1)

like : (t : NewTable) (there : List NewTable) → list_any (has_same_number t) there ≡ list_any (λ m. m == t.number) (table_numbers there)
like t [] = refl
like t (u ∷ us) = λ i. same_flip t.number u.number i || like t us i

pub twice_passes : (there ts : List NewTable) → first_twice (table_numbers there) (table_numbers ts) ≡ None → Passes has_same_number there ts
twice_passes there [] h = tt
twice_passes there (t ∷ ts) h =
    let c = none_first (list_any (λ m. m == t.number) (table_numbers there)) t.number (first_twice (table_numbers (t ∷ there)) (table_numbers ts)) h in
    (like t there ∙ c.0, twice_passes (t ∷ there) ts c.1)

pub number_flips : (a b : NewTable) → has_same_number a b ≡ has_same_number b a
number_flips a b = same_flip a.number b.number

-- ---- garbage is within the totals

abbrev pub IsWithin : BlobMeta → Type 0
IsWithin b = is_over b ≡ false

of_and : (a b : Bool) → a ≡ true → (a && b) ≡ false → b ≡ false
of_and true b e h = h
of_and false b e h = absurd cc

within_one : (g : BlobGarbage) (b : BlobMeta) → IsWithin b → ((add_garbage g b).number == g.number && is_over (add_garbage g b)) ≡ false → IsWithin (add_garbage g b)
within_one g b h k = elim (cases_eq b.number g.number) [
  | inl e ↦ of_and ((add_garbage g b).number == g.number) (is_over (add_garbage g b)) (eq-eqb (add_garbage g b).number g.number (same_number g b ∙ e)) k
  | inr n ↦ ap is_over (other_file g b n) ∙ h
]

within_more : (g : BlobGarbage) (bs : List BlobMeta) → AllByRecursion IsWithin bs → over_in g (map (add_garbage g) bs) ≡ false → AllByRecursion IsWithin (map (add_garbage g) bs)
within_more g [] h k = tt
within_more g (b ∷ bs) h k =
    let t = or_parts ((add_garbage g b).number == g.number && is_over (add_garbage g b)) (over_in g (map (add_garbage g) bs)) k in
    (within_one g b h.0 t.0, within_more g bs h.1 t.1)

within_garbage : (gs : List BlobGarbage) (bs : List BlobMeta) → AllByRecursion IsWithin bs → first_over bs gs ≡ None → AllByRecursion IsWithin (with_garbage gs bs)
within_garbage [] bs h k = h
within_garbage (g ∷ gs) bs h k =
    let t = none_first (over_in g (map (add_garbage g) bs)) g.number (first_over (map (add_garbage g) bs) gs) k in
    within_garbage gs (map (add_garbage g) bs) (within_more g bs h t.0) t.1

pub within_new : (added : List BlobAddition) → AllByRecursion IsWithin (map new_blob added)
within_new [] = tt
within_new (a ∷ added) = ((λ i. le-ltb a.count 0 (omega arith) i || le-ltb a.bytes 0 (omega arith) i), within_new added)

within_links : (ts : List NewTable) (bs : List BlobMeta) → AllByRecursion IsWithin bs → AllByRecursion IsWithin (with_links ts bs)
within_links ts [] h = tt
within_links ts (b ∷ bs) h = (h.0, within_links ts bs h.1)

-- ---- the files that are kept

if_all : (P : BlobMeta → Type 0) (t : Bool) (xs ys : List BlobMeta) → AllByRecursion P xs → AllByRecursion P ys → AllByRecursion P (cond t xs ys)
if_all P true xs ys h k = h
if_all P false xs ys h k = k

linked_all : (P : BlobMeta → Type 0) (bs : List BlobMeta) → AllByRecursion P bs → AllByRecursion P (from_linked bs)
linked_all P [] h = tt
linked_all P (b ∷ bs) h = if_all P (b.linked == 0) (from_linked bs) (b ∷ bs) (linked_all P bs h.1) h

still_all : (P : BlobMeta → Type 0) (bs : List BlobMeta) → AllByRecursion P bs → AllByRecursion P (still_needed bs)
still_all P bs h = all_filter P (λ b. not (is_spent b)) (from_linked bs) (linked_all P bs h)

pub within_after : (ts : List NewTable) (gs : List BlobGarbage) (added : List BlobAddition) (bs : List BlobMeta) → AllByRecursion IsWithin bs → first_over (with_blobs added bs) gs ≡ None
    → AllByRecursion IsWithin (still_needed (with_links ts (with_garbage gs (with_blobs added bs))))
within_after ts gs added bs h k =
    let files : List BlobMeta = with_garbage gs (with_blobs added bs) in
    still_all IsWithin (with_links ts files) (within_links ts files (within_garbage gs (with_blobs added bs) (all_all_placed IsWithin blob_number (map new_blob added) bs (within_new added) h) k))

links_stand : (ts : List NewTable) (bs : List BlobMeta) → AllByRecursion (λ b. linked_to ts b ≡ b) (with_links ts bs)
links_stand ts [] = tt
links_stand ts (b ∷ bs) = (refl, links_stand ts bs)

pub links_after : (ts : List NewTable) (bs : List BlobMeta) → AllByRecursion (λ b. linked_to ts b ≡ b) (still_needed (with_links ts bs))
links_after ts bs = still_all (λ b. linked_to ts b ≡ b) (with_links ts bs) (links_stand ts bs)

abbrev not_spent : BlobMeta → Bool
not_spent b = not (is_spent b)

again_by : (b : BlobMeta) (rest : List BlobMeta) (t : Bool) → not_spent b ≡ t → filter not_spent rest ≡ rest → filter not_spent (cond t (b ∷ rest) rest) ≡ cond t (b ∷ rest) rest
again_by b rest true e h = ap (λ t. cond t (b ∷ filter not_spent rest) (filter not_spent rest)) e ∙ ap (λ bs. b ∷ bs) h
again_by b rest false e h = h

filter_again : (bs : List BlobMeta) → filter not_spent (filter not_spent bs) ≡ filter not_spent bs
filter_again [] = refl
filter_again (b ∷ bs) = again_by b (filter not_spent bs) (not_spent b) refl (filter_again bs)

-- behind a linked file nothing more is left out
from_one : (b : BlobMeta) (bs : List BlobMeta) → (b.linked == 0) ≡ false → still_needed (b ∷ bs) ≡ b ∷ filter not_spent bs
from_one b bs e =
    ap (λ t. filter not_spent (cond t (from_linked bs) (b ∷ bs))) e ∙ ap (λ t. cond t (b ∷ filter not_spent bs) (filter not_spent bs)) (linked_stays b e)

still_by : (b : BlobMeta) (bs : List BlobMeta) (t : Bool) → (b.linked == 0) ≡ t → still_needed (still_needed bs) ≡ still_needed bs → still_needed (still_needed (b ∷ bs)) ≡ still_needed (b ∷ bs)
still_by b bs true e h =
    let same : still_needed (b ∷ bs) ≡ still_needed bs = ap (λ t. filter not_spent (cond t (from_linked bs) (b ∷ bs))) e in
    ap still_needed same ∙ h ∙ sym same
still_by b bs false e h =
    let one = from_one b bs e in
    ap still_needed one ∙ from_one b (filter not_spent bs) e ∙ ap (λ cs. b ∷ cs) (filter_again bs) ∙ sym one

pub still_again : (bs : List BlobMeta) → still_needed (still_needed bs) ≡ still_needed bs
still_again [] = refl
still_again (b ∷ bs) = still_by b bs (b.linked == 0) refl (still_again bs)
