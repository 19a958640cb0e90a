-- One step, and what it makes of a version.
use Rattle.std.proofs.Common.{◌≡◌, ◌≢◌, ℕ, ◌^◌, ◌<◌, Bool, true, false, cond, List, [], ◌∷◌, refl, sym, ◌∙◌, ap, subst, arith, Some, None}
use Rattle.std.specs.Prelude.{◌==◌, ◌||◌, not, map, IsTrue, Ok, Err}
use Rattle.std.specs.List.{AllByRecursion, list_any, IsDistinct}
use Rattle.std.proofs.lemmas.Bool.{eq-eqb, false≢true}
use Rattle.bl_edit.specs.declared.edit.BlobAddition.{BlobAddition}
use Rattle.bl_edit.specs.declared.edit.BlobGarbage.{BlobGarbage}
use Rattle.bl_edit.specs.declared.edit.Edit.{Edit}
use Rattle.bl_edit.specs.declared.edit.NewTable.{NewTable}
use Rattle.bl_edit.specs.Bounds.{IsEdit, addition_fits, is_number, table_fits}
use Rattle.bl_build.specs.declared.meta.BlobMeta.{BlobMeta}
use Rattle.bl_build.specs.declared.error.BadVersion.TheVariants.{UnknownTable, Twice, Overlap, UnknownBlob, Overflow}
use Rattle.bl_build.specs.Listing.{Listing, Ascends, all_placed, blob_number, placed, table_rank, nothing}
use Rattle.bl_build.specs.Versions.{IsVersion, add_garbage, addition_numbers, after, apply, blob_numbers, first_over, first_overlap, first_twice, first_unknown, first_unknown_blob, from_linked, has_same_number, clash, is_spent, new_blob, still_needed, table_numbers, with_blobs, with_garbage, with_links, with_tables, without}
use Rattle.bl_build.proofs.Files.{ascends_more, same_number}
use Rattle.bl_build.proofs.Clashing.{clash_flips}
use Rattle.bl_build.proofs.Keeping.{distinct_all, distinct_filter, links_after, none_first, number_flips, overlap_passes, still_again, twice_passes, within_after}
use Rattle.bl_build.proofs.Levels.{fits_number}
use Rattle.bl_build.proofs.Placing.{all_all_placed, all_filter, any_placed, ascends_filter, ascends_placed}
use Rattle.bl_build.proofs.Searching.{any_mapped}

-- ---- the refusals, one after the other

module _ (base : Listing) (e : Edit) where
  pub step_1 : (n : ℕ) → first_unknown base.tables e.deleted ≡ Some n → apply base e ≡ Err (UnknownTable n)
  unfolding apply
  step_1 n a = rw a refl

  pub step_2 : (n : ℕ) → first_unknown base.tables e.deleted ≡ None → first_twice (table_numbers (without e.deleted base.tables)) (table_numbers e.added) ≡ Some n → apply base e ≡ Err (Twice n)
  unfolding apply
  step_2 n a b = rw (a, b) refl

  pub step_3 : (n : ℕ) → first_unknown base.tables e.deleted ≡ None → first_twice (table_numbers (without e.deleted base.tables)) (table_numbers e.added) ≡ None
      → first_twice (blob_numbers base.blobs) (addition_numbers e.blobs) ≡ Some n → apply base e ≡ Err (Twice n)
  unfolding apply
  step_3 n a b c = rw (a, b, c) refl

  -- no number comes twice
  pub record IsNew : Type 0 where
    pub known : first_unknown base.tables e.deleted ≡ None
    pub tables : first_twice (table_numbers (without e.deleted base.tables)) (table_numbers e.added) ≡ None
    pub blobs : first_twice (blob_numbers base.blobs) (addition_numbers e.blobs) ≡ None

  pub step_4 : (n : ℕ) → IsNew → first_overlap (without e.deleted base.tables) e.added ≡ Some n → apply base e ≡ Err (Overlap n)
  unfolding apply
  step_4 n s d = rw (s.known, s.tables, s.blobs, d) refl

  pub step_5 : (n : ℕ) → IsNew → first_overlap (without e.deleted base.tables) e.added ≡ None → first_unknown_blob (with_blobs e.blobs base.blobs) e.garbage ≡ Some n → apply base e ≡ Err (UnknownBlob n)
  unfolding apply
  step_5 n s d f = rw (s.known, s.tables, s.blobs, d, f) refl

  pub step_6 : (n : ℕ) → IsNew → first_overlap (without e.deleted base.tables) e.added ≡ None → first_unknown_blob (with_blobs e.blobs base.blobs) e.garbage ≡ None
      → first_over (with_blobs e.blobs base.blobs) e.garbage ≡ Some n → apply base e ≡ Err (Overflow n)
  unfolding apply
  step_6 n s d f g = rw (s.known, s.tables, s.blobs, d, f, g) refl

  pub step_7 : IsNew → first_overlap (without e.deleted base.tables) e.added ≡ None → first_unknown_blob (with_blobs e.blobs base.blobs) e.garbage ≡ None
      → first_over (with_blobs e.blobs base.blobs) e.garbage ≡ None → apply base e ≡ Ok (after base e)
  unfolding apply
  step_7 s d f g = rw (s.known, s.tables, s.blobs, d, f, g) refl

-- ---- the order

no_number : {A : Type 0} (number : A → ℕ) (n : ℕ) (ys : List A) → list_any (λ y. number y == n) ys ≡ false → AllByRecursion (λ y. number y ≢ n) ys
no_number number n [] h = tt
no_number number n (y ∷ ys) h =
    let t = or_parts (number y == n) (list_any (λ z. number z == n) ys) h in
    ((λ e. false≢true (sym t.0 ∙ eq-eqb (number y) n e)), no_number number n ys t.1)
  where
    or_parts : (a b : Bool) → (a || b) ≡ false → (a ≡ false) × (b ≡ false)
    or_parts true b k = absurd cc
    or_parts false b k = (refl, k)

pub both_all : {A : Type 0} (P Q R : A → Type 0) (xs : List A) → ((x : A) → P x → Q x → R x) → AllByRecursion P xs → AllByRecursion Q xs → AllByRecursion R xs
both_all P Q R [] k h g = tt
both_all P Q R (x ∷ xs) k h g = (k x h.0 g.0, both_all P Q R xs k h.1 g.1)

-- items whose numbers come once are placed in a strict order, where other numbers have other keys
once_ascends : {A : Type 0} (P : A → Type 0) (key number : A → ℕ) → ((x y : A) → P x → P y → number y ≢ number x → key y ≢ key x) → (xs ys : List A) (there : List ℕ) → AllByRecursion P xs → AllByRecursion P ys
    → ((q : ℕ) → list_any (λ m. m == q) there ≡ list_any (λ y. number y == q) ys) → first_twice there (map number xs) ≡ None → Ascends key ys → Ascends key (all_placed key xs ys)
once_ascends P key number other [] ys there p q same once h = h
once_ascends P key number other (x ∷ xs) ys there p q same once h =
    let t = none_first (list_any (λ m. m == number x) there) (number x) (first_twice (number x ∷ there) (map number xs)) once in
    let free = no_number number (number x) ys (sym (same (number x)) ∙ t.0) in
    let keys = both_all P (λ y. number y ≢ number x) (λ y. key y ≢ key x) ys (λ y py n. other x y p.0 py n) q free in
    once_ascends P key number other xs (placed key x ys) (number x ∷ there) p.1 (all_all_placed P key (x ∷ []) ys (p.0, tt) q)
    (λ r. ap (λ b. (number x == r) || b) (same r) ∙ sym (any_placed (λ y. number y == r) key x ys)) t.1 (ascends_placed key x ys h keys)

abbrev Fits : NewTable → Type 0
Fits t = IsTrue (table_fits t)

abbrev HasNumber : BlobMeta → Type 0
HasNumber b = IsTrue (is_number b.number)

new_numbers : (added : List BlobAddition) → map blob_number (map new_blob added) ≡ addition_numbers added
new_numbers [] = refl
new_numbers (a ∷ added) = ap (λ ns. a.number ∷ ns) (new_numbers added)

pub left_ascends : (base : Listing) (e : Edit) → IsVersion base → Ascends table_rank (without e.deleted base.tables)
left_ascends base e v = ascends_filter table_rank _ base.tables v.tables_ascend

pub tables_ascend : (base : Listing) (e : Edit) → IsVersion base → IsEdit e → IsNew base e → Ascends table_rank (with_tables e.added (without e.deleted base.tables))
tables_ascend base e v h s =
    let left : List NewTable = without e.deleted base.tables in
    once_ascends Fits table_rank (λ t. t.number)
    (λ x y px py n k.
    let a : x.number < 2 ^ 64 = fits_number x px in
    let b : y.number < 2 ^ 64 = fits_number y py in
    n (omega (arith, k)))
    e.added left (table_numbers left) h.added (all_filter Fits _ base.tables v.tables_fit) (any_mapped (λ t. t.number) left) s.tables (left_ascends base e v)

pub files_ascend : (base : Listing) (e : Edit) → IsVersion base → IsEdit e → IsNew base e → Ascends blob_number (with_blobs e.blobs base.blobs)
files_ascend base e v h s =
    once_ascends (λ (b : BlobMeta). Unit {0}) blob_number blob_number (λ x y px py n. n) (map new_blob e.blobs) base.blobs (blob_numbers base.blobs) (any_unit (map new_blob e.blobs)) (any_unit base.blobs)
    (any_mapped blob_number base.blobs) (ap (first_twice (blob_numbers base.blobs)) (new_numbers e.blobs) ∙ s.blobs) v.blobs_ascend
  where
    any_unit : (bs : List BlobMeta) → AllByRecursion (λ (b : BlobMeta). Unit {0}) bs
    any_unit [] = tt
    any_unit (b ∷ bs) = (tt, any_unit bs)

-- ---- what later steps keep

pub garbage_ascends : (gs : List BlobGarbage) (bs : List BlobMeta) → Ascends blob_number bs → Ascends blob_number (with_garbage gs bs)
garbage_ascends [] bs h = h
garbage_ascends (g ∷ gs) bs h = garbage_ascends gs (map (add_garbage g) bs) (ascends_more g bs h)

links_above : (ts : List NewTable) (n : ℕ) (bs : List BlobMeta) → AllByRecursion (λ b. n < b.number) bs → AllByRecursion (λ b. n < b.number) (with_links ts bs)
links_above ts n [] h = tt
links_above ts n (b ∷ bs) h = (h.0, links_above ts n bs h.1)

links_ascend : (ts : List NewTable) (bs : List BlobMeta) → Ascends blob_number bs → Ascends blob_number (with_links ts bs)
links_ascend ts [] h = tt
links_ascend ts (b ∷ bs) h = (links_above ts b.number bs h.0, links_ascend ts bs h.1)

if_ascends : (t : Bool) (xs ys : List BlobMeta) → Ascends blob_number xs → Ascends blob_number ys → Ascends blob_number (cond t xs ys)
if_ascends true xs ys h k = h
if_ascends false xs ys h k = k

linked_ascends : (bs : List BlobMeta) → Ascends blob_number bs → Ascends blob_number (from_linked bs)
linked_ascends [] h = tt
linked_ascends (b ∷ bs) h = if_ascends (b.linked == 0) (from_linked bs) (b ∷ bs) (linked_ascends bs h.1) h

needed_ascends : (ts : List NewTable) (gs : List BlobGarbage) (bs : List BlobMeta) → Ascends blob_number bs → Ascends blob_number (still_needed (with_links ts (with_garbage gs bs)))
needed_ascends ts gs bs h =
    let linked : List BlobMeta = with_links ts (with_garbage gs bs) in
    ascends_filter blob_number (λ b. not (is_spent b)) (from_linked linked) (linked_ascends linked (links_ascend ts (with_garbage gs bs) (garbage_ascends gs bs h)))

-- what holds of numbers alone is kept too
module _ (P : ℕ → Type 0) where
  if_all : (t : Bool) (xs ys : List BlobMeta) → AllByRecursion (λ b. P b.number) xs → AllByRecursion (λ b. P b.number) ys → AllByRecursion (λ b. P b.number) (cond t xs ys)
  if_all true xs ys h k = h
  if_all false xs ys h k = k

  linked_all : (bs : List BlobMeta) → AllByRecursion (λ b. P b.number) bs → AllByRecursion (λ b. P b.number) (from_linked bs)
  linked_all [] h = tt
  linked_all (b ∷ bs) h = if_all (b.linked == 0) (from_linked bs) (b ∷ bs) (linked_all bs h.1) h

  more_all : (g : BlobGarbage) (bs : List BlobMeta) → AllByRecursion (λ b. P b.number) bs → AllByRecursion (λ b. P b.number) (map (add_garbage g) bs)
  more_all g [] h = tt
  more_all g (b ∷ bs) h = (subst P (sym (same_number g b)) h.0, more_all g bs h.1)

  garbage_all : (gs : List BlobGarbage) (bs : List BlobMeta) → AllByRecursion (λ b. P b.number) bs → AllByRecursion (λ b. P b.number) (with_garbage gs bs)
  garbage_all [] bs h = h
  garbage_all (g ∷ gs) bs h = garbage_all gs (map (add_garbage g) bs) (more_all g bs h)

  links_all : (ts : List NewTable) (bs : List BlobMeta) → AllByRecursion (λ b. P b.number) bs → AllByRecursion (λ b. P b.number) (with_links ts bs)
  links_all ts [] h = tt
  links_all ts (b ∷ bs) h = (h.0, links_all ts bs h.1)

  pub needed_all : (ts : List NewTable) (gs : List BlobGarbage) (bs : List BlobMeta) → AllByRecursion (λ b. P b.number) bs → AllByRecursion (λ b. P b.number) (still_needed (with_links ts (with_garbage gs bs)))
  needed_all ts gs bs h =
      let linked : List BlobMeta = with_links ts (with_garbage gs bs) in
      all_filter (λ b. P b.number) (λ b. not (is_spent b)) (from_linked linked) (linked_all linked (links_all ts (with_garbage gs bs) (garbage_all gs bs h)))

new_fit : (added : List BlobAddition) → AllByRecursion (λ a. IsTrue (addition_fits a)) added → AllByRecursion HasNumber (map new_blob added)
new_fit [] h = tt
new_fit (a ∷ added) h = (h.0, new_fit added h.1)

pub files_fit : (base : Listing) (e : Edit) → IsVersion base → IsEdit e → AllByRecursion HasNumber (with_blobs e.blobs base.blobs)
files_fit base e v h = all_all_placed HasNumber blob_number (map new_blob e.blobs) base.blobs (new_fit e.blobs h.blobs) v.blobs_fit

pub after_is_version : (base : Listing) (e : Edit) → IsVersion base → IsEdit e → IsNew base e → first_overlap (without e.deleted base.tables) e.added ≡ None → first_over (with_blobs e.blobs base.blobs) e.garbage ≡ None
    → IsVersion (after base e)
after_is_version base e v h s apart within =
    let left : List NewTable = without e.deleted base.tables in
    let tables : List NewTable = with_tables e.added left in
    let files : List BlobMeta = with_garbage e.garbage (with_blobs e.blobs base.blobs) in
    record {
      tables_fit = all_all_placed Fits table_rank e.added left h.added (all_filter Fits _ base.tables v.tables_fit);
      tables_ascend = tables_ascend base e v h s;
      tables_once = distinct_all has_same_number number_flips table_rank e.added left left (twice_passes left e.added s.tables) (λ q. refl) (distinct_filter has_same_number _ base.tables v.tables_once);
      tables_apart = distinct_all clash clash_flips table_rank e.added left left (overlap_passes left e.added apart) (λ q. refl) (distinct_filter clash _ base.tables v.tables_apart);
      blobs_fit = needed_all (λ n. IsTrue (is_number n)) tables e.garbage (with_blobs e.blobs base.blobs) (files_fit base e v h);
      blobs_ascend = needed_ascends tables e.garbage (with_blobs e.blobs base.blobs) (files_ascend base e v h s);
      garbage_fits = within_after tables e.garbage e.blobs base.blobs v.garbage_fits within;
      linked = links_after tables files;
      needed = still_again (with_links tables files);
    }

pub nothing_is_version : IsVersion nothing
unfolding IsDistinct
nothing_is_version = record { tables_fit = tt; tables_ascend = tt; tables_once = tt; tables_apart = tt; blobs_fit = tt; blobs_ascend = tt; garbage_fits = tt; linked = tt; needed = refl }
