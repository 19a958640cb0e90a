-- The records of blob files: where they stand, what they resolve to, and how they are counted.
use Rattle.std.proofs.Common.{◌≡◌, ◌≢◌, ℕ, suc, ◌+◌, ◌<◌, ◌≤◌, Bool, true, false, cond, List, [], ◌∷◌, ◌++◌, length, refl, sym, ◌∙◌, ap, subst, arith, inl, inr, Option, Some, append-nil}
use Rattle.std.specs.Prelude.{◌==◌, ◌&&◌, map, filter, find, min, option_and_then, unwrap_or, sum, sum_by}
use Rattle.std.specs.List.{AllByRecursion, fold, IsDistinct}
use Rattle.std.proofs.lemmas.Bool.{eq-eqb, and_from}
use Rattle.std.proofs.lemmas.Bool.Decides.{nat_tests}
use Rattle.std.proofs.lemmas.List.{map-append}
use Rattle.std.proofs.lemmas.List.Elements.{filter-append}
use Rattle.std.proofs.lemmas.List.Sums.{sum_by-cons}
use Rattle.bl_code.specs.Order.{same_bytes}
use Rattle.bl_blob.specs.declared.blob.BlobAt.{BlobAt}
use Rattle.bl_blob.specs.BlobFile.{Record, blobs_of, placed, size_of}
use Rattle.bl_index.specs.declared.index.BlobIndex.{BlobIndex}
use Rattle.bl_index.specs.Metering.{reference_bytes}
use Rattle.bl_build.specs.Listing.{Ascends}
use Rattle.bl_code.proofs.Basics.{all_from}
use Rattle.bl_entry.proofs.ItemLemmas.{all_of_map}
use Rattle.bl_entry.proofs.ListLemmas.{all_append}
use Rattle.bl_out.proofs.AmongLemmas.{Among, all_at, distinct_join}
use Rattle.bl_folder.proofs.SeenLemmas.{key_same}
use Rattle.bl_out.proofs.WrittenLemmas.{reference_for}
use Rattle.bl_out.proofs.StoredLemmas.{new_number, stored_in}
use Rattle.bl_folder.specs.Entries.{records_by}
use Rattle.bl_folder.specs.Holding.{BlobFile}
use Rattle.bl_out.specs.Flushes.{NewBlob, stored}
use Rattle.bl_out.specs.References.{Reference}
use Rattle.bl_out.specs.Tables.{least_of, same_record}
use Rattle.bl_out.specs.Values.{is_named, resolved, value_in}
use Rattle.bl_out.specs.Written.{Stored, stored_at}

pub not_eqb : (m n : ℕ) → (m ≡ n → ⊥) → (m == n) ≡ false
not_eqb m n h = grind (arith, nat_tests)

-- ---- the records of one file

behind : (place : ℕ) (rs : List Record) → AllByRecursion (λ r. place + 32 ≤ r.offset) (placed place rs)
unfolding placed
behind place [] = tt
behind place (r ∷ rs) =
    (omega arith, all_from (λ (q : BlobAt). place + size_of r + 32 ≤ q.offset) (λ q. place + 32 ≤ q.offset) (placed (place + size_of r) rs) (λ q h. omega arith) (behind (place + size_of r) rs))

pub count_placed : (place : ℕ) (rs : List Record) → length (placed place rs) ≡ length rs
unfolding placed
count_placed place [] = refl
count_placed place (r ∷ rs) = ap suc (count_placed (place + size_of r) rs)

abbrev pub index_at : ℕ → BlobAt → BlobIndex
index_at file r = record { file = file; offset = r.offset; size = length r.value }

here : (file : ℕ) (x : BlobAt) → is_named x.key (index_at file x) x ≡ true
here file x = and_from _ _ (and_from _ _ (eq-eqb x.offset x.offset refl) (key_same x.key x.key refl)) (eq-eqb (length x.value) (length x.value) refl)

elsewhere : (key : List ℕ) (index : BlobIndex) (x : BlobAt) → (x.offset ≡ index.offset → ⊥) → is_named key index x ≡ false
elsewhere key index x n = ap (λ b. b && same_bytes x.key key && (length x.value == index.size)) (not_eqb x.offset index.offset n)

find_cons : {A : Type 0} (p : A → Bool) (x : A) (xs : List A) (o : Option A) → p x ≡ false → find p xs ≡ o → find p (x ∷ xs) ≡ o
find_cons p x xs o f e = ap (λ b. cond b (Some x) (find p xs)) f ∙ e

find_first : {A : Type 0} (p : A → Bool) (x : A) (xs : List A) → p x ≡ true → find p (x ∷ xs) ≡ Some x
find_first p x xs t = ap (λ b. cond b (Some x) (find p xs)) t

abbrev first_at : ℕ → Record → BlobAt
first_at place r = record { offset = place + 32 + length r.key; key = r.key; value = r.value }

named : (file place : ℕ) (rs : List Record) (q : BlobAt) → Among q (placed place rs) → find (is_named q.key (index_at file q)) (placed place rs) ≡ Some q
unfolding placed
named file place [] q h = absurd h
named file place (r ∷ rs) q (inl is) =
    subst (λ (x : BlobAt). find (is_named x.key (index_at file x)) (placed place (r ∷ rs)) ≡ Some x) is (find_first (is_named r.key (index_at file (first_at place r))) (first_at place r) (placed (place + size_of r) rs) (here file (first_at place r)))
named file place (r ∷ rs) q (inr h) =
    let far : place + size_of r + 32 ≤ q.offset = all_at (λ x. place + size_of r + 32 ≤ x.offset) (placed (place + size_of r) rs) q (behind (place + size_of r) rs) h in
    find_cons (is_named q.key (index_at file q)) (first_at place r) (placed (place + size_of r) rs) (Some q) (elsewhere q.key (index_at file q) (first_at place r) (λ e. omega (arith, e, far))) (named file (place + size_of r) rs q h)

-- ---- several files

abbrev pub number : BlobFile → ℕ
number b = b.meta.number

pub find_behind : (n : ℕ) (olds news : List BlobFile) → AllByRecursion (λ b. number b < n) olds → find (λ b. b.meta.number == n) (olds ++ news) ≡ find (λ b. b.meta.number == n) news
find_behind n [] news h = refl
find_behind n (b ∷ bs) news h = find_cons (λ b. b.meta.number == n) b (bs ++ news) (find (λ b. b.meta.number == n) news) (not_eqb b.meta.number n (λ e. let lt : b.meta.number < n = h.0 in omega (arith, e))) (find_behind n bs news h.1)

module _ (g : NewBlob → BlobFile) (same : (b : NewBlob) → number (g b) ≡ new_number b) where
  pub find_file : (bs : List NewBlob) (b : NewBlob) → Ascends new_number bs → Among b bs → find (λ x. x.meta.number == new_number b) (map g bs) ≡ Some (g b)
  find_file [] b up h = absurd h
  find_file (x ∷ bs) b up (inl is) =
      subst (λ (y : NewBlob). find (λ z. z.meta.number == new_number y) (map g (x ∷ bs)) ≡ Some (g y)) is (find_first (λ z. z.meta.number == new_number x) (g x) (map g bs) (eq-eqb (number (g x)) (new_number x) (same x)))
  find_file (x ∷ bs) b up (inr h) =
      let lt : new_number x < new_number b = all_at (λ y. new_number x < new_number y) bs b up.0 h in
      find_cons (λ z. z.meta.number == new_number b) (g x) (map g bs) (Some (g b)) (not_eqb (number (g x)) (new_number b) (λ e. let s : number (g x) ≡ new_number x = same x in omega (arith, e))) (find_file bs b up.1 h)

  -- each record is what its index resolves to
  module _ (keeps : (b : NewBlob) → (g b).records ≡ b.records) (olds : List BlobFile) (bs : List NewBlob) (up : Ascends new_number bs) (above : AllByRecursion (λ o. AllByRecursion (λ b. number o < new_number b) bs) olds) where
    pub at_file : (b : NewBlob) → Among b bs → (q : BlobAt) → Among q (blobs_of b.records) → resolved (records_by (olds ++ map g bs)) q.key (index_at (new_number b) q) ≡ Some q.value
    at_file b there q within_ =
        let low : AllByRecursion (λ o. number o < new_number b) olds = all_from (λ o. AllByRecursion (λ c. number o < new_number c) bs) (λ o. number o < new_number b) olds (λ o h. all_at (λ c. number o < new_number c) bs b h there) above in
        ap (λ o. option_and_then (value_in q.key (index_at (new_number b) q)) (option_and_then (λ (c : BlobFile). Some c.records) o)) (find_behind (new_number b) olds (map g bs) low ∙ find_file bs b up there)
        ∙ ap (value_in q.key (index_at (new_number b) q)) (keeps b)
        ∙ ap (option_and_then (λ (r : BlobAt). Some r.value)) (named (new_number b) 30 b.records q within_)

-- ---- references by file

pub none_of : (n : ℕ) (rs : List Reference) → AllByRecursion (λ r. r.index.file ≢ n) rs → filter (λ r. r.index.file == n) rs ≡ []
none_of n [] h = refl
none_of n (r ∷ rs) h = ap (λ b. cond b (r ∷ filter (λ q. q.index.file == n) rs) (filter (λ q. q.index.file == n) rs)) (not_eqb r.index.file n h.0) ∙ none_of n rs h.1

pub all_of : (n : ℕ) (rs : List Reference) → AllByRecursion (λ r. r.index.file ≡ n) rs → filter (λ r. r.index.file == n) rs ≡ rs
all_of n [] h = refl
all_of n (r ∷ rs) h =
    ap (λ b. cond b (r ∷ filter (λ q. q.index.file == n) rs) (filter (λ q. q.index.file == n) rs)) (eq-eqb r.index.file n h.0) ∙ ap (λ qs. r ∷ qs) (all_of n rs h.1)

abbrev pub references_in : NewBlob → List Reference
references_in b = map reference_for (stored_in b)

abbrev pub references_to : List NewBlob → List Reference
references_to bs = map reference_for (stored bs)

pub references_more : (b : NewBlob) (bs : List NewBlob) → references_to (b ∷ bs) ≡ references_in b ++ references_to bs
references_more b bs = map-append reference_for (stored_in b) (stored bs)

pub one_file : (file : ℕ) (qs : List BlobAt) → AllByRecursion (λ (r : Reference). r.index.file ≡ file) (map reference_for (map (stored_at file) qs))
one_file file [] = tt
one_file file (q ∷ qs) = (refl, one_file file qs)

-- what holds of the numbers of the files holds of the references' files
pub by_file : (P : ℕ → Type 0) (bs : List NewBlob) → AllByRecursion (λ b. P (new_number b)) bs → AllByRecursion (λ (r : Reference). P r.index.file) (references_to bs)
by_file P [] h = tt
by_file P (b ∷ bs) h =
    subst (AllByRecursion (λ (r : Reference). P r.index.file)) (sym (references_more b bs))
    (all_append (λ (r : Reference). P r.index.file) (references_in b) (references_to bs)
    (all_from (λ (r : Reference). r.index.file ≡ new_number b) (λ r. P r.index.file) (references_in b) (λ r e. subst P (sym e) h.0) (one_file (new_number b) (blobs_of b.records)))
    (by_file P bs h.1))

abbrev of_file : ℕ → Reference → Bool
of_file n r = r.index.file == n

pub references_found : (bs : List NewBlob) (b : NewBlob) → Ascends new_number bs → Among b bs → filter (λ r. r.index.file == new_number b) (references_to bs) ≡ references_in b
references_found [] b up h = absurd h
references_found (x ∷ bs) b up (inl is) =
    subst (λ (y : NewBlob). filter (of_file (new_number y)) (references_to (x ∷ bs)) ≡ references_in y) is
    (ap (filter (of_file (new_number x))) (references_more x bs)
    ∙ filter-append (of_file (new_number x)) (references_in x) (references_to bs)
    ∙ (λ i. all_of (new_number x) (references_in x) (one_file (new_number x) (blobs_of x.records)) i
    ++ none_of (new_number x) (references_to bs) (by_file (λ n. n ≢ new_number x) bs (all_from (λ y. new_number x < new_number y) (λ y. new_number y ≢ new_number x) bs (λ y lt e. omega (arith, lt, e)) up.0)) i)
    ∙ append-nil (references_in x))
references_found (x ∷ bs) b up (inr h) =
    let lt : new_number x < new_number b = all_at (λ y. new_number x < new_number y) bs b up.0 h in
    ap (filter (of_file (new_number b))) (references_more x bs)
    ∙ filter-append (of_file (new_number b)) (references_in x) (references_to bs)
    ∙ (λ i. none_of (new_number b) (references_in x) (all_from (λ (r : Reference). r.index.file ≡ new_number x) (λ r. r.index.file ≢ new_number b) (references_in x) (λ r e f. omega (arith, lt, e, f)) (one_file (new_number x) (blobs_of x.records))) i
    ++ references_found bs b up.1 h i)

-- ---- how many, and their bytes

abbrev pub sizes : List Reference → List ℕ
sizes rs = map (λ r. reference_bytes (length r.key) r.index) rs

pub count_in : (b : NewBlob) → length (references_in b) ≡ length b.records
count_in b = length_map reference_for (stored_in b) ∙ length_map (stored_at (new_number b)) (blobs_of b.records) ∙ count_placed 30 b.records
  where
    length_map : {A B : Type 0} (f : A → B) (xs : List A) → length (map f xs) ≡ length xs
    length_map f [] = refl
    length_map f (x ∷ xs) = ap suc (length_map f xs)

bytes_from : (file place : ℕ) (rs : List Record) → sum (sizes (map reference_for (map (stored_at file) (placed place rs)))) ≡ sum_by size_of rs
unfolding placed
bytes_from file place [] = refl
bytes_from file place (r ∷ rs) =
    sum_by-cons (λ n. n) (size_of r) (sizes (map reference_for (map (stored_at file) (placed (place + size_of r) rs))))
    ∙ ap (λ n. size_of r + n) (bytes_from file (place + size_of r) rs)
    ∙ sym (sum_by-cons size_of r rs)

pub bytes_in : (b : NewBlob) → sum (sizes (references_in b)) ≡ sum_by size_of b.records
bytes_in b = bytes_from (new_number b) 30 b.records

-- ---- they are apart

offsets : (file place : ℕ) (rs : List Record) → AllByRecursion (λ (r : Reference). place + 32 ≤ r.index.offset) (map reference_for (map (stored_at file) (placed place rs)))
offsets file place rs =
    all_of_map reference_for (λ (r : Reference). place + 32 ≤ r.index.offset) (map (stored_at file) (placed place rs))
    (all_of_map (stored_at file) (λ (s : Stored). place + 32 ≤ s.index.offset) (placed place rs) (behind place rs))

other_place : (a b : Reference) → (a.index.offset ≡ b.index.offset → ⊥) → same_record a b ≡ false
other_place a b n = ap (λ t. (a.index.file == b.index.file) && t) (not_eqb a.index.offset b.index.offset n) ∙ and_false (a.index.file == b.index.file)
  where
    and_false : (t : Bool) → (t && false) ≡ false
    and_false true = refl
    and_false false = refl

pub other_file : (a b : Reference) → (a.index.file ≡ b.index.file → ⊥) → same_record a b ≡ false
other_file a b n = ap (λ t. t && (a.index.offset == b.index.offset)) (not_eqb a.index.file b.index.file n)

apart_in : (file place : ℕ) (rs : List Record) → IsDistinct same_record (map reference_for (map (stored_at file) (placed place rs)))
unfolding placed IsDistinct
apart_in file place [] = tt
apart_in file place (r ∷ rs) = (
  all_from (λ (q : Reference). place + size_of r + 32 ≤ q.index.offset) (λ q. same_record (reference_for (stored_at file (first_at place r))) q ≡ false) (map reference_for (map (stored_at file) (placed (place + size_of r) rs)))
      (λ q le. other_place (reference_for (stored_at file (first_at place r))) q (λ e. omega (arith, le, e))) (offsets file (place + size_of r) rs),
  apart_in file (place + size_of r) rs,
)

pub all_apart : (bs : List NewBlob) → Ascends new_number bs → IsDistinct same_record (references_to bs)
unfolding IsDistinct
all_apart [] up = tt
all_apart (b ∷ bs) up =
    subst (IsDistinct same_record) (sym (references_more b bs))
    (distinct_join same_record (references_in b) (references_to bs) (apart_in (new_number b) 30 b.records) (all_apart bs up.1)
    (λ x y h k.
    let one : x.index.file ≡ new_number b = all_at (λ (r : Reference). r.index.file ≡ new_number b) (references_in b) x (one_file (new_number b) (blobs_of b.records)) h in
    let more : new_number b < y.index.file = all_at (λ (r : Reference). new_number b < r.index.file) (references_to bs) y (by_file (λ n. new_number b < n) bs up.0) k in
    other_file x y (λ e. omega (arith, one, more, e))))

-- ---- the oldest file is the first

min_left : (a b : ℕ) → a ≤ b → min a b ≡ a
min_left a b h = grind arith

fold_least : (n : ℕ) (ns : List ℕ) → AllByRecursion (λ m. n ≤ m) ns → fold min n ns ≡ n
fold_least n [] h = refl
fold_least n (m ∷ ms) h = ap (λ k. fold min k ms) (min_left n m h.0) ∙ fold_least n ms h.1

pub least_is : (n : ℕ) (rs : List Reference) → 1 ≤ length rs → AllByRecursion (λ (r : Reference). n ≤ r.index.file) rs → ((r : Reference) (qs : List Reference) → rs ≡ r ∷ qs → r.index.file ≡ n) → unwrap_or (least_of (map (λ r. r.index.file) rs)) 0 ≡ n
least_is n [] some h first = absurd (omega arith)
least_is n (r ∷ rs) some h first =
    let e : r.index.file ≡ n = first r rs refl in
    fold_least r.index.file (map (λ q. q.index.file) rs) (subst (λ (m : ℕ). AllByRecursion (λ k. m ≤ k) (map (λ q. q.index.file) rs)) (sym e) (all_of_map (λ (q : Reference). q.index.file) (λ k. n ≤ k) rs h.1)) ∙ e
