-- Files are sealed one by one.
use Rattle.std.proofs.Common.{◌≡◌, ℕ, zero, suc, ◌+◌, ◌-◌, ◌<◌, ◌≤◌, nat_lt, nat_le, Bool, true, false, List, [], ◌∷◌, ◌++◌, length, refl, sym, ◌∙◌, ap, subst, arith, None, length-append}
use Rattle.std.specs.Prelude.{map, slice_get, if◌then◌else◌}
use Rattle.std.proofs.lemmas.Bool.{ltb-true, ltb-false, lt-ltb, le-leb}
use Rattle.bl_out.specs.Outputs.{Out, OutBlob, OutTable, TableOf, BlobOf, close_blob, close_table, files_of, finished, on_place, sealed_next}
use Rattle.bl_out.specs.Made.{SealsNext, SealsToTheEnd, on_first, sealed_to}

-- the next one is changed too
place_next : {A : Type 0} (f : A → A) (k : ℕ) (xs : List A) → on_place f k (on_first f k xs) ≡ on_first f (suc k) xs
place_next f zero [] = refl
place_next f zero (x ∷ xs) = refl
place_next f (suc k) [] = refl
place_next f (suc k) (x ∷ xs) = ap (λ ys. f x ∷ ys) (place_next f k xs)

length_first : {A : Type 0} (f : A → A) (k : ℕ) (xs : List A) → length (on_first f k xs) ≡ length xs
length_first f zero xs = refl
length_first f (suc k) [] = refl
length_first f (suc k) (x ∷ xs) = ap suc (length_first f k xs)

first_all : {A : Type 0} (f : A → A) (k : ℕ) (xs : List A) → length xs ≤ k → on_first f k xs ≡ map f xs
first_all f zero [] h = refl
first_all f zero (x ∷ xs) h = absurd (omega arith)
first_all f (suc k) [] h = refl
first_all f (suc k) (x ∷ xs) h = ap (λ ys. f x ∷ ys) (first_all f k xs (omega arith))

get_end : {A : Type 0} (xs : List A) (k : ℕ) → length xs ≤ k → slice_get xs k ≡ None
get_end [] k h = refl
get_end (x ∷ xs) zero h = absurd (omega arith)
get_end (x ∷ xs) (suc k) h = get_end xs k (omega arith)

length_map : {A B : Type 0} (g : A → B) (xs : List A) → length (map g xs) ≡ length xs
length_map g [] = refl
length_map g (x ∷ xs) = ap suc (length_map g xs)

length_files : (ts : List OutTable) (bs : List OutBlob) → length (map TableOf ts ++ map BlobOf bs) ≡ length ts + length bs
length_files ts bs = length-append (map TableOf ts) (map BlobOf bs) ∙ (λ i. length_map TableOf ts i + length_map BlobOf bs i)

-- the test of the length is the one of all files
module _ (k : ℕ) (o : Out) (less : k < length (files_of o)) where
  size : length (files_of (sealed_to k o)) ≡ length (files_of o)
  size =
      length_files (on_first close_table k o.tables) (on_first close_blob (k - length o.tables) o.blobs)
      ∙ (λ i. length_first close_table k o.tables i + length_first close_blob (k - length o.tables) o.blobs i) ∙ sym (length_files o.tables o.blobs)

  some : nat_lt k (length (files_of (sealed_to k o))) ≡ true
  some = lt-ltb k (length (files_of (sealed_to k o))) (subst (λ (n : ℕ). k < n) (sym size) less)

  abbrev tables_now : List OutTable
  tables_now = on_first close_table k o.tables

  abbrev blobs_now : List OutBlob
  blobs_now = on_first close_blob (k - length o.tables) o.blobs

  -- where all tables are sealed a blob file is closed, and else none
  blobs_by : (b : Bool) → nat_lt k (length o.tables) ≡ b
      → (if nat_le (length tables_now) k then on_place close_blob (k - length tables_now) blobs_now else blobs_now) ≡ on_first close_blob (suc k - length o.tables) o.blobs
  blobs_by true t =
      let lt : k < length o.tables = ltb-true k (length o.tables) t in
      let same : length tables_now ≡ length o.tables = length_first close_table k o.tables in
      let no : nat_le (length tables_now) k ≡ false = grind (arith, same, lt) in
      let none : k - length o.tables ≡ suc k - length o.tables = omega arith in
      (λ i. if no i then on_place close_blob (k - length tables_now) blobs_now else blobs_now) ∙ ap (λ n. on_first close_blob n o.blobs) none
  blobs_by false t =
      let le : length o.tables ≤ k = ltb-false k (length o.tables) t in
      let same : length tables_now ≡ length o.tables = length_first close_table k o.tables in
      let yes : nat_le (length tables_now) k ≡ true = le-leb (length tables_now) k (omega arith) in
      let next : suc (k - length o.tables) ≡ suc k - length o.tables = omega arith in
      (λ i. if yes i then on_place close_blob (k - same i) blobs_now else blobs_now)
      ∙ place_next close_blob (k - length o.tables) o.blobs ∙ ap (λ n. on_first close_blob n o.blobs) next

  seals_one : sealed_next (sealed_to k o) ≡ sealed_to (suc k) o
  seals_one =
      let one_more : k + 1 ≡ suc k = omega arith in
      (λ i. if some i
      then record o {
        tables = on_place close_table k tables_now;
        blobs = if nat_le (length tables_now) k then on_place close_blob (k - length tables_now) blobs_now else blobs_now;
        sealed = k + 1;
      }
      else sealed_to k o)
      ∙ (λ i. record o { tables = place_next close_table k o.tables i; blobs = blobs_by (nat_lt k (length o.tables)) refl i; sealed = one_more i })

pub seals_next : SealsNext
seals_next k o less = seals_one k o less

pub seals_to_the_end : SealsToTheEnd
seals_to_the_end o =
    let size : length (files_of o) ≡ length o.tables + length o.blobs = length_files o.tables o.blobs in
    let now : length (files_of (finished o)) ≡ length (map close_table o.tables) + length (map close_blob o.blobs) = length_files (map close_table o.tables) (map close_blob o.blobs) in
    let ts : length (map close_table o.tables) ≡ length o.tables = length_map close_table o.tables in
    let bs : length (map close_blob o.blobs) ≡ length o.blobs = length_map close_blob o.blobs in
    let tables_end : length o.tables ≤ length (files_of o) = omega (arith, size) in
    let blobs_end : length o.blobs ≤ length (files_of o) - length o.tables = omega (arith, size) in (
      get_end (files_of (finished o)) (length (files_of o)) (omega (arith, size, now, ts, bs)),
      λ i. record o { tables = first_all close_table (length (files_of o)) o.tables tables_end i; blobs = first_all close_blob (length (files_of o) - length o.tables) o.blobs blobs_end i; sealed = length (files_of o) },
    )
