-- Records and their batches.
use Rattle.std.proofs.Common.{◌≡◌, ℕ, zero, suc, ◌+◌, List, [], ◌∷◌, ◌++◌, length, take, map, Bool, true, false, refl, sym, ◌∙◌, ap, arith, Option, Some, None}
use Rattle.std.specs.Prelude.{cond, ◌==◌, Ok, Err, Result}
use Rattle.std.proofs.lemmas.Bool.{eqb-true}
use Rattle.bl_entry.specs.Batches.{Batch}
use Rattle.bl_entry.specs.Reading.{read_batch}
use Rattle.bl_entry.specs.Records.{and_batch, batch_behind, batches_of}
use Rattle.bl_entry.specs.declared.decode.BadBatch.{BadBatch}
use Rattle.bl_entry.proofs.ItemLemmas.{some_is}

-- the first record is the first batch, and the others follow
pub record First (bytes : List ℕ) (records : List (List ℕ)) (before last : ℕ) (batches : List Batch) : Type 0 where
  pub b : Batch
  pub more : List Batch
  pub read : read_batch bytes ≡ Ok b
  pub behind : b.first ≡ before + 1
  pub rest : batches_of records (before + length b.operations) ≡ Some (more, last)
  pub is : batches ≡ b ∷ more

first_rest : (bytes : List ℕ) (records : List (List ℕ)) (before last : ℕ) (batches : List Batch) (b : Batch) (o : Option (List Batch × ℕ)) → read_batch bytes ≡ Ok b → b.first ≡ before + 1
    → batches_of records (before + length b.operations) ≡ o → and_batch b o ≡ Some (batches, last) → First bytes records before last batches
first_rest bytes records before last batches b None r f q e = absurd cc
first_rest bytes records before last batches b (Some more) r f q e =
    let p : ◌≡◌ {A = List Batch × ℕ} (b ∷ more.0, more.1) (batches, last) = some_is e in
    let l : more.1 ≡ last = ap (λ x. x.1) p in
    record { b = b; more = more.0; read = r; behind = f; rest = q ∙ ap (λ n. Some (more.0, n)) l; is = sym (ap (λ x. x.0) p) }

first_test : (bytes : List ℕ) (records : List (List ℕ)) (before last : ℕ) (batches : List Batch) (b : Batch) (t : Bool) → read_batch bytes ≡ Ok b → (b.first == before + 1) ≡ t
    → cond t (and_batch b (batches_of records (before + length b.operations))) None ≡ Some (batches, last) → First bytes records before last batches
first_test bytes records before last batches b true r t e = first_rest bytes records before last batches b (batches_of records (before + length b.operations)) r (eqb-true b.first (before + 1) t) refl e
first_test bytes records before last batches b false r t e = absurd cc

first_read : (bytes : List ℕ) (records : List (List ℕ)) (before last : ℕ) (batches : List Batch) (x : Result Batch BadBatch) → read_batch bytes ≡ x
    → batch_behind before x (λ b. and_batch b (batches_of records (before + length b.operations))) ≡ Some (batches, last) → First bytes records before last batches
first_read bytes records before last batches (Err fault) r e = absurd cc
first_read bytes records before last batches (Ok b) r e = first_test bytes records before last batches b (b.first == before + 1) r refl e

pub first_of : (bytes : List ℕ) (records : List (List ℕ)) (before last : ℕ) (batches : List Batch) → batches_of (bytes ∷ records) before ≡ Some (batches, last) → First bytes records before last batches
unfolding batches_of
first_of bytes records before last batches e = first_read bytes records before last batches (read_batch bytes) refl e

pub none_of : (before last : ℕ) (batches : List Batch) → batches_of [] before ≡ Some (batches, last) → (batches ≡ []) × (last ≡ before)
unfolding batches_of
none_of before last batches e =
    let p : ◌≡◌ {A = List Batch × ℕ} ([], before) (batches, last) = some_is e in
    (sym (ap (λ x. x.0) p), sym (ap (λ x. x.1) p))

-- as many batches as records
pub as_many : (records : List (List ℕ)) (before last : ℕ) (batches : List Batch) → batches_of records before ≡ Some (batches, last) → length batches ≡ length records
as_many [] before last batches e = ap length (none_of before last batches e).0
as_many (bytes ∷ records) before last batches e =
    let f = first_of bytes records before last batches e in
    let more : length f.more ≡ length records = as_many records (before + length f.b.operations) last f.more f.rest in
    let is : length batches ≡ suc (length f.more) = ap length f.is in
    is ∙ ap suc more

-- ---- lists

pub map_take : {X Y : Type 0} (f : X → Y) (n : ℕ) (xs : List X) → take n (map f xs) ≡ map f (take n xs)
map_take f zero xs = refl
map_take f (suc n) [] = refl
map_take f (suc n) (x ∷ xs) = ap (λ r. f x ∷ r) (map_take f n xs)

pub take_mapped : {X Y : Type 0} (f : X → Y) (xs : List X) → take (length xs) (map f xs) ≡ map f xs
take_mapped f [] = refl
take_mapped f (x ∷ xs) = ap (λ r. f x ∷ r) (take_mapped f xs)

pub take_behind : {X : Type 0} (xs ys : List X) (n : ℕ) → take (length xs + n) (xs ++ ys) ≡ xs ++ take n ys
take_behind [] ys n = let e : 0 + n ≡ n = omega arith in ap (λ k. take k ys) e
take_behind (x ∷ xs) ys n =
    let e : suc (length xs) + n ≡ suc (length xs + n) = omega arith in
    ap (λ k. take k (x ∷ xs ++ ys)) e ∙ ap (λ r. x ∷ r) (take_behind xs ys n)

pub take_whole : {X : Type 0} (xs : List X) → take (length xs) xs ≡ xs
take_whole [] = refl
take_whole (x ∷ xs) = ap (λ r. x ∷ r) (take_whole xs)
