-- A memory table that is filled with the batches of a list of records.
use Rattle.std.proofs.Common.{◌≡◌, ℕ, ◌+◌, List, [], ◌∷◌, ◌++◌, length, Bool, true, false, refl, sym, ◌∙◌, ap, subst, append_assoc, append-nil, Option, Some, None}
use Rattle.std.specs.Prelude.{cond, ◌==◌, Ok, Err, Result}
use Rattle.std.proofs.lemmas.Bool.{eqb-true}
use Rattle.std.proofs.lemmas.List.Concat.{flat_map-cons}
use Rattle.bl_entry.specs.Batches.{Batch}
use Rattle.bl_entry.specs.Keys.{KeysDiffer}
use Rattle.bl_entry.specs.Reading.{read_batch}
use Rattle.bl_entry.specs.Records.{and_batch, batch_behind, batches_of}
use Rattle.bl_entry.specs.declared.decode.BadBatch.{BadBatch}
use Rattle.bl_entry.specs.declared.key.Entry.{Entry}
use Rattle.bl_entry.specs.Written.{entries_from, entries_of}
use Rattle.bl_entry.proofs.ItemLemmas.{some_is}
use Rattle.bl_memtab.specs.Filled.{AreFree, BatchesAreHeld, Holds, filled}
use Rattle.bl_memtab.specs.Tables.{with_entry}
use Rattle.bl_memtab.proofs.FilledLemmas.{operations_are_held}

-- the first record is the first batch, and the others follow
pub record First (bytes : List ℕ) (records : List (List ℕ)) (before last : ℕ) (batches : List Batch) : Type 0 where
  pub b : Batch
  pub more : List Batch
  pub read : read_batch bytes ≡ Ok b
  pub behind : b.first ≡ before + 1
  pub rest : batches_of records (before + length b.operations) ≡ Some (more, last)
  pub is : batches ≡ b ∷ more

first_rest : (bytes : List ℕ) (records : List (List ℕ)) (before last : ℕ) (batches : List Batch) (b : Batch) (o : Option (List Batch × ℕ)) → read_batch bytes ≡ Ok b → b.first ≡ before + 1
    → batches_of records (before + length b.operations) ≡ o → and_batch b o ≡ Some (batches, last) → First bytes records before last batches
first_rest bytes records before last batches b None r f q e = cc e
first_rest bytes records before last batches b (Some more) r f q e =
    let p : ◌≡◌ {A = List Batch × ℕ} (b ∷ more.0, more.1) (batches, last) = some_is e in
    let l : more.1 ≡ last = ap (λ x. x.1) p in
    record { b = b; more = more.0; read = r; behind = f; rest = q ∙ ap (λ n. Some (more.0, n)) l; is = sym (ap (λ x. x.0) p) }

first_test : (bytes : List ℕ) (records : List (List ℕ)) (before last : ℕ) (batches : List Batch) (b : Batch) (t : Bool) → read_batch bytes ≡ Ok b → (b.first == before + 1) ≡ t
    → cond t (and_batch b (batches_of records (before + length b.operations))) None ≡ Some (batches, last) → First bytes records before last batches
first_test bytes records before last batches b true r t e = first_rest bytes records before last batches b (batches_of records (before + length b.operations)) r (eqb-true b.first (before + 1) t) refl e
first_test bytes records before last batches b false r t e = cc e

first_read : (bytes : List ℕ) (records : List (List ℕ)) (before last : ℕ) (batches : List Batch) (x : Result Batch BadBatch) → read_batch bytes ≡ x
    → batch_behind before x (λ b. and_batch b (batches_of records (before + length b.operations))) ≡ Some (batches, last) → First bytes records before last batches
first_read bytes records before last batches (Err fault) r e = cc e
first_read bytes records before last batches (Ok b) r e = first_test bytes records before last batches b (b.first == before + 1) r refl e

pub first_of : (bytes : List ℕ) (records : List (List ℕ)) (before last : ℕ) (batches : List Batch) → batches_of (bytes ∷ records) before ≡ Some (batches, last) → First bytes records before last batches
unfolding batches_of
first_of bytes records before last batches e = first_read bytes records before last batches (read_batch bytes) refl e

pub none_of : (before last : ℕ) (batches : List Batch) → batches_of [] before ≡ Some (batches, last) → (batches ≡ []) × (last ≡ before)
unfolding batches_of
none_of before last batches e =
    let p : ◌≡◌ {A = List Batch × ℕ} ([], before) (batches, last) = some_is e in
    (sym (ap (λ x. x.0) p), sym (ap (λ x. x.1) p))

-- ---- one list behind another

filled_append : (es xs ys : List Entry) → filled es (xs ++ ys) ≡ filled (filled es xs) ys
filled_append es [] ys = refl
filled_append es (x ∷ xs) ys = filled_append (with_entry x es) xs ys

free_append : (es xs ys : List Entry) → AreFree es xs → AreFree (filled es xs) ys → AreFree es (xs ++ ys)
free_append es [] ys h k = k
free_append es (x ∷ xs) ys h k = (h.0, free_append (with_entry x es) xs ys h.1 k)

-- these entries are free, one after the other, and are then held
abbrev AreHeld : List Entry → List Entry → ℕ → List Entry → Type 0
AreHeld es written last xs = AreFree es xs × Holds (filled es xs) (written ++ xs) last

both_held : (es written xs ys : List Entry) (last : ℕ) → AreFree es xs → AreHeld (filled es xs) (written ++ xs) last ys → AreHeld es written last (xs ++ ys)
both_held es written xs ys last free h =
    let P : List Entry → Type 0 = λ t. Holds t (written ++ (xs ++ ys)) last in
    let Q : List Entry → Type 0 = λ w. Holds (filled (filled es xs) ys) w last in
    (free_append es xs ys free h.0, subst P (sym (filled_append es xs ys)) (subst Q (append_assoc written xs ys) h.1))

pub batches_are_held : KeysDiffer → BatchesAreHeld
batches_are_held differ [] before last batches es written e h =
    let n = none_of before last batches e in
    let P : List Batch → Type 0 = λ bs. AreHeld es written last (entries_of bs) in
    let Q : ℕ → Type 0 = λ l. AreHeld es written l [] in
    let R : List Entry → Type 0 = λ w. Holds es w before in
    subst P (sym n.0) (subst Q (sym n.1) (tt, subst R (sym (append-nil written)) h))
batches_are_held differ (bytes ∷ records) before last batches es written e h =
    let f = first_of bytes records before last batches e in
    let xs : List Entry = entries_from (before + 1) f.b.operations in
    let one = operations_are_held differ es written before f.b.operations h in
    let rest = batches_are_held differ records (before + length f.b.operations) last f.more (filled es xs) (written ++ xs) f.rest one.1 in
    let all : AreHeld es written last (xs ++ entries_of f.more) = both_held es written xs (entries_of f.more) last one.0 rest in
    let same : xs ++ entries_of f.more ≡ entries_of (f.b ∷ f.more) =
    ap (λ n. entries_from n f.b.operations ++ entries_of f.more) (sym f.behind)
    ∙ sym (flat_map-cons (λ (c : Batch). entries_from c.first c.operations) f.b f.more) in
    let P : List Batch → Type 0 = λ bs. AreHeld es written last (entries_of bs) in
    subst P (sym f.is) (subst (AreHeld es written last) same all)
