-- A record, read as a batch behind the last sequence.
use Rattle.std.proofs.Common.{◌≡◌, ℕ, ◌+◌, List, [], ◌∷◌, length, Some, None, Ok, Err, refl}
use Rattle.std.proofs.lemmas.Bool.{eq-eqb, ne_eqb}
use Rattle.bl_entry.specs.Batches.{Batch}
use Rattle.bl_entry.specs.Reading.{read_batch}
use Rattle.bl_entry.specs.Records.{batches_of}
use Rattle.bl_entry.specs.declared.decode.BadBatch.{BadBatch}

pub none_read : (payload : List ℕ) (last : ℕ) (fault : BadBatch) → read_batch payload ≡ Err fault → batches_of (payload ∷ []) last ≡ None
unfolding batches_of
none_read payload last fault e = rw e refl

pub other_first : (payload : List ℕ) (last : ℕ) (b : Batch) → read_batch payload ≡ Ok b → (b.first ≡ last + 1 → ⊥) → batches_of (payload ∷ []) last ≡ None
unfolding batches_of
other_first payload last b e other = rw (e, ne_eqb b.first (last + 1) other) refl

pub next_read : (payload : List ℕ) (last : ℕ) (b : Batch) → read_batch payload ≡ Ok b → b.first ≡ last + 1 → batches_of (payload ∷ []) last ≡ Some (b ∷ [], last + length b.operations)
unfolding batches_of
next_read payload last b e same = rw (e, eq-eqb b.first (last + 1) same) refl
