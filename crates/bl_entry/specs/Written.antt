-- The entries that batches write.
use Rattle.std.specs.Prelude.{◌≡◌, ℕ, ◌+◌, List, [], ◌∷◌, flat_map, map, Option, None, Some}
use Rattle.bl_entry.specs.Batches.{Batch}
use Rattle.bl_entry.specs.Latest.{revision_of}
use Rattle.bl_entry.specs.Revisions.{revisions_of}
use Rattle.bl_entry.specs.declared.batch.Operation.{Operation}
use Rattle.bl_entry.specs.declared.key.Kind.TheVariants.{Deletion, Value}
use Rattle.bl_entry.specs.declared.key.Entry.{Entry}

-- a key at a sequence, and what is put there, if anything
abbrev pub entry : List ℕ → ℕ → Option (List ℕ) → Entry
entry user seq None = record { key = record { user = user; seq = seq; kind = Deletion }; value = [] }
entry user seq (Some value) = record { key = record { user = user; seq = seq; kind = Value }; value = value }

-- the entries of operations, the first of which has this sequence
unfoldable pub entries_from : ℕ → List Operation → List Entry
entries_from seq [] = []
entries_from seq (o ∷ more) = entry o.key seq o.put ∷ entries_from (seq + 1) more

abbrev pub entries_of : List Batch → List Entry
entries_of batches = flat_map (λ b. entries_from b.first b.operations) batches

-- They tell what the batches tell.
abbrev pub EntriesAreRevisions : Type 0
EntriesAreRevisions = (batches : List Batch) → map revision_of (entries_of batches) ≡ revisions_of batches
