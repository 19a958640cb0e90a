-- What the lines of a script write.
use Rattle.std.specs.Prelude.{ℕ, ◌+◌, List, [], ◌∷◌, length, sum_by, Option, None, Some}
use Rattle.bl_entry.specs.Batches.{Batch, put_of, deletion_of}
use Rattle.bl_entry.specs.Revisions.{Map, after_operations}
use Rattle.bl_entry.specs.declared.batch.Operation.{Operation}
use Rattle.bl_script.specs.declared.command.Operation.{Operation as Ordered}
use Rattle.bl_script.specs.declared.command.Operation.TheVariants as ordered

-- operations that are written at once
abbrev pub Write : Type 0
Write = List Operation

-- an operation of a script as it is written
abbrev pub operation : Ordered → Operation
operation (ordered.Put key value) = put_of key value
operation (ordered.Del key) = deletion_of key

-- the map after some writes
unfoldable pub after_writes : List Write → Map → Map
after_writes [] m = m
after_writes (operations ∷ more) m = after_writes more (after_operations operations m)

-- how many operations were written
unfoldable pub operations_in : List Write → ℕ
operations_in [] = 0
operations_in (operations ∷ more) = length operations + operations_in more

-- the batches of some writes: each operation takes a sequence, the first one this
unfoldable pub numbered : ℕ → List Write → List Batch
numbered first [] = []
numbered first (operations ∷ more) = record { first = first; operations = operations } ∷ numbered (first + length operations) more

abbrev pub value_size : Option (List ℕ) → ℕ
value_size None = 0
value_size (Some value) = length value

-- the bytes that a write takes in memory: of each operation the key, 8 and the value
abbrev pub bytes_of : Write → ℕ
bytes_of operations = sum_by (λ o. length o.key + 8 + value_size o.put) operations
