-- Memories that are filled with the entries of batches.
use Rattle.std.specs.Prelude.{◌≡◌, ℕ, ◌+◌, ◌^◌, ◌≤◌, List, length, Some}
use Rattle.std.specs.List.{AllByRecursion}
use Rattle.bl_code.specs.Numbers.{IsBytes}
use Rattle.bl_entry.specs.declared.key.Entry.{Entry}
use Rattle.bl_entry.specs.Batches.{Batch, IsOperation}
use Rattle.bl_entry.specs.Records.{batches_of}
use Rattle.bl_entry.specs.Written.{entries_of}
use Rattle.bl_memtab.specs.Filled.{Holds}
use Rattle.bl_folder.specs.Flushes.{IsMemoryOf}

-- its operations are in bounds, and so are their sequences
pub record IsInBounds (b : Batch) : Type 0 where
  pub operations : AllByRecursion IsOperation b.operations
  pub sequences : 1 ≤ length b.operations → b.first + length b.operations ≤ 2 ^ 56

-- The batches of records are in bounds.
abbrev pub BatchesAreInBounds : Type 0
BatchesAreInBounds = (records : List (List ℕ)) (before last : ℕ) (batches : List Batch) → AllByRecursion IsBytes records → batches_of records before ≡ Some (batches, last)
    → AllByRecursion IsInBounds batches

-- A memory table that holds such batches is a memory of them.
abbrev pub HeldIsMemory : Type 0
HeldIsMemory = (batches : List Batch) (memory : List Entry) (last : ℕ) → AllByRecursion IsInBounds batches → Holds memory (entries_of batches) last → IsMemoryOf batches memory
