-- The map of a folder, as it is given to readers.
use Rattle.std.specs.Prelude.{ℕ, List, ◌++◌, take, drop, Option, None, Some}
use Rattle.bl_site.specs.Disk.{Folder}
use Rattle.bl_entry.specs.declared.key.Entry.{Entry}
use Rattle.bl_entry.specs.Batches.{Batch}
use Rattle.bl_entry.specs.Revisions.{Map}
use Rattle.bl_folder.specs.Flushes.{Follow, IsMemoryOf}
use Rattle.bl_folder.specs.Stands.{StandsLive}
use Rattle.bl_read.specs.Giving.{Gives, memories_of}

-- The memory in use has exactly what these batches write or, where another waits, that has exactly what some first ones write, and the one in use what the others do.
abbrev pub AreMemoriesOf : List Batch → Option (List Entry) → List Entry → Type 0
AreMemoriesOf batches None in_use = IsMemoryOf batches in_use
AreMemoriesOf batches (Some waiting) in_use = (count : ℕ) × IsMemoryOf (take count batches) waiting × IsMemoryOf (drop count batches) in_use

-- Where a folder stands for a map, and the memories have what the batches in its logs write, and perhaps further ones that follow these, its version and these memories give exactly that map at its last sequence.
abbrev pub SoundFoldersGiveTheirMap : Type 0
SoundFoldersGiveTheirMap = (folder : Folder) (m : Map) (s : StandsLive folder m) (more : List Batch) (waiting : Option (List Entry)) (in_use : List Entry)
    → Follow s.holding.last more → AreMemoriesOf (s.holding.batches ++ more) waiting in_use
    → Gives folder (record { version = s.holding.live.version; memories = memories_of waiting in_use }) s.holding.last m
