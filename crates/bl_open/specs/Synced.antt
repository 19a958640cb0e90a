-- A disk whose tables and blob files may have been found unsynced.
use Rattle.std.specs.Prelude.{◌≡◌, ◌⊎◌, ℕ, ◌<◌, List, [], ◌∷◌, if◌then◌else◌}
use Rattle.std.specs.List.{AllByRecursion}
use Rattle.std.specs.Option.{option_map}
use Rattle.bl_site.specs.Disk.{Disk, File, Name}
use Rattle.bl_code.specs.Order.{same_bytes}
use Rattle.bl_names.specs.declared.name.FileName.TheVariants.{Table, Blob}
use Rattle.bl_names.specs.Names.{IsNumber, name_of}

-- the file as if it had been synced as it reads
abbrev pub synced_file : File → File
synced_file x = record { read = x.read; front = x.read; handed = [] }

-- the disk as if this file had been synced, and as if the files of all these names had been
abbrev pub with_synced : Name → Disk → Disk
with_synced synced disk name = if same_bytes synced name then option_map synced_file (disk name) else disk name

abbrev pub as_synced : List Name → Disk → Disk
as_synced [] disk = disk
as_synced (name ∷ more) disk = with_synced name (as_synced more disk)

-- the name is that of a table or a blob file with a number below this one
abbrev pub IsFileBelow : ℕ → Name → Type 0
IsFileBelow next name = (n : ℕ) × IsNumber n × (n < next) × ((name ≡ name_of (Table n)) ⊎ (name ≡ name_of (Blob n)))

abbrev pub AreFilesBelow : ℕ → List Name → Type 0
AreFilesBelow next names = AllByRecursion (IsFileBelow next) names
