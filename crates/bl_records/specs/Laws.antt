-- What written files read as, also once the power was cut. A remnant is what a cut leaves of one file.
use Rattle.std.specs.Prelude.{◌≡◌, ◌⊎◌, ℕ, false, List, [], ◌∷◌, ◌++◌, length, Some}
use Rattle.bl_site.specs.Disk.{Disk, File, Cut, IsCut, IsRemnant}
use Rattle.bl_site.specs.Calls.{DoneOrNot}
use Rattle.bl_log.specs.Log.{records}
use Rattle.bl_log.specs.Layout.{layout, written}
use Rattle.bl_log.specs.Written.{OnlyWritten}
use Rattle.bl_names.specs.Names.{name_of}
use Rattle.bl_names.specs.declared.name.FileName.{FileName}
use Rattle.bl_records.specs.Chance.{IsOnlyWritten}
use Rattle.bl_records.specs.WrittenFile.{WrittenFile}
use Rattle.bl_records.specs.Writing.{AppendsPartly}
use Rattle.bl_records.specs.Held.{HasWritten, HoldsRecords, ReadAsFirst, ReadsAs, ReadsFirst}

-- A file reads as the records written to it.
abbrev pub FilesAreRead : Type 0
FilesAreRead = (payloads : List (List ℕ)) → records (written 0 payloads) ≡ payloads

-- Unless a torn fragment's checksum matches by chance, a remnant reads as the first of the records, and has each that is synced.
abbrev pub RemnantsReadAsFronts : Type 0
RemnantsReadAsFronts = (file : File) (payloads : List (List ℕ)) (synced : ℕ) (bytes : List ℕ)
    → HasWritten file payloads synced → IsRemnant file bytes → OnlyWritten bytes (written 0 payloads) → ReadAsFirst bytes payloads synced

-- Where the records are all synced, it is the file as it was written.
abbrev pub SyncedRemnantsAreWhole : Type 0
SyncedRemnantsAreWhole = (file : File) (payloads : List (List ℕ)) (bytes : List ℕ)
    → HasWritten file payloads (length payloads) → IsRemnant file bytes → bytes ≡ written 0 payloads

-- In each cut of the folder the file reads as the first of its records so, unless such a checksum matches.
abbrev pub CutFilesReadAsFronts : Type 0
CutFilesReadAsFronts = (disk : Disk) (writer : WrittenFile) (file : FileName) (payloads : List (List ℕ)) (synced : ℕ) (told : List ℕ) (c : Cut)
    → writer.name ≡ name_of file → HoldsRecords disk writer payloads synced → IsCut disk told c → IsOnlyWritten c.folder c.written file
    → ReadsFirst c.folder writer.name payloads synced

-- Each cut leaves a file whose records are all synced as it was written.
abbrev pub SyncedFilesAreLeft : Type 0
SyncedFilesAreLeft = (disk : Disk) (writer : WrittenFile) (payloads : List (List ℕ)) (told : List ℕ) (c : Cut)
    → HoldsRecords disk writer payloads (length payloads) → IsCut disk told c → c.folder writer.name ≡ Some (written 0 payloads)

-- While one record more is appended to a synced file and then synced, a cut leaves the file without it or with it.
abbrev pub CutAppendsReadAsFronts : Type 0
CutAppendsReadAsFronts = (disk during : Disk) (writer : WrittenFile) (file : FileName) (payloads : List (List ℕ)) (payload : List ℕ) (told : List ℕ) (c : Cut)
    → writer.failed ≡ false → writer.name ≡ name_of file → HoldsRecords disk writer payloads (length payloads)
    → DoneOrNot (AppendsPartly writer.name (layout writer.place payload)) disk during → IsCut during told c → IsOnlyWritten c.folder c.written file
    → ReadsAs c.folder writer.name payloads ⊎ ReadsAs c.folder writer.name (payloads ++ payload ∷ [])
