-- What manifests read as, also once the power was cut, and which bytes restore something.
use Rattle.std.specs.Prelude.{◌≡◌, ◌⊎◌, ℕ, false, List, [], ◌∷◌, ◌++◌, length, Some}
use Rattle.bl_site.specs.Disk.{Disk, Cut, IsCut, folder_of}
use Rattle.bl_site.specs.Calls.{DoneOrNot}
use Rattle.bl_names.specs.Names.{manifest_name}
use Rattle.bl_names.specs.declared.name.FileName.TheVariants.{Manifest}
use Rattle.bl_records.specs.Chance.{IsOnlyWritten}
use Rattle.bl_edit.specs.declared.edit.Edit.{Edit}
use Rattle.bl_build.specs.Restoring.{Restored}
use Rattle.bl_manifest.specs.ManifestFile.{ManifestFile, record_bytes}
use Rattle.bl_records.specs.Writing.{AppendsPartly}
use Rattle.bl_manifest.specs.Held.{Edits, AreReadBack, manifest_of, HoldsEdits, ReadsEdits, ReadsFirst}
use Rattle.bl_manifest.specs.Restores.{Restores, IsFaulty}

-- A cut leaves of a manifest the first of its edits, at least the synced ones.
abbrev pub CutManifestsReadAsFronts : Type 0
CutManifestsReadAsFronts = (disk : Disk) (manifest : ManifestFile) (edits : Edits) (synced : ℕ) (told : List ℕ) (c : Cut)
    → HoldsEdits disk manifest edits synced → IsCut disk told c → IsOnlyWritten c.folder c.written (Manifest manifest.number) → ReadsFirst c.folder manifest.number edits synced

-- While one edit more is appended and synced, a cut leaves the manifest without it or with it.
abbrev pub CutAppendsReadAsFronts : Type 0
CutAppendsReadAsFronts = (disk during : Disk) (manifest : ManifestFile) (edits : Edits) (synced : ℕ) (e : Edit) (told : List ℕ) (c : Cut)
    → manifest.failed ≡ false → HoldsEdits disk manifest edits synced → AreReadBack (e ∷ [])
    → DoneOrNot (AppendsPartly (manifest_name manifest.number) (record_bytes manifest.place e)) disk during
    → IsCut during told c → IsOnlyWritten c.folder c.written (Manifest manifest.number)
    → ReadsEdits c.folder manifest.number edits ⊎ ReadsEdits c.folder manifest.number (edits ++ e ∷ [])

-- It leaves a synced manifest as it was written.
abbrev pub SyncedManifestsAreLeft : Type 0
SyncedManifestsAreLeft = (disk : Disk) (manifest : ManifestFile) (edits : Edits) (told : List ℕ) (c : Cut)
    → HoldsEdits disk manifest edits (length edits) → IsCut disk told c
    → (c.folder (manifest_name manifest.number) ≡ Some (manifest_of edits)) × ReadsEdits c.folder manifest.number edits

-- A manifest that has not failed reads as its edits.
abbrev pub ManifestsAreRead : Type 0
ManifestsAreRead = (disk : Disk) (manifest : ManifestFile) (edits : Edits) (synced : ℕ) → manifest.failed ≡ false
    → HoldsEdits disk manifest edits synced → ReadsEdits (folder_of disk) manifest.number edits

-- All bytes restore something or are at fault, and none both; the first fault has one place.
abbrev pub BytesAreDecided : Type 0
BytesAreDecided = (bytes : List ℕ) → ((r : Restored) × Restores bytes r) ⊎ ((place : ℕ) × IsFaulty bytes place)

abbrev pub FaultyDoNotRestore : Type 0
FaultyDoNotRestore = (bytes : List ℕ) (r : Restored) (place : ℕ) → Restores bytes r → IsFaulty bytes place → ⊥

abbrev pub FaultsHaveOnePlace : Type 0
FaultsHaveOnePlace = (bytes : List ℕ) (place other : ℕ) → IsFaulty bytes place → IsFaulty bytes other → place ≡ other
