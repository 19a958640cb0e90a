-- Laws of damage.
use Rattle.std.specs.Prelude.{◌≡◌, ◌⊎◌, ℕ, ◌+◌, ◌≤◌, List, max, IsSome}
use Rattle.bl_site.specs.Disk.{Folder, Name}
use Rattle.bl_names.specs.declared.name.FileName.TheVariants.{Current}
use Rattle.bl_entry.specs.Batches.{Batch}
use Rattle.bl_build.specs.Listing.{Listing}
use Rattle.bl_build.specs.Restoring.{Restored}
use Rattle.bl_build.specs.Versions.{IsVersion}
use Rattle.bl_out.specs.Files.{file}
use Rattle.bl_folder.specs.Live.{IsFresh, IsLive}
use Rattle.bl_folder.specs.Logs.{HaveBatches}
use Rattle.bl_folder.specs.Numbers.{IsFirstNumber}
use Rattle.bl_folder.specs.Stands.{IsSoundFolder}
use Rattle.bl_open.specs.Checks.{AllPass, FilesFail}
use Rattle.bl_open.specs.Damage.{IsDamaged, LacksLive}
use Rattle.bl_open.specs.Listing.{IsGreatest}
use Rattle.bl_open.specs.Options.{Words}
use Rattle.bl_open.specs.Recovering.{IsFull, IsRefused}
use Rattle.bl_open.specs.declared.error.OpenErr.{OpenErr}
use Rattle.bl_open.specs.declared.error.OpenErr.TheVariants.{Corrupt}

-- Where a file of a version fails, not all pass;
abbrev pub FailingDoNotPass : Type 0
FailingDoNotPass = (folder : Folder) (version : Listing) (name : Name) (place : ℕ) → FilesFail folder version name place → AllPass folder version → ⊥

-- and the first that fails is one, at one place.
abbrev pub FailureIsOne : Type 0
FailureIsOne = (folder : Folder) (version : Listing) (name other : Name) (place at : ℕ) → IsVersion version
    → FilesFail folder version name place → FilesFail folder version other at → (name ≡ other) × (place ≡ at)

-- A folder that lacks a live part is not fresh, and has none.
abbrev pub LackingAreNotFresh : Type 0
LackingAreNotFresh = (folder : Folder) (name : Name) (place : ℕ) → LacksLive folder name place → IsFresh folder → ⊥

abbrev pub LackingAreNotLive : Type 0
LackingAreNotLive = (folder : Folder) (name : Name) (place manifest : ℕ) (live : Restored) → LacksLive folder name place → IsLive folder manifest live → ⊥

-- The damage of a folder is one: one name, and one place.
abbrev pub DamageIsOne : Type 0
DamageIsOne = (folder : Folder) (name other : Name) (place at : ℕ) → IsDamaged folder name place → IsDamaged folder other at → (name ≡ other) × (place ≡ at)

-- A fresh folder has none, nor has a folder whose live part's files pass and in whose logs are batches behind its last sequence;
abbrev pub FreshAreNotDamaged : Type 0
FreshAreNotDamaged = (folder : Folder) (name : Name) (place : ℕ) → IsFresh folder → IsDamaged folder name place → ⊥

abbrev pub PassingAreNotDamaged : Type 0
PassingAreNotDamaged = (folder : Folder) (name : Name) (place manifest : ℕ) (live : Restored) (batches : List Batch) (last : ℕ) → IsLive folder manifest live → AllPass folder live.version
    → HaveBatches folder live.standing.log_number live.standing.last_sequence batches last → IsDamaged folder name place → ⊥

-- so a sound folder has none.
abbrev pub SoundAreNotDamaged : Type 0
SoundAreNotDamaged = (folder : Folder) (name : Name) (place : ℕ) → IsSoundFolder folder → IsDamaged folder name place → ⊥

-- One reason at most refuses an opening with some words,
abbrev pub RefusalIsOne : Type 0
RefusalIsOne = (folder : Folder) (words : Words) (e f : OpenErr) → IsRefused folder words e → IsRefused folder words f → e ≡ f

-- and no damage refuses that of a sound folder.
abbrev pub SoundAreNotRefused : Type 0
SoundAreNotRefused = (folder : Folder) (words : Words) (name : Name) (place : ℕ) → IsSoundFolder folder → IsRefused folder words (Corrupt name place) → ⊥

-- A folder that would take more numbers than are left is not refused.
abbrev pub FullAreNotRefused : Type 0
FullAreNotRefused = (folder : Folder) (words : Words) (e : OpenErr) → IsFull folder words → IsRefused folder words e → ⊥

-- Where all files of a version pass, the first number that an opening may take is the next file number, or one more than the greatest number of a name.
abbrev pub FirstNumberIs : Type 0
FirstNumberIs = (folder : Folder) (version : Listing) (next greatest : ℕ) → IsVersion version → (1 ≤ next) ⊎ IsSome (file folder Current)
    → AllPass folder version → IsGreatest folder greatest → IsFirstNumber folder version next (max next (greatest + 1))
