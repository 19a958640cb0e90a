-- Cuts during a call that touches files of some names alone, none of them needed.
use Rattle.std.specs.Prelude.{◌≡◌, ℕ, List}
use Rattle.bl_site.specs.Disk.{Cut, Disk, Folder, IsCut, Name}
use Rattle.bl_names.specs.declared.name.FileName.{FileName}
use Rattle.bl_names.specs.Names.{name_of}
use Rattle.bl_build.specs.Restoring.{Restored}
use Rattle.bl_out.specs.Quiet.{IsCutBut, IsNoneOf}
use Rattle.bl_folder.specs.Needed.{IsNeeded, KeepsNeeded}

-- There is a cut of the disk that leaves the same of each file but these, and of each but these as much was written.
pub record IsLikeCut (names : List Name) (disk : Disk) (told : List ℕ) (c : Cut) : Type 0 where
  pub cut : Cut
  pub is_cut : IsCut disk told cut
  pub folder : (name : Name) → IsNoneOf names name → c.folder name ≡ cut.folder name
  pub written : (name : Name) → IsNoneOf names name → c.written name ≡ cut.written name

-- none of these names is needed
abbrev pub NoneIsNeeded : List Name → ℕ → Restored → Type 0
NoneIsNeeded names manifest live = (f : FileName) → IsNeeded manifest live f → IsNoneOf names (name_of f)

-- A cut during a call that touches these files alone is like one of the disk before the call.
abbrev pub QuietCutsAreLike : Type 0
QuietCutsAreLike = (names : List Name) (disk : Disk) (told : List ℕ) (c : Cut) → IsCutBut names disk told c → IsLikeCut names disk told c

-- Where none of them is needed, it leaves what is needed as that one does.
abbrev pub QuietCutsKeepNeeded : Type 0
QuietCutsKeepNeeded = (names : List Name) (disk : Disk) (told : List ℕ) (c : Cut) (manifest : ℕ) (live : Restored) → NoneIsNeeded names manifest live
    → (like : IsLikeCut names disk told c) → KeepsNeeded manifest live like.cut.folder c.folder

-- So does the folder behind the call leave it as the folder before.
abbrev pub OthersKeepNeeded : Type 0
OthersKeepNeeded = (names : List Name) (old new : Folder) (manifest : ℕ) (live : Restored) → NoneIsNeeded names manifest live
    → ((name : Name) → IsNoneOf names name → new name ≡ old name) → KeepsNeeded manifest live old new
