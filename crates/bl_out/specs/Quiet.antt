-- Calls that touch files of some names alone.
use Rattle.std.specs.Prelude.{◌≡◌, ◌≢◌, ℕ, List, []}
use Rattle.std.specs.List.{AllByRecursion}
use Rattle.bl_site.specs.Disk.{Cut, Disk, IsLeft, Name, written_of}
use Rattle.bl_site.specs.Calls.{LeavesOnly}
use Rattle.bl_site.specs.declared.site.Site.{Ghosts}

-- the name is none of these
abbrev pub IsNoneOf : List Name → Name → Type 0
IsNoneOf names name = AllByRecursion (λ n. n ≢ name) names

-- A cut leaves of each other file what it may leave of this disk, and as much was written of it; the same was told.
pub record IsCutBut (names : List Name) (disk : Disk) (told : List ℕ) (c : Cut) : Type 0 where
  pub image : (name : Name) → IsNoneOf names name → IsLeft (disk name) (c.folder name)
  pub told_is : c.told ≡ told
  pub written_is : (name : Name) → IsNoneOf names name → c.written name ≡ written_of disk name

-- No other file has changed; nor has one in a cut meanwhile, where no name call was in doubt before. Where there is no such name, nothing at all has changed.
pub record TouchesOnly {S : Type 0} (g : Ghosts S) (names : List Name) (old new : S) : Type 0 where
  pub others : g.shows → (name : Name) → IsNoneOf names name → g.disk new name ≡ g.disk old name
  pub idle : names ≡ [] → new ≡ old
  pub cuts : g.shows → g.certain old → LeavesOnly g.clock g.left_since old new (IsCutBut names (g.disk old) (g.told old))
