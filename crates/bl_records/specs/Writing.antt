-- What the disk is once bytes were written to a file and synced, and on the way there.
use Rattle.std.specs.Prelude.{◌≡◌, ◌⊎◌, ℕ, ◌≤◌, List, [], ◌++◌, length, Some}
use Rattle.bl_site.specs.Disk.{Name, File, Disk, Cut, MayLeave}
use Rattle.bl_site.specs.Calls.{Puts, AppendsAny, Syncs, Frays, DoneOrNot, Elapses}
use Rattle.bl_site.specs.declared.site.Site.{Ghosts}

-- a new file of these bytes, all of them on the disk
abbrev pub MakesSynced : Name → List ℕ → Disk → Disk → Type 0
MakesSynced name bytes = Puts name (record { read = bytes; front = bytes; handed = [] })

-- a new file to which none of these bytes were handed over, or all; they may be on the disk
pub record MakesPartly (name : Name) (bytes : List ℕ) (old new : Disk) : Type 0 where
  pub file : File
  pub puts : Puts name file old new
  pub written : (file.front ++ file.handed ≡ []) ⊎ (file.front ++ file.handed ≡ bytes)

-- these bytes follow in the file, all of which is on the disk
pub record AppendsSynced (name : Name) (bytes : List ℕ) (old new : Disk) : Type 0 where
  pub file : File
  pub was : old name ≡ Some file
  pub puts : Puts name (record { read = file.read ++ bytes; front = file.read ++ bytes; handed = [] }) old new

-- These bytes were handed over. What reads behind the synced bytes are any bytes, at most as many as were handed over.
pub record Tears (name : Name) (bytes : List ℕ) (old new : Disk) : Type 0 where
  pub file : File
  pub was : old name ≡ Some file
  pub tail : List ℕ
  pub no_longer : length tail ≤ length (file.handed ++ bytes)
  pub puts : Puts name (record { read = file.front ++ tail; front = file.front; handed = file.handed ++ bytes }) old new

-- these bytes were handed over: none of them is on the disk yet, or all are, behind all that the file read; how it reads now is not said
pub record AppendsPartly (name : Name) (bytes : List ℕ) (old new : Disk) : Type 0 where
  pub file : File
  pub was : old name ≡ Some file
  pub now : File
  pub puts : Puts name now old new
  pub written : ((now.front ≡ file.front) × (now.handed ≡ file.handed ++ bytes)) ⊎ ((now.front ≡ file.read ++ bytes) × (now.handed ≡ []))

-- a disk that there may be: an old one in which, wherever a name call in doubt puts this file, it stands as it has become
abbrev pub Follows : Name → (was now : Disk) → (old : Disk → Type 0) → Disk → Type 0
Follows name was now old disk = (before : Disk) × old before × ((other : Name) → (disk other ≡ before other) ⊎ ((before other ≡ was name) × (disk other ≡ now name)))

-- Bytes are appended to a file and it is synced, while name calls may be in doubt. Each disk that there may be then follows one that
-- there may be between the two calls, and that follows an old one; a cut finds one of all these.
pub record AppendsInDoubt {D : Type 0} (disk : D → Disk) (may_be : D → Disk → Type 0) (told : D → List ℕ) (clock : D → ℕ) (left_since : D → ℕ → Cut → Type 0) (name : Name) (bytes : List ℕ) (old new : D) : Type 0 where
  pub mid : Disk
  pub appends : (mid ≡ disk old) ⊎ AppendsAny name bytes (disk old) mid
  pub syncs : (disk new ≡ mid) ⊎ (Syncs name mid (disk new) ⊎ Frays name mid (disk new))
  pub follows : (d : Disk) → may_be new d → Follows name mid (disk new) (Follows name (disk old) mid (may_be old)) d
  pub time : Elapses (clock old) (clock new) (left_since old) (left_since new) (MayLeave (λ d. Follows name (disk old) mid (may_be old) d ⊎ may_be new d) (told old))

-- What a cut may leave during an append to a file and its sync, or behind them: where no name call is in doubt, and in every case.
pub record AppendsAndSyncs {S : Type 0} (g : Ghosts S) (name : Name) (bytes : List ℕ) (old new : S) : Type 0 where
  pub certain : g.shows → g.certain old → g.certain new
  pub time : g.shows → g.certain old → Elapses (g.clock old) (g.clock new) (g.left_since old) (g.left_since new) (MayLeave (DoneOrNot (AppendsPartly name bytes) (g.disk old)) (g.told old))
  pub doubt : g.shows → AppendsInDoubt g.disk g.may_be g.told g.clock g.left_since name bytes old new
