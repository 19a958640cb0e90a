-- What the calls of a site do to its disk.
use Rattle.std.specs.Prelude.{◌≡◌, ◌≢◌, ◌⊎◌, ℕ, ◌≤◌, List, [], ◌++◌, length, take, None, Some}
use Rattle.bl_site.specs.Disk.{Name, File, Disk, Cut, MayLeave}

-- the name stands for this file, and all else is as before
pub record Puts (name : Name) (file : File) (old new : Disk) : Type 0 where
  pub at : new name ≡ Some file
  pub others : (other : Name) → other ≢ name → new other ≡ old other

-- the name is gone, and all else is as before
pub record Removes (name : Name) (old new : Disk) : Type 0 where
  pub gone : new name ≡ None
  pub others : (other : Name) → other ≢ name → new other ≡ old other

abbrev pub Creates : Name → Disk → Disk → Type 0
Creates name = Puts name (record { read = []; front = []; handed = [] })

-- `to` stands for what `from` stood for, and `from` is gone
pub record Renames (from to : Name) (old new : Disk) : Type 0 where
  pub at : new to ≡ old from
  pub gone : from ≢ to → new from ≡ None
  pub others : (other : Name) → other ≢ from → other ≢ to → new other ≡ old other

-- these bytes follow in the file, of all those that are handed over
pub record Appends (name : Name) (bytes handed : List ℕ) (old new : Disk) : Type 0 where
  pub file : File
  pub was : old name ≡ Some file
  pub puts : Puts name (record { read = file.read ++ bytes; front = file.front; handed = file.handed ++ handed }) old new

-- some bytes follow, at most as many as were to be appended
pub record AppendsAny (name : Name) (handed : List ℕ) (old new : Disk) : Type 0 where
  pub bytes : List ℕ
  pub no_longer : length bytes ≤ length handed
  pub appends : Appends name bytes handed old new

-- all bytes of the file are on the disk
pub record Syncs (name : Name) (old new : Disk) : Type 0 where
  pub file : File
  pub was : old name ≡ Some file
  pub puts : Puts name (record { read = file.read; front = file.read; handed = [] }) old new

-- the bytes since the last sync are any others, at most as many as were handed over
pub record Frays (name : Name) (old new : Disk) : Type 0 where
  pub file : File
  pub was : old name ≡ Some file
  pub tail : List ℕ
  pub no_longer : length tail ≤ length file.handed
  pub puts : Puts name (record { read = file.front ++ tail; front = file.front; handed = file.handed }) old new

-- done, or not done
abbrev pub DoneOrNot : (Disk → Disk → Type 0) → Disk → Disk → Type 0
DoneOrNot call old new = (new ≡ old) ⊎ call old new

-- while a name call is made there may be each disk that there was, without it and with it
abbrev pub MayDuring : (Disk → Disk → Type 0) → (Disk → Type 0) → Disk → Type 0
MayDuring call may_be disk = may_be disk ⊎ ((before : Disk) × may_be before × call before disk)

-- each disk that there may be after the call, there may have been during it
abbrev pub InDoubt : (Disk → Disk → Type 0) → (Disk → Type 0) → (Disk → Type 0) → Type 0
InDoubt call old new = (disk : Disk) → new disk → MayDuring call old disk

-- One file has changed. Each disk that there may be is an old one in which, wherever a name call in doubt puts that file,
-- it stands as it has become.
abbrev pub FollowsFile : Name → (was now : Disk) → (old new : Disk → Type 0) → Type 0
FollowsFile name was now old new = (disk : Disk) → new disk → (before : Disk) × old before
    × ((other : Name) → (disk other ≡ before other) ⊎ ((before other ≡ was name) × (disk other ≡ now name)))

-- the files, and what a cut may find of them, are as before
pub record KeepsDisk {D : Type 0} (disk : D → Disk) (may_be : D → Disk → Type 0) (certain : D → Type 0) (old new : D) : Type 0 where
  pub same : disk new ≡ disk old
  pub possible : (d : Disk) → may_be new d → may_be old d
  pub certain_stays : certain old → certain new

-- no moment has gone by, and no cut has become possible
pub record StandsStill {D : Type 0} (clock : D → ℕ) (left_since : D → ℕ → Cut → Type 0) (old new : D) : Type 0 where
  pub clock_same : clock new ≡ clock old
  pub nothing_more : (t : ℕ) (c : Cut) → left_since new t c → left_since old t c

-- Time goes on: a cut since t might have left what it might have left before, or what it may leave during this call.
pub record Elapses (before now : ℕ) (past since : ℕ → Cut → Type 0) (during : Cut → Type 0) : Type 0 where
  pub later : before ≤ now
  pub nothing_else : (t : ℕ) (c : Cut) → t ≤ before → since t c → past t c ⊎ during c
  pub keeps : (t : ℕ) (c : Cut) → t ≤ before → past t c → since t c

-- while bytes are told, a front of them has been told
pub record Tells (may_be : Disk → Type 0) (told bytes : List ℕ) (cut : Cut) : Type 0 where
  pub count : ℕ
  pub leaves : MayLeave may_be (told ++ take count bytes) cut

-- A cut at any moment since old leaves what has P.
pub record LeavesOnly {D : Type 0} (clock : D → ℕ) (left_since : D → ℕ → Cut → Type 0) (old new : D) (P : Cut → Type 0) : Type 0 where
  pub later : clock old ≤ clock new
  pub each : (c : Cut) → left_since new (clock old) c → P c
  -- for a run that began earlier
  pub before : (t : ℕ) (c : Cut) → t ≤ clock old → left_since new t c → left_since old t c ⊎ P c
