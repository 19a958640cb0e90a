-- What a site in memory has recorded, and what that makes of a disk.
use Rattle.std.specs.Prelude.{◌≡◌, ◌⊎◌, ℕ, zero, suc, ◌/◌, ◌==◌, Bool, true, false, not, ◌&&◌, List, [], ◌∷◌, ◌++◌, length, take, Option, None, Some}
use Rattle.std.specs.Option.{option_map}
use Rattle.std.specs.List.{count_by, list_any}
use Rattle.std.specs.Map.{update}
use Rattle.std.specs.Str.{bytes_eq}
use Rattle.bl_site.specs.Disk.{Name, File, Disk, Cut, MayLeave}
use Rattle.bl_site.specs.Calls.{Tells, Creates, Renames, Removes, MayDuring}
use Rattle.bl_site.specs.Causes.{one_more}

-- a call, with what it was given; `Look` is one that only reads, and `PutFile` is no numbered call
pub data Call : Type 0 where
  Look : Call
  Create : Name → Call
  Append : Name → List ℕ → Call
  Sync : Name → Call
  Rename : Name → Name → Call
  Remove : Name → Call
  Tell : List ℕ → Call
  PutFile : Name → List ℕ → Call

pub record Entry : Type 0 where
  pub call : Call
  pub failed : Bool

-- what there is of a site in memory: all calls, the oldest first; the numbers of those that fail; how many changes were asked for
pub record Memory : Type 0 where
  pub entries : List Entry
  pub failing : List ℕ
  pub changes : ℕ

-- a site as it starts
abbrev pub fresh : List ℕ → Memory
fresh failing = record { entries = []; failing = failing; changes = 0 }

abbrev pub is_put : Call → Bool
is_put (PutFile name bytes) = true
is_put Look = false
is_put (Create name) = false
is_put (Append name bytes) = false
is_put (Sync name) = false
is_put (Rename from to) = false
is_put (Remove name) = false
is_put (Tell bytes) = false

abbrev pub is_tell : Call → Bool
is_tell (Tell bytes) = true
is_tell Look = false
is_tell (Create name) = false
is_tell (Append name bytes) = false
is_tell (Sync name) = false
is_tell (Rename from to) = false
is_tell (Remove name) = false
is_tell (PutFile name bytes) = false

abbrev pub is_change : Call → Bool
is_change (Create name) = true
is_change (Append name bytes) = true
is_change (Sync name) = true
is_change (Rename from to) = true
is_change (Remove name) = true
is_change Look = false
is_change (Tell bytes) = false
is_change (PutFile name bytes) = false

-- how many calls were made; a file that was put there is none
abbrev pub calls_in : List Entry → ℕ
calls_in entries = count_by (λ entry. not (is_put entry.call)) entries

-- how many calls on the folder failed, and how many on the output
abbrev pub disk_faults_in : List Entry → ℕ
disk_faults_in entries = count_by (λ entry. entry.failed && not (is_tell entry.call)) entries

abbrev pub tell_faults_in : List Entry → ℕ
tell_faults_in entries = count_by (λ entry. entry.failed && is_tell entry.call) entries

-- the next call fails where its number, counted from 1, is one of those
abbrev pub fails_next : Memory → Bool
fails_next memory = list_any (λ number. one_more (calls_in memory.entries) == number) memory.failing

-- the disk with this in the place of what the name stood for
abbrev pub put : Disk → Name → Option File → Disk
put disk name file = update bytes_eq disk name file

abbrev pub empty_file : File
empty_file = record { read = []; front = []; handed = [] }

abbrev pub synced_file : List ℕ → File
synced_file bytes = record { read = bytes; front = bytes; handed = [] }

-- these bytes follow, of those that are handed over
abbrev pub appended : List ℕ → List ℕ → File → File
appended bytes handed file = record { read = file.read ++ bytes; front = file.front; handed = file.handed ++ handed }

abbrev pub synced : File → File
synced file = synced_file file.read

-- what a failing `append` or `tell` does of its work
abbrev pub first_half : List ℕ → List ℕ
first_half bytes = take (length bytes / 2) bytes

-- the disk after a call
abbrev pub disk_after : Call → Disk → Disk
disk_after Look disk = disk
disk_after (Create name) disk = put disk name (Some empty_file)
disk_after (Append name bytes) disk = put disk name (option_map (appended bytes bytes) (disk name))
disk_after (Sync name) disk = put disk name (option_map synced (disk name))
disk_after (Rename from to) disk = put (put disk from None) to (disk from)
disk_after (Remove name) disk = put disk name None
disk_after (Tell bytes) disk = disk
disk_after (PutFile name bytes) disk = put disk name (Some (synced_file bytes))

-- the disk after a call that fails
abbrev pub disk_failed : Call → Disk → Disk
disk_failed (Append name bytes) disk = put disk name (option_map (appended (first_half bytes) bytes) (disk name))
disk_failed call disk = disk

-- the name calls in doubt, after a call and after one that fails; a file that is put there is no name call
abbrev pub doubt_after : Call → List Call → List Call
doubt_after (Create name) doubt = []
doubt_after (Rename from to) doubt = []
doubt_after (Remove name) doubt = []
doubt_after call doubt = doubt

abbrev pub doubt_failed : Call → List Call → List Call
doubt_failed (Create name) doubt = doubt ++ Create name ∷ []
doubt_failed (Rename from to) doubt = doubt ++ Rename from to ∷ []
doubt_failed (Remove name) doubt = doubt ++ Remove name ∷ []
doubt_failed call doubt = doubt

abbrev pub told_after : Call → List ℕ → List ℕ
told_after (Tell bytes) told = told ++ bytes
told_after call told = told

abbrev pub told_failed : Call → List ℕ → List ℕ
told_failed (Tell bytes) told = told ++ first_half bytes
told_failed call told = told

pub record State : Type 0 where
  pub disk : Disk
  -- the failed name calls since the last one that was answered Ok, the oldest first
  pub doubt : List Call
  pub told : List ℕ

abbrev pub start : State
start = record { disk = λ _. None; doubt = []; told = [] }

abbrev pub step : Bool → Call → State → State
step false call state = record { disk = disk_after call state.disk; doubt = doubt_after call state.doubt; told = told_after call state.told }
step true call state = record { disk = disk_failed call state.disk; doubt = doubt_failed call state.doubt; told = told_failed call state.told }

abbrev pub after : Entry → State → State
after entry state = step entry.failed entry.call state

abbrev pub run : List Entry → State → State
run [] state = state
run (entry ∷ entries) state = run entries (after entry state)

-- the disk after a call, where it is a name call
abbrev pub renamed : Call → Disk → Disk
renamed (Create name) disk = put disk name (Some empty_file)
renamed (Rename from to) disk = put (put disk from None) to (disk from)
renamed (Remove name) disk = put disk name None
renamed call disk = disk

-- a disk with some of these name calls done
abbrev pub Doubted : List Call → Disk → Disk → Type 0
Doubted [] disk other = other ≡ disk
Doubted (call ∷ calls) disk other = Doubted calls disk other ⊎ Doubted calls (renamed call disk) other

abbrev pub MayBe : State → Disk → Type 0
MayBe state = Doubted state.doubt state.disk

abbrev pub Leaves : State → Cut → Type 0
Leaves state = MayLeave (MayBe state) state.told

-- what a cut within a call may leave, besides what it may leave before and after
abbrev pub Within : Call → State → Cut → Type 0
Within (Create name) state = MayLeave (MayDuring (Creates name) (MayBe state)) state.told
Within (Rename from to) state = MayLeave (MayDuring (Renames from to) (MayBe state)) state.told
Within (Remove name) state = MayLeave (MayDuring (Removes name) (MayBe state)) state.told
Within (Tell bytes) state = Tells (MayBe state) state.told bytes
Within Look state = λ _. ⊥
Within (Append name bytes) state = λ _. ⊥
Within (Sync name) state = λ _. ⊥
Within (PutFile name bytes) state = λ _. ⊥

-- what a cut from moment t on may leave
abbrev pub LeftSince : State → List Entry → ℕ → Cut → Type 0
LeftSince state [] zero cut = Leaves state cut
LeftSince state [] (suc t) cut = ⊥
LeftSince state (entry ∷ entries) zero cut = Leaves state cut ⊎ (Within entry.call state cut ⊎ LeftSince (after entry state) entries zero cut)
LeftSince state (entry ∷ entries) (suc t) cut = LeftSince (after entry state) entries t cut

-- What the record says of the site: all that a site shows is a function of it.
abbrev pub at : Memory → State
at memory = run memory.entries start

abbrev pub disk_of : Memory → Disk
disk_of memory = (at memory).disk

abbrev pub told_of : Memory → List ℕ
told_of memory = (at memory).told

abbrev pub may_be_of : Memory → Disk → Type 0
may_be_of memory = MayBe (at memory)

abbrev pub IsCertain : Memory → Type 0
IsCertain memory = (at memory).doubt ≡ []

abbrev pub clock_of : Memory → ℕ
clock_of memory = length memory.entries

abbrev pub left_since_of : Memory → ℕ → Cut → Type 0
left_since_of memory = LeftSince start memory.entries
