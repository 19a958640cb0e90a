-- The folder that a cut after a call leaves.
use Rattle.std.specs.Prelude.{◌≡◌, ℕ, ◌-◌, ◌==◌, cond, List, [], ◌∷◌, ◌++◌, length, take, drop, replicate, Option, None, Some}
use Rattle.std.specs.Option.{option_map}
use Rattle.std.specs.List.{list_any}
use Rattle.std.specs.Str.{bytes_eq}
use Rattle.bl_site.specs.Disk.{Name, File, Disk}
use Rattle.bl_site_mem.specs.Record.{Entry, Memory, State, is_put, start, run, synced_file, told_of, IsCertain, calls_in, disk_faults_in, tell_faults_in}

-- the record up to this many calls, with the files that were put there before the next
abbrev pub until : ℕ → List Entry → List Entry
until at [] = []
until at (entry ∷ entries) = cond (is_put entry.call) (entry ∷ until at entries) (cond (at == 0) [] (entry ∷ until (at - 1) entries))

-- the state of the site after so many calls, or after the last one
abbrev pub state_at : ℕ → Memory → State
state_at at memory = run (until at memory.entries) start

-- what takes the place of so many bytes
abbrev pub filled : Option ℕ → ℕ → List ℕ
filled None count = []
filled (Some byte) count = replicate count byte

-- what is left of an unsynced tail
abbrev pub tail_left : ℕ → Option ℕ → List ℕ → List ℕ
tail_left keep fill tail = take keep tail ++ filled fill (length tail - keep)

-- what is left of a file, of which so many bytes are synced
abbrev pub bytes_left : ℕ → Option ℕ → List ℕ → ℕ → List ℕ
bytes_left keep fill bytes synced = take synced bytes ++ tail_left keep fill (drop synced bytes)

-- what is left of a file
abbrev pub left_of : ℕ → Option ℕ → File → List ℕ
left_of keep fill file = bytes_left keep fill file.read (length file.front)

-- what is left of a disk's files under these names, all of it synced
abbrev pub disk_left : ℕ → Option ℕ → Disk → List Name → Disk
disk_left keep fill disk names name = cond (list_any (bytes_eq name) names) (option_map (λ file. synced_file (left_of keep fill file)) (disk name)) None

-- a site that has files, and else is as one that starts: it has told nothing, counts from 0, and no call of it fails
pub record IsStarted (memory : Memory) : Type 0 where
  pub certain : IsCertain memory
  pub told : told_of memory ≡ []
  pub calls : calls_in memory.entries ≡ 0
  pub disk_faults : disk_faults_in memory.entries ≡ 0
  pub tell_faults : tell_faults_in memory.entries ≡ 0
  pub changes : memory.changes ≡ 0
  pub failing : memory.failing ≡ []
