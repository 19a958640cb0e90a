-- Why a run ends as it does.
use Rattle.std.specs.Prelude.{◌≡◌, ℕ, ◌+◌, ◌-◌, ◌^◌, ◌≤◌, min}
use Rattle.bl_site.specs.Causes.{Rose}
use Rattle.bl_site.specs.declared.site.Site.{Ghosts as SiteGhosts}
use Rattle.bl_site.specs.declared.source.Source.{Ghosts as SourceGhosts}
use Rattle.bl_promise.specs.declared.status.Status.{Status}
use Rattle.bl_promise.specs.declared.status.Status.TheVariants.{Done, Words, TellFault, DiskFault, OutOfMemory, ReadFault, Long, Corrupt, Full, Differ}

-- the exit status of the program
abbrev pub number_of : Status → ℕ
number_of Done = 0
number_of Words = 2
number_of ReadFault = 3
number_of TellFault = 4
number_of DiskFault = 5
number_of OutOfMemory = 6
number_of Corrupt = 7
number_of Full = 8
number_of Differ = 9
number_of Long = 10

-- more bytes than so many were taken since; a count stops at 2 ^ 64 - 1
abbrev pub TookOver : ℕ → ℕ → ℕ → Type 0
TookOver limit before now = min (before + limit + 1) (2 ^ 64 - 1) ≤ now

-- counts before and after a run: failures of the source, of the output and of the disk, and the bytes of the script that were taken
pub record Counts : Type 0 where
  pub read : ℕ
  pub read_after : ℕ
  pub tell : ℕ
  pub tell_after : ℕ
  pub disk : ℕ
  pub disk_after : ℕ
  pub taken : ℕ
  pub taken_after : ℕ

abbrev pub counts_of : {S R : Type 0} → SiteGhosts S → SourceGhosts R → (script after : R) → (old new : S) → Counts
counts_of s r script after old new = record {
  read = r.faults script;
  read_after = r.faults after;
  tell = s.tell_faults old;
  tell_after = s.tell_faults new;
  disk = s.disk_faults old;
  disk_after = s.disk_faults new;
  taken = r.taken script;
  taken_after = r.taken after;
}

-- Each failure of the script, of the output or of the folder, and `Long`, has its cause in the run.
pub record HasCauses (counts : Counts) (status : Status) : Type 0 where
  pub read : status ≡ ReadFault → Rose counts.read counts.read_after
  pub tell : status ≡ TellFault → Rose counts.tell counts.tell_after
  pub disk : status ≡ DiskFault → Rose counts.disk counts.disk_after
  pub long : status ≡ Long → TookOver (2 ^ 40) counts.taken counts.taken_after

-- no call failed, and no more bytes than may be were taken
pub record IsFaultless (counts : Counts) : Type 0 where
  pub read : Rose counts.read counts.read_after → ⊥
  pub tell : Rose counts.tell counts.tell_after → ⊥
  pub disk : Rose counts.disk counts.disk_after → ⊥
  pub long : TookOver (2 ^ 40) counts.taken counts.taken_after → ⊥
