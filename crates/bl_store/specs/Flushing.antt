-- How a waiting memory is flushed.
use Rattle.std.specs.Prelude.{◌≡◌, ℕ, [], None, Some}
use Rattle.bl_site.specs.Disk.{Disk}
use Rattle.bl_edit.specs.Options.{Values}
use Rattle.bl_edit.specs.declared.edit.Edit.{Edit}
use Rattle.bl_flush.specs.Flushing.{Flushes}
use Rattle.bl_store.specs.Calls.{next_flushed}
use Rattle.bl_store.specs.Stored.{Stored}
use Rattle.bl_store.specs.declared.store.Waiting.{Waiting}

-- the edit that installs a flush: the job's, with the log number, the next file number and the last sequence that is flushed
abbrev pub installs : Waiting → ℕ → Edit → Edit
installs w next job = record job { log_number = Some w.log; next_file = Some next; last_sequence = Some w.last }

-- The files of a flush of the waiting memory are on the disk, with numbers from one on up to below another, and this edit installs them.
pub record HasMade (options : Values) (from next : ℕ) (w : Waiting) (disk : Disk) (e : Edit) : Type 0 where
  pub job : Edit
  pub flushes : Flushes options from next [] w.memory disk job
  pub edit : e ≡ installs w next job

-- No memory waits: where one did, it is flushed.
pub record HasFlushed (old new : Stored) : Type 0 where
  pub waiting : new.waiting ≡ None
  pub next : new.next ≡ next_flushed old
  pub memory : new.memory ≡ old.memory
  pub log : new.log ≡ old.log
  pub manifest : new.manifest.number ≡ old.manifest.number
  pub last : new.last ≡ old.last
  pub options : new.standing.options ≡ old.standing.options
  pub idle : old.waiting ≡ None → new ≡ old
