-- What a process asks of the system before it has the folder.
use Rattle.std.specs.Prelude.{Option}
use Rattle.std.specs.declared.io.Error.{Error}
use Rattle.bl_site_host.specs.declared.guard.LockErr.{LockErr}

-- One call, with why it failed, if it did.
pub data Knock : Type 0 where
  Opened : Option Error → Knock
  Locked : Option LockErr → Knock
