-- What is asked of an output of which calls are tested.
use Rattle.std.specs.Prelude.{◌≡◌, false}
use Rattle.bl_site.specs.Disk.{Disk}
use Rattle.bl_out.specs.Outputs.{Out}
use Rattle.bl_out.specs.States.{AreThere, IsOut, State}

-- no call has failed, and the files that are not sealed are in the folder
pub record CanSeal (disk : Disk) (s : State) : Type 0 where
  pub usable : s.failed ≡ false
  pub there : AreThere disk s

-- besides, no file is sealed
pub record CanAdd (disk : Disk) (s : State) : Type 0 where
  pub sealing : CanSeal disk s
  pub unsealed : s.sealed ≡ 0
  pub out : (o : Out) × IsOut o s
