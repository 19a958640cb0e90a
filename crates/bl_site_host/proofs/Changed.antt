-- What a call changes, however it ends.
use Rattle.std.proofs.Common.{◌≢◌, List, Result, Ok, Err, IfErr, refl, inr}
use Rattle.bl_site_host.specs.Events.{Event}
use Rattle.bl_site_host.specs.Changes.{ChangesOne, Changes}
use Rattle.bl_site_host.specs.declared.faults.Fault.{Fault}
use Rattle.bl_site_host.specs.declared.faults.Fault.TheVariants.{Disk, Memory}

-- a call that made its change, and after that did not fail for want of memory
pub one_at : {T : Type 0} (meant : Event → Type 0) (result : Result T Fault) (old new : List Event) → IfErr result (λ fault. fault ≢ Memory) → ChangesOne meant old new → Changes meant result old new
one_at meant (Ok _) old new disk h = h
one_at meant (Err Memory) old new disk h = absurd (disk refl)
one_at meant (Err (Disk _)) old new disk h = inr h
