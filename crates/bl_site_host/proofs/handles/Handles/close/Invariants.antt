-- What stood at the beginning stands, of the files that are left.
use Rattle.std.proofs.Common.{ℕ, List, vec_len}
use Rattle.bl_site_host.specs.Events.{Event}
use Rattle.bl_site_host.specs.Handles.{AllStand}
use Rattle.bl_site_host.proofs.handles.Handles.close.Given as goal

abbrev pub invariant-places : goal.invariant-places
invariant-places g l = (id : _ → ℕ) (calls : List Event) → AllStand id calls l.initial.self.open.items → AllStand id calls l.self.open.items

abbrev pub decreases-places : goal.decreases-places
decreases-places g l = vec_len l.self.open
