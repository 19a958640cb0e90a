-- No file so far has the name.
use Rattle.std.proofs.Common.{◌≡◌, ◌<◌, ℕ, slice_index_or}
use Rattle.std.specs.String.{string_bytes}
use Rattle.bl_site_host.proofs.handles.Handles.place.Given as goal

abbrev pub invariant-loop-at : goal.invariant-loop-at
invariant-loop-at g l = (k : ℕ) (d : _) → k < l.at → l.name ≡ string_bytes (slice_index_or l.handle-items k d).name → ⊥
