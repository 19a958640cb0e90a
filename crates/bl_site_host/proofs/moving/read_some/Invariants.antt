-- As long as a signal comes between nothing is consumed.
use Rattle.std.specs.Io.KnownBytes.{Keeps}
use Rattle.bl_site_host.proofs.moving.read_some.Given as goal

abbrev pub invariant-loop : goal.invariant-loop
invariant-loop g l = Keeps (g.R.Read.remaining l.fn.reader) (g.R.Read.remaining l.reader)
