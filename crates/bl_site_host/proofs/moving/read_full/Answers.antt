use Rattle.std.proofs.Common.{rules}
use Rattle.std.proofs.KnownBytes.{Consumes-kept}
use Rattle.bl_site_host.proofs.Moved.{read_more, read_kept}
use Rattle.bl_site_host.proofs.moving.read_full.Goals as goal
use Rattle.bl_site_host.proofs.moving.read_full.Goals.{in-Ok, in-Err}

pub loop-preserved : goal.loop-preserved
loop-preserved g c = elim c.match-read.branch [
  | in-Ok w ↦ record {
    within = search rules;
    read = read_more _ _ _ c.loop.done w.in-Ok.count c.match-read.done _ c.loop.into c.read.new.buf w.done-is c.loop.invariant.within w.in-Ok.ensures.bound.0 c.loop.invariant.read w.in-Ok.ensures.bytes.0;
  }
  | in-Err w ↦ record {
    within = search rules;
    read = read_kept _ _ c.loop.done c.match-read.done _ c.loop.into c.read.new.buf w.done-is c.loop.invariant.within (Consumes-kept _ _ _ _ c.loop.invariant.read w.in-Err.ensures.bytes);
  }
]
