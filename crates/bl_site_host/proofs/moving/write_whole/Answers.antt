use Rattle.std.proofs.Common.{rules, subst, sym, ℕ, take}
use Rattle.std.specs.Io.KnownBytes.{Appends}
use Rattle.std.proofs.KnownBytes.{Appends-kept}
use Rattle.bl_site_host.proofs.Moved.{written_more}
use Rattle.bl_site_host.proofs.moving.write_whole.Goals as goal
use Rattle.bl_site_host.proofs.moving.write_whole.Goals.{in-Ok, in-Err}

pub loop-preserved : goal.loop-preserved
loop-preserved g c = elim c.match-write.branch [
  | in-Ok w ↦ record {
    within = search rules;
    written = written_more _ _ _ c.loop.done w.in-Ok.count c.match-write.done c.args.bytes.now w.done-is c.loop.invariant.written w.in-Ok.ensures.bytes;
  }
  | in-Err w ↦ record {
    within = search rules;
    written = subst (λ (n : ℕ). Appends (g.W.Write.contents c.args.writer.now) (g.W.Write.contents c.write.new.self) (take n c.args.bytes.now)) (sym w.done-is) (Appends-kept _ _ _ _ c.loop.invariant.written w.in-Err.ensures.bytes);
  }
]
