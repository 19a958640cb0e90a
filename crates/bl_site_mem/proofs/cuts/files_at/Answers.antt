use Rattle.std.proofs.Common.{◌≡◌, inl, inr, sym, subst, take, arith, List}
use Rattle.bl_site.specs.Disk.{Disk}
use Rattle.bl_site_mem.specs.Record.{Entry, start, run}
use Rattle.bl_site_mem.specs.Moments.{until}
use Rattle.bl_site_mem.specs.Bytes.{entries_of}
use Rattle.bl_site_mem.specs.Kept.{IsKept}
use Rattle.bl_site_mem.proofs.Replayed.{disk_more, same_more, stopped, ended}
use Rattle.bl_site_mem.proofs.cuts.files_at.Goals as goal
use Rattle.bl_site_mem.proofs.cuts.files_at.Goals.{then-not-puts_file+else-left-eq0, else-not-puts_file, else-loop-entry-test, then-loop-entry-test+then-not-puts_file+then-left-eq0}

pub loop-entry-preserved : goal.loop-entry-preserved
loop-entry-preserved c = record {
  kept = subst (λ (d : Disk). IsKept c.apply.new.files d) (sym (disk_more c.args.entries.now c.loop-entry.entry-index c.entry-item.result c.loop-entry-test.true c.entry-item.is))
      (c.in_ok-apply.ensures.files (run (take c.loop-entry.entry-index (entries_of c.args.entries.now)) start).disk c.loop-entry.invariant.kept);
  same = same_more c.args.entries.now c.loop-entry.entry-index c.entry-item.result c.loop-entry-test.true c.entry-item.is c.args.at c.loop-entry.left c.if-not-puts_file.left c.loop-entry.invariant.same
      (elim c.if-not-puts_file.branch [
        | then-not-puts_file+else-left-eq0 w ↦ inr (sym w.if-not-puts_file.ensures, w.if-left-eq0.false, w.left-is)
        | else-not-puts_file w ↦ inl (sym w.if-not-puts_file.ensures, w.left-is)
      ]);
}

pub returns : goal.returns
returns c =
    let kept = c.args.entries.now in
    let i = c.loop-entry.entry-index in
    let whole : until c.args.at (entries_of kept) ≡ take i (entries_of kept) = elim c.loop-entry-test.branch [
      | else-loop-entry-test w ↦ ended kept i c.args.at c.loop-entry.left (omega (arith, w.loop-entry-test.false)) c.loop-entry.invariant.same
      | then-loop-entry-test+then-not-puts_file+then-left-eq0 w ↦ stopped kept i w.entry-item.result w.loop-entry-test.true w.entry-item.is c.args.at c.loop-entry.left c.loop-entry.invariant.same (sym w.if-not-puts_file.ensures) w.if-left-eq0.true
    ] in
    subst (λ (es : List Entry). IsKept c.loop-entry.files (run es start).disk) (sym whole) c.loop-entry.invariant.kept
