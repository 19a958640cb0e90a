use Rattle.std.proofs.Common.{◌≡◌, ℕ, ◌≤◌, ◌^◌, sym, subst}
use Rattle.bl_edit.specs.Bounds.{FitsWords, IsEdit}
use Rattle.bl_edit.specs.declared.edit.Edit.{Edit}
use Rattle.bl_out.specs.Held.{HoldsOut}
use Rattle.bl_out.specs.Outputs.{IsEditOf}
use Rattle.bl_flush.specs.Flushing.{Flushes}
use Rattle.bl_flush.specs.Jobs.{added_of, flushed, next_of}
use Rattle.bl_flush.proofs.FlushedLemmas.{edit_fits, flushes, ok_both, ok_with}
use Rattle.bl_flush.proofs.flush.flush_all.Goals as goal

pub returns-clause-edit : goal.returns-clause-edit
returns-clause-edit g c =
    let at = c.in_ok-output.ensures.at in
    c.seal_all.ensures.edit (added_of c.args.options.now c.args.snapshots.now c.args.numbers.now c.args.memory.now) c.args.numbers.now c.add_kept.new.numbers at.out at.made

pub returns-clause-holds : goal.returns-clause-holds
returns-clause-holds g c = λ shown.
    let at = c.in_ok-output.ensures.at in
    c.seal_all.ensures.holds shown (added_of c.args.options.now c.args.snapshots.now c.args.numbers.now c.args.memory.now) c.args.numbers.now c.add_kept.new.numbers at.out at.made (at.holds shown)

pub returns-clause-flushes : goal.returns-clause-flushes
returns-clause-flushes g c = λ shown.
    let at = c.in_ok-output.ensures.at in
    let next : c.add_kept.new.numbers ≡ next_of c.args.options.now c.args.snapshots.now c.args.numbers.now c.args.memory.now = c.in_ok-output.ensures.numbers in
    let last : next_of c.args.options.now c.args.snapshots.now c.args.numbers.now c.args.memory.now ≤ 10 ^ 15 = subst (λ (n : ℕ). n ≤ 10 ^ 15) next c.show_next-2.ensures.bound in
    ok_with c.seal_all.result (IsEditOf (flushed c.args.options.now c.args.snapshots.now c.args.numbers.now c.args.memory.now)) FitsWords
    (Flushes c.args.options.now c.args.numbers.now c.add_kept.new.numbers c.args.snapshots.now c.args.memory.now (g.S.Site.disk c.seal_all.new.site))
    (HoldsOut (g.S.Site.disk c.seal_all.new.site) (flushed c.args.options.now c.args.snapshots.now c.args.numbers.now c.args.memory.now))
    (c.seal_all.ensures.edit (added_of c.args.options.now c.args.snapshots.now c.args.numbers.now c.args.memory.now) c.args.numbers.now c.add_kept.new.numbers at.out at.made)
    (c.seal_all.ensures.holds shown (added_of c.args.options.now c.args.snapshots.now c.args.numbers.now c.args.memory.now) c.args.numbers.now c.add_kept.new.numbers at.out at.made (at.holds shown))
    c.seal_all.ensures.fits
    (λ (e : Edit) edit held words. subst (λ (n : ℕ). Flushes c.args.options.now c.args.numbers.now n c.args.snapshots.now c.args.memory.now (g.S.Site.disk c.seal_all.new.site) e) (sym next)
    (flushes c.flushes_make_what_is_kept.ensures c.args.options.now c.args.snapshots.now c.args.numbers.now c.args.memory.now c.show_range.ensures c.requires c.finished_outputs_are_read.ensures.read (g.S.Site.disk c.seal_all.new.site) e
    c.show_next.ensures.some last c.ascends.ensures.ascending held edit words))

pub returns-clause-bounds : goal.returns-clause-bounds
returns-clause-bounds g c =
    let at = c.in_ok-output.ensures.at in
    let next : c.add_kept.new.numbers ≡ next_of c.args.options.now c.args.snapshots.now c.args.numbers.now c.args.memory.now = c.in_ok-output.ensures.numbers in
    let last : next_of c.args.options.now c.args.snapshots.now c.args.numbers.now c.args.memory.now ≤ 10 ^ 15 = subst (λ (n : ℕ). n ≤ 10 ^ 15) next c.show_next-2.ensures.bound in
    ok_both c.seal_all.result (IsEditOf (flushed c.args.options.now c.args.snapshots.now c.args.numbers.now c.args.memory.now)) FitsWords (λ edit. IsEdit edit × FitsWords edit)
    (c.seal_all.ensures.edit (added_of c.args.options.now c.args.snapshots.now c.args.numbers.now c.args.memory.now) c.args.numbers.now c.add_kept.new.numbers at.out at.made)
    c.seal_all.ensures.fits
    (λ (e : Edit) edit words. (edit_fits c.flushes_make_what_is_kept.ensures c.args.options.now c.args.snapshots.now c.args.numbers.now c.args.memory.now c.show_range.ensures c.requires c.finished_outputs_are_read.ensures.fit e c.show_next.ensures.some last edit, words))
