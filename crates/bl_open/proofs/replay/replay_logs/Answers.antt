use Rattle.std.proofs.Common.{◌≡◌, ◌+◌, ◌<◌, [], get_or, drop, length, List, Err, ap, sym, subst, arith}
use Rattle.std.proofs.lemmas.Result.{err_from_is_err_and}
use Rattle.bl_site.specs.Disk.{Folder, folder_of}
use Rattle.bl_site.proofs.Quiet.{reads_nothing, reads_on}
use Rattle.bl_entry.specs.declared.key.Entry.{Entry}
use Rattle.bl_memtab.specs.Filled.{Holds}
use Rattle.bl_wal.specs.Replay.{IsTorn}
use Rattle.bl_open.proofs.ReplayLemmas.{all_replayed, are_plain, fails, left_now, none_left, none_so_far, one_log_more}
use Rattle.bl_open.specs.Replaying.{HasReplayedLog}
use Rattle.bl_open.specs.declared.error.OpenErr.TheVariants.{Corrupt}
use Rattle.bl_open.proofs.replay.replay_logs.Goals as goal

pub loop-number-init : goal.loop-number-init
loop-number-init g c =
    let none : Holds c.start-memory.result [] c.args.last = subst (λ (es : List Entry). Holds es [] c.args.last) (sym c.start-memory.ensures) (c.batches_are_held.ensures.none c.args.last) in
    record {
      filled = record { batches = []; fit = tt; holds = none };
      so_far = λ shown. none_so_far (folder_of (g.S.Site.disk c.args.site.now)) c.args.from c.args.last c.args.numbers.now c.start-memory.result (c.requires.logs shown) none;
      bound = λ lt. lt;
      quiet = reads_nothing g.S.Site c.args.site.now;
    }

pub returns-in_err-behind-clause-corrupt : goal.returns-in_err-behind-clause-corrupt
returns-in_err-behind-clause-corrupt g c = λ shown name place is.
    let p = err_from_is_err_and c.from_residual.result c.from_residual.ensures.1 in
    let e : c.in_err-behind.field-0.0 ≡ Corrupt name place = cc (is, p.1, p.2) in
    let i = c.loop-number.invariant in
    let number = get_or c.args.numbers.now c.loop-number.number-index 0 in
    let folder = folder_of (g.S.Site.disk c.args.site.now) in
    let same : folder_of (g.S.Site.disk c.loop-number.site) ≡ folder = ap folder_of (i.quiet.stays shown).same in
    let lt : c.loop-number.number-index < length c.args.numbers.now = omega (arith, c.loop-number-test.true) in
    let at = c.in_err-behind.ensures.corrupt shown name place (ap Err e) in
    fails folder c.args.from c.args.last number (drop (c.loop-number.number-index + 1) c.args.numbers.now) c.loop-number.memory c.loop-number.behind
    (left_now folder c.args.from c.args.last c.args.numbers.now c.loop-number.number-index c.loop-number.memory c.loop-number.behind lt (i.so_far shown)) name place at.0
    (subst (λ (f : Folder). IsTorn f number c.loop-number.behind place) same at.1)

pub loop-number-preserved : goal.loop-number-preserved
loop-number-preserved g c =
    let i = c.loop-number.invariant in
    let number = get_or c.args.numbers.now c.loop-number.number-index 0 in
    let folder = folder_of (g.S.Site.disk c.args.site.now) in
    let lt : c.loop-number.number-index < length c.args.numbers.now = omega (arith, c.loop-number-test.true) in
    record {
      filled = c.in_ok-behind.ensures.filled;
      so_far = λ shown.
          let same : folder_of (g.S.Site.disk c.loop-number.site) ≡ folder = ap folder_of (i.quiet.stays shown).same in
          one_log_more folder c.args.from c.args.last number (drop (c.loop-number.number-index + 1) c.args.numbers.now) c.loop-number.memory c.loop-number.behind
          (left_now folder c.args.from c.args.last c.args.numbers.now c.loop-number.number-index c.loop-number.memory c.loop-number.behind lt (i.so_far shown))
          c.batches_join.ensures.join c.replay_log.new.memory c.in_ok-behind.behind
          (subst (λ (f : Folder). HasReplayedLog f number c.loop-number.behind c.in_ok-behind.behind c.loop-number.memory c.replay_log.new.memory) same (c.in_ok-behind.ensures.replayed shown));
      bound = λ lt. c.in_ok-behind.ensures.bound (i.bound lt);
      quiet = reads_on g.S.Site c.args.site.now c.loop-number.site c.replay_log.new.site i.quiet c.replay_log.ensures.quiet;
    }

pub returns-in_err-behind-clause-quiet : goal.returns-in_err-behind-clause-quiet
returns-in_err-behind-clause-quiet g c = reads_on g.S.Site c.args.site.now c.loop-number.site c.replay_log.new.site c.loop-number.invariant.quiet c.replay_log.ensures.quiet

pub returns-clause-replayed : goal.returns-clause-replayed
returns-clause-replayed g c = λ shown.
    let i = c.loop-number.invariant in
    let folder = folder_of (g.S.Site.disk c.args.site.now) in
    all_replayed folder c.args.from c.args.last c.loop-number.memory c.loop-number.behind
    (none_left folder c.args.from c.args.last c.args.numbers.now c.loop-number.number-index c.loop-number.memory c.loop-number.behind (omega (arith, c.loop-number-test.false)) (i.so_far shown))

pub returns-clause-plain : goal.returns-clause-plain
returns-clause-plain g c = are_plain c.memories_tell_what_was_inserted.ensures.memory c.loop-number.memory c.loop-number.behind c.loop-number.invariant.filled
