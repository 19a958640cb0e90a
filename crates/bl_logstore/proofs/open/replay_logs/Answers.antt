use Rattle.std.proofs.Common.{◌≡◌, ◌+◌, ◌-◌, ◌<◌, ◌∷◌, get_or, drop, length, ap, sym, subst, arith, inl, inr, Err, refl}
use Rattle.std.proofs.lemmas.Result.{err_from_is_err_and}
use Rattle.bl_site.specs.Disk.{Folder, folder_of}
use Rattle.bl_logstore.specs.declared.error.StoreErr.TheVariants.{Corrupt}
use Rattle.bl_logstore.specs.Stored.{map_in}
use Rattle.bl_logstore.specs.Listing.{AreLogsAbove}
use Rattle.bl_logstore.specs.Replaying.{HasReplayed}
use Rattle.bl_site.proofs.Quiet.{reads_nothing, reads_on}
use Rattle.bl_logstore.proofs.NumberLemmas.{passes}
use Rattle.bl_logstore.proofs.ReplayLemmas.{none_replayed, up_to, all_replayed, replayed_at, left_now, none_left}
use Rattle.bl_logstore.proofs.open.replay_logs.Goals as goal

pub loop-number-init : goal.loop-number-init
loop-number-init g c = record {
  bound = omega arith;
  there = λ shown. inl refl;
  left = λ shown. c.requires.logs shown;
  replayed = λ shown. none_replayed (folder_of (g.S.Site.disk c.args.site.now)) (map_in c.new.result.entries) (ap map_in c.new.ensures.empty);
  quiet = reads_nothing g.S.Site c.args.site.now;
}

pub returns-in_err-replay_log-clause-corrupt : goal.returns-in_err-replay_log-clause-corrupt
returns-in_err-replay_log-clause-corrupt g c = λ shown name place is.
    let p = err_from_is_err_and c.from_residual.result c.from_residual.ensures.1 in
    let i = c.loop-number.invariant in
    let number = get_or c.args.numbers.now c.loop-number.number-index 0 in
    let folder = folder_of (g.S.Site.disk c.args.site.now) in
    let same : folder_of (g.S.Site.disk c.loop-number.site) ≡ folder = ap folder_of (i.quiet.stays shown).same in
    let left = left_now c.args.numbers.now c.loop-number.number-index c.loop-number.memory.greatest folder (omega (arith, c.loop-number-test.true)) (i.left shown) in
    let e : c.in_err-replay_log.field-0.0 ≡ Corrupt name place = cc (is, p.1, p.2) in
    let at = replayed_at folder _ number place name (map_in c.loop-number.memory.map.entries) c.loop-number.memory.last same
    (c.in_err-replay_log.ensures.corrupt shown name place (ap Err e)) left.each.0.2 (up_to folder c.loop-number.memory.greatest number _ (map_in c.loop-number.memory.map.entries) c.loop-number.memory.last left (i.replayed shown)) in
    (number, at.0, at.1)

pub loop-number-preserved : goal.loop-number-preserved
loop-number-preserved g c =
    let i = c.loop-number.invariant in
    let number = get_or c.args.numbers.now c.loop-number.number-index 0 in
    let folder = folder_of (g.S.Site.disk c.args.site.now) in
    let lt : c.loop-number.number-index < length c.args.numbers.now = omega (arith, c.loop-number-test.true) in
    let great : c.replay_log.new.memory.greatest ≡ number = c.in_ok-replay_log.ensures.greatest in
    let left : g.S.Site.shows → AreLogsAbove c.loop-number.memory.greatest (number ∷ drop (c.loop-number.number-index + 1) c.args.numbers.now) folder = λ shown. left_now c.args.numbers.now c.loop-number.number-index c.loop-number.memory.greatest folder lt (i.left shown) in
    record {
      bound = let n = c.requires.numbers c.loop-number.number-index 0 lt in omega (arith, n.1, great);
      there = λ shown. rw great (inr ((left shown).each.0.1, (left shown).each.0.2));
      left = λ shown. rw great (passes c.loop-number.memory.greatest number _ folder (left shown));
      replayed = λ shown.
          let same : folder_of (g.S.Site.disk c.loop-number.site) ≡ folder = ap folder_of (i.quiet.stays shown).same in
          let P : Folder → Type 0 = λ f. HasReplayed f number (map_in c.replay_log.new.memory.map.entries) c.replay_log.new.memory.last in
          rw great (subst P same (c.in_ok-replay_log.ensures.replayed shown (let Q : Folder → Type 0 = λ f. HasReplayed f (number - 1) (map_in c.loop-number.memory.map.entries) c.loop-number.memory.last in
          subst Q (sym same) (up_to folder c.loop-number.memory.greatest number _ (map_in c.loop-number.memory.map.entries) c.loop-number.memory.last (left shown) (i.replayed shown)))));
      quiet = reads_on g.S.Site c.args.site.now c.loop-number.site c.replay_log.new.site i.quiet c.replay_log.ensures.quiet;
    }

pub returns-clause-replayed : goal.returns-clause-replayed
returns-clause-replayed g c = λ shown.
    let i = c.loop-number.invariant in
    let folder = folder_of (g.S.Site.disk c.args.site.now) in
    all_replayed folder c.loop-number.memory.greatest (map_in c.loop-number.memory.map.entries) c.loop-number.memory.last (i.there shown)
    (none_left c.args.numbers.now c.loop-number.number-index c.loop-number.memory.greatest folder (omega (arith, c.loop-number-test.false)) (i.left shown)) (i.replayed shown)

pub returns-in_err-replay_log-clause-quiet : goal.returns-in_err-replay_log-clause-quiet
returns-in_err-replay_log-clause-quiet g c = reads_on g.S.Site c.args.site.now c.loop-number.site c.replay_log.new.site c.loop-number.invariant.quiet c.replay_log.ensures.quiet
