use Rattle.std.proofs.Common.{◌≡◌, get_or, ap, sym, ◌∙◌, subst, arith, refl, inl, inr, IsSome}
use Rattle.std.proofs.lemmas.Bool.{cases_lt}
use Rattle.bl_site.specs.Disk.{File, Folder, MayLeave}
use Rattle.bl_site.proofs.Quiet.{reads_nothing, reading_is_silent, silent_on}
use Rattle.bl_wal.specs.LogFile.{log_name}
use Rattle.bl_logstore.proofs.FolderLemmas.{sync_keeps, sync_syncs, was_some, at_place, all_synced}
use Rattle.bl_logstore.proofs.CutLemmas.{no_call, all_found, then_left, then_found, sync_reads}
use Rattle.bl_logstore.proofs.BehindLemmas.{no_call_no_new, then_no_new}
use Rattle.bl_logstore.proofs.OtherLemmas.{others_then, then_makes_no_file}
use Rattle.bl_logstore.proofs.open.sync_logs.Goals as goal

pub sync_log-requires-clause-there : goal.sync_log-requires-clause-there
sync_log-requires-clause-there g c = λ shown.
    let number = get_or c.args.numbers.now c.loop-number.number-index 0 in
    let P : Folder → Type 0 = λ f. IsSome (f (log_name number)) in
    let each = at_place _ c.args.numbers.now c.loop-number.number-index (omega (arith, c.loop-number-test.true)) (c.requires.logs shown).each in
    was_some (λ (file : File). file.read) (g.S.Site.disk c.loop-number.site (log_name number)) (subst P (sym (c.loop-number.invariant.same shown)) each.2)

pub loop-number-preserved : goal.loop-number-preserved
loop-number-preserved g c =
    let number = get_or c.args.numbers.now c.loop-number.number-index 0 in
    let i = c.loop-number.invariant in
    record {
      same = λ shown. sync_keeps (log_name number) (g.S.Site.disk c.loop-number.site) (g.S.Site.disk c.sync_log.new.site) (c.in_ok-sync_log.ensures.done shown) ∙ i.same shown;
      synced = λ shown k lt.
          sync_syncs (log_name number) (log_name (get_or c.args.numbers.now k 0)) (g.S.Site.disk c.loop-number.site) (g.S.Site.disk c.sync_log.new.site) (c.in_ok-sync_log.ensures.done shown)
          (elim (cases_lt k c.loop-number.number-index) [
            | inl less ↦ inr (i.synced shown k less)
            | inr le ↦ inl (let same : k ≡ c.loop-number.number-index = omega (arith, lt, le) in ap (λ n. log_name (get_or c.args.numbers.now n 0)) same)
          ]);
      others = λ shown. others_then (g.S.Site.disk c.args.site.now) (g.S.Site.disk c.loop-number.site) (g.S.Site.disk c.sync_log.new.site) (i.others shown) (c.sync_log.ensures.others shown);
      no_file = λ shown. then_makes_no_file (g.S.Site.disk c.args.site.now) (g.S.Site.disk c.loop-number.site) (g.S.Site.disk c.sync_log.new.site) (i.no_file shown) (c.sync_log.ensures.no_file shown);
      no_new = λ shown sure.
          let site = g.S.Site in
          then_no_new site c.args.site.now c.loop-number.site c.sync_log.new.site (i.no_file shown) (i.no_new shown sure)
          (c.sync_log.ensures.no_new shown (i.certain shown sure));
      certain = λ shown sure. c.sync_log.ensures.certain shown (i.certain shown sure);
      before = λ shown.
          let site = g.S.Site in
          then_found site c.args.site.now c.loop-number.site c.sync_log.new.site (g.met.S.Site.counts_now shown c.loop-number.site) (i.tells_nothing.told shown)
          (i.before shown) (c.sync_log.ensures.before shown);
      cuts = λ shown reads.
          let site = g.S.Site in
          let here = i.cuts shown reads in (
            sync_reads (log_name number) (site.disk c.loop-number.site) (site.disk c.sync_log.new.site) (c.in_ok-sync_log.ensures.done shown) here.0,
            then_left site c.args.site.now c.loop-number.site c.sync_log.new.site (MayLeave (site.may_be c.args.site.now) (site.told c.args.site.now))
                (g.met.S.Site.counts_now shown c.loop-number.site) here.1 (c.sync_log.ensures.cuts shown here.0),
          );
      tells_nothing = silent_on g.S.Site c.args.site.now c.loop-number.site c.sync_log.new.site i.tells_nothing c.sync_log.ensures.tells_nothing;
    }

pub returns-clause-synced : goal.returns-clause-synced
returns-clause-synced g c = λ shown.
    let i = c.loop-number.invariant in
    all_synced c.args.numbers.now (g.S.Site.disk c.args.site.now) (g.S.Site.disk c.loop-number.site) (c.requires.logs shown) (i.same shown)
    (λ k lt. i.synced shown k (omega (arith, lt, c.loop-number-test.false)))

pub returns-in_err-sync_log-clause-others : goal.returns-in_err-sync_log-clause-others
returns-in_err-sync_log-clause-others g c = λ shown.
    others_then (g.S.Site.disk c.args.site.now) (g.S.Site.disk c.loop-number.site) (g.S.Site.disk c.sync_log.new.site) (c.loop-number.invariant.others shown) (c.sync_log.ensures.others shown)

pub returns-in_err-sync_log-clause-before : goal.returns-in_err-sync_log-clause-before
returns-in_err-sync_log-clause-before g c = λ shown.
    let site = g.S.Site in
    let i = c.loop-number.invariant in
    then_found site c.args.site.now c.loop-number.site c.sync_log.new.site (g.met.S.Site.counts_now shown c.loop-number.site) (i.tells_nothing.told shown)
    (i.before shown) (c.sync_log.ensures.before shown)

pub returns-in_err-sync_log-clause-cuts : goal.returns-in_err-sync_log-clause-cuts
returns-in_err-sync_log-clause-cuts g c = λ shown reads.
    let site = g.S.Site in
    let here = c.loop-number.invariant.cuts shown reads in
    then_left site c.args.site.now c.loop-number.site c.sync_log.new.site (MayLeave (site.may_be c.args.site.now) (site.told c.args.site.now))
    (g.met.S.Site.counts_now shown c.loop-number.site) here.1 (c.sync_log.ensures.cuts shown here.0)

pub loop-number-init : goal.loop-number-init
loop-number-init g c =
    let site = g.S.Site in
    let old = c.args.site.now in
    record {
      same = λ shown. refl;
      synced = λ shown k lt. absurd (omega (arith, lt));
      others = λ shown name ne. refl;
      no_file = λ shown name some. some;
      no_new = λ shown sure. no_call_no_new site.clock site.left_since site.disk site.told site.may_be old (λ other. g.met.S.Site.only shown old other sure) (g.met.S.Site.only_now shown old);
      certain = λ shown sure. sure;
      before = λ shown. all_found site old old (no_call site old (g.met.S.Site.only_now shown old));
      cuts = λ shown reads. (reads, no_call site old (g.met.S.Site.only_now shown old));
      tells_nothing = reading_is_silent site old old (reads_nothing site old);
    }

pub returns-in_err-sync_log-clause-no_file : goal.returns-in_err-sync_log-clause-no_file
returns-in_err-sync_log-clause-no_file g c = λ shown.
    then_makes_no_file (g.S.Site.disk c.args.site.now) (g.S.Site.disk c.loop-number.site) (g.S.Site.disk c.sync_log.new.site) (c.loop-number.invariant.no_file shown) (c.sync_log.ensures.no_file shown)

pub returns-in_err-sync_log-clause-no_new : goal.returns-in_err-sync_log-clause-no_new
returns-in_err-sync_log-clause-no_new g c = λ shown sure.
    let site = g.S.Site in
    let i = c.loop-number.invariant in
    then_no_new site c.args.site.now c.loop-number.site c.sync_log.new.site (i.no_file shown) (i.no_new shown sure)
    (c.sync_log.ensures.no_new shown (i.certain shown sure))

pub returns-in_err-sync_log-clause-tells_nothing : goal.returns-in_err-sync_log-clause-tells_nothing
returns-in_err-sync_log-clause-tells_nothing g c = silent_on g.S.Site c.args.site.now c.loop-number.site c.sync_log.new.site c.loop-number.invariant.tells_nothing c.sync_log.ensures.tells_nothing
