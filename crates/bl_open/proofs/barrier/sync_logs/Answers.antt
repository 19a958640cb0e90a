use Rattle.std.proofs.Common.{◌≡◌, ◌∙◌, get_or, subst, arith, refl, inl, inr}
use Rattle.std.proofs.lemmas.Bool.{cases_lt}
use Rattle.bl_names.specs.declared.name.FileName.TheVariants.{Log}
use Rattle.bl_folder.specs.Settled.{IsSynced}
use Rattle.bl_site.proofs.Quiet.{reading_is_silent, reads_nothing, silent_on}
use Rattle.bl_wal.specs.LogFile.{log_name}
use Rattle.bl_open.proofs.MomentLemmas.{none_files, none_found, none_synced, some_synced, some_then, then_files, then_found}
use Rattle.bl_open.proofs.OutcomeLemmas.{all_logs_synced, there_still}
use Rattle.bl_open.proofs.barrier.sync_logs.Goals as goal

pub sync_file-requires-clause-there : goal.sync_file-requires-clause-there
sync_file-requires-clause-there g c = λ shown.
    let number = get_or c.args.numbers.now c.loop-number.number-index 0 in
    there_still (log_name number) (g.S.Site.disk c.args.site.now) (g.S.Site.disk c.loop-number.site) (c.loop-number.invariant.same shown)
    ((c.requires.logs shown).each c.loop-number.number-index (omega (arith, c.loop-number-test.true)))

pub loop-number-preserved : goal.loop-number-preserved
loop-number-preserved g c =
    let site = g.S.Site in
    let number = get_or c.args.numbers.now c.loop-number.number-index 0 in
    let i = c.loop-number.invariant in
    let one = site.disk c.loop-number.site in
    let two = site.disk c.sync_file.new.site in
    let laws = c.renames_make_disks_steady.ensures in
    record {
      same = λ shown. (laws.syncs (Log number) one two (c.in_ok-sync_file.ensures.done shown)).0 ∙ i.same shown;
      synced = λ shown k lt.
          let s = laws.syncs (Log number) one two (c.in_ok-sync_file.ensures.done shown) in
          elim (cases_lt k c.loop-number.number-index) [
            | inl less ↦ s.2 (Log (get_or c.args.numbers.now k 0)) (i.synced shown k less)
            | inr le ↦ let same : c.loop-number.number-index ≡ k = omega (arith, lt, le) in subst (λ n. IsSynced two (Log (get_or c.args.numbers.now n 0))) same s.1
          ];
      still = λ shown f was. (laws.syncs (Log number) one two (c.in_ok-sync_file.ensures.done shown)).2 f (i.still shown f was);
      kept = λ shown settled. c.in_ok-sync_file.ensures.kept shown (i.kept shown settled);
      only = λ shown name is. c.sync_file.ensures.only shown name (is number (c.requires.numbers c.loop-number.number-index 0 (omega (arith, c.loop-number-test.true)))).0 ∙ i.only shown name is;
      some = λ shown. some_then (site.disk c.args.site.now) one two (i.some shown) (some_synced (log_name number) one two (c.in_ok-sync_file.ensures.done shown));
      finds = λ shown sure.
          then_files site c.args.site.now c.loop-number.site c.sync_file.new.site (g.met.S.Site.remnant shown c.args.site.now) (i.some shown) (i.tells_nothing.told shown) (i.finds shown sure)
          (c.sync_file.ensures.finds shown (i.certain shown sure));
      certain = λ shown sure. c.sync_file.ensures.certain shown (i.certain shown sure);
      before = λ shown.
          then_found site c.args.site.now c.loop-number.site c.sync_file.new.site (g.met.S.Site.counts_now shown c.loop-number.site) (i.tells_nothing.told shown)
          (i.before shown) (c.sync_file.ensures.before shown);
      tells_nothing = silent_on site c.args.site.now c.loop-number.site c.sync_file.new.site i.tells_nothing c.sync_file.ensures.tells_nothing;
    }

pub loop-number-init : goal.loop-number-init
loop-number-init g c =
    let site = g.S.Site in
    let old = c.args.site.now in
    record {
      same = λ shown. refl;
      synced = λ shown k lt. absurd (omega (arith, lt));
      still = λ shown f was. was;
      kept = λ shown settled. settled;
      only = λ shown name is. refl;
      some = λ shown. none_synced (site.disk old) (site.disk old) refl;
      finds = λ shown sure. none_files site old (g.met.S.Site.only_now shown old) (λ other. g.met.S.Site.only shown old other sure);
      certain = λ shown sure. sure;
      before = λ shown. none_found site old (g.met.S.Site.only_now shown old);
      tells_nothing = reading_is_silent site old old (reads_nothing site old);
    }

pub returns-clause-synced : goal.returns-clause-synced
returns-clause-synced g c = λ shown.
    let i = c.loop-number.invariant in
    all_logs_synced c.args.numbers.now (g.S.Site.disk c.args.site.now) (g.S.Site.disk c.loop-number.site) (c.requires.logs shown) (i.same shown)
    (λ k lt. i.synced shown k (omega (arith, lt, c.loop-number-test.false)))

pub returns-in_err-sync_file-clause-before : goal.returns-in_err-sync_file-clause-before
returns-in_err-sync_file-clause-before g c = λ shown.
    let site = g.S.Site in
    let i = c.loop-number.invariant in
    then_found site c.args.site.now c.loop-number.site c.sync_file.new.site (g.met.S.Site.counts_now shown c.loop-number.site) (i.tells_nothing.told shown)
    (i.before shown) (c.sync_file.ensures.before shown)

pub returns-in_err-sync_file-clause-finds : goal.returns-in_err-sync_file-clause-finds
returns-in_err-sync_file-clause-finds g c = λ shown sure.
    let site = g.S.Site in
    let i = c.loop-number.invariant in
    then_files site c.args.site.now c.loop-number.site c.sync_file.new.site (g.met.S.Site.remnant shown c.args.site.now) (i.some shown) (i.tells_nothing.told shown) (i.finds shown sure)
    (c.sync_file.ensures.finds shown (i.certain shown sure))

pub returns-in_err-sync_file-clause-settled : goal.returns-in_err-sync_file-clause-settled
returns-in_err-sync_file-clause-settled g c = λ shown settled chance. c.sync_file.ensures.settled shown (c.loop-number.invariant.kept shown settled) chance

pub returns-in_err-sync_file-clause-only : goal.returns-in_err-sync_file-clause-only
returns-in_err-sync_file-clause-only g c = λ shown name is.
    let number = get_or c.args.numbers.now c.loop-number.number-index 0 in
    c.sync_file.ensures.only shown name (is number (c.requires.numbers c.loop-number.number-index 0 (omega (arith, c.loop-number-test.true)))).0 ∙ c.loop-number.invariant.only shown name is
