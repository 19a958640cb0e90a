use Rattle.std.proofs.Common.{◌∙◌, ap, sym, subst}
use Rattle.bl_site.specs.Disk.{Name}
use Rattle.bl_logstore.specs.Stored.{KeepsAllBut}
use Rattle.bl_logstore.proofs.OtherLemmas.{log_alone, sync_alone, sync_makes_no_file}
use Rattle.bl_site.proofs.Images.{sync_outcome}
use Rattle.bl_logstore.proofs.BehindLemmas.{call_no_new, no_call_no_new}
use Rattle.bl_logstore.proofs.CutLemmas.{SyncsOnce, once_found, once_left}
use Rattle.bl_logstore.proofs.open.sync_log.Given as given
use Rattle.bl_logstore.proofs.open.sync_log.Goals as goal

-- a sync that fails
failed : (g : given.Over) (c : goal.After-drop-name g) → g.S.Site.shows → SyncsOnce g.S.Site c.as_str.result.now c.args.site.now c.sync.new.self
failed g c shown =
    let site = g.S.Site in
    let old = c.args.site.now in
    let name = c.as_str.result.now in
    let answer = c.sync.ensures in
    record {
      only = g.met.S.Site.only_now shown old;
      remnant = g.met.S.Site.remnant shown old name;
      outcome = sync_outcome name (site.disk old) (site.disk c.sync.new.self) c.sync.result (answer.done shown) (answer.failed shown) (λ e. (answer.memory shown e).same) answer.cause.not_tell;
      follows = answer.doubt shown;
      told_same = answer.told shown;
      time = answer.time shown;
    }

pub returns-in_err-sync-clause-before : goal.returns-in_err-sync-clause-before
returns-in_err-sync-clause-before g c = λ shown.
    let site = g.S.Site in
    once_found site c.as_str.result.now c.args.site.now c.sync.new.self (failed g c shown)

pub returns-in_err-sync-clause-cuts : goal.returns-in_err-sync-clause-cuts
returns-in_err-sync-clause-cuts g c = λ shown reads.
    let site = g.S.Site in
    once_left site c.as_str.result.now c.args.site.now c.sync.new.self (failed g c shown)
    (λ file is. reads c.args.number file c.requires.number (ap (site.disk c.args.site.now) (sym (c.as_str.ensures.value ∙ c.in_ok-name.ensures)) ∙ is))

-- and one that is done
done : (g : given.Over) (c : goal.After-drop-name-2 g) → g.S.Site.shows → SyncsOnce g.S.Site c.as_str.result.now c.args.site.now c.sync.new.self
done g c shown =
    let site = g.S.Site in
    let old = c.args.site.now in
    let name = c.as_str.result.now in
    let answer = c.sync.ensures in
    record {
      only = g.met.S.Site.only_now shown old;
      remnant = g.met.S.Site.remnant shown old name;
      outcome = sync_outcome name (site.disk old) (site.disk c.sync.new.self) c.sync.result (answer.done shown) (answer.failed shown) (λ e. (answer.memory shown e).same) answer.cause.not_tell;
      follows = answer.doubt shown;
      told_same = answer.told shown;
      time = answer.time shown;
    }

pub returns-in_err-sync-clause-others : goal.returns-in_err-sync-clause-others
returns-in_err-sync-clause-others g c = λ shown.
    let P : Name → Type 0 = λ n. KeepsAllBut n (g.S.Site.disk c.args.site.now) (g.S.Site.disk c.sync.new.self) in
    log_alone c.args.number _ _ c.requires.number (subst P (c.as_str.ensures.value ∙ c.in_ok-name.ensures) (sync_alone c.as_str.result.now _ _ (failed g c shown).outcome))

pub returns-clause-others : goal.returns-clause-others
returns-clause-others g c = λ shown.
    let P : Name → Type 0 = λ n. KeepsAllBut n (g.S.Site.disk c.args.site.now) (g.S.Site.disk c.sync.new.self) in
    log_alone c.args.number _ _ c.requires.number (subst P (c.as_str.ensures.value ∙ c.in_ok-name.ensures) (sync_alone c.as_str.result.now _ _ (done g c shown).outcome))

pub returns-clause-before : goal.returns-clause-before
returns-clause-before g c = λ shown.
    let site = g.S.Site in
    once_found site c.as_str.result.now c.args.site.now c.sync.new.self (done g c shown)

pub returns-clause-cuts : goal.returns-clause-cuts
returns-clause-cuts g c = λ shown reads.
    let site = g.S.Site in
    once_left site c.as_str.result.now c.args.site.now c.sync.new.self (done g c shown)
    (λ file is. reads c.args.number file c.requires.number (ap (site.disk c.args.site.now) (sym (c.as_str.ensures.value ∙ c.in_ok-name.ensures)) ∙ is))

pub returns-in_err-sync-clause-no_file : goal.returns-in_err-sync-clause-no_file
returns-in_err-sync-clause-no_file g c = λ shown. sync_makes_no_file c.as_str.result.now _ _ (failed g c shown).outcome

pub returns-clause-no_file : goal.returns-clause-no_file
returns-clause-no_file g c = λ shown. sync_makes_no_file c.as_str.result.now _ _ (done g c shown).outcome

pub returns-in_err-sync-clause-no_new : goal.returns-in_err-sync-clause-no_new
returns-in_err-sync-clause-no_new g c = λ shown sure.
    let site = g.S.Site in
    let old = c.args.site.now in
    call_no_new site old c.sync.new.self (sync_makes_no_file c.as_str.result.now _ _ (failed g c shown).outcome)
    (no_call_no_new site.clock site.left_since site.disk site.told site.may_be old (λ other. g.met.S.Site.only shown old other sure) (g.met.S.Site.only_now shown old)) (c.sync.ensures.time shown)
    (λ other. g.met.S.Site.only shown c.sync.new.self other (c.sync.ensures.certain shown sure))

pub returns-clause-no_new : goal.returns-clause-no_new
returns-clause-no_new g c = λ shown sure.
    let site = g.S.Site in
    let old = c.args.site.now in
    call_no_new site old c.sync.new.self (sync_makes_no_file c.as_str.result.now _ _ (done g c shown).outcome)
    (no_call_no_new site.clock site.left_since site.disk site.told site.may_be old (λ other. g.met.S.Site.only shown old other sure) (g.met.S.Site.only_now shown old)) (c.sync.ensures.time shown)
    (λ other. g.met.S.Site.only shown c.sync.new.self other (c.sync.ensures.certain shown sure))

pub returns-in_err-name-clause-no_new : goal.returns-in_err-name-clause-no_new
returns-in_err-name-clause-no_new g c = λ shown sure.
    let site = g.S.Site in
    let old = c.args.site.now in
    no_call_no_new site.clock site.left_since site.disk site.told site.may_be old (λ other. g.met.S.Site.only shown old other sure) (g.met.S.Site.only_now shown old)
