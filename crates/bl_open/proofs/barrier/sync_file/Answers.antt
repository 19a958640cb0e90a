use Rattle.std.proofs.Common.{◌≡◌, ◌∙◌, ◌⊎◌, subst}
use Rattle.bl_site.specs.Disk.{Name}
use Rattle.bl_names.specs.Names.{name_of}
use Rattle.bl_site.specs.Calls.{Syncs, Frays}
use Rattle.bl_site.proofs.Images.{sync_outcome}
use Rattle.bl_open.proofs.MomentLemmas.{synced_files, synced_found}
use Rattle.bl_open.proofs.OutcomeLemmas.{sync_settled, synced_others}
use Rattle.bl_open.proofs.barrier.sync_file.Given as given
use Rattle.bl_open.proofs.barrier.sync_file.Goals as goal

failed : (g : given.Over) (c : goal.After-drop-name g) → g.S.Site.shows → (g.S.Site.disk c.sync.new.self ≡ g.S.Site.disk c.args.site.now)
    ⊎ (Syncs c.as_str.result.now (g.S.Site.disk c.args.site.now) (g.S.Site.disk c.sync.new.self) ⊎ Frays c.as_str.result.now (g.S.Site.disk c.args.site.now) (g.S.Site.disk c.sync.new.self))
failed g c shown =
    let a = c.sync.ensures in
    sync_outcome c.as_str.result.now (g.S.Site.disk c.args.site.now) (g.S.Site.disk c.sync.new.self) c.sync.result (a.done shown) (a.failed shown) (λ e. (a.memory shown e).same) a.cause.not_tell

pub returns-in_err-sync-clause-before : goal.returns-in_err-sync-clause-before
returns-in_err-sync-clause-before g c = λ shown.
    let site = g.S.Site in
    let old = c.args.site.now in
    let name = c.as_str.result.now in
    synced_found site name old c.sync.new.self (g.met.S.Site.only_now shown old) (g.met.S.Site.remnant shown old name) (failed g c shown)
    (c.sync.ensures.doubt shown) (c.sync.ensures.told shown) (c.sync.ensures.time shown)

pub returns-in_err-sync-clause-finds : goal.returns-in_err-sync-clause-finds
returns-in_err-sync-clause-finds g c = λ shown sure.
    let site = g.S.Site in
    let old = c.args.site.now in
    let name = c.as_str.result.now in
    synced_files site name old c.sync.new.self (g.met.S.Site.only_now shown old) (λ other. g.met.S.Site.only shown old other sure)
    (λ other. g.met.S.Site.only shown c.sync.new.self other (c.sync.ensures.certain shown sure)) (g.met.S.Site.remnant shown old name) (failed g c shown) (c.sync.ensures.told shown) (c.sync.ensures.time shown)

pub returns-in_err-sync-clause-settled : goal.returns-in_err-sync-clause-settled
returns-in_err-sync-clause-settled g c = λ shown settled chance.
    let site = g.S.Site in
    let old = c.args.site.now in
    let new = c.sync.new.self in
    let P : Name → Type 0 = λ n. (site.disk new ≡ site.disk old) ⊎ (Syncs n (site.disk old) (site.disk new) ⊎ Frays n (site.disk old) (site.disk new)) in
    sync_settled c.renames_make_disks_steady.ensures.kept c.settled_disks_keep_their_files.ensures.syncs c.args.file.now (site.disk old) (site.disk new) c.requires.number (λ other x at. g.met.S.Site.remnant shown old other x at)
    (subst P (c.as_str.ensures.value ∙ c.in_ok-name.ensures) (failed g c shown)) settled chance

done : (g : given.Over) (c : goal.After-drop-name-2 g) → g.S.Site.shows → (g.S.Site.disk c.sync.new.self ≡ g.S.Site.disk c.args.site.now)
    ⊎ (Syncs c.as_str.result.now (g.S.Site.disk c.args.site.now) (g.S.Site.disk c.sync.new.self) ⊎ Frays c.as_str.result.now (g.S.Site.disk c.args.site.now) (g.S.Site.disk c.sync.new.self))
done g c shown =
    let a = c.sync.ensures in
    sync_outcome c.as_str.result.now (g.S.Site.disk c.args.site.now) (g.S.Site.disk c.sync.new.self) c.sync.result (a.done shown) (a.failed shown) (λ e. (a.memory shown e).same) a.cause.not_tell

pub returns-clause-before : goal.returns-clause-before
returns-clause-before g c = λ shown.
    let site = g.S.Site in
    let old = c.args.site.now in
    let name = c.as_str.result.now in
    synced_found site name old c.sync.new.self (g.met.S.Site.only_now shown old) (g.met.S.Site.remnant shown old name) (done g c shown)
    (c.sync.ensures.doubt shown) (c.sync.ensures.told shown) (c.sync.ensures.time shown)

pub returns-clause-finds : goal.returns-clause-finds
returns-clause-finds g c = λ shown sure.
    let site = g.S.Site in
    let old = c.args.site.now in
    let name = c.as_str.result.now in
    synced_files site name old c.sync.new.self (g.met.S.Site.only_now shown old) (λ other. g.met.S.Site.only shown old other sure)
    (λ other. g.met.S.Site.only shown c.sync.new.self other (c.sync.ensures.certain shown sure)) (g.met.S.Site.remnant shown old name) (done g c shown) (c.sync.ensures.told shown) (c.sync.ensures.time shown)

pub returns-clause-settled : goal.returns-clause-settled
returns-clause-settled g c = λ shown settled chance.
    let site = g.S.Site in
    let old = c.args.site.now in
    let new = c.sync.new.self in
    let P : Name → Type 0 = λ n. (site.disk new ≡ site.disk old) ⊎ (Syncs n (site.disk old) (site.disk new) ⊎ Frays n (site.disk old) (site.disk new)) in
    sync_settled c.renames_make_disks_steady.ensures.kept c.settled_disks_keep_their_files.ensures.syncs c.args.file.now (site.disk old) (site.disk new) c.requires.number (λ other x at. g.met.S.Site.remnant shown old other x at)
    (subst P (c.as_str.ensures.value ∙ c.in_ok-name.ensures) (done g c shown)) settled chance

pub returns-clause-kept : goal.returns-clause-kept
returns-clause-kept g c = λ shown settled.
    let old = g.S.Site.disk c.args.site.now in
    let new = g.S.Site.disk c.sync.new.self in
    c.renames_make_disks_steady.ensures.kept c.args.file.now old new c.requires.number
    (subst (λ (n : Name). Syncs n old new) (c.as_str.ensures.value ∙ c.in_ok-name.ensures) (c.in_ok-sync.ensures.done shown)) settled

pub returns-in_err-sync-clause-only : goal.returns-in_err-sync-clause-only
returns-in_err-sync-clause-only g c = λ shown.
    let old = g.S.Site.disk c.args.site.now in
    let new = g.S.Site.disk c.sync.new.self in
    synced_others (name_of c.args.file.now) old new
    (subst (λ (n : Name). (new ≡ old) ⊎ (Syncs n old new ⊎ Frays n old new)) (c.as_str.ensures.value ∙ c.in_ok-name.ensures) (failed g c shown))

pub returns-clause-only : goal.returns-clause-only
returns-clause-only g c = λ shown.
    let old = g.S.Site.disk c.args.site.now in
    let new = g.S.Site.disk c.sync.new.self in
    synced_others (name_of c.args.file.now) old new
    (subst (λ (n : Name). (new ≡ old) ⊎ (Syncs n old new ⊎ Frays n old new)) (c.as_str.ensures.value ∙ c.in_ok-name.ensures) (done g c shown))
