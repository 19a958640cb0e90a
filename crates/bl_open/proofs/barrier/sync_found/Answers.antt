use Rattle.std.proofs.Common.{◌∙◌, sym, subst}
use Rattle.bl_site.specs.Disk.{Folder}
use Rattle.bl_names.specs.declared.name.FileName.TheVariants.{Manifest}
use Rattle.bl_folder.specs.Stands.{Stands}
use Rattle.bl_open.specs.Found.{IsFoundAs}
use Rattle.bl_names.specs.Names.{manifest_name}
use Rattle.bl_open.proofs.MomentLemmas.{some_synced, some_then, then_files, then_found}
use Rattle.bl_open.proofs.OutcomeLemmas.{logs_still, on_ok_4, on_ok_of, past_barrier}
use Rattle.bl_open.proofs.barrier.sync_found.Goals as goal

pub sync_logs-requires-clause-logs : goal.sync_logs-requires-clause-logs
sync_logs-requires-clause-logs g c = λ shown.
    let old = g.S.Site.disk c.args.site.now in
    let mid = g.S.Site.disk c.sync_file.new.site in
    logs_still c.args.numbers.now old mid (c.renames_make_disks_steady.ensures.syncs (Manifest c.args.manifest) old mid (c.in_ok-sync_file.ensures.done shown)).0 (c.requires.logs shown)

pub returns-clause-same : goal.returns-clause-same
returns-clause-same g c = λ shown.
    let old = g.S.Site.disk c.args.site.now in
    let mid = g.S.Site.disk c.sync_file.new.site in
    on_ok_of c.sync_logs.result _ _ (c.sync_logs.ensures.same shown) (λ same. same ∙ (c.renames_make_disks_steady.ensures.syncs (Manifest c.args.manifest) old mid (c.in_ok-sync_file.ensures.done shown)).0)

pub returns-clause-past : goal.returns-clause-past
returns-clause-past g c = λ shown current.
    let old = g.S.Site.disk c.args.site.now in
    let mid = g.S.Site.disk c.sync_file.new.site in
    let new = g.S.Site.disk c.sync_logs.new.site in
    let s = c.renames_make_disks_steady.ensures.syncs (Manifest c.args.manifest) old mid (c.in_ok-sync_file.ensures.done shown) in
    on_ok_4 c.sync_logs.result _ _ _ _ _ (c.sync_logs.ensures.same shown) (c.sync_logs.ensures.synced shown) (c.sync_logs.ensures.still shown) (c.sync_logs.ensures.same shown)
    (λ same synced still twice. past_barrier c.text_names_one.ensures c.args.manifest old new c.requires.manifest current (same ∙ s.0) (still (Manifest c.args.manifest) s.1) synced)

pub returns-clause-rests : goal.returns-clause-rests
returns-clause-rests g c = λ shown found m current is settled stands.
    let old = g.S.Site.disk c.args.site.now in
    let mid = g.S.Site.disk c.sync_file.new.site in
    let new = g.S.Site.disk c.sync_logs.new.site in
    let s = c.renames_make_disks_steady.ensures.syncs (Manifest c.args.manifest) old mid (c.in_ok-sync_file.ensures.done shown) in
    on_ok_4 c.sync_logs.result _ _ _ _ _ (c.sync_logs.ensures.same shown) (c.sync_logs.ensures.synced shown) (c.sync_logs.ensures.still shown) (c.sync_logs.ensures.kept shown (c.in_ok-sync_file.ensures.kept shown settled))
    (λ same synced still kept.
    let past = past_barrier c.text_names_one.ensures c.args.manifest old new c.requires.manifest current (same ∙ s.0) (still (Manifest c.args.manifest) s.1) synced in
    c.barriers_let_disks_rest.ensures.settled found m new (subst (λ (f : Folder). IsFoundAs found f) (sym (same ∙ s.0)) is) kept (subst (λ (f : Folder). Stands f m) (sym (same ∙ s.0)) stands) past)

pub returns-clause-before : goal.returns-clause-before
returns-clause-before g c = λ shown.
    let site = g.S.Site in
    then_found site c.args.site.now c.sync_file.new.site c.sync_logs.new.site (g.met.S.Site.counts_now shown c.sync_file.new.site) (c.sync_file.ensures.tells_nothing.told shown)
    (c.sync_file.ensures.before shown) (c.sync_logs.ensures.before shown)

pub returns-clause-finds : goal.returns-clause-finds
returns-clause-finds g c = λ shown sure.
    let site = g.S.Site in
    let old = c.args.site.now in
    let mid = c.sync_file.new.site in
    then_files site old mid c.sync_logs.new.site (g.met.S.Site.remnant shown old) (some_synced (manifest_name c.args.manifest) (site.disk old) (site.disk mid) (c.in_ok-sync_file.ensures.done shown))
    (c.sync_file.ensures.tells_nothing.told shown) (c.sync_file.ensures.finds shown sure) (c.sync_logs.ensures.finds shown (c.sync_file.ensures.certain shown sure))

pub returns-clause-some : goal.returns-clause-some
returns-clause-some g c = λ shown.
    let old = g.S.Site.disk c.args.site.now in
    let mid = g.S.Site.disk c.sync_file.new.site in
    let new = g.S.Site.disk c.sync_logs.new.site in
    on_ok_of c.sync_logs.result _ _ (c.sync_logs.ensures.some shown) (λ some. some_then old mid new (some_synced (manifest_name c.args.manifest) old mid (c.in_ok-sync_file.ensures.done shown)) some)

pub returns-clause-settled : goal.returns-clause-settled
returns-clause-settled g c = λ shown settled chance. c.sync_logs.ensures.settled shown (c.in_ok-sync_file.ensures.kept shown settled) chance

pub returns-in_err-sync_file-clause-only : goal.returns-in_err-sync_file-clause-only
returns-in_err-sync_file-clause-only g c = λ shown name is. c.sync_file.ensures.only shown name (is c.args.manifest c.requires.manifest).1

pub returns-clause-only : goal.returns-clause-only
returns-clause-only g c = λ shown name is. c.sync_logs.ensures.only shown name is ∙ c.sync_file.ensures.only shown name (is c.args.manifest c.requires.manifest).1
