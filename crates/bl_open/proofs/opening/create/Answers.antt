use Rattle.std.proofs.Common.{◌≡◌, None, ap, sym, subst}
use Rattle.std.specs.FinMap.{empty}
use Rattle.std.specs.Prelude.{IfOk, OnOk}
use Rattle.bl_site.specs.Disk.{Folder, folder_of}
use Rattle.bl_folder.specs.Settled.{IsSettled}
use Rattle.bl_open.proofs.KeepLemmas.{kept_before, same_kept}
use Rattle.bl_open.proofs.OpenedLemmas.{nothing_cuts, then_cuts}
use Rattle.bl_open.proofs.MomentLemmas.{none_synced}
use Rattle.bl_open.proofs.ReadLemmas.{reads_make_nothing}
use Rattle.bl_open.specs.Found.{IsLeftAs}
use Rattle.bl_open.specs.Recovering.{IsFullFresh, TakesFresh}
use Rattle.bl_open.proofs.opening.create.Goals as goal

pub returns-in_err-files-clause-cuts : goal.returns-in_err-files-clause-cuts
returns-in_err-files-clause-cuts g c = λ shown settled.
    let laws = g.met.S.Site in
    nothing_cuts g.S.Site shown (λ site. laws.only_now shown site) (λ site. laws.counts_now shown site) (λ site other sure. laws.only shown site other sure) (λ site. laws.remnant shown site) (IsLeftAs None empty) c.args.site.now c.list_files.new.site
    (reads_make_nothing g.S.Site shown (λ site. laws.only_now shown site) (λ site. laws.counts_now shown site) (λ site other sure. laws.only shown site other sure) (λ site. laws.remnant shown site) c.args.site.now c.list_files.new.site c.list_files.ensures.quiet)

pub returns-in_err-files-clause-settled : goal.returns-in_err-files-clause-settled
returns-in_err-files-clause-settled g c = λ shown settled. subst IsSettled (sym (c.list_files.ensures.quiet.stays shown).same) settled

pub returns-clause-takes : goal.returns-clause-takes
returns-clause-takes g c = λ shown.
    let same : folder_of (g.S.Site.disk c.list_files.new.site) ≡ folder_of (g.S.Site.disk c.args.site.now) = ap folder_of (c.list_files.ensures.quiet.stays shown).same in
    subst (λ (f : Folder). IfOk c.create_among.result (TakesFresh f c.args.options.now)) same (c.create_among.ensures.takes shown)

pub returns-clause-opened : goal.returns-clause-opened
returns-clause-opened g c = λ shown maps first. c.create_among.ensures.opened shown maps first

pub returns-clause-cuts : goal.returns-clause-cuts
returns-clause-cuts g c = λ shown settled.
    let laws = g.met.S.Site in
    then_cuts g.S.Site shown (λ site. laws.only_now shown site) (λ site. laws.counts_now shown site) (λ site other sure. laws.only shown site other sure) (λ site. laws.remnant shown site) (IsLeftAs None empty) c.args.site.now c.list_files.new.site c.create_among.new.site
    (none_synced (g.S.Site.disk c.args.site.now) (g.S.Site.disk c.list_files.new.site) (c.list_files.ensures.quiet.stays shown).same)
    (reads_make_nothing g.S.Site shown (λ site. laws.only_now shown site) (λ site. laws.counts_now shown site) (λ site other sure. laws.only shown site other sure) (λ site. laws.remnant shown site) c.args.site.now c.list_files.new.site c.list_files.ensures.quiet)
    (ap folder_of (c.list_files.ensures.quiet.stays shown).same)
    (c.create_among.ensures.cuts shown (subst IsSettled (sym (c.list_files.ensures.quiet.stays shown).same) settled))

pub returns-clause-settled : goal.returns-clause-settled
returns-clause-settled g c = λ shown settled. c.create_among.ensures.settled shown (subst IsSettled (sym (c.list_files.ensures.quiet.stays shown).same) settled)

pub returns-in_err-files-clause-keeps : goal.returns-in_err-files-clause-keeps
returns-in_err-files-clause-keeps g c = λ shown. same_kept _ (g.S.Site.disk c.args.site.now) (g.S.Site.disk c.list_files.new.site) (c.list_files.ensures.quiet.stays shown).same

pub returns-clause-keeps : goal.returns-clause-keeps
returns-clause-keeps g c = λ shown.
    kept_before c.create_among.result (g.S.Site.disk c.args.site.now) (g.S.Site.disk c.list_files.new.site) (g.S.Site.disk c.create_among.new.site) (c.list_files.ensures.quiet.stays shown).same (c.create_among.ensures.keeps shown)

pub returns-clause-full : goal.returns-clause-full
returns-clause-full g c = λ n is.
    let full = c.create_among.ensures.full n is in
    (full.0, λ shown. subst IsFullFresh (ap folder_of (c.list_files.ensures.quiet.stays shown).same) (full.1 shown))

pub returns-clause-enough : goal.returns-clause-enough
returns-clause-enough g c = λ shown.
    subst (λ (f : Folder). OnOk c.create_among.result (IsFullFresh f → ⊥)) (ap folder_of (c.list_files.ensures.quiet.stays shown).same) (c.create_among.ensures.enough shown)
