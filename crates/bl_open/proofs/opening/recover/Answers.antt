use Rattle.std.proofs.Common.{◌≡◌, ◌∙◌, List, [], None, inl, inr, ⊎_elim, Err, ap, sym, subst}
use Rattle.std.proofs.lemmas.Result.{err_from_is_err_and}
use Rattle.std.specs.FinMap.{empty}
use Rattle.std.specs.Prelude.{IfErr, IfOk, OnOk}
use Rattle.bl_site.specs.Disk.{Folder, folder_of}
use Rattle.bl_entry.specs.Revisions.{Map}
use Rattle.bl_edit.specs.Options.{Values}
use Rattle.bl_records.specs.Causes.{IsCause}
use Rattle.bl_folder.specs.Live.{IsFresh}
use Rattle.bl_folder.specs.Settled.{IsSettled}
use Rattle.bl_folder.specs.Stands.{IsSoundFolder, Stands}
use Rattle.bl_open.proofs.AnswerLemmas.{reading_not_full, reading_refused}
use Rattle.bl_open.proofs.FullLemmas.{fresh_only, on_ok_too}
use Rattle.bl_open.proofs.KeepLemmas.{kept_before, same_kept}
use Rattle.bl_open.proofs.OpenedLemmas.{answers_before, cause_not_full, cause_silent, cuts_so, each_ok, fresh_is_empty, no_telling, none_if, nothing_cuts, silent_same, then_cuts}
use Rattle.bl_open.proofs.MomentLemmas.{none_synced}
use Rattle.bl_open.proofs.ReadLemmas.{reads_make_nothing, then_reads}
use Rattle.bl_open.specs.Found.{IsLeftAs, IsLeftStanding}
use Rattle.bl_open.specs.SteadyCuts.{IsLeftFor}
use Rattle.bl_open.proofs.RefusalLemmas.{due_of, fresh_not_refused, none_refused}
use Rattle.bl_open.specs.Answers.{IsReading}
use Rattle.bl_names.specs.declared.name.FileName.{FileName}
use Rattle.bl_names.specs.declared.name.FileName.TheVariants.{Current}
use Rattle.bl_out.specs.Files.{file}
use Rattle.bl_open.specs.Listing.{AreListed, IsFirstStray}
use Rattle.bl_open.specs.Beginning.{IsOpened, IsOpenedAsSynced}
use Rattle.bl_open.specs.Recovering.{CutsAtBarrier, IsFull, IsFullFresh, IsRefusal, TakesFresh, TakesOver}
use Rattle.bl_open.specs.declared.error.OpenErr.TheVariants.{Disk as DiskFailed, OutOfMemory}
use Rattle.bl_open.proofs.opening.recover.Goals as goal

pub returns-in_err-files-clause-cuts : goal.returns-in_err-files-clause-cuts
returns-in_err-files-clause-cuts g c = λ shown settled m stands.
    let laws = g.met.S.Site in
    let site = g.S.Site in
    let s0 = c.args.site.now in
    let s1 = c.list_files.new.site in
    let n1 = reads_make_nothing site shown (λ x. laws.only_now shown x) (λ x. laws.counts_now shown x) (λ x other sure. laws.only shown x other sure) (λ x. laws.remnant shown x) s0 s1 c.list_files.ensures.quiet in
    nothing_cuts site shown (λ x. laws.only_now shown x) (λ x. laws.counts_now shown x) (λ x other sure. laws.only shown x other sure) (λ x. laws.remnant shown x) (IsLeftStanding (folder_of (site.disk s0)) m) s0 s1 n1

pub returns-in_err-files-clause-settled : goal.returns-in_err-files-clause-settled
returns-in_err-files-clause-settled g c = λ shown settled sound no_chance. subst IsSettled (sym (c.list_files.ensures.quiet.stays shown).same) settled

pub returns-in_err-files-clause-answers : goal.returns-in_err-files-clause-answers
returns-in_err-files-clause-answers g c = λ shown.
    let folder = folder_of (g.S.Site.disk c.args.site.now) in
    let p = err_from_is_err_and c.from_residual.result c.from_residual.ensures.1 in
    let cause = subst (IsCause DiskFailed OutOfMemory) (sym p.2) c.in_err-files.ensures.causes in
    due_of c.damage_is_one.ensures.one c.folders_stand_for_one_map.ensures.live c.lacking_folders_are_not_live.ensures.live folder c.args.asked.now p.0 c.from_residual.result p.1
    (λ tells. absurd (cause_silent p.0 cause tells))
    (λ n full. absurd (cause_not_full p.0 n cause full))

pub returns-in_err-files-clause-same : goal.returns-in_err-files-clause-same
returns-in_err-files-clause-same g c = λ shown.
    let p = err_from_is_err_and c.from_residual.result c.from_residual.ensures.1 in
    rw p.1 (λ tells. ap folder_of (c.list_files.ensures.quiet.stays shown).same)

pub returns-then-has_file-clause-takes : goal.returns-then-has_file-clause-takes
returns-then-has_file-clause-takes g c = λ shown.
    let laws = g.met.S.Site in
    let site = g.S.Site in
    let s0 = c.args.site.now in
    let s1 = c.list_files.new.site in
    let stays1 : site.disk s1 ≡ site.disk s0 = (c.list_files.ensures.quiet.stays shown).same in
    let same1 : folder_of (site.disk s1) ≡ folder_of (site.disk s0) = ap folder_of stays1 in
    subst (λ (f : Folder). IfOk c.recover_live.result (TakesOver f c.args.asked.now)) same1 (c.recover_live.ensures.takes shown)

pub returns-then-has_file-clause-opened : goal.returns-then-has_file-clause-opened
returns-then-has_file-clause-opened g c = λ shown settled m stands maps first.
    let laws = g.met.S.Site in
    let site = g.S.Site in
    let s0 = c.args.site.now in
    let s1 = c.list_files.new.site in
    let stays1 : site.disk s1 ≡ site.disk s0 = (c.list_files.ensures.quiet.stays shown).same in
    let same1 : folder_of (site.disk s1) ≡ folder_of (site.disk s0) = ap folder_of stays1 in
    c.recover_live.ensures.opened shown (subst IsSettled (sym stays1) settled) m (subst (λ (f : Folder). Stands f m) (sym same1) stands) maps first

pub returns-then-has_file-clause-cuts : goal.returns-then-has_file-clause-cuts
returns-then-has_file-clause-cuts g c = λ shown settled m stands.
    let laws = g.met.S.Site in
    let site = g.S.Site in
    let s0 = c.args.site.now in
    let s1 = c.list_files.new.site in
    let stays1 : site.disk s1 ≡ site.disk s0 = (c.list_files.ensures.quiet.stays shown).same in
    let same1 : folder_of (site.disk s1) ≡ folder_of (site.disk s0) = ap folder_of stays1 in
    let n1 = reads_make_nothing site shown (λ x. laws.only_now shown x) (λ x. laws.counts_now shown x) (λ x other sure. laws.only shown x other sure) (λ x. laws.remnant shown x) s0 s1 c.list_files.ensures.quiet in
    cuts_so site (IsLeftFor m) (IsLeftStanding (folder_of (site.disk s0)) m) s0 c.recover_live.new.site (λ x left. inr left)
    (then_cuts site shown (λ x. laws.only_now shown x) (λ x. laws.counts_now shown x) (λ x other sure. laws.only shown x other sure) (λ x. laws.remnant shown x) (IsLeftFor m) s0 s1 c.recover_live.new.site (none_synced (site.disk s0) (site.disk s1) stays1) n1 same1
    (c.recover_live.ensures.cuts shown (subst IsSettled (sym stays1) settled) m (subst (λ (f : Folder). Stands f m) (sym same1) stands)))

pub returns-then-has_file-clause-settled : goal.returns-then-has_file-clause-settled
returns-then-has_file-clause-settled g c = λ shown settled sound no_chance.
    let laws = g.met.S.Site in
    let site = g.S.Site in
    let s0 = c.args.site.now in
    let s1 = c.list_files.new.site in
    let stays1 : site.disk s1 ≡ site.disk s0 = (c.list_files.ensures.quiet.stays shown).same in
    let same1 : folder_of (site.disk s1) ≡ folder_of (site.disk s0) = ap folder_of stays1 in
    c.recover_live.ensures.settled shown (subst IsSettled (sym stays1) settled) (subst IsSoundFolder (sym same1) sound) no_chance

pub returns-then-has_file-clause-answers : goal.returns-then-has_file-clause-answers
returns-then-has_file-clause-answers g c = λ shown.
    let laws = g.met.S.Site in
    let site = g.S.Site in
    let s0 = c.args.site.now in
    let s1 = c.list_files.new.site in
    let stays1 : site.disk s1 ≡ site.disk s0 = (c.list_files.ensures.quiet.stays shown).same in
    let same1 : folder_of (site.disk s1) ≡ folder_of (site.disk s0) = ap folder_of stays1 in
    answers_before (folder_of (site.disk s1)) (folder_of (site.disk s0)) c.args.asked.now c.recover_live.result same1 (c.recover_live.ensures.answers shown)

pub returns-then-has_file-clause-same : goal.returns-then-has_file-clause-same
returns-then-has_file-clause-same g c = λ shown.
    let laws = g.met.S.Site in
    let site = g.S.Site in
    let s0 = c.args.site.now in
    let s1 = c.list_files.new.site in
    let stays1 : site.disk s1 ≡ site.disk s0 = (c.list_files.ensures.quiet.stays shown).same in
    let same1 : folder_of (site.disk s1) ≡ folder_of (site.disk s0) = ap folder_of stays1 in
    subst (λ (f : Folder). IfErr c.recover_live.result (λ e. IsRefusal e → folder_of (site.disk c.recover_live.new.site) ≡ f)) same1 (c.recover_live.ensures.same shown)

pub returns-in_err-check_fresh-clause-cuts : goal.returns-in_err-check_fresh-clause-cuts
returns-in_err-check_fresh-clause-cuts g c = λ shown settled m stands.
    let laws = g.met.S.Site in
    let site = g.S.Site in
    let s0 = c.args.site.now in
    let s1 = c.list_files.new.site in
    let n1 = reads_make_nothing site shown (λ x. laws.only_now shown x) (λ x. laws.counts_now shown x) (λ x other sure. laws.only shown x other sure) (λ x. laws.remnant shown x) s0 s1 c.list_files.ensures.quiet in
    let n2 = then_reads site shown (λ x. laws.only_now shown x) (λ x. laws.counts_now shown x) (λ x other sure. laws.only shown x other sure) (λ x. laws.remnant shown x) s0 s1 c.check_fresh.new.site (none_synced (site.disk s0) (site.disk s1) (c.list_files.ensures.quiet.stays shown).same) n1 c.check_fresh.ensures.quiet in
    nothing_cuts site shown (λ x. laws.only_now shown x) (λ x. laws.counts_now shown x) (λ x other sure. laws.only shown x other sure) (λ x. laws.remnant shown x) (IsLeftStanding (folder_of (site.disk s0)) m) s0 c.check_fresh.new.site n2

pub returns-in_err-check_fresh-clause-settled : goal.returns-in_err-check_fresh-clause-settled
returns-in_err-check_fresh-clause-settled g c = λ shown settled sound no_chance.
    let laws = g.met.S.Site in
    let site = g.S.Site in
    let s0 = c.args.site.now in
    let s1 = c.list_files.new.site in
    let stays1 : site.disk s1 ≡ site.disk s0 = (c.list_files.ensures.quiet.stays shown).same in
    let same1 : folder_of (site.disk s1) ≡ folder_of (site.disk s0) = ap folder_of stays1 in
    let stays2 : site.disk c.check_fresh.new.site ≡ site.disk s0 = (c.check_fresh.ensures.quiet.stays shown).same ∙ stays1 in
    let same2 : folder_of (site.disk c.check_fresh.new.site) ≡ folder_of (site.disk s0) = ap folder_of stays2 in
    subst IsSettled (sym stays2) settled

pub returns-in_err-check_fresh-clause-answers : goal.returns-in_err-check_fresh-clause-answers
returns-in_err-check_fresh-clause-answers g c = λ shown.
    let laws = g.met.S.Site in
    let site = g.S.Site in
    let s0 = c.args.site.now in
    let s1 = c.list_files.new.site in
    let stays1 : site.disk s1 ≡ site.disk s0 = (c.list_files.ensures.quiet.stays shown).same in
    let same1 : folder_of (site.disk s1) ≡ folder_of (site.disk s0) = ap folder_of stays1 in
    let folder = folder_of (site.disk s0) in
    let p = err_from_is_err_and c.from_residual-in_err-check_fresh.result c.from_residual-in_err-check_fresh.ensures.1 in
    let reading = subst IsReading (sym p.2) c.in_err-check_fresh.ensures.causes in
    due_of c.damage_is_one.ensures.one c.folders_stand_for_one_map.ensures.live c.lacking_folders_are_not_live.ensures.live folder c.args.asked.now p.0 c.from_residual-in_err-check_fresh.result p.1
    (reading_refused folder c.args.asked.now p.0 reading (λ name place e. inl (inl (subst (λ (f : Folder). IsFirstStray f name × (place ≡ 0)) same1 (c.in_err-check_fresh.ensures.corrupt shown name place (ap Err (sym p.2 ∙ e)))))))
    (λ n full. absurd (reading_not_full p.0 n reading full))

pub returns-in_err-check_fresh-clause-same : goal.returns-in_err-check_fresh-clause-same
returns-in_err-check_fresh-clause-same g c = λ shown.
    let laws = g.met.S.Site in
    let site = g.S.Site in
    let s0 = c.args.site.now in
    let s1 = c.list_files.new.site in
    let stays1 : site.disk s1 ≡ site.disk s0 = (c.list_files.ensures.quiet.stays shown).same in
    let same1 : folder_of (site.disk s1) ≡ folder_of (site.disk s0) = ap folder_of stays1 in
    let stays2 : site.disk c.check_fresh.new.site ≡ site.disk s0 = (c.check_fresh.ensures.quiet.stays shown).same ∙ stays1 in
    let same2 : folder_of (site.disk c.check_fresh.new.site) ≡ folder_of (site.disk s0) = ap folder_of stays2 in
    let p = err_from_is_err_and c.from_residual-in_err-check_fresh.result c.from_residual-in_err-check_fresh.ensures.1 in
    rw p.1 (λ tells. same2)

pub returns-clause-takes : goal.returns-clause-takes
returns-clause-takes g c = λ shown.
    let laws = g.met.S.Site in
    let site = g.S.Site in
    let s0 = c.args.site.now in
    let s1 = c.list_files.new.site in
    let stays1 : site.disk s1 ≡ site.disk s0 = (c.list_files.ensures.quiet.stays shown).same in
    let same1 : folder_of (site.disk s1) ≡ folder_of (site.disk s0) = ap folder_of stays1 in
    let stays2 : site.disk c.check_fresh.new.site ≡ site.disk s0 = (c.check_fresh.ensures.quiet.stays shown).same ∙ stays1 in
    let same2 : folder_of (site.disk c.check_fresh.new.site) ≡ folder_of (site.disk s0) = ap folder_of stays2 in
    each_ok c.create_among.result (TakesFresh (folder_of (site.disk c.check_fresh.new.site)) c.new_options.result) (TakesOver (folder_of (site.disk s0)) c.args.asked.now)
    (λ o t. inl (subst (λ (v : Values). TakesFresh (folder_of (site.disk s0)) v o) c.new_options.ensures (subst (λ (f : Folder). TakesFresh f c.new_options.result o) same2 t)))
    (c.create_among.ensures.takes shown)

pub returns-clause-opened : goal.returns-clause-opened
returns-clause-opened g c = λ shown settled m stands maps first.
    let laws = g.met.S.Site in
    let site = g.S.Site in
    let s0 = c.args.site.now in
    let s1 = c.list_files.new.site in
    let stays1 : site.disk s1 ≡ site.disk s0 = (c.list_files.ensures.quiet.stays shown).same in
    let same1 : folder_of (site.disk s1) ≡ folder_of (site.disk s0) = ap folder_of stays1 in
    let stays2 : site.disk c.check_fresh.new.site ≡ site.disk s0 = (c.check_fresh.ensures.quiet.stays shown).same ∙ stays1 in
    let same2 : folder_of (site.disk c.check_fresh.new.site) ≡ folder_of (site.disk s0) = ap folder_of stays2 in
    let fresh : IsFresh (folder_of (site.disk s0)) = subst IsFresh same1 (c.in_ok-check_fresh.ensures.fresh shown) in
    c.create_among.ensures.opened shown maps (first ∙ fresh_is_empty (folder_of (site.disk s0)) m fresh stands)

pub returns-clause-cuts : goal.returns-clause-cuts
returns-clause-cuts g c = λ shown settled m stands.
    let laws = g.met.S.Site in
    let site = g.S.Site in
    let s0 = c.args.site.now in
    let s1 = c.list_files.new.site in
    let stays1 : site.disk s1 ≡ site.disk s0 = (c.list_files.ensures.quiet.stays shown).same in
    let same1 : folder_of (site.disk s1) ≡ folder_of (site.disk s0) = ap folder_of stays1 in
    let stays2 : site.disk c.check_fresh.new.site ≡ site.disk s0 = (c.check_fresh.ensures.quiet.stays shown).same ∙ stays1 in
    let same2 : folder_of (site.disk c.check_fresh.new.site) ≡ folder_of (site.disk s0) = ap folder_of stays2 in
    let fresh : IsFresh (folder_of (site.disk s0)) = subst IsFresh same1 (c.in_ok-check_fresh.ensures.fresh shown) in
    let n1 = reads_make_nothing site shown (λ x. laws.only_now shown x) (λ x. laws.counts_now shown x) (λ x other sure. laws.only shown x other sure) (λ x. laws.remnant shown x) s0 s1 c.list_files.ensures.quiet in
    let n2 = then_reads site shown (λ x. laws.only_now shown x) (λ x. laws.counts_now shown x) (λ x other sure. laws.only shown x other sure) (λ x. laws.remnant shown x) s0 s1 c.check_fresh.new.site (none_synced (site.disk s0) (site.disk s1) (c.list_files.ensures.quiet.stays shown).same) n1 c.check_fresh.ensures.quiet in
    subst (λ (x : Map). CutsAtBarrier site (IsLeftStanding (folder_of (site.disk s0)) x) s0 c.create_among.new.site) (sym (fresh_is_empty (folder_of (site.disk s0)) m fresh stands))
    (cuts_so site (IsLeftAs None empty) (IsLeftStanding (folder_of (site.disk s0)) empty) s0 c.create_among.new.site (λ x. ⊎_elim (λ f. inl (fresh, f.0, f.1)) (λ left. inr left))
    (then_cuts site shown (λ x. laws.only_now shown x) (λ x. laws.counts_now shown x) (λ x other sure. laws.only shown x other sure) (λ x. laws.remnant shown x) (IsLeftAs None empty) s0 c.check_fresh.new.site c.create_among.new.site
    (none_synced (site.disk s0) (site.disk c.check_fresh.new.site) stays2) n2 same2 (c.create_among.ensures.cuts shown (subst IsSettled (sym stays2) settled))))

pub returns-clause-settled : goal.returns-clause-settled
returns-clause-settled g c = λ shown settled sound no_chance.
    let laws = g.met.S.Site in
    let site = g.S.Site in
    let s0 = c.args.site.now in
    let s1 = c.list_files.new.site in
    let stays1 : site.disk s1 ≡ site.disk s0 = (c.list_files.ensures.quiet.stays shown).same in
    let same1 : folder_of (site.disk s1) ≡ folder_of (site.disk s0) = ap folder_of stays1 in
    let stays2 : site.disk c.check_fresh.new.site ≡ site.disk s0 = (c.check_fresh.ensures.quiet.stays shown).same ∙ stays1 in
    let same2 : folder_of (site.disk c.check_fresh.new.site) ≡ folder_of (site.disk s0) = ap folder_of stays2 in
    c.create_among.ensures.settled shown (subst IsSettled (sym stays2) settled)

pub returns-clause-answers : goal.returns-clause-answers
returns-clause-answers g c = λ shown.
    let laws = g.met.S.Site in
    let site = g.S.Site in
    let s0 = c.args.site.now in
    let s1 = c.list_files.new.site in
    let stays1 : site.disk s1 ≡ site.disk s0 = (c.list_files.ensures.quiet.stays shown).same in
    let same1 : folder_of (site.disk s1) ≡ folder_of (site.disk s0) = ap folder_of stays1 in
    let fresh : IsFresh (folder_of (site.disk s0)) = subst IsFresh same1 (c.in_ok-check_fresh.ensures.fresh shown) in
    none_refused (folder_of (site.disk s0)) c.args.asked.now c.create_among.result (no_telling c.create_among.result c.create_among.ensures.causes)
    (λ e refused. fresh_not_refused c.lacking_folders_are_not_live.ensures.fresh (folder_of (site.disk s0)) c.args.asked.now e fresh refused)

pub returns-clause-same : goal.returns-clause-same
returns-clause-same g c = λ shown. silent_same (folder_of (g.S.Site.disk c.create_among.new.site) ≡ folder_of (g.S.Site.disk c.args.site.now)) c.create_among.result c.create_among.ensures.causes

pub check_fresh-requires-clause-no_current : goal.check_fresh-requires-clause-no_current
check_fresh-requires-clause-no_current g c = λ shown.
    let folder = folder_of (g.S.Site.disk c.args.site.now) in
    let same : folder_of (g.S.Site.disk c.list_files.new.site) ≡ folder = ap folder_of (c.list_files.ensures.quiet.stays shown).same in
    let listed = subst (λ (xs : List FileName). AreListed folder xs) (sym c.deref.ensures.value) (c.in_ok-files.ensures.listed shown) in
    let none = none_if (file folder Current) (λ some. let is = (c.if-has_file.ensures.there folder listed tt).1 some in let not = c.if-has_file.false in cc (is, not)) in
    subst (λ (f : Folder). file f Current ≡ None) (sym same) none

pub returns-in_err-files-clause-keeps : goal.returns-in_err-files-clause-keeps
returns-in_err-files-clause-keeps g c = λ shown. same_kept _ (g.S.Site.disk c.args.site.now) (g.S.Site.disk c.list_files.new.site) (c.list_files.ensures.quiet.stays shown).same

pub returns-then-has_file-clause-keeps : goal.returns-then-has_file-clause-keeps
returns-then-has_file-clause-keeps g c = λ shown.
    kept_before c.recover_live.result (g.S.Site.disk c.args.site.now) (g.S.Site.disk c.list_files.new.site) (g.S.Site.disk c.recover_live.new.site) (c.list_files.ensures.quiet.stays shown).same (c.recover_live.ensures.keeps shown)

pub returns-in_err-check_fresh-clause-keeps : goal.returns-in_err-check_fresh-clause-keeps
returns-in_err-check_fresh-clause-keeps g c = λ shown.
    same_kept _ (g.S.Site.disk c.args.site.now) (g.S.Site.disk c.check_fresh.new.site) ((c.check_fresh.ensures.quiet.stays shown).same ∙ (c.list_files.ensures.quiet.stays shown).same)

pub returns-clause-keeps : goal.returns-clause-keeps
returns-clause-keeps g c = λ shown.
    kept_before c.create_among.result (g.S.Site.disk c.args.site.now) (g.S.Site.disk c.check_fresh.new.site) (g.S.Site.disk c.create_among.new.site)
    ((c.check_fresh.ensures.quiet.stays shown).same ∙ (c.list_files.ensures.quiet.stays shown).same) (c.create_among.ensures.keeps shown)

pub returns-then-has_file-clause-full : goal.returns-then-has_file-clause-full
returns-then-has_file-clause-full g c = λ n is.
    let full = c.recover_live.ensures.full n is in
    (full.0, λ shown. subst (λ (f : Folder). IsFull f c.args.asked.now) (ap folder_of (c.list_files.ensures.quiet.stays shown).same) (full.1 shown))

pub returns-then-has_file-clause-enough : goal.returns-then-has_file-clause-enough
returns-then-has_file-clause-enough g c = λ shown.
    subst (λ (f : Folder). OnOk c.recover_live.result (IsFull f c.args.asked.now → ⊥)) (ap folder_of (c.list_files.ensures.quiet.stays shown).same) (c.recover_live.ensures.enough shown)

pub returns-clause-full : goal.returns-clause-full
returns-clause-full g c = λ n is.
    let full = c.create_among.ensures.full n is in (
      full.0,
      λ shown.
          let same = ap folder_of ((c.check_fresh.ensures.quiet.stays shown).same ∙ (c.list_files.ensures.quiet.stays shown).same) in
          inl (subst IsFullFresh same (full.1 shown)),
    )

pub returns-clause-enough : goal.returns-clause-enough
returns-clause-enough g c = λ shown.
    let site = g.S.Site in
    let folder = folder_of (site.disk c.args.site.now) in
    let same : folder_of (site.disk c.check_fresh.new.site) ≡ folder = ap folder_of ((c.check_fresh.ensures.quiet.stays shown).same ∙ (c.list_files.ensures.quiet.stays shown).same) in
    let fresh : IsFresh folder = subst IsFresh (ap folder_of (c.list_files.ensures.quiet.stays shown).same) (c.in_ok-check_fresh.ensures.fresh shown) in
    on_ok_too c.create_among.result (IsFullFresh folder → ⊥) (IsFull folder c.args.asked.now → ⊥) (fresh_only folder c.args.asked.now fresh)
    (subst (λ (f : Folder). OnOk c.create_among.result (IsFullFresh f → ⊥)) same (c.create_among.ensures.enough shown))

pub returns-then-has_file-clause-begins : goal.returns-then-has_file-clause-begins
returns-then-has_file-clause-begins g c = λ shown m stands maps first.
    c.recover_live.ensures.begins shown m (subst (λ (f : Folder). Stands f m) (sym (ap folder_of (c.list_files.ensures.quiet.stays shown).same)) stands) maps first

pub returns-clause-begins : goal.returns-clause-begins
returns-clause-begins g c = λ shown m stands maps first.
    let site = g.S.Site in
    let fresh : IsFresh (folder_of (site.disk c.args.site.now)) = subst IsFresh (ap folder_of (c.list_files.ensures.quiet.stays shown).same) (c.in_ok-check_fresh.ensures.fresh shown) in
    each_ok c.create_among.result (λ o. IsOpened maps o (site.disk c.create_among.new.site)) (λ o. IsOpenedAsSynced maps o (site.disk c.create_among.new.site))
    (λ o opened. record { names = []; before = tt; opened = opened })
    (c.create_among.ensures.opened shown maps (first ∙ fresh_is_empty (folder_of (site.disk c.args.site.now)) m fresh stands))
