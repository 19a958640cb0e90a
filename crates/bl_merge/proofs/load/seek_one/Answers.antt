use Rattle.std.proofs.Common.{◌≡◌, sym, ap, subst}
use Rattle.std.proofs.lemmas.Result.{err_from_is_err_and}
use Rattle.bl_site.specs.Disk.{Folder, folder_of}
use Rattle.bl_site.proofs.Quiet.{reads_on}
use Rattle.bl_merge.proofs.load.seek_one.Goals as goal

pub returns-in_err-seek-clause-corrupt : goal.returns-in_err-seek-clause-corrupt
returns-in_err-seek-clause-corrupt g c = λ shown kept name place is.
    c.in_err-seek.ensures.corrupt shown kept name place (let p = err_from_is_err_and c.from_residual.result c.from_residual.ensures.1 in cc (p.1, p.2, is))

pub returns-clause-corrupt : goal.returns-clause-corrupt
returns-clause-corrupt g c = λ shown kept name place is.
    let run = g.R.Run in
    let old : Folder = folder_of (g.S.Site.disk c.args.site.now) in
    let now : Folder = folder_of (g.S.Site.disk c.seek.new.site) in
    let same : now ≡ old = ap folder_of (c.in_ok-seek.ensures.quiet.stays shown).same in
    let both = c.load.ensures.corrupt shown (subst (λ (f : Folder). run.keeps c.seek.new.self f) (sym same) (c.in_ok-seek.ensures.keeps shown kept)) name place is in (
      (c.in_ok-seek.ensures.same.same_names name).0 both.0,
      (c.in_ok-seek.ensures.same.same_outside old name).0 (subst (λ (f : Folder). run.is_outside c.seek.new.self f name) same both.1),
    )

pub returns-clause-quiet : goal.returns-clause-quiet
returns-clause-quiet g c = reads_on g.S.Site c.args.site.now c.seek.new.site c.load.new.site c.in_ok-seek.ensures.quiet c.load.ensures.quiet
