use Rattle.std.proofs.Common.{◌≡◌, ◌∙◌, sym, ap, subst, List}
use Rattle.std.specs.Prelude.{slice_get}
use Rattle.std.proofs.lemmas.Result.{IfOk-weaker}
use Rattle.bl_site.specs.Disk.{Folder, folder_of}
use Rattle.bl_entry.specs.declared.key.Entry.{Entry}
use Rattle.bl_entry.specs.Runs.{KeepsRun}
use Rattle.bl_merge.specs.Heads.{AnyOf, HasPlace, KeepAll, rest}
use Rattle.bl_merge.proofs.RunLemmas.{any_back, fault_back, run_then, zip_then}
use Rattle.bl_site.proofs.Quiet.{reads_on}
use Rattle.bl_merge.proofs.merged.Merged.first_from.Goals as goal

pub returns-clause-given : goal.returns-clause-given
returns-clause-given g c = λ shown all.
    let run = g.R.Run in
    let old : Folder = folder_of (g.S.Site.disk c.args.site.now) in
    let now : Folder = folder_of (g.S.Site.disk c.seek.new.site) in
    let same : now ≡ old = ap folder_of (c.in_ok-seek.ensures.quiet.stays shown).same in
    let placed = subst (λ (f : Folder). HasPlace run.entries run.place run.keeps c.seek.new.self f) (sym same) (c.in_ok-seek.ensures.placed shown all) in
    let left = ap (λ (f : Folder). rest run.entries run.place c.seek.new.self f) same ∙ c.in_ok-seek.ensures.moved shown all in
    IfOk-weaker c.next.result _ _ (λ found h. h ∙ ap (λ (es : List Entry). slice_get es 0) left) (c.next.ensures.given shown placed)

pub returns-clause-corrupt : goal.returns-clause-corrupt
returns-clause-corrupt g c = λ shown all name place is.
    let run = g.R.Run in
    let old : Folder = folder_of (g.S.Site.disk c.args.site.now) in
    let now : Folder = folder_of (g.S.Site.disk c.seek.new.site) in
    let same : now ≡ old = ap folder_of (c.in_ok-seek.ensures.quiet.stays shown).same in
    let kept = subst (λ (f : Folder). KeepAll run.keeps c.seek.new.self f) (sym same) (c.in_ok-seek.ensures.keeps shown all) in
    any_back (KeepsRun run.entries run.reads run.is_outside) (λ r. run.reads r name × run.is_outside r old name) (λ r. run.reads r name × run.is_outside r old name)
    (fault_back run.entries run.reads run.is_outside old name) c.args.self.now.runs c.seek.new.self.runs c.in_ok-seek.ensures.same
    (subst (λ (f : Folder). AnyOf (λ r. run.reads r name × run.is_outside r f name) c.seek.new.self.runs) same (c.next.ensures.corrupt shown kept name place is))

pub returns-clause-same : goal.returns-clause-same
returns-clause-same g c = zip_then _ (run_then g.R.Run.entries g.R.Run.reads g.R.Run.is_outside) _ _ _ c.in_ok-seek.ensures.same c.next.ensures.same

pub returns-clause-quiet : goal.returns-clause-quiet
returns-clause-quiet g c = reads_on g.S.Site c.args.site.now c.seek.new.site c.next.new.site c.in_ok-seek.ensures.quiet c.next.ensures.quiet
