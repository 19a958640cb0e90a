use Rattle.std.proofs.Common.{◌≡◌, ◌+◌, ◌<◌, length, refl, sym, ap, subst, arith}
use Rattle.std.specs.List.{AllByRecursion}
use Rattle.std.proofs.lemmas.List.Elements.{length_all_zip}
use Rattle.std.proofs.lemmas.Result.{err_from_is_err_and}
use Rattle.bl_site.specs.Disk.{Folder, folder_of}
use Rattle.bl_merge.specs.declared.head.Head.{Head}
use Rattle.bl_merge.specs.Heads.{IsSought}
use Rattle.bl_site.proofs.Quiet.{reads_nothing, reads_on}
use Rattle.bl_merge.proofs.RunLemmas.{all_at, fault_at, merging_full, none_in_hand, numbered_all, numbered_none, numbers_up, run_same, run_then, set_all, sought_set, zip_same, zip_set, zip_then}
use Rattle.bl_merge.proofs.merged.seek_all.Goals as goal

pub runs-init : goal.runs-init
runs-init g c =
    let run = g.R.Run in
    let site = g.S.Site in
    record {
      heads = c.requires.heads.heads_are;
      numbers = subst (AllByRecursion (λ (h : Head). h.run < 0)) (sym c.requires.none) tt;
      same = zip_same _ (run_same run.entries run.reads run.is_outside) _;
      kept = λ _ all. all;
      sought = λ _ _. numbered_none _ 0 _;
      quiet = reads_nothing site c.args.site.now;
    }

pub seek_one-requires-clause-none : goal.seek_one-requires-clause-none
seek_one-requires-clause-none g c = none_in_hand _ _ c.runs.invariant.numbers

pub returns-in_err-seek_one-clause-heads : goal.returns-in_err-seek_one-clause-heads
returns-in_err-seek_one-clause-heads g c =
    let lt : c.runs.at < length c.runs.runs.items = omega (arith, length_all_zip _ _ _ c.runs.invariant.same, c.args.runs.now.ok.0) in
    merging_full g.R.Run.admits _ _ _ _ c.in_err-seek_one.ensures.heads (c.in_err-seek_one.ensures.numbers _ lt (numbers_up _ c.runs.at _ (omega arith) c.runs.invariant.numbers))

pub returns-in_err-seek_one-clause-corrupt : goal.returns-in_err-seek_one-clause-corrupt
returns-in_err-seek_one-clause-corrupt g c = λ shown all name place is.
    let run = g.R.Run in
    let old : Folder = folder_of (g.S.Site.disk c.args.site.now) in
    let now : Folder = folder_of (g.S.Site.disk c.runs.site) in
    let same : now ≡ old = ap folder_of (c.runs.invariant.quiet.stays shown).same in
    let lt : c.runs.at < length c.runs.runs.items = omega (arith, length_all_zip _ _ _ c.runs.invariant.same, c.args.runs.now.ok.0) in
    let kept = all_at (λ r. run.keeps r old) _ _ _ lt c.index_mut-run.ensures.value (c.runs.invariant.kept shown all) in
    fault_at run.entries run.reads run.is_outside _ _ c.runs.at c.index_mut-run.result.now old now name c.runs.invariant.same lt c.index_mut-run.ensures.value same
    (c.in_err-seek_one.ensures.corrupt shown (subst (λ (f : Folder). run.keeps c.index_mut-run.result.now f) (sym same) kept) name place
    (let p = err_from_is_err_and c.from_residual.result c.from_residual.ensures.1 in cc (p.1, p.2, is)))

pub returns-in_err-seek_one-clause-same : goal.returns-in_err-seek_one-clause-same
returns-in_err-seek_one-clause-same g c =
    let run = g.R.Run in
    zip_then _ (run_then run.entries run.reads run.is_outside) _ _ _ c.runs.invariant.same
    (zip_set _ (run_same run.entries run.reads run.is_outside) _ _ c.index_mut-run.result.now _ c.index_mut-run.ensures.value c.in_err-seek_one.ensures.same)

pub runs-preserved : goal.runs-preserved
runs-preserved g c =
    let run = g.R.Run in
    let site = g.S.Site in
    let made = c.in_ok-seek_one.ensures in
    let invariant = c.runs.invariant in
    let old : Folder = folder_of (site.disk c.args.site.now) in
    let now : Folder = folder_of (site.disk c.runs.site) in
    let lt : c.runs.at < length c.runs.runs.items = omega (arith, length_all_zip _ _ _ c.runs.invariant.same, c.args.runs.now.ok.0) in
    record {
      heads = made.heads;
      numbers = made.numbers (c.runs.at + 1) (omega arith) (numbers_up _ c.runs.at (c.runs.at + 1) (omega arith) invariant.numbers);
      same = zip_then _ (run_then run.entries run.reads run.is_outside) _ _ _ invariant.same
          (zip_set _ (run_same run.entries run.reads run.is_outside) _ _ c.index_mut-run.result.now _ c.index_mut-run.ensures.value made.same);
      kept = λ shown all.
          let same : now ≡ old = ap folder_of (invariant.quiet.stays shown).same in
          let kept = all_at (λ r. run.keeps r old) _ _ _ lt c.index_mut-run.ensures.value (invariant.kept shown all) in
          set_all (λ r. run.keeps r old) _ _ _
          (subst (λ (f : Folder). run.keeps c.seek_one.new.run f) same (made.keeps shown (subst (λ (f : Folder). run.keeps c.index_mut-run.result.now f) (sym same) kept))) (invariant.kept shown all);
      sought = λ shown all.
          let same : now ≡ old = ap folder_of (invariant.quiet.stays shown).same in
          let kept = all_at (λ r. run.keeps r old) _ _ _ lt c.index_mut-run.ensures.value (invariant.kept shown all) in
          sought_set run.entries run.place run.keeps old c.args.from.now _ c.runs.at (c.runs.at + 1) c.index_mut-run.result.now c.seek_one.new.run _ _ now refl lt same made.others (made.same.same_list old)
          (made.sought shown (subst (λ (f : Folder). run.keeps c.index_mut-run.result.now f) (sym same) kept)) (invariant.sought shown all);
      quiet = reads_on site c.args.site.now c.runs.site c.seek_one.new.site invariant.quiet made.quiet;
    }

pub returns-clause-heads : goal.returns-clause-heads
returns-clause-heads g c =
    record {
      heads_are = c.runs.invariant.heads;
      numbers = numbers_up _ c.runs.at _ (omega (arith, length_all_zip _ _ _ c.runs.invariant.same, c.args.runs.now.ok.0)) c.runs.invariant.numbers;
      due_is = tt;
    }

pub returns-clause-sought : goal.returns-clause-sought
returns-clause-sought g c = λ shown all.
    let site = g.S.Site in
    numbered_all (IsSought g.R.Run.entries g.R.Run.place (folder_of (site.disk c.args.site.now)) c.args.from.now _) c.runs.at 0 _ (omega (arith, length_all_zip _ _ _ c.runs.invariant.same, c.args.runs.now.ok.0))
    (c.runs.invariant.sought shown all)

pub returns-in_err-seek_one-clause-quiet : goal.returns-in_err-seek_one-clause-quiet
returns-in_err-seek_one-clause-quiet g c = reads_on g.S.Site c.args.site.now c.runs.site c.seek_one.new.site c.runs.invariant.quiet c.in_err-seek_one.ensures.quiet
