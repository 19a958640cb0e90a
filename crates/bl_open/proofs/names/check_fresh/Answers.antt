use Rattle.std.proofs.Common.{◌≡◌, List, [], ◌∷◌, ◌++◌, Option, None, String, ap, get_or, string_bytes, subst, sym, take}
use Rattle.std.specs.declared.alloc.Global.{Global}
use Rattle.std.proofs.lemmas.List.{take_all, take_more}
use Rattle.std.specs.Option.{option_map}
use Rattle.bl_names.specs.declared.name.FileName.{FileName}
use Rattle.bl_names.specs.declared.name.FileName.TheVariants.{Current}
use Rattle.bl_site.proofs.Quiet.{reads_on}
use Rattle.bl_site.specs.Disk.{Folder, folder_of}
use Rattle.bl_open.specs.Listing.{IsStray}
use Rattle.bl_open.proofs.ListingLemmas.{First, fresh_is, map_match, stray_passed, stray_taken}
use Rattle.bl_open.proofs.names.check_fresh.Goals as goal
use Rattle.bl_open.proofs.names.check_fresh.Goals.{then-branch, else-branch}

pub loop-listed-preserved : goal.loop-listed-preserved
loop-listed-preserved g c = record {
  first = λ shown.
      let site = g.S.Site in
      let folder = folder_of (site.disk c.args.site.now) in
      let files = take c.loop-listed.listed-index c.args.files.now in
      let f = get_or c.args.files.now c.loop-listed.listed-index Current in
      let same : folder_of (site.disk c.loop-listed.site) ≡ folder = ap folder_of (c.loop-listed.invariant.quiet.stays shown).same in
      let stray = c.in_ok-is_stray.ensures.stray shown in
      subst (λ (fs : List FileName). First folder fs (option_map string_bytes c.if-branch.first)) (sym (take_more c.args.files.now c.loop-listed.listed-index Current c.loop-listed-test.true)) (elim c.if-branch.branch [
        | then-branch w ↦
            subst (λ (o : Option (String Global)). First folder (files ++ f ∷ []) (option_map string_bytes o)) (sym w.first-is)
            (stray_taken folder files f (string_bytes c.in_ok-name.name) (string_bytes w.first_of.result) (option_map string_bytes c.loop-listed.first) c.in_ok-name.ensures
            (subst (λ (x : Folder). IsStray x f) same (stray.0 w.if-branch.true)) (map_match string_bytes c.loop-listed.first _ _ w.first_of.ensures) (c.loop-listed.invariant.first shown))
        | else-branch w ↦
            subst (λ (o : Option (String Global)). First folder (files ++ f ∷ []) (option_map string_bytes o)) (sym w.first-is)
            (stray_passed folder files f (option_map string_bytes c.loop-listed.first)
            (λ is. let yes = stray.1 (subst (λ (x : Folder). IsStray x f) (sym same) is) in cc (yes, w.if-branch.false)) (c.loop-listed.invariant.first shown))
      ]);
  quiet = reads_on g.S.Site c.args.site.now c.loop-listed.site c.is_stray.new.site c.loop-listed.invariant.quiet c.is_stray.ensures.quiet;
}

pub returns-in-None-clause-fresh : goal.returns-in-None-clause-fresh
returns-in-None-clause-fresh g c = λ shown.
    let folder = folder_of (g.S.Site.disk c.args.site.now) in
    let whole = take_all c.loop-listed.listed-index c.args.files.now c.loop-listed-test.false in
    let none : First folder c.args.files.now None = subst (λ (fs : List FileName). First folder fs None) whole (subst (λ (o : Option (String Global)). First folder (take c.loop-listed.listed-index c.args.files.now) (option_map string_bytes o)) c.in-None.is (c.loop-listed.invariant.first shown)) in
    fresh_is folder c.args.files.now (c.requires.no_current shown) (c.requires.listed shown) none
