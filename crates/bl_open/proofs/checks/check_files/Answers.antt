use Rattle.std.proofs.Common.{◌≡◌, List, Err, Ok, ap, get_or, subst, sym, rules}
use Rattle.std.specs.List.Sorted.{IsNonDecreasingBy}
use Rattle.std.proofs.lemmas.List.{get_or_default}
use Rattle.std.proofs.lemmas.Result.{err_from_is_err_and}
use Rattle.std.proofs.lemmas.List.Elements.{AllWithin-more}
use Rattle.std.proofs.lemmas.List.Sorted.{IsNonDecreasingBy-from_sort_by}
use Rattle.bl_site.proofs.Quiet.{reads_on}
use Rattle.bl_site.specs.Disk.{Folder, folder_of}
use Rattle.bl_open.specs.declared.checks.Expected.{Expected}
use Rattle.bl_open.specs.declared.checks.Expected.TheVariants.{Table}
use Rattle.bl_open.specs.Checks.{AreAll, check_in, place_of}
use Rattle.bl_open.specs.declared.error.OpenErr.TheVariants.{Corrupt}
use Rattle.bl_open.proofs.CheckLemmas.{all_pass, all_sorted, one_fails}
use Rattle.bl_open.proofs.checks.check_files.Goals as goal

pub check_file-requires : goal.check_file-requires
check_file-requires g c =
    let files = c.deref-expected-items.result.now in
    let all : AreAll c.args.version.now files = subst (λ (es : List Expected). AreAll c.args.version.now es) (sym c.deref-expected-items.ensures.value)
    (all_sorted c.args.version.now c.in_ok-files.files.items c.sort_unstable_by.new.self.items c.sort_unstable_by.ensures.permutation c.in_ok-files.ensures.all) in
    (all.each c.loop-expected.expected-index (Table 0 0) c.loop-expected-test.true).0

pub returns-in_err-check_file-clause-corrupt : goal.returns-in_err-check_file-clause-corrupt
returns-in_err-check_file-clause-corrupt g c = λ shown name place is.
    let folder = folder_of (g.S.Site.disk c.args.site.now) in
    let version = c.args.version.now in
    let files = c.deref-expected-items.result.now in
    let i = c.loop-expected.expected-index in
    let found = get_or files i (Table 0 0) in
    let lt = c.loop-expected-test.true in
    let p = err_from_is_err_and c.from_residual-in_err-check_file.result c.from_residual-in_err-check_file.ensures.1 in
    let e : c.in_err-check_file.field-0.0 ≡ Corrupt name place = cc (is, p.1, p.2) in
    let same : folder_of (g.S.Site.disk c.loop-expected.site) ≡ folder = ap folder_of (c.loop-expected.invariant.quiet.stays shown).same in
    let all : AreAll version files = subst (λ (es : List Expected). AreAll version es) (sym c.deref-expected-items.ensures.value)
    (all_sorted version c.in_ok-files.files.items c.sort_unstable_by.new.self.items c.sort_unstable_by.ensures.permutation c.in_ok-files.ensures.all) in
    let sorted : IsNonDecreasingBy place_of files = subst (λ (es : List Expected). IsNonDecreasingBy place_of es) (sym c.deref-expected-items.ensures.value)
    (IsNonDecreasingBy-from_sort_by place_of c.sort_unstable_by.new.self.items c.sort_unstable_by.ensures.sorted (λ a r q k. search rules)) in
    let fails = c.in_err-check_file.ensures.corrupt shown name place (ap Err e) in
    one_fails folder version files i found name place lt (get_or_default files i (Table 0 0) found lt) all sorted (c.loop-expected.invariant.pass shown) fails.0
    (subst (λ (f : Folder). check_in f found ≡ Err place) same fails.1)

pub returns-clause-pass : goal.returns-clause-pass
returns-clause-pass g c = λ shown.
    let version = c.args.version.now in
    let files = c.deref-expected-items.result.now in
    let all : AreAll version files = subst (λ (es : List Expected). AreAll version es) (sym c.deref-expected-items.ensures.value)
    (all_sorted version c.in_ok-files.files.items c.sort_unstable_by.new.self.items c.sort_unstable_by.ensures.permutation c.in_ok-files.ensures.all) in
    all_pass (folder_of (g.S.Site.disk c.args.site.now)) version files c.loop-expected.expected-index c.loop-expected-test.false all (c.loop-expected.invariant.pass shown)

pub loop-expected-preserved : goal.loop-expected-preserved
loop-expected-preserved g c = record {
  pass = λ shown.
      let folder = folder_of (g.S.Site.disk c.args.site.now) in
      let files = c.deref-expected-items.result.now in
      let i = c.loop-expected.expected-index in
      let same : folder_of (g.S.Site.disk c.loop-expected.site) ≡ folder = ap folder_of (c.loop-expected.invariant.quiet.stays shown).same in
      let here : check_in folder (get_or files i (Table 0 0)) ≡ Ok tt = subst (λ (f : Folder). check_in f (get_or files i (Table 0 0)) ≡ Ok tt) same (c.in_ok-check_file.ensures.passes shown) in
      AllWithin-more (λ (e : Expected). check_in folder e ≡ Ok tt) files 0 i (c.loop-expected.invariant.pass shown)
      (λ d. subst (λ (e : Expected). check_in folder e ≡ Ok tt) (get_or_default files i (Table 0 0) d c.loop-expected-test.true) here);
  quiet = reads_on g.S.Site c.args.site.now c.loop-expected.site c.check_file.new.site c.loop-expected.invariant.quiet c.check_file.ensures.quiet;
}
