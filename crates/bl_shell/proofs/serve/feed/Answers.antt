use Rattle.std.proofs.Common.{◌≡◌, ℕ, ◌+◌, ◌-◌, List, ◌++◌, length, take, drop, slice_range, ap, sym, ◌∙◌, subst, arith, Err}
use Rattle.std.proofs.lemmas.List.{take_rest}
use Rattle.std.proofs.lemmas.Result.{err_from_is_err_and}
use Rattle.bl_site.specs.Calls.{LeavesOnly}
use Rattle.bl_site.specs.Disk.{folder_of}
use Rattle.bl_shell.specs.declared.stop.Stop.TheVariants as stop
use Rattle.bl_shell.specs.Causes.{IsSilent}
use Rattle.bl_shell.specs.Carried.{Carried, Steady, NoLineEnd}
use Rattle.bl_shell.specs.Cuts.{Stops}
use Rattle.bl_shell.specs.Machine.{orders}
use Rattle.bl_shell.specs.Synced.{CutOf}
use Rattle.bl_shell.specs.Telling.{HasBegun, HasFaltered}
use Rattle.bl_shell.proofs.TellLemmas.{each_err}
use Rattle.bl_shell.proofs.CarriedLemmas.{pushed, broken, cuts_so_far}
use Rattle.bl_shell.proofs.PieceLemmas.{line_more, line_follows, rest_follows, piece_ends}
use Rattle.bl_logstore.proofs.OtherLemmas.{others_then}
use Rattle.bl_shell.proofs.serve.feed.Goals as goal

pub returns-in_err-push-clause-front : goal.returns-in_err-push-clause-front
returns-in_err-push-clause-front g c =
    let piece = c.args.piece.now in
    λ shown. each_err c.from_residual.result _ (λ e silent began folder told script more start begins carried.
    let P : List ℕ → Type 0 = λ s. HasBegun folder s told (g.S.Site.told c.lines.site) in
    subst P (rest_follows script piece more c.lines.at)
    (broken began folder told _ (script ++ take c.lines.at piece) (drop c.lines.at piece ++ more) _ _ _ _ begins (c.lines.invariant.carried shown began folder told script start carried)))

pub end_line-requires-clause-there : goal.end_line-requires-clause-there
end_line-requires-clause-there g c = λ shown.
    let piece = c.args.piece.now in
    let t = c.requires.there shown in
    let began = t.0 in
    let folder = t.1.0 in
    let told = t.1.1.0 in
    let script = t.1.1.1.0 ++ take c.lines.at piece in (
      began,
      (
        folder,
        (
          told,
          (
            script ++ slice_range piece c.lines.at c.in-Some.end,
            (
              t.1.1.1.1.0,
              pushed began folder told _ script _ c.lines.line c.push.new.self _ _ _ c.in_ok-push.ensures.ok c.in-Some.ensures.3 (c.lines.invariant.carried shown began folder told t.1.1.1.0 t.1.1.1.1.0 t.1.1.1.1.1),
            ),
          ),
        ),
      ),
    )

pub returns-in_err-end_line-clause-front : goal.returns-in_err-end_line-clause-front
returns-in_err-end_line-clause-front g c =
    let piece = c.args.piece.now in
    let at = c.lines.at in
    let end = c.in-Some.end in
    let found = c.in-Some.ensures in
    let p = err_from_is_err_and c.from_residual-in_err-end_line.result c.from_residual-in_err-end_line.ensures.1 in
    rw p.1 (λ shown silent began folder told script more start begins carried.
    let same : p.0 ≡ c.in_err-end_line.field-0.0 = cc p.2 in
    let P : List ℕ → Type 0 = λ s. HasBegun folder s told (g.S.Site.told c.end_line.new.site) in
    subst P (line_follows script piece more at end found.0 found.1 found.2)
    (c.in_err-end_line.ensures.front shown (subst IsSilent same silent) began folder told ((script ++ take at piece) ++ slice_range piece at end) (drop (end + 1) piece ++ more) start begins
    (pushed began folder told _ (script ++ take at piece) _ c.lines.line c.push.new.self _ _ _ c.in_ok-push.ensures.ok found.3 (c.lines.invariant.carried shown began folder told script start carried))))

pub returns-in_err-end_line-clause-full : goal.returns-in_err-end_line-clause-full
returns-in_err-end_line-clause-full g c = λ shown limit is began folder told script more start begins carried.
    let piece = c.args.piece.now in
    let at = c.lines.at in
    let end = c.in-Some.end in
    let found = c.in-Some.ensures in
    let p = err_from_is_err_and c.from_residual-in_err-end_line.result c.from_residual-in_err-end_line.ensures.1 in
    let e : c.in_err-end_line.field-0.0 ≡ stop.Full limit = cc (is, p.1, p.2) in
    let f = c.in_err-end_line.ensures.full shown limit (ap Err e) began folder told ((script ++ take at piece) ++ slice_range piece at end) (drop (end + 1) piece ++ more) start begins
    (pushed began folder told _ (script ++ take at piece) _ c.lines.line c.push.new.self _ _ _ c.in_ok-push.ensures.ok found.3 (c.lines.invariant.carried shown began folder told script start carried)) in
    let P : List ℕ → Type 0 = λ s. Stops folder (folder_of (g.S.Site.disk c.end_line.new.site)) s told (g.S.Site.told c.end_line.new.site) limit (LeavesOnly g.S.Site.clock g.S.Site.left_since start c.end_line.new.site) in
    subst P (line_follows script piece more at end found.0 found.1 found.2) f

pub returns-in_err-end_line-clause-cuts : goal.returns-in_err-end_line-clause-cuts
returns-in_err-end_line-clause-cuts g c = λ shown began folder told script more start carried.
    let piece = c.args.piece.now in
    let at = c.lines.at in
    let end = c.in-Some.end in
    let found = c.in-Some.ensures in
    let P : List ℕ → Type 0 = λ s. LeavesOnly g.S.Site.clock g.S.Site.left_since start c.end_line.new.site (CutOf began (orders s) told) in
    subst P (line_follows script piece more at end found.0 found.1 found.2)
    (c.end_line.ensures.cuts shown began folder told ((script ++ take at piece) ++ slice_range piece at end) (drop (end + 1) piece ++ more) start
    (pushed began folder told _ (script ++ take at piece) _ c.lines.line c.push.new.self _ _ _ c.in_ok-push.ensures.ok found.3 (c.lines.invariant.carried shown began folder told script start carried)))

pub lines-preserved : goal.lines-preserved
lines-preserved g c =
    let piece = c.args.piece.now in
    let at = c.lines.at in
    let end = c.in-Some.end in
    let found = c.in-Some.ensures in
    record {
      within = omega (arith, found.1);
      usable = c.in_ok-end_line.ensures.usable;
      disk = omega (arith, c.in_ok-end_line.ensures.later.0, c.lines.invariant.disk);
      tell = omega (arith, c.in_ok-end_line.ensures.later.1, c.lines.invariant.tell);
      others = λ shown. others_then _ _ _ (c.lines.invariant.others shown) (c.end_line.ensures.others shown);
      carried = λ shown began folder told script start carried.
          let P : List ℕ → Type 0 = λ s. Carried began folder told s c.end_line.new.store c.end_line.new.line (g.S.Site.disk c.end_line.new.site) (g.S.Site.told c.end_line.new.site)
          (Steady g.S.Site.certain g.S.Site.clock g.S.Site.left_since start c.end_line.new.site) in
          subst P (line_more script piece at end found.0 found.1 found.2)
          (c.in_ok-end_line.ensures.ok shown began folder told ((script ++ take at piece) ++ slice_range piece at end) start
          (pushed began folder told _ (script ++ take at piece) _ c.lines.line c.push.new.self _ _ _ c.in_ok-push.ensures.ok found.3 (c.lines.invariant.carried shown began folder told script start carried)));
    }

pub returns-in_err-push-2-clause-front : goal.returns-in_err-push-2-clause-front
returns-in_err-push-2-clause-front g c =
    let piece = c.args.piece.now in
    λ shown. each_err c.from_residual-in_err-push-2.result _ (λ e silent began folder told script more start begins carried.
    let P : List ℕ → Type 0 = λ s. HasBegun folder s told (g.S.Site.told c.lines.site) in
    subst P (rest_follows script piece more c.lines.at)
    (broken began folder told _ (script ++ take c.lines.at piece) (drop c.lines.at piece ++ more) _ _ _ _ begins (c.lines.invariant.carried shown began folder told script start carried)))

pub returns-clause-ok : goal.returns-clause-ok
returns-clause-ok g c = λ shown began folder told script start carried.
    let piece = c.args.piece.now in
    let at = c.lines.at in
    let rest = take (length piece - at) (drop at piece) in
    let whole : rest ≡ drop at piece = take_rest piece at in
    let P : List ℕ → Type 0 = λ s. Carried began folder told s c.lines.store c.push-2.new.self (g.S.Site.disk c.lines.site) (g.S.Site.told c.lines.site) (Steady g.S.Site.certain g.S.Site.clock g.S.Site.left_since start c.lines.site) in
    let Q : List ℕ → Type 0 = λ bytes. NoLineEnd bytes in
    subst P (ap (λ r. (script ++ take at piece) ++ r) whole ∙ piece_ends script piece at)
    (pushed began folder told _ (script ++ take at piece) _ c.lines.line c.push-2.new.self rest _ _ c.in_ok-push-2.ensures.ok (subst Q (sym whole) c.in_default.ensures) (c.lines.invariant.carried shown began folder told script start carried))

pub returns-in_err-push-clause-cuts : goal.returns-in_err-push-clause-cuts
returns-in_err-push-clause-cuts g c = λ shown began folder told script more start carried.
    let piece = c.args.piece.now in
    let P : List ℕ → Type 0 = λ s. LeavesOnly g.S.Site.clock g.S.Site.left_since start c.lines.site (CutOf began (orders s) told) in
    subst P (rest_follows script piece more c.lines.at)
    (cuts_so_far g.S.Site.certain g.S.Site.clock g.S.Site.left_since began folder told (script ++ take c.lines.at piece) _ _ _ _ start c.lines.site
    (c.lines.invariant.carried shown began folder told script start carried) (drop c.lines.at piece ++ more))

pub returns-in_err-push-2-clause-cuts : goal.returns-in_err-push-2-clause-cuts
returns-in_err-push-2-clause-cuts g c = λ shown began folder told script more start carried.
    let piece = c.args.piece.now in
    let P : List ℕ → Type 0 = λ s. LeavesOnly g.S.Site.clock g.S.Site.left_since start c.lines.site (CutOf began (orders s) told) in
    subst P (rest_follows script piece more c.lines.at)
    (cuts_so_far g.S.Site.certain g.S.Site.clock g.S.Site.left_since began folder told (script ++ take c.lines.at piece) _ _ _ _ start c.lines.site
    (c.lines.invariant.carried shown began folder told script start carried) (drop c.lines.at piece ++ more))

pub returns-clause-cuts : goal.returns-clause-cuts
returns-clause-cuts g c = λ shown began folder told script more start carried.
    let piece = c.args.piece.now in
    let P : List ℕ → Type 0 = λ s. LeavesOnly g.S.Site.clock g.S.Site.left_since start c.lines.site (CutOf began (orders s) told) in
    subst P (rest_follows script piece more c.lines.at)
    (cuts_so_far g.S.Site.certain g.S.Site.clock g.S.Site.left_since began folder told (script ++ take c.lines.at piece) _ _ _ _ start c.lines.site
    (c.lines.invariant.carried shown began folder told script start carried) (drop c.lines.at piece ++ more))

pub returns-in_err-end_line-clause-others : goal.returns-in_err-end_line-clause-others
returns-in_err-end_line-clause-others g c = λ shown. others_then _ _ _ (c.lines.invariant.others shown) (c.end_line.ensures.others shown)

pub returns-in_err-end_line-clause-faltered : goal.returns-in_err-end_line-clause-faltered
returns-in_err-end_line-clause-faltered g c = λ shown is began folder told script more start begins carried.
    let piece = c.args.piece.now in
    let at = c.lines.at in
    let end = c.in-Some.end in
    let found = c.in-Some.ensures in
    let p = err_from_is_err_and c.from_residual-in_err-end_line.result c.from_residual-in_err-end_line.ensures.1 in
    let e : c.in_err-end_line.field-0.0 ≡ stop.Tell = cc (is, p.1, p.2) in
    let f = c.in_err-end_line.ensures.faltered shown (ap Err e) began folder told ((script ++ take at piece) ++ slice_range piece at end) (drop (end + 1) piece ++ more) start begins
    (pushed began folder told _ (script ++ take at piece) _ c.lines.line c.push.new.self _ _ _ c.in_ok-push.ensures.ok found.3 (c.lines.invariant.carried shown began folder told script start carried)) in
    let P : List ℕ → Type 0 = λ s. HasFaltered folder (folder_of (g.S.Site.disk c.end_line.new.site)) s told (g.S.Site.told c.end_line.new.site) in
    subst P (line_follows script piece more at end found.0 found.1 found.2) f
