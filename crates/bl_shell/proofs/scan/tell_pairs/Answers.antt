use Rattle.std.proofs.Common.{◌≡◌, ℕ, List, [], ◌∷◌, ◌++◌, refl, sym, ◌∙◌, ap, subst, arith, append-nil, string_bytes}
use Rattle.bl_site.proofs.Moments.{joins, widened}
use Rattle.bl_script.specs.Printing.{pair_line, end_line}
use Rattle.bl_shell.specs.Carried.{TellsFront}
use Rattle.bl_code.proofs.Basics.{on_any_err}
use Rattle.bl_shell.proofs.CutLemmas.{cut_at}
use Rattle.bl_shell.proofs.MomentLemmas.{quiet_telling, tells_on}
use Rattle.bl_shell.proofs.PairLemmas.{between, within, more, one_more, at_end, all_told}
use Rattle.bl_shell.proofs.TellLemmas.{tell_broke}
use Rattle.bl_shell.proofs.scan.tell_pairs.Goals as goal

pub pairs-init : goal.pairs-init
pairs-init g c =
    let site = g.S.Site in
    let old = c.args.site.now in
    record {
      told = λ shown. (
        [],
        (
          cc,
          (record { front = []; rest = []; whole = refl; told_is = sym (append-nil (site.told old)) }, sym c.new-lines.ensures.bytes),
        ),
      );
      certain = λ shown certain. certain;
      cuts = λ shown certain.
          quiet_telling site.clock site.left_since site.disk site.told site.may_be old _ (λ other. g.met.S.Site.only shown old other certain) (λ cut. g.met.S.Site.only_now shown old cut);
      stays = λ shown. refl;
      disk = omega arith;
      tell = omega arith;
    }

pub returns-in_err-append_pair-clause-front : goal.returns-in_err-append_pair-clause-front
returns-in_err-append_pair-clause-front g c = λ shown.
    let i = c.pairs.invariant.told shown in
    on_any_err c.from_residual.result _ (between i.0 c.pairs.key-iterator _ (g.S.Site.told c.args.site.now) (g.S.Site.told c.pairs.site) i.1.0 i.1.1.0)

pub pairs-preserved : goal.pairs-preserved
pairs-preserved g c =
    let site = g.S.Site in
    let mid = c.pairs.site in
    let pair : List ℕ × List ℕ = (c.in-Some.key.now, c.in-Some.value.now) in
    let lines = string_bytes c.pairs.lines in
    let line : string_bytes c.append_pair.new.out ≡ lines ++ pair_line c.in-Some.key.now c.in-Some.value.now =
    c.in_ok-append_pair.ensures ∙ ap (λ k. lines ++ pair_line k c.as_slice-in-pairs.result.now) c.as_slice.ensures ∙ ap (λ v. lines ++ pair_line c.in-Some.key.now v) c.as_slice-in-pairs.ensures in
    record {
      told = λ shown.
          let i = c.pairs.invariant.told shown in
          let P : List ℕ → Type 0 = λ b. (t : TellsFront b (site.told mid) (site.told c.tell_piece.new.site)) × (t.rest ≡ string_bytes c.tell_piece.new.lines) in
          let told = subst P line (c.in_ok-tell_piece.ensures.ok shown) in (
            i.0 ++ pair ∷ [],
            (
              one_more i.0 c.pairs.key-iterator c.next.new.self _ pair i.1.0 c.in-Some.ensures.steps,
              more i.0 pair lines (string_bytes c.tell_piece.new.lines) (site.told c.args.site.now) (site.told mid) (site.told c.tell_piece.new.site) i.1.1.0 i.1.1.1 told.0 told.1,
            ),
          );
      certain = λ shown certain. c.tell_piece.ensures.certain shown (c.pairs.invariant.certain shown certain);
      cuts = λ shown certain.
          let i = c.pairs.invariant.told shown in
          joins site.clock site.left_since c.args.site.now mid c.tell_piece.new.site _ (c.pairs.invariant.cuts shown certain)
          (widened site.clock site.left_since mid c.tell_piece.new.site _ _
          (λ cut t. cut_at (site.disk c.args.site.now) (site.disk mid) _ _ _ _ cut (c.pairs.invariant.stays shown)
          (λ tells. within i.0 c.pairs.key-iterator c.next.new.self _ pair lines (site.told c.args.site.now) (site.told mid) cut.told i.1.0 c.in-Some.ensures.steps i.1.1.0 i.1.1.1
          (let P : List ℕ → Type 0 = λ b. TellsFront b (site.told mid) cut.told in subst P line tells)) t)
          (c.tell_piece.ensures.cuts shown (c.pairs.invariant.certain shown certain)));
      stays = λ shown. c.tell_piece.ensures.stays shown ∙ c.pairs.invariant.stays shown;
      disk = omega (arith, c.tell_piece.ensures.later.0, c.pairs.invariant.disk);
      tell = omega (arith, c.tell_piece.ensures.later.1, c.pairs.invariant.tell);
    }

pub returns-in_err-tell_piece-clause-front : goal.returns-in_err-tell_piece-clause-front
returns-in_err-tell_piece-clause-front g c = λ shown.
    let site = g.S.Site in
    let i = c.pairs.invariant.told shown in
    let pair : List ℕ × List ℕ = (c.in-Some.key.now, c.in-Some.value.now) in
    let lines = string_bytes c.pairs.lines in
    let line : string_bytes c.append_pair.new.out ≡ lines ++ pair_line c.in-Some.key.now c.in-Some.value.now =
    c.in_ok-append_pair.ensures ∙ ap (λ k. lines ++ pair_line k c.as_slice-in-pairs.result.now) c.as_slice.ensures ∙ ap (λ v. lines ++ pair_line c.in-Some.key.now v) c.as_slice-in-pairs.ensures in
    let P : List ℕ → Type 0 = λ b. TellsFront b (site.told c.pairs.site) (site.told c.tell_piece.new.site) in
    on_any_err c.from_residual-in_err-tell_piece.result _
    (within i.0 c.pairs.key-iterator c.next.new.self _ pair lines (site.told c.args.site.now) (site.told c.pairs.site) (site.told c.tell_piece.new.site) i.1.0 c.in-Some.ensures.steps i.1.1.0 i.1.1.1
    (subst P line (c.in_err-tell_piece.ensures.front shown)))

pub returns-in_err-tell_piece-clause-cuts : goal.returns-in_err-tell_piece-clause-cuts
returns-in_err-tell_piece-clause-cuts g c = λ shown certain.
    let site = g.S.Site in
    let mid = c.pairs.site in
    let i = c.pairs.invariant.told shown in
    let pair : List ℕ × List ℕ = (c.in-Some.key.now, c.in-Some.value.now) in
    let lines = string_bytes c.pairs.lines in
    let line : string_bytes c.append_pair.new.out ≡ lines ++ pair_line c.in-Some.key.now c.in-Some.value.now =
    c.in_ok-append_pair.ensures ∙ ap (λ k. lines ++ pair_line k c.as_slice-in-pairs.result.now) c.as_slice.ensures ∙ ap (λ v. lines ++ pair_line c.in-Some.key.now v) c.as_slice-in-pairs.ensures in
    joins site.clock site.left_since c.args.site.now mid c.tell_piece.new.site _ (c.pairs.invariant.cuts shown certain)
    (widened site.clock site.left_since mid c.tell_piece.new.site _ _
    (λ cut t. cut_at (site.disk c.args.site.now) (site.disk mid) _ _ _ _ cut (c.pairs.invariant.stays shown)
    (λ tells. within i.0 c.pairs.key-iterator c.next.new.self _ pair lines (site.told c.args.site.now) (site.told mid) cut.told i.1.0 c.in-Some.ensures.steps i.1.1.0 i.1.1.1
    (let P : List ℕ → Type 0 = λ b. TellsFront b (site.told mid) cut.told in subst P line tells)) t)
    (c.tell_piece.ensures.cuts shown (c.pairs.invariant.certain shown certain)))

pub returns-in_err-push_str-clause-front : goal.returns-in_err-push_str-clause-front
returns-in_err-push_str-clause-front g c = λ shown.
    let i = c.pairs.invariant.told shown in
    on_any_err c.from_residual-in_err-push_str.result _ (between i.0 c.pairs.key-iterator _ (g.S.Site.told c.args.site.now) (g.S.Site.told c.pairs.site) i.1.0 i.1.1.0)

pub returns-in_err-tell-clause-front : goal.returns-in_err-tell-clause-front
returns-in_err-tell-clause-front g c = λ shown.
    let i = c.pairs.invariant.told shown in
    let last : c.as_bytes.result.now ≡ string_bytes c.pairs.lines ++ end_line = c.as_bytes.ensures.value ∙ c.in_ok-push_str.ensures.bytes in
    on_any_err c.from_residual-in_err-tell.result _
    (at_end i.0 c.pairs.key-iterator _ (string_bytes c.pairs.lines) (g.S.Site.told c.args.site.now) (g.S.Site.told c.pairs.site) (g.S.Site.told c.tell.new.self) i.1.0 c.in-None.ensures.steps.0 i.1.1.0 i.1.1.1
    (tell_broke c.in_err-tell.field-0.0 _ _ _ _ _ _ last c.in_err-tell.ensures.cause (c.in_err-tell.ensures.failed shown) (c.in_err-tell.ensures.memory shown)))

pub returns-clause-ok : goal.returns-clause-ok
returns-clause-ok g c = λ shown.
    let i = c.pairs.invariant.told shown in
    let last : c.as_bytes.result.now ≡ string_bytes c.pairs.lines ++ end_line = c.as_bytes.ensures.value ∙ c.in_ok-push_str.ensures.bytes in
    all_told i.0 c.pairs.key-iterator _ (string_bytes c.pairs.lines) (g.S.Site.told c.args.site.now) (g.S.Site.told c.pairs.site) (g.S.Site.told c.tell.new.self) i.1.0 c.in-None.ensures.steps.0 i.1.1.0 i.1.1.1
    (c.in_ok-tell.ensures.done shown ∙ ap (λ b. g.S.Site.told c.pairs.site ++ b) last)

pub returns-in_err-tell-clause-cuts : goal.returns-in_err-tell-clause-cuts
returns-in_err-tell-clause-cuts g c = λ shown certain.
    let site = g.S.Site in
    let mid = c.pairs.site in
    let i = c.pairs.invariant.told shown in
    let last : c.as_bytes.result.now ≡ string_bytes c.pairs.lines ++ end_line = c.as_bytes.ensures.value ∙ c.in_ok-push_str.ensures.bytes in
    tells_on site.clock site.left_since site.disk site.told site.may_be _ mid _ _ _ (c.pairs.invariant.cuts shown certain) (c.tell.ensures.time shown)
    (λ other. g.met.S.Site.only shown mid other (c.pairs.invariant.certain shown certain))
    (λ cut t. cut_at (site.disk c.args.site.now) (site.disk mid) _ _ _ _ cut (c.pairs.invariant.stays shown)
    (λ tells. at_end i.0 c.pairs.key-iterator _ (string_bytes c.pairs.lines) (site.told c.args.site.now) (site.told mid) cut.told i.1.0 c.in-None.ensures.steps.0 i.1.1.0 i.1.1.1
    (let P : List ℕ → Type 0 = λ b. TellsFront b (site.told mid) cut.told in subst P last tells)) t)

pub returns-clause-cuts : goal.returns-clause-cuts
returns-clause-cuts g c = λ shown certain.
    let site = g.S.Site in
    let mid = c.pairs.site in
    let i = c.pairs.invariant.told shown in
    let last : c.as_bytes.result.now ≡ string_bytes c.pairs.lines ++ end_line = c.as_bytes.ensures.value ∙ c.in_ok-push_str.ensures.bytes in
    tells_on site.clock site.left_since site.disk site.told site.may_be _ mid _ _ _ (c.pairs.invariant.cuts shown certain) (c.tell.ensures.time shown)
    (λ other. g.met.S.Site.only shown mid other (c.pairs.invariant.certain shown certain))
    (λ cut t. cut_at (site.disk c.args.site.now) (site.disk mid) _ _ _ _ cut (c.pairs.invariant.stays shown)
    (λ tells. at_end i.0 c.pairs.key-iterator _ (string_bytes c.pairs.lines) (site.told c.args.site.now) (site.told mid) cut.told i.1.0 c.in-None.ensures.steps.0 i.1.1.0 i.1.1.1
    (let P : List ℕ → Type 0 = λ b. TellsFront b (site.told mid) cut.told in subst P last tells)) t)
