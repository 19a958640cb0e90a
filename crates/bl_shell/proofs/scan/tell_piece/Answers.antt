use Rattle.std.proofs.Common.{ℕ, List, subst, ◌∙◌, ap, sym, [], refl, ◌++◌, append-nil, string_bytes}
use Rattle.bl_site.specs.Calls.{LeavesOnly}
use Rattle.bl_shell.specs.Carried.{CutTelling}
use Rattle.bl_code.proofs.Basics.{on_any_err}
use Rattle.bl_shell.proofs.MomentLemmas.{telling, quiet_telling}
use Rattle.bl_shell.proofs.TellLemmas.{tell_broke}
use Rattle.bl_shell.proofs.scan.tell_piece.Goals as goal

pub returns-then-len-lt-PIECE-clause-ok : goal.returns-then-len-lt-PIECE-clause-ok
returns-then-len-lt-PIECE-clause-ok g c = λ shown. (record { front = []; rest = string_bytes c.args.lines.now; whole = refl; told_is = sym (append-nil (g.S.Site.told c.args.site.now)) }, refl)

pub returns-in_err-tell-clause-front : goal.returns-in_err-tell-clause-front
returns-in_err-tell-clause-front g c = λ shown.
    on_any_err c.from_residual.result _ (tell_broke c.in_err-tell.field-0.0 _ _ _ _ _ _ c.as_bytes.ensures.value c.in_err-tell.ensures.cause (c.in_err-tell.ensures.failed shown) (c.in_err-tell.ensures.memory shown))

pub returns-in_err-tell-clause-cuts : goal.returns-in_err-tell-clause-cuts
returns-in_err-tell-clause-cuts g c = λ shown certain.
    let site = g.S.Site in
    let P : List ℕ → Type 0 = λ bytes. LeavesOnly site.clock site.left_since c.args.site.now c.tell.new.self (CutTelling (site.disk c.args.site.now) bytes (site.told c.args.site.now)) in
    subst P c.as_bytes.ensures.value
    (telling site.clock site.left_since site.disk site.told site.may_be c.args.site.now _ c.as_bytes.result.now (c.tell.ensures.time shown)
    (λ other. g.met.S.Site.only shown c.args.site.now other certain) (λ cut. g.met.S.Site.only_now shown c.args.site.now cut))

pub returns-clause-ok : goal.returns-clause-ok
returns-clause-ok g c = λ shown. (
  record {
    front = string_bytes c.args.lines.now;
    rest = [];
    whole = append-nil (string_bytes c.args.lines.now);
    told_is = c.in_ok-tell.ensures.done shown ∙ ap (λ b. g.S.Site.told c.args.site.now ++ b) c.as_bytes.ensures.value;
  },
  sym c.clear.ensures.bytes,
)

pub returns-clause-cuts : goal.returns-clause-cuts
returns-clause-cuts g c = λ shown certain.
    let site = g.S.Site in
    let P : List ℕ → Type 0 = λ bytes. LeavesOnly site.clock site.left_since c.args.site.now c.tell.new.self (CutTelling (site.disk c.args.site.now) bytes (site.told c.args.site.now)) in
    subst P c.as_bytes.ensures.value
    (telling site.clock site.left_since site.disk site.told site.may_be c.args.site.now _ c.as_bytes.result.now (c.tell.ensures.time shown)
    (λ other. g.met.S.Site.only shown c.args.site.now other certain) (λ cut. g.met.S.Site.only_now shown c.args.site.now cut))

pub returns-then-len-lt-PIECE-clause-cuts : goal.returns-then-len-lt-PIECE-clause-cuts
returns-then-len-lt-PIECE-clause-cuts g c = λ shown certain.
    let site = g.S.Site in
    quiet_telling site.clock site.left_since site.disk site.told site.may_be c.args.site.now (string_bytes c.args.lines.now)
    (λ other. g.met.S.Site.only shown c.args.site.now other certain) (λ cut. g.met.S.Site.only_now shown c.args.site.now cut)
