use Rattle.std.proofs.Common.{◌≡◌, ℕ, Option, sym, subst}
use Rattle.std.specs.Prelude.{MatchOption}
use Rattle.bl_names.specs.Names.{IsNameOf}
use Rattle.bl_names.specs.declared.name.FileName.TheVariants.{Log}
use Rattle.bl_main.proofs.logs.log_number.Goals as goal

pub returns-in_err-file : goal.returns-in_err-file
returns-in_err-file c =
    let P : Option ℕ → Type 0 = λ o. MatchOption o ((number : ℕ) → IsNameOf c.args.name.now (Log number) → ⊥) (λ number. IsNameOf c.args.name.now (Log number)) in
    subst P (sym c.from_residual.ensures) (λ number named. cc (c.in_err-file.was, c.parse_name.ensures.all (Log number) named))

pub returns-in_default : goal.returns-in_default
returns-in_default c = λ number named.
    let same : c.in_ok-file.file ≡ Log number = cc (c.parse_name.ensures.all (Log number) named, c.in_ok-file.was) in
    c.in_default.not-Log number same
