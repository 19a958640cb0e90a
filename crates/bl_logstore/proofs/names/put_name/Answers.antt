use Rattle.std.proofs.Common.{◌≡◌, ap, sym, ◌∙◌, refl, inr, false}
use Rattle.bl_names.specs.declared.name.FileName.TheVariants.{Log}
use Rattle.bl_logstore.specs.Folders.{is_log}
use Rattle.bl_logstore.proofs.names.put_name.Goals as goal

pub returns-in_default-clause-put : goal.returns-in_default-clause-put
returns-in_default-clause-put c = inr (λ number named. c.in_default.not-Some (Log number) (c.parse_name.ensures.all (Log number) named), refl)

pub returns-in-None-clause-put : goal.returns-in-None-clause-put
returns-in-None-clause-put c =
    inr (
      λ number named.
          let same : c.in-Some.file ≡ Log number = cc (c.parse_name.ensures.all (Log number) named, c.in-Some.is) in
          let not : is_log (Log number) ≡ false = ap is_log (sym same) ∙ c.in-None.ensures in
          cc not,
      refl,
    )
