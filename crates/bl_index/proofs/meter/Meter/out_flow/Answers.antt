use Rattle.std.proofs.Common.{◌≡◌, ◌+◌, ◌∙◌, sym, ap, refl, arith, Some, None}
use Rattle.bl_index.specs.Metering.{account_at, reference_bytes}
use Rattle.bl_index.proofs.MeterLemmas.{meters_out, meters_unnamed}
use Rattle.bl_index.proofs.meter.Meter.out_flow.Goals as goal

pub returns-in_default-clause-ok : goal.returns-in_default-clause-ok
returns-in_default-clause-ok c = λ flows h.
    let none : account_at c.args.self.now c.args.index.now.file ≡ None =
    sym (c.get.ensures.value ∙ ap (λ m. account_at m c.args.index.now.file) c.self.view_is) ∙ sym c.copied.ensures ∙ c.in_default.is in
    meters_unnamed c.args.index.now.file (reference_bytes c.args.key_length c.args.index.now) flows c.args.self.now none h

pub returns-clause-ok : goal.returns-clause-ok
returns-clause-ok c = λ flows h.
    let found : account_at c.args.self.now c.args.index.now.file ≡ Some c.in-Some.account =
    sym (c.get.ensures.value ∙ ap (λ m. account_at m c.args.index.now.file) c.self.view_is) ∙ sym c.copied.ensures ∙ c.in-Some.is in
    let u = c.in_ok-insert.ensures.updates in
    let bytes : c.in-Some.account.outs.bytes + 32 + c.args.key_length + c.args.index.now.size ≡ c.in-Some.account.outs.bytes + reference_bytes c.args.key_length c.args.index.now = omega arith in
    meters_out c.args.index.now.file (reference_bytes c.args.key_length c.args.index.now) flows c.args.self.now c.insert.new.self.entries c.in-Some.account _
    (record { here = u.1; others = λ q apart. u.2 q apart ∙ ap (λ m. account_at m q) c.self.view_is })
    found refl bytes refl h
