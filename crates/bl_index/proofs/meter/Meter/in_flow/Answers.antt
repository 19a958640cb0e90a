use Rattle.std.proofs.Common.{◌≡◌, ◌∙◌, ap, refl, arith, unwrap_or}
use Rattle.std.proofs.lemmas.Result.{err_from_is_err_and}
use Rattle.bl_index.specs.Metering.{account_at, reference_bytes}
use Rattle.bl_index.proofs.MeterLemmas.{none_yet, bytes_so_far, meters_in}
use Rattle.bl_index.proofs.meter.Meter.in_flow.Goals as goal

pub returns-in_default-clause-overflow : goal.returns-in_default-clause-overflow
returns-in_default-clause-overflow c = λ flows h.
    let found : c.unwrap_or-account.result ≡ unwrap_or (account_at c.args.self.now c.args.index.now.file) none_yet =
    c.unwrap_or-account.ensures ∙ ap (λ o. unwrap_or o none_yet) (c.copied.ensures ∙ c.get.ensures.value ∙ ap (λ m. account_at m c.args.index.now.file) c.self.view_is) in
    let so_far = bytes_so_far c.args.index.now.file flows (account_at c.args.self.now c.args.index.now.file) (h c.args.index.now.file) in
    (λ e. omega (arith, c.in_default.ensures, ap (λ a. a.ins.bytes) found, so_far), λ l. refl)

pub returns-in_err-insert-clause-overflow : goal.returns-in_err-insert-clause-overflow
returns-in_err-insert-clause-overflow c =
    let p = err_from_is_err_and c.from_residual.result c.from_residual.ensures.1 in
    rw (p.1, p.2)
    (λ flows h.
    let found : c.unwrap_or-account.result ≡ unwrap_or (account_at c.args.self.now c.args.index.now.file) none_yet =
    c.unwrap_or-account.ensures ∙ ap (λ o. unwrap_or o none_yet) (c.copied.ensures ∙ c.get.ensures.value ∙ ap (λ m. account_at m c.args.index.now.file) c.self.view_is) in
    let so_far = bytes_so_far c.args.index.now.file flows (account_at c.args.self.now c.args.index.now.file) (h c.args.index.now.file) in
    (λ e. cc, λ l. absurd (omega (arith, c.in-Some.ensures.1, c.in-Some.ensures.2, ap (λ a. a.ins.bytes) found, so_far))))

pub returns-clause-ok : goal.returns-clause-ok
returns-clause-ok c = λ flows h.
    let found : c.unwrap_or-account.result ≡ unwrap_or (account_at c.args.self.now c.args.index.now.file) none_yet =
    c.unwrap_or-account.ensures ∙ ap (λ o. unwrap_or o none_yet) (c.copied.ensures ∙ c.get.ensures.value ∙ ap (λ m. account_at m c.args.index.now.file) c.self.view_is) in
    let u = c.in_ok-insert.ensures.updates in
    meters_in c.args.index.now.file (reference_bytes c.args.key_length c.args.index.now) flows c.args.self.now c.insert.new.self.entries c.unwrap_or-account.result _
    (record { here = u.1; others = λ q apart. u.2 q apart ∙ ap (λ m. account_at m q) c.self.view_is })
    found c.in-Some.ensures.0 c.in-Some.ensures.1 refl h

pub returns-clause-overflow : goal.returns-clause-overflow
returns-clause-overflow c = λ flows h.
    let found : c.unwrap_or-account.result ≡ unwrap_or (account_at c.args.self.now c.args.index.now.file) none_yet =
    c.unwrap_or-account.ensures ∙ ap (λ o. unwrap_or o none_yet) (c.copied.ensures ∙ c.get.ensures.value ∙ ap (λ m. account_at m c.args.index.now.file) c.self.view_is) in
    let so_far = bytes_so_far c.args.index.now.file flows (account_at c.args.self.now c.args.index.now.file) (h c.args.index.now.file) in
    (λ e. cc, λ l. absurd (omega (arith, c.in-Some.ensures.1, c.in-Some.ensures.2, ap (λ a. a.ins.bytes) found, so_far)))
