use Rattle.std.proofs.Common.{◌∙◌, ◌+◌, ap, refl, arith, length, take, drop}
use Rattle.bl_code.proofs.TakeLemmas.{too_few, taken}
use Rattle.bl_code.proofs.taker.Taker.take_bytes.Goals as goal

pub returns-then-n-self : goal.returns-then-n-self
returns-then-n-self c = (too_few c.args.n c.args.self.now (omega (arith, ap (λ t. length t.left) c.self.view_is)), refl)

pub returns : goal.returns
returns c =
    taken c.args.n c.args.self.now _ _ (omega (arith, ap (λ t. length t.left) c.self.view_is))
    (c.split_at.ensures.front ∙ ap (λ t. take c.args.n t.left) c.self.view_is)
    (ap (λ t. t.place + c.args.n) c.self.view_is)
    (c.split_at.ensures.back ∙ ap (λ t. drop c.args.n t.left) c.self.view_is)
