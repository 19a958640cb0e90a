use Rattle.std.proofs.Common.{ℕ, Vec, Global, ◌≡◌, ◌∙◌, ap, arith, ◌++◌, ◌∷◌, [], ◌⊎◌, inl, inr, true, false, length}
use Rattle.bl_table.specs.declared.writer.BlockWriter.TheInside.{Inside}
use Rattle.bl_table.specs.Spelling.{entry}
use Rattle.bl_table.proofs.SpellLemmas.{keeps_restarts}
use Rattle.bl_table.proofs.writer.BlockWriter.add.Goals as goal
use Rattle.bl_table.proofs.writer.BlockWriter.add.Goals.{then-restart+in_ok-push, else-restart}

pub invariant_of-self-2 : goal.invariant_of-self-2
invariant_of-self-2 c =
    let inside = c.self.inside in
    let now = c.if-restart.self-inside in
    let at : c.len-at.result ≡ length inside.bytes.items = omega (arith, c.len-at.ensures, inside.bytes.ok) in
    let bytes : now.bytes.items ≡ inside.bytes.items = elim c.if-restart.branch [
      | then-restart+in_ok-push w ↦ ap (λ (i : Inside). i.bytes.items) w.self-inside-is
      | else-restart w ↦ ap (λ (i : Inside). i.bytes.items) w.self-inside-is
    ] in
    let which : ((c.plan-restart.result.0 ≡ true) × (now.restarts.items ≡ inside.restarts.items ++ c.len-at.result ∷ [])) ⊎ ((c.plan-restart.result.0 ≡ false) × (now.restarts.items ≡ inside.restarts.items)) = elim c.if-restart.branch [
      | then-restart+in_ok-push w ↦ inl (w.if-restart.true, ap (λ (i : Inside). i.restarts.items) w.self-inside-is ∙ w.in_ok-push.ensures.items)
      | else-restart w ↦ inr (w.if-restart.false, ap (λ (i : Inside). i.restarts.items) w.self-inside-is)
    ] in
    let keeps = keeps_restarts inside.bytes.items c.append_entry.new.out.items inside.restarts.items now.restarts.items c.args.key.now c.args.value.now inside.count c.len-at.result c.plan-restart.result.1 c.plan-restart.result.0
    at c.self.invariant.1 c.self.invariant.2 c.plan-restart.ensures.restart which (c.in_default.ensures.ok ∙ ap (λ b. b ++ entry c.plan-restart.result.1 c.args.key.now c.args.value.now) bytes) in
    let last : length c.replace-last.new.dest.items ≡ length c.args.key.now = ap (λ (v : Vec ℕ Global). length v.items) c.replace-last.ensures.after ∙ ap length c.in_ok-last.ensures.items in
    (omega arith, keeps.0, keeps.1, omega arith)
