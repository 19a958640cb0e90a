use Rattle.std.proofs.Common.{◌∙◌, ap, arith, length-drop, take_all, drop}
use Rattle.bl_table.proofs.SpellLemmas.{trailed}
use Rattle.bl_table.proofs.spell.put_trailer.Goals as goal

pub returns : goal.returns
returns c = λ front block n e.
    trailed c.args.out.now.items front block _ _ _ c.sum_of-sum.result c.args.from n e (take_all _ _ (simp length-drop (omega arith)) ∙ ap (drop c.args.from) c.deref.ensures.value) c.sum_of-sum.ensures c.in_ok-push.ensures.items c.in_ok-put_fixed32.ensures.ok
