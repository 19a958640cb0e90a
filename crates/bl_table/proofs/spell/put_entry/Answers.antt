use Rattle.std.proofs.Common.{arith, length-drop, take_all}
use Rattle.bl_table.proofs.SpellLemmas.{spelled_entry}
use Rattle.bl_table.proofs.spell.put_entry.Goals as goal

pub returns-clause-ok : goal.returns-clause-ok
returns-clause-ok c =
    spelled_entry c.args.out.now.items _ _ _ _ _ _ c.args.key.now c.args.value.now c.args.shared c.in_ok-put_varint32.ensures.ok c.in_ok-put_varint32-2.ensures.ok c.in_ok-put_varint32-3.ensures.ok c.in_ok-extend_from_slice.ensures.items
    (take_all _ _ (simp length-drop (omega arith))) c.in_ok-extend_from_slice-2.ensures.items
