use Rattle.std.proofs.Common.{sym, ◌∙◌, ap, [], ◌∷◌, None}
use Rattle.bl_table.specs.Whole.{last_entry}
use Rattle.bl_table.proofs.ReadLemmas.{last_entry-append}
use Rattle.bl_table.proofs.whole.keep_needed.Goals as goal

pub returns-in_ok-push-clause-last : goal.returns-in_ok-push-clause-last
returns-in_ok-push-clause-last c =
    ap (last_entry None) c.in_ok-push.ensures.items ∙ last_entry-append None c.clear.new.self.items (c.in-Some.last ∷ [])
    ∙ sym (ap (last_entry None) c.in-Some.ensures.items ∙ last_entry-append None c.pop.new.self.items (c.in-Some.last ∷ []))
