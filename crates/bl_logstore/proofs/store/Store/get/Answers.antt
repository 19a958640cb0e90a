use Rattle.std.proofs.Common.{sym, ◌∙◌, ap}
use Rattle.std.specs.FinMap.{get}
use Rattle.bl_logstore.proofs.MapLemmas.{get_bytes}
use Rattle.bl_logstore.specs.Stored.{Stored}
use Rattle.bl_logstore.proofs.store.Store.get.Goals as goal

pub returns : goal.returns
returns c = c.get.ensures.value ∙ sym (get_bytes c.self.inside.map.entries c.args.key.now) ∙ ap (λ (s : Stored). get s.now c.args.key.now) c.self.view_is
