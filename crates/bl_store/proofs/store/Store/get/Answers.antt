use Rattle.std.specs.FinMap.{get}
use Rattle.bl_store.proofs.ReadLemmas.{answers, refuses}
use Rattle.bl_store.proofs.store.Store.get.Goals as goal

pub returns-in-Now-clause-answers : goal.returns-in-Now-clause-answers
returns-in-Now-clause-answers g c =
    answers c.stores_give_their_map.ensures g.S.Site c.find_now.result c.args.self.now c.args.site.now c.show_order.ensures (λ m. get m c.args.key.now) c.find_now.ensures.value

pub returns-in-Now-clause-refuses : goal.returns-in-Now-clause-refuses
returns-in-Now-clause-refuses g c =
    refuses c.stores_give_their_map.ensures g.S.Site c.find_now.result c.args.self.now c.args.site.now c.show_order.ensures c.given_versions_are_whole.ensures c.find_now.new.site c.find_now.ensures.corrupt c.find_now.ensures.disk
