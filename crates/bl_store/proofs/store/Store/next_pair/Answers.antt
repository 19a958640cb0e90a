use Rattle.bl_read.specs.Scanning.{next_in}
use Rattle.bl_store.proofs.ReadLemmas.{answers, refuses}
use Rattle.bl_store.proofs.store.Store.next_pair.Goals as goal

pub returns-in-Now-clause-answers : goal.returns-in-Now-clause-answers
returns-in-Now-clause-answers g c =
    answers c.stores_give_their_map.ensures g.S.Site c.pair_now.result c.args.self.now c.args.site.now c.show_order.ensures (next_in c.args.bound.now) c.pair_now.ensures.value

pub returns-in-Now-clause-refuses : goal.returns-in-Now-clause-refuses
returns-in-Now-clause-refuses g c =
    refuses c.stores_give_their_map.ensures g.S.Site c.pair_now.result c.args.self.now c.args.site.now c.show_order.ensures c.given_versions_are_whole.ensures c.pair_now.new.site c.pair_now.ensures.corrupt c.pair_now.ensures.disk
