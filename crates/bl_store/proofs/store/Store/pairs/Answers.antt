use Rattle.bl_store.proofs.ReadLemmas.{refuses}
use Rattle.bl_store.proofs.store.Store.pairs.Goals as goal

pub returns-in-Now-clause-refuses : goal.returns-in-Now-clause-refuses
returns-in-Now-clause-refuses g c =
    refuses c.stores_give_their_map.ensures g.S.Site c.pairs_now.result c.args.self.now c.args.site.now c.show_order.ensures c.given_versions_are_whole.ensures c.pairs_now.new.site c.pairs_now.ensures.corrupt c.pairs_now.ensures.disk
