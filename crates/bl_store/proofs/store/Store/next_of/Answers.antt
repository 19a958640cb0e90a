use Rattle.bl_store.proofs.ReadLemmas.{refuses}
use Rattle.bl_store.proofs.TellLemmas.{tells_next}
use Rattle.bl_store.proofs.store.Store.next_of.Goals as goal

pub returns-clause-tells : goal.returns-clause-tells
returns-clause-tells g c = λ shown t.
    let e = c.next_told.ensures in
    tells_next c.pairs_are_told_in_turn.ensures c.stores_give_their_map.ensures g.S.Site c.next_told.result c.args.self.now c.args.pairs.now c.next_told.new.pairs c.args.site.now c.next_told.new.site c.show_order.ensures
    (λ sure. e.value sure t) e.bound (λ sure. e.tells_of sure t)

pub returns-clause-refuses : goal.returns-clause-refuses
returns-clause-refuses g c = λ shown t.
    let e = c.next_told.ensures in
    refuses c.stores_give_their_map.ensures g.S.Site c.next_told.result c.args.self.now c.args.site.now c.show_order.ensures c.given_versions_are_whole.ensures c.next_told.new.site (λ sure. e.corrupt sure t) e.disk
