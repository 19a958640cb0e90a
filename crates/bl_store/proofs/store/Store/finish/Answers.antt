use Rattle.std.proofs.Common.{[]}
use Rattle.bl_store.proofs.FinishLemmas.{at_ok}
use Rattle.bl_store.proofs.store.Store.finish.Goals as goal

pub returns-clause-rests : goal.returns-clause-rests
returns-clause-rests g c = λ shown unbroken held t.
    at_ok c.durable_stores_are_left.ensures.synced c.durable_stores_are_left.ensures.left c.steady_disks_stand.ensures.settled g.S.Site held c.args.self.now c.sync.new.self c.sync.new.site c.sync.result c.show_order.ensures unbroken
    (λ sure other. g.met.S.Site.only shown c.sync.new.site other sure) c.sync.ensures.synced (c.sync.ensures.stands shown unbroken [] held t)

pub returns-clause-gives : goal.returns-clause-gives
returns-clause-gives g c = λ shown unbroken names held t. c.sync.ensures.gives shown unbroken names held t
