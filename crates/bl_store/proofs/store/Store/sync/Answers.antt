use Rattle.bl_store.proofs.store.Store.sync.Goals as goal

pub returns-clause-stands : goal.returns-clause-stands
returns-clause-stands g c = λ shown usable names held t. c.sync_log.ensures.stands shown names held t

pub returns-clause-cuts : goal.returns-clause-cuts
returns-clause-cuts g c = λ shown sure usable held t. c.sync_log.ensures.cuts shown sure held t

pub returns-clause-gives : goal.returns-clause-gives
returns-clause-gives g c = λ shown usable names held t. c.sync_log.ensures.gives shown names held t
