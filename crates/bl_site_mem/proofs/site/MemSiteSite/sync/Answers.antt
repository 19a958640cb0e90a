use Rattle.bl_site_mem.specs.Record.{Sync}
use Rattle.bl_site_mem.specs.Recorded.{counted}
use Rattle.bl_site_mem.proofs.FileCalls.{sync_quiet, sync_silent, sync_done, sync_failed, sync_follows, quiet_certain, silent_told, silent_time}
use Rattle.bl_site_mem.proofs.site.MemSiteSite.sync.Goals as goal

pub returns-clause-done : goal.returns-clause-done
returns-clause-done c = λ shown. sync_done c.args.name.now c.sync.result (counted (Sync c.args.name.now) c.args.self.now) c.sync.new.self (c.requires shown) c.sync.ensures.recorded

pub returns-clause-failed : goal.returns-clause-failed
returns-clause-failed c = λ shown. sync_failed c.args.name.now c.sync.result (counted (Sync c.args.name.now) c.args.self.now) c.sync.new.self (c.requires shown) c.sync.ensures.recorded

pub returns-clause-certain : goal.returns-clause-certain
returns-clause-certain c = λ shown. quiet_certain (Sync c.args.name.now) (sync_quiet c.args.name.now) c.sync.result (counted (Sync c.args.name.now) c.args.self.now) c.sync.new.self c.sync.ensures.recorded

pub returns-clause-doubt : goal.returns-clause-doubt
returns-clause-doubt c = λ shown. sync_follows c.args.name.now c.sync.result (counted (Sync c.args.name.now) c.args.self.now) c.sync.new.self c.sync.ensures.recorded

pub returns-clause-told : goal.returns-clause-told
returns-clause-told c = λ shown. silent_told (Sync c.args.name.now) (sync_silent c.args.name.now) c.sync.result (counted (Sync c.args.name.now) c.args.self.now) c.sync.new.self c.sync.ensures.recorded

pub returns-clause-time : goal.returns-clause-time
returns-clause-time c = λ shown. silent_time (Sync c.args.name.now) (sync_silent c.args.name.now) c.sync.result (counted (Sync c.args.name.now) c.args.self.now) c.sync.new.self c.sync.ensures.recorded
