use Rattle.bl_site.specs.Calls.{Creates}
use Rattle.bl_site_mem.specs.Record.{Create}
use Rattle.bl_site_mem.specs.Recorded.{counted}
use Rattle.bl_site_mem.proofs.NameCalls.{is_create, name_done, name_certain, name_failed, name_doubt, name_told, name_time}
use Rattle.bl_site_mem.proofs.site.MemSiteSite.create.Goals as goal

pub returns-clause-done : goal.returns-clause-done
returns-clause-done c = λ shown. name_done (Creates c.args.name.now) (Create c.args.name.now) (is_create c.args.name.now) c.create.result (counted (Create c.args.name.now) c.args.self.now) c.create.new.self c.create.ensures.recorded

pub returns-clause-certain : goal.returns-clause-certain
returns-clause-certain c = λ shown. name_certain (Creates c.args.name.now) (Create c.args.name.now) (is_create c.args.name.now) c.create.result (counted (Create c.args.name.now) c.args.self.now) c.create.new.self c.create.ensures.recorded

pub returns-clause-failed : goal.returns-clause-failed
returns-clause-failed c = λ shown. name_failed (Creates c.args.name.now) (Create c.args.name.now) (is_create c.args.name.now) c.create.result (counted (Create c.args.name.now) c.args.self.now) c.create.new.self c.create.ensures.recorded

pub returns-clause-doubt : goal.returns-clause-doubt
returns-clause-doubt c = λ shown. name_doubt (Creates c.args.name.now) (Create c.args.name.now) (is_create c.args.name.now) c.create.result (counted (Create c.args.name.now) c.args.self.now) c.create.new.self c.create.ensures.recorded

pub returns-clause-told : goal.returns-clause-told
returns-clause-told c = λ shown. name_told (Creates c.args.name.now) (Create c.args.name.now) (is_create c.args.name.now) c.create.result (counted (Create c.args.name.now) c.args.self.now) c.create.new.self c.create.ensures.recorded

pub returns-clause-time : goal.returns-clause-time
returns-clause-time c = λ shown. name_time (Creates c.args.name.now) (Create c.args.name.now) (is_create c.args.name.now) c.create.result (counted (Create c.args.name.now) c.args.self.now) c.create.new.self c.create.ensures.recorded
