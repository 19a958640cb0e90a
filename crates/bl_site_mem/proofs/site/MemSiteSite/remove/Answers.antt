use Rattle.bl_site.specs.Calls.{Removes}
use Rattle.bl_site_mem.specs.Record.{Remove}
use Rattle.bl_site_mem.specs.Recorded.{counted}
use Rattle.bl_site_mem.proofs.NameCalls.{is_remove, name_done, name_certain, name_failed, name_doubt, name_told, name_time}
use Rattle.bl_site_mem.proofs.site.MemSiteSite.remove.Goals as goal

pub returns-clause-done : goal.returns-clause-done
returns-clause-done c = λ shown. name_done (Removes c.args.name.now) (Remove c.args.name.now) (is_remove c.args.name.now) c.remove.result (counted (Remove c.args.name.now) c.args.self.now) c.remove.new.self c.remove.ensures.recorded

pub returns-clause-certain : goal.returns-clause-certain
returns-clause-certain c = λ shown. name_certain (Removes c.args.name.now) (Remove c.args.name.now) (is_remove c.args.name.now) c.remove.result (counted (Remove c.args.name.now) c.args.self.now) c.remove.new.self c.remove.ensures.recorded

pub returns-clause-failed : goal.returns-clause-failed
returns-clause-failed c = λ shown. name_failed (Removes c.args.name.now) (Remove c.args.name.now) (is_remove c.args.name.now) c.remove.result (counted (Remove c.args.name.now) c.args.self.now) c.remove.new.self c.remove.ensures.recorded

pub returns-clause-doubt : goal.returns-clause-doubt
returns-clause-doubt c = λ shown. name_doubt (Removes c.args.name.now) (Remove c.args.name.now) (is_remove c.args.name.now) c.remove.result (counted (Remove c.args.name.now) c.args.self.now) c.remove.new.self c.remove.ensures.recorded

pub returns-clause-told : goal.returns-clause-told
returns-clause-told c = λ shown. name_told (Removes c.args.name.now) (Remove c.args.name.now) (is_remove c.args.name.now) c.remove.result (counted (Remove c.args.name.now) c.args.self.now) c.remove.new.self c.remove.ensures.recorded

pub returns-clause-time : goal.returns-clause-time
returns-clause-time c = λ shown. name_time (Removes c.args.name.now) (Remove c.args.name.now) (is_remove c.args.name.now) c.remove.result (counted (Remove c.args.name.now) c.args.self.now) c.remove.new.self c.remove.ensures.recorded
