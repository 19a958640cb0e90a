use Rattle.bl_site.specs.Calls.{Renames}
use Rattle.bl_site_mem.specs.Record.{Rename}
use Rattle.bl_site_mem.specs.Recorded.{counted}
use Rattle.bl_site_mem.proofs.NameCalls.{is_rename, name_done, name_certain, name_failed, name_doubt, name_told, name_time}
use Rattle.bl_site_mem.proofs.site.MemSiteSite.rename.Goals as goal

pub returns-clause-done : goal.returns-clause-done
returns-clause-done c = λ shown. name_done (Renames c.args.from.now c.args.to.now) (Rename c.args.from.now c.args.to.now) (is_rename c.args.from.now c.args.to.now) c.rename.result (counted (Rename c.args.from.now c.args.to.now) c.args.self.now) c.rename.new.self c.rename.ensures.recorded

pub returns-clause-certain : goal.returns-clause-certain
returns-clause-certain c = λ shown. name_certain (Renames c.args.from.now c.args.to.now) (Rename c.args.from.now c.args.to.now) (is_rename c.args.from.now c.args.to.now) c.rename.result (counted (Rename c.args.from.now c.args.to.now) c.args.self.now) c.rename.new.self c.rename.ensures.recorded

pub returns-clause-failed : goal.returns-clause-failed
returns-clause-failed c = λ shown. name_failed (Renames c.args.from.now c.args.to.now) (Rename c.args.from.now c.args.to.now) (is_rename c.args.from.now c.args.to.now) c.rename.result (counted (Rename c.args.from.now c.args.to.now) c.args.self.now) c.rename.new.self c.rename.ensures.recorded

pub returns-clause-doubt : goal.returns-clause-doubt
returns-clause-doubt c = λ shown. name_doubt (Renames c.args.from.now c.args.to.now) (Rename c.args.from.now c.args.to.now) (is_rename c.args.from.now c.args.to.now) c.rename.result (counted (Rename c.args.from.now c.args.to.now) c.args.self.now) c.rename.new.self c.rename.ensures.recorded

pub returns-clause-told : goal.returns-clause-told
returns-clause-told c = λ shown. name_told (Renames c.args.from.now c.args.to.now) (Rename c.args.from.now c.args.to.now) (is_rename c.args.from.now c.args.to.now) c.rename.result (counted (Rename c.args.from.now c.args.to.now) c.args.self.now) c.rename.new.self c.rename.ensures.recorded

pub returns-clause-time : goal.returns-clause-time
returns-clause-time c = λ shown. name_time (Renames c.args.from.now c.args.to.now) (Rename c.args.from.now c.args.to.now) (is_rename c.args.from.now c.args.to.now) c.rename.result (counted (Rename c.args.from.now c.args.to.now) c.args.self.now) c.rename.new.self c.rename.ensures.recorded
