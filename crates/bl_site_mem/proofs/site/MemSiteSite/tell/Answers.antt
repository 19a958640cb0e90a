use Rattle.bl_site_mem.specs.Record.{Tell}
use Rattle.bl_site_mem.specs.Recorded.{counted}
use Rattle.bl_site_mem.proofs.FileCalls.{tell_still, still_keeps, tell_done, tell_failed, tell_time}
use Rattle.bl_site_mem.proofs.site.MemSiteSite.tell.Goals as goal

pub returns-clause-done : goal.returns-clause-done
returns-clause-done c = λ shown. tell_done c.args.bytes.now c.tell.result (counted (Tell c.args.bytes.now) c.args.self.now) c.tell.new.self c.tell.ensures.recorded

pub returns-clause-failed : goal.returns-clause-failed
returns-clause-failed c = λ shown. tell_failed c.args.bytes.now c.tell.result (counted (Tell c.args.bytes.now) c.args.self.now) c.tell.new.self c.tell.ensures.recorded

pub returns-clause-stays : goal.returns-clause-stays
returns-clause-stays c = λ shown. still_keeps (Tell c.args.bytes.now) (tell_still c.args.bytes.now) c.tell.result (counted (Tell c.args.bytes.now) c.args.self.now) c.tell.new.self c.tell.ensures.recorded

pub returns-clause-time : goal.returns-clause-time
returns-clause-time c = λ shown. tell_time c.args.bytes.now c.tell.result (counted (Tell c.args.bytes.now) c.args.self.now) c.tell.new.self c.tell.ensures.recorded
