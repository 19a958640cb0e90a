use Rattle.bl_site_mem.specs.Record.{Look}
use Rattle.bl_site_mem.specs.Recorded.{counted}
use Rattle.bl_site_mem.proofs.FileCalls.{look_still, look_silent, still_keeps, silent_told, silent_time}
use Rattle.bl_site_mem.proofs.site.MemSiteSite.list.Goals as goal

pub returns-clause-stays : goal.returns-clause-stays
returns-clause-stays c = λ shown. still_keeps Look look_still c.list.result (counted Look c.args.self.now) c.list.new.self c.list.ensures.recorded

pub returns-clause-told : goal.returns-clause-told
returns-clause-told c = λ shown. silent_told Look look_silent c.list.result (counted Look c.args.self.now) c.list.new.self c.list.ensures.recorded

pub returns-clause-time : goal.returns-clause-time
returns-clause-time c = λ shown. silent_time Look look_silent c.list.result (counted Look c.args.self.now) c.list.new.self c.list.ensures.recorded
