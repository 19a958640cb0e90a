use Rattle.bl_site_mem.specs.Record.{Append}
use Rattle.bl_site_mem.specs.Recorded.{counted}
use Rattle.bl_site_mem.proofs.FileCalls.{append_quiet, append_silent, append_done, append_failed, append_follows, quiet_certain, silent_told, silent_time}
use Rattle.bl_site_mem.proofs.site.MemSiteSite.append.Goals as goal

pub returns-clause-done : goal.returns-clause-done
returns-clause-done c = λ shown. append_done c.args.name.now c.args.bytes.now c.append.result (counted (Append c.args.name.now c.args.bytes.now) c.args.self.now) c.append.new.self (c.requires shown) c.append.ensures.recorded

pub returns-clause-failed : goal.returns-clause-failed
returns-clause-failed c = λ shown. append_failed c.args.name.now c.args.bytes.now c.append.result (counted (Append c.args.name.now c.args.bytes.now) c.args.self.now) c.append.new.self (c.requires shown) c.append.ensures.recorded

pub returns-clause-certain : goal.returns-clause-certain
returns-clause-certain c = λ shown. quiet_certain (Append c.args.name.now c.args.bytes.now) (append_quiet c.args.name.now c.args.bytes.now) c.append.result (counted (Append c.args.name.now c.args.bytes.now) c.args.self.now) c.append.new.self c.append.ensures.recorded

pub returns-clause-doubt : goal.returns-clause-doubt
returns-clause-doubt c = λ shown. append_follows c.args.name.now c.args.bytes.now c.append.result (counted (Append c.args.name.now c.args.bytes.now) c.args.self.now) c.append.new.self c.append.ensures.recorded

pub returns-clause-told : goal.returns-clause-told
returns-clause-told c = λ shown. silent_told (Append c.args.name.now c.args.bytes.now) (append_silent c.args.name.now c.args.bytes.now) c.append.result (counted (Append c.args.name.now c.args.bytes.now) c.args.self.now) c.append.new.self c.append.ensures.recorded

pub returns-clause-time : goal.returns-clause-time
returns-clause-time c = λ shown. silent_time (Append c.args.name.now c.args.bytes.now) (append_silent c.args.name.now c.args.bytes.now) c.append.result (counted (Append c.args.name.now c.args.bytes.now) c.args.self.now) c.append.new.self c.append.ensures.recorded
