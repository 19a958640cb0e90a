use Rattle.std.proofs.Common.{subst, string_bytes}
use Rattle.bl_site.specs.Disk.{Name}
use Rattle.bl_site.specs.Calls.{Creates}
use Rattle.bl_records.proofs.HeldLemmas.{created_holds}
use Rattle.bl_records.proofs.writer.RecordWriter.create.Goals as goal

pub returns-clause-holds : goal.returns-clause-holds
returns-clause-holds g c = λ shown.
    let before = g.S.Site.disk c.args.site.now in
    let after = g.S.Site.disk c.create.new.self in
    let P : Name → Type 0 = λ name. Creates name before after in
    created_holds (string_bytes c.args.name) before after (subst P c.as_str.ensures.value (c.in_ok-create.ensures.done shown))
