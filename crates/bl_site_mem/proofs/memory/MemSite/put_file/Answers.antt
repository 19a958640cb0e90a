use Rattle.std.proofs.Common.{◌∙◌, rules, ◌≡◌, false, ap, subst, sym}
use Rattle.bl_site.specs.Calls.{Puts}
use Rattle.bl_site_mem.specs.Record.{PutFile, Memory, State, disk_of, synced_file}
use Rattle.bl_site_mem.specs.Recorded.{with_call}
use Rattle.bl_site_mem.specs.Bytes.{entries_of}
use Rattle.bl_site_mem.proofs.Puts.{puts_put}
use Rattle.bl_site_mem.proofs.Times.{at_with}
use Rattle.bl_site_mem.proofs.memory.MemSite.put_file.Goals as goal

pub returns-clause-puts : goal.returns-clause-puts
returns-clause-puts c =
    let name = c.args.name.now in
    let bytes = c.args.bytes.now in
    let old = c.args.self.now in
    let new : Memory = record { entries = entries_of c.perform.new.entries.items; failing = c.self.inside.failing.items; changes = c.self.inside.changes } in
    let is : new ≡ with_call (PutFile name bytes) false old = search rules in
    subst (λ (s : State). Puts name (synced_file bytes) (disk_of old) s.disk) (sym (at_with (PutFile name bytes) false old new is)) (puts_put (disk_of old) name (synced_file bytes))

pub returns-clause-certain : goal.returns-clause-certain
returns-clause-certain c none =
    let name = c.args.name.now in
    let bytes = c.args.bytes.now in
    let old = c.args.self.now in
    let new : Memory = record { entries = entries_of c.perform.new.entries.items; failing = c.self.inside.failing.items; changes = c.self.inside.changes } in
    let is : new ≡ with_call (PutFile name bytes) false old = search rules in
    ap (λ (s : State). s.doubt) (at_with (PutFile name bytes) false old new is) ∙ none

pub returns-clause-told : goal.returns-clause-told
returns-clause-told c =
    let name = c.args.name.now in
    let bytes = c.args.bytes.now in
    let old = c.args.self.now in
    let new : Memory = record { entries = entries_of c.perform.new.entries.items; failing = c.self.inside.failing.items; changes = c.self.inside.changes } in
    let is : new ≡ with_call (PutFile name bytes) false old = search rules in
    ap (λ (s : State). s.told) (at_with (PutFile name bytes) false old new is)
