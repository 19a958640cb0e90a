use Rattle.std.proofs.Common.{◌≡◌, List, sym, ◌∙◌, ap, subst}
use Rattle.std.specs.Option.{option_copied}
use Rattle.bl_site.specs.Disk.{Folder, folder_of}
use Rattle.bl_entry.specs.declared.key.Entry.{Entry}
use Rattle.bl_read.specs.Giving.{Gives, memories_of}
use Rattle.bl_store.specs.Reading.{waiting_in}
use Rattle.bl_store.specs.Stored.{Stored}
use Rattle.bl_store.proofs.store.Store.next_told.Goals as goal

pub returns-in-Ok-clause-value : goal.returns-in-Ok-clause-value
returns-in-Ok-clause-value g c = λ shown t m gives.
    let f : Folder = folder_of (g.S.Site.disk c.args.site.now) in
    let now : Stored = c.args.self.now in
    let memory : c.self.inside.memory ≡ now.memory = ap (λ (s : Stored). s.memory) c.self.view_is in
    let same : memories_of (option_copied c.waiting_memory.result) c.self.inside.memory ≡ memories_of (waiting_in now.waiting) now.memory =
    ap (memories_of (option_copied c.waiting_memory.result)) memory ∙ ap (λ o. memories_of o now.memory) c.waiting_memory.ensures in
    c.in-Ok.ensures.value shown now.version t.tables m
    (subst (λ (ms : List (List Entry)). Gives f (record { version = now.version; memories = ms }) c.args.pairs.now.seq m) (sym same)
    (subst (λ n. Gives f (record { version = now.version; memories = memories_of (waiting_in now.waiting) now.memory }) n m) (sym t.seq) gives))
