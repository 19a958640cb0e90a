use Rattle.std.proofs.Common.{◌∙◌, sym, ap, subst, List, ℕ, cond, ◌++◌, ◌∷◌, []}
use Rattle.bl_site.specs.Disk.{Disk}
use Rattle.bl_site_mem.specs.Record.{start, run, told_after, told_failed}
use Rattle.bl_site_mem.specs.Bytes.{call_of, entry_of, entries_of}
use Rattle.bl_site_mem.specs.declared.record.KeptEntry.{KeptEntry}
use Rattle.bl_site_mem.specs.Kept.{IsKept}
use Rattle.bl_site_mem.proofs.Times.{disk_pushed, told_pushed}
use Rattle.bl_site_mem.proofs.Bytes.{entries_pushed}
use Rattle.bl_site_mem.proofs.memory.perform.Goals as goal

pub returns-clause-kept : goal.returns-clause-kept
returns-clause-kept c kept =
    let added = entries_pushed c.args.entries.now.items c.push.new.self.items c.args.entry (c.in_ok-push.ensures.items ∙ ap (λ (l : List KeptEntry). l ++ c.args.entry ∷ []) c.reserve.ensures.items) in
    subst (λ (d : Disk). IsKept c.apply.new.files d) (sym (disk_pushed (entries_of c.args.entries.now.items) (entries_of c.push.new.self.items) (entry_of c.args.entry) added))
    (c.in_ok-apply.ensures.files (run (entries_of c.args.entries.now.items) start).disk kept)

pub returns-clause-told_kept : goal.returns-clause-told_kept
returns-clause-told_kept c kept =
    let added = entries_pushed c.args.entries.now.items c.push.new.self.items c.args.entry (c.in_ok-push.ensures.items ∙ ap (λ (l : List KeptEntry). l ++ c.args.entry ∷ []) c.reserve.ensures.items) in
    c.in_ok-apply.ensures.told
    ∙ ap (λ (told : List ℕ). cond c.args.entry.failed (told_failed (call_of c.args.entry.call) told) (told_after (call_of c.args.entry.call) told)) kept
    ∙ sym (told_pushed (entries_of c.args.entries.now.items) (entries_of c.push.new.self.items) (entry_of c.args.entry) added)
