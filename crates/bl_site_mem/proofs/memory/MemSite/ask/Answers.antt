use Rattle.std.proofs.Common.{rules, ◌≡◌, ◌+◌, ◌-◌, ◌^◌, min}
use Rattle.bl_site_mem.specs.Bytes.{entries_of}
use Rattle.bl_site_mem.proofs.Counts.{calls_after_call}
use Rattle.bl_site_mem.proofs.memory.MemSite.ask.Goals as goal

pub invariant_of-self-2 : goal.invariant_of-self-2
invariant_of-self-2 c =
    let next : c.saturating_add-number.result ≡ min (c.self.inside.calls + 1) (2 ^ 64 - 1) = search rules in
    record {
      kept = c.perform.ensures.kept c.self.invariant.kept;
      told_kept = c.perform.ensures.told_kept c.self.invariant.told_kept;
      calls_kept = calls_after_call (entries_of c.self.inside.entries.items) (entries_of c.perform.new.entries.items) _ c.self.inside.calls _ c.requires c.in_ok-perform.ensures.ok c.self.invariant.calls_kept next;
    }
