use Rattle.std.proofs.Common.{◌≡◌, ◌+◌, drop}
use Rattle.std.specs.Prelude.{slice_get}
use Rattle.std.specs.Option.{option_copied}
use Rattle.bl_entry.specs.Entries.{first_at}
use Rattle.bl_read.specs.Scanning.{first_told}
use Rattle.bl_read.proofs.first.first_in_memory.Given as goal

abbrev pub invariant-entries : goal.invariant-entries
invariant-entries l = record {
  at : option_copied l.at ≡ slice_get l.memory (first_at l.from l.memory + l._entry);
  found : first_told l.bound l.seq l.memory ≡ first_told l.bound l.seq (drop (first_at l.from l.memory + l._entry) l.memory);
}
