-- What is made of a memory: its kept entries are added to an output, one after the other, and all its files are sealed.
use Rattle.std.specs.Prelude.{ℕ, ◌+◌, true, false, List, [], ◌∷◌, ◌++◌}
use Rattle.std.specs.List.{AllByRecursion}
use Rattle.bl_entry.specs.declared.key.Entry.{Entry}
use Rattle.bl_entry.specs.Entries.{IsProper}
use Rattle.bl_entry.specs.Kept.{kept}
use Rattle.bl_edit.specs.Options.{Values}
use Rattle.bl_edit.specs.declared.edit.Edit.{Edit}
use Rattle.bl_out.specs.Outputs.{Out, added, begun, finished, made_for}
use Rattle.bl_out.specs.Written.{IsPlainKind}
use Rattle.bl_out.specs.declared.sealed.Sealed.{Sealed}
use Rattle.bl_out.specs.declared.sealed.Sealed.TheVariants as sealed

-- proper puts and deletions
abbrev pub ArePutsAndDeletions : List Entry → Type 0
ArePutsAndDeletions es = AllByRecursion (λ e. IsProper e × IsPlainKind e.key.kind) es

-- the output behind several entries, and the next number then
abbrev pub all_added : ℕ → Out → List Entry → Out
all_added next o [] = o
all_added next o (e ∷ es) = all_added (next + made_for o e) (added next o e) es

abbrev pub next_behind : ℕ → Out → List Entry → ℕ
next_behind next o [] = next
next_behind next o (e ∷ es) = next_behind (next + made_for o e) (added next o e) es

-- the output behind the entries that are kept of a memory for these snapshots, all in one table, and the next number then
abbrev pub added_of : Values → List ℕ → ℕ → List Entry → Out
added_of options snapshots next memory = all_added next (begun options true) (kept snapshots false memory)

abbrev pub next_of : Values → List ℕ → ℕ → List Entry → ℕ
next_of options snapshots next memory = next_behind next (begun options true) (kept snapshots false memory)

-- and with all its files closed and sealed
abbrev pub flushed : Values → List ℕ → ℕ → List Entry → Out
flushed options snapshots next memory = finished (added_of options snapshots next memory)

-- the edit with a sealed file more
abbrev pub with_sealed : Sealed → Edit → Edit
with_sealed (sealed.Table t) e = record e { added = e.added ++ t ∷ [] }
with_sealed (sealed.Blob b) e = record e { blobs = e.blobs ++ b ∷ [] }
