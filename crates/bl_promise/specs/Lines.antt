-- Calls of a store are lines of the machine.
use Rattle.std.specs.Prelude.{◌≡◌, ℕ, false, List, [], ◌∷◌, drop, sum_by}
use Rattle.bl_site.specs.Disk.{Disk, Name}
use Rattle.bl_entry.specs.Revisions.{Map}
use Rattle.bl_edit.specs.Options.{Values}
use Rattle.bl_script.specs.declared.command.Command.TheVariants.{Flush, Reopen, Sync}
use Rattle.bl_script.specs.declared.command.Parsed.{Parsed}
use Rattle.bl_script.specs.declared.command.Parsed.TheVariants.{Go}
use Rattle.bl_script.specs.Printing.{ok_line}
use Rattle.bl_machine.specs.Writes.{Write, bytes_of}
use Rattle.bl_machine.specs.State.{State, IsInOrder, start}
use Rattle.bl_machine.specs.Step.{Obeys, writes_of}
use Rattle.bl_store.specs.Stored.{Stored}
use Rattle.bl_store.specs.Opening.{IsBegun}
use Rattle.bl_store.specs.Held.{Held, all_durable, begun_with, now_of, with_write}
use Rattle.bl_store.specs.Standing.{StandsFor}
use Rattle.bl_store.specs.Calls.{HasEmptied, HasWritten, bytes_in}
use Rattle.bl_promise.specs.Carried.{CarriesState, IsLineTo, is_waiting}

-- The files of a store that stands on a disk are in order.
abbrev pub StoresAreInOrder : Type 0
StoresAreInOrder = (names : List Name) (held : Held) (store : Stored) (disk : Disk) → StandsFor names held store disk → IsInOrder store.version

-- A write is the line that writes it;
abbrev pub WritesAreLines : Type 0
WritesAreLines = (names : List Name) (o : Values) (s : State) (held : Held) (order : Parsed) (w : Write) (old new : Stored) (disk after : Disk) → CarriesState names o s held old disk → writes_of s order ≡ w ∷ []
    → HasWritten w old new → StandsFor names (with_write w held) new after → IsLineTo names o order s ok_line (with_write w held) new after

-- a flush is the line `flush`;
abbrev pub FlushesAreLines : Type 0
FlushesAreLines = (names : List Name) (o : Values) (s : State) (held : Held) (old new : Stored) (disk after : Disk) → CarriesState names o s held old disk
    → HasEmptied old new → StandsFor names (all_durable held) new after → IsLineTo names o (Go Flush) s ok_line (all_durable held) new after

-- a sync is the line `sync`;
abbrev pub SyncsAreLines : Type 0
SyncsAreLines = (names : List Name) (o : Values) (s : State) (held : Held) (store new : Stored) (disk after : Disk) → CarriesState names o s held store disk
    → new ≡ store → StandsFor names (all_durable held) new after → IsLineTo names o (Go Sync) s ok_line (all_durable held) new after

-- a store that is begun anew with the map that it had, and with its options, is the line `reopen`;
abbrev pub ReopeningsAreLines : Type 0
ReopeningsAreLines = (names kept : List Name) (o : Values) (s : State) (held after : Held) (old new : Stored) (disk disk_after : Disk) → CarriesState names o s held old disk
    → IsBegun new → new.standing.options ≡ old.standing.options → now_of after ≡ now_of held → StandsFor kept after new disk_after → IsLineTo kept o (Go Reopen) s ok_line after new disk_after

-- and a line that changes nothing leaves it as it is.
abbrev pub QuietLinesStay : Type 0
QuietLinesStay = (names : List Name) (o : Values) (s : State) (held : Held) (order : Parsed) (told : List ℕ) (store : Stored) (disk : Disk) → CarriesState names o s held store disk
    → Obeys o order s told s → IsLineTo names o order s told held store disk

-- A store that begins carries the machine's first state.
abbrev pub BegunCarry : Type 0
BegunCarry = (names : List Name) (m : Map) (store : Stored) (disk : Disk) → IsBegun store → StandsFor names (begun_with m) store disk
    → CarriesState names store.standing.options (start m store.version) (begun_with m) store disk

-- The bytes that the machine counts are those of the batches behind the first ones in the logs, which a waiting memory has; where none waits, of all batches.
abbrev pub BytesAreInLogs : Type 0
BytesAreInLogs = (names : List Name) (held : Held) (store : Stored) (disk : Disk) → (t : StandsFor names held store disk)
    → (sum_by (λ b. bytes_of b.operations) (drop t.steady.below t.steady.holding.batches) ≡ bytes_in store.memory) × (is_waiting store.waiting ≡ false → t.steady.below ≡ 0)
