-- Laws of runs.
use Rattle.std.specs.Prelude.{◌≡◌, ◌≢◌, ◌⊎◌, ℕ, List, [], ◌∷◌, ◌++◌, length}
use Rattle.bl_site.specs.Disk.{Cut}
use Rattle.bl_edit.specs.Options.{Values}
use Rattle.bl_machine.specs.Writes.{Write}
use Rattle.bl_machine.specs.State.{State}
use Rattle.bl_machine.specs.Step.{Line, Step}
use Rattle.bl_machine.specs.History.{Runs, told_by}
use Rattle.bl_open.specs.SteadyCuts.{LeavesMap}
use Rattle.bl_store.specs.Held.{Held, maps_of}
use Rattle.bl_promise.specs.Start.{Start}
use Rattle.bl_promise.specs.Cuts.{CutOf}
use Rattle.bl_promise.specs.Carried.{IsWrittenBy}
use Rattle.bl_promise.specs.Causes.{Counts, HasCauses, IsFaultless}
use Rattle.bl_promise.specs.declared.status.Status.{Status}
use Rattle.bl_promise.specs.declared.status.Status.TheVariants.{Done, Words, OutOfMemory, Corrupt, Full, Differ}

-- ---- why a run ends

-- A run in which no call failed and not too much was taken is done, or memory ran out, unless the words were none, the folder is damaged, a limit was reached or an option differs.
abbrev pub RunsComplete : Type 0
RunsComplete = (counts : Counts) (status : Status) → HasCauses counts status → IsFaultless counts → status ≢ Words → status ≢ Corrupt → status ≢ Full → status ≢ Differ
    → (status ≡ Done) ⊎ (status ≡ OutOfMemory)

-- ---- cuts of a line are cuts of the run

-- While a call is made for a line, a cut leaves the map after some of the writes held before and those of the line, all that were durable among them: so it is one of the history with this line.
abbrev pub CallsCutLines : Type 0
CallsCutLines = (o : Values) (began : Start) (history : List Line) (line : Line) (old new : State) (earlier : List Write) (held during : Held) (told : List ℕ) (c : Cut) → Step o old line new
    → IsWrittenBy began earlier held history → during.before ≡ held.before → during.writes ≡ held.writes ++ line.wrote
    → LeavesMap (maps_of during) held.durable (length during.writes) (told ++ told_by history) c → CutOf began (history ++ line ∷ []) told c

-- Behind the call, while a front of the reply is told, it is one too: where the line syncs, all writes are durable by then.
abbrev pub RepliesCutLines : Type 0
RepliesCutLines = (began : Start) (history : List Line) (line : Line) (earlier : List Write) (held : Held) (front rest told : List ℕ) (c : Cut) → IsWrittenBy began earlier held (history ++ line ∷ [])
    → front ++ rest ≡ line.told → LeavesMap (maps_of held) held.durable (length held.writes) ((told ++ told_by history) ++ front) c → CutOf began (history ++ line ∷ []) told c

-- A cut of some lines is one of more lines, none of whose replies was told.
abbrev pub LinesKeepCuts : Type 0
LinesKeepCuts = (o : Values) (began : Start) (history more : List Line) (mid last : State) (told : List ℕ) (c : Cut) → Runs o mid more last
    → CutOf began history told c → CutOf began (history ++ more) told c
