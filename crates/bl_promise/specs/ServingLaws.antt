-- Laws of serving: each call keeps what a run has done so far.
use Rattle.std.specs.Prelude.{◌≡◌, ℕ, ◌+◌, ◌<◌, ◌^◌, List, [], ◌∷◌, ◌++◌, length, false}
use Rattle.bl_site.specs.Disk.{folder_of}
use Rattle.bl_site.specs.Quiet.{OnlyReads}
use Rattle.bl_site.specs.declared.site.Site.{Ghosts}
use Rattle.bl_entry.specs.Revisions.{Map}
use Rattle.bl_folder.specs.Stands.{Stands}
use Rattle.bl_open.specs.Options.{Words}
use Rattle.bl_script.specs.declared.command.Command.TheVariants.{Flush, Reopen, Sync}
use Rattle.bl_script.specs.declared.command.Parsed.{Parsed}
use Rattle.bl_script.specs.declared.command.Parsed.TheVariants.{Go}
use Rattle.bl_machine.specs.Writes.{Write}
use Rattle.bl_machine.specs.State.{State}
use Rattle.bl_machine.specs.Step.{Obeys, writes_of}
use Rattle.bl_machine.specs.Synced.{syncs}
use Rattle.bl_store.specs.Stored.{Stored}
use Rattle.bl_store.specs.Calls.{HasEmptied, HasWritten}
use Rattle.bl_store.specs.Opening.{IsBegun}
use Rattle.bl_store.specs.Held.{all_durable, with_write}
use Rattle.bl_promise.specs.Start.{Start}
use Rattle.bl_promise.specs.Serving.{Answering, BeginsRun, Failing, HasCalled, HasFailed, HasMetLimit, HasOpened, HasReopened, HasTold, IsSeen, Served, Stopped}

-- the order writes these operations, in whatever state
abbrev pub IsWrite : Parsed → Write → Type 0
IsWrite order w = (s : State) → writes_of s order ≡ w ∷ []

-- the order only tells this of a state, and changes nothing
pub record IsTold (began : Start) (order : Parsed) (s : State) (told : List ℕ) : Type 0 where
  pub obeys : Obeys began.options order s told s
  pub writes : writes_of s order ≡ []
  pub no_sync : syncs order ≡ false

-- ---- an order is obeyed

-- a write;
abbrev pub WritesServe : {S : Type 0} → Ghosts S → Type 0
WritesServe {S} g = (began : Start) (given : List Parsed) (order : Parsed) (w : Write) (store new : Stored) (start old now : S) → Served g began given store start old
    → IsWrite order w → HasWritten w store new → store.last + length w < 2 ^ 56 → HasCalled g (with_write w) store new old now → Answering g began given order new start now

-- a flush;
abbrev pub FlushesServe : {S : Type 0} → Ghosts S → Type 0
FlushesServe {S} g = (began : Start) (given : List Parsed) (store new : Stored) (start old now : S) → Served g began given store start old
    → HasEmptied store new → HasCalled g all_durable store new old now → Answering g began given (Go Flush) new start now

-- a sync;
abbrev pub SyncsServe : {S : Type 0} → Ghosts S → Type 0
SyncsServe {S} g = (began : Start) (given : List Parsed) (store new : Stored) (start old now : S) → Served g began given store start old
    → new ≡ store → HasCalled g all_durable store new old now → Answering g began given (Go Sync) new start now

-- a reopening;
abbrev pub ReopeningsServe : {S : Type 0} → Ghosts S → Type 0
ReopeningsServe {S} g = (began : Start) (given : List Parsed) (store new : Stored) (start old now : S) → Served g began given store start old
    → IsBegun new → new.standing.options ≡ store.standing.options → new.last ≡ store.last → IsSeen g store old → HasReopened g store new old now → Answering g began given (Go Reopen) new start now

-- and one that only tells.
abbrev pub QuietLinesServe : {S : Type 0} → Ghosts S → Type 0
QuietLinesServe {S} g = (began : Start) (given : List Parsed) (order : Parsed) (told : List ℕ) (store : Stored) (start now : S) → (s : Served g began given store start now)
    → IsTold began order s.last told → (a : Answering g began given order store start now) × ((a.front.rest ≡ told) × (a.last ≡ s.last))

-- The folder is only read.
abbrev pub ReadsServe : {S : Type 0} → Ghosts S → Type 0
ReadsServe {S} g = g.shows → (began : Start) (given : List Parsed) (store : Stored) (start old now : S) → (s : Served g began given store start old) → OnlyReads g old now
    → (t : Served g began given store start now) × (t.last ≡ s.last)

-- So it may be while a reply is told: what a scan does.
abbrev pub ReadsAnswer : {S : Type 0} → Ghosts S → Type 0
ReadsAnswer {S} g = g.shows → (began : Start) (given : List Parsed) (order : Parsed) (store : Stored) (start old now : S) → (a : Answering g began given order store start old) → OnlyReads g old now
    → (b : Answering g began given order store start now) × (b.front.rest ≡ a.front.rest)

-- ---- its reply is told

-- While a reply is told, more of it was told;
abbrev pub TellingServes : {S : Type 0} → Ghosts S → Type 0
TellingServes {S} g = g.shows → (began : Start) (given : List Parsed) (order : Parsed) (bytes more : List ℕ) (store : Stored) (start old now : S) → (a : Answering g began given order store start old)
    → a.front.rest ≡ bytes ++ more → (t : HasTold g bytes old now) → (b : Answering g began given order store start now) × (b.front.rest ≡ t.front.rest ++ more)

-- and once all of it was, the order is served.
abbrev pub AnsweredAreServed : {S : Type 0} → Ghosts S → Type 0
AnsweredAreServed {S} g = (began : Start) (given : List Parsed) (order : Parsed) (store : Stored) (start now : S) → (a : Answering g began given order store start now) → a.front.rest ≡ []
    → Served g began (given ++ order ∷ []) store start now

-- So it is where the rest of the reply was told in one call.
abbrev pub RepliedAreServed : {S : Type 0} → Ghosts S → Type 0
RepliedAreServed {S} g = g.shows → (began : Start) (given : List Parsed) (order : Parsed) (bytes : List ℕ) (store : Stored) (start old now : S) → (a : Answering g began given order store start old)
    → a.front.rest ≡ bytes → (t : HasTold g bytes old now) → t.front.rest ≡ [] → Served g began (given ++ order ∷ []) store start now

-- ---- a call fails

-- in a write,
abbrev pub FailedWritesServe : {S : Type 0} → Ghosts S → Type 0
FailedWritesServe {S} g = (began : Start) (given : List Parsed) (order : Parsed) (w : Write) (store : Stored) (start old now : S) → Served g began given store start old
    → IsWrite order w → HasFailed g (with_write w) store old now → Failing g began (given ++ order ∷ []) start now

-- in an order that writes nothing,
abbrev pub FailedCallsServe : {S : Type 0} → Ghosts S → Type 0
FailedCallsServe {S} g = (began : Start) (given : List Parsed) (order : Parsed) (store : Stored) (start old now : S) → Served g began given store start old
    → ((s : State) → writes_of s order ≡ []) → HasFailed g all_durable store old now → Failing g began (given ++ order ∷ []) start now

-- while the reply is told,
abbrev pub FailedTellingServes : {S : Type 0} → Ghosts S → Type 0
FailedTellingServes {S} g = (began : Start) (given : List Parsed) (order : Parsed) (store : Stored) (start now : S) → Answering g began given order store start now → Failing g began (given ++ order ∷ []) start now

-- or before the order did anything.
abbrev pub NothingFailed : {S : Type 0} → Ghosts S → Type 0
NothingFailed {S} g = (began : Start) (given : List Parsed) (store : Stored) (start now : S) → Served g began given store start now → Failing g began given start now

-- Where a limit is met, nothing of the order is left.
abbrev pub LimitsServe : {S : Type 0} → Ghosts S → Type 0
LimitsServe {S} g = (began : Start) (given : List Parsed) (store new : Stored) (start old now : S) → Served g began given store start old
    → HasMetLimit g store new old now → IsSeen g new now → Stopped g began given start now

-- So it is in a reopening, behind which the folder stands for what it stood for.
abbrev pub ReopeningLimitsServe : {S : Type 0} → Ghosts S → Type 0
ReopeningLimitsServe {S} g = (began : Start) (given : List Parsed) (store : Stored) (start old now : S) → Served g began given store start old → IsSeen g store old
    → HasFailed g all_durable store old now → ((m : Map) → Stands (folder_of (g.disk old)) m → Stands (folder_of (g.disk now)) m) → Stopped g began given start now

-- ---- an opening

-- An opening of a folder that stands for a map begins a run.
abbrev pub OpeningsBegin : {S : Type 0} → Ghosts S → Type 0
OpeningsBegin {S} g = g.shows → (words : Words) (m : Map) (store : Stored) (old now : S) → Stands (folder_of (g.disk old)) m → HasOpened g words m store old now → BeginsRun g words store old now
