-- The log in use of a store is synced, appended to, and switched.
use Rattle.std.proofs.Common.{◌≡◌, ℕ, ◌≤◌, List, length, take, Bool, true, false, refl, sym, ◌∙◌, ap, subst, arith, Option, None, Some, Result, Ok, Err, IsErr}
use Rattle.bl_records.proofs.HeldLemmas.{within_of}
use Rattle.bl_site.specs.Disk.{Disk, Name}
use Rattle.bl_names.specs.declared.name.FileName.TheVariants.{Log}
use Rattle.bl_names.specs.Names.{IsNumber, NamesOne}
use Rattle.bl_wal.specs.LogFile.{LogFile, log_name}
use Rattle.bl_wal.specs.Held.{Batches, HoldsAllSynced, HoldsBatches, record_of}
use Rattle.bl_open.proofs.FrameLemmas.{same_held}
use Rattle.bl_open.specs.Steady.{IsSteady, Steady}
use Rattle.bl_open.specs.SteadyCalls.{KeepsAllBut}
use Rattle.bl_open.specs.SteadyLaws.{SteadyAreSettled, SyncsKeepSteady}
use Rattle.bl_store.specs.Stored.{Stored}
use Rattle.bl_open.specs.Synced.{as_synced}
use Rattle.bl_store.specs.Held.{Held, all_durable, maps_of}
use Rattle.bl_store.specs.Standing.{Carries, HasWaiting, StandsFor}
use Rattle.bl_store.specs.declared.store.Waiting.{Waiting}
use Rattle.bl_store.specs.Calls.{LeavesStore}
use Rattle.bl_store.specs.declared.error.StoreErr.{StoreErr}
use Rattle.bl_store.proofs.SyncedLemmas.{keeps_synced, unsynced_at}
use Rattle.bl_store.proofs.MomentLemmas.{settled_of}

-- ---- the log, as if tables and blob files had been synced

pub log_there : NamesOne → (names : List Name) (held : Held) (store : Stored) (disk : Disk) (t : StandsFor names held store disk) → HoldsBatches disk store.log t.steady.own t.steady.synced
log_there one names held store disk t =
    let b = t.is_steady.backed in
    let in_use : HoldsBatches (as_synced names disk) store.log t.steady.own t.steady.synced = subst (λ (l : LogFile). HoldsBatches (as_synced names disk) l t.steady.own t.steady.synced) t.carries.log b.in_use in
    let is : IsNumber store.log.number = subst (λ (l : LogFile). IsNumber l.number) t.carries.log b.is_number in
    same_held (as_synced names disk) disk store.log t.steady.own t.steady.synced (sym (unsynced_at one store.next names disk (Log store.log.number) t.found is tt)) in_use

pub log_synced : NamesOne → (next : ℕ) (names : List Name) (disk : Disk) (log : LogFile) (own : Batches) (synced : ℕ) → Rattle.bl_open.specs.Synced.AreFilesBelow next names → IsNumber log.number
    → HoldsBatches disk log own synced → HoldsBatches (as_synced names disk) log own synced
log_synced one next names disk log own synced found is holds = same_held disk (as_synced names disk) log own synced (unsynced_at one next names disk (Log log.number) found is tt) holds

pub waits_alike : (s other : Steady) (w : Option Waiting) → other.holding ≡ s.holding → other.below ≡ s.below → other.log.number ≡ s.log.number → HasWaiting s w → HasWaiting other w
waits_alike s other None h b l has = b ∙ has
waits_alike s other (Some w) h b l has = (
  subst (λ (bs : Rattle.bl_wal.specs.Held.Batches). Rattle.bl_folder.specs.Flushes.IsMemoryOf bs w.memory) (λ i. take (sym b i) (sym h i).batches) has.0,
  has.1 ∙ (λ i. Rattle.bl_folder.specs.Fronts.last_after (sym h i).live.standing.last_sequence (take (sym b i) (sym h i).batches)),
  has.2 ∙ sym l,
)

-- ---- a sync

-- what the disk holds once the log was synced, with what the call answered
module _ (one : NamesOne) (law : SyncsKeepSteady) (names : List Name) (held : Held) (store : Stored) (old new : Disk) (t : StandsFor names held store old)
    (log : LogFile) (number : log.number ≡ store.log.number) (keeps : KeepsAllBut (log_name store.log.number) old new) where
  abbrev s : Steady
  s = t.steady

  same_number : log.number ≡ s.log.number
  same_number = number ∙ ap (λ (l : LogFile). l.number) (sym t.carries.log)

  keeps_all : KeepsAllBut (log_name s.log.number) (as_synced names old) (as_synced names new)
  keeps_all = subst (λ (l : LogFile). KeepsAllBut (log_name l.number) (as_synced names old) (as_synced names new)) (sym t.carries.log) (keeps_synced names (log_name store.log.number) old new keeps)

  is_number : IsNumber log.number
  is_number = subst IsNumber (sym same_number) t.is_steady.backed.is_number

  now_steady : (synced : ℕ) → HoldsBatches new log s.own synced → IsSteady (maps_of held) (record s { log = log; synced = synced }) (as_synced names new)
  now_steady synced holds = law (maps_of held) s log synced (as_synced names old) (as_synced names new) t.is_steady same_number keeps_all (log_synced one store.next names new log s.own synced t.found is_number holds)

  now_carries : (synced : ℕ) (broken : Bool) → Carries (record s { log = log; synced = synced }) (record store { log = log; broken = broken })
  now_carries synced broken = let c = t.carries in record {
    live = c.live;
    manifest = c.manifest;
    log = refl;
    last = c.last;
    waiting = waits_alike s (record s { log = log; synced = synced }) store.waiting refl refl same_number c.waiting;
    memory = c.memory;
    fit = c.fit;
    ahead = record { version = c.ahead.version; manifest = c.ahead.manifest; log = (let less = c.ahead.log in omega (arith, less, number)) };
  }

  -- with all of its batches synced
  pub all_stand : (broken : Bool) → HoldsBatches new log s.own (length s.own) → StandsFor names (all_durable held) (record store { log = log; broken = broken }) new
  all_stand broken holds = let writes = t.writes in let count = t.is_steady.backed.count in record {
    steady = record s { log = log; synced = length s.own };
    is_steady = now_steady (length s.own) holds;
    carries = now_carries (length s.own) broken;
    writes = writes;
    durable = omega (arith, writes, count);
    found = t.found;
  }

  -- or as many as before
  pub some_stand : (broken : Bool) → HoldsBatches new log s.own s.synced → StandsFor names held (record store { log = log; broken = broken }) new
  some_stand broken holds = record {
    steady = record s { log = log };
    is_steady = now_steady s.synced holds;
    carries = now_carries s.synced broken;
    writes = t.writes;
    durable = t.durable;
    found = t.found;
  }

  -- as many are at least as many as before
  pub more_stand : (broken : Bool) → HoldsBatches new log s.own (length s.own) → StandsFor names held (record store { log = log; broken = broken }) new
  more_stand broken holds = let durable_ = t.durable in let most = within_of record_of s.own s.synced t.is_steady.backed.in_use.within in record {
    steady = record s { log = log; synced = length s.own };
    is_steady = now_steady (length s.own) holds;
    carries = now_carries (length s.own) broken;
    writes = t.writes;
    durable = omega (arith, durable_, most);
    found = t.found;
  }

  -- what the call leaves
  pub sync_done : SteadyAreSettled → store.manifest.failed ≡ false → (broken : Bool) → HoldsBatches new log s.own (length s.own)
      → LeavesStore {T = Unit {0}} names held (all_durable held) (Ok (tt {0})) (record store { log = log; broken = broken }) new
  sync_done settled usable broken holds = record {
    ok = all_stand broken holds;
    err = tt;
    settled = λ none chance. settled_of settled (all_durable held) (record store { log = log; broken = broken }) new (subst (λ ns. StandsFor ns (all_durable held) (record store { log = log; broken = broken }) new) none (all_stand broken holds)) usable;
  }

  pub sync_failed : SteadyAreSettled → store.manifest.failed ≡ false → (e : StoreErr) → HoldsBatches new log s.own s.synced
      → LeavesStore {T = Unit {0}} names held (all_durable held) (Err e) (record store { log = log; broken = true }) new
  sync_failed settled usable e holds = record {
    ok = tt;
    err = λ no. some_stand true holds;
    settled = λ none chance. settled_of settled held (record store { log = log; broken = true }) new (subst (λ ns. StandsFor ns held (record store { log = log; broken = true }) new) none (some_stand true holds)) usable;
  }

-- ---- fewer writes that are known to be durable

pub within_durable : (names : List Name) (held : Held) (store : Stored) (disk : Disk) → StandsFor names held store disk → held.durable ≤ length held.writes
within_durable names held store disk t =
    let durable_ = t.durable in let writes = t.writes in let count = t.is_steady.backed.count in
    let most = within_of record_of t.steady.own t.steady.synced t.is_steady.backed.in_use.within in
    omega (arith, durable_, writes, count, most)

pub less_durable : (names : List Name) (held : Held) (store : Stored) (disk : Disk) → held.durable ≤ length held.writes → StandsFor names (all_durable held) store disk → StandsFor names held store disk
less_durable names held store disk le t = let durable_ = t.durable in record {
  steady = t.steady;
  is_steady = t.is_steady;
  carries = t.carries;
  writes = t.writes;
  durable = omega (arith, durable_, le);
  found = t.found;
}

-- what a second part of a call leaves, where all writes were durable behind the first
pub leaves_then : {T : Type 0} (names : List Name) (held : Held) (result : Result T StoreErr) (new : Stored) (disk : Disk) → held.durable ≤ length held.writes
    → LeavesStore names (all_durable held) (all_durable held) result new disk → LeavesStore names held (all_durable held) result new disk
leaves_then names held (Ok x) new disk le l = record { ok = l.ok; err = tt; settled = l.settled }
leaves_then names held (Err e) new disk le l = record { ok = tt; err = λ no_. less_durable names held new disk le (l.err no_); settled = l.settled }

-- a failure of a part is one of the call
pub leaves_err : {T U : Type 0} (names : List Name) (held done : Held) (e f : StoreErr) (new : Stored) (disk : Disk) → LeavesStore {T = T} names held done (Err e) new disk → LeavesStore {T = U} names held done (Err f) new disk
leaves_err names held done e f new disk l = record { ok = tt; err = l.err; settled = l.settled }

pub leaves_failed : {T U : Type 0} (names : List Name) (held done : Held) (e : StoreErr) (r : Result U StoreErr) (new : Stored) (disk : Disk) → IsErr r → LeavesStore {T = T} names held done (Err e) new disk → LeavesStore {T = U} names held done r new disk
leaves_failed names held done e (Ok x) new disk is l = cc is
leaves_failed names held done e (Err f) new disk is l = leaves_err names held done e f new disk l
