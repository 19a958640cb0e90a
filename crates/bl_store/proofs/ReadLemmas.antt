-- What a store gives readers, and what they are answered.
use Rattle.std.proofs.Common.{◌≡◌, ℕ, false, List, [], ◌++◌, append-nil, drop, sym, ◌∙◌, ap, subst, Option, None, Some, Result, Ok, Err}
use Rattle.std.specs.Prelude.{IfErr, IfOk, IsErrOf}
use Rattle.bl_site.specs.Causes.{Rose}
use Rattle.bl_site.specs.Disk.{Disk, Folder, Name, folder_of}
use Rattle.bl_site.specs.declared.site.Site.{Ghosts}
use Rattle.bl_entry.specs.Revisions.{Map}
use Rattle.bl_entry.specs.declared.run.RunErr.{RunErr}
use Rattle.bl_entry.specs.declared.run.RunErr.TheVariants as run
use Rattle.bl_build.specs.Restoring.{Restored}
use Rattle.bl_wal.specs.LogFile.{LogFile}
use Rattle.bl_manifest.specs.ManifestFile.{ManifestFile}
use Rattle.bl_entry.specs.Batches.{Batch}
use Rattle.bl_entry.specs.declared.key.Entry.{Entry}
use Rattle.bl_folder.specs.Flushes.{Follow, IsMemoryOf}
use Rattle.bl_folder.specs.Holding.{Holding}
use Rattle.bl_folder.specs.Laws.{HoldingIsOne}
use Rattle.bl_folder.specs.Memories.{HeldIsMemory}
use Rattle.bl_folder.specs.Stands.{StandsLive}
use Rattle.bl_open.specs.Steady.{IsUsable, Steady}
use Rattle.bl_open.specs.SteadyLaws.{SteadyHold, SteadyStand}
use Rattle.bl_read.specs.Giving.{Gives, memories_of}
use Rattle.bl_read.specs.Laws.{GivenAreWhole}
use Rattle.bl_read.specs.Reading.{IsDamaged}
use Rattle.bl_read.specs.Sound.{AreMemoriesOf, SoundFoldersGiveTheirMap}
use Rattle.bl_store.specs.Causes.{of_run}
use Rattle.bl_store.specs.Held.{Held, maps_of, now_of}
use Rattle.bl_store.specs.Reading.{AnswersBy, GivesMap, IsReading, RefusesReading, StoresGiveTheirMap, view_of, waiting_in}
use Rattle.bl_store.specs.Standing.{Carries, HasWaiting, StandsFor}
use Rattle.bl_store.specs.Stored.{IsInOrder, Stored}
use Rattle.bl_open.specs.Synced.{as_synced}
use Rattle.bl_store.specs.declared.error.StoreErr.{StoreErr}
use Rattle.bl_store.specs.declared.error.StoreErr.TheVariants.{Disk as DiskFailed, Corrupt, NoSnapshot}
use Rattle.bl_store.specs.declared.store.Waiting.{Waiting}
use Rattle.bl_store.proofs.HeldLemmas.{maps_last}
use Rattle.bl_store.proofs.SyncedLemmas.{same_folder}

-- ---- what a store gives

-- its memories have what the batches of its logs write
memories_are : HeldIsMemory → (s : Steady) (store : Stored) → Carries s store → AreMemoriesOf s.holding.batches (waiting_in store.waiting) store.memory
memories_are is_memory s store c = by store.waiting c.waiting
  where
    of : IsMemoryOf (drop s.below s.holding.batches) store.memory
    of = is_memory (drop s.below s.holding.batches) store.memory store.last c.fit c.memory

    by : (w : Option Waiting) → HasWaiting s w → AreMemoriesOf s.holding.batches (waiting_in w) store.memory
    by None none = subst (λ n. IsMemoryOf (drop n s.holding.batches) store.memory) none of
    by (Some w) h = (s.below, h.0, of)

pub usable_of : (store : Stored) (s : Steady) → IsInOrder store → store.broken ≡ false → Carries s store → IsUsable s
usable_of store s order unbroken c = record {
  log = ap (λ (l : LogFile). l.failed) c.log ∙ order.log unbroken;
  manifest = ap (λ (m : ManifestFile). m.failed) c.manifest ∙ order.manifest unbroken;
}

-- with memories that have what the batches of its logs write, and perhaps further ones
pub gives_with : HoldingIsOne → SoundFoldersGiveTheirMap → SteadyHold → SteadyStand → (names : List Name) (held : Held) (store : Stored) (disk : Disk) → IsInOrder store → store.broken ≡ false → (t : StandsFor names held store disk)
    → (more : List Batch) (waiting : Option (List Entry)) (in_use : List Entry) → Follow store.last more → AreMemoriesOf (t.steady.holding.batches ++ more) waiting in_use
    → Gives (folder_of disk) (record { version = store.version; memories = memories_of waiting in_use }) store.last (now_of held)
gives_with one sound hold stand names held store disk order unbroken t more waiting in_use follow memories =
    let c = t.carries in
    let usable = usable_of store t.steady order unbroken c in
    let f : Folder = folder_of (as_synced names disk) in
    let m : Map = now_of held in
    let stands : StandsLive f m = subst (StandsLive f) (ap (maps_of held) t.writes ∙ maps_last held) (stand (maps_of held) t.steady (as_synced names disk) t.is_steady usable) in
    let same : stands.holding ≡ t.steady.holding =
    (one f stands.manifest t.steady.manifest.number stands.holding t.steady.holding stands.holds (hold (maps_of held) t.steady (as_synced names disk) t.is_steady usable)).1 in
    let given = sound f m stands more waiting in_use (subst (λ n. Follow n more) (sym (ap (λ (h : Holding). h.last) same ∙ c.last)) follow)
    (subst (λ (h : Holding). AreMemoriesOf (h.batches ++ more) waiting in_use) (sym same) memories) in
    let held_by : Gives f (record { version = t.steady.holding.live.version; memories = memories_of waiting in_use }) t.steady.holding.last m =
    subst (λ (h : Holding). Gives f (record { version = h.live.version; memories = memories_of waiting in_use }) h.last m) same given in
    let seen : Gives f (record { version = store.version; memories = memories_of waiting in_use }) t.steady.holding.last m =
    subst (λ (r : Restored). Gives f (record { version = r.version; memories = memories_of waiting in_use }) t.steady.holding.last m) c.live held_by in
    subst (λ (g : Folder). Gives g (record { version = store.version; memories = memories_of waiting in_use }) store.last m) (same_folder names disk)
    (subst (λ n. Gives f (record { version = store.version; memories = memories_of waiting in_use }) n m) c.last seen)

pub stores_give : HoldingIsOne → HeldIsMemory → SoundFoldersGiveTheirMap → SteadyHold → SteadyStand → StoresGiveTheirMap
stores_give one is_memory sound hold stand names held store disk order unbroken t =
    gives_with one sound hold stand names held store disk order unbroken t [] (waiting_in store.waiting) store.memory tt
    (subst (λ bs. AreMemoriesOf bs (waiting_in store.waiting) store.memory) (sym (append-nil t.steady.holding.batches)) (memories_are is_memory t.steady store t.carries))

-- ---- what is answered

module _ (law : StoresGiveTheirMap) {S T : Type 0} (g : Ghosts S) (result : Result T StoreErr) (s : Stored) (site : S) (order : IsInOrder s) where
  pub answers : (answer : Map → T) → (g.shows → (m : Map) → GivesMap m s (g.disk site) → IfOk result (λ found. found ≡ answer m)) → AnswersBy g answer result s site
  answers answer given = record {
    given = given;
    now = λ shown unbroken names held t. given shown (now_of held) (law names held s (g.disk site) order unbroken t);
  }

  pub refuses : GivenAreWhole → (after : S) → (g.shows → (name : Name) (place : ℕ) → result ≡ Err (Corrupt name place) → IsDamaged (folder_of (g.disk site)) s.version name)
      → (IsErrOf result DiskFailed → Rose (g.disk_faults site) (g.disk_faults after)) → RefusesReading g result s site after
  refuses whole after damaged failed = record {
    damaged = damaged;
    given = never;
    now = λ shown unbroken names held t. never shown (now_of held) (law names held s (g.disk site) order unbroken t);
    disk = failed;
  }
    where
      never : g.shows → (m : Map) → GivesMap m s (g.disk site) → (name : Name) (place : ℕ) → result ≡ Err (Corrupt name place) → ⊥
      never shown m gives name place is = whole (folder_of (g.disk site)) (view_of s) s.last m name gives (damaged shown name place is)

-- reading never answers that a snapshot is not live
not_reading : (n : ℕ) (o : RunErr) → NoSnapshot n ≡ of_run o → ⊥
not_reading n run.Disk e = cc e
not_reading n (run.Corrupt name place) e = cc e
not_reading n run.OutOfMemory e = cc e

pub no_snapshot : {T : Type 0} (result : Result T StoreErr) → IfErr result IsReading → (n : ℕ) → result ≡ Err (NoSnapshot n) → ⊥
no_snapshot (Ok x) causes n e = absurd (let wrong = e in cc wrong)
no_snapshot (Err o) causes n e = let is : o ≡ NoSnapshot n = cc e in not_reading n causes.0 (sym is ∙ causes.1)

-- what is told as damaged was read as damaged
pub corrupt_of : (o : RunErr) (e : StoreErr) (name : Name) (place : ℕ) → e ≡ of_run o → e ≡ Corrupt name place → o ≡ run.Corrupt name place
corrupt_of run.Disk e name place of is = absurd (let wrong = sym of ∙ is in cc wrong)
corrupt_of (run.Corrupt n p) e name place of is = let same : Corrupt n p ≡ Corrupt name place = sym of ∙ is in cc same
corrupt_of run.OutOfMemory e name place of is = absurd (let wrong = sym of ∙ is in cc wrong)
