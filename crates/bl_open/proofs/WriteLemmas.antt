-- Writes, syncs and switches of a steady disk.
use Rattle.std.proofs.Common.{◌≡◌, ◌≢◌, ◌⊎◌, ℕ, ◌+◌, ◌<◌, ◌≤◌, List, [], ◌∷◌, ◌++◌, length, take, map, false, refl, sym, ◌∙◌, ap, subst, arith, Some, inl, inr, append_assoc, length-append}
use Rattle.std.proofs.lemmas.List.{map-append, take-append-le, nil_from_length}
use Rattle.std.proofs.lemmas.Bool.{cases_lt}
use Rattle.std.proofs.lemmas.List.Sums.{sum_by_push}
use Rattle.std.specs.Prelude.{sum_by}
use Rattle.bl_site.specs.Disk.{Disk}
use Rattle.bl_log.specs.Layout.{written}
use Rattle.bl_names.specs.declared.name.FileName.{FileName}
use Rattle.bl_names.specs.declared.name.FileName.TheVariants.{Current, Manifest, Log, Table, Blob}
use Rattle.bl_names.specs.Names.{HasNumber, IsNumber, NamesOne, name_of, manifest_name}
use Rattle.bl_entry.specs.Batches.{Batch}
use Rattle.bl_entry.specs.Records.{batches_of, LastIsCounted}
use Rattle.bl_entry.specs.Revisions.{Revision, after_operations}
use Rattle.bl_wal.specs.LogFile.{LogFile, log_name, new_log}
use Rattle.bl_wal.specs.Held.{Batches, HoldsBatches, record_of, log_of}
use Rattle.bl_wal.specs.Laws.{LogsAreRead, NextBatchIsRead}
use Rattle.bl_manifest.specs.Laws.{SyncedManifestsAreLeft}
use Rattle.bl_folder.specs.Holding.{Holding}
use Rattle.bl_folder.specs.Stands.{IsSound}
use Rattle.bl_folder.specs.Fronts.{cut_to, last_after}
use Rattle.bl_folder.specs.Settled.{IsSynced, IsSyncedFile}
use Rattle.bl_folder.specs.Laws.{LiveIsVersion}
use Rattle.bl_entry.proofs.ItemLemmas.{some_is}
use Rattle.bl_open.specs.Steady.{Maps, Steady, IsBacked, IsSteady, MakesMaps, accepted}
use Rattle.bl_open.specs.SteadyCalls.{KeepsAllBut, IsNextBatch, wrote, with_batch, switched}
use Rattle.bl_open.specs.SteadyLaws.{BatchesMakeMaps, NewLogsAreQuiet, QuietKeepsSteady, SwitchesKeepSteady, SyncsKeepSteady, WritesKeepSteady}
use Rattle.bl_open.proofs.BatchLemmas.{take_mapped, take_whole}
use Rattle.bl_open.proofs.LeftLemmas.{lower, written_batches}
use Rattle.bl_open.proofs.CutLemmas.{last_is}
use Rattle.bl_open.proofs.FrameLemmas.{Kept, kept_but, elsewhere, steady_beside, version_of, backs_now, same_log}

-- ---- what is beside the log in use stays

module _ (names : NamesOne) (left : SyncedManifestsAreLeft) (versions : LiveIsVersion) (maps : Maps) (s : Steady) (old new : Disk) (t : IsSteady maps s old)
    (number : ℕ) (is : IsNumber number) (keeps : KeepsAllBut (log_name number) old new) where
  beside_log : (f : FileName) → HasNumber f → f ≢ Log number → new (name_of f) ≡ old (name_of f)
  beside_log = elsewhere names (Log number) old new is keeps

  current_stays : new (name_of Current) ≡ old (name_of Current)
  current_stays = beside_log Current tt (λ e. cc e)

  manifest_stays : new (manifest_name s.manifest.number) ≡ old (manifest_name s.manifest.number)
  manifest_stays = beside_log (Manifest s.manifest.number) t.number (λ e. cc e)

  log_stays : (n : ℕ) → IsNumber n → n ≢ number → new (log_name n) ≡ old (log_name n)
  log_stays n has ne = beside_log (Log n) has (λ e. ne (same_log n number e))

  kept_beside : ((n : ℕ) → n ≢ s.log.number → n ≢ number) → Kept s old new
  kept_beside away = kept_but s old new (version_of left versions maps s old t) (λ n has. beside_log (Table n) has (λ e. cc e)) (λ n has. beside_log (Blob n) has (λ e. cc e))
      (λ n has ne. log_stays n has (away n ne))

pub syncs_keep_steady : NamesOne → SyncedManifestsAreLeft → LiveIsVersion → LogsAreRead → SyncsKeepSteady
syncs_keep_steady names left versions read maps s log synced old new t number keeps holds =
    let b = t.backed in
    let k = kept_beside names left versions maps s old new t s.log.number b.is_number keeps (λ n ne. ne) in
    let after : Steady = record s { log = log; synced = synced } in
    steady_beside maps s after old new t refl refl refl
    (current_stays names left versions maps s old new t s.log.number b.is_number keeps)
    (manifest_stays names left versions maps s old new t s.log.number b.is_number keeps)
    (backs_now maps s old new b k log number s.own synced s.holding.last s.holding.batches holds read (written_batches maps s old b read) b.count b.makes)

-- ---- one batch more

more_batches : NextBatchIsRead → LogsAreRead → (maps : Maps) (s : Steady) (old : Disk) (b : IsBacked maps s old) (x : Batch) → IsNextBatch s x
    → batches_of (lower maps s old b ++ map record_of (s.own ++ x ∷ [])) s.holding.live.standing.last_sequence ≡ Some (s.holding.batches ++ x ∷ [], s.holding.last + length x.operations)
more_batches next read maps s old b x is =
    let low = lower maps s old b in
    let base = s.holding.live.standing.last_sequence in
    ap (λ r. batches_of (low ++ r) base) (map-append record_of s.own (x ∷ []))
    ∙ ap (λ r. batches_of r base) (sym (append_assoc low (map record_of s.own) (record_of x ∷ [])))
    ∙ next (low ++ map record_of s.own) base s.holding.last s.holding.batches x (written_batches maps s old b read) is.reads is.first

-- the first batches are as before
same_front : (h : Holding) (x : Batch) (count : ℕ) → count ≤ length h.batches → cut_to count h ≡ cut_to count (with_batch h x)
same_front h x count le =
    let e : take count h.batches ≡ take count (h.batches ++ x ∷ []) = sym (take-append-le count h.batches (x ∷ []) le) in
    ap (λ bs. record h { batches = bs; last = h.live.standing.last_sequence + ops_of bs }) e
  where
    ops_of : List Batch → ℕ
    ops_of bs = sum_by (λ (b : Batch). length b.operations) bs

makes_more : (maps : Maps) (s : Steady) (x : Batch) → MakesMaps maps s.before s.holding
    → ((found : List Revision) × IsSound (cut_to (length s.holding.batches + 1) (with_batch s.holding x)) found (maps (accepted s + 1))) → MakesMaps maps s.before (with_batch s.holding x)
makes_more maps s x makes new count le =
    elim (cases_lt (length s.holding.batches) count) [
      | inl less ↦
          let size = length-append s.holding.batches (x ∷ []) in
          let is : length s.holding.batches + 1 ≡ count = omega (arith, less, le, size) in
          let at : accepted s + 1 ≡ s.before + count = omega (arith, is) in
          (new.0, subst (λ (n : ℕ). IsSound (cut_to count (with_batch s.holding x)) new.0 (maps n)) at (subst (λ (n : ℕ). IsSound (cut_to n (with_batch s.holding x)) new.0 (maps (accepted s + 1))) is new.1))
      | inr within ↦
          let made = makes count within in
          (made.0, subst (λ (h : Holding). IsSound h made.0 (maps (s.before + count))) (same_front s.holding x count within) made.1)
    ]

whole_more : (h : Holding) (x : Batch) → h.last ≡ last_after h.live.standing.last_sequence h.batches → with_batch h x ≡ cut_to (length h.batches + 1) (with_batch h x)
whole_more h x e =
    let size : length (h.batches ++ x ∷ []) ≡ length h.batches + 1 = length-append h.batches (x ∷ []) in
    let all : take (length h.batches + 1) (h.batches ++ x ∷ []) ≡ h.batches ++ x ∷ [] = ap (λ n. take n (h.batches ++ x ∷ [])) (sym size) ∙ take_whole (h.batches ++ x ∷ []) in
    let last : last_after h.live.standing.last_sequence (h.batches ++ x ∷ []) ≡ h.last + length x.operations = one_more h.live.standing.last_sequence h.batches x ∙ ap (λ n. n + length x.operations) (sym e) in
    sym (ap (λ bs. record h { batches = bs; last = last_after h.live.standing.last_sequence bs }) all ∙ ap (λ n. record h { batches = h.batches ++ x ∷ []; last = n }) last)
  where
    one_more : (base : ℕ) (bs : List Batch) (y : Batch) → last_after base (bs ++ y ∷ []) ≡ last_after base bs + length y.operations
    one_more base bs y = let more = sum_by_push (λ (b : Batch). length b.operations) bs y in omega (arith, more)

pub writes_keep_steady : NamesOne → SyncedManifestsAreLeft → LiveIsVersion → LogsAreRead → LastIsCounted → NextBatchIsRead → BatchesMakeMaps → WritesKeepSteady
writes_keep_steady names left versions read counted next sound maps s x log old new t is number keeps holds map_is =
    let b = t.backed in
    let k = kept_beside names left versions maps s old new t s.log.number b.is_number keeps (λ n ne. ne) in
    let count = b.count in
    let one : length (s.holding.batches ++ x ∷ []) ≡ length s.holding.batches + 1 = length-append s.holding.batches (x ∷ []) in
    let two : length (s.own ++ x ∷ []) ≡ length s.own + 1 = length-append s.own (x ∷ []) in
    let made = sound maps s old x t is in
    let whole = whole_more s.holding x (last_is read counted maps s old b) in
    let last : (found : List Revision) × IsSound (cut_to (length s.holding.batches + 1) (with_batch s.holding x)) found (maps (accepted s + 1)) =
    (made.0, subst (λ m. IsSound (cut_to (length s.holding.batches + 1) (with_batch s.holding x)) made.0 m) (sym map_is) (subst (λ (h : Holding). IsSound h made.0 (after_operations x.operations (maps (accepted s)))) whole made.1)) in
    let after : Steady = wrote s x log in
    steady_beside maps s after old new t refl refl refl
    (current_stays names left versions maps s old new t s.log.number b.is_number keeps)
    (manifest_stays names left versions maps s old new t s.log.number b.is_number keeps)
    (backs_now maps s old new b k log number (s.own ++ x ∷ []) s.synced (s.holding.last + length x.operations) (s.holding.batches ++ x ∷ []) holds read (more_batches next read maps s old b x is)
    (omega (arith, one, two, count)) (makes_more maps s x b.makes last))

-- ---- a switch

log_synced : (disk : Disk) (log : LogFile) (own : Batches) (synced : ℕ) → log.failed ≡ false → synced ≡ length own → HoldsBatches disk log own synced → IsSynced disk (Log log.number)
log_synced disk log own synced open_ all h x at =
    let same : h.file ≡ x = some_is (sym h.there ∙ at) in
    let front : h.file.front ≡ log_of own = h.front ∙ ap (written 0) (ap (λ n. take n (map record_of own)) all ∙ take_mapped record_of own) in
    let size : length (h.file.front ++ h.file.handed) ≡ length h.file.front = ap length (h.all ∙ sym front) in
    let sum = length-append h.file.front h.file.handed in
    subst IsSyncedFile same (record { handed = nil_from_length h.file.handed (omega (arith, size, sum)); front = front ∙ sym (h.reads open_) })

switched_on : (maps : Maps) (s : Steady) (disk : Disk) (number : ℕ) → IsBacked maps s disk → s.log.failed ≡ false → s.synced ≡ length s.own → IsNumber number → s.log.number < number
    → HoldsBatches disk (new_log number) [] 0 → IsBacked maps (switched s number) disk
switched_on maps s disk number b open_ all is less holds =
    let needed = b.needed in
    record {
      files = b.files;
      batches = b.batches;
      is_number = is;
      needed = omega (arith, needed, less);
      in_use = holds;
      count = omega arith;
      others = λ n has le ne. elim (same_or n s.log.number) [
        | inl same ↦ subst (λ (k : ℕ). IsSynced disk (Log k)) (sym same) (log_synced disk s.log s.own s.synced open_ all b.in_use)
        | inr other ↦ b.others n has le other
      ];
      last = λ n far. b.last n (omega (arith, far, less));
      makes = b.makes;
    }
  where
    same_or : (m n : ℕ) → (m ≡ n) ⊎ (m ≢ n)
    same_or m n = elim (cases_lt m n) [
      | inl lt ↦ inr (λ e. omega (arith, e, lt))
      | inr le ↦ elim (cases_lt n m) [
        | inl lt ↦ inr (λ e. omega (arith, e, lt))
        | inr ge ↦ inl (omega (arith, le, ge))
      ]
    ]

pub switches_keep_steady : NewLogsAreQuiet → QuietKeepsSteady → SwitchesKeepSteady
switches_keep_steady quiet keeps maps s number old new t open_ all is less made holds =
    let u : IsSteady maps s new = keeps maps s old new t (quiet maps s number old new t is less made) in
    record {
      number = u.number;
      current = u.current;
      current_synced = u.current_synced;
      edits = u.edits;
      restores = u.restores;
      backed = switched_on maps s new number u.backed open_ all is less holds;
    }
