-- A steady disk of which other files change.
use Rattle.std.proofs.Common.{◌≡◌, ◌≢◌, ◌⊎◌, ℕ, zero, suc, ◌+◌, ◌<◌, ◌≤◌, List, [], ◌∷◌, ◌++◌, length, map, take, Bool, true, false, cond, refl, sym, ◌∙◌, ap, subst, arith, Option, Some, None, inl, inr}
use Rattle.std.specs.Prelude.{◌&&◌, IsTrue, Contains, unwrap_or}
use Rattle.std.specs.List.{AllByRecursion}
use Rattle.std.specs.Option.{option_map}
use Rattle.std.specs.Result.{result_ok}
use Rattle.std.proofs.lemmas.Bool.{cases_lt}
use Rattle.bl_site.specs.Disk.{Disk, File, Cut, IsCut, IsLeft, written_of}
use Rattle.bl_site.proofs.Moments.{all_during}
use Rattle.bl_log.specs.Log.{records}
use Rattle.bl_names.specs.declared.name.FileName.{FileName}
use Rattle.bl_names.specs.declared.name.FileName.TheVariants.{Current, Manifest, Log, Table, Blob, Temp}
use Rattle.bl_names.specs.Names.{HasNumber, IsNumber, NamesOne, name_of, current_text, manifest_name}
use Rattle.bl_entry.specs.Batches.{Batch}
use Rattle.bl_entry.specs.Records.{batches_of}
use Rattle.bl_blob.specs.Reading.{file_in}
use Rattle.bl_edit.specs.Bounds.{is_number, table_fits}
use Rattle.bl_edit.specs.declared.edit.NewTable.{NewTable}
use Rattle.bl_build.specs.declared.meta.BlobMeta.{BlobMeta}
use Rattle.bl_build.specs.Restoring.{Restored, restored_by}
use Rattle.bl_build.specs.Versions.{IsVersion}
use Rattle.bl_wal.specs.LogFile.{LogFile, log_name}
use Rattle.bl_wal.specs.Held.{Batches, HoldsBatches, record_of, log_of}
use Rattle.bl_wal.specs.Laws.{FrontsAreRead, LogsAreRead}
use Rattle.bl_manifest.specs.ManifestFile.{ManifestFile}
use Rattle.bl_manifest.specs.Held.{Edits, HoldsEdits}
use Rattle.bl_manifest.specs.Laws.{SyncedManifestsAreLeft}
use Rattle.bl_folder.specs.Files.{log_bytes}
use Rattle.bl_folder.specs.Live.{IsLive}
use Rattle.bl_folder.specs.Logs.{HaveBatches}
use Rattle.bl_folder.specs.Needed.{IsNeeded}
use Rattle.bl_entry.specs.Items.{each_of}
use Rattle.bl_out.specs.Tables.{table_in}
use Rattle.bl_folder.specs.Holding.{Holds, IsSpelled, blob_in}
use Rattle.bl_out.specs.Files.{of_size, entries_in}
use Rattle.bl_out.specs.Finding.{◌then◌}
use Rattle.bl_folder.specs.Settled.{IsSynced, IsSyncedFile, NamesSynced}
use Rattle.bl_folder.specs.Laws.{LiveIsVersion}
use Rattle.bl_code.proofs.Basics.{all_from}
use Rattle.bl_entry.proofs.ItemLemmas.{all_of_map, all_contained, contains_map, each_same, some_is}
use Rattle.bl_folder.proofs.Finding.{from_test, by_number}
use Rattle.bl_open.specs.Steady.{Maps, Steady, IsBacked, IsSteady, MakesMaps}
use Rattle.bl_open.specs.SteadyCalls.{KeepsAllBut, IsQuietCall, IsFurtherLog}
use Rattle.bl_open.specs.SteadyLaws.{SteadyHoldWritten, NewLogsAreQuiet, QuietCallsKeepAll, QuietKeepsSteady, RenamesAreQuiet, UnneededAreQuiet, UnneededByName}
use Rattle.bl_open.proofs.LeftLemmas.{left_holds, own_written, spelled_alike, log_there, none_behind, records_in, depth, lower, written_batches}
use Rattle.bl_open.proofs.CutLemmas.{live_left, whole_is}
use Rattle.bl_open.proofs.BatchLemmas.{take_whole}
use Rattle.bl_entry.specs.Records.{LastIsCounted}
use Rattle.bl_folder.specs.Fronts.{cut_to}

abbrev pub no_bytes : File
no_bytes = record { read = []; front = []; handed = [] }

-- ---- what is not the log in use stays

pub record Kept (s : Steady) (old new : Disk) : Type 0 where
  pub tables : AllByRecursion (λ t. new (name_of (Table t.number)) ≡ old (name_of (Table t.number))) s.holding.live.version.tables
  pub blobs : AllByRecursion (λ b. new (name_of (Blob b.number)) ≡ old (name_of (Blob b.number))) s.holding.live.version.blobs
  pub logs : (n : ℕ) → IsNumber n → s.holding.live.standing.log_number ≤ n → n ≢ s.log.number
      → (new (log_name n) ≡ old (log_name n)) ⊎ ((s.log.number < n) × (new (log_name n) ≡ Some no_bytes))

pub all_both : {A : Type 0} (P Q R : A → Type 0) (xs : List A) → ((x : A) → P x → Q x → R x) → AllByRecursion P xs → AllByRecursion Q xs → AllByRecursion R xs
all_both P Q R [] to p q = tt
all_both P Q R (x ∷ xs) to p q = (to x p.0 q.0, all_both P Q R xs to p.1 q.1)

abbrev pub written_in : Option File → Option (List ℕ)
written_in o = option_map (λ (x : File). x.front ++ x.handed) o

pub synced_same : (old new : Disk) (f : FileName) → new (name_of f) ≡ old (name_of f) → IsSynced old f → IsSynced new f
synced_same old new f e s x at = s x (sym e ∙ at)

synced_empty : (new : Disk) (f : FileName) → new (name_of f) ≡ Some no_bytes → IsSynced new f
synced_empty new f e x at =
    let is : no_bytes ≡ x = some_is (sym e ∙ at) in
    subst IsSyncedFile is (record { handed = refl; front = refl })

module _ (maps : Maps) (s : Steady) (old new : Disk) (b : IsBacked maps s old) (k : Kept s old new) where
  table_kept : (t : NewTable) → new (name_of (Table t.number)) ≡ old (name_of (Table t.number)) → table_in (written_of new) t ≡ table_in (written_of old) t
  table_kept t e = λ i. written_in (e i) then of_size t.size then entries_in then λ es. Some (record { meta = t; entries = es })

  blob_kept : (m : BlobMeta) → new (name_of (Blob m.number)) ≡ old (name_of (Blob m.number)) → blob_in (written_of new) m ≡ blob_in (written_of old) m
  blob_kept m e = λ i. (written_in (e i) then λ bytes. result_ok (file_in bytes)) then λ rs. Some (record { meta = m; records = rs })

  pub tables_kept : each_of (table_in (written_of new)) s.holding.live.version.tables ≡ Some s.holding.tables
  tables_kept = each_same (table_in (written_of old)) (table_in (written_of new)) s.holding.live.version.tables (all_from _ _ s.holding.live.version.tables table_kept k.tables) ∙ b.files.tables

  pub blobs_kept : each_of (blob_in (written_of new)) s.holding.live.version.blobs ≡ Some s.holding.blobs
  blobs_kept = each_same (blob_in (written_of old)) (blob_in (written_of new)) s.holding.live.version.blobs (all_from _ _ s.holding.live.version.blobs blob_kept k.blobs) ∙ b.files.blobs

  pub spelled_kept : AllByRecursion (IsSpelled (written_of new)) s.holding.blobs
  spelled_kept = spelled_alike (written_of old) (written_of new) s.holding.live.version.blobs s.holding.blobs b.files.blobs (all_from _ _ s.holding.live.version.blobs (λ m e. ap written_in e) k.blobs) b.files.spelled

  pub named_kept : NamesSynced new s.holding.live
  named_kept = record {
    tables = all_both _ _ _ s.holding.live.version.tables (λ t e synced. synced_same old new (Table t.number) e synced) k.tables b.files.named.tables;
    blobs = all_both _ _ _ s.holding.live.version.blobs (λ m e synced. synced_same old new (Blob m.number) e synced) k.blobs b.files.named.blobs;
  }

  pub others_kept : (n : ℕ) → IsNumber n → s.holding.live.standing.log_number ≤ n → n ≢ s.log.number → IsSynced new (Log n)
  others_kept n is le ne =
      elim (k.logs n is le ne) [
        | inl same ↦ synced_same old new (Log n) same (b.others n is le ne)
        | inr far ↦ synced_empty new (Log n) far.1
      ]

  none_there : (n : ℕ) → is_number n ≡ true → s.log.number < n → unwrap_or (written_of old (log_name n)) [] ≡ []
  none_there n t less = sym (ap (λ r. cond r (unwrap_or (written_of old (log_name n)) []) []) t) ∙ b.last n less

  pub log_kept : (n : ℕ) → s.holding.live.standing.log_number ≤ n → n ≢ s.log.number → log_bytes (written_of new) n ≡ log_bytes (written_of old) n
  log_kept n le ne = by_number (is_number n) (λ t.
      elim (k.logs n (from_test n t) le ne) [
        | inl same ↦ ap (λ o. unwrap_or (written_in o) []) same
        | inr far ↦ ap (λ o. unwrap_or (written_in o) []) far.1 ∙ sym (none_there n t far.0)
      ])

  pub last_kept : (n : ℕ) → s.log.number < n → log_bytes (written_of new) n ≡ []
  last_kept n less = let needed = b.needed in log_kept n (omega (arith, less, needed)) (λ e. absurd (omega (arith, e, less))) ∙ b.last n less

  -- The log in use holds these batches now: what it has is read behind the logs below it.
  module _ (log : LogFile) (number : log.number ≡ s.log.number) (own : Batches) (synced last : ℕ) (batches : List Batch) (in_use : HoldsBatches new log own synced) where
    own_there : written_of new (log_name s.log.number) ≡ Some (log_of own)
    own_there = ap (λ n. written_in (new (log_name n))) (sym number) ∙ ap written_in in_use.there ∙ ap Some in_use.all

    pub have_now : LogsAreRead → batches_of (lower maps s old b ++ map record_of own) s.holding.live.standing.last_sequence ≡ Some (batches, last)
        → HaveBatches (written_of new) s.holding.live.standing.log_number s.holding.live.standing.last_sequence batches last
    have_now read are =
        let here : records (log_bytes (written_of new) s.log.number) ≡ map record_of own = ap records (log_there (written_of new) s.log.number (log_of own) b.is_number own_there) ∙ read own in
        record {
          count = suc (depth maps s old b);
          no_more = none_behind maps s old b (written_of new) log_kept;
          are = ap (λ r. batches_of r s.holding.live.standing.last_sequence) (records_in maps s old b (written_of new) (map record_of own) log_kept here) ∙ are;
        }

    -- so the disk backs what is held with them
    pub backs_now : LogsAreRead → batches_of (lower maps s old b ++ map record_of own) s.holding.live.standing.last_sequence ≡ Some (batches, last)
        → length batches ≡ s.below + length own → MakesMaps maps s.before (record s.holding { batches = batches; last = last })
        → IsBacked maps (record s { log = log; own = own; synced = synced; holding = record s.holding { batches = batches; last = last } }) new
    backs_now read are count makes =
        let needed = b.needed in
        record {
          files = record { tables = tables_kept; blobs = blobs_kept; spelled = spelled_kept; named = named_kept };
          batches = have_now read are;
          is_number = subst IsNumber (sym number) b.is_number;
          needed = omega (arith, number, needed);
          in_use = in_use;
          count = count;
          others = λ n is le ne. others_kept n is le (λ e. ne (e ∙ sym number));
          last = λ n less. last_kept n (omega (arith, less, number));
          makes = makes;
        }

-- ---- the same disk beside

pub same_held : (old new : Disk) (log : LogFile) (own : Batches) (synced : ℕ) → new (log_name log.number) ≡ old (log_name log.number) → HoldsBatches old log own synced → HoldsBatches new log own synced
same_held old new log own synced e h = record { file = h.file; there = e ∙ h.there; within = h.within; front = h.front; all = h.all; reads = h.reads; place = h.place }

pub same_edits : (old new : Disk) (m : ManifestFile) (edits : Edits) (synced : ℕ) → new (manifest_name m.number) ≡ old (manifest_name m.number) → HoldsEdits old m edits synced → HoldsEdits new m edits synced
same_edits old new m edits synced e h =
    let r = h.records in
    record {
      records = record { file = r.file; there = e ∙ r.there; within = r.within; front = r.front; all = r.all; reads = r.reads; place = r.place };
      are = h.are;
      all_synced = h.all_synced;
    }

pub backed_kept : LogsAreRead → (maps : Maps) (s : Steady) (old new : Disk) → IsBacked maps s old → Kept s old new → new (log_name s.log.number) ≡ old (log_name s.log.number) → IsBacked maps s new
backed_kept read maps s old new b k same =
    backs_now maps s old new b k s.log refl s.own s.synced s.holding.last s.holding.batches (same_held old new s.log s.own s.synced same b.in_use) read (written_batches maps s old b read) b.count b.makes

-- ---- numbers of needed files

pub contains_all : {A : Type 0} (P : A → Type 0) (xs : List A) (x : A) → AllByRecursion P xs → Contains xs x → P x
contains_all P [] x h (k, less, is) = absurd (omega (arith, less))
contains_all P (y ∷ ys) x h (zero, less, is) = subst P is h.0
contains_all P (y ∷ ys) x h (suc k, less, is) = let small : k < length ys = omega (arith, less) in contains_all P ys x h.1 (k, small, is)

and_true : (a b : Bool) → (a && b) ≡ true → (a ≡ true) × (b ≡ true)
and_true true b e = (refl, e)
and_true false b e = absurd cc

pub record OneTrue (a b : Bool) : Type 0 where
  pub one : a ≡ true
  pub two : b ≡ true

pub fits_number : (t : NewTable) → IsTrue (table_fits t) → IsNumber t.number
fits_number t fits = from_test t.number (grind (arith, fits))

pub needed_number : (n : ℕ) (live : Restored) → IsNumber n → IsVersion live.version → (f : FileName) → IsNeeded n live f → HasNumber f
needed_number n live is v Current needed = tt
needed_number n live is v (Manifest m) needed = subst IsNumber (sym needed) is
needed_number n live is v (Log m) needed = needed.0
needed_number n live is v (Table m) needed =
    contains_all IsNumber (map (λ (t : NewTable). t.number) live.version.tables) m (all_of_map (λ (t : NewTable). t.number) IsNumber live.version.tables (all_from _ _ live.version.tables fits_number v.tables_fit)) needed
needed_number n live is v (Blob m) needed =
    contains_all IsNumber (map (λ (b : BlobMeta). b.number) live.version.blobs) m
    (all_of_map (λ (b : BlobMeta). b.number) IsNumber live.version.blobs (all_from _ _ live.version.blobs (λ b fits. from_test b.number fits) v.blobs_fit)) needed
needed_number n live is v (Temp m) needed = absurd needed

-- a name is that of one file
pub apart : NamesOne → (f g : FileName) → HasNumber f → HasNumber g → f ≢ g → name_of f ≢ name_of g
apart names f g has_f has_g ne e = ne (names (name_of g) f g (has_f, sym e) (has_g, refl))

-- a call on one file
pub elsewhere : NamesOne → (g : FileName) (old new : Disk) → HasNumber g → KeepsAllBut (name_of g) old new → (f : FileName) → HasNumber f → f ≢ g → new (name_of f) ≡ old (name_of f)
elsewhere names g old new has_g keeps f has_f ne = keeps (name_of f) (apart names f g has_f has_g ne)

-- a disk of which no other file than these has changed keeps what is beside CURRENT, the manifest and the log in use
pub kept_but : (s : Steady) (old new : Disk) → IsVersion s.holding.live.version → ((n : ℕ) → IsNumber n → new (name_of (Table n)) ≡ old (name_of (Table n)))
    → ((n : ℕ) → IsNumber n → new (name_of (Blob n)) ≡ old (name_of (Blob n))) → ((n : ℕ) → IsNumber n → n ≢ s.log.number → new (log_name n) ≡ old (log_name n)) → Kept s old new
kept_but s old new v tables blobs logs = record {
  tables = all_from _ _ s.holding.live.version.tables (λ t fits. tables t.number (fits_number t fits)) v.tables_fit;
  blobs = all_from _ _ s.holding.live.version.blobs (λ b fits. blobs b.number (from_test b.number fits)) v.blobs_fit;
  logs = λ n is le ne. inl (logs n is ne);
}

-- ---- the disk as it is written is an image of itself

abbrev pub cut_written : Disk → Cut
cut_written disk = record { folder = written_of disk; told = []; written = written_of disk }

written_left : (o : Option File) → IsLeft o (written_in o)
written_left None = tt
written_left (Some x) = record { tail = x.handed; split = refl; no_longer = omega arith }

pub is_cut_written : (disk : Disk) → IsCut disk [] (cut_written disk)
is_cut_written disk = record { image = λ name. written_left (disk name); told_is = refl; written_is = λ name. refl }

pub live_written : SyncedManifestsAreLeft → (maps : Maps) (s : Steady) (disk : Disk) → IsSteady maps s disk → IsLive (written_of disk) s.manifest.number s.holding.live
live_written left maps s disk t = live_left left maps s disk [] (cut_written disk) t (is_cut_written disk)

pub steady_hold_written : LogsAreRead → FrontsAreRead → LastIsCounted → SyncedManifestsAreLeft → SteadyHoldWritten
steady_hold_written read fronts counted left maps s disk t =
    let b = t.backed in
    let n = length s.own in
    let here : records (log_bytes (written_of disk) s.log.number) ≡ map record_of (take n s.own) = ap records (own_written maps s disk b) ∙ read s.own ∙ ap (map record_of) (sym (take_whole s.own)) in
    subst (Holds (written_of disk) s.manifest.number) (ap (λ k. cut_to k s.holding) (sym b.count) ∙ whole_is read counted maps s disk b)
    (left_holds maps s disk b (written_of disk) (λ f synced. refl) read fronts counted s.manifest.number n (live_written left maps s disk t) here)

pub version_of : SyncedManifestsAreLeft → LiveIsVersion → (maps : Maps) (s : Steady) (disk : Disk) → IsSteady maps s disk → IsVersion s.holding.live.version
version_of left versions maps s disk t = versions (written_of disk) s.manifest.number s.holding.live (live_written left maps s disk t)

-- ---- quiet calls

no_current : (log : LogFile) (o : Option File) → IsFurtherLog log Current o → ⊥
no_current log o f = let e = f.is in cc e

no_manifest : (log : LogFile) (n : ℕ) (o : Option File) → IsFurtherLog log (Manifest n) o → ⊥
no_manifest log n o f = let e = f.is in cc e

no_table : (log : LogFile) (n : ℕ) (o : Option File) → IsFurtherLog log (Table n) o → ⊥
no_table log n o f = let e = f.is in cc e

no_blob : (log : LogFile) (n : ℕ) (o : Option File) → IsFurtherLog log (Blob n) o → ⊥
no_blob log n o f = let e = f.is in cc e

log_number_of : FileName → ℕ
log_number_of Current = 0
log_number_of (Manifest n) = 0
log_number_of (Log n) = n
log_number_of (Table n) = 0
log_number_of (Blob n) = 0
log_number_of (Temp n) = 0

pub same_log : (m n : ℕ) → Log m ≡ Log n → m ≡ n
unfolding log_number_of
same_log m n e = ap log_number_of e

further : (log : LogFile) (n : ℕ) (o : Option File) → IsFurtherLog log (Log n) o → (log.number < n) × (o ≡ Some no_bytes)
further log n o f = let e : n ≡ f.number = same_log n f.number f.is in let less = f.further in (omega (arith, e, less), f.empty)

same_of : {A B : Type 0} → A ⊎ B → (B → ⊥) → A
same_of (inl a) none = a
same_of (inr b) none = absurd (none b)

kept_of : (maps : Maps) (s : Steady) (old new : Disk) → IsBacked maps s old → IsQuietCall s old new → Kept s old new
kept_of maps s old new b keeps = record {
  tables = all_from _ _ s.holding.live.version.tables
      (λ t c. same_of (keeps (Table t.number) (contains_map (λ (u : NewTable). u.number) s.holding.live.version.tables t c.0)) (no_table s.log t.number (new (name_of (Table t.number)))))
      (all_contained _ s.holding.live.version.tables b.files.named.tables);
  blobs = all_from _ _ s.holding.live.version.blobs
      (λ m c. same_of (keeps (Blob m.number) (contains_map (λ (u : BlobMeta). u.number) s.holding.live.version.blobs m c.0)) (no_blob s.log m.number (new (name_of (Blob m.number)))))
      (all_contained _ s.holding.live.version.blobs b.files.named.blobs);
  logs = λ n is le ne. elim (keeps (Log n) (is, le)) [
    | inl same ↦ inl same
    | inr f ↦ inr (further s.log n (new (log_name n)) f)
  ];
}

log_stays : (maps : Maps) (s : Steady) (old new : Disk) → IsBacked maps s old → IsQuietCall s old new → new (log_name s.log.number) ≡ old (log_name s.log.number)
log_stays maps s old new b keeps =
    same_of (keeps (Log s.log.number) (b.is_number, b.needed)) (λ f. let far = (further s.log s.log.number (new (log_name s.log.number)) f).0 in omega (arith, far))

-- CURRENT and the manifest are as they were
pub steady_beside : (maps : Maps) (s after : Steady) (old new : Disk) → IsSteady maps s old → after.manifest ≡ s.manifest → after.edits ≡ s.edits → after.holding.live ≡ s.holding.live
    → new (name_of Current) ≡ old (name_of Current) → new (manifest_name s.manifest.number) ≡ old (manifest_name s.manifest.number) → IsBacked maps after new → IsSteady maps after new
steady_beside maps s after old new t manifest edits live at_current at_manifest b = record {
  number = subst (λ (m : ManifestFile). IsNumber m.number) (sym manifest) t.number;
  current = ap written_in at_current ∙ t.current ∙ ap (λ (m : ManifestFile). Some (current_text m.number)) (sym manifest);
  current_synced = synced_same old new Current at_current t.current_synced;
  edits = subst (λ (m : ManifestFile). HoldsEdits new m after.edits (length after.edits)) (sym manifest)
      (subst (λ (es : Edits). HoldsEdits new s.manifest es (length es)) (sym edits) (same_edits old new s.manifest s.edits (length s.edits) at_manifest t.edits));
  restores = ap restored_by edits ∙ t.restores ∙ ap Some (sym live);
  backed = b;
}

pub quiet_keeps_steady : LogsAreRead → QuietKeepsSteady
quiet_keeps_steady read maps s old new t keeps =
    steady_beside maps s s old new t refl refl refl
    (same_of (keeps Current tt) (no_current s.log (new (name_of Current))))
    (same_of (keeps (Manifest s.manifest.number) refl) (no_manifest s.log s.manifest.number (new (manifest_name s.manifest.number))))
    (backed_kept read maps s old new t.backed (kept_of maps s old new t.backed keeps) (log_stays maps s old new t.backed keeps))

pub quiet_calls_keep_all : QuietKeepsSteady → QuietCallsKeepAll
quiet_calls_keep_all law maps s call may_be quiet all disk may = all_during call may_be (IsSteady maps s) all (λ before after t did. law maps s before after t (quiet before after did)) disk may

pub unneeded_by_name : NamesOne → SyncedManifestsAreLeft → LiveIsVersion → UnneededByName
unneeded_by_name names left versions maps s disk f t has none g needed e =
    let number : HasNumber g = needed_number s.manifest.number s.holding.live t.number (version_of left versions maps s disk t) g needed in
    let same : g ≡ f = names (name_of f) g f (number, sym e) (has, refl) in
    none (subst (λ (x : FileName). IsNeeded s.manifest.number s.holding.live x) same needed)

pub unneeded_are_quiet : UnneededAreQuiet
unneeded_are_quiet s name old new away keeps f needed = inl (keeps (name_of f) (away f needed))

pub renames_are_quiet : RenamesAreQuiet
renames_are_quiet s one two old new away_one away_two keeps f needed = inl (keeps (name_of f) (away_one f needed) (away_two f needed))

pub by_case : (f : FileName) (n : ℕ) → (f ≡ Log n) ⊎ (f ≢ Log n)
by_case Current n = inr (λ e. cc e)
by_case (Manifest m) n = inr (λ e. cc e)
by_case (Table m) n = inr (λ e. cc e)
by_case (Blob m) n = inr (λ e. cc e)
by_case (Temp m) n = inr (λ e. cc e)
by_case (Log m) n =
    elim (cases_lt m n) [
      | inl less ↦ inr (λ e. let same = same_log m n e in omega (arith, same, less))
      | inr le ↦ elim (cases_lt n m) [
        | inl less ↦ inr (λ e. let same = same_log m n e in omega (arith, same, less))
        | inr ge ↦ inl (let same : m ≡ n = omega (arith, le, ge) in ap Log same)
      ]
    ]

pub new_logs_are_quiet : NamesOne → SyncedManifestsAreLeft → LiveIsVersion → NewLogsAreQuiet
new_logs_are_quiet names left versions maps s number old new t is less made f needed =
    let has = needed_number s.manifest.number s.holding.live t.number (version_of left versions maps s old t) f needed in
    elim (by_case f number) [
      | inl same ↦ inr (record { number = number; is = same; further = less; empty = ap (λ (g : FileName). new (name_of g)) same ∙ made.at })
      | inr ne ↦ inl (elsewhere names (Log number) old new is made.others f has ne)
    ]
