-- What a flush of an opening leaves.
use Rattle.std.proofs.Common.{◌≡◌, ℕ, ◌+◌, ◌<◌, ◌≤◌, List, [], ◌∷◌, ◌++◌, length, map, take, drop, refl, sym, ◌∙◌, ap, subst, arith, Option, Some, None, append-nil, cond, Bool, true, false}
use Rattle.std.specs.Prelude.{◌^◌, IsTrue, nat_le, option_and_then, Ok}
use Rattle.std.specs.List.{AllByRecursion}
use Rattle.std.specs.Option.{option_map}
use Rattle.std.specs.Result.{result_ok}
use Rattle.bl_site.specs.Disk.{Disk, File, Name, folder_of, written_of}
use Rattle.bl_names.specs.declared.name.FileName.{FileName}
use Rattle.bl_names.specs.declared.name.FileName.TheVariants.{Log, Table, Blob}
use Rattle.bl_names.specs.Names.{IsNumber, NamesOne, name_of}
use Rattle.bl_code.proofs.Basics.{all_from}
use Rattle.bl_code.specs.Reading.{◌>>=◌}
use Rattle.bl_edit.specs.Bounds.{is_number, table_fits}
use Rattle.bl_edit.specs.declared.edit.Edit.{Edit}
use Rattle.bl_edit.specs.declared.edit.NewTable.{NewTable}
use Rattle.bl_entry.specs.declared.key.Entry.{Entry}
use Rattle.bl_entry.specs.Batches.{Batch}
use Rattle.bl_entry.specs.Revisions.{Map}
use Rattle.bl_entry.proofs.ItemLemmas.{all_of_map}
use Rattle.bl_entry.proofs.ListLemmas.{all_append}
use Rattle.bl_blob.specs.Reading.{file_in}
use Rattle.bl_build.specs.declared.meta.BlobMeta.{BlobMeta}
use Rattle.bl_build.specs.declared.meta.Standing.{Standing}
use Rattle.bl_build.specs.Listing.{Listing, nothing}
use Rattle.bl_build.specs.Restoring.{last_given, standing_of}
use Rattle.bl_edit.specs.Reading.{no_field}
use Rattle.bl_build.specs.Snapshots.{snapshot}
use Rattle.bl_build.specs.Versions.{applied, apply, version, with_tables}
use Rattle.bl_out.proofs.StoredLemmas.{IndexIsSpelled}
use Rattle.bl_out.proofs.AmongLemmas.{all_unmapped}
use Rattle.bl_out.proofs.WrittenLemmas.{IndexIsRead}
use Rattle.bl_folder.proofs.Finding.{from_test}
use Rattle.bl_out.specs.Files.{entries_in, file, of_size}
use Rattle.bl_out.specs.Finding.{◌then◌}
use Rattle.bl_out.specs.Flushes.{Flushed, HasBlob, HasFlush, NewBlob}
use Rattle.bl_out.specs.Reads.{IsSynced as IsAllSynced}
use Rattle.bl_out.specs.Tables.{TableFile, table_in}
use Rattle.bl_folder.proofs.FlushLemmas.{all_now}
use Rattle.bl_folder.specs.FlushLaws.{FlushedAreThere, FlushesApply, FlushesKeepFiles, FlushesKeepFronts, HasBoth, HasHeld}
use Rattle.bl_folder.specs.Flushes.{IsBelow, IsFlushOf, IsMemoryOf, IsWhole, installed, linked_file, metas}
use Rattle.bl_folder.specs.Fronts.{cut_to, last_after}
use Rattle.bl_folder.specs.Holding.{BlobFile, Holding}
use Rattle.bl_folder.specs.Settled.{IsSynced, IsSyncedFile, NamesSynced}
use Rattle.bl_folder.specs.Stands.{IsSound}
use Rattle.bl_open.proofs.DrawnLemmas.{blob_below, is_other, log_below, table_below}
use Rattle.bl_open.proofs.FrameLemmas.{all_both, fits_number, synced_same}
use Rattle.bl_open.specs.Flushing.{FlushedAreBelow, FlushedHaveTables, HasFlushed, IsLoaded, JobEditsApply, SnapshotsRestore, all_flushed}
use Rattle.bl_open.specs.Steady.{HasFiles}

some_is : {A : Type 0} {x y : A} → Some x ≡ Some y → x ≡ y
some_is e = cc e

written_in : Option File → Option (List ℕ)
written_in o = option_map (λ (x : File). x.front ++ x.handed) o

-- a synced file reads as it was written
written_reads : (disk : Disk) (name : Name) → IsAllSynced disk name → written_of disk name ≡ folder_of disk name
written_reads disk name s =
    ap (option_map (λ (x : File). x.front ++ x.handed)) s.there
    ∙ (λ i. Some (s.front i ++ s.handed i)) ∙ ap Some (append-nil s.file.read)
    ∙ sym (ap (option_map (λ (x : File). x.read)) s.there)

is_synced : (disk : Disk) (f : FileName) → IsAllSynced disk (name_of f) → IsSynced disk f
is_synced disk f s x at = subst IsSyncedFile (some_is (sym s.there ∙ at)) (record { handed = s.handed; front = s.front })

pub take_all : {A : Type 0} (xs : List A) → take (length xs) xs ≡ xs
take_all [] = refl
take_all (x ∷ xs) = ap (λ ys. x ∷ ys) (take_all xs)

drop_all : {A : Type 0} (xs : List A) → drop (length xs) xs ≡ []
drop_all [] = refl
drop_all (x ∷ xs) = drop_all xs

pub below_more : (from more : ℕ) (v : Listing) → from ≤ more → IsBelow from v → IsBelow more v
below_more from more v le b = record {
  tables = all_from (λ (t : NewTable). t.number < from) (λ t. t.number < more) v.tables (λ t less. omega (arith, le, less)) b.tables;
  blobs = all_from (λ (x : BlobMeta). x.number < from) (λ x. x.number < more) v.blobs (λ x less. omega (arith, le, less)) b.blobs;
}

-- the first so many batches of what is held are in a memory, of which a flush was made
module _ (h : Holding) (count : ℕ) (memory : List Entry) (from drawn_from next : ℕ) (old new : Disk) (e : Edit) (has : HasFiles h old) (whole : IsWhole h) (lower : IsBelow from h.live.version) (within : count ≤ length h.batches)
    (memory_of : IsMemoryOf (take count h.batches) memory) (f : HasFlushed h.live.standing.options from drawn_from next memory old new e) where
  abbrev files : Flushed
  files = f.flushes.files

  pub flush_of : IsFlushOf h count drawn_from [] memory files
  flush_of = record {
    within = within;
    below = below_more from drawn_from h.live.version f.above lower;
    memory_of = memory_of;
    flush = f.flushes.flush;
  }

  module _ (names : NamesOne) where
    table_stays : (t : NewTable) → IsNumber t.number → t.number < from → new (name_of (Table t.number)) ≡ old (name_of (Table t.number))
    table_stays t is less =
        let above = f.above in
        f.others (name_of (Table t.number)) (is_other names drawn_from (Table t.number) is (table_below drawn_from t.number (omega (arith, less, above))))

    blob_stays : (b : BlobMeta) → IsNumber b.number → b.number < from → new (name_of (Blob b.number)) ≡ old (name_of (Blob b.number))
    blob_stays b is less =
        let above = f.above in
        f.others (name_of (Blob b.number)) (is_other names drawn_from (Blob b.number) is (blob_below drawn_from b.number (omega (arith, less, above))))

    pub log_stays : (n : ℕ) → IsNumber n → new (name_of (Log n)) ≡ old (name_of (Log n))
    log_stays n is = f.others (name_of (Log n)) (is_other names drawn_from (Log n) is (log_below drawn_from n))

    tables_stay : AllByRecursion (λ t. new (name_of (Table t.number)) ≡ old (name_of (Table t.number))) h.live.version.tables
    tables_stay =
        all_both (λ (t : NewTable). IsTrue (table_fits t)) (λ t. t.number < from) (λ t. new (name_of (Table t.number)) ≡ old (name_of (Table t.number))) h.live.version.tables
        (λ t fits less. table_stays t (fits_number t fits) less) whole.version.tables_fit lower.tables

    blobs_stay : AllByRecursion (λ b. new (name_of (Blob b.number)) ≡ old (name_of (Blob b.number))) h.live.version.blobs
    blobs_stay =
        all_both (λ (b : BlobMeta). IsTrue (is_number b.number)) (λ b. b.number < from) (λ b. new (name_of (Blob b.number)) ≡ old (name_of (Blob b.number))) h.live.version.blobs
        (λ b fits less. blob_stays b (from_test b.number fits) less) whole.version.blobs_fit lower.blobs

    table_written : (t : TableFile) → (t.meta.number < next) × IsAllSynced new (name_of (Table t.meta.number)) → table_in (folder_of new) t.meta ≡ Some t → table_in (written_of new) t.meta ≡ Some t
    table_written t s is = ap (λ o. o then of_size t.meta.size then entries_in then λ es. Some (record { meta = t.meta; entries = es })) (written_reads new (name_of (Table t.meta.number)) s.1) ∙ is

    blob_written : (b : NewBlob) → (b.named.number < next) × IsAllSynced new (name_of (Blob b.named.number)) → HasBlob (folder_of new) b → HasBlob (written_of new) b
    blob_written b s has =
        let same : file (written_of new) (Blob b.named.number) ≡ file (folder_of new) (Blob b.named.number) = written_reads new (name_of (Blob b.named.number)) s.1 in
        record {
          bytes = has.bytes;
          there = same ∙ has.there;
          spelled = has.spelled;
          reads = ap (λ o. o then λ bytes. result_ok (file_in bytes)) same ∙ has.reads;
        }

    has_flush : HasFlush (written_of new) files
    has_flush = record {
      tables = all_both (λ (t : TableFile). (t.meta.number < next) × IsAllSynced new (name_of (Table t.meta.number))) (λ t. table_in (folder_of new) t.meta ≡ Some t) (λ t. table_in (written_of new) t.meta ≡ Some t) files.tables
          table_written f.flushes.tables f.flushes.has.tables;
      blobs = all_both (λ (b : NewBlob). (b.named.number < next) × IsAllSynced new (name_of (Blob b.named.number))) (HasBlob (folder_of new)) (HasBlob (written_of new)) files.blobs
          blob_written f.flushes.blobs f.flushes.has.blobs;
    }

    both : HasBoth (written_of old) (written_of new) h files
    both = record {
      tables = all_from (λ (t : NewTable). new (name_of (Table t.number)) ≡ old (name_of (Table t.number))) (λ t. file (written_of new) (Table t.number) ≡ file (written_of old) (Table t.number)) h.live.version.tables
          (λ t same. ap (option_map (λ (x : File). x.front ++ x.handed)) same) tables_stay;
      blobs = all_from (λ (b : BlobMeta). new (name_of (Blob b.number)) ≡ old (name_of (Blob b.number))) (λ b. file (written_of new) (Blob b.number) ≡ file (written_of old) (Blob b.number)) h.live.version.blobs
          (λ b same. ap (option_map (λ (x : File). x.front ++ x.handed)) same) blobs_stay;
      files = has_flush;
    }

    has_old : HasHeld (written_of old) h
    has_old = record { tables = has.tables; blobs = has.blobs; spelled = has.spelled }

    module _ (reads : IndexIsRead) (spells : IndexIsSpelled) (there : FlushedAreThere) (keeps : FlushesKeepFiles) (log next_file : ℕ) where
      abbrev after : Holding
      after = installed h count log next_file files

      old_synced : AllByRecursion (λ (t : TableFile). IsSynced new (Table t.meta.number)) h.tables
      old_synced =
          all_unmapped (λ (t : TableFile). t.meta) (λ (t : NewTable). IsSynced new (Table t.number)) h.tables (subst (AllByRecursion (λ (t : NewTable). IsSynced new (Table t.number))) (sym whole.tables)
          (all_both (λ (t : NewTable). new (name_of (Table t.number)) ≡ old (name_of (Table t.number))) (λ t. IsSynced old (Table t.number)) (λ t. IsSynced new (Table t.number)) h.live.version.tables
          (λ t same synced. synced_same old new (Table t.number) same synced) tables_stay has.named.tables))

      old_blobs_synced : AllByRecursion (λ (b : BlobFile). IsSynced new (Blob b.meta.number)) h.blobs
      old_blobs_synced =
          all_unmapped (λ (b : BlobFile). b.meta) (λ (b : BlobMeta). IsSynced new (Blob b.number)) h.blobs (subst (AllByRecursion (λ (b : BlobMeta). IsSynced new (Blob b.number))) (sym whole.blobs)
          (all_both (λ (b : BlobMeta). new (name_of (Blob b.number)) ≡ old (name_of (Blob b.number))) (λ b. IsSynced old (Blob b.number)) (λ b. IsSynced new (Blob b.number)) h.live.version.blobs
          (λ b same synced. synced_same old new (Blob b.number) same synced) blobs_stay has.named.blobs))

      abbrev tops : List NewTable
      tops = with_tables (metas files.tables) h.live.version.tables

      named : NamesSynced new after.live
      named =
          let kept = keeps h count drawn_from log next_file [] memory files whole flush_of in
          record {
            tables = subst (AllByRecursion (λ (t : NewTable). IsSynced new (Table t.number))) kept.tables
                (all_of_map (λ (t : TableFile). t.meta) (λ (t : NewTable). IsSynced new (Table t.number)) after.tables
                (all_now reads spells h count drawn_from log next_file [] memory files whole flush_of (λ t. IsSynced new (Table t.meta.number)) old_synced
                (all_from (λ (t : TableFile). (t.meta.number < next) × IsAllSynced new (name_of (Table t.meta.number))) (λ t. IsSynced new (Table t.meta.number)) files.tables (λ t s. is_synced new (Table t.meta.number) s.1) f.flushes.tables)));
            blobs = subst (AllByRecursion (λ (b : BlobMeta). IsSynced new (Blob b.number))) kept.blobs
                (all_of_map (λ (b : BlobFile). b.meta) (λ (b : BlobMeta). IsSynced new (Blob b.number)) after.blobs
                (all_append (λ (b : BlobFile). IsSynced new (Blob b.meta.number)) h.blobs (map (linked_file tops) files.blobs) old_blobs_synced
                (all_of_map (linked_file tops) (λ (b : BlobFile). IsSynced new (Blob b.meta.number)) files.blobs
                (all_from (λ (b : NewBlob). (b.named.number < next) × IsAllSynced new (name_of (Blob b.named.number))) (λ b. IsSynced new (Blob b.named.number)) files.blobs (λ b s. is_synced new (Blob b.named.number) s.1) f.flushes.blobs))));
          }

      pub has_files : HasFiles after new
      has_files =
          let held = there (written_of old) (written_of new) h count drawn_from log next_file [] memory files whole has_old flush_of both in
          record { tables = held.tables; blobs = held.blobs; spelled = held.spelled; named = named }

-- of all batches
memory_of_all : (h : Holding) (m : Map) (memory : List Entry) (from : ℕ) (old : Disk) → IsLoaded h m memory from old → IsMemoryOf (take (length h.batches) h.batches) memory
memory_of_all h m memory from old l = subst (λ (bs : List Batch). IsMemoryOf bs memory) (sym (take_all h.batches)) l.memory_of

flush_of_all : (h : Holding) (m : Map) (memory : List Entry) (from drawn_from next : ℕ) (old new : Disk) (e : Edit) (l : IsLoaded h m memory from old) (f : HasFlushed h.live.standing.options from drawn_from next memory old new e) → IsFlushOf h (length h.batches) drawn_from [] memory f.flushes.files
flush_of_all h m memory from drawn_from next old new e l f = flush_of h (length h.batches) memory from drawn_from next old new e l.files l.whole l.below (omega arith) (memory_of_all h m memory from old l) f

-- all batches: what is held is cut to them
cut_all : (h : Holding) → h.last ≡ last_after h.live.standing.last_sequence h.batches → cut_to (length h.batches + 0) h ≡ h
cut_all h last =
    let all : take (length h.batches + 0) h.batches ≡ h.batches = (let n : length h.batches + 0 ≡ length h.batches = omega arith in ap (λ k. take k h.batches) n ∙ take_all h.batches) in
    λ i. record h { batches = all i; last = (ap (last_after h.live.standing.last_sequence) all ∙ sym last) i }

pub flushed_have_tables : NamesOne → IndexIsRead → IndexIsSpelled → FlushedAreThere → FlushesKeepFiles → FlushesKeepFronts → FlushedHaveTables
flushed_have_tables names reads spells there keeps fronts maps h m memory from drawn_from next log next_file old new e least most above first l f is =
    let o = flush_of_all h m memory from drawn_from next old new e l f in
    let files = f.flushes.files in
    let sound : IsSound (cut_to (length h.batches + 0) h) l.found m = subst (λ (g : Holding). IsSound g l.found m) (sym (cut_all h l.whole.last)) l.sound in
    let kept = fronts h l.found m (length h.batches) drawn_from log next_file 0 [] memory files l.whole sound o in
    record {
      files = has_files h (length h.batches) memory from drawn_from next old new e l.files l.whole l.below (omega arith) (memory_of_all h m memory from old l) f names reads spells there keeps log next_file;
      version = is;
      log_number = refl;
      behind = λ n number le. log_stays h (length h.batches) memory from drawn_from next old new e l.files l.whole l.below (omega arith) (memory_of_all h m memory from old l) f names n number ∙ l.logs n number (omega (arith, le, above));
      batches = drop_all h.batches;
      last = l.whole.last ∙ ap (last_after h.live.standing.last_sequence) (sym (take_all h.batches));
      makes = (kept.found_now, subst (IsSound (cut_to 0 (all_flushed h log next_file files)) kept.found_now) (sym first) kept.sound);
    }

pub job_edits_apply : FlushesApply → JobEditsApply
unfolding apply
job_edits_apply applies h m memory from drawn_from next log next_file old new e least most l f =
    ap (apply h.live.version) f.flushes.edit ∙ applies h (length h.batches) drawn_from log next_file [] memory f.flushes.files l.whole (flush_of_all h m memory from drawn_from next old new e l f)

-- all numbers are below the next
pub installed_below : IndexIsRead → IndexIsSpelled → FlushesKeepFiles → (h : Holding) (count : ℕ) (memory : List Entry) (from drawn_from next log next_file : ℕ) (old new : Disk) (e : Edit) → HasFiles h old → (whole : IsWhole h) → IsBelow from h.live.version
    → count ≤ length h.batches → IsMemoryOf (take count h.batches) memory → (f : HasFlushed h.live.standing.options from drawn_from next memory old new e) → drawn_from ≤ next → IsBelow next (installed h count log next_file f.flushes.files).live.version
installed_below reads spells keeps h count memory from drawn_from next log next_file old new e has whole lower within memory_of f upwards =
    let o = flush_of h count memory from drawn_from next old new e has whole lower within memory_of f in
    let files = f.flushes.files in
    let kept = keeps h count drawn_from log next_file [] memory files whole o in
    let old_below : IsBelow next h.live.version = (let above = f.above in below_more from next h.live.version (omega (arith, above, upwards)) lower) in
    let after : Holding = installed h count log next_file files in
    record {
      tables = subst (AllByRecursion (λ (t : NewTable). t.number < next)) kept.tables
          (all_of_map (λ (t : TableFile). t.meta) (λ (t : NewTable). t.number < next) after.tables
          (all_now reads spells h count drawn_from log next_file [] memory files whole o (λ t. t.meta.number < next)
          (all_unmapped (λ (t : TableFile). t.meta) (λ (t : NewTable). t.number < next) h.tables (subst (AllByRecursion (λ (t : NewTable). t.number < next)) (sym whole.tables) old_below.tables))
          (all_from (λ (t : TableFile). (t.meta.number < next) × IsAllSynced new (name_of (Table t.meta.number))) (λ t. t.meta.number < next) files.tables (λ t s. s.0) f.flushes.tables)));
      blobs = subst (AllByRecursion (λ (b : BlobMeta). b.number < next)) kept.blobs
          (all_of_map (λ (b : BlobFile). b.meta) (λ (b : BlobMeta). b.number < next) after.blobs
          (all_append (λ (b : BlobFile). b.meta.number < next) h.blobs (map (linked_file (with_tables (metas files.tables) h.live.version.tables)) files.blobs)
          (all_unmapped (λ (b : BlobFile). b.meta) (λ (b : BlobMeta). b.number < next) h.blobs (subst (AllByRecursion (λ (b : BlobMeta). b.number < next)) (sym whole.blobs) old_below.blobs))
          (all_of_map (linked_file (with_tables (metas files.tables) h.live.version.tables)) (λ (b : BlobFile). b.meta.number < next) files.blobs
          (all_from (λ (b : NewBlob). (b.named.number < next) × IsAllSynced new (name_of (Blob b.named.number))) (λ b. b.named.number < next) files.blobs (λ b s. s.0) f.flushes.blobs))));
    }

pub flushed_are_below : IndexIsRead → IndexIsSpelled → FlushesKeepFiles → FlushedAreBelow
flushed_are_below reads spells keeps h m memory from drawn_from next log next_file old new e least upwards most l f =
    installed_below reads spells keeps h (length h.batches) memory from drawn_from next log next_file old new e l.files l.whole l.below (omega arith) (memory_of_all h m memory from old l) f upwards

one_edit : (v : Listing) (e : Edit) → apply nothing e ≡ Ok v → version (e ∷ []) ≡ Ok v
unfolding applied
one_edit v e applies = ap (λ r. r >>= λ next. applied next []) applies

stands_beside : (v : Listing) (s : Standing) → s.next_file ≤ 10 ^ 15 → standing_of (last_given no_field (snapshot v s ∷ [])) ≡ Some s
stands_beside v s most = by (nat_le s.next_file (10 ^ 15)) refl
  where
    by : (t : Bool) → nat_le s.next_file (10 ^ 15) ≡ t → standing_of (last_given no_field (snapshot v s ∷ [])) ≡ Some s
    by true e = ap (λ b. cond b (Some s) None) e
    by false e = absurd (not_le e)
      where
        not_le : nat_le s.next_file (10 ^ 15) ≡ false → ⊥
        not_le e = grind (arith, e, most)

pub snapshots_restore : SnapshotsRestore
snapshots_restore v s applies most =
    ap (λ r. option_and_then (λ (x : Listing). option_and_then (λ (y : Standing). Some (record { version = x; standing = y })) (standing_of (last_given no_field (snapshot v s ∷ [])))) (result_ok r)) (one_edit v (snapshot v s) applies)
    ∙ ap (option_and_then (λ (y : Standing). Some (record { version = v; standing = y }))) (stands_beside v s most)
