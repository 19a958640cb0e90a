-- What is read of a folder that has the synced files of a disk.
use Rattle.std.proofs.lemmas.List.{length-map}
use Rattle.std.proofs.Common.{length-append, ◌≡◌, ◌≢◌, ℕ, zero, suc, ◌+◌, ◌-◌, ◌<◌, ◌≤◌, List, [], ◌++◌, length, take, map, true, cond, refl, sym, ◌∙◌, ap, subst, arith, Option, Some}
use Rattle.std.specs.Prelude.{◌∷◌, IfSome, unwrap_or}
use Rattle.std.specs.Option.{option_map}
use Rattle.std.specs.Result.{result_ok}
use Rattle.bl_site.specs.Disk.{Folder, Disk, File, written_of}
use Rattle.bl_log.specs.Log.{records}
use Rattle.bl_names.specs.declared.name.FileName.{FileName}
use Rattle.bl_names.specs.declared.name.FileName.TheVariants.{Log, Table, Blob}
use Rattle.bl_names.specs.Names.{IsNumber}
use Rattle.bl_entry.specs.Records.{batches_of, LastIsCounted}
use Rattle.bl_blob.specs.Reading.{file_in}
use Rattle.bl_edit.specs.Bounds.{is_number}
use Rattle.bl_edit.specs.declared.edit.NewTable.{NewTable}
use Rattle.bl_build.specs.declared.meta.BlobMeta.{BlobMeta}
use Rattle.bl_wal.specs.LogFile.{log_name}
use Rattle.bl_wal.specs.Held.{record_of, log_of}
use Rattle.bl_wal.specs.Laws.{FrontsAreRead, LogsAreRead}
use Rattle.bl_out.specs.Files.{file}
use Rattle.bl_folder.specs.Files.{log_bytes}
use Rattle.bl_folder.specs.Live.{IsLive}
use Rattle.bl_folder.specs.Logs.{HaveBatches, log_records}
use Rattle.bl_folder.specs.Holding.{BlobFile, IsSpelled, Holds, blob_in}
use Rattle.bl_entry.specs.Items.{each_of}
use Rattle.bl_out.specs.Tables.{table_in}
use Rattle.bl_out.specs.Files.{of_size, entries_in}
use Rattle.bl_out.specs.Finding.{◌then◌}
use Rattle.bl_folder.specs.Fronts.{cut_to, last_after}
use Rattle.bl_folder.specs.Settled.{IsSynced}
use Rattle.bl_code.proofs.Basics.{all_from}
use Rattle.bl_folder.proofs.OneLemmas.{blob_of}
use Rattle.bl_blob.specs.BlobFile.{IsBlobFile}
use Rattle.std.specs.List.{AllByRecursion}
use Rattle.bl_entry.proofs.ItemLemmas.{each_from, each_same}
use Rattle.bl_folder.proofs.Finding.{from_test, by_number}
use Rattle.bl_folder.proofs.LogLemmas.{no_record, one_reading}
use Rattle.bl_open.specs.Steady.{Maps, Steady, IsBacked}
use Rattle.bl_open.proofs.BatchLemmas.{as_many, map_take, take_behind}

-- ---- blob files by name

each_spelled : (old new : Folder) (bs : List BlobFile) → AllByRecursion (λ m. file new (Blob m.number) ≡ file old (Blob m.number)) (map (λ b. b.meta) bs) → AllByRecursion (IsSpelled old) bs → AllByRecursion (IsSpelled new) bs
each_spelled old new [] same h = tt
each_spelled old new (b ∷ bs) same h = (subst (λ (o : Option (List ℕ)). IfSome o (λ bytes. IsBlobFile bytes b.records)) (sym same.0) h.0, each_spelled old new bs same.1 h.1)

-- blob files that stand in another folder as in this one are spelled there as here
pub spelled_alike : (old new : Folder) (metas : List BlobMeta) (bs : List BlobFile) → each_of (blob_in old) metas ≡ Some bs → AllByRecursion (λ m. file new (Blob m.number) ≡ file old (Blob m.number)) metas
    → AllByRecursion (IsSpelled old) bs → AllByRecursion (IsSpelled new) bs
spelled_alike old new metas bs there same spelled =
    let are : map (λ (b : BlobFile). b.meta) bs ≡ metas = each_from (blob_in old) (λ (b : BlobFile). b.meta) metas bs (blob_of old) there in
    each_spelled old new bs (subst (AllByRecursion (λ (m : BlobMeta). file new (Blob m.number) ≡ file old (Blob m.number))) (sym are) same) spelled

-- ---- logs by number

pub to_test : (n : ℕ) → IsNumber n → is_number n ≡ true
to_test n is = let low = is.0 in let high = is.1 in grind (arith, low, high)

pub log_there : (folder : Folder) (n : ℕ) (bytes : List ℕ) → IsNumber n → folder (log_name n) ≡ Some bytes → log_bytes folder n ≡ bytes
log_there folder n bytes is e = ap (λ t. cond t (unwrap_or (folder (log_name n)) []) []) (to_test n is) ∙ ap (λ o. unwrap_or o []) e

pub log_same : (F G : Folder) (n : ℕ) → (IsNumber n → file F (Log n) ≡ file G (Log n)) → log_bytes F n ≡ log_bytes G n
log_same F G n same = by_number (is_number n) (λ t. ap (λ o. unwrap_or o []) (same (from_test n t)))

-- the same bytes in the logs from a number on, before another
pub logs_same : (F G : Folder) (from count : ℕ) → ((n : ℕ) → from ≤ n → n < from + count → log_bytes F n ≡ log_bytes G n) → log_records F from count ≡ log_records G from count
unfolding log_records
logs_same F G from zero same = refl
logs_same F G from (suc count) same = λ i. logs_same F G from count (λ n le less. same n le (omega (arith, less))) i ++ records (same (from + count) (omega arith) (omega arith) i)

pub next_log : (F : Folder) (from count : ℕ) → log_records F from (suc count) ≡ log_records F from count ++ records (log_bytes F (from + count))
unfolding log_records
next_log F from count = refl

module _ (maps : Maps) (s : Steady) (disk : Disk) (b : IsBacked maps s disk) where
  abbrev pub from : ℕ
  from = s.holding.live.standing.log_number

  abbrev pub first : ℕ
  first = s.holding.live.standing.last_sequence

  -- how many needed numbers are below the log in use
  abbrev pub depth : ℕ
  depth = s.log.number - from

  abbrev pub whole : Folder
  whole = written_of disk

  -- the records of the logs below it
  abbrev pub lower : List (List ℕ)
  lower = log_records whole from depth

  in_place : from + depth ≡ s.log.number
  in_place = let le = b.needed in omega (arith, le)

  pub own_written : log_bytes whole s.log.number ≡ log_of s.own
  own_written = log_there whole s.log.number (log_of s.own) b.is_number
      (ap (λ (o : Option File). option_map (λ (x : File). x.front ++ x.handed) o) b.in_use.there ∙ ap Some b.in_use.all)

  -- a folder whose log in use has these records, and whose other logs are the written ones
  pub records_in : (F : Folder) (payloads : List (List ℕ)) → ((n : ℕ) → from ≤ n → n ≢ s.log.number → log_bytes F n ≡ log_bytes whole n)
      → records (log_bytes F s.log.number) ≡ payloads → log_records F from (suc depth) ≡ lower ++ payloads
  records_in F payloads same here =
      next_log F from depth
      ∙ ap (λ r. r ++ records (log_bytes F (from + depth))) (logs_same F whole from depth (λ n le less. same n le (λ e. let place = in_place in absurd (omega (arith, e, less, place)))))
      ∙ ap (λ n. lower ++ records (log_bytes F n)) in_place
      ∙ ap (λ r. lower ++ r) here

  pub none_behind : (F : Folder) → ((n : ℕ) → from ≤ n → n ≢ s.log.number → log_bytes F n ≡ log_bytes whole n) → (n : ℕ) → from + suc depth ≤ n → records (log_bytes F n) ≡ []
  none_behind F same n le =
      let place = in_place in
      let far : s.log.number < n = omega (arith, place, le) in
      ap records (same n (omega (arith, le)) (λ e. absurd (omega (arith, e, far))) ∙ b.last n far) ∙ no_record

  -- all records as they are written
  pub written_batches : LogsAreRead → batches_of (lower ++ map record_of s.own) first ≡ Some (s.holding.batches, s.holding.last)
  written_batches read =
      ap (λ r. batches_of r first)
      (sym (records_in whole (map record_of s.own) (λ n le ne. refl) (ap records own_written ∙ read s.own))
      ∙ one_reading whole from (suc depth) b.batches.count (none_behind whole (λ n le ne. refl)) b.batches.no_more)
      ∙ b.batches.are

-- ---- a folder that has the synced files as they are written

module _ (maps : Maps) (s : Steady) (disk : Disk) (b : IsBacked maps s disk) (F : Folder) (same : (f : FileName) → IsSynced disk f → file F f ≡ file (written_of disk) f) where
  table_left : (t : NewTable) → IsSynced disk (Table t.number) → table_in F t ≡ table_in (written_of disk) t
  table_left t synced = λ i. same (Table t.number) synced i then of_size t.size then entries_in then λ es. Some (record { meta = t; entries = es })

  blob_left : (m : BlobMeta) → IsSynced disk (Blob m.number) → blob_in F m ≡ blob_in (written_of disk) m
  blob_left m synced = λ i. (same (Blob m.number) synced i then λ bytes. result_ok (file_in bytes)) then λ rs. Some (record { meta = m; records = rs })

  pub tables_left : each_of (table_in F) s.holding.live.version.tables ≡ Some s.holding.tables
  tables_left = each_same (table_in (written_of disk)) (table_in F) s.holding.live.version.tables (all_from _ _ s.holding.live.version.tables table_left b.files.named.tables) ∙ b.files.tables

  pub blobs_left : each_of (blob_in F) s.holding.live.version.blobs ≡ Some s.holding.blobs
  blobs_left = each_same (blob_in (written_of disk)) (blob_in F) s.holding.live.version.blobs (all_from _ _ s.holding.live.version.blobs blob_left b.files.named.blobs) ∙ b.files.blobs

  pub spelled_left : AllByRecursion (IsSpelled F) s.holding.blobs
  spelled_left = spelled_alike (written_of disk) F s.holding.live.version.blobs s.holding.blobs b.files.blobs (all_from _ _ s.holding.live.version.blobs (λ m synced. same (Blob m.number) synced) b.files.named.blobs) b.files.spelled

  logs_left : (n : ℕ) → s.holding.live.standing.log_number ≤ n → n ≢ s.log.number → log_bytes F n ≡ log_bytes (written_of disk) n
  logs_left n le ne = log_same F (written_of disk) n (λ is. same (Log n) (b.others n is le ne))

  pub have_first : LogsAreRead → FrontsAreRead → LastIsCounted → (k : ℕ) → records (log_bytes F s.log.number) ≡ map record_of (take k s.own)
      → HaveBatches F s.holding.live.standing.log_number s.holding.live.standing.last_sequence (take (s.below + k) s.holding.batches)
      (last_after s.holding.live.standing.last_sequence (take (s.below + k) s.holding.batches))
  have_first read fronts counted k here =
      let all = map record_of s.own in
      let low = lower maps s disk b in
      let base = s.holding.live.standing.last_sequence in
      let from_log = s.holding.live.standing.log_number in
      let goes = suc (depth maps s disk b) in
      let written = written_batches maps s disk b read in
      let many : length s.holding.batches ≡ length low + length s.own =
      as_many (low ++ all) base s.holding.last s.holding.batches written ∙ length-append low all ∙ ap (λ n. length low + n) (length-map s.own record_of) in
      let count = b.count in
      let size : length low ≡ s.below = omega (arith, many, count) in
      let f = fronts (low ++ all) base s.holding.last (s.below + k) s.holding.batches written in
      let is : take (s.below + k) (low ++ all) ≡ low ++ map record_of (take k s.own) =
      ap (λ n. take (n + k) (low ++ all)) (sym size) ∙ take_behind low all k ∙ ap (λ r. low ++ r) (map_take record_of k s.own) in
      let are : batches_of (log_records F from_log goes) base ≡ Some (take (s.below + k) s.holding.batches, f.0) =
      ap (λ r. batches_of r base) (records_in maps s disk b F (map record_of (take k s.own)) logs_left here ∙ sym is) ∙ f.1 in
      let last_is : f.0 ≡ last_after base (take (s.below + k) s.holding.batches) = counted (log_records F from_log goes) base f.0 (take (s.below + k) s.holding.batches) are in
      subst (HaveBatches F from_log base (take (s.below + k) s.holding.batches)) last_is (record { count = goes; no_more = none_behind maps s disk b F logs_left; are = are })

  pub left_holds : LogsAreRead → FrontsAreRead → LastIsCounted → (number k : ℕ) → IsLive F number s.holding.live → records (log_bytes F s.log.number) ≡ map record_of (take k s.own)
      → Holds F number (cut_to (s.below + k) s.holding)
  left_holds read fronts counted number k live here = record { live = live; tables = tables_left; blobs = blobs_left; spelled = spelled_left; batches = have_first read fronts counted k here }
