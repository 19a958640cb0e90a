-- A writing call that failed leaves a store giving readers what it gave.
use Rattle.std.proofs.Common.{◌≡◌, ◌≢◌, ℕ, ◌+◌, ◌<◌, ◌≤◌, false, List, [], ◌∷◌, refl, sym, ◌∙◌, ap, subst, arith, inl, inr, Option, Some}
use Rattle.std.specs.Prelude.{IfSome, IsTrue, map}
use Rattle.std.specs.List.{AllByRecursion}
use Rattle.std.specs.Result.{result_ok}
use Rattle.std.specs.Option.{option_map}
use Rattle.bl_site.specs.Disk.{Disk, File, Folder, Name, folder_of, written_of}
use Rattle.bl_code.proofs.Basics.{all_from}
use Rattle.bl_names.specs.declared.name.FileName.{FileName}
use Rattle.bl_names.specs.declared.name.FileName.TheVariants.{Log, Manifest, Table, Blob}
use Rattle.bl_names.specs.Names.{HasNumber, IsNumber, NamesOne, name_of}
use Rattle.bl_entry.specs.Revisions.{Map}
use Rattle.bl_entry.proofs.ItemLemmas.{each_from, each_same}
use Rattle.bl_blob.specs.BlobFile.{IsBlobFile}
use Rattle.bl_blob.specs.Reading.{file_in}
use Rattle.bl_edit.specs.Bounds.{is_number, table_fits}
use Rattle.bl_edit.specs.declared.edit.NewTable.{NewTable}
use Rattle.bl_build.specs.declared.meta.BlobMeta.{BlobMeta}
use Rattle.bl_build.specs.Listing.{Listing}
use Rattle.bl_build.specs.Restoring.{Restored}
use Rattle.bl_build.specs.Versions.{IsVersion}
use Rattle.bl_out.specs.Files.{entries_in, of_size}
use Rattle.bl_out.specs.Finding.{◌then◌}
use Rattle.bl_out.specs.Tables.{table_in}
use Rattle.bl_folder.specs.Flushes.{IsBelow}
use Rattle.bl_folder.specs.FlushLaws.{HeldAreWhole}
use Rattle.bl_folder.specs.Holding.{BlobFile, IsSpelled, blob_in}
use Rattle.bl_folder.specs.Numbers.{number_of}
use Rattle.bl_folder.proofs.Finding.{from_test}
use Rattle.bl_folder.proofs.OneLemmas.{blob_of}
use Rattle.bl_open.proofs.FrameLemmas.{apart, fits_number}
use Rattle.bl_open.specs.SteadyLaws.{SteadyHoldWritten}
use Rattle.bl_read.specs.Giving.{Gives, View}
use Rattle.bl_store.specs.Calls.{IsOwn}
use Rattle.bl_store.specs.Held.{Held, maps_of, now_of}
use Rattle.bl_store.specs.Reading.{GivesMap, StoresGiveTheirMap, view_of}
use Rattle.bl_store.specs.Standing.{StandsFor}
use Rattle.bl_store.specs.Stored.{IsInOrder, Stored}
use Rattle.bl_store.specs.Switching.{undrawn}
use Rattle.bl_open.specs.Synced.{as_synced}

-- ---- a folder in which the files of a version are as they were gives the same

module _ (old new : Folder) where
  table_same : (t : NewTable) → new (name_of (Table t.number)) ≡ old (name_of (Table t.number)) → table_in new t ≡ table_in old t
  table_same t e = λ i. e i then of_size t.size then entries_in then λ es. Some (record { meta = t; entries = es })

  blob_same : (b : BlobMeta) → new (name_of (Blob b.number)) ≡ old (name_of (Blob b.number)) → blob_in new b ≡ blob_in old b
  blob_same b e = λ i. (e i then λ bytes. result_ok (file_in bytes)) then λ rs. Some (record { meta = b; records = rs })

  spelled_same : (bs : List BlobFile) → AllByRecursion (λ m. new (name_of (Blob m.number)) ≡ old (name_of (Blob m.number))) (map (λ b. b.meta) bs) → AllByRecursion (IsSpelled old) bs → AllByRecursion (IsSpelled new) bs
  spelled_same [] same h = tt
  spelled_same (b ∷ bs) same h = (subst (λ (o : Option (List ℕ)). IfSome o (λ bytes. IsBlobFile bytes b.records)) (sym same.0) h.0, spelled_same bs same.1 h.1)

  pub gives_still : (v : View) (seq : ℕ) (m : Map) → AllByRecursion (λ t. new (name_of (Table t.number)) ≡ old (name_of (Table t.number))) v.version.tables
      → AllByRecursion (λ b. new (name_of (Blob b.number)) ≡ old (name_of (Blob b.number))) v.version.blobs → Gives old v seq m → Gives new v seq m
  gives_still v seq m tables blobs g =
      let metas : map (λ b. b.meta) g.blobs ≡ v.version.blobs = each_from (blob_in old) (λ b. b.meta) v.version.blobs g.blobs (blob_of old) g.read_blobs in
      record {
        tables = g.tables;
        blobs = g.blobs;
        read_tables = each_same (table_in old) (table_in new) v.version.tables (all_from (λ (t : NewTable). new (name_of (Table t.number)) ≡ old (name_of (Table t.number))) _ v.version.tables table_same tables) ∙ g.read_tables;
        read_blobs = each_same (blob_in old) (blob_in new) v.version.blobs (all_from (λ (b : BlobMeta). new (name_of (Blob b.number)) ≡ old (name_of (Blob b.number))) _ v.version.blobs blob_same blobs) ∙ g.read_blobs;
        spelled = spelled_same g.blobs (subst (AllByRecursion (λ m. new (name_of (Blob m.number)) ≡ old (name_of (Blob m.number)))) (sym metas) blobs) g.spelled;
        named = g.named;
        proper = g.proper;
        found = g.found;
        resolve = g.resolve;
        once = g.once;
        newer = g.newer;
        map_is = g.map_is;
      }

-- ---- a call on the files of a store leaves those of its version

all_two : {A : Type 0} (P Q R : A → Type 0) (xs : List A) → ((x : A) → P x → Q x → R x) → AllByRecursion P xs → AllByRecursion Q xs → AllByRecursion R xs
all_two P Q R [] to h k = tt
all_two P Q R (x ∷ xs) to h k = (to x h.0 k.0, all_two P Q R xs to h.1 k.1)

-- a file with a number below the next one, and no log nor manifest, is none that the store writes
not_own : NamesOne → (old new : Stored) (f : FileName) → IsNumber old.log.number → IsNumber old.manifest.number → HasNumber f → ((n : ℕ) → f ≢ Log n) → ((n : ℕ) → f ≢ Manifest n) → number_of f < old.next → IsOwn old new (name_of f) → ⊥
not_own one old new f log manifest has no_log no_manifest less (inl is) = apart one f (Log old.log.number) has log (no_log old.log.number) is
not_own one old new f log manifest has no_log no_manifest less (inr (inl is)) = apart one f (Manifest old.manifest.number) has manifest (no_manifest old.manifest.number) is
not_own one old new f log manifest has no_log no_manifest less (inr (inr drawn)) =
    let same : f ≡ drawn.0 = one (name_of f) f drawn.0 (has, refl) drawn.1 in
    let above : old.next ≤ number_of drawn.0 = drawn.2 in
    let number : number_of f ≡ number_of drawn.0 = ap number_of same in
    absurd (omega (arith, less, above, number))

module _ (one : NamesOne) (old new : Stored) (before after : Disk) (order : IsInOrder old) (version : IsVersion old.version) (below : IsBelow old.next old.version)
    (others : (name : Name) → (IsOwn old new name → ⊥) → after name ≡ before name) where
  abbrev IsKept : FileName → Type 0
  IsKept f = folder_of after (name_of f) ≡ folder_of before (name_of f)

  same_file : (f : FileName) → HasNumber f → ((n : ℕ) → f ≢ Log n) → ((n : ℕ) → f ≢ Manifest n) → number_of f < old.next → IsKept f
  same_file f has no_log no_manifest less = ap (option_map (λ (x : File). x.read)) (others (name_of f) (not_own one old new f order.log_number order.manifest_number has no_log no_manifest less))

  pub kept : (v : View) (seq : ℕ) (m : Map) → v.version ≡ old.version → Gives (folder_of before) v seq m → Gives (folder_of after) v seq m
  kept v seq m same given =
      gives_still (folder_of before) (folder_of after) v seq m
      (subst (λ (l : Listing). AllByRecursion (λ t. IsKept (Table t.number)) l.tables) (sym same)
      (all_two (λ t. IsTrue (table_fits t)) (λ t. t.number < old.next) (λ t. IsKept (Table t.number)) old.version.tables
      (λ t fits less. same_file (Table t.number) (fits_number t fits) (λ n e. cc e) (λ n e. cc e) less) version.tables_fit below.tables))
      (subst (λ (l : Listing). AllByRecursion (λ b. IsKept (Blob b.number)) l.blobs) (sym same)
      (all_two (λ b. IsTrue (is_number b.number)) (λ b. b.number < old.next) (λ b. IsKept (Blob b.number)) old.version.blobs
      (λ b fits less. same_file (Blob b.number) (from_test b.number fits) (λ n e. cc e) (λ n e. cc e) less) version.blobs_fit below.blobs))
      given

-- the laws by which it is so
pub record KeptLaws : Type 0 where
  pub one : NamesOne
  pub whole : HeldAreWhole
  pub written : SteadyHoldWritten
  pub gives : StoresGiveTheirMap

module _ (laws : KeptLaws) where
  pub is_version : (names : List Name) (held : Held) (s : Stored) (disk : Disk) → StandsFor names held s disk → IsVersion s.version
  is_version names held s disk t =
      subst (λ (r : Restored). IsVersion r.version) t.carries.live
      (laws.whole (written_of (as_synced names disk)) t.steady.manifest.number t.steady.holding (laws.written (maps_of held) t.steady (as_synced names disk) t.is_steady)).version

  -- what readers are given of the version and some memories, they are given behind a call of the store
  pub kept_behind : (names : List Name) (held : Held) (old new : Stored) (before after : Disk) → IsInOrder old → StandsFor names held old before → ((name : Name) → (IsOwn old new name → ⊥) → after name ≡ before name)
      → (v : View) (seq : ℕ) (m : Map) → v.version ≡ old.version → Gives (folder_of before) v seq m → Gives (folder_of after) v seq m
  kept_behind names held old new before after order t others v seq m same given =
      kept laws.one old new before after order (is_version names held old before t) t.carries.ahead.version others v seq m same given

  -- a store that has the version, the memories and the last sequence that it had gives readers what it held
  pub still_gives : (names : List Name) (held : Held) (old new : Stored) (before after : Disk) → IsInOrder old → old.broken ≡ false → StandsFor names held old before
      → ((name : Name) → (IsOwn old new name → ⊥) → after name ≡ before name) → view_of new ≡ view_of old → new.last ≡ old.last → GivesMap (now_of held) new after
  still_gives names held old new before after order unbroken t others view last =
      let there = kept_behind names held old new before after order t others (view_of old) old.last (now_of held) refl (laws.gives names held old before order unbroken t) in
      subst (λ n. Gives (folder_of after) (view_of new) n (now_of held)) (sym last) (subst (λ (v : View). Gives (folder_of after) v old.last (now_of held)) (sym view) there)

-- the store before a number was drawn is in order
pub undrawn_in_order : (number : ℕ) (s : Stored) → IsInOrder s → s.next ≡ number + 1 → IsInOrder (undrawn number s)
undrawn_in_order number s order drawn = record {
  log_number = order.log_number;
  manifest_number = order.manifest_number;
  log = order.log;
  manifest = order.manifest;
  filled = order.filled;
  waits = order.waits;
  last = order.last;
  next = (let most = order.next in omega (arith, most, drawn));
}
