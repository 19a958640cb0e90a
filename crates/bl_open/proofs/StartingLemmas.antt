-- From what an opening read to what it begins with.
use Rattle.std.proofs.Common.{◌≡◌, inl, inr, ℕ, ◌<◌, ◌≤◌, List, [], ◌∷◌, Option, None, Some, IsSome, refl, sym, ◌∙◌, ap, subst, arith}
use Rattle.std.specs.Prelude.{IfSome}
use Rattle.std.specs.List.{AllByRecursion}
use Rattle.std.specs.Option.{option_map}
use Rattle.std.specs.Result.{result_ok}
use Rattle.std.specs.FinMap.{empty}
use Rattle.bl_site.specs.Disk.{Disk, File, Folder, Name, folder_of, written_of}
use Rattle.bl_names.specs.declared.name.FileName.{FileName}
use Rattle.bl_names.specs.declared.name.FileName.TheVariants.{Log, Manifest, Table, Blob}
use Rattle.bl_names.specs.Names.{IsNumber, name_of}
use Rattle.bl_code.proofs.Basics.{all_from}
use Rattle.bl_edit.specs.declared.edit.NewTable.{NewTable}
use Rattle.bl_entry.specs.Batches.{Batch}
use Rattle.bl_entry.specs.Revisions.{Map}
use Rattle.bl_entry.specs.declared.key.Entry.{Entry}
use Rattle.bl_blob.specs.BlobFile.{IsBlobFile}
use Rattle.bl_blob.specs.Reading.{file_in}
use Rattle.bl_build.specs.declared.meta.BlobMeta.{BlobMeta}
use Rattle.bl_build.specs.declared.meta.Standing.{Standing}
use Rattle.bl_build.specs.Listing.{nothing}
use Rattle.bl_build.specs.Restoring.{Restored}
use Rattle.bl_build.specs.Versions.{IsVersion}
use Rattle.bl_memtab.specs.Filled.{NoneIsHeld}
use Rattle.bl_out.proofs.AmongLemmas.{all_unmapped}
use Rattle.bl_out.specs.Files.{entries_in, file, of_size}
use Rattle.bl_out.specs.Finding.{◌then◌}
use Rattle.bl_out.specs.Tables.{table_in}
use Rattle.bl_entry.proofs.ItemLemmas.{all_contained, contains_map, each_same}
use Rattle.bl_folder.specs.Flushes.{IsBelow, IsMemoryOf, blob_metas}
use Rattle.bl_folder.specs.FlushLaws.{HeldAreWhole}
use Rattle.bl_folder.specs.Holding.{BlobFile, Holding, Holds, IsSpelled, blob_in}
use Rattle.bl_folder.specs.Laws.{BatchesAreOne, LiveIsOne}
use Rattle.bl_folder.specs.Live.{IsFresh, IsLive}
use Rattle.bl_folder.specs.Logs.{HaveBatches}
use Rattle.bl_folder.specs.Memories.{HeldIsMemory}
use Rattle.bl_folder.specs.Needed.{IsNeeded}
use Rattle.bl_folder.specs.Numbers.{IsFirstNumber}
use Rattle.bl_folder.specs.Settled.{IsSettled, IsSynced, NamesSynced}
use Rattle.bl_folder.specs.Stands.{Stands, StandsLive}
use Rattle.bl_open.proofs.CutLemmas.{reads}
use Rattle.bl_open.proofs.FrameLemmas.{all_both}
use Rattle.bl_open.specs.Beginning.{HoldsLoaded, StartsFrom}
use Rattle.bl_open.specs.Found.{RestsAs}
use Rattle.bl_open.specs.Fresh.{no_holding}
use Rattle.bl_open.specs.Options.{Words}
use Rattle.bl_open.specs.OpeningLaws.{FreshHasTables, FreshRests}
use Rattle.bl_open.specs.Recovering.{HasLoaded}
use Rattle.bl_open.specs.Steady.{HasFiles}
use Rattle.bl_open.specs.Synced.{AreFilesBelow, as_synced}
use Rattle.bl_open.proofs.SyncedLemmas.{files_below, files_of, named_synced, same_folder}
use Rattle.bl_open.specs.declared.begin.Loaded.{Loaded}

-- ---- a folder that has a live part

-- what is held of synced files is held of them as they are written
module _ (disk : Disk) (manifest : ℕ) (h : Holding) (holds : Holds (folder_of disk) manifest h) (named : NamesSynced disk h.live) (metas_are : blob_metas h.blobs ≡ h.live.version.blobs) where
  table_written : (t : NewTable) → IsSynced disk (Table t.number) → table_in (written_of disk) t ≡ table_in (folder_of disk) t
  table_written t synced = ap (λ o. o then of_size t.size then entries_in then λ es. Some (record { meta = t; entries = es })) (sym (reads disk (Table t.number) synced))

  blob_written : (b : BlobMeta) → IsSynced disk (Blob b.number) → blob_in (written_of disk) b ≡ blob_in (folder_of disk) b
  blob_written b synced = ap (λ o. (o then λ bytes. result_ok (file_in bytes)) then λ rs. Some (record { meta = b; records = rs })) (sym (reads disk (Blob b.number) synced))

  spelled_written : (b : BlobFile) → IsSynced disk (Blob b.meta.number) → IsSpelled (folder_of disk) b → IsSpelled (written_of disk) b
  spelled_written b synced spelled = subst (λ o. IfSome o (λ bytes. IsBlobFile bytes b.records)) (reads disk (Blob b.meta.number) synced) spelled

  files_written : HasFiles h disk
  files_written = record {
    tables = each_same (table_in (folder_of disk)) (table_in (written_of disk)) h.live.version.tables (all_from (λ (t : NewTable). IsSynced disk (Table t.number)) _ h.live.version.tables table_written named.tables) ∙ holds.tables;
    blobs = each_same (blob_in (folder_of disk)) (blob_in (written_of disk)) h.live.version.blobs (all_from (λ (b : BlobMeta). IsSynced disk (Blob b.number)) _ h.live.version.blobs blob_written named.blobs) ∙ holds.blobs;
    spelled = all_both (λ (b : BlobFile). IsSynced disk (Blob b.meta.number)) (IsSpelled (folder_of disk)) (IsSpelled (written_of disk)) h.blobs spelled_written
        (all_unmapped (λ (b : BlobFile). b.meta) (λ (b : BlobMeta). IsSynced disk (Blob b.number)) h.blobs (subst (AllByRecursion (λ (b : BlobMeta). IsSynced disk (Blob b.number))) (sym metas_are) named.blobs)) holds.spelled;
    named = named;
  }

-- the files of the version are needed
named_of : (disk : Disk) (manifest : ℕ) (live : Restored) → ((f : FileName) → IsNeeded manifest live f → IsSynced disk f) → NamesSynced disk live
named_of disk manifest live synced = record {
  tables = all_from _ (λ (t : NewTable). IsSynced disk (Table t.number)) live.version.tables (λ t c. synced (Table t.number) (contains_map (λ (u : NewTable). u.number) live.version.tables t c.0)) (all_contained _ live.version.tables (every live.version.tables));
  blobs = all_from _ (λ (b : BlobMeta). IsSynced disk (Blob b.number)) live.version.blobs (λ b c. synced (Blob b.number) (contains_map (λ (u : BlobMeta). u.number) live.version.blobs b c.0)) (all_contained _ live.version.blobs (every live.version.blobs));
}
  where
    every : {A : Type 0} (xs : List A) → AllByRecursion (λ x. Unit {0}) xs
    every [] = tt
    every (x ∷ xs) = (tt, every xs)

-- a log numbered as the first free number, or behind it, is not there
no_log : (disk : Disk) (n first : ℕ) → (IsSome (file (folder_of disk) (Log n)) → n < first) → first ≤ n → disk (name_of (Log n)) ≡ None
no_log disk n first below le = by (disk (name_of (Log n))) refl
  where
    by : (o : Option File) → disk (name_of (Log n)) ≡ o → disk (name_of (Log n)) ≡ None
    by None e = e
    by (Some x) e = absurd (not_less (below (subst (λ o. IsSome (option_map (λ (y : File). y.read) o)) (sym e) refl)))
      where
        not_less : n < first → ⊥
        not_less lt = omega (arith, lt, le)

some_is : {A : Type 0} (o : Option A) (x : A) → o ≡ Some x → IsSome o
some_is o x e = subst IsSome (sym e) refl

-- what the folder holds, from what it stands for
pub live_stands : (folder : Folder) (manifest : ℕ) (live : Restored) (m : Map) → IsLive folder manifest live → Stands folder m → StandsLive folder m
live_stands folder manifest live m is (inl fresh) = cc (fresh.0.current, is.current)
live_stands folder manifest live m is (inr stands) = stands

-- what was loaded is held, where the files of the version are synced
pub holds_live : LiveIsOne → BatchesAreOne → HeldAreWhole → HeldIsMemory → (disk : Disk) (manifest : ℕ) (words : Words) (l : Loaded) (m : Map) (loaded : HasLoaded (folder_of disk) manifest words l)
    → (stands : StandsLive (folder_of disk) m) → NamesSynced disk loaded.live → HoldsLoaded stands.holding m l disk
holds_live one batches whole memory disk manifest words l m loaded stands named =
    let h : Holding = stands.holding in
    let same = one (folder_of disk) stands.manifest manifest h.live loaded.live stands.holds.live loaded.is_live in
    let w = whole (folder_of disk) stands.manifest h stands.holds in
    let log : h.live.standing.log_number ≡ loaded.live.standing.log_number = ap (λ (r : Restored). r.standing.log_number) same.1 in
    let before : h.live.standing.last_sequence ≡ loaded.live.standing.last_sequence = ap (λ (r : Restored). r.standing.last_sequence) same.1 in
    let have : HaveBatches (folder_of disk) loaded.live.standing.log_number loaded.live.standing.last_sequence h.batches h.last =
    subst (λ n. HaveBatches (folder_of disk) n loaded.live.standing.last_sequence h.batches h.last) log
    (subst (λ n. HaveBatches (folder_of disk) h.live.standing.log_number n h.batches h.last) before stands.holds.batches) in
    let are = batches (folder_of disk) loaded.live.standing.log_number loaded.live.standing.last_sequence h.batches loaded.logs.batches h.last l.last have loaded.logs.have in
    let synced : NamesSynced disk h.live = subst (NamesSynced disk) (sym same.1) named in
    let above = loaded.first.above in
    let below : IsBelow l.first loaded.live.version = record { tables = above.tables; blobs = above.blobs } in
    record {
      loaded = record {
        files = files_written disk stands.manifest h stands.holds synced w.blobs;
        whole = w;
        found = stands.found;
        sound = stands.sound;
        memory_of = subst (λ (bs : List Batch). IsMemoryOf bs l.memory) (sym are.0) (memory loaded.logs.batches l.memory l.last loaded.logs.fit loaded.logs.holds);
        below = subst (λ (r : Restored). IsBelow l.first r.version) (sym same.1) below;
        logs = λ n is le. no_log disk n l.first (λ some. above.names (Log n) is some) le;
      };
      version_is = ap (λ (r : Restored). r.version) same.1 ∙ loaded.version_is;
      options_are = ap (λ (r : Restored). r.standing.options) same.1 ∙ loaded.options_are;
      last_is = are.1;
    }

pub starts_live : LiveIsOne → BatchesAreOne → HeldAreWhole → HeldIsMemory → (disk : Disk) (manifest : ℕ) (words : Words) (l : Loaded) (m : Map) (loaded : HasLoaded (folder_of disk) manifest words l)
    → (stands : StandsLive (folder_of disk) m) → RestsAs (Some (manifest, loaded.live)) m disk → StartsFrom (Some (manifest, loaded.live)) stands.holding m l disk
starts_live one batches whole memory disk manifest words l m loaded stands rests =
    let above = loaded.first.above in
    record {
      rests = rests;
      holds = holds_live one batches whole memory disk manifest words l m loaded stands (named_of disk manifest loaded.live rests.synced);
      found_in = (one (folder_of disk) stands.manifest manifest stands.holding.live loaded.live stands.holds.live loaded.is_live).1;
      below = (above.names (Manifest manifest) loaded.is_live.number (some_is (file (folder_of disk) (Manifest manifest)) loaded.is_live.bytes loaded.is_live.there), record { tables = above.tables; blobs = above.blobs });
    }

-- so it is as if the files of the version had been synced
pub record HeldAsSynced (m : Map) (l : Loaded) (disk : Disk) : Type 0 where
  pub names : List Name
  pub below : AreFilesBelow l.first names
  pub holding : Holding
  pub holds : HoldsLoaded holding m l (as_synced names disk)

pub held_as_synced : LiveIsOne → BatchesAreOne → HeldAreWhole → HeldIsMemory → (disk : Disk) (manifest : ℕ) (words : Words) (l : Loaded) (m : Map) → HasLoaded (folder_of disk) manifest words l → StandsLive (folder_of disk) m → HeldAsSynced m l disk
held_as_synced one batches whole memory disk manifest words l m was stands =
    let names = files_of was.live.version in
    let same : folder_of (as_synced names disk) ≡ folder_of disk = same_folder names disk in
    let loaded : HasLoaded (folder_of (as_synced names disk)) manifest words l = subst (λ (f : Folder). HasLoaded f manifest words l) (sym same) was in
    let here : StandsLive (folder_of (as_synced names disk)) m = subst (λ (f : Folder). StandsLive f m) (sym same) stands in
    let live : was.live ≡ loaded.live =
    (one (folder_of (as_synced names disk)) manifest manifest was.live loaded.live (subst (λ (f : Folder). IsLive f manifest was.live) (sym same) was.is_live) loaded.is_live).1 in
    let named : NamesSynced (as_synced names disk) loaded.live = subst (NamesSynced (as_synced names disk)) live (named_synced was.live disk) in
    let version : IsVersion was.live.version =
    subst (λ (r : Restored). IsVersion r.version) (one (folder_of disk) stands.manifest manifest stands.holding.live was.live stands.holds.live was.is_live).1 (whole (folder_of disk) stands.manifest stands.holding stands.holds).version in
    let above = was.first.above in
    record {
      names = names;
      below = files_below was.live.version l.first version (record { tables = above.tables; blobs = above.blobs });
      holding = here.holding;
      holds = holds_live one batches whole memory (as_synced names disk) manifest words l m loaded here named;
    }

-- ---- a fresh folder

pub holds_fresh : FreshHasTables → HeldIsMemory → NoneIsHeld → (disk : Disk) (l : Loaded) → IsVersion nothing → IsFirstNumber (folder_of disk) nothing 1 l.first
    → l.version ≡ nothing → l.memory ≡ [] → l.last ≡ 0 → HoldsLoaded (no_holding (record { log_number = l.first; next_file = l.first; last_sequence = 0; options = l.options })) empty l disk
holds_fresh tables memory none disk l version first no_version no_memory no_last =
    let standing : Standing = record { log_number = l.first; next_file = l.first; last_sequence = 0; options = l.options } in
    let absent : (n : ℕ) → IsNumber n → l.first ≤ n → disk (name_of (Log n)) ≡ None = λ n is le. no_log disk n l.first (λ some. first.above.names (Log n) is some) le in
    let t = tables (λ n. empty) l.first standing disk refl refl absent in
    record {
      loaded = record {
        files = t.files;
        whole = record { version = version; tables = refl; blobs = refl; follow = tt; last = refl };
        found = t.makes.0;
        sound = t.makes.1;
        memory_of = subst (λ (es : List Entry). IsMemoryOf [] es) (sym no_memory) (memory [] [] 0 tt (none 0));
        below = record { tables = tt; blobs = tt };
        logs = absent;
      };
      version_is = sym no_version;
      options_are = refl;
      last_is = sym no_last;
    }

pub starts_fresh : FreshRests → FreshHasTables → HeldIsMemory → NoneIsHeld → (disk : Disk) (l : Loaded) → IsSettled disk → IsFresh (folder_of disk) → IsVersion nothing → IsFirstNumber (folder_of disk) nothing 1 l.first
    → l.version ≡ nothing → l.memory ≡ [] → l.last ≡ 0 → StartsFrom None (no_holding (record { log_number = l.first; next_file = l.first; last_sequence = 0; options = l.options })) empty l disk
starts_fresh rests tables memory none disk l settled fresh version first no_version no_memory no_last = record {
  rests = rests disk settled fresh;
  holds = holds_fresh tables memory none disk l version first no_version no_memory no_last;
  found_in = no_memory;
  below = tt;
}
