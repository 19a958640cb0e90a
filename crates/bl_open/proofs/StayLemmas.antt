-- The files of a version stay while another file is made or changed.
use Rattle.std.proofs.Common.{◌≡◌, ℕ, ◌≤◌, ◌∙◌, ap, subst, Some, inl}
use Rattle.std.specs.List.{AllByRecursion}
use Rattle.std.specs.Result.{result_ok}
use Rattle.bl_site.specs.Disk.{Disk, written_of}
use Rattle.bl_names.specs.declared.name.FileName.{FileName}
use Rattle.bl_names.specs.declared.name.FileName.TheVariants.{Current, Manifest, Log, Table, Blob, Temp}
use Rattle.bl_names.specs.Names.{HasNumber, IsNumber, NamesOne, name_of}
use Rattle.bl_blob.specs.Reading.{file_in}
use Rattle.bl_edit.specs.declared.edit.NewTable.{NewTable}
use Rattle.bl_build.specs.declared.meta.BlobMeta.{BlobMeta}
use Rattle.bl_build.specs.Restoring.{Restored}
use Rattle.bl_build.specs.Versions.{IsVersion}
use Rattle.bl_wal.specs.LogFile.{log_name}
use Rattle.bl_wal.specs.Laws.{LogsAreRead}
use Rattle.bl_folder.specs.Holding.{blob_in}
use Rattle.bl_out.specs.Files.{entries_in, of_size}
use Rattle.bl_out.specs.Tables.{table_in}
use Rattle.bl_out.specs.Finding.{◌then◌}
use Rattle.bl_entry.proofs.ItemLemmas.{all_contained, contains_map, each_same}
use Rattle.bl_code.proofs.Basics.{all_from}
use Rattle.bl_folder.proofs.Finding.{from_test}
use Rattle.bl_open.specs.SteadyCalls.{KeepsAllBut}
use Rattle.bl_open.specs.Installations.{IsBeside, IsFileOf}
use Rattle.bl_open.proofs.LeftLemmas.{spelled_alike}
use Rattle.bl_build.specs.Listing.{Listing}
use Rattle.bl_open.specs.SteadyLaws.{BackedStay, FilesStay}
use Rattle.bl_open.proofs.FrameLemmas.{Kept, all_both, backed_kept, elsewhere, fits_number, synced_same, written_in}

module _ (names : NamesOne) (v : Listing) (f : FileName) (old new : Disk) (is_version : IsVersion v) (is : HasNumber f) (away : IsFileOf v f → ⊥) (keeps : KeepsAllBut (name_of f) old new) where
  stays : (g : FileName) → HasNumber g → IsFileOf v g → new (name_of g) ≡ old (name_of g)
  stays g has beside = elsewhere names f old new is keeps g has (λ e. away (subst (IsFileOf v) e beside))

  pub tables_stay : AllByRecursion (λ t. new (name_of (Table t.number)) ≡ old (name_of (Table t.number))) v.tables
  tables_stay = all_from _ _ v.tables (λ t c. stays (Table t.number) (fits_number t c.1) (contains_map (λ (u : NewTable). u.number) v.tables t c.0)) (all_contained _ v.tables is_version.tables_fit)

  pub blobs_stay : AllByRecursion (λ b. new (name_of (Blob b.number)) ≡ old (name_of (Blob b.number))) v.blobs
  blobs_stay = all_from _ _ v.blobs (λ b c. stays (Blob b.number) (from_test b.number c.1) (contains_map (λ (u : BlobMeta). u.number) v.blobs b c.0)) (all_contained _ v.blobs is_version.blobs_fit)

beside_file : (live : Restored) (f : FileName) → (IsBeside live f → ⊥) → IsFileOf live.version f → ⊥
beside_file live Current away is = is
beside_file live (Manifest n) away is = is
beside_file live (Log n) away is = is
beside_file live (Table n) away is = away is
beside_file live (Blob n) away is = away is
beside_file live (Temp n) away is = is

pub files_stay : NamesOne → FilesStay
files_stay names h f old new v is away keeps files =
    let tables = tables_stay names h.live.version f old new v is away keeps in
    let blobs = blobs_stay names h.live.version f old new v is away keeps in
    record {
      tables = each_same (table_in (written_of old)) (table_in (written_of new)) h.live.version.tables (all_from _ _ h.live.version.tables
          (λ t e. λ i. written_in (e i) then of_size t.size then entries_in then λ es. Some (record { meta = t; entries = es })) tables) ∙ files.tables;
      blobs = each_same (blob_in (written_of old)) (blob_in (written_of new)) h.live.version.blobs (all_from _ _ h.live.version.blobs
          (λ m e. λ i. (written_in (e i) then λ bytes. result_ok (file_in bytes)) then λ rs. Some (record { meta = m; records = rs })) blobs) ∙ files.blobs;
      spelled = spelled_alike (written_of old) (written_of new) h.live.version.blobs h.blobs files.blobs (all_from _ _ h.live.version.blobs (λ m e. ap written_in e) blobs) files.spelled;
      named = record {
        tables = all_both _ _ _ h.live.version.tables (λ t e synced. synced_same old new (Table t.number) e synced) tables files.named.tables;
        blobs = all_both _ _ _ h.live.version.blobs (λ m e synced. synced_same old new (Blob m.number) e synced) blobs files.named.blobs;
      };
    }

pub backed_stay : NamesOne → LogsAreRead → BackedStay
backed_stay names read maps s f old new v is away keeps b =
    let no_file = beside_file s.holding.live f away in
    let logs : (n : ℕ) → IsNumber n → s.holding.live.standing.log_number ≤ n → new (log_name n) ≡ old (log_name n) =
    λ n has le. elsewhere names f old new is keeps (Log n) has (λ e. away (subst (IsBeside s.holding.live) e (has, le))) in
    let k : Kept s old new = record {
      tables = tables_stay names s.holding.live.version f old new v is no_file keeps;
      blobs = blobs_stay names s.holding.live.version f old new v is no_file keeps;
      logs = λ n has le ne. inl (logs n has le);
    } in
    backed_kept read maps s old new b k (logs s.log.number b.is_number b.needed)
