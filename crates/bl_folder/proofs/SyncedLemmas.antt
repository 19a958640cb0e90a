-- Disks whose needed files are synced.
use Rattle.std.proofs.Common.{◌≡◌, ℕ, List, [], ◌∷◌, refl, sym, ◌∙◌, ap, inr}
use Rattle.std.specs.List.{AllByRecursion}
use Rattle.std.specs.Option.{option_map}
use Rattle.bl_site.specs.Disk.{Cut, Disk, File, IsCut, folder_of}
use Rattle.bl_log.specs.Log.{records}
use Rattle.bl_names.specs.declared.name.FileName.TheVariants.{Current, Manifest, Log, Table, Blob}
use Rattle.bl_names.specs.Names.{name_of, TextNamesOne}
use Rattle.bl_edit.specs.declared.edit.NewTable.{NewTable}
use Rattle.bl_build.specs.declared.meta.BlobMeta.{BlobMeta}
use Rattle.bl_build.specs.Restoring.{Restored, restored}
use Rattle.bl_out.specs.Files.{file}
use Rattle.bl_folder.specs.Laws.{CutsOfSynced, SyncedAreSettled}
use Rattle.bl_folder.specs.Live.{IsLive}
use Rattle.bl_folder.specs.Needed.{KeepsNeeded}
use Rattle.bl_folder.specs.Settled.{IsSynced, IsLiveSettled, NamesSynced, NeededAreSynced}
use Rattle.bl_code.proofs.Basics.{all_from}
use Rattle.bl_entry.proofs.ItemLemmas.{all_contained, contains_map, some_is}
use Rattle.bl_folder.proofs.FrameLemmas.{frame, log_none, none_of}
use Rattle.bl_folder.proofs.SettledLemmas.{left_none, left_same, synced_remnant}

synced_keeps : (disk : Disk) (told : List ℕ) (c : Cut) (manifest : ℕ) (live : Restored) → NeededAreSynced disk manifest live → IsCut disk told c
    → KeepsNeeded manifest live (folder_of disk) c.folder
synced_keeps disk told c manifest live synced cut = record {
  same = λ f needed there. left_same (disk (name_of f)) (c.folder (name_of f)) (cut.image (name_of f)) (synced f needed);
  further = λ n le none.
      log_none c.folder n (left_none (disk (name_of (Log n))) (c.folder (name_of (Log n))) (cut.image (name_of (Log n))) (none_of (file (folder_of disk) (Log n)) none));
}

pub cuts_of_synced : TextNamesOne → CutsOfSynced
cuts_of_synced names disk told c manifest live m l stands synced cut = frame names (folder_of disk) c.folder manifest live m l stands (synced_keeps disk told c manifest live synced cut)

-- a live disk whose manifest is synced too is settled
pub synced_is_settled : (disk : Disk) (manifest : ℕ) (live : Restored) → IsLive (folder_of disk) manifest live
    → IsSynced disk Current → IsSynced disk (Manifest manifest) → NamesSynced disk live → IsLiveSettled disk
synced_is_settled disk manifest live l current synced named = record {
  manifest = manifest;
  live = live;
  is_live = l;
  current = current;
  named = named;
  torn = λ x bytes e left.
      let read : bytes ≡ x.read = synced_remnant x bytes (synced x e) left.remnant in
      let there : l.bytes ≡ x.read = some_is (sym l.there ∙ ap (option_map (λ (y : File). y.read)) e) in
      record { live = live; restores = ap (λ bs. restored (records bs)) (read ∙ sym there) ∙ l.restores; synced = named };
}

-- and so is one whose needed files are
pub synced_are_settled : SyncedAreSettled
synced_are_settled disk manifest live l synced = inr (synced_is_settled disk manifest live l (synced Current tt) (synced (Manifest manifest) refl) record {
  tables = all_from _ _ live.version.tables (λ t h. synced (Table t.number) (contains_map (λ (u : NewTable). u.number) live.version.tables t h.0)) (all_contained (λ t. Unit {0}) live.version.tables (each live.version.tables));
  blobs = all_from _ _ live.version.blobs (λ b h. synced (Blob b.number) (contains_map (λ (u : BlobMeta). u.number) live.version.blobs b h.0)) (all_contained (λ b. Unit {0}) live.version.blobs (each live.version.blobs));
})
  where
    each : {A : Type 0} (xs : List A) → AllByRecursion (λ x. Unit {0}) xs
    each [] = tt
    each (x ∷ xs) = (tt, each xs)
