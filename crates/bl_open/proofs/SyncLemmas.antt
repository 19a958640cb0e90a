-- The syncs of an opening.
use Rattle.std.proofs.Common.{◌≡◌, ◌≢◌, ◌⊎◌, ℕ, List, [], ◌++◌, Bool, true, false, refl, sym, ◌∙◌, ap, subst, Option, Some, inl, inr, append-nil}
use Rattle.std.specs.Str.{bytes_eq}
use Rattle.std.specs.Option.{option_map}
use Rattle.std.proofs.lemmas.Bool.{false≢true}
use Rattle.std.proofs.lemmas.Slice.Eq.{bytes_eq-Decides}
use Rattle.bl_site.specs.Disk.{Name, Folder, Disk, File, folder_of}
use Rattle.bl_site.specs.Calls.{Syncs}
use Rattle.bl_log.specs.Log.{records}
use Rattle.bl_names.specs.declared.name.FileName.{FileName}
use Rattle.bl_names.specs.declared.name.FileName.TheVariants.{Current, Manifest, Log, Table, Blob}
use Rattle.bl_names.specs.Names.{name_of}
use Rattle.bl_build.specs.Restoring.{Restored, restored}
use Rattle.bl_folder.specs.Live.{IsFresh, IsLive}
use Rattle.bl_folder.specs.Settled.{IsSettled, IsSynced, IsSyncedFile, NamesSynced}
use Rattle.bl_code.proofs.Basics.{all_from}
use Rattle.bl_entry.proofs.ItemLemmas.{some_is}
use Rattle.bl_open.specs.SteadyLaws.{SyncsKeepSettled, SyncsSync}
use Rattle.bl_open.proofs.CutLemmas.{none_longer}

abbrev read_in : Option File → Option (List ℕ)
read_in o = option_map (λ (x : File). x.read) o

pub same_name : (a b : Name) → (a ≡ b) ⊎ (a ≢ b)
same_name a b = by_test (bytes_eq a b) refl
  where
    by_test : (t : Bool) → bytes_eq a b ≡ t → (a ≡ b) ⊎ (a ≢ b)
    by_test true e = inl ((bytes_eq-Decides a b).0 e)
    by_test false e = inr (λ same. false≢true (sym e ∙ (bytes_eq-Decides a b).1 same))

module _ (f : FileName) (old new : Disk) (s : Syncs (name_of f) old new) where
  abbrev now : File
  now = record { read = s.file.read; front = s.file.read; handed = [] }

  reads_same : (name : Name) → folder_of new name ≡ folder_of old name
  reads_same name = elim (same_name name (name_of f)) [
    | inl same ↦ ap (folder_of new) same ∙ ap read_in s.puts.at ∙ sym (ap read_in s.was) ∙ ap (folder_of old) (sym same)
    | inr other ↦ ap read_in (s.puts.others name other)
  ]

  pub folder_same : folder_of new ≡ folder_of old
  folder_same = λ i name. reads_same name i

  is_now : (x : File) → new (name_of f) ≡ Some x → now ≡ x
  is_now x at = some_is (sym s.puts.at ∙ at)

  pub synced_now : IsSynced new f
  synced_now x at = subst IsSyncedFile (is_now x at) (record { handed = refl; front = refl })

  pub synced_still : (g : FileName) → IsSynced old g → IsSynced new g
  synced_still g synced x at = elim (same_name (name_of g) (name_of f)) [
    | inl same ↦ synced_now x (ap new (sym same) ∙ at)
    | inr other ↦ synced x (sym (s.puts.others (name_of g) other) ∙ at)
  ]

  names_still : (live : Restored) → NamesSynced old live → NamesSynced new live
  names_still live named = record {
    tables = all_from _ _ live.version.tables (λ t. synced_still (Table t.number)) named.tables;
    blobs = all_from _ _ live.version.blobs (λ b. synced_still (Blob b.number)) named.blobs;
  }

  pub settled_still : IsSettled old → IsSettled new
  settled_still (inl fresh) = inl (subst IsFresh (sym folder_same) fresh.0, λ n is. synced_still (Log n) (fresh.1 n is))
  settled_still (inr settled) =
      let live : IsLive (folder_of new) settled.manifest settled.live = subst (λ (F : Folder). IsLive F settled.manifest settled.live) (sym folder_same) settled.is_live in
      inr (record {
        manifest = settled.manifest;
        live = settled.live;
        is_live = live;
        current = synced_still Current settled.current;
        named = names_still settled.live settled.named;
        torn = λ x bytes at may. elim (same_name (name_of (Manifest settled.manifest)) (name_of f)) [
          | inl same ↦
              let is : now ≡ x = is_now x (ap new (sym same) ∙ at) in
              let none : x.handed ≡ [] = sym (ap (λ (y : File). y.handed) is) in
              let bytes_are : bytes ≡ x.front = may.remnant.split ∙ ap (λ r. x.front ++ r) (none_longer may.remnant.tail x.handed may.remnant.no_longer none) ∙ append-nil x.front in
              let front : x.front ≡ x.read = sym (ap (λ (y : File). y.front) is) ∙ ap (λ (y : File). y.read) is in
              let there : x.read ≡ live.bytes = some_is (sym (ap read_in at) ∙ live.there) in
              record {
                live = settled.live;
                restores = ap (λ b. restored (records b)) (bytes_are ∙ front ∙ there) ∙ live.restores;
                synced = names_still settled.live settled.named;
              }
          | inr other ↦
              let before = settled.torn x bytes (sym (s.puts.others (name_of (Manifest settled.manifest)) other) ∙ at) may in
              record { live = before.live; restores = before.restores; synced = names_still before.live before.synced }
        ];
      })

pub syncs_sync : SyncsSync
syncs_sync f old new s = (folder_same f old new s, synced_now f old new s, synced_still f old new s)

pub syncs_keep_settled : SyncsKeepSettled
syncs_keep_settled f old new has s settled = settled_still f old new s settled
