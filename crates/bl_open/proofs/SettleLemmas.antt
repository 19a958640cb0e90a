-- An installation that failed leaves the disk settled.
use Rattle.std.proofs.Common.{◌≡◌, ◌≢◌, ℕ, List, [], ◌∷◌, ◌++◌, length, Bool, true, false, cond, refl, sym, ◌∙◌, ap, subst, Option, Some, inl, inr}
use Rattle.std.specs.Prelude.{option_and_then}
use Rattle.std.specs.Str.{bytes_eq}
use Rattle.std.proofs.lemmas.Slice.Eq.{bytes_eq-Decides}
use Rattle.bl_site.specs.Disk.{Name, Folder, Disk, File, Cut, IsCut, IsLeft, IsRemnant, folder_of, written_of}
use Rattle.bl_site.specs.Calls.{DoneOrNot}
use Rattle.bl_log.specs.Log.{records}
use Rattle.bl_log.specs.Written.{OnlyWritten}
use Rattle.bl_names.specs.declared.name.FileName.TheVariants.{Current, Manifest, Table, Blob}
use Rattle.bl_names.specs.Names.{IsNumber, NamesOne, name_of, current_text, manifest_name}
use Rattle.bl_edit.specs.declared.edit.Edit.{Edit}
use Rattle.bl_build.specs.Restoring.{Restored, restored, restored_by}
use Rattle.bl_build.specs.Versions.{IsVersion}
use Rattle.bl_records.specs.Chance.{NoChanceMatch, IsOnlyWritten}
use Rattle.bl_manifest.specs.ManifestFile.{record_bytes}
use Rattle.bl_records.specs.Writing.{AppendsPartly}
use Rattle.bl_manifest.specs.Held.{Edits, AreReadBack, ReadsEdits}
use Rattle.bl_manifest.specs.Laws.{CutAppendsReadAsFronts}
use Rattle.bl_out.specs.Files.{file}
use Rattle.bl_folder.specs.Live.{IsLive}
use Rattle.bl_folder.specs.Holding.{Holding}
use Rattle.bl_folder.specs.Settled.{IsSynced, IsLiveSettled, NamesSynced}
use Rattle.bl_folder.specs.Laws.{LiveIsVersion}
use Rattle.bl_folder.proofs.Finding.{from_test}
use Rattle.bl_entry.proofs.ItemLemmas.{some_is}
use Rattle.bl_open.specs.Steady.{Maps, Steady, IsSteady}
use Rattle.bl_open.specs.SteadyCalls.{Installs}
use Rattle.bl_open.specs.SteadyLaws.{TornInstallsAreSettled}
use Rattle.bl_open.proofs.CutLemmas.{live_from, reads}
use Rattle.bl_open.proofs.FrameLemmas.{apart, elsewhere, fits_number, synced_same, written_in, all_both}
use Rattle.bl_open.proofs.InstallLemmas.{keeps_during}
use Rattle.bl_open.proofs.RestingLemmas.{reads_left}

-- a folder with other bytes under one name
with_bytes : Name → List ℕ → Folder → Folder
with_bytes at bytes folder name = cond (bytes_eq name at) (Some bytes) (folder name)

at_name : (at : Name) (bytes : List ℕ) (folder : Folder) → with_bytes at bytes folder at ≡ Some bytes
unfolding with_bytes
at_name at bytes folder = ap (λ b. cond b (Some bytes) (folder at)) ((bytes_eq-Decides at at).1 refl)

at_other : (at : Name) (bytes : List ℕ) (folder : Folder) (name : Name) → name ≢ at → with_bytes at bytes folder name ≡ folder name
unfolding with_bytes
at_other at bytes folder name ne = by_test (bytes_eq name at) refl
  where
    by_test : (b : Bool) → bytes_eq name at ≡ b → cond b (Some bytes) (folder name) ≡ folder name
    by_test true e = absurd (ne ((bytes_eq-Decides name at).0 e))
    by_test false e = refl

left_with : (at : Name) (bytes : List ℕ) (disk : Disk) → ((name : Name) (x : File) → disk name ≡ Some x → IsRemnant x x.read) → IsLeft (disk at) (Some bytes)
    → (name : Name) → IsLeft (disk name) (with_bytes at bytes (folder_of disk) name)
unfolding with_bytes
left_with at bytes disk remnant here name = by_test (bytes_eq name at) refl
  where
    by_test : (b : Bool) → bytes_eq name at ≡ b → IsLeft (disk name) (cond b (Some bytes) (folder_of disk name))
    by_test true e = subst (λ (n : Name). IsLeft (disk n) (Some bytes)) (sym ((bytes_eq-Decides name at).0 e)) here
    by_test false e = reads_left (disk name) (remnant name)

-- the manifest of a folder reads as some edits, whose files are synced on the disk
pub record ReadsSynced (folder : Folder) (disk : Disk) (n : ℕ) : Type 0 where
  pub edits : Edits
  pub live : Restored
  pub reads_so : ReadsEdits folder n edits
  pub restores : restored_by edits ≡ Some live
  pub is_live : IsLive folder n live
  pub named : NamesSynced disk live

-- bytes that read as edits restore what the edits do
restores_of : (folder : Folder) (n : ℕ) (bytes : List ℕ) (edits : Edits) (live : Restored) → folder (manifest_name n) ≡ Some bytes → ReadsEdits folder n edits → restored_by edits ≡ Some live → restored (records bytes) ≡ Some live
unfolding restored
restores_of folder n bytes edits live there read restores =
    let same : bytes ≡ read.bytes = some_is (sym there ∙ read.there) in
    ap (λ b. restored (records b)) same ∙ ap (option_and_then restored_by) read.are ∙ restores

-- CURRENT, the tables and the blob files are as they were
pub record KeptNames (old new : Disk) : Type 0 where
  pub current : new (name_of Current) ≡ old (name_of Current)
  pub tables : (k : ℕ) → IsNumber k → new (name_of (Table k)) ≡ old (name_of (Table k))
  pub blobs : (k : ℕ) → IsNumber k → new (name_of (Blob k)) ≡ old (name_of (Blob k))

named_same : (old new : Disk) (live : Restored) → IsVersion live.version → KeptNames old new → NamesSynced old live → NamesSynced new live
named_same old new live v same named = record {
  tables = all_both _ _ _ live.version.tables (λ t fits synced. synced_same old new (Table t.number) (same.tables t.number (fits_number t fits)) synced) v.tables_fit named.tables;
  blobs = all_both _ _ _ live.version.blobs (λ b fits synced. synced_same old new (Blob b.number) (same.blobs b.number (from_test b.number fits)) synced) v.blobs_fit named.blobs;
}

module _ (names : NamesOne) (appends : CutAppendsReadAsFronts) (versions : LiveIsVersion) (maps : Maps) (s : Steady) (e : Edit) (h : Holding) (before below : ℕ) (disk new : Disk) (t : IsSteady maps s disk)
    (open_ : s.manifest.failed ≡ false) (back : AreReadBack (e ∷ [])) (i : Installs maps s e h before below disk)
    (partly : DoneOrNot (AppendsPartly (manifest_name s.manifest.number) (record_bytes s.manifest.place e)) disk new) where
  others : KeptNames disk new
  others =
      let same = elsewhere names (Manifest s.manifest.number) disk new t.number (keeps_during (manifest_name s.manifest.number) (record_bytes s.manifest.place e) disk new partly) in
      record { current = same Current tt (λ x. cc x); tables = λ k has. same (Table k) has (λ x. cc x); blobs = λ k has. same (Blob k) has (λ x. cc x) }

  current_synced : IsSynced new Current
  current_synced = synced_same disk new Current others.current t.current_synced

  current_reads : file (folder_of new) Current ≡ Some (current_text s.manifest.number)
  current_reads = reads new Current current_synced ∙ ap written_in others.current ∙ t.current

  read_of : (c : Cut) → IsCut new [] c → file c.folder Current ≡ Some (current_text s.manifest.number) → IsOnlyWritten c.folder c.written (Manifest s.manifest.number) → ReadsSynced c.folder new s.manifest.number
  read_of c cut current only = elim (appends disk new s.manifest s.edits (length s.edits) e [] c open_ t.edits back partly cut only) [
    | inl without ↦
        let live = live_from c.folder s.manifest.number s.edits s.holding.live t.number current without t.restores in
        record {
          edits = s.edits;
          live = s.holding.live;
          reads_so = without;
          restores = t.restores;
          is_live = live;
          named = named_same disk new s.holding.live (versions c.folder s.manifest.number s.holding.live live) others t.backed.files.named;
        }
    | inr with_it ↦
        let live = live_from c.folder s.manifest.number (s.edits ++ e ∷ []) h.live t.number current with_it i.restores in
        record {
          edits = s.edits ++ e ∷ [];
          live = h.live;
          reads_so = with_it;
          restores = i.restores;
          is_live = live;
          named = named_same disk new h.live (versions c.folder s.manifest.number h.live live) others i.backed.files.named;
        }
  ]

  pub settled_so : ((name : Name) (x : File) → new name ≡ Some x → IsRemnant x x.read) → NoChanceMatch (folder_of new) (written_of new) → IsLiveSettled new
  settled_so remnant chance =
      let now : Cut = record { folder = folder_of new; told = []; written = written_of new } in
      let found = read_of now (record { image = λ name. reads_left (new name) (remnant name); told_is = refl; written_is = λ name. refl }) current_reads (chance.manifests s.manifest.number t.number) in
      record {
        manifest = s.manifest.number;
        live = found.live;
        is_live = found.is_live;
        current = current_synced;
        named = found.named;
        torn = λ x bytes there may.
            let at = manifest_name s.manifest.number in
            let left : Cut = record { folder = with_bytes at bytes (folder_of new); told = []; written = written_of new } in
            let here : IsLeft (new at) (Some bytes) = subst (λ (o : Option File). IsLeft o (Some bytes)) (sym there) may.remnant in
            let only : IsOnlyWritten left.folder left.written (Manifest s.manifest.number) =
            λ other is. (
              x.front ++ x.handed,
              ap written_in there,
              subst (λ (b : List ℕ). OnlyWritten b (x.front ++ x.handed)) (some_is (sym (at_name at bytes (folder_of new)) ∙ is)) may.written,
            ) in
            let current : file left.folder Current ≡ Some (current_text s.manifest.number) =
            at_other at bytes (folder_of new) (name_of Current) (apart names Current (Manifest s.manifest.number) tt t.number (λ y. cc y)) ∙ current_reads in
            let f = read_of left (record { image = left_with at bytes new remnant here; told_is = refl; written_is = λ name. refl }) current only in
            record { live = f.live; restores = restores_of left.folder s.manifest.number bytes f.edits f.live (at_name at bytes (folder_of new)) f.reads_so f.restores; synced = f.named };
      }

pub torn_installs_are_settled : NamesOne → CutAppendsReadAsFronts → LiveIsVersion → TornInstallsAreSettled
torn_installs_are_settled names appends versions maps s e h before below disk new t open_ back i partly remnant chance =
    inr (settled_so names appends versions maps s e h before below disk new t open_ back i partly remnant chance)
