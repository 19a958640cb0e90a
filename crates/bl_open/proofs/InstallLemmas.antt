-- Installations, and CURRENT's rename.
use Rattle.std.proofs.Common.{◌≡◌, ◌≢◌, ℕ, ◌+◌, List, [], ◌∷◌, ◌++◌, length, Bool, true, false, refl, sym, ◌∙◌, ap, subst, arith, Some, inl, inr, append-nil, length-append}
use Rattle.std.specs.Prelude.{cond}
use Rattle.std.specs.Str.{bytes_eq}
use Rattle.std.proofs.lemmas.Slice.Eq.{bytes_eq-Decides}
use Rattle.bl_site.specs.Disk.{Name, Disk, File, written_of}
use Rattle.bl_site.specs.Calls.{DoneOrNot}
use Rattle.bl_names.specs.declared.name.FileName.{FileName}
use Rattle.bl_names.specs.declared.name.FileName.TheVariants.{Current, Manifest, Log, Table, Blob, Temp}
use Rattle.bl_names.specs.Names.{HasNumber, IsNumber, NamesOne, name_of, current_text, manifest_name}
use Rattle.bl_entry.specs.Records.{LastIsCounted}
use Rattle.bl_build.specs.Versions.{IsVersion}
use Rattle.bl_wal.specs.LogFile.{log_name}
use Rattle.bl_wal.specs.Laws.{CutLogsReadAsFronts, FrontsAreRead, LogsAreRead}
use Rattle.bl_manifest.specs.ManifestFile.{ManifestFile, record_bytes}
use Rattle.bl_records.specs.Writing.{AppendsPartly}
use Rattle.bl_manifest.specs.Held.{Edits, HoldsEdits}
use Rattle.bl_build.specs.Restoring.{Restored, restored_by}
use Rattle.bl_manifest.specs.Laws.{CutAppendsReadAsFronts, SyncedManifestsAreLeft}
use Rattle.bl_out.specs.Files.{file}
use Rattle.bl_folder.specs.Settled.{IsSyncedFile}
use Rattle.bl_folder.specs.Laws.{LiveIsVersion}
use Rattle.bl_open.specs.Steady.{Maps, Steady, IsBacked}
use Rattle.bl_open.specs.SteadyCalls.{KeepsAllBut, IsReady}
use Rattle.bl_open.specs.SteadyLaws.{CutsOfInstalling, InstallsKeepCounts, InstallsKeepSteady, RenamesMakeSteady, TempsKeepReady}
use Rattle.bl_open.proofs.CutLemmas.{leaves_first, live_from, stays}
use Rattle.bl_entry.proofs.ItemLemmas.{some_is}
use Rattle.bl_open.proofs.FrameLemmas.{same_edits, apart, backed_kept, cut_written, elsewhere, is_cut_written, kept_but, synced_same, written_in}

-- The version that edits restore is one. They are read of a folder in which CURRENT names the manifest.
pub ReadyIsVersion : Type 0
ReadyIsVersion = (maps : Maps) (s : Steady) (disk : Disk) → IsReady maps s disk → IsVersion s.holding.live.version

with_current : ℕ → Disk → Disk
with_current n disk name = cond (bytes_eq name (name_of Current)) (Some (record { read = current_text n; front = current_text n; handed = [] })) (disk name)

pub edits_are_version : NamesOne → SyncedManifestsAreLeft → LiveIsVersion → (disk : Disk) (m : ManifestFile) (edits : Edits) (live : Restored) → IsNumber m.number → HoldsEdits disk m edits (length edits)
    → restored_by edits ≡ Some live → IsVersion live.version
unfolding with_current
edits_are_version names left versions disk m edits live number holds restores =
    let n = m.number in
    let d : Disk = with_current n disk in
    let text : File = record { read = current_text n; front = current_text n; handed = [] } in
    let yes : bytes_eq (name_of Current) (name_of Current) ≡ true = (bytes_eq-Decides (name_of Current) (name_of Current)).1 refl in
    let current : file (written_of d) Current ≡ Some (current_text n) = ap (λ b. written_in (cond b (Some text) (disk (name_of Current)))) yes ∙ ap Some (append-nil (current_text n)) in
    let no : bytes_eq (manifest_name n) (name_of Current) ≡ false = not_same (manifest_name n) (name_of Current) (apart names (Manifest n) Current number tt (λ x. cc x)) in
    let there : d (manifest_name n) ≡ disk (manifest_name n) = ap (λ b. cond b (Some text) (disk (manifest_name n))) no in
    let held : HoldsEdits d m edits (length edits) = same_edits disk d m edits (length edits) there holds in
    versions (written_of d) n live (live_from (written_of d) n edits live number current (left d m edits [] (cut_written d) held (is_cut_written d)).1 restores)
  where
    by_test : (a b : Name) (t : Bool) → bytes_eq a b ≡ t → a ≢ b → t ≡ false
    by_test a b true e ne = absurd (ne ((bytes_eq-Decides a b).0 e))
    by_test a b false e ne = refl

    not_same : (a b : Name) → a ≢ b → bytes_eq a b ≡ false
    not_same a b ne = by_test a b (bytes_eq a b) refl ne

pub ready_is_version : NamesOne → SyncedManifestsAreLeft → LiveIsVersion → ReadyIsVersion
unfolding ReadyIsVersion
ready_is_version names left versions maps s disk r = edits_are_version names left versions disk s.manifest s.edits s.holding.live r.number r.edits r.restores

-- what is backed stays so where tables, blob files and logs are as they were
beside : LogsAreRead → (maps : Maps) (s : Steady) (old new : Disk) → IsVersion s.holding.live.version → ((n : ℕ) → IsNumber n → new (name_of (Table n)) ≡ old (name_of (Table n)))
    → ((n : ℕ) → IsNumber n → new (name_of (Blob n)) ≡ old (name_of (Blob n))) → ((n : ℕ) → IsNumber n → new (log_name n) ≡ old (log_name n)) → IsBacked maps s old → IsBacked maps s new
beside read maps s old new v tables blobs logs b = backed_kept read maps s old new b (kept_but s old new v tables blobs (λ n is ne. logs n is)) (logs s.log.number b.is_number)

-- so it is where the manifest alone has changed
beside_manifest : NamesOne → LogsAreRead → (maps : Maps) (s : Steady) (n : ℕ) (old new : Disk) → IsNumber n → KeepsAllBut (manifest_name n) old new → IsVersion s.holding.live.version → IsBacked maps s old → IsBacked maps s new
beside_manifest names read maps s n old new is keeps v b =
    let same = elsewhere names (Manifest n) old new is keeps in
    beside read maps s old new v (λ k has. same (Table k) has (λ e. cc e)) (λ k has. same (Blob k) has (λ e. cc e)) (λ k has. same (Log k) has (λ e. cc e)) b

-- while the append is made nothing else changes
pub keeps_during : (name : Name) (bytes : List ℕ) (disk during : Disk) → DoneOrNot (AppendsPartly name bytes) disk during → KeepsAllBut name disk during
keeps_during name bytes disk during (inl same) other ne = ap (λ (d : Disk). d other) same
keeps_during name bytes disk during (inr a) other ne = a.puts.others other ne

pub cuts_of_installing : NamesOne → LogsAreRead → FrontsAreRead → LastIsCounted → CutLogsReadAsFronts → CutAppendsReadAsFronts → SyncedManifestsAreLeft → LiveIsVersion → CutsOfInstalling
cuts_of_installing names read fronts counted cut_logs appends left versions maps s e h before below disk during told c t open_ back i partly cut = record {
  told_is = cut.told_is;
  stands = λ chance.
      let number = s.manifest.number in
      let keeps = keeps_during (manifest_name number) (record_bytes s.manifest.place e) disk during partly in
      let same = elsewhere names (Manifest number) disk during t.number keeps in
      let current_same : during (name_of Current) ≡ disk (name_of Current) = same Current tt (λ x. cc x) in
      let current : file c.folder Current ≡ Some (current_text number) =
      stays during told c cut Current (synced_same disk during Current current_same t.current_synced) ∙ ap written_in current_same ∙ t.current in
      elim (appends disk during s.manifest s.edits (length s.edits) e told c open_ t.edits back partly cut (chance.manifests number t.number)) [
        | inl without ↦
            let live = live_from c.folder number s.edits s.holding.live t.number current without t.restores in
            let b = beside_manifest names read maps s number disk during t.number keeps (versions c.folder number s.holding.live live) t.backed in
            leaves_first read fronts counted maps s during b told c cut cut_logs chance number live
        | inr with_it ↦
            let after : Steady = record s { holding = h; before = before; below = below } in
            let live = live_from c.folder number (s.edits ++ e ∷ []) h.live t.number current with_it i.restores in
            let b = beside_manifest names read maps after number disk during t.number keeps (versions c.folder number h.live live) i.backed in
            let found = leaves_first read fronts counted maps after during b told c cut cut_logs chance number live in
            let writes = i.writes in
            let was = t.backed.count in
            let is = i.backed.count in
            let least = found.1 in
            let most = found.2 in
            (found.0, omega (arith, writes, least), omega (arith, writes, was, is, most), found.3)
      ];
}

pub installs_keep_steady : NamesOne → LogsAreRead → SyncedManifestsAreLeft → LiveIsVersion → InstallsKeepSteady
installs_keep_steady names read left versions maps s e h before below manifest old new t i number keeps holds =
    let edits = s.edits ++ e ∷ [] in
    let same = elsewhere names (Manifest s.manifest.number) old new t.number keeps in
    let at_current : new (name_of Current) ≡ old (name_of Current) = same Current tt (λ x. cc x) in
    let is : IsNumber manifest.number = subst IsNumber (sym number) t.number in
    let current : file (written_of new) Current ≡ Some (current_text manifest.number) = ap written_in at_current ∙ t.current ∙ ap (λ n. Some (current_text n)) (sym number) in
    let all : length s.edits + 1 ≡ length edits = sym (length-append s.edits (e ∷ [])) in
    let held : HoldsEdits new manifest edits (length edits) = subst (λ (n : ℕ). HoldsEdits new manifest edits n) all holds in
    let live = live_from (written_of new) manifest.number edits h.live is current (left new manifest edits [] (cut_written new) held (is_cut_written new)).1 i.restores in
    let after : Steady = record s { holding = h; before = before; below = below } in
    let b = beside_manifest names read maps after s.manifest.number old new t.number keeps (versions (written_of new) manifest.number h.live live) i.backed in
    record {
      number = is;
      current = current;
      current_synced = synced_same old new Current at_current t.current_synced;
      edits = held;
      restores = i.restores;
      backed = record {
        files = b.files;
        batches = b.batches;
        is_number = b.is_number;
        needed = b.needed;
        in_use = b.in_use;
        count = b.count;
        others = b.others;
        last = b.last;
        makes = b.makes;
      };
    }

pub installs_keep_counts : InstallsKeepCounts
installs_keep_counts maps s e h before below manifest disk t i =
    let writes = i.writes in
    let was = t.backed.count in
    let is = i.backed.count in
    (omega (arith, writes), omega (arith, writes, was, is))

-- ---- CURRENT's rename

pub temps_keep_ready : NamesOne → LogsAreRead → ReadyIsVersion → TempsKeepReady
unfolding ReadyIsVersion
temps_keep_ready names read version maps s temp old new is keeps r =
    let same = elsewhere names (Temp temp) old new is keeps in
    record {
      number = r.number;
      edits = same_edits old new s.manifest s.edits (length s.edits) (same (Manifest s.manifest.number) r.number (λ x. cc x)) r.edits;
      restores = r.restores;
      backed = beside read maps s old new (version maps s old r) (λ n has. same (Table n) has (λ x. cc x)) (λ n has. same (Blob n) has (λ x. cc x)) (λ n has. same (Log n) has (λ x. cc x)) r.backed;
    }

pub renames_make_steady : NamesOne → LogsAreRead → ReadyIsVersion → RenamesMakeSteady
unfolding ReadyIsVersion
renames_make_steady names read version maps s temp old new p number t r =
    let same : (f : FileName) → HasNumber f → f ≢ Temp temp → f ≢ Current → new (name_of f) ≡ old (name_of f) =
    λ f has no_temp no_current. r.others (name_of f) (apart names f (Temp temp) has number no_temp) (apart names f Current has tt no_current) in
    let at_current : new (name_of Current) ≡ Some t.text = r.at ∙ t.there in
    record {
      number = p.number;
      current = ap written_in at_current ∙ ap Some (ap (λ h. t.text.front ++ h) t.synced.handed ∙ append-nil t.text.front ∙ t.synced.front ∙ t.reads);
      current_synced = λ x at. subst IsSyncedFile (some_is (sym at_current ∙ at)) t.synced;
      edits = same_edits old new s.manifest s.edits (length s.edits) (same (Manifest s.manifest.number) p.number (λ x. cc x) (λ x. cc x)) p.edits;
      restores = p.restores;
      backed = beside read maps s old new (version maps s old p) (λ n has. same (Table n) has (λ x. cc x) (λ x. cc x))
          (λ n has. same (Blob n) has (λ x. cc x) (λ x. cc x)) (λ n has. same (Log n) has (λ x. cc x) (λ x. cc x)) p.backed;
    }
