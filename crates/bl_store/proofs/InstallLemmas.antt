-- An edit is appended to the manifest of a store.
use Rattle.std.proofs.Common.{◌≡◌, ◌⊎◌, inl, inr, ℕ, ◌+◌, Bool, true, false, List, [], ◌∷◌, ◌++◌, length, refl, sym, ◌∙◌, ap, subst, Some, Result, Ok, Err, OnOk, OnErr, IsErrOf}
use Rattle.std.specs.Prelude.{IfErr}
use Rattle.bl_site.specs.Disk.{Name, File, Disk, Cut, IsRemnant, MayLeave, folder_of, written_of}
use Rattle.bl_site.specs.Calls.{Appends, DoneOrNot, Elapses, LeavesOnly}
use Rattle.bl_site.specs.declared.site.Site.{Ghosts}
use Rattle.bl_site.proofs.Moments.{started, goes_on, cut_of_only}
use Rattle.bl_names.specs.declared.name.FileName.TheVariants.{Manifest}
use Rattle.bl_names.specs.Names.{IsNumber, NamesOne, manifest_name}
use Rattle.bl_edit.specs.declared.edit.Edit.{Edit}
use Rattle.bl_records.specs.Causes.{IsCause}
use Rattle.bl_records.specs.Chance.{NoChanceMatch}
use Rattle.bl_records.specs.Writing.{AppendsPartly, AppendsSynced, Tears}
use Rattle.bl_manifest.specs.ManifestFile.{ManifestFile, record_bytes as edit_record, behind as manifest_behind}
use Rattle.bl_manifest.specs.Held.{Edits, AreReadBack, HoldsEdits, HoldsOneMore as HoldsOneEdit}
use Rattle.bl_manifest.specs.declared.error.ManifestErr.{ManifestErr}
use Rattle.bl_manifest.specs.declared.error.ManifestErr.TheVariants.{Disk as ManifestDisk, OutOfMemory as ManifestMemory}
use Rattle.bl_folder.specs.Settled.{IsSettled}
use Rattle.bl_folder.specs.Holding.{Holding}
use Rattle.bl_open.proofs.FrameLemmas.{same_edits}
use Rattle.bl_open.specs.Steady.{Maps, Steady, IsSteady, durable, accepted}
use Rattle.bl_open.specs.SteadyCalls.{Installs, KeepsAllBut, installed}
use Rattle.bl_open.specs.SteadyCuts.{LeavesMap}
use Rattle.bl_open.specs.SteadyLaws.{CutsOfInstalling, CutsOfSteady, InstallsKeepSteady, SteadyAreSettled, TornInstallsAreSettled}
use Rattle.bl_open.specs.Synced.{AreFilesBelow, as_synced}
use Rattle.bl_store.proofs.SyncedLemmas.{keeps_synced, unsynced_at}

-- once it is there and synced, the disk is steady with what was installed
pub install_after : InstallsKeepSteady → (maps : Maps) (s : Steady) (e : Edit) (h : Holding) (before below : ℕ) (manifest next : ManifestFile) (old new : Disk) (bytes : List ℕ)
    → IsSteady maps s old → s.manifest ≡ manifest → Installs maps s e h before below old → next.number ≡ manifest.number → AppendsSynced (manifest_name manifest.number) bytes old new
    → HoldsEdits new next (s.edits ++ e ∷ []) (length s.edits + 1) → IsSteady maps (installed s e h before below next) new
install_after law maps s e h before below manifest next old new bytes t is i number appended holds =
    law maps s e h before below next old new t i (number ∙ ap (λ (m : ManifestFile). m.number) (sym is)) (subst (λ (m : ManifestFile). KeepsAllBut (manifest_name m.number) old new) (sym is) appended.puts.others) holds

-- so it is as if tables and blob files had been synced
module _ (one : NamesOne) (law : InstallsKeepSteady) (names : List Name) (from : ℕ) (below_ : AreFilesBelow from names) (maps : Maps) (s : Steady) (e : Edit) (h : Holding) (before below : ℕ) (manifest next : ManifestFile) (old new : Disk) (bytes : List ℕ)
    (is_number : IsNumber manifest.number) (t : IsSteady maps s (as_synced names old)) (is : s.manifest ≡ manifest) (i : Installs maps s e h before below (as_synced names old)) (number : next.number ≡ manifest.number)
    (appended : AppendsSynced (manifest_name manifest.number) bytes old new) where
  manifest_there : HoldsEdits old manifest s.edits (length s.edits)
  manifest_there =
      same_edits (as_synced names old) old manifest s.edits (length s.edits) (sym (unsynced_at one from names old (Manifest manifest.number) below_ is_number tt))
      (subst (λ (m : ManifestFile). HoldsEdits (as_synced names old) m s.edits (length s.edits)) is t.edits)

  pub install_as_synced : ((edits : Edits) (synced : ℕ) → HoldsEdits old manifest edits synced → HoldsEdits new next (edits ++ e ∷ []) (length edits + 1)) → IsSteady maps (installed s e h before below next) (as_synced names new)
  install_as_synced holds =
      law maps s e h before below next (as_synced names old) (as_synced names new) t i (number ∙ ap (λ (m : ManifestFile). m.number) (sym is))
      (subst (λ (m : ManifestFile). KeepsAllBut (manifest_name m.number) (as_synced names old) (as_synced names new)) (sym is) (keeps_synced names (manifest_name manifest.number) old new appended.puts.others))
      (same_edits new (as_synced names new) next (s.edits ++ e ∷ []) (length s.edits + 1) (unsynced_at one from names new (Manifest next.number) below_ (subst IsNumber (sym number) is_number) tt)
      (holds s.edits (length s.edits) manifest_there))

-- the record reads back, or nothing was done
pub read_back : {E X Y : Type 0} (result : Result (Unit {0}) E) (failed : Bool) → OnOk result X → (failed ≡ true → X) → OnErr result (failed ≡ false → Y) → X ⊎ Y
read_back (Ok x) failed reads asked stays = inl reads
read_back (Err e) true reads asked stays = inl (asked refl)
read_back (Err e) false reads asked stays = inr (stays refl)

-- what was appended to the manifest, if anything
torn_partly : (name : Name) (bytes : List ℕ) (old new : Disk) → Tears name bytes old new → AppendsPartly name bytes old new
torn_partly name bytes old new x = record { file = x.file; was = x.was; now = record { read = x.file.front ++ x.tail; front = x.file.front; handed = x.file.handed ++ bytes }; puts = x.puts; written = inl (refl, refl) }

appended_partly : (name : Name) (bytes : List ℕ) (old new : Disk) → DoneOrNot (Appends name bytes bytes) old new → DoneOrNot (AppendsPartly name bytes) old new
appended_partly name bytes old new (inl same) = inl same
appended_partly name bytes old new (inr x) = inr (record { file = x.file; was = x.was; now = record { read = x.file.read ++ bytes; front = x.file.front; handed = x.file.handed ++ bytes }; puts = x.puts; written = inl (refl, refl) })

-- whatever was answered, the disk is settled
pub install_settled : SteadyAreSettled → TornInstallsAreSettled → InstallsKeepSteady → (maps : Maps) (s : Steady) (e : Edit) (h : Holding) (before below : ℕ) (manifest next : ManifestFile) (old new : Disk)
    (result : Result (Unit {0}) ManifestErr) → IsSteady maps s old → s.manifest ≡ manifest → manifest.failed ≡ false → Installs maps s e h before below old → next.number ≡ manifest.number
    → OnOk result (AppendsSynced (manifest_name manifest.number) (edit_record manifest.place e) old new)
    → ((edits : Edits) (synced : ℕ) → HoldsEdits old manifest edits synced → HoldsOneEdit result new next edits e synced)
    → OnOk result (next ≡ manifest_behind manifest (edit_record manifest.place e)) → (IsErrOf result ManifestDisk → Tears (manifest_name manifest.number) (edit_record manifest.place e) old new)
    → (IsErrOf result ManifestMemory → DoneOrNot (Appends (manifest_name manifest.number) (edit_record manifest.place e) (edit_record manifest.place e)) old new)
    → (IsErrOf result ManifestDisk → next.failed ≡ true) → (next.failed ≡ true → AreReadBack (e ∷ [])) → OnErr result (next.failed ≡ false → new ≡ old) → IfErr result (IsCause ManifestDisk ManifestMemory)
    → ((name : Name) (x : File) → new name ≡ Some x → IsRemnant x x.read) → NoChanceMatch (folder_of new) (written_of new) → IsSettled new
install_settled settled torn_law keep maps s e h before below manifest next old new (Ok x) t is open_ i number appended holds moved torn memory disk_fails reads_asked stays causes remnant chance =
    settled maps (installed s e h before below next) new (install_after keep maps s e h before below manifest next old new (edit_record manifest.place e) t is i number appended (holds s.edits (length s.edits) (subst (λ (m : ManifestFile). HoldsEdits old m s.edits (length s.edits)) is t.edits)))
    (ap (λ (m : ManifestFile). m.failed) moved ∙ open_)
install_settled settled torn_law keep maps s e h before below manifest next old new (Err f) t is open_ i number appended holds moved torn memory disk_fails reads_asked stays causes remnant chance =
    by_flag next.failed refl
  where
    unfailed : s.manifest.failed ≡ false
    unfailed = ap (λ (m : ManifestFile). m.failed) is ∙ open_

    partly : DoneOrNot (AppendsPartly (manifest_name manifest.number) (edit_record manifest.place e)) old new
    partly = elim causes [
      | inl d ↦ inr (torn_partly (manifest_name manifest.number) (edit_record manifest.place e) old new (torn (ap Err d)))
      | inr m ↦ appended_partly (manifest_name manifest.number) (edit_record manifest.place e) old new (memory (ap Err m))
    ]

    by_flag : (b : Bool) → next.failed ≡ b → IsSettled new
    by_flag true is_true = torn_law maps s e h before below old new t unfailed (reads_asked is_true) i
        (subst (λ (m : ManifestFile). DoneOrNot (AppendsPartly (manifest_name m.number) (edit_record m.place e)) old new) (sym is) partly) remnant chance
    by_flag false is_false = settled maps s new (subst (λ (d : Disk). IsSteady maps s d) (sym (stays is_false)) t) unfailed

-- ---- what a cut leaves meanwhile

module _ {D : Type 0} (g : Ghosts D) (cuts : CutsOfSteady) (maps : Maps) (s : Steady) (old : D) (now : (c : Cut) → g.left_since old (g.clock old) c → MayLeave (g.may_be old) (g.told old) c)
    (only : (other : Disk) → g.may_be old other → other ≡ g.disk old) (t : IsSteady maps s (g.disk old)) where
  pub steady_start : LeavesOnly g.clock g.left_since old old (LeavesMap maps (durable s) (accepted s) (g.told old))
  steady_start = started g.clock g.left_since old (LeavesMap maps (durable s) (accepted s) (g.told old)) (λ c left. cuts maps s (g.disk old) (g.told old) c t (cut_of_only (g.may_be old) (g.disk old) (g.told old) c only (now c left)))

  pub stands_still : (new : D) → new ≡ old → LeavesOnly g.clock g.left_since old new (LeavesMap maps (durable s) (accepted s) (g.told old))
  stands_still new same = subst (λ (d : D). LeavesOnly g.clock g.left_since old d (LeavesMap maps (durable s) (accepted s) (g.told old))) (sym same) steady_start

  pub install_step : CutsOfInstalling → (e : Edit) (h : Holding) (before below : ℕ) (manifest : ManifestFile) (new : D) → s.manifest ≡ manifest → manifest.failed ≡ false → AreReadBack (e ∷ []) → Installs maps s e h before below (g.disk old)
      → Elapses (g.clock old) (g.clock new) (g.left_since old) (g.left_since new) (MayLeave (DoneOrNot (AppendsPartly (manifest_name manifest.number) (edit_record manifest.place e)) (g.disk old)) (g.told old))
      → LeavesOnly g.clock g.left_since old new (LeavesMap maps (durable s) (accepted s) (g.told old))
  install_step installs e h before below manifest new is open_ back i time =
      goes_on g.clock g.left_since old old new (LeavesMap maps (durable s) (accepted s) (g.told old)) _ steady_start time
      (λ c may. installs maps s e h before below (g.disk old) may.disk (g.told old) c t (ap (λ (m : ManifestFile). m.failed) is ∙ open_) back i
      (subst (λ (m : ManifestFile). DoneOrNot (AppendsPartly (manifest_name m.number) (edit_record m.place e)) (g.disk old) may.disk) (sym is) may.possible) may.is_cut)
