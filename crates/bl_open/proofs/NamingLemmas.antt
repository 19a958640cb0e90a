-- The calls that make CURRENT name a manifest.
use Rattle.std.proofs.Common.{◌≡◌, ℕ, List, [], ◌∷◌, length, inr, refl, sym, ◌∙◌, ap, subst, false, None, Some}
use Rattle.std.specs.Option.{option_map}
use Rattle.bl_site.specs.Disk.{Name, Disk, File, Cut, IsCut, MayLeave}
use Rattle.bl_site.specs.Calls.{Renames, MayDuring, Elapses, LeavesOnly}
use Rattle.bl_site.specs.declared.site.Site.{Ghosts}
use Rattle.bl_site.proofs.Moments.{started, name_call, cut_of_only}
use Rattle.bl_names.specs.declared.name.FileName.TheVariants.{Current, Log, Manifest, Temp}
use Rattle.bl_names.specs.Names.{IsNumber, NamesOne, manifest_name, name_of, current_text}
use Rattle.bl_records.specs.Writing.{MakesSynced}
use Rattle.bl_folder.specs.Settled.{IsSynced, IsSyncedFile}
use Rattle.bl_entry.proofs.ItemLemmas.{some_is}
use Rattle.bl_open.specs.Steady.{Maps, Steady, accepted}
use Rattle.bl_open.specs.SteadyCalls.{HasText, IsReady}
use Rattle.bl_open.specs.SteadyCuts.{IsLeftFor, LeavesStanding}
use Rattle.bl_open.specs.SteadyLaws.{RenamesMakeSteady, SyncedAreLeft}
use Rattle.bl_open.specs.OpeningLaws.{CutsOfRestsAs}
use Rattle.bl_entry.specs.Revisions.{Map}
use Rattle.bl_open.specs.Installations.{HasCurrent, IsInstalled}
use Rattle.bl_site.specs.Disk.{folder_of}
use Rattle.std.specs.List.{AllByRecursion}
use Rattle.bl_build.specs.Restoring.{Restored, restored_by}
use Rattle.bl_wal.specs.LogFile.{log_name, new_log}
use Rattle.bl_wal.specs.Held.{HoldsBatches}
use Rattle.bl_manifest.specs.ManifestFile.{ManifestFile}
use Rattle.bl_manifest.specs.Held.{Edits, HoldsEdits, ReadsEdits}
use Rattle.bl_manifest.specs.Laws.{ManifestsAreRead}
use Rattle.bl_out.specs.Quiet.{TouchesOnly}
use Rattle.bl_out.proofs.QuietLemmas.{OthersStay, touches_more}
use Rattle.bl_open.specs.Found.{Found, IsLeftAs, IsSpareFor, IsSpareName, RestsAs}
use Rattle.bl_open.proofs.CutLemmas.{edits_synced, live_from}
use Rattle.bl_open.proofs.FrameLemmas.{apart, same_edits, same_held}

-- the text stands in the temporary file
pub has_text : (temp manifest : ℕ) (name : Name) (text : List ℕ) (old new : Disk) → name ≡ name_of (Temp temp) → text ≡ current_text manifest → MakesSynced name text old new → HasText temp manifest new
has_text temp manifest name text old new named is made = record {
  text = record { read = text; front = text; handed = [] };
  there = ap new (sym named) ∙ made.at;
  synced = record { handed = refl; front = refl };
  reads = is;
}

-- and then in CURRENT
pub has_current : NamesOne → (number : ℕ) → IsNumber number → (text : List ℕ) (old mid new : Disk) → text ≡ current_text number → MakesSynced (name_of (Temp number)) text old mid
    → Renames (name_of (Temp number)) (name_of Current) mid new → HasCurrent number new
has_current names number is text old mid new text_is made did =
    let there : new (name_of Current) ≡ Some (record { read = text; front = text; handed = [] }) = did.at ∙ made.at in
    record {
      text = ap (λ o. option_map (λ (x : File). x.read) o) there ∙ ap Some text_is;
      synced = λ x at. subst IsSyncedFile (some_is (sym there ∙ at)) (record { handed = refl; front = refl });
      gone = did.gone (apart names (Temp number) Current is tt (λ e. cc e));
    }

-- the rename, under the names that are passed
pub renames_so : (temp : ℕ) (from to : Name) (old new : Disk) → from ≡ name_of (Temp temp) → to ≡ name_of Current → Renames from to old new → Renames (name_of (Temp temp)) (name_of Current) old new
renames_so temp from to old new from_is to_is did = subst (λ (n : Name). Renames n (name_of Current) old new) from_is (subst (λ (n : Name). Renames from n old new) to_is did)

-- what stands behind the rename
left_as : (found : Found) (m : Map) (c : Cut) → IsLeftFor m c → IsLeftAs found m c
left_as None m c left = inr left
left_as (Some found) m c left = left

-- a cut meanwhile
module _ {D : Type 0} (g : Ghosts D) (cuts : CutsOfRestsAs) (renames : RenamesMakeSteady) (synced : SyncedAreLeft) where
  pub renamed : (maps : Maps) (s : Steady) (found : Found) (temp : ℕ) (from to : Name) (old new : D) → IsNumber temp → from ≡ name_of (Temp temp) → to ≡ name_of Current → RestsAs found (maps (accepted s)) (g.disk old) → IsReady maps s (g.disk old)
      → HasText temp s.manifest.number (g.disk old) → s.synced ≡ length s.own
      → ((c : Cut) → g.left_since old (g.clock old) c → MayLeave (g.may_be old) (g.told old) c) → ((other : Disk) → g.may_be old other → other ≡ g.disk old)
      → Elapses (g.clock old) (g.clock new) (g.left_since old) (g.left_since new) (MayLeave (MayDuring (Renames from to) (g.may_be old)) (g.told old))
      → LeavesOnly g.clock g.left_since old new (LeavesStanding (IsLeftAs found (maps (accepted s))) (g.told old))
  renamed maps s found temp from to old new is from_is to_is r ready text all now only time =
      let m = maps (accepted s) in
      let P : Cut → Type 0 = LeavesStanding (IsLeftAs found m) (g.told old) in
      let before : (c : Cut) → IsCut (g.disk old) (g.told old) c → P c = λ c cut. record { told_is = cut.told_is; left = cuts found m (g.disk old) (g.told old) c r cut } in
      name_call g.clock g.left_since g.disk g.told g.may_be (Renames from to) old old new P
      (started g.clock g.left_since old P (λ c left. before c (cut_of_only (g.may_be old) (g.disk old) (g.told old) c only (now c left)))) time only before
      (λ after c did cut.
      let done : Renames (name_of (Temp temp)) (name_of Current) (g.disk old) after = renames_so temp from to (g.disk old) after from_is to_is did in
      record { told_is = cut.told_is; left = left_as found m c (synced maps s after (g.told old) c (renames maps s temp (g.disk old) after ready is text done) all cut) })

-- ---- the names that are touched

-- a temporary file is never needed
pub temp_is_spare : (found : Found) (temp : ℕ) → IsSpareFor found (Temp temp)
temp_is_spare None temp = tt
temp_is_spare (Some found) temp = λ needed. needed

pub temp_name : (found : Found) (temp : ℕ) → IsNumber temp → (name : Name) → name ≡ name_of (Temp temp) → AllByRecursion (IsSpareName found) (name ∷ [])
temp_name found temp is name named = ((Temp temp, (is, named), temp_is_spare found temp), tt)

module _ {D : Type 0} (g : Ghosts D) (old new : D) where
  pub temp_touches : (name one two : Name) → name ≡ one → TouchesOnly g (name ∷ []) old new → TouchesOnly g (one ∷ two ∷ []) old new
  temp_touches name one two named touches = touches_more g (name ∷ []) (one ∷ two ∷ []) old new (λ other none. ((λ e. none.0 (sym named ∙ e)), tt)) touches

  pub both_touched : (from to one two : Name) → from ≡ one → to ≡ two → TouchesOnly g (from ∷ to ∷ []) old new → TouchesOnly g (one ∷ two ∷ []) old new
  both_touched from to one two from_is to_is touches = subst (λ n. TouchesOnly g (n ∷ two ∷ []) old new) from_is (subst (λ n. TouchesOnly g (from ∷ n ∷ []) old new) to_is touches)

  pub first_of_three : (one two three : Name) → TouchesOnly g (one ∷ []) old new → TouchesOnly g (one ∷ two ∷ three ∷ []) old new
  first_of_three one two three touches = touches_more g (one ∷ []) (one ∷ two ∷ three ∷ []) old new (λ other none. (none.0, tt)) touches

  pub last_of_three : (one two three : Name) → TouchesOnly g (two ∷ three ∷ []) old new → TouchesOnly g (one ∷ two ∷ three ∷ []) old new
  last_of_three one two three touches = touches_more g (two ∷ three ∷ []) (one ∷ two ∷ three ∷ []) old new (λ other none. none.1) touches

-- ---- other files stay

pub log_stays : NamesOne → (number log : ℕ) → IsNumber number → IsNumber log → (old new : Disk) → OthersStay (manifest_name number ∷ name_of (Temp number) ∷ name_of Current ∷ []) old new
    → HoldsBatches old (new_log log) [] 0 → HoldsBatches new (new_log log) [] 0
log_stays names number log is has old new others holds =
    same_held old new (new_log log) [] 0
    (others (log_name log) (apart names (Manifest number) (Log log) is has (λ e. cc e), (apart names (Temp number) (Log log) is has (λ e. cc e), (apart names Current (Log log) tt has (λ e. cc e), tt)))) holds

pub manifest_stays : NamesOne → (number : ℕ) → IsNumber number → (m : ManifestFile) (edits : Edits) (synced : ℕ) (old new : Disk) → m.number ≡ number → OthersStay (name_of (Temp number) ∷ name_of Current ∷ []) old new
    → HoldsEdits old m edits synced → HoldsEdits new m edits synced
manifest_stays names number is m edits synced old new number_is others holds =
    let same : new (manifest_name number) ≡ old (manifest_name number) = others (manifest_name number) (apart names (Temp number) (Manifest number) is is (λ e. cc e), (apart names Current (Manifest number) tt is (λ e. cc e), tt)) in
    same_edits old new m edits synced (subst (λ (n : ℕ). new (manifest_name n) ≡ old (manifest_name n)) (sym number_is) same) holds

-- CURRENT is no temporary file, and no manifest
pub current_apart : NamesOne → (number : ℕ) → IsNumber number → (name : Name) (old new : Disk) → name ≡ name_of (Temp number) → OthersStay (name ∷ []) old new → new (name_of Current) ≡ old (name_of Current)
current_apart names number is name old new named others = others (name_of Current) (λ e. apart names (Temp number) Current is tt (λ x. cc x) (sym named ∙ e), tt)

pub current_kept : NamesOne → (number : ℕ) → IsNumber number → (old new : Disk) → OthersStay (manifest_name number ∷ []) old new → new (name_of Current) ≡ old (name_of Current)
current_kept names number is old new others = others (name_of Current) (apart names (Manifest number) Current is tt (λ x. cc x), tt)

-- ---- what stands then

pub installed_so : ManifestsAreRead → (number : ℕ) (live : Restored) (m : ManifestFile) (edits : Edits) (disk : Disk) → IsNumber number → m.number ≡ number → m.failed ≡ false → HoldsEdits disk m edits (length edits)
    → restored_by edits ≡ Some live → HasCurrent number disk → IsInstalled number live disk
installed_so read number live m edits disk is number_is usable holds restores current =
    let reads : ReadsEdits (folder_of disk) number edits = subst (λ (n : ℕ). ReadsEdits (folder_of disk) n edits) number_is (read disk m edits (length edits) usable holds) in
    record {
      is_live = live_from (folder_of disk) number edits live is current.text reads restores;
      current = current;
      manifest = subst (λ (n : ℕ). IsSynced disk (Manifest n)) number_is (edits_synced disk m edits usable holds);
    }
