-- Disks at rest, as what was found.
use Rattle.std.proofs.Common.{◌≡◌, ◌≢◌, ℕ, ◌<◌, refl, sym, ◌∙◌, ap, subst, arith, Option, Some, None, List, [], ◌∷◌, map, inl, inr}
use Rattle.std.specs.List.{AllByRecursion}
use Rattle.bl_edit.specs.declared.edit.NewTable.{NewTable}
use Rattle.bl_build.specs.declared.meta.BlobMeta.{BlobMeta}
use Rattle.bl_entry.proofs.ItemLemmas.{all_of_map}
use Rattle.std.specs.Option.{option_map}
use Rattle.bl_site.specs.Disk.{Folder, Disk, File, Name, folder_of}
use Rattle.bl_site.specs.Calls.{Creates}
use Rattle.bl_names.specs.declared.name.FileName.{FileName}
use Rattle.bl_names.specs.declared.name.FileName.TheVariants.{Current, Manifest, Log, Table, Blob, Temp}
use Rattle.bl_names.specs.Names.{HasNumber, IsNumber, NamesOne, current_text, name_of}
use Rattle.bl_entry.specs.Revisions.{Map}
use Rattle.bl_build.specs.Restoring.{Restored}
use Rattle.bl_out.specs.Files.{file}
use Rattle.bl_folder.specs.Live.{IsFresh, IsLive}
use Rattle.bl_folder.specs.Needed.{IsNeeded}
use Rattle.bl_folder.specs.Quiet.{NoneIsNeeded, QuietCutsAreLike, QuietCutsKeepNeeded}
use Rattle.bl_out.specs.Quiet.{IsNoneOf}
use Rattle.bl_build.specs.Versions.{IsVersion}
use Rattle.bl_edit.specs.Bounds.{is_number}
use Rattle.bl_folder.proofs.Finding.{by_number, from_test}
use Rattle.bl_open.proofs.RestingLemmas.{fresh_left, left_for, whole_but}
use Rattle.std.specs.Prelude.{unwrap_or}
use Rattle.bl_folder.specs.Laws.{CutsOfSynced, Frame, LiveIsOne, LiveIsVersion, SyncedAreSettled}
use Rattle.bl_open.specs.SteadyCalls.{IsAtRest, IsLoose, IsSpare, KeepsAllBut, Rests}
use Rattle.bl_open.specs.SteadyLaws.{CutsOfRest, NewLogsKeepRest, QuietKeepsRest, SettledRest, SparesKeepRest}
use Rattle.bl_folder.specs.Flushes.{IsBelow}
use Rattle.bl_open.proofs.FrameLemmas.{apart, contains_all, needed_number, synced_same}
use Rattle.bl_open.specs.Found.{Found, IsFoundAs, IsFrom, IsSpareFor, IsSpareName, RestsAs}
use Rattle.bl_open.specs.OpeningLaws.{CutsOfRestsAs, FreshRests, NewFilesStay, NewNumbersAreSpare, RestsAreSettled, RestsAreRests, SettledRestAs, SparesCut, SparesStay, SparesTouched}

-- CURRENT is absent, or names what was found
abbrev IsStill : Found → Folder → Type 0
IsStill None folder = file folder Current ≡ None
IsStill (Some found) folder = IsLive folder found.0 found.1

no_current : (folder : Folder) (manifest : ℕ) (live : Restored) → file folder Current ≡ None → IsLive folder manifest live → ⊥
no_current folder manifest live none l = let e : Some (current_text manifest) ≡ None = sym l.current ∙ none in cc e

rests_as : LiveIsOne → (found : Found) (m : Map) (disk : Disk) → IsStill found (folder_of disk) → Rests m disk → RestsAs found m disk
rests_as one None m disk still (inl r) = r
rests_as one None m disk still (inr (manifest, live, rest)) = absurd (no_current (folder_of disk) manifest live still rest.is_live)
rests_as one (Some found) m disk still (inl r) = absurd (no_current (folder_of disk) found.0 found.1 r.0.current still)
rests_as one (Some found) m disk still (inr (manifest, live, rest)) =
    let same = one (folder_of disk) manifest found.0 live found.1 rest.is_live still in
    subst (λ (k : ℕ). IsAtRest k found.1 m disk) same.0 (subst (λ (l : Restored). IsAtRest manifest l m disk) same.1 rest)

pub rests_of : RestsAreRests
rests_of None m disk r = inl r
rests_of (Some found) m disk r = inr (found.0, found.1, r)

still_of : (found : Found) (m : Map) (disk : Disk) → RestsAs found m disk → IsStill found (folder_of disk)
still_of None m disk r = r.0.current
still_of (Some found) m disk r = r.is_live

still_found : (found : Found) (folder : Folder) → IsFoundAs found folder → IsStill found folder
still_found None folder is = is.current
still_found (Some found) folder is = is

-- ---- another file

moved : NamesOne → (g f : FileName) (old new : Disk) → HasNumber g → HasNumber f → g ≢ f → KeepsAllBut (name_of f) old new → file (folder_of new) g ≡ file (folder_of old) g
moved names g f old new has_g has_f ne keeps = ap (λ (o : Option File). option_map (λ (x : File). x.read) o) (keeps (name_of g) (apart names g f has_g has_f ne))

-- neither CURRENT nor the manifest found
abbrev IsAway : Found → FileName → Type 0
IsAway None f = Current ≢ f
IsAway (Some found) f = (Current ≢ f) × (Manifest found.0 ≢ f)

still_then : NamesOne → (found : Found) (f : FileName) (old new : Disk) → HasNumber f → IsAway found f → KeepsAllBut (name_of f) old new → IsStill found (folder_of old) → IsStill found (folder_of new)
still_then names None f old new has away keeps s = moved names Current f old new tt has away keeps ∙ s
still_then names (Some found) f old new has away keeps s = record {
  number = s.number;
  current = moved names Current f old new tt has away.0 keeps ∙ s.current;
  bytes = s.bytes;
  there = moved names (Manifest found.0) f old new s.number has away.1 keeps ∙ s.there;
  restores = s.restores;
}

spare_away : (found : Found) (f : FileName) → IsSpareFor found f → IsAway found f
spare_away None f loose = λ e. subst IsLoose (sym e) loose
spare_away (Some found) f spare = (
  λ e. spare (subst (λ (g : FileName). IsNeeded found.0 found.1 g) e tt),
  λ e. spare (subst (λ (g : FileName). IsNeeded found.0 found.1 g) e refl),
)

log_away : (found : Found) (n : ℕ) → IsAway found (Log n)
log_away None n = λ e. cc e
log_away (Some found) n = (λ e. cc e, λ e. cc e)

spare_in : LiveIsOne → (found : Found) (m : Map) (f : FileName) (disk : Disk) → IsSpareFor found f → RestsAs found m disk → IsSpare f disk
spare_in one None m f disk spare r = record { fresh = λ fresh. spare; live = λ manifest live l needed. no_current (folder_of disk) manifest live r.0.current l }
spare_in one (Some found) m f disk spare r = record {
  fresh = λ fresh. absurd (no_current (folder_of disk) found.0 found.1 fresh.current r.is_live);
  live = λ manifest live l needed.
      let same = one (folder_of disk) manifest found.0 live found.1 l r.is_live in
      spare (subst (λ (k : ℕ). IsNeeded k found.1 f) same.0 (subst (λ (x : Restored). IsNeeded manifest x f) same.1 needed));
}

pub spares_stay : NamesOne → LiveIsOne → SparesKeepRest → SparesStay
spares_stay names one spares found m f old new has spare keeps r =
    rests_as one found m new (still_then names found f old new has (spare_away found f spare) keeps (still_of found m old r))
    (spares m f old new has (spare_in one found m f old spare r) keeps (rests_of found m old r))

pub new_files_stay : NamesOne → LiveIsOne → SparesKeepRest → NewLogsKeepRest → NewFilesStay
new_files_stay names one spares logs found m f old new has (inl spare) made r = spares_stay names one spares found m f old new has spare made.others r
new_files_stay names one spares logs found m f old new has (inr (n, is_log, none)) made r =
    let is : IsNumber n = subst HasNumber is_log has in
    let made_log : Creates (name_of (Log n)) old new = subst (λ (g : FileName). Creates (name_of g) old new) is_log made in
    rests_as one found m new (still_then names found (Log n) old new is (log_away found n) made_log.others (still_of found m old r)) (logs m n old new is none made_log (rests_of found m old r))

pub settled_rest_as : LiveIsOne → SettledRest → SettledRestAs
settled_rest_as one law found m disk is settled stands past = rests_as one found m disk (still_found found (folder_of disk) is) (law m disk settled stands past)

pub fresh_rests : FreshRests
fresh_rests disk (inl s) fresh = (fresh, s.1, refl)
fresh_rests disk (inr s) fresh = absurd (no_current (folder_of disk) s.manifest s.live fresh.current s.is_live)

pub cuts_of : CutsOfRest → CutsOfRestsAs
cuts_of law None m disk told c r cut = inl (fresh_left disk told c cut r.0 r.1, r.2)
cuts_of law (Some found) m disk told c r cut = law found.0 found.1 m disk told c r cut

-- ---- other files, by their names

-- a needed file has none of the spare names
spare_none : NamesOne → (manifest : ℕ) (live : Restored) → IsNumber manifest → IsVersion live.version → (names : List Name) → AllByRecursion (IsSpareName (Some (manifest, live))) names → NoneIsNeeded names manifest live
spare_none one manifest live is v [] spare f needed = tt
spare_none one manifest live is v (n ∷ names) spare f needed = (
  λ e. spare.0.2 (subst (IsNeeded manifest live) (one n f spare.0.0 (needed_number manifest live is v f needed, e) spare.0.1) needed),
  spare_none one manifest live is v names spare.1 f needed,
)

-- in a fresh folder neither has a file that is not loose
loose_none : NamesOne → (names : List Name) → AllByRecursion (IsSpareName None) names → (f : FileName) → HasNumber f → (IsLoose f → ⊥) → IsNoneOf names (name_of f)
loose_none one [] spare f has kept = tt
loose_none one (n ∷ names) spare f has kept = (
  λ e. kept (subst IsLoose (sym (one n f spare.0.0 (has, e) spare.0.1)) spare.0.2),
  loose_none one names spare.1 f has kept,
)

-- a folder is fresh where another is, and all but loose files is as in that one
fresh_from : (old new : Folder) → IsFresh old → ((f : FileName) → HasNumber f → (IsLoose f → ⊥) → file new f ≡ file old f) → IsFresh new
fresh_from old new fresh same = record {
  current = same Current tt (λ l. l) ∙ fresh.current;
  tables = λ n is. same (Table n) is (λ l. l) ∙ fresh.tables n is;
  blobs = λ n is. same (Blob n) is (λ l. l) ∙ fresh.blobs n is;
  logs = λ n. by_number (is_number n) (λ t. ap (λ o. unwrap_or o []) (same (Log n) (from_test n t) (λ l. l))) ∙ fresh.logs n;
}

read_in : Option File → Option (List ℕ)
read_in o = option_map (λ (x : File). x.read) o

pub spares_touched : NamesOne → LiveIsVersion → QuietKeepsRest → SparesTouched
unfolding read_in
spares_touched one versions quiet None m names old new spare others r =
    let same : (f : FileName) → HasNumber f → (IsLoose f → ⊥) → new (name_of f) ≡ old (name_of f) = λ f has kept. others (name_of f) (loose_none one names spare f has kept) in
    (fresh_from (folder_of old) (folder_of new) r.0 (λ f has kept. ap read_in (same f has kept)), λ n is. synced_same old new (Log n) (same (Log n) is (λ l. l)) (r.1 n is), r.2)
spares_touched one versions quiet (Some found) m names old new spare others r =
    let v = versions (folder_of old) found.0 found.1 r.is_live in
    quiet found.0 found.1 m old new r (λ f needed. inl (others (name_of f) (spare_none one found.0 found.1 r.is_live.number v names spare f needed)))

pub spares_cut : NamesOne → LiveIsOne → LiveIsVersion → Frame → CutsOfSynced → QuietCutsAreLike → QuietCutsKeepNeeded → SparesCut
spares_cut one single versions frame cuts like keep None m names disk told c spare cut r =
    let l = like names disk told c cut in
    let left = fresh_left disk told l.cut l.is_cut r.0 r.1 in
    inl (fresh_from l.cut.folder c.folder left (λ f has kept. l.folder (name_of f) (loose_none one names spare f has kept)), r.2)
spares_cut one single versions frame cuts like keep (Some found) m names disk told c spare cut r =
    let l = like names disk told c cut in
    let v = versions (folder_of disk) found.0 found.1 r.is_live in
    let away = spare_none one found.0 found.1 r.is_live.number v names spare in
    let left = cuts disk told l.cut found.0 found.1 m r.is_live r.stands r.synced l.is_cut in
    let framed = frame l.cut.folder c.folder found.0 found.1 m left.0 left.1 (keep names disk told c found.0 found.1 away l) in
    left_for single found.0 found.1 m c framed.0 framed.1 (whole_but names disk told c found.0 found.1 away r.synced cut)

-- ---- settled

pub rests_are_settled : SyncedAreSettled → RestsAreSettled
rests_are_settled law m disk (inl r) = inl (r.0, r.1)
rests_are_settled law m disk (inr (manifest, live, r)) = law disk manifest live r.is_live r.synced

-- ---- numbers

drawn_away : (from manifest : ℕ) (live : Restored) (f : FileName) → (manifest < from) × IsBelow from live.version → IsFrom from f → IsNeeded manifest live f → ⊥
drawn_away from manifest live Current b is needed = is
drawn_away from manifest live (Manifest n) b is needed = let less = b.0 in omega (arith, less, is, needed)
drawn_away from manifest live (Log n) b is needed = is
drawn_away from manifest live (Table n) b is needed =
    let less : n < from = contains_all (λ k. k < from) (map (λ (t : NewTable). t.number) live.version.tables) n (all_of_map (λ (t : NewTable). t.number) (λ k. k < from) live.version.tables b.1.tables) needed in
    omega (arith, less, is)
drawn_away from manifest live (Blob n) b is needed =
    let less : n < from = contains_all (λ k. k < from) (map (λ (t : BlobMeta). t.number) live.version.blobs) n (all_of_map (λ (t : BlobMeta). t.number) (λ k. k < from) live.version.blobs b.1.blobs) needed in
    omega (arith, less, is)
drawn_away from manifest live (Temp n) b is needed = needed

pub new_numbers_are_spare : NewNumbersAreSpare
new_numbers_are_spare from None f b is = is
new_numbers_are_spare from (Some found) f b is = drawn_away from found.0 found.1 f b is
