-- Folders whose needed files are synced.
use Rattle.std.proofs.Common.{◌≡◌, ◌≢◌, ℕ, ◌≤◌, List, [], map, Bool, true, false, cond, refl, sym, ◌∙◌, ap, subst, Option, Some, None, inl, inr}
use Rattle.std.proofs.lemmas.Bool.{false≢true}
use Rattle.bl_folder.proofs.Finding.{by_number, from_test}
use Rattle.bl_entry.proofs.ItemLemmas.{all_of_map, some_is}
use Rattle.bl_open.specs.SteadyCalls.{IsLoose}
use Rattle.std.specs.Prelude.{IsNone, is_some, unwrap_or}
use Rattle.std.specs.Option.{option_map}
use Rattle.bl_site.specs.Disk.{Folder, Disk, File, Name, Cut, IsCut, IsLeft, IsRemnant, folder_of}
use Rattle.bl_names.specs.declared.name.FileName.{FileName}
use Rattle.bl_names.specs.declared.name.FileName.TheVariants.{Current, Manifest, Log, Table, Blob, Temp}
use Rattle.bl_names.specs.Names.{IsNumber, NamesOne, current_text, name_of}
use Rattle.bl_edit.specs.Bounds.{is_number}
use Rattle.bl_build.specs.Restoring.{Restored}
use Rattle.bl_edit.specs.declared.edit.NewTable.{NewTable}
use Rattle.bl_build.specs.declared.meta.BlobMeta.{BlobMeta}
use Rattle.bl_wal.specs.LogFile.{log_name}
use Rattle.bl_out.specs.Files.{file}
use Rattle.bl_folder.specs.Files.{log_bytes}
use Rattle.bl_folder.specs.Needed.{IsNeeded, KeepsNeeded}
use Rattle.bl_folder.specs.Settled.{IsSynced, IsSyncedFile, NamesSynced, NeededAreSynced}
use Rattle.bl_folder.specs.Live.{IsFresh, IsLive, MayBeFresh}
use Rattle.bl_folder.specs.Laws.{CutsOfSynced, Frame, FreshStays, LiveIsOne, LiveIsVersion}
use Rattle.bl_folder.specs.Quiet.{NoneIsNeeded}
use Rattle.bl_folder.specs.Stands.{Stands}
use Rattle.bl_out.specs.Quiet.{IsCutBut}
use Rattle.bl_entry.specs.Revisions.{Map}
use Rattle.bl_open.specs.SteadyLaws.{CutsOfRest, CutsOfResting, NewLogsKeepRest, QuietKeepsRest, ReadsAreCuts, SettledRest, SparesKeepRest, TempsKeepRest}
use Rattle.bl_open.specs.SteadyCuts.{AreLeftWhole, IsLeftFor}
use Rattle.bl_open.proofs.CutLemmas.{left_written, reads, stays}
use Rattle.bl_open.proofs.FrameLemmas.{by_case, contains_all, elsewhere, needed_number, synced_same}

absent_left : (o : Option File) (p : Option (List ℕ)) → IsLeft o p → IsNone (option_map (λ x. x.read) o) → p ≡ None
absent_left None None l none = refl
absent_left None (Some bytes) l none = absurd l
absent_left (Some x) p l none = absurd cc

log_none : (folder : Folder) (n : ℕ) → file folder (Log n) ≡ None → log_bytes folder n ≡ []
log_none folder n e = ap (λ o. cond (is_number n) (unwrap_or o []) []) e ∙ either (is_number n)
  where
    either : (b : Bool) → ◌≡◌ {A = List ℕ} (cond b [] []) []
    either true = refl
    either false = refl

-- a live part that stands for the map, its needed logs left whole
pub left_for : LiveIsOne → (manifest : ℕ) (live : Restored) (m : Map) (c : Cut) → IsLive c.folder manifest live → Stands c.folder m → AreLeftWhole live.standing.log_number c → IsLeftFor m c
left_for one manifest live m c is (inl fresh) whole = absurd (let e : Some (current_text manifest) ≡ None = sym is.current ∙ fresh.0.current in cc e)
left_for one manifest live m c is (inr stands) whole =
    let same : live ≡ stands.holding.live = (one c.folder manifest stands.manifest live stands.holding.live is stands.holds.live).1 in
    record { stands = stands; whole = subst (λ (l : Restored). AreLeftWhole l.standing.log_number c) same whole }

-- where all needed files are synced, needed logs are left whole,
whole_rest : (disk : Disk) (told : List ℕ) (c : Cut) (manifest : ℕ) (live : Restored) → NeededAreSynced disk manifest live → IsCut disk told c → AreLeftWhole live.standing.log_number c
whole_rest disk told c manifest live synced cut lower upper is le less has bytes =
    stays disk told c cut (Log lower) (synced (Log lower) (is, le)) ∙ sym (cut.written_is (log_name lower))

-- also while other files change
pub whole_but : (names : List Name) (disk : Disk) (told : List ℕ) (c : Cut) (manifest : ℕ) (live : Restored) → NoneIsNeeded names manifest live → NeededAreSynced disk manifest live → IsCutBut names disk told c
    → AreLeftWhole live.standing.log_number c
whole_but names disk told c manifest live away synced cut lower upper is le less has bytes =
    let none = away (Log lower) (is, le) in
    left_written (disk (log_name lower)) (c.folder (log_name lower)) (cut.image (log_name lower) none) (synced (Log lower) (is, le)) ∙ sym (cut.written_is (log_name lower) none)

pub cuts_of_rest : LiveIsOne → CutsOfSynced → CutsOfRest
cuts_of_rest one cuts manifest live m disk told c t cut =
    let left = cuts disk told c manifest live m t.is_live t.stands t.synced cut in
    left_for one manifest live m c left.0 left.1 (whole_rest disk told c manifest live t.synced cut)

abbrev read_in : Option File → Option (List ℕ)
read_in o = option_map (λ (x : File). x.read) o

empty_log : (folder : Folder) (n : ℕ) → file folder (Log n) ≡ Some [] → log_bytes folder n ≡ []
empty_log folder n e = ap (λ o. cond (is_number n) (unwrap_or o []) []) e ∙ either (is_number n)
  where
    either : (b : Bool) → ◌≡◌ {A = List ℕ} (cond b [] []) []
    either true = refl
    either false = refl

log_of_bytes : (F G : Folder) (n : ℕ) → (is_number n ≡ true → file F (Log n) ≡ file G (Log n)) → log_bytes F n ≡ log_bytes G n
log_of_bytes F G n same = by_number (is_number n) (λ t. ap (λ o. unwrap_or o []) (same t))

none_is : {A : Type 0} (o : Option A) → IsNone o → o ≡ None
none_is None e = refl
none_is (Some x) e = absurd cc

pub quiet_keeps_rest : Frame → QuietKeepsRest
quiet_keeps_rest frame manifest live m old new t keeps =
    let kept : KeepsNeeded manifest live (folder_of old) (folder_of new) = record {
      same = λ f needed there. elim (keeps f needed) [
        | inl same ↦ ap read_in same
        | inr made ↦ absurd (let gone : None ≡ folder_of old (name_of f) = sym (ap read_in made.absent) in false≢true (ap is_some gone ∙ there))
      ];
      further = λ n le none. decide n le none (is_number n) refl;
    } in
    let both = frame (folder_of old) (folder_of new) manifest live m t.is_live t.stands kept in
    record {
      is_live = both.0;
      stands = both.1;
      synced = λ f needed x at. elim (keeps f needed) [
        | inl same ↦ t.synced f needed x (sym same ∙ at)
        | inr made ↦ subst IsSyncedFile (some_is (sym made.empty ∙ at)) (record { handed = refl; front = refl })
      ];
    }
  where
    decide : (n : ℕ) → live.standing.log_number ≤ n → IsNone (file (folder_of old) (Log n)) → (b : Bool) → is_number n ≡ b → log_bytes (folder_of new) n ≡ []
    decide n le none false e = ap (λ b. cond b (unwrap_or (file (folder_of new) (Log n)) []) []) e
    decide n le none true e = elim (keeps (Log n) (from_test n e, le)) [
      | inl same ↦ log_none (folder_of new) n (ap read_in same ∙ none_is (file (folder_of old) (Log n)) none)
      | inr made ↦ empty_log (folder_of new) n (ap read_in made.empty)
    ]

-- ---- a fresh folder, or one at rest

none_of : (o : Option (List ℕ)) → o ≡ None → IsNone o
none_of None e = refl
none_of (Some x) e = absurd cc

module _ (disk : Disk) (told : List ℕ) (c : Cut) (cut : IsCut disk told c) where
  stays_away : (f : FileName) → file (folder_of disk) f ≡ None → file c.folder f ≡ None
  stays_away f e = absent_left (disk (name_of f)) (c.folder (name_of f)) (cut.image (name_of f)) (none_of (file (folder_of disk) f) e)

  -- a cut leaves a fresh folder whose logs are synced fresh
  pub fresh_left : IsFresh (folder_of disk) → ((n : ℕ) → IsNumber n → IsSynced disk (Log n)) → IsFresh c.folder
  fresh_left fresh synced = record {
    current = stays_away Current fresh.current;
    tables = λ n is. stays_away (Table n) (fresh.tables n is);
    blobs = λ n is. stays_away (Blob n) (fresh.blobs n is);
    logs = λ n. by_number (is_number n) (λ t. ap (λ o. unwrap_or o []) (stays disk told c cut (Log n) (synced n (from_test n t)) ∙ sym (reads disk (Log n) (synced n (from_test n t))))) ∙ fresh.logs n;
  }

pub cuts_of_resting : CutsOfRest → CutsOfResting
cuts_of_resting cuts m disk told c (inl fresh) cut = inl (fresh_left disk told c cut fresh.0 fresh.1, fresh.2)
cuts_of_resting cuts m disk told c (inr (manifest, live, rest)) cut = inr (cuts manifest live m disk told c rest cut).stands

loose_is_fresh : (f : FileName) (o : Option (List ℕ)) → IsLoose f → MayBeFresh f o
loose_is_fresh Current o l = absurd l
loose_is_fresh (Manifest n) o l = tt
loose_is_fresh (Log n) o l = absurd l
loose_is_fresh (Table n) o l = absurd l
loose_is_fresh (Blob n) o l = absurd l
loose_is_fresh (Temp n) o l = tt

loose_is_no_log : (f : FileName) (n : ℕ) → IsLoose f → Log n ≢ f
loose_is_no_log Current n l e = l
loose_is_no_log (Manifest m) n l e = cc e
loose_is_no_log (Log m) n l e = l
loose_is_no_log (Table m) n l e = l
loose_is_no_log (Blob m) n l e = l
loose_is_no_log (Temp m) n l e = cc e

pub spares_keep_rest : NamesOne → LiveIsVersion → QuietKeepsRest → FreshStays → SparesKeepRest
spares_keep_rest names versions quiet fresh_stays m f old new is spare keeps (inl fresh) =
    let loose = spare.fresh fresh.0 in
    let same = elsewhere names f old new is keeps in
    inl (
      fresh_stays (folder_of old) (folder_of new) (name_of f) fresh.0 (record {
        others = λ other ne. ap read_in (keeps other ne);
        quiet = λ g has at. let one : g ≡ f = names (name_of f) g f (has, sym at) (is, refl) in subst (λ (x : FileName). MayBeFresh x (folder_of new (name_of f))) (sym one) (loose_is_fresh f (folder_of new (name_of f)) loose);
      }),
      λ n has. synced_same old new (Log n) (same (Log n) has (loose_is_no_log f n loose)) (fresh.1 n has),
      fresh.2,
    )
spares_keep_rest names versions quiet fresh_stays m f old new is spare keeps (inr (manifest, live, rest)) =
    let v = versions (folder_of old) manifest live rest.is_live in
    inr (
      manifest,
      live,
      quiet manifest live m old new rest (λ g needed. inl (elsewhere names f old new is keeps g (needed_number manifest live rest.is_live.number v g needed)
          (λ e. spare.live manifest live rest.is_live (subst (λ (x : FileName). IsNeeded manifest live x) e needed)))),
    )

pub temps_keep_rest : SparesKeepRest → TempsKeepRest
temps_keep_rest spares m temp old new is keeps r = spares m (Temp temp) old new is (record { fresh = λ f. tt; live = λ manifest live l needed. needed }) keeps r

pub new_logs_keep_rest : NamesOne → LiveIsVersion → QuietKeepsRest → FreshStays → NewLogsKeepRest
new_logs_keep_rest names versions quiet fresh_stays m number old new is absent made (inl fresh) =
    inl (
      fresh_stays (folder_of old) (folder_of new) (log_name number) fresh.0 (record {
        others = λ other ne. ap read_in (made.others other ne);
        quiet = λ g has at. let one : g ≡ Log number = names (log_name number) g (Log number) (has, sym at) (is, refl) in
            subst (λ (x : FileName). MayBeFresh x (folder_of new (log_name number))) (sym one) (ap (λ (o : Option File). unwrap_or (read_in o) []) made.at);
      }),
      λ n has. elim (by_case (Log n) number) [
        | inl same ↦ λ x at. let here : Some (record { read = []; front = []; handed = [] }) ≡ Some x = sym made.at ∙ ap (λ (g : FileName). new (name_of g)) (sym same) ∙ at in
            subst IsSyncedFile (some_is here) (record { handed = refl; front = refl })
        | inr ne ↦ synced_same old new (Log n) (elsewhere names (Log number) old new is made.others (Log n) has ne) (fresh.1 n has)
      ],
      fresh.2,
    )
new_logs_keep_rest names versions quiet fresh_stays m number old new is absent made (inr (manifest, live, rest)) =
    let v = versions (folder_of old) manifest live rest.is_live in
    inr (
      manifest,
      live,
      quiet manifest live m old new rest (λ g needed. elim (by_case g number) [
        | inl same ↦ inr (record { number = number; is = same; absent = ap (λ (x : FileName). old (name_of x)) same ∙ absent; empty = ap (λ (x : FileName). new (name_of x)) same ∙ made.at })
        | inr ne ↦ inl (elsewhere names (Log number) old new is made.others g (needed_number manifest live rest.is_live.number v g needed) ne)
      ]),
    )

-- past the barrier all that is needed is synced
needed_synced : (disk : Disk) (manifest : ℕ) (live : Restored) → IsSynced disk Current → IsSynced disk (Manifest manifest) → ((n : ℕ) → IsNumber n → live.standing.log_number ≤ n → IsSynced disk (Log n))
    → NamesSynced disk live → NeededAreSynced disk manifest live
needed_synced disk manifest live current synced logs named Current needed = current
needed_synced disk manifest live current synced logs named (Manifest n) needed = subst (λ (k : ℕ). IsSynced disk (Manifest k)) (sym needed) synced
needed_synced disk manifest live current synced logs named (Log n) needed = logs n needed.0 needed.1
needed_synced disk manifest live current synced logs named (Table n) needed =
    contains_all (λ k. IsSynced disk (Table k)) (map (λ (t : NewTable). t.number) live.version.tables) n (all_of_map (λ (t : NewTable). t.number) (λ k. IsSynced disk (Table k)) live.version.tables named.tables) needed
needed_synced disk manifest live current synced logs named (Blob n) needed =
    contains_all (λ k. IsSynced disk (Blob k)) (map (λ (b : BlobMeta). b.number) live.version.blobs) n (all_of_map (λ (b : BlobMeta). b.number) (λ k. IsSynced disk (Blob k)) live.version.blobs named.blobs) needed
needed_synced disk manifest live current synced logs named (Temp n) needed = absurd needed

pub settled_rest : SettledRest
settled_rest m disk (inl (fresh, logs)) stands past = elim stands [
  | inl empty ↦ inl (fresh, logs, empty.1)
  | inr live ↦ absurd (let e : Some (current_text live.manifest) ≡ None = sym live.holds.live.current ∙ fresh.current in cc e)
]
settled_rest m disk (inr settled) stands past =
    let p = past settled.manifest settled.live settled.is_live in
    inr (
      settled.manifest,
      settled.live,
      record {
        is_live = settled.is_live;
        stands = stands;
        synced = needed_synced disk settled.manifest settled.live settled.current p.0 p.1 settled.named;
      },
    )

pub reads_left : (o : Option File) → ((x : File) → o ≡ Some x → IsRemnant x x.read) → IsLeft o (option_map (λ x. x.read) o)
reads_left None remnant = tt
reads_left (Some x) remnant = remnant x refl

pub reads_are_cuts : ReadsAreCuts
reads_are_cuts disk told remnant = record { image = λ name. reads_left (disk name) (remnant name); told_is = refl; written_is = λ name. refl }
