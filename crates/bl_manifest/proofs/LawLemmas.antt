-- What manifests read as, and which bytes restore something.
use Rattle.std.proofs.Common.{◌≡◌, ◌⊎◌, inl, inr, ℕ, ◌+◌, ◌%◌, ◌^◌, List, [], ◌∷◌, ◌++◌, length, map, Option, None, Some, Result, Ok, Err, refl, sym, ◌∙◌, ap, subst, append_assoc, append-nil, length-append}
use Rattle.std.proofs.lemmas.List.{length-map, map-append}
use Rattle.std.specs.Prelude.{option_and_then}
use Rattle.std.specs.Option.{option_map}
use Rattle.std.specs.Result.{result_ok}
use Rattle.bl_site.specs.Disk.{Disk, File, Cut, IsCut}
use Rattle.bl_names.specs.declared.name.FileName.TheVariants.{Manifest}
use Rattle.bl_log.specs.Log.{records, placed_records, ending}
use Rattle.bl_records.specs.Held.{HoldsRecords}
use Rattle.bl_records.specs.Laws.{CutFilesReadAsFronts, FilesAreRead, SyncedFilesAreLeft, CutAppendsReadAsFronts as AppendsReadAsFronts}
use Rattle.bl_records.proofs.HeldLemmas.{within_of}
use Rattle.bl_edit.specs.Reading.{read_edit, no_field}
use Rattle.bl_edit.specs.Spelling.{edit_bytes}
use Rattle.bl_edit.specs.declared.edit.Edit.{Edit}
use Rattle.bl_edit.specs.declared.error.BadEdit.{BadEdit}
use Rattle.bl_build.specs.declared.error.BadVersion.{BadVersion}
use Rattle.bl_build.specs.declared.meta.Standing.{Standing}
use Rattle.bl_build.specs.Listing.{Listing, nothing}
use Rattle.bl_build.specs.Versions.{apply, applied, version}
use Rattle.bl_build.specs.Restoring.{Restored, edits_of, last_given, standing_of, restored_by, restored}
use Rattle.bl_manifest.specs.ManifestFile.{ManifestFile, file_of}
use Rattle.bl_manifest.specs.Held.{Edits, AreReadBack, manifest_of, HoldsEdits, ReadsEdits}
use Rattle.bl_manifest.specs.Restores.{Restores, payloads, version_behind, BreaksOff, IsFaulty}
use Rattle.bl_manifest.specs.Laws.{CutManifestsReadAsFronts, CutAppendsReadAsFronts, SyncedManifestsAreLeft, ManifestsAreRead, BytesAreDecided, FaultyDoNotRestore, FaultsHaveOnePlace}
use Rattle.bl_manifest.proofs.EditLemmas.{first_edit, edits_first, found_more, first_step, none_applied, applied_then, applied_one}
use Rattle.bl_manifest.proofs.HeldLemmas.{are_more}

-- ---- files of records

pub cut_reads : CutFilesReadAsFronts → CutManifestsReadAsFronts
cut_reads law disk manifest edits synced told c h is chance =
    let r = law disk (file_of manifest) (Manifest manifest.number) (map edit_bytes edits) synced told c refl h.records is chance in
    record {
      count = r.first.count;
      at_least = r.first.at_least;
      at_most = within_of edit_bytes edits r.first.count r.first.at_most;
      reads = record {
        bytes = r.bytes;
        there = r.there;
        are = ap edits_of r.first.reads ∙ edits_first r.first.count (map edit_bytes edits) edits h.are;
      };
    }

-- so many records as there are edits
whole_records : (disk : Disk) (manifest : ManifestFile) (edits : Edits) (synced : ℕ) → synced ≡ length edits → HoldsEdits disk manifest edits synced
    → HoldsRecords disk (file_of manifest) (map edit_bytes edits) (length (map edit_bytes edits))
whole_records disk manifest edits synced whole h =
    let P : ℕ → Type 0 = λ n. HoldsRecords disk (file_of manifest) (map edit_bytes edits) n in
    subst P (whole ∙ sym (length-map edits edit_bytes)) h.records

-- the bytes of these edits read as them
reads_back : FilesAreRead → (edits : Edits) → AreReadBack edits → edits_of (records (manifest_of edits)) ≡ Some edits
reads_back law edits are = ap edits_of (law (map edit_bytes edits)) ∙ are

pub synced_left : FilesAreRead → SyncedFilesAreLeft → SyncedManifestsAreLeft
synced_left read left disk manifest edits told c h is =
    let there = left disk (file_of manifest) (map edit_bytes edits) told c (whole_records disk manifest edits (length edits) refl h) is in
    (there, record { bytes = manifest_of edits; there = there; are = reads_back read edits h.are })

-- so does each cut of a manifest whose last edit is synced
pub appended_left : SyncedManifestsAreLeft → (disk : Disk) (manifest : ManifestFile) (edits : Edits) (e : Edit) (told : List ℕ) (c : Cut) → HoldsEdits disk manifest (edits ++ e ∷ []) (length edits + 1) → IsCut disk told c
    → ReadsEdits c.folder manifest.number (edits ++ e ∷ [])
appended_left left disk manifest edits e told c h is =
    let N : ℕ → Type 0 = λ n. HoldsEdits disk manifest (edits ++ e ∷ []) n in
    (left disk manifest (edits ++ e ∷ []) told c (subst N (sym (length-append edits (e ∷ []))) h) is).1

pub manifests_read : FilesAreRead → ManifestsAreRead
manifests_read read disk manifest edits synced open_ h = record {
  bytes = manifest_of edits;
  there = ap (λ (o : Option File). option_map (λ (f : File). f.read) o) h.records.there ∙ ap Some (h.records.reads open_);
  are = reads_back read edits h.are;
}

pub appends_read : AppendsReadAsFronts → CutAppendsReadAsFronts
appends_read law disk during manifest edits synced e told c open_ h one partly is chance =
    let added = edit_bytes e ∷ [] in
    elim (law disk during (file_of manifest) (Manifest manifest.number) (map edit_bytes edits) (edit_bytes e) told c open_ refl (whole_records disk manifest edits synced (h.all_synced open_) h) partly is chance) [
      | inl without ↦ inl (record { bytes = without.bytes; there = without.there; are = ap edits_of without.reads ∙ h.are })
      | inr with_it ↦ inr (record { bytes = with_it.bytes; there = with_it.there; are = ap edits_of (with_it.reads ∙ sym (map-append edit_bytes edits (e ∷ []))) ∙ are_more edits e h.are one })
    ]

-- ---- which bytes restore something

unfoldable pub PlacedAreRecords : Type 0
PlacedAreRecords = (bytes : List ℕ) → payloads (placed_records bytes) ≡ records bytes

-- the place behind the first record that does not fit
goes : Option Listing → (Listing → Option ℕ) → ℕ → Option ℕ
goes None rest behind = Some behind
goes (Some next) rest behind = rest next

stop_from : Listing → List (List ℕ × ℕ) → Option ℕ
stop_from base [] = None
stop_from base (r ∷ rest) = goes (version_behind base r.0) (λ next. stop_from next rest) r.1

behind_is : (base next : Listing) (payload : List ℕ) (e : Edit) → read_edit payload ≡ Ok e → apply base e ≡ Ok next → version_behind base payload ≡ Some next
behind_is base next payload e read fits =
    ap (λ (r : Result Edit BadEdit). option_and_then (λ (x : Edit). result_ok (apply base x)) (result_ok r)) read ∙ ap (λ (r : Result Listing BadVersion). result_ok r) fits

-- records that are edits that fit are passed over
passes : (passed rest : List (List ℕ × ℕ)) (base mid : Listing) (es : List Edit) → edits_of (payloads passed) ≡ Some es → applied base es ≡ Ok mid → stop_from base (passed ++ rest) ≡ stop_from mid rest
unfolding stop_from goes
passes [] rest base mid es are fits =
    let none : [] ≡ es = let same : Some [] ≡ Some es = are in cc same in
    ap (λ b. stop_from b rest) (none_applied base mid (ap (applied base) none ∙ fits))
passes (r ∷ passed) rest base mid es are fits =
    let f = first_edit r.0 (payloads passed) es are in
    let s = first_step base mid f.0 f.1 (ap (applied base) (sym f.4) ∙ fits) in
    ap (λ o. goes o (λ next. stop_from next (passed ++ rest)) r.1) (behind_is base s.0 r.0 f.0 f.2 s.1) ∙ passes passed rest s.0 mid f.1 f.3 s.2

stops_at : (bytes : List ℕ) (place : ℕ) (b : BreaksOff bytes place) → stop_from nothing (placed_records bytes) ≡ Some b.behind
unfolding stop_from goes
stops_at bytes place b =
    ap (stop_from nothing) b.split ∙ passes b.passed ((b.payload, b.behind) ∷ b.rest) nothing b.base b.edits b.are b.base_is
    ∙ ap (λ o. goes o (λ next. stop_from next b.rest) b.behind) b.stops

goes_through : PlacedAreRecords → (bytes : List ℕ) (es : List Edit) (v : Listing) → edits_of (records bytes) ≡ Some es → version es ≡ Ok v → stop_from nothing (placed_records bytes) ≡ None
unfolding PlacedAreRecords stop_from
goes_through law bytes es v are fits =
    ap (stop_from nothing) (sym (append-nil (placed_records bytes))) ∙ passes (placed_records bytes) [] nothing v es (ap edits_of (law bytes) ∙ are) fits

-- what restores has edits that fit, and fields that are known
record Known (bytes : List ℕ) (r : Restored) : Type 0 where
  edits : List Edit
  are : edits_of (records bytes) ≡ Some edits
  last_is : version edits ≡ Ok r.version
  known : standing_of (last_given no_field edits) ≡ Some r.standing

with_version : (v : Result Listing BadVersion) (o : Option Standing) (r : Restored)
    → option_and_then (λ (x : Listing). option_and_then (λ (s : Standing). Some (record { version = x; standing = s })) o) (result_ok v) ≡ Some r → (v ≡ Ok r.version) × (o ≡ Some r.standing)
with_version (Err why) o r h = absurd (let wrong : None ≡ Some r = h in cc wrong)
with_version (Ok v) None r h = absurd (let wrong : None ≡ Some r = h in cc wrong)
with_version (Ok v) (Some s) r h =
    let made : Restored = record { version = v; standing = s } in
    let same : Some made ≡ Some r = h in
    let is : made ≡ r = cc same in
    (ap (λ (x : Restored). Ok x.version) is, ap (λ (x : Restored). Some x.standing) is)

of_edits : (bytes : List ℕ) (o : Option (List Edit)) (r : Restored) → edits_of (records bytes) ≡ o → option_and_then restored_by o ≡ Some r → Known bytes r
of_edits bytes None r are h = absurd (let wrong : None ≡ Some r = h in cc wrong)
of_edits bytes (Some es) r are h =
    let both = with_version (version es) (standing_of (last_given no_field es)) r h in
    record { edits = es; are = are; last_is = both.0; known = both.1 }

known_of : (bytes : List ℕ) (r : Restored) → Restores bytes r → Known bytes r
unfolding restored
known_of bytes r h = of_edits bytes (edits_of (records bytes)) r refl h

pub restores_of : (bytes : List ℕ) (es : List Edit) (v : Listing) (s : Standing) → edits_of (records bytes) ≡ Some es → version es ≡ Ok v → standing_of (last_given no_field es) ≡ Some s
    → Restores bytes (record { version = v; standing = s })
unfolding restored
restores_of bytes es v s are fits known =
    ap (option_and_then restored_by) are
    ∙ ap (λ (r : Result Listing BadVersion). option_and_then (λ (x : Listing). option_and_then (λ (y : Standing). Some (record { version = x; standing = y })) (standing_of (last_given no_field es))) (result_ok r)) fits
    ∙ ap (option_and_then (λ (y : Standing). Some (record { version = v; standing = y }))) known

same_edits : (bytes : List ℕ) (es fs : List Edit) → edits_of (records bytes) ≡ Some es → edits_of (records bytes) ≡ Some fs → es ≡ fs
same_edits bytes es fs are others = let e : Some es ≡ Some fs = sym are ∙ others in cc e

pub not_both : PlacedAreRecords → FaultyDoNotRestore
not_both law bytes r place restores faulty =
    let k = known_of bytes r restores in
    elim faulty [
      | inl b ↦ let wrong : Some b.behind ≡ None = sym (stops_at bytes place b) ∙ goes_through law bytes k.edits r.version k.are k.last_is in cc wrong
      | inr s ↦
          let same : s.edits ≡ k.edits = same_edits bytes s.edits k.edits s.are k.are in
          let wrong : None ≡ Some r.standing = sym s.lacks ∙ ap (λ es. standing_of (last_given no_field es)) same ∙ k.known in
          cc wrong
    ]

pub one_place : PlacedAreRecords → FaultsHaveOnePlace
one_place law bytes place other first second = elim first [
  | inl a ↦ elim second [
    | inl b ↦
        let same : a.behind ≡ b.behind = let e : Some a.behind ≡ Some b.behind = sym (stops_at bytes place a) ∙ stops_at bytes other b in cc e in
        a.place_is ∙ ap (λ n. n % 2 ^ 64) same ∙ sym b.place_is
    | inr b ↦ absurd (let wrong : Some a.behind ≡ None = sym (stops_at bytes place a) ∙ goes_through law bytes b.edits b.last b.are b.last_is in cc wrong)
  ]
  | inr a ↦ elim second [
    | inl b ↦ absurd (let wrong : Some b.behind ≡ None = sym (stops_at bytes other b) ∙ goes_through law bytes a.edits a.last a.are a.last_is in cc wrong)
    | inr b ↦ a.place_is ∙ sym b.place_is
  ]
]

Outcome : List ℕ → Type 0
Outcome bytes = ((r : Restored) × Restores bytes r) ⊎ ((place : ℕ) × IsFaulty bytes place)

at_end : (bytes : List ℕ) (es : List Edit) (v : Listing) (o : Option Standing) → edits_of (records bytes) ≡ Some es → version es ≡ Ok v → standing_of (last_given no_field es) ≡ o → Outcome bytes
unfolding Outcome
at_end bytes es v None are fits is = inr ((ending bytes).0 % 2 ^ 64, inr (record { edits = es; are = are; last = v; last_is = fits; lacks = is; place_is = refl }))
at_end bytes es v (Some s) are fits is = inl (record { version = v; standing = s }, restores_of bytes es v s are fits is)

-- a record stops the reading, or it is an edit that fits
at_record : (base : Listing) (payload : List ℕ) (P : Type 0) → (version_behind base payload ≡ None → P)
    → ((e : Edit) (next : Listing) → read_edit payload ≡ Ok e → apply base e ≡ Ok next → P) → P
at_record base payload P stops fits = of_read (read_edit payload) refl
  where
    of_apply : (e : Edit) → read_edit payload ≡ Ok e → (v : Result Listing BadVersion) → apply base e ≡ v → P
    of_apply e read (Ok next) is = fits e next read is
    of_apply e read (Err why) is =
        stops (ap (λ (r : Result Edit BadEdit). option_and_then (λ (x : Edit). result_ok (apply base x)) (result_ok r)) read ∙ ap (λ (r : Result Listing BadVersion). result_ok r) is)

    of_read : (r : Result Edit BadEdit) → read_edit payload ≡ r → P
    of_read (Ok e) read = of_apply e read (apply base e) refl
    of_read (Err fault) read = stops (ap (λ (r : Result Edit BadEdit). option_and_then (λ (x : Edit). result_ok (apply base x)) (result_ok r)) read)

decide : PlacedAreRecords → (bytes : List ℕ) (passed rest : List (List ℕ × ℕ)) (es : List Edit) (base : Listing) → placed_records bytes ≡ passed ++ rest → edits_of (payloads passed) ≡ Some es → version es ≡ Ok base → Outcome bytes
unfolding Outcome PlacedAreRecords
decide law bytes passed [] es base split are fits =
    let all : records bytes ≡ payloads passed = sym (law bytes) ∙ ap payloads (split ∙ append-nil passed) in
    at_end bytes es base (standing_of (last_given no_field es)) (ap edits_of all ∙ are) fits refl
decide law bytes passed (r ∷ rest) es base split are fits =
    at_record base r.0 (Outcome bytes)
    (λ stops. inr (r.1 % 2 ^ 64, inl (record { passed = passed; payload = r.0; behind = r.1; rest = rest; split = split; edits = es; are = are; base = base; base_is = fits; stops = stops; place_is = refl })))
    (λ e next read step. decide law bytes (passed ++ r ∷ []) rest (es ++ e ∷ []) next (split ∙ sym (append_assoc passed (r ∷ []) rest))
    (found_more passed r es e are read)
    (applied_then es (e ∷ []) nothing base fits ∙ applied_one base next e step))

pub decided : PlacedAreRecords → BytesAreDecided
unfolding Outcome applied
decided law bytes = decide law bytes [] (placed_records bytes) [] nothing refl refl refl
