-- Logs that break off do so at one place, and do not hold batches.
use Rattle.std.proofs.Common.{◌≡◌, ℕ, zero, suc, ◌+◌, ◌-◌, ◌%◌, ◌^◌, ◌<◌, List, [], ◌∷◌, ◌++◌, map, Option, Some, None, true, refl, sym, ◌∙◌, ap, subst, arith, inl, inr}
use Rattle.std.specs.Prelude.{cond, option_and_then, unwrap_or}
use Rattle.std.specs.Option.{option_map}
use Rattle.std.proofs.lemmas.Bool.{and_from, cases_lt, cases_order, le-leb}
use Rattle.std.proofs.lemmas.List.{map-append}
use Rattle.bl_site.specs.Disk.{Folder, Name}
use Rattle.bl_names.specs.declared.name.FileName.TheVariants.{Log}
use Rattle.bl_names.specs.Names.{IsNumber, name_of}
use Rattle.bl_log.specs.Log.{records, placed_records}
use Rattle.bl_edit.specs.Bounds.{is_number}
use Rattle.bl_entry.specs.Batches.{Batch}
use Rattle.bl_entry.specs.Records.{and_batches, batches_of, BatchesJoin}
use Rattle.bl_entry.proofs.ItemLemmas.{some_is}
use Rattle.bl_wal.specs.Replay.{BreaksOff}
use Rattle.bl_out.specs.Files.{file}
use Rattle.bl_folder.specs.Files.{log_bytes}
use Rattle.bl_folder.specs.Logs.{HaveBatches, log_records}
use Rattle.bl_open.specs.Replay.{LogsFail}

abbrev pub PlacedAreRecords : Type 0
PlacedAreRecords = (bytes : List ℕ) → map (λ (r : List ℕ × ℕ). r.0) (placed_records bytes) ≡ records bytes

payloads : List (List ℕ × ℕ) → List (List ℕ)
payloads found = map (λ r. r.0) found

-- ---- where a log breaks off

-- the last sequence behind one record, where it is a batch behind this one
behind_one : ℕ → List ℕ → Option ℕ
behind_one last payload = option_map (λ x. x.1) (batches_of (payload ∷ []) last)

goes : Option ℕ → (ℕ → Option ℕ) → ℕ → Option ℕ
goes None rest place = Some place
goes (Some next) rest place = rest next

-- the place behind the first record that is not
stop_from : ℕ → List (List ℕ × ℕ) → Option ℕ
stop_from last [] = None
stop_from last (r ∷ rest) = goes (behind_one last r.0) (λ next. stop_from next rest) r.1

joined : BatchesJoin → (first more : List (List ℕ)) (before between : ℕ) (batches : List Batch) → batches_of first before ≡ Some (batches, between)
    → batches_of (first ++ more) before ≡ and_batches batches (batches_of more between)
joined law first more before between batches e = law first more before ∙ ap (option_and_then (λ x. and_batches x.0 (batches_of more x.1))) e

not_joined : BatchesJoin → (first more : List (List ℕ)) (before : ℕ) → batches_of first before ≡ None → batches_of (first ++ more) before ≡ None
not_joined law first more before e = law first more before ∙ ap (option_and_then (λ x. and_batches x.0 (batches_of more x.1))) e

-- what follows a batch are batches
record After (records : List (List ℕ)) (before last : ℕ) : Type 0 where
  batches : List Batch
  are : batches_of records before ≡ Some (batches, last)

rest_of : (more : List (List ℕ)) (between last : ℕ) (first all : List Batch) (o : Option (List Batch × ℕ)) → batches_of more between ≡ o → and_batches first o ≡ Some (all, last) → After more between last
rest_of more between last first all None is e = cc e
rest_of more between last first all (Some x) is e =
    let p : ◌≡◌ {A = List Batch × ℕ} (first ++ x.0, x.1) (all, last) = some_is e in
    let l : x.1 ≡ last = ap (λ (y : List Batch × ℕ). y.1) p in
    record { batches = x.0; are = is ∙ ap (λ n. Some (x.0, n)) l }

passes : BatchesJoin → (passed rest : List (List ℕ × ℕ)) (before last : ℕ) (batches : List Batch) → batches_of (payloads passed) before ≡ Some (batches, last) → stop_from before (passed ++ rest) ≡ stop_from last rest
unfolding stop_from goes behind_one payloads batches_of
passes law [] rest before last batches e =
    let p : ◌≡◌ {A = List Batch × ℕ} ([], before) (batches, last) = some_is e in
    ap (λ n. stop_from n rest) (ap (λ (x : List Batch × ℕ). x.1) p)
passes law (r ∷ passed) rest before last batches e = by_first (λ next bs h. passes law passed rest next last bs h) (batches_of (r.0 ∷ []) before) refl
  where
    by_first : ((next : ℕ) (bs : List Batch) → batches_of (payloads passed) next ≡ Some (bs, last) → stop_from next (passed ++ rest) ≡ stop_from last rest)
        → (o : Option (List Batch × ℕ)) → batches_of (r.0 ∷ []) before ≡ o → stop_from before ((r ∷ passed) ++ rest) ≡ stop_from last rest
    by_first go None is = let none : batches_of (r.0 ∷ payloads passed) before ≡ None = not_joined law (r.0 ∷ []) (payloads passed) before is in cc (none, e)
    by_first go (Some x) is =
        let more : and_batches x.0 (batches_of (payloads passed) x.1) ≡ Some (batches, last) = sym (joined law (r.0 ∷ []) (payloads passed) before x.1 x.0 is) ∙ e in
        let a = rest_of (payloads passed) x.1 last x.0 batches (batches_of (payloads passed) x.1) refl more in
        ap (λ o. goes (option_map (λ (y : List Batch × ℕ). y.1) o) (λ next. stop_from next (passed ++ rest)) r.1) is ∙ go x.1 a.batches a.are

stops : BatchesJoin → (bytes : List ℕ) (before place : ℕ) (b : BreaksOff bytes before place) → stop_from before (placed_records bytes) ≡ Some b.behind
unfolding stop_from goes behind_one payloads
stops law bytes before place b =
    ap (stop_from before) b.split ∙ passes law b.passed ((b.payload, b.behind) ∷ b.rest) before b.last b.batches b.are
    ∙ ap (λ o. goes (option_map (λ (y : List Batch × ℕ). y.1) o) (λ next. stop_from next b.rest) b.behind) b.stops

breaks_once : BatchesJoin → (bytes : List ℕ) (before place other : ℕ) → BreaksOff bytes before place → BreaksOff bytes before other → place ≡ other
breaks_once law bytes before place other a b =
    let same : a.behind ≡ b.behind = some_is (sym (stops law bytes before place a) ∙ stops law bytes before other b) in
    a.place_is ∙ ap (λ n. n % 2 ^ 64) same ∙ sym b.place_is

-- its records are no batches
no_batches : BatchesJoin → PlacedAreRecords → (bytes : List ℕ) (before place : ℕ) → BreaksOff bytes before place → batches_of (records bytes) before ≡ None
unfolding payloads
no_batches law placed bytes before place b =
    let are : records bytes ≡ payloads b.passed ++ (b.payload ∷ payloads b.rest) = sym (placed bytes) ∙ ap payloads b.split ∙ map-append (λ (r : List ℕ × ℕ). r.0) b.passed ((b.payload, b.behind) ∷ b.rest) in
    let one : batches_of (b.payload ∷ payloads b.rest) b.last ≡ None = not_joined law (b.payload ∷ []) (payloads b.rest) b.last b.stops in
    ap (λ rs. batches_of rs before) are ∙ joined law (payloads b.passed) (b.payload ∷ payloads b.rest) before b.last b.batches b.are ∙ ap (and_batches b.batches) one

some_record : (passed rest : List (List ℕ)) (x : List ℕ) → ◌≡◌ {A = List (List ℕ)} [] (passed ++ (x ∷ rest)) → ⊥
some_record [] rest x e = cc e
some_record (p ∷ passed) rest x e = cc e

has_record : PlacedAreRecords → (bytes : List ℕ) (before place : ℕ) → BreaksOff bytes before place → records bytes ≡ [] → ⊥
unfolding payloads
has_record placed bytes before place b none =
    some_record (payloads b.passed) (payloads b.rest) b.payload
    (sym none ∙ sym (placed bytes) ∙ ap payloads b.split ∙ map-append (λ (r : List ℕ × ℕ). r.0) b.passed ((b.payload, b.behind) ∷ b.rest))

-- ---- the logs of a folder

pub number_test : (n : ℕ) → IsNumber n → is_number n ≡ true
number_test n is = and_from _ _ (le-leb 1 n is.0) (le-leb n 999999999999999 (omega (arith, is.1)))

pub log_is : (folder : Folder) (n : ℕ) (bytes : List ℕ) → IsNumber n → file folder (Log n) ≡ Some bytes → log_bytes folder n ≡ bytes
log_is folder n bytes is there = ap (λ b. cond b (unwrap_or (file folder (Log n)) []) []) (number_test n is) ∙ ap (λ o. unwrap_or o []) there

module _ (law : BatchesJoin) (placed : PlacedAreRecords) (folder : Folder) (from before : ℕ) where
  -- the logs up to one that breaks off hold no batches
  none_to : (name : Name) (place : ℕ) (f : LogsFail folder from before name place) → batches_of (log_records folder from (suc f.below)) before ≡ None
  unfolding log_records
  none_to name place f =
      let here : log_bytes folder (from + f.below) ≡ f.bytes = log_is folder (from + f.below) f.bytes f.number f.there in
      joined law (log_records folder from f.below) (records (log_bytes folder (from + f.below))) before f.last f.batches f.are
      ∙ ap (λ bs. and_batches f.batches (batches_of (records bs) f.last)) here
      ∙ ap (and_batches f.batches) (no_batches law placed f.bytes f.last place f.breaks)

  none_more : (count more : ℕ) → batches_of (log_records folder from count) before ≡ None → batches_of (log_records folder from (count + more)) before ≡ None
  unfolding log_records
  none_more count zero none = let e : count + 0 ≡ count = omega arith in ap (λ n. batches_of (log_records folder from n) before) e ∙ none
  none_more count (suc more) none =
      let e : count + suc more ≡ suc (count + more) = omega arith in
      ap (λ n. batches_of (log_records folder from n) before) e ∙ not_joined law (log_records folder from (count + more)) (records (log_bytes folder (from + (count + more)))) before (none_more count more none)

  none_behind : (name : Name) (place count : ℕ) (f : LogsFail folder from before name place) → f.below < count → batches_of (log_records folder from count) before ≡ None
  none_behind name place count f lt =
      let e : suc f.below + (count - suc f.below) ≡ count = omega (arith, lt) in
      ap (λ n. batches_of (log_records folder from n) before) (sym e) ∙ none_more (suc f.below) (count - suc f.below) (none_to name place f)

  pub failing_have_none : (name : Name) (place : ℕ) (batches : List Batch) (last : ℕ) → LogsFail folder from before name place → HaveBatches folder from before batches last → ⊥
  failing_have_none name place batches last f h = elim (cases_lt f.below h.count) [
    | inl lt ↦ let none = none_behind name place h.count f lt in cc (none, h.are)
    | inr le ↦
        let here : log_bytes folder (from + f.below) ≡ f.bytes = log_is folder (from + f.below) f.bytes f.number f.there in
        has_record placed f.bytes f.last place f.breaks (ap records (sym here) ∙ h.no_more (from + f.below) (omega (arith, le)))
  ]

  pub logs_fail_once : (name other : Name) (place at : ℕ) → LogsFail folder from before name place → LogsFail folder from before other at → (name ≡ other) × (place ≡ at)
  logs_fail_once name other place at f g = elim (cases_order f.below g.below) [
    | inl same ↦
        let bytes : f.bytes ≡ g.bytes = some_is (sym f.there ∙ ap (λ k. file folder (Log (from + k))) same ∙ g.there) in
        let both : ◌≡◌ {A = List Batch × ℕ} (f.batches, f.last) (g.batches, g.last) = some_is (sym f.are ∙ ap (λ k. batches_of (log_records folder from k) before) same ∙ g.are) in
        let last : f.last ≡ g.last = ap (λ (x : List Batch × ℕ). x.1) both in
        let breaks : BreaksOff f.bytes f.last at = subst (λ (bs : List ℕ). BreaksOff bs f.last at) (sym bytes) (subst (λ n. BreaksOff g.bytes n at) (sym last) g.breaks) in
        (f.name_is ∙ ap (λ k. name_of (Log (from + k))) same ∙ sym g.name_is, breaks_once law f.bytes f.last place at f.breaks breaks)
    | inr other_log ↦ absurd (elim other_log [
      | inl lt ↦ let none = none_behind name place g.below f lt in cc (none, g.are)
      | inr gt ↦ let none = none_behind other at f.below g gt in cc (none, f.are)
    ])
  ]
