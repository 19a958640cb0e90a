-- A log whose accepted fragments were all written reads as the first records of what was written.
use Rattle.std.proofs.Common.{◌≡◌, ℕ, zero, suc, ◌+◌, ◌<◌, ◌≤◌, nat_lt, nat_eq, Bool, true, false, cond, List, [], ◌∷◌, ◌++◌, length, Option, None, Some, refl, sym, ◌∙◌, ap, subst, arith, take, drop, inl, inr, append-nil, append_assoc, length-take-le, length-drop, All}
use Rattle.std.proofs.lemmas.Bool.{le-ltb, lt-ltb, cases_lt, cond-true, cond-false}
use Rattle.std.proofs.lemmas.List.{take-append-drop, drop-drop, take_all, nil_from_length}
use Rattle.bl_code.specs.Crc.{crc32c, mask_of}
use Rattle.bl_log.specs.declared.cause.EndCause.{EndCause}
use Rattle.bl_log.specs.declared.cause.EndCause.TheVariants.{Cut, Length, Kind, Crc}
use Rattle.bl_log.specs.Log.{Part, Full, First, Middle, Last, Step, Ends, Skips, Reads, at_end, joined, typed, room, part_of, sum_at, size_at, type_at, payload_at, step_at, behind, walk, whole_of, records_of, records, fragments_from}
use Rattle.bl_log.specs.Written.{StandsIn, OnlyWritten}
use Rattle.bl_log.proofs.WalkLemmas.{step_filler, step_at_end, walk_at_end}
use Rattle.bl_log.proofs.StepLemmas.{IsFinal, final_skips, final_reads, size_stays, step_stays, goes_on, ends_here}

-- a fragment is read where its bytes are there and its block has room for them
pub record ReadsAt (place : ℕ) (bytes : List ℕ) (size : ℕ) : Type 0 where
  pub roomy : 7 ≤ room place
  pub fits : 7 + size_at bytes ≤ room place
  pub there : 7 + size_at bytes ≤ length bytes
  pub size_is : size ≡ 7 + size_at bytes

joined_size : (p : Part) (half : Option (List ℕ)) (payload : List ℕ) (n : ℕ) (whole next : Option (List ℕ)) (size : ℕ) → joined p half payload n ≡ Reads whole next size → size ≡ n
joined_size Full None payload n whole next size e = cc
joined_size First None payload n whole next size e = cc
joined_size Middle None payload n whole next size e = cc
joined_size Last None payload n whole next size e = cc
joined_size Full (Some front) payload n whole next size e = cc
joined_size First (Some front) payload n whole next size e = cc
joined_size Middle (Some front) payload n whole next size e = cc
joined_size Last (Some front) payload n whole next size e = cc

joined_no_skip : (p : Part) (half : Option (List ℕ)) (payload : List ℕ) (n size : ℕ) → joined p half payload n ≡ Skips size → ⊥
joined_no_skip Full None payload n size e = cc
joined_no_skip First None payload n size e = cc
joined_no_skip Middle None payload n size e = cc
joined_no_skip Last None payload n size e = cc
joined_no_skip Full (Some front) payload n size e = cc
joined_no_skip First (Some front) payload n size e = cc
joined_no_skip Middle (Some front) payload n size e = cc
joined_no_skip Last (Some front) payload n size e = cc

joined_final : (p : Part) (half : Option (List ℕ)) (payload : List ℕ) (n : ℕ) → IsFinal (joined p half payload n)
unfolding IsFinal
joined_final Full None payload n = tt
joined_final First None payload n = tt
joined_final Middle None payload n = tt
joined_final Last None payload n = tt
joined_final Full (Some front) payload n = tt
joined_final First (Some front) payload n = tt
joined_final Middle (Some front) payload n = tt
joined_final Last (Some front) payload n = tt

summed_size : (b : Bool) (p : Part) (half : Option (List ℕ)) (payload : List ℕ) (n : ℕ) (whole next : Option (List ℕ)) (size : ℕ) → cond b (joined p half payload n) (Ends Crc) ≡ Reads whole next size → size ≡ n
summed_size true p half payload n whole next size e = joined_size p half payload n whole next size e
summed_size false p half payload n whole next size e = cc

summed_no_skip : (b : Bool) (p : Part) (half : Option (List ℕ)) (payload : List ℕ) (n size : ℕ) → cond b (joined p half payload n) (Ends Crc) ≡ Skips size → ⊥
summed_no_skip true p half payload n size e = joined_no_skip p half payload n size e
summed_no_skip false p half payload n size e = cc

summed_final : (b : Bool) (p : Part) (half : Option (List ℕ)) (payload : List ℕ) (n : ℕ) → IsFinal (cond b (joined p half payload n) (Ends Crc))
unfolding IsFinal
summed_final true p half payload n = joined_final p half payload n
summed_final false p half payload n = tt

typed_reads : (part : Option Part) (half : Option (List ℕ)) (bytes : List ℕ) (whole next : Option (List ℕ)) (size : ℕ) → typed part half bytes ≡ Reads whole next size → (7 + size_at bytes ≤ length bytes) × (size ≡ 7 + size_at bytes)
typed_reads None half bytes whole next size e = absurd (let wrong : Ends Kind ≡ Reads whole next size = e in cc wrong)
typed_reads (Some part) half bytes whole next size e = elim (cases_lt (length bytes) (7 + size_at bytes)) [
  | inl cut ↦ absurd (let wrong : Ends Cut ≡ Reads whole next size = sym (cond-true _ _ _ (lt-ltb _ _ cut)) ∙ e in cc wrong)
  | inr there ↦ (there, summed_size (nat_eq (sum_at bytes) (mask_of (crc32c (type_at bytes ∷ payload_at bytes)))) part half (payload_at bytes) (7 + size_at bytes) whole next size (sym (cond-false _ _ _ (le-ltb _ _ there)) ∙ e))
]

typed_no_skip : (part : Option Part) (half : Option (List ℕ)) (bytes : List ℕ) (size : ℕ) → typed part half bytes ≡ Skips size → ⊥
typed_no_skip None half bytes size e = let wrong : Ends Kind ≡ Skips size = e in cc wrong
typed_no_skip (Some part) half bytes size e = elim (cases_lt (length bytes) (7 + size_at bytes)) [
  | inl cut ↦ let wrong : Ends Cut ≡ Skips size = sym (cond-true _ _ _ (lt-ltb _ _ cut)) ∙ e in cc wrong
  | inr there ↦ summed_no_skip (nat_eq (sum_at bytes) (mask_of (crc32c (type_at bytes ∷ payload_at bytes)))) part half (payload_at bytes) (7 + size_at bytes) size (sym (cond-false _ _ _ (le-ltb _ _ there)) ∙ e)
]

typed_final : (part : Option Part) (half : Option (List ℕ)) (bytes : List ℕ) → 7 + size_at bytes ≤ length bytes → IsFinal (typed part half bytes)
unfolding IsFinal
typed_final None half bytes there = tt
typed_final (Some part) half bytes there =
    subst IsFinal (sym (cond-false _ _ _ (le-ltb _ _ there))) (summed_final (nat_eq (sum_at bytes) (mask_of (crc32c (type_at bytes ∷ payload_at bytes)))) part half (payload_at bytes) (7 + size_at bytes))

-- a step where a head fits is that of its type, or ends
roomy_step : (place : ℕ) (half : Option (List ℕ)) (bytes : List ℕ) → 7 ≤ room place → 7 ≤ length bytes → 7 + size_at bytes ≤ room place → step_at place half bytes ≡ typed (part_of (type_at bytes)) half bytes
unfolding step_at
roomy_step place half bytes roomy long fits =
    let one : nat_lt (length bytes) 1 ≡ false = le-ltb _ _ (omega arith) in
    cond-false _ _ _ (le-ltb _ _ roomy) ∙ cond-false _ _ _ one ∙ cond-false _ _ _ (le-ltb _ _ long) ∙ cond-false _ _ _ (le-ltb _ _ fits)

reads_at : (place : ℕ) (half : Option (List ℕ)) (bytes : List ℕ) (whole next : Option (List ℕ)) (size : ℕ) → step_at place half bytes ≡ Reads whole next size → ReadsAt place bytes size
unfolding step_at
reads_at place half bytes whole next size e = elim (cases_lt (room place) 7) [
  | inl small ↦ elim (cases_lt (length bytes) (room place)) [
    | inl ends ↦ absurd (let wrong : Ends (at_end half) ≡ Reads whole next size = sym (cond-true _ _ _ (lt-ltb _ _ small) ∙ cond-true _ _ _ (lt-ltb _ _ ends)) ∙ e in cc wrong)
    | inr there ↦ absurd (let wrong : Skips (room place) ≡ Reads whole next size = sym (cond-true _ _ _ (lt-ltb _ _ small) ∙ cond-false _ _ _ (le-ltb _ _ there)) ∙ e in cc wrong)
  ]
  | inr roomy ↦ elim (cases_lt (length bytes) 1) [
    | inl none ↦ absurd (let wrong : Ends (at_end half) ≡ Reads whole next size = sym (cond-false _ _ _ (le-ltb _ _ roomy) ∙ cond-true _ _ _ (lt-ltb _ _ none)) ∙ e in cc wrong)
    | inr some ↦ elim (cases_lt (length bytes) 7) [
      | inl short ↦ absurd (let wrong : Ends Cut ≡ Reads whole next size = sym (cond-false _ _ _ (le-ltb _ _ roomy) ∙ cond-false _ _ _ (le-ltb _ _ some) ∙ cond-true _ _ _ (lt-ltb _ _ short)) ∙ e in cc wrong)
      | inr long ↦ elim (cases_lt (room place) (7 + size_at bytes)) [
        | inl past ↦ absurd (let wrong : Ends Length ≡ Reads whole next size = sym (cond-false _ _ _ (le-ltb _ _ roomy) ∙ cond-false _ _ _ (le-ltb _ _ some) ∙ cond-false _ _ _ (le-ltb _ _ long) ∙ cond-true _ _ _ (lt-ltb _ _ past)) ∙ e in cc wrong)
        | inr fits ↦
            let t = typed_reads (part_of (type_at bytes)) half bytes whole next size (sym (roomy_step place half bytes roomy long fits) ∙ e) in
            record { roomy = roomy; fits = fits; there = t.0; size_is = t.1 }
      ]
    ]
  ]
]

-- filler is skipped where it is there
pub record SkipsAt (place : ℕ) (bytes : List ℕ) (size : ℕ) : Type 0 where
  pub small : room place < 7
  pub there : room place ≤ length bytes
  pub size_is : size ≡ room place

skips_at : (place : ℕ) (half : Option (List ℕ)) (bytes : List ℕ) (size : ℕ) → step_at place half bytes ≡ Skips size → SkipsAt place bytes size
unfolding step_at
skips_at place half bytes size e = elim (cases_lt (room place) 7) [
  | inl small ↦ elim (cases_lt (length bytes) (room place)) [
    | inl ends ↦ absurd (let wrong : Ends (at_end half) ≡ Skips size = sym (cond-true _ _ _ (lt-ltb _ _ small) ∙ cond-true _ _ _ (lt-ltb _ _ ends)) ∙ e in cc wrong)
    | inr there ↦
        let same : Skips (room place) ≡ Skips size = sym (cond-true _ _ _ (lt-ltb _ _ small) ∙ cond-false _ _ _ (le-ltb _ _ there)) ∙ e in
        record { small = small; there = there; size_is = cc same }
  ]
  | inr roomy ↦ absurd (elim (cases_lt (length bytes) 1) [
    | inl none ↦ let wrong : Ends (at_end half) ≡ Skips size = sym (cond-false _ _ _ (le-ltb _ _ roomy) ∙ cond-true _ _ _ (lt-ltb _ _ none)) ∙ e in cc wrong
    | inr some ↦ elim (cases_lt (length bytes) 7) [
      | inl short ↦ let wrong : Ends Cut ≡ Skips size = sym (cond-false _ _ _ (le-ltb _ _ roomy) ∙ cond-false _ _ _ (le-ltb _ _ some) ∙ cond-true _ _ _ (lt-ltb _ _ short)) ∙ e in cc wrong
      | inr long ↦ elim (cases_lt (room place) (7 + size_at bytes)) [
        | inl past ↦ let wrong : Ends Length ≡ Skips size = sym (cond-false _ _ _ (le-ltb _ _ roomy) ∙ cond-false _ _ _ (le-ltb _ _ some) ∙ cond-false _ _ _ (le-ltb _ _ long) ∙ cond-true _ _ _ (lt-ltb _ _ past)) ∙ e in cc wrong
        | inr fits ↦ typed_no_skip (part_of (type_at bytes)) half bytes size (sym (roomy_step place half bytes roomy long fits) ∙ e)
      ]
    ]
  ])
]

-- a fragment is read by its own bytes alone
reads_own : (place : ℕ) (half : Option (List ℕ)) (bytes : List ℕ) (whole next : Option (List ℕ)) (size : ℕ) → step_at place half bytes ≡ Reads whole next size → step_at place half (take size bytes) ≡ Reads whole next size
reads_own place half bytes whole next size e =
    let at = reads_at place half bytes whole next size e in
    let own = take size bytes in
    let split : own ++ drop size bytes ≡ bytes = take-append-drop size bytes in
    let long : length own ≡ size = length-take-le size bytes (omega (arith, at.there, at.size_is)) in
    let head : 7 ≤ length own = omega (arith, long, at.size_is) in
    let same : size_at bytes ≡ size_at own = ap size_at (sym split) ∙ size_stays own (drop size bytes) head in
    let there : 7 + size_at own ≤ length own = omega (arith, long, at.size_is, same) in
    let fits : 7 + size_at own ≤ room place = omega (arith, at.fits, same) in
    let step = roomy_step place half own at.roomy head fits in
    let final : IsFinal (step_at place half own) = subst IsFinal (sym step) (typed_final (part_of (type_at own)) half own there) in
    sym (step_stays place half own (drop size bytes) final) ∙ ap (step_at place half) split ∙ e

-- so where the same bytes stand elsewhere, it is read there
reads_same : (place : ℕ) (half : Option (List ℕ)) (bytes all : List ℕ) (whole next : Option (List ℕ)) (size : ℕ) → step_at place half bytes ≡ Reads whole next size → take size all ≡ take size bytes → step_at place half all ≡ Reads whole next size
reads_same place half bytes all whole next size e same =
    let own = reads_own place half bytes whole next size e in
    let split : take size bytes ++ drop size all ≡ all = ap (λ f. f ++ drop size all) (sym same) ∙ take-append-drop size all in
    ap (step_at place half) (sym split) ∙ step_stays place half (take size bytes) (drop size all) (subst IsFinal (sym own) (final_reads whole next size)) ∙ own

-- one step of a walk
walks_on : (place : ℕ) (half next : Option (List ℕ)) (bytes : List ℕ) (step : Step) (size : ℕ) → step_at place half bytes ≡ step → IsFinal step → behind half step ≡ Some (next, size) → 1 ≤ size → size ≤ length bytes
    → walk 0 place half bytes ≡ step ∷ walk 0 (place + size) next (drop size bytes)
walks_on place half next bytes step size stands final to some there =
    ap (walk 0 place half) (sym (append-nil bytes)) ∙ goes_on place half next bytes [] step size stands final to some there
    ∙ ap (λ r. step ∷ walk 0 (place + size) next r) (append-nil (drop size bytes))

-- some records are the first of all
pub FirstOf : List (List ℕ) → List (List ℕ) → Type 0
FirstOf some all = (rest : List (List ℕ)) × (all ≡ some ++ rest)

none_first : (some all : List (List ℕ)) → some ≡ [] → FirstOf some all
unfolding FirstOf
none_first some all none = (all, ap (λ s. s ++ all) (sym none))

first_of_none : (some : List (List ℕ)) → FirstOf some [] → some ≡ []
unfolding FirstOf
first_of_none [] first = refl
first_of_none (x ∷ xs) (rest, e) = absurd (cc e)

first_behind : (same some all : List (List ℕ)) (left right : List (List ℕ)) → left ≡ same ++ some → right ≡ same ++ all → FirstOf some all → FirstOf left right
unfolding FirstOf
first_behind same some all left right l r (rest, e) = (rest, r ∙ ap (λ x. same ++ x) e ∙ sym (append_assoc same some rest) ∙ ap (λ x. x ++ rest) (sym l))

head_of : {X : Type 0} (P : X → Type 0) (x : X) (xs : List X) → All P (x ∷ xs) → P x
head_of P x xs all = all 0 x (omega arith)

tail_of : {X : Type 0} (P : X → Type 0) (x : X) (xs : List X) → All P (x ∷ xs) → All P xs
tail_of P x xs all k d less = all (suc k) d (omega arith)

drop_past : {X : Type 0} (n : ℕ) (xs : List X) → length xs ≤ n → drop n xs ≡ []
drop_past n xs past = nil_from_length (drop n xs) (simp length-drop (omega arith))

-- what is read of bytes from a place on, of which what was written from there on is all
IsFirst : List ℕ → ℕ → Option (List ℕ) → List ℕ → List ℕ → Type 0
IsFirst written place half bytes all =
    all ≡ drop place written → All (StandsIn written) (fragments_from place bytes (walk 0 place half bytes)) → FirstOf (records_of (walk 0 place half bytes)) (records_of (walk 0 place half all))

-- over filler
over_filler : (written : List ℕ) (place : ℕ) (half : Option (List ℕ)) (bytes all : List ℕ) (size : ℕ) → step_at place half bytes ≡ Skips size
    → ((more : List ℕ) → IsFirst written (place + size) half (drop size bytes) more) → IsFirst written place half bytes all
unfolding IsFirst
over_filler written place half bytes all size e rest at each =
    let s = skips_at place half bytes size e in
    let some : 1 ≤ size = omega (arith, s.size_is) in
    let there : size ≤ length bytes = omega (arith, s.there, s.size_is) in
    let walked = walks_on place half half bytes (Skips size) size e (final_skips size) refl some there in
    let P : List Step → Type 0 = λ steps. All (StandsIn written) (fragments_from place bytes steps) in
    let behind_it : All (StandsIn written) (fragments_from (place + size) (drop size bytes) (walk 0 (place + size) half (drop size bytes))) = subst P walked each in
    let further : drop size all ≡ drop (place + size) written = ap (drop size) at ∙ drop-drop size place written in
    elim (cases_lt (length all) (room place)) [
      | inl short ↦
          let none : [] ≡ drop (place + size) written = sym (drop_past size all (omega (arith, s.size_is, short))) ∙ further in
          let Q : List (List ℕ) → Type 0 = λ found. FirstOf (records_of (walk 0 (place + size) half (drop size bytes))) found in
          let first = subst Q (ap records_of (walk_at_end (place + size) half)) (rest [] none behind_it) in
          none_first _ _ (ap records_of walked ∙ first_of_none _ first)
      | inr filled ↦
          let same : step_at place half all ≡ Skips size = step_filler place half all s.small filled ∙ ap Skips (sym s.size_is) in
          let also = walks_on place half half all (Skips size) size same (final_skips size) refl some (omega (arith, s.size_is, filled)) in
          first_behind [] _ _ _ _ (ap records_of walked) (ap records_of also) (rest (drop size all) further behind_it)
    ]

-- over a fragment
over_fragment : (written : List ℕ) (place : ℕ) (half : Option (List ℕ)) (bytes all : List ℕ) (whole next : Option (List ℕ)) (size : ℕ) → step_at place half bytes ≡ Reads whole next size
    → ((more : List ℕ) → IsFirst written (place + size) next (drop size bytes) more) → IsFirst written place half bytes all
unfolding IsFirst
over_fragment written place half bytes all whole next size e rest at each =
    let r = reads_at place half bytes whole next size e in
    let some : 1 ≤ size = omega (arith, r.size_is) in
    let there : size ≤ length bytes = omega (arith, r.there, r.size_is) in
    let walked = walks_on place half next bytes (Reads whole next size) size e (final_reads whole next size) refl some there in
    let P : List Step → Type 0 = λ steps. All (StandsIn written) (fragments_from place bytes steps) in
    let fragments_there : All (StandsIn written) ((place, take size bytes) ∷ fragments_from (place + size) (drop size bytes) (walk 0 (place + size) next (drop size bytes))) = subst P walked each in
    let long : length (take size bytes) ≡ size = length-take-le size bytes there in
    let stands : StandsIn written (place, take size bytes) = head_of (StandsIn written) _ _ fragments_there in
    let same : take size all ≡ take size bytes = ap (λ k. take k all) (sym long) ∙ ap (take (length (take size bytes))) at ∙ stands in
    let as_long : size ≤ length all = elim (cases_lt (length all) size) [
      | inl short ↦ let n : length all ≡ size = ap length (sym (take_all size all (omega (arith, short))) ∙ same) ∙ long in omega (arith, n)
      | inr fits ↦ fits
    ] in
    let further : drop size all ≡ drop (place + size) written = ap (drop size) at ∙ drop-drop size place written in
    let also = walks_on place half next all (Reads whole next size) size (reads_same place half bytes all whole next size e same) (final_reads whole next size) refl some as_long in
    first_behind (whole_of (Reads whole next size)) _ _ _ _ (ap records_of walked) (ap records_of also) (rest (drop size all) further (tail_of (StandsIn written) _ _ fragments_there))

-- where it ends
at_its_end : (written : List ℕ) (place : ℕ) (half : Option (List ℕ)) (bytes all : List ℕ) (cause : EndCause) → step_at place half bytes ≡ Ends cause → IsFirst written place half bytes all
unfolding IsFirst
at_its_end written place half bytes all cause e at each = none_first _ _ (ap records_of (ends_here place half bytes cause e))

shorter : (size : ℕ) (bytes : List ℕ) (n : ℕ) → length bytes ≤ suc n → 1 ≤ size → length (drop size bytes) ≤ n
shorter size bytes n fuel some = simp length-drop (omega arith)

first_from : (written : List ℕ) (n place : ℕ) (half : Option (List ℕ)) (bytes all : List ℕ) → length bytes ≤ n → IsFirst written place half bytes all
first_from written zero place half bytes all fuel =
    at_its_end written place half bytes all (at_end half) (ap (step_at place half) (nil_from_length bytes (omega arith)) ∙ step_at_end place half)
first_from written (suc n) place half bytes all fuel =
    let by_step : (step : Step) → step_at place half bytes ≡ step → IsFirst written place half bytes all = λ step. elim step as (λ s. step_at place half bytes ≡ s → IsFirst written place half bytes all) [
      | Ends cause ↦ λ e. at_its_end written place half bytes all cause e
      | Skips size ↦ λ e.
          let s = skips_at place half bytes size e in
          over_filler written place half bytes all size e (λ more. first_from written n (place + size) half (drop size bytes) more (shorter size bytes n fuel (omega (arith, s.size_is))))
      | Reads whole next size ↦ λ e.
          let r = reads_at place half bytes whole next size e in
          over_fragment written place half bytes all whole next size e (λ more. first_from written n (place + size) next (drop size bytes) more (shorter size bytes n fuel (omega (arith, r.size_is))))
    ] in
    by_step (step_at place half bytes) refl

pub only_written_first : (bytes all : List ℕ) → OnlyWritten bytes all → (rest : List (List ℕ)) × (records all ≡ records bytes ++ rest)
unfolding IsFirst FirstOf
only_written_first bytes all each = first_from all (length bytes) 0 None bytes all (omega arith) refl each
