-- No place of a reading lies behind the bytes that are read.
use Rattle.std.proofs.Common.{◌≡◌, ℕ, zero, suc, ◌+◌, ◌-◌, ◌≤◌, nat_lt, nat_eq, Bool, true, false, cond, List, [], ◌∷◌, ◌++◌, length, Option, None, Some, sym, ◌∙◌, ap, subst, arith, inl, inr}
use Rattle.std.proofs.lemmas.Bool.{le-ltb, lt-ltb, cases_lt, cond-true, cond-false}
use Rattle.bl_code.specs.Crc.{crc32c, mask_of}
use Rattle.bl_log.specs.declared.cause.EndCause.TheVariants.{Crc}
use Rattle.bl_log.specs.Log.{Part, Full, First, Middle, Last, Step, Ends, Skips, Reads, at_end, joined, typed, room, part_of, sum_at, size_at, type_at, payload_at, step_at, behind, go_on, walk, size_of, bytes_of, placed_from, placed_records, ending, records, records_of, IsLog}
use Rattle.bl_log.specs.Reading.{Reading, HasRead}
use Rattle.bl_log.proofs.WalkLemmas.{records_of-append}
use Rattle.bl_log.proofs.StepLemmas.{placed_from-append}

joined_within : (p : Part) (half : Option (List ℕ)) (payload : List ℕ) (n : ℕ) → size_of (joined p half payload n) ≤ n
joined_within Full None payload n = omega arith
joined_within First None payload n = omega arith
joined_within Middle None payload n = omega arith
joined_within Last None payload n = omega arith
joined_within Full (Some front) payload n = omega arith
joined_within First (Some front) payload n = omega arith
joined_within Middle (Some front) payload n = omega arith
joined_within Last (Some front) payload n = omega arith

crc_within : (b : Bool) (step : Step) (n : ℕ) → size_of step ≤ n → size_of (cond b step (Ends Crc)) ≤ n
crc_within true step n h = h
crc_within false step n h = omega arith

typed_within : (p : Option Part) (half : Option (List ℕ)) (bytes : List ℕ) → size_of (typed p half bytes) ≤ length bytes
typed_within None half bytes = omega arith
typed_within (Some p) half bytes =
    let Q : Step → Type 0 = λ s. size_of s ≤ length bytes in
    elim (cases_lt (length bytes) (7 + size_at bytes)) [
      | inl cut ↦ subst Q (sym (cond-true _ _ _ (lt-ltb _ _ cut))) (let z : 0 ≤ length bytes = omega arith in z)
      | inr there ↦
          let j = joined_within p half (payload_at bytes) (7 + size_at bytes) in
          subst Q (sym (cond-false _ _ _ (le-ltb _ _ there)))
          (crc_within (nat_eq (sum_at bytes) (mask_of (crc32c (type_at bytes ∷ payload_at bytes)))) (joined p half (payload_at bytes) (7 + size_at bytes)) (length bytes) (omega arith))
    ]

choice_within : (b : Bool) (s t : Step) (n : ℕ) → size_of s ≤ n → size_of t ≤ n → size_of (cond b s t) ≤ n
choice_within true s t n h k = h
choice_within false s t n h k = k

step_within : (place : ℕ) (half : Option (List ℕ)) (bytes : List ℕ) → size_of (step_at place half bytes) ≤ length bytes
unfolding step_at
step_within place half bytes =
    let n = length bytes in
    let z : 0 ≤ n = omega arith in
    let Q : Step → Type 0 = λ s. size_of s ≤ n in
    let filler : size_of (cond (nat_lt n (room place)) (Ends (at_end half)) (Skips (room place))) ≤ n = elim (cases_lt n (room place)) [
      | inl ends ↦ subst Q (sym (cond-true _ _ _ (lt-ltb _ _ ends))) z
      | inr there ↦ subst Q (sym (cond-false _ _ _ (le-ltb _ _ there))) there
    ] in
    choice_within (nat_lt (room place) 7) _ _ n filler
    (choice_within (nat_lt n 1) _ _ n z (choice_within (nat_lt n 7) _ _ n z (choice_within (nat_lt (room place) (7 + size_at bytes)) _ _ n z (typed_within (part_of (type_at bytes)) half bytes))))

walk_within : (skip place : ℕ) (half : Option (List ℕ)) (bytes : List ℕ) → skip ≤ length bytes → bytes_of (walk skip place half bytes) + skip ≤ length bytes
unfolding walk
walk_within skip place half [] h = let s = step_within place half [] in omega arith
walk_within (suc skip) place half (b ∷ bs) h = let s = walk_within skip (place + 1) half bs (omega arith) in omega arith
walk_within zero place half (b ∷ bs) h =
    let s = step_within place half (b ∷ bs) in
    let go : (step : Step) → size_of step ≤ suc (length bs) → size_of step + bytes_of (go_on (behind half step) (λ next size. walk (size - 1) (place + 1) next bs)) + 0 ≤ suc (length bs) = λ step. elim step as (λ t. size_of t ≤ suc (length bs) → size_of t + bytes_of (go_on (behind half t) (λ next size. walk (size - 1) (place + 1) next bs)) + 0 ≤ suc (length bs)) [
      | Ends cause ↦ λ h. omega arith
      | Skips size ↦ λ h. let w = walk_within (size - 1) (place + 1) half bs (omega arith) in omega arith
      | Reads whole next size ↦ λ h. let w = walk_within (size - 1) (place + 1) next bs (omega arith) in omega arith
    ] in
    go (step_at place half (b ∷ bs)) s

pub ending_within : (bytes : List ℕ) → (ending bytes).0 ≤ length bytes
ending_within bytes = let w = walk_within 0 0 None bytes (omega arith) in omega arith

-- what was found are the first records of the log, whatever follows
pub found_first : (fed more : List ℕ) (found : List (List ℕ × ℕ)) (r : Reading) → HasRead fed found r → (rest : List (List ℕ × ℕ)) × (placed_records (fed ++ more) ≡ found ++ rest)
found_first fed more found r reads =
    let rest = walk 0 r.place r.half (r.held ++ more) in (
      placed_from (0 + bytes_of reads.passed) rest,
      ap (placed_from 0) (reads.walks more) ∙ placed_from-append 0 reads.passed rest ∙ ap (λ f. f ++ placed_from (0 + bytes_of reads.passed) rest) reads.finds,
    )

-- the records of a log are the first, whatever follows
pub log_first : (bytes more : List ℕ) (payloads : List (List ℕ)) → IsLog bytes payloads → (rest : List (List ℕ)) × (records (bytes ++ more) ≡ payloads ++ rest)
log_first bytes more payloads log =
    let rest = walk 0 (0 + length bytes) None more in
    (records_of rest, ap records_of (log.walks more) ∙ records_of-append log.passed rest ∙ ap (λ r. r ++ records_of rest) log.records)
