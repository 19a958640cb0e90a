-- What `judge` answers, exit by exit.
use Rattle.std.proofs.Common.{nat_eq, inl, inr, ap, sym, ◌≡◌, ◌≢◌, ℕ, zero, suc, ◌+◌, ◌<◌, ◌≤◌, nat_lt, true, false, List, [], ◌∷◌, length, Option, None, Some, refl, ◌∙◌, arith, get_or, ◌⊎◌, eq-eqb}
use Rattle.std.proofs.lemmas.Bool.{cases_lt, eqb-true, le-ltb, lt-ltb, ne_eqb, cond-true, cond-false}
use Rattle.std.specs.Int.{w16, w32, from_le_bytes}
use Rattle.bl_log.proofs.WalkLemmas.{step_at_end}
use Rattle.bl_code.specs.Crc.{crc32c, mask_of}
use Rattle.bl_log.specs.declared.cause.EndCause.TheVariants.{Cut, Length, Crc}
use Rattle.bl_log.specs.Judge.{joined_as}
use Rattle.bl_log.specs.Log.{Step, Part, Full, First, Middle, Last, Ends, at_end, joined, typed, room, part_of, sum_at, size_at, type_at, payload_at, step_at}

pub record Head (held : List ℕ) : Type 0 where
  pub sum : from_le_bytes w32 (get_or held 0 0 ∷ get_or held 1 0 ∷ get_or held 2 0 ∷ get_or held 3 0 ∷ []) ≡ sum_at held
  pub size : from_le_bytes w16 (get_or held 4 0 ∷ get_or held 5 0 ∷ []) ≡ size_at held

pub head_of : (held : List ℕ) → 7 ≤ length held → Head held
head_of [] h = absurd (omega arith)
head_of (a ∷ []) h = absurd (omega arith)
head_of (a ∷ b ∷ []) h = absurd (omega arith)
head_of (a ∷ b ∷ c ∷ []) h = absurd (omega arith)
head_of (a ∷ b ∷ c ∷ d ∷ []) h = absurd (omega arith)
head_of (a ∷ b ∷ c ∷ d ∷ e ∷ []) h = absurd (omega arith)
head_of (a ∷ b ∷ c ∷ d ∷ e ∷ f ∷ rest) h = record { sum = refl; size = refl }

pub ends_filler : (place : ℕ) (half : Option (List ℕ)) (bytes : List ℕ) → room place < 7 → length bytes < room place → step_at place half bytes ≡ Ends (at_end half)
unfolding step_at
ends_filler place half bytes small ends = cond-true (nat_lt (room place) 7) _ _ (lt-ltb _ _ small) ∙ cond-true (nat_lt (length bytes) (room place)) _ _ (lt-ltb _ _ ends)

pub ends_empty : (place : ℕ) (half : Option (List ℕ)) (bytes : List ℕ) → length bytes ≡ 0 → step_at place half bytes ≡ Ends (at_end half)
ends_empty place half [] n = step_at_end place half
ends_empty place half (b ∷ bs) n = absurd (omega arith)

pub ends_short : (place : ℕ) (half : Option (List ℕ)) (bytes : List ℕ) → 7 ≤ room place → 0 < length bytes → length bytes < 7 → step_at place half bytes ≡ Ends Cut
unfolding step_at
ends_short place half bytes roomy some short =
    let one : 1 ≤ length bytes = omega arith in
    cond-false (nat_lt (room place) 7) _ _ (le-ltb _ _ roomy) ∙ cond-false (nat_lt (length bytes) 1) _ _ (le-ltb _ _ one) ∙ cond-true (nat_lt (length bytes) 7) _ _ (lt-ltb _ _ short)

pub ends_past : (place : ℕ) (half : Option (List ℕ)) (bytes : List ℕ) → 7 ≤ room place → 7 ≤ length bytes → room place < 7 + size_at bytes → step_at place half bytes ≡ Ends Length
unfolding step_at
ends_past place half bytes roomy long past =
    let one : 1 ≤ length bytes = omega arith in
    cond-false (nat_lt (room place) 7) _ _ (le-ltb _ _ roomy) ∙ cond-false (nat_lt (length bytes) 1) _ _ (le-ltb _ _ one) ∙ cond-false (nat_lt (length bytes) 7) _ _ (le-ltb _ _ long) ∙ cond-true (nat_lt (room place) (7 + size_at bytes)) _ _ (lt-ltb _ _ past)

pub is_typed : (place : ℕ) (half : Option (List ℕ)) (bytes : List ℕ) → 7 ≤ length bytes → 7 + size_at bytes ≤ room place → step_at place half bytes ≡ typed (part_of (type_at bytes)) half bytes
unfolding step_at
is_typed place half bytes long fits =
    let roomy : 7 ≤ room place = omega arith in
    let one : 1 ≤ length bytes = omega arith in
    cond-false (nat_lt (room place) 7) _ _ (le-ltb _ _ roomy) ∙ cond-false (nat_lt (length bytes) 1) _ _ (le-ltb _ _ one) ∙ cond-false (nat_lt (length bytes) 7) _ _ (le-ltb _ _ long) ∙ cond-false (nat_lt (room place) (7 + size_at bytes)) _ _ (le-ltb _ _ fits)

pub no_part : (t : ℕ) → (t ≡ 0) ⊎ (4 < t) → part_of t ≡ None
no_part t other =
    let n1 : t ≢ 1 = grind arith in
    let n2 : t ≢ 2 = grind arith in
    let n3 : t ≢ 3 = grind arith in
    let n4 : t ≢ 4 = grind arith in
    rw (ne_eqb t 1 n1, ne_eqb t 2 n2, ne_eqb t 3 n3, ne_eqb t 4 n4) refl

pub some_part : (t : ℕ) → (t ≡ 0 → ⊥) → t ≤ 4 → (p : Part) × (part_of t ≡ Some p)
some_part zero some few = absurd (some refl)
some_part (suc zero) some few = (Full, refl)
some_part (suc (suc zero)) some few = (First, refl)
some_part (suc (suc (suc zero))) some few = (Middle, refl)
some_part (suc (suc (suc (suc zero)))) some few = (Last, refl)
some_part (suc (suc (suc (suc (suc t))))) some few = absurd (omega arith)

pub typed_cut : (p : Part) (half : Option (List ℕ)) (bytes : List ℕ) → length bytes < 7 + size_at bytes → typed (Some p) half bytes ≡ Ends Cut
typed_cut p half bytes cut = cond-true _ _ _ (lt-ltb _ _ cut)

pub typed_crc : (p : Part) (half : Option (List ℕ)) (bytes : List ℕ) → 7 + size_at bytes ≤ length bytes → (sum_at bytes ≡ mask_of (crc32c (type_at bytes ∷ payload_at bytes)) → ⊥) → typed (Some p) half bytes ≡ Ends Crc
typed_crc p half bytes there other = cond-false _ _ _ (le-ltb _ _ there) ∙ cond-false _ _ _ (ne_eqb _ _ other)

pub typed_whole : (p : Part) (half : Option (List ℕ)) (bytes : List ℕ) → 7 + size_at bytes ≤ length bytes → sum_at bytes ≡ mask_of (crc32c (type_at bytes ∷ payload_at bytes)) → typed (Some p) half bytes ≡ joined p half (payload_at bytes) (7 + size_at bytes)
typed_whole p half bytes there same = cond-false _ _ _ (le-ltb _ _ there) ∙ cond-true _ _ _ (eq-eqb _ _ same)

pub is_none : (n : ℕ) → nat_eq n 0 ≡ true → n ≡ 0
is_none n e = eqb-true n 0 e

pub is_some_byte : (n : ℕ) → nat_eq n 0 ≡ false → 0 < n
is_some_byte n e = elim (cases_lt 0 n) [ inl some ↦ some | inr none ↦ let t : nat_eq n 0 ≡ true = eq-eqb n 0 (omega arith) in cc ]

-- a whole fragment, by what is half read
pub joined_is : (type : ℕ) (p : Part) (half : Option (List ℕ)) (payload : List ℕ) (size : ℕ) (step : Step) → part_of type ≡ Some p
    → joined_as (part_of type) half payload size ≡ step → joined p half payload size ≡ step
joined_is type p half payload size step e h = ap (λ q. joined_as q half payload size) (sym e) ∙ h
