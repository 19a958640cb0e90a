-- The loop that spells a number.
use Rattle.std.proofs.Common.{◌≡◌, ℕ, zero, suc, ◌+◌, ◌-◌, ◌*◌, ◌/◌, ◌%◌, ◌^◌, ◌<◌, ◌≤◌, List, [], ◌∷◌, ◌++◌, sym, ◌∙◌, ap, arith, length, set, take, append_assoc, inl, inr, lit<, lit≤}
use Rattle.std.proofs.lemmas.Bool.Decides.{nat_tests}
use Rattle.std.proofs.Math.Nat.{pow-le-pow_right}
use Rattle.std.proofs.lemmas.List.{take_more_set}
use Rattle.std.proofs.lemmas.Bool.{cases_lt}
use Rattle.std.proofs.lemmas.Nat.{mul-le}
use Rattle.std.proofs.lemmas.Grind.{pow_more}
use Rattle.bl_code.specs.Numbers.{varint}

-- a tenth byte leaves no rest
pub used_small : (rest used value : ℕ) → rest * 128 ^ used ≤ value → value < 2 ^ 64 → 128 ≤ rest → used < 9
used_small rest used value fits bound more =
    elim (cases_lt used 9) [
      | inl small ↦ small
      | inr large ↦
          let nine : 128 ^ 9 ≤ 128 ^ used = pow-le-pow_right (lit< tt) large in
          let product : 128 * 128 ^ 9 ≤ rest * 128 ^ used = mul-le 128 (128 ^ 9) rest (128 ^ used) more nine in
          absurd (omega arith)
    ]

pub fits_on : (rest used value : ℕ) → rest * 128 ^ used ≤ value → (rest / 128) * 128 ^ (used + 1) ≤ value
fits_on rest used value fits =
    let less : (rest / 128) * 128 ≤ rest = omega arith in
    let product : (rest / 128) * 128 * 128 ^ used ≤ rest * 128 ^ used = mul-le ((rest / 128) * 128) (128 ^ used) rest (128 ^ used) less (omega arith) in
    rw (pow_more 128 used) (omega arith)

pub spelled_last : (k rest : ℕ) → rest < 128 → varint (suc k) rest ≡ rest ∷ []
unfolding varint
spelled_last k rest less = grind (arith, nat_tests)

pub spelled_more : (k rest : ℕ) → 128 ≤ rest → varint (suc k) rest ≡ (128 + rest % 128) ∷ varint k (rest / 128)
unfolding varint
spelled_more k rest more = grind (arith, nat_tests)

-- the bytes so far, when the rest needs no more than one byte
pub spelling_ends : (bytes : List ℕ) (used rest value : ℕ) → used ≤ 9 → rest < 128 → used < length bytes
    → take used bytes ++ varint (10 - used) rest ≡ varint 10 value → take (used + 1) (set bytes used rest) ≡ varint 10 value
spelling_ends bytes used rest value room less lt so_far =
    let e : 10 - used ≡ suc (9 - used) = omega arith in
    take_more_set bytes used rest lt ∙ ap (λ xs. take used bytes ++ xs) (sym (ap (λ k. varint k rest) e ∙ spelled_last (9 - used) rest less)) ∙ so_far

-- and when it needs more
pub spelling_goes_on : (bytes : List ℕ) (used rest value : ℕ) → used < 9 → 128 ≤ rest → used < length bytes
    → take used bytes ++ varint (10 - used) rest ≡ varint 10 value
    → take (used + 1) (set bytes used (128 + rest % 128)) ++ varint (10 - (used + 1)) (rest / 128) ≡ varint 10 value
spelling_goes_on bytes used rest value room more lt so_far =
    let e : 10 - used ≡ suc (10 - (used + 1)) = omega arith in
    ap (λ xs. xs ++ varint (10 - (used + 1)) (rest / 128)) (take_more_set bytes used (128 + rest % 128) lt)
    ∙ append_assoc (take used bytes) ((128 + rest % 128) ∷ []) (varint (10 - (used + 1)) (rest / 128))
    ∙ ap (λ xs. take used bytes ++ xs) (sym (ap (λ k. varint k rest) e ∙ spelled_more (10 - (used + 1)) rest more))
    ∙ so_far

-- more room than a number needs changes nothing
pub more_room : (k m n : ℕ) → k ≤ m → n < 128 ^ suc k → varint (suc k) n ≡ varint (suc m) n
more_room zero m n room fits =
    let small : n < 128 = omega arith in
    spelled_last zero n small ∙ sym (spelled_last m n small)
more_room (suc k) zero n room fits = absurd (omega arith)
more_room (suc k) (suc m) n room fits = elim (cases_lt n 128) [
  | inl small ↦ spelled_last (suc k) n small ∙ sym (spelled_last (suc m) n small)
  | inr large ↦
      let part : n / 128 < 128 ^ suc k = omega (arith, pow_more 128 (suc k)) in
      let room' : k ≤ m = omega arith in
      spelled_more (suc k) n large ∙ ap (λ xs. (128 + n % 128) ∷ xs) (more_room k m (n / 128) room' part) ∙ sym (spelled_more (suc m) n large)
]

pub room_of_32 : (n : ℕ) → n < 2 ^ 32 → varint 10 n ≡ varint 5 n
room_of_32 n fits = sym (more_room 4 9 n (lit≤ tt) (omega arith))
