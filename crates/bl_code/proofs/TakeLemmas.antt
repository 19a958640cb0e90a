-- What a taker reads.
use Rattle.std.proofs.Common.{◌≡◌, ℕ, zero, suc, ◌+◌, ◌-◌, ◌*◌, ◌%◌, ◌^◌, ◌<◌, ◌≤◌, nat_lt, List, [], ◌∷◌, length, take, drop, get_or, Some, None, ◌∙◌, ap, refl, sym, arith, add-one, drop-cons, inl, inr}
use Rattle.std.specs.Prelude.{option_and_then}
use Rattle.std.proofs.lemmas.List.{length-take-le}
use Rattle.std.proofs.lemmas.Bool.{cases_lt, cond-true, cond-false, lt-ltb, le-ltb}
use Rattle.std.proofs.lemmas.Bool.Decides.{nat_tests}
use Rattle.std.proofs.lemmas.Nat.{mul-le}
use Rattle.std.proofs.lemmas.Grind.{pow_more}
use Rattle.bl_code.specs.Reading.{Input, Read, take_bytes, varint_in, Takes}

pub too_few : (n : ℕ) (input : Input) → length input.left < n → take_bytes n input ≡ None
unfolding take_bytes
too_few n input h = grind (arith, nat_tests)

pub enough : (n : ℕ) (input : Input) → n ≤ length input.left
    → take_bytes n input ≡ Some (take n input.left, record { place = input.place + n; left = drop n input.left })
unfolding take_bytes
enough n input h = grind (arith, nat_tests)

-- the bytes taken, by their parts
pub taken : (n : ℕ) (old new : Input) (front : List ℕ) → n ≤ length old.left → front ≡ take n old.left → new.place ≡ old.place + n
    → new.left ≡ drop n old.left → take_bytes n old ≡ Some (front, new)
taken n old new front h e p l = enough n old h ∙ (λ i. Some (sym e i, record { place = sym p i; left = sym l i }))

-- how many bytes were taken
pub length_taken : (n : ℕ) (old new : Input) (front : List ℕ) → Takes (Some front) old new (take_bytes n old) → length front ≡ n
length_taken n old new front h = elim (cases_lt (length old.left) n) [
  | inr fits ↦ let same : take n old.left ≡ front = grind (arith, enough n old fits, h) in ap length (sym same) ∙ length-take-le n old.left fits
  | inl short ↦ let none : ◌≡◌ {A = Read (List ℕ)} None (Some (front, new)) = sym (too_few n old short) ∙ h in cc
]

-- a number read after others: the value so far, and what one more is worth
abbrev pub behind : ℕ → ℕ → Read ℕ → Read ℕ
behind value scale reading = option_and_then (λ r. Some (value + scale * r.0, r.1)) reading

behind_more : (value scale b : ℕ) (reading : Read ℕ) → 128 ≤ b → b < 256
    → behind value scale (option_and_then (λ r. Some (b - 128 + 128 * r.0, r.1)) reading) ≡ behind (value + b % 128 * scale) (scale * 128) reading
behind_more value scale b None large byte = refl
behind_more value scale b (Some r) large byte =
    let low : b - 128 ≡ b % 128 = omega arith in
    let e : value + scale * (b % 128 + 128 * r.0) ≡ value + b % 128 * scale + scale * 128 * r.0 = grind arith in
    rw low (λ i. Some (e i, r.1))

pub nothing_left : (k place : ℕ) → varint_in k place [] ≡ None
unfolding varint_in
nothing_left zero place = refl
nothing_left (suc k) place = refl

pub no_room : (place : ℕ) (bytes : List ℕ) → varint_in 0 place bytes ≡ None
unfolding varint_in
no_room place bytes = refl

pub read_last : (k b place : ℕ) (rest : List ℕ) → b < 128 → varint_in (suc k) place (b ∷ rest) ≡ Some (b, record { place = place + 1; left = rest })
unfolding varint_in
read_last k b place rest small = cond-true (nat_lt b 128) _ _ (lt-ltb b 128 small)

pub read_more : (k b place : ℕ) (rest : List ℕ) → 128 ≤ b
    → varint_in (suc k) place (b ∷ rest) ≡ option_and_then (λ r. Some (b - 128 + 128 * r.0, r.1)) (varint_in k (place + 1) rest)
unfolding varint_in
read_more k b place rest large = cond-false (nat_lt b 128) _ _ (le-ltb b 128 large)

-- one turn of the loop, at the last byte and at another
pub turn_ends : (most i value scale b place : ℕ) (bytes : List ℕ) → i < most → i < length bytes → b ≡ get_or bytes i 0 → b < 128
    → behind value scale (varint_in (most - i) (place + i) (drop i bytes)) ≡ Some (value + b % 128 * scale, record { place = place + (i + 1); left = drop (i + 1) bytes })
turn_ends most i value scale b place bytes lt within here small =
    let k : most - i ≡ suc (most - (i + 1)) = omega arith in
    let front : drop i bytes ≡ b ∷ drop (suc i) bytes = drop-cons bytes i 0 within ∙ ap (λ x. x ∷ drop (suc i) bytes) (sym here) in
    let low : b ≡ b % 128 = omega arith in
    let worth : value + scale * b ≡ value + b % 128 * scale = ap (λ x. value + scale * x) low ∙ (grind arith) in
    let there : place + i + 1 ≡ place + (i + 1) = omega arith in
    rw (k, front)
    (ap (behind value scale) (read_last (most - (i + 1)) b (place + i) (drop (suc i) bytes) small)
    ∙ (λ j. Some (worth j, record { place = there j; left = drop (sym (add-one i) j) bytes })))

pub turn_goes_on : (most i value scale b place : ℕ) (bytes : List ℕ) → i < most → i < length bytes → b ≡ get_or bytes i 0 → 128 ≤ b → b < 256
    → behind value scale (varint_in (most - i) (place + i) (drop i bytes))
    ≡ behind (value + b % 128 * scale) (scale * 128) (varint_in (most - (i + 1)) (place + (i + 1)) (drop (i + 1) bytes))
turn_goes_on most i value scale b place bytes lt within here large byte =
    let k : most - i ≡ suc (most - (i + 1)) = omega arith in
    let front : drop i bytes ≡ b ∷ drop (suc i) bytes = drop-cons bytes i 0 within ∙ ap (λ x. x ∷ drop (suc i) bytes) (sym here) in
    let there : place + i + 1 ≡ place + (i + 1) = omega arith in
    rw (k, front)
    (ap (behind value scale) (read_more (most - (i + 1)) b (place + i) (drop (suc i) bytes) large)
    ∙ behind_more value scale b (varint_in (most - (i + 1)) (place + i + 1) (drop (suc i) bytes)) large byte
    ∙ (λ j. behind (value + b % 128 * scale) (scale * 128) (varint_in (most - (i + 1)) (there j) (drop (sym (add-one i) j) bytes))))

pub small_on : (value scale b i : ℕ) → scale ≡ 128 ^ i → value < 128 ^ i → value + b % 128 * scale < 128 ^ (i + 1)
small_on value scale b i worth small =
    let product : b % 128 * scale ≤ 127 * scale = mul-le (b % 128) scale 127 scale (omega arith) (omega arith) in
    omega (arith, pow_more 128 i)
