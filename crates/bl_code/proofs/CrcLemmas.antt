-- The bits of the checksum, and what a table of bytes may do.
use Rattle.std.proofs.Common.{◌≡◌, ℕ, zero, suc, ◌+◌, ◌*◌, ◌/◌, ◌%◌, ◌^◌, ◌<◌, ◌≤◌, bit_xor, Bool, true, false, List, [], ◌∷◌, ◌++◌, refl, sym, ◌∙◌, ap, ◌⊎◌, inl, inr, arith, get_or, length, cond, nat_eq, zero-add, add-one, eqb-true, take, drop, drop-cons}
use Rattle.std.proofs.lemmas.List.{take-append-drop, drop_all}
use Rattle.std.specs.List.{range_with_len}
use Rattle.std.proofs.lemmas.List.FromFn.{get_or-range_with_len}
use Rattle.std.specs.Int.{rotate_left, rotate_right, w32}
use Rattle.std.specs.Int.RustNames.{bit_or}
use Rattle.std.proofs.lemmas.Nat.{or_comm, or_shifted, xor_shr, xor_mod, xor_comm}
use Rattle.std.proofs.Math.Nat.{pow-suc}
use lib.Bits.{xor_assoc, xor_self, xor_zero_r, xor_shifted}
use Rattle.std.specs.Int.Bits.{xor_zero_l}
use Rattle.bl_code.specs.declared.table.TheConstants.{TABLES}
use Rattle.bl_code.specs.Crc.{crc_bit, crc_bits, crc_byte, crc_after}

crc_bit_odd : (c : ℕ) → c % 2 ≡ 1 → crc_bit c ≡ bit_xor (c / 2) 0x82F63B78
crc_bit_odd c h = rw h refl

crc_bit_even : (c : ℕ) → c % 2 ≡ 0 → crc_bit c ≡ c / 2
crc_bit_even c h = rw h refl

parity : (c : ℕ) → (c % 2 ≡ 0) ⊎ (c % 2 ≡ 1)
parity c = grind arith

swap_last : (x y p : ℕ) → bit_xor (bit_xor x y) p ≡ bit_xor (bit_xor x p) y
swap_last x y p = rw (xor_assoc x y p, xor_comm y p, ← xor_assoc x p y) refl

cancel : (x y p : ℕ) → bit_xor (bit_xor x p) (bit_xor y p) ≡ bit_xor x y
cancel x y p = xor_assoc x p (bit_xor y p) ∙ ap (bit_xor x) (xor_comm p (bit_xor y p) ∙ xor_assoc y p p ∙ ap (bit_xor y) (xor_self p) ∙ xor_zero_r y)

halves : (a b : ℕ) → bit_xor a b / 2 ≡ bit_xor (a / 2) (b / 2)
halves a b = xor_shr a b 1

low : (a b m n : ℕ) → a % 2 ≡ m → b % 2 ≡ n → bit_xor a b % 2 ≡ bit_xor m n
low a b m n h k = xor_mod a b 1 ∙ (rw (h, k) refl)

-- a step is linear
pub crc_bit-xor : (a b : ℕ) → crc_bit (bit_xor a b) ≡ bit_xor (crc_bit a) (crc_bit b)
crc_bit-xor a b = elim (parity a) [
  | inl p ↦ elim (parity b) [
    | inl q ↦ rw (crc_bit_even (bit_xor a b) (low a b 0 0 p q), crc_bit_even a p, crc_bit_even b q) (halves a b)
    | inr q ↦ rw (crc_bit_odd (bit_xor a b) (low a b 0 1 p q), crc_bit_even a p, crc_bit_odd b q, halves a b) (xor_assoc (a / 2) (b / 2) 0x82F63B78)
  ]
  | inr p ↦ elim (parity b) [
    | inl q ↦ rw (crc_bit_odd (bit_xor a b) (low a b 1 0 p q), crc_bit_odd a p, crc_bit_even b q, halves a b) (swap_last (a / 2) (b / 2) 0x82F63B78)
    | inr q ↦ rw (crc_bit_even (bit_xor a b) (low a b 1 1 p q), crc_bit_odd a p, crc_bit_odd b q, halves a b) (sym (cancel (a / 2) (b / 2) 0x82F63B78))
  ]
]

pub crc_bits-xor : (n a b : ℕ) → crc_bits n (bit_xor a b) ≡ bit_xor (crc_bits n a) (crc_bits n b)
unfolding crc_bits
crc_bits-xor zero a b = refl
crc_bits-xor (suc n) a b = ap (crc_bits n) (crc_bit-xor a b) ∙ crc_bits-xor n (crc_bit a) (crc_bit b)

-- what stands above the bits comes down
pub crc_bits-high : (n h : ℕ) → crc_bits n (h * 2 ^ n) ≡ h
unfolding crc_bits
crc_bits-high zero h = omega arith
crc_bits-high (suc n) h =
    let e : h * 2 ^ suc n ≡ (h * 2 ^ n) * 2 = rw (pow-suc 2 n) (omega arith) in
    let even : (h * 2 ^ suc n) % 2 ≡ 0 = omega (arith, e) in
    let half : (h * 2 ^ suc n) / 2 ≡ h * 2 ^ n = omega (arith, e) in
    ap (crc_bits n) (crc_bit_even (h * 2 ^ suc n) even ∙ half) ∙ crc_bits-high n h

pub crc_bits-add : (n m c : ℕ) → crc_bits (n + m) c ≡ crc_bits m (crc_bits n c)
unfolding crc_bits
crc_bits-add zero m c = ap (λ k. crc_bits k c) (zero-add m)
crc_bits-add (suc n) m c = let e : suc n + m ≡ suc (n + m) = omega arith in ap (λ k. crc_bits k c) e ∙ crc_bits-add n m (crc_bit c)

-- a byte meets the low byte of the state, and the rest of the state comes down
pub crc_byte-split : (c b : ℕ) → b < 256 → crc_byte c b ≡ bit_xor (crc_bits 8 (bit_xor (c % 256) b)) (c / 256)
crc_byte-split c b h =
    let x = bit_xor c b in
    let none : b / 256 ≡ 0 = omega arith in
    let high : x / 256 ≡ c / 256 = xor_shr c b 8 ∙ ap (bit_xor (c / 256)) none ∙ xor_zero_r (c / 256) in
    let same : b % 256 ≡ b = omega arith in
    let low : x % 256 ≡ bit_xor (c % 256) b = xor_mod c b 8 ∙ ap (bit_xor (c % 256)) same in
    let fits : x % 256 < 2 ^ 8 = omega arith in
    let whole : bit_xor (x / 256 * 2 ^ 8) (x % 256) ≡ x = xor_shifted (x / 256) 8 (x % 256) fits ∙ (omega arith) in
    sym
    (ap (λ m. bit_xor (crc_bits 8 m) (c / 256)) (sym low)
    ∙ xor_comm (crc_bits 8 (x % 256)) (c / 256)
    ∙ ap (λ m. bit_xor m (crc_bits 8 (x % 256))) (sym high ∙ sym (crc_bits-high 8 (x / 256)))
    ∙ sym (crc_bits-xor 8 (x / 256 * 2 ^ 8) (x % 256))
    ∙ ap (crc_bits 8) whole)

pub crc_after-append : (c : ℕ) (xs ys : List ℕ) → crc_after c (xs ++ ys) ≡ crc_after (crc_after c xs) ys
unfolding crc_after
crc_after-append c [] ys = refl
crc_after-append c (x ∷ xs) ys = crc_after-append (crc_byte c x) xs ys

more_steps : (n c : ℕ) → crc_bits (8 * n) (crc_bits 8 c) ≡ crc_bits (8 * (n + 1)) c
more_steps n c = let e : 8 * (n + 1) ≡ 8 + 8 * n = omega arith in sym (ap (λ k. crc_bits k c) e ∙ crc_bits-add 8 (8 * n) c)

-- the state is linear too
pub crc_after-xor : (x y : ℕ) (bs : List ℕ) → crc_after (bit_xor x y) bs ≡ bit_xor (crc_bits (8 * length bs) x) (crc_after y bs)
unfolding crc_after crc_bits
crc_after-xor x y [] = refl
crc_after-xor x y (b ∷ bs) =
    let more : 8 * (length bs + 1) ≡ 8 * suc (length bs) = omega arith in
    ap (λ s. crc_after s bs) (ap (crc_bits 8) (xor_assoc x y b) ∙ crc_bits-xor 8 x (bit_xor y b))
    ∙ crc_after-xor (crc_bits 8 x) (crc_byte y b) bs
    ∙ ap (λ s. bit_xor s (crc_after (crc_byte y b) bs)) (more_steps (length bs) x ∙ ap (λ k. crc_bits k x) more)

-- the first byte, by the bytes behind it
pub crc_after-first : (c b : ℕ) (bs : List ℕ) → b < 256
    → crc_after c (b ∷ bs) ≡ bit_xor (crc_bits (8 * (length bs + 1)) (bit_xor (c % 256) b)) (crc_after (c / 256) bs)
unfolding crc_after
crc_after-first c b bs h =
    ap (λ s. crc_after s bs) (crc_byte-split c b h)
    ∙ crc_after-xor (crc_bits 8 (bit_xor (c % 256) b)) (c / 256) bs
    ∙ ap (λ s. bit_xor s (crc_after (c / 256) bs)) (more_steps (length bs) (bit_xor (c % 256) b))

-- and where nothing is left of the state
crc_after-fresh : (b : ℕ) (bs : List ℕ) → b < 256 → crc_after 0 (b ∷ bs) ≡ bit_xor (crc_bits (8 * (length bs + 1)) b) (crc_after 0 bs)
crc_after-fresh b bs h = crc_after-first 0 b bs h ∙ ap (λ s. bit_xor (crc_bits (8 * (length bs + 1)) s) (crc_after 0 bs)) (xor_zero_l b)

crc_after-none : (c : ℕ) → crc_after c [] ≡ c
unfolding crc_after
crc_after-none c = refl

-- eight bytes, each by its own table
pub crc_after-eight : (c b0 b1 b2 b3 b4 b5 b6 b7 : ℕ) → c < 2 ^ 32 → b0 < 256 → b1 < 256 → b2 < 256 → b3 < 256 → b4 < 256 → b5 < 256 → b6 < 256 → b7 < 256
    → bit_xor (bit_xor (bit_xor (bit_xor (bit_xor (bit_xor (bit_xor
    (crc_bits 64 (bit_xor (c % 256) b0)) (crc_bits 56 (bit_xor (c / 256 % 256) b1))) (crc_bits 48 (bit_xor (c / 65536 % 256) b2))) (crc_bits 40 (bit_xor (c / 16777216 % 256) b3)))
    (crc_bits 32 b4)) (crc_bits 24 b5)) (crc_bits 16 b6)) (crc_bits 8 b7)
    ≡ crc_after c (b0 ∷ b1 ∷ b2 ∷ b3 ∷ b4 ∷ b5 ∷ b6 ∷ b7 ∷ [])
crc_after-eight c b0 b1 b2 b3 b4 b5 b6 b7 fits h0 h1 h2 h3 h4 h5 h6 h7 =
    let s2 : c / 256 / 256 ≡ c / 65536 = omega arith in
    let s3 : c / 65536 / 256 ≡ c / 16777216 = omega arith in
    let s4 : c / 16777216 / 256 ≡ 0 = omega arith in
    let whole : crc_after c (b0 ∷ b1 ∷ b2 ∷ b3 ∷ b4 ∷ b5 ∷ b6 ∷ b7 ∷ [])
    ≡ bit_xor (crc_bits 64 (bit_xor (c % 256) b0)) (bit_xor (crc_bits 56 (bit_xor (c / 256 % 256) b1)) (bit_xor (crc_bits 48 (bit_xor (c / 65536 % 256) b2)) (bit_xor (crc_bits 40 (bit_xor (c / 16777216 % 256) b3))
    (bit_xor (crc_bits 32 b4) (bit_xor (crc_bits 24 b5) (bit_xor (crc_bits 16 b6) (bit_xor (crc_bits 8 b7) 0))))))) =
    rw (
      crc_after-first c b0 (b1 ∷ b2 ∷ b3 ∷ b4 ∷ b5 ∷ b6 ∷ b7 ∷ []) h0,
      crc_after-first (c / 256) b1 (b2 ∷ b3 ∷ b4 ∷ b5 ∷ b6 ∷ b7 ∷ []) h1,
      s2,
      crc_after-first (c / 65536) b2 (b3 ∷ b4 ∷ b5 ∷ b6 ∷ b7 ∷ []) h2,
      s3,
      crc_after-first (c / 16777216) b3 (b4 ∷ b5 ∷ b6 ∷ b7 ∷ []) h3,
      s4,
      crc_after-fresh b4 (b5 ∷ b6 ∷ b7 ∷ []) h4,
      crc_after-fresh b5 (b6 ∷ b7 ∷ []) h5,
      crc_after-fresh b6 (b7 ∷ []) h6,
      crc_after-fresh b7 [] h7,
      crc_after-none 0,
    )
    refl in
    simp (xor_assoc, whole, xor_zero_r)

pub eight_bytes : (xs : List ℕ) → length xs ≡ 8
    → xs ≡ get_or xs 0 0 ∷ get_or xs 1 0 ∷ get_or xs 2 0 ∷ get_or xs 3 0 ∷ get_or xs 4 0 ∷ get_or xs 5 0 ∷ get_or xs 6 0 ∷ get_or xs 7 0 ∷ []
eight_bytes (x0 ∷ x1 ∷ x2 ∷ x3 ∷ x4 ∷ x5 ∷ x6 ∷ x7 ∷ []) h = refl
eight_bytes (x0 ∷ x1 ∷ x2 ∷ x3 ∷ x4 ∷ x5 ∷ x6 ∷ x7 ∷ x8 ∷ xs) h = absurd (omega arith)
eight_bytes [] h = absurd (omega arith)
eight_bytes (x0 ∷ []) h = absurd (omega arith)
eight_bytes (x0 ∷ x1 ∷ []) h = absurd (omega arith)
eight_bytes (x0 ∷ x1 ∷ x2 ∷ []) h = absurd (omega arith)
eight_bytes (x0 ∷ x1 ∷ x2 ∷ x3 ∷ []) h = absurd (omega arith)
eight_bytes (x0 ∷ x1 ∷ x2 ∷ x3 ∷ x4 ∷ []) h = absurd (omega arith)
eight_bytes (x0 ∷ x1 ∷ x2 ∷ x3 ∷ x4 ∷ x5 ∷ []) h = absurd (omega arith)
eight_bytes (x0 ∷ x1 ∷ x2 ∷ x3 ∷ x4 ∷ x5 ∷ x6 ∷ []) h = absurd (omega arith)

-- the state after a front and what is behind it, and after the byte at a place and those behind it
pub crc_after-split : (c : ℕ) (xs front back : List ℕ) (n : ℕ) → front ≡ take n xs → back ≡ drop n xs → crc_after (crc_after c front) back ≡ crc_after c xs
crc_after-split c xs front back n f b = sym (crc_after-append c front back) ∙ ap (crc_after c) ((λ i. f i ++ b i) ∙ take-append-drop n xs)

pub crc_after-at : (c s b : ℕ) (xs : List ℕ) (i : ℕ) → i < length xs → b ≡ get_or xs i 0 → s ≡ crc_byte c b → crc_after s (drop (i + 1) xs) ≡ crc_after c (drop i xs)
unfolding crc_after
crc_after-at c s b xs i lt here after =
    let front : drop i xs ≡ b ∷ drop (suc i) xs = drop-cons xs i 0 lt ∙ ap (λ x. x ∷ drop (suc i) xs) (sym here) in
    (λ j. crc_after (after j) (drop (add-one i j) xs)) ∙ ap (crc_after c) (sym front)

pub crc_after-end : (c : ℕ) (xs : List ℕ) (i : ℕ) → length xs ≤ i → crc_after c (drop i xs) ≡ c
crc_after-end c xs i past = ap (crc_after c) (drop_all i xs past) ∙ crc_after-none c

-- y is what eight steps make of x, along two rows
abbrev is_next_row : List ℕ → List ℕ → Bool
is_next_row [] ys = true
is_next_row (x ∷ xs) [] = false
is_next_row (x ∷ xs) (y ∷ ys) = cond (nat_eq y (crc_bits 8 x)) (is_next_row xs ys) false

-- each row is the next of the one before it
abbrev are_next_rows : List ℕ → List (List ℕ) → Bool
are_next_rows row [] = true
are_next_rows row (next ∷ rows) = cond (is_next_row row next) (are_next_rows next rows) false

cond_true : (b c : Bool) → cond b c false ≡ true → b ≡ true
cond_true true c h = refl
cond_true false c h = cc

cond_rest : (b c : Bool) → cond b c false ≡ true → c ≡ true
cond_rest true c h = h
cond_rest false c h = cc

next_row_at : (xs ys : List ℕ) (i d e : ℕ) → is_next_row xs ys ≡ true → i < length xs → get_or ys i e ≡ crc_bits 8 (get_or xs i d)
next_row_at [] ys i d e t h = absurd (omega arith)
next_row_at (x ∷ xs) [] i d e t h = cc
next_row_at (x ∷ xs) (y ∷ ys) zero d e t h = eqb-true _ _ (cond_true _ _ t)
next_row_at (x ∷ xs) (y ∷ ys) (suc i) d e t h = next_row_at xs ys i d e (cond_rest _ _ t) (omega arith)

longer : (xs ys : List ℕ) → is_next_row xs ys ≡ true → length xs ≤ length ys
longer [] ys t = omega arith
longer (x ∷ xs) [] t = cc
longer (x ∷ xs) (y ∷ ys) t = let more : length xs ≤ length ys = longer xs ys (cond_rest (nat_eq y (crc_bits 8 x)) (is_next_row xs ys) t) in omega arith

rows_at : (n i d e : ℕ) (none row : List ℕ) (rows : List (List ℕ)) (k : ℕ) → are_next_rows row rows ≡ true → i < length row
    → get_or row i d ≡ crc_bits n i → k < length rows → get_or (get_or rows k none) i e ≡ crc_bits (n + 8 * (k + 1)) i
rows_at n i d e none row [] k t h first lt = absurd (omega arith)
rows_at n i d e none row (next ∷ rows) zero t h first lt =
    let steps : n + 8 ≡ n + 8 * (0 + 1) = omega arith in
    next_row_at row next i d e (cond_true _ _ t) h ∙ ap (crc_bits 8) first ∙ sym (crc_bits-add n 8 i) ∙ ap (λ m. crc_bits m i) steps
rows_at n i d e none row (next ∷ rows) (suc k) t h first lt =
    let steps : n + 8 + 8 * (k + 1) ≡ n + 8 * (suc k + 1) = omega arith in
    let within : i < length next = omega (arith, longer row next (cond_true _ _ t)) in
    rows_at (n + 8) i e e none next rows k (cond_rest _ _ t) within
    (next_row_at row next i d e (cond_true _ _ t) h ∙ ap (crc_bits 8) first ∙ sym (crc_bits-add n 8 i)) (omega arith)
    ∙ ap (λ m. crc_bits m i) steps

-- the tables begin with what eight steps make of each byte
tables_agree : are_next_rows (range_with_len 0 256) TABLES.now ≡ true
unfolding crc_bits
tables_agree = refl

no_steps : (i : ℕ) → crc_bits 0 i ≡ i
unfolding crc_bits
no_steps i = refl

pub tables_are : (behind byte : ℕ) (none : List ℕ) (e : ℕ) → behind < 8 → byte < 256
    → get_or (get_or TABLES.now behind none) byte e ≡ crc_bits (8 * (behind + 1)) byte
tables_are behind byte none e few h =
    let steps : 0 + 8 * (behind + 1) ≡ 8 * (behind + 1) = omega arith in
    let first : get_or (range_with_len 0 256) byte 0 ≡ crc_bits 0 byte = get_or-range_with_len 0 256 byte 0 h ∙ zero-add byte ∙ sym (no_steps byte) in
    rows_at 0 byte 0 e none (range_with_len 0 256) TABLES.now behind tables_agree h first few ∙ ap (λ m. crc_bits m byte) steps

-- turning is a sum, since the parts share no bit
pub rotated_right : (c : ℕ) → c < 2 ^ 32 → rotate_right w32 c 15 ≡ c / 2 ^ 15 + (c % 2 ^ 15) * 2 ^ 17
rotated_right c h =
    let low : c / 2 ^ 15 < 2 ^ 17 = omega arith in
    let high : (c * 2 ^ 17) % 2 ^ 32 ≡ (c % 2 ^ 15) * 2 ^ 17 = omega arith in
    or_comm (c / 2 ^ 15) ((c * 2 ^ 17) % 2 ^ 32)
    ∙ ap (λ x. bit_or x (c / 2 ^ 15)) high
    ∙ or_shifted (c % 2 ^ 15) 17 (c / 2 ^ 15) low
    ∙ omega arith

pub rotated_left : (c : ℕ) → c < 2 ^ 32 → rotate_left w32 c 15 ≡ (c % 2 ^ 17) * 2 ^ 15 + c / 2 ^ 17
rotated_left c h =
    let low : c / 2 ^ 17 < 2 ^ 15 = omega arith in
    let high : (c * 2 ^ 15) % 2 ^ 32 ≡ (c % 2 ^ 17) * 2 ^ 15 = omega arith in
    ap (λ x. bit_or x (c / 2 ^ 17)) high
    ∙ or_shifted (c % 2 ^ 17) 15 (c / 2 ^ 17) low
