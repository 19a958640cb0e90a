-- Digits, and the number that they spell.
use Rattle.std.proofs.Common.{◌≡◌, ℕ, zero, suc, ◌+◌, ◌-◌, ◌*◌, ◌^◌, ◌<◌, ◌≤◌, List, [], ◌∷◌, ◌++◌, length, get_or, drop, refl, sym, ◌∙◌, ap, subst, inl, inr, arith, lit<, rules, add-one, length-append, drop-cons}
use Rattle.std.specs.Prelude.{replicate, decimal}
use Rattle.std.specs.Int.{IsInRange}
use Rattle.std.proofs.Math.Nat.{pow-le-pow_right}
use Rattle.std.proofs.lemmas.Grind.{pow_more}
use Rattle.std.proofs.lemmas.Bool.{cases_lt}
use Rattle.std.proofs.lemmas.List.{length-replicate, drop_all}
use Rattle.std.proofs.lemmas.Str.Parse.{IsNumeralModel, numerals_by_fold, tells_by_index}
use Rattle.std.proofs.lemmas.Fmt.{decimal-digits_value, digits_decimal, digits_value-decimal, length-decimal-le, first_decimal}
use Rattle.bl_names.specs.Names.{IsNumber, IsWide, digits}

-- the number that these digits go on to, behind this one
abbrev pub read_on : ℕ → List ℕ → ℕ
read_on n [] = n
read_on n (d ∷ ds) = read_on (n * 10 + (d - 48)) ds

abbrev pub AreDigits : List ℕ → Type 0
AreDigits ds = (i : ℕ) → i < length ds → IsInRange 48 57 (get_or ds i 0)

own : IsNumeralModel AreDigits (read_on 0)
own = numerals_by_fold _ tells_by_index read_on (search rules)

more_zeros : (k m : ℕ) (ds : List ℕ) → m ≡ suc k → replicate m 48 ++ ds ≡ 48 ∷ (replicate k 48 ++ ds)
more_zeros k m ds e = rw e refl

zeros_are_digits : (k : ℕ) (ds : List ℕ) → AreDigits ds → AreDigits (replicate k 48 ++ ds)
zeros_are_digits zero ds h = h
zeros_are_digits (suc k) ds h = tells_by_index.more 48 (replicate k 48 ++ ds) (omega arith, omega arith) (zeros_are_digits k ds h)

zeros_read : (k : ℕ) (ds : List ℕ) → read_on 0 (replicate k 48 ++ ds) ≡ read_on 0 ds
zeros_read zero ds = refl
zeros_read (suc k) ds = zeros_read k ds

rest_are_digits : (d : ℕ) (ds : List ℕ) → AreDigits (d ∷ ds) → AreDigits ds
rest_are_digits d ds h = (tells_by_index.parts d ds h).1

-- digits are zeros and the decimal digits of their number
filled : (ds : List ℕ) → AreDigits ds → 0 < read_on 0 ds → read_on 0 ds < 2 ^ 64
    → ds ≡ replicate (length ds - length (decimal (read_on 0 ds))) 48 ++ decimal (read_on 0 ds)
filled [] h some small = absurd (omega arith)
filled (d ∷ ds) h some small = elim (cases_lt 48 d) [
  | inl more ↦
      let same : decimal (read_on 0 (d ∷ ds)) ≡ d ∷ ds = decimal-digits_value own (d ∷ ds) h (omega arith) (λ e. absurd (omega arith)) small in
      let none : length (d ∷ ds) - length (decimal (read_on 0 (d ∷ ds))) ≡ 0 = omega (arith, ap length same) in
      sym (ap (λ k. replicate k 48 ++ decimal (read_on 0 (d ∷ ds))) none ∙ same)
  | inr less ↦
      let zero_is : d ≡ 48 = omega (arith, h 0) in
      let read : read_on 0 (d ∷ ds) ≡ read_on 0 ds = ap (λ x. read_on (0 * 10 + (x - 48)) ds) zero_is in
      let rest = filled ds (rest_are_digits d ds h) (omega arith) (omega arith) in
      let shorter : length ds ≡ length ds - length (decimal (read_on 0 ds)) + length (decimal (read_on 0 ds)) =
      ap length rest ∙ length-append (replicate (length ds - length (decimal (read_on 0 ds))) 48) (decimal (read_on 0 ds)) ∙ ap (λ k. k + length (decimal (read_on 0 ds))) (length-replicate (length ds - length (decimal (read_on 0 ds))) 48) in
      let count : suc (length ds) - length (decimal (read_on 0 ds)) ≡ suc (length ds - length (decimal (read_on 0 ds))) = omega arith in
      ap (λ x. x ∷ ds) zero_is ∙ ap (λ xs. 48 ∷ xs) rest
      ∙ sym (more_zeros (length ds - length (decimal (read_on 0 ds))) (suc (length ds) - length (decimal (read_on 0 ds))) (decimal (read_on 0 ds)) count)
      ∙ ap (λ n. replicate (suc (length ds) - length (decimal n)) 48 ++ decimal n) (sym read)
]

pub spelled : (ds : List ℕ) → AreDigits ds → IsWide ds → 0 < read_on 0 ds → read_on 0 ds < 10 ^ 15 → ds ≡ digits (read_on 0 ds)
spelled ds h wide some small = elim wide [
  | inl six ↦ filled ds h some (omega arith) ∙ ap (λ k. replicate (k - length (decimal (read_on 0 ds))) 48 ++ decimal (read_on 0 ds)) six
  | inr more ↦
      let same : decimal (read_on 0 ds) ≡ ds = decimal-digits_value own ds h (omega arith) (λ e. absurd (more.2 e)) (omega arith) in
      let none : 6 - length (decimal (read_on 0 ds)) ≡ 0 = omega (arith, ap length same) in
      sym (ap (λ k. replicate k 48 ++ decimal (read_on 0 ds)) none ∙ same)
]

pub digits_are_digits : (n : ℕ) → IsNumber n → AreDigits (digits n)
digits_are_digits n h = zeros_are_digits (6 - length (decimal n)) (decimal n) (digits_decimal own n (omega arith))

pub digits_read : (n : ℕ) → IsNumber n → read_on 0 (digits n) ≡ n
digits_read n h = zeros_read (6 - length (decimal n)) (decimal n) ∙ digits_value-decimal own n (omega arith)

length_digits : (n : ℕ) → length (digits n) ≡ 6 - length (decimal n) + length (decimal n)
length_digits n = length-append (replicate (6 - length (decimal n)) 48) (decimal n) ∙ ap (λ k. k + length (decimal n)) (length-replicate (6 - length (decimal n)) 48)

pub digits_are_wide : (n : ℕ) → IsNumber n → IsWide (digits n)
digits_are_wide n h =
    let total = length_digits n in
    let most : length (decimal n) ≤ 15 = length-decimal-le 15 n (omega arith) h.1 (omega arith) in
    elim (cases_lt 6 (length (decimal n))) [
      | inl more ↦
          let none : 6 - length (decimal n) ≡ 0 = omega arith in
          let same : digits n ≡ decimal n = ap (λ k. replicate k 48 ++ decimal n) none in
          let first : 48 < get_or (decimal n) 0 0 = first_decimal n (omega arith) (omega arith) in
          let first_same : get_or (digits n) 0 0 ≡ get_or (decimal n) 0 0 = ap (λ xs. get_or xs 0 0) same in
          inr (omega arith, omega arith, omega arith)
      | inr less ↦ inl (omega arith)
    ]

pub digits_injective : (m n : ℕ) → IsNumber m → IsNumber n → digits m ≡ digits n → m ≡ n
digits_injective m n h k e = sym (digits_read m h) ∙ ap (read_on 0) e ∙ digits_read n k

-- one digit more
pub reads_on : (text : List ℕ) (number i : ℕ) → i < length text → read_on number (drop i text) ≡ read_on (number * 10 + (get_or text i 0 - 48)) (drop (i + 1) text)
reads_on text number i lt = ap (read_on number) (drop-cons text i 0 lt) ∙ ap (λ k. read_on (number * 10 + (get_or text i 0 - 48)) (drop k text)) (sym (add-one i))

pub read_all : (text : List ℕ) (number i : ℕ) → length text ≤ i → read_on number (drop i text) ≡ number
read_all text number i h = ap (read_on number) (drop_all i text h)

pub fewer : (number d i : ℕ) → number < 10 ^ i → d < 10 → number * 10 + d < 10 ^ (i + 1)
fewer number d i small digit = rw (pow_more 10 i) (omega arith)

pub at_most : (number i k : ℕ) → number < 10 ^ i → i ≤ k → number < 10 ^ k
at_most number i k small le = let p : 10 ^ i ≤ 10 ^ k = pow-le-pow_right (lit< tt) le in omega arith

-- what is no digit, or too narrow, is no number's text
pub not_digits : (text : List ℕ) (n i : ℕ) → IsNumber n → text ≡ digits n → i < length text → (IsInRange 48 57 (get_or text i 0) → ⊥) → ⊥
not_digits text n i h e lt no_digit =
    no_digit (subst AreDigits (sym e) (digits_are_digits n h) i lt)

pub not_wide : (text : List ℕ) (n : ℕ) → IsNumber n → text ≡ digits n → (IsWide text → ⊥) → ⊥
not_wide text n h e narrow = narrow (subst IsWide (sym e) (digits_are_wide n h))

-- the number of a text that is read to its end
pub number_is : (text : List ℕ) (number n i : ℕ) → IsNumber n → text ≡ digits n → length text ≤ i → read_on number (drop i text) ≡ read_on 0 text → number ≡ n
number_is text number n i h e end reads = sym (read_all text number i end) ∙ reads ∙ ap (read_on 0) e ∙ digits_read n h

-- and that it is in bounds, and spelled so
pub number_found : (text : List ℕ) (number i : ℕ) → AreDigits text → IsWide text → length text ≤ i → read_on number (drop i text) ≡ read_on 0 text
    → 0 < number → number < 10 ^ 15 → text ≡ digits number
number_found text number i all wide end reads some small =
    let e : read_on 0 text ≡ number = sym reads ∙ read_all text number i end in
    spelled text all wide (omega arith) (omega arith) ∙ ap digits e
