-- Reading what was written: bytes that are passed over, filler, and a fragment.
use Rattle.std.proofs.Common.{◌≡◌, ℕ, suc, ◌+◌, ◌-◌, ◌^◌, ◌<◌, ◌≤◌, nat_lt, List, [], ◌∷◌, ◌++◌, length, Option, None, Some, refl, sym, ◌∙◌, ap, arith, add-zero, zero-add, take, drop, eq-eqb, inl, inr, append_assoc, append-nil, length-append, slice_index}
use Rattle.std.specs.Option.{option_to_list}
use Rattle.std.proofs.lemmas.Bool.{le-ltb, lt-ltb, cases_lt, cond-true, cond-false}
use Rattle.std.proofs.lemmas.Nat.{from_le_bytes-to_le_bytes_2, from_le_bytes-to_le_bytes_4}
use Rattle.std.proofs.Math.Seq.{take-append_seam}
use Rattle.bl_code.proofs.Basics.{mask_fits}
use Rattle.bl_code.specs.Numbers.{fixed16, fixed32}
use Rattle.bl_code.specs.Crc.{crc32c, mask_of}
use Rattle.bl_log.specs.Log.{Part, Step, Ends, Skips, at_end, Reads, joined, typed, room, part_of, sum_at, size_at, type_at, payload_at, step_at, behind, go_on, walk, size_of, whole_of, bytes_of, records_of, Gives, IsLog, records}
use Rattle.bl_log.specs.Layout.{fragment}

pub skip_over : (a more : List ℕ) (place : ℕ) (half : Option (List ℕ)) → walk (length a) place half (a ++ more) ≡ walk 0 (place + length a) half more
unfolding walk
skip_over [] more place half = ap (λ p. walk 0 p half more) (sym (add-zero place))
skip_over (x ∷ a) more place half =
    let e : place + 1 + length a ≡ place + suc (length a) = omega arith in
    skip_over a more (place + 1) half ∙ ap (λ p. walk 0 p half more) e

-- one step, over the bytes x and a
pub one_step : (x : ℕ) (a more : List ℕ) (place : ℕ) (half next : Option (List ℕ)) (step : Step) (size : ℕ)
    → size ≡ suc (length a) → step_at place half (x ∷ (a ++ more)) ≡ step → behind half step ≡ Some (next, size)
    → walk 0 place half (x ∷ (a ++ more)) ≡ step ∷ walk 0 (place + suc (length a)) next more
unfolding walk
one_step x a more place half next step size n e to =
    let less : size - 1 ≡ length a = omega arith in
    let place_is : place + 1 + length a ≡ place + suc (length a) = omega arith in
    ap (λ s. s ∷ go_on (behind half s) (λ h k. walk (k - 1) (place + 1) h (a ++ more))) e
    ∙ ap (λ b. step ∷ go_on b (λ h k. walk (k - 1) (place + 1) h (a ++ more))) to
    ∙ ap (λ k. step ∷ walk k (place + 1) next (a ++ more)) less
    ∙ ap (λ r. step ∷ r) (skip_over a more (place + 1) next ∙ ap (λ p. walk 0 p next more) place_is)

-- one step over some bytes, whatever follows
pub step_gives : (x : ℕ) (a : List ℕ) (place : ℕ) (half next : Option (List ℕ)) (step : Step) (size : ℕ)
    → size ≡ suc (length a) → ((more : List ℕ) → step_at place half (x ∷ (a ++ more)) ≡ step) → behind half step ≡ Some (next, size) → size_of step ≡ size
    → Gives place half (x ∷ a) (whole_of step ++ []) next
step_gives x a place half next step size n e to long = record {
  passed = step ∷ [];
  walks = λ more. one_step x a more place half next step size n (e more) to;
  records = refl;
  size = omega arith;
}

-- one reading after another
pub records_of-append : (a b : List Step) → records_of (a ++ b) ≡ records_of a ++ records_of b
records_of-append [] b = refl
records_of-append (s ∷ a) b = ap (λ r. whole_of s ++ r) (records_of-append a b) ∙ sym (append_assoc (whole_of s) (records_of a) (records_of b))

pub bytes_of-append : (a b : List Step) → bytes_of (a ++ b) ≡ bytes_of a + bytes_of b
bytes_of-append [] b = sym (zero-add (bytes_of b))
bytes_of-append (s ∷ a) b = let e = bytes_of-append a b in omega arith

pub gives_then : (place : ℕ) (half mid next : Option (List ℕ)) (a b : List ℕ) (f g : List (List ℕ))
    → Gives place half a f mid → Gives (place + length a) mid b g next → Gives place half (a ++ b) (f ++ g) next
gives_then place half mid next a b f g first second =
    let there : place + length a + length b ≡ place + length (a ++ b) = simp length-append (omega arith) in
    record {
      passed = first.passed ++ second.passed;
      walks = λ more.
          ap (walk 0 place half) (append_assoc a b more)
          ∙ first.walks (b ++ more)
          ∙ ap (λ r. first.passed ++ r) (second.walks more ∙ ap (λ p. second.passed ++ walk 0 p next more) there)
          ∙ sym (append_assoc first.passed second.passed (walk 0 (place + length (a ++ b)) next more));
      records = records_of-append first.passed second.passed ∙ ap (λ r. r ++ records_of second.passed) first.records ∙ ap (λ r. f ++ r) second.records;
      size = bytes_of-append first.passed second.passed ∙ ap (λ n. n + bytes_of second.passed) first.size ∙ ap (λ n. length a + n) second.size ∙ sym (length-append a b);
    }

pub gives_none : (place : ℕ) (half : Option (List ℕ)) → Gives place half [] [] half
gives_none place half = record { passed = []; walks = λ more. ap (λ p. walk 0 p half more) (sym (add-zero place)); records = refl; size = refl }

-- filler, whatever it holds
pub step_filler : (place : ℕ) (half : Option (List ℕ)) (bytes : List ℕ) → room place < 7 → room place ≤ length bytes → step_at place half bytes ≡ Skips (room place)
unfolding step_at
step_filler place half bytes small there =
    cond-true (nat_lt (room place) 7) _ _ (lt-ltb _ _ small) ∙ cond-false (nat_lt (length bytes) (room place)) _ _ (le-ltb _ _ there)

pub filler_gives : (zs : List ℕ) (place : ℕ) (half : Option (List ℕ)) → room place < 7 → length zs ≡ room place → Gives place half zs [] half
filler_gives [] place half small n = absurd (omega arith)
filler_gives (z ∷ zs) place half small n =
    step_gives z zs place half half (Skips (room place)) (room place) (sym n) (λ more. step_filler place half (z ∷ (zs ++ more)) small (simp length-append (omega arith))) refl refl

-- a whole fragment, by its fields
pub step_fragment : (place : ℕ) (half : Option (List ℕ)) (bytes payload : List ℕ) (n : ℕ) (part : Part)
    → 7 + n ≤ room place → 7 + n ≤ length bytes → size_at bytes ≡ n → payload_at bytes ≡ payload → part_of (type_at bytes) ≡ Some part
    → sum_at bytes ≡ mask_of (crc32c (type_at bytes ∷ payload)) → step_at place half bytes ≡ joined part half payload (7 + n)
unfolding step_at
step_fragment place half bytes payload n part fits there size_is payload_is part_is sum_is =
    let head : 7 ≤ room place = omega arith in
    let some : 1 ≤ length bytes = omega arith in
    let long : 7 ≤ length bytes = omega arith in
    let within : 7 + size_at bytes ≤ room place = rw size_is fits in
    let whole : 7 + size_at bytes ≤ length bytes = rw size_is there in
    cond-false (nat_lt (room place) 7) _ _ (le-ltb _ _ head)
    ∙ cond-false (nat_lt (length bytes) 1) _ _ (le-ltb _ _ some)
    ∙ cond-false (nat_lt (length bytes) 7) _ _ (le-ltb _ _ long)
    ∙ cond-false (nat_lt (room place) (7 + size_at bytes)) _ _ (le-ltb _ _ within)
    ∙ ap (λ p. typed p half bytes) part_is
    ∙ cond-false (nat_lt (length bytes) (7 + size_at bytes)) _ _ (le-ltb _ _ whole)
    ∙ cond-true _ _ _ (eq-eqb _ _ (sum_is ∙ ap (λ d. mask_of (crc32c (type_at bytes ∷ d))) (sym payload_is)))
    ∙ ap (λ d. joined part half d (7 + size_at bytes)) payload_is
    ∙ ap (λ k. joined part half payload (7 + k)) size_is

pub length-fragment : (kind : ℕ) (payload : List ℕ) → length (fragment kind payload) ≡ 7 + length payload
unfolding fragment fixed16 fixed32
length-fragment kind payload = omega arith

pub fragment_gives : (place : ℕ) (half : Option (List ℕ)) (kind : ℕ) (part : Part) (payload : List ℕ) (whole next : Option (List ℕ))
    → part_of kind ≡ Some part → 7 + length payload ≤ room place → length payload < 2 ^ 16
    → joined part half payload (7 + length payload) ≡ Reads whole next (7 + length payload)
    → Gives place half (fragment kind payload) (option_to_list whole) next
unfolding fragment fixed16 fixed32
fragment_gives place half kind part payload whole next part_is fits small join =
    let step = Reads whole next (7 + length payload) in
    let size : 7 + length payload ≡ suc (length (drop 1 (fragment kind payload))) = omega arith in
    let stands : (more : List ℕ) → step_at place half (fragment kind payload ++ more) ≡ step = λ more.
    let bytes : List ℕ = fragment kind payload ++ more in
    let size_is : size_at bytes ≡ length payload = from_le_bytes-to_le_bytes_2 (length payload) small in
    let payload_is : payload_at bytes ≡ payload = ap (λ k. take k (payload ++ more)) size_is ∙ take-append_seam payload more in
    let sum_is : sum_at bytes ≡ mask_of (crc32c (kind ∷ payload)) = from_le_bytes-to_le_bytes_4 _ (mask_fits (crc32c (kind ∷ payload))) in
    let there : 7 + length payload ≤ length bytes = simp length-append (omega arith) in
    step_fragment place half bytes payload (length payload) part fits there size_is payload_is part_is sum_is ∙ join in
    let given = step_gives (slice_index (fragment kind payload) 0) (drop 1 (fragment kind payload)) place half next step (7 + length payload) size stands refl refl in
    record { passed = given.passed; walks = given.walks; records = given.records ∙ append-nil (option_to_list whole); size = given.size }

-- no byte is left
pub step_at_end : (place : ℕ) (half : Option (List ℕ)) → step_at place half [] ≡ Ends (at_end half)
unfolding step_at
step_at_end place half = elim (cases_lt (room place) 7) [
  | inl small ↦ let some : 0 < room place = omega arith in cond-true _ _ _ (lt-ltb _ _ small) ∙ cond-true _ _ _ (lt-ltb 0 (room place) some)
  | inr roomy ↦ cond-false _ _ _ (le-ltb _ _ roomy)
]

pub walk_at_end : (place : ℕ) (half : Option (List ℕ)) → walk 0 place half [] ≡ Ends (at_end half) ∷ []
unfolding walk
walk_at_end place half = ap (λ s. s ∷ []) (step_at_end place half)

pub log_records : (bytes : List ℕ) (payloads : List (List ℕ)) → IsLog bytes payloads → records bytes ≡ payloads
log_records bytes payloads log =
    ap (λ b. records_of (walk 0 0 None b)) (sym (append-nil bytes)) ∙ ap records_of (log.walks [] ∙ ap (λ r. log.passed ++ r) (walk_at_end (0 + length bytes) None))
    ∙ records_of-append log.passed (Ends (at_end None) ∷ []) ∙ append-nil (records_of log.passed) ∙ log.records
