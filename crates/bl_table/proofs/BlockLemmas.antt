-- A block and its trailer, test by test.
use Rattle.std.proofs.Common.{◌≡◌, ℕ, ◌+◌, ◌-◌, ◌*◌, ◌^◌, ◌<◌, ◌≤◌, ◌==◌, ◌&&◌, nat_lt, nat_le, not, cond, Bool, true, false, List, [], ◌∷◌, ◌++◌, length, map, take, drop, Option, None, Some, refl, sym, ◌∙◌, ap, subst, arith, ◌⊎◌, inl, inr, Result, Ok, Err}
use Rattle.std.proofs.lemmas.Bool.{cases_lt, cases_eq, le-ltb, lt-ltb, le-leb, lt-leb, eq-eqb, ne_eqb, cond-true, cond-false}
use Rattle.bl_code.specs.Crc.{crc_byte, crc_after}
use Rattle.bl_table.specs.declared.handle.Handle.{Handle}
use Rattle.bl_table.specs.declared.fault.TableRule.TheVariants.{Length, Restart}
use Rattle.bl_table.specs.Faults.{Fault, Answers, ◌and◌, comes_first, unless}
use Rattle.std.specs.Result.{IsErrAnd}
use Rattle.bl_table.specs.declared.fault.BadTable.{BadTable}
use Rattle.bl_table.specs.declared.fault.BadTable.TheVariants.{OutOfMemory}
use Rattle.bl_table.specs.Blocks.{Contents, faulty, contents, number_at, block_in, block_at, trailer_fault, read_block, entry_of}

pub crc_after-append : (a b : List ℕ) (state : ℕ) → crc_after state (a ++ b) ≡ crc_after (crc_after state a) b
unfolding crc_after
crc_after-append [] b state = refl
crc_after-append (x ∷ a) b state = crc_after-append a b (crc_byte state x)

pub block_short : (offset : ℕ) (bytes : List ℕ) → length bytes < 4 → block_in offset bytes ≡ faulty (Restart, offset)
unfolding block_in
block_short offset bytes short = cond-true _ _ _ (lt-ltb _ _ short)

no_count : (count at : ℕ) → (count ≡ 0) ⊎ (at < 4 * count) → (nat_lt 0 count && nat_le (4 * count) at) ≡ false
no_count count at (inl none) = rw (le-ltb 0 count (omega arith)) refl
no_count count at (inr many) = elim (nat_lt 0 count) as (λ b. (b && nat_le (4 * count) at) ≡ false) [ true ↦ lt-leb (4 * count) at many | false ↦ refl ]

some_count : (count at : ℕ) → 0 < count → 4 * count ≤ at → (nat_lt 0 count && nat_le (4 * count) at) ≡ true
some_count count at some fits = rw (lt-ltb 0 count some, le-leb (4 * count) at fits) refl

pub block_uncounted : (offset at count : ℕ) (bytes : List ℕ) → 4 ≤ length bytes → at ≡ length bytes - 4 → count ≡ number_at bytes at → (count ≡ 0) ⊎ (at < 4 * count) → block_in offset bytes ≡ faulty (Restart, offset + at)
unfolding block_in
block_uncounted offset at count bytes long ea ec bad =
    let C : ℕ → Bool = λ a. nat_lt 0 (number_at bytes a) && nat_le (4 * number_at bytes a) a in
    let bad' : C (length bytes - 4) ≡ false = ap C (sym ea) ∙ ap (λ c. nat_lt 0 c && nat_le (4 * c) at) (sym ec) ∙ no_count count at bad in
    cond-false _ _ _ (le-ltb _ _ long) ∙ cond-true _ _ _ (ap not bad') ∙ ap (λ a. faulty (Restart, offset + a)) (sym ea)

pub block_contents : (offset at count : ℕ) (bytes : List ℕ) → 4 ≤ length bytes → at ≡ length bytes - 4 → count ≡ number_at bytes at → 0 < count → 4 * count ≤ at → block_in offset bytes ≡ contents offset bytes (at - 4 * count) count
unfolding block_in
block_contents offset at count bytes long ea ec some fits =
    let C : ℕ → Bool = λ a. nat_lt 0 (number_at bytes a) && nat_le (4 * number_at bytes a) a in
    let good : C (length bytes - 4) ≡ true = ap C (sym ea) ∙ ap (λ c. nat_lt 0 c && nat_le (4 * c) at) (sym ec) ∙ some_count count at some fits in
    cond-false _ _ _ (le-ltb _ _ long) ∙ cond-false _ _ _ (ap not good)
    ∙ ap (λ a. contents offset bytes (a - 4 * number_at bytes a) (number_at bytes a)) (sym ea)
    ∙ ap (λ c. contents offset bytes (at - 4 * c) c) (sym ec)

is_whole : (a b c d : ℕ) → a ≡ b → c < d → ((a == b) && nat_lt c d) ≡ true
is_whole a b c d e f = rw (eq-eqb a b e, lt-ltb c d f) refl

not_whole : (a b c d : ℕ) → (a ≡ b → ⊥) ⊎ (d ≤ c) → ((a == b) && nat_lt c d) ≡ false
not_whole a b c d (inl n) = rw (ne_eqb a b n) refl
not_whole a b c d (inr f) = elim (a == b) as (λ t. (t && nat_lt c d) ≡ false) [ true ↦ le-ltb c d f | false ↦ refl ]

-- the bytes don't have the length that they are to have
pub block_unfit : (bytes : List ℕ) (h : Handle) → (length bytes ≡ h.size + 5 → ⊥) ⊎ (2 ^ 64 ≤ h.offset + h.size + 5) → block_at h bytes ≡ faulty (Length, h.offset)
unfolding block_at
block_unfit bytes h bad = cond-true _ _ _ (ap not (not_whole (length bytes) (h.size + 5) (h.offset + h.size + 5) (2 ^ 64) bad))

pub block_whole : (bytes : List ℕ) (h : Handle) (block : Contents) → length bytes ≡ h.size + 5 → h.offset + h.size + 5 < 2 ^ 64 → block_in h.offset (take h.size bytes) ≡ block
    → block_at h bytes ≡ record block { fault = block.fault and trailer_fault (h.offset + h.size) (take h.size bytes) (drop h.size bytes) }
unfolding block_at
block_whole bytes h block whole fits e =
    cond-false _ _ _ (ap not (is_whole (length bytes) (h.size + 5) (h.offset + h.size + 5) (2 ^ 64) whole fits))
    ∙ ap (λ (b : Contents). record b { fault = b.fault and trailer_fault (h.offset + h.size) (take h.size bytes) (drop h.size bytes) }) e

-- the first fault of the block and of its trailer
pub first_faulty : (bytes : List ℕ) (h : Handle) (fault of_block of_trailer : Option Fault) → length bytes ≡ h.size + 5 → h.offset + h.size + 5 < 2 ^ 64 → of_block ≡ (block_in h.offset (take h.size bytes)).fault
    → of_trailer ≡ trailer_fault (h.offset + h.size) (take h.size bytes) (drop h.size bytes) → fault ≡ (of_block and of_trailer) → fault ≡ (block_at h bytes).fault
first_faulty bytes h fault of_block of_trailer whole fits eb et e =
    e ∙ ap (λ f. f and of_trailer) eb ∙ ap (λ f. (block_in h.offset (take h.size bytes)).fault and f) et
    ∙ ap (λ (b : Contents). b.fault) (sym (block_whole bytes h (block_in h.offset (take h.size bytes)) whole fits refl))

pub read_fault : (bytes : List ℕ) (h : Handle) (fault : Fault) → Some fault ≡ (block_at h bytes).fault → read_block bytes h ≡ Err fault
read_fault bytes h fault e = ap (λ f. unless f (map (entry_of h.offset) (block_at h bytes).cells)) (sym e)

-- a block without a fault
pub record IsGood (bytes : List ℕ) (h : Handle) : Type 0 where
  pub whole : length bytes ≡ h.size + 5
  pub fits : h.offset + h.size + 5 < 2 ^ 64
  pub good : None ≡ (block_in h.offset (take h.size bytes)).fault
  pub read : read_block bytes h ≡ Ok (map (entry_of h.offset) (block_in h.offset (take h.size bytes)).cells)

pub left_none : (a b : Option Fault) → None ≡ (a and b) → None ≡ a
left_none None b e = refl
left_none (Some f) None e = absurd cc
left_none (Some f) (Some g) e = absurd (elim (comes_first g f) as (λ b. None ≡ cond b (Some g) (Some f) → ⊥) [ true ↦ λ no. cc | false ↦ λ no. cc ] e)

pub is_good : (bytes : List ℕ) (h : Handle) → None ≡ (block_at h bytes).fault → IsGood bytes h
is_good bytes h e =
    let unfit = λ (bad : (length bytes ≡ h.size + 5 → ⊥) ⊎ (2 ^ 64 ≤ h.offset + h.size + 5)). let f = e ∙ ap (λ (b : Contents). b.fault) (block_unfit bytes h bad) in let no : ⊥ = cc in no in
    elim (cases_eq (length bytes) (h.size + 5)) [
      | inr other ↦ absurd (unfit (inl other))
      | inl whole ↦ elim (cases_lt (h.offset + h.size + 5) (2 ^ 64)) [
        | inr much ↦ absurd (unfit (inr much))
        | inl fits ↦
            let is = block_whole bytes h (block_in h.offset (take h.size bytes)) whole fits refl in
            record {
              whole = whole;
              fits = fits;
              good = left_none _ _ (e ∙ ap (λ (b : Contents). b.fault) is);
              read = ap (λ f. unless f (map (entry_of h.offset) (block_at h bytes).cells)) (sym e) ∙ ap (λ (b : Contents). Ok (map (entry_of h.offset) b.cells)) is;
            }
      ]
    ]

-- a block without a fault has its restarts
pub has_count : (offset at count : ℕ) (bytes : List ℕ) → None ≡ (block_in offset bytes).fault → at ≡ length bytes - 4 → count ≡ number_at bytes at → (4 ≤ length bytes) × (0 < count) × (4 * count ≤ at)
has_count offset at count bytes good ea ec = elim (cases_lt (length bytes) 4) [
  | inl short ↦ absurd (let e = ap (λ (b : Contents). b.fault) (block_short offset bytes short) in cc)
  | inr long ↦ elim (cases_lt 0 count) [
    | inr none ↦ absurd (let e = ap (λ (b : Contents). b.fault) (block_uncounted offset at count bytes long ea ec (inl (omega arith))) in cc)
    | inl some ↦ elim (cases_lt at (4 * count)) [
      | inl many ↦ absurd (let e = ap (λ (b : Contents). b.fault) (block_uncounted offset at count bytes long ea ec (inr many)) in cc)
      | inr fits ↦ (long, some, fits)
    ]
  ]
]

pub good_limit : (offset at count : ℕ) (bytes : List ℕ) → None ≡ (block_in offset bytes).fault → at ≡ length bytes - 4 → count ≡ number_at bytes at → (block_in offset bytes ≡ contents offset bytes (at - 4 * count) count) × ((contents offset bytes (at - 4 * count) count).fault ≡ None)
good_limit offset at count bytes good ea ec =
    let has = has_count offset at count bytes good ea ec in
    let e : block_in offset bytes ≡ contents offset bytes (at - 4 * count) count = block_contents offset at count bytes has.0 ea ec has.1 has.2 in
    (e, ap (λ (b : Contents). b.fault) (sym e) ∙ sym good)

-- want of memory is always an answer
pub no_memory : {A : Type 0} (r : Result A BadTable) (reading : Result A Fault) → IsErrAnd r (λ bad. bad ≡ OutOfMemory) → Answers r reading
no_memory (Ok x) reading h = absurd h
no_memory {A = A} (Err bad) reading h = let P : BadTable → Type 0 = λ b. let r : Result A BadTable = Err b in Answers r reading in subst P (sym h) tt
