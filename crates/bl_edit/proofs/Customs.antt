-- The loops over custom fields.
use Rattle.std.proofs.Common.{◌≡◌, ℕ, zero, suc, ◌-◌, ◌<◌, ◌≤◌, Bool, true, false, List, length, refl, ◌∙◌, ap, arith}
use Rattle.std.proofs.lemmas.Bool.{eq-eqb}
use Rattle.std.proofs.lemmas.Bool.Decides.{nat_tests}
use Rattle.std.specs.Prelude.{cond, ◌==◌, Option, None, Some, option_and_then}
use Rattle.bl_code.specs.Reading.{Input, Read, take_slice, take_varint32}
use Rattle.bl_edit.specs.Reading.{◌then◌, oldest_at, behind_customs, table_customs, blob_customs, custom_of, is_required}
use Rattle.bl_edit.proofs.Shorter.{varint32_less, slice_left}

not_eqb : (m n : ℕ) → (m ≡ n → ⊥) → (m == n) ≡ false
not_eqb m n h = grind (arith, nat_tests)

-- ---- a blob file

abbrev passed_with : ℕ → ℕ × Input → Option Input
passed_with n tag = cond (tag.0 == 0) (Some tag.1) (take_slice tag.1 then λ content. cond (is_required tag.0) None (blob_customs n content.1))

blob_cut : (n : ℕ) (input : Input) → take_varint32 input ≡ None → blob_customs n input ≡ None
unfolding blob_customs
blob_cut zero input h = refl
blob_cut (suc n) input h = ap (option_and_then (passed_with n)) h

blob_more : (n : ℕ) (input : Input) (tag : ℕ × Input) → length input.left ≤ n → take_varint32 input ≡ Some tag → blob_customs n input ≡ passed_with (n - 1) tag
unfolding blob_customs
blob_more zero input tag enough h = absurd (omega (arith, varint32_less input tag h))
blob_more (suc n) input tag enough h =
    let same : n ≡ suc n - 1 = omega arith in
    ap (option_and_then (passed_with n)) h ∙ ap (λ k. passed_with k tag) same

-- what the loop keeps: the custom fields behind its taker decide
pub record PassesOn (start taker : Input) : Type 0 where
  pub fuel : ℕ
  pub enough : length taker.left ≤ fuel
  pub reads : behind_customs start ≡ blob_customs fuel taker

pub passes_start : (start : Input) → PassesOn start start
passes_start start = record { fuel = length start.left; enough = omega arith; reads = refl }

pub passes_cut : (start taker : Input) → PassesOn start taker → take_varint32 taker ≡ None → behind_customs start ≡ None
passes_cut start taker p h = p.reads ∙ blob_cut p.fuel taker h

pub passes_end : (start taker : Input) (tag : ℕ) (behind : Input) → PassesOn start taker → take_varint32 taker ≡ Some (tag, behind) → tag ≡ 0 → behind_customs start ≡ Some behind
passes_end start taker tag behind p h end =
    p.reads ∙ blob_more p.fuel taker (tag, behind) p.enough h
    ∙ ap (λ t. cond t (Some behind) (take_slice behind then λ content. cond (is_required tag) None (blob_customs (p.fuel - 1) content.1))) (eq-eqb tag 0 end)

not_end : (start taker : Input) (tag : ℕ) (behind : Input) → (p : PassesOn start taker) → take_varint32 taker ≡ Some (tag, behind) → (tag ≡ 0 → ⊥)
    → behind_customs start ≡ (take_slice behind then λ content. cond (is_required tag) None (blob_customs (p.fuel - 1) content.1))
not_end start taker tag behind p h more =
    p.reads ∙ blob_more p.fuel taker (tag, behind) p.enough h
    ∙ ap (λ t. cond t (Some behind) (take_slice behind then λ content. cond (is_required tag) None (blob_customs (p.fuel - 1) content.1))) (not_eqb tag 0 more)

pub passes_no_content : (start taker : Input) (tag : ℕ) (behind : Input) → PassesOn start taker → take_varint32 taker ≡ Some (tag, behind) → (tag ≡ 0 → ⊥)
    → take_slice behind ≡ None → behind_customs start ≡ None
passes_no_content start taker tag behind p h more none =
    not_end start taker tag behind p h more ∙ ap (option_and_then (λ content. cond (is_required tag) None (blob_customs (p.fuel - 1) content.1))) none

one_more : (start taker : Input) (tag : ℕ) (behind : Input) (content : List ℕ × Input) (required : Bool) → (p : PassesOn start taker) → take_varint32 taker ≡ Some (tag, behind) → (tag ≡ 0 → ⊥)
    → take_slice behind ≡ Some content → is_required tag ≡ required → behind_customs start ≡ cond required None (blob_customs (p.fuel - 1) content.1)
one_more start taker tag behind content required p h more some e =
    not_end start taker tag behind p h more ∙ ap (option_and_then (λ content. cond (is_required tag) None (blob_customs (p.fuel - 1) content.1))) some
    ∙ ap (λ t. cond t None (blob_customs (p.fuel - 1) content.1)) e

pub passes_required : (start taker : Input) (tag : ℕ) (behind : Input) (content : List ℕ × Input) → PassesOn start taker → take_varint32 taker ≡ Some (tag, behind) → (tag ≡ 0 → ⊥)
    → take_slice behind ≡ Some content → is_required tag ≡ true → behind_customs start ≡ None
passes_required start taker tag behind content p h more some e = one_more start taker tag behind content true p h more some e

pub passes_more : (start taker : Input) (tag : ℕ) (behind : Input) (content : List ℕ × Input) → PassesOn start taker → take_varint32 taker ≡ Some (tag, behind) → (tag ≡ 0 → ⊥)
    → take_slice behind ≡ Some content → is_required tag ≡ false → PassesOn start content.1
passes_more start taker tag behind content p h more some e = record {
  fuel = p.fuel - 1;
  enough = omega (arith, varint32_less taker (tag, behind) h, slice_left behind content some, p.enough);
  reads = one_more start taker tag behind content false p h more some e;
}

pub two_less : (taker : Input) (tag : ℕ) (behind : Input) (content : List ℕ × Input) → take_varint32 taker ≡ Some (tag, behind) → take_slice behind ≡ Some content
    → length content.1.left < length taker.left
two_less taker tag behind content h some = omega (arith, varint32_less taker (tag, behind) h, slice_left behind content some)

-- ---- a table

abbrev oldest_with : ℕ → ℕ → ℕ × Input → Read ℕ
oldest_with n oldest tag =
    cond (tag.0 == 1) (Some (oldest, tag.1)) (take_slice tag.1 then λ content. custom_of oldest tag.0 content.0 then λ known. table_customs n known content.1)

table_cut : (n oldest : ℕ) (input : Input) → take_varint32 input ≡ None → table_customs n oldest input ≡ None
unfolding table_customs
table_cut zero oldest input h = refl
table_cut (suc n) oldest input h = ap (option_and_then (oldest_with n oldest)) h

table_more : (n oldest : ℕ) (input : Input) (tag : ℕ × Input) → length input.left ≤ n → take_varint32 input ≡ Some tag → table_customs n oldest input ≡ oldest_with (n - 1) oldest tag
unfolding table_customs
table_more zero oldest input tag enough h = absurd (omega (arith, varint32_less input tag h))
table_more (suc n) oldest input tag enough h =
    let same : n ≡ suc n - 1 = omega arith in
    ap (option_and_then (oldest_with n oldest)) h ∙ ap (λ k. oldest_with k oldest tag) same

-- what the loop keeps: the custom fields behind its taker decide, with the file that is known so far
pub record GoesOn (start taker : Input) (oldest : ℕ) : Type 0 where
  pub fuel : ℕ
  pub enough : length taker.left ≤ fuel
  pub reads : oldest_at start ≡ table_customs fuel oldest taker

pub goes_start : (start : Input) → GoesOn start start 0
goes_start start = record { fuel = length start.left; enough = omega arith; reads = refl }

pub goes_cut : (start taker : Input) (oldest : ℕ) → GoesOn start taker oldest → take_varint32 taker ≡ None → oldest_at start ≡ None
goes_cut start taker oldest g h = g.reads ∙ table_cut g.fuel oldest taker h

pub goes_end : (start taker : Input) (oldest tag : ℕ) (behind : Input) → GoesOn start taker oldest → take_varint32 taker ≡ Some (tag, behind) → tag ≡ 1
    → oldest_at start ≡ Some (oldest, behind)
goes_end start taker oldest tag behind g h end =
    g.reads ∙ table_more g.fuel oldest taker (tag, behind) g.enough h
    ∙ ap (λ t. cond t (Some (oldest, behind)) (take_slice behind then λ content. custom_of oldest tag content.0 then λ known. table_customs (g.fuel - 1) known content.1)) (eq-eqb tag 1 end)

goes_content : (start taker : Input) (oldest tag : ℕ) (behind : Input) → (g : GoesOn start taker oldest) → take_varint32 taker ≡ Some (tag, behind) → (tag ≡ 1 → ⊥)
    → oldest_at start ≡ (take_slice behind then λ content. custom_of oldest tag content.0 then λ known. table_customs (g.fuel - 1) known content.1)
goes_content start taker oldest tag behind g h more =
    g.reads ∙ table_more g.fuel oldest taker (tag, behind) g.enough h
    ∙ ap (λ t. cond t (Some (oldest, behind)) (take_slice behind then λ content. custom_of oldest tag content.0 then λ known. table_customs (g.fuel - 1) known content.1)) (not_eqb tag 1 more)

pub goes_no_content : (start taker : Input) (oldest tag : ℕ) (behind : Input) → GoesOn start taker oldest → take_varint32 taker ≡ Some (tag, behind) → (tag ≡ 1 → ⊥)
    → take_slice behind ≡ None → oldest_at start ≡ None
goes_no_content start taker oldest tag behind g h more none =
    goes_content start taker oldest tag behind g h more ∙ ap (option_and_then (λ content. custom_of oldest tag content.0 then λ known. table_customs (g.fuel - 1) known content.1)) none

goes_known : (start taker : Input) (oldest tag : ℕ) (behind : Input) (content : List ℕ × Input) → (g : GoesOn start taker oldest) → take_varint32 taker ≡ Some (tag, behind) → (tag ≡ 1 → ⊥)
    → take_slice behind ≡ Some content → oldest_at start ≡ (custom_of oldest tag content.0 then λ known. table_customs (g.fuel - 1) known content.1)
goes_known start taker oldest tag behind content g h more some =
    goes_content start taker oldest tag behind g h more ∙ ap (option_and_then (λ content. custom_of oldest tag content.0 then λ known. table_customs (g.fuel - 1) known content.1)) some

pub goes_fault : (start taker : Input) (oldest tag : ℕ) (behind : Input) (content : List ℕ × Input) → GoesOn start taker oldest → take_varint32 taker ≡ Some (tag, behind) → (tag ≡ 1 → ⊥)
    → take_slice behind ≡ Some content → custom_of oldest tag content.0 ≡ None → oldest_at start ≡ None
goes_fault start taker oldest tag behind content g h more some none =
    goes_known start taker oldest tag behind content g h more some ∙ ap (option_and_then (λ known. table_customs (g.fuel - 1) known content.1)) none

pub goes_more : (start taker : Input) (oldest tag : ℕ) (behind : Input) (content : List ℕ × Input) (known : ℕ) → GoesOn start taker oldest → take_varint32 taker ≡ Some (tag, behind)
    → (tag ≡ 1 → ⊥) → take_slice behind ≡ Some content → custom_of oldest tag content.0 ≡ Some known → GoesOn start content.1 known
goes_more start taker oldest tag behind content known g h more some e = record {
  fuel = g.fuel - 1;
  enough = omega (arith, varint32_less taker (tag, behind) h, slice_left behind content some, g.enough);
  reads = goes_known start taker oldest tag behind content g h more some ∙ ap (option_and_then (λ known. table_customs (g.fuel - 1) known content.1)) e;
}
