-- The loop over fields.
use Rattle.std.proofs.Common.{◌≡◌, ℕ, zero, suc, ◌-◌, ◌<◌, ◌≤◌, false, List, length, refl, sym, ◌∙◌, ap, arith}
use Rattle.std.proofs.Math.Dec.{eqb-suc-zero}
use Rattle.std.specs.Prelude.{◌==◌, None, Some, Result, Ok, Err}
use Rattle.bl_code.specs.Reading.{Input, from_start, take_varint32, or_fault, ◌>>=◌}
use Rattle.bl_edit.specs.declared.edit.Edit.{Edit}
use Rattle.bl_edit.specs.declared.error.BadEdit.{BadEdit}
use Rattle.bl_edit.specs.declared.error.BadEdit.TheVariants.{At}
use Rattle.bl_edit.specs.Reading.{Field, field_at, fields_at, no_field, read_edit, with_field}
use Rattle.bl_edit.proofs.Shorter.{varint32_less, field_left}

-- what follows on a tag, and on a field
abbrev pub field_with : ℕ → Edit → Field × Input → Result Edit BadEdit
field_with n e field = fields_at n (with_field e field.0) field.1

abbrev pub tag_with : ℕ → Edit → ℕ → ℕ × Input → Result Edit BadEdit
tag_with n e place tag = or_fault (At tag.0 place) (field_at tag.0 tag.1) >>= field_with n e

not_zero : (n : ℕ) → 0 < n → (n == 0) ≡ false
not_zero zero h = absurd (omega arith)
not_zero (suc n) h = eqb-suc-zero n

pub fields_zero : (e : Edit) (input : Input) → fields_at 0 e input ≡ Ok e
unfolding fields_at
fields_zero e input = refl

pub fields_end : (n : ℕ) (e : Edit) (input : Input) → length input.left ≡ 0 → fields_at n e input ≡ Ok e
unfolding fields_at
fields_end zero e input h = refl
fields_end (suc n) e input h = rw h refl

pub fields_some : (n : ℕ) (e : Edit) (input : Input) → 0 < length input.left → fields_at (suc n) e input ≡ (or_fault (At 0 input.place) (take_varint32 input) >>= tag_with n e input.place)
unfolding fields_at
fields_some n e input some = rw (not_zero (length input.left) some) refl

-- what the loop keeps: the fields behind its taker decide, joined to the edit so far
pub record Goes (bytes : List ℕ) (taker : Input) (e : Edit) : Type 0 where
  pub fuel : ℕ
  pub enough : length taker.left ≤ fuel
  pub reads : read_edit bytes ≡ fields_at fuel e taker

pub goes_start : (bytes : List ℕ) (taker : Input) → taker ≡ from_start bytes → Goes bytes taker no_field
unfolding read_edit
goes_start bytes taker e = record { fuel = length bytes; enough = omega (arith, ap (λ i. length i.left) e); reads = ap (fields_at (length bytes) no_field) (sym e) }

pub goes_end : (bytes : List ℕ) (taker : Input) (e : Edit) → Goes bytes taker e → length taker.left ≡ 0 → read_edit bytes ≡ Ok e
goes_end bytes taker e g none = g.reads ∙ fields_end g.fuel e taker none

goes_some : (bytes : List ℕ) (taker : Input) (e : Edit) → (g : Goes bytes taker e) → 0 < length taker.left
    → read_edit bytes ≡ (or_fault (At 0 taker.place) (take_varint32 taker) >>= tag_with (g.fuel - 1) e taker.place)
goes_some bytes taker e g some =
    let enough : length taker.left ≤ g.fuel = g.enough in
    let fuel : g.fuel ≡ suc (g.fuel - 1) = omega arith in
    g.reads ∙ ap (λ n. fields_at n e taker) fuel ∙ fields_some (g.fuel - 1) e taker some

pub goes_cut : (bytes : List ℕ) (taker : Input) (e : Edit) → Goes bytes taker e → 0 < length taker.left → take_varint32 taker ≡ None → read_edit bytes ≡ Err (At 0 taker.place)
goes_cut bytes taker e g some none = goes_some bytes taker e g some ∙ ap (λ r. or_fault (At 0 taker.place) r >>= tag_with (g.fuel - 1) e taker.place) none

goes_tag : (bytes : List ℕ) (taker : Input) (e : Edit) (tag : ℕ) (content : Input) → (g : Goes bytes taker e) → 0 < length taker.left → take_varint32 taker ≡ Some (tag, content)
    → read_edit bytes ≡ tag_with (g.fuel - 1) e taker.place (tag, content)
goes_tag bytes taker e tag content g some h = goes_some bytes taker e g some ∙ ap (λ r. or_fault (At 0 taker.place) r >>= tag_with (g.fuel - 1) e taker.place) h

pub goes_fault : (bytes : List ℕ) (taker : Input) (e : Edit) (tag : ℕ) (content : Input) → Goes bytes taker e → 0 < length taker.left → take_varint32 taker ≡ Some (tag, content)
    → field_at tag content ≡ None → read_edit bytes ≡ Err (At tag taker.place)
goes_fault bytes taker e tag content g some h none = goes_tag bytes taker e tag content g some h ∙ ap (λ r. or_fault (At tag taker.place) r >>= field_with (g.fuel - 1) e) none

pub goes_more : (bytes : List ℕ) (taker : Input) (e : Edit) (tag : ℕ) (content : Input) (field : Field) (behind : Input) → Goes bytes taker e → 0 < length taker.left
    → take_varint32 taker ≡ Some (tag, content) → field_at tag content ≡ Some (field, behind) → Goes bytes behind (with_field e field)
goes_more bytes taker e tag content field behind g some h found = record {
  fuel = g.fuel - 1;
  enough = omega (arith, varint32_less taker (tag, content) h, field_left tag content (field, behind) found, g.enough);
  reads = goes_tag bytes taker e tag content g some h ∙ ap (λ r. or_fault (At tag taker.place) r >>= field_with (g.fuel - 1) e) found;
}

pub field_less : (taker : Input) (tag : ℕ) (content : Input) (field : Field) (behind : Input) → take_varint32 taker ≡ Some (tag, content) → field_at tag content ≡ Some (field, behind)
    → length behind.left < length taker.left
field_less taker tag content field behind h found = omega (arith, varint32_less taker (tag, content) h, field_left tag content (field, behind) found)
