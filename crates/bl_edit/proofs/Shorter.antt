-- What a reading leaves is no longer than what it began with.
use Rattle.std.proofs.Common.{◌≡◌, ℕ, zero, suc, ◌+◌, ◌-◌, ◌*◌, ◌^◌, ◌<◌, ◌≤◌, nat_lt, Bool, true, false, List, [], ◌∷◌, length, take, drop, length-drop, refl, sym, ◌∙◌, ap, arith}
use Rattle.std.specs.Prelude.{cond, nat_le, ◌==◌, Option, None, Some, option_and_then}
use Rattle.bl_code.specs.Reading.{Input, Read, take_bytes, take_slice, take_varint32, take_varint64, varint_in, below}
use Rattle.bl_edit.specs.Bounds.{deletion_fits, table_fits, addition_fits, garbage_fits}
use Rattle.bl_edit.specs.Reading.{◌then◌, only_if, as_field, options_at, values_in, deleted_at, table_at, addition_at, garbage_at, counts_at, oldest_at, behind_customs, table_customs, blob_customs, custom_of, is_required, passed_at, field_at, Field, Passed}

pub then_some : {A B : Type 0} (o : Option A) (f : A → Option B) (y : B) → option_and_then f o ≡ Some y → (x : A) × (o ≡ Some x) × (f x ≡ Some y)
then_some None f y h = cc
then_some (Some x) f y h = (x, refl, h)

pub some_is : {A : Type 0} {x y : A} → Some x ≡ Some y → x ≡ y
some_is e = cc

pub cond_some : {A : Type 0} (b : Bool) (x y : A) → cond {A = Option A} b (Some x) None ≡ Some y → (b ≡ true) × (x ≡ y)
cond_some true x y h = (refl, some_is h)
cond_some false x y h = cc

-- no more than so many bytes are left behind what is read
pub record Leaves {A : Type 0} (most : ℕ) (read : Read A) : Type 0 where
  pub left : (x : A × Input) → read ≡ Some x → length x.1.left ≤ most

pub leaves_then : {A B : Type 0} (most : ℕ) (read : Read A) (f : A × Input → Read B) → Leaves most read
    → ((x : A × Input) → length x.1.left ≤ most → Leaves most (f x)) → Leaves most (option_and_then f read)
leaves_then most read f h k = record { left = λ y e. let t = then_some read f y e in (k t.0 (h.left t.0 t.1)).left y t.2 }

pub leaves_behind : {B : Type 0} (most : ℕ) (read : Option Input) (f : Input → Read B) → ((x : Input) → read ≡ Some x → length x.left ≤ most)
    → ((x : Input) → length x.left ≤ most → Leaves most (f x)) → Leaves most (option_and_then f read)
leaves_behind most read f h k = record { left = λ y e. let t = then_some read f y e in (k t.0 (h t.0 t.1)).left y t.2 }

pub leaves_some : {A : Type 0} (most : ℕ) (x : A) (behind : Input) → length behind.left ≤ most → Leaves most (Some (x, behind))
leaves_some {A = A} most x behind h = record {
  left = λ y e.
      let p : ◌≡◌ {A = A × Input} (x, behind) y = some_is e in
      let same : length behind.left ≡ length y.1.left = ap (λ r. length r.1.left) p in
      omega arith;
}

pub leaves_if : {A : Type 0} (most : ℕ) (test : A → Bool) (read : Read A) → Leaves most read → Leaves most (only_if test read)
leaves_if {A = A} most test read h = record {
  left = λ y e.
      let t = then_some read (λ (r : A × Input). cond (test r.0) (Some r) None) y e in
      let p = (cond_some (test t.0.0) t.0 y t.2).1 in
      let same : length t.0.1.left ≡ length y.1.left = ap (λ r. length r.1.left) p in
      omega (arith, h.left t.0 t.1);
}

-- ---- numbers and slices

varint_step : (t : Bool) (b place : ℕ) (bs : List ℕ) (rest : Read ℕ) (r : ℕ × Input)
    → cond {A = Read ℕ} t (Some (b, record { place = place + 1; left = bs })) (option_and_then (λ r. Some (b - 128 + 128 * r.0, r.1)) rest) ≡ Some r
    → ((x : ℕ × Input) → rest ≡ Some x → length x.1.left < length bs) → length r.1.left ≤ length bs
varint_step true b place bs rest r h more =
    let e : ◌≡◌ {A = ℕ × Input} (b, record { place = place + 1; left = bs }) r = some_is h in
    omega (arith, ap (λ x. length x.1.left) e)
varint_step false b place bs rest r h more =
    let (x, is, e) = then_some rest (λ (r : ℕ × Input). Some (b - 128 + 128 * r.0, r.1)) r h in
    let p : ◌≡◌ {A = ℕ × Input} (b - 128 + 128 * x.0, x.1) r = some_is e in
    let bound : length x.1.left < length bs = more x is in
    omega (arith, ap (λ x. length x.1.left) p)

varint_less : (k place : ℕ) (bytes : List ℕ) (r : ℕ × Input) → varint_in k place bytes ≡ Some r → length r.1.left < length bytes
unfolding varint_in
varint_less zero place bytes r h = cc
varint_less (suc k) place [] r h = cc
varint_less (suc k) place (b ∷ bs) r h =
    let bound : length r.1.left ≤ length bs =
    varint_step (nat_lt b 128) b place bs (varint_in k (place + 1) bs) r h (λ x is. varint_less k (place + 1) bs x is) in
    omega arith

pub below_is : (bits : ℕ) (read : Read ℕ) (r : ℕ × Input) → below bits read ≡ Some r → (read ≡ Some r) × (nat_lt r.0 (2 ^ bits) ≡ true)
below_is bits read r h =
    let (x, is, e) = then_some read (λ (r : ℕ × Input). cond (nat_lt r.0 (2 ^ bits)) (Some r) None) r h in
    let p = cond_some (nat_lt x.0 (2 ^ bits)) x r e in
    (is ∙ ap Some p.1, sym (ap (λ y. nat_lt y.0 (2 ^ bits)) p.1) ∙ p.0)

pub varint32_less : (input : Input) (r : ℕ × Input) → take_varint32 input ≡ Some r → length r.1.left < length input.left
varint32_less input r h = varint_less 5 input.place input.left r (below_is 32 (varint_in 5 input.place input.left) r h).0

varint64_less : (input : Input) (r : ℕ × Input) → take_varint64 input ≡ Some r → length r.1.left < length input.left
varint64_less input r h = varint_less 10 input.place input.left r (below_is 64 (varint_in 10 input.place input.left) r h).0

bytes_left : (n : ℕ) (input : Input) (r : List ℕ × Input) → take_bytes n input ≡ Some r → length r.1.left ≤ length input.left
unfolding take_bytes
bytes_left n input r h =
    let p = (cond_some (nat_le n (length input.left)) (take n input.left, record { place = input.place + n; left = drop n input.left }) r h).1 in
    omega (arith, ap (λ (x : List ℕ × Input). length x.1.left) p, length-drop n input.left)

pub slice_left : (input : Input) (r : List ℕ × Input) → take_slice input ≡ Some r → length r.1.left < length input.left
slice_left input r h =
    let (size, is, e) = then_some (take_varint32 input) (λ (r : ℕ × Input). take_bytes r.0 r.1) r h in
    omega (arith, varint32_less input size is, bytes_left size.0 size.1 r e)

pub leaves_32 : (most : ℕ) (input : Input) → length input.left ≤ most → Leaves most (take_varint32 input)
leaves_32 most input h = record { left = λ r e. omega (arith, varint32_less input r e) }

pub leaves_64 : (most : ℕ) (input : Input) → length input.left ≤ most → Leaves most (take_varint64 input)
leaves_64 most input h = record { left = λ r e. omega (arith, varint64_less input r e) }

pub leaves_slice : (most : ℕ) (input : Input) → length input.left ≤ most → Leaves most (take_slice input)
leaves_slice most input h = record { left = λ r e. omega (arith, slice_left input r e) }

-- ---- custom fields

leaves_end : {A : Type 0} (most : ℕ) (t : Bool) (end rest : Read A) → Leaves most end → Leaves most rest → Leaves most (cond t end rest)
leaves_end most true end rest h k = h
leaves_end most false end rest h k = k

leaves_known : {A B : Type 0} (most : ℕ) (known : Option A) (f : A → Read B) → ((x : A) → Leaves most (f x)) → Leaves most (option_and_then f known)
leaves_known most known f k = record { left = λ y e. let t = then_some known f y e in (k t.0).left y t.2 }

customs_left : (n oldest most : ℕ) (input : Input) → length input.left ≤ most → Leaves most (table_customs n oldest input)
unfolding table_customs
customs_left zero oldest most input h = record { left = λ x e. cc }
customs_left (suc n) oldest most input h =
    leaves_then most (take_varint32 input)
    (λ tag. cond (tag.0 == 1) (Some (oldest, tag.1)) (take_slice tag.1 then λ content. custom_of oldest tag.0 content.0 then λ known. table_customs n known content.1))
    (leaves_32 most input h) (λ tag k.
    leaves_end most (tag.0 == 1) (Some (oldest, tag.1)) (take_slice tag.1 then λ content. custom_of oldest tag.0 content.0 then λ known. table_customs n known content.1)
    (leaves_some most oldest tag.1 k)
    (leaves_then most (take_slice tag.1) (λ content. custom_of oldest tag.0 content.0 then λ known. table_customs n known content.1) (leaves_slice most tag.1 k) (λ content l.
    leaves_known most (custom_of oldest tag.0 content.0) (λ known. table_customs n known content.1) (λ known. customs_left n known most content.1 l))))

leaves_oldest : (most : ℕ) (input : Input) → length input.left ≤ most → Leaves most (oldest_at input)
leaves_oldest most input h = customs_left (length input.left) 0 most input h

-- the same where no value is read
record Ends (most : ℕ) (read : Option Input) : Type 0 where
  left : (x : Input) → read ≡ Some x → length x.left ≤ most

ends_then : {A : Type 0} (most : ℕ) (read : Read A) (f : A × Input → Option Input) → Leaves most read → ((x : A × Input) → length x.1.left ≤ most → Ends most (f x)) → Ends most (option_and_then f read)
ends_then most read f h k = record { left = λ y e. let t = then_some read f y e in (k t.0 (h.left t.0 t.1)).left y t.2 }

ends_if : (most : ℕ) (t : Bool) (x y : Option Input) → Ends most x → Ends most y → Ends most (cond t x y)
ends_if most true x y h k = h
ends_if most false x y h k = k

ends_none : (most : ℕ) → Ends most None
ends_none most = record { left = λ x e. cc }

ends_some : (most : ℕ) (x : Input) → length x.left ≤ most → Ends most (Some x)
ends_some most x h = record { left = λ y e. let p : x ≡ y = some_is e in omega (arith, ap (λ z. length z.left) p) }

blob_customs_left : (n most : ℕ) (input : Input) → length input.left ≤ most → Ends most (blob_customs n input)
unfolding blob_customs
blob_customs_left zero most input h = ends_none most
blob_customs_left (suc n) most input h =
    ends_then most (take_varint32 input) (λ tag. cond (tag.0 == 0) (Some tag.1) (take_slice tag.1 then λ content. cond (is_required tag.0) None (blob_customs n content.1)))
    (leaves_32 most input h) (λ tag k.
    ends_if most (tag.0 == 0) (Some tag.1) (take_slice tag.1 then λ content. cond (is_required tag.0) None (blob_customs n content.1)) (ends_some most tag.1 k)
    (ends_then most (take_slice tag.1) (λ content. cond (is_required tag.0) None (blob_customs n content.1)) (leaves_slice most tag.1 k) (λ content l.
    ends_if most (is_required tag.0) None (blob_customs n content.1) (ends_none most) (blob_customs_left n most content.1 l))))

leaves_customs : {B : Type 0} (most : ℕ) (input : Input) (f : Input → Read B) → length input.left ≤ most → ((x : Input) → length x.left ≤ most → Leaves most (f x))
    → Leaves most (option_and_then f (behind_customs input))
leaves_customs most input f h k = leaves_behind most (behind_customs input) f (λ x e. (blob_customs_left (length input.left) most input h).left x e) k

-- ---- fields

leaves_deleted : (most : ℕ) (input : Input) → length input.left ≤ most → Leaves most (deleted_at input)
unfolding deleted_at
leaves_deleted most input h =
    leaves_if most deletion_fits _ (leaves_then most (take_varint32 input) _ (leaves_32 most input h) (λ level h1.
    leaves_then most (take_varint64 level.1) _ (leaves_64 most level.1 h1) (λ number h2. leaves_some most _ number.1 h2)))

leaves_table : (most : ℕ) (input : Input) → length input.left ≤ most → Leaves most (table_at input)
unfolding table_at
leaves_table most input h =
    leaves_if most table_fits _ (leaves_then most (take_varint32 input) _ (leaves_32 most input h) (λ level h1.
    leaves_then most (take_varint64 level.1) _ (leaves_64 most level.1 h1) (λ number h2.
    leaves_then most (take_varint64 number.1) _ (leaves_64 most number.1 h2) (λ size h3.
    leaves_then most (take_slice size.1) _ (leaves_slice most size.1 h3) (λ smallest h4.
    leaves_then most (take_slice smallest.1) _ (leaves_slice most smallest.1 h4) (λ largest h5.
    leaves_then most (take_varint64 largest.1) _ (leaves_64 most largest.1 h5) (λ least h6.
    leaves_then most (take_varint64 least.1) _ (leaves_64 most least.1 h6) (λ last h7.
    leaves_then most (oldest_at last.1) _ (leaves_oldest most last.1 h7) (λ oldest h8. leaves_some most _ oldest.1 h8)))))))))

leaves_counts : (most : ℕ) (input : Input) → length input.left ≤ most → Leaves most (counts_at input)
leaves_counts most input h =
    leaves_then most (take_varint64 input) _ (leaves_64 most input h) (λ number h1.
    leaves_then most (take_varint64 number.1) _ (leaves_64 most number.1 h1) (λ count h2.
    leaves_then most (take_varint64 count.1) _ (leaves_64 most count.1 h2) (λ bytes h3. leaves_some most _ bytes.1 h3)))

leaves_addition : (most : ℕ) (input : Input) → length input.left ≤ most → Leaves most (addition_at input)
unfolding addition_at
leaves_addition most input h =
    leaves_if most addition_fits _ (leaves_then most (counts_at input) _ (leaves_counts most input h) (λ counts h1.
    leaves_then most (take_slice counts.1) _ (leaves_slice most counts.1 h1) (λ method h2.
    leaves_then most (take_slice method.1) _ (leaves_slice most method.1 h2) (λ checksum h3.
    leaves_customs most checksum.1 _ h3 (λ behind h4. leaves_some most _ behind h4)))))

leaves_garbage : (most : ℕ) (input : Input) → length input.left ≤ most → Leaves most (garbage_at input)
unfolding garbage_at
leaves_garbage most input h =
    leaves_if most garbage_fits _ (leaves_then most (counts_at input) _ (leaves_counts most input h) (λ counts h1.
    leaves_customs most counts.1 _ h1 (λ behind h2. leaves_some most _ behind h2)))

leaves_options : (most : ℕ) (input : Input) → length input.left ≤ most → Leaves most (options_at input)
leaves_options most input h =
    leaves_then most (take_slice input) _ (leaves_slice most input h) (λ content h1.
    leaves_known most (values_in content.0) _ (λ values. leaves_some most values content.1 h1))

leaves_field : {A : Type 0} (most : ℕ) (f : A → Field) (read : Read A) → Leaves most read → Leaves most (as_field f read)
leaves_field most f read h = leaves_then most read _ h (λ x h1. leaves_some most (f x.0) x.1 h1)

leaves_passed : (most tag : ℕ) (input : Input) → length input.left ≤ most → Leaves most (passed_at tag input)
leaves_passed most tag input h = leaves_end most _ _ None (leaves_field most (λ _. Passed) (take_slice input) (leaves_slice most input h)) (record { left = λ x e. cc })

leaves_content : (most tag : ℕ) (input : Input) → length input.left ≤ most → Leaves most (field_at tag input)
unfolding field_at
leaves_content most tag input h =
    leaves_end most (tag == 1) _ _ (leaves_field most _ _ (leaves_if most _ _ (leaves_slice most input h)))
    (leaves_end most (tag == 2) _ _ (leaves_field most _ _ (leaves_64 most input h))
    (leaves_end most (tag == 3) _ _ (leaves_field most _ _ (leaves_64 most input h))
    (leaves_end most (tag == 4) _ _ (leaves_field most _ _ (leaves_if most _ _ (leaves_64 most input h)))
    (leaves_end most (tag == 6) _ _ (leaves_field most _ _ (leaves_deleted most input h))
    (leaves_end most (tag == 103) _ _ (leaves_field most _ _ (leaves_table most input h))
    (leaves_end most (tag == 400) _ _ (leaves_field most _ _ (leaves_addition most input h))
    (leaves_end most (tag == 401) _ _ (leaves_field most _ _ (leaves_garbage most input h))
    (leaves_end most (tag == 9216) _ _ (leaves_field most _ _ (leaves_options most input h))
    (leaves_passed most tag input h)))))))))

pub field_left : (tag : ℕ) (input : Input) (r : Field × Input) → field_at tag input ≡ Some r → length r.1.left ≤ length input.left
field_left tag input r e = (leaves_content (length input.left) tag input (omega arith)).left r e
