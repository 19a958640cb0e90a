-- What is read is in bounds.
use Rattle.std.proofs.Common.{◌≡◌, ℕ, zero, suc, ◌^◌, ◌<◌, nat_le, Bool, true, false, List, [], ◌∷◌, ◌++◌, length, refl, sym, ◌∙◌, subst, arith, inl, inr}
use Rattle.std.specs.Prelude.{cond, ◌==◌, ◌&&◌, Option, None, Some, option_and_then, Result, Ok}
use Rattle.std.specs.List.{AllByRecursion}
use Rattle.std.proofs.lemmas.Bool.{cases_lt, leb-true, ltb-true}
use Rattle.bl_code.specs.Reading.{Input, Read, from_start, take_slice, take_varint32, take_varint64, varint_in, or_fault, ◌>>=◌}
use Rattle.bl_edit.specs.declared.edit.Edit.{Edit}
use Rattle.bl_edit.specs.declared.edit.NewTable.{NewTable}
use Rattle.bl_edit.specs.declared.edit.BlobAddition.{BlobAddition}
use Rattle.bl_edit.specs.declared.edit.BlobGarbage.{BlobGarbage}
use Rattle.bl_edit.specs.declared.error.BadEdit.{BadEdit}
use Rattle.bl_edit.specs.declared.error.BadEdit.TheVariants.{At}
use Rattle.bl_edit.specs.Options.{Values, AreInRange, IsBetween, is_between, max_size}
use Rattle.bl_edit.specs.Bounds.{deletion_fits, table_fits, addition_fits, garbage_fits, is_seq, IsEdit, FitsWords}
use Rattle.bl_edit.specs.Laws.{ReadsInBounds}
use Rattle.bl_edit.specs.Reading.{◌then◌, only_if, to_the_end, as_field, between, values_at, values_in, comparator_at, options_at, deleted_at, table_at, addition_at, garbage_at, counts_at, oldest_at, behind_customs, field_at, fields_at, no_field, read_edit, with_field, Field, Comparator, LogNumber, NextFile, LastSequence, Fixed, Deleted, Added, Blob, Garbage, Passed}
use Rattle.bl_edit.proofs.Shorter.{then_some, some_is, cond_some, below_is}
use Rattle.bl_edit.proofs.Fields.{fields_zero, fields_end, fields_some, tag_with, field_with}

-- what is read is like this
record Gives {A : Type 0} (P : A → Type 0) (read : Read A) : Type 0 where
  holds : (x : A × Input) → read ≡ Some x → P x.0

gives_any : {A : Type 0} (read : Read A) → Gives (λ (x : A). Unit {0}) read
gives_any read = record { holds = λ x e. tt }

gives_then : {A B : Type 0} (Q : A → Type 0) (P : B → Type 0) (read : Read A) (f : A × Input → Read B) → Gives Q read → ((x : A × Input) → Q x.0 → Gives P (f x)) → Gives P (option_and_then f read)
gives_then Q P read f h k = record { holds = λ y e. let t = then_some read f y e in (k t.0 (h.holds t.0 t.1)).holds y t.2 }

gives_known : {A B : Type 0} (P : B → Type 0) (known : Option A) (f : A → Read B) → ((x : A) → known ≡ Some x → Gives P (f x)) → Gives P (option_and_then f known)
gives_known P known f k = record { holds = λ y e. let t = then_some known f y e in (k t.0 t.1).holds y t.2 }

gives_some : {A : Type 0} (P : A → Type 0) (x : A) (behind : Input) → P x → Gives P (Some (x, behind))
gives_some {A = A} P x behind h = record { holds = λ y e. let p : ◌≡◌ {A = A × Input} (x, behind) y = some_is e in subst (λ (z : A × Input). P z.0) p h }

gives_if : {A : Type 0} (P : A → Type 0) (test : A → Bool) (read : Read A) → Gives P read → Gives (λ (x : A). (test x ≡ true) × P x) (only_if test read)
gives_if {A = A} P test read h = record {
  holds = λ y e.
      let t = then_some read (λ (r : A × Input). cond (test r.0) (Some r) None) y e in
      let p = cond_some (test t.0.0) t.0 y t.2 in
      subst (λ (z : A × Input). (test z.0 ≡ true) × P z.0) p.1 (p.0, h.holds t.0 t.1);
}

gives_end : {A : Type 0} (P : A → Type 0) (t : Bool) (x y : Read A) → Gives P x → Gives P y → Gives P (cond t x y)
gives_end P true x y h k = h
gives_end P false x y h k = k

gives_none : {A : Type 0} (P : A → Type 0) → Gives P None
gives_none P = record { holds = λ x e. absurd cc }

gives_64 : (input : Input) → Gives (λ n. n < 2 ^ 64) (take_varint64 input)
gives_64 input = record { holds = λ r e. ltb-true r.0 (2 ^ 64) (below_is 64 (varint_in 10 input.place input.left) r e).1 }

pub both_true : (a b : Bool) → (a && b) ≡ true → (a ≡ true) × (b ≡ true)
both_true true b h = (refl, h)
both_true false b h = cc

is_between_is : (low high n : ℕ) → is_between low high n ≡ true → IsBetween low high n
is_between_is low high n h = let t = both_true (nat_le low n) (nat_le n high) h in (leb-true low n t.0, leb-true n high t.1)

gives_between : (low high : ℕ) (input : Input) → Gives (IsBetween low high) (between low high input)
gives_between low high input = record {
  holds = λ r e. is_between_is low high r.0 ((gives_if (λ (n : ℕ). Unit {0}) (is_between low high) (take_varint64 input) (gives_any (take_varint64 input))).holds r e).0;
}

gives_values : (input : Input) → Gives AreInRange (values_at input)
unfolding values_at
gives_values input =
    gives_then _ _ _ _ (gives_between 0 (2 ^ 32) input) (λ a ha.
    gives_then _ _ _ _ (gives_between 1 max_size a.1) (λ b hb.
    gives_then _ _ _ _ (gives_between 1 max_size b.1) (λ c hc.
    gives_then _ _ _ _ (gives_between 1 max_size c.1) (λ d hd.
    gives_then _ _ _ _ (gives_between 1 1000 d.1) (λ e he.
    gives_then _ _ _ _ (gives_between 1 max_size e.1) (λ f hf.
    gives_then _ _ _ _ (gives_between 2 20 f.1) (λ g hg.
    gives_then _ _ _ _ (gives_between 0 100 g.1) (λ h hh.
    gives_then _ _ _ _ (gives_between 1 100 h.1) (λ i hi.
    gives_some AreInRange _ i.1 (record {
      min_blob_size = ha;
      blob_file_size = hb;
      write_buffer = hc;
      table_size = hd;
      level0_trigger = he;
      level_base = hf;
      level_factor = hg;
      age_cutoff = hh;
      force_threshold = hi;
    }))))))))))

end_value : (read : Read Values) (v : Values) → Gives AreInRange read → to_the_end read ≡ Some v → AreInRange v
end_value read v h e =
    let t = then_some read (λ (r : Values × Input). cond (length r.1.left == 0) (Some r.0) None) v e in
    subst AreInRange (cond_some (length t.0.1.left == 0) t.0.0 v t.2).1 (h.holds t.0 t.1)

gives_options : (input : Input) → Gives AreInRange (options_at input)
gives_options input =
    gives_then (λ (s : List ℕ). Unit {0}) AreInRange (take_slice input) _ (gives_any (take_slice input)) (λ s u.
    gives_known AreInRange (values_in s.0) _ (λ v e. gives_some AreInRange v s.1 (end_value (values_at (from_start s.0)) v (gives_values (from_start s.0)) e)))

abbrev IsStored : NewTable → Type 0
IsStored t = t.size < 2 ^ 64

gives_table : (input : Input) → Gives (λ t. (table_fits t ≡ true) × IsStored t) (table_at input)
unfolding table_at
gives_table input =
    gives_if IsStored table_fits _ (gives_then _ IsStored _ _ (gives_any (take_varint32 input)) (λ level u1.
    gives_then _ IsStored _ _ (gives_any (take_varint64 level.1)) (λ number u2.
    gives_then (λ n. n < 2 ^ 64) IsStored _ _ (gives_64 number.1) (λ size small.
    gives_then _ IsStored _ _ (gives_any (take_slice size.1)) (λ smallest u4.
    gives_then _ IsStored _ _ (gives_any (take_slice smallest.1)) (λ largest u5.
    gives_then _ IsStored _ _ (gives_any (take_varint64 largest.1)) (λ least u6.
    gives_then _ IsStored _ _ (gives_any (take_varint64 least.1)) (λ last u7.
    gives_then _ IsStored _ _ (gives_any (oldest_at last.1)) (λ oldest u8. gives_some IsStored _ oldest.1 small)))))))))

abbrev AreSmall : ℕ × ℕ × ℕ → Type 0
AreSmall c = (c.1 < 2 ^ 64) × (c.2 < 2 ^ 64)

gives_counts : (input : Input) → Gives AreSmall (counts_at input)
gives_counts input =
    gives_then (λ n. n < 2 ^ 64) AreSmall _ _ (gives_64 input) (λ number u.
    gives_then (λ n. n < 2 ^ 64) AreSmall _ _ (gives_64 number.1) (λ count hc.
    gives_then (λ n. n < 2 ^ 64) AreSmall _ _ (gives_64 count.1) (λ bytes hb. gives_some AreSmall _ bytes.1 (hc, hb))))

abbrev IsAddition : BlobAddition → Type 0
IsAddition a = (a.count < 2 ^ 64) × (a.bytes < 2 ^ 64)

abbrev IsGarbage : BlobGarbage → Type 0
IsGarbage g = (g.count < 2 ^ 64) × (g.bytes < 2 ^ 64)

gives_addition : (input : Input) → Gives (λ a. (addition_fits a ≡ true) × IsAddition a) (addition_at input)
unfolding addition_at
gives_addition input =
    gives_if IsAddition addition_fits _ (gives_then AreSmall IsAddition _ _ (gives_counts input) (λ counts small.
    gives_then _ IsAddition _ _ (gives_any (take_slice counts.1)) (λ method u1.
    gives_then _ IsAddition _ _ (gives_any (take_slice method.1)) (λ checksum u2.
    gives_known IsAddition (behind_customs checksum.1) _ (λ behind e. gives_some IsAddition _ behind small)))))

gives_garbage : (input : Input) → Gives (λ g. (garbage_fits g ≡ true) × IsGarbage g) (garbage_at input)
unfolding garbage_at
gives_garbage input =
    gives_if IsGarbage garbage_fits _ (gives_then AreSmall IsGarbage _ _ (gives_counts input) (λ counts small.
    gives_known IsGarbage (behind_customs counts.1) _ (λ behind e. gives_some IsGarbage _ behind small)))

-- a field in bounds
abbrev FitsField : Field → Type 0
FitsField Comparator = Unit {0}
FitsField (LogNumber n) = n < 2 ^ 64
FitsField (NextFile n) = n < 2 ^ 64
FitsField (LastSequence n) = is_seq n ≡ true
FitsField (Fixed v) = AreInRange v
FitsField (Deleted d) = deletion_fits d ≡ true
FitsField (Added t) = (table_fits t ≡ true) × IsStored t
FitsField (Blob a) = (addition_fits a ≡ true) × IsAddition a
FitsField (Garbage g) = (garbage_fits g ≡ true) × IsGarbage g
FitsField Passed = Unit {0}

gives_field : {A : Type 0} (f : A → Field) (read : Read A) → Gives (λ (x : A). FitsField (f x)) read → Gives FitsField (as_field f read)
gives_field {A = A} f read h = gives_then (λ (x : A). FitsField (f x)) FitsField read _ h (λ x k. gives_some FitsField (f x.0) x.1 k)

gives_test : {A : Type 0} (test : A → Bool) (read : Read A) → Gives (λ (x : A). test x ≡ true) (only_if test read)
gives_test {A = A} test read = record { holds = λ x e. ((gives_if (λ (y : A). Unit {0}) test read (gives_any read)).holds x e).0 }

gives_deleted : (input : Input) → Gives (λ d. deletion_fits d ≡ true) (deleted_at input)
unfolding deleted_at
gives_deleted input =
    gives_test deletion_fits (take_varint32 input then λ level. take_varint64 level.1 then λ number. Some (record { level = level.0; number = number.0 }, number.1))

gives_content : (tag : ℕ) (input : Input) → Gives FitsField (field_at tag input)
unfolding field_at
gives_content tag input =
    gives_end FitsField (tag == 1) _ _ (gives_field _ _ (gives_any (comparator_at input)))
    (gives_end FitsField (tag == 2) _ _ (gives_field LogNumber _ (gives_64 input))
    (gives_end FitsField (tag == 3) _ _ (gives_field NextFile _ (gives_64 input))
    (gives_end FitsField (tag == 4) _ _ (gives_field LastSequence _ (gives_test is_seq (take_varint64 input)))
    (gives_end FitsField (tag == 6) _ _ (gives_field Deleted _ (gives_deleted input))
    (gives_end FitsField (tag == 103) _ _ (gives_field Added _ (gives_table input))
    (gives_end FitsField (tag == 400) _ _ (gives_field Blob _ (gives_addition input))
    (gives_end FitsField (tag == 401) _ _ (gives_field Garbage _ (gives_garbage input))
    (gives_end FitsField (tag == 9216) _ _ (gives_field Fixed _ (gives_options input))
    (gives_end FitsField _ _ None (gives_field (λ _. Passed) _ (gives_any (take_slice input))) (gives_none FitsField))))))))))

all_push : {A : Type 0} (P : A → Type 0) (xs : List A) (x : A) → AllByRecursion P xs → P x → AllByRecursion P (xs ++ x ∷ [])
all_push P [] x h k = (k, tt)
all_push P (y ∷ ys) x h k = (h.0, all_push P ys x h.1 k)

abbrev Fits : Edit → Type 0
Fits e = IsEdit e × FitsWords e

with_fits : (e : Edit) (f : Field) → Fits e → FitsField f → Fits (with_field e f)
with_fits e Comparator h k = (
  record { last_sequence = h.0.last_sequence; options = h.0.options; deleted = h.0.deleted; added = h.0.added; blobs = h.0.blobs; garbage = h.0.garbage },
  record { log_number = h.1.log_number; next_file = h.1.next_file; sizes = h.1.sizes; totals = h.1.totals; garbage = h.1.garbage },
)
with_fits e (LogNumber n) h k = (
  record { last_sequence = h.0.last_sequence; options = h.0.options; deleted = h.0.deleted; added = h.0.added; blobs = h.0.blobs; garbage = h.0.garbage },
  record { log_number = k; next_file = h.1.next_file; sizes = h.1.sizes; totals = h.1.totals; garbage = h.1.garbage },
)
with_fits e (NextFile n) h k = (
  record { last_sequence = h.0.last_sequence; options = h.0.options; deleted = h.0.deleted; added = h.0.added; blobs = h.0.blobs; garbage = h.0.garbage },
  record { log_number = h.1.log_number; next_file = k; sizes = h.1.sizes; totals = h.1.totals; garbage = h.1.garbage },
)
with_fits e (LastSequence n) h k = (
  record { last_sequence = k; options = h.0.options; deleted = h.0.deleted; added = h.0.added; blobs = h.0.blobs; garbage = h.0.garbage },
  record { log_number = h.1.log_number; next_file = h.1.next_file; sizes = h.1.sizes; totals = h.1.totals; garbage = h.1.garbage },
)
with_fits e (Fixed v) h k = (
  record { last_sequence = h.0.last_sequence; options = k; deleted = h.0.deleted; added = h.0.added; blobs = h.0.blobs; garbage = h.0.garbage },
  record { log_number = h.1.log_number; next_file = h.1.next_file; sizes = h.1.sizes; totals = h.1.totals; garbage = h.1.garbage },
)
with_fits e (Deleted d) h k = (
  record { last_sequence = h.0.last_sequence; options = h.0.options; deleted = all_push _ e.deleted d h.0.deleted k; added = h.0.added; blobs = h.0.blobs; garbage = h.0.garbage },
  record { log_number = h.1.log_number; next_file = h.1.next_file; sizes = h.1.sizes; totals = h.1.totals; garbage = h.1.garbage },
)
with_fits e (Added t) h k = (
  record { last_sequence = h.0.last_sequence; options = h.0.options; deleted = h.0.deleted; added = all_push _ e.added t h.0.added k.0; blobs = h.0.blobs; garbage = h.0.garbage },
  record { log_number = h.1.log_number; next_file = h.1.next_file; sizes = all_push _ e.added t h.1.sizes k.1; totals = h.1.totals; garbage = h.1.garbage },
)
with_fits e (Blob a) h k = (
  record { last_sequence = h.0.last_sequence; options = h.0.options; deleted = h.0.deleted; added = h.0.added; blobs = all_push _ e.blobs a h.0.blobs k.0; garbage = h.0.garbage },
  record { log_number = h.1.log_number; next_file = h.1.next_file; sizes = h.1.sizes; totals = all_push _ e.blobs a h.1.totals k.1; garbage = h.1.garbage },
)
with_fits e (Garbage g) h k = (
  record { last_sequence = h.0.last_sequence; options = h.0.options; deleted = h.0.deleted; added = h.0.added; blobs = h.0.blobs; garbage = all_push _ e.garbage g h.0.garbage k.0 },
  record { log_number = h.1.log_number; next_file = h.1.next_file; sizes = h.1.sizes; totals = h.1.totals; garbage = all_push _ e.garbage g h.1.garbage k.1 },
)
with_fits e Passed h k = h

then_ok : {A B : Type 0} (why : BadEdit) (o : Option A) (f : A → Result B BadEdit) (y : B) → (or_fault why o >>= f) ≡ Ok y → (x : A) × (o ≡ Some x) × (f x ≡ Ok y)
then_ok why None f y h = absurd cc
then_ok why (Some x) f y h = (x, refl, h)

ok_is : {x y : Edit} → ◌≡◌ {A = Result Edit BadEdit} (Ok x) (Ok y) → x ≡ y
ok_is e = cc

fields_fit : (n : ℕ) (e last : Edit) (input : Input) → Fits e → fields_at n e input ≡ Ok last → Fits last
fields_fit zero e last input h r = subst Fits (ok_is (sym (fields_zero e input) ∙ r)) h
fields_fit (suc n) e last input h r = elim (cases_lt 0 (length input.left)) [
  | inr none ↦ subst Fits (ok_is (sym (fields_end (suc n) e input (omega arith)) ∙ r)) h
  | inl some ↦
      let t = then_ok (At 0 input.place) (take_varint32 input) (tag_with n e input.place) last (sym (fields_some n e input some) ∙ r) in
      let f = then_ok (At t.0.0 input.place) (field_at t.0.0 t.0.1) (field_with n e) last t.2 in
      fields_fit n (with_field e f.0.0) last f.0.1 (with_fits e f.0.0 h ((gives_content t.0.0 t.0.1).holds f.0 f.1)) f.2
]

nothing_fits : Fits no_field
nothing_fits = (
  record { last_sequence = tt; options = tt; deleted = tt; added = tt; blobs = tt; garbage = tt },
  record { log_number = tt; next_file = tt; sizes = tt; totals = tt; garbage = tt },
)

pub reads_in_bounds : ReadsInBounds
unfolding read_edit
reads_in_bounds bytes e r = fields_fit (length bytes) no_field e (from_start bytes) nothing_fits r
