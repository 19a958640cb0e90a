-- What is written is read again.
use Rattle.std.proofs.Common.{◌≡◌, ℕ, zero, suc, ◌+◌, ◌^◌, ◌<◌, ◌≤◌, nat_le, Bool, true, false, List, [], ◌∷◌, ◌++◌, length, refl, sym, ◌∙◌, ap, subst, arith, lit<, append_assoc}
use Rattle.std.specs.Prelude.{cond, ◌==◌, ◌&&◌, ◌||◌, ◌%◌, flat_map, Option, None, Some, option_and_then, IfSome}
use Rattle.std.specs.List.{AllByRecursion}
use Rattle.std.proofs.lemmas.Bool.{leb-true, le-leb, ltb-true, eqb-true}
use Rattle.std.proofs.lemmas.List.{append-nil}
use Rattle.std.proofs.lemmas.List.Concat.{flat_map-cons}
use Rattle.bl_code.specs.Numbers.{varint32, varint64, slice}
use Rattle.bl_code.specs.Order.{number_part}
use Rattle.bl_code.specs.Reading.{Input, Read, from_start, take_slice, take_varint32, take_varint64, or_fault, ◌>>=◌}
use Rattle.bl_code.proofs.ReadingLemmas.{varint32_again, varint64_again, slice_again}
use Rattle.bl_edit.specs.declared.edit.Edit.{Edit}
use Rattle.bl_edit.specs.declared.edit.DeletedTable.{DeletedTable}
use Rattle.bl_edit.specs.declared.edit.NewTable.{NewTable}
use Rattle.bl_edit.specs.declared.edit.BlobAddition.{BlobAddition}
use Rattle.bl_edit.specs.declared.edit.BlobGarbage.{BlobGarbage}
use Rattle.bl_edit.specs.declared.error.BadEdit.TheVariants.{At}
use Rattle.bl_edit.specs.Options.{Values, AreInRange, IsBetween, is_between, max_size}
use Rattle.bl_edit.specs.Bounds.{deletion_fits, table_fits, addition_fits, garbage_fits, is_level, is_number, is_key, is_kind, is_seq, IsEdit, FitsWords}
use Rattle.bl_edit.specs.Laws.{ReadsWritten}
use Rattle.bl_edit.specs.Spelling.{comparator_name, comparator_bytes, single, option_bytes, options_bytes, deleted_bytes, oldest_bytes, table_bytes, addition_bytes, garbage_bytes, edit_bytes}
use Rattle.bl_edit.specs.Reading.{only_if, to_the_end, is_comparator, as_field, between, values_at, comparator_at, options_at, deleted_at, table_at, addition_at, garbage_at, counts_at, oldest_at, behind_customs, file_in, field_at, fields_at, no_field, read_edit, with_field, Field, Comparator, LogNumber, NextFile, LastSequence, Fixed, Deleted, Added, Blob, Garbage}
use Rattle.bl_edit.proofs.Appending.{options_size, varint_size}
use Rattle.bl_edit.proofs.Customs.{goes_start, goes_end, goes_more, passes_start, passes_end}
use Rattle.bl_edit.proofs.Fields.{fields_end, fields_some, tag_with, field_with}
use Rattle.bl_edit.proofs.InBounds.{both_true}
use Rattle.bl_edit.proofs.Shorter.{varint32_less, field_left}

abbrev at : ℕ → List ℕ → Input
at place left = record { place = place; left = left }

-- these bytes are read as this value, wherever they stand and whatever follows
record IsRead {A : Type 0} (reading : Input → Read A) (bytes : List ℕ) (x : A) : Type 0 where
  at_place : (place : ℕ) (rest : List ℕ) → (behind : ℕ) × (reading (at place (bytes ++ rest)) ≡ Some (x, at behind rest))

-- a field and more: reading goes on with the edit that has it
abbrev GoesOn : Edit → List ℕ → Edit → List ℕ → Type 0
GoesOn e left after rest =
    (place n : ℕ) → length left ≤ n → (behind : ℕ) × (m : ℕ) × (length rest ≤ m) × (fields_at n e (at place left) ≡ fields_at m after (at behind rest))

then_goes : (e f g : Edit) (xs ys zs : List ℕ) → GoesOn e xs f ys → GoesOn f ys g zs → GoesOn e xs g zs
then_goes e f g xs ys zs h k place n enough =
    let first = h place n enough in
    let second = k first.0 first.1 first.2 in
    (second.0, second.1, second.2, first.3 ∙ second.3)

stays : (e : Edit) (xs : List ℕ) → GoesOn e xs e xs
stays e xs place n enough = (place, n, enough, refl)

field_goes : (tag : ℕ) (content : List ℕ) (f : Field) (e : Edit) (rest : List ℕ) → tag < 2 ^ 32 → IsRead (field_at tag) content f
    → GoesOn e ((varint32 tag ++ content) ++ rest) (with_field e f) rest
field_goes tag content f e rest small is place zero enough =
    let t : take_varint32 (at place (varint32 tag ++ (content ++ rest))) ≡ Some (tag, at (place + length (varint32 tag)) (content ++ rest)) = varint32_again tag place (content ++ rest) small in
    absurd (omega (
      arith,
      varint32_less (at place (varint32 tag ++ (content ++ rest))) (tag, at (place + length (varint32 tag)) (content ++ rest)) t,
      ap length (append_assoc (varint32 tag) content rest),
    ))
field_goes tag content f e rest small is place (suc n) enough =
    let left : List ℕ = varint32 tag ++ (content ++ rest) in
    let mid : Input = at (place + length (varint32 tag)) (content ++ rest) in
    let t : take_varint32 (at place left) ≡ Some (tag, mid) = varint32_again tag place (content ++ rest) small in
    let c = is.at_place (place + length (varint32 tag)) rest in
    let shorter = varint32_less (at place left) (tag, mid) t in
    let no_longer = field_left tag mid (f, at c.0 rest) c.1 in
    let size : length ((varint32 tag ++ content) ++ rest) ≡ length left = ap length (append_assoc (varint32 tag) content rest) in (
      c.0,
      n,
      omega arith,
      ap (λ xs. fields_at (suc n) e (at place xs)) (append_assoc (varint32 tag) content rest)
          ∙ fields_some n e (at place left) (omega arith)
          ∙ ap (λ r. or_fault (At 0 place) r >>= tag_with n e place) t
          ∙ ap (λ r. or_fault (At tag place) r >>= field_with n e) c.1,
    )

-- ---- the contents of fields

only_true : {A : Type 0} (test : A → Bool) (x : A) (behind : Input) → test x ≡ true → only_if test (Some (x, behind)) ≡ Some (x, behind)
only_true {A = A} test x behind h = ap (λ t. cond {A = Read A} t (Some (x, behind)) None) h

read_if : {A : Type 0} (test : A → Bool) (reading : Input → Read A) (bytes : List ℕ) (x : A) → test x ≡ true → IsRead reading bytes x → IsRead (λ input. only_if test (reading input)) bytes x
read_if test reading bytes x h is = record { at_place = λ place rest. let r = is.at_place place rest in (r.0, ap (only_if test) r.1 ∙ only_true test x (at r.0 rest) h) }

read_field : {A : Type 0} (f : A → Field) (reading : Input → Read A) (bytes : List ℕ) (x : A) → IsRead reading bytes x → IsRead (λ input. as_field f (reading input)) bytes (f x)
read_field f reading bytes x is = record { at_place = λ place rest. let r = is.at_place place rest in (r.0, ap (as_field f) r.1) }

-- one reading and then another
read_then : {A B : Type 0} (reading : Input → Read A) (f : A × Input → Read B) (xs ys : List ℕ) (x : A) (y : B) → IsRead reading xs x → IsRead (λ input. f (x, input)) ys y
    → IsRead (λ input. option_and_then f (reading input)) (xs ++ ys) y
read_then reading f xs ys x y is k = record {
  at_place = λ place rest.
      let first = is.at_place place (ys ++ rest) in
      let second = k.at_place first.0 rest in (
        second.0,
        ap (λ left. option_and_then f (reading (at place left))) (append_assoc xs ys rest) ∙ ap (option_and_then f) first.1 ∙ second.1,
      );
}

-- and the last one
read_last : {A B : Type 0} (reading : Input → Read A) (f : A × Input → Read B) (xs : List ℕ) (x : A) (y : B) → IsRead reading xs x → ((behind : Input) → f (x, behind) ≡ Some (y, behind))
    → IsRead (λ input. option_and_then f (reading input)) xs y
read_last reading f xs x y is k = record { at_place = λ place rest. let first = is.at_place place rest in (first.0, ap (option_and_then f) first.1 ∙ k (at first.0 rest)) }

read_32 : (n : ℕ) → n < 2 ^ 32 → IsRead take_varint32 (varint32 n) n
read_32 n small = record { at_place = λ place rest. (place + length (varint32 n), varint32_again n place rest small) }

read_64 : (n : ℕ) → n < 2 ^ 64 → IsRead take_varint64 (varint64 n) n
read_64 n small = record { at_place = λ place rest. (place + length (varint64 n), varint64_again n place rest small) }

read_slice : (bytes : List ℕ) → length bytes < 2 ^ 32 → IsRead take_slice (slice bytes) bytes
read_slice bytes small = record { at_place = λ place rest. (place + length (slice bytes), slice_again bytes place rest small) }

-- ---- fields that stand once

log_number_read : (n : ℕ) → n < 2 ^ 64 → IsRead (field_at 2) (varint64 n) (LogNumber n)
unfolding field_at
log_number_read n small = read_field LogNumber take_varint64 (varint64 n) n (read_64 n small)

next_file_read : (n : ℕ) → n < 2 ^ 64 → IsRead (field_at 3) (varint64 n) (NextFile n)
unfolding field_at
next_file_read n small = read_field NextFile take_varint64 (varint64 n) n (read_64 n small)

seq_small : (n : ℕ) → is_seq n ≡ true → n < 2 ^ 64
seq_small n h = omega (arith, ltb-true n (2 ^ 56) h)

last_sequence_read : (n : ℕ) → is_seq n ≡ true → IsRead (field_at 4) (varint64 n) (LastSequence n)
unfolding field_at
last_sequence_read n h = read_field LastSequence (λ input. only_if is_seq (take_varint64 input)) (varint64 n) n (read_if is_seq take_varint64 (varint64 n) n h (read_64 n (seq_small n h)))

comparator_read : IsRead (field_at 1) (slice comparator_name) Comparator
unfolding field_at
comparator_read = read_field (λ _. Comparator) comparator_at (slice comparator_name) comparator_name (read_if is_comparator take_slice (slice comparator_name) comparator_name refl (read_slice comparator_name (lit< tt)))

read_between : (low high n : ℕ) → high < 2 ^ 64 → IsBetween low high n → IsRead (between low high) (varint64 n) n
read_between low high n small h =
    read_if (is_between low high) take_varint64 (varint64 n) n (λ i. le-leb low n h.0 i && le-leb n high h.1 i) (read_64 n (omega (arith, h.1)))

values_read : (v : Values) → AreInRange v → IsRead values_at (option_bytes v) v
unfolding values_at
values_read v h =
    read_then (between 0 (2 ^ 32)) _ _ _ v.min_blob_size v (read_between 0 (2 ^ 32) v.min_blob_size (lit< tt) h.min_blob_size)
    (read_then (between 1 max_size) _ _ _ v.blob_file_size v (read_between 1 max_size v.blob_file_size (lit< tt) h.blob_file_size)
    (read_then (between 1 max_size) _ _ _ v.write_buffer v (read_between 1 max_size v.write_buffer (lit< tt) h.write_buffer)
    (read_then (between 1 max_size) _ _ _ v.table_size v (read_between 1 max_size v.table_size (lit< tt) h.table_size)
    (read_then (between 1 1000) _ _ _ v.level0_trigger v (read_between 1 1000 v.level0_trigger (lit< tt) h.level0_trigger)
    (read_then (between 1 max_size) _ _ _ v.level_base v (read_between 1 max_size v.level_base (lit< tt) h.level_base)
    (read_then (between 2 20) _ _ _ v.level_factor v (read_between 2 20 v.level_factor (lit< tt) h.level_factor)
    (read_then (between 0 100) _ _ _ v.age_cutoff v (read_between 0 100 v.age_cutoff (lit< tt) h.age_cutoff)
    (read_last (between 1 100) _ _ v.force_threshold v (read_between 1 100 v.force_threshold (lit< tt) h.force_threshold) (λ behind. refl)))))))))

ends : {A : Type 0} (reading : Input → Read A) (bytes : List ℕ) (x : A) → IsRead reading bytes x → to_the_end (reading (from_start bytes)) ≡ Some x
ends reading bytes x is =
    let r = is.at_place 0 [] in
    ap (λ xs. to_the_end (reading (at 0 xs))) (sym (append-nil bytes)) ∙ ap to_the_end r.1

options_read : (v : Values) → AreInRange v → IsRead (field_at 9216) (options_bytes v) (Fixed v)
unfolding field_at
options_read v h =
    read_field Fixed options_at (options_bytes v) v
    (read_last take_slice _ (options_bytes v) (option_bytes v) v (read_slice (option_bytes v) (omega (arith, options_size v)))
    (λ behind. ap (option_and_then (λ w. Some (w, behind))) (ends values_at (option_bytes v) v (values_read v h))))

-- ---- lists

level_small : (n : ℕ) → is_level n ≡ true → n < 2 ^ 32
level_small n h = omega (arith, leb-true n 6 h)

number_small : (n : ℕ) → is_number n ≡ true → n < 2 ^ 64
number_small n h = omega (arith, leb-true n 999999999999999 (both_true (nat_le 1 n) (nat_le n 999999999999999) h).1)

deleted_read : (d : DeletedTable) → deletion_fits d ≡ true → IsRead (field_at 6) (varint32 d.level ++ varint64 d.number) (Deleted d)
unfolding field_at deleted_at
deleted_read d h =
    let t = both_true (is_level d.level) (is_number d.number) h in
    read_field Deleted deleted_at (varint32 d.level ++ varint64 d.number) d
    (read_if deletion_fits _ (varint32 d.level ++ varint64 d.number) d h
    (read_then take_varint32 _ (varint32 d.level) (varint64 d.number) d.level d (read_32 d.level (level_small d.level t.0))
    (read_last take_varint64 _ (varint64 d.number) d.number d (read_64 d.number (number_small d.number t.1)) (λ behind. refl))))

file_read : (file : ℕ) → is_number file ≡ true → file_in (varint64 file) ≡ Some file
file_read file h = ends (λ input. only_if is_number (take_varint64 input)) (varint64 file) file (read_if is_number take_varint64 (varint64 file) file h (read_64 file (number_small file h)))

none_read : IsRead oldest_at (varint32 1) 0
none_read = record {
  at_place = λ place rest.
      let start : Input = at place (varint32 1 ++ rest) in
      let behind : ℕ = place + length (varint32 1) in
      (behind, goes_end start start 0 1 (at behind rest) (goes_start start) (varint32_again 1 place rest (lit< tt)) refl);
}

some_read : (file : ℕ) → is_number file ≡ true → IsRead oldest_at ((varint32 4 ++ slice (varint64 file)) ++ varint32 1) file
some_read file h = record {
  at_place = λ place rest.
      let last : List ℕ = varint32 1 ++ rest in
      let left : List ℕ = varint32 4 ++ (slice (varint64 file) ++ last) in
      let start : Input = at place left in
      let mid : Input = at (place + length (varint32 4)) (slice (varint64 file) ++ last) in
      let next : Input = at (mid.place + length (slice (varint64 file))) last in
      let behind : ℕ = next.place + length (varint32 1) in
      let same : ((varint32 4 ++ slice (varint64 file)) ++ varint32 1) ++ rest ≡ left =
      append_assoc (varint32 4 ++ slice (varint64 file)) (varint32 1) rest ∙ append_assoc (varint32 4) (slice (varint64 file)) last in
      let tag : take_varint32 start ≡ Some (4, mid) = varint32_again 4 place (slice (varint64 file) ++ last) (lit< tt) in
      let content : take_slice mid ≡ Some (varint64 file, next) = slice_again (varint64 file) mid.place last (omega (arith, varint_size 10 file)) in
      let more = goes_more start start 0 4 mid (varint64 file, next) file (goes_start start) tag (λ e. absurd (omega (arith, e))) content (file_read file h) in
      (behind, ap (λ xs. oldest_at (at place xs)) same ∙ goes_end start next file 1 (at behind rest) more (varint32_again 1 next.place rest (lit< tt)) refl);
}

oldest_by : (file : ℕ) (t : Bool) → (file == 0) ≡ t → (t || is_number file) ≡ true → IsRead oldest_at (oldest_bytes file ++ varint32 1) file
oldest_by file true e h = let P : ℕ → Type 0 = λ n. IsRead oldest_at (oldest_bytes n ++ varint32 1) n in subst P (sym (eqb-true file 0 e)) none_read
oldest_by file false e h =
    let P : Bool → Type 0 = λ t. IsRead oldest_at (cond t [] (varint32 4 ++ slice (varint64 file)) ++ varint32 1) file in subst P (sym e) (some_read file h)

oldest_read : (file : ℕ) → ((file == 0) || is_number file) ≡ true → IsRead oldest_at (oldest_bytes file ++ varint32 1) file
oldest_read file h = oldest_by file (file == 0) refl h

key_small : (key : List ℕ) → is_key key ≡ true → length key < 2 ^ 32
key_small key h =
    let first = both_true (is_between 9 65543 (length key)) (is_kind (number_part key % 256)) h in
    let second = both_true (nat_le 9 (length key)) (nat_le (length key) 65543) first.0 in
    omega (arith, leb-true (length key) 65543 second.1)

abbrev table_content : NewTable → List ℕ
table_content t =
    varint32 t.level ++ (varint64 t.number ++ (varint64 t.size ++ (slice t.smallest ++ (slice t.largest
    ++ (varint64 t.least_seq ++ (varint64 t.most_seq ++ (oldest_bytes t.oldest_blob ++ varint32 1)))))))

table_read : (t : NewTable) → (table_fits t ≡ true) × (t.size < 2 ^ 64) → IsRead (field_at 103) (table_content t) (Added t)
unfolding field_at table_at
table_read t (h, size) =
    let seventh = both_true _ ((t.oldest_blob == 0) || is_number t.oldest_blob) h in
    let sixth = both_true _ (is_seq t.most_seq) seventh.0 in
    let fifth = both_true _ (is_seq t.least_seq) sixth.0 in
    let fourth = both_true _ (is_key t.largest) fifth.0 in
    let third = both_true _ (is_key t.smallest) fourth.0 in
    let second = both_true (is_level t.level) (is_number t.number) third.0 in
    read_field Added table_at (table_content t) t
    (read_if table_fits _ (table_content t) t h
    (read_then take_varint32 _ (varint32 t.level) _ t.level t (read_32 t.level (level_small t.level second.0))
    (read_then take_varint64 _ (varint64 t.number) _ t.number t (read_64 t.number (number_small t.number second.1))
    (read_then take_varint64 _ (varint64 t.size) _ t.size t (read_64 t.size size)
    (read_then take_slice _ (slice t.smallest) _ t.smallest t (read_slice t.smallest (key_small t.smallest third.1))
    (read_then take_slice _ (slice t.largest) _ t.largest t (read_slice t.largest (key_small t.largest fourth.1))
    (read_then take_varint64 _ (varint64 t.least_seq) _ t.least_seq t (read_64 t.least_seq (seq_small t.least_seq fifth.1))
    (read_then take_varint64 _ (varint64 t.most_seq) _ t.most_seq t (read_64 t.most_seq (seq_small t.most_seq sixth.1))
    (read_last oldest_at _ (oldest_bytes t.oldest_blob ++ varint32 1) t.oldest_blob t (oldest_read t.oldest_blob seventh.1) (λ behind. refl))))))))))

-- the end of the custom fields of a blob file
end_read : {A : Type 0} (f : Input → Read A) (x : A) → ((behind : Input) → f behind ≡ Some (x, behind)) → IsRead (λ input. option_and_then f (behind_customs input)) (varint32 0) x
end_read f x k = record {
  at_place = λ place rest.
      let start : Input = at place (varint32 0 ++ rest) in
      let behind : ℕ = place + length (varint32 0) in
      (behind, ap (option_and_then f) (passes_end start start 0 (at behind rest) (passes_start start) (varint32_again 0 place rest (lit< tt)) refl) ∙ k (at behind rest));
}

counts_read : (number count bytes : ℕ) → number < 2 ^ 64 → count < 2 ^ 64 → bytes < 2 ^ 64 → IsRead counts_at (varint64 number ++ (varint64 count ++ varint64 bytes)) (number, count, bytes)
counts_read number count bytes n c b =
    read_then take_varint64 _ (varint64 number) _ number (number, count, bytes) (read_64 number n)
    (read_then take_varint64 _ (varint64 count) _ count (number, count, bytes) (read_64 count c)
    (read_last take_varint64 _ (varint64 bytes) bytes (number, count, bytes) (read_64 bytes b) (λ behind. refl)))

abbrev addition_content : BlobAddition → List ℕ
addition_content a = varint64 a.number ++ (varint64 a.count ++ (varint64 a.bytes ++ (slice [] ++ (slice [] ++ varint32 0))))

joined_3 : (a b c d : List ℕ) → (a ++ (b ++ c)) ++ d ≡ a ++ (b ++ (c ++ d))
joined_3 a b c d = append_assoc a (b ++ c) d ∙ ap (λ xs. a ++ xs) (append_assoc b c d)

addition_read : (a : BlobAddition) → (addition_fits a ≡ true) × ((a.count < 2 ^ 64) × (a.bytes < 2 ^ 64)) → IsRead (field_at 400) (addition_content a) (Blob a)
unfolding field_at addition_at
addition_read a (h, small) =
    let ends_with : List ℕ = slice [] ++ (slice [] ++ varint32 0) in
    let P : List ℕ → Type 0 = λ xs. IsRead (field_at 400) xs (Blob a) in
    subst P (joined_3 (varint64 a.number) (varint64 a.count) (varint64 a.bytes) ends_with)
    (read_field Blob addition_at _ a
    (read_if addition_fits _ _ a h
    (read_then counts_at _ (varint64 a.number ++ (varint64 a.count ++ varint64 a.bytes)) ends_with (a.number, a.count, a.bytes) a
    (counts_read a.number a.count a.bytes (number_small a.number h) small.0 small.1)
    (read_then take_slice _ (slice []) (slice [] ++ varint32 0) [] a (read_slice [] (lit< tt))
    (read_then take_slice _ (slice []) (varint32 0) [] a (read_slice [] (lit< tt)) (end_read _ a (λ behind. refl)))))))

abbrev garbage_content : BlobGarbage → List ℕ
garbage_content g = varint64 g.number ++ (varint64 g.count ++ (varint64 g.bytes ++ varint32 0))

garbage_read : (g : BlobGarbage) → (garbage_fits g ≡ true) × ((g.count < 2 ^ 64) × (g.bytes < 2 ^ 64)) → IsRead (field_at 401) (garbage_content g) (Garbage g)
unfolding field_at garbage_at
garbage_read g (h, small) =
    let P : List ℕ → Type 0 = λ xs. IsRead (field_at 401) xs (Garbage g) in
    subst P (joined_3 (varint64 g.number) (varint64 g.count) (varint64 g.bytes) (varint32 0))
    (read_field Garbage garbage_at _ g
    (read_if garbage_fits _ _ g h
    (read_then counts_at _ (varint64 g.number ++ (varint64 g.count ++ varint64 g.bytes)) (varint32 0) (g.number, g.count, g.bytes) g
    (counts_read g.number g.count g.bytes (number_small g.number h) small.0 small.1) (end_read _ g (λ behind. refl)))))

-- ---- all fields

list_goes : {A : Type 0} (tag : ℕ) (content : A → List ℕ) (f : A → Field) (P : A → Type 0) (with_items : Edit → List A → Edit) → tag < 2 ^ 32
    → ((e : Edit) → with_items e [] ≡ e) → ((e : Edit) (x : A) (xs : List A) → with_items (with_field e (f x)) xs ≡ with_items e (x ∷ xs))
    → ((x : A) → P x → IsRead (field_at tag) (content x) (f x)) → (xs : List A) (e : Edit) (rest : List ℕ) → AllByRecursion P xs
    → GoesOn e (flat_map (λ x. varint32 tag ++ content x) xs ++ rest) (with_items e xs) rest
list_goes tag content f P with_items small none more is [] e rest h =
    let Q : Edit → Type 0 = λ after. GoesOn e rest after rest in subst Q (sym (none e)) (stays e rest)
list_goes {A = A} tag content f P with_items small none more is (x ∷ xs) e rest h =
    let spell = λ (y : A). varint32 tag ++ content y in
    let left : flat_map spell (x ∷ xs) ++ rest ≡ (varint32 tag ++ content x) ++ (flat_map spell xs ++ rest) =
    ap (λ ys. ys ++ rest) (flat_map-cons spell x xs) ∙ append_assoc (varint32 tag ++ content x) (flat_map spell xs) rest in
    let Q : Edit → Type 0 = λ after. GoesOn e (flat_map spell (x ∷ xs) ++ rest) after rest in
    let R : List ℕ → Type 0 = λ ys. GoesOn e ys (with_items (with_field e (f x)) xs) rest in
    subst Q (more e x xs) (subst R (sym left)
    (then_goes e (with_field e (f x)) (with_items (with_field e (f x)) xs) _ (flat_map spell xs ++ rest) rest
    (field_goes tag (content x) (f x) e (flat_map spell xs ++ rest) small (is x h.0))
    (list_goes tag content f P with_items small none more is xs (with_field e (f x)) rest h.1)))

single_goes : {A : Type 0} (tag : ℕ) (spell : A → List ℕ) (f : A → Field) (set : Option A → Edit) (o : Option A) (rest : List ℕ) → tag < 2 ^ 32
    → ((x : A) → with_field (set None) (f x) ≡ set (Some x)) → IfSome o (λ x. IsRead (field_at tag) (spell x) (f x)) → GoesOn (set None) (single tag spell o ++ rest) (set o) rest
single_goes tag spell f set None rest small same h = stays (set None) rest
single_goes tag spell f set (Some x) rest small same h =
    let Q : Edit → Type 0 = λ after. GoesOn (set None) ((varint32 tag ++ spell x) ++ rest) after rest in
    subst Q (same x) (field_goes tag (spell x) (f x) (set None) rest small h)

some_is_read : {A : Type 0} (P Q : A → Type 0) (o : Option A) → ((x : A) → P x → Q x) → IfSome o P → IfSome o Q
some_is_read P Q None k h = tt
some_is_read P Q (Some x) k h = k x h

comparator_goes : (given : Bool) (rest : List ℕ) → GoesOn no_field (comparator_bytes given ++ rest) (record no_field { comparator = given }) rest
comparator_goes false rest = stays no_field rest
comparator_goes true rest = field_goes 1 (slice comparator_name) Comparator no_field rest (lit< tt) comparator_read

all_both : {A : Type 0} (P Q : A → Type 0) (xs : List A) → AllByRecursion P xs → AllByRecursion Q xs → AllByRecursion (λ x. P x × Q x) xs
all_both P Q [] h k = tt
all_both P Q (x ∷ xs) h k = ((h.0, k.0), all_both P Q xs h.1 k.1)

regroup : (a b c d e f g h i : List ℕ) → (a ++ (b ++ (c ++ (d ++ e)))) ++ (f ++ (g ++ (h ++ i))) ≡ a ++ (b ++ (c ++ (d ++ (e ++ (f ++ (g ++ (h ++ (i ++ []))))))))
regroup a b c d e f g h i = simp (append_assoc, append-nil)

-- the edit so far, behind each of the single fields
abbrev with_comparator : Edit → Edit
with_comparator e = record no_field { comparator = e.comparator }

abbrev with_log : Edit → Option ℕ → Edit
with_log e o = record (with_comparator e) { log_number = o }

abbrev with_next : Edit → Option ℕ → Edit
with_next e o = record (with_log e e.log_number) { next_file = o }

abbrev with_last : Edit → Option ℕ → Edit
with_last e o = record (with_next e e.next_file) { last_sequence = o }

abbrev with_options : Edit → Option Values → Edit
with_options e o = record (with_last e e.last_sequence) { options = o }

singles_go : (e : Edit) → IsEdit e → FitsWords e → (rest : List ℕ)
    → GoesOn no_field
    (comparator_bytes e.comparator ++ (single 2 varint64 e.log_number ++ (single 3 varint64 e.next_file ++ (single 4 varint64 e.last_sequence ++ (single 9216 options_bytes e.options ++ rest)))))
    (with_options e e.options) rest
singles_go e h w rest =
    let r5 : List ℕ = single 9216 options_bytes e.options ++ rest in
    let r4 : List ℕ = single 4 varint64 e.last_sequence ++ r5 in
    let r3 : List ℕ = single 3 varint64 e.next_file ++ r4 in
    let r2 : List ℕ = single 2 varint64 e.log_number ++ r3 in
    then_goes no_field (with_comparator e) (with_options e e.options) (comparator_bytes e.comparator ++ r2) r2 rest (comparator_goes e.comparator r2)
    (then_goes (with_comparator e) (with_log e e.log_number) (with_options e e.options) r2 r3 rest
    (single_goes 2 varint64 LogNumber (with_log e) e.log_number r3 (lit< tt) (λ x. refl) (some_is_read _ _ e.log_number log_number_read w.log_number))
    (then_goes (with_log e e.log_number) (with_next e e.next_file) (with_options e e.options) r3 r4 rest
    (single_goes 3 varint64 NextFile (with_next e) e.next_file r4 (lit< tt) (λ x. refl) (some_is_read _ _ e.next_file next_file_read w.next_file))
    (then_goes (with_next e e.next_file) (with_last e e.last_sequence) (with_options e e.options) r4 r5 rest
    (single_goes 4 varint64 LastSequence (with_last e) e.last_sequence r5 (lit< tt) (λ x. refl) (some_is_read _ _ e.last_sequence last_sequence_read h.last_sequence))
    (single_goes 9216 options_bytes Fixed (with_options e) e.options rest (lit< tt) (λ x. refl) (some_is_read _ _ e.options options_read h.options)))))

-- and behind each of the lists
abbrev with_deleted : Edit → List DeletedTable → Edit
with_deleted e xs = record e { deleted = e.deleted ++ xs }

abbrev with_added : Edit → List NewTable → Edit
with_added e xs = record e { added = e.added ++ xs }

abbrev with_blobs : Edit → List BlobAddition → Edit
with_blobs e xs = record e { blobs = e.blobs ++ xs }

abbrev with_garbage : Edit → List BlobGarbage → Edit
with_garbage e xs = record e { garbage = e.garbage ++ xs }

lists_go : (e : Edit) → IsEdit e → FitsWords e
    → GoesOn (with_options e e.options) (flat_map deleted_bytes e.deleted ++ (flat_map table_bytes e.added ++ (flat_map addition_bytes e.blobs ++ (flat_map garbage_bytes e.garbage ++ [])))) e []
lists_go e h w =
    let e5 : Edit = with_options e e.options in
    let e6 : Edit = with_deleted e5 e.deleted in
    let e7 : Edit = with_added e6 e.added in
    let e8 : Edit = with_blobs e7 e.blobs in
    let r9 : List ℕ = flat_map garbage_bytes e.garbage ++ [] in
    let r8 : List ℕ = flat_map addition_bytes e.blobs ++ r9 in
    let r7 : List ℕ = flat_map table_bytes e.added ++ r8 in
    then_goes e5 e6 e (flat_map deleted_bytes e.deleted ++ r7) r7 []
    (list_goes 6 (λ d. varint32 d.level ++ varint64 d.number) Deleted _ with_deleted (lit< tt) (λ f i. record f { deleted = append-nil f.deleted i })
    (λ f x xs i. record f { deleted = append_assoc f.deleted (x ∷ []) xs i }) deleted_read e.deleted e5 r7 h.deleted)
    (then_goes e6 e7 e r7 r8 []
    (list_goes 103 table_content Added _ with_added (lit< tt) (λ f i. record f { added = append-nil f.added i }) (λ f x xs i. record f { added = append_assoc f.added (x ∷ []) xs i }) table_read
    e.added e6 r8 (all_both _ _ e.added h.added w.sizes))
    (then_goes e7 e8 e r8 r9 []
    (list_goes 400 addition_content Blob _ with_blobs (lit< tt) (λ f i. record f { blobs = append-nil f.blobs i }) (λ f x xs i. record f { blobs = append_assoc f.blobs (x ∷ []) xs i }) addition_read
    e.blobs e7 r9 (all_both _ _ e.blobs h.blobs w.totals))
    (list_goes 401 garbage_content Garbage _ with_garbage (lit< tt) (λ f i. record f { garbage = append-nil f.garbage i })
    (λ f x xs i. record f { garbage = append_assoc f.garbage (x ∷ []) xs i }) garbage_read e.garbage e8 [] (all_both _ _ e.garbage h.garbage w.garbage))))

pub reads_written : ReadsWritten
unfolding read_edit edit_bytes
reads_written e h w =
    let lists : List ℕ = flat_map deleted_bytes e.deleted ++ (flat_map table_bytes e.added ++ (flat_map addition_bytes e.blobs ++ (flat_map garbage_bytes e.garbage ++ []))) in
    let all : List ℕ =
    comparator_bytes e.comparator ++ (single 2 varint64 e.log_number ++ (single 3 varint64 e.next_file ++ (single 4 varint64 e.last_sequence ++ (single 9216 options_bytes e.options ++ lists)))) in
    let same : edit_bytes e ≡ all =
    regroup (comparator_bytes e.comparator) (single 2 varint64 e.log_number) (single 3 varint64 e.next_file) (single 4 varint64 e.last_sequence) (single 9216 options_bytes e.options)
    (flat_map deleted_bytes e.deleted) (flat_map table_bytes e.added) (flat_map addition_bytes e.blobs) (flat_map garbage_bytes e.garbage) in
    let goes : GoesOn no_field all e [] = then_goes no_field (with_options e e.options) e all lists [] (singles_go e h w lists) (lists_go e h w) in
    let r = goes 0 (length all) (omega arith) in
    ap read_edit same ∙ r.3 ∙ fields_end r.1 e (at r.0 []) refl
