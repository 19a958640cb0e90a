-- Records of a blob file, each at its place.
use Rattle.std.proofs.Common.{◌≡◌, ℕ, ◌+◌, ◌-◌, ◌≤◌, ◌==◌, nat_lt, Bool, true, false, cond, List, [], ◌∷◌, ◌++◌, length, take, drop, Option, Some, None, Ok, Err, refl, sym, ◌∙◌, ap, subst, arith, length-append, append_assoc}
use Rattle.std.specs.Prelude.{◌&&◌, find, flat_map}
use Rattle.std.specs.List.{AllByRecursion}
use Rattle.std.proofs.lemmas.Bool.{eqb-true, false≢true}
use Rattle.std.proofs.lemmas.List.{append-nil, drop-drop}
use Rattle.std.proofs.lemmas.Map.Text.{is_eq-slice_cmp}
use Rattle.std.proofs.lemmas.Slice.Eq.{bytes_eq-Decides}
use Rattle.std.proofs.Math.Seq.{take-append_seam, drop-append_seam}
use Rattle.bl_code.specs.Numbers.{fixed32, fixed64}
use Rattle.bl_code.specs.Order.{same_bytes}
use Rattle.bl_entry.proofs.ItemLemmas.{some_is}
use Rattle.bl_blob.specs.BlobFile.{IsRecord, IsRecordOf, Record, blobs_of, footer, header, placed, record_bytes, size_of}
use Rattle.bl_blob.specs.declared.blob.BlobAt.{BlobAt}
use Rattle.bl_blob.proofs.ReadLemmas.{record_all}
use Rattle.bl_blob.proofs.RecordLemmas.{behind_head, length-record}
use Rattle.bl_index.specs.declared.index.BlobIndex.{BlobIndex}
use Rattle.bl_cache.specs.Laws.{NamedAreRead, is_named}
use Rattle.bl_cache.specs.Reading.{part_at, read_value, value_in, value_with}

abbrev record_of : BlobAt → Record
record_of r = record { key = r.key; value = r.value }

-- a record stands in these bytes
record Stands (bytes : List ℕ) (r : BlobAt) : Type 0 where
  pub start : ℕ
  pub more : List ℕ
  pub offset_is : r.offset ≡ start + 32 + length r.key
  pub there : drop start bytes ≡ record_bytes (record_of r) ++ more
  pub bounds : IsRecord (record_of r)

by_test : {C : Type 0} (b : Bool) → (b ≡ true → C) → (b ≡ false → C) → C
by_test true f g = f refl
by_test false f g = g refl

abbrev first_of : ℕ → Record → BlobAt
first_of place x = record { offset = place + 32 + length x.key; key = x.key; value = x.value }

-- the first of what is found stands here, or further on
found_stands : (p : BlobAt → Bool) (rs : List Record) (before rest : List ℕ) (r : BlobAt) → AllByRecursion IsRecord rs → find p (placed (length before) rs) ≡ Some r → Stands (before ++ (flat_map record_bytes rs ++ rest)) r
unfolding placed
found_stands p [] before rest r all h = absurd (wrong h)
  where
    wrong : ◌≡◌ {A = Option BlobAt} None (Some r) → ⊥
    wrong is = cc
found_stands p (x ∷ rs) before rest r all h =
    let behind : List ℕ = flat_map record_bytes rs ++ rest in
    let joined : (record_bytes x ++ flat_map record_bytes rs) ++ rest ≡ record_bytes x ++ behind = append_assoc (record_bytes x) (flat_map record_bytes rs) rest in
    by_test (p (first_of (length before) x))
    (λ t.
    let own : first_of (length before) x ≡ r = some_is (sym (ap (λ b. cond b (Some (first_of (length before) x)) (find p (placed (length before + size_of x) rs))) t) ∙ h) in
    subst (Stands (before ++ ((record_bytes x ++ flat_map record_bytes rs) ++ rest))) own
    (record {
      start = length before;
      more = behind;
      offset_is = refl;
      there = drop-append_seam before ((record_bytes x ++ flat_map record_bytes rs) ++ rest) ∙ joined;
      bounds = all.0;
    }))
    (λ t.
    let size : length (before ++ record_bytes x) ≡ length before + size_of x = length-append before (record_bytes x) ∙ ap (λ n. length before + n) (length-record x) in
    let on : find p (placed (length (before ++ record_bytes x)) rs) ≡ Some r =
    ap (λ n. find p (placed n rs)) size ∙ sym (ap (λ b. cond b (Some (first_of (length before) x)) (find p (placed (length before + size_of x) rs))) t) ∙ h in
    let whole : (before ++ record_bytes x) ++ behind ≡ before ++ ((record_bytes x ++ flat_map record_bytes rs) ++ rest) =
    append_assoc before (record_bytes x) behind ∙ ap (λ ys. before ++ ys) (sym joined) in
    subst (λ bytes. Stands bytes r) whole (found_stands p rs (before ++ record_bytes x) rest r all.1 on))

split : (a b : Bool) → (a && b) ≡ true → (a ≡ true) × (b ≡ true)
split true b h = (refl, h)
split false b h = absurd (false≢true h)

passes : (p : BlobAt → Bool) (xs : List BlobAt) (r : BlobAt) → find p xs ≡ Some r → p r ≡ true
passes p [] r h = absurd (wrong h)
  where
    wrong : ◌≡◌ {A = Option BlobAt} None (Some r) → ⊥
    wrong is = cc
passes p (x ∷ xs) r h =
    by_test (p x)
    (λ t. subst (λ (y : BlobAt). p y ≡ true) (some_is (sym (ap (λ b. cond b (Some x) (find p xs)) t) ∙ h)) t)
    (λ t. passes p xs r (sym (ap (λ b. cond b (Some x) (find p xs)) t) ∙ h))

same_key : (k q : List ℕ) → same_bytes k q ≡ true → k ≡ q
same_key k q e = (bytes_eq-Decides k q).0 (sym (is_eq-slice_cmp k q) ∙ e)

-- what stands there is read
stood_is_read : (bytes : List ℕ) (index : BlobIndex) (r : BlobAt) → Stands bytes r → r.offset ≡ index.offset → length r.value ≡ index.size → read_value r.key index (Some bytes) ≡ Ok r.value
stood_is_read bytes index r s at size =
    let offset : index.offset ≡ s.start + 32 + length r.key = sym at ∙ s.offset_is in
    let not_before : nat_lt index.offset (32 + length r.key) ≡ false = behind index.offset (32 + length r.key) (omega (arith, offset)) in
    let start : index.offset - (32 + length r.key) ≡ s.start = omega (arith, offset) in
    let long : length (record_bytes (record_of r)) ≡ 32 + length r.key + index.size = length-record (record_of r) ∙ ap (λ n. 32 + length r.key + n) size in
    let part : part_at (index.offset - (32 + length r.key)) (32 + length r.key + index.size) bytes ≡ record_bytes (record_of r) =
    (λ i. take (sym long i) (drop (start i) bytes)) ∙ ap (take (length (record_bytes (record_of r)))) s.there ∙ take-append_seam (record_bytes (record_of r)) s.more in
    ap (λ b. cond b (Err 0) (value_in (index.offset - (32 + length r.key)) r.key index.size (part_at (index.offset - (32 + length r.key)) (32 + length r.key + index.size) bytes))) not_before
    ∙ ap (value_in (index.offset - (32 + length r.key)) r.key index.size) part
    ∙ ap (value_with (index.offset - (32 + length r.key)) (drop (32 + length r.key) (record_bytes (record_of r)))) (record_all (record_bytes (record_of r)) r.key index.size is_one)
    ∙ ap (λ v. Ok v) value
  where
    behind : (m n : ℕ) → n ≤ m → nat_lt m n ≡ false
    behind m n le = grind arith

    is_one : IsRecordOf (record_bytes (record_of r)) r.key index.size
    is_one = record { value = r.value; bounds = s.bounds; size_is = size; spelled = refl }

    value : drop (32 + length r.key) (record_bytes (record_of r)) ≡ r.value
    value =
        ap (drop (32 + length r.key)) (sym (append-nil (record_bytes (record_of r)))) ∙ sym (drop-drop (length r.key) 32 (record_bytes (record_of r) ++ []))
        ∙ ap (drop (length r.key)) (behind_head (record_of r) []) ∙ drop-append_seam r.key (r.value ++ []) ∙ append-nil r.value

length-header : length header ≡ 30
unfolding fixed32 fixed64
length-header = refl

pub named_is_read : NamedAreRead
named_is_read bytes rs key index r file h =
    let named = passes (is_named key index) (blobs_of rs) r h in
    let p = split ((r.offset == index.offset) && same_bytes r.key key) (length r.value == index.size) named in
    let q = split (r.offset == index.offset) (same_bytes r.key key) p.0 in
    let from_header : find (is_named key index) (placed (length header) rs) ≡ Some r = ap (λ n. find (is_named key index) (placed n rs)) length-header ∙ h in
    let stands = found_stands (is_named key index) rs header (footer (length rs)) r file.records from_header in
    subst (λ k. read_value k index (Some bytes) ≡ Ok r.value) (same_key r.key key q.1)
    (stood_is_read bytes index r (subst (λ b. Stands b r) (sym file.spelled) stands) (eqb-true r.offset index.offset q.0) (eqb-true (length r.value) index.size p.1))
