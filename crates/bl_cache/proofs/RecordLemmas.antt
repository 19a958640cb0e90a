-- Records in their place.
use Rattle.std.proofs.Common.{◌≡◌, ℕ, ◌+◌, ◌≤◌, List, length, Result, Ok, Err, ◌∙◌, ap, subst, arith, Bool, true, false}
use Rattle.std.specs.Prelude.{◌&&◌, ◌==◌, not, nat_le, nat_eq, take}
use Rattle.std.specs.Cmp.Lexicographic.{pointwise}
use Rattle.bl_code.specs.Reading.{◌>>=◌, need}
use Rattle.bl_blob.specs.BlobFile.{IsRecordOf}
use Rattle.bl_blob.specs.Reading.{fixed32_at, fixed64_at, head_in, key_in, masked, read_record, span, sum_in}
use Rattle.bl_blob.specs.declared.blob.BadBlob.{BadBlob}
use Rattle.bl_blob.specs.declared.blob.BadBlob.TheVariants.{At}
use Rattle.bl_blob.specs.declared.blob.BlobRule.{BlobRule}
use Rattle.bl_blob.specs.declared.blob.BlobRule.TheVariants.{Length, Crc, Ttl, Key}
use Rattle.bl_blob.proofs.RecordLemmas.{length-record}

-- a record is as long as its head, its key and its value
pub record_size : (bytes key : List ℕ) (size : ℕ) → IsRecordOf bytes key size → length bytes ≡ 32 + length key + size
record_size bytes key size h = ap length h.spelled ∙ length-record (record { key = key; value = h.value }) ∙ ap (λ n. 32 + length key + n) h.size_is

-- a fault is one of the head's or of the checksum at its end
record IsNear {A : Type 0} (r : Result A BadBlob) : Type 0 where
  pub near : (rule : BlobRule) (place : ℕ) → r ≡ Err (At rule place) → place ≤ 32

fine : {A : Type 0} (x : A) → IsNear {A = A} (Ok x)
fine {A} x = record { near = λ rule place h. absurd (wrong rule place h) }
  where
    wrong : (rule : BlobRule) (place : ℕ) → ◌≡◌ {A = Result A BadBlob} (Ok x) (Err (At rule place)) → ⊥
    wrong rule place h = cc

same_place : {A : Type 0} (a b : BlobRule) (m n : ℕ) → ◌≡◌ {A = Result A BadBlob} (Err (At a m)) (Err (At b n)) → m ≡ n
same_place a b m n h = cc

need_near : (b : Bool) (rule : BlobRule) (place : ℕ) → place ≤ 32 → IsNear (need b (At rule place))
need_near true rule place le = fine tt
need_near false rule place le = record { near = λ other n h. subst (λ k. k ≤ 32) (same_place rule other place n h) le }

then_near : {A B : Type 0} (r : Result A BadBlob) (f : A → Result B BadBlob) → IsNear r → ((x : A) → IsNear (f x)) → IsNear (r >>= f)
then_near (Ok x) f h k = k x
then_near {A} {B} (Err e) f h k = record { near = λ rule place is. h.near rule place (ap (λ x. Err x) (inner rule place is)) }
  where
    inner : (rule : BlobRule) (place : ℕ) → ◌≡◌ {A = Result B BadBlob} (Err e) (Err (At rule place)) → e ≡ At rule place
    inner rule place is = cc

head_near : (bytes : List ℕ) → IsNear (head_in 0 bytes)
unfolding head_in
head_near bytes =
    then_near _ _ (need_near (nat_le 32 (length bytes)) Length 0 (omega arith)) (λ _.
    then_near _ _ (need_near (fixed32_at 24 bytes == masked (take 24 bytes)) Crc 24 (omega arith)) (λ _.
    then_near _ _ (need_near (fixed64_at 16 bytes == 0) Ttl 16 (omega arith)) (λ _.
    then_near _ _ (need_near (nat_le 1 (fixed64_at 0 bytes) && nat_le (fixed64_at 0 bytes) 65535) Key 0 (omega arith)) (λ _. fine (record { key = fixed64_at 0 bytes; value = fixed64_at 8 bytes })))))

record_near : (bytes key : List ℕ) (size : ℕ) → IsNear (read_record bytes key size)
unfolding read_record
record_near bytes key size =
    then_near _ _ (head_near bytes) (λ sizes.
    then_near _ _ (need_near (not (nat_le (32 + sizes.key) (length bytes) && not (pointwise nat_eq (key_in sizes bytes) key))) Key 32 (omega arith)) (λ _.
    then_near _ _ (need_near (nat_le sizes.value 16777216 && (sizes.value == size && span sizes == length bytes)) Length 8 (omega arith)) (λ _.
    need_near (fixed32_at 28 bytes == sum_in sizes bytes) Crc 28 (omega arith))))

pub fault_is_near : (bytes key : List ℕ) (size : ℕ) (rule : BlobRule) (place : ℕ) → read_record bytes key size ≡ Err (At rule place) → place ≤ 32
fault_is_near bytes key size rule place h = (record_near bytes key size).near rule place h
