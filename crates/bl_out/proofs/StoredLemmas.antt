-- The records of new blob files are stored as their indexes say.
use Rattle.std.proofs.Common.{◌≡◌, ℕ, ◌+◌, ◌<◌, ◌≤◌, ◌^◌, List, [], ◌∷◌, length, refl, ap, subst, arith, inl, inr}
use Rattle.std.specs.Prelude.{sum_by, IsTrue}
use Rattle.std.specs.List.{AllByRecursion}
use Rattle.std.proofs.lemmas.List.Sums.{sum_by-cons}
use Rattle.bl_code.specs.BlobIndex.{IsBlobIndex, blob_index}
use Rattle.bl_code.proofs.Basics.{all_from}
use Rattle.bl_blob.specs.declared.blob.BlobAt.{BlobAt}
use Rattle.bl_blob.specs.declared.blob.Totals.{Totals}
use Rattle.bl_blob.specs.BlobFile.{Record, blobs_of, placed, size_of}
use Rattle.bl_edit.specs.Bounds.{is_number}
use Rattle.bl_out.proofs.AmongLemmas.{Among, Mapped, all_at, all_by, among_mapped, among_parts}
use Rattle.bl_out.proofs.WrittenLemmas.{IndexIsRead, IsStored}
use Rattle.bl_out.specs.Flushes.{IsNewBlob, NewBlob, stored}
use Rattle.bl_out.specs.Written.{Stored, stored_at, stored_of}

-- the shortest spelling of a blob index is one
abbrev pub IndexIsSpelled : Type 0
IndexIsSpelled = (file offset size : ℕ) → file < 2 ^ 64 → offset < 2 ^ 64 → size < 2 ^ 64 → IsBlobIndex (blob_index file offset size) file offset size

pub number_is : (n : ℕ) → IsTrue (is_number n) → (1 ≤ n) × (n < 10 ^ 15)
number_is n t = grind (arith, t)

-- values end before the file does
pub within : (place : ℕ) (rs : List Record) → AllByRecursion (λ r. r.offset + length r.value ≤ place + sum_by size_of rs) (placed place rs)
unfolding placed
within place [] = tt
within place (r ∷ rs) =
    let total = sum_by-cons size_of r rs in (
      omega (arith, total),
      all_from (λ (q : BlobAt). q.offset + length q.value ≤ place + size_of r + sum_by size_of rs) (λ q. q.offset + length q.value ≤ place + sum_by size_of (r ∷ rs)) (placed (place + size_of r) rs) (λ q h. omega (arith, total, h)) (within (place + size_of r) rs),
    )

abbrev pub new_number : NewBlob → ℕ
new_number b = b.named.number

abbrev pub stored_in : NewBlob → List Stored
stored_in b = stored_of b.named.number b.records

-- ---- where a record of several files is

pub record InFile (bs : List NewBlob) (s : Stored) : Type 0 where
  pub file : NewBlob
  pub there : Among file bs
  pub at : BlobAt
  pub inside : Among at (blobs_of file.records)
  pub is : stored_at file.named.number at ≡ s

in_more : (b : NewBlob) (bs : List NewBlob) (s : Stored) → InFile bs s → InFile (b ∷ bs) s
in_more b bs s f = record { file = f.file; there = inr f.there; at = f.at; inside = f.inside; is = f.is }

in_first : (b : NewBlob) (bs : List NewBlob) (s : Stored) → Mapped (stored_at b.named.number) (blobs_of b.records) s → InFile (b ∷ bs) s
in_first b bs s m = record { file = b; there = inl refl; at = m.from; inside = m.there; is = m.is }

pub in_file : (bs : List NewBlob) (s : Stored) → Among s (stored bs) → InFile bs s
in_file [] s h = absurd h
in_file (b ∷ bs) s h = elim (among_parts (stored_in b) (stored bs) s h) [
  | inl here_ ↦ in_first b bs s (among_mapped (stored_at b.named.number) (blobs_of b.records) s here_)
  | inr more ↦ in_more b bs s (in_file bs s more)
]

stored_one : IndexIsRead → IndexIsSpelled → (from : ℕ) (bs : List NewBlob) → AllByRecursion (IsNewBlob from) bs → (s : Stored) → InFile bs s → IsStored s
stored_one reads spells from bs news s i =
    let b : NewBlob = i.file in
    let q : BlobAt = i.at in
    let new : IsNewBlob from b = all_at (IsNewBlob from) bs b news i.there in
    let in_bounds : (1 ≤ new_number b) × (new_number b < 10 ^ 15) = number_is (new_number b) new.fits in
    let ends : q.offset + length q.value ≤ 30 + sum_by size_of b.records = all_at (λ (r : BlobAt). r.offset + length r.value ≤ 30 + sum_by size_of b.records) (blobs_of b.records) q (within 30 b.records) i.inside in
    let bytes : sum_by size_of b.records ≡ b.named.bytes = ap (λ (t : Totals). t.bytes) new.totals in
    let size : 62 + b.named.bytes < 2 ^ 63 = new.size in
    let low : new_number b < 10 ^ 15 = in_bounds.1 in
    let file_fits : new_number b < 2 ^ 64 = omega arith in
    let offset_fits : q.offset < 2 ^ 64 = omega arith in
    let size_fits : length q.value < 2 ^ 64 = omega arith in
    subst IsStored i.is (record {
      reads = reads (record { file = new_number b; offset = q.offset; size = length q.value }) file_fits offset_fits size_fits;
      spells = spells (new_number b) q.offset (length q.value) file_fits offset_fits size_fits;
      some = in_bounds.0;
      number = in_bounds.1;
      size = refl;
    })

pub stored_are : IndexIsRead → IndexIsSpelled → (from : ℕ) (bs : List NewBlob) → AllByRecursion (IsNewBlob from) bs → AllByRecursion IsStored (stored bs)
stored_are reads spells from bs news = all_by IsStored (stored bs) (λ s there. stored_one reads spells from bs news s (in_file bs s there))
