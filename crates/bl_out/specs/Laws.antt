-- Laws of what files hold.
use Rattle.std.specs.Prelude.{◌≡◌, ℕ, ◌+◌, List, drop, length, take, Some}
use Rattle.std.specs.List.{IsDistinct}
use Rattle.std.specs.List.Sorted.{IsPermutation}
use Rattle.bl_entry.specs.Revisions.{Revision, value_at}
use Rattle.bl_index.specs.declared.index.BlobIndex.{BlobIndex}
use Rattle.bl_blob.specs.BlobFile.{IsBlobFile, IsRecordOf, Record, record_bytes}
use Rattle.bl_out.specs.References.{Reference}
use Rattle.bl_out.specs.Tables.{same_record}
use Rattle.bl_out.specs.Values.{same_revision, value_in}

-- the bytes at a place
abbrev pub part : ℕ → ℕ → List ℕ → List ℕ
part place size bytes = take size (drop place bytes)

-- The bytes of the record that an index resolves to: its head begins 32 bytes and the key before the offset.
pub record IsReadAt (bytes key : List ℕ) (index : BlobIndex) (value : List ℕ) : Type 0 where
  pub place : ℕ
  pub place_is : place + 32 + length key ≡ index.offset
  pub part_is : part place (32 + length key + index.size) bytes ≡ record_bytes (record { key = key; value = value })
  pub is_record : IsRecordOf (part place (32 + length key + index.size) bytes) key index.size

-- In a blob file an index that resolves has its record there: so the record alone may be read.
abbrev pub ValuesAreReadAt : Type 0
ValuesAreReadAt = (bytes : List ℕ) (rs : List Record) (key : List ℕ) (index : BlobIndex) (value : List ℕ)
    → IsBlobFile bytes rs → value_in key index rs ≡ Some value → IsReadAt bytes key index value

-- Where no user key and sequence occur twice, the map does not depend on the order of the entries;
abbrev pub ValuesInAnyOrder : Type 0
ValuesInAnyOrder = (es fs : List Revision) (seq : ℕ) (key : List ℕ) → IsPermutation es fs → IsDistinct same_revision es → value_at es seq key ≡ value_at fs seq key

-- that none occurs twice is so in each order, and that no record is referenced twice too.
abbrev pub OnceInAnyOrder : Type 0
OnceInAnyOrder = (es fs : List Revision) → IsPermutation es fs → IsDistinct same_revision es → IsDistinct same_revision fs

abbrev pub ApartInAnyOrder : Type 0
ApartInAnyOrder = (rs qs : List Reference) → IsPermutation rs qs → IsDistinct same_record rs → IsDistinct same_record qs
