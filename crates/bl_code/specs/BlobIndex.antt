-- Blob indexes, as RocksDB's BlobDB stores them in place of a large value: which file, where in it, and how many bytes.
use Rattle.std.specs.Prelude.{◌≡◌, ℕ, List, [], ◌∷◌, ◌++◌}
use Rattle.bl_code.specs.Numbers.{IsVarint64, varint64}

-- the grammar: 01, file, offset and size, and 00 for no compression, used to the last byte
pub record IsBlobIndex (bytes : List ℕ) (file offset size : ℕ) : Type 0 where
  pub file_bytes : List ℕ
  pub offset_bytes : List ℕ
  pub size_bytes : List ℕ
  pub file_is : IsVarint64 file_bytes file
  pub offset_is : IsVarint64 offset_bytes offset
  pub size_is : IsVarint64 size_bytes size
  pub spelled : bytes ≡ 1 ∷ (file_bytes ++ (offset_bytes ++ (size_bytes ++ 0 ∷ [])))

-- the shortest spelling
abbrev pub blob_index : ℕ → ℕ → ℕ → List ℕ
blob_index file offset size = 1 ∷ (varint64 file ++ (varint64 offset ++ (varint64 size ++ 0 ∷ [])))
