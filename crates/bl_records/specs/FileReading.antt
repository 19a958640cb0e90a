-- A file that is read, record by record.
use Rattle.std.specs.Prelude.{◌≡◌, ℕ, ◌%◌, ◌^◌, ◌≤◌, List, [], ◌∷◌, ◌++◌, length, take, true, Option, Some, unwrap_or}
use Rattle.bl_site.specs.Disk.{Name}
use Rattle.bl_log.specs.Log.{placed_records, ending}
use Rattle.bl_log.specs.declared.cause.EndCause.{EndCause}
use Rattle.bl_log.specs.Reading.{Reading, HasRead}

-- the file's name, the offset before which its bytes were fed, and the reader that was fed them
pub record FileReading : Type 0 where
  pub name : Name
  pub offset : ℕ
  pub reading : Reading

abbrev pub reading_at : Name → ℕ → Reading → FileReading
reading_at name offset reading = record { name = name; offset = offset; reading = reading }

-- The reader was fed the bytes of the file before the offset, none where there is no file, and has found these records, each with the
-- place behind it. Once it is closed those were all bytes of the file.
pub record HasFound (file : Option (List ℕ)) (found : List (List ℕ × ℕ)) (reader : FileReading) : Type 0 where
  pub reads : HasRead (take reader.offset (unwrap_or file [])) found reader.reading
  pub whole : reader.reading.closed ≡ true → (bytes : List ℕ) × (file ≡ Some bytes) × (length bytes ≤ reader.offset)

-- the file is there, and behind the records found this one is its next, behind which the reader stands
pub record FindsNext (file : Option (List ℕ)) (found : List (List ℕ × ℕ)) (payload : List ℕ) (reader : FileReading) : Type 0 where
  pub behind : ℕ
  pub finds : HasFound file (found ++ (payload, behind) ∷ []) reader
  pub stands : reader.reading.place ≡ behind % 2 ^ 64
  pub bytes : List ℕ
  pub there : file ≡ Some bytes
  pub rest : List (List ℕ × ℕ)
  pub split : placed_records bytes ≡ found ++ ((payload, behind) ∷ rest)

-- the file is there, its records are these, and its reading ends at this place, modulo 2 ^ 64, for this cause
pub record EndsBehind (file : Option (List ℕ)) (found : List (List ℕ × ℕ)) (place : ℕ) (cause : EndCause) : Type 0 where
  pub bytes : List ℕ
  pub there : file ≡ Some bytes
  pub all_found : found ≡ placed_records bytes
  pub place_is : place ≡ (ending bytes).0 % 2 ^ 64
  pub cause_is : cause ≡ (ending bytes).1
