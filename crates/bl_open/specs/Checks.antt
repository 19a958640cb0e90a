-- The checks of the files that a version names: of a table its length and its footer, of a blob file its length, its header, its footer and the count there.
use Rattle.std.specs.Prelude.{◌≡◌, ℕ, ◌+◌, ◌-◌, ◌*◌, ◌<◌, ◌==◌, All, Contains, List, ◌++◌, length, map, take, drop, Option, None, Some, Result, Ok, Err}
use Rattle.bl_code.specs.Reading.{need, ◌>>=◌}
use Rattle.bl_site.specs.Disk.{Folder, Name}
use Rattle.bl_names.specs.declared.name.FileName.{FileName}
use Rattle.bl_names.specs.declared.name.FileName.TheVariants as file_name
use Rattle.bl_names.specs.Names.{HasNumber, name_of}
use Rattle.bl_blob.specs.declared.blob.BadBlob.{BadBlob}
use Rattle.bl_blob.specs.declared.blob.BadBlob.TheVariants.{At, OutOfMemory}
use Rattle.bl_blob.specs.declared.blob.Totals.{Totals}
use Rattle.bl_blob.specs.Reading.{read_header, read_footer}
use Rattle.bl_table.specs.Faults.{Fault}
use Rattle.bl_table.specs.Table as table
use Rattle.bl_build.specs.Listing.{Listing}
use Rattle.bl_out.specs.Files.{file}
use Rattle.bl_open.specs.declared.checks.Expected.{Expected}
use Rattle.bl_open.specs.declared.checks.Expected.TheVariants.{Table, Blob}

-- what a reading answers of a part of a file that stands at this place, a fault by its place in the file
abbrev pub from_place : {A : Type 0} → ℕ → Result A BadBlob → Result A ℕ
from_place start (Ok x) = Ok x
from_place start (Err (At rule place)) = Err (start + place)
from_place start (Err OutOfMemory) = Err start

abbrev pub passed : {A : Type 0} → Result A Fault → Result (Unit {0}) ℕ
passed (Ok x) = Ok tt
passed (Err fault) = Err fault.1

-- whether bytes pass as a table of this size, or the place of their first fault
unfoldable pub check_table : ℕ → List ℕ → Result (Unit {0}) ℕ
check_table size bytes = do
  _ ← need (length bytes == size) 0
  passed (table.read_footer (drop (size - 48) bytes) size)

-- whether they begin with the header of a blob file, and end with its footer, in which this count stands
unfoldable pub check_header : List ℕ → Result (Unit {0}) ℕ
check_header bytes = from_place 0 (read_header (take 30 bytes))

unfoldable pub check_footer : ℕ → List ℕ → Result (Unit {0}) ℕ
check_footer count bytes = do
  found ← from_place (length bytes - 32) (read_footer (drop (length bytes - 32) bytes))
  need (found == count) (length bytes - 28)

-- whether they pass as a blob file of these totals
unfoldable pub check_blob : Totals → List ℕ → Result (Unit {0}) ℕ
check_blob total bytes = do
  _ ← need (length bytes == 62 + total.bytes) 0
  _ ← check_header bytes
  check_footer total.count bytes

-- an absent file has its fault at 0
abbrev pub if_there : (List ℕ → Result (Unit {0}) ℕ) → Option (List ℕ) → Result (Unit {0}) ℕ
if_there check None = Err 0
if_there check (Some bytes) = check bytes

-- the check of a file that a version names, by what the version says of it
abbrev pub check_of : Expected → Option (List ℕ) → Result (Unit {0}) ℕ
check_of (Table number size) = if_there (check_table size)
check_of (Blob number total) = if_there (check_blob total)

abbrev pub named : Expected → FileName
named (Table number size) = file_name.Table number
named (Blob number total) = file_name.Blob number

abbrev pub check_in : Folder → Expected → Result (Unit {0}) ℕ
check_in folder e = check_of e (file folder (named e))

-- all files of a version
abbrev pub files_of : Listing → List Expected
files_of version = map (λ t. Table t.number t.size) version.tables ++ map (λ b. Blob b.number b.total) version.blobs

-- their order: by number, a table before a blob file
abbrev pub place_of : Expected → ℕ
place_of (Table number size) = 2 * number
place_of (Blob number total) = 2 * number + 1

-- these are all files of the version, in any order, and each has the number of a file
pub record AreAll (version : Listing) (files : List Expected) : Type 0 where
  pub each : All (λ e. HasNumber (named e) × Contains (files_of version) e) files
  pub all : All (Contains files) (files_of version)

-- each file of the version passes
abbrev pub AllPass : Folder → Listing → Type 0
AllPass folder version = All (λ e. check_in folder e ≡ Ok tt) (files_of version)

-- the first file of the version that fails has this name, and its fault stands at this place
pub record FilesFail (folder : Folder) (version : Listing) (name : Name) (place : ℕ) : Type 0 where
  pub found : Expected
  pub among : Contains (files_of version) found
  pub fails : check_in folder found ≡ Err place
  pub name_is : name ≡ name_of (named found)
  pub first : All (λ e. place_of e < place_of found → check_in folder e ≡ Ok tt) (files_of version)
