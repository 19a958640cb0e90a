-- The files of a folder by their names, and what keeps a folder without CURRENT from being fresh.
use Rattle.std.specs.Prelude.{◌≡◌, ◌≢◌, ◌⊎◌, ℕ, ◌≤◌, All, Contains, List, [], false, None, Some, IsSome}
use Rattle.std.specs.List.Sorted.{IsStrictlySortedBy}
use Rattle.std.specs.Ordering.{nat_cmp}
use Rattle.bl_code.specs.Order.{bytes_lt}
use Rattle.bl_site.specs.Disk.{Folder, Name}
use Rattle.bl_names.specs.declared.name.FileName.{FileName}
use Rattle.bl_names.specs.declared.name.FileName.TheVariants.{Current, Manifest, Log, Table, Blob, Temp}
use Rattle.bl_names.specs.Names.{HasNumber, IsNameOf, IsNumber, name_of}
use Rattle.bl_out.specs.Files.{file}
use Rattle.bl_folder.specs.Numbers.{number_of}

-- exactly the files of the store's forms that these names are
pub record AreNamed (names : List Name) (files : List FileName) : Type 0 where
  pub each : All (λ f. HasNumber f × Contains names (name_of f)) files
  pub all : All (λ name. (f : FileName) → IsNameOf name f → Contains files f) names

-- exactly the files of the store's forms that are in the folder
pub record AreListed (folder : Folder) (files : List FileName) : Type 0 where
  pub each : All (λ f. HasNumber f × IsSome (file folder f)) files
  pub all : (f : FileName) → HasNumber f → IsSome (file folder f) → Contains files f

-- the greatest number of such a file, or 0 where none has one
pub record IsGreatest (folder : Folder) (n : ℕ) : Type 0 where
  pub above : (f : FileName) → HasNumber f → IsSome (file folder f) → number_of f ≤ n
  pub one : (n ≡ 0) ⊎ ((f : FileName) × HasNumber f × IsSome (file folder f) × (number_of f ≡ n))

-- exactly the numbers of the folder's logs, ascending
pub record AreLogs (folder : Folder) (numbers : List ℕ) : Type 0 where
  pub ascend : IsStrictlySortedBy nat_cmp numbers
  pub each : All (λ n. IsNumber n × IsSome (file folder (Log n))) numbers
  pub all : (n : ℕ) → IsNumber n → IsSome (file folder (Log n)) → Contains numbers n

-- a fresh folder has no such file: a table, a blob file, or a log of some bytes
abbrev pub IsStrayFile : FileName → List ℕ → Type 0
IsStrayFile Current bytes = ⊥
IsStrayFile (Manifest n) bytes = ⊥
IsStrayFile (Log n) bytes = bytes ≢ []
IsStrayFile (Table n) bytes = Unit {0}
IsStrayFile (Blob n) bytes = Unit {0}
IsStrayFile (Temp n) bytes = ⊥

pub record IsStray (folder : Folder) (f : FileName) : Type 0 where
  pub number : HasNumber f
  pub bytes : List ℕ
  pub there : file folder f ≡ Some bytes
  pub stray : IsStrayFile f bytes

-- there is no CURRENT, and of the files that no fresh folder has this one's name is the first in the order of bytes
pub record IsFirstStray (folder : Folder) (name : Name) : Type 0 where
  pub no_current : file folder Current ≡ None
  pub found : FileName
  pub stray : IsStray folder found
  pub name_is : name ≡ name_of found
  pub first : (f : FileName) → IsStray folder f → bytes_lt (name_of f) name ≡ false
