-- No torn fragment's checksum matches by chance.
use Rattle.std.specs.Prelude.{◌≡◌, ℕ, List, Some}
use Rattle.bl_site.specs.Disk.{Folder}
use Rattle.bl_log.specs.Written.{OnlyWritten}
use Rattle.bl_names.specs.Names.{name_of, IsNumber}
use Rattle.bl_names.specs.declared.name.FileName.{FileName}
use Rattle.bl_names.specs.declared.name.FileName.TheVariants.{Log, Manifest}

-- each fragment that reading the file accepts stands at the same place in what was written of it
abbrev pub IsOnlyWritten : Folder → Folder → FileName → Type 0
IsOnlyWritten folder written file = (bytes : List ℕ) → folder (name_of file) ≡ Some bytes → (all : List ℕ) × (written (name_of file) ≡ Some all) × OnlyWritten bytes all

-- so it is with each log and each manifest of a folder
pub record NoChanceMatch (folder written : Folder) : Type 0 where
  pub logs : (n : ℕ) → IsNumber n → IsOnlyWritten folder written (Log n)
  pub manifests : (n : ℕ) → IsNumber n → IsOnlyWritten folder written (Manifest n)
