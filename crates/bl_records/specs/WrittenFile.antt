-- A file that is written record by record.
use Rattle.std.specs.Prelude.{ℕ, ◌+◌, ◌%◌, Bool, false, List, length}
use Rattle.bl_site.specs.Disk.{Name}

-- its name, the place in its block at which the next record stands, and whether a call of it has failed
pub record WrittenFile : Type 0 where
  pub name : Name
  pub place : ℕ
  pub failed : Bool

abbrev pub new_file : Name → WrittenFile
new_file name = record { name = name; place = 0; failed = false }

-- the file behind these bytes more
abbrev pub behind : WrittenFile → List ℕ → WrittenFile
behind file bytes = record { name = file.name; place = (file.place + length bytes) % 32768; failed = file.failed }
