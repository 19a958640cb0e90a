-- What is stored of a site in memory is what its record says.
use Rattle.std.specs.Prelude.{◌≡◌, ℕ, ◌-◌, ◌^◌, min, List, length, String}
use Rattle.std.specs.Option.{option_map}
use Rattle.std.specs.declared.alloc.Global.{Global}
use Rattle.std.specs.BTreeMap.{BTreeMap}
use Rattle.bl_site.specs.Disk.{Name, File, Disk}
use Rattle.bl_site_mem.specs.Files.{contents}
use Rattle.bl_site_mem.specs.Record.{Entry, start, run, calls_in}
use Rattle.bl_site_mem.specs.declared.files.MemFile.{MemFile}

-- a file's bytes as they read, and how many of them are synced
abbrev pub kept_of : File → List ℕ × ℕ
kept_of file = (file.read, length file.front)

abbrev pub IsKept : BTreeMap (String Global) MemFile → Disk → Type 0
IsKept files disk = (name : Name) → contents files name ≡ option_map kept_of (disk name)

pub record IsTied (files : BTreeMap (String Global) MemFile) (told : List ℕ) (calls : ℕ) (entries : List Entry) : Type 0 where
  pub kept : IsKept files (run entries start).disk
  pub told_kept : told ≡ (run entries start).told
  pub calls_kept : calls ≡ min (calls_in entries) (2 ^ 64 - 1)
