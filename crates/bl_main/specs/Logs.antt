-- The logs of a folder, by number.
use Rattle.std.specs.Prelude.{◌≡◌, ◌⊎◌, ℕ, if◌then◌else◌, Some, IsSome, MatchOption, String}
use Rattle.std.specs.String.{string_bytes}
use Rattle.std.specs.declared.alloc.Global.{Global}
use Rattle.std.specs.Ordering.{nat_cmp}
use Rattle.std.specs.BTreeMap.{BTreeMap, IsOrdered, get, is_at}
use Rattle.bl_site.specs.Disk.{Name, Folder}
use Rattle.bl_names.specs.Names.{IsNumber, IsNameOf, name_of}
use Rattle.bl_names.specs.declared.name.FileName.TheVariants.{Log}

-- each log that is there, and no other, with its name
abbrev pub HasLogs : (there : Name → Type 0) → BTreeMap ℕ (String Global) → Type 0
HasLogs there logs = (number : ℕ) → MatchOption (get nat_cmp logs number)
    (IsNumber number → there (name_of (Log number)) → ⊥)
    (λ name. IsNameOf (string_bytes name) (Log number) × there (string_bytes name))

-- exactly the logs of the folder, in order of number
pub record AreLogsOf (folder : Folder) (logs : BTreeMap ℕ (String Global)) : Type 0 where
  pub ascend : IsOrdered nat_cmp logs
  pub exact : HasLogs (λ name. IsSome (folder name)) logs

-- the name joins the others where it is a log's
abbrev pub TakesLog : String Global → (old new : BTreeMap ℕ (String Global)) → Type 0
TakesLog name old new =
    ((number : ℕ) × IsNameOf (string_bytes name) (Log number) × ((other : ℕ) → get nat_cmp new other ≡ (if is_at (nat_cmp number) other then Some name else get nat_cmp old other)))
    ⊎ (((number : ℕ) → IsNameOf (string_bytes name) (Log number) → ⊥) × (new.entries ≡ old.entries))
