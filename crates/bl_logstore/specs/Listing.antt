-- The names that a folder lists, and the numbers of its logs.
use Rattle.std.specs.Prelude.{◌≡◌, ◌↔◌, ℕ, ◌<◌, Bool, List, IsSome, IsTrue, slice_index_or, true, false, ◌⊎◌, if◌then◌else◌}
use Rattle.std.specs.Ordering.{nat_cmp}
use Rattle.std.specs.BTreeMap.{is_at}
use Rattle.std.specs.List.{list_any, AllByRecursion}
use Rattle.std.specs.List.Sorted.{IsStrictlySortedBy}
use Rattle.bl_code.specs.Order.{bytes_lt}
use Rattle.bl_site.specs.Disk.{Name, Folder}
use Rattle.bl_names.specs.declared.name.FileName.TheVariants.{Log}
use Rattle.bl_names.specs.Names.{IsNumber, IsNameOf}
use Rattle.bl_wal.specs.LogFile.{log_name}
use Rattle.bl_logstore.specs.Folders.{IsOther}

-- one of the first so many names
abbrev pub IsWithin : ℕ → List Name → Name → Type 0
IsWithin count names name = (k : ℕ) × (k < count) × (slice_index_or names k name ≡ name)

-- of the first so many names, the first that is a store's and no log's
pub record IsLeastOther (count : ℕ) (names : List Name) (name : Name) : Type 0 where
  pub among : IsWithin count names name
  pub other : IsOther name
  pub least : (before : Name) → IsWithin count names before → IsOther before → bytes_lt before name ≡ false

-- whether the number is among these
abbrev pub is_in : ℕ → List ℕ → Bool
is_in number numbers = list_any (is_at (nat_cmp number)) numbers

-- exactly the numbers of the logs among the first so many names
abbrev pub AreLogNumbers : ℕ → List Name → List ℕ → Type 0
AreLogNumbers count names numbers = (number : ℕ) → IsTrue (is_in number numbers) ↔ (IsNumber number × IsWithin count names (log_name number))

-- the logs among these names, ascending, and no name that is a store's and no log's
pub record AreAllLogs (count : ℕ) (names : List Name) (numbers : List ℕ) : Type 0 where
  pub sorted : IsStrictlySortedBy nat_cmp numbers
  pub logs : AreLogNumbers count names numbers
  pub no_other : (name : Name) → IsWithin count names name → IsOther name → ⊥

-- the name's number joins the others where it is a log's
abbrev pub TakesName : Name → List ℕ → List ℕ → Type 0
TakesName name old new =
    ((number : ℕ) × IsNameOf name (Log number) × ((other : ℕ) → is_in other new ≡ (if is_at (nat_cmp number) other then true else is_in other old)))
    ⊎ (((number : ℕ) → IsNameOf name (Log number) → ⊥) × (new ≡ old))

-- the numbers of the logs above this one, ascending
pub record AreLogsAbove (from : ℕ) (numbers : List ℕ) (folder : Folder) : Type 0 where
  pub sorted : IsStrictlySortedBy nat_cmp numbers
  pub each : AllByRecursion (λ number. (from < number) × IsNumber number × IsSome (folder (log_name number))) numbers
  pub all : (number : ℕ) → from < number → IsNumber number → IsSome (folder (log_name number)) → IsTrue (is_in number numbers)
