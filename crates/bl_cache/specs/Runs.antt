-- A table as a run of its entries.
use Rattle.std.specs.Prelude.{◌≡◌, ℕ, ◌≤◌, nat_le, ◌&&◌, Bool, true, min, IsTrue, List, [], ◌∷◌, length, Ok, if◌then◌else◌}
use Rattle.std.specs.List.{AllByRecursion, list_all}
use Rattle.bl_site.specs.Disk.{Folder, Name}
use Rattle.bl_names.specs.Names.{name_of}
use Rattle.bl_names.specs.declared.name.FileName.TheVariants.{Table}
use Rattle.bl_entry.specs.Entries.{IsProper, stands_before}
use Rattle.bl_entry.specs.Keys.{Key, max_key, max_seq}
use Rattle.bl_entry.specs.declared.key.Entry.{Entry}
use Rattle.bl_cache.specs.Reading.{read_run}

-- ---- entries as a run has them

-- the lengths and sequences that keys have
abbrev pub is_key : Key → Bool
is_key k = nat_le 1 (length k.user) && nat_le (length k.user) max_key && nat_le k.seq max_seq

-- each key is in bounds, and stands before those behind it
abbrev pub is_run : List Entry → Bool
is_run [] = true
is_run (e ∷ es) = is_key e.key && list_all (stands_before e) es && is_run es

-- the entries where they are a run's, or else none
abbrev pub as_run : List Entry → List Entry
as_run es = if is_run es then es else []

-- ---- a table

-- the table's number and size, the entries that are kept of it, and how many of them stand before the place
pub record TableView : Type 0 where
  pub number : ℕ
  pub size : ℕ
  pub kept : List Entry
  pub place : ℕ

pub record IsTableView (t : TableView) : Type 0 where
  pub run : IsTrue (is_run t.kept)
  pub proper : AllByRecursion IsProper t.kept
  pub within : t.place ≤ length t.kept

-- the run of the table of this number and size stands at its first entry
pub record IsAtStart (number size : ℕ) (t : TableView) : Type 0 where
  pub number_is : t.number ≡ number
  pub size_is : t.size ≡ size
  pub place_is : t.place ≡ 0
  pub whole : as_run t.kept ≡ t.kept
  pub proper : AllByRecursion IsProper t.kept

-- the name of its file
abbrev pub table_name : TableView → Name
table_name t = name_of (Table t.number)

-- the file is no table of this size with entries in bounds
abbrev pub IsNoTable : ℕ → ℕ → Folder → Type 0
IsNoTable number size folder = (es : List Entry) → read_run size (folder (name_of (Table number))) ≡ Ok es → ⊥

-- ---- the members of a run

abbrev pub entries_in : TableView → Folder → List Entry
entries_in t folder = as_run t.kept

abbrev pub place_in : TableView → Folder → ℕ
place_in t folder = min t.place (length (as_run t.kept))

abbrev pub Reads : TableView → Name → Type 0
Reads t name = name ≡ table_name t

-- the entries that it keeps are those of its file
abbrev pub Keeps : TableView → Folder → Type 0
Keeps t folder = read_run t.size (folder (table_name t)) ≡ Ok t.kept

-- the name is that of its file, which is no such table
abbrev pub IsOutside : TableView → Folder → Name → Type 0
IsOutside t folder name = (name ≡ table_name t) × IsNoTable t.number t.size folder
