-- What reading gives of the tables and blob files of a version.
use Rattle.std.specs.Prelude.{◌≡◌, ◌&&◌, ◌⊎◌, ℕ, Bool, List, [], ◌∷◌, filter, Contains, Option, None, Some, Ok}
use Rattle.std.specs.List.{AllZip}
use Rattle.bl_site.specs.Disk.{Folder, Name}
use Rattle.bl_code.specs.Order.{bytes_le}
use Rattle.bl_names.specs.Names.{name_of}
use Rattle.bl_names.specs.declared.name.FileName.TheVariants.{Table, Blob}
use Rattle.bl_entry.specs.Latest.{latest}
use Rattle.bl_entry.specs.declared.key.Entry.{Entry}
use Rattle.bl_entry.specs.declared.key.Kind.{Kind}
use Rattle.bl_entry.specs.declared.key.Kind.TheVariants.{Deletion, Value, BlobRef}
use Rattle.bl_index.specs.Index.{read_index}
use Rattle.bl_index.specs.declared.index.BlobIndex.{BlobIndex}
use Rattle.bl_edit.specs.declared.edit.NewTable.{NewTable}
use Rattle.bl_build.specs.Listing.{Listing}
use Rattle.bl_build.specs.Versions.{first_user, last_user}
use Rattle.bl_merge.specs.Lists.{merged}
use Rattle.bl_cache.specs.Reading.{read_run, read_value}
use Rattle.bl_cache.specs.Runs.{IsNoTable}

-- ---- memories

-- the first entry, or else the second
abbrev pub or_else : Option Entry → Option Entry → Option Entry
or_else None older = older
or_else (Some e) older = Some e

-- of memories, the oldest first, the latest entry of a user key up to a sequence: the newest memory that has one tells it
abbrev pub latest_in : List ℕ → ℕ → List (List Entry) → Option Entry
latest_in key seq [] = None
latest_in key seq (memory ∷ more) = or_else (latest_in key seq more) (latest key seq memory)

-- ---- tables

-- the table is read as these entries
abbrev pub IsReadAs : Folder → NewTable → List Entry → Type 0
IsReadAs folder t es = read_run t.size (folder (name_of (Table t.number))) ≡ Ok es

-- the user key is in the range of the table
abbrev pub may_have : List ℕ → NewTable → Bool
may_have key t = bytes_le (first_user t) key && bytes_le key (last_user t)

-- those tables in whose range the user key is
abbrev pub tables_for : List ℕ → List NewTable → List NewTable
tables_for key tables = filter (may_have key) tables

-- ---- values

-- the value that the blob index in these bytes names, for this user key
pub record IsNamed (folder : Folder) (key bytes value : List ℕ) : Type 0 where
  pub index : BlobIndex
  pub index_is : read_index bytes ≡ Ok index
  pub read : read_value key index (folder (name_of (Blob index.file))) ≡ Ok value

-- the same, of what an entry puts
pub record IsNamedPut (folder : Folder) (e : Entry) (put : Option (List ℕ)) : Type 0 where
  pub value : List ℕ
  pub named : IsNamed folder e.key.user e.value value
  pub put_is : put ≡ Some value

-- what an entry of this kind puts: nothing, its value, or the value that its blob index names
abbrev pub IsPutBy : Folder → Kind → Entry → Option (List ℕ) → Type 0
IsPutBy folder Deletion e put = put ≡ None
IsPutBy folder Value e put = put ≡ Some e.value
IsPutBy folder BlobRef e put = IsNamedPut folder e put

-- what an entry puts, where there is one
abbrev pub IsPut : Folder → Option Entry → Option (List ℕ) → Type 0
IsPut folder None put = put ≡ None
IsPut folder (Some e) put = IsPutBy folder e.key.kind e put

-- what the tables of a version tell of a user key at a sequence
pub record IsTold (folder : Folder) (tables : List NewTable) (key : List ℕ) (seq : ℕ) (put : Option (List ℕ)) : Type 0 where
  pub lists : List (List Entry)
  pub read : AllZip (IsReadAs folder) (tables_for key tables) lists
  pub told : IsPut folder (latest key seq (merged lists)) put

-- ---- damage

-- the file of this name is to be a table of the version, and is none
pub record IsBadTable (folder : Folder) (tables : List NewTable) (name : Name) : Type 0 where
  pub table : NewTable
  pub there : Contains tables table
  pub name_is : name ≡ name_of (Table table.number)
  pub no_table : IsNoTable table.number table.size folder

-- the bytes are a blob index that names, for this user key, a value in the file of this name, and it is not there
pub record Lacks (folder : Folder) (key bytes : List ℕ) (name : Name) : Type 0 where
  pub index : BlobIndex
  pub index_is : read_index bytes ≡ Ok index
  pub name_is : name ≡ name_of (Blob index.file)
  pub not_read : (value : List ℕ) → read_value key index (folder name) ≡ Ok value → ⊥

-- so it is with an entry
pub record LacksValue (folder : Folder) (e : Entry) (name : Name) : Type 0 where
  pub kind : e.key.kind ≡ BlobRef
  pub lacks : Lacks folder e.key.user e.value name

-- the file of this name lacks a value that an entry in a table of the version names
pub record IsBadBlob (folder : Folder) (tables : List NewTable) (name : Name) : Type 0 where
  pub table : NewTable
  pub there : Contains tables table
  pub entries : List Entry
  pub read : IsReadAs folder table entries
  pub entry : Entry
  pub among : Contains entries entry
  pub lacks : LacksValue folder entry name

-- the file of this name is not what the version takes it for: it is no table of the version's size with entries in bounds, or lacks a value that a table names
abbrev pub IsDamaged : Folder → Listing → Name → Type 0
IsDamaged folder v name = IsBadTable folder v.tables name ⊎ IsBadBlob folder v.tables name
