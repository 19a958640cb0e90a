-- What the files of a finished output are read as.
use Rattle.std.specs.Prelude.{◌≡◌, ℕ, ◌^◌, ◌<◌, ◌≤◌, List, [], ◌∷◌, length, map, Some}
use Rattle.std.specs.List.{AllByRecursion}
use Rattle.std.specs.List.Sorted.{IsStrictlySortedBy}
use Rattle.std.specs.Ordering.{nat_cmp}
use Rattle.bl_site.specs.Disk.{Disk, File, Name, folder_of}
use Rattle.bl_names.specs.declared.name.FileName.TheVariants.{Table, Blob}
use Rattle.bl_names.specs.Names.{name_of}
use Rattle.bl_entry.specs.declared.key.Entry.{Entry}
use Rattle.bl_entry.specs.Entries.{IsProper}
use Rattle.bl_edit.specs.declared.edit.Edit.{Edit}
use Rattle.bl_edit.specs.Bounds.{FitsWords, IsEdit}
use Rattle.bl_out.specs.Tables.{table_entries}
use Rattle.bl_out.specs.Written.{Writes}
use Rattle.bl_out.specs.Outputs.{IsBehind, IsEditOf, Out, finished}
use Rattle.bl_out.specs.Held.{HoldsOut}
use Rattle.bl_out.specs.Made.{IsMade}
use Rattle.bl_out.specs.Flushes.{Flushed, HasFlush, IsNewBlob, IsNewTable, job_edit, stored}

-- the file is there, and all of it is synced
pub record IsSynced (disk : Disk) (name : Name) : Type 0 where
  pub file : File
  pub there : disk name ≡ Some file
  pub front : file.front ≡ file.read
  pub handed : file.handed ≡ []

-- each entry stands behind those before it: user keys ascend, and of one user key the sequences fall
abbrev pub AreBehind : List Entry → Type 0
AreBehind [] = Unit {0}
AreBehind (e ∷ es) = AllByRecursion (λ x. IsBehind x e) es × AreBehind es

-- The edit adds tables and blob files that are in the folder, as they read, and synced, with numbers from one on up to below another: they write these entries.
pub record ReadsAs (threshold from next : ℕ) (es : List Entry) (disk : Disk) (e : Edit) (files : Flushed) : Type 0 where
  pub edit : e ≡ job_edit files
  pub tables : AllByRecursion (IsNewTable from) files.tables
  pub blobs : AllByRecursion (IsNewBlob from) files.blobs
  pub ascend : IsStrictlySortedBy nat_cmp (map (λ b. b.named.number) files.blobs)
  pub writes : Writes threshold (stored files.blobs) es (table_entries files.tables)
  pub has : HasFlush (folder_of disk) files
  pub table_files : AllByRecursion (λ t. (t.meta.number < next) × IsSynced disk (name_of (Table t.meta.number))) files.tables
  pub blob_files : AllByRecursion (λ b. (b.named.number < next) × IsSynced disk (name_of (Blob b.named.number))) files.blobs

-- A finished output is read by the grammars of tables and blob files: its files write what it was given.
abbrev pub OutputsAreRead : Type 0
OutputsAreRead = (disk : Disk) (from next : ℕ) (o : Out) (e : Edit) → IsMade from next o → 1 ≤ from → next ≤ 10 ^ 15 → AllByRecursion IsProper o.given → AreBehind o.given
    → HoldsOut disk (finished o) → IsEditOf (finished o) e → FitsWords e
    → (files : Flushed) × ReadsAs o.options.min_blob_size from next o.given disk e files × (length files.tables ≡ length o.tables)

-- Its edit is in bounds.
abbrev pub OutputsFit : Type 0
OutputsFit = (from next : ℕ) (o : Out) (e : Edit) → IsMade from next o → 1 ≤ from → next ≤ 10 ^ 15 → AllByRecursion IsProper o.given → IsEditOf (finished o) e → IsEdit e
