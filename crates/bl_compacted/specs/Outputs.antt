-- What comes out of a compaction for what it keeps.
use Rattle.std.specs.Prelude.{◌≡◌, ◌≢◌, ◌⊎◌, ℕ, ◌≤◌, true, List, map, Contains, IfSome}
use Rattle.std.specs.List.{AllByRecursion}
use Rattle.bl_code.specs.Order.{bytes_le, bytes_lt}
use Rattle.bl_entry.specs.declared.key.Entry.{Entry}
use Rattle.bl_entry.specs.Entries.{IsProper}
use Rattle.bl_blob.specs.BlobFile.{totals_of}
use Rattle.bl_build.specs.Versions.{first_user, last_user}
use Rattle.bl_out.specs.References.{index_of, references, count_of, bytes_of}
use Rattle.bl_folder.specs.Entries.{records_by}
use Rattle.bl_folder.specs.Holding.{BlobFile}
use Rattle.bl_out.specs.Tables.{TableFile, IsPlaced}
use Rattle.bl_out.specs.Values.{revision_of}
use Rattle.bl_compacted.specs.Pairs.{AreApart, Pairwise}

-- no reference to a file numbered below this one
abbrev pub IsFrom : ℕ → Entry → Type 0
IsFrom cutoff e = IfSome (index_of e) (λ index. cutoff ≤ index.file)

-- the same value was written anew: in the table, or in one of the new blob files, by its length
pub record IsRewritten (threshold : ℕ) (blobs made : List BlobFile) (e o : Entry) : Type 0 where
  pub user : o.key.user ≡ e.key.user
  pub seq : o.key.seq ≡ e.key.seq
  pub value : revision_of (records_by made) o ≡ revision_of (records_by blobs) e
  pub proper : IsProper o
  pub placed : IsPlaced threshold o.key.kind o

-- An entry is handed on as it is, where it refers to no file below the cutoff, or its value was written anew.
abbrev pub HandsOn : ℕ → ℕ → List BlobFile → List BlobFile → Entry → Entry → Type 0
HandsOn cutoff threshold blobs made e o = ((o ≡ e) × IsFrom cutoff e) ⊎ IsRewritten threshold blobs made e o

abbrev pub numbers : List BlobFile → List ℕ
numbers blobs = map (λ b. b.meta.number) blobs

-- the new blob files: their numbers are new and differ, their totals are those of their records, and each record is referenced by exactly one of these entries
pub record AreMade (old : List BlobFile) (outs : List Entry) (made : List BlobFile) : Type 0 where
  pub fresh : AllByRecursion (λ b. AllByRecursion (λ o. o.meta.number ≢ b.meta.number) old) made
  pub once : Pairwise (λ a b. a.meta.number ≢ b.meta.number) made
  pub totals : AllByRecursion (λ b. totals_of b.records ≡ b.meta.total) made
  pub count : AllByRecursion (λ b. count_of b.meta.number outs ≡ b.meta.total.count) made
  pub bytes : AllByRecursion (λ b. bytes_of b.meta.number outs ≡ b.meta.total.bytes) made
  pub apart : Pairwise (λ a b. Contains (numbers made) a.index.file → AreApart a b) (references outs)

-- the entries are between the least and the greatest key that the version says
abbrev pub IsRanged : TableFile → Type 0
IsRanged t = AllByRecursion (λ e. (bytes_le (first_user t.meta) e.key.user ≡ true) × (bytes_le e.key.user (last_user t.meta) ≡ true)) t.entries

-- a table ends before the other begins
abbrev pub EndsBefore : TableFile → TableFile → Type 0
EndsBefore a b = bytes_lt (last_user a.meta) (first_user b.meta) ≡ true

-- the new tables: in this level, their entries within their ranges, one behind the other, with numbers that are new and differ
pub record AreOutputs (level : ℕ) (old new : List TableFile) : Type 0 where
  pub levels : AllByRecursion (λ t. t.meta.level ≡ level) new
  pub ranged : AllByRecursion (λ t. IsRanged t) new
  pub fresh : AllByRecursion (λ t. AllByRecursion (λ u. u.meta.number ≢ t.meta.number) old) new
  pub once : Pairwise (λ t u. t.meta.number ≢ u.meta.number) new
  pub behind : Pairwise EndsBefore new
