-- What holds of every version.
use Rattle.std.specs.Prelude.{◌≡◌, ◌≢◌, ℕ, ◌-◌, ◌≤◌, List, length, sum}
use Rattle.std.specs.List.{AllByRecursion}
use Rattle.bl_edit.specs.declared.edit.NewTable.{NewTable}
use Rattle.bl_build.specs.declared.meta.BlobMeta.{BlobMeta}
use Rattle.bl_build.specs.Listing.{Listing}
use Rattle.bl_build.specs.Versions.{IsFold, IsVersion}

-- what edits in bounds lead to from nothing is a version
abbrev pub FoldsAreVersions : Type 0
FoldsAreVersions = (v : Listing) → IsFold v → IsVersion v

-- the references of each blob file, by their bytes: what the table entries that name it stand for
abbrev pub References : Type 0
References = ℕ → List ℕ

-- a table's oldest blob file is one that an entry of it names
abbrev pub AreLinked : References → List NewTable → Type 0
AreLinked references tables = AllByRecursion (λ t. t.oldest_blob ≢ 0 → 1 ≤ length (references t.oldest_blob)) tables

-- a file's garbage is its totals less its references
pub record IsExact (references : References) (b : BlobMeta) : Type 0 where
  pub count : b.garbage.count ≡ b.total.count - length (references b.number)
  pub bytes : b.garbage.bytes ≡ b.total.bytes - sum (references b.number)

-- Exact reach: where the accounts of a version are exact, each of its blob files is named by a table entry.
abbrev pub ReachesExactly : Type 0
ReachesExactly = (v : Listing) (references : References) → IsFold v → AreLinked references v.tables → AllByRecursion (IsExact references) v.blobs
    → AllByRecursion (λ b. 1 ≤ length (references b.number)) v.blobs
