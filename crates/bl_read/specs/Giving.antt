-- What a version gives to readers, with the memories beside it.
use Rattle.std.specs.Prelude.{◌≡◌, ℕ, ◌<◌, List, [], ◌∷◌, ◌++◌, flat_map, map, Option, None, Some}
use Rattle.std.specs.List.{AllByRecursion, IsDistinct}
use Rattle.bl_site.specs.Disk.{Folder}
use Rattle.bl_entry.specs.declared.key.Entry.{Entry}
use Rattle.bl_entry.specs.Entries.{IsAscending, IsProper}
use Rattle.bl_entry.specs.Items.{each_of}
use Rattle.bl_entry.specs.Latest.{revision_of as memory_revision}
use Rattle.bl_entry.specs.Revisions.{AreUpTo, IsMapAt, Map, Revision}
use Rattle.bl_build.specs.Listing.{Listing}
use Rattle.bl_out.specs.Tables.{IsAsNamed, IsTableProper, TableFile, table_entries, table_in}
use Rattle.bl_out.specs.Values.{revision_of, same_revision}
use Rattle.bl_out.specs.Written.{IsPlainKind}
use Rattle.bl_folder.specs.Entries.{records_by}
use Rattle.bl_folder.specs.Holding.{BlobFile, IsSpelled, blob_in}

-- a version, and the memories beside it, the oldest first
pub record View : Type 0 where
  pub version : Listing
  pub memories : List (List Entry)

-- the memory that waits for its flush, where there is one, and the one in use
abbrev pub memories_of : Option (List Entry) → List Entry → List (List Entry)
memories_of None in_use = in_use ∷ []
memories_of (Some waiting) in_use = waiting ∷ in_use ∷ []

-- what the entries of a memory put and delete
abbrev pub revisions_in : List Entry → List Revision
revisions_in memory = map memory_revision memory

-- A memory of proper puts and deletions in key order, whose sequences are all above those of what stands below it.
pub record IsNewer (memory : List Entry) (older : List Revision) : Type 0 where
  pub ascending : IsAscending memory
  pub plain : AllByRecursion (λ e. IsProper e × IsPlainKind e.key.kind) memory
  pub last : ℕ
  pub below : AreUpTo last older
  pub above : AllByRecursion (λ e. last < e.key.seq) memory

-- each memory is newer than what stands below it, the first one than these revisions
abbrev pub AreNewer : List Revision → List (List Entry) → Type 0
AreNewer older [] = Unit {0}
AreNewer older (memory ∷ more) = IsNewer memory older × AreNewer (older ++ revisions_in memory) more

-- The tables and the blob files of the version are in the folder and are as it names them, each blob index resolves, no user key and sequence occur twice, each memory is newer than what stands below it; and what all of them put and delete makes this map at the sequence.
pub record Gives (folder : Folder) (v : View) (seq : ℕ) (m : Map) : Type 0 where
  pub tables : List TableFile
  pub blobs : List BlobFile
  pub read_tables : each_of (table_in folder) v.version.tables ≡ Some tables
  pub read_blobs : each_of (blob_in folder) v.version.blobs ≡ Some blobs
  pub spelled : AllByRecursion (IsSpelled folder) blobs
  pub named : AllByRecursion IsAsNamed tables
  pub proper : AllByRecursion IsTableProper tables
  pub found : List Revision
  pub resolve : each_of (revision_of (records_by blobs)) (table_entries tables) ≡ Some found
  pub once : IsDistinct same_revision found
  pub newer : AreNewer found v.memories
  pub map_is : IsMapAt (found ++ flat_map revisions_in v.memories) seq m
