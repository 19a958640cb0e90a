-- What entries put: a value of their own, or the one that their blob index resolves to.
use Rattle.std.specs.Prelude.{ℕ, ◌==◌, ◌&&◌, Bool, List, length, find, Option, None, Some}
use Rattle.bl_code.specs.Order.{same_bytes}
use Rattle.bl_entry.specs.declared.key.Kind.{Kind}
use Rattle.bl_entry.specs.declared.key.Kind.TheVariants.{Deletion, Value, BlobRef}
use Rattle.bl_entry.specs.declared.key.Entry.{Entry}
use Rattle.bl_entry.specs.Revisions.{Revision}
use Rattle.bl_index.specs.declared.index.BlobIndex.{BlobIndex}
use Rattle.bl_blob.specs.declared.blob.BlobAt.{BlobAt}
use Rattle.bl_blob.specs.BlobFile.{Record, blobs_of}
use Rattle.bl_out.specs.Finding.{◌then◌}
use Rattle.bl_out.specs.References.{index_of}

-- the records of blob files, by the number of the file, where it is one of them
abbrev pub Records : Type 0
Records = ℕ → Option (List Record)

-- the record at the index's offset is of this user key, and its value of the index's size
abbrev pub is_named : List ℕ → BlobIndex → BlobAt → Bool
is_named key index r = (r.offset == index.offset) && same_bytes r.key key && (length r.value == index.size)

-- the value that an index of this user key stands for in a file of these records
abbrev pub value_in : List ℕ → BlobIndex → List Record → Option (List ℕ)
value_in key index rs = find (is_named key index) (blobs_of rs) then λ r. Some r.value

-- An index resolves to a value where its file is one of them, and has such a record of this value.
abbrev pub resolved : Records → List ℕ → BlobIndex → Option (List ℕ)
resolved held key index = held index.file then value_in key index

-- what an entry puts: nothing, its value, or what its index resolves to
abbrev pub put_of : Records → Kind → Entry → Option (Option (List ℕ))
put_of held Deletion e = Some None
put_of held Value e = Some (Some e.value)
put_of held BlobRef e = index_of e then λ index. resolved held e.key.user index then λ value. Some (Some value)

-- what an entry tells, where its value is known
abbrev pub revision_of : Records → Entry → Option Revision
revision_of held e = put_of held e.key.kind e then λ put. Some (record { key = e.key.user; seq = e.key.seq; put = put })

-- two entries are of one user key and one sequence
abbrev pub same_revision : Revision → Revision → Bool
same_revision a b = same_bytes a.key b.key && (a.seq == b.seq)
