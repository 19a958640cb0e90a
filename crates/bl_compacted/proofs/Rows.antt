-- Worked rows: two puts of one key, flushed and then all rewritten; what is due of small versions; and why all of level 0 goes down together.
use Rattle.std.proofs.Common.{◌≡◌, ℕ, ◌-◌, ◌^◌, ◌≤◌, cond, List, [], ◌∷◌, ◌++◌, length, true, false, ◌∙◌, ap, subst, arith, refl, Some, None, inl, inr, lit≤, lit<}
use Rattle.std.specs.Prelude.{◌↔◌, ◌==◌, Contains}
use Rattle.std.specs.List.{AllZip}
use Rattle.std.proofs.lemmas.Bool.{eqb-true}
use Rattle.std.specs.List.Sorted.{IsStrictlySortedBy}
use Rattle.bl_code.specs.Numbers.{fixed64}
use Rattle.bl_code.specs.Reading.{take_bytes, varint_in}
use Rattle.bl_index.specs.Index.{index_at}
use Rattle.bl_blob.specs.BlobFile.{placed}
use Rattle.bl_edit.specs.declared.edit.NewTable.{NewTable}
use Rattle.bl_edit.specs.declared.edit.Edit.{Edit}
use Rattle.bl_edit.specs.Options.{Values}
use Rattle.bl_build.specs.declared.meta.BlobMeta.{BlobMeta}
use Rattle.bl_build.specs.Listing.{Listing}
use Rattle.bl_entry.specs.declared.key.Kind.TheVariants.{BlobRef}
use Rattle.bl_entry.specs.declared.key.Entry.{Entry}
use Rattle.bl_entry.specs.Entries.{IsAscending, IsProper}
use Rattle.bl_entry.specs.Kept.{kept}
use Rattle.bl_entry.specs.Keys.{key_bytes}
use Rattle.bl_entry.specs.Revisions.{value_at}
use Rattle.bl_out.specs.References.{Reference, count_of}
use Rattle.bl_folder.specs.Holding.{BlobFile, Holding}
use Rattle.bl_out.specs.Tables.{TableFile, table_entries, IsAsNamed}
use Rattle.bl_compacted.specs.Shuffles.{keep, none}
use Rattle.bl_compacted.specs.Plans.{IsClosed}
use Rattle.bl_build.specs.declared.plan.CompactionPlan.{CompactionPlan as Plan}
use Rattle.bl_pick.specs.Picking as pick
use Rattle.bl_pick.specs.declared.kinds.Due.TheVariants.{Idle, Collect}
use Rattle.bl_compacted.specs.Installing.{compacted}
use Rattle.bl_compacted.specs.Outputs.{IsRanged, IsRewritten}
use Rattle.bl_compacted.proofs.Lists.{In, by_test, from_contains, to_contains}
use Rattle.bl_compacted.specs.Rewriting.{ComesOut, MayInstall, Rewrites}

-- ---- `put a =one`, `put a =two`, `flush`, `collect`

two : List ℕ
two = 116 ∷ 119 ∷ 111 ∷ []

index_in : ℕ → List ℕ
index_in file = 1 ∷ file ∷ 0x3F ∷ 3 ∷ 0 ∷ []

-- the entry, whose value stands in the file of this number
entry_to : ℕ → Entry
unfolding index_in
entry_to file = record { key = record { user = 97 ∷ []; seq = 2; kind = BlobRef }; value = index_in file }

key : List ℕ
unfolding fixed64
key = key_bytes (record { user = 97 ∷ []; seq = 2; kind = BlobRef })

table_of : ℕ → ℕ → ℕ → NewTable
unfolding key
table_of level number file = record { level = level; number = number; size = 118; smallest = key; largest = key; least_seq = 2; most_seq = 2; oldest_blob = file }

four : TableFile
unfolding table_of entry_to
four = record { meta = table_of 0 4 5; entries = entry_to 5 ∷ [] }

six : TableFile
unfolding table_of entry_to
six = record { meta = table_of 1 6 7; entries = entry_to 7 ∷ [] }

meta_of : ℕ → ℕ → BlobMeta
meta_of number linked = record { number = number; total = record { count = 1; bytes = 36 }; garbage = record { count = 0; bytes = 0 }; linked = linked }

blob_of : ℕ → ℕ → BlobFile
unfolding meta_of two
blob_of number linked = record { meta = meta_of number linked; records = record { key = 97 ∷ []; value = two } ∷ [] }

options : Values
options = record { min_blob_size = 0; blob_file_size = 268435456; write_buffer = 67108864; table_size = 67108864; level0_trigger = 4; level_base = 268435456; level_factor = 10; age_cutoff = 25; force_threshold = 100 }

holding : Holding
unfolding four blob_of options
holding = record {
  live = record { version = record { tables = four.meta ∷ []; blobs = (blob_of 5 1).meta ∷ [] }; standing = record { log_number = 6; next_file = 6; last_sequence = 2; options = options } };
  tables = four ∷ [];
  blobs = blob_of 5 1 ∷ [];
  batches = [];
  last = 2;
}

plan : Plan
plan = record { inputs = 4 ∷ []; in_level = 0; out_level = 1; cutoff = 2 ^ 64 - 1; snapshots = []; bottom = true }

plan_is : pick.full_plan holding.live.version [] ≡ Some plan
unfolding pick.full_plan holding plan four blob_of table_of meta_of key fixed64
plan_is = refl

edit : Edit
unfolding six
edit = record {
  comparator = false;
  log_number = None;
  next_file = None;
  last_sequence = None;
  options = None;
  deleted = record { level = 0; number = 4 } ∷ [];
  added = six.meta ∷ [];
  blobs = record { number = 7; count = 1; bytes = 36 } ∷ [];
  garbage = record { number = 5; count = 1; bytes = 36 } ∷ [];
}

-- it tells one table and one blob file without garbage
tables_are : (compacted edit (six ∷ []) (blob_of 7 0 ∷ []) holding).live.version.tables ≡ table_of 1 6 7 ∷ []
unfolding edit six four blob_of meta_of holding table_of options key fixed64
tables_are = refl

blobs_are : (compacted edit (six ∷ []) (blob_of 7 0 ∷ []) holding).live.version.blobs ≡ meta_of 7 1 ∷ []
unfolding edit six four blob_of meta_of holding table_of options key fixed64
blobs_are = refl

proper : IsProper (entry_to 7)
unfolding entry_to index_in
proper = record {
  key = record { some = lit≤ tt; no_longer = lit≤ tt; seq = lit≤ tt };
  value = (
    7,
    63,
    3,
    record {
      file_bytes = 7 ∷ [];
      offset_bytes = 63 ∷ [];
      size_bytes = 3 ∷ [];
      file_is = (lit≤ tt, lit< tt, (lit< tt, refl));
      offset_is = (lit≤ tt, lit< tt, (lit< tt, refl));
      size_is = (lit≤ tt, lit< tt, (lit< tt, refl));
      spelled = refl;
    },
    lit≤ tt,
    lit< tt,
  );
}

rewritten : IsRewritten 0 (blob_of 5 1 ∷ []) (blob_of 7 0 ∷ []) (entry_to 5) (entry_to 7)
unfolding entry_to index_in blob_of meta_of two index_at take_bytes varint_in placed
rewritten = record { user = refl; seq = refl; value = refl; proper = proper; placed = lit≤ tt }

named : IsAsNamed six
unfolding six entry_to index_in table_of key fixed64 index_at take_bytes varint_in
named = record { smallest = refl; largest = refl; least = refl; most = refl; oldest = refl }

ranged : IsRanged six
unfolding six entry_to table_of key fixed64
ranged = ((refl, refl), tt)

five_counts : 1 ≤ count_of 5 (entry_to 5 ∷ [])
unfolding entry_to index_in index_at take_bytes varint_in
five_counts = lit≤ tt

to_five : Reference
to_five = record { key = 97 ∷ []; index = record { file = 5; offset = 63; size = 3 } }

count_is : (n : ℕ) → count_of n (entry_to 5 ∷ []) ≡ length (cond (5 == n) (to_five ∷ []) [])
unfolding to_five entry_to index_in index_at take_bytes varint_in
count_is n = refl

named_files : (n : ℕ) → Contains (5 ∷ []) n ↔ (1 ≤ count_of n (entry_to 5 ∷ []))
named_files n = (to, from)
  where
    to : Contains (5 ∷ []) n → 1 ≤ count_of n (entry_to 5 ∷ [])
    to c = by (from_contains n (5 ∷ []) c)
      where
        by : In n (5 ∷ []) → 1 ≤ count_of n (entry_to 5 ∷ [])
        by (inl e) = subst (λ (m : ℕ). 1 ≤ count_of m (entry_to 5 ∷ [])) e five_counts
        by (inr i) = absurd i

    from : 1 ≤ count_of n (entry_to 5 ∷ []) → Contains (5 ∷ []) n
    from h =
        by_test (5 == n) (λ t. to_contains n (5 ∷ []) (inl (eqb-true 5 n t)))
        (λ t.
        let none : count_of n (entry_to 5 ∷ []) ≡ 0 = count_is n ∙ ap (λ b. length (cond b (to_five ∷ []) [])) t in
        absurd (omega arith))

ascending : IsAscending (entry_to 5 ∷ [])
unfolding entry_to IsStrictlySortedBy
ascending = (tt, tt)

handed : AllZip (ComesOut plan.cutoff 0 (blob_of 5 1 ∷ []) (blob_of 7 0 ∷ [])) (kept plan.snapshots plan.bottom (entry_to 5 ∷ [])) (table_entries (six ∷ []))
unfolding plan six entry_to index_in index_at take_bytes varint_in
handed = (inr (lit< tt, rewritten), tt)

-- what came out is a compaction's, and may be installed
row_rewrites : Rewrites plan 0 (four ∷ []) (blob_of 5 1 ∷ []) (six ∷ []) (blob_of 7 0 ∷ []) edit
unfolding plan edit six four blob_of meta_of two holding table_of entry_to index_in key fixed64 index_at take_bytes varint_in placed
row_rewrites = record {
  ins = entry_to 5 ∷ [];
  merged = keep none;
  ascend = ascending;
  out = handed;
  levels = (refl, tt);
  named = (named, tt);
  ranged = (ranged, tt);
  behind = (tt, tt);
  tables_once = (tt, tt);
  blobs_once = (tt, tt);
  totals = (refl, tt);
  records = refl;
  deleted = keep none;
  deleted_ascend = (tt, tt);
  added = refl;
  additions = refl;
  files = 5 ∷ [];
  files_ascend = (tt, tt);
  files_named = named_files;
  garbage = refl;
  alone = record { comparator = refl; log_number = refl; next_file = refl; last_sequence = refl; options = refl };
}

row_closed : IsClosed plan holding.tables
unfolding plan holding four table_of
row_closed = record { out = lit≤ tt; down = (lit≤ tt, tt); beside = tt }

row_may_install : MayInstall plan holding (four ∷ []) (blob_of 5 1 ∷ []) (six ∷ []) (blob_of 7 0 ∷ [])
unfolding plan holding four six blob_of meta_of table_of
row_may_install = record {
  closed = row_closed;
  inputs_are = keep none;
  reads = (refl, tt);
  tables_fresh = (((λ e. absurd (omega arith)), tt), tt);
  blobs_fresh = (((λ e. absurd (omega arith)), tt), tt);
}

-- ---- a part of level 0 may not go down alone: a deletion in a newer table would be dropped over a put in an older one that stays

put_then_deleted : value_at (record { key = 97 ∷ []; seq = 1; put = Some (49 ∷ []) } ∷ record { key = 97 ∷ []; seq = 2; put = None } ∷ []) 2 (97 ∷ []) ≡ None
put_then_deleted = refl

deletion_dropped : value_at (record { key = 97 ∷ []; seq = 1; put = Some (49 ∷ []) } ∷ []) 2 (97 ∷ []) ≡ Some (49 ∷ [])
deletion_dropped = refl

-- ---- what is due of tables 1 and 2, linked to blob file 10, and 3, linked to 12, all in level 1, with blob files 10 to 13 of 100 bytes each

small : ℕ → List ℕ → ℕ → NewTable
small number user file = record { level = 1; number = number; size = 1; smallest = user ++ (0 ∷ 0 ∷ 0 ∷ 0 ∷ 0 ∷ 0 ∷ 0 ∷ 0 ∷ []); largest = user ++ (0 ∷ 0 ∷ 0 ∷ 0 ∷ 0 ∷ 0 ∷ 0 ∷ 0 ∷ []); least_seq = 1; most_seq = 1; oldest_blob = file }

hundred : ℕ → ℕ → ℕ → BlobMeta
hundred number garbage linked = record { number = number; total = record { count = 1; bytes = 100 }; garbage = record { count = 0; bytes = garbage }; linked = linked }

three : ℕ → Listing
unfolding small hundred
three second = record {
  tables = small 1 (1 ∷ []) 10 ∷ small 2 (2 ∷ []) 10 ∷ small 3 (3 ∷ []) 12 ∷ [];
  blobs = hundred 10 60 2 ∷ hundred 11 second 0 ∷ hundred 12 0 1 ∷ hundred 13 0 0 ∷ [];
}

forcing : ℕ → Values
forcing age = record { min_blob_size = 0; blob_file_size = 1; write_buffer = 1; table_size = 1; level0_trigger = 4; level_base = 1000; level_factor = 2; age_cutoff = age; force_threshold = 50 }

forced : pick.due (three 40) (forcing 50) false [] ≡ Collect (record { inputs = 1 ∷ []; in_level = 1; out_level = 1; cutoff = 12; snapshots = []; bottom = true })
unfolding pick.due three small hundred forcing
forced = refl

too_little : pick.due (three 39) (forcing 50) false [] ≡ Idle
unfolding pick.due three small hundred forcing
too_little = refl

not_within : pick.due (three 40) (forcing 25) false [] ≡ Idle
unfolding pick.due three small hundred forcing
not_within = refl
