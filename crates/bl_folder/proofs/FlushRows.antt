-- A worked row: of two batches the first is flushed, while a snapshot is at its first sequence. A value that no reader can see goes, a deletion stays, the long values go to a blob file,
-- and the short one stands in the table.
use Rattle.std.proofs.Common.{◌≡◌, ℕ, ◌≤◌, length, List, [], ◌∷◌, refl, arith, inl, inr}
use Rattle.std.specs.Prelude.{map, Ok}
use Rattle.std.specs.List.{IsDistinct}
use Rattle.std.specs.List.Sorted.{IsStrictlySortedBy}
use Rattle.bl_code.specs.Numbers.{fixed64, varint}
use Rattle.bl_code.specs.Reading.{varint_in}
use Rattle.bl_entry.specs.declared.key.Kind.TheVariants.{Deletion, Value, BlobRef}
use Rattle.bl_entry.specs.declared.key.Entry.{Entry}
use Rattle.bl_entry.specs.Batches.{Batch, deletion_of, put_of}
use Rattle.bl_entry.specs.Entries.{IsProper}
use Rattle.bl_entry.specs.Kept.{KeptTellTheSame}
use Rattle.bl_entry.specs.Latest.{revision_of}
use Rattle.bl_entry.specs.Revisions.{Map, Revision, revisions_from, revisions_of}
use Rattle.bl_blob.specs.BlobFile.{placed}
use Rattle.bl_index.specs.Index.{index_at}
use Rattle.bl_build.specs.Listing.{nothing}
use Rattle.bl_build.specs.Versions.{apply}
use Rattle.bl_out.specs.Flushes.{Flushed, IsFlush}
use Rattle.bl_out.specs.Written.{inline, large, nothing as no_more}
use Rattle.bl_folder.specs.Flushes.{IsFlushOf, IsMemoryOf, IsWhole, KeepsMaps, edit_for, installed}
use Rattle.bl_folder.specs.Holding.{Holding}
use Rattle.bl_folder.specs.Stands.{IsSound}
use Rattle.bl_out.proofs.AmongLemmas.{Among, from_among, to_among}
use Rattle.bl_folder.proofs.FlushLemmas.{keeps_maps}
use Rattle.bl_out.proofs.StoredLemmas.{IndexIsSpelled}
use Rattle.bl_out.proofs.WrittenLemmas.{IndexIsRead}
use Rattle.bl_folder.proofs.RichRows.{entry, key}
use Rattle.bl_folder.proofs.Rows.{options}

abbrev first : Batch
first = record {
  first = 1;
  operations = put_of (97 ∷ []) (120 ∷ 121 ∷ 122 ∷ []) ∷ put_of (97 ∷ []) (109 ∷ 105 ∷ 100 ∷ []) ∷ deletion_of (98 ∷ []) ∷ put_of (99 ∷ []) (113 ∷ []) ∷ put_of (97 ∷ []) (110 ∷ 101 ∷ 119 ∷ 33 ∷ []) ∷ [];
}

abbrev second : Batch
second = record { first = 6; operations = put_of (98 ∷ []) (119 ∷ []) ∷ [] }

abbrev before : Holding
before = record {
  live = record { version = nothing; standing = record { log_number = 2; next_file = 4; last_sequence = 0; options = options } };
  tables = [];
  blobs = [];
  batches = first ∷ second ∷ [];
  last = 6;
}

abbrev memory : List Entry
memory = entry 97 5 Value (110 ∷ 101 ∷ 119 ∷ 33 ∷ []) ∷ entry 97 2 Value (109 ∷ 105 ∷ 100 ∷ []) ∷ entry 97 1 Value (120 ∷ 121 ∷ 122 ∷ []) ∷ entry 98 3 Deletion [] ∷ entry 99 4 Value (113 ∷ []) ∷ []

abbrev files : Flushed
files = record {
  tables = record {
    meta = record { level = 0; number = 4; size = 180; smallest = key 97 5 0x11; largest = key 99 4 1; least_seq = 1; most_seq = 5; oldest_blob = 5 };
    entries = entry 97 5 BlobRef (1 ∷ 5 ∷ 63 ∷ 4 ∷ 0 ∷ []) ∷ entry 97 1 BlobRef (1 ∷ 5 ∷ 100 ∷ 3 ∷ 0 ∷ []) ∷ entry 98 3 Deletion [] ∷ entry 99 4 Value (113 ∷ []) ∷ [];
  } ∷ [];
  blobs = record {
    named = record { number = 5; count = 2; bytes = 73 };
    records = record { key = 97 ∷ []; value = 110 ∷ 101 ∷ 119 ∷ 33 ∷ [] } ∷ record { key = 97 ∷ []; value = 120 ∷ 121 ∷ 122 ∷ [] } ∷ [];
  } ∷ [];
}

whole : IsWhole before
unfolding options IsDistinct
whole = record {
  version = record { tables_fit = tt; tables_ascend = tt; tables_once = tt; tables_apart = tt; blobs_fit = tt; blobs_ascend = tt; garbage_fits = tt; linked = tt; needed = refl };
  tables = refl;
  blobs = refl;
  follow = (refl, (refl, tt));
  last = refl;
}

-- five in the order of the keys, and in that of the sequences
by_sequence : {A : Type 0} (r a b c d e : A) → Among r (e ∷ b ∷ a ∷ c ∷ d ∷ []) → Among r (a ∷ b ∷ c ∷ d ∷ e ∷ [])
by_sequence r a b c d e (inl is) = inr (inr (inr (inr (inl is))))
by_sequence r a b c d e (inr (inl is)) = inr (inl is)
by_sequence r a b c d e (inr (inr (inl is))) = inl is
by_sequence r a b c d e (inr (inr (inr (inl is)))) = inr (inr (inl is))
by_sequence r a b c d e (inr (inr (inr (inr (inl is))))) = inr (inr (inr (inl is)))
by_sequence r a b c d e (inr (inr (inr (inr (inr h))))) = absurd h

by_key : {A : Type 0} (r a b c d e : A) → Among r (a ∷ b ∷ c ∷ d ∷ e ∷ []) → Among r (e ∷ b ∷ a ∷ c ∷ d ∷ [])
by_key r a b c d e (inl is) = inr (inr (inl is))
by_key r a b c d e (inr (inl is)) = inr (inl is)
by_key r a b c d e (inr (inr (inl is))) = inr (inr (inr (inl is)))
by_key r a b c d e (inr (inr (inr (inl is)))) = inr (inr (inr (inr (inl is))))
by_key r a b c d e (inr (inr (inr (inr (inl is))))) = inl is
by_key r a b c d e (inr (inr (inr (inr (inr h))))) = absurd h

proper_value : (letter seq : ℕ) (value : List ℕ) → seq ≤ 5 → length value ≤ 4 → IsProper (entry letter seq Value value)
proper_value letter seq value low short = record { key = record { some = omega arith; no_longer = omega arith; seq = omega arith }; value = omega arith }

of_memory : IsMemoryOf (first ∷ []) memory
unfolding revisions_from IsStrictlySortedBy
of_memory = record {
  ascending = ((refl, (refl, (refl, (refl, tt)))), ((refl, (refl, (refl, tt))), ((refl, (refl, tt)), ((refl, tt), (tt, tt)))));
  proper = (
    proper_value 97 5 (110 ∷ 101 ∷ 119 ∷ 33 ∷ []) (omega arith) (omega arith),
    (
      proper_value 97 2 (109 ∷ 105 ∷ 100 ∷ []) (omega arith) (omega arith),
      (
        proper_value 97 1 (120 ∷ 121 ∷ 122 ∷ []) (omega arith) (omega arith),
        (record { key = record { some = omega arith; no_longer = omega arith; seq = omega arith }; value = refl }, (proper_value 99 4 (113 ∷ []) (omega arith) (omega arith), tt)),
      ),
    ),
  );
  plain = (tt, (tt, (tt, (tt, (tt, tt)))));
  same = λ r. (
    (λ h. from_among (revisions_of (first ∷ [])) r (by_sequence r _ _ _ _ _ (to_among (map revision_of memory) r h))),
    (λ h. from_among (map revision_of memory) r (by_key r _ _ _ _ _ (to_among (revisions_of (first ∷ [])) r h))),
  );
}

flush : IsFlush 3 4 (1 ∷ []) memory files
unfolding placed index_at fixed64 varint_in varint IsStrictlySortedBy
flush = record {
  one = omega arith;
  tables = (record { level = refl; number = omega arith; named = record { smallest = refl; largest = refl; least = refl; most = refl; oldest = refl } }, tt);
  blobs = (record { number = omega arith; fits = refl; some = omega arith; totals = refl; size = omega arith }, tt);
  ascend = (tt, tt);
  writes = large refl refl refl (large refl refl refl (inline refl (inline refl no_more)));
}

flush_of : IsFlushOf before 1 4 (1 ∷ []) memory files
unfolding options
flush_of = record { within = omega arith; below = record { tables = tt; blobs = tt }; memory_of = of_memory; flush = flush }

-- the version behind it, and that each map is kept
listed : apply before.live.version (edit_for before 1 3 6 files) ≡ Ok (record {
  tables = record { level = 0; number = 4; size = 180; smallest = key 97 5 0x11; largest = key 99 4 1; least_seq = 1; most_seq = 5; oldest_blob = 5 } ∷ [];
  blobs = record { number = 5; total = record { count = 2; bytes = 73 }; garbage = record { count = 0; bytes = 0 }; linked = 1 } ∷ [];
})
unfolding options apply
listed = refl

kept_maps : IndexIsRead → IndexIsSpelled → KeptTellTheSame → (found : List Revision) (m : Map) → IsSound before found m → KeepsMaps (1 ∷ []) 5 found (installed before 1 3 6 files) m
unfolding options
kept_maps reads spells tell found m sound = keeps_maps reads spells before 1 4 3 6 (1 ∷ []) memory files whole flush_of tell found m sound
