-- What holds of merged lists.
use Rattle.std.specs.Prelude.{◌≡◌, ℕ, Bool, List, map, flat_map, filter, Option, option_and_then}
use Rattle.std.specs.List.Sorted.{IsPermutation}
use Rattle.bl_entry.specs.declared.key.Entry.{Entry}
use Rattle.bl_entry.specs.Entries.{AreInOrder}
use Rattle.bl_entry.specs.Latest.{latest}
use Rattle.bl_entry.specs.Revisions.{Revision, value_at}
use Rattle.bl_merge.specs.Lists.{in_order, merged}

-- The merged list has the entries of all lists, and they are in key order.
abbrev pub MergedIsAll : Type 0
MergedIsAll = (lists : List (List Entry)) → IsPermutation (flat_map (λ es. es) lists) (merged lists)

abbrev pub MergedIsInOrder : Type 0
MergedIsInOrder = (lists : List (List Entry)) → AreInOrder (merged lists)

-- The entries that pass a test stand in order as they do where they alone are put in order.
abbrev pub TiesStay : Type 0
TiesStay = (test : Entry → Bool) (es : List Entry) → filter test (in_order es) ≡ in_order (filter test es)

-- what an entry wrote, where this is what it put
abbrev pub revision_by : (Entry → Option (List ℕ)) → Entry → Revision
revision_by put e = record { key = e.key.user; seq = e.key.seq; put = put e }

-- In a list in key order the entry that is seen first tells the key's value at the sequence, whatever entries put.
abbrev pub LatestTellsTheValue : Type 0
LatestTellsTheValue = (put : Entry → Option (List ℕ)) (es : List Entry) (key : List ℕ) (seq : ℕ) → AreInOrder es
    → value_at (map (revision_by put) es) seq key ≡ option_and_then put (latest key seq es)
