-- How the list of a memory table stands in rows.
use Rattle.std.specs.Prelude.{ℕ, zero, suc, ◌-◌, ◌<◌, Bool, true, false, List, [], ◌∷◌, length, flat_map, min, slice_get, Option, None, Some, Vec, if◌then◌else◌}
use Rattle.std.specs.declared.alloc.Global.{Global}
use Rattle.std.specs.List.{AllByRecursion, prefix_len}
use Rattle.std.specs.Ordering.{is_lt, is_le, nat_cmp, ordering_then}
use Rattle.bl_code.specs.Order.{bytes_cmp, same_bytes}
use Rattle.bl_entry.specs.Keys.{Key, key_number}
use Rattle.bl_entry.specs.Entries.{IsAscending}
use Rattle.bl_entry.specs.declared.key.Entry.{Entry}

abbrev pub Row : Type 0
Row = Vec Entry Global

-- the entries, one row behind the other
abbrev pub entries_in : List Row → List Entry
entries_in rows = flat_map (λ row. row.items) rows

-- no row is empty, and the keys ascend
pub record AreRows (rows : List Row) : Type 0 where
  pub some : AllByRecursion (λ row. 0 < length row.items) rows
  pub ascending : IsAscending (entries_in rows)

-- before the place of a user key and a number, or also at it
abbrev pub is_before : List ℕ → ℕ → Bool → Entry → Bool
is_before user number strict e =
    if strict then is_le (ordering_then (bytes_cmp e.key.user user) (nat_cmp number (key_number e.key)))
    else is_lt (ordering_then (bytes_cmp e.key.user user) (nat_cmp number (key_number e.key)))

-- before a key
abbrev pub before : Key → Entry → Bool
before key e = is_before key.user (key_number key) false e

-- the entry, where it is of the user key
abbrev pub if_of_user : List ℕ → Entry → Option Entry
if_of_user key e = if same_bytes e.key.user key then Some e else None

abbrev pub passes : (Entry → Bool) → Option Entry → Bool
passes test None = true
passes test (Some e) = test e

-- the last entry passes, where there is one
abbrev pub ends : (Entry → Bool) → List Entry → Bool
ends test es = passes test (slice_get es (length es - 1))

-- the row of a key: the first that does not end before it or, where each does, the last
abbrev pub home : Key → List Row → ℕ
home key rows = min (prefix_len (λ row. ends (before key) row.items) rows) (length rows - 1)

-- the entries of the row at this place
abbrev pub row_at : List Row → ℕ → List Entry
row_at [] i = []
row_at (row ∷ rows) zero = row.items
row_at (row ∷ rows) (suc i) = row_at rows i
