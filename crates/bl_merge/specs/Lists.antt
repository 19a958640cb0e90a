-- Several ascending lists of entries as one.
use Rattle.std.specs.Prelude.{ℕ, ◌≤◌, length, min, None, Some, not, List, [], ◌∷◌, filter, flat_map, Option, if◌then◌else◌}
use Rattle.std.specs.Ordering.{is_lt}
use Rattle.bl_code.specs.Order.{same_bytes}
use Rattle.bl_entry.specs.Keys.{Key, key_cmp, max_key, max_seq}
use Rattle.bl_entry.specs.declared.key.Kind.TheVariants.{BlobRef}
use Rattle.bl_entry.specs.Entries.{stands_before}
use Rattle.bl_entry.specs.declared.key.Entry.{Entry}

-- an entry in its place: in front of those that do not stand before it
abbrev pub put_in : Entry → List Entry → List Entry
put_in x [] = x ∷ []
put_in x (y ∷ ys) = if stands_before y x then y ∷ put_in x ys else x ∷ y ∷ ys

-- in key order, those of equal keys as they stood
abbrev pub in_order : List Entry → List Entry
in_order [] = []
in_order (x ∷ xs) = put_in x (in_order xs)

-- the entries of all lists in key order, those of equal keys in the order of the lists
abbrev pub merged : List (List Entry) → List Entry
merged lists = in_order (flat_map (λ es. es) lists)

-- those at a key or behind it
abbrev pub from_on : Key → List Entry → List Entry
from_on from es = filter (λ e. not (is_lt (key_cmp e.key from))) es

-- an entry, where it is of this user key
abbrev pub of_user : List ℕ → Option Entry → Option Entry
of_user key None = None
of_user key (Some e) = if same_bytes e.key.user key then Some e else None

-- a user key as keys have it
abbrev pub IsUser : List ℕ → Type 0
IsUser key = (1 ≤ length key) × (length key ≤ max_key)

-- the key at which the entries of a user key up to a sequence begin, as far as keys go
abbrev pub seen_from : List ℕ → ℕ → Key
seen_from key seq = record { user = key; seq = min seq max_seq; kind = BlobRef }
