-- The pairs of a map, one after the other, from a bound on.
use Rattle.std.specs.Prelude.{◌≡◌, ◌&&◌, ◌⊎◌, ℕ, ◌≤◌, length, nat_le, not, Bool, true, false, List, [], ◌∷◌, find, map, Option, None, Some, Result, Ok, Err, if◌then◌else◌}
use Rattle.std.specs.List.{AllZip}
use Rattle.std.specs.Ordering.{is_lt}
use Rattle.std.specs.FinMap.{entries, get}
use Rattle.std.specs.Option.{option_map}
use Rattle.bl_site.specs.Disk.{Folder}
use Rattle.bl_code.specs.Order.{bytes_le, bytes_lt}
use Rattle.bl_entry.specs.Keys.{IsKey, Key, key_cmp}
use Rattle.bl_entry.specs.Latest.{revision_of}
use Rattle.bl_entry.specs.Revisions.{Map}
use Rattle.bl_entry.specs.declared.key.Entry.{Entry}
use Rattle.bl_build.specs.Listing.{Listing}
use Rattle.bl_merge.specs.Heads.{KeepAll, Merging}
use Rattle.bl_cache.specs.Runs.{Keeps, TableView, entries_in}
use Rattle.bl_read.specs.declared.bound.Bound.{Bound}
use Rattle.bl_read.specs.declared.bound.Bound.TheVariants.{First, From, After}
use Rattle.bl_read.specs.declared.told.Told.{Told}
use Rattle.bl_read.specs.declared.pairs.Pair.{Pair}
use Rattle.bl_read.specs.Reading.{IsPut, IsReadAs}

-- the key is at the bound or behind it
abbrev pub is_reached : Bound → List ℕ → Bool
is_reached First key = true
is_reached (From from) key = bytes_le from key
is_reached (After from) key = bytes_lt from key

-- the first pair of the map, in key order, that is
abbrev pub next_in : Bound → Map → Option Pair
next_in bound m = option_map (λ p. record { key = p.0; value = p.1 }) (find (λ p. is_reached bound p.0) (entries m))

-- behind the pair that was told, where one was; else the bound as it was
abbrev pub behind_told : {E : Type 0} → Bound → Result (Option Pair) E → Bound
behind_told bound (Ok None) = bound
behind_told bound (Ok (Some pair)) = After pair.key
behind_told bound (Err e) = bound

-- ---- entries

-- the entry is of a key at the bound or behind it, and of a sequence up to this one
abbrev pub is_told_at : Bound → ℕ → Entry → Bool
is_told_at bound seq e = is_reached bound e.key.user && nat_le e.key.seq seq

-- the first entry that is
abbrev pub first_told : Bound → ℕ → List Entry → Option Entry
first_told bound seq es = find (is_told_at bound seq) es

-- no user key at the bound or behind it stands before this one
abbrev pub IsBefore : Bound → List ℕ → Type 0
IsBefore bound user = (k : List ℕ) → 1 ≤ length k → is_reached bound k ≡ true → bytes_le user k ≡ true

-- no key of such a user key stands before this one
abbrev pub IsStartOf : Bound → Key → Type 0
IsStartOf bound from = (k : Key) → IsKey k → is_reached bound k.user ≡ true → is_lt (key_cmp k from) ≡ false

-- the entry of the lesser user key, and of one user key the newer one
abbrev pub nearer : Option Entry → Option Entry → Option Entry
nearer (Some new) (Some old) = if bytes_lt old.key.user new.key.user then Some old else Some new
nearer (Some new) None = Some new
nearer None older = older

-- the user key is not behind that of the other entry, where there is one
abbrev pub is_first : Entry → Option Entry → Bool
is_first e None = true
is_first e (Some other) = not (bytes_lt other.key.user e.key.user)

-- the entry of a memory, where its user key is not behind that of a table's entry
abbrev pub before_table : Option Entry → Option Entry → Option Entry
before_table None table = None
before_table (Some e) table = if is_first e table then Some e else None

-- of memories, the oldest first: the first entry of the least user key that has one, in the newest memory that has one
abbrev pub first_in : Bound → ℕ → List (List Entry) → Option Entry
first_in bound seq [] = None
first_in bound seq (memory ∷ more) = nearer (first_in bound seq more) (first_told bound seq memory)

-- ---- tables that are merged

-- the runs have these lists, and what they keep of their files is what these hold
pub record IsOver (folder : Folder) (lists : List (List Entry)) (m : Merging TableView) : Type 0 where
  pub lists_are : map (λ r. entries_in r folder) m.runs ≡ lists
  pub keeps : KeepAll Keeps m folder

-- the lists are those of the tables of a version
pub record IsScan (folder : Folder) (version : Listing) (m : Merging TableView) : Type 0 where
  pub lists : List (List Entry)
  pub read : AllZip (IsReadAs folder) version.tables lists
  pub over : IsOver folder lists m

-- ---- what is told

-- the entry of a memory tells
pub record IsToldByMemory (memory table : Option Entry) (told : Told) : Type 0 where
  pub entry : Entry
  pub is : memory ≡ Some entry
  pub first : is_first entry table ≡ true
  pub told_is : told ≡ record { key = entry.key.user; put = (revision_of entry).put }

-- the entry of a table tells
pub record IsToldByTable (folder : Folder) (memory table : Option Entry) (told : Told) : Type 0 where
  pub entry : Entry
  pub is : table ≡ Some entry
  pub first : before_table memory table ≡ None
  pub key_is : told.key ≡ entry.key.user
  pub put_is : IsPut folder (Some entry) told.put

-- the one that is first tells, or there is none
abbrev pub IsToldFirst : Folder → Option Entry → Option Entry → Option Told → Type 0
IsToldFirst folder memory table None = (memory ≡ None) × (table ≡ None)
IsToldFirst folder memory table (Some told) = IsToldByMemory memory table told ⊎ IsToldByTable folder memory table told

-- ---- keys

-- This key is at the bound or behind it, and has what is put in the map; and of those before it none has a value.
pub record IsNextKey (m : Map) (bound : Bound) (key : List ℕ) (put : Option (List ℕ)) : Type 0 where
  pub reached : is_reached bound key ≡ true
  pub value : get m key ≡ put
  pub none_before : (k : List ℕ) → is_reached bound k ≡ true → bytes_lt k key ≡ true → get m k ≡ None

-- none of the keys at the bound and behind it has a value in the map
abbrev pub IsEnd : Map → Bound → Type 0
IsEnd m bound = (k : List ℕ) → is_reached bound k ≡ true → get m k ≡ None

-- what is told is the next key and what is put of it, or that there is no more value
abbrev pub IsNextTold : Map → Bound → Option Told → Type 0
IsNextTold m bound None = IsEnd m bound
IsNextTold m bound (Some told) = IsNextKey m bound told.key told.put
