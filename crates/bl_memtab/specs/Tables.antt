-- A memory table: the ascending list of the entries that were inserted, and what is asked of it.
use Rattle.std.specs.Prelude.{◌≡◌, ◌≢◌, ℕ, ◌+◌, Bool, List, ◌∷◌, ◌++◌, length, find, filter, sum_by, Option, if◌then◌else◌}
use Rattle.std.specs.List.{AllByRecursion}
use Rattle.std.specs.Ordering.{is_gt, is_ge}
use Rattle.bl_entry.specs.Keys.{IsKey, Key, key_cmp}
use Rattle.bl_entry.specs.Entries.{stands_before}
use Rattle.bl_entry.specs.declared.key.Entry.{Entry}

-- no entry has this key
abbrev pub IsFree : Key → List Entry → Type 0
IsFree key es = AllByRecursion (λ e. e.key ≢ key) es

-- the list with an entry in its place: those before it, it, and those behind it
abbrev pub with_entry : Entry → List Entry → List Entry
with_entry entry es = filter (λ e. stands_before e entry) es ++ entry ∷ filter (λ e. stands_before entry e) es

-- at this key or behind it, or only behind it
abbrev pub is_reached : Key → Bool → Entry → Bool
is_reached from strict e = if strict then is_gt (key_cmp e.key from) else is_ge (key_cmp e.key from)

-- the first entry that is
abbrev pub after : Key → Bool → List Entry → Option Entry
after from strict es = find (is_reached from strict) es

-- what an entry counts for: its user key, 8 bytes, and its value
abbrev pub size : Entry → ℕ
size e = length e.key.user + 8 + length e.value

-- the entries have the keys that there are, are so many, and count for so many bytes
pub record IsTable (es : List Entry) (count bytes : ℕ) : Type 0 where
  pub keys : AllByRecursion (λ e. IsKey e.key) es
  pub count_is : count ≡ length es
  pub bytes_is : bytes ≡ sum_by size es
