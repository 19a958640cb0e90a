-- The latest entry of a user key up to a sequence, and what it tells.
use Rattle.std.specs.Prelude.{◌≡◌, ℕ, ◌≤◌, nat_le, ◌&&◌, Bool, false, IsTrue, List, map, find, Contains, Option, None, Some, option_and_then, if◌then◌else◌}
use Rattle.bl_code.specs.Order.{same_bytes}
use Rattle.bl_entry.specs.declared.key.Entry.{Entry}
use Rattle.bl_entry.specs.Entries.{AreInOrder, IsAscending, is_deletion, stands_before}
use Rattle.bl_entry.specs.Revisions.{Revision, value_at}

-- of this user key, and of a sequence up to this one
abbrev pub is_seen : List ℕ → ℕ → Entry → Bool
is_seen key seq e = same_bytes e.key.user key && nat_le e.key.seq seq

-- the first entry that is
abbrev pub latest : List ℕ → ℕ → List Entry → Option Entry
latest key seq es = find (is_seen key seq) es

-- what an entry tells: a deletion tells no value, a put the value that stands in the entry
abbrev pub revision_of : Entry → Revision
revision_of e = record { key = e.key.user; seq = e.key.seq; put = if is_deletion e.key.kind then None else Some e.value }

-- of the entries of a user key up to a sequence it has the greatest sequence, and of those that have it is the first
pub record IsLatest (key : List ℕ) (seq : ℕ) (es : List Entry) (e : Entry) : Type 0 where
  pub there : Contains es e
  pub seen : IsTrue (is_seen key seq e)
  pub greatest : (other : Entry) → Contains es other → IsTrue (is_seen key seq other) → other.key.seq ≤ e.key.seq
  pub first : (other : Entry) → Contains es other → IsTrue (is_seen key seq other) → stands_before other e ≡ false

-- An ascending list is in order.
abbrev pub AscendingAreInOrder : Type 0
AscendingAreInOrder = (es : List Entry) → IsAscending es → AreInOrder es

-- In a list in order the first entry that is seen is the latest,
abbrev pub LatestIsGreatest : Type 0
LatestIsGreatest = (es : List Entry) (key : List ℕ) (seq : ℕ) (e : Entry) → AreInOrder es → latest key seq es ≡ Some e → IsLatest key seq es e

-- and tells the key's value at the sequence.
abbrev pub LatestIsTheValue : Type 0
LatestIsTheValue = (es : List Entry) (key : List ℕ) (seq : ℕ) → AreInOrder es
    → value_at (map revision_of es) seq key ≡ option_and_then (λ e. (revision_of e).put) (latest key seq es)
