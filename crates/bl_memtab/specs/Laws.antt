-- How a memory table is gone over, entry by entry.
use Rattle.std.specs.Prelude.{◌≡◌, ℕ, suc, true, false, List, [], ◌∷◌, ◌++◌, slice_get, Some}
use Rattle.std.specs.List.{AllByRecursion}
use Rattle.bl_entry.specs.Entries.{IsAscending}
use Rattle.bl_entry.specs.Keys.{IsKey, Key, max_seq}
use Rattle.bl_entry.specs.declared.key.Entry.{Entry}
use Rattle.bl_entry.specs.declared.key.Kind.TheVariants.{BlobRef}
use Rattle.bl_memtab.specs.Tables.{after}

-- a key that no other stands before
abbrev pub least_key : Key
least_key = record { user = 0 ∷ []; seq = max_seq; kind = BlobRef }

-- From the least key on stands the first entry.
abbrev pub FirstIsFromLeast : Type 0
FirstIsFromLeast = (es : List Entry) → AllByRecursion (λ e. IsKey e.key) es → after least_key false es ≡ slice_get es 0

-- Behind an entry of the list stands the next one,
abbrev pub AfterIsNext : Type 0
AfterIsNext = (front back : List Entry) (e : Entry) → IsAscending (front ++ e ∷ back) → after e.key true (front ++ e ∷ back) ≡ slice_get back 0

-- and so behind the one at a place the one at the next place.
abbrev pub AfterIsAtTheNextPlace : Type 0
AfterIsAtTheNextPlace = (es : List Entry) (place : ℕ) (e : Entry) → IsAscending es → slice_get es place ≡ Some e → after e.key true es ≡ slice_get es (suc place)
