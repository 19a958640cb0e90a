-- What the list is after a row was changed.
use Rattle.std.proofs.Common.{◌≡◌, ℕ, zero, suc, ◌+◌, ◌-◌, ◌<◌, ◌≤◌, false, List, [], ◌∷◌, ◌++◌, length, take, drop, sym, ◌∙◌, ap, subst, arith, length-append, length-drop}
use Rattle.std.specs.Prelude.{slice_set, sum_by}
use Rattle.std.specs.List.{AllByRecursion, prefix_len, insert}
use Rattle.std.specs.List.Sorted.{IsPermutation}
use Rattle.std.proofs.lemmas.List.{take-append-drop}
use Rattle.std.proofs.lemmas.List.Sorted.{IsPermutation-insert, length_permutation, sum_by_pushed}
use Rattle.bl_entry.specs.declared.key.Entry.{Entry}
use Rattle.bl_entry.specs.Entries.{IsAscending}
use Rattle.bl_entry.specs.Keys.{IsKey, KeysDiffer, key_number}
use Rattle.bl_memtab.specs.Rows.{AreRows, Row, before, entries_in, home, row_at}
use Rattle.bl_memtab.specs.Tables.{IsFree, IsTable, size, with_entry}
use Rattle.bl_memtab.proofs.Orders.{before_cut}
use Rattle.bl_memtab.proofs.PlaceLemmas.{sorted_insert, with_entry_is}
use Rattle.bl_memtab.proofs.RowLemmas.{parted_filled, parted_same, put_rows, row_filled, set_filled, set_same, with_two}

-- the rows stand for this list, and are rows
pub record StandFor (rows : List Row) (es : List Entry) : Type 0 where
  pub same : entries_in rows ≡ es
  pub kept : AreRows rows

-- an entry was put into its row
pub put_done : KeysDiffer → (e : Entry) (rows : List Row) (at : ℕ) (new : Row) → AreRows rows → IsFree e.key (entries_in rows) → 1 ≤ length rows → at ≡ home e.key rows
    → new.items ≡ insert (row_at rows at) (prefix_len (before e.key) (row_at rows at)) e → StandFor (slice_set rows at new) (with_entry e (entries_in rows))
put_done differ e rows at new are free some is_home is =
    let cut = before_cut e.key.user (key_number e.key) false (entries_in rows) are.ascending in
    let put : entries_in (slice_set rows at new) ≡ insert (entries_in rows) (prefix_len (before e.key) (entries_in rows)) e = put_rows (before e.key) e rows at new some cut is_home is in
    let row : List Entry = row_at rows at in
    let n : ℕ = prefix_len (before e.key) row in
    let long : length new.items ≡ length (take n row) + length (e ∷ drop n row) = ap length is ∙ length-append (take n row) (e ∷ drop n row) in
    record {
      same = put ∙ sym (with_entry_is differ e (entries_in rows) are.ascending free);
      kept = record {
        some = set_filled rows at new are.some (omega arith);
        ascending = subst IsAscending (sym put) (sorted_insert differ e (entries_in rows) are.ascending free);
      };
    }

-- a row was left as it was
pub left_done : (rows : List Row) (at : ℕ) (new : Row) → AreRows rows → at < length rows → new.items ≡ row_at rows at → StandFor (slice_set rows at new) (entries_in rows)
left_done rows at new are lt is =
    let filled : 0 < length new.items = omega (arith, ap length is, row_filled rows at are.some lt) in
    record {
      same = set_same rows at new is;
      kept = record { some = set_filled rows at new are.some filled; ascending = subst IsAscending (sym (set_same rows at new is)) are.ascending };
    }

-- a row became two
pub part_done : (rows : List Row) (at half : ℕ) (new front back : Row) → AreRows rows → at < length rows → 1 ≤ half → half < length (row_at rows at)
    → front.items ≡ take half (row_at rows at) → back.items ≡ drop half (row_at rows at) → StandFor (with_two rows at new front back) (entries_in rows)
part_done rows at half new front back are lt some less f b =
    let row : List Entry = row_at rows at in
    let whole : front.items ++ back.items ≡ row = (λ i. f i ++ b i) ∙ take-append-drop half row in
    let same : entries_in (with_two rows at new front back) ≡ entries_in rows = parted_same rows at new front back lt whole in
    let second : length back.items ≡ length row - half = ap length b ∙ length-drop half row in
    let both : length front.items + length back.items ≡ length row = sym (length-append front.items back.items) ∙ ap length whole in
    record {
      same = same;
      kept = record {
        some = parted_filled rows at new front back lt are.some (omega arith) (omega arith);
        ascending = subst IsAscending (sym same) are.ascending;
      };
    }

pub all_insert : {A : Type 0} (P : A → Type 0) (xs : List A) (n : ℕ) (x : A) → AllByRecursion P xs → P x → AllByRecursion P (insert xs n x)
all_insert P [] zero x h k = (k, tt)
all_insert P [] (suc n) x h k = (k, tt)
all_insert P (y ∷ xs) zero x h k = (k, h)
all_insert P (y ∷ xs) (suc n) x h k = (h.0, all_insert P xs n x h.1 k)

-- an entry more is counted
pub counted_more : KeysDiffer → (e : Entry) (es : List Entry) (count bytes : ℕ) → IsAscending es → IsFree e.key es → IsKey e.key → IsTable es count bytes
    → IsTable (with_entry e es) (count + 1) (bytes + size e)
counted_more differ e es count bytes up free key h =
    let n : ℕ = prefix_len (before e.key) es in
    let moved : IsPermutation (e ∷ es) (insert es n e) = IsPermutation-insert es n e in
    let count_is : length (insert es n e) ≡ suc (length es) = length_permutation (e ∷ es) (insert es n e) moved in
    let bytes_is : sum_by size (insert es n e) ≡ size e + sum_by size es = sum_by_pushed size e es (insert es n e) moved in
    let was : count ≡ length es = h.count_is in
    let had : bytes ≡ sum_by size es = h.bytes_is in
    let more : IsTable (insert es n e) (count + 1) (bytes + size e) = record {
      keys = all_insert (λ x. IsKey x.key) es n e h.keys key;
      count_is = omega arith;
      bytes_is = omega arith;
    } in
    subst (λ xs. IsTable xs (count + 1) (bytes + size e)) (sym (with_entry_is differ e es up free)) more
