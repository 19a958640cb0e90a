-- Entries in rows, read and changed as one list.
use Rattle.std.proofs.Common.{◌≡◌, ℕ, zero, suc, ◌+◌, ◌-◌, ◌<◌, ◌≤◌, Bool, true, false, cond, List, [], ◌∷◌, ◌++◌, length, get_or, map, refl, sym, ◌∙◌, ap, subst, arith, append_assoc}
use Rattle.std.specs.Prelude.{find, not, min, slice_get, slice_set, Option, Some, None, MatchOption, option_and_then}
use Rattle.std.specs.Borrow.{Bor}
use Rattle.std.specs.List.{AllByRecursion, HoldsAt, prefix_len, insert}
use Rattle.std.specs.List.Sorted.{IsStrictlySortedBy}
use Rattle.std.specs.Option.{option_copied}
use Rattle.std.specs.declared.cmp.Ordering.TheVariants.{Less}
use Rattle.std.proofs.lemmas.Bool.{false≢true}
use Rattle.std.proofs.lemmas.List.{append-nil}
use Rattle.std.proofs.lemmas.List.Sums.{prefix_len-le-length}
use Rattle.bl_entry.specs.declared.key.Entry.{Entry}
use Rattle.bl_entry.specs.Entries.{IsAscending}
use Rattle.bl_entry.specs.Keys.{key_cmp}
use Rattle.bl_entry.proofs.ListLemmas.{by_test}
use Rattle.bl_memtab.specs.Rows.{AreRows, Row, entries_in, ends, passes, row_at}
use Rattle.bl_memtab.proofs.Cuts.{IsCut, all_back, all_front, all_pass, cut_back, cut_front, first_failing, prefix_all}

-- ---- the last entry of a row

ends_more : (p : Entry → Bool) (x y : Entry) (ys : List Entry) → ends p (x ∷ y ∷ ys) ≡ ends p (y ∷ ys)
ends_more p x y ys =
    let place : length (x ∷ y ∷ ys) - 1 ≡ suc (length (y ∷ ys) - 1) = omega arith in
    ap (λ n. passes p (slice_get (x ∷ y ∷ ys) n)) place

ends_all : (p : Entry → Bool) (xs : List Entry) → IsCut p xs → ends p xs ≡ true → AllByRecursion (λ x. p x ≡ true) xs
unfolding IsCut
ends_all p [] cut h = tt
ends_all p (x ∷ []) cut h = (h, tt)
ends_all p (x ∷ y ∷ ys) cut h =
    let rest : AllByRecursion (λ z. p z ≡ true) (y ∷ ys) = ends_all p (y ∷ ys) cut.1 (sym (ends_more p x y ys) ∙ h) in
    (by_test (p x) (λ e. e) (λ e. absurd (false≢true (sym (cut.0 e).0 ∙ rest.0))), rest)

failing_front : (p : Entry → Bool) (xs ys : List Entry) → ends p xs ≡ false → find (λ x. not (p x)) (xs ++ ys) ≡ find (λ x. not (p x)) xs
failing_front p [] ys h = absurd (false≢true (sym h))
failing_front p (x ∷ []) ys h =
    ap (λ b. cond (not b) (Some x) (find (λ z. not (p z)) ys)) h ∙ sym (ap (λ b. cond (not b) (Some x) None) h)
failing_front p (x ∷ y ∷ zs) ys h = λ i. cond (not (p x)) (Some x) (failing_front p (y ∷ zs) ys (sym (ends_more p x y zs) ∙ h) i)

prefix_front : (p : Entry → Bool) (xs ys : List Entry) → ends p xs ≡ false → prefix_len p (xs ++ ys) ≡ prefix_len p xs
prefix_front p [] ys h = absurd (false≢true (sym h))
prefix_front p (x ∷ []) ys h =
    ap (λ b. cond b (1 + prefix_len p ys) 0) h ∙ sym (ap (λ b. cond b 1 0) h)
prefix_front p (x ∷ y ∷ zs) ys h = λ i. cond (p x) (1 + prefix_front p (y ∷ zs) ys (sym (ends_more p x y zs) ∙ h) i) 0

none_ends : (p : Entry → Bool) (xs : List Entry) → 0 < length xs → AllByRecursion (λ x. p x ≡ false) xs → ends p xs ≡ false
none_ends p [] some h = absurd (omega arith)
none_ends p (x ∷ []) some h = h.0
none_ends p (x ∷ y ∷ ys) some h = ends_more p x y ys ∙ none_ends p (y ∷ ys) (omega arith) h.1

-- what stands behind a row that does not end before a place is not before it
fails_behind : (p : Entry → Bool) (xs ys : List Entry) → IsCut p (xs ++ ys) → ends p xs ≡ false → AllByRecursion (λ y. p y ≡ false) ys
unfolding IsCut
fails_behind p [] ys cut h = absurd (false≢true (sym h))
fails_behind p (x ∷ []) ys cut h = cut.0 h
fails_behind p (x ∷ y ∷ zs) ys cut h = fails_behind p (y ∷ zs) ys cut.1 (sym (ends_more p x y zs) ∙ h)

-- ---- the rows

abbrev pub AreFilled : List Row → Type 0
AreFilled rows = AllByRecursion (λ row. 0 < length row.items) rows

rows_fail : (p : Entry → Bool) (rows : List Row) → AreFilled rows → AllByRecursion (λ e. p e ≡ false) (entries_in rows) → AllByRecursion (λ row. ends p row.items ≡ false) rows
rows_fail p [] some h = tt
rows_fail p (row ∷ rows) some h = (
  none_ends p row.items some.0 (all_front (λ e. p e ≡ false) row.items (entries_in rows) h),
  rows_fail p rows some.1 (all_back (λ e. p e ≡ false) row.items (entries_in rows) h),
)

pub rows_cut : (p : Entry → Bool) (rows : List Row) → AreFilled rows → IsCut p (entries_in rows) → IsCut (λ row. ends p row.items) rows
unfolding IsCut
rows_cut p [] some cut = tt
rows_cut p (row ∷ rows) some cut = (
  (λ e. rows_fail p rows some.1 (fails_behind p row.items (entries_in rows) cut e)),
  rows_cut p rows some.1 (cut_back p row.items (entries_in rows) cut),
)

-- how many rows end before a place
abbrev pub rows_before : (Entry → Bool) → List Row → ℕ
rows_before p rows = prefix_len (λ row. ends p row.items) rows

abbrev pub first_in : (Entry → Bool) → Option Row → Option Entry
first_in p row = option_and_then (λ r. slice_get r.items (prefix_len p r.items)) row

pub find_in_rows : (p : Entry → Bool) (rows : List Row) → IsCut p (entries_in rows)
    → find (λ e. not (p e)) (entries_in rows) ≡ first_in p (slice_get rows (rows_before p rows))
find_in_rows p [] cut = refl
find_in_rows p (row ∷ rows) cut =
    let one : 1 + rows_before p rows ≡ suc (rows_before p rows) = omega arith in
    by_test (ends p row.items)
    (λ e.
    all_pass p row.items (entries_in rows) (ends_all p row.items (cut_front p row.items (entries_in rows) cut) e)
    ∙ find_in_rows p rows (cut_back p row.items (entries_in rows) cut)
    ∙ sym (ap (λ b. first_in p (slice_get (row ∷ rows) (cond b (1 + rows_before p rows) 0))) e ∙ ap (λ k. first_in p (slice_get (row ∷ rows) k)) one))
    (λ e.
    failing_front p row.items (entries_in rows) e ∙ first_failing p row.items
    ∙ sym (ap (λ b. first_in p (slice_get (row ∷ rows) (cond b (1 + rows_before p rows) 0))) e))

pub row_at_is : (rows : List Row) (i : ℕ) (d : Row) → i < length rows → (get_or rows i d).items ≡ row_at rows i
row_at_is [] i d lt = absurd (omega arith)
row_at_is (row ∷ rows) zero d lt = refl
row_at_is (row ∷ rows) (suc i) d lt = row_at_is rows i d (omega arith)

pub row_got : (rows : List Row) (i : ℕ) (row : Row) → slice_get rows i ≡ Some row → row_at rows i ≡ row.items
row_got [] i row h = absurd cc
row_got (r ∷ rows) zero row h = let same : r ≡ row = cc in ap (λ x. x.items) same
row_got (r ∷ rows) (suc i) row h = row_got rows i row h

-- ---- an entry takes its place

insert_front : (xs ys : List Entry) (n : ℕ) (e : Entry) → n ≤ length xs → insert (xs ++ ys) n e ≡ insert xs n e ++ ys
insert_front [] [] zero e le = refl
insert_front [] (y ∷ ys) zero e le = refl
insert_front [] ys (suc n) e le = absurd (omega arith)
insert_front (x ∷ xs) ys zero e le = refl
insert_front (x ∷ xs) ys (suc n) e le = ap (λ zs. x ∷ zs) (insert_front xs ys n e (omega arith))

insert_back : (xs ys : List Entry) (n : ℕ) (e : Entry) → insert (xs ++ ys) (length xs + n) e ≡ xs ++ insert ys n e
insert_back [] ys n e = ap (λ k. insert ys k e) (omega arith)
insert_back (x ∷ xs) ys n e =
    let place : suc (length xs) + n ≡ suc (length xs + n) = omega arith in
    ap (λ k. insert (x ∷ xs ++ ys) k e) place ∙ ap (λ zs. x ∷ zs) (insert_back xs ys n e)

pub put_rows : (p : Entry → Bool) (e : Entry) (rows : List Row) (at : ℕ) (new : Row) → 1 ≤ length rows → IsCut p (entries_in rows)
    → at ≡ min (rows_before p rows) (length rows - 1) → new.items ≡ insert (row_at rows at) (prefix_len p (row_at rows at)) e
    → entries_in (slice_set rows at new) ≡ insert (entries_in rows) (prefix_len p (entries_in rows)) e
put_rows p e [] at new some cut home is = absurd (omega arith)
put_rows p e (row ∷ []) zero new some cut home is =
    ap (λ xs. xs ++ []) is ∙ append-nil (insert row.items (prefix_len p row.items) e)
    ∙ sym (ap (λ xs. insert xs (prefix_len p xs) e) (append-nil row.items))
put_rows p e (row ∷ []) (suc at) new some cut home is = absurd (omega arith)
put_rows p e (row ∷ next ∷ more) zero new some cut home is =
    let rest : List Entry = entries_in (next ∷ more) in
    let n : ℕ = prefix_len p row.items in
    by_test (ends p row.items)
    (λ h.
    let count : rows_before p (row ∷ next ∷ more) ≡ 1 + rows_before p (next ∷ more) = ap (λ b. cond b (1 + rows_before p (next ∷ more)) 0) h in
    absurd (omega arith))
    (λ h.
    ap (λ xs. xs ++ rest) is ∙ sym (insert_front row.items rest n e (prefix_len-le-length p row.items))
    ∙ ap (λ k. insert (row.items ++ rest) k e) (sym (prefix_front p row.items rest h)))
put_rows p e (row ∷ next ∷ more) (suc at) new some cut home is =
    let rest : List Entry = entries_in (next ∷ more) in
    by_test (ends p row.items)
    (λ h.
    let count : rows_before p (row ∷ next ∷ more) ≡ 1 + rows_before p (next ∷ more) = ap (λ b. cond b (1 + rows_before p (next ∷ more)) 0) h in
    let front = ends_all p row.items (cut_front p row.items rest cut) h in
    ap (λ xs. row.items ++ xs) (put_rows p e (next ∷ more) at new (omega arith) (cut_back p row.items rest cut) (omega arith) is)
    ∙ sym (ap (λ k. insert (row.items ++ rest) k e) (prefix_all p row.items rest front) ∙ insert_back row.items rest (prefix_len p rest) e))
    (λ h.
    let count : rows_before p (row ∷ next ∷ more) ≡ 0 = ap (λ b. cond b (1 + rows_before p (next ∷ more)) 0) h in
    absurd (omega arith))

pub set_filled : (rows : List Row) (at : ℕ) (new : Row) → AreFilled rows → 0 < length new.items → AreFilled (slice_set rows at new)
set_filled [] at new h some = tt
set_filled (row ∷ rows) zero new h some = (some, h.1)
set_filled (row ∷ rows) (suc at) new h some = (h.0, set_filled rows at new h.1 some)

pub set_same : (rows : List Row) (at : ℕ) (new : Row) → new.items ≡ row_at rows at → entries_in (slice_set rows at new) ≡ entries_in rows
set_same [] at new is = refl
set_same (row ∷ rows) zero new is = ap (λ xs. xs ++ entries_in rows) is
set_same (row ∷ rows) (suc at) new is = ap (λ xs. row.items ++ xs) (set_same rows at new is)

pub row_filled : (rows : List Row) (at : ℕ) → AreFilled rows → at < length rows → 0 < length (row_at rows at)
row_filled [] at h lt = absurd (omega arith)
row_filled (row ∷ rows) zero h lt = h.0
row_filled (row ∷ rows) (suc at) h lt = row_filled rows at h.1 (omega arith)

pub row_within : (rows : List Row) (at : ℕ) → 0 < length (row_at rows at) → at < length rows
row_within [] at h = absurd (omega arith)
row_within (row ∷ rows) zero h = omega arith
row_within (row ∷ rows) (suc at) h = omega (arith, row_within rows at h)

-- ---- a row becomes two

abbrev pub with_two : List Row → ℕ → Row → Row → Row → List Row
with_two rows at new front back = slice_set (slice_set (insert rows (suc at) new) at front) (suc at) back

pub parted_same : (rows : List Row) (at : ℕ) (new front back : Row) → at < length rows → front.items ++ back.items ≡ row_at rows at
    → entries_in (with_two rows at new front back) ≡ entries_in rows
parted_same [] at new front back lt is = absurd (omega arith)
parted_same (row ∷ []) zero new front back lt is = sym (append_assoc front.items back.items []) ∙ ap (λ xs. xs ++ []) is
parted_same (row ∷ next ∷ rows) zero new front back lt is =
    sym (append_assoc front.items back.items (entries_in (next ∷ rows))) ∙ ap (λ xs. xs ++ entries_in (next ∷ rows)) is
parted_same (row ∷ rows) (suc at) new front back lt is = ap (λ xs. row.items ++ xs) (parted_same rows at new front back (omega arith) is)

pub parted_filled : (rows : List Row) (at : ℕ) (new front back : Row) → at < length rows → AreFilled rows → 0 < length front.items → 0 < length back.items
    → AreFilled (with_two rows at new front back)
parted_filled [] at new front back lt h f b = absurd (omega arith)
parted_filled (row ∷ []) zero new front back lt h f b = (f, (b, tt))
parted_filled (row ∷ next ∷ rows) zero new front back lt h f b = (f, (b, h.1))
parted_filled (row ∷ rows) (suc at) new front back lt h f b = (h.0, parted_filled rows at new front back (omega arith) h.1 f b)

pub get_inserted : (rows : List Row) (at : ℕ) (new d : Row) → at < length rows → get_or (insert rows (suc at) new) at d ≡ get_or rows at d
get_inserted [] at new d lt = absurd (omega arith)
get_inserted (row ∷ rows) zero new d lt = refl
get_inserted (row ∷ rows) (suc at) new d lt = get_inserted rows at new d (omega arith)

-- ---- rows that ascend

ascending_front : (xs ys : List Entry) → IsAscending (xs ++ ys) → IsAscending xs
unfolding IsStrictlySortedBy
ascending_front [] ys h = tt
ascending_front (x ∷ xs) ys h = (keys_front x xs ys h.0, ascending_front xs ys h.1)
  where
    keys_front : (x : Entry) (xs ys : List Entry) → AllByRecursion (λ k. key_cmp x.key k ≡ Less) (map (λ e. e.key) (xs ++ ys)) → AllByRecursion (λ k. key_cmp x.key k ≡ Less) (map (λ e. e.key) xs)
    keys_front x [] ys h = tt
    keys_front x (y ∷ xs) ys h = (h.0, keys_front x xs ys h.1)

ascending_back : (xs ys : List Entry) → IsAscending (xs ++ ys) → IsAscending ys
unfolding IsStrictlySortedBy
ascending_back [] ys h = h
ascending_back (x ∷ xs) ys h = ascending_back xs ys h.1

pub row_ascends : (rows : List Row) (at : ℕ) → IsAscending (entries_in rows) → IsAscending (row_at rows at)
row_ascends [] at h = h
row_ascends (row ∷ rows) zero h = ascending_front row.items (entries_in rows) h
row_ascends (row ∷ rows) (suc at) h = row_ascends rows at (ascending_back row.items (entries_in rows) h)

pub no_rows : AreRows []
unfolding IsStrictlySortedBy
no_rows = record { some = tt; ascending = tt }

pub one_row : (row : Row) (e : Entry) → row.items ≡ e ∷ [] → AreRows (row ∷ [])
unfolding IsStrictlySortedBy
one_row row e is =
    let alone : IsAscending (e ∷ []) = (tt, tt) in
    record { some = (omega (arith, ap length is), tt); ascending = subst (λ es. IsAscending (es ++ [])) (sym is) alone }

-- ---- what a slice gives

pub get_end : {A : Type 0} (xs : List A) (i : ℕ) → length xs ≤ i → slice_get xs i ≡ None
get_end [] i le = refl
get_end (x ∷ xs) zero le = absurd (omega arith)
get_end (x ∷ xs) (suc i) le = get_end xs i (omega arith)

pub get_here : {A : Type 0} (xs : List A) (i : ℕ) (x : A) → i < length xs → x ≡ get_or xs i x → slice_get xs i ≡ Some x
get_here [] i x lt is = absurd (omega arith)
get_here (y ∷ xs) zero x lt is = ap Some (sym is)
get_here (y ∷ xs) (suc i) x lt is = get_here xs i x (omega arith) is

pub got : (xs : List Entry) (i : ℕ) (found : Option (Bor Entry)) → MatchOption found (length xs ≤ i) (λ x. (i < length xs) × HoldsAt (λ y. x.now ≡ y) xs i)
    → option_copied found ≡ slice_get xs i
got xs i None h = sym (get_end xs i h)
got xs i (Some x) h = sym (get_here xs i x.now h.0 (h.1 x.now))
