-- The tables of a level stand together.
use Rattle.std.proofs.Common.{◌≡◌, ℕ, zero, suc, ◌+◌, ◌^◌, ◌<◌, ◌≤◌, nat_lt, Bool, true, false, cond, List, [], ◌∷◌, length, length-drop, take, drop, get_or, refl, sym, ◌∙◌, ap, subst, arith}
use Rattle.std.specs.Prelude.{◌==◌, ◌&&◌, ◌||◌, nat_le, IsTrue}
use Rattle.std.specs.List.{AllByRecursion}
use Rattle.std.specs.List.Sorted.{IsNonDecreasingBy, IsPartitionPoint}
use Rattle.std.proofs.lemmas.Bool.{eq-eqb, leb-true, leb-false, ltb-true, ltb-false}
use Rattle.std.proofs.lemmas.List.{get_or-drop}
use Rattle.std.proofs.lemmas.Bool.Decides.{nat_tests}
use Rattle.bl_edit.specs.declared.edit.NewTable.{NewTable}
use Rattle.bl_edit.specs.Bounds.{table_fits, is_key, is_level, is_number, is_seq}
use Rattle.bl_build.specs.Listing.{Ascends, at_level, table_rank}
use Rattle.bl_build.proofs.Placing.{ascends_at, all_get}

pub not_eqb : (m n : ℕ) → (m ≡ n → ⊥) → (m == n) ≡ false
not_eqb m n h = grind (arith, nat_tests)

pub both_true : (a b : Bool) → (a && b) ≡ true → (a ≡ true) × (b ≡ true)
both_true true b h = (refl, h)
both_true false b h = cc

-- what a table in bounds has
pub number_fits : (n : ℕ) → is_number n ≡ true → n < 2 ^ 64
number_fits n h = omega (arith, leb-true n 999999999999999 (both_true (nat_le 1 n) (nat_le n 999999999999999) h).1)

pub fits_number : (t : NewTable) → table_fits t ≡ true → t.number < 2 ^ 64
fits_number t h =
    let a = both_true _ ((t.oldest_blob == 0) || is_number t.oldest_blob) h in
    let b = both_true _ (is_seq t.most_seq) a.0 in
    let c = both_true _ (is_seq t.least_seq) b.0 in
    let d = both_true _ (is_key t.largest) c.0 in
    let e = both_true _ (is_key t.smallest) d.0 in
    number_fits t.number (both_true (is_level t.level) (is_number t.number) e.0).1

skip : (level n : ℕ) (xs : List NewTable) → n ≤ length xs → ((k : ℕ) (d : NewTable) → k < n → (get_or xs k d).level < level) → at_level level xs ≡ at_level level (drop n xs)
skip level zero xs le h = refl
skip level (suc n) [] le h = absurd (omega arith)
skip level (suc n) (x ∷ xs) le h =
    let other : x.level < level = h 0 x (omega arith) in
    ap (λ t. cond t (x ∷ at_level level xs) (at_level level xs)) (not_eqb x.level level (λ e. omega (arith, e)))
    ∙ skip level n xs (omega arith) (λ k d lt. h (suc k) d (omega arith))

none : (level : ℕ) (xs : List NewTable) → ((k : ℕ) (d : NewTable) → k < length xs → level < (get_or xs k d).level) → at_level level xs ≡ []
none level [] h = refl
none level (x ∷ xs) h =
    let other : level < x.level = h 0 x (omega arith) in
    ap (λ t. cond t (x ∷ at_level level xs) (at_level level xs)) (not_eqb x.level level (λ e. omega (arith, e)))
    ∙ none level xs (λ k d lt. h (suc k) d (omega arith))

front : (level n : ℕ) (xs : List NewTable) → n ≤ length xs → ((k : ℕ) (d : NewTable) → k < n → (get_or xs k d).level ≡ level)
    → ((k : ℕ) (d : NewTable) → n ≤ k → k < length xs → level < (get_or xs k d).level) → at_level level xs ≡ take n xs
front level zero xs le h k = none level xs (λ i d lt. k i d (omega arith) lt)
front level (suc n) [] le h k = absurd (omega arith)
front level (suc n) (x ∷ xs) le h k =
    ap (λ t. cond t (x ∷ at_level level xs) (at_level level xs)) (eq-eqb x.level level (h 0 x (omega arith)))
    ∙ ap (λ ys. x ∷ ys) (front level n xs (omega arith) (λ i d lt. h (suc i) d (omega arith)) (λ i d le lt. k (suc i) d (omega arith) (omega arith)))

pub level_stands : (level start size : ℕ) (xs : List NewTable) → start ≤ length xs → size ≤ length (drop start xs) → ((k : ℕ) (d : NewTable) → k < start → (get_or xs k d).level < level)
    → ((k : ℕ) (d : NewTable) → k < size → (get_or (drop start xs) k d).level ≡ level) → ((k : ℕ) (d : NewTable) → size ≤ k → k < length (drop start xs) → level < (get_or (drop start xs) k d).level)
    → at_level level xs ≡ take size (drop start xs)
level_stands level start size xs le le2 before same behind = skip level start xs le before ∙ front level size (drop start xs) le2 same behind

-- tables in the order of their ranks are so by level
pub levels_rise : (xs : List NewTable) → AllByRecursion (λ t. IsTrue (table_fits t)) xs → Ascends table_rank xs → IsNonDecreasingBy (λ t. t.level) xs
levels_rise xs fits h i j d le lt =
    let ranks : table_rank (get_or xs i d) ≤ table_rank (get_or xs j d) = ascends_at table_rank xs h i j d le lt in
    let first : (get_or xs i d).number < 2 ^ 64 = fits_number (get_or xs i d) (all_get (λ t. IsTrue (table_fits t)) xs i d fits (omega arith)) in
    let second : (get_or xs j d).number < 2 ^ 64 = fits_number (get_or xs j d) (all_get (λ t. IsTrue (table_fits t)) xs j d fits lt) in
    omega arith

-- by the two places that a search finds
pub level_split : (level start size : ℕ) (xs behind : List NewTable) → IsNonDecreasingBy (λ t. t.level) xs → start ≤ length xs → behind ≡ drop start xs → size ≤ length behind
    → IsPartitionPoint (λ t. nat_lt t.level level ≡ true) (λ t. nat_lt t.level level ≡ false) xs start
    → IsPartitionPoint (λ t. nat_le t.level level ≡ true) (λ t. nat_le t.level level ≡ false) behind size → at_level level xs ≡ take size behind
level_split level start size xs behind rise le e le2 first second =
    let P : List NewTable → Type 0 = λ ys. (k : ℕ) (d : NewTable) → k < size → nat_le (get_or ys k d).level level ≡ true in
    let Q : List NewTable → Type 0 = λ ys. (k : ℕ) (d : NewTable) → size ≤ k → k < length ys → nat_le (get_or ys k d).level level ≡ false in
    let low : P (drop start xs) = subst P e (λ k d lt. second.0 k d (omega arith) lt) in
    let high : Q (drop start xs) = subst Q e second.1 in
    let room : size ≤ length (drop start xs) = subst (λ ys. size ≤ length ys) e le2 in
    level_stands level start size xs le room (λ k d lt. ltb-true (get_or xs k d).level level (first.0 k d (omega arith) lt))
    (λ k d lt.
    let here : start + k < length xs = omega (arith, length-drop start xs) in
    let not_less : level ≤ (get_or xs (start + k) d).level = ltb-false (get_or xs (start + k) d).level level (first.1 (start + k) d (omega arith) here) in
    let same : (get_or (drop start xs) k d).level ≡ (get_or xs (start + k) d).level = ap (λ t. t.level) (get_or-drop start xs k d) in
    let most : (get_or (drop start xs) k d).level ≤ level = leb-true (get_or (drop start xs) k d).level level (low k d lt) in
    omega arith)
    (λ k d ge lt. leb-false (get_or (drop start xs) k d).level level (high k d ge lt))
    ∙ ap (take size) (sym e)
