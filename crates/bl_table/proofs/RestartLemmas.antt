-- Each restart of a block without a fault is where an entry begins, so that a walk may begin there.
use Rattle.std.proofs.Common.{◌≡◌, ℕ, zero, suc, ◌+◌, ◌-◌, ◌*◌, ◌/◌, ◌<◌, ◌≤◌, ◌==◌, ◌&&◌, nat_lt, nat_le, nat_eq, not, Bool, true, false, cond, List, [], ◌∷◌, ◌++◌, length, length-drop, length-take-le, map, take, drop, Option, None, Some, refl, sym, ◌∙◌, ap, subst, arith}
use Rattle.std.specs.Ordering.{is_lt}
use Rattle.std.specs.List.{AllByRecursion}
use Rattle.std.proofs.lemmas.Bool.{le-leb, eqb-true, cond-true, cond-false, ne_eqb}
use Rattle.std.proofs.lemmas.List.{drop-drop}
use Rattle.bl_code.specs.Order.{key_order}
use Rattle.bl_code.specs.Reading.{Input, from_start}
use Rattle.bl_table.specs.declared.entry.BlockEntry.{BlockEntry}
use Rattle.bl_table.specs.declared.fault.TableRule.TheVariants.{Restart, Entry, Order}
use Rattle.bl_table.specs.Faults.{Fault, expect, ◌or◌}
use Rattle.bl_table.specs.Blocks.{Cell, Cells, cell_at, cells_at, cells_in, stands_behind, entry_fault, restarts_left, restart_fault, numbers_in, number_at, contents, entry_of, first_from, next_after}
use Rattle.bl_table.specs.Searching.{at_place, cells_behind, Begins}
use Rattle.bl_table.proofs.OrderLemmas.{before_trans}
use Rattle.bl_table.proofs.WalkLemmas.{Walks, or_none, first_is_good}
use Rattle.bl_table.proofs.ScanLemmas.{restart_at}
use Rattle.bl_table.proofs.ContentsLemmas.{cells_more}
use Rattle.bl_table.proofs.CellsLemmas.{cell_parts, cell_moves, shares_nothing, one_cell, fuel_same}

-- an entry stands among those of a block: some are in front of it, at lesser places
pub record Stands (bytes : List ℕ) (c : Cell) (front back : List Cell) : Type 0 where
  pub fuel : ℕ
  pub before : List ℕ
  pub input : Input
  pub behind : Input
  pub enough : length input.left ≤ fuel
  pub place : input.place ≡ c.place
  pub left : input.left ≡ drop input.place bytes
  pub within : input.place ≤ length bytes
  pub read : cell_at before input ≡ Some (c, behind)
  pub rest : (cells_at (fuel - 1) c.key behind).cells ≡ back
  pub later : AllByRecursion (λ x. x.place < c.place) front

pub stands : (front : List Cell) (bytes : List ℕ) (c : Cell) (back : List Cell) (fuel : ℕ) (before : List ℕ) (input : Input) → length input.left ≤ fuel → input.left ≡ drop input.place bytes → input.place ≤ length bytes
    → (cells_at fuel before input).cells ≡ front ++ c ∷ back → Stands bytes c front back × (input.place ≤ c.place)
stands [] bytes c back fuel before input enough left within e =
    let o = one_cell fuel before input c back e in
    let p = cell_parts before input c o.behind o.read in
    let place = p.place in
    (record { fuel = fuel; before = before; input = input; behind = o.behind; enough = enough; place = sym p.place; left = left; within = within; read = o.read; rest = o.rest; later = tt }, omega arith)
stands (x ∷ front) bytes c back fuel before input enough left within e =
    let o = one_cell fuel before input x (front ++ c ∷ back) e in
    let p = cell_parts before input x o.behind o.read in
    let moves = cell_moves before input x o.behind o.read in
    let n : length o.behind.left ≡ length input.left - moves.taken = ap length moves.left ∙ length-drop moves.taken input.left in
    let m : length input.left ≡ length bytes - input.place = ap length left ∙ length-drop input.place bytes in
    let least = moves.enough in
    let most = moves.within in
    let there = moves.place in
    let here = p.place in
    let sum : input.place + moves.taken ≡ o.behind.place = sym there in
    let on : o.behind.left ≡ drop o.behind.place bytes = moves.left ∙ ap (drop moves.taken) left ∙ drop-drop moves.taken input.place bytes ∙ ap (λ k. drop k bytes) sum in
    let more = stands front bytes c back (fuel - 1) x.key o.behind (omega arith) on (omega arith) o.rest in
    let s = more.0 in
    let far = more.1 in
    (record { fuel = s.fuel; before = s.before; input = s.input; behind = s.behind; enough = s.enough; place = s.place; left = s.left; within = s.within; read = s.read; rest = s.rest; later = (omega arith, s.later) }, omega arith)

-- a walk that begins there
pub record Walk (bytes : List ℕ) (c : Cell) (back : List Cell) : Type 0 where
  pub behind : Input
  pub read : cell_at [] (at_place c.place bytes) ≡ Some (c, behind)
  pub cells : cells_behind c.place bytes ≡ c ∷ back
  pub within : c.place ≤ length bytes

pub walk_there : (bytes : List ℕ) (c : Cell) (front back : List Cell) → Stands bytes c front back → c.shared ≡ 0 → Walk bytes c back
walk_there bytes c front back s none =
    let place = s.place in
    let within = s.within in
    let enough = s.enough in
    let here : ◌≡◌ {A = Input} s.input (at_place c.place bytes) = λ i. record { place = place i; left = (s.left ∙ ap (λ k. drop k bytes) place) i } in
    let P : Input → Type 0 = λ i. cell_at [] i ≡ Some (c, s.behind) in
    let read : cell_at [] (at_place c.place bytes) ≡ Some (c, s.behind) = subst P here (shares_nothing s.before s.input c s.behind s.read none) in
    let moves = cell_moves [] (at_place c.place bytes) c s.behind read in
    let least = moves.enough in
    let most = moves.within in
    let n : length (drop c.place bytes) ≡ length bytes - c.place = length-drop c.place bytes in
    let m : length s.behind.left ≡ length (drop c.place bytes) - moves.taken = ap length moves.left ∙ length-drop moves.taken (drop c.place bytes) in
    let l : length s.input.left ≡ length (drop c.place bytes) = ap (λ (i : Input). length i.left) here in
    record {
      behind = s.behind;
      read = read;
      cells = ap (λ (x : Cells). x.cells) (cells_more (length bytes) [] (at_place c.place bytes) s.behind c (omega arith) (omega arith) read)
          ∙ ap (λ (x : Cells). c ∷ x.cells) (fuel_same (length bytes - 1) (s.fuel - 1) c.key s.behind (omega arith) (omega arith))
          ∙ ap (λ more. c ∷ more) s.rest;
      within = omega arith;
    }

-- a restart that is passed is where an entry begins that shares nothing
pub record Passes (cells : List Cell) (r : ℕ) : Type 0 where
  pub front : List Cell
  pub cell : Cell
  pub back : List Cell
  pub is : cells ≡ front ++ cell ∷ back
  pub place : cell.place ≡ r
  pub shared : cell.shared ≡ 0

passes_on : (c : Cell) (cells : List Cell) (r : ℕ) → Passes cells r → Passes (c ∷ cells) r
passes_on c cells r p = record { front = c ∷ p.front; cell = p.cell; back = p.back; is = ap (λ l. c ∷ l) p.is; place = p.place; shared = p.shared }

all_true : (a b c : Bool) → ((a && b) && c) ≡ true → (b ≡ true) × (c ≡ true)
all_true true true c e = (refl, e)
all_true true false c e = absurd cc
all_true false b c e = absurd cc

passes_if : (t : Bool) (c : Cell) (cells : List Cell) (r j s : ℕ) (rs more : List ℕ) → (nat_lt 0 c.place && nat_eq c.place r) && nat_eq c.shared 0 ≡ t → cond t (restarts_left cells rs) (restarts_left cells (r ∷ rs)) ≡ []
    → ((j : ℕ) (rs : List ℕ) → restarts_left cells rs ≡ [] → drop j rs ≡ s ∷ more → Passes cells s) → drop j (r ∷ rs) ≡ s ∷ more → Passes (c ∷ cells) s
passes_if true c cells r zero s rs more e left on d =
    let both = all_true (nat_lt 0 c.place) (nat_eq c.place r) (nat_eq c.shared 0) e in
    let same : r ≡ s = cc in
    record { front = []; cell = c; back = cells; is = refl; place = eqb-true c.place r both.0 ∙ same; shared = eqb-true c.shared 0 both.1 }
passes_if true c cells r (suc j) s rs more e left on d = passes_on c cells s (on j rs left d)
passes_if false c cells r j s rs more e left on d = passes_on c cells s (on j (r ∷ rs) left d)

pub passes : (cells : List Cell) (j : ℕ) (rs : List ℕ) (s : ℕ) (more : List ℕ) → restarts_left cells rs ≡ [] → drop j rs ≡ s ∷ more → Passes cells s
unfolding restarts_left
passes [] zero rs s more left d = absurd (let e = sym left ∙ d in cc)
passes [] (suc j) rs s more left d = absurd (let e = sym d ∙ ap (drop (suc j)) left in cc)
passes (c ∷ cells) zero [] s more left d = absurd cc
passes (c ∷ cells) (suc j) [] s more left d = absurd cc
passes (c ∷ cells) j (r ∷ rs) s more left d =
    passes_if ((nat_lt 0 c.place && nat_eq c.place r) && nat_eq c.shared 0) c cells r j s rs more refl left (λ k qs l f. passes cells k qs s more l f) d

-- a restart behind the first of a block without a fault
pub record Restarted (offset : ℕ) (bytes : List ℕ) (r : ℕ) : Type 0 where
  pub front : List Cell
  pub cell : Cell
  pub back : List Cell
  pub is : (cells_in bytes).cells ≡ front ++ cell ∷ back
  pub place : cell.place ≡ r
  pub later : AllByRecursion (λ x. x.place < cell.place) front
  pub walk : Walk bytes cell back
  pub good : entry_fault offset None (front ++ cell ∷ back) ≡ None

pub second_none : (a b : Option Fault) → (a or b) ≡ None → b ≡ None
second_none None b e = e
second_none (Some f) b e = absurd cc

none_of : (xs : List ℕ) → length xs ≡ 0 → xs ≡ []
none_of [] e = refl
none_of (x ∷ xs) e = absurd (omega arith)

no_left : (n place at : ℕ) (cells : List Cell) (rs : List ℕ) (first left : Bool) → length (restarts_left cells rs) == 0 ≡ left → (expect first Restart place or expect left Restart at) ≡ None → restarts_left cells rs ≡ []
no_left n place at cells rs true true l e = none_of (restarts_left cells rs) (eqb-true _ 0 l)
no_left n place at cells rs true false l e = absurd cc
no_left n place at cells rs false left l e = absurd cc

restart_passes : (place n j : ℕ) (cells : List Cell) (numbers : List ℕ) (s : ℕ) (more : List ℕ) → restart_fault place n cells numbers ≡ None → drop (suc j) numbers ≡ s ∷ more → Passes cells s
restart_passes place n j cells [] s more e d = absurd cc
restart_passes place n j cells (r ∷ rs) s more e d =
    passes cells j rs s more (no_left n place (place + 4 * (n - length (restarts_left cells rs))) cells rs (r == 0) (length (restarts_left cells rs) == 0) refl e) d

whole_fuel : (bytes : List ℕ) → length (from_start bytes).left ≤ length bytes
whole_fuel bytes = omega arith

no_place : (bytes : List ℕ) → (from_start bytes).place ≤ length bytes
no_place bytes = omega arith

pub restarted : (offset limit count j : ℕ) (bytes : List ℕ) → (contents offset bytes limit count).fault ≡ None → j + 1 < count → Restarted offset (take limit bytes) (number_at bytes (limit + 4 * (j + 1)))
restarted offset limit count j bytes e within =
    let entries : List ℕ = take limit bytes in
    let cells : List Cell = (cells_in entries).cells in
    let first : entry_fault offset None cells ≡ None = or_none _ _ (or_none _ _ e) in
    let n : suc j ≡ j + 1 = omega arith in
    let p : Passes cells (number_at bytes (limit + 4 * (j + 1))) = restart_passes (offset + limit) count j cells (numbers_in count (drop limit bytes)) (number_at bytes (limit + 4 * (j + 1))) _ (second_none _ _ e)
    (ap (λ k. drop k (numbers_in count (drop limit bytes))) n ∙ restart_at count limit (j + 1) bytes within) in
    let s = stands p.front entries p.cell p.back (length entries) [] (from_start entries) (whole_fuel entries) refl (no_place entries) p.is in
    let P : List Cell → Type 0 = λ l. entry_fault offset None l ≡ None in
    record { front = p.front; cell = p.cell; back = p.back; is = p.is; place = p.place; later = s.0.later; walk = walk_there entries p.cell p.front p.back s.0 p.shared; good = subst P p.is first }

-- the entries behind it are good
good_more : (offset : ℕ) (front : List Cell) (before : Option (List ℕ)) (left : List Cell) → entry_fault offset before (front ++ left) ≡ None → (behind : Option (List ℕ)) × (entry_fault offset behind left ≡ None)
good_more offset [] before left e = (before, e)
good_more offset (x ∷ front) before left e = good_more offset front (Some x.key) left (first_is_good offset before x (front ++ left) e).1

good_alone : (offset : ℕ) (before : Option (List ℕ)) (c : Cell) (back : List Cell) → entry_fault offset before (c ∷ back) ≡ None → entry_fault offset None (c ∷ back) ≡ None
unfolding entry_fault
good_alone offset before c back e = let good = first_is_good offset before c back e in rw (le-leb 9 (length c.key) good.0) good.1

-- a key stands before those behind it
second_holds : (a b : Bool) (f g : Fault) (r : Option Fault) → cond {A = Option Fault} (not a) (Some f) (cond {A = Option Fault} (not b) (Some g) r) ≡ None → b ≡ true
second_holds true true f g r e = refl
second_holds true false f g r e = absurd cc
second_holds false b f g r e = absurd cc

pub stands_on : (offset : ℕ) (before : Option (List ℕ)) (c : Cell) (more : List Cell) → entry_fault offset before (c ∷ more) ≡ None → stands_behind before c.key ≡ true
unfolding entry_fault
stands_on offset before c more e = second_holds (nat_le 9 (length c.key)) (stands_behind before c.key) (Entry, offset + c.place) (Order, offset + c.place) (entry_fault offset (Some c.key) more) e

key_below : (offset : ℕ) (front : List Cell) (key : List ℕ) (c : Cell) (back : List Cell) → entry_fault offset (Some key) (front ++ c ∷ back) ≡ None → is_lt (key_order key c.key) ≡ true
key_below offset [] key c back e = stands_on offset (Some key) c back e
key_below offset (x ∷ front) key c back e =
    before_trans key x.key c.key (stands_on offset (Some key) x (front ++ c ∷ back) e) (key_below offset front x.key c back (first_is_good offset (Some key) x (front ++ c ∷ back) e).1)

-- what is sought is not in front of it
first_skips : (offset : ℕ) (from : List ℕ) (front : List Cell) (before : Option (List ℕ)) (c : Cell) (back : List Cell) → entry_fault offset before (front ++ c ∷ back) ≡ None → is_lt (key_order c.key from) ≡ true
    → first_from from (map (entry_of offset) (front ++ c ∷ back)) ≡ first_from from (map (entry_of offset) (c ∷ back))
first_skips offset from [] before c back e less = refl
first_skips offset from (x ∷ front) before c back e less =
    let on = (first_is_good offset before x (front ++ c ∷ back) e).1 in
    cond-true _ _ _ (before_trans x.key c.key from (key_below offset front x.key c back on) less) ∙ first_skips offset from front (Some x.key) c back on less

next_skips : (offset at : ℕ) (front : List Cell) (c : Cell) (back : List Cell) → AllByRecursion (λ x. x.place < c.place) front → c.place ≤ at
    → next_after (offset + at) (map (entry_of offset) (front ++ c ∷ back)) ≡ next_after (offset + at) (map (entry_of offset) (c ∷ back))
next_skips offset at [] c back later up = refl
next_skips offset at (x ∷ front) c back later up =
    let less = later.0 in
    cond-false _ _ _ (ne_eqb (offset + x.place) (offset + at) (λ e. omega arith)) ∙ next_skips offset at front c back later.1 up

begins : (seek : List BlockEntry → Option BlockEntry) (offset : ℕ) (bytes : List ℕ) (r : ℕ) (x : Restarted offset bytes r) → seek (map (entry_of offset) (x.front ++ x.cell ∷ x.back)) ≡ seek (map (entry_of offset) (x.cell ∷ x.back)) → Begins seek offset bytes r
begins seek offset bytes r x e =
    let P : ℕ → Type 0 = λ p. Begins seek offset bytes p in
    let Q : List Cell → Type 0 = λ l. entry_fault offset None l ≡ None in
    let more = good_more offset x.front None (x.cell ∷ x.back) x.good in
    subst P x.place (record {
      within = x.walk.within;
      good = subst Q (sym x.walk.cells) (good_alone offset more.0 x.cell x.back more.1);
      same = ap (λ l. seek (map (entry_of offset) l)) x.walk.cells ∙ sym e ∙ ap (λ l. seek (map (entry_of offset) l)) (sym x.is);
    })

pub begins_for_key : (offset : ℕ) (bytes : List ℕ) (r : ℕ) (from : List ℕ) (x : Restarted offset bytes r) → is_lt (key_order x.cell.key from) ≡ true → Begins (first_from from) offset bytes r
begins_for_key offset bytes r from x less = begins (first_from from) offset bytes r x (first_skips offset from x.front None x.cell x.back x.good less)

pub begins_for_place : (offset : ℕ) (bytes : List ℕ) (r at : ℕ) → Restarted offset bytes r → r ≤ at → Begins (next_after (offset + at)) offset bytes r
begins_for_place offset bytes r at x up = let place = x.place in begins (next_after (offset + at)) offset bytes r x (next_skips offset at x.front x.cell x.back x.later (omega arith))

pub begins_first : (seek : List BlockEntry → Option BlockEntry) (offset limit count : ℕ) (bytes : List ℕ) → (contents offset bytes limit count).fault ≡ None → Begins seek offset (take limit bytes) 0
begins_first seek offset limit count bytes e = record { within = omega arith; good = or_none _ _ (or_none _ _ e); same = refl }

pub key_long : (offset : ℕ) (bytes : List ℕ) (r : ℕ) (x : Restarted offset bytes r) → 9 ≤ length x.cell.key
key_long offset bytes r x = let more = good_more offset x.front None (x.cell ∷ x.back) x.good in (first_is_good offset more.0 x.cell x.back more.1).0

-- in the middle of a search
pub middle : (offset limit count low high number : ℕ) (bytes : List ℕ) → (contents offset bytes limit count).fault ≡ None → low < high → high < count → number ≡ number_at bytes (limit + 4 * (high - (high - low) / 2)) → Restarted offset (take limit bytes) number
middle offset limit count low high number bytes e less within is =
    let j = high - (high - low) / 2 - 1 in
    let n : j + 1 ≡ high - (high - low) / 2 = omega arith in
    let P : ℕ → Type 0 = λ k. Restarted offset (take limit bytes) k in
    subst P (ap (λ k. number_at bytes (limit + 4 * k)) n ∙ sym is) (restarted offset limit count j bytes e (omega arith))

pub inside : (offset : ℕ) (bytes : List ℕ) (r : ℕ) → Restarted offset bytes r → r ≤ length bytes
inside offset bytes r x = let place = x.place in let within = x.walk.within in omega arith

pub key_found : (offset : ℕ) (bytes slice : List ℕ) (r : ℕ) (x : Restarted offset bytes r) (key : List ℕ) → slice ≡ bytes → ((c : Cell) (behind : Input) → cell_at [] (at_place r slice) ≡ Some (c, behind) → key ≡ c.key) → key ≡ x.cell.key
key_found offset bytes slice r x key es h =
    h x.cell x.walk.behind (ap (λ s. cell_at [] (at_place r s)) es ∙ ap (λ p. cell_at [] (at_place p bytes)) (sym x.place) ∙ x.walk.read)

-- a walk from there
pub walk_at : (seek : List BlockEntry → Option BlockEntry) (offset place : ℕ) (bytes before : List ℕ) (taker : Input) → Begins seek offset bytes place → taker ≡ at_place place bytes → before ≡ [] → Walks offset taker before (cells_behind place bytes)
walk_at seek offset place bytes before taker b et eb =
    let P : Input → Type 0 = λ t. Walks offset t before (cells_behind place bytes) in
    let Q : List ℕ → Type 0 = λ k. Walks offset (at_place place bytes) k (cells_behind place bytes) in
    let n : length (drop place bytes) ≡ length bytes - place = length-drop place bytes in
    subst P (sym et) (subst Q (sym eb) (record { fuel = length bytes; enough = omega arith; cells = refl; behind = None; good = b.good }))

pub total_at : (limit place : ℕ) (bytes : List ℕ) (taker : Input) → taker ≡ at_place place (take limit bytes) → place ≤ length (take limit bytes) → limit ≤ length bytes → taker.place + length taker.left ≡ limit
total_at limit place bytes taker et within fits =
    let p : taker.place ≡ place = ap (λ (i : Input). i.place) et in
    let l : length taker.left ≡ length (take limit bytes) - place = ap (λ (i : Input). length i.left) et ∙ length-drop place (take limit bytes) in
    let n : length (take limit bytes) ≡ limit = length-take-le limit bytes fits in
    omega arith

-- no entry stands before the offset of its block
pub next_before : (offset place : ℕ) (cells : List Cell) → place < offset → next_after place (map (entry_of offset) cells) ≡ None
next_before offset place [] less = refl
next_before offset place (c ∷ cells) less = cond-false _ _ _ (ne_eqb (offset + c.place) place (λ e. omega arith)) ∙ next_before offset place cells less
