-- Going over the entries of a block that was found good.
use Rattle.std.proofs.Common.{if◌then◌else◌, ◌≡◌, ℕ, ◌+◌, ◌-◌, ◌<◌, ◌≤◌, nat_le, nat_eq, not, Bool, true, false, cond, List, [], ◌∷◌, length, length-drop, map, take, drop, Option, None, Some, refl, sym, ◌∙◌, ap, subst, arith}
use Rattle.std.specs.Ordering.{is_lt}
use Rattle.std.proofs.lemmas.Bool.{leb-true, cond-true, cond-false}
use Rattle.bl_code.specs.Order.{key_order}
use Rattle.bl_code.specs.Reading.{Input, from_start}
use Rattle.bl_table.specs.declared.entry.BlockEntry.{BlockEntry}
use Rattle.bl_table.specs.declared.fault.TableRule.TheVariants.{Entry, Order}
use Rattle.bl_table.specs.Faults.{Fault, ◌or◌}
use Rattle.bl_table.specs.Blocks.{stands_behind, Cell, Cells, cell_at, cells_at, cells_in, entry_fault, stop_fault, restart_fault, contents, numbers_in, entry_of, first_from, head_entry, next_after}
use Rattle.bl_table.specs.Steps.{Moves}
use Rattle.bl_table.proofs.ContentsLemmas.{cells_end, cells_stop, cells_more}

-- A walk over a block's entries: behind a key, these are left. Each of their keys has nine bytes, and they ascend.
pub record Walks (offset : ℕ) (taker : Input) (before : List ℕ) (left : List Cell) : Type 0 where
  pub fuel : ℕ
  pub enough : length taker.left ≤ fuel
  pub cells : (cells_at fuel before taker).cells ≡ left
  pub behind : Option (List ℕ)
  pub good : entry_fault offset behind left ≡ None

pub or_none : (a b : Option Fault) → (a or b) ≡ None → a ≡ None
or_none None b e = refl
or_none (Some f) b e = absurd cc

pub walk_begins : (offset limit count : ℕ) (bytes before : List ℕ) (taker : Input) → (contents offset bytes limit count).fault ≡ None → taker ≡ from_start (take limit bytes) → before ≡ []
    → Walks offset taker before (cells_in (take limit bytes)).cells
walk_begins offset limit count bytes before taker good et eb =
    let cells = (cells_in (take limit bytes)).cells in
    let P : Input → Type 0 = λ t. Walks offset t before cells in
    let Q : List ℕ → Type 0 = λ b. Walks offset (from_start (take limit bytes)) b cells in
    subst P (sym et) (subst Q (sym eb) (record {
      fuel = length (take limit bytes);
      enough = omega arith;
      cells = refl;
      behind = None;
      good = or_none (entry_fault offset None cells) (stop_fault offset (cells_in (take limit bytes)).stop)
          (or_none (entry_fault offset None cells or stop_fault offset (cells_in (take limit bytes)).stop) (restart_fault (offset + limit) count cells (numbers_in count (drop limit bytes))) good);
    }))

pub walk_ends : (offset : ℕ) (taker : Input) (before : List ℕ) (left : List Cell) → Walks offset taker before left → length taker.left ≡ 0 → left ≡ []
walk_ends offset taker before left w none = sym w.cells ∙ ap (λ (c : Cells). c.cells) (cells_end w.fuel before taker none)

pub walk_stops : (offset : ℕ) (taker : Input) (before : List ℕ) (left : List Cell) → Walks offset taker before left → 0 < length taker.left → cell_at before taker ≡ None → left ≡ []
walk_stops offset taker before left w some e = sym w.cells ∙ ap (λ (c : Cells). c.cells) (cells_stop w.fuel before taker some w.enough e)

both_good : (a b : Bool) (f g : Fault) (r : Option Fault) → cond {A = Option Fault} (not a) (Some f) (cond {A = Option Fault} (not b) (Some g) r) ≡ None → (a ≡ true) × (r ≡ None)
both_good true true f g r e = (refl, e)
both_good true false f g r e = absurd cc
both_good false b f g r e = absurd cc

pub first_is_good : (offset : ℕ) (behind : Option (List ℕ)) (c : Cell) (more : List Cell) → entry_fault offset behind (c ∷ more) ≡ None → (9 ≤ length c.key) × (entry_fault offset (Some c.key) more ≡ None)
unfolding entry_fault
first_is_good offset behind c more e =
    let good = both_good (nat_le 9 (length c.key)) (stands_behind behind c.key) (Entry, offset + c.place) (Order, offset + c.place) (entry_fault offset (Some c.key) more) e in
    (leb-true 9 (length c.key) good.0, good.1)

-- the next of them
pub record WalkOn (offset : ℕ) (behind : Input) (c : Cell) (left : List Cell) : Type 0 where
  pub more : List Cell
  pub is : left ≡ c ∷ more
  pub long : 9 ≤ length c.key
  pub walks : Walks offset behind c.key more

pub walk_on : (offset : ℕ) (taker behind : Input) (before : List ℕ) (c : Cell) (left : List Cell) → Walks offset taker before left → 0 < length taker.left → cell_at before taker ≡ Some (c, behind) → Moves 3 taker behind → WalkOn offset behind c left
walk_on offset taker behind before c left w some e moves =
    let more = (cells_at (w.fuel - 1) c.key behind).cells in
    let is : left ≡ c ∷ more = sym w.cells ∙ ap (λ (cells : Cells). cells.cells) (cells_more w.fuel before taker behind c some w.enough e) in
    let P : List Cell → Type 0 = λ cells. entry_fault offset w.behind cells ≡ None in
    let good = first_is_good offset w.behind c more (subst P is w.good) in
    let n : length behind.left ≡ length taker.left - moves.taken = ap length moves.left ∙ length-drop moves.taken taker.left in
    let m = moves.enough in
    let v = moves.within in
    let f = w.enough in
    record { more = more; is = is; long = good.0; walks = record { fuel = w.fuel - 1; enough = omega arith; cells = refl; behind = Some c.key; good = good.1 } }

-- the first entry at or behind a key
pub first_none : (offset : ℕ) (from : List ℕ) (left : List Cell) (r : Option BlockEntry) → first_from from (map (entry_of offset) left) ≡ r → left ≡ [] → None ≡ r
first_none offset from left r e none = ap (λ l. first_from from (map (entry_of offset) l)) (sym none) ∙ e

pub first_found : (offset : ℕ) (from : List ℕ) (c : Cell) (left more : List Cell) (r : Option BlockEntry) → first_from from (map (entry_of offset) left) ≡ r → left ≡ c ∷ more → is_lt (key_order c.key from) ≡ false → Some (entry_of offset c) ≡ r
first_found offset from c left more r e is h = sym (cond-false (is_lt (key_order c.key from)) _ _ h) ∙ ap (λ l. first_from from (map (entry_of offset) l)) (sym is) ∙ e

pub first_later : (offset : ℕ) (from : List ℕ) (c : Cell) (left more : List Cell) (r : Option BlockEntry) → first_from from (map (entry_of offset) left) ≡ r → left ≡ c ∷ more → is_lt (key_order c.key from) ≡ true → first_from from (map (entry_of offset) more) ≡ r
first_later offset from c left more r e is h = sym (cond-true (is_lt (key_order c.key from)) _ _ h) ∙ ap (λ l. first_from from (map (entry_of offset) l)) (sym is) ∙ e

abbrev pub found : ℕ → List ℕ → List ℕ → Option BlockEntry
found place key value = Some (record { place = place; key = key; value = value })

-- the entry that follows the one at a place, which is passed or not
abbrev pub next_of : Bool → ℕ → List BlockEntry → Option BlockEntry
next_of passed place entries = if passed then head_entry entries else next_after place entries

pub next_none : (passed : Bool) (offset place : ℕ) (left : List Cell) (r : Option BlockEntry) → next_of passed place (map (entry_of offset) left) ≡ r → left ≡ [] → None ≡ r
next_none true offset place left r e none = ap (λ l. head_entry (map (entry_of offset) l)) (sym none) ∙ e
next_none false offset place left r e none = ap (λ l. next_after place (map (entry_of offset) l)) (sym none) ∙ e

pub next_found : (passed : Bool) (offset place : ℕ) (c : Cell) (left more : List Cell) (r : Option BlockEntry) → passed ≡ true → next_of passed place (map (entry_of offset) left) ≡ r → left ≡ c ∷ more → Some (entry_of offset c) ≡ r
next_found true offset place c left more r p e is = ap (λ l. head_entry (map (entry_of offset) l)) (sym is) ∙ e
next_found false offset place c left more r p e is = absurd cc

pub next_later : (passed : Bool) (offset place : ℕ) (c : Cell) (left more : List Cell) (r : Option BlockEntry) → passed ≡ false → next_of passed place (map (entry_of offset) left) ≡ r → left ≡ c ∷ more
    → next_of (nat_eq (offset + c.place) place) place (map (entry_of offset) more) ≡ r
next_later false offset place c left more r p e is = ap (λ l. next_after place (map (entry_of offset) l)) (sym is) ∙ e
next_later true offset place c left more r p e is = absurd cc
