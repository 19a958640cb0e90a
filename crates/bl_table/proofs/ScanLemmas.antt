-- How far a scan has come in a block.
use Rattle.std.proofs.Common.{◌≡◌, ℕ, zero, suc, ◌+◌, ◌-◌, ◌*◌, ◌<◌, ◌≤◌, nat_lt, nat_eq, true, false, List, [], ◌∷◌, length, length-drop, take, drop, None, Some, refl, sym, ◌∙◌, ap, subst, arith, ◌⊎◌, inl, inr}
use Rattle.std.proofs.lemmas.Bool.{le-ltb, eq-eqb, ne_eqb, cond-false}
use Rattle.std.proofs.lemmas.List.{drop-drop, drop_all}
use Rattle.std.specs.Int.{w32, from_le_bytes}
use Rattle.bl_code.specs.Reading.{Input, from_start}
use Rattle.bl_table.specs.declared.fault.TableRule.TheVariants.{Entry, Order, Restart}
use Rattle.bl_table.specs.Blocks.{number_at, Cell, cell_at, cells_at, and_cell, numbers_in, stands_behind, entry_fault, restarts_left, contents}
use Rattle.bl_table.specs.Steps.{Moves, rest_fault, left_fault, before_at}
use Rattle.bl_table.proofs.ContentsLemmas.{cells_end, cells_stop, cells_more, passes_restart, no_restarts, other_entry, stops, is_short, is_misplaced, goes_on}

pub length-numbers : (n : ℕ) (bytes : List ℕ) → length (numbers_in n bytes) ≡ n
unfolding numbers_in
length-numbers zero bytes = refl
length-numbers (suc n) bytes = ap suc (length-numbers n (drop 4 bytes))

pub numbers_at : (n i : ℕ) (bytes : List ℕ) → i < n → drop i (numbers_in n bytes) ≡ from_le_bytes w32 (take 4 (drop (4 * i) bytes)) ∷ drop (i + 1) (numbers_in n bytes)
unfolding numbers_in
numbers_at zero i bytes within = absurd (omega arith)
numbers_at (suc n) zero bytes within = refl
numbers_at (suc n) (suc i) bytes within =
    let a : 4 + 4 * i ≡ 4 * suc i = omega arith in
    let b : suc (i + 1) ≡ suc i + 1 = omega arith in
    numbers_at n i (drop 4 bytes) (omega arith)
    ∙ ap (λ x. from_le_bytes w32 (take 4 x) ∷ drop (i + 1) (numbers_in n (drop 4 bytes))) (drop-drop (4 * i) 4 bytes ∙ ap (λ k. drop k bytes) a)
    ∙ ap (λ k. from_le_bytes w32 (take 4 (drop (4 * suc i) bytes)) ∷ drop k (from_le_bytes w32 (take 4 bytes) ∷ numbers_in n (drop 4 bytes))) b

-- the number at a place of the restarts
pub restart_at : (count limit i : ℕ) (bytes : List ℕ) → i < count
    → drop i (numbers_in count (drop limit bytes)) ≡ from_le_bytes w32 (take 4 (drop (limit + 4 * i) bytes)) ∷ drop (i + 1) (numbers_in count (drop limit bytes))
restart_at count limit i bytes within =
    numbers_at count i (drop limit bytes) within
    ∙ ap (λ x. from_le_bytes w32 (take 4 x) ∷ drop (i + 1) (numbers_in count (drop limit bytes))) (drop-drop (4 * i) limit bytes)

pub one_passed : (count limit passed place shared number : ℕ) (bytes : List ℕ) (c : Cell) (cells : List Cell) → passed < count → 0 < place → shared ≡ 0 → number ≡ from_le_bytes w32 (take 4 (drop (limit + 4 * passed) bytes)) → number ≡ place
    → c.place ≡ place → c.shared ≡ shared → restarts_left (c ∷ cells) (drop passed (numbers_in count (drop limit bytes))) ≡ restarts_left cells (drop (passed + 1) (numbers_in count (drop limit bytes)))
one_passed count limit passed place shared number bytes c cells within some none en ep ec es =
    ap (restarts_left (c ∷ cells)) (restart_at count limit passed bytes within)
    ∙ passes_restart c cells _ _ (omega arith) (ec ∙ sym ep ∙ en) (es ∙ none)

other_any : (c : Cell) (cells : List Cell) (rs : List ℕ) → (nat_lt 0 c.place ≡ false) ⊎ (nat_eq c.shared 0 ≡ false) → restarts_left (c ∷ cells) rs ≡ restarts_left cells rs
other_any c cells [] h = no_restarts c cells
other_any c cells (r ∷ rs) (inl h) = other_entry c cells r rs (inl h)
other_any c cells (r ∷ rs) (inr h) = other_entry c cells r rs (inr (inr h))

pub first_passed : (c : Cell) (cells : List Cell) (rs : List ℕ) (place : ℕ) → c.place ≡ place → place ≤ 0 → restarts_left (c ∷ cells) rs ≡ restarts_left cells rs
first_passed c cells rs place e none = other_any c cells rs (inl (le-ltb 0 c.place (omega arith)))

pub sharing_passed : (c : Cell) (cells : List Cell) (rs : List ℕ) (shared : ℕ) → c.shared ≡ shared → (shared ≡ 0 → ⊥) → restarts_left (c ∷ cells) rs ≡ restarts_left cells rs
sharing_passed c cells rs shared e some = other_any c cells rs (inr (ne_eqb c.shared 0 (λ z. some (sym e ∙ z))))

pub all_passed : (count limit passed : ℕ) (bytes : List ℕ) (c : Cell) (cells : List Cell) → count ≤ passed
    → restarts_left (c ∷ cells) (drop passed (numbers_in count (drop limit bytes))) ≡ restarts_left cells (drop passed (numbers_in count (drop limit bytes)))
all_passed count limit passed bytes c cells few =
    let none : drop passed (numbers_in count (drop limit bytes)) ≡ [] = drop_all passed (numbers_in count (drop limit bytes)) (omega (arith, length-numbers count (drop limit bytes))) in
    ap (restarts_left (c ∷ cells)) none ∙ no_restarts c cells ∙ ap (restarts_left cells) (sym none)

pub not_passed : (count limit passed place number : ℕ) (bytes : List ℕ) (c : Cell) (cells : List Cell) → passed < count → number ≡ from_le_bytes w32 (take 4 (drop (limit + 4 * passed) bytes)) → (number ≡ place → ⊥) → c.place ≡ place
    → restarts_left (c ∷ cells) (drop passed (numbers_in count (drop limit bytes))) ≡ restarts_left cells (drop passed (numbers_in count (drop limit bytes)))
not_passed count limit passed place number bytes c cells within en other ec =
    ap (restarts_left (c ∷ cells)) (restart_at count limit passed bytes within)
    ∙ other_entry c cells _ _ (inr (inl (ne_eqb c.place _ (λ e. other (en ∙ sym e ∙ ec)))))
    ∙ ap (restarts_left cells) (sym (restart_at count limit passed bytes within))

-- what is left to scan decides the fault of the block
pub record Scanning (offset limit count : ℕ) (bytes : List ℕ) (taker : Input) (before : List ℕ) (passed : ℕ) : Type 0 where
  pub fuel : ℕ
  pub enough : length taker.left ≤ fuel
  pub fault : rest_fault offset limit count (number_at bytes limit) (before_at taker.place before) (cells_at fuel before taker) (drop passed (numbers_in count (drop limit bytes))) ≡ (contents offset bytes limit count).fault

pub scan_begins : (offset limit count : ℕ) (bytes before : List ℕ) (taker : Input) → 0 < count → taker ≡ from_start (take limit bytes) → before ≡ [] → Scanning offset limit count bytes taker before 1
unfolding numbers_in
scan_begins offset limit zero bytes before taker some et eb = absurd (omega arith)
scan_begins offset limit (suc n) bytes before taker some et eb =
    let P : Input → Type 0 = λ t. Scanning offset limit (suc n) bytes t before 1 in
    let Q : List ℕ → Type 0 = λ b. Scanning offset limit (suc n) bytes (from_start (take limit bytes)) b 1 in
    subst P (sym et) (subst Q (sym eb) (record { fuel = length (take limit bytes); enough = omega arith; fault = refl }))

pub scan_stops : (offset limit count passed place : ℕ) (bytes before : List ℕ) (taker : Input) → Scanning offset limit count bytes taker before passed → 0 < length taker.left → cell_at before taker ≡ None → place ≡ taker.place
    → (contents offset bytes limit count).fault ≡ Some (Entry, offset + place)
scan_stops offset limit count passed place bytes before taker s some none e =
    let rs = drop passed (numbers_in count (drop limit bytes)) in
    sym s.fault ∙ ap (λ cells. rest_fault offset limit count (number_at bytes limit) (before_at taker.place before) cells rs) (cells_stop s.fuel before taker some s.enough none)
    ∙ stops offset limit count (number_at bytes limit) taker.place (before_at taker.place before) rs
    ∙ ap (λ p. Some (Entry, offset + p)) (sym e)

-- the entry at hand
here : (offset limit count passed : ℕ) (bytes before : List ℕ) (taker behind : Input) (c : Cell) → (s : Scanning offset limit count bytes taker before passed) → 0 < length taker.left → cell_at before taker ≡ Some (c, behind)
    → rest_fault offset limit count (number_at bytes limit) (before_at taker.place before) (and_cell c (cells_at (s.fuel - 1) c.key behind)) (drop passed (numbers_in count (drop limit bytes))) ≡ (contents offset bytes limit count).fault
here offset limit count passed bytes before taker behind c s some e =
    ap (λ cells. rest_fault offset limit count (number_at bytes limit) (before_at taker.place before) cells (drop passed (numbers_in count (drop limit bytes)))) (sym (cells_more s.fuel before taker behind c some s.enough e)) ∙ s.fault

pub scan_short : (offset limit count passed place : ℕ) (bytes before : List ℕ) (taker behind : Input) (c : Cell) → Scanning offset limit count bytes taker before passed → 0 < length taker.left → cell_at before taker ≡ Some (c, behind) → length c.key < 9 → place ≡ c.place
    → (contents offset bytes limit count).fault ≡ Some (Entry, offset + place)
scan_short offset limit count passed place bytes before taker behind c s some e short ep =
    sym (here offset limit count passed bytes before taker behind c s some e)
    ∙ is_short offset limit count (number_at bytes limit) (before_at taker.place before) c (cells_at (s.fuel - 1) c.key behind) (drop passed (numbers_in count (drop limit bytes))) short
    ∙ ap (λ p. Some (Entry, offset + p)) (sym ep)

pub scan_misplaced : (offset limit count passed place : ℕ) (bytes before : List ℕ) (taker behind : Input) (c : Cell) → Scanning offset limit count bytes taker before passed → 0 < length taker.left → cell_at before taker ≡ Some (c, behind) → 9 ≤ length c.key
    → stands_behind (before_at taker.place before) c.key ≡ false → place ≡ c.place → (contents offset bytes limit count).fault ≡ Some (Order, offset + place)
scan_misplaced offset limit count passed place bytes before taker behind c s some e long wrong ep =
    sym (here offset limit count passed bytes before taker behind c s some e)
    ∙ is_misplaced offset limit count (number_at bytes limit) (before_at taker.place before) c (cells_at (s.fuel - 1) c.key behind) (drop passed (numbers_in count (drop limit bytes))) long wrong
    ∙ ap (λ p. Some (Order, offset + p)) (sym ep)

before_some : (place : ℕ) (before : List ℕ) → 0 < place → before_at place before ≡ Some before
before_some place before some = cond-false _ _ _ (ne_eqb place 0 (λ e. omega arith))

pub scan_goes_on : (offset limit count passed next : ℕ) (bytes before : List ℕ) (taker behind : Input) (c : Cell) → Scanning offset limit count bytes taker before passed → 0 < length taker.left → cell_at before taker ≡ Some (c, behind) → 9 ≤ length c.key
    → stands_behind (before_at taker.place before) c.key ≡ true → Moves 3 taker behind
    → ((cells : List Cell) → restarts_left (c ∷ cells) (drop passed (numbers_in count (drop limit bytes))) ≡ restarts_left cells (drop next (numbers_in count (drop limit bytes))))
    → Scanning offset limit count bytes behind c.key next
scan_goes_on offset limit count passed next bytes before taker behind c s some e long right moves left =
    let m = moves.enough in
    let w = moves.within in
    let p = moves.place in
    let n : length behind.left ≡ length taker.left - moves.taken = ap length moves.left ∙ length-drop moves.taken taker.left in
    let f = s.enough in
    let more = cells_at (s.fuel - 1) c.key behind in
    record {
      fuel = s.fuel - 1;
      enough = omega arith;
      fault = ap (λ b. rest_fault offset limit count (number_at bytes limit) b more (drop next (numbers_in count (drop limit bytes)))) (before_some behind.place c.key (omega arith))
          ∙ sym (goes_on offset limit count (number_at bytes limit) (before_at taker.place before) c more (drop passed (numbers_in count (drop limit bytes))) (drop next (numbers_in count (drop limit bytes))) long right (left more.cells))
          ∙ here offset limit count passed bytes before taker behind c s some e;
    }

pub scan_ends : (offset limit count passed : ℕ) (bytes before : List ℕ) (taker : Input) → Scanning offset limit count bytes taker before passed → length taker.left ≡ 0
    → (contents offset bytes limit count).fault ≡ left_fault offset limit count (number_at bytes limit) (drop passed (numbers_in count (drop limit bytes)))
unfolding entry_fault restarts_left
scan_ends offset limit count passed bytes before taker s none =
    sym s.fault ∙ ap (λ cells. rest_fault offset limit count (number_at bytes limit) (before_at taker.place before) cells (drop passed (numbers_in count (drop limit bytes)))) (cells_end s.fuel before taker none)

-- the fault of the restarts
pub first_wrong : (offset limit count first : ℕ) (left : List ℕ) → (first ≡ 0 → ⊥) → left_fault offset limit count first left ≡ Some (Restart, offset + limit)
first_wrong offset limit count first left other = rw (ne_eqb first 0 other) refl

pub none_wrong : (offset limit count first passed : ℕ) (bytes : List ℕ) → first ≡ 0 → count ≤ passed → left_fault offset limit count first (drop passed (numbers_in count bytes)) ≡ None
none_wrong offset limit count first passed bytes none few =
    let all : length (drop passed (numbers_in count bytes)) ≡ 0 = length-drop passed (numbers_in count bytes) ∙ (omega (arith, length-numbers count bytes)) in
    rw (eq-eqb first 0 none, eq-eqb (length (drop passed (numbers_in count bytes))) 0 all) refl

pub next_wrong : (offset limit count first passed : ℕ) (bytes : List ℕ) → first ≡ 0 → passed < count → left_fault offset limit count first (drop passed (numbers_in count bytes)) ≡ Some (Restart, offset + (limit + 4 * passed))
next_wrong offset limit count first passed bytes none within =
    let n : length (drop passed (numbers_in count bytes)) ≡ count - passed = length-drop passed (numbers_in count bytes) ∙ ap (λ k. k - passed) (length-numbers count bytes) in
    let some : length (drop passed (numbers_in count bytes)) ≡ 0 → ⊥ = λ e. omega arith in
    let place : offset + limit + 4 * (count - length (drop passed (numbers_in count bytes))) ≡ offset + (limit + 4 * passed) = omega arith in
    rw (eq-eqb first 0 none, ne_eqb (length (drop passed (numbers_in count bytes))) 0 some) (ap (λ p. Some (Restart, p)) place)
