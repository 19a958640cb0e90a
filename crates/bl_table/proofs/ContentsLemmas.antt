-- The entries of a block from left to right, and its first fault.
use Rattle.std.proofs.Common.{◌≡◌, ℕ, zero, suc, ◌+◌, ◌-◌, ◌<◌, ◌≤◌, ◌&&◌, nat_lt, nat_eq, Bool, true, false, List, [], ◌∷◌, length, Option, None, Some, refl, sym, ◌∙◌, ap, arith, ◌⊎◌, inl, inr}
use Rattle.std.proofs.lemmas.Bool.{eq-eqb, le-ltb, lt-ltb, le-leb, lt-leb, cond-false}
use Rattle.bl_code.specs.Reading.{Input}
use Rattle.bl_table.specs.declared.fault.TableRule.TheVariants.{Entry, Order}
use Rattle.bl_table.specs.Blocks.{Cell, Cells, cell_at, cells_at, and_cell, nothing_left, stands_behind, entry_fault, restarts_left}
use Rattle.bl_table.specs.Steps.{rest_fault}

pub cells_end : (n : ℕ) (before : List ℕ) (input : Input) → length input.left ≡ 0 → cells_at n before input ≡ nothing_left
unfolding cells_at
cells_end zero before input none = refl
cells_end (suc n) before input none =
    let few : nat_lt 0 (length input.left) ≡ false = le-ltb _ _ (omega arith) in
    ap (λ (b : Bool). elim b as (λ x. Cells) [ false ↦ nothing_left | true ↦ elim (cell_at before input) as (λ x. Cells) [ None ↦ record { cells = []; stop = Some input.place } | Some c ↦ and_cell c.0 (cells_at n c.0.key c.1) ] ]) few

pub cells_some : (n : ℕ) (before : List ℕ) (input : Input) → 0 < length input.left → cells_at (suc n) before input ≡ elim (cell_at before input) as (λ x. Cells) [ None ↦ record { cells = []; stop = Some input.place } | Some c ↦ and_cell c.0 (cells_at n c.0.key c.1) ]
unfolding cells_at
cells_some n before input some =
    ap (λ (b : Bool). elim b as (λ x. Cells) [ false ↦ nothing_left | true ↦ elim (cell_at before input) as (λ x. Cells) [ None ↦ record { cells = []; stop = Some input.place } | Some c ↦ and_cell c.0 (cells_at n c.0.key c.1) ] ]) (lt-ltb 0 (length input.left) some)

pub cells_stop : (n : ℕ) (before : List ℕ) (input : Input) → 0 < length input.left → length input.left ≤ n → cell_at before input ≡ None → cells_at n before input ≡ record { cells = []; stop = Some input.place }
cells_stop zero before input some fits e = absurd (omega arith)
cells_stop (suc n) before input some fits e =
    cells_some n before input some ∙ ap (λ (r : Option (Cell × Input)). elim r as (λ x. Cells) [ None ↦ record { cells = []; stop = Some input.place } | Some c ↦ and_cell c.0 (cells_at n c.0.key c.1) ]) e

pub cells_more : (n : ℕ) (before : List ℕ) (input behind : Input) (c : Cell) → 0 < length input.left → length input.left ≤ n → cell_at before input ≡ Some (c, behind) → cells_at n before input ≡ and_cell c (cells_at (n - 1) c.key behind)
cells_more zero before input behind c some fits e = absurd (omega arith)
cells_more (suc n) before input behind c some fits e =
    let m : suc n - 1 ≡ n = omega arith in
    cells_some n before input some ∙ ap (λ (r : Option (Cell × Input)). elim r as (λ x. Cells) [ None ↦ record { cells = []; stop = Some input.place } | Some q ↦ and_cell q.0 (cells_at n q.0.key q.1) ]) e
    ∙ ap (λ k. and_cell c (cells_at k c.key behind)) (sym m)

none_left : (cells : List Cell) → restarts_left cells [] ≡ []
unfolding restarts_left
none_left [] = refl
none_left (c ∷ cells) = refl

-- an entry that is a restart, and one that is not
pub passes_restart : (c : Cell) (cells : List Cell) (r : ℕ) (rs : List ℕ) → 0 < c.place → c.place ≡ r → c.shared ≡ 0 → restarts_left (c ∷ cells) (r ∷ rs) ≡ restarts_left cells rs
unfolding restarts_left
passes_restart c cells r rs some same shared = rw (lt-ltb 0 c.place some, eq-eqb c.place r same, eq-eqb c.shared 0 shared) refl

pub no_restarts : (c : Cell) (cells : List Cell) → restarts_left (c ∷ cells) [] ≡ restarts_left cells []
unfolding restarts_left
no_restarts c cells = sym (none_left cells)

not_all : (a b c : Bool) → (a ≡ false) ⊎ (b ≡ false) ⊎ (c ≡ false) → ((a && b) && c) ≡ false
not_all a b c (inl h) = rw h refl
not_all true b c (inr (inl h)) = rw h refl
not_all false b c (inr h) = refl
not_all true true c (inr (inr h)) = h
not_all true false c (inr (inr h)) = refl

pub other_entry : (c : Cell) (cells : List Cell) (r : ℕ) (rs : List ℕ) → (nat_lt 0 c.place ≡ false) ⊎ (nat_eq c.place r ≡ false) ⊎ (nat_eq c.shared 0 ≡ false) → restarts_left (c ∷ cells) (r ∷ rs) ≡ restarts_left cells (r ∷ rs)
unfolding restarts_left
other_entry c cells r rs h = cond-false _ _ _ (not_all (nat_lt 0 c.place) (nat_eq c.place r) (nat_eq c.shared 0) h)

-- the first fault, where the entry at hand is none, is short, or stands wrong
pub stops : (offset limit count first place : ℕ) (before : Option (List ℕ)) (rs : List ℕ) → rest_fault offset limit count first before (record { cells = []; stop = Some place }) rs ≡ Some (Entry, offset + place)
unfolding entry_fault
stops offset limit count first place before rs = refl

pub is_short : (offset limit count first : ℕ) (before : Option (List ℕ)) (c : Cell) (more : Cells) (rs : List ℕ) → length c.key < 9 → rest_fault offset limit count first before (and_cell c more) rs ≡ Some (Entry, offset + c.place)
unfolding entry_fault
is_short offset limit count first before c more rs short = rw (lt-leb 9 (length c.key) short) refl

pub is_misplaced : (offset limit count first : ℕ) (before : Option (List ℕ)) (c : Cell) (more : Cells) (rs : List ℕ) → 9 ≤ length c.key → stands_behind before c.key ≡ false
    → rest_fault offset limit count first before (and_cell c more) rs ≡ Some (Order, offset + c.place)
unfolding entry_fault
is_misplaced offset limit count first before c more rs long h = rw (le-leb 9 (length c.key) long, h) refl

pub goes_on : (offset limit count first : ℕ) (before : Option (List ℕ)) (c : Cell) (more : Cells) (rs next : List ℕ) → 9 ≤ length c.key → stands_behind before c.key ≡ true → restarts_left (c ∷ more.cells) rs ≡ restarts_left more.cells next
    → rest_fault offset limit count first before (and_cell c more) rs ≡ rest_fault offset limit count first (Some c.key) more next
unfolding entry_fault
goes_on offset limit count first before c more rs next long h e = rw (le-leb 9 (length c.key) long, h, e) refl
