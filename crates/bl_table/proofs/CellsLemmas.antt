-- What a walk over the entries of a block passes.
use Rattle.std.proofs.Common.{◌≡◌, ℕ, zero, suc, ◌+◌, ◌-◌, ◌<◌, ◌≤◌, Bool, true, false, cond, List, [], ◌∷◌, ◌++◌, length, length-drop, take, Option, None, Some, refl, sym, ◌∙◌, ap, subst, arith, inl, inr}
use Rattle.std.proofs.lemmas.Bool.{cases_lt, leb-true}
use Rattle.bl_code.specs.Reading.{Input, Read, take_bytes, take_varint32}
use Rattle.bl_code.proofs.ChainLemmas.{read_ok}
use Rattle.bl_table.specs.Blocks.{Cell, Cells, Head, head_at, cell_of, cell_at, cells_at, and_cell}
use Rattle.bl_table.specs.Steps.{Moves}
use Rattle.bl_table.proofs.MoveLemmas.{moves_then, moves_less, bytes_move, varint32_moves}
use Rattle.bl_table.proofs.ContentsLemmas.{cells_end, cells_some}
use Rattle.bl_table.proofs.CellLemmas.{a_cell}

if_some : {A : Type 0} (t : Bool) (x y : A) → cond {A = Option A} t (Some x) None ≡ Some y → (t ≡ true) × (x ≡ y)
if_some true x y e = (refl, cc)
if_some false x y e = absurd cc

some_is : {A : Type 0} (x y : A) → ◌≡◌ {A = Option A} (Some x) (Some y) → x ≡ y
some_is x y e = cc

-- the parts of an entry that was read
pub record CellRead (before : List ℕ) (input : Input) (c : Cell) (behind : Input) : Type 0 where
  pub head : Head
  pub first : Input
  pub suffix : List ℕ
  pub second : Input
  pub head_is : head_at input ≡ Some (head, first)
  pub suffix_is : take_bytes head.unshared first ≡ Some (suffix, second)
  pub value_is : take_bytes head.size second ≡ Some (c.value, behind)
  pub fits : head.shared ≤ length before
  pub place : c.place ≡ input.place
  pub shared : c.shared ≡ head.shared
  pub key : c.key ≡ take head.shared before ++ suffix

pub cell_parts : (before : List ℕ) (input : Input) (c : Cell) (behind : Input) → cell_at before input ≡ Some (c, behind) → CellRead before input c behind
unfolding cell_at
cell_parts before input c behind e =
    let h = read_ok (head_at input) (λ (head : Head × Input). cell_of before input.place head.0 head.1) (c, behind) e in
    let s = read_ok (take_bytes h.0.0.unshared h.0.1) _ (c, behind) h.2 in
    let v = read_ok (take_bytes h.0.0.size s.0.1) _ (c, behind) s.2 in
    let last = if_some _ _ _ v.2 in
    let cell = ap (λ (q : Cell × Input). q.0) last.1 in
    let there = ap (λ (q : Cell × Input). q.1) last.1 in
    record {
      head = h.0.0;
      first = h.0.1;
      suffix = s.0.0;
      second = s.0.1;
      head_is = h.1;
      suffix_is = s.1;
      value_is = v.1 ∙ (λ i. Some ((cell i).value, there i));
      fits = leb-true _ _ last.0;
      place = sym (ap (λ (x : Cell). x.place) cell);
      shared = sym (ap (λ (x : Cell). x.shared) cell);
      key = sym (ap (λ (x : Cell). x.key) cell);
    }

head_moves : (input first : Input) (h : Head) → head_at input ≡ Some (h, first) → Moves 3 input first
head_moves input first h e =
    let a = read_ok (take_varint32 input) _ (h, first) e in
    let b = read_ok (take_varint32 a.0.1) _ (h, first) a.2 in
    let c = read_ok (take_varint32 b.0.1) _ (h, first) b.2 in
    let last : c.0.1 ≡ first = ap (λ (q : Head × Input). q.1) (some_is _ _ c.2) in
    let P : Input → Type 0 = λ i. Moves 3 input i in
    subst P last (moves_then 1 2 input a.0.1 c.0.1 (varint32_moves input a.0.1 a.0.0 a.1) (moves_then 1 1 a.0.1 b.0.1 c.0.1 (varint32_moves a.0.1 b.0.1 b.0.0 b.1) (varint32_moves b.0.1 c.0.1 c.0.0 c.1)))

pub cell_moves : (before : List ℕ) (input : Input) (c : Cell) (behind : Input) → cell_at before input ≡ Some (c, behind) → Moves 3 input behind
cell_moves before input c behind e =
    let p = cell_parts before input c behind e in
    moves_less 3 (3 + (p.head.unshared + p.head.size)) input behind (omega arith)
    (moves_then 3 (p.head.unshared + p.head.size) input p.first behind (head_moves input p.first p.head p.head_is)
    (moves_then p.head.unshared p.head.size p.first p.second behind (bytes_move p.head.unshared p.first p.second p.suffix p.suffix_is) (bytes_move p.head.size p.second behind c.value p.value_is)))

-- an entry that shares nothing is the same behind each key
pub shares_nothing : (before : List ℕ) (input : Input) (c : Cell) (behind : Input) → cell_at before input ≡ Some (c, behind) → c.shared ≡ 0 → cell_at [] input ≡ Some (c, behind)
shares_nothing before input c behind e none =
    let p = cell_parts before input c behind e in
    let zero_shared : p.head.shared ≡ 0 = sym p.shared ∙ none in
    let key : c.key ≡ take p.head.shared [] ++ p.suffix = p.key ∙ ap (λ n. take n before ++ p.suffix) zero_shared ∙ ap (λ n. take n [] ++ p.suffix) (sym zero_shared) in
    let place = p.place in
    let shared = p.shared in
    a_cell [] p.suffix c.value c.key input p.first p.second behind p.head p.head_is p.suffix_is p.value_is (omega arith) key
    ∙ (λ i. Some (record { place = sym place i; shared = sym shared i; key = c.key; value = c.value }, behind))

-- the first of some entries, and those behind it
pub record One (fuel : ℕ) (before : List ℕ) (input : Input) (c : Cell) (more : List Cell) : Type 0 where
  pub behind : Input
  pub some : 0 < length input.left
  pub read : cell_at before input ≡ Some (c, behind)
  pub rest : (cells_at (fuel - 1) c.key behind).cells ≡ more

one_read : (n : ℕ) (before : List ℕ) (input : Input) (c : Cell) (more : List Cell) (r : Read Cell) → 0 < length input.left → cell_at before input ≡ r
    → (elim r as (λ x. Cells) [ None ↦ record { cells = []; stop = Some input.place } | Some q ↦ and_cell q.0 (cells_at n q.0.key q.1) ]).cells ≡ c ∷ more → One (suc n) before input c more
one_read n before input c more None some e f = absurd cc
one_read n before input c more (Some q) some e f =
    let first : q.0 ≡ c = cc in
    let rest : (cells_at n q.0.key q.1).cells ≡ more = cc in
    let fuel : suc n - 1 ≡ n = omega arith in
    record {
      behind = q.1;
      some = some;
      read = e ∙ (λ i. Some (first i, q.1));
      rest = ap (λ k. (cells_at k c.key q.1).cells) fuel ∙ ap (λ (x : Cell). (cells_at n x.key q.1).cells) (sym first) ∙ rest;
    }

pub one_cell : (fuel : ℕ) (before : List ℕ) (input : Input) (c : Cell) (more : List Cell) → (cells_at fuel before input).cells ≡ c ∷ more → One fuel before input c more
unfolding cells_at
one_cell zero before input c more e = absurd cc
one_cell (suc n) before input c more e = elim (cases_lt 0 (length input.left)) [
  | inr none ↦ absurd (let f = sym (ap (λ (x : Cells). x.cells) (cells_end (suc n) before input (omega arith))) ∙ e in cc)
  | inl some ↦ one_read n before input c more (cell_at before input) some refl (sym (ap (λ (x : Cells). x.cells) (cells_some n before input some)) ∙ e)
]

-- enough is enough
fuel_read : (n m : ℕ) (before : List ℕ) (input : Input) (r : Read Cell) → cell_at before input ≡ r → ((c : Cell) (behind : Input) → cell_at before input ≡ Some (c, behind) → cells_at n c.key behind ≡ cells_at m c.key behind)
    → elim r as (λ x. Cells) [ None ↦ record { cells = []; stop = Some input.place } | Some q ↦ and_cell q.0 (cells_at n q.0.key q.1) ]
    ≡ elim r as (λ x. Cells) [ None ↦ record { cells = []; stop = Some input.place } | Some q ↦ and_cell q.0 (cells_at m q.0.key q.1) ]
fuel_read n m before input None e same = refl
fuel_read n m before input (Some q) e same = ap (and_cell q.0) (same q.0 q.1 e)

pub fuel_same : (n m : ℕ) (before : List ℕ) (input : Input) → length input.left ≤ n → length input.left ≤ m → cells_at n before input ≡ cells_at m before input
fuel_same zero m before input fits gits = cells_end zero before input (omega arith) ∙ sym (cells_end m before input (omega arith))
fuel_same (suc n) zero before input fits gits = cells_end (suc n) before input (omega arith) ∙ sym (cells_end zero before input (omega arith))
fuel_same (suc n) (suc m) before input fits gits = elim (cases_lt 0 (length input.left)) [
  | inr none ↦ cells_end (suc n) before input (omega arith) ∙ sym (cells_end (suc m) before input (omega arith))
  | inl some ↦
      cells_some n before input some
      ∙ fuel_read n m before input (cell_at before input) refl (λ c behind e.
      let moves = cell_moves before input c behind e in
      let left : length behind.left ≡ length input.left - moves.taken = ap length moves.left ∙ length-drop moves.taken input.left in
      let least = moves.enough in
      fuel_same n m c.key behind (omega arith) (omega arith))
      ∙ sym (cells_some m before input some)
]
