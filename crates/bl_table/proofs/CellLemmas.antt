-- An entry, by the readings of its parts.
use Rattle.std.proofs.Common.{◌≡◌, ℕ, if◌then◌else◌, ◌<◌, ◌≤◌, nat_le, List, ◌++◌, length, take, None, Some, sym, ◌∙◌, ap}
use Rattle.std.specs.Prelude.{option_and_then}
use Rattle.std.proofs.lemmas.Bool.{le-leb, lt-leb, cond-true, cond-false}
use Rattle.bl_code.specs.Reading.{Input, Read, take_bytes}
use Rattle.bl_table.specs.Blocks.{Cell, Head, head_at, cell_of, cell_at}

pub no_head : (before : List ℕ) (input : Input) → head_at input ≡ None → cell_at before input ≡ None
unfolding cell_at
no_head before input e = ap (option_and_then (λ (head : Head × Input). cell_of before input.place head.0 head.1)) e

headed : (before : List ℕ) (input i1 : Input) (h : Head) (r : Read Cell) → head_at input ≡ Some (h, i1) → cell_of before input.place h i1 ≡ r → cell_at before input ≡ r
unfolding cell_at
headed before input i1 h r e f = ap (option_and_then (λ (head : Head × Input). cell_of before input.place head.0 head.1)) e ∙ f

abbrev pub behind_suffix : List ℕ → ℕ → Head → (List ℕ × Input) → Read Cell
behind_suffix before place h suffix =
    option_and_then (λ (value : List ℕ × Input).
    if nat_le h.shared (length before) then Some (record { place = place; shared = h.shared; key = take h.shared before ++ suffix.0; value = value.0 }, value.1) else None)
    (take_bytes h.size suffix.1)

pub no_suffix : (before : List ℕ) (input i1 : Input) (h : Head) → head_at input ≡ Some (h, i1) → take_bytes h.unshared i1 ≡ None → cell_at before input ≡ None
no_suffix before input i1 h eh es = headed before input i1 h None eh (ap (option_and_then (behind_suffix before input.place h)) es)

pub no_value : (before suffix : List ℕ) (input i1 i2 : Input) (h : Head) → head_at input ≡ Some (h, i1) → take_bytes h.unshared i1 ≡ Some (suffix, i2) → take_bytes h.size i2 ≡ None → cell_at before input ≡ None
no_value before suffix input i1 i2 h eh es ev =
    headed before input i1 h None eh (ap (option_and_then (behind_suffix before input.place h)) es
    ∙ ap (option_and_then (λ (value : List ℕ × Input). if nat_le h.shared (length before) then Some (record { place = input.place; shared = h.shared; key = take h.shared before ++ suffix; value = value.0 }, value.1) else None)) ev)

pub no_shared : (before suffix value : List ℕ) (input i1 i2 i3 : Input) (h : Head) → head_at input ≡ Some (h, i1) → take_bytes h.unshared i1 ≡ Some (suffix, i2) → take_bytes h.size i2 ≡ Some (value, i3) → length before < h.shared
    → cell_at before input ≡ None
no_shared before suffix value input i1 i2 i3 h eh es ev less =
    headed before input i1 h None eh (ap (option_and_then (behind_suffix before input.place h)) es
    ∙ ap (option_and_then (λ (value : List ℕ × Input). if nat_le h.shared (length before) then Some (record { place = input.place; shared = h.shared; key = take h.shared before ++ suffix; value = value.0 }, value.1) else None)) ev
    ∙ cond-false _ _ _ (lt-leb _ _ less))

pub a_cell : (before suffix value key : List ℕ) (input i1 i2 i3 : Input) (h : Head) → head_at input ≡ Some (h, i1) → take_bytes h.unshared i1 ≡ Some (suffix, i2) → take_bytes h.size i2 ≡ Some (value, i3) → h.shared ≤ length before
    → key ≡ take h.shared before ++ suffix → cell_at before input ≡ Some (record { place = input.place; shared = h.shared; key = key; value = value }, i3)
a_cell before suffix value key input i1 i2 i3 h eh es ev fits ek =
    headed before input i1 h _ eh (ap (option_and_then (behind_suffix before input.place h)) es
    ∙ ap (option_and_then (λ (value : List ℕ × Input). if nat_le h.shared (length before) then Some (record { place = input.place; shared = h.shared; key = take h.shared before ++ suffix; value = value.0 }, value.1) else None)) ev
    ∙ cond-true _ _ _ (le-leb _ _ fits)
    ∙ ap (λ k. Some (record { place = input.place; shared = h.shared; key = k; value = value }, i3)) (sym ek))
