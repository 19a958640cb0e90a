-- A script, as an index goes over a piece of it.
use Rattle.std.proofs.Common.{◌≡◌, ℕ, ◌+◌, ◌-◌, ◌<◌, ◌≤◌, List, [], ◌∷◌, ◌++◌, length, take, drop, get_or, slice_range, sym, ◌∙◌, ap, arith, append_assoc, add-one}
use Rattle.std.proofs.Math.Seq.{take-suc, take-add}
use Rattle.std.proofs.lemmas.List.{take-append-drop}

-- so far, and up to a later place
to_place : (piece : List ℕ) (at end : ℕ) → at ≤ end → take at piece ++ slice_range piece at end ≡ take end piece
to_place piece at end le =
    let n : at + (end - at) ≡ end = omega arith in
    sym (take-add at (end - at) piece) ∙ ap (λ k. take k piece) n

one_more : (piece : List ℕ) (end : ℕ) → end < length piece → get_or piece end 0 ≡ 10 → take end piece ++ 10 ∷ [] ≡ take (end + 1) piece
one_more piece end lt is = ap (λ b. take end piece ++ b ∷ []) (sym is) ∙ sym (ap (λ k. take k piece) (add-one end) ∙ take-suc piece end 0 lt)

-- a whole line more
pub line_more : (script piece : List ℕ) (at end : ℕ) → at ≤ end → end < length piece → get_or piece end 0 ≡ 10
    → ((script ++ take at piece) ++ slice_range piece at end) ++ 10 ∷ [] ≡ script ++ take (end + 1) piece
line_more script piece at end le lt is =
    ap (λ s. s ++ 10 ∷ []) (append_assoc script (take at piece) (slice_range piece at end) ∙ ap (λ p. script ++ p) (to_place piece at end le))
    ∙ append_assoc script (take end piece) (10 ∷ []) ∙ ap (λ p. script ++ p) (one_more piece end lt is)

-- the rest of the piece, and what follows it
pub rest_follows : (script piece more : List ℕ) (at : ℕ) → (script ++ take at piece) ++ (drop at piece ++ more) ≡ script ++ (piece ++ more)
rest_follows script piece more at =
    append_assoc script (take at piece) (drop at piece ++ more)
    ∙ ap (λ p. script ++ p) (sym (append_assoc (take at piece) (drop at piece) more) ∙ ap (λ p. p ++ more) (take-append-drop at piece))

pub line_follows : (script piece more : List ℕ) (at end : ℕ) → at ≤ end → end < length piece → get_or piece end 0 ≡ 10
    → ((script ++ take at piece) ++ slice_range piece at end) ++ 10 ∷ (drop (end + 1) piece ++ more) ≡ script ++ (piece ++ more)
line_follows script piece more at end le lt is =
    sym (append_assoc ((script ++ take at piece) ++ slice_range piece at end) (10 ∷ []) (drop (end + 1) piece ++ more))
    ∙ ap (λ s. s ++ (drop (end + 1) piece ++ more)) (line_more script piece at end le lt is)
    ∙ rest_follows script piece more (end + 1)

pub piece_ends : (script piece : List ℕ) (at : ℕ) → (script ++ take at piece) ++ drop at piece ≡ script ++ piece
piece_ends script piece at = append_assoc script (take at piece) (drop at piece) ∙ ap (λ p. script ++ p) (take-append-drop at piece)
