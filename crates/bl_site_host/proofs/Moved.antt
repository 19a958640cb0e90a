-- What was moved, and some more.
use Rattle.std.proofs.Common.{◌≡◌, ◌∙◌, ℕ, ◌+◌, ◌-◌, ◌≤◌, List, ◌++◌, length, take, drop, sym, ap, subst, arith, le_refl, drop_at, length-take-le, length-drop, Option}
use Rattle.std.proofs.lemmas.Slice.{take-put_mid_below}
use Rattle.std.proofs.lemmas.List.{take_all}
use Rattle.std.specs.Io.KnownBytes.{Appends, Consumes}
use Rattle.std.proofs.KnownBytes.{Appends-trans, Consumes-trans}
use borrow.Rule.Slice.PartMut.{put_mid, post_of}
use lib.Seq.{take-add, take-append-le}

-- more bytes were written, of those that are left
pub written_more : (a b c : Option (List ℕ)) (done count next : ℕ) (bytes : List ℕ) → next ≡ done + count → Appends a b (take done bytes)
    → Appends b c (take count (take (length bytes - done) (drop done bytes))) → Appends a c (take next bytes)
written_more a b c done count next bytes is so_far more =
    let left : take (length bytes - done) (drop done bytes) ≡ drop done bytes = take_all (length bytes - done) (drop done bytes) (omega (arith, length-drop done bytes)) in
    subst (λ (l : List ℕ). Appends a c l)
    (ap (λ (l : List ℕ). take done bytes ++ take count l) left ∙ sym (take-add done count bytes) ∙ ap (λ (n : ℕ). take n bytes) (sym is))
    (Appends-trans a b c (take done bytes) (take count (take (length bytes - done) (drop done bytes))) so_far more)

slice_range-put_mid : (a k n : ℕ) (xs ys : List ℕ) → a ≤ length xs → n ≤ length ys → take n (drop a (put_mid a k xs ys)) ≡ take n ys
slice_range-put_mid a k n xs ys within fits =
    let after = post_of a k xs in
    ap (take n) (drop_at (take a xs) (ys ++ after) a (length-take-le a xs within)) ∙ take-append-le n ys after fits

-- more bytes were read, behind those that were
pub read_more : (a b c : Option (List ℕ)) (done count next room : ℕ) (into part : List ℕ) → next ≡ done + count → done ≤ length into → count ≤ length part → Consumes a b (take done into)
    → Consumes b c (take count part) → Consumes a c (take next (put_mid done room into part))
read_more a b c done count next room into part is within fits so_far more =
    subst (λ (l : List ℕ). Consumes a c l)
    (ap (λ (l : List ℕ). l ++ take count part) (sym (take-put_mid_below done room into part done (le_refl done) within))
    ∙ ap (λ (l : List ℕ). take done (put_mid done room into part) ++ l) (sym (slice_range-put_mid done room count into part within fits))
    ∙ sym (take-add done count (put_mid done room into part))
    ∙ ap (λ (n : ℕ). take n (put_mid done room into part)) (sym is))
    (Consumes-trans a b c (take done into) (take count part) so_far more)

-- what was read stays before the rest of the buffer
pub read_kept : (a b : Option (List ℕ)) (done next room : ℕ) (into part : List ℕ) → next ≡ done → done ≤ length into → Consumes a b (take done into) → Consumes a b (take next (put_mid done room into part))
read_kept a b done next room into part is within so_far =
    subst (λ (l : List ℕ). Consumes a b l)
    (sym (take-put_mid_below done room into part done (le_refl done) within) ∙ ap (λ (n : ℕ). take n (put_mid done room into part)) (sym is)) so_far
