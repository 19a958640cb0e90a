-- What a reading takes.
use Rattle.std.proofs.Common.{◌≡◌, ℕ, zero, suc, ◌+◌, ◌-◌, ◌*◌, ◌^◌, ◌≤◌, nat_lt, nat_le, Bool, true, false, cond, List, [], ◌∷◌, length, length-drop, take, drop, None, Some, refl, sym, ◌∙◌, ap, arith, subst}
use Rattle.std.specs.Prelude.{option_and_then}
use Rattle.std.proofs.lemmas.List.{drop-drop}
use Rattle.std.proofs.lemmas.Bool.{leb-true}
use Rattle.bl_code.specs.Reading.{Input, Read, take_bytes, take_varint32, take_varint64, varint_in, below}
use Rattle.bl_table.specs.Steps.{Moves}

pub moves_then : (a b : ℕ) (old mid new : Input) → Moves a old mid → Moves b mid new → Moves (a + b) old new
moves_then a b old mid new first second =
    let n : length mid.left ≡ length old.left - first.taken = ap length first.left ∙ length-drop first.taken old.left in
    let w = first.within in
    let v = second.within in
    let e = first.enough in
    let f = second.enough in
    let p = first.place in
    let q = second.place in
    record {
      taken = first.taken + second.taken;
      enough = omega arith;
      within = omega arith;
      place = omega arith;
      left = second.left ∙ ap (drop second.taken) first.left ∙ drop-drop second.taken first.taken old.left;
    }

pub moves_less : (a b : ℕ) (old new : Input) → a ≤ b → Moves b old new → Moves a old new
moves_less a b old new less m = let e = m.enough in record { taken = m.taken; enough = omega arith; within = m.within; place = m.place; left = m.left }

-- a reading of bytes, by its length
if_bytes : (n : ℕ) (b : Bool) (old new : Input) (x : List ℕ) → b ≡ nat_le n (length old.left)
    → cond {A = Read (List ℕ)} b (Some (take n old.left, record { place = old.place + n; left = drop n old.left })) None ≡ Some (x, new) → Moves n old new
if_bytes n true old new x b e =
    let here : Input = record { place = old.place + n; left = drop n old.left } in
    let pair : (take n old.left, here) ≡ (x, new) = cc in
    let same : here ≡ new = ap (λ (p : List ℕ × Input). p.1) pair in
    record {
      taken = n;
      enough = omega arith;
      within = leb-true n (length old.left) (sym b);
      place = sym (ap (λ (i : Input). i.place) same);
      left = sym (ap (λ (i : Input). i.left) same);
    }
if_bytes n false old new x b e = absurd cc

pub bytes_move : (n : ℕ) (old new : Input) (x : List ℕ) → take_bytes n old ≡ Some (x, new) → Moves n old new
unfolding take_bytes
bytes_move n old new x e = if_bytes n (nat_le n (length old.left)) old new x refl e

if_below : (b : Bool) (q r : ℕ × Input) → cond b (Some q) None ≡ Some r → q ≡ r
if_below true q r e = cc
if_below false q r e = absurd cc

from_below : (bits : ℕ) (read : Read ℕ) (r : ℕ × Input) → below bits read ≡ Some r → read ≡ Some r
from_below bits None r e = absurd cc
from_below bits (Some q) r e = ap Some (if_below (nat_lt q.0 (2 ^ bits)) q r e)

more_varint : (k place b : ℕ) (bs : List ℕ) (r : ℕ × Input) (read : Read ℕ) → read ≡ varint_in k (place + 1) bs
    → option_and_then (λ (q : ℕ × Input). Some (b - 128 + 128 * q.0, q.1)) read ≡ Some r → ((q : ℕ × Input) → varint_in k (place + 1) bs ≡ Some q → Moves 1 (record { place = place + 1; left = bs }) q.1)
    → Moves 1 (record { place = place; left = b ∷ bs }) r.1
more_varint k place b bs r None is e rest = absurd cc
more_varint k place b bs r (Some q) is e rest =
    let m = rest q (sym is) in
    let pair : (b - 128 + 128 * q.0, q.1) ≡ r = cc in
    let same : q.1 ≡ r.1 = ap (λ (p : ℕ × Input). p.1) pair in
    let w = m.within in
    let p : r.1.place ≡ q.1.place = ap (λ (i : Input). i.place) (sym same) in
    let n = m.place in
    record {
      taken = suc m.taken;
      enough = omega arith;
      within = omega arith;
      place = omega arith;
      left = ap (λ (i : Input). i.left) (sym same) ∙ m.left;
    }

if_varint : (k place b : ℕ) (bs : List ℕ) (r : ℕ × Input) (t : Bool) → cond {A = Read ℕ} t (Some (b, record { place = place + 1; left = bs })) (option_and_then (λ (q : ℕ × Input). Some (b - 128 + 128 * q.0, q.1)) (varint_in k (place + 1) bs)) ≡ Some r
    → ((q : ℕ × Input) → varint_in k (place + 1) bs ≡ Some q → Moves 1 (record { place = place + 1; left = bs }) q.1) → Moves 1 (record { place = place; left = b ∷ bs }) r.1
if_varint k place b bs r true e rest =
    let here : Input = record { place = place + 1; left = bs } in
    let pair : (b, here) ≡ r = cc in
    let same : here ≡ r.1 = ap (λ (p : ℕ × Input). p.1) pair in
    let P : Input → Type 0 = λ i. Moves 1 (record { place = place; left = b ∷ bs }) i in
    subst P same (record { taken = 1; enough = omega arith; within = omega arith; place = refl; left = refl })
if_varint k place b bs r false e rest = more_varint k place b bs r (varint_in k (place + 1) bs) refl e rest

varint_moves : (k place : ℕ) (bytes : List ℕ) (r : ℕ × Input) → varint_in k place bytes ≡ Some r → Moves 1 (record { place = place; left = bytes }) r.1
unfolding varint_in
varint_moves zero place bytes r e = absurd cc
varint_moves (suc k) place [] r e = absurd cc
varint_moves (suc k) place (b ∷ bs) r e = if_varint k place b bs r (nat_lt b 128) e (λ q f. varint_moves k (place + 1) bs q f)

pub varint32_moves : (old new : Input) (x : ℕ) → take_varint32 old ≡ Some (x, new) → Moves 1 old new
varint32_moves old new x e = varint_moves 5 old.place old.left (x, new) (from_below 32 (varint_in 5 old.place old.left) (x, new) e)

pub moves_total : (a : ℕ) (old new : Input) → Moves a old new → new.place + length new.left ≡ old.place + length old.left
moves_total a old new m =
    let n : length new.left ≡ length old.left - m.taken = ap length m.left ∙ length-drop m.taken old.left in
    let p = m.place in
    let w = m.within in
    omega arith

pub varint64_moves : (old new : Input) (x : ℕ) → take_varint64 old ≡ Some (x, new) → Moves 1 old new
varint64_moves old new x e = varint_moves 10 old.place old.left (x, new) (from_below 64 (varint_in 10 old.place old.left) (x, new) e)
