-- Where a search in a block may begin.
use Rattle.std.proofs.Common.{◌≡◌, ℕ, zero, suc, ◌+◌, ◌≤◌, List, [], ◌++◌, length, take, drop, Option, None, Some, refl, sym, ◌∙◌, ap, subst, arith, Bor}
use Rattle.std.specs.Prelude.{IsSomeAnd}
use Rattle.std.specs.Option.{option_copied}
use Rattle.bl_code.specs.Reading.{Input, Read, take_bytes, Takes, from_start}
use Rattle.bl_code.proofs.TakeLemmas.{enough}
use Rattle.bl_table.specs.Blocks.{Cell, Head, head_at, cell_at}
use Rattle.bl_table.specs.Searching.{at_place}
use Rattle.bl_table.proofs.CellsLemmas.{cell_parts}

read_is : (x y : List ℕ) (a b : Input) → ◌≡◌ {A = Read (List ℕ)} (Some (x, a)) (Some (y, b)) → (x ≡ y) × (a ≡ b)
read_is x y a b e = let pair : (x, a) ≡ (y, b) = cc in (ap (λ (q : List ℕ × Input). q.0) pair, ap (λ (q : List ℕ × Input). q.1) pair)

all_taken : (o : Option (List ℕ)) (old new there : Input) (place : ℕ) (front : List ℕ) → Takes o old new (take_bytes place old) → take_bytes place old ≡ Some (front, there) → (o ≡ Some front) × (new ≡ there)
all_taken None old new there place front t e = absurd (let f = sym t.0 ∙ e in cc)
all_taken (Some x) old new there place front t e = let both = read_is _ _ _ _ (sym t ∙ e) in (ap Some both.0, both.1)

pub skipped : (o : Option (List ℕ)) (bytes : List ℕ) (old new : Input) (place : ℕ) → old ≡ from_start bytes → place ≤ length bytes → Takes o old new (take_bytes place old) → new ≡ at_place place bytes
skipped o bytes old new place eo fits t =
    let P : Input → Type 0 = λ i. Takes o i new (take_bytes place i) in
    let n : 0 + place ≡ place = omega arith in
    (all_taken o (from_start bytes) new _ place (take place bytes) (subst P eo t) (enough place (from_start bytes) fits)).1 ∙ (λ i. record { place = n i; left = drop place bytes })

-- the key of an entry that shares nothing
pub no_key : (bytes : List ℕ) (place : ℕ) (c : Cell) (behind : Input) → head_at (at_place place bytes) ≡ None → cell_at [] (at_place place bytes) ≡ Some (c, behind) → ⊥
no_key bytes place c behind none e = let p = cell_parts [] (at_place place bytes) c behind e in let f = sym none ∙ p.head_is in cc

take_none : (n : ℕ) → take {A = ℕ} n [] ≡ []
take_none zero = refl
take_none (suc n) = refl

pub key_is : (bytes : List ℕ) (place : ℕ) (c : Cell) (behind first new : Input) (h : Head) (o : Option (List ℕ)) → head_at (at_place place bytes) ≡ Some (h, first) → Takes o first new (take_bytes h.unshared first) → cell_at [] (at_place place bytes) ≡ Some (c, behind)
    → o ≡ Some c.key
key_is bytes place c behind first new h o eh t e =
    let p = cell_parts [] (at_place place bytes) c behind e in
    let both : (h, first) ≡ (p.head, p.first) = let f = sym eh ∙ p.head_is in cc in
    let taken : take_bytes h.unshared first ≡ Some (p.suffix, p.second) = ap (λ (q : Head × Input). take_bytes q.0.unshared q.1) both ∙ p.suffix_is in
    let key : c.key ≡ p.suffix = p.key ∙ ap (λ l. l ++ p.suffix) (take_none p.head.shared) in
    (all_taken o first new p.second h.unshared p.suffix t taken).0 ∙ ap Some (sym key)

pub copied_is : (o : Option (Bor (List ℕ))) (key : List ℕ) → option_copied o ≡ Some key → IsSomeAnd o (λ k. k.now ≡ key)
copied_is None key e = absurd cc
copied_is (Some b) key e = let f : b.now ≡ key = cc in f
