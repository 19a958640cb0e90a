-- The batches of writes.
use Rattle.std.proofs.Common.{◌≡◌, ℕ, zero, suc, ◌+◌, List, [], ◌∷◌, ◌++◌, length, take, refl, sym, ◌∙◌, ap, subst, append-nil, append_assoc, arith}
use Rattle.bl_entry.specs.Batches.{Batch}
use Rattle.bl_entry.specs.Revisions.{Revision, Map, revisions_from, revisions_of, after_operations, IsMapAt, AreUpTo, OperationsChangeMap}
use Rattle.bl_machine.specs.Writes.{Write, after_writes, operations_in, numbered}
use Rattle.bl_machine.specs.Laws.{WritesMakeMap}

pub numbered_more : (first : ℕ) (writes more : List Write) → numbered first (writes ++ more) ≡ numbered first writes ++ numbered (first + operations_in writes) more
unfolding numbered operations_in
numbered_more first [] more = let e : first ≡ first + 0 = omega arith in ap (λ n. numbered n more) e
numbered_more first (w ∷ writes) more =
    let e : (first + length w) + operations_in writes ≡ first + (length w + operations_in writes) = omega arith in
    let b : Batch = record { first = first; operations = w } in
    ap (λ bs. b ∷ bs) (numbered_more (first + length w) writes more ∙ ap (λ n. numbered (first + length w) writes ++ numbered n more) e)

pub numbered-length : (first : ℕ) (writes : List Write) → length (numbered first writes) ≡ length writes
unfolding numbered
numbered-length first [] = refl
numbered-length first (w ∷ writes) = omega (arith, numbered-length (first + length w) writes)

pub numbered-take : (first : ℕ) (writes : List Write) (k : ℕ) → take k (numbered first writes) ≡ numbered first (take k writes)
unfolding numbered
numbered-take first [] zero = refl
numbered-take first [] (suc k) = refl
numbered-take first (w ∷ writes) zero = refl
numbered-take first (w ∷ writes) (suc k) = ap (λ bs. record { first = first; operations = w } ∷ bs) (numbered-take (first + length w) writes k)

-- the map and the greatest sequence
record Made (es : List Revision) (last : ℕ) (m : Map) : Type 0 where
  pub up_to : AreUpTo last es
  pub map_is : IsMapAt es last m

make : OperationsChangeMap → (es : List Revision) (last : ℕ) (writes : List Write) (m : Map) → Made es last m
    → Made (es ++ revisions_of (numbered (last + 1) writes)) (last + operations_in writes) (after_writes writes m)
unfolding numbered operations_in after_writes
make change es last [] m made =
    let P : List Revision → Type 0 = λ rs. Made rs (last + 0) m in
    let Q : ℕ → Type 0 = λ n. Made es n m in
    let e : last ≡ last + 0 = omega arith in
    subst P (sym (append-nil es)) (subst Q e made)
make change es last (w ∷ writes) m made =
    let n = last + length w in
    let one = change es last w m made.up_to made.map_is in
    let rs = es ++ revisions_from (last + 1) w in
    let rest : Made (rs ++ revisions_of (numbered (n + 1) writes)) (n + operations_in writes) (after_writes writes (after_operations w m)) =
    make change rs n writes (after_operations w m) (record { up_to = one.1; map_is = one.0 }) in
    let follow : n + 1 ≡ (last + 1) + length w = omega arith in
    let sum : n + operations_in writes ≡ last + (length w + operations_in writes) = omega arith in
    let all : rs ++ revisions_of (numbered (n + 1) writes) ≡ es ++ (revisions_from (last + 1) w ++ revisions_of (numbered ((last + 1) + length w) writes)) =
    append_assoc es (revisions_from (last + 1) w) (revisions_of (numbered (n + 1) writes)) ∙ ap (λ k. es ++ (revisions_from (last + 1) w ++ revisions_of (numbered k writes))) follow in
    let P : List Revision → Type 0 = λ xs. Made xs (last + (length w + operations_in writes)) (after_writes writes (after_operations w m)) in
    let Q : ℕ → Type 0 = λ k. Made (rs ++ revisions_of (numbered (n + 1) writes)) k (after_writes writes (after_operations w m)) in
    subst P all (subst Q sum rest)

pub writes_make : OperationsChangeMap → WritesMakeMap
writes_make change es last writes m up_to map_is = let made = make change es last writes m (record { up_to = up_to; map_is = map_is }) in (made.map_is, made.up_to)
