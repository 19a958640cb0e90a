-- The operations of a batch, one after another.
use Rattle.std.proofs.Common.{◌≡◌, ℕ, zero, suc, ◌+◌, ◌<◌, List, [], ◌∷◌, length, take, get_or, sym, ◌∙◌, ap, arith, add-one}
use Rattle.bl_entry.specs.Revisions.{Map, after_put, after_operations}
use Rattle.bl_entry.specs.declared.batch.Operation.{Operation}

one_more : (ops : List Operation) (k : ℕ) (o : Operation) (m : Map) → k < length ops → o ≡ get_or ops k o → after_put o.key o.put (after_operations (take k ops) m) ≡ after_operations (take (suc k) ops) m
one_more [] k o m lt e = absurd (omega (arith, lt))
one_more (x ∷ xs) zero o m lt e = ap (λ (y : Operation). after_put y.key y.put m) e
one_more (x ∷ xs) (suc k) o m lt e = one_more xs k o (after_put x.key x.put m) (omega (arith, lt)) e

pub put_one : (ops : List Operation) (k : ℕ) (o : Operation) (m : Map) → k < length ops → o ≡ get_or ops k o → after_put o.key o.put (after_operations (take k ops) m) ≡ after_operations (take (k + 1) ops) m
put_one ops k o m lt e = one_more ops k o m lt e ∙ ap (λ n. after_operations (take n ops) m) (sym (add-one k))
