-- Entries of operations, one after the other.
use Rattle.std.proofs.Common.{◌≡◌, ℕ, suc, ◌+◌, List, [], ◌∷◌, ◌++◌, length, sym, ◌∙◌, ap, arith, append_assoc, append-nil}
use Rattle.bl_entry.specs.declared.batch.Operation.{Operation}
use Rattle.bl_entry.specs.declared.key.Entry.{Entry}
use Rattle.bl_entry.specs.Written.{entry, entries_from}

at_seq : (o : Operation) (a b : ℕ) → a ≡ b → entry o.key a o.put ∷ [] ≡ entry o.key b o.put ∷ []
at_seq o a b e = ap (λ n. entry o.key n o.put ∷ []) e

pub one_more : (ops : List Operation) (seq : ℕ) (o : Operation) → entries_from seq (ops ++ o ∷ []) ≡ entries_from seq ops ++ entry o.key (seq + length ops) o.put ∷ []
unfolding entries_from
one_more [] seq o = let n : seq ≡ seq + 0 = omega arith in at_seq o seq (seq + 0) n
one_more (x ∷ xs) seq o =
    let n : seq + 1 + length xs ≡ seq + suc (length xs) = omega arith in
    ap (λ es. entry x.key seq x.put ∷ es) (one_more xs (seq + 1) o ∙ ap (λ l. entries_from (seq + 1) xs ++ l) (at_seq o (seq + 1 + length xs) (seq + suc (length xs)) n))

-- the entries so far, and that of one operation more
pub put_one : (ops : List Operation) (first seq : ℕ) (o : Operation) (before es es_after : List Entry) (e : Entry)
    → es ≡ before ++ entries_from first ops → seq ≡ first + length ops → e ≡ entry o.key seq o.put → es_after ≡ es ++ e ∷ []
    → es_after ≡ before ++ entries_from first (ops ++ o ∷ [])
put_one ops first seq o before es es_after e so_far at is after =
    after ∙ ap (λ x. es ++ x ∷ []) is ∙ ap (λ l. es ++ l) (at_seq o seq (first + length ops) at)
    ∙ ap (λ l. l ++ entry o.key (first + length ops) o.put ∷ []) so_far
    ∙ append_assoc before (entries_from first ops) (entry o.key (first + length ops) o.put ∷ [])
    ∙ ap (λ l. before ++ l) (sym (one_more ops first o))

pub no_entries : (before : List Entry) (seq : ℕ) → before ≡ before ++ entries_from seq []
unfolding entries_from
no_entries before seq = sym (append-nil before)
