-- The operations of a batch go into a memory.
use Rattle.std.proofs.Common.{◌≡◌, ℕ, zero, suc, ◌+◌, ◌<◌, ◌≤◌, List, [], ◌∷◌, ◌++◌, length, take, refl, sym, ◌∙◌, ap, subst, arith, add-one, get_or, Option, None, Some}
use Rattle.std.proofs.lemmas.List.{length-take}
use Rattle.std.proofs.lemmas.List.Sorted.{sum_by-IsPermutation}
use Rattle.bl_entry.specs.Written.{entries_from, entry}
use Rattle.bl_entry.specs.declared.batch.Operation.{Operation}
use Rattle.bl_entry.specs.declared.key.Entry.{Entry}
use Rattle.bl_memtab.specs.Filled.{Holds}
use Rattle.bl_memtab.specs.Tables.{size}
use Rattle.std.proofs.lemmas.List.Sums.{sum_by-append, sum_by-cons}
use Rattle.bl_store.specs.Calls.{HasTaken, bytes_in, bytes_of, bytes_put, put_length}

pub taken : (ops : List Operation) (k : ℕ) (o : Operation) → k < length ops → o ≡ get_or ops k o → take (k + 1) ops ≡ take k ops ++ o ∷ []
taken ops k o lt e = ap (λ n. take n ops) (add-one k) ∙ by ops k lt e
  where
    by : (xs : List Operation) (n : ℕ) → n < length xs → o ≡ get_or xs n o → take (suc n) xs ≡ take n xs ++ o ∷ []
    by [] n less is = absurd (omega (arith, less))
    by (x ∷ xs) zero less is = ap (λ y. y ∷ []) (sym is)
    by (x ∷ xs) (suc n) less is = ap (λ ys. x ∷ ys) (by xs n (omega (arith, less)) is)

pub taken_length : (ops : List Operation) (k : ℕ) → k ≤ length ops → length (take k ops) ≡ k
taken_length ops k le = let l = length-take k ops in omega (arith, l, le)

pub has_taken : (ops items : List Operation) (count last : ℕ) (old new : List Entry) → items ≡ ops
    → ((written : List Entry) → Holds old written last → Holds new (written ++ entries_from (last + 1) (take count items)) (last + length (take count items))) → HasTaken ops last old new
has_taken ops items count last old new same holds = subst (λ (os : List Operation). HasTaken os last old new) same (record { count = count; holds = holds })

-- ---- bytes

entry_size : (user : List ℕ) (seq : ℕ) (put : Option (List ℕ)) → size (entry user seq put) ≡ length user + 8 + put_length put
entry_size user seq None = refl
entry_size user seq (Some value) = refl

entries_bytes : (seq : ℕ) (ops : List Operation) → bytes_in (entries_from seq ops) ≡ bytes_of ops
unfolding entries_from
entries_bytes seq [] = refl
entries_bytes seq (o ∷ more) =
    sum_by-cons size (entry o.key seq o.put) (entries_from (seq + 1) more)
    ∙ (λ i. entry_size o.key seq o.put i + entries_bytes (seq + 1) more i)
    ∙ sym (sum_by-cons bytes_put o more)

pub bytes_more : (old new written : List Entry) (last after : ℕ) (ops : List Operation) → Holds old written last → Holds new (written ++ entries_from (last + 1) ops) after → bytes_in new ≡ bytes_in old + bytes_of ops
bytes_more old new written last after ops was now =
    sum_by-IsPermutation size (written ++ entries_from (last + 1) ops) new now.same
    ∙ sum_by-append size written (entries_from (last + 1) ops)
    ∙ (λ i. sym (sum_by-IsPermutation size written old was.same) i + entries_bytes (last + 1) ops i)
