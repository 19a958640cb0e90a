-- The place of a key among ascending entries.
use Rattle.std.proofs.Common.{◌≡◌, ℕ, zero, suc, ◌≤◌, ◌<◌, Bool, true, false, List, [], ◌∷◌, length, map, get_or, sym, ap, arith}
use Rattle.std.specs.List.{AllByRecursion, prefix_len}
use Rattle.std.specs.List.Sorted.{IsPartitionedBy, IsPartitionPoint, IsStrictlySortedBy}
use Rattle.std.specs.Cmp.{IsTotalOrder, on_total, back_total, then_total, nat_cmp_total}
use Rattle.std.specs.Cmp.Lexicographic.{nat_list_cmp_total}
use Rattle.std.specs.Ordering.{is_lt}
use Rattle.std.specs.declared.cmp.Ordering.TheVariants.{Less}
use Rattle.std.proofs.lemmas.List.Sums.{prefix_len_is}
use Rattle.bl_code.proofs.Basics.{less_is}
use Rattle.bl_entry.specs.declared.key.Entry.{Entry}
use Rattle.bl_entry.specs.Entries.{IsAscending}
use Rattle.bl_entry.specs.Keys.{Key, key_cmp, key_number}

key_total : IsTotalOrder key_cmp
key_total = then_total (on_total (λ (k : Key). k.user) nat_list_cmp_total) (back_total (on_total key_number nat_cmp_total))

module _ (from : Key) where
  pub before : Entry → Bool
  before e = is_lt (key_cmp e.key from)

  each_behind : (x : Entry) (es : List Entry) (j : ℕ) (d : Entry) → AllByRecursion (λ k. key_cmp x.key k ≡ Less) (map (λ e. e.key) es) → j < length es → key_cmp x.key (get_or es j d).key ≡ Less
  each_behind x [] j d h lt = absurd (omega arith)
  each_behind x (y ∷ es) zero d h lt = h.0
  each_behind x (y ∷ es) (suc j) d h lt = each_behind x es j d h.1 (omega arith)

  pub parted : (es : List Entry) → IsAscending es → IsPartitionedBy (λ e. is_lt (key_cmp e.key from)) es
  unfolding IsStrictlySortedBy
  parted [] up i j d le lt t = absurd (omega arith)
  parted (x ∷ es) up zero zero d le lt t = t
  parted (x ∷ es) up zero (suc j) d le lt t =
      ap is_lt (key_total.trans x.key (get_or es j d).key from (each_behind x es j d up.0 (omega arith)) (less_is (key_cmp (get_or es j d).key from) t))
  parted (x ∷ es) up (suc i) zero d le lt t = absurd (omega arith)
  parted (x ∷ es) up (suc i) (suc j) d le lt t = parted es up.1 i j d (omega arith) (omega arith) t

-- the place that a search finds is the length of the part that passes
pub point_is : {A : Type 0} (p : A → Bool) (xs : List A) (n : ℕ) → n ≤ length xs → IsPartitionPoint (λ y. p y ≡ true) (λ y. p y ≡ false) xs n → n ≡ prefix_len p xs
point_is p [] n le h = omega arith
point_is p (x ∷ xs) n le h =
    sym (prefix_len_is p (x ∷ xs) n x le (λ k lt. h.0 k x (omega arith) lt) (λ lt. h.1 n x (omega arith) lt))
