-- The logs of a folder from a number on.
use Rattle.std.proofs.Common.{◌≡◌, ℕ, zero, suc, ◌-◌, ◌<◌, ◌≤◌, Bool, true, false, List, [], ◌∷◌, length, take, drop, get_or, refl, sym, ◌∙◌, ap, arith, IsSome, All, inl, inr}
use Rattle.std.specs.Prelude.{Contains, nat_lt}
use Rattle.std.specs.List.{AllByRecursion}
use Rattle.std.specs.List.Sorted.{IsPartitionPoint, IsPartitionedBy, IsStrictlySortedBy}
use Rattle.std.specs.Ordering.{nat_cmp}
use Rattle.bl_site.specs.Disk.{Folder}
use Rattle.bl_names.specs.Names.{IsNumber}
use Rattle.bl_wal.specs.LogFile.{log_name}
use Rattle.bl_open.proofs.ReplayLemmas.{first_or_other, greater}
use Rattle.bl_open.specs.Listing.{AreLogs}
use Rattle.bl_open.specs.Replaying.{AreLogsFrom}

is_below : ℕ → ℕ → Bool
is_below from n = nat_lt n from

-- what holds at each place holds of all
by_place : (P : ℕ → Type 0) (xs : List ℕ) → ((k d : ℕ) → k < length xs → P (get_or xs k d)) → AllByRecursion P xs
by_place P [] h = tt
by_place P (x ∷ xs) h = (h 0 0 (omega arith), by_place P xs (λ k d lt. h (suc k) d (omega (arith, lt))))

all_above : (x : ℕ) (xs : List ℕ) → AllByRecursion (λ n. x < n) xs → (k d : ℕ) → k < length xs → x < get_or xs k d
all_above x [] h k d lt = absurd (omega (arith, lt))
all_above x (y ∷ ys) h zero d lt = h.0
all_above x (y ∷ ys) h (suc k) d lt = all_above x ys h.1 k d (omega (arith, lt))

below_true : (from n : ℕ) → n < from → nat_lt n from ≡ true
below_true from n lt = grind (arith, lt)

true_below : (from n : ℕ) → nat_lt n from ≡ true → n < from
true_below from n e = grind (arith, e)

false_above : (from n : ℕ) → nat_lt n from ≡ false → from ≤ n
false_above from n e = grind (arith, e)

pub parted : (from : ℕ) (xs : List ℕ) → IsStrictlySortedBy nat_cmp xs → IsPartitionedBy (λ n. nat_lt n from) xs
parted from [] s i j d le lt t = absurd (omega (arith, lt))
parted from (x ∷ xs) s zero zero d le lt t = t
parted from (x ∷ xs) s zero (suc j) d le lt t =
    let above : x < get_or xs j d = all_above x xs (greater x xs s).0 j d (omega (arith, lt)) in
    let less : get_or xs j d < from = true_below from (get_or xs j d) t in
    below_true from x (omega (arith, above, less))
parted from (x ∷ xs) s (suc i) zero d le lt t = absurd (omega (arith, le))
parted from (x ∷ xs) s (suc i) (suc j) d le lt t = parted from xs (greater x xs s).1 i j d (omega (arith, le)) (omega (arith, lt)) t

-- what is left behind the place
record Left (P : ℕ → Type 0) (from : ℕ) (xs ys : List ℕ) : Type 0 where
  pub ascend : IsStrictlySortedBy nat_cmp ys
  pub each : AllByRecursion (λ n. (from ≤ n) × P n) ys
  pub all : (n : ℕ) → from ≤ n → Contains xs n → Contains ys n

both_hold : (P Q : ℕ → Type 0) (xs : List ℕ) → AllByRecursion P xs → AllByRecursion Q xs → AllByRecursion (λ n. P n × Q n) xs
both_hold P Q [] p q = tt
both_hold P Q (x ∷ xs) p q = ((p.0, q.0), both_hold P Q xs p.1 q.1)

left_from : (P : ℕ → Type 0) (from : ℕ) (xs : List ℕ) (k : ℕ) → k ≤ length xs → IsPartitionPoint (λ n. nat_lt n from ≡ true) (λ n. nat_lt n from ≡ false) xs k → IsStrictlySortedBy nat_cmp xs → AllByRecursion P xs → Left P from xs (drop k xs)
left_from P from [] zero le h s each = record { ascend = s; each = tt; all = λ n a c. c }
left_from P from [] (suc k) le h s each = absurd (omega (arith, le))
left_from P from (x ∷ xs) zero le h s each = record {
  ascend = s;
  each = both_hold (λ n. from ≤ n) P (x ∷ xs) (by_place (λ n. from ≤ n) (x ∷ xs) (λ k d lt. false_above from (get_or (x ∷ xs) k d) (h.1 k d (omega arith) lt))) each;
  all = λ n a c. c;
}
left_from P from (x ∷ xs) (suc k) le h s each =
    let low : x < from = true_below from x (h.0 0 x (omega arith) (omega arith)) in
    let rest = left_from P from xs k (omega (arith, le)) ((λ i d lt less. h.0 (suc i) d (omega (arith, lt)) (omega (arith, less))), (λ i d at less. h.1 (suc i) d (omega (arith, at)) (omega (arith, less)))) (greater x xs s).1 each.1 in
    record {
      ascend = rest.ascend;
      each = rest.each;
      all = λ n a c. elim (first_or_other n x xs c) [
        | inl same ↦ absurd (omega (arith, a, low, same))
        | inr there ↦ rest.all n a there
      ];
    }

take_whole : (xs : List ℕ) → take (length xs) xs ≡ xs
take_whole [] = refl
take_whole (x ∷ xs) = ap (λ ys. x ∷ ys) (take_whole xs)

long_drop : (xs : List ℕ) (k : ℕ) → length (drop k xs) ≡ length xs - k
long_drop [] zero = refl
long_drop [] (suc k) = omega arith
long_drop (x ∷ xs) zero = omega arith
long_drop (x ∷ xs) (suc k) = let more = long_drop xs k in omega (arith, more)

pub rest_is : (xs : List ℕ) (k : ℕ) → take (length xs - k) (drop k xs) ≡ drop k xs
rest_is xs k = ap (λ n. take n (drop k xs)) (sym (long_drop xs k)) ∙ take_whole (drop k xs)

all_by : (P : ℕ → Type 0) (xs : List ℕ) → All P xs → AllByRecursion P xs
all_by P [] h = tt
all_by P (x ∷ xs) h = (h 0 x (omega arith), all_by P xs (λ k d lt. h (suc k) d (omega (arith, lt))))

pub logs_from : (folder : Folder) (from : ℕ) (xs : List ℕ) (k : ℕ) → k ≤ length xs → IsPartitionPoint (λ n. nat_lt n from ≡ true) (λ n. nat_lt n from ≡ false) xs k → AreLogs folder xs → AreLogsFrom folder from (drop k xs)
logs_from folder from xs k le point logs =
    let left = left_from (λ n. IsNumber n × IsSome (folder (log_name n))) from xs k le point logs.ascend (all_by (λ n. IsNumber n × IsSome (folder (log_name n))) xs logs.each) in
    record {
      ascend = left.ascend;
      each = flat (drop k xs) left.each;
      all = λ n a is some. left.all n a (logs.all n is some);
    }
  where
    flat : (ys : List ℕ) → AllByRecursion (λ n. (from ≤ n) × (IsNumber n × IsSome (folder (log_name n)))) ys → AllByRecursion (λ n. (from ≤ n) × IsNumber n × IsSome (folder (log_name n))) ys
    flat [] h = tt
    flat (y ∷ ys) h = ((h.0.0, h.0.1.0, h.0.1.1), flat ys h.1)
