-- The numbers of the logs in a folder, as a walk goes over them.
use Rattle.std.proofs.Common.{◌≡◌, ℕ, zero, suc, ◌↔◌, ◌^◌, ◌<◌, List, [], ◌∷◌, true, false, refl, sym, ◌∙◌, ap, subst, arith, All, IsTrue, Some, None, IsSome, ◌⊎◌, inl, inr}
use Rattle.std.specs.Prelude.{◌||◌}
use Rattle.std.specs.List.{AllByRecursion}
use Rattle.std.specs.List.Sorted.{IsStrictlySortedBy}
use Rattle.std.specs.Ordering.{nat_cmp, is_eq}
use Rattle.std.specs.Cmp.{ranked}
use Rattle.std.specs.declared.cmp.Ordering.{Ordering}
use Rattle.std.specs.declared.cmp.Ordering.TheVariants.{Less, Equal, Greater}
use Rattle.std.specs.BTreeMap.{is_at}
use Rattle.std.proofs.lemmas.Bool.{or_right}
use Rattle.bl_code.proofs.Basics.{nat_cmp_less, nat_cmp_equal}
use Rattle.bl_site.specs.Disk.{Name, Folder}
use Rattle.bl_names.specs.Names.{IsNumber}
use Rattle.bl_wal.specs.LogFile.{log_name}
use Rattle.bl_logstore.specs.Listing.{IsWithin, is_in, AreLogNumbers, AreLogsAbove}

pub itself : (n : ℕ) → is_at (nat_cmp n) n ≡ true
itself n = elim (nat_cmp n n) as (λ o. nat_cmp n n ≡ o → is_eq o ≡ true) [
  | Less ↦ λ e. absurd (omega (arith, nat_cmp_less n n e))
  | Equal ↦ λ e. refl
  | Greater ↦ λ e. absurd (omega (arith, ranked n n Greater (sym e)))
] refl

other_number : (n k : ℕ) → k < n → is_at (nat_cmp n) k ≡ false
other_number n k lt = elim (nat_cmp n k) as (λ o. nat_cmp n k ≡ o → is_eq o ≡ false) [
  | Less ↦ λ e. refl
  | Equal ↦ λ e. absurd (omega (arith, lt, nat_cmp_equal n k e))
  | Greater ↦ λ e. refl
] refl

same_of : (o : Ordering) (n k : ℕ) → nat_cmp n k ≡ o → is_eq o ≡ true → n ≡ k
same_of Less n k e t = cc t
same_of Equal n k e t = nat_cmp_equal n k e
same_of Greater n k e t = cc t

-- a number is this one, or compares as another
pub same_number : (n q : ℕ) → (n ≡ q) ⊎ (is_at (nat_cmp n) q ≡ false)
same_number n q = elim (nat_cmp n q) as (λ o. nat_cmp n q ≡ o → (n ≡ q) ⊎ (is_eq o ≡ false)) [
  | Less ↦ λ e. inr refl
  | Equal ↦ λ e. inl (nat_cmp_equal n q e)
  | Greater ↦ λ e. inr refl
] refl

-- what holds of each that is among the numbers holds of all
pub each_in : (P : ℕ → Type 0) (keys : List ℕ) → ((n : ℕ) → IsTrue (is_in n keys) → P n) → AllByRecursion P keys
each_in P [] h = tt
each_in P (k ∷ keys) h = (
  h k (ap (λ b. b || is_in k keys) (itself k)),
  each_in P keys (λ n t. h n (or_right (is_at (nat_cmp n) k) (is_in n keys) t)),
)

pub both : (P Q : ℕ → Type 0) (keys : List ℕ) → AllByRecursion P keys → AllByRecursion Q keys → AllByRecursion (λ n. P n × Q n) keys
both P Q [] p q = tt
both P Q (k ∷ keys) p q = ((p.0, q.0), both P Q keys p.1 q.1)

-- all of them
pub begins : (names : List Name) (count : ℕ) (keys : List ℕ) (folder : Folder) → IsStrictlySortedBy nat_cmp keys → AreLogNumbers count names keys
    → ((name : Name) → IsWithin count names name ↔ IsSome (folder name)) → AreLogsAbove 0 keys folder
begins names count keys folder sorted logs listed = record {
  sorted = sorted;
  each = each_in (λ n. (0 < n) × IsNumber n × IsSome (folder (log_name n))) keys (λ n t. let l = (logs n).0 t in (omega (arith, l.0.0), l.0, (listed (log_name n)).0 l.1));
  all = λ n lt number some. (logs n).1 (number, (listed (log_name n)).1 some);
}

pub numbers_of : (names : List Name) (count : ℕ) (keys : List ℕ) → AreLogNumbers count names keys → All IsNumber keys
numbers_of names count keys logs = all_of IsNumber keys (each_in IsNumber keys (λ n t. ((logs n).0 t).0))
  where
    all_of : (P : ℕ → Type 0) (xs : List ℕ) → AllByRecursion P xs → All P xs
    all_of P [] h k d lt = absurd (omega (arith, lt))
    all_of P (x ∷ xs) h zero d lt = h.0
    all_of P (x ∷ xs) h (suc k) d lt = all_of P xs h.1 k d (omega (arith, lt))

sorted_rest : (k : ℕ) (keys : List ℕ) → IsStrictlySortedBy nat_cmp (k ∷ keys) → AllByRecursion (λ n. nat_cmp k n ≡ Less) keys × IsStrictlySortedBy nat_cmp keys
unfolding IsStrictlySortedBy
sorted_rest k keys s = s

raised : (k from : ℕ) (folder : Folder) (keys : List ℕ) → AllByRecursion (λ n. nat_cmp k n ≡ Less) keys → AllByRecursion (λ n. (from < n) × IsNumber n × IsSome (folder (log_name n))) keys
    → AllByRecursion (λ n. (k < n) × IsNumber n × IsSome (folder (log_name n))) keys
raised k from folder [] less each = tt
raised k from folder (n ∷ keys) less each = ((nat_cmp_less k n less.0, each.0.1, each.0.2), raised k from folder keys less.1 each.1)

-- the first of them is passed
pub passes : (from k : ℕ) (keys : List ℕ) (folder : Folder) → AreLogsAbove from (k ∷ keys) folder → AreLogsAbove k keys folder
passes from k keys folder a =
    let s = sorted_rest k keys a.sorted in
    record {
      sorted = s.1;
      each = raised k from folder keys s.0 a.each.1;
      all = λ n lt number some.
          let t : IsTrue (is_in n (k ∷ keys)) = a.all n (omega (arith, lt, a.each.0.0)) number some in
          subst (λ b. (b || is_in n keys) ≡ true) (other_number n k lt) t;
    }

below_least : (n : ℕ) (keys : List ℕ) (k : ℕ) → n < k → AllByRecursion (λ m. nat_cmp k m ≡ Less) keys → is_in n (k ∷ keys) ≡ false
below_least n keys k lt less = no_such n (k ∷ keys) (lt, later keys less)
  where
    no_such : (n : ℕ) (ms : List ℕ) → AllByRecursion (λ m. n < m) ms → is_in n ms ≡ false
    no_such n [] h = refl
    no_such n (m ∷ ms) h = ap (λ b. b || is_in n ms) (not_at m h.0) ∙ no_such n ms h.1
      where
        not_at : (m : ℕ) → n < m → is_at (nat_cmp n) m ≡ false
        not_at m lt = elim (nat_cmp n m) as (λ o. nat_cmp n m ≡ o → is_eq o ≡ false) [
          | Less ↦ λ e. refl
          | Equal ↦ λ e. absurd (omega (arith, lt, nat_cmp_equal n m e))
          | Greater ↦ λ e. refl
        ] refl

    later : (ms : List ℕ) → AllByRecursion (λ m. nat_cmp k m ≡ Less) ms → AllByRecursion (λ m. n < m) ms
    later [] h = tt
    later (m ∷ ms) h = (omega (arith, lt, nat_cmp_less k m h.0), later ms h.1)

absent : (folder : Folder) (n : ℕ) → (IsSome (folder (log_name n)) → ⊥) → folder (log_name n) ≡ None
absent folder n none = elim (folder (log_name n)) as (λ o. (IsSome o → ⊥) → o ≡ None) [ None ↦ λ h. refl | Some bytes ↦ λ h. absurd (h refl) ] none

-- between two of them there is no log
pub between : (from k : ℕ) (keys : List ℕ) (folder : Folder) → AreLogsAbove from (k ∷ keys) folder → (n : ℕ) → from < n → n < k → folder (log_name n) ≡ None
between from k keys folder a n lt less = absent folder n (λ some.
    let number : IsNumber n = (omega (arith, lt), omega (arith, less, a.each.0.1.1)) in
    let yes : is_in n (k ∷ keys) ≡ true = a.all n lt number some in
    cc (yes, below_least n keys k less (sorted_rest k keys a.sorted).0))

-- and behind the last
pub behind : (from : ℕ) (folder : Folder) → AreLogsAbove from [] folder → (n : ℕ) → from < n → n < 10 ^ 15 → folder (log_name n) ≡ None
behind from folder a n lt less = absent folder n (λ some. let yes : is_in n [] ≡ true = a.all n lt (omega (arith, lt), less) some in cc yes)
