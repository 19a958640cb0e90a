-- The first entry from a bound on, and of which key it tells.
use Rattle.std.proofs.Common.{◌≡◌, ℕ, Bool, true, false, cond, List, [], ◌∷◌, refl, sym, ◌∙◌, ap, subst, Option, Some, None}
use Rattle.std.specs.Prelude.{◌&&◌, find, nat_le}
use Rattle.std.specs.List.{AllByRecursion}
use Rattle.std.specs.Ordering.{is_eq, is_lt, nat_cmp, ordering_then}
use Rattle.std.specs.declared.cmp.Ordering.TheVariants.{Less}
use Rattle.std.proofs.lemmas.Bool.{false≢true}
use Rattle.bl_code.specs.Order.{bytes_cmp, bytes_lt}
use Rattle.bl_entry.specs.declared.key.Entry.{Entry}
use Rattle.bl_entry.specs.Entries.{AreInOrder, stands_before}
use Rattle.bl_entry.specs.Keys.{key_number}
use Rattle.bl_entry.specs.Latest.{is_seen, latest}
use Rattle.bl_entry.proofs.ListLemmas.{by_test}
use Rattle.bl_read.specs.declared.bound.Bound.{Bound}
use Rattle.bl_read.specs.Reading.{or_else}
use Rattle.bl_read.specs.Scanning.{is_reached, is_told_at, nearer}
use Rattle.bl_read.proofs.BoundLemmas.{Compared, before, behind, chain, compared, itself, lt_is, same, turned}

both : (a b : Bool) → (a && b) ≡ true → (a ≡ true) × (b ≡ true)
both true b h = (refl, h)
both false b h = absurd (false≢true h)

-- the entry is told of its user key, and nothing of those before it
pub record IsLeast (bound : Bound) (tells : List ℕ → Option Entry) (e : Entry) : Type 0 where
  pub reached : is_reached bound e.key.user ≡ true
  pub told : tells e.key.user ≡ Some e
  pub none_before : (k : List ℕ) → is_reached bound k ≡ true → bytes_cmp k e.key.user ≡ Less → tells k ≡ None

-- what is told first of the keys at a bound and behind it
abbrev pub IsFirst : Bound → (List ℕ → Option Entry) → Option Entry → Type 0
IsFirst bound tells None = (k : List ℕ) → is_reached bound k ≡ true → tells k ≡ None
IsFirst bound tells (Some e) = IsLeast bound tells e

pub same_first : (bound : Bound) (f g : List ℕ → Option Entry) (o : Option Entry) → ((k : List ℕ) → is_reached bound k ≡ true → g k ≡ f k) → IsFirst bound f o → IsFirst bound g o
same_first bound f g None is h = λ k r. is k r ∙ h k r
same_first bound f g (Some e) is h = record {
  reached = h.reached;
  told = is e.key.user h.reached ∙ h.told;
  none_before = λ k r l. is k r ∙ h.none_before k r l;
}

-- ---- in a list in order

module _ (seq : ℕ) where
  unlike : (k : List ℕ) (y : Entry) → bytes_cmp k y.key.user ≡ Less → is_seen k seq y ≡ false
  unlike k y l = ap (λ o. is_eq o && nat_le y.key.seq seq) (turned k y.key.user l)

  behind_by : (k : List ℕ) (x y : Entry) → bytes_cmp k x.key.user ≡ Less → stands_before y x ≡ false → Compared y.key.user x.key.user → bytes_cmp k y.key.user ≡ Less
  behind_by k x y l h (before e) = absurd (false≢true (sym h ∙ ap (λ o. is_lt (ordering_then o (nat_cmp (key_number x.key) (key_number y.key)))) e))
  behind_by k x y l h (same e) = ap (bytes_cmp k) e ∙ l
  behind_by k x y l h (behind e) = chain k x.key.user y.key.user l e

  none_seen : (k : List ℕ) (x : Entry) (ys : List Entry) → bytes_cmp k x.key.user ≡ Less → AllByRecursion (λ y. stands_before y x ≡ false) ys → latest k seq ys ≡ None
  none_seen k x [] l h = refl
  none_seen k x (y ∷ ys) l h =
      ap (λ b. cond b (Some y) (latest k seq ys)) (unlike k y (behind_by k x y l h.0 (compared y.key.user x.key.user))) ∙ none_seen k x ys l h.1

  module _ (bound : Bound) (x : Entry) (es : List Entry) where
    least : is_told_at bound seq x ≡ true → AllByRecursion (λ y. stands_before y x ≡ false) es → IsLeast bound (λ k. latest k seq (x ∷ es)) x
    least t h =
        let p = both (is_reached bound x.key.user) (nat_le x.key.seq seq) t in
        record {
          reached = p.0;
          told = ap (λ o. cond (is_eq o && nat_le x.key.seq seq) (Some x) (latest x.key.user seq es)) (itself x.key.user) ∙ ap (λ b. cond b (Some x) (latest x.key.user seq es)) p.1;
          none_before = λ k r l. ap (λ b. cond b (Some x) (latest k seq es)) (unlike k x l) ∙ none_seen k x es l h;
        }

    passed_by : is_told_at bound seq x ≡ false → (k : List ℕ) → is_reached bound k ≡ true → Compared k x.key.user → is_seen k seq x ≡ false
    passed_by f k r (before l) = unlike k x l
    passed_by f k r (same e) =
        let late : nat_le x.key.seq seq ≡ false = sym (ap (λ b. b && nat_le x.key.seq seq) (sym (ap (is_reached bound) e) ∙ r)) ∙ f in
        ap (λ o. is_eq o && nat_le x.key.seq seq) (ap (bytes_cmp x.key.user) e ∙ itself x.key.user) ∙ late
    passed_by f k r (behind l) = ap (λ o. is_eq o && nat_le x.key.seq seq) l

  pub first_of : (bound : Bound) (es : List Entry) → AreInOrder es → IsFirst bound (λ k. latest k seq es) (find (is_told_at bound seq) es)
  first_of bound [] o = λ k r. refl
  first_of bound (x ∷ es) o =
      by_test (is_told_at bound seq x)
      (λ t. subst (IsFirst bound (λ k. latest k seq (x ∷ es))) (sym (ap (λ b. cond b (Some x) (find (is_told_at bound seq) es)) t)) (least bound x es t o.0))
      (λ f. subst (IsFirst bound (λ k. latest k seq (x ∷ es))) (sym (ap (λ b. cond b (Some x) (find (is_told_at bound seq) es)) f))
      (same_first bound (λ k. latest k seq es) (λ k. latest k seq (x ∷ es)) (find (is_told_at bound seq) es)
      (λ k r. ap (λ b. cond b (Some x) (latest k seq es)) (passed_by bound x es f k r (compared k x.key.user))) (first_of bound es o.1)))

-- ---- of two that are told one before the other

not_before : (k n o : List ℕ) → bytes_cmp k n ≡ Less → bytes_lt o n ≡ false → Compared o n → bytes_cmp k o ≡ Less
not_before k n o l h (before e) = absurd (false≢true (sym h ∙ ap is_lt e))
not_before k n o l h (same e) = ap (bytes_cmp k) e ∙ l
not_before k n o l h (behind e) = chain k n o l e

module _ (bound : Bound) (f g : List ℕ → Option Entry) where
  abbrev pub either : List ℕ → Option Entry
  either k = or_else (f k) (g k)

  of_both : (k : List ℕ) → f k ≡ None → g k ≡ None → either k ≡ None
  of_both k p q = ap (λ o. or_else o (g k)) p ∙ q

  pub both_first : (a b : Option Entry) → IsFirst bound f a → IsFirst bound g b → IsFirst bound either (nearer a b)
  both_first None None p q = λ k r. of_both k (p k r) (q k r)
  both_first (Some n) None p q = record {
    reached = p.reached;
    told = ap (λ o. or_else o (g n.key.user)) p.told;
    none_before = λ k r l. of_both k (p.none_before k r l) (q k r);
  }
  both_first None (Some o) p q = record {
    reached = q.reached;
    told = ap (λ x. or_else x (g o.key.user)) (p o.key.user q.reached) ∙ q.told;
    none_before = λ k r l. of_both k (p k r) (q.none_before k r l);
  }
  both_first (Some n) (Some o) p q =
      by_test (bytes_lt o.key.user n.key.user)
      (λ t. subst (IsFirst bound either) (sym (ap (λ b. cond b (Some o) (Some n)) t)) (record {
        reached = q.reached;
        told = ap (λ x. or_else x (g o.key.user)) (p.none_before o.key.user q.reached (lt_is o.key.user n.key.user t)) ∙ q.told;
        none_before = λ k r l. of_both k (p.none_before k r (chain k o.key.user n.key.user l (lt_is o.key.user n.key.user t))) (q.none_before k r l);
      }))
      (λ h. subst (IsFirst bound either) (sym (ap (λ b. cond b (Some o) (Some n)) h)) (record {
        reached = p.reached;
        told = ap (λ x. or_else x (g n.key.user)) p.told;
        none_before = λ k r l. of_both k (p.none_before k r l) (q.none_before k r (not_before k n.key.user o.key.user l h (compared o.key.user n.key.user)));
      }))
