-- The plans that are due fit the version.
use Rattle.std.proofs.Common.{◌≡◌, ◌≢◌, ℕ, ◌+◌, ◌-◌, ◌*◌, ◌/◌, ◌^◌, ◌<◌, ◌≤◌, nat_lt, Bool, true, false, cond, List, [], ◌∷◌, length, refl, sym, ◌∙◌, ap, subst, arith, Some, inl, inr}
use Rattle.std.specs.Prelude.{◌⊎◌, ◌==◌, ◌&&◌, ◌||◌, filter, nat_le, slice_get, sum_by, Contains, IsTrue}
use Rattle.std.specs.List.{AllByRecursion}
use Rattle.std.proofs.Math.Nat.{zero-div}
use Rattle.std.proofs.lemmas.Bool.{false≢true, eqb-true, eq-eqb, ltb-true, ltb-false, leb-true}
use Rattle.bl_edit.specs.Bounds.{is_key, is_level, is_number, is_seq, table_fits}
use Rattle.bl_edit.specs.Options.{Values}
use Rattle.bl_edit.specs.declared.edit.NewTable.{NewTable}
use Rattle.bl_build.specs.Listing.{Ascends, Listing, at_level}
use Rattle.bl_build.specs.Versions.{IsVersion, has_same_number, table_numbers}
use Rattle.bl_compacted.specs.Pairs.{Pairwise}
use Rattle.bl_pick.specs.Picking.{hull_overlaps}
use Rattle.bl_pick.specs.Picking as pick
use Rattle.bl_pick.specs.declared.kinds.Due.TheVariants.{Idle, Level, Collect}
use Rattle.bl_compacted.specs.Plans.{IsPlan}
use Rattle.bl_compacted.specs.Laws.{DuePlansFit, FitsVersion, FullPlansFit}
use Rattle.bl_compacted.proofs.Finding.{some_is}
use Rattle.bl_compacted.proofs.Lists.{In, all_in, by_test, in_all, in_append, in_filtered, in_filter, in_map, pairs_filter, pairs_join, to_contains}
use Rattle.bl_compacted.proofs.PickLemmas.{in_with, of_numbers}
use Rattle.bl_compacted.proofs.ValueLemmas.{and_parts}
use Rattle.bl_compacted.proofs.SoundLemmas.{distinct_pairs}

-- ---- numbers in order

ascends_with : (n : ℕ) (ms : List ℕ) → Ascends (λ m. m) ms → AllByRecursion (λ m. m ≢ n) ms → Ascends (λ m. m) (pick.with_number n ms)
ascends_with n [] up h = (tt, tt)
ascends_with n (k ∷ ms) up h =
    by_test (nat_lt k n)
    (λ t.
    let lt : k < n = ltb-true k n t in
    subst (Ascends (λ m. m)) (sym (ap (λ b. cond b (k ∷ pick.with_number n ms) (n ∷ k ∷ ms)) t))
    (all_in (λ m. k < m) (pick.with_number n ms) (λ m i. by lt m (in_with n m ms i)), ascends_with n ms up.1 h.1))
    (λ t.
    let le : n ≤ k = ltb-false k n t in
    let lt : n < k = less n k le h.0 in
    subst (Ascends (λ m. m)) (sym (ap (λ b. cond b (k ∷ pick.with_number n ms) (n ∷ k ∷ ms)) t))
    ((lt, all_in (λ m. n < m) ms (λ m i. let q : k < m = in_all (λ m. k < m) m ms up.0 i in omega arith)), up))
  where
    less : (a b : ℕ) → a ≤ b → b ≢ a → a < b
    less a b le ne = omega arith

    by : k < n → (m : ℕ) → (n ≡ m) ⊎ In m ms → k < m
    by lt m (inl e) = omega arith
    by lt m (inr i) = in_all (λ w. k < w) m ms up.0 i

abbrev Other : NewTable → NewTable → Type 0
Other a b = a.number ≢ b.number

numbers_ascend : (ts : List NewTable) → Pairwise Other ts → Ascends (λ m. m) (pick.numbers_of ts)
numbers_ascend [] p = tt
numbers_ascend (t ∷ ts) p =
    ascends_with t.number (pick.numbers_of ts) (numbers_ascend ts p.1)
    (all_in (λ m. m ≢ t.number) (pick.numbers_of ts) (λ m i e. let u = of_numbers m ts i in in_all (Other t) u.0 ts p.0 u.1 (sym e ∙ sym u.2)))

with_some : (n : ℕ) (ms : List ℕ) → 1 ≤ length (pick.with_number n ms)
with_some n [] = omega arith
with_some n (k ∷ ms) = elim (nat_lt k n) as (λ b. 1 ≤ length (cond b (k ∷ pick.with_number n ms) (n ∷ k ∷ ms))) [ true ↦ omega arith | false ↦ omega arith ]

some_numbers : (ts : List NewTable) (t : NewTable) → In t ts → 1 ≤ length (pick.numbers_of ts)
some_numbers [] t i = absurd i
some_numbers (u ∷ us) t i = with_some u.number (pick.numbers_of us)

-- ---- tables of a version

module _ (v : Listing) (version : IsVersion v) where
  all_other : Pairwise Other v.tables
  all_other = others v.tables (distinct_pairs has_same_number v.tables version.tables_once)
    where
      others : (ts : List NewTable) → Pairwise (λ a b. has_same_number a b ≡ false) ts → Pairwise Other ts
      others [] p = tt
      others (t ∷ ts) p = (all_in (Other t) ts (λ u i e. false≢true (sym (in_all (λ u. has_same_number t u ≡ false) u ts p.0 i) ∙ eq-eqb t.number u.number e)), others ts p.1)

  -- a plan for some of them
  fits : (snapshots : List ℕ) (cut : ℕ) (ts : List NewTable) (low out : ℕ) → ((m : NewTable) → In m ts → In m v.tables) → Pairwise Other ts → (t : NewTable) → In t ts → out ≤ 6 → FitsVersion v (pick.plan_of v snapshots cut ts low out)
  fits snapshots cut ts low out sub others t i level = record {
    inputs = all_in (λ n. Contains (table_numbers v.tables) n) (pick.numbers_of ts) (λ n k. let u = of_numbers n ts k in to_contains n (table_numbers v.tables) (subst (λ (m : ℕ). In m (table_numbers v.tables)) u.2 (in_map (λ (w : NewTable). w.number) u.0 v.tables (sub u.0 u.1))));
    ascend = numbers_ascend ts others;
    some = some_numbers ts t i;
    level = level;
  }

  first_others : (ts : List NewTable) → Pairwise Other (pick.first_of ts)
  first_others [] = tt
  first_others (t ∷ ts) = (tt, tt)

  sink_others : (n : ℕ) → Pairwise Other (pick.sinking v n)
  sink_others n = elim (n == 0) as (λ b. Pairwise Other (cond b (at_level 0 v.tables) (pick.first_of (at_level n v.tables)))) [ true ↦ pairs_filter Other (λ t. t.level == 0) v.tables all_other | false ↦ first_others (at_level n v.tables) ]

  of_first : (ts : List NewTable) (m : NewTable) → In m (pick.first_of ts) → In m ts
  of_first [] m i = i
  of_first (t ∷ ts) m (inl e) = inl e
  of_first (t ∷ ts) m (inr i) = absurd i

  of_sinking : (n : ℕ) (m : NewTable) → In m (pick.sinking v n) → In m v.tables × (m.level ≡ n)
  of_sinking n m i = by (n == 0) refl i
    where
      at : (k : ℕ) → In m (at_level k v.tables) → In m v.tables × (m.level ≡ k)
      at k q = let f = in_filtered (λ (t : NewTable). t.level == k) m v.tables q in (f.0, eqb-true m.level k f.1)

      by : (b : Bool) → (n == 0) ≡ b → In m (cond b (at_level 0 v.tables) (pick.first_of (at_level n v.tables))) → In m v.tables × (m.level ≡ n)
      by true e k = let l = at 0 k in (l.0, l.1 ∙ sym (eqb-true n 0 e))
      by false e k = at n (of_first (at_level n v.tables) m k)

  of_next : (n : ℕ) (m : NewTable) → In m (filter (hull_overlaps (pick.sinking v n)) (at_level (n + 1) v.tables)) → In m v.tables × (m.level ≡ n + 1)
  of_next n m i =
      let f = in_filtered (λ (t : NewTable). t.level == n + 1) m v.tables (in_filtered (hull_overlaps (pick.sinking v n)) m (at_level (n + 1) v.tables) i).0 in
      (f.0, eqb-true m.level (n + 1) f.1)

  one_other : (a b : NewTable) → In a v.tables → In b v.tables → a.level ≢ b.level → Other a b
  one_other a b i k ne e = by (Rattle.bl_compacted.proofs.Lists.in_pairs Other a b v.tables all_other i k)
    where
      by : (a ≡ b) ⊎ (Other a b ⊎ Other b a) → ⊥
      by (inl is) = ne (ap (λ (w : NewTable). w.level) is)
      by (inr (inl o)) = o e
      by (inr (inr o)) = o (sym e)

  next_fits : (snapshots : List ℕ) (cut n : ℕ) (t : NewTable) → In t (pick.sinking v n) → n ≤ 5 → FitsVersion v (pick.plan_of v snapshots cut (pick.with_next v n (pick.sinking v n)) n (n + 1))
  next_fits snapshots cut n t i small =
      fits snapshots cut (pick.with_next v n (pick.sinking v n)) n (n + 1) sub
      (pairs_join Other (pick.sinking v n) below (sink_others n) (pairs_filter Other (hull_overlaps (pick.sinking v n)) (at_level (n + 1) v.tables) (pairs_filter Other (λ u. u.level == n + 1) v.tables all_other))
      (all_in (λ a. AllByRecursion (Other a) below) (pick.sinking v n) (λ a k.
      all_in (Other a) below (λ b q.
      let x = of_sinking n a k in
      let y = of_next n b q in
      one_other a b x.0 y.0 (λ e. let p : a.level ≡ n = x.1 in let r : b.level ≡ n + 1 = y.1 in absurd (omega arith))))))
      t (Rattle.bl_compacted.proofs.Lists.in_append_left t (pick.sinking v n) below i) (omega arith)
    where
      below : List NewTable
      below = filter (hull_overlaps (pick.sinking v n)) (at_level (n + 1) v.tables)

      sub : (m : NewTable) → In m (pick.with_next v n (pick.sinking v n)) → In m v.tables
      sub m k = by (in_append m (pick.sinking v n) (filter (hull_overlaps (pick.sinking v n)) (at_level (n + 1) v.tables)) k)
        where
          by : In m (pick.sinking v n) ⊎ In m (filter (hull_overlaps (pick.sinking v n)) (at_level (n + 1) v.tables)) → In m v.tables
          by (inl q) = (of_sinking n m q).0
          by (inr q) = (of_next n m q).0

  level_small : (t : NewTable) → In t v.tables → t.level ≤ 6
  level_small t i =
      let f : IsTrue (table_fits t) = in_all (λ (u : NewTable). IsTrue (table_fits u)) t v.tables version.tables_fit i in
      let a1 = and_parts (is_level t.level && is_number t.number && is_key t.smallest && is_key t.largest && is_seq t.least_seq && is_seq t.most_seq) ((t.oldest_blob == 0) || is_number t.oldest_blob) f in
      let a2 = and_parts (is_level t.level && is_number t.number && is_key t.smallest && is_key t.largest && is_seq t.least_seq) (is_seq t.most_seq) a1.0 in
      let a3 = and_parts (is_level t.level && is_number t.number && is_key t.smallest && is_key t.largest) (is_seq t.least_seq) a2.0 in
      let a4 = and_parts (is_level t.level && is_number t.number && is_key t.smallest) (is_key t.largest) a3.0 in
      let a5 = and_parts (is_level t.level && is_number t.number) (is_key t.smallest) a4.0 in
      let a6 = and_parts (is_level t.level) (is_number t.number) a5.0 in
      leb-true t.level 6 a6.0

  one_fits : (snapshots : List ℕ) (cut : ℕ) (t : NewTable) → In t v.tables → FitsVersion v (pick.plan_of v snapshots cut (t ∷ []) t.level t.level)
  one_fits snapshots cut t i = fits snapshots cut (t ∷ []) t.level t.level (λ m k. only m k) (tt, tt) t (inl refl) (level_small t i)
    where
      only : (m : NewTable) → In m (t ∷ []) → In m v.tables
      only m (inl e) = subst (λ (x : NewTable). In x v.tables) e i
      only m (inr k) = absurd k

  deep_small : (ts : List NewTable) → ((m : NewTable) → In m ts → In m v.tables) → pick.deepest ts ≤ 6
  deep_small [] sub = omega arith
  deep_small (t ∷ ts) sub =
      let here : t.level ≤ 6 = level_small t (sub t (inl refl)) in
      let more : pick.deepest ts ≤ 6 = deep_small ts (λ m i. sub m (inr i)) in
      omega arith

  all_fit : (snapshots : List ℕ) (cut low : ℕ) (t : NewTable) → In t v.tables → FitsVersion v (pick.plan_of v snapshots cut v.tables low (pick.deepest v.tables))
  all_fit snapshots cut low t i = fits snapshots cut v.tables low (pick.deepest v.tables) (λ m k. k) all_other t i (deep_small v.tables (λ m k. k))

-- ---- the fullest level

better_small : (v : Listing) (o : Values) (a b k : ℕ) → a ≤ k → b ≤ k → pick.fuller v o a b ≤ k
better_small v o a b k p q = elim (nat_lt (pick.score v o a) (pick.score v o b)) as (λ c. cond c b a ≤ k) [ true ↦ q | false ↦ p ]

fullest_small : (v : Listing) (o : Values) → pick.fullest v o ≤ 5
fullest_small v o =
    better_small v o _ 5 5 (better_small v o _ 4 5 (better_small v o _ 3 5 (better_small v o _ 2 5 (better_small v o 0 1 5 (omega arith) (omega arith)) (omega arith)) (omega arith)) (omega arith)) (omega arith)

zero_over : (n : ℕ) → 0 / n ≡ 0
zero_over n = zero-div n

-- a level without tables is not full
full_sinks : (v : Listing) (o : Values) (n : ℕ) → nat_le 100 (pick.score v o n) ≡ true → (t : NewTable) × In t (pick.sinking v n)
full_sinks v o n h = by (n == 0) refl
  where
    zero_score : pick.score v o n ≡ 0 → ⊥
    zero_score z = let le : 100 ≤ pick.score v o n = leb-true 100 (pick.score v o n) h in absurd (omega arith)

    first : (ts : List NewTable) → (ts ≡ [] → ⊥) → (t : NewTable) × In t (pick.first_of ts)
    first [] some = absurd (some refl)
    first (t ∷ ts) some = (t, inl refl)

    any : (ts : List NewTable) → (ts ≡ [] → ⊥) → (t : NewTable) × In t ts
    any [] some = absurd (some refl)
    any (t ∷ ts) some = (t, inl refl)

    by : (b : Bool) → (n == 0) ≡ b → (t : NewTable) × In t (pick.sinking v n)
    by true e =
        let some : at_level 0 v.tables ≡ [] → ⊥ = λ none. zero_score (ap (λ c. cond c (100 * length (at_level 0 v.tables) / o.level0_trigger) (100 * sum_by (λ t. t.size) (at_level n v.tables) / (o.level_base * o.level_factor ^ (n - 1)))) e ∙ ap (λ (ts : List NewTable). 100 * length ts / o.level0_trigger) none ∙ zero_over o.level0_trigger) in
        let t = any (at_level 0 v.tables) some in
        (t.0, subst (λ b. In t.0 (cond b (at_level 0 v.tables) (pick.first_of (at_level n v.tables)))) (sym e) t.1)
    by false e =
        let some : at_level n v.tables ≡ [] → ⊥ = λ none. zero_score (ap (λ c. cond c (100 * length (at_level 0 v.tables) / o.level0_trigger) (100 * sum_by (λ t. t.size) (at_level n v.tables) / (o.level_base * o.level_factor ^ (n - 1)))) e ∙ ap (λ (ts : List NewTable). 100 * sum_by (λ t. t.size) ts / (o.level_base * o.level_factor ^ (n - 1))) none ∙ zero_over (o.level_base * o.level_factor ^ (n - 1))) in
        let t = first (at_level n v.tables) some in
        (t.0, subst (λ b. In t.0 (cond b (at_level 0 v.tables) (pick.first_of (at_level n v.tables)))) (sym e) t.1)

-- ---- the laws

pub due_fits : DuePlansFit
unfolding pick.due
due_fits v options true snapshots plan version is = absurd is
due_fits v options false snapshots plan version is = by_level (nat_le 100 (pick.score v options (pick.fullest v options))) refl is
  where
    next : (n : ℕ) (t : NewTable) → In t (pick.sinking v n) → n ≤ 5 → pick.level_plan v snapshots (pick.cutoff v.blobs options.age_cutoff) n ≡ plan → FitsVersion v plan
    next n t i small e = subst (FitsVersion v) e (next_fits v version snapshots (pick.cutoff v.blobs options.age_cutoff) n t i small)

    one : (t : NewTable) (b : Bool) → (t.level == 0) ≡ b → In t v.tables
        → IsPlan (cond b (Collect (pick.level_plan v snapshots (pick.cutoff v.blobs options.age_cutoff) 0)) (Collect (pick.plan_of v snapshots (pick.cutoff v.blobs options.age_cutoff) (t ∷ []) t.level t.level))) plan → FitsVersion v plan
    one t true z i e = next 0 t (in_filter (λ (u : NewTable). u.level == 0) t v.tables i z) (omega arith) e
    one t false z i e = subst (FitsVersion v) e (one_fits v version snapshots (pick.cutoff v.blobs options.age_cutoff) t i)

    rewrite_ : (ts : List NewTable) → ((m : NewTable) → In m ts → In m v.tables) → IsPlan (pick.rewrite_plan v snapshots (pick.cutoff v.blobs options.age_cutoff) ts) plan → FitsVersion v plan
    rewrite_ [] sub e = absurd e
    rewrite_ (t ∷ ts) sub e = one t (t.level == 0) refl (sub t (inl refl)) e

    by_force : (b : Bool) → IsPlan (cond b (pick.rewrite_plan v snapshots (pick.cutoff v.blobs options.age_cutoff) (pick.linked_to v (pick.number_of (slice_get v.blobs 0)))) Idle) plan → FitsVersion v plan
    by_force true e = rewrite_ (pick.linked_to v (pick.number_of (slice_get v.blobs 0))) (λ m i. (in_filtered (λ (t : NewTable). t.oldest_blob == pick.number_of (slice_get v.blobs 0)) m v.tables i).0) e
    by_force false e = absurd e

    by_level : (b : Bool) → nat_le 100 (pick.score v options (pick.fullest v options)) ≡ b → IsPlan (cond b (Level (pick.level_plan v snapshots (pick.cutoff v.blobs options.age_cutoff) (pick.fullest v options))) (pick.collection v options snapshots)) plan → FitsVersion v plan
    by_level true h e = let t = full_sinks v options (pick.fullest v options) h in next (pick.fullest v options) t.0 t.1 (fullest_small v options) e
    by_level false h e = by_force (pick.is_forced v options (pick.oldest_batch v.blobs)) e

pub full_fits : FullPlansFit
unfolding pick.full_plan
full_fits v snapshots plan version is = by v.tables refl is
  where
    by : (ts : List NewTable) → v.tables ≡ ts → pick.full_plan_of v snapshots ts ≡ Some plan → FitsVersion v plan
    by [] e p = absurd cc
    by (t ∷ ts) e p =
        subst (FitsVersion v) (some_is p)
        (subst (λ (ws : List NewTable). FitsVersion v (pick.plan_of v snapshots pick.no_file ws t.level (pick.deepest ws))) e
        (all_fit v version snapshots pick.no_file t.level t (subst (In t) (sym e) (inl refl))))
