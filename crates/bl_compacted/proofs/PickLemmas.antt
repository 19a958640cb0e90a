-- The plans that are due may be carried out.
use Rattle.std.proofs.Common.{◌≡◌, ℕ, ◌+◌, ◌-◌, ◌<◌, ◌≤◌, ◌^◌, nat_lt, Bool, true, false, cond, List, [], ◌∷◌, refl, sym, ◌∙◌, ap, subst, arith, Some, inl, inr}
use Rattle.std.specs.Prelude.{◌⊎◌, ◌==◌, ◌&&◌, not, filter, nat_le, slice_get}
use Rattle.std.specs.List.{AllByRecursion, list_any}
use Rattle.std.specs.Cmp.Lexicographic.{nat_list_cmp_total}
use Rattle.std.specs.Ordering.{is_le, ordering_reverse}
use Rattle.std.specs.declared.cmp.Ordering.{Ordering}
use Rattle.std.specs.declared.cmp.Ordering.TheVariants.{Less, Equal, Greater}
use Rattle.std.proofs.lemmas.Bool.{false≢true, eqb-true, eq-eqb, lt-ltb, cases_eq}
use Rattle.bl_code.specs.Order.{bytes_cmp, bytes_le}
use Rattle.bl_edit.specs.declared.edit.NewTable.{NewTable}
use Rattle.bl_build.specs.Listing.{Listing, at_level}
use Rattle.bl_build.specs.Versions.{clash, first_user, has_same_number, last_user, overlap}
use Rattle.bl_entry.specs.declared.key.Entry.{Entry}
use Rattle.bl_out.specs.Tables.{TableFile, IsAsNamed}
use Rattle.bl_compacted.specs.Plans.{IsBeside, IsClosed, IsNewer, inputs_of, is_input, staying}
use Rattle.bl_build.specs.declared.plan.CompactionPlan.{CompactionPlan as Plan}
use Rattle.bl_pick.specs.Picking.{hull_overlaps}
use Rattle.bl_pick.specs.Picking as pick
use Rattle.bl_pick.specs.declared.kinds.Due.TheVariants.{Idle, Level, Collect}
use Rattle.bl_compacted.specs.Plans.{IsPlan}
use Rattle.bl_folder.specs.Flushes.{metas}
use Rattle.bl_compacted.specs.Outputs.{IsRanged}
use Rattle.bl_compacted.specs.Laws.{AreTablesOf, DuePlansAreClosed, FullPlansAreClosed, FlushesKeepClosed, IsFlushed}
use Rattle.bl_compacted.proofs.Finding.{some_is}
use Rattle.bl_compacted.proofs.Lists.{In, all_in, any_in, back, by_test, in_all, in_any, in_append, in_append_left, in_append_right, in_filter, in_filtered, in_map, in_pairs, of_map, shuffled_in}
use Rattle.bl_compacted.proofs.ValueLemmas.{and_both, and_parts}
use Rattle.bl_compacted.proofs.LevelLemmas.{bytes_trans}
use Rattle.bl_compacted.proofs.SoundLemmas.{distinct_pairs, first_there, no_clash_flip}

-- ---- byte strings

le_other : (a b : List ℕ) → bytes_le a b ≡ false → bytes_le b a ≡ true
le_other a b h = ap is_le (nat_list_cmp_total.antisymm b a) ∙ by (bytes_cmp a b) h
  where
    by : (o : Ordering) → is_le o ≡ false → is_le (ordering_reverse o) ≡ true
    by Less e = absurd (false≢true (sym e))
    by Equal e = absurd (false≢true (sym e))
    by Greater e = refl

-- ---- hulls

abbrev Hull : List NewTable → NewTable → Type 0
Hull ts u = ((a : NewTable) × In a ts × (bytes_le (first_user a) (last_user u) ≡ true)) × ((b : NewTable) × In b ts × (bytes_le (first_user u) (last_user b) ≡ true))

hull_parts : (ts : List NewTable) (u : NewTable) → hull_overlaps ts u ≡ true → Hull ts u
hull_parts ts u h =
    let p = and_parts (list_any (λ t. bytes_le (first_user t) (last_user u)) ts) (list_any (λ t. bytes_le (first_user u) (last_user t)) ts) h in
    (any_in (λ t. bytes_le (first_user t) (last_user u)) ts p.0, any_in (λ t. bytes_le (first_user u) (last_user t)) ts p.1)

hull_made : (ts : List NewTable) (u : NewTable) → Hull ts u → hull_overlaps ts u ≡ true
hull_made ts u (a, b) =
    and_both (list_any (λ t. bytes_le (first_user t) (last_user u)) ts) (list_any (λ t. bytes_le (first_user u) (last_user t)) ts)
    (in_any (λ t. bytes_le (first_user t) (last_user u)) a.0 ts a.1 a.2) (in_any (λ t. bytes_le (first_user u) (last_user t)) b.0 ts b.1 b.2)

hull_within : (ts us : List NewTable) (u : NewTable) → ((m : NewTable) → In m ts → In m us) → hull_overlaps us u ≡ false → hull_overlaps ts u ≡ false
hull_within ts us u sub h =
    by_test (hull_overlaps ts u)
    (λ t. let p = hull_parts ts u t in absurd (false≢true (sym h ∙ hull_made us u ((p.0.0, sub p.0.0 p.0.1, p.0.2), (p.1.0, sub p.1.0 p.1.1, p.1.2)))))
    (λ t. t)

-- ---- which tables are inputs

pub in_with : (n m : ℕ) (ms : List ℕ) → In m (pick.with_number n ms) → (n ≡ m) ⊎ In m ms
in_with n m [] (inl e) = inl e
in_with n m [] (inr i) = absurd i
in_with n m (k ∷ ms) i = by (nat_lt k n) (λ q. in_with n m ms q) i
  where
    further : (n ≡ m) ⊎ In m ms → (n ≡ m) ⊎ In m (k ∷ ms)
    further (inl e) = inl e
    further (inr q) = inr (inr q)

    here : (In m (pick.with_number n ms) → (n ≡ m) ⊎ In m ms) → In m (k ∷ pick.with_number n ms) → (n ≡ m) ⊎ In m (k ∷ ms)
    here rest (inl e) = inr (inl e)
    here rest (inr q) = further (rest q)

    first : In m (n ∷ k ∷ ms) → (n ≡ m) ⊎ In m (k ∷ ms)
    first (inl e) = inl e
    first (inr q) = inr q

    by : (b : Bool) → (In m (pick.with_number n ms) → (n ≡ m) ⊎ In m ms) → In m (cond b (k ∷ pick.with_number n ms) (n ∷ k ∷ ms)) → (n ≡ m) ⊎ In m (k ∷ ms)
    by true rest q = here rest q
    by false rest q = first q

with_in : (n m : ℕ) (ms : List ℕ) → (n ≡ m) ⊎ In m ms → In m (pick.with_number n ms)
with_in n m [] (inl e) = inl e
with_in n m [] (inr i) = absurd i
with_in n m (k ∷ ms) i = by (nat_lt k n) (λ q. with_in n m ms q) i
  where
    by : (b : Bool) → ((n ≡ m) ⊎ In m ms → In m (pick.with_number n ms)) → (n ≡ m) ⊎ In m (k ∷ ms) → In m (cond b (k ∷ pick.with_number n ms) (n ∷ k ∷ ms))
    by true rest (inl e) = inr (rest (inl e))
    by true rest (inr (inl e)) = inl e
    by true rest (inr (inr q)) = inr (rest (inr q))
    by false rest (inl e) = inl e
    by false rest (inr q) = inr q

pub of_numbers : (n : ℕ) (ts : List NewTable) → In n (pick.numbers_of ts) → (t : NewTable) × In t ts × (t.number ≡ n)
of_numbers n [] i = absurd i
of_numbers n (t ∷ ts) i = by (λ q. of_numbers n ts q) (in_with t.number n (pick.numbers_of ts) i)
  where
    more : (u : NewTable) × In u ts × (u.number ≡ n) → (u : NewTable) × In u (t ∷ ts) × (u.number ≡ n)
    more r = (r.0, inr r.1, r.2)

    by : (In n (pick.numbers_of ts) → (u : NewTable) × In u ts × (u.number ≡ n)) → (t.number ≡ n) ⊎ In n (pick.numbers_of ts) → (u : NewTable) × In u (t ∷ ts) × (u.number ≡ n)
    by rest (inl e) = (t, inl refl, e)
    by rest (inr q) = more (rest q)

to_numbers : (t : NewTable) (ts : List NewTable) → In t ts → In t.number (pick.numbers_of ts)
to_numbers t [] i = absurd i
to_numbers t (u ∷ us) (inl e) = with_in u.number t.number (pick.numbers_of us) (inl (ap (λ (x : NewTable). x.number) e))
to_numbers t (u ∷ us) (inr i) = with_in u.number t.number (pick.numbers_of us) (inr (to_numbers t us i))

-- ---- a plan for some tables of a version

pub record Chosen (v : Listing) (tables : List TableFile) (snapshots : List ℕ) (cut : ℕ) (ts : List NewTable) (low out : ℕ) : Type 0 where
  pub of : AreTablesOf v tables
  pub there : (m : NewTable) → In m ts → In m v.tables
  pub out_from : 1 ≤ out
  pub down : (m : NewTable) → In m ts → m.level ≤ out
  -- of the tables that stay, none in the output level meets the hull, and none between overlaps an input
  pub level : (u : NewTable) → In u v.tables → (In u ts → ⊥) → u.level ≡ out → hull_overlaps ts u ≡ false
  pub between : (t u : NewTable) → In t ts → In u v.tables → (In u ts → ⊥) → t.level ≤ u.level → u.level < out → overlap t u ≡ false

module _ (v : Listing) (tables : List TableFile) (snapshots : List ℕ) (cut : ℕ) (ts : List NewTable) (low out : ℕ) (c : Chosen v tables snapshots cut ts low out) where
  plan : Plan
  plan = pick.plan_of v snapshots cut ts low out

  there_is : (t : TableFile) → In t tables → In t.meta v.tables
  there_is t i = subst (In t.meta) c.of.metas (in_map (λ (x : TableFile). x.meta) t tables i)

  one_number : (a b : NewTable) → In a v.tables → In b v.tables → a.number ≡ b.number → a ≡ b
  one_number a b i k e = by (in_pairs (λ x y. has_same_number x y ≡ false) a b v.tables (distinct_pairs has_same_number v.tables c.of.version.tables_once) i k)
    where
      by : (a ≡ b) ⊎ ((has_same_number a b ≡ false) ⊎ (has_same_number b a ≡ false)) → a ≡ b
      by (inl is) = is
      by (inr (inl n)) = absurd (false≢true (sym n ∙ eq-eqb a.number b.number e))
      by (inr (inr n)) = absurd (false≢true (sym n ∙ eq-eqb b.number a.number (sym e)))

  input_in : (t : TableFile) → In t tables → is_input plan t.meta ≡ true → In t.meta ts
  unfolding plan
  input_in t i h =
      let n = any_in (λ n. n == t.meta.number) (pick.numbers_of ts) h in
      let m = of_numbers n.0 ts n.1 in
      subst (λ (x : NewTable). In x ts) (one_number m.0 t.meta (c.there m.0 m.1) (there_is t i) (m.2 ∙ eqb-true n.0 t.meta.number n.2)) m.1

  in_input : (t : NewTable) → In t ts → is_input plan t ≡ true
  unfolding plan
  in_input t i = in_any (λ n. n == t.number) t.number (pick.numbers_of ts) (to_numbers t ts i) (eq-eqb t.number t.number refl)

  inputs_in : (m : NewTable) → In m (metas (inputs_of plan tables)) → In m ts
  inputs_in m i =
      let t = of_map (λ (x : TableFile). x.meta) m (inputs_of plan tables) i in
      let f = in_filtered (λ (x : TableFile). is_input plan x.meta) t.0 tables t.1 in
      subst (λ (x : NewTable). In x ts) t.2 (input_in t.0 f.0 f.1)

  pub chosen_input : (t : NewTable) → In t ts → is_input (pick.plan_of v snapshots cut ts low out) t ≡ true
  unfolding plan
  chosen_input t i = in_input t i

  not_in : (u : TableFile) → In u (staying plan tables) → In u.meta ts → ⊥
  not_in u i k = let f = in_filtered (λ (x : TableFile). not (is_input plan x.meta)) u tables i in false≢true (sym (ap not (in_input u.meta k)) ∙ f.1)

  apart_newer : (t u : TableFile) → In t tables → In u tables → overlap t.meta u.meta ≡ false → IsNewer u t
  apart_newer t u i k o =
      all_in (λ x. AllByRecursion (λ y. x.key.user ≡ y.key.user → y.key.seq < x.key.seq) t.entries) u.entries (λ x l.
      all_in (λ y. x.key.user ≡ y.key.user → y.key.seq < x.key.seq) t.entries (λ y m e.
      let a = in_all (λ (z : Entry). (bytes_le (first_user t.meta) z.key.user ≡ true) × (bytes_le z.key.user (last_user t.meta) ≡ true)) y t.entries (in_all (λ (z : TableFile). IsRanged z) t tables c.of.ranged i) m in
      let b = in_all (λ (z : Entry). (bytes_le (first_user u.meta) z.key.user ≡ true) × (bytes_le z.key.user (last_user u.meta) ≡ true)) x u.entries (in_all (λ (z : TableFile). IsRanged z) u tables c.of.ranged k) l in
      let meets : overlap t.meta u.meta ≡ true =
      and_both (bytes_le (first_user t.meta) (last_user u.meta)) (bytes_le (first_user u.meta) (last_user t.meta))
      (bytes_trans (first_user t.meta) y.key.user (last_user u.meta) a.0 (subst (λ (w : List ℕ). bytes_le w (last_user u.meta) ≡ true) e b.1))
      (bytes_trans (first_user u.meta) x.key.user (last_user t.meta) b.0 (subst (λ (w : List ℕ). bytes_le w (last_user t.meta) ≡ true) (sym e) a.1)) in
      absurd (false≢true (sym o ∙ meets))))

  none_deep : (u : NewTable) → In u v.tables → list_any (λ w. nat_lt out w.level && hull_overlaps ts w) v.tables ≡ false → out < u.level → hull_overlaps ts u ≡ false
  none_deep u i h lt =
      by_test (hull_overlaps ts u)
      (λ t. absurd (false≢true (sym h ∙ in_any (λ w. nat_lt out w.level && hull_overlaps ts w) u v.tables i (and_both (nat_lt out u.level) (hull_overlaps ts u) (lt-ltb out u.level lt) t))))
      (λ t. t)

  not_true : (b : Bool) → not b ≡ true → b ≡ false
  not_true true e = absurd cc
  not_true false e = refl

  pub chosen_closed : IsClosed (pick.plan_of v snapshots cut ts low out) tables
  unfolding plan
  chosen_closed = record {
    out = c.out_from;
    down = all_in (λ t. t.meta.level ≤ out) (inputs_of plan tables) (λ t i. c.down t.meta (inputs_in t.meta (in_map (λ (x : TableFile). x.meta) t (inputs_of plan tables) i)));
    beside = all_in (IsBeside plan (inputs_of plan tables)) (staying plan tables) (λ u i.
        let at : In u tables = (in_filtered (λ (x : TableFile). not (is_input plan x.meta)) u tables i).0 in
        record {
          level = λ e. hull_within (metas (inputs_of plan tables)) ts u.meta inputs_in (c.level u.meta (there_is u at) (not_in u i) e);
          between = all_in (λ t. t.meta.level ≤ u.meta.level → u.meta.level < out → IsNewer u t) (inputs_of plan tables) (λ t k le lt.
              let f = in_filtered (λ (x : TableFile). is_input plan x.meta) t tables k in
              apart_newer t u f.0 at (c.between t.meta u.meta (input_in t f.0 f.1) (there_is u at) (not_in u i) le lt));
          bottom = λ b lt. hull_within (metas (inputs_of plan tables)) ts u.meta inputs_in
              (none_deep u.meta (there_is u at) (not_true (list_any (λ w. nat_lt out w.level && hull_overlaps ts w) v.tables) b) lt);
        });
  }

-- ---- facts of a version's tables

module _ (v : Listing) (tables : List TableFile) (of : AreTablesOf v tables) where
  -- two tables of a level from 1 on do not overlap
  level_apart : (a b : NewTable) → In a v.tables → In b v.tables → (a ≡ b → ⊥) → 1 ≤ a.level → b.level ≡ a.level → overlap a b ≡ false
  level_apart a b i k ne some e =
      by_test (overlap a b) (λ t. absurd (by t (in_pairs (λ x y. clash x y ≡ false) a b v.tables (distinct_pairs clash v.tables of.version.tables_apart) i k))) (λ t. t)
    where
      not_zero : (n : ℕ) → 1 ≤ n → not (n == 0) ≡ true
      not_zero n h = by_test (n == 0) (λ t. let z : n ≡ 0 = eqb-true n 0 t in absurd (omega arith)) (λ t. ap not t)

      clashes : overlap a b ≡ true → clash a b ≡ true
      clashes t = and_both (not (a.level == 0) && (b.level == a.level)) (overlap a b) (and_both (not (a.level == 0)) (b.level == a.level) (not_zero a.level some) (eq-eqb b.level a.level e)) t

      by : overlap a b ≡ true → (a ≡ b) ⊎ ((clash a b ≡ false) ⊎ (clash b a ≡ false)) → ⊥
      by t (inl is) = ne is
      by t (inr (inl n)) = false≢true (sym n ∙ clashes t)
      by t (inr (inr n)) = false≢true (sym (no_clash_flip b a n) ∙ clashes t)

  -- a table does not end before it begins
  is_range : (u : NewTable) → In u v.tables → bytes_le (first_user u) (last_user u) ≡ true
  is_range u i =
      let t = of_map (λ (x : TableFile). x.meta) u tables (subst (In u) (sym of.metas) i) in
      let named : IsAsNamed t.0 = in_all IsAsNamed t.0 tables of.named t.1 in
      let x = first_there t.0.entries t.0.meta.smallest named.smallest in
      let r = in_all (λ (z : Entry). (bytes_le (first_user t.0.meta) z.key.user ≡ true) × (bytes_le z.key.user (last_user t.0.meta) ≡ true)) x.0 t.0.entries (in_all (λ (z : TableFile). IsRanged z) t.0 tables of.ranged t.1) x.1 in
      subst (λ (w : NewTable). bytes_le (first_user w) (last_user w) ≡ true) t.2 (bytes_trans (first_user t.0.meta) x.0.key.user (last_user t.0.meta) r.0 r.1)

  of_level : (n : ℕ) (m : NewTable) → In m (at_level n v.tables) → In m v.tables × (m.level ≡ n)
  of_level n m i = let f = in_filtered (λ (t : NewTable). t.level == n) m v.tables i in (f.0, eqb-true m.level n f.1)

  to_level : (n : ℕ) (m : NewTable) → In m v.tables → m.level ≡ n → In m (at_level n v.tables)
  to_level n m i e = in_filter (λ (t : NewTable). t.level == n) m v.tables i (eq-eqb m.level n e)

  of_first : (ts : List NewTable) (m : NewTable) → In m (pick.first_of ts) → In m ts
  of_first [] m i = i
  of_first (t ∷ ts) m (inl e) = inl e
  of_first (t ∷ ts) m (inr i) = absurd i

  of_sinking : (n : ℕ) (m : NewTable) → In m (pick.sinking v n) → In m v.tables × (m.level ≡ n)
  of_sinking n m i = by (n == 0) refl i
    where
      by : (b : Bool) → (n == 0) ≡ b → In m (cond b (at_level 0 v.tables) (pick.first_of (at_level n v.tables))) → In m v.tables × (m.level ≡ n)
      by true e k = let l = of_level 0 m k in (l.0, l.1 ∙ sym (eqb-true n 0 e))
      by false e k = of_level n m (of_first (at_level n v.tables) m k)

  all_sink : (m : NewTable) → In m v.tables → m.level ≡ 0 → (n : ℕ) → n ≡ 0 → In m (pick.sinking v n)
  all_sink m i e n z = subst (λ (b : Bool). In m (cond b (at_level 0 v.tables) (pick.first_of (at_level n v.tables)))) (sym (eq-eqb n 0 z)) (to_level 0 m i e)

  -- what goes down from a level with what it overlaps in the next
  next_chosen : (snapshots : List ℕ) (cut n : ℕ) → Chosen v tables snapshots cut (pick.with_next v n (pick.sinking v n)) n (n + 1)
  next_chosen snapshots cut n = record {
    of = of;
    there = λ m i. (place m i).0;
    out_from = omega arith;
    down = λ m i. under (place m i).1;
    level = level;
    between = between;
  }
    where
      down : List NewTable
      down = pick.sinking v n

      below : List NewTable
      below = filter (hull_overlaps (pick.sinking v n)) (at_level (n + 1) v.tables)

      place : (m : NewTable) → In m (pick.with_next v n (pick.sinking v n)) → In m v.tables × ((m.level ≡ n) ⊎ (m.level ≡ n + 1))
      place m i = by (in_append m (pick.sinking v n) (filter (hull_overlaps (pick.sinking v n)) (at_level (n + 1) v.tables)) i)
        where
          by : In m (pick.sinking v n) ⊎ In m (filter (hull_overlaps (pick.sinking v n)) (at_level (n + 1) v.tables)) → In m v.tables × ((m.level ≡ n) ⊎ (m.level ≡ n + 1))
          by (inl k) = let s = of_sinking n m k in (s.0, inl s.1)
          by (inr k) = let l = of_level (n + 1) m (in_filtered (hull_overlaps (pick.sinking v n)) m (at_level (n + 1) v.tables) k).0 in (l.0, inr l.1)

      under : {k : ℕ} → (k ≡ n) ⊎ (k ≡ n + 1) → k ≤ n + 1
      under (inl e) = omega arith
      under (inr e) = omega arith

      between : (t u : NewTable) → In t (pick.with_next v n (pick.sinking v n)) → In u v.tables → (In u (pick.with_next v n (pick.sinking v n)) → ⊥) → t.level ≤ u.level → u.level < n + 1 → overlap t u ≡ false
      between t u i k out le lt = by (place t i).1
        where
          by : (t.level ≡ n) ⊎ (t.level ≡ n + 1) → overlap t u ≡ false
          by (inl e) =
              let same : u.level ≡ n = omega arith in
              elim (cases_eq n 0) [
                | inl z ↦ absurd (out (in_append_left u (pick.sinking v n) (filter (hull_overlaps (pick.sinking v n)) (at_level (n + 1) v.tables)) (all_sink u k (same ∙ z) n z)))
                | inr nz ↦ level_apart t u (place t i).0 k (λ is. out (subst (λ (x : NewTable). In x (pick.with_next v n (pick.sinking v n))) is i)) (omega arith) (omega arith)
              ]
          by (inr e) = absurd (omega arith)

      -- a table of the next level that does not meet the hull of what goes down meets none that does
      level : (u : NewTable) → In u v.tables → (In u (pick.with_next v n (pick.sinking v n)) → ⊥) → u.level ≡ n + 1 → hull_overlaps (pick.with_next v n (pick.sinking v n)) u ≡ false
      level u k out e = by_test (hull_overlaps (pick.with_next v n (pick.sinking v n)) u) (λ t. absurd (meets (hull_parts (pick.with_next v n (pick.sinking v n)) u t))) (λ t. t)
        where
          off : hull_overlaps (pick.sinking v n) u ≡ false
          off =
              by_test (hull_overlaps (pick.sinking v n) u)
              (λ t. absurd (out (in_append_right u (pick.sinking v n) (filter (hull_overlaps (pick.sinking v n)) (at_level (n + 1) v.tables)) (in_filter (hull_overlaps (pick.sinking v n)) u (at_level (n + 1) v.tables) (to_level (n + 1) u k e) t))))
              (λ t. t)

          fresh : (x : NewTable) → In x (filter (hull_overlaps (pick.sinking v n)) (at_level (n + 1) v.tables)) → overlap x u ≡ true → ⊥
          fresh x i o =
              let f = in_filtered (hull_overlaps (pick.sinking v n)) x (at_level (n + 1) v.tables) i in
              let l = of_level (n + 1) x f.0 in
              let ne : x ≡ u → ⊥ = λ is. out (in_append_right u (pick.sinking v n) (filter (hull_overlaps (pick.sinking v n)) (at_level (n + 1) v.tables)) (subst (λ (w : NewTable). In w (filter (hull_overlaps (pick.sinking v n)) (at_level (n + 1) v.tables))) is i)) in
              let some : 1 ≤ x.level = let q : x.level ≡ n + 1 = l.1 in omega arith in
              false≢true (sym (level_apart x u l.0 k ne some (e ∙ sym l.1)) ∙ o)

          -- all that goes down is behind the table
          left : list_any (λ t. bytes_le (first_user t) (last_user u)) (pick.sinking v n) ≡ false → (a : NewTable) × In a (pick.with_next v n (pick.sinking v n)) × (bytes_le (first_user a) (last_user u) ≡ true) → ⊥
          left none (a, i, le) = by (in_append a (pick.sinking v n) (filter (hull_overlaps (pick.sinking v n)) (at_level (n + 1) v.tables)) i)
            where
              by : In a (pick.sinking v n) ⊎ In a (filter (hull_overlaps (pick.sinking v n)) (at_level (n + 1) v.tables)) → ⊥
              by (inl q) = false≢true (sym none ∙ in_any (λ t. bytes_le (first_user t) (last_user u)) a (pick.sinking v n) q le)
              by (inr q) =
                  let h = hull_parts (pick.sinking v n) a (in_filtered (hull_overlaps (pick.sinking v n)) a (at_level (n + 1) v.tables) q).1 in
                  let t : NewTable = h.0.0 in
                  let off_t : bytes_le (first_user t) (last_user u) ≡ false = by_test (bytes_le (first_user t) (last_user u)) (λ s. absurd (false≢true (sym none ∙ in_any (λ w. bytes_le (first_user w) (last_user u)) t (pick.sinking v n) h.0.1 s))) (λ s. s) in
                  let up : bytes_le (last_user u) (last_user a) ≡ true = bytes_trans (last_user u) (first_user t) (last_user a) (le_other (first_user t) (last_user u) off_t) h.0.2 in
                  fresh a q (and_both (bytes_le (first_user a) (last_user u)) (bytes_le (first_user u) (last_user a)) le (bytes_trans (first_user u) (last_user u) (last_user a) (is_range u k) up))

          -- all that goes down is before the table
          right : list_any (λ t. bytes_le (first_user u) (last_user t)) (pick.sinking v n) ≡ false → (b : NewTable) × In b (pick.with_next v n (pick.sinking v n)) × (bytes_le (first_user u) (last_user b) ≡ true) → ⊥
          right none (b, i, le) = by (in_append b (pick.sinking v n) (filter (hull_overlaps (pick.sinking v n)) (at_level (n + 1) v.tables)) i)
            where
              by : In b (pick.sinking v n) ⊎ In b (filter (hull_overlaps (pick.sinking v n)) (at_level (n + 1) v.tables)) → ⊥
              by (inl q) = false≢true (sym none ∙ in_any (λ t. bytes_le (first_user u) (last_user t)) b (pick.sinking v n) q le)
              by (inr q) =
                  let h = hull_parts (pick.sinking v n) b (in_filtered (hull_overlaps (pick.sinking v n)) b (at_level (n + 1) v.tables) q).1 in
                  let t : NewTable = h.1.0 in
                  let off_t : bytes_le (first_user u) (last_user t) ≡ false = by_test (bytes_le (first_user u) (last_user t)) (λ s. absurd (false≢true (sym none ∙ in_any (λ w. bytes_le (first_user u) (last_user w)) t (pick.sinking v n) h.1.1 s))) (λ s. s) in
                  let down_ : bytes_le (first_user b) (first_user u) ≡ true = bytes_trans (first_user b) (last_user t) (first_user u) h.1.2 (le_other (first_user u) (last_user t) off_t) in
                  fresh b q (and_both (bytes_le (first_user b) (last_user u)) (bytes_le (first_user u) (last_user b)) (bytes_trans (first_user b) (first_user u) (last_user u) down_ (is_range u k)) le)

          or_false : (a b : Bool) → (a && b) ≡ false → (a ≡ false) ⊎ (b ≡ false)
          or_false true b h = inr h
          or_false false b h = inl refl

          meets : Hull (pick.with_next v n (pick.sinking v n)) u → ⊥
          meets (a, b) =
              elim (or_false (list_any (λ t. bytes_le (first_user t) (last_user u)) (pick.sinking v n)) (list_any (λ t. bytes_le (first_user u) (last_user t)) (pick.sinking v n)) off) [
                | inl none ↦ left none a
                | inr none ↦ right none b
              ]

  -- one table of a level from 1 on, onto its own level
  one_chosen : (snapshots : List ℕ) (cut : ℕ) (t : NewTable) → In t v.tables → 1 ≤ t.level → Chosen v tables snapshots cut (t ∷ []) t.level t.level
  one_chosen snapshots cut t i some = record {
    of = of;
    there = λ m k. only m k i;
    out_from = some;
    down = λ m k. level_of m k;
    level = λ u k out e. by_test (hull_overlaps (t ∷ []) u) (λ h. absurd (meets u k out e (hull_parts (t ∷ []) u h))) (λ h. h);
    between = λ s u k l out le lt. absurd (above s u k le lt);
  }
    where
      only : (m : NewTable) → In m (t ∷ []) → In t v.tables → In m v.tables
      only m (inl e) at = subst (λ (x : NewTable). In x v.tables) e at
      only m (inr k) at = absurd k

      level_of : (m : NewTable) → In m (t ∷ []) → m.level ≤ t.level
      level_of m (inl e) = let same : t.level ≡ m.level = ap (λ (x : NewTable). x.level) e in omega arith
      level_of m (inr k) = absurd k

      above : (s u : NewTable) → In s (t ∷ []) → s.level ≤ u.level → u.level < t.level → ⊥
      above s u (inl e) le lt = let same : t.level ≡ s.level = ap (λ (x : NewTable). x.level) e in absurd (omega arith)
      above s u (inr k) le lt = absurd k

      is_t : {m : NewTable} → In m (t ∷ []) → t ≡ m
      is_t (inl e) = e
      is_t (inr k) = absurd k

      meets : (u : NewTable) → In u v.tables → (In u (t ∷ []) → ⊥) → u.level ≡ t.level → Hull (t ∷ []) u → ⊥
      meets u k out e (a, b) =
          false≢true (sym (level_apart t u i k (λ is. out (inl is)) some e)
          ∙ and_both (bytes_le (first_user t) (last_user u)) (bytes_le (first_user u) (last_user t))
          (subst (λ (x : NewTable). bytes_le (first_user x) (last_user u) ≡ true) (sym (is_t a.1)) a.2)
          (subst (λ (x : NewTable). bytes_le (first_user u) (last_user x) ≡ true) (sym (is_t b.1)) b.2))

  deep_from : (ts : List NewTable) → 1 ≤ pick.deepest ts
  deep_from [] = omega arith
  deep_from (t ∷ ts) = let more : 1 ≤ pick.deepest ts = deep_from ts in omega arith

  deep_over : (ts : List NewTable) (m : NewTable) → In m ts → m.level ≤ pick.deepest ts
  deep_over [] m i = absurd i
  deep_over (t ∷ ts) m (inl e) = let same : t.level ≡ m.level = ap (λ (x : NewTable). x.level) e in omega arith
  deep_over (t ∷ ts) m (inr i) = let more : m.level ≤ pick.deepest ts = deep_over ts m i in omega arith

  all_chosen : (snapshots : List ℕ) (cut low : ℕ) → Chosen v tables snapshots cut v.tables low (pick.deepest v.tables)
  all_chosen snapshots cut low = record {
    of = of;
    there = λ m i. i;
    out_from = deep_from v.tables;
    down = deep_over v.tables;
    level = λ u i out e. absurd (out i);
    between = λ t u i k out le lt. absurd (out k);
  }

-- ---- the laws

pub due_closed : DuePlansAreClosed
unfolding pick.due
due_closed v tables options true snapshots plan of is = absurd is
due_closed v tables options false snapshots plan of is = by_level (nat_le 100 (pick.score v options (pick.fullest v options))) is
  where
    next : (n : ℕ) → pick.level_plan v snapshots (pick.cutoff v.blobs options.age_cutoff) n ≡ plan → IsClosed plan tables
    next n e =
        subst (λ (p : Plan). IsClosed p tables) e
        (chosen_closed v tables snapshots (pick.cutoff v.blobs options.age_cutoff) (pick.with_next v n (pick.sinking v n)) n (n + 1) (next_chosen v tables of snapshots (pick.cutoff v.blobs options.age_cutoff) n))

    one : (t : NewTable) (b : Bool) → (t.level == 0) ≡ b → In t v.tables
        → IsPlan (cond b (Collect (pick.level_plan v snapshots (pick.cutoff v.blobs options.age_cutoff) 0)) (Collect (pick.plan_of v snapshots (pick.cutoff v.blobs options.age_cutoff) (t ∷ []) t.level t.level))) plan → IsClosed plan tables
    one t true z i e = next 0 e
    one t false z i e =
        subst (λ (p : Plan). IsClosed p tables) e
        (chosen_closed v tables snapshots (pick.cutoff v.blobs options.age_cutoff) (t ∷ []) t.level t.level (one_chosen v tables of snapshots (pick.cutoff v.blobs options.age_cutoff) t i (some t.level z)))
      where
        some : (n : ℕ) → (n == 0) ≡ false → 1 ≤ n
        some n h = elim (cases_eq n 0) [ inl e ↦ absurd (false≢true (sym h ∙ eq-eqb n 0 e)) | inr ne ↦ omega arith ]

    rewrite_ : (ts : List NewTable) → ((m : NewTable) → In m ts → In m v.tables) → IsPlan (pick.rewrite_plan v snapshots (pick.cutoff v.blobs options.age_cutoff) ts) plan → IsClosed plan tables
    rewrite_ [] sub e = absurd e
    rewrite_ (t ∷ ts) sub e = one t (t.level == 0) refl (sub t (inl refl)) e

    by_force : (b : Bool) → IsPlan (cond b (pick.rewrite_plan v snapshots (pick.cutoff v.blobs options.age_cutoff) (pick.linked_to v (pick.number_of (slice_get v.blobs 0)))) Idle) plan → IsClosed plan tables
    by_force true e = rewrite_ (pick.linked_to v (pick.number_of (slice_get v.blobs 0))) (λ m i. (in_filtered (λ (t : NewTable). t.oldest_blob == pick.number_of (slice_get v.blobs 0)) m v.tables i).0) e
    by_force false e = absurd e

    by_level : (b : Bool) → IsPlan (cond b (Level (pick.level_plan v snapshots (pick.cutoff v.blobs options.age_cutoff) (pick.fullest v options))) (pick.collection v options snapshots)) plan → IsClosed plan tables
    by_level true e = next (pick.fullest v options) e
    by_level false e = by_force (pick.is_forced v options (pick.oldest_batch v.blobs)) e

filter_none : {A : Type 0} (p : A → Bool) (xs : List A) → ((x : A) → In x xs → p x ≡ false) → filter p xs ≡ []
filter_none p [] h = refl
filter_none p (x ∷ xs) h = ap (λ b. cond b (x ∷ filter p xs) (filter p xs)) (h x (inl refl)) ∙ filter_none p xs (λ y i. h y (inr i))

pub full_closed : FullPlansAreClosed
unfolding pick.full_plan
full_closed v tables snapshots plan of is = by v.tables refl is
  where
    Fine : Plan → Type 0
    Fine p = IsClosed p tables × (staying p tables ≡ []) × (10 ^ 15 ≤ p.cutoff)

    large : 10 ^ 15 ≤ 2 ^ 64 - 1
    large = omega arith

    whole : (low : ℕ) → IsClosed (pick.plan_of v snapshots pick.no_file v.tables low (pick.deepest v.tables)) tables × (staying (pick.plan_of v snapshots pick.no_file v.tables low (pick.deepest v.tables)) tables ≡ []) × (10 ^ 15 ≤ pick.no_file)
    whole low =
        let c : Chosen v tables snapshots pick.no_file v.tables low (pick.deepest v.tables) = all_chosen v tables of snapshots pick.no_file low in (
          chosen_closed v tables snapshots pick.no_file v.tables low (pick.deepest v.tables) c,
          filter_none (λ (t : TableFile). not (is_input (pick.plan_of v snapshots pick.no_file v.tables low (pick.deepest v.tables)) t.meta)) tables (λ t i.
              ap not (chosen_input v tables snapshots pick.no_file v.tables low (pick.deepest v.tables) c t.meta (subst (In t.meta) of.metas (in_map (λ (x : TableFile). x.meta) t tables i)))),
          large,
        )

    by : (ts : List NewTable) → v.tables ≡ ts → pick.full_plan_of v snapshots ts ≡ Some plan → IsClosed plan tables × (staying plan tables ≡ []) × (10 ^ 15 ≤ plan.cutoff)
    by [] e p = absurd cc
    by (t ∷ ts) e p =
        subst (λ (q : Plan). IsClosed q tables × (staying q tables ≡ []) × (10 ^ 15 ≤ q.cutoff)) (some_is p)
        (subst (λ (ws : List NewTable). IsClosed (pick.plan_of v snapshots pick.no_file ws t.level (pick.deepest ws)) tables × (staying (pick.plan_of v snapshots pick.no_file ws t.level (pick.deepest ws)) tables ≡ []) × (10 ^ 15 ≤ pick.no_file)) e (whole t.level))

pub flushes_keep : FlushesKeepClosed
flushes_keep plan before flushed after closed fresh shuffled = record {
  out = closed.out;
  down = all_in (λ t. t.meta.level ≤ plan.out_level) (inputs_of plan after) (λ t i. in_all (λ (t : TableFile). t.meta.level ≤ plan.out_level) t (inputs_of plan before) closed.down (input t i));
  beside = all_in (IsBeside plan (inputs_of plan after)) (staying plan after) (λ u i.
      let f = in_filtered (λ (t : TableFile). not (is_input plan t.meta)) u after i in
      stays u f.1 (in_append u flushed before (shuffled_in u (back shuffled) f.0)));
}
  where
    input : (t : TableFile) → In t (inputs_of plan after) → In t (inputs_of plan before)
    input t i =
        let f = in_filtered (λ (x : TableFile). is_input plan x.meta) t after i in
        by f.1 (in_append t flushed before (shuffled_in t (back shuffled) f.0))
      where
        by : is_input plan t.meta ≡ true → In t flushed ⊎ In t before → In t (inputs_of plan before)
        by e (inl k) = absurd (false≢true (sym (in_all (IsFlushed plan before) t flushed fresh k).other ∙ e))
        by e (inr k) = in_filter (λ (x : TableFile). is_input plan x.meta) t before k e

    input_meta : (m : NewTable) → In m (metas (inputs_of plan after)) → In m (metas (inputs_of plan before))
    input_meta m i =
        let t = of_map (λ (x : TableFile). x.meta) m (inputs_of plan after) i in
        subst (λ (x : NewTable). In x (metas (inputs_of plan before))) t.2 (in_map (λ (x : TableFile). x.meta) t.0 (inputs_of plan before) (input t.0 t.1))

    stays : (u : TableFile) → not (is_input plan u.meta) ≡ true → In u flushed ⊎ In u before → IsBeside plan (inputs_of plan after) u
    stays u e (inl k) =
        let f : IsFlushed plan before u = in_all (IsFlushed plan before) u flushed fresh k in
        let level : u.meta.level ≡ 0 = f.level in
        let out : 1 ≤ plan.out_level = closed.out in
        record {
          level = λ same. absurd (omega arith);
          between = all_in (λ t. t.meta.level ≤ u.meta.level → u.meta.level < plan.out_level → IsNewer u t) (inputs_of plan after) (λ t i le lt.
              all_in (λ x. AllByRecursion (λ y. x.key.user ≡ y.key.user → y.key.seq < x.key.seq) t.entries) u.entries (λ x l.
              all_in (λ y. x.key.user ≡ y.key.user → y.key.seq < x.key.seq) t.entries (λ y m same.
              in_all (λ (y : Entry). y.key.seq < x.key.seq) y t.entries
              (in_all (λ (t : TableFile). AllByRecursion (λ y. y.key.seq < x.key.seq) t.entries) t (inputs_of plan before)
              (in_all (λ (x : Entry). AllByRecursion (λ t. AllByRecursion (λ y. y.key.seq < x.key.seq) t.entries) (inputs_of plan before)) x u.entries f.newer l) (input t i)) m)));
          bottom = λ b lt. absurd (omega arith);
        }
    stays u e (inr k) =
        let b : IsBeside plan (inputs_of plan before) u = in_all (IsBeside plan (inputs_of plan before)) u (staying plan before) closed.beside (in_filter (λ (t : TableFile). not (is_input plan t.meta)) u before k e) in
        record {
          level = λ same. hull_within (metas (inputs_of plan after)) (metas (inputs_of plan before)) u.meta input_meta (b.level same);
          between = all_in (λ t. t.meta.level ≤ u.meta.level → u.meta.level < plan.out_level → IsNewer u t) (inputs_of plan after) (λ t i. in_all (λ (t : TableFile). t.meta.level ≤ u.meta.level → u.meta.level < plan.out_level → IsNewer u t) t (inputs_of plan before) b.between (input t i));
          bottom = λ at lt. hull_within (metas (inputs_of plan after)) (metas (inputs_of plan before)) u.meta input_meta (b.bottom at lt);
        }
