-- How what stays lies to what went in.
use Rattle.std.proofs.Common.{◌≡◌, ◌≢◌, ℕ, ◌<◌, ◌≤◌, nat_lt, true, List, [], ◌∷◌, refl, sym, ◌∙◌, ap, subst, arith, Some, inl, inr}
use Rattle.std.specs.Prelude.{◌⊎◌, not, map, max}
use Rattle.std.specs.List.{AllByRecursion, fold, list_any}
use Rattle.std.specs.Cmp.Lexicographic.{nat_list_cmp_total}
use Rattle.std.specs.Ordering.{is_eq, is_le}
use Rattle.std.specs.declared.cmp.Ordering.{Ordering}
use Rattle.std.specs.declared.cmp.Ordering.TheVariants.{Less, Equal, Greater}
use Rattle.std.proofs.lemmas.Bool.{false≢true, ltb-true, ltb-false, cases_eq}
use Rattle.bl_code.specs.Order.{bytes_cmp, bytes_le}
use Rattle.bl_edit.specs.declared.edit.NewTable.{NewTable}
use Rattle.bl_build.specs.Versions.{first_user, last_user}
use Rattle.bl_entry.specs.declared.key.Entry.{Entry}
use Rattle.bl_out.specs.Tables.{TableFile, IsAsNamed, IsNewerAbove, greatest_of}
use Rattle.bl_compacted.specs.Plans.{IsBeside, IsNewer, inputs_of, is_input}
use Rattle.bl_pick.specs.Picking.{hull_overlaps}
use Rattle.bl_folder.specs.Flushes.{metas}
use Rattle.bl_compacted.specs.Outputs.{IsRanged}
use Rattle.bl_compacted.proofs.Finding.{some_is}
use Rattle.bl_compacted.proofs.Lists.{In, back, by_test, in_all, in_any, in_filtered, in_map, of_flat, shuffled_in}
use Rattle.bl_compacted.proofs.ValueLemmas.{and_both, same_key}
use Rattle.bl_compacted.proofs.Jobs.{Job, all_map, old, stay}

-- ---- the order of byte strings

by_order : {C : Type 0} (o : Ordering) → is_le o ≡ true → (o ≡ Less → C) → (o ≡ Equal → C) → C
by_order Less h f g = f refl
by_order Equal h f g = g refl
by_order Greater h f g = absurd (false≢true h)

pub bytes_trans : (a b c : List ℕ) → bytes_le a b ≡ true → bytes_le b c ≡ true → bytes_le a c ≡ true
bytes_trans a b c p q =
    by_order (bytes_cmp a b) p
    (λ less.
    by_order (bytes_cmp b c) q (λ more. ap is_le (nat_list_cmp_total.trans a b c less more))
    (λ e. subst (λ (x : List ℕ). bytes_le a x ≡ true) (same_key b c (ap is_eq e)) p))
    (λ e. subst (λ (x : List ℕ). bytes_le x c ≡ true) (sym (same_key a b (ap is_eq e))) q)

-- ---- an input that shares a user key meets the hull

pub in_stay : (j : Job) (u : TableFile) → In u (stay j) → In u j.h.tables
in_stay j u i = (in_filtered (λ (t : TableFile). not (is_input j.plan t.meta)) u j.h.tables i).0

pub in_inputs : (j : Job) (t : TableFile) → In t (inputs_of j.plan j.h.tables) → In t j.h.tables
in_inputs j t i = (in_filtered (λ (u : TableFile). is_input j.plan u.meta) t j.h.tables i).0

-- an entry that went in, and its table
pub from_input : (j : Job) (x : Entry) → In x j.c.ins → (t : TableFile) × In t (inputs_of j.plan j.h.tables) × In x t.entries
from_input j x i = of_flat (λ (t : TableFile). t.entries) x (inputs_of j.plan j.h.tables) (shuffled_in x (back j.c.merged) i)

pub meets : (j : Job) (t u : TableFile) (x y : Entry) → In t (inputs_of j.plan j.h.tables) → In x t.entries → In u j.h.tables → In y u.entries → x.key.user ≡ y.key.user
    → hull_overlaps (metas (inputs_of j.plan j.h.tables)) u.meta ≡ true
meets j t u x y i k l m e =
    let a = in_all (λ (z : Entry). (bytes_le (first_user t.meta) z.key.user ≡ true) × (bytes_le z.key.user (last_user t.meta) ≡ true)) x t.entries (in_all (λ (z : TableFile). IsRanged z) t j.h.tables j.held.ranged (in_inputs j t i)) k in
    let b = in_all (λ (z : Entry). (bytes_le (first_user u.meta) z.key.user ≡ true) × (bytes_le z.key.user (last_user u.meta) ≡ true)) y u.entries (in_all (λ (z : TableFile). IsRanged z) u j.h.tables j.held.ranged l) m in
    let ts : List NewTable = metas (inputs_of j.plan j.h.tables) in
    let at : In t.meta ts = in_map (λ (z : TableFile). z.meta) t (inputs_of j.plan j.h.tables) i in
    and_both (list_any (λ z. bytes_le (first_user z) (last_user u.meta)) ts) (list_any (λ z. bytes_le (first_user u.meta) (last_user z)) ts)
    (in_any (λ (z : NewTable). bytes_le (first_user z) (last_user u.meta)) t.meta ts at
    (bytes_trans (first_user t.meta) x.key.user (last_user u.meta) a.0 (subst (λ (k' : List ℕ). bytes_le k' (last_user u.meta) ≡ true) (sym e) b.1)))
    (in_any (λ (z : NewTable). bytes_le (first_user u.meta) (last_user z)) t.meta ts at
    (bytes_trans (first_user u.meta) y.key.user (last_user t.meta) b.0 (subst (λ (k' : List ℕ). bytes_le k' (last_user t.meta) ≡ true) e a.1)))

-- ---- of one user key, what stays above the output level is newer, and what stays below it is older; at the bottom there is nothing below, and in the level there is nothing

abbrev pub Lies : Job → TableFile → Entry → Entry → Type 0
Lies j u x y = ((u.meta.level < j.plan.out_level) × (x.key.seq < y.key.seq)) ⊎ ((j.plan.out_level < u.meta.level) × (y.key.seq < x.key.seq) × (j.plan.bottom ≡ true → ⊥))

newer_in : (j : Job) (a b : TableFile) (x y : Entry) → In a j.h.tables → In b j.h.tables → In x a.entries → In y b.entries → a.meta.level < b.meta.level → x.key.user ≡ y.key.user → y.key.seq < x.key.seq
newer_in j a b x y i k l m lt e =
    let n : IsNewerAbove a b = in_all (IsNewerAbove a) b j.h.tables (in_all (λ (z : TableFile). AllByRecursion (IsNewerAbove z) j.h.tables) a j.h.tables j.sound.newer i) k in
    in_all (λ (z : Entry). x.key.user ≡ z.key.user → z.key.seq < x.key.seq) y b.entries
    (in_all (λ (w : Entry). AllByRecursion (λ z. w.key.user ≡ z.key.user → z.key.seq < w.key.seq) b.entries) x a.entries (n lt) l) m e

pub lies : (j : Job) (u : TableFile) (x y : Entry) → In x j.c.ins → In u (stay j) → In y u.entries → x.key.user ≡ y.key.user → Lies j u x y
lies j u x y i k m e =
    let t = from_input j x i in
    let beside : IsBeside j.plan (inputs_of j.plan j.h.tables) u = in_all (IsBeside j.plan (inputs_of j.plan j.h.tables)) u (stay j) j.c.closed.beside k in
    let down : t.0.meta.level ≤ j.plan.out_level = in_all (λ (z : TableFile). z.meta.level ≤ j.plan.out_level) t.0 (inputs_of j.plan j.h.tables) j.c.closed.down t.1 in
    let hull = meets j t.0 u x y t.1 t.2 (in_stay j u k) m e in
    by_test (nat_lt u.meta.level j.plan.out_level)
    (λ s.
    let above : u.meta.level < j.plan.out_level = ltb-true u.meta.level j.plan.out_level s in
    inl (
      above,
      by_test (nat_lt u.meta.level t.0.meta.level)
          (λ r. newer_in j u t.0 y x (in_stay j u k) (in_inputs j t.0 t.1) m t.2 (ltb-true u.meta.level t.0.meta.level r) (sym e))
          (λ r.
          let n : IsNewer u t.0 =
          in_all (λ (z : TableFile). z.meta.level ≤ u.meta.level → u.meta.level < j.plan.out_level → IsNewer u z) t.0 (inputs_of j.plan j.h.tables) beside.between t.1 (ltb-false u.meta.level t.0.meta.level r) above in
          in_all (λ (z : Entry). y.key.user ≡ z.key.user → z.key.seq < y.key.seq) x t.0.entries (in_all (λ (w : Entry). AllByRecursion (λ z. w.key.user ≡ z.key.user → z.key.seq < w.key.seq) t.0.entries) y u.entries n m) t.2 (sym e)),
    ))
    (λ s.
    let not_above : j.plan.out_level ≤ u.meta.level = ltb-false u.meta.level j.plan.out_level s in
    elim (cases_eq u.meta.level j.plan.out_level) [
      | inl is ↦ absurd (false≢true (sym (beside.level is) ∙ hull))
      | inr ne ↦
          let below : j.plan.out_level < u.meta.level = less u.meta.level j.plan.out_level not_above ne in
          inr (below, newer_in j t.0 u x y (in_inputs j t.0 t.1) (in_stay j u k) t.2 m (omega arith) e, λ b. false≢true (sym (beside.bottom b below) ∙ hull))
    ])
  where
    less : (a b : ℕ) → b ≤ a → a ≢ b → b < a
    less a b le ne = omega arith

-- ---- no entry of a table is ahead of the manifest

fold_most : (a : ℕ) (ns : List ℕ) → (a ≤ fold max a ns) × AllByRecursion (λ n. n ≤ fold max a ns) ns
fold_most a [] = (omega arith, tt)
fold_most a (n ∷ ns) =
    let r = fold_most (max a n) ns in
    let up : max a n ≤ fold max (max a n) ns = r.0 in
    (omega arith, (omega arith, r.1))

most_of : (ns : List ℕ) (k n : ℕ) → greatest_of ns ≡ Some k → In n ns → n ≤ k
most_of [] k n e i = absurd i
most_of (m ∷ ms) k n e i =
    let r = fold_most m ms in
    let is : fold max m ms ≡ k = some_is e in
    by r.0 r.1 is i
  where
    by : m ≤ fold max m ms → AllByRecursion (λ x. x ≤ fold max m ms) ms → fold max m ms ≡ k → In n (m ∷ ms) → n ≤ k
    by le h is (inl same) = omega arith
    by le h is (inr p) = let q : n ≤ fold max m ms = in_all (λ x. x ≤ fold max m ms) n ms h p in omega arith

pub seq_named : (t : TableFile) (x : Entry) → IsAsNamed t → In x t.entries → x.key.seq ≤ t.meta.most_seq
seq_named t x named i = most_of (map (λ e. e.key.seq) t.entries) t.meta.most_seq x.key.seq named.most (in_map (λ (e : Entry). e.key.seq) x t.entries i)

pub seq_behind : (j : Job) (x : Entry) → In x (old j) → x.key.seq ≤ j.h.live.standing.last_sequence
seq_behind j x i =
    let t = of_flat (λ (u : TableFile). u.entries) x j.h.tables i in
    let most : x.key.seq ≤ t.0.meta.most_seq = seq_named t.0 x (in_all IsAsNamed t.0 j.h.tables j.sound.tables t.1) t.2 in
    let behind : t.0.meta.most_seq ≤ j.h.live.standing.last_sequence =
    in_all (λ (u : TableFile). u.meta.most_seq ≤ j.h.live.standing.last_sequence) t.0 j.h.tables
    (all_map (λ (u : TableFile). u.meta) (λ (u : NewTable). u.most_seq ≤ j.h.live.standing.last_sequence) j.h.tables
    (subst (AllByRecursion (λ (u : NewTable). u.most_seq ≤ j.h.live.standing.last_sequence)) (sym j.held.tables) j.sound.behind)) t.1 in
    omega arith
