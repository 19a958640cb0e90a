-- The value of a key at a sequence goes by which revisions there are.
use Rattle.std.proofs.Common.{◌≡◌, ℕ, ◌<◌, ◌≤◌, nat_lt, nat_le, Bool, true, false, cond, List, [], ◌∷◌, refl, sym, ◌∙◌, ap, arith, inl, inr, Some}
use Rattle.std.specs.Prelude.{◌&&◌, ◌==◌, option_and_then}
use Rattle.std.specs.List.{AllByRecursion, IsDistinct}
use Rattle.std.proofs.lemmas.Bool.{and_from, eq-eqb, false≢true, ltb-true, ltb-false}
use Rattle.std.proofs.lemmas.Map.Text.{is_eq-slice_cmp}
use Rattle.std.proofs.lemmas.Slice.Eq.{bytes_eq-Decides}
use Rattle.bl_code.specs.Order.{same_bytes}
use Rattle.bl_code.proofs.Basics.{all_from}
use Rattle.bl_entry.specs.Revisions.{Revision, later, newest, seen, value_at}
use Rattle.bl_out.proofs.AmongLemmas.{Among, all_at, among_filter, to_filter}
use Rattle.bl_out.specs.Values.{same_revision}

both_true : (a b : Bool) → (a && b) ≡ true → (a ≡ true) × (b ≡ true)
both_true true b h = (refl, h)
both_true false b h = cc

same_key : (k q : List ℕ) → same_bytes k q ≡ true → k ≡ q
same_key k q e = (bytes_eq-Decides k q).0 (sym (is_eq-slice_cmp k q) ∙ e)

key_same : (k q : List ℕ) → k ≡ q → same_bytes k q ≡ true
key_same k q e = is_eq-slice_cmp k q ∙ (bytes_eq-Decides k q).1 e

-- ---- the greatest of several

record IsGreatest (es : List Revision) (r : Revision) : Type 0 where
  is : newest es ≡ Some r
  there : Among r es
  most : AllByRecursion (λ q. q.seq ≤ r.seq) es

module _ (e d : Revision) (es : List Revision) (r : Revision) (g : IsGreatest (d ∷ es) r) where
  step : (b : Bool) → nat_lt e.seq r.seq ≡ b → (q : Revision) × IsGreatest (e ∷ d ∷ es) q
  step true t =
      let less : e.seq < r.seq = ltb-true e.seq r.seq t in
      (r, record { is = ap (λ o. Some (later e o)) g.is ∙ ap (λ b. Some (cond b r e)) t; there = inr g.there; most = (omega arith, g.most) })
  step false f =
      let le : r.seq ≤ e.seq = ltb-false e.seq r.seq f in (
        e,
        record {
          is = ap (λ o. Some (later e o)) g.is ∙ ap (λ b. Some (cond b r e)) f;
          there = inl refl;
          most = (omega arith, all_from (λ q. q.seq ≤ r.seq) (λ q. q.seq ≤ e.seq) (d ∷ es) (λ q h. omega arith) g.most);
        },
      )

greatest : (e : Revision) (es : List Revision) → (r : Revision) × IsGreatest (e ∷ es) r
greatest e [] = (e, record { is = refl; there = inl refl; most = (omega arith, tt) })
greatest e (d ∷ es) = let g = greatest d es in step e d es g.0 g.1 (nat_lt e.seq g.0.seq) refl

same_newest : (zs ws : List Revision) → ((q : Revision) → Among q ws → Among q zs) → ((q : Revision) → Among q zs → Among q ws)
    → ((a b : Revision) → Among a zs → Among b zs → a.seq ≡ b.seq → a ≡ b) → newest ws ≡ newest zs
same_newest [] [] sub to one = refl
same_newest [] (w ∷ ws) sub to one = absurd (sub w (inl refl))
same_newest (z ∷ zs) [] sub to one = absurd (to z (inl refl))
same_newest (z ∷ zs) (w ∷ ws) sub to one =
    let g = greatest z zs in
    let k = greatest w ws in
    let low : k.0.seq ≤ g.0.seq = all_at (λ q. q.seq ≤ g.0.seq) (z ∷ zs) k.0 g.1.most (sub k.0 k.1.there) in
    let high : g.0.seq ≤ k.0.seq = all_at (λ q. q.seq ≤ k.0.seq) (w ∷ ws) g.0 k.1.most (to g.0 g.1.there) in
    k.1.is ∙ ap Some (one k.0 g.0 (sub k.0 k.1.there) g.1.there (omega arith)) ∙ sym g.1.is

-- ---- of a user key and sequence there is one revision

not_distinct : (a b : Revision) → same_revision a b ≡ false → a.key ≡ b.key → a.seq ≡ b.seq → ⊥
not_distinct a b n k s = false≢true (sym n ∙ and_from (same_bytes a.key b.key) (a.seq == b.seq) (key_same a.key b.key k) (eq-eqb a.seq b.seq s))

one_revision : (xs : List Revision) → IsDistinct same_revision xs → (a b : Revision) → Among a xs → Among b xs → a.key ≡ b.key → a.seq ≡ b.seq → a ≡ b
unfolding IsDistinct
one_revision [] p a b h k key seq = absurd h
one_revision (x ∷ xs) p a b (inl is) (inl it) key seq = sym is ∙ it
one_revision (x ∷ xs) p a b (inl is) (inr k) key seq =
    absurd (not_distinct x b (all_at (λ r. same_revision x r ≡ false) xs b p.0 k) (ap (λ (r : Revision). r.key) is ∙ key) (ap (λ (r : Revision). r.seq) is ∙ seq))
one_revision (x ∷ xs) p a b (inr h) (inl it) key seq =
    absurd (not_distinct x a (all_at (λ r. same_revision x r ≡ false) xs a p.0 h) (ap (λ (r : Revision). r.key) it ∙ sym key) (ap (λ (r : Revision). r.seq) it ∙ sym seq))
one_revision (x ∷ xs) p a b (inr h) (inr k) key seq = one_revision xs p.1 a b h k key seq

-- ---- lists with the same revisions up to a sequence tell the same values there

module _ (xs ys : List Revision) (s : ℕ) (key : List ℕ) where
  is_seen : Revision → Bool
  is_seen e = same_bytes e.key key && nat_le e.seq s

  pub same_value : IsDistinct same_revision xs → ((q : Revision) → Among q ys → nat_le q.seq s ≡ true → Among q xs) → ((q : Revision) → Among q xs → nat_le q.seq s ≡ true → Among q ys)
      → value_at ys s key ≡ value_at xs s key
  unfolding is_seen
  same_value distinct sub to =
      ap (option_and_then (λ e. e.put))
      (same_newest (seen s key xs) (seen s key ys)
      (λ q h. let a = among_filter is_seen ys q h in to_filter is_seen xs q (sub q a.0 (both_true (same_bytes q.key key) (nat_le q.seq s) a.1).1) a.1)
      (λ q h. let a = among_filter is_seen xs q h in to_filter is_seen ys q (to q a.0 (both_true (same_bytes q.key key) (nat_le q.seq s) a.1).1) a.1)
      (λ a b h k seq.
      let p = among_filter is_seen xs a h in
      let q = among_filter is_seen xs b k in
      one_revision xs distinct a b p.0 q.0
      (same_key a.key key (both_true (same_bytes a.key key) (nat_le a.seq s) p.1).0 ∙ sym (same_key b.key key (both_true (same_bytes b.key key) (nat_le b.seq s) q.1).0)) seq))
