-- What is kept of a memory stands in the order of an output: of one user key with falling sequences.
use Rattle.std.proofs.Common.{◌≡◌, ℕ, ◌<◌, nat_lt, Bool, true, false, cond, List, [], ◌∷◌, refl, sym, ◌∙◌, ap, arith, inl, inr}
use Rattle.std.specs.Prelude.{◌==◌, ◌&&◌, not, filter, map}
use Rattle.std.specs.List.{AllByRecursion, list_any}
use Rattle.std.specs.List.Sorted.{IsStrictlySortedBy}
use Rattle.std.specs.Ordering.{is_eq, is_lt, nat_cmp, ordering_then}
use Rattle.std.specs.declared.cmp.Ordering.{Ordering}
use Rattle.std.specs.declared.cmp.Ordering.TheVariants.{Less, Equal, Greater}
use Rattle.std.proofs.lemmas.Bool.{and_from, and_parts, cases_eq, eq-eqb, false≢true, ltb-true, or_parts}
use Rattle.std.proofs.lemmas.Map.Text.{is_eq-slice_cmp}
use Rattle.std.proofs.lemmas.Slice.Eq.{bytes_eq-Decides}
use Rattle.bl_code.specs.Order.{bytes_cmp, same_bytes}
use Rattle.bl_entry.specs.declared.key.Entry.{Entry}
use Rattle.bl_entry.specs.Entries.{IsAscending, stands_before}
use Rattle.bl_entry.specs.Keys.{key_cmp, key_number, kind_number}
use Rattle.bl_entry.specs.Kept.{alike, is_newest, kept, stripe}
use Rattle.bl_entry.proofs.OrderLemmas.{kind_small}
use Rattle.bl_out.specs.Outputs.{IsBehind}
use Rattle.bl_out.specs.Reads.{AreBehind}
use Rattle.bl_out.proofs.AmongLemmas.{Among, all_at, all_by, among_filter, among_map}

nat_before : (a b : ℕ) → is_lt (nat_cmp a b) ≡ true → a < b
nat_before a b h = by (nat_lt a b) refl
  where
    not_lt : nat_lt a b ≡ false → is_lt (nat_cmp a b) ≡ false
    not_lt e = grind arith

    by : (t : Bool) → nat_lt a b ≡ t → a < b
    by true e = ltb-true a b e
    by false e = absurd (false≢true (sym (not_lt e) ∙ h))

same_key : (k q : List ℕ) → same_bytes k q ≡ true → k ≡ q
same_key k q e = (bytes_eq-Decides k q).0 (sym (is_eq-slice_cmp k q) ∙ e)

-- an entry that stands before another one and is not like it: of another user key, or of a greater sequence
behind_of : (snapshots : List ℕ) (x e : Entry) → key_cmp x.key e.key ≡ Less → (alike snapshots x e && stands_before x e) ≡ false → IsBehind e x
behind_of snapshots x e lt unlike = by (bytes_cmp x.key.user e.key.user) refl
  where
    by : (o : Ordering) → bytes_cmp x.key.user e.key.user ≡ o → IsBehind e x
    by Less h = inl h
    by Greater h = absurd (false≢true (ap is_lt (sym (ap (λ o. ordering_then o (nat_cmp (key_number e.key) (key_number x.key))) h) ∙ lt)))
    by Equal h =
        let same : same_bytes x.key.user e.key.user ≡ true = ap is_eq h in
        let number : key_number e.key < key_number x.key = nat_before (key_number e.key) (key_number x.key) (ap is_lt (sym (ap (λ o. ordering_then o (nat_cmp (key_number e.key) (key_number x.key))) h) ∙ lt)) in
        let small_x : kind_number x.key.kind < 256 = kind_small x.key.kind in
        let small_e : kind_number e.key.kind < 256 = kind_small e.key.kind in
        elim (cases_eq x.key.seq e.key.seq) [
          | inl seqs ↦
              let stripes : (stripe snapshots x.key.seq == stripe snapshots e.key.seq) ≡ true = eq-eqb (stripe snapshots x.key.seq) (stripe snapshots e.key.seq) (ap (stripe snapshots) seqs) in
              absurd (false≢true (sym unlike ∙ and_from (alike snapshots x e) (stands_before x e) (and_from (same_bytes x.key.user e.key.user) (stripe snapshots x.key.seq == stripe snapshots e.key.seq) same stripes) (ap is_lt lt)))
          | inr other ↦ inr (same_key x.key.user e.key.user same, omega (arith, other))
        ]

none_each : {A : Type 0} (p : A → Bool) (xs : List A) → list_any p xs ≡ false → AllByRecursion (λ x. p x ≡ false) xs
none_each p [] h = tt
none_each p (x ∷ xs) h = let t = or_parts (p x) (list_any p xs) h in (t.0, none_each p xs t.1)

from_not_true : (b : Bool) → not b ≡ true → b ≡ false
from_not_true true h = absurd (false≢true h)
from_not_true false h = refl

kept_pairs : (snapshots : List ℕ) (all es : List Entry) → ((x : Entry) → Among x es → Among x all) → IsAscending es → AreBehind (filter (λ e. is_newest snapshots all e && true) es)
unfolding IsStrictlySortedBy
kept_pairs snapshots all [] inside up = tt
kept_pairs snapshots all (x ∷ es) inside up = by (is_newest snapshots all x && true) each (kept_pairs snapshots all es (λ y there. inside y (inr there)) up.1)
  where
    unlike : (y : Entry) → (is_newest snapshots all y && true) ≡ true → (alike snapshots x y && stands_before x y) ≡ false
    unlike y h =
        all_at (λ z. (alike snapshots z y && stands_before z y) ≡ false) all x
        (none_each (λ z. alike snapshots z y && stands_before z y) all (from_not_true (list_any (λ z. alike snapshots z y && stands_before z y) all) (and_parts (is_newest snapshots all y) true h).0)) (inside x (inl refl))

    each : AllByRecursion (λ y. IsBehind y x) (filter (λ e. is_newest snapshots all e && true) es)
    each =
        all_by (λ y. IsBehind y x) (filter (λ e. is_newest snapshots all e && true) es) (λ y there.
        let f = among_filter (λ e. is_newest snapshots all e && true) es y there in
        behind_of snapshots x y (all_at (λ k. key_cmp x.key k ≡ Less) (map (λ e. e.key) es) y.key up.0 (among_map (λ (e : Entry). e.key) es y f.0)) (unlike y f.1))

    by : (b : Bool) → AllByRecursion (λ y. IsBehind y x) (filter (λ e. is_newest snapshots all e && true) es) → AreBehind (filter (λ e. is_newest snapshots all e && true) es)
        → AreBehind (cond b (x ∷ filter (λ e. is_newest snapshots all e && true) es) (filter (λ e. is_newest snapshots all e && true) es))
    by true h k = (h, k)
    by false h k = k

pub kept_are_behind : (snapshots : List ℕ) (memory : List Entry) → IsAscending memory → AreBehind (kept snapshots false memory)
kept_are_behind snapshots memory up = kept_pairs snapshots memory memory (λ x there. there) up
