-- The first entry that is seen.
use Rattle.std.proofs.Common.{◌≡◌, ℕ, ◌+◌, ◌*◌, ◌<◌, ◌≤◌, min, nat_lt, Bool, true, false, cond, List, [], ◌∷◌, length, Option, Some, None, refl, sym, ◌∙◌, ap, subst, arith, rules}
use Rattle.std.specs.Prelude.{◌&&◌, not, nat_le, flat_map, map, option_and_then, slice_get, IfSome}
use Rattle.std.specs.List.{AllByRecursion}
use Rattle.std.specs.Cmp.{tied_itself}
use Rattle.std.specs.Cmp.Lexicographic.{nat_list_cmp_total}
use Rattle.std.specs.Option.{option_map}
use Rattle.std.specs.List.Sorted.{IsPermutation}
use Rattle.std.proofs.lemmas.List.Sorted.{IsPermutation-cons, IsPermutation-refl, IsPermutation-trans}
use Rattle.std.specs.Ordering.{is_eq, is_lt, nat_cmp, ordering_reverse, ordering_then}
use Rattle.std.specs.declared.cmp.Ordering.{Ordering}
use Rattle.std.specs.declared.cmp.Ordering.TheVariants.{Less, Equal, Greater}
use Rattle.std.proofs.lemmas.Bool.{false≢true, true≢false}
use Rattle.std.proofs.lemmas.Map.Text.{is_eq-slice_cmp}
use Rattle.std.proofs.lemmas.Slice.Eq.{bytes_eq-Decides}
use Rattle.bl_code.specs.Order.{bytes_cmp, same_bytes}
use Rattle.bl_entry.specs.declared.key.Entry.{Entry}
use Rattle.bl_entry.specs.declared.key.Kind.{Kind}
use Rattle.bl_entry.specs.declared.key.Kind.TheVariants.{Deletion, Value, BlobRef}
use Rattle.bl_entry.specs.Entries.{AreInOrder, stands_before}
use Rattle.bl_entry.specs.Latest.{is_seen, latest}
use Rattle.bl_entry.specs.Keys.{IsKey, Key, key_cmp, key_number, kind_number, max_seq}
use Rattle.bl_merge.specs.Laws.{MergedIsAll, MergedIsInOrder, TiesStay, LatestTellsTheValue, revision_by}
use Rattle.bl_merge.specs.Lists.{from_on, in_order, put_in, of_user, seen_from}
use Rattle.bl_entry.specs.Revisions.{later, newest, seen}
use Rattle.bl_merge.proofs.HandLemmas.{by_test}
use Rattle.bl_merge.proofs.OrderLemmas.{filtered_in_order, ordered}

kind_small : (k : Kind) → kind_number k ≤ 17
kind_small Deletion = omega arith
kind_small Value = omega arith
kind_small BlobRef = omega arith

same_key : (k q : List ℕ) → same_bytes k q ≡ true → k ≡ q
same_key k q e = (bytes_eq-Decides k q).0 (sym (is_eq-slice_cmp k q) ∙ e)

equal_of : (o : Ordering) → is_eq o ≡ true → o ≡ Equal
equal_of Less h = absurd (false≢true h)
equal_of Equal h = refl
equal_of Greater h = absurd (false≢true h)

number_lt : (a b : ℕ) → is_lt (nat_cmp a b) ≡ true → a < b
number_lt a b h = grind arith

number_not_lt : (a b : ℕ) → is_lt (nat_cmp a b) ≡ false → b ≤ a
number_not_lt a b h = grind arith

above : (a b : ℕ) → b < a → nat_le a b ≡ false
above a b lt = grind arith

within : (a b : ℕ) → a ≤ b → nat_le a b ≡ true
within a b le = grind arith

and_false : (a : Bool) → (a && false) ≡ false
and_false true = refl
and_false false = refl

module _ (key : List ℕ) (seq : ℕ) where
  before : Entry → Bool
  before e = is_lt (key_cmp e.key (seen_from key seq))

  -- of the user key itself the numbers decide
  by_number : (x : Entry) → same_bytes x.key.user key ≡ true → is_lt (key_cmp x.key (seen_from key seq)) ≡ is_lt (nat_cmp (key_number (seen_from key seq)) (key_number x.key))
  by_number x s = ap (λ o. is_lt (ordering_then o (nat_cmp (key_number (seen_from key seq)) (key_number x.key)))) (equal_of (bytes_cmp x.key.user key) s)

  unseen_before : (x : Entry) → IsKey x.key → is_lt (key_cmp x.key (seen_from key seq)) ≡ true → is_seen key seq x ≡ false
  unseen_before x k b =
      by_test (same_bytes x.key.user key)
      (λ s.
      let lt : min seq max_seq * 256 + 17 < x.key.seq * 256 + kind_number x.key.kind = number_lt (min seq max_seq * 256 + 17) (x.key.seq * 256 + kind_number x.key.kind) (sym (by_number x s) ∙ b) in
      let small : kind_number x.key.kind ≤ 17 = kind_small x.key.kind in
      let most : x.key.seq ≤ max_seq = k.seq in
      ap (λ t. same_bytes x.key.user key && t) (above x.key.seq seq (omega arith)) ∙ and_false (same_bytes x.key.user key))
      (λ s. ap (λ t. t && nat_le x.key.seq seq) s)

  seen_at : (x : Entry) → is_lt (key_cmp x.key (seen_from key seq)) ≡ false → same_bytes x.key.user key ≡ true → is_seen key seq x ≡ true
  seen_at x b s =
      let le : x.key.seq * 256 + kind_number x.key.kind ≤ min seq max_seq * 256 + 17 = number_not_lt (min seq max_seq * 256 + 17) (x.key.seq * 256 + kind_number x.key.kind) (sym (by_number x s) ∙ b) in
      ap (λ t. t && nat_le x.key.seq seq) s ∙ within x.key.seq seq (omega arith)

  -- a user key behind the one that is looked for, and what does not stand before an entry of it
  greater_of : (o : Ordering) (n : Ordering) → is_lt (ordering_then o n) ≡ false → is_eq o ≡ false → o ≡ Greater
  greater_of Less n b e = absurd (true≢false b)
  greater_of Equal n b e = absurd (true≢false e)
  greater_of Greater n b e = refl

  user_behind : (x y : List ℕ) (n : Ordering) → bytes_cmp x key ≡ Greater → is_lt (ordering_then (bytes_cmp y x) n) ≡ false → same_bytes y key ≡ false
  user_behind x y n g b = by (bytes_cmp y x) refl b
    where
      turned : bytes_cmp key x ≡ Less
      turned = nat_list_cmp_total.antisymm key x ∙ ap ordering_reverse g

      greater : bytes_cmp key y ≡ Less → is_eq (bytes_cmp y key) ≡ false
      greater l = ap is_eq (nat_list_cmp_total.antisymm y key ∙ ap ordering_reverse l)

      by : (o : Ordering) → bytes_cmp y x ≡ o → is_lt (ordering_then o n) ≡ false → is_eq (bytes_cmp y key) ≡ false
      by Less e h = absurd (true≢false h)
      by Equal e h = ap is_eq (nat_list_cmp_total.congr y x key e ∙ g)
      by Greater e h = greater (nat_list_cmp_total.trans key x y turned (nat_list_cmp_total.antisymm x y ∙ ap ordering_reverse e))

  none_behind : (x : Entry) (ys : List Entry) → bytes_cmp x.key.user key ≡ Greater → AllByRecursion (λ y. stands_before y x ≡ false) ys → latest key seq ys ≡ None
  none_behind x [] g h = refl
  none_behind x (y ∷ ys) g h =
      let unseen : is_seen key seq y ≡ false =
      ap (λ t. t && nat_le y.key.seq seq) (user_behind x.key.user y.key.user (nat_cmp (key_number x.key) (key_number y.key)) g h.0) in
      ap (λ b. cond b (Some y) (latest key seq ys)) unseen ∙ none_behind x ys g h.1

  pub first_seen : (es : List Entry) → AllByRecursion (λ e. IsKey e.key) es → AreInOrder es → of_user key (slice_get (from_on (seen_from key seq) es) 0) ≡ latest key seq es
  first_seen [] k o = refl
  first_seen (x ∷ es) k o =
      let from : Key = seen_from key seq in
      by_test (is_lt (key_cmp x.key from))
      (λ b.
      ap (λ t. of_user key (slice_get (cond (not t) (x ∷ from_on from es) (from_on from es)) 0)) b ∙ first_seen es k.1 o.1
      ∙ sym (ap (λ t. cond t (Some x) (latest key seq es)) (unseen_before x k.0 b)))
      (λ b.
      ap (λ t. of_user key (slice_get (cond (not t) (x ∷ from_on from es) (from_on from es)) 0)) b
      ∙ by_test (same_bytes x.key.user key)
      (λ s. ap (λ t. cond t (Some x) None) s ∙ sym (ap (λ t. cond t (Some x) (latest key seq es)) (seen_at x b s)))
      (λ s.
      let greater : bytes_cmp x.key.user key ≡ Greater = greater_of (bytes_cmp x.key.user key) (nat_cmp (key_number from) (key_number x.key)) b s in
      ap (λ t. cond t (Some x) None) s
      ∙ sym (ap (λ t. cond (t && nat_le x.key.seq seq) (Some x) (latest key seq es)) s ∙ none_behind x es greater o.0)))

  -- of no user key that keys have there is none
  pub none_of : (es : List Entry) → AllByRecursion (λ e. IsKey e.key) es → ((1 ≤ length key) × (length key ≤ 65535) → ⊥) → latest key seq es ≡ None
  none_of [] k never = refl
  none_of (x ∷ es) k never =
      let unseen : is_seen key seq x ≡ false =
      by_test (same_bytes x.key.user key)
      (λ s. absurd (never (of_length x.key.user s (k.0.some, k.0.no_longer))))
      (λ s. ap (λ t. t && nat_le x.key.seq seq) s) in
      ap (λ b. cond b (Some x) (latest key seq es)) unseen ∙ none_of es k.1 never
    where
      of_length : (user : List ℕ) → same_bytes user key ≡ true → (1 ≤ length user) × (length user ≤ 65535) → (1 ≤ length key) × (length key ≤ 65535)
      of_length user s h = subst (λ (k : List ℕ). (1 ≤ length k) × (length k ≤ 65535)) (same_key user key s) h

pub of_user_none : (key : List ℕ) (found : Option Entry) (P : Entry → Type 0) → IfSome found P → IfSome (of_user key found) P
of_user_none key None P h = tt
of_user_none key (Some e) P h = elim (same_bytes e.key.user key) as (λ b. IfSome (cond b (Some e) None) P) [ true ↦ h | false ↦ tt ]

pub some_is : (found : Option Key) (from : Key) (key : List ℕ) (seq : ℕ) → found ≡ Some from → IfSome found (λ k. k ≡ seen_from key seq) → from ≡ seen_from key seq
some_is found from key seq is h = subst (λ (o : Option Key). IfSome o (λ k. k ≡ seen_from key seq)) is h

-- ---- laws

swap_two : (x y : Entry) (ys : List Entry) → IsPermutation (x ∷ y ∷ ys) (y ∷ x ∷ ys)
swap_two x y ys = record { moves = (0, 1) ∷ []; below = search rules; is = refl }

put_permutes : (x : Entry) (ys : List Entry) → IsPermutation (x ∷ ys) (put_in x ys)
put_permutes x [] = IsPermutation-refl (x ∷ [])
put_permutes x (y ∷ ys) =
    by_test (stands_before y x)
    (λ t.
    subst (IsPermutation (x ∷ y ∷ ys)) (sym (ap (λ b. cond b (y ∷ put_in x ys) (x ∷ y ∷ ys)) t))
    (IsPermutation-trans (x ∷ y ∷ ys) (y ∷ x ∷ ys) (y ∷ put_in x ys) (swap_two x y ys) (IsPermutation-cons y (x ∷ ys) (put_in x ys) (put_permutes x ys))))
    (λ t. subst (IsPermutation (x ∷ y ∷ ys)) (sym (ap (λ b. cond b (y ∷ put_in x ys) (x ∷ y ∷ ys)) t)) (IsPermutation-refl (x ∷ y ∷ ys)))

in_order_permutes : (xs : List Entry) → IsPermutation xs (in_order xs)
in_order_permutes [] = IsPermutation-refl []
in_order_permutes (x ∷ xs) =
    IsPermutation-trans (x ∷ xs) (x ∷ in_order xs) (put_in x (in_order xs)) (IsPermutation-cons x xs (in_order xs) (in_order_permutes xs)) (put_permutes x (in_order xs))

pub merged_all : MergedIsAll
merged_all lists = in_order_permutes (flat_map (λ es. es) lists)

pub merged_in_order : MergedIsInOrder
merged_in_order lists = ordered (flat_map (λ es. es) lists)

pub ties_stay : TiesStay
ties_stay test es = sym (filtered_in_order test es)

not_lt : (a b : ℕ) → b ≤ a → nat_lt a b ≡ false
not_lt a b le = grind arith

no_later : (key : List ℕ) (seq : ℕ) (x y : Entry) → stands_before y x ≡ false → is_seen key seq x ≡ true → is_seen key seq y ≡ true → y.key.seq ≤ x.key.seq
no_later key seq x y b sx sy =
    let own : y.key.user ≡ x.key.user = same_key y.key.user key (first (same_bytes y.key.user key) (nat_le y.key.seq seq) sy) ∙ sym (same_key x.key.user key (first (same_bytes x.key.user key) (nat_le x.key.seq seq) sx)) in
    let tied : bytes_cmp y.key.user x.key.user ≡ Equal = ap (λ u. bytes_cmp u x.key.user) own ∙ tied_itself nat_list_cmp_total x.key.user in
    let number : key_number y.key ≤ key_number x.key =
    number_not_lt (key_number x.key) (key_number y.key) (sym (ap (λ o. is_lt (ordering_then o (nat_cmp (key_number x.key) (key_number y.key)))) tied) ∙ b) in
    let p : kind_number x.key.kind ≤ 17 = kind_small x.key.kind in
    let q : kind_number y.key.kind ≤ 17 = kind_small y.key.kind in
    omega arith
  where
    first : (a b : Bool) → (a && b) ≡ true → a ≡ true
    first true b h = refl
    first false b h = h

seen_skips : (put : Entry → Option (List ℕ)) (key : List ℕ) (seq : ℕ) (x : Entry) (es : List Entry) (b : Bool) → is_seen key seq x ≡ b
    → seen seq key (map (revision_by put) (x ∷ es)) ≡ cond b (revision_by put x ∷ seen seq key (map (revision_by put) es)) (seen seq key (map (revision_by put) es))
seen_skips put key seq x es b h = ap (λ t. cond t (revision_by put x ∷ seen seq key (map (revision_by put) es)) (seen seq key (map (revision_by put) es))) h

found_is : (key : List ℕ) (seq : ℕ) (x : Entry) (es : List Entry) (y : Entry) → latest key seq es ≡ Some y → is_seen key seq x ≡ true → AllByRecursion (λ z. stands_before z x ≡ false) es → y.key.seq ≤ x.key.seq
found_is key seq x [] y f sx h = absurd cc
found_is key seq x (z ∷ es) y f sx h =
    by_test (is_seen key seq z)
    (λ t.
    let same : Some z ≡ Some y = sym (ap (λ b. cond b (Some z) (latest key seq es)) t) ∙ f in
    let is : z ≡ y = cc in
    subst (λ (e : Entry). e.key.seq ≤ x.key.seq) is (no_later key seq x z h.0 sx t))
    (λ t. found_is key seq x es y (sym (ap (λ b. cond b (Some z) (latest key seq es)) t) ∙ f) sx h.1)

keeps_first : (put : Entry → Option (List ℕ)) (key : List ℕ) (seq : ℕ) (x : Entry) (es : List Entry) (found : Option Entry) → latest key seq es ≡ found → is_seen key seq x ≡ true → AllByRecursion (λ z. stands_before z x ≡ false) es
    → later (revision_by put x) (option_map (revision_by put) found) ≡ revision_by put x
keeps_first put key seq x es None f sx h = refl
keeps_first put key seq x es (Some y) f sx h =
    ap (λ b. cond b (revision_by put y) (revision_by put x)) (not_lt x.key.seq y.key.seq (found_is key seq x es y f sx h))

newest_is : (put : Entry → Option (List ℕ)) (key : List ℕ) (seq : ℕ) (es : List Entry) → AreInOrder es → newest (seen seq key (map (revision_by put) es)) ≡ option_map (revision_by put) (latest key seq es)
newest_is put key seq [] up = refl
newest_is put key seq (x ∷ es) up =
    by_test (is_seen key seq x)
    (λ h.
    ap newest (seen_skips put key seq x es true h)
    ∙ ap (λ o. Some (later (revision_by put x) o)) (newest_is put key seq es up.1)
    ∙ ap Some (keeps_first put key seq x es (latest key seq es) refl h up.0)
    ∙ sym (ap (λ b. option_map (revision_by put) (cond b (Some x) (latest key seq es))) h))
    (λ h.
    ap newest (seen_skips put key seq x es false h) ∙ newest_is put key seq es up.1
    ∙ sym (ap (λ b. option_map (revision_by put) (cond b (Some x) (latest key seq es))) h))

put_of_found : (put : Entry → Option (List ℕ)) (found : Option Entry) → option_and_then (λ r. r.put) (option_map (revision_by put) found) ≡ option_and_then put found
put_of_found put None = refl
put_of_found put (Some e) = refl

pub latest_tells : LatestTellsTheValue
latest_tells put es key seq up = ap (option_and_then (λ r. r.put)) (newest_is put key seq es up) ∙ put_of_found put (latest key seq es)
