-- An entry in its place, and the first entry from a place on.
use Rattle.std.proofs.Common.{◌≡◌, ◌≢◌, ℕ, zero, suc, ◌+◌, ◌*◌, ◌<◌, ◌≤◌, Bool, true, false, cond, List, [], ◌∷◌, ◌++◌, take, drop, map, refl, sym, ◌∙◌, ap, subst, arith}
use Rattle.std.specs.Prelude.{find, filter, not, ◌&&◌, nat_le, Some, None, option_and_then}
use Rattle.std.specs.Cmp.{alike_right}
use Rattle.std.specs.Cmp.Lexicographic.{nat_list_cmp_total}
use Rattle.std.specs.List.{AllByRecursion, prefix_len, insert}
use Rattle.std.specs.List.Sorted.{IsStrictlySortedBy}
use Rattle.std.specs.Ordering.{nat_cmp, is_lt, is_le, is_gt, is_ge, is_eq, ordering_reverse, ordering_then}
use Rattle.std.specs.declared.cmp.Ordering.{Ordering}
use Rattle.std.specs.declared.cmp.Ordering.TheVariants.{Less, Equal, Greater}
use Rattle.std.proofs.lemmas.Bool.{false≢true, le-leb}
use Rattle.bl_code.specs.Order.{bytes_cmp, same_bytes}
use Rattle.bl_code.proofs.Basics.{all_from, less_is}
use Rattle.bl_entry.specs.declared.key.Entry.{Entry}
use Rattle.bl_entry.specs.Entries.{IsAscending, stands_before}
use Rattle.bl_entry.specs.Keys.{Key, KeysDiffer, key_cmp, key_number, kind_number}
use Rattle.bl_entry.specs.Latest.{is_seen, latest}
use Rattle.bl_entry.proofs.ListLemmas.{by_test}
use Rattle.bl_entry.proofs.OrderLemmas.{AreBehind, eq_of, key_total, kind_small, nat_cmp_ge, nat_cmp_lt}
use Rattle.bl_memtab.specs.Rows.{before, if_of_user, is_before}
use Rattle.bl_memtab.specs.Tables.{IsFree, with_entry, is_reached, after}
use Rattle.bl_memtab.proofs.Cuts.{filter_back, filter_front, find_none, find_same}
use Rattle.bl_memtab.proofs.Orders.{before_cut}

-- ---- an entry in its place

turned_apart : KeysDiffer → (a b : Key) → a ≢ b → is_lt (key_cmp b a) ≡ not (is_lt (key_cmp a b))
turned_apart differ a b apart = ap is_lt (key_total.antisymm b a) ∙ turned (key_cmp a b) refl
  where
    turned : (o : Ordering) → key_cmp a b ≡ o → is_lt (ordering_reverse o) ≡ not (is_lt o)
    turned Less e = refl
    turned Equal e = absurd (apart (differ a b e))
    turned Greater e = refl

each_apart : KeysDiffer → (entry : Entry) (es : List Entry) → IsFree entry.key es → AllByRecursion (λ e. stands_before entry e ≡ not (before entry.key e)) es
each_apart differ entry [] h = tt
each_apart differ entry (e ∷ es) h = (turned_apart differ e.key entry.key h.0, each_apart differ entry es h.1)

pub with_entry_is : KeysDiffer → (entry : Entry) (es : List Entry) → IsAscending es → IsFree entry.key es
    → with_entry entry es ≡ insert es (prefix_len (before entry.key) es) entry
with_entry_is differ entry es up free =
    let cut = before_cut entry.key.user (key_number entry.key) false es up in
    let front : filter (λ e. stands_before e entry) es ≡ take (prefix_len (before entry.key) es) es = filter_front (before entry.key) es cut in
    let back : filter (λ e. stands_before entry e) es ≡ drop (prefix_len (before entry.key) es) es
    = filter_back (before entry.key) (λ e. stands_before entry e) es cut (each_apart differ entry es free) in
    λ i. front i ++ entry ∷ back i

behind_insert : (k : Key) (es : List Entry) (n : ℕ) (e : Entry) → AreBehind k es → key_cmp k e.key ≡ Less → AreBehind k (insert es n e)
behind_insert k [] zero e h lt = (lt, tt)
behind_insert k [] (suc n) e h lt = (lt, tt)
behind_insert k (x ∷ es) zero e h lt = (lt, h)
behind_insert k (x ∷ es) (suc n) e h lt = (h.0, behind_insert k es n e h.1 lt)

pub sorted_insert : KeysDiffer → (e : Entry) (es : List Entry) → IsAscending es → IsFree e.key es → IsAscending (insert es (prefix_len (before e.key) es) e)
unfolding IsStrictlySortedBy
sorted_insert differ e [] up free = (tt, tt)
sorted_insert differ e (x ∷ es) up free =
    let n : ℕ = prefix_len (before e.key) es in
    let one : 1 + n ≡ suc n = omega arith in
    by_test (before e.key x)
    (λ h.
    let whole : IsAscending (insert (x ∷ es) (suc n) e) = (behind_insert x.key es n e up.0 (less_is (key_cmp x.key e.key) h), sorted_insert differ e es up.1 free.1) in
    subst (λ k. IsAscending (insert (x ∷ es) k e)) (sym (ap (λ b. cond b (1 + n) 0) h ∙ one)) whole)
    (λ h.
    let first : key_cmp e.key x.key ≡ Less = less_is (key_cmp e.key x.key) (turned_apart differ x.key e.key free.0 ∙ ap not h) in
    let rest : AreBehind e.key es = all_from (λ q. key_cmp x.key q ≡ Less) (λ q. key_cmp e.key q ≡ Less) (map (λ y. y.key) es) (λ q lt. key_total.trans e.key x.key q first lt) up.0 in
    let whole : IsAscending (insert (x ∷ es) 0 e) = ((first, rest), up) in
    subst (λ k. IsAscending (insert (x ∷ es) k e)) (sym (ap (λ b. cond b (1 + n) 0) h)) whole)

-- ---- the first entry at a key or behind it

reached_is : (from : Key) (strict : Bool) (e : Entry) → not (is_before from.user (key_number from) strict e) ≡ is_reached from strict e
reached_is from true e = behind (key_cmp e.key from)
  where
    behind : (o : Ordering) → not (is_le o) ≡ is_gt o
    behind Less = refl
    behind Equal = refl
    behind Greater = refl
reached_is from false e = here (key_cmp e.key from)
  where
    here : (o : Ordering) → not (is_lt o) ≡ is_ge o
    here Less = refl
    here Equal = refl
    here Greater = refl

pub after_is : (from : Key) (user : List ℕ) (number : ℕ) (strict : Bool) (es : List Entry) → user ≡ from.user → number ≡ key_number from
    → find (λ e. not (is_before user number strict e)) es ≡ after from strict es
after_is from user number strict es u n =
    (λ i. find (λ e. not (is_before (u i) (n i) strict e)) es)
    ∙ find_same (λ e. not (is_before from.user (key_number from) strict e)) (is_reached from strict) es (reached_is from strict)

-- ---- the latest entry of a user key

nat_le_false : (a b : ℕ) → b < a → nat_le a b ≡ false
nat_le_false a b lt = grind arith

-- behind all kinds of a sequence
abbrev last_number : ℕ → ℕ
last_number seq = seq * 256 + 255

abbrev is_early : List ℕ → ℕ → Entry → Bool
is_early key seq e = is_before key (last_number seq) false e

early_unseen : (key : List ℕ) (seq : ℕ) (e : Entry) → is_early key seq e ≡ true → is_seen key seq e ≡ false
early_unseen key seq e h = by (bytes_cmp e.key.user key) refl
  where
    by : (o : Ordering) → bytes_cmp e.key.user key ≡ o → is_seen key seq e ≡ false
    by Less is = ap (λ o. is_eq o && nat_le e.key.seq seq) is
    by Equal is =
        let small : kind_number e.key.kind < 256 = kind_small e.key.kind in
        let number : last_number seq < key_number e.key = nat_cmp_lt (last_number seq) (key_number e.key) (sym (ap (λ o. is_lt (ordering_then o (nat_cmp (last_number seq) (key_number e.key)))) is) ∙ h) in
        ap (λ o. is_eq o && nat_le e.key.seq seq) is ∙ nat_le_false e.key.seq seq (omega arith)
    by Greater is = absurd (false≢true (sym (ap (λ o. is_lt (ordering_then o (nat_cmp (last_number seq) (key_number e.key)))) is) ∙ h))

late_seen : (key : List ℕ) (seq : ℕ) (e : Entry) → is_early key seq e ≡ false → same_bytes e.key.user key ≡ true → is_seen key seq e ≡ true
late_seen key seq e h same =
    let is : bytes_cmp e.key.user key ≡ Equal = eq_of (bytes_cmp e.key.user key) same in
    let number : key_number e.key ≤ last_number seq = nat_cmp_ge (last_number seq) (key_number e.key) (sym (ap (λ o. is_lt (ordering_then o (nat_cmp (last_number seq) (key_number e.key)))) is) ∙ h) in
    ap (λ b. b && nat_le e.key.seq seq) same ∙ le-leb e.key.seq seq (omega arith)

late_other : (key : List ℕ) (seq : ℕ) (e : Entry) → is_early key seq e ≡ false → same_bytes e.key.user key ≡ false → bytes_cmp e.key.user key ≡ Greater
late_other key seq e h other = by (bytes_cmp e.key.user key) refl
  where
    by : (o : Ordering) → bytes_cmp e.key.user key ≡ o → bytes_cmp e.key.user key ≡ Greater
    by Less is = absurd (false≢true (sym h ∙ ap (λ o. is_lt (ordering_then o (nat_cmp (last_number seq) (key_number e.key)))) is))
    by Equal is = absurd (false≢true (sym other ∙ ap is_eq is))
    by Greater is = is

-- a later user key stands behind what an earlier one stands behind
user_behind : (key : List ℕ) (x y : Key) → bytes_cmp x.user key ≡ Greater → key_cmp x y ≡ Less → bytes_cmp y.user key ≡ Greater
user_behind key x y g lt = nat_list_cmp_total.antisymm y.user key ∙ ap ordering_reverse (by (bytes_cmp x.user y.user) refl)
  where
    below : bytes_cmp key x.user ≡ Less
    below = nat_list_cmp_total.antisymm key x.user ∙ ap ordering_reverse g

    by : (o : Ordering) → bytes_cmp x.user y.user ≡ o → bytes_cmp key y.user ≡ Less
    by Less is = nat_list_cmp_total.trans key x.user y.user below is
    by Equal is = sym (alike_right nat_list_cmp_total x.user y.user key is) ∙ below
    by Greater is = absurd (false≢true (ap is_lt (sym (ap (λ o. ordering_then o (nat_cmp (key_number y) (key_number x))) is) ∙ lt)))

others_unseen : (key : List ℕ) (seq : ℕ) (x : Entry) (es : List Entry) → bytes_cmp x.key.user key ≡ Greater → AreBehind x.key es → AllByRecursion (λ e. is_seen key seq e ≡ false) es
others_unseen key seq x [] g h = tt
others_unseen key seq x (e ∷ es) g h = (
  ap (λ o. is_eq o && nat_le e.key.seq seq) (user_behind key x.key e.key g h.0),
  others_unseen key seq x es g h.1,
)

latest_before : (key : List ℕ) (seq : ℕ) (es : List Entry) → IsAscending es
    → latest key seq es ≡ option_and_then (if_of_user key) (find (λ e. not (is_before key (last_number seq) false e)) es)
unfolding IsStrictlySortedBy
latest_before key seq [] up = refl
latest_before key seq (x ∷ es) up =
    let unseen = λ (b : Bool). cond b (Some x) (latest key seq es) in
    let first = λ (b : Bool). option_and_then (if_of_user key) (cond (not b) (Some x) (find (λ e. not (is_early key seq e)) es)) in
    by_test (is_early key seq x)
    (λ h. ap unseen (early_unseen key seq x h) ∙ latest_before key seq es up.1 ∙ sym (ap first h))
    (λ h.
    by_test (same_bytes x.key.user key)
    (λ same. ap unseen (late_seen key seq x h same) ∙ sym (ap first h ∙ ap (λ b. cond b (Some x) None) same))
    (λ other.
    let greater : bytes_cmp x.key.user key ≡ Greater = late_other key seq x h other in
    let not_seen : is_seen key seq x ≡ false = ap (λ b. b && nat_le x.key.seq seq) other in
    ap unseen not_seen ∙ find_none (is_seen key seq) es (others_unseen key seq x es greater up.0)
    ∙ sym (ap first h ∙ ap (λ b. cond b (Some x) None) other)))

pub latest_is : (key : List ℕ) (seq number : ℕ) (es : List Entry) → IsAscending es → number ≡ last_number seq
    → option_and_then (if_of_user key) (find (λ e. not (is_before key number false e)) es) ≡ latest key seq es
latest_is key seq number es up n =
    (λ i. option_and_then (if_of_user key) (find (λ e. not (is_before key (n i) false e)) es)) ∙ sym (latest_before key seq es up)
