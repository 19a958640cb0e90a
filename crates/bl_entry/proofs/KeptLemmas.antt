-- What a job keeps tells what all entries tell.
use Rattle.std.proofs.Common.{◌≡◌, ℕ, zero, suc, ◌+◌, ◌<◌, ◌≤◌, Bool, true, false, cond, nat_lt, List, [], ◌∷◌, length, refl, sym, ◌∙◌, ap, subst, arith, ◌⊎◌, inl, inr}
use Rattle.std.specs.Prelude.{◌&&◌, ◌||◌, ◌==◌, not, nat_le, Contains, Option, Some, None, option_and_then, slice_index_or}
use Rattle.std.specs.Cmp.{tied_back}
use Rattle.std.specs.Cmp.Lexicographic.{nat_list_cmp_total}
use Rattle.std.specs.List.{AllByRecursion, list_any}
use Rattle.std.specs.List.Sorted.{IsStrictlySortedBy}
use Rattle.std.specs.Option.{option_map}
use Rattle.std.specs.Ordering.{nat_cmp, is_eq, is_lt, ordering_then}
use Rattle.std.specs.declared.cmp.Ordering.TheVariants.{Less, Equal}
use Rattle.std.proofs.lemmas.Bool.{false≢true, eqb-true, eq-eqb, lt-ltb, leb-true, leb-false}
use Rattle.std.proofs.lemmas.List.Sums.{sum_by-cons}
use Rattle.std.specs.Cmp.{first_so, second_so}
use Rattle.bl_code.specs.Order.{bytes_cmp, same_bytes}
use Rattle.bl_code.proofs.Basics.{all_from}
use Rattle.bl_entry.specs.declared.key.Entry.{Entry}
use Rattle.bl_entry.specs.Entries.{AreInOrder, IsAscending, is_deletion, stands_before}
use Rattle.bl_entry.specs.Keys.{key_cmp, key_number, kind_number}
use Rattle.bl_entry.specs.Kept.{KeptAtTheBottomTellTheSame, KeptTellTheSame, MayBeAsked, alike, is_newest, is_oldest_deletion, kept, stripe}
use Rattle.bl_entry.specs.Latest.{is_seen, latest, revision_of}
use Rattle.bl_entry.proofs.ListLemmas.{any_there, by_test, find_kept, find_none_kept, find_passes, find_there, none_passes}
use Rattle.bl_entry.proofs.LatestLemmas.{AreNoLater, IsNoLater, all_of, found_first, found_later, latest_is_the_value, newest_is, same_of}
use Rattle.bl_entry.proofs.OrderLemmas.{AreBehind, ascending_in_order, eq_of, kind_small, nat_cmp_lt, order_filtered}

-- ---- stripes

abbrev counted : ℕ → ℕ → ℕ
counted s a = cond (nat_lt s a) 1 0

counted_le : (s a b : ℕ) → a ≤ b → counted s a ≤ counted s b
counted_le s a b le =
    by_test (nat_lt s a)
    (λ t. let u : nat_lt s b ≡ true = grind arith in let l : counted s a ≡ 1 = ap (λ c. cond c 1 0) t in let r : counted s b ≡ 1 = ap (λ c. cond c 1 0) u in omega arith)
    (λ t. let l : counted s a ≡ 0 = ap (λ c. cond c 1 0) t in omega arith)

stripe_cons : (s : ℕ) (ss : List ℕ) (a : ℕ) → stripe (s ∷ ss) a ≡ counted s a + stripe ss a
stripe_cons s ss a = sum_by-cons (λ x. cond (nat_lt x a) 1 0) s ss

pub stripe_le : (ss : List ℕ) (a b : ℕ) → a ≤ b → stripe ss a ≤ stripe ss b
stripe_le [] a b le = omega arith
stripe_le (s ∷ ss) a b le = omega (arith, stripe_cons s ss a, stripe_cons s ss b, counted_le s a b le, stripe_le ss a b le)

stripe_lt : (ss : List ℕ) (a b s k : ℕ) → k < length ss → slice_index_or ss k s ≡ s → a ≤ s → s < b → stripe ss a < stripe ss b
stripe_lt [] a b s k lt e le l = absurd (omega (arith, lt))
stripe_lt (x ∷ ss) a b s zero lt e le l =
    let here : x ≡ s = e in
    let u : nat_lt x a ≡ false = grind arith in
    let v : nat_lt x b ≡ true = lt-ltb x b (omega arith) in
    let left : counted x a ≡ 0 = ap (λ c. cond c 1 0) u in
    let right : counted x b ≡ 1 = ap (λ c. cond c 1 0) v in
    omega (arith, left, right, stripe_cons x ss a, stripe_cons x ss b, stripe_le ss a b (omega arith))
stripe_lt (x ∷ ss) a b s (suc k) lt e le l =
    omega (arith, stripe_cons x ss a, stripe_cons x ss b, counted_le x a b (omega arith), stripe_lt ss a b s k (omega (arith, lt)) e le l)

-- ---- the latest entry is the newest of its stripe

abbrev IsAllowed : List ℕ → ℕ → Entry → Type 0
IsAllowed snapshots seq e = Contains snapshots seq ⊎ (e.key.seq ≤ seq)

other_apart : (snapshots : List ℕ) (key : List ℕ) (seq : ℕ) (e other : Entry) → is_seen key seq e ≡ true → (is_seen key seq other ≡ true → IsNoLater e other)
    → IsAllowed snapshots seq other → (alike snapshots other e && stands_before other e) ≡ false
other_apart snapshots key seq e other seen_e no_later at =
    by_test (alike snapshots other e && stands_before other e)
    (λ t.
    let like : alike snapshots other e ≡ true = first_so (alike snapshots other e) (stands_before other e) t in
    let before : stands_before other e ≡ true = second_so (alike snapshots other e) (stands_before other e) t in
    let user : bytes_cmp other.key.user e.key.user ≡ Equal = eq_of (bytes_cmp other.key.user e.key.user) (first_so (same_bytes other.key.user e.key.user) (stripe snapshots other.key.seq == stripe snapshots e.key.seq) like) in
    let one : stripe snapshots other.key.seq ≡ stripe snapshots e.key.seq =
    eqb-true (stripe snapshots other.key.seq) (stripe snapshots e.key.seq) (second_so (same_bytes other.key.user e.key.user) (stripe snapshots other.key.seq == stripe snapshots e.key.seq) like) in
    let of_key : bytes_cmp other.key.user key ≡ Equal = nat_list_cmp_total.congr other.key.user e.key.user key user ∙ same_of key seq e seen_e in
    let within : e.key.seq ≤ seq = leb-true e.key.seq seq (second_so (same_bytes e.key.user key) (nat_le e.key.seq seq) seen_e) in
    by_test (nat_le other.key.seq seq)
    (λ s.
    let seen_other : is_seen key seq other ≡ true = (λ i. is_eq (of_key i) && s i) in
    absurd (false≢true (sym (no_later seen_other).1 ∙ before)))
    (λ s. absurd (outside one within (leb-false other.key.seq seq s) at)))
    (λ f. f)
  where
    outside : stripe snapshots other.key.seq ≡ stripe snapshots e.key.seq → e.key.seq ≤ seq → seq < other.key.seq → IsAllowed snapshots seq other → ⊥
    outside one within lt (inl c) = omega (arith, stripe_lt snapshots e.key.seq other.key.seq seq c.0 c.1 c.2 within lt)
    outside one within lt (inr le) = omega arith

head_of : (snapshots : List ℕ) (seq : ℕ) (x : Entry) (es : List Entry) → MayBeAsked snapshots seq (x ∷ es) → IsAllowed snapshots seq x
head_of snapshots seq x es (inl c) = inl c
head_of snapshots seq x es (inr h) = inr h.0

tail_of : (snapshots : List ℕ) (seq : ℕ) (x : Entry) (es : List Entry) → MayBeAsked snapshots seq (x ∷ es) → MayBeAsked snapshots seq es
tail_of snapshots seq x es (inl c) = inl c
tail_of snapshots seq x es (inr h) = inr h.1

none_before : (snapshots : List ℕ) (key : List ℕ) (seq : ℕ) (e : Entry) (es : List Entry) → is_seen key seq e ≡ true → AreNoLater key seq e es
    → MayBeAsked snapshots seq es → list_any (λ other. alike snapshots other e && stands_before other e) es ≡ false
none_before snapshots key seq e [] s h at = refl
none_before snapshots key seq e (x ∷ es) s h at =
    λ i. other_apart snapshots key seq e x s h.0 (head_of snapshots seq x es at) i || none_before snapshots key seq e es s h.1 (tail_of snapshots seq x es at) i

-- the test of a job that keeps entries
abbrev stays : List ℕ → Bool → List Entry → Entry → Bool
stays snapshots bottom es e = is_newest snapshots es e && not (bottom && is_oldest_deletion snapshots e)

found_stays : (snapshots : List ℕ) (bottom : Bool) (key : List ℕ) (seq : ℕ) (es : List Entry) (e : Entry) → AreInOrder es → MayBeAsked snapshots seq es
    → latest key seq es ≡ Some e → (bottom && is_oldest_deletion snapshots e) ≡ false → latest key seq (kept snapshots bottom es) ≡ Some e
found_stays snapshots bottom key seq es e up at f young =
    let s : is_seen key seq e ≡ true = find_passes (is_seen key seq) es e f in
    let none = none_before snapshots key seq e es s (all_of key seq es e up f) at in
    find_kept (is_seen key seq) (stays snapshots bottom es) es e f (λ i. not (none i) && not (young i))

none_stays : (snapshots : List ℕ) (bottom : Bool) (key : List ℕ) (seq : ℕ) (es : List Entry) → latest key seq es ≡ None → latest key seq (kept snapshots bottom es) ≡ None
none_stays snapshots bottom key seq es f =
    find_none_kept (is_seen key seq) (stays snapshots bottom es) es
    (all_from (λ x. is_seen key seq x ≡ false) (λ x. is_seen key seq x ≡ true → stays snapshots bottom es x ≡ false) es
    (λ x no yes. absurd (false≢true (sym no ∙ yes))) (none_passes (is_seen key seq) es f))

latest_kept : (snapshots : List ℕ) (key : List ℕ) (seq : ℕ) (es : List Entry) (found : Option Entry) → AreInOrder es → MayBeAsked snapshots seq es
    → latest key seq es ≡ found → latest key seq (kept snapshots false es) ≡ found
latest_kept snapshots key seq es None up at f = none_stays snapshots false key seq es f
latest_kept snapshots key seq es (Some e) up at f = found_stays snapshots false key seq es e up at f refl

pub kept_tell_the_same : KeptTellTheSame
kept_tell_the_same snapshots es seq key up at =
    newest_is key seq (kept snapshots false es) (order_filtered (stays snapshots false es) es up)
    ∙ ap (option_map revision_of) (latest_kept snapshots key seq es (latest key seq es) up at refl)
    ∙ sym (newest_is key seq es up)

-- ---- at the bottom

pub seq_falls : (x y : Entry) → bytes_cmp x.key.user y.key.user ≡ Equal → key_cmp x.key y.key ≡ Less → y.key.seq ≤ x.key.seq
seq_falls x y same lt =
    let less : nat_cmp (key_number y.key) (key_number x.key) ≡ Less = sym (ap (λ o. ordering_then o (nat_cmp (key_number y.key) (key_number x.key))) same) ∙ lt in
    let number : key_number y.key < key_number x.key = nat_cmp_lt (key_number y.key) (key_number x.key) (ap is_lt less) in
    let small : kind_number x.key.kind < 256 = kind_small x.key.kind in
    omega arith

-- each entry that is seen is the latest, or stands behind it
abbrev IsAtOrBehind : List ℕ → ℕ → Entry → Entry → Type 0
IsAtOrBehind key seq e x = is_seen key seq x ≡ true → (x ≡ e) ⊎ (key_cmp e.key x.key ≡ Less)

all_behind : (key : List ℕ) (seq : ℕ) (e : Entry) (es : List Entry) → AreBehind e.key es → AllByRecursion (IsAtOrBehind key seq e) es
all_behind key seq e [] h = tt
all_behind key seq e (x ∷ es) h = ((λ _. inr h.0), all_behind key seq e es h.1)

all_at_or_behind : (key : List ℕ) (seq : ℕ) (es : List Entry) (e : Entry) → IsAscending es → latest key seq es ≡ Some e → AllByRecursion (IsAtOrBehind key seq e) es
unfolding IsStrictlySortedBy
all_at_or_behind key seq [] e up f = tt
all_at_or_behind key seq (x ∷ es) e up f =
    by_test (is_seen key seq x)
    (λ h. subst (λ y. AllByRecursion (IsAtOrBehind key seq y) (x ∷ es)) (found_first key seq x es e h f) ((λ _. inl refl), all_behind key seq x es up.0))
    (λ h. ((λ t. absurd (false≢true (sym h ∙ t))), all_at_or_behind key seq es e up.1 (found_later key seq x es e h f)))

-- behind a deletion of the oldest stripe nothing of its user key stays
goes : (snapshots : List ℕ) (key : List ℕ) (seq : ℕ) (es : List Entry) (e x : Entry) → Contains es e → is_seen key seq e ≡ true → is_oldest_deletion snapshots e ≡ true
    → is_seen key seq x ≡ true → (x ≡ e) ⊎ (key_cmp e.key x.key ≡ Less) → stays snapshots true es x ≡ false
goes snapshots key seq es e x there se old sx (inl same) = ap (λ b. is_newest snapshots es x && not b) (ap (is_oldest_deletion snapshots) same ∙ old) ∙ and_no (is_newest snapshots es x)
  where
    and_no : (b : Bool) → (b && false) ≡ false
    and_no true = refl
    and_no false = refl
goes snapshots key seq es e x there se old sx (inr less) =
    let users : bytes_cmp e.key.user x.key.user ≡ Equal = nat_list_cmp_total.congr e.key.user key x.key.user (same_of key seq e se) ∙ tied_back nat_list_cmp_total x.key.user key (same_of key seq x sx) in
    let falls : x.key.seq ≤ e.key.seq = seq_falls e x users less in
    let lowest : stripe snapshots e.key.seq ≡ 0 = eqb-true (stripe snapshots e.key.seq) 0 (second_so (is_deletion e.key.kind) (stripe snapshots e.key.seq == 0) old) in
    let below : stripe snapshots x.key.seq ≤ stripe snapshots e.key.seq = stripe_le snapshots x.key.seq e.key.seq falls in
    let one : stripe snapshots e.key.seq ≡ stripe snapshots x.key.seq = omega arith in
    let first : (alike snapshots e x && stands_before e x) ≡ true = λ i. (is_eq (users i) && eq-eqb (stripe snapshots e.key.seq) (stripe snapshots x.key.seq) one i) && is_lt (less i) in
    ap (λ b. not b && not (true && is_oldest_deletion snapshots x)) (any_there (λ other. alike snapshots other x && stands_before other x) es e there first)

none_left : (snapshots : List ℕ) (key : List ℕ) (seq : ℕ) (es : List Entry) (e : Entry) → IsAscending es → latest key seq es ≡ Some e → is_oldest_deletion snapshots e ≡ true
    → latest key seq (kept snapshots true es) ≡ None
none_left snapshots key seq es e up f old =
    let there : Contains es e = find_there (is_seen key seq) es e f in
    let se : is_seen key seq e ≡ true = find_passes (is_seen key seq) es e f in
    find_none_kept (is_seen key seq) (stays snapshots true es) es
    (all_from (IsAtOrBehind key seq e) (λ x. is_seen key seq x ≡ true → stays snapshots true es x ≡ false) es
    (λ x at sx. goes snapshots key seq es e x there se old sx (at sx)) (all_at_or_behind key seq es e up f))

abbrev put_in : Option Entry → Option (List ℕ)
put_in found = option_and_then (λ e. (revision_of e).put) found

deletion_puts : (e : Entry) → is_deletion e.key.kind ≡ true → (revision_of e).put ≡ None
deletion_puts e h = ap (λ b. cond b None (Some e.value)) h

value_kept : (snapshots : List ℕ) (key : List ℕ) (seq : ℕ) (es : List Entry) (found : Option Entry) → IsAscending es → MayBeAsked snapshots seq es
    → latest key seq es ≡ found → put_in (latest key seq (kept snapshots true es)) ≡ put_in found
value_kept snapshots key seq es None up at f = ap put_in (none_stays snapshots true key seq es f)
value_kept snapshots key seq es (Some e) up at f =
    by_test (is_oldest_deletion snapshots e)
    (λ old.
    ap put_in (none_left snapshots key seq es e up f old)
    ∙ sym (deletion_puts e (first_so (is_deletion e.key.kind) (stripe snapshots e.key.seq == 0) old)))
    (λ young. ap put_in (found_stays snapshots true key seq es e (ascending_in_order es up) at f young))

pub kept_at_the_bottom_tell_the_same : KeptAtTheBottomTellTheSame
kept_at_the_bottom_tell_the_same snapshots es seq key up at =
    let order : AreInOrder es = ascending_in_order es up in
    latest_is_the_value (kept snapshots true es) key seq (order_filtered (stays snapshots true es) es order)
    ∙ value_kept snapshots key seq es (latest key seq es) up at refl
    ∙ sym (latest_is_the_value es key seq order)
