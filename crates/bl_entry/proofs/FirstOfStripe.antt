-- Which entry is the newest of its user key and stripe.
use Rattle.std.proofs.Common.{◌≡◌, ℕ, ◌≤◌, Bool, true, false, List, [], ◌∷◌, ◌++◌, refl, sym, ◌∙◌, ap, arith}
use Rattle.std.specs.Prelude.{◌&&◌, ◌||◌, ◌==◌, not}
use Rattle.std.specs.Cmp.{alike_right, tied_itself}
use Rattle.std.specs.Cmp.Lexicographic.{nat_list_cmp_total}
use Rattle.std.specs.List.{AllByRecursion, list_any}
use Rattle.std.specs.List.Sorted.{IsStrictlySortedBy}
use Rattle.std.specs.Ordering.{nat_cmp, is_eq, is_lt, ordering_reverse, ordering_then}
use Rattle.std.specs.declared.cmp.Ordering.{Ordering}
use Rattle.std.specs.declared.cmp.Ordering.TheVariants.{Less, Equal, Greater}
use Rattle.std.proofs.lemmas.Bool.{false≢true, eqb-true, eq-eqb}
use Rattle.std.proofs.lemmas.List.Folds.{list_any-append}
use Rattle.std.specs.Cmp.{first_so, second_so}
use Rattle.bl_code.specs.Order.{bytes_cmp, same_bytes}
use Rattle.bl_entry.specs.declared.key.Entry.{Entry}
use Rattle.bl_entry.specs.Entries.{IsAscending, last_of, stands_before}
use Rattle.bl_entry.specs.Keys.{Key, key_cmp, key_number}
use Rattle.bl_entry.specs.Kept.{NewestStandsFirst, alike, follows_alike, stripe}
use Rattle.bl_entry.proofs.KeptLemmas.{seq_falls, stripe_le}
use Rattle.bl_entry.proofs.OrderLemmas.{AreBehind, eq_of, key_total}

not_greater : (k n : Ordering) → k ≡ Greater → ordering_then k n ≡ Less → ⊥
not_greater k n g h = false≢true (ap is_lt (sym (ap (λ o. ordering_then o n) g)) ∙ ap is_lt h)

-- user keys do not descend
user_same : (x l e : Key) → bytes_cmp x.user e.user ≡ Equal → key_cmp x l ≡ Less → key_cmp l e ≡ Less → bytes_cmp x.user l.user ≡ Equal
user_same x l e same xl le = by (bytes_cmp x.user l.user) (bytes_cmp l.user e.user) refl refl
  where
    by : (o p : Ordering) → bytes_cmp x.user l.user ≡ o → bytes_cmp l.user e.user ≡ p → bytes_cmp x.user l.user ≡ Equal
    by Equal p i j = i
    by Greater p i j = absurd (not_greater (bytes_cmp x.user l.user) (nat_cmp (key_number l) (key_number x)) i xl)
    by Less Less i j = absurd (false≢true (ap is_lt (sym same) ∙ ap is_lt (nat_list_cmp_total.trans x.user l.user e.user i j)))
    by Less Equal i j = absurd (false≢true (ap is_lt (sym same) ∙ ap is_lt (sym (alike_right nat_list_cmp_total l.user e.user x.user j) ∙ i)))
    by Less Greater i j = absurd (not_greater (bytes_cmp l.user e.user) (nat_cmp (key_number e) (key_number l)) j le)

between : (snapshots : List ℕ) (x l e : Entry) → key_cmp x.key l.key ≡ Less → key_cmp l.key e.key ≡ Less → alike snapshots x e ≡ true → alike snapshots l e ≡ true
between snapshots x l e xl le h =
    let sx : ℕ = stripe snapshots x.key.seq in
    let sl : ℕ = stripe snapshots l.key.seq in
    let se : ℕ = stripe snapshots e.key.seq in
    let xe : bytes_cmp x.key.user e.key.user ≡ Equal = eq_of (bytes_cmp x.key.user e.key.user) (first_so (same_bytes x.key.user e.key.user) (sx == se) h) in
    let stripes : sx ≡ se = eqb-true sx se (second_so (same_bytes x.key.user e.key.user) (sx == se) h) in
    let same : bytes_cmp x.key.user l.key.user ≡ Equal = user_same x.key l.key e.key xe xl le in
    let user : bytes_cmp l.key.user e.key.user ≡ Equal = sym (nat_list_cmp_total.congr x.key.user l.key.user e.key.user same) ∙ xe in
    let high : sl ≤ sx = stripe_le snapshots l.key.seq x.key.seq (seq_falls x l same xl) in
    let low : se ≤ sl = stripe_le snapshots e.key.seq l.key.seq (seq_falls l e user le) in
    let is : sl ≡ se = omega arith in
    λ i. is_eq (user i) && eq-eqb sl se is i

abbrev comes_first : List ℕ → Entry → Entry → Bool
comes_first snapshots e other = alike snapshots other e && stands_before other e

-- none behind it does
none_behind : (snapshots : List ℕ) (e : Entry) (es : List Entry) → AreBehind e.key es → list_any (comes_first snapshots e) es ≡ false
none_behind snapshots e [] h = refl
none_behind snapshots e (x ∷ es) h =
    let behind : stands_before x e ≡ false = ap is_lt (key_total.antisymm x.key e.key ∙ ap ordering_reverse h.0) in
    λ i. (ap (λ b. alike snapshots x e && b) behind ∙ and_false (alike snapshots x e)) i || none_behind snapshots e es h.1 i
  where
    and_false : (b : Bool) → (b && false) ≡ false
    and_false true = refl
    and_false false = refl

and_true : (b : Bool) → (b && true) ≡ b
and_true true = refl
and_true false = refl

or_same : (a b : Bool) → (a ≡ true → b ≡ true) → (a || b) ≡ b
or_same true b h = sym (h refl)
or_same false b h = refl

-- all entries stand before this one
abbrev AreFront : Entry → List Entry → Type 0
AreFront e es = AllByRecursion (λ x. key_cmp x.key e.key ≡ Less) es

or_false : (b : Bool) → (b || false) ≡ b
or_false true = refl
or_false false = refl

-- the first of a list stands before its last
last_behind : (snapshots : List ℕ) (e x y : Entry) (es : List Entry) → IsAscending (x ∷ y ∷ es) → AreFront e (x ∷ y ∷ es) → alike snapshots x e ≡ true
    → follows_alike snapshots (last_of (y ∷ es)) e ≡ true
unfolding IsStrictlySortedBy
last_behind snapshots e x y [] up front h = between snapshots x y e up.0.0 front.1.0 h
last_behind snapshots e x y (z ∷ es) up front h =
    last_behind snapshots e y z es up.1 front.1 (between snapshots x y e up.0.0 front.1.0 h)

any_front : (snapshots : List ℕ) (e : Entry) (es : List Entry) → IsAscending es → AreFront e es → list_any (comes_first snapshots e) es ≡ follows_alike snapshots (last_of es) e
unfolding IsStrictlySortedBy
any_front snapshots e [] up front = refl
any_front snapshots e (x ∷ []) up front =
    or_false (comes_first snapshots e x) ∙ ap (λ b. alike snapshots x e && b) (ap is_lt front.0) ∙ and_true (alike snapshots x e)
any_front snapshots e (x ∷ y ∷ es) up front =
    ap (λ b. comes_first snapshots e x || b) (any_front snapshots e (y ∷ es) up.1 front.1)
    ∙ or_same (comes_first snapshots e x) (follows_alike snapshots (last_of (y ∷ es)) e)
    (λ t. last_behind snapshots e x y es up front (first_so (alike snapshots x e) (stands_before x e) t))

before_one : (k : Key) (front back : List Entry) (e : Entry) → AreBehind k (front ++ e ∷ back) → key_cmp k e.key ≡ Less
before_one k [] back e h = h.0
before_one k (x ∷ front) back e h = before_one k front back e h.1

behind_front : (k : Key) (front back : List Entry) → AreBehind k (front ++ back) → AreBehind k front
behind_front k [] back h = tt
behind_front k (x ∷ front) back h = (h.0, behind_front k front back h.1)

all_before : (front back : List Entry) (e : Entry) → IsAscending (front ++ e ∷ back) → AreFront e front
unfolding IsStrictlySortedBy
all_before [] back e up = tt
all_before (x ∷ front) back e up = (before_one x.key front back e up.0, all_before front back e up.1)

front_up : (front back : List Entry) → IsAscending (front ++ back) → IsAscending front
unfolding IsStrictlySortedBy
front_up [] back up = tt
front_up (x ∷ front) back up = (behind_front x.key front back up.0, front_up front back up.1)

all_behind : (front back : List Entry) (e : Entry) → IsAscending (front ++ e ∷ back) → AreBehind e.key back
unfolding IsStrictlySortedBy
all_behind [] back e up = up.0
all_behind (x ∷ front) back e up = all_behind front back e up.1

pub newest_stands_first : NewestStandsFirst
newest_stands_first snapshots front back e up =
    let f : Entry → Bool = comes_first snapshots e in
    let itself : f e ≡ false = ap (λ b. alike snapshots e e && b) (ap is_lt (tied_itself key_total e.key)) ∙ and_no (alike snapshots e e) in
    let rest : list_any f (e ∷ back) ≡ false = λ i. itself i || none_behind snapshots e back (all_behind front back e up) i in
    ap not
    (list_any-append f front (e ∷ back)
    ∙ ap (λ b. list_any f front || b) rest ∙ or_false (list_any f front)
    ∙ any_front snapshots e front (front_up front (e ∷ back) up) (all_before front back e up))
  where
    and_no : (b : Bool) → (b && false) ≡ false
    and_no true = refl
    and_no false = refl
