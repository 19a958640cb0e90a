-- What the latest entry of a user key is, and what it tells, in a list that may have equal keys.
use Rattle.std.proofs.Common.{◌≡◌, ℕ, ◌<◌, ◌≤◌, Bool, true, false, cond, nat_lt, List, [], ◌∷◌, map, refl, sym, ◌∙◌, ap, subst, arith}
use Rattle.std.specs.Prelude.{nat_le, Contains, Option, Some, None, option_and_then}
use Rattle.std.specs.Cmp.{tied_back, tied_itself}
use Rattle.std.specs.Cmp.Lexicographic.{nat_list_cmp_total}
use Rattle.std.specs.List.{AllByRecursion}
use Rattle.std.specs.Option.{option_map}
use Rattle.std.specs.Ordering.{nat_cmp, is_lt, ordering_then}
use Rattle.std.specs.declared.cmp.Ordering.TheVariants.{Equal}
use Rattle.std.proofs.lemmas.Bool.{false≢true}
use Rattle.std.specs.Cmp.{first_so}
use Rattle.bl_code.specs.Order.{bytes_cmp, same_bytes}
use Rattle.bl_code.proofs.Basics.{all_get}
use Rattle.bl_entry.specs.declared.key.Entry.{Entry}
use Rattle.bl_entry.specs.Entries.{AreInOrder, stands_before}
use Rattle.bl_entry.specs.Keys.{key_number, kind_number}
use Rattle.bl_entry.specs.Latest.{LatestIsGreatest, LatestIsTheValue, is_seen, latest, revision_of}
use Rattle.bl_entry.specs.Revisions.{later, newest, seen}
use Rattle.bl_entry.proofs.ListLemmas.{by_test, find_holds, find_passes, find_there}
use Rattle.bl_entry.proofs.OrderLemmas.{NoneBefore, eq_of, key_total, kind_small, nat_cmp_ge}

pub same_of : (key : List ℕ) (seq : ℕ) (e : Entry) → is_seen key seq e ≡ true → bytes_cmp e.key.user key ≡ Equal
same_of key seq e h = eq_of (bytes_cmp e.key.user key) (first_so (same_bytes e.key.user key) (nat_le e.key.seq seq) h)

-- the second is no later than the first, and does not stand before it
abbrev pub IsNoLater : Entry → Entry → Type 0
IsNoLater x y = (y.key.seq ≤ x.key.seq) × (stands_before y x ≡ false)

pub no_later : (key : List ℕ) (seq : ℕ) (x y : Entry) → stands_before y x ≡ false → is_seen key seq x ≡ true → is_seen key seq y ≡ true → IsNoLater x y
no_later key seq x y h sx sy =
    let users : bytes_cmp y.key.user x.key.user ≡ Equal = nat_list_cmp_total.congr y.key.user key x.key.user (same_of key seq y sy) ∙ tied_back nat_list_cmp_total x.key.user key (same_of key seq x sx) in
    let less : is_lt (nat_cmp (key_number x.key) (key_number y.key)) ≡ false = sym (ap (λ o. is_lt (ordering_then o (nat_cmp (key_number x.key) (key_number y.key)))) users) ∙ h in
    let number : key_number y.key ≤ key_number x.key = nat_cmp_ge (key_number x.key) (key_number y.key) less in
    let small : kind_number x.key.kind < 256 = kind_small x.key.kind in
    (omega arith, h)

abbrev pub AreNoLater : List ℕ → ℕ → Entry → List Entry → Type 0
AreNoLater key seq x es = AllByRecursion (λ y. is_seen key seq y ≡ true → IsNoLater x y) es

all_no_later : (key : List ℕ) (seq : ℕ) (x : Entry) (es : List Entry) → NoneBefore x es → is_seen key seq x ≡ true → AreNoLater key seq x es
all_no_later key seq x [] h sx = tt
all_no_later key seq x (y ∷ es) h sx = ((λ sy. no_later key seq x y h.0 sx sy), all_no_later key seq x es h.1 sx)

pub found_first : (key : List ℕ) (seq : ℕ) (x : Entry) (es : List Entry) (e : Entry) → is_seen key seq x ≡ true → latest key seq (x ∷ es) ≡ Some e → x ≡ e
found_first key seq x es e h f =
    let same : Some x ≡ Some e = sym (ap (λ b. cond b (Some x) (latest key seq es)) h) ∙ f in
    cc

pub found_later : (key : List ℕ) (seq : ℕ) (x : Entry) (es : List Entry) (e : Entry) → is_seen key seq x ≡ false → latest key seq (x ∷ es) ≡ Some e → latest key seq es ≡ Some e
found_later key seq x es e h f = sym (ap (λ b. cond b (Some x) (latest key seq es)) h) ∙ f

pub all_of : (key : List ℕ) (seq : ℕ) (es : List Entry) (e : Entry) → AreInOrder es → latest key seq es ≡ Some e → AreNoLater key seq e es
all_of key seq [] e up f = tt
all_of key seq (x ∷ es) e up f =
    by_test (is_seen key seq x)
    (λ h.
    let itself : IsNoLater x x = (omega arith, ap is_lt (tied_itself key_total x.key)) in
    let all : AreNoLater key seq x (x ∷ es) = ((λ _. itself), all_no_later key seq x es up.0 h) in
    subst (λ y. AreNoLater key seq y (x ∷ es)) (found_first key seq x es e h f) all)
    (λ h. ((λ t. absurd (false≢true (sym h ∙ t))), all_of key seq es e up.1 (found_later key seq x es e h f)))

pub latest_is_greatest : LatestIsGreatest
latest_is_greatest es key seq e up f =
    let all : AreNoLater key seq e es = all_of key seq es e up f in
    let P : Entry → Type 0 = λ y. is_seen key seq y ≡ true → IsNoLater e y in
    let at = λ (other : Entry) (there : Contains es other). subst P there.2 (all_get P es there.0 other all there.1) in
    record {
      there = find_there (is_seen key seq) es e f;
      seen = find_passes (is_seen key seq) es e f;
      greatest = λ other there h. (at other there h).0;
      first = λ other there h. (at other there h).1;
    }

-- ---- the value of a key

seen_skips : (key : List ℕ) (seq : ℕ) (x : Entry) (es : List Entry) (b : Bool) → is_seen key seq x ≡ b
    → seen seq key (map revision_of (x ∷ es)) ≡ cond b (revision_of x ∷ seen seq key (map revision_of es)) (seen seq key (map revision_of es))
seen_skips key seq x es b h = ap (λ t. cond t (revision_of x ∷ seen seq key (map revision_of es)) (seen seq key (map revision_of es))) h

not_lt : (a b : ℕ) → b ≤ a → nat_lt a b ≡ false
not_lt a b le = grind arith

stays_first : (key : List ℕ) (seq : ℕ) (x : Entry) (es : List Entry) (found : Option Entry) → latest key seq es ≡ found → AreNoLater key seq x es
    → later (revision_of x) (option_map revision_of found) ≡ revision_of x
stays_first key seq x es None f h = refl
stays_first key seq x es (Some y) f h =
    let P : Entry → Type 0 = λ z. is_seen key seq z ≡ true → IsNoLater x z in
    let no_later : IsNoLater x y = find_holds P (is_seen key seq) es y h f (find_passes (is_seen key seq) es y f) in
    ap (λ b. cond b (revision_of y) (revision_of x)) (not_lt x.key.seq y.key.seq no_later.0)

pub newest_is : (key : List ℕ) (seq : ℕ) (es : List Entry) → AreInOrder es → newest (seen seq key (map revision_of es)) ≡ option_map revision_of (latest key seq es)
newest_is key seq [] up = refl
newest_is key seq (x ∷ es) up =
    by_test (is_seen key seq x)
    (λ h.
    ap newest (seen_skips key seq x es true h)
    ∙ ap (λ o. Some (later (revision_of x) o)) (newest_is key seq es up.1)
    ∙ ap Some (stays_first key seq x es (latest key seq es) refl (all_no_later key seq x es up.0 h))
    ∙ sym (ap (λ b. option_map revision_of (cond b (Some x) (latest key seq es))) h))
    (λ h.
    ap newest (seen_skips key seq x es false h) ∙ newest_is key seq es up.1
    ∙ sym (ap (λ b. option_map revision_of (cond b (Some x) (latest key seq es))) h))

put_of_found : (found : Option Entry) → option_and_then (λ r. r.put) (option_map revision_of found) ≡ option_and_then (λ e. (revision_of e).put) found
put_of_found None = refl
put_of_found (Some e) = refl

pub latest_is_the_value : LatestIsTheValue
latest_is_the_value es key seq up = ap (option_and_then (λ r. r.put)) (newest_is key seq es up) ∙ put_of_found (latest key seq es)
