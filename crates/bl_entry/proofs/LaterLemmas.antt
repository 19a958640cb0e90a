-- The newest of older revisions and later ones.
use Rattle.std.proofs.Common.{◌≡◌, ℕ, ◌<◌, ◌≤◌, Bool, true, false, cond, nat_lt, List, [], ◌∷◌, ◌++◌, refl, sym, ◌∙◌, ap, subst, arith}
use Rattle.std.specs.Prelude.{◌&&◌, nat_le, Option, Some, None}
use Rattle.std.specs.List.{AllByRecursion}
use Rattle.std.proofs.lemmas.Bool.{lt-ltb}
use Rattle.bl_code.specs.Order.{same_bytes}
use Rattle.bl_entry.specs.Revisions.{LaterAreToldFirst, Revision, later, newest, or_older, seen}

-- the newest behind a test of one more
abbrev with_one : Bool → Revision → List Revision → Option Revision
with_one b r rs = newest (cond b (r ∷ rs) rs)

with_one_is : (b : Bool) (r : Revision) (rs : List Revision) → with_one b r rs ≡ cond b (Some (later r (newest rs))) (newest rs)
with_one_is true r rs = refl
with_one_is false r rs = refl

abbrev pub is_seen_at : ℕ → List ℕ → Revision → Bool
is_seen_at seq key r = same_bytes r.key key && nat_le r.seq seq

pub seen_cons : (seq : ℕ) (key : List ℕ) (r : Revision) (rs : List Revision)
    → newest (seen seq key (r ∷ rs)) ≡ cond (is_seen_at seq key r) (Some (later r (newest (seen seq key rs)))) (newest (seen seq key rs))
seen_cons seq key r rs = with_one_is (is_seen_at seq key r) r (seen seq key rs)

later_of : (last : ℕ) (b : Bool) (x y : Revision) → last < x.seq → last < y.seq → last < (cond b y x).seq
later_of last true x y h k = k
later_of last false x y h k = h

-- what holds of each revision and of the newest of those behind it holds of the newest
newest_step : (last : ℕ) (b : Bool) (x : Revision) (o : Option Revision) (r : Revision) → last < x.seq → ((y : Revision) → o ≡ Some y → last < y.seq)
    → cond b (Some (later x o)) o ≡ Some r → last < r.seq
newest_step last true x None r h k e = let at : x ≡ r = cc in subst (λ z. last < z.seq) at h
newest_step last true x (Some y) r h k e =
    let at : later x (Some y) ≡ r = cc in
    subst (λ z. last < z.seq) at (later_of last (nat_lt x.seq y.seq) x y h (k y refl))
newest_step last false x o r h k e = k r e

newest_is_later : (last seq : ℕ) (key : List ℕ) (rs : List Revision) (r : Revision) → AllByRecursion (λ x. last < x.seq) rs → newest (seen seq key rs) ≡ Some r → last < r.seq
newest_is_later last seq key [] r h e = absurd cc
newest_is_later last seq key (x ∷ rs) r h e =
    newest_step last (is_seen_at seq key x) x (newest (seen seq key rs)) r h.0 (λ y is. newest_is_later last seq key rs y h.1 is) (sym (seen_cons seq key x rs) ∙ e)

both_are : {A : Type 0} (b : Bool) (y : A) → cond b y y ≡ y
both_are true y = refl
both_are false y = refl

older_step : (last : ℕ) (b : Bool) (x : Revision) (n o : Option Revision) → x.seq ≤ last → ((r : Revision) → n ≡ Some r → last < r.seq)
    → cond b (Some (later x (or_older n o))) (or_older n o) ≡ or_older n (cond b (Some (later x o)) o)
older_step last b x None o le k = refl
older_step last b x (Some r) o le k =
    let behind : last < r.seq = k r refl in
    let before : nat_lt x.seq r.seq ≡ true = lt-ltb x.seq r.seq (omega arith) in
    ap (λ t. cond b (Some (cond t r x)) (Some r)) before ∙ both_are b (Some r)

older_none : (o : Option Revision) → o ≡ or_older o None
older_none None = refl
older_none (Some r) = refl

pub later_are_told_first : LaterAreToldFirst
later_are_told_first [] rs last seq key h k = older_none (newest (seen seq key rs))
later_are_told_first (x ∷ older) rs last seq key h k =
    seen_cons seq key x (older ++ rs)
    ∙ ap (λ p. cond (is_seen_at seq key x) (Some (later x p)) p) (later_are_told_first older rs last seq key h.1 k)
    ∙ older_step last (is_seen_at seq key x) x (newest (seen seq key rs)) (newest (seen seq key older)) h.0 (λ r is. newest_is_later last seq key rs r k is)
    ∙ ap (or_older (newest (seen seq key rs))) (sym (seen_cons seq key x older))
