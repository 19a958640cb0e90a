-- Tables that clash, and the first added one that does.
use Rattle.std.proofs.Common.{◌≡◌, ℕ, zero, suc, ◌+◌, ◌<◌, ◌≤◌, Bool, true, false, cond, List, [], ◌∷◌, ◌++◌, length, take, drop, drop-cons, get_or, refl, sym, ◌∙◌, ap, arith, inl, inr, Option, Some, None, add-one}
use Rattle.std.specs.Prelude.{◌==◌, ◌&&◌, ◌||◌, not}
use Rattle.std.specs.List.{AllByRecursion, IsDistinct, list_any}
use Rattle.std.specs.List.Sorted.{IsPermutation}
use Rattle.std.proofs.lemmas.Bool.{eq-eqb, cases_eq}
use Rattle.std.proofs.lemmas.List.{take_more}
use Rattle.std.proofs.lemmas.Map.Keys.{IsDistinct-IsPermutation, IsDistinct-head, IsDistinct-tail, IsDistinct-cons, IsDistinct-from_apart}
use Rattle.std.proofs.lemmas.List.Sorted.{IsPermutation-sym}
use Rattle.bl_code.specs.Order.{bytes_le}
use Rattle.bl_edit.specs.declared.edit.NewTable.{NewTable}
use Rattle.bl_build.specs.Versions.{clash, overlap, first_user, last_user, first_overlap}
use Rattle.bl_build.proofs.Files.{or_parts}
use Rattle.bl_build.proofs.Levels.{not_eqb}
use Rattle.bl_build.proofs.Placing.{all_from}
use Rattle.bl_build.proofs.Searching.{drop_all}

-- ---- clashes

and_flip : (a b : Bool) → (a && b) ≡ (b && a)
and_flip true true = refl
and_flip true false = refl
and_flip false true = refl
and_flip false false = refl

pub same_flip : (a b : ℕ) → (a == b) ≡ (b == a)
same_flip a b = elim (cases_eq a b) [ inl e ↦ eq-eqb a b e ∙ sym (eq-eqb b a (sym e)) | inr n ↦ not_eqb a b n ∙ sym (not_eqb b a (λ e. n (sym e))) ]

pub none_and : (a : Bool) → (a && false) ≡ false
none_and true = refl
none_and false = refl

pub clash_flips : (a b : NewTable) → clash a b ≡ clash b a
clash_flips a b = elim (cases_eq b.level a.level) [
  | inl e ↦
      let p : Bool = bytes_le (first_user a) (last_user b) in
      let q : Bool = bytes_le (first_user b) (last_user a) in
      (λ i. not (sym e i == 0) && same_flip b.level a.level i && and_flip p q i)
  | inr n ↦
      let p : Bool = overlap a b in
      let q : Bool = overlap b a in
      ap (λ t. not (a.level == 0) && t && p) (not_eqb b.level a.level n)
      ∙ ap (λ t. t && p) (none_and (not (a.level == 0)))
      ∙ sym (ap (λ t. not (b.level == 0) && t && q) (not_eqb a.level b.level (λ e. n (sym e))) ∙ ap (λ t. t && q) (none_and (not (b.level == 0))))
]

-- ---- tables that do not clash are not refused

each_free : (t : NewTable) (us : List NewTable) → list_any (clash t) us ≡ false → AllByRecursion (λ u. clash t u ≡ false) us
each_free t [] h = tt
each_free t (u ∷ us) h = let both = or_parts (clash t u) (list_any (clash t) us) h in (both.0, each_free t us both.1)

-- with one more on the other side
one_more : (t : NewTable) (there us : List NewTable) → AllByRecursion (λ u. clash t u ≡ false) us → AllByRecursion (λ u. list_any (clash u) there ≡ false) us
    → AllByRecursion (λ u. list_any (clash u) (t ∷ there) ≡ false) us
one_more t there [] h k = tt
one_more t there (u ∷ us) h k = ((λ i. (clash_flips u t ∙ h.0) i || k.0 i), one_more t there us h.1 k.1)

pub none_there : (us : List NewTable) → AllByRecursion (λ u. list_any (clash u) [] ≡ false) us
none_there [] = tt
none_there (u ∷ us) = (refl, none_there us)

pub turned_round : (left added : List NewTable) → AllByRecursion (λ t. list_any (clash t) added ≡ false) left → AllByRecursion (λ u. list_any (clash u) left ≡ false) added
turned_round [] added h = none_there added
turned_round (t ∷ left) added h = one_more t left added (each_free t added h.0) (turned_round left added h.1)

pub free_passes : (there added : List NewTable) → AllByRecursion (λ u. list_any (clash u) there ≡ false) added → IsDistinct clash added → first_overlap there added ≡ None
free_passes there [] h d = refl
free_passes there (t ∷ ts) h d =
    ap (λ b. cond b (Some t.number) (first_overlap (t ∷ there) ts)) h.0
    ∙ free_passes (t ∷ there) ts (one_more t there ts (IsDistinct-head clash t ts d) h.1) (IsDistinct-tail clash t ts d)

pub level_0_passes : (there added : List NewTable) → AllByRecursion (λ t. t.level ≡ 0) added → first_overlap there added ≡ None
level_0_passes there [] h = refl
level_0_passes there (t ∷ ts) h =
    ap (λ b. cond b (Some t.number) (first_overlap (t ∷ there) ts)) (free there) ∙ level_0_passes (t ∷ there) ts h.1
  where
    free : (us : List NewTable) → list_any (clash t) us ≡ false
    free [] = refl
    free (u ∷ us) = λ i. ap (λ b. not b && (u.level == t.level) && overlap t u) (eq-eqb t.level 0 h.0) i || free us i

-- ---- what is not refused does not clash

passed_parts : (a : Bool) (n : ℕ) (rest : Option ℕ) → cond a (Some n) rest ≡ None → (a ≡ false) × (rest ≡ None)
passed_parts true n rest h = cc
passed_parts false n rest h = (refl, h)

-- each with one fewer on the other side
one_fewer : (t : NewTable) (there us : List NewTable) → AllByRecursion (λ u. list_any (clash u) (t ∷ there) ≡ false) us
    → AllByRecursion (λ u. clash t u ≡ false) us × AllByRecursion (λ u. list_any (clash u) there ≡ false) us
one_fewer t there us h = (
  all_from (λ u. list_any (clash u) (t ∷ there) ≡ false) (λ u. clash t u ≡ false) us (λ u k. clash_flips t u ∙ (or_parts (clash u t) (list_any (clash u) there) k).0) h,
  all_from (λ u. list_any (clash u) (t ∷ there) ≡ false) (λ u. list_any (clash u) there ≡ false) us (λ u k. (or_parts (clash u t) (list_any (clash u) there) k).1) h,
)

none_distinct : IsDistinct clash []
none_distinct = IsDistinct-from_apart clash [] (λ i j d less lt. absurd (omega arith))

passes_free : (there added : List NewTable) → first_overlap there added ≡ None → AllByRecursion (λ u. list_any (clash u) there ≡ false) added × IsDistinct clash added
passes_free there [] h = (tt, none_distinct)
passes_free there (t ∷ ts) h =
    let parts = passed_parts (list_any (clash t) there) t.number (first_overlap (t ∷ there) ts) h in
    let rest = passes_free (t ∷ there) ts parts.1 in
    let fewer = one_fewer t there ts rest.0 in
    ((parts.0, fewer.1), IsDistinct-cons clash t ts fewer.0 rest.1)

-- so the order of the added ones does not matter
pub reordered : (added sorted : List NewTable) → IsPermutation added sorted → first_overlap [] sorted ≡ None → first_overlap [] added ≡ None
reordered added sorted p h =
    let back : IsPermutation sorted added = IsPermutation-sym added sorted p in
    free_passes [] added (none_there added) (IsDistinct-IsPermutation clash clash_flips sorted added back (passes_free [] sorted h).1)

-- nor does it matter which side is looked up in the other
pub both_pass : (left added : List NewTable) → first_overlap [] added ≡ None → AllByRecursion (λ t. list_any (clash t) added ≡ false) left → first_overlap left added ≡ None
both_pass left added h k = free_passes left added (turned_round left added k) (passes_free [] added h).1

pub pass_both : (left added : List NewTable) → first_overlap left added ≡ None → (first_overlap [] added ≡ None) × AllByRecursion (λ t. list_any (clash t) added ≡ false) left
pass_both left added h =
    let free = passes_free left added h in
    (free_passes [] added (none_there added) free.1, turned_round added left free.0)

-- ---- by halving

-- the first ones pass, and with the next one they do not
pub first_at : (there ts : List NewTable) (k : ℕ) (d : NewTable) → k < length ts → first_overlap there (take k ts) ≡ None → (first_overlap there (take (suc k) ts) ≡ None → ⊥)
    → first_overlap there ts ≡ Some (get_or ts k d).number
first_at there [] k d lt h fails = absurd (omega arith)
first_at there (t ∷ ts) zero d lt h fails = here (list_any (clash t) there) fails
  where
    here : (b : Bool) → (cond b (Some t.number) None ≡ None → ⊥) → cond b (Some t.number) (first_overlap (t ∷ there) ts) ≡ Some t.number
    here true k = refl
    here false k = absurd (k refl)
first_at there (t ∷ ts) (suc k) d lt h fails =
    let parts = passed_parts (list_any (clash t) there) t.number (first_overlap (t ∷ there) (take k ts)) h in
    let skip : (rest : Option ℕ) → cond (list_any (clash t) there) (Some t.number) rest ≡ rest = λ rest. ap (λ b. cond b (Some t.number) rest) parts.0 in
    skip (first_overlap (t ∷ there) ts)
    ∙ first_at (t ∷ there) ts k d (omega arith) parts.1 (λ e. fails (skip (first_overlap (t ∷ there) (take (suc k) ts)) ∙ e))

-- ---- a search in order

pub record Searches (left added : List NewTable) (i : ℕ) : Type 0 where
  pub done : List NewTable
  pub reads : first_overlap left added ≡ first_overlap done (drop i added)
  pub same : (t : NewTable) → list_any (clash t) done ≡ (list_any (clash t) left || list_any (clash t) (take i added))

or_none : (a : Bool) → a ≡ (a || false)
or_none true = refl
or_none false = refl

pub searches_start : (left added : List NewTable) → Searches left added 0
searches_start left added = record { done = left; reads = refl; same = λ t. or_none (list_any (clash t) left) }

search_step : (done added : List NewTable) (i : ℕ) (t d : NewTable) → i < length added → t ≡ get_or added i d → first_overlap done (drop i added) ≡ first_overlap done (t ∷ drop (i + 1) added)
search_step done added i t d lt is = ap (first_overlap done) (drop-cons added i d lt ∙ (λ j. sym is j ∷ drop (sym (add-one i) j) added))

pub searches_here : (left added : List NewTable) (i : ℕ) (t d : NewTable) → Searches left added i → i < length added → t ≡ get_or added i d
    → (list_any (clash t) left || list_any (clash t) (take i added)) ≡ true → first_overlap left added ≡ Some t.number
searches_here left added i t d s lt is h =
    s.reads ∙ search_step s.done added i t d lt is ∙ ap (λ b. cond b (Some t.number) (first_overlap (t ∷ s.done) (drop (i + 1) added))) (s.same t ∙ h)

pub any_push : (p : NewTable → Bool) (xs : List NewTable) (x : NewTable) → list_any p (xs ++ x ∷ []) ≡ (p x || list_any p xs)
any_push p [] x = refl
any_push p (y ∷ ys) x = ap (λ b. p y || b) (any_push p ys x) ∙ swap (p y) (p x) (list_any p ys)
  where
    swap : (a b c : Bool) → (a || (b || c)) ≡ (b || (a || c))
    swap true true c = refl
    swap true false c = refl
    swap false true c = refl
    swap false false c = refl

or_swap : (a b c : Bool) → (a || (b || c)) ≡ (b || (a || c))
or_swap true true c = refl
or_swap true false c = refl
or_swap false true c = refl
or_swap false false c = refl

pub searches_more : (left added : List NewTable) (i : ℕ) (t d : NewTable) → Searches left added i → i < length added → t ≡ get_or added i d
    → (list_any (clash t) left || list_any (clash t) (take i added)) ≡ false → Searches left added (i + 1)
searches_more left added i t d s lt is h = record {
  done = t ∷ s.done;
  reads = s.reads ∙ search_step s.done added i t d lt is ∙ ap (λ b. cond b (Some t.number) (first_overlap (t ∷ s.done) (drop (i + 1) added))) (s.same t ∙ h);
  same = λ u.
      let more : list_any (clash u) (take (i + 1) added) ≡ (clash u t || list_any (clash u) (take i added)) =
      ap (list_any (clash u)) (take_more added i d lt ∙ ap (λ y. take i added ++ y ∷ []) (sym is)) ∙ any_push (clash u) (take i added) t in
      ap (λ b. clash u t || b) (s.same u) ∙ or_swap (clash u t) (list_any (clash u) left) (list_any (clash u) (take i added)) ∙ ap (λ b. list_any (clash u) left || b) (sym more);
}

pub searches_end : (left added : List NewTable) (i : ℕ) → Searches left added i → length added ≤ i → first_overlap left added ≡ None
searches_end left added i s le = s.reads ∙ ap (first_overlap s.done) (drop_all i added le)
