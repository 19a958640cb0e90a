-- A front, in which tables are looked up by their order.
use Rattle.std.proofs.Common.{◌≡◌, ℕ, suc, ◌+◌, ◌-◌, ◌<◌, ◌≤◌, nat_lt, Bool, true, false, List, [], ◌∷◌, ◌++◌, length, take, get_or, refl, sym, ◌∙◌, ap, subst, arith, inl, inr, ◌⊎◌, None, Some, length-append}
use Rattle.std.specs.Prelude.{◌==◌, ◌&&◌, ◌||◌, ◌↔◌, not, map, IsTrue}
use Rattle.std.specs.List.{AllByRecursion, list_any}
use Rattle.std.specs.List.Sorted.{IsPartitionedBy, IsPermutation, IsSortedBy}
use Rattle.std.specs.Borrow.{Bor}
use Rattle.std.specs.Fn.{Called, ComparesAs, Mut}
use Rattle.std.specs.Cmp.{IsTotalOrder, IsStrictWeakOrder, then_total, on_total, nat_cmp_total}
use Rattle.std.specs.Cmp.Lexicographic.{nat_list_cmp_total}
use Rattle.std.specs.Ordering.{is_le, is_lt, is_gt, nat_cmp, ordering_reverse, ordering_then}
use Rattle.std.specs.declared.cmp.Ordering.{Ordering}
use Rattle.std.specs.declared.cmp.Ordering.TheVariants.{Less, Equal, Greater}
use Rattle.std.proofs.lemmas.Bool.{eq-eqb, eqb-true, cases_eq, cases_lt, cases_Bool, false≢true, lt-ltb, ltb-true}
use Rattle.std.proofs.lemmas.Cmp.{ranked, upto}
use Rattle.std.proofs.lemmas.Fn.{always_returns_same}
use Rattle.std.proofs.lemmas.List.{get_or-map, get_or_append_left, get_or_default, get_or_push, take_more}
use Rattle.std.proofs.lemmas.List.Folds.{list_any_at}
use Rattle.std.proofs.lemmas.List.MinMax.{ranks_by, IsStrictWeakOrder-flip}
use Rattle.std.proofs.lemmas.List.Sorted.{IsPermutation-sym, sorted_far}
use Rattle.bl_code.specs.Order.{bytes_cmp, bytes_le}
use Rattle.bl_edit.specs.declared.edit.NewTable.{NewTable}
use Rattle.bl_build.specs.Fronts.{Falls, IsFront, by_end, covers, reaches}
use Rattle.bl_build.specs.Versions.{clash, overlap, first_user, last_user, first_overlap}
use Rattle.bl_build.proofs.Clashing.{Searches, any_push, both_pass, first_at, pass_both, reordered, searches_end, searches_here, searches_more, searches_start}
use Rattle.bl_build.proofs.Levels.{both_true}
use Rattle.bl_build.proofs.Files.{or_parts}
use Rattle.bl_build.proofs.Placing.{all_from, get_mapped, map_push, take_whole}
use Rattle.bl_build.proofs.Searching.{not_true}

-- ---- byte strings

le_is : (o : Ordering) → is_le o ≡ not (is_gt o)
le_is Less = refl
le_is Equal = refl
le_is Greater = refl

not_gt : (o : Ordering) → is_le o ≡ true → is_gt o ≡ false
not_gt Less h = refl
not_gt Equal h = refl
not_gt Greater h = sym h

le_trans : (a b c : List ℕ) → bytes_le a b ≡ true → bytes_le b c ≡ true → bytes_le a c ≡ true
le_trans a b c h k =
    le_is (bytes_cmp a c) ∙ ap not (upto nat_list_cmp_total a b c (not_gt (bytes_cmp a b) h) (not_gt (bytes_cmp b c) k))

turned : (a b : List ℕ) → bytes_cmp a b ≡ ordering_reverse (bytes_cmp b a)
turned a b = nat_list_cmp_total.antisymm a b

not_le : (o : Ordering) → is_le o ≡ false → is_le (ordering_reverse o) ≡ true
not_le Less h = absurd (false≢true (sym h))
not_le Equal h = absurd (false≢true (sym h))
not_le Greater h = refl

le_other : (a b : List ℕ) → bytes_le a b ≡ false → bytes_le b a ≡ true
le_other a b h = ap is_le (turned b a) ∙ not_le (bytes_cmp a b) h

not_lt : (o : Ordering) → is_lt o ≡ false → is_le (ordering_reverse o) ≡ true
not_lt Less h = absurd (false≢true (sym h))
not_lt Equal h = refl
not_lt Greater h = refl

-- ---- the order by end

end_total : IsTotalOrder by_end
end_total = then_total (on_total (λ (t : NewTable). t.level) nat_cmp_total) (on_total last_user nat_list_cmp_total)

-- a is not before b in it
abbrev AtLeast : NewTable → NewTable → Type 0
AtLeast a b = (b.level < a.level) ⊎ ((b.level ≡ a.level) × (bytes_le (last_user b) (last_user a) ≡ true))

at_least_by : (a b : NewTable) (o : Ordering) → o ≡ nat_cmp a.level b.level → is_lt (ordering_then o (bytes_cmp (last_user a) (last_user b))) ≡ false → AtLeast a b
at_least_by a b Less e h = absurd (false≢true (sym h))
at_least_by a b Equal e h =
    inr (sym (ranked a.level b.level Equal e), ap is_le (turned (last_user b) (last_user a)) ∙ not_lt (bytes_cmp (last_user a) (last_user b)) h)
at_least_by a b Greater e h = inl (ranked a.level b.level Greater e)

at_least : (a b : NewTable) → is_lt (by_end a b) ≡ false → AtLeast a b
at_least a b h = at_least_by a b (nat_cmp a.level b.level) refl h

-- ---- clashes and the order

from_not : (b : Bool) → (b ≡ true → ⊥) → b ≡ false
from_not true h = absurd (h refl)
from_not false h = refl

record Clashes (a b : NewTable) : Type 0 where
  deep : not (a.level == 0) ≡ true
  same : b.level ≡ a.level
  first : bytes_le (first_user a) (last_user b) ≡ true
  second : bytes_le (first_user b) (last_user a) ≡ true

clash_parts : (a b : NewTable) → clash a b ≡ true → Clashes a b
clash_parts a b h =
    let front = both_true (not (a.level == 0) && (b.level == a.level)) (overlap a b) h in
    let levels = both_true (not (a.level == 0)) (b.level == a.level) front.0 in
    let keys = both_true (bytes_le (first_user a) (last_user b)) (bytes_le (first_user b) (last_user a)) front.1 in
    record { deep = levels.0; same = eqb-true b.level a.level levels.1; first = keys.0; second = keys.1 }

clash_from : (a b : NewTable) → Clashes a b → clash a b ≡ true
clash_from a b c = λ i. c.deep i && eq-eqb b.level a.level c.same i && (c.first i && c.second i)

or_left : (a b : Bool) → a ≡ true → (a || b) ≡ true
or_left true b h = refl
or_left false b h = absurd (false≢true h)

or_right : (a b : Bool) → b ≡ true → (a || b) ≡ true
or_right true b h = refl
or_right false b h = h

reach_upper : (a b : NewTable) → b.level < a.level → reaches a b ≡ true
reach_upper a b lt = or_left (nat_lt b.level a.level) ((a.level == b.level) && bytes_le (first_user b) (last_user a)) (lt-ltb b.level a.level lt)

reach_same : (a b : NewTable) → a.level ≡ b.level → bytes_le (first_user b) (last_user a) ≡ true → reaches a b ≡ true
reach_same a b e h = or_right (nat_lt b.level a.level) ((a.level == b.level) && bytes_le (first_user b) (last_user a)) (λ i. eq-eqb a.level b.level e i && h i)

or_cases : (a b : Bool) (P : Type 0) → (a || b) ≡ true → (a ≡ true → P) → (b ≡ true → P) → P
or_cases true b P h f g = f refl
or_cases false b P h f g = g h

reach_cases : (a b : NewTable) (P : Type 0) → reaches a b ≡ true → (b.level < a.level → P) → (a.level ≡ b.level → bytes_le (first_user b) (last_user a) ≡ true → P) → P
reach_cases a b P h upper same =
    or_cases (nat_lt b.level a.level) ((a.level == b.level) && bytes_le (first_user b) (last_user a)) P h (λ k. upper (ltb-true b.level a.level k))
    (λ k. let t = both_true (a.level == b.level) (bytes_le (first_user b) (last_user a)) k in same (eqb-true a.level b.level t.0) t.1)

-- what it does not reach it does not clash with
unreached : (t u : NewTable) → reaches u t ≡ false → clash t u ≡ false
unreached t u h =
    from_not (clash t u) (λ k. let c = clash_parts t u k in false≢true (sym h ∙ reach_same u t c.same c.first))

-- one behind, in a front, that reaches a table clashes with it where one before does
passes_on : (t w u : NewTable) → Falls w u → reaches u t ≡ true → clash t w ≡ true → clash t u ≡ true
passes_on t w u f r h =
    let c = clash_parts t w h in
    let e : w.level ≡ t.level = c.same in
    reach_cases u t (clash t u ≡ true) r
    (λ lt. elim f [ inl less ↦ absurd (omega (arith, e, lt, less)) | inr same ↦ absurd (omega (arith, e, lt, same.0)) ])
    (λ e2 k. elim f [
      | inl less ↦ absurd (omega (arith, e, e2, less))
      | inr same ↦ clash_from t u (record { deep = c.deep; same = e2; first = k; second = le_trans (first_user u) (first_user w) (last_user t) same.2 c.second })
    ])

-- one before, in a front, reaches what one behind does
reach_back : (t w u : NewTable) → Falls w u → reaches u t ≡ true → reaches w t ≡ true
reach_back t w u f r =
    reach_cases u t (reaches w t ≡ true) r
    (λ lt. elim f [ inl less ↦ reach_upper w t (omega (arith, lt, less)) | inr same ↦ reach_upper w t (omega (arith, lt, same.0)) ])
    (λ e k. elim f [
      | inl less ↦ reach_upper w t (omega (arith, e, less))
      | inr same ↦ reach_same w t (sym same.0 ∙ e) (le_trans (first_user t) (last_user u) (last_user w) k same.1)
    ])

-- ---- a look-up

none_of : (p : NewTable → Bool) (xs : List NewTable) (d : NewTable) → ((k : ℕ) → k < length xs → p (get_or xs k d) ≡ false) → list_any p xs ≡ false
none_of p [] d h = refl
none_of p (x ∷ xs) d h = λ i. h 0 (omega arith) i || none_of p xs d (λ k lt. h (suc k) (omega arith)) i

pub none_reach : (xs : List NewTable) (t d : NewTable) → ((k : ℕ) → k < length xs → reaches (get_or xs k d) t ≡ false) → list_any (clash t) xs ≡ false
none_reach xs t d h = none_of (clash t) xs d (λ k lt. unreached t (get_or xs k d) (h k lt))

-- by the last one that reaches the table
pub last_reach : (xs : List NewTable) (t d : NewTable) (n : ℕ) → IsFront xs → n < length xs → reaches (get_or xs n d) t ≡ true
    → ((k : ℕ) → suc n ≤ k → k < length xs → reaches (get_or xs k d) t ≡ false) → clash t (get_or xs n d) ≡ list_any (clash t) xs
last_reach xs t d n front lt here behind = elim (cases_Bool (clash t (get_or xs n d))) [
  | inl hit ↦ hit ∙ sym (list_any_at (clash t) xs n d lt hit)
  | inr none ↦ none ∙ sym (none_of (clash t) xs d (λ k lt2. elim (cases_lt n k) [
    | inl less ↦ unreached t (get_or xs k d) (behind k (omega arith) lt2)
    | inr more ↦ elim (cases_eq k n) [
      | inl e ↦ ap (λ (j : ℕ). clash t (get_or xs j d)) e ∙ none
      | inr other ↦ from_not (clash t (get_or xs k d)) (λ h. false≢true (sym none ∙ passes_on t (get_or xs k d) (get_or xs n d) (front.falls k n d (omega (arith, other)) lt) here h))
    ]
  ]))
]

abbrev pub now_of : Bor NewTable → NewTable
now_of t = t.now

pub mapped_length : (ts : List (Bor NewTable)) → length (map now_of ts) ≡ length ts
mapped_length [] = refl
mapped_length (t ∷ ts) = ap suc (mapped_length ts)

-- those that reach a table stand in front
pub parted_by : (ts : List (Bor NewTable)) (t : NewTable) → IsFront (map now_of ts) → IsPartitionedBy (λ u. reaches u.now t) ts
parted_by ts t front i j d le lt h =
    let xs : List NewTable = map now_of ts in
    let inside : j < length xs = omega (arith, lt, mapped_length ts) in
    let there : reaches (get_or xs j d.now) t ≡ true = ap (λ u. reaches u t) (get_mapped now_of ts j d) ∙ h in
    elim (cases_lt i j) [
      | inl less ↦ ap (λ u. reaches u t) (sym (get_mapped now_of ts i d)) ∙ reach_back t (get_or xs i d.now) (get_or xs j d.now) (front.falls i j d.now less inside) there
      | inr more ↦
          let e : j ≡ i = omega arith in
          subst (λ (k : ℕ). reaches (get_or ts k d).now t ≡ true) e h
    ]

-- the answers for references
pub by_none : (ts : List (Bor NewTable)) (t : NewTable) (u : Bor NewTable) → ((k : ℕ) → k < length ts → reaches (get_or ts k u).now t ≡ false) → list_any (clash t) (map now_of ts) ≡ false
by_none ts t u h = none_reach (map now_of ts) t u.now (λ k lt. ap (λ (v : NewTable). reaches v t) (get_mapped now_of ts k u) ∙ h k (omega (arith, lt, mapped_length ts)))

pub by_last : (ts : List (Bor NewTable)) (t : NewTable) (n : ℕ) (u : Bor NewTable) → IsFront (map now_of ts) → n < length ts → u ≡ get_or ts n u → reaches (get_or ts n u).now t ≡ true
    → ((k : ℕ) → suc n ≤ k → k < length ts → reaches (get_or ts k u).now t ≡ false) → clash t u.now ≡ list_any (clash t) (map now_of ts)
by_last ts t n u front lt is here behind =
    let at : (k : ℕ) → get_or (map now_of ts) k u.now ≡ (get_or ts k u).now = λ k. get_mapped now_of ts k u in
    ap (clash t) (ap now_of is ∙ sym (at n))
    ∙ last_reach (map now_of ts) t u.now n front (omega (arith, lt, mapped_length ts)) (ap (λ (v : NewTable). reaches v t) (at n) ∙ here)
    (λ k le lt2. ap (λ (v : NewTable). reaches v t) (at k) ∙ behind k le (omega (arith, lt2, mapped_length ts)))

-- ---- a front is made of tables that descend by end

abbrev pub Descends : List NewTable → Type 0
Descends ts = (i j : ℕ) (d : NewTable) → i ≤ j → j < length ts → is_lt (by_end (get_or ts i d) (get_or ts j d)) ≡ false

-- what a sort of references leaves
abbrev pub later : Bor NewTable → Bor NewTable → Bool
later x y = is_lt (by_end y.now x.now)

pub later_order : IsStrictWeakOrder later
later_order = IsStrictWeakOrder-flip (λ (x y : Bor NewTable). is_lt (by_end x.now y.now)) (ranks_by end_total now_of)

pub descends : (ts : List (Bor NewTable)) → IsSortedBy later ts → Descends (map now_of ts)
descends [] sorted i j d le lt = absurd (omega arith)
descends (t ∷ ts) sorted i j d le lt =
    let inside : j < length (t ∷ ts) = omega (arith, lt, mapped_length (t ∷ ts)) in
    (λ k. is_lt (by_end (get_or-map now_of (t ∷ ts) i t d (omega arith) k) (get_or-map now_of (t ∷ ts) j t d inside k)))
    ∙ sorted_far later later_order (t ∷ ts) sorted i j t le inside

-- the front of the first i tables
pub record Builds (ts : List NewTable) (i : ℕ) (front : List NewTable) : Type 0 where
  pub falling : IsFront front
  pub same : (t : NewTable) → list_any (clash t) front ≡ list_any (clash t) (take i ts)
  pub above : (k j : ℕ) (d : NewTable) → k < length front → i ≤ j → j < length ts → is_lt (by_end (get_or front k d) (get_or ts j d)) ≡ false
  pub searches : Searches [] ts i

pub builds_start : (ts : List NewTable) → Builds ts 0 []
builds_start ts = record {
  falling = record { falls = λ i j d less lt. absurd (omega arith) };
  same = λ t. refl;
  above = λ k j d lt le lt2. absurd (omega arith);
  searches = searches_start [] ts;
}

one_more_taken : (ts : List NewTable) (i : ℕ) (t d u : NewTable) → i < length ts → t ≡ get_or ts i d → (clash u t || list_any (clash u) (take i ts)) ≡ list_any (clash u) (take (i + 1) ts)
one_more_taken ts i t d u lt is =
    sym (any_push (clash u) (take i ts) t) ∙ ap (list_any (clash u)) (sym (take_more ts i d lt ∙ ap (λ y. take i ts ++ y ∷ []) (sym is)))

-- a table that the last one does not cover
falls_last : (front : List NewTable) (t : NewTable) (k : ℕ) → IsFront front → k < length front → AtLeast (get_or front k t) t → AtLeast (get_or front (length front - 1) t) t
    → covers (get_or front (length front - 1) t) t ≡ false → Falls (get_or front k t) t
falls_last front t k f lt at_k at_last other =
    let n : ℕ = length front - 1 in
    let last : NewTable = get_or front (length front - 1) t in
    let begins : last.level ≡ t.level → bytes_le (first_user t) (first_user last) ≡ true = λ e. le_other (first_user last) (first_user t)
    (from_not (bytes_le (first_user last) (first_user t)) (λ h. false≢true (sym other ∙ (λ i. eq-eqb last.level t.level e i && h i)))) in
    elim at_k [
      | inl less ↦ inl less
      | inr same ↦ elim (cases_lt k n) [
        | inl before ↦
            let low : t.level ≤ last.level = elim at_last [ inl less ↦ omega arith | inr e ↦ omega (arith, e.0) ] in
            elim (f.falls k n t before (omega arith)) [
              | inl less ↦ absurd (omega (arith, same.0, low, less))
              | inr g ↦ inr (same.0, same.1, le_trans (first_user t) (first_user last) (first_user (get_or front k t)) (begins (g.0 ∙ sym same.0)) g.2)
            ]
        | inr behind ↦
            let e : n ≡ k = omega arith in
            let here : get_or front k t ≡ last = sym (ap (λ (j : ℕ). get_or front j t) e) in
            inr (same.0, same.1, ap (λ (u : NewTable). bytes_le (first_user t) (first_user u)) here ∙ begins (ap (λ (u : NewTable). u.level) (sym here) ∙ sym same.0))
      ]
    ]

pub builds_push : (ts : List NewTable) (i : ℕ) (front : List NewTable) (t d : NewTable) → Builds ts i front → Descends ts → i < length ts → t ≡ get_or ts i d → list_any (clash t) front ≡ false
    → (0 < length front → covers (get_or front (length front - 1) t) t ≡ false) → Builds ts (i + 1) (front ++ t ∷ [])
builds_push ts i front t d s down lt is none other = record {
  falling = record { falls = falling };
  same = λ u. any_push (clash u) front t ∙ ap (λ b. clash u t || b) (s.same u) ∙ one_more_taken ts i t d u lt is;
  above = above;
  searches = searches_more [] ts i t d s.searches lt is (sym (s.same t) ∙ none);
}
  where
    at : (e : NewTable) → t ≡ get_or ts i e
    at e = is ∙ get_or_default ts i d e lt

    pushed : (j : ℕ) (e : NewTable) → length front ≤ j → j < length (front ++ t ∷ []) → get_or (front ++ t ∷ []) j e ≡ t
    pushed j e le inside = get_or_push front t e j (omega (arith, length-append front (t ∷ [])))

    old : (j : ℕ) (e : NewTable) → j < length front → get_or (front ++ t ∷ []) j e ≡ get_or front j e
    old j e less = get_or_append_left front (t ∷ []) e j less

    over : (k : ℕ) → k < length front → AtLeast (get_or front k t) t
    over k less = at_least (get_or front k t) t (ap (λ (u : NewTable). is_lt (by_end (get_or front k t) u)) (at t) ∙ s.above k i t less (omega arith) lt)

    falling : (k j : ℕ) (e : NewTable) → k < j → j < length (front ++ t ∷ []) → Falls (get_or (front ++ t ∷ []) k e) (get_or (front ++ t ∷ []) j e)
    falling k j e less inside = elim (cases_lt j (length front)) [
      | inl before ↦
          subst (λ (u : NewTable). Falls u (get_or (front ++ t ∷ []) j e)) (sym (old k e (omega arith)))
          (subst (λ (u : NewTable). Falls (get_or front k e) u) (sym (old j e before)) (s.falling.falls k j e less before))
      | inr behind ↦
          let there : k < length front = omega (arith, length-append front (t ∷ [])) in
          let last : length front - 1 < length front = omega arith in
          subst (λ (u : NewTable). Falls u (get_or (front ++ t ∷ []) j e)) (sym (old k e there ∙ get_or_default front k e t there))
          (subst (λ (u : NewTable). Falls (get_or front k t) u) (sym (pushed j e behind inside))
          (falls_last front t k s.falling there (over k there) (over (length front - 1) last) (other (omega arith))))
    ]

    above : (k j : ℕ) (e : NewTable) → k < length (front ++ t ∷ []) → i + 1 ≤ j → j < length ts → is_lt (by_end (get_or (front ++ t ∷ []) k e) (get_or ts j e)) ≡ false
    above k j e inside le lt2 = elim (cases_lt k (length front)) [
      | inl before ↦ ap (λ (u : NewTable). is_lt (by_end u (get_or ts j e))) (old k e before) ∙ s.above k j e before (omega arith) lt2
      | inr behind ↦ ap (λ (u : NewTable). is_lt (by_end u (get_or ts j e))) (pushed k e behind inside ∙ at e) ∙ down i j e (omega arith) lt2
    ]

or_absorb : (a b : Bool) → (a ≡ true → b ≡ true) → b ≡ (a || b)
or_absorb true b h = h refl
or_absorb false b h = refl

-- a table that the last one covers
pub builds_skip : (ts : List NewTable) (i : ℕ) (front : List NewTable) (t d : NewTable) → Builds ts i front → i < length ts → t ≡ get_or ts i d → list_any (clash t) front ≡ false
    → 0 < length front → covers (get_or front (length front - 1) t) t ≡ true → Builds ts (i + 1) front
builds_skip ts i front t d s lt is none some cover = record {
  falling = s.falling;
  same = λ u. or_absorb (clash u t) (list_any (clash u) front) (absorbed u) ∙ ap (λ b. clash u t || b) (s.same u) ∙ one_more_taken ts i t d u lt is;
  above = λ k j e less le lt2. s.above k j e less (omega arith) lt2;
  searches = searches_more [] ts i t d s.searches lt is (sym (s.same t) ∙ none);
}
  where
    absorbed : (u : NewTable) → clash u t ≡ true → list_any (clash u) front ≡ true
    absorbed u h =
        let last : NewTable = get_or front (length front - 1) t in
        let inside : length front - 1 < length front = omega arith in
        let c = clash_parts u t h in
        let covered = both_true (last.level == t.level) (bytes_le (first_user last) (first_user t)) cover in
        let level : last.level ≡ t.level = eqb-true last.level t.level covered.0 in
        let ends : bytes_le (last_user t) (last_user last) ≡ true =
        elim (at_least last t (ap (λ (v : NewTable). is_lt (by_end last v)) (is ∙ get_or_default ts i d t lt) ∙ s.above (length front - 1) i t inside (omega arith) lt)) [
          | inl less ↦ absurd (omega (arith, level, less))
          | inr same ↦ same.1
        ] in
        list_any_at (clash u) front (length front - 1) t inside (clash_from u last (record {
          deep = c.deep;
          same = level ∙ c.same;
          first = le_trans (first_user u) (last_user t) (last_user last) c.first ends;
          second = le_trans (first_user last) (first_user t) (last_user u) covered.1 c.second;
        }))

-- the same steps for references
pub push_now : (items front : List (Bor NewTable)) (i : ℕ) (u : Bor NewTable) (covered : Bool) → Builds (map now_of items) i (map now_of front) → Descends (map now_of items) → i < length items
    → u ≡ get_or items i u → list_any (clash u.now) (map now_of front) ≡ false
    → (0 < length front → covered ≡ covers (get_or (map now_of front) (length front - 1) u.now) u.now) → covered ≡ false → Builds (map now_of items) (i + 1) (map now_of (front ++ u ∷ []))
push_now items front i u covered s down lt is none last h =
    let same : length (map now_of front) ≡ length front = mapped_length front in
    let at : u.now ≡ get_or (map now_of items) i u.now = ap now_of is ∙ sym (get_mapped now_of items i u) in
    subst (Builds (map now_of items) (i + 1)) (sym (map_push now_of front u))
    (builds_push (map now_of items) i (map now_of front) u.now u.now s down (omega (arith, lt, mapped_length items)) at none
    (λ some. ap (λ (n : ℕ). covers (get_or (map now_of front) (n - 1) u.now) u.now) same ∙ sym (last (omega (arith, some, same))) ∙ h))

pub skip_now : (items front : List (Bor NewTable)) (i : ℕ) (u : Bor NewTable) (covered : Bool) → Builds (map now_of items) i (map now_of front) → i < length items → u ≡ get_or items i u
    → list_any (clash u.now) (map now_of front) ≡ false → (length front ≡ 0 → covered ≡ false)
    → (0 < length front → covered ≡ covers (get_or (map now_of front) (length front - 1) u.now) u.now) → covered ≡ true → Builds (map now_of items) (i + 1) (map now_of front)
skip_now items front i u covered s lt is none empty last h =
    let same : length (map now_of front) ≡ length front = mapped_length front in
    let at : u.now ≡ get_or (map now_of items) i u.now = ap now_of is ∙ sym (get_mapped now_of items i u) in
    elim (cases_lt 0 (length front)) [
      | inl some ↦
          builds_skip (map now_of items) i (map now_of front) u.now u.now s (omega (arith, lt, mapped_length items)) at none (omega (arith, same))
          (ap (λ (n : ℕ). covers (get_or (map now_of front) (n - 1) u.now) u.now) same ∙ sym (last some) ∙ h)
      | inr zero_ ↦ absurd (false≢true (sym (empty (omega arith)) ∙ h))
    ]

pub stopped_at : (items : List (Bor NewTable)) (front : List NewTable) (i : ℕ) (u : Bor NewTable) → Builds (map now_of items) i front → i < length items → u ≡ get_or items i u
    → list_any (clash u.now) front ≡ true → first_overlap [] (map now_of items) ≡ Some u.now.number
stopped_at items front i u s lt is h =
    searches_here [] (map now_of items) i u.now u.now s.searches (omega (arith, lt, mapped_length items)) (ap now_of is ∙ sym (get_mapped now_of items i u)) (sym (s.same u.now) ∙ h)

pub builds_all : (items : List (Bor NewTable)) (front : List NewTable) (i : ℕ) → Builds (map now_of items) i front → length items ≤ i
    → ((t : NewTable) → list_any (clash t) front ≡ list_any (clash t) (map now_of items)) × (first_overlap [] (map now_of items) ≡ None)
builds_all items front i s le =
    let whole : length (map now_of items) ≤ i = omega (arith, le, mapped_length items) in
    ((λ t. s.same t ∙ ap (list_any (clash t)) (take_whole (map now_of items) i whole)), searches_end [] (map now_of items) i s.searches whole)

-- from the clause of a sort whose calls compare the other way round
pub sorted_later : {F : Type 0} {g : Mut F (Bor (Bor NewTable) × (Bor (Bor NewTable) × Unit {0})) Ordering} {f : F} (xs : List (Bor NewTable))
    → ((lt : Bor NewTable → Bor NewTable → Bool) → IsStrictWeakOrder lt → ComparesAs g lt f → IsSortedBy lt xs)
    → ((a : Bor (Bor NewTable) × (Bor (Bor NewTable) × Unit {0})) (r : Ordering) (f' : F) → Called g f a r f' → (r ≡ by_end a.1.0.now.now a.0.now.now) × (f' ≡ f)) → Descends (map now_of xs)
sorted_later {g = g} {f = f} xs up h =
    descends xs (up later later_order (always_returns_same g (λ a r. is_lt r ≡ later a.0.now a.1.0.now) f (λ a r f' k. (ap is_lt (h a r f' k).0, (h a r f' k).1))))

-- ---- what is told of the added tables

-- two of them clash
pub not_apart : (left added ts : List NewTable) (n : ℕ) → IsPermutation added ts → first_overlap [] ts ≡ Some n → first_overlap left added ≡ None → ⊥
not_apart left added ts n p some h =
    let none : first_overlap [] ts ≡ None = reordered ts added (IsPermutation-sym added ts p) (pass_both left added h).0 in
    cc

all_none : (p : NewTable → Bool) (xs : List NewTable) → AllByRecursion (λ x. p x ≡ false) xs → list_any p xs ≡ false
all_none p [] h = refl
all_none p (x ∷ xs) h = λ i. h.0 i || all_none p xs h.1 i

none_all : (p : NewTable → Bool) (xs : List NewTable) → list_any p xs ≡ false → AllByRecursion (λ x. p x ≡ false) xs
none_all p [] h = tt
none_all p (x ∷ xs) h = let parts = or_parts (p x) (list_any p xs) h in (parts.0, none_all p xs parts.1)

-- and where no two do
pub apart_by : (any : Bool) (left added front : List NewTable) → any ≡ list_any (λ t. list_any (clash t) front) left → ((t : NewTable) → list_any (clash t) front ≡ list_any (clash t) added)
    → first_overlap [] added ≡ None → IsTrue (not any) ↔ (first_overlap left added ≡ None)
apart_by any left added front is same none = (passes, fails)
  where
    passes : not any ≡ true → first_overlap left added ≡ None
    passes h = both_pass left added none
        (all_from (λ t. list_any (clash t) front ≡ false) (λ t. list_any (clash t) added ≡ false) left (λ t k. sym (same t) ∙ k)
        (none_all (λ t. list_any (clash t) front) left (sym is ∙ not_true any h)))

    fails : first_overlap left added ≡ None → not any ≡ true
    fails h = ap not (is ∙ all_none (λ t. list_any (clash t) front) left
        (all_from (λ t. list_any (clash t) added ≡ false) (λ t. list_any (clash t) front ≡ false) left (λ t k. same t ∙ k) (pass_both left added h).1))

-- ---- halving

pub record Halves (left added : List NewTable) (apart over : ℕ) : Type 0 where
  pub below : apart < over
  pub within : over ≤ length added
  pub passes : first_overlap left (take apart added) ≡ None
  pub fails : first_overlap left (take over added) ≡ None → ⊥

pub halves_start : (left added : List NewTable) → (first_overlap left added ≡ None → ⊥) → Halves left added 0 (length added)
halves_start left [] bad = absurd (bad refl)
halves_start left (t ∷ ts) bad = record {
  below = omega arith;
  within = omega arith;
  passes = refl;
  fails = λ e. bad (ap (first_overlap left) (sym (take_whole (t ∷ ts) (length (t ∷ ts)) (omega arith))) ∙ e);
}

pub halves_end : (left added : List NewTable) (apart over : ℕ) (d : NewTable) → Halves left added apart over → over - apart ≤ 1 → first_overlap left added ≡ Some (get_or added apart d).number
halves_end left added apart over d h le =
    let below : apart < over = h.below in
    let within : over ≤ length added = h.within in
    let e : over ≡ suc apart = omega arith in
    first_at left added apart d (omega arith) h.passes (subst (λ (k : ℕ). first_overlap left (take k added) ≡ None → ⊥) e h.fails)
