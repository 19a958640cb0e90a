-- Plans.
use Rattle.std.proofs.Common.{◌≡◌, ℕ, zero, suc, ◌<◌, ◌≤◌, ◌==◌, Bool, true, false, cond, List, [], ◌∷◌, ◌++◌, length, take, drop, get_or, min, Some, None, refl, sym, ◌∙◌, ap, arith}
use Rattle.std.specs.Prelude.{◌||◌, filter, nat_le, slice_get}
use Rattle.std.specs.List.{list_any}
use Rattle.std.proofs.lemmas.Bool.{false≢true, true≢false}
use Rattle.std.proofs.lemmas.List.{append-nil}
use Rattle.bl_edit.specs.declared.edit.NewTable.{NewTable}
use Rattle.bl_build.specs.declared.plan.CompactionPlan.{CompactionPlan}
use Rattle.bl_build.specs.Listing.{Listing}
use Rattle.bl_edit.specs.Options.{Values}
use Rattle.bl_build.specs.declared.meta.BlobMeta.{BlobMeta}
use Rattle.bl_pick.specs.declared.kinds.Due.TheVariants.{Idle, Flush, Level}
use Rattle.bl_pick.specs.Picking.{collection, cutoff, deepest, due, first_of, full_plan, full_plan_of, fullest, hull_overlaps, is_forced, level_plan, linked_to, no_file, number_of, oldest_batch, plan_of, rewrite_plan, score}
use Rattle.bl_pick.proofs.Counting.{by_test}

pub any_here : {A : Type 0} (p : A → Bool) (xs : List A) (i : ℕ) (x : A) → i < length xs → x ≡ get_or xs i x → p x ≡ true → list_any p xs ≡ true
any_here p [] i x lt is t = absurd (omega arith)
any_here p (y ∷ xs) zero x lt is t = ap (λ b. b || list_any p xs) (sym (ap p is) ∙ t)
any_here p (y ∷ xs) (suc i) x lt is t = ap (λ b. p y || b) (any_here p xs i x (omega arith) is t) ∙ yes (p y)
  where
    yes : (b : Bool) → (b || true) ≡ true
    yes true = refl
    yes false = refl

pub some_length : (n : ℕ) → false ≡ (n == 0) → n ≡ 0 → ⊥
some_length n h e = false≢true (h ∙ ap (λ k. k == 0) e)

-- the first that passes
pub linked_here : (p : NewTable → Bool) (xs : List NewTable) (i : ℕ) (x : NewTable) → filter p (take i xs) ≡ [] → i < length xs → x ≡ get_or xs i x → p x ≡ true → take 1 (drop i xs) ≡ first_of (filter p xs)
linked_here p [] i x none lt is t = absurd (omega arith)
linked_here p (y ∷ xs) zero x none lt is t = sym (ap (λ b. first_of (cond b (y ∷ filter p xs) (filter p xs))) (sym (ap p is) ∙ t))
linked_here p (y ∷ xs) (suc i) x none lt is t =
    by_test (p y)
    (λ e. absurd (let wrong : y ∷ filter p (take i xs) ≡ [] = sym (ap (λ b. cond b (y ∷ filter p (take i xs)) (filter p (take i xs))) e) ∙ none in cc wrong))
    (λ e.
    linked_here p xs i x (sym (ap (λ b. cond b (y ∷ filter p (take i xs)) (filter p (take i xs))) e) ∙ none) (omega arith) is t
    ∙ sym (ap (λ b. first_of (cond b (y ∷ filter p xs) (filter p xs))) e))

pub linked_nowhere : (p : NewTable → Bool) (xs : List NewTable) (i : ℕ) → length xs ≤ i → filter p (take i xs) ≡ [] → [] ≡ first_of (filter p xs)
linked_nowhere p [] i le none = refl
linked_nowhere p (y ∷ xs) zero le none = absurd (omega arith)
linked_nowhere p (y ∷ xs) (suc i) le none =
    by_test (p y)
    (λ e. absurd (let wrong : y ∷ filter p (take i xs) ≡ [] = sym (ap (λ b. cond b (y ∷ filter p (take i xs)) (filter p (take i xs))) e) ∙ none in cc wrong))
    (λ e.
    linked_nowhere p xs i (omega arith) (sym (ap (λ b. cond b (y ∷ filter p (take i xs)) (filter p (take i xs))) e) ∙ none)
    ∙ sym (ap (λ b. first_of (cond b (y ∷ filter p xs) (filter p xs))) e))

pub first_short : (ts : List NewTable) → length (first_of ts) ≤ 1
first_short [] = omega arith
first_short (t ∷ ts) = omega arith

-- the plan speaks of the first alone
pub rewrites_first : (v : Listing) (snapshots : List ℕ) (below : ℕ) (ts : List NewTable) → rewrite_plan v snapshots below (first_of ts) ≡ rewrite_plan v snapshots below ts
rewrites_first v snapshots below [] = refl
rewrites_first v snapshots below (t ∷ ts) = refl

pub first_is : (ts : List NewTable) → take (min (length ts) 1) ts ≡ first_of ts
first_is [] = refl
first_is (t ∷ ts) = ap (λ n. take n (t ∷ ts)) (one (length ts))
  where
    one : (n : ℕ) → min (suc n) 1 ≡ 1
    one n = omega arith

pub with_none : (down : List NewTable) → down ++ filter (hull_overlaps down) [] ≡ down
with_none down = append-nil down

-- the deepest level
pub deepest_some : (ts : List NewTable) → 1 ≤ deepest ts
deepest_some [] = omega arith
deepest_some (t ∷ ts) = omega (arith, deepest_some ts)

no_zero : (n : ℕ) → (suc n == 0) ≡ false
no_zero n = grind arith

-- all tables
pub full_none : (v : Listing) (snapshots : List ℕ) (tables : List NewTable) → tables ≡ v.tables → true ≡ (length tables == 0) → None ≡ full_plan v snapshots
unfolding full_plan
full_none v snapshots tables is none = by tables none ∙ ap (full_plan_of v snapshots) is
  where
    by : (ts : List NewTable) → true ≡ (length ts == 0) → None ≡ full_plan_of v snapshots ts
    by [] e = refl
    by (t ∷ ts) e = absurd (true≢false (e ∙ no_zero (length ts)))

pub full_some : (v : Listing) (snapshots : List ℕ) (tables : List NewTable) (first : NewTable) (deep : ℕ) (plan : CompactionPlan) → tables ≡ v.tables → false ≡ (length tables == 0) → first ≡ get_or tables 0 first → deep ≡ deepest tables
    → plan ≡ plan_of v snapshots no_file (tables ++ filter (hull_overlaps tables) []) first.level deep → Some plan ≡ full_plan v snapshots
unfolding full_plan
full_some v snapshots tables first deep plan is some own deep_is plan_is = ap Some plan_is ∙ by tables some own deep_is ∙ ap (full_plan_of v snapshots) is
  where
    by : (ts : List NewTable) → false ≡ (length ts == 0) → first ≡ get_or ts 0 first → deep ≡ deepest ts → Some (plan_of v snapshots no_file (ts ++ filter (hull_overlaps ts) []) first.level deep) ≡ full_plan_of v snapshots ts
    by [] e f d = absurd (false≢true e)
    by (t ∷ ts) e f d =
        ap (λ us. Some (plan_of v snapshots no_file us first.level deep)) (with_none (t ∷ ts))
        ∙ ap (λ (x : NewTable). Some (plan_of v snapshots no_file (t ∷ ts) x.level deep)) f ∙ ap (λ n. Some (plan_of v snapshots no_file (t ∷ ts) t.level n)) d

-- what is due
pub collects : (v : Listing) (o : Values) (snapshots : List ℕ) (forced : Bool) (below file : ℕ) (blobs : List BlobMeta) (tables linked : List NewTable) → forced ≡ true → forced ≡ is_forced v o (oldest_batch v.blobs)
    → below ≡ cutoff v.blobs o.age_cutoff → blobs ≡ v.blobs → file ≡ number_of (slice_get blobs 0) → tables ≡ v.tables → linked ≡ first_of (filter (λ t. t.oldest_blob == file) tables)
    → rewrite_plan v snapshots below linked ≡ collection v o snapshots
collects v o snapshots forced below file blobs tables linked was forced_is below_is blobs_are file_is tables_are linked_is =
    let file_of : file ≡ number_of (slice_get v.blobs 0) = file_is ∙ ap (λ (bs : List BlobMeta). number_of (slice_get bs 0)) blobs_are in
    let all : linked ≡ first_of (linked_to v (number_of (slice_get v.blobs 0))) =
    linked_is ∙ ap (λ (ts : List NewTable). first_of (filter (λ t. t.oldest_blob == file) ts)) tables_are ∙ ap (λ n. first_of (linked_to v n)) file_of in
    ap (λ n. rewrite_plan v snapshots n linked) below_is ∙ ap (rewrite_plan v snapshots (cutoff v.blobs o.age_cutoff)) all
    ∙ rewrites_first v snapshots (cutoff v.blobs o.age_cutoff) (linked_to v (number_of (slice_get v.blobs 0)))
    ∙ ap (λ b. cond b (rewrite_plan v snapshots (cutoff v.blobs o.age_cutoff) (linked_to v (number_of (slice_get v.blobs 0)))) Idle) (sym was ∙ forced_is)

pub due_waiting : (v : Listing) (o : Values) (waiting : Bool) (snapshots : List ℕ) → waiting ≡ true → Flush ≡ due v o waiting snapshots
unfolding due
due_waiting v o waiting snapshots is = sym (ap (λ b. due v o b snapshots) is)

at_least : (n : ℕ) → 100 ≤ n → nat_le 100 n ≡ true
at_least n le = grind arith

less_than : (n : ℕ) → n < 100 → nat_le 100 n ≡ false
less_than n lt = grind arith

pub due_level : (v : Listing) (o : Values) (waiting : Bool) (snapshots : List ℕ) (below level graded : ℕ) (plan : CompactionPlan) → waiting ≡ false → below ≡ cutoff v.blobs o.age_cutoff → level ≡ fullest v o → graded ≡ score v o level
    → 100 ≤ graded → plan ≡ level_plan v snapshots below level → Level plan ≡ due v o waiting snapshots
unfolding due
due_level v o waiting snapshots below level graded plan is below_is level_is graded_is full plan_is =
    let top : nat_le 100 (score v o (fullest v o)) ≡ true = ap (nat_le 100) (sym (graded_is ∙ ap (score v o) level_is)) ∙ at_least graded full in
    ap Level (plan_is ∙ ap (λ n. level_plan v snapshots n level) below_is ∙ ap (level_plan v snapshots (cutoff v.blobs o.age_cutoff)) level_is)
    ∙ sym (ap (λ b. cond b (Level (level_plan v snapshots (cutoff v.blobs o.age_cutoff) (fullest v o))) (collection v o snapshots)) top)
    ∙ sym (ap (λ b. due v o b snapshots) is)

pub due_rest : (v : Listing) (o : Values) (waiting : Bool) (snapshots : List ℕ) (level graded : ℕ) → waiting ≡ false → level ≡ fullest v o → graded ≡ score v o level → graded < 100 → collection v o snapshots ≡ due v o waiting snapshots
unfolding due
due_rest v o waiting snapshots level graded is level_is graded_is low =
    let top : nat_le 100 (score v o (fullest v o)) ≡ false = ap (nat_le 100) (sym (graded_is ∙ ap (score v o) level_is)) ∙ less_than graded low in
    sym (ap (λ b. cond b (Level (level_plan v snapshots (cutoff v.blobs o.age_cutoff) (fullest v o))) (collection v o snapshots)) top) ∙ sym (ap (λ b. due v o b snapshots) is)
