-- What is held after a compaction is sound.
use Rattle.std.proofs.Common.{◌≡◌, ◌≢◌, ℕ, ◌+◌, ◌-◌, ◌<◌, ◌≤◌, Bool, true, false, List, [], ◌∷◌, ◌++◌, length, take, refl, sym, ◌∙◌, ap, subst, arith, Option, Some, None, inl, inr, length-append}
use Rattle.std.specs.Prelude.{◌⊎◌, ◌==◌, ◌&&◌, not, map, max, Contains}
use Rattle.std.specs.List.{AllByRecursion, AllZip, IsDistinct, cons_option, filter_map, fold, list_any}
use Rattle.std.specs.Option.{option_map}
use Rattle.std.specs.Cmp.Lexicographic.{nat_list_cmp_total}
use Rattle.std.specs.Ordering.{is_le, is_lt, ordering_reverse}
use Rattle.std.specs.declared.cmp.Ordering.{Ordering}
use Rattle.std.specs.declared.cmp.Ordering.TheVariants.{Less, Equal, Greater}
use Rattle.std.proofs.lemmas.Bool.{false≢true, cases_eq, eqb-true, eq-eqb}
use Rattle.std.proofs.Math.Seq.{take-append_seam}
use Rattle.bl_code.specs.Numbers.{fixed64}
use Rattle.bl_code.specs.Order.{bytes_cmp, bytes_le, bytes_lt, user_part}
use Rattle.bl_edit.specs.declared.edit.NewTable.{NewTable}
use Rattle.bl_build.specs.Versions.{clash, first_user, last_user, overlap}
use Rattle.bl_entry.specs.declared.key.Entry.{Entry}
use Rattle.bl_entry.specs.Entries.{IsProper, last_of}
use Rattle.bl_entry.specs.Keys.{key_bytes, key_number}
use Rattle.bl_entry.specs.Revisions.{Revision, revisions_of}
use Rattle.bl_index.specs.declared.index.BlobIndex.{BlobIndex}
use Rattle.bl_out.specs.References.{Reference, index_of, reference_of, references}
use Rattle.bl_out.specs.Tables.{TableFile, table_entries, IsAsNamed, IsNewerAbove, IsPlaced, IsTablePlaced, IsTableProper, first_of, greatest_of}
use Rattle.bl_out.specs.Values.{revision_of}
use Rattle.bl_folder.specs.Entries.{records_by}
use Rattle.bl_folder.specs.Stands.{IsSound}
use Rattle.bl_compacted.specs.Pairs.{AreApart, AreDistinct, Pairwise}
use Rattle.bl_compacted.specs.Plans.{IsBeside, inputs_of, is_input}
use Rattle.bl_pick.specs.Picking.{hull_overlaps}
use Rattle.bl_compacted.specs.Installing.{compacted}
use Rattle.bl_folder.specs.Flushes.{metas}
use Rattle.bl_compacted.specs.Outputs.{EndsBefore, IsRanged, IsRewritten, numbers}
use Rattle.bl_compacted.proofs.Finding.{some_is}
use Rattle.bl_compacted.proofs.Apart.{apart_pairs, once_pairs, pairs_apart, pairs_once}
use Rattle.bl_compacted.proofs.Lists.{In, all_in, back, by_test, in_all, in_any, in_append, in_flat, in_map, of_each, of_flat, pairs_across, pairs_back, pairs_each, pairs_filter, pairs_front, pairs_join, shuffled_in, shuffled_pairs, to_contains, any_in}
use Rattle.bl_compacted.proofs.ValueLemmas.{and_both, and_parts}
use Rattle.bl_compacted.proofs.WeightLemmas.{rewritten_there}
use Rattle.bl_compacted.proofs.Jobs.{Differ, Hands, Job, Reads, after, after_either, all_map, both_differ, differ_flip, entries_after, entries_shuffled, ins_differ, ins_old, ins_read, keeps, kept_read, left, not_made, old, out_of, outs, pairs_to, read_parts, rest, rest_old, rest_read, split_old, stay, tables_read, tables_shuffled}
use Rattle.bl_compacted.proofs.KeptLemmas.{kept_in}
use Rattle.bl_compacted.proofs.LeftLemmas.{after_all, left_exact, left_totalled, named_after}
use Rattle.bl_compacted.proofs.LevelLemmas.{bytes_trans, from_input, in_inputs, in_stay, lies, seq_behind}
use Rattle.bl_compacted.proofs.MapLemmas.{hands_key, now, now_is, now_tables, values_kept}

-- ---- entries by table

-- what holds of the entries of all tables holds in each
pub by_table : (P : Entry → Type 0) (ts : List TableFile) → AllByRecursion P (table_entries ts) → AllByRecursion (λ t. AllByRecursion P t.entries) ts
by_table P ts h = all_in (λ t. AllByRecursion P t.entries) ts (λ t i. all_in P t.entries (λ x k. in_all P x (table_entries ts) h (in_flat (λ (u : TableFile). u.entries) t x ts i k)))

pub of_tables : (P : Entry → Type 0) (ts : List TableFile) → AllByRecursion (λ t. AllByRecursion P t.entries) ts → AllByRecursion P (table_entries ts)
of_tables P ts h = all_in P (table_entries ts) (λ x i. let t = of_flat (λ (u : TableFile). u.entries) x ts i in in_all P x t.0.entries (in_all (λ (u : TableFile). AllByRecursion P u.entries) t.0 ts h t.1) t.2)

-- what came out is of an entry that went in
pub from_ins : (j : Job) (o : Entry) → In o (outs j) → (k : Entry) × In k j.c.ins × Hands j k o
from_ins j o i = let p = out_of j o i in (p.0, kept_in j.plan.snapshots j.plan.bottom j.c.ins p.0 p.1, p.2)

pub proper_after : (j : Job) → AllByRecursion IsTableProper (after j)
proper_after j =
    after_all j IsTableProper
    (by_table IsProper j.new (all_in IsProper (outs j) (λ o i. let p = from_ins j o i in by p.0 o p.2 (in_all IsProper p.0 (old j) (of_tables IsProper j.h.tables j.sound.proper) (ins_old j p.0 p.1))))) j.sound.proper
  where
    by : (k o : Entry) → Hands j k o → IsProper k → IsProper o
    by k o (inl h) p = subst IsProper (sym h.0) p
    by k o (inr w) p = w.proper

pub placed_after : (j : Job) → AllByRecursion (IsTablePlaced j.h.live.standing.options) (after j)
placed_after j =
    after_all j (IsTablePlaced j.h.live.standing.options)
    (by_table P j.new (all_in P (outs j) (λ o i. let p = from_ins j o i in by p.0 o p.2 (in_all P p.0 (old j) (of_tables P j.h.tables j.sound.placed) (ins_old j p.0 p.1))))) j.sound.placed
  where
    P : Entry → Type 0
    P e = IsPlaced j.h.live.standing.options.min_blob_size e.key.kind e

    by : (k o : Entry) → Hands j k o → IsPlaced j.h.live.standing.options.min_blob_size k.key.kind k → IsPlaced j.h.live.standing.options.min_blob_size o.key.kind o
    by k o (inl h) p = subst (λ (e : Entry). IsPlaced j.h.live.standing.options.min_blob_size e.key.kind e) (sym h.0) p
    by k o (inr w) p = w.placed

-- ---- behind

most_in : (a : ℕ) (ns : List ℕ) → (fold max a ns ≡ a) ⊎ In (fold max a ns) ns
most_in a [] = inl refl
most_in a (n ∷ ns) = one (most_in (max a n) ns)
  where
    max_cases : (x y : ℕ) → (max x y ≡ x) ⊎ (max x y ≡ y)
    max_cases x y = grind arith

    pick : (fold max (max a n) ns ≡ max a n) → (max a n ≡ a) ⊎ (max a n ≡ n) → (fold max (max a n) ns ≡ a) ⊎ In (fold max (max a n) ns) (n ∷ ns)
    pick e (inl x) = inl (e ∙ x)
    pick e (inr y) = inr (inl (sym (e ∙ y)))

    one : (fold max (max a n) ns ≡ max a n) ⊎ In (fold max (max a n) ns) ns → (fold max (max a n) ns ≡ a) ⊎ In (fold max (max a n) ns) (n ∷ ns)
    one (inl e) = pick e (max_cases a n)
    one (inr i) = inr (inr i)

greatest_there : (ns : List ℕ) (k : ℕ) → greatest_of ns ≡ Some k → In k ns
greatest_there [] k e = absurd cc
greatest_there (m ∷ ms) k e = by (most_in m ms) (some_is e)
  where
    by : (fold max m ms ≡ m) ⊎ In (fold max m ms) ms → fold max m ms ≡ k → In k (m ∷ ms)
    by (inl is) same = inl (sym is ∙ same)
    by (inr i) same = inr (subst (λ (n : ℕ). In n ms) same i)

pub seq_after : (j : Job) (x : Entry) → In x (entries_after j) → x.key.seq ≤ j.h.live.standing.last_sequence
seq_after j x i = by (after_either j x i)
  where
    by : In x (outs j) ⊎ In x (rest j) → x.key.seq ≤ j.h.live.standing.last_sequence
    by (inl k) =
        let p = from_ins j x k in
        let le : p.0.key.seq ≤ j.h.live.standing.last_sequence = seq_behind j p.0 (ins_old j p.0 p.1) in
        let is : x.key.seq ≡ p.0.key.seq = (hands_key j p.0 x p.2).1 in
        omega arith
    by (inr k) = seq_behind j x (rest_old j x k)

pub behind_after : (j : Job) → AllByRecursion (λ (t : NewTable). t.most_seq ≤ j.h.live.standing.last_sequence) (metas (after j))
behind_after j =
    all_in (λ (t : NewTable). t.most_seq ≤ j.h.live.standing.last_sequence) (metas (after j)) (λ m i. by m (from_metas (after j) m i))
  where
    from_metas : (ts : List TableFile) (m : NewTable) → In m (metas ts) → (t : TableFile) × In t ts × (t.meta ≡ m)
    from_metas [] m i = absurd i
    from_metas (t ∷ ts) m (inl e) = (t, inl refl, e)
    from_metas (t ∷ ts) m (inr i) = let r = from_metas ts m i in (r.0, inr r.1, r.2)

    from_seqs : (es : List Entry) (n : ℕ) → In n (map (λ e. e.key.seq) es) → (x : Entry) × In x es × (x.key.seq ≡ n)
    from_seqs [] n i = absurd i
    from_seqs (x ∷ es) n (inl e) = (x, inl refl, e)
    from_seqs (x ∷ es) n (inr i) = let r = from_seqs es n i in (r.0, inr r.1, r.2)

    by : (m : NewTable) → (t : TableFile) × In t (after j) × (t.meta ≡ m) → m.most_seq ≤ j.h.live.standing.last_sequence
    by m (t, i, is) =
        let named : IsAsNamed t = in_all IsAsNamed t (after j) (named_after j) i in
        let x = from_seqs t.entries t.meta.most_seq (greatest_there (map (λ e. e.key.seq) t.entries) t.meta.most_seq named.most) in
        let le : x.0.key.seq ≤ j.h.live.standing.last_sequence = seq_after j x.0 (in_flat (λ (u : TableFile). u.entries) t x.0 (after j) i x.1) in
        let same : x.0.key.seq ≡ t.meta.most_seq = x.2 in
        let meta : t.meta.most_seq ≡ m.most_seq = ap (λ (u : NewTable). u.most_seq) is in
        omega arith

-- ---- newer

pub table_either : (j : Job) (t : TableFile) → In t (after j) → In t j.new ⊎ In t (stay j)
table_either j t i = in_append t j.new (stay j) (shuffled_in t (back (tables_shuffled j)) i)

newer_pair : (j : Job) (a b : TableFile) (x y : Entry) → In a j.new ⊎ In a (stay j) → In b j.new ⊎ In b (stay j) → In x a.entries → In y b.entries → a.meta.level < b.meta.level → x.key.user ≡ y.key.user
    → y.key.seq < x.key.seq
newer_pair j a b x y (inl i) (inl k) l m lt e =
    let p : a.meta.level ≡ j.plan.out_level = in_all (λ (t : TableFile). t.meta.level ≡ j.plan.out_level) a j.new j.c.outputs.levels i in
    let q : b.meta.level ≡ j.plan.out_level = in_all (λ (t : TableFile). t.meta.level ≡ j.plan.out_level) b j.new j.c.outputs.levels k in
    absurd (omega arith)
newer_pair j a b x y (inl i) (inr k) l m lt e =
    let p : a.meta.level ≡ j.plan.out_level = in_all (λ (t : TableFile). t.meta.level ≡ j.plan.out_level) a j.new j.c.outputs.levels i in
    let o = from_ins j x (in_flat (λ (u : TableFile). u.entries) a x j.new i l) in
    let key = hands_key j o.0 x o.2 in
    let seq : x.key.seq ≡ o.0.key.seq = key.1 in
    elim (lies j b o.0 y o.1 k m (sym key.0 ∙ e)) [
      | inl h ↦ let up : b.meta.level < j.plan.out_level = h.0 in absurd (omega arith)
      | inr h ↦ let older : y.key.seq < o.0.key.seq = h.1 in omega arith
    ]
newer_pair j a b x y (inr i) (inl k) l m lt e =
    let q : b.meta.level ≡ j.plan.out_level = in_all (λ (t : TableFile). t.meta.level ≡ j.plan.out_level) b j.new j.c.outputs.levels k in
    let o = from_ins j y (in_flat (λ (u : TableFile). u.entries) b y j.new k m) in
    let key = hands_key j o.0 y o.2 in
    let seq : y.key.seq ≡ o.0.key.seq = key.1 in
    elim (lies j a o.0 x o.1 i l (sym key.0 ∙ sym e)) [
      | inl h ↦ let newer : o.0.key.seq < x.key.seq = h.1 in omega arith
      | inr h ↦ let down : j.plan.out_level < a.meta.level = h.0 in absurd (omega arith)
    ]
newer_pair j a b x y (inr i) (inr k) l m lt e =
    let n : IsNewerAbove a b = in_all (IsNewerAbove a) b j.h.tables (in_all (λ (z : TableFile). AllByRecursion (IsNewerAbove z) j.h.tables) a j.h.tables j.sound.newer (in_stay j a i)) (in_stay j b k) in
    in_all (λ (z : Entry). x.key.user ≡ z.key.user → z.key.seq < x.key.seq) y b.entries
    (in_all (λ (w : Entry). AllByRecursion (λ z. w.key.user ≡ z.key.user → z.key.seq < w.key.seq) b.entries) x a.entries (n lt) l) m e

pub newer_after : (j : Job) → AllByRecursion (λ a. AllByRecursion (IsNewerAbove a) (after j)) (after j)
newer_after j =
    all_in (λ a. AllByRecursion (IsNewerAbove a) (after j)) (after j) (λ a i.
    all_in (IsNewerAbove a) (after j) (λ b k lt.
    all_in (λ x. AllByRecursion (λ y. x.key.user ≡ y.key.user → y.key.seq < x.key.seq) b.entries) a.entries (λ x l.
    all_in (λ y. x.key.user ≡ y.key.user → y.key.seq < x.key.seq) b.entries (λ y m e. newer_pair j a b x y (table_either j a i) (table_either j b k) l m lt e))))

-- ---- disjoint

pub user_end : (user : List ℕ) (n : ℕ) → user_part (user ++ fixed64 n) ≡ user
unfolding fixed64
user_end user n =
    let e : length (user ++ fixed64 n) ≡ length user + length (fixed64 n) = length-append user (fixed64 n) in
    let f : length (fixed64 n) ≡ 8 = refl in
    let at : length (user ++ fixed64 n) - 8 ≡ length user = omega arith in
    ap (λ k. take k (user ++ fixed64 n)) at ∙ take-append_seam user (fixed64 n)

pub first_there : (es : List Entry) (bytes : List ℕ) → option_map (λ e. key_bytes e.key) (first_of es) ≡ Some bytes → (x : Entry) × In x es × (user_part bytes ≡ x.key.user)
first_there [] bytes e = absurd cc
first_there (x ∷ es) bytes e = (x, inl refl, ap user_part (sym (some_is e)) ∙ user_end x.key.user (key_number x.key))

last_there : (es : List Entry) (bytes : List ℕ) → option_map (λ e. key_bytes e.key) (last_of es) ≡ Some bytes → (x : Entry) × In x es × (user_part bytes ≡ x.key.user)
last_there [] bytes e = absurd cc
last_there (x ∷ []) bytes e = (x, inl refl, ap user_part (sym (some_is e)) ∙ user_end x.key.user (key_number x.key))
last_there (x ∷ y ∷ es) bytes e = let r = last_there (y ∷ es) bytes e in (r.0, inr r.1, r.2)

abbrev pub NoClash : TableFile → TableFile → Type 0
NoClash a b = clash a.meta b.meta ≡ false

and_flip : (a b : Bool) → (a && b) ≡ (b && a)
and_flip true true = refl
and_flip true false = refl
and_flip false true = refl
and_flip false false = refl

by_level : (a b : NewTable) → (b.level ≡ a.level → overlap a b ≡ false) → clash a b ≡ false
by_level a b h =
    elim (cases_eq b.level a.level) [
      | inl e ↦ none (not (a.level == 0)) (b.level == a.level) (overlap a b) (h e)
      | inr n ↦ off (not (a.level == 0)) (b.level == a.level) (overlap a b) (by_test (b.level == a.level) (λ t. absurd (n (eqb-true b.level a.level t))) (λ t. t))
    ]
  where
    none : (p q r : Bool) → r ≡ false → (p && q && r) ≡ false
    none true true r e = e
    none true false r e = refl
    none false q r e = refl

    off : (p q r : Bool) → q ≡ false → (p && q && r) ≡ false
    off true true r e = absurd cc
    off true false r e = refl
    off false q r e = refl

pub no_clash_flip : (a b : NewTable) → clash a b ≡ false → clash b a ≡ false
no_clash_flip a b h =
    elim (cases_eq b.level a.level) [
      | inl e ↦
          let level : (a.level == b.level) ≡ (b.level == a.level) = eq-eqb a.level b.level (sym e) ∙ sym (eq-eqb b.level a.level e) in
          let flip : clash b a ≡ clash a b = λ i. not (e i == 0) && level i && and_flip (bytes_le (first_user b) (last_user a)) (bytes_le (first_user a) (last_user b)) i in
          flip ∙ h
      | inr n ↦ by_level b a (λ e. absurd (n (sym e)))
    ]

not_le : (a b : List ℕ) → bytes_lt a b ≡ true → bytes_le b a ≡ false
not_le a b h = ap is_le (nat_list_cmp_total.antisymm b a ∙ ap ordering_reverse (less (bytes_cmp a b) h))
  where
    less : (o : Ordering) → is_lt o ≡ true → o ≡ Less
    less Less e = refl
    less Equal e = absurd cc
    less Greater e = absurd cc

pub right_false : (p q : Bool) → q ≡ false → (p && q) ≡ false
right_false true q e = e
right_false false q e = refl

new_apart : (j : Job) → Pairwise NoClash j.new
new_apart j =
    pairs_to EndsBefore NoClash j.new (λ t u i k ends. by_level t.meta u.meta (λ e.
    right_false (bytes_le (first_user t.meta) (last_user u.meta)) (bytes_le (first_user u.meta) (last_user t.meta)) (not_le (last_user t.meta) (first_user u.meta) ends))) j.c.outputs.behind

pub distinct_pairs : {A : Type 0} (f : A → A → Bool) (xs : List A) → IsDistinct f xs → Pairwise (λ a b. f a b ≡ false) xs
unfolding IsDistinct
distinct_pairs f [] d = tt
distinct_pairs f (x ∷ xs) d = (d.0, distinct_pairs f xs d.1)

pairs_distinct : {A : Type 0} (f : A → A → Bool) (xs : List A) → Pairwise (λ a b. f a b ≡ false) xs → IsDistinct f xs
unfolding IsDistinct
pairs_distinct f [] d = tt
pairs_distinct f (x ∷ xs) d = (d.0, pairs_distinct f xs d.1)

pairs_unmap : {A B : Type 0} (f : A → B) (R : B → B → Type 0) (xs : List A) → Pairwise R (map f xs) → Pairwise (λ a b. R (f a) (f b)) xs
pairs_unmap f R [] p = tt
pairs_unmap f R (x ∷ xs) p = (all_map f (R (f x)) xs p.0, pairs_unmap f R xs p.1)

all_to_map : {A B : Type 0} (f : A → B) (P : B → Type 0) (xs : List A) → AllByRecursion (λ x. P (f x)) xs → AllByRecursion P (map f xs)
all_to_map f P [] h = tt
all_to_map f P (x ∷ xs) h = (h.0, all_to_map f P xs h.1)

pairs_map : {A B : Type 0} (f : A → B) (R : B → B → Type 0) (xs : List A) → Pairwise (λ a b. R (f a) (f b)) xs → Pairwise R (map f xs)
pairs_map f R [] p = tt
pairs_map f R (x ∷ xs) p = (all_to_map f (R (f x)) xs p.0, pairs_map f R xs p.1)

stay_apart : (j : Job) → Pairwise NoClash (stay j)
stay_apart j =
    pairs_filter NoClash (λ t. not (is_input j.plan t.meta)) j.h.tables
    (pairs_unmap (λ (t : TableFile). t.meta) (λ a b. clash a b ≡ false) j.h.tables
    (subst (Pairwise (λ (a b : NewTable). clash a b ≡ false)) (sym j.held.tables) (distinct_pairs clash j.h.live.version.tables j.sound.disjoint)))

-- the range of a new table is within the hull of the inputs
within_hull : (j : Job) (t : TableFile) (u : NewTable) → In t j.new → overlap t.meta u ≡ true → hull_overlaps (metas (inputs_of j.plan j.h.tables)) u ≡ true
within_hull j t u i o =
    let named : IsAsNamed t = in_all IsAsNamed t j.new j.c.named i in
    let both = and_parts (bytes_le (first_user t.meta) (last_user u)) (bytes_le (first_user u) (last_user t.meta)) o in
    let a = first_there t.entries t.meta.smallest named.smallest in
    let b = last_there t.entries t.meta.largest named.largest in
    and_both (list_any (λ z. bytes_le (first_user z) (last_user u)) ts) (list_any (λ z. bytes_le (first_user u) (last_user z)) ts)
    (low (from_ins j a.0 (in_flat (λ (z : TableFile). z.entries) t a.0 j.new i a.1)) (subst (λ (k : List ℕ). bytes_le k (last_user u) ≡ true) a.2 both.0))
    (high (from_ins j b.0 (in_flat (λ (z : TableFile). z.entries) t b.0 j.new i b.1)) (subst (λ (k : List ℕ). bytes_le (first_user u) k ≡ true) b.2 both.1))
  where
    ts : List NewTable
    ts = metas (inputs_of j.plan j.h.tables)

    range : (z : TableFile) (k : Entry) → In z (inputs_of j.plan j.h.tables) → In k z.entries → (bytes_le (first_user z.meta) k.key.user ≡ true) × (bytes_le k.key.user (last_user z.meta) ≡ true)
    range z k l m = in_all (λ (w : Entry). (bytes_le (first_user z.meta) w.key.user ≡ true) × (bytes_le w.key.user (last_user z.meta) ≡ true)) k z.entries (in_all (λ (w : TableFile). IsRanged w) z j.h.tables j.held.ranged (in_inputs j z l)) m

    low : {x : Entry} → (k : Entry) × In k j.c.ins × Hands j k x → bytes_le x.key.user (last_user u) ≡ true → list_any (λ z. bytes_le (first_user z) (last_user u)) (metas (inputs_of j.plan j.h.tables)) ≡ true
    low {x} (k, l, h) le =
        let z = from_input j k l in
        let user : x.key.user ≡ k.key.user = (hands_key j k x h).0 in
        in_any (λ (w : NewTable). bytes_le (first_user w) (last_user u)) z.0.meta (metas (inputs_of j.plan j.h.tables)) (in_map (λ (w : TableFile). w.meta) z.0 (inputs_of j.plan j.h.tables) z.1)
        (bytes_trans (first_user z.0.meta) k.key.user (last_user u) (range z.0 k z.1 z.2).0 (subst (λ (w : List ℕ). bytes_le w (last_user u) ≡ true) user le))

    high : {x : Entry} → (k : Entry) × In k j.c.ins × Hands j k x → bytes_le (first_user u) x.key.user ≡ true → list_any (λ z. bytes_le (first_user u) (last_user z)) (metas (inputs_of j.plan j.h.tables)) ≡ true
    high {x} (k, l, h) le =
        let z = from_input j k l in
        let user : x.key.user ≡ k.key.user = (hands_key j k x h).0 in
        in_any (λ (w : NewTable). bytes_le (first_user u) (last_user w)) z.0.meta (metas (inputs_of j.plan j.h.tables)) (in_map (λ (w : TableFile). w.meta) z.0 (inputs_of j.plan j.h.tables) z.1)
        (bytes_trans (first_user u) k.key.user (last_user z.0.meta) (subst (λ (w : List ℕ). bytes_le (first_user u) w ≡ true) user le) (range z.0 k z.1 z.2).1)

across_apart : (j : Job) → AllByRecursion (λ t. AllByRecursion (NoClash t) (stay j)) j.new
across_apart j =
    all_in (λ t. AllByRecursion (NoClash t) (stay j)) j.new (λ t i.
    all_in (NoClash t) (stay j) (λ u k.
    by_level t.meta u.meta (λ e.
    by_test (overlap t.meta u.meta)
    (λ o.
    let level : t.meta.level ≡ j.plan.out_level = in_all (λ (z : TableFile). z.meta.level ≡ j.plan.out_level) t j.new j.c.outputs.levels i in
    let beside : IsBeside j.plan (inputs_of j.plan j.h.tables) u = in_all (IsBeside j.plan (inputs_of j.plan j.h.tables)) u (stay j) j.c.closed.beside k in
    absurd (false≢true (sym (beside.level (e ∙ level)) ∙ within_hull j t u.meta i o)))
    (λ o. o))))

-- no new table clashes with another, or with one that stays
pub both_apart : (j : Job) → Pairwise NoClash (j.new ++ stay j)
both_apart j = pairs_join NoClash j.new (stay j) (new_apart j) (stay_apart j) (across_apart j)

pub disjoint_after : (j : Job) → IsDistinct clash (metas (after j))
disjoint_after j =
    pairs_distinct clash (metas (after j))
    (pairs_map (λ (t : TableFile). t.meta) (λ a b. clash a b ≡ false) (after j)
    (shuffled_pairs NoClash (λ t u h. no_clash_flip t.meta u.meta h) (tables_shuffled j) (both_apart j)))

-- ---- no user key and sequence twice

zip_pairs : {A B : Type 0} (R : A → B → Type 0) (P : A → A → Type 0) (Q : B → B → Type 0) → ((a c : A) (b d : B) → R a b → R c d → P a c → Q b d) → (xs : List A) (ys : List B) → AllZip R xs ys → Pairwise P xs → Pairwise Q ys
zip_pairs R P Q to [] [] z p = tt
zip_pairs R P Q to [] (y ∷ ys) z p = absurd z
zip_pairs R P Q to (x ∷ xs) [] z p = absurd z
zip_pairs {A = A} {B = B} R P Q to (x ∷ xs) (y ∷ ys) z p = (heads xs ys z.1 p.0, zip_pairs R P Q to xs ys z.1 p.1)
  where
    heads : (us : List A) (vs : List B) → AllZip R us vs → AllByRecursion (P x) us → AllByRecursion (Q y) vs
    heads [] [] w h = tt
    heads [] (v ∷ vs) w h = absurd w
    heads (u ∷ us) [] w h = absurd w
    heads (u ∷ us) (v ∷ vs) w h = (to x u y v z.0 w.0 h.0, heads us vs w.1 h.1)

same_differ : (j : Job) (a c b d : Entry) → Hands j a b → Hands j c d → Differ a c → Differ b d
same_differ j a c b d h k (inl n) = inl (λ e. n (sym (hands_key j a b h).0 ∙ e ∙ (hands_key j c d k).0))
same_differ j a c b d h k (inr n) = inr (λ e. n (sym (hands_key j a b h).1 ∙ e ∙ (hands_key j c d k).1))

kept_differ : (j : Job) → Pairwise Differ (keeps j)
kept_differ j = pairs_filter Differ _ j.c.ins (ins_differ j)

outs_differ : (j : Job) → Pairwise Differ (outs j)
outs_differ j = zip_pairs (Hands j) Differ Differ (same_differ j) (keeps j) (outs j) j.c.handed (kept_differ j)

across_differ : (j : Job) → AllByRecursion (λ o. AllByRecursion (Differ o) (rest j)) (outs j)
across_differ j =
    all_in (λ o. AllByRecursion (Differ o) (rest j)) (outs j) (λ o i.
    let p = from_ins j o i in
    let all : AllByRecursion (Differ p.0) (rest j) = in_all (λ k. AllByRecursion (Differ k) (rest j)) p.0 j.c.ins (pairs_across Differ j.c.ins (rest j) (both_differ j)) p.1 in
    all_in (Differ o) (rest j) (λ y k. moved p.0 o y p.2 (in_all (Differ p.0) y (rest j) all k)))
  where
    moved : (k o y : Entry) → Hands j k o → Differ k y → Differ o y
    moved k o y h (inl n) = inl (λ e. n (sym (hands_key j k o h).0 ∙ e))
    moved k o y h (inr n) = inr (λ e. n (sym (hands_key j k o h).1 ∙ e))

after_differ : (j : Job) → Pairwise Differ (entries_after j)
after_differ j =
    shuffled_pairs Differ differ_flip (entries_shuffled j)
    (pairs_join Differ (outs j) (rest j) (outs_differ j) (pairs_back Differ j.c.ins (rest j) (both_differ j)) (across_differ j))

pub once_after : (j : Job) → Pairwise AreDistinct (now j)
unfolding now
once_after j =
    let t = tables_read j in
    let n = now_tables j in
    pairs_join AreDistinct n.0 (revisions_of j.h.batches)
    (pairs_each (revision_of (records_by (left j))) AreDistinct (entries_after j) n.0 n.1
    (pairs_to Differ (λ a b. (y z : Revision) → revision_of (records_by (left j)) a ≡ Some y → revision_of (records_by (left j)) b ≡ Some z → AreDistinct y z) (entries_after j) (λ a b i k d y z p q. turned a b y z p q d) (after_differ j)))
    (pairs_back AreDistinct t.from (revisions_of j.h.batches) (subst (Pairwise AreDistinct) (sym (some_is t.makes)) (once_pairs j.found j.sound.once)))
    (all_in (λ r. AllByRecursion (AreDistinct r) (revisions_of j.h.batches)) n.0 (λ r i.
    let x = of_each (revision_of (records_by (left j))) r (entries_after j) n.0 n.1 i in
    let le : x.0.key.seq ≤ j.h.live.standing.last_sequence = seq_after j x.0 x.1 in
    let is : r.seq ≡ x.0.key.seq = (read_parts (left j) x.0 r x.2).1 in
    all_in (AreDistinct r) (revisions_of j.h.batches) (λ q k.
    let ahead : j.h.live.standing.last_sequence < q.seq = in_all (λ (z : Revision). j.h.live.standing.last_sequence < z.seq) q (revisions_of j.h.batches) j.held.ahead k in
    inr (apart r.seq q.seq x.0.key.seq j.h.live.standing.last_sequence is le ahead))))
  where
    apart : (a b c d : ℕ) → a ≡ c → c ≤ d → d < b → a ≢ b
    apart a b c d p q s = omega arith

    turned : (a b : Entry) (y z : Revision) → revision_of (records_by (left j)) a ≡ Some y → revision_of (records_by (left j)) b ≡ Some z → Differ a b → AreDistinct y z
    turned a b y z p q (inl m) = inl (λ e. m (sym (read_parts (left j) a y p).0 ∙ e ∙ (read_parts (left j) b z q).0))
    turned a b y z p q (inr m) = inr (λ e. m (sym (read_parts (left j) a y p).1 ∙ e ∙ (read_parts (left j) b z q).1))

-- ---- no record twice

all_mapped : {A B : Type 0} (f : A → Option B) (P : B → Type 0) (xs : List A) → AllByRecursion P (filter_map f xs) → AllByRecursion (λ x. (y : B) → f x ≡ Some y → P y) xs
all_mapped f P [] h = tt
all_mapped {A = A} {B = B} f P (x ∷ xs) h = by (f x) refl (λ k. all_mapped f P xs k) h
  where
    by : (o : Option B) → f x ≡ o → (AllByRecursion P (filter_map f xs) → AllByRecursion (λ z. (y : B) → f z ≡ Some y → P y) xs) → AllByRecursion P (cons_option o (filter_map f xs))
        → AllByRecursion (λ z. (y : B) → f z ≡ Some y → P y) (x ∷ xs)
    by None e more k = ((λ y is. absurd cc), more k)
    by (Some w) e more k = ((λ y is. subst P (some_is (sym e ∙ is)) k.0), more k.1)

mapped_all : {A B : Type 0} (f : A → Option B) (P : B → Type 0) (xs : List A) → AllByRecursion (λ x. (y : B) → f x ≡ Some y → P y) xs → AllByRecursion P (filter_map f xs)
mapped_all f P [] h = tt
mapped_all {A = A} {B = B} f P (x ∷ xs) h = by (f x) refl (mapped_all f P xs h.1)
  where
    by : (o : Option B) → f x ≡ o → AllByRecursion P (filter_map f xs) → AllByRecursion P (cons_option o (filter_map f xs))
    by None e k = k
    by (Some w) e k = (h.0 w e, k)

pairs_mapped : {A B : Type 0} (f : A → Option B) (R : B → B → Type 0) (xs : List A) → Pairwise R (filter_map f xs) → Pairwise (λ a b. (y z : B) → f a ≡ Some y → f b ≡ Some z → R y z) xs
pairs_mapped f R [] h = tt
pairs_mapped {A = A} {B = B} f R (x ∷ xs) h = by (f x) refl (λ k. pairs_mapped f R xs k) h
  where
    by : (o : Option B) → f x ≡ o → (Pairwise R (filter_map f xs) → Pairwise (λ a b. (y z : B) → f a ≡ Some y → f b ≡ Some z → R y z) xs) → Pairwise R (cons_option o (filter_map f xs))
        → Pairwise (λ a b. (y z : B) → f a ≡ Some y → f b ≡ Some z → R y z) (x ∷ xs)
    by None e more k = (all_in (λ b. (y z : B) → f x ≡ Some y → f b ≡ Some z → R y z) xs (λ b i y z p q. absurd cc), more k)
    by (Some w) e more k =
        (all_in (λ b. (y z : B) → f x ≡ Some y → f b ≡ Some z → R y z) xs (λ b i y z p q. subst (λ v. R v z) (some_is (sym e ∙ p)) (in_all (λ c. (v : B) → f c ≡ Some v → R w v) b xs (all_mapped f (R w) xs k.0) i z q)), more k.1)

mapped_pairs : {A B : Type 0} (f : A → Option B) (R : B → B → Type 0) (xs : List A) → Pairwise (λ a b. (y z : B) → f a ≡ Some y → f b ≡ Some z → R y z) xs → Pairwise R (filter_map f xs)
mapped_pairs f R [] h = tt
mapped_pairs {A = A} {B = B} f R (x ∷ xs) h = by (f x) refl (mapped_pairs f R xs h.1)
  where
    by : (o : Option B) → f x ≡ o → Pairwise R (filter_map f xs) → Pairwise R (cons_option o (filter_map f xs))
    by None e k = k
    by (Some w) e k = (mapped_all f (R w) xs (all_in (λ c. (v : B) → f c ≡ Some v → R w v) xs (λ c i v q. in_all (λ b. (y z : B) → f x ≡ Some y → f b ≡ Some z → R y z) c xs h.0 i w v e q)), k)

-- the references of two entries are to different records
abbrev pub Apart : Entry → Entry → Type 0
Apart a b = (r q : Reference) → reference_of a ≡ Some r → reference_of b ≡ Some q → AreApart r q

turn_round : (r q : Reference) → AreApart q r → AreApart r q
turn_round r q (inl n) = inl (λ e. n (sym e))
turn_round r q (inr n) = inr (λ e. n (sym e))

apart_flip : (a b : Entry) → Apart a b → Apart b a
apart_flip a b h r q p s = turn_round r q (h q r s p)

pub index_is : (a : Entry) (r : Reference) → reference_of a ≡ Some r → index_of a ≡ Some r.index
index_is a r e = by (index_of a) e
  where
    by : (o : Option BlobIndex) → option_map (λ index. record { key = a.key.user; index = index }) o ≡ Some r → o ≡ Some r.index
    by None p = absurd cc
    by (Some i) p = ap Some (ap (λ (x : Reference). x.index) (some_is p))

old_records : (j : Job) → Pairwise Apart (j.c.ins ++ rest j)
old_records j = shuffled_pairs Apart apart_flip (split_old j) (pairs_mapped reference_of AreApart (old j) (apart_pairs (references (old j)) j.sound.apart))

-- two that were kept, and what they read as
abbrev BothRead : Job → Entry → Entry → Type 0
BothRead j a b = Reads j.h.blobs a × Reads j.h.blobs b × Apart a b

kept_records : (j : Job) → Pairwise (BothRead j) (keeps j)
kept_records j =
    pairs_to Apart (BothRead j) (keeps j) (λ a b i k h. (in_all (Reads j.h.blobs) a (keeps j) (kept_read j) i, in_all (Reads j.h.blobs) b (keeps j) (kept_read j) k, h))
    (pairs_filter Apart _ j.c.ins (pairs_front Apart j.c.ins (rest j) (old_records j)))

-- apart, where the first is not to a new file
abbrev OldApart : Job → Entry → Entry → Type 0
OldApart j b d = (r q : Reference) → reference_of b ≡ Some r → reference_of d ≡ Some q → (In r.index.file (numbers j.made) → ⊥) → AreApart r q

pub rewritten_in : (j : Job) (k o : Entry) (q : Reference) → IsRewritten j.h.live.standing.options.min_blob_size j.h.blobs j.made k o → Reads j.h.blobs k → reference_of o ≡ Some q → In q.index.file (numbers j.made)
rewritten_in j k o q w reads e = rewritten_there j.h.live.standing.options.min_blob_size j.h.blobs j.made k o reads.0 q.index w reads.1 (index_is o q e)

still_apart : (j : Job) (a c b d : Entry) → Hands j a b → Hands j c d → BothRead j a c → OldApart j b d
still_apart j a c b d (inl h) (inl k) p r q x y fresh = p.2 r q (sym (ap (λ (e : Entry). reference_of e) h.0) ∙ x) (sym (ap (λ (e : Entry). reference_of e) k.0) ∙ y)
still_apart j a c b d (inl h) (inr w) p r q x y fresh = inl (λ e. fresh (subst (λ (n : ℕ). In n (numbers j.made)) (sym e) (rewritten_in j c d q w p.1 y)))
still_apart j a c b d (inr w) k p r q x y fresh = absurd (fresh (rewritten_in j a b r w p.0 x))

pairs_and : {A : Type 0} (P Q : A → A → Type 0) (xs : List A) → Pairwise P xs → Pairwise Q xs → Pairwise (λ a b. P a b × Q a b) xs
pairs_and P Q [] h k = tt
pairs_and P Q (x ∷ xs) h k = (all_in (λ y. P x y × Q x y) xs (λ y i. (in_all (P x) y xs h.0 i, in_all (Q x) y xs k.0 i)), pairs_and P Q xs h.1 k.1)

outs_records : (j : Job) → Pairwise Apart (outs j)
outs_records j =
    pairs_to (λ a b. OldApart j a b × MadeApart a b) Apart (outs j) (λ a b i k h r q x y.
    by_test (list_any (λ n. n == r.index.file) (numbers j.made))
    (λ t.
    let n = any_in (λ n. n == r.index.file) (numbers j.made) t in
    h.1 r q x y (to_contains r.index.file (numbers j.made) (subst (λ (m : ℕ). In m (numbers j.made)) (eqb-true n.0 r.index.file n.2) n.1)))
    (λ t. h.0 r q x y (λ m. false≢true (sym t ∙ in_any (λ n. n == r.index.file) r.index.file (numbers j.made) m (eq-eqb r.index.file r.index.file refl)))))
    (pairs_and (OldApart j) MadeApart (outs j)
    (zip_pairs (Hands j) (BothRead j) (OldApart j) (still_apart j) (keeps j) (outs j) j.c.handed (kept_records j))
    (pairs_mapped reference_of (λ a b. Contains (numbers j.made) a.index.file → AreApart a b) (outs j) j.c.blobs.apart))
  where
    MadeApart : Entry → Entry → Type 0
    MadeApart a b = (r q : Reference) → reference_of a ≡ Some r → reference_of b ≡ Some q → Contains (numbers j.made) r.index.file → AreApart r q

across_records : (j : Job) → AllByRecursion (λ o. AllByRecursion (Apart o) (rest j)) (outs j)
across_records j =
    all_in (λ o. AllByRecursion (Apart o) (rest j)) (outs j) (λ o i.
    let p = from_ins j o i in
    let all : AllByRecursion (Apart p.0) (rest j) = in_all (λ k. AllByRecursion (Apart k) (rest j)) p.0 j.c.ins (pairs_across Apart j.c.ins (rest j) (old_records j)) p.1 in
    let reads = in_all (Reads j.h.blobs) p.0 j.c.ins (ins_read j) p.1 in
    all_in (Apart o) (rest j) (λ y k. moved p.0 o y p.2 reads (in_all (Reads j.h.blobs) y (rest j) (rest_read j) k) (in_all (Apart p.0) y (rest j) all k)))
  where
    moved : (k o y : Entry) → Hands j k o → Reads j.h.blobs k → Reads j.h.blobs y → Apart k y → Apart o y
    moved k o y (inl h) a b p r q x z = p r q (sym (ap (λ (e : Entry). reference_of e) h.0) ∙ x) z
    moved k o y (inr w) a b p r q x z = inl (λ e. not_made j y b.0 q.index b.1 (index_is y q z) (subst (λ (n : ℕ). In n (numbers j.made)) e (rewritten_in j k o r w a x)))

pub apart_after : (j : Job) → Pairwise AreApart (references (entries_after j))
apart_after j =
    mapped_pairs reference_of AreApart (entries_after j)
    (shuffled_pairs Apart apart_flip (entries_shuffled j) (pairs_join Apart (outs j) (rest j) (outs_records j) (pairs_back Apart j.c.ins (rest j) (old_records j)) (across_records j)))

-- ---- the whole

pub sound_after : (j : Job) → IsSound (compacted j.e j.new j.made j.h) (now j) j.m
sound_after j = record {
  proper = proper_after j;
  resolve = now_is j;
  tables = named_after j;
  totals = left_totalled j;
  apart = pairs_apart (references (entries_after j)) (apart_after j);
  accounts = left_exact j;
  disjoint = disjoint_after j;
  newer = newer_after j;
  once = pairs_once (now j) (once_after j);
  behind = behind_after j;
  placed = placed_after j;
  map_is = λ key.
      j.sound.map_is key
      ∙ sym (values_kept j j.h.last key (inr (all_in (λ (e : Entry). e.key.seq ≤ j.h.last) j.c.ins (λ x i. let le : x.key.seq ≤ j.h.live.standing.last_sequence = seq_behind j x (ins_old j x i) in let up = j.held.last in omega arith))));
}
