-- Blob files that were written in order, each record for one reference.
use Rattle.std.proofs.Common.{◌≡◌, ◌≢◌, ℕ, suc, ◌+◌, ◌<◌, ◌≤◌, Bool, true, false, cond, List, [], ◌∷◌, ◌++◌, length, refl, sym, ◌∙◌, ap, subst, arith, inl, inr}
use Rattle.std.specs.Prelude.{◌⊎◌, ◌==◌, map, filter, sum, sum_by, Contains}
use Rattle.std.specs.List.{AllByRecursion, AllZip, list_any}
use Rattle.std.proofs.lemmas.Bool.{false≢true, eqb-true, eq-eqb}
use Rattle.std.proofs.lemmas.List.Sums.{sum_by-cons}
use Rattle.bl_blob.specs.BlobFile.{Record, blobs_of, placed, size_of, totals_of}
use Rattle.bl_blob.specs.declared.blob.BlobAt.{BlobAt}
use Rattle.bl_edit.specs.declared.edit.DeletedTable.{DeletedTable}
use Rattle.bl_edit.specs.declared.edit.NewTable.{NewTable}
use Rattle.bl_build.specs.Versions.{has_same_number, is_deleted}
use Rattle.bl_entry.specs.declared.key.Entry.{Entry}
use Rattle.bl_entry.specs.Kept.{kept}
use Rattle.bl_out.specs.References.{Reference, references, count_of, bytes_of}
use Rattle.bl_folder.specs.Entries.{records_by}
use Rattle.bl_folder.specs.Holding.{BlobFile}
use Rattle.bl_out.specs.Tables.{TableFile, table_entries}
use Rattle.bl_out.specs.Values.{revision_of}
use Rattle.bl_compacted.specs.Pairs.{AreApart, Pairwise}
use Rattle.bl_compacted.specs.Shuffles.{join}
use Rattle.bl_compacted.specs.Plans.{is_input}
use Rattle.bl_compacted.specs.Outputs.{AreMade, HandsOn, numbers}
use Rattle.bl_compacted.specs.Rewriting.{ComesOut, deletion_of, is_made, reference_to, written}
use Rattle.bl_compacted.specs.Laws.{RewritesCompact}
use Rattle.bl_compacted.proofs.Lists.{In, all_in, any_in, in_append, back, by_test, from_contains, in_all, in_any, in_filtered, in_filter, in_map, in_pairs, of_map, pairs_join, shuffled_flat, shuffled_in}
use Rattle.bl_compacted.proofs.ValueLemmas.{and_both, and_parts}
use Rattle.bl_compacted.proofs.WeightLemmas.{size}
use Rattle.bl_compacted.proofs.Jobs.{pairs_to}
use Rattle.bl_compacted.proofs.KeptLemmas.{kept_in}
use Rattle.bl_compacted.proofs.SoundLemmas.{distinct_pairs}

-- ---- the records of one file

length_placed : (place : ℕ) (rs : List Record) → length (placed place rs) ≡ length rs
unfolding placed
length_placed place [] = refl
length_placed place (r ∷ rs) = ap suc (length_placed (place + size_of r) rs)

length_map : {A B : Type 0} (f : A → B) (xs : List A) → length (map f xs) ≡ length xs
length_map f [] = refl
length_map f (x ∷ xs) = ap suc (length_map f xs)

sizes_placed : (b : BlobFile) (place : ℕ) (rs : List Record) → sum (map size (map (reference_to b) (placed place rs))) ≡ sum_by size_of rs
unfolding placed
sizes_placed b place [] = refl
sizes_placed b place (r ∷ rs) =
    sum_by-cons (λ x. x) (size_of r) (map size (map (reference_to b) (placed (place + size_of r) rs)))
    ∙ ap (λ k. size_of r + k) (sizes_placed b (place + size_of r) rs) ∙ sym (sum_by-cons size_of r rs)

offsets_from : (place : ℕ) (rs : List Record) → AllByRecursion (λ (r : BlobAt). place + 32 ≤ r.offset) (placed place rs)
unfolding placed
offsets_from place [] = tt
offsets_from place (r ∷ rs) = (
  omega arith,
  all_in (λ (x : BlobAt). place + 32 ≤ x.offset) (placed (place + size_of r) rs) (λ x i.
      let le : (place + size_of r) + 32 ≤ x.offset = in_all (λ (y : BlobAt). (place + size_of r) + 32 ≤ y.offset) x (placed (place + size_of r) rs) (offsets_from (place + size_of r) rs) i in
      omega arith),
)

records_apart : (b : BlobFile) (place : ℕ) (rs : List Record) → Pairwise AreApart (map (reference_to b) (placed place rs))
unfolding placed
records_apart b place [] = tt
records_apart b place (r ∷ rs) = (
  all_in (AreApart (reference_to b first)) (map (reference_to b) (placed (place + size_of r) rs)) (λ q i.
      let o = of_map (reference_to b) q (placed (place + size_of r) rs) i in
      let le : (place + size_of r) + 32 ≤ o.0.offset = in_all (λ (y : BlobAt). (place + size_of r) + 32 ≤ y.offset) o.0 (placed (place + size_of r) rs) (offsets_from (place + size_of r) rs) o.1 in
      inr (subst (λ (w : Reference). place + 32 + length r.key ≢ w.index.offset) o.2 (apart (place + 32 + length r.key) o.0.offset (behind place (length r.key) (length r.value) o.0.offset le)))),
  records_apart b (place + size_of r) rs,
)
  where
    first : BlobAt
    first = record { offset = place + 32 + length r.key; key = r.key; value = r.value }

    apart : (m n : ℕ) → m < n → m ≢ n
    apart m n lt = omega arith

    behind : (p k w o : ℕ) → (p + (32 + k + w)) + 32 ≤ o → p + 32 + k < o
    behind p k w o le = omega arith

-- ---- the records of all

in_written : (made : List BlobFile) (r : Reference) → In r (written made) → (b : BlobFile) × In b made × (r.index.file ≡ b.meta.number)
in_written [] r i = absurd i
in_written (b ∷ made) r i = by (λ k. in_written made r k) (in_append r (map (reference_to b) (blobs_of b.records)) (written made) i)
  where
    more : (c : BlobFile) × In c made × (r.index.file ≡ c.meta.number) → (c : BlobFile) × In c (b ∷ made) × (r.index.file ≡ c.meta.number)
    more q = (q.0, inr q.1, q.2)

    by : (In r (written made) → (c : BlobFile) × In c made × (r.index.file ≡ c.meta.number)) → In r (map (reference_to b) (blobs_of b.records)) ⊎ In r (written made)
        → (c : BlobFile) × In c (b ∷ made) × (r.index.file ≡ c.meta.number)
    by rest (inl k) = let o = of_map (reference_to b) r (blobs_of b.records) k in (b, inl refl, sym (ap (λ (w : Reference). w.index.file) o.2))
    by rest (inr k) = more (rest k)

written_apart : (made : List BlobFile) → Pairwise (λ a b. a.meta.number ≢ b.meta.number) made → Pairwise AreApart (written made)
written_apart [] once = tt
written_apart (b ∷ made) once =
    pairs_join AreApart (map (reference_to b) (blobs_of b.records)) (written made) (records_apart b 30 b.records) (written_apart made once.1)
    (all_in (λ r. AllByRecursion (AreApart r) (written made)) (map (reference_to b) (blobs_of b.records)) (λ r i.
    let o = of_map (reference_to b) r (blobs_of b.records) i in
    all_in (AreApart r) (written made) (λ q k.
    let c = in_written made q k in
    inl (λ e. in_all (λ (x : BlobFile). b.meta.number ≢ x.meta.number) c.0 made once.0 c.1 (ap (λ (w : Reference). w.index.file) o.2 ∙ e ∙ c.2)))))

filter_none : {A : Type 0} (p : A → Bool) (xs : List A) → ((x : A) → In x xs → p x ≡ false) → filter p xs ≡ []
filter_none p [] h = refl
filter_none p (x ∷ xs) h = ap (λ b. cond b (x ∷ filter p xs) (filter p xs)) (h x (inl refl)) ∙ filter_none p xs (λ y i. h y (inr i))

filter_whole : {A : Type 0} (p : A → Bool) (xs : List A) → ((x : A) → In x xs → p x ≡ true) → filter p xs ≡ xs
filter_whole p [] h = refl
filter_whole p (x ∷ xs) h = ap (λ b. cond b (x ∷ filter p xs) (filter p xs)) (h x (inl refl)) ∙ ap (λ ys. x ∷ ys) (filter_whole p xs (λ y i. h y (inr i)))

filter_join : {A : Type 0} (p : A → Bool) (xs ys : List A) → filter p (xs ++ ys) ≡ filter p xs ++ filter p ys
filter_join p [] ys = refl
filter_join {A = A} p (x ∷ xs) ys = by (p x) (filter_join p xs ys)
  where
    by : (b : Bool) → filter p (xs ++ ys) ≡ filter p xs ++ filter p ys → cond b (x ∷ filter p (xs ++ ys)) (filter p (xs ++ ys)) ≡ cond b (x ∷ filter p xs) (filter p xs) ++ filter p ys
    by true e = ap (λ zs. x ∷ zs) e
    by false e = e

append_nil : {A : Type 0} (xs : List A) → xs ++ [] ≡ xs
append_nil [] = refl
append_nil (x ∷ xs) = ap (λ ys. x ∷ ys) (append_nil xs)

not_equal : (a b : ℕ) → a ≢ b → (a == b) ≡ false
not_equal a b n = by_test (a == b) (λ t. absurd (n (eqb-true a b t))) (λ t. t)

-- those of one file
of_file : (n : ℕ) (made : List BlobFile) (b : BlobFile) → In b made → b.meta.number ≡ n → Pairwise (λ a c. a.meta.number ≢ c.meta.number) made
    → filter (λ r. r.index.file == n) (written made) ≡ map (reference_to b) (blobs_of b.records)
of_file n [] b i is once = absurd i
of_file n (x ∷ made) b i is once = filter_join (λ r. r.index.file == n) (map (reference_to x) (blobs_of x.records)) (written made) ∙ by (λ k. of_file n made b k is once.1) i
  where
    head_file : (r : Reference) → In r (map (reference_to x) (blobs_of x.records)) → r.index.file ≡ x.meta.number
    head_file r k = let o = of_map (reference_to x) r (blobs_of x.records) k in sym (ap (λ (w : Reference). w.index.file) o.2)

    by : (In b made → filter (λ r. r.index.file == n) (written made) ≡ map (reference_to b) (blobs_of b.records)) → (x ≡ b) ⊎ In b made
        → filter (λ r. r.index.file == n) (map (reference_to x) (blobs_of x.records)) ++ filter (λ r. r.index.file == n) (written made) ≡ map (reference_to b) (blobs_of b.records)
    by rest (inl e) =
        let number : x.meta.number ≡ n = ap (λ (w : BlobFile). w.meta.number) e ∙ is in
        (λ t. filter_whole (λ (r : Reference). r.index.file == n) (map (reference_to x) (blobs_of x.records)) (λ r k. eq-eqb r.index.file n (head_file r k ∙ number)) t
        ++ filter_none (λ (r : Reference). r.index.file == n) (written made) (λ r k. not_equal r.index.file n (λ q. let c = in_written made r k in in_all (λ (w : BlobFile). x.meta.number ≢ w.meta.number) c.0 made once.0 c.1 (number ∙ sym q ∙ c.2))) t)
        ∙ append_nil (map (reference_to x) (blobs_of x.records)) ∙ ap (λ (w : BlobFile). map (reference_to w) (blobs_of w.records)) e
    by rest (inr k) =
        let ne : x.meta.number ≢ n = λ q. in_all (λ (w : BlobFile). x.meta.number ≢ w.meta.number) b made once.0 k (q ∙ sym is) in
        ap (λ zs. zs ++ filter (λ r. r.index.file == n) (written made)) (filter_none (λ (r : Reference). r.index.file == n) (map (reference_to x) (blobs_of x.records)) (λ r l. not_equal r.index.file n (λ q. ne (sym (head_file r l) ∙ q))))
        ∙ rest k

-- of the references that pass a weaker test, those that pass
filter_twice : {A : Type 0} (p q : A → Bool) (xs : List A) → ((x : A) → p x ≡ true → q x ≡ true) → filter p (filter q xs) ≡ filter p xs
filter_twice p q [] h = refl
filter_twice {A = A} p q (x ∷ xs) h = by (p x) (q x) refl refl (filter_twice p q xs h)
  where
    by : (a b : Bool) → p x ≡ a → q x ≡ b → filter p (filter q xs) ≡ filter p xs → filter p (cond b (x ∷ filter q xs) (filter q xs)) ≡ cond a (x ∷ filter p xs) (filter p xs)
    by true true s t e = ap (λ c. cond c (x ∷ filter p (filter q xs)) (filter p (filter q xs))) s ∙ ap (λ ys. x ∷ ys) e
    by true false s t e = absurd (false≢true (sym t ∙ h x s))
    by false true s t e = ap (λ c. cond c (x ∷ filter p (filter q xs)) (filter p (filter q xs))) s ∙ e
    by false false s t e = e

made_references : (n : ℕ) (made : List BlobFile) (b : BlobFile) (outs : List Entry) → filter (is_made made) (references outs) ≡ written made → In b made → b.meta.number ≡ n
    → Pairwise (λ a c. a.meta.number ≢ c.meta.number) made → filter (λ r. r.index.file == n) (references outs) ≡ map (reference_to b) (blobs_of b.records)
made_references n made b outs w i is once =
    sym (filter_twice (λ (r : Reference). r.index.file == n) (is_made made) (references outs) (λ r t.
    in_any (λ m. m == r.index.file) b.meta.number (numbers made) (in_map (λ (x : BlobFile). x.meta.number) b made i) (eq-eqb b.meta.number r.index.file (is ∙ sym (eqb-true r.index.file n t)))))
    ∙ ap (filter (λ r. r.index.file == n)) w ∙ of_file n made b i is once

filtered_pairs : {A : Type 0} (R : A → A → Type 0) (p : A → Bool) (xs : List A) → Pairwise R (filter p xs) → Pairwise (λ a b. p a ≡ true → p b ≡ true → R a b) xs
filtered_pairs R p [] h = tt
filtered_pairs {A = A} R p (x ∷ xs) h = by (p x) refl (λ k. filtered_pairs R p xs k) h
  where
    by : (b : Bool) → p x ≡ b → (Pairwise R (filter p xs) → Pairwise (λ a c. p a ≡ true → p c ≡ true → R a c) xs) → Pairwise R (cond b (x ∷ filter p xs) (filter p xs)) → Pairwise (λ a c. p a ≡ true → p c ≡ true → R a c) (x ∷ xs)
    by true t rest k = (all_in (λ c. p x ≡ true → p c ≡ true → R x c) xs (λ c i s u. in_all (R x) c (filter p xs) k.0 (in_filter p c xs i u)), rest k.1)
    by false t rest k = (all_in (λ c. p x ≡ true → p c ≡ true → R x c) xs (λ c i s u. absurd (false≢true (sym t ∙ s))), rest k)

pub are_made : (old made : List BlobFile) (outs : List Entry) → AllByRecursion (λ b. AllByRecursion (λ o. o.meta.number ≢ b.meta.number) old) made → Pairwise (λ a b. a.meta.number ≢ b.meta.number) made
    → AllByRecursion (λ b. totals_of b.records ≡ b.meta.total) made → filter (is_made made) (references outs) ≡ written made → AreMade old outs made
are_made old made outs fresh once totals w = record {
  fresh = fresh;
  once = once;
  totals = totals;
  count = all_in (λ b. count_of b.meta.number outs ≡ b.meta.total.count) made (λ b i.
      ap length (made_references b.meta.number made b outs w i refl once) ∙ length_map (reference_to b) (blobs_of b.records) ∙ length_placed 30 b.records
      ∙ ap (λ t. t.count) (in_all (λ (x : BlobFile). totals_of x.records ≡ x.meta.total) b made totals i));
  bytes = all_in (λ b. bytes_of b.meta.number outs ≡ b.meta.total.bytes) made (λ b i.
      ap (λ (rs : List Reference). sum (map size rs)) (made_references b.meta.number made b outs w i refl once) ∙ sizes_placed b 30 b.records
      ∙ ap (λ t. t.bytes) (in_all (λ (x : BlobFile). totals_of x.records ≡ x.meta.total) b made totals i));
  apart = pairs_to (λ a b. is_made made a ≡ true → is_made made b ≡ true → AreApart a b) (λ a b. Contains (numbers made) a.index.file → AreApart a b) (references outs) (λ a b i k h at.
      let in_a : is_made made a ≡ true = in_any (λ n. n == a.index.file) a.index.file (numbers made) (from_contains a.index.file (numbers made) at) (eq-eqb a.index.file a.index.file refl) in
      by_test (is_made made b) (λ t. h in_a t)
      (λ t. inl (λ e. false≢true (sym t ∙ in_any (λ n. n == b.index.file) b.index.file (numbers made) (subst (λ (n : ℕ). In n (numbers made)) e (from_contains a.index.file (numbers made) at)) (eq-eqb b.index.file b.index.file refl)))))
      (filtered_pairs AreApart (is_made made) (references outs) (subst (Pairwise AreApart) (sym w) (written_apart made once)));
}

-- ---- a job, and where it is installed

all_zip : {A B : Type 0} (R Q : A → B → Type 0) (xs : List A) (ys : List B) → ((x : A) (y : B) → In x xs → R x y → Q x y) → AllZip R xs ys → AllZip Q xs ys
all_zip R Q [] [] to z = tt
all_zip R Q [] (y ∷ ys) to z = z
all_zip R Q (x ∷ xs) [] to z = z
all_zip R Q (x ∷ xs) (y ∷ ys) to z = (to x y (inl refl) z.0, all_zip R Q xs ys (λ u v i r. to u v (inr i) r) z.1)

pub rewrites_compact : RewritesCompact
rewrites_compact plan h inputs blobs new made e held w at = record {
  closed = at.closed;
  ins = w.ins;
  merged = join (shuffled_flat (λ t. t.entries) at.inputs_are) w.merged;
  ascend = w.ascend;
  handed = all_zip (ComesOut plan.cutoff threshold blobs made) (HandsOn plan.cutoff threshold h.blobs made) (kept plan.snapshots plan.bottom w.ins) (table_entries new) (λ k o i r. handed k o (in_inputs k i) r) w.out;
  outputs = record { levels = w.levels; ranged = w.ranged; fresh = at.tables_fresh; once = w.tables_once; behind = w.behind };
  named = w.named;
  blobs = are_made h.blobs made (table_entries new) at.blobs_fresh w.blobs_once w.totals w.records;
  edit = record {
    deletes = all_in (λ t. list_any (λ d. is_deleted d t) e.deleted ≡ is_input plan t) h.live.version.tables deletes;
    known = all_in (λ d. list_any (is_deleted d) h.live.version.tables ≡ true) e.deleted known;
    adds = w.added;
    additions = w.additions;
    files = w.files;
    ascend = w.files_ascend;
    named = w.files_named;
    garbage = w.garbage;
  };
}
  where
    threshold : ℕ
    threshold = h.live.standing.options.min_blob_size

    in_inputs : (k : Entry) → In k (kept plan.snapshots plan.bottom w.ins) → In k (table_entries inputs)
    in_inputs k i = shuffled_in k (back w.merged) (kept_in plan.snapshots plan.bottom w.ins k i)

    handed : (k o : Entry) → In k (table_entries inputs) → ComesOut plan.cutoff h.live.standing.options.min_blob_size blobs made k o → HandsOn plan.cutoff h.live.standing.options.min_blob_size h.blobs made k o
    handed k o i (inl r) = inl r
    handed k o i (inr r) =
        inr (record { user = r.1.user; seq = r.1.seq; value = r.1.value ∙ in_all (λ (x : Entry). revision_of (records_by blobs) x ≡ revision_of (records_by h.blobs) x) k (table_entries inputs) at.reads i; proper = r.1.proper; placed = r.1.placed })

    from_version : (t : NewTable) → In t h.live.version.tables → (u : TableFile) × In u h.tables × (u.meta ≡ t)
    from_version t i = of_map (λ (u : TableFile). u.meta) t h.tables (subst (In t) (sym held.tables) i)

    one_number : (a b : NewTable) → In a h.live.version.tables → In b h.live.version.tables → a.number ≡ b.number → a ≡ b
    one_number a b i k q = by (in_pairs (λ x y. has_same_number x y ≡ false) a b h.live.version.tables (distinct_pairs has_same_number h.live.version.tables held.version.tables_once) i k)
      where
        by : (a ≡ b) ⊎ ((has_same_number a b ≡ false) ⊎ (has_same_number b a ≡ false)) → a ≡ b
        by (inl is) = is
        by (inr (inl n)) = absurd (false≢true (sym n ∙ eq-eqb a.number b.number q))
        by (inr (inr n)) = absurd (false≢true (sym n ∙ eq-eqb b.number a.number (sym q)))

    here : (u : TableFile) → In u h.tables → In u.meta h.live.version.tables
    here u i = subst (In u.meta) held.tables (in_map (λ (x : TableFile). x.meta) u h.tables i)

    is_inputs : (u : TableFile) → In u inputs → In u h.tables × (is_input plan u.meta ≡ true)
    is_inputs u i = in_filtered (λ (t : TableFile). is_input plan t.meta) u h.tables (shuffled_in u (back at.inputs_are) i)

    of_deleted : (d : DeletedTable) → In d e.deleted → (u : TableFile) × In u inputs × (deletion_of u ≡ d)
    of_deleted d i = of_map deletion_of d inputs (shuffled_in d (back w.deleted) i)

    deletes : (t : NewTable) → In t h.live.version.tables → list_any (λ d. is_deleted d t) e.deleted ≡ is_input plan t
    deletes t i =
        by_test (is_input plan t)
        (λ s.
        let u = from_version t i in
        let is_u : is_input plan u.0.meta ≡ true = ap (is_input plan) u.2 ∙ s in
        let at_u : In u.0 inputs = shuffled_in u.0 at.inputs_are (in_filter (λ (x : TableFile). is_input plan x.meta) u.0 h.tables u.1 is_u) in
        in_any (λ d. is_deleted d t) (deletion_of u.0) e.deleted (shuffled_in (deletion_of u.0) w.deleted (in_map deletion_of u.0 inputs at_u))
        (and_both (t.level == u.0.meta.level) (t.number == u.0.meta.number) (eq-eqb t.level u.0.meta.level (sym (ap (λ (x : NewTable). x.level) u.2))) (eq-eqb t.number u.0.meta.number (sym (ap (λ (x : NewTable). x.number) u.2))))
        ∙ sym s)
        (λ s.
        by_test (list_any (λ d. is_deleted d t) e.deleted)
        (λ q.
        let d = any_in (λ d. is_deleted d t) e.deleted q in
        let u = of_deleted d.0 d.1 in
        let f = is_inputs u.0 u.1 in
        let both = and_parts (t.level == d.0.level) (t.number == d.0.number) d.2 in
        let same : u.0.meta ≡ t = one_number u.0.meta t (here u.0 f.0) i (ap (λ (x : DeletedTable). x.number) u.2 ∙ sym (eqb-true t.number d.0.number both.1)) in
        absurd (false≢true (sym s ∙ ap (is_input plan) (sym same) ∙ f.1)))
        (λ q. q ∙ sym s))

    known : (d : DeletedTable) → In d e.deleted → list_any (is_deleted d) h.live.version.tables ≡ true
    known d i =
        let u = of_deleted d i in
        let f = is_inputs u.0 u.1 in
        in_any (is_deleted d) u.0.meta h.live.version.tables (here u.0 f.0)
        (and_both (u.0.meta.level == d.level) (u.0.meta.number == d.number) (eq-eqb u.0.meta.level d.level (ap (λ (x : DeletedTable). x.level) u.2)) (eq-eqb u.0.meta.number d.number (ap (λ (x : DeletedTable). x.number) u.2)))
