-- The blob files that are left keep what the entries name.
use Rattle.std.proofs.Common.{◌≡◌, ◌≢◌, ℕ, ◌+◌, ◌<◌, ◌≤◌, nat_lt, Bool, true, false, cond, List, [], ◌∷◌, refl, sym, ◌∙◌, ap, subst, arith, Option, Some, None, inl, inr}
use Rattle.std.specs.Prelude.{◌⊎◌, ◌==◌, ◌&&◌, not, map, filter, min, count_by, unwrap_or}
use Rattle.std.specs.List.{AllByRecursion, cons_option, fold}
use Rattle.std.specs.Option.{option_map}
use Rattle.std.proofs.lemmas.Bool.{eqb-true, eq-eqb, ltb-true, ltb-false}
use Rattle.std.proofs.lemmas.List.Sums.{sum_by-cons}
use Rattle.bl_blob.specs.BlobFile.{totals_of}
use Rattle.bl_edit.specs.declared.edit.NewTable.{NewTable}
use Rattle.bl_build.specs.Listing.{Ascends, placed, all_placed, blob_number}
use Rattle.bl_build.specs.Versions.{is_spent, linked_to}
use Rattle.bl_entry.specs.declared.key.Entry.{Entry}
use Rattle.bl_entry.specs.Revisions.{Revision}
use Rattle.bl_index.specs.declared.index.BlobIndex.{BlobIndex}
use Rattle.bl_out.specs.References.{index_of, references, count_of}
use Rattle.bl_folder.specs.Entries.{records_by}
use Rattle.bl_folder.specs.Holding.{BlobFile}
use Rattle.bl_out.specs.Tables.{TableFile, IsAsNamed, least_of, oldest_of}
use Rattle.bl_out.specs.Values.{revision_of}
use Rattle.bl_folder.specs.Stands.{IsFileExact}
use Rattle.bl_compacted.specs.Pairs.{Pairwise}
use Rattle.bl_compacted.specs.Installing.{from_linked_on, number_of, with_meta}
use Rattle.bl_folder.specs.Flushes.{blob_metas, metas}
use Rattle.bl_compacted.specs.Plans.{is_input}
use Rattle.bl_compacted.proofs.Finding.{some_is}
use Rattle.bl_compacted.proofs.Lists.{In, all_append, all_in, by_test, in_all, in_filtered, in_flat, in_map, of_flat, of_map, shuffled_all}
use Rattle.bl_compacted.proofs.FileLemmas.{records_at, records_filtered, records_from, records_there, refers_there, revision_same}
use Rattle.bl_compacted.proofs.WeightLemmas.{count_is, unit, weight, weight_some}
use Rattle.bl_compacted.proofs.Jobs.{Job, add_all, after, after_reads, all_files, all_number, entries_after, files, files_are, left, records_files, stay, tables_shuffled}
use Rattle.bl_compacted.proofs.AccountLemmas.{counted, file_to, files_exact, files_totalled}

-- ---- a table's oldest blob file

fold_least : (a : ℕ) (ns : List ℕ) → ((fold min a ns ≡ a) ⊎ In (fold min a ns) ns) × (fold min a ns ≤ a) × AllByRecursion (λ n. fold min a ns ≤ n) ns
fold_least a [] = (inl refl, omega arith, tt)
fold_least a (n ∷ ns) =
    let r = fold_least (min a n) ns in
    let up : fold min (min a n) ns ≤ min a n = r.1 in
    (one r.0, omega arith, (omega arith, r.2))
  where
    min_cases : (x y : ℕ) → (min x y ≡ x) ⊎ (min x y ≡ y)
    min_cases x y = grind arith

    pick : (fold min (min a n) ns ≡ min a n) → (min a n ≡ a) ⊎ (min a n ≡ n) → (fold min (min a n) ns ≡ a) ⊎ In (fold min (min a n) ns) (n ∷ ns)
    pick e (inl x) = inl (e ∙ x)
    pick e (inr y) = inr (inl (sym (e ∙ y)))

    one : (fold min (min a n) ns ≡ min a n) ⊎ In (fold min (min a n) ns) ns → (fold min (min a n) ns ≡ a) ⊎ In (fold min (min a n) ns) (n ∷ ns)
    one (inl e) = pick e (min_cases a n)
    one (inr i) = inr (inr i)

pub least_in : (ns : List ℕ) (n : ℕ) → In n ns → In (unwrap_or (least_of ns) 0) ns × (unwrap_or (least_of ns) 0 ≤ n)
least_in [] n i = absurd i
least_in (m ∷ ms) n i = let r = fold_least m ms in (first r.0, below r.1 r.2 i)
  where
    first : (fold min m ms ≡ m) ⊎ In (fold min m ms) ms → In (fold min m ms) (m ∷ ms)
    first (inl e) = inl (sym e)
    first (inr k) = inr k

    below : fold min m ms ≤ m → AllByRecursion (λ x. fold min m ms ≤ x) ms → In n (m ∷ ms) → fold min m ms ≤ n
    below le h (inl e) = omega arith
    below le h (inr k) = in_all (λ x. fold min m ms ≤ x) n ms h k

in_references : (es : List Entry) (x : Entry) (i : BlobIndex) → In x es → index_of x ≡ Some i → In i.file (map (λ r. r.index.file) (references es))
in_references [] x i k e = absurd k
in_references (y ∷ es) x i (inl is) e = by (index_of y) (ap (λ (z : Entry). index_of z) is ∙ e)
  where
    by : (o : Option BlobIndex) → o ≡ Some i → In i.file (map (λ r. r.index.file) (cons_option (option_map (λ index. record { key = y.key.user; index = index }) o) (references es)))
    by None p = absurd cc
    by (Some k) p = inl (ap (λ (z : BlobIndex). z.file) (some_is p))
in_references (y ∷ es) x i (inr k) e = by (index_of y) (in_references es x i k e)
  where
    by : (o : Option BlobIndex) → In i.file (map (λ r. r.index.file) (references es))
        → In i.file (map (λ r. r.index.file) (cons_option (option_map (λ index. record { key = y.key.user; index = index }) o) (references es)))
    by None p = p
    by (Some j) p = inr p

pub of_references : (es : List Entry) (n : ℕ) → In n (map (λ r. r.index.file) (references es)) → (y : Entry) × (i : BlobIndex) × In y es × (index_of y ≡ Some i) × (i.file ≡ n)
of_references [] n k = absurd k
of_references (y ∷ es) n k = by (λ p. of_references es n p) (index_of y) refl k
  where
    more : (x : Entry) × (i : BlobIndex) × In x es × (index_of x ≡ Some i) × (i.file ≡ n) → (x : Entry) × (i : BlobIndex) × In x (y ∷ es) × (index_of x ≡ Some i) × (i.file ≡ n)
    more r = (r.0, r.1, inr r.2, r.3, r.4)

    by : (In n (map (λ r. r.index.file) (references es)) → (x : Entry) × (i : BlobIndex) × In x es × (index_of x ≡ Some i) × (i.file ≡ n)) → (o : Option BlobIndex) → index_of y ≡ o
        → In n (map (λ r. r.index.file) (cons_option (option_map (λ index. record { key = y.key.user; index = index }) o) (references es)))
        → (x : Entry) × (i : BlobIndex) × In x (y ∷ es) × (index_of x ≡ Some i) × (i.file ≡ n)
    by rest None e p = more (rest p)
    by rest (Some i) e (inl is) = (y, i, inl refl, e, is)
    by rest (Some i) e (inr p) = more (rest p)

-- ---- the tables are as they are named

filter_all : {A : Type 0} (P : A → Type 0) (p : A → Bool) (xs : List A) → AllByRecursion P xs → AllByRecursion P (filter p xs)
filter_all P p xs h = all_in P (filter p xs) (λ x i. in_all P x xs h (in_filtered p x xs i).0)

-- what holds of the new tables and of those before holds of those after
pub after_all : (j : Job) (P : TableFile → Type 0) → AllByRecursion P j.new → AllByRecursion P j.h.tables → AllByRecursion P (after j)
after_all j P h k = shuffled_all P (tables_shuffled j) (all_append P j.new (stay j) h (filter_all P (λ t. not (is_input j.plan t.meta)) j.h.tables k))

pub named_after : (j : Job) → AllByRecursion IsAsNamed (after j)
named_after j = after_all j IsAsNamed j.c.named j.sound.tables

-- ---- the least linked file is not behind one that an entry names

count_some : {A : Type 0} (p : A → Bool) (x : A) (xs : List A) → In x xs → p x ≡ true → 1 ≤ count_by p xs
count_some p x [] i e = absurd i
count_some {A = A} p x (y ∷ ys) (inl is) e =
    let here : bit (p y) ≡ 1 = ap bit (ap p is ∙ e) in
    let all : count_by p (y ∷ ys) ≡ bit (p y) + count_by p ys = sum_by-cons (λ (z : A). bit (p z)) y ys in
    omega arith
  where
    bit : Bool → ℕ
    bit b = cond b 1 0
count_some {A = A} p x (y ∷ ys) (inr i) e =
    let all : count_by p (y ∷ ys) ≡ cond {A = ℕ} (p y) 1 0 + count_by p ys = sum_by-cons (λ (z : A). cond {A = ℕ} (p z) 1 0) y ys in
    let more : 1 ≤ count_by p ys = count_some p x ys i e in
    omega arith

pub record Linked (j : Job) (n : ℕ) : Type 0 where
  pub file : BlobFile
  pub there : In file (files j)
  pub linked : (file.meta.linked == 0) ≡ false
  pub below : file.meta.number ≤ n

pub linked_below : (j : Job) (x : Entry) (i : BlobIndex) → In x (entries_after j) → index_of x ≡ Some i → Linked j i.file
linked_below j x i k e =
    let t = of_flat (λ (u : TableFile). u.entries) x (after j) k in
    let named : IsAsNamed t.0 = in_all IsAsNamed t.0 (after j) (named_after j) t.1 in
    let least = least_in (map (λ r. r.index.file) (references t.0.entries)) i.file (in_references t.0.entries x i t.2 e) in
    let at = of_references t.0.entries (oldest_of t.0.entries) least.0 in
    let reads = after_reads j at.0 (in_flat (λ (u : TableFile). u.entries) t.0 at.0 (after j) t.1 at.2) in
    let there = refers_there (all_files j) at.0 reads.0 at.1 reads.1 at.3 in
    let b = records_there at.1.file (all_files j) there.0 there.1 in
    let number : (counted j b.0).meta.number ≡ t.0.meta.oldest_blob = all_number j.e.garbage b.0.meta ∙ b.2 ∙ at.4 ∙ named.oldest in
    record {
      file = counted j b.0;
      there = file_to j b.0 b.1;
      linked =
          let some : 1 ≤ (counted j b.0).meta.linked =
          count_some (λ (u : NewTable). u.oldest_blob == (counted j b.0).meta.number) t.0.meta (metas (after j)) (in_map (λ (u : TableFile). u.meta) t.0 (after j) t.1) (eq-eqb t.0.meta.oldest_blob (counted j b.0).meta.number (sym number)) in
          not_zero (counted j b.0).meta.linked some;
      below = let low : oldest_of t.0.entries ≤ i.file = least.1 in let is : oldest_of t.0.entries ≡ t.0.meta.oldest_blob = named.oldest in omega arith;
    }
  where
    not_zero : (n : ℕ) → 1 ≤ n → (n == 0) ≡ false
    not_zero n h = by_test (n == 0) (λ t. let z : n ≡ 0 = eqb-true n 0 t in absurd (omega arith)) (λ t. t)

-- ---- the files ascend

ascends_to : (f : BlobFile → BlobFile) → ((b : BlobFile) → number_of (f b) ≡ number_of b) → (xs : List BlobFile) → Ascends number_of xs → Ascends number_of (map f xs)
ascends_to f is [] up = tt
ascends_to f is (x ∷ xs) up = (
  all_in (λ y. number_of (f x) < number_of y) (map f xs) (λ y i.
      let o = of_map f y xs i in
      let lt : number_of x < number_of o.0 = in_all (λ z. number_of x < number_of z) o.0 xs up.0 o.1 in
      let a : number_of (f x) ≡ number_of x = is x in
      let b : number_of (f o.0) ≡ number_of o.0 = is o.0 in
      let c : number_of (f o.0) ≡ number_of y = ap number_of o.2 in
      omega arith),
  ascends_to f is xs up.1,
)

ascends_metas : (xs : List BlobFile) → Ascends blob_number (blob_metas xs) → Ascends number_of xs
ascends_metas [] up = tt
ascends_metas (x ∷ xs) up =
    (all_in (λ y. number_of x < number_of y) xs (λ y i. in_all (λ m. blob_number x.meta < blob_number m) y.meta (blob_metas xs) up.0 (in_map (λ (b : BlobFile). b.meta) y xs i)), ascends_metas xs up.1)

all_one : (P : BlobFile → Type 0) (x : BlobFile) (ys : List BlobFile) → P x → AllByRecursion P ys → AllByRecursion P (placed number_of x ys)
all_one P x [] p h = (p, tt)
all_one P x (y ∷ ys) p h =
    elim (nat_lt (number_of y) (number_of x)) as (λ b. AllByRecursion P (cond b (y ∷ placed number_of x ys) (x ∷ y ∷ ys))) [ true ↦ (h.0, all_one P x ys p h.1) | false ↦ (p, h) ]

ascends_one : (x : BlobFile) (ys : List BlobFile) → Ascends number_of ys → AllByRecursion (λ y. number_of y ≢ number_of x) ys → Ascends number_of (placed number_of x ys)
ascends_one x [] up h = (tt, tt)
ascends_one x (y ∷ ys) up h =
    by_test (nat_lt (number_of y) (number_of x))
    (λ t.
    let lt : number_of y < number_of x = ltb-true (number_of y) (number_of x) t in
    subst (Ascends number_of) (sym (ap (λ b. cond b (y ∷ placed number_of x ys) (x ∷ y ∷ ys)) t)) (all_one (λ z. number_of y < number_of z) x ys lt up.0, ascends_one x ys up.1 h.1))
    (λ t.
    let le : number_of x ≤ number_of y = ltb-false (number_of y) (number_of x) t in
    let ne : number_of y ≢ number_of x = h.0 in
    let lt : number_of x < number_of y = less (number_of x) (number_of y) le ne in
    subst (Ascends number_of) (sym (ap (λ b. cond b (y ∷ placed number_of x ys) (x ∷ y ∷ ys)) t))
    ((lt, all_in (λ z. number_of x < number_of z) ys (λ z i. let q : number_of y < number_of z = in_all (λ w. number_of y < number_of w) z ys up.0 i in omega arith)), up))
  where
    less : (a b : ℕ) → a ≤ b → b ≢ a → a < b
    less a b le ne = omega arith

ascends_all : (xs ys : List BlobFile) → Ascends number_of ys → Pairwise (λ a b. number_of a ≢ number_of b) xs → AllByRecursion (λ x. AllByRecursion (λ y. number_of y ≢ number_of x) ys) xs → Ascends number_of (all_placed number_of xs ys)
ascends_all [] ys up once fresh = up
ascends_all (x ∷ xs) ys up once fresh =
    ascends_all xs (placed number_of x ys) (ascends_one x ys up fresh.0) once.1
    (all_in (λ z. AllByRecursion (λ y. number_of y ≢ number_of z) (placed number_of x ys)) xs (λ z i.
    all_one (λ y. number_of y ≢ number_of z) x ys (in_all (λ b. number_of x ≢ number_of b) z xs once.0 i) (in_all (λ w. AllByRecursion (λ y. number_of y ≢ number_of w) ys) z xs fresh.1 i)))

pub files_ascend : (j : Job) → Ascends number_of (files j)
files_ascend j =
    subst (Ascends number_of) (sym (files_are j))
    (ascends_to (with_meta (linked_to (metas (after j)))) (λ b. refl) (map (with_meta (add_all j.e.garbage)) (all_files j))
    (ascends_to (with_meta (add_all j.e.garbage)) (λ b. all_number j.e.garbage b.meta) (all_files j)
    (ascends_all j.made j.h.blobs (ascends_metas j.h.blobs (subst (Ascends blob_number) (sym j.held.blobs) j.held.version.blobs_ascend)) j.c.blobs.once j.c.blobs.fresh)))

-- ---- what an entry names is left

pub from_all : (P : BlobFile → Type 0) (bs : List BlobFile) → AllByRecursion P bs → AllByRecursion P (from_linked_on bs)
from_all P [] h = tt
from_all P (b ∷ bs) h = elim (b.meta.linked == 0) as (λ t. AllByRecursion P (cond t (from_linked_on bs) (b ∷ bs))) [ true ↦ from_all P bs h.1 | false ↦ h ]

pub left_all : (j : Job) (P : BlobFile → Type 0) → AllByRecursion P (files j) → AllByRecursion P (left j)
left_all j P h = filter_all P (λ b. not (is_spent b.meta)) (from_linked_on (files j)) (from_all P (files j) h)

pub left_exact : (j : Job) → AllByRecursion (IsFileExact (entries_after j)) (left j)
left_exact j = left_all j (IsFileExact (entries_after j)) (files_exact j)

pub left_totalled : (j : Job) → AllByRecursion (λ (b : BlobFile). totals_of b.records ≡ b.meta.total) (left j)
left_totalled j = left_all j (λ (b : BlobFile). totals_of b.records ≡ b.meta.total) (files_totalled j)

not_spent : (es : List Entry) (b : BlobFile) → IsFileExact es b → 1 ≤ count_of b.meta.number es → not (is_spent b.meta) ≡ true
not_spent es b exact some =
    let count : b.meta.garbage.count + count_of b.meta.number es ≡ b.meta.total.count = exact.count in
    let less : (b.meta.garbage.count == b.meta.total.count) ≡ false =
    by_test (b.meta.garbage.count == b.meta.total.count) (λ t. let e : b.meta.garbage.count ≡ b.meta.total.count = eqb-true b.meta.garbage.count b.meta.total.count t in absurd (omega arith)) (λ t. t) in
    ap not (by (b.meta.linked == 0) (b.meta.garbage.count == b.meta.total.count) (b.meta.garbage.bytes == b.meta.total.bytes) less)
  where
    by : (p q r : Bool) → q ≡ false → (p && q && r) ≡ false
    by p true r e = absurd cc
    by true false r e = refl
    by false false r e = refl

left_records : (j : Job) (x : Entry) (i : BlobIndex) → In x (entries_after j) → index_of x ≡ Some i → records_at i.file (left j) ≡ records_at i.file (all_files j)
left_records j x i k e =
    let l = linked_below j x i k e in
    let some : 1 ≤ count_of i.file (entries_after j) = let w : 1 ≤ weight unit i.file (entries_after j) = weight_some i.file x i (entries_after j) k e refl in let is : count_of i.file (entries_after j) ≡ weight unit i.file (entries_after j) = count_is i.file (entries_after j) in omega arith in
    records_filtered (λ b. not (is_spent b.meta)) i.file (from_linked_on (files j))
    (from_all (λ b. b.meta.number ≡ i.file → not (is_spent b.meta) ≡ true) (files j)
    (all_in (λ b. b.meta.number ≡ i.file → not (is_spent b.meta) ≡ true) (files j) (λ b at is. not_spent (entries_after j) b (in_all (IsFileExact (entries_after j)) b (files j) (files_exact j) at) (subst (λ (n : ℕ). 1 ≤ count_of n (entries_after j)) (sym is) some))))
    ∙ records_from i.file (files j) l.file (files_ascend j) l.there l.linked l.below
    ∙ records_files j i.file

pub left_reads : (j : Job) (x : Entry) (r : Revision) → In x (entries_after j) → revision_of (records_by (all_files j)) x ≡ Some r → revision_of (records_by (left j)) x ≡ Some r
left_reads j x r k reads = revision_same (left j) (all_files j) x (λ i e. left_records j x i k e) ∙ reads
