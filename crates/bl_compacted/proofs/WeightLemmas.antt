-- The references of a blob file among entries, by count and bytes.
use Rattle.std.proofs.Common.{◌≡◌, ◌≢◌, ℕ, ◌+◌, ◌≤◌, Bool, true, false, cond, List, [], ◌∷◌, ◌++◌, length, refl, ◌∙◌, ap, subst, arith, Option, Some, None, inl, inr}
use Rattle.std.specs.Prelude.{◌==◌, map, filter, sum}
use Rattle.std.specs.List.{AllByRecursion, AllZip, cons_option}
use Rattle.std.specs.Option.{option_map}
use Rattle.std.proofs.lemmas.Bool.{eqb-true, eq-eqb}
use Rattle.std.proofs.lemmas.List.Sums.{sum_by-cons}
use Rattle.bl_entry.specs.declared.key.Entry.{Entry}
use Rattle.bl_entry.specs.Revisions.{Revision}
use Rattle.bl_index.specs.declared.index.BlobIndex.{BlobIndex}
use Rattle.bl_index.specs.Metering.{reference_bytes}
use Rattle.bl_out.specs.References.{Reference, index_of, reference_of, references, count_of, bytes_of}
use Rattle.bl_folder.specs.Entries.{records_by}
use Rattle.bl_folder.specs.Holding.{BlobFile}
use Rattle.bl_out.specs.Values.{revision_of}
use Rattle.bl_compacted.specs.Outputs.{HandsOn, IsRewritten, numbers}
use Rattle.bl_compacted.specs.Shuffles.{Shuffled, none, keep, turn, join}
use Rattle.bl_compacted.proofs.Lists.{In, by_test, in_map}
use Rattle.bl_compacted.proofs.FileLemmas.{refers_there, records_there}

abbrev pub one : (Reference → ℕ) → ℕ → Option Reference → ℕ
one f n None = 0
one f n (Some r) = cond (r.index.file == n) (f r) 0

-- what the references of a file weigh
abbrev pub weight : (Reference → ℕ) → ℕ → List Entry → ℕ
weight f n [] = 0
weight f n (x ∷ es) = one f n (reference_of x) + weight f n es

abbrev pub unit : Reference → ℕ
unit r = 1

abbrev pub size : Reference → ℕ
size r = reference_bytes (length r.key) r.index

pub count_is : (n : ℕ) (es : List Entry) → count_of n es ≡ weight unit n es
count_is n [] = refl
count_is n (x ∷ es) = by (reference_of x) (count_is n es)
  where
    by_file : (t : Bool) (r : Reference) → length (filter (λ q. q.index.file == n) (references es)) ≡ weight unit n es
        → length (cond t (r ∷ filter (λ q. q.index.file == n) (references es)) (filter (λ q. q.index.file == n) (references es))) ≡ cond t 1 0 + weight unit n es
    by_file true r e = omega arith
    by_file false r e = omega arith

    by : (o : Option Reference) → count_of n es ≡ weight unit n es → length (filter (λ q. q.index.file == n) (cons_option o (references es))) ≡ one unit n o + weight unit n es
    by None e = omega arith
    by (Some r) e = by_file (r.index.file == n) r e

pub bytes_is : (n : ℕ) (es : List Entry) → bytes_of n es ≡ weight size n es
bytes_is n [] = refl
bytes_is n (x ∷ es) = by (reference_of x) (bytes_is n es)
  where
    by_file : (t : Bool) (r : Reference) → sum (map size (filter (λ q. q.index.file == n) (references es))) ≡ weight size n es
        → sum (map size (cond t (r ∷ filter (λ q. q.index.file == n) (references es)) (filter (λ q. q.index.file == n) (references es)))) ≡ cond t (size r) 0 + weight size n es
    by_file true r e = sum_by-cons (λ x. x) (size r) (map size (filter (λ q. q.index.file == n) (references es))) ∙ ap (λ k. size r + k) e
    by_file false r e = omega arith

    by : (o : Option Reference) → bytes_of n es ≡ weight size n es → sum (map size (filter (λ q. q.index.file == n) (cons_option o (references es)))) ≡ one size n o + weight size n es
    by None e = omega arith
    by (Some r) e = by_file (r.index.file == n) r e

pub weight_join : (f : Reference → ℕ) (n : ℕ) (xs ys : List Entry) → weight f n (xs ++ ys) ≡ weight f n xs + weight f n ys
weight_join f n [] ys = omega arith
weight_join f n (x ∷ xs) ys = let e : weight f n (xs ++ ys) ≡ weight f n xs + weight f n ys = weight_join f n xs ys in omega arith

pub weight_shuffled : (f : Reference → ℕ) (n : ℕ) {xs ys : List Entry} → Shuffled xs ys → weight f n xs ≡ weight f n ys
weight_shuffled f n none = refl
weight_shuffled f n (keep {x = x} s) = ap (λ k. one f n (reference_of x) + k) (weight_shuffled f n s)
weight_shuffled f n (turn {x = x} {y = y} {xs = xs}) = flip (one f n (reference_of x)) (one f n (reference_of y)) (weight f n xs)
  where
    flip : (a b c : ℕ) → a + (b + c) ≡ b + (a + c)
    flip a b c = omega arith
weight_shuffled f n (join s t) = weight_shuffled f n s ∙ weight_shuffled f n t

pub weight_filter : (f : Reference → ℕ) (n : ℕ) (p : Entry → Bool) (es : List Entry) → weight f n (filter p es) ≤ weight f n es
weight_filter f n p [] = omega arith
weight_filter f n p (x ∷ es) = by (p x) (one f n (reference_of x)) (weight f n es) (weight_filter f n p es)
  where
    by : (b : Bool) (a k : ℕ) → weight f n (filter p es) ≤ k → weight f n (cond b (x ∷ filter p es) (filter p es)) ≤ one f n (reference_of x) + k
    by true a k le = omega arith
    by false a k le = omega arith

-- a rewritten entry refers to a new file
pub rewritten_there : (threshold : ℕ) (blobs made : List BlobFile) (e o : Entry) (r : Revision) (i : BlobIndex) → IsRewritten threshold blobs made e o → revision_of (records_by blobs) e ≡ Some r
    → index_of o ≡ Some i → In i.file (numbers made)
rewritten_there threshold blobs made e o r i w reads is =
    let t = refers_there made o r i (w.value ∙ reads) is in
    let b = records_there i.file made t.0 t.1 in
    subst (λ (n : ℕ). In n (numbers made)) b.2 (in_map (λ (x : BlobFile). x.meta.number) b.0 made b.1)

one_other : (f : Reference → ℕ) (n : ℕ) (e : Entry) → ((i : BlobIndex) → index_of e ≡ Some i → i.file ≢ n) → one f n (reference_of e) ≡ 0
one_other f n e h = by (index_of e) refl
  where
    by : (o : Option BlobIndex) → index_of e ≡ o → one f n (option_map (λ index. record { key = e.key.user; index = index }) o) ≡ 0
    by None is = refl
    by (Some i) is = by_test (i.file == n) (λ t. absurd (h i is (eqb-true i.file n t))) (λ t. ap (λ c. cond c (f (record { key = e.key.user; index = i })) 0) t)

pub weight_zip : (f : Reference → ℕ) (n cutoff threshold : ℕ) (blobs made : List BlobFile) (ks os : List Entry) → AllZip (HandsOn cutoff threshold blobs made) ks os
    → AllByRecursion (λ k. (r : Revision) × (revision_of (records_by blobs) k ≡ Some r)) ks → (In n (numbers made) → ⊥) → weight f n os ≤ weight f n ks
weight_zip f n cutoff threshold blobs made [] [] z reads fresh = omega arith
weight_zip f n cutoff threshold blobs made [] (o ∷ os) z reads fresh = absurd z
weight_zip f n cutoff threshold blobs made (k ∷ ks) [] z reads fresh = absurd z
weight_zip f n cutoff threshold blobs made (k ∷ ks) (o ∷ os) z reads fresh =
    let rest : weight f n os ≤ weight f n ks = weight_zip f n cutoff threshold blobs made ks os z.1 reads.1 fresh in
    let first : one f n (reference_of o) ≤ one f n (reference_of k) = by z.0 in
    omega arith
  where
    by : HandsOn cutoff threshold blobs made k o → one f n (reference_of o) ≤ one f n (reference_of k)
    by (inl h) = let e : one f n (reference_of o) ≡ one f n (reference_of k) = ap (λ (x : Entry). one f n (reference_of x)) h.0 in omega arith
    by (inr w) =
        let e : one f n (reference_of o) ≡ 0 = one_other f n o (λ i is eq. fresh (subst (λ (m : ℕ). In m (numbers made)) eq (rewritten_there threshold blobs made k o reads.0.0 i w reads.0.1 is))) in
        omega arith

pub weight_none : (f : Reference → ℕ) (n : ℕ) (es : List Entry) → AllByRecursion (λ e. (i : BlobIndex) → index_of e ≡ Some i → i.file ≢ n) es → weight f n es ≡ 0
weight_none f n [] h = refl
weight_none f n (x ∷ es) h =
    let first : one f n (reference_of x) ≡ 0 = one_other f n x h.0 in
    let rest : weight f n es ≡ 0 = weight_none f n es h.1 in
    omega arith

pub weight_some : (n : ℕ) (e : Entry) (i : BlobIndex) (es : List Entry) → In e es → index_of e ≡ Some i → i.file ≡ n → 1 ≤ weight unit n es
weight_some n e i [] j is eq = absurd j
weight_some n e i (x ∷ es) (inl same) is eq =
    let is_x : index_of x ≡ Some i = ap (λ (y : Entry). index_of y) same ∙ is in
    let here : one unit n (reference_of x) ≡ 1 =
    ap (λ o. one unit n (option_map (λ index. record { key = x.key.user; index = index }) o)) is_x ∙ ap (λ c. cond c 1 0) (eq-eqb i.file n eq) in
    omega arith
weight_some n e i (x ∷ es) (inr j) is eq = let rest : 1 ≤ weight unit n es = weight_some n e i es j is eq in omega arith
