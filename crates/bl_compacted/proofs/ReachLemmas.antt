-- What comes out of a compaction refers to no emptied file, and after one of all tables nothing is garbage.
use Rattle.std.proofs.Common.{◌≡◌, ◌≢◌, ℕ, ◌+◌, ◌-◌, ◌<◌, ◌≤◌, ◌^◌, Bool, true, false, cond, List, [], ◌∷◌, refl, sym, ◌∙◌, ap, subst, arith, Option, Some, None, inl, inr}
use Rattle.std.specs.Prelude.{◌⊎◌, ◌==◌, ◌&&◌, not, map, count_by, Contains, IfSome, IsTrue, nat_le, unwrap_or}
use Rattle.std.specs.List.{AllByRecursion, cons_option}
use Rattle.std.specs.Option.{option_map}
use Rattle.std.proofs.lemmas.Bool.{false≢true, eqb-true, eq-eqb, leb-true}
use Rattle.std.proofs.lemmas.List.Sums.{sum_by-cons}
use Rattle.bl_build.specs.declared.meta.BlobMeta.{BlobMeta}
use Rattle.bl_edit.specs.declared.edit.NewTable.{NewTable}
use Rattle.bl_edit.specs.Bounds.{is_number}
use Rattle.bl_build.specs.Versions.{is_spent}
use Rattle.bl_entry.specs.declared.key.Entry.{Entry}
use Rattle.bl_index.specs.declared.index.BlobIndex.{BlobIndex}
use Rattle.bl_out.specs.References.{Reference, index_of, reference_of, references, count_of, bytes_of}
use Rattle.bl_folder.specs.Holding.{BlobFile}
use Rattle.bl_out.specs.Tables.{TableFile, table_entries, IsAsNamed, least_of}
use Rattle.bl_folder.specs.Stands.{IsFileExact}
use Rattle.bl_compacted.specs.Installing.{from_linked_on}
use Rattle.bl_folder.specs.Flushes.{metas}
use Rattle.bl_compacted.specs.Outputs.{IsFrom, numbers}
use Rattle.bl_compacted.proofs.Finding.{some_is}
use Rattle.bl_compacted.proofs.Lists.{In, all_in, by_test, in_all, in_filtered, in_flat, in_map, of_map, to_contains}
use Rattle.bl_compacted.proofs.ValueLemmas.{and_parts}
use Rattle.bl_compacted.proofs.WeightLemmas.{bytes_is, count_is, size, unit, weight_none}
use Rattle.bl_compacted.proofs.Jobs.{Hands, Job, Reads, add_all, after, after_either, all_map, all_number, entries_after, files, kept_read, keeps, left, out_of, outs, rest, stay}
use Rattle.bl_compacted.proofs.AccountLemmas.{adds, all_bytes, all_count, all_either, counted, extra, file_from, files_exact, made_none, no_garbage, old_not_made}
use Rattle.bl_compacted.proofs.LeftLemmas.{from_all, least_in, named_after, of_references}
use Rattle.bl_compacted.proofs.SoundLemmas.{index_is, rewritten_in}

-- ---- no reference to a file below the cutoff

pub of_refs : (es : List Entry) (r : Reference) → In r (references es) → (x : Entry) × In x es × (reference_of x ≡ Some r)
of_refs [] r i = absurd i
of_refs (y ∷ es) r i = by (reference_of y) refl (λ k. of_refs es r k) i
  where
    more : (x : Entry) × In x es × (reference_of x ≡ Some r) → (x : Entry) × In x (y ∷ es) × (reference_of x ≡ Some r)
    more q = (q.0, inr q.1, q.2)

    by : (o : Option Reference) → reference_of y ≡ o → (In r (references es) → (x : Entry) × In x es × (reference_of x ≡ Some r)) → In r (cons_option o (references es))
        → (x : Entry) × In x (y ∷ es) × (reference_of x ≡ Some r)
    by None e rest k = more (rest k)
    by (Some q) e rest (inl is) = (y, inl refl, e ∙ ap Some is)
    by (Some q) e rest (inr k) = more (rest k)

kept_from : (cutoff : ℕ) (e : Entry) (i : BlobIndex) → IsFrom cutoff e → index_of e ≡ Some i → cutoff ≤ i.file
kept_from cutoff e i h is = by (index_of e) h is
  where
    by : (o : Option BlobIndex) → IfSome o (λ index. cutoff ≤ index.file) → o ≡ Some i → cutoff ≤ i.file
    by None k p = absurd cc
    by (Some m) k p = subst (λ (x : BlobIndex). cutoff ≤ x.file) (some_is p) k

pub outputs_reach : (j : Job) → AllByRecursion (λ r. Contains (numbers j.made) r.index.file ⊎ (j.plan.cutoff ≤ r.index.file)) (references (outs j))
outputs_reach j =
    all_in (λ r. Contains (numbers j.made) r.index.file ⊎ (j.plan.cutoff ≤ r.index.file)) (references (outs j)) (λ r i.
    let o = of_refs (outs j) r i in
    let k = out_of j o.0 o.1 in
    by k.0 o.0 r (in_all (Reads j.h.blobs) k.0 (keeps j) (kept_read j) k.1) o.2 k.2)
  where
    by : (k o : Entry) (r : Reference) → Reads j.h.blobs k → reference_of o ≡ Some r → Hands j k o → Contains (numbers j.made) r.index.file ⊎ (j.plan.cutoff ≤ r.index.file)
    by k o r reads e (inl h) = inr (kept_from j.plan.cutoff k r.index h.1 (sym (ap (λ (x : Entry). index_of x) h.0) ∙ index_is o r e))
    by k o r reads e (inr w) = inl (to_contains r.index.file (numbers j.made) (rewritten_in j k o r w reads e))

in_refs : (es : List Entry) (x : Entry) (i : BlobIndex) → In x es → index_of x ≡ Some i → In (record { key = x.key.user; index = i }) (references es)
in_refs [] x i k e = absurd k
in_refs (y ∷ es) x i k e = by (reference_of y) refl (λ q. in_refs es x i q e) k
  where
    this : reference_of x ≡ Some (record { key = x.key.user; index = i })
    this = ap (option_map (λ index. record { key = x.key.user; index = index })) e

    by : (o : Option Reference) → reference_of y ≡ o → (In x es → In (record { key = x.key.user; index = i }) (references es)) → In x (y ∷ es)
        → In (record { key = x.key.user; index = i }) (cons_option o (references es))
    by None p rest (inl is) = let q : ◌≡◌ {A = Option Reference} (Some (record { key = x.key.user; index = i })) None = sym this ∙ sym (ap (λ (z : Entry). reference_of z) is) ∙ p in absurd cc
    by (Some r) p rest (inl is) = inl (some_is (sym p ∙ ap (λ (z : Entry). reference_of z) is ∙ this))
    by None p rest (inr q) = rest q
    by (Some r) p rest (inr q) = inr (rest q)

-- ---- after a compaction of all tables

-- no entry refers to a file that was there before
no_old : (j : Job) (b : BlobFile) → stay j ≡ [] → 10 ^ 15 ≤ j.plan.cutoff → In b j.h.blobs → b.meta.number < 10 ^ 15 → (x : Entry) (i : BlobIndex) → In x (entries_after j) → index_of x ≡ Some i → i.file ≢ b.meta.number
no_old j b none cut there small x i k e is = by (after_either j x k)
  where
    fresh : In i.file (numbers j.made) → ⊥
    fresh n = old_not_made j b there (subst (λ (m : ℕ). In m (numbers j.made)) is n)

    hands : (p : Entry) → Reads j.h.blobs p → Hands j p x → ⊥
    hands p reads (inl h) =
        let from : j.plan.cutoff ≤ i.file = kept_from j.plan.cutoff p i h.1 (sym (ap (λ (y : Entry). index_of y) h.0) ∙ e) in
        absurd (omega arith)
    hands p reads (inr w) = fresh (rewritten_in j p x (record { key = x.key.user; index = i }) w reads (ap (option_map (λ index. record { key = x.key.user; index = index })) e))

    by : In x (outs j) ⊎ In x (rest j) → ⊥
    by (inl m) = let p = out_of j x m in hands p.0 (in_all (Reads j.h.blobs) p.0 (keeps j) (kept_read j) p.1) p.2
    by (inr m) = absurd (subst (λ (ts : List TableFile). In x (table_entries ts)) none m)

count_none : {A : Type 0} (p : A → Bool) (xs : List A) → AllByRecursion (λ x. p x ≡ false) xs → count_by p xs ≡ 0
count_none p [] h = refl
count_none {A = A} p (x ∷ xs) h =
    let all : count_by p (x ∷ xs) ≡ bit (p x) + count_by p xs = sum_by-cons (λ (z : A). bit (p z)) x xs in
    let here : bit (p x) ≡ 0 = ap bit h.0 in
    let more : count_by p xs ≡ 0 = count_none p xs h.1 in
    omega arith
  where
    bit : Bool → ℕ
    bit b = cond b 1 0

no_links : (j : Job) (b : BlobFile) → stay j ≡ [] → 10 ^ 15 ≤ j.plan.cutoff → In b j.h.blobs → 1 ≤ b.meta.number → b.meta.number < 10 ^ 15 → (n : ℕ) → n ≡ b.meta.number → count_by (λ (t : NewTable). t.oldest_blob == n) (metas (after j)) ≡ 0
no_links j b none cut there some small n is =
    count_none (λ (t : NewTable). t.oldest_blob == n) (metas (after j)) (all_in (λ (t : NewTable). (t.oldest_blob == n) ≡ false) (metas (after j)) (λ m i.
    by_test (m.oldest_blob == n) (λ s. let t = of_map (λ (u : TableFile). u.meta) m (after j) i in absurd (linked t.0 t.1 (ap (λ (u : NewTable). u.oldest_blob) t.2 ∙ eqb-true m.oldest_blob n s ∙ is))) (λ s. s)))
  where
    named_by : (t : TableFile) → In t (after j) → (ns : List ℕ) → ns ≡ map (λ r. r.index.file) (references t.entries) → unwrap_or (least_of ns) 0 ≡ b.meta.number → ⊥
    named_by t i [] same e = absurd (omega arith)
    named_by t i (n' ∷ ns) same e =
        let least = least_in (n' ∷ ns) n' (inl refl) in
        let at : In b.meta.number (map (λ r. r.index.file) (references t.entries)) = subst (In b.meta.number) same (subst (λ (k : ℕ). In k (n' ∷ ns)) e least.0) in
        let y = of_references t.entries b.meta.number at in
        no_old j b none cut there small y.0 y.1 (in_flat (λ (u : TableFile). u.entries) t y.0 (after j) i y.2) y.3 y.4

    linked : (t : TableFile) → In t (after j) → t.meta.oldest_blob ≡ b.meta.number → ⊥
    linked t i e =
        let named : IsAsNamed t = in_all IsAsNamed t (after j) (named_after j) i in
        named_by t i (map (λ r. r.index.file) (references t.entries)) refl (named.oldest ∙ e)

in_from : (x : BlobFile) (bs : List BlobFile) → In x (from_linked_on bs) → In x bs
in_from x bs i = in_all (λ y. In y bs) x (from_linked_on bs) (from_all (λ y. In y bs) bs (all_in (λ y. In y bs) bs (λ y k. k))) i

abbrev Clean : BlobFile → Type 0
Clean b = (b.meta.garbage.count ≡ 0) × (b.meta.garbage.bytes ≡ 0)

clean_made : (j : Job) (b : BlobFile) → In b j.made → Clean (counted j b)
clean_made j b i =
    let none = in_all Clean b j.made (no_garbage j) i in
    let n : ℕ = b.meta.number in
    let at : In n (numbers j.made) = in_map (λ (x : BlobFile). x.meta.number) b j.made i in
    let add = adds j n in (
      (let g : (add_all j.e.garbage b.meta).garbage.count ≡ b.meta.garbage.count + extra (λ x. x.count) n j.e.garbage = all_count j.e.garbage b.meta in
          let z : b.meta.garbage.count ≡ 0 = none.0 in
          let c : count_of n j.c.ins ≡ 0 = count_is n j.c.ins ∙ (made_none j unit n at).0 in
          nothing _ _ _ _ _ g z add.0 c),
      (let g : (add_all j.e.garbage b.meta).garbage.bytes ≡ b.meta.garbage.bytes + extra (λ x. x.bytes) n j.e.garbage = all_bytes j.e.garbage b.meta in
          let z : b.meta.garbage.bytes ≡ 0 = none.1 in
          let c : bytes_of n j.c.ins ≡ 0 = bytes_is n j.c.ins ∙ (made_none j size n at).0 in
          nothing _ _ _ _ _ g z add.1 c),
    )
  where
    nothing : (g' g x i u : ℕ) → g' ≡ g + x → g ≡ 0 → x ≡ i - u → i ≡ 0 → g' ≡ 0
    nothing g' g x i u p q r s = omega arith

spent_old : (j : Job) (b x : BlobFile) → stay j ≡ [] → 10 ^ 15 ≤ j.plan.cutoff → In b j.h.blobs → 1 ≤ b.meta.number → b.meta.number < 10 ^ 15 → In x (files j) → counted j b ≡ x → is_spent x.meta ≡ true
spent_old j b x none cut there some small i is =
    let number : x.meta.number ≡ b.meta.number = ap (λ (y : BlobFile). y.meta.number) (sym is) ∙ all_number j.e.garbage b.meta in
    let exact : IsFileExact (entries_after j) x = in_all (IsFileExact (entries_after j)) x (files j) (files_exact j) i in
    let away : AllByRecursion (λ e. (k : BlobIndex) → index_of e ≡ Some k → k.file ≢ x.meta.number) (entries_after j) =
    all_in (λ e. (k : BlobIndex) → index_of e ≡ Some k → k.file ≢ x.meta.number) (entries_after j) (λ e at k p q. no_old j b none cut there small e k at p (q ∙ number)) in
    let count : count_of x.meta.number (entries_after j) ≡ 0 = count_is x.meta.number (entries_after j) ∙ weight_none unit x.meta.number (entries_after j) away in
    let bytes : bytes_of x.meta.number (entries_after j) ≡ 0 = bytes_is x.meta.number (entries_after j) ∙ weight_none size x.meta.number (entries_after j) away in
    let links : x.meta.linked ≡ 0 = ap (λ (y : BlobFile). y.meta.linked) (sym is) ∙ no_links j b none cut there some small (counted j b).meta.number (all_number j.e.garbage b.meta) in
    all_three (x.meta.linked == 0) (x.meta.garbage.count == x.meta.total.count) (x.meta.garbage.bytes == x.meta.total.bytes)
    (eq-eqb x.meta.linked 0 links)
    (eq-eqb x.meta.garbage.count x.meta.total.count (let e = exact.count in omega arith))
    (eq-eqb x.meta.garbage.bytes x.meta.total.bytes (let e = exact.bytes in omega arith))
  where
    all_three : (p q r : Bool) → p ≡ true → q ≡ true → r ≡ true → (p && q && r) ≡ true
    all_three true true r a b c = c
    all_three true false r a b c = absurd cc
    all_three false q r a b c = absurd cc

number_fits : (n : ℕ) → IsTrue (is_number n) → (1 ≤ n) × (n < 10 ^ 15)
number_fits n t =
    let both = and_parts (nat_le 1 n) (nat_le n 999999999999999) t in
    let low : 1 ≤ n = leb-true 1 n both.0 in
    let high : n ≤ 999999999999999 = leb-true n 999999999999999 both.1 in
    (low, omega arith)

pub full_leaves_none : (j : Job) → stay j ≡ [] → 10 ^ 15 ≤ j.plan.cutoff → AllByRecursion Clean (left j)
full_leaves_none j none cut =
    all_in Clean (left j) (λ x i.
    let kept_ = in_filtered (λ (b : BlobFile). not (is_spent b.meta)) x (from_linked_on (files j)) i in
    let at : In x (files j) = in_from x (files j) kept_.0 in
    let f = file_from j x at in
    by x f.0 at f.2 kept_.1 (all_either j f.0 f.1))
  where
    fits : (b : BlobFile) → In b j.h.blobs → (1 ≤ b.meta.number) × (b.meta.number < 10 ^ 15)
    fits b k =
        number_fits b.meta.number (in_all (λ (x : BlobFile). IsTrue (is_number x.meta.number)) b j.h.blobs
        (all_map (λ (x : BlobFile). x.meta) (λ (m : BlobMeta). IsTrue (is_number m.number)) j.h.blobs (subst (AllByRecursion (λ (m : BlobMeta). IsTrue (is_number m.number))) (sym j.held.blobs) j.held.version.blobs_fit)) k)

    by : (x b : BlobFile) → In x (files j) → counted j b ≡ x → not (is_spent x.meta) ≡ true → In b j.made ⊎ In b j.h.blobs → Clean x
    by x b at is left_ (inl k) = subst Clean is (clean_made j b k)
    by x b at is left_ (inr k) =
        let n = fits b k in
        absurd (false≢true (sym (ap not (spent_old j b x none cut k n.0 n.1 at is)) ∙ left_))

-- ---- the oldest blob file of a new table

pub linked_behind : (j : Job) → AllByRecursion (λ t. (t.meta.oldest_blob ≡ 0) ⊎ (Contains (numbers j.made) t.meta.oldest_blob ⊎ (j.plan.cutoff ≤ t.meta.oldest_blob))) j.new
linked_behind j =
    all_in (λ t. (t.meta.oldest_blob ≡ 0) ⊎ (Contains (numbers j.made) t.meta.oldest_blob ⊎ (j.plan.cutoff ≤ t.meta.oldest_blob))) j.new (λ t i.
    let named : IsAsNamed t = in_all IsAsNamed t j.new j.c.named i in
    subst (λ (n : ℕ). (n ≡ 0) ⊎ (Contains (numbers j.made) n ⊎ (j.plan.cutoff ≤ n))) named.oldest (by t i (map (λ r. r.index.file) (references t.entries)) refl))
  where
    by : (t : TableFile) → In t j.new → (ns : List ℕ) → ns ≡ map (λ r. r.index.file) (references t.entries)
        → (unwrap_or (least_of ns) 0 ≡ 0) ⊎ (Contains (numbers j.made) (unwrap_or (least_of ns) 0) ⊎ (j.plan.cutoff ≤ unwrap_or (least_of ns) 0))
    by t i [] same = inl refl
    by t i (n ∷ ns) same =
        let least = least_in (n ∷ ns) n (inl refl) in
        let y = of_references t.entries (unwrap_or (least_of (n ∷ ns)) 0) (subst (In (unwrap_or (least_of (n ∷ ns)) 0)) same least.0) in
        let r : Reference = record { key = y.0.key.user; index = y.1 } in
        let at : In r (references (outs j)) = in_refs (outs j) y.0 y.1 (in_flat (λ (u : TableFile). u.entries) t y.0 j.new i y.2) y.3 in
        let reach : Contains (numbers j.made) r.index.file ⊎ (j.plan.cutoff ≤ r.index.file) =
        in_all (λ q. Contains (numbers j.made) q.index.file ⊎ (j.plan.cutoff ≤ q.index.file)) r (references (outs j)) (outputs_reach j) at in
        inr (subst (λ (k : ℕ). Contains (numbers j.made) k ⊎ (j.plan.cutoff ≤ k)) y.4 reach)
