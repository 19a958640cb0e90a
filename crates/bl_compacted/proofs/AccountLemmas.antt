-- The accounts of blob files after a compaction.
use Rattle.std.proofs.Common.{◌≡◌, ◌≢◌, ℕ, ◌+◌, ◌-◌, ◌<◌, ◌≤◌, nat_lt, Bool, true, false, cond, List, [], ◌∷◌, length, refl, sym, ◌∙◌, ap, subst, arith, inl, inr}
use Rattle.std.specs.Prelude.{◌⊎◌, ◌==◌, map, sum}
use Rattle.std.specs.List.{AllByRecursion, list_any}
use Rattle.std.proofs.lemmas.Bool.{false≢true, eqb-true, eq-eqb, ltb-true, ltb-false}
use Rattle.bl_blob.specs.BlobFile.{totals_of}
use Rattle.bl_edit.specs.declared.edit.BlobAddition.{BlobAddition}
use Rattle.bl_edit.specs.declared.edit.BlobGarbage.{BlobGarbage}
use Rattle.bl_build.specs.declared.meta.BlobMeta.{BlobMeta}
use Rattle.bl_build.specs.Listing.{Ascends}
use Rattle.bl_build.specs.Versions.{add_garbage, linked_to, new_blob}
use Rattle.bl_out.specs.References.{Reference, references_of, count_of, bytes_of}
use Rattle.bl_folder.specs.Holding.{BlobFile}
use Rattle.bl_folder.specs.Stands.{IsFileExact}
use Rattle.bl_compacted.specs.Installing.{number_of, with_meta}
use Rattle.bl_folder.specs.Flushes.{metas}
use Rattle.bl_compacted.specs.Outputs.{numbers}
use Rattle.bl_compacted.specs.Compacting.{garbage_in}
use Rattle.bl_compacted.proofs.Lists.{In, all_in, any_in, back, by_test, from_contains, in_all, in_any, in_append, in_map, of_map, shuffled_in}
use Rattle.bl_compacted.proofs.FileLemmas.{all_placed_shuffles}
use Rattle.bl_compacted.proofs.WeightLemmas.{bytes_is, count_is, size, unit, weight, weight_filter, weight_join, weight_none, weight_shuffled, weight_zip}
use Rattle.bl_compacted.proofs.Jobs.{Job, Reads, add_all, add_number, after, all_files, all_map, all_number, entries_after, entries_shuffled, files, files_are, ins_read, keeps, kept_read, not_made, old, outs, rest, rest_read, split_old}

-- ---- what several records of garbage add up to

unfoldable pub extra : (BlobGarbage → ℕ) → ℕ → List BlobGarbage → ℕ
extra f n [] = 0
extra f n (g ∷ gs) = cond (n == g.number) (f g) 0 + extra f n gs

zero_more : (n : ℕ) → n ≡ n + 0
zero_more n = omega arith

pub add_count : (g : BlobGarbage) (b : BlobMeta) → (add_garbage g b).garbage.count ≡ b.garbage.count + cond (b.number == g.number) g.count 0
add_count g b = by (b.number == g.number)
  where
    by : (t : Bool) → (cond t (record b { garbage = record { count = b.garbage.count + g.count; bytes = b.garbage.bytes + g.bytes } }) b).garbage.count ≡ b.garbage.count + cond t g.count 0
    by true = refl
    by false = zero_more b.garbage.count

pub add_bytes : (g : BlobGarbage) (b : BlobMeta) → (add_garbage g b).garbage.bytes ≡ b.garbage.bytes + cond (b.number == g.number) g.bytes 0
add_bytes g b = by (b.number == g.number)
  where
    by : (t : Bool) → (cond t (record b { garbage = record { count = b.garbage.count + g.count; bytes = b.garbage.bytes + g.bytes } }) b).garbage.bytes ≡ b.garbage.bytes + cond t g.bytes 0
    by true = refl
    by false = zero_more b.garbage.bytes

pub add_total : (g : BlobGarbage) (b : BlobMeta) → (add_garbage g b).total ≡ b.total
add_total g b = by (b.number == g.number)
  where
    by : (t : Bool) → (cond t (record b { garbage = record { count = b.garbage.count + g.count; bytes = b.garbage.bytes + g.bytes } }) b).total ≡ b.total
    by true = refl
    by false = refl

pub all_total : (gs : List BlobGarbage) (b : BlobMeta) → (add_all gs b).total ≡ b.total
unfolding add_all
all_total [] b = refl
all_total (g ∷ gs) b = all_total gs (add_garbage g b) ∙ add_total g b

pub all_count : (gs : List BlobGarbage) (b : BlobMeta) → (add_all gs b).garbage.count ≡ b.garbage.count + extra (λ g. g.count) b.number gs
unfolding add_all extra
all_count [] b = zero_more b.garbage.count
all_count (g ∷ gs) b =
    let more : (add_all gs (add_garbage g b)).garbage.count ≡ (add_garbage g b).garbage.count + extra (λ x. x.count) (add_garbage g b).number gs = all_count gs (add_garbage g b) in
    let first : (add_garbage g b).garbage.count ≡ b.garbage.count + cond (b.number == g.number) g.count 0 = add_count g b in
    let at : extra (λ x. x.count) (add_garbage g b).number gs ≡ extra (λ x. x.count) b.number gs = ap (λ n. extra (λ x. x.count) n gs) (add_number g b) in
    omega arith

pub all_bytes : (gs : List BlobGarbage) (b : BlobMeta) → (add_all gs b).garbage.bytes ≡ b.garbage.bytes + extra (λ g. g.bytes) b.number gs
unfolding add_all extra
all_bytes [] b = zero_more b.garbage.bytes
all_bytes (g ∷ gs) b =
    let more : (add_all gs (add_garbage g b)).garbage.bytes ≡ (add_garbage g b).garbage.bytes + extra (λ x. x.bytes) (add_garbage g b).number gs = all_bytes gs (add_garbage g b) in
    let first : (add_garbage g b).garbage.bytes ≡ b.garbage.bytes + cond (b.number == g.number) g.bytes 0 = add_bytes g b in
    let at : extra (λ x. x.bytes) (add_garbage g b).number gs ≡ extra (λ x. x.bytes) b.number gs = ap (λ n. extra (λ x. x.bytes) n gs) (add_number g b) in
    omega arith

-- ---- in less out, for each file once

extra_none : (f : BlobGarbage → ℕ) (g : ℕ → BlobGarbage) → ((m : ℕ) → (g m).number ≡ m) → (n : ℕ) (fs : List ℕ) → AllByRecursion (λ m. m ≢ n) fs → extra f n (map g fs) ≡ 0
unfolding extra
extra_none f g is n [] h = refl
extra_none f g is n (m ∷ fs) h =
    let no : (n == (g m).number) ≡ false = by_test (n == (g m).number) (λ t. absurd (h.0 (sym (eqb-true n (g m).number t ∙ is m)))) (λ t. t) in
    ap (λ t. cond t (f (g m)) 0 + extra f n (map g fs)) no ∙ zero_plus (extra f n (map g fs)) ∙ extra_none f g is n fs h.1
  where
    zero_plus : (k : ℕ) → 0 + k ≡ k
    zero_plus k = omega arith

extra_in : (f : BlobGarbage → ℕ) (g : ℕ → BlobGarbage) → ((m : ℕ) → (g m).number ≡ m) → (n : ℕ) (fs : List ℕ) → Ascends (λ m. m) fs → In n fs → extra f n (map g fs) ≡ f (g n)
unfolding extra
extra_in f g is n [] up i = absurd i
extra_in f g is n (m ∷ fs) up (inl e) =
    let yes : (n == (g m).number) ≡ true = eq-eqb n (g m).number (sym (is m ∙ e)) in
    let none : extra f n (map g fs) ≡ 0 = extra_none f g is n fs (all_in (λ k. k ≢ n) fs (λ k j eq. let lt : m < k = in_all (λ y. m < y) k fs up.0 j in absurd (omega arith))) in
    let here : cond (n == (g m).number) (f (g m)) 0 ≡ f (g m) = ap (λ t. cond t (f (g m)) 0) yes in
    let same : f (g m) ≡ f (g n) = ap (λ k. f (g k)) e in
    omega arith
extra_in f g is n (m ∷ fs) up (inr i) =
    let lt : m < n = in_all (λ y. m < y) n fs up.0 i in
    let no : (n == (g m).number) ≡ false = by_test (n == (g m).number) (λ t. let eq : n ≡ m = eqb-true n (g m).number t ∙ is m in absurd (omega arith)) (λ t. t) in
    let here : cond (n == (g m).number) (f (g m)) 0 ≡ 0 = ap (λ t. cond t (f (g m)) 0) no in
    let more : extra f n (map g fs) ≡ f (g n) = extra_in f g is n fs up.1 i in
    omega arith

empty : {A : Type 0} (xs : List A) → length xs ≡ 0 → xs ≡ []
empty [] e = refl
empty (x ∷ xs) e = absurd cc

abbrev pub less_count : Job → ℕ → ℕ
less_count j n = count_of n j.c.ins - count_of n (outs j)

abbrev pub less_bytes : Job → ℕ → ℕ
less_bytes j n = bytes_of n j.c.ins - bytes_of n (outs j)

abbrev Adds : Job → ℕ → Type 0
Adds j n = (extra (λ g. g.count) n j.e.garbage ≡ less_count j n) × (extra (λ g. g.bytes) n j.e.garbage ≡ less_bytes j n)

pub adds : (j : Job) (n : ℕ) → Adds j n
adds j n =
    by_test (list_any (λ m. m == n) fs)
    (λ t.
    let a = any_in (λ m. m == n) fs t in
    let i : In n fs = subst (λ (m : ℕ). In m fs) (eqb-true a.0 n a.2) a.1 in (
      ap (extra (λ x. x.count) n) j.c.edit.garbage ∙ extra_in (λ x. x.count) g (λ m. refl) n fs j.c.edit.ascend i,
      ap (extra (λ x. x.bytes) n) j.c.edit.garbage ∙ extra_in (λ x. x.bytes) g (λ m. refl) n fs j.c.edit.ascend i,
    ))
    (λ t.
    let none : AllByRecursion (λ m. m ≢ n) fs = all_in (λ m. m ≢ n) fs (λ m i e. false≢true (sym t ∙ in_any (λ k. k == n) m fs i (eq-eqb m n e))) in
    let absent : In n fs → ⊥ = λ i. in_all (λ m. m ≢ n) n fs none i refl in
    let zero_count : count_of n j.c.ins ≡ 0 =
    by_test (nat_lt 0 (count_of n j.c.ins))
    (λ s. let some : 0 < count_of n j.c.ins = ltb-true 0 (count_of n j.c.ins) s in absurd (absent (from_contains n fs ((j.c.edit.named n).1 (omega arith)))))
    (λ s. let no : count_of n j.c.ins ≤ 0 = ltb-false 0 (count_of n j.c.ins) s in omega arith) in
    let zero_bytes : bytes_of n j.c.ins ≡ 0 = ap (λ (rs : List Reference). sum (map size rs)) (empty (references_of n j.c.ins) zero_count) in
    let first : extra (λ x. x.count) n j.e.garbage ≡ 0 = ap (extra (λ x. x.count) n) j.c.edit.garbage ∙ extra_none (λ x. x.count) g (λ m. refl) n fs none in
    let second : extra (λ x. x.bytes) n j.e.garbage ≡ 0 = ap (extra (λ x. x.bytes) n) j.c.edit.garbage ∙ extra_none (λ x. x.bytes) g (λ m. refl) n fs none in
    (omega arith, omega arith))
  where
    fs : List ℕ
    fs = j.c.edit.files

    g : ℕ → BlobGarbage
    g = garbage_in j.c.ins (outs j)

-- ---- in each file garbage and references make the totals

pub no_garbage : (j : Job) → AllByRecursion (λ (b : BlobFile). (b.meta.garbage.count ≡ 0) × (b.meta.garbage.bytes ≡ 0)) j.made
no_garbage j =
    all_map (λ (b : BlobFile). b.meta) (λ (m : BlobMeta). (m.garbage.count ≡ 0) × (m.garbage.bytes ≡ 0)) j.made
    (subst (AllByRecursion (λ (m : BlobMeta). (m.garbage.count ≡ 0) × (m.garbage.bytes ≡ 0))) j.c.edit.additions (none j.e.blobs))
  where
    none : (as_added : List BlobAddition) → AllByRecursion (λ (m : BlobMeta). (m.garbage.count ≡ 0) × (m.garbage.bytes ≡ 0)) (map new_blob as_added)
    none [] = tt
    none (a ∷ more) = ((refl, refl), none more)

after_weight : (j : Job) (f : Reference → ℕ) (n : ℕ) → weight f n (entries_after j) ≡ weight f n (outs j) + weight f n (rest j)
after_weight j f n = sym (weight_shuffled f n (entries_shuffled j)) ∙ weight_join f n (outs j) (rest j)

old_weight : (j : Job) (f : Reference → ℕ) (n : ℕ) → weight f n (old j) ≡ weight f n j.c.ins + weight f n (rest j)
old_weight j f n = weight_shuffled f n (split_old j) ∙ weight_join f n j.c.ins (rest j)

out_within : (j : Job) (f : Reference → ℕ) (n : ℕ) → (In n (numbers j.made) → ⊥) → weight f n (outs j) ≤ weight f n j.c.ins
out_within j f n fresh =
    let a : weight f n (outs j) ≤ weight f n (keeps j) =
    weight_zip f n j.plan.cutoff j.h.live.standing.options.min_blob_size j.h.blobs j.made (keeps j) (outs j) j.c.handed (kept_read j) fresh in
    let b : weight f n (keeps j) ≤ weight f n j.c.ins = weight_filter f n _ j.c.ins in
    omega arith

pub old_not_made : (j : Job) (b : BlobFile) → In b j.h.blobs → In b.meta.number (numbers j.made) → ⊥
old_not_made j b i k =
    let n = of_map (λ (y : BlobFile). y.meta.number) b.meta.number j.made k in
    in_all (λ (y : BlobFile). y.meta.number ≢ n.0.meta.number) b j.h.blobs (in_all (λ (y : BlobFile). AllByRecursion (λ o. o.meta.number ≢ y.meta.number) j.h.blobs) n.0 j.made j.c.blobs.fresh n.1) i (sym n.2)

-- old entries have no reference to a new file
pub made_none : (j : Job) (f : Reference → ℕ) (n : ℕ) → In n (numbers j.made) → (weight f n j.c.ins ≡ 0) × (weight f n (rest j) ≡ 0)
made_none j f n k = (
  weight_none f n j.c.ins (all_in _ j.c.ins (λ x i at is e. let r = in_all (Reads j.h.blobs) x j.c.ins (ins_read j) i in not_made j x r.0 at r.1 is (subst (λ (m : ℕ). In m (numbers j.made)) (sym e) k))),
  weight_none f n (rest j) (all_in _ (rest j) (λ x i at is e. let r = in_all (Reads j.h.blobs) x (rest j) (rest_read j) i in not_made j x r.0 at r.1 is (subst (λ (m : ℕ). In m (numbers j.made)) (sym e) k))),
)

abbrev pub Balanced : Job → BlobFile → Type 0
Balanced j b = ((b.meta.garbage.count + less_count j b.meta.number) + count_of b.meta.number (entries_after j) ≡ b.meta.total.count)
    × ((b.meta.garbage.bytes + less_bytes j b.meta.number) + bytes_of b.meta.number (entries_after j) ≡ b.meta.total.bytes)

pub old_balanced : (j : Job) (b : BlobFile) → In b j.h.blobs → Balanced j b
old_balanced j b i = (
  (let exact : b.meta.garbage.count + count_of n (old j) ≡ b.meta.total.count = (in_all (IsFileExact (old j)) b j.h.blobs j.sound.accounts i).count in
      let w1 : count_of n (old j) ≡ weight unit n (old j) = count_is n (old j) in
      let w2 : count_of n (entries_after j) ≡ weight unit n (entries_after j) = count_is n (entries_after j) in
      let w3 : count_of n j.c.ins ≡ weight unit n j.c.ins = count_is n j.c.ins in
      let w4 : count_of n (outs j) ≡ weight unit n (outs j) = count_is n (outs j) in
      let w5 : weight unit n (entries_after j) ≡ weight unit n (outs j) + weight unit n (rest j) = after_weight j unit n in
      let w6 : weight unit n (old j) ≡ weight unit n j.c.ins + weight unit n (rest j) = old_weight j unit n in
      let w7 : weight unit n (outs j) ≤ weight unit n j.c.ins = out_within j unit n (old_not_made j b i) in
      balance b.meta.garbage.count _ _ _ _ _ _ _ _ _ _ exact w1 w2 w3 w4 w5 w6 w7),
  (let exact : b.meta.garbage.bytes + bytes_of n (old j) ≡ b.meta.total.bytes = (in_all (IsFileExact (old j)) b j.h.blobs j.sound.accounts i).bytes in
      let w1 : bytes_of n (old j) ≡ weight size n (old j) = bytes_is n (old j) in
      let w2 : bytes_of n (entries_after j) ≡ weight size n (entries_after j) = bytes_is n (entries_after j) in
      let w3 : bytes_of n j.c.ins ≡ weight size n j.c.ins = bytes_is n j.c.ins in
      let w4 : bytes_of n (outs j) ≡ weight size n (outs j) = bytes_is n (outs j) in
      let w5 : weight size n (entries_after j) ≡ weight size n (outs j) + weight size n (rest j) = after_weight j size n in
      let w6 : weight size n (old j) ≡ weight size n j.c.ins + weight size n (rest j) = old_weight j size n in
      let w7 : weight size n (outs j) ≤ weight size n j.c.ins = out_within j size n (old_not_made j b i) in
      balance b.meta.garbage.bytes _ _ _ _ _ _ _ _ _ _ exact w1 w2 w3 w4 w5 w6 w7),
)
  where
    n : ℕ
    n = b.meta.number

    balance : (g o a i u total wo wa wi wu wr : ℕ) → g + o ≡ total → o ≡ wo → a ≡ wa → i ≡ wi → u ≡ wu → wa ≡ wu + wr → wo ≡ wi + wr → wu ≤ wi → (g + (i - u)) + a ≡ total
    balance g o a i u total wo wa wi wu wr e w1 w2 w3 w4 w5 w6 w7 = omega arith

pub made_balanced : (j : Job) (b : BlobFile) → In b j.made → Balanced j b
made_balanced j b i = (
  (let none : b.meta.garbage.count ≡ 0 = (in_all (λ (x : BlobFile). (x.meta.garbage.count ≡ 0) × (x.meta.garbage.bytes ≡ 0)) b j.made (no_garbage j) i).0 in
      let exact : count_of n (outs j) ≡ b.meta.total.count = in_all (λ (x : BlobFile). count_of x.meta.number (outs j) ≡ x.meta.total.count) b j.made j.c.blobs.count i in
      let w2 : count_of n (entries_after j) ≡ weight unit n (entries_after j) = count_is n (entries_after j) in
      let w3 : count_of n j.c.ins ≡ weight unit n j.c.ins = count_is n j.c.ins in
      let w4 : count_of n (outs j) ≡ weight unit n (outs j) = count_is n (outs j) in
      let w5 : weight unit n (entries_after j) ≡ weight unit n (outs j) + weight unit n (rest j) = after_weight j unit n in
      let zeros = made_none j unit n (in_map (λ (x : BlobFile). x.meta.number) b j.made i) in
      balance b.meta.garbage.count _ _ _ _ _ _ _ _ none exact w2 w3 w4 w5 zeros.0 zeros.1),
  (let none : b.meta.garbage.bytes ≡ 0 = (in_all (λ (x : BlobFile). (x.meta.garbage.count ≡ 0) × (x.meta.garbage.bytes ≡ 0)) b j.made (no_garbage j) i).1 in
      let exact : bytes_of n (outs j) ≡ b.meta.total.bytes = in_all (λ (x : BlobFile). bytes_of x.meta.number (outs j) ≡ x.meta.total.bytes) b j.made j.c.blobs.bytes i in
      let w2 : bytes_of n (entries_after j) ≡ weight size n (entries_after j) = bytes_is n (entries_after j) in
      let w3 : bytes_of n j.c.ins ≡ weight size n j.c.ins = bytes_is n j.c.ins in
      let w4 : bytes_of n (outs j) ≡ weight size n (outs j) = bytes_is n (outs j) in
      let w5 : weight size n (entries_after j) ≡ weight size n (outs j) + weight size n (rest j) = after_weight j size n in
      let zeros = made_none j size n (in_map (λ (x : BlobFile). x.meta.number) b j.made i) in
      balance b.meta.garbage.bytes _ _ _ _ _ _ _ _ none exact w2 w3 w4 w5 zeros.0 zeros.1),
)
  where
    n : ℕ
    n = b.meta.number

    balance : (g a i u total wa wi wu wr : ℕ) → g ≡ 0 → u ≡ total → a ≡ wa → i ≡ wi → u ≡ wu → wa ≡ wu + wr → wi ≡ 0 → wr ≡ 0 → (g + (i - u)) + a ≡ total
    balance g a i u total wa wi wu wr z e w2 w3 w4 w5 w6 w7 = omega arith

pub all_either : (j : Job) (b : BlobFile) → In b (all_files j) → In b j.made ⊎ In b j.h.blobs
all_either j b i = in_append b j.made j.h.blobs (shuffled_in b (back (all_placed_shuffles number_of j.made j.h.blobs)) i)

pub all_balanced : (j : Job) (b : BlobFile) → In b (all_files j) → Balanced j b
all_balanced j b i = by (all_either j b i)
  where
    by : In b j.made ⊎ In b j.h.blobs → Balanced j b
    by (inl k) = made_balanced j b k
    by (inr k) = old_balanced j b k

-- a file with its new accounts, and what it was
abbrev pub counted : Job → BlobFile → BlobFile
counted j b = with_meta (linked_to (metas (after j))) (with_meta (add_all j.e.garbage) b)

pub file_from : (j : Job) (x : BlobFile) → In x (files j) → (b : BlobFile) × In b (all_files j) × (counted j b ≡ x)
file_from j x i =
    let a = of_map (with_meta (linked_to (metas (after j)))) x (map (with_meta (add_all j.e.garbage)) (all_files j)) (subst (In x) (files_are j) i) in
    let c = of_map (with_meta (add_all j.e.garbage)) a.0 (all_files j) a.1 in
    (c.0, c.1, ap (with_meta (linked_to (metas (after j)))) c.2 ∙ a.2)

pub file_to : (j : Job) (b : BlobFile) → In b (all_files j) → In (counted j b) (files j)
file_to j b i =
    subst (In (counted j b)) (sym (files_are j))
    (in_map (with_meta (linked_to (metas (after j)))) (with_meta (add_all j.e.garbage) b) (map (with_meta (add_all j.e.garbage)) (all_files j)) (in_map (with_meta (add_all j.e.garbage)) b (all_files j) i))

counted_exact : (j : Job) (b : BlobFile) → Balanced j b → IsFileExact (entries_after j) (counted j b)
counted_exact j b h =
    let m : BlobMeta = add_all j.e.garbage b.meta in
    let number : m.number ≡ b.meta.number = all_number j.e.garbage b.meta in
    let total = all_total j.e.garbage b.meta in
    let add = adds j b.meta.number in
    record {
      count =
          let g : m.garbage.count ≡ b.meta.garbage.count + extra (λ x. x.count) b.meta.number j.e.garbage = all_count j.e.garbage b.meta in
          let a : extra (λ x. x.count) b.meta.number j.e.garbage ≡ less_count j b.meta.number = add.0 in
          let c : count_of m.number (entries_after j) ≡ count_of b.meta.number (entries_after j) = ap (λ n. count_of n (entries_after j)) number in
          let t : m.total.count ≡ b.meta.total.count = ap (λ x. x.count) total in
          sums m.garbage.count b.meta.garbage.count _ _ _ _ _ _ g a c t h.0;
      bytes =
          let g : m.garbage.bytes ≡ b.meta.garbage.bytes + extra (λ x. x.bytes) b.meta.number j.e.garbage = all_bytes j.e.garbage b.meta in
          let a : extra (λ x. x.bytes) b.meta.number j.e.garbage ≡ less_bytes j b.meta.number = add.1 in
          let c : bytes_of m.number (entries_after j) ≡ bytes_of b.meta.number (entries_after j) = ap (λ n. bytes_of n (entries_after j)) number in
          let t : m.total.bytes ≡ b.meta.total.bytes = ap (λ x. x.bytes) total in
          sums m.garbage.bytes b.meta.garbage.bytes _ _ _ _ _ _ g a c t h.1;
    }
  where
    sums : (g' g x l c' c t' t : ℕ) → g' ≡ g + x → x ≡ l → c' ≡ c → t' ≡ t → (g + l) + c ≡ t → g' + c' ≡ t'
    sums g' g x l c' c t' t p q r s u = omega arith

pub files_exact : (j : Job) → AllByRecursion (IsFileExact (entries_after j)) (files j)
files_exact j = all_in (IsFileExact (entries_after j)) (files j) (λ x i. let f = file_from j x i in subst (IsFileExact (entries_after j)) f.2 (counted_exact j f.0 (all_balanced j f.0 f.1)))

pub files_totalled : (j : Job) → AllByRecursion (λ (b : BlobFile). totals_of b.records ≡ b.meta.total) (files j)
files_totalled j =
    all_in (λ (b : BlobFile). totals_of b.records ≡ b.meta.total) (files j) (λ x i.
    let f = file_from j x i in
    subst (λ (b : BlobFile). totals_of b.records ≡ b.meta.total) f.2 (by f.0 (all_either j f.0 f.1) ∙ sym (all_total j.e.garbage f.0.meta)))
  where
    by : (b : BlobFile) → In b j.made ⊎ In b j.h.blobs → totals_of b.records ≡ b.meta.total
    by b (inl k) = in_all (λ (x : BlobFile). totals_of x.records ≡ x.meta.total) b j.made j.c.blobs.totals k
    by b (inr k) = in_all (λ (x : BlobFile). totals_of x.records ≡ x.meta.total) b j.h.blobs j.sound.totals k
