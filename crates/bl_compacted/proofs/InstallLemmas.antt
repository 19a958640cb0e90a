-- The edit of a compaction is accepted.
use Rattle.std.proofs.Common.{◌≡◌, ◌≢◌, ℕ, ◌+◌, ◌≤◌, nat_lt, Bool, true, false, cond, List, [], ◌∷◌, ◌++◌, length, refl, sym, ◌∙◌, ap, arith, Some, None, inl}
use Rattle.std.specs.Prelude.{◌==◌, ◌&&◌, ◌||◌, not, map, filter, find, Ok}
use Rattle.std.specs.List.{AllByRecursion, list_any}
use Rattle.std.specs.Option.{option_map}
use Rattle.std.proofs.lemmas.Bool.{eqb-true, eq-eqb, le-ltb}
use Rattle.bl_code.specs.Reading.{◌>>=◌}
use Rattle.bl_edit.specs.declared.edit.NewTable.{NewTable}
use Rattle.bl_edit.specs.declared.edit.BlobGarbage.{BlobGarbage}
use Rattle.bl_edit.specs.declared.edit.Edit.{Edit}
use Rattle.bl_build.specs.declared.error.BadVersion.TheVariants.{UnknownTable, Twice, Overlap, UnknownBlob, Overflow}
use Rattle.bl_build.specs.declared.meta.BlobMeta.{BlobMeta}
use Rattle.bl_build.specs.Listing.{all_placed, blob_number, placed, table_rank}
use Rattle.bl_build.specs.Versions as v
use Rattle.bl_entry.specs.declared.key.Entry.{Entry}
use Rattle.bl_index.specs.declared.index.BlobIndex.{BlobIndex}
use Rattle.bl_out.specs.References.{Reference, count_of, index_of, references, references_of}
use Rattle.bl_folder.specs.Holding.{BlobFile}
use Rattle.bl_out.specs.Tables.{TableFile}
use Rattle.bl_compacted.specs.Pairs.{Pairwise}
use Rattle.bl_compacted.specs.Installing.{compacted, file_rank, files_without, from_linked_on, needed_on, number_of, with_garbage_on, with_links_on, with_meta}
use Rattle.bl_folder.specs.Flushes.{blob_metas, metas}
use Rattle.bl_compacted.specs.Outputs.{numbers}
use Rattle.bl_compacted.specs.Compacting.{garbage_in}
use Rattle.bl_compacted.proofs.Lists.{In, all_in, by_test, in_all, in_any, in_filtered, in_map, pairs_across, pairs_front, shuffled_in, in_append_right, to_contains}
use Rattle.bl_compacted.proofs.FileLemmas.{all_placed_shuffles, records_there, refers_there}
use Rattle.bl_compacted.proofs.Jobs.{Job, Reads, add_number, after, all_files, ins_read, left, left_is, outs, stay}
use Rattle.bl_compacted.proofs.AccountLemmas.{Balanced, add_bytes, add_count, add_total, adds, all_balanced, extra}
use Rattle.bl_compacted.proofs.SoundLemmas.{NoClash, both_apart, index_is, no_clash_flip, right_false}
use Rattle.bl_compacted.proofs.ReachLemmas.{of_refs}

-- ---- the same step on the version

map_placed : {A B : Type 0} (f : A → B) (key : B → ℕ) (x : A) (ys : List A) → map f (placed (λ y. key (f y)) x ys) ≡ placed key (f x) (map f ys)
map_placed f key x [] = refl
map_placed {A = A} f key x (y ∷ ys) = by (nat_lt (key (f y)) (key (f x))) (map_placed f key x ys)
  where
    by : (b : Bool) → map f (placed (λ z. key (f z)) x ys) ≡ placed key (f x) (map f ys)
        → map f (cond b (y ∷ placed (λ z. key (f z)) x ys) (x ∷ y ∷ ys)) ≡ cond b (f y ∷ placed key (f x) (map f ys)) (f x ∷ f y ∷ map f ys)
    by true e = ap (λ zs. f y ∷ zs) e
    by false e = refl

map_all_placed : {A B : Type 0} (f : A → B) (key : B → ℕ) (xs ys : List A) → map f (all_placed (λ y. key (f y)) xs ys) ≡ all_placed key (map f xs) (map f ys)
map_all_placed f key [] ys = refl
map_all_placed f key (x ∷ xs) ys = map_all_placed f key xs (placed (λ y. key (f y)) x ys) ∙ ap (all_placed key (map f xs)) (map_placed f key x ys)

map_filter : {A B : Type 0} (f : A → B) (p : B → Bool) (xs : List A) → map f (filter (λ x. p (f x)) xs) ≡ filter p (map f xs)
map_filter f p [] = refl
map_filter {A = A} f p (x ∷ xs) = by (p (f x)) (map_filter f p xs)
  where
    by : (b : Bool) → map f (filter (λ y. p (f y)) xs) ≡ filter p (map f xs) → map f (cond b (x ∷ filter (λ y. p (f y)) xs) (filter (λ y. p (f y)) xs)) ≡ cond b (f x ∷ filter p (map f xs)) (filter p (map f xs))
    by true e = ap (λ zs. f x ∷ zs) e
    by false e = e

tables_step : (e : Edit) (new tables : List TableFile) → metas (all_placed file_rank new (files_without e.deleted tables)) ≡ v.with_tables (metas new) (v.without e.deleted (metas tables))
tables_step e new tables =
    map_all_placed (λ (t : TableFile). t.meta) table_rank new (files_without e.deleted tables)
    ∙ ap (all_placed table_rank (metas new)) (map_filter (λ (t : TableFile). t.meta) (λ t. not (list_any (λ d. v.is_deleted d t) e.deleted)) tables)

meta_map : (f : BlobMeta → BlobMeta) (bs : List BlobFile) → blob_metas (map (with_meta f) bs) ≡ map f (blob_metas bs)
meta_map f [] = refl
meta_map f (b ∷ bs) = ap (λ ms. f b.meta ∷ ms) (meta_map f bs)

garbage_step : (gs : List BlobGarbage) (bs : List BlobFile) → blob_metas (with_garbage_on gs bs) ≡ v.with_garbage gs (blob_metas bs)
garbage_step [] bs = refl
garbage_step (g ∷ gs) bs = garbage_step gs (map (with_meta (v.add_garbage g)) bs) ∙ ap (v.with_garbage gs) (meta_map (v.add_garbage g) bs)

from_step : (bs : List BlobFile) → blob_metas (from_linked_on bs) ≡ v.from_linked (blob_metas bs)
from_step [] = refl
from_step (b ∷ bs) = by (b.meta.linked == 0) (from_step bs)
  where
    by : (t : Bool) → blob_metas (from_linked_on bs) ≡ v.from_linked (blob_metas bs) → blob_metas (cond t (from_linked_on bs) (b ∷ bs)) ≡ cond t (v.from_linked (blob_metas bs)) (b.meta ∷ blob_metas bs)
    by true e = e
    by false e = refl

blobs_step : (e : Edit) (ts : List NewTable) (made blobs : List BlobFile)
    → blob_metas (needed_on (with_links_on ts (with_garbage_on e.garbage (all_placed number_of made blobs))))
    ≡ v.still_needed (v.with_links ts (v.with_garbage e.garbage (all_placed blob_number (blob_metas made) (blob_metas blobs))))
blobs_step e ts made blobs =
    map_filter (λ (b : BlobFile). b.meta) (λ b. not (v.is_spent b)) (from_linked_on (with_links_on ts (with_garbage_on e.garbage (all_placed number_of made blobs))))
    ∙ ap (filter (λ b. not (v.is_spent b)))
    (from_step (with_links_on ts (with_garbage_on e.garbage (all_placed number_of made blobs)))
    ∙ ap v.from_linked
    (meta_map (v.linked_to ts) (with_garbage_on e.garbage (all_placed number_of made blobs))
    ∙ ap (map (v.linked_to ts)) (garbage_step e.garbage (all_placed number_of made blobs) ∙ ap (v.with_garbage e.garbage) (map_all_placed (λ (b : BlobFile). b.meta) blob_number made blobs))))

step_is : (j : Job) → v.after j.h.live.version j.e ≡ (compacted j.e j.new j.made j.h).live.version
step_is j =
    let tables : v.with_tables j.e.added (v.without j.e.deleted j.h.live.version.tables) ≡ metas (after j) =
    ap (λ ts. v.with_tables ts (v.without j.e.deleted j.h.live.version.tables)) j.c.edit.adds ∙ ap (λ ts. v.with_tables (metas j.new) (v.without j.e.deleted ts)) (sym j.held.tables) ∙ sym (tables_step j.e j.new j.h.tables) in
    let placed_is : v.with_blobs j.e.blobs j.h.live.version.blobs ≡ all_placed blob_number (blob_metas j.made) (blob_metas j.h.blobs) =
    (λ i. all_placed blob_number (j.c.edit.additions i) (sym j.held.blobs i)) in
    let blobs : v.still_needed (v.with_links (v.with_tables j.e.added (v.without j.e.deleted j.h.live.version.tables)) (v.with_garbage j.e.garbage (v.with_blobs j.e.blobs j.h.live.version.blobs))) ≡ blob_metas (left j) =
    (λ i. v.still_needed (v.with_links (tables i) (v.with_garbage j.e.garbage (placed_is i)))) ∙ sym (blobs_step j.e (metas (after j)) j.made j.h.blobs) in
    λ i. record { tables = tables i; blobs = blobs i }

-- ---- no refusal

find_nothing : {A : Type 0} (p : A → Bool) (xs : List A) → AllByRecursion (λ x. p x ≡ false) xs → find p xs ≡ None
find_nothing p [] h = refl
find_nothing p (x ∷ xs) h = ap (λ b. cond b (Some x) (find p xs)) h.0 ∙ find_nothing p xs h.1

no_unknown : (j : Job) → v.first_unknown j.h.live.version.tables j.e.deleted ≡ None
no_unknown j =
    ap (option_map (λ d. d.number))
    (find_nothing (λ d. not (list_any (v.is_deleted d) j.h.live.version.tables)) j.e.deleted
    (all_in (λ d. not (list_any (v.is_deleted d) j.h.live.version.tables) ≡ false) j.e.deleted (λ d i. ap not (in_all (λ d. list_any (v.is_deleted d) j.h.live.version.tables ≡ true) d j.e.deleted j.c.edit.known i))))

none_any : (n : ℕ) (ms : List ℕ) → AllByRecursion (λ m. m ≢ n) ms → list_any (λ m. m == n) ms ≡ false
none_any n [] h = refl
none_any n (m ∷ ms) h = ap (λ b. b || list_any (λ k. k == n) ms) (by_test (m == n) (λ t. absurd (h.0 (eqb-true m n t))) (λ t. t)) ∙ none_any n ms h.1

none_twice : (there ns : List ℕ) → AllByRecursion (λ n. AllByRecursion (λ m. m ≢ n) there) ns → Pairwise (λ a b. a ≢ b) ns → v.first_twice there ns ≡ None
none_twice there [] h p = refl
none_twice there (n ∷ ns) h p =
    ap (λ b. cond b (Some n) (v.first_twice (n ∷ there) ns)) (none_any n there h.0)
    ∙ none_twice (n ∷ there) ns (all_in (λ k. AllByRecursion (λ m. m ≢ k) (n ∷ there)) ns (λ k i. (in_all (λ b. n ≢ b) k ns p.0 i, in_all (λ k. AllByRecursion (λ m. m ≢ k) there) k ns h.1 i))) p.1

all_of : {A B : Type 0} (f : A → B) (P : B → Type 0) (xs : List A) → AllByRecursion (λ x. P (f x)) xs → AllByRecursion P (map f xs)
all_of f P [] h = tt
all_of f P (x ∷ xs) h = (h.0, all_of f P xs h.1)

pairs_of : {A B : Type 0} (f : A → B) (R : B → B → Type 0) (xs : List A) → Pairwise (λ a b. R (f a) (f b)) xs → Pairwise R (map f xs)
pairs_of f R [] p = tt
pairs_of f R (x ∷ xs) p = (all_of f (R (f x)) xs p.0, pairs_of f R xs p.1)

map_map : {A B C : Type 0} (f : A → B) (g : B → C) (xs : List A) → map g (map f xs) ≡ map (λ x. g (f x)) xs
map_map f g [] = refl
map_map f g (x ∷ xs) = ap (λ ys. g (f x) ∷ ys) (map_map f g xs)

table_number : TableFile → ℕ
table_number t = t.meta.number

without_is : (j : Job) → v.without j.e.deleted j.h.live.version.tables ≡ metas (stay j)
without_is j =
    ap (v.without j.e.deleted) (sym j.held.tables) ∙ sym (map_filter (λ (t : TableFile). t.meta) (λ t. not (list_any (λ d. v.is_deleted d t) j.e.deleted)) j.h.tables) ∙ ap metas (left_is j)

in_stay : (j : Job) (u : TableFile) → In u (stay j) → In u j.h.tables
in_stay j u i = (in_filtered _ u j.h.tables i).0

tables_new : (j : Job) → v.first_twice (v.table_numbers (v.without j.e.deleted j.h.live.version.tables)) (v.table_numbers j.e.added) ≡ None
unfolding table_number
tables_new j =
    (λ i. v.first_twice (v.table_numbers (without_is j i)) (v.table_numbers (j.c.edit.adds i)))
    ∙ (λ i. v.first_twice (map_map (λ (t : TableFile). t.meta) (λ t. t.number) (stay j) i) (map_map (λ (t : TableFile). t.meta) (λ t. t.number) j.new i))
    ∙ none_twice (map table_number (stay j)) (map table_number j.new)
    (all_of table_number (λ n. AllByRecursion (λ m. m ≢ n) (map table_number (stay j))) j.new
    (all_in (λ t. AllByRecursion (λ m. m ≢ table_number t) (map table_number (stay j))) j.new (λ t i.
    all_of table_number (λ m. m ≢ table_number t) (stay j)
    (all_in (λ u. table_number u ≢ table_number t) (stay j) (λ u k. in_all (λ (u : TableFile). u.meta.number ≢ t.meta.number) u j.h.tables (in_all (λ (t : TableFile). AllByRecursion (λ u. u.meta.number ≢ t.meta.number) j.h.tables) t j.new j.c.outputs.fresh i) (in_stay j u k))))))
    (pairs_of table_number (λ a b. a ≢ b) j.new j.c.outputs.once)

blobs_new : (j : Job) → v.first_twice (v.blob_numbers j.h.live.version.blobs) (v.addition_numbers j.e.blobs) ≡ None
blobs_new j =
    let added : v.addition_numbers j.e.blobs ≡ numbers j.made =
    sym (map_map v.new_blob blob_number j.e.blobs) ∙ ap (map blob_number) j.c.edit.additions ∙ map_map (λ (b : BlobFile). b.meta) blob_number j.made in
    let there : v.blob_numbers j.h.live.version.blobs ≡ numbers j.h.blobs = ap (map blob_number) (sym j.held.blobs) ∙ map_map (λ (b : BlobFile). b.meta) blob_number j.h.blobs in
    (λ i. v.first_twice (there i) (added i))
    ∙ none_twice (numbers j.h.blobs) (numbers j.made)
    (all_of number_of (λ n. AllByRecursion (λ m. m ≢ n) (numbers j.h.blobs)) j.made
    (all_in (λ b. AllByRecursion (λ m. m ≢ number_of b) (numbers j.h.blobs)) j.made (λ b i.
    all_of number_of (λ m. m ≢ number_of b) j.h.blobs (in_all (λ (b : BlobFile). AllByRecursion (λ o. o.meta.number ≢ b.meta.number) j.h.blobs) b j.made j.c.blobs.fresh i))))
    (pairs_of number_of (λ a b. a ≢ b) j.made j.c.blobs.once)

none_clash : (t : NewTable) (there : List NewTable) → AllByRecursion (λ u. v.clash t u ≡ false) there → list_any (v.clash t) there ≡ false
none_clash t [] h = refl
none_clash t (u ∷ us) h = ap (λ b. b || list_any (v.clash t) us) h.0 ∙ none_clash t us h.1

none_overlaps : (there ts : List NewTable) → AllByRecursion (λ t. AllByRecursion (λ u. v.clash t u ≡ false) there) ts → Pairwise (λ a b. v.clash a b ≡ false) ts → v.first_overlap there ts ≡ None
none_overlaps there [] h p = refl
none_overlaps there (t ∷ ts) h p =
    ap (λ b. cond b (Some t.number) (v.first_overlap (t ∷ there) ts)) (none_clash t there h.0)
    ∙ none_overlaps (t ∷ there) ts (all_in (λ u. AllByRecursion (λ w. v.clash u w ≡ false) (t ∷ there)) ts (λ u i. (no_clash_flip t u (in_all (λ b. v.clash t b ≡ false) u ts p.0 i), in_all (λ u. AllByRecursion (λ w. v.clash u w ≡ false) there) u ts h.1 i))) p.1

no_overlap : (j : Job) → v.first_overlap (v.without j.e.deleted j.h.live.version.tables) j.e.added ≡ None
no_overlap j =
    let pairs : Pairwise NoClash (j.new ++ stay j) = both_apart j in
    (λ i. v.first_overlap (without_is j i) (j.c.edit.adds i))
    ∙ none_overlaps (metas (stay j)) (metas j.new)
    (all_of (λ (t : TableFile). t.meta) (λ t. AllByRecursion (λ u. v.clash t u ≡ false) (metas (stay j))) j.new
    (all_in (λ (t : TableFile). AllByRecursion (λ u. v.clash t.meta u ≡ false) (metas (stay j))) j.new (λ t i.
    all_of (λ (u : TableFile). u.meta) (λ u. v.clash t.meta u ≡ false) (stay j) (in_all (λ (t : TableFile). AllByRecursion (NoClash t) (stay j)) t j.new (pairs_across NoClash j.new (stay j) pairs) i))))
    (pairs_of (λ (t : TableFile). t.meta) (λ a b. v.clash a b ≡ false) j.new (pairs_front NoClash j.new (stay j) pairs))

-- ---- garbage of files that are there, within their totals

some_reference : (n : ℕ) (es : List Entry) → 1 ≤ count_of n es → (x : Entry) × (i : BlobIndex) × In x es × (index_of x ≡ Some i) × (i.file ≡ n)
some_reference n es h = by (references_of n es) h (λ r i. i)
  where
    by : (rs : List Reference) → 1 ≤ length rs → ((r : Reference) → In r rs → In r (references_of n es)) → (x : Entry) × (i : BlobIndex) × In x es × (index_of x ≡ Some i) × (i.file ≡ n)
    by [] k to = absurd (omega arith)
    by (r ∷ rs) k to =
        let f = in_filtered (λ (q : Reference). q.index.file == n) r (references es) (to r (inl refl)) in
        let x = of_refs es r f.0 in
        (x.0, r.index, x.1, index_is x.0 r x.2, eqb-true r.index.file n f.1)

metas_all : (j : Job) → v.with_blobs j.e.blobs j.h.live.version.blobs ≡ blob_metas (all_files j)
metas_all j = (λ i. all_placed blob_number (j.c.edit.additions i) (sym j.held.blobs i)) ∙ sym (map_all_placed (λ (b : BlobFile). b.meta) blob_number j.made j.h.blobs)

no_unknown_blob : (j : Job) → v.first_unknown_blob (v.with_blobs j.e.blobs j.h.live.version.blobs) j.e.garbage ≡ None
no_unknown_blob j =
    (λ i. v.first_unknown_blob (metas_all j i) (j.c.edit.garbage i))
    ∙ ap (option_map (λ g. g.number))
    (find_nothing (λ g. not (list_any (λ b. b.number == g.number) (blob_metas (all_files j)))) (map (garbage_in j.c.ins (outs j)) j.c.edit.files)
    (all_of (garbage_in j.c.ins (outs j)) (λ g. not (list_any (λ b. b.number == g.number) (blob_metas (all_files j))) ≡ false) j.c.edit.files
    (all_in (λ n. not (list_any (λ b. b.number == n) (blob_metas (all_files j))) ≡ false) j.c.edit.files (λ n i. ap not (there n (some_reference n j.c.ins ((j.c.edit.named n).0 (to_contains n j.c.edit.files i))))))))
  where
    there : (n : ℕ) → (x : Entry) × (i : BlobIndex) × In x j.c.ins × (index_of x ≡ Some i) × (i.file ≡ n) → list_any (λ b. b.number == n) (blob_metas (all_files j)) ≡ true
    there n (x, i, k, e, is) =
        let r = in_all (Reads j.h.blobs) x j.c.ins (ins_read j) k in
        let t = refers_there j.h.blobs x r.0 i r.1 e in
        let b = records_there i.file j.h.blobs t.0 t.1 in
        in_any (λ (m : BlobMeta). m.number == n) b.0.meta (blob_metas (all_files j))
        (in_map (λ (y : BlobFile). y.meta) b.0 (all_files j) (shuffled_in b.0 (all_placed_shuffles number_of j.made j.h.blobs) (in_append_right b.0 j.made j.h.blobs b.1)))
        (eq-eqb b.0.meta.number n (b.2 ∙ is))

-- with what is still to be added, garbage is within the totals
abbrev Fits : List BlobGarbage → BlobMeta → Type 0
Fits gs m = (m.garbage.count + extra (λ g. g.count) m.number gs ≤ m.total.count) × (m.garbage.bytes + extra (λ g. g.bytes) m.number gs ≤ m.total.bytes)

fits_step : (g : BlobGarbage) (gs : List BlobGarbage) (m : BlobMeta) → Fits (g ∷ gs) m → Fits gs (v.add_garbage g m)
unfolding extra
fits_step g gs m h =
    let c : (v.add_garbage g m).garbage.count ≡ m.garbage.count + cond (m.number == g.number) g.count 0 = add_count g m in
    let b : (v.add_garbage g m).garbage.bytes ≡ m.garbage.bytes + cond (m.number == g.number) g.bytes 0 = add_bytes g m in
    let tc : (v.add_garbage g m).total.count ≡ m.total.count = ap (λ x. x.count) (add_total g m) in
    let tb : (v.add_garbage g m).total.bytes ≡ m.total.bytes = ap (λ x. x.bytes) (add_total g m) in
    let nc : extra (λ x. x.count) (v.add_garbage g m).number gs ≡ extra (λ x. x.count) m.number gs = ap (λ n. extra (λ x. x.count) n gs) (add_number g m) in
    let nb : extra (λ x. x.bytes) (v.add_garbage g m).number gs ≡ extra (λ x. x.bytes) m.number gs = ap (λ n. extra (λ x. x.bytes) n gs) (add_number g m) in
    (within _ _ _ _ _ _ _ c nc tc h.0, within _ _ _ _ _ _ _ b nb tb h.1)
  where
    within : (g' g x k' k t' t : ℕ) → g' ≡ g + x → k' ≡ k → t' ≡ t → g + (x + k) ≤ t → g' + k' ≤ t'
    within g' g x k' k t' t p q r h = omega arith

not_over : (gs : List BlobGarbage) (m : BlobMeta) → Fits gs m → v.is_over m ≡ false
not_over gs m h =
    let c : m.garbage.count ≤ m.total.count = omega (arith, h.0) in
    let b : m.garbage.bytes ≤ m.total.bytes = omega (arith, h.1) in
    λ i. le-ltb m.total.count m.garbage.count c i || le-ltb m.total.bytes m.garbage.bytes b i

none_over_one : (g : BlobGarbage) (ms : List BlobMeta) → AllByRecursion (λ m. v.is_over m ≡ false) ms → list_any (λ b. (b.number == g.number) && v.is_over b) ms ≡ false
none_over_one g [] h = refl
none_over_one g (m ∷ ms) h = ap (λ b. b || list_any (λ c. (c.number == g.number) && v.is_over c) ms) (right_false (m.number == g.number) (v.is_over m) h.0) ∙ none_over_one g ms h.1

none_over : (gs : List BlobGarbage) (ms : List BlobMeta) → AllByRecursion (Fits gs) ms → v.first_over ms gs ≡ None
none_over [] ms h = refl
none_over (g ∷ gs) ms h =
    let next : AllByRecursion (Fits gs) (map (v.add_garbage g) ms) =
    all_of (v.add_garbage g) (Fits gs) ms (all_in (λ m. Fits gs (v.add_garbage g m)) ms (λ m i. fits_step g gs m (in_all (Fits (g ∷ gs)) m ms h i))) in
    ap (λ b. cond b (Some g.number) (v.first_over (map (v.add_garbage g) ms) gs))
    (none_over_one g (map (v.add_garbage g) ms) (all_in (λ m. v.is_over m ≡ false) (map (v.add_garbage g) ms) (λ m i. not_over gs m (in_all (Fits gs) m (map (v.add_garbage g) ms) next i))))
    ∙ none_over gs (map (v.add_garbage g) ms) next

no_over : (j : Job) → v.first_over (v.with_blobs j.e.blobs j.h.live.version.blobs) j.e.garbage ≡ None
no_over j =
    ap (λ ms. v.first_over ms j.e.garbage) (metas_all j)
    ∙ none_over j.e.garbage (blob_metas (all_files j))
    (all_of (λ (b : BlobFile). b.meta) (Fits j.e.garbage) (all_files j) (all_in (λ (b : BlobFile). Fits j.e.garbage b.meta) (all_files j) (λ b i. fits b (all_balanced j b i))))
  where
    below : (g x l c t : ℕ) → x ≡ l → (g + l) + c ≡ t → g + x ≤ t
    below g x l c t p q = omega arith

    fits : (b : BlobFile) → Balanced j b → Fits j.e.garbage b.meta
    fits b h =
        let add = adds j b.meta.number in
        (below b.meta.garbage.count _ _ _ _ add.0 h.0, below b.meta.garbage.bytes _ _ _ _ add.1 h.1)

-- ---- the step

pub edit_applies : (j : Job) → v.apply j.h.live.version j.e ≡ Ok (compacted j.e j.new j.made j.h).live.version
unfolding v.apply
edit_applies j =
    (λ i. do
      _ ← v.refuse UnknownTable (no_unknown j i)
      _ ← v.refuse Twice (tables_new j i)
      _ ← v.refuse Twice (blobs_new j i)
      _ ← v.refuse Overlap (no_overlap j i)
      _ ← v.refuse UnknownBlob (no_unknown_blob j i)
      _ ← v.refuse Overflow (no_over j i)
      Ok (v.after j.h.live.version j.e))
    ∙ ap Ok (step_is j)
