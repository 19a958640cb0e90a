-- A compaction and its parts: which entries there were and are, and what they read as.
use Rattle.std.proofs.Common.{◌≡◌, ◌≢◌, ℕ, ◌+◌, Bool, cond, List, [], ◌∷◌, ◌++◌, refl, sym, ◌∙◌, ap, subst, Some, inl, inr}
use Rattle.std.specs.Prelude.{◌⊎◌, ◌==◌, not, map, filter}
use Rattle.std.specs.List.{AllByRecursion, AllZip, list_any}
use Rattle.bl_edit.specs.declared.edit.BlobGarbage.{BlobGarbage}
use Rattle.bl_edit.specs.declared.edit.Edit.{Edit}
use Rattle.bl_edit.specs.declared.edit.NewTable.{NewTable}
use Rattle.bl_blob.specs.BlobFile.{Record}
use Rattle.bl_build.specs.declared.meta.BlobMeta.{BlobMeta}
use Rattle.bl_build.specs.Listing.{all_placed}
use Rattle.bl_build.specs.Versions.{add_garbage, is_deleted, linked_to}
use Rattle.bl_entry.specs.declared.key.Entry.{Entry}
use Rattle.bl_entry.specs.Kept.{kept}
use Rattle.bl_entry.specs.Revisions.{Map, Revision, revisions_of}
use Rattle.bl_index.specs.declared.index.BlobIndex.{BlobIndex}
use Rattle.bl_out.specs.References.{index_of}
use Rattle.bl_folder.specs.Entries.{records_by}
use Rattle.bl_folder.specs.Holding.{BlobFile, Holding}
use Rattle.bl_out.specs.Tables.{TableFile, table_entries}
use Rattle.bl_entry.specs.Items.{each_of}
use Rattle.bl_out.specs.Values.{put_of, revision_of}
use Rattle.bl_folder.specs.Stands.{IsSound}
use Rattle.bl_compacted.specs.Pairs.{AreDistinct, Pairwise}
use Rattle.bl_compacted.specs.Shuffles.{Shuffled, join}
use Rattle.bl_compacted.specs.Plans.{inputs_of, is_input, staying}
use Rattle.bl_build.specs.declared.plan.CompactionPlan.{CompactionPlan as Plan}
use Rattle.bl_compacted.specs.Installing.{blobs_after, blobs_with, file_rank, files_without, number_of, tables_after, with_garbage_on, with_links_on, with_meta}
use Rattle.bl_folder.specs.Flushes.{metas}
use Rattle.bl_compacted.specs.Outputs.{HandsOn, numbers}
use Rattle.bl_compacted.specs.Compacting.{Compacts, IsHeld}
use Rattle.bl_compacted.proofs.Finding.{some_is, went, Went}
use Rattle.bl_compacted.proofs.Apart.{once_pairs}
use Rattle.bl_compacted.proofs.Lists.{In, all_back, all_front, all_in, back, by_test, each_in, each_pairs, flat_join, in_all, in_append, in_append_left, in_append_right, join_left, of_map, pairs_front, parted, shuffled_all, shuffled_flat, shuffled_in, shuffled_pairs}
use Rattle.bl_compacted.proofs.KeptLemmas.{kept_in}
use Rattle.bl_compacted.proofs.FileLemmas.{all_placed_shuffles, records_at, records_mapped, records_new, records_old, records_there, refers_there, revision_same}

pub record Job : Type 0 where
  pub plan : Plan
  pub h : Holding
  pub found : List Revision
  pub m : Map
  pub new : List TableFile
  pub made : List BlobFile
  pub e : Edit
  pub sound : IsSound h found m
  pub held : IsHeld h
  pub c : Compacts plan h new made e

-- the entries that there were, those of the tables that stay, those that are kept, and those that came out
abbrev pub old : Job → List Entry
old j = table_entries j.h.tables

abbrev pub stay : Job → List TableFile
stay j = staying j.plan j.h.tables

abbrev pub rest : Job → List Entry
rest j = table_entries (stay j)

abbrev pub keeps : Job → List Entry
keeps j = kept j.plan.snapshots j.plan.bottom j.c.ins

abbrev pub outs : Job → List Entry
outs j = table_entries j.new

-- the tables after; all blob files, these with their new accounts, and those that are left
abbrev pub after : Job → List TableFile
after j = tables_after j.e j.new j.h.tables

abbrev pub all_files : Job → List BlobFile
all_files j = all_placed number_of j.made j.h.blobs

abbrev pub files : Job → List BlobFile
files j = blobs_with j.e (metas (after j)) j.made j.h.blobs

abbrev pub left : Job → List BlobFile
left j = blobs_after j.e (metas (after j)) j.made j.h.blobs

abbrev pub entries_after : Job → List Entry
entries_after j = table_entries (after j)

-- ---- what there was

abbrev pub Reads : List BlobFile → Entry → Type 0
Reads blobs e = (r : Revision) × (revision_of (records_by blobs) e ≡ Some r)

pub tables_read : (j : Job) → Went (each_of (revision_of (records_by j.h.blobs)) (old j)) (λ es. Some (es ++ revisions_of j.h.batches)) j.found
tables_read j = went (each_of (revision_of (records_by j.h.blobs)) (old j)) (λ es. Some (es ++ revisions_of j.h.batches)) j.found j.sound.resolve

pub read_parts : (blobs : List BlobFile) (e : Entry) (r : Revision) → revision_of (records_by blobs) e ≡ Some r → (r.key ≡ e.key.user) × (r.seq ≡ e.key.seq)
read_parts blobs e r is =
    let p = went (put_of (records_by blobs) e.key.kind e) (λ put. Some (record { key = e.key.user; seq = e.key.seq; put = put })) r is in
    let q = some_is p.makes in
    (sym (ap (λ (x : Revision). x.key) q), sym (ap (λ (x : Revision). x.seq) q))

pub split_old : (j : Job) → Shuffled (old j) (j.c.ins ++ rest j)
split_old j =
    let halves : Shuffled (old j) (table_entries (inputs_of j.plan j.h.tables ++ stay j)) = shuffled_flat (λ t. t.entries) (parted (λ t. is_input j.plan t.meta) j.h.tables) in
    let apart : Shuffled (old j) (table_entries (inputs_of j.plan j.h.tables) ++ rest j) =
    subst (Shuffled (old j)) (flat_join (λ t. t.entries) (inputs_of j.plan j.h.tables) (stay j)) halves in
    join apart (join_left (rest j) j.c.merged)

pub old_reads : (j : Job) → AllByRecursion (Reads j.h.blobs) (old j)
old_reads j = let t = tables_read j in all_in (Reads j.h.blobs) (old j) (λ x i. let r = each_in (revision_of (records_by j.h.blobs)) x (old j) t.from t.gives i in (r.0, r.2))

both_reads : (j : Job) → AllByRecursion (Reads j.h.blobs) (j.c.ins ++ rest j)
both_reads j = shuffled_all (Reads j.h.blobs) (split_old j) (old_reads j)

pub ins_read : (j : Job) → AllByRecursion (Reads j.h.blobs) j.c.ins
ins_read j = all_front (Reads j.h.blobs) j.c.ins (rest j) (both_reads j)

pub rest_read : (j : Job) → AllByRecursion (Reads j.h.blobs) (rest j)
rest_read j = all_back (Reads j.h.blobs) j.c.ins (rest j) (both_reads j)

pub kept_read : (j : Job) → AllByRecursion (Reads j.h.blobs) (keeps j)
kept_read j = all_in (Reads j.h.blobs) (keeps j) (λ x i. in_all (Reads j.h.blobs) x j.c.ins (ins_read j) (kept_in j.plan.snapshots j.plan.bottom j.c.ins x i))

pub ins_old : (j : Job) (x : Entry) → In x j.c.ins → In x (old j)
ins_old j x i = shuffled_in x (back (split_old j)) (in_append_left x j.c.ins (rest j) i)

pub rest_old : (j : Job) (x : Entry) → In x (rest j) → In x (old j)
rest_old j x i = shuffled_in x (back (split_old j)) (in_append_right x j.c.ins (rest j) i)

pub old_either : (j : Job) (x : Entry) → In x (old j) → In x j.c.ins ⊎ In x (rest j)
old_either j x i = in_append x j.c.ins (rest j) (shuffled_in x (split_old j) i)

-- ---- no two entries have one user key and sequence

abbrev pub Differ : Entry → Entry → Type 0
Differ a b = (a.key.user ≢ b.key.user) ⊎ (a.key.seq ≢ b.key.seq)

pub differ_flip : (a b : Entry) → Differ a b → Differ b a
differ_flip a b (inl n) = inl (λ e. n (sym e))
differ_flip a b (inr n) = inr (λ e. n (sym e))

pub pairs_to : {A : Type 0} (P Q : A → A → Type 0) (xs : List A) → ((x y : A) → In x xs → In y xs → P x y → Q x y) → Pairwise P xs → Pairwise Q xs
pairs_to P Q [] to h = tt
pairs_to P Q (x ∷ xs) to h =
    (all_in (Q x) xs (λ y i. to x y (inl refl) (inr i) (in_all (P x) y xs h.0 i)), pairs_to P Q xs (λ a b i k p. to a b (inr i) (inr k) p) h.1)

pub old_differ : (j : Job) → Pairwise Differ (old j)
old_differ j =
    let t = tables_read j in
    let apart : Pairwise AreDistinct t.from = pairs_front AreDistinct t.from (revisions_of j.h.batches) (subst (Pairwise AreDistinct) (sym (some_is t.makes)) (once_pairs j.found j.sound.once)) in
    pairs_to (λ a b. (y z : Revision) → revision_of (records_by j.h.blobs) a ≡ Some y → revision_of (records_by j.h.blobs) b ≡ Some z → AreDistinct y z) Differ (old j)
    (λ a b i k p. let x = in_all (Reads j.h.blobs) a (old j) (old_reads j) i in let y = in_all (Reads j.h.blobs) b (old j) (old_reads j) k in turned a b x.0 y.0 x.1 y.1 (p x.0 y.0 x.1 y.1))
    (each_pairs (revision_of (records_by j.h.blobs)) AreDistinct (old j) t.from t.gives apart)
  where
    turned : (a b : Entry) (y z : Revision) → revision_of (records_by j.h.blobs) a ≡ Some y → revision_of (records_by j.h.blobs) b ≡ Some z → AreDistinct y z → Differ a b
    turned a b y z p q (inl n) = inl (λ e. n ((read_parts j.h.blobs a y p).0 ∙ e ∙ sym (read_parts j.h.blobs b z q).0))
    turned a b y z p q (inr n) = inr (λ e. n ((read_parts j.h.blobs a y p).1 ∙ e ∙ sym (read_parts j.h.blobs b z q).1))

pub both_differ : (j : Job) → Pairwise Differ (j.c.ins ++ rest j)
both_differ j = shuffled_pairs Differ differ_flip (split_old j) (old_differ j)

pub ins_differ : (j : Job) → Pairwise Differ j.c.ins
ins_differ j = pairs_front Differ j.c.ins (rest j) (both_differ j)

-- ---- the tables that are there after

pub filter_agree : {A : Type 0} (p q : A → Bool) (xs : List A) → AllByRecursion (λ x. p x ≡ q x) xs → filter p xs ≡ filter q xs
filter_agree p q [] h = refl
filter_agree p q (x ∷ xs) h = λ i. cond (h.0 i) (x ∷ filter_agree p q xs h.1 i) (filter_agree p q xs h.1 i)

pub all_map : {A B : Type 0} (f : A → B) (P : B → Type 0) (xs : List A) → AllByRecursion P (map f xs) → AllByRecursion (λ x. P (f x)) xs
all_map f P [] h = tt
all_map f P (x ∷ xs) h = (h.0, all_map f P xs h.1)

pub left_is : (j : Job) → files_without j.e.deleted j.h.tables ≡ stay j
left_is j =
    filter_agree (λ t. not (list_any (λ d. is_deleted d t.meta) j.e.deleted)) (λ t. not (is_input j.plan t.meta)) j.h.tables
    (all_in (λ t. not (list_any (λ d. is_deleted d t.meta) j.e.deleted) ≡ not (is_input j.plan t.meta)) j.h.tables (λ t i. ap not (in_all
    (λ (u : TableFile). list_any (λ d. is_deleted d u.meta) j.e.deleted ≡ is_input j.plan u.meta) t j.h.tables
    (all_map (λ (u : TableFile). u.meta) (λ (u : NewTable). list_any (λ d. is_deleted d u) j.e.deleted ≡ is_input j.plan u) j.h.tables
    (subst (AllByRecursion (λ (u : NewTable). list_any (λ d. is_deleted d u) j.e.deleted ≡ is_input j.plan u)) (sym j.held.tables) j.c.edit.deletes)) i)))

pub tables_shuffled : (j : Job) → Shuffled (j.new ++ stay j) (after j)
tables_shuffled j = subst (λ ts. Shuffled (j.new ++ ts) (all_placed file_rank j.new (files_without j.e.deleted j.h.tables))) (left_is j) (all_placed_shuffles file_rank j.new (files_without j.e.deleted j.h.tables))

pub entries_shuffled : (j : Job) → Shuffled (outs j ++ rest j) (entries_after j)
entries_shuffled j =
    subst (λ es. Shuffled es (entries_after j)) (flat_join (λ t. t.entries) j.new (stay j)) (shuffled_flat (λ t. t.entries) (tables_shuffled j))

pub after_either : (j : Job) (x : Entry) → In x (entries_after j) → In x (outs j) ⊎ In x (rest j)
after_either j x i = in_append x (outs j) (rest j) (shuffled_in x (back (entries_shuffled j)) i)

pub outs_after : (j : Job) (x : Entry) → In x (outs j) → In x (entries_after j)
outs_after j x i = shuffled_in x (entries_shuffled j) (in_append_left x (outs j) (rest j) i)

pub rest_after : (j : Job) (x : Entry) → In x (rest j) → In x (entries_after j)
rest_after j x i = shuffled_in x (entries_shuffled j) (in_append_right x (outs j) (rest j) i)

-- ---- what was kept, and what came out for it

pub zip_right : {A B : Type 0} (R : A → B → Type 0) (xs : List A) (ys : List B) (y : B) → AllZip R xs ys → In y ys → (x : A) × In x xs × R x y
zip_right R [] [] y z i = absurd i
zip_right R [] (v ∷ vs) y z i = absurd z
zip_right R (u ∷ us) [] y z i = absurd z
zip_right {A = A} R (u ∷ us) (v ∷ vs) y z (inl e) = (u, inl refl, subst (R u) e z.0)
zip_right {A = A} R (u ∷ us) (v ∷ vs) y z (inr i) = let r = zip_right R us vs y z.1 i in (r.0, inr r.1, r.2)

pub zip_left : {A B : Type 0} (R : A → B → Type 0) (xs : List A) (ys : List B) (x : A) → AllZip R xs ys → In x xs → (y : B) × In y ys × R x y
zip_left R [] [] x z i = absurd i
zip_left R [] (v ∷ vs) x z i = absurd z
zip_left R (u ∷ us) [] x z i = absurd z
zip_left R (u ∷ us) (v ∷ vs) x z (inl e) = (v, inl refl, subst (λ w. R w v) e z.0)
zip_left R (u ∷ us) (v ∷ vs) x z (inr i) = let r = zip_left R us vs x z.1 i in (r.0, inr r.1, r.2)

abbrev pub Hands : Job → Entry → Entry → Type 0
Hands j = HandsOn j.plan.cutoff j.h.live.standing.options.min_blob_size j.h.blobs j.made

pub out_of : (j : Job) (o : Entry) → In o (outs j) → (k : Entry) × In k (keeps j) × Hands j k o
out_of j o i = zip_right (Hands j) (keeps j) (outs j) o j.c.handed i

pub comes_out : (j : Job) (k : Entry) → In k (keeps j) → (o : Entry) × In o (outs j) × Hands j k o
comes_out j k i = zip_left (Hands j) (keeps j) (outs j) k j.c.handed i

-- ---- old entries refer to old files

pub not_made : (j : Job) (x : Entry) (r : Revision) (i : BlobIndex) → revision_of (records_by j.h.blobs) x ≡ Some r → index_of x ≡ Some i → In i.file (numbers j.made) → ⊥
not_made j x r i reads is there =
    let t = refers_there j.h.blobs x r i reads is in
    let b = records_there i.file j.h.blobs t.0 t.1 in
    let n = of_map (λ (y : BlobFile). y.meta.number) i.file j.made there in
    in_all (λ (y : BlobFile). y.meta.number ≢ n.0.meta.number) b.0 j.h.blobs (in_all (λ (y : BlobFile). AllByRecursion (λ o. o.meta.number ≢ y.meta.number) j.h.blobs) n.0 j.made j.c.blobs.fresh n.1) b.1 (b.2 ∙ sym n.2)

old_file : (j : Job) (n : ℕ) → (In n (numbers j.made) → ⊥) → records_at n (all_files j) ≡ records_at n j.h.blobs
old_file j n fresh = records_old n j.made j.h.blobs (all_in (λ x. x.meta.number ≢ n) j.made (λ x i e. fresh (subst (λ (k : ℕ). In k (numbers j.made)) e (mapped x i))))
  where
    mapped : (x : BlobFile) → In x j.made → In x.meta.number (numbers j.made)
    mapped x i = in_numbers x j.made i
      where
        in_numbers : (x : BlobFile) (xs : List BlobFile) → In x xs → In x.meta.number (numbers xs)
        in_numbers x [] i = absurd i
        in_numbers x (y ∷ ys) (inl e) = inl (ap (λ (z : BlobFile). z.meta.number) e)
        in_numbers x (y ∷ ys) (inr i) = inr (in_numbers x ys i)

-- what an old entry reads as, it reads as over all files
pub old_stays : (j : Job) (x : Entry) (r : Revision) → revision_of (records_by j.h.blobs) x ≡ Some r → revision_of (records_by (all_files j)) x ≡ Some r
old_stays j x r reads = sym (revision_same j.h.blobs (all_files j) x (λ i is. sym (old_file j i.file (not_made j x r i reads is)))) ∙ reads

made_old : (j : Job) (n : ℕ) (rs : List Record) → records_at n j.made ≡ Some rs → records_at n (all_files j) ≡ Some rs
made_old j n rs e =
    let b = records_there n j.made rs e in
    records_new n j.made j.h.blobs j.c.blobs.once
    (all_in (λ y. y.meta.number ≢ n) j.h.blobs (λ y i is. in_all (λ (o : BlobFile). o.meta.number ≢ b.0.meta.number) y j.h.blobs
    (in_all (λ (x : BlobFile). AllByRecursion (λ o. o.meta.number ≢ x.meta.number) j.h.blobs) b.0 j.made j.c.blobs.fresh b.1) i (is ∙ sym b.2))) rs e

-- and what comes out reads as what it came from
pub out_reads : (j : Job) (k o : Entry) (r : Revision) → Hands j k o → revision_of (records_by j.h.blobs) k ≡ Some r → revision_of (records_by (all_files j)) o ≡ Some r
out_reads j k o r (inl w) reads = subst (λ x. revision_of (records_by (all_files j)) x ≡ Some r) (sym w.0) (old_stays j k r reads)
out_reads j k o r (inr w) reads =
    let is : revision_of (records_by j.made) o ≡ Some r = w.value ∙ reads in
    sym (revision_same j.made (all_files j) o (λ i at. let t = refers_there j.made o r i is at in t.1 ∙ sym (made_old j i.file t.0 t.1))) ∙ is

-- what each entry reads as after
pub after_reads : (j : Job) (x : Entry) → In x (entries_after j) → Reads (all_files j) x
after_reads j x i = by (after_either j x i)
  where
    by : In x (outs j) ⊎ In x (rest j) → Reads (all_files j) x
    by (inl k) = let p = out_of j x k in let r = in_all (Reads j.h.blobs) p.0 (keeps j) (kept_read j) p.1 in (r.0, out_reads j p.0 x r.0 p.2 r.1)
    by (inr k) = let r = in_all (Reads j.h.blobs) x (rest j) (rest_read j) k in (r.0, old_stays j x r.0 r.1)

-- ---- accounts

unfoldable pub add_all : List BlobGarbage → BlobMeta → BlobMeta
add_all [] b = b
add_all (g ∷ gs) b = add_all gs (add_garbage g b)

map_same : {A : Type 0} (f : A → A) (xs : List A) → ((x : A) → f x ≡ x) → map f xs ≡ xs
map_same f [] h = refl
map_same f (x ∷ xs) h = λ i. h x i ∷ map_same f xs h i

map_twice : {A B C : Type 0} (f : A → B) (g : B → C) (xs : List A) → map g (map f xs) ≡ map (λ x. g (f x)) xs
map_twice f g [] = refl
map_twice f g (x ∷ xs) = ap (λ ys. g (f x) ∷ ys) (map_twice f g xs)

pub garbage_mapped : (gs : List BlobGarbage) (bs : List BlobFile) → with_garbage_on gs bs ≡ map (with_meta (add_all gs)) bs
unfolding add_all
garbage_mapped [] bs = sym (map_same (with_meta (λ b. b)) bs (λ b. refl))
garbage_mapped (g ∷ gs) bs = garbage_mapped gs (map (with_meta (add_garbage g)) bs) ∙ map_twice (with_meta (add_garbage g)) (with_meta (add_all gs)) bs

pub add_number : (g : BlobGarbage) (b : BlobMeta) → (add_garbage g b).number ≡ b.number
add_number g b = by_test (b.number == g.number) (λ t. ap (λ c. (picked c).number) t) (λ t. ap (λ c. (picked c).number) t)
  where
    picked : Bool → BlobMeta
    picked c = cond c (record b { garbage = record { count = b.garbage.count + g.count; bytes = b.garbage.bytes + g.bytes } }) b

pub all_number : (gs : List BlobGarbage) (b : BlobMeta) → (add_all gs b).number ≡ b.number
unfolding add_all
all_number [] b = refl
all_number (g ∷ gs) b = all_number gs (add_garbage g b) ∙ add_number g b

pub files_are : (j : Job) → files j ≡ map (with_meta (linked_to (metas (after j)))) (map (with_meta (add_all j.e.garbage)) (all_files j))
files_are j = ap (with_links_on (metas (after j))) (garbage_mapped j.e.garbage (all_files j))

pub records_files : (j : Job) (n : ℕ) → records_at n (files j) ≡ records_at n (all_files j)
records_files j n =
    ap (records_at n) (files_are j) ∙ records_mapped (linked_to (metas (after j))) (λ b. refl) n (map (with_meta (add_all j.e.garbage)) (all_files j))
    ∙ records_mapped (add_all j.e.garbage) (all_number j.e.garbage) n (all_files j)
