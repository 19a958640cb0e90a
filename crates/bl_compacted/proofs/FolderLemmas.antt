-- The files of what is held behind a compaction are there, and what is held with the first batches alone.
use Rattle.std.proofs.Common.{◌≡◌, ℕ, ◌<◌, List, [], ◌∷◌, ◌++◌, take, drop, refl, sym, ◌∙◌, ap, subst, arith, Option, Some, inl, inr}
use Rattle.std.specs.Prelude.{◌⊎◌, map, not, IfSome}
use Rattle.std.specs.List.{AllByRecursion}
use Rattle.std.specs.Result.{result_ok}
use Rattle.std.proofs.lemmas.Grind.{flat_map-append}
use Rattle.std.proofs.lemmas.List.{take-append-drop}
use Rattle.bl_site.specs.Disk.{Folder}
use Rattle.bl_names.specs.declared.name.FileName.TheVariants.{Table, Blob}
use Rattle.bl_blob.specs.BlobFile.{IsBlobFile}
use Rattle.bl_blob.specs.Reading.{file_in}
use Rattle.bl_edit.specs.declared.edit.NewTable.{NewTable}
use Rattle.bl_edit.specs.declared.edit.Edit.{Edit}
use Rattle.bl_build.specs.declared.meta.BlobMeta.{BlobMeta}
use Rattle.bl_build.specs.declared.plan.CompactionPlan.{CompactionPlan as Plan}
use Rattle.bl_build.specs.Versions.{is_spent}
use Rattle.bl_entry.specs.Batches.{Batch}
use Rattle.bl_entry.specs.Items.{each_of}
use Rattle.bl_entry.specs.Revisions.{Revision, revisions_from, revisions_of}
use Rattle.bl_out.specs.Files.{file, entries_in, of_size, records_at}
use Rattle.bl_out.specs.Finding.{◌then◌}
use Rattle.bl_out.specs.Tables.{TableFile, table_in}
use Rattle.bl_folder.specs.Flushes.{blob_metas, metas}
use Rattle.bl_folder.specs.Holding.{BlobFile, Holding, IsSpelled, blob_in}
use Rattle.bl_folder.specs.Fronts.{cut_to}
use Rattle.bl_compacted.specs.Installing.{from_linked_on}
use Rattle.bl_compacted.specs.Compacting.{Compacts, IsHeld}
use Rattle.bl_compacted.proofs.Finding.{some_is, went}
use Rattle.bl_compacted.proofs.Lists.{In, all_front, all_in, in_all, in_filtered, of_each}
use Rattle.bl_compacted.proofs.Jobs.{Job, after, all_number, files, left}
use Rattle.bl_compacted.proofs.AccountLemmas.{all_either, counted, file_from}
use Rattle.bl_compacted.proofs.LeftLemmas.{after_all, from_all}
use Rattle.bl_compacted.proofs.HeldLemmas.{blob_meta}

each_to : {A B : Type 0} (f : A → Option B) (g : B → A) (ys : List B) → AllByRecursion (λ y. f (g y) ≡ Some y) ys → each_of f (map g ys) ≡ Some ys
each_to f g [] h = refl
each_to f g (y ∷ ys) h = λ i. h.0 i then λ z. each_to f g ys h.1 i then λ zs. Some (z ∷ zs)

table_meta : (folder : Folder) (t : NewTable) (y : TableFile) → table_in folder t ≡ Some y → y.meta ≡ t
table_meta folder t y e =
    let a = went (file folder (Table t.number) then of_size t.size then entries_in) (λ es. Some (record { meta = t; entries = es })) y e in
    sym (ap (λ (z : TableFile). z.meta) (some_is a.makes))

-- ---- the tables and blob files are there

pub tables_hold : (old new : Folder) (h : Holding) → each_of (table_in old) h.live.version.tables ≡ Some h.tables → AllByRecursion (λ t. file new (Table t.meta.number) ≡ file old (Table t.meta.number)) h.tables
    → AllByRecursion (λ t. table_in new t.meta ≡ Some t) h.tables
tables_hold old new h there stay =
    all_in (λ t. table_in new t.meta ≡ Some t) h.tables (λ t i.
    let o = of_each (table_in old) t h.live.version.tables h.tables there i in
    let meta : t.meta ≡ o.0 = table_meta old o.0 t o.2 in
    let same : file new (Table t.meta.number) ≡ file old (Table t.meta.number) = in_all (λ (u : TableFile). file new (Table u.meta.number) ≡ file old (Table u.meta.number)) t h.tables stay i in
    (λ k. same k then of_size t.meta.size then entries_in then λ es. Some (record { meta = t.meta; entries = es })) ∙ ap (table_in old) meta ∙ o.2)

pub blobs_hold : (old new : Folder) (h : Holding) → each_of (blob_in old) h.live.version.blobs ≡ Some h.blobs → AllByRecursion (λ b. file new (Blob b.meta.number) ≡ file old (Blob b.meta.number)) h.blobs
    → AllByRecursion (λ b. blob_in new b.meta ≡ Some b) h.blobs
blobs_hold old new h there stay =
    all_in (λ b. blob_in new b.meta ≡ Some b) h.blobs (λ b i.
    let o = of_each (blob_in old) b h.live.version.blobs h.blobs there i in
    let meta : b.meta ≡ o.0 = blob_meta old o.0 b o.2 in
    let same : file new (Blob b.meta.number) ≡ file old (Blob b.meta.number) = in_all (λ (u : BlobFile). file new (Blob u.meta.number) ≡ file old (Blob u.meta.number)) b h.blobs stay i in
    (λ k. (same k then λ bytes. result_ok (file_in bytes)) then λ rs. Some (record { meta = b.meta; records = rs })) ∙ ap (blob_in old) meta ∙ o.2)

-- with other accounts a file has the same records
with_account : (folder : Folder) (b : BlobFile) (m : BlobMeta) → m.number ≡ b.meta.number → blob_in folder b.meta ≡ Some b → blob_in folder m ≡ Some (record { meta = m; records = b.records })
with_account folder b m number e =
    let c = went (records_at folder b.meta.number) (λ rs. Some (record { meta = b.meta; records = rs })) b e in
    let records : c.from ≡ b.records = ap (λ (z : BlobFile). z.records) (some_is c.makes) in
    ap (λ n. records_at folder n then λ rs. Some (record { meta = m; records = rs })) number
    ∙ ap (λ o. o then λ rs. Some (record { meta = m; records = rs })) c.gives
    ∙ ap (λ rs. Some (record { meta = m; records = rs })) records

pub after_there : (j : Job) (folder : Folder) → AllByRecursion (λ t. table_in folder t.meta ≡ Some t) j.new → AllByRecursion (λ t. table_in folder t.meta ≡ Some t) j.h.tables → each_of (table_in folder) (metas (after j)) ≡ Some (after j)
after_there j folder h k = each_to (table_in folder) (λ t. t.meta) (after j) (after_all j (λ t. table_in folder t.meta ≡ Some t) h k)

in_from : (x : BlobFile) (bs : List BlobFile) → In x (from_linked_on bs) → In x bs
in_from x bs i = in_all (λ y. In y bs) x (from_linked_on bs) (from_all (λ y. In y bs) bs (all_in (λ y. In y bs) bs (λ y k. k))) i

pub left_there : (j : Job) (folder : Folder) → AllByRecursion (λ b. blob_in folder b.meta ≡ Some b) j.made → AllByRecursion (λ b. blob_in folder b.meta ≡ Some b) j.h.blobs → each_of (blob_in folder) (blob_metas (left j)) ≡ Some (left j)
left_there j folder h k =
    each_to (blob_in folder) (λ b. b.meta) (left j)
    (all_in (λ b. blob_in folder b.meta ≡ Some b) (left j) (λ x i.
    let f = file_from j x (in_from x (files j) (in_filtered (λ (b : BlobFile). not (is_spent b.meta)) x (from_linked_on (files j)) i).0) in
    subst (λ (b : BlobFile). blob_in folder b.meta ≡ Some b) f.2 (with_account folder f.0 (counted j f.0).meta (all_number j.e.garbage f.0.meta) (by f.0 (all_either j f.0 f.1)))))
  where
    by : (b : BlobFile) → In b j.made ⊎ In b j.h.blobs → blob_in folder b.meta ≡ Some b
    by b (inl at) = in_all (λ (c : BlobFile). blob_in folder c.meta ≡ Some c) b j.made h at
    by b (inr at) = in_all (λ (c : BlobFile). blob_in folder c.meta ≡ Some c) b j.h.blobs k at

-- each is spelled as the grammar of blob files says
pub left_spelled : (j : Job) (folder : Folder) → AllByRecursion (IsSpelled folder) j.made → AllByRecursion (IsSpelled folder) j.h.blobs → AllByRecursion (IsSpelled folder) (left j)
left_spelled j folder h k =
    all_in (IsSpelled folder) (left j) (λ x i.
    let f = file_from j x (in_from x (files j) (in_filtered (λ (b : BlobFile). not (is_spent b.meta)) x (from_linked_on (files j)) i).0) in
    subst (IsSpelled folder) f.2 (subst (λ (n : ℕ). IfSome (file folder (Blob n)) (λ bytes. IsBlobFile bytes f.0.records)) (sym (all_number j.e.garbage f.0.meta)) (by f.0 (all_either j f.0 f.1))))
  where
    by : (b : BlobFile) → In b j.made ⊎ In b j.h.blobs → IsSpelled folder b
    by b (inl at) = in_all (IsSpelled folder) b j.made h at
    by b (inr at) = in_all (IsSpelled folder) b j.h.blobs k at

-- ---- with the first batches alone

revisions_split : (count : ℕ) (batches : List Batch) → revisions_of batches ≡ revisions_of (take count batches) ++ revisions_of (drop count batches)
revisions_split count batches = ap revisions_of (sym (take-append-drop count batches)) ∙ flat_map-append (λ (b : Batch). revisions_from b.first b.operations) (take count batches) (drop count batches)

pub held_cut : (count : ℕ) (h : Holding) → IsHeld h → IsHeld (cut_to count h)
held_cut count h held = record {
  tables = held.tables;
  blobs = held.blobs;
  version = held.version;
  ranged = held.ranged;
  ahead = all_front (λ r. h.live.standing.last_sequence < r.seq) (revisions_of (take count h.batches)) (revisions_of (drop count h.batches))
      (subst (AllByRecursion (λ (r : Revision). h.live.standing.last_sequence < r.seq)) (revisions_split count h.batches) held.ahead);
  last = omega arith;
}

pub compacts_cut : (count : ℕ) (plan : Plan) (h : Holding) (new : List TableFile) (made : List BlobFile) (e : Edit) → Compacts plan h new made e → Compacts plan (cut_to count h) new made e
compacts_cut count plan h new made e c = record {
  closed = c.closed;
  ins = c.ins;
  merged = c.merged;
  ascend = c.ascend;
  handed = c.handed;
  outputs = c.outputs;
  named = c.named;
  blobs = c.blobs;
  edit = record {
    deletes = c.edit.deletes;
    known = c.edit.known;
    adds = c.edit.adds;
    additions = c.edit.additions;
    files = c.edit.files;
    ascend = c.edit.ascend;
    named = c.edit.named;
    garbage = c.edit.garbage;
  };
}
