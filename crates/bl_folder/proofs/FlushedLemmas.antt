-- What a folder holds before and after a flush.
use Rattle.std.proofs.Common.{◌≡◌, ℕ, zero, suc, ◌+◌, ◌≤◌, Bool, true, false, cond, List, [], ◌∷◌, ◌++◌, length, take, drop, refl, sym, ◌∙◌, ap, subst, arith, Option, Some, None, length-drop, length-take}
use Rattle.std.specs.Prelude.{◌==◌, ◌-◌, map, min, sum_by, option_and_then, IfSome, Result, Ok, Err}
use Rattle.std.specs.List.{AllByRecursion}
use Rattle.std.specs.Result.{result_ok}
use Rattle.std.proofs.lemmas.Bool.{eqb-true}
use Rattle.std.proofs.lemmas.List.{drop-take, map-append, take-append-drop}
use Rattle.std.proofs.lemmas.List.Sums.{sum_by-append}
use Rattle.bl_site.specs.Disk.{Folder}
use Rattle.bl_names.specs.declared.name.FileName.TheVariants.{Table, Blob}
use Rattle.bl_entry.specs.declared.decode.BadBatch.{BadBatch}
use Rattle.bl_entry.specs.declared.key.Entry.{Entry}
use Rattle.bl_entry.specs.Batches.{Batch}
use Rattle.bl_entry.specs.Kept.{KeptTellTheSame}
use Rattle.bl_entry.specs.Reading.{read_batch}
use Rattle.bl_entry.specs.Records.{LastIsCounted, and_batch, batch_behind, batches_of}
use Rattle.bl_blob.specs.BlobFile.{IsBlobFile}
use Rattle.bl_blob.specs.Reading.{file_in}
use Rattle.bl_edit.specs.declared.edit.NewTable.{NewTable}
use Rattle.bl_build.specs.declared.meta.BlobMeta.{BlobMeta}
use Rattle.bl_build.specs.Listing.{Listing, all_placed, table_rank}
use Rattle.bl_build.specs.Versions.{after, with_tables}
use Rattle.bl_code.proofs.Basics.{all_from}
use Rattle.bl_entry.proofs.ItemLemmas.{all_of_map, each_cons, some_is}
use Rattle.bl_entry.proofs.ListLemmas.{all_append}
use Rattle.bl_entry.specs.Items.{each_of}
use Rattle.bl_out.proofs.AmongLemmas.{all_unmapped, each_more}
use Rattle.bl_folder.proofs.ApplyLemmas.{map_all_placed}
use Rattle.bl_folder.proofs.FlushLemmas.{all_now, applies, follow_take, keeps_maps, version_is}
use Rattle.bl_out.proofs.StoredLemmas.{IndexIsSpelled}
use Rattle.bl_folder.proofs.OneLemmas.{blob_of, blobs_are, pair_is}
use Rattle.bl_folder.proofs.ReachLemmas.{table_of, tables_are}
use Rattle.bl_out.proofs.WrittenLemmas.{IndexIsRead}
use Rattle.bl_folder.specs.FlushLaws.{FlushedAreThere, FlushesApply, FlushesKeepFiles, FlushesKeepFronts, FlushesKeepMaps, FlushesAreHeld, FlushesStand, FlushesStandFirst, HasBoth, HasHeld, HeldAreWhole}
use Rattle.bl_folder.specs.Flushes.{Follow, IsFlushOf, IsMemoryOf, IsWhole, KeepsMaps, blob_metas, flushed_to, installed, installed_edit, linked_file, metas}
use Rattle.bl_folder.specs.Fronts.{cut_to, last_after}
use Rattle.bl_folder.specs.Holding.{BlobFile, Holding, Holds, IsSpelled, blob_in}
use Rattle.bl_folder.specs.Laws.{LiveIsVersion}
use Rattle.bl_folder.specs.Logs.{log_records}
use Rattle.bl_out.specs.Files.{entries_in, file, of_size}
use Rattle.bl_out.specs.Finding.{◌then◌}
use Rattle.bl_out.specs.Flushes.{Flushed, HasBlob}
use Rattle.bl_out.specs.Tables.{TableFile, table_in}

all_both : {A : Type 0} (P Q R : A → Type 0) (xs : List A) → ((x : A) → P x → Q x → R x) → AllByRecursion P xs → AllByRecursion Q xs → AllByRecursion R xs
all_both P Q R [] f h k = tt
all_both P Q R (x ∷ xs) f h k = (f x h.0 k.0, all_both P Q R xs f h.1 k.1)

-- ---- the batches of records follow each other

follow_first : (last l : ℕ) (b : Batch) (bs : List Batch) (more : Option (List Batch × ℕ)) → b.first ≡ last + 1 → and_batch b more ≡ Some (bs, l)
    → ((cs : List Batch) (k : ℕ) → more ≡ Some (cs, k) → Follow (last + length b.operations) cs) → Follow last bs
follow_first last l b bs None first e rest = absurd cc
follow_first last l b bs (Some x) first e rest = subst (Follow last) (pair_is e).0 (first, rest x.0 x.1 refl)

follow_next : (last l : ℕ) (bs : List Batch) (r : Result Batch BadBatch) (more : Batch → Option (List Batch × ℕ)) → batch_behind last r (λ b. and_batch b (more b)) ≡ Some (bs, l)
    → ((b : Batch) (cs : List Batch) (k : ℕ) → more b ≡ Some (cs, k) → Follow (last + length b.operations) cs) → Follow last bs
follow_next last l bs (Err fault) more e rest = absurd cc
follow_next last l bs (Ok b) more e rest = by (b.first == last + 1) refl e
  where
    by : (t : Bool) → (b.first == last + 1) ≡ t → cond t (and_batch b (more b)) None ≡ Some (bs, l) → Follow last bs
    by true t h = follow_first last l b bs (more b) (eqb-true b.first (last + 1) t) h (rest b)
    by false t h = absurd cc

pub follow_of : (records : List (List ℕ)) (last l : ℕ) (bs : List Batch) → batches_of records last ≡ Some (bs, l) → Follow last bs
unfolding batches_of
follow_of [] last l bs e = subst (Follow last) (pair_is e).0 tt
follow_of (bytes ∷ records) last l bs e = follow_next last l bs (read_batch bytes) (λ b. batches_of records (last + length b.operations)) e (λ b cs k is. follow_of records (last + length b.operations) k cs is)

-- ---- what is held is of the version

pub held_are_whole : LiveIsVersion → LastIsCounted → HeldAreWhole
held_are_whole version counted folder manifest h holds = record {
  version = version folder manifest h.live holds.live;
  tables = tables_are folder manifest h holds;
  blobs = blobs_are folder manifest h holds;
  follow = follow_of (log_records folder h.live.standing.log_number holds.batches.count) h.live.standing.last_sequence h.last h.batches holds.batches.are;
  last = counted (log_records folder h.live.standing.log_number holds.batches.count) h.live.standing.last_sequence h.last h.batches holds.batches.are;
}

-- ---- the flush

pub flushes_apply : IndexIsRead → IndexIsSpelled → FlushesApply
flushes_apply reads spells h count from log next snapshots memory f whole o = applies reads spells h count from log next snapshots memory f whole o

pub flushes_keep_maps : IndexIsRead → IndexIsSpelled → KeptTellTheSame → FlushesKeepMaps
flushes_keep_maps reads spells tell h found m count from log next snapshots memory f whole sound o = keeps_maps reads spells h count from log next snapshots memory f whole o tell found m sound

pub flushes_keep_files : IndexIsRead → IndexIsSpelled → FlushesKeepFiles
flushes_keep_files reads spells h count from log next snapshots memory f whole o =
    let is = version_is reads spells h count from log next snapshots memory f whole o in
    let tables_are = map_all_placed (λ (t : TableFile). t.meta) table_rank f.tables h.tables ∙ ap (all_placed table_rank (metas f.tables)) whole.tables in
    let blobs_are = map-append (λ (b : BlobFile). b.meta) h.blobs (map (linked_file (all_placed table_rank (metas f.tables) h.live.version.tables)) f.blobs) ∙ ap (λ bs. bs ++ blob_metas (map (linked_file (all_placed table_rank (metas f.tables) h.live.version.tables)) f.blobs)) whole.blobs in
    record {
      tables = tables_are ∙ sym (ap (λ (v : Listing). v.tables) is);
      blobs = blobs_are ∙ sym (ap (λ (v : Listing). v.blobs) is);
      kept = (blob_metas (map (linked_file (all_placed table_rank (metas f.tables) h.live.version.tables)) f.blobs), ap (λ (v : Listing). v.blobs) is);
    }

-- ---- fronts

whole_cut : (h : Holding) (count : ℕ) → IsWhole h → IsWhole (cut_to count h)
whole_cut h count w = record { version = w.version; tables = w.tables; blobs = w.blobs; follow = follow_take count h.live.standing.last_sequence h.batches w.follow; last = refl }

take_take : {A : Type 0} (n more : ℕ) (xs : List A) → take n (take (n + more) xs) ≡ take n xs
take_take zero more xs = refl
take_take {A} (suc n) more [] = let e : suc n + more ≡ suc (n + more) = omega arith in ap (λ k. take {A = A} (suc n) (take k [])) e
take_take (suc n) more (x ∷ xs) = let e : suc n + more ≡ suc (n + more) = omega arith in ap (λ k. take (suc n) (take k (x ∷ xs))) e ∙ ap (λ ys. x ∷ ys) (take_take n more xs)

sizes_of : List Batch → ℕ
sizes_of bs = sum_by (λ (b : Batch). length b.operations) bs

take_parts : (n more : ℕ) (xs : List Batch) → take (n + more) xs ≡ take n xs ++ take more (drop n xs)
take_parts n more xs = sym (take-append-drop n (take (n + more) xs)) ∙ (λ i. take_take n more xs i ++ drop-take n more xs i)

-- cutting commutes with the flush
cut_installed : (h : Holding) (count more log next : ℕ) (f : Flushed) → installed (cut_to (count + more) h) count log next f ≡ cut_to more (installed h count log next f)
unfolding sizes_of
cut_installed h count more log next f =
    let first : take count (take (count + more) h.batches) ≡ take count h.batches = take_take count more h.batches in
    let rest : drop count (take (count + more) h.batches) ≡ take more (drop count h.batches) = drop-take count more h.batches in
    let flushed_same : flushed_to count (cut_to (count + more) h) ≡ flushed_to count h = ap (last_after h.live.standing.last_sequence) first in
    let both : sizes_of (take (count + more) h.batches) ≡ sizes_of (take count h.batches) + sizes_of (take more (drop count h.batches)) =
    ap sizes_of (take_parts count more h.batches) ∙ sum_by-append (λ (b : Batch). length b.operations) (take count h.batches) (take more (drop count h.batches)) in
    let last : last_after h.live.standing.last_sequence (take (count + more) h.batches) ≡ last_after (flushed_to count h) (take more (drop count h.batches)) = omega arith in
    λ i. record {
      live = record {
        version = after h.live.version (installed_edit log next (flushed_same i) f);
        standing = record h.live.standing { log_number = log; next_file = next; last_sequence = flushed_same i };
      };
      tables = all_placed (λ t. table_rank t.meta) f.tables h.tables;
      blobs = h.blobs ++ map (linked_file (with_tables (metas f.tables) h.live.version.tables)) f.blobs;
      batches = rest i;
      last = last i;
    }

cut_flush : (h : Holding) (count more from : ℕ) (snapshots : List ℕ) (memory : List Entry) (f : Flushed) → IsFlushOf h count from snapshots memory f → IsFlushOf (cut_to (count + more) h) count from snapshots memory f
cut_flush h count more from snapshots memory f o =
    let long : count ≤ length h.batches = o.within in
    let size : length (take (count + more) h.batches) ≡ min (count + more) (length h.batches) = length-take (count + more) h.batches in
    record {
      within = omega (arith, size, long);
      below = o.below;
      memory_of = subst (λ (bs : List Batch). IsMemoryOf bs memory) (sym (take_take count more h.batches)) o.memory_of;
      flush = o.flush;
    }

pub flushes_keep_fronts : IndexIsRead → IndexIsSpelled → KeptTellTheSame → FlushesKeepFronts
flushes_keep_fronts reads spells tell h found m count from log next more snapshots memory f whole sound o =
    let flushed_same : flushed_to count (cut_to (count + more) h) ≡ flushed_to count h = ap (last_after h.live.standing.last_sequence) (take_take count more h.batches) in
    let k : KeepsMaps snapshots (flushed_to count (cut_to (count + more) h)) found (installed (cut_to (count + more) h) count log next f) m =
    keeps_maps reads spells (cut_to (count + more) h) count from log next snapshots memory f (whole_cut h (count + more) whole) (cut_flush h count more from snapshots memory f o) tell found m sound in
    subst (λ (n : ℕ). KeepsMaps snapshots n found (cut_to more (installed h count log next f)) m) flushed_same
    (subst (λ (g : Holding). KeepsMaps snapshots (flushed_to count (cut_to (count + more) h)) found g m) (cut_installed h count more log next f) k)

-- ---- the folder

table_kept : (old new : Folder) (t : NewTable) → file new (Table t.number) ≡ file old (Table t.number) → table_in new t ≡ table_in old t
table_kept old new t e = ap (λ o. o then of_size t.size then entries_in then λ es. Some (record { meta = t; entries = es })) e

blob_kept : (old new : Folder) (b : BlobMeta) → file new (Blob b.number) ≡ file old (Blob b.number) → blob_in new b ≡ blob_in old b
blob_kept old new b e = ap (λ o. option_and_then (λ rs. Some (record { meta = b; records = rs })) (option_and_then (λ bytes. result_ok (file_in bytes)) o)) e

-- each is what is given of what it was made of
each_back : {A B : Type 0} (f : A → Option B) (g : B → A) (xs : List A) (ys : List B) → ((x : A) (y : B) → f x ≡ Some y → g y ≡ x) → each_of f xs ≡ Some ys → AllByRecursion (λ y. f (g y) ≡ Some y) ys
each_back f g [] ys back e = subst (AllByRecursion (λ y. f (g y) ≡ Some y)) (some_is e) tt
each_back f g (x ∷ xs) ys back e =
    let c = each_cons f x xs ys e in
    subst (AllByRecursion (λ y. f (g y) ≡ Some y)) c.is (ap f (back x c.first c.gives) ∙ c.gives, each_back f g xs c.rest back c.more)

each_given : {A B : Type 0} (f : A → Option B) (g : B → A) (ys : List B) → AllByRecursion (λ y. f (g y) ≡ Some y) ys → each_of f (map g ys) ≡ Some ys
each_given f g [] h = refl
each_given f g (y ∷ ys) h = each_more f (g y) (map g ys) y ys h.0 (each_given f g ys h.1)

module _ (reads : IndexIsRead) (spells : IndexIsSpelled) (old new : Folder) (h : Holding) (count from log next : ℕ) (snapshots : List ℕ) (memory : List Entry) (f : Flushed)
    (whole : IsWhole h) (has : HasHeld old h) (o : IsFlushOf h count from snapshots memory f) (i : HasBoth old new h f) where
  old_tables : AllByRecursion (λ t. table_in new t.meta ≡ Some t) h.tables
  old_tables =
      let same : AllByRecursion (λ (t : TableFile). file new (Table t.meta.number) ≡ file old (Table t.meta.number)) h.tables =
      all_unmapped (λ (t : TableFile). t.meta) (λ (t : NewTable). file new (Table t.number) ≡ file old (Table t.number)) h.tables (subst (AllByRecursion (λ (t : NewTable). file new (Table t.number) ≡ file old (Table t.number))) (sym whole.tables) i.tables) in
      all_both (λ (t : TableFile). file new (Table t.meta.number) ≡ file old (Table t.meta.number)) (λ t. table_in old t.meta ≡ Some t) (λ t. table_in new t.meta ≡ Some t) h.tables (λ t e is. table_kept old new t.meta e ∙ is) same
      (each_back (table_in old) (λ t. t.meta) h.live.version.tables h.tables (table_of old) has.tables)

  same_blobs : AllByRecursion (λ (b : BlobFile). file new (Blob b.meta.number) ≡ file old (Blob b.meta.number)) h.blobs
  same_blobs =
      all_unmapped (λ (b : BlobFile). b.meta) (λ (b : BlobMeta). file new (Blob b.number) ≡ file old (Blob b.number)) h.blobs (subst (AllByRecursion (λ (b : BlobMeta). file new (Blob b.number) ≡ file old (Blob b.number))) (sym whole.blobs) i.blobs)

  old_blobs : AllByRecursion (λ b. blob_in new b.meta ≡ Some b) h.blobs
  old_blobs =
      all_both (λ (b : BlobFile). file new (Blob b.meta.number) ≡ file old (Blob b.meta.number)) (λ b. blob_in old b.meta ≡ Some b) (λ b. blob_in new b.meta ≡ Some b) h.blobs (λ b e is. blob_kept old new b.meta e ∙ is) same_blobs
      (each_back (blob_in old) (λ b. b.meta) h.live.version.blobs h.blobs (blob_of old) has.blobs)

  pub has_after : HasHeld new (installed h count log next f)
  has_after =
      let files = flushes_keep_files reads spells h count from log next snapshots memory f whole o in
      let ts : List NewTable = with_tables (metas f.tables) h.live.version.tables in
      record {
        tables = ap (each_of (table_in new)) (sym files.tables) ∙ each_given (table_in new) (λ t. t.meta) (installed h count log next f).tables (all_now reads spells h count from log next snapshots memory f whole o (λ t. table_in new t.meta ≡ Some t) old_tables i.files.tables);
        blobs = ap (each_of (blob_in new)) (sym files.blobs)
            ∙ each_given (blob_in new) (λ b. b.meta) (installed h count log next f).blobs
            (all_append (λ b. blob_in new b.meta ≡ Some b) h.blobs (map (linked_file ts) f.blobs) old_blobs
            (all_of_map (linked_file ts) (λ b. blob_in new b.meta ≡ Some b) f.blobs (all_from (HasBlob new) (λ b. blob_in new (linked_file ts b).meta ≡ Some (linked_file ts b)) f.blobs (λ b has. ap (option_and_then (λ rs. Some (record { meta = (linked_file ts b).meta; records = rs }))) has.reads) i.files.blobs)));
        spelled = all_append (IsSpelled new) h.blobs (map (linked_file ts) f.blobs)
            (all_both (λ (b : BlobFile). file new (Blob b.meta.number) ≡ file old (Blob b.meta.number)) (IsSpelled old) (IsSpelled new) h.blobs (λ b e spelled. subst (λ o. IfSome o (λ bytes. IsBlobFile bytes b.records)) (sym e) spelled) same_blobs has.spelled)
            (all_of_map (linked_file ts) (IsSpelled new) f.blobs (all_from (HasBlob new) (λ b. IsSpelled new (linked_file ts b)) f.blobs (λ b has. subst (λ o. IfSome o (λ bytes. IsBlobFile bytes b.records)) (sym has.there) has.spelled) i.files.blobs));
      }

pub flushed_are_there : IndexIsRead → IndexIsSpelled → FlushedAreThere
flushed_are_there reads spells old new h count from log next snapshots memory f whole has o both = has_after reads spells old new h count from log next snapshots memory f whole has o both

pub flushes_are_held : IndexIsRead → IndexIsSpelled → LiveIsVersion → LastIsCounted → FlushesAreHeld
flushes_are_held reads spells version counted old new manifest there h count from log next snapshots memory f holds o i =
    let has : HasHeld new (installed h count log next f) = has_after reads spells old new h count from log next snapshots memory f (held_are_whole version counted old manifest h holds)
    (record { tables = holds.tables; blobs = holds.blobs; spelled = holds.spelled }) o (record { tables = i.tables; blobs = i.blobs; files = i.files }) in
    record { live = i.live; tables = has.tables; blobs = has.blobs; spelled = has.spelled; batches = i.batches }

pub flushes_stand : IndexIsRead → IndexIsSpelled → KeptTellTheSame → LiveIsVersion → LastIsCounted → FlushesStand
flushes_stand reads spells tell version counted old new manifest there h found m count from log next snapshots memory f holds sound o i =
    let k = keeps_maps reads spells h count from log next snapshots memory f (held_are_whole version counted old manifest h holds) o tell found m sound in
    record {
      manifest = there;
      holding = installed h count log next f;
      found = k.found_now;
      holds = flushes_are_held reads spells version counted old new manifest there h count from log next snapshots memory f holds o i;
      sound = k.sound;
    }

pub flushes_stand_first : IndexIsRead → IndexIsSpelled → KeptTellTheSame → LiveIsVersion → LastIsCounted → FlushesStandFirst
flushes_stand_first reads spells tell version counted old new manifest there h found m count from log next more snapshots memory f holds long sound o i =
    let k = flushes_keep_fronts reads spells tell h found m count from log next more snapshots memory f (held_are_whole version counted old manifest h holds) sound o in
    let rest : length (drop count h.batches) ≡ length h.batches - count = length-drop count h.batches in
    record {
      manifest = there;
      holding = installed h count log next f;
      found = k.found_now;
      holds = flushes_are_held reads spells version counted old new manifest there h count from log next snapshots memory f holds o i;
      within = omega (arith, rest, long);
      sound = k.sound;
    }
