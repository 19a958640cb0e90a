-- A flush keeps what a holding stands for.
use Rattle.std.proofs.Common.{◌≡◌, ◌≢◌, ℕ, zero, suc, ◌+◌, ◌<◌, ◌≤◌, ◌^◌, Bool, true, false, cond, List, [], ◌∷◌, ◌++◌, length, take, drop, refl, sym, ◌∙◌, ap, subst, arith, inl, inr, Some, append-nil, length-append}
use Rattle.std.specs.Prelude.{◌⊎◌, ◌==◌, ◌&&◌, not, map, option_and_then, unwrap_or, count_by, sum, sum_by, IsTrue, Ok}
use Rattle.std.specs.List.{AllByRecursion, IsDistinct}
use Rattle.std.specs.List.Sorted.{IsStrictlySortedBy}
use Rattle.std.specs.Ordering.{nat_cmp}
use Rattle.std.specs.declared.cmp.Ordering.TheVariants.{Less}
use Rattle.std.proofs.lemmas.Bool.{eq-eqb, and_left, and_right, false≢true}
use Rattle.std.proofs.lemmas.List.{map-append}
use Rattle.std.proofs.lemmas.List.Sums.{sum_by-append, sum_by-cons, sum_by-take-drop}
use Rattle.bl_entry.specs.declared.key.Entry.{Entry}
use Rattle.bl_entry.specs.Batches.{Batch}
use Rattle.bl_entry.specs.Entries.{IsProper}
use Rattle.bl_entry.specs.Kept.{KeptTellTheSame, is_newest, kept}
use Rattle.bl_entry.specs.Revisions.{Map, Revision, revisions_of, value_at}
use Rattle.bl_code.proofs.Basics.{all_from, nat_cmp_less}
use Rattle.bl_entry.proofs.ItemLemmas.{Went, all_of_map, some_is, went}
use Rattle.bl_entry.proofs.ListLemmas.{all_append}
use Rattle.bl_entry.proofs.OrderLemmas.{ascending_in_order}
use Rattle.bl_folder.proofs.FrontLemmas.{revisions_split}
use Rattle.bl_entry.specs.Items.{each_of}
use Rattle.bl_entry.specs.Latest.{revision_of}
use Rattle.bl_out.proofs.AmongLemmas.{Among, Mapped, Split, all_at, all_by, all_left, all_right, all_unmapped, among_left, among_map, among_mapped, among_parts, among_right, distinct_cross, distinct_filter, distinct_join, distinct_left, distinct_one, distinct_right, each_join, each_split, from_among, to_among}
use Rattle.bl_folder.proofs.ApplyLemmas.{AreBelow, IsKept, Placing, all_last, all_links_stay, all_needed, new_links, no_clash, no_overlap, none_twice, not_spent, placing, plain_after, plain_applies}
use Rattle.bl_folder.proofs.MemoryLemmas.{same_two, all_two, following, greatest_is_kept, kept_is_part, two_mapped}
use Rattle.bl_folder.proofs.MoveLemmas.{all_flat, before, bytes_three, count_three, entries_join, greatest_under, named_there, now, of_one, once_now, references_three, references_two, revisions_more, under_greatest, value_now}
use Rattle.bl_folder.proofs.RecordLemmas.{all_apart, at_file, by_file, bytes_in, count_in, least_is, none_of, not_eqb, number, other_file, one_file, references_found, references_in, references_more, references_to, sizes}
use Rattle.bl_out.proofs.StoredLemmas.{IndexIsSpelled, InFile, in_file, new_number, number_is, stored_are}
use Rattle.bl_out.proofs.WrittenLemmas.{IndexIsRead, IsPlain, IsStored, Resolves, written_placed, written_proper, written_references, written_revisions, written_seqs}
use Rattle.bl_folder.specs.Entries.{entries_of, records_by}
use Rattle.bl_folder.specs.Flushes.{Follow, IsFlushOf, IsKeptAt, IsWhole, KeepsMaps, blob_metas, edit_for, flushed_to, installed, linked_file, metas}
use Rattle.bl_folder.specs.Fronts.{last_after}
use Rattle.bl_folder.specs.Holding.{BlobFile, Holding}
use Rattle.bl_folder.specs.Stands.{IsFileExact, IsSound}
use Rattle.bl_out.specs.Flushes.{Flushed, IsNewBlob, IsNewTable, NewBlob, stored}
use Rattle.bl_out.specs.References.{Reference, bytes_of, count_of, references}
use Rattle.bl_out.specs.Tables.{IsAsNamed, IsNewerAbove, IsPlaced, IsTablePlaced, IsTableProper, TableFile, least_of, oldest_of, same_record, table_entries}
use Rattle.bl_out.specs.Values.{revision_of as revision_in, same_revision}
use Rattle.bl_out.specs.Written.{Stored}
use Rattle.bl_blob.specs.declared.blob.Totals.{Totals}
use Rattle.bl_blob.specs.BlobFile.{blobs_of, totals_of}
use Rattle.bl_edit.specs.declared.edit.BlobAddition.{BlobAddition}
use Rattle.bl_edit.specs.declared.edit.NewTable.{NewTable}
use Rattle.bl_edit.specs.Bounds.{is_number}
use Rattle.bl_build.specs.declared.meta.BlobMeta.{BlobMeta}
use Rattle.bl_build.specs.Listing.{Ascends, Listing, all_placed, blob_number, table_rank}
use Rattle.bl_build.specs.Versions.{addition_numbers, after, apply, blob_numbers, clash, linked_to, new_blob, overlap, still_needed, table_numbers, with_blobs, with_links, with_tables}

-- ---- numbers that ascend

pub ascends_one : {A : Type 0} (key : A → ℕ) (xs : List A) → length xs ≤ 1 → Ascends key xs
ascends_one key [] h = tt
ascends_one key (x ∷ []) h = (tt, tt)
ascends_one key (x ∷ y ∷ xs) h = absurd (omega arith)

pub ascends_map : {A B : Type 0} (g : A → B) (key : B → ℕ) (xs : List A) → Ascends (λ x. key (g x)) xs → Ascends key (map g xs)
ascends_map g key [] h = tt
ascends_map g key (x ∷ xs) h = (all_of_map g (λ y. key (g x) < key y) xs h.0, ascends_map g key xs h.1)

length_map : {A B : Type 0} (f : A → B) (xs : List A) → length (map f xs) ≡ length xs
length_map f [] = refl
length_map f (x ∷ xs) = ap suc (length_map f xs)

-- the numbers of new blob files ascend
ascends_of : (bs : List NewBlob) → IsStrictlySortedBy nat_cmp (map (λ b. b.named.number) bs) → Ascends new_number bs
unfolding IsStrictlySortedBy
ascends_of [] h = tt
ascends_of (b ∷ bs) h = (below bs h.0, ascends_of bs h.1)
  where
    below : (cs : List NewBlob) → AllByRecursion (λ k. nat_cmp (new_number b) k ≡ Less) (map (λ c. c.named.number) cs) → AllByRecursion (λ c. new_number b < new_number c) cs
    below [] k = tt
    below (c ∷ cs) k = (nat_cmp_less (new_number b) (new_number c) k.0, below cs k.1)

-- the first new_number of some files, or 0
pub first_number : List NewBlob → ℕ
first_number [] = 0
first_number (b ∷ bs) = new_number b

first_among : {A : Type 0} (xs ys : List A) (x : A) (zs : List A) → 1 ≤ length xs → xs ++ ys ≡ x ∷ zs → Among x xs
first_among [] ys x zs some e = absurd (omega arith)
first_among (y ∷ xs) ys x zs some e = let is : y ≡ x = cc in inl is

pub oldest_is : (from : ℕ) (bs : List NewBlob) (es : List Entry) → AllByRecursion (IsNewBlob from) bs → Ascends new_number bs → references es ≡ references_to bs → oldest_of es ≡ first_number bs
unfolding first_number
oldest_is from [] es new up e = ap (λ rs. unwrap_or (least_of (map (λ (r : Reference). r.index.file) rs)) 0) e
oldest_is from (b ∷ bs) es new up e =
    let more : references_to (b ∷ bs) ≡ references_in b ++ references_to bs = references_more b bs in
    let count : length (references_in b) ≡ length b.records = count_in b in
    let long : length (references_in b ++ references_to bs) ≡ length (references_in b) + length (references_to bs) = length-append (references_in b) (references_to bs) in
    let same : length (references_to (b ∷ bs)) ≡ length (references_in b ++ references_to bs) = ap length more in
    let some : 1 ≤ length b.records = new.0.some in
    ap (λ rs. unwrap_or (least_of (map (λ (r : Reference). r.index.file) rs)) 0) e
    ∙ least_is (new_number b) (references_to (b ∷ bs)) (omega arith) (by_file (λ n. new_number b ≤ n) (b ∷ bs) (omega arith, all_from (λ c. new_number b < new_number c) (λ c. new_number b ≤ new_number c) bs (λ c lt. omega arith) up.0))
    (λ r qs is. all_at (λ (x : Reference). x.index.file ≡ new_number b) (references_in b) r (one_file (new_number b) (blobs_of b.records)) (first_among (references_in b) (references_to bs) r qs (omega arith) (sym more ∙ is)))

first_cases : (from : ℕ) (bs : List NewBlob) → AllByRecursion (IsNewBlob from) bs → (first_number bs ≡ 0) ⊎ (from ≤ first_number bs)
unfolding first_number
first_cases from [] new = inl refl
first_cases from (b ∷ bs) new = inr new.0.number

-- the only table has all references
only_table : (ts : List TableFile) (rs : List Reference) → length ts ≤ 1 → references (table_entries ts) ≡ rs → AllByRecursion (λ t. references t.entries ≡ rs) ts
only_table [] rs one e = tt
only_table (t ∷ []) rs one e = (ap references (sym (append-nil t.entries)) ∙ e, tt)
only_table (t ∷ u ∷ ts) rs one e = absurd (omega arith)

some_table : (ts : List TableFile) (rs : List Reference) → references (table_entries ts) ≡ rs → 1 ≤ length rs → 1 ≤ length ts
some_table [] rs e some = let none : 0 ≡ length rs = ap length e in absurd (omega arith)
some_table (t ∷ ts) rs e some = omega arith

some_references : (from : ℕ) (b : NewBlob) (bs : List NewBlob) → AllByRecursion (IsNewBlob from) (b ∷ bs) → 1 ≤ length (references_to (b ∷ bs))
some_references from b bs new =
    let same : length (references_to (b ∷ bs)) ≡ length (references_in b ++ references_to bs) = ap length (references_more b bs) in
    let count : length (references_in b) ≡ length b.records = count_in b in
    let long : length (references_in b ++ references_to bs) ≡ length (references_in b) + length (references_to bs) = length-append (references_in b) (references_to bs) in
    let some : 1 ≤ length b.records = new.0.some in
    omega arith

count_all : (n : ℕ) (ts : List NewTable) → AllByRecursion (λ t. t.oldest_blob ≡ n) ts → count_by (λ t. t.oldest_blob == n) ts ≡ length ts
count_all n [] h = refl
count_all n (t ∷ ts) h =
    sum_by-cons (λ (u : NewTable). cond (u.oldest_blob == n) 1 0) t ts
    ∙ ap (λ b. cond b 1 0 + count_by (λ u. u.oldest_blob == n) ts) (eq-eqb t.oldest_blob n h.0) ∙ ap (λ k. 1 + k) (count_all n ts h.1) ∙ one_more (length ts)
  where
    one_more : (k : ℕ) → 1 + k ≡ suc k
    one_more k = omega arith

some_linked : (n : ℕ) (ts us : List NewTable) → Placing table_rank ts us → AllByRecursion (λ t. t.oldest_blob ≡ n) ts → 1 ≤ length ts → 1 ≤ count_by (λ t. t.oldest_blob == n) (with_tables ts us)
some_linked n ts us p all some =
    let f : NewTable → ℕ = λ t. cond (t.oldest_blob == n) 1 0 in
    let here : count_by (λ t. t.oldest_blob == n) ts ≡ length ts = count_all n ts all in
    let a : sum_by f (with_tables ts us) ≡ sum_by f (p.front ++ (ts ++ p.back)) = ap (λ l. sum_by f l) p.placed_is in
    let b : sum_by f (p.front ++ (ts ++ p.back)) ≡ sum_by f p.front + sum_by f (ts ++ p.back) = sum_by-append f p.front (ts ++ p.back) in
    let c : sum_by f (ts ++ p.back) ≡ sum_by f ts + sum_by f p.back = sum_by-append f ts p.back in
    bound (sum_by f (with_tables ts us)) (sum_by f (p.front ++ (ts ++ p.back))) (sum_by f p.front) (sum_by f (ts ++ p.back)) (sum_by f ts) (sum_by f p.back) (length ts) a b c here some
  where
    bound : (x y z w u v l : ℕ) → x ≡ y → y ≡ z + w → w ≡ u + v → u ≡ l → 1 ≤ l → 1 ≤ x
    bound x y z w u v l a b c d e = omega arith

new_first : (tops : List NewTable) (fs : List NewBlob) → ((x : NewBlob) (xs : List NewBlob) → fs ≡ x ∷ xs → 1 ≤ count_by (λ t. t.oldest_blob == new_number x) tops) → (b : BlobMeta) (bs : List BlobMeta) → blob_metas (map (linked_file tops) fs) ≡ b ∷ bs
    → (b.linked == 0) ≡ false
new_first tops [] some b bs e = absurd cc
new_first tops (x ∷ xs) some b bs e =
    let is : linked_to tops (new_blob x.named) ≡ b = cc in
    let links : count_by (λ t. t.oldest_blob == new_number x) tops ≡ b.linked = ap (λ (m : BlobMeta). m.linked) is in
    let least : 1 ≤ count_by (λ t. t.oldest_blob == new_number x) tops = some x xs refl in
    not_eqb b.linked 0 (λ z. omega (arith, z, links, least))

new_kept : (from : ℕ) (tops : List NewTable) (fs : List NewBlob) → AllByRecursion (IsNewBlob from) fs → AllByRecursion IsKept (blob_metas (map (linked_file tops) fs))
new_kept from tops [] new = tt
new_kept from tops (x ∷ xs) new =
    let totals : length x.records ≡ x.named.count = ap (λ (t : Totals). t.count) new.0.totals in
    let some : 1 ≤ length x.records = new.0.some in
    (not_spent (linked_to tops (new_blob x.named)) refl (omega arith), new_kept from tops xs new.1)

add_nothing : (n : ℕ) → n + 0 ≡ n
add_nothing n = omega arith

nothing_added : (n : ℕ) → 0 + (0 + n) ≡ n
nothing_added n = omega arith

pub follow_take : (count before : ℕ) (bs : List Batch) → Follow before bs → Follow before (take count bs)
follow_take zero before bs h = tt
follow_take (suc count) before [] h = tt
follow_take (suc count) before (b ∷ bs) h = (h.0, follow_take count (before + length b.operations) bs h.1)

no_clash_below : (t u : NewTable) → u.level ≡ 0 → clash t u ≡ false
no_clash_below t u e = by (t.level == 0) refl
  where
    by : (b : Bool) → (t.level == 0) ≡ b → clash t u ≡ false
    by true z = ap (λ c. not c && (u.level == t.level) && overlap t u) z
    by false z =
        ap (λ c. not (t.level == 0) && c && overlap t u) (not_eqb u.level t.level (λ same. false≢true (sym z ∙ eq-eqb t.level 0 (sym same ∙ e)))) ∙ and_left _ (overlap t u) (and_right (not (t.level == 0)) false refl)

-- ---- the flush

module _ (reads : IndexIsRead) (spells : IndexIsSpelled) (h : Holding) (count from log next : ℕ) (snapshots : List ℕ) (memory : List Entry) (f : Flushed) (whole : IsWhole h) (o : IsFlushOf h count from snapshots memory f) where
  abbrev pub tops : List NewTable
  tops = with_tables (metas f.tables) h.live.version.tables

  abbrev pub news : List BlobFile
  news = map (linked_file tops) f.blobs

  abbrev named : NewBlob → BlobAddition
  named b = b.named

  up : Ascends new_number f.blobs
  up = ascends_of f.blobs o.flush.ascend

  abbrev keeps : List Entry
  keeps = kept snapshots false memory

  abbrev threshold : ℕ
  threshold = h.live.standing.options.min_blob_size

  kept_all : (P : Entry → Type 0) → AllByRecursion P memory → AllByRecursion P keeps
  kept_all P all = all_by P keeps (λ e there. all_at P memory e all (kept_is_part snapshots memory e there))

  old_below : AllByRecursion (λ b. number b < from) h.blobs
  old_below = all_unmapped (λ (b : BlobFile). b.meta) (λ (m : BlobMeta). m.number < from) h.blobs (subst (AllByRecursion (λ (m : BlobMeta). m.number < from)) (sym whole.blobs) o.below.blobs)

  new_from : AllByRecursion (λ b. from ≤ new_number b) f.blobs
  new_from = all_from (IsNewBlob from) (λ b. from ≤ new_number b) f.blobs (λ b new. new.number) o.flush.blobs

  above : AllByRecursion (λ x. AllByRecursion (λ b. number x < new_number b) f.blobs) h.blobs
  above = all_from (λ x. number x < from) (λ x. AllByRecursion (λ b. number x < new_number b) f.blobs) h.blobs (λ x lt. all_from (λ b. from ≤ new_number b) (λ b. number x < new_number b) f.blobs (λ b le. omega arith) new_from) old_below

  stored_all : AllByRecursion IsStored (stored f.blobs)
  stored_all = stored_are reads spells from f.blobs o.flush.blobs

  resolves_one : (s : Stored) → InFile f.blobs s → Resolves (records_by (h.blobs ++ news)) s
  resolves_one s i = subst (Resolves (records_by (h.blobs ++ news))) i.is (at_file (linked_file tops) (λ b. refl) (λ b. refl) h.blobs f.blobs up above i.file i.there i.at i.inside)

  resolves_all : AllByRecursion (Resolves (records_by (h.blobs ++ news))) (stored f.blobs)
  resolves_all = all_by (Resolves (records_by (h.blobs ++ news))) (stored f.blobs) (λ s there. resolves_one s (in_file f.blobs s there))

  new_references : references (table_entries f.tables) ≡ references_to f.blobs
  new_references = written_references threshold (stored f.blobs) keeps (table_entries f.tables) o.flush.writes (kept_all IsPlain o.memory_of.plain) stored_all

  oldest : AllByRecursion (λ t. t.oldest_blob ≡ first_number f.blobs) (metas f.tables)
  oldest =
      all_of_map (λ (t : TableFile). t.meta) (λ t. t.oldest_blob ≡ first_number f.blobs) f.tables
      (all_by (λ t. t.meta.oldest_blob ≡ first_number f.blobs) f.tables (λ t there.
      sym (all_at (IsNewTable from) f.tables t o.flush.tables there).named.oldest
      ∙ oldest_is from f.blobs t.entries o.flush.blobs up (all_at (λ u. references u.entries ≡ references_to f.blobs) f.tables t (only_table f.tables (references_to f.blobs) o.flush.one new_references) there)))

  one_meta : length (metas f.tables) ≤ 1
  one_meta = let same : length (metas f.tables) ≡ length f.tables = length_map (λ (t : TableFile). t.meta) f.tables in let one : length f.tables ≤ 1 = o.flush.one in omega arith

  table_place : Placing table_rank (metas f.tables) h.live.version.tables
  table_place = placing table_rank (metas f.tables) h.live.version.tables one_meta

  others_linked : AllByRecursion (λ b. AllByRecursion (λ t. t.oldest_blob ≢ b.number) (metas f.tables)) h.live.version.blobs
  others_linked =
      all_by (λ b. AllByRecursion (λ t. t.oldest_blob ≢ b.number) (metas f.tables)) h.live.version.blobs (λ b there.
      let low : b.number < from = all_at (λ (m : BlobMeta). m.number < from) h.live.version.blobs b o.below.blobs there in
      let fits : (1 ≤ b.number) × (b.number < 10 ^ 15) = number_is b.number (all_at (λ (m : BlobMeta). IsTrue (is_number m.number)) h.live.version.blobs b whole.version.blobs_fit there) in
      let some : 1 ≤ b.number = fits.0 in
      all_from (λ t. t.oldest_blob ≡ first_number f.blobs) (λ t. t.oldest_blob ≢ b.number) (metas f.tables) (λ t is same. elim (first_cases from f.blobs o.flush.blobs) [
        | inl z ↦ omega (arith, z, is, same, some)
        | inr le ↦ omega (arith, le, is, same, low)
      ]) oldest)

  new_linked : (x : NewBlob) (xs : List NewBlob) → f.blobs ≡ x ∷ xs → 1 ≤ count_by (λ t. t.oldest_blob == new_number x) tops
  unfolding first_number
  new_linked x xs is =
      let many : 1 ≤ length (references_to f.blobs) = subst (λ (bs : List NewBlob). 1 ≤ length (references_to bs)) (sym is) (some_references from x xs (subst (AllByRecursion (IsNewBlob from)) is o.flush.blobs)) in
      let some : 1 ≤ length f.tables = some_table f.tables (references_to f.blobs) new_references many in
      let same : length (metas f.tables) ≡ length f.tables = length_map (λ (t : TableFile). t.meta) f.tables in
      some_linked (new_number x) (metas f.tables) h.live.version.tables table_place (subst (λ (bs : List NewBlob). AllByRecursion (λ t. t.oldest_blob ≡ first_number bs) (metas f.tables)) is oldest) (omega arith)

  additions_up : Ascends (λ n. n) (addition_numbers (map named f.blobs))
  additions_up = ascends_map (λ (a : BlobAddition). a.number) (λ n. n) (map named f.blobs) (ascends_map named (λ a. a.number) f.blobs up)

  blobs_after : with_links tops (with_blobs (map named f.blobs) h.live.version.blobs) ≡ h.live.version.blobs ++ blob_metas news
  blobs_after =
      ap (with_links tops)
      (all_last blob_number (map new_blob (map named f.blobs)) h.live.version.blobs
      (ascends_map new_blob blob_number (map named f.blobs) (ascends_map named (λ a. a.number) f.blobs up))
      (all_of_map new_blob (AreBelow blob_number h.live.version.blobs) (map named f.blobs)
      (all_of_map named (λ a. AllByRecursion (λ y. blob_number y < a.number) h.live.version.blobs) f.blobs
      (all_from (λ b. from ≤ new_number b) (λ b. AllByRecursion (λ y. blob_number y < new_number b) h.live.version.blobs) f.blobs (λ b le. all_from (λ (m : BlobMeta). m.number < from) (λ y. blob_number y < new_number b) h.live.version.blobs (λ y lt. omega arith) o.below.blobs) new_from))))
      ∙ map-append (linked_to tops) h.live.version.blobs (map new_blob (map named f.blobs))
      ∙ (λ i. all_links_stay (metas f.tables) h.live.version.tables table_place h.live.version.blobs others_linked whole.version.linked i ++ new_links tops f.blobs i)

  pub version_is : after h.live.version (edit_for h count log next f) ≡ record { tables = tops; blobs = h.live.version.blobs ++ blob_metas news }
  version_is =
      plain_after h.live.version (edit_for h count log next f) refl refl
      ∙ ap (λ bs. record { tables = tops; blobs = bs })
      (ap still_needed blobs_after ∙ all_needed h.live.version.blobs (blob_metas news) whole.version.needed (new_kept from tops f.blobs o.flush.blobs) (new_first tops f.blobs new_linked))

  pub applies : apply h.live.version (edit_for h count log next f) ≡ Ok (after h.live.version (edit_for h count log next f))
  applies =
      plain_applies h.live.version (edit_for h count log next f) refl refl
      (none_twice (table_numbers h.live.version.tables) (table_numbers (metas f.tables))
      (ascends_map (λ (t : NewTable). t.number) (λ n. n) (metas f.tables) (ascends_one (λ (t : NewTable). t.number) (metas f.tables) one_meta))
      (all_of_map (λ (t : NewTable). t.number) (λ n. AllByRecursion (λ m. m < n) (table_numbers h.live.version.tables)) (metas f.tables)
      (all_of_map (λ (t : TableFile). t.meta) (λ (t : NewTable). AllByRecursion (λ m. m < t.number) (table_numbers h.live.version.tables)) f.tables
      (all_from (IsNewTable from) (λ t. AllByRecursion (λ m. m < t.meta.number) (table_numbers h.live.version.tables)) f.tables (λ t new.
      let le : from ≤ t.meta.number = new.number in
      all_of_map (λ (u : NewTable). u.number) (λ m. m < t.meta.number) h.live.version.tables (all_from (λ (u : NewTable). u.number < from) (λ u. u.number < t.meta.number) h.live.version.tables (λ u lt. omega arith) o.below.tables)) o.flush.tables))))
      (none_twice (blob_numbers h.live.version.blobs) (addition_numbers (map named f.blobs)) additions_up
      (all_of_map (λ (a : BlobAddition). a.number) (λ n. AllByRecursion (λ m. m < n) (blob_numbers h.live.version.blobs)) (map named f.blobs)
      (all_of_map named (λ a. AllByRecursion (λ m. m < a.number) (blob_numbers h.live.version.blobs)) f.blobs
      (all_from (λ b. from ≤ new_number b) (λ b. AllByRecursion (λ m. m < new_number b) (blob_numbers h.live.version.blobs)) f.blobs (λ b le.
      all_of_map blob_number (λ m. m < new_number b) h.live.version.blobs (all_from (λ (m : BlobMeta). m.number < from) (λ m. blob_number m < new_number b) h.live.version.blobs (λ m lt. omega arith) o.below.blobs)) new_from))))
      (no_overlap h.live.version.tables (metas f.tables) (all_of_map (λ (t : TableFile). t.meta) (λ (t : NewTable). t.level ≡ 0) f.tables (all_from (IsNewTable from) (λ t. t.meta.level ≡ 0) f.tables (λ t new. new.level) o.flush.tables)))

  -- ---- the tables that are held then, and their entries

  abbrev pub file_rank : TableFile → ℕ
  file_rank t = table_rank t.meta

  files_place : Placing file_rank f.tables h.tables
  files_place = placing file_rank f.tables h.tables o.flush.one

  abbrev pub tables_now : List TableFile
  tables_now = all_placed file_rank f.tables h.tables

  pub all_now : (P : TableFile → Type 0) → AllByRecursion P h.tables → AllByRecursion P f.tables → AllByRecursion P tables_now
  all_now P olds new =
      let both : AllByRecursion P (files_place.front ++ files_place.back) = subst (AllByRecursion P) files_place.is olds in
      subst (AllByRecursion P) (sym files_place.placed_is)
      (all_append P files_place.front (f.tables ++ files_place.back) (all_left P files_place.front files_place.back both) (all_append P f.tables files_place.back new (all_right P files_place.front files_place.back both)))

  abbrev ea : List Entry
  ea = table_entries files_place.front

  abbrev eb : List Entry
  eb = table_entries files_place.back

  abbrev et : List Entry
  et = table_entries f.tables

  entries_old : table_entries h.tables ≡ ea ++ eb
  entries_old = ap table_entries files_place.is ∙ entries_join files_place.front files_place.back

  entries_now : table_entries tables_now ≡ ea ++ (et ++ eb)
  entries_now = ap table_entries files_place.placed_is ∙ entries_join files_place.front (f.tables ++ files_place.back) ∙ ap (λ es. ea ++ es) (entries_join f.tables files_place.back)

  -- ---- sequences

  abbrev last_old : ℕ
  last_old = h.live.standing.last_sequence

  abbrev IsFresh : ℕ → Type 0
  IsFresh n = (last_old < n) × (n ≤ flushed_to count h)

  flushed_seqs : AllByRecursion (λ r. IsFresh r.seq) (revisions_of (take count h.batches))
  flushed_seqs = following last_old (take count h.batches) (follow_take count last_old h.batches whole.follow)

  memory_there : (x : Entry) → Among x memory → Among (revision_of x) (revisions_of (take count h.batches))
  memory_there x there = to_among _ (revision_of x) ((o.memory_of.same (revision_of x)).0 (from_among (map revision_of memory) (revision_of x) (among_map revision_of memory x there)))

  memory_seqs : AllByRecursion (λ e. IsFresh e.key.seq) memory
  memory_seqs = all_by (λ e. IsFresh e.key.seq) memory (λ e there. all_at (λ (r : Revision). IsFresh r.seq) (revisions_of (take count h.batches)) (revision_of e) flushed_seqs (memory_there e there))

  written_fresh : AllByRecursion (λ e. IsFresh e.key.seq) et
  written_fresh = written_seqs IsFresh threshold (stored f.blobs) keeps et o.flush.writes (kept_all (λ e. IsFresh e.key.seq) memory_seqs)

  -- ---- references

  refs_old : references (table_entries h.tables) ≡ references ea ++ references eb
  refs_old = ap references entries_old ∙ references_two ea eb

  refs_now : references (table_entries tables_now) ≡ references ea ++ (references et ++ references eb)
  refs_now = ap references entries_now ∙ references_three ea et eb

  new_files : AllByRecursion (λ r. from ≤ r.index.file) (references et)
  new_files = subst (AllByRecursion (λ (r : Reference). from ≤ r.index.file)) (sym new_references) (by_file (λ n. from ≤ n) f.blobs new_from)

  new_apart : IsDistinct same_record (references et)
  new_apart = subst (IsDistinct same_record) (sym new_references) (all_apart f.blobs up)

  count_now : (n : ℕ) → count_of n (table_entries tables_now) ≡ count_of n (table_entries h.tables) + length (of_one n (references et))
  count_now n =
      ap (λ rs. length (of_one n rs)) refs_now ∙ count_three n (references ea) (references et) (references eb)
      ∙ ap (λ rs. length (of_one n rs) + length (of_one n (references et))) (sym refs_old)

  bytes_now : (n : ℕ) → bytes_of n (table_entries tables_now) ≡ bytes_of n (table_entries h.tables) + sum (sizes (of_one n (references et)))
  bytes_now n =
      ap (λ rs. sum (sizes (of_one n rs))) refs_now ∙ bytes_three n (references ea) (references et) (references eb)
      ∙ ap (λ rs. sum (sizes (of_one n rs)) + sum (sizes (of_one n (references et)))) (sym refs_old)

  old_exact : (b : BlobFile) → number b < from → IsFileExact (table_entries h.tables) b → IsFileExact (table_entries tables_now) b
  old_exact b low exact =
      let none : of_one (number b) (references et) ≡ [] = none_of (number b) (references et) (all_from (λ (r : Reference). from ≤ r.index.file) (λ r. r.index.file ≢ number b) (references et) (λ r le e. omega (arith, le, e, low)) new_files) in
      let a : count_of (number b) (table_entries tables_now) ≡ count_of (number b) (table_entries h.tables) + 0 = count_now (number b) ∙ ap (λ rs. count_of (number b) (table_entries h.tables) + length rs) none in
      let c : bytes_of (number b) (table_entries tables_now) ≡ bytes_of (number b) (table_entries h.tables) + 0 = bytes_now (number b) ∙ ap (λ rs. bytes_of (number b) (table_entries h.tables) + sum (sizes rs)) none in
      record {
        count = ap (λ n. b.meta.garbage.count + n) (a ∙ add_nothing (count_of (number b) (table_entries h.tables))) ∙ exact.count;
        bytes = ap (λ n. b.meta.garbage.bytes + n) (c ∙ add_nothing (bytes_of (number b) (table_entries h.tables))) ∙ exact.bytes;
      }

  new_exact : AllByRecursion (λ r. r.index.file < from) (references (table_entries h.tables)) → (b : NewBlob) → Among b f.blobs → IsFileExact (table_entries tables_now) (linked_file tops b)
  new_exact old_files b there =
      let le : from ≤ new_number b = all_at (λ c. from ≤ new_number c) f.blobs b new_from there in
      let new : IsNewBlob from b = all_at (IsNewBlob from) f.blobs b o.flush.blobs there in
      let none : of_one (new_number b) (references (table_entries h.tables)) ≡ [] = none_of (new_number b) (references (table_entries h.tables)) (all_from (λ (r : Reference). r.index.file < from) (λ r. r.index.file ≢ new_number b) (references (table_entries h.tables)) (λ r lt e. omega (arith, lt, e, le)) old_files) in
      let all : of_one (new_number b) (references et) ≡ references_in b = ap (of_one (new_number b)) new_references ∙ references_found f.blobs b up there in
      record {
        count = ap (λ n. 0 + n) (count_now (new_number b) ∙ (λ i. length (none i) + length (all i))) ∙ nothing_added (length (references_in b)) ∙ count_in b ∙ ap (λ (t : Totals). t.count) new.totals;
        bytes = ap (λ n. 0 + n) (bytes_now (new_number b) ∙ (λ i. sum (sizes (none i)) + sum (sizes (all i)))) ∙ nothing_added (sum (sizes (references_in b))) ∙ bytes_in b ∙ ap (λ (t : Totals). t.bytes) new.totals;
      }

  -- ---- levels

  new_level : AllByRecursion (λ t. t.level ≡ 0) (metas f.tables)
  new_level = all_of_map (λ (t : TableFile). t.meta) (λ (t : NewTable). t.level ≡ 0) f.tables (all_from (IsNewTable from) (λ t. t.meta.level ≡ 0) f.tables (λ t new. new.level) o.flush.tables)

  distinct_now : IsDistinct clash tops
  distinct_now =
      let olds : IsDistinct clash (table_place.front ++ table_place.back) = subst (IsDistinct clash) table_place.is whole.version.tables_apart in
      subst (IsDistinct clash) (sym table_place.placed_is)
      (distinct_join clash table_place.front (metas f.tables ++ table_place.back) (distinct_left clash table_place.front table_place.back olds)
      (distinct_join clash (metas f.tables) table_place.back (distinct_one clash (metas f.tables) one_meta) (distinct_right clash table_place.front table_place.back olds) (λ t u a b. no_clash t u (all_at (λ (x : NewTable). x.level ≡ 0) (metas f.tables) t new_level a)))
      (λ t u a b. elim (among_parts (metas f.tables) table_place.back u b) [
        | inl new ↦ no_clash_below t u (all_at (λ (x : NewTable). x.level ≡ 0) (metas f.tables) u new_level new)
        | inr old ↦ distinct_cross clash table_place.front table_place.back olds t u a old
      ]))

  all_tops : (P : NewTable → Type 0) → AllByRecursion P h.live.version.tables → AllByRecursion P (metas f.tables) → AllByRecursion P tops
  all_tops P olds new =
      let both : AllByRecursion P (table_place.front ++ table_place.back) = subst (AllByRecursion P) table_place.is olds in
      subst (AllByRecursion P) (sym table_place.placed_is)
      (all_append P table_place.front (metas f.tables ++ table_place.back) (all_left P table_place.front table_place.back both) (all_append P (metas f.tables) table_place.back new (all_right P table_place.front table_place.back both)))

  behind_now : AllByRecursion (λ t. t.most_seq ≤ last_old) h.live.version.tables → AllByRecursion (λ t. t.most_seq ≤ flushed_to count h) tops
  behind_now olds =
      all_tops (λ t. t.most_seq ≤ flushed_to count h) (all_from (λ (t : NewTable). t.most_seq ≤ last_old) (λ t. t.most_seq ≤ flushed_to count h) h.live.version.tables (λ t le. omega arith) olds)
      (all_of_map (λ (t : TableFile). t.meta) (λ (t : NewTable). t.most_seq ≤ flushed_to count h) f.tables
      (all_by (λ t. t.meta.most_seq ≤ flushed_to count h) f.tables (λ t there.
      greatest_under (flushed_to count h) (map (λ e. e.key.seq) t.entries) t.meta.most_seq (all_at (IsNewTable from) f.tables t o.flush.tables there).named.most
      (all_of_map (λ (e : Entry). e.key.seq) (λ n. n ≤ flushed_to count h) t.entries
      (all_from (λ (e : Entry). IsFresh e.key.seq) (λ e. e.key.seq ≤ flushed_to count h) t.entries (λ e fresh. fresh.1) (all_at (λ (u : TableFile). AllByRecursion (λ e. IsFresh e.key.seq) u.entries) f.tables t (all_flat (λ e. IsFresh e.key.seq) f.tables written_fresh) there))))))

  among_now : (t : TableFile) → Among t tables_now → Among t h.tables ⊎ Among t f.tables
  among_now t there = elim (among_parts files_place.front (f.tables ++ files_place.back) t (subst (Among t) files_place.placed_is there)) [
    | inl a ↦ inl (subst (Among t) (sym files_place.is) (among_left files_place.front files_place.back t a))
    | inr a ↦ elim (among_parts f.tables files_place.back t a) [
      | inl b ↦ inr b
      | inr b ↦ inl (subst (Among t) (sym files_place.is) (among_right files_place.front files_place.back t b))
    ]
  ]

  -- a new table is above an old one
  module _ (named : AllByRecursion IsAsNamed h.tables) (behind : AllByRecursion (λ t. t.most_seq ≤ last_old) h.live.version.tables) where
    old_seqs : (b : TableFile) → Among b h.tables → AllByRecursion (λ y. y.key.seq ≤ last_old) b.entries
    old_seqs b there =
        let most : b.meta.most_seq ≤ last_old = all_at (λ (t : NewTable). t.most_seq ≤ last_old) h.live.version.tables b.meta behind (subst (Among b.meta) whole.tables (among_map (λ (t : TableFile). t.meta) h.tables b there)) in
        all_from (λ (y : Entry). y.key.seq ≤ b.meta.most_seq) (λ y. y.key.seq ≤ last_old) b.entries (λ y le. omega arith)
        (all_unmapped (λ (y : Entry). y.key.seq) (λ n. n ≤ b.meta.most_seq) b.entries (under_greatest (map (λ e. e.key.seq) b.entries) b.meta.most_seq (all_at IsAsNamed h.tables b named there).most))

    newer_one : (a b : TableFile) → Among a f.tables → Among b h.tables → IsNewerAbove a b
    newer_one a b new old above_ =
        all_from (λ (x : Entry). IsFresh x.key.seq) (λ x. AllByRecursion (λ y. x.key.user ≡ y.key.user → y.key.seq < x.key.seq) b.entries) a.entries
        (λ x fresh. let lt : last_old < x.key.seq = fresh.0 in all_from (λ (y : Entry). y.key.seq ≤ last_old) (λ y. x.key.user ≡ y.key.user → y.key.seq < x.key.seq) b.entries (λ y le same. omega arith) (old_seqs b old))
        (all_at (λ (u : TableFile). AllByRecursion (λ e. IsFresh e.key.seq) u.entries) f.tables a (all_flat (λ e. IsFresh e.key.seq) f.tables written_fresh) new)

    newer_now : AllByRecursion (λ a. AllByRecursion (IsNewerAbove a) h.tables) h.tables → AllByRecursion (λ a. AllByRecursion (IsNewerAbove a) tables_now) tables_now
    newer_now olds =
        all_by (λ a. AllByRecursion (IsNewerAbove a) tables_now) tables_now (λ a there. all_by (IsNewerAbove a) tables_now (λ b inside. elim (among_now b inside) [
          | inr new ↦ λ less. let level : b.meta.level ≡ 0 = (all_at (IsNewTable from) f.tables b o.flush.tables new).level in absurd (omega (arith, less, level))
          | inl old ↦ elim (among_now a there) [
            | inr new ↦ newer_one a b new old
            | inl other ↦ all_at (IsNewerAbove a) h.tables b (all_at (λ c. AllByRecursion (IsNewerAbove c) h.tables) h.tables a olds other) old
          ]
        ]))

  -- ---- what is found then

  module _ (tell : KeptTellTheSame) (found : List Revision) (m : Map) (s : IsSound h found m) where
    tables_found : Went (each_of (revision_in (records_by h.blobs)) (table_entries h.tables)) (λ es. Some (es ++ revisions_of h.batches)) found
    tables_found = went (each_of (revision_in (records_by h.blobs)) (table_entries h.tables)) (λ es. Some (es ++ revisions_of h.batches)) found s.resolve

    parts : Split (revision_in (records_by h.blobs)) ea eb tables_found.from
    parts = each_split (revision_in (records_by h.blobs)) ea eb tables_found.from (ap (each_of (revision_in (records_by h.blobs))) (sym entries_old) ∙ tables_found.gives)

    abbrev rk : List Revision
    rk = revisions_of (take count h.batches)

    abbrev rr : List Revision
    rr = revisions_of (drop count h.batches)

    abbrev rt : List Revision
    rt = map revision_of keeps

    found_is : before parts.front parts.back rk rr ≡ found
    found_is = ap (λ rs. (parts.front ++ parts.back) ++ rs) (sym (revisions_split count h.batches)) ∙ ap (λ rs. rs ++ revisions_of h.batches) parts.is ∙ some_is tables_found.makes

    distinct : IsDistinct same_revision (before parts.front parts.back rk rr)
    distinct = subst (IsDistinct same_revision) (sym found_is) s.once

    rk_distinct : IsDistinct same_revision rk
    rk_distinct = distinct_left same_revision rk rr (distinct_right same_revision (parts.front ++ parts.back) (rk ++ rr) distinct)

    part : (r : Revision) → Among r rt → Among r rk
    part r there = part_of r (among_mapped revision_of keeps r there)
      where
        part_of : (q : Revision) → Mapped revision_of keeps q → Among q (revisions_of (take count h.batches))
        part_of q e = subst (λ (x : Revision). Among x (revisions_of (take count h.batches))) e.is (memory_there e.from (kept_is_part snapshots memory e.from e.there))

    rt_distinct : IsDistinct same_revision rt
    rt_distinct =
        two_mapped keeps
        (distinct_filter same_two (λ x. is_newest snapshots memory x && true) memory
        (all_two rk rk_distinct memory o.memory_of.ascending o.memory_of.plain (all_by (λ e. Among (revision_of e) rk) memory memory_there)))

    abbrev found_now : List Revision
    found_now = now parts.front parts.back rt rr

    once_after : IsDistinct same_revision found_now
    once_after = once_now parts.front parts.back rk rr rt distinct part rt_distinct

    resolve_after : entries_of (installed h count log next f) ≡ Some found_now
    resolve_after =
        ap (λ es. option_and_then (λ rs. Some (rs ++ rr)) (each_of (revision_in (records_by (h.blobs ++ news))) es)) entries_now
        ∙ ap (option_and_then (λ rs. Some (rs ++ rr)))
        (each_join (revision_in (records_by (h.blobs ++ news))) ea (et ++ eb) parts.front (rt ++ parts.back) (revisions_more h.blobs news ea parts.front parts.fronts)
        (each_join (revision_in (records_by (h.blobs ++ news))) et eb rt parts.back (written_revisions threshold (records_by (h.blobs ++ news)) (stored f.blobs) keeps et o.flush.writes (kept_all IsPlain o.memory_of.plain) stored_all resolves_all)
        (revisions_more h.blobs news eb parts.back parts.backs)))

    moved : (q : ℕ) (key : List ℕ) → IsKeptAt snapshots (flushed_to count h) q → (r : Revision) → Among r rk → r.key ≡ key → r.seq ≤ q → ((x : Revision) → Among x rk → x.key ≡ key → x.seq ≤ q → x.seq ≤ r.seq) → Among r rt
    moved q key at r there is le most =
        greatest_is_kept tell snapshots (flushed_to count h) q at rk rk_distinct memory (ascending_in_order memory o.memory_of.ascending)
        (all_from (λ (e : Entry). IsFresh e.key.seq) (λ e. e.key.seq ≤ flushed_to count h) memory (λ e fresh. fresh.1) memory_seqs)
        (λ x inside. to_among rk x ((o.memory_of.same x).0 (from_among (map revision_of memory) x inside))) key r (to_among (map revision_of memory) r ((o.memory_of.same r).1 (from_among rk r there))) is le most

    same_values : (q : ℕ) (key : List ℕ) → IsKeptAt snapshots (flushed_to count h) q → value_at found_now q key ≡ value_at found q key
    same_values q key at = value_now parts.front parts.back rk rr rt distinct part q key (moved q key at) ∙ ap (λ rs. value_at rs q key) found_is

    apart_after : IsDistinct same_record (references (table_entries tables_now))
    apart_after =
        let olds : IsDistinct same_record (references ea ++ references eb) = subst (IsDistinct same_record) refs_old s.apart in
        let files : AllByRecursion (λ r. r.index.file < from) (references ea ++ references eb) = subst (AllByRecursion (λ (r : Reference). r.index.file < from)) refs_old (named_there (λ n. n < from) h.blobs old_below (table_entries h.tables) tables_found.from tables_found.gives) in
        subst (IsDistinct same_record) (sym refs_now)
        (distinct_join same_record (references ea) (references et ++ references eb) (distinct_left same_record (references ea) (references eb) olds)
        (distinct_join same_record (references et) (references eb) new_apart (distinct_right same_record (references ea) (references eb) olds) (λ x y a b.
        let high : from ≤ x.index.file = all_at (λ (r : Reference). from ≤ r.index.file) (references et) x new_files a in
        let low : y.index.file < from = all_at (λ (r : Reference). r.index.file < from) (references ea ++ references eb) y files (among_right (references ea) (references eb) y b) in
        other_file x y (λ e. omega (arith, e, high, low))))
        (λ x y a b. elim (among_parts (references et) (references eb) y b) [
          | inl new ↦
              let high : from ≤ y.index.file = all_at (λ (r : Reference). from ≤ r.index.file) (references et) y new_files new in
              let low : x.index.file < from = all_at (λ (r : Reference). r.index.file < from) (references ea ++ references eb) x files (among_left (references ea) (references eb) x a) in
              other_file x y (λ e. omega (arith, e, high, low))
          | inr old ↦ distinct_cross same_record (references ea) (references eb) olds x y a old
        ]))

    accounts_after : AllByRecursion (IsFileExact (table_entries tables_now)) (h.blobs ++ news)
    accounts_after =
        all_append (IsFileExact (table_entries tables_now)) h.blobs news
        (all_by (IsFileExact (table_entries tables_now)) h.blobs (λ b there. old_exact b (all_at (λ c. number c < from) h.blobs b old_below there) (all_at (IsFileExact (table_entries h.tables)) h.blobs b s.accounts there)))
        (all_of_map (linked_file tops) (IsFileExact (table_entries tables_now)) f.blobs
        (all_by (λ b. IsFileExact (table_entries tables_now) (linked_file tops b)) f.blobs (new_exact (named_there (λ n. n < from) h.blobs old_below (table_entries h.tables) tables_found.from tables_found.gives))))

    upto : flushed_to count h ≤ h.last
    upto =
        let whole_sum : sum_by (λ (b : Batch). length b.operations) (take count h.batches) + sum_by (λ (b : Batch). length b.operations) (drop count h.batches) ≡ sum_by (λ (b : Batch). length b.operations) h.batches = sum_by-take-drop (λ (b : Batch). length b.operations) h.batches count in
        let last : h.last ≡ last_after last_old h.batches = whole.last in
        omega arith

    pub keeps_maps : KeepsMaps snapshots (flushed_to count h) found (installed h count log next f) m
    keeps_maps = record {
      found_now = found_now;
      sound = record {
        proper = all_now IsTableProper s.proper (all_flat IsProper f.tables (written_proper threshold (stored f.blobs) keeps et o.flush.writes (kept_all IsProper o.memory_of.proper) stored_all));
        resolve = resolve_after;
        tables = all_now IsAsNamed s.tables (all_from (IsNewTable from) IsAsNamed f.tables (λ t new. new.named) o.flush.tables);
        totals = all_append (λ b. totals_of b.records ≡ b.meta.total) h.blobs news s.totals
            (all_of_map (linked_file tops) (λ b. totals_of b.records ≡ b.meta.total) f.blobs (all_from (IsNewBlob from) (λ b. totals_of b.records ≡ (linked_file tops b).meta.total) f.blobs (λ b new. new.totals) o.flush.blobs));
        apart = apart_after;
        accounts = accounts_after;
        disjoint = subst (λ (v : Listing). IsDistinct clash v.tables) (sym version_is) distinct_now;
        newer = newer_now s.tables s.behind s.newer;
        once = once_after;
        behind = subst (λ (v : Listing). AllByRecursion (λ t. t.most_seq ≤ flushed_to count h) v.tables) (sym version_is) (behind_now s.behind);
        placed = all_now (IsTablePlaced h.live.standing.options) s.placed (all_flat (λ e. IsPlaced threshold e.key.kind e) f.tables (written_placed threshold (stored f.blobs) keeps et o.flush.writes (kept_all IsPlain o.memory_of.plain) stored_all));
        map_is = λ key. s.map_is key ∙ sym (same_values h.last key (inr upto));
      };
      same = same_values;
    }
