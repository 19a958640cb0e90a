-- The files of a sound folder pass, and what passes is there.
use Rattle.std.proofs.Common.{◌≡◌, inl, inr, ℕ, ◌+◌, ◌-◌, ◌<◌, ◌≤◌, ◌^◌, List, [], ◌∷◌, ◌++◌, true, length, map, take, drop, get_or, Contains, Option, None, Some, IsSome, IsTrue, Result, Ok, refl, sym, ◌∙◌, ap, subst, arith, length-append, append_assoc}
use Rattle.std.specs.Prelude.{◌==◌, ◌||◌, max, flat_map, sum_by}
use Rattle.std.specs.List.{AllByRecursion}
use Rattle.std.specs.Result.{result_ok}
use Rattle.std.proofs.lemmas.Bool.{and_parts, eq-eqb, eqb-true, leb-true}
use Rattle.std.proofs.lemmas.Option.{MatchOption-at_some, cond_some}
use Rattle.std.proofs.lemmas.List.Concat.{length-flat_map}
use Rattle.std.proofs.lemmas.List.Elements.{All-append, All-contains, All-from_recursion, All-map, recursion_from_All, Contains-append_left, Contains-append_right, Contains-get_or}
use Rattle.std.proofs.Math.Seq.{drop-append_seam, take-append_seam}
use Rattle.bl_code.specs.Numbers.{fixed32, fixed64}
use Rattle.bl_code.specs.Reading.{need, ◌>>=◌}
use Rattle.bl_site.specs.Disk.{Folder}
use Rattle.bl_names.specs.declared.name.FileName.TheVariants as file_name
use Rattle.bl_names.specs.Names.{IsNumber}
use Rattle.bl_blob.specs.declared.blob.Totals.{Totals}
use Rattle.bl_blob.specs.BlobFile.{IsBlobFile, Record, blob_file, footer, header, record_bytes, size_of, totals_of}
use Rattle.bl_blob.specs.Reading.{file_in, read_footer, read_header}
use Rattle.bl_blob.proofs.ReadLemmas.{footer_all, header_all, length-footer}
use Rattle.bl_blob.proofs.RecordLemmas.{length-record}
use Rattle.bl_table.specs.declared.entry.BlockEntry.{BlockEntry}
use Rattle.bl_table.specs.Grammar.{ReadsTables}
use Rattle.bl_table.specs.Table as table
use Rattle.bl_table.specs.Whole.{read_table}
use Rattle.bl_edit.specs.declared.edit.NewTable.{NewTable}
use Rattle.bl_edit.specs.Bounds.{is_key, is_level, is_number, is_seq, table_fits}
use Rattle.bl_build.specs.declared.meta.BlobMeta.{BlobMeta}
use Rattle.bl_build.specs.Listing.{Listing}
use Rattle.bl_entry.specs.Items.{each_of, entry_of}
use Rattle.bl_entry.proofs.ItemLemmas.{contains_map, each_cons, ok_of, some_is, went}
use Rattle.bl_out.specs.Files.{entries_in, file, of_size, records_at, table_at}
use Rattle.bl_out.specs.Finding.{◌then◌}
use Rattle.bl_out.specs.Tables.{TableFile, table_in}
use Rattle.bl_folder.specs.Holding.{BlobFile, IsSpelled, blob_in}
use Rattle.bl_entry.specs.Records.{BatchesJoin}
use Rattle.bl_names.specs.Names.{TextNamesOne}
use Rattle.bl_build.specs.Restoring.{Restored}
use Rattle.bl_folder.specs.Laws.{LiveIsOne}
use Rattle.bl_manifest.specs.Laws.{FaultyDoNotRestore}
use Rattle.bl_open.specs.declared.checks.Expected.{Expected}
use Rattle.bl_open.specs.declared.checks.Expected.TheVariants.{Table, Blob}
use Rattle.bl_open.specs.Checks.{AllPass, check_blob, check_footer, check_header, check_in, check_table, files_of, if_there, named, passed}
use Rattle.bl_open.specs.Damage.{FilesOrLogsFail}
use Rattle.bl_open.specs.DamageLaws.{FirstNumberIs, FreshAreNotDamaged, PassingAreNotDamaged, SoundAreNotDamaged}
use Rattle.bl_open.proofs.BreakLemmas.{PlacedAreRecords, failing_have_none}
use Rattle.bl_open.proofs.DamageLemmas.{fail_or_pass, lacking_not_fresh, lacking_not_live}

-- ---- tables

table_ok : ReadsTables → (size : ℕ) (bytes : List ℕ) (items : List BlockEntry) → length bytes ≡ size → read_table bytes ≡ Ok items → check_table size bytes ≡ Ok tt
unfolding check_table
table_ok law size bytes items long reads =
    let is = (law bytes items).0 reads in
    let t : (length bytes == size) ≡ true = eq-eqb (length bytes) size long in
    ap (λ b. need b 0 >>= λ _. passed (table.read_footer (drop (size - 48) bytes) size)) t
    ∙ ap (λ n. passed (table.read_footer (drop (n - 48) bytes) n)) (sym long) ∙ ap passed is.footer

table_passes : ReadsTables → (folder : Folder) (t : NewTable) (y : TableFile) → table_in folder t ≡ Some y → check_in folder (Table t.number t.size) ≡ Ok tt
table_passes law folder t y e =
    let a = went (table_at folder t.number t.size) (λ es. Some (record { meta = t; entries = es })) y e in
    let b = went (file folder (file_name.Table t.number) then of_size t.size) entries_in a.from a.gives in
    let d = went (file folder (file_name.Table t.number)) (of_size t.size) b.from b.gives in
    let sized = cond_some (length d.from == t.size) d.from b.from d.makes in
    let r = went (result_ok (read_table b.from)) (λ items. each_of (λ (item : BlockEntry). entry_of item.key item.value) items) a.from b.makes in
    let long : length b.from ≡ t.size = ap length (sym sized.1) ∙ eqb-true (length d.from) t.size sized.0 in
    ap (if_there (check_table t.size)) (d.gives ∙ ap Some sized.1) ∙ table_ok law t.size b.from r.from long (ok_of (read_table b.from) r.from r.gives)

tables_pass : ReadsTables → (folder : Folder) (ts : List NewTable) (ys : List TableFile) → each_of (table_in folder) ts ≡ Some ys → AllByRecursion (λ t. check_in folder (Table t.number t.size) ≡ Ok tt) ts
tables_pass law folder [] ys e = tt
tables_pass law folder (t ∷ ts) ys e = let c = each_cons (table_in folder) t ts ys e in (table_passes law folder t c.first c.gives, tables_pass law folder ts c.rest c.more)

-- ---- blob files

length-header : length header ≡ 30
unfolding fixed32 fixed64
length-header = refl

length-records : (rs : List Record) → length (flat_map record_bytes rs) ≡ sum_by size_of rs
length-records rs = length-flat_map record_bytes rs ∙ (λ i. sum_by (λ r. length-record r i) rs)

file_ok : (rs : List Record) → length rs < 2 ^ 64 → check_blob (totals_of rs) (blob_file rs) ≡ Ok tt
unfolding check_blob check_header check_footer
file_ok rs fits =
    let inside = flat_map record_bytes rs in
    let end = footer (length rs) in
    let bytes : List ℕ = header ++ (inside ++ end) in
    let size : length bytes ≡ 30 + (length inside + 32) = length-append header (inside ++ end) ∙ (λ j. length-header j + (length-append inside end ∙ ap (λ k. length inside + k) (length-footer (length rs))) j) in
    let long : length bytes ≡ 62 + sum_by size_of rs = omega (arith, size, length-records rs) in
    let first : take 30 bytes ≡ header = ap (λ n. take n bytes) (sym length-header) ∙ take-append_seam header (inside ++ end) in
    let seam : length bytes - 32 ≡ length (header ++ inside) = omega (arith, length-append header inside, length-header, size) in
    let last : drop (length bytes - 32) bytes ≡ end = (λ j. drop (seam j) (sym (append_assoc header inside end) j)) ∙ drop-append_seam (header ++ inside) end in
    let t : (length bytes == 62 + sum_by size_of rs) ≡ true = eq-eqb (length bytes) (62 + sum_by size_of rs) long in
    let h : read_header (take 30 bytes) ≡ Ok tt = ap read_header first ∙ header_all in
    let f : read_footer (drop (length bytes - 32) bytes) ≡ Ok (length rs) = ap read_footer last ∙ footer_all (length rs) fits in
    let u : (length rs == length rs) ≡ true = eq-eqb (length rs) (length rs) refl in
    rw (t, h, f, u) refl

blob_ok : (total : Totals) (bytes : List ℕ) (rs : List Record) → IsBlobFile bytes rs → totals_of rs ≡ total → check_blob total bytes ≡ Ok tt
blob_ok total bytes rs is totals = (λ i. check_blob (sym totals i) (is.spelled i)) ∙ file_ok rs is.count

blob_passes : (folder : Folder) (b : BlobMeta) (y : BlobFile) → blob_in folder b ≡ Some y → IsSpelled folder y → totals_of y.records ≡ y.meta.total → check_in folder (Blob b.number b.total) ≡ Ok tt
blob_passes folder b y e spelled totals =
    let a = went (records_at folder b.number) (λ rs. Some (record { meta = b; records = rs })) y e in
    let d = went (file folder (file_name.Blob b.number)) (λ bytes. result_ok (file_in bytes)) a.from a.gives in
    let meta : y.meta ≡ b = sym (ap (λ (z : BlobFile). z.meta) (some_is a.makes)) in
    let there : file folder (file_name.Blob y.meta.number) ≡ Some d.from = ap (λ (m : BlobMeta). file folder (file_name.Blob m.number)) meta ∙ d.gives in
    let is : IsBlobFile d.from y.records = MatchOption-at_some _ (λ bytes. IsBlobFile bytes y.records) d.from there spelled in
    ap (if_there (check_blob b.total)) d.gives ∙ blob_ok b.total d.from y.records is (totals ∙ ap (λ (m : BlobMeta). m.total) meta)

blobs_pass : (folder : Folder) (bs : List BlobMeta) (ys : List BlobFile) → each_of (blob_in folder) bs ≡ Some ys → AllByRecursion (IsSpelled folder) ys → AllByRecursion (λ y. totals_of y.records ≡ y.meta.total) ys
    → AllByRecursion (λ b. check_in folder (Blob b.number b.total) ≡ Ok tt) bs
blobs_pass folder [] ys e spelled totals = tt
blobs_pass folder (b ∷ bs) ys e spelled totals =
    let c = each_cons (blob_in folder) b bs ys e in
    let s : AllByRecursion (IsSpelled folder) (c.first ∷ c.rest) = subst (AllByRecursion (IsSpelled folder)) (sym c.is) spelled in
    let t : AllByRecursion (λ (y : BlobFile). totals_of y.records ≡ y.meta.total) (c.first ∷ c.rest) = subst (AllByRecursion (λ (y : BlobFile). totals_of y.records ≡ y.meta.total)) (sym c.is) totals in
    (blob_passes folder b c.first c.gives s.0 t.0, blobs_pass folder bs c.rest c.more s.1 t.1)

all_pass : (folder : Folder) (version : Listing) → AllByRecursion (λ t. check_in folder (Table t.number t.size) ≡ Ok tt) version.tables → AllByRecursion (λ b. check_in folder (Blob b.number b.total) ≡ Ok tt) version.blobs
    → AllPass folder version
all_pass folder version tables blobs =
    let P : Expected → Type 0 = λ e. check_in folder e ≡ Ok tt in
    let table_of : NewTable → Expected = λ t. Table t.number t.size in
    let blob_of : BlobMeta → Expected = λ b. Blob b.number b.total in
    All-append P (map table_of version.tables) (map blob_of version.blobs)
    (All-map P table_of version.tables (All-from_recursion (λ (t : NewTable). P (table_of t)) version.tables tables))
    (All-map P blob_of version.blobs (All-from_recursion (λ (b : BlobMeta). P (blob_of b)) version.blobs blobs))

pub fresh_not_damaged : FreshAreNotDamaged
fresh_not_damaged folder name place fresh (inl lacks) = lacking_not_fresh folder name place lacks fresh
fresh_not_damaged folder name place fresh (inr d) = cc (fresh.current, d.1.1.current)

pub passing_not_damaged : BatchesJoin → PlacedAreRecords → TextNamesOne → FaultyDoNotRestore → LiveIsOne → PassingAreNotDamaged
passing_not_damaged join placed names faulty one folder name place manifest live batches last is pass have (inl lacks) = lacking_not_live names faulty folder name place manifest live lacks is
passing_not_damaged join placed names faulty one folder name place manifest live batches last is pass have (inr d) =
    let same : d.1.0 ≡ live = (one folder d.0 manifest d.1.0 live d.1.1 is).1 in
    let fails : FilesOrLogsFail folder live name place = subst (λ (l : Restored). FilesOrLogsFail folder l name place) same d.1.2 in
    elim fails [
      | inl f ↦ fail_or_pass folder live.version name place f pass
      | inr f ↦ failing_have_none join placed folder live.standing.log_number live.standing.last_sequence name place batches last f.1 have
    ]

pub sound_not_damaged : BatchesJoin → PlacedAreRecords → TextNamesOne → FaultyDoNotRestore → LiveIsOne → ReadsTables → SoundAreNotDamaged
sound_not_damaged join placed names faulty one tables folder name place s d = elim s.1 [
  | inl fresh ↦ fresh_not_damaged folder name place fresh.0 d
  | inr live ↦
      let version = live.holding.live.version in
      let pass = all_pass folder version (tables_pass tables folder version.tables live.holding.tables live.holds.tables)
      (blobs_pass folder version.blobs live.holding.blobs live.holds.blobs live.holds.spelled live.sound.totals) in
      passing_not_damaged join placed names faulty one folder name place live.manifest live.holding.live live.holding.batches live.holding.last live.holds.live pass live.holds.batches d
]

-- ---- the first number

pub table_number : (t : NewTable) → table_fits t ≡ true → IsNumber t.number
table_number t h =
    let a = and_parts _ ((t.oldest_blob == 0) || is_number t.oldest_blob) h in
    let b = and_parts _ (is_seq t.most_seq) a.0 in
    let c = and_parts _ (is_seq t.least_seq) b.0 in
    let d = and_parts _ (is_key t.largest) c.0 in
    let e = and_parts _ (is_key t.smallest) d.0 in
    number_is t.number (and_parts (is_level t.level) (is_number t.number) e.0).1
  where
    number_is : (n : ℕ) → is_number n ≡ true → IsNumber n
    number_is n h = let p = and_parts _ _ h in (leb-true 1 n p.0, omega (arith, leb-true n 999999999999999 p.1))

pub blob_number : (n : ℕ) → is_number n ≡ true → IsNumber n
blob_number n h = let p = and_parts _ _ h in (leb-true 1 n p.0, omega (arith, leb-true n 999999999999999 p.1))

pub table_level : (t : NewTable) → table_fits t ≡ true → t.level ≤ 6
table_level t h =
    let a = and_parts _ ((t.oldest_blob == 0) || is_number t.oldest_blob) h in
    let b = and_parts _ (is_seq t.most_seq) a.0 in
    let c = and_parts _ (is_seq t.least_seq) b.0 in
    let d = and_parts _ (is_key t.largest) c.0 in
    let e = and_parts _ (is_key t.smallest) d.0 in
    leb-true t.level 6 (and_parts (is_level t.level) (is_number t.number) e.0).0

some_there : (check : List ℕ → Result (Unit {0}) ℕ) (f : Option (List ℕ)) → if_there check f ≡ Ok tt → IsSome f
some_there check None e = cc e
some_there check (Some bytes) e = refl

passing_is_there : (folder : Folder) (e : Expected) → check_in folder e ≡ Ok tt → IsSome (file folder (named e))
passing_is_there folder (Table number size) p = some_there (check_table size) (file folder (file_name.Table number)) p
passing_is_there folder (Blob number total) p = some_there (check_blob total) (file folder (file_name.Blob number)) p

both : {A : Type 0} (P Q : A → Type 0) (xs : List A) → AllByRecursion P xs → ((x : A) → Contains xs x → P x → Q x) → AllByRecursion Q xs
both P Q xs all h = recursion_from_All Q xs (λ k d lt.
    let x = get_or xs k d in
    h x (Contains-get_or xs k d lt) (All-from_recursion P xs all k d lt))

pub first_number : FirstNumberIs
first_number folder version next greatest is some pass g =
    let n = max next (greatest + 1) in
    let table_of : NewTable → Expected = λ t. Table t.number t.size in
    let blob_of : BlobMeta → Expected = λ b. Blob b.number b.total in
    let P : Expected → Type 0 = λ e. check_in folder e ≡ Ok tt in
    record {
      above = record {
        next_is = omega arith;
        names = λ f number there. omega (arith, g.above f number there);
        tables = both (λ (t : NewTable). IsTrue (table_fits t)) (λ (t : NewTable). t.number < n) version.tables is.tables_fit (λ t among fits.
            let there : Contains (files_of version) (Table t.number t.size) = Contains-append_left (map table_of version.tables) (map blob_of version.blobs) (table_of t) (contains_map table_of version.tables t among) in
            omega (arith, g.above (file_name.Table t.number) (table_number t fits) (passing_is_there folder (Table t.number t.size) (All-contains P (files_of version) (table_of t) pass there))));
        blobs = both (λ (b : BlobMeta). IsTrue (is_number b.number)) (λ (b : BlobMeta). b.number < n) version.blobs is.blobs_fit (λ b among fits.
            let there : Contains (files_of version) (Blob b.number b.total) = Contains-append_right (map table_of version.tables) (map blob_of version.blobs) (blob_of b) (contains_map blob_of version.blobs b among) in
            omega (arith, g.above (file_name.Blob b.number) (blob_number b.number fits) (passing_is_there folder (Blob b.number b.total) (All-contains P (files_of version) (blob_of b) pass there))));
      };
      least = λ m above. elim g.one [
        | inl zero ↦ elim some [
          | inl next_some ↦ omega (arith, above.next_is, next_some, zero)
          | inr current ↦ let lt : 0 < m = above.names file_name.Current tt current in omega (arith, above.next_is, lt, zero)
        ]
        | inr w ↦ omega (arith, above.next_is, above.names w.0 w.1 w.2, w.3)
      ];
    }
