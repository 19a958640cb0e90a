-- The files of a finished output are read.
use Rattle.std.proofs.Common.{◌≡◌, ℕ, suc, ◌+◌, ◌<◌, ◌≤◌, ◌^◌, List, [], ◌∷◌, ◌++◌, length, take, refl, sym, ◌∙◌, ap, subst, arith, Option, Some, None}
use Rattle.std.specs.Prelude.{map, sum_by, Result, Ok, Err, IsTrue, if◌then◌else◌}
use Rattle.std.specs.List.{AllByRecursion}
use Rattle.std.specs.List.Sorted.{IsStrictlySortedBy}
use Rattle.std.specs.Ordering.{nat_cmp}
use Rattle.std.specs.declared.cmp.Ordering.TheVariants.{Less}
use Rattle.std.specs.Option.{option_map}
use Rattle.std.specs.Result.{result_ok}
use Rattle.std.proofs.lemmas.Bool.{eq-eqb}
use Rattle.std.proofs.lemmas.List.{take_all}
use Rattle.std.proofs.lemmas.List.Sums.{sum_by-cons}
use Rattle.bl_code.proofs.Basics.{all_from}
use Rattle.bl_site.specs.Disk.{Disk, File, folder_of}
use Rattle.bl_names.specs.declared.name.FileName.TheVariants.{Table, Blob}
use Rattle.bl_names.specs.Names.{name_of}
use Rattle.bl_blob.specs.BlobFile.{IsBlobFile, Record, blob_file, size_of}
use Rattle.bl_blob.specs.Reading.{file_in}
use Rattle.bl_blob.proofs.ReadLemmas.{file_all}
use Rattle.bl_table.specs.declared.entry.BlockEntry.{BlockEntry}
use Rattle.bl_table.specs.Faults.{Fault}
use Rattle.bl_table.specs.Laws.{HasItems, ReadsBuilt, item_of as item_read}
use Rattle.bl_table.specs.Spelling.{Item, table}
use Rattle.bl_table.specs.Whole.{read_table}
use Rattle.bl_entry.specs.declared.key.Entry.{Entry}
use Rattle.bl_entry.specs.Entries.{IsProper}
use Rattle.bl_entry.specs.Items.{each_of, entry_of}
use Rattle.bl_entry.specs.Keys.{IsKey, OrdersAgree, key_bytes, read_key}
use Rattle.bl_entry.proofs.ItemLemmas.{all_of_map}
use Rattle.bl_edit.specs.Bounds.{IsEdit, addition_fits, table_fits}
use Rattle.bl_edit.specs.Reading.{no_field}
use Rattle.bl_edit.specs.declared.edit.Edit.{Edit}
use Rattle.bl_edit.specs.declared.edit.NewTable.{NewTable}
use Rattle.bl_out.proofs.AmongLemmas.{each_more}
use Rattle.bl_out.proofs.BehindLemmas.{items_ascend, nat_less, tables_all, tables_behind, written_behind}
use Rattle.bl_out.proofs.FitLemmas.{named_fits, number_fits}
use Rattle.bl_entry.proofs.KeyLemmas.{spelled_read}
use Rattle.bl_out.proofs.StoredLemmas.{IndexIsSpelled, stored_are}
use Rattle.bl_out.proofs.WrittenLemmas.{IndexIsRead, written_proper}
use Rattle.bl_out.specs.Files.{entries_in, file, of_size}
use Rattle.bl_out.specs.Finding.{◌then◌}
use Rattle.bl_out.specs.Flushes.{HasBlob, IsNewBlob, IsNewTable, NewBlob, stored}
use Rattle.bl_out.specs.Held.{HoldsSealed}
use Rattle.bl_out.specs.Made.{IsBlobFrom, IsTableFrom, all_entries, all_stored}
use Rattle.bl_out.specs.Outputs.{AreNamed, BlobOf, NamesTable, OutBlob, OutFile, OutTable, TableOf, addition_of, close_blob, close_table, files_of, finished, items_of}
use Rattle.bl_out.specs.Reads.{AreBehind, IsSynced, OutputsAreRead, OutputsFit}
use Rattle.bl_out.specs.States.{AscendTo}
use Rattle.bl_out.specs.Tables.{TableFile, table_entries, table_in}
use Rattle.bl_out.specs.Written.{Stored, Writes, stored_of}

-- ---- entries from the items of a table

abbrev entry_in : BlockEntry → Option Entry
entry_in i = entry_of i.key i.value

entry_again : (e : Entry) (i : BlockEntry) → IsKey e.key → i.key ≡ key_bytes e.key → i.value ≡ e.value → entry_in i ≡ Some e
entry_again e i fits key value =
    ap (λ k. result_ok (read_key k) then λ q. Some (record { key = q; value = i.value })) key
    ∙ ap (λ r. result_ok r then λ q. Some (record { key = q; value = i.value })) (spelled_read e.key fits)
    ∙ ap (λ v. Some (record { key = e.key; value = v })) value

entries_again : (es : List Entry) (is : List BlockEntry) → AllByRecursion IsProper es → map item_read is ≡ items_of es → each_of entry_in is ≡ Some es
entries_again [] [] proper e = refl
entries_again [] (i ∷ is) proper e = absurd cc
entries_again (x ∷ es) [] proper e = absurd cc
entries_again (x ∷ es) (i ∷ is) proper e =
    let first : item_read i ≡ record { key = key_bytes x.key; value = x.value } = cc in
    let rest : map item_read is ≡ items_of es = cc in
    each_more entry_in i is x es (entry_again x i proper.0.key (ap (λ (j : Item). j.key) first) (ap (λ (j : Item). j.value) first)) (entries_again es is proper.1 rest)

from_items : (es : List Entry) (r : Result (List BlockEntry) Fault) → AllByRecursion IsProper es → HasItems (items_of es) r → result_ok r then (λ items. each_of entry_in items) ≡ Some es
from_items es (Ok is) proper h = entries_again es is proper h
from_items es (Err fault) proper h = absurd h

-- ---- a table

module _ (agree : OrdersAgree) (built : ReadsBuilt) (disk : Disk) where
  table_read : (t : OutTable) (n : NewTable) → NamesTable (close_table t) n → n.size < 2 ^ 64 → HoldsSealed disk (TableOf (close_table t)) → AllByRecursion IsProper t.entries → AreBehind t.entries
      → table_in (folder_of disk) n ≡ Some (record { meta = n; entries = t.entries })
  table_read t n named fits held proper up =
      let size : n.size ≡ length (table (items_of t.entries)) = named.size in
      let there : file (folder_of disk) (Table n.number) ≡ Some (table (items_of t.entries)) =
      ap (λ k. file (folder_of disk) (Table k)) named.number ∙ ap (option_map (λ (f : File). f.read)) held.there ∙ ap Some held.read in
      let short : length (table (items_of t.entries)) < 2 ^ 64 = subst (λ (k : ℕ). k < 2 ^ 64) size fits in
      let items = from_items t.entries (read_table (table (items_of t.entries))) proper (built (items_of t.entries) (items_ascend agree t.entries proper up) short) in
      ap (λ o. o then of_size n.size then entries_in then λ es. Some (record { meta = n; entries = es })) there
      ∙ ap (λ b. (if b then Some (table (items_of t.entries)) else None) then entries_in then λ es. Some (record { meta = n; entries = es })) (eq-eqb (length (table (items_of t.entries))) n.size (sym size))
      ∙ ap (λ o. o then λ es. Some (record { meta = n; entries = es })) items

table_synced : (disk : Disk) (t : OutTable) → HoldsSealed disk (TableOf (close_table t)) → IsSynced disk (name_of (Table t.number))
table_synced disk t held = record { file = held.file; there = held.there; front = held.front ∙ sym held.read; handed = held.handed }

-- the tables as they are named
pub record Zipped (disk : Disk) (from next : ℕ) (ts : List OutTable) (ns : List NewTable) : Type 0 where
  pub files : List TableFile
  pub named : map (λ t. t.meta) files ≡ ns
  pub entries : table_entries files ≡ all_entries ts
  pub count : length files ≡ length ts
  pub new : AllByRecursion (IsNewTable from) files
  pub there : AllByRecursion (λ t. table_in (folder_of disk) t.meta ≡ Some t) files
  pub synced : AllByRecursion (λ t. (t.meta.number < next) × IsSynced disk (name_of (Table t.meta.number))) files

module _ (agree : OrdersAgree) (built : ReadsBuilt) (disk : Disk) (from next : ℕ) (first : 1 ≤ from) (last : next ≤ 10 ^ 15) where
  zipped : (ts : List OutTable) (ns : List NewTable) → AreNamed (map close_table ts) ns → AllByRecursion (λ n. n.size < 2 ^ 64) ns → AllByRecursion (λ t. HoldsSealed disk (TableOf (close_table t))) ts
      → AllByRecursion (IsTableFrom from) ts → AscendTo next (map (λ t. t.number) ts) → AllByRecursion (λ t. AllByRecursion IsProper t.entries) ts → AllByRecursion (λ t. AreBehind t.entries) ts → Zipped disk from next ts ns
  zipped [] [] named sizes held tables below proper up = record { files = []; named = refl; entries = refl; count = refl; new = tt; there = tt; synced = tt }
  zipped [] (n ∷ ns) named sizes held tables below proper up = absurd named
  zipped (t ∷ ts) [] named sizes held tables below proper up = absurd named
  zipped (t ∷ ts) (n ∷ ns) named sizes held tables below proper up =
      let more = zipped ts ns named.1 sizes.1 held.1 tables.1 below.2 proper.1 up.1 in
      let one : NamesTable (close_table t) n = named.0 in
      let number : n.number ≡ t.number = one.number in
      let low : from ≤ t.number = tables.0.number in
      let high : t.number < next = below.0 in
      record {
        files = record { meta = n; entries = t.entries } ∷ more.files;
        named = ap (λ ms. n ∷ ms) more.named;
        entries = ap (λ es. t.entries ++ es) more.entries;
        count = ap suc more.count;
        new = (record { level = one.level; number = subst (λ (k : ℕ). from ≤ k) (sym number) low; named = one.as_named }, more.new);
        there = (table_read agree built disk t n one sizes.0 held.0 proper.0 up.0, more.there);
        synced = (subst (λ k. (k < next) × IsSynced disk (name_of (Table k))) (sym number) (high, table_synced disk t held.0), more.synced);
      }

-- ---- a blob file

count_short : (rs : List Record) → length rs ≤ sum_by size_of rs
count_short [] = omega arith
count_short (r ∷ rs) = let total = sum_by-cons size_of r rs in let more : length rs ≤ sum_by size_of rs = count_short rs in omega (arith, total)

abbrev file_of : OutBlob → NewBlob
file_of b = record { named = addition_of b; records = b.records }

module _ (from next size : ℕ) (bound : size ≤ 2 ^ 40) (first : 1 ≤ from) (last : next ≤ 10 ^ 15) where
  new_file : (b : OutBlob) → IsBlobFrom from size b → b.number < next → IsNewBlob from (file_of b)
  new_file b h below =
      let low : from ≤ b.number = h.number in
      let short : 30 + sum_by size_of b.records < size + 2 ^ 25 = h.within in
      record { number = low; fits = number_fits b.number (omega arith) (omega arith); some = h.some; totals = refl; size = omega arith }

  files_new : (bs : List OutBlob) → AllByRecursion (IsBlobFrom from size) bs → AscendTo next (map (λ b. b.number) bs) → AllByRecursion (λ b. IsNewBlob from (file_of b)) bs
  files_new [] h below = tt
  files_new (b ∷ bs) h below = (new_file b h.0 below.0, files_new bs h.1 below.2)

-- what is read of it
pub record IsFile (disk : Disk) (from next : ℕ) (b : OutBlob) : Type 0 where
  pub new : IsNewBlob from (file_of b)
  pub has : HasBlob (folder_of disk) (file_of b)
  pub below : b.number < next
  pub synced : IsSynced disk (name_of (Blob b.number))

blob_synced : (disk : Disk) (b : OutBlob) → HoldsSealed disk (BlobOf (close_blob b)) → IsSynced disk (name_of (Blob b.number))
blob_synced disk b held = record { file = held.file; there = held.there; front = held.front ∙ sym held.read; handed = held.handed }

module _ (disk : Disk) (from next size : ℕ) (bound : size ≤ 2 ^ 40) (first : 1 ≤ from) (last : next ≤ 10 ^ 15) where
  file_read : (b : OutBlob) → IsBlobFrom from size b → b.number < next → HoldsSealed disk (BlobOf (close_blob b)) → IsFile disk from next b
  file_read b h below held =
      let low : from ≤ b.number = h.number in
      let short : 30 + sum_by size_of b.records < size + 2 ^ 25 = h.within in
      let many : length b.records ≤ sum_by size_of b.records = count_short b.records in
      let there : file (folder_of disk) (Blob b.number) ≡ Some (blob_file b.records) = ap (option_map (λ (f : File). f.read)) held.there ∙ ap Some held.read in
      let spelled : IsBlobFile (blob_file b.records) b.records = record { records = h.records; count = omega arith; spelled = refl } in
      record {
        new = new_file from next size bound first last b h below;
        has = record {
          bytes = blob_file b.records;
          there = there;
          spelled = spelled;
          reads = ap (λ o. o then λ bytes. result_ok (file_in bytes)) there ∙ ap result_ok (file_all (blob_file b.records) b.records spelled);
        };
        below = below;
        synced = blob_synced disk b held;
      }

  files_read : (bs : List OutBlob) → AllByRecursion (IsBlobFrom from size) bs → AscendTo next (map (λ b. b.number) bs) → AllByRecursion (λ b. HoldsSealed disk (BlobOf (close_blob b))) bs → AllByRecursion (IsFile disk from next) bs
  files_read [] h below held = tt
  files_read (b ∷ bs) h below held = (file_read b h.0 below.0 held.0, files_read bs h.1 below.2 held.1)

stored_same : (bs : List OutBlob) → stored (map file_of bs) ≡ all_stored bs
stored_same [] = refl
stored_same (b ∷ bs) = ap (λ ss. stored_of b.number b.records ++ ss) (stored_same bs)

additions_same : (bs : List OutBlob) → map (λ b. b.named) (map file_of bs) ≡ map addition_of (map close_blob bs)
additions_same [] = refl
additions_same (b ∷ bs) = ap (λ more. addition_of b ∷ more) (additions_same bs)

additions_fit : (from : ℕ) (bs : List OutBlob) → AllByRecursion (λ b. IsNewBlob from (file_of b)) bs → AllByRecursion (λ a. IsTrue (addition_fits a)) (map addition_of (map close_blob bs))
additions_fit from [] h = tt
additions_fit from (b ∷ bs) h = (h.0.fits, additions_fit from bs h.1)

-- each table is named in bounds
tables_fit : (from next : ℕ) → 1 ≤ from → next ≤ 10 ^ 15 → (ts : List OutTable) (ns : List NewTable) → AreNamed (map close_table ts) ns → AllByRecursion (IsTableFrom from) ts → AscendTo next (map (λ t. t.number) ts) → AllByRecursion (λ t. AllByRecursion IsProper t.entries) ts
    → AllByRecursion (λ n. IsTrue (table_fits n)) ns
tables_fit from next first last [] [] named tables below proper = tt
tables_fit from next first last [] (n ∷ ns) named tables below proper = absurd named
tables_fit from next first last (t ∷ ts) [] named tables below proper = absurd named
tables_fit from next first last (t ∷ ts) (n ∷ ns) named tables below proper =
    let number : n.number ≡ t.number = named.0.number in
    let low : from ≤ t.number = tables.0.number in
    let high : t.number < next = below.0 in
    (named_fits t.entries n proper.0 named.0.level (omega arith) (omega arith) named.0.as_named, tables_fit from next first last ts ns named.1 tables.1 below.2 proper.1)

numbers_ascend : (next : ℕ) (bs : List OutBlob) → AscendTo next (map (λ b. b.number) bs) → IsStrictlySortedBy nat_cmp (map (λ b. b.named.number) (map file_of bs))
unfolding IsStrictlySortedBy
numbers_ascend next [] h = tt
numbers_ascend next (b ∷ bs) h = (each bs h.1, numbers_ascend next bs h.2)
  where
    each : (cs : List OutBlob) → AllByRecursion (λ m. b.number < m) (map (λ c. c.number) cs) → AllByRecursion (λ m. nat_cmp b.number m ≡ Less) (map (λ c. c.named.number) (map file_of cs))
    each [] k = tt
    each (c ∷ cs) k = (nat_less b.number c.number k.0, each cs k.1)

-- ---- the files of an output

-- what holds of all files of an output holds of its tables and of its blob files
blobs_held : (P : OutFile → Type 0) (bs : List OutBlob) → AllByRecursion P (map BlobOf (map close_blob bs)) → AllByRecursion (λ b. P (BlobOf (close_blob b))) bs
blobs_held P [] k = tt
blobs_held P (c ∷ cs) k = (k.0, blobs_held P cs k.1)

files_held : (P : OutFile → Type 0) (ts : List OutTable) (bs : List OutBlob) → AllByRecursion P (map TableOf (map close_table ts) ++ map BlobOf (map close_blob bs)) → AllByRecursion (λ t. P (TableOf (close_table t))) ts × AllByRecursion (λ b. P (BlobOf (close_blob b))) bs
files_held P [] bs h = (tt, blobs_held P bs h)
files_held P (t ∷ ts) bs h = let r = files_held P ts bs h.1 in ((h.0, r.0), r.1)

files_many : (ts : List OutTable) (bs : List OutBlob) → length (map TableOf ts ++ map BlobOf bs) ≡ length (map TableOf (map close_table ts) ++ map BlobOf (map close_blob bs))
files_many [] [] = refl
files_many [] (b ∷ bs) = ap suc (files_many [] bs)
files_many (t ∷ ts) bs = ap suc (files_many ts bs)

pub outputs_are_read : IndexIsRead → IndexIsSpelled → OrdersAgree → ReadsBuilt → OutputsAreRead
outputs_are_read reads spells agree built disk from next o e made first last proper up held edit words =
    let threshold : ℕ = o.options.min_blob_size in
    let bound : o.options.blob_file_size ≤ 2 ^ 40 = made.options.blob_file_size.1 in
    let many : length (files_of o) ≡ length (files_of (finished o)) = files_many o.tables o.blobs in
    let whole : take (finished o).sealed (files_of (finished o)) ≡ files_of (finished o) = take_all (finished o).sealed (files_of (finished o)) (omega (arith, many)) in
    let both = files_held (HoldsSealed disk) o.tables o.blobs (subst (AllByRecursion (HoldsSealed disk)) whole held.sealed) in
    let files : AllByRecursion (IsFile disk from next) o.blobs = files_read disk from next o.options.blob_file_size bound first last o.blobs made.blobs made.ordered.blobs both.1 in
    let new : AllByRecursion (IsNewBlob from) (map file_of o.blobs) = all_of_map file_of (IsNewBlob from) o.blobs (all_from (IsFile disk from next) (λ b. IsNewBlob from (file_of b)) o.blobs (λ b h. h.new) files) in
    let writes : Writes threshold (stored (map file_of o.blobs)) o.given (all_entries o.tables) = subst (λ (ss : List Stored). Writes threshold ss o.given (all_entries o.tables)) (sym (stored_same o.blobs)) made.writes in
    let all_proper : AllByRecursion IsProper (all_entries o.tables) = written_proper threshold (stored (map file_of o.blobs)) o.given (all_entries o.tables) writes proper (stored_are reads spells from (map file_of o.blobs) new) in
    let behind : AreBehind (all_entries o.tables) = written_behind threshold (stored (map file_of o.blobs)) o.given (all_entries o.tables) writes up in
    let sizes : AllByRecursion (λ n. n.size < 2 ^ 64) edit.tables = subst (λ (x : Edit). AllByRecursion (λ n. n.size < 2 ^ 64) x.added) edit.is words.sizes in
    let z : Zipped disk from next o.tables edit.tables =
    zipped agree built disk from next first last o.tables edit.tables edit.named sizes both.0 made.tables made.ordered.tables (tables_all IsProper o.tables all_proper) (tables_behind o.tables behind) in (
      record { tables = z.files; blobs = map file_of o.blobs },
      record {
        edit = edit.is ∙ (λ i. record no_field { added = sym z.named i; blobs = sym (additions_same o.blobs) i });
        tables = z.new;
        blobs = new;
        ascend = numbers_ascend next o.blobs made.ordered.blobs;
        writes = subst (Writes threshold (stored (map file_of o.blobs)) o.given) (sym z.entries) writes;
        has = record {
          tables = z.there;
          blobs = all_of_map file_of (HasBlob (folder_of disk)) o.blobs (all_from (IsFile disk from next) (λ b. HasBlob (folder_of disk) (file_of b)) o.blobs (λ b h. h.has) files);
        };
        table_files = z.synced;
        blob_files = all_of_map file_of (λ b. (b.named.number < next) × IsSynced disk (name_of (Blob b.named.number))) o.blobs
            (all_from (IsFile disk from next) (λ b. (b.number < next) × IsSynced disk (name_of (Blob b.number))) o.blobs (λ b h. (h.below, h.synced)) files);
      },
      z.count,
    )

pub outputs_fit : IndexIsRead → IndexIsSpelled → OutputsFit
outputs_fit reads spells from next o e made first last proper edit =
    let threshold : ℕ = o.options.min_blob_size in
    let bound : o.options.blob_file_size ≤ 2 ^ 40 = made.options.blob_file_size.1 in
    let files = files_new from next o.options.blob_file_size bound first last o.blobs made.blobs made.ordered.blobs in
    let new : AllByRecursion (IsNewBlob from) (map file_of o.blobs) = all_of_map file_of (IsNewBlob from) o.blobs files in
    let writes : Writes threshold (stored (map file_of o.blobs)) o.given (all_entries o.tables) = subst (λ (ss : List Stored). Writes threshold ss o.given (all_entries o.tables)) (sym (stored_same o.blobs)) made.writes in
    let all_proper : AllByRecursion IsProper (all_entries o.tables) = written_proper threshold (stored (map file_of o.blobs)) o.given (all_entries o.tables) writes proper (stored_are reads spells from (map file_of o.blobs) new) in
    subst IsEdit (sym edit.is)
    (record {
      last_sequence = tt;
      options = tt;
      deleted = tt;
      added = tables_fit from next first last o.tables edit.tables edit.named made.tables made.ordered.tables (tables_all IsProper o.tables all_proper);
      blobs = additions_fit from o.blobs files;
      garbage = tt;
    })
