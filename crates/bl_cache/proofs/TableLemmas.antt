-- A table that is read as a run.
use Rattle.std.proofs.Common.{◌≡◌, ℕ, ◌≤◌, ◌<◌, ◌^◌, ◌==◌, nat_lt, Bool, true, false, cond, List, [], ◌∷◌, length, Option, Some, None, Result, Ok, Err, sym, ◌∙◌, ap, subst, arith}
use Rattle.std.specs.Prelude.{nat_le, ◌&&◌, option_and_then}
use Rattle.std.specs.List.{AllByRecursion}
use Rattle.std.specs.Result.{result_ok}
use Rattle.bl_code.proofs.Basics.{ok_is}
use Rattle.bl_code.proofs.ChainLemmas.{then_ok}
use Rattle.bl_code.specs.Reading.{◌>>=◌}
use Rattle.bl_entry.proofs.ItemLemmas.{each_cons, some_is}
use Rattle.bl_entry.specs.Entries.{IsProper, IsValueOf}
use Rattle.bl_entry.specs.Items.{each_of, entry_of}
use Rattle.bl_entry.specs.Keys.{Key, max_value, read_key}
use Rattle.bl_entry.specs.declared.key.BadKey.{BadKey}
use Rattle.bl_entry.specs.declared.key.Entry.{Entry}
use Rattle.bl_entry.specs.declared.key.Kind.{Kind}
use Rattle.bl_entry.specs.declared.key.Kind.TheVariants.{Deletion, Value, BlobRef}
use Rattle.bl_index.proofs.IndexLemmas.{reads_all}
use Rattle.bl_index.specs.Index.{read_index}
use Rattle.bl_table.specs.Faults.{Fault}
use Rattle.bl_table.specs.Whole.{read_table}
use Rattle.bl_table.specs.declared.entry.BlockEntry.{BlockEntry}
use Rattle.bl_cache.specs.Laws.{RunsAreTables, TablesAreRuns, table_entries}
use Rattle.bl_cache.specs.Reading.{entries_of, entry_with, has_file, is_value, proper_entries, proper_entry}

-- ---- one entry

given_with : (place : ℕ) (value : List ℕ) (r : Result Key BadKey) (e : Entry) → entry_with place value r ≡ Ok e → option_and_then (λ k. Some (record { key = k; value = value })) (result_ok r) ≡ Some e
given_with place value (Err why) e h = absurd (wrong h)
  where
    wrong : ◌≡◌ {A = Result Entry ℕ} (Err place) (Ok e) → ⊥
    wrong is = cc
given_with place value (Ok key) e h = by (is_value key.kind value) h
  where
    by : (b : Bool) → cond b (Ok (record { key = key; value = value })) (Err place) ≡ Ok e → Some (record { key = key; value = value }) ≡ Some e
    by true k = ap Some (ok_is k)
    by false k = absurd (wrong k)
      where
        wrong : ◌≡◌ {A = Result Entry ℕ} (Err place) (Ok e) → ⊥
        wrong is = cc

pub entry_given : (item : BlockEntry) (e : Entry) → proper_entry item ≡ Ok e → entry_of item.key item.value ≡ Some e
entry_given item e h = given_with item.place item.value (read_key item.key) e h

within : (m n : ℕ) → m ≤ n → nat_le m n ≡ true
within m n le = grind arith

below : (m n : ℕ) → m < n → nat_lt m n ≡ true
below m n lt = grind arith

value_passes : (kind : Kind) (value : List ℕ) → IsValueOf kind value → is_value kind value ≡ true
value_passes Deletion value h = ap (λ v. length v == 0) h
value_passes Value value h = within (length value) max_value h
value_passes BlobRef value (file, offset, size, index, some, less) =
    let read : read_index value ≡ Ok (record { file = file; offset = offset; size = size }) = reads_all value (record { file = file; offset = offset; size = size }) index in
    ap has_file read ∙ (λ i. within 1 file some i && below file (10 ^ 15) less i)

passes_with : (place : ℕ) (value : List ℕ) (r : Result Key BadKey) (e : Entry) → option_and_then (λ k. Some (record { key = k; value = value })) (result_ok r) ≡ Some e → IsProper e → entry_with place value r ≡ Ok e
passes_with place value (Err why) e h p = absurd (wrong h)
  where
    wrong : ◌≡◌ {A = Option Entry} None (Some e) → ⊥
    wrong is = cc
passes_with place value (Ok key) e h p =
    let same : record { key = key; value = value } ≡ e = some_is h in
    let kind : key.kind ≡ e.key.kind = ap (λ (x : Entry). x.key.kind) same in
    let own : value ≡ e.value = ap (λ (x : Entry). x.value) same in
    let fits : is_value key.kind value ≡ true = (λ i. is_value (kind i) (own i)) ∙ value_passes e.key.kind e.value p.value in
    ap (λ b. cond b (Ok (record { key = key; value = value })) (Err place)) fits ∙ ap (λ x. Ok x) same

pub entry_passes : (item : BlockEntry) (e : Entry) → entry_of item.key item.value ≡ Some e → IsProper e → proper_entry item ≡ Ok e
entry_passes item e h p = passes_with item.place item.value (read_key item.key) e h p

-- ---- all entries

abbrev as_entry : BlockEntry → Option Entry
as_entry item = entry_of item.key item.value

entries_given : (items : List BlockEntry) (es : List Entry) → proper_entries items ≡ Ok es → each_of as_entry items ≡ Some es
entries_given [] es h = ap Some (ok_is h)
entries_given (item ∷ items) es h =
    let (x, at, rest) = then_ok (proper_entry item) (λ y. proper_entries items >>= λ ys. Ok (y ∷ ys)) es h in
    let (xs, more, is) = then_ok (proper_entries items) (λ ys. Ok (x ∷ ys)) es rest in
    ap (λ o. option_and_then (λ y. option_and_then (λ ys. Some (y ∷ ys)) (each_of as_entry items)) o) (entry_given item x at)
    ∙ ap (λ o. option_and_then (λ ys. Some (x ∷ ys)) o) (entries_given items xs more)
    ∙ ap Some (ok_is is)

entries_pass : (items : List BlockEntry) (es : List Entry) → each_of as_entry items ≡ Some es → AllByRecursion IsProper es → proper_entries items ≡ Ok es
entries_pass [] es h p = ap (λ xs. Ok xs) (some_is h)
entries_pass (item ∷ items) es h p =
    let c = each_cons as_entry item items es h in
    let all : AllByRecursion IsProper (c.first ∷ c.rest) = subst (AllByRecursion IsProper) (sym c.is) p in
    ap (λ r. r >>= λ x. proper_entries items >>= λ xs. Ok (x ∷ xs)) (entry_passes item c.first c.gives all.0)
    ∙ ap (λ r. r >>= λ xs. Ok (c.first ∷ xs)) (entries_pass items c.rest c.more all.1)
    ∙ ap (λ xs. Ok xs) c.is

-- ---- a file

read_given : (r : Result (List BlockEntry) Fault) (es : List Entry) → entries_of r ≡ Ok es → option_and_then (each_of as_entry) (result_ok r) ≡ Some es
read_given (Ok items) es h = entries_given items es h
read_given (Err fault) es h = absurd (wrong h)
  where
    wrong : ◌≡◌ {A = Result (List Entry) ℕ} (Err fault.1) (Ok es) → ⊥
    wrong is = cc

read_passes : (r : Result (List BlockEntry) Fault) (es : List Entry) → option_and_then (each_of as_entry) (result_ok r) ≡ Some es → AllByRecursion IsProper es → entries_of r ≡ Ok es
read_passes (Ok items) es h p = entries_pass items es h p
read_passes (Err fault) es h p = absurd (wrong h)
  where
    wrong : ◌≡◌ {A = Option (List Entry)} None (Some es) → ⊥
    wrong is = cc

pub run_is_table : RunsAreTables
run_is_table size None es h = absurd (wrong h)
  where
    wrong : ◌≡◌ {A = Result (List Entry) ℕ} (Err 0) (Ok es) → ⊥
    wrong is = cc
run_is_table size (Some bytes) es h = by (length bytes == size) h
  where
    by : (b : Bool) → cond b (entries_of (read_table bytes)) (Err 0) ≡ Ok es → option_and_then table_entries (cond b (Some bytes) None) ≡ Some es
    by true k = read_given (read_table bytes) es k
    by false k = absurd (wrong k)
      where
        wrong : ◌≡◌ {A = Result (List Entry) ℕ} (Err 0) (Ok es) → ⊥
        wrong is = cc

pub table_is_run : TablesAreRuns
table_is_run size None es h p = absurd (wrong h)
  where
    wrong : ◌≡◌ {A = Option (List Entry)} None (Some es) → ⊥
    wrong is = cc
table_is_run size (Some bytes) es h p = by (length bytes == size) h
  where
    by : (b : Bool) → option_and_then table_entries (cond b (Some bytes) None) ≡ Some es → cond b (entries_of (read_table bytes)) (Err 0) ≡ Ok es
    by true k = read_passes (read_table bytes) es k p
    by false k = absurd (wrong k)
      where
        wrong : ◌≡◌ {A = Option (List Entry)} None (Some es) → ⊥
        wrong is = cc
