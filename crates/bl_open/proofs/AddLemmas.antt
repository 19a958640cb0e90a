-- What an opening adds to the version that it found.
use Rattle.std.proofs.Common.{◌≡◌, ℕ, ◌+◌, ◌<◌, ◌≤◌, Bool, true, false, cond, List, [], ◌∷◌, length, map, refl, sym, ◌∙◌, ap, subst, arith}
use Rattle.std.specs.Prelude.{◌==◌, ◌^◌, nat_lt, not, filter, Result, Ok, Err}
use Rattle.std.specs.List.{AllByRecursion, list_any}
use Rattle.std.proofs.lemmas.List.{length-map}
use Rattle.bl_site.specs.Disk.{Disk}
use Rattle.bl_names.specs.Names.{name_of}
use Rattle.bl_names.specs.declared.name.FileName.TheVariants.{Table, Blob}
use Rattle.bl_code.proofs.Basics.{all_from}
use Rattle.bl_code.specs.Reading.{◌>>=◌}
use Rattle.bl_edit.specs.declared.edit.BlobAddition.{BlobAddition}
use Rattle.bl_edit.specs.declared.edit.Edit.{Edit}
use Rattle.bl_edit.specs.declared.edit.NewTable.{NewTable}
use Rattle.bl_edit.specs.Options.{Values}
use Rattle.bl_entry.specs.declared.key.Entry.{Entry}
use Rattle.bl_entry.proofs.ItemLemmas.{all_of_map}
use Rattle.bl_build.specs.declared.error.BadVersion.{BadVersion}
use Rattle.bl_build.specs.declared.error.BadVersion.TheVariants.{UnknownTable, Twice, Overlap, UnknownBlob, Overflow}
use Rattle.bl_build.specs.declared.meta.BlobMeta.{BlobMeta}
use Rattle.bl_build.specs.Listing.{Listing, all_placed, blob_number, nothing, placed, table_rank}
use Rattle.bl_build.specs.Versions.{addition_numbers, after, apply, blob_numbers, first_over, first_overlap, first_twice, first_unknown, first_unknown_blob, from_linked, is_deleted, is_spent, new_blob, refuse, table_numbers, with_blobs, with_links, with_tables, without}
use Rattle.bl_flush.specs.Flushing.{Flushes}
use Rattle.bl_flush.specs.Jobs.{next_of}
use Rattle.bl_out.specs.Flushes.{Flushed, IsFlush, NewBlob, job_edit}
use Rattle.bl_out.specs.Reads.{IsSynced as IsAllSynced}
use Rattle.bl_out.specs.Tables.{TableFile}
use Rattle.bl_folder.specs.Flushes.{IsBelow}
use Rattle.bl_open.proofs.FlushedFiles.{below_more}
use Rattle.bl_open.specs.Beginning.{AddsFlush, AreNumbered}
use Rattle.bl_open.specs.Flushing.{DrawsFor}
use Rattle.bl_open.specs.declared.begin.Opened.{Opened}

-- ---- numbers of a version behind an edit

past : {A : Type 0} (r : Result (Unit {0}) BadVersion) (rest : Result A BadVersion) (v : A) → (r >>= λ _. rest) ≡ Ok v → rest ≡ Ok v
past (Ok x) rest v e = e
past (Err y) rest v e = absurd cc

ok_is : {A : Type 0} {x y : A} → ◌≡◌ {A = Result A BadVersion} (Ok x) (Ok y) → x ≡ y
ok_is e = cc e

after_is : (base : Listing) (e : Edit) (v : Listing) → apply base e ≡ Ok v → after base e ≡ v
unfolding apply
after_is base e v applied =
    let left = without e.deleted base.tables in
    let blobs = with_blobs e.blobs base.blobs in
    ok_is
    (past (refuse Overflow (first_over blobs e.garbage)) _ v
    (past (refuse UnknownBlob (first_unknown_blob blobs e.garbage)) _ v
    (past (refuse Overlap (first_overlap left e.added)) _ v
    (past (refuse Twice (first_twice (blob_numbers base.blobs) (addition_numbers e.blobs))) _ v
    (past (refuse Twice (first_twice (table_numbers left) (table_numbers e.added))) _ v
    (past (refuse UnknownTable (first_unknown base.tables e.deleted)) _ v applied))))))

if_all : {A : Type 0} (P : A → Type 0) (t : Bool) (xs ys : List A) → AllByRecursion P xs → AllByRecursion P ys → AllByRecursion P (cond t xs ys)
if_all P true xs ys h k = h
if_all P false xs ys h k = k

all_filter : {A : Type 0} (P : A → Type 0) (test : A → Bool) (xs : List A) → AllByRecursion P xs → AllByRecursion P (filter test xs)
all_filter P test [] h = tt
all_filter P test (x ∷ xs) h = if_all P (test x) (x ∷ filter test xs) (filter test xs) (h.0, all_filter P test xs h.1) (all_filter P test xs h.1)

all_placed_one : {A : Type 0} (P : A → Type 0) (key : A → ℕ) (x : A) (ys : List A) → P x → AllByRecursion P ys → AllByRecursion P (placed key x ys)
all_placed_one P key x [] p h = (p, tt)
all_placed_one P key x (y ∷ ys) p h = if_all P (nat_lt (key y) (key x)) (y ∷ placed key x ys) (x ∷ y ∷ ys) (h.0, all_placed_one P key x ys p h.1) (p, (h.0, h.1))

all_all_placed : {A : Type 0} (P : A → Type 0) (key : A → ℕ) (xs ys : List A) → AllByRecursion P xs → AllByRecursion P ys → AllByRecursion P (all_placed key xs ys)
all_all_placed P key [] ys h k = k
all_all_placed P key (x ∷ xs) ys h k = all_all_placed P key xs (placed key x ys) h.1 (all_placed_one P key x ys h.0 k)

linked_all : (P : BlobMeta → Type 0) (bs : List BlobMeta) → AllByRecursion P bs → AllByRecursion P (from_linked bs)
linked_all P [] h = tt
linked_all P (b ∷ bs) h = if_all P (b.linked == 0) (from_linked bs) (b ∷ bs) (linked_all P bs h.1) h

links_below : (next : ℕ) (ts : List NewTable) (bs : List BlobMeta) → AllByRecursion (λ b. b.number < next) bs → AllByRecursion (λ b. b.number < next) (with_links ts bs)
links_below next ts [] h = tt
links_below next ts (b ∷ bs) h = (h.0, links_below next ts bs h.1)

new_below : (next : ℕ) (added : List BlobAddition) → AllByRecursion (λ a. a.number < next) added → AllByRecursion (λ b. b.number < next) (map new_blob added)
new_below next [] h = tt
new_below next (a ∷ added) h = (h.0, new_below next added h.1)

pub below_behind : (base v : Listing) (f : Flushed) (next : ℕ) → IsBelow next base → AllByRecursion (λ t. t.meta.number < next) f.tables → AllByRecursion (λ b. b.named.number < next) f.blobs
    → apply base (job_edit f) ≡ Ok v → IsBelow next v
below_behind base v f next below tables blobs applied =
    let e : Edit = job_edit f in
    let is = after_is base e v applied in
    let tops : List NewTable = with_tables e.added (without e.deleted base.tables) in
    let files : List BlobMeta = with_blobs e.blobs base.blobs in
    let added = all_of_map (λ (t : TableFile). t.meta) (λ (t : NewTable). t.number < next) f.tables tables in
    let more = all_of_map (λ (b : NewBlob). b.named) (λ (a : BlobAddition). a.number < next) f.blobs blobs in
    subst (IsBelow next) is (record {
      tables = all_all_placed (λ (t : NewTable). t.number < next) table_rank e.added (without e.deleted base.tables) added
          (all_filter (λ (t : NewTable). t.number < next) (λ t. not (list_any (λ d. is_deleted d t) e.deleted)) base.tables below.tables);
      blobs = all_filter (λ (b : BlobMeta). b.number < next) (λ b. not (is_spent b)) (from_linked (with_links tops files)) (linked_all (λ b. b.number < next) (with_links tops files)
          (links_below next tops files (all_all_placed (λ (b : BlobMeta). b.number < next) blob_number (map new_blob e.blobs) base.blobs (new_below next e.blobs more) below.blobs)));
    })

-- a fresh folder's version, with no file more
pub nothing_added : (o : Opened) → AddsFlush nothing [] o → (o.version ≡ nothing) × (o.standing.next_file ≡ o.standing.log_number + 1)
unfolding apply
nothing_added o a =
    let none = a.none refl in
    let next = a.next ∙ ap (λ (f : Flushed). o.standing.log_number + 1 + (length f.tables + length f.blobs)) none in (
      sym (after_is nothing (job_edit a.files) o.version a.version_is) ∙ ap (λ f. after nothing (job_edit f)) none,
      omega (arith, next),
    )

-- ---- what the flush adds

no_one : {A : Type 0} (xs : List A) → length xs ≡ 0 → xs ≡ []
no_one [] e = refl
no_one (x ∷ xs) e = absurd (omega (arith, e))

no_files : (f : Flushed) → length (map (λ (t : TableFile). t.meta) f.tables) + length (map (λ (b : NewBlob). b.named) f.blobs) ≡ 0 → f ≡ record { tables = []; blobs = [] }
no_files f e =
    let ts = length-map f.tables (λ (t : TableFile). t.meta) in
    let bs = length-map f.blobs (λ (b : NewBlob). b.named) in
    let tables : f.tables ≡ [] = no_one f.tables (omega (arith, e, ts, bs)) in
    let blobs : f.blobs ≡ [] = no_one f.blobs (omega (arith, e, ts, bs)) in
    λ i. record { tables = tables i; blobs = blobs i }

module _ (version : Listing) (memory : List Entry) (options : Values) (from next : ℕ) (disk : Disk) (e : Edit) (flushes : Flushes options from next [] memory disk e) (draws : DrawsFor options memory from next e) where
  drawn_files : next ≡ from + (length flushes.files.tables + length flushes.files.blobs)
  drawn_files =
      let files = draws.files in
      let tables : length e.added ≡ length flushes.files.tables = ap (λ (x : Edit). length x.added) flushes.edit ∙ length-map flushes.files.tables (λ t. t.meta) in
      let blobs : length e.blobs ≡ length flushes.files.blobs = ap (λ (x : Edit). length x.blobs) flushes.edit ∙ length-map flushes.files.blobs (λ b. b.named) in
      omega (arith, files, tables, blobs)

  none_drawn : memory ≡ [] → flushes.files ≡ record { tables = []; blobs = [] }
  none_drawn none =
      let files = draws.files in
      let wanted : next ≡ from = draws.wanted ∙ ap (next_of options [] from) none in
      let tables : length e.added ≡ length (map (λ (t : TableFile). t.meta) flushes.files.tables) = ap (λ (x : Edit). length x.added) flushes.edit in
      let blobs : length e.blobs ≡ length (map (λ (b : NewBlob). b.named) flushes.files.blobs) = ap (λ (x : Edit). length x.blobs) flushes.edit in
      no_files flushes.files (omega (arith, files, wanted, tables, blobs))

  pub adds_flush : (o : Opened) → from ≡ o.standing.log_number + 1 → o.standing.next_file ≡ next → o.standing.options ≡ options → apply version e ≡ Ok o.version → AddsFlush version memory o
  adds_flush o at_from at_next are applied =
      let files = drawn_files in
      record {
        files = flushes.files;
        flush = subst (λ n. IsFlush o.standing.options.min_blob_size n [] memory flushes.files) at_from (subst (λ (v : Values). IsFlush v.min_blob_size from [] memory flushes.files) (sym are) flushes.flush);
        none = none_drawn;
        version_is = ap (apply version) (sym flushes.edit) ∙ applied;
        next = omega (arith, at_from, at_next, files);
        wanted = at_next ∙ draws.wanted ∙ (λ i. next_of (sym are i) [] (at_from i) memory);
      }

  pub are_numbered : (o : Opened) → from ≡ o.standing.log_number + 1 → o.standing.next_file ≡ next → o.standing.log_number ≡ o.manifest.number + 1 → next ≤ 10 ^ 15 → (first : ℕ) → first ≤ from → IsBelow first version
      → apply version e ≡ Ok o.version → AreNumbered o
  are_numbered o at_from at_next at_log most first le below applied =
      let files = drawn_files in
      record {
        log = at_log;
        next = omega (arith, at_from, at_next, files);
        version = subst (λ n. IsBelow n o.version) (sym at_next)
            (below_behind version o.version flushes.files next (below_more first next version (omega (arith, le, files)) below)
            (all_from (λ (t : TableFile). (t.meta.number < next) × IsAllSynced disk (name_of (Table t.meta.number))) (λ t. t.meta.number < next) flushes.files.tables (λ t s. s.0) flushes.tables)
            (all_from (λ (b : NewBlob). (b.named.number < next) × IsAllSynced disk (name_of (Blob b.named.number))) (λ b. b.named.number < next) flushes.files.blobs (λ b s. s.0) flushes.blobs)
            (ap (apply version) (sym flushes.edit) ∙ applied));
        most = omega (arith, at_next, most);
      }
