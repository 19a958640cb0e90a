-- Disks as if some files had been synced.
use Rattle.std.proofs.Common.{◌≡◌, ◌≢◌, ⊎_elim, inl, inr, ℕ, ◌<◌, ◌≤◌, List, [], ◌∷◌, ◌++◌, map, subst, Bool, true, false, cond, refl, sym, ◌∙◌, ap, arith, Option, None, Some}
use Rattle.std.proofs.lemmas.Map.Text.{is_eq-slice_cmp}
use Rattle.std.proofs.lemmas.Slice.Eq.{bytes_eq-Decides}
use Rattle.std.specs.Option.{option_map}
use Rattle.std.specs.Prelude.{◌^◌, IsTrue}
use Rattle.std.specs.List.{AllByRecursion}
use Rattle.bl_code.proofs.Basics.{all_from}
use Rattle.bl_entry.proofs.ItemLemmas.{all_of_map}
use Rattle.bl_entry.proofs.ListLemmas.{all_append}
use Rattle.bl_entry.specs.declared.key.Entry.{Entry}
use Rattle.bl_edit.specs.Bounds.{is_number, table_fits}
use Rattle.bl_edit.specs.Options.{Values}
use Rattle.bl_edit.specs.declared.edit.Edit.{Edit}
use Rattle.bl_edit.specs.declared.edit.NewTable.{NewTable}
use Rattle.bl_build.specs.declared.meta.BlobMeta.{BlobMeta}
use Rattle.bl_build.specs.Listing.{Listing}
use Rattle.bl_build.specs.Restoring.{Restored}
use Rattle.bl_build.specs.Versions.{IsVersion}
use Rattle.bl_flush.specs.Flushing.{Flushes}
use Rattle.bl_out.proofs.AmongLemmas.{Among, among_left, among_right}
use Rattle.bl_out.specs.Flushes.{HasFlush, IsNewBlob, IsNewTable, NewBlob}
use Rattle.bl_out.specs.Reads.{IsSynced as IsAllSynced}
use Rattle.bl_out.specs.Tables.{TableFile}
use Rattle.bl_folder.proofs.Finding.{from_test}
use Rattle.bl_folder.specs.Flushes.{IsBelow}
use Rattle.bl_folder.specs.Settled.{IsSynced, IsSyncedFile, NamesSynced}
use Rattle.bl_open.specs.Flushing.{KeepsOthers}
use Rattle.bl_site.specs.Disk.{Disk, File, Folder, Name, folder_of}
use Rattle.bl_site.specs.Calls.{Creates, Renames}
use Rattle.bl_code.specs.Order.{same_bytes}
use Rattle.bl_names.specs.declared.name.FileName.{FileName}
use Rattle.bl_names.specs.declared.name.FileName.TheVariants.{Current, Manifest, Log, Table, Blob, Temp}
use Rattle.bl_names.specs.Names.{HasNumber, NamesOne, name_of}
use Rattle.bl_open.proofs.FrameLemmas.{all_both, apart, fits_number}
use Rattle.bl_open.specs.SteadyCalls.{KeepsAllBut}
use Rattle.bl_open.specs.Synced.{AreFilesBelow, IsFileBelow, as_synced, synced_file}

-- ---- what a name reads

read_in : Option File → Option (List ℕ)
read_in o = option_map (λ (x : File). x.read) o

reads_synced : (o : Option File) → read_in (option_map synced_file o) ≡ read_in o
unfolding read_in
reads_synced None = refl
reads_synced (Some x) = refl

reads_one : (b : Bool) (o : Option File) → read_in (cond b (option_map synced_file o) o) ≡ read_in o
unfolding read_in
reads_one true o = reads_synced o
reads_one false o = refl

reads_at : (names : List Name) (disk : Disk) (name : Name) → folder_of (as_synced names disk) name ≡ folder_of disk name
unfolding read_in
reads_at [] disk name = refl
reads_at (n ∷ more) disk name = reads_one (same_bytes n name) (as_synced more disk name) ∙ reads_at more disk name

-- it reads as before
pub same_folder : (names : List Name) (disk : Disk) → folder_of (as_synced names disk) ≡ folder_of disk
same_folder names disk = λ i name. reads_at names disk name i

-- ---- a call on one file

-- what is the same of two disks is the same of both as if synced
pub same_at : (names : List Name) (old new : Disk) (name : Name) → new name ≡ old name → as_synced names new name ≡ as_synced names old name
same_at [] old new name same = same
same_at (n ∷ more) old new name same = ap (λ (o : Option File). cond (same_bytes n name) (option_map synced_file o) o) (same_at more old new name same)

pub keeps_synced : (names : List Name) (name : Name) (old new : Disk) → KeepsAllBut name old new → KeepsAllBut name (as_synced names old) (as_synced names new)
keeps_synced names name old new keeps other ne = same_at names old new other (keeps other ne)

-- ---- other files

-- the file is no table and no blob file with a number below this one
abbrev pub IsApart : ℕ → FileName → Type 0
IsApart next Current = Unit {0}
IsApart next (Manifest n) = Unit {0}
IsApart next (Log n) = Unit {0}
IsApart next (Table n) = next ≤ n
IsApart next (Blob n) = next ≤ n
IsApart next (Temp n) = Unit {0}

not_table : (next : ℕ) (f : FileName) (n : ℕ) → IsApart next f → n < next → f ≢ Table n
not_table next Current n apart_ less e = cc e
not_table next (Manifest m) n apart_ less e = cc e
not_table next (Log m) n apart_ less e = cc e
not_table next (Table m) n apart_ less e = let same : m ≡ n = cc e in absurd (omega (arith, apart_, less, same))
not_table next (Blob m) n apart_ less e = cc e
not_table next (Temp m) n apart_ less e = cc e

not_blob : (next : ℕ) (f : FileName) (n : ℕ) → IsApart next f → n < next → f ≢ Blob n
not_blob next Current n apart_ less e = cc e
not_blob next (Manifest m) n apart_ less e = cc e
not_blob next (Log m) n apart_ less e = cc e
not_blob next (Table m) n apart_ less e = cc e
not_blob next (Blob m) n apart_ less e = let same : m ≡ n = cc e in absurd (omega (arith, apart_, less, same))
not_blob next (Temp m) n apart_ less e = cc e

pub eq_of_bytes : (a b : List ℕ) → same_bytes a b ≡ true → a ≡ b
eq_of_bytes a b h = (bytes_eq-Decides a b).0 (sym (is_eq-slice_cmp a b) ∙ h)

pub not_same : (a b : List ℕ) → same_bytes a b ≡ false → a ≢ b
not_same a b h e = let is : same_bytes a b ≡ true = is_eq-slice_cmp a b ∙ (bytes_eq-Decides a b).1 e in cc (h, is)

pub of_test : {P : Type 0} (b : Bool) → (b ≡ true → P) → (b ≡ false → P) → P
of_test true so not_so = so refl
of_test false so not_so = not_so refl

pub unsynced_at : NamesOne → (next : ℕ) (names : List Name) (disk : Disk) (f : FileName) → AreFilesBelow next names → HasNumber f → IsApart next f → as_synced names disk (name_of f) ≡ disk (name_of f)
unsynced_at one next [] disk f below has off = refl
unsynced_at one next (n ∷ more) disk f below has off =
    let (k, is, less, which) = below.0 in
    let ne : n ≢ name_of f = λ e. ⊎_elim
    (λ table. apart one f (Table k) has is (not_table next f k off less) (sym e ∙ table))
    (λ blob. apart one f (Blob k) has is (not_blob next f k off less) (sym e ∙ blob)) which in
    let rest = unsynced_at one next more disk f below.1 has off in
    of_test (same_bytes n (name_of f))
    (λ same. absurd (ne (eq_of_bytes n (name_of f) same)))
    (λ other. ap (λ b. cond b (option_map synced_file (as_synced more disk (name_of f))) (as_synced more disk (name_of f))) other ∙ rest)

pub creates_synced : NamesOne → (next : ℕ) (names : List Name) (old new : Disk) (f : FileName) → AreFilesBelow next names → HasNumber f → IsApart next f
    → Creates (name_of f) old new → Creates (name_of f) (as_synced names old) (as_synced names new)
creates_synced one next names old new f below has off made = record {
  at = unsynced_at one next names new f below has off ∙ made.at;
  others = λ other ne. same_at names old new other (made.others other ne);
}

pub renames_synced : NamesOne → (next : ℕ) (names : List Name) (old new : Disk) (f g : FileName) → AreFilesBelow next names → HasNumber f → IsApart next f → HasNumber g → IsApart next g
    → Renames (name_of f) (name_of g) old new → Renames (name_of f) (name_of g) (as_synced names old) (as_synced names new)
renames_synced one next names old new f g below has off has_too off_too did = record {
  at = unsynced_at one next names new g below has_too off_too ∙ did.at ∙ sym (unsynced_at one next names old f below has off);
  gone = λ ne. unsynced_at one next names new f below has off ∙ did.gone ne;
  others = λ other from to. same_at names old new other (did.others other from to);
}

-- ---- the files of a flush

moved : NamesOne → (next : ℕ) (names : List Name) (disk : Disk) (f : FileName) → AreFilesBelow next names → HasNumber f → IsApart next f → IsAllSynced disk (name_of f) → IsAllSynced (as_synced names disk) (name_of f)
moved one next names disk f below has off s = record { file = s.file; there = unsynced_at one next names disk f below has off ∙ s.there; front = s.front; handed = s.handed }

pub flushes_synced : NamesOne → (first from next : ℕ) (names : List Name) (options : Values) (memory : List Entry) (disk : Disk) (e : Edit) → AreFilesBelow first names → 1 ≤ first → first ≤ from → next ≤ 10 ^ 15
    → Flushes options from next [] memory disk e → Flushes options from next [] memory (as_synced names disk) e
flushes_synced one first from next names options memory disk e below some above most f = record {
  files = f.files;
  edit = f.edit;
  flush = f.flush;
  has = subst (λ (folder : Folder). HasFlush folder f.files) (sym (same_folder names disk)) f.has;
  tables = all_both (IsNewTable from) (λ (t : TableFile). (t.meta.number < next) × IsAllSynced disk (name_of (Table t.meta.number))) (λ t. (t.meta.number < next) × IsAllSynced (as_synced names disk) (name_of (Table t.meta.number))) f.files.tables
      (λ t new s. let low = new.number in let high = s.0 in (high, moved one first names disk (Table t.meta.number) below (omega (arith, some, above, low), omega (arith, high, most)) (omega (arith, above, low)) s.1)) f.flush.tables f.tables;
  blobs = all_both (IsNewBlob from) (λ (b : NewBlob). (b.named.number < next) × IsAllSynced disk (name_of (Blob b.named.number))) (λ b. (b.named.number < next) × IsAllSynced (as_synced names disk) (name_of (Blob b.named.number))) f.files.blobs
      (λ b new s. let low = new.number in let high = s.0 in (high, moved one first names disk (Blob b.named.number) below (omega (arith, some, above, low), omega (arith, high, most)) (omega (arith, above, low)) s.1)) f.flush.blobs f.blobs;
}

pub others_synced : (from : ℕ) (names : List Name) (old new : Disk) → KeepsOthers from old new → KeepsOthers from (as_synced names old) (as_synced names new)
others_synced from names old new keeps name is = same_at names old new name (keeps name is)

-- ---- the files of a version

abbrev pub files_of : Listing → List Name
files_of v = map (λ t. name_of (Table t.number)) v.tables ++ map (λ b. name_of (Blob b.number)) v.blobs

was_synced : (o : Option File) (x : File) → option_map synced_file o ≡ Some x → IsSyncedFile x
was_synced None x e = absurd (cc e)
was_synced (Some y) x e = subst IsSyncedFile (some_is e) (record { handed = refl; front = refl })
  where
    some_is : {A : Type 0} {a b : A} → Some a ≡ Some b → a ≡ b
    some_is e = cc e

covered : (names : List Name) (disk : Disk) (name : Name) → Among name names → (x : File) → as_synced names disk name ≡ Some x → IsSyncedFile x
covered [] disk name there x at = absurd there
covered (n ∷ more) disk name (inl is) x at = of_test (same_bytes n name)
    (λ same. was_synced (as_synced more disk name) x (sym (ap (λ b. cond b (option_map synced_file (as_synced more disk name)) (as_synced more disk name)) same) ∙ at))
    (λ other. absurd (not_same n name other is))
covered (n ∷ more) disk name (inr rest) x at = of_test (same_bytes n name)
    (λ same. was_synced (as_synced more disk name) x (sym (ap (λ b. cond b (option_map synced_file (as_synced more disk name)) (as_synced more disk name)) same) ∙ at))
    (λ other. covered more disk name rest x (sym (ap (λ b. cond b (option_map synced_file (as_synced more disk name)) (as_synced more disk name)) other) ∙ at))

all_named : {A : Type 0} (f : A → Name) (xs : List A) → AllByRecursion (λ x. Among (f x) (map f xs)) xs
all_named f [] = tt
all_named f (x ∷ xs) = (inl refl, all_from (λ y. Among (f y) (map f xs)) (λ y. Among (f y) (f x ∷ map f xs)) xs (λ y there. inr there) (all_named f xs))

pub named_synced : (live : Restored) (disk : Disk) → NamesSynced (as_synced (files_of live.version) disk) live
named_synced live disk =
    let tables = map (λ (t : NewTable). name_of (Table t.number)) live.version.tables in
    let blobs = map (λ (b : BlobMeta). name_of (Blob b.number)) live.version.blobs in
    record {
      tables = all_from (λ (t : NewTable). Among (name_of (Table t.number)) tables) (λ t. IsSynced (as_synced (files_of live.version) disk) (Table t.number)) live.version.tables
          (λ t there. covered (tables ++ blobs) disk (name_of (Table t.number)) (among_left tables blobs (name_of (Table t.number)) there)) (all_named (λ (t : NewTable). name_of (Table t.number)) live.version.tables);
      blobs = all_from (λ (b : BlobMeta). Among (name_of (Blob b.number)) blobs) (λ b. IsSynced (as_synced (files_of live.version) disk) (Blob b.number)) live.version.blobs
          (λ b there. covered (tables ++ blobs) disk (name_of (Blob b.number)) (among_right tables blobs (name_of (Blob b.number)) there)) (all_named (λ (b : BlobMeta). name_of (Blob b.number)) live.version.blobs);
    }

pub files_below : (v : Listing) (next : ℕ) → IsVersion v → IsBelow next v → AreFilesBelow next (files_of v)
files_below v next is below = all_append (IsFileBelow next) (map (λ (t : NewTable). name_of (Table t.number)) v.tables) (map (λ (b : BlobMeta). name_of (Blob b.number)) v.blobs)
    (all_of_map (λ (t : NewTable). name_of (Table t.number)) (IsFileBelow next) v.tables
    (all_both (λ (t : NewTable). IsTrue (table_fits t)) (λ t. t.number < next) (λ t. IsFileBelow next (name_of (Table t.number))) v.tables (λ t fits less. (t.number, fits_number t fits, less, inl refl)) is.tables_fit below.tables))
    (all_of_map (λ (b : BlobMeta). name_of (Blob b.number)) (IsFileBelow next) v.blobs
    (all_both (λ (b : BlobMeta). IsTrue (is_number b.number)) (λ b. b.number < next) (λ b. IsFileBelow next (name_of (Blob b.number))) v.blobs (λ b fits less. (b.number, from_test b.number fits, less, inr refl)) is.blobs_fit below.blobs))
