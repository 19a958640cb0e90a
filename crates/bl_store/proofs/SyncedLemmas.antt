-- Disks as if some files had been synced.
use Rattle.std.proofs.Common.{◌≡◌, ◌≢◌, ⊎_elim, ℕ, ◌<◌, ◌≤◌, List, [], ◌∷◌, Bool, true, false, cond, refl, sym, ◌∙◌, ap, arith, Option, None, Some}
use Rattle.std.proofs.lemmas.Map.Text.{is_eq-slice_cmp}
use Rattle.std.proofs.lemmas.Slice.Eq.{bytes_eq-Decides}
use Rattle.std.specs.Option.{option_map}
use Rattle.bl_site.specs.Disk.{Disk, File, Name, folder_of}
use Rattle.bl_site.specs.Calls.{Creates}
use Rattle.bl_code.specs.Order.{same_bytes}
use Rattle.bl_names.specs.declared.name.FileName.{FileName}
use Rattle.bl_names.specs.declared.name.FileName.TheVariants.{Current, Manifest, Log, Table, Blob, Temp}
use Rattle.bl_names.specs.Names.{HasNumber, NamesOne, name_of}
use Rattle.bl_open.proofs.FrameLemmas.{apart}
use Rattle.bl_open.specs.SteadyCalls.{KeepsAllBut}
use Rattle.bl_open.specs.Synced.{AreFilesBelow, as_synced, synced_file}

-- ---- what a name reads

read_in : Option File → Option (List ℕ)
read_in o = option_map (λ (x : File). x.read) o

reads_synced : (o : Option File) → read_in (option_map synced_file o) ≡ read_in o
unfolding read_in
reads_synced None = refl
reads_synced (Some x) = refl

reads_one : (b : Bool) (o : Option File) → read_in (cond b (option_map synced_file o) o) ≡ read_in o
unfolding read_in
reads_one true o = reads_synced o
reads_one false o = refl

reads_at : (names : List Name) (disk : Disk) (name : Name) → folder_of (as_synced names disk) name ≡ folder_of disk name
unfolding read_in
reads_at [] disk name = refl
reads_at (n ∷ more) disk name = reads_one (same_bytes n name) (as_synced more disk name) ∙ reads_at more disk name

-- it reads as before
pub same_folder : (names : List Name) (disk : Disk) → folder_of (as_synced names disk) ≡ folder_of disk
same_folder names disk = λ i name. reads_at names disk name i

-- ---- a call on one file

-- what is the same of two disks is the same of both as if synced
pub same_at : (names : List Name) (old new : Disk) (name : Name) → new name ≡ old name → as_synced names new name ≡ as_synced names old name
same_at [] old new name same = same
same_at (n ∷ more) old new name same = ap (λ (o : Option File). cond (same_bytes n name) (option_map synced_file o) o) (same_at more old new name same)

pub keeps_synced : (names : List Name) (name : Name) (old new : Disk) → KeepsAllBut name old new → KeepsAllBut name (as_synced names old) (as_synced names new)
keeps_synced names name old new keeps other ne = same_at names old new other (keeps other ne)

-- ---- other files

-- the file is no table and no blob file with a number below this one
abbrev pub IsApart : ℕ → FileName → Type 0
IsApart next Current = Unit {0}
IsApart next (Manifest n) = Unit {0}
IsApart next (Log n) = Unit {0}
IsApart next (Table n) = next ≤ n
IsApart next (Blob n) = next ≤ n
IsApart next (Temp n) = Unit {0}

not_table : (next : ℕ) (f : FileName) (n : ℕ) → IsApart next f → n < next → f ≢ Table n
not_table next Current n apart_ less e = cc e
not_table next (Manifest m) n apart_ less e = cc e
not_table next (Log m) n apart_ less e = cc e
not_table next (Table m) n apart_ less e = let same : m ≡ n = cc e in absurd (omega (arith, apart_, less, same))
not_table next (Blob m) n apart_ less e = cc e
not_table next (Temp m) n apart_ less e = cc e

not_blob : (next : ℕ) (f : FileName) (n : ℕ) → IsApart next f → n < next → f ≢ Blob n
not_blob next Current n apart_ less e = cc e
not_blob next (Manifest m) n apart_ less e = cc e
not_blob next (Log m) n apart_ less e = cc e
not_blob next (Table m) n apart_ less e = cc e
not_blob next (Blob m) n apart_ less e = let same : m ≡ n = cc e in absurd (omega (arith, apart_, less, same))
not_blob next (Temp m) n apart_ less e = cc e

pub eq_of_bytes : (a b : List ℕ) → same_bytes a b ≡ true → a ≡ b
eq_of_bytes a b h = (bytes_eq-Decides a b).0 (sym (is_eq-slice_cmp a b) ∙ h)

pub not_same : (a b : List ℕ) → same_bytes a b ≡ false → a ≢ b
not_same a b h e = let is : same_bytes a b ≡ true = is_eq-slice_cmp a b ∙ (bytes_eq-Decides a b).1 e in cc (h, is)

pub of_test : {P : Type 0} (b : Bool) → (b ≡ true → P) → (b ≡ false → P) → P
of_test true so not_so = so refl
of_test false so not_so = not_so refl

pub unsynced_at : NamesOne → (next : ℕ) (names : List Name) (disk : Disk) (f : FileName) → AreFilesBelow next names → HasNumber f → IsApart next f → as_synced names disk (name_of f) ≡ disk (name_of f)
unsynced_at one next [] disk f below has off = refl
unsynced_at one next (n ∷ more) disk f below has off =
    let (k, is, less, which) = below.0 in
    let ne : n ≢ name_of f = λ e. ⊎_elim
    (λ table. apart one f (Table k) has is (not_table next f k off less) (sym e ∙ table))
    (λ blob. apart one f (Blob k) has is (not_blob next f k off less) (sym e ∙ blob)) which in
    let rest = unsynced_at one next more disk f below.1 has off in
    of_test (same_bytes n (name_of f))
    (λ same. absurd (ne (eq_of_bytes n (name_of f) same)))
    (λ other. ap (λ b. cond b (option_map synced_file (as_synced more disk (name_of f))) (as_synced more disk (name_of f))) other ∙ rest)

pub creates_synced : NamesOne → (next : ℕ) (names : List Name) (old new : Disk) (f : FileName) → AreFilesBelow next names → HasNumber f → IsApart next f
    → Creates (name_of f) old new → Creates (name_of f) (as_synced names old) (as_synced names new)
creates_synced one next names old new f below has off made = record {
  at = unsynced_at one next names new f below has off ∙ made.at;
  others = λ other ne. same_at names old new other (made.others other ne);
}

-- numbers go on
pub below_more : (from next : ℕ) (names : List Name) → from ≤ next → AreFilesBelow from names → AreFilesBelow next names
below_more from next [] le below = tt
below_more from next (n ∷ more) le below =
    let (k, is, less, which) = below.0 in
    ((k, is, omega (arith, less, le), which), below_more from next more le below.1)
