-- What the parts of an opening answer is what it is refused for.
use Rattle.std.proofs.Common.{◌≡◌, ◌⊎◌, inl, inr, ℕ, Bool, true, false, Option, None, Some, Result, Ok, Err, IsSome, refl, sym, subst}
use Rattle.std.specs.Prelude.{◌==◌, IfErr}
use Rattle.bl_code.specs.Reading.{need, ◌>>=◌}
use Rattle.bl_site.specs.Disk.{Folder, Name}
use Rattle.bl_names.specs.Names.{manifest_name}
use Rattle.bl_names.specs.declared.name.FileName.TheVariants.{Manifest}
use Rattle.bl_edit.specs.Options.{Values}
use Rattle.bl_build.specs.Restoring.{Restored}
use Rattle.bl_manifest.specs.Restores.{HasRestored, IsDamaged as IsManifestDamaged}
use Rattle.bl_manifest.specs.declared.error.ManifestErr.{ManifestErr}
use Rattle.bl_manifest.specs.declared.error.ManifestErr.TheVariants as manifest
use Rattle.bl_out.specs.Files.{file}
use Rattle.bl_folder.specs.Live.{IsLive}
use Rattle.bl_open.specs.Answers.{IsLoading, IsReading}
use Rattle.bl_open.specs.Causes.{of_manifest}
use Rattle.bl_open.specs.Damage.{NamesManifest}
use Rattle.bl_open.specs.Options.{Words, check_option, check_options}
use Rattle.bl_open.specs.Recovering.{IsRefused, IsRefusal}
use Rattle.bl_open.specs.declared.error.OpenErr.{OpenErr}
use Rattle.bl_open.specs.declared.error.OpenErr.TheVariants.{Disk, Corrupt, Full, Differ, OutOfMemory}

pub live_of_restored : (folder : Folder) (number : ℕ) (r : Restored) → NamesManifest folder number → HasRestored folder number r → IsLive folder number r
live_of_restored folder number r named has = record { number = named.number; current = named.current; bytes = has.bytes; there = has.there; restores = has.restores }

pub some_of : {A : Type 0} (o : Option A) (x : A) → o ≡ Some x → IsSome o
some_of o x e = subst IsSome (sym e) refl

-- ---- the manifest

pub manifest_refused : (folder : Folder) (words : Words) (number : ℕ) (e : ManifestErr) (f : OpenErr) → NamesManifest folder number → f ≡ of_manifest e
    → ((name : Name) (place : ℕ) → e ≡ manifest.Corrupt name place → (name ≡ manifest_name number) × IsManifestDamaged folder number place) → IsRefusal f → IsRefused folder words f
manifest_refused folder words number manifest.Disk f named is corrupt tells = absurd (subst IsRefusal is tells)
manifest_refused folder words number manifest.OutOfMemory f named is corrupt tells = absurd (subst IsRefusal is tells)
manifest_refused folder words number (manifest.Corrupt name place) f named is corrupt tells =
    let at = corrupt name place refl in
    subst (IsRefused folder words) (sym is) (inl (inr (inr (number, named, at.0, at.1))))

pub manifest_not_full : (e : ManifestErr) (f : OpenErr) (n : ℕ) → f ≡ of_manifest e → f ≡ Full n → ⊥
manifest_not_full manifest.Disk f n is full = cc (is, full)
manifest_not_full (manifest.Corrupt name place) f n is full = cc (is, full)
manifest_not_full manifest.OutOfMemory f n is full = cc (is, full)

-- it is not there
pub missing_refused : (folder : Folder) (words : Words) (number : ℕ) (f : OpenErr) → NamesManifest folder number → (f ≡ OutOfMemory) ⊎ (f ≡ Corrupt (manifest_name number) 0)
    → ((name : Name) (place : ℕ) → f ≡ Corrupt name place → file folder (Manifest number) ≡ None) → IsRefusal f → IsRefused folder words f
missing_refused folder words number f named (inl is) absent tells = absurd (subst IsRefusal is tells)
missing_refused folder words number f named (inr is) absent tells =
    subst (IsRefused folder words) (sym is) (inl (inr (inr (number, named, refl, inl (absent (manifest_name number) 0 is, refl)))))

pub missing_not_full : (name : Name) (f : OpenErr) (n : ℕ) → (f ≡ OutOfMemory) ⊎ (f ≡ Corrupt name 0) → f ≡ Full n → ⊥
missing_not_full name f n (inl is) full = cc (is, full)
missing_not_full name f n (inr is) full = cc (is, full)

-- ---- the words

IsDiffer : OpenErr → Type 0
IsDiffer Disk = ⊥
IsDiffer (Corrupt name place) = ⊥
IsDiffer (Full next) = ⊥
IsDiffer (Differ option stored asked) = Unit {0}
IsDiffer OutOfMemory = ⊥

need_differs : (b : Bool) (option stored asked : ℕ) → IfErr (need b (Differ option stored asked)) IsDiffer
unfolding IsDiffer
need_differs true option stored asked = tt
need_differs false option stored asked = tt

one_differs : (option stored : ℕ) (asked : Option ℕ) → IfErr (check_option option stored asked) IsDiffer
one_differs option stored None = tt
one_differs option stored (Some asked) = need_differs (asked == stored) option stored asked

then_differs : (r s : Result (Unit {0}) OpenErr) → IfErr r IsDiffer → IfErr s IsDiffer → IfErr (r >>= λ done. s) IsDiffer
then_differs (Ok x) s p q = q
then_differs (Err e) s p q = p

all_differ : (v : Values) (w : Words) → IfErr (check_options v w) IsDiffer
unfolding check_options
all_differ v w =
    then_differs (check_option 1 v.min_blob_size w.min_blob_size) _ (one_differs 1 v.min_blob_size w.min_blob_size)
    (then_differs (check_option 2 v.blob_file_size w.blob_file_size) _ (one_differs 2 v.blob_file_size w.blob_file_size)
    (then_differs (check_option 3 v.write_buffer w.write_buffer) _ (one_differs 3 v.write_buffer w.write_buffer)
    (then_differs (check_option 4 v.table_size w.table_size) _ (one_differs 4 v.table_size w.table_size)
    (then_differs (check_option 5 v.level0_trigger w.level0_trigger) _ (one_differs 5 v.level0_trigger w.level0_trigger)
    (then_differs (check_option 6 v.level_base w.level_base) _ (one_differs 6 v.level_base w.level_base)
    (then_differs (check_option 7 v.level_factor w.level_factor) _ (one_differs 7 v.level_factor w.level_factor)
    (then_differs (check_option 8 v.age_cutoff w.age_cutoff) _ (one_differs 8 v.age_cutoff w.age_cutoff)
    (then_differs (check_option 9 v.force_threshold w.force_threshold) (Ok tt) (one_differs 9 v.force_threshold w.force_threshold) tt))))))))

differ_of : (v : Values) (w : Words) (f : OpenErr) → check_options v w ≡ Err f → IsDiffer f
differ_of v w f e = subst (λ (r : Result (Unit {0}) OpenErr). IfErr r IsDiffer) e (all_differ v w)

pub words_refused : (folder : Folder) (words : Words) (number : ℕ) (live : Restored) (f : OpenErr) → IsLive folder number live → check_options live.standing.options words ≡ Err f → IsRefused folder words f
unfolding IsDiffer
words_refused folder words number live f is e = by f (differ_of live.standing.options words f e) e
  where
    by : (f : OpenErr) → IsDiffer f → check_options live.standing.options words ≡ Err f → IsRefused folder words f
    by Disk d e = absurd d
    by (Corrupt name place) d e = absurd d
    by (Full next) d e = absurd d
    by OutOfMemory d e = absurd d
    by (Differ option stored asked) d e = (number, (live, is, e))

pub words_not_full : (v : Values) (w : Words) (f : OpenErr) (n : ℕ) → check_options v w ≡ Err f → f ≡ Full n → ⊥
unfolding IsDiffer
words_not_full v w f n e full = subst IsDiffer full (differ_of v w f e)

pub words_load : (v : Values) (w : Words) (f : OpenErr) → check_options v w ≡ Err f → IsLoading f
unfolding IsDiffer
words_load v w f e = by f (differ_of v w f e)
  where
    by : (f : OpenErr) → IsDiffer f → IsLoading f
    by Disk d = tt
    by (Corrupt name place) d = tt
    by (Full next) d = absurd d
    by OutOfMemory d = tt
    by (Differ option stored asked) d = tt

pub words_not_disk : (v : Values) (w : Words) (f : OpenErr) → check_options v w ≡ Err f → f ≡ Disk → ⊥
unfolding IsDiffer
words_not_disk v w f e disk = subst IsDiffer disk (differ_of v w f e)

-- ---- the files and the logs

pub reading_refused : (folder : Folder) (words : Words) (f : OpenErr) → IsReading f → ((name : Name) (place : ℕ) → f ≡ Corrupt name place → IsRefused folder words (Corrupt name place)) → IsRefusal f → IsRefused folder words f
reading_refused folder words Disk reading corrupt tells = absurd tells
reading_refused folder words (Corrupt name place) reading corrupt tells = corrupt name place refl
reading_refused folder words (Full next) reading corrupt tells = absurd reading
reading_refused folder words (Differ option stored asked) reading corrupt tells = absurd reading
reading_refused folder words OutOfMemory reading corrupt tells = absurd tells

pub reading_not_full : (f : OpenErr) (n : ℕ) → IsReading f → f ≡ Full n → ⊥
reading_not_full f n reading full = subst IsReading full reading

pub reading_loads : (f : OpenErr) → IsReading f → IsLoading f
reading_loads Disk r = tt
reading_loads (Corrupt name place) r = tt
reading_loads (Full next) r = r
reading_loads (Differ option stored asked) r = absurd r
reading_loads OutOfMemory r = tt

pub loading_not_full : (f : OpenErr) (n : ℕ) → IsLoading f → f ≡ Full n → ⊥
loading_not_full f n loading full = subst IsLoading full loading
