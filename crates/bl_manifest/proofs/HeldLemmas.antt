-- What a manifest holds, where its file holds the records of edits.
use Rattle.std.proofs.Common.{◌≡◌, inl, inr, ℕ, ◌+◌, true, false, List, [], ◌∷◌, ◌++◌, length, map, Ok, Err, refl, sym, ◌∙◌, ap, subst, length-append}
use Rattle.std.proofs.lemmas.List.{map-append}
use Rattle.bl_site.specs.Disk.{Disk}
use Rattle.bl_names.specs.Names.{manifest_name}
use Rattle.bl_edit.specs.Reading.{read_edit}
use Rattle.bl_edit.specs.Spelling.{edit_bytes}
use Rattle.bl_edit.specs.declared.edit.Edit.{Edit}
use Rattle.bl_records.specs.WrittenFile.{WrittenFile}
use Rattle.bl_records.specs.Held.{HoldsRecords, HoldsOneMoreSynced}
use Rattle.bl_records.specs.declared.error.RecordErr.{RecordErr}
use Rattle.bl_records.specs.declared.error.RecordErr.TheVariants as record_err
use Rattle.bl_manifest.specs.Causes.{error_of}
use Rattle.bl_manifest.specs.ManifestFile.{ManifestFile, file_of}
use Rattle.bl_manifest.specs.Held.{Edits, AreReadBack, HoldsEdits, HoldsOneMore}
use Rattle.bl_manifest.proofs.EditLemmas.{edits_join, one_edit_more}

pub are_more : (edits : Edits) (e : Edit) → AreReadBack edits → AreReadBack (e ∷ []) → AreReadBack (edits ++ e ∷ [])
are_more edits e are one = rw (map-append edit_bytes edits (e ∷ [])) (edits_join (map edit_bytes edits) (map edit_bytes (e ∷ [])) edits (e ∷ []) are one)

pub one_read_back : (e : Edit) (payload : List ℕ) → payload ≡ edit_bytes e → read_edit payload ≡ Ok e → AreReadBack (e ∷ [])
one_read_back e payload are read = one_edit_more (edit_bytes e) [] e [] (ap read_edit (sym are) ∙ read) refl

-- ---- in the words of the code

abbrev pub manifest_at : ℕ → WrittenFile → ManifestFile
manifest_at number file = record { number = number; place = file.place; failed = file.failed }

file_is : (number : ℕ) (file : WrittenFile) → file.name ≡ manifest_name number → file ≡ file_of (manifest_at number file)
file_is number file named = let P : List ℕ → WrittenFile = λ n. record { name = n; place = file.place; failed = file.failed } in ap P named

-- the records of edits, by the manifest that their file is
pub records_of : (disk : Disk) (number : ℕ) (file : WrittenFile) (manifest : ManifestFile) (edits : Edits) (synced : ℕ) → manifest_at number file ≡ manifest → file.name ≡ manifest_name number
    → HoldsEdits disk manifest edits synced → HoldsRecords disk file (map edit_bytes edits) synced
records_of disk number file manifest edits synced is named h =
    let P : WrittenFile → Type 0 = λ f. HoldsRecords disk f (map edit_bytes edits) synced in
    subst P (sym (file_is number file named ∙ ap file_of is)) h.records

-- an append to this file, about this edit
pub record Appended (number : ℕ) (file : WrittenFile) (edits : Edits) (e : Edit) (payload : List ℕ) (synced : ℕ) : Type 0 where
  pub named : file.name ≡ manifest_name number
  pub payload_is : payload ≡ edit_bytes e
  pub are : AreReadBack edits
  pub one : AreReadBack (e ∷ [])
  pub whole : synced ≡ length edits

module _ (disk : Disk) (number : ℕ) (file : WrittenFile) (edits : Edits) (e : Edit) (payload : List ℕ) (synced : ℕ) (a : Appended number file edits e payload synced) where
  -- one edit more
  pub one_more : (now : ℕ) → (file.failed ≡ false → now ≡ length edits + 1) → HoldsRecords disk file (map edit_bytes edits ++ payload ∷ []) now → HoldsEdits disk (manifest_at number file) (edits ++ e ∷ []) now
  one_more now all h =
      let P : WrittenFile → Type 0 = λ f. HoldsRecords disk f (map edit_bytes edits ++ payload ∷ []) now in
      let Q : List (List ℕ) → Type 0 = λ ps. HoldsRecords disk (file_of (manifest_at number file)) ps now in
      record {
        records = subst Q (ap (λ p. map edit_bytes edits ++ p ∷ []) a.payload_is ∙ sym (map-append edit_bytes edits (e ∷ []))) (subst P (file_is number file a.named) h);
        are = are_more edits e a.are a.one;
        all_synced = λ still. all still ∙ sym (length-append edits (e ∷ []));
      }

  never : file.failed ≡ true → file.failed ≡ false → synced ≡ length edits + 1
  never failed still = absurd (let wrong : true ≡ false = sym failed ∙ still in cc wrong)

  pub failed_append : (error : RecordErr) → (error ≡ record_err.Disk → file.failed ≡ true) → HoldsOneMoreSynced (Err error) disk file (map edit_bytes edits) payload synced
      → HoldsOneMore (Err (error_of error)) disk (manifest_at number file) edits e synced
  failed_append record_err.Disk fails h = one_more synced (never (fails refl)) h
  failed_append record_err.OutOfMemory fails (inl h) =
      let P : WrittenFile → Type 0 = λ f. HoldsRecords disk f (map edit_bytes edits) synced in
      inl (record { records = subst P (file_is number file a.named) h; are = a.are; all_synced = λ still. a.whole })
  failed_append record_err.OutOfMemory fails (inr h) = inr (one_more synced (never h.0) h.1)
