-- A reading, step by step.
use Rattle.std.proofs.Common.{◌≡◌, ◌⊎◌, inl, inr, ℕ, ◌^◌, ◌<◌, ◌≤◌, Bool, true, false, List, [], ◌∷◌, ◌++◌, map, Option, Some, None, Ok, refl, sym, ◌∙◌, ap, subst}
use Rattle.std.specs.Prelude.{nat_le}
use Rattle.std.proofs.lemmas.Bool.{leb-true}
use Rattle.std.proofs.lemmas.Option.{cond_some}
use Rattle.bl_site.specs.Disk.{Folder}
use Rattle.bl_names.specs.Names.{manifest_name}
use Rattle.bl_log.specs.Log.{records, placed_records}
use Rattle.bl_log.specs.declared.cause.EndCause.{EndCause}
use Rattle.bl_records.specs.FileReading.{FileReading, HasFound, FindsNext, EndsBehind}
use Rattle.bl_edit.specs.Reading.{no_field}
use Rattle.bl_edit.specs.declared.edit.Edit.{Edit}
use Rattle.bl_edit.specs.declared.options.Options.{Options}
use Rattle.bl_build.specs.declared.meta.Standing.{Standing}
use Rattle.bl_build.specs.Listing.{Listing, nothing}
use Rattle.bl_build.specs.Versions.{applied, version}
use Rattle.bl_build.specs.Restoring.{edits_of, last_given, standing_of}
use Rattle.bl_manifest.specs.Restores.{payloads, version_behind, HasRestored, IsDamaged, SequenceFits, Taken}
use Rattle.bl_manifest.specs.declared.error.ManifestErr.{ManifestErr}
use Rattle.bl_manifest.specs.declared.error.ManifestErr.TheVariants.{OutOfMemory, Corrupt}
use Rattle.bl_manifest.proofs.EditLemmas.{found_more, applied_then, applied_one, last_given_then}
use Rattle.bl_manifest.proofs.LawLemmas.{restores_of}

-- of this file a reader has found the records of some edits, which lead to this version and these fields
pub record Progress (file : Option (List ℕ)) (reader : FileReading) (base : Listing) (known : Edit) : Type 0 where
  pub found : List (List ℕ × ℕ)
  pub has : HasFound file found reader
  pub edits : List Edit
  pub are : edits_of (payloads found) ≡ Some edits
  pub base_is : version edits ≡ Ok base
  pub known_is : known ≡ last_given no_field edits

nothing_applied : version [] ≡ Ok nothing
unfolding applied
nothing_applied = refl

module _ (file : Option (List ℕ)) where
  pub begins : (reader : FileReading) (base : Listing) (known : Edit) → HasFound file [] reader → base ≡ nothing → known ≡ no_field → Progress file reader base known
  begins reader base known has empty none = record { found = []; has = has; edits = []; are = refl; base_is = nothing_applied ∙ ap Ok (sym empty); known_is = none }

  pub record_taken : (old new : FileReading) (payload : List ℕ) (base after : Listing) (known known_after : Edit)
      → ((found : List (List ℕ × ℕ)) → HasFound file found old → FindsNext file found payload new) → Taken (Some after) payload base known known_after
      → Progress file old base known → Progress file new after known_after
  record_taken old new payload base after known known_after finds (e, read, fits, learned) p =
      let f = finds p.found p.has in
      record {
        found = p.found ++ (payload, f.behind) ∷ [];
        has = f.finds;
        edits = p.edits ++ e ∷ [];
        are = found_more p.found (payload, f.behind) p.edits e p.are read;
        base_is = applied_then p.edits (e ∷ []) nothing base p.base_is ∙ applied_one base after e fits;
        known_is = learned ∙ ap (λ k. last_given k (e ∷ [])) p.known_is ∙ sym (last_given_then p.edits (e ∷ []) no_field);
      }

-- where reading has ended, all records of the file are these edits
all_edits : ((bytes : List ℕ) → map (λ (found : List ℕ × ℕ). found.0) (placed_records bytes) ≡ records bytes) → (found : List (List ℕ × ℕ)) (bytes : List ℕ) (edits : List Edit)
    → found ≡ placed_records bytes → edits_of (payloads found) ≡ Some edits → edits_of (records bytes) ≡ Some edits
all_edits law found bytes edits all are = ap edits_of (sym (law bytes) ∙ ap payloads (sym all)) ∙ are

pub ended : ((bytes : List ℕ) → map (λ (found : List ℕ × ℕ). found.0) (placed_records bytes) ≡ records bytes) → (folder : Folder) (number : ℕ) (reader : FileReading) (base : Listing) (known : Edit) (standing : Standing) (place : ℕ) (cause : EndCause)
    → ((found : List (List ℕ × ℕ)) → HasFound (folder (manifest_name number)) found reader → EndsBehind (folder (manifest_name number)) found place cause) → standing_of known ≡ Some standing
    → Progress (folder (manifest_name number)) reader base known → HasRestored folder number (record { version = base; standing = standing })
ended law folder number reader base known standing place cause ends all p =
    let end = ends p.found p.has in
    record {
      bytes = end.bytes;
      there = end.there;
      restores = restores_of end.bytes p.edits base standing (all_edits law p.found end.bytes p.edits end.all_found p.are) p.base_is (ap standing_of (sym p.known_is) ∙ all);
    }

-- it ended before every field was known
pub ended_short : ((bytes : List ℕ) → map (λ (found : List ℕ × ℕ). found.0) (placed_records bytes) ≡ records bytes) → (folder : Folder) (number : ℕ) (reader : FileReading) (base : Listing) (known : Edit) (place : ℕ) (cause : EndCause) (at : ℕ)
    → ((found : List (List ℕ × ℕ)) → HasFound (folder (manifest_name number)) found reader → EndsBehind (folder (manifest_name number)) found place cause) → standing_of known ≡ None → at ≡ place
    → Progress (folder (manifest_name number)) reader base known → IsDamaged folder number at
ended_short law folder number reader base known place cause at ends lacks is p =
    let end = ends p.found p.has in
    inr (
      end.bytes,
      end.there,
      inr (record {
        edits = p.edits;
        are = all_edits law p.found end.bytes p.edits end.all_found p.are;
        last = base;
        last_is = p.base_is;
        lacks = ap standing_of (sym p.known_is) ∙ lacks;
        place_is = is ∙ end.place_is;
      }),
    )

-- a record that is not taken: there the manifest breaks off
pub broke_off : (folder : Folder) (number : ℕ) (old new : FileReading) (payload : List ℕ) (base : Listing) (known : Edit) (place : ℕ)
    → ((found : List (List ℕ × ℕ)) → HasFound (folder (manifest_name number)) found old → FindsNext (folder (manifest_name number)) found payload new) → version_behind base payload ≡ None
    → place ≡ new.reading.place → Progress (folder (manifest_name number)) old base known → IsDamaged folder number place
broke_off folder number old new payload base known place finds none at p =
    let f = finds p.found p.has in
    inr (
      f.bytes,
      f.there,
      inl (record {
        passed = p.found;
        payload = payload;
        behind = f.behind;
        rest = f.rest;
        split = f.split;
        edits = p.edits;
        are = p.are;
        base = base;
        base_is = p.base_is;
        stops = none;
        place_is = at ∙ f.stands;
      }),
    )

pub taken_of : (taken is : Option Listing) (payload bytes : List ℕ) (base : Listing) (known known_after : Edit) → taken ≡ is → bytes ≡ payload
    → Taken taken bytes base known known_after → Taken is payload base known known_after
taken_of taken is payload bytes base known known_after et eb t =
    let P : Option Listing → Type 0 = λ o. Taken o bytes base known known_after in
    let Q : List ℕ → Type 0 = λ b. Taken is b base known known_after in
    subst Q eb (subst P et t)

pub corrupt_is : (r : ManifestErr) (name file : List ℕ) (at place : ℕ) → (r ≡ OutOfMemory) ⊎ (r ≡ Corrupt name at) → r ≡ Corrupt file place → (file ≡ name) × (place ≡ at)
corrupt_is r name file at place either is = elim either [
  | inl none ↦ absurd (let wrong : OutOfMemory ≡ Corrupt file place = sym none ∙ is in cc wrong)
  | inr same ↦ (let e : Corrupt name at ≡ Corrupt file place = sym same ∙ is in cc e, let e : Corrupt name at ≡ Corrupt file place = sym same ∙ is in cc e)
]

-- what stands beside a version is in its bounds, where the fields that are known are
abbrev pub AreInBounds : Standing → Type 0
AreInBounds s = (s.last_sequence < 2 ^ 56) × (s.next_file ≤ 10 ^ 15)

abbrev pub fields : Bool → Option ℕ → Option ℕ → Option ℕ → Option Options → Edit
fields comparator log next last options = record no_field { comparator = comparator; log_number = log; next_file = next; last_sequence = last; options = options }

fields_fit : (comparator : Bool) (log next last : Option ℕ) (options : Option Options) (s : Standing) → standing_of (fields comparator log next last options) ≡ Some s
    → SequenceFits (fields comparator log next last options) → AreInBounds s
fields_fit false log next last options s e fits = absurd (let wrong : None ≡ Some s = e in cc wrong)
fields_fit true None next last options s e fits = absurd (let wrong : None ≡ Some s = e in cc wrong)
fields_fit true (Some log) None last options s e fits = absurd (let wrong : None ≡ Some s = e in cc wrong)
fields_fit true (Some log) (Some next) None options s e fits = absurd (let wrong : None ≡ Some s = e in cc wrong)
fields_fit true (Some log) (Some next) (Some last) None s e fits = absurd (let wrong : None ≡ Some s = e in cc wrong)
fields_fit true (Some log) (Some next) (Some last) (Some options) s e fits =
    let c = cond_some (nat_le next (10 ^ 15)) (record { log_number = log; next_file = next; last_sequence = last; options = options }) s e in
    subst AreInBounds c.1 (fits, leb-true next (10 ^ 15) c.0)

pub restored_fits : (known : Edit) (s : Standing) → standing_of known ≡ Some s → SequenceFits known → AreInBounds s
restored_fits known s e fits = fields_fit known.comparator known.log_number known.next_file known.last_sequence known.options s e fits
