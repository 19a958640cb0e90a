-- Texts of CURRENT are short.
use Rattle.std.proofs.Common.{◌≡◌, ℕ, ◌-◌, ◌<◌, ◌≤◌, List, [], ◌∷◌, length, take, Option, None, Some, IsSome, refl, sym, ◌∙◌, ap, arith, length-append}
use Rattle.std.specs.Prelude.{replicate, decimal, codes}
use Rattle.std.proofs.lemmas.Fmt.{length-decimal-le}
use Rattle.std.proofs.lemmas.List.{length-replicate, length-take, take_all}
use Rattle.bl_site.specs.Disk.{Folder}
use Rattle.bl_names.specs.declared.name.FileName.TheVariants.{Current}
use Rattle.bl_names.specs.Names.{IsCurrentText, IsNumber, current_text, digits, manifest_name}
use Rattle.bl_out.specs.Files.{file}
use Rattle.bl_open.specs.Damage.{NamesManifest, NamesNone}

digits_short : (n : ℕ) → IsNumber n → length (digits n) ≤ 15
digits_short n is =
    let most : length (decimal n) ≤ 15 = length-decimal-le 15 n (omega arith) is.1 (omega arith) in
    omega (arith, most, length-append (replicate (6 - length (decimal n)) 48) (decimal n), length-replicate {A = ℕ} (6 - length (decimal n)) 48)

text_short : (n : ℕ) → IsNumber n → length (current_text n) ≤ 25
text_short n is =
    let begins : length (codes "MANIFEST-") ≡ 9 = refl in
    omega (arith, digits_short n is, begins, length-append (codes "MANIFEST-") (digits n), length-append (manifest_name n) (10 ∷ []))

-- all of a short text is read
whole : (bytes text : List ℕ) (count : ℕ) → count < 26 → take count text ≡ take 26 bytes → take count text ≡ bytes
whole bytes text count small reads =
    let short : length (take 26 bytes) ≤ count = omega (arith, ap length (sym reads), length-take count text) in
    reads ∙ take_all 26 bytes (omega (arith, short, small, length-take 26 bytes))

-- what was read of CURRENT names a manifest, or no text does
pub names_it : (folder : Folder) (bytes text : List ℕ) (count n : ℕ) → file folder Current ≡ Some bytes → count ≤ length text → take count text ≡ take 26 bytes → IsCurrentText (take count text) n → NamesManifest folder n
names_it folder bytes text count n there le reads is =
    let small : count < 26 = omega (arith, text_short n is.0, ap length is.1, length-take count text, le) in
    record { number = is.0; current = there ∙ ap Some (sym (whole bytes text count small reads) ∙ is.1) }

pub names_none : (folder : Folder) (bytes text : List ℕ) (count : ℕ) → file folder Current ≡ Some bytes → take count text ≡ take 26 bytes
    → ((n : ℕ) → IsCurrentText (take count text) n → ⊥) → NamesNone folder
names_none folder bytes text count there reads none = record {
  bytes = bytes;
  there = there;
  no_text = λ n is.
      let short : length bytes ≤ 25 = omega (arith, ap length is.1, text_short n is.0) in
      let same : take count text ≡ bytes = reads ∙ take_all 26 bytes (omega (arith, short)) in
      none n (is.0, same ∙ is.1);
}

pub bytes_there : (o : Option (List ℕ)) → IsSome o → (bytes : List ℕ) × (o ≡ Some bytes)
bytes_there None some = cc some
bytes_there (Some bytes) some = (bytes, refl)
