-- A name is that of one file: its last byte tells the kind.
use Rattle.std.proofs.Common.{◌≡◌, ℕ, suc, ◌-◌, ◌^◌, ◌<◌, List, [], ◌∷◌, ◌++◌, length, refl, sym, ◌∙◌, ap, subst, inl, inr, arith}
use Rattle.std.specs.Prelude.{replicate, decimal, codes, Option, None, Some, IfSome, false}
use Rattle.std.specs.Fmt.{padded_integral, char_count, format_spec}
use Rattle.std.specs.Int.{IsInRange}
use Rattle.std.proofs.lemmas.List.{append-nil, append_cancel_left, append_cancel_right}
use Rattle.bl_names.specs.declared.name.FileName.{FileName}
use Rattle.bl_names.specs.declared.name.FileName.TheVariants.{Current, Manifest, Log, Table, Blob, Temp}
use Rattle.bl_names.specs.Names.{IsNumber, digits, manifest_name, name_of, HasNumber, IsCurrentText, NamesOne, TextNamesOne}
use Rattle.bl_names.proofs.DigitLemmas.{AreDigits, digits_are_digits, digits_are_wide, digits_injective}

last : List ℕ → ℕ
last [] = 0
last (x ∷ []) = x
last (x ∷ y ∷ ys) = last (y ∷ ys)

last-append : (xs : List ℕ) (y : ℕ) (ys : List ℕ) → last (xs ++ y ∷ ys) ≡ last (y ∷ ys)
unfolding last
last-append [] y ys = refl
last-append (x ∷ []) y ys = refl
last-append (x ∷ z ∷ xs) y ys = last-append (z ∷ xs) y ys

last_digit : (d : ℕ) (ds : List ℕ) → AreDigits (d ∷ ds) → IsInRange 48 57 (last (d ∷ ds))
unfolding last
last_digit d [] h = h 0 (omega arith)
last_digit d (e ∷ ds) h = last_digit e ds (λ i lt. h (suc i) (omega arith))

last_of_digits : (xs ds : List ℕ) → AreDigits ds → 0 < length ds → IsInRange 48 57 (last (xs ++ ds))
last_of_digits xs [] h some = absurd (omega arith)
last_of_digits xs (d ∷ ds) h some = let P : ℕ → Type 0 = IsInRange 48 57 in subst P (sym (last-append xs d ds)) (last_digit d ds h)

EndsAs : FileName → ℕ → Type 0
EndsAs Current b = b ≡ 84
EndsAs (Manifest n) b = IsInRange 48 57 b
EndsAs (Log n) b = b ≡ 103
EndsAs (Table n) b = b ≡ 116
EndsAs (Blob n) b = b ≡ 98
EndsAs (Temp n) b = b ≡ 112

some_digits : (n : ℕ) → IsNumber n → 0 < length (digits n)
some_digits n h = elim (digits_are_wide n h) [ inl six ↦ omega arith | inr more ↦ omega arith ]

ends_as : (f : FileName) → HasNumber f → EndsAs f (last (name_of f))
unfolding last EndsAs
ends_as Current h = refl
ends_as (Manifest n) h = last_of_digits (codes "MANIFEST-") (digits n) (digits_are_digits n h) (some_digits n h)
ends_as (Log n) h = last-append (digits n) 46 (codes "log")
ends_as (Table n) h = last-append (digits n) 46 (codes "sst")
ends_as (Blob n) h = last-append (digits n) 46 (codes "blob")
ends_as (Temp n) h = last-append (digits n) 46 (codes "dbtmp")

-- two kinds that end alike are one
alike : (f g : FileName) (b : ℕ) → EndsAs f b → EndsAs g b → HasNumber f → HasNumber g → name_of f ≡ name_of g → f ≡ g
unfolding EndsAs
alike Current Current b p q h k e = refl
alike (Manifest m) (Manifest n) b p q h k e = ap Manifest (digits_injective m n h k (append_cancel_left (codes "MANIFEST-") _ _ e))
alike (Log m) (Log n) b p q h k e = ap Log (digits_injective m n h k (append_cancel_right _ _ (codes ".log") e))
alike (Table m) (Table n) b p q h k e = ap Table (digits_injective m n h k (append_cancel_right _ _ (codes ".sst") e))
alike (Blob m) (Blob n) b p q h k e = ap Blob (digits_injective m n h k (append_cancel_right _ _ (codes ".blob") e))
alike (Temp m) (Temp n) b p q h k e = ap Temp (digits_injective m n h k (append_cancel_right _ _ (codes ".dbtmp") e))
alike f g b p q h k e = absurd (omega arith)

pub names_one : NamesOne
names_one name f g (h, e) (k, d) =
    let same : name_of f ≡ name_of g = sym e ∙ d in
    let ends : EndsAs g (last (name_of f)) = subst (EndsAs g) (ap last (sym same)) (ends_as g k) in
    alike f g (last (name_of f)) (ends_as f h) ends h k same

pub manifest_injective : (m n : ℕ) → IsNumber m → IsNumber n → manifest_name m ≡ manifest_name n → m ≡ n
manifest_injective m n h k e = digits_injective m n h k (append_cancel_left (codes "MANIFEST-") _ _ e)

pub text_names_one : TextNamesOne
text_names_one bytes m n (h, e) (k, d) = manifest_injective m n h k (append_cancel_right _ _ (10 ∷ []) (sym e ∙ d))

-- what is found of the text before an ending
pub found_before : (found : Option ℕ) (front ending text : List ℕ) → text ≡ front ++ ending → IfSome found (λ n. IsNumber n × (front ≡ digits n))
    → IfSome found (λ n. IsNumber n × (text ≡ digits n ++ ending))
found_before None front ending text e h = h
found_before (Some n) front ending text e h = (h.0, e ∙ ap (λ xs. xs ++ ending) h.1)

pub found_text : (found : Option ℕ) (name text : List ℕ) → text ≡ name ++ 10 ∷ [] → IfSome found (λ n. IsNumber n × (name ≡ manifest_name n))
    → IfSome found (λ n. IsCurrentText text n)
found_text None name text e h = h
found_text (Some n) name text e h = (h.0, e ∙ ap (λ xs. xs ++ 10 ∷ []) h.1)

-- what `{:06}` writes
pub padded_six : (n : ℕ) → padded_integral (format_spec 32 0 4 6 (2 ^ 64 - 1)) false [] (decimal n) ≡ digits n
unfolding padded_integral char_count
padded_six n =
    let e : 6 - length (decimal n) - 0 - 0 ≡ 6 - length (decimal n) = omega arith in
    ap (λ k. replicate k 48 ++ (decimal n ++ [])) e ∙ ap (λ xs. replicate (6 - length (decimal n)) 48 ++ xs) (append-nil (decimal n))
