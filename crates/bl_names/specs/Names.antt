-- Names of files, and the text of CURRENT.
use Rattle.std.specs.Prelude.{◌≡◌, ◌≢◌, ◌⊎◌, ℕ, ◌-◌, ◌^◌, ◌<◌, ◌≤◌, List, [], ◌∷◌, ◌++◌, length, replicate, codes, decimal, slice_index}
use Rattle.bl_names.specs.declared.name.FileName.{FileName}
use Rattle.bl_names.specs.declared.name.FileName.TheVariants.{Current, Manifest, Log, Table, Blob, Temp}

-- six digits with zeros, or more digits without a leading zero
abbrev pub digits : ℕ → List ℕ
digits n = replicate (6 - length (decimal n)) 48 ++ decimal n

-- six bytes, or more of which the first is no zero; 15 digits spell less than 10 ^ 15
abbrev pub IsWide : List ℕ → Type 0
IsWide text = (length text ≡ 6) ⊎ ((6 < length text) × (length text ≤ 15) × (slice_index text 0 ≢ 48))

abbrev pub manifest_name : ℕ → List ℕ
manifest_name n = codes "MANIFEST-" ++ digits n

abbrev pub name_of : FileName → List ℕ
name_of Current = codes "CURRENT"
name_of (Manifest n) = manifest_name n
name_of (Log n) = digits n ++ codes ".log"
name_of (Table n) = digits n ++ codes ".sst"
name_of (Blob n) = digits n ++ codes ".blob"
name_of (Temp n) = digits n ++ codes ".dbtmp"

-- numbers of files run from 1 to 10 ^ 15 - 1
abbrev pub IsNumber : ℕ → Type 0
IsNumber n = (1 ≤ n) × (n < 10 ^ 15)

abbrev pub HasNumber : FileName → Type 0
HasNumber Current = Unit {0}
HasNumber (Manifest n) = IsNumber n
HasNumber (Log n) = IsNumber n
HasNumber (Table n) = IsNumber n
HasNumber (Blob n) = IsNumber n
HasNumber (Temp n) = IsNumber n

-- the name of this file
abbrev pub IsNameOf : List ℕ → FileName → Type 0
IsNameOf name file = HasNumber file × (name ≡ name_of file)

-- the text of CURRENT names the manifest of this number
abbrev pub current_text : ℕ → List ℕ
current_text n = manifest_name n ++ 10 ∷ []

abbrev pub IsCurrentText : List ℕ → ℕ → Type 0
IsCurrentText bytes n = IsNumber n × (bytes ≡ current_text n)

-- a name is that of one file at most
abbrev pub NamesOne : Type 0
NamesOne = (name : List ℕ) (f g : FileName) → IsNameOf name f → IsNameOf name g → f ≡ g

abbrev pub TextNamesOne : Type 0
TextNamesOne = (bytes : List ℕ) (m n : ℕ) → IsCurrentText bytes m → IsCurrentText bytes n → m ≡ n
