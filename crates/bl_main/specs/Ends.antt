-- Where and why the reading of a log ends.
use Rattle.std.specs.Prelude.{◌≡◌, ◌≢◌, ◌⊎◌, ℕ, ◌%◌, ◌^◌, List, [], ◌∷◌, ◌++◌, codes, decimal, length, Option, None, Some}
use Rattle.std.specs.String.{string_bytes}
use Rattle.bl_site.specs.Disk.{Name, Folder}
use Rattle.bl_log.specs.Log.{ending}
use Rattle.bl_log.specs.declared.cause.EndCause.{EndCause}
use Rattle.bl_log.specs.declared.cause.EndCause.TheVariants.{Finished, Cut, Length, Kind, Crc, Order}
use Rattle.bl_main.specs.declared.logs.EarlyEnd.{EarlyEnd}

-- the file is there, and its reading ends at this place, modulo 2 ^ 64, for this cause
pub record EndsAt (file : Option (List ℕ)) (place : ℕ) (cause : EndCause) : Type 0 where
  pub bytes : List ℕ
  pub there : file ≡ Some bytes
  pub place_is : place ≡ (ending bytes).0 % 2 ^ 64
  pub cause_is : cause ≡ (ending bytes).1

-- the file is there, and has so many bytes
pub record HasLength (file : Option (List ℕ)) (count : ℕ) : Type 0 where
  pub bytes : List ℕ
  pub there : file ≡ Some bytes
  pub count_is : count ≡ length bytes

-- why a reading stopped, in a word or two
abbrev pub word_of : EndCause → List ℕ
word_of Finished = []
word_of Cut = codes "cut off"
word_of Length = codes "length"
word_of Kind = codes "type"
word_of Crc = codes "checksum"
word_of Order = codes "order of fragments"

-- what is told of a file whose reading ends before its bytes do: where it ends, of how many bytes, and why
pub record IsEarly (name : Name) (file : Option (List ℕ)) (end : EarlyEnd) : Type 0 where
  pub name_is : string_bytes end.name ≡ name
  pub cause : EndCause
  pub early : cause ≢ Finished
  pub ends : EndsAt file end.place cause
  pub of : HasLength file end.length
  pub reason_is : end.reason.now ≡ word_of cause

-- how it is printed
abbrev pub text_of : EarlyEnd → List ℕ
text_of end = string_bytes end.name ++ (codes ": read up to byte " ++ (decimal end.place ++ (codes " of " ++ (decimal end.length ++ (codes ": " ++ end.reason.now)))))

-- what is to be said of a file: nothing where it is not there or is read to its end, and else where its reading ends
abbrev pub Tells : Name → (file : Option (List ℕ)) → Option EarlyEnd → Type 0
Tells name file None = (file ≡ None) ⊎ ((place : ℕ) × EndsAt file place Finished)
Tells name file (Some end) = IsEarly name file end

-- what is to be said of these files, in order
pub data TellsEach (folder : Folder) : List Name → List EarlyEnd → Type 0 where
  none : TellsEach folder [] []
  passed : {name : Name} {names : List Name} {ends : List EarlyEnd} → Tells name (folder name) None → TellsEach folder names ends → TellsEach folder (name ∷ names) ends
  told : {name : Name} {names : List Name} {end : EarlyEnd} {ends : List EarlyEnd} → Tells name (folder name) (Some end) → TellsEach folder names ends → TellsEach folder (name ∷ names) (end ∷ ends)

-- a line of standard error
abbrev pub line_of : List ℕ → List ℕ
line_of text = codes "blob_shell: " ++ (text ++ codes "\n")
