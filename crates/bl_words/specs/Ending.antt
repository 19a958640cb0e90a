-- The lines that end a run.
use Rattle.std.specs.Prelude.{ℕ, List, ◌++◌, codes, decimal}
use Rattle.bl_words.specs.Options.{name_of}

-- the file of this name is damaged at this byte
abbrev pub corrupt_line : List ℕ → ℕ → List ℕ
corrupt_line name place = codes "error corrupt " ++ name ++ codes " " ++ decimal place ++ codes "\n"

-- a limit is met: the number is the last sequence, or 10 ^ 15, the first that no file can have
abbrev pub full_line : ℕ → List ℕ
full_line number = codes "error full " ++ decimal number ++ codes "\n"

-- the word of this option asks for another value than the folder's
abbrev pub differ_line : ℕ → ℕ → ℕ → List ℕ
differ_line option stored asked = codes "error differ " ++ name_of option ++ codes " " ++ decimal stored ++ codes " " ++ decimal asked ++ codes "\n"
