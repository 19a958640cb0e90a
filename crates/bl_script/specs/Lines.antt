-- How a script is cut into lines, and a line into words.
use Rattle.std.specs.Prelude.{◌≢◌, ◌<◌, ℕ, ◌-◌, ◌==◌, List, [], ◌∷◌, ◌++◌, length, take, slice_index, if◌then◌else◌}

-- one 0x0D at a line's end is dropped
abbrev pub without_return : List ℕ → List ℕ
without_return line = if slice_index line (length line - 1) == 13 then take (length line - 1) line else line

-- a last line that no 0x0A ends counts where it is not empty
abbrev pub last_line : List ℕ → List (List ℕ)
last_line [] = []
last_line (b ∷ bs) = without_return (b ∷ bs) ∷ []

-- the lines of a script, of whose first line a front was taken off before
unfoldable pub lines_in : List ℕ → List ℕ → List (List ℕ)
lines_in front [] = last_line front
lines_in front (b ∷ bs) = (if b == 10 then without_return front ∷ [] else []) ++ lines_in (if b == 10 then [] else front ++ b ∷ []) bs

abbrev pub lines : List ℕ → List (List ℕ)
lines script = lines_in [] script

-- the lines that end in these bytes, whatever follows them
unfoldable pub whole_lines_in : List ℕ → List ℕ → List (List ℕ)
whole_lines_in front [] = []
whole_lines_in front (b ∷ bs) = (if b == 10 then without_return front ∷ [] else []) ++ whole_lines_in (if b == 10 then [] else front ++ b ∷ []) bs

abbrev pub whole_lines : List ℕ → List (List ℕ)
whole_lines script = whole_lines_in [] script

-- a word, where there is one
abbrev pub word_of : List ℕ → List (List ℕ)
word_of [] = []
word_of (b ∷ bs) = (b ∷ bs) ∷ []

-- the words of a line, of whose first word a front was taken off before: the longest runs of bytes other than 0x20
unfoldable pub words_in : List ℕ → List ℕ → List (List ℕ)
words_in front [] = word_of front
words_in front (b ∷ bs) = (if b == 32 then word_of front else []) ++ words_in (if b == 32 then [] else front ++ b ∷ []) bs

abbrev pub words : List ℕ → List (List ℕ)
words line = words_in [] line

-- no byte is a 0x20
abbrev pub NoBlank : List ℕ → Type 0
NoBlank bytes = (k : ℕ) → k < length bytes → slice_index bytes k ≢ 32
