-- The options of a store, by number: what each is called, its range, and its value in a new store that nothing is asked of.
use Rattle.std.specs.Prelude.{ℕ, ◌^◌, List, [], ◌∷◌, ◌++◌, codes, slice_index_or, Option, None, IfSome}
use Rattle.bl_edit.specs.Options.{IsBetween, max_size}
use Rattle.bl_open.specs.Options.{Words}

-- the word of an option is two dashes and its name
pub record Row : Type 0 where
  pub name : List ℕ
  pub least : ℕ
  pub greatest : ℕ
  pub default : ℕ

-- the options in their order, of which the first has number 1
abbrev pub rows : List Row
rows =
    record { name = codes "min-blob-size"; least = 0; greatest = 2 ^ 32; default = 0 }
    ∷ record { name = codes "blob-file-size"; least = 1; greatest = max_size; default = 268435456 }
    ∷ record { name = codes "write-buffer"; least = 1; greatest = max_size; default = 67108864 }
    ∷ record { name = codes "table-size"; least = 1; greatest = max_size; default = 67108864 }
    ∷ record { name = codes "level0-trigger"; least = 1; greatest = 1000; default = 4 }
    ∷ record { name = codes "level-base"; least = 1; greatest = max_size; default = 268435456 }
    ∷ record { name = codes "level-factor"; least = 2; greatest = 20; default = 10 }
    ∷ record { name = codes "age-cutoff"; least = 0; greatest = 100; default = 25 }
    ∷ record { name = codes "force-threshold"; least = 1; greatest = 100; default = 100 }
    ∷ []

abbrev pub IsOption : ℕ → Type 0
IsOption option = IsBetween 1 9 option

-- the row of an option; any other number has an empty one
abbrev pub no_row : Row
no_row = record { name = []; least = 0; greatest = 0; default = 0 }

abbrev pub row : ℕ → Row
row option = slice_index_or (no_row ∷ rows) option no_row

abbrev pub name_of : ℕ → List ℕ
name_of option = (row option).name

abbrev pub word_of : ℕ → List ℕ
word_of option = codes "--" ++ name_of option

-- the value is in the range of the option
abbrev pub IsInRange : ℕ → ℕ → Type 0
IsInRange option value = IsBetween (row option).least (row option).greatest value

-- of values in the order of the options, the one of this option
abbrev pub at : List (Option ℕ) → ℕ → Option ℕ
at given option = slice_index_or (None ∷ given) option None

-- each of these values is in its option's range
abbrev pub AreInRange : List (Option ℕ) → Type 0
AreInRange given = (option : ℕ) → IsOption option → IfSome (at given option) (IsInRange option)

-- what is asked for the options, in their order
abbrev pub in_order : Words → List (Option ℕ)
in_order w =
    w.min_blob_size
    ∷ w.blob_file_size
    ∷ w.write_buffer
    ∷ w.table_size
    ∷ w.level0_trigger
    ∷ w.level_base
    ∷ w.level_factor
    ∷ w.age_cutoff
    ∷ w.force_threshold
    ∷ []

-- what is asked for an option
abbrev pub asked_for : Words → ℕ → Option ℕ
asked_for w option = at (in_order w) option
