-- What the definitions of options and words give.
use Rattle.std.specs.Prelude.{◌≡◌, ◌↔◌, ℕ, List, [], ◌∷◌, codes, map, None, Some, Err}
use Rattle.std.specs.List.{zip}
use Rattle.bl_edit.specs.Options.{Values}
use Rattle.bl_open.specs.Options.{AreAsked, Words, check_options, defaults, in_order as compared}
use Rattle.bl_open.specs.declared.error.OpenErr.TheVariants.{Differ}
use Rattle.bl_words.specs.Ending.{differ_line}
use Rattle.bl_words.specs.Options.{AreInRange, IsOption, asked_for, in_order, rows}
use Rattle.bl_words.specs.Parsing.{AreRefused, AsksFor}

-- words ask for one thing at most
abbrev pub AskForOne : Type 0
AskForOne = (words : List (List ℕ)) (a b : Words) → AsksFor words a → AsksFor words b → a ≡ b

-- The rows have the ranges that what is asked of a store is in, and the values of a new store, in the order in which options are
-- compared.
pub record AreTheOptions : Type 0 where
  pub ranges : (asked : Words) → AreAsked asked ↔ AreInRange (in_order asked)
  pub compared_are : (asked : Words) → compared defaults asked ≡ zip (map (λ r. r.default) rows) (in_order asked)

-- the option that is told to differ is one, and this is what was asked for it
abbrev pub DifferIsOfAnOption : Type 0
DifferIsOfAnOption = (stored : Values) (words : Words) (option value asked : ℕ) → check_options stored words ≡ Err (Differ option value asked)
    → IsOption option × (asked_for words option ≡ Some asked)

abbrev nothing : Words
nothing = record {
  min_blob_size = None;
  blob_file_size = None;
  write_buffer = None;
  table_size = None;
  level0_trigger = None;
  level_base = None;
  level_factor = None;
  age_cutoff = None;
  force_threshold = None;
}

-- worked rows
pub record AreWorkedOut : Type 0 where
  pub no_words : AsksFor [] nothing
  pub two : AsksFor (codes "--write-buffer" ∷ codes "4096" ∷ codes "--level-factor" ∷ codes "010" ∷ []) (record nothing { write_buffer = Some 4096; level_factor = Some 10 })
  pub greatest : AsksFor (codes "--min-blob-size" ∷ codes "00000000004294967296" ∷ []) (record nothing { min_blob_size = Some 4294967296 })
  pub above : AreRefused (codes "--min-blob-size" ∷ codes "4294967297" ∷ [])
  pub below : AreRefused (codes "--write-buffer" ∷ codes "0" ∷ [])
  pub twenty_one_digits : AreRefused (codes "--min-blob-size" ∷ codes "000000000000000000001" ∷ [])
  pub empty : AreRefused (codes "--min-blob-size" ∷ [] ∷ [])
  pub plus : AreRefused (codes "--min-blob-size" ∷ codes "+1" ∷ [])
  pub twice : AreRefused (codes "--write-buffer" ∷ codes "1" ∷ codes "--write-buffer" ∷ codes "1" ∷ [])
  pub no_value : AreRefused (codes "--min-blob-size" ∷ [])
  pub joined : AreRefused (codes "--min-blob-size=1" ∷ [])
  pub unknown : AreRefused (codes "--blob-size" ∷ codes "1" ∷ [])
  pub differs : differ_line 1 3 4 ≡ codes "error differ min-blob-size 3 4\n"
