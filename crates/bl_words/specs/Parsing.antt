-- What the words of the program ask for.
use Rattle.std.specs.Prelude.{◌≡◌, ◌==◌, ℕ, ◌-◌, ◌≤◌, List, [], ◌∷◌, length, Option, None, Some, if◌then◌else◌, slice_set}
use Rattle.std.specs.Str.Parse.{IsNumeral, digits_value}
use Rattle.bl_open.specs.Options.{Words}
use Rattle.bl_words.specs.declared.parse.Setting.{Setting}
use Rattle.bl_words.specs.Options.{IsInRange, IsOption, asked_for, at, word_of}

-- one to twenty ASCII digits, of which the first ones may be zeros, and the number that they spell
pub record Spells (text : List ℕ) (value : ℕ) : Type 0 where
  pub digits : IsNumeral 10 text
  pub most : length text ≤ 20
  pub value_is : value ≡ digits_value 10 text

-- the word of an option, and behind it a value in its range
pub record IsSetting (word text : List ℕ) (s : Setting) : Type 0 where
  pub is_option : IsOption s.option
  pub word_is : word ≡ word_of s.option
  pub spells : Spells text s.value
  pub in_range : IsInRange s.option s.value

-- two by two the words are these settings
abbrev pub AreSettings : List (List ℕ) → List Setting → Type 0
AreSettings [] [] = Unit {0}
AreSettings [] (s ∷ settings) = ⊥
AreSettings (word ∷ []) settings = ⊥
AreSettings (word ∷ text ∷ more) [] = ⊥
AreSettings (word ∷ text ∷ more) (s ∷ settings) = IsSetting word text s × AreSettings more settings

-- the value that some settings give an option, if they do
abbrev pub value_of : List Setting → ℕ → Option ℕ
value_of [] option = None
value_of (s ∷ settings) option = if s.option == option then Some s.value else value_of settings option

-- no setting is of an option that a later one is of
abbrev pub AreOnce : List Setting → Type 0
AreOnce [] = Unit {0}
AreOnce (s ∷ settings) = (value_of settings s.option ≡ None) × AreOnce settings

-- The words are settings, no option stands twice, and for each option what is asked is the value behind its word.
pub record AsksFor (words : List (List ℕ)) (asked : Words) : Type 0 where
  pub settings : List Setting
  pub are_settings : AreSettings words settings
  pub once : AreOnce settings
  pub asked_is : (option : ℕ) → IsOption option → asked_for asked option ≡ value_of settings option

-- there is nothing that the words ask for
abbrev pub AreRefused : List (List ℕ) → Type 0
AreRefused words = (asked : Words) → ¬ AsksFor words asked

-- The values that are asked for, in the order of the options: before and after a setting of an option that had none.
pub record Takes (given : List (Option ℕ)) (word text : List ℕ) (after : List (Option ℕ)) : Type 0 where
  pub setting : Setting
  pub is_setting : IsSetting word text setting
  pub had_none : at given setting.option ≡ None
  pub after_is : after ≡ slice_set given (setting.option - 1) (Some setting.value)
