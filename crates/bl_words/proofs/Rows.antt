-- Worked rows.
use Rattle.std.proofs.Common.{◌≡◌, ℕ, ◌<◌, List, [], ◌∷◌, ◌++◌, codes, refl, sym, ◌∙◌, ap, arith, get_or, lit<, lit≤}
use Rattle.std.specs.Prelude.{Some, decimal, length}
use Rattle.std.specs.Int.{IsInRange as IsInBytes}
use Rattle.std.specs.Str.Parse.{digits_value}
use Rattle.std.proofs.lemmas.Fmt.{decimal-digits_value}
use Rattle.std.proofs.lemmas.Str.Parse.{IsNumeralModel, digits_value_short, numerals_by_value, tells_by_index}
use Rattle.std.proofs.lemmas.List.{append_cancel_left}
use Rattle.bl_words.specs.declared.parse.Setting.{Setting}
use Rattle.bl_words.specs.Laws.{AreWorkedOut}
use Rattle.bl_words.specs.Options.{IsInRange, IsOption, asked_for, name_of, word_of}
use Rattle.bl_words.specs.Parsing.{AreOnce, AreRefused, AreSettings, IsSetting, Spells, value_of}
use Rattle.bl_words.proofs.OptionLemmas.{each, number_of, number_of-name_of}
use Rattle.bl_words.proofs.ReadLemmas.{same_setting, sets_none, value_here}

-- a number of one digit is written so
own : IsNumeralModel (λ ds. (i : ℕ) → i < length ds → IsInBytes 48 57 (get_or ds i 0)) (digits_value 10)
own = numerals_by_value _ tells_by_index

digit_is : (d : ℕ) → IsInBytes 48 57 d → decimal (digits_value 10 (d ∷ [])) ≡ d ∷ []
digit_is d h =
    decimal-digits_value own (d ∷ []) (tells_by_index.more d [] h (λ i lt. absurd (omega arith))) (lit< tt) (λ e. refl)
    (let value = digits_value_short own (d ∷ []) 1 (tells_by_index.more d [] h (λ i lt. absurd (omega arith))) (lit≤ tt) in omega arith)

-- two words that are no setting
refused : (word text : List ℕ) → ((s : Setting) → ¬ IsSetting word text s) → AreRefused (word ∷ text ∷ [])
refused word text none asked asks = first asks.settings asks.are_settings where
  first : (settings : List Setting) → ¬ AreSettings (word ∷ text ∷ []) settings
  first [] are = are
  first (s ∷ more) are = none s are.0

-- that are none by their value
refused_value : (option : ℕ) (text : List ℕ) → IsOption option → ((value : ℕ) → Spells text value → ¬ IsInRange option value) → AreRefused (word_of option ∷ text ∷ [])
refused_value option text h none = refused (word_of option) text (sets_none (word_of option) text option h refl none)

-- or by a name that is no option's
refused_name : (name text : List ℕ) → number_of name ≡ 10 → AreRefused ((codes "--" ++ name) ∷ text ∷ [])
refused_name name text none = refused (codes "--" ++ name) text (λ s is.
    let same : name ≡ name_of s.option = append_cancel_left (codes "--") name (name_of s.option) is.word_is in
    let number : 10 ≡ s.option = sym none ∙ ap number_of same ∙ number_of-name_of s.option is.is_option in
    absurd (omega (arith, is.is_option.1)))

-- an option that stands twice
refused_twice : (option : ℕ) (text : List ℕ) → IsOption option → AreRefused (word_of option ∷ text ∷ word_of option ∷ text ∷ [])
refused_twice option text h asked asks = both asks.settings asks.are_settings asks.once where
  both : (settings : List Setting) → AreSettings (word_of option ∷ text ∷ word_of option ∷ text ∷ []) settings → ¬ AreOnce settings
  both [] are once = are
  both (s ∷ []) are once = are.1
  both (s ∷ t ∷ more) are once =
      let same = same_setting (word_of option) text s t are.0 are.1.0 in
      let found : value_of (t ∷ more) s.option ≡ Some t.value = value_here t more s.option (ap (λ x. x.option) (sym same)) in
      let none = once.0 in
      cc

-- a word alone
alone : (word : List ℕ) → AreRefused (word ∷ [])
alone word asked asks = first asks.settings asks.are_settings where
  first : (settings : List Setting) → ¬ AreSettings (word ∷ []) settings
  first [] are = are
  first (s ∷ more) are = are

pub rows : AreWorkedOut
unfolding number_of
rows = record {
  no_words = record { settings = []; are_settings = tt; once = tt; asked_is = each (λ option. asked_for _ option ≡ value_of [] option) refl refl refl refl refl refl refl refl refl };
  two = record {
    settings = record { option = 3; value = 4096 } ∷ record { option = 7; value = 10 } ∷ [];
    are_settings = (record { is_option = (lit≤ tt, lit≤ tt); word_is = refl; spells = record { digits = (lit< tt, (lit< tt, (lit< tt, (lit< tt, (lit< tt, tt))))); most = lit≤ tt; value_is = refl }; in_range = (lit≤ tt, lit≤ tt) }, (record { is_option = (lit≤ tt, lit≤ tt); word_is = refl; spells = record { digits = (lit< tt, (lit< tt, (lit< tt, (lit< tt, tt)))); most = lit≤ tt; value_is = refl }; in_range = (lit≤ tt, lit≤ tt) }, tt));
    once = (refl, (refl, tt));
    asked_is = each (λ option. asked_for _ option ≡ value_of (record { option = 3; value = 4096 } ∷ record { option = 7; value = 10 } ∷ []) option) refl refl refl refl refl refl refl refl refl;
  };
  greatest = record {
    settings = record { option = 1; value = 4294967296 } ∷ [];
    are_settings = (record { is_option = (lit≤ tt, lit≤ tt); word_is = refl; spells = record { digits = (lit< tt, (lit< tt, (lit< tt, (lit< tt, (lit< tt, (lit< tt, (lit< tt, (lit< tt, (lit< tt, (lit< tt, (lit< tt, (lit< tt, (lit< tt, (lit< tt, (lit< tt, (lit< tt, (lit< tt, (lit< tt, (lit< tt, (lit< tt, (lit< tt, tt))))))))))))))))))))); most = lit≤ tt; value_is = refl }; in_range = (lit≤ tt, lit≤ tt) }, tt);
    once = (refl, tt);
    asked_is = each (λ option. asked_for _ option ≡ value_of (record { option = 1; value = 4294967296 } ∷ []) option) refl refl refl refl refl refl refl refl refl;
  };
  above = refused_value 1 (codes "4294967297") (lit≤ tt, lit≤ tt) (λ value spells range. omega (arith, spells.value_is, range.1));
  below = refused_value 3 (codes "0") (lit≤ tt, lit≤ tt) (λ value spells range. omega (arith, spells.value_is, range.0));
  twenty_one_digits = refused_value 1 (codes "000000000000000000001") (lit≤ tt, lit≤ tt) (λ value spells range. omega (arith, spells.most));
  empty = refused_value 1 [] (lit≤ tt, lit≤ tt) (λ value spells range. omega (arith, spells.digits.0));
  plus = refused_value 1 (codes "+1") (lit≤ tt, lit≤ tt) (λ value spells range. omega (arith, spells.digits.1.0));
  twice = refused_twice 3 (codes "1") (lit≤ tt, lit≤ tt);
  no_value = alone (codes "--min-blob-size");
  joined = alone (codes "--min-blob-size=1");
  unknown = refused_name (codes "blob-size") (codes "1") refl;
  differs =
      ap (λ d. codes "error differ min-blob-size " ++ d ++ codes " " ++ decimal 4 ++ codes "\n") (digit_is 51 (lit≤ tt, lit≤ tt))
      ∙ ap (λ d. codes "error differ min-blob-size 3 " ++ d ++ codes "\n") (digit_is 52 (lit≤ tt, lit≤ tt));
}
