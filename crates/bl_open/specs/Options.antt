-- The words that are given for a store's options.
use Rattle.std.specs.Prelude.{ℕ, ◌+◌, ◌^◌, ◌==◌, List, [], ◌∷◌, Option, None, Some, IfSome, unwrap_or, Result, Ok}
use Rattle.bl_code.specs.Reading.{need, ◌>>=◌}
use Rattle.bl_edit.specs.Options.{IsBetween, Values, max_size}
use Rattle.bl_open.specs.declared.error.OpenErr.{OpenErr}
use Rattle.bl_open.specs.declared.error.OpenErr.TheVariants.{Differ}

-- the given words of the nine options; one that is not given has none
pub record Words : Type 0 where
  pub min_blob_size : Option ℕ
  pub blob_file_size : Option ℕ
  pub write_buffer : Option ℕ
  pub table_size : Option ℕ
  pub level0_trigger : Option ℕ
  pub level_base : Option ℕ
  pub level_factor : Option ℕ
  pub age_cutoff : Option ℕ
  pub force_threshold : Option ℕ

-- each word that is given is in its range
pub record AreAsked (w : Words) : Type 0 where
  pub min_blob_size : IfSome w.min_blob_size (IsBetween 0 (2 ^ 32))
  pub blob_file_size : IfSome w.blob_file_size (IsBetween 1 max_size)
  pub write_buffer : IfSome w.write_buffer (IsBetween 1 max_size)
  pub table_size : IfSome w.table_size (IsBetween 1 max_size)
  pub level0_trigger : IfSome w.level0_trigger (IsBetween 1 1000)
  pub level_base : IfSome w.level_base (IsBetween 1 max_size)
  pub level_factor : IfSome w.level_factor (IsBetween 2 20)
  pub age_cutoff : IfSome w.age_cutoff (IsBetween 0 100)
  pub force_threshold : IfSome w.force_threshold (IsBetween 1 100)

-- a new store's values where no word is given
abbrev pub defaults : Values
defaults = record {
  min_blob_size = 0;
  blob_file_size = 268435456;
  write_buffer = 67108864;
  table_size = 67108864;
  level0_trigger = 4;
  level_base = 268435456;
  level_factor = 10;
  age_cutoff = 25;
  force_threshold = 100;
}

-- the given words, and else these values
abbrev pub given_or : Values → Words → Values
given_or v w = record {
  min_blob_size = unwrap_or w.min_blob_size v.min_blob_size;
  blob_file_size = unwrap_or w.blob_file_size v.blob_file_size;
  write_buffer = unwrap_or w.write_buffer v.write_buffer;
  table_size = unwrap_or w.table_size v.table_size;
  level0_trigger = unwrap_or w.level0_trigger v.level0_trigger;
  level_base = unwrap_or w.level_base v.level_base;
  level_factor = unwrap_or w.level_factor v.level_factor;
  age_cutoff = unwrap_or w.age_cutoff v.age_cutoff;
  force_threshold = unwrap_or w.force_threshold v.force_threshold;
}

-- the stored value of an option, and no other, may be asked for
abbrev pub check_option : ℕ → ℕ → Option ℕ → Result (Unit {0}) OpenErr
check_option option stored None = Ok tt
check_option option stored (Some asked) = need (asked == stored) (Differ option stored asked)

-- the options in their order, each by its stored value and the word that is given for it
abbrev pub in_order : Values → Words → List (ℕ × Option ℕ)
in_order v w =
    (v.min_blob_size, w.min_blob_size)
    ∷ (v.blob_file_size, w.blob_file_size)
    ∷ (v.write_buffer, w.write_buffer)
    ∷ (v.table_size, w.table_size)
    ∷ (v.level0_trigger, w.level0_trigger)
    ∷ (v.level_base, w.level_base)
    ∷ (v.level_factor, w.level_factor)
    ∷ (v.age_cutoff, w.age_cutoff)
    ∷ (v.force_threshold, w.force_threshold)
    ∷ []

-- some options, of which the first has this number: each passes, or else the first that does not is told
abbrev pub check_from : ℕ → List (ℕ × Option ℕ) → Result (Unit {0}) OpenErr
check_from option [] = Ok tt
check_from option ((stored, asked) ∷ more) = check_option option stored asked >>= λ passed. check_from (option + 1) more

-- Each given word is the stored value, since no option of a store changes; else the first that is not.
unfoldable pub check_options : Values → Words → Result (Unit {0}) OpenErr
check_options v w = check_from 1 (in_order v w)
