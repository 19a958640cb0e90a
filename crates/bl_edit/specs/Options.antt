-- The numbers that are fixed for a store, and their ranges.
use Rattle.std.specs.Prelude.{ℕ, ◌^◌, ◌≤◌, ◌&&◌, nat_le, Bool}

pub record Values : Type 0 where
  pub min_blob_size : ℕ
  pub blob_file_size : ℕ
  pub write_buffer : ℕ
  pub table_size : ℕ
  pub level0_trigger : ℕ
  pub level_base : ℕ
  pub level_factor : ℕ
  pub age_cutoff : ℕ
  pub force_threshold : ℕ

abbrev pub IsBetween : ℕ → ℕ → ℕ → Type 0
IsBetween low high n = (low ≤ n) × (n ≤ high)

abbrev pub is_between : ℕ → ℕ → ℕ → Bool
is_between low high n = nat_le low n && nat_le n high

-- the greatest size of a file, of the write buffer and of a level: 1 TiB
abbrev pub max_size : ℕ
max_size = 2 ^ 40

-- each number is in its range; age and threshold are per cent
pub record AreInRange (v : Values) : Type 0 where
  pub min_blob_size : IsBetween 0 (2 ^ 32) v.min_blob_size
  pub blob_file_size : IsBetween 1 max_size v.blob_file_size
  pub write_buffer : IsBetween 1 max_size v.write_buffer
  pub table_size : IsBetween 1 max_size v.table_size
  pub level0_trigger : IsBetween 1 1000 v.level0_trigger
  pub level_base : IsBetween 1 max_size v.level_base
  pub level_factor : IsBetween 2 20 v.level_factor
  pub age_cutoff : IsBetween 0 100 v.age_cutoff
  pub force_threshold : IsBetween 1 100 v.force_threshold
