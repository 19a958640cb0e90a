-- Pairs that are told one after the other.
use Rattle.std.specs.Prelude.{ℕ}
use Rattle.bl_cache.specs.Runs.{TableView}
use Rattle.bl_merge.specs.Heads.{Merging}
use Rattle.bl_read.specs.declared.bound.Bound.{Bound}

-- the tables that are merged, where the next pair is told from, and the sequence at which the pairs are
pub record Scan : Type 0 where
  pub tables : Merging TableView
  pub bound : Bound
  pub seq : ℕ
