-- The hull of some tables, by the tables that begin first and end last.
use Rattle.std.specs.Prelude.{◌≡◌, ℕ, Bool, false, List, Option, None, Some}
use Rattle.std.specs.List.{list_any}
use Rattle.bl_code.specs.Order.{bytes_le}
use Rattle.bl_edit.specs.declared.edit.NewTable.{NewTable}
use Rattle.bl_build.specs.Versions.{first_user, last_user}

abbrev pub begins_by : Option NewTable → List ℕ → Bool
begins_by None key = false
begins_by (Some t) key = bytes_le (first_user t) key

abbrev pub ends_from : Option NewTable → List ℕ → Bool
ends_from None key = false
ends_from (Some t) key = bytes_le key (last_user t)

-- some table of the list begins at a key or before it exactly where the first does, and ends at it or behind it exactly where the last does
pub record IsHull (first last : Option NewTable) (ts : List NewTable) : Type 0 where
  pub begins : (key : List ℕ) → begins_by first key ≡ list_any (λ t. bytes_le (first_user t) key) ts
  pub ends : (key : List ℕ) → ends_from last key ≡ list_any (λ t. bytes_le key (last_user t)) ts
