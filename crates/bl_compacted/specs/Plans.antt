-- Which tables a compaction takes, and how those that stay are to lie to them.
use Rattle.std.specs.Prelude.{◌≡◌, ◌<◌, ◌≤◌, ◌==◌, not, Bool, true, false, List, filter, map}
use Rattle.std.specs.List.{AllByRecursion, list_any}
use Rattle.bl_edit.specs.declared.edit.NewTable.{NewTable}
use Rattle.bl_build.specs.declared.plan.CompactionPlan.{CompactionPlan as Plan}
use Rattle.bl_out.specs.Tables.{TableFile}
use Rattle.bl_pick.specs.Picking.{hull_overlaps}
use Rattle.bl_pick.specs.declared.kinds.Due.{Due}
use Rattle.bl_pick.specs.declared.kinds.Due.TheVariants.{Idle, Flush, Level, Collect}

-- what is due is this plan
abbrev pub IsPlan : Due → Plan → Type 0
IsPlan Idle plan = ⊥
IsPlan Flush plan = ⊥
IsPlan (Level p) plan = p ≡ plan
IsPlan (Collect p) plan = p ≡ plan

abbrev pub is_input : Plan → NewTable → Bool
is_input plan t = list_any (λ n. n == t.number) plan.inputs

abbrev pub inputs_of : Plan → List TableFile → List TableFile
inputs_of plan tables = filter (λ t. is_input plan t.meta) tables

abbrev pub staying : Plan → List TableFile → List TableFile
staying plan tables = filter (λ t. not (is_input plan t.meta)) tables

-- of each user key that both have, what the first has is newer
abbrev pub IsNewer : TableFile → TableFile → Type 0
IsNewer a b = AllByRecursion (λ x. AllByRecursion (λ y. x.key.user ≡ y.key.user → y.key.seq < x.key.seq) b.entries) a.entries

-- A table that stays keeps its place to the inputs once these stand in the output level: in that level it does not meet their hull; from the level
-- of an input on and above the output level it is newer; and where deletions are left out, nothing deeper meets the hull.
pub record IsBeside (plan : Plan) (ins : List TableFile) (u : TableFile) : Type 0 where
  pub level : u.meta.level ≡ plan.out_level → hull_overlaps (map (λ t. t.meta) ins) u.meta ≡ false
  pub between : AllByRecursion (λ t. t.meta.level ≤ u.meta.level → u.meta.level < plan.out_level → IsNewer u t) ins
  pub bottom : plan.bottom ≡ true → plan.out_level < u.meta.level → hull_overlaps (map (λ t. t.meta) ins) u.meta ≡ false

-- The plan may be carried out on these tables: it leads down, or stays in a level from 1 on, and each table that stays is beside.
pub record IsClosed (plan : Plan) (tables : List TableFile) : Type 0 where
  pub out : 1 ≤ plan.out_level
  pub down : AllByRecursion (λ t. t.meta.level ≤ plan.out_level) (inputs_of plan tables)
  pub beside : AllByRecursion (IsBeside plan (inputs_of plan tables)) (staying plan tables)
