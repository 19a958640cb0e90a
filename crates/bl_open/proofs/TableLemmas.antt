-- The flush of an opening, from call to call.
use Rattle.std.proofs.Common.{◌≡◌, inl, inr, ℕ, ◌+◌, ◌<◌, ◌≤◌, List, [], ◌∷◌, refl, ◌∙◌, subst, arith}
use Rattle.std.specs.Prelude.{◌^◌, ◌-◌}
use Rattle.std.specs.List.{range_with_len}
use Rattle.std.specs.List.Sorted.{IsStrictlySortedBy}
use Rattle.bl_site.specs.Disk.{Cut, Disk, Name}
use Rattle.bl_site.specs.Calls.{LeavesOnly}
use Rattle.bl_site.specs.declared.site.Site.{Ghosts}
use Rattle.bl_site.proofs.Moments.{joins, widened}
use Rattle.bl_names.specs.declared.name.FileName.TheVariants.{Table}
use Rattle.bl_names.specs.Names.{name_of}
use Rattle.bl_entry.specs.Revisions.{Map}
use Rattle.bl_edit.specs.Options.{Values}
use Rattle.bl_edit.specs.Reading.{no_field}
use Rattle.bl_build.specs.Restoring.{Restored}
use Rattle.bl_out.specs.Quiet.{IsCutBut, IsNoneOf, TouchesOnly}
use Rattle.bl_out.specs.States.{names_of}
use Rattle.bl_out.specs.Written.{Writes}
use Rattle.bl_flush.specs.Flushing.{Flushes}
use Rattle.bl_folder.specs.Flushes.{IsBelow}
use Rattle.bl_open.proofs.DrawnLemmas.{none_drawn}
use Rattle.bl_open.specs.Barrier.{BeforeBarrier, IsOnEitherSide}
use Rattle.bl_open.specs.Flushing.{CutsBesideRest, IsOther, KeepsOthers, OthersKeepRest, drawn}
use Rattle.bl_open.specs.SteadyCalls.{IsAtRest}
use Rattle.bl_open.specs.SteadyCuts.{IsLeftFor, LeavesStanding}

-- nothing is flushed of an empty memory
pub no_flush : (options : Values) (next : ℕ) (disk : Disk) → Flushes options next next [] [] disk no_field
unfolding IsStrictlySortedBy
no_flush options next disk = record {
  files = record { tables = []; blobs = [] };
  edit = refl;
  flush = record { one = omega arith; tables = tt; blobs = tt; ascend = tt; writes = Writes.nothing };
  has = record { tables = tt; blobs = tt };
  tables = tt;
  blobs = tt;
}

-- the first table is one of the files drawn
first_is_drawn : (from : ℕ) (name : Name) → IsNoneOf (drawn from (from + 1)) name → IsNoneOf (name_of (Table from) ∷ []) name
first_is_drawn from name none =
    let one : (from + 1) - from ≡ 1 = omega arith in
    let here : IsNoneOf (names_of (range_with_len from 1)) name = subst (λ (k : ℕ). IsNoneOf (names_of (range_with_len from k)) name) one none in
    (here.0, tt)

pub others_of_first : (from : ℕ) (name : Name) → from < 10 ^ 15 → 1 ≤ from → IsOther from name → IsNoneOf (name_of (Table from) ∷ []) name
others_of_first from name less some other = (other.table from (some, less) (omega arith), tt)

pub more_other : (from more : ℕ) (name : Name) → from ≤ more → IsOther from name → IsOther more name
more_other from more name le other = record {
  table = λ n is above. other.table n is (omega (arith, le, above));
  blob = λ n is above. other.blob n is (omega (arith, le, above));
}

cut_of_first : (from : ℕ) (disk : Disk) (told : List ℕ) (c : Cut) → IsCutBut (name_of (Table from) ∷ []) disk told c → IsCutBut (drawn from (from + 1)) disk told c
cut_of_first from disk told c cut = record {
  image = λ name none. cut.image name (first_is_drawn from name none);
  told_is = cut.told_is;
  written_is = λ name none. cut.written_is name (first_is_drawn from name none);
}

module _ {D : Type 0} (g : Ghosts D) (others : OthersKeepRest) (beside : CutsBesideRest) (from : ℕ) (some : 1 ≤ from) (less : from < 10 ^ 15) (old mid : D) (manifest : ℕ) (live : Restored) (m : Map)
    (touches : TouchesOnly g (name_of (Table from) ∷ []) old mid) (shown : g.shows) (rest : IsAtRest manifest live m (g.disk old)) (below : IsBelow from live.version) where
  -- the first table is made
  pub rest_on : IsAtRest manifest live m (g.disk mid)
  rest_on = others from manifest live m (g.disk old) (g.disk mid) below (λ name other. touches.others shown name (others_of_first from name less some other)) rest

  pub first_cuts : g.certain old → LeavesOnly g.clock g.left_since old mid (LeavesStanding (IsLeftFor m) (g.told old))
  first_cuts sure =
      widened g.clock g.left_since old mid (IsCutBut (name_of (Table from) ∷ []) (g.disk old) (g.told old)) (LeavesStanding (IsLeftFor m) (g.told old))
      (λ c cut. beside from (from + 1) manifest live m (g.disk old) (g.told old) c some (omega (arith, less)) below rest (cut_of_first from (g.disk old) (g.told old) c cut)) (touches.cuts shown sure)

  -- and then the files of the flush
  module _ (new : D) (next : ℕ) (most : next ≤ 10 ^ 15) (same : g.told mid ≡ g.told old) (sure_then : g.certain mid) (files : TouchesOnly g (drawn from next) mid new) where
    later_cuts : LeavesOnly g.clock g.left_since mid new (LeavesStanding (IsLeftFor m) (g.told old))
    later_cuts =
        widened g.clock g.left_since mid new (IsCutBut (drawn from next) (g.disk mid) (g.told mid)) (LeavesStanding (IsLeftFor m) (g.told old))
        (λ c cut. subst (λ (t : List ℕ). LeavesStanding (IsLeftFor m) t c) same (beside from next manifest live m (g.disk mid) (g.told mid) c some most below rest_on cut)) (files.cuts shown sure_then)

    pub all_cuts : g.certain old → LeavesOnly g.clock g.left_since old new (LeavesStanding (IsLeftFor m) (g.told old))
    all_cuts sure = joins g.clock g.left_since old mid new (LeavesStanding (IsLeftFor m) (g.told old)) (first_cuts sure) later_cuts

    pub all_sides : LeavesOnly g.clock g.left_since old mid (BeforeBarrier (name_of (Table from)) (g.may_be old) (g.told old))
        → LeavesOnly g.clock g.left_since old new (IsOnEitherSide (name_of (Table from)) (g.may_be old) (IsLeftFor m) (g.told old))
    all_sides before =
        let P : Cut → Type 0 = IsOnEitherSide (name_of (Table from)) (g.may_be old) (IsLeftFor m) (g.told old) in
        joins g.clock g.left_since old mid new P
        (widened g.clock g.left_since old mid (BeforeBarrier (name_of (Table from)) (g.may_be old) (g.told old)) P (λ c b. inl b) before)
        (widened g.clock g.left_since mid new (LeavesStanding (IsLeftFor m) (g.told old)) P (λ c s. inr s) later_cuts)

-- what is not drawn stays, while the first table is made and then the files
pub others_stay : {D : Type 0} (g : Ghosts D) (from next : ℕ) (old mid new : D) → 1 ≤ from → from < 10 ^ 15 → next ≤ 10 ^ 15 → TouchesOnly g (name_of (Table from) ∷ []) old mid → TouchesOnly g (drawn from next) mid new
    → g.shows → KeepsOthers from (g.disk old) (g.disk new)
others_stay g from next old mid new some less most first files shown name other =
    files.others shown name (none_drawn from next name some most other) ∙ first.others shown name (others_of_first from name less some other)
