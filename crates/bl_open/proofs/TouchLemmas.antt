-- Which files the calls of a site touch, and what a cut leaves of spare files that are touched.
use Rattle.std.proofs.Common.{◌≡◌, inl, inr, List, [], ◌∷◌, ℕ, sym, ap, Result, OnOk, IsErrOf}
use Rattle.std.specs.List.{AllByRecursion}
use Rattle.bl_site.specs.Disk.{Disk, MayLeave, Name}
use Rattle.bl_site.specs.Calls.{Appends, AppendsAny, Creates, DoneOrNot, Elapses, Frays, KeepsDisk, LeavesOnly, MayDuring, Renames, Syncs}
use Rattle.bl_site.specs.declared.site.Site.{Ghosts}
use Rattle.bl_site.specs.declared.site.SiteErr.{SiteErr}
use Rattle.bl_site.specs.declared.site.SiteErr.TheVariants.{DiskFailed, OutOfMemory, TellFailed}
use Rattle.bl_site.proofs.Images.{append_outcome, sync_outcome}
use Rattle.bl_site.proofs.Moments.{widened}
use Rattle.bl_entry.specs.Revisions.{Map}
use Rattle.bl_out.specs.Quiet.{IsCutBut, TouchesOnly}
use Rattle.bl_out.proofs.QuietLemmas.{IsNow, IsOnly, OthersStay, append_stays, create_outcome, create_stays, sync_stays, touches_named, touches_once}
use Rattle.bl_open.specs.SteadyCalls.{KeepsAllBut}
use Rattle.bl_open.specs.SteadyCuts.{LeavesStanding}
use Rattle.bl_open.specs.Found.{Found, IsLeftAs, IsSpareName, RestsAs}
use Rattle.bl_open.specs.OpeningLaws.{SparesCut}
use Rattle.bl_open.proofs.OutcomeLemmas.{renamed_either}

-- a file whose name is not this one has none of the names of one
pub others_stay : (name : Name) (old new : Disk) → KeepsAllBut name old new → OthersStay (name ∷ []) old new
others_stay name old new keeps other none = keeps other (λ same. none.0 (sym same))

pub keeps_but : (name : Name) (old new : Disk) → OthersStay (name ∷ []) old new → KeepsAllBut name old new
keeps_but name old new others other ne = others other (λ same. ne (sym same), tt)

rename_stays : (from to : Name) (old new : Disk) → DoneOrNot (Renames from to) old new → OthersStay (from ∷ to ∷ []) old new
rename_stays from to old new (inl same) other none = ap (λ (d : Disk). d other) same
rename_stays from to old new (inr did) other none = did.others other (λ e. none.0 (sym e)) (λ e. none.1.0 (sym e))

module _ {S : Type 0} (g : Ghosts S) (name : Name) (old new : S) (result : Result (Unit {0}) SiteErr) (memory : g.shows → IsErrOf result OutOfMemory → KeepsDisk g.disk g.may_be g.certain old new) (not_tell : IsErrOf result TellFailed → ⊥)
    (only_old : g.shows → IsOnly g old) (now : g.shows → IsNow g old) where
  pub create_touches : (g.shows → OnOk result (Creates name (g.disk old) (g.disk new))) → (g.shows → IsErrOf result DiskFailed → DoneOrNot (Creates name) (g.disk old) (g.disk new))
      → (g.shows → Elapses (g.clock old) (g.clock new) (g.left_since old) (g.left_since new) (MayLeave (MayDuring (Creates name) (g.may_be old)) (g.told old))) → TouchesOnly g (name ∷ []) old new
  create_touches done failed time =
      touches_named g (Creates name) name [] old new
      (λ shown. create_stays name (g.disk old) (g.disk new) (create_outcome name (g.disk old) (g.disk new) result (done shown) (failed shown) (λ e. (memory shown e).same) not_tell))
      (λ from to made. create_stays name from to (inr made)) time only_old now

  pub append_touches : (bytes : List ℕ) → (g.shows → OnOk result (Appends name bytes bytes (g.disk old) (g.disk new))) → (g.shows → IsErrOf result DiskFailed → AppendsAny name bytes (g.disk old) (g.disk new))
      → (g.shows → g.certain old → g.certain new) → (g.shows → g.told new ≡ g.told old)
      → (g.shows → Elapses (g.clock old) (g.clock new) (g.left_since old) (g.left_since new) (MayLeave (g.may_be new) (g.told new))) → (g.shows → IsOnly g new) → TouchesOnly g (name ∷ []) old new
  append_touches bytes done failed certain told time only_new =
      touches_once g name [] old new
      (λ shown. append_stays name bytes (g.disk old) (g.disk new) (append_outcome name bytes (g.disk old) (g.disk new) result (done shown) (failed shown) (λ e. (memory shown e).same) not_tell))
      certain told time only_old only_new now

  pub sync_touches : (g.shows → OnOk result (Syncs name (g.disk old) (g.disk new))) → (g.shows → IsErrOf result DiskFailed → Frays name (g.disk old) (g.disk new))
      → (g.shows → g.certain old → g.certain new) → (g.shows → g.told new ≡ g.told old)
      → (g.shows → Elapses (g.clock old) (g.clock new) (g.left_since old) (g.left_since new) (MayLeave (g.may_be new) (g.told new))) → (g.shows → IsOnly g new) → TouchesOnly g (name ∷ []) old new
  sync_touches done failed certain told time only_new =
      touches_once g name [] old new
      (λ shown. sync_stays name (g.disk old) (g.disk new) (sync_outcome name (g.disk old) (g.disk new) result (done shown) (failed shown) (λ e. (memory shown e).same) not_tell))
      certain told time only_old only_new now

  pub rename_touches : (to : Name) → (g.shows → OnOk result (Renames name to (g.disk old) (g.disk new))) → (g.shows → IsErrOf result DiskFailed → DoneOrNot (Renames name to) (g.disk old) (g.disk new))
      → (g.shows → Elapses (g.clock old) (g.clock new) (g.left_since old) (g.left_since new) (MayLeave (MayDuring (Renames name to) (g.may_be old)) (g.told old))) → TouchesOnly g (name ∷ to ∷ []) old new
  rename_touches to done failed time =
      touches_named g (Renames name to) name (to ∷ []) old new
      (λ shown. rename_stays name to (g.disk old) (g.disk new) (renamed_either name to (g.disk old) (g.disk new) result (done shown) (failed shown) (λ e. (memory shown e).same) not_tell))
      (λ from after did. rename_stays name to from after (inr did)) time only_old now

-- while spare files are touched, a cut leaves what was found for its map
pub spares_stand : {S : Type 0} (g : Ghosts S) (law : SparesCut) (found : Found) (m : Map) (names : List Name) (old new : S) → AllByRecursion (IsSpareName found) names → RestsAs found m (g.disk old)
    → LeavesOnly g.clock g.left_since old new (IsCutBut names (g.disk old) (g.told old)) → LeavesOnly g.clock g.left_since old new (LeavesStanding (IsLeftAs found m) (g.told old))
spares_stand g law found m names old new spare r leaves =
    widened g.clock g.left_since old new (IsCutBut names (g.disk old) (g.told old)) (LeavesStanding (IsLeftAs found m) (g.told old))
    (λ c cut. record { told_is = cut.told_is; left = law found m names (g.disk old) (g.told old) c spare cut r }) leaves
