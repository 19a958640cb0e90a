-- How a folder is locked, and what is said where it is not.
use Rattle.std.specs.Prelude.{◌≡◌, ◌⊎◌, ℕ, List, ◌∷◌, codes, Option, None, Some, Result, Ok, Err}
use Rattle.bl_site_host.specs.Knocks.{Knock, Opened, Locked}
use Rattle.bl_site_host.specs.declared.guard.LockErr.{LockErr}
use Rattle.bl_site_host.specs.declared.guard.LockErr.TheVariants.{Held, Failed}

-- why a call failed, if it did
abbrev pub error_of : {T E : Type 0} → Result T E → Option E
error_of (Ok _) = None
error_of (Err e) = Some e

-- What was asked for, by the answer. The folder was opened, and then locked; or one of the two failed so.
abbrev pub IsAsked : Option LockErr → (old new : List Knock) → Type 0
IsAsked None old new = new ≡ Locked None ∷ Opened None ∷ old
IsAsked (Some Held) old new = new ≡ Locked (Some Held) ∷ Opened None ∷ old
IsAsked (Some (Failed e)) old new = (new ≡ Opened (Some e) ∷ old) ⊎ (new ≡ Locked (Some (Failed e)) ∷ Opened None ∷ old)

-- how it is said, where no word of the system is part of it
abbrev pub words_of : LockErr → Option (List ℕ)
words_of Held = Some (codes "another process uses this folder; wait until it has ended. Nothing was done")
words_of (Failed _) = None

-- the place was free, and it alone is taken since
pub record Takes (place : ℕ) (was now : ℕ → Type 0) : Type 0 where
  pub free : was place → ⊥
  pub others : (other : ℕ) → now other → was other ⊎ (other ≡ place)
  pub stay : (other : ℕ) → was other ⊎ (other ≡ place) → now other

-- the file is open, and has this place
abbrev pub IsIn : {F : Type 0} → (F → ℕ) → Option F → ℕ → Type 0
IsIn place None at = ⊥
IsIn place (Some file) at = place file ≡ at
