-- What follows in a file, and a flag that tells whether the folder was asked.
use Rattle.std.specs.Prelude.{◌≡◌, ◌⊎◌, ℕ, Bool, true, false, List, ◌++◌}
use Rattle.bl_site.specs.Disk.{Disk, Name}
use Rattle.bl_site.specs.Calls.{Appends}
use Rattle.bl_site.specs.Causes.{Rose}
use Rattle.bl_site.specs.declared.site.Site.{Ghosts}

-- of a file that held these bytes, what it holds now is handed over behind them
pub record Follows (name : Name) (were are : List ℕ) (old new : Disk) : Type 0 where
  pub bytes : List ℕ
  pub behind : are ≡ were ++ bytes
  pub appends : Appends name bytes bytes old new

-- A flag that is set stays so, and is set only where the folder was asked, which counts; where it is not set, the site is as it was.
pub record IsSetOnceAsked {S : Type 0} (g : Ghosts S) (old new : Bool) (site_old site_new : S) : Type 0 where
  pub was_set : old ≡ true → new ≡ true
  pub asked : new ≡ true → (old ≡ true) ⊎ Rose (g.changes site_old) (g.changes site_new)
  pub changes : (g.changes site_new ≡ g.changes site_old) ⊎ Rose (g.changes site_old) (g.changes site_new)
  pub still : new ≡ false → site_new ≡ site_old
