-- What the calls change of the files and names of a folder.
use Rattle.std.specs.Prelude.{◌≡◌, ◌⊎◌, ℕ, List, [], ◌∷◌, Result, Ok, Err}
use Rattle.bl_site.specs.Disk.{Name}
use Rattle.bl_site.specs.declared.site.SiteErr.{SiteErr}
use Rattle.bl_site.specs.declared.site.SiteErr.TheVariants.{OutOfMemory}
use Rattle.bl_site_host.specs.Events.{Event, Made, Wrote, Renamed, Removed}
use Rattle.bl_site_host.specs.declared.faults.Fault.{Fault}
use Rattle.bl_site_host.specs.declared.faults.Fault.TheVariants.{Disk, Memory}

-- the calls that change a file or a name, the newest first
abbrev pub changes_of : List Event → List Event
changes_of [] = []
changes_of (Made name file ∷ older) = Made name file ∷ changes_of older
changes_of (Wrote file bytes done ∷ older) = Wrote file bytes done ∷ changes_of older
changes_of (Renamed from to done ∷ older) = Renamed from to done ∷ changes_of older
changes_of (Removed name done ∷ older) = Removed name done ∷ changes_of older
changes_of (_ ∷ older) = changes_of older

-- there was no such call since
abbrev pub ChangesNone : (old new : List Event) → Type 0
ChangesNone old new = changes_of new ≡ changes_of old

-- there was one such call since, and it is the one that is meant
abbrev pub ChangesOne : (Event → Type 0) → (old new : List Event) → Type 0
ChangesOne meant old new = (call : Event) × meant call × (changes_of new ≡ call ∷ changes_of old)

-- At `Ok` the one change that is meant; for want of memory none; where the system failed, none or that one.
abbrev pub Changes : {T : Type 0} → (Event → Type 0) → Result T Fault → (old new : List Event) → Type 0
Changes meant (Ok _) old new = ChangesOne meant old new
Changes meant (Err Memory) old new = ChangesNone old new
Changes meant (Err (Disk _)) old new = ChangesNone old new ⊎ ChangesOne meant old new

-- the same of a call of the site, whose answer does not have the system's error
abbrev pub SiteChanges : {T : Type 0} → (Event → Type 0) → Result T SiteErr → (old new : List Event) → Type 0
SiteChanges meant (Ok _) old new = ChangesOne meant old new
SiteChanges meant (Err OutOfMemory) old new = ChangesNone old new
SiteChanges meant (Err _) old new = ChangesNone old new ⊎ ChangesOne meant old new

-- makes an empty file of this name
abbrev pub IsMaking : Name → Event → Type 0
IsMaking name (Made made _) = made ≡ name
IsMaking name _ = ⊥

-- appends these bytes to a file
abbrev pub IsWriting : List ℕ → Event → Type 0
IsWriting bytes (Wrote _ written _) = written ≡ bytes
IsWriting bytes _ = ⊥

-- gives what stands under the one name the other
abbrev pub IsRenaming : (from to : Name) → Event → Type 0
IsRenaming from to (Renamed old new _) = (old ≡ from) × (new ≡ to)
IsRenaming from to _ = ⊥

-- takes this name away
abbrev pub IsRemoving : Name → Event → Type 0
IsRemoving name (Removed removed _) = removed ≡ name
IsRemoving name _ = ⊥
