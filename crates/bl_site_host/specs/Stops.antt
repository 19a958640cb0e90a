-- Why a call on the folder fails.
use Rattle.std.specs.Prelude.{◌≡◌, ◌≢◌, ◌<◌, ◌⊎◌, Bool, false, IsTrue, List, [], ◌∷◌, length, None, Some}
use Rattle.bl_site.specs.Disk.{Name}
use Rattle.bl_site_host.specs.Events.{Event, Looked, Listing, ListingBroke, Opened, Made, Read, Wrote, SyncedFile, SyncedFolder, Renamed, Removed}
use Rattle.bl_site_host.specs.declared.system.Found.{Found}
use Rattle.bl_site_host.specs.declared.system.Found.TheVariants.{File, Other}
use Rattle.bl_site_host.specs.declared.faults.Fault.{Fault}
use Rattle.bl_site_host.specs.declared.faults.Fault.TheVariants.{Memory}

-- nothing, a link, a pipe, a folder or a device
abbrev pub IsNoFile : Found → Type 0
IsNoFile (File _) = ⊥
IsNoFile _ = Unit {0}

-- what a call on a name that may be free cannot use
abbrev pub OtherThing : Name → Name → Found → Type 0
OtherThing name seen found = (seen ≡ name) × (found ≡ Other)

-- what a call on a file that must be there cannot use
abbrev pub NoFile : Name → Name → Found → Type 0
NoFile name seen found = (seen ≡ name) × IsNoFile found

-- what a renaming cannot use
abbrev pub NotRenamed : (from to : Name) → Name → Found → Type 0
NotRenamed from to seen found = NoFile from seen found ⊎ OtherThing to seen found

-- The call failed, or it saw what cannot be used. A sync stops the calls of a folder that is lost, whatever it was answered.
abbrev pub Stops : (Name → Found → Type 0) → (lost : Bool) → Event → Type 0
Stops useless lost (Looked name None) = Unit {0}
Stops useless lost (Looked name (Some found)) = useless name found
Stops useless lost (Listing None) = Unit {0}
Stops useless lost ListingBroke = Unit {0}
Stops useless lost (Opened _ None) = Unit {0}
Stops useless lost (Made _ None) = Unit {0}
Stops useless lost (Read _ _ _ None) = Unit {0}
Stops useless lost (Wrote _ _ false) = Unit {0}
Stops useless lost (SyncedFile _ _) = IsTrue lost
Stops useless lost (SyncedFolder _) = IsTrue lost
Stops useless lost (Renamed _ _ false) = Unit {0}
Stops useless lost (Removed _ false) = Unit {0}
Stops useless lost _ = ⊥

-- the newest call is one that stops
abbrev pub NewestStops : (Name → Found → Type 0) → (lost : Bool) → List Event → Type 0
NewestStops useless lost [] = ⊥
NewestStops useless lost (call ∷ _) = Stops useless lost call

-- the newest call was made since, and is one that stops
abbrev pub StopsSince : (Name → Found → Type 0) → (lost : Bool) → (old new : List Event) → Type 0
StopsSince useless lost old new = (length old < length new) × NewestStops useless lost new

-- a failure that is no want of memory comes only so
abbrev pub FailsBy : (Name → Found → Type 0) → (lost : Bool) → Fault → (old new : List Event) → Type 0
FailsBy useless lost fault old new = fault ≢ Memory → StopsSince useless lost old new

-- what going through a list leaves of the calls
abbrev pub GoesThrough : (old new : List Event) → Type 0
GoesThrough old new = (new ≡ old) ⊎ (new ≡ ListingBroke ∷ old)
