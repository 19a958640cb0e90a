-- What holds of what is given to readers.
use Rattle.std.specs.Prelude.{◌≡◌, ℕ}
use Rattle.bl_site.specs.Disk.{Folder, Name}
use Rattle.bl_entry.specs.Revisions.{Map}
use Rattle.bl_read.specs.Giving.{Gives, View}
use Rattle.bl_read.specs.Reading.{IsDamaged}

-- What is given at a sequence makes one map.
abbrev pub GivenMapsAreOne : Type 0
GivenMapsAreOne = (folder : Folder) (v : View) (seq : ℕ) (m n : Map) → Gives folder v seq m → Gives folder v seq n → m ≡ n

-- Where a map is given, no file of the version is damaged.
abbrev pub GivenAreWhole : Type 0
GivenAreWhole = (folder : Folder) (v : View) (seq : ℕ) (m : Map) (name : Name) → Gives folder v seq m → IsDamaged folder v.version name → ⊥
