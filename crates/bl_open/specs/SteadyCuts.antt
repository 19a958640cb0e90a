-- What a power cut leaves of a steady disk.
use Rattle.std.specs.Prelude.{◌≡◌, ◌≢◌, ◌⊎◌, ℕ, ◌<◌, ◌≤◌, List, [], Option, None, Some}
use Rattle.bl_site.specs.Disk.{Cut}
use Rattle.bl_names.specs.Names.{IsNumber}
use Rattle.bl_entry.specs.Revisions.{Map}
use Rattle.bl_records.specs.Chance.{NoChanceMatch}
use Rattle.bl_wal.specs.LogFile.{log_name}
use Rattle.bl_folder.specs.Stands.{StandsLive}
use Rattle.bl_open.specs.Steady.{Maps}

-- nothing more was told, and what is left stands so
pub record LeavesStanding (stood : Cut → Type 0) (told : List ℕ) (c : Cut) : Type 0 where
  pub told_is : c.told ≡ told
  pub left : stood c

-- a byte stands under a name
abbrev pub HasBytes : Option (List ℕ) → Type 0
HasBytes None = ⊥
HasBytes (Some bytes) = bytes ≢ []

-- Wherever a log has a byte, in what a cut leaves of it or in what was written of it, each log below it, from this number on, is left as it was written.
abbrev pub AreLeftWhole : ℕ → Cut → Type 0
AreLeftWhole from c = (lower upper : ℕ) → IsNumber lower → from ≤ lower → lower < upper → IsNumber upper → HasBytes (c.folder (log_name upper)) ⊎ HasBytes (c.written (log_name upper))
    → c.folder (log_name lower) ≡ c.written (log_name lower)

-- what is left stands for the map, and its needed logs are left whole
pub record IsLeftFor (m : Map) (c : Cut) : Type 0 where
  pub stands : StandsLive c.folder m
  pub whole : AreLeftWhole stands.holding.live.standing.log_number c

-- Nothing more was told. Unless a torn fragment's checksum matches by chance, what is left stands for the map after some first writes, at least and at most so many.
pub record LeavesMap (maps : Maps) (least most : ℕ) (told : List ℕ) (c : Cut) : Type 0 where
  pub told_is : c.told ≡ told
  pub stands : NoChanceMatch c.folder c.written → (count : ℕ) × (least ≤ count) × (count ≤ most) × IsLeftFor (maps count) c
