-- How the pairs of a store are told one after the other.
use Rattle.std.specs.Prelude.{◌≡◌, List, ◌++◌, false, Option, Result}
use Rattle.bl_site.specs.Disk.{Disk, Name, folder_of}
use Rattle.bl_site.specs.declared.site.Site.{Ghosts}
use Rattle.bl_entry.specs.Revisions.{Map}
use Rattle.bl_read.specs.Scan.{Scan}
use Rattle.bl_read.specs.Scanning.{IsScan, next_in}
use Rattle.bl_read.specs.Turns.{pairs_from, told_of}
use Rattle.bl_read.specs.declared.pairs.Pair.{Pair}
use Rattle.bl_store.specs.Held.{Held, now_of}
use Rattle.bl_store.specs.Reading.{AnswersBy, GivesMap}
use Rattle.bl_store.specs.Standing.{StandsFor}
use Rattle.bl_store.specs.Stored.{Stored}
use Rattle.bl_store.specs.declared.error.StoreErr.{StoreErr}

-- Pairs are told of the store as it is: at its last sequence, and from the tables of its version, as they stand in the folder.
pub record TellsOf (s : Stored) (disk : Disk) (pairs : Scan) : Type 0 where
  pub seq : pairs.seq ≡ s.last
  pub tables : IsScan (folder_of disk) s.version pairs.tables

-- What is told now, and what is left to tell then, are the pairs that there were left to tell; a refusal leaves them all.
abbrev pub TellsInTurn : Result (Option Pair) StoreErr → Scan → Scan → Map → Type 0
TellsInTurn result old new m = pairs_from old.bound m ≡ told_of result ++ pairs_from new.bound m

-- A call tells the first pair of the map from where it stands on, and None exactly where there is none; what is left are those behind it, and these too are told of the store as it is.
pub record TellsNext {S : Type 0} (g : Ghosts S) (result : Result (Option Pair) StoreErr) (s : Stored) (old new : Scan) (site after : S) : Type 0 where
  pub answers : AnswersBy g (next_in old.bound) result s site
  pub given : g.shows → (m : Map) → GivesMap m s (g.disk site) → TellsInTurn result old new m
  pub now : g.shows → s.broken ≡ false → (names : List Name) (held : Held) → StandsFor names held s (g.disk site) → TellsInTurn result old new (now_of held)
  pub goes_on : g.shows → TellsOf s (g.disk after) new
