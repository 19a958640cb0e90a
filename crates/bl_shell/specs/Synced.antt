-- Which writes a power cut keeps, counted by the replies told before it.
use Rattle.std.specs.Prelude.{◌≡◌, ℕ, ◌+◌, ◌-◌, ◌^◌, ◌<◌, ◌≤◌, Bool, true, false, List, [], ◌∷◌, ◌++◌, length, take, nat_le, if◌then◌else◌}
use Rattle.std.specs.List.{list_any}
use Rattle.bl_site.specs.Disk.{Folder, Cut}
use Rattle.bl_script.specs.declared.command.Command.{Command}
use Rattle.bl_script.specs.declared.command.Command.TheVariants as command
use Rattle.bl_script.specs.declared.command.Parsed.{Parsed}
use Rattle.bl_script.specs.declared.command.Parsed.TheVariants.{Nothing, Refused, Go}
use Rattle.bl_records.specs.Chance.{NoChanceMatch}
use Rattle.bl_logstore.specs.Cuts.{AreLeftWhole}
use Rattle.bl_logstore.specs.Folders.{LogStands}
use Rattle.bl_shell.specs.Machine.{State, Line, IsHistory, told_by, written_by, operations_in, after_writes, Start}

-- its reply says that all writes before it are on the disk
abbrev pub is_syncing : Command → Bool
is_syncing command.Sync = true
is_syncing command.Reopen = true
is_syncing (command.Put key value) = false
is_syncing (command.Del key) = false
is_syncing (command.Batch operations) = false
is_syncing (command.Get key) = false
is_syncing (command.Scan from to) = false
is_syncing command.Flush = false
is_syncing command.Files = false

abbrev pub syncs : Parsed → Bool
syncs Nothing = false
syncs (Refused why) = false
syncs (Go c) = is_syncing c

-- the first lines, whose replies lie whole in so many bytes
unfoldable pub whole_within : ℕ → List Line → List Line
whole_within count [] = []
whole_within count (line ∷ more) = if nat_le (length line.told) count then line ∷ whole_within (count - length line.told) more else []

-- the number of writes before the last line that syncs
unfoldable pub before_sync : List Line → ℕ
before_sync [] = 0
before_sync (line ∷ more) = if list_any (λ l. syncs l.order) more then length line.wrote + before_sync more else 0

-- the number of writes before the last line that syncs and whose reply lies whole in so many bytes
abbrev pub synced : ℕ → List Line → ℕ
synced count history = before_sync (whole_within count history)

-- the number of writes of the lines whose replies lie whole in so many bytes, and of the first line whose reply does not
unfoldable pub begun : ℕ → List Line → ℕ
begun count [] = 0
begun count (line ∷ more) = length line.wrote + (if nat_le (length line.told) count then begun (count - length line.told) more else 0)

-- The folder stands for the map after some of a history's writes: at least those acknowledged as synced, at most those begun, by the bytes of replies that were told, and none that passes the limit.
pub record StandsAfter (folder : Folder) (began : Start) (history : List Line) (count : ℕ) : Type 0 where
  pub writes : ℕ
  pub at_least : synced count history ≤ writes
  pub at_most : writes ≤ begun count history
  pub fits : began.last + operations_in (take writes (written_by history)) < 2 ^ 56
  pub stands : LogStands folder (after_writes (take writes (written_by history)) began.now)

-- A cut of a run that obeys these orders: a front of the replies was told, older logs are left whole and, unless a torn fragment's
-- checksum matches by chance, the folder stands for the map after a prefix of the writes.
pub record CutOf (began : Start) (given : List Parsed) (told : List ℕ) (c : Cut) : Type 0 where
  pub history : List Line
  pub last : State
  pub is_history : IsHistory began.now given history last
  pub replies : List ℕ
  pub more : List ℕ
  pub replies_are : replies ++ more ≡ told_by history
  pub told_is : c.told ≡ told ++ replies
  pub whole : AreLeftWhole c
  pub stands : NoChanceMatch c.folder c.written → StandsAfter c.folder began history (length replies)
