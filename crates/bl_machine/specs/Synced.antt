-- Which writes are known to be on the disk, and which have begun, counted by the bytes of replies that were told.
use Rattle.std.specs.Prelude.{ℕ, ◌+◌, ◌-◌, Bool, true, false, List, [], ◌∷◌, length, nat_le, if◌then◌else◌}
use Rattle.std.specs.List.{list_any}
use Rattle.bl_script.specs.declared.command.Command.{Command}
use Rattle.bl_script.specs.declared.command.Command.TheVariants as command
use Rattle.bl_script.specs.declared.command.Parsed.{Parsed}
use Rattle.bl_script.specs.declared.command.Parsed.TheVariants.{Nothing, Refused, Go}
use Rattle.bl_machine.specs.Step.{Line}

-- its reply says that all writes before it are on the disk
abbrev pub is_syncing : Command → Bool
is_syncing (command.Put key value) = false
is_syncing (command.Del key) = false
is_syncing (command.Batch operations) = false
is_syncing (command.Get key) = false
is_syncing (command.Scan from to) = false
is_syncing command.Sync = true
is_syncing command.Flush = true
is_syncing command.Files = false
is_syncing command.Reopen = true

abbrev pub syncs : Parsed → Bool
syncs Nothing = false
syncs (Refused why) = false
syncs (Go c) = is_syncing c

-- the first lines, whose replies lie whole in so many bytes
unfoldable pub whole_within : ℕ → List Line → List Line
whole_within count [] = []
whole_within count (line ∷ more) = if nat_le (length line.told) count then line ∷ whole_within (count - length line.told) more else []

-- the number of writes before the last line that syncs
unfoldable pub before_sync : List Line → ℕ
before_sync [] = 0
before_sync (line ∷ more) = if list_any (λ l. syncs l.order) more then length line.wrote + before_sync more else 0

-- the number of writes before the last line that syncs and whose reply lies whole in so many bytes
abbrev pub synced : ℕ → List Line → ℕ
synced count history = before_sync (whole_within count history)

-- the number of writes of the lines whose replies lie whole in so many bytes, and of the first line whose reply does not
unfoldable pub begun : ℕ → List Line → ℕ
begun count [] = 0
begun count (line ∷ more) = length line.wrote + (if nat_le (length line.told) count then begun (count - length line.told) more else 0)
