-- What a store holds.
use Rattle.std.specs.Prelude.{ℕ, List, [], ◌∷◌, ◌++◌, length, take}
use Rattle.bl_entry.specs.Revisions.{Map, after_operations}
use Rattle.bl_entry.specs.declared.batch.Operation.{Operation}
use Rattle.bl_open.specs.Steady.{Maps}

-- the operations of each write, in their order
abbrev pub Writes : Type 0
Writes = List (List Operation)

-- the map after some writes
abbrev pub after_writes : Writes → Map → Map
after_writes [] m = m
after_writes (w ∷ more) m = after_writes more (after_operations w m)

-- the map that it began with, the writes since, and how many of these every power cut keeps
pub record Held : Type 0 where
  pub before : Map
  pub writes : Writes
  pub durable : ℕ

-- the map after each number of the writes
abbrev pub maps_of : Held → Maps
maps_of held count = after_writes (take count held.writes) held.before

-- the map after all of them
abbrev pub now_of : Held → Map
now_of held = after_writes held.writes held.before

-- nothing was written yet
abbrev pub begun_with : Map → Held
begun_with m = record { before = m; writes = []; durable = 0 }

-- one write more
abbrev pub with_write : List Operation → Held → Held
with_write w held = record held { writes = held.writes ++ w ∷ [] }

-- all writes are durable
abbrev pub all_durable : Held → Held
all_durable held = record held { durable = length held.writes }
