use Rattle.std.proofs.Common.{map, string_bytes, take}
use Rattle.bl_open.specs.Listing.{AreNamed}
use Rattle.bl_open.proofs.names.files_named.Given as goal

abbrev pub invariant-loop-name : goal.invariant-loop-name
invariant-loop-name l = AreNamed (take l.name-index (map string_bytes l.names)) l.files.items
