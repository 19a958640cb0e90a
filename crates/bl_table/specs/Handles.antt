-- What taking a handle finds.
use Rattle.std.specs.Prelude.{◌≡◌, Option, None, Some}
use Rattle.bl_code.specs.Reading.{Input}
use Rattle.bl_table.specs.declared.handle.Handle.{Handle}
use Rattle.bl_table.specs.Table.{handle_at}

abbrev pub Finds : Option Handle → Input → Input → Type 0
Finds (Some h) old new = handle_at old ≡ Some (h, new)
Finds None old new = handle_at old ≡ None
