-- What a store holds that was made in a fresh folder.
use Rattle.std.specs.Prelude.{[]}
use Rattle.bl_build.specs.declared.meta.Standing.{Standing}
use Rattle.bl_build.specs.Listing.{nothing}
use Rattle.bl_folder.specs.Holding.{Holding}

-- no file of a version, and no batch
abbrev pub no_holding : Standing → Holding
no_holding standing = record { live = record { version = nothing; standing = standing }; tables = []; blobs = []; batches = []; last = standing.last_sequence }
