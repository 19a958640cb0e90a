-- The names so far and those of the files that are left are all of the names.
use Rattle.std.proofs.Common.{◌≡◌, ◌++◌, map}
use Rattle.std.specs.String.{string_bytes}
use Rattle.bl_site_host.specs.Events.{files_of}
use Rattle.bl_site_host.proofs.folder.files.Given as goal

abbrev pub invariant-entries : goal.invariant-entries
invariant-entries g l = g.S.System.shows → record {
  all : map string_bytes l.names.items ++ files_of (g.S.System.left l.entries) ≡ files_of (g.S.System.left l.fn.entries);
  calls : g.S.System.calls l.system ≡ g.S.System.calls l.fn.system;
}
