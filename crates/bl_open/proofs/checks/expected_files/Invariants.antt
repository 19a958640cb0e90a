use Rattle.std.proofs.Common.{take}
use Rattle.bl_open.proofs.ExpectedLemmas.{AreOf, HaveBelow, HaveBlobs, HaveTables}
use Rattle.bl_open.proofs.checks.expected_files.Given as goal

abbrev pub invariant-loop-level : goal.invariant-loop-level
invariant-loop-level l = record {
  are : AreOf l.version l.files.items;
  below : HaveBelow l.version l.level l.files.items;
}

abbrev pub invariant-loop-table : goal.invariant-loop-table
invariant-loop-table l = record {
  are : AreOf l.version l.files.items;
  below : HaveBelow l.version l.level l.files.items;
  here : HaveTables (take l.table-index l.table-items) l.files.items;
}

abbrev pub invariant-loop-blob : goal.invariant-loop-blob
invariant-loop-blob l = record {
  are : AreOf l.version l.files.items;
  tables : HaveTables l.version.tables l.files.items;
  blobs : HaveBlobs (take l.blob-index l.blob-items) l.files.items;
}
