use Rattle.std.proofs.Common.{◌≡◌}
use Rattle.bl_site.specs.Disk.{folder_of}
use Rattle.bl_site.specs.Quiet.{OnlyReads}
use Rattle.bl_wal.specs.LogFile.{log_name}
use Rattle.bl_wal.proofs.ProgressLemmas.{Progress}
use Rattle.bl_wal.proofs.replayed.replay.Given as goal

abbrev pub invariant-batches : goal.invariant-batches
invariant-batches g l =
    let site = g.S.Site in
    record {
      name : l.batches.records.name ≡ log_name l.fn.number;
      progress : site.shows → Progress l.fn.last (folder_of (site.disk l.fn.site) (log_name l.fn.number)) l.batches l.entries.items;
      quiet : OnlyReads site l.fn.site l.site;
    }
