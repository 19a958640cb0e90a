use Rattle.std.proofs.Common.{◌≡◌, ◌<◌, ◌^◌}
use Rattle.bl_site.specs.Disk.{folder_of}
use Rattle.bl_site.specs.Quiet.{OnlyReads}
use Rattle.bl_wal.specs.LogFile.{log_name}
use Rattle.bl_open.proofs.ReplayLemmas.{Progress}
use Rattle.bl_open.specs.Replaying.{IsFilled}
use Rattle.bl_open.proofs.replay.replay_log.Given as goal

abbrev pub invariant-batches : goal.invariant-batches
invariant-batches g l =
    let site = g.S.Site in
    record {
      name : l.batches.records.name ≡ log_name l.fn.number;
      filled : IsFilled l.memory l.batches.last;
      progress : site.shows → Progress l.fn.last (folder_of (site.disk l.fn.site) (log_name l.fn.number)) l.fn.memory l.batches l.memory;
      bound : l.fn.last < 2 ^ 56 → l.batches.last < 2 ^ 56;
      quiet : OnlyReads site l.fn.site l.site;
    }
