use Rattle.std.proofs.Common.{◌≡◌, ◌<◌, ◌^◌, ◌⊎◌, drop, IsSome}
use Rattle.bl_site.specs.Disk.{folder_of}
use Rattle.bl_site.specs.Quiet.{OnlyReads}
use Rattle.bl_names.specs.Names.{IsNumber}
use Rattle.bl_wal.specs.LogFile.{log_name}
use Rattle.bl_logstore.specs.Listing.{AreLogsAbove}
use Rattle.bl_logstore.specs.Replaying.{HasReplayed}
use Rattle.bl_logstore.specs.Stored.{map_in}
use Rattle.bl_logstore.proofs.open.replay_logs.Given as goal

abbrev pub invariant-loop-number : goal.invariant-loop-number
invariant-loop-number g l =
    let site = g.S.Site in
    let folder = folder_of (site.disk l.fn.site) in
    record {
      bound : l.memory.greatest < 10 ^ 15;
      there : site.shows → (l.memory.greatest ≡ 0) ⊎ (IsNumber l.memory.greatest × IsSome (folder (log_name l.memory.greatest)));
      left : site.shows → AreLogsAbove l.memory.greatest (drop l.number-index l.numbers) folder;
      replayed : site.shows → HasReplayed folder l.memory.greatest (map_in l.memory.map.entries) l.memory.last;
      quiet : OnlyReads site l.fn.site l.site;
    }
