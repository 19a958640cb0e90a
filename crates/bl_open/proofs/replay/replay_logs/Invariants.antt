use Rattle.std.proofs.Common.{◌<◌, ◌^◌, drop}
use Rattle.bl_site.specs.Disk.{folder_of}
use Rattle.bl_site.specs.Quiet.{OnlyReads}
use Rattle.bl_open.proofs.ReplayLemmas.{SoFar}
use Rattle.bl_open.specs.Replaying.{IsFilled}
use Rattle.bl_open.proofs.replay.replay_logs.Given as goal

abbrev pub invariant-loop-number : goal.invariant-loop-number
invariant-loop-number g l =
    let site = g.S.Site in
    record {
      filled : IsFilled l.memory l.behind;
      so_far : site.shows → SoFar (folder_of (site.disk l.fn.site)) l.from l.last (drop l.number-index l.numbers) l.memory l.behind;
      bound : l.last < 2 ^ 56 → l.behind < 2 ^ 56;
      quiet : OnlyReads site l.fn.site l.site;
    }
