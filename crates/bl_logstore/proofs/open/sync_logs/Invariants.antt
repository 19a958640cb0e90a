use Rattle.std.proofs.Common.{◌≡◌, ◌<◌, ℕ, get_or}
use Rattle.bl_site.specs.Disk.{MayLeave, folder_of}
use Rattle.bl_site.specs.Calls.{LeavesOnly}
use Rattle.bl_site.specs.Quiet.{TellsNothing}
use Rattle.bl_wal.specs.LogFile.{log_name}
use Rattle.bl_logstore.specs.Stored.{IsSynced, KeepsOthers, MakesNoFile}
use Rattle.bl_logstore.specs.Cuts.{LeavesFound, AreReadAsWritten, FindsNoNewFile}
use Rattle.bl_logstore.proofs.open.sync_logs.Given as goal

abbrev pub invariant-loop-number : goal.invariant-loop-number
invariant-loop-number g l =
    let site = g.S.Site in
    record {
      same : site.shows → folder_of (site.disk l.site) ≡ folder_of (site.disk l.fn.site);
      synced : site.shows → (k : ℕ) → k < l.number-index → IsSynced (site.disk l.site (log_name (get_or l.numbers k 0)));
      others : site.shows → KeepsOthers (site.disk l.fn.site) (site.disk l.site);
      no_file : site.shows → MakesNoFile (site.disk l.fn.site) (site.disk l.site);
      no_new : site.shows → site.certain l.fn.site → LeavesOnly site.clock site.left_since l.fn.site l.site (FindsNoNewFile (site.disk l.fn.site));
      certain : site.shows → site.certain l.fn.site → site.certain l.site;
      before : site.shows → LeavesOnly site.clock site.left_since l.fn.site l.site (LeavesFound (site.may_be l.fn.site) (site.told l.fn.site));
      cuts : site.shows → AreReadAsWritten (site.disk l.fn.site)
          → AreReadAsWritten (site.disk l.site) × LeavesOnly site.clock site.left_since l.fn.site l.site (MayLeave (site.may_be l.fn.site) (site.told l.fn.site));
      tells_nothing : TellsNothing site l.fn.site l.site;
    }
