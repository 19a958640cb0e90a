use Rattle.std.proofs.Common.{◌≡◌, ◌<◌, ℕ, get_or}
use Rattle.bl_site.specs.Disk.{folder_of}
use Rattle.bl_site.specs.Calls.{LeavesOnly}
use Rattle.bl_site.specs.Quiet.{TellsNothing}
use Rattle.bl_names.specs.declared.name.FileName.{FileName}
use Rattle.bl_names.specs.declared.name.FileName.TheVariants.{Log}
use Rattle.bl_folder.specs.Settled.{IsSettled, IsSynced}
use Rattle.bl_open.specs.Keeping.{KeepsAllButLogs}
use Rattle.bl_open.specs.Barrier.{FindsFiles, LeavesFound, SyncsSome}
use Rattle.bl_open.proofs.barrier.sync_logs.Given as goal

abbrev pub invariant-loop-number : goal.invariant-loop-number
invariant-loop-number g l =
    let site = g.S.Site in
    record {
      same : site.shows → folder_of (site.disk l.site) ≡ folder_of (site.disk l.fn.site);
      synced : site.shows → (k : ℕ) → k < l.number-index → IsSynced (site.disk l.site) (Log (get_or l.numbers k 0));
      still : site.shows → (f : FileName) → IsSynced (site.disk l.fn.site) f → IsSynced (site.disk l.site) f;
      kept : site.shows → IsSettled (site.disk l.fn.site) → IsSettled (site.disk l.site);
      only : site.shows → KeepsAllButLogs (site.disk l.fn.site) (site.disk l.site);
      some : site.shows → SyncsSome (site.disk l.fn.site) (site.disk l.site);
      finds : site.shows → site.certain l.fn.site → LeavesOnly site.clock site.left_since l.fn.site l.site (FindsFiles (site.disk l.fn.site) (site.told l.fn.site));
      certain : site.shows → site.certain l.fn.site → site.certain l.site;
      before : site.shows → LeavesOnly site.clock site.left_since l.fn.site l.site (LeavesFound (site.may_be l.fn.site) (site.told l.fn.site));
      tells_nothing : TellsNothing site l.fn.site l.site;
    }
