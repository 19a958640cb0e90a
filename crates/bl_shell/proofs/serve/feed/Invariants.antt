use Rattle.std.proofs.Common.{◌≡◌, ℕ, ◌-◌, ◌≤◌, false, List, ◌++◌, length, take}
use Rattle.bl_site.specs.Disk.{Folder}
use Rattle.bl_logstore.specs.Stored.{KeepsOthers}
use Rattle.bl_shell.specs.Machine.{Start}
use Rattle.bl_shell.specs.Carried.{Carried, Steady}
use Rattle.bl_shell.proofs.serve.feed.Given as goal

abbrev pub invariant-lines : goal.invariant-lines
invariant-lines g l =
    let site = g.S.Site in
    record {
      within : l.at ≤ length l.piece;
      usable : l.store.broken ≡ false;
      disk : site.disk_faults l.fn.site ≤ site.disk_faults l.site;
      tell : site.tell_faults l.fn.site ≤ site.tell_faults l.site;
      others : site.shows → KeepsOthers (site.disk l.fn.site) (site.disk l.site);
      carried : site.shows → (began : Start) (folder : Folder) (told script : List ℕ) (start : g.row.S.Denot)
          → Carried began folder told script l.fn.store l.fn.line (site.disk l.fn.site) (site.told l.fn.site) (Steady site.certain site.clock site.left_since start l.fn.site)
          → Carried began folder told (script ++ take l.at l.piece) l.store l.line (site.disk l.site) (site.told l.site) (Steady site.certain site.clock site.left_since start l.site);
    }

abbrev pub decreases-lines : goal.decreases-lines
decreases-lines g l = length l.piece - l.at
