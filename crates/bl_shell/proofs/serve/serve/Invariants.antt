use Rattle.std.proofs.Common.{◌≡◌, ℕ, ◌+◌, ◌-◌, ◌≤◌, ◌^◌, false, List, ◌++◌, length, min}
use Rattle.bl_site.specs.Disk.{Folder}
use Rattle.bl_logstore.specs.Stored.{KeepsOthers}
use Rattle.bl_shell.specs.Machine.{Start}
use Rattle.bl_shell.specs.Carried.{Carried, StandsAtStart, Steady}
use Rattle.bl_shell.proofs.serve.serve.Given as goal

abbrev pub invariant-reads : goal.invariant-reads
invariant-reads g l =
    let site = g.S.Site in
    let source = g.R.Source in
    record {
      bound : l.taken ≤ 2 ^ 40 + length l.fn.buffer;
      usable : l.store.broken ≡ false;
      took : min (source.taken l.fn.script + l.taken) (2 ^ 64 - 1) ≤ source.taken l.script;
      at_most : source.taken l.script ≤ source.taken l.fn.script + l.taken;
      faults : source.faults l.fn.script ≤ source.faults l.script;
      disk : site.disk_faults l.fn.site ≤ site.disk_faults l.site;
      tell : site.tell_faults l.fn.site ≤ site.tell_faults l.site;
      others : site.shows → KeepsOthers (site.disk l.fn.site) (site.disk l.site);
      -- some bytes of the script were taken, and all is as the machine has it after them
      eaten : site.shows → (front : List ℕ) × (((began : Start) (folder : Folder) → StandsAtStart began folder l.fn.store (site.disk l.fn.site)
          → Carried began folder (site.told l.fn.site) front l.store l.line (site.disk l.site) (site.told l.site) (Steady site.certain site.clock site.left_since l.fn.site l.site))
          × (source.shows → front ++ source.left l.script ≡ source.left l.fn.script) × (length front ≡ l.taken));
    }

abbrev pub decreases-reads : goal.decreases-reads
decreases-reads g l = 2 ^ 40 + 1 - l.taken
