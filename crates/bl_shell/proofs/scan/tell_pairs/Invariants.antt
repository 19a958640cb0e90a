use Rattle.std.proofs.Common.{◌≡◌, ◌≤◌, ◌++◌, List, ℕ, string_bytes}
use Rattle.std.specs.Option.{option_copied}
use Rattle.bl_site.specs.Calls.{LeavesOnly}
use Rattle.bl_script.specs.declared.command.Command.TheVariants.{Scan}
use Rattle.bl_logstore.specs.Pairs.{pairs_between}
use Rattle.bl_shell.specs.Carried.{CutTelling, TellsFront}
use Rattle.bl_shell.specs.Machine.{reply}
use Rattle.bl_shell.proofs.PairLemmas.{lines_of}
use Rattle.bl_shell.proofs.scan.tell_pairs.Given as goal

-- the lines of some pairs are told, but for those that wait, and the others are left
abbrev pub invariant-pairs : goal.invariant-pairs
invariant-pairs g l =
    let site = g.S.Site in
    record {
      told : site.shows → (done : List (List ℕ × List ℕ)) × ((done ++ l.key-iterator ≡ pairs_between (option_copied l.fn.from) (option_copied l.fn.to) l.fn.store.now)
          × ((t : TellsFront (lines_of done) (site.told l.fn.site) (site.told l.site)) × (t.rest ≡ string_bytes l.lines)));
      certain : site.shows → site.certain l.fn.site → site.certain l.site;
      cuts : site.shows → site.certain l.fn.site → LeavesOnly site.clock site.left_since l.fn.site l.site
          (CutTelling (site.disk l.fn.site) (reply (Scan (option_copied l.fn.from) (option_copied l.fn.to)) l.fn.store.now) (site.told l.fn.site));
      stays : site.shows → site.disk l.site ≡ site.disk l.fn.site;
      disk : site.disk_faults l.fn.site ≤ site.disk_faults l.site;
      tell : site.tell_faults l.fn.site ≤ site.tell_faults l.site;
    }
