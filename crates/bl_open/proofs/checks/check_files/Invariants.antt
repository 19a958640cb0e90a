use Rattle.std.proofs.Common.{◌≡◌, Ok}
use Rattle.std.specs.List.{AllWithin}
use Rattle.bl_site.specs.Disk.{folder_of}
use Rattle.bl_site.specs.Quiet.{OnlyReads}
use Rattle.bl_open.specs.Checks.{check_in}
use Rattle.bl_open.proofs.checks.check_files.Given as goal

abbrev pub invariant-loop-expected : goal.invariant-loop-expected
invariant-loop-expected g l =
    let site = g.S.Site in
    record {
      pass : site.shows → AllWithin (λ e. check_in (folder_of (site.disk l.fn.site)) e ≡ Ok tt) l.expected-items 0 l.expected-index;
      quiet : OnlyReads site l.fn.site l.site;
    }
