use Rattle.std.proofs.Common.{List}
use Rattle.bl_entry.specs.declared.key.Entry.{Entry}
use Rattle.bl_site.specs.Disk.{folder_of}
use Rattle.bl_site.specs.Quiet.{OnlyReads}
use Rattle.bl_read.specs.Scanning.{IsOver, is_told_at}
use Rattle.bl_read.proofs.MergingLemmas.{IsGoing}
use Rattle.bl_read.proofs.first.first_in_tables.Given as goal

abbrev pub invariant-entries : goal.invariant-entries
invariant-entries g l =
    let site = g.S.Site in
    record {
      going : site.shows → (lists : List (List Entry)) → IsOver (folder_of (site.disk l.fn.site)) lists l.fn.merged → IsGoing (folder_of (site.disk l.fn.site)) lists (is_told_at l.bound l.seq) l.merged;
      quiet : OnlyReads site l.fn.site l.site;
    }
