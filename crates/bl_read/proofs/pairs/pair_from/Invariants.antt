use Rattle.std.proofs.Common.{◌≡◌}
use Rattle.std.specs.Option.{option_copied}
use Rattle.bl_build.specs.Listing.{Listing}
use Rattle.bl_entry.specs.Revisions.{Map}
use Rattle.bl_site.specs.Disk.{folder_of}
use Rattle.bl_site.specs.Quiet.{OnlyReads}
use Rattle.bl_read.specs.Giving.{Gives, memories_of}
use Rattle.bl_read.specs.Scanning.{IsScan, next_in}
use Rattle.bl_read.proofs.pairs.pair_from.Given as goal

abbrev pub invariant-keys : goal.invariant-keys
invariant-keys g l =
    let site = g.S.Site in
    record {
      scan : site.shows → (version : Listing) → IsScan (folder_of (site.disk l.fn.site)) version l.fn.merged → IsScan (folder_of (site.disk l.fn.site)) version l.merged;
      next : site.shows → (version : Listing) → IsScan (folder_of (site.disk l.fn.site)) version l.fn.merged → (m : Map)
          → Gives (folder_of (site.disk l.fn.site)) (record { version = version; memories = memories_of (option_copied l.fn.memories.waiting) l.fn.memories.in_use.now }) l.seq m
          → next_in l.fn.bound m ≡ next_in l.bound m;
      quiet : OnlyReads site l.fn.site l.site;
    }
