use Rattle.std.proofs.Common.{string_bytes, take}
use Rattle.std.specs.Option.{option_map}
use Rattle.bl_site.specs.Disk.{folder_of}
use Rattle.bl_site.specs.Quiet.{OnlyReads}
use Rattle.bl_open.proofs.ListingLemmas.{First}
use Rattle.bl_open.proofs.names.check_fresh.Given as goal

abbrev pub invariant-loop-listed : goal.invariant-loop-listed
invariant-loop-listed g l =
    let site = g.S.Site in
    record {
      first : site.shows → First (folder_of (site.disk l.fn.site)) (take l.listed-index l.files) (option_map string_bytes l.first);
      quiet : OnlyReads site l.fn.site l.site;
    }
