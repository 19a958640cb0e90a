use Rattle.std.proofs.Common.{◌≡◌}
use Rattle.bl_site.specs.Disk.{folder_of}
use Rattle.bl_site.specs.Quiet.{OnlyReads}
use Rattle.bl_names.specs.Names.{manifest_name}
use Rattle.bl_manifest.specs.Restores.{SequenceFits}
use Rattle.bl_manifest.proofs.ProgressLemmas.{Progress}
use Rattle.bl_manifest.proofs.read.read_all.Given as goal

abbrev pub invariant-records : goal.invariant-records
invariant-records g l =
    let site = g.S.Site in
    record {
      name : l.records.name ≡ manifest_name l.fn.number;
      progress : site.shows → Progress (folder_of (site.disk l.fn.site) (manifest_name l.fn.number)) l.records l.version l.known;
      fits : SequenceFits l.known;
      quiet : OnlyReads site l.fn.site l.site;
    }
