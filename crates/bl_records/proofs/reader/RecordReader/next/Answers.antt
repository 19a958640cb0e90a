use Rattle.std.proofs.Common.{string_bytes}
use Rattle.bl_site.specs.Disk.{folder_of}
use Rattle.bl_records.proofs.FoundLemmas.{seen_whole}
use Rattle.bl_records.proofs.reader.RecordReader.next.Goals as goal

pub returns-clause-err : goal.returns-clause-err
returns-clause-err g c = λ shown.
    seen_whole c.read_next.result (folder_of (g.S.Site.disk c.args.site.now)) (string_bytes c.self.inside.name) c.as_str.result.now c.self.inside.offset c.read_next.new.offset c.self.inside.reader c.read_next.new.reader c.args.self.now
    c.as_str.ensures.value c.self.view_is (c.read_next.ensures.err shown)
