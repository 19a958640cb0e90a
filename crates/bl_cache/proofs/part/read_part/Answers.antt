use Rattle.std.proofs.Common.{◌≡◌, ◌∙◌, ap, min}
use Rattle.bl_site.specs.Disk.{Folder, folder_of}
use Rattle.bl_cache.proofs.PartLemmas.{part_found}
use Rattle.bl_cache.proofs.part.read_part.Goals as goal

pub returns-clause-part : goal.returns-clause-part
returns-clause-part g c = λ shown.
    let old : Folder = folder_of (g.S.Site.disk c.args.site.now) in
    let now : Folder = folder_of (g.S.Site.disk c.length_of.new.site) in
    let same : now ≡ old = ap folder_of (c.in_ok-length.ensures.quiet.stays shown).same in
    part_found (old c.args.name.now) c.in_ok-length.field-0 c.in-Some.length c.args.start c.args.count c.min-there.result c.bytes_of.result (c.in_ok-length.ensures.length shown) c.in-Some.is (c.min-there.ensures ∙ ap (min c.args.count) (c.from.ensures ∙ c.saturating_sub.ensures))
    (λ bytes is. c.bytes_of.ensures.part shown bytes (ap (λ (f : Folder). f c.args.name.now) same ∙ is))
