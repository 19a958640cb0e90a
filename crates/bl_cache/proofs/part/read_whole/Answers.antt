use Rattle.std.proofs.Common.{◌≡◌, ◌∙◌, ap}
use Rattle.bl_site.specs.Disk.{Folder, folder_of}
use Rattle.bl_cache.proofs.PartLemmas.{whole_found}
use Rattle.bl_cache.proofs.part.read_whole.Goals as goal

pub returns-clause-bytes : goal.returns-clause-bytes
returns-clause-bytes g c = λ shown.
    let old : Folder = folder_of (g.S.Site.disk c.args.site.now) in
    let now : Folder = folder_of (g.S.Site.disk c.length_of.new.site) in
    let same : now ≡ old = ap folder_of (c.in_ok-length_of.ensures.quiet.stays shown).same in
    whole_found (old c.args.name.now) c.in_ok-length_of.field-0 c.args.size c.bytes_of.result (c.in_ok-length_of.ensures.length shown) c.if-ne.ensures
    (λ bytes is. c.bytes_of.ensures.part shown bytes (ap (λ (f : Folder). f c.args.name.now) same ∙ is))
