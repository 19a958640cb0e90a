use Rattle.std.proofs.Common.{◌≡◌, inl, inr}
use Rattle.bl_names.specs.declared.name.FileName.TheVariants.{Current}
use Rattle.bl_out.specs.Files.{file}
use Rattle.bl_site.specs.Disk.{folder_of}
use Rattle.bl_names.specs.Names.{name_of}
use Rattle.bl_open.specs.declared.error.OpenErr.TheVariants.{Corrupt}
use Rattle.bl_open.proofs.TextLemmas.{bytes_there, names_it, names_none}
use Rattle.bl_open.proofs.names.read_current.Goals as goal

pub returns-in-Some-clause-named : goal.returns-in-Some-clause-named
returns-in-Some-clause-named g c = λ shown.
    let folder = folder_of (g.S.Site.disk c.args.site.now) in
    let there = bytes_there (file folder Current) (c.requires shown) in
    names_it folder there.0 c.read_part.new.into c.in_ok-count.count c.in-Some.number there.1 c.in_ok-count.ensures.bound (c.in_ok-count.ensures.part shown there.0 there.1) c.in-Some.ensures.found

pub returns-in-None-clause-corrupt : goal.returns-in-None-clause-corrupt
returns-in-None-clause-corrupt g c = λ shown name place is.
    let folder = folder_of (g.S.Site.disk c.args.site.now) in
    let there = bytes_there (file folder Current) (c.requires shown) in
    elim c.corrupt.ensures [
      | inl memory ↦ cc (is, memory)
      | inr told ↦
          let e : Corrupt (name_of Current) 0 ≡ Corrupt name place = cc (is, told) in (
            names_none folder there.0 c.read_part.new.into c.in_ok-count.count there.1 (c.in_ok-count.ensures.part shown there.0 there.1) (λ n text. cc (c.parse_current.ensures.all n text, c.in-None.is)),
            cc e,
            cc e,
          )
    ]
