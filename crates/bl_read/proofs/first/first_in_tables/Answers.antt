use Rattle.std.proofs.Common.{◌≡◌, sym, ◌∙◌, ap, subst}
use Rattle.std.proofs.lemmas.Result.{err_from_is_err_and}
use Rattle.bl_site.specs.Disk.{Folder, folder_of}
use Rattle.bl_site.proofs.Quiet.{reads_on}
use Rattle.bl_merge.specs.Heads.{KeepAll}
use Rattle.bl_cache.specs.Runs.{Keeps}
use Rattle.bl_read.proofs.MergingLemmas.{over_after, passed, sought, still_over}
use Rattle.bl_read.proofs.ToldLemmas.{never_outside}
use Rattle.bl_read.proofs.first.first_in_tables.Goals as goal

pub returns-in_err-seek-clause-over : goal.returns-in_err-seek-clause-over
returns-in_err-seek-clause-over g c = λ shown lists over.
    still_over (folder_of (g.S.Site.disk c.args.site.now)) lists c.args.merged.now c.seek.new.self over c.in_err-seek.ensures.same (c.in_err-seek.ensures.keeps shown over.keeps)

pub returns-in_err-seek-clause-corrupt : goal.returns-in_err-seek-clause-corrupt
returns-in_err-seek-clause-corrupt g c = λ shown lists over name place is.
    let f : Folder = folder_of (g.S.Site.disk c.args.site.now) in
    never_outside f f name c.args.merged.now over.keeps
    (c.in_err-seek.ensures.corrupt shown over.keeps name place (let p = err_from_is_err_and c.from_residual.result c.from_residual.ensures.1 in cc (p.1, p.2, is)))

pub entries-init : goal.entries-init
entries-init g c = record {
  going = λ shown lists over.
      sought (folder_of (g.S.Site.disk c.args.site.now)) lists c.args.merged.now c.seek.new.self c.args.bound.now c.args.seq c.args.from.now c.requires over c.in_ok-seek.ensures.same
      (c.in_ok-seek.ensures.placed shown) (c.in_ok-seek.ensures.moved shown);
  quiet = c.in_ok-seek.ensures.quiet;
}

pub returns-in_err-entry-clause-over : goal.returns-in_err-entry-clause-over
returns-in_err-entry-clause-over g c = λ shown lists over.
    let site = g.S.Site in
    let f : Folder = folder_of (site.disk c.args.site.now) in
    let now : Folder = folder_of (site.disk c.entries.site) in
    let same : now ≡ f = ap folder_of (c.entries.invariant.quiet.stays shown).same in
    over_after f lists c.entries.merged c.next.new.self c.args.bound.now c.args.seq now same (c.entries.invariant.going shown lists over).over c.in_err-entry.ensures.same (c.in_err-entry.ensures.keeps shown)

pub returns-in_err-entry-clause-corrupt : goal.returns-in_err-entry-clause-corrupt
returns-in_err-entry-clause-corrupt g c = λ shown lists over name place is.
    let site = g.S.Site in
    let f : Folder = folder_of (site.disk c.args.site.now) in
    let now : Folder = folder_of (site.disk c.entries.site) in
    let same : now ≡ f = ap folder_of (c.entries.invariant.quiet.stays shown).same in
    let keeps : KeepAll Keeps c.entries.merged now = subst (KeepAll Keeps c.entries.merged) (sym same) (c.entries.invariant.going shown lists over).over.keeps in
    never_outside f now name c.entries.merged keeps
    (c.in_err-entry.ensures.corrupt shown keeps name place (let p = err_from_is_err_and c.from_residual-in_err-entry.result c.from_residual-in_err-entry.ensures.1 in cc (p.1, p.2, is)))

pub returns-then-tells-clause-over : goal.returns-then-tells-clause-over
returns-then-tells-clause-over g c = λ shown lists over.
    let site = g.S.Site in
    let f : Folder = folder_of (site.disk c.args.site.now) in
    let now : Folder = folder_of (site.disk c.entries.site) in
    let same : now ≡ f = ap folder_of (c.entries.invariant.quiet.stays shown).same in
    over_after f lists c.entries.merged c.next.new.self c.args.bound.now c.args.seq now same (c.entries.invariant.going shown lists over).over c.in_ok-entry.ensures.same (c.in_ok-entry.ensures.keeps shown)

pub returns-in-None-clause-over : goal.returns-in-None-clause-over
returns-in-None-clause-over g c = λ shown lists over.
    let site = g.S.Site in
    let f : Folder = folder_of (site.disk c.args.site.now) in
    let now : Folder = folder_of (site.disk c.entries.site) in
    let same : now ≡ f = ap folder_of (c.entries.invariant.quiet.stays shown).same in
    over_after f lists c.entries.merged c.next.new.self c.args.bound.now c.args.seq now same (c.entries.invariant.going shown lists over).over c.in_ok-entry.ensures.same (c.in_ok-entry.ensures.keeps shown)

pub entries-preserved : goal.entries-preserved
entries-preserved g c =
    let site = g.S.Site in
    let f : Folder = folder_of (site.disk c.args.site.now) in
    let now : Folder = folder_of (site.disk c.entries.site) in
    record {
      going = λ shown lists over.
          let same : now ≡ f = ap folder_of (c.entries.invariant.quiet.stays shown).same in
          passed f lists c.entries.merged c.next.new.self c.args.bound.now c.args.seq now same (c.entries.invariant.going shown lists over) c.in_ok-entry.ensures.same
          c.in-Some.entry c.in_ok-entry.field-0 c.in-Some.is (sym c.tells.ensures ∙ c.if-tells.false)
          (c.in_ok-entry.ensures.placed shown) (c.in_ok-entry.ensures.given shown) (c.in_ok-entry.ensures.moved shown);
      quiet = reads_on site c.args.site.now c.entries.site c.next.new.site c.entries.invariant.quiet c.in_ok-entry.ensures.quiet;
    }
