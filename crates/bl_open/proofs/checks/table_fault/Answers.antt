use Rattle.std.proofs.Common.{◌≡◌, ap, drop, subst, sym, take, Err, ◌∙◌}
use Rattle.std.specs.Result.{result_err}
use Rattle.bl_site.specs.Disk.{Disk, folder_of}
use Rattle.bl_table.specs.Faults.{Answers}
use Rattle.bl_table.specs.Table as table
use Rattle.bl_open.specs.Checks.{passed}
use Rattle.bl_open.proofs.CheckLemmas.{table_footer, table_length}
use Rattle.bl_open.proofs.checks.table_fault.Goals as goal

pub returns-then-length-size-clause-fault : goal.returns-then-length-size-clause-fault
returns-then-length-size-clause-fault g c = λ shown.
    table_length c.args.size c.in_ok-length.length (folder_of (g.S.Site.disk c.args.site.now) c.args.name.now) (c.in_ok-length.ensures.length shown) c.if-length-size.true

pub returns-in-Ok-clause-fault : goal.returns-in-Ok-clause-fault
returns-in-Ok-clause-fault g c = λ shown.
    let f = folder_of (g.S.Site.disk c.args.site.now) c.args.name.now in
    let part = take c.in_ok-count.count c.read_part.new.into in
    ap (λ r. result_err (passed r)) (sym c.in-Ok.ensures.reads)
    ∙ table_footer c.args.size c.in_ok-length.length f part (c.in_ok-length.ensures.length shown) c.if-length-size.false
    (λ bytes there. c.in_ok-count.ensures.part shown bytes (ap (λ (d : Disk). folder_of d c.args.name.now) (c.length_of.ensures.quiet.stays shown).same ∙ there)
    ∙ ap (λ n. take 48 (drop n bytes)) c.saturating_sub-start.ensures)

pub returns-in-Err-At-clause-fault : goal.returns-in-Err-At-clause-fault
returns-in-Err-At-clause-fault g c = λ shown.
    let f = folder_of (g.S.Site.disk c.args.site.now) c.args.name.now in
    let part = take c.in_ok-count.count c.read_part.new.into in
    let reads : table.read_footer part c.args.size ≡ Err (c.in-Err-At.field-0-0, c.in-Err-At.place) = subst (λ r. Answers r (table.read_footer part c.args.size)) (c.in-Err-At.is ∙ ap Err c.in-Err-At.field-0-is) c.read_footer.ensures.reads in
    ap (λ r. result_err (passed r)) (sym reads)
    ∙ table_footer c.args.size c.in_ok-length.length f part (c.in_ok-length.ensures.length shown) c.if-length-size.false
    (λ bytes there. c.in_ok-count.ensures.part shown bytes (ap (λ (d : Disk). folder_of d c.args.name.now) (c.length_of.ensures.quiet.stays shown).same ∙ there)
    ∙ ap (λ n. take 48 (drop n bytes)) c.saturating_sub-start.ensures)
