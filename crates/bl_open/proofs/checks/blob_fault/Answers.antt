use Rattle.std.proofs.Common.{◌≡◌, ◌+◌, ap, arith, Some, sym, ◌∙◌}
use Rattle.std.proofs.lemmas.Result.{IfOk-weaker}
use Rattle.bl_site.specs.Disk.{Disk, folder_of}
use Rattle.bl_open.proofs.CheckLemmas.{blob_footer, blob_header, blob_length, long_there}
use Rattle.bl_open.proofs.checks.blob_fault.Goals as goal
use Rattle.bl_open.proofs.checks.blob_fault.Goals.{then-size-lt-BLOB_ENDS-via-then-size-lt-BLOB_ENDS, then-size-lt-BLOB_ENDS-via-else-size-lt-BLOB_ENDS+then-size-total}

pub returns-then-size-lt-BLOB_ENDS-clause-fault : goal.returns-then-size-lt-BLOB_ENDS-clause-fault
returns-then-size-lt-BLOB_ENDS-clause-fault g c = λ shown.
    blob_length c.args.total c.in_ok-size.size (folder_of (g.S.Site.disk c.args.site.now) c.args.name.now) (c.in_ok-size.ensures.length shown)
    (λ e. elim c.then-size-lt-BLOB_ENDS.branch [
      | then-size-lt-BLOB_ENDS-via-then-size-lt-BLOB_ENDS w ↦ omega (arith, e, w.if-size-lt-BLOB_ENDS.true)
      | then-size-lt-BLOB_ENDS-via-else-size-lt-BLOB_ENDS+then-size-total w ↦ w.if-size-total.true (omega (arith, e))
    ])

pub returns-then-is_some-clause-fault : goal.returns-then-is_some-clause-fault
returns-then-is_some-clause-fault g c = λ shown.
    let same : c.in_ok-size.size ≡ 62 + c.args.total.bytes = omega (arith, c.if-size-lt-BLOB_ENDS.false, c.if-size-total.false) in
    blob_header c.args.total c.in_ok-size.size (folder_of (g.S.Site.disk c.args.site.now) c.args.name.now) c.in_ok-fault.fault (c.in_ok-size.ensures.length shown) same
    (λ bytes there. c.in_ok-fault.ensures.fault shown bytes (ap (λ (d : Disk). folder_of d c.args.name.now) (c.length_of.ensures.quiet.stays shown).same ∙ there)) (sym c.if-is_some.ensures)

pub returns-clause-fault : goal.returns-clause-fault
returns-clause-fault g c = λ shown.
    let f = folder_of (g.S.Site.disk c.args.site.now) c.args.name.now in
    let same : c.in_ok-size.size ≡ 62 + c.args.total.bytes = omega (arith, c.if-size-lt-BLOB_ENDS.false, c.if-size-total.false) in
    let there = long_there f c.in_ok-size.size (c.in_ok-size.ensures.length shown) c.if-size-lt-BLOB_ENDS.false in
    let first : folder_of (g.S.Site.disk c.length_of.new.site) c.args.name.now ≡ Some there.0 = ap (λ (d : Disk). folder_of d c.args.name.now) (c.length_of.ensures.quiet.stays shown).same ∙ there.1 in
    let second : folder_of (g.S.Site.disk c.header_fault.new.site) c.args.name.now ≡ Some there.0 = ap (λ (d : Disk). folder_of d c.args.name.now) (c.header_fault.ensures.quiet.stays shown).same ∙ first in
    IfOk-weaker c.footer_fault.result _ _
    (λ fault ends. blob_footer c.args.total c.in_ok-size.size f there.0 c.in_ok-fault.fault fault there.1 there.2 same (c.in_ok-fault.ensures.fault shown there.0 first) (sym c.if-is_some.ensures) ends)
    (c.footer_fault.ensures.fault shown there.0 second there.2)
