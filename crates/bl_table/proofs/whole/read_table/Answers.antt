use Rattle.std.proofs.Common.{◌∙◌, ap}
use Rattle.bl_table.specs.Faults.{◌and◌, unless}
use Rattle.bl_table.specs.Steps.{fault_of}
use Rattle.bl_table.proofs.ReadLemmas.{whole_short, whole_read, tail_is}
use Rattle.bl_table.proofs.whole.read_table.Goals as goal

pub returns-then-size-lt-FOOTER : goal.returns-then-size-lt-FOOTER
returns-then-size-lt-FOOTER c = whole_short c.args.bytes.now c.if-size-lt-FOOTER.true

pub returns-in-Some : goal.returns-in-Some
returns-in-Some c =
    whole_read c.args.bytes.now _ c.footer_of-footer.result.meta c.footer_of-footer.result.index (fault_of c.footer_of-footer.result.fault) (fault_of c.in_ok-meta.meta) (fault_of c.in_ok-index.index) (fault_of c.first_of-2.result) c.in_ok-index.entries.items
    c.if-size-lt-FOOTER.false (tail_is c.args.bytes.now) c.footer_of-footer.ensures.meta c.footer_of-footer.ensures.index c.footer_of-footer.ensures.fault c.in_ok-meta.ensures c.in_ok-index.ensures.fault c.in_ok-index.ensures.entries
    (c.first_of-2.ensures ∙ ap (λ o. fault_of c.footer_of-footer.result.fault and o) c.first_of.ensures)
    ∙ ap (λ f. unless (fault_of f) c.in_ok-index.entries.items) c.in-Some.is

pub returns-in-None : goal.returns-in-None
returns-in-None c =
    whole_read c.args.bytes.now _ c.footer_of-footer.result.meta c.footer_of-footer.result.index (fault_of c.footer_of-footer.result.fault) (fault_of c.in_ok-meta.meta) (fault_of c.in_ok-index.index) (fault_of c.first_of-2.result) c.in_ok-index.entries.items
    c.if-size-lt-FOOTER.false (tail_is c.args.bytes.now) c.footer_of-footer.ensures.meta c.footer_of-footer.ensures.index c.footer_of-footer.ensures.fault c.in_ok-meta.ensures c.in_ok-index.ensures.fault c.in_ok-index.ensures.entries
    (c.first_of-2.ensures ∙ ap (λ o. fault_of c.footer_of-footer.result.fault and o) c.first_of.ensures)
    ∙ ap (λ f. unless (fault_of f) c.in_ok-index.entries.items) c.in-None.is
