use Rattle.std.proofs.Common.{◌∙◌, ap, sym, subst, ◌+◌, length, List, ℕ, Some}
use Rattle.bl_out.specs.Outputs.{items_of, open_bytes}
use Rattle.bl_out.specs.States.{Spans}
use Rattle.bl_out.proofs.SpansLemmas.{bytes_more, ends_widened, entry_short, oldest_lesser, spans_more}
use Rattle.bl_out.proofs.table.TableInHand.put.Goals as goal

pub add-requires : goal.add-requires
add-requires c = entry_short c.args.entry.now c.as_slice-2.result.now c.as_slice-3.result.now c.requires.proper (c.as_slice-2.ensures ∙ c.in_ok-key.ensures) c.as_slice-3.ensures

pub returns-clause-spans : goal.returns-clause-spans
returns-clause-spans c = λ es s.
    let e = c.args.entry.now in
    let was : Spans es _ = subst (Spans es) (sym c.self.view_is) s in
    let seq = c.sequence_of-sequence.result in
    spans_more es e _ c.add.new.self c.in_ok-bytes.bytes c.as_slice-2.result.now c.as_slice-3.result.now c.widen.result c.lesser-self-inside.result c.self.inside.number _
    was (ap (λ (bs : List ℕ). c.self.inside.written + length bs) c.as_slice-4.ensures) (c.as_slice-2.ensures ∙ c.in_ok-key.ensures) c.as_slice-3.ensures
    (ends_widened es e c.take.result c.in_ok-first.first c.widen.result c.in_ok-key.key seq (c.take.ensures.value ∙ was.ends) c.in_ok-key.ensures c.sequence_of-sequence.ensures
    (λ none. c.in_ok-first.ensures.first (sym c.take.ensures.value ∙ none) ∙ (λ i. Some (record { smallest = c.as_slice.ensures i; largest = c.as_slice.ensures i; least = seq; most = seq }))) c.widen.ensures)
    (oldest_lesser es e c.self.inside.oldest c.file_of.result c.lesser-self-inside.result was.oldest c.file_of.ensures c.lesser-self-inside.ensures)
    (c.in_ok-bytes.ensures.added (items_of es) (open_bytes es) was.added)

pub returns-clause-bytes : goal.returns-clause-bytes
returns-clause-bytes c = λ es s.
    let was : Spans es _ = subst (Spans es) (sym c.self.view_is) s in
    bytes_more es c.args.entry.now c.add.new.self c.in_ok-bytes.bytes c.as_slice-2.result.now c.as_slice-3.result.now (c.as_slice-2.ensures ∙ c.in_ok-key.ensures) c.as_slice-3.ensures
    (c.in_ok-bytes.ensures.added (items_of es) (open_bytes es) was.added)
