use Rattle.std.proofs.Common.{◌∙◌, ap, sym, arith}
use Rattle.bl_code.proofs.ReadingLemmas.{are_bytes}
use Rattle.bl_index.specs.Index.{index_at}
use Rattle.bl_index.proofs.IndexLemmas.{reads_all, reads_only}
use Rattle.bl_index.proofs.index.decode_index.Goals as goal

pub returns-clause-accepts : goal.returns-clause-accepts
returns-clause-accepts c = λ i.
    let read = c.read_to_end.ensures ∙ ap index_at c.over.ensures in (
      λ h. reads_only c.args.bytes.now i (are_bytes c.args.bytes.now (λ k. omega (arith, c.type_inv.bytes k))) (sym read ∙ h),
      λ s. read ∙ reads_all c.args.bytes.now i s,
    )
