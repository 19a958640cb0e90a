use Rattle.std.proofs.Common.{◌≡◌, ◌+◌, [], ◌∷◌, length, Some, Err, sym, ◌∙◌, ap, subst, arith}
use Rattle.bl_entry.specs.Batches.{Batch}
use Rattle.bl_entry.specs.Reading.{read_batch, Decodes}
use Rattle.bl_entry.specs.declared.decode.BadBatch.{BadBatch}
use Rattle.bl_entry.specs.declared.decode.BadBatch.TheVariants.{At}
use Rattle.bl_wal.proofs.RecordLemmas.{none_read, other_first, next_read}
use Rattle.bl_wal.proofs.batches.take_batch.Goals as goal
use Rattle.bl_wal.proofs.batches.take_batch.Goals.{then-first-eq0-via-then-first-eq0, then-first-eq0-via-else-first-eq0+then-first-last}

pub returns-in-Err-At-clause-taken : goal.returns-in-Err-At-clause-taken
returns-in-Err-At-clause-taken c =
    let P : BadBatch → Type 0 = λ e. Decodes (Err e) (read_batch c.args.payload.now) in
    none_read c.args.payload.now c.args.last.now (At c.in-Err-At.field-0-0 c.in-Err-At.field-0-1) (subst P c.in-Err-At.field-0-is c.in-Err-At.ensures.exact)

differs : (c : goal.After-drop-batch-inside) → c.in-Ok.read.0 ≡ c.args.last.now + 1 → ⊥
differs c is = elim c.then-first-eq0.branch [
  | then-first-eq0-via-then-first-eq0 w ↦ omega (arith, w.if-first-eq0.true)
  | then-first-eq0-via-else-first-eq0+then-first-last w ↦ w.if-first-last.true (omega arith)
]

pub returns-then-first-eq0-clause-taken : goal.returns-then-first-eq0-clause-taken
returns-then-first-eq0-clause-taken c = other_first c.args.payload.now c.args.last.now (record { first = c.in-Ok.read.0; operations = c.in-Ok.read.1 }) c.in-Ok.ensures.exact (differs c)

pub returns-clause-taken : goal.returns-clause-taken
returns-clause-taken c =
    let b : Batch = record { first = c.in-Ok.read.0; operations = c.in-Ok.read.1 } in
    let first : b.first ≡ c.args.last.now + 1 = omega (arith, c.if-first-last.false, c.if-first-eq0.false) in
    let count : c.from.result ≡ length b.operations = c.from.ensures ∙ c.count.ensures in (
      next_read c.args.payload.now c.args.last.now b c.in-Ok.ensures.exact first ∙ ap (λ n. Some (b ∷ [], c.args.last.now + n)) (sym count),
      record { first_is = first; last_is = ap (λ n. c.args.last.now + n) count; bounds = c.in-Ok.ensures.found.sequences },
    )
