use Rattle.std.proofs.Common.{◌≡◌, Err, length, sym, ◌∙◌, ap, arith}
use Rattle.bl_cache.proofs.RecordLemmas.{fault_is_near, record_size}
use Rattle.bl_cache.proofs.files.value_of.Goals as goal

pub advance-requires : goal.advance-requires
advance-requires c =
    let size = record_size c.deref.result.now c.args.key.now c.args.size (c.check_record.ensures.accepts.0 c.in-Ok.is) in
    let same : c.in_ok-value-in-Ok.value ≡ c.args.bytes.items = c.in_ok-value-in-Ok.ensures.ok in
    let own : c.deref.result.now ≡ c.args.bytes.items = c.deref.ensures.value in
    omega (arith, size, ap length same, ap length own)

pub overflow_add-result : goal.overflow_add-result
overflow_add-result c =
    let near = fault_is_near c.deref.result.now c.args.key.now c.args.size c.in-Err-At.field-0-0 c.in-Err-At.place
    (sym c.check_record.ensures.reads ∙ c.in-Err-At.is ∙ ap Err c.in-Err-At.field-0-is) in
    omega (arith, near, c.requires)
