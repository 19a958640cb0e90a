use Rattle.std.proofs.Common.{◌≡◌, ◌∙◌, ap, arith, ◌++◌, length}
use Rattle.bl_table.specs.Spelling.{handle}
use Rattle.bl_table.proofs.BuildLemmas.{handle_short}
use Rattle.bl_table.proofs.builder.close_block.Goals as goal

pub add-requires-clause-value : goal.add-requires-clause-value
add-requires-clause-value c =
    let short = handle_short c.args.offset c.len-size.result in
    let n : length c.deref.result.now ≡ length (handle c.args.offset c.len-size.result) =
    ap length (c.deref.ensures.value ∙ c.in_ok-put_handle.ensures ∙ ap (λ x. x ++ handle c.args.offset c.len-size.result) c.new-value.ensures.items) in
    omega arith
