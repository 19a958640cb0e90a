use Rattle.std.proofs.Common.{◌∙◌, ap, length}
use Rattle.bl_table.specs.Building.{Building}
use Rattle.bl_table.proofs.BuildLemmas.{size_is}
use Rattle.bl_table.proofs.builder.TableBuilder.size.Goals as goal

pub returns : goal.returns
returns c = λ items given added.
    size_is items given c.args.self.now c.self.inside.offset c.len.result added (ap (λ (b : Building). b.offset) c.self.view_is) (c.len.ensures ∙ ap (λ (b : Building). length b.block.bytes) c.self.view_is)
