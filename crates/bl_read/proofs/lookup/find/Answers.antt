use Rattle.std.proofs.Common.{sym, ◌∙◌, ap}
use Rattle.std.specs.Option.{option_copied}
use Rattle.bl_site.specs.Disk.{folder_of}
use Rattle.bl_read.specs.Giving.{View, memories_of}
use Rattle.bl_read.proofs.ValueLemmas.{memory_value, table_value}
use Rattle.bl_read.proofs.lookup.find.Goals as goal

pub returns-in-Some-clause-value : goal.returns-in-Some-clause-value
returns-in-Some-clause-value g c = λ shown m gives.
    let view : View = record { version = c.args.version.now; memories = memories_of (option_copied c.args.memories.waiting) c.args.memories.in_use.now } in
    memory_value (record { later = c.later_are_told_first.ensures; order = c.latest_is_the_value.ensures.order; value = c.latest_is_the_value.ensures.value }) c.args.key.now c.args.seq
    (folder_of (g.S.Site.disk c.args.site.now)) view m c.in-Some.entry.now c.put_in_memory.result gives
    (sym c.latest.ensures ∙ ap option_copied c.in-Some.is) c.put_in_memory.ensures.put

pub returns-in-None-clause-value : goal.returns-in-None-clause-value
returns-in-None-clause-value g c = λ shown m gives.
    let view : View = record { version = c.args.version.now; memories = memories_of (option_copied c.args.memories.waiting) c.args.memories.in_use.now } in
    table_value (record { later = c.later_are_told_first.ensures; order = c.latest_is_the_value.ensures.order; value = c.latest_is_the_value.ensures.value }) c.args.key.now c.args.seq
    (record {
      grammar = c.tables_are_read_block_by_block.ensures;
      runs = c.runs_are_tables.ensures.run;
      named = c.named_are_read.ensures;
      all = c.merged_lists_are_in_order.ensures.all;
      order = c.merged_lists_are_in_order.ensures.order;
      ties = c.merged_lists_are_in_order.ensures.ties;
      tells = c.latest_tells_the_value.ensures;
      any = c.order_does_not_matter.ensures.values;
    })
    (folder_of (g.S.Site.disk c.args.site.now)) view m c.find_in_tables.result gives
    (sym c.latest.ensures ∙ ap option_copied c.in-None.is) (c.find_in_tables.ensures.told shown)
