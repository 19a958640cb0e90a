use Rattle.bl_cache.proofs.EntryLemmas.{ok_is_run}
use Rattle.bl_cache.proofs.entries.table_entries.Goals as goal

pub returns-in-Ok-clause-run : goal.returns-in-Ok-clause-run
returns-in-Ok-clause-run c =
    ok_is_run c.in-Ok.items.items c.proper_entries.result ((c.tables_are_read_block_by_block.ensures c.args.bytes.now c.in-Ok.items.items).0 c.in-Ok.ensures).ascending
    c.proper_entries.ensures.given c.proper_entries.ensures.proper
