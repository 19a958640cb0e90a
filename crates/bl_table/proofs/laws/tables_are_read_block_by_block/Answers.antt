use Rattle.bl_table.proofs.GrammarLemmas.{read_is_table}
use Rattle.bl_table.proofs.GrammarBackLemmas.{table_is_read}
use Rattle.bl_table.proofs.laws.tables_are_read_block_by_block.Goals as goal

pub returns : goal.returns
returns c = λ bytes entries. (read_is_table bytes entries, table_is_read bytes entries)
