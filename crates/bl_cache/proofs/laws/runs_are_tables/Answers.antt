use Rattle.bl_cache.proofs.TableLemmas.{run_is_table, table_is_run}
use Rattle.bl_cache.proofs.laws.runs_are_tables.Goals as goal

pub returns-clause-table : goal.returns-clause-table
returns-clause-table c = run_is_table

pub returns-clause-run : goal.returns-clause-run
returns-clause-run c = table_is_run
