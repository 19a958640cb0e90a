use Rattle.bl_wal.proofs.LawLemmas.{synced_left}
use Rattle.bl_wal.proofs.laws.synced_logs_are_left.Goals as goal

pub returns : goal.returns
returns c = synced_left c.synced_files_are_left.ensures.files
