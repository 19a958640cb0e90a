use Rattle.bl_folder.proofs.QuietLemmas.{others_keep_needed, quiet_cuts_are_like, quiet_cuts_keep_needed}
use Rattle.bl_folder.proofs.flushes.quiet_cuts_keep_needed.Goals as goal

pub returns : goal.returns
returns c = record { cuts = quiet_cuts_are_like; keep = quiet_cuts_keep_needed; needed = others_keep_needed }
