use Rattle.bl_shell.proofs.LawLemmas.{no_reply_before}
use Rattle.bl_shell.proofs.laws.no_reply_is_before_the_barrier.Goals as goal

pub returns : goal.returns
returns c = no_reply_before
