use Rattle.bl_out.proofs.SpansLemmas.{long_enough, other_length}
use Rattle.bl_out.proofs.table.is_of_user.Goals as goal

pub returns-then-key-user : goal.returns-then-key-user
returns-then-key-user c = λ k is. long_enough c.args.key.now c.args.user.now k c.starts_with.result is c.if-key-user.true c.starts_with.ensures.value

pub returns-else-key-user : goal.returns-else-key-user
returns-else-key-user c = λ k is. other_length c.args.key.now c.args.user.now k is c.if-key-user.false
