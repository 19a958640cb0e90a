use Rattle.std.proofs.Common.{sym, subst}
use Rattle.bl_read.specs.Scanning.{IsBefore}
use Rattle.bl_read.proofs.BoundLemmas.{starts}
use Rattle.bl_read.proofs.bound.Bound.start.Goals as goal

pub returns-clause-start : goal.returns-clause-start
returns-clause-start c = starts c.args.self.now c.in_ok-user.user (subst (IsBefore c.args.self.now) (sym c.in_ok-user.ensures.copy) c.user.ensures.before)
