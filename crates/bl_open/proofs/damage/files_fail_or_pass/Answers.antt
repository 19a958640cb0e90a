use Rattle.bl_open.proofs.DamageLemmas.{fail_or_pass, failure_one}
use Rattle.bl_open.proofs.damage.files_fail_or_pass.Goals as goal

pub returns-clause-not_both : goal.returns-clause-not_both
returns-clause-not_both c = fail_or_pass

pub returns-clause-one : goal.returns-clause-one
returns-clause-one c = failure_one
