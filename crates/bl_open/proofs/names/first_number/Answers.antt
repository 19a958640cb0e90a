use Rattle.std.proofs.Common.{subst, sym}
use Rattle.bl_folder.specs.Numbers.{IsFirstNumber}
use Rattle.bl_open.proofs.names.first_number.Goals as goal

pub returns-clause-first : goal.returns-clause-first
returns-clause-first c = λ folder version is pass listed some.
    subst (λ n. IsFirstNumber folder version c.args.next_file n) (sym c.max.ensures)
    (c.first_number_is_behind_all.ensures folder version c.args.next_file c.greatest_number.result is some pass (c.greatest_number.ensures.greatest folder listed))
