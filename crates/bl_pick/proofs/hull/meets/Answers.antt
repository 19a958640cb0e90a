use Rattle.std.proofs.Common.{◌∙◌, ap}
use Rattle.std.specs.Prelude.{◌&&◌}
use Rattle.std.specs.Option.{option_copied}
use Rattle.bl_pick.proofs.HullLemmas.{meets_both, meets_no_end, meets_none}
use Rattle.bl_pick.proofs.hull.meets.Goals as goal

pub returns-in_default : goal.returns-in_default
returns-in_default c = λ ts h. meets_none (option_copied c.args.hull.now.first) (option_copied c.args.hull.now.last) ts c.args.table.now (ap option_copied c.in_default.is) h

pub returns-in_default-last : goal.returns-in_default-last
returns-in_default-last c = λ ts h. meets_no_end (option_copied c.args.hull.now.first) (option_copied c.args.hull.now.last) ts c.args.table.now (ap option_copied c.in_default-last.is) h

pub returns : goal.returns
returns c = λ ts h.
    c.both.ensures ∙ (λ i. c.reaches-begins.ensures i && c.reaches-ends.ensures i)
    ∙ meets_both (option_copied c.args.hull.now.first) (option_copied c.args.hull.now.last) c.in-Some.first.now c.in-Some-last.last.now ts c.args.table.now (ap option_copied c.in-Some.is) (ap option_copied c.in-Some-last.is) h
