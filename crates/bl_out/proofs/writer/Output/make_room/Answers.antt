use Rattle.std.proofs.Common.{◌≡◌, Bool, true, sym, subst, rules, arith}
use Rattle.std.specs.List.{range_with_len}
use Rattle.bl_out.specs.States.{Becomes}
use Rattle.bl_out.specs.Steps.{closed_last, with_room, with_table}
use Rattle.bl_out.proofs.BecomeLemmas.{acts_join, becomes_then, ordered_closed}
use Rattle.bl_out.proofs.PartLemmas.{at_ok, on_ok}
use Rattle.bl_out.proofs.writer.Output.make_room.Goals as goal

pub begin_table-requires-clause-there : goal.begin_table-requires-clause-there
begin_table-requires-clause-there g c = λ shown. (c.in_ok-close_table.ensures.becomes 0).there shown (c.requires.there shown)

pub returns-clause-becomes : goal.returns-clause-becomes
returns-clause-becomes g c =
    let next = c.args.numbers.now in
    let begins : c.args.begins ≡ true = first_of (cc, search rules, grind arith) in
    let r = c.begin_table.result in
    on_ok r (λ x is. subst (λ (b : Bool). Becomes g.S.Site next (with_room b next) c.args.self.now c.begin_table.new.self c.args.site.now c.begin_table.new.site) (sym begins)
    (becomes_then g.S.Site next next closed_last (with_table next) c.args.self.now c.close_table.new.self c.begin_table.new.self c.args.site.now c.close_table.new.site c.begin_table.new.site (λ o out up. ordered_closed next o up)
    (c.in_ok-close_table.ensures.becomes next) (at_ok r x is c.begin_table.ensures.becomes)))

pub returns-clause-acts : goal.returns-clause-acts
returns-clause-acts g c =
    acts_join g.S.Site c.in_ok-close_table.field-0 c.begin_table.result c.args.self.now c.close_table.new.self c.begin_table.new.self c.args.site.now c.close_table.new.site c.begin_table.new.site
    (range_with_len c.args.numbers.now c.begin_table.ensures.draws.made) (c.in_ok-close_table.ensures.becomes 0).certain c.begin_table.ensures.draws.drawn c.in_ok-close_table.ensures.acts c.begin_table.ensures.acts
