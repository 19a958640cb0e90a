use Rattle.std.proofs.Common.{◌≡◌, ◌<◌, ◌≤◌, length, [], sym, ◌∙◌, arith, ⊎_elim, append-nil}
use Rattle.std.specs.Prelude.{IsSome}
use Rattle.bl_out.specs.Outputs.{IsSealedAs, next_file}
use Rattle.bl_out.specs.Steps.{closed_last}
use Rattle.bl_out.specs.contracts.writer.Output.{the_view}
use Rattle.bl_out.proofs.AppendLemmas.{ok_map}
use Rattle.bl_out.proofs.BecomeLemmas.{acts_join}
use Rattle.bl_out.proofs.SealLemmas.{filled_closed, ok_to, seals_hand, seals_table, table_as_before}
use Rattle.bl_out.proofs.writer.Output.seal_table.Goals as goal

pub returns-then-self-len-clause-becomes : goal.returns-then-self-len-clause-becomes
returns-then-self-len-clause-becomes g c = λ next.
    let s = the_view c.self.inside in
    let less : s.sealed < length s.tables = omega (arith, c.if-self-len.true, c.len.ensures, c.self.inside.tables.ok.0) in
    ok_map c.sync_table.result (rw (← c.self.view_is) (seals_table g.S.Site next s c.sync_table.new.self c.args.site.now c.sync_table.new.site less)) (c.sync_table.ensures.becomes next)

pub sync_table-requires-2-clause-there : goal.sync_table-requires-2-clause-there
sync_table-requires-2-clause-there g c = λ shown. (c.in_ok-close_table.ensures.becomes 0).there shown (c.requires.there shown)

pub returns-clause-becomes : goal.returns-clause-becomes
returns-clause-becomes g c = λ next.
    let a = c.args.self.now in
    let inside : a ≡ the_view c.self.inside = sym c.self.view_is in
    let least : length a.tables ≤ a.sealed = rw inside (omega (arith, c.if-self-len.false, c.len.ensures, c.self.inside.tables.ok.0)) in
    let hand : IsSome a.table × (a.sealed ≤ length a.tables) = ⊎_elim (λ less. absurd (omega arith)) (λ both. both) c.requires.next in
    ok_map c.sync_table-2.result (seals_hand g.S.Site next a c.close_table.new.self c.sync_table-2.new.self c.args.site.now c.close_table.new.site c.sync_table-2.new.site hand.0 (omega (arith, hand.1)) (c.in_ok-close_table.ensures.becomes next))
    (c.sync_table-2.ensures.becomes next)

pub returns-clause-named : goal.returns-clause-named
returns-clause-named g c = λ o is filled.
    ok_to c.sync_table-2.result (IsSealedAs (next_file (closed_last o))) (IsSealedAs (next_file o)) (λ r named. table_as_before o r named)
    (c.sync_table-2.ensures.named (closed_last o) ((c.in_ok-close_table.ensures.becomes 0).out o is) (filled_closed o filled))

pub returns-clause-acts : goal.returns-clause-acts
returns-clause-acts g c =
    acts_join g.S.Site c.in_ok-close_table.field-0 c.sync_table-2.result c.args.self.now c.close_table.new.self c.sync_table-2.new.self c.args.site.now c.close_table.new.site c.sync_table-2.new.site [] (c.in_ok-close_table.ensures.becomes 0).certain
    (c.sync_table-2.ensures.drawn ∙ sym (append-nil c.close_table.new.self.drawn)) c.in_ok-close_table.ensures.acts c.sync_table-2.ensures.acts
