use Rattle.std.proofs.Common.{◌≡◌, ◌≤◌, ◌+◌, [], ◌++◌, sym, ◌∙◌, ap, Some, append-nil, Ok}
use Rattle.std.specs.Prelude.{nat_le, is_some, if◌then◌else◌}
use Rattle.std.proofs.lemmas.Bool.{false≢true}
use Rattle.std.proofs.lemmas.Result.{err_from_is_err_and}
use Rattle.bl_edit.specs.Options.{Values}
use Rattle.bl_entry.specs.declared.key.Entry.{Entry}
use Rattle.bl_out.specs.Outputs.{Out}
use Rattle.bl_out.specs.States.{Becomes}
use Rattle.bl_out.specs.Steps.{closed_blob, with_blob_room, with_entry, with_large, with_value}
use Rattle.bl_out.proofs.AddLemmas.{has_blob_is, large_as, no_full, not_full, ordered_blob_room, some_and, some_from}
use Rattle.bl_out.proofs.BecomeLemmas.{acts_join, acts_stop, becomes_as, becomes_then, ordered_entry, ordered_value}
use Rattle.bl_out.proofs.PartLemmas.{at_ok, on_err, on_ok}
use Rattle.bl_out.proofs.writer.Output.add_large.Goals as goal

pub returns-in_err-reference-clause-full : goal.returns-in_err-reference-clause-full
returns-in_err-reference-clause-full g c = λ n is. absurd (not_full c.from_residual-in_err-reference.result _ n c.from_residual-in_err-reference.ensures.1 c.in_err-reference.ensures.causes is)

pub returns-in_err-reference-clause-acts : goal.returns-in_err-reference-clause-acts
returns-in_err-reference-clause-acts g c =
    let p = err_from_is_err_and c.from_residual-in_err-reference.result c.from_residual-in_err-reference.ensures.1 in
    let more : c.store.new.self.drawn ≡ c.begin_blob.new.self.drawn ++ [] = c.store.ensures.drawn ∙ sym (append-nil c.begin_blob.new.self.drawn) in
    rw (p.1, p.2) (acts_join g.S.Site tt _ c.args.self.now c.begin_blob.new.self c.store.new.self c.args.site.now c.begin_blob.new.site c.store.new.site [] c.in_ok-begin_blob.ensures.becomes.certain more c.in_ok-begin_blob.ensures.acts
    (acts_stop {T = Entry} g.S.Site _ c.begin_blob.new.self c.store.new.self c.begin_blob.new.site c.store.new.site c.in_err-reference.ensures.acts))

pub put-requires-clause-there : goal.put-requires-clause-there
put-requires-clause-there g c = λ shown. (c.in_ok-reference.ensures.becomes 0).there shown (c.in_ok-begin_blob.ensures.becomes.there shown (c.requires.there shown))

pub returns-in_err-put-clause-full : goal.returns-in_err-put-clause-full
returns-in_err-put-clause-full g c = λ n is. absurd (not_full c.from_residual-in_err-put.result _ n c.from_residual-in_err-put.ensures.1 c.in_err-put.ensures.causes is)

pub returns-in_err-put-clause-acts : goal.returns-in_err-put-clause-acts
returns-in_err-put-clause-acts g c =
    let p = err_from_is_err_and c.from_residual-in_err-put.result c.from_residual-in_err-put.ensures.1 in
    let a = c.args.self.now in let b = c.begin_blob.new.self in let d = c.store.new.self in let e = c.put.new.self in
    let s = c.args.site.now in let t = c.begin_blob.new.site in let u = c.store.new.site in let v = c.put.new.site in
    let stored : d.drawn ≡ b.drawn ++ [] = c.store.ensures.drawn ∙ sym (append-nil b.drawn) in
    let put : e.drawn ≡ d.drawn ++ [] = c.put.ensures.drawn ∙ sym (append-nil d.drawn) in
    let two = acts_join g.S.Site tt (Ok c.in_ok-reference.reference) a b d s t u [] c.in_ok-begin_blob.ensures.becomes.certain stored c.in_ok-begin_blob.ensures.acts c.in_ok-reference.ensures.acts in
    rw (p.1, p.2) (acts_join g.S.Site c.in_ok-reference.reference _ a d e s u v [] (λ shown sure. (c.in_ok-reference.ensures.becomes 0).certain shown (c.in_ok-begin_blob.ensures.becomes.certain shown sure)) put two c.in_err-put.ensures.acts)

pub close_full_blob-requires-clause-there : goal.close_full_blob-requires-clause-there
close_full_blob-requires-clause-there g c = λ shown. (c.in_ok-put.ensures.becomes 0).there shown ((c.in_ok-reference.ensures.becomes 0).there shown (c.in_ok-begin_blob.ensures.becomes.there shown (c.requires.there shown)))

pub returns-clause-becomes : goal.returns-clause-becomes
returns-clause-becomes g c =
    let next = c.args.numbers.now in
    let entry = c.args.entry.now in
    let w = c.in_ok-reference.reference in
    let a = c.args.self.now in let b = c.begin_blob.new.self in let d = c.store.new.self in let e = c.put.new.self in let z = c.close_full_blob.new.self in
    let s = c.args.site.now in let t = c.begin_blob.new.site in let u = c.store.new.site in let v = c.put.new.site in let y = c.close_full_blob.new.site in
    let held = is_some a.blob in
    let first = c.in_ok-begin_blob.ensures in
    let second = c.in_ok-reference.ensures in
    let third = c.in_ok-put.ensures in
    let h = some_from b.blob first.hand in
    let k = some_and d.blob (λ x. 1 ≤ x.totals.count) second.filled.1 in
    let hand : e.blob ≡ Some k.0 = third.blob ∙ k.1 in
    let due = nat_le e.options.blob_file_size (30 + k.0.totals.bytes) in
    let close : Out → Out = λ o. if due then closed_blob o else o in
    let r = c.close_full_blob.result in
    let one : Becomes g.S.Site next (λ o. with_value entry (with_blob_room held next o)) a d s u = becomes_then g.S.Site next (next + 1) (with_blob_room held next) (with_value entry) a b d s t u (λ o out up. ordered_blob_room held next o up) first.becomes (second.becomes (next + 1)) in
    let two : Becomes g.S.Site next (λ o. with_entry w (with_value entry (with_blob_room held next o))) a e s v = becomes_then g.S.Site next (next + 1) (λ o. with_value entry (with_blob_room held next o)) (with_entry w) a d e s u v
    (λ o out up. ordered_value (next + 1) entry (with_blob_room held next o) (ordered_blob_room held next o up)) one (third.becomes (next + 1)) in
    let options : e.options ≡ a.options = third.keeps.options ∙ second.keeps.options ∙ first.keeps.options in
    on_ok r (λ x is.
    becomes_as g.S.Site next (λ o. close (with_entry w (with_value entry (with_blob_room held next o)))) (with_large next entry) a z s y
    (λ o out. large_as next entry w held due o b e h.0 k.0 (has_blob_is o a out) (first.becomes.out o out) h.1 (second.reference h.0 h.1) (two.out o out) hand (ap (λ (x : Values). nat_le x.blob_file_size (30 + k.0.totals.bytes)) (options ∙ sym out.options)))
    (becomes_then g.S.Site next (next + 1) (λ o. with_entry w (with_value entry (with_blob_room held next o))) close a e z s v y
    (λ o out up. ordered_entry (next + 1) w (with_value entry (with_blob_room held next o)) (ordered_value (next + 1) entry (with_blob_room held next o) (ordered_blob_room held next o up)))
    two (at_ok r x is (c.close_full_blob.ensures.becomes (next + 1) k.0 hand))))

pub returns-clause-full : goal.returns-clause-full
returns-clause-full g c = λ n is. absurd (no_full c.close_full_blob.result n c.close_full_blob.ensures.causes is)

pub returns-clause-stays : goal.returns-clause-stays
returns-clause-stays g c =
    let set = c.close_full_blob.ensures.acts.was_set (c.in_ok-put.ensures.acts.was_set c.in_ok-reference.ensures.filled.0) in
    on_err c.close_full_blob.result (λ unset. absurd (false≢true (sym unset ∙ set)))

pub returns-clause-acts : goal.returns-clause-acts
returns-clause-acts g c =
    let a = c.args.self.now in let b = c.begin_blob.new.self in let d = c.store.new.self in let e = c.put.new.self in let z = c.close_full_blob.new.self in
    let s = c.args.site.now in let t = c.begin_blob.new.site in let u = c.store.new.site in let v = c.put.new.site in let y = c.close_full_blob.new.site in
    let stored : d.drawn ≡ b.drawn ++ [] = c.store.ensures.drawn ∙ sym (append-nil b.drawn) in
    let put : e.drawn ≡ d.drawn ++ [] = c.put.ensures.drawn ∙ sym (append-nil d.drawn) in
    let closed : z.drawn ≡ e.drawn ++ [] = c.close_full_blob.ensures.drawn ∙ sym (append-nil e.drawn) in
    let two = acts_join g.S.Site tt (Ok c.in_ok-reference.reference) a b d s t u [] c.in_ok-begin_blob.ensures.becomes.certain stored c.in_ok-begin_blob.ensures.acts c.in_ok-reference.ensures.acts in
    let three = acts_join g.S.Site c.in_ok-reference.reference (Ok tt) a d e s u v [] (λ shown sure. (c.in_ok-reference.ensures.becomes 0).certain shown (c.in_ok-begin_blob.ensures.becomes.certain shown sure)) put two c.in_ok-put.ensures.acts in
    acts_join g.S.Site tt c.close_full_blob.result a e z s v y [] (λ shown sure. (c.in_ok-put.ensures.becomes 0).certain shown ((c.in_ok-reference.ensures.becomes 0).certain shown (c.in_ok-begin_blob.ensures.becomes.certain shown sure))) closed three c.close_full_blob.ensures.acts
