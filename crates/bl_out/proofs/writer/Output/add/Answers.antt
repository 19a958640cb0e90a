use Rattle.std.proofs.Common.{◌≡◌, ◌+◌, ◌<◌, ℕ, false, sym, ◌∙◌, ap, subst, Ok, Err}
use Rattle.std.specs.Prelude.{◌^◌, ◌&&◌, not, is_some, if◌then◌else◌}
use Rattle.std.specs.List.{range_with_len}
use Rattle.std.proofs.lemmas.Result.{err_from_is_err_and}
use Rattle.bl_edit.specs.Options.{Values}
use Rattle.bl_out.specs.Outputs.{added, made_for}
use Rattle.bl_out.specs.Quiet.{TouchesOnly}
use Rattle.bl_out.specs.States.{Becomes, Draws, State, names_of}
use Rattle.bl_out.specs.Steps.{Acts, has_blob, with_room, with_written}
use Rattle.bl_out.specs.Written.{is_large}
use Rattle.bl_out.proofs.AddLemmas.{becomes_usable, has_blob_is, made_is, ordered_room, too_many, was_asked, written_added}
use Rattle.bl_out.proofs.BecomeLemmas.{acts_join, becomes_as, becomes_then, draws_join}
use Rattle.bl_out.proofs.writer.Output.add.Goals as goal

pub returns-in_err-write_entry-clause-draws : goal.returns-in_err-write_entry-clause-draws
returns-in_err-write_entry-clause-draws g c = λ o is.
    let a = c.args.self.now in let mid = c.make_room.new.self in let e = c.args.entry.now in
    let b = c.begins_table-begins.result in let l = is_large mid.options.min_blob_size e in let held = is_some mid.blob in
    let large : is_large o.options.min_blob_size e ≡ l = ap (λ (v : Values). is_large v.min_blob_size e) (is.options ∙ sym c.make_room.ensures.keeps.options) in
    let has : has_blob o ≡ held = has_blob_is o a is ∙ ap is_some (sym c.make_room.ensures.blob) in
    let made = made_is o e b l held (sym (c.begins_table-begins.ensures.begins o is)) large has in
    subst (λ (m : ℕ). Draws m a c.write_entry.new.self c.args.numbers.now c.write_entry.new.numbers) made
    (draws_join (if b then 1 else 0) (if (l && not held) then 1 else 0) a mid c.write_entry.new.self c.args.numbers.now c.make_room.new.numbers c.write_entry.new.numbers c.make_room.ensures.draws c.write_entry.ensures.draws)

pub returns-in_err-write_entry-clause-full : goal.returns-in_err-write_entry-clause-full
returns-in_err-write_entry-clause-full g c = λ n full.
    let p = err_from_is_err_and c.from_residual-in_err-write_entry.result c.from_residual-in_err-write_entry.ensures.1 in
    (c.in_err-write_entry.ensures.full n (ap Err (sym p.2) ∙ sym p.1 ∙ full)).1

pub returns-in_err-write_entry-clause-wanted : goal.returns-in_err-write_entry-clause-wanted
returns-in_err-write_entry-clause-wanted g c = λ o is n full.
    let a = c.args.self.now in let mid = c.make_room.new.self in let e = c.args.entry.now in
    let b = c.begins_table-begins.result in let l = is_large mid.options.min_blob_size e in let held = is_some mid.blob in
    let large : is_large o.options.min_blob_size e ≡ l = ap (λ (v : Values). is_large v.min_blob_size e) (is.options ∙ sym c.make_room.ensures.keeps.options) in
    let has : has_blob o ≡ held = has_blob_is o a is ∙ ap is_some (sym c.make_room.ensures.blob) in
    let made = made_is o e b l held (sym (c.begins_table-begins.ensures.begins o is)) large has in
    let p = err_from_is_err_and c.from_residual-in_err-write_entry.result c.from_residual-in_err-write_entry.ensures.1 in
    let f = c.in_err-write_entry.ensures.full n (ap Err (sym p.2) ∙ sym p.1 ∙ full) in
    subst (λ (m : ℕ). 10 ^ 15 < c.args.numbers.now + m) made (too_many b (l && not held) c.args.numbers.now c.make_room.new.numbers c.in_ok-make_room.ensures.next f.2 f.0)

pub returns-in_err-write_entry-clause-touches : goal.returns-in_err-write_entry-clause-touches
returns-in_err-write_entry-clause-touches g c =
    (acts_join g.S.Site c.in_ok-make_room.field-0 c.write_entry.result c.args.self.now c.make_room.new.self c.write_entry.new.self c.args.site.now c.make_room.new.site c.write_entry.new.site
    (range_with_len c.make_room.new.numbers c.write_entry.ensures.draws.made) c.in_ok-make_room.ensures.becomes.certain c.write_entry.ensures.draws.drawn c.in_ok-make_room.ensures.acts c.write_entry.ensures.acts).touches

pub returns-clause-added : goal.returns-clause-added
returns-clause-added g c =
    let next = c.args.numbers.now in let later = c.make_room.new.numbers in
    let a = c.args.self.now in let mid = c.make_room.new.self in let z = c.write_entry.new.self in let e = c.args.entry.now in
    let s = c.args.site.now in let t = c.make_room.new.site in let u = c.write_entry.new.site in
    let b = c.begins_table-begins.result in let l = is_large mid.options.min_blob_size e in
    let after = c.in_ok-make_room.ensures.next in
    let both = becomes_then g.S.Site next later (with_room b next) (with_written l later e) a mid z s t u (λ o is up. ordered_room b next later o after up) c.in_ok-make_room.ensures.becomes c.in_ok-write_entry.ensures.becomes in
    let whole : Becomes g.S.Site next (λ o. added next o e) a z s u = becomes_as g.S.Site next (λ o. with_written l later e (with_room b next o)) (λ o. added next o e) a z s u
    (λ o is. written_added next later o e b l (sym (c.begins_table-begins.ensures.begins o is)) (ap (λ (v : Values). is_large v.min_blob_size e) (is.options ∙ sym c.make_room.ensures.keeps.options)) after) both in
    subst (λ (x : State). Becomes g.S.Site next (λ o. added next o e) a (record x { failed = false }) s u) (sym c.self.view_is) (becomes_usable g.S.Site next (λ o. added next o e) a z s u false whole)

pub returns-clause-draws : goal.returns-clause-draws
returns-clause-draws g c = λ o is.
    let a = c.args.self.now in let mid = c.make_room.new.self in let e = c.args.entry.now in
    let b = c.begins_table-begins.result in let l = is_large mid.options.min_blob_size e in let held = is_some mid.blob in
    let large : is_large o.options.min_blob_size e ≡ l = ap (λ (v : Values). is_large v.min_blob_size e) (is.options ∙ sym c.make_room.ensures.keeps.options) in
    let has : has_blob o ≡ held = has_blob_is o a is ∙ ap is_some (sym c.make_room.ensures.blob) in
    let made = made_is o e b l held (sym (c.begins_table-begins.ensures.begins o is)) large has in
    let d : Draws (made_for o e) a c.write_entry.new.self c.args.numbers.now c.write_entry.new.numbers = subst (λ (m : ℕ). Draws m a c.write_entry.new.self c.args.numbers.now c.write_entry.new.numbers) made
    (draws_join (if b then 1 else 0) (if (l && not held) then 1 else 0) a mid c.write_entry.new.self c.args.numbers.now c.make_room.new.numbers c.write_entry.new.numbers c.make_room.ensures.draws c.write_entry.ensures.draws) in
    record { made = d.made; within = d.within; drawn = ap (λ (x : State). x.drawn) c.self.view_is ∙ d.drawn; next = d.next }

pub returns-clause-touches : goal.returns-clause-touches
returns-clause-touches g c =
    subst (λ (x : State). TouchesOnly g.S.Site (names_of x.drawn) c.args.site.now c.write_entry.new.site) (sym c.self.view_is)
    (acts_join g.S.Site c.in_ok-make_room.field-0 c.write_entry.result c.args.self.now c.make_room.new.self c.write_entry.new.self c.args.site.now c.make_room.new.site c.write_entry.new.site
    (range_with_len c.make_room.new.numbers c.write_entry.ensures.draws.made) c.in_ok-make_room.ensures.becomes.certain c.write_entry.ensures.draws.drawn c.in_ok-make_room.ensures.acts c.write_entry.ensures.acts).touches

pub returns-clause-asked : goal.returns-clause-asked
returns-clause-asked g c =
    let a = c.args.self.now in let z = c.write_entry.new.self in
    let first = c.in_ok-make_room.ensures in
    let all = acts_join g.S.Site c.in_ok-make_room.field-0 c.write_entry.result a c.make_room.new.self z c.args.site.now c.make_room.new.site c.write_entry.new.site
    (range_with_len c.make_room.new.numbers c.write_entry.ensures.draws.made) first.becomes.certain c.write_entry.ensures.draws.drawn first.acts c.write_entry.ensures.acts in
    let b = c.begins_table-begins.result in let l = is_large c.make_room.new.self.options.min_blob_size c.args.entry.now in let held = is_some c.make_room.new.self.blob in
    let drawn = draws_join (if b then 1 else 0) (if (l && not held) then 1 else 0) a c.make_room.new.self z c.args.numbers.now c.make_room.new.numbers c.write_entry.new.numbers c.make_room.ensures.draws c.write_entry.ensures.draws in
    let acts : Acts g.S.Site (Ok c.in_ok-write_entry.field-0) a z c.args.site.now c.write_entry.new.site = subst (λ r. Acts g.S.Site r a z c.args.site.now c.write_entry.new.site) c.in_ok-write_entry.was all in
    was_asked g.S.Site c.in_ok-write_entry.field-0 _ a z c.args.numbers.now c.write_entry.new.numbers c.args.site.now c.write_entry.new.site c.requires.usable acts drawn
