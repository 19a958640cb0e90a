use Rattle.std.proofs.Common.{[], ◌∷◌, ◌∙◌, ap, sym, refl, arith}
use Rattle.std.proofs.lemmas.Iterator.Adapters.{YieldsList-from_vec}
use Rattle.std.proofs.lemmas.Iterator.Consumers.{YieldsList-end}
use Rattle.std.proofs.lemmas.List.{map-id}
use Rattle.bl_entry.specs.declared.key.Entry.{Entry}
use Rattle.bl_logstore.specs.Replaying.{after_kind, after_entries}
use Rattle.bl_logstore.specs.Stored.{map_in}
use Rattle.bl_logstore.proofs.EntryLemmas.{entries_more, one_entry}
use Rattle.bl_logstore.proofs.memory.put_entries.Goals as goal

pub loop-entry-init : goal.loop-entry-init
unfolding after_entries
loop-entry-init c = refl

pub loop-entry-preserved : goal.loop-entry-preserved
loop-entry-preserved c =
    let e : Entry = c.in-Some.entry in
    c.in_ok-put_entry.ensures.put ∙ ap (after_kind e.key.kind e.key.user e.value) c.loop-entry.invariant
    ∙ sym (entries_more c.loop-entry.yielded (e ∷ []) (map_in c.args.map.now.entries) ∙ one_entry e (after_entries c.loop-entry.yielded (map_in c.args.map.now.entries)))

pub returns-clause-put : goal.returns-clause-put
returns-clause-put c =
    let gives = c.into_iter-entry-iterator.ensures.into_iter_gives in
    let seen = YieldsList-end (YieldsList-from_vec {s = c.into_iter-entry-iterator.result} c.args.entries.items gives.0 (omega (arith, gives.1, c.args.entries.ok))) c.loop-entry.yielded c.loop-entry.entry-iterator c.loop-entry.yielded_by c.next.result c.next.new.self c.in-None.is c.next.ensures.steps in
    c.loop-entry.invariant ∙ ap (λ es. after_entries es (map_in c.args.map.now.entries)) (sym (map-id c.loop-entry.yielded) ∙ seen.0)
