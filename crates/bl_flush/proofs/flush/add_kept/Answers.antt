use Rattle.std.proofs.Common.{◌≡◌, ℕ, false, true, [], ◌+◌, refl, sym, ◌∙◌, ap, subst, arith, inl, inr, Option, Some, Err}
use Rattle.std.proofs.lemmas.Result.{err_from_is_err_and}
use Rattle.std.specs.Option.{option_copied}
use Rattle.bl_entry.specs.declared.key.Entry.{Entry}
use Rattle.bl_entry.specs.Entries.{IsProper}
use Rattle.bl_out.specs.Written.{IsPlainKind}
use Rattle.bl_memtab.specs.Tables.{after}
use Rattle.bl_flush.proofs.TakenLemmas.{TakenTo, adds_on, at_end, at_start, is_in, passes_on, refused_before, refuses_on, touches_on}
use Rattle.bl_out.specs.States.{State}
use Rattle.bl_out.specs.declared.error.JobErr.{JobErr}
use Rattle.bl_flush.specs.Flushing.{RefusesFlush}
use Rattle.bl_flush.specs.Jobs.{next_of}
use Rattle.bl_flush.proofs.flush.add_kept.Goals as goal
use Rattle.bl_flush.proofs.flush.add_kept.Goals.{then-not-follows_alike+in_ok-add, else-not-follows_alike, else-entries-test, then-entries-test+in_default}

pub returns-in_err-least-clause-refused : goal.returns-in_err-least-clause-refused
returns-in_err-least-clause-refused g c =
    let p = err_from_is_err_and c.from_residual.result c.from_residual.ensures.1 in
    rw p.1 (refused_before g.S.Site c.args.options.now c.args.snapshots.now c.show_range.ensures c.newest_stands_first.ensures c.args.numbers.now c.args.memory.now c.args.site.now p.0 c.ascends.ensures.ascending (p.2 ∙ c.in_err-least.ensures.memory))

pub entries-init : goal.entries-init
entries-init g c = record {
  taken = record {
    taken = [];
    rest = c.args.memory.now;
    split = refl;
    front_is = refl;
    ahead_is = c.after-next.ensures ∙ ap (λ k. after k false c.args.memory.now) c.in_ok-least.ensures.key ∙ c.after_is_next.ensures.first c.args.memory.now c.ascends.ensures.keys;
    at = at_start g.S.Site c.args.options.now c.args.snapshots.now c.show_range.ensures c.outputs_write_what_they_are_given.ensures.begun c.args.numbers.now c.begin-output.result c.args.site.now c.begin-output.ensures.begun c.begin-output.ensures.usable
        (λ shown. g.met.S.Site.only shown c.args.site.now) (λ shown. g.met.S.Site.only_now shown c.args.site.now);
    next_is = refl;
  };
  counted = refl;
}

pub add-requires-clause-proper : goal.add-requires-clause-proper
add-requires-clause-proper g c =
    let e : Entry = c.in-Some.entry.now in
    let ahead : option_copied c.entries.next ≡ Some e = ap option_copied c.in-Some.is in
    let t = subst (λ (a : Option Entry). TakenTo g.S.Site c.args.options.now c.args.snapshots.now c.args.numbers.now c.entries.numbers c.args.memory.now (option_copied c.entries.front) a c.entries.output c.args.site.now c.entries.site c.entries.counter) ahead c.entries.invariant in
    (is_in g.S.Site c.args.options.now c.args.snapshots.now c.show_range.ensures c.newest_stands_first.ensures c.after_is_next.ensures.next c.args.numbers.now c.entries.numbers c.entries.counter c.args.memory.now (option_copied c.entries.front) e
    (after e.key true c.args.memory.now) c.entries.output c.args.site.now c.entries.site t c.ascends.ensures.ascending refl (λ x. IsProper x × IsPlainKind x.key.kind) c.requires).0

pub returns-in_err-add-clause-refused : goal.returns-in_err-add-clause-refused
returns-in_err-add-clause-refused g c =
    let e : Entry = c.in-Some.entry.now in
    let ahead : option_copied c.entries.next ≡ Some e = ap option_copied c.in-Some.is in
    let t = subst (λ (a : Option Entry). TakenTo g.S.Site c.args.options.now c.args.snapshots.now c.args.numbers.now c.entries.numbers c.args.memory.now (option_copied c.entries.front) a c.entries.output c.args.site.now c.entries.site c.entries.counter) ahead c.entries.invariant in
    let p = err_from_is_err_and c.from_residual-in_err-add.result c.from_residual-in_err-add.ensures.1 in
    let why = refuses_on g.S.Site c.args.options.now c.args.snapshots.now c.show_range.ensures c.newest_stands_first.ensures c.after_is_next.ensures.next c.args.numbers.now c.entries.numbers c.entries.counter c.args.memory.now (option_copied c.entries.front) e
    (after e.key true c.args.memory.now) c.entries.output c.args.site.now c.entries.site t c.ascends.ensures.ascending refl (sym c.follows_alike.ensures ∙ c.if-not-follows_alike.true)
    c.in_err-add.field-0.0 c.add.new.numbers c.add.new.self c.add.new.site c.add.ensures.draws c.in_err-add.ensures.refused (λ o out n is. (c.in_err-add.ensures.full n (ap Err is), c.in_err-add.ensures.wanted o out n (ap Err is))) in
    rw p.1 (subst (λ (x : JobErr). RefusesFlush g.S.Site x (next_of c.args.options.now c.args.snapshots.now c.args.numbers.now c.args.memory.now) c.args.numbers.now c.add.new.numbers c.args.site.now c.add.new.site) (sym p.2) why)

pub returns-in_err-add-clause-touches : goal.returns-in_err-add-clause-touches
returns-in_err-add-clause-touches g c =
    let e : Entry = c.in-Some.entry.now in
    let ahead : option_copied c.entries.next ≡ Some e = ap option_copied c.in-Some.is in
    let t = subst (λ (a : Option Entry). TakenTo g.S.Site c.args.options.now c.args.snapshots.now c.args.numbers.now c.entries.numbers c.args.memory.now (option_copied c.entries.front) a c.entries.output c.args.site.now c.entries.site c.entries.counter) ahead c.entries.invariant in
    touches_on g.S.Site c.args.options.now c.args.snapshots.now c.show_range.ensures c.newest_stands_first.ensures c.after_is_next.ensures.next c.args.numbers.now c.entries.numbers c.entries.counter c.args.memory.now (option_copied c.entries.front) e
    (after e.key true c.args.memory.now) c.entries.output c.args.site.now c.entries.site t c.ascends.ensures.ascending refl c.add.new.numbers c.add.new.self c.add.new.site c.add.ensures.draws c.add.ensures.touches

pub entries-preserved : goal.entries-preserved
entries-preserved g c =
    let e : Entry = c.in-Some.entry.now in
    let ahead : option_copied c.entries.next ≡ Some e = ap option_copied c.in-Some.is in
    let t = subst (λ (a : Option Entry). TakenTo g.S.Site c.args.options.now c.args.snapshots.now c.args.numbers.now c.entries.numbers c.args.memory.now (option_copied c.entries.front) a c.entries.output c.args.site.now c.entries.site c.entries.counter) ahead c.entries.invariant in
    let now : TakenTo g.S.Site c.args.options.now c.args.snapshots.now c.args.numbers.now c.if-not-follows_alike.numbers c.args.memory.now (Some e) (option_copied c.after-next-in-entries.result) c.if-not-follows_alike.output c.args.site.now c.if-not-follows_alike.site (c.entries.counter + 1) =
    elim c.if-not-follows_alike.branch [
      | then-not-follows_alike+in_ok-add w ↦
          subst (λ (n : ℕ). TakenTo g.S.Site c.args.options.now c.args.snapshots.now c.args.numbers.now n c.args.memory.now (Some e) (option_copied c.after-next-in-entries.result) c.if-not-follows_alike.output c.args.site.now c.if-not-follows_alike.site (c.entries.counter + 1)) (sym w.numbers-is)
          (subst (λ (o : State). TakenTo g.S.Site c.args.options.now c.args.snapshots.now c.args.numbers.now w.add.new.numbers c.args.memory.now (Some e) (option_copied c.after-next-in-entries.result) o c.args.site.now c.if-not-follows_alike.site (c.entries.counter + 1)) (sym w.output-is)
          (subst (λ x. TakenTo g.S.Site c.args.options.now c.args.snapshots.now c.args.numbers.now w.add.new.numbers c.args.memory.now (Some e) (option_copied c.after-next-in-entries.result) w.add.new.self c.args.site.now x (c.entries.counter + 1)) (sym w.site-is)
          (adds_on g.S.Site c.args.options.now c.args.snapshots.now c.show_range.ensures c.newest_stands_first.ensures c.after_is_next.ensures.next c.args.numbers.now c.entries.numbers c.entries.counter c.args.memory.now (option_copied c.entries.front) e
          (option_copied c.after-next-in-entries.result) c.entries.output c.args.site.now c.entries.site t c.ascends.ensures.ascending c.after-next-in-entries.ensures c.outputs_write_what_they_are_given.ensures.added
          (sym c.follows_alike.ensures ∙ w.if-not-follows_alike.true)
          (is_in g.S.Site c.args.options.now c.args.snapshots.now c.show_range.ensures c.newest_stands_first.ensures c.after_is_next.ensures.next c.args.numbers.now c.entries.numbers c.entries.counter c.args.memory.now (option_copied c.entries.front) e
          (after e.key true c.args.memory.now) c.entries.output c.args.site.now c.entries.site t c.ascends.ensures.ascending refl (λ x. IsProper x × IsPlainKind x.key.kind) c.requires).0
          w.add.new.numbers w.add.new.self w.add.new.site w.in_ok-add.ensures.added w.in_ok-add.ensures.usable w.add.ensures.draws w.add.ensures.touches w.add.ensures.tells_nothing w.in_ok-add.ensures.asked)))
      | else-not-follows_alike w ↦
          subst (λ (n : ℕ). TakenTo g.S.Site c.args.options.now c.args.snapshots.now c.args.numbers.now n c.args.memory.now (Some e) (option_copied c.after-next-in-entries.result) c.if-not-follows_alike.output c.args.site.now c.if-not-follows_alike.site (c.entries.counter + 1)) (sym w.numbers-is)
          (subst (λ (o : State). TakenTo g.S.Site c.args.options.now c.args.snapshots.now c.args.numbers.now c.entries.numbers c.args.memory.now (Some e) (option_copied c.after-next-in-entries.result) o c.args.site.now c.if-not-follows_alike.site (c.entries.counter + 1)) (sym w.output-is)
          (subst (λ x. TakenTo g.S.Site c.args.options.now c.args.snapshots.now c.args.numbers.now c.entries.numbers c.args.memory.now (Some e) (option_copied c.after-next-in-entries.result) c.entries.output c.args.site.now x (c.entries.counter + 1)) (sym w.site-is)
          (passes_on g.S.Site c.args.options.now c.args.snapshots.now c.show_range.ensures c.newest_stands_first.ensures c.after_is_next.ensures.next c.args.numbers.now c.entries.numbers c.entries.counter c.args.memory.now (option_copied c.entries.front) e
          (option_copied c.after-next-in-entries.result) c.entries.output c.args.site.now c.entries.site t c.ascends.ensures.ascending c.after-next-in-entries.ensures
          (sym c.follows_alike.ensures ∙ w.if-not-follows_alike.false))))
    ] in
    subst (λ (a : Option Entry). TakenTo g.S.Site c.args.options.now c.args.snapshots.now c.args.numbers.now c.if-not-follows_alike.numbers c.args.memory.now a (option_copied c.after-next-in-entries.result) c.if-not-follows_alike.output c.args.site.now c.if-not-follows_alike.site (c.entries.counter + 1)) (sym ahead) now

pub returns-clause-at : goal.returns-clause-at
returns-clause-at g c = (at_end g.S.Site c.args.options.now c.args.snapshots.now c.show_range.ensures c.args.numbers.now c.entries.numbers c.entries.counter c.args.memory.now (option_copied c.entries.front) (option_copied c.entries.next) c.entries.output c.args.site.now c.entries.site c.entries.invariant
    (elim c.entries-test.branch [
      | else-entries-test w ↦ inr (let a = w.entries-test.false in let b = c.count-end.ensures in omega (arith, a, b))
      | then-entries-test+in_default w ↦ inl (ap option_copied w.in_default.is)
    ])).0

pub returns-clause-numbers : goal.returns-clause-numbers
returns-clause-numbers g c = (at_end g.S.Site c.args.options.now c.args.snapshots.now c.show_range.ensures c.args.numbers.now c.entries.numbers c.entries.counter c.args.memory.now (option_copied c.entries.front) (option_copied c.entries.next) c.entries.output c.args.site.now c.entries.site c.entries.invariant
    (elim c.entries-test.branch [
      | else-entries-test w ↦ inr (let a = w.entries-test.false in let b = c.count-end.ensures in omega (arith, a, b))
      | then-entries-test+in_default w ↦ inl (ap option_copied w.in_default.is)
    ])).1
