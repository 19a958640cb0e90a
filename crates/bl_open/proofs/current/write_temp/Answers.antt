use Rattle.std.proofs.Common.{[], ◌∷◌}
use Rattle.bl_site.specs.Quiet.{TellsNothing}
use Rattle.bl_records.proofs.WritingLemmas.{appended_synced, made_synced}
use Rattle.bl_out.proofs.QuietLemmas.{touches_join}
use Rattle.bl_open.proofs.TouchLemmas.{append_touches, create_touches, sync_touches}
use Rattle.bl_open.proofs.current.write_temp.Goals as goal

pub returns-in_err-create-clause-touches : goal.returns-in_err-create-clause-touches
returns-in_err-create-clause-touches g c =
    let s = g.S.Site in
    let laws = g.met.S.Site in
    let old = c.args.site.now in
    let e = c.create.ensures in
    create_touches s c.args.name.now old c.create.new.self c.create.result e.memory e.cause.not_tell (λ shown. laws.only shown old) (λ shown. laws.only_now shown old) e.done e.failed e.time

pub returns-in_err-append-clause-touches : goal.returns-in_err-append-clause-touches
returns-in_err-append-clause-touches g c =
    let s = g.S.Site in
    let laws = g.met.S.Site in
    let name = c.args.name.now in
    let old = c.args.site.now in
    let one = c.create.new.self in
    let two = c.append.new.self in
    let e = c.create.ensures in
    let a = c.append.ensures in
    let made = create_touches s name old one c.create.result e.memory e.cause.not_tell (λ shown. laws.only shown old) (λ shown. laws.only_now shown old) e.done e.failed e.time in
    let silent : TellsNothing s old one = record { told = e.told; later = e.cause.later; tell_faults = e.tell_faults } in
    let wrote = append_touches s name one two c.append.result a.memory a.cause.not_tell (λ shown. laws.only shown one) (λ shown. laws.only_now shown one) c.args.text.now a.done a.failed a.certain a.told a.time (λ shown. laws.only shown two) in
    touches_join s (name ∷ []) old one two made (λ shown sure. c.in_ok-create.ensures.certain shown) silent wrote

pub returns-in_err-sync-clause-touches : goal.returns-in_err-sync-clause-touches
returns-in_err-sync-clause-touches g c =
    let s = g.S.Site in
    let laws = g.met.S.Site in
    let name = c.args.name.now in
    let old = c.args.site.now in
    let one = c.create.new.self in
    let two = c.append.new.self in
    let new = c.sync.new.self in
    let e = c.create.ensures in
    let a = c.append.ensures in
    let b = c.sync.ensures in
    let made = create_touches s name old one c.create.result e.memory e.cause.not_tell (λ shown. laws.only shown old) (λ shown. laws.only_now shown old) e.done e.failed e.time in
    let silent : TellsNothing s old one = record { told = e.told; later = e.cause.later; tell_faults = e.tell_faults } in
    let wrote = append_touches s name one two c.append.result a.memory a.cause.not_tell (λ shown. laws.only shown one) (λ shown. laws.only_now shown one) c.args.text.now a.done a.failed a.certain a.told a.time (λ shown. laws.only shown two) in
    let silent_too : TellsNothing s one two = record { told = a.told; later = a.cause.later; tell_faults = a.tell_faults } in
    let synced = sync_touches s name two new c.sync.result b.memory b.cause.not_tell (λ shown. laws.only shown two) (λ shown. laws.only_now shown two) b.done b.failed b.certain b.told b.time (λ shown. laws.only shown new) in
    touches_join s (name ∷ []) old one new made (λ shown sure. c.in_ok-create.ensures.certain shown) silent (touches_join s (name ∷ []) one two new wrote a.certain silent_too synced)

pub returns-clause-touches : goal.returns-clause-touches
returns-clause-touches g c =
    let s = g.S.Site in
    let laws = g.met.S.Site in
    let name = c.args.name.now in
    let old = c.args.site.now in
    let one = c.create.new.self in
    let two = c.append.new.self in
    let new = c.sync.new.self in
    let e = c.create.ensures in
    let a = c.append.ensures in
    let b = c.sync.ensures in
    let made = create_touches s name old one c.create.result e.memory e.cause.not_tell (λ shown. laws.only shown old) (λ shown. laws.only_now shown old) e.done e.failed e.time in
    let silent : TellsNothing s old one = record { told = e.told; later = e.cause.later; tell_faults = e.tell_faults } in
    let wrote = append_touches s name one two c.append.result a.memory a.cause.not_tell (λ shown. laws.only shown one) (λ shown. laws.only_now shown one) c.args.text.now a.done a.failed a.certain a.told a.time (λ shown. laws.only shown two) in
    let silent_too : TellsNothing s one two = record { told = a.told; later = a.cause.later; tell_faults = a.tell_faults } in
    let synced = sync_touches s name two new c.sync.result b.memory b.cause.not_tell (λ shown. laws.only shown two) (λ shown. laws.only_now shown two) b.done b.failed b.certain b.told b.time (λ shown. laws.only shown new) in
    touches_join s (name ∷ []) old one new made (λ shown sure. c.in_ok-create.ensures.certain shown) silent (touches_join s (name ∷ []) one two new wrote a.certain silent_too synced)

pub returns-clause-made : goal.returns-clause-made
returns-clause-made g c = λ shown.
    let s = g.S.Site in
    let name = c.args.name.now in
    let text = c.args.text.now in
    let one = s.disk c.create.new.self in
    let two = s.disk c.append.new.self in
    let new = s.disk c.sync.new.self in
    made_synced name text (s.disk c.args.site.now) one new (c.in_ok-create.ensures.done shown) (appended_synced name text one two new (c.in_ok-append.ensures.done shown) (c.in_ok-sync.ensures.done shown))
