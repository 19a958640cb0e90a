use Rattle.std.proofs.Common.{[], refl, subst}
use Rattle.std.specs.Prelude.{IfOk, OnOk}
use Rattle.bl_site.specs.Disk.{folder_of}
use Rattle.bl_open.specs.Options.{Words}
use Rattle.bl_open.specs.Recovering.{IsFull, TakesOver}
use Rattle.bl_store.specs.Held.{all_durable, begun_with, now_of}
use Rattle.bl_store.specs.Opening.{AnswersAsRefused, IsBegun, opened_of}
use Rattle.bl_store.specs.Reopening.{HasReopened, no_words}
use Rattle.bl_store.specs.Standing.{StandsFor}
use Rattle.bl_store.proofs.MomentLemmas.{settled_of}
use Rattle.bl_store.proofs.ReopenLemmas.{causes_of, each_and, each_ok, holds_all, reopened, reopened_cuts, sound_not_corrupt, stands_now}
use Rattle.bl_store.proofs.store.Store.open_stored.Goals as goal

pub returns-clause-takes : goal.returns-clause-takes
returns-clause-takes g c = λ shown.
    subst (λ (w : Words). IfOk c.open_site.result (λ store. TakesOver (folder_of (g.S.Site.disk c.args.site.now)) w (opened_of store))) c.ask_nothing-asked.ensures (c.open_site.ensures.takes shown)

pub returns-clause-reopened : goal.returns-clause-reopened
returns-clause-reopened g c = λ shown names held old u t.
    let disk = g.S.Site.disk c.args.site.now in
    let laws = c.folders_stand_for_one_map.ensures in
    each_ok c.open_site.result (λ s. IsBegun s × TakesOver (folder_of disk) no_words (opened_of s)) (HasReopened old)
    (λ s both. reopened names held old disk u t laws.live laws.batches c.steady_disks_stand.ensures.hold s both.0 both.1)
    (each_and c.open_site.result IsBegun (λ s. TakesOver (folder_of disk) no_words (opened_of s)) c.open_site.ensures.begun (returns-clause-takes g c shown))

pub returns-clause-stands : goal.returns-clause-stands
returns-clause-stands g c = λ shown held old u t.
    let disk = g.S.Site.disk c.args.site.now in
    let new = g.S.Site.disk c.open_site.new.site in
    each_ok c.open_site.result (λ s. StandsFor [] (begun_with (now_of held)) s new) (λ s. StandsFor [] (all_durable held) s new) (λ s stands. holds_all [] held (now_of held) s new refl stands)
    (c.open_site.ensures.stands shown (settled_of c.steady_disks_stand.ensures.settled held old disk t u.manifest) (now_of held) (stands_now [] held old disk u t c.steady_disks_stand.ensures.stand))

pub returns-clause-settled : goal.returns-clause-settled
returns-clause-settled g c = λ shown held old u t chance.
    let disk = g.S.Site.disk c.args.site.now in
    c.open_site.ensures.settled shown (settled_of c.steady_disks_stand.ensures.settled held old disk t u.manifest) (now_of held, stands_now [] held old disk u t c.steady_disks_stand.ensures.stand) chance

pub returns-clause-cuts : goal.returns-clause-cuts
returns-clause-cuts g c = λ shown sure held old u t.
    reopened_cuts g.S.Site c.steady_disks_stand.ensures.settled c.steady_disks_stand.ensures.stand c.openings_leave_maps.ensures held old c.args.site.now c.open_site.new.site u t sure (c.open_site.ensures.cuts shown)

pub returns-clause-answers : goal.returns-clause-answers
returns-clause-answers g c = λ shown.
    subst (λ (w : Words). AnswersAsRefused (folder_of (g.S.Site.disk c.args.site.now)) w c.open_site.result) c.ask_nothing-asked.ensures (c.open_site.ensures.answers shown)

pub returns-clause-sound : goal.returns-clause-sound
returns-clause-sound g c = λ shown sound name place is.
    sound_not_corrupt (folder_of (g.S.Site.disk c.args.site.now)) c.open_site.result (returns-clause-answers g c shown) c.refusals_are_one.ensures.sound sound name place is

pub returns-clause-full : goal.returns-clause-full
returns-clause-full g c = λ n is.
    let full = c.open_site.ensures.full n is in
    (full.0, λ shown. subst (IsFull (folder_of (g.S.Site.disk c.args.site.now))) c.ask_nothing-asked.ensures (full.1 shown))

pub returns-clause-enough : goal.returns-clause-enough
returns-clause-enough g c = λ shown.
    subst (λ (w : Words). OnOk c.open_site.result (IsFull (folder_of (g.S.Site.disk c.args.site.now)) w → ⊥)) c.ask_nothing-asked.ensures (c.open_site.ensures.enough shown)

pub returns-clause-causes : goal.returns-clause-causes
returns-clause-causes g c = λ shown.
    causes_of (folder_of (g.S.Site.disk c.args.site.now)) c.open_site.result (returns-clause-answers g c shown) (λ n is. (c.open_site.ensures.full n is).0) c.open_site.ensures.causes
