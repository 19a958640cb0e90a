use Rattle.bl_site.specs.Disk.{folder_of}
use Rattle.bl_open.specs.Recovering.{IsFull, TakesOver}
use Rattle.bl_store.specs.Held.{begun_with}
use Rattle.bl_store.specs.Opening.{IsBegun, opened_of}
use Rattle.bl_store.specs.Reopening.{HasReopened, IsReopening, no_words}
use Rattle.bl_store.specs.Causes.{IsOpening, of_opening}
use Rattle.bl_store.specs.Standing.{IsThere, StandsAsSynced}
use Rattle.bl_store.specs.declared.error.StoreErr.TheVariants as store_err
use Rattle.bl_store.proofs.ReopenLemmas.{answers_over, broken_over, err_of, if_err_over, keeps_over, leaves_over, ok_over, on_over}
use Rattle.bl_store.proofs.store.Store.reopen.Goals as goal

pub returns-clause-begun : goal.returns-clause-begun
returns-clause-begun g c = ok_over c.args.self.now c.hand_over.new.self c.open_stored-opened.result c.hand_over.result IsBegun c.hand_over.ensures c.open_stored-opened.ensures.begun

pub returns-clause-broken : goal.returns-clause-broken
returns-clause-broken g c = broken_over c.args.self.now c.hand_over.new.self c.open_stored-opened.result c.hand_over.result c.hand_over.ensures

pub returns-clause-takes : goal.returns-clause-takes
returns-clause-takes g c = λ shown.
    ok_over c.args.self.now c.hand_over.new.self c.open_stored-opened.result c.hand_over.result (λ store. TakesOver (folder_of (g.S.Site.disk c.args.site.now)) no_words (opened_of store)) c.hand_over.ensures (c.open_stored-opened.ensures.takes shown)

pub returns-clause-there : goal.returns-clause-there
returns-clause-there g c = λ shown.
    ok_over c.args.self.now c.hand_over.new.self c.open_stored-opened.result c.hand_over.result (λ store. IsThere store (g.S.Site.disk c.open_stored-opened.new.site)) c.hand_over.ensures (c.open_stored-opened.ensures.there shown)

pub returns-clause-begins : goal.returns-clause-begins
returns-clause-begins g c = λ shown m stands.
    ok_over c.args.self.now c.hand_over.new.self c.open_stored-opened.result c.hand_over.result (λ store. StandsAsSynced (begun_with m) store (g.S.Site.disk c.open_stored-opened.new.site)) c.hand_over.ensures (c.open_stored-opened.ensures.begins shown m stands)

pub returns-clause-reopened : goal.returns-clause-reopened
returns-clause-reopened g c = λ shown unbroken names held t.
    ok_over c.args.self.now c.hand_over.new.self c.open_stored-opened.result c.hand_over.result (HasReopened c.args.self.now) c.hand_over.ensures (c.open_stored-opened.ensures.reopened shown names held c.args.self.now (c.show_unfailed.ensures unbroken) t)

pub returns-clause-stands : goal.returns-clause-stands
returns-clause-stands g c = λ shown unbroken held t.
    let u = c.show_unfailed.ensures unbroken in
    leaves_over c.args.self.now c.hand_over.new.self c.open_stored-opened.result c.hand_over.result held (g.S.Site.disk c.open_stored-opened.new.site) c.hand_over.ensures
    (c.open_stored-opened.ensures.stands shown held c.args.self.now u t) (c.open_stored-opened.ensures.settled shown held c.args.self.now u t)

pub returns-clause-cuts : goal.returns-clause-cuts
returns-clause-cuts g c = λ shown sure unbroken held t.
    c.open_stored-opened.ensures.cuts shown sure held c.args.self.now (c.show_unfailed.ensures unbroken) t

pub returns-clause-certain : goal.returns-clause-certain
returns-clause-certain g c = λ shown.
    on_over c.args.self.now c.hand_over.new.self c.open_stored-opened.result c.hand_over.result (g.S.Site.certain c.open_stored-opened.new.site) c.hand_over.ensures (c.open_stored-opened.ensures.certain shown)

pub returns-clause-keeps : goal.returns-clause-keeps
returns-clause-keeps g c = λ shown.
    keeps_over c.args.self.now c.hand_over.new.self c.open_stored-opened.result c.hand_over.result (g.S.Site.disk c.args.site.now) (g.S.Site.disk c.open_stored-opened.new.site) c.hand_over.ensures (c.open_stored-opened.ensures.keeps shown)

pub returns-clause-answers : goal.returns-clause-answers
returns-clause-answers g c = λ shown.
    answers_over c.args.self.now c.hand_over.new.self c.open_stored-opened.result c.hand_over.result (folder_of (g.S.Site.disk c.args.site.now)) c.hand_over.ensures (c.open_stored-opened.ensures.answers shown)

pub returns-clause-sound : goal.returns-clause-sound
returns-clause-sound g c = λ shown sound name place is.
    c.open_stored-opened.ensures.sound shown sound name place (err_of c.args.self.now c.hand_over.new.self c.open_stored-opened.result c.hand_over.result (store_err.Corrupt name place) c.hand_over.ensures is)

pub returns-clause-same : goal.returns-clause-same
returns-clause-same g c = λ shown e refusal is.
    c.open_stored-opened.ensures.same shown e refusal (err_of c.args.self.now c.hand_over.new.self c.open_stored-opened.result c.hand_over.result (of_opening e) c.hand_over.ensures is)

pub returns-clause-full : goal.returns-clause-full
returns-clause-full g c = λ n is.
    c.open_stored-opened.ensures.full n (err_of c.args.self.now c.hand_over.new.self c.open_stored-opened.result c.hand_over.result (store_err.Full n) c.hand_over.ensures is)

pub returns-clause-enough : goal.returns-clause-enough
returns-clause-enough g c = λ shown.
    on_over c.args.self.now c.hand_over.new.self c.open_stored-opened.result c.hand_over.result (IsFull (folder_of (g.S.Site.disk c.args.site.now)) no_words → ⊥) c.hand_over.ensures (c.open_stored-opened.ensures.enough shown)

pub returns-clause-causes : goal.returns-clause-causes
returns-clause-causes g c = λ shown.
    if_err_over c.args.self.now c.hand_over.new.self c.open_stored-opened.result c.hand_over.result IsReopening c.hand_over.ensures (c.open_stored-opened.ensures.causes shown)

pub returns-clause-kinds : goal.returns-clause-kinds
returns-clause-kinds g c = if_err_over c.args.self.now c.hand_over.new.self c.open_stored-opened.result c.hand_over.result IsOpening c.hand_over.ensures c.open_stored-opened.ensures.kinds

pub returns-clause-disk : goal.returns-clause-disk
returns-clause-disk g c = λ failed.
    c.open_stored-opened.ensures.disk (err_of c.args.self.now c.hand_over.new.self c.open_stored-opened.result c.hand_over.result store_err.Disk c.hand_over.ensures failed)
