use Rattle.std.proofs.Common.{◌≡◌, ◌⊎◌, true, ◌∙◌, ◌∷◌, [], ◌++◌, Result, Err, List, ℕ, ap, sym, subst}
use Rattle.std.proofs.lemmas.Result.{err_from_is_err_and, on_err_weaker}
use Rattle.bl_site.specs.Calls.{Syncs, Frays, FollowsFile}
use Rattle.bl_log.specs.Layout.{layout}
use Rattle.bl_records.specs.declared.error.RecordErr.{RecordErr}
use Rattle.bl_records.specs.WrittenFile.{WrittenFile}
use Rattle.bl_records.specs.Held.{HoldsOneMore}
use Rattle.bl_records.proofs.HeldLemmas.{synced_more}
use Rattle.bl_records.proofs.TimeLemmas.{appending, syncing, doubt_append, doubt_sync}
use Rattle.bl_records.proofs.WritingLemmas.{append_torn, append_outcome, sync_outcome}
use Rattle.bl_records.proofs.writer.RecordWriter.append_synced.Goals as goal

pub returns-in_err-append-clause-torn : goal.returns-in_err-append-clause-torn
returns-in_err-append-clause-torn g c = λ shown is.
    let s = g.S.Site in
    let w = c.args.self.now in
    let old = c.args.site.now in
    let p = err_from_is_err_and c.from_residual.result c.from_residual.ensures.1 in
    append_torn w.name (layout w.place c.args.payload.now) (s.disk old) (s.disk c.append.new.site) (λ file was. g.met.S.Site.remnant shown old w.name file was)
    (c.append.ensures.torn shown (c.in_err-append.was ∙ ap Err (sym p.2) ∙ sym p.1 ∙ is))

pub returns-in_err-append-clause-touches : goal.returns-in_err-append-clause-touches
returns-in_err-append-clause-touches g c =
    let s = g.S.Site in
    let w = c.args.self.now in
    let bytes = layout w.place c.args.payload.now in
    let old = c.args.site.now in
    let new = c.append.new.site in
    let a = c.append.ensures in
    let t = a.touches in
    let outcome = λ (shown : s.shows). append_outcome w.name bytes (s.disk old) (s.disk new) c.append.result (a.appended shown) (a.torn shown) (λ e. (t.keeps shown e).same) in
    record {
      certain = t.certain;
      time = λ shown certain. appending s.clock s.left_since s.disk s.told s.may_be w.name bytes old new (outcome shown)
          (t.time shown) (λ other may. g.met.S.Site.only shown new other (t.certain shown certain) may) (a.tells_nothing.told shown);
      doubt = λ shown. doubt_append s.disk s.may_be s.told s.clock s.left_since w.name bytes old new (outcome shown)
          (t.doubt shown) (t.time shown) (a.tells_nothing.told shown);
    }

pub returns-clause-holds : goal.returns-clause-holds
returns-clause-holds g c = λ shown payloads synced h.
    let s = g.S.Site in
    let payload = c.args.payload.now in
    let P : Result (Unit {0}) RecordErr → Type 0 = λ r. HoldsOneMore r (s.disk c.append.new.site) c.append.new.self payloads payload synced in
    synced_more c.sync.result (s.disk c.sync.new.site) c.sync.new.self payloads payload synced (on_err_weaker c.sync.result (λ (e : c.sync.new.self ≡ record c.append.new.self { failed = true }). ap (λ (w : WrittenFile). w.failed) e) c.sync.ensures.fails)
    (c.sync.ensures.holds shown (payloads ++ payload ∷ []) synced (subst P c.in_ok-append.was (c.append.ensures.holds shown payloads synced h)))

pub returns-clause-touches : goal.returns-clause-touches
returns-clause-touches g c =
    let s = g.S.Site in
    let w = c.args.self.now in
    let bytes = layout w.place c.args.payload.now in
    let old = c.args.site.now in
    let mid = c.append.new.site in
    let new = c.sync.new.site in
    let a = c.append.ensures in
    let b = c.sync.ensures in
    let done = c.in_ok-append.ensures in
    let P : List ℕ → Type 0 = λ n. (s.disk new ≡ s.disk mid) ⊎ (Syncs n (s.disk mid) (s.disk new) ⊎ Frays n (s.disk mid) (s.disk new)) in
    let F : List ℕ → Type 0 = λ n. FollowsFile n (s.disk mid) (s.disk new) (s.may_be mid) (s.may_be new) in
    let outcome = λ (shown : s.shows). subst P a.name (sync_outcome c.append.new.self.name (s.disk mid) (s.disk new) c.sync.result (b.synced shown) (b.frayed shown) (λ e. (b.touches.keeps shown e).same)) in
    record {
      certain = λ shown certain. b.touches.certain shown (a.touches.certain shown certain);
      time = λ shown certain.
          let sure = a.touches.certain shown certain in
          syncing s.clock s.left_since s.disk s.told s.may_be w.name bytes old mid new (done.appended shown) (outcome shown)
          (a.touches.time shown) (b.touches.time shown) (λ other may. g.met.S.Site.only shown mid other sure may) (λ other may. g.met.S.Site.only shown new other (b.touches.certain shown sure) may)
          (a.tells_nothing.told shown) (b.tells_nothing.told shown);
      doubt = λ shown. doubt_sync s.disk s.may_be s.told s.clock s.left_since w.name bytes old mid new (done.appended shown) (a.touches.doubt shown) (outcome shown)
          (subst F a.name (b.touches.doubt shown)) (a.touches.time shown) (b.touches.time shown) (a.tells_nothing.told shown) (b.tells_nothing.told shown);
    }
