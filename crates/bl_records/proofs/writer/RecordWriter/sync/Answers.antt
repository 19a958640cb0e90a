use Rattle.std.proofs.Common.{◌≡◌, ◌∙◌, true, Result, Err, OnOk, subst, sym, ap, string_bytes}
use Rattle.std.proofs.lemmas.Result.{err_from_is_err_and}
use Rattle.std.specs.Result.{is_err}
use Rattle.bl_site.specs.Calls.{Syncs}
use Rattle.bl_site.specs.declared.site.SiteErr.{SiteErr}
use Rattle.bl_records.specs.declared.error.RecordErr.{RecordErr}
use Rattle.bl_records.specs.Held.{HoldsAllSynced}
use Rattle.bl_records.proofs.HeldLemmas.{Asked, file_at, sync_done, sync_failed}
use Rattle.bl_records.proofs.writer.RecordWriter.sync.Goals as goal

pub returns-in_err-synced-clause-holds : goal.returns-in_err-synced-clause-holds
returns-in_err-synced-clause-holds g c = λ shown payloads synced h.
    let before = g.S.Site.disk c.args.site.now in
    let after = g.S.Site.disk c.sync-synced.new.self in
    let w = c.self.inside in
    let asked : Asked c.args.self.now c.as_str.result.now (string_bytes w.name) w.writer w.failed = record { writer_is = c.self.view_is; usable = c.requires.usable; asked_is = c.as_str.ensures.value } in
    let p = err_from_is_err_and c.from_residual.result c.from_residual.ensures.1 in
    let failed : c.is_err-self-inside.result ≡ true = c.is_err-self-inside.ensures.value ∙ ap is_err c.in_err-synced.was in
    let Q : Result (Unit {0}) RecordErr → Type 0 = λ r. HoldsAllSynced r after (file_at (string_bytes w.name) w.writer c.is_err-self-inside.result) payloads synced in
    subst Q (sym p.1)
    (sync_failed before after c.args.self.now c.as_str.result.now (string_bytes w.name) w.writer w.failed c.is_err-self-inside.result payloads synced c.in_err-synced.field-0.0 asked failed
    (λ e. c.sync-synced.ensures.failed shown (c.in_err-synced.was ∙ ap Err e)) (λ e. (c.sync-synced.ensures.memory shown (c.in_err-synced.was ∙ ap Err e)).same) (λ e. c.sync-synced.ensures.cause.not_tell (c.in_err-synced.was ∙ ap Err e)) h)

pub returns-clause-holds : goal.returns-clause-holds
returns-clause-holds g c = λ shown payloads synced h.
    let before = g.S.Site.disk c.args.site.now in
    let after = g.S.Site.disk c.sync-synced.new.self in
    let w = c.self.inside in
    let asked : Asked c.args.self.now c.as_str.result.now (string_bytes w.name) w.writer w.failed = record { writer_is = c.self.view_is; usable = c.requires.usable; asked_is = c.as_str.ensures.value } in
    let D : Result (Unit {0}) SiteErr → Type 0 = λ r. OnOk r (Syncs c.as_str.result.now before after) in
    sync_done before after c.args.self.now c.as_str.result.now (string_bytes w.name) w.writer w.failed c.is_err-self-inside.result payloads synced asked
    (c.is_err-self-inside.ensures.value ∙ ap is_err c.in_ok-synced.was) (subst D c.in_ok-synced.was (c.sync-synced.ensures.done shown)) h
