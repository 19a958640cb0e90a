use Rattle.std.proofs.Common.{◌≡◌, ◌∙◌, ◌+◌, ◌%◌, true, Result, Err, OnOk, length, subst, sym, ap, string_bytes}
use Rattle.std.proofs.lemmas.Result.{err_from_is_err_and}
use Rattle.std.specs.Result.{is_err}
use Rattle.bl_site.specs.Calls.{Appends}
use Rattle.bl_site.specs.declared.site.SiteErr.{SiteErr}
use Rattle.bl_log.specs.Layout.{layout}
use Rattle.bl_records.specs.declared.error.RecordErr.{RecordErr}
use Rattle.bl_records.specs.Held.{HoldsOneMore}
use Rattle.bl_records.proofs.HeldLemmas.{Asked, ok_of, file_at, append_done, append_failed}
use Rattle.bl_records.proofs.writer.RecordWriter.append.Goals as goal

pub returns-in_err-appended-clause-holds : goal.returns-in_err-appended-clause-holds
returns-in_err-appended-clause-holds g c = λ shown payloads synced h.
    let before = g.S.Site.disk c.args.site.now in
    let after = g.S.Site.disk c.append-appended.new.self in
    let w = c.self.inside in
    let bytes = c.as_slice.result.now in
    let payload = c.args.payload.now in
    let asked : Asked c.args.self.now c.as_str.result.now (string_bytes w.name) w.writer w.failed = record { writer_is = c.self.view_is; usable = c.requires.usable; asked_is = c.as_str.ensures.value } in
    let are : bytes ≡ layout w.writer payload = c.as_slice.ensures.value ∙ ok_of c.frame_into-framed.result _ (sym c.is_err.ensures.value ∙ c.if-is_err.false) c.frame_into-framed.ensures.layout in
    let p = err_from_is_err_and c.from_residual.result c.from_residual.ensures.1 in
    let failed : c.is_err-self-inside.result ≡ true = c.is_err-self-inside.ensures.value ∙ ap is_err c.in_err-appended.was in
    let Q : Result (Unit {0}) RecordErr → Type 0 = λ r. HoldsOneMore r after (file_at (string_bytes w.name) c.frame_into-framed.new.self c.is_err-self-inside.result) payloads payload synced in
    subst Q (sym (p.1 ∙ ap Err p.2))
    (append_failed before after c.args.self.now c.as_str.result.now (string_bytes w.name) w.writer c.frame_into-framed.new.self w.failed c.is_err-self-inside.result payloads payload bytes synced c.in_err-appended.field-0.0 asked are failed
    (λ e. c.append-appended.ensures.failed shown (c.in_err-appended.was ∙ ap Err e)) (λ e. (c.append-appended.ensures.memory shown (c.in_err-appended.was ∙ ap Err e)).same)
    (λ e. c.append-appended.ensures.cause.not_tell (c.in_err-appended.was ∙ ap Err e)) h)

pub returns-clause-holds : goal.returns-clause-holds
returns-clause-holds g c = λ shown payloads synced h.
    let before = g.S.Site.disk c.args.site.now in
    let after = g.S.Site.disk c.append-appended.new.self in
    let w = c.self.inside in
    let bytes = c.as_slice.result.now in
    let payload = c.args.payload.now in
    let asked : Asked c.args.self.now c.as_str.result.now (string_bytes w.name) w.writer w.failed = record { writer_is = c.self.view_is; usable = c.requires.usable; asked_is = c.as_str.ensures.value } in
    let ok = sym c.is_err.ensures.value ∙ c.if-is_err.false in
    let are : bytes ≡ layout w.writer payload = c.as_slice.ensures.value ∙ ok_of c.frame_into-framed.result _ ok c.frame_into-framed.ensures.layout in
    let moved : c.frame_into-framed.new.self ≡ (w.writer + length bytes) % 32768 =
    ok_of c.frame_into-framed.result _ ok c.frame_into-framed.ensures.moved ∙ ap (λ bs. (w.writer + length bs) % 32768) (sym c.as_slice.ensures.value) in
    let D : Result (Unit {0}) SiteErr → Type 0 = λ r. OnOk r (Appends c.as_str.result.now bytes bytes before after) in
    append_done before after c.args.self.now c.as_str.result.now (string_bytes w.name) w.writer c.frame_into-framed.new.self w.failed c.is_err-self-inside.result payloads payload bytes synced asked are moved
    (c.is_err-self-inside.ensures.value ∙ ap is_err c.in_ok-appended.was) (subst D c.in_ok-appended.was (c.append-appended.ensures.done shown)) h
