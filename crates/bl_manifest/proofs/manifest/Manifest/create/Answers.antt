use Rattle.std.proofs.Common.{◌≡◌, inr, false, ◌∙◌, ap, subst, string_bytes, Result}
use Rattle.std.specs.Prelude.{OnErr}
use Rattle.bl_code.proofs.Basics.{on_any_err}
use Rattle.bl_names.specs.Names.{manifest_name}
use Rattle.bl_log.specs.Layout.{layout}
use Rattle.bl_records.specs.WrittenFile.{WrittenFile}
use Rattle.bl_records.specs.declared.error.RecordErr.{RecordErr}
use Rattle.bl_records.proofs.TimeLemmas.{making_called, made_doubt}
use Rattle.bl_records.proofs.WritingLemmas.{made_outcome, partly_done, asks_some}
use Rattle.bl_manifest.specs.ManifestFile.{record_bytes}
use Rattle.bl_manifest.proofs.manifest.Manifest.create.Goals as goal

pub returns-in_err-append_synced-clause-left : goal.returns-in_err-append_synced-clause-left
returns-in_err-append_synced-clause-left g c = λ shown.
    let s = g.S.Site in
    let made = c.create.ensures in
    let done = c.append_synced in
    let w = c.in_ok-records.records in
    let payload = c.as_slice.result.now in
    let name = manifest_name c.args.number in
    let record_ = record_bytes 0 c.args.first.now in
    let called = string_bytes c.in_ok-name.name in
    let given = layout w.place payload in
    let old = c.args.site.now in
    let mid = c.create.new.site in
    let new = done.new.site in
    let second : w.name ≡ name = ap (λ (f : WrittenFile). f.name) c.in_ok-records.ensures.made ∙ c.in_ok-name.ensures in
    let are : given ≡ record_ = ap (λ (f : WrittenFile). layout f.place payload) c.in_ok-records.ensures.made ∙ ap (layout 0) (c.as_slice.ensures ∙ c.in_ok-payload.ensures.bytes) in
    on_any_err _ _ (inr (made_outcome name record_ called w.name given (s.disk old) (s.disk mid) (s.disk new) c.in_ok-name.ensures second are (c.in_ok-records.ensures.created shown)
    (partly_done w.name given (s.disk mid) (s.disk new) done.result (done.ensures.appended shown) (done.ensures.torn shown) (done.ensures.memory shown))))

pub returns-in_err-append_synced-clause-doubt : goal.returns-in_err-append_synced-clause-doubt
returns-in_err-append_synced-clause-doubt g c = λ shown.
    let s = g.S.Site in
    let made = c.create.ensures in
    let done = c.append_synced in
    let w = c.in_ok-records.records in
    let payload = c.as_slice.result.now in
    let name = manifest_name c.args.number in
    let record_ = record_bytes 0 c.args.first.now in
    let called = string_bytes c.in_ok-name.name in
    let given = layout w.place payload in
    let old = c.args.site.now in
    let mid = c.create.new.site in
    let new = done.new.site in
    let second : w.name ≡ name = ap (λ (f : WrittenFile). f.name) c.in_ok-records.ensures.made ∙ c.in_ok-name.ensures in
    let are : given ≡ record_ = ap (λ (f : WrittenFile). layout f.place payload) c.in_ok-records.ensures.made ∙ ap (layout 0) (c.as_slice.ensures ∙ c.in_ok-payload.ensures.bytes) in
    made_doubt s.clock s.left_since s.disk s.told s.may_be name record_ old new (g.met.S.Site.reads shown old)
    (λ other may. g.met.S.Site.only shown new other (done.ensures.touches.certain shown (c.in_ok-records.ensures.certain shown)) may)
    (made_outcome name record_ called w.name given (s.disk old) (s.disk mid) (s.disk new) c.in_ok-name.ensures second are (c.in_ok-records.ensures.created shown)
    (partly_done w.name given (s.disk mid) (s.disk new) done.result (done.ensures.appended shown) (done.ensures.torn shown) (done.ensures.memory shown)))

pub returns-in_err-append_synced-clause-time : goal.returns-in_err-append_synced-clause-time
returns-in_err-append_synced-clause-time g c = λ shown.
    let s = g.S.Site in
    let made = c.create.ensures in
    let done = c.append_synced in
    let w = c.in_ok-records.records in
    let payload = c.as_slice.result.now in
    let name = manifest_name c.args.number in
    let record_ = record_bytes 0 c.args.first.now in
    let called = string_bytes c.in_ok-name.name in
    let given = layout w.place payload in
    let old = c.args.site.now in
    let mid = c.create.new.site in
    let new = done.new.site in
    let second : w.name ≡ name = ap (λ (f : WrittenFile). f.name) c.in_ok-records.ensures.made ∙ c.in_ok-name.ensures in
    let are : given ≡ record_ = ap (λ (f : WrittenFile). layout f.place payload) c.in_ok-records.ensures.made ∙ ap (layout 0) (c.as_slice.ensures ∙ c.in_ok-payload.ensures.bytes) in
    making_called s.clock s.left_since s.disk s.told s.may_be name record_ called w.name given old mid new c.in_ok-name.ensures second are (c.in_ok-records.ensures.created shown) (g.met.S.Site.reads shown old)
    (made.time shown) (done.ensures.touches.time shown (c.in_ok-records.ensures.certain shown)) (made.tells_nothing.told shown)

pub returns-clause-doubt : goal.returns-clause-doubt
returns-clause-doubt g c = λ shown.
    let s = g.S.Site in
    let made = c.create.ensures in
    let done = c.append_synced in
    let w = c.in_ok-records.records in
    let payload = c.as_slice.result.now in
    let name = manifest_name c.args.number in
    let record_ = record_bytes 0 c.args.first.now in
    let called = string_bytes c.in_ok-name.name in
    let given = layout w.place payload in
    let old = c.args.site.now in
    let mid = c.create.new.site in
    let new = done.new.site in
    let second : w.name ≡ name = ap (λ (f : WrittenFile). f.name) c.in_ok-records.ensures.made ∙ c.in_ok-name.ensures in
    let are : given ≡ record_ = ap (λ (f : WrittenFile). layout f.place payload) c.in_ok-records.ensures.made ∙ ap (layout 0) (c.as_slice.ensures ∙ c.in_ok-payload.ensures.bytes) in
    made_doubt s.clock s.left_since s.disk s.told s.may_be name record_ old new (g.met.S.Site.reads shown old)
    (λ other may. g.met.S.Site.only shown new other (done.ensures.touches.certain shown (c.in_ok-records.ensures.certain shown)) may)
    (made_outcome name record_ called w.name given (s.disk old) (s.disk mid) (s.disk new) c.in_ok-name.ensures second are (c.in_ok-records.ensures.created shown)
    (partly_done w.name given (s.disk mid) (s.disk new) done.result (done.ensures.appended shown) (done.ensures.torn shown) (done.ensures.memory shown)))

pub returns-clause-time : goal.returns-clause-time
returns-clause-time g c = λ shown.
    let s = g.S.Site in
    let made = c.create.ensures in
    let done = c.append_synced in
    let w = c.in_ok-records.records in
    let payload = c.as_slice.result.now in
    let name = manifest_name c.args.number in
    let record_ = record_bytes 0 c.args.first.now in
    let called = string_bytes c.in_ok-name.name in
    let given = layout w.place payload in
    let old = c.args.site.now in
    let mid = c.create.new.site in
    let new = done.new.site in
    let second : w.name ≡ name = ap (λ (f : WrittenFile). f.name) c.in_ok-records.ensures.made ∙ c.in_ok-name.ensures in
    let are : given ≡ record_ = ap (λ (f : WrittenFile). layout f.place payload) c.in_ok-records.ensures.made ∙ ap (layout 0) (c.as_slice.ensures ∙ c.in_ok-payload.ensures.bytes) in
    making_called s.clock s.left_since s.disk s.told s.may_be name record_ called w.name given old mid new c.in_ok-name.ensures second are (c.in_ok-records.ensures.created shown) (g.met.S.Site.reads shown old)
    (made.time shown) (done.ensures.touches.time shown (c.in_ok-records.ensures.certain shown)) (made.tells_nothing.told shown)

pub returns-in_err-append_synced-clause-asked : goal.returns-in_err-append_synced-clause-asked
returns-in_err-append_synced-clause-asked g c = λ is.
    let s = g.S.Site in
    let done = c.append_synced in
    let P : Result (Unit {0}) RecordErr → Type 0 = λ r. OnErr r (done.new.self.failed ≡ false → (done.new.self ≡ c.in_ok-records.records) × (done.new.site ≡ c.create.new.site)) in
    asks_some _ _ _ done.new.self.failed c.create.ensures.changes done.ensures.fails.asked_fails (λ still. ap s.changes (subst P c.in_err-append_synced.was done.ensures.fails.stays still).1)

pub returns-in_err-append_synced-clause-memory : goal.returns-in_err-append_synced-clause-memory
returns-in_err-append_synced-clause-memory g c = λ is.
    let s = g.S.Site in
    let done = c.append_synced in
    let P : Result (Unit {0}) RecordErr → Type 0 = λ r. OnErr r (done.new.self.failed ≡ false → (done.new.self ≡ c.in_ok-records.records) × (done.new.site ≡ c.create.new.site)) in
    inr (asks_some _ _ _ done.new.self.failed c.create.ensures.changes done.ensures.fails.asked_fails (λ still. ap s.changes (subst P c.in_err-append_synced.was done.ensures.fails.stays still).1))
