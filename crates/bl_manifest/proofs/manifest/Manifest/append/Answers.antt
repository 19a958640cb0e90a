use Rattle.std.proofs.Common.{◌∙◌, ◌+◌, ℕ, Result, Err, [], ◌∷◌, ◌++◌, map, length, refl, ap, sym, subst}
use Rattle.std.proofs.lemmas.List.{length-map}
use Rattle.std.proofs.lemmas.Result.{err_from_is_err_and}
use Rattle.bl_site.proofs.Moments.{cut_of_only}
use Rattle.bl_edit.specs.Spelling.{edit_bytes}
use Rattle.bl_records.specs.declared.error.RecordErr.{RecordErr}
use Rattle.bl_records.specs.Held.{HoldsRecords, HoldsOneMoreSynced}
use Rattle.bl_records.proofs.TimeLemmas.{doubt_none, elapses_none}
use Rattle.bl_manifest.specs.declared.error.ManifestErr.{ManifestErr}
use Rattle.bl_manifest.specs.ManifestFile.{ManifestFile}
use Rattle.bl_manifest.specs.Held.{HoldsOneMore, ReadsEdits}
use Rattle.bl_manifest.proofs.HeldLemmas.{Appended, manifest_at, one_read_back, records_of, one_more, failed_append}
use Rattle.bl_manifest.proofs.LawLemmas.{appended_left}
use Rattle.bl_manifest.proofs.manifest.Manifest.append.Goals as goal

pub returns-in_err-payload-clause-touches : goal.returns-in_err-payload-clause-touches
returns-in_err-payload-clause-touches g c =
    let s = g.S.Site in
    record {
      certain = λ shown certain. certain;
      time = λ shown certain. elapses_none s.clock s.left_since c.args.site.now _;
      doubt = λ shown. doubt_none s.disk s.may_be s.told s.clock s.left_since _ _ c.args.site.now;
    }

pub returns-in_err-append_synced-clause-holds : goal.returns-in_err-append_synced-clause-holds
returns-in_err-append_synced-clause-holds g c = λ shown edits synced h.
    let s = g.S.Site in
    let m = c.self.inside in
    let e = c.args.edit.now in
    let done = c.append_synced in
    let payload = c.as_slice.result.now in
    let a : Appended m.number done.new.self edits e payload synced = record {
      named = done.ensures.name ∙ c.self.invariant.1;
      payload_is = c.as_slice.ensures ∙ c.in_ok-payload.ensures.bytes;
      are = h.are;
      one = one_read_back e c.in_ok-payload.payload c.in_ok-payload.ensures.bytes c.in_ok-payload.ensures.reads;
      whole = h.all_synced c.requires.usable;
    } in
    let p = err_from_is_err_and c.from_residual-in_err-append_synced.result c.from_residual-in_err-append_synced.ensures.1 in
    let P : Result (Unit {0}) ManifestErr → Type 0 = λ r. HoldsOneMore r (s.disk done.new.site) (manifest_at m.number done.new.self) edits e synced in
    let Q : Result (Unit {0}) RecordErr → Type 0 = λ r. HoldsOneMoreSynced r (s.disk done.new.site) done.new.self (map edit_bytes edits) payload synced in
    subst P (sym (p.1 ∙ ap Err p.2))
    (failed_append (s.disk done.new.site) m.number done.new.self edits e payload synced a c.in_err-append_synced.field-0.0 (λ is. done.ensures.fails.disk_fails (c.in_err-append_synced.was ∙ ap Err is))
    (subst Q c.in_err-append_synced.was (done.ensures.holds shown (map edit_bytes edits) synced (records_of (s.disk c.args.site.now) m.number m.records c.args.self.now edits synced c.self.view_is c.self.invariant.1 h))))

pub returns-clause-holds : goal.returns-clause-holds
returns-clause-holds g c = λ shown edits synced h.
    let s = g.S.Site in
    let m = c.self.inside in
    let e = c.args.edit.now in
    let done = c.append_synced in
    let payload = c.as_slice.result.now in
    let a : Appended m.number done.new.self edits e payload synced = record {
      named = done.ensures.name ∙ c.self.invariant.1;
      payload_is = c.as_slice.ensures ∙ c.in_ok-payload.ensures.bytes;
      are = h.are;
      one = one_read_back e c.in_ok-payload.payload c.in_ok-payload.ensures.bytes c.in_ok-payload.ensures.reads;
      whole = h.all_synced c.requires.usable;
    } in
    let Q : Result (Unit {0}) RecordErr → Type 0 = λ r. HoldsOneMoreSynced r (s.disk done.new.site) done.new.self (map edit_bytes edits) payload synced in
    let N : ℕ → Type 0 = λ n. HoldsRecords (s.disk done.new.site) done.new.self (map edit_bytes edits ++ payload ∷ []) (n + 1) in
    one_more (s.disk done.new.site) m.number done.new.self edits e payload synced a (length edits + 1) (λ still. refl)
    (subst N (length-map edits edit_bytes)
    (subst Q c.in_ok-append_synced.was (done.ensures.holds shown (map edit_bytes edits) synced (records_of (s.disk c.args.site.now) m.number m.records c.args.self.now edits synced c.self.view_is c.self.invariant.1 h))))

pub returns-clause-durable : goal.returns-clause-durable
returns-clause-durable g c = λ shown certain edits synced h cut leaves.
    let s = g.S.Site in
    let e = c.args.edit.now in
    let done = c.append_synced in
    let new = done.new.site in
    let N : ℕ → Type 0 = λ n. ReadsEdits cut.folder n (edits ++ e ∷ []) in
    subst N (ap (λ (m : ManifestFile). m.number) c.self.view_is)
    (appended_left c.synced_manifests_are_left.ensures (s.disk new) (manifest_at c.self.inside.number done.new.self) edits e (s.told new) cut (returns-clause-holds g c shown edits synced h)
    (cut_of_only (s.may_be new) (s.disk new) (s.told new) cut (λ other may. g.met.S.Site.only shown new other (done.ensures.touches.certain shown certain) may) leaves))
