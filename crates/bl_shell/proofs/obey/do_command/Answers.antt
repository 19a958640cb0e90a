use Rattle.std.proofs.Common.{◌≡◌, ◌+◌, ◌^◌, ◌≤◌, length, arith, ◌++◌, ◌∙◌, ap, sym, refl, rules, inl, inr}
use Rattle.std.specs.Option.{option_copied}
use Rattle.bl_site.proofs.Moments.{widened}
use Rattle.bl_script.specs.declared.command.Command.TheVariants.{Put, Del, Batch, Get, Scan, Sync, Flush, Files}
use Rattle.bl_script.specs.declared.command.Parsed.TheVariants.{Go}
use Rattle.bl_shell.specs.Carried.{IsWrite, IsTold}
use Rattle.bl_shell.specs.Machine.{reply}
use Rattle.std.proofs.lemmas.Result.{on_err_weaker, on_ok_weaker}
use Rattle.bl_code.proofs.Basics.{on_any_err}
use Rattle.bl_shell.proofs.CutLemmas.{cut_only_told}
use Rattle.bl_shell.proofs.MomentLemmas.{unbegun}
use Rattle.bl_shell.proofs.StayLemmas.{told_only}
use Rattle.bl_shell.proofs.TellLemmas.{tells_nothing, each_err}
use Rattle.bl_shell.proofs.LimitLemmas.{quiet_room}
use Rattle.bl_shell.proofs.obey.do_command.Goals as goal

pub returns-in_err-batch-in-Put-clause-front : goal.returns-in_err-batch-in-Put-clause-front
returns-in_err-batch-in-Put-clause-front g c = λ shown. each_err c.from_residual.result _ (λ e silent. tells_nothing _ _ _ refl)

pub returns-in_err-batch-in-Del-clause-front : goal.returns-in_err-batch-in-Del-clause-front
returns-in_err-batch-in-Del-clause-front g c = λ shown. each_err c.from_residual-in_err-batch-in-Del.result _ (λ e silent. tells_nothing _ _ _ refl)

pub returns-in_err-batch-in-Batch-clause-front : goal.returns-in_err-batch-in-Batch-clause-front
returns-in_err-batch-in-Batch-clause-front g c = λ shown. each_err c.from_residual-in_err-batch-in-Batch.result _ (λ e silent. tells_nothing _ _ _ refl)

pub returns-in_err-reply-in-Get-clause-front : goal.returns-in_err-reply-in-Get-clause-front
returns-in_err-reply-in-Get-clause-front g c = λ shown. each_err c.from_residual-in_err-reply-in-Get.result _ (λ e silent. tells_nothing _ _ _ refl)

pub returns-in-Scan-clause-ok : goal.returns-in-Scan-clause-ok
returns-in-Scan-clause-ok g c = λ shown.
    let from = c.in-Scan.from in
    let to = c.in-Scan.to in
    let m = c.args.store.now.now in
    let told = g.S.Site.told c.args.site.now in
    rw c.in-Scan.is (on_ok_weaker c.tell_pairs.result (λ is.
    told_only (Go (Scan from to)) c.args.store.now _ _ (reply (Scan from to) m) _ _ (record { writes = refl; tells = refl; opens = refl; no_sync = refl }) (c.tell_pairs.ensures.stays shown)
    (is ∙ ap (λ f. told ++ reply (Scan f (option_copied c.as_ref-in-Scan.result)) m) c.as_ref.ensures.value ∙ ap (λ t. told ++ reply (Scan from t) m) c.as_ref-in-Scan.ensures.value))
    (c.tell_pairs.ensures.ok shown))

pub returns-in_err-batch-in-Put-clause-cuts : goal.returns-in_err-batch-in-Put-clause-cuts
returns-in_err-batch-in-Put-clause-cuts g c = λ shown certain batches least s.
    unbegun g.S.Site.clock g.S.Site.left_since g.S.Site.disk g.S.Site.told g.S.Site.may_be c.cuts_stand.ensures (Go c.args.command) c.args.store.now batches least c.args.site.now
    (λ other. g.met.S.Site.only shown c.args.site.now other certain) (λ cut. g.met.S.Site.only_now shown c.args.site.now cut) s

pub returns-in_err-batch-in-Del-clause-cuts : goal.returns-in_err-batch-in-Del-clause-cuts
returns-in_err-batch-in-Del-clause-cuts g c = λ shown certain batches least s.
    unbegun g.S.Site.clock g.S.Site.left_since g.S.Site.disk g.S.Site.told g.S.Site.may_be c.cuts_stand.ensures (Go c.args.command) c.args.store.now batches least c.args.site.now
    (λ other. g.met.S.Site.only shown c.args.site.now other certain) (λ cut. g.met.S.Site.only_now shown c.args.site.now cut) s

pub returns-in_err-batch-in-Batch-clause-cuts : goal.returns-in_err-batch-in-Batch-clause-cuts
returns-in_err-batch-in-Batch-clause-cuts g c = λ shown certain batches least s.
    unbegun g.S.Site.clock g.S.Site.left_since g.S.Site.disk g.S.Site.told g.S.Site.may_be c.cuts_stand.ensures (Go c.args.command) c.args.store.now batches least c.args.site.now
    (λ other. g.met.S.Site.only shown c.args.site.now other certain) (λ cut. g.met.S.Site.only_now shown c.args.site.now cut) s

pub returns-in_err-reply-in-Get-clause-cuts : goal.returns-in_err-reply-in-Get-clause-cuts
returns-in_err-reply-in-Get-clause-cuts g c = λ shown certain batches least s.
    unbegun g.S.Site.clock g.S.Site.left_since g.S.Site.disk g.S.Site.told g.S.Site.may_be c.cuts_stand.ensures (Go c.args.command) c.args.store.now batches least c.args.site.now
    (λ other. g.met.S.Site.only shown c.args.site.now other certain) (λ cut. g.met.S.Site.only_now shown c.args.site.now cut) s

pub returns-in_ok-batch-in-Put-clause-cuts : goal.returns-in_ok-batch-in-Put-clause-cuts
returns-in_ok-batch-in-Put-clause-cuts g c = λ shown certain batches least s.
    let w : IsWrite (Go (Put c.in-Put.key c.in-Put.value)) c.in_ok-batch-in-Put.batch = record { writes = search rules; tells = λ m. refl; opens = refl; no_sync = refl } in
    rw c.in-Put.is (c.do_write.ensures.cuts shown certain (Go (Put c.in-Put.key c.in-Put.value)) w batches least s)

pub returns-in_ok-batch-in-Del-clause-cuts : goal.returns-in_ok-batch-in-Del-clause-cuts
returns-in_ok-batch-in-Del-clause-cuts g c = λ shown certain batches least s.
    let w : IsWrite (Go (Del c.in-Del.key)) c.in_ok-batch-in-Del.batch = record { writes = search rules; tells = λ m. refl; opens = refl; no_sync = refl } in
    rw c.in-Del.is (c.do_write-in-Del.ensures.cuts shown certain (Go (Del c.in-Del.key)) w batches least s)

pub returns-in_ok-batch-in-Batch-clause-cuts : goal.returns-in_ok-batch-in-Batch-clause-cuts
returns-in_ok-batch-in-Batch-clause-cuts g c = λ shown certain batches least s.
    let w : IsWrite (Go (Batch c.in-Batch.operations)) c.in_ok-batch-in-Batch.batch = record { writes = search rules; tells = λ m. refl; opens = refl; no_sync = refl } in
    rw c.in-Batch.is (c.do_write-in-Batch.ensures.cuts shown certain (Go (Batch c.in-Batch.operations)) w batches least s)

pub returns-in_ok-reply-in-Get-clause-cuts : goal.returns-in_ok-reply-in-Get-clause-cuts
returns-in_ok-reply-in-Get-clause-cuts g c = λ shown certain batches least s.
    let store = c.args.store.now in
    let t : IsTold (Go (Get c.in-Get.key)) store.now c.as_bytes.result.now = record { writes = refl; tells = search rules; opens = refl; no_sync = refl } in
    rw c.in-Get.is (widened g.S.Site.clock g.S.Site.left_since c.args.site.now c.do_tell.new.site _ _
    (λ cut k. cut_only_told c.cuts_stand.ensures (Go (Get c.in-Get.key)) store batches least _ _ _ cut t s k) (c.do_tell.ensures.cuts shown certain))

pub returns-in-Scan-clause-cuts : goal.returns-in-Scan-clause-cuts
returns-in-Scan-clause-cuts g c = λ shown certain batches least s.
    let store = c.args.store.now in
    let from = c.in-Scan.from in
    let to = c.in-Scan.to in
    let m = store.now in
    let says : reply (Scan from to) m ≡ reply (Scan (option_copied c.as_ref.result) (option_copied c.as_ref-in-Scan.result)) m =
    sym (ap (λ f. reply (Scan f (option_copied c.as_ref-in-Scan.result)) m) c.as_ref.ensures.value ∙ ap (λ t. reply (Scan from t) m) c.as_ref-in-Scan.ensures.value) in
    rw c.in-Scan.is (widened g.S.Site.clock g.S.Site.left_since c.args.site.now c.tell_pairs.new.site _ _
    (λ cut k. cut_only_told c.cuts_stand.ensures (Go (Scan from to)) store batches least _ _ _ cut (record { writes = refl; tells = says; opens = refl; no_sync = refl }) s k) (c.tell_pairs.ensures.cuts shown certain))

pub returns-in-Sync-clause-cuts : goal.returns-in-Sync-clause-cuts
returns-in-Sync-clause-cuts g c = λ shown certain batches least s. rw c.in-Sync.is (c.do_sync.ensures.cuts shown certain batches least s)

pub returns-in-Reopen-clause-cuts : goal.returns-in-Reopen-clause-cuts
returns-in-Reopen-clause-cuts g c = λ shown certain batches least s. rw c.in-Reopen.is (c.do_reopen.ensures.cuts shown certain batches least s)

pub returns-in_err-batch-in-Put-clause-room : goal.returns-in_err-batch-in-Put-clause-room
returns-in_err-batch-in-Put-clause-room g c = λ shown. on_any_err c.from_residual.result _ (inl refl)

pub returns-in_err-batch-in-Del-clause-room : goal.returns-in_err-batch-in-Del-clause-room
returns-in_err-batch-in-Del-clause-room g c = λ shown. on_any_err c.from_residual-in_err-batch-in-Del.result _ (inl refl)

pub returns-in_err-batch-in-Batch-clause-room : goal.returns-in_err-batch-in-Batch-clause-room
returns-in_err-batch-in-Batch-clause-room g c = λ shown. on_any_err c.from_residual-in_err-batch-in-Batch.result _ (inl refl)

pub returns-in_err-reply-in-Get-clause-room : goal.returns-in_err-reply-in-Get-clause-room
returns-in_err-reply-in-Get-clause-room g c = λ shown. on_any_err c.from_residual-in_err-reply-in-Get.result _ (inl refl)

pub returns-in_ok-batch-in-Put-clause-room : goal.returns-in_ok-batch-in-Put-clause-room
returns-in_ok-batch-in-Put-clause-room g c = λ shown.
    let order = Go (Put c.in-Put.key c.in-Put.value) in
    let w : IsWrite order c.in_ok-batch-in-Put.batch = record { writes = search rules; tells = λ m. refl; opens = refl; no_sync = refl } in
    rw c.in-Put.is (on_err_weaker c.do_write.result (λ x. elim x [ inl same ↦ inl same | inr room ↦ inr (room order w) ]) (c.do_write.ensures.room shown))

pub returns-in_ok-batch-in-Del-clause-room : goal.returns-in_ok-batch-in-Del-clause-room
returns-in_ok-batch-in-Del-clause-room g c = λ shown.
    let order = Go (Del c.in-Del.key) in
    let w : IsWrite order c.in_ok-batch-in-Del.batch = record { writes = search rules; tells = λ m. refl; opens = refl; no_sync = refl } in
    rw c.in-Del.is (on_err_weaker c.do_write-in-Del.result (λ x. elim x [ inl same ↦ inl same | inr room ↦ inr (room order w) ]) (c.do_write-in-Del.ensures.room shown))

pub returns-in_ok-batch-in-Batch-clause-room : goal.returns-in_ok-batch-in-Batch-clause-room
returns-in_ok-batch-in-Batch-clause-room g c = λ shown.
    let order = Go (Batch c.in-Batch.operations) in
    let w : IsWrite order c.in_ok-batch-in-Batch.batch = record { writes = search rules; tells = λ m. refl; opens = refl; no_sync = refl } in
    rw c.in-Batch.is (on_err_weaker c.do_write-in-Batch.result (λ x. elim x [ inl same ↦ inl same | inr room ↦ inr (room order w) ]) (c.do_write-in-Batch.ensures.room shown))

pub returns-in_ok-reply-in-Get-clause-room : goal.returns-in_ok-reply-in-Get-clause-room
returns-in_ok-reply-in-Get-clause-room g c = λ shown.
    let t = c.requires.there shown in
    rw c.in-Get.is (on_any_err c.do_tell.result _ (inr (quiet_room (Go (Get c.in-Get.key)) c.args.store.now t.0 t.1.0 _ refl refl t.1.1)))

pub returns-in-Scan-clause-room : goal.returns-in-Scan-clause-room
returns-in-Scan-clause-room g c = λ shown.
    let t = c.requires.there shown in
    rw c.in-Scan.is (on_any_err c.tell_pairs.result _ (inr (quiet_room (Go (Scan c.in-Scan.from c.in-Scan.to)) c.args.store.now t.0 t.1.0 _ refl refl t.1.1)))

pub returns-in-Sync-clause-room : goal.returns-in-Sync-clause-room
returns-in-Sync-clause-room g c = λ shown.
    let t = c.requires.there shown in
    rw c.in-Sync.is (on_any_err c.do_sync.result _ (inr (quiet_room (Go Sync) c.args.store.now t.0 t.1.0 _ refl refl t.1.1)))

pub returns-in-Reopen-clause-room : goal.returns-in-Reopen-clause-room
returns-in-Reopen-clause-room g c = λ shown. rw c.in-Reopen.is (c.do_reopen.ensures.room shown)

pub returns-in-Scan-clause-obeyed : goal.returns-in-Scan-clause-obeyed
returns-in-Scan-clause-obeyed g c = λ shown.
    rw c.in-Scan.is (λ is.
    told_only (Go (Scan c.in-Scan.from c.in-Scan.to)) c.args.store.now _ _ (reply (Scan c.in-Scan.from c.in-Scan.to) c.args.store.now.now) _ _
    (record { writes = refl; tells = refl; opens = refl; no_sync = refl }) (c.tell_pairs.ensures.stays shown) refl)

pub returns-in_ok-batch-in-Batch-clause-full : goal.returns-in_ok-batch-in-Batch-clause-full
returns-in_ok-batch-in-Batch-clause-full g c = λ shown limit is.
    let w : IsWrite (Go (Batch c.in-Batch.operations)) c.in_ok-batch-in-Batch.batch = record { writes = search rules; tells = λ m. refl; opens = refl; no_sync = refl } in
    let full = c.do_write-in-Batch.ensures.full shown limit is in
    let passed : 2 ^ 56 ≤ c.args.store.now.last + length c.in_ok-batch-in-Batch.batch = omega (arith, full.0, full.1) in
    rw c.in-Batch.is (inl (c.in_ok-batch-in-Batch.batch, (w.writes, full.0, passed)), full.2)

pub returns-in-Flush-clause-room : goal.returns-in-Flush-clause-room
returns-in-Flush-clause-room g c = λ shown.
    let t = c.requires.there shown in
    rw c.in-Flush.is (on_any_err c.do_tell-in-Flush.result _ (inr (quiet_room (Go Flush) c.args.store.now t.0 t.1.0 _ refl refl t.1.1)))

pub returns-in-Flush-clause-cuts : goal.returns-in-Flush-clause-cuts
returns-in-Flush-clause-cuts g c = λ shown certain batches least s.
    let store = c.args.store.now in
    let t : IsTold (Go Flush) store.now c.print_refusal.result.now = record { writes = refl; tells = search rules; opens = refl; no_sync = refl } in
    rw c.in-Flush.is (widened g.S.Site.clock g.S.Site.left_since c.args.site.now c.do_tell-in-Flush.new.site _ _
    (λ cut k. cut_only_told c.cuts_stand.ensures (Go Flush) store batches least _ _ _ cut t s k) (c.do_tell-in-Flush.ensures.cuts shown certain))

pub returns-in-Files-clause-room : goal.returns-in-Files-clause-room
returns-in-Files-clause-room g c = λ shown.
    let t = c.requires.there shown in
    rw c.in-Files.is (on_any_err c.do_tell-in-Files.result _ (inr (quiet_room (Go Files) c.args.store.now t.0 t.1.0 _ refl refl t.1.1)))

pub returns-in-Files-clause-cuts : goal.returns-in-Files-clause-cuts
returns-in-Files-clause-cuts g c = λ shown certain batches least s.
    let store = c.args.store.now in
    let t : IsTold (Go Files) store.now c.print_refusal-in-Files.result.now = record { writes = refl; tells = search rules; opens = refl; no_sync = refl } in
    rw c.in-Files.is (widened g.S.Site.clock g.S.Site.left_since c.args.site.now c.do_tell-in-Files.new.site _ _
    (λ cut k. cut_only_told c.cuts_stand.ensures (Go Files) store batches least _ _ _ cut t s k) (c.do_tell-in-Files.ensures.cuts shown certain))
