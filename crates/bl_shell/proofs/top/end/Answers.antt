use Rattle.std.proofs.Common.{◌≡◌, ℕ, List, take, ◌∙◌, ap, sym, subst}
use Rattle.bl_shell.specs.declared.status.Status.TheVariants.{Corrupt, Full}
use Rattle.bl_shell.specs.Causes.{EndsAs}
use Rattle.bl_shell.specs.Telling.{corrupt_line, full_line}
use Rattle.bl_shell.specs.Cuts.{IsErrorFront}
use Rattle.bl_shell.proofs.CrashLemmas.{corrupt_error, full_error, line_told, silent}
use Rattle.bl_shell.proofs.top.end.Goals as goal

pub returns-in-Ok-clause-corrupt : goal.returns-in-Ok-clause-corrupt
returns-in-Ok-clause-corrupt g c = λ shown name place is.
    let named : c.in-Corrupt.name ≡ name = cc is in
    let placed : c.in-Corrupt.place ≡ place = cc is in
    let line : c.as_slice.result.now ≡ corrupt_line name place = c.as_slice.ensures.value ∙ c.in-Ok.ensures.line ∙ ap (λ n. corrupt_line n c.in-Corrupt.place) named ∙ ap (corrupt_line name) placed in
    let P : List ℕ → Type 0 = λ l. EndsAs Corrupt c.tell_last.result l (g.S.Site.told c.args.site.now) (g.S.Site.told c.tell_last.new.site) in
    subst P line (c.tell_last.ensures.told shown)

pub returns-in-Ok-full_reply-clause-full : goal.returns-in-Ok-full_reply-clause-full
returns-in-Ok-full_reply-clause-full g c = λ shown limit is.
    let limited : c.in-Full.limit ≡ limit = cc is in
    let line : c.as_bytes.result.now ≡ full_line limit = c.as_bytes.ensures.value ∙ c.in-Ok-full_reply.ensures.line ∙ ap full_line limited in
    let P : List ℕ → Type 0 = λ l. EndsAs Full c.tell_last-in-Ok-full_reply.result l (g.S.Site.told c.args.site.now) (g.S.Site.told c.tell_last-in-Ok-full_reply.new.site) in
    subst P line (c.tell_last-in-Ok-full_reply.ensures.told shown)

pub returns-in-Read-clause-cuts : goal.returns-in-Read-clause-cuts
returns-in-Read-clause-cuts g c = λ shown. silent g.S.Site.clock g.S.Site.left_since g.S.Site.told g.S.Site.may_be c.args.site.now (λ cut. g.met.S.Site.only_now shown c.args.site.now cut)

pub returns-in-Tell-clause-cuts : goal.returns-in-Tell-clause-cuts
returns-in-Tell-clause-cuts g c = λ shown. silent g.S.Site.clock g.S.Site.left_since g.S.Site.told g.S.Site.may_be c.args.site.now (λ cut. g.met.S.Site.only_now shown c.args.site.now cut)

pub returns-in-Disk-clause-cuts : goal.returns-in-Disk-clause-cuts
returns-in-Disk-clause-cuts g c = λ shown. silent g.S.Site.clock g.S.Site.left_since g.S.Site.told g.S.Site.may_be c.args.site.now (λ cut. g.met.S.Site.only_now shown c.args.site.now cut)

pub returns-in-OutOfMemory-clause-cuts : goal.returns-in-OutOfMemory-clause-cuts
returns-in-OutOfMemory-clause-cuts g c = λ shown. silent g.S.Site.clock g.S.Site.left_since g.S.Site.told g.S.Site.may_be c.args.site.now (λ cut. g.met.S.Site.only_now shown c.args.site.now cut)

pub returns-in-Long-clause-cuts : goal.returns-in-Long-clause-cuts
returns-in-Long-clause-cuts g c = λ shown. silent g.S.Site.clock g.S.Site.left_since g.S.Site.told g.S.Site.may_be c.args.site.now (λ cut. g.met.S.Site.only_now shown c.args.site.now cut)

pub returns-in-Corrupt-clause-cuts : goal.returns-in-Corrupt-clause-cuts
returns-in-Corrupt-clause-cuts g c = λ shown. silent g.S.Site.clock g.S.Site.left_since g.S.Site.told g.S.Site.may_be c.args.site.now (λ cut. g.met.S.Site.only_now shown c.args.site.now cut)

pub returns-clause-cuts : goal.returns-clause-cuts
returns-clause-cuts g c = λ shown. silent g.S.Site.clock g.S.Site.left_since g.S.Site.told g.S.Site.may_be c.args.site.now (λ cut. g.met.S.Site.only_now shown c.args.site.now cut)

pub returns-in-Ok-clause-cuts : goal.returns-in-Ok-clause-cuts
returns-in-Ok-clause-cuts g c = λ shown.
    let line : c.as_slice.result.now ≡ corrupt_line c.in-Corrupt.name c.in-Corrupt.place = c.as_slice.ensures.value ∙ c.in-Ok.ensures.line in
    let P : List ℕ → Type 0 = λ l. (count : ℕ) → IsErrorFront (take count l) in
    line_told g.S.Site.clock g.S.Site.left_since g.S.Site.told g.S.Site.may_be c.args.site.now c.tell_last.new.site _ (subst P (sym line) (corrupt_error c.in-Corrupt.name c.in-Corrupt.place)) (c.tell_last.ensures.cuts shown)

pub returns-in-Ok-full_reply-clause-cuts : goal.returns-in-Ok-full_reply-clause-cuts
returns-in-Ok-full_reply-clause-cuts g c = λ shown.
    let line : c.as_bytes.result.now ≡ full_line c.in-Full.limit = c.as_bytes.ensures.value ∙ c.in-Ok-full_reply.ensures.line in
    let P : List ℕ → Type 0 = λ l. (count : ℕ) → IsErrorFront (take count l) in
    line_told g.S.Site.clock g.S.Site.left_since g.S.Site.told g.S.Site.may_be c.args.site.now c.tell_last-in-Ok-full_reply.new.site _ (subst P (sym line) (full_error c.in-Full.limit)) (c.tell_last-in-Ok-full_reply.ensures.cuts shown)
