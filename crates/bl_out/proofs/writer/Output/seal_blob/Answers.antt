use Rattle.std.proofs.Common.{◌≡◌, ◌<◌, ◌≤◌, ◌+◌, None, length, [], sym, ◌∙◌, ap, arith, append-nil}
use Rattle.std.specs.Prelude.{IsSome}
use Rattle.bl_out.specs.Outputs.{IsSealedAs, next_file}
use Rattle.bl_out.specs.States.{State}
use Rattle.bl_out.specs.Steps.{closed_blob}
use Rattle.bl_out.proofs.AppendLemmas.{ok_map}
use Rattle.bl_out.proofs.BecomeLemmas.{acts_join}
use Rattle.bl_out.proofs.PartLemmas.{none_is}
use Rattle.bl_out.proofs.SealLemmas.{blob_as_before, none_answers, ok_to, seals_blob, seals_blob_hand, seals_none}
use Rattle.bl_out.proofs.writer.Output.seal_blob.Goals as goal

pub returns-then-self-len-clause-becomes : goal.returns-then-self-len-clause-becomes
returns-then-self-len-clause-becomes g c = λ next.
    let a = c.args.self.now in
    let less : a.sealed < length a.tables + length a.blobs = rw (sym c.self.view_is) (omega (arith, c.if-self-len.true, c.len.ensures, c.len-2.ensures, c.self.inside.tables.ok.0, c.self.inside.blobs.ok.0)) in
    ok_map c.sync_blob.result (seals_blob g.S.Site next a c.sync_blob.new.self c.args.site.now c.sync_blob.new.site c.requires.tables.0 c.requires.tables.1 less) (c.sync_blob.ensures.becomes next)

pub returns-then-is_none-clause-becomes : goal.returns-then-is_none-clause-becomes
returns-then-is_none-clause-becomes g c = λ next.
    let a = c.args.self.now in
    let least : length a.tables + length a.blobs ≤ a.sealed = rw (sym c.self.view_is) (omega (arith, c.if-self-len.false, c.len.ensures, c.len-2.ensures, c.self.inside.tables.ok.0, c.self.inside.blobs.ok.0)) in
    let none : a.blob ≡ None = rw (sym c.self.view_is) (none_is c.self.inside.blob c.if-is_none.ensures) in
    seals_none g.S.Site next a c.args.site.now c.requires.tables.0 none (omega (arith, c.requires.order, least))

pub returns-then-is_none-clause-named : goal.returns-then-is_none-clause-named
returns-then-is_none-clause-named g c =
    let a = c.args.self.now in
    let least : length a.tables + length a.blobs ≤ a.sealed = rw (sym c.self.view_is) (omega (arith, c.if-self-len.false, c.len.ensures, c.len-2.ensures, c.self.inside.tables.ok.0, c.self.inside.blobs.ok.0)) in
    let none : a.blob ≡ None = rw (sym c.self.view_is) (none_is c.self.inside.blob c.if-is_none.ensures) in
    λ o is. none_answers o a is c.requires.tables.0 none (omega (arith, c.requires.order, least))

pub sync_blob-requires-2-clause-tables : goal.sync_blob-requires-2-clause-tables
sync_blob-requires-2-clause-tables g c =
    let b = c.close_blob.new.self in
    let e = c.close_blob.ensures in
    let le : length b.tables ≤ b.sealed = rw (e.tables, e.keeps.sealed) c.requires.tables.1 in
    (e.table ∙ c.requires.tables.0, le)

pub sync_blob-requires-2-clause-next : goal.sync_blob-requires-2-clause-next
sync_blob-requires-2-clause-next g c =
    let a = c.args.self.now in
    let b = c.close_blob.new.self in
    let e = c.in_ok-close_blob.ensures in
    let hand : IsSome a.blob = rw (sym c.self.view_is) c.if-is_none.ensures in
    let more : length a.blobs < length b.blobs = e.count hand in
    let sealed : b.sealed ≡ a.sealed = e.keeps.sealed in
    let same : length b.tables ≡ length a.tables = ap length e.tables in
    omega (arith, c.requires.order)

pub sync_blob-requires-2-clause-there : goal.sync_blob-requires-2-clause-there
sync_blob-requires-2-clause-there g c = λ shown.
    let hand : IsSome c.args.self.now.blob = rw (sym c.self.view_is) c.if-is_none.ensures in
    (c.in_ok-close_blob.ensures.becomes 0 hand).there shown (c.requires.there shown)

pub returns-clause-becomes : goal.returns-clause-becomes
returns-clause-becomes g c = λ next.
    let a = c.args.self.now in
    let least : length a.tables + length a.blobs ≤ a.sealed = rw (sym c.self.view_is) (omega (arith, c.if-self-len.false, c.len.ensures, c.len-2.ensures, c.self.inside.tables.ok.0, c.self.inside.blobs.ok.0)) in
    let hand : IsSome a.blob = rw (sym c.self.view_is) c.if-is_none.ensures in
    ok_map c.sync_blob-2.result (seals_blob_hand g.S.Site next a c.close_blob.new.self c.sync_blob-2.new.self c.args.site.now c.close_blob.new.site c.sync_blob-2.new.site c.requires.tables.0 hand (omega (arith, c.requires.order, least)) (c.in_ok-close_blob.ensures.becomes next hand))
    (c.sync_blob-2.ensures.becomes next)

pub returns-clause-named : goal.returns-clause-named
returns-clause-named g c = λ o is.
    let hand : IsSome c.args.self.now.blob = rw (sym c.self.view_is) c.if-is_none.ensures in
    ok_to c.sync_blob-2.result (IsSealedAs (next_file (closed_blob o))) (IsSealedAs (next_file o)) (λ r named. blob_as_before o r named)
    (c.sync_blob-2.ensures.named (closed_blob o) ((c.in_ok-close_blob.ensures.becomes 0 hand).out o is))

pub returns-clause-order : goal.returns-clause-order
returns-clause-order g c =
    let a = c.args.self.now in
    let b = c.close_blob.new.self in
    let d = c.sync_blob-2.new.self in
    let e = c.in_ok-close_blob.ensures in
    let hand : IsSome a.blob = rw (sym c.self.view_is) c.if-is_none.ensures in
    let more : length a.blobs < length b.blobs = e.count hand in
    let sealed : b.sealed ≡ a.sealed = e.keeps.sealed in
    let tables : length b.tables ≡ length a.tables = ap length e.tables in
    ok_map c.sync_blob-2.result (λ same.
    let one : d.sealed ≡ b.sealed + 1 = ap (λ (s : State). s.sealed) same in
    let tables_same : length d.tables ≡ length b.tables = ap (λ (s : State). length s.tables) same in
    let blobs_same : length d.blobs ≡ length b.blobs = ap (λ (s : State). length s.blobs) same in
    (ap (λ (s : State). s.table) same ∙ e.table ∙ c.requires.tables.0, omega (arith, c.requires.order))) c.sync_blob-2.ensures.same

pub returns-clause-acts : goal.returns-clause-acts
returns-clause-acts g c =
    let hand : IsSome c.args.self.now.blob = rw (sym c.self.view_is) c.if-is_none.ensures in
    acts_join g.S.Site c.in_ok-close_blob.field-0 c.sync_blob-2.result c.args.self.now c.close_blob.new.self c.sync_blob-2.new.self c.args.site.now c.close_blob.new.site c.sync_blob-2.new.site [] (c.in_ok-close_blob.ensures.becomes 0 hand).certain
    (c.sync_blob-2.ensures.drawn ∙ sym (append-nil c.close_blob.new.self.drawn)) c.in_ok-close_blob.ensures.acts c.sync_blob-2.ensures.acts
