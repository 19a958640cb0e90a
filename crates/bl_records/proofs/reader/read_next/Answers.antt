use Rattle.std.proofs.Common.{◌≡◌, ◌∙◌, ap, arith}
use Rattle.bl_site.specs.Disk.{Disk, folder_of}
use Rattle.bl_log.specs.Reading.{Reading}
use Rattle.bl_code.proofs.Basics.{on_any_err}
use Rattle.bl_records.proofs.FoundLemmas.{next_found, more_wanted, end_told, piece_fed, stays_found, wants_none}
use Rattle.bl_site.proofs.Quiet.{reads_on}
use Rattle.bl_records.proofs.reader.read_next.Goals as goal

pub returns-in_err-payload-clause-err : goal.returns-in_err-payload-clause-err
returns-in_err-payload-clause-err g c = λ shown.
    on_any_err c.from_residual.result _
    (stays_found c.args.name.now (folder_of (g.S.Site.disk c.args.site.now) c.args.name.now) c.args.offset.now c.pieces.offset c.args.reader.now c.pieces.reader c.next.new.self c.in_err-payload.ensures.err (c.pieces.invariant.found shown))

pub returns-in-Found-clause-answers : goal.returns-in-Found-clause-answers
returns-in-Found-clause-answers g c = λ shown found h.
    next_found c.found_records_are_first.ensures c.args.name.now (folder_of (g.S.Site.disk c.args.site.now) c.args.name.now) c.pieces.offset c.pieces.reader c.next.new.self c.in_ok-payload.field-0 c.in-Found.payload c.in-Found.is c.in_ok-payload.ensures.answers c.next.ensures.closed
    found (c.pieces.invariant.found shown found h)

pub returns-in-End-clause-answers : goal.returns-in-End-clause-answers
returns-in-End-clause-answers g c = λ shown found h.
    end_told c.args.name.now (folder_of (g.S.Site.disk c.args.site.now) c.args.name.now) c.pieces.offset c.pieces.reader c.next.new.self c.in_ok-payload.field-0 c.in-End.place c.in-End.cause c.in-End.is c.in_ok-payload.ensures.answers c.next.ensures.closed
    found (c.pieces.invariant.found shown found h)

pub returns-in_err-there-in-NeedMore-clause-err : goal.returns-in_err-there-in-NeedMore-clause-err
returns-in_err-there-in-NeedMore-clause-err g c = λ shown.
    let site = g.S.Site in
    let file = folder_of (site.disk c.args.site.now) c.args.name.now in
    on_any_err c.from_residual-in_err-there-in-NeedMore.result _
    (piece_fed c.args.name.now file (folder_of (site.disk c.pieces.site) c.args.name.now) c.args.offset.now c.pieces.offset c.feed_piece.new.offset c.args.reader.now c.pieces.reader c.next.new.self c.feed_piece.new.reader
    (ap (λ (d : Disk). folder_of d c.args.name.now) (c.pieces.invariant.quiet.stays shown).same) (c.pieces.invariant.found shown)
    (more_wanted c.args.name.now file c.pieces.offset c.pieces.reader c.next.new.self c.in_ok-payload.field-0 c.in-NeedMore.is c.in_ok-payload.ensures.answers c.next.ensures.closed) (c.in_err-there-in-NeedMore.ensures.keeps shown))

pub returns-then-not-there-clause-answers : goal.returns-then-not-there-clause-answers
returns-then-not-there-clause-answers g c = λ shown.
    let site = g.S.Site in
    let file = folder_of (site.disk c.args.site.now) c.args.name.now in
    piece_fed c.args.name.now file (folder_of (site.disk c.pieces.site) c.args.name.now) c.args.offset.now c.pieces.offset c.feed_piece.new.offset c.args.reader.now c.pieces.reader c.next.new.self c.feed_piece.new.reader
    (ap (λ (d : Disk). folder_of d c.args.name.now) (c.pieces.invariant.quiet.stays shown).same) (c.pieces.invariant.found shown)
    (more_wanted c.args.name.now file c.pieces.offset c.pieces.reader c.next.new.self c.in_ok-payload.field-0 c.in-NeedMore.is c.in_ok-payload.ensures.answers c.next.ensures.closed) (c.in_ok-there-in-NeedMore.ensures.keeps shown)

pub pieces-preserved : goal.pieces-preserved
pieces-preserved g c =
    let site = g.S.Site in
    let file = folder_of (site.disk c.args.site.now) c.args.name.now in
    let fed = c.in_ok-there-in-NeedMore.ensures in
    record {
      found = λ shown.
          piece_fed c.args.name.now file (folder_of (site.disk c.pieces.site) c.args.name.now) c.args.offset.now c.pieces.offset c.feed_piece.new.offset c.args.reader.now c.pieces.reader c.next.new.self c.feed_piece.new.reader
          (ap (λ (d : Disk). folder_of d c.args.name.now) (c.pieces.invariant.quiet.stays shown).same) (c.pieces.invariant.found shown)
          (more_wanted c.args.name.now file c.pieces.offset c.pieces.reader c.next.new.self c.in_ok-payload.field-0 c.in-NeedMore.is c.in_ok-payload.ensures.answers c.next.ensures.closed) (fed.keeps shown);
      first = λ none. absurd (omega (arith, none));
      not_ended = λ end is.
          let same : c.pieces.reader ≡ c.args.reader.now = (c.pieces.invariant.first (c.pieces.invariant.not_ended end is)).0 in
          absurd (wants_none c.in_ok-payload.field-0 c.next.new.self c.pieces.reader c.pieces.reader.ended end (ap (λ (r : Reading). r.ended) same ∙ is) c.in-NeedMore.is c.in_ok-payload.ensures.again);
      quiet = reads_on site c.args.site.now c.pieces.site c.feed_piece.new.site c.pieces.invariant.quiet fed.quiet;
    }
