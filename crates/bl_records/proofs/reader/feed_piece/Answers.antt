use Rattle.std.proofs.Common.{arith}
use Rattle.bl_records.proofs.FoundLemmas.{at_some, closes, feeds}
use Rattle.bl_records.proofs.reader.feed_piece.Goals as goal

pub returns-then-count-eq0-clause-keeps : goal.returns-then-count-eq0-clause-keeps
returns-then-count-eq0-clause-keeps g c = λ shown.
    closes c.args.name.now (g.S.Site.disk c.args.site.now c.args.name.now) c.read_at.new.into c.args.offset.now c.in-Some.count c.args.reader.now c.close.new.self
    (omega (arith, c.requires.some)) c.if-count-eq0.true (at_some c.in_ok-count.field-0 c.in-Some.count _ _ c.in-Some.is (c.in_ok-count.ensures.value shown)) c.close.ensures.reads

pub returns-clause-keeps : goal.returns-clause-keeps
returns-clause-keeps g c = λ shown.
    feeds c.args.name.now (g.S.Site.disk c.args.site.now c.args.name.now) c.read_at.new.into c.args.offset.now c.in-Some-checked_add.next c.in-Some.count c.args.reader.now c.feed.new.self
    (omega (arith, c.in-Some-checked_add.ensures)) (at_some c.in_ok-count.field-0 c.in-Some.count _ _ c.in-Some.is (c.in_ok-count.ensures.value shown)) c.in_ok-feed.ensures.rest.0 c.in_ok-feed.ensures.reads
