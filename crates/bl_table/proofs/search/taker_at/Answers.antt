use Rattle.bl_table.proofs.SearchLemmas.{skipped}
use Rattle.bl_table.proofs.search.taker_at.Goals as goal

pub returns : goal.returns
returns c = skipped _ c.args.bytes.now c.over-taker.result c.take_bytes-passed.new.self c.args.place c.over-taker.ensures c.requires c.take_bytes-passed.ensures
