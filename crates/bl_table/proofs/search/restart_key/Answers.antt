use Rattle.bl_table.specs.Steps.{head_of}
use Rattle.bl_table.proofs.SearchLemmas.{no_key, key_is, copied_is}
use Rattle.bl_table.proofs.search.restart_key.Goals as goal

pub returns-in_default : goal.returns-in_default
returns-in_default c = λ cell behind e. absurd (no_key c.args.bytes.now c.args.place cell behind (rw c.taker_at-taker.ensures at c.in_default.ensures.head) e)

pub returns : goal.returns
returns c = λ cell behind e.
    copied_is c.take_bytes.result cell.key (key_is c.args.bytes.now c.args.place cell behind c.take_lengths.new.taker c.take_bytes.new.self (head_of c.in-Some.lengths) _ (rw c.taker_at-taker.ensures at c.in-Some.ensures.head) (rw c.from.ensures at c.take_bytes.ensures) e)
