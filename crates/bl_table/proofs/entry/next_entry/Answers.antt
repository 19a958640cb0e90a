use Rattle.std.proofs.Common.{◌≡◌, ◌∙◌, ap, arith, ◌++◌, take}
use Rattle.bl_table.specs.Steps.{head_of}
use Rattle.bl_table.proofs.CellLemmas.{no_head, no_suffix, no_value, no_shared, a_cell}
use Rattle.bl_table.proofs.MoveLemmas.{moves_then, moves_less, bytes_move}
use Rattle.bl_table.proofs.entry.next_entry.Goals as goal

pub returns-in_default-clause-entry : goal.returns-in_default-clause-entry
returns-in_default-clause-entry c = no_head c.args.before.now c.args.taker.now c.in_default.ensures.head

pub returns-in_default-take_bytes-clause-entry : goal.returns-in_default-take_bytes-clause-entry
returns-in_default-take_bytes-clause-entry c =
    no_suffix c.args.before.now c.args.taker.now c.take_lengths.new.taker (head_of c.in-Some.lengths) c.in-Some.ensures.head (rw c.from.ensures at c.in_default-take_bytes.ensures).0

pub returns-in_default-take_bytes-2-clause-entry : goal.returns-in_default-take_bytes-2-clause-entry
returns-in_default-take_bytes-2-clause-entry c =
    no_value c.args.before.now _ c.args.taker.now c.take_lengths.new.taker _ (head_of c.in-Some.lengths) c.in-Some.ensures.head (rw c.from.ensures at c.in-Some-take_bytes.ensures) (rw c.from-2.ensures at c.in_default-take_bytes-2.ensures).0

pub returns-then-shared-before-clause-entry : goal.returns-then-shared-before-clause-entry
returns-then-shared-before-clause-entry c =
    no_shared c.args.before.now _ _ c.args.taker.now c.take_lengths.new.taker _ _ (head_of c.in-Some.lengths) c.in-Some.ensures.head (rw c.from.ensures at c.in-Some-take_bytes.ensures) (rw c.from-2.ensures at c.in-Some-take_bytes-2.ensures)
    c.if-shared-before.true

pub returns-clause-entry : goal.returns-clause-entry
returns-clause-entry c =
    let e : c.place-place.result ≡ c.args.taker.now.place = c.place-place.ensures in
    let key : c.extend_from_slice-2.new.self.items ≡ take c.in-Some.lengths.shared c.args.before.now ++ c.in-Some-take_bytes.suffix.now =
    c.in_ok-extend_from_slice-2.ensures.items ∙ ap (λ k. k ++ c.in-Some-take_bytes.suffix.now) (c.in_ok-extend_from_slice.ensures.items ∙ ap (λ k. k ++ take c.in-Some.lengths.shared c.args.before.now) c.clear.ensures.items) in
    rw e (a_cell c.args.before.now _ c.in-Some-take_bytes-2.value.now c.extend_from_slice-2.new.self.items c.args.taker.now c.take_lengths.new.taker _ c.take_bytes-2.new.self (head_of c.in-Some.lengths) c.in-Some.ensures.head
    (rw c.from.ensures at c.in-Some-take_bytes.ensures) (rw c.from-2.ensures at c.in-Some-take_bytes-2.ensures) c.if-shared-before.false key)

pub returns-clause-moves : goal.returns-clause-moves
returns-clause-moves c =
    let suffix = bytes_move _ c.take_lengths.new.taker c.take_bytes.new.self c.in-Some-take_bytes.suffix.now c.in-Some-take_bytes.ensures in
    let value = bytes_move _ c.take_bytes.new.self c.take_bytes-2.new.self c.in-Some-take_bytes-2.value.now c.in-Some-take_bytes-2.ensures in
    moves_less 3 _ _ _ (omega arith) (moves_then _ _ _ _ _ c.in-Some.ensures.moves (moves_then _ _ _ _ _ suffix value))
