use Rattle.std.proofs.Common.{◌≡◌, ◌+◌, suc, sym, ◌∙◌, ap, arith}
use Rattle.std.specs.Prelude.{Some, slice_get}
use Rattle.std.specs.Option.{option_copied}
use Rattle.bl_entry.specs.Entries.{first_at}
use Rattle.bl_read.proofs.MemoryLemmas.{at_next, at_none, at_start, at_told, first_place, told}
use Rattle.bl_read.proofs.first.first_in_memory.Goals as goal

pub entries-init : goal.entries-init
entries-init c =
    let first = first_at c.args.from.now c.args.memory.now in
    let zero : first + 0 ≡ first = omega arith in
    record {
      at = c.after-at.ensures ∙ first_place c.args.from.now c.args.memory.now ∙ sym (ap (slice_get c.args.memory.now) zero);
      found = at_start c.args.bound.now c.args.seq c.args.from.now c.args.memory.now c.requires c.ascends.ensures.keys (first + 0) zero;
    }

pub returns-in_err-entry : goal.returns-in_err-entry
returns-in_err-entry c =
    let place = first_at c.args.from.now c.args.memory.now + c.entries._entry in
    ap option_copied c.from_residual.ensures
    ∙ at_none c.args.bound.now c.args.seq c.args.from.now c.args.memory.now place c.entries.invariant.found (sym c.entries.invariant.at ∙ ap option_copied c.in_err-entry.was)

pub returns-then-tells : goal.returns-then-tells
returns-then-tells c =
    let place = first_at c.args.from.now c.args.memory.now + c.entries._entry in
    at_told c.args.bound.now c.args.seq c.args.from.now c.args.memory.now place c.in_ok-entry.entry.now c.entries.invariant.found (sym c.entries.invariant.at ∙ ap option_copied c.in_ok-entry.was) (sym c.tells.ensures ∙ c.if-tells.true)

pub entries-preserved : goal.entries-preserved
entries-preserved c =
    let place = first_at c.args.from.now c.args.memory.now + c.entries._entry in
    let more : first_at c.args.from.now c.args.memory.now + (c.entries._entry + 1) ≡ suc place = omega arith in
    let here : slice_get c.args.memory.now place ≡ Some c.in_ok-entry.entry.now = sym c.entries.invariant.at ∙ ap option_copied c.in_ok-entry.was in
    record {
      at = c.after-at-in-entries.ensures ∙ c.after_is_next.ensures.at c.args.memory.now place c.in_ok-entry.entry.now c.ascends.ensures.ascending here ∙ sym (ap (slice_get c.args.memory.now) more);
      found =
          at_next c.args.bound.now c.args.seq c.args.from.now c.args.memory.now place c.in_ok-entry.entry.now c.entries.invariant.found here (sym c.tells.ensures ∙ c.if-tells.false)
          ∙ sym (ap (told c.args.bound.now c.args.seq c.args.from.now c.args.memory.now) more);
    }
