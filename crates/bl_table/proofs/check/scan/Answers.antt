use Rattle.std.proofs.Common.{◌≡◌, ◌∙◌, ap, sym, subst, refl, arith, length, length-take-le, ◌≤◌, true, false, ℕ, List, Vec, Global}
use Rattle.bl_code.specs.Reading.{Input}
use Rattle.bl_table.specs.Steps.{cell_read, before_at}
use Rattle.bl_table.specs.Blocks.{stands_behind}
use Rattle.bl_table.proofs.MoveLemmas.{moves_total}
use Rattle.bl_table.proofs.ScanLemmas.{Scanning, scan_begins, scan_stops, scan_short, scan_misplaced, scan_goes_on, scan_ends}
use Rattle.bl_table.proofs.check.scan.Goals as goal

pub entries-init : goal.entries-init
entries-init c =
    let place : c.over-taker.result.place ≡ 0 = ap (λ (i : Input). i.place) c.over-taker.ensures in
    let left : length c.over-taker.result.left ≡ c.args.limit = ap (λ (i : Input). length i.left) c.over-taker.ensures ∙ length-take-le c.args.limit c.args.bytes.now (omega arith) in
    record {
      total = omega arith;
      passed = omega arith;
      long = λ some. absurd (omega arith);
      scanning = scan_begins c.args.offset c.args.limit c.args.count c.args.bytes.now c.new-before.result.items c.over-taker.result c.requires.some c.over-taker.ensures c.new-before.ensures.items;
    }

pub returns-in_default : goal.returns-in_default
returns-in_default c =
    scan_stops c.args.offset c.args.limit c.args.count c.entries.passed c.place-place.result c.args.bytes.now c.entries.before.items c.entries.taker c.entries.invariant.scanning (omega (arith, c.left.ensures, c.entries-test.true))
    (rw (c.in_default.is, c.deref.ensures.value) at c.in_ok-entry.ensures.entry) c.place-place.ensures

pub returns-then-len-lt9 : goal.returns-then-len-lt9
returns-then-len-lt9 c =
    let same = c.place-place.ensures ∙ sym (rw c.in-Some.is at c.in_ok-entry.ensures.place) in
    scan_short c.args.offset c.args.limit c.args.count c.entries.passed c.place-place.result c.args.bytes.now c.entries.before.items c.entries.taker c.next_entry.new.taker (cell_read c.in-Some.entry c.next_entry.new.key.items)
    c.entries.invariant.scanning (omega (arith, c.left.ensures, c.entries-test.true)) (rw (c.in-Some.is, c.deref.ensures.value) at c.in_ok-entry.ensures.entry) (omega (arith, c.len.ensures, c.next_entry.new.key.ok)) same

pub returns-then-not-stands_behind : goal.returns-then-not-stands_behind
returns-then-not-stands_behind c =
    let same = c.place-place.ensures ∙ sym (rw c.in-Some.is at c.in_ok-entry.ensures.place) in
    let wrong : stands_behind (before_at c.entries.taker.place c.entries.before.items) c.next_entry.new.key.items ≡ false =
    sym (rw (c.deref-in-entries.ensures.value, c.deref-in-entries-2.ensures.value, c.place-place.ensures) at c.if-not-stands_behind.ensures) in
    scan_misplaced c.args.offset c.args.limit c.args.count c.entries.passed c.place-place.result c.args.bytes.now c.entries.before.items c.entries.taker c.next_entry.new.taker (cell_read c.in-Some.entry c.next_entry.new.key.items)
    c.entries.invariant.scanning (omega (arith, c.left.ensures, c.entries-test.true)) (rw (c.in-Some.is, c.deref.ensures.value) at c.in_ok-entry.ensures.entry) (omega (arith, c.len.ensures, c.next_entry.new.key.ok)) wrong same

pub entries-preserved : goal.entries-preserved
entries-preserved c =
    let same = rw c.in-Some.is at c.in_ok-entry.ensures.place in
    let moves = rw c.in-Some.is at c.in_ok-entry.ensures.moves in
    let right : stands_behind (before_at c.entries.taker.place c.entries.before.items) c.next_entry.new.key.items ≡ true =
    sym (rw (c.deref-in-entries.ensures.value, c.deref-in-entries-2.ensures.value, c.place-place.ensures) at c.if-not-stands_behind.ensures) in
    let key : c.swap.new.x.items ≡ c.next_entry.new.key.items = ap (λ (v : Vec ℕ Global). v.items) c.swap.ensures.x_after in
    let long : 9 ≤ length c.next_entry.new.key.items = omega (arith, c.len.ensures, c.next_entry.new.key.ok) in
    let P : List ℕ → Type 0 = λ k. Scanning c.args.offset c.args.limit c.args.count c.args.bytes.now c.next_entry.new.taker k c.passed_behind-passed.result in
    let Q : List ℕ → Type 0 = λ k. 9 ≤ length k in
    record {
      total = moves_total 3 c.entries.taker c.next_entry.new.taker moves ∙ c.entries.invariant.total;
      passed = c.passed_behind-passed.ensures.more.1;
      long = λ some. subst Q (sym key) long;
      scanning = subst P (sym key)
          (scan_goes_on c.args.offset c.args.limit c.args.count c.entries.passed c.passed_behind-passed.result c.args.bytes.now c.entries.before.items c.entries.taker c.next_entry.new.taker (cell_read c.in-Some.entry c.next_entry.new.key.items)
          c.entries.invariant.scanning (omega (arith, c.left.ensures, c.entries-test.true)) (rw (c.in-Some.is, c.deref.ensures.value) at c.in_ok-entry.ensures.entry) long right moves
          (λ cells. c.passed_behind-passed.ensures.left (cell_read c.in-Some.entry c.next_entry.new.key.items) cells (same ∙ sym c.place-place.ensures) refl));
    }

pub returns : goal.returns
returns c =
    (c.entries.invariant.passed, scan_ends c.args.offset c.args.limit c.args.count c.entries.passed c.args.bytes.now c.entries.before.items c.entries.taker c.entries.invariant.scanning (omega (arith, c.left.ensures, c.entries-test.false)))
