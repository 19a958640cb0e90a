use Rattle.std.proofs.Common.{◌≡◌, ◌+◌, ◌-◌, ◌<◌, ◌*◌, ◌∙◌, ap, sym, arith, drop, Some}
use Rattle.std.proofs.lemmas.List.{drop_all}
use Rattle.std.proofs.lemmas.Grind.{pow_more}
use Rattle.bl_code.specs.Reading.{varint_in}
use Rattle.bl_code.proofs.TakeLemmas.{behind, nothing_left, no_room, turn_ends, turn_goes_on, small_on}
use Rattle.bl_code.proofs.varint.leading_varint.Goals as goal

pub returns-in_err-byte : goal.returns-in_err-byte
returns-in_err-byte c =
    rw c.from_residual.ensures
    (λ place.
    c.loop-i.invariant.reads place
    ∙ ap (λ xs. behind c.loop-i.value c.loop-i.scale (varint_in (c.args.most - c.loop-i.i) (place + c.loop-i.i) xs)) (drop_all c.loop-i.i c.args.bytes.now c.in_err-byte.ensures.lookup.3)
    ∙ ap (behind c.loop-i.value c.loop-i.scale) (nothing_left (c.args.most - c.loop-i.i) (place + c.loop-i.i)))

pub returns-then-byte-lt128 : goal.returns-then-byte-lt128
returns-then-byte-lt128 c =
    let h = c.in_ok-byte.ensures.lookup in (
      omega (arith, h.3.0),
      λ place.
          c.loop-i.invariant.reads place
          ∙ turn_ends c.args.most c.loop-i.i c.loop-i.value c.loop-i.scale c.in_ok-byte.field-0.now place c.args.bytes.now c.loop-i-test.true h.3.0 (h.3.1 0) c.if-byte-lt128.true
          ∙ ap (λ n. Some (c.loop-i.value + n * c.loop-i.scale, record { place = place + (c.loop-i.i + 1); left = drop (c.loop-i.i + 1) c.args.bytes.now })) (sym c.from.ensures),
    )

pub loop-i-preserved : goal.loop-i-preserved
loop-i-preserved c =
    let h = c.in_ok-byte.ensures.lookup in
    let byte : c.in_ok-byte.field-0.now < 256 = omega (arith, h.3.1 0, c.type_inv.bytes c.loop-i.i) in
    record {
      within = omega (arith, h.3.0);
      scale = omega (arith, c.loop-i.invariant.scale, pow_more 128 c.loop-i.i);
      small = rw c.from.ensures (small_on c.loop-i.value c.loop-i.scale c.in_ok-byte.field-0.now c.loop-i.i c.loop-i.invariant.scale c.loop-i.invariant.small);
      reads = λ place.
          rw c.from.ensures
          (c.loop-i.invariant.reads place
          ∙ turn_goes_on c.args.most c.loop-i.i c.loop-i.value c.loop-i.scale c.in_ok-byte.field-0.now place c.args.bytes.now c.loop-i-test.true h.3.0 (h.3.1 0) c.if-byte-lt128.false byte);
    }

pub returns : goal.returns
returns c = λ place.
    let none : c.args.most - c.loop-i.i ≡ 0 = omega arith in
    c.loop-i.invariant.reads place
    ∙ ap (λ k. behind c.loop-i.value c.loop-i.scale (varint_in k (place + c.loop-i.i) (drop c.loop-i.i c.args.bytes.now))) none
    ∙ ap (behind c.loop-i.value c.loop-i.scale) (no_room (place + c.loop-i.i) (drop c.loop-i.i c.args.bytes.now))
