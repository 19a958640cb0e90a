-- What `judge` answers, exit by exit.
use Rattle.std.proofs.Common.{◌≡◌, ◌∙◌, ap, arith, ◌+◌, ◌<◌, ◌-◌, ◌∷◌, ◌⊎◌, inl, inr, sym, take, drop}
use Rattle.bl_code.specs.Crc.{crc32c, mask_of}
use Rattle.bl_log.specs.Log.{Ends, room, size_at, sum_at, type_at, payload_at, typed, joined}
use Rattle.bl_log.proofs.JudgeLemmas.{head_of, ends_filler, ends_empty, ends_short, ends_past, is_typed, no_part, some_part, typed_cut, typed_crc, typed_whole, is_none, is_some_byte, joined_is}
use Rattle.bl_log.proofs.judge.judge.Goals as goal
use Rattle.bl_log.proofs.judge.judge.Goals.{then-room-lt-HEAD-via-then-room-lt-HEAD, then-room-lt-HEAD-via-else-room-lt-HEAD+then-is_empty, then-kind-eq0-via-then-kind-eq0, then-kind-eq0-via-else-kind-eq0+then-kind-gt4}

pub returns-then-room-lt-HEAD-clause-stands : goal.returns-then-room-lt-HEAD-clause-stands
returns-then-room-lt-HEAD-clause-stands c = λ half same.
    let why = ap Ends (sym (c.at_end.ensures half same)) in
    elim c.then-room-lt-HEAD.branch [
      | then-room-lt-HEAD-via-then-room-lt-HEAD w ↦
          let small : room c.args.place < 7 = omega (arith, c.room_at-room.ensures, w.if-room-lt-HEAD.true) in
          elim c.requires [
            | inl roomy ↦ absurd (omega arith)
            | inr ends ↦ ends_filler c.args.place half c.args.held.now small ends ∙ why
          ]
      | then-room-lt-HEAD-via-else-room-lt-HEAD+then-is_empty w ↦
          ends_empty c.args.place half c.args.held.now (is_none _ (sym w.is_empty.ensures ∙ w.if-is_empty.true)) ∙ why
    ]

pub returns-then-held-lt-HEAD-clause-stands : goal.returns-then-held-lt-HEAD-clause-stands
returns-then-held-lt-HEAD-clause-stands c = λ half same.
    ends_short c.args.place half c.args.held.now (omega arith) (is_some_byte _ (sym c.is_empty.ensures ∙ c.if-is_empty.false)) c.if-held-lt-HEAD.true

pub returns-then-room-size-clause-stands : goal.returns-then-room-size-clause-stands
returns-then-room-size-clause-stands c = λ half same.
    let size : c.from-size.result ≡ size_at c.args.held.now = c.from-size.ensures ∙ c.from_le_bytes.ensures ∙ (head_of c.args.held.now c.if-held-lt-HEAD.false).size in
    ends_past c.args.place half c.args.held.now (omega arith) c.if-held-lt-HEAD.false (omega arith)

pub returns-then-kind-eq0-clause-stands : goal.returns-then-kind-eq0-clause-stands
returns-then-kind-eq0-clause-stands c = λ half same.
    let size : c.from-size.result ≡ size_at c.args.held.now = c.from-size.ensures ∙ c.from_le_bytes.ensures ∙ (head_of c.args.held.now c.if-held-lt-HEAD.false).size in
    let other : (type_at c.args.held.now ≡ 0) ⊎ (4 < type_at c.args.held.now) = elim c.then-kind-eq0.branch [
      | then-kind-eq0-via-then-kind-eq0 w ↦ inl w.if-kind-eq0.true
      | then-kind-eq0-via-else-kind-eq0+then-kind-gt4 w ↦ inr w.if-kind-gt4.true
    ] in
    is_typed c.args.place half c.args.held.now c.if-held-lt-HEAD.false (omega arith) ∙ ap (λ p. typed p half c.args.held.now) (no_part (type_at c.args.held.now) other)

pub returns-then-held-size-clause-stands : goal.returns-then-held-size-clause-stands
returns-then-held-size-clause-stands c = λ half same.
    let size : c.from-size.result ≡ size_at c.args.held.now = c.from-size.ensures ∙ c.from_le_bytes.ensures ∙ (head_of c.args.held.now c.if-held-lt-HEAD.false).size in
    let part = some_part (type_at c.args.held.now) c.if-kind-eq0.false c.if-kind-gt4.false in
    is_typed c.args.place half c.args.held.now c.if-held-lt-HEAD.false (omega arith) ∙ ap (λ p. typed p half c.args.held.now) part.1
    ∙ typed_cut part.0 half c.args.held.now (omega arith)

pub returns-then-sum-sum_of-clause-stands : goal.returns-then-sum-sum_of-clause-stands
returns-then-sum-sum_of-clause-stands c = λ half same.
    let head = head_of c.args.held.now c.if-held-lt-HEAD.false in
    let size : c.from-size.result ≡ size_at c.args.held.now = c.from-size.ensures ∙ c.from_le_bytes.ensures ∙ head.size in
    let part = some_part (type_at c.args.held.now) c.if-kind-eq0.false c.if-kind-gt4.false in
    let whole : 7 + c.from-size.result - 7 ≡ size_at c.args.held.now = omega arith in
    let sum : c.from_le_bytes-sum.result ≡ sum_at c.args.held.now = c.from_le_bytes-sum.ensures ∙ head.sum in
    let made : c.sum_of.result ≡ mask_of (crc32c (type_at c.args.held.now ∷ payload_at c.args.held.now)) =
    c.sum_of.ensures ∙ ap (λ k. mask_of (crc32c (type_at c.args.held.now ∷ take k (drop 7 c.args.held.now)))) whole in
    is_typed c.args.place half c.args.held.now c.if-held-lt-HEAD.false (omega arith) ∙ ap (λ p. typed p half c.args.held.now) part.1
    ∙ typed_crc part.0 half c.args.held.now (omega arith) (λ e. c.if-sum-sum_of.true (sum ∙ e ∙ sym made))

pub returns-in-Some-clause-stands : goal.returns-in-Some-clause-stands
returns-in-Some-clause-stands c = λ half same.
    let head = head_of c.args.held.now c.if-held-lt-HEAD.false in
    let size : c.from-size.result ≡ size_at c.args.held.now = c.from-size.ensures ∙ c.from_le_bytes.ensures ∙ head.size in
    let part = some_part (type_at c.args.held.now) c.if-kind-eq0.false c.if-kind-gt4.false in
    let whole : 7 + c.from-size.result - 7 ≡ size_at c.args.held.now = omega arith in
    let sum : c.from_le_bytes-sum.result ≡ sum_at c.args.held.now = c.from_le_bytes-sum.ensures ∙ head.sum in
    let made : c.sum_of.result ≡ mask_of (crc32c (type_at c.args.held.now ∷ payload_at c.args.held.now)) =
    c.sum_of.ensures ∙ ap (λ k. mask_of (crc32c (type_at c.args.held.now ∷ take k (drop 7 c.args.held.now)))) whole in
    is_typed c.args.place half c.args.held.now c.if-held-lt-HEAD.false (omega arith) ∙ ap (λ p. typed p half c.args.held.now) part.1
    ∙ typed_whole part.0 half c.args.held.now (omega arith) (sym sum ∙ c.if-sum-sum_of.false ∙ made)
    ∙ ap (λ k. joined part.0 half (take k (drop 7 c.args.held.now)) (7 + k)) (sym size)
    ∙ joined_is (type_at c.args.held.now) part.0 half (take c.from-size.result (drop 7 c.args.held.now)) (7 + c.from-size.result) _ part.1 (c.in-Some.ensures half (take c.from-size.result (drop 7 c.args.held.now)) (7 + c.from-size.result) same)

pub returns-in-None-clause-stands : goal.returns-in-None-clause-stands
returns-in-None-clause-stands c = λ half same.
    let head = head_of c.args.held.now c.if-held-lt-HEAD.false in
    let size : c.from-size.result ≡ size_at c.args.held.now = c.from-size.ensures ∙ c.from_le_bytes.ensures ∙ head.size in
    let part = some_part (type_at c.args.held.now) c.if-kind-eq0.false c.if-kind-gt4.false in
    let whole : 7 + c.from-size.result - 7 ≡ size_at c.args.held.now = omega arith in
    let sum : c.from_le_bytes-sum.result ≡ sum_at c.args.held.now = c.from_le_bytes-sum.ensures ∙ head.sum in
    let made : c.sum_of.result ≡ mask_of (crc32c (type_at c.args.held.now ∷ payload_at c.args.held.now)) =
    c.sum_of.ensures ∙ ap (λ k. mask_of (crc32c (type_at c.args.held.now ∷ take k (drop 7 c.args.held.now)))) whole in
    is_typed c.args.place half c.args.held.now c.if-held-lt-HEAD.false (omega arith) ∙ ap (λ p. typed p half c.args.held.now) part.1
    ∙ typed_whole part.0 half c.args.held.now (omega arith) (sym sum ∙ c.if-sum-sum_of.false ∙ made)
    ∙ joined_is (type_at c.args.held.now) part.0 half (payload_at c.args.held.now) (7 + size_at c.args.held.now) _ part.1 (c.in-None.ensures half (payload_at c.args.held.now) (7 + size_at c.args.held.now) same)
