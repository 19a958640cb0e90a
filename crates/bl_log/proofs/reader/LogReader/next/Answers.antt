use Rattle.std.proofs.Common.{◌≡◌, ◌∙◌, ap, sym, subst, refl, inl, inr, true, ◌⊎◌}
use Rattle.bl_log.specs.contracts.reader.LogReader.{the_view}
use Rattle.bl_log.specs.Reading.{Reading, HasRead}
use Rattle.bl_log.specs.Judge.{IsOpen}
use Rattle.bl_log.proofs.ReaderLemmas.{finds_next, wants_more, has_ended, handed_out}
use Rattle.bl_log.proofs.reader.LogReader.next.Goals as goal
use Rattle.bl_log.proofs.reader.LogReader.next.Goals.{else-not-self-via-then-not-self+else-is_open, else-not-self-via-else-not-self}

pub returns-then-is_open-clause-answers : goal.returns-then-is_open-clause-answers
returns-then-is_open-clause-answers c = λ fed found reads.
    let P : Reading → Type 0 = λ r. HasRead fed found r in
    let seeks = rw (c.in-Ok-Stands.field-0-is, c.as_slice.ensures.value) at c.in-Ok-Stands.ensures.ok in
    wants_more fed found (the_view c.self.inside) _ c.in-Ok-Stands.place c.in-Ok-Stands.cause (subst P (sym c.self.view_is) reads) seeks.0 c.in_default.is seeks.1 c.if-not-self.true (c.if-is_open.ensures.0 refl)

pub returns-in-Ok-Record-clause-answers : goal.returns-in-Ok-Record-clause-answers
returns-in-Ok-Record-clause-answers c = λ fed found reads.
    let P : Reading → Type 0 = λ r. HasRead fed found r in
    let seeks = rw (c.in-Ok-Record.field-0-is, c.as_slice.ensures.value) at c.in-Ok-Record.ensures.ok in
    finds_next c.from_vec.result fed found (the_view c.self.inside) _ (subst P (sym c.self.view_is) reads)
    (handed_out _ _ _ _ _ c.seek.new.half.items _ c.from_vec.result c.seek.new.at.begun seeks.1 (c.from_vec.ensures ∙ ap (λ v. v.items) c.replace-found.ensures.value) seeks.0) c.in_default.is

pub returns-else-not-self-clause-answers : goal.returns-else-not-self-clause-answers
returns-else-not-self-clause-answers c = λ fed found reads.
    let P : Reading → Type 0 = λ r. HasRead fed found r in
    let seeks = rw (c.in-Ok-Stands.field-0-is, c.as_slice.ensures.value) at c.in-Ok-Stands.ensures.ok in
    let why : (c.self.inside.closed ≡ true) ⊎ (IsOpen c.in-Ok-Stands.cause → ⊥) = elim c.else-not-self.branch [
      | else-not-self-via-then-not-self+else-is_open w ↦ inr (λ open_cause. let t = w.is_open.ensures.1 open_cause in let f = w.if-is_open.false in cc)
      | else-not-self-via-else-not-self w ↦ inl w.if-not-self.false
    ] in
    has_ended fed found (the_view c.self.inside) _ c.in-Ok-Stands.place c.in-Ok-Stands.cause (subst P (sym c.self.view_is) reads) seeks.0 seeks.1 refl why
