use Rattle.std.proofs.Common.{take, ◌-◌, false, arith, ◌≡◌, ◌≤◌, ◌∙◌, ℕ, List, ap, sym, subst, refl, length}
use Rattle.bl_log.specs.contracts.reader.LogReader.{the_view}
use Rattle.bl_log.specs.Reading.{Reading, HasRead}
use Rattle.bl_log.proofs.ReaderLemmas.{fed_more, moved_front, drop_more}
use Rattle.bl_log.proofs.reader.LogReader.feed.Goals as goal
use Rattle.bl_log.proofs.reader.LogReader.feed.Goals.{then-kept-self, else-kept-self}

same : (c : goal.In_ok-extend_from_slice) → the_view c.if-kept-self.self-inside ≡ c.args.self.now
same c = elim c.if-kept-self.branch [
  | then-kept-self w ↦
      let inside = c.self.inside in
      ap the_view w.self-inside-is
      ∙ ap (λ (held : List ℕ). record (the_view inside) { held = held })
      (moved_front inside.held.items w.copy_within.new.self.items w.truncate.new.self.items inside.at.read inside.held.len (omega (arith, inside.held.ok)) (omega (arith, inside.held.ok)) w.copy_within.ensures.items
      (w.truncate.ensures.items ∙ ap (λ n. take (n - inside.at.read) w.copy_within.new.self.items) c.len.ensures))
      ∙ c.self.view_is
  | else-kept-self w ↦ ap the_view w.self-inside-is ∙ c.self.view_is
]

within : (c : goal.In_ok-extend_from_slice) → c.if-kept-self.self-inside.at.read ≤ length c.if-kept-self.self-inside.held.items
within c = elim c.if-kept-self.branch [
  | then-kept-self w ↦ rw w.self-inside-is (omega arith)
  | else-kept-self w ↦ rw w.self-inside-is c.self.invariant.0
]

pub returns-clause-reads : goal.returns-clause-reads
returns-clause-reads c = λ fed found reads.
    let old = the_view c.if-kept-self.self-inside in
    let P : Reading → Type 0 = λ r. HasRead fed found r in
    let Q : Reading → Type 0 = λ r. r.closed ≡ false in
    fed_more fed c.args.bytes.now _ found old _ (subst Q (sym (same c)) c.requires)
    (drop_more c.if-kept-self.self-inside.held.items c.args.bytes.now c.extend_from_slice.new.self.items c.if-kept-self.self-inside.at.read (within c) c.in_ok-extend_from_slice.ensures.items) refl (subst P (sym (same c)) reads)
