use Rattle.std.proofs.Common.{◌≡◌, ◌∙◌, ap, sym, subst, refl, arith, ◌+◌, ◌*◌, ◌%◌, ◌^◌, length}
use Rattle.bl_table.specs.contracts.builder.TableBuilder.{the_view}
use Rattle.bl_table.specs.Spelling.{with_trailer, handle}
use Rattle.bl_table.specs.Building.{Writing, Building, HasAdded, item, written, block_of}
use Rattle.bl_table.proofs.BuildLemmas.{adds_hand, adds_block}
use Rattle.bl_table.proofs.builder.TableBuilder.add.Goals as goal

pub returns-then-size-lt-COMPLETE-clause-added : goal.returns-then-size-lt-COMPLETE-clause-added
returns-then-size-lt-COMPLETE-clause-added c = λ items given added.
    let P : Building → Type 0 = λ b. HasAdded items given b in
    let ok = c.in_ok-mark.ensures.ok.0 in
    adds_hand items given c.from_vec.result (the_view c.self.inside) _ (item c.args.key.now c.args.value.now) c.size.result
    (c.size.ensures ∙ ap (λ (w : Writing). length w.bytes + 4 * length w.restarts + 4) ok) c.if-size-lt-COMPLETE.true (c.from_vec.ensures ∙ c.new.ensures.items)
    (ap (λ (w : Writing). record (the_view c.self.inside) { block = w }) ok) (subst P (sym c.self.view_is) added)

pub returns-in-Ok-clause-added : goal.returns-in-Ok-clause-added
returns-in-Ok-clause-added c = λ items given added.
    let P : Building → Type 0 = λ b. HasAdded items given b in
    let ok = c.in_ok-mark.ensures.ok.0 in
    let bytes : c.from_vec-in-Ok.result ≡ c.in-Ok.bytes.items = c.from_vec-in-Ok.ensures in
    let n : c.len.result ≡ length c.from_vec-in-Ok.result = let m = ap length bytes in omega (arith, c.len.ensures, c.in-Ok.bytes.ok) in
    adds_block items given c.from_vec-in-Ok.result (the_view c.self.inside) _ (item c.args.key.now c.args.value.now) c.size.result _ c.close_block.new.index c.clear.new.self
    (c.size.ensures ∙ ap (λ (w : Writing). length w.bytes + 4 * length w.restarts + 4) ok) c.if-size-lt-COMPLETE.false
    (bytes ∙ c.in-Ok.ensures.bytes ∙ ap (λ (w : Writing). with_trailer (block_of w)) ok)
    (c.in-Ok.ensures.index.0 ∙ ap (λ (w : Writing). written c.self.inside.index (item c.args.key.now (handle c.self.inside.offset (length (block_of w))))) ok)
    c.clear.ensures (ap (λ k. (c.self.inside.offset + k) % 2 ^ 64) n) refl (subst P (sym c.self.view_is) added)
