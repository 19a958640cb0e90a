use Rattle.std.proofs.Common.{◌≡◌, ◌∙◌, sym, ap, ℕ, ◌≤◌, ◌-◌, List, ◌++◌, ◌+◌, take, drop, length, min, arith, take-append-drop}
use Rattle.std.proofs.lemmas.List.{length-take, take-take, drop-drop}
use Rattle.bl_site_mem.specs.Supply.{Supply}
use Rattle.bl_site_mem.proofs.source.MemSourceSource.read.Goals as goal

-- what was copied, and what is left, is what was there
handed_out : (at most all count : ℕ) (bytes into : List ℕ) → take count into ≡ take count (take most (take all (drop at bytes))) → count ≡ min (length into) (length (take most (take all (drop at bytes))))
    → drop at bytes ≡ take count into ++ drop (at + count) bytes
handed_out at most all count bytes into copied is =
    let below_most : count ≤ most = omega (arith, length-take most (take all (drop at bytes))) in
    let below_all : count ≤ all = omega (arith, length-take most (take all (drop at bytes)), length-take all (drop at bytes)) in
    sym (take-append-drop count (drop at bytes))
    ∙ ap (λ (l : List ℕ). l ++ drop count (drop at bytes)) (sym (copied ∙ take-take count most (take all (drop at bytes)) below_most ∙ take-take count all (drop at bytes) below_all))
    ∙ ap (λ (l : List ℕ). take count into ++ l) (drop-drop count at bytes)

pub returns-clause-bytes : goal.returns-clause-bytes
returns-clause-bytes c =
    let at = c.self.inside.at in
    let most = c.min-most.result in
    let all = length c.deref-2.result.now - at in
    let count = c.copy_front-count.result in
    let into = c.copy_front-count.new.into in
    ap (λ (s : Supply). s.left) (sym c.self.view_is) ∙
    handed_out at most all count c.self.inside.bytes.items into
    (c.copy_front-count.ensures.copied ∙ ap (λ (bytes : List ℕ). take count (take most (take all (drop at bytes)))) c.deref-2.ensures.value)
    (c.copy_front-count.ensures.count ∙ ap (λ (bytes : List ℕ). min (length into) (length (take most (take all (drop at bytes))))) c.deref-2.ensures.value)
