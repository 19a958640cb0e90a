use Rattle.std.proofs.Common.{◌≡◌, ◌∙◌, ℕ, ◌+◌, ◌-◌, ◌<◌, Bool, true, false, List, [], length, take, ◌≤◌, arith, rules, get_or, subst, sym, ap, Some}
use Rattle.std.specs.Borrow.{Bor}
use Rattle.std.specs.Prelude.{map}
use Rattle.std.specs.List.{list_any}
use Rattle.std.specs.List.Sorted.{IsPermutation}
use Rattle.std.proofs.lemmas.Bool.{false≢true}
use Rattle.std.proofs.lemmas.List.Sorted.{IsPermutation-map, list_any-IsPermutation}
use Rattle.bl_edit.specs.declared.edit.NewTable.{NewTable}
use Rattle.bl_build.specs.Fronts.{covers}
use Rattle.bl_build.specs.Versions.{clash, first_overlap}
use Rattle.bl_build.proofs.Clashing.{reordered}
use Rattle.bl_build.proofs.Fronting.{Builds, Descends, apart_by, builds_all, not_apart, now_of, push_now, skip_now, sorted_later, stopped_at}
use Rattle.bl_build.proofs.Placing.{take_whole}
use Rattle.bl_build.proofs.overlap.are_apart.Goals as goal
use Rattle.bl_build.proofs.overlap.are_apart.Goals.{then-not-is_covered+in_ok-push-2, else-not-is_covered}

-- the added tables, and the same ones sorted
the_same : (added : List NewTable) (before after seen : List (Bor NewTable)) (i : ℕ) → map now_of before ≡ take i added → length added ≤ i → IsPermutation before after → seen ≡ after → IsPermutation added (map now_of seen)
the_same added before after seen i made all p e =
    let whole : map now_of before ≡ added = made ∙ take_whole added i all in
    subst (λ (ts : List (Bor NewTable)). IsPermutation added (map now_of ts)) (sym e)
    (subst (λ (ts : List NewTable). IsPermutation ts (map now_of after)) whole (IsPermutation-map now_of before after p))

pub returns-then-clashes : goal.returns-then-clashes
returns-then-clashes c =
    let added : List NewTable = c.args.added.now in
    let items : List (Bor NewTable) = c.deref-next-items.result.now in
    let t : Bor NewTable = c.next-item.result in
    let p : IsPermutation added (map now_of items) =
    the_same added c.loop-table.tables.items c.sort_unstable_by.new.self.items items c.loop-table.table-index c.loop-table.invariant (omega (arith, c.loop-table-test.false))
    c.sort_unstable_by.ensures.permutation c.deref-next-items.ensures.value in
    let hit : list_any (clash t.now) (map now_of c.loop-next.front.items) ≡ true =
    ap (λ (ts : List (Bor NewTable)). list_any (clash t.now) (map now_of ts)) (sym c.deref.ensures.value) ∙ sym c.clashes.ensures ∙ c.if-clashes.true in
    let some : first_overlap [] (map now_of items) ≡ Some t.now.number = stopped_at items (map now_of c.loop-next.front.items) c.loop-next.next-index t c.loop-next.invariant c.loop-next-test.true c.next-item.is hit in
    ((λ h. absurd (false≢true h)), (λ e. absurd (not_apart c.args.left.now added (map now_of items) t.now.number p some e)))

pub loop-next-preserved : goal.loop-next-preserved
loop-next-preserved c =
    let items : List (Bor NewTable) = c.deref-next-items.result.now in
    let front : List (Bor NewTable) = c.loop-next.front.items in
    let t : Bor NewTable = c.next-item.result in
    let i : ℕ = c.loop-next.next-index in
    let covered : Bool = c.is_covered.result in
    let none : list_any (clash t.now) (map now_of front) ≡ false =
    ap (λ (ts : List (Bor NewTable)). list_any (clash t.now) (map now_of ts)) (sym c.deref.ensures.value) ∙ sym c.clashes.ensures ∙ c.if-clashes.false in
    let empty : length front ≡ 0 → covered ≡ false = subst (λ (ts : List (Bor NewTable)). length ts ≡ 0 → covered ≡ false) c.deref-in-loop-next.ensures.value c.is_covered.ensures.empty in
    let last : 0 < length front → covered ≡ covers (get_or (map now_of front) (length front - 1) t.now) t.now =
    subst (λ (ts : List (Bor NewTable)). 0 < length ts → covered ≡ covers (get_or (map now_of ts) (length ts - 1) t.now) t.now) c.deref-in-loop-next.ensures.value c.is_covered.ensures.last in
    let down : Descends (map now_of items) =
    subst (λ (ts : List (Bor NewTable)). Descends (map now_of ts)) (sym c.deref-next-items.ensures.value) (sorted_later c.sort_unstable_by.new.self.items c.sort_unstable_by.ensures.sorted (λ a r q k. search rules)) in
    elim c.if-not-is_covered.branch [
      | then-not-is_covered+in_ok-push-2 w ↦
          subst (λ (ts : List (Bor NewTable)). Builds (map now_of items) (i + 1) (map now_of ts)) (sym (ap (λ v. v.items) w.front-is ∙ w.in_ok-push-2.ensures.items))
          (push_now items front i t covered c.loop-next.invariant down c.loop-next-test.true c.next-item.is none last w.if-not-is_covered.true)
      | else-not-is_covered w ↦
          subst (λ (ts : List (Bor NewTable)). Builds (map now_of items) (i + 1) (map now_of ts)) (sym (ap (λ v. v.items) w.front-is))
          (skip_now items front i t covered c.loop-next.invariant c.loop-next-test.true c.next-item.is none empty last w.if-not-is_covered.false)
    ]

pub returns : goal.returns
returns c =
    let added : List NewTable = c.args.added.now in
    let items : List (Bor NewTable) = c.deref-next-items.result.now in
    let front : List NewTable = map now_of c.loop-next.front.items in
    let p : IsPermutation added (map now_of items) =
    the_same added c.loop-table.tables.items c.sort_unstable_by.new.self.items items c.loop-table.table-index c.loop-table.invariant (omega (arith, c.loop-table-test.false))
    c.sort_unstable_by.ensures.permutation c.deref-next-items.ensures.value in
    let all = builds_all items front c.loop-next.next-index c.loop-next.invariant (omega (arith, c.loop-next-test.false)) in
    let any : c.any_clashes.result ≡ list_any (λ t. list_any (clash t) front) c.args.left.now =
    c.any_clashes.ensures ∙ ap (λ (ts : List (Bor NewTable)). list_any (λ t. list_any (clash t) (map now_of ts)) c.args.left.now) c.deref-2.ensures.value in
    apart_by c.any_clashes.result c.args.left.now added front any (λ t. all.0 t ∙ sym (list_any-IsPermutation (clash t) added (map now_of items) p)) (reordered added (map now_of items) p all.1)
