use Rattle.std.proofs.Common.{◌≡◌, ◌<◌, ℕ, Bool, true, false, cond, List, [], ◌∷◌, ◌++◌, length, get_or, refl, sym, ap, ◌∙◌, subst, arith}
use Rattle.std.specs.Prelude.{◌==◌, not, IsTrue}
use Rattle.std.specs.List.{AllByRecursion, list_any}
use Rattle.std.specs.Ordering.{nat_cmp}
use Rattle.std.specs.BTreeSet.{contains}
use Rattle.std.proofs.lemmas.Bool.{eqb-true}
use Rattle.std.proofs.lemmas.List.{append-nil, map-id}
use Rattle.std.proofs.lemmas.Iterator.Adapters.{YieldsList-from_vec}
use Rattle.std.proofs.lemmas.Iterator.Consumers.{YieldsList-turn, YieldsList-end}
use Rattle.bl_edit.specs.declared.edit.DeletedTable.{DeletedTable}
use Rattle.bl_edit.specs.declared.edit.NewTable.{NewTable}
use Rattle.bl_edit.specs.Bounds.{deletion_fits, table_fits}
use Rattle.bl_build.specs.Listing.{rank, table_rank}
use Rattle.bl_build.specs.Versions.{is_deleted, without}
use Rattle.bl_build.proofs.Levels.{fits_number}
use Rattle.bl_build.proofs.Placing.{all_get, filter_push}
use Rattle.bl_build.proofs.Searching.{any_deleted}
use Rattle.bl_build.proofs.step.without.Goals as goal

keep_all : (ts : List NewTable) → without [] ts ≡ ts
keep_all [] = refl
keep_all (t ∷ ts) = ap (λ us. t ∷ us) (keep_all ts)

none_gone : (ds : List DeletedTable) (ts : List NewTable) → length ds ≡ 0 → without ds ts ≡ ts
none_gone [] ts e = keep_all ts
none_gone (d ∷ ds) ts e = absurd (omega arith)

pub returns-then-is_empty : goal.returns-then-is_empty
returns-then-is_empty c =
    let none : length c.args.deleted.now ≡ 0 = eqb-true (length c.args.deleted.now) 0 (sym c.is_empty.ensures ∙ c.if-is_empty.true) in
    sym (none_gone c.args.deleted.now c.args.tables.items none)

-- one table more, which is gone or stays
one_more : (ds : List DeletedTable) (seen left after : List NewTable) (t : NewTable) (gone : Bool) → left ≡ without ds seen → list_any (λ d. is_deleted d t) ds ≡ gone → after ≡ cond gone left (left ++ t ∷ [])
    → after ≡ without ds (seen ++ t ∷ [])
one_more ds seen left after t true so_far is e =
    e ∙ so_far ∙ sym (filter_push (λ (u : NewTable). not (list_any (λ d. is_deleted d u) ds)) seen t ∙ ap (λ b. without ds seen ++ cond (not b) (t ∷ []) []) is ∙ append-nil (without ds seen))
one_more ds seen left after t false so_far is e =
    e ∙ ap (λ l. l ++ t ∷ []) so_far ∙ sym (filter_push (λ (u : NewTable). not (list_any (λ d. is_deleted d u) ds)) seen t ∙ ap (λ b. without ds seen ++ cond (not b) (t ∷ []) []) is)

-- a table of a version is looked up among the deleted ones
looked_up : (ds : List DeletedTable) (tables : List NewTable) (i : ℕ) (t : NewTable) (ranks : ℕ → Bool) → AllByRecursion (λ d. IsTrue (deletion_fits d)) ds → AllByRecursion (λ u. IsTrue (table_fits u)) tables
    → i < length tables → t ≡ get_or tables i t → ((q : ℕ) → ranks q ≡ list_any (λ d. rank d.level d.number == q) ds) → list_any (λ d. is_deleted d t) ds ≡ ranks (table_rank t)
looked_up ds tables i t ranks deleted fits lt is known =
    let fit : IsTrue (table_fits t) = subst (λ (u : NewTable). IsTrue (table_fits u)) (sym is) (all_get (λ (u : NewTable). IsTrue (table_fits u)) tables i t fits lt) in
    sym (any_deleted t ds (fits_number t fit) deleted) ∙ sym (known (table_rank t))

pub loop-table-preserved : goal.loop-table-preserved
loop-table-preserved c =
    let gives = c.into_iter-table-iterator.ensures.into_iter_gives in
    let turn = YieldsList-turn (YieldsList-from_vec {s = c.into_iter-table-iterator.result} c.args.tables.items gives.0 (omega (arith, gives.1, c.args.tables.ok))) c.loop-table.yielded c.loop-table.table-iterator c.loop-table.yielded_by
    c.next.result c.next.new.self c.in-Some.table c.in-Some.is c.next.ensures.steps in
    let gone = looked_up c.args.deleted.now c.args.tables.items (length c.loop-table.yielded) c.in-Some.table (contains nat_cmp c.in_ok-gone.gone) c.requires.deleted c.requires.tables turn.0 turn.1 c.in_ok-gone.ensures
    ∙ ap (contains nat_cmp c.in_ok-gone.gone) (sym c.rank_of.ensures) ∙ sym c.contains.ensures in
    one_more c.args.deleted.now c.loop-table.yielded c.loop-table.left.items _ c.in-Some.table true c.loop-table.invariant (gone ∙ c.if-not-contains.false) refl

pub loop-table-preserved-in-Continue-branch-3 : goal.loop-table-preserved-in-Continue-branch-3
loop-table-preserved-in-Continue-branch-3 c =
    let gives = c.into_iter-table-iterator.ensures.into_iter_gives in
    let turn = YieldsList-turn (YieldsList-from_vec {s = c.into_iter-table-iterator.result} c.args.tables.items gives.0 (omega (arith, gives.1, c.args.tables.ok))) c.loop-table.yielded c.loop-table.table-iterator c.loop-table.yielded_by
    c.next.result c.next.new.self c.in-Some.table c.in-Some.is c.next.ensures.steps in
    let gone = looked_up c.args.deleted.now c.args.tables.items (length c.loop-table.yielded) c.in-Some.table (contains nat_cmp c.in_ok-gone.gone) c.requires.deleted c.requires.tables turn.0 turn.1 c.in_ok-gone.ensures
    ∙ ap (contains nat_cmp c.in_ok-gone.gone) (sym c.rank_of.ensures) ∙ sym c.contains.ensures in
    one_more c.args.deleted.now c.loop-table.yielded c.loop-table.left.items _ c.in-Some.table false c.loop-table.invariant (gone ∙ c.if-not-contains.true) c.in_ok-push.ensures.items

pub returns : goal.returns
returns c =
    let gives = c.into_iter-table-iterator.ensures.into_iter_gives in
    let seen = YieldsList-end (YieldsList-from_vec {s = c.into_iter-table-iterator.result} c.args.tables.items gives.0 (omega (arith, gives.1, c.args.tables.ok))) c.loop-table.yielded c.loop-table.table-iterator c.loop-table.yielded_by
    c.next.result c.next.new.self c.in-None.is c.next.ensures.steps in
    c.loop-table.invariant ∙ ap (without c.args.deleted.now) (sym (map-id c.loop-table.yielded) ∙ seen.0)
