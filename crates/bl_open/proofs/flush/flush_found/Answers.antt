use Rattle.std.proofs.Common.{◌≡◌, ◌∙◌, ◌<◌, ◌≤◌, List, [], ◌∷◌, Some, inl, length, refl, sym, subst, arith}
use Rattle.std.specs.Prelude.{◌^◌}
use Rattle.bl_site.proofs.Moments.{widened}
use Rattle.bl_entry.specs.declared.key.Entry.{Entry}
use Rattle.bl_names.specs.declared.name.FileName.TheVariants.{Table}
use Rattle.bl_names.specs.Names.{name_of}
use Rattle.bl_edit.specs.declared.edit.Edit.{Edit}
use Rattle.bl_flush.specs.Flushing.{Flushes}
use Rattle.bl_open.proofs.FullLemmas.{some_wanted}
use Rattle.bl_open.proofs.MomentLemmas.{all_before, none_found, rest_start}
use Rattle.bl_open.proofs.TableLemmas.{all_cuts, all_sides, first_cuts, no_flush, others_stay}
use Rattle.bl_open.specs.Barrier.{BeforeBarrier, IsOnEitherSide}
use Rattle.bl_open.specs.SteadyCalls.{IsAtRest}
use Rattle.bl_open.specs.SteadyCuts.{IsLeftFor}
use Rattle.bl_open.proofs.flush.flush_found.Goals as goal

no_entry : (es : List Entry) → length es ≡ 0 → es ≡ []
no_entry [] e = refl
no_entry (x ∷ xs) e = absurd (omega (arith, e))

pub returns-then-count-eq0-clause-flushes : goal.returns-then-count-eq0-clause-flushes
returns-then-count-eq0-clause-flushes g c = λ shown.
    let none : c.args.memory.now ≡ [] = no_entry c.args.memory.now (sym c.count.ensures ∙ c.if-count-eq0.true) in
    subst (λ (es : List Entry). Flushes c.args.options.now c.args.numbers.now c.args.numbers.now [] es (g.S.Site.disk c.args.site.now) c.new.result) (sym none)
    (subst (λ (e : Edit). Flushes c.args.options.now c.args.numbers.now c.args.numbers.now [] [] (g.S.Site.disk c.args.site.now) e) (sym c.new.ensures) (no_flush c.args.options.now c.args.numbers.now (g.S.Site.disk c.args.site.now)))

pub returns-then-count-eq0-clause-sides : goal.returns-then-count-eq0-clause-sides
returns-then-count-eq0-clause-sides g c = λ shown manifest live m rest below.
    let s = g.S.Site in
    let site = c.args.site.now in
    let name = name_of (Table c.args.numbers.now) in
    widened s.clock s.left_since site site (BeforeBarrier name (s.may_be site) (s.told site)) (IsOnEitherSide name (s.may_be site) (IsLeftFor m) (s.told site)) (λ x b. inl b)
    (all_before s name site site (none_found s site (g.met.S.Site.only_now shown site)))

pub returns-then-count-eq0-clause-cuts : goal.returns-then-count-eq0-clause-cuts
returns-then-count-eq0-clause-cuts g c = λ shown sure manifest live m rest below.
    let site = c.args.site.now in
    rest_start g.S.Site (IsAtRest manifest live m) (IsLeftFor m) (c.barriers_let_disks_rest.ensures.cuts (Some (manifest, live)) m) site (g.met.S.Site.only_now shown site) (λ other. g.met.S.Site.only shown site other sure) rest

pub returns-then-next-eq-FILE_LIMIT-clause-sides : goal.returns-then-next-eq-FILE_LIMIT-clause-sides
returns-then-next-eq-FILE_LIMIT-clause-sides g c = λ shown manifest live m rest below.
    let s = g.S.Site in
    let site = c.args.site.now in
    let name = name_of (Table c.args.numbers.now) in
    widened s.clock s.left_since site site (BeforeBarrier name (s.may_be site) (s.told site)) (IsOnEitherSide name (s.may_be site) (IsLeftFor m) (s.told site)) (λ x b. inl b)
    (all_before s name site site (none_found s site (g.met.S.Site.only_now shown site)))

pub returns-then-next-eq-FILE_LIMIT-clause-cuts : goal.returns-then-next-eq-FILE_LIMIT-clause-cuts
returns-then-next-eq-FILE_LIMIT-clause-cuts g c = λ shown sure manifest live m rest below.
    let site = c.args.site.now in
    rest_start g.S.Site (IsAtRest manifest live m) (IsLeftFor m) (c.barriers_let_disks_rest.ensures.cuts (Some (manifest, live)) m) site (g.met.S.Site.only_now shown site) (λ other. g.met.S.Site.only shown site other sure) rest

pub returns-in_err-make_table-clause-cuts : goal.returns-in_err-make_table-clause-cuts
returns-in_err-make_table-clause-cuts g c = λ shown sure manifest live m rest below.
    let laws = c.drawn_files_let_disks_rest.ensures in
    let less : c.args.numbers.now < 10 ^ 15 = omega (arith, c.if-next-eq-FILE_LIMIT.false, c.next.ensures.value, c.next.ensures.bound) in
    let some : 1 ≤ c.args.numbers.now = omega (arith, c.next.ensures.value, c.next.ensures.some) in
    first_cuts g.S.Site laws.rest laws.cuts c.args.numbers.now some less c.args.site.now c.make_table.new.site manifest live m c.make_table.ensures.touches shown rest below sure

pub returns-clause-others : goal.returns-clause-others
returns-clause-others g c = λ shown.
    let less : c.args.numbers.now < 10 ^ 15 = omega (arith, c.if-next-eq-FILE_LIMIT.false, c.next.ensures.value, c.next.ensures.bound) in
    let some : 1 ≤ c.args.numbers.now = omega (arith, c.next.ensures.value, c.next.ensures.some) in
    others_stay g.S.Site c.args.numbers.now c.flush_memory.new.numbers c.args.site.now c.make_table.new.site c.flush_memory.new.site some less c.flush_memory.ensures.most c.make_table.ensures.touches c.flush_memory.ensures.touches shown

pub returns-clause-cuts : goal.returns-clause-cuts
returns-clause-cuts g c = λ shown sure manifest live m rest below.
    let laws = c.drawn_files_let_disks_rest.ensures in
    let less : c.args.numbers.now < 10 ^ 15 = omega (arith, c.if-next-eq-FILE_LIMIT.false, c.next.ensures.value, c.next.ensures.bound) in
    let some : 1 ≤ c.args.numbers.now = omega (arith, c.next.ensures.value, c.next.ensures.some) in
    all_cuts g.S.Site laws.rest laws.cuts c.args.numbers.now some less c.args.site.now c.make_table.new.site manifest live m c.make_table.ensures.touches shown rest below
    c.flush_memory.new.site c.flush_memory.new.numbers c.flush_memory.ensures.most (c.make_table.ensures.tells_nothing.told shown) (c.in_ok-make_table.ensures.certain shown) c.flush_memory.ensures.touches sure

pub returns-clause-sides : goal.returns-clause-sides
returns-clause-sides g c = λ shown manifest live m rest below.
    let laws = c.drawn_files_let_disks_rest.ensures in
    let less : c.args.numbers.now < 10 ^ 15 = omega (arith, c.if-next-eq-FILE_LIMIT.false, c.next.ensures.value, c.next.ensures.bound) in
    let some : 1 ≤ c.args.numbers.now = omega (arith, c.next.ensures.value, c.next.ensures.some) in
    all_sides g.S.Site laws.rest laws.cuts c.args.numbers.now some less c.args.site.now c.make_table.new.site manifest live m c.make_table.ensures.touches shown rest below
    c.flush_memory.new.site c.flush_memory.new.numbers c.flush_memory.ensures.most (c.make_table.ensures.tells_nothing.told shown) (c.in_ok-make_table.ensures.certain shown) c.flush_memory.ensures.touches (c.make_table.ensures.before shown)

pub returns-then-next-eq-FILE_LIMIT-clause-full : goal.returns-then-next-eq-FILE_LIMIT-clause-full
returns-then-next-eq-FILE_LIMIT-clause-full g c = λ n is.
    let same : 1000000000000000 ≡ n = cc is in
    let some : 1 ≤ length c.args.memory.now = omega (arith, c.count.ensures, c.if-count-eq0.false) in
    let wanted = some_wanted c.newest_stands_first.ensures c.args.options.now c.args.numbers.now c.args.memory.now c.ascends.ensures.ascending some in
    (omega (arith, same), omega (arith, wanted, c.next.ensures.value, c.if-next-eq-FILE_LIMIT.true))
