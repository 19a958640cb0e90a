use Rattle.std.proofs.Common.{◌≡◌, ◌≤◌, List, length, min, sym, ◌∙◌, ap, subst, arith}
use Rattle.bl_entry.specs.declared.key.Entry.{Entry}
use Rattle.bl_entry.specs.Entries.{IsAscending, first_at}
use Rattle.bl_cache.specs.Runs.{TableView, as_run}
use Rattle.bl_cache.specs.RunLaws.{as_run_is, run_ascends}
use Rattle.bl_cache.proofs.table_run.TableRunRun.seek.Goals as goal

pub place_of-self-inside-requires : goal.place_of-self-inside-requires
place_of-self-inside-requires g c = subst IsAscending (sym c.deref.ensures.value) (run_ascends c.self.inside.entries.items c.self.invariant.run)

pub invariant_of-self : goal.invariant_of-self
invariant_of-self g c = record {
  run = c.self.invariant.run;
  proper = c.self.invariant.proper;
  within = let same = ap length c.deref.ensures.value in omega (arith, same, c.place_of-self-inside.ensures.within);
}

pub returns-clause-moved : goal.returns-clause-moved
returns-clause-moved g c = λ shown kept.
    let es : List Entry = c.self.inside.entries.items in
    let whole : as_run es ≡ es = as_run_is es c.self.invariant.run in
    let place : c.place_of-self-inside.result ≡ first_at c.args.from.now (as_run es) =
    c.place_of-self-inside.ensures.place ∙ ap (first_at c.args.from.now) (c.deref.ensures.value ∙ sym whole) in
    let size : length c.deref.result.now ≡ length (as_run es) = ap length (c.deref.ensures.value ∙ sym whole) in
    let within : c.place_of-self-inside.result ≤ length (as_run es) = omega (arith, size, c.place_of-self-inside.ensures.within) in
    let least : min c.place_of-self-inside.result (length (as_run es)) ≡ c.place_of-self-inside.result = omega arith in
    least ∙ place ∙ ap (λ (t : TableView). first_at c.args.from.now (as_run t.kept)) c.self.view_is
