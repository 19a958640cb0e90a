use Rattle.std.proofs.Common.{◌≡◌, ◌∙◌, ap, subst, sym, Some, true}
use Rattle.std.specs.Prelude.{map, filter}
use Rattle.bl_edit.specs.declared.edit.Edit.{Edit}
use Rattle.bl_edit.specs.Bounds.{IsEdit}
use Rattle.bl_build.specs.declared.meta.Standing.{Standing}
use Rattle.bl_build.specs.Listing.{Listing, nothing}
use Rattle.bl_build.specs.Versions.{apply}
use Rattle.bl_build.specs.Snapshots.{addition_of, garbage_of, has_garbage, snapshot}
use Rattle.bl_build.proofs.Restoring.{restored, snapshot_fits}
use Rattle.bl_build.proofs.snapshot.snapshot_edit.Goals as goal

made_is : (c : goal.After-from_vec-3) → ◌≡◌ {A = Edit} (record {
  comparator = true;
  log_number = Some c.args.standing.now.log_number;
  next_file = Some c.args.standing.now.next_file;
  last_sequence = Some c.args.standing.now.last_sequence;
  options = Some c.args.standing.now.options;
  deleted = c.new.result;
  added = c.from_vec.result;
  blobs = c.from_vec-2.result;
  garbage = c.from_vec-3.result;
}) (snapshot c.args.version.now c.args.standing.now)
made_is c =
    let v : Listing = c.args.version.now in
    let s : Standing = c.args.standing.now in
    let tables : c.from_vec.result ≡ v.tables = c.from_vec.ensures ∙ c.in_ok-copies.ensures ∙ c.all_tables.ensures.value in
    let blobs : c.from_vec-2.result ≡ map addition_of v.blobs = c.from_vec-2.ensures ∙ c.in_ok-additions.ensures ∙ ap (map addition_of) c.blobs.ensures in
    let garbage : c.from_vec-3.result ≡ map garbage_of (filter has_garbage v.blobs) =
    c.from_vec-3.ensures ∙ c.in_ok-garbage.ensures ∙ ap (λ bs. map garbage_of (filter has_garbage bs)) c.blobs-2.ensures in
    λ i. record {
      comparator = true;
      log_number = Some s.log_number;
      next_file = Some s.next_file;
      last_sequence = Some s.last_sequence;
      options = Some s.options;
      deleted = c.new.ensures i;
      added = tables i;
      blobs = blobs i;
      garbage = garbage i;
    }

pub returns-clause-restores : goal.returns-clause-restores
returns-clause-restores c = ap (apply nothing) (made_is c) ∙ restored c.args.version.now c.args.standing.now c.all_tables.ensures.version

pub returns-clause-bounds : goal.returns-clause-bounds
returns-clause-bounds c o lt = subst IsEdit (sym (made_is c)) (snapshot_fits c.args.version.now c.args.standing.now c.all_tables.ensures.version o lt)
