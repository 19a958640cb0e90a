use Rattle.std.proofs.Common.{◌∙◌, sym, ap}
use Rattle.std.specs.Prelude.{flat_map, map, slice_get}
use Rattle.bl_site.specs.Disk.{Folder, folder_of}
use Rattle.bl_entry.specs.Keys.{IsKey, Key}
use Rattle.bl_merge.specs.Heads.{union}
use Rattle.bl_merge.specs.Lists.{from_on, of_user}
use Rattle.bl_merge.proofs.HandLemmas.{at_none}
use Rattle.bl_merge.proofs.OrderLemmas.{ordered}
use Rattle.bl_merge.proofs.MergedLemmas.{union_all}
use Rattle.bl_merge.proofs.RunLemmas.{run_same, zip_same}
use Rattle.bl_merge.proofs.SeenLemmas.{first_seen, none_of, some_is}
use Rattle.bl_merge.proofs.merged.Merged.visible.Goals as goal

pub returns-in_err-from-clause-same : goal.returns-in_err-from-clause-same
returns-in_err-from-clause-same g c = zip_same _ (run_same g.R.Run.entries g.R.Run.reads g.R.Run.is_outside) _

pub returns-in_default-clause-same : goal.returns-in_default-clause-same
returns-in_default-clause-same g c = zip_same _ (run_same g.R.Run.entries g.R.Run.reads g.R.Run.is_outside) _

pub returns-in_default-clause-given : goal.returns-in_default-clause-given
returns-in_default-clause-given g c = λ shown all. sym (none_of c.args.key.now c.args.seq _ (union_all (λ e. IsKey e.key) g.R.Run.entries (folder_of (g.S.Site.disk c.args.site.now)) (λ r. g.met.R.Run.keys r (folder_of (g.S.Site.disk c.args.site.now))) c.args.self.now.runs) (at_none c.in_ok-from.field-0 _ c.in_default.is c.in_ok-from.ensures.none))

pub returns-clause-given : goal.returns-clause-given
returns-clause-given g c = λ shown all.
    let f : Folder = folder_of (g.S.Site.disk c.args.site.now) in
    let list = union g.R.Run.entries c.args.self.now f in
    let keyed = union_all (λ e. IsKey e.key) g.R.Run.entries f (λ r. g.met.R.Run.keys r f) c.args.self.now.runs in
    let from = some_is c.in_ok-from.field-0 c.in-Some.from c.args.key.now c.args.seq c.in-Some.is c.in_ok-from.ensures.found in
    c.of_user.ensures ∙ ap (of_user c.args.key.now) (c.in_ok-found.ensures.given shown all ∙ ap (λ (k : Key). slice_get (from_on k list) 0) from)
    ∙ first_seen c.args.key.now c.args.seq list keyed (ordered (flat_map (λ es. es) (map (λ r. g.R.Run.entries r f) c.args.self.now.runs)))
