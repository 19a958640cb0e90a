use Rattle.std.proofs.Common.{◌≡◌, ◌∷◌, [], ap, sym, subst}
use Rattle.bl_names.specs.declared.name.FileName.TheVariants.{Manifest}
use Rattle.bl_names.specs.Names.{IsNumber, manifest_name}
use Rattle.bl_manifest.specs.Held.{HoldsEdits}
use Rattle.bl_manifest.specs.ManifestFile.{ManifestFile, record_bytes}
use Rattle.bl_records.specs.Writing.{MakesPartly}
use Rattle.bl_out.proofs.QuietLemmas.{touches_named}
use Rattle.bl_open.specs.SteadyCalls.{KeepsAllBut}
use Rattle.bl_open.proofs.OutcomeLemmas.{manifest_others}
use Rattle.bl_open.proofs.TouchLemmas.{others_stay}
use Rattle.bl_open.proofs.FrameLemmas.{same_edits}
use Rattle.bl_open.proofs.SyncedLemmas.{keeps_synced, unsynced_at}
use Rattle.bl_open.specs.Synced.{as_synced}
use Rattle.bl_open.proofs.files.make_manifest.Goals as goal

pub returns-in_err-made-clause-touches : goal.returns-in_err-made-clause-touches
returns-in_err-made-clause-touches g c =
    let s = g.S.Site in
    let laws = g.met.S.Site in
    let name = manifest_name c.args.number in
    let bytes = record_bytes 0 c.args.edit.now in
    let old = c.args.site.now in
    let new = c.create.new.site in
    let e = c.create.ensures in
    touches_named s (MakesPartly name bytes) name [] old new
    (λ shown. others_stay name (s.disk old) (s.disk new) (manifest_others name bytes (s.disk old) (s.disk new) c.create.result (e.created shown) (e.left shown)))
    (λ from to made. others_stay name from to made.puts.others) e.time (λ shown. laws.only shown old) (λ shown. laws.only_now shown old)

pub returns-clause-touches : goal.returns-clause-touches
returns-clause-touches g c =
    let s = g.S.Site in
    let laws = g.met.S.Site in
    let name = manifest_name c.args.number in
    let bytes = record_bytes 0 c.args.edit.now in
    let old = c.args.site.now in
    let new = c.create.new.site in
    let e = c.create.ensures in
    touches_named s (MakesPartly name bytes) name [] old new
    (λ shown. others_stay name (s.disk old) (s.disk new) (manifest_others name bytes (s.disk old) (s.disk new) c.create.result (e.created shown) (e.left shown)))
    (λ from to made. others_stay name from to made.puts.others) e.time (λ shown. laws.only shown old) (λ shown. laws.only_now shown old)

pub returns-clause-holds : goal.returns-clause-holds
returns-clause-holds g c = λ shown.
    subst (λ (m : ManifestFile). HoldsEdits (g.S.Site.disk c.create.new.site) m (c.args.edit.now ∷ []) 1) (sym c.in_ok-made.ensures.made) (c.in_ok-made.ensures.holds shown)

pub returns-clause-ready : goal.returns-clause-ready
returns-clause-ready g c = λ shown names from below maps log h b restores.
    let one = c.names_one.ensures in
    let old = g.S.Site.disk c.args.site.now in
    let new = g.S.Site.disk c.create.new.site in
    let e = c.args.edit.now in
    let made = c.in_ok-made.made in
    let is = c.in_ok-made.ensures.made in
    let number : made.number ≡ c.args.number = ap (λ (m : ManifestFile). m.number) is in
    let valid : IsNumber made.number = subst IsNumber (sym number) c.requires.number in
    c.stores_begin.ensures.ready maps log h e made (as_synced names old) (as_synced names new) b valid restores
    (keeps_synced names (manifest_name made.number) old new (subst (λ (k : _). KeepsAllBut (manifest_name k) old new) (sym number) (c.in_ok-made.ensures.created shown).others))
    (same_edits new (as_synced names new) made (e ∷ []) 1 (unsynced_at one from names new (Manifest made.number) below valid tt)
    (subst (λ (m : ManifestFile). HoldsEdits new m (e ∷ []) 1) (sym is) (c.in_ok-made.ensures.holds shown)))
