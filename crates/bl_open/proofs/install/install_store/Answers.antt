use Rattle.std.proofs.Common.{◌≡◌, ◌∙◌, [], ◌∷◌, inl, inr, ⊎_elim, refl, sym, ap, subst, Some, Ok}
use Rattle.bl_names.specs.declared.name.FileName.TheVariants.{Current, Manifest, Temp}
use Rattle.bl_names.specs.Names.{manifest_name, name_of}
use Rattle.bl_edit.specs.declared.edit.Edit.{Edit}
use Rattle.bl_build.specs.Listing.{nothing}
use Rattle.bl_build.specs.Restoring.{restored_by}
use Rattle.bl_build.specs.Snapshots.{snapshot}
use Rattle.bl_build.specs.Versions.{apply}
use Rattle.bl_manifest.specs.Held.{HoldsEdits}
use Rattle.bl_manifest.specs.ManifestFile.{ManifestFile}
use Rattle.bl_out.proofs.QuietLemmas.{touches_join}
use Rattle.bl_open.specs.Steady.{IsSteady}
use Rattle.bl_open.specs.SteadyCalls.{IsReady, begun}
use Rattle.bl_open.specs.Found.{IsLeftAs, RestsAs}
use Rattle.bl_open.proofs.MomentLemmas.{rest_start, then_standing}
use Rattle.bl_open.proofs.NamingLemmas.{current_kept, first_of_three, installed_so, last_of_three, log_stays, manifest_stays}
use Rattle.bl_open.proofs.RestoreLemmas.{snapshot_restores}
use Rattle.bl_open.proofs.TouchLemmas.{spares_stand}
use Rattle.bl_open.specs.Synced.{as_synced}
use Rattle.bl_open.proofs.install.install_store.Goals as goal

-- no edit was made
pub returns-in_err-edit-clause-cuts : goal.returns-in_err-edit-clause-cuts
returns-in_err-edit-clause-cuts g c = λ shown sure found maps log h live begins r spare.
    let old = c.args.site.now in
    rest_start g.S.Site (RestsAs found (maps 0)) (IsLeftAs found (maps 0)) (c.barriers_let_disks_rest.ensures.cuts found (maps 0)) old (g.met.S.Site.only_now shown old) (λ other. g.met.S.Site.only shown old other sure) r

pub returns-in_err-edit-clause-settled : goal.returns-in_err-edit-clause-settled
returns-in_err-edit-clause-settled g c = λ shown found maps log h live begins r spare.
    let laws = c.barriers_let_disks_rest.ensures in
    let disk = g.S.Site.disk c.args.site.now in
    laws.stay_settled (maps 0) disk (laws.rests found (maps 0) disk r)

-- the manifest was not made
pub returns-in_err-made-clause-touches : goal.returns-in_err-made-clause-touches
returns-in_err-made-clause-touches g c =
    first_of_three g.S.Site c.args.site.now c.make_manifest.new.site (manifest_name c.args.number) (name_of (Temp c.args.number)) (name_of Current) c.make_manifest.ensures.touches

pub returns-in_err-made-clause-log : goal.returns-in_err-made-clause-log
returns-in_err-made-clause-log g c = λ shown log is holds.
    let s = g.S.Site in
    let old = c.args.site.now in
    let new = c.make_manifest.new.site in
    let touches = first_of_three s old new (manifest_name c.args.number) (name_of (Temp c.args.number)) (name_of Current) c.make_manifest.ensures.touches in
    log_stays c.names_one.ensures c.args.number log c.requires.number is (s.disk old) (s.disk new) (touches.others shown) holds

pub returns-in_err-made-clause-cuts : goal.returns-in_err-made-clause-cuts
returns-in_err-made-clause-cuts g c = λ shown sure found maps log h live begins r spare.
    spares_stand g.S.Site c.barriers_let_disks_rest.ensures.left found (maps 0) (manifest_name c.args.number ∷ []) c.args.site.now c.make_manifest.new.site
    ((Manifest c.args.number, (c.requires.number, refl), spare), tt) r (c.make_manifest.ensures.touches.cuts shown sure)

pub returns-in_err-made-clause-settled : goal.returns-in_err-made-clause-settled
returns-in_err-made-clause-settled g c = λ shown found maps log h live begins r spare.
    let laws = c.barriers_let_disks_rest.ensures in
    let mid = g.S.Site.disk c.make_manifest.new.site in
    let rests : RestsAs found (maps 0) mid = laws.touched found (maps 0) (manifest_name c.args.number ∷ []) (g.S.Site.disk c.args.site.now) mid
    ((Manifest c.args.number, (c.requires.number, refl), spare), tt) (c.make_manifest.ensures.touches.others shown) r in
    laws.stay_settled (maps 0) mid (laws.rests found (maps 0) mid rests)

pub returns-in_err-name_manifest-clause-touches : goal.returns-in_err-name_manifest-clause-touches
returns-in_err-name_manifest-clause-touches g c =
    let s = g.S.Site in
    let old = c.args.site.now in
    let mid = c.make_manifest.new.site in
    let new = c.name_manifest.new.site in
    let one = manifest_name c.args.number in
    let two = name_of (Temp c.args.number) in
    let three = name_of Current in
    let touches = touches_join s (one ∷ two ∷ three ∷ []) old mid new (first_of_three s old mid one two three c.make_manifest.ensures.touches) (λ shown sure. c.in_ok-made.ensures.certain shown) c.make_manifest.ensures.tells_nothing
    (last_of_three s mid new one two three c.name_manifest.ensures.touches) in
    touches

pub returns-in_err-name_manifest-clause-log : goal.returns-in_err-name_manifest-clause-log
returns-in_err-name_manifest-clause-log g c = λ shown log is holds.
    let s = g.S.Site in
    let old = c.args.site.now in
    let mid = c.make_manifest.new.site in
    let new = c.name_manifest.new.site in
    let one = manifest_name c.args.number in
    let two = name_of (Temp c.args.number) in
    let three = name_of Current in
    let touches = touches_join s (one ∷ two ∷ three ∷ []) old mid new (first_of_three s old mid one two three c.make_manifest.ensures.touches) (λ shown sure. c.in_ok-made.ensures.certain shown) c.make_manifest.ensures.tells_nothing
    (last_of_three s mid new one two three c.name_manifest.ensures.touches) in
    log_stays c.names_one.ensures c.args.number log c.requires.number is (s.disk old) (s.disk new) (touches.others shown) holds

pub returns-in_err-name_manifest-clause-cuts : goal.returns-in_err-name_manifest-clause-cuts
returns-in_err-name_manifest-clause-cuts g c = λ shown sure found maps log h live begins r spare.
    let site = g.S.Site in
    let laws = c.barriers_let_disks_rest.ensures in
    let number = c.args.number in
    let made = c.in_ok-made.made in
    let is : made.number ≡ number = ap (λ (m : ManifestFile). m.number) c.in_ok-made.ensures.new in
    let e : Edit = snapshot c.args.version.now c.args.standing.now in
    let edit_is : c.in_ok-edit.edit ≡ e = c.in_ok-edit.ensures.edit in
    let applies : apply nothing e ≡ Ok c.args.version.now = ap (apply nothing) (sym edit_is) ∙ c.in_ok-edit.ensures.restores in
    let restores : restored_by (e ∷ []) ≡ Some (record { version = c.args.version.now; standing = c.args.standing.now }) = snapshot_restores c.args.version.now c.args.standing.now applies c.requires.next in
    let old = site.disk c.args.site.now in
    let mid = site.disk c.make_manifest.new.site in
    let given : restored_by (c.in_ok-edit.edit ∷ []) ≡ Some h.live = ap (λ (x : Edit). restored_by (x ∷ [])) edit_is ∙ restores ∙ ap Some (sym live) in
    let ready : IsReady maps (begun made (c.in_ok-edit.edit ∷ []) log h 0) mid = c.in_ok-made.ensures.ready shown [] 0 tt maps log h begins given in
    let rest_mid : RestsAs found (maps 0) mid = laws.touched found (maps 0) (manifest_name number ∷ []) old mid ((Manifest number, (c.requires.number, refl), spare), tt) (c.make_manifest.ensures.touches.others shown) r in
    then_standing site (IsLeftAs found (maps 0)) c.args.site.now c.make_manifest.new.site c.name_manifest.new.site (c.make_manifest.ensures.tells_nothing.told shown)
    (spares_stand site laws.left found (maps 0) (manifest_name number ∷ []) c.args.site.now c.make_manifest.new.site ((Manifest number, (c.requires.number, refl), spare), tt) r (c.make_manifest.ensures.touches.cuts shown sure))
    (c.name_manifest.ensures.cuts shown (c.in_ok-made.ensures.certain shown) maps made (c.in_ok-edit.edit ∷ []) log h is ready begins.batches found rest_mid)

pub returns-in_err-name_manifest-clause-settled : goal.returns-in_err-name_manifest-clause-settled
returns-in_err-name_manifest-clause-settled g c = λ shown found maps log h live begins r spare.
    let site = g.S.Site in
    let laws = c.barriers_let_disks_rest.ensures in
    let number = c.args.number in
    let made = c.in_ok-made.made in
    let is : made.number ≡ number = ap (λ (m : ManifestFile). m.number) c.in_ok-made.ensures.new in
    let e : Edit = snapshot c.args.version.now c.args.standing.now in
    let edit_is : c.in_ok-edit.edit ≡ e = c.in_ok-edit.ensures.edit in
    let applies : apply nothing e ≡ Ok c.args.version.now = ap (apply nothing) (sym edit_is) ∙ c.in_ok-edit.ensures.restores in
    let restores : restored_by (e ∷ []) ≡ Some (record { version = c.args.version.now; standing = c.args.standing.now }) = snapshot_restores c.args.version.now c.args.standing.now applies c.requires.next in
    let old = site.disk c.args.site.now in
    let mid = site.disk c.make_manifest.new.site in
    let given : restored_by (c.in_ok-edit.edit ∷ []) ≡ Some h.live = ap (λ (x : Edit). restored_by (x ∷ [])) edit_is ∙ restores ∙ ap Some (sym live) in
    let ready : IsReady maps (begun made (c.in_ok-edit.edit ∷ []) log h 0) mid = c.in_ok-made.ensures.ready shown [] 0 tt maps log h begins given in
    let rest_mid : RestsAs found (maps 0) mid = laws.touched found (maps 0) (manifest_name number ∷ []) old mid ((Manifest number, (c.requires.number, refl), spare), tt) (c.make_manifest.ensures.touches.others shown) r in
    c.name_manifest.ensures.settled shown maps made (c.in_ok-edit.edit ∷ []) log h is (ap (λ (m : ManifestFile). m.failed) c.in_ok-made.ensures.new) ready found rest_mid

pub returns-clause-touches : goal.returns-clause-touches
returns-clause-touches g c =
    let s = g.S.Site in
    let old = c.args.site.now in
    let mid = c.make_manifest.new.site in
    let new = c.name_manifest.new.site in
    let one = manifest_name c.args.number in
    let two = name_of (Temp c.args.number) in
    let three = name_of Current in
    let touches = touches_join s (one ∷ two ∷ three ∷ []) old mid new (first_of_three s old mid one two three c.make_manifest.ensures.touches) (λ shown sure. c.in_ok-made.ensures.certain shown) c.make_manifest.ensures.tells_nothing
    (last_of_three s mid new one two three c.name_manifest.ensures.touches) in
    touches

pub returns-clause-log : goal.returns-clause-log
returns-clause-log g c = λ shown log is holds.
    let s = g.S.Site in
    let old = c.args.site.now in
    let mid = c.make_manifest.new.site in
    let new = c.name_manifest.new.site in
    let one = manifest_name c.args.number in
    let two = name_of (Temp c.args.number) in
    let three = name_of Current in
    let touches = touches_join s (one ∷ two ∷ three ∷ []) old mid new (first_of_three s old mid one two three c.make_manifest.ensures.touches) (λ shown sure. c.in_ok-made.ensures.certain shown) c.make_manifest.ensures.tells_nothing
    (last_of_three s mid new one two three c.name_manifest.ensures.touches) in
    log_stays c.names_one.ensures c.args.number log c.requires.number is (s.disk old) (s.disk new) (touches.others shown) holds

pub returns-clause-cuts : goal.returns-clause-cuts
returns-clause-cuts g c = λ shown sure found maps log h live begins r spare.
    let site = g.S.Site in
    let laws = c.barriers_let_disks_rest.ensures in
    let number = c.args.number in
    let made = c.in_ok-made.made in
    let is : made.number ≡ number = ap (λ (m : ManifestFile). m.number) c.in_ok-made.ensures.new in
    let e : Edit = snapshot c.args.version.now c.args.standing.now in
    let edit_is : c.in_ok-edit.edit ≡ e = c.in_ok-edit.ensures.edit in
    let applies : apply nothing e ≡ Ok c.args.version.now = ap (apply nothing) (sym edit_is) ∙ c.in_ok-edit.ensures.restores in
    let restores : restored_by (e ∷ []) ≡ Some (record { version = c.args.version.now; standing = c.args.standing.now }) = snapshot_restores c.args.version.now c.args.standing.now applies c.requires.next in
    let old = site.disk c.args.site.now in
    let mid = site.disk c.make_manifest.new.site in
    let given : restored_by (c.in_ok-edit.edit ∷ []) ≡ Some h.live = ap (λ (x : Edit). restored_by (x ∷ [])) edit_is ∙ restores ∙ ap Some (sym live) in
    let ready : IsReady maps (begun made (c.in_ok-edit.edit ∷ []) log h 0) mid = c.in_ok-made.ensures.ready shown [] 0 tt maps log h begins given in
    let rest_mid : RestsAs found (maps 0) mid = laws.touched found (maps 0) (manifest_name number ∷ []) old mid ((Manifest number, (c.requires.number, refl), spare), tt) (c.make_manifest.ensures.touches.others shown) r in
    then_standing site (IsLeftAs found (maps 0)) c.args.site.now c.make_manifest.new.site c.name_manifest.new.site (c.make_manifest.ensures.tells_nothing.told shown)
    (spares_stand site laws.left found (maps 0) (manifest_name number ∷ []) c.args.site.now c.make_manifest.new.site ((Manifest number, (c.requires.number, refl), spare), tt) r (c.make_manifest.ensures.touches.cuts shown sure))
    (c.name_manifest.ensures.cuts shown (c.in_ok-made.ensures.certain shown) maps made (c.in_ok-edit.edit ∷ []) log h is ready begins.batches found rest_mid)

pub returns-clause-settled : goal.returns-clause-settled
returns-clause-settled g c = λ shown found maps log h live begins r spare.
    let site = g.S.Site in
    let laws = c.barriers_let_disks_rest.ensures in
    let number = c.args.number in
    let made = c.in_ok-made.made in
    let is : made.number ≡ number = ap (λ (m : ManifestFile). m.number) c.in_ok-made.ensures.new in
    let e : Edit = snapshot c.args.version.now c.args.standing.now in
    let edit_is : c.in_ok-edit.edit ≡ e = c.in_ok-edit.ensures.edit in
    let applies : apply nothing e ≡ Ok c.args.version.now = ap (apply nothing) (sym edit_is) ∙ c.in_ok-edit.ensures.restores in
    let restores : restored_by (e ∷ []) ≡ Some (record { version = c.args.version.now; standing = c.args.standing.now }) = snapshot_restores c.args.version.now c.args.standing.now applies c.requires.next in
    let old = site.disk c.args.site.now in
    let mid = site.disk c.make_manifest.new.site in
    let given : restored_by (c.in_ok-edit.edit ∷ []) ≡ Some h.live = ap (λ (x : Edit). restored_by (x ∷ [])) edit_is ∙ restores ∙ ap Some (sym live) in
    let ready : IsReady maps (begun made (c.in_ok-edit.edit ∷ []) log h 0) mid = c.in_ok-made.ensures.ready shown [] 0 tt maps log h begins given in
    let rest_mid : RestsAs found (maps 0) mid = laws.touched found (maps 0) (manifest_name number ∷ []) old mid ((Manifest number, (c.requires.number, refl), spare), tt) (c.make_manifest.ensures.touches.others shown) r in
    c.name_manifest.ensures.settled shown maps made (c.in_ok-edit.edit ∷ []) log h is (ap (λ (m : ManifestFile). m.failed) c.in_ok-made.ensures.new) ready found rest_mid

pub returns-clause-holds : goal.returns-clause-holds
returns-clause-holds g c = λ shown.
    let site = g.S.Site in
    let number = c.args.number in
    let made = c.in_ok-made.made in
    let is : made.number ≡ number = ap (λ (m : ManifestFile). m.number) c.in_ok-made.ensures.new in
    let e : Edit = snapshot c.args.version.now c.args.standing.now in
    let edit_is : c.in_ok-edit.edit ≡ e = c.in_ok-edit.ensures.edit in
    let applies : apply nothing e ≡ Ok c.args.version.now = ap (apply nothing) (sym edit_is) ∙ c.in_ok-edit.ensures.restores in
    let restores : restored_by (e ∷ []) ≡ Some (record { version = c.args.version.now; standing = c.args.standing.now }) = snapshot_restores c.args.version.now c.args.standing.now applies c.requires.next in
    let mid = site.disk c.make_manifest.new.site in
    let new = site.disk c.name_manifest.new.site in
    let held : HoldsEdits new made (c.in_ok-edit.edit ∷ []) 1 = manifest_stays c.names_one.ensures number c.requires.number made (c.in_ok-edit.edit ∷ []) 1 mid new is (c.name_manifest.ensures.touches.others shown) (c.in_ok-made.ensures.holds shown) in
    let holds : HoldsEdits new made (e ∷ []) 1 = subst (λ (x : Edit). HoldsEdits new made (x ∷ []) 1) edit_is held in
    holds

pub returns-clause-installed : goal.returns-clause-installed
returns-clause-installed g c = λ shown.
    let site = g.S.Site in
    let number = c.args.number in
    let made = c.in_ok-made.made in
    let is : made.number ≡ number = ap (λ (m : ManifestFile). m.number) c.in_ok-made.ensures.new in
    let e : Edit = snapshot c.args.version.now c.args.standing.now in
    let edit_is : c.in_ok-edit.edit ≡ e = c.in_ok-edit.ensures.edit in
    let applies : apply nothing e ≡ Ok c.args.version.now = ap (apply nothing) (sym edit_is) ∙ c.in_ok-edit.ensures.restores in
    let restores : restored_by (e ∷ []) ≡ Some (record { version = c.args.version.now; standing = c.args.standing.now }) = snapshot_restores c.args.version.now c.args.standing.now applies c.requires.next in
    let mid = site.disk c.make_manifest.new.site in
    let new = site.disk c.name_manifest.new.site in
    let held : HoldsEdits new made (c.in_ok-edit.edit ∷ []) 1 = manifest_stays c.names_one.ensures number c.requires.number made (c.in_ok-edit.edit ∷ []) 1 mid new is (c.name_manifest.ensures.touches.others shown) (c.in_ok-made.ensures.holds shown) in
    let holds : HoldsEdits new made (e ∷ []) 1 = subst (λ (x : Edit). HoldsEdits new made (x ∷ []) 1) edit_is held in
    installed_so c.manifests_are_read.ensures number (record { version = c.args.version.now; standing = c.args.standing.now }) made (e ∷ []) new c.requires.number is (ap (λ (m : ManifestFile). m.failed) c.in_ok-made.ensures.new) holds restores
    (c.in_ok-name_manifest.ensures.current shown)

pub returns-clause-steady : goal.returns-clause-steady
returns-clause-steady g c = λ shown names from below maps log h live begins.
    let site = g.S.Site in
    let laws = c.barriers_let_disks_rest.ensures in
    let number = c.args.number in
    let made = c.in_ok-made.made in
    let is : made.number ≡ number = ap (λ (m : ManifestFile). m.number) c.in_ok-made.ensures.new in
    let e : Edit = snapshot c.args.version.now c.args.standing.now in
    let edit_is : c.in_ok-edit.edit ≡ e = c.in_ok-edit.ensures.edit in
    let applies : apply nothing e ≡ Ok c.args.version.now = ap (apply nothing) (sym edit_is) ∙ c.in_ok-edit.ensures.restores in
    let restores : restored_by (e ∷ []) ≡ Some (record { version = c.args.version.now; standing = c.args.standing.now }) = snapshot_restores c.args.version.now c.args.standing.now applies c.requires.next in
    let old = site.disk c.args.site.now in
    let mid = site.disk c.make_manifest.new.site in
    let given : restored_by (c.in_ok-edit.edit ∷ []) ≡ Some h.live = ap (λ (x : Edit). restored_by (x ∷ [])) edit_is ∙ restores ∙ ap Some (sym live) in
    let ready : IsReady maps (begun made (c.in_ok-edit.edit ∷ []) log h 0) (as_synced names mid) = c.in_ok-made.ensures.ready shown names from below maps log h begins given in
    let new = site.disk c.name_manifest.new.site in
    subst (λ (x : Edit). IsSteady maps (begun made (x ∷ []) log h 0) (as_synced names new)) edit_is (c.in_ok-name_manifest.ensures.steady shown names from below maps made (c.in_ok-edit.edit ∷ []) log h is ready)

pub returns-in_err-edit-clause-either : goal.returns-in_err-edit-clause-either
returns-in_err-edit-clause-either g c = λ shown. inl refl

pub returns-in_err-made-clause-either : goal.returns-in_err-made-clause-either
returns-in_err-made-clause-either g c = λ shown.
    let s = g.S.Site in
    inl (current_kept c.names_one.ensures c.args.number c.requires.number (s.disk c.args.site.now) (s.disk c.make_manifest.new.site) (c.make_manifest.ensures.touches.others shown))

pub returns-in_err-name_manifest-clause-either : goal.returns-in_err-name_manifest-clause-either
returns-in_err-name_manifest-clause-either g c = λ shown.
    let site = g.S.Site in
    let number = c.args.number in
    let made = c.in_ok-made.made in
    let is : made.number ≡ number = ap (λ (m : ManifestFile). m.number) c.in_ok-made.ensures.new in
    let e : Edit = snapshot c.args.version.now c.args.standing.now in
    let edit_is : c.in_ok-edit.edit ≡ e = c.in_ok-edit.ensures.edit in
    let applies : apply nothing e ≡ Ok c.args.version.now = ap (apply nothing) (sym edit_is) ∙ c.in_ok-edit.ensures.restores in
    let restores : restored_by (e ∷ []) ≡ Some (record { version = c.args.version.now; standing = c.args.standing.now }) = snapshot_restores c.args.version.now c.args.standing.now applies c.requires.next in
    let mid = site.disk c.make_manifest.new.site in
    let new = site.disk c.name_manifest.new.site in
    let held : HoldsEdits new made (c.in_ok-edit.edit ∷ []) 1 = manifest_stays c.names_one.ensures number c.requires.number made (c.in_ok-edit.edit ∷ []) 1 mid new is (c.name_manifest.ensures.touches.others shown) (c.in_ok-made.ensures.holds shown) in
    let holds : HoldsEdits new made (e ∷ []) 1 = subst (λ (x : Edit). HoldsEdits new made (x ∷ []) 1) edit_is held in
    ⊎_elim
    (λ same. inl (same ∙ current_kept c.names_one.ensures number c.requires.number (site.disk c.args.site.now) mid (c.make_manifest.ensures.touches.others shown)))
    (λ current. inr (installed_so c.manifests_are_read.ensures number (record { version = c.args.version.now; standing = c.args.standing.now }) made (e ∷ []) new c.requires.number is
    (ap (λ (m : ManifestFile). m.failed) c.in_ok-made.ensures.new) holds restores current))
    (c.name_manifest.ensures.either shown)

pub returns-clause-either : goal.returns-clause-either
returns-clause-either g c = λ shown.
    let site = g.S.Site in
    let number = c.args.number in
    let made = c.in_ok-made.made in
    let is : made.number ≡ number = ap (λ (m : ManifestFile). m.number) c.in_ok-made.ensures.new in
    let e : Edit = snapshot c.args.version.now c.args.standing.now in
    let edit_is : c.in_ok-edit.edit ≡ e = c.in_ok-edit.ensures.edit in
    let applies : apply nothing e ≡ Ok c.args.version.now = ap (apply nothing) (sym edit_is) ∙ c.in_ok-edit.ensures.restores in
    let restores : restored_by (e ∷ []) ≡ Some (record { version = c.args.version.now; standing = c.args.standing.now }) = snapshot_restores c.args.version.now c.args.standing.now applies c.requires.next in
    let mid = site.disk c.make_manifest.new.site in
    let new = site.disk c.name_manifest.new.site in
    let held : HoldsEdits new made (c.in_ok-edit.edit ∷ []) 1 = manifest_stays c.names_one.ensures number c.requires.number made (c.in_ok-edit.edit ∷ []) 1 mid new is (c.name_manifest.ensures.touches.others shown) (c.in_ok-made.ensures.holds shown) in
    let holds : HoldsEdits new made (e ∷ []) 1 = subst (λ (x : Edit). HoldsEdits new made (x ∷ []) 1) edit_is held in
    ⊎_elim
    (λ same. inl (same ∙ current_kept c.names_one.ensures number c.requires.number (site.disk c.args.site.now) mid (c.make_manifest.ensures.touches.others shown)))
    (λ current. inr (installed_so c.manifests_are_read.ensures number (record { version = c.args.version.now; standing = c.args.standing.now }) made (e ∷ []) new c.requires.number is
    (ap (λ (m : ManifestFile). m.failed) c.in_ok-made.ensures.new) holds restores current))
    (c.name_manifest.ensures.either shown)
