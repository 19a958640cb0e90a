use Rattle.std.proofs.Common.{◌≡◌, ◌∙◌, [], ◌∷◌, inl, inr, refl, ⊎_elim, ℕ, length, sym, ap, subst, arith}
use Rattle.bl_site.specs.Calls.{LeavesOnly}
use Rattle.bl_site.specs.Disk.{Disk, Name}
use Rattle.bl_names.specs.declared.name.FileName.TheVariants.{Current, Temp}
use Rattle.bl_names.specs.Names.{current_text, name_of}
use Rattle.bl_records.specs.Writing.{MakesSynced}
use Rattle.bl_folder.specs.Settled.{IsSettled}
use Rattle.bl_out.proofs.QuietLemmas.{touches_join, touches_nothing}
use Rattle.bl_open.specs.Steady.{Steady, accepted}
use Rattle.bl_open.specs.SteadyCalls.{HasText, IsReady, KeepsAllBut, begun}
use Rattle.bl_open.specs.SteadyCuts.{LeavesStanding}
use Rattle.bl_open.specs.Found.{IsLeftAs, RestsAs}
use Rattle.bl_open.proofs.MomentLemmas.{rest_start, then_standing}
use Rattle.bl_open.proofs.NamingLemmas.{both_touched, current_apart, has_current, has_text, renames_so, temp_name, temp_touches}
use Rattle.bl_open.proofs.OutcomeLemmas.{on_ok_of}
use Rattle.bl_open.proofs.TouchLemmas.{keeps_but, spares_stand}
use Rattle.bl_open.proofs.SyncedLemmas.{keeps_synced, renames_synced, unsynced_at}
use Rattle.bl_open.specs.Synced.{as_synced}
use Rattle.bl_open.proofs.install.name_manifest.Goals as goal

pub returns-in_err-temp-clause-touches : goal.returns-in_err-temp-clause-touches
returns-in_err-temp-clause-touches g c =
    let old = c.args.site.now in
    touches_nothing g.S.Site (name_of (Temp c.args.number) ∷ name_of Current ∷ []) old (λ shown. g.met.S.Site.only shown old) (λ shown. g.met.S.Site.only_now shown old)

pub returns-in_err-temp-clause-cuts : goal.returns-in_err-temp-clause-cuts
returns-in_err-temp-clause-cuts g c = λ shown sure maps made edits log h number ready none found r.
    let old = c.args.site.now in
    rest_start g.S.Site (RestsAs found (maps 0)) (IsLeftAs found (maps 0)) (c.barriers_let_disks_rest.ensures.cuts found (maps 0)) old (g.met.S.Site.only_now shown old) (λ other. g.met.S.Site.only shown old other sure) r

pub returns-in_err-temp-clause-settled : goal.returns-in_err-temp-clause-settled
returns-in_err-temp-clause-settled g c = λ shown maps made edits log h number usable ready found r.
    let laws = c.barriers_let_disks_rest.ensures in
    let disk = g.S.Site.disk c.args.site.now in
    laws.stay_settled (maps 0) disk (laws.rests found (maps 0) disk r)

pub returns-in_err-current-clause-touches : goal.returns-in_err-current-clause-touches
returns-in_err-current-clause-touches g c =
    let old = c.args.site.now in
    touches_nothing g.S.Site (name_of (Temp c.args.number) ∷ name_of Current ∷ []) old (λ shown. g.met.S.Site.only shown old) (λ shown. g.met.S.Site.only_now shown old)

pub returns-in_err-current-clause-cuts : goal.returns-in_err-current-clause-cuts
returns-in_err-current-clause-cuts g c = λ shown sure maps made edits log h number ready none found r.
    let old = c.args.site.now in
    rest_start g.S.Site (RestsAs found (maps 0)) (IsLeftAs found (maps 0)) (c.barriers_let_disks_rest.ensures.cuts found (maps 0)) old (g.met.S.Site.only_now shown old) (λ other. g.met.S.Site.only shown old other sure) r

pub returns-in_err-current-clause-settled : goal.returns-in_err-current-clause-settled
returns-in_err-current-clause-settled g c = λ shown maps made edits log h number usable ready found r.
    let laws = c.barriers_let_disks_rest.ensures in
    let disk = g.S.Site.disk c.args.site.now in
    laws.stay_settled (maps 0) disk (laws.rests found (maps 0) disk r)

pub returns-in_err-text-clause-touches : goal.returns-in_err-text-clause-touches
returns-in_err-text-clause-touches g c =
    let old = c.args.site.now in
    touches_nothing g.S.Site (name_of (Temp c.args.number) ∷ name_of Current ∷ []) old (λ shown. g.met.S.Site.only shown old) (λ shown. g.met.S.Site.only_now shown old)

pub returns-in_err-text-clause-cuts : goal.returns-in_err-text-clause-cuts
returns-in_err-text-clause-cuts g c = λ shown sure maps made edits log h number ready none found r.
    let old = c.args.site.now in
    rest_start g.S.Site (RestsAs found (maps 0)) (IsLeftAs found (maps 0)) (c.barriers_let_disks_rest.ensures.cuts found (maps 0)) old (g.met.S.Site.only_now shown old) (λ other. g.met.S.Site.only shown old other sure) r

pub returns-in_err-text-clause-settled : goal.returns-in_err-text-clause-settled
returns-in_err-text-clause-settled g c = λ shown maps made edits log h number usable ready found r.
    let laws = c.barriers_let_disks_rest.ensures in
    let disk = g.S.Site.disk c.args.site.now in
    laws.stay_settled (maps 0) disk (laws.rests found (maps 0) disk r)

pub returns-in_err-write_temp-clause-touches : goal.returns-in_err-write_temp-clause-touches
returns-in_err-write_temp-clause-touches g c =
    temp_touches g.S.Site c.args.site.now c.write_temp.new.site c.as_str.result.now (name_of (Temp c.args.number)) (name_of Current) (c.as_str.ensures.value ∙ c.in_ok-temp.ensures) c.write_temp.ensures.touches

pub returns-in_err-write_temp-clause-cuts : goal.returns-in_err-write_temp-clause-cuts
returns-in_err-write_temp-clause-cuts g c = λ shown sure maps made edits log h number ready none found r.
    let name = c.as_str.result.now in
    spares_stand g.S.Site c.barriers_let_disks_rest.ensures.left found (maps 0) (name ∷ []) c.args.site.now c.write_temp.new.site
    (temp_name found c.args.number c.requires.number name (c.as_str.ensures.value ∙ c.in_ok-temp.ensures)) r (c.write_temp.ensures.touches.cuts shown sure)

pub returns-in_err-write_temp-clause-settled : goal.returns-in_err-write_temp-clause-settled
returns-in_err-write_temp-clause-settled g c = λ shown maps made edits log h number usable ready found r.
    let laws = c.barriers_let_disks_rest.ensures in
    let name = c.as_str.result.now in
    let mid = g.S.Site.disk c.write_temp.new.site in
    let rests : RestsAs found (maps 0) mid = laws.touched found (maps 0) (name ∷ []) (g.S.Site.disk c.args.site.now) mid (temp_name found c.args.number c.requires.number name (c.as_str.ensures.value ∙ c.in_ok-temp.ensures)) (c.write_temp.ensures.touches.others shown) r in
    laws.stay_settled (maps 0) mid (laws.rests found (maps 0) mid rests)

pub returns-clause-touches : goal.returns-clause-touches
returns-clause-touches g c =
    let s = g.S.Site in
    let one = name_of (Temp c.args.number) in
    let two = name_of Current in
    let old = c.args.site.now in
    let mid = c.write_temp.new.site in
    let new = c.rename_current.new.site in
    touches_join s (one ∷ two ∷ []) old mid new (temp_touches s old mid c.as_str.result.now one two (c.as_str.ensures.value ∙ c.in_ok-temp.ensures) c.write_temp.ensures.touches)
    (λ shown sure. c.in_ok-write_temp.ensures.certain shown) c.write_temp.ensures.tells_nothing
    (both_touched s mid new c.as_str-2.result.now c.as_str-3.result.now one two (c.as_str-2.ensures.value ∙ c.in_ok-temp.ensures) (c.as_str-3.ensures.value ∙ c.in_ok-current.ensures) c.rename_current.ensures.touches)

pub returns-clause-current : goal.returns-clause-current
returns-clause-current g c = λ shown.
    let s = g.S.Site in
    let number = c.args.number in
    let text = c.as_slice.result.now in
    let old = s.disk c.args.site.now in
    let mid = s.disk c.write_temp.new.site in
    let new = s.disk c.rename_current.new.site in
    let made : MakesSynced (name_of (Temp number)) text old mid = subst (λ (n : Name). MakesSynced n text old mid) (c.as_str.ensures.value ∙ c.in_ok-temp.ensures) (c.in_ok-write_temp.ensures.made shown) in
    on_ok_of c.rename_current.result _ _ (c.rename_current.ensures.done shown)
    (λ did. has_current c.names_one.ensures number c.requires.number text old mid new (c.as_slice.ensures ∙ c.in_ok-text.ensures) made
    (renames_so number c.as_str-2.result.now c.as_str-3.result.now mid new (c.as_str-2.ensures.value ∙ c.in_ok-temp.ensures) (c.as_str-3.ensures.value ∙ c.in_ok-current.ensures) did))

pub returns-clause-steady : goal.returns-clause-steady
returns-clause-steady g c = λ shown names from below maps made edits log h is ready.
    let one = c.names_one.ensures in
    let site = g.S.Site in
    let number = c.args.number in
    let name = c.as_str.result.now in
    let named = c.as_str.ensures.value ∙ c.in_ok-temp.ensures in
    let text = c.as_slice.result.now in
    let old = site.disk c.args.site.now in
    let mid = site.disk c.write_temp.new.site in
    let new = site.disk c.rename_current.new.site in
    let s : Steady = begun made edits log h 0 in
    let others : KeepsAllBut (name_of (Temp number)) old mid = subst (λ (n : Name). KeepsAllBut n old mid) named (keeps_but name old mid (c.write_temp.ensures.touches.others shown)) in
    let ready_mid : IsReady maps s (as_synced names mid) =
    c.renames_make_disks_steady.ensures.ready maps s number (as_synced names old) (as_synced names mid) c.requires.number (keeps_synced names (name_of (Temp number)) old mid others) ready in
    let has : HasText number made.number mid = has_text number made.number name text old mid named (c.as_slice.ensures ∙ c.in_ok-text.ensures ∙ ap current_text (sym is)) (c.in_ok-write_temp.ensures.made shown) in
    let has_now : HasText number made.number (as_synced names mid) = record {
      text = has.text;
      there = unsynced_at one from names mid (Temp number) below c.requires.number tt ∙ has.there;
      synced = has.synced;
      reads = has.reads;
    } in
    on_ok_of c.rename_current.result _ _ (c.rename_current.ensures.done shown)
    (λ did. c.renames_make_disks_steady.ensures.after maps s number (as_synced names mid) (as_synced names new) ready_mid c.requires.number has_now
    (renames_synced one from names mid new (Temp number) Current below c.requires.number tt tt tt
    (renames_so number c.as_str-2.result.now c.as_str-3.result.now mid new (c.as_str-2.ensures.value ∙ c.in_ok-temp.ensures) (c.as_str-3.ensures.value ∙ c.in_ok-current.ensures) did)))

pub returns-clause-cuts : goal.returns-clause-cuts
returns-clause-cuts g c = λ shown sure maps made edits log h is ready none found r.
    let site = g.S.Site in
    let number = c.args.number in
    let name = c.as_str.result.now in
    let named = c.as_str.ensures.value ∙ c.in_ok-temp.ensures in
    let text = c.as_slice.result.now in
    let old = site.disk c.args.site.now in
    let mid = site.disk c.write_temp.new.site in
    let new = site.disk c.rename_current.new.site in
    let s : Steady = begun made edits log h 0 in
    let others : KeepsAllBut (name_of (Temp number)) old mid = subst (λ (n : Name). KeepsAllBut n old mid) named (keeps_but name old mid (c.write_temp.ensures.touches.others shown)) in
    let ready_mid : IsReady maps s mid = c.renames_make_disks_steady.ensures.ready maps s number old mid c.requires.number others ready in
    let has : HasText number made.number mid = has_text number made.number name text old mid named (c.as_slice.ensures ∙ c.in_ok-text.ensures ∙ ap current_text (sym is)) (c.in_ok-write_temp.ensures.made shown) in
    let laws = c.barriers_let_disks_rest.ensures in
    let empty : length h.batches ≡ 0 = ap length none in
    let zero : 0 ≡ accepted s = omega (arith, empty) in
    let back : accepted s ≡ 0 = omega (arith, empty) in
    let all : s.synced ≡ length s.own = omega arith in
    let spare = temp_name found number c.requires.number name named in
    let rest_mid : RestsAs found (maps 0) mid = laws.touched found (maps 0) (name ∷ []) old mid spare (c.write_temp.ensures.touches.others shown) r in
    let at_mid : RestsAs found (maps (accepted s)) mid = subst (λ (n : ℕ). RestsAs found (maps n) mid) zero rest_mid in
    then_standing site (IsLeftAs found (maps 0)) c.args.site.now c.write_temp.new.site c.rename_current.new.site (c.write_temp.ensures.tells_nothing.told shown)
    (spares_stand site laws.left found (maps 0) (name ∷ []) c.args.site.now c.write_temp.new.site spare r (c.write_temp.ensures.touches.cuts shown sure))
    (subst (λ (n : ℕ). LeavesOnly site.clock site.left_since c.write_temp.new.site c.rename_current.new.site (LeavesStanding (IsLeftAs found (maps n)) (site.told c.write_temp.new.site))) back
    (c.rename_current.ensures.cuts shown (c.in_ok-write_temp.ensures.certain shown) maps s found at_mid ready_mid has all))

pub returns-clause-settled : goal.returns-clause-settled
returns-clause-settled g c = λ shown maps made edits log h is usable ready found r.
    let site = g.S.Site in
    let number = c.args.number in
    let name = c.as_str.result.now in
    let named = c.as_str.ensures.value ∙ c.in_ok-temp.ensures in
    let text = c.as_slice.result.now in
    let old = site.disk c.args.site.now in
    let mid = site.disk c.write_temp.new.site in
    let new = site.disk c.rename_current.new.site in
    let s : Steady = begun made edits log h 0 in
    let others : KeepsAllBut (name_of (Temp number)) old mid = subst (λ (n : Name). KeepsAllBut n old mid) named (keeps_but name old mid (c.write_temp.ensures.touches.others shown)) in
    let ready_mid : IsReady maps s mid = c.renames_make_disks_steady.ensures.ready maps s number old mid c.requires.number others ready in
    let has : HasText number made.number mid = has_text number made.number name text old mid named (c.as_slice.ensures ∙ c.in_ok-text.ensures ∙ ap current_text (sym is)) (c.in_ok-write_temp.ensures.made shown) in
    let laws = c.barriers_let_disks_rest.ensures in
    let spare = temp_name found number c.requires.number name named in
    let rest_mid : RestsAs found (maps 0) mid = laws.touched found (maps 0) (name ∷ []) old mid spare (c.write_temp.ensures.touches.others shown) r in
    ⊎_elim
    (λ same. subst IsSettled (sym same) (laws.stay_settled (maps 0) mid (laws.rests found (maps 0) mid rest_mid)))
    (λ did. c.steady_disks_stand.ensures.settled maps s new
    (c.renames_make_disks_steady.ensures.after maps s number mid new ready_mid c.requires.number has
    (renames_so number c.as_str-2.result.now c.as_str-3.result.now mid new (c.as_str-2.ensures.value ∙ c.in_ok-temp.ensures) (c.as_str-3.ensures.value ∙ c.in_ok-current.ensures) did)) usable)
    (c.rename_current.ensures.either shown)

pub returns-in_err-temp-clause-either : goal.returns-in_err-temp-clause-either
returns-in_err-temp-clause-either g c = λ shown. inl refl

pub returns-in_err-current-clause-either : goal.returns-in_err-current-clause-either
returns-in_err-current-clause-either g c = λ shown. inl refl

pub returns-in_err-text-clause-either : goal.returns-in_err-text-clause-either
returns-in_err-text-clause-either g c = λ shown. inl refl

pub returns-in_err-write_temp-clause-either : goal.returns-in_err-write_temp-clause-either
returns-in_err-write_temp-clause-either g c = λ shown.
    let s = g.S.Site in
    inl (current_apart c.names_one.ensures c.args.number c.requires.number c.as_str.result.now (s.disk c.args.site.now) (s.disk c.write_temp.new.site) (c.as_str.ensures.value ∙ c.in_ok-temp.ensures) (c.write_temp.ensures.touches.others shown))

pub returns-clause-either : goal.returns-clause-either
returns-clause-either g c = λ shown.
    let s = g.S.Site in
    let number = c.args.number in
    let text = c.as_slice.result.now in
    let named = c.as_str.ensures.value ∙ c.in_ok-temp.ensures in
    let old = s.disk c.args.site.now in
    let mid = s.disk c.write_temp.new.site in
    let new = s.disk c.rename_current.new.site in
    let made : MakesSynced (name_of (Temp number)) text old mid = subst (λ (n : Name). MakesSynced n text old mid) named (c.in_ok-write_temp.ensures.made shown) in
    ⊎_elim
    (λ same. inl (ap (λ (d : Disk). d (name_of Current)) same ∙ current_apart c.names_one.ensures number c.requires.number c.as_str.result.now old mid named (c.write_temp.ensures.touches.others shown)))
    (λ did. inr (has_current c.names_one.ensures number c.requires.number text old mid new (c.as_slice.ensures ∙ c.in_ok-text.ensures) made
    (renames_so number c.as_str-2.result.now c.as_str-3.result.now mid new (c.as_str-2.ensures.value ∙ c.in_ok-temp.ensures) (c.as_str-3.ensures.value ∙ c.in_ok-current.ensures) did)))
    (c.rename_current.ensures.either shown)
