use Rattle.std.proofs.Common.{◌≡◌, ◌+◌, ◌≤◌, length, true, false, sym, ◌∙◌, ap, subst, arith, inl, inr, [], None, Err, Ok, IsSome}
use Rattle.bl_site.specs.Disk.{Disk}
use Rattle.bl_site.specs.Calls.{LeavesOnly}
use Rattle.bl_site.proofs.Moments.{widened}
use Rattle.bl_site.proofs.Quiet.{silent_on}
use Rattle.bl_names.specs.declared.name.FileName.TheVariants.{Log, Manifest}
use Rattle.bl_open.proofs.FrameLemmas.{apart}
use Rattle.bl_names.specs.Names.{manifest_name}
use Rattle.bl_build.specs.Restoring.{Restored}
use Rattle.bl_manifest.specs.ManifestFile.{ManifestFile}
use Rattle.bl_wal.specs.LogFile.{log_name}
use Rattle.bl_out.specs.Quiet.{IsCutBut}
use Rattle.bl_folder.specs.Flushes.{IsBelow}
use Rattle.bl_open.specs.Flushing.{drawn}
use Rattle.bl_open.specs.Steady.{accepted, durable}
use Rattle.bl_open.specs.SteadyCuts.{LeavesMap}
use Rattle.bl_store.specs.Calls.{CutsOfCall, LeavesStore, WritesOwn}
use Rattle.bl_store.specs.Held.{maps_of}
use Rattle.bl_store.specs.Standing.{IsThere, StandsFor}
use Rattle.bl_store.specs.Stored.{Stored}
use Rattle.bl_store.proofs.BesideLemmas.{cut_beside}
use Rattle.bl_store.proofs.FlushLemmas.{FlushLaws, then_flushed, then_holding, then_installs, then_stands, then_steady}
use Rattle.bl_store.proofs.HeldLemmas.{leaves_within}
use Rattle.bl_store.proofs.MomentLemmas.{both_parts, cut_of, no_call, settled_of}
use Rattle.bl_store.proofs.OwnLemmas.{none_log, none_manifest, none_own}
use Rattle.bl_store.proofs.BreakLemmas.{true_false}
use Rattle.bl_store.proofs.GivesLemmas.{KeptLaws, still_gives}
use Rattle.bl_store.specs.Reading.{view_of}
use Rattle.bl_store.specs.Stored.{IsInOrder}
use Rattle.bl_store.proofs.store.Store.flush_waiting.Goals as goal
use Rattle.bl_store.proofs.store.Store.flush_waiting.Goals.{then-failed, else-failed}

pub returns-in_default-clause-stands : goal.returns-in_default-clause-stands
returns-in_default-clause-stands g c = λ shown names held t.
    let old = g.S.Site.disk c.args.site.now in
    let usable : c.self.inside.broken ≡ false = ap (λ (x : Stored). x.broken) c.self.view_is ∙ c.requires.usable in
    let works : c.args.self.now.manifest.failed ≡ false = ap (λ (x : Stored). x.manifest.failed) (sym c.self.view_is) ∙ c.self.invariant.manifest usable in
    record {
      ok = t;
      err = tt;
      settled = λ none chance. settled_of c.steady_disks_stand.ensures.settled held c.args.self.now old (subst (λ ns. StandsFor ns held c.args.self.now old) none t) works;
    }

pub returns-in_default-clause-cuts : goal.returns-in_default-clause-cuts
returns-in_default-clause-cuts g c = λ shown sure held t.
    let s = g.S.Site in
    let old = c.args.site.now in
    no_call s old (LeavesMap (maps_of held) held.durable (length held.writes)) (λ other. g.met.S.Site.only shown old other sure) (g.met.S.Site.only_now shown old)
    (λ k cut. cut_of c.steady_disks_are_left.ensures.cuts held c.args.self.now (s.disk old) (s.told old) k t cut)

-- ---- the files could not be made

pub returns-in-Err-clause-stands : goal.returns-in-Err-clause-stands
returns-in-Err-clause-stands g c = λ shown names held.
    let s = g.S.Site in
    let old = s.disk c.args.site.now in
    let mid = s.disk c.write_files.new.site in
    let m = c.write_files.ensures in
    let next = c.write_files.new.numbers in
    let b = c.breaks-self-inside.result in
    let i = c.self.inside in
    let here : Stored = record { version = i.version; standing = i.standing; manifest = i.manifest; log = i.wal; next = i.numbers; last = i.last; memory = i.memory; waiting = i.waiting; broken = i.broken } in
    let usable : i.broken ≡ false = ap (λ (x : Stored). x.broken) c.self.view_is ∙ c.requires.usable in
    let laws : FlushLaws = record {
      one = c.names_one.ensures;
      unneeded = c.drawn_files_let_disks_rest.ensures.unneeded;
      written = c.steady_disks_stand.ensures.written;
      quiet = c.quiet_calls_keep_disks_steady.ensures.keeps;
      whole = c.held_are_whole.ensures;
      applies = c.flushes_keep_maps.ensures.apply;
      restore = c.tables_are_installed.ensures.edits;
      reads = c.index_is_read_again.ensures;
      spells = c.blob_indexes_are_unique.ensures.spelled;
      there = c.flushed_folders_stand.ensures.there;
      keeps = c.flushes_keep_maps.ensures.files;
      fronts = c.flushes_keep_maps.ensures.fronts;
      installs = c.tables_are_installed.ensures.flushes;
      counts = c.installations_keep_disks_steady.ensures.counts;
    } in
    let P : Stored → Type 0 = λ x. StandsFor names held x old → LeavesStore {T = Unit {0}} names held held (Err c.in-Err.error) (record here { next = next; broken = b }) mid in
    subst P c.self.view_is (λ t. record {
      ok = tt;
      err = λ no_. then_stands laws names held here old mid t next m.upwards m.most (m.touches.others shown) b;
      settled = λ none chance.
          settled_of c.steady_disks_stand.ensures.settled held (record here { next = next; broken = b }) mid
          (subst (λ ns. StandsFor ns held (record here { next = next; broken = b }) mid) none (then_stands laws names held here old mid t next m.upwards m.most (m.touches.others shown) b)) (c.self.invariant.manifest usable);
    })

pub returns-in-Err-clause-cuts : goal.returns-in-Err-clause-cuts
returns-in-Err-clause-cuts g c = λ shown sure held.
    let s = g.S.Site in
    let old = c.args.site.now in
    let mid = c.write_files.new.site in
    let m = c.write_files.ensures in
    let next = c.write_files.new.numbers in
    let i = c.self.inside in
    let here : Stored = record { version = i.version; standing = i.standing; manifest = i.manifest; log = i.wal; next = i.numbers; last = i.last; memory = i.memory; waiting = i.waiting; broken = i.broken } in
    let usable : i.broken ≡ false = ap (λ (x : Stored). x.broken) c.self.view_is ∙ c.requires.usable in
    let first : StandsFor [] held here (s.disk old) → LeavesOnly s.clock s.left_since old mid (LeavesMap (maps_of held) held.durable (length held.writes) (s.told old)) = λ t.
    let durable_ = t.durable in
    let writes = t.writes in
    let less = t.carries.ahead.log in
    widened s.clock s.left_since old mid (IsCutBut (drawn i.numbers next) (s.disk old) (s.told old)) (LeavesMap (maps_of held) held.durable (length held.writes) (s.told old))
    (λ k cut. leaves_within (maps_of held) (durable t.steady) held.durable (accepted t.steady) (length held.writes) (s.told old) k durable_ (omega (arith, writes))
    (cut_beside c.names_one.ensures c.drawn_files_let_disks_rest.ensures.unneeded c.synced_manifests_are_left.ensures c.folders_stand_for_one_map.ensures.live c.other_files_do_not_matter.ensures.frame c.quiet_cuts_keep_needed.ensures.cuts c.quiet_cuts_keep_needed.ensures.keep c.steady_disks_are_left.ensures.cuts (maps_of held) t.steady (s.disk old) t.is_steady i.numbers next (omega (arith, less)) m.most
    (subst (λ (r : Restored). IsBelow i.numbers r.version) (sym t.carries.live) t.carries.ahead.version) (s.told old) k cut))
    (m.touches.cuts shown sure) in
    let P : Stored → Type 0 = λ x. StandsFor [] held x (s.disk old) → CutsOfCall s held held old mid in
    subst P c.self.view_is first

pub returns-in-Err-clause-own : goal.returns-in-Err-clause-own
returns-in-Err-clause-own g c =
    let s = g.S.Site in
    let old = c.args.site.now in
    let mid = c.write_files.new.site in
    let m = c.write_files.ensures in
    let next = c.write_files.new.numbers in
    let b = c.breaks-self-inside.result in
    let i = c.self.inside in
    let here : Stored = record { version = i.version; standing = i.standing; manifest = i.manifest; log = i.wal; next = i.numbers; last = i.last; memory = i.memory; waiting = i.waiting; broken = i.broken } in
    let usable : i.broken ≡ false = ap (λ (x : Stored). x.broken) c.self.view_is ∙ c.requires.usable in
    let after : Stored = record here { next = next; broken = b } in
    let P : Stored → Type 0 = λ x. (s.shows → IsThere x (s.disk old)) → WritesOwn {T = Unit {0}} s (Err c.in-Err.error) x after old mid in
    let some : 1 ≤ i.numbers = (let is = c.next-before.ensures.value in let least = c.next-before.ensures.some in omega (arith, is, least)) in
    subst P c.self.view_is (λ there. record {
      tells_nothing = m.tells_nothing;
      others = λ shown name own. m.touches.others shown name (none_own here after name some m.most own);
      there = λ shown. record {
        manifest = subst IsSome (sym (m.touches.others shown (manifest_name i.manifest.number) (none_manifest c.names_one.ensures i.numbers next i.manifest.number some m.most c.self.invariant.manifest_number))) (there shown).manifest;
        log = subst IsSome (sym (m.touches.others shown (log_name i.wal.number) (none_log c.names_one.ensures i.numbers next i.wal.number some m.most c.self.invariant.log_number))) (there shown).log;
      };
      certain = λ shown sure. tt;
    }) c.requires.there

pub install-requires-clause-there : goal.install-requires-clause-there
install-requires-clause-there g c = λ shown.
    let s = g.S.Site in
    let m = c.write_files.ensures in
    let next = c.write_files.new.numbers in
    let i = c.self.inside in
    let some : 1 ≤ i.numbers = (let is = c.next-before.ensures.value in let least = c.next-before.ensures.some in omega (arith, is, least)) in
    let there = subst (λ (x : Stored). IsSome (s.disk c.args.site.now (manifest_name x.manifest.number))) (sym c.self.view_is) (c.requires.there shown).manifest in
    subst IsSome (sym (m.touches.others shown (manifest_name i.manifest.number) (none_manifest c.names_one.ensures i.numbers next i.manifest.number some m.most c.self.invariant.manifest_number))) there

-- ---- the flush is installed

pub returns-in-Ok-install-clause-stands : goal.returns-in-Ok-install-clause-stands
returns-in-Ok-install-clause-stands g c = λ shown names held.
    let s = g.S.Site in
    let old = s.disk c.args.site.now in
    let mid = s.disk c.write_files.new.site in
    let new = s.disk c.install.new.site in
    let m = c.write_files.ensures in
    let e = c.in-Ok-install.ensures in
    let next = c.write_files.new.numbers in
    let w = c.in-Some.waiting in
    let i = c.self.inside in
    let here : Stored = record { version = i.version; standing = i.standing; manifest = i.manifest; log = i.wal; next = i.numbers; last = i.last; memory = i.memory; waiting = i.waiting; broken = i.broken } in
    let usable : i.broken ≡ false = ap (λ (x : Stored). x.broken) c.self.view_is ∙ c.requires.usable in
    let laws : FlushLaws = record {
      one = c.names_one.ensures;
      unneeded = c.drawn_files_let_disks_rest.ensures.unneeded;
      written = c.steady_disks_stand.ensures.written;
      quiet = c.quiet_calls_keep_disks_steady.ensures.keeps;
      whole = c.held_are_whole.ensures;
      applies = c.flushes_keep_maps.ensures.apply;
      restore = c.tables_are_installed.ensures.edits;
      reads = c.index_is_read_again.ensures;
      spells = c.blob_indexes_are_unique.ensures.spelled;
      there = c.flushed_folders_stand.ensures.there;
      keeps = c.flushes_keep_maps.ensures.files;
      fronts = c.flushes_keep_maps.ensures.fronts;
      installs = c.tables_are_installed.ensures.flushes;
      counts = c.installations_keep_disks_steady.ensures.counts;
    } in
    let after : Stored = record here { version = c.in-Ok-install.version; standing = record i.standing { log_number = w.log; next_file = c.next-self-inside.result; last_sequence = w.last }; manifest = c.install.new.manifest; next = next; waiting = None } in
    let works : c.install.new.manifest.failed ≡ false = e.usable in
    let P : Stored → Type 0 = λ x. StandsFor names held x old → LeavesStore {T = Unit {0}} names held held (Ok (tt {0})) after new in
    subst P c.self.view_is (λ t.
    let made = c.in-Ok.ensures.made shown in
    let holding = then_holding laws names held here old mid t next m.upwards m.most (m.touches.others shown) w c.in-Some.is c.in-Ok.edit made in
    let may = then_installs laws names held here old mid t next m.upwards m.most (m.touches.others shown) w c.in-Some.is c.in-Ok.edit made in
    let mid_steady = then_steady laws names held here old mid t next m.upwards m.most (m.touches.others shown) in
    let steady = e.steady shown names i.numbers (maps_of held) t.steady holding (t.steady.before + t.steady.below) 0 t.found c.self.invariant.manifest_number mid_steady t.carries.manifest may in
    let flushed = then_flushed laws names held here old mid t next m.upwards m.most (m.touches.others shown) w c.in-Some.is c.in-Ok.edit made c.install.new.manifest e.number c.in-Ok-install.version e.next new steady in
    let stands : StandsFor names held after new = subst (λ n. StandsFor names held (record after { standing = record i.standing { log_number = w.log; next_file = n; last_sequence = w.last } }) new) (sym c.next-self-inside.ensures.value) flushed in
    record {
      ok = stands;
      err = tt;
      settled = λ none chance. settled_of c.steady_disks_stand.ensures.settled held after new (subst (λ ns. StandsFor ns held after new) none stands) works;
    })

pub returns-in-Ok-install-clause-cuts : goal.returns-in-Ok-install-clause-cuts
returns-in-Ok-install-clause-cuts g c = λ shown sure held.
    let s = g.S.Site in
    let old = c.args.site.now in
    let mid = c.write_files.new.site in
    let new = c.install.new.site in
    let m = c.write_files.ensures in
    let e = c.install.ensures in
    let next = c.write_files.new.numbers in
    let w = c.in-Some.waiting in
    let i = c.self.inside in
    let here : Stored = record { version = i.version; standing = i.standing; manifest = i.manifest; log = i.wal; next = i.numbers; last = i.last; memory = i.memory; waiting = i.waiting; broken = i.broken } in
    let usable : i.broken ≡ false = ap (λ (x : Stored). x.broken) c.self.view_is ∙ c.requires.usable in
    let laws : FlushLaws = record {
      one = c.names_one.ensures;
      unneeded = c.drawn_files_let_disks_rest.ensures.unneeded;
      written = c.steady_disks_stand.ensures.written;
      quiet = c.quiet_calls_keep_disks_steady.ensures.keeps;
      whole = c.held_are_whole.ensures;
      applies = c.flushes_keep_maps.ensures.apply;
      restore = c.tables_are_installed.ensures.edits;
      reads = c.index_is_read_again.ensures;
      spells = c.blob_indexes_are_unique.ensures.spelled;
      there = c.flushed_folders_stand.ensures.there;
      keeps = c.flushes_keep_maps.ensures.files;
      fronts = c.flushes_keep_maps.ensures.fronts;
      installs = c.tables_are_installed.ensures.flushes;
      counts = c.installations_keep_disks_steady.ensures.counts;
    } in
    let first : StandsFor [] held here (s.disk old) → LeavesOnly s.clock s.left_since old mid (LeavesMap (maps_of held) held.durable (length held.writes) (s.told old)) = λ t.
    let durable_ = t.durable in
    let writes = t.writes in
    let less = t.carries.ahead.log in
    widened s.clock s.left_since old mid (IsCutBut (drawn i.numbers next) (s.disk old) (s.told old)) (LeavesMap (maps_of held) held.durable (length held.writes) (s.told old))
    (λ k cut. leaves_within (maps_of held) (durable t.steady) held.durable (accepted t.steady) (length held.writes) (s.told old) k durable_ (omega (arith, writes))
    (cut_beside c.names_one.ensures c.drawn_files_let_disks_rest.ensures.unneeded c.synced_manifests_are_left.ensures c.folders_stand_for_one_map.ensures.live c.other_files_do_not_matter.ensures.frame c.quiet_cuts_keep_needed.ensures.cuts c.quiet_cuts_keep_needed.ensures.keep c.steady_disks_are_left.ensures.cuts (maps_of held) t.steady (s.disk old) t.is_steady i.numbers next (omega (arith, less)) m.most
    (subst (λ (r : Restored). IsBelow i.numbers r.version) (sym t.carries.live) t.carries.ahead.version) (s.told old) k cut))
    (m.touches.cuts shown sure) in
    let P : Stored → Type 0 = λ x. StandsFor [] held x (s.disk old) → CutsOfCall s held held old new in
    subst P c.self.view_is (λ t.
    let made = c.in-Ok.ensures.made shown in
    let durable_ = t.durable in
    let writes = t.writes in
    let holding = then_holding laws [] held here (s.disk old) (s.disk mid) t next m.upwards m.most (m.touches.others shown) w c.in-Some.is c.in-Ok.edit made in
    let may = then_installs laws [] held here (s.disk old) (s.disk mid) t next m.upwards m.most (m.touches.others shown) w c.in-Some.is c.in-Ok.edit made in
    let mid_steady = then_steady laws [] held here (s.disk old) (s.disk mid) t next m.upwards m.most (m.touches.others shown) in
    both_parts s old mid new (LeavesMap (maps_of held) held.durable (length held.writes)) (m.tells_nothing.told shown) (first t)
    (widened s.clock s.left_since mid new (LeavesMap (maps_of held) (durable t.steady) (accepted t.steady) (s.told mid)) (LeavesMap (maps_of held) held.durable (length held.writes) (s.told mid))
    (λ k l. leaves_within (maps_of held) (durable t.steady) held.durable (accepted t.steady) (length held.writes) (s.told mid) k durable_ (omega (arith, writes)) l)
    (e.cuts shown (c.in-Ok.ensures.certain shown sure) (maps_of held) t.steady holding (t.steady.before + t.steady.below) 0 mid_steady t.carries.manifest may)))

pub returns-in-Ok-install-clause-own : goal.returns-in-Ok-install-clause-own
returns-in-Ok-install-clause-own g c =
    let s = g.S.Site in
    let old = c.args.site.now in
    let mid = c.write_files.new.site in
    let new = c.install.new.site in
    let m = c.write_files.ensures in
    let e = c.in-Ok-install.ensures in
    let next = c.write_files.new.numbers in
    let w = c.in-Some.waiting in
    let i = c.self.inside in
    let here : Stored = record { version = i.version; standing = i.standing; manifest = i.manifest; log = i.wal; next = i.numbers; last = i.last; memory = i.memory; waiting = i.waiting; broken = i.broken } in
    let usable : i.broken ≡ false = ap (λ (x : Stored). x.broken) c.self.view_is ∙ c.requires.usable in
    let after : Stored = record here { version = c.in-Ok-install.version; standing = record i.standing { log_number = w.log; next_file = c.next-self-inside.result; last_sequence = w.last }; manifest = c.install.new.manifest; next = next; waiting = None } in
    let P : Stored → Type 0 = λ x. (s.shows → IsThere x (s.disk old)) → WritesOwn {T = Unit {0}} s (Ok (tt {0})) x after old new in
    let some : 1 ≤ i.numbers = (let is = c.next-before.ensures.value in let least = c.next-before.ensures.some in omega (arith, is, least)) in
    subst P c.self.view_is (λ there. record {
      tells_nothing = silent_on s old mid new m.tells_nothing e.tells_nothing;
      others = λ shown name own. e.keeps shown name (λ is. own (inr (inl is))) ∙ m.touches.others shown name (none_own here after name some m.most own);
      there = λ shown. record {
        manifest = subst (λ n. IsSome (s.disk new (manifest_name n))) (sym e.number) (e.there shown);
        log = subst IsSome (sym (e.keeps shown (log_name i.wal.number) (apart c.names_one.ensures (Log i.wal.number) (Manifest i.manifest.number) c.self.invariant.log_number c.self.invariant.manifest_number (λ x. cc x))
            ∙ m.touches.others shown (log_name i.wal.number) (none_log c.names_one.ensures i.numbers next i.wal.number some m.most c.self.invariant.log_number))) (there shown).log;
      };
      certain = λ shown sure. e.certain shown (c.in-Ok.ensures.certain shown sure);
    }) c.requires.there

-- ---- it could not be installed

pub returns-clause-stands : goal.returns-clause-stands
returns-clause-stands g c = λ shown names held.
    let s = g.S.Site in
    let old = s.disk c.args.site.now in
    let mid = s.disk c.write_files.new.site in
    let new = s.disk c.install.new.site in
    let m = c.write_files.ensures in
    let e = c.in-Err-install.ensures in
    let next = c.write_files.new.numbers in
    let w = c.in-Some.waiting in
    let b = c.if-failed.self in
    let i = c.self.inside in
    let here : Stored = record { version = i.version; standing = i.standing; manifest = i.manifest; log = i.wal; next = i.numbers; last = i.last; memory = i.memory; waiting = i.waiting; broken = i.broken } in
    let usable : i.broken ≡ false = ap (λ (x : Stored). x.broken) c.self.view_is ∙ c.requires.usable in
    let laws : FlushLaws = record {
      one = c.names_one.ensures;
      unneeded = c.drawn_files_let_disks_rest.ensures.unneeded;
      written = c.steady_disks_stand.ensures.written;
      quiet = c.quiet_calls_keep_disks_steady.ensures.keeps;
      whole = c.held_are_whole.ensures;
      applies = c.flushes_keep_maps.ensures.apply;
      restore = c.tables_are_installed.ensures.edits;
      reads = c.index_is_read_again.ensures;
      spells = c.blob_indexes_are_unique.ensures.spelled;
      there = c.flushed_folders_stand.ensures.there;
      keeps = c.flushes_keep_maps.ensures.files;
      fronts = c.flushes_keep_maps.ensures.fronts;
      installs = c.tables_are_installed.ensures.flushes;
      counts = c.installations_keep_disks_steady.ensures.counts;
    } in
    let after : Stored = record here { manifest = c.install.new.manifest; next = next; broken = b } in
    let P : Stored → Type 0 = λ x. StandsFor names held x old → LeavesStore {T = Unit {0}} names held held (Err c.in-Err-install.error) after new in
    subst P c.self.view_is (λ t. record {
      ok = tt;
      err = λ no_. elim e.asked [
        | inl failed ↦ elim c.if-failed.branch [
          | then-failed k ↦ absurd (true_false (sym k.if-failed.true ∙ sym k.self-is ∙ no_))
          | else-failed k ↦ (let is : c.failed.result ≡ true = c.failed.ensures ∙ failed.0 in absurd (true_false (sym is ∙ k.if-failed.false)))
        ]
        | inr still ↦
            let there = then_stands laws names held here old mid t next m.upwards m.most (m.touches.others shown) b in
            subst (λ (d : Disk). StandsFor names held after d) (ap s.disk (sym still.2))
            (subst (λ (f : ManifestFile). StandsFor names held (record here { manifest = f; next = next; broken = b }) mid) (sym still.1) there)
      ];
      settled = λ none chance.
          let t0 = subst (λ ns. StandsFor ns held here old) none t in
          let made = c.in-Ok.ensures.made shown in
          let holding = then_holding laws [] held here old mid t0 next m.upwards m.most (m.touches.others shown) w c.in-Some.is c.in-Ok.edit made in
          let may = then_installs laws [] held here old mid t0 next m.upwards m.most (m.touches.others shown) w c.in-Some.is c.in-Ok.edit made in
          let mid_steady = then_steady laws [] held here old mid t0 next m.upwards m.most (m.touches.others shown) in
          e.settled shown (maps_of held) t0.steady holding (t0.steady.before + t0.steady.below) 0 mid_steady t0.carries.manifest may chance;
    })

pub returns-clause-cuts : goal.returns-clause-cuts
returns-clause-cuts g c = λ shown sure held.
    let s = g.S.Site in
    let old = c.args.site.now in
    let mid = c.write_files.new.site in
    let new = c.install.new.site in
    let m = c.write_files.ensures in
    let e = c.install.ensures in
    let next = c.write_files.new.numbers in
    let w = c.in-Some.waiting in
    let i = c.self.inside in
    let here : Stored = record { version = i.version; standing = i.standing; manifest = i.manifest; log = i.wal; next = i.numbers; last = i.last; memory = i.memory; waiting = i.waiting; broken = i.broken } in
    let usable : i.broken ≡ false = ap (λ (x : Stored). x.broken) c.self.view_is ∙ c.requires.usable in
    let laws : FlushLaws = record {
      one = c.names_one.ensures;
      unneeded = c.drawn_files_let_disks_rest.ensures.unneeded;
      written = c.steady_disks_stand.ensures.written;
      quiet = c.quiet_calls_keep_disks_steady.ensures.keeps;
      whole = c.held_are_whole.ensures;
      applies = c.flushes_keep_maps.ensures.apply;
      restore = c.tables_are_installed.ensures.edits;
      reads = c.index_is_read_again.ensures;
      spells = c.blob_indexes_are_unique.ensures.spelled;
      there = c.flushed_folders_stand.ensures.there;
      keeps = c.flushes_keep_maps.ensures.files;
      fronts = c.flushes_keep_maps.ensures.fronts;
      installs = c.tables_are_installed.ensures.flushes;
      counts = c.installations_keep_disks_steady.ensures.counts;
    } in
    let first : StandsFor [] held here (s.disk old) → LeavesOnly s.clock s.left_since old mid (LeavesMap (maps_of held) held.durable (length held.writes) (s.told old)) = λ t.
    let durable_ = t.durable in
    let writes = t.writes in
    let less = t.carries.ahead.log in
    widened s.clock s.left_since old mid (IsCutBut (drawn i.numbers next) (s.disk old) (s.told old)) (LeavesMap (maps_of held) held.durable (length held.writes) (s.told old))
    (λ k cut. leaves_within (maps_of held) (durable t.steady) held.durable (accepted t.steady) (length held.writes) (s.told old) k durable_ (omega (arith, writes))
    (cut_beside c.names_one.ensures c.drawn_files_let_disks_rest.ensures.unneeded c.synced_manifests_are_left.ensures c.folders_stand_for_one_map.ensures.live c.other_files_do_not_matter.ensures.frame c.quiet_cuts_keep_needed.ensures.cuts c.quiet_cuts_keep_needed.ensures.keep c.steady_disks_are_left.ensures.cuts (maps_of held) t.steady (s.disk old) t.is_steady i.numbers next (omega (arith, less)) m.most
    (subst (λ (r : Restored). IsBelow i.numbers r.version) (sym t.carries.live) t.carries.ahead.version) (s.told old) k cut))
    (m.touches.cuts shown sure) in
    let P : Stored → Type 0 = λ x. StandsFor [] held x (s.disk old) → CutsOfCall s held held old new in
    subst P c.self.view_is (λ t.
    let made = c.in-Ok.ensures.made shown in
    let durable_ = t.durable in
    let writes = t.writes in
    let holding = then_holding laws [] held here (s.disk old) (s.disk mid) t next m.upwards m.most (m.touches.others shown) w c.in-Some.is c.in-Ok.edit made in
    let may = then_installs laws [] held here (s.disk old) (s.disk mid) t next m.upwards m.most (m.touches.others shown) w c.in-Some.is c.in-Ok.edit made in
    let mid_steady = then_steady laws [] held here (s.disk old) (s.disk mid) t next m.upwards m.most (m.touches.others shown) in
    both_parts s old mid new (LeavesMap (maps_of held) held.durable (length held.writes)) (m.tells_nothing.told shown) (first t)
    (widened s.clock s.left_since mid new (LeavesMap (maps_of held) (durable t.steady) (accepted t.steady) (s.told mid)) (LeavesMap (maps_of held) held.durable (length held.writes) (s.told mid))
    (λ k l. leaves_within (maps_of held) (durable t.steady) held.durable (accepted t.steady) (length held.writes) (s.told mid) k durable_ (omega (arith, writes)) l)
    (e.cuts shown (c.in-Ok.ensures.certain shown sure) (maps_of held) t.steady holding (t.steady.before + t.steady.below) 0 mid_steady t.carries.manifest may)))

pub returns-clause-own : goal.returns-clause-own
returns-clause-own g c =
    let s = g.S.Site in
    let old = c.args.site.now in
    let mid = c.write_files.new.site in
    let new = c.install.new.site in
    let m = c.write_files.ensures in
    let e = c.in-Err-install.ensures in
    let next = c.write_files.new.numbers in
    let i = c.self.inside in
    let here : Stored = record { version = i.version; standing = i.standing; manifest = i.manifest; log = i.wal; next = i.numbers; last = i.last; memory = i.memory; waiting = i.waiting; broken = i.broken } in
    let usable : i.broken ≡ false = ap (λ (x : Stored). x.broken) c.self.view_is ∙ c.requires.usable in
    let after : Stored = record here { manifest = c.install.new.manifest; next = next; broken = c.if-failed.self } in
    let P : Stored → Type 0 = λ x. (s.shows → IsThere x (s.disk old)) → WritesOwn {T = Unit {0}} s (Err c.in-Err-install.error) x after old new in
    let some : 1 ≤ i.numbers = (let is = c.next-before.ensures.value in let least = c.next-before.ensures.some in omega (arith, is, least)) in
    subst P c.self.view_is (λ there. record {
      tells_nothing = silent_on s old mid new m.tells_nothing e.tells_nothing;
      others = λ shown name own. e.keeps shown name (λ is. own (inr (inl is))) ∙ m.touches.others shown name (none_own here after name some m.most own);
      there = λ shown. record {
        manifest = subst (λ n. IsSome (s.disk new (manifest_name n))) (sym e.number) (e.there shown);
        log = subst IsSome (sym (e.keeps shown (log_name i.wal.number) (apart c.names_one.ensures (Log i.wal.number) (Manifest i.manifest.number) c.self.invariant.log_number c.self.invariant.manifest_number (λ x. cc x))
            ∙ m.touches.others shown (log_name i.wal.number) (none_log c.names_one.ensures i.numbers next i.wal.number some m.most c.self.invariant.log_number))) (there shown).log;
      };
      certain = λ shown sure. tt;
    }) c.requires.there

-- ---- what readers are given behind a failure

pub returns-in-Err-clause-gives : goal.returns-in-Err-clause-gives
returns-in-Err-clause-gives g c = λ shown names held t.
    let s = g.S.Site in
    let i = c.self.inside in
    let here : Stored = record { version = i.version; standing = i.standing; manifest = i.manifest; log = i.wal; next = i.numbers; last = i.last; memory = i.memory; waiting = i.waiting; broken = i.broken } in
    let after : Stored = record here { next = c.write_files.new.numbers; broken = c.breaks-self-inside.result } in
    let laws : KeptLaws = record { one = c.names_one.ensures; whole = c.held_are_whole.ensures; written = c.steady_disks_stand.ensures.written; gives = c.stores_give_their_map.ensures } in
    still_gives laws names held c.args.self.now after (s.disk c.args.site.now) (s.disk c.write_files.new.site) (subst IsInOrder c.self.view_is c.self.invariant) c.requires.usable t ((returns-in-Err-clause-own g c).others shown)
    (ap view_of c.self.view_is) (ap (λ (x : Stored). x.last) c.self.view_is)

pub returns-clause-gives : goal.returns-clause-gives
returns-clause-gives g c = λ shown names held t.
    let s = g.S.Site in
    let i = c.self.inside in
    let here : Stored = record { version = i.version; standing = i.standing; manifest = i.manifest; log = i.wal; next = i.numbers; last = i.last; memory = i.memory; waiting = i.waiting; broken = i.broken } in
    let after : Stored = record here { manifest = c.install.new.manifest; next = c.write_files.new.numbers; broken = c.if-failed.self } in
    let laws : KeptLaws = record { one = c.names_one.ensures; whole = c.held_are_whole.ensures; written = c.steady_disks_stand.ensures.written; gives = c.stores_give_their_map.ensures } in
    still_gives laws names held c.args.self.now after (s.disk c.args.site.now) (s.disk c.install.new.site) (subst IsInOrder c.self.view_is c.self.invariant) c.requires.usable t ((returns-clause-own g c).others shown)
    (ap view_of c.self.view_is) (ap (λ (x : Stored). x.last) c.self.view_is)
