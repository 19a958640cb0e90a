use Rattle.std.proofs.Common.{◌≡◌, ◌⊎◌, ◌∙◌, ℕ, List, inl, inr, Err, Some, IsSome, [], ap, sym, subst}
use Rattle.std.proofs.lemmas.Result.{err_from_is_err_and}
use Rattle.bl_site.specs.Disk.{Disk, Folder, folder_of, written_of}
use Rattle.bl_names.specs.declared.name.FileName.TheVariants.{Manifest}
use Rattle.bl_names.specs.Names.{manifest_name}
use Rattle.bl_out.specs.Files.{file}
use Rattle.bl_build.specs.Listing.{Listing}
use Rattle.bl_folder.specs.Flushes.{IsBelow}
use Rattle.bl_folder.specs.Live.{IsLive}
use Rattle.bl_folder.specs.Settled.{IsSettled}
use Rattle.bl_folder.specs.Stands.{Stands}
use Rattle.bl_records.specs.Causes.{IsCause}
use Rattle.bl_records.specs.Chance.{NoChanceMatch}
use Rattle.bl_folder.specs.Logs.{HaveBatches}
use Rattle.bl_folder.specs.Numbers.{IsFirstNumber}
use Rattle.bl_open.proofs.AnswerLemmas.{loading_not_full, missing_not_full, missing_refused, reading_not_full, reading_refused}
use Rattle.bl_open.specs.Keeping.{KeepsAllButLogs}
use Rattle.bl_open.proofs.FullLemmas.{full_loaded, on_ok, taken_enough}
use Rattle.bl_open.proofs.KeepLemmas.{begun_kept, failed_kept, same_kept, synced_kept}
use Rattle.bl_open.proofs.MomentLemmas.{all_or, none_synced, some_then}
use Rattle.bl_open.proofs.OpenedLemmas.{cause_not_full, cause_silent, each_and, each_ok, new_or_found, no_telling, nothing_cuts, silent_same, some_in, the_logs, then_cuts}
use Rattle.bl_open.proofs.ReadLemmas.{reads_make_nothing, then_nothing, then_reads}
use Rattle.bl_open.proofs.RefusalLemmas.{due_of, loaded_not_refused, none_refused}
use Rattle.bl_open.proofs.StartingLemmas.{held_as_synced, live_stands, starts_live}
use Rattle.bl_open.specs.Answers.{IsLoading, IsReading}
use Rattle.bl_open.specs.Barrier.{AreTheLogs, MakesNothing, SyncsSome}
use Rattle.bl_open.specs.SteadyCuts.{IsLeftFor}
use Rattle.bl_open.specs.Beginning.{AddsFlush, IsNumbered, IsOpened, IsOpenedAsSynced, IsWithin, first_file}
use Rattle.bl_open.specs.Synced.{AreFilesBelow, as_synced}
use Rattle.bl_open.specs.Damage.{NamesManifest}
use Rattle.bl_open.specs.Found.{RestsAs}
use Rattle.bl_open.specs.Listing.{AreListed, AreLogs}
use Rattle.bl_open.specs.Recovering.{HasLoaded, IsFull, IsRefused, IsRefusal, TakesLive, TakesOver}
use Rattle.bl_open.specs.declared.error.OpenErr.TheVariants.{Disk as DiskFailed, Corrupt, OutOfMemory}
use Rattle.bl_open.proofs.opening.recover_live.Goals as goal

pub returns-in_err-manifest-clause-cuts : goal.returns-in_err-manifest-clause-cuts
returns-in_err-manifest-clause-cuts g c = λ shown settled m stands.
    let laws = g.met.S.Site in
    let site = g.S.Site in
    let s0 = c.args.site.now in
    let s1 = c.read_current.new.site in
    let n1 = reads_make_nothing site shown (λ x. laws.only_now shown x) (λ x. laws.counts_now shown x) (λ x other sure. laws.only shown x other sure) (λ x. laws.remnant shown x) s0 s1 c.read_current.ensures.quiet in
    nothing_cuts site shown (λ x. laws.only_now shown x) (λ x. laws.counts_now shown x) (λ x other sure. laws.only shown x other sure) (λ x. laws.remnant shown x) (IsLeftFor m) s0 s1 n1

pub returns-in_err-manifest-clause-settled : goal.returns-in_err-manifest-clause-settled
returns-in_err-manifest-clause-settled g c = λ shown settled sound no_chance. subst IsSettled (sym (c.read_current.ensures.quiet.stays shown).same) settled

pub returns-in_err-check_manifest-clause-cuts : goal.returns-in_err-check_manifest-clause-cuts
returns-in_err-check_manifest-clause-cuts g c = λ shown settled m stands.
    let laws = g.met.S.Site in
    let site = g.S.Site in
    let s0 = c.args.site.now in
    let s1 = c.read_current.new.site in
    let n1 = reads_make_nothing site shown (λ x. laws.only_now shown x) (λ x. laws.counts_now shown x) (λ x other sure. laws.only shown x other sure) (λ x. laws.remnant shown x) s0 s1 c.read_current.ensures.quiet in
    nothing_cuts site shown (λ x. laws.only_now shown x) (λ x. laws.counts_now shown x) (λ x other sure. laws.only shown x other sure) (λ x. laws.remnant shown x) (IsLeftFor m) s0 s1 n1

pub returns-in_err-check_manifest-clause-settled : goal.returns-in_err-check_manifest-clause-settled
returns-in_err-check_manifest-clause-settled g c = λ shown settled sound no_chance. subst IsSettled (sym (c.read_current.ensures.quiet.stays shown).same) settled

pub returns-in_err-logs-clause-cuts : goal.returns-in_err-logs-clause-cuts
returns-in_err-logs-clause-cuts g c = λ shown settled m stands.
    let laws = g.met.S.Site in
    let site = g.S.Site in
    let s0 = c.args.site.now in
    let s1 = c.read_current.new.site in
    let n1 = reads_make_nothing site shown (λ x. laws.only_now shown x) (λ x. laws.counts_now shown x) (λ x other sure. laws.only shown x other sure) (λ x. laws.remnant shown x) s0 s1 c.read_current.ensures.quiet in
    nothing_cuts site shown (λ x. laws.only_now shown x) (λ x. laws.counts_now shown x) (λ x other sure. laws.only shown x other sure) (λ x. laws.remnant shown x) (IsLeftFor m) s0 s1 n1

pub returns-in_err-logs-clause-settled : goal.returns-in_err-logs-clause-settled
returns-in_err-logs-clause-settled g c = λ shown settled sound no_chance. subst IsSettled (sym (c.read_current.ensures.quiet.stays shown).same) settled

pub returns-in_err-manifest-clause-answers : goal.returns-in_err-manifest-clause-answers
returns-in_err-manifest-clause-answers g c = λ shown.
    let folder = folder_of (g.S.Site.disk c.args.site.now) in
    let p = err_from_is_err_and c.from_residual.result c.from_residual.ensures.1 in
    let reading = subst IsReading (sym p.2) c.in_err-manifest.ensures.causes in
    due_of c.damage_is_one.ensures.one c.folders_stand_for_one_map.ensures.live c.lacking_folders_are_not_live.ensures.live folder c.args.asked.now p.0 c.from_residual.result p.1
    (reading_refused folder c.args.asked.now p.0 reading (λ name place e. inl (inr (inl (c.in_err-manifest.ensures.corrupt shown name place (ap Err (sym p.2 ∙ e)))))))
    (λ n full. absurd (reading_not_full p.0 n reading full))

pub returns-in_err-check_manifest-clause-answers : goal.returns-in_err-check_manifest-clause-answers
returns-in_err-check_manifest-clause-answers g c = λ shown.
    let folder = folder_of (g.S.Site.disk c.args.site.now) in
    let p = err_from_is_err_and c.from_residual-in_err-check_manifest.result c.from_residual-in_err-check_manifest.ensures.1 in
    let named = c.in_ok-manifest.ensures.named shown in
    let absent = λ (name : List ℕ) (place : ℕ) (e : p.0 ≡ Corrupt name place). c.in_err-check_manifest.ensures.absent name place (ap Err (sym p.2 ∙ e)) folder (c.requires.listed shown).0 in
    due_of c.damage_is_one.ensures.one c.folders_stand_for_one_map.ensures.live c.lacking_folders_are_not_live.ensures.live folder c.args.asked.now p.0 c.from_residual-in_err-check_manifest.result p.1
    (λ tells. missing_refused folder c.args.asked.now c.in_ok-manifest.manifest p.0 named (subst (λ e. (e ≡ OutOfMemory) ⊎ (e ≡ Corrupt (manifest_name c.in_ok-manifest.manifest) 0)) (sym p.2) c.in_err-check_manifest.ensures.causes) absent tells)
    (λ n full. absurd (missing_not_full (manifest_name c.in_ok-manifest.manifest) p.0 n (subst (λ e. (e ≡ OutOfMemory) ⊎ (e ≡ Corrupt (manifest_name c.in_ok-manifest.manifest) 0)) (sym p.2) c.in_err-check_manifest.ensures.causes) full))

pub returns-in_err-logs-clause-answers : goal.returns-in_err-logs-clause-answers
returns-in_err-logs-clause-answers g c = λ shown.
    let folder = folder_of (g.S.Site.disk c.args.site.now) in
    let p = err_from_is_err_and c.from_residual-in_err-logs.result c.from_residual-in_err-logs.ensures.1 in
    let is : p.0 ≡ OutOfMemory = p.2 ∙ c.in_err-logs.ensures.memory in
    due_of c.damage_is_one.ensures.one c.folders_stand_for_one_map.ensures.live c.lacking_folders_are_not_live.ensures.live folder c.args.asked.now p.0 c.from_residual-in_err-logs.result p.1
    (λ tells. absurd (cause_silent p.0 (inr is) tells))
    (λ n full. absurd (cause_not_full p.0 n (inr is) full))

pub returns-in_err-manifest-clause-same : goal.returns-in_err-manifest-clause-same
returns-in_err-manifest-clause-same g c = λ shown.
    let p = err_from_is_err_and c.from_residual.result c.from_residual.ensures.1 in
    rw p.1 (λ tells. ap folder_of (c.read_current.ensures.quiet.stays shown).same)

pub returns-in_err-check_manifest-clause-same : goal.returns-in_err-check_manifest-clause-same
returns-in_err-check_manifest-clause-same g c = λ shown.
    let p = err_from_is_err_and c.from_residual-in_err-check_manifest.result c.from_residual-in_err-check_manifest.ensures.1 in
    rw p.1 (λ tells. ap folder_of (c.read_current.ensures.quiet.stays shown).same)

pub returns-in_err-logs-clause-same : goal.returns-in_err-logs-clause-same
returns-in_err-logs-clause-same g c = λ shown.
    let p = err_from_is_err_and c.from_residual-in_err-logs.result c.from_residual-in_err-logs.ensures.1 in
    rw p.1 (λ tells. ap folder_of (c.read_current.ensures.quiet.stays shown).same)

pub sync_found-requires-clause-there : goal.sync_found-requires-clause-there
sync_found-requires-clause-there g c = λ shown.
    let disk = g.S.Site.disk c.read_current.new.site in
    let same : folder_of disk ≡ folder_of (g.S.Site.disk c.args.site.now) = ap folder_of (c.read_current.ensures.quiet.stays shown).same in
    some_in disk (manifest_name c.in_ok-manifest.manifest)
    (subst (λ (f : Folder). IsSome (file f (Manifest c.in_ok-manifest.manifest))) (sym same) (c.in_ok-check_manifest.ensures.there (folder_of (g.S.Site.disk c.args.site.now)) (c.requires.listed shown).0))

pub sync_found-requires-clause-logs : goal.sync_found-requires-clause-logs
sync_found-requires-clause-logs g c = λ shown.
    let disk = g.S.Site.disk c.read_current.new.site in
    let same : folder_of disk ≡ folder_of (g.S.Site.disk c.args.site.now) = ap folder_of (c.read_current.ensures.quiet.stays shown).same in
    subst (λ (xs : List ℕ). AreTheLogs xs disk) (sym c.deref.ensures.value) (the_logs disk c.in_ok-logs.logs.items (c.in_ok-logs.ensures.logs (folder_of disk) (subst (λ (f : Folder). AreListed f c.args.files.now) (sym same) (c.requires.listed shown).0)))

pub returns-in_err-sync_found-clause-cuts : goal.returns-in_err-sync_found-clause-cuts
returns-in_err-sync_found-clause-cuts g c = λ shown settled m stands.
    let laws = g.met.S.Site in
    let site = g.S.Site in
    let s0 = c.args.site.now in
    let s1 = c.read_current.new.site in
    let n1 = reads_make_nothing site shown (λ x. laws.only_now shown x) (λ x. laws.counts_now shown x) (λ x other sure. laws.only shown x other sure) (λ x. laws.remnant shown x) s0 s1 c.read_current.ensures.quiet in
    let s2 = c.sync_found.new.site in
    let e2 = c.sync_found.ensures in
    let n2 : MakesNothing site s1 s2 = record { told = e2.tells_nothing.told shown; found = e2.before shown; certain = e2.certain shown; finds = e2.finds shown } in
    let n12 = then_nothing site shown (λ x. laws.only_now shown x) (λ x. laws.counts_now shown x) (λ x other sure. laws.only shown x other sure) (λ x. laws.remnant shown x) s0 s1 s2 (none_synced (site.disk s0) (site.disk s1) (c.read_current.ensures.quiet.stays shown).same) n1 n2 in
    nothing_cuts site shown (λ x. laws.only_now shown x) (λ x. laws.counts_now shown x) (λ x other sure. laws.only shown x other sure) (λ x. laws.remnant shown x) (IsLeftFor m) s0 s2 n12

pub returns-in_err-sync_found-clause-settled : goal.returns-in_err-sync_found-clause-settled
returns-in_err-sync_found-clause-settled g c = λ shown settled sound no_chance. c.sync_found.ensures.settled shown (subst IsSettled (sym (c.read_current.ensures.quiet.stays shown).same) settled) no_chance

pub returns-in_err-sync_found-clause-answers : goal.returns-in_err-sync_found-clause-answers
returns-in_err-sync_found-clause-answers g c = λ shown.
    let folder = folder_of (g.S.Site.disk c.args.site.now) in
    let p = err_from_is_err_and c.from_residual-in_err-sync_found.result c.from_residual-in_err-sync_found.ensures.1 in
    let cause = subst (IsCause DiskFailed OutOfMemory) (sym p.2) c.in_err-sync_found.ensures.fails.causes in
    due_of c.damage_is_one.ensures.one c.folders_stand_for_one_map.ensures.live c.lacking_folders_are_not_live.ensures.live folder c.args.asked.now p.0 c.from_residual-in_err-sync_found.result p.1
    (λ tells. absurd (cause_silent p.0 cause tells))
    (λ n full. absurd (cause_not_full p.0 n cause full))

pub returns-in_err-sync_found-clause-same : goal.returns-in_err-sync_found-clause-same
returns-in_err-sync_found-clause-same g c = λ shown.
    let p = err_from_is_err_and c.from_residual-in_err-sync_found.result c.from_residual-in_err-sync_found.ensures.1 in
    rw p.1 (λ tells. absurd (cause_silent p.0 (subst (IsCause DiskFailed OutOfMemory) (sym p.2) c.in_err-sync_found.ensures.fails.causes) tells))

pub load-requires-clause-listed : goal.load-requires-clause-listed
load-requires-clause-listed g c = λ shown.
    let laws = g.met.S.Site in
    let site = g.S.Site in
    let s0 = c.args.site.now in
    let s1 = c.read_current.new.site in
    let same1 : folder_of (site.disk s1) ≡ folder_of (site.disk s0) = ap folder_of (c.read_current.ensures.quiet.stays shown).same in
    let same2 : folder_of (site.disk c.sync_found.new.site) ≡ folder_of (site.disk s0) = c.in_ok-sync_found.ensures.same shown ∙ same1 in
    subst (λ (f : Folder). AreListed f c.args.files.now) (sym same2) (c.requires.listed shown).0

pub load-requires-clause-logs : goal.load-requires-clause-logs
load-requires-clause-logs g c = λ shown.
    let laws = g.met.S.Site in
    let site = g.S.Site in
    let s0 = c.args.site.now in
    let s1 = c.read_current.new.site in
    let same1 : folder_of (site.disk s1) ≡ folder_of (site.disk s0) = ap folder_of (c.read_current.ensures.quiet.stays shown).same in
    let same2 : folder_of (site.disk c.sync_found.new.site) ≡ folder_of (site.disk s0) = c.in_ok-sync_found.ensures.same shown ∙ same1 in
    subst (λ (xs : List ℕ). AreLogs (folder_of (site.disk c.sync_found.new.site)) xs) (sym c.deref-2.ensures.value)
    (subst (λ (f : Folder). AreLogs f c.in_ok-logs.logs.items) (sym same2) (c.in_ok-logs.ensures.logs (folder_of (site.disk s0)) (c.requires.listed shown).0))

pub load-requires-clause-named : goal.load-requires-clause-named
load-requires-clause-named g c = λ shown.
    let laws = g.met.S.Site in
    let site = g.S.Site in
    let s0 = c.args.site.now in
    let s1 = c.read_current.new.site in
    let same1 : folder_of (site.disk s1) ≡ folder_of (site.disk s0) = ap folder_of (c.read_current.ensures.quiet.stays shown).same in
    let same2 : folder_of (site.disk c.sync_found.new.site) ≡ folder_of (site.disk s0) = c.in_ok-sync_found.ensures.same shown ∙ same1 in
    subst (λ (f : Folder). NamesManifest f c.in_ok-manifest.manifest) (sym same2) (c.in_ok-manifest.ensures.named shown)

pub returns-in_err-loaded-clause-cuts : goal.returns-in_err-loaded-clause-cuts
returns-in_err-loaded-clause-cuts g c = λ shown settled m stands.
    let laws = g.met.S.Site in
    let site = g.S.Site in
    let s0 = c.args.site.now in
    let s1 = c.read_current.new.site in
    let n1 = reads_make_nothing site shown (λ x. laws.only_now shown x) (λ x. laws.counts_now shown x) (λ x other sure. laws.only shown x other sure) (λ x. laws.remnant shown x) s0 s1 c.read_current.ensures.quiet in
    let s2 = c.sync_found.new.site in
    let e2 = c.sync_found.ensures in
    let n2 : MakesNothing site s1 s2 = record { told = e2.tells_nothing.told shown; found = e2.before shown; certain = e2.certain shown; finds = e2.finds shown } in
    let n12 = then_nothing site shown (λ x. laws.only_now shown x) (λ x. laws.counts_now shown x) (λ x other sure. laws.only shown x other sure) (λ x. laws.remnant shown x) s0 s1 s2 (none_synced (site.disk s0) (site.disk s1) (c.read_current.ensures.quiet.stays shown).same) n1 n2 in
    let s3 = c.load.new.site in
    let some2 : SyncsSome (site.disk s0) (site.disk s2) = some_then (site.disk s0) (site.disk s1) (site.disk s2) (none_synced (site.disk s0) (site.disk s1) (c.read_current.ensures.quiet.stays shown).same) (c.in_ok-sync_found.ensures.some shown) in
    let n13 = then_reads site shown (λ x. laws.only_now shown x) (λ x. laws.counts_now shown x) (λ x other sure. laws.only shown x other sure) (λ x. laws.remnant shown x) s0 s2 s3 some2 n12 c.load.ensures.quiet in
    nothing_cuts site shown (λ x. laws.only_now shown x) (λ x. laws.counts_now shown x) (λ x other sure. laws.only shown x other sure) (λ x. laws.remnant shown x) (IsLeftFor m) s0 s3 n13

pub returns-in_err-loaded-clause-settled : goal.returns-in_err-loaded-clause-settled
returns-in_err-loaded-clause-settled g c = λ shown settled sound no_chance.
    let site = g.S.Site in
    let read = (c.load.ensures.quiet.stays shown).same in
    subst IsSettled (sym read) (c.sync_found.ensures.settled shown (subst IsSettled (sym (c.read_current.ensures.quiet.stays shown).same) settled)
    (subst (λ (d : Disk). NoChanceMatch (folder_of d) (written_of d)) read no_chance))

pub returns-in_err-loaded-clause-answers : goal.returns-in_err-loaded-clause-answers
returns-in_err-loaded-clause-answers g c = λ shown.
    let laws = g.met.S.Site in
    let site = g.S.Site in
    let s0 = c.args.site.now in
    let s1 = c.read_current.new.site in
    let same1 : folder_of (site.disk s1) ≡ folder_of (site.disk s0) = ap folder_of (c.read_current.ensures.quiet.stays shown).same in
    let same2 : folder_of (site.disk c.sync_found.new.site) ≡ folder_of (site.disk s0) = c.in_ok-sync_found.ensures.same shown ∙ same1 in
    let folder = folder_of (site.disk s0) in
    let p = err_from_is_err_and c.from_residual-in_err-loaded.result c.from_residual-in_err-loaded.ensures.1 in
    let loading = subst IsLoading (sym p.2) c.in_err-loaded.ensures.causes in
    let refused = λ (tells : IsRefusal p.0). subst (λ (f : Folder). IsRefused f c.args.asked.now p.0) same2 ((c.load.ensures.answers shown).only p.0 (c.in_err-loaded.was ∙ ap Err (sym p.2)) tells) in
    due_of c.damage_is_one.ensures.one c.folders_stand_for_one_map.ensures.live c.lacking_folders_are_not_live.ensures.live folder c.args.asked.now p.0 c.from_residual-in_err-loaded.result p.1 refused
    (λ n full. absurd (loading_not_full p.0 n loading full))

pub returns-in_err-loaded-clause-same : goal.returns-in_err-loaded-clause-same
returns-in_err-loaded-clause-same g c = λ shown.
    let laws = g.met.S.Site in
    let site = g.S.Site in
    let s0 = c.args.site.now in
    let s1 = c.read_current.new.site in
    let same1 : folder_of (site.disk s1) ≡ folder_of (site.disk s0) = ap folder_of (c.read_current.ensures.quiet.stays shown).same in
    let same2 : folder_of (site.disk c.sync_found.new.site) ≡ folder_of (site.disk s0) = c.in_ok-sync_found.ensures.same shown ∙ same1 in
    let p = err_from_is_err_and c.from_residual-in_err-loaded.result c.from_residual-in_err-loaded.ensures.1 in
    rw p.1 (λ tells. ap folder_of (c.load.ensures.quiet.stays shown).same ∙ same2)

pub returns-clause-takes : goal.returns-clause-takes
returns-clause-takes g c = λ shown.
    let laws = g.met.S.Site in
    let site = g.S.Site in
    let s0 = c.args.site.now in
    let s1 = c.read_current.new.site in
    let same1 : folder_of (site.disk s1) ≡ folder_of (site.disk s0) = ap folder_of (c.read_current.ensures.quiet.stays shown).same in
    let same2 : folder_of (site.disk c.sync_found.new.site) ≡ folder_of (site.disk s0) = c.in_ok-sync_found.ensures.same shown ∙ same1 in
    let s3 = c.load.new.site in
    let l = c.in_ok-loaded.loaded in
    let read : site.disk s3 ≡ site.disk c.sync_found.new.site = (c.load.ensures.quiet.stays shown).same in
    let same3 : folder_of (site.disk s3) ≡ folder_of (site.disk s0) = ap folder_of read ∙ same2 in
    let loaded2 = c.in_ok-loaded.ensures.loaded shown in
    let loaded : HasLoaded (folder_of (site.disk s3)) c.in_ok-manifest.manifest c.args.asked.now l =
    subst (λ (d : Disk). HasLoaded (folder_of d) c.in_ok-manifest.manifest c.args.asked.now l) (sym read) loaded2 in
    let adds = each_and c.begin.result (IsNumbered l) (AddsFlush l.version l.memory) c.begin.ensures.numbered (c.begin.ensures.adds shown) in
    each_ok c.begin.result (λ o. IsNumbered l o × AddsFlush l.version l.memory o) (TakesOver (folder_of (site.disk s0)) c.args.asked.now)
    (λ o both. let n = both.0 in inr (subst (λ (f : Folder). TakesLive f o) same3 (record {
      manifest = c.in_ok-manifest.manifest;
      live = loaded.live;
      is_live = loaded.is_live;
      first = subst (IsFirstNumber (folder_of (site.disk s3)) loaded.live.version loaded.live.standing.next_file) (sym n.manifest) loaded.first;
      options_are = n.options ∙ sym loaded.options_are;
      batches = loaded.logs.batches;
      have = subst (HaveBatches (folder_of (site.disk s3)) loaded.live.standing.log_number loaded.live.standing.last_sequence loaded.logs.batches) (sym n.last) loaded.logs.have;
      memory = l.memory;
      memory_of = c.memories_tell_what_was_inserted.ensures.memory loaded.logs.batches l.memory l.last loaded.logs.fit loaded.logs.holds;
      adds = subst (λ (v : Listing). AddsFlush v l.memory o) (sym loaded.version_is) both.1;
    })))
    adds

pub returns-clause-opened : goal.returns-clause-opened
returns-clause-opened g c = λ shown settled m stands maps at_first.
    let laws = g.met.S.Site in
    let site = g.S.Site in
    let s0 = c.args.site.now in
    let s1 = c.read_current.new.site in
    let same1 : folder_of (site.disk s1) ≡ folder_of (site.disk s0) = ap folder_of (c.read_current.ensures.quiet.stays shown).same in
    let same2 : folder_of (site.disk c.sync_found.new.site) ≡ folder_of (site.disk s0) = c.in_ok-sync_found.ensures.same shown ∙ same1 in
    let s3 = c.load.new.site in
    let l = c.in_ok-loaded.loaded in
    let read : site.disk s3 ≡ site.disk c.sync_found.new.site = (c.load.ensures.quiet.stays shown).same in
    let same3 : folder_of (site.disk s3) ≡ folder_of (site.disk s0) = ap folder_of read ∙ same2 in
    let loaded2 = c.in_ok-loaded.ensures.loaded shown in
    let loaded : HasLoaded (folder_of (site.disk s3)) c.in_ok-manifest.manifest c.args.asked.now l =
    subst (λ (d : Disk). HasLoaded (folder_of d) c.in_ok-manifest.manifest c.args.asked.now l) (sym read) loaded2 in
    let stands2 : Stands (folder_of (site.disk s3)) m = subst (λ (f : Folder). Stands f m) (sym same3) stands in
    let live = live_stands (folder_of (site.disk s3)) c.in_ok-manifest.manifest loaded.live m loaded.is_live stands2 in
    let here : IsLive (folder_of (site.disk s1)) c.in_ok-manifest.manifest loaded.live = subst (λ (f : Folder). IsLive f c.in_ok-manifest.manifest loaded.live) (same3 ∙ sym same1) loaded.is_live in
    let rests2 = c.in_ok-sync_found.ensures.rests shown (Some (c.in_ok-manifest.manifest, loaded.live)) m here.current here (subst IsSettled (sym (c.read_current.ensures.quiet.stays shown).same) settled) (subst (λ (f : Folder). Stands f m) (sym same1) stands) in
    let rests : RestsAs (Some (c.in_ok-manifest.manifest, loaded.live)) m (site.disk s3) = subst (RestsAs (Some (c.in_ok-manifest.manifest, loaded.live)) m) (sym read) rests2 in
    let s = starts_live c.folders_stand_for_one_map.ensures.live c.folders_stand_for_one_map.ensures.batches c.held_are_whole.ensures c.memories_tell_what_was_inserted.ensures.memory
    (site.disk s3) c.in_ok-manifest.manifest c.args.asked.now l m loaded live rests in
    c.begin.ensures.opened shown [] tt live.holding m s.holds maps at_first

pub returns-clause-cuts : goal.returns-clause-cuts
returns-clause-cuts g c = λ shown settled m stands.
    let laws = g.met.S.Site in
    let site = g.S.Site in
    let s0 = c.args.site.now in
    let s1 = c.read_current.new.site in
    let same1 : folder_of (site.disk s1) ≡ folder_of (site.disk s0) = ap folder_of (c.read_current.ensures.quiet.stays shown).same in
    let same2 : folder_of (site.disk c.sync_found.new.site) ≡ folder_of (site.disk s0) = c.in_ok-sync_found.ensures.same shown ∙ same1 in
    let s3 = c.load.new.site in
    let l = c.in_ok-loaded.loaded in
    let read : site.disk s3 ≡ site.disk c.sync_found.new.site = (c.load.ensures.quiet.stays shown).same in
    let same3 : folder_of (site.disk s3) ≡ folder_of (site.disk s0) = ap folder_of read ∙ same2 in
    let loaded2 = c.in_ok-loaded.ensures.loaded shown in
    let loaded : HasLoaded (folder_of (site.disk s3)) c.in_ok-manifest.manifest c.args.asked.now l =
    subst (λ (d : Disk). HasLoaded (folder_of d) c.in_ok-manifest.manifest c.args.asked.now l) (sym read) loaded2 in
    let stands2 : Stands (folder_of (site.disk s3)) m = subst (λ (f : Folder). Stands f m) (sym same3) stands in
    let live = live_stands (folder_of (site.disk s3)) c.in_ok-manifest.manifest loaded.live m loaded.is_live stands2 in
    let here : IsLive (folder_of (site.disk s1)) c.in_ok-manifest.manifest loaded.live = subst (λ (f : Folder). IsLive f c.in_ok-manifest.manifest loaded.live) (same3 ∙ sym same1) loaded.is_live in
    let rests2 = c.in_ok-sync_found.ensures.rests shown (Some (c.in_ok-manifest.manifest, loaded.live)) m here.current here (subst IsSettled (sym (c.read_current.ensures.quiet.stays shown).same) settled) (subst (λ (f : Folder). Stands f m) (sym same1) stands) in
    let rests : RestsAs (Some (c.in_ok-manifest.manifest, loaded.live)) m (site.disk s3) = subst (RestsAs (Some (c.in_ok-manifest.manifest, loaded.live)) m) (sym read) rests2 in
    let s = starts_live c.folders_stand_for_one_map.ensures.live c.folders_stand_for_one_map.ensures.batches c.held_are_whole.ensures c.memories_tell_what_was_inserted.ensures.memory
    (site.disk s3) c.in_ok-manifest.manifest c.args.asked.now l m loaded live rests in
    let n1 = reads_make_nothing site shown (λ x. laws.only_now shown x) (λ x. laws.counts_now shown x) (λ x other sure. laws.only shown x other sure) (λ x. laws.remnant shown x) s0 s1 c.read_current.ensures.quiet in
    let s2 = c.sync_found.new.site in
    let e2 = c.sync_found.ensures in
    let n2 : MakesNothing site s1 s2 = record { told = e2.tells_nothing.told shown; found = e2.before shown; certain = e2.certain shown; finds = e2.finds shown } in
    let n12 = then_nothing site shown (λ x. laws.only_now shown x) (λ x. laws.counts_now shown x) (λ x other sure. laws.only shown x other sure) (λ x. laws.remnant shown x) s0 s1 s2 (none_synced (site.disk s0) (site.disk s1) (c.read_current.ensures.quiet.stays shown).same) n1 n2 in
    let some2 : SyncsSome (site.disk s0) (site.disk s2) = some_then (site.disk s0) (site.disk s1) (site.disk s2) (none_synced (site.disk s0) (site.disk s1) (c.read_current.ensures.quiet.stays shown).same) (c.in_ok-sync_found.ensures.some shown) in
    let n13 = then_reads site shown (λ x. laws.only_now shown x) (λ x. laws.counts_now shown x) (λ x other sure. laws.only shown x other sure) (λ x. laws.remnant shown x) s0 s2 s3 some2 n12 c.load.ensures.quiet in
    then_cuts site shown (λ x. laws.only_now shown x) (λ x. laws.counts_now shown x) (λ x other sure. laws.only shown x other sure) (λ x. laws.remnant shown x) (IsLeftFor m) s0 s3 c.begin.new.site (some_then (site.disk s0) (site.disk s2) (site.disk s3) some2 (none_synced (site.disk s2) (site.disk s3) read)) n13 same3
    (record { first = first_file l.memory l.first; is_new = new_or_found site (folder_of (site.disk s3)) loaded.live.version loaded.live.standing.next_file l.first l.memory s3 c.begin.new.site (laws.only_now shown s3) loaded.first c.begin.ensures.unmade; sides = c.begin.ensures.sides shown (Some (c.in_ok-manifest.manifest, loaded.live)) live.holding m s; finds = λ sure. all_or site (IsLeftFor m) s3 c.begin.new.site (c.begin.ensures.cuts shown sure (Some (c.in_ok-manifest.manifest, loaded.live)) live.holding m s) })

pub returns-clause-settled : goal.returns-clause-settled
returns-clause-settled g c = λ shown settled sound no_chance.
    let m = sound.0 in
    let stands = sound.1 in
    let laws = g.met.S.Site in
    let site = g.S.Site in
    let s0 = c.args.site.now in
    let s1 = c.read_current.new.site in
    let same1 : folder_of (site.disk s1) ≡ folder_of (site.disk s0) = ap folder_of (c.read_current.ensures.quiet.stays shown).same in
    let same2 : folder_of (site.disk c.sync_found.new.site) ≡ folder_of (site.disk s0) = c.in_ok-sync_found.ensures.same shown ∙ same1 in
    let s3 = c.load.new.site in
    let l = c.in_ok-loaded.loaded in
    let read : site.disk s3 ≡ site.disk c.sync_found.new.site = (c.load.ensures.quiet.stays shown).same in
    let same3 : folder_of (site.disk s3) ≡ folder_of (site.disk s0) = ap folder_of read ∙ same2 in
    let loaded2 = c.in_ok-loaded.ensures.loaded shown in
    let loaded : HasLoaded (folder_of (site.disk s3)) c.in_ok-manifest.manifest c.args.asked.now l =
    subst (λ (d : Disk). HasLoaded (folder_of d) c.in_ok-manifest.manifest c.args.asked.now l) (sym read) loaded2 in
    let stands2 : Stands (folder_of (site.disk s3)) m = subst (λ (f : Folder). Stands f m) (sym same3) stands in
    let live = live_stands (folder_of (site.disk s3)) c.in_ok-manifest.manifest loaded.live m loaded.is_live stands2 in
    let here : IsLive (folder_of (site.disk s1)) c.in_ok-manifest.manifest loaded.live = subst (λ (f : Folder). IsLive f c.in_ok-manifest.manifest loaded.live) (same3 ∙ sym same1) loaded.is_live in
    let rests2 = c.in_ok-sync_found.ensures.rests shown (Some (c.in_ok-manifest.manifest, loaded.live)) m here.current here (subst IsSettled (sym (c.read_current.ensures.quiet.stays shown).same) settled) (subst (λ (f : Folder). Stands f m) (sym same1) stands) in
    let rests : RestsAs (Some (c.in_ok-manifest.manifest, loaded.live)) m (site.disk s3) = subst (RestsAs (Some (c.in_ok-manifest.manifest, loaded.live)) m) (sym read) rests2 in
    let s = starts_live c.folders_stand_for_one_map.ensures.live c.folders_stand_for_one_map.ensures.batches c.held_are_whole.ensures c.memories_tell_what_was_inserted.ensures.memory
    (site.disk s3) c.in_ok-manifest.manifest c.args.asked.now l m loaded live rests in
    c.begin.ensures.settled shown (Some (c.in_ok-manifest.manifest, loaded.live)) live.holding m s

pub returns-clause-answers : goal.returns-clause-answers
returns-clause-answers g c = λ shown.
    let laws = g.met.S.Site in
    let site = g.S.Site in
    let s0 = c.args.site.now in
    let s1 = c.read_current.new.site in
    let same1 : folder_of (site.disk s1) ≡ folder_of (site.disk s0) = ap folder_of (c.read_current.ensures.quiet.stays shown).same in
    let same2 : folder_of (site.disk c.sync_found.new.site) ≡ folder_of (site.disk s0) = c.in_ok-sync_found.ensures.same shown ∙ same1 in
    let folder = folder_of (site.disk s0) in
    let loaded = c.in_ok-loaded.ensures.loaded shown in
    none_refused folder c.args.asked.now c.begin.result (no_telling c.begin.result c.begin.ensures.causes)
    (λ e refused. loaded_not_refused c.folders_stand_for_one_map.ensures.live c.lacking_folders_are_not_live.ensures.live c.damage_is_one.ensures.passing (folder_of (site.disk c.sync_found.new.site)) c.in_ok-manifest.manifest c.args.asked.now c.in_ok-loaded.loaded e loaded
    (subst (λ (f : Folder). IsRefused f c.args.asked.now e) (sym same2) refused))

pub returns-clause-same : goal.returns-clause-same
returns-clause-same g c = λ shown. silent_same (folder_of (g.S.Site.disk c.begin.new.site) ≡ folder_of (g.S.Site.disk c.args.site.now)) c.begin.result c.begin.ensures.causes

pub begin-requires-clause-below : goal.begin-requires-clause-below
begin-requires-clause-below g c = λ shown.
    let loaded = c.in_ok-loaded.ensures.loaded shown in
    let above = loaded.first.above in
    subst (IsBelow c.in_ok-loaded.loaded.first) loaded.version_is (record { tables = above.tables; blobs = above.blobs })

pub returns-in_err-manifest-clause-keeps : goal.returns-in_err-manifest-clause-keeps
returns-in_err-manifest-clause-keeps g c = λ shown. same_kept _ (g.S.Site.disk c.args.site.now) (g.S.Site.disk c.read_current.new.site) (c.read_current.ensures.quiet.stays shown).same

pub returns-in_err-check_manifest-clause-keeps : goal.returns-in_err-check_manifest-clause-keeps
returns-in_err-check_manifest-clause-keeps g c = λ shown. same_kept _ (g.S.Site.disk c.args.site.now) (g.S.Site.disk c.read_current.new.site) (c.read_current.ensures.quiet.stays shown).same

pub returns-in_err-logs-clause-keeps : goal.returns-in_err-logs-clause-keeps
returns-in_err-logs-clause-keeps g c = λ shown. same_kept _ (g.S.Site.disk c.args.site.now) (g.S.Site.disk c.read_current.new.site) (c.read_current.ensures.quiet.stays shown).same

pub returns-in_err-sync_found-clause-keeps : goal.returns-in_err-sync_found-clause-keeps
returns-in_err-sync_found-clause-keeps g c = λ shown.
    let site = g.S.Site in
    let p = err_from_is_err_and c.from_residual-in_err-sync_found.result c.from_residual-in_err-sync_found.ensures.1 in
    failed_kept c.from_residual-in_err-sync_found.result (site.disk c.args.site.now) (site.disk c.sync_found.new.site) p.0 p.1
    (subst (λ (d : Disk). KeepsAllButLogs d (site.disk c.sync_found.new.site)) (c.read_current.ensures.quiet.stays shown).same (c.sync_found.ensures.only shown))

pub returns-in_err-loaded-clause-keeps : goal.returns-in_err-loaded-clause-keeps
returns-in_err-loaded-clause-keeps g c = λ shown.
    let site = g.S.Site in
    let stays = (c.read_current.ensures.quiet.stays shown).same in
    let read = (c.load.ensures.quiet.stays shown).same in
    synced_kept _ (site.disk c.args.site.now) (site.disk c.load.new.site)
    (subst (λ (d : Disk). KeepsAllButLogs (site.disk c.args.site.now) d) (sym read) (subst (λ (d : Disk). KeepsAllButLogs d (site.disk c.sync_found.new.site)) stays (c.sync_found.ensures.only shown)))
    (ap folder_of read ∙ c.in_ok-sync_found.ensures.same shown ∙ ap folder_of stays)

pub returns-clause-keeps : goal.returns-clause-keeps
returns-clause-keeps g c = λ shown.
    let site = g.S.Site in
    let stays = (c.read_current.ensures.quiet.stays shown).same in
    let read = (c.load.ensures.quiet.stays shown).same in
    let same : folder_of (site.disk c.sync_found.new.site) ≡ folder_of (site.disk c.args.site.now) = c.in_ok-sync_found.ensures.same shown ∙ ap folder_of stays in
    let loaded = c.in_ok-loaded.ensures.loaded shown in
    let first = subst (λ (f : Folder). IsFirstNumber f loaded.live.version loaded.live.standing.next_file c.in_ok-loaded.loaded.first) same loaded.first in
    begun_kept c.begin.result (site.disk c.args.site.now) (site.disk c.load.new.site) (site.disk c.begin.new.site) loaded.live.version loaded.live.standing.next_file c.in_ok-loaded.loaded.first
    (subst (λ (d : Disk). KeepsAllButLogs (site.disk c.args.site.now) d) (sym read) (subst (λ (d : Disk). KeepsAllButLogs d (site.disk c.sync_found.new.site)) stays (c.sync_found.ensures.only shown)))
    (ap folder_of read ∙ same) first (c.begin.ensures.keeps shown)

pub returns-clause-within : goal.returns-clause-within
returns-clause-within g c = each_ok c.begin.result (IsNumbered c.in_ok-loaded.loaded) IsWithin (λ o n. n.within) c.begin.ensures.numbered

pub returns-clause-full : goal.returns-clause-full
returns-clause-full g c = λ n is.
    let full = c.begin.ensures.full n is in (
      full.0,
      λ shown.
          let site = g.S.Site in
          let same : folder_of (site.disk c.sync_found.new.site) ≡ folder_of (site.disk c.args.site.now) =
          c.in_ok-sync_found.ensures.same shown ∙ ap folder_of (c.read_current.ensures.quiet.stays shown).same in
          let l = c.in_ok-loaded.loaded in
          let loaded = subst (λ (f : Folder). HasLoaded f c.in_ok-manifest.manifest c.args.asked.now l) same (c.in_ok-loaded.ensures.loaded shown) in
          inr (full_loaded c.memories_tell_what_was_inserted.ensures.memory (folder_of (site.disk c.args.site.now)) c.in_ok-manifest.manifest c.args.asked.now l loaded full.1),
    )

pub returns-clause-enough : goal.returns-clause-enough
returns-clause-enough g c = λ shown.
    let folder = folder_of (g.S.Site.disk c.args.site.now) in
    let words = c.args.asked.now in
    let l = c.in_ok-loaded.loaded in
    on_ok c.begin.result (λ o. TakesOver folder words o × IsNumbered l o) (IsFull folder words → ⊥)
    (λ o both. taken_enough c.folders_stand_for_one_map.ensures.live c.folders_stand_for_one_map.ensures.batches folder words l o both.0 both.1)
    (each_and c.begin.result (TakesOver folder words) (IsNumbered l) (returns-clause-takes g c shown) c.begin.ensures.numbered)

pub returns-clause-begins : goal.returns-clause-begins
returns-clause-begins g c = λ shown m stands maps at_first.
    let site = g.S.Site in
    let l = c.in_ok-loaded.loaded in
    let manifest = c.in_ok-manifest.manifest in
    let disk : Disk = site.disk c.load.new.site in
    let read : folder_of disk ≡ folder_of (site.disk c.sync_found.new.site) = ap folder_of (c.load.ensures.quiet.stays shown).same in
    let same : folder_of disk ≡ folder_of (site.disk c.args.site.now) = read ∙ c.in_ok-sync_found.ensures.same shown ∙ ap folder_of (c.read_current.ensures.quiet.stays shown).same in
    let loaded : HasLoaded (folder_of disk) manifest c.args.asked.now l = subst (λ (f : Folder). HasLoaded f manifest c.args.asked.now l) (sym read) (c.in_ok-loaded.ensures.loaded shown) in
    let live = live_stands (folder_of disk) manifest loaded.live m loaded.is_live (subst (λ (f : Folder). Stands f m) (sym same) stands) in
    let held = held_as_synced c.folders_stand_for_one_map.ensures.live c.folders_stand_for_one_map.ensures.batches c.held_are_whole.ensures c.memories_tell_what_was_inserted.ensures.memory
    disk manifest c.args.asked.now l m loaded live in
    let new : Disk = as_synced held.names (site.disk c.begin.new.site) in
    each_ok c.begin.result (λ o. IsNumbered l o × IsOpened maps o new) (λ o. IsOpenedAsSynced maps o (site.disk c.begin.new.site))
    (λ o both. record { names = held.names; before = subst (λ n. AreFilesBelow n held.names) (sym both.0.manifest) held.below; opened = both.1 })
    (each_and c.begin.result (IsNumbered l) (λ o. IsOpened maps o new) c.begin.ensures.numbered (c.begin.ensures.opened shown held.names held.below held.holding m held.holds maps at_first))
