use Rattle.std.proofs.Common.{◌≡◌, ◌∙◌, inl, inr, Ok, Err, ap, sym, subst, refl}
use Rattle.std.proofs.lemmas.Result.{err_from_is_err_and}
use Rattle.bl_site.specs.Disk.{Folder, folder_of}
use Rattle.bl_names.specs.declared.name.FileName.TheVariants.{Current}
use Rattle.bl_names.specs.Names.{current_text}
use Rattle.bl_build.specs.Restoring.{Restored}
use Rattle.bl_out.specs.Files.{file}
use Rattle.bl_open.proofs.AnswerLemmas.{live_of_restored, manifest_not_full, manifest_refused, reading_not_full, reading_refused, some_of, words_load, words_not_disk, words_not_full, words_refused}
use Rattle.bl_open.proofs.RefusalLemmas.{due_of, loaded_not_refused, none_refused}
use Rattle.bl_open.specs.Answers.{IsReading}
use Rattle.bl_open.specs.Checks.{AllPass, FilesFail}
use Rattle.bl_open.specs.Options.{check_options}
use Rattle.bl_open.specs.Recovering.{HasLoaded}
use Rattle.bl_open.specs.Replay.{LogsFail}
use Rattle.bl_open.specs.Replaying.{AreLogsFrom, HasReplayedLogs}
use Rattle.bl_open.proofs.opening.load.Goals as goal

pub returns-in_err-restored-clause-answers : goal.returns-in_err-restored-clause-answers
returns-in_err-restored-clause-answers g c = λ shown.
    let folder = folder_of (g.S.Site.disk c.args.site.now) in
    let p = err_from_is_err_and c.from_residual.result c.from_residual.ensures.1 in
    due_of c.damage_is_one.ensures.one c.folders_stand_for_one_map.ensures.live c.lacking_folders_are_not_live.ensures.live folder c.args.asked.now p.0 c.from_residual.result p.1
    (manifest_refused folder c.args.asked.now c.args.manifest c.in_err-restored.field-0.0 p.0 (c.requires.named shown) p.2 (λ name place e. c.in_err-restored.ensures.corrupt shown name place (ap Err e)))
    (λ n full. absurd (manifest_not_full c.in_err-restored.field-0.0 p.0 n p.2 full))

pub returns-in_err-check_options-clause-answers : goal.returns-in_err-check_options-clause-answers
returns-in_err-check_options-clause-answers g c = λ shown.
    let folder = folder_of (g.S.Site.disk c.args.site.now) in
    let p = err_from_is_err_and c.from_residual-in_err-check_options.result c.from_residual-in_err-check_options.ensures.1 in
    let live : Restored = record { version = c.in_ok-restored.restored.version; standing = c.in_ok-restored.restored.standing } in
    let is = live_of_restored folder c.args.manifest live (c.requires.named shown) (c.in_ok-restored.ensures.restored shown) in
    let e : check_options live.standing.options c.args.asked.now ≡ Err p.0 = sym c.in_err-check_options.ensures ∙ ap Err (sym p.2) in
    due_of c.damage_is_one.ensures.one c.folders_stand_for_one_map.ensures.live c.lacking_folders_are_not_live.ensures.live folder c.args.asked.now p.0 c.from_residual-in_err-check_options.result p.1
    (λ tells. words_refused folder c.args.asked.now c.args.manifest live p.0 is e)
    (λ n full. absurd (words_not_full live.standing.options c.args.asked.now p.0 n e full))

pub returns-in_err-check_options-clause-causes : goal.returns-in_err-check_options-clause-causes
returns-in_err-check_options-clause-causes g c =
    let p = err_from_is_err_and c.from_residual-in_err-check_options.result c.from_residual-in_err-check_options.ensures.1 in
    let e : check_options c.in_ok-restored.restored.standing.options c.args.asked.now ≡ Err p.0 = sym c.in_err-check_options.ensures ∙ ap Err (sym p.2) in
    rw p.1 (words_load c.in_ok-restored.restored.standing.options c.args.asked.now p.0 e)

pub returns-in_err-check_options-clause-disk : goal.returns-in_err-check_options-clause-disk
returns-in_err-check_options-clause-disk g c =
    let p = err_from_is_err_and c.from_residual-in_err-check_options.result c.from_residual-in_err-check_options.ensures.1 in
    let e : check_options c.in_ok-restored.restored.standing.options c.args.asked.now ≡ Err p.0 = sym c.in_err-check_options.ensures ∙ ap Err (sym p.2) in
    rw p.1 (λ is. absurd (words_not_disk c.in_ok-restored.restored.standing.options c.args.asked.now p.0 e (cc is)))

pub returns-in_err-check_files-clause-answers : goal.returns-in_err-check_files-clause-answers
returns-in_err-check_files-clause-answers g c = λ shown.
    let folder = folder_of (g.S.Site.disk c.args.site.now) in
    let p = err_from_is_err_and c.from_residual-in_err-check_files.result c.from_residual-in_err-check_files.ensures.1 in
    let live : Restored = record { version = c.in_ok-restored.restored.version; standing = c.in_ok-restored.restored.standing } in
    let is = live_of_restored folder c.args.manifest live (c.requires.named shown) (c.in_ok-restored.ensures.restored shown) in
    let same : folder_of (g.S.Site.disk c.read_all.new.site) ≡ folder = ap folder_of (c.read_all.ensures.quiet.stays shown).same in
    let agree : check_options live.standing.options c.args.asked.now ≡ Ok tt = sym c.in_ok-check_options.ensures in
    due_of c.damage_is_one.ensures.one c.folders_stand_for_one_map.ensures.live c.lacking_folders_are_not_live.ensures.live folder c.args.asked.now p.0 c.from_residual-in_err-check_files.result p.1
    (reading_refused folder c.args.asked.now p.0 (subst IsReading (sym p.2) c.in_err-check_files.ensures.causes)
    (λ name place e. inr (c.args.manifest, (live, is, agree, inl (subst (λ (f : Folder). FilesFail f live.version name place) same (c.in_err-check_files.ensures.corrupt shown name place (ap Err (sym p.2 ∙ e))))))))
    (λ n full. absurd (reading_not_full p.0 n (subst IsReading (sym p.2) c.in_err-check_files.ensures.causes) full))

pub replay_logs-requires-clause-logs : goal.replay_logs-requires-clause-logs
replay_logs-requires-clause-logs g c = λ shown.
    let folder = folder_of (g.S.Site.disk c.args.site.now) in
    let same : folder_of (g.S.Site.disk c.check_files.new.site) ≡ folder = ap folder_of (c.check_files.ensures.quiet.stays shown).same ∙ ap folder_of (c.read_all.ensures.quiet.stays shown).same in
    subst (λ (f : Folder). AreLogsFrom f c.in_ok-restored.restored.standing.log_number c.numbers_from-needed.result.now) (sym same) (c.numbers_from-needed.ensures.logs folder (c.requires.logs shown))

pub returns-in_err-replayed-clause-answers : goal.returns-in_err-replayed-clause-answers
returns-in_err-replayed-clause-answers g c = λ shown.
    let folder = folder_of (g.S.Site.disk c.args.site.now) in
    let p = err_from_is_err_and c.from_residual-in_err-replayed.result c.from_residual-in_err-replayed.ensures.1 in
    let live : Restored = record { version = c.in_ok-restored.restored.version; standing = c.in_ok-restored.restored.standing } in
    let is = live_of_restored folder c.args.manifest live (c.requires.named shown) (c.in_ok-restored.ensures.restored shown) in
    let read : folder_of (g.S.Site.disk c.read_all.new.site) ≡ folder = ap folder_of (c.read_all.ensures.quiet.stays shown).same in
    let same : folder_of (g.S.Site.disk c.check_files.new.site) ≡ folder = ap folder_of (c.check_files.ensures.quiet.stays shown).same ∙ read in
    let agree : check_options live.standing.options c.args.asked.now ≡ Ok tt = sym c.in_ok-check_options.ensures in
    let pass : AllPass folder live.version = subst (λ (f : Folder). AllPass f live.version) read (c.in_ok-check_files.ensures.pass shown) in
    due_of c.damage_is_one.ensures.one c.folders_stand_for_one_map.ensures.live c.lacking_folders_are_not_live.ensures.live folder c.args.asked.now p.0 c.from_residual-in_err-replayed.result p.1
    (reading_refused folder c.args.asked.now p.0 (subst IsReading (sym p.2) c.in_err-replayed.ensures.causes)
    (λ name place e. inr (c.args.manifest, (live, is, agree, inr (pass, subst (λ (f : Folder). LogsFail f live.standing.log_number live.standing.last_sequence name place) same (c.in_err-replayed.ensures.corrupt shown name place (ap Err (sym p.2 ∙ e))))))))
    (λ n full. absurd (reading_not_full p.0 n (subst IsReading (sym p.2) c.in_err-replayed.ensures.causes) full))

pub returns-clause-loaded : goal.returns-clause-loaded
returns-clause-loaded g c = λ shown.
    let folder = folder_of (g.S.Site.disk c.args.site.now) in
    let live : Restored = record { version = c.in_ok-restored.restored.version; standing = c.in_ok-restored.restored.standing } in
    let is = live_of_restored folder c.args.manifest live (c.requires.named shown) (c.in_ok-restored.ensures.restored shown) in
    let read : folder_of (g.S.Site.disk c.read_all.new.site) ≡ folder = ap folder_of (c.read_all.ensures.quiet.stays shown).same in
    let same : folder_of (g.S.Site.disk c.check_files.new.site) ≡ folder = ap folder_of (c.check_files.ensures.quiet.stays shown).same ∙ read in
    let pass : AllPass folder live.version = subst (λ (f : Folder). AllPass f live.version) read (c.in_ok-check_files.ensures.pass shown) in
    record {
      live = live;
      is_live = is;
      version_is = refl;
      options_are = refl;
      agree = sym c.in_ok-check_options.ensures;
      pass = pass;
      logs = subst (λ (f : Folder). HasReplayedLogs f live.standing.log_number live.standing.last_sequence c.in_ok-replayed.replayed.memory c.in_ok-replayed.replayed.last) same (c.in_ok-replayed.ensures.replayed shown);
      first = c.first_number.ensures.first folder live.version c.version_is_in_order.ensures pass (c.requires.listed shown) (inr (some_of (file folder Current) (current_text c.args.manifest) (c.requires.named shown).current));
    }

pub returns-clause-bounded : goal.returns-clause-bounded
returns-clause-bounded g c = record {
  some = c.first_number.ensures.some;
  most = c.first_number.ensures.bound;
  last = c.in_ok-replayed.ensures.bound c.in_ok-restored.ensures.bounds;
  plain = c.in_ok-replayed.ensures.plain;
}

pub returns-clause-answers : goal.returns-clause-answers
returns-clause-answers g c = λ shown.
    let folder = folder_of (g.S.Site.disk c.args.site.now) in
    let live : Restored = record { version = c.in_ok-restored.restored.version; standing = c.in_ok-restored.restored.standing } in
    let is = live_of_restored folder c.args.manifest live (c.requires.named shown) (c.in_ok-restored.ensures.restored shown) in
    let read : folder_of (g.S.Site.disk c.read_all.new.site) ≡ folder = ap folder_of (c.read_all.ensures.quiet.stays shown).same in
    let same : folder_of (g.S.Site.disk c.check_files.new.site) ≡ folder = ap folder_of (c.check_files.ensures.quiet.stays shown).same ∙ read in
    let pass : AllPass folder live.version = subst (λ (f : Folder). AllPass f live.version) read (c.in_ok-check_files.ensures.pass shown) in
    let loaded : HasLoaded folder c.args.manifest c.args.asked.now (record { version = live.version; options = live.standing.options; memory = c.in_ok-replayed.replayed.memory; last = c.in_ok-replayed.replayed.last; first = c.first_number.result }) =
    record {
      live = live;
      is_live = is;
      version_is = refl;
      options_are = refl;
      agree = sym c.in_ok-check_options.ensures;
      pass = pass;
      logs = subst (λ (f : Folder). HasReplayedLogs f live.standing.log_number live.standing.last_sequence c.in_ok-replayed.replayed.memory c.in_ok-replayed.replayed.last) same (c.in_ok-replayed.ensures.replayed shown);
      first = c.first_number.ensures.first folder live.version c.version_is_in_order.ensures pass (c.requires.listed shown) (inr (some_of (file folder Current) (current_text c.args.manifest) (c.requires.named shown).current));
    } in
    none_refused folder c.args.asked.now _ (λ e told tells. absurd (cc told))
    (λ e refused. loaded_not_refused c.folders_stand_for_one_map.ensures.live c.lacking_folders_are_not_live.ensures.live c.damage_is_one.ensures.passing folder c.args.manifest c.args.asked.now _ e loaded refused)
