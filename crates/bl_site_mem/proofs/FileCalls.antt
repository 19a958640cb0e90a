-- What the record of a call that names no name says of the site: `append`, `sync`, `tell` and the calls that look.
use Rattle.std.proofs.Common.{◌≡◌, ℕ, Bool, true, false, List, ◌++◌, length, take, refl, sym, ◌∙◌, ap, subst, arith, Option, None, Some, Result, Ok, Err, OnOk, IsErrOf, IsSome, ◌/◌}
use Rattle.std.proofs.lemmas.List.{take_all}
use Rattle.std.specs.Option.{option_map}
use Rattle.bl_site.specs.Disk.{Name, File, Disk, Cut, IsCut, MayLeave}
use Rattle.bl_site.specs.Calls.{Appends, AppendsAny, Syncs, Frays, FollowsFile, KeepsDisk, Elapses, Tells}
use Rattle.bl_site.specs.declared.site.SiteErr.{SiteErr}
use Rattle.bl_site.specs.declared.site.SiteErr.TheVariants.{DiskFailed, TellFailed, OutOfMemory}
use Rattle.bl_site_mem.specs.Record.{Call, Look, Append, Sync, Tell, Memory, at, disk_of, told_of, may_be_of, IsCertain, clock_of, left_since_of, State, put, appended, synced, first_half, disk_after, disk_failed, doubt_after, doubt_failed, told_after, told_failed, Doubted, Leaves, Within}
use Rattle.bl_site_mem.specs.Laws.{remnant, half_no_longer}
use Rattle.bl_site_mem.specs.Recorded.{Adds, IsAsked}
use Rattle.bl_site_mem.proofs.Puts.{appends_put, syncs_put, frays_same, follows_put, follows_same}
use Rattle.bl_site_mem.proofs.Times.{at_added, entries_added, elapses_push, elapses_same}

the_file : (o : Option File) → IsSome o → (file : File) × (o ≡ Some file)
the_file None there = cc
the_file (Some file) there = (file, refl)

-- a call that leaves the names alone
pub record IsQuiet (call : Call) : Type 0 where
  pub keeps : (doubt : List Call) → doubt_after call doubt ≡ doubt
  pub keeps_failed : (doubt : List Call) → doubt_failed call doubt ≡ doubt

doubt_stays : (call : Call) (failed : Bool) (old new : Memory) → IsQuiet call → Adds call failed old new → (at new).doubt ≡ (at old).doubt
doubt_stays call false old new quiet adds = ap (λ (s : State). s.doubt) (at_added call false old new adds) ∙ quiet.keeps (at old).doubt
doubt_stays call true old new quiet adds = ap (λ (s : State). s.doubt) (at_added call true old new adds) ∙ quiet.keeps_failed (at old).doubt

pub quiet_certain : {T : Type 0} (call : Call) → IsQuiet call → (result : Result T SiteErr) (old new : Memory) → IsAsked call result old new → IsCertain old → IsCertain new
quiet_certain call quiet (Ok x) old new adds none = doubt_stays call false old new quiet adds ∙ none
quiet_certain call quiet (Err DiskFailed) old new adds none = doubt_stays call true old new quiet adds ∙ none
quiet_certain call quiet (Err TellFailed) old new adds none = doubt_stays call true old new quiet adds ∙ none
quiet_certain call quiet (Err OutOfMemory) old new same none = ap (λ (m : Memory). (at m).doubt) same ∙ none

pub append_quiet : (name : Name) (bytes : List ℕ) → IsQuiet (Append name bytes)
append_quiet name bytes = record { keeps = λ doubt. refl; keeps_failed = λ doubt. refl }

pub sync_quiet : (name : Name) → IsQuiet (Sync name)
sync_quiet name = record { keeps = λ doubt. refl; keeps_failed = λ doubt. refl }

-- append
module _ (name : Name) (bytes : List ℕ) where
  append_disk : (old new : Memory) → Adds (Append name bytes) false old new → disk_of new ≡ put (disk_of old) name (option_map (appended bytes bytes) (disk_of old name))
  append_disk old new adds = ap (λ (s : State). s.disk) (at_added (Append name bytes) false old new adds)

  append_disk_failed : (old new : Memory) → Adds (Append name bytes) true old new → disk_of new ≡ put (disk_of old) name (option_map (appended (first_half bytes) bytes) (disk_of old name))
  append_disk_failed old new adds = ap (λ (s : State). s.disk) (at_added (Append name bytes) true old new adds)

  pub append_done : {T : Type 0} (result : Result T SiteErr) (old new : Memory) → IsSome (disk_of old name) → IsAsked (Append name bytes) result old new → OnOk result (Appends name bytes bytes (disk_of old) (disk_of new))
  append_done (Ok x) old new there adds =
      let f = the_file _ there in
      subst (λ (d : Disk). Appends name bytes bytes (disk_of old) d) (sym (append_disk old new adds)) (appends_put (disk_of old) name bytes bytes f.0 f.1)
  append_done (Err e) old new there asked = tt

  half_appended : (old new : Memory) → IsSome (disk_of old name) → Adds (Append name bytes) true old new → AppendsAny name bytes (disk_of old) (disk_of new)
  half_appended old new there adds =
      let f = the_file _ there in
      record {
        bytes = first_half bytes;
        no_longer = half_no_longer bytes;
        appends = subst (λ (d : Disk). Appends name (first_half bytes) bytes (disk_of old) d) (sym (append_disk_failed old new adds)) (appends_put (disk_of old) name (first_half bytes) bytes f.0 f.1);
      }

  pub append_failed : {T : Type 0} (result : Result T SiteErr) (old new : Memory) → IsSome (disk_of old name) → IsAsked (Append name bytes) result old new → IsErrOf result DiskFailed → AppendsAny name bytes (disk_of old) (disk_of new)
  append_failed (Ok x) old new there asked e = cc
  append_failed (Err DiskFailed) old new there adds e = half_appended old new there adds
  append_failed (Err TellFailed) old new there adds e = half_appended old new there adds
  append_failed (Err OutOfMemory) old new there same e = cc

  failed_follows : (old new : Memory) → Adds (Append name bytes) true old new → FollowsFile name (disk_of old) (disk_of new) (may_be_of old) (may_be_of new)
  failed_follows old new adds other may = follows_put name (option_map (appended (first_half bytes) bytes) (disk_of old name)) (at old) (at new) (doubt_stays (Append name bytes) true old new (append_quiet name bytes) adds) (append_disk_failed old new adds) other may

  pub append_follows : {T : Type 0} (result : Result T SiteErr) (old new : Memory) → IsAsked (Append name bytes) result old new → FollowsFile name (disk_of old) (disk_of new) (may_be_of old) (may_be_of new)
  append_follows (Ok x) old new adds other may = follows_put name (option_map (appended bytes bytes) (disk_of old name)) (at old) (at new) (doubt_stays (Append name bytes) false old new (append_quiet name bytes) adds) (append_disk old new adds) other may
  append_follows (Err DiskFailed) old new adds other may = failed_follows old new adds other may
  append_follows (Err TellFailed) old new adds other may = failed_follows old new adds other may
  append_follows (Err OutOfMemory) old new same other may = follows_same name (at old) (at new) (ap (λ (m : Memory). (at m).doubt) same) (ap disk_of same) other may

-- sync
module _ (name : Name) where
  sync_disk : (old new : Memory) → Adds (Sync name) false old new → disk_of new ≡ put (disk_of old) name (option_map synced (disk_of old name))
  sync_disk old new adds = ap (λ (s : State). s.disk) (at_added (Sync name) false old new adds)

  sync_disk_failed : (old new : Memory) → Adds (Sync name) true old new → disk_of new ≡ disk_of old
  sync_disk_failed old new adds = ap (λ (s : State). s.disk) (at_added (Sync name) true old new adds)

  pub sync_done : {T : Type 0} (result : Result T SiteErr) (old new : Memory) → IsSome (disk_of old name) → IsAsked (Sync name) result old new → OnOk result (Syncs name (disk_of old) (disk_of new))
  sync_done (Ok x) old new there adds =
      let f = the_file _ there in
      subst (λ (d : Disk). Syncs name (disk_of old) d) (sym (sync_disk old new adds)) (syncs_put (disk_of old) name f.0 f.1)
  sync_done (Err e) old new there asked = tt

  frayed : (old new : Memory) → IsSome (disk_of old name) → disk_of new ≡ disk_of old → Frays name (disk_of old) (disk_of new)
  frayed old new there same =
      let f = the_file _ there in
      subst (λ (d : Disk). Frays name (disk_of old) d) (sym same) (frays_same (disk_of old) name f.0 f.1 (remnant old.entries name f.0 f.1))

  pub sync_failed : {T : Type 0} (result : Result T SiteErr) (old new : Memory) → IsSome (disk_of old name) → IsAsked (Sync name) result old new → IsErrOf result DiskFailed → Frays name (disk_of old) (disk_of new)
  sync_failed (Ok x) old new there asked e = cc
  sync_failed (Err DiskFailed) old new there adds e = frayed old new there (sync_disk_failed old new adds)
  sync_failed (Err TellFailed) old new there adds e = frayed old new there (sync_disk_failed old new adds)
  sync_failed (Err OutOfMemory) old new there same e = cc

  pub sync_follows : {T : Type 0} (result : Result T SiteErr) (old new : Memory) → IsAsked (Sync name) result old new → FollowsFile name (disk_of old) (disk_of new) (may_be_of old) (may_be_of new)
  sync_follows (Ok x) old new adds other may = follows_put name (option_map synced (disk_of old name)) (at old) (at new) (doubt_stays (Sync name) false old new (sync_quiet name) adds) (sync_disk old new adds) other may
  sync_follows (Err DiskFailed) old new adds other may = follows_same name (at old) (at new) (doubt_stays (Sync name) true old new (sync_quiet name) adds) (sync_disk_failed old new adds) other may
  sync_follows (Err TellFailed) old new adds other may = follows_same name (at old) (at new) (doubt_stays (Sync name) true old new (sync_quiet name) adds) (sync_disk_failed old new adds) other may
  sync_follows (Err OutOfMemory) old new same other may = follows_same name (at old) (at new) (ap (λ (m : Memory). (at m).doubt) same) (ap disk_of same) other may

-- a call that leaves the disk alone
pub record IsStill (call : Call) : Type 0 where
  pub quiet : IsQuiet call
  pub disk_same : (disk : Disk) → disk_after call disk ≡ disk
  pub disk_same_failed : (disk : Disk) → disk_failed call disk ≡ disk

pub look_still : IsStill Look
look_still = record { quiet = record { keeps = λ doubt. refl; keeps_failed = λ doubt. refl }; disk_same = λ disk. refl; disk_same_failed = λ disk. refl }

pub tell_still : (bytes : List ℕ) → IsStill (Tell bytes)
tell_still bytes = record { quiet = record { keeps = λ doubt. refl; keeps_failed = λ doubt. refl }; disk_same = λ disk. refl; disk_same_failed = λ disk. refl }

keeps_disk : (old new : Memory) → disk_of new ≡ disk_of old → (at new).doubt ≡ (at old).doubt → KeepsDisk disk_of may_be_of IsCertain old new
keeps_disk old new disk_is doubt_is = record {
  same = disk_is;
  possible = λ other may. subst (λ (d : Disk). Doubted (at old).doubt d other) disk_is (subst (λ (l : List Call). Doubted l (disk_of new) other) doubt_is may);
  certain_stays = λ none. doubt_is ∙ none;
}

pub still_keeps : {T : Type 0} (call : Call) → IsStill call → (result : Result T SiteErr) (old new : Memory) → IsAsked call result old new → KeepsDisk disk_of may_be_of IsCertain old new
still_keeps call still (Ok x) old new adds = keeps_disk old new (ap (λ (s : State). s.disk) (at_added call false old new adds) ∙ still.disk_same (disk_of old)) (doubt_stays call false old new still.quiet adds)
still_keeps call still (Err DiskFailed) old new adds = keeps_disk old new (ap (λ (s : State). s.disk) (at_added call true old new adds) ∙ still.disk_same_failed (disk_of old)) (doubt_stays call true old new still.quiet adds)
still_keeps call still (Err TellFailed) old new adds = keeps_disk old new (ap (λ (s : State). s.disk) (at_added call true old new adds) ∙ still.disk_same_failed (disk_of old)) (doubt_stays call true old new still.quiet adds)
still_keeps call still (Err OutOfMemory) old new same = keeps_disk old new (ap disk_of same) (ap (λ (m : Memory). (at m).doubt) same)

-- a call that tells nothing, and within which a cut finds nothing new
pub record IsSilent (call : Call) : Type 0 where
  pub tells_none : (told : List ℕ) → told_after call told ≡ told
  pub fails_none : (told : List ℕ) → told_failed call told ≡ told
  pub none_within : (state : State) (c : Cut) → Within call state c → ⊥

pub look_silent : IsSilent Look
look_silent = record { tells_none = λ told. refl; fails_none = λ told. refl; none_within = λ state c within. within }

pub append_silent : (name : Name) (bytes : List ℕ) → IsSilent (Append name bytes)
append_silent name bytes = record { tells_none = λ told. refl; fails_none = λ told. refl; none_within = λ state c within. within }

pub sync_silent : (name : Name) → IsSilent (Sync name)
sync_silent name = record { tells_none = λ told. refl; fails_none = λ told. refl; none_within = λ state c within. within }

module _ (call : Call) (silent : IsSilent call) where
  pub silent_told : {T : Type 0} (result : Result T SiteErr) (old new : Memory) → IsAsked call result old new → told_of new ≡ told_of old
  silent_told (Ok x) old new adds = ap (λ (s : State). s.told) (at_added call false old new adds) ∙ silent.tells_none (told_of old)
  silent_told (Err DiskFailed) old new adds = ap (λ (s : State). s.told) (at_added call true old new adds) ∙ silent.fails_none (told_of old)
  silent_told (Err TellFailed) old new adds = ap (λ (s : State). s.told) (at_added call true old new adds) ∙ silent.fails_none (told_of old)
  silent_told (Err OutOfMemory) old new same = ap told_of same

  time_added : (failed : Bool) (old new : Memory) → Adds call failed old new → Elapses (clock_of old) (clock_of new) (left_since_of old) (left_since_of new) (MayLeave (may_be_of new) (told_of new))
  time_added failed old new adds = elapses_push old.entries new.entries (record { call = call; failed = failed }) (MayLeave (may_be_of new) (told_of new)) (entries_added call failed old new adds)
      (λ c within. absurd (silent.none_within (at old) c within))
      (λ c leaves. subst (λ (s : State). Leaves s c) (sym (at_added call failed old new adds)) leaves)

  pub silent_time : {T : Type 0} (result : Result T SiteErr) (old new : Memory) → IsAsked call result old new → Elapses (clock_of old) (clock_of new) (left_since_of old) (left_since_of new) (MayLeave (may_be_of new) (told_of new))
  silent_time (Ok x) old new adds = time_added false old new adds
  silent_time (Err DiskFailed) old new adds = time_added true old new adds
  silent_time (Err TellFailed) old new adds = time_added true old new adds
  silent_time (Err OutOfMemory) old new same = elapses_same old.entries new.entries _ (ap (λ (m : Memory). m.entries) same)

-- tell
module _ (bytes : List ℕ) where
  tell_told : (old new : Memory) → Adds (Tell bytes) false old new → told_of new ≡ told_of old ++ bytes
  tell_told old new adds = ap (λ (s : State). s.told) (at_added (Tell bytes) false old new adds)

  tell_told_failed : (old new : Memory) → Adds (Tell bytes) true old new → told_of new ≡ told_of old ++ first_half bytes
  tell_told_failed old new adds = ap (λ (s : State). s.told) (at_added (Tell bytes) true old new adds)

  pub tell_done : {T : Type 0} (result : Result T SiteErr) (old new : Memory) → IsAsked (Tell bytes) result old new → OnOk result (told_of new ≡ told_of old ++ bytes)
  tell_done (Ok x) old new adds = tell_told old new adds
  tell_done (Err e) old new asked = tt

  pub tell_failed : {T : Type 0} (result : Result T SiteErr) (old new : Memory) → IsAsked (Tell bytes) result old new → IsErrOf result TellFailed → (count : ℕ) × (told_of new ≡ told_of old ++ take count bytes)
  tell_failed (Ok x) old new adds e = cc
  tell_failed (Err DiskFailed) old new adds e = (length bytes / 2, tell_told_failed old new adds)
  tell_failed (Err TellFailed) old new adds e = (length bytes / 2, tell_told_failed old new adds)
  tell_failed (Err OutOfMemory) old new same e = cc

  tell_time_added : (failed : Bool) (count : ℕ) (old new : Memory) → Adds (Tell bytes) failed old new → KeepsDisk disk_of may_be_of IsCertain old new → told_of new ≡ told_of old ++ take count bytes
      → Elapses (clock_of old) (clock_of new) (left_since_of old) (left_since_of new) (Tells (may_be_of old) (told_of old) bytes)
  tell_time_added failed count old new adds kept told_is = elapses_push old.entries new.entries (record { call = Tell bytes; failed = failed }) (Tells (may_be_of old) (told_of old) bytes) (entries_added (Tell bytes) failed old new adds)
      (λ c within. within)
      (λ c leaves. afterwards c (subst (λ (s : State). Leaves s c) (sym (at_added (Tell bytes) failed old new adds)) leaves))
    where
      afterwards : (c : Cut) → Leaves (at new) c → Tells (may_be_of old) (told_of old) bytes c
      afterwards c leaves = record {
        count = count;
        leaves = record { disk = leaves.disk; possible = kept.possible leaves.disk leaves.possible; is_cut = subst (λ (t : List ℕ). IsCut leaves.disk t c) told_is leaves.is_cut };
      }

  pub tell_time : {T : Type 0} (result : Result T SiteErr) (old new : Memory) → IsAsked (Tell bytes) result old new → Elapses (clock_of old) (clock_of new) (left_since_of old) (left_since_of new) (Tells (may_be_of old) (told_of old) bytes)
  tell_time (Ok x) old new adds = tell_time_added false (length bytes) old new adds (still_keeps (Tell bytes) (tell_still bytes) (Ok x) old new adds) (tell_told old new adds ∙ ap (λ (bs : List ℕ). told_of old ++ bs) (sym (take_all (length bytes) bytes (omega arith))))
  tell_time (Err DiskFailed) old new adds = tell_time_added true (length bytes / 2) old new adds (still_keeps {T = Unit {0}} (Tell bytes) (tell_still bytes) (Err DiskFailed) old new adds) (tell_told_failed old new adds)
  tell_time (Err TellFailed) old new adds = tell_time_added true (length bytes / 2) old new adds (still_keeps {T = Unit {0}} (Tell bytes) (tell_still bytes) (Err TellFailed) old new adds) (tell_told_failed old new adds)
  tell_time (Err OutOfMemory) old new same = elapses_same old.entries new.entries _ (ap (λ (m : Memory). m.entries) same)
