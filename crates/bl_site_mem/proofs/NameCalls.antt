-- What the record of a name call says of the site.
use Rattle.std.proofs.Common.{◌≡◌, inl, inr, ⊎_elim, ℕ, Bool, true, false, List, [], ◌∷◌, ◌++◌, refl, sym, ◌∙◌, ap, subst, Result, Ok, Err, OnOk, IsErrOf}
use Rattle.bl_site.specs.Disk.{Name, Disk, Cut, IsCut, MayLeave}
use Rattle.bl_site.specs.Calls.{Creates, Removes, Renames, DoneOrNot, MayDuring, InDoubt, Elapses}
use Rattle.bl_site.specs.declared.site.SiteErr.{SiteErr}
use Rattle.bl_site.specs.declared.site.SiteErr.TheVariants.{DiskFailed, TellFailed, OutOfMemory}
use Rattle.bl_site_mem.specs.Record.{Call, Create, Rename, Remove, Memory, at, disk_of, told_of, may_be_of, IsCertain, clock_of, left_since_of, State, disk_after, disk_failed, doubt_after, doubt_failed, told_after, told_failed, renamed, Doubted, MayBe, Leaves, Within}
use Rattle.bl_site_mem.specs.Laws.{reads}
use Rattle.bl_site_mem.specs.Recorded.{Adds, IsAsked}
use Rattle.bl_site_mem.proofs.Puts.{puts_put, removes_put, renames_put, doubted_push}
use Rattle.bl_site_mem.proofs.Times.{at_added, entries_added, elapses_push, elapses_same}

pub record IsNameCall (does : Disk → Disk → Type 0) (call : Call) : Type 0 where
  pub done : (disk : Disk) → does disk (disk_after call disk)
  pub same : (disk : Disk) → renamed call disk ≡ disk_after call disk
  pub not_done : (disk : Disk) → disk_failed call disk ≡ disk
  pub clears : (doubt : List Call) → doubt_after call doubt ≡ []
  pub doubts : (doubt : List Call) → doubt_failed call doubt ≡ doubt ++ call ∷ []
  pub tells_none : (told : List ℕ) → told_after call told ≡ told
  pub fails_none : (told : List ℕ) → told_failed call told ≡ told
  pub within : (state : State) (c : Cut) → Within call state c → MayLeave (MayDuring does (MayBe state)) state.told c

pub is_create : (name : Name) → IsNameCall (Creates name) (Create name)
is_create name = record {
  done = λ disk. puts_put disk name _;
  same = λ disk. refl;
  not_done = λ disk. refl;
  clears = λ doubt. refl;
  doubts = λ doubt. refl;
  tells_none = λ told. refl;
  fails_none = λ told. refl;
  within = λ state c is. is;
}

pub is_remove : (name : Name) → IsNameCall (Removes name) (Remove name)
is_remove name = record {
  done = λ disk. removes_put disk name;
  same = λ disk. refl;
  not_done = λ disk. refl;
  clears = λ doubt. refl;
  doubts = λ doubt. refl;
  tells_none = λ told. refl;
  fails_none = λ told. refl;
  within = λ state c is. is;
}

pub is_rename : (from to : Name) → IsNameCall (Renames from to) (Rename from to)
is_rename from to = record {
  done = λ disk. renames_put disk from to;
  same = λ disk. refl;
  not_done = λ disk. refl;
  clears = λ doubt. refl;
  doubts = λ doubt. refl;
  tells_none = λ told. refl;
  fails_none = λ told. refl;
  within = λ state c is. is;
}

module _ (does : Disk → Disk → Type 0) (call : Call) (is : IsNameCall does call) where
  pub name_done : {T : Type 0} (result : Result T SiteErr) (old new : Memory) → IsAsked call result old new → OnOk result (does (disk_of old) (disk_of new))
  name_done (Ok x) old new adds = subst (λ (s : State). does (disk_of old) s.disk) (sym (at_added call false old new adds)) (is.done (disk_of old))
  name_done (Err e) old new asked = tt

  pub name_certain : {T : Type 0} (result : Result T SiteErr) (old new : Memory) → IsAsked call result old new → OnOk result (IsCertain new)
  name_certain (Ok x) old new adds = ap (λ (s : State). s.doubt) (at_added call false old new adds) ∙ is.clears (at old).doubt
  name_certain (Err e) old new asked = tt

  not_done : (old new : Memory) → Adds call true old new → disk_of new ≡ disk_of old
  not_done old new adds = ap (λ (s : State). s.disk) (at_added call true old new adds) ∙ is.not_done (disk_of old)

  pub name_failed : {T : Type 0} (result : Result T SiteErr) (old new : Memory) → IsAsked call result old new → IsErrOf result DiskFailed → DoneOrNot does (disk_of old) (disk_of new)
  name_failed (Ok x) old new asked e = cc
  name_failed (Err DiskFailed) old new adds e = inl (not_done old new adds)
  name_failed (Err TellFailed) old new adds e = inl (not_done old new adds)
  name_failed (Err OutOfMemory) old new same e = inl (ap disk_of same)

  failed_doubt : (old new : Memory) → Adds call true old new → InDoubt does (may_be_of old) (may_be_of new)
  failed_doubt old new adds other may =
      let disk_is : disk_of new ≡ disk_of old = not_done old new adds in
      let doubt_is : (at new).doubt ≡ (at old).doubt ++ call ∷ [] = ap (λ (s : State). s.doubt) (at_added call true old new adds) ∙ is.doubts (at old).doubt in
      let there : Doubted ((at old).doubt ++ call ∷ []) (disk_of old) other =
      subst (λ (d : Disk). Doubted ((at old).doubt ++ call ∷ []) d other) disk_is (subst (λ (l : List Call). Doubted l (disk_of new) other) doubt_is may) in
      ⊎_elim (λ was. inl was)
      (λ from. inr (from.0, from.1, subst (λ (d : Disk). does from.0 d) (sym (from.2 ∙ is.same from.0)) (is.done from.0)))
      (doubted_push (at old).doubt call (disk_of old) other there)

  done_doubt : (old new : Memory) → Adds call false old new → InDoubt does (may_be_of old) (may_be_of new)
  done_doubt old new adds other may =
      let disk_is : disk_of new ≡ disk_after call (disk_of old) = ap (λ (s : State). s.disk) (at_added call false old new adds) in
      let none : (at new).doubt ≡ [] = ap (λ (s : State). s.doubt) (at_added call false old new adds) ∙ is.clears (at old).doubt in
      let other_is : other ≡ disk_of new = subst (λ (l : List Call). Doubted l (disk_of new) other) none may in
      inr (disk_of old, reads (at old).doubt (disk_of old), subst (λ (d : Disk). does (disk_of old) d) (sym (other_is ∙ disk_is)) (is.done (disk_of old)))

  pub name_doubt : {T : Type 0} (result : Result T SiteErr) (old new : Memory) → IsAsked call result old new → InDoubt does (may_be_of old) (may_be_of new)
  name_doubt (Ok x) old new adds other may = done_doubt old new adds other may
  name_doubt (Err DiskFailed) old new adds other may = failed_doubt old new adds other may
  name_doubt (Err TellFailed) old new adds other may = failed_doubt old new adds other may
  name_doubt (Err OutOfMemory) old new same other may = inl (subst (λ (m : Memory). may_be_of m other) same may)

  pub name_told : {T : Type 0} (result : Result T SiteErr) (old new : Memory) → IsAsked call result old new → told_of new ≡ told_of old
  name_told (Ok x) old new adds = ap (λ (s : State). s.told) (at_added call false old new adds) ∙ is.tells_none (told_of old)
  name_told (Err DiskFailed) old new adds = ap (λ (s : State). s.told) (at_added call true old new adds) ∙ is.fails_none (told_of old)
  name_told (Err TellFailed) old new adds = ap (λ (s : State). s.told) (at_added call true old new adds) ∙ is.fails_none (told_of old)
  name_told (Err OutOfMemory) old new same = ap told_of same

  -- a cut within the call, or after it, is one of those during it
  time_added : (failed : Bool) (old new : Memory) → Adds call failed old new → InDoubt does (may_be_of old) (may_be_of new) → told_of new ≡ told_of old
      → Elapses (clock_of old) (clock_of new) (left_since_of old) (left_since_of new) (MayLeave (MayDuring does (may_be_of old)) (told_of old))
  time_added failed old new adds doubt told_is =
      elapses_push old.entries new.entries (record { call = call; failed = failed }) (MayLeave (MayDuring does (may_be_of old)) (told_of old)) (entries_added call failed old new adds)
      (λ c w. is.within (at old) c w)
      (λ c leaves. during c (subst (λ (s : State). Leaves s c) (sym (at_added call failed old new adds)) leaves))
    where
      during : (c : Cut) → Leaves (at new) c → MayLeave (MayDuring does (may_be_of old)) (told_of old) c
      during c leaves = record { disk = leaves.disk; possible = doubt leaves.disk leaves.possible; is_cut = subst (λ (t : List ℕ). IsCut leaves.disk t c) told_is leaves.is_cut }

  pub name_time : {T : Type 0} (result : Result T SiteErr) (old new : Memory) → IsAsked call result old new
      → Elapses (clock_of old) (clock_of new) (left_since_of old) (left_since_of new) (MayLeave (MayDuring does (may_be_of old)) (told_of old))
  name_time (Ok x) old new adds = time_added false old new adds (done_doubt old new adds) (name_told (Ok x) old new adds)
  name_time (Err DiskFailed) old new adds = time_added true old new adds (failed_doubt old new adds) (name_told {T = Unit {0}} (Err DiskFailed) old new adds)
  name_time (Err TellFailed) old new adds = time_added true old new adds (failed_doubt old new adds) (name_told {T = Unit {0}} (Err TellFailed) old new adds)
  name_time (Err OutOfMemory) old new same = elapses_same old.entries new.entries _ (ap (λ (m : Memory). m.entries) same)
