-- Calls, one after the other: time goes on, and what a cut leaves during each of them it leaves during both.
use Rattle.std.proofs.Common.{◌≡◌, ◌⊎◌, inl, inr, ⊎_elim, ℕ, List, refl, subst, sym, ◌∙◌, arith}
use Rattle.bl_site.specs.Disk.{Name, Disk, Cut, IsCut, MayLeave}
use Rattle.bl_site.specs.Calls.{Creates, Appends, AppendsAny, Syncs, Frays, DoneOrNot, MayDuring, InDoubt, FollowsFile, Elapses}
use Rattle.bl_records.specs.Writing.{MakesPartly, AppendsPartly, AppendsInDoubt}
use Rattle.bl_records.proofs.WritingLemmas.{appended_synced, sync_torn, partly_handed, partly_synced, partly_torn, made_empty, made_then}

module _ {D : Type 0} (clock : D → ℕ) (left_since : D → ℕ → Cut → Type 0) where
  pub elapses_none : (a : D) (during : Cut → Type 0) → Elapses (clock a) (clock a) (left_since a) (left_since a) during
  elapses_none a during = record { later = omega arith; nothing_else = λ t c le left. inl left; keeps = λ t c le left. left }

  pub elapses_wider : (a b : D) (during wider : Cut → Type 0) → Elapses (clock a) (clock b) (left_since a) (left_since b) during → ((cut : Cut) → during cut → wider cut)
      → Elapses (clock a) (clock b) (left_since a) (left_since b) wider
  elapses_wider a b during wider ab widens = record {
    later = ab.later;
    nothing_else = λ t cut le left. ⊎_elim (λ was. inl was) (λ now. inr (widens cut now)) (ab.nothing_else t cut le left);
    keeps = ab.keeps;
  }

  pub elapses_joined : (a b c : D) (during : Cut → Type 0) → Elapses (clock a) (clock b) (left_since a) (left_since b) during → Elapses (clock b) (clock c) (left_since b) (left_since c) during
      → Elapses (clock a) (clock c) (left_since a) (left_since c) during
  elapses_joined a b c during ab bc = record {
    later = omega (arith, ab.later, bc.later);
    nothing_else = λ t cut le left. ⊎_elim (ab.nothing_else t cut le) (λ now. inr now) (bc.nothing_else t cut (omega (arith, le, ab.later)) left);
    keeps = λ t cut le left. bc.keeps t cut (omega (arith, le, ab.later)) (ab.keeps t cut le left);
  }

  pub elapses_then : (a b c : D) (first second : Cut → Type 0) → Elapses (clock a) (clock b) (left_since a) (left_since b) first → Elapses (clock b) (clock c) (left_since b) (left_since c) second
      → ((cut : Cut) → second cut → first cut) → Elapses (clock a) (clock c) (left_since a) (left_since c) first
  elapses_then a b c first second ab bc narrows = elapses_joined a b c first ab (elapses_wider b c second first bc narrows)

-- where the disk that reads is the only one, a cut leaves it
pub leaves_this : (may_be P : Disk → Type 0) (disk : Disk) (told before : List ℕ) → ((other : Disk) → may_be other → other ≡ disk) → told ≡ before → P disk
    → (c : Cut) → MayLeave may_be told c → MayLeave P before c
leaves_this may_be P disk told before only same holds c leaves = record {
  disk = leaves.disk;
  possible = subst P (sym (only leaves.disk leaves.possible)) holds;
  is_cut = subst (λ (t : List ℕ). IsCut leaves.disk t c) same leaves.is_cut;
}

-- what more may be there is more that a cut may leave
pub leaves_more : (P Q : Disk → Type 0) (told before : List ℕ) → told ≡ before → ((disk : Disk) → P disk → Q disk) → (c : Cut) → MayLeave P told c → MayLeave Q before c
leaves_more P Q told before same wider c leaves = record {
  disk = leaves.disk;
  possible = wider leaves.disk leaves.possible;
  is_cut = subst (λ (t : List ℕ). IsCut leaves.disk t c) same leaves.is_cut;
}

module _ {D : Type 0} (clock : D → ℕ) (left_since : D → ℕ → Cut → Type 0) (disk : D → Disk) (told : D → List ℕ) (may_be : D → Disk → Type 0) (name : Name) (bytes : List ℕ) where
  -- an append, whatever was answered, after which no name call is in doubt
  pub appending : (old new : D) → (disk new ≡ disk old) ⊎ AppendsAny name bytes (disk old) (disk new)
      → Elapses (clock old) (clock new) (left_since old) (left_since new) (MayLeave (may_be new) (told new))
      → ((other : Disk) → may_be new other → other ≡ disk new) → told new ≡ told old
      → Elapses (clock old) (clock new) (left_since old) (left_since new) (MayLeave (DoneOrNot (AppendsPartly name bytes) (disk old)) (told old))
  appending old new outcome time only same =
      elapses_wider clock left_since old new _ _ time
      (leaves_this (may_be new) (DoneOrNot (AppendsPartly name bytes) (disk old)) (disk new) (told new) (told old) only same
      (⊎_elim (λ e. inl e) (λ a. inr (partly_handed name bytes (disk old) (disk new) a.bytes a.appends)) outcome))

  -- an append, and a sync behind it, whatever that answered
  pub syncing : (old mid new : D) → Appends name bytes bytes (disk old) (disk mid) → (disk new ≡ disk mid) ⊎ (Syncs name (disk mid) (disk new) ⊎ Frays name (disk mid) (disk new))
      → Elapses (clock old) (clock mid) (left_since old) (left_since mid) (MayLeave (may_be mid) (told mid))
      → Elapses (clock mid) (clock new) (left_since mid) (left_since new) (MayLeave (may_be new) (told new))
      → ((other : Disk) → may_be mid other → other ≡ disk mid) → ((other : Disk) → may_be new other → other ≡ disk new) → told mid ≡ told old → told new ≡ told mid
      → Elapses (clock old) (clock new) (left_since old) (left_since new) (MayLeave (DoneOrNot (AppendsPartly name bytes) (disk old)) (told old))
  syncing old mid new a outcome first second only_mid only_new told_mid told_new =
      elapses_then clock left_since old mid new _ _
      (appending old mid (inr (record { bytes = bytes; no_longer = omega arith; appends = a })) first only_mid told_mid)
      second
      (leaves_this (may_be new) (DoneOrNot (AppendsPartly name bytes) (disk old)) (disk new) (told new) (told old) only_new (told_new ∙ told_mid) (inr (partly outcome)))
    where
      partly : (disk new ≡ disk mid) ⊎ (Syncs name (disk mid) (disk new) ⊎ Frays name (disk mid) (disk new)) → AppendsPartly name bytes (disk old) (disk new)
      partly (inl e) = let P : Disk → Type 0 = λ d. AppendsPartly name bytes (disk old) d in subst P (sym e) (partly_handed name bytes (disk old) (disk mid) bytes a)
      partly (inr (inl s)) = partly_synced name bytes (disk old) (disk new) (appended_synced name bytes (disk old) (disk mid) (disk new) a s)
      partly (inr (inr f)) = partly_torn name bytes (disk old) (disk new) (sync_torn name bytes (disk old) (disk mid) (disk new) a f)

  -- the making of the file, and then its bytes
  pub making : (old mid new : D) → Creates name (disk old) (disk mid) → may_be old (disk old)
      → Elapses (clock old) (clock mid) (left_since old) (left_since mid) (MayLeave (MayDuring (Creates name) (may_be old)) (told old))
      → Elapses (clock mid) (clock new) (left_since mid) (left_since new) (MayLeave (DoneOrNot (AppendsPartly name bytes) (disk mid)) (told mid)) → told mid ≡ told old
      → Elapses (clock old) (clock new) (left_since old) (left_since new) (MayLeave (MayDuring (MakesPartly name bytes) (may_be old)) (told old))
  making old mid new made here first second same =
      elapses_joined clock left_since old mid new _
      (elapses_wider clock left_since old mid _ _ first
      (leaves_more _ (MayDuring (MakesPartly name bytes) (may_be old)) (told old) (told old) refl (making_wider old)))
      (elapses_wider clock left_since mid new _ _ second
      (leaves_more _ (MayDuring (MakesPartly name bytes) (may_be old)) (told mid) (told old) same
      (λ d partly. inr (disk old, here, made_then name bytes (disk old) (disk mid) d made partly))))
    where
      making_wider : (a : D) (d : Disk) → MayDuring (Creates name) (may_be a) d → MayDuring (MakesPartly name bytes) (may_be a) d
      making_wider a d may = ⊎_elim (λ was. inl was) (λ from. inr (from.0, from.1, made_empty name bytes from.0 d from.2)) may

  -- the same by other names for it
  pub making_called : (called again given : List ℕ) (old mid new : D) → called ≡ name → again ≡ name → given ≡ bytes → Creates called (disk old) (disk mid) → may_be old (disk old)
      → Elapses (clock old) (clock mid) (left_since old) (left_since mid) (MayLeave (MayDuring (Creates called) (may_be old)) (told old))
      → Elapses (clock mid) (clock new) (left_since mid) (left_since new) (MayLeave (DoneOrNot (AppendsPartly again given) (disk mid)) (told mid)) → told mid ≡ told old
      → Elapses (clock old) (clock new) (left_since old) (left_since new) (MayLeave (MayDuring (MakesPartly name bytes) (may_be old)) (told old))
  making_called called again given old mid new one other are made here first second same =
      let P : List ℕ → Type 0 = λ n. Creates n (disk old) (disk mid) in
      let Q : List ℕ → Type 0 = λ n. Elapses (clock old) (clock mid) (left_since old) (left_since mid) (MayLeave (MayDuring (Creates n) (may_be old)) (told old)) in
      let R : List ℕ → List ℕ → Type 0 = λ n bs. Elapses (clock mid) (clock new) (left_since mid) (left_since new) (MayLeave (DoneOrNot (AppendsPartly n bs) (disk mid)) (told mid)) in
      making old mid new (subst P one made) here (subst Q one first) (subst (R name) are (subst (λ n. R n given) other second)) same

  -- where no name call is in doubt behind it
  pub made_doubt : (old new : D) → may_be old (disk old) → ((other : Disk) → may_be new other → other ≡ disk new) → MakesPartly name bytes (disk old) (disk new) → InDoubt (MakesPartly name bytes) (may_be old) (may_be new)
  made_doubt old new here only made d may = inr (disk old, here, let P : Disk → Type 0 = λ x. MakesPartly name bytes (disk old) x in subst P (sym (only d may)) made)

-- ---- while name calls may be in doubt

module _ {D : Type 0} (disk : D → Disk) (may_be : D → Disk → Type 0) (told : D → List ℕ) (clock : D → ℕ) (left_since : D → ℕ → Cut → Type 0) (name : Name) (bytes : List ℕ) where
  pub doubt_none : (a : D) → AppendsInDoubt disk may_be told clock left_since name bytes a a
  doubt_none a = record {
    mid = disk a;
    appends = inl refl;
    syncs = inl refl;
    follows = λ d may. (d, (d, may, λ other. inl refl), λ other. inl refl);
    time = elapses_none clock left_since a _;
  }

  pub doubt_append : (old new : D) → (disk new ≡ disk old) ⊎ AppendsAny name bytes (disk old) (disk new) → FollowsFile name (disk old) (disk new) (may_be old) (may_be new)
      → Elapses (clock old) (clock new) (left_since old) (left_since new) (MayLeave (may_be new) (told new)) → told new ≡ told old
      → AppendsInDoubt disk may_be told clock left_since name bytes old new
  doubt_append old new outcome doubt time same = record {
    mid = disk new;
    appends = outcome;
    syncs = inl refl;
    follows = λ d may. (d, doubt d may, λ other. inl refl);
    time = elapses_wider clock left_since old new _ _ time (leaves_more (may_be new) _ (told new) (told old) same (λ d may. inr may));
  }

  pub doubt_sync : (old mid new : D) → Appends name bytes bytes (disk old) (disk mid) → FollowsFile name (disk old) (disk mid) (may_be old) (may_be mid)
      → (disk new ≡ disk mid) ⊎ (Syncs name (disk mid) (disk new) ⊎ Frays name (disk mid) (disk new)) → FollowsFile name (disk mid) (disk new) (may_be mid) (may_be new)
      → Elapses (clock old) (clock mid) (left_since old) (left_since mid) (MayLeave (may_be mid) (told mid)) → Elapses (clock mid) (clock new) (left_since mid) (left_since new) (MayLeave (may_be new) (told new))
      → told mid ≡ told old → told new ≡ told mid → AppendsInDoubt disk may_be told clock left_since name bytes old new
  doubt_sync old mid new a first outcome second time_mid time_new told_mid told_new = record {
    mid = disk mid;
    appends = inr (record { bytes = bytes; no_longer = omega arith; appends = a });
    syncs = outcome;
    follows = λ d may. let from = second d may in (from.0, first from.0 from.1, from.2);
    time = elapses_joined clock left_since old mid new _
        (elapses_wider clock left_since old mid _ _ time_mid (leaves_more (may_be mid) _ (told mid) (told old) told_mid (λ d may. inl (first d may))))
        (elapses_wider clock left_since mid new _ _ time_new (leaves_more (may_be new) _ (told new) (told old) (told_new ∙ told_mid) (λ d may. inr may)));
  }
