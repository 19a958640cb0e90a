-- How time goes on as a call is added to a record.
use Rattle.std.proofs.Common.{◌≡◌, ◌⊎◌, inl, inr, ⊎_elim, ℕ, zero, suc, ◌≤◌, Bool, true, false, cond, List, [], ◌∷◌, ◌++◌, length, refl, sym, ◌∙◌, ap, subst, arith, length-append}
use Rattle.bl_site.specs.Disk.{Cut}
use Rattle.bl_site.specs.Calls.{Elapses}
use Rattle.bl_site_mem.specs.Recorded.{Adds, with_call}
use Rattle.bl_site_mem.specs.Record.{Call, Entry, Memory, at, State, start, step, after, run, disk_after, disk_failed, told_after, told_failed, Leaves, Within, LeftSince}

pub run-push : (entries : List Entry) (entry : Entry) (state : State) → run (entries ++ entry ∷ []) state ≡ after entry (run entries state)
run-push [] entry state = refl
run-push (e ∷ entries) entry state = run-push entries entry (after e state)

left_push : (entries : List Entry) (entry : Entry) (state : State) (t : ℕ) (c : Cut) → t ≤ length entries → LeftSince state (entries ++ entry ∷ []) t c
    → LeftSince state entries t c ⊎ (Within entry.call (run entries state) c ⊎ Leaves (after entry (run entries state)) c)
left_push [] entry state zero c le (inl was) = inl was
left_push [] entry state zero c le (inr new) = inr new
left_push [] entry state (suc t) c le left = absurd (omega arith)
left_push (e ∷ entries) entry state zero c le (inl was) = inl (inl was)
left_push (e ∷ entries) entry state zero c le (inr (inl was)) = inl (inr (inl was))
left_push (e ∷ entries) entry state zero c le (inr (inr left)) = ⊎_elim (λ was. inl (inr (inr was))) (λ new. inr new) (left_push entries entry (after e state) zero c (omega arith) left)
left_push (e ∷ entries) entry state (suc t) c le left = left_push entries entry (after e state) t c (omega arith) left

keeps_push : (entries : List Entry) (entry : Entry) (state : State) (t : ℕ) (c : Cut) → LeftSince state entries t c → LeftSince state (entries ++ entry ∷ []) t c
keeps_push [] entry state zero c left = inl left
keeps_push [] entry state (suc t) c left = absurd left
keeps_push (e ∷ entries) entry state zero c (inl left) = inl left
keeps_push (e ∷ entries) entry state zero c (inr (inl left)) = inr (inl left)
keeps_push (e ∷ entries) entry state zero c (inr (inr left)) = inr (inr (keeps_push entries entry (after e state) zero c left))
keeps_push (e ∷ entries) entry state (suc t) c left = keeps_push entries entry (after e state) t c left

-- with a call more, where what a cut within it or after it may leave is in `during`
pub elapses_push : (old new : List Entry) (entry : Entry) (during : Cut → Type 0) → new ≡ old ++ entry ∷ []
    → ((c : Cut) → Within entry.call (run old start) c → during c) → ((c : Cut) → Leaves (after entry (run old start)) c → during c)
    → Elapses (length old) (length new) (LeftSince start old) (LeftSince start new) during
elapses_push old new entry during added within afterwards = record {
  later = omega (arith, ap length added ∙ length-append old (entry ∷ []));
  nothing_else = λ t c le left. ⊎_elim (λ was. inl was) (λ now. inr (⊎_elim (within c) (afterwards c) now)) (left_push old entry start t c le (subst (λ (es : List Entry). LeftSince start es t c) added left));
  keeps = λ t c le left. subst (λ (es : List Entry). LeftSince start es t c) (sym added) (keeps_push old entry start t c left);
}

pub elapses_same : (old new : List Entry) (during : Cut → Type 0) → new ≡ old → Elapses (length old) (length new) (LeftSince start old) (LeftSince start new) during
elapses_same old new during same = record {
  later = omega (arith, ap length same);
  nothing_else = λ t c le left. inl (subst (λ (es : List Entry). LeftSince start es t c) same left);
  keeps = λ t c le left. subst (λ (es : List Entry). LeftSince start es t c) (sym same) left;
}

-- the state after one call more, of which the files and the output are those after the call
pub disk_step : (failed : Bool) (call : Call) (state : State) → (step failed call state).disk ≡ cond failed (disk_failed call state.disk) (disk_after call state.disk)
disk_step false call state = refl
disk_step true call state = refl

pub told_step : (failed : Bool) (call : Call) (state : State) → (step failed call state).told ≡ cond failed (told_failed call state.told) (told_after call state.told)
told_step false call state = refl
told_step true call state = refl

pub disk_pushed : (old new : List Entry) (entry : Entry) → new ≡ old ++ entry ∷ [] → (run new start).disk ≡ cond entry.failed (disk_failed entry.call (run old start).disk) (disk_after entry.call (run old start).disk)
disk_pushed old new entry added = ap (λ (es : List Entry). (run es start).disk) added ∙ ap (λ (s : State). s.disk) (run-push old entry start) ∙ disk_step entry.failed entry.call (run old start)

pub told_pushed : (old new : List Entry) (entry : Entry) → new ≡ old ++ entry ∷ [] → (run new start).told ≡ cond entry.failed (told_failed entry.call (run old start).told) (told_after entry.call (run old start).told)
told_pushed old new entry added = ap (λ (es : List Entry). (run es start).told) added ∙ ap (λ (s : State). s.told) (run-push old entry start) ∙ told_step entry.failed entry.call (run old start)

-- after a call that is in the record
pub entries_added : (call : Call) (failed : Bool) (old new : Memory) → Adds call failed old new → new.entries ≡ old.entries ++ record { call = call; failed = failed } ∷ []
entries_added call failed old new adds = ap (λ (m : Memory). m.entries) adds.1

pub at_with : (call : Call) (failed : Bool) (old new : Memory) → new ≡ with_call call failed old → at new ≡ step failed call (at old)
at_with call failed old new is = ap (λ (m : Memory). at m) is ∙ run-push old.entries (record { call = call; failed = failed }) start

pub at_added : (call : Call) (failed : Bool) (old new : Memory) → Adds call failed old new → at new ≡ step failed call (at old)
at_added call failed old new adds = at_with call failed old new adds.1
