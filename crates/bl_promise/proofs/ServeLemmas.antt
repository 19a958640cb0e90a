-- What a run has done so far, call by call.
use Rattle.std.proofs.Common.{◌≡◌, inl, inr, ⊎_elim, ℕ, ◌+◌, ◌-◌, ◌<◌, ◌≤◌, ◌^◌, Bool, true, false, cond, leb, List, [], ◌∷◌, ◌++◌, length, take, drop, refl, sym, ◌∙◌, ap, subst, arith, append-nil, append_assoc}
use Rattle.std.proofs.lemmas.Bool.{cases_lt}
use Rattle.std.proofs.lemmas.List.{nil_from_length, take-append-drop}
use Rattle.bl_site.specs.Disk.{Cut, Disk, IsCut, MayLeave, Name, folder_of}
use Rattle.bl_site.specs.Calls.{Elapses, LeavesOnly, Tells}
use Rattle.bl_site.specs.declared.site.Site.{Ghosts}
use Rattle.bl_site.proofs.Moments.{cut_of_only, goes_on, joins, widened}
use Rattle.bl_edit.specs.Options.{Values}
use Rattle.bl_entry.specs.Revisions.{after_operations}
use Rattle.bl_folder.specs.Settled.{IsSettled}
use Rattle.bl_folder.specs.Stands.{StandsLive}
use Rattle.bl_open.specs.SteadyCuts.{LeavesMap}
use Rattle.bl_open.specs.SteadyLaws.{CutsOfSteady}
use Rattle.bl_script.specs.declared.command.Command.TheVariants as command
use Rattle.bl_script.specs.declared.command.Parsed.{Parsed}
use Rattle.bl_script.specs.declared.command.Parsed.TheVariants.{Nothing, Refused, Go}
use Rattle.bl_script.specs.Printing.{ok_line}
use Rattle.bl_machine.specs.Writes.{Write, after_writes, operations_in}
use Rattle.bl_machine.specs.State.{State, IsInOrder}
use Rattle.bl_machine.specs.Step.{Line, Obeys, Step, writes_of}
use Rattle.bl_machine.specs.History.{IsHistory, Runs, told_by, written_by}
use Rattle.bl_machine.specs.Synced.{before_sync, syncs, whole_within}
use Rattle.bl_machine.proofs.HistoryLemmas.{lines_go_on, operations_joined, orders_joined, runs_then, told_more, written_more}
use Rattle.bl_machine.proofs.SyncedLemmas.{before_sync_more, begun_all, no_whole_line, synced_all, synced_have_begun, whole_front, whole_line}
use Rattle.bl_store.specs.Stored.{Stored}
use Rattle.bl_store.specs.Held.{Held, all_durable, begun_with, maps_of, now_of, with_write}
use Rattle.bl_store.specs.Standing.{StandsFor}
use Rattle.bl_store.specs.Calls.{CutsOfCall}
use Rattle.bl_promise.specs.Start.{Start, first_of}
use Rattle.bl_promise.specs.Cuts.{CutOf, FindsNewFile}
use Rattle.bl_promise.specs.Telling.{Fits, last_after}
use Rattle.bl_promise.specs.Carried.{IsLineTo, IsStored, IsWrittenBy, state_of}
use Rattle.bl_promise.specs.Lines.{FlushesAreLines, QuietLinesStay, ReopeningsAreLines, StoresAreInOrder, SyncsAreLines, WritesAreLines}
use Rattle.bl_promise.specs.Serving.{Answering, AreCut, Failing, HasCalled, HasFailed, IsCarried, IsCutOf, Served}
use Rattle.bl_promise.specs.ServingLaws.{AnsweredAreServed, FailedCallsServe, FailedTellingServes, FailedWritesServe, FlushesServe, LimitsServe, NothingFailed, QuietLinesServe, ReadsAnswer, ReadsServe, ReopeningLimitsServe, ReopeningsServe, RepliedAreServed, SyncsServe, TellingServes, WritesServe}
use Rattle.bl_promise.proofs.LineLemmas.{after_more}
use Rattle.bl_promise.proofs.MapLemmas.{counted, now_is}
use Rattle.bl_promise.proofs.CutLemmas.{cut_between, cut_in_call, cut_in_reply, lines_keep_cuts}

-- ---- cuts, from call to call

module _ {S : Type 0} (g : Ghosts S) where
  abbrev pub IsBehind : Start → List Line → S → Cut → Type 0
  IsBehind began history start c = FindsNewFile (g.disk start) c.folder → CutOf began history (g.told start) c

  -- a part more, of which each cut is one of the history
  pub cuts_then : (began : Start) (history : List Line) (start old now : S) → AreCut g began history start old
      → LeavesOnly g.clock g.left_since old now (CutOf began history (g.told start)) → AreCut g began history start now
  cuts_then began history start old now a more =
      let l = a.late in
      record {
        each = joins g.clock g.left_since start old now (IsCutOf g began history start) a.each (widened g.clock g.left_since old now (CutOf began history (g.told start)) (IsCutOf g began history start) (λ c k. inr k) more);
        behind = λ certain. joins g.clock g.left_since start old now (IsBehind began history start) (a.behind certain) (widened g.clock g.left_since old now (CutOf began history (g.told start)) (IsBehind began history start) (λ c k finds. k) more);
        late = record {
          moment = l.moment;
          not_before = l.not_before;
          not_after = omega (arith, l.not_after, more.later);
          each = λ c left. ⊎_elim (λ was. l.each c was) (λ k. k) (more.before l.moment c l.not_after left);
        };
      }

  -- time goes on, and each cut meanwhile is one of the history
  pub cuts_elapse : (began : Start) (history : List Line) (start old now : S) (during : Cut → Type 0) → AreCut g began history start old
      → Elapses (g.clock old) (g.clock now) (g.left_since old) (g.left_since now) during → ((c : Cut) → during c → CutOf began history (g.told start) c) → AreCut g began history start now
  cuts_elapse began history start old now during a time here =
      let l = a.late in
      record {
        each = goes_on g.clock g.left_since start old now (IsCutOf g began history start) during a.each time (λ c k. inr (here c k));
        behind = λ certain. goes_on g.clock g.left_since start old now (IsBehind began history start) during (a.behind certain) time (λ c k finds. here c k);
        late = record {
          moment = l.moment;
          not_before = l.not_before;
          not_after = omega (arith, l.not_after, time.later);
          each = λ c left. ⊎_elim (l.each c) (here c) (time.nothing_else l.moment c l.not_after left);
        };
      }

  -- lines more, of whose replies nothing was told
  pub cuts_more : (o : Values) (began : Start) (history more : List Line) (mid last : State) (start now : S) → Runs o mid more last → AreCut g began history start now → AreCut g began (history ++ more) start now
  cuts_more o began history more mid last start now runs a =
      let wider : (c : Cut) → CutOf began history (g.told start) c → CutOf began (history ++ more) (g.told start) c = λ c k. lines_keep_cuts o began history more mid last (g.told start) c runs k in
      let l = a.late in
      record {
        each = widened g.clock g.left_since start now (IsCutOf g began history start) (IsCutOf g began (history ++ more) start) (λ c k. ⊎_elim (λ was. inl was) (λ of. inr (wider c of)) k) a.each;
        behind = λ certain. widened g.clock g.left_since start now (IsBehind began history start) (IsBehind began (history ++ more) start) (λ c k finds. wider c (k finds)) (a.behind certain);
        late = record { moment = l.moment; not_before = l.not_before; not_after = l.not_after; each = λ c left. wider c (l.each c left) };
      }

  -- the cuts of a call for a line
  pub cuts_of_call : (o : Values) (began : Start) (history : List Line) (line : Line) (was next : State) (earlier : List Write) (held during : Held) (start old now : S) → Step o was line next
      → IsWrittenBy began earlier held history → during.before ≡ held.before → during.writes ≡ held.writes ++ line.wrote → g.told old ≡ g.told start ++ told_by history
      → CutsOfCall g held during old now → LeavesOnly g.clock g.left_since old now (CutOf began (history ++ line ∷ []) (g.told start))
  cuts_of_call o began history line was next earlier held during start old now step w before writes told cuts =
      widened g.clock g.left_since old now (LeavesMap (maps_of during) held.durable (length during.writes) (g.told old)) (CutOf began (history ++ line ∷ []) (g.told start))
      (λ c l. cut_in_call o began history line was next earlier held during (g.told start) c step w before writes (subst (λ (t : List ℕ). LeavesMap (maps_of during) held.durable (length during.writes) t c) told l)) cuts

  -- the cuts of a call for no line
  pub cuts_between : (began : Start) (history : List Line) (earlier : List Write) (held during : Held) (start old now : S)
      → IsWrittenBy began earlier held history → during.before ≡ held.before → during.writes ≡ held.writes → g.told old ≡ g.told start ++ told_by history
      → CutsOfCall g held during old now → LeavesOnly g.clock g.left_since old now (CutOf began history (g.told start))
  cuts_between began history earlier held during start old now w before writes told cuts =
      let as_held : Held = record { before = during.before; writes = during.writes; durable = held.durable } in
      let by : IsWrittenBy began earlier as_held history = record { before = before ∙ w.before; writes = w.writes ∙ ap (λ ws. earlier ++ ws) (sym writes); durable = w.durable } in
      widened g.clock g.left_since old now (LeavesMap (maps_of during) held.durable (length during.writes) (g.told old)) (CutOf began history (g.told start))
      (λ c l. cut_between began history earlier as_held (g.told start) c by (subst (λ (t : List ℕ). LeavesMap (maps_of during) held.durable (length during.writes) t c) told l)) cuts

-- ---- one line more

module _ {S : Type 0} (g : Ghosts S) where
  history_more : (o : Values) (first : State) (given : List Parsed) (order : Parsed) (history : List Line) (line : Line) (last next : State) → IsHistory o first given history last → line.order ≡ order → Step o last line next
      → IsHistory o first (given ++ order ∷ []) (history ++ line ∷ []) next
  history_more o first given order history line last next h is step = record {
    orders_are = orders_joined history (line ∷ []) ∙ ap (λ os. os ++ line.order ∷ []) h.orders_are ∙ ap (λ (x : Parsed). given ++ x ∷ []) is;
    runs = runs_then o history (line ∷ []) first last next h.runs (next, step, refl);
  }

  abbrev pub line_of : Parsed → State → List ℕ → Line
  line_of order s told = record { order = order; wrote = writes_of s order; told = told }

  step_of : (names : List Name) (o : Values) (order : Parsed) (s : State) (told : List ℕ) (held : Held) (store : Stored) (disk : Disk) → IsLineTo names o order s told held store disk
      → Step o s (line_of order s told) (state_of (now_of held) store)
  step_of names o order s told held store disk to = record { obeys = to.obeys; wrote_is = refl; in_order = to.in_order }

  -- the order is obeyed, and nothing of its reply was told yet
  answering : (began : Start) (given : List Parsed) (order : Parsed) (told : List ℕ) (names : List Name) (next : State) (store new : Stored) (start old now : S)
      → (s : Served g began given store start old) → Step began.options s.last (line_of order s.last told) next → IsStored names began (s.history ++ line_of order s.last told ∷ []) next new (g.disk now)
      → (IsSettled (g.disk start) → IsStored [] began (s.history ++ line_of order s.last told ∷ []) next new (g.disk now)) → g.told now ≡ g.told old → g.certain now
      → new.last ≡ last_after began (s.history ++ line_of order s.last told ∷ []) → Fits began (s.history ++ line_of order s.last told ∷ [])
      → (IsSettled (g.disk start) → LeavesOnly g.clock g.left_since old now (CutOf began (s.history ++ line_of order s.last told ∷ []) (g.told start)))
      → Answering g began given order new start now
  answering began given order told names next store new start old now s step stored settled same certain last_is fits cuts =
      let line = line_of order s.last told in
      record {
        before = s.history;
        line = line;
        last = next;
        is_history = history_more began.options (first_of began) given order s.history line s.last next s.is_history refl step;
        front = record { front = []; rest = told; whole = refl; told_is = same ∙ s.told_is ∙ sym (append-nil (g.told start ++ told_by s.history)) };
        carried = record { names = names; stored = stored; settled = settled; certain = certain; last_is = last_is; fits = fits };
        cuts = λ is. cuts_then g began (s.history ++ line ∷ []) start old now (cuts_more g began.options began s.history (line ∷ []) s.last next start old (next, step, refl) (s.cuts is)) (cuts is);
      }

-- two stores of the same state hold the same map
same_now : (names other : List Name) (began : Start) (history : List Line) (last : State) (store : Stored) (disk : Disk) → (a : IsStored names began history last store disk) → (b : IsStored other began history last store disk)
    → now_of a.held ≡ now_of b.held
same_now names other began history last store disk a b = ap (λ (x : State). x.now) (sym a.carries.state_is ∙ b.carries.state_is)

-- ---- what is written by one line more

before_within : (history : List Line) → before_sync history ≤ length (written_by history)
before_within history = omega (arith, synced_have_begun (length (told_by history)) history, synced_all history, begun_all history)

-- a line that syncs has all before it, and so may each other one
wrote_synced : (began : Start) (history : List Line) (line : Line) (earlier : List Write) (held : Held) → line.wrote ≡ [] → IsWrittenBy began earlier held history → IsWrittenBy began earlier (all_durable held) (history ++ line ∷ [])
wrote_synced began history line earlier held none w =
    let all : written_by (history ++ line ∷ []) ≡ earlier ++ held.writes = written_more history line ∙ ap (λ ws. written_by history ++ ws) none ∙ append-nil (written_by history) ∙ w.writes in
    record {
      before = w.before;
      writes = all;
      durable = omega (arith, before_within (history ++ line ∷ []), counted (history ++ line ∷ []) earlier held all);
    }

-- so it is without a line
pub wrote_durable : (began : Start) (history : List Line) (earlier : List Write) (held : Held) → IsWrittenBy began earlier held history → IsWrittenBy began earlier (all_durable held) history
wrote_durable began history earlier held w = record {
  before = w.before;
  writes = w.writes;
  durable = omega (arith, before_within history, counted history earlier held w.writes);
}

-- a line that does not sync
before_same : (history : List Line) (line : Line) → syncs line.order ≡ false → before_sync (history ++ line ∷ []) ≡ before_sync history
before_same history line quiet = before_sync_more history line ∙ ap (λ b. cond b (length (written_by history)) (before_sync history)) quiet

wrote_one : (began : Start) (history : List Line) (line : Line) (earlier : List Write) (held : Held) (w : Write) → line.wrote ≡ w ∷ [] → syncs line.order ≡ false → IsWrittenBy began earlier held history
    → IsWrittenBy began earlier (with_write w held) (history ++ line ∷ [])
wrote_one began history line earlier held w one quiet by = let durable = by.durable in record {
  before = by.before;
  writes = written_more history line ∙ ap (λ ws. written_by history ++ ws) one ∙ ap (λ ws. ws ++ w ∷ []) by.writes ∙ append_assoc earlier held.writes (w ∷ []);
  durable = omega (arith, durable, before_same history line quiet);
}

wrote_quiet : (began : Start) (history : List Line) (line : Line) (earlier : List Write) (held : Held) → line.wrote ≡ [] → syncs line.order ≡ false → IsWrittenBy began earlier held history
    → IsWrittenBy began earlier held (history ++ line ∷ [])
wrote_quiet began history line earlier held none quiet by = let durable = by.durable in record {
  before = by.before;
  writes = written_more history line ∙ ap (λ ws. written_by history ++ ws) none ∙ append-nil (written_by history) ∙ by.writes;
  durable = omega (arith, durable, before_same history line quiet);
}

-- behind a reopening all writes are those before it
wrote_anew : (began : Start) (history : List Line) (line : Line) (earlier : List Write) (held : Held) → line.wrote ≡ [] → IsWrittenBy began earlier held history
    → IsWrittenBy began (earlier ++ held.writes) (begun_with (now_of held)) (history ++ line ∷ [])
wrote_anew began history line earlier held none by =
    let all : written_by (history ++ line ∷ []) ≡ earlier ++ held.writes = written_more history line ∙ ap (λ ws. written_by history ++ ws) none ∙ append-nil (written_by history) ∙ by.writes in
    record {
      before = now_is began history earlier held by.before by.writes ∙ ap (λ ws. after_writes ws began.now) by.writes;
      writes = all ∙ sym (append-nil (earlier ++ held.writes));
      durable = omega (arith, before_within (history ++ line ∷ []), ap length all);
    }

-- an order that writes does not sync
no_sync_of_write : (order : Parsed) (s : State) (w : Write) → writes_of s order ≡ w ∷ [] → syncs order ≡ false
no_sync_of_write Nothing s w is = refl
no_sync_of_write (Refused why) s w is = refl
no_sync_of_write (Go (command.Put key value)) s w is = refl
no_sync_of_write (Go (command.Del key)) s w is = refl
no_sync_of_write (Go (command.Batch operations)) s w is = refl
no_sync_of_write (Go (command.Get key)) s w is = refl
no_sync_of_write (Go (command.Scan from to)) s w is = refl
no_sync_of_write (Go command.Sync) s w is = cc is
no_sync_of_write (Go command.Flush) s w is = cc is
no_sync_of_write (Go command.Files) s w is = refl
no_sync_of_write (Go command.Reopen) s w is = cc is

-- ---- sequences

last_more : (began : Start) (history : List Line) (line : Line) → last_after began (history ++ line ∷ []) ≡ last_after began history + operations_in line.wrote
last_more began history line = omega (arith, ap operations_in (written_more history line), operations_joined (written_by history) line.wrote)

pub none_in : operations_in [] ≡ 0
unfolding operations_in
none_in = refl

one_in : (w : Write) → operations_in (w ∷ []) ≡ length w
unfolding operations_in
one_in w = omega arith

last_quiet : (began : Start) (history : List Line) (line : Line) → line.wrote ≡ [] → last_after began (history ++ line ∷ []) ≡ last_after began history
last_quiet began history line none = omega (arith, last_more began history line, ap operations_in none, none_in)

fits_quiet : (began : Start) (history : List Line) (line : Line) → line.wrote ≡ [] → Fits began history → Fits began (history ++ line ∷ [])
fits_quiet began history line none fits = omega (arith, last_quiet began history line none, fits)

last_one : (began : Start) (history : List Line) (line : Line) (w : Write) (last : ℕ) → line.wrote ≡ w ∷ [] → last ≡ last_after began history → last + length w ≡ last_after began (history ++ line ∷ [])
last_one began history line w last one is = omega (arith, last_more began history line, ap operations_in one, one_in w, is)

fits_one : (began : Start) (history : List Line) (line : Line) (w : Write) (last : ℕ) → line.wrote ≡ w ∷ [] → last ≡ last_after began history → last + length w < 2 ^ 56 → Fits began (history ++ line ∷ [])
fits_one began history line w last one is fits = omega (arith, last_one began history line w last one is, fits)

-- the first of some lines have no more
fewer_in : (n : ℕ) (history : List Line) → operations_in (written_by (whole_within n history)) ≤ operations_in (written_by history)
unfolding whole_within
fewer_in n [] = omega (arith, none_in)
fewer_in n (line ∷ history) = by_length (leb (length line.told) n) (fewer_in (n - length line.told) history)
  where
    both : (rest : List Line) → operations_in (written_by (line ∷ rest)) ≡ operations_in line.wrote + operations_in (written_by rest)
    both rest = operations_joined line.wrote (written_by rest)

    by_length : (t : Bool) → operations_in (written_by (whole_within (n - length line.told) history)) ≤ operations_in (written_by history)
        → operations_in (written_by (cond t (line ∷ whole_within (n - length line.told) history) [])) ≤ operations_in (written_by (line ∷ history))
    by_length true less = omega (arith, both (whole_within (n - length line.told) history), both history, less)
    by_length false less = omega (arith, none_in)

fits_within : (began : Start) (history : List Line) (n : ℕ) → Fits began history → Fits began (whole_within n history)
fits_within began history n fits = omega (arith, fewer_in n history, fits)

-- nothing of the last line's reply was told: where it has none, it wrote nothing
fits_before : (o : Values) (began : Start) (history : List Line) (line : Line) (old new : State) → Step o old line new → Fits began history → Fits began (whole_within (length (told_by history)) (history ++ line ∷ []))
fits_before o began history line old new step fits =
    let zero_more : length (told_by history) ≡ length (told_by history) + 0 = omega arith in
    let is : whole_within (length (told_by history)) (history ++ line ∷ []) ≡ history ++ whole_within 0 (line ∷ []) =
    ap (λ n. whole_within n (history ++ line ∷ [])) zero_more ∙ whole_front history (line ∷ []) 0 in
    subst (Fits began) (sym is) (elim (cases_lt 0 (length line.told)) [
      | inl some ↦ subst (λ (ls : List Line). Fits began (history ++ ls)) (sym (no_whole_line line 0 some)) (subst (Fits began) (sym (append-nil history)) fits)
      | inr none ↦ subst (λ (ls : List Line). Fits began (history ++ ls)) (sym (whole_line line 0 none))
          (fits_quiet began history line (step.wrote_is ∙ none_written o old new line.order line.told step.obeys (nil_from_length line.told (omega (arith, none)))) fits)
    ])
  where
    none_written : (o : Values) (old new : State) (order : Parsed) (told : List ℕ) → Obeys o order old told new → told ≡ [] → writes_of old order ≡ []
    none_written o old new Nothing told obeys none = refl
    none_written o old new (Refused why) told obeys none = refl
    none_written o old new (Go (command.Put key value)) told obeys none = absurd (cc (obeys.told_is, none))
    none_written o old new (Go (command.Del key)) told obeys none = absurd (cc (obeys.told_is, none))
    none_written o old new (Go (command.Batch operations)) told obeys none = absurd (cc (obeys.told_is, none))
    none_written o old new (Go (command.Get key)) told obeys none = refl
    none_written o old new (Go (command.Scan from to)) told obeys none = refl
    none_written o old new (Go command.Sync) told obeys none = refl
    none_written o old new (Go command.Flush) told obeys none = refl
    none_written o old new (Go command.Files) told obeys none = refl
    none_written o old new (Go command.Reopen) told obeys none = refl

-- ---- orders are obeyed

module _ {S : Type 0} (g : Ghosts S) where
  pub writes_serve : WritesAreLines → WritesServe g
  writes_serve law began given order w store new start old now s is written fits called =
      let k = s.carried in
      let a = k.stored in
      let writes = is s.last in
      let quiet = no_sync_of_write order s.last w writes in
      let line = line_of g order s.last ok_line in
      let next = state_of (now_of (with_write w a.held)) new in
      let to = law k.names began.options s.last a.held order w store new (g.disk old) (g.disk now) a.carries writes written (called.stands k.names a.held a.carries.stands) in
      let step = step_of g k.names began.options order s.last ok_line (with_write w a.held) new (g.disk now) to in
      answering g began given order ok_line k.names next store new start old now s step
      (record { earlier = a.earlier; held = with_write w a.held; wrote = wrote_one began s.history line a.earlier a.held w writes quiet a.wrote; carries = to.carries })
      (λ settled.
      let b = k.settled settled in
      let same : now_of (with_write w a.held) ≡ now_of (with_write w b.held) =
      after_more a.held.writes w a.held.before ∙ ap (after_operations w) (same_now k.names [] began s.history s.last store (g.disk old) a b) ∙ sym (after_more b.held.writes w b.held.before) in
      record {
        earlier = b.earlier;
        held = with_write w b.held;
        wrote = wrote_one began s.history line b.earlier b.held w writes quiet b.wrote;
        carries = record { stands = called.stands [] b.held b.carries.stands; options_are = to.carries.options_are; state_is = ap (λ m. state_of m new) same };
      })
      called.told called.certain
      (written.last ∙ last_one began s.history line w store.last writes k.last_is) (fits_one began s.history line w store.last writes k.last_is fits)
      (λ settled. let b = k.settled settled in
      cuts_of_call g began.options began s.history line s.last next b.earlier b.held (with_write w b.held) start old now step b.wrote refl (ap (λ ws. b.held.writes ++ ws) (sym writes)) s.told_is
      (called.cuts b.held b.carries.stands))

  -- a call for an order that writes nothing, behind which all writes are durable
  durable_serve : (began : Start) (given : List Parsed) (order : Parsed) (store new : Stored) (start old now : S) → (s : Served g began given store start old) → ((x : State) → writes_of x order ≡ [])
      → IsLineTo s.carried.names began.options order s.last ok_line (all_durable s.carried.stored.held) new (g.disk now) → HasCalled g all_durable store new old now → new.last ≡ store.last → Answering g began given order new start now
  durable_serve began given order store new start old now s none to called last_same =
      let k = s.carried in
      let a = k.stored in
      let writes = none s.last in
      let line = line_of g order s.last ok_line in
      let next = state_of (now_of a.held) new in
      let step = step_of g k.names began.options order s.last ok_line (all_durable a.held) new (g.disk now) to in
      answering g began given order ok_line k.names next store new start old now s step
      (record { earlier = a.earlier; held = all_durable a.held; wrote = wrote_synced began s.history line a.earlier a.held writes a.wrote; carries = to.carries })
      (λ settled. let b = k.settled settled in record {
        earlier = b.earlier;
        held = all_durable b.held;
        wrote = wrote_synced began s.history line b.earlier b.held writes b.wrote;
        carries = record {
          stands = called.stands [] b.held b.carries.stands;
          options_are = to.carries.options_are;
          state_is = ap (λ m. state_of m new) (same_now k.names [] began s.history s.last store (g.disk old) a b);
        };
      })
      called.told called.certain
      (last_same ∙ k.last_is ∙ sym (last_quiet began s.history line writes)) (fits_quiet began s.history line writes k.fits)
      (λ settled. let b = k.settled settled in
      cuts_of_call g began.options began s.history line s.last next b.earlier b.held (all_durable b.held) start old now step b.wrote refl (sym (append-nil b.held.writes) ∙ ap (λ ws. b.held.writes ++ ws) (sym writes)) s.told_is
      (called.cuts b.held b.carries.stands))

  pub flushes_serve : FlushesAreLines → FlushesServe g
  flushes_serve law began given store new start old now s emptied called =
      let k = s.carried in
      let a = k.stored in
      durable_serve began given (Go command.Flush) store new start old now s (λ x. refl)
      (law k.names began.options s.last a.held store new (g.disk old) (g.disk now) a.carries emptied (called.stands k.names a.held a.carries.stands)) called emptied.last

  pub syncs_serve : SyncsAreLines → SyncsServe g
  syncs_serve law began given store new start old now s same called =
      let k = s.carried in
      let a = k.stored in
      durable_serve began given (Go command.Sync) store new start old now s (λ x. refl)
      (law k.names began.options s.last a.held store new (g.disk old) (g.disk now) a.carries same (called.stands k.names a.held a.carries.stands)) called (ap (λ (x : Stored). x.last) same)

  pub reopenings_serve : ReopeningsAreLines → ReopeningsServe g
  reopenings_serve law began given store new start old now s begun options last_same seen called =
      let k = s.carried in
      let a = k.stored in
      let order = Go command.Reopen in
      let line = line_of g order s.last ok_line in
      let anew = called.begins (now_of a.held) (inr (seen k.names a.held a.carries.stands).stands) in
      let next = state_of (now_of a.held) new in
      let to = law k.names anew.0 began.options s.last a.held (begun_with (now_of a.held)) store new (g.disk old) (g.disk now) a.carries begun options refl anew.1 in
      let step = step_of g anew.0 began.options order s.last ok_line (begun_with (now_of a.held)) new (g.disk now) to in
      answering g began given order ok_line anew.0 next store new start old now s step
      (record { earlier = a.earlier ++ a.held.writes; held = begun_with (now_of a.held); wrote = wrote_anew began s.history line a.earlier a.held refl a.wrote; carries = to.carries })
      (λ settled. let b = k.settled settled in record {
        earlier = b.earlier;
        held = all_durable b.held;
        wrote = wrote_synced began s.history line b.earlier b.held refl b.wrote;
        carries = record {
          stands = called.stands b.held b.carries.stands;
          options_are = to.carries.options_are;
          state_is = ap (λ m. state_of m new) (same_now k.names [] began s.history s.last store (g.disk old) a b);
        };
      })
      called.told called.certain
      (last_same ∙ k.last_is ∙ sym (last_quiet began s.history line refl)) (fits_quiet began s.history line refl k.fits)
      (λ settled. let b = k.settled settled in
      cuts_of_call g began.options began s.history line s.last next b.earlier b.held (all_durable b.held) start old now step b.wrote refl (sym (append-nil b.held.writes)) s.told_is
      (called.cuts b.held b.carries.stands))

  -- a line that changes nothing
  quiet_stored : (names : List Name) (began : Start) (history : List Line) (line : Line) (last next : State) (store : Stored) (disk : Disk) → line.wrote ≡ [] → syncs line.order ≡ false → next ≡ last
      → IsStored names began history last store disk → IsStored names began (history ++ line ∷ []) next store disk
  quiet_stored names began history line last next store disk none quiet same a = record {
    earlier = a.earlier;
    held = a.held;
    wrote = wrote_quiet began history line a.earlier a.held none quiet a.wrote;
    carries = record { stands = a.carries.stands; options_are = a.carries.options_are; state_is = same ∙ a.carries.state_is };
  }

  pub quiet_lines_serve : QuietLinesStay → QuietLinesServe g
  quiet_lines_serve law began given order told store start now s is =
      let k = s.carried in
      let a = k.stored in
      let line = line_of g order s.last told in
      let next = state_of (now_of a.held) store in
      let same = sym a.carries.state_is in
      let to = law k.names began.options s.last a.held order told store (g.disk now) a.carries is.obeys in
      let step = step_of g k.names began.options order s.last told a.held store (g.disk now) to in
      let answer : Answering g began given order store start now = record {
        before = s.history;
        line = line;
        last = next;
        is_history = history_more g began.options (first_of began) given order s.history line s.last next s.is_history refl step;
        front = record { front = []; rest = told; whole = refl; told_is = s.told_is ∙ sym (append-nil (g.told start ++ told_by s.history)) };
        carried = record {
          names = k.names;
          stored = quiet_stored k.names began s.history line s.last next store (g.disk now) is.writes is.no_sync same a;
          settled = λ settled. quiet_stored [] began s.history line s.last next store (g.disk now) is.writes is.no_sync same (k.settled settled);
          certain = k.certain;
          last_is = k.last_is ∙ sym (last_quiet began s.history line is.writes);
          fits = fits_quiet began s.history line is.writes k.fits;
        };
        cuts = λ settled. cuts_more g began.options began s.history (line ∷ []) s.last next start now (next, step, refl) (s.cuts settled);
      } in
      (answer, (refl, same))

  -- ---- replies

  -- a cut of a store that stands on the disk
  pub steady_cut : CutsOfSteady → (held : Held) (store : Stored) (disk : Disk) (told : List ℕ) (c : Cut) → StandsFor [] held store disk → IsCut disk told c → LeavesMap (maps_of held) held.durable (length held.writes) told c
  steady_cut law held store disk told c t cut =
      let writes = t.writes in
      let durable = t.durable in
      let l = law (maps_of held) t.steady disk told c t.is_steady cut in
      record { told_is = l.told_is; stands = λ chance. let s = l.stands chance in (s.0, omega (arith, durable, s.1), omega (arith, writes, s.2), s.3) }

  -- on a disk that is the same
  stored_same : (names : List Name) (began : Start) (history : List Line) (last : State) (store : Stored) (disk after : Disk) → after ≡ disk → IsStored names began history last store disk → IsStored names began history last store after
  stored_same names began history last store disk after same a = subst (IsStored names began history last store) (sym same) a

  carried_same : (began : Start) (history : List Line) (last : State) (store : Stored) (start old now : S) → g.disk now ≡ g.disk old → g.certain now → IsCarried g began history last store start old → IsCarried g began history last store start now
  carried_same began history last store start old now same certain k = record {
    names = k.names;
    stored = stored_same k.names began history last store (g.disk old) (g.disk now) same k.stored;
    settled = λ settled. stored_same [] began history last store (g.disk old) (g.disk now) same (k.settled settled);
    certain = certain;
    last_is = k.last_is;
    fits = k.fits;
  }

  pub telling_serves : CutsOfSteady → ((site : S) → g.shows → g.certain site → (other : Disk) → g.may_be site other → other ≡ g.disk site) → TellingServes g
  telling_serves law only shown began given order bytes more store start old now a rest t =
      let f = a.front in
      let whole : (f.front ++ t.front.front) ++ (t.front.rest ++ more) ≡ a.line.told =
      append_assoc f.front t.front.front (t.front.rest ++ more) ∙ ap (λ x. f.front ++ x) (sym (append_assoc t.front.front t.front.rest more)) ∙ ap (λ x. f.front ++ (x ++ more)) t.front.whole ∙ ap (λ x. f.front ++ x) (sym rest) ∙ f.whole in
      let b : Answering g began given order store start now = record {
        before = a.before;
        line = a.line;
        last = a.last;
        is_history = a.is_history;
        front = record {
          front = f.front ++ t.front.front;
          rest = t.front.rest ++ more;
          whole = whole;
          told_is = t.front.told_is ∙ ap (λ x. x ++ t.front.front) f.told_is ∙ append_assoc (g.told start ++ told_by a.before) f.front t.front.front;
        };
        carried = carried_same began (a.before ++ a.line ∷ []) a.last store start old now t.stays.same (t.stays.certain_stays a.carried.certain) a.carried;
        cuts = λ settled. cuts_elapse g began (a.before ++ a.line ∷ []) start old now (Tells (g.may_be old) (g.told old) bytes) (a.cuts settled) t.time (cut_here settled);
      } in
      (b, refl)
    where
      cut_here : IsSettled (g.disk start) → (c : Cut) → Tells (g.may_be old) (g.told old) bytes c → CutOf began (a.before ++ a.line ∷ []) (g.told start) c
      cut_here settled c k =
          let v = a.carried.settled settled in
          let f = a.front in
          let is_cut = cut_of_only (g.may_be old) (g.disk old) (g.told old ++ take k.count bytes) c (only old shown a.carried.certain) k.leaves in
          let left = steady_cut law v.held store (g.disk old) (g.told old ++ take k.count bytes) c v.carries.stands is_cut in
          let told : g.told old ++ take k.count bytes ≡ (g.told start ++ told_by a.before) ++ (f.front ++ take k.count bytes) =
          ap (λ x. x ++ take k.count bytes) f.told_is ∙ append_assoc (g.told start ++ told_by a.before) f.front (take k.count bytes) in
          let whole : (f.front ++ take k.count bytes) ++ (drop k.count bytes ++ more) ≡ a.line.told =
          append_assoc f.front (take k.count bytes) (drop k.count bytes ++ more) ∙ ap (λ x. f.front ++ x) (sym (append_assoc (take k.count bytes) (drop k.count bytes) more))
          ∙ ap (λ x. f.front ++ (x ++ more)) (take-append-drop k.count bytes) ∙ ap (λ x. f.front ++ x) (sym rest) ∙ f.whole in
          cut_in_reply began a.before a.line v.earlier v.held (f.front ++ take k.count bytes) (drop k.count bytes ++ more) (g.told start) c v.wrote whole
          (subst (λ (x : List ℕ). LeavesMap (maps_of v.held) v.held.durable (length v.held.writes) x c) told left)

  pub answered_are_served : AnsweredAreServed g
  answered_are_served began given order store start now a none =
      let f = a.front in
      let all : f.front ≡ a.line.told = sym (append-nil f.front) ∙ ap (λ x. f.front ++ x) (sym none) ∙ f.whole in
      record {
        history = a.before ++ a.line ∷ [];
        last = a.last;
        is_history = a.is_history;
        told_is = f.told_is ∙ ap (λ x. (g.told start ++ told_by a.before) ++ x) all ∙ append_assoc (g.told start) (told_by a.before) a.line.told ∙ ap (λ x. g.told start ++ x) (sym (told_more a.before a.line));
        carried = a.carried;
        cuts = a.cuts;
      }

  -- ---- the folder is only read

  pub reads_serve : CutsOfSteady → ((site : S) → g.shows → g.certain site → (other : Disk) → g.may_be site other → other ≡ g.disk site) → ReadsServe g
  reads_serve law only shown began given store start old now s reads =
      let stays = reads.stays shown in
      let t : Served g began given store start now = record {
        history = s.history;
        last = s.last;
        is_history = s.is_history;
        told_is = reads.told shown ∙ s.told_is;
        carried = carried_same began s.history s.last store start old now stays.same (stays.certain_stays s.carried.certain) s.carried;
        cuts = λ settled. cuts_elapse g began s.history start old now (MayLeave (g.may_be old) (g.told old)) (s.cuts settled) (reads.time shown) (cut_here settled);
      } in
      (t, refl)
    where
      cut_here : IsSettled (g.disk start) → (c : Cut) → MayLeave (g.may_be old) (g.told old) c → CutOf began s.history (g.told start) c
      cut_here settled c leaves =
          let v = s.carried.settled settled in
          let is_cut = cut_of_only (g.may_be old) (g.disk old) (g.told old) c (only old shown s.carried.certain) leaves in
          let left = steady_cut law v.held store (g.disk old) (g.told old) c v.carries.stands is_cut in
          cut_between began s.history v.earlier v.held (g.told start) c v.wrote (subst (λ (x : List ℕ). LeavesMap (maps_of v.held) v.held.durable (length v.held.writes) x c) s.told_is left)

  pub reads_answer : CutsOfSteady → ((site : S) → g.shows → g.certain site → (other : Disk) → g.may_be site other → other ≡ g.disk site) → ReadsAnswer g
  reads_answer law only shown began given order store start old now a reads =
      let f = a.front in
      let stays = reads.stays shown in
      let b : Answering g began given order store start now = record {
        before = a.before;
        line = a.line;
        last = a.last;
        is_history = a.is_history;
        front = record { front = f.front; rest = f.rest; whole = f.whole; told_is = reads.told shown ∙ f.told_is };
        carried = carried_same began (a.before ++ a.line ∷ []) a.last store start old now stays.same (stays.certain_stays a.carried.certain) a.carried;
        cuts = λ settled. cuts_elapse g began (a.before ++ a.line ∷ []) start old now (MayLeave (g.may_be old) (g.told old)) (a.cuts settled) (reads.time shown) (cut_here settled);
      } in
      (b, refl)
    where
      cut_here : IsSettled (g.disk start) → (c : Cut) → MayLeave (g.may_be old) (g.told old) c → CutOf began (a.before ++ a.line ∷ []) (g.told start) c
      cut_here settled c leaves =
          let v = a.carried.settled settled in
          let f = a.front in
          let is_cut = cut_of_only (g.may_be old) (g.disk old) (g.told old) c (only old shown a.carried.certain) leaves in
          let left = steady_cut law v.held store (g.disk old) (g.told old) c v.carries.stands is_cut in
          cut_in_reply began a.before a.line v.earlier v.held f.front f.rest (g.told start) c v.wrote f.whole
          (subst (λ (x : List ℕ). LeavesMap (maps_of v.held) v.held.durable (length v.held.writes) x c) f.told_is left)

  pub replied_are_served : TellingServes g → RepliedAreServed g
  replied_are_served tells shown began given order bytes store start old now a rest t none =
      let more = tells shown began given order bytes [] store start old now a (rest ∙ sym (append-nil bytes)) t in
      answered_are_served began given order store start now more.0 (more.1 ∙ append-nil t.front.rest ∙ none)

  -- ---- failures

  pub nothing_failed : NothingFailed g
  nothing_failed began given store start now s = record {
    history = s.history;
    last = s.last;
    is_history = s.is_history;
    front = record { front = told_by s.history; rest = []; whole = append-nil (told_by s.history); told_is = s.told_is };
    cuts = s.cuts;
    fits = fits_within began s.history (length (told_by s.history)) s.carried.fits;
  }

  pub failed_telling_serves : FailedTellingServes g
  failed_telling_serves began given order store start now a =
      let f = a.front in
      record {
        history = a.before ++ a.line ∷ [];
        last = a.last;
        is_history = a.is_history;
        front = record {
          front = told_by a.before ++ f.front;
          rest = f.rest;
          whole = append_assoc (told_by a.before) f.front f.rest ∙ ap (λ x. told_by a.before ++ x) f.whole ∙ sym (told_more a.before a.line);
          told_is = f.told_is ∙ append_assoc (g.told start) (told_by a.before) f.front;
        };
        cuts = a.cuts;
        fits = fits_within began (a.before ++ a.line ∷ []) (length (told_by a.before ++ f.front)) a.carried.fits;
      }

  -- the line that a failed call was made for, and what it would have told
  failing : StoresAreInOrder → (began : Start) (given : List Parsed) (order : Parsed) (done : Held → Held) (store : Stored) (start old now : S) → (s : Served g began given store start old)
      → ((held : Held) → (done held).before ≡ held.before) → ((held : Held) → (done held).writes ≡ held.writes ++ writes_of s.last order) → HasFailed g done store old now → Failing g began (given ++ order ∷ []) start now
  failing law began given order done store start old now s before writes failed =
      let k = s.carried in
      let a = k.stored in
      let files : IsInOrder s.last.listing = subst (λ (x : State). IsInOrder x.listing) (sym a.carries.state_is) (law k.names a.held store (g.disk old) a.carries.stands) in
      let on = lines_go_on began.options s.last order files in
      let wrote : on.line.wrote ≡ writes_of s.last order = on.step.wrote_is ∙ ap (writes_of s.last) on.ordered in
      record {
        history = s.history ++ on.line ∷ [];
        last = on.next;
        is_history = history_more g began.options (first_of began) given order s.history on.line s.last on.next s.is_history on.ordered on.step;
        front = record { front = told_by s.history; rest = on.line.told; whole = sym (told_more s.history on.line); told_is = failed.told ∙ s.told_is };
        fits = fits_before began.options began s.history on.line s.last on.next on.step k.fits;
        cuts = λ settled. let b = k.settled settled in
            cuts_then g began (s.history ++ on.line ∷ []) start old now
            (cuts_more g began.options began s.history (on.line ∷ []) s.last on.next start old (on.next, on.step, refl) (s.cuts settled))
            (cuts_of_call g began.options began s.history on.line s.last on.next b.earlier b.held (done b.held) start old now on.step b.wrote (before b.held)
            (writes b.held ∙ ap (λ ws. b.held.writes ++ ws) (sym wrote)) s.told_is
            (failed.cuts b.held b.carries.stands));
      }

  pub failed_writes_serve : StoresAreInOrder → FailedWritesServe g
  failed_writes_serve law began given order w store start old now s is failed =
      failing law began given order (with_write w) store start old now s (λ held. refl) (λ held. ap (λ ws. held.writes ++ ws) (sym (is s.last))) failed

  pub failed_calls_serve : StoresAreInOrder → FailedCallsServe g
  failed_calls_serve law began given order store start old now s none failed =
      failing law began given order all_durable store start old now s (λ held. refl) (λ held. sym (append-nil held.writes) ∙ ap (λ ws. held.writes ++ ws) (sym (none s.last))) failed

  -- ---- limits

  pub limits_serve : LimitsServe g
  limits_serve began given store new start old now s called seen =
      let k = s.carried in
      let a = k.stored in
      let there = seen k.names a.held (called.stands k.names a.held a.carries.stands) in
      let last : now_of a.held ≡ s.last.now = sym (ap (λ (x : State). x.now) a.carries.state_is) in
      record {
        history = s.history;
        last = s.last;
        is_history = s.is_history;
        told_is = called.told ∙ s.told_is;
        stands = inr (subst (StandsLive (folder_of (g.disk now))) last there.stands);
        fits = k.fits;
        cuts = λ settled. let b = k.settled settled in
            cuts_then g began s.history start old now (s.cuts settled)
            (cuts_between g began s.history b.earlier b.held (all_durable b.held) start old now b.wrote refl refl s.told_is (called.cuts b.held b.carries.stands));
      }

  pub reopening_limits_serve : ReopeningLimitsServe g
  reopening_limits_serve began given store start old now s seen failed stays =
      let k = s.carried in
      let a = k.stored in
      let there = seen k.names a.held a.carries.stands in
      let last : now_of a.held ≡ s.last.now = sym (ap (λ (x : State). x.now) a.carries.state_is) in
      record {
        history = s.history;
        last = s.last;
        is_history = s.is_history;
        told_is = failed.told ∙ s.told_is;
        stands = stays s.last.now (inr (subst (StandsLive (folder_of (g.disk old))) last there.stands));
        fits = k.fits;
        cuts = λ settled. let b = k.settled settled in
            cuts_then g began s.history start old now (s.cuts settled)
            (cuts_between g began s.history b.earlier b.held (all_durable b.held) start old now b.wrote refl refl s.told_is (failed.cuts b.held b.carries.stands));
      }
