-- How a run ends.
use Rattle.std.proofs.Common.{◌≡◌, inl, inr, ⊎_elim, ℕ, ◌≤◌, List, [], ◌∷◌, ◌++◌, take, drop, refl, sym, ◌∙◌, ap, subst, arith, append-nil}
use Rattle.std.proofs.lemmas.List.{take-append-drop}
use Rattle.bl_site.specs.Disk.{Name, Cut, Disk, Folder, MayLeave, folder_of}
use Rattle.bl_site.specs.Calls.{LeavesOnly, Tells}
use Rattle.bl_site.specs.declared.site.Site.{Ghosts as SiteGhosts}
use Rattle.bl_site.specs.declared.source.Source.{Ghosts as SourceGhosts}
use Rattle.bl_site.proofs.Moments.{cut_of_only, goes_on, widened}
use Rattle.bl_build.specs.Restoring.{Restored}
use Rattle.bl_folder.specs.Laws.{CutsOfSynced, LiveIsOne}
use Rattle.bl_folder.specs.Settled.{NeededAreSynced}
use Rattle.bl_folder.specs.Stands.{Stands, StandsLive}
use Rattle.bl_open.specs.Options.{Words}
use Rattle.bl_open.specs.SteadyLaws.{CutsOfSteady, LogsAreWhole, SteadyHoldWritten}
use Rattle.bl_script.specs.declared.command.Parsed.{Parsed}
use Rattle.bl_machine.specs.State.{State}
use Rattle.bl_machine.specs.Step.{Line}
use Rattle.bl_machine.specs.History.{IsHistory, orders, told_by}
use Rattle.bl_store.specs.Stored.{Stored}
use Rattle.bl_store.specs.Held.{all_durable, maps_of, now_of}
use Rattle.bl_promise.specs.Start.{FrontOf, IsStartOf, Start, first_of}
use Rattle.bl_promise.specs.Cuts.{CutBefore, CutBehind, CutFound, CutOf, CutOfRun, CutStands, CutWith, FindsNewFile, FromSomeMoment, IsErrorFront, IsErrorLine, full_line, told_only}
use Rattle.bl_promise.specs.Run.{run_of}
use Rattle.bl_promise.specs.Telling.{HasObeyed, LeavesState}
use Rattle.bl_promise.specs.Serving.{AreCut, HasCalled, IsCarried, IsCutOf, IsSeen, Served}
use Rattle.bl_folder.specs.FlushLaws.{LogsAlike}
use Rattle.bl_promise.specs.Lines.{BytesAreInLogs}
use Rattle.bl_promise.proofs.LogLemmas.{leaves_batches}
use Rattle.bl_promise.specs.EndingLaws.{AnsweringHaveFaltered, CutsAreOfRun, ErrorLinesKeepCuts, ErrorLinesKeepRuns, FailingHaveBegun, FinishedHaveRun, ServedAreObeyed, IsTelling, StoppedEndFull, StoresLeaveLogsWhole}
use Rattle.bl_promise.proofs.ServeLemmas.{IsBehind, cuts_between, cuts_then, wrote_durable}
use Rattle.bl_promise.specs.Carried.{IsStored}

-- ---- cuts, where nothing of an error line was told

no_error : IsErrorFront []
no_error = record { line = full_line 0; is_error = inr (inl (0, refl)); rest = full_line 0; whole = refl }

pub before_of : (folder : Folder) (may_be : Disk → Type 0) (told : List ℕ) (c : Cut) → CutFound folder may_be told c → CutBefore folder may_be told c
before_of folder may_be told c k = record {
  error = [];
  is_error = no_error;
  told_is = k.told_is ∙ sym (append-nil told);
  cut = record { told_is = refl; found = k.found; was = k.was; perhaps = k.perhaps };
}

pub behind_of : (began : Start) (history : List Line) (told : List ℕ) (c : Cut) → CutOf began history told c → CutBehind began history told c
behind_of began history told c k = record {
  replied = c.told;
  error = [];
  is_error = no_error;
  told_is = sym (append-nil c.told);
  cut = record { replies = k.replies; more = k.more; replies_are = k.replies_are; told_is = k.told_is; stands = k.stands };
}

module _ {S : Type 0} (g : SiteGhosts S) where
  with_of : (began : Start) (history : List Line) (start : S) (c : Cut) → IsCutOf g began history start c → CutWith (folder_of (g.disk start)) (g.may_be start) began history (g.told start) c
  with_of began history start c k =
      ⊎_elim (λ found. inl (before_of (folder_of (g.disk start)) (g.may_be start) (g.told start) c found)) (λ behind. inr (behind_of began history (g.told start) c behind)) k

  pub each_with : (began : Start) (history : List Line) (start now : S) → AreCut g began history start now
      → LeavesOnly g.clock g.left_since start now (CutWith (folder_of (g.disk start)) (g.may_be start) began history (g.told start))
  each_with began history start now a =
      widened g.clock g.left_since start now (IsCutOf g began history start) (CutWith (folder_of (g.disk start)) (g.may_be start) began history (g.told start)) (with_of began history start) a.each

  -- ---- the folder that a store stands on

  abbrev pub leaves_of : (began : Start) (history : List Line) (last : State) (store : Stored) (start now : S) → IsCarried g began history last store start now → IsSeen g store now → LeavesState (folder_of (g.disk now)) last
  leaves_of began history last store start now k seen =
      let a = k.stored in
      let there = seen k.names a.held a.carries.stands in
      record {
        manifest = store.manifest.number;
        live = record { version = store.version; standing = store.standing };
        is_live = there.live;
        stands = inr (subst (StandsLive (folder_of (g.disk now))) (sym (ap (λ (x : State). x.now) a.carries.state_is)) there.stands);
        files = sym (ap (λ (x : State). x.listing) a.carries.state_is);
      }

module _ {S R : Type 0} (s : SiteGhosts S) (r : SourceGhosts R) where
  abbrev pub obeyed_of : (words : Words) (script after : R) (began : Start) (given : List Parsed) (store : Stored) (start now : S) → IsStartOf (folder_of (s.disk start)) words began
      → Served s began given store start now → IsSeen s store now → HasObeyed (run_of s r words script after start now) given
  obeyed_of words script after began given store start now begins served seen = record {
    of = record { began = began; begins = begins; history = served.history; last = served.last; is_history = served.is_history };
    told_is = served.told_is;
    leaves = leaves_of s began served.history served.last store start now served.carried seen;
    cuts = λ settled. each_with s began served.history start now (served.cuts settled);
    fits = served.carried.fits;
  }

  pub served_are_obeyed : ServedAreObeyed s r
  served_are_obeyed words script after began given store start now begins served seen = obeyed_of words script after began given store start now begins served seen

  abbrev pub front_of : (words : Words) (began : Start) (all given rest : List Parsed) (history : List Line) (last : State) (start : S) → IsStartOf (folder_of (s.disk start)) words began
      → IsHistory began.options (first_of began) given history last → given ++ rest ≡ all → FrontOf (folder_of (s.disk start)) words all
  front_of words began all given rest history last start begins h whole = record {
    began = began;
    begins = begins;
    history = history;
    last = last;
    is_front = record { rest = rest; orders_are = ap (λ os. os ++ rest) h.orders_are ∙ whole; runs = h.runs };
  }

  -- ---- the whole script

  -- the closing sync: the same history, of which all writes are durable
  finished : CutsOfSteady → (began : Start) (given : List Parsed) (store : Stored) (start old now : S) → Served s began given store start old → HasCalled s all_durable store store old now → Served s began given store start now
  finished law began given store start old now served called =
      let k = served.carried in
      record {
        history = served.history;
        last = served.last;
        is_history = served.is_history;
        told_is = called.told ∙ served.told_is;
        carried = record {
          names = k.names;
          stored = durable_stored k.names k.stored;
          settled = λ settled. durable_stored [] (k.settled settled);
          certain = called.certain;
          last_is = k.last_is;
          fits = k.fits;
        };
        cuts = λ settled. let b = k.settled settled in
            cuts_then s began served.history start old now (served.cuts settled)
            (cuts_between s began served.history b.earlier b.held (all_durable b.held) start old now b.wrote refl refl served.told_is (called.cuts b.held b.carries.stands));
      }
    where
      durable_stored : (names : List Name) → IsStored names began served.history served.last store (s.disk old) → IsStored names began served.history served.last store (s.disk now)
      durable_stored names a = record {
        earlier = a.earlier;
        held = all_durable a.held;
        wrote = wrote_durable began served.history a.earlier a.held a.wrote;
        carries = record { stands = called.stands names a.held a.carries.stands; options_are = a.carries.options_are; state_is = a.carries.state_is };
      }

  kept_cut : CutsOfSynced → ((site : S) → s.shows → s.certain site → (other : Disk) → s.may_be site other → other ≡ s.disk site) → s.shows → (last : State) (now : S) → s.certain now → (l : LeavesState (folder_of (s.disk now)) last)
      → NeededAreSynced (s.disk now) l.manifest l.live → (c : Cut) → MayLeave (s.may_be now) (s.told now) c → Stands c.folder last.now
  kept_cut law only shown last now certain l synced c leaves =
      (law (s.disk now) (s.told now) c l.manifest l.live last.now l.is_live l.stands synced (cut_of_only (s.may_be now) (s.disk now) (s.told now) c (only now shown certain) leaves)).1

  pub finished_have_run : CutsOfSteady → CutsOfSynced → LogsAlike → BytesAreInLogs → ((site : S) → s.shows → s.certain site → (other : Disk) → s.may_be site other → other ≡ s.disk site) → FinishedHaveRun s r
  finished_have_run law kept alike counted only shown words script after began store start old now begins served called seen synced =
      let done = finished law began (orders (r.left script)) store start old now served called in
      record {
        obeyed = obeyed_of words script after began (orders (r.left script)) store start now begins done seen;
        kept = λ settled. record {
          certain = called.certain;
          synced = let b = served.carried.settled settled in synced b.held b.carries.stands;
          stands = kept_cut kept only shown done.last now called.certain (leaves_of s began done.history done.last store start now done.carried seen) (let b = served.carried.settled settled in synced b.held b.carries.stands);
          batches = let b = served.carried.settled settled in
              let d = done.carried.settled settled in
              leaves_batches alike counted d.held store (s.disk now) (now_of d.held) done.last d.carries.stands d.carries.state_is (synced b.held b.carries.stands);
        };
      }

  -- ---- a reply that could not be told, and a call that failed

  pub answering_have_faltered : AnsweringHaveFaltered s r
  answering_have_faltered words script after began given rest order store start now begins a seen whole = record {
    of = front_of words began (orders (r.left script)) (given ++ order ∷ []) rest (a.before ++ a.line ∷ []) a.last start begins a.is_history whole;
    before = a.before;
    line = a.line;
    lines_are = refl;
    front = a.front;
    leaves = leaves_of s began (a.before ++ a.line ∷ []) a.last store start now a.carried seen;
    cuts = λ settled. each_with s began (a.before ++ a.line ∷ []) start now (a.cuts settled);
    fits = a.carried.fits;
  }

  pub failing_have_begun : FailingHaveBegun s r
  failing_have_begun words script after began given rest start now begins f whole = record {
    of = front_of words began (orders (r.left script)) given rest f.history f.last start begins f.is_history whole;
    front = f.front;
    cuts = λ settled. each_with s began f.history start now (f.cuts settled);
    fits = f.fits;
  }

-- ---- a line that ends the run

module _ {S : Type 0} (g : SiteGhosts S) where
  -- the cut, had nothing of the line been told
  told_before : (mid : S) (k : Cut) (count : ℕ) (line : List ℕ) → (l : MayLeave (g.may_be mid) (g.told mid ++ take count line) k) → MayLeave (g.may_be mid) (g.told mid) (told_only (g.told mid) k)
  told_before mid k count line l = record { disk = l.disk; possible = l.possible; is_cut = record { image = l.is_cut.image; told_is = refl; written_is = l.is_cut.written_is } }

  error_cut : (began : Start) (history : List Line) (line told : List ℕ) (count : ℕ) (start : S) (c : Cut) → IsErrorLine line → c.told ≡ told ++ take count line
      → IsCutOf g began history start (told_only told c) → CutWith (folder_of (g.disk start)) (g.may_be start) began history (g.told start) c
  error_cut began history line told count start c is_line is k =
      let error : IsErrorFront (take count line) = record { line = line; is_error = is_line; rest = drop count line; whole = take-append-drop count line } in
      ⊎_elim
      (λ found. inl (record {
        error = take count line;
        is_error = error;
        told_is = is ∙ ap (λ t. t ++ take count line) found.told_is;
        cut = record { told_is = refl; found = found.found; was = found.was; perhaps = found.perhaps };
      }))
      (λ behind. inr (record {
        replied = told;
        error = take count line;
        is_error = error;
        told_is = is;
        cut = record { replies = behind.replies; more = behind.more; replies_are = behind.replies_are; told_is = behind.told_is; stands = behind.stands };
      }))
      k

  abbrev pub CountsNow : Type 0
  CountsNow = (site : S) → g.shows → (t : ℕ) (c : Cut) → t ≤ g.clock site → MayLeave (g.may_be site) (g.told site) c → g.left_since site t c

  pub error_lines_keep_cuts : CountsNow → ErrorLinesKeepCuts g
  error_lines_keep_cuts counts shown began history line start mid now each is_line time =
      goes_on g.clock g.left_since start mid now (CutWith (folder_of (g.disk start)) (g.may_be start) began history (g.told start)) (Tells (g.may_be mid) (g.told mid) line)
      (widened g.clock g.left_since start mid (IsCutOf g began history start) (CutWith (folder_of (g.disk start)) (g.may_be start) began history (g.told start)) (with_of g began history start) each) time
      (λ c t.
      let later = each.later in
      let before = each.each (told_only (g.told mid) c) (counts mid shown (g.clock start) (told_only (g.told mid) c) later (told_before mid c t.count line t.leaves)) in
      error_cut began history line (g.told mid) t.count start c is_line t.leaves.is_cut.told_is before)

  -- a cut behind the barrier, of which a front of the line was told
  behind_with : (began : Start) (history : List Line) (line told told0 : List ℕ) (count : ℕ) (c : Cut) → IsErrorLine line → c.told ≡ told ++ take count line → CutOf began history told0 (told_only told c) → CutBehind began history told0 c
  behind_with began history line told told0 count c is_line is k = record {
    replied = told;
    error = take count line;
    is_error = record { line = line; is_error = is_line; rest = drop count line; whole = take-append-drop count line };
    told_is = is;
    cut = record { replies = k.replies; more = k.more; replies_are = k.replies_are; told_is = k.told_is; stands = k.stands };
  }

  pub error_lines_keep_behind : CountsNow → g.shows → (began : Start) (history : List Line) (line : List ℕ) (start mid now : S)
      → LeavesOnly g.clock g.left_since start mid (λ c. FindsNewFile (g.disk start) c.folder → CutOf began history (g.told start) c) → IsErrorLine line → IsTelling g line mid now
      → LeavesOnly g.clock g.left_since start now (λ c. FindsNewFile (g.disk start) c.folder → CutBehind began history (g.told start) c)
  error_lines_keep_behind counts shown began history line start mid now behind is_line time =
      goes_on g.clock g.left_since start mid now (λ c. FindsNewFile (g.disk start) c.folder → CutBehind began history (g.told start) c) (Tells (g.may_be mid) (g.told mid) line)
      (widened g.clock g.left_since start mid (λ c. FindsNewFile (g.disk start) c.folder → CutOf began history (g.told start) c) (λ c. FindsNewFile (g.disk start) c.folder → CutBehind began history (g.told start) c)
      (λ c k finds. behind_of began history (g.told start) c (k finds)) behind) time
      (λ c t finds.
      let later = behind.later in
      let before = behind.each (told_only (g.told mid) c) (counts mid shown (g.clock start) (told_only (g.told mid) c) later (told_before mid c t.count line t.leaves)) finds in
      behind_with began history line (g.told mid) (g.told start) t.count c is_line t.leaves.is_cut.told_is before)

  error_lines_keep_late : CountsNow → g.shows → (began : Start) (history : List Line) (line : List ℕ) (start mid now : S) → FromSomeMoment g.clock g.left_since start mid (CutOf began history (g.told start)) → IsErrorLine line → IsTelling g line mid now
      → FromSomeMoment g.clock g.left_since start now (CutBehind began history (g.told start))
  error_lines_keep_late counts shown began history line start mid now l is_line time = record {
    moment = l.moment;
    not_before = l.not_before;
    not_after = omega (arith, l.not_after, time.later);
    each = λ c left. ⊎_elim (λ was. behind_of began history (g.told start) c (l.each c was))
        (λ t. behind_with began history line (g.told mid) (g.told start) t.count c is_line t.leaves.is_cut.told_is
        (l.each (told_only (g.told mid) c) (counts mid shown l.moment (told_only (g.told mid) c) l.not_after (told_before mid c t.count line t.leaves))))
        (time.nothing_else l.moment c l.not_after left);
  }

module _ {S R : Type 0} (s : SiteGhosts S) (r : SourceGhosts R) where
  pub error_lines_keep_runs : CountsNow s → ErrorLinesKeepRuns s r
  error_lines_keep_runs counts shown words script began given rest history last line start mid now begins h whole a is_line time =
      let all = orders (r.left script) in
      let stands : (c : Cut) → CutBehind began history (s.told start) c → CutStands (folder_of (s.disk start)) words all (s.told start) c =
      λ c k. record { of = front_of s r words began all given rest history last start begins h whole; cut = k } in
      let l = error_lines_keep_late s counts shown began history line start mid now a.late is_line time in
      record {
        each = widened s.clock s.left_since start now (CutWith (folder_of (s.disk start)) (s.may_be start) began history (s.told start)) (CutOfRun (folder_of (s.disk start)) words (s.may_be start) all (s.told start))
            (λ c k. ⊎_elim (λ before. inl before) (λ behind. inr (stands c behind)) k) (error_lines_keep_cuts s counts shown began history line start mid now a.each is_line time);
        behind = λ certain. widened s.clock s.left_since start now (λ c. FindsNewFile (s.disk start) c.folder → CutBehind began history (s.told start) c) (λ c. FindsNewFile (s.disk start) c.folder → CutStands (folder_of (s.disk start)) words all (s.told start) c)
            (λ c k finds. stands c (k finds)) (error_lines_keep_behind s counts shown began history line start mid now (a.behind certain) is_line time);
        late = record { moment = l.moment; not_before = l.not_before; not_after = l.not_after; each = λ c left. stands c (l.each c left) };
      }

module _ {S R : Type 0} (s : SiteGhosts S) (r : SourceGhosts R) where
  pub stopped_end_full : ErrorLinesKeepCuts s → StoppedEndFull s r
  stopped_end_full keep shown words script after began given order rest limit start mid now begins t whole passes told = record {
    replies = told_by t.history;
    line = full_line limit;
    ends = record {
      of = front_of s r words began (orders (r.left script)) given (order ∷ rest) t.history t.last start begins t.is_history whole;
      limit = limit;
      passes = inr passes;
      replies_are = refl;
      line_is = refl;
      stands = subst (λ (d : Disk). Stands (folder_of d) t.last.now) (sym told.stays.same) t.stands;
      cuts = λ settled. keep shown began t.history (full_line limit) start mid now (t.cuts settled).each (inr (inl (limit, refl))) told.time;
    };
    front = record { front = told.front.front; rest = told.front.rest; whole = told.front.whole; told_is = told.front.told_is ∙ ap (λ x. x ++ told.front.front) t.told_is };
  }

  -- ---- whatever the status

  pub cuts_are_of_run : CutsAreOfRun s r
  cuts_are_of_run words script began given rest history last start now begins h whole a =
      let all = orders (r.left script) in
      let stands : (c : Cut) → CutOf began history (s.told start) c → CutStands (folder_of (s.disk start)) words all (s.told start) c =
      λ c k. record { of = front_of s r words began all given rest history last start begins h whole; cut = behind_of began history (s.told start) c k } in
      let l = a.late in
      record {
        each = widened s.clock s.left_since start now (IsCutOf s began history start) (CutOfRun (folder_of (s.disk start)) words (s.may_be start) all (s.told start))
            (λ c k. ⊎_elim (λ found. inl (before_of (folder_of (s.disk start)) (s.may_be start) (s.told start) c found)) (λ behind. inr (stands c behind)) k) a.each;
        behind = λ certain. widened s.clock s.left_since start now (IsBehind s began history start) (λ c. FindsNewFile (s.disk start) c.folder → CutStands (folder_of (s.disk start)) words all (s.told start) c)
            (λ c k finds. stands c (k finds)) (a.behind certain);
        late = record { moment = l.moment; not_before = l.not_before; not_after = l.not_after; each = λ c left. stands c (l.each c left) };
      }

-- ---- the logs of a store

pub stores_leave_logs_whole : LogsAreWhole → SteadyHoldWritten → LiveIsOne → StoresLeaveLogsWhole
stores_leave_logs_whole law hold one held store disk t there manifest live is_live lower upper is_number needed less some =
    let same : live ≡ record { version = store.version; standing = store.standing } = (one (folder_of disk) manifest store.manifest.number live (record { version = store.version; standing = store.standing }) is_live there.live).1 in
    let at : t.steady.holding.live.standing.log_number ≡ live.standing.log_number = ap (λ (l : Restored). l.standing.log_number) (t.carries.live ∙ sym same) in
    law (maps_of held) t.steady disk t.is_steady lower upper is_number (omega (arith, needed, at)) less some
