-- What is to be shown at each status.
use Rattle.std.proofs.Common.{◌≡◌, inl, inr, ⊎_elim, ℕ, ◌^◌, List, [], ◌++◌, length, refl, sym, ◌∙◌, ap, subst, append-nil}
use Rattle.bl_site.specs.Disk.{Cut, Disk, Folder, folder_of}
use Rattle.bl_site.specs.declared.site.Site.{Ghosts as SiteGhosts}
use Rattle.bl_site.specs.declared.source.Source.{Ghosts as SourceGhosts}
use Rattle.bl_site.proofs.Moments.{widened}
use Rattle.bl_build.specs.Listing.{nothing}
use Rattle.bl_entry.specs.Revisions.{Map}
use Rattle.bl_folder.specs.Stands.{Stands}
use Rattle.bl_open.specs.DamageLaws.{SoundAreNotRefused}
use Rattle.bl_open.specs.Options.{Words, defaults, given_or}
use Rattle.bl_open.specs.Found.{IsLeftStanding}
use Rattle.bl_open.specs.Recovering.{CutsAtBarrier}
use Rattle.bl_script.specs.declared.command.Parsed.{Parsed}
use Rattle.bl_machine.specs.History.{orders}
use Rattle.bl_promise.specs.Start.{FrontOf, IsStartOf, Start, first_of}
use Rattle.bl_promise.specs.Cuts.{CutBehind, CutOf, CutOfRun, CutWith, CutStands, FindsNewFile, corrupt_line, differ_line, full_line}
use Rattle.bl_promise.specs.Run.{run_of}
use Rattle.bl_promise.specs.Telling.{EndsFull, TellsEndInPart}
use Rattle.bl_promise.specs.Serving.{AreOfOpening, IsCutOf}
use Rattle.bl_promise.specs.StatusLaws.{CutsSurvive, DamageEnds, DifferAnswers, DiffersEnd, DoneAnswers, FailuresAnswer, FaltersAnswer, FullAnswers, FullOpeningsEnd, LinesAreTold, LinesInPartAnswer, OpeningsCutRuns, OpeningsSurvive, RefusedOpeningsCutRuns, TakenAnswers}
use Rattle.bl_promise.proofs.BeginLemmas.{opening_behind, opening_cuts}
use Rattle.bl_promise.proofs.EndLemmas.{CountsNow, before_of, behind_of, error_lines_keep_behind, error_lines_keep_cuts}

module _ {S R : Type 0} (s : SiteGhosts S) (r : SourceGhosts R) where
  pub done_answers : DoneAnswers s r
  done_answers words script after start now h = record {
    done = λ is. h;
    taken = λ is. ⊎_elim (λ e. absurd (cc e)) (λ e. absurd (cc e)) is;
    full = λ e. absurd (cc e);
    failed = λ is. ⊎_elim (λ e. absurd (cc e)) (λ more. ⊎_elim (λ e. absurd (cc e)) (λ e. absurd (cc e)) more) is;
    untold = λ e. absurd (cc e);
    sound = λ e. cc e;
  }

  pub taken_answers : TakenAnswers s r
  taken_answers words script after start now status is h = record {
    done = λ e. absurd (⊎_elim (λ read. cc (e, read)) (λ long. cc (e, long)) is);
    taken = λ also. h;
    full = λ e. absurd (⊎_elim (λ read. cc (e, read)) (λ long. cc (e, long)) is);
    failed = λ fails. absurd (⊎_elim (λ e. ⊎_elim (λ read. cc (e, read)) (λ long. cc (e, long)) is) (λ more. ⊎_elim (λ e. ⊎_elim (λ read. cc (e, read)) (λ long. cc (e, long)) is) (λ e. ⊎_elim (λ read. cc (e, read)) (λ long. cc (e, long)) is) more) fails);
    untold = λ e. absurd (⊎_elim (λ read. cc (e, read)) (λ long. cc (e, long)) is);
    sound = λ e. ⊎_elim (λ read. cc (e, read)) (λ long. cc (e, long)) is;
  }

  pub full_answers : FullAnswers s r
  full_answers words script after start now h = record {
    done = λ e. absurd (cc e);
    taken = λ is. ⊎_elim (λ e. absurd (cc e)) (λ e. absurd (cc e)) is;
    full = λ is. h;
    failed = λ is. ⊎_elim (λ e. absurd (cc e)) (λ more. ⊎_elim (λ e. absurd (cc e)) (λ e. absurd (cc e)) more) is;
    untold = λ e. absurd (cc e);
    sound = λ e. cc e;
  }

  pub differ_answers : DifferAnswers s r
  differ_answers words script after start now = record {
    done = λ e. absurd (cc e);
    taken = λ is. ⊎_elim (λ e. absurd (cc e)) (λ e. absurd (cc e)) is;
    full = λ e. absurd (cc e);
    failed = λ is. ⊎_elim (λ e. absurd (cc e)) (λ more. ⊎_elim (λ e. absurd (cc e)) (λ e. absurd (cc e)) more) is;
    untold = λ e. absurd (cc e);
    sound = λ e. cc e;
  }

  pub failures_answer : FailuresAnswer s r
  failures_answer words script after start now status is told = record {
    done = λ e. absurd (⊎_elim (λ disk. cc (e, disk)) (λ memory. cc (e, memory)) is);
    taken = λ other. absurd (⊎_elim (λ e. ⊎_elim (λ disk. cc (e, disk)) (λ memory. cc (e, memory)) is) (λ e. ⊎_elim (λ disk. cc (e, disk)) (λ memory. cc (e, memory)) is) other);
    full = λ e. absurd (⊎_elim (λ disk. cc (e, disk)) (λ memory. cc (e, memory)) is);
    failed = λ fails. ⊎_elim (λ none. inl none) (λ begun. inr (inl begun)) told;
    untold = λ e. absurd (⊎_elim (λ disk. cc (e, disk)) (λ memory. cc (e, memory)) is);
    sound = λ e. ⊎_elim (λ disk. cc (e, disk)) (λ memory. cc (e, memory)) is;
  }

  pub falters_answer : FaltersAnswer s r
  falters_answer words script after start now begun h = record {
    done = λ e. absurd (cc e);
    taken = λ is. ⊎_elim (λ e. absurd (cc e)) (λ e. absurd (cc e)) is;
    full = λ e. absurd (cc e);
    failed = λ is. inr (inl begun);
    untold = λ is. inl h;
    sound = λ e. cc e;
  }

  pub lines_in_part_answer : LinesInPartAnswer s r
  lines_in_part_answer words script after start now h = record {
    done = λ e. absurd (cc e);
    taken = λ is. ⊎_elim (λ e. absurd (cc e)) (λ e. absurd (cc e)) is;
    full = λ e. absurd (cc e);
    failed = λ is. inr (inr (refl, h));
    untold = λ is. inr h;
    sound = λ e. cc e;
  }

  -- ---- cuts

  pub cuts_survive : CutsSurvive s r
  cuts_survive words script after start now status a reads settled whole = record {
    any_moment = a.each;
    barrier = a.behind;
    past = λ is. a.late;
    reads = reads;
    settled = settled;
    whole = whole;
  }

  pub openings_survive : OpeningsSurvive s r
  openings_survive words script after start now status a not_past broken reads settled = record {
    any_moment = a.each;
    barrier = a.behind;
    past = λ is. absurd (not_past is);
    reads = reads;
    settled = settled;
    whole = λ is. absurd (broken is);
  }

  -- ---- refused openings

  pub differs_end : DiffersEnd s r
  differs_end words script after option stored asked start mid now refused none same told = record {
    replies = [];
    line = differ_line option stored asked;
    ends = record { option = option; stored = stored; asked = asked; refused = refused; none = refl; line_is = refl; same = ap folder_of told.stays.same ∙ same };
    front = record { front = told.front.front; rest = told.front.rest; whole = told.front.whole; told_is = told.front.told_is ∙ ap (λ t. t ++ told.front.front) (none ∙ sym (append-nil (s.told start))) };
  }

  pub damage_ends : SoundAreNotRefused → DamageEnds s r
  damage_ends law words script after name place start mid now refused none same told = record {
    replies = [];
    line = corrupt_line name place;
    ends = record {
      name = name;
      place = place;
      unsound = λ sound. law (folder_of (s.disk start)) words name place sound refused;
      damage = inl (refused, refl, ap folder_of told.stays.same ∙ same);
      line_is = refl;
    };
    front = record { front = told.front.front; rest = told.front.rest; whole = told.front.whole; told_is = told.front.told_is ∙ ap (λ t. t ++ told.front.front) (none ∙ sym (append-nil (s.told start))) };
  }

  pub lines_are_told : LinesAreTold s r
  lines_are_told words script after start now = (
    λ t none. record { replies = t.replies; line = t.line; ends = t.ends; told_is = t.front.told_is ∙ ap (λ x. (s.told start ++ t.replies) ++ x) (whole_line t.front.front t.front.rest t.line none t.front.whole) },
    λ t none. record { replies = t.replies; line = t.line; ends = t.ends; told_is = t.front.told_is ∙ ap (λ x. (s.told start ++ t.replies) ++ x) (whole_line t.front.front t.front.rest t.line none t.front.whole) },
    λ t none. record { replies = t.replies; line = t.line; ends = t.ends; told_is = t.front.told_is ∙ ap (λ x. (s.told start ++ t.replies) ++ x) (whole_line t.front.front t.front.rest t.line none t.front.whole) },
  )
    where
      whole_line : (front rest line : List ℕ) → rest ≡ [] → front ++ rest ≡ line → front ≡ line
      whole_line front rest line none whole = sym (append-nil front) ∙ ap (λ x. front ++ x) (sym none) ∙ whole

-- ---- cuts of an opening

-- where a run begins on a folder that stands for a map, whatever its opening answers
start_on : (folder : Folder) (words : Words) (m : Map) → Stands folder m → (began : Start) × (IsStartOf folder words began × (began.now ≡ m))
start_on folder words m (inl fresh) = (
  record { options = given_or defaults words; now = m; last = 0; entries = 0; listing = nothing },
  (
    record {
      on = inl (record { fresh = fresh.0; options_are = refl; now_is = fresh.1; last_is = refl; entries_are = refl; listing_is = refl });
      in_order = record { tables = tt; blobs = tt };
    },
    refl,
  ),
)
start_on folder words m (inr s) = (
  record { options = s.holding.live.standing.options; now = m; last = s.holding.last; entries = length s.found; listing = nothing },
  (record { on = inr (record { stands = s; options_are = refl; last_is = refl; entries_are = refl }); in_order = record { tables = tt; blobs = tt } }, refl),
)

-- no line is obeyed
abbrev none_of : (folder : Folder) (words : Words) (given : List Parsed) (began : Start) → IsStartOf folder words began → FrontOf folder words given
none_of folder words given began begins = record { began = began; begins = begins; history = []; last = first_of began; is_front = record { rest = given; orders_are = refl; runs = refl } }

module _ {S : Type 0} (s : SiteGhosts S) where
  cut_stands : (words : Words) (given : List Parsed) (began : Start) (start : S) (c : Cut) → IsStartOf (folder_of (s.disk start)) words began → CutBehind began [] (s.told start) c → CutStands (folder_of (s.disk start)) words given (s.told start) c
  cut_stands words given began start c begins k = record { of = none_of (folder_of (s.disk start)) words given began begins; cut = k }

  pub openings_cut_runs : OpeningsCutRuns s
  openings_cut_runs words m given start now stands cuts =
      let on = start_on (folder_of (s.disk start)) words m stands in
      by on.0 on.1.0 on.1.1
    where
      by : (began : Start) → IsStartOf (folder_of (s.disk start)) words began → began.now ≡ m → AreOfOpening s words given start now
      by began begins same =
          let k = subst (λ (x : Map). CutsAtBarrier s (IsLeftStanding (folder_of (s.disk start)) x) start now) (sym same) cuts in
          record {
            each = widened s.clock s.left_since start now (IsCutOf s began [] start) (CutOfRun (folder_of (s.disk start)) words (s.may_be start) given (s.told start))
                (λ c side. ⊎_elim (λ found. inl (before_of (folder_of (s.disk start)) (s.may_be start) (s.told start) c found)) (λ behind. inr (cut_stands words given began start c begins (behind_of began [] (s.told start) c behind))) side) (opening_cuts s began start now k);
            behind = λ certain. widened s.clock s.left_since start now (λ c. FindsNewFile (s.disk start) c.folder → CutOf began [] (s.told start) c) (λ c. FindsNewFile (s.disk start) c.folder → CutStands (folder_of (s.disk start)) words given (s.told start) c)
                (λ c behind finds. cut_stands words given began start c begins (behind_of began [] (s.told start) c (behind finds))) (opening_behind s began start now k certain);
          }

  pub full_opening : CountsNow s → {R : Type 0} (r : SourceGhosts R) → FullOpeningsEnd s r
  full_opening counts r shown words script after m start mid now stands full none stays cuts told =
      let on = start_on (folder_of (s.disk start)) words m stands in
      by on.0 on.1.0 on.1.1
    where
      by : (began : Start) → IsStartOf (folder_of (s.disk start)) words began → began.now ≡ m → TellsEndInPart (run_of s r words script after start now) (EndsFull (run_of s r words script after start now))
      by began begins same = record {
        replies = [];
        line = full_line (10 ^ 15);
        ends = record {
          of = none_of (folder_of (s.disk start)) words (orders (r.left script)) began begins;
          limit = 10 ^ 15;
          passes = inl (record { none = refl; full = full; limit_is = refl });
          replies_are = refl;
          line_is = refl;
          stands = subst (λ (d : Disk). Stands (folder_of d) began.now) (sym told.stays.same) (subst (Stands (folder_of (s.disk mid))) (sym same) stays);
          cuts = λ settled.
              let k = subst (λ (x : Map). CutsAtBarrier s (IsLeftStanding (folder_of (s.disk start)) x) start mid) (sym same) (cuts settled) in
              error_lines_keep_cuts s counts shown began [] (full_line (10 ^ 15)) start mid now (opening_cuts s began start mid k) (inr (inl (10 ^ 15, refl))) told.time;
        };
        front = record { front = told.front.front; rest = told.front.rest; whole = told.front.whole; told_is = told.front.told_is ∙ ap (λ t. t ++ told.front.front) (none ∙ sym (append-nil (s.told start))) };
      }

  pub refused_openings_cut_runs : CountsNow s → RefusedOpeningsCutRuns s
  refused_openings_cut_runs counts shown words m given line start mid now stands cuts is_line time =
      let on = start_on (folder_of (s.disk start)) words m stands in
      by on.0 on.1.0 on.1.1
    where
      by : (began : Start) → IsStartOf (folder_of (s.disk start)) words began → began.now ≡ m → AreOfOpening s words given start now
      by began begins same =
          let k = subst (λ (x : Map). CutsAtBarrier s (IsLeftStanding (folder_of (s.disk start)) x) start mid) (sym same) cuts in
          record {
            each = widened s.clock s.left_since start now (CutWith (folder_of (s.disk start)) (s.may_be start) began [] (s.told start)) (CutOfRun (folder_of (s.disk start)) words (s.may_be start) given (s.told start))
                (λ c side. ⊎_elim (λ before. inl before) (λ behind. inr (cut_stands words given began start c begins behind)) side)
                (error_lines_keep_cuts s counts shown began [] line start mid now (opening_cuts s began start mid k) is_line time);
            behind = λ certain. widened s.clock s.left_since start now (λ c. FindsNewFile (s.disk start) c.folder → CutBehind began [] (s.told start) c) (λ c. FindsNewFile (s.disk start) c.folder → CutStands (folder_of (s.disk start)) words given (s.told start) c)
                (λ c behind finds. cut_stands words given began start c begins (behind finds)) (error_lines_keep_behind s counts shown began [] line start mid now (opening_behind s began start mid k certain) is_line time);
          }
