use Rattle.std.proofs.Common.{◌≡◌, ℕ, List, [], ◌∙◌, ap, sym, subst, refl, inl, inr, append-nil, arith, Err}
use Rattle.std.proofs.lemmas.Result.{err_from_is_err_and, on_ok_weaker, IfErr-weaker}
use Rattle.bl_site.specs.Disk.{folder_of}
use Rattle.bl_site.proofs.Moments.{widened, cut_of_only}
use Rattle.bl_logstore.specs.declared.error.StoreErr.TheVariants as store
use Rattle.bl_logstore.specs.Causes.{IsUntouched}
use Rattle.bl_shell.specs.Causes.{IsOpening, IsReading, stop_of_store}
use Rattle.bl_shell.specs.Cuts.{CutPast, FromSomeMoment, StopsBeforeScript}
use Rattle.bl_shell.specs.Machine.{orders}
use Rattle.bl_shell.specs.Telling.{HasRun, HasTaken, HasBegun, HasFaltered}
use Rattle.bl_shell.specs.declared.stop.Stop.TheVariants as stop
use Rattle.bl_shell.proofs.CrashLemmas.{failed_behind, opened_behind, unopened_behind, opened_now, opened_past, opened_then, opened_stops, unopened}
use Rattle.bl_shell.proofs.InsideLemmas.{no_more_logs, opening_or_full, opening_reads_nothing}
use Rattle.bl_shell.proofs.TopLemmas.{began_of, not_opened, unasked, begins_open, starts_open, stands_open, opening_stops, stop_full, stop_corrupt, stop_not_tell}
use Rattle.bl_logstore.proofs.OtherLemmas.{others_same, others_then, same_no_next}
use Rattle.bl_shell.proofs.WholeLemmas.{whole_disk}
use Rattle.bl_shell.proofs.top.run_on.Given as given
use Rattle.bl_shell.proofs.top.run_on.Goals as goal

-- no memory for the buffer: the folder was not asked
pub returns-in_err-buffer-clause-serves : goal.returns-in_err-buffer-clause-serves
returns-in_err-buffer-clause-serves g c =
    let p = err_from_is_err_and c.from_residual.result c.from_residual.ensures.1 in
    rw p.1 (λ shown known.
    let is : p.0 ≡ stop.OutOfMemory = cc (p.2, c.in_err-buffer.ensures.memory) in
    record {
      done = tt;
      taken = λ reading. absurd (subst IsReading is reading);
      front = λ silent. inl refl;
      faltered = λ tell. absurd (cc (tell, is));
      full = λ limit full. absurd (cc (full, is));
    })

pub returns-in_err-buffer-clause-stands : goal.returns-in_err-buffer-clause-stands
returns-in_err-buffer-clause-stands g c =
    let p = err_from_is_err_and c.from_residual.result c.from_residual.ensures.1 in
    rw p.1 (λ shown known.
    let site = g.S.Site in
    let old = c.args.site.now in
    record {
      kept = tt;
      any_moment = unopened site.clock site.left_since site.told site.may_be old _ _ (λ cut. g.met.S.Site.only_now shown old cut);
      past = inl (refl, subst (StopsBeforeScript _ _) (sym (cc p.2)) (unasked c.in_err-buffer.field-0.0 _ _ c.in_err-buffer.ensures.memory), refl);
      made = λ next sure. absurd (same_no_next _ (site.disk old) refl next);
      whole = λ next. absurd (same_no_next _ (site.disk old) refl next);
      barrier = λ sure. unopened_behind site.clock site.left_since site.told site.may_be site.disk old (CutPast _ _ _) (λ other. g.met.S.Site.only shown old other sure) (g.met.S.Site.only_now shown old);
    })

pub returns-in_err-buffer-clause-refuses : goal.returns-in_err-buffer-clause-refuses
returns-in_err-buffer-clause-refuses g c =
    let p = err_from_is_err_and c.from_residual.result c.from_residual.ensures.1 in
    rw p.1 (λ shown.
    let is : p.0 ≡ stop.OutOfMemory = cc (p.2, c.in_err-buffer.ensures.memory) in
    let opening : IsOpening p.0 = subst IsOpening (sym is) tt in
    record {
      corrupt = λ name place corrupt. absurd (cc (corrupt, is));
      damaged = λ name place damaged. (refl, opening);
      last_log = λ some. (refl, inl opening);
      others = others_same _ _ refl;
    })

-- an opening that failed
pub returns-in_err-store-clause-serves : goal.returns-in_err-store-clause-serves
returns-in_err-store-clause-serves g c =
    let p = err_from_is_err_and c.from_residual-in_err-store.result c.from_residual-in_err-store.ensures.1 in
    let same : p.0 ≡ stop_of_store c.in_err-store.field-0.0 = cc p.2 in
    rw p.1 (λ shown known. record {
      done = tt;
      taken = λ reading. absurd (opening_reads_nothing c.in_err-store.field-0.0 (subst IsReading same reading));
      front = λ silent. inl (c.in_err-store.ensures.tells_nothing.told shown);
      faltered = λ tell. absurd (stop_not_tell c.in_err-store.field-0.0 (cc (tell, same)));
      full = λ limit is.
          let e : c.in_err-store.field-0.0 ≡ store.Full limit = stop_full c.in_err-store.field-0.0 limit (cc (is, same)) in
          let f = c.in_err-store.ensures.full shown limit (ap Err e) in
          record {
            replies = [];
            full = inl (record { greatest = f.1; batches = f.2.0; last = f.2.1.0; stands = f.2.1.1; same = c.in_err-store.ensures.same shown (subst IsUntouched (sym e) tt); none_told = refl; limit_is = f.0 });
            told_is = c.in_err-store.ensures.tells_nothing.told shown ∙ sym (append-nil (g.S.Site.told c.args.site.now));
            cuts = widened g.S.Site.clock g.S.Site.left_since c.args.site.now c.open_site.new.site _ _ (λ cut b. inl b) (c.open_site.ensures.before shown);
          };
    })

pub returns-in_err-store-clause-stands : goal.returns-in_err-store-clause-stands
returns-in_err-store-clause-stands g c =
    let p = err_from_is_err_and c.from_residual-in_err-store.result c.from_residual-in_err-store.ensures.1 in
    let same : p.0 ≡ stop_of_store c.in_err-store.field-0.0 = cc p.2 in
    rw p.1 (λ shown known.
    let site = g.S.Site in
    let old = c.args.site.now in
    let new = c.open_site.new.site in
    let folder = folder_of (site.disk old) in
    record {
      kept = tt;
      any_moment = widened site.clock site.left_since old new _ _ (λ cut b. inl b) (c.open_site.ensures.before shown);
      past = inl (refl, subst (StopsBeforeScript _ _) (sym same) (not_opened c.in_err-store.field-0.0 folder (site.disk new) (c.in_err-store.ensures.same shown)), refl);
      -- it made the next log
      made = λ next sure.
          opened_now site.clock site.left_since site.told site.may_be c.cuts_stand.ensures c.batches_make_the_map.ensures site.disk old new folder _ (c.in_err-store.ensures.made shown next)
          (c.open_site.ensures.before shown).later (c.in_err-store.ensures.tells_nothing.told shown)
          (λ cut left. cut_of_only (site.may_be new) (site.disk new) (site.told new) cut (λ other. g.met.S.Site.only shown new other sure) (g.met.S.Site.only_now shown new cut left));
      whole = λ next. c.older_logs_are_synced.ensures _ _ _ _ _ _ (c.in_err-store.ensures.made shown next).opens.carries.on;
      barrier = λ sure. failed_behind site.clock site.left_since site.told site.may_be c.cuts_stand.ensures c.batches_make_the_map.ensures old new folder _ (c.open_site.ensures.behind shown sure);
    })

pub returns-in_err-store-clause-refuses : goal.returns-in_err-store-clause-refuses
returns-in_err-store-clause-refuses g c =
    let p = err_from_is_err_and c.from_residual-in_err-store.result c.from_residual-in_err-store.ensures.1 in
    let same : p.0 ≡ stop_of_store c.in_err-store.field-0.0 = cc p.2 in
    rw p.1 (λ shown.
    let folder = folder_of (g.S.Site.disk c.args.site.now) in
    let fault = c.in_err-store.field-0.0 in
    record {
      corrupt = λ name place is.
          let e : fault ≡ store.Corrupt name place = stop_corrupt fault name place (cc (is, same)) in
          (c.in_err-store.ensures.corrupt shown name place (ap Err e), c.in_err-store.ensures.tells_nothing.told shown, c.in_err-store.ensures.same shown (subst IsUntouched (sym e) tt));
      damaged = λ name place damaged.
          let stands = λ (number : ℕ) (is : fault ≡ store.Full number).
          let f = c.in_err-store.ensures.full shown number (ap Err is) in
          c.damaged_do_not_stand.ensures folder name place f.2.0 f.2.1.0 damaged f.2.1.1 in
          (refl, subst IsOpening (sym same) (opening_stops fault c.in_err-store.ensures.causes stands));
      last_log = λ some.
          let how = opening_or_full fault c.in_err-store.ensures.causes (λ number is. (c.in_err-store.ensures.full shown number (ap Err is)).0) in
          (refl, elim how [ inl opening ↦ inl (subst IsOpening (sym same) opening) | inr full ↦ inr (same ∙ full) ]);
      others = c.open_site.ensures.others shown;
    })

pub serve-requires-clause-there : goal.serve-requires-clause-there
serve-requires-clause-there g c = λ shown.
    let o = c.in_ok-store.ensures.opened shown in
    let folder = folder_of (g.S.Site.disk c.args.site.now) in
    (began_of folder c.in_ok-store.store (g.S.Site.disk c.open_site.new.site) o, (folder, starts_open folder c.in_ok-store.store (g.S.Site.disk c.open_site.new.site) o c.in_ok-store.ensures.usable))

pub returns-clause-serves : goal.returns-clause-serves
returns-clause-serves g c = λ shown known.
    let site = g.S.Site in
    let o = c.in_ok-store.ensures.opened shown in
    let folder = folder_of (site.disk c.args.site.now) in
    let after = folder_of (site.disk c.serve.new.site) in
    let disk = site.disk c.open_site.new.site in
    let script = g.R.Source.left c.args.script.now in
    let began = began_of folder c.in_ok-store.store disk o in
    let begins = begins_open folder c.in_ok-store.store disk o c.batches_make_the_map.ensures in
    let starts = starts_open folder c.in_ok-store.store disk o c.in_ok-store.ensures.usable in
    let quiet = c.in_ok-store.ensures.tells_nothing.told shown in
    record {
      done =
          let P : List ℕ → Type 0 = λ told. HasRun folder after script told (site.told c.serve.new.site) in
          on_ok_weaker c.serve.result (λ ok. subst P quiet (ok began folder begins starts)) (c.serve.ensures.ok shown known);
      taken = IfErr-weaker c.serve.result _ _ (λ e taken reading.
          let t = taken reading began folder begins starts in
          let P : List ℕ → Type 0 = λ told. HasTaken folder after t.0 told (site.told c.serve.new.site) in
          record { taken = t.0; rest = t.1; over = t.2; tells = subst P quiet t.3 }) (c.serve.ensures.taken shown known);
      front =
          let P : List ℕ → Type 0 = λ told. HasBegun folder script told (site.told c.serve.new.site) in
          IfErr-weaker c.serve.result _ _ (λ e front silent. inr (subst P quiet (front silent began folder begins starts))) (c.serve.ensures.front shown known);
      faltered = λ is.
          let P : List ℕ → Type 0 = λ told. HasFaltered folder after script told (site.told c.serve.new.site) in
          subst P quiet (c.serve.ensures.faltered shown known is began folder begins starts);
      full = λ limit is.
          opened_stops site.clock site.left_since site.told site.may_be c.args.site.now c.open_site.new.site c.serve.new.site folder _ script limit (c.open_site.ensures.before shown)
          (c.serve.ensures.full shown known limit is began folder begins starts) quiet;
    }

-- the opening has ended well: from then on every cut is one of the lines behind it
from_opening : (g : given.Over) (c : goal.After-drop-buffer-2 g) → g.S.Site.shows → g.R.Source.shows
    → FromSomeMoment g.S.Site.clock g.S.Site.left_since c.args.site.now c.serve.new.site (CutPast (folder_of (g.S.Site.disk c.args.site.now)) (orders (g.R.Source.left c.args.script.now)) (g.S.Site.told c.args.site.now))
from_opening g c shown known =
    let o = c.in_ok-store.ensures.opened shown in
    let folder = folder_of (g.S.Site.disk c.args.site.now) in
    let disk = g.S.Site.disk c.open_site.new.site in
    let began = began_of folder c.in_ok-store.store disk o in
    opened_past g.S.Site.clock g.S.Site.left_since g.S.Site.told g.S.Site.may_be c.args.site.now c.open_site.new.site c.serve.new.site folder _ began (begins_open folder c.in_ok-store.store disk o c.batches_make_the_map.ensures)
    (c.open_site.ensures.before shown).later
    (c.serve.ensures.cuts shown known began folder (starts_open folder c.in_ok-store.store disk o c.in_ok-store.ensures.usable)) (c.in_ok-store.ensures.tells_nothing.told shown)

pub returns-clause-stands : goal.returns-clause-stands
returns-clause-stands g c = λ shown known.
    let site = g.S.Site in
    let o = c.in_ok-store.ensures.opened shown in
    let old = c.args.site.now in
    let new = c.serve.new.site in
    let folder = folder_of (site.disk old) in
    let disk = site.disk c.open_site.new.site in
    let began = began_of folder c.in_ok-store.store disk o in
    let begins = begins_open folder c.in_ok-store.store disk o c.batches_make_the_map.ensures in
    let starts = starts_open folder c.in_ok-store.store disk o c.in_ok-store.ensures.usable in
    let quiet = c.in_ok-store.ensures.tells_nothing.told shown in
    let from = from_opening g c shown known in
    record {
      kept = on_ok_weaker c.serve.result (λ ok. ok began folder begins starts) (c.serve.ensures.kept shown known);
      any_moment = opened_then site.clock site.left_since site.told site.may_be old c.open_site.new.site new folder _ began begins (c.open_site.ensures.before shown)
          (c.serve.ensures.cuts shown known began folder starts) quiet;
      past = inr from;
      made = λ next sure. from;
      whole = λ next. whole_disk (site.disk new) (site.told new) (λ name file. g.met.S.Site.remnant shown new name file)
          (λ cut is. (from.each cut (g.met.S.Site.counts_now shown new from.moment cut from.not_after (record { disk = site.disk new; possible = g.met.S.Site.reads shown new; is_cut = is }))).2.whole);
      barrier = λ sure. opened_behind site.clock site.left_since site.told site.may_be c.cuts_stand.ensures c.batches_make_the_map.ensures old c.open_site.new.site new folder _ began
          begins (c.open_site.ensures.behind shown sure) (c.serve.ensures.cuts shown known began folder starts) quiet;
    }

pub returns-clause-refuses : goal.returns-clause-refuses
returns-clause-refuses g c = λ shown.
    let o = c.in_ok-store.ensures.opened shown in
    let folder = folder_of (g.S.Site.disk c.args.site.now) in
    record {
      corrupt = λ name place is. absurd (c.serve.ensures.corrupt shown name place is);
      damaged = λ name place damaged. absurd (c.damaged_do_not_stand.ensures folder name place o.batches c.in_ok-store.store.last damaged (stands_open folder c.in_ok-store.store (g.S.Site.disk c.open_site.new.site) o));
      last_log = λ some. absurd (no_more_logs folder c.in_ok-store.store.log.number o.carries.on.is_number o.next some);
      others = others_then _ _ _ (c.open_site.ensures.others shown) (c.serve.ensures.others shown);
    }

pub returns-clause-causes : goal.returns-clause-causes
returns-clause-causes g c = record {
  read = c.serve.ensures.causes.read;
  long = c.serve.ensures.causes.long;
  disk = λ is. omega (arith, c.serve.ensures.causes.disk is, c.in_ok-store.ensures.tells_nothing.later);
  tell = λ is. omega (arith, c.serve.ensures.causes.tell is, c.in_ok-store.ensures.tells_nothing.tell_faults);
  later = omega (arith, c.serve.ensures.causes.later, c.in_ok-store.ensures.tells_nothing.tell_faults);
}
