use Rattle.std.proofs.Common.{◌≡◌, ◌++◌, ℕ, List, refl, sym, subst, inl, inr, ap, ◌∙◌, Err}
use Rattle.bl_site.specs.Disk.{Name, Folder, Disk, folder_of}
use Rattle.bl_site.specs.Calls.{LeavesOnly}
use Rattle.bl_site.proofs.Moments.{widened}
use Rattle.bl_logstore.specs.Cuts.{AreWhole}
use Rattle.bl_logstore.specs.Damage.{IsDamaged}
use Rattle.bl_logstore.specs.Stored.{HasNextLog}
use Rattle.bl_shell.specs.Cuts.{CutOfRun, CutPast, CutStands, FromSomeMoment, StopsRun}
use Rattle.bl_shell.specs.Machine.{orders}
use Rattle.bl_shell.specs.Telling.{HasTaken, HasFaltered, IsFull}
use Rattle.bl_shell.specs.declared.stop.Stop.TheVariants as stop
use Rattle.bl_shell.proofs.CrashLemmas.{ended, ended_behind, unended_behind, unopened_behind, has_stopped, past_ended, past_unended, no_error_yet, reads_since, stop_is_full, untouched}
use Rattle.bl_shell.proofs.InsideLemmas.{done_answers, words_answer}
use Rattle.bl_shell.proofs.TopLemmas.{ended_front, untold, only_made, stop_is_long, stop_is_reading, words_are_not_past, stop_is_corrupt, corrupt_told, at_the_limit, not_done, refused}
use Rattle.bl_shell.proofs.WholeLemmas.{whole_disk}
use Rattle.bl_logstore.proofs.OtherLemmas.{others_same, others_then}
use Rattle.bl_shell.proofs.top.run.Given as given
use Rattle.bl_shell.proofs.top.run.Goals as goal

-- a word: nothing is done
pub returns-then-not-is_empty-clause-answers : goal.returns-then-not-is_empty-clause-answers
returns-then-not-is_empty-clause-answers g c = λ shown known. words_answer _

pub returns-then-not-is_empty-clause-survives : goal.returns-then-not-is_empty-clause-survives
returns-then-not-is_empty-clause-survives g c = λ shown known.
    let site = g.S.Site in
    let old = c.args.site.now in
    let cuts = untouched site.clock site.left_since site.told site.may_be old _ _ (λ cut. g.met.S.Site.only_now shown old cut) in
    record {
      any_moment = cuts;
      barrier = λ sure. unopened_behind site.clock site.left_since site.told site.may_be site.disk old (CutStands _ _ _) (λ other. g.met.S.Site.only shown old other sure) (g.met.S.Site.only_now shown old);
      past = λ past. absurd (words_are_not_past _ (site.disk old) _ _ _ _ refl refl refl (λ made. made.0) past);
      whole = λ past. absurd (words_are_not_past _ (site.disk old) _ _ _ _ refl refl refl (λ made. made) past);
      reads = reads_since site.clock site.left_since site.told site.may_be site.disk old old _ cuts (g.met.S.Site.reads shown old) (λ name file. g.met.S.Site.remnant shown old name file) (λ t cut. g.met.S.Site.counts_now shown old t cut);
      kept = λ is. absurd (cc is);
    }

pub returns-then-not-is_empty-clause-refuses : goal.returns-then-not-is_empty-clause-refuses
returns-then-not-is_empty-clause-refuses g c = λ shown. record {
  corrupt = λ is. absurd (cc is);
  damaged = λ name place damaged. inl refl;
  last_log = λ some. inl refl;
  others = others_same _ _ refl;
}

-- the script was read to its end
pub returns-in-Ok-clause-answers : goal.returns-in-Ok-clause-answers
returns-in-Ok-clause-answers g c = λ shown known. done_answers _ (c.in-Ok.ensures.serves shown known).done

pub returns-in-Ok-clause-refuses : goal.returns-in-Ok-clause-refuses
returns-in-Ok-clause-refuses g c = λ shown.
    let before = c.in-Ok.ensures.refuses shown in
    record {
      corrupt = λ is. absurd (cc is);
      damaged = λ name place damaged. absurd (cc (before.damaged name place damaged).0);
      last_log = λ some. absurd (cc (before.last_log some).0);
      others = before.others;
    }

done_past : (g : given.Over) (c : goal.In-Ok g) → g.S.Site.shows → g.R.Source.shows
    → FromSomeMoment g.S.Site.clock g.S.Site.left_since c.args.site.now c.run_on.new.site (CutStands (folder_of (g.S.Site.disk c.args.site.now)) (orders (g.R.Source.left c.args.script.now)) (g.S.Site.told c.args.site.now))
done_past g c shown known = elim (c.in-Ok.ensures.stands shown known).past [
  | inl unread ↦ absurd (cc unread.0)
  | inr from ↦ past_unended g.S.Site.clock g.S.Site.left_since g.S.Site.told g.S.Site.may_be c.args.site.now c.run_on.new.site _ _ from
]

pub returns-in-Ok-clause-survives : goal.returns-in-Ok-clause-survives
returns-in-Ok-clause-survives g c = λ shown known.
    let site = g.S.Site in
    let old = c.args.site.now in
    let new = c.run_on.new.site in
    let stands = c.in-Ok.ensures.stands shown known in
    let from = done_past g c shown known in
    record {
      any_moment = widened site.clock site.left_since old new _ _ (λ cut k. no_error_yet _ _ _ _ cut k) stands.any_moment;
      barrier = λ sure. unended_behind site.clock site.left_since site.told site.may_be old new _ _ (stands.barrier sure);
      past = λ past. from;
      whole = λ past. whole_disk (site.disk new) (site.told new) (λ name file. g.met.S.Site.remnant shown new name file)
          (λ cut is. (from.each cut (g.met.S.Site.counts_now shown new from.moment cut from.not_after (record { disk = site.disk new; possible = g.met.S.Site.reads shown new; is_cut = is }))).stands.whole);
      reads = reads_since site.clock site.left_since site.told site.may_be site.disk old new _ stands.any_moment (g.met.S.Site.reads shown new) (λ name file. g.met.S.Site.remnant shown new name file) (λ t cut. g.met.S.Site.counts_now shown new t cut);
      kept = λ is. stands.kept;
    }

-- a last line leaves the folder as it is
same_folder : (g : given.Over) (c : goal.After-end g) → g.S.Site.shows → folder_of (g.S.Site.disk c.run_on.new.site) ≡ folder_of (g.S.Site.disk c.end.new.site)
same_folder g c shown = sym (ap folder_of (c.end.ensures.stays shown))

damaged_at : (g : given.Over) (c : goal.After-end g) → g.S.Site.shows → (name : Name) (place : ℕ) → c.in-Err.stop ≡ stop.Corrupt name place
    → IsDamaged (folder_of (g.S.Site.disk c.args.site.now)) name place × (g.S.Site.told c.run_on.new.site ≡ g.S.Site.told c.args.site.now) × (folder_of (g.S.Site.disk c.end.new.site) ≡ folder_of (g.S.Site.disk c.args.site.now))
damaged_at g c shown name place is = let d = (c.in-Err.ensures.refuses shown).corrupt name place (ap Err is) in (d.0, d.1, sym (same_folder g c shown) ∙ d.2)

full_at : (g : given.Over) (c : goal.After-end g) → g.S.Site.shows → g.R.Source.shows → (limit : ℕ) → c.in-Err.stop ≡ stop.Full limit
    → (replies : List ℕ) × IsFull (folder_of (g.S.Site.disk c.args.site.now)) (folder_of (g.S.Site.disk c.end.new.site)) (g.R.Source.left c.args.script.now) replies limit
    × (g.S.Site.told c.run_on.new.site ≡ g.S.Site.told c.args.site.now ++ replies)
full_at g c shown known limit is =
    let f = (c.in-Err.ensures.serves shown known).full limit (ap Err is) in
    let P : Folder → Type 0 = λ after. IsFull (folder_of (g.S.Site.disk c.args.site.now)) after (g.R.Source.left c.args.script.now) f.replies limit in
    (f.replies, subst P (same_folder g c shown) f.full, f.told_is)

faltered_at : (g : given.Over) (c : goal.After-end g) → g.S.Site.shows → g.R.Source.shows → c.in-Err.stop ≡ stop.Tell
    → HasFaltered (folder_of (g.S.Site.disk c.args.site.now)) (folder_of (g.S.Site.disk c.end.new.site)) (g.R.Source.left c.args.script.now) (g.S.Site.told c.args.site.now) (g.S.Site.told c.run_on.new.site)
faltered_at g c shown known is =
    let P : Folder → Type 0 = λ after. HasFaltered (folder_of (g.S.Site.disk c.args.site.now)) after (g.R.Source.left c.args.script.now) (g.S.Site.told c.args.site.now) (g.S.Site.told c.run_on.new.site) in
    subst P (same_folder g c shown) ((c.in-Err.ensures.serves shown known).faltered (ap Err is))

pub returns-in-Err-clause-answers : goal.returns-in-Err-clause-answers
returns-in-Err-clause-answers g c = λ shown known.
    let site = g.S.Site in
    let old = c.args.site.now in
    let mid = c.run_on.new.site in
    let new = c.end.new.site in
    let folder = folder_of (site.disk old) in
    let after = folder_of (site.disk new) in
    let script = g.R.Source.left c.args.script.now in
    let serves = c.in-Err.ensures.serves shown known in
    record {
      done = λ is. absurd (not_done c.in-Err.stop c.end.result c.end.ensures.ends is);
      taken = λ brought.
          let s = stop_is_reading c.in-Err.stop c.end.result c.end.ensures.ends brought in
          let t = serves.taken s.0 in
          let P : g.row.S.Denot → Type 0 = λ at. HasTaken folder (folder_of (site.disk at)) t.taken (site.told old) (site.told at) in
          record {
            taken = t.taken;
            rest = t.rest;
            over = λ long. t.over (stop_is_long c.in-Err.stop c.end.result c.end.ensures.ends long);
            tells = subst P (sym (c.end.ensures.silent s.1).1) t.tells;
          };
      full = λ is.
          let s = stop_is_full c.in-Err.stop c.end.result c.end.ensures.ends is in
          let P : Folder → Type 0 = λ left. StopsRun (site.may_be old) folder left script (site.told old) (site.told mid) s.0 (LeavesOnly site.clock site.left_since old mid) in
          let f = subst P (same_folder g c shown) (serves.full s.0 (ap Err s.1)) in
          has_stopped c.end.result _ _ _ _ _ _ _ s.0 _ _ is f (c.end.ensures.full shown s.0 s.1)
          (ended site.clock site.left_since site.told site.may_be old mid new _ _ f.cuts (c.end.ensures.cuts shown) (λ t cut. g.met.S.Site.counts_now shown mid t cut));
      failed = λ short.
          ended_front folder after script (site.told old) (site.told mid) (site.told new) c.end.result c.in-Err.stop
          (λ silent. ap site.told (c.end.ensures.silent silent).1) serves.front
          (damaged_at g c shown) (c.end.ensures.corrupt shown) (full_at g c shown known) (c.end.ensures.full shown) short;
      untold = λ is.
          untold folder after script (site.told old) (site.told mid) (site.told new)
          c.end.result c.in-Err.stop is (λ silent. let e = c.end.ensures.silent silent in (e.0, ap site.told e.1)) (faltered_at g c shown known)
          (damaged_at g c shown) (c.end.ensures.corrupt shown) (full_at g c shown known) (c.end.ensures.full shown);
    }

cuts_at : (g : given.Over) (c : goal.After-end g) → g.S.Site.shows → g.R.Source.shows
    → LeavesOnly g.S.Site.clock g.S.Site.left_since c.args.site.now c.end.new.site (CutOfRun (g.S.Site.may_be c.args.site.now) (folder_of (g.S.Site.disk c.args.site.now)) (orders (g.R.Source.left c.args.script.now)) (g.S.Site.told c.args.site.now))
cuts_at g c shown known =
    let mid = c.run_on.new.site in
    ended g.S.Site.clock g.S.Site.left_since g.S.Site.told g.S.Site.may_be c.args.site.now mid c.end.new.site _ _ (c.in-Err.ensures.stands shown known).any_moment (c.end.ensures.cuts shown) (λ t cut. g.met.S.Site.counts_now shown mid t cut)

past_at : (g : given.Over) (c : goal.After-end g) → g.S.Site.shows → FromSomeMoment g.S.Site.clock g.S.Site.left_since c.args.site.now c.run_on.new.site
    (CutPast (folder_of (g.S.Site.disk c.args.site.now)) (orders (g.R.Source.left c.args.script.now)) (g.S.Site.told c.args.site.now))
    → FromSomeMoment g.S.Site.clock g.S.Site.left_since c.args.site.now c.end.new.site (CutStands (folder_of (g.S.Site.disk c.args.site.now)) (orders (g.R.Source.left c.args.script.now)) (g.S.Site.told c.args.site.now))
past_at g c shown from =
    let mid = c.run_on.new.site in
    past_ended g.S.Site.clock g.S.Site.left_since g.S.Site.told g.S.Site.may_be c.args.site.now mid c.end.new.site _ _ from (c.end.ensures.cuts shown) (λ t cut. g.met.S.Site.counts_now shown mid t cut)

pub returns-in-Err-clause-survives : goal.returns-in-Err-clause-survives
returns-in-Err-clause-survives g c = λ shown known.
    let site = g.S.Site in
    let old = c.args.site.now in
    let mid = c.run_on.new.site in
    let new = c.end.new.site in
    let folder = folder_of (site.disk old) in
    let stays = c.end.ensures.stays shown in
    let stands = c.in-Err.ensures.stands shown known in
    let Next : Disk → Type 0 = HasNextLog folder in
    record {
      any_moment = cuts_at g c shown known;
      barrier = λ sure. ended_behind site.clock site.left_since site.told site.may_be old mid new _ _ (stands.barrier sure) (c.end.ensures.cuts shown) (λ t cut. g.met.S.Site.counts_now shown mid t cut);
      past = λ past. elim stands.past [
        | inl unread ↦
            let made = only_made c.in-Err.stop c.end.result _ _ _ unread.1.0 c.end.ensures.ends unread.2 past in
            let next : HasNextLog folder (site.disk mid) = subst Next stays made.0 in
            elim unread.1.1 [
              | inl silent ↦ past_at g c shown (stands.made next (subst site.certain (c.end.ensures.silent silent).1 made.1))
              | inr unmade ↦ absurd (unmade next)
            ]
        | inr from ↦ past_at g c shown from
      ];
      whole = λ past.
          let here : AreWhole (site.disk mid) → AreWhole (site.disk new) = λ whole. subst AreWhole (sym stays) whole in
          elim stands.past [
            | inl unread ↦
                let made = only_made c.in-Err.stop c.end.result _ _ _ unread.1.0 c.end.ensures.ends unread.2 past in
                here (stands.whole (subst Next stays made))
            | inr from ↦
                here (whole_disk (site.disk mid) (site.told mid) (λ name file. g.met.S.Site.remnant shown mid name file)
                (λ cut is. (from.each cut (g.met.S.Site.counts_now shown mid from.moment cut from.not_after (record { disk = site.disk mid; possible = g.met.S.Site.reads shown mid; is_cut = is }))).2.whole))
          ];
      reads = reads_since site.clock site.left_since site.told site.may_be site.disk old new _ (cuts_at g c shown known) (g.met.S.Site.reads shown new) (λ name file. g.met.S.Site.remnant shown new name file) (λ t cut. g.met.S.Site.counts_now shown new t cut);
      kept = λ is. absurd (not_done c.in-Err.stop c.end.result c.end.ensures.ends is);
    }

pub returns-in-Err-clause-refuses : goal.returns-in-Err-clause-refuses
returns-in-Err-clause-refuses g c = λ shown.
    let before = c.in-Err.ensures.refuses shown in
    record {
      corrupt = λ is.
          let s = stop_is_corrupt c.in-Err.stop c.end.result c.end.ensures.ends is in
          let d = before.corrupt s.0 s.1.0 (ap Err s.1.1) in
          record {
            name = s.0;
            place = s.1.0;
            damaged = d.0;
            told_is = corrupt_told c.end.result s.0 s.1.0 _ _ _ is (c.end.ensures.corrupt shown s.0 s.1.0 s.1.1) d.1;
            same = ap folder_of (c.end.ensures.stays shown) ∙ d.2;
          };
      damaged = λ name place damaged. inr (refused c.in-Err.stop c.end.result (before.damaged name place damaged).1 c.end.ensures.ends);
      last_log = λ some. inr (at_the_limit c.in-Err.stop c.end.result (before.last_log some).1 c.end.ensures.ends);
      others = others_then _ _ _ before.others (others_same _ _ (c.end.ensures.stays shown));
    }
