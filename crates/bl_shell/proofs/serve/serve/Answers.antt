use Rattle.std.proofs.Common.{◌≡◌, ℕ, ◌≤◌, List, [], ◌++◌, ◌∙◌, ap, sym, subst, refl, append_assoc, append-nil, arith, take, length, length-append, length-take, Err}
use Rattle.std.proofs.lemmas.Result.{err_from_is_err_and, on_ok_weaker, IfErr-weaker}
use Rattle.bl_shell.specs.declared.stop.Stop.TheVariants as stop
use Rattle.bl_shell.specs.Causes.{IsSilent}
use Rattle.bl_shell.specs.Telling.{HasRun, HasBegun, HasFaltered}
use Rattle.bl_shell.specs.Cuts.{IsKept, Stops}
use Rattle.bl_shell.specs.Machine.{orders}
use Rattle.bl_shell.specs.Synced.{CutOf}
use Rattle.bl_site.specs.Calls.{LeavesOnly}
use Rattle.bl_site.specs.Disk.{folder_of}
use Rattle.bl_shell.proofs.TellLemmas.{each_err}
use Rattle.bl_shell.proofs.CarriedLemmas.{starts, broken, taken, cut_at_start, cuts_so_far}
use Rattle.bl_shell.proofs.MomentLemmas.{still}
use Rattle.bl_logstore.proofs.OtherLemmas.{others_then}
use Rattle.bl_shell.proofs.serve.serve.Goals as goal

pub reads-init : goal.reads-init
reads-init g c = record {
  bound = omega arith;
  usable = c.requires.usable;
  took = omega arith;
  at_most = omega arith;
  faults = omega arith;
  disk = omega arith;
  tell = omega arith;
  others = λ shown name ne. refl;
  eaten = λ shown.
      let site = c.args.site.now in
      let sure = c.requires.certain shown in (
        [],
        (
          (λ began folder s. starts began folder _ _ _ _ _ s c.new-line.ensures (record {
            certain_now = sure;
            leaves = still g.S.Site.clock g.S.Site.left_since g.S.Site.disk g.S.Site.told g.S.Site.may_be site _ (λ other. g.met.S.Site.only shown site other sure) (λ cut. g.met.S.Site.only_now shown site cut)
                (λ cut is. cut_at_start c.cuts_stand.ensures c.batches_make_the_map.ensures began folder c.args.store.now _ _ cut s is);
          })),
          (λ known. refl),
          refl,
        ),
      );
}

pub feed-requires-clause-there : goal.feed-requires-clause-there
feed-requires-clause-there g c = λ shown.
    let e = c.reads.invariant.eaten shown in
    let t = c.requires.there shown in
    (t.0, (t.1.0, (g.S.Site.told c.args.site.now, (e.0, (c.args.site.now, e.1.0 t.0 t.1.0 t.1.1)))))

pub finish-requires-clause-there : goal.finish-requires-clause-there
finish-requires-clause-there g c = λ shown.
    let e = c.reads.invariant.eaten shown in
    let t = c.requires.there shown in
    (t.0, (t.1.0, (g.S.Site.told c.args.site.now, (e.0, (c.args.site.now, e.1.0 t.0 t.1.0 t.1.1)))))

pub returns-in_err-count-clause-front : goal.returns-in_err-count-clause-front
returns-in_err-count-clause-front g c = λ shown known. each_err c.from_residual.result _ (λ e silent began folder begins s.
    let i = c.reads.invariant.eaten shown in
    let P : List ℕ → Type 0 = λ x. HasBegun folder x (g.S.Site.told c.args.site.now) (g.S.Site.told c.reads.site) in
    subst P (i.1.1 known) (broken began folder (g.S.Site.told c.args.site.now) _ i.0 (g.R.Source.left c.reads.script) _ _ _ _ begins (i.1.0 began folder s)))

pub returns-in_err-count-clause-taken : goal.returns-in_err-count-clause-taken
returns-in_err-count-clause-taken g c =
    let p = err_from_is_err_and c.from_residual.result c.from_residual.ensures.1 in
    rw p.1 (λ shown known reading began folder begins s.
    let i = c.reads.invariant.eaten shown in (
      i.0,
      ap (λ x. i.0 ++ x) (c.in_err-count.ensures.stays known) ∙ i.1.1 known,
      (λ long. absurd (cc (long, p.2))),
      taken began folder (g.S.Site.told c.args.site.now) _ c.stores_stand.ensures c.batches_make_the_map.ensures i.0 _ _ _ _ begins (i.1.0 began folder s),
    ))

pub returns-then-count-eq0-clause-ok : goal.returns-then-count-eq0-clause-ok
returns-then-count-eq0-clause-ok g c = λ shown known. on_ok_weaker c.finish.result (λ ok began folder begins s.
    let i = c.reads.invariant.eaten shown in
    let none : g.R.Source.left c.reads.script ≡ [] = c.in_ok-count.ensures.end known (omega (arith, c.requires.some)) c.if-count-eq0.true in
    let all : i.0 ≡ g.R.Source.left c.args.script.now = sym (append-nil i.0) ∙ ap (λ x. i.0 ++ x) (sym none) ∙ i.1.1 known in
    let P : List ℕ → Type 0 = λ x. HasRun folder (folder_of (g.S.Site.disk c.finish.new.site)) x (g.S.Site.told c.args.site.now) (g.S.Site.told c.finish.new.site) in
    subst P all (ok began folder (g.S.Site.told c.args.site.now) i.0 c.args.site.now begins (i.1.0 began folder s)))
    (c.finish.ensures.ok shown)

pub returns-then-count-eq0-clause-front : goal.returns-then-count-eq0-clause-front
returns-then-count-eq0-clause-front g c = λ shown known. IfErr-weaker c.finish.result _ _ (λ e front silent began folder begins s.
    let i = c.reads.invariant.eaten shown in
    let none : g.R.Source.left c.reads.script ≡ [] = c.in_ok-count.ensures.end known (omega (arith, c.requires.some)) c.if-count-eq0.true in
    let all : i.0 ≡ g.R.Source.left c.args.script.now = sym (append-nil i.0) ∙ ap (λ x. i.0 ++ x) (sym none) ∙ i.1.1 known in
    let P : List ℕ → Type 0 = λ x. HasBegun folder x (g.S.Site.told c.args.site.now) (g.S.Site.told c.finish.new.site) in
    subst P all (front silent began folder (g.S.Site.told c.args.site.now) i.0 c.args.site.now begins (i.1.0 began folder s)))
    (c.finish.ensures.front shown)

pub returns-then-count-eq0-clause-full : goal.returns-then-count-eq0-clause-full
returns-then-count-eq0-clause-full g c = λ shown known limit is began folder begins s.
    let i = c.reads.invariant.eaten shown in
    let none : g.R.Source.left c.reads.script ≡ [] = c.in_ok-count.ensures.end known (omega (arith, c.requires.some)) c.if-count-eq0.true in
    let all : i.0 ≡ g.R.Source.left c.args.script.now = sym (append-nil i.0) ∙ ap (λ x. i.0 ++ x) (sym none) ∙ i.1.1 known in
    let f = c.finish.ensures.full shown limit is began folder (g.S.Site.told c.args.site.now) i.0 c.args.site.now begins (i.1.0 began folder s) in
    let P : List ℕ → Type 0 = λ x. Stops folder (folder_of (g.S.Site.disk c.finish.new.site)) x (g.S.Site.told c.args.site.now) (g.S.Site.told c.finish.new.site) limit (LeavesOnly g.S.Site.clock g.S.Site.left_since c.args.site.now c.finish.new.site) in
    subst P all f

pub returns-in_err-feed-clause-front : goal.returns-in_err-feed-clause-front
returns-in_err-feed-clause-front g c =
    let p = err_from_is_err_and c.from_residual-in_err-feed.result c.from_residual-in_err-feed.ensures.1 in
    let piece = take c.in_ok-count.count c.read.new.into in
    rw p.1 (λ shown known silent began folder begins s.
    let same : p.0 ≡ c.in_err-feed.field-0.0 = cc p.2 in
    let i = c.reads.invariant.eaten shown in
    let P : List ℕ → Type 0 = λ x. HasBegun folder x (g.S.Site.told c.args.site.now) (g.S.Site.told c.feed.new.site) in
    subst P (ap (λ x. i.0 ++ x) (sym (c.in_ok-count.ensures.bytes known)) ∙ i.1.1 known)
    (c.in_err-feed.ensures.front shown (subst IsSilent same silent) began folder (g.S.Site.told c.args.site.now) i.0 (g.R.Source.left c.read.new.self) c.args.site.now begins (i.1.0 began folder s)))

pub returns-in_err-feed-clause-full : goal.returns-in_err-feed-clause-full
returns-in_err-feed-clause-full g c = λ shown known limit is began folder begins s.
    let p = err_from_is_err_and c.from_residual-in_err-feed.result c.from_residual-in_err-feed.ensures.1 in
    let e : c.in_err-feed.field-0.0 ≡ stop.Full limit = cc (is, p.1, p.2) in
    let i = c.reads.invariant.eaten shown in
    let f = c.in_err-feed.ensures.full shown limit (ap Err e) began folder (g.S.Site.told c.args.site.now) i.0 (g.R.Source.left c.read.new.self) c.args.site.now begins (i.1.0 began folder s) in
    let P : List ℕ → Type 0 = λ x. Stops folder (folder_of (g.S.Site.disk c.feed.new.site)) x (g.S.Site.told c.args.site.now) (g.S.Site.told c.feed.new.site) limit (LeavesOnly g.S.Site.clock g.S.Site.left_since c.args.site.now c.feed.new.site) in
    subst P (ap (λ x. i.0 ++ x) (sym (c.in_ok-count.ensures.bytes known)) ∙ i.1.1 known) f

pub reads-preserved : goal.reads-preserved
reads-preserved g c =
    let piece = take c.in_ok-count.count c.read.new.into in
    let more : length piece ≤ c.in_ok-count.count = omega (arith, length-take c.in_ok-count.count c.read.new.into) in
    record {
      bound = omega (arith, c.in_ok-count.ensures.bound);
      usable = c.in_ok-feed.ensures.usable;
      took = omega (arith, c.in_ok-count.ensures.taken, c.reads.invariant.took);
      at_most = omega (arith, c.in_ok-count.ensures.taken, c.reads.invariant.at_most);
      faults = omega (arith, c.in_ok-count.ensures.later, c.reads.invariant.faults);
      disk = omega (arith, c.in_ok-feed.ensures.later.0, c.reads.invariant.disk);
      tell = omega (arith, c.in_ok-feed.ensures.later.1, c.reads.invariant.tell);
      others = λ shown. others_then _ _ _ (c.reads.invariant.others shown) (c.feed.ensures.others shown);
      eaten = λ shown.
          let i = c.reads.invariant.eaten shown in (
            i.0 ++ piece,
            (
              (λ began folder s. c.in_ok-feed.ensures.ok shown began folder (g.S.Site.told c.args.site.now) i.0 c.args.site.now (i.1.0 began folder s)),
              (λ known. append_assoc i.0 piece (g.R.Source.left c.read.new.self) ∙ ap (λ x. i.0 ++ x) (sym (c.in_ok-count.ensures.bytes known)) ∙ i.1.1 known),
              omega (arith, i.1.2, length-append i.0 piece, length-take c.in_ok-count.count c.read.new.into, c.in_ok-count.ensures.bound),
            ),
          );
    }

pub returns-clause-front : goal.returns-clause-front
returns-clause-front g c = λ shown known silent began folder begins s.
    let i = c.reads.invariant.eaten shown in
    let P : List ℕ → Type 0 = λ x. HasBegun folder x (g.S.Site.told c.args.site.now) (g.S.Site.told c.reads.site) in
    subst P (i.1.1 known) (broken began folder (g.S.Site.told c.args.site.now) _ i.0 (g.R.Source.left c.reads.script) _ _ _ _ begins (i.1.0 began folder s))

pub returns-clause-taken : goal.returns-clause-taken
returns-clause-taken g c = λ shown known reading began folder begins s.
    let i = c.reads.invariant.eaten shown in
    (i.0, i.1.1 known, (λ long. omega (arith, i.1.2, c.reads-test.false)), taken began folder (g.S.Site.told c.args.site.now) _ c.stores_stand.ensures c.batches_make_the_map.ensures i.0 _ _ _ _ begins (i.1.0 began folder s))

pub returns-in_err-count-clause-cuts : goal.returns-in_err-count-clause-cuts
returns-in_err-count-clause-cuts g c = λ shown known began folder s.
    let i = c.reads.invariant.eaten shown in
    let P : List ℕ → Type 0 = λ x. LeavesOnly g.S.Site.clock g.S.Site.left_since c.args.site.now c.reads.site (CutOf began (orders x) (g.S.Site.told c.args.site.now)) in
    subst P (i.1.1 known) (cuts_so_far g.S.Site.certain g.S.Site.clock g.S.Site.left_since began folder (g.S.Site.told c.args.site.now) i.0 _ _ _ _ c.args.site.now c.reads.site (i.1.0 began folder s) (g.R.Source.left c.reads.script))

pub returns-clause-cuts : goal.returns-clause-cuts
returns-clause-cuts g c = λ shown known began folder s.
    let i = c.reads.invariant.eaten shown in
    let P : List ℕ → Type 0 = λ x. LeavesOnly g.S.Site.clock g.S.Site.left_since c.args.site.now c.reads.site (CutOf began (orders x) (g.S.Site.told c.args.site.now)) in
    subst P (i.1.1 known) (cuts_so_far g.S.Site.certain g.S.Site.clock g.S.Site.left_since began folder (g.S.Site.told c.args.site.now) i.0 _ _ _ _ c.args.site.now c.reads.site (i.1.0 began folder s) (g.R.Source.left c.reads.script))

pub returns-then-count-eq0-clause-kept : goal.returns-then-count-eq0-clause-kept
returns-then-count-eq0-clause-kept g c = λ shown known. on_ok_weaker c.finish.result (λ ok began folder begins s.
    let i = c.reads.invariant.eaten shown in
    let none : g.R.Source.left c.reads.script ≡ [] = c.in_ok-count.ensures.end known (omega (arith, c.requires.some)) c.if-count-eq0.true in
    let all : i.0 ≡ g.R.Source.left c.args.script.now = sym (append-nil i.0) ∙ ap (λ x. i.0 ++ x) (sym none) ∙ i.1.1 known in
    let site = c.finish.new.site in
    let P : List ℕ → Type 0 = λ x. IsKept (g.S.Site.certain site) (g.S.Site.may_be site) (g.S.Site.disk site) (g.S.Site.told site) folder x in
    subst P all (ok began folder (g.S.Site.told c.args.site.now) i.0 c.args.site.now begins (i.1.0 began folder s)))
    (c.finish.ensures.kept shown)

pub returns-then-count-eq0-clause-cuts : goal.returns-then-count-eq0-clause-cuts
returns-then-count-eq0-clause-cuts g c = λ shown known began folder s.
    let i = c.reads.invariant.eaten shown in
    let none : g.R.Source.left c.reads.script ≡ [] = c.in_ok-count.ensures.end known (omega (arith, c.requires.some)) c.if-count-eq0.true in
    let all : i.0 ≡ g.R.Source.left c.args.script.now = sym (append-nil i.0) ∙ ap (λ x. i.0 ++ x) (sym none) ∙ i.1.1 known in
    let P : List ℕ → Type 0 = λ x. LeavesOnly g.S.Site.clock g.S.Site.left_since c.args.site.now c.finish.new.site (CutOf began (orders x) (g.S.Site.told c.args.site.now)) in
    subst P all (c.finish.ensures.cuts shown began folder (g.S.Site.told c.args.site.now) i.0 c.args.site.now (i.1.0 began folder s))

pub returns-in_err-feed-clause-cuts : goal.returns-in_err-feed-clause-cuts
returns-in_err-feed-clause-cuts g c = λ shown known began folder s.
    let i = c.reads.invariant.eaten shown in
    let P : List ℕ → Type 0 = λ x. LeavesOnly g.S.Site.clock g.S.Site.left_since c.args.site.now c.feed.new.site (CutOf began (orders x) (g.S.Site.told c.args.site.now)) in
    subst P (ap (λ x. i.0 ++ x) (sym (c.in_ok-count.ensures.bytes known)) ∙ i.1.1 known)
    (c.feed.ensures.cuts shown began folder (g.S.Site.told c.args.site.now) i.0 (g.R.Source.left c.read.new.self) c.args.site.now (i.1.0 began folder s))

pub returns-then-count-eq0-clause-others : goal.returns-then-count-eq0-clause-others
returns-then-count-eq0-clause-others g c = λ shown. others_then _ _ _ (c.reads.invariant.others shown) (c.finish.ensures.others shown)

pub returns-in_err-feed-clause-others : goal.returns-in_err-feed-clause-others
returns-in_err-feed-clause-others g c = λ shown. others_then _ _ _ (c.reads.invariant.others shown) (c.feed.ensures.others shown)

pub returns-then-count-eq0-clause-faltered : goal.returns-then-count-eq0-clause-faltered
returns-then-count-eq0-clause-faltered g c = λ shown known is began folder begins s.
    let i = c.reads.invariant.eaten shown in
    let none : g.R.Source.left c.reads.script ≡ [] = c.in_ok-count.ensures.end known (omega (arith, c.requires.some)) c.if-count-eq0.true in
    let all : i.0 ≡ g.R.Source.left c.args.script.now = sym (append-nil i.0) ∙ ap (λ x. i.0 ++ x) (sym none) ∙ i.1.1 known in
    let P : List ℕ → Type 0 = λ x. HasFaltered folder (folder_of (g.S.Site.disk c.finish.new.site)) x (g.S.Site.told c.args.site.now) (g.S.Site.told c.finish.new.site) in
    subst P all (c.finish.ensures.faltered shown is began folder (g.S.Site.told c.args.site.now) i.0 c.args.site.now begins (i.1.0 began folder s))

pub returns-in_err-feed-clause-faltered : goal.returns-in_err-feed-clause-faltered
returns-in_err-feed-clause-faltered g c = λ shown known is began folder begins s.
    let p = err_from_is_err_and c.from_residual-in_err-feed.result c.from_residual-in_err-feed.ensures.1 in
    let e : c.in_err-feed.field-0.0 ≡ stop.Tell = cc (is, p.1, p.2) in
    let i = c.reads.invariant.eaten shown in
    let P : List ℕ → Type 0 = λ x. HasFaltered folder (folder_of (g.S.Site.disk c.feed.new.site)) x (g.S.Site.told c.args.site.now) (g.S.Site.told c.feed.new.site) in
    subst P (ap (λ x. i.0 ++ x) (sym (c.in_ok-count.ensures.bytes known)) ∙ i.1.1 known)
    (c.in_err-feed.ensures.faltered shown (ap Err e) began folder (g.S.Site.told c.args.site.now) i.0 (g.R.Source.left c.read.new.self) c.args.site.now begins (i.1.0 began folder s))
