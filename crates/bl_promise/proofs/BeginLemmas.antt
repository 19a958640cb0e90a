-- How a run begins.
use Rattle.std.proofs.Common.{◌≡◌, ◌⊎◌, inl, inr, ⊎_elim, ℕ, List, [], length, None, Some, refl, sym, ◌∙◌, ap, subst, arith, append-nil}
use Rattle.std.specs.Prelude.{Option, IsSome}
use Rattle.bl_site.specs.Disk.{IsImage, File, IsLeft as IsLeftFile, Cut, Disk, Folder, Name, MayLeave, folder_of}
use Rattle.bl_site.specs.Calls.{LeavesOnly}
use Rattle.bl_site.specs.declared.site.Site.{Ghosts}
use Rattle.bl_site.proofs.Moments.{cut_of_only, widened}
use Rattle.bl_entry.specs.Revisions.{Map}
use Rattle.bl_build.specs.Restoring.{Restored}
use Rattle.bl_folder.specs.Laws.{BatchesAreOne, LiveIsOne}
use Rattle.bl_folder.specs.Live.{IsFresh, IsLive}
use Rattle.bl_folder.specs.Logs.{HaveBatches}
use Rattle.bl_folder.specs.Settled.{IsSettled}
use Rattle.bl_folder.specs.Stands.{Stands, StandsLive}
use Rattle.bl_open.specs.Barrier.{BeforeBarrier, FindsOrLeaves, IsNewFile, IsOnEitherSide, LeavesFound}
use Rattle.bl_open.specs.Found.{IsLeftStanding}
use Rattle.bl_open.specs.Options.{Words, defaults, given_or}
use Rattle.bl_open.specs.Recovering.{CutsAtBarrier, TakesFresh, TakesLive, TakesOver}
use Rattle.bl_open.specs.SteadyCuts.{LeavesMap, LeavesStanding}
use Rattle.bl_open.specs.SteadyLaws.{CutsOfSteady}
use Rattle.bl_machine.specs.State.{start}
use Rattle.bl_machine.specs.History.{written_by}
use Rattle.bl_machine.specs.Writes.{operations_in}
use Rattle.bl_machine.proofs.HistoryLemmas.{after_none}
use Rattle.bl_machine.proofs.SyncedLemmas.{no_syncs, synced_all}
use Rattle.bl_store.specs.Opening.{opened_of}
use Rattle.bl_store.specs.Stored.{Stored}
use Rattle.bl_store.specs.Held.{begun_with, maps_of}
use Rattle.bl_promise.specs.Start.{Start, StartsFresh, StartsLive}
use Rattle.bl_promise.specs.Cuts.{CutFound, CutOf, FindsNewFile, IsLeft, StandsAfter}
use Rattle.bl_promise.specs.Carried.{IsWrittenBy}
use Rattle.bl_promise.specs.Lines.{BegunCarry, StoresAreInOrder}
use Rattle.bl_promise.specs.Serving.{IsCutOf}
use Rattle.bl_promise.specs.ServingLaws.{OpeningsBegin}
use Rattle.bl_promise.proofs.CutLemmas.{cut_between}
use Rattle.bl_promise.proofs.ServeLemmas.{none_in, steady_cut}

-- ---- where it begins

abbrev began_of : Map → ℕ → Stored → Start
began_of m entries store = record { options = store.standing.options; now = m; last = store.last; entries = entries; listing = store.version }

-- a fresh folder has no live part
fresh_not_live : (folder : Folder) (m : Map) → IsFresh folder → StandsLive folder m → ⊥
fresh_not_live folder m fresh s = let is = s.holds.live.current in cc (fresh.current, is)

starts_fresh : (folder : Folder) (words : Words) (m : Map) (store : Stored) → store.last ≡ store.standing.last_sequence → Stands folder m
    → TakesFresh folder (given_or defaults words) (opened_of store) → StartsFresh folder words (began_of m 0 store)
starts_fresh folder words m store last stands t = record {
  fresh = t.fresh;
  options_are = t.options_are;
  now_is = ⊎_elim (λ fresh. fresh.1) (λ live. absurd (fresh_not_live folder m t.fresh live)) stands;
  last_is = last ∙ t.last;
  entries_are = refl;
  listing_is = t.version_is;
}

record StartsOn (folder : Folder) (words : Words) (m : Map) (store : Stored) : Type 0 where
  pub entries : ℕ
  pub on : StartsFresh folder words (began_of m entries store) ⊎ StartsLive folder (began_of m entries store)

starts_live : LiveIsOne → BatchesAreOne → (folder : Folder) (m : Map) (store : Stored) → store.last ≡ store.standing.last_sequence → (s : StandsLive folder m) → TakesLive folder (opened_of store)
    → StartsLive folder (began_of m (length s.found) store)
starts_live one batches folder m store last s t =
    let same : t.live ≡ s.holding.live = (one folder t.manifest s.manifest t.live s.holding.live t.is_live s.holds.live).1 in
    let have : HaveBatches folder s.holding.live.standing.log_number s.holding.live.standing.last_sequence t.batches store.standing.last_sequence =
    subst (λ (r : Restored). HaveBatches folder r.standing.log_number r.standing.last_sequence t.batches store.standing.last_sequence) same t.have in
    record {
      stands = s;
      options_are = t.options_are ∙ ap (λ (r : Restored). r.standing.options) same;
      last_is = last ∙ (batches folder s.holding.live.standing.log_number s.holding.live.standing.last_sequence t.batches s.holding.batches store.standing.last_sequence s.holding.last have s.holds.batches).1;
      entries_are = refl;
    }

no_fresh_live : (folder : Folder) (manifest : ℕ) (live : Restored) → IsFresh folder → IsLive folder manifest live → ⊥
no_fresh_live folder manifest live fresh is = let current = is.current in cc (fresh.current, current)

starts_on : LiveIsOne → BatchesAreOne → (folder : Folder) (words : Words) (m : Map) (store : Stored) → store.last ≡ store.standing.last_sequence → Stands folder m → TakesOver folder words (opened_of store) → StartsOn folder words m store
starts_on one batches folder words m store last stands (inl fresh) = record { entries = 0; on = inl (starts_fresh folder words m store last stands fresh) }
starts_on one batches folder words m store last (inl was) (inr live) = absurd (no_fresh_live folder live.manifest live.live was.0 live.is_live)
starts_on one batches folder words m store last (inr s) (inr live) = record { entries = length s.found; on = inr (starts_live one batches folder m store last s live) }

-- ---- what its cuts leave

none_written : operations_in (written_by []) ≡ 0
none_written = none_in

-- the map, before any line
left_first : (c : Cut) (began : Start) → IsLeft began.now c → StandsAfter c began [] 0
left_first c began left = record {
  writes = 0;
  at_least = omega (arith, synced_all [], no_syncs);
  at_most = omega arith;
  left = subst (λ (m : Map). IsLeft m c) (sym (after_none began.now)) left;
}

is_left : (folder : Folder) (m : Map) (c : Cut) → IsLeftStanding folder m c → IsLeft m c
is_left folder m c (inl fresh) = inl (fresh.1, fresh.2)
is_left folder m c (inr left) = inr left

cut_standing : (folder : Folder) (began : Start) (told : List ℕ) (c : Cut) → LeavesStanding (IsLeftStanding folder began.now) told c → CutOf began [] told c
cut_standing folder began told c l = record {
  replies = [];
  more = [];
  replies_are = refl;
  told_is = l.told_is ∙ sym (append-nil told);
  stands = λ chance. left_first c began (is_left folder began.now c l.left);
}

-- no new file is found among those of the disk
none_new : (disk : Disk) (folder : Folder) → IsImage disk folder → FindsNewFile disk folder → ⊥
none_new disk folder image finds = none (disk finds.0) (folder finds.0) finds.1.0 finds.1.1 (image finds.0)
  where
    none : (x : Option File) (y : Option (List ℕ)) → x ≡ None → IsSome y → IsLeftFile x y → ⊥
    none None None is some left = cc some
    none None (Some bytes) is some left = left
    none (Some x) y is some left = cc is

module _ {S : Type 0} (g : Ghosts S) where
  found_cut : (old : S) (c : Cut) → LeavesFound (g.may_be old) (g.told old) c → CutFound (folder_of (g.disk old)) (g.may_be old) (g.told old) c
  found_cut old c l = record { told_is = l.told_is; found = c.folder; was = l.was; perhaps = inl refl }

  before_cut : (old : S) (first : Name) (c : Cut) → IsNewFile (folder_of (g.disk old)) first → BeforeBarrier first (g.may_be old) (g.told old) c → CutFound (folder_of (g.disk old)) (g.may_be old) (g.told old) c
  before_cut old first c is_new b = record { told_is = b.told_is; found = b.found; was = b.was; perhaps = ⊎_elim (λ same. inl same) (λ has. inr (first, (is_new, has))) b.perhaps }

  abbrev pub Stood : Map → S → Cut → Type 0
  Stood m old = IsLeftStanding (folder_of (g.disk old)) m

  pub opening_behind : (began : Start) (old now : S) → CutsAtBarrier g (Stood began.now old) old now → g.certain old → LeavesOnly g.clock g.left_since old now (λ c. FindsNewFile (g.disk old) c.folder → CutOf began [] (g.told old) c)
  opening_behind began old now k certain =
      widened g.clock g.left_since old now (FindsOrLeaves (g.disk old) (Stood began.now old) (g.told old)) (λ c. FindsNewFile (g.disk old) c.folder → CutOf began [] (g.told old) c)
      (λ c side finds. ⊎_elim (λ files. absurd (none_new (g.disk old) c.folder files.image finds)) (λ behind. cut_standing (folder_of (g.disk old)) began (g.told old) c behind) side) (k.finds certain)

  pub opening_cuts : (began : Start) (old now : S) → CutsAtBarrier g (Stood began.now old) old now → LeavesOnly g.clock g.left_since old now (IsCutOf g began [] old)
  opening_cuts began old now k =
      ⊎_elim
      (λ is_new. widened g.clock g.left_since old now (IsOnEitherSide k.first (g.may_be old) (Stood began.now old) (g.told old)) (IsCutOf g began [] old)
      (λ c side. ⊎_elim (λ before. inl (before_cut old k.first c is_new before)) (λ behind. inr (cut_standing (folder_of (g.disk old)) began (g.told old) c behind)) side) k.sides)
      (λ found. widened g.clock g.left_since old now (LeavesFound (g.may_be old) (g.told old)) (IsCutOf g began [] old) (λ c l. inl (found_cut old c l)) found)
      k.is_new

  pub openings_begin : LiveIsOne → BatchesAreOne → CutsOfSteady → StoresAreInOrder → BegunCarry → ((site : S) → g.shows → g.certain site → (other : Disk) → g.may_be site other → other ≡ g.disk site)
      → ((site : S) → g.shows → (c : Cut) → g.left_since site (g.clock site) c → MayLeave (g.may_be site) (g.told site) c) → OpeningsBegin g
  openings_begin one batches law order carry only now_only shown words m store old now stands o =
      let b = o.begun in
      let on = starts_on one batches (folder_of (g.disk old)) words m store (b.last) stands o.takes in
      let began = began_of m on.entries store in
      let wrote : IsWrittenBy began [] (begun_with m) [] = record { before = sym (after_none m); writes = refl; durable = omega (arith, no_syncs) } in
      record {
        began = began;
        begins = record { on = on.on; in_order = order o.begins.0 (begun_with m) store (g.disk now) o.begins.1 };
        served = record {
          history = [];
          last = start m store.version;
          is_history = record { orders_are = refl; runs = refl };
          told_is = o.told ∙ sym (append-nil (g.told old));
          carried = record {
            names = o.begins.0;
            stored = record { earlier = []; held = begun_with m; wrote = wrote; carries = carry o.begins.0 m store (g.disk now) b o.begins.1 };
            settled = λ settled. record { earlier = []; held = begun_with m; wrote = wrote; carries = carry [] m store (g.disk now) b (o.stands settled) };
            certain = o.certain;
            last_is = omega (arith, none_written);
            fits = omega (arith, o.fits, none_written);
          };
          cuts = λ settled. record {
            each = opening_cuts began old now (o.cuts settled);
            behind = opening_behind began old now (o.cuts settled);
            late = record {
              moment = g.clock now;
              not_before = (opening_cuts began old now (o.cuts settled)).later;
              not_after = omega arith;
              each = λ c left. late_cut began wrote settled c left;
            };
          };
        };
      }
    where
      late_cut : (began : Start) → IsWrittenBy began [] (begun_with m) [] → IsSettled (g.disk old) → (c : Cut) → g.left_since now (g.clock now) c → CutOf began [] (g.told old) c
      late_cut began wrote settled c left =
          let is_cut = cut_of_only (g.may_be now) (g.disk now) (g.told now) c (only now shown o.certain) (now_only now shown c left) in
          let l = steady_cut g law (begun_with m) store (g.disk now) (g.told now) c (o.stands settled) is_cut in
          cut_between began [] [] (begun_with m) (g.told old) c wrote
          (subst (λ (x : List ℕ). LeavesMap (maps_of (begun_with m)) 0 0 x c) (o.told ∙ sym (append-nil (g.told old))) l)
