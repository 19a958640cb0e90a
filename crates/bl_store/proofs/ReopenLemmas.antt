-- A store whose folder is opened again.
use Rattle.std.proofs.Common.{◌≡◌, inl, inr, ℕ, zero, suc, ◌+◌, ◌≤◌, List, [], length, true, false, refl, sym, ◌∙◌, ap, subst, arith, Some, None, Result, Ok, Err}
use Rattle.std.specs.Prelude.{◌^◌, IfErr, IfOk, OnErr, OnOk}
use Rattle.bl_site.specs.Disk.{Disk as DiskSpec, Folder, Name, folder_of, written_of}
use Rattle.bl_site.specs.declared.site.Site.{Ghosts}
use Rattle.bl_site.proofs.Moments.{widened}
use Rattle.bl_names.specs.Names.{current_text}
use Rattle.bl_entry.specs.Revisions.{Map}
use Rattle.bl_build.specs.Restoring.{Restored}
use Rattle.bl_manifest.specs.ManifestFile.{ManifestFile}
use Rattle.bl_records.specs.Chance.{NoChanceMatch}
use Rattle.bl_wal.specs.LogFile.{LogFile}
use Rattle.bl_folder.specs.Fronts.{cut_to}
use Rattle.bl_folder.specs.Holding.{Holds}
use Rattle.bl_folder.specs.Laws.{BatchesAreOne, LiveIsOne}
use Rattle.bl_folder.specs.Logs.{HaveBatches}
use Rattle.bl_folder.specs.Settled.{IsSettled}
use Rattle.bl_folder.specs.Stands.{IsSound, IsSoundFolder, Stands, StandsLive}
use Rattle.bl_open.specs.Barrier.{FindsOrLeaves}
use Rattle.bl_open.specs.DamageLaws.{SoundAreNotRefused}
use Rattle.bl_open.specs.Found.{IsLeftStanding}
use Rattle.bl_open.specs.OpeningLaws.{OpeningsLeaveMaps}
use Rattle.bl_open.specs.Options.{check_options}
use Rattle.bl_open.specs.Recovering.{CutsAtBarrier, TakesOver}
use Rattle.bl_open.specs.Steady.{IsBacked, IsUsable, MakesMaps, Steady, accepted, durable}
use Rattle.bl_open.specs.SteadyCuts.{LeavesMap}
use Rattle.bl_open.specs.SteadyLaws.{SteadyAreSettled, SteadyHold, SteadyStand}
use Rattle.bl_open.specs.Synced.{as_synced}
use Rattle.bl_open.specs.declared.error.OpenErr.TheVariants as opening
use Rattle.bl_store.specs.Calls.{CutsOfCall, LeavesStore}
use Rattle.bl_store.specs.Causes.{IsOpening, of_opening}
use Rattle.bl_store.specs.Held.{Held, all_durable, begun_with, maps_of, now_of}
use Rattle.bl_store.specs.Opening.{AnswersAsRefused, AnswersOnly, IsBegun, KeepsFound, opened_of}
use Rattle.bl_store.specs.Reopening.{HandsOver, HasReopened, IsReopening, IsUnfailed, no_words}
use Rattle.bl_store.specs.Standing.{StandsFor}
use Rattle.bl_store.specs.Stored.{Stored}
use Rattle.bl_store.specs.declared.error.StoreErr.{StoreErr}
use Rattle.bl_store.specs.declared.error.StoreErr.TheVariants as store_err
use Rattle.bl_store.proofs.HeldLemmas.{leaves_within, maps_last}
use Rattle.bl_store.proofs.LogLemmas.{waits_alike}
use Rattle.bl_store.proofs.MomentLemmas.{settled_of}
use Rattle.bl_store.proofs.SyncedLemmas.{same_folder}

pub each_ok : {T E : Type 0} (r : Result T E) (P Q : T → Type 0) → ((x : T) → P x → Q x) → IfOk r P → IfOk r Q
each_ok (Ok x) P Q f p = f x p
each_ok (Err e) P Q f p = tt

pub each_and : {T E : Type 0} (r : Result T E) (P Q : T → Type 0) → IfOk r P → IfOk r Q → IfOk r (λ x. P x × Q x)
each_and (Ok x) P Q p q = (p, q)
each_and (Err e) P Q p q = tt

-- ---- what stood before

module _ (names : List Name) (held : Held) (store : Stored) (disk : DiskSpec) (u : IsUnfailed store) (t : StandsFor names held store disk) where
  pub usable : IsUsable t.steady
  usable = record { log = ap (λ (l : LogFile). l.failed) t.carries.log ∙ u.log; manifest = ap (λ (m : ManifestFile). m.failed) t.carries.manifest ∙ u.manifest }

  -- the folder stands for the map after all writes
  pub stands_live : SteadyStand → StandsLive (folder_of disk) (maps_of held (accepted t.steady))
  stands_live law = subst (λ (f : Folder). StandsLive f (maps_of held (accepted t.steady))) (same_folder names disk) (law (maps_of held) t.steady (as_synced names disk) t.is_steady usable)

  pub all_held : maps_of held (accepted t.steady) ≡ now_of held
  all_held = ap (maps_of held) t.writes ∙ maps_last held

  pub stands_now : SteadyStand → Stands (folder_of disk) (now_of held)
  stands_now law = subst (λ (m : Map). Stands (folder_of disk) m) all_held (inr (stands_live law))

  pub holds_so : SteadyHold → Holds (folder_of disk) t.steady.manifest.number t.steady.holding
  holds_so law = subst (λ (f : Folder). Holds f t.steady.manifest.number t.steady.holding) (same_folder names disk) (law (maps_of held) t.steady (as_synced names disk) t.is_steady usable)

  -- what was taken over has the options and the last sequence that the store had
  pub reopened : LiveIsOne → BatchesAreOne → SteadyHold → (new : Stored) → IsBegun new → TakesOver (folder_of disk) no_words (opened_of new) → HasReopened store new
  reopened one batches law new begun (inl fresh) = let h = holds_so law in absurd (let e : Some (current_text t.steady.manifest.number) ≡ None = sym h.live.current ∙ fresh.fresh.current in cc e)
  reopened one batches law new begun (inr l) =
      let h = holds_so law in
      let same : l.live ≡ t.steady.holding.live = (one (folder_of disk) l.manifest t.steady.manifest.number l.live t.steady.holding.live l.is_live h.live).1 in
      let have : HaveBatches (folder_of disk) t.steady.holding.live.standing.log_number t.steady.holding.live.standing.last_sequence l.batches new.standing.last_sequence =
      subst (λ (r : Restored). HaveBatches (folder_of disk) r.standing.log_number r.standing.last_sequence l.batches new.standing.last_sequence) same l.have in
      record {
        options = l.options_are ∙ ap (λ (r : Restored). r.standing.options) (same ∙ t.carries.live);
        last =
            begun.last
            ∙ (batches (folder_of disk) t.steady.holding.live.standing.log_number t.steady.holding.live.standing.last_sequence l.batches t.steady.holding.batches new.standing.last_sequence t.steady.holding.last have h.batches).1
            ∙ t.carries.last;
      }

-- ---- what stands behind it

-- nothing was written yet
one_map : (m : Map) (n : ℕ) → maps_of (begun_with m) n ≡ m
one_map m zero = refl
one_map m (suc n) = refl

-- a store that begins with the map after all writes holds them all
module _ (names : List Name) (held : Held) (m : Map) (store : Stored) (disk : DiskSpec) (is : m ≡ now_of held) (t : StandsFor names (begun_with m) store disk) where
  abbrev now : Steady
  now = record t.steady { before = length held.writes }

  none_yet : accepted t.steady ≡ 0
  none_yet = t.writes

  same_map : (n count : ℕ) → count ≤ length t.steady.holding.batches → maps_of (begun_with m) n ≡ maps_of held (length held.writes + count)
  same_map n count le =
      let none = none_yet in
      let zero : length held.writes ≡ length held.writes + count = omega (arith, none, le) in
      one_map m n ∙ is ∙ sym (maps_last held) ∙ ap (maps_of held) zero

  makes : MakesMaps (maps_of held) (length held.writes) t.steady.holding
  makes count le =
      let made = t.is_steady.backed.makes count le in
      (made.0, subst (IsSound (cut_to count t.steady.holding) made.0) (same_map (t.steady.before + count) count le) made.1)

  backed : IsBacked (maps_of held) now (as_synced names disk)
  backed = let b = t.is_steady.backed in record {
    files = b.files;
    batches = b.batches;
    is_number = b.is_number;
    needed = b.needed;
    in_use = b.in_use;
    count = b.count;
    others = b.others;
    last = b.last;
    makes = makes;
  }

  pub holds_all : StandsFor names (all_durable held) store disk
  holds_all =
      let s = t.is_steady in
      let c = t.carries in
      let none = none_yet in
      record {
        steady = now;
        is_steady = record { number = s.number; current = s.current; current_synced = s.current_synced; edits = s.edits; restores = s.restores; backed = backed };
        carries = record {
          live = c.live;
          manifest = c.manifest;
          log = c.log;
          last = c.last;
          waiting = waits_alike t.steady now store.waiting refl refl refl c.waiting;
          memory = c.memory;
          fit = c.fit;
          ahead = c.ahead;
        };
        writes = omega (arith, none);
        durable = omega arith;
        found = t.found;
      }

-- ---- a cut meanwhile

pub reopened_cuts : {S : Type 0} (g : Ghosts S) → SteadyAreSettled → SteadyStand → OpeningsLeaveMaps → (held : Held) (store : Stored) (old new : S) → IsUnfailed store → StandsFor [] held store (g.disk old) → g.certain old
    → (IsSettled (g.disk old) → (m : Map) → Stands (folder_of (g.disk old)) m → CutsAtBarrier g (IsLeftStanding (folder_of (g.disk old)) m) old new) → CutsOfCall g held (all_durable held) old new
reopened_cuts g settles stand law held store old new u t sure cuts =
    let s = t.steady in
    let m : Map = maps_of held (accepted s) in
    let writes = t.writes in
    let b = cuts (settled_of settles held store (g.disk old) t u.manifest) m (inr (stands_live [] held store (g.disk old) u t stand)) in
    widened g.clock g.left_since old new (FindsOrLeaves (g.disk old) (IsLeftStanding (folder_of (g.disk old)) m) (g.told old)) (LeavesMap (maps_of held) held.durable (length held.writes) (g.told old))
    (λ c or.
    leaves_within (maps_of held) (durable s) held.durable (accepted s) (length held.writes) (g.told old) c t.durable (omega (arith, writes))
    (law (maps_of held) s (g.disk old) (g.told old) c t.is_steady (usable [] held store (g.disk old) u t) or)) (b.finds sure)

-- ---- what is answered

none_differs : (folder : Folder) (option stored asked : ℕ) → Rattle.bl_open.specs.Recovering.IsRefused folder no_words (opening.Differ option stored asked) → ⊥
unfolding check_options
none_differs folder option stored asked refused = let e = refused.1.2 in cc e

module _ {T : Type 0} (folder : Folder) (result : Result T StoreErr) (a : AnswersAsRefused folder no_words result) where
  pub sound_not_corrupt : SoundAreNotRefused → IsSoundFolder folder → (name : Name) (place : ℕ) → result ≡ Err (store_err.Corrupt name place) → ⊥
  sound_not_corrupt law sound name place is = law folder no_words name place sound (a.only (opening.Corrupt name place) is tt)

  of_opened : (e : StoreErr) → result ≡ Err e → ((n : ℕ) → result ≡ Err (store_err.Full n) → n ≡ 10 ^ 15) → IsOpening e → IsReopening e
  of_opened e is full (opening.Disk, same) = inl same
  of_opened e is full (opening.OutOfMemory, same) = inr (inl same)
  of_opened e is full (opening.Full n, same) = inr (inr (inl (same ∙ ap store_err.Full (full n (is ∙ ap Err same)))))
  of_opened e is full (opening.Corrupt name place, same) = inr (inr (inr (name, (place, same))))
  of_opened e is full (opening.Differ option stored asked, same) = absurd (none_differs folder option stored asked (a.only (opening.Differ option stored asked) (is ∙ ap Err same) tt))

  pub causes_of : ((n : ℕ) → result ≡ Err (store_err.Full n) → n ≡ 10 ^ 15) → IfErr result IsOpening → IfErr result IsReopening
  causes_of full causes = by result refl causes
    where
      by : (r : Result T StoreErr) → result ≡ r → IfErr r IsOpening → IfErr r IsReopening
      by (Ok x) is kinds = tt
      by (Err e) is kinds = of_opened e is full kinds

-- ---- what is handed over

module _ (old new : Stored) where
  pub ok_over : (opened : Result Stored StoreErr) (result : Result (Unit {0}) StoreErr) (P : Stored → Type 0) → HandsOver opened result old new → IfOk opened P → OnOk result (P new)
  ok_over (Ok s) result P h p = subst (λ (r : Result (Unit {0}) StoreErr). OnOk r (P new)) (sym h.0) (subst P (sym h.1) p)
  ok_over (Err e) result P h p = subst (λ (r : Result (Unit {0}) StoreErr). OnOk r (P new)) (sym h.0) tt

  pub on_over : (opened : Result Stored StoreErr) (result : Result (Unit {0}) StoreErr) (P : Type 0) → HandsOver opened result old new → OnOk opened P → OnOk result P
  on_over (Ok s) result P h p = subst (λ (r : Result (Unit {0}) StoreErr). OnOk r P) (sym h.0) p
  on_over (Err e) result P h p = subst (λ (r : Result (Unit {0}) StoreErr). OnOk r P) (sym h.0) tt

  pub broken_over : (opened : Result Stored StoreErr) (result : Result (Unit {0}) StoreErr) → HandsOver opened result old new → OnErr result (new ≡ record old { broken = true })
  broken_over (Ok s) result h = subst (λ (r : Result (Unit {0}) StoreErr). OnErr r (new ≡ record old { broken = true })) (sym h.0) tt
  broken_over (Err e) result h = subst (λ (r : Result (Unit {0}) StoreErr). OnErr r (new ≡ record old { broken = true })) (sym h.0) h.1

  pub if_err_over : (opened : Result Stored StoreErr) (result : Result (Unit {0}) StoreErr) (P : StoreErr → Type 0) → HandsOver opened result old new → IfErr opened P → IfErr result P
  if_err_over (Ok s) result P h p = subst (λ (r : Result (Unit {0}) StoreErr). IfErr r P) (sym h.0) tt
  if_err_over (Err e) result P h p = subst (λ (r : Result (Unit {0}) StoreErr). IfErr r P) (sym h.0) p

  -- a failure is that of the opening
  pub err_of : (opened : Result Stored StoreErr) (result : Result (Unit {0}) StoreErr) (e : StoreErr) → HandsOver opened result old new → result ≡ Err e → opened ≡ Err e
  err_of (Ok s) result e h is = absurd (let wrong = sym h.0 ∙ is in cc wrong)
  err_of (Err f) result e h is = let same : f ≡ e = let both = sym h.0 ∙ is in cc both in ap Err same

  pub answers_over : (opened : Result Stored StoreErr) (result : Result (Unit {0}) StoreErr) (folder : Folder) → HandsOver opened result old new → AnswersAsRefused folder no_words opened → AnswersAsRefused folder no_words result
  answers_over opened result folder h a = record {
    only = λ e is refusal. a.only e (err_of opened result (of_opening e) h is) refusal;
    due = λ e refused. by (of_opening e) opened h (a.due e refused);
  }
    where
      by : (e : StoreErr) (o : Result Stored StoreErr) → HandsOver o result old new → AnswersOnly e o → AnswersOnly e result
      by e (Ok s) over due = absurd due
      by e (Err f) over due = subst (λ (r : Result (Unit {0}) StoreErr). AnswersOnly e r) (sym over.0) due

  pub keeps_over : (opened : Result Stored StoreErr) (result : Result (Unit {0}) StoreErr) (disk after : DiskSpec) → HandsOver opened result old new → KeepsFound opened disk after → KeepsFound result disk after
  keeps_over opened result disk after h k = record { files = k.files; reads = on_over opened result _ h k.reads }

  -- what a store leaves that stood
  pub leaves_over : (opened : Result Stored StoreErr) (result : Result (Unit {0}) StoreErr) (held : Held) (disk : DiskSpec) → HandsOver opened result old new → IfOk opened (λ s. StandsFor [] (all_durable held) s disk)
      → (NoChanceMatch (folder_of disk) (written_of disk) → IsSettled disk) → LeavesStore [] held (all_durable held) result new disk
  leaves_over opened result held disk h ok settled = record {
    ok = ok_over opened result (λ s. StandsFor [] (all_durable held) s disk) h ok;
    err = by result (broken_over opened result h);
    settled = λ none. settled;
  }
    where
      by : (r : Result (Unit {0}) StoreErr) → OnErr r (new ≡ record old { broken = true }) → OnErr r (new.broken ≡ false → StandsFor [] held new disk)
      by (Ok x) broken = tt
      by (Err e) broken = λ usable. absurd (let is : true ≡ false = sym (ap (λ (s : Stored). s.broken) broken) ∙ usable in cc is)
