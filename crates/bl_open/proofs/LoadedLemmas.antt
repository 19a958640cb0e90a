-- An opening that begins from what was loaded.
use Rattle.std.proofs.Common.{◌≡◌, ℕ, suc, ◌+◌, ◌≤◌, List, [], ◌∷◌, length, take, refl, sym, ◌∙◌, ap, subst, arith, None, Some, Ok}
use Rattle.std.specs.Prelude.{◌^◌, Result}
use Rattle.bl_site.specs.Disk.{Disk, Name}
use Rattle.bl_site.specs.Calls.{LeavesOnly}
use Rattle.bl_site.specs.declared.site.Site.{Ghosts}
use Rattle.bl_names.specs.declared.name.FileName.TheVariants.{Manifest, Table}
use Rattle.bl_names.specs.Names.{name_of}
use Rattle.bl_entry.specs.declared.key.Entry.{Entry}
use Rattle.bl_entry.specs.Revisions.{Map}
use Rattle.bl_edit.specs.Options.{Values}
use Rattle.bl_edit.specs.declared.edit.Edit.{Edit}
use Rattle.bl_build.specs.Listing.{Listing}
use Rattle.bl_build.specs.Restoring.{Restored}
use Rattle.bl_build.specs.Versions.{IsVersion, apply}
use Rattle.bl_build.specs.declared.error.BadVersion.{BadVersion}
use Rattle.bl_flush.specs.Flushing.{Flushes}
use Rattle.bl_folder.specs.Fronts.{last_after}
use Rattle.bl_folder.specs.Holding.{Holding}
use Rattle.bl_folder.specs.Flushes.{IsBelow}
use Rattle.bl_folder.specs.Settled.{IsSettled}
use Rattle.bl_wal.specs.LogFile.{log_name}
use Rattle.bl_open.proofs.FlushedFiles.{below_more, take_all}
use Rattle.bl_open.proofs.MomentLemmas.{IsSure, OnlyNow, all_before, none_found, rest_start}
use Rattle.bl_open.proofs.StartLemmas.{side_before, then_side, then_stands}
use Rattle.bl_open.specs.Barrier.{IsOnEitherSide}
use Rattle.bl_open.specs.Beginning.{HoldsLoaded, IsFoundIn, StartsFrom, first_file}
use Rattle.bl_open.specs.Flushing.{FlushedHaveTables, HasFlushed, JobEditsApply, KeepsOthers, OthersKeepRest, all_flushed}
use Rattle.bl_open.specs.Found.{AreAllBelow, Found, HasTables, IsLeftAs, IsSpareFor, RestsAs}
use Rattle.bl_open.specs.OpeningLaws.{CutsOfRestsAs, NewNumbersAreSpare, RestsAreRests, RestsAreSettled}
use Rattle.bl_open.specs.SteadyCalls.{IsAtRest}
use Rattle.bl_open.specs.SteadyCuts.{IsLeftFor, LeavesStanding}
use Rattle.bl_open.specs.Steady.{Maps}
use Rattle.bl_open.specs.declared.begin.Loaded.{Loaded}

-- the disk rests once the files of the flush are made
pub starts_rest : OthersKeepRest → (found : Found) (h : Holding) (m : Map) (l : Loaded) (old mid : Disk) → StartsFrom found h m l old → KeepsOthers (l.first + 2) old mid → (l.memory ≡ [] → mid ≡ old) → RestsAs found m mid
starts_rest others None h m l old mid s keeps idle = subst (RestsAs None m) (sym (idle s.found_in)) s.rests
starts_rest others (Some f) h m l old mid s keeps idle = others (l.first + 2) f.0 f.1 m old mid (below_more l.first (l.first + 2) f.1.version (omega arith) s.below.1) keeps s.rests

-- the new manifest is spare
pub manifest_spare : NewNumbersAreSpare → (from : ℕ) (found : Found) → AreAllBelow from found → IsSpareFor found (Manifest from)
manifest_spare law from None below = law from None (Manifest from) below tt
manifest_spare law from (Some f) below = law from (Some f) (Manifest from) below (omega arith)

ok_is : {A : Type 0} {x y : A} → ◌≡◌ {A = Result A BadVersion} (Ok x) (Ok y) → x ≡ y
ok_is e = cc e

module _ (tables : FlushedHaveTables) (applies : JobEditsApply) (h : Holding) (m : Map) (l : Loaded) (old mid : Disk) (e : Edit) (numbers next : ℕ) (v : Listing) (s : HoldsLoaded h m l old) (at : numbers ≡ l.first + 2)
    (some : 1 ≤ l.first) (most : next ≤ 10 ^ 15) (flushes : Flushes l.options numbers next [] l.memory mid e) (keeps : KeepsOthers numbers old mid) (applied : apply l.version e ≡ Ok v) (is : IsVersion v) where
  has_flushed : HasFlushed h.live.standing.options l.first numbers next l.memory old mid e
  has_flushed = record {
    flushes = subst (λ (o : Values). Flushes o numbers next [] l.memory mid e) (sym s.options_are) flushes;
    above = omega (arith, at);
    others = keeps;
  }

  pub after : Holding
  after = all_flushed h (l.first + 1) next has_flushed.flushes.files

  version_after : after.live.version ≡ v
  unfolding after
  version_after =
      ok_is (sym (applies h m l.memory l.first numbers next (l.first + 1) next old mid e some most s.loaded has_flushed) ∙ ap (λ (x : Listing). apply x e) s.version_is ∙ applied)

  last_after_all : last_after h.live.standing.last_sequence (take (length h.batches) h.batches) ≡ l.last
  last_after_all = ap (last_after h.live.standing.last_sequence) (take_all h.batches) ∙ sym s.loaded.whole.last ∙ s.last_is

  pub live_after : (log next_file : ℕ) → log ≡ l.first + 1 → next_file ≡ next → after.live ≡ record { version = v; standing = record { log_number = log; next_file = next_file; last_sequence = l.last; options = l.options } }
  unfolding after
  live_after log next_file at_log at_next =
      λ i. record { version = version_after i; standing = record { log_number = sym at_log i; next_file = sym at_next i; last_sequence = last_after_all i; options = s.options_are i } }

  pub tables_after : (maps : Maps) (log : ℕ) → maps 0 ≡ m → log ≡ l.first + 1 → HasTables maps log after mid
  unfolding after
  tables_after maps log at_first at_log =
      subst (λ n. HasTables maps n after mid) (sym at_log)
      (tables maps h m l.memory l.first numbers next (l.first + 1) next old mid e some most (omega arith) at_first s.loaded has_flushed (subst IsVersion (sym version_after) is))

-- ---- from call to call

some_entry : {A : Type 0} (xs : List A) (x : A) (ys : List A) → xs ≡ x ∷ ys → 1 ≤ length xs
some_entry xs x ys e = let same : length xs ≡ suc (length ys) = ap length e in omega (arith, same)

none_of : {A : Type 0} (xs : List A) (x : A) (ys : List A) → xs ≡ x ∷ ys → xs ≡ [] → ⊥
none_of xs x ys e none = cc (e, none)

module _ {D : Type 0} (g : Ghosts D) (found : Found) (h : Holding) (m : Map) (l : Loaded) (old : D) (s : StartsFrom found h m l (g.disk old)) (now : OnlyNow g old) where
  -- no call was made
  pub no_sides : (first : Name) → LeavesOnly g.clock g.left_since old old (IsOnEitherSide first (g.may_be old) (IsLeftAs found m) (g.told old))
  no_sides first = side_before g first (IsLeftAs found m) old old (all_before g first old old (none_found g old now))

  pub no_cuts : CutsOfRestsAs → IsSure g old → LeavesOnly g.clock g.left_since old old (LeavesStanding (IsLeftAs found m) (g.told old))
  no_cuts law sure = rest_start g (RestsAs found m) (IsLeftAs found m) (law found m) old now sure s.rests

  pub no_settled : RestsAreRests → RestsAreSettled → IsSettled (g.disk old)
  no_settled rests settled = settled m (g.disk old) (rests found m (g.disk old) s.rests)

  -- the flush
  module _ (others : OthersKeepRest) (cuts_law : CutsOfRestsAs) (mid : D) (numbers : ℕ) (at : numbers ≡ l.first + 2) (keeps : KeepsOthers numbers (g.disk old) (g.disk mid)) (idle : l.memory ≡ [] → mid ≡ old) where
    below_now : (f : ℕ × Restored) → AreAllBelow l.first (Some f) → IsBelow numbers f.1.version
    below_now f below = below_more l.first numbers f.1.version (omega (arith, at)) below.1

    pub rests_now : RestsAs found m (g.disk mid)
    rests_now = starts_rest others found h m l (g.disk old) (g.disk mid) s (subst (λ n. KeepsOthers n (g.disk old) (g.disk mid)) at keeps) (λ none. ap g.disk (idle none))

    pub settled_now : RestsAreRests → RestsAreSettled → IsSettled (g.disk mid)
    settled_now rests settled = settled m (g.disk mid) (rests found m (g.disk mid) rests_now)

    abbrev FlushSides : Type 0
    FlushSides = (manifest : ℕ) (live : Restored) (n : Map) → IsAtRest manifest live n (g.disk old) → IsBelow numbers live.version
        → LeavesOnly g.clock g.left_since old mid (IsOnEitherSide (name_of (Table numbers)) (g.may_be old) (IsLeftFor n) (g.told old))

    abbrev FlushCuts : Type 0
    FlushCuts = (manifest : ℕ) (live : Restored) (n : Map) → IsAtRest manifest live n (g.disk old) → IsBelow numbers live.version → LeavesOnly g.clock g.left_since old mid (LeavesStanding (IsLeftFor n) (g.told old))

    -- a memory that holds an entry was found in a folder that is not fresh
    of_found : (P : Found → Type 0) (f : Found) → IsFoundIn f h l.memory → RestsAs f m (g.disk old) → AreAllBelow l.first f → (l.memory ≡ [] → ⊥)
        → ((x : ℕ × Restored) → IsAtRest x.0 x.1 m (g.disk old) → AreAllBelow l.first (Some x) → P (Some x)) → P f
    of_found P None is rests below some to = absurd (some is)
    of_found P (Some x) is rests below some to = to x rests below

    pub flush_sides : FlushSides → LeavesOnly g.clock g.left_since old mid (IsOnEitherSide (first_file l.memory l.first) (g.may_be old) (IsLeftAs found m) (g.told old))
    flush_sides sides = by l.memory refl
      where
        by : (es : List Entry) → l.memory ≡ es → LeavesOnly g.clock g.left_since old mid (IsOnEitherSide (first_file es l.first) (g.may_be old) (IsLeftAs found m) (g.told old))
        by [] e = subst (λ d. LeavesOnly g.clock g.left_since old d (IsOnEitherSide (first_file [] l.first) (g.may_be old) (IsLeftAs found m) (g.told old))) (sym (idle e)) (no_sides (first_file [] l.first))
        by (x ∷ xs) e = of_found (λ f. LeavesOnly g.clock g.left_since old mid (IsOnEitherSide (first_file (x ∷ xs) l.first) (g.may_be old) (IsLeftAs f m) (g.told old)))
            found s.found_in s.rests s.below (none_of l.memory x xs e)
            (λ f rest below. subst (λ n. LeavesOnly g.clock g.left_since old mid (IsOnEitherSide (name_of (Table n)) (g.may_be old) (IsLeftFor m) (g.told old))) at (sides f.0 f.1 m rest (below_now f below)))

    pub flush_cuts : FlushCuts → IsSure g old → LeavesOnly g.clock g.left_since old mid (LeavesStanding (IsLeftAs found m) (g.told old))
    flush_cuts cuts sure = by l.memory refl
      where
        by : (es : List Entry) → l.memory ≡ es → LeavesOnly g.clock g.left_since old mid (LeavesStanding (IsLeftAs found m) (g.told old))
        by [] e = subst (λ d. LeavesOnly g.clock g.left_since old d (LeavesStanding (IsLeftAs found m) (g.told old))) (sym (idle e)) (no_cuts cuts_law sure)
        by (x ∷ xs) e = of_found (λ f. LeavesOnly g.clock g.left_since old mid (LeavesStanding (IsLeftAs f m) (g.told old)))
            found s.found_in s.rests s.below (none_of l.memory x xs e) (λ f rest below. cuts f.0 f.1 m rest (below_now f below))

    -- and then the log and what is installed
    module _ (new : D) (same : g.told mid ≡ g.told old) (passed : 1 ≤ length l.memory → g.certain mid) where
      pub store_sides : FlushSides → LeavesOnly g.clock g.left_since mid new (IsOnEitherSide (log_name (l.first + 1)) (g.may_be mid) (IsLeftAs found m) (g.told mid))
          → (g.certain mid → LeavesOnly g.clock g.left_since mid new (LeavesStanding (IsLeftAs found m) (g.told mid)))
          → LeavesOnly g.clock g.left_since old new (IsOnEitherSide (first_file l.memory l.first) (g.may_be old) (IsLeftAs found m) (g.told old))
      store_sides sides then_sides then_cuts = by l.memory refl
        where
          by : (es : List Entry) → l.memory ≡ es → LeavesOnly g.clock g.left_since old new (IsOnEitherSide (first_file es l.first) (g.may_be old) (IsLeftAs found m) (g.told old))
          by [] e = subst (λ d. LeavesOnly g.clock g.left_since d new (IsOnEitherSide (log_name (l.first + 1)) (g.may_be d) (IsLeftAs found m) (g.told d))) (idle e) then_sides
          by (x ∷ xs) e =
              then_side g (first_file (x ∷ xs) l.first) (IsLeftAs found m) old mid new same
              (subst (λ es. LeavesOnly g.clock g.left_since old mid (IsOnEitherSide (first_file es l.first) (g.may_be old) (IsLeftAs found m) (g.told old))) e (flush_sides sides))
              (then_cuts (passed (some_entry l.memory x xs e)))

      pub store_cuts : FlushCuts → IsSure g old → g.certain old → (g.certain mid → LeavesOnly g.clock g.left_since mid new (LeavesStanding (IsLeftAs found m) (g.told mid)))
          → LeavesOnly g.clock g.left_since old new (LeavesStanding (IsLeftAs found m) (g.told old))
      store_cuts cuts sure certain then_cuts = then_stands g (log_name (l.first + 1)) (IsLeftAs found m) old mid new same (flush_cuts cuts sure) (then_cuts certain_now)
        where
          certain_now : g.certain mid
          certain_now = by l.memory refl
            where
              by : (es : List Entry) → l.memory ≡ es → g.certain mid
              by [] e = subst g.certain (sym (idle e)) certain
              by (x ∷ xs) e = passed (some_entry l.memory x xs e)
