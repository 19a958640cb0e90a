-- What a cut leaves of a steady disk while files are made that are not needed.
use Rattle.std.proofs.Common.{◌≡◌, ◌⊎◌, inl, inr, ℕ, ◌≤◌, List, sym, ◌∙◌, ap, subst, arith}
use Rattle.std.specs.Prelude.{◌^◌}
use Rattle.bl_site.specs.Disk.{Cut, Disk, Folder}
use Rattle.bl_names.specs.declared.name.FileName.TheVariants.{Log, Manifest}
use Rattle.bl_names.specs.Names.{IsNumber, NamesOne, name_of}
use Rattle.bl_entry.specs.Revisions.{Map}
use Rattle.bl_build.specs.Restoring.{Restored}
use Rattle.bl_records.specs.Chance.{NoChanceMatch}
use Rattle.bl_wal.specs.LogFile.{log_name}
use Rattle.bl_manifest.specs.Laws.{SyncedManifestsAreLeft}
use Rattle.bl_out.specs.Quiet.{IsCutBut, IsNoneOf}
use Rattle.bl_folder.specs.Flushes.{IsBelow}
use Rattle.bl_folder.specs.Laws.{Frame, LiveIsOne}
use Rattle.bl_folder.specs.Live.{IsLive}
use Rattle.bl_folder.specs.Quiet.{IsLikeCut, QuietCutsAreLike, QuietCutsKeepNeeded}
use Rattle.bl_folder.specs.Stands.{Stands, StandsLive}
use Rattle.bl_open.proofs.CutLemmas.{live_left}
use Rattle.bl_open.proofs.DrawnLemmas.{is_other, log_below, none_drawn, IsNotDrawn}
use Rattle.bl_open.specs.Flushing.{DrawnAreUnneeded, drawn}
use Rattle.bl_open.specs.Steady.{IsSteady, Maps, Steady, accepted, durable}
use Rattle.bl_open.specs.SteadyCuts.{HasBytes, IsLeftFor, LeavesMap}
use Rattle.bl_open.specs.SteadyLaws.{CutsOfSteady}

manifest_apart : (from n : ℕ) → IsNotDrawn from (Manifest n)
manifest_apart from n = record { table = λ k le e. cc e; blob = λ k le e. cc e }

-- a folder with a live part is not fresh
not_fresh : (folder : Folder) (manifest : ℕ) (live : Restored) (m : Map) → IsLive folder manifest live → Stands folder m → StandsLive folder m
not_fresh folder manifest live m is (inl fresh) = let absent = fresh.0.current in let there = is.current in cc (absent, there)
not_fresh folder manifest live m is (inr stands) = stands

module _ (one : NamesOne) (unneeded : DrawnAreUnneeded) (left_law : SyncedManifestsAreLeft) (live_one : LiveIsOne) (frame : Frame) (alike : QuietCutsAreLike) (keep : QuietCutsKeepNeeded) (cuts : CutsOfSteady)
    (maps : Maps) (s : Steady) (disk : Disk) (t : IsSteady maps s disk) (from next : ℕ) (least : 1 ≤ from) (most : next ≤ 10 ^ 15) (lower : IsBelow from s.holding.live.version) (told : List ℕ) (c : Cut) (cut : IsCutBut (drawn from next) disk told c) where
  abbrev like : IsLikeCut (drawn from next) disk told c
  like = alike (drawn from next) disk told c cut

  abbrev other : Cut
  other = like.cut

  log_none : (n : ℕ) → IsNumber n → IsNoneOf (drawn from next) (log_name n)
  log_none n is = none_drawn from next (log_name n) least most (is_other one from (Log n) is (log_below from n))

  manifest_none : (n : ℕ) → IsNumber n → IsNoneOf (drawn from next) (name_of (Manifest n))
  manifest_none n is = none_drawn from next (name_of (Manifest n)) least most (is_other one from (Manifest n) is (manifest_apart from n))

  no_chance : NoChanceMatch c.folder c.written → NoChanceMatch other.folder other.written
  no_chance chance = record {
    logs = λ n is bytes at. let k = chance.logs n is bytes (like.folder (log_name n) (log_none n is) ∙ at) in (k.0, sym (like.written (log_name n) (log_none n is)) ∙ k.1, k.2);
    manifests = λ n is bytes at. let k = chance.manifests n is bytes (like.folder (name_of (Manifest n)) (manifest_none n is) ∙ at) in (k.0, sym (like.written (name_of (Manifest n)) (manifest_none n is)) ∙ k.1, k.2);
  }

  live : IsLive other.folder s.manifest.number s.holding.live
  live = live_left left_law maps s disk told other t like.is_cut

  stands_too : (m : Map) → StandsLive other.folder m → IsLive c.folder s.manifest.number s.holding.live × StandsLive c.folder m
  stands_too m stands =
      let k = frame other.folder c.folder s.manifest.number s.holding.live m live (inr stands)
      (keep (drawn from next) disk told c s.manifest.number s.holding.live (unneeded other.folder from next s.manifest.number s.holding.live live least most lower) like) in
      (k.0, not_fresh c.folder s.manifest.number s.holding.live m k.0 k.1)

  has_bytes : (n : ℕ) → IsNumber n → HasBytes (c.folder (log_name n)) ⊎ HasBytes (c.written (log_name n)) → HasBytes (other.folder (log_name n)) ⊎ HasBytes (other.written (log_name n))
  has_bytes n is (inl h) = inl (subst HasBytes (like.folder (log_name n) (log_none n is)) h)
  has_bytes n is (inr h) = inr (subst HasBytes (like.written (log_name n) (log_none n is)) h)

  left_for : (m : Map) → IsLeftFor m other → IsLeftFor m c
  left_for m l =
      let k = stands_too m l.stands in
      let one_ = live_one other.folder l.stands.manifest s.manifest.number l.stands.holding.live s.holding.live l.stands.holds.live live in
      let two = live_one c.folder k.1.manifest s.manifest.number k.1.holding.live s.holding.live k.1.holds.live k.0 in
      let same : k.1.holding.live.standing.log_number ≡ l.stands.holding.live.standing.log_number = ap (λ (r : Restored). r.standing.log_number) (two.1 ∙ sym one_.1) in
      record {
        stands = k.1;
        whole = λ lo up is above less is_up bytes.
            like.folder (log_name lo) (log_none lo is)
            ∙ l.whole lo up is (omega (arith, above, same)) less is_up (has_bytes up is_up bytes)
            ∙ sym (like.written (log_name lo) (log_none lo is));
      }

  pub cut_beside : LeavesMap maps (durable s) (accepted s) told c
  cut_beside = record {
    told_is = cut.told_is;
    stands = λ chance.
        let l = (cuts maps s disk told other t like.is_cut).stands (no_chance chance) in
        (l.0, l.1, l.2, left_for (maps l.0) l.3);
  }
