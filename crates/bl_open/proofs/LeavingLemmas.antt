-- What a cut of an opening leaves, where the disk was steady.
use Rattle.std.proofs.Common.{◌≡◌, ℕ, zero, suc, ◌+◌, ◌≤◌, ◌++◌, List, [], ◌∷◌, length, map, take, Option, Some, None, inl, inr, ⊎_elim, refl, sym, ◌∙◌, ap, subst, arith}
use Rattle.std.specs.Option.{option_map}
use Rattle.bl_site.specs.Disk.{Cut, Disk, File, IsCut, folder_of, written_of}
use Rattle.bl_log.specs.Log.{records}
use Rattle.bl_names.specs.declared.name.FileName.TheVariants.{Current, Log}
use Rattle.bl_names.specs.Names.{current_text}
use Rattle.bl_entry.specs.Records.{LastIsCounted}
use Rattle.bl_records.specs.Chance.{IsOnlyWritten, NoChanceMatch}
use Rattle.bl_records.specs.Laws.{CutFilesReadAsFronts}
use Rattle.bl_records.proofs.HeldLemmas.{within_of}
use Rattle.bl_wal.specs.Held.{record_of}
use Rattle.bl_wal.specs.LogFile.{file_of, log_name}
use Rattle.bl_wal.specs.Laws.{FrontsAreRead, LogsAreRead}
use Rattle.bl_manifest.specs.Laws.{SyncedManifestsAreLeft}
use Rattle.bl_folder.specs.Files.{log_bytes}
use Rattle.bl_folder.specs.Live.{IsFresh}
use Rattle.bl_open.specs.Barrier.{FindsFiles}
use Rattle.bl_open.specs.OpeningLaws.{OpeningsLeaveMaps}
use Rattle.bl_open.specs.Steady.{Maps, Steady, IsSteady, IsUsable, accepted, durable}
use Rattle.bl_open.specs.SteadyCuts.{AreLeftWhole, HasBytes, IsLeftFor}
use Rattle.bl_open.proofs.CutLemmas.{live_left, reads, stands_left}
use Rattle.bl_open.proofs.LeftLemmas.{log_there}

map_take : {X Y : Type 0} (f : X → Y) (n : ℕ) (xs : List X) → take n (map f xs) ≡ map f (take n xs)
map_take f zero xs = refl
map_take f (suc n) [] = refl
map_take f (suc n) (x ∷ xs) = ap (λ l. f x ∷ l) (map_take f n xs)

-- the synced batches of the log in use are among its own
synced_within : (maps : Maps) (s : Steady) (disk : Disk) → IsSteady maps s disk → s.synced ≤ length s.own
synced_within maps s disk t = within_of record_of s.own s.synced t.backed.in_use.within

module _ (maps : Maps) (s : Steady) (disk : Disk) (t : IsSteady maps s disk) (usable : IsUsable s) (told : List ℕ) (c : Cut) (finds : FindsFiles disk told c) where
  -- the cut as if no file had been synced since
  abbrev unsynced : Cut
  unsynced = record { folder = c.folder; told = told; written = written_of disk }

  is_cut : IsCut disk told unsynced
  is_cut = record { image = finds.image; told_is = refl; written_is = λ name. refl }

  -- the log in use reads as it is written
  log_reads : written_of disk (log_name s.log.number) ≡ folder_of disk (log_name s.log.number)
  log_reads =
      let h = t.backed.in_use in
      ap (λ (o : Option File). option_map (λ (x : File). x.front ++ x.handed) o) h.there ∙ ap Some (h.all ∙ sym (h.reads usable.log)) ∙ sym (ap (λ (o : Option File). option_map (λ (x : File). x.read) o) h.there)

  log_written : c.written (log_name s.log.number) ≡ written_of disk (log_name s.log.number)
  log_written = ⊎_elim (λ is. is) (λ p. p.0 ∙ sym log_reads) (finds.written (log_name s.log.number))

  log_only : NoChanceMatch c.folder c.written → IsOnlyWritten c.folder (written_of disk) (Log s.log.number)
  log_only chance bytes is = let w = chance.logs s.log.number t.backed.is_number bytes is in (w.0, sym log_written ∙ w.1, w.2)

  -- its needed logs are left whole
  whole : (from : ℕ) → AreLeftWhole from unsynced → AreLeftWhole from c
  whole from left lower upper is le less has bytes =
      let here = left lower upper is le less has (⊎_elim (λ l. inl l) (λ w. ⊎_elim (λ e. inr (subst HasBytes e w)) (λ p. inl (subst HasBytes (p.0 ∙ sym p.1) w)) (finds.written (log_name upper))) bytes) in
      ⊎_elim (λ e. here ∙ sym e) (λ p. p.1 ∙ sym p.0) (finds.written (log_name lower))

  found_left : LogsAreRead → FrontsAreRead → LastIsCounted → CutFilesReadAsFronts → SyncedManifestsAreLeft → NoChanceMatch c.folder c.written
      → (count : ℕ) × (durable s ≤ count) × (count ≤ accepted s) × IsLeftFor (maps count) c
  found_left read fronts counted law left chance =
      let b = t.backed in
      let r = law disk (file_of s.log) (Log s.log.number) (map record_of s.own) s.synced told unsynced refl b.in_use is_cut (log_only chance) in
      let k = r.first.count in
      let least = r.first.at_least in
      let most : k ≤ length s.own = within_of record_of s.own k r.first.at_most in
      let count = b.count in
      let here : records (log_bytes c.folder s.log.number) ≡ map record_of (take k s.own) = ap records (log_there c.folder s.log.number r.bytes b.is_number r.there) ∙ r.first.reads ∙ map_take record_of k s.own in
      let stands = stands_left read fronts counted maps s disk b told unsynced is_cut s.manifest.number k most (live_left left maps s disk told unsynced t is_cut) here in
      (s.before + (s.below + k), omega (arith, least), omega (arith, most, count), record { stands = stands.stands; whole = whole stands.stands.holding.live.standing.log_number stands.whole })

-- a steady folder is not fresh
not_fresh : (maps : Maps) (s : Steady) (disk : Disk) → IsSteady maps s disk → IsFresh (folder_of disk) → ⊥
not_fresh maps s disk t fresh =
    let text : Some (current_text s.manifest.number) ≡ None = sym (reads disk Current t.current_synced ∙ t.current) ∙ fresh.current in
    cc text

all_left : (maps : Maps) (s : Steady) (disk : Disk) → IsSteady maps s disk → durable s ≤ accepted s
all_left maps s disk t = let within = synced_within maps s disk t in let count = t.backed.count in omega (arith, within, count)

pub openings_leave_maps : LogsAreRead → FrontsAreRead → LastIsCounted → CutFilesReadAsFronts → SyncedManifestsAreLeft → OpeningsLeaveMaps
openings_leave_maps read fronts counted law left maps s disk told c t usable (inl finds) = record {
  told_is = finds.told_is;
  stands = λ chance. found_left maps s disk t usable told c finds read fronts counted law left chance;
}
openings_leave_maps read fronts counted law left maps s disk told c t usable (inr stood) = record {
  told_is = stood.told_is;
  stands = λ chance. ⊎_elim (λ fresh. absurd (not_fresh maps s disk t fresh.0)) (λ is. (accepted s, all_left maps s disk t, omega arith, is)) stood.left;
}
