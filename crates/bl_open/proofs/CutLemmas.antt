-- What a cut leaves of a steady disk, and how it reads.
use Rattle.std.proofs.Common.{◌≡◌, ℕ, ◌+◌, ◌≤◌, List, [], ◌∷◌, ◌++◌, length, take, map, false, refl, sym, ◌∙◌, ap, subst, arith, Option, Some, None, inl, inr, append-nil}
use Rattle.std.proofs.lemmas.List.{nil_from_length}
use Rattle.std.proofs.Common.{length-append}
use Rattle.std.proofs.Common.{cond, ⊎_elim}
use Rattle.std.specs.Prelude.{option_and_then, unwrap_or}
use Rattle.std.specs.Option.{option_map}
use Rattle.bl_site.specs.Disk.{Folder, Disk, File, Cut, IsCut, IsLeft, folder_of, written_of}
use Rattle.bl_edit.specs.Spelling.{edit_bytes}
use Rattle.bl_log.specs.Layout.{written}
use Rattle.bl_log.specs.Log.{records}
use Rattle.bl_names.specs.declared.name.FileName.{FileName}
use Rattle.bl_names.specs.declared.name.FileName.TheVariants.{Current, Log, Manifest}
use Rattle.bl_names.specs.Names.{IsNumber, name_of, current_text, manifest_name}
use Rattle.bl_entry.specs.Records.{LastIsCounted}
use Rattle.bl_build.specs.Restoring.{Restored, restored, restored_by}
use Rattle.bl_records.specs.Chance.{NoChanceMatch}
use Rattle.std.proofs.lemmas.Bool.{cases_lt}
use Rattle.bl_wal.specs.Held.{HoldsBatches, record_of, log_of}
use Rattle.bl_wal.specs.Laws.{CutLogsReadAsFronts, FrontsAreRead, LogsAreRead, SyncedLogsAreLeft}
use Rattle.bl_manifest.specs.ManifestFile.{ManifestFile}
use Rattle.bl_manifest.specs.Held.{Edits, HoldsEdits, ReadsEdits, manifest_of}
use Rattle.bl_manifest.specs.Laws.{ManifestsAreRead, SyncedManifestsAreLeft}
use Rattle.bl_out.specs.Files.{file}
use Rattle.bl_folder.specs.Files.{log_bytes}
use Rattle.bl_folder.specs.Live.{IsLive}
use Rattle.bl_folder.specs.Holding.{Holding, Holds}
use Rattle.bl_folder.specs.Stands.{IsSound}
use Rattle.bl_folder.specs.Fronts.{cut_to, last_after}
use Rattle.bl_folder.specs.Settled.{IsSynced, IsSyncedFile}
use Rattle.bl_entry.proofs.ItemLemmas.{some_is}
use Rattle.bl_open.specs.Steady.{Maps, Steady, durable, accepted, IsBacked, IsSteady}
use Rattle.bl_wal.specs.LogFile.{log_name}
use Rattle.bl_open.specs.SteadyCuts.{AreLeftWhole, HasBytes, IsLeftFor}
use Rattle.bl_open.specs.SteadyLaws.{CutsOfAll, CutsOfSteady, LogsAreWhole, SteadyAreSettled, SteadyHold, SteadyStand, SteadyStandFirst, SyncedAreLeft}
use Rattle.bl_open.proofs.BatchLemmas.{take_mapped, take_whole}
use Rattle.bl_open.proofs.LeftLemmas.{to_test, log_there, left_holds, written_batches, lower}

-- ---- synced files

pub none_longer : (tail handed : List ℕ) → length tail ≤ length handed → handed ≡ [] → tail ≡ []
none_longer [] handed le e = refl
none_longer (t ∷ tail) handed le e = let none : length handed ≡ 0 = ap length e in absurd (omega (arith, none, le))

-- a synced file is left as it is written,
pub left_written : (o : Option File) (p : Option (List ℕ)) → IsLeft o p → ((x : File) → o ≡ Some x → IsSyncedFile x) → p ≡ option_map (λ x. x.front ++ x.handed) o
left_written None None l synced = refl
left_written None (Some bytes) l synced = absurd l
left_written (Some x) None l synced = absurd l
left_written (Some x) (Some bytes) l synced =
    let none : x.handed ≡ [] = (synced x refl).handed in
    ap Some (l.split ∙ ap (λ t. x.front ++ t) (none_longer l.tail x.handed l.no_longer none ∙ sym none))

pub stays : (disk : Disk) (told : List ℕ) (c : Cut) → IsCut disk told c → (f : FileName) → IsSynced disk f → file c.folder f ≡ file (written_of disk) f
stays disk told c cut f synced = left_written (disk (name_of f)) (c.folder (name_of f)) (cut.image (name_of f)) synced

-- and reads so
read_written : (o : Option File) → ((x : File) → o ≡ Some x → IsSyncedFile x) → option_map (λ x. x.read) o ≡ option_map (λ x. x.front ++ x.handed) o
read_written None synced = refl
read_written (Some x) synced = let s : IsSyncedFile x = synced x refl in ap Some (sym (ap (λ h. x.front ++ h) s.handed ∙ append-nil x.front ∙ s.front))

pub reads : (disk : Disk) (f : FileName) → IsSynced disk f → file (folder_of disk) f ≡ file (written_of disk) f
reads disk f synced = read_written (disk (name_of f)) synced

-- ---- the live part

pub live_from : (F : Folder) (n : ℕ) (edits : Edits) (live : Restored) → IsNumber n → file F Current ≡ Some (current_text n) → ReadsEdits F n edits → restored_by edits ≡ Some live → IsLive F n live
unfolding restored
live_from F n edits live is current read restores = record { number = is; current = current; bytes = read.bytes; there = read.there; restores = ap (option_and_then restored_by) read.are ∙ restores }

-- ---- what is left stands for the map after some first writes

no_bytes : (o : Option (List ℕ)) → unwrap_or o [] ≡ [] → HasBytes o → ⊥
no_bytes None e has = has
no_bytes (Some bytes) e has = has e

module _ (read : LogsAreRead) (fronts : FrontsAreRead) (counted : LastIsCounted) (maps : Maps) (s : Steady) (disk : Disk) (b : IsBacked maps s disk) (told : List ℕ) (c : Cut) (cut : IsCut disk told c) where
  -- a log behind the log in use has no byte, and those below it are synced
  whole_left : AreLeftWhole s.holding.live.standing.log_number c
  whole_left lower_log upper is le less has bytes =
      elim (cases_lt s.log.number upper) [
        | inl behind ↦
            let needed = b.needed in
            let none : unwrap_or (written_of disk (log_name upper)) [] ≡ [] = sym (ap (λ t. cond t (unwrap_or (written_of disk (log_name upper)) []) []) (to_test upper has)) ∙ b.last upper behind in
            let synced = b.others upper has (omega (arith, needed, behind)) (λ e. omega (arith, e, behind)) in
            absurd (no_bytes (written_of disk (log_name upper)) none (⊎_elim (λ left. subst HasBytes (stays disk told c cut (Log upper) synced) left) (λ wrote. subst HasBytes (cut.written_is (log_name upper)) wrote) bytes))
        | inr within ↦ stays disk told c cut (Log lower_log) (b.others lower_log is le (λ e. omega (arith, e, less, within))) ∙ sym (cut.written_is (log_name lower_log))
      ]

  pub stands_left : (number k : ℕ) → k ≤ length s.own → IsLive c.folder number s.holding.live → records (log_bytes c.folder s.log.number) ≡ map record_of (take k s.own)
      → IsLeftFor (maps (s.before + (s.below + k))) c
  stands_left number k le live here =
      let count = b.count in
      let made = b.makes (s.below + k) (omega (arith, count, le)) in
      record {
        stands = record {
          manifest = number;
          holding = cut_to (s.below + k) s.holding;
          found = made.0;
          holds = left_holds maps s disk b c.folder (stays disk told c cut) read fronts counted number k live here;
          sound = made.1;
        };
        whole = whole_left;
      }

  pub leaves_first : CutLogsReadAsFronts → NoChanceMatch c.folder c.written → (number : ℕ) → IsLive c.folder number s.holding.live
      → (count : ℕ) × (durable s ≤ count) × (count ≤ accepted s) × IsLeftFor (maps count) c
  leaves_first cut_logs chance number live =
      let r = cut_logs disk s.log s.own s.synced told c b.is_number b.in_use cut chance in
      let here : records (log_bytes c.folder s.log.number) ≡ map record_of (take r.count s.own) = ap records (log_there c.folder s.log.number r.bytes b.is_number r.there) ∙ r.reads in
      let least = r.at_least in
      let most = r.at_most in
      let count = b.count in
      (s.before + (s.below + r.count), omega (arith, least), omega (arith, most, count), stands_left number r.count most live here)

-- the live part that a cut leaves of a steady disk
pub live_left : SyncedManifestsAreLeft → (maps : Maps) (s : Steady) (disk : Disk) (told : List ℕ) (c : Cut) → IsSteady maps s disk → IsCut disk told c → IsLive c.folder s.manifest.number s.holding.live
live_left left maps s disk told c t cut =
    live_from c.folder s.manifest.number s.edits s.holding.live t.number (stays disk told c cut Current t.current_synced ∙ t.current) (left disk s.manifest s.edits told c t.edits cut).1 t.restores

pub cuts_of_steady : LogsAreRead → FrontsAreRead → LastIsCounted → CutLogsReadAsFronts → SyncedManifestsAreLeft → CutsOfSteady
cuts_of_steady read fronts counted cut_logs left maps s disk told c t cut = record {
  told_is = cut.told_is;
  stands = λ chance. leaves_first read fronts counted maps s disk t.backed told c cut cut_logs chance s.manifest.number (live_left left maps s disk told c t cut);
}

pub cuts_of_all : CutsOfSteady → CutsOfAll
cuts_of_all cuts maps s may_be told c all may = cuts maps s may.disk told c (all may.disk may.possible) may.is_cut

pub synced_are_left : LogsAreRead → FrontsAreRead → LastIsCounted → SyncedLogsAreLeft → SyncedManifestsAreLeft → SyncedAreLeft
synced_are_left read fronts counted logs_left left maps s disk told c t synced cut =
    let b = t.backed in
    let n = length s.own in
    let there = logs_left disk s.log s.own told c (subst (λ (k : ℕ). HoldsBatches disk s.log s.own k) synced b.in_use) cut in
    let here : records (log_bytes c.folder s.log.number) ≡ map record_of (take n s.own) =
    ap records (log_there c.folder s.log.number (log_of s.own) b.is_number there) ∙ read s.own ∙ ap (map record_of) (sym (take_whole s.own)) in
    subst (λ (k : ℕ). IsLeftFor (maps (s.before + k)) c) (sym b.count)
    (stands_left read fronts counted maps s disk b told c cut s.manifest.number n (omega arith) (live_left left maps s disk told c t cut) here)

-- ---- how it reads

whole_cut : (h : Holding) → h.last ≡ last_after h.live.standing.last_sequence h.batches → cut_to (length h.batches) h ≡ h
whole_cut h e =
    let all : take (length h.batches) h.batches ≡ h.batches = take_whole h.batches in
    let last : last_after h.live.standing.last_sequence (take (length h.batches) h.batches) ≡ h.last = ap (last_after h.live.standing.last_sequence) all ∙ sym e in
    λ i. record { live = h.live; tables = h.tables; blobs = h.blobs; batches = all i; last = last i }

pub last_is : LogsAreRead → LastIsCounted → (maps : Maps) (s : Steady) (disk : Disk) → IsBacked maps s disk → s.holding.last ≡ last_after s.holding.live.standing.last_sequence s.holding.batches
last_is read counted maps s disk b =
    counted (lower maps s disk b ++ map record_of s.own) s.holding.live.standing.last_sequence s.holding.last s.holding.batches (written_batches maps s disk b read)

pub whole_is : LogsAreRead → LastIsCounted → (maps : Maps) (s : Steady) (disk : Disk) → IsBacked maps s disk → cut_to (length s.holding.batches) s.holding ≡ s.holding
whole_is read counted maps s disk b = whole_cut s.holding (last_is read counted maps s disk b)

pub steady_hold : LogsAreRead → FrontsAreRead → LastIsCounted → ManifestsAreRead → SteadyHold
steady_hold read fronts counted manifests maps s disk t usable =
    let b = t.backed in
    let n = length s.own in
    let same : (f : FileName) → IsSynced disk f → file (folder_of disk) f ≡ file (written_of disk) f = reads disk in
    let there : folder_of disk (name_of (Log s.log.number)) ≡ Some (log_of s.own) =
    ap (λ (o : Option File). option_map (λ (x : File). x.read) o) b.in_use.there ∙ ap Some (b.in_use.reads usable.log) in
    let here : records (log_bytes (folder_of disk) s.log.number) ≡ map record_of (take n s.own) =
    ap records (log_there (folder_of disk) s.log.number (log_of s.own) b.is_number there) ∙ read s.own ∙ ap (map record_of) (sym (take_whole s.own)) in
    let live = live_from (folder_of disk) s.manifest.number s.edits s.holding.live t.number (same Current t.current_synced ∙ t.current)
    (manifests disk s.manifest s.edits (length s.edits) usable.manifest t.edits) t.restores in
    let first = left_holds maps s disk b (folder_of disk) same read fronts counted s.manifest.number n live here in
    subst (Holds (folder_of disk) s.manifest.number)
    (ap (λ k. cut_to k s.holding) (sym b.count) ∙ whole_is read counted maps s disk b) first

pub steady_stand_first : SteadyHold → SteadyStandFirst
steady_stand_first hold maps s disk t usable count le =
    let made = t.backed.makes count le in
    record { manifest = s.manifest.number; holding = s.holding; found = made.0; holds = hold maps s disk t usable; within = le; sound = made.1 }

pub steady_stand : LogsAreRead → LastIsCounted → SteadyHold → SteadyStand
steady_stand read counted hold maps s disk t usable =
    let made = t.backed.makes (length s.holding.batches) (omega arith) in
    record {
      manifest = s.manifest.number;
      holding = s.holding;
      found = made.0;
      holds = hold maps s disk t usable;
      sound = subst (λ (h : Holding). IsSound h made.0 (maps (accepted s))) (whole_is read counted maps s disk t.backed) made.1;
    }

-- ---- it is settled

file_of : (o : Option File) (a b : File) → o ≡ Some a → o ≡ Some b → a ≡ b
file_of o a b first second = some_is (sym first ∙ second)

-- no byte of a manifest that is all synced is handed over
manifest_synced : (disk : Disk) (m : ManifestFile) (edits : Edits) (h : HoldsEdits disk m edits (length edits)) → h.records.file.handed ≡ []
manifest_synced disk m edits h =
    let r = h.records in
    let front : r.file.front ≡ manifest_of edits = r.front ∙ ap (written 0) (take_mapped edit_bytes edits) in
    let size : length (r.file.front ++ r.file.handed) ≡ length r.file.front = ap length (r.all ∙ sym front) in
    let sum = length-append r.file.front r.file.handed in
    nil_from_length r.file.handed (omega (arith, size, sum))

pub edits_synced : (disk : Disk) (m : ManifestFile) (edits : Edits) → m.failed ≡ false → HoldsEdits disk m edits (length edits) → IsSynced disk (Manifest m.number)
edits_synced disk m edits usable holds x at =
    let r = holds.records in
    let same : r.file ≡ x = some_is (sym r.there ∙ at) in
    let front : r.file.front ≡ manifest_of edits = r.front ∙ ap (written 0) (take_mapped edit_bytes edits) in
    subst IsSyncedFile same (record { handed = manifest_synced disk m edits holds; front = front ∙ sym (r.reads usable) })

pub steady_are_settled : ManifestsAreRead → SteadyAreSettled
unfolding restored
steady_are_settled manifests maps s disk t usable =
    let h = t.edits.records in
    let none = manifest_synced disk s.manifest s.edits t.edits in
    let front : h.file.front ≡ manifest_of s.edits = h.front ∙ ap (written 0) (take_mapped edit_bytes s.edits) in
    let read = manifests disk s.manifest s.edits (length s.edits) usable t.edits in
    let bytes_are : read.bytes ≡ manifest_of s.edits =
    some_is (sym read.there ∙ ap (λ (o : Option File). option_map (λ (x : File). x.read) o) h.there ∙ ap Some (h.reads usable)) in
    inr (record {
      manifest = s.manifest.number;
      live = s.holding.live;
      is_live = live_from (folder_of disk) s.manifest.number s.edits s.holding.live t.number (reads disk Current t.current_synced ∙ t.current) read t.restores;
      current = t.current_synced;
      named = t.backed.files.named;
      torn = λ x bytes there left.
          let same : x ≡ h.file = file_of (disk (manifest_name s.manifest.number)) x h.file there h.there in
          let gone : x.handed ≡ [] = ap (λ (f : File). f.handed) same ∙ none in
          let is : bytes ≡ read.bytes =
          left.remnant.split ∙ ap (λ r. x.front ++ r) (none_longer left.remnant.tail x.handed left.remnant.no_longer gone) ∙ append-nil x.front
          ∙ ap (λ (f : File). f.front) same ∙ front ∙ sym bytes_are in
          record { live = s.holding.live; restores = ap (λ r. restored (records r)) is ∙ ap (option_and_then restored_by) read.are ∙ t.restores; synced = t.backed.files.named };
    })

-- ---- its logs are whole

pub logs_are_whole : LogsAreWhole
logs_are_whole maps s disk t lower upper is needed less some =
    elim (cases_lt s.log.number upper) [
      | inl behind ↦ absurd (some (t.backed.last upper behind))
      | inr le ↦ t.backed.others lower is needed (λ e. absurd (omega (arith, e, le, less)))
    ]
