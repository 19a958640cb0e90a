-- A waiting memory is flushed: its files are made, and installed.
use Rattle.std.proofs.Common.{◌≡◌, inl, ℕ, ◌+◌, ◌<◌, ◌≤◌, List, [], ◌∷◌, ◌++◌, length, take, Bool, true, false, cond, refl, sym, ◌∙◌, ap, subst, arith, Option, None, Some, Ok}
use Rattle.std.specs.Prelude.{◌^◌}
use Rattle.std.specs.Option.{option_map}
use Rattle.bl_site.specs.Disk.{Disk, File, Folder, Name, written_of}
use Rattle.bl_names.specs.declared.name.FileName.TheVariants.{Table, Blob}
use Rattle.bl_names.specs.Names.{NamesOne, name_of}
use Rattle.bl_code.proofs.Basics.{all_from}
use Rattle.bl_code.specs.Order.{same_bytes}
use Rattle.bl_edit.specs.declared.edit.Edit.{Edit}
use Rattle.bl_build.specs.Listing.{Listing}
use Rattle.bl_build.specs.Restoring.{Restored}
use Rattle.bl_build.specs.Versions.{apply}
use Rattle.bl_manifest.specs.ManifestFile.{ManifestFile}
use Rattle.bl_out.proofs.StoredLemmas.{IndexIsSpelled}
use Rattle.bl_out.proofs.WrittenLemmas.{IndexIsRead}
use Rattle.bl_out.specs.Flushes.{Flushed, HasFlush, NewBlob}
use Rattle.bl_out.specs.Quiet.{IsNoneOf}
use Rattle.bl_out.specs.Reads.{IsSynced as IsAllSynced}
use Rattle.bl_out.specs.Tables.{TableFile}
use Rattle.bl_flush.specs.Flushing.{Flushes}
use Rattle.bl_folder.specs.FlushLaws.{FlushedAreThere, FlushesApply, FlushesKeepFiles, FlushesKeepFronts, HeldAreWhole}
use Rattle.bl_folder.specs.Flushes.{IsBelow, IsFlushOf, IsMemoryOf, IsWhole, edit_for, installed as installed_holding}
use Rattle.bl_folder.specs.Fronts.{cut_to}
use Rattle.bl_folder.specs.Holding.{Holding, Holds}
use Rattle.bl_folder.specs.Stands.{IsSound}
use Rattle.bl_open.proofs.DrawnLemmas.{none_drawn}
use Rattle.bl_open.proofs.FlushedFiles.{flush_of, has_files, installed_below}
use Rattle.bl_open.specs.Flushing.{DrawnAreUnneeded, HasFlushed, drawn}
use Rattle.bl_open.specs.Installations.{Flushes as FlushesSteady, TablesMake}
use Rattle.bl_open.specs.Steady.{IsSteady, Maps, Steady}
use Rattle.bl_open.specs.SteadyCalls.{Installs, IsQuietCall, installed}
use Rattle.bl_open.specs.SteadyLaws.{EditsRestore, FlushesInstall, InstallsKeepCounts, QuietKeepsSteady, SteadyHoldWritten}
use Rattle.bl_store.specs.Stored.{Stored}
use Rattle.bl_open.specs.Synced.{as_synced, synced_file}
use Rattle.bl_store.specs.Flushing.{HasMade}
use Rattle.bl_store.specs.Held.{Held, maps_of}
use Rattle.bl_store.specs.Standing.{HasWaiting, StandsFor}
use Rattle.bl_store.specs.declared.store.Waiting.{Waiting}
use Rattle.bl_store.proofs.NumberLemmas.{below_later, same_ok}
use Rattle.bl_store.proofs.SyncedLemmas.{below_more, same_at, same_folder}

-- ---- what is synced is synced

synced_one : (b : Bool) (o : Option File) (x : File) → o ≡ Some x → x.front ≡ x.read → x.handed ≡ [] → (y : File) × (cond b (option_map synced_file o) o ≡ Some y) × (y.front ≡ y.read) × (y.handed ≡ [])
synced_one true o x at front handed = (synced_file x, ap (option_map synced_file) at, refl, refl)
synced_one false o x at front handed = (x, at, front, handed)

pub synced_stays : (names : List Name) (disk : Disk) (name : Name) → IsAllSynced disk name → IsAllSynced (as_synced names disk) name
synced_stays [] disk name s = s
synced_stays (n ∷ more) disk name s =
    let rest = synced_stays more disk name s in
    let k = synced_one (same_bytes n name) (as_synced more disk name) rest.file rest.there rest.front rest.handed in
    record { file = k.0; there = k.1; front = k.2; handed = k.3 }

-- ---- what the proofs stand on

pub record FlushLaws : Type 0 where
  pub one : NamesOne
  pub unneeded : DrawnAreUnneeded
  pub written : SteadyHoldWritten
  pub quiet : QuietKeepsSteady
  pub whole : HeldAreWhole
  pub applies : FlushesApply
  pub restore : EditsRestore
  pub reads : IndexIsRead
  pub spells : IndexIsSpelled
  pub there : FlushedAreThere
  pub keeps : FlushesKeepFiles
  pub fronts : FlushesKeepFronts
  pub installs : FlushesInstall
  pub counts : InstallsKeepCounts

-- ---- the files are made

module _ (one : NamesOne) (unneeded : DrawnAreUnneeded) (written : SteadyHoldWritten) (quiet_law : QuietKeepsSteady) (names : List Name) (held : Held) (store : Stored) (old mid : Disk) (t : StandsFor names held store old)
    (next : ℕ) (up : store.next ≤ next) (most : next ≤ 10 ^ 15) (others : (name : Name) → IsNoneOf (drawn store.next next) name → mid name ≡ old name) where
  abbrev s : Steady
  s = t.steady

  abbrev maps : Maps
  maps = maps_of held

  pub least : 1 ≤ store.next
  least = let less = t.carries.ahead.log in omega (arith, less)

  pub held_written : Holds (written_of (as_synced names old)) s.manifest.number s.holding
  held_written = written maps s (as_synced names old) t.is_steady

  pub lower : IsBelow store.next s.holding.live.version
  lower = subst (λ (r : Restored). IsBelow store.next r.version) (sym t.carries.live) t.carries.ahead.version

  quiet : IsQuietCall s (as_synced names old) (as_synced names mid)
  quiet f needed = inl (same_at names old mid (name_of f) (others (name_of f) (unneeded (written_of (as_synced names old)) store.next next s.manifest.number s.holding.live held_written.live least most lower f needed)))

  pub mid_steady : IsSteady maps s (as_synced names mid)
  mid_steady = quiet_law maps s (as_synced names old) (as_synced names mid) t.is_steady quiet

  pub mid_stands : (broken : Bool) → StandsFor names held (record store { next = next; broken = broken }) mid
  mid_stands broken = let c = t.carries in record {
    steady = s;
    is_steady = mid_steady;
    carries = record {
      live = c.live;
      manifest = c.manifest;
      log = c.log;
      last = c.last;
      waiting = c.waiting;
      memory = c.memory;
      fit = c.fit;
      ahead = record {
        version = below_later store.next next store.version up c.ahead.version;
        manifest = (let less = c.ahead.manifest in omega (arith, less, up));
        log = (let less = c.ahead.log in omega (arith, less, up));
      };
    };
    writes = t.writes;
    durable = t.durable;
    found = below_more store.next next names up t.found;
  }

  -- ---- and installed

  module _ (w : Waiting) (waits : store.waiting ≡ Some w) (e : Edit) (made : HasMade store.standing.options store.next next w mid e) where
    abbrev h : Holding
    h = s.holding

    abbrev files : Flushed
    files = made.flushes.files

    has_waiting : IsMemoryOf (take s.below h.batches) w.memory × (w.last ≡ Rattle.bl_open.specs.Installations.switched_at s) × (w.log ≡ s.log.number)
    has_waiting = subst (HasWaiting s) waits t.carries.waiting

    within : s.below ≤ length h.batches
    within = let count = t.is_steady.backed.count in omega (arith, count)

    same_options : store.standing.options ≡ h.live.standing.options
    same_options = ap (λ (r : Restored). r.standing.options) (sym t.carries.live)

    pub on_mid : Flushes store.standing.options store.next next [] w.memory (as_synced names mid) made.job
    on_mid = let f = made.flushes in record {
      files = f.files;
      edit = f.edit;
      flush = f.flush;
      has = subst (λ (F : Folder). HasFlush F f.files) (sym (same_folder names mid)) f.has;
      tables = all_from (λ (x : TableFile). (x.meta.number < next) × IsAllSynced mid (name_of (Table x.meta.number))) (λ x. (x.meta.number < next) × IsAllSynced (as_synced names mid) (name_of (Table x.meta.number))) f.files.tables
          (λ x h. (h.0, synced_stays names mid (name_of (Table x.meta.number)) h.1)) f.tables;
      blobs = all_from (λ (x : NewBlob). (x.named.number < next) × IsAllSynced mid (name_of (Blob x.named.number))) (λ x. (x.named.number < next) × IsAllSynced (as_synced names mid) (name_of (Blob x.named.number))) f.files.blobs
          (λ x h. (h.0, synced_stays names mid (name_of (Blob x.named.number)) h.1)) f.blobs;
    }

    pub has_flushed : HasFlushed h.live.standing.options store.next store.next next w.memory (as_synced names old) (as_synced names mid) made.job
    has_flushed = record {
      flushes = subst (λ o. Flushes o store.next next [] w.memory (as_synced names mid) made.job) same_options on_mid;
      above = omega arith;
      others = λ name other. same_at names old mid name (others name (none_drawn store.next next name least most other));
    }

    module _ (whole_law : HeldAreWhole) where
      pub whole : IsWhole h
      whole = whole_law (written_of (as_synced names old)) s.manifest.number h held_written

      pub flush : IsFlushOf h s.below store.next [] w.memory has_flushed.flushes.files
      flush = flush_of h s.below w.memory store.next store.next next (as_synced names old) (as_synced names mid) made.job t.is_steady.backed.files whole lower within has_waiting.0 has_flushed

      abbrev next_holding : Holding
      next_holding = installed_holding h s.below w.log next has_flushed.flushes.files

      pub edit_is : e ≡ edit_for h s.below w.log next has_flushed.flushes.files
      edit_is = made.edit ∙ (λ i. record (has_flushed.flushes.edit i) { log_number = Some w.log; next_file = Some next; last_sequence = Some (has_waiting.1 i) })

      module _ (applies_law : FlushesApply) where
        pub applies : apply h.live.version e ≡ Ok next_holding.live.version
        applies = ap (apply h.live.version) edit_is ∙ applies_law h s.below store.next w.log next [] w.memory has_flushed.flushes.files whole flush

        module _ (restore : EditsRestore) (reads : IndexIsRead) (spells : IndexIsSpelled) (there : FlushedAreThere) (keeps : FlushesKeepFiles) (fronts : FlushesKeepFronts) (install_law : FlushesInstall) where
          tables_make : TablesMake maps (s.before + s.below) next_holding
          tables_make =
              let m = t.is_steady.backed.makes s.below within in
              let here : s.below ≡ s.below + 0 = omega arith in
              let k = fronts h m.0 (maps (s.before + s.below)) s.below store.next w.log next 0 [] w.memory has_flushed.flushes.files whole (subst (λ n. IsSound (cut_to n h) m.0 (maps (s.before + s.below))) here m.1) flush in
              (k.found_now, k.sound)

          flushes : FlushesSteady maps s e next_holding (as_synced names mid)
          flushes = record {
            restores = subst (λ (x : Edit). Rattle.bl_build.specs.Restoring.restored_by (s.edits ++ x ∷ []) ≡ Some next_holding.live) (sym edit_is)
                (restore s.edits (edit_for h s.below w.log next has_flushed.flushes.files) h.live next_holding.live.version t.is_steady.restores
                (applies_law h s.below store.next w.log next [] w.memory has_flushed.flushes.files whole flush) most);
            files = has_files h s.below w.memory store.next store.next next (as_synced names old) (as_synced names mid) made.job t.is_steady.backed.files whole lower within has_waiting.0 has_flushed one reads spells there keeps w.log next;
            log_number = has_waiting.2;
            sequence = refl;
            batches = refl;
            last = refl;
            makes = tables_make;
          }

          pub may_install : Installs maps s e next_holding (s.before + s.below) 0 (as_synced names mid)
          may_install = install_law maps s e next_holding (as_synced names mid) mid_steady flushes

          -- behind the installation
          pub flushed_stands : InstallsKeepCounts → (manifest : ManifestFile) → manifest.number ≡ store.manifest.number → (version : Listing) → apply store.version e ≡ Ok version → (new : Disk)
              → IsSteady maps (installed s e next_holding (s.before + s.below) 0 manifest) (as_synced names new)
              → StandsFor names held (record store { version = version; standing = record store.standing { log_number = w.log; next_file = next; last_sequence = w.last }; manifest = manifest; next = next; waiting = None }) new
          flushed_stands counts manifest number version leads new steady =
              let c = t.carries in
              let same_version : version ≡ next_holding.live.version =
              same_ok version next_holding.live.version (sym leads ∙ ap (λ (r : Restored). apply r.version e) (sym c.live) ∙ applies) in
              let n = counts maps s e next_holding (s.before + s.below) 0 manifest (as_synced names mid) mid_steady may_install in
              let writes = t.writes in
              let durable_ = t.durable in
              let n0 = n.0 in
              let n1 = n.1 in
              record {
                steady = installed s e next_holding (s.before + s.below) 0 manifest;
                is_steady = steady;
                carries = record {
                  live = λ i. record {
                    version = sym same_version i;
                    standing = record ((c.live i).standing) { log_number = w.log; next_file = next; last_sequence = sym has_waiting.1 i };
                  };
                  manifest = refl;
                  log = c.log;
                  last = c.last;
                  waiting = refl;
                  memory = c.memory;
                  fit = c.fit;
                  ahead = record {
                    version = subst (IsBelow next) (sym same_version)
                        (installed_below reads spells keeps h s.below w.memory store.next store.next next w.log next (as_synced names old) (as_synced names mid) made.job t.is_steady.backed.files whole lower within has_waiting.0 has_flushed up);
                    manifest = (let less = c.ahead.manifest in omega (arith, less, up, number));
                    log = (let less = c.ahead.log in omega (arith, less, up));
                  };
                };
                writes = n1 ∙ writes;
                durable = omega (arith, durable_, n0);
                found = below_more store.next next names up t.found;
              }

-- all of it, from the laws
module _ (l : FlushLaws) (names : List Name) (held : Held) (store : Stored) (old mid : Disk) (t : StandsFor names held store old) (next : ℕ) (up : store.next ≤ next) (most : next ≤ 10 ^ 15)
    (others : (name : Name) → IsNoneOf (drawn store.next next) name → mid name ≡ old name) where
  pub then_stands : (broken : Bool) → StandsFor names held (record store { next = next; broken = broken }) mid
  then_stands broken = mid_stands l.one l.unneeded l.written l.quiet names held store old mid t next up most others broken

  pub then_steady : IsSteady (maps_of held) t.steady (as_synced names mid)
  then_steady = mid_steady l.one l.unneeded l.written l.quiet names held store old mid t next up most others

  module _ (w : Waiting) (waits : store.waiting ≡ Some w) (e : Edit) (made : HasMade store.standing.options store.next next w mid e) where
    pub then_holding : Holding
    then_holding = next_holding l.one l.unneeded l.written l.quiet names held store old mid t next up most others w waits e made l.whole

    pub then_installs : Installs (maps_of held) t.steady e then_holding (t.steady.before + t.steady.below) 0 (as_synced names mid)
    unfolding then_holding
    then_installs = may_install l.one l.unneeded l.written l.quiet names held store old mid t next up most others w waits e made l.whole l.applies l.restore l.reads l.spells l.there l.keeps l.fronts l.installs

    pub then_flushed : (manifest : ManifestFile) → manifest.number ≡ store.manifest.number → (version : Listing) → apply store.version e ≡ Ok version → (new : Disk)
        → IsSteady (maps_of held) (installed t.steady e then_holding (t.steady.before + t.steady.below) 0 manifest) (as_synced names new)
        → StandsFor names held (record store { version = version; standing = record store.standing { log_number = w.log; next_file = next; last_sequence = w.last }; manifest = manifest; next = next; waiting = None }) new
    unfolding then_holding
    then_flushed = flushed_stands l.one l.unneeded l.written l.quiet names held store old mid t next up most others w waits e made l.whole l.applies l.restore l.reads l.spells l.there l.keeps l.fronts l.installs l.counts
