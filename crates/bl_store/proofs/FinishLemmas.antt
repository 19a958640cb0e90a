-- Disks on which all writes of a store are durable.
use Rattle.std.proofs.Common.{◌≡◌, ℕ, ◌≤◌, false, true, Bool, List, [], ◌∷◌, ◌++◌, length, map, refl, sym, ◌∙◌, ap, subst, arith, Some, Result, Ok, Err, OnOk}
use Rattle.std.specs.Prelude.{◌==◌}
use Rattle.std.proofs.lemmas.Bool.{eqb-true, eqb-false}
use Rattle.std.proofs.lemmas.List.{length-map}
use Rattle.bl_site.specs.Disk.{Disk, File, IsCut}
use Rattle.bl_site.specs.declared.site.Site.{Ghosts}
use Rattle.bl_names.specs.declared.name.FileName.TheVariants.{Current, Manifest, Log, Table, Blob, Temp}
use Rattle.bl_names.specs.Names.{IsNumber}
use Rattle.bl_log.specs.Layout.{written}
use Rattle.bl_edit.specs.Spelling.{edit_bytes}
use Rattle.bl_records.specs.Held.{HoldsRecords}
use Rattle.bl_records.specs.WrittenFile.{WrittenFile}
use Rattle.bl_wal.specs.Held.{record_of}
use Rattle.bl_wal.specs.LogFile.{file_of as log_file}
use Rattle.bl_manifest.specs.ManifestFile.{ManifestFile, file_of as manifest_file}
use Rattle.bl_build.specs.Restoring.{Restored}
use Rattle.bl_out.proofs.AmongLemmas.{all_at, among_mapped, to_among}
use Rattle.bl_folder.specs.Settled.{IsSynced, IsSyncedFile, NeededAreSynced}
use Rattle.bl_open.specs.Steady.{IsSteady, IsUsable, Maps, Steady}
use Rattle.bl_open.specs.SteadyCuts.{IsLeftFor}
use Rattle.bl_open.specs.SteadyLaws.{SteadyAreSettled, SyncedAreLeft}
use Rattle.bl_entry.specs.Revisions.{Map}
use Rattle.bl_store.specs.Calls.{LeavesStore}
use Rattle.bl_store.specs.declared.error.StoreErr.{StoreErr}
use Rattle.bl_store.specs.Finishing.{AllAreDurable, DurableStoresAreLeft, DurableStoresAreSynced, IsAtRest}
use Rattle.bl_store.specs.Held.{Held, all_durable, maps_of}
use Rattle.bl_store.specs.Standing.{StandsFor}
use Rattle.bl_store.specs.Stored.{IsInOrder, Stored}
use Rattle.bl_store.proofs.HeldLemmas.{maps_last, take_all}
use Rattle.bl_store.proofs.MomentLemmas.{IsOnly, settled_of}
use Rattle.bl_store.proofs.ReadLemmas.{usable_of}

-- ---- a file all of whose records are synced

nothing_behind : (xs ys zs : List ℕ) → xs ≡ zs → xs ++ ys ≡ zs → ys ≡ []
nothing_behind xs ys zs e f = append_nothing xs ys (f ∙ sym e)
  where
    append_nothing : (us vs : List ℕ) → us ++ vs ≡ us → vs ≡ []
    append_nothing [] vs h = h
    append_nothing (u ∷ us) vs h = append_nothing us vs (let more : us ++ vs ≡ us = cc h in more)

file_synced : (disk : Disk) (writer : WrittenFile) (payloads : List (List ℕ)) → writer.failed ≡ false → HoldsRecords disk writer payloads (length payloads) → (x : File) → disk writer.name ≡ Some x → IsSyncedFile x
file_synced disk writer payloads usable h x is =
    let same : h.file ≡ x = (let e : Some h.file ≡ Some x = sym h.there ∙ is in cc e) in
    let front : h.file.front ≡ written 0 payloads = h.front ∙ ap (written 0) (take_all payloads) in
    subst IsSyncedFile same (record {
      handed = nothing_behind h.file.front h.file.handed (written 0 payloads) front h.all;
      front = front ∙ sym (h.reads usable);
    })

-- ---- a steady disk all of whose batches are synced

module _ (maps : Maps) (s : Steady) (disk : Disk) (t : IsSteady maps s disk) (usable : IsUsable s) (all : s.synced ≡ length s.own) where
  manifest_synced : IsSynced disk (Manifest s.manifest.number)
  manifest_synced =
      let count : length s.edits ≡ length (map edit_bytes s.edits) = sym (length-map s.edits edit_bytes) in
      file_synced disk (manifest_file s.manifest) (map edit_bytes s.edits) usable.manifest (subst (λ n. HoldsRecords disk (manifest_file s.manifest) (map edit_bytes s.edits) n) count t.edits.records)

  log_synced : IsSynced disk (Log s.log.number)
  log_synced =
      let count : s.synced ≡ length (map record_of s.own) = all ∙ sym (length-map s.own record_of) in
      file_synced disk (log_file s.log) (map record_of s.own) usable.log (subst (λ n. HoldsRecords disk (log_file s.log) (map record_of s.own) n) count t.backed.in_use)

  in_logs : (n : ℕ) → IsNumber n → s.holding.live.standing.log_number ≤ n → (b : Bool) → (n == s.log.number) ≡ b → IsSynced disk (Log n)
  in_logs n number le true e = subst (λ k. IsSynced disk (Log k)) (sym (eqb-true n s.log.number e)) log_synced
  in_logs n number le false e = t.backed.others n number le (eqb-false n s.log.number e)

  pub needed_synced : NeededAreSynced disk s.manifest.number s.holding.live
  needed_synced Current need = t.current_synced
  needed_synced (Manifest n) need = subst (λ k. IsSynced disk (Manifest k)) (sym need) manifest_synced
  needed_synced (Log n) need = in_logs n need.0 need.1 (n == s.log.number) refl
  needed_synced (Table n) need =
      let from = among_mapped (λ t. t.number) s.holding.live.version.tables n (to_among (map (λ t. t.number) s.holding.live.version.tables) n need) in
      subst (λ k. IsSynced disk (Table k)) from.is (all_at (λ t. IsSynced disk (Table t.number)) s.holding.live.version.tables from.from t.backed.files.named.tables from.there)
  needed_synced (Blob n) need =
      let from = among_mapped (λ b. b.number) s.holding.live.version.blobs n (to_among (map (λ b. b.number) s.holding.live.version.blobs) n need) in
      subst (λ k. IsSynced disk (Blob k)) from.is (all_at (λ b. IsSynced disk (Blob b.number)) s.holding.live.version.blobs from.from t.backed.files.named.blobs from.there)
  needed_synced (Temp n) need = absurd need

-- ---- a store

-- where all writes are durable all batches of the log in use are synced
own_synced : (held : Held) (s : Stored) (disk : Disk) → AllAreDurable held → (t : StandsFor [] held s disk) → t.steady.synced ≡ length t.steady.own
own_synced held s disk all t =
    let durable = t.durable in
    let writes = t.writes in
    let count = t.is_steady.backed.count in
    let within : t.steady.synced ≤ length (map record_of t.steady.own) = t.is_steady.backed.in_use.within in
    let same : length (map record_of t.steady.own) ≡ length t.steady.own = length-map t.steady.own record_of in
    omega (arith, durable, writes, count, within, same, all)

pub durable_synced : DurableStoresAreSynced
durable_synced held s disk order unbroken all t =
    let c = t.carries in
    let synced : NeededAreSynced disk t.steady.manifest.number t.steady.holding.live = needed_synced (maps_of held) t.steady disk t.is_steady (usable_of s t.steady order unbroken c) (own_synced held s disk all t) in
    subst (λ (r : Restored). NeededAreSynced disk s.manifest.number r) c.live (subst (λ (m : ManifestFile). NeededAreSynced disk m.number t.steady.holding.live) c.manifest synced)

pub durable_left : SyncedAreLeft → DurableStoresAreLeft
durable_left law held s disk told cut all t is_cut =
    subst (λ (m : Map). IsLeftFor m cut) (ap (maps_of held) t.writes ∙ maps_last held) (law (maps_of held) t.steady disk told cut t.is_steady (own_synced held s disk all t) is_cut)

-- ---- at a site

module _ (synced : DurableStoresAreSynced) (left : DurableStoresAreLeft) (settled : SteadyAreSettled) {S : Type 0} (g : Ghosts S) (held : Held) (s : Stored) (site : S) (order : IsInOrder s) (unbroken : s.broken ≡ false) (only : g.certain site → IsOnly g site) where
  pub at_rest : StandsFor [] (all_durable held) s (g.disk site) → IsAtRest g held s site
  at_rest t = record {
    synced = synced (all_durable held) s (g.disk site) order unbroken refl t;
    settled = settled_of settled (all_durable held) s (g.disk site) t (order.manifest unbroken);
    left = λ sure c may.
        left (all_durable held) s (g.disk site) (g.told site) c refl t (subst (λ (d : Disk). IsCut d (g.told site) c) (only sure may.disk may.possible) may.is_cut);
  }

pub at_ok : DurableStoresAreSynced → DurableStoresAreLeft → SteadyAreSettled → {S T : Type 0} (g : Ghosts S) (held : Held) (old new : Stored) (site : S) (result : Result T StoreErr) → IsInOrder old → old.broken ≡ false → (g.certain site → IsOnly g site)
    → OnOk result (new ≡ old) → LeavesStore [] held (all_durable held) result new (g.disk site) → OnOk result (IsAtRest g held new site)
at_ok synced left settled g held old new site (Ok x) order unbroken only same leaves =
    at_rest synced left settled g held new site (subst IsInOrder (sym same) order) (ap (λ (s : Stored). s.broken) same ∙ unbroken) only leaves.ok
at_ok synced left settled g held old new site (Err e) order unbroken only same leaves = tt
