-- The logs that a run leaves.
use Rattle.std.proofs.Common.{◌≡◌, ℕ, ◌≤◌, Bool, true, false, cond, List, [], ◌++◌, Option, None, Some, refl, sym, ◌∙◌, ap, subst, append-nil}
use Rattle.std.specs.Prelude.{unwrap_or}
use Rattle.std.specs.Option.{option_map}
use Rattle.bl_site.specs.Disk.{Disk, File, folder_of, written_of}
use Rattle.bl_names.specs.declared.name.FileName.TheVariants.{Log}
use Rattle.bl_names.specs.Names.{IsNumber, name_of}
use Rattle.bl_edit.specs.Bounds.{is_number}
use Rattle.bl_log.specs.Log.{records}
use Rattle.bl_build.specs.Restoring.{Restored}
use Rattle.bl_entry.specs.Revisions.{Map}
use Rattle.bl_folder.specs.Files.{log_bytes}
use Rattle.bl_folder.specs.FlushLaws.{LogsAlike}
use Rattle.bl_folder.specs.Logs.{HaveBatches}
use Rattle.bl_folder.specs.Settled.{NeededAreSynced}
use Rattle.bl_folder.proofs.Finding.{from_test}
use Rattle.bl_machine.specs.State.{State}
use Rattle.bl_store.specs.Stored.{Stored}
use Rattle.bl_store.specs.Held.{Held}
use Rattle.bl_store.specs.Standing.{StandsFor}
use Rattle.bl_promise.specs.Carried.{state_of}
use Rattle.bl_promise.specs.Lines.{BytesAreInLogs}
use Rattle.bl_promise.specs.Telling.{LeavesBatches}

-- where it is synced, a log reads as it is written
synced_log : (disk : Disk) (manifest : ℕ) (live : Restored) (n : ℕ) → NeededAreSynced disk manifest live → live.standing.log_number ≤ n → log_bytes (folder_of disk) n ≡ log_bytes (written_of disk) n
synced_log disk manifest live n synced le = by_number (is_number n) refl
  where
    by_file : IsNumber n → (x : Option File) → disk (name_of (Log n)) ≡ x → option_map (λ (f : File). f.read) x ≡ option_map (λ (f : File). f.front ++ f.handed) x
    by_file valid None e = refl
    by_file valid (Some f) e = let k = synced (Log n) (valid, le) f e in ap Some (sym (ap (λ h. f.front ++ h) k.handed ∙ append-nil f.front ∙ k.front))

    by_number : (t : Bool) → is_number n ≡ t → cond t (unwrap_or (folder_of disk (name_of (Log n))) []) [] ≡ cond t (unwrap_or (written_of disk (name_of (Log n))) []) []
    by_number false is = refl
    by_number true is = ap (λ (o : Option (List ℕ)). unwrap_or o []) (by_file (from_test n is) (disk (name_of (Log n))) refl)

-- A store that stands on the disk leaves the batches that the machine counts.
pub leaves_batches : LogsAlike → BytesAreInLogs → (held : Held) (store : Stored) (disk : Disk) (now : Map) (s : State) → StandsFor [] held store disk → s ≡ state_of now store
    → NeededAreSynced disk store.manifest.number (record { version = store.version; standing = store.standing }) → LeavesBatches (folder_of disk) (record { version = store.version; standing = store.standing }) s
leaves_batches alike law held store disk now s t is synced =
    let live : Restored = record { version = store.version; standing = store.standing } in
    let b = t.is_steady.backed.batches in
    let have : HaveBatches (written_of disk) live.standing.log_number live.standing.last_sequence t.steady.holding.batches t.steady.holding.last =
    subst (λ (r : Restored). HaveBatches (written_of disk) r.standing.log_number r.standing.last_sequence t.steady.holding.batches t.steady.holding.last) t.carries.live b in
    let counted = law [] held store disk t in
    record {
      batches = t.steady.holding.batches;
      last = t.steady.holding.last;
      have = alike (written_of disk) (folder_of disk) live.standing.log_number live.standing.last_sequence t.steady.holding.last t.steady.holding.batches
          (λ n le. ap records (synced_log disk store.manifest.number live n synced le)) have;
      waiting = t.steady.below;
      none = λ quiet. counted.1 (sym (ap (λ (x : State). x.waits) is) ∙ quiet);
      bytes = counted.0 ∙ sym (ap (λ (x : State). x.buffered) is);
    }
