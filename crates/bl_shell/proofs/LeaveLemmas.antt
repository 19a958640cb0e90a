-- What some lines leave in the folder.
use Rattle.std.proofs.Common.{◌≡◌, ℕ, ◌+◌, ◌<◌, ◌^◌, Bool, true, false, cond, List, [], ◌∷◌, ◌++◌, length, None, IsSome, refl, sym, ◌∙◌, ap, subst, append_assoc, length-append, arith}
use Rattle.std.specs.Option.{option_map}
use Rattle.std.specs.FinMap.{empty}
use Rattle.bl_site.specs.Disk.{File, Folder, Disk, folder_of}
use Rattle.bl_names.specs.Names.{IsNumber}
use Rattle.bl_entry.specs.Batches.{Batch}
use Rattle.bl_entry.specs.Revisions.{Map, revisions_of, IsMapAt}
use Rattle.bl_script.specs.declared.command.Parsed.{Parsed}
use Rattle.bl_wal.specs.LogFile.{log_name}
use Rattle.bl_logstore.specs.Folders.{Stands}
use Rattle.bl_logstore.specs.Laws.{StoresStand, BatchesMakeMap}
use Rattle.bl_logstore.specs.Logs.{after_batches}
use Rattle.bl_logstore.specs.Stored.{Stored}
use Rattle.bl_shell.specs.Machine.{Line, Runs, written_by, operations_in, numbered, reopens, reopens_in, Start}
use Rattle.bl_shell.specs.Carried.{state_of, Keeps, IsServable, Obeyed}
use Rattle.bl_shell.specs.Synced.{syncs, before_sync}
use Rattle.bl_shell.specs.Telling.{LeavesLogs}
use Rattle.bl_shell.proofs.HistoryLemmas.{runs_then, written_more, reopens_more, operations_more, numbered_more}
use Rattle.bl_shell.proofs.StayLemmas.{keeps_then, log_there, stands}
use Rattle.bl_shell.proofs.SyncedLemmas.{before_sync_more, numbered-length}

least_more : (b : Bool) (batches least found after writes before : ℕ) → batches ≡ found + writes → least ≡ found + before → after ≡ cond b writes before → cond b batches least ≡ found + after
least_more true batches least found after writes before all same is = all ∙ ap (λ n. found + n) (sym is)
least_more false batches least found after writes before all same is = same ∙ ap (λ n. found + n) (sym is)

-- the store after some lines
pub record Reached (began : Start) (folder : Folder) (history : List Line) (store : Stored) (disk : Disk) : Type 0 where
  pub runs : Runs (record { now = began.now }) history (state_of store)
  pub stays : IsServable store (began.batches ++ numbered (began.last + 1) (written_by history)) (length began.batches + before_sync history) disk
  pub last_is : store.last ≡ began.last + operations_in (written_by history)
  pub number_is : store.log.number ≡ began.number + reopens_in history
  pub keeps : Keeps began.number folder (folder_of disk)

-- and after one more
pub reached_more : (began : Start) (folder : Folder) (history : List Line) (order : Parsed) (store next : Stored) (disk disk_next : Disk) (told told_next : List ℕ)
    → (o : Obeyed order store next disk disk_next told told_next) → Reached began folder history store disk → Reached began folder (history ++ o.line ∷ []) next disk_next
reached_more began folder history order store next disk disk_next told told_next o c =
    let found = length began.batches in
    let least = found + before_sync history in
    let writes = written_by history in
    let n = began.last + 1 in
    let first : store.last + 1 ≡ n + operations_in writes = omega (arith, c.last_is) in
    let B : List Batch → Type 0 = λ bs. IsServable next bs (found + before_sync (history ++ o.line ∷ [])) disk_next in
    let L : ℕ → Type 0 = λ l. IsServable next ((began.batches ++ numbered n writes) ++ numbered (store.last + 1) o.line.wrote) l disk_next in
    record {
      runs = runs_then history (o.line ∷ []) (record { now = began.now }) (state_of store) (state_of next) c.runs (state_of next, o.step, refl);
      stays = subst B
          (ap (λ k. (began.batches ++ numbered n writes) ++ numbered k o.line.wrote) first
          ∙ append_assoc began.batches (numbered n writes) (numbered (n + operations_in writes) o.line.wrote)
          ∙ ap (λ bs. began.batches ++ bs) (sym (ap (numbered n) (written_more history o.line) ∙ numbered_more n writes o.line.wrote)))
          (subst L (least_more (syncs order) (length (began.batches ++ numbered n writes)) least found (before_sync (history ++ o.line ∷ [])) (length writes) (before_sync history)
          (length-append began.batches (numbered n writes) ∙ ap (λ m. found + m) (numbered-length n writes)) refl
          (before_sync_more history o.line ∙ ap (λ (x : Parsed). cond (syncs x) (length writes) (before_sync history)) o.ordered))
          (o.stays (began.batches ++ numbered n writes) least c.stays));
      last_is = omega (arith, o.last_is, c.last_is, ap operations_in (written_more history o.line), operations_more writes o.line.wrote);
      number_is = omega (arith, o.number_is, c.number_is, reopens_more history o.line, ap reopens o.ordered);
      keeps = keeps_then began.number store.log.number folder (folder_of disk) (folder_of disk_next) (omega (arith, c.number_is)) c.keeps o.keeps;
    }

-- the folder then stands for the map after them
pub leaves_logs : StoresStand → BatchesMakeMap → (began : Start) (folder after : Folder) (history : List Line) (store : Stored) (disk : Disk) → after ≡ folder_of disk
    → Reached began folder history store disk → LeavesLogs folder after began history store.now
leaves_logs stand make began folder after history store disk same r =
    let all = began.batches ++ numbered (began.last + 1) (written_by history) in
    let least = length began.batches + before_sync history in
    let there : Stands (folder_of disk) all store.last = stands stand store all least disk r.stays in
    let map_is : IsMapAt (revisions_of all) store.last (after_batches all empty) = make (folder_of disk) all store.last there.have in
    let now : after_batches all empty ≡ store.now = ap (λ bs. after_batches bs empty) (sym r.stays.all) ∙ sym r.stays.carries.now_is in
    let S : ℕ → Type 0 = λ l. Stands (folder_of disk) all l in
    let M : Map → Type 0 = λ m. IsMapAt (revisions_of all) store.last m in
    let L : ℕ → Type 0 = λ l. IsMapAt (revisions_of all) l store.now in
    let N : ℕ → Type 0 = λ n. IsNumber n in
    let I : ℕ → Type 0 = λ n. IsSome (folder_of disk (log_name n)) in
    let V : ℕ → Type 0 = λ k. (n : ℕ) → k < n → n < 10 ^ 15 → folder_of disk (log_name n) ≡ None in
    let P : Folder → Type 0 = λ g. LeavesLogs folder g began history store.now in
    subst P (sym same) (record {
      stands = subst S r.last_is there;
      map_is = subst L r.last_is (subst M now map_is);
      has_number = subst N r.number_is r.stays.carries.on.is_number;
      in_use = subst I r.number_is (log_there store all least disk r.stays);
      newest = subst V r.number_is (λ n a b. ap (option_map (λ (file : File). file.read)) (r.stays.carries.on.newest n a b));
      keeps = r.keeps;
    })
