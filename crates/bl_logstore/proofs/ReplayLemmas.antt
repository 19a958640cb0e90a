-- Replaying the logs of a folder, one after another.
use Rattle.std.proofs.Common.{◌≡◌, ℕ, zero, suc, ◌+◌, ◌-◌, ◌<◌, ◌≤◌, List, [], ◌∷◌, ◌++◌, length, drop, get_or, refl, sym, ◌∙◌, ap, subst, arith, IsSome, ◌⊎◌, inl, inr}
use Rattle.std.specs.FinMap.{empty}
use Rattle.bl_site.specs.Disk.{Folder}
use Rattle.bl_names.specs.Names.{IsNumber}
use Rattle.bl_log.specs.Log.{records}
use Rattle.bl_entry.specs.Records.{batches_of, BatchesJoin}
use Rattle.bl_entry.specs.Revisions.{Map}
use Rattle.bl_entry.specs.declared.key.Entry.{Entry}
use Rattle.bl_wal.specs.LogFile.{log_name}
use Rattle.bl_wal.specs.Replay.{HasEntries, IsTorn}
use Rattle.bl_logstore.specs.Logs.{bytes_in, log_bytes, records_up_to, after_batches}
use Rattle.bl_logstore.specs.Damage.{BreaksAt}
use Rattle.bl_logstore.specs.Listing.{AreLogsAbove}
use Rattle.bl_logstore.specs.Replaying.{after_entries, HasReplayed, HasAll}
use Rattle.bl_logstore.proofs.BatchLemmas.{join_some, after_more}
use Rattle.bl_logstore.proofs.EntryLemmas.{from_batches}
use Rattle.bl_logstore.proofs.LogLemmas.{up_to_next, up_to_empty}
use Rattle.bl_logstore.proofs.NumberLemmas.{between, behind}

-- one log more
pub replayed_one : BatchesJoin → (folder : Folder) (number last last_after : ℕ) (entries : List Entry) (now now_after : Map) → IsNumber number
    → HasEntries folder number last entries last_after → now_after ≡ after_entries entries now → HasReplayed folder (number - 1) now last → HasReplayed folder number now_after last_after
replayed_one join folder number last last_after entries now now_after is h written r = record {
  batches = r.batches ++ h.replays.batches;
  are =
      let same : log_bytes number folder ≡ h.bytes = ap bytes_in h.there in
      ap (λ rs. batches_of rs 0) (up_to_next number folder is.0 ∙ ap (λ b. records_up_to (number - 1) folder ++ records b) same)
      ∙ join_some join (records_up_to (number - 1) folder) (records h.bytes) 0 last last_after r.batches h.replays.batches r.are h.replays.are;
  now_is =
      written ∙ ap (λ es. after_entries es now) h.replays.entries_are ∙ from_batches h.replays.batches now
      ∙ ap (after_batches h.replays.batches) r.now_is ∙ sym (after_more r.batches h.replays.batches empty);
}

-- the log breaks off
pub broken_at : (folder : Folder) (number last place : ℕ) (now : Map) → IsNumber number → IsTorn folder number last place → IsSome (folder (log_name number))
    → HasReplayed folder (number - 1) now last → BreaksAt folder number place
broken_at folder number last place now is torn some r = elim torn [
  | inl none ↦ absurd (cc (none.0, some))
  | inr t ↦ record { is_number = is; bytes = t.0; there = t.1; batches = r.batches; last = last; below = r.are; breaks = t.2 }
]

-- up to the log before the next one
pub up_to : (folder : Folder) (from k : ℕ) (keys : List ℕ) (now : Map) (last : ℕ) → AreLogsAbove from (k ∷ keys) folder → HasReplayed folder from now last → HasReplayed folder (k - 1) now last
up_to folder from k keys now last a r = record {
  batches = r.batches;
  are = ap (λ rs. batches_of rs 0) (up_to_empty from (k - 1) folder (omega (arith, a.each.0.0)) (λ n lt le. ap bytes_in (between from k keys folder a n lt (omega (arith, le, a.each.0.0))))) ∙ r.are;
  now_is = r.now_is;
}

-- all of them
pub all_replayed : (folder : Folder) (from : ℕ) (now : Map) (last : ℕ) → (from ≡ 0) ⊎ (IsNumber from × IsSome (folder (log_name from))) → AreLogsAbove from [] folder
    → HasReplayed folder from now last → HasAll folder now last from
all_replayed folder from now last there a r = record { batches = r.batches; are = r.are; now_is = r.now_is; above = behind from folder a; there = there }

-- none of them
pub none_replayed : (folder : Folder) (now : Map) → now ≡ empty → HasReplayed folder 0 now 0
unfolding records_up_to batches_of after_batches
none_replayed folder now is = record { batches = []; are = refl; now_is = is }

-- the numbers that are left at a place
pub left_now : (numbers : List ℕ) (k from : ℕ) (folder : Folder) → k < length numbers → AreLogsAbove from (drop k numbers) folder → AreLogsAbove from (get_or numbers k 0 ∷ drop (k + 1) numbers) folder
left_now numbers k from folder lt a = let P : List ℕ → Type 0 = λ ns. AreLogsAbove from ns folder in subst P (drop_at numbers k lt) a
  where
    drop_at : (xs : List ℕ) (k : ℕ) → k < length xs → drop k xs ≡ get_or xs k 0 ∷ drop (k + 1) xs
    drop_at [] k lt = absurd (omega (arith, lt))
    drop_at (x ∷ xs) zero lt = refl
    drop_at (x ∷ xs) (suc k) lt = let e : suc k + 1 ≡ suc (k + 1) = omega arith in drop_at xs k (omega (arith, lt)) ∙ ap (λ n. get_or xs k 0 ∷ drop n (x ∷ xs)) (sym e)

pub none_left : (numbers : List ℕ) (k from : ℕ) (folder : Folder) → length numbers ≤ k → AreLogsAbove from (drop k numbers) folder → AreLogsAbove from [] folder
none_left numbers k from folder le a = let P : List ℕ → Type 0 = λ ns. AreLogsAbove from ns folder in subst P (drop_all numbers k le) a
  where
    drop_all : (xs : List ℕ) (k : ℕ) → length xs ≤ k → drop k xs ≡ []
    drop_all [] zero le = refl
    drop_all [] (suc k) le = refl
    drop_all (x ∷ xs) zero le = absurd (omega (arith, le))
    drop_all (x ∷ xs) (suc k) le = drop_all xs k (omega (arith, le))

-- the log in hand breaks off
pub replayed_at : (folder now_folder : Folder) (number place : ℕ) (name : List ℕ) (now : Map) (last : ℕ) → now_folder ≡ folder
    → (IsSome (now_folder (log_name number)) → HasReplayed now_folder (number - 1) now last → (name ≡ log_name number) × BreaksAt now_folder number place)
    → IsSome (folder (log_name number)) → HasReplayed folder (number - 1) now last → (name ≡ log_name number) × BreaksAt folder number place
replayed_at folder now_folder number place name now last same breaks some r =
    let P : Folder → Type 0 = λ f. (name ≡ log_name number) × BreaksAt f number place in
    let Q : Folder → Type 0 = λ f. IsSome (f (log_name number)) in
    let R : Folder → Type 0 = λ f. HasReplayed f (number - 1) now last in
    subst P same (breaks (subst Q (sym same) some) (subst R (sym same) r))
