-- A store on its disk, from call to call.
use Rattle.std.proofs.Common.{false, ◌≡◌, ◌≢◌, Bool, Err, IsErrOf, append_assoc, ℕ, ◌+◌, ◌-◌, ◌^◌, ◌<◌, List, [], ◌∷◌, ◌++◌, map, length, Option, None, Some, IsSome, refl, sym, ◌∙◌, ap, subst, arith, append-nil, ◌⊎◌, inl, inr}
use Rattle.std.proofs.lemmas.Bool.{cases_lt}
use Rattle.std.proofs.lemmas.List.{map-append}
use Rattle.std.specs.FinMap.{empty}
use Rattle.std.specs.Prelude.{max}
use Rattle.std.specs.Option.{option_map}
use Rattle.bl_site.specs.Disk.{Name, File, Folder, Disk, folder_of}
use Rattle.bl_site.specs.Calls.{Creates}
use Rattle.bl_names.specs.Names.{IsNumber, NamesOne}
use Rattle.bl_records.proofs.HeldLemmas.{created_holds}
use Rattle.bl_entry.specs.Batches.{Batch}
use Rattle.bl_entry.specs.Records.{batches_of}
use Rattle.bl_entry.specs.Revisions.{Map, after_operations}
use Rattle.bl_entry.specs.declared.batch.Operation.{Operation}
use Rattle.bl_wal.specs.LogFile.{LogFile, log_name, new_log}
use Rattle.bl_wal.specs.Held.{record_of, IsReadBack, HoldsBatches, HoldsOneMore}
use Rattle.bl_wal.specs.declared.error.WalErr.{WalErr}
use Rattle.bl_wal.specs.declared.error.WalErr.TheVariants as wal
use Rattle.bl_wal.specs.Laws.{NextBatchIsRead}
use Rattle.bl_logstore.specs.Logs.{bytes_in, after_batches}
use Rattle.bl_logstore.specs.Folders.{HasOnlyLogs, IsOther, IsNext}
use Rattle.bl_logstore.specs.Replaying.{HasAll, WasRead}
use Rattle.bl_logstore.specs.Stored.{Stored, next_batch, IsSynced, StandsOn, Carries, Makes, Opens, IsOpened}
use Rattle.bl_logstore.proofs.BatchLemmas.{after_more, after_one}
use Rattle.bl_logstore.proofs.FolderLemmas.{not_there, makes}
use Rattle.bl_logstore.proofs.LogLemmas.{up_to_same, up_to_empty}
use Rattle.bl_logstore.proofs.OpenLemmas.{next_is}
use Rattle.bl_logstore.proofs.NameLemmas.{one_number, log_is_no_other}

other_name : NamesOne → (k n : ℕ) → IsNumber k → IsNumber n → (k ≡ n → ⊥) → log_name k ≢ log_name n
other_name law k n ik in_ ne e = ne (one_number law k n ik in_ e)

none_behind : (last : ℕ) → batches_of [] last ≡ Some ([], last)
unfolding batches_of
none_behind last = refl

-- another file does not matter
only_logs : NamesOne → (number : ℕ) (old new : Folder) → IsNumber number → ((other : Name) → other ≢ log_name number → new other ≡ old other) → HasOnlyLogs old → HasOnlyLogs new
only_logs law number old new is others only name some other =
    let P : Name → Type 0 = IsOther in
    let ne : name ≢ log_name number = λ e. log_is_no_other law number is (subst P e other) in
    only name (let Q : Option (List ℕ) → Type 0 = IsSome in subst Q (others name ne) some) other

same_reads : (old new : Disk) (name : Name) → new name ≡ old name → folder_of new name ≡ folder_of old name
same_reads old new name e = ap (option_map (λ (file : File). file.read)) e

-- The log in use has changed, and nothing else.
pub changes : NamesOne → (log : LogFile) (older own : List Batch) (synced last : ℕ) (old new : Disk) (log_next : LogFile) (own_next : List Batch) (synced_next last_next : ℕ) (s : StandsOn log older own synced last old)
    → log_next.number ≡ log.number → ((other : Name) → other ≢ log_name log.number → new other ≡ old other) → HoldsBatches new log_next own_next synced_next
    → batches_of (map record_of own_next) s.between ≡ Some (own_next, last_next) → StandsOn log_next older own_next synced_next last_next new
changes law log older own synced last old new log_next own_next synced_next last_next s same others holds follow =
    let n = log.number in
    let differ : (k : ℕ) → IsNumber k → (k ≡ n → ⊥) → new (log_name k) ≡ old (log_name k) = λ k ik ne. others (log_name k) (other_name law k n ik s.is_number ne) in
    let here : LogFile = record { number = n; place = log_next.place; failed = log_next.failed } in
    let is : log_next ≡ here = λ i. record { number = same i; place = log_next.place; failed = log_next.failed } in
    let P : LogFile → Type 0 = λ l. HoldsBatches new l own_next synced_next in
    let Q : LogFile → Type 0 = λ l. StandsOn l older own_next synced_next last_next new in
    subst Q (sym is) (record {
      only = only_logs law n (folder_of old) (folder_of new) s.is_number (λ other ne. same_reads old new other (others other ne)) s.only;
      is_number = s.is_number;
      newest = λ k lt less. differ k (omega (arith, lt), less) (λ e. omega (arith, lt, e)) ∙ s.newest k lt less;
      below_synced = λ k ik lt. subst IsSynced (sym (differ k ik (λ e. omega (arith, lt, e)))) (s.below_synced k ik lt);
      between = s.between;
      below =
          ap (λ r. batches_of r 0) (up_to_same (n - 1) (folder_of new) (folder_of old)
          (λ k some le. ap bytes_in (same_reads old new (log_name k) (differ k (some, omega (arith, le, s.is_number.1)) (λ e. omega (arith, le, e, some)))))) ∙ s.below;
      holds = subst P is holds;
      follow = follow;
    })

-- a batch more
pub more_follow : NextBatchIsRead → (own : List Batch) (between last : ℕ) (b : Batch) → batches_of (map record_of own) between ≡ Some (own, last) → IsReadBack b → b.first ≡ last + 1
    → batches_of (map record_of (own ++ b ∷ [])) between ≡ Some (own ++ b ∷ [], last + length b.operations)
more_follow law own between last b follow read first = ap (λ r. batches_of r between) (map-append record_of own (b ∷ [])) ∙ law (map record_of own) between last own b follow read first

-- the number of the next log
pub is_next : (folder : Folder) (now : Map) (last greatest number : ℕ) → HasAll folder now last greatest → number ≡ max (greatest + 1) 2 → IsNext folder number
is_next folder now last greatest number all is = record {
  above = λ other io some. elim (cases_lt greatest other) [
    | inl lt ↦ absurd (cc (some, all.above other lt io.1))
    | inr le ↦ omega (arith, le, is)
  ];
  at_least = omega (arith, is);
  least = elim (next_is greatest number is) [
    | inl e ↦ inl e
    | inr e ↦ elim all.there [
      | inl zero ↦ inl (omega (arith, is, e, zero))
      | inr there ↦
          let same_number : greatest ≡ number - 1 = omega (arith, e) in
          let T : ℕ → Type 0 = λ n. IsNumber n × IsSome (folder (log_name n)) in
          inr (subst T same_number there)
    ]
  ];
}

pub within_bound : (folder : Folder) (now : Map) (last greatest : ℕ) → HasAll folder now last greatest → greatest < 10 ^ 15
within_bound folder now last greatest all = elim all.there [ inl zero ↦ omega (arith, zero) | inr there ↦ there.0.1 ]

-- A store is opened: the next log was made on a disk whose logs were synced and replayed.
pub opens : NamesOne → (folder : Folder) (before after : Disk) (store : Stored) (greatest number : ℕ) → WasRead folder before store.now store.last greatest
    → number ≡ max (greatest + 1) 2 → number < 10 ^ 15 → Creates (log_name number) before after → store.log ≡ new_log number → Opens folder store after
opens law folder before after store greatest number read is less made log =
    let all = read.all in
    let bound : greatest < 10 ^ 15 = within_bound folder store.now store.last greatest all in
    let is_number : IsNumber number = (omega (arith, is), less) in
    let differ : (k : ℕ) → IsNumber k → (k ≡ number → ⊥) → after (log_name k) ≡ before (log_name k) = λ k ik ne. made.others (log_name k) (other_name law k number ik is_number ne) in
    let at : (name : Name) → folder_of before name ≡ folder name = λ name. ap (λ f. f name) read.same in
    let none : (k : ℕ) → greatest < k → k < 10 ^ 15 → before (log_name k) ≡ None = λ k lt k_less. not_there (before (log_name k)) (at (log_name k) ∙ all.above k lt k_less) in
    let P : LogFile → Type 0 = λ l. StandsOn l all.batches [] 0 store.last after in
    let M : Folder → Type 0 = λ f. Makes (log_name number) f (folder_of after) in
    let on : StandsOn (new_log number) all.batches [] 0 store.last after = record {
      only = only_logs law number (folder_of before) (folder_of after) is_number (λ other ne. same_reads before after other (made.others other ne))
          (λ name some other. read.only name (let Q : Option (List ℕ) → Type 0 = IsSome in subst Q (at name) some) other);
      is_number = is_number;
      newest = λ k lt k_less. differ k (omega (arith, lt), k_less) (λ e. omega (arith, lt, e)) ∙ none k (omega (arith, lt, is)) k_less;
      below_synced = λ k ik lt. subst IsSynced (sym (differ k ik (λ e. omega (arith, lt, e)))) (read.synced k ik);
      between = store.last;
      below =
          ap (λ r. batches_of r 0) (up_to_same (number - 1) (folder_of after) folder
          (λ k some le. ap bytes_in (same_reads before after (log_name k) (differ k (some, omega (arith, le, less)) (λ e. omega (arith, le, e, some))) ∙ at (log_name k)))
          ∙ up_to_empty greatest (number - 1) folder (omega (arith, is)) (λ k lt le. ap bytes_in (all.above k lt (omega (arith, le, less))))) ∙ all.are;
      holds = created_holds (log_name number) before after made;
      follow = none_behind store.last;
    } in
    record {
      whole = ap (λ (l : LogFile). l.failed) log;
      batches = all.batches;
      only = read.only;
      had = record { top = greatest; is_number = bound; no_more = λ k lt k_less. ap bytes_in (all.above k lt k_less); are = all.are };
      carries = record { on = subst P (sym log) on; now_is = all.now_is ∙ ap (λ bs. after_batches bs empty) (sym (append-nil all.batches)) };
      next = let N : ℕ → Type 0 = λ n. IsNext folder n in subst N (sym (ap (λ (l : LogFile). l.number) log)) (is_next folder store.now store.last greatest number all is);
      made = let N : ℕ → Type 0 = λ n. Makes (log_name n) folder (folder_of after) in
          subst N (sym (ap (λ (l : LogFile). l.number) log)) (subst M read.same (makes (log_name number) before after made));
    }

pub is_opened : NamesOne → (folder : Folder) (before after : Disk) (now : Map) (last greatest number : ℕ) → WasRead folder before now last greatest
    → number ≡ max (greatest + 1) 2 → number < 10 ^ 15 → Creates (log_name number) before after → IsOpened folder after
is_opened law folder before after now last greatest number read is less made =
    let store : Stored = record { log = new_log number; last = last; now = now; broken = false } in
    record { store = store; usable = refl; opens = opens law folder before after store greatest number read is less made refl }

-- after a write
pub carried : NextBatchIsRead → NamesOne → (store : Stored) (log_next : LogFile) (last_next : ℕ) (now_next : Map) (broken : Bool) (operations : List Operation) (older own : List Batch) (synced : ℕ) (old new : Disk)
    → log_next.number ≡ store.log.number → last_next ≡ store.last + length operations → ((other : Name) → other ≢ log_name store.log.number → new other ≡ old other)
    → HoldsBatches new log_next (own ++ next_batch store operations ∷ []) synced → IsReadBack (next_batch store operations) → now_next ≡ after_operations operations store.now
    → Carries store older own synced old
    → Carries (record { log = log_next; last = last_next; now = now_next; broken = broken }) older (own ++ next_batch store operations ∷ []) synced new
carried next law store log_next last_next now_next broken operations older own synced old new same last others holds read now c =
    let b = next_batch store operations in
    let P : ℕ → Type 0 = λ l. StandsOn log_next older (own ++ b ∷ []) synced l new in
    record {
      on = subst P (sym last) (changes law store.log older own synced store.last old new log_next (own ++ b ∷ []) synced (store.last + length operations) c.on same others holds
          (more_follow next own c.on.between store.last b c.on.follow read refl));
      now_is =
          now ∙ ap (after_operations operations) c.now_is ∙ sym (after_more (older ++ own) (b ∷ []) empty ∙ after_one b (after_batches (older ++ own) empty))
          ∙ ap (λ bs. after_batches bs empty) (append_assoc older own (b ∷ []));
    }

-- after a write that failed
pub may_hold : NextBatchIsRead → NamesOne → (store : Stored) (log_next : LogFile) (operations : List Operation) (older own : List Batch) (synced : ℕ) (old new : Disk) (e : WalErr)
    → log_next.number ≡ store.log.number → HoldsOneMore (Err e) new log_next own (next_batch store operations) synced
    → (IsErrOf {T = Unit {0}} (Err e) wal.Disk → (other : Name) → other ≢ log_name store.log.number → new other ≡ old other)
    → (IsErrOf {T = Unit {0}} (Err e) wal.OutOfMemory → new ≡ old) → (IsErrOf {T = Unit {0}} (Err e) wal.Disk → IsReadBack (next_batch store operations))
    → Carries store older own synced old
    → StandsOn log_next older own synced store.last new ⊎ StandsOn log_next older (own ++ next_batch store operations ∷ []) synced (store.last + length operations) new
may_hold next law store log_next operations older own synced old new wal.Disk same holds others memory read c =
    let b = next_batch store operations in
    inr (changes law store.log older own synced store.last old new log_next (own ++ b ∷ []) synced (store.last + length operations) c.on same (others refl) holds
    (more_follow next own c.on.between store.last b c.on.follow (read refl) refl))
may_hold next law store log_next operations older own synced old new wal.OutOfMemory same holds others memory read c =
    inl (changes law store.log older own synced store.last old new log_next own synced store.last c.on same (λ other ne. ap (λ (d : Disk). d other) (memory refl)) holds c.on.follow)
may_hold next law store log_next operations older own synced old new (wal.Corrupt name place) same holds others memory read c = absurd holds
