-- A store on its disk, from line to line.
use Rattle.std.proofs.Common.{◌≡◌, ◌≢◌, ℕ, ◌+◌, ◌-◌, ◌^◌, ◌<◌, ◌≤◌, Bool, false, cond, List, [], ◌∷◌, ◌++◌, length, Option, None, IsSome, refl, sym, ◌∙◌, ap, subst, arith, append_assoc, append-nil, length-append, inl, inr}
use Rattle.std.proofs.lemmas.Bool.{cases_lt}
use Rattle.std.specs.FinMap.{empty}
use Rattle.std.specs.Option.{option_map}
use Rattle.bl_site.specs.Disk.{Name, File, Folder, Disk, folder_of}
use Rattle.bl_site.specs.Calls.{Appends, Syncs}
use Rattle.bl_names.specs.Names.{IsNumber}
use Rattle.bl_entry.specs.Batches.{Batch}
use Rattle.bl_entry.specs.Revisions.{Map, after_operations}
use Rattle.bl_script.specs.Printing.{ok_line}
use Rattle.bl_script.specs.declared.command.Command.TheVariants as command
use Rattle.bl_script.specs.declared.command.Parsed.TheVariants.{Go}
use Rattle.bl_script.specs.declared.command.Parsed.{Parsed}
use Rattle.bl_wal.specs.LogFile.{log_name}
use Rattle.bl_logstore.specs.declared.error.StoreErr.{StoreErr}
use Rattle.bl_logstore.specs.declared.error.StoreErr.TheVariants as store
use Rattle.bl_shell.specs.declared.stop.Stop.TheVariants as stop
use Rattle.bl_shell.specs.Causes.{stop_of_store}
use Rattle.bl_logstore.specs.Logs.{after_batches}
use Rattle.bl_logstore.specs.Folders.{Stands, IsNext}
use Rattle.bl_logstore.specs.Laws.{StoresStand, BatchesAreOnce}
use Rattle.bl_logstore.specs.Stored.{Stored, Carries, Opens, next_batch, next_record, wrote}
use Rattle.bl_shell.specs.Machine.{Write, Line, after_writes, operations_in, numbered}
use Rattle.bl_shell.specs.Synced.{syncs}
use Rattle.bl_shell.specs.Carried.{IsServable, Keeps, Obeyed, IsWrite, IsTold}

-- the same disk
pub stays_same : (store : Stored) (batches : List Batch) (least : ℕ) (disk next : Disk) → next ≡ disk → IsServable store batches least disk → IsServable store (batches ++ []) least next
stays_same store batches least disk next same s =
    let P : Disk → Type 0 = λ d. IsServable store (batches ++ []) least d in
    let Q : List Batch → Type 0 = λ bs. IsServable store bs least disk in
    subst P (sym same) (subst Q (sym (append-nil batches)) s)

pub keeps_same : (first : ℕ) (disk next : Disk) → next ≡ disk → Keeps first (folder_of disk) (folder_of next)
keeps_same first disk next same = λ name other. ap (λ d. folder_of d name) same

pub keeps_then : (first second : ℕ) (a b c : Folder) → first ≤ second → Keeps first a b → Keeps second b c → Keeps first a c
keeps_then first second a b c le ab bc = λ name other. bc name (λ n more is. other n (omega (arith, le, more)) is) ∙ ab name other

no_writes : (m : Map) → after_writes [] m ≡ m
unfolding after_writes
no_writes m = refl

pub none_numbered : (first : ℕ) → numbered first [] ≡ []
unfolding numbered
none_numbered first = refl

pub no_operations : operations_in [] ≡ 0
unfolding operations_in
no_operations = refl

-- a line that only tells
pub told_only : (order : Parsed) (store : Stored) (disk next : Disk) (reply told told_next : List ℕ) → IsTold order store.now reply → next ≡ disk → told_next ≡ told ++ reply
    → Obeyed order store store disk next told told_next
told_only order store disk next reply told told_next t same is =
    let line : Line = record { order = order; wrote = []; told = reply } in
    let e : store.last ≡ store.last + operations_in [] = omega (arith, no_operations) in
    record {
      line = line;
      ordered = refl;
      step = record { told_is = sym t.tells; wrote_is = sym t.writes; now_is = sym (no_writes store.now) };
      told_is = is;
      stays = λ batches least s.
          let P : List Batch → Type 0 = λ more. IsServable store (batches ++ more) least next in
          let Q : Bool → Type 0 = λ b. IsServable store (batches ++ numbered (store.last + 1) []) (cond b (length batches) least) next in
          subst Q (sym t.no_sync) (subst P (sym (none_numbered (store.last + 1))) (stays_same store batches least disk next same s));
      last_is = e;
      number_is = omega (arith, t.opens);
      keeps = keeps_same store.log.number disk next same;
    }

other_log : (first : ℕ) (name : Name) → ((n : ℕ) → first ≤ n → IsNumber n → name ≢ log_name n) → IsNumber first → name ≢ log_name first
other_log first name others is = others first (omega arith) is

keeps_but : (first : ℕ) (disk next : Disk) → IsNumber first → ((other : Name) → other ≢ log_name first → next other ≡ disk other) → Keeps first (folder_of disk) (folder_of next)
keeps_but first disk next is others = λ name other. ap (option_map (λ (file : File). file.read)) (others name (other_log first name other is))

pub one_numbered : (first : ℕ) (operations : Write) → numbered first (operations ∷ []) ≡ record { first = first; operations = operations } ∷ []
unfolding numbered
one_numbered first operations = refl

one_counted : (operations : Write) → operations_in (operations ∷ []) ≡ length operations
unfolding operations_in
one_counted operations = omega arith

one_after : (operations : Write) (m : Map) → after_writes (operations ∷ []) m ≡ after_operations operations m
unfolding after_writes
one_after operations m = refl

-- a batch more
pub stays_wrote : (order : Parsed) (operations : Write) (store next : Stored) (disk mid after : Disk) (batches : List Batch) (least : ℕ) → IsWrite order operations → next ≡ wrote store operations
    → ((older own : List Batch) (synced : ℕ) → Carries store older own synced disk → Carries next older (own ++ next_batch store operations ∷ []) synced mid) → after ≡ mid
    → IsServable store batches least disk → IsServable next (batches ++ numbered (store.last + 1) (operations ∷ [])) (cond (syncs order) (length batches) least) after
stays_wrote order operations store next disk mid after batches least w is carried same s =
    let b = next_batch store operations in
    let Q : Bool → Type 0 = λ x. IsServable next (batches ++ numbered (store.last + 1) (operations ∷ [])) (cond x (length batches) least) after in
    let more : IsServable next (batches ++ numbered (store.last + 1) (operations ∷ [])) least after = record {
      usable = ap (λ (x : Stored). x.broken) is ∙ s.usable;
      whole = ap (λ (x : Stored). x.log.failed) is ∙ s.whole;
      older = s.older;
      own = s.own ++ b ∷ [];
      synced = s.synced;
      carries = let P : Disk → Type 0 = λ d. Carries next s.older (s.own ++ b ∷ []) s.synced d in subst P (sym same) (carried s.older s.own s.synced s.carries);
      all = sym (append_assoc s.older s.own (b ∷ [])) ∙ ap (λ bs. bs ++ b ∷ []) s.all ∙ ap (λ bs. batches ++ bs) (sym (one_numbered (store.last + 1) operations));
      at_least = s.at_least;
    } in
    subst Q (sym w.no_sync) more

-- a write
pub wrote_line : (order : Parsed) (operations : Write) (store next : Stored) (disk mid after : Disk) (told told_mid told_next : List ℕ) → IsWrite order operations → next ≡ wrote store operations
    → Appends (log_name store.log.number) (next_record store operations) (next_record store operations) disk mid
    → ((older own : List Batch) (synced : ℕ) → Carries store older own synced disk → Carries next older (own ++ next_batch store operations ∷ []) synced mid)
    → after ≡ mid → told_mid ≡ told → told_next ≡ told_mid ++ ok_line → (batches : List Batch) × ((least : ℕ) × IsServable store batches least disk) → Obeyed order store next disk after told told_next
wrote_line order operations store next disk mid after told told_mid told_next w is appends carried same told_same told_is there =
    let line : Line = record { order = order; wrote = operations ∷ []; told = ok_line } in
    let number : next.log.number ≡ store.log.number = ap (λ (s : Stored). s.log.number) is in
    let last : next.last ≡ store.last + length operations = ap (λ (s : Stored). s.last) is in
    record {
      line = line;
      ordered = refl;
      step = record { told_is = sym (w.tells store.now); wrote_is = sym w.writes; now_is = ap (λ (s : Stored). s.now) is ∙ sym (one_after operations store.now) };
      told_is = told_is ∙ ap (λ t. t ++ ok_line) told_same;
      stays = λ batches least s. stays_wrote order operations store next disk mid after batches least w is carried same s;
      last_is = omega (arith, last, one_counted operations);
      number_is = omega (arith, number, w.opens);
      keeps = let P : Disk → Type 0 = λ d. Keeps store.log.number (folder_of disk) (folder_of d) in
          subst P (sym same) (keeps_but store.log.number disk mid there.1.1.carries.on.is_number appends.puts.others);
    }

-- all synced
pub stays_synced : (store next : Stored) (disk mid after : Disk) (batches : List Batch) (least : ℕ) → next ≡ store
    → ((older own : List Batch) (synced : ℕ) → Carries store older own synced disk → Carries next older own (length own) mid) → after ≡ mid
    → IsServable store batches least disk → IsServable next (batches ++ numbered (store.last + 1) []) (length batches) after
stays_synced store next disk mid after batches least is carried same s = record {
  usable = ap (λ (x : Stored). x.broken) is ∙ s.usable;
  whole = ap (λ (x : Stored). x.log.failed) is ∙ s.whole;
  older = s.older;
  own = s.own;
  synced = length s.own;
  carries = let P : Disk → Type 0 = λ d. Carries next s.older s.own (length s.own) d in subst P (sym same) (carried s.older s.own s.synced s.carries);
  all = s.all ∙ sym (ap (λ bs. batches ++ bs) (none_numbered (store.last + 1)) ∙ append-nil batches);
  at_least = omega (arith, ap length s.all, length-append s.older s.own);
}

-- a sync
pub synced_line : (store next : Stored) (disk mid after : Disk) (told told_mid told_next : List ℕ) → next ≡ store → Syncs (log_name store.log.number) disk mid
    → ((older own : List Batch) (synced : ℕ) → Carries store older own synced disk → Carries next older own (length own) mid)
    → after ≡ mid → told_mid ≡ told → told_next ≡ told_mid ++ ok_line → (batches : List Batch) × ((least : ℕ) × IsServable store batches least disk) → Obeyed (Go command.Sync) store next disk after told told_next
synced_line store next disk mid after told told_mid told_next is syncs carried same told_same told_is there =
    let line : Line = record { order = Go command.Sync; wrote = []; told = ok_line } in
    let number : next.log.number ≡ store.log.number = ap (λ (s : Stored). s.log.number) is in
    let last : next.last ≡ store.last = ap (λ (s : Stored). s.last) is in
    record {
      line = line;
      ordered = refl;
      step = record { told_is = refl; wrote_is = refl; now_is = ap (λ (s : Stored). s.now) is ∙ sym (no_writes store.now) };
      told_is = told_is ∙ ap (λ t. t ++ ok_line) told_same;
      stays = λ batches least s. stays_synced store next disk mid after batches least is carried same s;
      last_is = omega (arith, last, no_operations);
      number_is = omega (arith, number);
      keeps = let P : Disk → Type 0 = λ d. Keeps store.log.number (folder_of disk) (folder_of d) in
          subst P (sym same) (keeps_but store.log.number disk mid there.1.1.carries.on.is_number syncs.puts.others);
    }

-- a store that can be used stands on a folder of its batches
pub stands : StoresStand → (store : Stored) (batches : List Batch) (least : ℕ) (disk : Disk) → IsServable store batches least disk → Stands (folder_of disk) batches store.last
stands law store batches least disk s =
    let P : List Batch → Type 0 = λ bs. Stands (folder_of disk) bs store.last in
    subst P s.all (law store.log s.older s.own s.synced store.last disk s.whole s.carries.on)

pub log_there : (store : Stored) (batches : List Batch) (least : ℕ) (disk : Disk) (s : IsServable store batches least disk) → IsSome (folder_of disk (log_name store.log.number))
log_there store batches least disk s = let P : Option (List ℕ) → Type 0 = IsSome in subst P (sym (ap (option_map (λ (file : File). file.read)) s.carries.on.holds.there)) refl

-- no log is greater than the one in use
not_greater : (store : Stored) (batches : List Batch) (least : ℕ) (disk : Disk) (n : ℕ) → IsServable store batches least disk → IsNumber n → IsSome (folder_of disk (log_name n)) → n ≤ store.log.number
not_greater store batches least disk n s is some = elim (cases_lt store.log.number n) [
  | inl lt ↦ let none : folder_of disk (log_name n) ≡ None = ap (option_map (λ (file : File). file.read)) (s.carries.on.newest n lt is.1) in absurd (cc (some, none))
  | inr le ↦ le
]

pub greatest_is : (store : Stored) (batches : List Batch) (least : ℕ) (disk : Disk) → IsServable store batches least disk → IsSome (folder_of disk (log_name (10 ^ 15 - 1))) → store.log.number + 1 ≡ 10 ^ 15
greatest_is store batches least disk s some =
    let n : IsNumber (10 ^ 15 - 1) = (omega arith, omega arith) in
    omega (arith, not_greater store batches least disk (10 ^ 15 - 1) s n some, s.carries.on.is_number.1)

pub next_number : (store : Stored) (batches : List Batch) (least : ℕ) (disk : Disk) (number : ℕ) → IsServable store batches least disk → IsNext (folder_of disk) number → number ≡ store.log.number + 1
next_number store batches least disk number s next =
    let above : store.log.number < number = next.above store.log.number s.carries.on.is_number (log_there store batches least disk s) in
    elim next.least [
      | inl two ↦ omega (arith, above, two, s.carries.on.is_number.0)
      | inr there ↦ omega (arith, above, not_greater store batches least disk (number - 1) s there.0 there.1)
    ]

found_again : StoresStand → BatchesAreOnce → (store next : Stored) (disk mid : Disk) (batches : List Batch) (least : ℕ) (o : Opens (folder_of disk) next mid) → IsServable store batches least disk
    → (o.batches ≡ batches) × (next.last ≡ store.last)
found_again law once store next disk mid batches least o s = once (folder_of disk) o.batches batches next.last store.last o.had (stands law store batches least disk s).have

-- opened anew, all synced
pub stays_reopened : StoresStand → BatchesAreOnce → (store next : Stored) (disk mid after : Disk) (batches : List Batch) (least : ℕ) → next.broken ≡ false → Opens (folder_of disk) next mid → after ≡ mid
    → IsServable store batches least disk → IsServable next (batches ++ numbered (store.last + 1) []) (length batches) after
stays_reopened law once store next disk mid after batches least usable o same s =
    let found : o.batches ≡ batches = (found_again law once store next disk mid batches least o s).0 in
    record {
      usable = usable;
      whole = o.whole;
      older = o.batches;
      own = [];
      synced = 0;
      carries = let P : Disk → Type 0 = λ d. Carries next o.batches [] 0 d in subst P (sym same) o.carries;
      all = append-nil o.batches ∙ found ∙ sym (ap (λ bs. batches ++ bs) (none_numbered (store.last + 1)) ∙ append-nil batches);
      at_least = omega (arith, ap length found);
    }

-- the store is opened anew
pub reopened_line : StoresStand → BatchesAreOnce → (store next : Stored) (disk mid after : Disk) (told told_mid told_next : List ℕ) → next.broken ≡ false
    → Opens (folder_of disk) next mid → after ≡ mid → told_mid ≡ told → told_next ≡ told_mid ++ ok_line → (batches : List Batch) × ((least : ℕ) × IsServable store batches least disk)
    → Obeyed (Go command.Reopen) store next disk after told told_next
reopened_line law once store next disk mid after told told_mid told_next usable o same told_same told_is there =
    let line : Line = record { order = Go command.Reopen; wrote = []; told = ok_line } in
    let s0 = there.1.1 in
    let folder = folder_of disk in
    let number : next.log.number ≡ store.log.number + 1 = next_number store there.0 there.1.0 disk next.log.number s0 o.next in
    let found = found_again law once store next disk mid there.0 there.1.0 o s0 in
    let last : next.last ≡ store.last = found.1 in
    record {
      line = line;
      ordered = refl;
      step = record {
        told_is = refl;
        wrote_is = refl;
        now_is = o.carries.now_is ∙ ap (λ bs. after_batches bs empty) (append-nil o.batches ∙ found.0 ∙ sym s0.all) ∙ sym s0.carries.now_is ∙ sym (no_writes store.now);
      };
      told_is = told_is ∙ ap (λ t. t ++ ok_line) told_same;
      stays = λ batches least s. stays_reopened law once store next disk mid after batches least usable o same s;
      last_is = omega (arith, last, no_operations);
      number_is = number;
      keeps = let P : Disk → Type 0 = λ d. Keeps store.log.number folder (folder_of d) in
          subst P (sym same) (λ name others. o.made.others name (λ is. others next.log.number (omega (arith, number)) o.carries.on.is_number is));
    }

pub corrupt_was : (e : StoreErr) (name : List ℕ) (place : ℕ) → stop_of_store e ≡ stop.Corrupt name place → e ≡ store.Corrupt name place
corrupt_was store.Disk name place is = cc is
corrupt_was store.OutOfMemory name place is = cc is
corrupt_was (store.Corrupt n p) name place is = let a : n ≡ name = cc is in let b : p ≡ place = cc is in ap (λ x. store.Corrupt x p) a ∙ ap (λ x. store.Corrupt name x) b
corrupt_was (store.Full number) name place is = cc is
corrupt_was store.Broken name place is = cc is

pub log_is_there : (store : Stored) (batches : List Batch) (least : ℕ) (disk : Disk) → IsServable store batches least disk → IsSome (disk (log_name store.log.number))
log_is_there store batches least disk s = let P : Option File → Type 0 = IsSome in subst P (sym s.carries.on.holds.there) refl
