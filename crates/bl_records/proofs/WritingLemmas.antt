-- Two changes of one file, one after the other.
use Rattle.std.proofs.Common.{◌≡◌, inl, inr, Bool, true, false, ℕ, ◌+◌, ◌≤◌, List, [], ◌++◌, length, Some, Result, Ok, Err, refl, sym, ◌∙◌, ap, subst, arith, append_assoc, append-nil, length-append}
use Rattle.std.specs.Prelude.{OnOk, ◌⊎◌, IsErrOf}
use Rattle.bl_site.specs.Disk.{Name, Disk, File, IsRemnant}
use Rattle.bl_site.specs.Calls.{Puts, Creates, Appends, AppendsAny, Syncs, Frays, DoneOrNot}
use Rattle.bl_site.specs.Causes.{one_more}
use Rattle.bl_records.specs.declared.error.RecordErr.{RecordErr}
use Rattle.bl_records.specs.declared.error.RecordErr.TheVariants.{Disk as DiskFailed, OutOfMemory}
use Rattle.bl_records.specs.Causes.{more, AsksUpTo}
use Rattle.bl_records.proofs.HeldLemmas.{file_of}
use Rattle.bl_records.specs.Writing.{MakesSynced, MakesPartly, AppendsSynced, Tears, AppendsPartly}

puts_then : (name : Name) (a b : File) (old mid new : Disk) → Puts name a old mid → Puts name b mid new → Puts name b old new
puts_then name a b old mid new first second = record {
  at = second.at;
  others = λ other differs. second.others other differs ∙ first.others other differs;
}

module _ (name : Name) (bytes : List ℕ) where
  -- ---- an append, and a sync

  pub appended_synced : (old mid new : Disk) → Appends name bytes bytes old mid → Syncs name mid new → AppendsSynced name bytes old new
  appended_synced old mid new a s =
      let same : s.file.read ≡ a.file.read ++ bytes = ap (λ (f : File). f.read) (file_of (mid name) s.file _ s.was a.puts.at) in
      let P : List ℕ → Type 0 = λ read. Puts name (record { read = read; front = read; handed = [] }) mid new in
      record { file = a.file; was = a.was; puts = puts_then name _ _ old mid new a.puts (subst P same s.puts) }

  pub append_torn : (old new : Disk) → ((file : File) → old name ≡ Some file → IsRemnant file file.read) → AppendsAny name bytes old new → Tears name bytes old new
  append_torn old new remnant t =
      let a = t.appends in
      let left = remnant a.file a.was in
      let P : List ℕ → Type 0 = λ read. Puts name (record { read = read; front = a.file.front; handed = a.file.handed ++ bytes }) old new in
      record {
        file = a.file;
        was = a.was;
        tail = left.tail ++ t.bytes;
        no_longer = omega (arith, length-append left.tail t.bytes, length-append a.file.handed bytes, left.no_longer, t.no_longer);
        puts = subst P (ap (λ l. l ++ t.bytes) left.split ∙ append_assoc a.file.front left.tail t.bytes) a.puts;
      }

  pub sync_torn : (old mid new : Disk) → Appends name bytes bytes old mid → Frays name mid new → Tears name bytes old new
  sync_torn old mid new a f =
      let same : f.file ≡ record { read = a.file.read ++ bytes; front = a.file.front; handed = a.file.handed ++ bytes } = file_of (mid name) f.file _ f.was a.puts.at in
      let P : File → Type 0 = λ file. Puts name (record { read = file.front ++ f.tail; front = file.front; handed = file.handed }) mid new in
      record {
        file = a.file;
        was = a.was;
        tail = f.tail;
        no_longer = subst (λ (file : File). length f.tail ≤ length file.handed) same f.no_longer;
        puts = puts_then name _ _ old mid new a.puts (subst P same f.puts);
      }

  -- ---- on the way

  pub partly_handed : (old new : Disk) (read : List ℕ) → Appends name read bytes old new → AppendsPartly name bytes old new
  partly_handed old new read a = record { file = a.file; was = a.was; now = _; puts = a.puts; written = inl (refl, refl) }

  pub partly_synced : (old new : Disk) → AppendsSynced name bytes old new → AppendsPartly name bytes old new
  partly_synced old new a = record { file = a.file; was = a.was; now = _; puts = a.puts; written = inr (refl, refl) }

  pub partly_torn : (old new : Disk) → Tears name bytes old new → AppendsPartly name bytes old new
  partly_torn old new t = record { file = t.file; was = t.was; now = _; puts = t.puts; written = inl (refl, refl) }

  -- ---- behind the making of the file

  pub made_synced : (old mid new : Disk) → Creates name old mid → AppendsSynced name bytes mid new → MakesSynced name bytes old new
  made_synced old mid new made a =
      let same : a.file.read ≡ [] = ap (λ (f : File). f.read) (file_of (mid name) a.file _ a.was made.at) in
      let P : List ℕ → Type 0 = λ read. Puts name (record { read = read ++ bytes; front = read ++ bytes; handed = [] }) mid new in
      puts_then name _ _ old mid new made (subst P same a.puts)

  pub made_empty : (old new : Disk) → Creates name old new → MakesPartly name bytes old new
  made_empty old new made = record { file = _; puts = made; written = inl refl }

  pub made_partly : (old mid new : Disk) → Creates name old mid → AppendsPartly name bytes mid new → MakesPartly name bytes old new
  made_partly old mid new made a =
      let same : a.file ≡ record { read = []; front = []; handed = [] } = file_of (mid name) a.file _ a.was made.at in
      record {
        file = a.now;
        puts = puts_then name _ _ old mid new made a.puts;
        written = inr (elim a.written [
          | inl handed ↦ ap (λ f. f ++ a.now.handed) (handed.0 ∙ ap (λ (f : File). f.front) same) ∙ handed.1 ∙ ap (λ (f : File). f.handed ++ bytes) same
          | inr synced ↦ ap (λ h. a.now.front ++ h) synced.1 ∙ append-nil a.now.front ∙ synced.0 ∙ ap (λ (f : File). f.read ++ bytes) same
        ]);
      }

-- ---- in the words of the code

-- after an append, and after a sync, whatever was answered
pub append_outcome : (name : Name) (bytes : List ℕ) (old new : Disk) (result : Result (Unit {0}) RecordErr) → OnOk result (Appends name bytes bytes old new) → (IsErrOf result DiskFailed → AppendsAny name bytes old new)
    → (IsErrOf result OutOfMemory → new ≡ old) → (new ≡ old) ⊎ AppendsAny name bytes old new
append_outcome name bytes old new (Ok x) done torn memory = inr (record { bytes = bytes; no_longer = omega arith; appends = done })
append_outcome name bytes old new (Err DiskFailed) done torn memory = inr (torn refl)
append_outcome name bytes old new (Err OutOfMemory) done torn memory = inl (memory refl)

pub sync_outcome : (name : Name) (old new : Disk) (result : Result (Unit {0}) RecordErr) → OnOk result (Syncs name old new) → (IsErrOf result DiskFailed → Frays name old new)
    → (IsErrOf result OutOfMemory → new ≡ old) → (new ≡ old) ⊎ (Syncs name old new ⊎ Frays name old new)
sync_outcome name old new (Ok x) done frayed memory = inr (inl done)
sync_outcome name old new (Err DiskFailed) done frayed memory = inr (inr (frayed refl))
sync_outcome name old new (Err OutOfMemory) done frayed memory = inl (memory refl)

-- after an append and a sync, whatever was answered
pub partly_done : (name : Name) (bytes : List ℕ) (old new : Disk) (result : Result (Unit {0}) RecordErr) → OnOk result (AppendsSynced name bytes old new) → (IsErrOf result DiskFailed → Tears name bytes old new)
    → (IsErrOf result OutOfMemory → DoneOrNot (Appends name bytes bytes) old new) → DoneOrNot (AppendsPartly name bytes) old new
partly_done name bytes old new (Ok x) done torn memory = inr (partly_synced name bytes old new done)
partly_done name bytes old new (Err DiskFailed) done torn memory = inr (partly_torn name bytes old new (torn refl))
partly_done name bytes old new (Err OutOfMemory) done torn memory = elim (memory refl) [
  | inl same ↦ inl same
  | inr a ↦ inr (partly_handed name bytes old new bytes a)
]

-- so it is behind the making of the file
pub made_then : (name : Name) (bytes : List ℕ) (old mid new : Disk) → Creates name old mid → DoneOrNot (AppendsPartly name bytes) mid new → MakesPartly name bytes old new
made_then name bytes old mid new made (inl same) = let P : Disk → Type 0 = λ d. MakesPartly name bytes old d in subst P (sym same) (made_empty name bytes old mid made)
made_then name bytes old mid new made (inr a) = made_partly name bytes old mid new made a

asks_more : (first second third most : ℕ) → second ≡ one_more first → AsksUpTo most second third → AsksUpTo (most + 1) first third
asks_more first second third most once a = (a.0 + 1, omega (arith, a.1), omega (arith, a.2), let e : third ≡ more a.0 second = a.3 in let goal : third ≡ more (a.0 + 1) first = omega arith in goal)

-- one call, and those of an append and a sync, whether the writer has failed by then or not
pub asks_some : (first second third : ℕ) (failed : Bool) → second ≡ one_more first → (failed ≡ true → AsksUpTo 2 second third) → (failed ≡ false → third ≡ second) → AsksUpTo 3 first third
asks_some first second third true once asked same = asks_more first second third 2 once (asked refl)
asks_some first second third false once asked same = (1, omega arith, omega arith, same refl ∙ once)

-- the making of a file and its bytes, by other names for the same
pub made_outcome : (name bytes called again given : List ℕ) (old mid new : Disk) → called ≡ name → again ≡ name → given ≡ bytes → Creates called old mid → DoneOrNot (AppendsPartly again given) mid new → MakesPartly name bytes old new
made_outcome name bytes called again given old mid new first second are made partly =
    let P : List ℕ → List ℕ → Type 0 = λ n bs. DoneOrNot (AppendsPartly n bs) mid new in
    made_then name bytes old mid new (subst (λ n. Creates n old mid) first made) (subst (P name) are (subst (λ n. P n given) second partly))

pub made_whole : (name bytes called again given : List ℕ) (old mid new : Disk) → called ≡ name → again ≡ name → given ≡ bytes → Creates called old mid → AppendsSynced again given mid new → MakesSynced name bytes old new
made_whole name bytes called again given old mid new first second are made synced =
    let P : List ℕ → List ℕ → Type 0 = λ n bs. AppendsSynced n bs mid new in
    made_synced name bytes old mid new (subst (λ n. Creates n old mid) first made) (subst (P name) are (subst (λ n. P n given) second synced))
