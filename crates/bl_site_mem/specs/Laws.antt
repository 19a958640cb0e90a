-- Laws of a record of calls.
use Rattle.std.proofs.Common.{◌≡◌, inl, inr, ℕ, zero, suc, ◌≤◌, ◌/◌, Bool, true, false, cond, List, [], ◌∷◌, ◌++◌, length, refl, sym, ◌∙◌, ap, subst, arith, Option, None, Some, append_assoc, length-append}
use Rattle.std.proofs.lemmas.List.{append-nil, length-take}
use Rattle.std.specs.Option.{option_map}
use Rattle.std.specs.Str.{bytes_eq}
use Rattle.bl_site.specs.Disk.{Name, File, Disk, Cut, IsRemnant}
use Rattle.bl_site_mem.specs.Record.{Call, Look, Create, Append, Sync, Rename, Remove, Tell, PutFile, Entry, put, synced_file, appended, synced, first_half, State, start, step, after, run, disk_after, disk_failed, Doubted, Leaves, LeftSince}

-- this moment is one of those since an earlier one
pub counts_now : (entries : List Entry) (state : State) (t : ℕ) (c : Cut) → t ≤ length entries → Leaves (run entries state) c → LeftSince state entries t c
counts_now [] state zero c le now = now
counts_now [] state (suc t) c le now = absurd (omega arith)
counts_now (e ∷ entries) state zero c le now = inr (inr (counts_now entries (after e state) zero c (omega arith) now))
counts_now (e ∷ entries) state (suc t) c le now = counts_now entries (after e state) t c (omega arith) now

-- since this moment there is no other
pub only_now : (entries : List Entry) (state : State) (c : Cut) → LeftSince state entries (length entries) c → Leaves (run entries state) c
only_now [] state c left = left
only_now (e ∷ entries) state c left = only_now entries (after e state) c left

-- what a cut from a moment on might have left, one from an earlier moment on might have left too
pub earlier : (entries : List Entry) (state : State) (s t : ℕ) (c : Cut) → s ≤ t → LeftSince state entries t c → LeftSince state entries s c
earlier [] state zero zero c le left = left
earlier [] state (suc s) zero c le left = absurd (omega arith)
earlier [] state s (suc t) c le left = absurd left
earlier (e ∷ entries) state zero zero c le left = left
earlier (e ∷ entries) state (suc s) zero c le left = absurd (omega arith)
earlier (e ∷ entries) state zero (suc t) c le left = inr (inr (earlier entries (after e state) zero t c (omega arith) left))
earlier (e ∷ entries) state (suc s) (suc t) c le left = earlier entries (after e state) s t c (omega arith) left

pub reads : (doubt : List Call) (disk : Disk) → Doubted doubt disk disk
reads [] disk = refl
reads (call ∷ doubt) disk = inl (reads doubt disk)

pub only : (doubt : List Call) (disk other : Disk) → doubt ≡ [] → Doubted doubt disk other → other ≡ disk
only doubt disk other none may = subst (λ (l : List Call). Doubted l disk other) none may

-- what a file reads is one of the things that a cut may leave of it
abbrev pub WholeAt : Option File → Type 0
WholeAt None = Unit {0}
WholeAt (Some file) = IsRemnant file file.read

abbrev pub Whole : Disk → Type 0
Whole disk = (name : Name) → WholeAt (disk name)

whole_synced_file : (bytes : List ℕ) → IsRemnant (synced_file bytes) bytes
whole_synced_file bytes = record { tail = []; split = sym (append-nil bytes); no_longer = omega arith }

whole_put : (disk : Disk) (name : Name) (file : Option File) → Whole disk → WholeAt file → Whole (put disk name file)
whole_put disk name file whole here q = pick (bytes_eq name q) file (disk q) here (whole q)
  where
    pick : (b : Bool) (x y : Option File) → WholeAt x → WholeAt y → WholeAt (cond b x y)
    pick true x y p q = p
    pick false x y p q = q

whole_appended : (bytes handed : List ℕ) (file : Option File) → length bytes ≤ length handed → WholeAt file → WholeAt (option_map (appended bytes handed) file)
whole_appended bytes handed None le whole = tt
whole_appended bytes handed (Some file) le whole = record {
  tail = whole.tail ++ bytes;
  split = ap (λ (l : List ℕ). l ++ bytes) whole.split ∙ append_assoc file.front whole.tail bytes;
  no_longer = omega (arith, le, whole.no_longer, length-append whole.tail bytes, length-append file.handed handed);
}

whole_option_synced : (file : Option File) → WholeAt (option_map synced file)
whole_option_synced None = tt
whole_option_synced (Some file) = whole_synced_file file.read

pub half_no_longer : (bytes : List ℕ) → length (first_half bytes) ≤ length bytes
half_no_longer bytes = omega (arith, length-take (length bytes / 2) bytes)

whole_after : (call : Call) (disk : Disk) → Whole disk → Whole (disk_after call disk)
whole_after Look disk whole = whole
whole_after (Create name) disk whole = whole_put disk _ _ whole (whole_synced_file [])
whole_after (Append name bytes) disk whole = whole_put disk _ _ whole (whole_appended bytes bytes (disk name) (omega arith) (whole name))
whole_after (Sync name) disk whole = whole_put disk _ _ whole (whole_option_synced (disk name))
whole_after (Rename from to) disk whole = whole_put (put disk from None) _ _ (whole_put disk _ None whole tt) (whole from)
whole_after (Remove name) disk whole = whole_put disk _ None whole tt
whole_after (Tell bytes) disk whole = whole
whole_after (PutFile name bytes) disk whole = whole_put disk _ _ whole (whole_synced_file bytes)

whole_failed : (call : Call) (disk : Disk) → Whole disk → Whole (disk_failed call disk)
whole_failed Look disk whole = whole
whole_failed (Create name) disk whole = whole
whole_failed (Append name bytes) disk whole = whole_put disk _ _ whole (whole_appended (first_half bytes) bytes (disk name) (half_no_longer bytes) (whole name))
whole_failed (Sync name) disk whole = whole
whole_failed (Rename from to) disk whole = whole
whole_failed (Remove name) disk whole = whole
whole_failed (Tell bytes) disk whole = whole
whole_failed (PutFile name bytes) disk whole = whole

whole_step : (failed : Bool) (call : Call) (state : State) → Whole state.disk → Whole (step failed call state).disk
whole_step false call state whole = whole_after call state.disk whole
whole_step true call state whole = whole_failed call state.disk whole

pub whole_run : (entries : List Entry) (state : State) → Whole state.disk → Whole (run entries state).disk
whole_run [] state whole = whole
whole_run (e ∷ entries) state whole = whole_run entries (after e state) (whole_step e.failed e.call state whole)

pub remnant : (entries : List Entry) (name : Name) (file : File) → (run entries start).disk name ≡ Some file → IsRemnant file file.read
remnant entries name file is = subst WholeAt is (whole_run entries start (λ _. tt) name)
