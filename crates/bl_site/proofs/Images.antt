-- What is left of a disk before and after a call.
use Rattle.std.proofs.Common.{◌≡◌, ◌≢◌, ◌⊎◌, inl, inr, ⊎_elim, ℕ, ◌≤◌, ◌+◌, List, [], ◌++◌, length, refl, sym, ◌∙◌, ap, subst, arith, length-append, Option, None, Some, Result, Ok, Err, OnOk, IsErrOf}
use Rattle.std.proofs.lemmas.List.{append-nil, nil_from_length}
use Rattle.bl_site.specs.Disk.{Name, File, Disk, Folder, Cut, IsRemnant, IsLeft, IsImage, IsImageBut, MayLeave}
use Rattle.bl_site.specs.Calls.{Puts, Appends, AppendsAny, Syncs, Frays, FollowsFile}
use Rattle.bl_site.specs.declared.site.SiteErr.{SiteErr}
use Rattle.bl_site.specs.declared.site.SiteErr.TheVariants.{DiskFailed, TellFailed, OutOfMemory}

-- under a name that stands for a file there is something left
pub left_some : (file : File) (left : Option (List ℕ)) → IsLeft (Some file) left → (bytes : List ℕ) × (left ≡ Some bytes) × IsRemnant file bytes
left_some file None none = absurd none
left_some file (Some bytes) remnant = (bytes, refl, remnant)

pub left_none : (left : Option (List ℕ)) → IsLeft None left → left ≡ None
left_none None none = refl
left_none (Some bytes) some = absurd some

-- of the file that a disk puts under a name
pub left_at : (name : Name) (file : File) (old new : Disk) (folder : Folder) → Puts name file old new → IsImage new folder → (bytes : List ℕ) × (folder name ≡ Some bytes) × IsRemnant file bytes
left_at name file old new folder puts image = left_some file (folder name) (subst (λ (o : Option File). IsLeft o (folder name)) puts.at (image name))

-- the other names are left as before
pub left_but : (name : Name) (file : File) (old new : Disk) (folder : Folder) → Puts name file old new → IsImage new folder → IsImageBut name old folder
left_but name file old new folder puts image other differs = subst (λ (o : Option File). IsLeft o (folder other)) (puts.others other differs) (image other)

pub left_but_more : (name : Name) (file : File) (first old new : Disk) (folder : Folder) → Puts name file old new → ((other : Name) → other ≢ name → old other ≡ first other) → IsImage new folder → IsImageBut name first folder
left_but_more name file first old new folder puts same image other differs = subst (λ (o : Option File). IsLeft o (folder other)) (puts.others other differs ∙ same other differs) (image other)

-- a file with no synced bytes leaves at most what was handed over
pub short_remnant : (file : File) (bytes : List ℕ) → file.front ≡ [] → IsRemnant file bytes → length bytes ≤ length file.handed
short_remnant file bytes none remnant = let e : length bytes ≡ length file.front + length remnant.tail = ap length remnant.split ∙ length-append file.front remnant.tail in omega (arith, e, ap length none, remnant.no_longer)

-- a file whose bytes are all synced leaves them
pub whole_remnant : (file : File) (bytes : List ℕ) → file.handed ≡ [] → IsRemnant file bytes → bytes ≡ file.front
whole_remnant file bytes none remnant =
    let empty : remnant.tail ≡ [] = nil_from_length remnant.tail (omega (arith, ap length none, remnant.no_longer)) in
    remnant.split ∙ ap (λ (l : List ℕ). file.front ++ l) empty ∙ append-nil file.front

-- after an append, whatever was answered
pub append_outcome : (name : Name) (bytes : List ℕ) (old new : Disk) (result : Result (Unit {0}) SiteErr) → OnOk result (Appends name bytes bytes old new) → (IsErrOf result DiskFailed → AppendsAny name bytes old new)
    → (IsErrOf result OutOfMemory → new ≡ old) → (IsErrOf result TellFailed → ⊥) → (new ≡ old) ⊎ AppendsAny name bytes old new
append_outcome name bytes old new (Ok x) done failed memory not_tell = inr (record { bytes = bytes; no_longer = omega arith; appends = done })
append_outcome name bytes old new (Err DiskFailed) done failed memory not_tell = inr (failed refl)
append_outcome name bytes old new (Err OutOfMemory) done failed memory not_tell = inl (memory refl)
append_outcome name bytes old new (Err TellFailed) done failed memory not_tell = absurd (not_tell refl)

-- after a sync, whatever was answered
pub sync_outcome : (name : Name) (old new : Disk) (result : Result (Unit {0}) SiteErr) → OnOk result (Syncs name old new) → (IsErrOf result DiskFailed → Frays name old new)
    → (IsErrOf result OutOfMemory → new ≡ old) → (IsErrOf result TellFailed → ⊥) → (new ≡ old) ⊎ (Syncs name old new ⊎ Frays name old new)
sync_outcome name old new (Ok x) done failed memory not_tell = inr (inl done)
sync_outcome name old new (Err DiskFailed) done failed memory not_tell = inr (inr (failed refl))
sync_outcome name old new (Err OutOfMemory) done failed memory not_tell = inl (memory refl)
sync_outcome name old new (Err TellFailed) done failed memory not_tell = absurd (not_tell refl)

-- Whatever a sync answers, what a cut leaves of the file, one before might have left. `remnant` is the law at the value before.
pub sync_narrows : (name : Name) (old new : Disk) → ((file : File) → old name ≡ Some file → IsRemnant file file.read) → (new ≡ old) ⊎ (Syncs name old new ⊎ Frays name old new)
    → (left : Option (List ℕ)) → IsLeft (new name) left → IsLeft (old name) left
sync_narrows name old new remnant (inl same) left is = subst (λ (d : Disk). IsLeft (d name) left) same is
sync_narrows name old new remnant (inr (inl s)) left is = subst (λ (o : Option File). IsLeft o left) (sym s.was)
    (of_synced s.file left (remnant s.file s.was) (subst (λ (o : Option File). IsLeft o left) s.puts.at is))
  where
    of_synced : (file : File) (o : Option (List ℕ)) → IsRemnant file file.read → IsLeft (Some (record { read = file.read; front = file.read; handed = [] })) o → IsLeft (Some file) o
    of_synced file None whole none = absurd none
    of_synced file (Some bytes) whole of_new = subst (λ (l : List ℕ). IsRemnant file l) (sym (whole_remnant _ bytes refl of_new)) whole
sync_narrows name old new remnant (inr (inr f)) left is = subst (λ (o : Option File). IsLeft o left) (sym f.was)
    (of_frayed f.file f.tail left (subst (λ (o : Option File). IsLeft o left) f.puts.at is))
  where
    of_frayed : (file : File) (tail : List ℕ) (o : Option (List ℕ)) → IsLeft (Some (record { read = file.front ++ tail; front = file.front; handed = file.handed })) o → IsLeft (Some file) o
    of_frayed file tail None none = absurd none
    of_frayed file tail (Some bytes) of_new = record { tail = of_new.tail; split = of_new.split; no_longer = of_new.no_longer }

-- So after a sync a cut leaves nothing that one before might not have left, also while a name call is in doubt.
pub sync_leaves : (name : Name) (was now : Disk) (old new : Disk → Type 0) (told : List ℕ) (c : Cut) → FollowsFile name was now old new
    → ((left : Option (List ℕ)) → IsLeft (now name) left → IsLeft (was name) left)
    → MayLeave new told c → (before : Disk) × old before × IsImage before c.folder
sync_leaves name was now old new told c follows narrows leaves =
    let from = follows leaves.disk leaves.possible in (
      from.0,
      from.1,
      λ other. ⊎_elim
          (λ same. subst (λ (o : Option File). IsLeft o (c.folder other)) same (leaves.is_cut.image other))
          (λ file. subst (λ (o : Option File). IsLeft o (c.folder other)) (sym file.0) (narrows (c.folder other) (subst (λ (o : Option File). IsLeft o (c.folder other)) file.1 (leaves.is_cut.image other))))
          (from.2 other),
    )
