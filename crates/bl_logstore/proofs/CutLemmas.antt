-- What a cut leaves, from call to call.
use Rattle.std.proofs.Common.{◌≡◌, ◌⊎◌, inl, inr, ⊎_elim, ℕ, ◌≤◌, List, [], ◌++◌, Option, None, Some, refl, sym, ◌∙◌, ap, subst, append-nil}
use Rattle.std.specs.Option.{option_map}
use Rattle.bl_site.specs.Disk.{Name, File, Folder, Disk, Cut, IsRemnant, IsLeft, IsImage, IsCut, MayLeave, written_of}
use Rattle.bl_site.specs.Calls.{Syncs, Frays, FollowsFile, Elapses, LeavesOnly}
use Rattle.bl_site.specs.declared.site.Site.{Ghosts}
use Rattle.bl_site.proofs.Moments.{started, goes_on, joins, widened}
use Rattle.bl_site.proofs.Images.{sync_narrows}
use Rattle.bl_wal.specs.LogFile.{log_name}
use Rattle.bl_logstore.specs.Cuts.{LeavesFound, AreReadAsWritten}
use Rattle.bl_logstore.proofs.FolderLemmas.{same_name}

pub found_of_left : (may_be : Disk → Type 0) (told : List ℕ) (c : Cut) → MayLeave may_be told c → LeavesFound may_be told c
found_of_left may_be told c leaves = record { told_is = leaves.is_cut.told_is; was = (leaves.disk, leaves.possible, leaves.is_cut.image) }

-- a cut that finds this folder
abbrev pub cut_found : Folder → List ℕ → Disk → Cut
cut_found folder told disk = record { folder = folder; told = told; written = written_of disk }

module _ {D : Type 0} (g : Ghosts D) where
  abbrev pub CountsNow : D → Type 0
  CountsNow site = (t : ℕ) (c : Cut) → t ≤ g.clock site → MayLeave (g.may_be site) (g.told site) c → g.left_since site t c

  abbrev pub OnlyNow : D → Type 0
  OnlyNow site = (c : Cut) → g.left_since site (g.clock site) c → MayLeave (g.may_be site) (g.told site) c

  -- the moment behind a run of calls is one of those since its beginning
  pub at_end : (old new : D) (P : Cut → Type 0) → CountsNow new → LeavesOnly g.clock g.left_since old new P → (c : Cut) → MayLeave (g.may_be new) (g.told new) c → P c
  at_end old new P counts leaves c may = leaves.each c (counts (g.clock old) c leaves.later may)

  -- no call
  pub no_call : (old : D) → OnlyNow old → LeavesOnly g.clock g.left_since old old (MayLeave (g.may_be old) (g.told old))
  no_call old only = started g.clock g.left_since old (MayLeave (g.may_be old) (g.told old)) only

  -- one call
  pub one_call : (old new : D) (P during : Cut → Type 0) → OnlyNow old → ((c : Cut) → MayLeave (g.may_be old) (g.told old) c → P c) → Elapses (g.clock old) (g.clock new) (g.left_since old) (g.left_since new) during
      → ((c : Cut) → during c → P c) → LeavesOnly g.clock g.left_since old new P
  one_call old new P during only before time here = goes_on g.clock g.left_since old old new P during (started g.clock g.left_since old P (λ c left. before c (only c left))) time here

  -- more calls, in which a cut leaves what one before them might have left
  pub then_left : (old mid new : D) (P : Cut → Type 0) → CountsNow mid → LeavesOnly g.clock g.left_since old mid P → LeavesOnly g.clock g.left_since mid new (MayLeave (g.may_be mid) (g.told mid)) → LeavesOnly g.clock g.left_since old new P
  then_left old mid new P counts first second =
      joins g.clock g.left_since old mid new P first (widened g.clock g.left_since mid new (MayLeave (g.may_be mid) (g.told mid)) P (at_end old mid P counts first) second)

  pub found_then : (old mid : D) → CountsNow mid → g.told mid ≡ g.told old → LeavesOnly g.clock g.left_since old mid (LeavesFound (g.may_be old) (g.told old))
      → (c : Cut) → LeavesFound (g.may_be mid) (g.told mid) c → LeavesFound (g.may_be old) (g.told old) c
  found_then old mid counts same first c finds =
      let found = at_end old mid (LeavesFound (g.may_be old) (g.told old)) counts first (cut_found c.folder (g.told mid) finds.was.0)
      (record { disk = finds.was.0; possible = finds.was.1; is_cut = record { image = finds.was.2; told_is = refl; written_is = λ name. refl } }) in
      record { told_is = finds.told_is ∙ same; was = found.was }

  pub then_found : (old mid new : D) → CountsNow mid → g.told mid ≡ g.told old → LeavesOnly g.clock g.left_since old mid (LeavesFound (g.may_be old) (g.told old))
      → LeavesOnly g.clock g.left_since mid new (LeavesFound (g.may_be mid) (g.told mid)) → LeavesOnly g.clock g.left_since old new (LeavesFound (g.may_be old) (g.told old))
  then_found old mid new counts same first second =
      joins g.clock g.left_since old mid new (LeavesFound (g.may_be old) (g.told old)) first
      (widened g.clock g.left_since mid new (LeavesFound (g.may_be mid) (g.told mid)) (LeavesFound (g.may_be old) (g.told old)) (found_then old mid counts same first) second)

  -- in which the names and the files stay
  pub left_stays : (old new : D) → ((d : Disk) → g.may_be new d → g.may_be old d) → g.told new ≡ g.told old → (c : Cut) → MayLeave (g.may_be new) (g.told new) c → MayLeave (g.may_be old) (g.told old) c
  left_stays old new possible same c leaves = record {
    disk = leaves.disk;
    possible = possible leaves.disk leaves.possible;
    is_cut = subst (λ (t : List ℕ). IsCut leaves.disk t c) same leaves.is_cut;
  }

  pub all_found : (old new : D) → LeavesOnly g.clock g.left_since old new (MayLeave (g.may_be old) (g.told old)) → LeavesOnly g.clock g.left_since old new (LeavesFound (g.may_be old) (g.told old))
  all_found old new leaves = widened g.clock g.left_since old new (MayLeave (g.may_be old) (g.told old)) (LeavesFound (g.may_be old) (g.told old)) (found_of_left (g.may_be old) (g.told old)) leaves

-- A sync of one file, whatever was answered. `remnant` is the site's law at the value before.
module _ (name : Name) (old new : Disk) (was now : Disk → Type 0) (follows : FollowsFile name old new was now)
    (remnant : (file : File) → old name ≡ Some file → IsRemnant file file.read) (outcome : (new ≡ old) ⊎ (Syncs name old new ⊎ Frays name old new)) where
  image_before : (disk before : Disk) (folder : Folder) → ((other : Name) → (disk other ≡ before other) ⊎ ((before other ≡ old name) × (disk other ≡ new name))) → IsImage disk folder → IsImage before folder
  image_before disk before folder from image other =
      ⊎_elim
      (λ same. subst (λ (o : Option File). IsLeft o (folder other)) same (image other))
      (λ file. subst (λ (o : Option File). IsLeft o (folder other)) (sym file.0)
      (sync_narrows name old new remnant outcome (folder other) (subst (λ (o : Option File). IsLeft o (folder other)) file.1 (image other))))
      (from other)

  pub sync_found : (told : List ℕ) (c : Cut) → MayLeave now told c → LeavesFound was told c
  sync_found told c leaves =
      let from = follows leaves.disk leaves.possible in
      record { told_is = leaves.is_cut.told_is; was = (from.0, from.1, image_before leaves.disk from.0 c.folder from.2 leaves.is_cut.image) }

  abbrev written : Option File → Option (List ℕ)
  written o = option_map (λ file. file.front ++ file.handed) o

  -- a file that reads as it was written stays as it was written
  same_written : ((file : File) → old name ≡ Some file → file.read ≡ file.front ++ file.handed) → written (new name) ≡ written (old name)
  same_written reads =
      elim outcome [
        | inl same ↦ ap (λ (d : Disk). written (d name)) same
        | inr changed ↦ elim changed [
          | inl s ↦ ap written s.puts.at ∙ ap Some (append-nil s.file.read ∙ reads s.file s.was) ∙ sym (ap written s.was)
          | inr f ↦ ap written f.puts.at ∙ sym (ap written f.was)
        ]
      ]

  pub sync_left : ((file : File) → old name ≡ Some file → file.read ≡ file.front ++ file.handed) → (told : List ℕ) (c : Cut) → MayLeave now told c → MayLeave was told c
  sync_left reads told c leaves =
      let from = follows leaves.disk leaves.possible in
      record {
        disk = from.0;
        possible = from.1;
        is_cut = record {
          image = image_before leaves.disk from.0 c.folder from.2 leaves.is_cut.image;
          told_is = leaves.is_cut.told_is;
          written_is = λ other. leaves.is_cut.written_is other
              ∙ ⊎_elim (λ same. ap written same) (λ file. ap written file.1 ∙ same_written reads ∙ sym (ap written file.0)) (from.2 other);
        };
      }

abbrev pub reads_so : Option File → Type 0
reads_so None = Unit {0}
reads_so (Some file) = file.read ≡ file.front ++ file.handed

-- a log more is synced
pub sync_reads : (name : Name) (old new : Disk) → Syncs name old new → AreReadAsWritten old → AreReadAsWritten new
sync_reads name old new s reads number file is at = elim (same_name (log_name number) name) [
  | inl same ↦
      let here : Some file ≡ Some (record { read = s.file.read; front = s.file.read; handed = [] }) = sym at ∙ ap new same ∙ s.puts.at in
      let P : Option File → Type 0 = reads_so in
      subst P (sym here) (sym (append-nil s.file.read))
  | inr ne ↦ reads number file is (sym (s.puts.others (log_name number) ne) ∙ at)
]

-- a sync is one call, whatever was answered
module _ {D : Type 0} (g : Ghosts D) where
  pub record SyncsOnce (name : Name) (old new : D) : Type 0 where
    pub only : OnlyNow g old
    pub remnant : (file : File) → g.disk old name ≡ Some file → IsRemnant file file.read
    pub outcome : (g.disk new ≡ g.disk old) ⊎ (Syncs name (g.disk old) (g.disk new) ⊎ Frays name (g.disk old) (g.disk new))
    pub follows : FollowsFile name (g.disk old) (g.disk new) (g.may_be old) (g.may_be new)
    pub told_same : g.told new ≡ g.told old
    pub time : Elapses (g.clock old) (g.clock new) (g.left_since old) (g.left_since new) (MayLeave (g.may_be new) (g.told new))

  pub once_found : (name : Name) (old new : D) → SyncsOnce name old new → LeavesOnly g.clock g.left_since old new (LeavesFound (g.may_be old) (g.told old))
  once_found name old new s =
      let P : List ℕ → Cut → Type 0 = λ t c. LeavesFound (g.may_be old) t c in
      one_call g old new (LeavesFound (g.may_be old) (g.told old)) (MayLeave (g.may_be new) (g.told new)) s.only (found_of_left (g.may_be old) (g.told old)) s.time
      (λ c leaves. subst (λ (t : List ℕ). P t c) s.told_same (sync_found name (g.disk old) (g.disk new) (g.may_be old) (g.may_be new) s.follows s.remnant s.outcome (g.told new) c leaves))

  pub once_left : (name : Name) (old new : D) → SyncsOnce name old new → ((file : File) → g.disk old name ≡ Some file → file.read ≡ file.front ++ file.handed)
      → LeavesOnly g.clock g.left_since old new (MayLeave (g.may_be old) (g.told old))
  once_left name old new s reads =
      one_call g old new (MayLeave (g.may_be old) (g.told old)) (MayLeave (g.may_be new) (g.told new)) s.only (λ c leaves. leaves) s.time
      (λ c leaves. subst (λ (t : List ℕ). MayLeave (g.may_be old) t c) s.told_same (sync_left name (g.disk old) (g.disk new) (g.may_be old) (g.may_be new) s.follows s.remnant s.outcome reads (g.told new) c leaves))
