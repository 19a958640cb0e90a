-- What a cut leaves, from call to call.
use Rattle.std.proofs.Common.{◌≡◌, ◌≢◌, ◌⊎◌, inl, inr, ⊎_elim, ℕ, ◌≤◌, ◌++◌, List, [], Option, None, Some, refl, sym, ◌∙◌, ap, subst, arith, append-nil}
use Rattle.std.specs.Option.{option_map}
use Rattle.bl_site.specs.Disk.{Name, File, Folder, Disk, Cut, IsRemnant, IsLeft, IsImage, IsCut, MayLeave, written_of}
use Rattle.bl_site.specs.Calls.{Creates, Syncs, Frays, MayDuring, FollowsFile, Elapses, LeavesOnly}
use Rattle.bl_site.specs.declared.site.Site.{Ghosts}
use Rattle.bl_site.proofs.Moments.{started, goes_on, joins, widened, cut_of_only, certain_call, name_call}
use Rattle.bl_site.proofs.Images.{sync_narrows, left_at, left_but, whole_remnant}
use Rattle.bl_entry.proofs.ItemLemmas.{some_is}
use Rattle.bl_open.specs.SteadyCuts.{LeavesStanding}
use Rattle.bl_open.specs.Barrier.{BeforeBarrier, FindsFiles, FindsOrLeaves, HasEmptyFile, IsOnEitherSide, IsWrittenOrSynced, LeavesFound, SyncsSome}
use Rattle.bl_open.specs.Synced.{synced_file}
use Rattle.bl_open.proofs.OutcomeLemmas.{synced_others}
use Rattle.bl_open.proofs.SyncLemmas.{same_name}

-- ---- what a cut before might have left

pub found_of_left : (may_be : Disk → Type 0) (told : List ℕ) (c : Cut) → MayLeave may_be told c → LeavesFound may_be told c
found_of_left may_be told c leaves = record { told_is = leaves.is_cut.told_is; was = (leaves.disk, leaves.possible, leaves.is_cut.image) }

pub before_of_found : (name : Name) (may_be : Disk → Type 0) (told : List ℕ) (c : Cut) → LeavesFound may_be told c → BeforeBarrier name may_be told c
before_of_found name may_be told c finds = record { told_is = finds.told_is; found = c.folder; was = finds.was; perhaps = inl refl }

abbrev pub cut_found : Folder → List ℕ → Disk → Cut
cut_found folder told disk = record { folder = folder; told = told; written = written_of disk }

-- a sync of one file, whatever was answered
module _ (name : Name) (old new : Disk) (was now : Disk → Type 0) (follows : FollowsFile name old new was now)
    (remnant : (file : File) → old name ≡ Some file → IsRemnant file file.read) (outcome : (new ≡ old) ⊎ (Syncs name old new ⊎ Frays name old new)) where
  image_before : (disk before : Disk) (folder : Folder) → ((other : Name) → (disk other ≡ before other) ⊎ ((before other ≡ old name) × (disk other ≡ new name))) → IsImage disk folder → IsImage before folder
  image_before disk before folder from image other =
      ⊎_elim
      (λ same. subst (λ (o : Option File). IsLeft o (folder other)) same (image other))
      (λ file. subst (λ (o : Option File). IsLeft o (folder other)) (sym file.0)
      (sync_narrows name old new remnant outcome (folder other) (subst (λ (o : Option File). IsLeft o (folder other)) file.1 (image other))))
      (from other)

  sync_found : (told : List ℕ) (c : Cut) → MayLeave now told c → LeavesFound was told c
  sync_found told c leaves =
      let from = follows leaves.disk leaves.possible in
      record { told_is = leaves.is_cut.told_is; was = (from.0, from.1, image_before leaves.disk from.0 c.folder from.2 leaves.is_cut.image) }

-- a file was made: what was found without it
module _ (name : Name) (before after : Disk) (folder : Folder) (made : Creates name before after) (image : IsImage after folder) where
  fronts : Option File → Option (List ℕ)
  fronts o = option_map (λ file. file.front) o

  front_left : (o : Option File) → IsLeft o (fronts o)
  unfolding fronts
  front_left None = tt
  front_left (Some file) = record { tail = []; split = sym (append-nil file.front); no_longer = omega arith }

  either : (other : Name) → (other ≡ name) ⊎ (other ≢ name) → Option (List ℕ)
  either other (inl same) = fronts (before name)
  either other (inr ne) = folder other

  without : Folder
  without other = either other (same_name other name)

  either_left : (other : Name) (is : (other ≡ name) ⊎ (other ≢ name)) → IsLeft (before other) (either other is)
  unfolding either
  either_left other (inl same) = subst (λ (n : Name). IsLeft (before n) (fronts (before name))) (sym same) (front_left (before name))
  either_left other (inr ne) = left_but name _ before after folder made image other ne

  either_other : (other : Name) (is : (other ≡ name) ⊎ (other ≢ name)) → other ≢ name → folder other ≡ either other is
  unfolding either
  either_other other (inl same) ne = absurd (ne same)
  either_other other (inr differs) ne = refl

  without_left : IsImage before without
  unfolding without
  without_left other = either_left other (same_name other name)

  made_on_it : HasEmptyFile name without folder
  unfolding without
  made_on_it = record {
    made = let left = left_at name _ before after folder made image in left.1 ∙ ap Some (whole_remnant _ left.0 refl left.2);
    others = λ other ne. either_other other (same_name other name) ne;
  }

while_made : (name : Name) (may_be : Disk → Type 0) (told : List ℕ) (c : Cut) → MayLeave (MayDuring (Creates name) may_be) told c → BeforeBarrier name may_be told c
while_made name may_be told c leaves =
    ⊎_elim
    (λ was. record { told_is = leaves.is_cut.told_is; found = c.folder; was = (leaves.disk, was, leaves.is_cut.image); perhaps = inl refl })
    (λ from. record {
      told_is = leaves.is_cut.told_is;
      found = without name from.0 leaves.disk c.folder from.2 leaves.is_cut.image;
      was = (from.0, from.1, without_left name from.0 leaves.disk c.folder from.2 leaves.is_cut.image);
      perhaps = inr (made_on_it name from.0 leaves.disk c.folder from.2 leaves.is_cut.image);
    })
    leaves.possible

-- ---- the files that were there

abbrev read_in : Option File → Option (List ℕ)
read_in o = option_map (λ (x : File). x.read) o

abbrev written_in : Option File → Option (List ℕ)
written_in o = option_map (λ (x : File). x.front ++ x.handed) o

pub files_in : (disk : Disk) (told : List ℕ) (c : Cut) → IsCut disk told c → FindsFiles disk told c
files_in disk told c is = record { told_is = is.told_is; image = is.image; written = λ name. inl (is.written_is name) }

-- a synced file is left as it reads
left_synced : (x : File) (o : Option (List ℕ)) → IsLeft (Some (synced_file x)) o → o ≡ Some x.read
left_synced x None l = absurd l
left_synced x (Some bytes) l = ap Some (whole_remnant _ bytes refl l)

read_left : (x : File) (o : Option (List ℕ)) → IsRemnant x x.read → o ≡ Some x.read → IsLeft (Some x) o
read_left x o whole is = subst (λ (p : Option (List ℕ)). IsLeft (Some x) p) (sym is) whole

-- a sync of one file, whatever was answered
module _ (name : Name) (old new : Disk) (remnant : (file : File) → old name ≡ Some file → IsRemnant file file.read) where
  file_written : (new ≡ old) ⊎ (Syncs name old new ⊎ Frays name old new) → (c : Cut) → c.written name ≡ written_of new name → IsLeft (new name) (c.folder name) → IsWrittenOrSynced old c name
  file_written (inl same) c is left = inl (is ∙ ap (λ (d : Disk). written_of d name) same)
  file_written (inr (inl s)) c is left =
      let was : read_in (old name) ≡ Some s.file.read = ap read_in s.was in
      inr (
        is ∙ ap written_in s.puts.at ∙ ap Some (append-nil s.file.read) ∙ sym was,
        left_synced s.file (c.folder name) (subst (λ (o : Option File). IsLeft o (c.folder name)) s.puts.at left) ∙ sym was,
      )
  file_written (inr (inr f)) c is left = inl (is ∙ ap written_in f.puts.at ∙ sym (ap written_in f.was))

  module _ (outcome : (new ≡ old) ⊎ (Syncs name old new ⊎ Frays name old new)) (told : List ℕ) (c : Cut) (cut : IsCut new told c) where
    image_at : (other : Name) → (other ≡ name) ⊎ (other ≢ name) → IsLeft (old other) (c.folder other)
    image_at other (inl same) = subst (λ (n : Name). IsLeft (old n) (c.folder n)) (sym same) (sync_narrows name old new remnant outcome (c.folder name) (cut.image name))
    image_at other (inr ne) = subst (λ (o : Option File). IsLeft o (c.folder other)) (synced_others name old new outcome other ne) (cut.image other)

    written_at : (other : Name) → (other ≡ name) ⊎ (other ≢ name) → IsWrittenOrSynced old c other
    written_at other (inl same) = subst (λ (n : Name). IsWrittenOrSynced old c n) (sym same) (file_written outcome c (cut.written_is name) (cut.image name))
    written_at other (inr ne) = inl (cut.written_is other ∙ ap written_in (synced_others name old new outcome other ne))

    pub synced_in : FindsFiles old told c
    synced_in = record {
      told_is = cut.told_is;
      image = λ other. image_at other (same_name other name);
      written = λ other. written_at other (same_name other name);
    }

-- some files were synced
pub some_synced : (name : Name) (old new : Disk) → Syncs name old new → SyncsSome old new
some_synced name old new s other = by (same_name other name)
  where
    by : (other ≡ name) ⊎ (other ≢ name) → (new other ≡ old other) ⊎ ((x : File) × (old other ≡ Some x) × (new other ≡ Some (synced_file x)))
    by (inl same) = inr (s.file, ap old same ∙ s.was, ap new same ∙ s.puts.at)
    by (inr ne) = inl (s.puts.others other ne)

pub none_synced : (old new : Disk) → new ≡ old → SyncsSome old new
none_synced old new same name = inl (ap (λ (d : Disk). d name) same)

pub some_then : (old mid new : Disk) → SyncsSome old mid → SyncsSome mid new → SyncsSome old new
some_then old mid new first second name = by (first name) (second name)
  where
    by : (mid name ≡ old name) ⊎ ((x : File) × (old name ≡ Some x) × (mid name ≡ Some (synced_file x))) → (new name ≡ mid name) ⊎ ((x : File) × (mid name ≡ Some x) × (new name ≡ Some (synced_file x)))
        → (new name ≡ old name) ⊎ ((x : File) × (old name ≡ Some x) × (new name ≡ Some (synced_file x)))
    by (inl was) (inl same) = inl (same ∙ was)
    by (inl was) (inr y) = inr (y.0, sym was ∙ y.1, y.2)
    by (inr x) (inl same) = inr (x.0, x.1, same ∙ x.2)
    by (inr x) (inr y) = inr (x.0, x.1, y.2 ∙ ap (λ (f : File). Some (synced_file f)) (some_is (sym y.1 ∙ x.2)))

module _ (old mid : Disk) (remnant : (name : Name) (x : File) → old name ≡ Some x → IsRemnant x x.read) (some : SyncsSome old mid) (told : List ℕ) (c : Cut) (finds : FindsFiles mid told c) where
  abbrev Same : Name → Type 0
  Same name = (mid name ≡ old name) ⊎ ((x : File) × (old name ≡ Some x) × (mid name ≡ Some (synced_file x)))

  left_so : (name : Name) (x : File) → mid name ≡ Some (synced_file x) → c.folder name ≡ Some x.read
  left_so name x is = left_synced x (c.folder name) (subst (λ (o : Option File). IsLeft o (c.folder name)) is (finds.image name))

  through_image : (name : Name) → Same name → IsLeft (old name) (c.folder name)
  through_image name (inl same) = subst (λ (o : Option File). IsLeft o (c.folder name)) same (finds.image name)
  through_image name (inr x) = subst (λ (o : Option File). IsLeft o (c.folder name)) (sym x.1) (read_left x.0 (c.folder name) (remnant name x.0 x.1) (left_so name x.0 x.2))

  through_written : (name : Name) → Same name → IsWrittenOrSynced mid c name → IsWrittenOrSynced old c name
  through_written name (inl same) (inl is) = inl (is ∙ ap written_in same)
  through_written name (inl same) (inr p) = inr (p.0 ∙ ap read_in same, p.1 ∙ ap read_in same)
  through_written name (inr x) (inl is) = inr (is ∙ ap written_in x.2 ∙ ap Some (append-nil x.0.read) ∙ sym (ap read_in x.1), left_so name x.0 x.2 ∙ sym (ap read_in x.1))
  through_written name (inr x) (inr p) = inr (p.0 ∙ ap read_in x.2 ∙ sym (ap read_in x.1), left_so name x.0 x.2 ∙ sym (ap read_in x.1))

  pub files_through : FindsFiles old told c
  files_through = record {
    told_is = finds.told_is;
    image = λ name. through_image name (some name);
    written = λ name. through_written name (some name) (finds.written name);
  }

-- ---- moments

module _ {D : Type 0} (g : Ghosts D) where
  abbrev pub CountsNow : D → Type 0
  CountsNow site = (t : ℕ) (c : Cut) → t ≤ g.clock site → MayLeave (g.may_be site) (g.told site) c → g.left_since site t c

  abbrev pub OnlyNow : D → Type 0
  OnlyNow site = (c : Cut) → g.left_since site (g.clock site) c → MayLeave (g.may_be site) (g.told site) c

  abbrev pub IsSure : D → Type 0
  IsSure site = (other : Disk) → g.may_be site other → other ≡ g.disk site

  at_end : (old new : D) (P : Cut → Type 0) → CountsNow new → LeavesOnly g.clock g.left_since old new P → (c : Cut) → MayLeave (g.may_be new) (g.told new) c → P c
  at_end old new P counts leaves c may = leaves.each c (counts (g.clock old) c leaves.later may)

  one_call : (old new : D) (P during : Cut → Type 0) → OnlyNow old → ((c : Cut) → MayLeave (g.may_be old) (g.told old) c → P c) → Elapses (g.clock old) (g.clock new) (g.left_since old) (g.left_since new) during
      → ((c : Cut) → during c → P c) → LeavesOnly g.clock g.left_since old new P
  one_call old new P during only before time here = goes_on g.clock g.left_since old old new P during (started g.clock g.left_since old P (λ c left. before c (only c left))) time here

  -- no call
  pub none_found : (old : D) → OnlyNow old → LeavesOnly g.clock g.left_since old old (LeavesFound (g.may_be old) (g.told old))
  none_found old only = started g.clock g.left_since old (LeavesFound (g.may_be old) (g.told old)) (λ c left. found_of_left (g.may_be old) (g.told old) c (only c left))

  pub none_files : (old : D) → OnlyNow old → IsSure old → LeavesOnly g.clock g.left_since old old (FindsFiles (g.disk old) (g.told old))
  none_files old now only =
      started g.clock g.left_since old (FindsFiles (g.disk old) (g.told old)) (λ c left. files_in (g.disk old) (g.told old) c (cut_of_only (g.may_be old) (g.disk old) (g.told old) c only (now c left)))

  -- a sync
  pub synced_found : (name : Name) (old new : D) → OnlyNow old → ((file : File) → g.disk old name ≡ Some file → IsRemnant file file.read)
      → (g.disk new ≡ g.disk old) ⊎ (Syncs name (g.disk old) (g.disk new) ⊎ Frays name (g.disk old) (g.disk new)) → FollowsFile name (g.disk old) (g.disk new) (g.may_be old) (g.may_be new) → g.told new ≡ g.told old
      → Elapses (g.clock old) (g.clock new) (g.left_since old) (g.left_since new) (MayLeave (g.may_be new) (g.told new)) → LeavesOnly g.clock g.left_since old new (LeavesFound (g.may_be old) (g.told old))
  synced_found name old new only remnant outcome follows same time =
      let P : List ℕ → Cut → Type 0 = λ t c. LeavesFound (g.may_be old) t c in
      one_call old new (LeavesFound (g.may_be old) (g.told old)) (MayLeave (g.may_be new) (g.told new)) only (found_of_left (g.may_be old) (g.told old)) time
      (λ c leaves. subst (λ (t : List ℕ). P t c) same (sync_found name (g.disk old) (g.disk new) (g.may_be old) (g.may_be new) follows remnant outcome (g.told new) c leaves))

  pub synced_files : (name : Name) (old new : D) → OnlyNow old → IsSure old → IsSure new → ((file : File) → g.disk old name ≡ Some file → IsRemnant file file.read)
      → (g.disk new ≡ g.disk old) ⊎ (Syncs name (g.disk old) (g.disk new) ⊎ Frays name (g.disk old) (g.disk new)) → g.told new ≡ g.told old
      → Elapses (g.clock old) (g.clock new) (g.left_since old) (g.left_since new) (MayLeave (g.may_be new) (g.told new)) → LeavesOnly g.clock g.left_since old new (FindsFiles (g.disk old) (g.told old))
  synced_files name old new now only only_new remnant outcome same time =
      certain_call g.clock g.left_since g.disk g.told g.may_be old old new (FindsFiles (g.disk old) (g.told old)) (none_files old now only) time only_new
      (λ c is. subst (λ (t : List ℕ). FindsFiles (g.disk old) t c) same (synced_in name (g.disk old) (g.disk new) remnant outcome (g.told new) c is))

  -- one run behind another
  found_then : (old mid : D) → CountsNow mid → g.told mid ≡ g.told old → LeavesOnly g.clock g.left_since old mid (LeavesFound (g.may_be old) (g.told old))
      → (c : Cut) → LeavesFound (g.may_be mid) (g.told mid) c → LeavesFound (g.may_be old) (g.told old) c
  found_then old mid counts same first c finds =
      let found = at_end old mid (LeavesFound (g.may_be old) (g.told old)) counts first (cut_found c.folder (g.told mid) finds.was.0)
      (record { disk = finds.was.0; possible = finds.was.1; is_cut = record { image = finds.was.2; told_is = refl; written_is = λ name. refl } }) in
      record { told_is = finds.told_is ∙ same; was = found.was }

  pub then_found : (old mid new : D) → CountsNow mid → g.told mid ≡ g.told old → LeavesOnly g.clock g.left_since old mid (LeavesFound (g.may_be old) (g.told old))
      → LeavesOnly g.clock g.left_since mid new (LeavesFound (g.may_be mid) (g.told mid)) → LeavesOnly g.clock g.left_since old new (LeavesFound (g.may_be old) (g.told old))
  then_found old mid new counts same first second =
      joins g.clock g.left_since old mid new (LeavesFound (g.may_be old) (g.told old)) first
      (widened g.clock g.left_since mid new (LeavesFound (g.may_be mid) (g.told mid)) (LeavesFound (g.may_be old) (g.told old)) (found_then old mid counts same first) second)

  abbrev pub AreRemnants : D → Type 0
  AreRemnants site = (name : Name) (x : File) → g.disk site name ≡ Some x → IsRemnant x x.read

  -- some were synced by then
  files_told : (old mid : D) → AreRemnants old → SyncsSome (g.disk old) (g.disk mid) → g.told mid ≡ g.told old → (c : Cut) → FindsFiles (g.disk mid) (g.told mid) c → FindsFiles (g.disk old) (g.told old) c
  files_told old mid remnants some same c finds = subst (λ (t : List ℕ). FindsFiles (g.disk old) t c) same (files_through (g.disk old) (g.disk mid) remnants some (g.told mid) c finds)

  pub then_files : (old mid new : D) → AreRemnants old → SyncsSome (g.disk old) (g.disk mid) → g.told mid ≡ g.told old → LeavesOnly g.clock g.left_since old mid (FindsFiles (g.disk old) (g.told old))
      → LeavesOnly g.clock g.left_since mid new (FindsFiles (g.disk mid) (g.told mid)) → LeavesOnly g.clock g.left_since old new (FindsFiles (g.disk old) (g.told old))
  then_files old mid new remnants some same first second =
      let P : Cut → Type 0 = FindsFiles (g.disk old) (g.told old) in
      joins g.clock g.left_since old mid new P first (widened g.clock g.left_since mid new (FindsFiles (g.disk mid) (g.told mid)) P (files_told old mid remnants some same) second)

  -- a file is made
  pub made_before : (name : Name) (old new : D) → OnlyNow old → Elapses (g.clock old) (g.clock new) (g.left_since old) (g.left_since new) (MayLeave (MayDuring (Creates name) (g.may_be old)) (g.told old))
      → LeavesOnly g.clock g.left_since old new (BeforeBarrier name (g.may_be old) (g.told old))
  made_before name old new only time =
      one_call old new (BeforeBarrier name (g.may_be old) (g.told old)) (MayLeave (MayDuring (Creates name) (g.may_be old)) (g.told old)) only
      (λ c may. before_of_found name (g.may_be old) (g.told old) c (found_of_left (g.may_be old) (g.told old) c may)) time (while_made name (g.may_be old) (g.told old))

  -- behind the syncs
  before_then : (name : Name) (old mid : D) → CountsNow mid → g.told mid ≡ g.told old → LeavesOnly g.clock g.left_since old mid (LeavesFound (g.may_be old) (g.told old))
      → (c : Cut) → BeforeBarrier name (g.may_be mid) (g.told mid) c → BeforeBarrier name (g.may_be old) (g.told old) c
  before_then name old mid counts same first c b = record {
    told_is = b.told_is ∙ same;
    found = b.found;
    was = (found_then old mid counts same first (cut_found b.found (g.told mid) b.was.0) (record { told_is = refl; was = b.was })).was;
    perhaps = b.perhaps;
  }

  pub all_before : (name : Name) (old new : D) → LeavesOnly g.clock g.left_since old new (LeavesFound (g.may_be old) (g.told old)) → LeavesOnly g.clock g.left_since old new (BeforeBarrier name (g.may_be old) (g.told old))
  all_before name old new leaves = widened g.clock g.left_since old new (LeavesFound (g.may_be old) (g.told old)) (BeforeBarrier name (g.may_be old) (g.told old)) (before_of_found name (g.may_be old) (g.told old)) leaves

  pub then_before : (name : Name) (old mid new : D) → CountsNow mid → g.told mid ≡ g.told old → LeavesOnly g.clock g.left_since old mid (LeavesFound (g.may_be old) (g.told old))
      → LeavesOnly g.clock g.left_since mid new (BeforeBarrier name (g.may_be mid) (g.told mid)) → LeavesOnly g.clock g.left_since old new (BeforeBarrier name (g.may_be old) (g.told old))
  then_before name old mid new counts same first second =
      joins g.clock g.left_since old mid new (BeforeBarrier name (g.may_be old) (g.told old)) (all_before name old mid first)
      (widened g.clock g.left_since mid new (BeforeBarrier name (g.may_be mid) (g.told mid)) (BeforeBarrier name (g.may_be old) (g.told old)) (before_then name old mid counts same first) second)

  -- a cut finds the files, or what it leaves stands
  pub files_or : (stood : Cut → Type 0) (old new : D) → LeavesOnly g.clock g.left_since old new (FindsFiles (g.disk old) (g.told old)) → LeavesOnly g.clock g.left_since old new (FindsOrLeaves (g.disk old) stood (g.told old))
  files_or stood old new leaves = widened g.clock g.left_since old new (FindsFiles (g.disk old) (g.told old)) (FindsOrLeaves (g.disk old) stood (g.told old)) (λ c finds. inl finds) leaves

  pub all_or : (stood : Cut → Type 0) (old new : D) → LeavesOnly g.clock g.left_since old new (LeavesStanding stood (g.told old)) → LeavesOnly g.clock g.left_since old new (FindsOrLeaves (g.disk old) stood (g.told old))
  all_or stood old new leaves = widened g.clock g.left_since old new (LeavesStanding stood (g.told old)) (FindsOrLeaves (g.disk old) stood (g.told old)) (λ c stands. inr stands) leaves

  pub then_or : (stood : Cut → Type 0) (old mid new : D) → AreRemnants old → SyncsSome (g.disk old) (g.disk mid) → g.told mid ≡ g.told old → LeavesOnly g.clock g.left_since old mid (FindsFiles (g.disk old) (g.told old))
      → LeavesOnly g.clock g.left_since mid new (FindsOrLeaves (g.disk mid) stood (g.told mid)) → LeavesOnly g.clock g.left_since old new (FindsOrLeaves (g.disk old) stood (g.told old))
  then_or stood old mid new remnants some same first second =
      joins g.clock g.left_since old mid new (FindsOrLeaves (g.disk old) stood (g.told old)) (files_or stood old mid first)
      (widened g.clock g.left_since mid new (FindsOrLeaves (g.disk mid) stood (g.told mid)) (FindsOrLeaves (g.disk old) stood (g.told old))
      (λ c. ⊎_elim (λ finds. inl (files_told old mid remnants some same c finds)) (λ stands. inr (subst (λ (t : List ℕ). LeavesStanding stood t c) same stands))) second)

  -- ---- disks of which a cut leaves what stands

  module _ (P : Disk → Type 0) (stood : Cut → Type 0) (cuts : (disk : Disk) (told : List ℕ) (c : Cut) → P disk → IsCut disk told c → stood c) where
    standing : (d : Disk) (l l_old : List ℕ) (c : Cut) → l ≡ l_old → P d → IsCut d l c → LeavesStanding stood l_old c
    standing d l l_old c same r cut = record { told_is = cut.told_is ∙ same; left = cuts d l c r cut }

    pub rest_start : (old : D) → OnlyNow old → IsSure old → P (g.disk old) → LeavesOnly g.clock g.left_since old old (LeavesStanding stood (g.told old))
    rest_start old now only r =
        started g.clock g.left_since old (LeavesStanding stood (g.told old)) (λ c left. standing (g.disk old) (g.told old) (g.told old) c refl r (cut_of_only (g.may_be old) (g.disk old) (g.told old) c only (now c left)))

    -- a name call
    pub rest_call : (call : Disk → Disk → Type 0) (old mid new : D) → LeavesOnly g.clock g.left_since old mid (LeavesStanding stood (g.told old)) → g.told mid ≡ g.told old → IsSure mid → P (g.disk mid)
        → ((after : Disk) → call (g.disk mid) after → P after)
        → Elapses (g.clock mid) (g.clock new) (g.left_since mid) (g.left_since new) (MayLeave (MayDuring call (g.may_be mid)) (g.told mid)) → LeavesOnly g.clock g.left_since old new (LeavesStanding stood (g.told old))
    rest_call call old mid new sofar same only r keeps time =
        name_call g.clock g.left_since g.disk g.told g.may_be call old mid new (LeavesStanding stood (g.told old)) sofar time only (λ c cut. standing (g.disk mid) (g.told mid) (g.told old) c same r cut)
        (λ after c did cut. standing after (g.told mid) (g.told old) c same (keeps after did) cut)

    -- an append, or a sync
    pub rest_goes_on : (old mid new : D) → LeavesOnly g.clock g.left_since old mid (LeavesStanding stood (g.told old)) → g.told new ≡ g.told old → IsSure new → P (g.disk new)
        → Elapses (g.clock mid) (g.clock new) (g.left_since mid) (g.left_since new) (MayLeave (g.may_be new) (g.told new)) → LeavesOnly g.clock g.left_since old new (LeavesStanding stood (g.told old))
    rest_goes_on old mid new sofar same only r time =
        certain_call g.clock g.left_since g.disk g.told g.may_be old mid new (LeavesStanding stood (g.told old)) sofar time only (λ c cut. standing (g.disk new) (g.told new) (g.told old) c same r cut)

  pub then_standing : (stood : Cut → Type 0) (old mid new : D) → g.told mid ≡ g.told old → LeavesOnly g.clock g.left_since old mid (LeavesStanding stood (g.told old)) → LeavesOnly g.clock g.left_since mid new (LeavesStanding stood (g.told mid))
      → LeavesOnly g.clock g.left_since old new (LeavesStanding stood (g.told old))
  then_standing stood old mid new same first second =
      joins g.clock g.left_since old mid new (LeavesStanding stood (g.told old)) first (subst (λ (l : List ℕ). LeavesOnly g.clock g.left_since mid new (LeavesStanding stood l)) same second)

-- ---- either side of the barrier

module _ {D : Type 0} (g : Ghosts D) where
  pub side_before : (name : Name) (stood : Cut → Type 0) (old new : D) → LeavesOnly g.clock g.left_since old new (BeforeBarrier name (g.may_be old) (g.told old)) → LeavesOnly g.clock g.left_since old new (IsOnEitherSide name (g.may_be old) stood (g.told old))
  side_before name stood old new leaves = widened g.clock g.left_since old new (BeforeBarrier name (g.may_be old) (g.told old)) (IsOnEitherSide name (g.may_be old) stood (g.told old)) (λ c b. inl b) leaves

  pub side_found : (name : Name) (stood : Cut → Type 0) (old new : D) → LeavesOnly g.clock g.left_since old new (LeavesFound (g.may_be old) (g.told old)) → LeavesOnly g.clock g.left_since old new (IsOnEitherSide name (g.may_be old) stood (g.told old))
  side_found name stood old new leaves = side_before name stood old new (all_before g name old new leaves)

  -- the first name call is answered, and cuts stand for the map
  pub side_then : (name : Name) (stood : Cut → Type 0) (old mid new : D) → g.told mid ≡ g.told old → LeavesOnly g.clock g.left_since old mid (IsOnEitherSide name (g.may_be old) stood (g.told old)) → LeavesOnly g.clock g.left_since mid new (LeavesStanding stood (g.told mid))
      → LeavesOnly g.clock g.left_since old new (IsOnEitherSide name (g.may_be old) stood (g.told old))
  side_then name stood old mid new same first second =
      joins g.clock g.left_since old mid new (IsOnEitherSide name (g.may_be old) stood (g.told old)) first
      (widened g.clock g.left_since mid new (LeavesStanding stood (g.told mid)) (IsOnEitherSide name (g.may_be old) stood (g.told old)) (λ c stands. inr (subst (λ (t : List ℕ). LeavesStanding stood t c) same stands)) second)

  -- behind the syncs
  pub found_side : (name : Name) (stood : Cut → Type 0) (old mid new : D) → CountsNow g mid → g.told mid ≡ g.told old → LeavesOnly g.clock g.left_since old mid (LeavesFound (g.may_be old) (g.told old))
      → LeavesOnly g.clock g.left_since mid new (IsOnEitherSide name (g.may_be mid) stood (g.told mid)) → LeavesOnly g.clock g.left_since old new (IsOnEitherSide name (g.may_be old) stood (g.told old))
  found_side name stood old mid new counts same first second =
      joins g.clock g.left_since old mid new (IsOnEitherSide name (g.may_be old) stood (g.told old)) (side_found name stood old mid first)
      (widened g.clock g.left_since mid new (IsOnEitherSide name (g.may_be mid) stood (g.told mid)) (IsOnEitherSide name (g.may_be old) stood (g.told old))
      (λ c side. ⊎_elim (λ b. inl (before_then g name old mid counts same first c b)) (λ stands. inr (subst (λ (t : List ℕ). LeavesStanding stood t c) same stands)) side) second)
