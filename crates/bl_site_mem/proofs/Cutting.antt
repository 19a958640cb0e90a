-- The files that a cut leaves, put into a site one after another.
use Rattle.std.proofs.Common.{◌≡◌, ℕ, ◌≤◌, ◌-◌, Bool, true, false, cond, ◌||◌, List, [], ◌∷◌, ◌++◌, length, take, drop, refl, sym, ◌∙◌, ap, subst, arith, Option, None, Some, IsSome, Contains, length-append, length-drop, ◌==◌, inl, Result, Ok, Err, IfOk}
use Rattle.std.proofs.lemmas.List.{length-take, take_at}
use Rattle.std.proofs.Math.ListN.{length-replicate}
use Rattle.std.proofs.lemmas.List.Folds.{list_any-append}
use Rattle.std.proofs.lemmas.Map.Views.{list_any-from_Contains}
use Rattle.std.proofs.lemmas.Cmp.{nat_list_eq_equiv}
use Rattle.std.proofs.lemmas.Slice.Eq.{bytes_eq-Decides}
use Rattle.std.specs.Option.{option_map}
use Rattle.std.specs.List.{list_any}
use Rattle.std.specs.Map.{update}
use Rattle.std.specs.Str.{bytes_eq}
use Rattle.bl_site.specs.Disk.{Name, File, Disk, Folder, Cut, IsRemnant, IsLeft, IsImage, folder_of, written_of}
use Rattle.bl_site_mem.specs.Record.{Entry, is_put, synced_file, State, start, run, after, Leaves, LeftSince}
use Rattle.bl_site_mem.specs.Laws.{WholeAt, whole_run, reads}
use Rattle.bl_site_mem.specs.Kept.{kept_of}
use Rattle.bl_site_mem.specs.Moments.{until, filled, tail_left, bytes_left, left_of, disk_left}

filled_no_longer : (fill : Option ℕ) (count : ℕ) → length (filled fill count) ≤ count
filled_no_longer None count = omega arith
filled_no_longer (Some byte) count = omega (arith, length-replicate count byte)

module _ (keep : ℕ) (fill : Option ℕ) where
  abbrev pub left_here : Option File → Option File
  left_here file = option_map (λ (f : File). synced_file (left_of keep fill f)) file

  abbrev left_stored : Option (List ℕ × ℕ) → Option File
  left_stored stored = option_map (λ (c : List ℕ × ℕ). synced_file (bytes_left keep fill c.0 c.1)) stored

  pub left_kept : (stored : Option (List ℕ × ℕ)) (file : Option File) → stored ≡ option_map kept_of file → left_stored stored ≡ left_here file
  left_kept stored file is = ap (λ (o : Option (List ℕ × ℕ)). left_stored o) is ∙ same file
    where
      same : (o : Option File) → left_stored (option_map kept_of o) ≡ left_here o
      same None = refl
      same (Some f) = refl

  -- one name more
  pub left_more : (disk : Disk) (names more : List Name) (name : Name) (old new : Disk) → more ≡ names ++ name ∷ [] → ((q : Name) → old q ≡ disk_left keep fill disk names q) → ((q : Name) → new q ≡ update bytes_eq old name (left_here (disk name)) q)
      → (q : Name) → new q ≡ disk_left keep fill disk more q
  left_more disk names more name old new one was puts q =
      puts q ∙ ap (λ (o : Option File). cond (bytes_eq name q) (left_here (disk name)) o) (was q)
      ∙ decide (bytes_eq name q) (bytes_eq q name) (list_any (bytes_eq q) names) refl refl
      ∙ ap (λ b. cond b (left_here (disk q)) None) (sym (list_any-append (bytes_eq q) names (name ∷ [])))
      ∙ ap (λ (l : List Name). disk_left keep fill disk l q) (sym one)
    where
      decide : (a b c : Bool) → bytes_eq name q ≡ a → bytes_eq q name ≡ b → cond a (left_here (disk name)) (cond c (left_here (disk q)) None) ≡ cond (c || (b || false)) (left_here (disk q)) None
      decide true true true is is_too = ap (λ (n : Name). left_here (disk n)) ((bytes_eq-Decides name q).0 is)
      decide true true false is is_too = ap (λ (n : Name). left_here (disk n)) ((bytes_eq-Decides name q).0 is)
      decide true false c is is_too = cc (is_too, (bytes_eq-Decides q name).1 (sym ((bytes_eq-Decides name q).0 is)))
      decide false true c is is_too = cc (is, (bytes_eq-Decides name q).1 (sym ((bytes_eq-Decides q name).0 is_too)))
      decide false false true is is_too = refl
      decide false false false is is_too = refl

  -- of a name that is not in the list there is no file
  pub left_all : (disk : Disk) (names : List Name) → ((name : Name) → IsSome (disk name) → Contains names name) → (q : Name) → disk_left keep fill disk names q ≡ left_here (disk q)
  left_all disk names all q = decide (list_any (bytes_eq q) names) (disk q) refl (λ some. list_any-from_Contains nat_list_eq_equiv q names (all q some))
    where
      decide : (b : Bool) (o : Option File) → list_any (bytes_eq q) names ≡ b → (IsSome o → list_any (bytes_eq q) names ≡ true) → cond b (left_here o) None ≡ left_here o
      decide true o is there = refl
      decide false None is there = refl
      decide false (Some f) is there = cc (is, there refl)

  -- what is left of a file is one of the things that a cut may leave of it
  pub remnant_left : (file : File) → IsRemnant file file.read → IsRemnant file (left_of keep fill file)
  remnant_left file whole = record {
    tail = tail_left keep fill (drop (length file.front) file.read);
    split = ap (λ (l : List ℕ). l ++ tail_left keep fill (drop (length file.front) file.read)) front_is;
    no_longer = omega (
      arith,
      whole.no_longer,
      ap length whole.split,
      length-append file.front whole.tail,
      length-drop (length file.front) file.read,
      length-append (take keep (drop (length file.front) file.read)) (filled fill (length (drop (length file.front) file.read) - keep)),
      length-take keep (drop (length file.front) file.read),
      filled_no_longer fill (length (drop (length file.front) file.read) - keep),
    );
  }
    where
      front_is : take (length file.front) file.read ≡ file.front
      front_is = ap (λ (l : List ℕ). take (length file.front) l) whole.split ∙ take_at file.front whole.tail (length file.front) refl

  -- and the whole folder is one that a cut may leave
  pub image_left : (disk left : Disk) → ((name : Name) → WholeAt (disk name)) → ((q : Name) → left q ≡ left_here (disk q)) → IsImage disk (folder_of left)
  image_left disk left whole is name = subst (λ (o : Option File). IsLeft (disk name) (option_map (λ (f : File). f.read) o)) (sym (is name)) (pick (disk name) (whole name))
    where
      pick : (o : Option File) → WholeAt o → IsLeft o (option_map (λ (f : File). f.read) (left_here o))
      pick None w = tt
      pick (Some f) w = remnant_left f w

-- what a cut now may leave in a run that is cut short, a cut from that moment on might have left in the whole run
pub left_until : (at : ℕ) (es : List Entry) (state : State) (c : Cut) → Leaves (run (until at es) state) c → LeftSince state es (length (until at es)) c
left_until at [] state c leaves = leaves
left_until at (e ∷ es) state c leaves = decide (left_until at es (after e state) c) (left_until (at - 1) es (after e state) c) (is_put e.call) (at == 0) leaves
  where
    decide : (Leaves (run (until at es) (after e state)) c → LeftSince (after e state) es (length (until at es)) c)
        → (Leaves (run (until (at - 1) es) (after e state)) c → LeftSince (after e state) es (length (until (at - 1) es)) c)
        → (put none : Bool) → Leaves (run (cond put (e ∷ until at es) (cond none [] (e ∷ until (at - 1) es))) state) c
        → LeftSince state (e ∷ es) (length (cond put (e ∷ until at es) (cond none [] (e ∷ until (at - 1) es)))) c
    decide with_put with_call true none l = with_put l
    decide with_put with_call false true l = inl l
    decide with_put with_call false false l = with_call l

-- the cut of a disk that reads
pub leaves_image : (entries : List Entry) (folder : Folder) → IsImage (run entries start).disk folder
    → Leaves (run entries start) (record { folder = folder; told = (run entries start).told; written = written_of (run entries start).disk })
leaves_image entries folder image = record {
  disk = (run entries start).disk;
  possible = reads (run entries start).doubt (run entries start).disk;
  is_cut = record { image = image; told_is = refl; written_is = λ name. refl };
}

pub if_ok_map : {T E : Type 0} (r : Result T E) (P Q : T → Type 0) → ((x : T) → P x → Q x) → IfOk r P → IfOk r Q
if_ok_map (Ok x) P Q f p = f x p
if_ok_map (Err e) P Q f p = tt

-- the disk that a cut leaves in the place of that which a run has
abbrev pub IsCutDisk : ℕ → ℕ → Option ℕ → List Entry → Disk → Type 0
IsCutDisk at keep fill entries disk = (q : Name) → disk q ≡ left_here keep fill ((run (until at entries) start).disk q)

pub cut_image : (at keep : ℕ) (fill : Option ℕ) (entries : List Entry) (disk : Disk) → IsCutDisk at keep fill entries disk → IsImage (run (until at entries) start).disk (folder_of disk)
cut_image at keep fill entries disk is = image_left keep fill (run (until at entries) start).disk disk (whole_run (until at entries) start (λ _. tt)) is

pub cut_was_left : (at keep : ℕ) (fill : Option ℕ) (entries : List Entry) (disk : Disk) → IsCutDisk at keep fill entries disk
    → LeftSince start entries (length (until at entries)) (record { folder = folder_of disk; told = (run (until at entries) start).told; written = written_of (run (until at entries) start).disk })
cut_was_left at keep fill entries disk is = left_until at entries start _ (leaves_image (until at entries) (folder_of disk) (cut_image at keep fill entries disk is))
