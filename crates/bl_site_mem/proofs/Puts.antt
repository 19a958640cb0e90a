-- What a change of a disk does, in the words of a site.
use Rattle.std.proofs.Common.{◌≡◌, ◌≢◌, ◌⊎◌, inl, inr, ⊎_elim, ℕ, Bool, true, false, cond, List, [], ◌∷◌, ◌++◌, refl, sym, ◌∙◌, ap, subst, Option, None, Some}
use Rattle.std.specs.Option.{option_map}
use Rattle.std.specs.Map.{update}
use Rattle.std.specs.Str.{bytes_eq}
use Rattle.std.proofs.lemmas.Slice.Eq.{bytes_eq-Decides}
use Rattle.bl_site.specs.Disk.{Name, File, Disk, IsRemnant}
use Rattle.bl_site.specs.Calls.{Puts, Removes, Renames, Appends, Syncs, Frays, FollowsFile}
use Rattle.bl_site_mem.specs.Record.{Call, Look, Create, Append, Sync, Rename, Remove, Tell, PutFile, State, MayBe, put, empty_file, appended, synced, renamed, Doubted}

pub eq_self : (name : Name) → bytes_eq name name ≡ true
eq_self name = (bytes_eq-Decides name name).1 refl

pub eq_other : (name other : Name) → other ≢ name → bytes_eq name other ≡ false
eq_other name other differs = no (bytes_eq name other) (λ t. differs (sym ((bytes_eq-Decides name other).0 t)))
  where
    no : (b : Bool) → (b ≡ true → ⊥) → b ≡ false
    no true n = absurd (n refl)
    no false n = refl

pub put_at : (disk : Disk) (name : Name) (file : Option File) → put disk name file name ≡ file
put_at disk name file = ap (λ b. cond b file (disk name)) (eq_self name)

pub put_other : (disk : Disk) (name : Name) (file : Option File) (other : Name) → other ≢ name → put disk name file other ≡ disk other
put_other disk name file other differs = ap (λ b. cond b file (disk other)) (eq_other name other differs)

pub puts_put : (disk : Disk) (name : Name) (file : File) → Puts name file disk (put disk name (Some file))
puts_put disk name file = record { at = put_at disk name (Some file); others = put_other disk name (Some file) }

pub removes_put : (disk : Disk) (name : Name) → Removes name disk (put disk name None)
removes_put disk name = record { gone = put_at disk name None; others = put_other disk name None }

pub renames_put : (disk : Disk) (from to : Name) → Renames from to disk (put (put disk from None) to (disk from))
renames_put disk from to = record {
  at = put_at (put disk from None) to (disk from);
  gone = λ differs. put_other (put disk from None) to (disk from) from differs ∙ put_at disk from None;
  others = λ other not_from not_to. put_other (put disk from None) to (disk from) other not_to ∙ put_other disk from None other not_from;
}

pub appends_put : (disk : Disk) (name : Name) (bytes handed : List ℕ) (file : File) → disk name ≡ Some file → Appends name bytes handed disk (put disk name (option_map (appended bytes handed) (disk name)))
appends_put disk name bytes handed file was = record {
  file = file;
  was = was;
  puts = subst (λ (o : Option File). Puts name (appended bytes handed file) disk (put disk name (option_map (appended bytes handed) o))) (sym was) (puts_put disk name (appended bytes handed file));
}

pub syncs_put : (disk : Disk) (name : Name) (file : File) → disk name ≡ Some file → Syncs name disk (put disk name (option_map synced (disk name)))
syncs_put disk name file was = record {
  file = file;
  was = was;
  puts = subst (λ (o : Option File). Puts name (synced file) disk (put disk name (option_map synced o))) (sym was) (puts_put disk name (synced file));
}

pub frays_same : (disk : Disk) (name : Name) (file : File) → disk name ≡ Some file → IsRemnant file file.read → Frays name disk disk
frays_same disk name file was remnant = record {
  file = file;
  was = was;
  tail = remnant.tail;
  no_longer = remnant.no_longer;
  puts = record {
    at = was ∙ ap (λ (bytes : List ℕ). Some (record { read = bytes; front = file.front; handed = file.handed })) remnant.split;
    others = λ other differs. refl;
  };
}

-- two disks that differ where the one has this file, and the other that in its place
module _ (was now : Option File) where
  abbrev pub One : Option File → Option File → Type 0
  One old new = (new ≡ old) ⊎ ((old ≡ was) × (new ≡ now))

  abbrev pub Alike : Disk → Disk → Type 0
  Alike old new = (name : Name) → One (old name) (new name)

  alike_put : (old new : Disk) (name : Name) (a b : Option File) → Alike old new → One a b → Alike (put old name a) (put new name b)
  alike_put old new name a b alike one q = pick (bytes_eq name q) a b (old q) (new q) one (alike q)
    where
      pick : (t : Bool) (a b c d : Option File) → One a b → One c d → One (cond t a c) (cond t b d)
      pick true a b c d p q = p
      pick false a b c d p q = q

  alike_renamed : (call : Call) (old new : Disk) → Alike old new → Alike (renamed call old) (renamed call new)
  alike_renamed Look old new alike = alike
  alike_renamed (Create name) old new alike = alike_put old new name (Some empty_file) (Some empty_file) alike (inl refl)
  alike_renamed (Append name bytes) old new alike = alike
  alike_renamed (Sync name) old new alike = alike
  alike_renamed (Rename from to) old new alike = alike_put (put old from None) (put new from None) to (old from) (new from) (alike_put old new from None None alike (inl refl)) (alike from)
  alike_renamed (Remove name) old new alike = alike_put old new name None None alike (inl refl)
  alike_renamed (Tell bytes) old new alike = alike
  alike_renamed (PutFile name bytes) old new alike = alike

  -- each new disk that there may be is like an old one
  pub alike_doubted : (calls : List Call) (old new other : Disk) → Alike old new → Doubted calls new other → (before : Disk) × Doubted calls old before × Alike before other
  alike_doubted [] old new other alike may = (old, refl, subst (λ (d : Disk). Alike old d) (sym may) alike)
  alike_doubted (call ∷ calls) old new other alike (inl may) = let b = alike_doubted calls old new other alike may in (b.0, inl b.1, b.2)
  alike_doubted (call ∷ calls) old new other alike (inr may) = let b = alike_doubted calls (renamed call old) (renamed call new) other (alike_renamed call old new alike) may in (b.0, inr b.1, b.2)

-- one file is another
alike_changed : (disk : Disk) (name : Name) (file : Option File) → Alike (disk name) file disk (put disk name file)
alike_changed disk name file q = pick (bytes_eq name q) (λ t. ap disk (sym ((bytes_eq-Decides name q).0 t)))
  where
    pick : (t : Bool) → (t ≡ true → disk q ≡ disk name) → One (disk name) file (disk q) (cond t file (disk q))
    pick true is = inr (is refl, refl)
    pick false is = inl refl

-- and each disk that there may be follows
pub follows_put : (name : Name) (file : Option File) (old new : State) → new.doubt ≡ old.doubt → new.disk ≡ put old.disk name file → FollowsFile name old.disk new.disk (MayBe old) (MayBe new)
follows_put name file old new doubt_is disk_is other may =
    let there : Doubted old.doubt (put old.disk name file) other = subst (λ (d : Disk). Doubted old.doubt d other) disk_is (subst (λ (l : List Call). Doubted l new.disk other) doubt_is may) in
    let b = alike_doubted (old.disk name) file old.doubt old.disk (put old.disk name file) other (alike_changed old.disk name file) there in
    let now_is : new.disk name ≡ file = ap (λ (d : Disk). d name) disk_is ∙ put_at old.disk name file in
    (b.0, b.1, λ q. ⊎_elim (λ same. inl same) (λ one. inr (one.0, one.1 ∙ sym now_is)) (b.2 q))

pub follows_same : (name : Name) (old new : State) → new.doubt ≡ old.doubt → new.disk ≡ old.disk → FollowsFile name old.disk new.disk (MayBe old) (MayBe new)
follows_same name old new doubt_is disk_is other may =
    (other, subst (λ (d : Disk). Doubted old.doubt d other) disk_is (subst (λ (l : List Call). Doubted l new.disk other) doubt_is may), λ q. inl refl)

-- one call more in doubt
pub doubted_push : (calls : List Call) (call : Call) (disk other : Disk) → Doubted (calls ++ call ∷ []) disk other → Doubted calls disk other ⊎ ((before : Disk) × Doubted calls disk before × (other ≡ renamed call before))
doubted_push [] call disk other (inl may) = inl may
doubted_push [] call disk other (inr may) = inr (disk, refl, may)
doubted_push (c ∷ calls) call disk other (inl may) = ⊎_elim (λ m. inl (inl m)) (λ b. inr (b.0, inl b.1, b.2)) (doubted_push calls call disk other may)
doubted_push (c ∷ calls) call disk other (inr may) = ⊎_elim (λ m. inl (inr m)) (λ b. inr (b.0, inr b.1, b.2)) (doubted_push calls call (renamed c disk) other may)

-- in the words of a function
pub puts_update : (name : Name) (file : File) (old new : Disk) → Puts name file old new → (q : Name) → new q ≡ update bytes_eq old name (Some file) q
puts_update name file old new puts q = decide (bytes_eq name q) refl (λ yes_it_is. ap new (sym ((bytes_eq-Decides name q).0 yes_it_is)) ∙ puts.at) (λ it_is_not. puts.others q (λ e. false_true (bytes_eq name q) it_is_not ((bytes_eq-Decides name q).1 (sym e))))
  where
    false_true : (b : Bool) → b ≡ false → b ≡ true → ⊥
    false_true b p r = cc

    decide : (b : Bool) → bytes_eq name q ≡ b → (bytes_eq name q ≡ true → new q ≡ Some file) → (bytes_eq name q ≡ false → new q ≡ old q) → new q ≡ cond b (Some file) (old q)
    decide true is yes_it_is it_is_not = yes_it_is is
    decide false is yes_it_is it_is_not = it_is_not is
