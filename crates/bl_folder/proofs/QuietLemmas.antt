-- Cuts during a job.
use Rattle.std.proofs.Common.{◌≡◌, ℕ, ◌≤◌, Bool, true, false, cond, List, [], ◌∷◌, refl, sym, ◌∙◌, ap, arith, Option, Some, None, append-nil}
use Rattle.std.specs.Prelude.{◌||◌, IsNone, unwrap_or}
use Rattle.std.specs.List.{list_any}
use Rattle.std.specs.Option.{option_map}
use Rattle.std.specs.Str.{bytes_eq}
use Rattle.std.proofs.lemmas.Bool.{false≢true, or_parts}
use Rattle.std.proofs.lemmas.Slice.Eq.{bytes_eq-Decides}
use Rattle.bl_site.specs.Disk.{Disk, File, Folder, IsLeft, Name, written_of}
use Rattle.bl_names.specs.declared.name.FileName.TheVariants.{Log}
use Rattle.bl_names.specs.Names.{name_of}
use Rattle.bl_edit.specs.Bounds.{is_number}
use Rattle.bl_out.specs.Quiet.{IsNoneOf}
use Rattle.bl_folder.proofs.Finding.{from_test}
use Rattle.bl_folder.specs.Quiet.{OthersKeepNeeded, QuietCutsAreLike, QuietCutsKeepNeeded}
use Rattle.bl_folder.specs.Files.{log_bytes}
use Rattle.bl_out.specs.Files.{file}

-- whether the name is one of these
is_one : List Name → Name → Bool
is_one names name = list_any (λ n. bytes_eq n name) names

none_of : (names : List Name) (name : Name) → is_one names name ≡ false → IsNoneOf names name
unfolding is_one
none_of [] name h = tt
none_of (n ∷ names) name h =
    let t = or_parts (bytes_eq n name) (is_one names name) h in
    ((λ same. false≢true (sym t.0 ∙ (bytes_eq-Decides n name).1 same)), none_of names name t.1)

not_one : (names : List Name) (name : Name) → IsNoneOf names name → is_one names name ≡ false
unfolding is_one
not_one [] name h = refl
not_one (n ∷ names) name h = λ i. different (bytes_eq n name) refl i || not_one names name h.1 i
  where
    different : (b : Bool) → bytes_eq n name ≡ b → b ≡ false
    different false e = refl
    different true e = absurd (h.0 ((bytes_eq-Decides n name).0 e))

-- of these files what was synced is left
left : List Name → Disk → Folder → Folder
left names disk folder name = cond (is_one names name) (option_map (λ (x : File). x.front) (disk name)) (folder name)

front_left : (o : Option File) → IsLeft o (option_map (λ x. x.front) o)
front_left None = tt
front_left (Some x) = record { tail = []; split = sym (append-nil x.front); no_longer = omega arith }

pub quiet_cuts_are_like : QuietCutsAreLike
unfolding left
quiet_cuts_are_like names disk told c cut = record {
  cut = record { folder = left names disk c.folder; told = told; written = written_of disk };
  is_cut = record { image = λ name. by name (is_one names name) refl; told_is = refl; written_is = λ name. refl };
  folder = λ name none. sym (ap (λ b. cond b (option_map (λ (x : File). x.front) (disk name)) (c.folder name)) (not_one names name none));
  written = cut.written_is;
}
  where
    by : (name : Name) (b : Bool) → is_one names name ≡ b → IsLeft (disk name) (cond b (option_map (λ (x : File). x.front) (disk name)) (c.folder name))
    by name true e = front_left (disk name)
    by name false e = cut.image name (none_of names name e)

none_is : {A : Type 0} (o : Option A) → IsNone o → o ≡ None
none_is None h = refl
none_is (Some x) h = absurd cc

pub others_keep_needed : OthersKeepNeeded
others_keep_needed names old new manifest live away others = record {
  same = λ f needed there. others (name_of f) (away f needed);
  further = λ n le absent. log n absent le (is_number n) refl;
}
  where
    log : (n : ℕ) → IsNone (file old (Log n)) → live.standing.log_number ≤ n → (b : Bool) → is_number n ≡ b → log_bytes new n ≡ []
    log n absent le false t = ap (λ b. cond b (unwrap_or (file new (Log n)) []) []) t
    log n absent le true t =
        ap (λ b. cond b (unwrap_or (file new (Log n)) []) []) t
        ∙ ap (λ o. unwrap_or o []) (others (name_of (Log n)) (away (Log n) (from_test n t, le)) ∙ none_is (file old (Log n)) absent)

pub quiet_cuts_keep_needed : QuietCutsKeepNeeded
quiet_cuts_keep_needed names disk told c manifest live away like = others_keep_needed names like.cut.folder c.folder manifest live away like.folder
