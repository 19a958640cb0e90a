-- Tables that are opened one after the other.
use Rattle.std.proofs.Common.{◌≡◌, ◌+◌, ◌<◌, Bool, true, false, cond, List, [], ◌∷◌, ◌++◌, length, take, get_or, refl, sym, ◌∙◌, ap, subst, arith, ℕ, zero, suc, Ok}
use Rattle.std.specs.Prelude.{IsTrue, ◌&&◌, ◌||◌, ◌==◌, filter, map}
use Rattle.std.specs.List.{AllByRecursion, AllZip}
use Rattle.std.proofs.lemmas.List.{append-nil, take_more, map-append}
use Rattle.bl_site.specs.Disk.{Folder}
use Rattle.bl_names.specs.Names.{IsNumber, name_of}
use Rattle.bl_names.specs.declared.name.FileName.TheVariants.{Table}
use Rattle.bl_edit.specs.Bounds.{is_key, is_level, is_number, is_seq, table_fits}
use Rattle.bl_edit.specs.declared.edit.NewTable.{NewTable}
use Rattle.bl_cache.specs.Reading.{read_run}
use Rattle.bl_cache.specs.Runs.{IsAtStart, Keeps, TableView, entries_in}
use Rattle.bl_read.specs.Reading.{IsReadAs, may_have, tables_for}
use Rattle.bl_folder.proofs.Finding.{from_test}

pub all_get : {A : Type 0} (P : A → Type 0) (xs : List A) (i : ℕ) (d : A) → AllByRecursion P xs → i < length xs → P (get_or xs i d)
all_get P [] i d h lt = absurd (omega arith)
all_get P (x ∷ xs) zero d h lt = h.0
all_get P (x ∷ xs) (suc i) d h lt = all_get P xs i d h.1 (omega arith)

zip_push : {A B : Type 0} (R : A → B → Type 0) (xs : List A) (ys : List B) (x : A) (y : B) → AllZip R xs ys → R x y → AllZip R (xs ++ x ∷ []) (ys ++ y ∷ [])
zip_push R [] [] x y h r = (r, tt)
zip_push R [] (b ∷ ys) x y h r = absurd h
zip_push R (a ∷ xs) [] x y h r = absurd h
zip_push R (a ∷ xs) (b ∷ ys) x y h r = (h.0, zip_push R xs ys x y h.1 r)

spread : {A : Type 0} (b : Bool) (y : A) (zs ws : List A) → cond b (y ∷ zs ++ ws) (zs ++ ws) ≡ cond b (y ∷ zs) zs ++ ws
spread true y zs ws = refl
spread false y zs ws = refl

pub filter_push : {A : Type 0} (p : A → Bool) (ys : List A) (x : A) → filter p (ys ++ x ∷ []) ≡ filter p ys ++ cond (p x) (x ∷ []) []
filter_push p [] x = refl
filter_push p (y ∷ ys) x = ap (λ zs. cond (p y) (y ∷ zs) zs) (filter_push p ys x) ∙ spread (p y) y (filter p ys) (cond (p x) (x ∷ []) [])

filter_more : {A : Type 0} (p : A → Bool) (xs : List A) (i : ℕ) (x : A) → i < length xs → x ≡ get_or xs i x → filter p (take (i + 1) xs) ≡ filter p (take i xs) ++ cond (p x) (x ∷ []) []
filter_more p xs i x lt is = ap (filter p) (take_more xs i x lt ∙ ap (λ y. take i xs ++ y ∷ []) (sym is)) ∙ filter_push p (take i xs) x

-- the run of a table that was just opened reads it
pub opened : (folder : Folder) (t : NewTable) (r : TableView) → IsAtStart t.number t.size r → Keeps r folder → IsReadAs folder t (entries_in r folder)
opened folder t r start keeps =
    ap (λ n. read_run t.size (folder (name_of (Table n)))) (sym start.number_is)
    ∙ ap (λ s. read_run s (folder (name_of (Table r.number)))) (sym start.size_is)
    ∙ keeps ∙ ap (λ es. Ok es) (sym start.whole)

-- where all are opened
module _ (folder : Folder) (tables : List NewTable) (i : ℕ) (t : NewTable) (lt : i < length tables) (is : t ≡ get_or tables i t) where
  pub all_more : (runs : List TableView) (r : TableView) → IsReadAs folder t (entries_in r folder) → AllZip (IsReadAs folder) (take i tables) (map (λ r. entries_in r folder) runs)
      → AllZip (IsReadAs folder) (take (i + 1) tables) (map (λ r. entries_in r folder) (runs ++ r ∷ []))
  all_more runs r read zip =
      let list : take (i + 1) tables ≡ take i tables ++ t ∷ [] = take_more tables i t lt ∙ ap (λ y. take i tables ++ y ∷ []) (sym is) in
      let runs_are : map (λ r. entries_in r folder) (runs ++ r ∷ []) ≡ map (λ r. entries_in r folder) runs ++ entries_in r folder ∷ [] = map-append (λ r. entries_in r folder) runs (r ∷ []) in
      subst (λ ts. AllZip (IsReadAs folder) ts (map (λ r. entries_in r folder) (runs ++ r ∷ []))) (sym list)
      (subst (AllZip (IsReadAs folder) (take i tables ++ t ∷ [])) (sym runs_are) (zip_push (IsReadAs folder) (take i tables) (map (λ r. entries_in r folder) runs) t (entries_in r folder) zip read))

-- where those are opened in whose range a key is
module _ (folder : Folder) (key : List ℕ) (tables : List NewTable) (i : ℕ) (t : NewTable) (lt : i < length tables) (is : t ≡ get_or tables i t) where
  pub one_more : (runs : List TableView) (r : TableView) → may_have key t ≡ true → IsReadAs folder t (entries_in r folder)
      → AllZip (IsReadAs folder) (tables_for key (take i tables)) (map (λ r. entries_in r folder) runs)
      → AllZip (IsReadAs folder) (tables_for key (take (i + 1) tables)) (map (λ r. entries_in r folder) (runs ++ r ∷ []))
  one_more runs r has read zip =
      let list : tables_for key (take (i + 1) tables) ≡ tables_for key (take i tables) ++ t ∷ [] =
      filter_more (may_have key) tables i t lt is ∙ ap (λ b. tables_for key (take i tables) ++ cond b (t ∷ []) []) has in
      let runs_are : map (λ r. entries_in r folder) (runs ++ r ∷ []) ≡ map (λ r. entries_in r folder) runs ++ entries_in r folder ∷ [] = map-append (λ r. entries_in r folder) runs (r ∷ []) in
      subst (λ ts. AllZip (IsReadAs folder) ts (map (λ r. entries_in r folder) (runs ++ r ∷ []))) (sym list)
      (subst (AllZip (IsReadAs folder) (tables_for key (take i tables) ++ t ∷ [])) (sym runs_are) (zip_push (IsReadAs folder) (tables_for key (take i tables)) (map (λ r. entries_in r folder) runs) t (entries_in r folder) zip read))

  pub none_more : (runs : List TableView) → may_have key t ≡ false
      → AllZip (IsReadAs folder) (tables_for key (take i tables)) (map (λ r. entries_in r folder) runs)
      → AllZip (IsReadAs folder) (tables_for key (take (i + 1) tables)) (map (λ r. entries_in r folder) runs)
  none_more runs has zip =
      let list : tables_for key (take (i + 1) tables) ≡ tables_for key (take i tables) =
      filter_more (may_have key) tables i t lt is ∙ ap (λ b. tables_for key (take i tables) ++ cond b (t ∷ []) []) has ∙ append-nil (tables_for key (take i tables)) in
      subst (λ ts. AllZip (IsReadAs folder) ts (map (λ r. entries_in r folder) runs)) (sym list) zip

both_true : (a b : Bool) → (a && b) ≡ true → (a ≡ true) × (b ≡ true)
both_true true b h = (refl, h)
both_true false b h = cc

pub number_of : (t : NewTable) → IsTrue (table_fits t) → IsNumber t.number
number_of t h =
    let a = both_true _ ((t.oldest_blob == 0) || is_number t.oldest_blob) h in
    let b = both_true _ (is_seq t.most_seq) a.0 in
    let c = both_true _ (is_seq t.least_seq) b.0 in
    let d = both_true _ (is_key t.largest) c.0 in
    let e = both_true _ (is_key t.smallest) d.0 in
    from_test t.number (both_true (is_level t.level) (is_number t.number) e.0).1
