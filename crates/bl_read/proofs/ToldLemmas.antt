-- What the tables of a version tell of a user key, run by run.
use Rattle.std.proofs.Common.{◌≡◌, ℕ, List, [], ◌∷◌, refl, sym, ◌∙◌, ap, subst, Option, Some, None, Result, Ok, Err, inl, inr}
use Rattle.std.specs.Prelude.{Contains, IfOk, IsSomeAnd, flat_map, map}
use Rattle.std.specs.List.{AllByRecursion, AllZip}
use Rattle.std.proofs.lemmas.List.Sorted.{Contains-permutation, IsPermutation-sym}
use Rattle.bl_site.specs.Disk.{Folder, Name}
use Rattle.bl_entry.specs.declared.key.Entry.{Entry}
use Rattle.bl_entry.specs.declared.run.RunErr.{RunErr}
use Rattle.bl_entry.specs.Latest.{is_seen, latest}
use Rattle.bl_entry.proofs.ListLemmas.{find_there}
use Rattle.bl_edit.specs.declared.edit.NewTable.{NewTable}
use Rattle.bl_merge.specs.Heads.{AnyOf, KeepAll, Merging, union}
use Rattle.bl_merge.specs.Laws.{MergedIsAll}
use Rattle.bl_merge.specs.Lists.{merged}
use Rattle.bl_out.proofs.AmongLemmas.{Among, among_filter, among_parts, from_among, to_among}
use Rattle.bl_cache.specs.Runs.{IsOutside, Keeps, Reads, TableView, entries_in}
use Rattle.bl_read.specs.declared.bound.Bound.{Bound}
use Rattle.bl_read.specs.Scanning.{first_told, is_told_at}
use Rattle.bl_read.specs.Reading.{IsBadBlob, IsPut, IsReadAs, IsTold, LacksValue, may_have, tables_for}

-- ---- of the runs that are merged

module _ (f g : Folder) (same : g ≡ f) (m : Merging TableView) (runs : List TableView) (over : m ≡ record { runs = runs; heads = []; due = None }) (keeps : AllByRecursion (λ r. Keeps r f) runs) where
  pub kept : KeepAll Keeps m g
  kept = subst (λ (n : Merging TableView). KeepAll Keeps n g) (sym over) (subst (λ (h : Folder). AllByRecursion (λ r. Keeps r h) runs) (sym same) keeps)

  pub given_at : (key : List ℕ) (seq : ℕ) (found : Option Entry) → (KeepAll Keeps m g → found ≡ latest key seq (union entries_in m g)) → found ≡ latest key seq (merged (map (λ r. entries_in r f) runs))
  given_at key seq found given = given kept ∙ ap (λ (n : Merging TableView). latest key seq (union entries_in n g)) over

-- what is kept of a table's file shows that it is one
none_outside : (f : Folder) (name : Name) (runs : List TableView) → AllByRecursion (λ r. Keeps r f) runs → AnyOf (λ r. Reads r name × IsOutside r f name) runs → ⊥
none_outside f name [] keeps any = any
none_outside f name (r ∷ runs) keeps (inl (reads, outside)) = outside.1 r.kept keeps.0
none_outside f name (r ∷ runs) keeps (inr any) = none_outside f name runs keeps.1 any

pub never_outside : (f g : Folder) (name : Name) (m : Merging TableView) → KeepAll Keeps m g → AnyOf (λ r. Reads r name × IsOutside r g name) m.runs → ⊥
never_outside f g name m keeps any = none_outside g name m.runs keeps any

-- ---- what is told

pub told_of : (f g : Folder) → g ≡ f → (tables : List NewTable) (key : List ℕ) (seq : ℕ) (lists : List (List Entry)) (found : Option Entry) (e : Entry) (result : Result (Option (List ℕ)) RunErr)
    → AllZip (IsReadAs f) (tables_for key tables) lists → found ≡ latest key seq (merged lists) → found ≡ Some e → IfOk result (IsPut g (Some e)) → IfOk result (IsTold f tables key seq)
told_of f g same tables key seq lists found e (Err why) read given is put = tt
told_of f g same tables key seq lists found e (Ok value) read given is put = record {
  lists = lists;
  read = read;
  told = subst (λ (o : Option Entry). IsPut f o value) (sym is ∙ given) (subst (λ (h : Folder). IsPut h (Some e) value) same put);
}

pub told_none : (f : Folder) (tables : List NewTable) (key : List ℕ) (seq : ℕ) (lists : List (List Entry)) (found : Option Entry)
    → AllZip (IsReadAs f) (tables_for key tables) lists → found ≡ latest key seq (merged lists) → found ≡ None → IsTold f tables key seq None
told_none f tables key seq lists found read given is = record {
  lists = lists;
  read = read;
  told = subst (λ (o : Option Entry). IsPut f o None) (sym is ∙ given) refl;
}

-- ---- a value that is not there

record Stands (folder : Folder) (tables : List NewTable) (e : Entry) : Type 0 where
  pub table : NewTable
  pub there : Among table tables
  pub entries : List Entry
  pub read : IsReadAs folder table entries
  pub among : Among e entries

stands_more : (folder : Folder) (t : NewTable) (tables : List NewTable) (e : Entry) → Stands folder tables e → Stands folder (t ∷ tables) e
stands_more folder t tables e s = record { table = s.table; there = inr s.there; entries = s.entries; read = s.read; among = s.among }

stands : (folder : Folder) (tables : List NewTable) (lists : List (List Entry)) (e : Entry) → AllZip (IsReadAs folder) tables lists → Among e (flat_map (λ es. es) lists) → Stands folder tables e
stands folder [] [] e zip h = absurd h
stands folder [] (l ∷ lists) e zip h = absurd zip
stands folder (t ∷ tables) [] e zip h = absurd zip
stands folder (t ∷ tables) (l ∷ lists) e zip h =
    elim (among_parts l (flat_map (λ es. es) lists) e h) [
      | inl a ↦ record { table = t; there = inl refl; entries = l; read = zip.0; among = a }
      | inr b ↦ stands_more folder t tables e (stands folder tables lists e zip.1 b)
    ]

-- what is found in merged lists stands in one of them
pub found_among : MergedIsAll → (lists : List (List Entry)) (key : List ℕ) (seq : ℕ) (e : Entry) → latest key seq (merged lists) ≡ Some e → Among e (flat_map (λ es. es) lists)
found_among all lists key seq e found =
    let there : Contains (merged lists) e = find_there (is_seen key seq) (merged lists) e found in
    to_among (flat_map (λ es. es) lists) e (Contains-permutation (merged lists) (flat_map (λ es. es) lists) e (IsPermutation-sym (flat_map (λ es. es) lists) (merged lists) (all lists)) there)

pub bad_blob : MergedIsAll → (f g : Folder) → g ≡ f → (tables : List NewTable) (key : List ℕ) (seq : ℕ) (lists : List (List Entry)) (found : Option Entry) (e : Entry) (name : Name)
    → AllZip (IsReadAs f) (tables_for key tables) lists → found ≡ latest key seq (merged lists) → found ≡ Some e → LacksValue g e name → IsBadBlob f tables name
bad_blob all f g same tables key seq lists found e name read given is lacks =
    let s = stands f (tables_for key tables) lists e read (found_among all lists key seq e (sym given ∙ is)) in
    record {
      table = s.table;
      there = from_among tables s.table (among_filter (may_have key) tables s.table s.there).0;
      entries = s.entries;
      read = s.read;
      entry = e;
      among = from_among s.entries e s.among;
      lacks = subst (λ (h : Folder). LacksValue h e name) same lacks;
    }

-- ---- the same of what is told first from a bound on

first_among : MergedIsAll → (bound : Bound) (seq : ℕ) (lists : List (List Entry)) (e : Entry) → first_told bound seq (merged lists) ≡ Some e → Among e (flat_map (λ es. es) lists)
first_among all bound seq lists e found =
    let there : Contains (merged lists) e = find_there (is_told_at bound seq) (merged lists) e found in
    to_among (flat_map (λ es. es) lists) e (Contains-permutation (merged lists) (flat_map (λ es. es) lists) e (IsPermutation-sym (flat_map (λ es. es) lists) (merged lists) (all lists)) there)

pub bad_first : MergedIsAll → (f g : Folder) → g ≡ f → (tables : List NewTable) (bound : Bound) (seq : ℕ) (lists : List (List Entry)) (found : Option Entry) (e : Entry) (name : Name)
    → AllZip (IsReadAs f) tables lists → found ≡ first_told bound seq (merged lists) → found ≡ Some e → LacksValue g e name → IsBadBlob f tables name
bad_first all f g same tables bound seq lists found e name read given is lacks =
    let s = stands f tables lists e read (first_among all bound seq lists e (sym given ∙ is)) in
    record {
      table = s.table;
      there = from_among tables s.table s.there;
      entries = s.entries;
      read = s.read;
      entry = e;
      among = from_among s.entries e s.among;
      lacks = subst (λ (h : Folder). LacksValue h e name) same lacks;
    }

pub bad_some : MergedIsAll → (f g : Folder) → g ≡ f → (tables : List NewTable) (bound : Bound) (seq : ℕ) (lists : List (List Entry)) (found : Option Entry) (name : Name)
    → AllZip (IsReadAs f) tables lists → found ≡ first_told bound seq (merged lists) → IsSomeAnd found (λ e. LacksValue g e name) → IsBadBlob f tables name
bad_some all f g same tables bound seq lists None name read given lacks = absurd lacks
bad_some all f g same tables bound seq lists (Some e) name read given lacks = bad_first all f g same tables bound seq lists (Some e) e name read given refl lacks
