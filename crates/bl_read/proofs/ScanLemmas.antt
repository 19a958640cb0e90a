-- What a version and the memories beside it tell from a bound on.
use Rattle.std.proofs.Common.{◌≡◌, ℕ, true, false, cond, List, [], ◌∷◌, ◌++◌, refl, sym, ◌∙◌, ap, subst, Option, Some, None, Result, Ok, Err, inl, inr}
use Rattle.std.specs.Prelude.{IfOk, map, not, option_and_then}
use Rattle.std.specs.List.{AllByRecursion, AllZip}
use Rattle.std.specs.FinMap.{get}
use Rattle.std.proofs.lemmas.Bool.{false≢true}
use Rattle.bl_site.specs.Disk.{Folder}
use Rattle.bl_code.proofs.Basics.{ok_is}
use Rattle.bl_code.specs.Order.{bytes_lt}
use Rattle.bl_entry.specs.declared.key.Entry.{Entry}
use Rattle.bl_entry.specs.declared.run.RunErr.{RunErr}
use Rattle.bl_entry.specs.Items.{each_of}
use Rattle.bl_entry.specs.Latest.{latest, revision_of as memory_revision}
use Rattle.bl_entry.specs.Revisions.{Map, Revision}
use Rattle.bl_entry.proofs.ItemLemmas.{each_cons, some_is}
use Rattle.bl_entry.proofs.ListLemmas.{by_test}
use Rattle.bl_edit.specs.declared.edit.NewTable.{NewTable}
use Rattle.bl_build.specs.Listing.{Listing}
use Rattle.bl_merge.specs.Heads.{Merging}
use Rattle.bl_merge.specs.Lists.{merged}
use Rattle.bl_out.specs.Tables.{IsTableProper, TableFile, table_in}
use Rattle.bl_folder.specs.Entries.{records_by}
use Rattle.bl_cache.specs.Laws.{TablesAreRuns}
use Rattle.bl_cache.specs.Runs.{Keeps, TableView, entries_in}
use Rattle.bl_read.specs.declared.bound.Bound.{Bound}
use Rattle.bl_read.specs.declared.told.Told.{Told}
use Rattle.bl_read.specs.Giving.{AreNewer, Gives, View, revisions_in}
use Rattle.bl_read.specs.Reading.{IsPut, IsReadAs, latest_in, or_else}
use Rattle.bl_read.specs.Scanning.{IsEnd, IsNextKey, IsNextTold, IsOver, IsScan, IsToldFirst, before_table, first_in, first_told, is_first, is_reached, nearer}
use Rattle.bl_read.proofs.BoundLemmas.{lt_is}
use Rattle.bl_read.proofs.FirstLemmas.{IsFirst, IsLeast, both_first, either, first_of}
use Rattle.bl_read.proofs.GivenLemmas.{file_read}
use Rattle.bl_read.proofs.ValueLemmas.{MemoryLaws, TableLaws, all_memories, put_found, put_in, told_by, value_is}

-- ---- all tables are read

pub all_lists : TablesAreRuns → (folder : Folder) (ts : List NewTable) (tables : List TableFile) (lists : List (List Entry)) → each_of (table_in folder) ts ≡ Some tables → AllByRecursion IsTableProper tables
    → AllZip (IsReadAs folder) ts lists → lists ≡ map (λ t. t.entries) tables
all_lists runs folder [] tables [] e proper zip = ap (map (λ t. t.entries)) (some_is e)
all_lists runs folder [] tables (l ∷ lists) e proper zip = absurd zip
all_lists runs folder (t ∷ ts) tables [] e proper zip = absurd zip
all_lists runs folder (t ∷ ts) tables (l ∷ lists) e proper zip =
    let c = each_cons (table_in folder) t ts tables e in
    let propers : AllByRecursion IsTableProper (c.first ∷ c.rest) = subst (AllByRecursion IsTableProper) (sym c.is) proper in
    let own : l ≡ c.first.entries = ok_is (sym zip.0 ∙ file_read runs folder t c.first c.gives propers.0) in
    let rest : lists ≡ map (λ t. t.entries) c.rest = all_lists runs folder ts c.rest lists c.more propers.1 zip.1 in
    (λ i. own i ∷ rest i) ∙ ap (map (λ t. t.entries)) c.is

-- ---- of memories

pub memories_first : MemoryLaws → (bound : Bound) (seq : ℕ) (older : List Revision) (memories : List (List Entry)) → AreNewer older memories → IsFirst bound (λ k. latest_in k seq memories) (first_in bound seq memories)
memories_first laws bound seq older [] newer = λ k r. refl
memories_first laws bound seq older (memory ∷ more) newer =
    both_first bound (λ k. latest_in k seq more) (λ k. latest k seq memory) (first_in bound seq more) (first_told bound seq memory)
    (memories_first laws bound seq (older ++ revisions_in memory) more newer.1)
    (first_of seq bound memory (laws.order memory newer.0.ascending))

-- ---- of both

nearer_memory : (e : Entry) (b : Option Entry) → is_first e b ≡ true → nearer (Some e) b ≡ Some e
nearer_memory e None h = refl
nearer_memory e (Some t) h = by_test (bytes_lt t.key.user e.key.user) (λ l. absurd (false≢true (sym (ap not l) ∙ h))) (λ l. ap (λ b. cond b (Some t) (Some e)) l)

lesser : (e t : Entry) → is_first e (Some t) ≡ false → bytes_lt t.key.user e.key.user ≡ true
lesser e t h = by_test (bytes_lt t.key.user e.key.user) (λ l. l) (λ l. absurd (false≢true (sym h ∙ ap not l)))

-- no memory tells before the table's entry
abbrev pub IsBehind : Entry → Option Entry → Type 0
IsBehind t None = Unit {0}
IsBehind t (Some e) = is_first e (Some t) ≡ false

pub told_before : (a t : Option Entry) (e : Entry) → before_table a t ≡ Some e → (a ≡ Some e) × (is_first e t ≡ true)
told_before None t e h = absurd (let wrong = h in cc wrong)
told_before (Some x) t e h =
    by_test (is_first x t)
    (λ y. let same : Some x ≡ Some e = sym (ap (λ b. cond b (Some x) None) y) ∙ h in (same, sym (ap (λ z. is_first z t) (some_is same)) ∙ y))
    (λ n. let wrong : None ≡ Some e = sym (ap (λ b. cond b (Some x) None) n) ∙ h in absurd (cc wrong))

none_first : (x : Entry) (t : Option Entry) → before_table (Some x) t ≡ None → is_first x t ≡ false
none_first x t h = by_test (is_first x t) (λ y. let wrong : Some x ≡ None = sym (ap (λ b. cond b (Some x) None) y) ∙ h in absurd (cc wrong)) (λ n. n)

pub told_behind : (a : Option Entry) (t : Entry) → before_table a (Some t) ≡ None → IsBehind t a
told_behind None t h = tt
told_behind (Some x) t h = none_first x (Some t) h

pub told_no_memory : (a : Option Entry) → before_table a None ≡ None → a ≡ None
told_no_memory None h = refl
told_no_memory (Some x) h = absurd (let wrong = h in cc wrong)

nearer_table : (t : Entry) (a : Option Entry) → IsBehind t a → nearer a (Some t) ≡ Some t
nearer_table t None h = refl
nearer_table t (Some e) h = ap (λ b. cond b (Some t) (Some e)) (lesser e t h)

not_told : (bound : Bound) (tells : List ℕ → Option Entry) (t : Entry) (a : Option Entry) → is_reached bound t.key.user ≡ true → IsFirst bound tells a → IsBehind t a → tells t.key.user ≡ None
not_told bound tells t None r p h = p t.key.user r
not_told bound tells t (Some e) r p h = p.none_before t.key.user r (lt_is t.key.user e.key.user (lesser e t h))

module _ (tables : TableLaws) (memories : MemoryLaws) (folder : Folder) (v : View) (seq : ℕ) (m : Map) (g : Gives folder v seq m) (lists : List (List Entry)) (read : AllZip (IsReadAs folder) v.version.tables lists) (bound : Bound) where
  same : lists ≡ map (λ t. t.entries) g.tables
  same = all_lists tables.runs folder v.version.tables g.tables lists g.read_tables g.proper read

  abbrev memory_tells : List ℕ → Option Entry
  memory_tells k = latest_in k seq v.memories

  abbrev table_tells : List ℕ → Option Entry
  table_tells k = latest k seq (merged lists)

  abbrev put : Entry → Option (List ℕ)
  put = put_in (records_by g.blobs)

  value_of : (k : List ℕ) → get m k ≡ told_by (memory_tells k) (option_and_then put (table_tells k))
  value_of k =
      g.map_is k ∙ all_memories memories k seq g.found v.memories g.newer
      ∙ ap (told_by (memory_tells k)) (value_is tables folder v seq seq m g k ∙ ap (λ ls. option_and_then put (latest k seq (merged ls))) (sym same))

  no_value : (a b : Option Entry) → or_else a b ≡ None → told_by a (option_and_then put b) ≡ None
  no_value None b h = ap (option_and_then put) h
  no_value (Some e) b h = absurd (let wrong = h in cc wrong)

  from_memories : IsFirst bound memory_tells (first_in bound seq v.memories)
  from_memories = memories_first memories bound seq g.found v.memories g.newer

  from_tables : IsFirst bound table_tells (first_told bound seq (merged lists))
  from_tables = first_of seq bound (merged lists) (tables.order lists)

  next_by : (e : Entry) → IsLeast bound (either bound memory_tells table_tells) e → (q : Option (List ℕ)) → get m e.key.user ≡ q → IsNextKey m bound e.key.user q
  next_by e least q is = record {
    reached = least.reached;
    value = is;
    none_before = λ k r l. value_of k ∙ no_value (memory_tells k) (table_tells k) (least.none_before k r (lt_is k e.key.user l));
  }

  -- nothing is told
  pub nothing_told : first_in bound seq v.memories ≡ None → first_told bound seq (merged lists) ≡ None → IsEnd m bound
  nothing_told a b k r =
      let p : IsFirst bound memory_tells None = subst (IsFirst bound memory_tells) a from_memories in
      let q : IsFirst bound table_tells None = subst (IsFirst bound table_tells) b from_tables in
      value_of k ∙ no_value (memory_tells k) (table_tells k) (both_first bound memory_tells table_tells None None p q k r)

  -- a memory tells
  pub memory_told : (e : Entry) (b : Option Entry) → first_in bound seq v.memories ≡ Some e → first_told bound seq (merged lists) ≡ b → is_first e b ≡ true → IsNextKey m bound e.key.user (memory_revision e).put
  memory_told e b is other h =
      let p : IsLeast bound memory_tells e = subst (IsFirst bound memory_tells) is from_memories in
      let q : IsFirst bound table_tells b = subst (IsFirst bound table_tells) other from_tables in
      let least : IsLeast bound (either bound memory_tells table_tells) e =
      subst (IsFirst bound (either bound memory_tells table_tells)) (nearer_memory e b h) (both_first bound memory_tells table_tells (Some e) b p q) in
      next_by e least (memory_revision e).put (value_of e.key.user ∙ ap (λ o. told_by o (option_and_then put (table_tells e.key.user))) p.told)

  -- a table tells
  pub table_told : (t : Entry) (a : Option Entry) (q : Option (List ℕ)) → first_told bound seq (merged lists) ≡ Some t → first_in bound seq v.memories ≡ a → IsBehind t a → IsPut folder (Some t) q → IsNextKey m bound t.key.user q
  table_told t a q is other h told =
      let p : IsFirst bound memory_tells a = subst (IsFirst bound memory_tells) other from_memories in
      let r : IsLeast bound table_tells t = subst (IsFirst bound table_tells) is from_tables in
      let least : IsLeast bound (either bound memory_tells table_tells) t =
      subst (IsFirst bound (either bound memory_tells table_tells)) (nearer_table t a h) (both_first bound memory_tells table_tells a (Some t) p r) in
      let found = ap (λ ls. latest t.key.user seq (merged ls)) (sym same) ∙ r.told in
      next_by t least q
      (value_of t.key.user
      ∙ ap (λ o. told_by o (option_and_then put (table_tells t.key.user))) (not_told bound memory_tells t a r.reached p h)
      ∙ ap (option_and_then put) r.told
      ∙ sym (put_found tables folder v seq seq m g t.key.user (Some t) found q told))

  -- the one that is first tells
  pub told_is_next : (a b : Option Entry) → a ≡ first_in bound seq v.memories → b ≡ first_told bound seq (merged lists) → (told : Option Told) → IsToldFirst folder a b told → IsNextTold m bound told
  told_is_next a b own other None h = nothing_told (sym own ∙ h.0) (sym other ∙ h.1)
  told_is_next a b own other (Some told) (inl h) =
      subst (λ (t : Told). IsNextKey m bound t.key t.put) (sym h.told_is)
      (memory_told h.entry b (sym own ∙ h.is) (sym other) h.first)
  told_is_next a b own other (Some told) (inr h) =
      let behind = told_behind a h.entry (ap (before_table a) (sym h.is) ∙ h.first) in
      subst (λ k. IsNextKey m bound k told.put) (sym h.key_is) (table_told h.entry a told.put (sym other ∙ h.is) (sym own) behind h.put_is)

  pub told_ok : (h : Folder) → h ≡ folder → (a b : Option Entry) → a ≡ first_in bound seq v.memories → b ≡ first_told bound seq (merged lists) → (result : Result (Option Told) RunErr)
      → IfOk result (IsToldFirst h a b) → IfOk result (IsNextTold m bound)
  told_ok h is a b own other (Err why) told = tt
  told_ok h is a b own other (Ok told) first = told_is_next a b own other told (subst (λ (i : Folder). IsToldFirst i a b told) is first)

-- ---- tables that are merged

pub scan_after : (f : Folder) (version : Listing) (old new : Merging TableView) → IsScan f version old → ((lists : List (List Entry)) → IsOver f lists old → IsOver f lists new) → IsScan f version new
scan_after f version old new scan over = record { lists = scan.lists; read = scan.read; over = over scan.lists scan.over }

pub opened_scan : (f : Folder) (version : Listing) (runs : List TableView) (m : Merging TableView) → m ≡ record { runs = runs; heads = []; due = None }
    → AllZip (IsReadAs f) version.tables (map (λ r. entries_in r f) runs) → AllByRecursion (λ r. Keeps r f) runs → IsScan f version m
opened_scan f version runs m is read keeps = subst (IsScan f version) (sym is) (record {
  lists = map (λ r. entries_in r f) runs;
  read = read;
  over = record { lists_are = refl; keeps = keeps };
})
