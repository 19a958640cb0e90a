-- What a version and the memories beside it tell of a user key is its value in the map that they give.
use Rattle.std.proofs.Common.{◌≡◌, ℕ, ◌<◌, Bool, true, false, cond, List, [], ◌∷◌, ◌++◌, length, refl, sym, ◌∙◌, ap, subst, append_assoc, Option, Some, None, Result, Ok, Err, inl, inr}
use Rattle.std.specs.Prelude.{◌&&◌, ◌==◌, IfOk, filter, find, flat_map, is_some, map, nat_le, option_and_then, slice_get}
use Rattle.std.specs.List.{AllByRecursion, AllZip, list_all}
use Rattle.std.specs.List.Sorted.{IsPermutation}
use Rattle.std.specs.FinMap.{get}
use Rattle.std.specs.Ordering.{is_le, is_lt, nat_cmp, ordering_then}
use Rattle.std.specs.Cmp.{tied_itself}
use Rattle.std.specs.Cmp.Lexicographic.{nat_list_cmp_total}
use Rattle.std.specs.declared.cmp.Ordering.{Ordering}
use Rattle.std.specs.declared.cmp.Ordering.TheVariants.{Less, Equal, Greater}
use Rattle.std.proofs.lemmas.Bool.{false≢true}
use Rattle.std.proofs.lemmas.List.{append-nil}
use Rattle.std.proofs.lemmas.List.Elements.{filter-append}
use Rattle.std.proofs.lemmas.List.Sorted.{IsPermutation-map}
use Rattle.std.proofs.lemmas.Map.Text.{is_eq-slice_cmp}
use Rattle.std.proofs.lemmas.Slice.Eq.{bytes_eq-Decides}
use Rattle.bl_site.specs.Disk.{Folder}
use Rattle.bl_names.specs.Names.{name_of}
use Rattle.bl_names.specs.declared.name.FileName.TheVariants.{Table}
use Rattle.bl_code.proofs.Basics.{ok_is}
use Rattle.bl_code.specs.Order.{bytes_cmp, bytes_le, same_bytes, user_part}
use Rattle.bl_entry.specs.declared.key.Entry.{Entry}
use Rattle.bl_entry.specs.declared.run.RunErr.{RunErr}
use Rattle.bl_entry.specs.Entries.{IsProper, last_of, stands_before}
use Rattle.bl_entry.specs.Items.{each_of}
use Rattle.bl_entry.specs.Keys.{key_bytes, key_number}
use Rattle.bl_entry.specs.Latest.{AscendingAreInOrder, LatestIsTheValue, is_seen, latest, revision_of as memory_revision}
use Rattle.bl_entry.specs.Revisions.{LaterAreToldFirst, Map, Revision, newest, or_older, seen, value_at}
use Rattle.bl_entry.proofs.ItemLemmas.{all_of_map, each_cons, mapped_from, some_is, went}
use Rattle.bl_entry.proofs.KeyLemmas.{user_part_is}
use Rattle.bl_edit.specs.declared.edit.NewTable.{NewTable}
use Rattle.bl_table.specs.Faults.{Fault}
use Rattle.bl_table.specs.Grammar.{ReadsTables}
use Rattle.bl_table.specs.Whole.{read_table}
use Rattle.bl_table.specs.declared.entry.BlockEntry.{BlockEntry}
use Rattle.bl_merge.specs.Laws.{LatestTellsTheValue, MergedIsAll, MergedIsInOrder, TiesStay, revision_by}
use Rattle.bl_merge.specs.Lists.{in_order, merged}
use Rattle.bl_out.specs.Laws.{ValuesInAnyOrder}
use Rattle.bl_out.specs.Files.{table_at}
use Rattle.bl_out.specs.Tables.{IsAsNamed, IsTableProper, TableFile, first_of, table_entries, table_in}
use Rattle.bl_out.specs.Values.{Records, put_of, revision_of}
use Rattle.bl_out.proofs.AmongLemmas.{Among}
use Rattle.bl_folder.specs.Entries.{records_by}
use Rattle.bl_cache.specs.Laws.{NamedAreRead, TablesAreRuns}
use Rattle.bl_cache.specs.Reading.{entries_of, read_run}
use Rattle.bl_cache.specs.Runs.{is_key, is_run}
use Rattle.bl_cache.proofs.EntryLemmas.{is_run_of}
use Rattle.bl_read.specs.Giving.{AreNewer, Gives, IsNewer, View, revisions_in}
use Rattle.bl_read.specs.Reading.{IsPut, IsReadAs, IsTold, latest_in, may_have, or_else, tables_for}
use Rattle.bl_read.proofs.GivenLemmas.{file_read, given_of, put_is}
use Rattle.bl_read.proofs.ToldLemmas.{found_among}

by_test : {C : Type 0} (b : Bool) → (b ≡ true → C) → (b ≡ false → C) → C
by_test true f g = f refl
by_test false f g = g refl

both : (a b : Bool) → (a && b) ≡ true → (a ≡ true) × (b ≡ true)
both true b h = (refl, h)
both false b h = absurd (false≢true h)

same_key : (k q : List ℕ) → same_bytes k q ≡ true → k ≡ q
same_key k q e = (bytes_eq-Decides k q).0 (sym (is_eq-slice_cmp k q) ∙ e)

-- ---- the entries of a table ascend

module _ (law : ReadsTables) (es : List Entry) (proper : AllByRecursion IsProper es) where
  run_read : (bytes : List ℕ) (r : Result (List BlockEntry) Fault) → read_table bytes ≡ r → entries_of r ≡ Ok es → is_run es ≡ true
  run_read bytes (Ok items) e g = is_run_of None items es ((law bytes items).0 e).ascending g proper
  run_read bytes (Err fault) e g = absurd (let wrong = g in cc wrong)

  run_sized : (bytes : List ℕ) (b : Bool) → cond b (entries_of (read_table bytes)) (Err 0) ≡ Ok es → is_run es ≡ true
  run_sized bytes true g = run_read bytes (read_table bytes) refl g
  run_sized bytes false g = absurd (let wrong = g in cc wrong)

  run_of : (size : ℕ) (file : Option (List ℕ)) → read_run size file ≡ Ok es → is_run es ≡ true
  run_of size None g = absurd (let wrong = g in cc wrong)
  run_of size (Some bytes) g = run_sized bytes (length bytes == size) g

-- ---- a user key out of a table's range is none of its keys

all_test : (p : Entry → Bool) (es : List Entry) (e : Entry) → list_all p es ≡ true → Among e es → p e ≡ true
all_test p [] e h there = absurd there
all_test p (x ∷ es) e h (inl is) = ap p (sym is) ∙ (both (p x) (list_all p es) h).0
all_test p (x ∷ es) e h (inr there) = all_test p es e (both (p x) (list_all p es) h).1 there

le_itself : (a : List ℕ) → bytes_le a a ≡ true
le_itself a = ap is_le (tied_itself nat_list_cmp_total a)

le_then : (o n : Ordering) → is_lt (ordering_then o n) ≡ true → is_le o ≡ true
le_then Less n h = refl
le_then Equal n h = refl
le_then Greater n h = absurd (false≢true h)

before_le : (a b : Entry) → stands_before a b ≡ true → bytes_le a.key.user b.key.user ≡ true
before_le a b h = le_then (bytes_cmp a.key.user b.key.user) (nat_cmp (key_number b.key) (key_number a.key)) h

first_le : (es : List Entry) (x e : Entry) → is_run es ≡ true → first_of es ≡ Some x → Among e es → bytes_le x.key.user e.key.user ≡ true
first_le [] x e run first there = absurd there
first_le (y ∷ es) x e run first (inl is) =
    let same : x ≡ e = sym (some_is first) ∙ is in
    subst (λ (z : Entry). bytes_le x.key.user z.key.user ≡ true) same (le_itself x.key.user)
first_le (y ∷ es) x e run first (inr there) =
    let p = both (is_key y.key && list_all (stands_before y) es) (is_run es) run in
    let q = both (is_key y.key) (list_all (stands_before y) es) p.0 in
    subst (λ (z : Entry). bytes_le z.key.user e.key.user ≡ true) (some_is first) (before_le y e (all_test (stands_before y) es e q.1 there))

last_there : (es : List Entry) (z : Entry) → last_of es ≡ Some z → Among z es
last_there [] z h = absurd (let wrong = h in cc wrong)
last_there (x ∷ []) z h = inl (some_is h)
last_there (x ∷ y ∷ ys) z h = inr (last_there (y ∷ ys) z h)

last_le : (es : List Entry) (z e : Entry) → is_run es ≡ true → last_of es ≡ Some z → Among e es → bytes_le e.key.user z.key.user ≡ true
last_le [] z e run last there = absurd there
last_le (x ∷ []) z e run last (inl is) =
    let same : e ≡ z = sym is ∙ some_is last in
    subst (λ (w : Entry). bytes_le e.key.user w.key.user ≡ true) same (le_itself e.key.user)
last_le (x ∷ []) z e run last (inr there) = absurd there
last_le (x ∷ y ∷ ys) z e run last (inl is) =
    let p = both (is_key x.key && list_all (stands_before x) (y ∷ ys)) (is_run (y ∷ ys)) run in
    let q = both (is_key x.key) (list_all (stands_before x) (y ∷ ys)) p.0 in
    subst (λ (w : Entry). bytes_le w.key.user z.key.user ≡ true) is (before_le x z (all_test (stands_before x) (y ∷ ys) z q.1 (last_there (y ∷ ys) z last)))
last_le (x ∷ y ∷ ys) z e run last (inr there) =
    last_le (y ∷ ys) z e (both (is_key x.key && list_all (stands_before x) (y ∷ ys)) (is_run (y ∷ ys)) run).1 last there

in_range : (t : TableFile) → IsAsNamed t → is_run t.entries ≡ true → (e : Entry) → Among e t.entries → may_have e.key.user t.meta ≡ true
in_range t named run e there =
    let (x, first, smallest) = mapped_from (λ (e : Entry). key_bytes e.key) (first_of t.entries) t.meta.smallest named.smallest in
    let (z, last, largest) = mapped_from (λ (e : Entry). key_bytes e.key) (last_of t.entries) t.meta.largest named.largest in
    let low : user_part t.meta.smallest ≡ x.key.user = ap user_part (sym smallest) ∙ user_part_is x.key.user (key_number x.key) in
    let high : user_part t.meta.largest ≡ z.key.user = ap user_part (sym largest) ∙ user_part_is z.key.user (key_number z.key) in
    (λ i. bytes_le (low i) e.key.user && bytes_le e.key.user (high i))
    ∙ ap (λ b. b && bytes_le e.key.user z.key.user) (first_le t.entries x e run first there) ∙ last_le t.entries z e run last there

filter_none : (p : Entry → Bool) (es : List Entry) → ((e : Entry) → Among e es → p e ≡ false) → filter p es ≡ []
filter_none p [] h = refl
filter_none p (x ∷ es) h = ap (λ b. cond b (x ∷ filter p es) (filter p es)) (h x (inl refl)) ∙ filter_none p es (λ e there. h e (inr there))

unseen : (key : List ℕ) (seq : ℕ) (t : TableFile) → IsAsNamed t → is_run t.entries ≡ true → may_have key t.meta ≡ false → filter (is_seen key seq) t.entries ≡ []
unseen key seq t named run out =
    filter_none (is_seen key seq) t.entries (λ e there.
    by_test (same_bytes e.key.user key)
    (λ s.
    let inside : may_have key t.meta ≡ true = ap (λ k. may_have k t.meta) (sym (same_key e.key.user key s)) ∙ in_range t named run e there in
    absurd (false≢true (sym out ∙ inside)))
    (λ s. ap (λ b. b && nat_le e.key.seq seq) s))

-- ---- what is seen in the tables that are read is what is seen in all

meta_of : (folder : Folder) (t : NewTable) (f : TableFile) → table_in folder t ≡ Some f → f.meta ≡ t
meta_of folder t f e =
    let a = went (table_at folder t.number t.size) (λ es. Some (record { meta = t; entries = es })) f e in
    sym (ap (λ (z : TableFile). z.meta) (some_is a.makes))

abbrev joined : List (List Entry) → List Entry
joined lists = flat_map (λ es. es) lists

module _ (law : ReadsTables) (runs : TablesAreRuns) (folder : Folder) (key : List ℕ) (seq : ℕ) where
  step : (t : NewTable) (ts : List NewTable) (f : TableFile) (fs : List TableFile) (b : Bool) (lists : List (List Entry)) → may_have key t ≡ b → table_in folder t ≡ Some f → f.meta ≡ t → IsAsNamed f → IsTableProper f
      → ((ls : List (List Entry)) → AllZip (IsReadAs folder) (tables_for key ts) ls → filter (is_seen key seq) (joined ls) ≡ filter (is_seen key seq) (joined (map (λ t. t.entries) fs)))
      → AllZip (IsReadAs folder) (cond b (t ∷ tables_for key ts) (tables_for key ts)) lists
      → filter (is_seen key seq) (joined lists) ≡ filter (is_seen key seq) (f.entries ++ joined (map (λ t. t.entries) fs))
  step t ts f fs true [] is gives meta named proper rest zip = absurd zip
  step t ts f fs true (l ∷ ls) is gives meta named proper rest zip =
      let own : l ≡ f.entries = ok_is (sym zip.0 ∙ file_read runs folder t f gives proper) in
      filter-append (is_seen key seq) l (joined ls)
      ∙ (λ i. filter (is_seen key seq) (own i) ++ rest ls zip.1 i)
      ∙ sym (filter-append (is_seen key seq) f.entries (joined (map (λ t. t.entries) fs)))
  step t ts f fs false lists is gives meta named proper rest zip =
      let run : is_run f.entries ≡ true = run_of law f.entries proper t.size (folder (name_of (Table t.number))) (file_read runs folder t f gives proper) in
      let none : filter (is_seen key seq) f.entries ≡ [] = unseen key seq f named run (ap (may_have key) meta ∙ is) in
      rest lists zip
      ∙ ap (λ es. es ++ filter (is_seen key seq) (joined (map (λ t. t.entries) fs))) (sym none)
      ∙ sym (filter-append (is_seen key seq) f.entries (joined (map (λ t. t.entries) fs)))

  seen_same : (ts : List NewTable) (tables : List TableFile) (lists : List (List Entry)) → each_of (table_in folder) ts ≡ Some tables → AllByRecursion IsAsNamed tables → AllByRecursion IsTableProper tables
      → AllZip (IsReadAs folder) (tables_for key ts) lists → filter (is_seen key seq) (joined lists) ≡ filter (is_seen key seq) (joined (map (λ t. t.entries) tables))
  seen_same [] tables [] e named proper zip = ap (λ (fs : List TableFile). filter (is_seen key seq) (joined (map (λ t. t.entries) fs))) (some_is e)
  seen_same [] tables (l ∷ lists) e named proper zip = absurd zip
  seen_same (t ∷ ts) tables lists e named proper zip =
      let c = each_cons (table_in folder) t ts tables e in
      let names : AllByRecursion IsAsNamed (c.first ∷ c.rest) = subst (AllByRecursion IsAsNamed) (sym c.is) named in
      let propers : AllByRecursion IsTableProper (c.first ∷ c.rest) = subst (AllByRecursion IsTableProper) (sym c.is) proper in
      subst (λ (fs : List TableFile). filter (is_seen key seq) (joined lists) ≡ filter (is_seen key seq) (joined (map (λ t. t.entries) fs))) c.is
      (step t ts c.first c.rest (may_have key t) lists refl c.gives (meta_of folder t c.first c.gives) names.0 propers.0
      (λ ls z. seen_same ts c.rest ls c.more names.1 propers.1 z) zip)

-- ---- the latest entry of merged lists goes by what is seen in them

find_filtered : (p : Entry → Bool) (es : List Entry) → find p es ≡ slice_get (filter p es) 0
find_filtered p [] = refl
find_filtered p (x ∷ es) =
    by_test (p x)
    (λ t. ap (λ b. cond b (Some x) (find p es)) t ∙ sym (ap (λ b. slice_get (cond b (x ∷ filter p es) (filter p es)) 0) t))
    (λ t. ap (λ b. cond b (Some x) (find p es)) t ∙ find_filtered p es ∙ sym (ap (λ b. slice_get (cond b (x ∷ filter p es) (filter p es)) 0) t))

latest_seen : TiesStay → (key : List ℕ) (seq : ℕ) (lists : List (List Entry)) → latest key seq (merged lists) ≡ slice_get (in_order (filter (is_seen key seq) (joined lists))) 0
latest_seen ties key seq lists = find_filtered (is_seen key seq) (merged lists) ∙ ap (λ es. slice_get es 0) (ties (is_seen key seq) (joined lists))

latest_same : TiesStay → (key : List ℕ) (seq : ℕ) (lists others : List (List Entry)) → filter (is_seen key seq) (joined lists) ≡ filter (is_seen key seq) (joined others)
    → latest key seq (merged lists) ≡ latest key seq (merged others)
latest_same ties key seq lists others same =
    latest_seen ties key seq lists ∙ ap (λ es. slice_get (in_order es) 0) same ∙ sym (latest_seen ties key seq others)

-- ---- what entries put, as a function

abbrev pub flat : Option (Option (List ℕ)) → Option (List ℕ)
flat None = None
flat (Some put) = put

abbrev pub put_in : Records → Entry → Option (List ℕ)
put_in held e = flat (put_of held e.key.kind e)

module _ (held : Records) where
  revision_is : (e : Entry) (r : Revision) → revision_of held e ≡ Some r → revision_by (put_in held) e ≡ r
  revision_is e r h =
      let a = went (put_of held e.key.kind e) (λ put. Some (record { key = e.key.user; seq = e.key.seq; put = put })) r h in
      let made : ◌≡◌ {A = Revision} (record { key = e.key.user; seq = e.key.seq; put = a.from }) r = some_is a.makes in
      (λ i. record { key = e.key.user; seq = e.key.seq; put = flat (a.gives i) }) ∙ made

  revisions_are : (es : List Entry) (rs : List Revision) → each_of (revision_of held) es ≡ Some rs → map (revision_by (put_in held)) es ≡ rs
  revisions_are [] rs e = some_is e
  revisions_are (x ∷ es) rs e =
      let c = each_cons (revision_of held) x es rs e in
      (λ i. revision_is x c.first c.gives i ∷ revisions_are es c.rest c.more i) ∙ c.is

table_entries_joined : (tables : List TableFile) → joined (map (λ t. t.entries) tables) ≡ table_entries tables
table_entries_joined [] = refl
table_entries_joined (t ∷ tables) = ap (λ es. t.entries ++ es) (table_entries_joined tables)

-- ---- the tables tell the value

pub record TableLaws : Type 0 where
  pub grammar : ReadsTables
  pub runs : TablesAreRuns
  pub named : NamedAreRead
  pub all : MergedIsAll
  pub order : MergedIsInOrder
  pub ties : TiesStay
  pub tells : LatestTellsTheValue
  pub any : ValuesInAnyOrder

module _ (laws : TableLaws) (folder : Folder) (v : View) (seq at : ℕ) (m : Map) (g : Gives folder v at m) (key : List ℕ) where
  pub value_is : value_at g.found seq key ≡ option_and_then (put_in (records_by g.blobs)) (latest key seq (merged (map (λ t. t.entries) g.tables)))
  value_is =
      let put : Entry → Option (List ℕ) = put_in (records_by g.blobs) in
      let all : List (List Entry) = map (λ t. t.entries) g.tables in
      let found : map (revision_by put) (joined all) ≡ g.found = ap (map (revision_by put)) (table_entries_joined g.tables) ∙ revisions_are (records_by g.blobs) (table_entries g.tables) g.found g.resolve in
      let moved : IsPermutation g.found (map (revision_by put) (merged all)) =
      subst (λ (rs : List Revision). IsPermutation rs (map (revision_by put) (merged all))) found (IsPermutation-map (revision_by put) (joined all) (merged all) (laws.all all)) in
      laws.any g.found (map (revision_by put) (merged all)) seq key moved g.once ∙ laws.tells put (merged all) key seq (laws.order all)

  -- what is found puts what it is read to put
  pub put_found : (found : Option Entry) → latest key seq (merged (map (λ t. t.entries) g.tables)) ≡ found → (put : Option (List ℕ)) → IsPut folder found put → put ≡ option_and_then (put_in (records_by g.blobs)) found
  put_found None is put told = told
  put_found (Some e) is put told =
      let among = subst (Among e) (table_entries_joined g.tables) (found_among laws.all (map (λ t. t.entries) g.tables) key seq e is) in
      let k = given_of (revision_of (records_by g.blobs)) (table_entries g.tables) g.found g.resolve e among in
      let p = went (put_of (records_by g.blobs) e.key.kind e) (λ put. Some (record { key = e.key.user; seq = e.key.seq; put = put })) k.made k.gives in
      put_is laws.named folder v.version.blobs g.blobs g.read_blobs g.spelled e.key.kind e refl put p.from told p.gives ∙ ap flat (sym p.gives)

  pub told_is : (put : Option (List ℕ)) → IsTold folder v.version.tables key seq put → put ≡ value_at g.found seq key
  told_is put told =
      let same = latest_same laws.ties key seq told.lists (map (λ t. t.entries) g.tables)
      (seen_same laws.grammar laws.runs folder key seq v.version.tables g.tables told.lists g.read_tables g.named g.proper told.read) in
      put_found (latest key seq (merged (map (λ t. t.entries) g.tables))) refl put (subst (λ (o : Option Entry). IsPut folder o put) same told.told) ∙ sym value_is

-- ---- memories are told before what is older

abbrev pub told_by : Option Entry → Option (List ℕ) → Option (List ℕ)
told_by None older = older
told_by (Some e) older = (memory_revision e).put

pub record MemoryLaws : Type 0 where
  pub later : LaterAreToldFirst
  pub order : AscendingAreInOrder
  pub value : LatestIsTheValue

some_step : (b : Bool) (r : Revision) (x : Entry) (s : List Revision) (l : Option Entry) → is_some (newest s) ≡ is_some l → is_some (newest (cond b (r ∷ s) s)) ≡ is_some (cond b (Some x) l)
some_step true r x s l h = refl
some_step false r x s l h = h

some_same : (key : List ℕ) (seq : ℕ) (es : List Entry) → is_some (newest (seen seq key (map memory_revision es))) ≡ is_some (latest key seq es)
some_same key seq [] = refl
some_same key seq (x ∷ es) = some_step (is_seen key seq x) (memory_revision x) x (seen seq key (map memory_revision es)) (latest key seq es) (some_same key seq es)

by_newest : (n o : Option Revision) (l : Option Entry) → is_some n ≡ is_some l → option_and_then (λ r. r.put) n ≡ option_and_then (λ e. (memory_revision e).put) l
    → option_and_then (λ r. r.put) (or_older n o) ≡ told_by l (option_and_then (λ r. r.put) o)
by_newest None o None s v = refl
by_newest (Some r) o (Some e) s v = v
by_newest None o (Some e) s v = absurd (false≢true s)
by_newest (Some r) o None s v = absurd (false≢true (sym s))

module _ (laws : MemoryLaws) (key : List ℕ) (seq : ℕ) where
  one_memory : (older : List Revision) (memory : List Entry) → IsNewer memory older → value_at (older ++ revisions_in memory) seq key ≡ told_by (latest key seq memory) (value_at older seq key)
  one_memory older memory newer =
      let above : AllByRecursion (λ (r : Revision). newer.last < r.seq) (map memory_revision memory) = all_of_map memory_revision (λ (r : Revision). newer.last < r.seq) memory newer.above in
      ap (option_and_then (λ r. r.put)) (laws.later older (revisions_in memory) newer.last seq key newer.below above)
      ∙ by_newest (newest (seen seq key (revisions_in memory))) (newest (seen seq key older)) (latest key seq memory) (some_same key seq memory) (laws.value memory key seq (laws.order memory newer.ascending))

  told_or : (a b : Option Entry) (o : Option (List ℕ)) → told_by a (told_by b o) ≡ told_by (or_else a b) o
  told_or None b o = refl
  told_or (Some e) b o = refl

  pub all_memories : (older : List Revision) (memories : List (List Entry)) → AreNewer older memories
      → value_at (older ++ flat_map revisions_in memories) seq key ≡ told_by (latest_in key seq memories) (value_at older seq key)
  all_memories older [] newer = ap (λ rs. value_at rs seq key) (append-nil older)
  all_memories older (memory ∷ more) newer =
      ap (λ rs. value_at rs seq key) (sym (append_assoc older (revisions_in memory) (flat_map revisions_in more)))
      ∙ all_memories (older ++ revisions_in memory) more newer.1
      ∙ ap (told_by (latest_in key seq more)) (one_memory older memory newer.0)
      ∙ told_or (latest_in key seq more) (latest key seq memory) (value_at older seq key)

  -- ---- the value in the map

  -- a memory has an entry of the key
  pub memory_value : (folder : Folder) (v : View) (m : Map) (e : Entry) (result : Result (Option (List ℕ)) RunErr) → Gives folder v seq m → latest_in key seq v.memories ≡ Some e
      → IfOk result (λ put. put ≡ (memory_revision e).put) → IfOk result (λ put. put ≡ get m key)
  memory_value folder v m e (Err why) g is put = tt
  memory_value folder v m e (Ok found) g is put =
      put ∙ sym (g.map_is key ∙ all_memories g.found v.memories g.newer ∙ ap (λ o. told_by o (value_at g.found seq key)) is)

  -- none has
  pub table_value : TableLaws → (folder : Folder) (v : View) (m : Map) (result : Result (Option (List ℕ)) RunErr) → Gives folder v seq m → latest_in key seq v.memories ≡ None
      → IfOk result (IsTold folder v.version.tables key seq) → IfOk result (λ put. put ≡ get m key)
  table_value tables folder v m (Err why) g is told = tt
  table_value tables folder v m (Ok found) g is told =
      told_is tables folder v seq seq m g key found told ∙ sym (g.map_is key ∙ all_memories g.found v.memories g.newer ∙ ap (λ o. told_by o (value_at g.found seq key)) is)
