-- What a folder says of what it holds.
use Rattle.std.proofs.Common.{◌≡◌, ℕ, ◌+◌, ◌/◌, ◌%◌, ◌<◌, ◌≤◌, nat_lt, Bool, true, false, cond, List, [], ◌∷◌, length, refl, sym, ◌∙◌, ap, subst, arith, Option, Some, None}
use Rattle.std.specs.Prelude.{◌==◌, map, sum_by, Result, Ok, Err}
use Rattle.std.specs.List.{AllByRecursion}
use Rattle.std.specs.Option.{option_map}
use Rattle.std.specs.Result.{result_ok}
use Rattle.std.specs.Ordering.{is_le, is_lt, nat_cmp, ordering_then}
use Rattle.std.specs.declared.cmp.Ordering.{Ordering}
use Rattle.std.specs.declared.cmp.Ordering.TheVariants.{Less, Equal, Greater}
use Rattle.std.proofs.lemmas.Bool.{false≢true, eqb-true}
use Rattle.bl_code.specs.Order.{bytes_cmp, bytes_le, number_part, user_part}
use Rattle.bl_code.specs.Reading.{◌>>=◌, need, or_fault}
use Rattle.bl_site.specs.Disk.{Folder}
use Rattle.bl_names.specs.declared.name.FileName.TheVariants.{Table}
use Rattle.bl_table.specs.declared.entry.BlockEntry.{BlockEntry}
use Rattle.bl_table.specs.Blocks.{stands_behind}
use Rattle.bl_table.specs.Grammar.{IsTable, KeysAscend, ReadsTables}
use Rattle.bl_table.specs.Whole.{read_table}
use Rattle.bl_edit.specs.declared.edit.NewTable.{NewTable}
use Rattle.bl_build.specs.declared.meta.BlobMeta.{BlobMeta}
use Rattle.bl_build.specs.Versions.{first_user, last_user}
use Rattle.bl_entry.specs.declared.key.Entry.{Entry}
use Rattle.bl_entry.specs.declared.key.Kind.{Kind}
use Rattle.bl_entry.specs.declared.key.BadKey.{BadKey}
use Rattle.bl_entry.specs.declared.key.BadKey.TheVariants as bad
use Rattle.bl_entry.specs.declared.batch.Operation.{Operation}
use Rattle.bl_entry.specs.declared.decode.BadBatch.{BadBatch}
use Rattle.bl_entry.specs.Batches.{Batch}
use Rattle.bl_entry.specs.Keys.{Key, key_bytes, key_number, kind_of, max_key, read_key}
use Rattle.bl_entry.specs.Reading.{read_batch}
use Rattle.bl_entry.specs.Records.{LastIsCounted, and_batch, batch_behind, batches_of}
use Rattle.bl_entry.specs.Revisions.{Revision, revisions_from, revisions_of}
use Rattle.bl_out.specs.Files.{file, entries_in, of_size, records_at}
use Rattle.bl_folder.specs.Logs.{log_records}
use Rattle.bl_folder.specs.Holding.{BlobFile, Holding, Holds, blob_in}
use Rattle.bl_out.specs.Tables.{TableFile, table_in, IsAsNamed, first_of}
use Rattle.bl_entry.specs.Items.{each_of, entry_of}
use Rattle.bl_out.specs.Finding.{◌then◌}
use Rattle.bl_folder.specs.Laws.{LiveIsVersion}
use Rattle.bl_compacted.specs.Pairs.{Pairwise}
use Rattle.bl_entry.specs.Entries.{last_of}
use Rattle.bl_compacted.specs.Outputs.{IsRanged}
use Rattle.bl_compacted.specs.Compacting.{IsHeld}
use Rattle.bl_compacted.specs.Laws.{HeldByFolders}
use Rattle.bl_compacted.proofs.Finding.{each_cons, some_is, went}
use Rattle.bl_compacted.proofs.Lists.{all_append, all_in, in_all, of_each}
use Rattle.bl_compacted.proofs.LevelLemmas.{bytes_trans}
use Rattle.bl_compacted.proofs.SoundLemmas.{user_end}
use Rattle.bl_compacted.proofs.ValueLemmas.{key_same}

abbrev entry_in : BlockEntry → Option Entry
entry_in item = entry_of item.key item.value

ok_of : {A E : Type 0} (r : Result A E) (x : A) → result_ok r ≡ Some x → r ≡ Ok x
ok_of (Ok y) x e = ap Ok (some_is e)
ok_of (Err f) x e = absurd cc

ok_is : {A E : Type 0} {x y : A} → ◌≡◌ {A = Result A E} (Ok x) (Ok y) → x ≡ y
ok_is e = cc

-- ---- the keys of a table ascend

read_user : (bytes : List ℕ) (key : Key) → read_key bytes ≡ Ok key → key.user ≡ user_part bytes
unfolding read_key
read_user bytes key e = by (nat_lt 8 (length bytes)) (nat_lt (length bytes) (max_key + 9)) (kind_of (number_part bytes % 256)) e
  where
    made : Kind → Result Key BadKey
    made kind = Ok (record { user = user_part bytes; seq = number_part bytes / 256; kind = kind })

    by : (a b : Bool) (k : Option Kind) → (need a bad.Short >>= λ _. need b bad.Long >>= λ _. or_fault bad.Kind k >>= made) ≡ Ok key → key.user ≡ user_part bytes
    by true true (Some k) p = ap (λ (x : Key). x.user) (sym (ok_is p))
    by true true None p = absurd cc
    by true false k p = absurd cc
    by false b k p = absurd cc

entry_user : (item : BlockEntry) (e : Entry) → entry_in item ≡ Some e → e.key.user ≡ user_part item.key
entry_user item e is =
    let a = went (result_ok (read_key item.key)) (λ key. Some (record { key = key; value = item.value })) e is in
    ap (λ (x : Entry). x.key.user) (sym (some_is a.makes)) ∙ read_user item.key a.from (ok_of (read_key item.key) a.from a.gives)

-- a key stands at or behind another by its user key
abbrev Follows : Entry → Entry → Type 0
Follows a b = bytes_le a.key.user b.key.user ≡ true

follows : (before after : List ℕ) → stands_behind (Some before) after ≡ true → bytes_le (user_part before) (user_part after) ≡ true
follows before after h = by (bytes_cmp (user_part before) (user_part after)) h
  where
    by : (o : Ordering) → is_lt (ordering_then o (nat_cmp (number_part after) (number_part before))) ≡ true → is_le o ≡ true
    by Less e = refl
    by Equal e = refl
    by Greater e = absurd (false≢true e)

keys_follow : (before : List ℕ) (items : List BlockEntry) → KeysAscend (Some before) items → AllByRecursion (λ i. bytes_le (user_part before) (user_part i.key) ≡ true) items
keys_follow before [] h = tt
keys_follow before (i ∷ items) h =
    let first : bytes_le (user_part before) (user_part i.key) ≡ true = follows before i.key h.1 in
    (first, all_in (λ k. bytes_le (user_part before) (user_part k.key) ≡ true) items (λ k at. bytes_trans (user_part before) (user_part i.key) (user_part k.key) first (in_all (λ (w : BlockEntry). bytes_le (user_part i.key) (user_part w.key) ≡ true) k items (keys_follow i.key items h.2) at)))

entries_follow : (before : Option (List ℕ)) (items : List BlockEntry) (es : List Entry) → KeysAscend before items → each_of entry_in items ≡ Some es → Pairwise Follows es
entries_follow before [] es h e = subst (Pairwise Follows) (some_is e) tt
entries_follow before (i ∷ items) es h e =
    let c = each_cons entry_in i items es e in
    subst (Pairwise Follows) c.is (
      all_in (Follows c.first) c.rest (λ x k.
          let o = of_each entry_in x items c.rest c.more k in
          let le : bytes_le (user_part i.key) (user_part o.0.key) ≡ true = in_all (λ (w : BlockEntry). bytes_le (user_part i.key) (user_part w.key) ≡ true) o.0 items (keys_follow i.key items h.2) o.1 in
          subst (λ (w : List ℕ). bytes_le w x.key.user ≡ true) (sym (entry_user i c.first c.gives)) (subst (λ (w : List ℕ). bytes_le (user_part i.key) w ≡ true) (sym (entry_user o.0 x o.2)) le)),
      entries_follow (Some i.key) items c.rest h.2 c.more,
    )

le_itself : (a : List ℕ) → bytes_le a a ≡ true
le_itself a = by (bytes_cmp a a) (key_same a a refl)
  where
    by : (o : Ordering) → Rattle.std.specs.Ordering.is_eq o ≡ true → is_le o ≡ true
    by Less e = absurd (false≢true e)
    by Equal e = refl
    by Greater e = absurd (false≢true e)

-- all are between the first and the last
up_to_last : (es : List Entry) (l : Entry) → Pairwise Follows es → last_of es ≡ Some l → AllByRecursion (λ x. Follows x l) es
up_to_last [] l p e = tt
up_to_last (x ∷ []) l p e = (subst (Follows x) (some_is e) (le_itself x.key.user), tt)
up_to_last (x ∷ y ∷ es) l p e =
    let rest = up_to_last (y ∷ es) l p.1 e in
    (bytes_trans x.key.user y.key.user l.key.user p.0.0 rest.0, rest)

named_by : (o : Option Entry) (bytes : List ℕ) → option_map (λ e. key_bytes e.key) o ≡ Some bytes → (x : Entry) × (o ≡ Some x) × (user_part bytes ≡ x.key.user)
named_by None bytes e = absurd cc
named_by (Some x) bytes e = (x, refl, ap user_part (sym (some_is e)) ∙ user_end x.key.user (key_number x.key))

pub ranged_by : (t : TableFile) → IsAsNamed t → Pairwise Follows t.entries → IsRanged t
ranged_by t named p =
    let a = named_by (first_of t.entries) t.meta.smallest named.smallest in
    let b = named_by (last_of t.entries) t.meta.largest named.largest in
    all_in (λ e. (bytes_le (first_user t.meta) e.key.user ≡ true) × (bytes_le e.key.user (last_user t.meta) ≡ true)) t.entries (λ e i. (
      subst (λ (w : List ℕ). bytes_le w e.key.user ≡ true) (sym a.2) (in_all (λ x. Follows a.0 x) e t.entries (from_first t.entries a.0 p a.1) i),
      subst (λ (w : List ℕ). bytes_le e.key.user w ≡ true) (sym b.2) (in_all (λ x. Follows x b.0) e t.entries (up_to_last t.entries b.0 p b.1) i),
    ))
  where
    from_first : (es : List Entry) (f : Entry) → Pairwise Follows es → first_of es ≡ Some f → AllByRecursion (λ x. Follows f x) es
    from_first [] f q e = tt
    from_first (x ∷ es) f q e = subst (λ (y : Entry). AllByRecursion (λ z. Follows y z) (x ∷ es)) (some_is e) (le_itself x.key.user, q.0)

table_follows : ReadsTables → (folder : Folder) (t : NewTable) (y : TableFile) → table_in folder t ≡ Some y → (y.meta ≡ t) × Pairwise Follows y.entries
table_follows law folder t y e =
    let a = went (file folder (Table t.number) then of_size t.size then entries_in) (λ es. Some (record { meta = t; entries = es })) y e in
    let b = went (file folder (Table t.number) then of_size t.size) entries_in a.from a.gives in
    let c = went (result_ok (read_table b.from)) (λ items. each_of entry_in items) a.from b.makes in
    let whole : IsTable b.from c.from = (law b.from c.from).0 (ok_of (read_table b.from) c.from c.gives) in (
      sym (ap (λ (z : TableFile). z.meta) (some_is a.makes)),
      subst (Pairwise Follows) (ap (λ (z : TableFile). z.entries) (some_is a.makes)) (entries_follow None c.from a.from whole.ascending c.makes),
    )

pub blob_meta : (folder : Folder) (b : BlobMeta) (y : BlobFile) → blob_in folder b ≡ Some y → y.meta ≡ b
blob_meta folder b y e =
    let c = went (records_at folder b.number) (λ rs. Some (record { meta = b; records = rs })) y e in
    sym (ap (λ (z : BlobFile). z.meta) (some_is c.makes))

each_back : {A B : Type 0} (f : A → Option B) (g : B → A) (xs : List A) (ys : List B) → ((x : A) (y : B) → f x ≡ Some y → g y ≡ x) → each_of f xs ≡ Some ys → map g ys ≡ xs
each_back f g [] ys from e = ap (map g) (sym (some_is e))
each_back f g (x ∷ xs) ys from e =
    let c = each_cons f x xs ys e in
    ap (map g) (sym c.is) ∙ (λ i. from x c.first c.gives i ∷ each_back f g xs c.rest from c.more i)

-- ---- batches stand behind the last sequence

seqs_from : (n : ℕ) (os : List Operation) → AllByRecursion (λ r. n ≤ r.seq) (revisions_from n os)
unfolding revisions_from
seqs_from n [] = tt
seqs_from n (o ∷ os) = (omega arith, up (revisions_from (n + 1) os) (seqs_from (n + 1) os))
  where
    up : (rs : List Revision) → AllByRecursion (λ r. n + 1 ≤ r.seq) rs → AllByRecursion (λ r. n ≤ r.seq) rs
    up [] h = tt
    up (r ∷ rs) h = (omega (arith, h.0), up rs h.1)

all_up : (a b : ℕ) (rs : List Revision) → a ≤ b → AllByRecursion (λ r. b < r.seq) rs → AllByRecursion (λ r. a < r.seq) rs
all_up a b [] le h = tt
all_up a b (r ∷ rs) le h = (omega (arith, h.0), all_up a b rs le h.1)

all_over : (a b : ℕ) (rs : List Revision) → b ≡ a + 1 → AllByRecursion (λ r. b ≤ r.seq) rs → AllByRecursion (λ r. a < r.seq) rs
all_over a b [] e h = tt
all_over a b (r ∷ rs) e h = (omega (arith, h.0), all_over a b rs e h.1)

batches_ahead : (records : List (List ℕ)) (before last : ℕ) (batches : List Batch) → batches_of records before ≡ Some (batches, last) → AllByRecursion (λ r. before < r.seq) (revisions_of batches)
unfolding batches_of
batches_ahead [] before last batches e = subst (λ (bs : List Batch). AllByRecursion (λ r. before < r.seq) (revisions_of bs)) (ap (λ (x : List Batch × ℕ). x.0) (some_is e)) tt
batches_ahead (bytes ∷ records) before last batches e = by_batch (read_batch bytes) (λ b bs l q. batches_ahead records (before + length b.operations) l bs q) e
  where
    Rest : Type 0
    Rest = (b : Batch) (bs : List Batch) (l : ℕ) → batches_of records (before + length b.operations) ≡ Some (bs, l) → AllByRecursion (λ r. before + length b.operations < r.seq) (revisions_of bs)

    joined : (b : Batch) → b.first ≡ before + 1 → ((bs : List Batch) (l : ℕ) → batches_of records (before + length b.operations) ≡ Some (bs, l) → AllByRecursion (λ r. before + length b.operations < r.seq) (revisions_of bs))
        → (o : Option (List Batch × ℕ)) → batches_of records (before + length b.operations) ≡ o → and_batch b o ≡ Some (batches, last) → AllByRecursion (λ r. before < r.seq) (revisions_of batches)
    joined b first rest None q p = absurd cc
    joined b first rest (Some x) q p =
        subst (λ (bs : List Batch). AllByRecursion (λ r. before < r.seq) (revisions_of bs)) (ap (λ (y : List Batch × ℕ). y.0) (some_is p))
        (all_append (λ r. before < r.seq) (revisions_from b.first b.operations) (revisions_of x.0) (all_over before b.first (revisions_from b.first b.operations) first (seqs_from b.first b.operations))
        (all_up before (before + length b.operations) (revisions_of x.0) (omega arith) (rest x.0 x.1 q)))

    by_first : (b : Batch) → ((bs : List Batch) (l : ℕ) → batches_of records (before + length b.operations) ≡ Some (bs, l) → AllByRecursion (λ r. before + length b.operations < r.seq) (revisions_of bs))
        → (t : Bool) → (b.first == before + 1) ≡ t → cond t (and_batch b (batches_of records (before + length b.operations))) None ≡ Some (batches, last) → AllByRecursion (λ r. before < r.seq) (revisions_of batches)
    by_first b rest true t p = joined b (eqb-true b.first (before + 1) t) rest (batches_of records (before + length b.operations)) refl p
    by_first b rest false t p = absurd cc

    by_batch : (r : Result Batch BadBatch)
        → ((b : Batch) (bs : List Batch) (l : ℕ) → batches_of records (before + length b.operations) ≡ Some (bs, l) → AllByRecursion (λ x. before + length b.operations < x.seq) (revisions_of bs))
        → batch_behind before r (λ b. and_batch b (batches_of records (before + length b.operations))) ≡ Some (batches, last) → AllByRecursion (λ x. before < x.seq) (revisions_of batches)
    by_batch (Err f) rest p = absurd cc
    by_batch (Ok b) rest p = by_first b (rest b) (b.first == before + 1) refl p

-- ---- the whole

pub held_named : ReadsTables → LiveIsVersion → LastIsCounted → (folder : Folder) (manifest : ℕ) (h : Holding) → Holds folder manifest h → AllByRecursion IsAsNamed h.tables → IsHeld h
held_named tables version counted folder manifest h holds named =
    let last : h.last ≡ h.live.standing.last_sequence + sum_by (λ b. length b.operations) h.batches =
    counted (log_records folder h.live.standing.log_number holds.batches.count) h.live.standing.last_sequence h.last h.batches holds.batches.are in
    record {
      tables = each_back (table_in folder) (λ t. t.meta) h.live.version.tables h.tables (λ t y e. (table_follows tables folder t y e).0) holds.tables;
      blobs = each_back (blob_in folder) (λ b. b.meta) h.live.version.blobs h.blobs (blob_meta folder) holds.blobs;
      version = version folder manifest h.live holds.live;
      ranged = all_in (λ t. IsRanged t) h.tables (λ y i.
          let o = of_each (table_in folder) y h.live.version.tables h.tables holds.tables i in
          ranged_by y (in_all IsAsNamed y h.tables named i) (table_follows tables folder o.0 y o.2).1);
      ahead = batches_ahead (log_records folder h.live.standing.log_number holds.batches.count) h.live.standing.last_sequence h.last h.batches holds.batches.are;
      last = omega arith;
    }

pub held_by : ReadsTables → LiveIsVersion → LastIsCounted → HeldByFolders
held_by tables version counted folder manifest h holds named = held_named tables version counted folder manifest h holds named
