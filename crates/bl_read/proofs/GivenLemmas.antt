-- What is read of a version that gives a map.
use Rattle.std.proofs.Common.{◌≡◌, ℕ, List, [], ◌∷◌, ◌++◌, refl, sym, ◌∙◌, ap, subst, Option, Some, Ok, inl, inr}
use Rattle.std.specs.Prelude.{◌==◌, Contains, IfSome, find, flat_map}
use Rattle.std.specs.List.{AllByRecursion}
use Rattle.std.specs.Result.{result_ok}
use Rattle.std.specs.Cmp.Lexicographic.{nat_list_cmp_total}
use Rattle.std.specs.FinMap.{same_map, slice_cmp-IsAntisymmetric, nat_cmp-IsAntisymmetric}
use Rattle.std.proofs.lemmas.Bool.{eqb-true}
use Rattle.bl_site.specs.Disk.{Folder, Name}
use Rattle.bl_code.proofs.Basics.{ok_is}
use Rattle.bl_names.specs.Names.{name_of}
use Rattle.bl_names.specs.declared.name.FileName.TheVariants.{Table, Blob}
use Rattle.bl_entry.specs.declared.key.Entry.{Entry}
use Rattle.bl_entry.specs.declared.key.Kind.{Kind}
use Rattle.bl_entry.specs.declared.key.Kind.TheVariants.{Deletion, Value, BlobRef}
use Rattle.bl_entry.specs.Items.{each_of}
use Rattle.bl_entry.specs.Revisions.{IsMapAt, Map, Revision}
use Rattle.bl_entry.proofs.ItemLemmas.{each_cons, some_is, went}
use Rattle.bl_entry.proofs.ListLemmas.{find_passes, find_there}
use Rattle.bl_index.specs.declared.index.BlobIndex.{BlobIndex}
use Rattle.bl_blob.specs.BlobFile.{IsBlobFile, blobs_of}
use Rattle.bl_blob.specs.Reading.{file_in}
use Rattle.bl_edit.specs.declared.edit.NewTable.{NewTable}
use Rattle.bl_build.specs.declared.meta.BlobMeta.{BlobMeta}
use Rattle.bl_out.specs.Files.{file, records_at, table_at}
use Rattle.bl_out.specs.Finding.{◌then◌}
use Rattle.bl_out.specs.References.{index_in, index_of}
use Rattle.bl_out.specs.Tables.{IsTableProper, TableFile, table_entries, table_in}
use Rattle.bl_out.specs.Values.{Records, is_named, put_of, resolved, revision_of, value_in}
use Rattle.bl_out.proofs.AmongLemmas.{Among, all_at, among_left, among_right, to_among}
use Rattle.bl_folder.specs.Entries.{records_by}
use Rattle.bl_folder.specs.Holding.{BlobFile, IsSpelled, blob_in}
use Rattle.bl_folder.proofs.OneLemmas.{blob_of}
use Rattle.bl_cache.specs.Laws.{NamedAreRead, TablesAreRuns}
use Rattle.bl_cache.specs.Reading.{read_value}
use Rattle.bl_read.specs.Giving.{Gives, View, revisions_in}
use Rattle.bl_read.specs.Laws.{GivenAreWhole, GivenMapsAreOne}
use Rattle.bl_read.specs.Reading.{IsBadBlob, IsBadTable, IsDamaged, IsPutBy, IsReadAs}

pub given_one : GivenMapsAreOne
given_one folder v seq m n p q =
    let tables : p.tables ≡ q.tables = some_is (sym p.read_tables ∙ q.read_tables) in
    let blobs : p.blobs ≡ q.blobs = some_is (sym p.read_blobs ∙ q.read_blobs) in
    let found : p.found ≡ q.found = some_is (sym p.resolve ∙ (λ i. each_of (revision_of (records_by (blobs i))) (table_entries (tables i))) ∙ q.resolve) in
    let read : IsMapAt (p.found ++ flat_map revisions_in v.memories) seq n =
    subst (λ (es : List Revision). IsMapAt (es ++ flat_map revisions_in v.memories) seq n) (sym found) q.map_is in
    same_map nat_list_cmp_total (slice_cmp-IsAntisymmetric nat_cmp-IsAntisymmetric) m n (λ key. p.map_is key ∙ sym (read key))

-- ---- what is given of one of a list

pub record Given {A B : Type 0} (f : A → Option B) (ys : List B) (x : A) : Type 0 where
  pub made : B
  pub there : Among made ys
  pub gives : f x ≡ Some made

pub given_of : {A B : Type 0} (f : A → Option B) (xs : List A) (ys : List B) → each_of f xs ≡ Some ys → (x : A) → Among x xs → Given f ys x
given_of f [] ys e x h = absurd h
given_of f (z ∷ xs) ys e x (inl is) =
    let c = each_cons f z xs ys e in
    record { made = c.first; there = subst (Among c.first) c.is (inl refl); gives = ap f (sym is) ∙ c.gives }
given_of f (z ∷ xs) ys e x (inr h) =
    let c = each_cons f z xs ys e in
    let k = given_of f xs c.rest c.more x h in
    record { made = k.made; there = subst (Among k.made) c.is (inr k.there); gives = k.gives }

pub record Source {A B : Type 0} (f : A → Option B) (y : B) : Type 0 where
  pub from : A
  pub gives : f from ≡ Some y

source_of : {A B : Type 0} (f : A → Option B) (xs : List A) (ys : List B) → each_of f xs ≡ Some ys → (y : B) → Among y ys → Source f y
source_of f [] ys e y h = absurd (subst (Among y) (sym (some_is e)) h)
source_of f (x ∷ xs) ys e y h =
    let c = each_cons f x xs ys e in
    elim (subst (Among y) (sym c.is) h) [ inl is ↦ record { from = x; gives = c.gives ∙ ap Some is } | inr k ↦ source_of f xs c.rest c.more y k ]

among_flat : {A B : Type 0} (f : A → List B) (xs : List A) (x : A) (y : B) → Among x xs → Among y (f x) → Among y (flat_map f xs)
among_flat f [] x y h k = absurd h
among_flat f (z ∷ xs) x y (inl is) k = among_left (f z) (flat_map f xs) y (subst (λ w. Among y (f w)) (sym is) k)
among_flat f (z ∷ xs) x y (inr h) k = among_right (f z) (flat_map f xs) y (among_flat f xs x y h k)

-- ---- tables

pub entries_of : (folder : Folder) (t : NewTable) (f : TableFile) → table_in folder t ≡ Some f → table_at folder t.number t.size ≡ Some f.entries
entries_of folder t f e =
    let a = went (table_at folder t.number t.size) (λ es. Some (record { meta = t; entries = es })) f e in
    a.gives ∙ ap (λ (z : TableFile). Some z.entries) (some_is a.makes)

pub file_read : TablesAreRuns → (folder : Folder) (t : NewTable) (f : TableFile) → table_in folder t ≡ Some f → IsTableProper f → IsReadAs folder t f.entries
file_read runs folder t f e proper = runs t.size (folder (name_of (Table t.number))) f.entries (entries_of folder t f e) proper

-- ---- values

module _ (named : NamedAreRead) (folder : Folder) (metas : List BlobMeta) (blobs : List BlobFile) (read : each_of (blob_in folder) metas ≡ Some blobs) (spelled : AllByRecursion (IsSpelled folder) blobs) where
  file_is : (b : BlobFile) → Among b blobs → (bytes : List ℕ) × (folder (name_of (Blob b.meta.number)) ≡ Some bytes) × IsBlobFile bytes b.records
  file_is b there =
      let s = source_of (blob_in folder) metas blobs read b there in
      let own : b.meta ≡ s.from = blob_of folder s.from b s.gives in
      let a = went (records_at folder s.from.number) (λ rs. Some (record { meta = s.from; records = rs })) b s.gives in
      let f = went (file folder (Blob s.from.number)) (λ bytes. result_ok (file_in bytes)) a.from a.gives in
      let at : folder (name_of (Blob b.meta.number)) ≡ Some f.from = ap (λ (m : BlobMeta). folder (name_of (Blob m.number))) own ∙ f.gives in
      (f.from, at, subst (λ (o : Option (List ℕ)). IfSome o (λ bytes. IsBlobFile bytes b.records)) at (all_at (IsSpelled folder) blobs b spelled there))

  -- what an index resolves to is read
  pub value_read : (key : List ℕ) (index : BlobIndex) (value : List ℕ) → resolved (records_by blobs) key index ≡ Some value → read_value key index (folder (name_of (Blob index.file))) ≡ Ok value
  value_read key index value e =
      let a = went (records_by blobs index.file) (value_in key index) value e in
      let b = went (find (λ b. b.meta.number == index.file) blobs) (λ b. Some b.records) a.from a.gives in
      let r = went (find (is_named key index) (blobs_of a.from)) (λ r. Some r.value) value a.makes in
      let number : b.from.meta.number ≡ index.file = eqb-true b.from.meta.number index.file (find_passes (λ b. b.meta.number == index.file) blobs b.from b.gives) in
      let (bytes, at, is) = file_is b.from (to_among blobs b.from (find_there (λ b. b.meta.number == index.file) blobs b.from b.gives)) in
      let own : IsBlobFile bytes a.from = subst (IsBlobFile bytes) (some_is b.makes) is in
      ap (read_value key index) (ap (λ n. folder (name_of (Blob n))) (sym number) ∙ at) ∙ named bytes a.from key index r.from own r.gives ∙ ap (λ v. Ok v) (some_is r.makes)

  -- what an entry is read to put is what it puts
  pub put_is : (k : Kind) (e : Entry) → e.key.kind ≡ k → (put q : Option (List ℕ)) → IsPutBy folder k e put → put_of (records_by blobs) k e ≡ Some q → put ≡ q
  put_is Deletion e is put q h g = h ∙ some_is g
  put_is Value e is put q h g = h ∙ some_is g
  put_is BlobRef e is put q h g =
      let a = went (index_of e) (λ index. resolved (records_by blobs) e.key.user index then λ value. Some (Some value)) q g in
      let own : index_of e ≡ Some h.named.index = ap (λ k. index_in k e.value) is ∙ ap result_ok h.named.index_is in
      let same : a.from ≡ h.named.index = some_is (sym a.gives ∙ own) in
      let b = went (resolved (records_by blobs) e.key.user a.from) (λ value. Some (Some value)) q a.makes in
      let there : read_value e.key.user h.named.index (folder (name_of (Blob h.named.index.file))) ≡ Ok b.from =
      subst (λ (i : BlobIndex). read_value e.key.user i (folder (name_of (Blob i.file))) ≡ Ok b.from) same (value_read e.key.user a.from b.from b.gives) in
      h.put_is ∙ ap Some (ok_is (sym h.named.read ∙ there)) ∙ some_is b.makes

-- ---- no damage

module _ (runs : TablesAreRuns) (named : NamedAreRead) (folder : Folder) (v : View) (seq : ℕ) (m : Map) (g : Gives folder v seq m) where
  -- a table of the version is read
  table_read : (t : NewTable) → Contains v.version.tables t → (f : TableFile) × Among f g.tables × IsReadAs folder t f.entries
  table_read t c =
      let k = given_of (table_in folder) v.version.tables g.tables g.read_tables t (to_among v.version.tables t c) in
      (k.made, k.there, file_read runs folder t k.made k.gives (all_at IsTableProper g.tables k.made g.proper k.there))

  no_bad_table : (name : Name) → IsBadTable folder v.version.tables name → ⊥
  no_bad_table name d = let (f, there, read) = table_read d.table d.there in d.no_table f.entries read

  no_bad_blob : (name : Name) → IsBadBlob folder v.version.tables name → ⊥
  no_bad_blob name d =
      let (f, there, read) = table_read d.table d.there in
      let same : d.entries ≡ f.entries = ok_is (sym d.read ∙ read) in
      let among : Among d.entry f.entries = subst (Among d.entry) same (to_among d.entries d.entry d.among) in
      let held : Records = records_by g.blobs in
      let k = given_of (revision_of held) (table_entries g.tables) g.found g.resolve d.entry (among_flat (λ t. t.entries) g.tables f d.entry there among) in
      let p = went (put_of held d.entry.key.kind d.entry) (λ put. Some (record { key = d.entry.key.user; seq = d.entry.key.seq; put = put })) k.made k.gives in
      let put : put_of held BlobRef d.entry ≡ Some p.from = ap (λ k. put_of held k d.entry) (sym d.lacks.kind) ∙ p.gives in
      let lacks = d.lacks.lacks in
      let a = went (index_of d.entry) (λ index. resolved held d.entry.key.user index then λ value. Some (Some value)) p.from put in
      let own : index_of d.entry ≡ Some lacks.index = ap (λ k. index_in k d.entry.value) d.lacks.kind ∙ ap result_ok lacks.index_is in
      let same_index : a.from ≡ lacks.index = some_is (sym a.gives ∙ own) in
      let b = went (resolved held d.entry.key.user a.from) (λ value. Some (Some value)) p.from a.makes in
      let value : read_value d.entry.key.user lacks.index (folder (name_of (Blob lacks.index.file))) ≡ Ok b.from =
      subst (λ (i : BlobIndex). read_value d.entry.key.user i (folder (name_of (Blob i.file))) ≡ Ok b.from) same_index
      (value_read named folder v.version.blobs g.blobs g.read_blobs g.spelled d.entry.key.user a.from b.from b.gives) in
      lacks.not_read b.from (ap (λ (n : Name). read_value d.entry.key.user lacks.index (folder n)) lacks.name_is ∙ value)

  pub no_damage : (name : Name) → IsDamaged folder v.version name → ⊥
  no_damage name (inl d) = no_bad_table name d
  no_damage name (inr d) = no_bad_blob name d

pub given_whole : TablesAreRuns → NamedAreRead → GivenAreWhole
given_whole runs named folder v seq m name g d = no_damage runs named folder v seq m g name d
