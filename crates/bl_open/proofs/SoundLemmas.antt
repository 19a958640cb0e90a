-- What is held is sound with one batch more.
use Rattle.std.proofs.Common.{◌≡◌, ℕ, ◌+◌, ◌≤◌, List, [], ◌∷◌, ◌++◌, length, map, sym, ◌∙◌, ap, subst, arith, Option, Some, refl, append_assoc, append-nil}
use Rattle.std.proofs.lemmas.Grind.{flat_map-append}
use Rattle.std.specs.Prelude.{◌<◌, ◌==◌, ◌&&◌, Bool, true, false, max, flat_map, option_and_then}
use Rattle.std.specs.List.{AllByRecursion, IsDistinct, fold}
use Rattle.bl_code.specs.Order.{same_bytes}
use Rattle.bl_out.specs.Values.{same_revision}
use Rattle.bl_folder.specs.Entries.{records_by}
use Rattle.bl_site.specs.Disk.{Folder, written_of}
use Rattle.bl_names.specs.declared.name.FileName.TheVariants.{Table}
use Rattle.bl_entry.specs.declared.batch.Operation.{Operation}
use Rattle.bl_entry.specs.declared.key.Entry.{Entry}
use Rattle.bl_entry.specs.Batches.{Batch}
use Rattle.bl_entry.specs.Records.{batches_of, LastIsCounted}
use Rattle.bl_entry.specs.Revisions.{Map, Revision, AreUpTo, OperationsChangeMap, after_operations, revisions_from, revisions_of}
use Rattle.bl_edit.specs.declared.edit.NewTable.{NewTable}
use Rattle.bl_wal.specs.Held.{record_of}
use Rattle.bl_wal.specs.Laws.{LogsAreRead}
use Rattle.bl_out.specs.Files.{file}
use Rattle.bl_folder.specs.Holding.{BlobFile, Holding}
use Rattle.bl_out.specs.Tables.{TableFile, table_entries, table_in}
use Rattle.bl_entry.specs.Items.{each_of}
use Rattle.bl_out.specs.Files.{entries_in, of_size}
use Rattle.bl_out.specs.Finding.{◌then◌}
use Rattle.bl_out.specs.Values.{put_of, revision_of}
use Rattle.bl_folder.specs.Stands.{IsSound}
use Rattle.bl_out.specs.Tables.{IsAsNamed, greatest_of}
use Rattle.bl_code.proofs.Basics.{all_from}
use Rattle.bl_entry.proofs.ItemLemmas.{each_cons, each_from, some_is, went}
use Rattle.bl_open.specs.Steady.{accepted}
use Rattle.bl_open.specs.SteadyCalls.{with_batch}
use Rattle.bl_open.specs.SteadyLaws.{BatchesMakeMaps}
use Rattle.bl_open.proofs.BatchLemmas.{first_of, none_of}
use Rattle.bl_open.proofs.LeftLemmas.{lower, written_batches}
use Rattle.bl_open.proofs.CutLemmas.{whole_is}

-- ---- facts of each element

all_append : {A : Type 0} (P : A → Type 0) (xs ys : List A) → AllByRecursion P xs → AllByRecursion P ys → AllByRecursion P (xs ++ ys)
all_append P [] ys p q = q
all_append P (x ∷ xs) ys p q = (p.0, all_append P xs ys p.1 q)

all_unmapped : {A B : Type 0} (f : A → B) (P : B → Type 0) (xs : List A) → AllByRecursion P (map f xs) → AllByRecursion (λ x. P (f x)) xs
all_unmapped f P [] h = tt
all_unmapped f P (x ∷ xs) h = (h.0, all_unmapped f P xs h.1)

all_both : {A : Type 0} (P Q R : A → Type 0) (xs : List A) → ((x : A) → P x → Q x → R x) → AllByRecursion P xs → AllByRecursion Q xs → AllByRecursion R xs
all_both P Q R [] to p q = tt
all_both P Q R (x ∷ xs) to p q = (to x p.0 q.0, all_both P Q R xs to p.1 q.1)

all_flat : {A B : Type 0} (f : A → List B) (P : B → Type 0) (xs : List A) → AllByRecursion (λ x. AllByRecursion P (f x)) xs → AllByRecursion P (flat_map f xs)
all_flat f P [] h = tt
all_flat f P (x ∷ xs) h = all_append P (f x) (flat_map f xs) h.0 (all_flat f P xs h.1)

all_given : {A B : Type 0} (f : A → Option B) (P : A → Type 0) (Q : B → Type 0) (xs : List A) (ys : List B) → ((x : A) (y : B) → f x ≡ Some y → P x → Q y) → each_of f xs ≡ Some ys
    → AllByRecursion P xs → AllByRecursion Q ys
all_given f P Q [] ys to e h = subst (AllByRecursion Q) (some_is e) tt
all_given f P Q (x ∷ xs) ys to e h =
    let c = each_cons f x xs ys e in
    subst (AllByRecursion Q) c.is (to x c.first c.gives h.0, all_given f P Q xs c.rest to c.more h.1)

distinct_append : {A : Type 0} (same : A → A → Bool) (xs ys : List A) → IsDistinct same xs → IsDistinct same ys → AllByRecursion (λ x. AllByRecursion (λ y. same x y ≡ false) ys) xs → IsDistinct same (xs ++ ys)
unfolding IsDistinct
distinct_append same [] ys p q r = q
distinct_append same (x ∷ xs) ys p q r = (all_append (λ y. same x y ≡ false) xs ys p.0 r.0, distinct_append same xs ys p.1 q r.1)

-- revisions of two sequences are not the same
not_same : (a b : Revision) → a.seq < b.seq → same_revision a b ≡ false
not_same a b less = by_key (same_bytes a.key b.key) (a.seq == b.seq) (eqb-false a.seq b.seq less)
  where
    by_key : (k n : Bool) → n ≡ false → (k && n) ≡ false
    by_key true n none = none
    by_key false n none = refl

    eqb-false : (m n : ℕ) → m < n → (m == n) ≡ false
    eqb-false m n lt = grind (arith, lt)

-- ---- sequences of operations

from_on : (ops : List Operation) (seq least : ℕ) → least ≤ seq → AllByRecursion (λ (e : Revision). least ≤ e.seq) (revisions_from seq ops)
unfolding revisions_from
from_on [] seq least le = tt
from_on (o ∷ ops) seq least le = (le, from_on ops (seq + 1) least (omega (arith, le)))

up_to_last : (ops : List Operation) (seq most : ℕ) → seq + length ops ≤ most + 1 → AllByRecursion (λ (e : Revision). e.seq ≤ most) (revisions_from seq ops)
unfolding revisions_from
up_to_last [] seq most le = tt
up_to_last (o ∷ ops) seq most le = (omega (arith, le), up_to_last ops (seq + 1) most (omega (arith, le)))

distinct_from : (ops : List Operation) (seq : ℕ) → IsDistinct same_revision (revisions_from seq ops)
unfolding revisions_from IsDistinct
distinct_from [] seq = tt
distinct_from (o ∷ ops) seq = (
  all_from _ _ (revisions_from (seq + 1) ops) (λ e le. not_same (record { key = o.key; seq = seq; put = o.put }) e (omega (arith, le))) (from_on ops (seq + 1) (seq + 1) (omega arith)),
  distinct_from ops (seq + 1),
)

-- those of batches that begin behind a sequence
batches_up_to : (records : List (List ℕ)) (before last : ℕ) (batches : List Batch) → batches_of records before ≡ Some (batches, last)
    → (before ≤ last) × AllByRecursion (λ (e : Revision). e.seq ≤ last) (revisions_of batches)
batches_up_to [] before last batches e =
    let none = none_of before last batches e in
    let same = none.1 in
    (omega (arith, same), subst (λ (bs : List Batch). AllByRecursion (λ (r : Revision). r.seq ≤ last) (revisions_of bs)) (sym none.0) tt)
batches_up_to (bytes ∷ records) before last batches e =
    let f = first_of bytes records before last batches e in
    let more = batches_up_to records (before + length f.b.operations) last f.more f.rest in
    let behind = f.behind in
    let le = more.0 in (
      omega (arith, le),
      subst (λ (bs : List Batch). AllByRecursion (λ (r : Revision). r.seq ≤ last) (revisions_of bs)) (sym f.is)
          (all_append (λ (r : Revision). r.seq ≤ last) (revisions_from f.b.first f.b.operations) (revisions_of f.more) (up_to_last f.b.operations f.b.first last (omega (arith, behind, le))) more.1),
    )

-- ---- sequences of tables

fold_up : (ns : List ℕ) (a : ℕ) → (a ≤ fold max a ns) × AllByRecursion (λ n. n ≤ fold max a ns) ns
fold_up [] a = (omega arith, tt)
fold_up (n ∷ ns) a =
    let rest = fold_up ns (max a n) in
    let le = rest.0 in
    (omega (arith, le), (omega (arith, le), rest.1))

greatest_up : (ns : List ℕ) (m : ℕ) → greatest_of ns ≡ Some m → AllByRecursion (λ n. n ≤ m) ns
greatest_up [] m e = absurd cc
greatest_up (n ∷ ns) m e = subst (λ (k : ℕ). AllByRecursion (λ i. i ≤ k) (n ∷ ns)) (some_is e) (fold_up ns n)

meta_of : (folder : Folder) (t : NewTable) (x : TableFile) → table_in folder t ≡ Some x → x.meta ≡ t
meta_of folder t x e =
    let a = went (file folder (Table t.number) then of_size t.size then entries_in) (λ es. Some (record { meta = t; entries = es })) x e in
    sym (ap (λ (y : TableFile). y.meta) (some_is a.makes))

-- no entry of a table is above the manifest's last sequence
tables_up_to : (folder : Folder) (h : Holding) (last : ℕ) → each_of (table_in folder) h.live.version.tables ≡ Some h.tables → AllByRecursion IsAsNamed h.tables
    → AllByRecursion (λ t. t.most_seq ≤ last) h.live.version.tables → AllByRecursion (λ e. e.key.seq ≤ last) (table_entries h.tables)
tables_up_to folder h last there named behind =
    let metas : map (λ (t : TableFile). t.meta) h.tables ≡ h.live.version.tables = each_from (table_in folder) (λ (t : TableFile). t.meta) h.live.version.tables h.tables (meta_of folder) there in
    let low = all_unmapped (λ (t : TableFile). t.meta) (λ t. t.most_seq ≤ last) h.tables (subst (AllByRecursion (λ t. t.most_seq ≤ last)) (sym metas) behind) in
    all_flat (λ (t : TableFile). t.entries) (λ e. e.key.seq ≤ last) h.tables
    (all_both IsAsNamed (λ t. t.meta.most_seq ≤ last) _ h.tables
    (λ t is le. all_from _ _ t.entries (λ e less. omega (arith, less, le)) (all_unmapped (λ e. e.key.seq) (λ n. n ≤ t.meta.most_seq) t.entries (greatest_up (map (λ e. e.key.seq) t.entries) t.meta.most_seq is.most)))
    named low)

revision_up : (blobs : List BlobFile) (last : ℕ) (e : Entry) (r : Revision) → revision_of (records_by blobs) e ≡ Some r → e.key.seq ≤ last → r.seq ≤ last
revision_up blobs last e r is le =
    let a = went (put_of (records_by blobs) e.key.kind e) (λ put. Some (record { key = e.key.user; seq = e.key.seq; put = put })) r is in
    let same : e.key.seq ≡ r.seq = ap (λ (x : Revision). x.seq) (some_is a.makes) in
    omega (arith, same, le)

-- no entry of what is held is above its last sequence
pub up_to : (folder : Folder) (h : Holding) (es : List Revision) (m : Map) (records : List (List ℕ)) → each_of (table_in folder) h.live.version.tables ≡ Some h.tables
    → batches_of records h.live.standing.last_sequence ≡ Some (h.batches, h.last) → IsSound h es m → AreUpTo h.last es
up_to folder h es m records there are sound =
    let from = went (each_of (revision_of (records_by h.blobs)) (table_entries h.tables)) (λ rs. Some (rs ++ revisions_of h.batches)) es sound.resolve in
    let batches = batches_up_to records h.live.standing.last_sequence h.last h.batches are in
    let le = batches.0 in
    let low = tables_up_to folder h h.last there sound.tables (all_from _ _ h.live.version.tables (λ t less. omega (arith, less, le)) sound.behind) in
    let tables = all_given (revision_of (records_by h.blobs)) (λ e. e.key.seq ≤ h.last) (λ (r : Revision). r.seq ≤ h.last) (table_entries h.tables) from.from (revision_up h.blobs h.last) from.gives low in
    subst (AreUpTo h.last) (some_is from.makes) (all_append (λ (r : Revision). r.seq ≤ h.last) from.from (revisions_of h.batches) tables batches.1)

-- ---- one batch more

revisions_more : (batches : List Batch) (b : Batch) → revisions_of (batches ++ b ∷ []) ≡ revisions_of batches ++ revisions_from b.first b.operations
revisions_more batches b =
    flat_map-append (λ (x : Batch). revisions_from x.first x.operations) batches (b ∷ []) ∙ ap (λ r. revisions_of batches ++ r) (append-nil (revisions_from b.first b.operations))

pub sound_more : OperationsChangeMap → (h : Holding) (es : List Revision) (m : Map) (b : Batch) → AreUpTo h.last es → IsSound h es m → b.first ≡ h.last + 1
    → IsSound (with_batch h b) (es ++ revisions_from (h.last + 1) b.operations) (after_operations b.operations m)
sound_more change h es m b low sound first =
    let from = went (each_of (revision_of (records_by h.blobs)) (table_entries h.tables)) (λ rs. Some (rs ++ revisions_of h.batches)) es sound.resolve in
    let new = revisions_from (h.last + 1) b.operations in
    let is : from.from ++ revisions_of (h.batches ++ b ∷ []) ≡ es ++ new =
    ap (λ r. from.from ++ r) (revisions_more h.batches b ∙ ap (λ n. revisions_of h.batches ++ revisions_from n b.operations) first)
    ∙ sym (append_assoc from.from (revisions_of h.batches) new) ∙ ap (λ r. r ++ new) (some_is from.makes) in
    let changed = change es h.last b.operations m low sound.map_is in
    record {
      proper = sound.proper;
      resolve = ap (option_and_then (λ rs. Some (rs ++ revisions_of (h.batches ++ b ∷ [])))) from.gives ∙ ap Some is;
      tables = sound.tables;
      totals = sound.totals;
      apart = sound.apart;
      accounts = sound.accounts;
      disjoint = sound.disjoint;
      newer = sound.newer;
      once = distinct_append same_revision es new sound.once (distinct_from b.operations (h.last + 1))
          (all_from _ _ es (λ x le. all_from _ _ new (λ y more. not_same x y (omega (arith, le, more))) (from_on b.operations (h.last + 1) (h.last + 1) (omega arith))) low);
      behind = sound.behind;
      placed = sound.placed;
      map_is = changed.0;
    }

pub batches_make_maps : LogsAreRead → LastIsCounted → OperationsChangeMap → BatchesMakeMaps
batches_make_maps read counted change maps s disk b t next =
    let h : Holding = s.holding in
    let k = t.backed in
    let made = k.makes (length h.batches) (omega arith) in
    let sound : IsSound h made.0 (maps (accepted s)) = subst (λ (x : Holding). IsSound x made.0 (maps (accepted s))) (whole_is read counted maps s disk k) made.1 in
    let low = up_to (written_of disk) h made.0 (maps (accepted s)) (lower maps s disk k ++ map record_of s.own) k.files.tables (written_batches maps s disk k read) sound in
    (made.0 ++ revisions_from (h.last + 1) b.operations, sound_more change h made.0 (maps (accepted s)) b low sound next.first)
