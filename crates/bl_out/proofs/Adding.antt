-- An entry more.
use Rattle.std.proofs.Common.{◌≡◌, ℕ, suc, ◌+◌, ◌<◌, ◌≤◌, nat_le, Bool, true, false, cond, List, [], ◌∷◌, ◌++◌, length, refl, sym, ◌∙◌, ap, subst, arith, Option, Some, None, append_assoc, append-nil, length-append}
use Rattle.std.specs.Prelude.{◌&&◌, ◌||◌, not, map, sum_by, IfSome, ◌^◌, if◌then◌else◌}
use Rattle.std.specs.List.{AllByRecursion}
use Rattle.std.proofs.lemmas.Bool.{false≢true, leb-false}
use Rattle.std.proofs.lemmas.Grind.{flat_map-append}
use Rattle.std.proofs.lemmas.List.{map-append}
use Rattle.std.proofs.lemmas.List.Sums.{sum_by-append, sum_by-cons}
use Rattle.bl_blob.specs.BlobFile.{IsRecord, Record, blobs_of, placed, size_of}
use Rattle.bl_entry.specs.declared.key.Kind.{Kind}
use Rattle.bl_entry.specs.declared.key.Kind.TheVariants.{Deletion, Value, BlobRef}
use Rattle.bl_entry.specs.declared.key.Entry.{Entry}
use Rattle.bl_entry.specs.Entries.{IsProper, IsValueOf, last_of}
use Rattle.bl_entry.specs.Keys.{max_value}
use Rattle.bl_edit.specs.Options.{Values}
use Rattle.bl_out.specs.Written.{Stored, Writes, nothing, inline, large, is_large, is_large_in, reference_to, stored_at, stored_of}
use Rattle.bl_out.specs.Outputs.{Out, OutBlob, OutTable, added, begins_blob, begins_table, blob_number, blob_size, blobs_for, close_table, entry_behind, goes_on, index_behind, made_for, new_blob, new_table, on_last, open_size, passes, put_entry, put_record, record_of, is_of_other, tables_for, written_for}
use Rattle.bl_out.specs.Made.{AddedIsMade, BegunIsMade, IsBlobFrom, IsMade, IsTableFrom, all_entries, all_stored}
use Rattle.bl_out.specs.States.{AscendTo}

-- ---- the same, a file at a time

abbrev AscendBy : {A : Type 0} → (A → ℕ) → List A → Type 0
AscendBy key [] = Unit {0}
AscendBy key (x ∷ xs) = AllByRecursion (λ y. key x < key y) xs × AscendBy key xs

pub record TableIn (from next : ℕ) (t : OutTable) : Type 0 where
  pub low : from ≤ t.number
  pub high : t.number < next
  pub some : 1 ≤ length t.entries

pub record BlobIn (from next size : ℕ) (b : OutBlob) : Type 0 where
  pub low : from ≤ b.number
  pub high : b.number < next
  pub some : 1 ≤ length b.records
  pub records : AllByRecursion IsRecord b.records
  pub closed : b.closed ≡ nat_le size (blob_size b.records)
  pub within : blob_size b.records < size + 2 ^ 25

-- ---- the last one

on_last_behind : {A : Type 0} (f : A → A) (xs : List A) (x : A) → on_last f (xs ++ x ∷ []) ≡ xs ++ f x ∷ []
on_last_behind f [] x = refl
on_last_behind f (y ∷ []) x = refl
on_last_behind f (y ∷ z ∷ xs) x = ap (λ ys. y ∷ ys) (on_last_behind f (z ∷ xs) x)

last_behind : {A : Type 0} (xs : List A) (x : A) → last_of (xs ++ x ∷ []) ≡ Some x
last_behind [] x = refl
last_behind (y ∷ []) x = refl
last_behind (y ∷ z ∷ xs) x = last_behind (z ∷ xs) x

-- a list is its front and its last element
pub record HasLast {A : Type 0} (xs : List A) (x : A) : Type 0 where
  pub front : List A
  pub is : xs ≡ front ++ x ∷ []

has_last : {A : Type 0} (xs : List A) (x : A) → last_of xs ≡ Some x → HasLast xs x
has_last [] x e = absurd cc
has_last (y ∷ []) x e = let same : y ≡ x = cc in record { front = []; is = ap (λ z. z ∷ []) same }
has_last (y ∷ z ∷ xs) x e = let r = has_last (z ∷ xs) x e in record { front = y ∷ r.front; is = ap (λ ys. y ∷ ys) r.is }

-- ---- what is written, behind what was

inline_last : (t : ℕ) (ss : List Stored) (es os : List Entry) (e : Entry) → Writes t ss es os → is_large t e ≡ false → Writes t ss (es ++ e ∷ []) (os ++ e ∷ [])
inline_last t ss es os e nothing small = inline small nothing
inline_last t ss es os e (inline {es = ds} {os = qs} s more) small = inline s (inline_last t ss ds qs e more small)
inline_last t ss es os e (large {records = rs} {es = ds} {os = qs} b k v more) small = large b k v (inline_last t rs ds qs e more small)

large_last : (t : ℕ) (ss : List Stored) (es os : List Entry) (e : Entry) (s : Stored) → Writes t ss es os → is_large t e ≡ true → s.key ≡ e.key.user → s.value ≡ e.value
    → Writes t (ss ++ s ∷ []) (es ++ e ∷ []) (os ++ reference_to s.index e ∷ [])
large_last t ss es os e s nothing big key value = large big key value nothing
large_last t ss es os e s (inline {es = ds} {os = qs} c more) big key value = inline c (large_last t ss ds qs e s more big key value)
large_last t ss es os e s (large {records = rs} {es = ds} {os = qs} b k v more) big key value = large b k v (large_last t rs ds qs e s more big key value)

placed_behind : (place : ℕ) (rs : List Record) (r : Record) → placed place (rs ++ r ∷ []) ≡ placed place rs ++ record { offset = place + sum_by size_of rs + 32 + length r.key; key = r.key; value = r.value } ∷ []
unfolding placed
placed_behind place [] r = let e : place + 32 + length r.key ≡ place + 0 + 32 + length r.key = omega arith in ap (λ n. record { offset = n; key = r.key; value = r.value } ∷ []) e
placed_behind place (x ∷ rs) r =
    let total = sum_by-cons size_of x rs in
    let e : place + size_of x + sum_by size_of rs + 32 + length r.key ≡ place + sum_by size_of (x ∷ rs) + 32 + length r.key = omega (arith, total) in
    ap (λ qs. record { offset = place + 32 + length x.key; key = x.key; value = x.value } ∷ qs)
    (placed_behind (place + size_of x) rs r ∙ ap (λ n. placed (place + size_of x) rs ++ record { offset = n; key = r.key; value = r.value } ∷ []) e)

stored_behind : (file : ℕ) (rs : List Record) (r : Record) → stored_of file (rs ++ r ∷ []) ≡ stored_of file rs ++ stored_at file (record { offset = 30 + sum_by size_of rs + 32 + length r.key; key = r.key; value = r.value }) ∷ []
stored_behind file rs r = ap (map (stored_at file)) (placed_behind 30 rs r) ∙ map-append (stored_at file) (blobs_of rs) (record { offset = 30 + sum_by size_of rs + 32 + length r.key; key = r.key; value = r.value } ∷ [])

-- ---- the tables

closing_keeps : (ts : List OutTable) → all_entries (on_last close_table ts) ≡ all_entries ts
closing_keeps [] = refl
closing_keeps (t ∷ []) = refl
closing_keeps (t ∷ u ∷ ts) = ap (λ es. t.entries ++ es) (closing_keeps (u ∷ ts))

put_behind : (w : Entry) (front : List OutTable) (t : OutTable) → all_entries (front ++ put_entry w t ∷ []) ≡ all_entries (front ++ t ∷ []) ++ w ∷ []
put_behind w front t =
    flat_map-append (λ (u : OutTable). u.entries) front (put_entry w t ∷ [])
    ∙ ap (λ es. all_entries front ++ es) (append-nil (t.entries ++ w ∷ []) ∙ ap (λ es. es ++ w ∷ []) (sym (append-nil t.entries)))
    ∙ sym (append_assoc (all_entries front) (t.entries ++ []) (w ∷ []))
    ∙ ap (λ es. es ++ w ∷ []) (sym (flat_map-append (λ (u : OutTable). u.entries) front (t ∷ [])))

pub record Passed {A : Type 0} (p : A → Bool) (o : Option A) : Type 0 where
  pub it : A
  pub is : o ≡ Some it
  pub passed : p it ≡ true

passed : {A : Type 0} (p : A → Bool) (o : Option A) → passes p o ≡ true → Passed p o
passed p None h = absurd (false≢true h)
passed p (Some x) h = record { it = x; is = refl; passed = h }

from_not : (b : Bool) → not b ≡ false → b ≡ true
from_not true h = refl
from_not false h = absurd (false≢true (sym h))

from_not_true : (b : Bool) → not b ≡ true → b ≡ false
from_not_true true h = absurd (false≢true h)
from_not_true false h = refl

put_at_last : (w : Entry) (ts : List OutTable) (t : OutTable) → HasLast ts t → all_entries (on_last (put_entry w) ts) ≡ all_entries ts ++ w ∷ []
put_at_last w ts t l =
    ap (λ us. all_entries (on_last (put_entry w) us)) l.is ∙ ap all_entries (on_last_behind (put_entry w) l.front t) ∙ put_behind w l.front t ∙ ap (λ us. all_entries us ++ w ∷ []) (sym l.is)

tables_put : (next : ℕ) (o : Out) (e w : Entry) (b : Bool) → begins_table o e ≡ b → all_entries (on_last (put_entry w) (if b then on_last close_table o.tables ++ new_table next ∷ [] else o.tables)) ≡ all_entries o.tables ++ w ∷ []
tables_put next o e w true t =
    ap all_entries (on_last_behind (put_entry w) (on_last close_table o.tables) (new_table next)) ∙ put_behind w (on_last close_table o.tables) (new_table next)
    ∙ ap (λ es. es ++ w ∷ []) (flat_map-append (λ (u : OutTable). u.entries) (on_last close_table o.tables) (new_table next ∷ []) ∙ append-nil (all_entries (on_last close_table o.tables)) ∙ closing_keeps o.tables)
tables_put next o e w false f =
    let p = passed (goes_on o e) (last_of o.tables) (from_not (passes (goes_on o e) (last_of o.tables)) f) in
    put_at_last w o.tables p.it (has_last o.tables p.it p.is)

-- ---- the blob files

abbrev stored_now : OutBlob → Entry → Stored
stored_now b e = record { key = e.key.user; value = e.value; index = index_behind b e }

put_stored : (options : Values) (e : Entry) (front : List OutBlob) (b : OutBlob) → all_stored (front ++ put_record options e b ∷ []) ≡ all_stored (front ++ b ∷ []) ++ stored_now b e ∷ []
put_stored options e front b =
    flat_map-append (λ (c : OutBlob). stored_of c.number c.records) front (put_record options e b ∷ [])
    ∙ ap (λ ss. all_stored front ++ ss) (append-nil (stored_of b.number (b.records ++ record_of e ∷ [])) ∙ stored_behind b.number b.records (record_of e) ∙ ap (λ ss. ss ++ stored_now b e ∷ []) (sym (append-nil (stored_of b.number b.records))))
    ∙ sym (append_assoc (all_stored front) (stored_of b.number b.records ++ []) (stored_now b e ∷ []))
    ∙ ap (λ ss. ss ++ stored_now b e ∷ []) (sym (flat_map-append (λ (c : OutBlob). stored_of c.number c.records) front (b ∷ [])))

-- the blob file that takes the record: a new one, or the last one
pub record Takes (next size : ℕ) (o : Out) (bs : List OutBlob) (b : OutBlob) : Type 0 where
  pub front : List OutBlob
  pub is : bs ≡ front ++ b ∷ []
  pub last : last_of bs ≡ Some b
  pub same : all_stored bs ≡ all_stored o.blobs

blob_takes : (options : Values) (e : Entry) (next size : ℕ) (o : Out) (bs : List OutBlob) (b : OutBlob) → Takes next size o bs b → all_stored (on_last (put_record options e) bs) ≡ all_stored o.blobs ++ stored_now b e ∷ []
blob_takes options e next size o bs b t =
    ap (λ cs. all_stored (on_last (put_record options e) cs)) t.is ∙ ap all_stored (on_last_behind (put_record options e) t.front b) ∙ put_stored options e t.front b
    ∙ ap (λ ss. ss ++ stored_now b e ∷ []) (ap all_stored (sym t.is) ∙ t.same)

takes_new : (next size n : ℕ) (o : Out) → Takes next size o (o.blobs ++ new_blob n ∷ []) (new_blob n)
unfolding placed
takes_new next size n o = record {
  front = o.blobs;
  is = refl;
  last = last_behind o.blobs (new_blob n);
  same = flat_map-append (λ (c : OutBlob). stored_of c.number c.records) o.blobs (new_blob n ∷ []) ∙ append-nil (all_stored o.blobs);
}

takes_last : (next size : ℕ) (o : Out) (b : OutBlob) → last_of o.blobs ≡ Some b → Takes next size o o.blobs b
takes_last next size o b is = let l = has_last o.blobs b is in record { front = l.front; is = l.is; last = is; same = refl }

-- ---- bounds

all_on_last : {A : Type 0} (P Q : A → Type 0) (f : A → A) (xs : List A) → ((x : A) → P x → Q x) → ((x : A) → P x → Q (f x)) → AllByRecursion P xs → AllByRecursion Q (on_last f xs)
all_on_last P Q f [] to at h = tt
all_on_last P Q f (x ∷ []) to at h = (at x h.0, tt)
all_on_last P Q f (x ∷ y ∷ xs) to at h = (to x h.0, all_on_last P Q f (y ∷ xs) to at h.1)

all_behind : {A : Type 0} (P : A → Type 0) (xs : List A) (x : A) → AllByRecursion P xs → P x → AllByRecursion P (xs ++ x ∷ [])
all_behind P [] x h p = (p, tt)
all_behind P (y ∷ xs) x h p = (h.0, all_behind P xs x h.1 p)

all_to : {A : Type 0} (P Q : A → Type 0) (xs : List A) → ((x : A) → P x → Q x) → AllByRecursion P xs → AllByRecursion Q xs
all_to P Q [] to h = tt
all_to P Q (x ∷ xs) to h = (to x h.0, all_to P Q xs to h.1)

all_front : {A : Type 0} (P : A → Type 0) (xs : List A) (x : A) → AllByRecursion P (xs ++ x ∷ []) → AllByRecursion P xs × P x
all_front P [] x h = (tt, h.0)
all_front P (y ∷ xs) x h = let r = all_front P xs x h.1 in ((h.0, r.0), r.1)

ascend_on_last : {A : Type 0} (key : A → ℕ) (f : A → A) (xs : List A) → ((x : A) → key (f x) ≡ key x) → AscendBy key xs → AscendBy key (on_last f xs)
ascend_on_last key f [] same h = tt
ascend_on_last key f (x ∷ []) same h = (tt, tt)
ascend_on_last key f (x ∷ y ∷ xs) same h =
    (all_on_last (λ z. key x < key z) (λ z. key x < key z) f (y ∷ xs) (λ z lt. lt) (λ z lt. subst (λ (n : ℕ). key x < n) (sym (same z)) lt) h.0, ascend_on_last key f (y ∷ xs) same h.1)

ascend_behind : {A : Type 0} (key : A → ℕ) (xs : List A) (x : A) → AscendBy key xs → AllByRecursion (λ y. key y < key x) xs → AscendBy key (xs ++ x ∷ [])
ascend_behind key [] x h below = (tt, tt)
ascend_behind key (y ∷ xs) x h below = (all_behind (λ z. key y < key z) xs x h.0 below.0, ascend_behind key xs x h.1 below.1)

length_on_last : {A : Type 0} (f : A → A) (xs : List A) → length (on_last f xs) ≡ length xs
length_on_last f [] = refl
length_on_last f (x ∷ []) = refl
length_on_last f (x ∷ y ∷ xs) = ap suc (length_on_last f (y ∷ xs))

-- an entry more in one of the tables
module _ (from next more : ℕ) (le : from ≤ next) where
  table_put : (w : Entry) (t : OutTable) → (from ≤ t.number) → (t.number < next + more) → TableIn from (next + more) (put_entry w t)
  table_put w t low high = let long : length (t.entries ++ w ∷ []) ≡ length t.entries + 1 = length-append t.entries (w ∷ []) in record { low = low; high = high; some = omega (arith, long) }

  table_more : (t : OutTable) → TableIn from next t → TableIn from (next + more) t
  table_more t h = let high : t.number < next = h.high in record { low = h.low; high = omega arith; some = h.some }

  tables_from : (o : Out) (e w : Entry) (b : Bool) → begins_table o e ≡ b → cond b 1 0 ≤ more → AllByRecursion (TableIn from next) o.tables
      → AllByRecursion (TableIn from (next + more)) (on_last (put_entry w) (if b then on_last close_table o.tables ++ new_table next ∷ [] else o.tables))
  tables_from o e w true t drawn all =
      subst (AllByRecursion (TableIn from (next + more))) (sym (on_last_behind (put_entry w) (on_last close_table o.tables) (new_table next)))
      (all_behind (TableIn from (next + more)) (on_last close_table o.tables) (put_entry w (new_table next))
      (all_on_last (TableIn from next) (TableIn from (next + more)) close_table o.tables table_more (λ u h. let high : u.number < next = h.high in record { low = h.low; high = omega arith; some = h.some }) all)
      (table_put w (new_table next) le (omega arith)))
  tables_from o e w false f drawn all =
      all_on_last (TableIn from next) (TableIn from (next + more)) (put_entry w) o.tables table_more (λ u h. let high : u.number < next = h.high in table_put w u h.low (omega arith)) all

  tables_up : (o : Out) (e w : Entry) (b : Bool) → AllByRecursion (TableIn from next) o.tables → AscendBy (λ t. t.number) o.tables
      → AscendBy (λ t. t.number) (on_last (put_entry w) (if b then on_last close_table o.tables ++ new_table next ∷ [] else o.tables))
  tables_up o e w true all up =
      subst (AscendBy (λ (t : OutTable). t.number)) (sym (on_last_behind (put_entry w) (on_last close_table o.tables) (new_table next)))
      (ascend_behind (λ (t : OutTable). t.number) (on_last close_table o.tables) (put_entry w (new_table next)) (ascend_on_last (λ (t : OutTable). t.number) close_table o.tables (λ t. refl) up)
      (all_on_last (TableIn from next) (λ t. t.number < next) close_table o.tables (λ t h. h.high) (λ t h. h.high) all))
  tables_up o e w false all up = ascend_on_last (λ (t : OutTable). t.number) (put_entry w) o.tables (λ t. refl) up

one_table_stays : (next : ℕ) (o : Out) (e w : Entry) (b : Bool) → begins_table o e ≡ b → o.one_table ≡ true → IfSome (last_of o.tables) (λ t. t.closed ≡ false) → length o.tables ≤ 1 → length (on_last (put_entry w) (if b then on_last close_table o.tables ++ new_table next ∷ [] else o.tables)) ≤ 1
one_table_stays next o e w false f one opened le = let same : length (on_last (put_entry w) o.tables) ≡ length o.tables = length_on_last (put_entry w) o.tables in omega arith
one_table_stays next o e w true t one opened le = by o.tables (from_not_true (passes (goes_on o e) (last_of o.tables)) t) opened le
  where
    never : (u : OutTable) → goes_on o e u ≡ false → u.closed ≡ false → ⊥
    never u h c = false≢true (sym h ∙ (λ i. not (c i) && (one i || not (nat_le o.options.table_size (open_size u.entries) && is_of_other e u.entries))))

    by : (ts : List OutTable) → passes (goes_on o e) (last_of ts) ≡ false → IfSome (last_of ts) (λ t. t.closed ≡ false) → length ts ≤ 1 → length (on_last (put_entry w) (on_last close_table ts ++ record { number = next; entries = []; closed = false } ∷ [])) ≤ 1
    by [] h c k = omega arith
    by (u ∷ []) h c k = absurd (never u h c)
    by (u ∷ v ∷ ts) h c k = absurd (omega arith)

-- the last table is open behind an entry
last_is_open : (next : ℕ) (o : Out) (e w : Entry) (b : Bool) → begins_table o e ≡ b → IfSome (last_of (on_last (put_entry w) (if b then on_last close_table o.tables ++ new_table next ∷ [] else o.tables))) (λ t. t.closed ≡ false)
last_is_open next o e w true t =
    subst (λ (ts : List OutTable). IfSome (last_of ts) (λ u. u.closed ≡ false)) (sym (on_last_behind (put_entry w) (on_last close_table o.tables) (new_table next)))
    (subst (λ (l : Option OutTable). IfSome l (λ u. u.closed ≡ false)) (sym (last_behind (on_last close_table o.tables) (put_entry w (new_table next)))) refl)
last_is_open next o e w false f =
    let p = passed (goes_on o e) (last_of o.tables) (from_not (passes (goes_on o e) (last_of o.tables)) f) in
    let l = has_last o.tables p.it p.is in
    let opened : p.it.closed ≡ false = opened_by p.it.closed (o.one_table || not (nat_le o.options.table_size (open_size p.it.entries) && is_of_other e p.it.entries)) p.passed in
    subst (λ (ts : List OutTable). IfSome (last_of (on_last (put_entry w) ts)) (λ u. u.closed ≡ false)) (sym l.is)
    (subst (λ (ts : List OutTable). IfSome (last_of ts) (λ u. u.closed ≡ false)) (sym (on_last_behind (put_entry w) l.front p.it))
    (subst (λ (q : Option OutTable). IfSome q (λ u. u.closed ≡ false)) (sym (last_behind l.front (put_entry w p.it))) opened))
  where
    opened_by : (c d : Bool) → (not c && d) ≡ true → c ≡ false
    opened_by true d h = absurd (false≢true h)
    opened_by false d h = refl

-- ---- a record more

large_value : (t : ℕ) (k : Kind) (value : List ℕ) → is_large_in t k value ≡ true → IsValueOf k value → length value ≤ max_value
large_value t Deletion value h v = absurd (false≢true h)
large_value t Value value h v = v
large_value t BlobRef value h v = absurd (false≢true h)

-- the file that takes the record is open, behind files that are closed
pub record TakesIn (from next more size : ℕ) (o : Out) (bs : List OutBlob) (b : OutBlob) : Type 0 where
  pub takes : Takes next size o bs b
  pub fronts : AllByRecursion (BlobIn from (next + more) size) takes.front
  pub up : AscendBy (λ c. c.number) takes.front
  pub below : AllByRecursion (λ c. c.number < b.number) takes.front
  pub low : from ≤ b.number
  pub high : b.number < next + more
  pub records : AllByRecursion IsRecord b.records
  pub room : blob_size b.records ≤ size + 30

blob_more : (from next more size : ℕ) (b : OutBlob) → BlobIn from next size b → BlobIn from (next + more) size b
blob_more from next more size b h = let high : b.number < next = h.high in record { low = h.low; high = omega arith; some = h.some; records = h.records; closed = h.closed; within = h.within }

ascend_front : {A : Type 0} (key : A → ℕ) (xs : List A) (x : A) → AscendBy key (xs ++ x ∷ []) → AscendBy key xs × AllByRecursion (λ y. key y < key x) xs
ascend_front key [] x h = (tt, tt)
ascend_front key (y ∷ xs) x h = let r = ascend_front key xs x h.1 in let f = all_front (λ z. key y < key z) xs x h.0 in ((f.0, r.0), (f.1, r.1))

takes_in_new : (from next more size n : ℕ) (o : Out) → from ≤ next → next ≤ n → n < next + more → AllByRecursion (BlobIn from next size) o.blobs → AscendBy (λ b. b.number) o.blobs → TakesIn from next more size o (o.blobs ++ new_blob n ∷ []) (new_blob n)
unfolding takes_new
takes_in_new from next more size n o le low high all up = record {
  takes = takes_new next size n o;
  fronts = all_to (BlobIn from next size) (BlobIn from (next + more) size) o.blobs (λ b h. blob_more from next more size b h) all;
  up = up;
  below = all_to (BlobIn from next size) (λ c. c.number < n) o.blobs (λ b h. let lt : b.number < next = h.high in omega arith) all;
  low = omega arith;
  high = high;
  records = tt;
  room = omega arith;
}

takes_in_last : (from next more size : ℕ) (o : Out) (b : OutBlob) → last_of o.blobs ≡ Some b → b.closed ≡ false → AllByRecursion (BlobIn from next size) o.blobs → AscendBy (λ b. b.number) o.blobs → TakesIn from next more size o o.blobs b
takes_in_last from next more size o b is opened all up =
    let t : Takes next size o o.blobs b = takes_last next size o b is in
    let parts = all_front (BlobIn from next size) t.front b (subst (AllByRecursion (BlobIn from next size)) t.is all) in
    let ups = ascend_front (λ (c : OutBlob). c.number) t.front b (subst (AscendBy (λ (c : OutBlob). c.number)) t.is up) in
    let it : BlobIn from next size b = parts.1 in
    let high : b.number < next = it.high in
    let short : blob_size b.records < size = leb-false size (blob_size b.records) (sym it.closed ∙ opened) in
    record {
      takes = t;
      fronts = all_to (BlobIn from next size) (BlobIn from (next + more) size) t.front (λ c h. blob_more from next more size c h) parts.0;
      up = ups.0;
      below = ups.1;
      low = it.low;
      high = omega arith;
      records = it.records;
      room = omega arith;
    }

module _ (from next more : ℕ) (o : Out) (e : Entry) (bs : List OutBlob) (b : OutBlob) (t : TakesIn from next more o.options.blob_file_size o bs b) (fits : IsRecord (record_of e)) where
  put_is : on_last (put_record o.options e) bs ≡ t.takes.front ++ put_record o.options e b ∷ []
  put_is = ap (on_last (put_record o.options e)) t.takes.is ∙ on_last_behind (put_record o.options e) t.takes.front b

  blob_put : BlobIn from (next + more) o.options.blob_file_size (put_record o.options e b)
  blob_put =
      let long : length (b.records ++ record_of e ∷ []) ≡ length b.records + 1 = length-append b.records (record_of e ∷ []) in
      let total : sum_by size_of (b.records ++ record_of e ∷ []) ≡ sum_by size_of b.records + sum_by size_of (record_of e ∷ []) = sum_by-append size_of b.records (record_of e ∷ []) in
      let one : sum_by size_of (record_of e ∷ []) ≡ size_of (record_of e) + 0 = sum_by-cons size_of (record_of e) [] in
      let room : blob_size b.records ≤ o.options.blob_file_size + 30 = t.room in
      let key : length e.key.user ≤ 65535 = fits.key in
      let value : length e.value ≤ 16777216 = fits.value in
      record {
        low = t.low;
        high = t.high;
        some = omega (arith, long);
        records = all_behind IsRecord b.records (record_of e) t.records fits;
        closed = refl;
        within = omega (arith, total, one, room, key, value);
      }

  blobs_from : AllByRecursion (BlobIn from (next + more) o.options.blob_file_size) (on_last (put_record o.options e) bs)
  blobs_from =
      subst (AllByRecursion (BlobIn from (next + more) o.options.blob_file_size)) (sym put_is) (all_behind (BlobIn from (next + more) o.options.blob_file_size) t.takes.front (put_record o.options e b) t.fronts blob_put)

  blobs_up : AscendBy (λ c. c.number) (on_last (put_record o.options e) bs)
  blobs_up = subst (AscendBy (λ (c : OutBlob). c.number)) (sym put_is) (ascend_behind (λ (c : OutBlob). c.number) t.takes.front (put_record o.options e b) t.up t.below)

-- ---- from one form to the other

above : {A : Type 0} (low : ℕ) (key : A → ℕ) (ys : List A) → AllByRecursion (λ m. low < m) (map key ys) → AllByRecursion (λ y. low < key y) ys
above low key [] g = tt
above low key (y ∷ ys) g = (g.0, above low key ys g.1)

above_back : {A : Type 0} (low : ℕ) (key : A → ℕ) (ys : List A) → AllByRecursion (λ y. low < key y) ys → AllByRecursion (λ m. low < m) (map key ys)
above_back low key [] g = tt
above_back low key (y ∷ ys) g = (g.0, above_back low key ys g.1)

ascends : {A : Type 0} (next : ℕ) (key : A → ℕ) (xs : List A) → AscendTo next (map key xs) → AscendBy key xs × AllByRecursion (λ x. key x < next) xs
ascends next key [] h = (tt, tt)
ascends next key (x ∷ xs) h = let r = ascends next key xs h.2 in ((above (key x) key xs h.1, r.0), (h.0, r.1))

ascends_back : {A : Type 0} (next : ℕ) (key : A → ℕ) (xs : List A) → AscendBy key xs → AllByRecursion (λ x. key x < next) xs → AscendTo next (map key xs)
ascends_back next key [] h below = tt
ascends_back next key (x ∷ xs) h below = (below.0, above_back (key x) key xs h.0, ascends_back next key xs h.1 below.1)

all_both : {A : Type 0} (P Q R : A → Type 0) (xs : List A) → ((x : A) → P x → Q x → R x) → AllByRecursion P xs → AllByRecursion Q xs → AllByRecursion R xs
all_both P Q R [] to h k = tt
all_both P Q R (x ∷ xs) to h k = (to x h.0 k.0, all_both P Q R xs to h.1 k.1)

-- ---- the whole

pub begun_is_made : BegunIsMade
begun_is_made options one_table next range = record { options = range; writes = nothing; one = λ e. omega arith; last = tt; unsealed = refl; ordered = record { tables = tt; blobs = tt }; tables = tt; blobs = tt }

module _ (from next : ℕ) (o : Out) (e : Entry) (le : from ≤ next) (proper : IsProper e) (m : IsMade from next o) where
  abbrev more : ℕ
  more = made_for o e

  abbrev size : ℕ
  size = o.options.blob_file_size

  abbrev t : ℕ
  t = o.options.min_blob_size

  old_tables : AscendBy (λ u. u.number) o.tables × AllByRecursion (λ u. u.number < next) o.tables
  old_tables = ascends next (λ (u : OutTable). u.number) o.tables m.ordered.tables

  tables_in : AllByRecursion (TableIn from next) o.tables
  tables_in = all_both (IsTableFrom from) (λ u. u.number < next) (TableIn from next) o.tables (λ u h k. record { low = h.number; high = k; some = h.some }) m.tables old_tables.1

  old_blobs : AscendBy (λ b. b.number) o.blobs × AllByRecursion (λ b. b.number < next) o.blobs
  old_blobs = ascends next (λ (b : OutBlob). b.number) o.blobs m.ordered.blobs

  blobs_in : AllByRecursion (BlobIn from next size) o.blobs
  blobs_in = all_both (IsBlobFrom from size) (λ b. b.number < next) (BlobIn from next size) o.blobs (λ b h k. record { low = h.number; high = k; some = h.some; records = h.records; closed = h.closed; within = h.within }) m.blobs old_blobs.1

  table_drawn : cond (begins_table o e) 1 0 ≤ more
  table_drawn = omega arith

  -- the number of a new blob file
  number_for : (b : Bool) → more ≡ cond b 1 0 + 1 → (next ≤ (if b then next + 1 else next)) × ((if b then next + 1 else next) < next + more)
  number_for true d = (omega arith, omega arith)
  number_for false d = (omega arith, omega arith)

  taken : (c : Bool) → begins_blob o e ≡ c → is_large t e ≡ true → (b : OutBlob) × TakesIn from next more size o (if c then o.blobs ++ new_blob (blob_number next o e) ∷ [] else o.blobs) b
  taken true g big =
      let n = number_for (begins_table o e) (ap (λ c. cond (begins_table o e) 1 0 + cond c 1 0) g) in
      (new_blob (blob_number next o e), takes_in_new from next more size (blob_number next o e) o le n.0 n.1 blobs_in old_blobs.0)
  taken false g big =
      let opened : not (passes (λ b. not b.closed) (last_of o.blobs)) ≡ false = sym (ap (λ c. c && not (passes (λ b. not b.closed) (last_of o.blobs))) big) ∙ g in
      let p = passed (λ (b : OutBlob). not b.closed) (last_of o.blobs) (from_not (passes (λ b. not b.closed) (last_of o.blobs)) opened) in
      (p.it, takes_in_last from next more size o p.it p.is (from_not_true p.it.closed p.passed) blobs_in old_blobs.0)

  fits : is_large t e ≡ true → IsRecord (record_of e)
  fits big = record { some = proper.key.some; key = proper.key.no_longer; value = large_value t e.key.kind e.value big proper.value }

  writes_by : (b : Bool) → is_large t e ≡ b
      → Writes t (all_stored (if b then on_last (put_record o.options e) (blobs_for next o e) else o.blobs)) (o.given ++ e ∷ [])
      (all_entries (on_last (put_entry (if b then entry_behind (last_of (blobs_for next o e)) e else e)) (tables_for next o e)))
  writes_by false small =
      subst (Writes t (all_stored o.blobs) (o.given ++ e ∷ [])) (sym (tables_put next o e e (begins_table o e) refl)) (inline_last t (all_stored o.blobs) o.given (all_entries o.tables) e m.writes small)
  writes_by true big =
      let k = taken (begins_blob o e) refl big in
      let b : OutBlob = k.0 in
      let entry_is : reference_to (index_behind b e) e ≡ entry_behind (last_of (blobs_for next o e)) e = sym (ap (λ l. entry_behind l e) k.1.takes.last) in
      let last : Writes t (all_stored o.blobs ++ stored_now b e ∷ []) (o.given ++ e ∷ []) (all_entries o.tables ++ reference_to (index_behind b e) e ∷ []) = large_last t (all_stored o.blobs) o.given (all_entries o.tables) e (stored_now b e) m.writes big refl refl in
      subst (λ (ss : List Stored). Writes t ss (o.given ++ e ∷ []) (all_entries (on_last (put_entry (entry_behind (last_of (blobs_for next o e)) e)) (tables_for next o e)))) (sym (blob_takes o.options e next size o (blobs_for next o e) b k.1.takes))
      (subst (Writes t (all_stored o.blobs ++ stored_now b e ∷ []) (o.given ++ e ∷ [])) (sym (tables_put next o e (entry_behind (last_of (blobs_for next o e)) e) (begins_table o e) refl))
      (subst (λ (w : Entry). Writes t (all_stored o.blobs ++ stored_now b e ∷ []) (o.given ++ e ∷ []) (all_entries o.tables ++ w ∷ [])) entry_is last))

  blobs_by : (b : Bool) → is_large t e ≡ b → AllByRecursion (BlobIn from (next + more) size) (if b then on_last (put_record o.options e) (blobs_for next o e) else o.blobs) × AscendBy (λ c. c.number) (if b then on_last (put_record o.options e) (blobs_for next o e) else o.blobs)
  blobs_by false small = (all_to (BlobIn from next size) (BlobIn from (next + more) size) o.blobs (λ b h. blob_more from next more size b h) blobs_in, old_blobs.0)
  blobs_by true big =
      let k = taken (begins_blob o e) refl big in
      (blobs_from from next more o e (blobs_for next o e) k.0 k.1 (fits big), blobs_up from next more o e (blobs_for next o e) k.0 k.1 (fits big))

  abbrev tables_now : List OutTable
  tables_now = on_last (put_entry (written_for next o e)) (tables_for next o e)

  abbrev blobs_now : List OutBlob
  blobs_now = if is_large t e then on_last (put_record o.options e) (blobs_for next o e) else o.blobs

  new_tables : AllByRecursion (TableIn from (next + more)) tables_now
  new_tables = tables_from from next more le o e (written_for next o e) (begins_table o e) refl table_drawn tables_in

  new_blobs : AllByRecursion (BlobIn from (next + more) size) blobs_now
  new_blobs = (blobs_by (is_large t e) refl).0

  added_one : IsMade from (next + more) (added next o e)
  added_one = record {
    options = m.options;
    writes = writes_by (is_large t e) refl;
    one = λ only. one_table_stays next o e (written_for next o e) (begins_table o e) refl only m.last (m.one only);
    last = last_is_open next o e (written_for next o e) (begins_table o e) refl;
    unsealed = m.unsealed;
    ordered = record {
      tables = ascends_back (next + more) (λ (u : OutTable). u.number) tables_now
          (tables_up from next more le o e (written_for next o e) (begins_table o e) tables_in old_tables.0)
          (all_to (TableIn from (next + more)) (λ u. u.number < next + more) tables_now (λ u h. h.high) new_tables);
      blobs = ascends_back (next + more) (λ (b : OutBlob). b.number) blobs_now (blobs_by (is_large t e) refl).1
          (all_to (BlobIn from (next + more) size) (λ b. b.number < next + more) blobs_now (λ b h. h.high) new_blobs);
    };
    tables = all_to (TableIn from (next + more)) (IsTableFrom from) tables_now (λ u h. record { number = h.low; some = h.some }) new_tables;
    blobs = all_to (BlobIn from (next + more) size) (IsBlobFrom from size) blobs_now
        (λ b h. record { number = h.low; some = h.some; records = h.records; closed = h.closed; within = h.within }) new_blobs;
  }

pub added_is_made : AddedIsMade
added_is_made from next o e le proper m = added_one from next o e le proper m
