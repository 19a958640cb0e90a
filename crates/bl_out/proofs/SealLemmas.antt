-- What becomes of an output where a file is sealed.
use Rattle.std.proofs.Common.{◌≡◌, ◌≢◌, ℕ, zero, suc, ◌+◌, ◌-◌, ◌<◌, ◌≤◌, Bool, true, false, List, [], ◌∷◌, ◌++◌, length, get_or, drop, refl, sym, ◌∙◌, ap, subst, arith, inl, inr, ⊎_elim, Option, Some, None, append-nil, length-append}
use Rattle.std.specs.Prelude.{Decides, ◌⊎◌, map, nat_le, nat_lt, slice_get, IsSome, IsSomeAnd, Contains, Result, Ok, Err, IfOk, if◌then◌else◌}
use Rattle.std.specs.List.{AllByRecursion}
use Rattle.std.proofs.lemmas.Bool.{false≢true}
use Rattle.std.proofs.lemmas.List.{length-map}
use Rattle.std.specs.Str.{bytes_eq}
use Rattle.std.proofs.lemmas.Option.{slice_get_past}
use Rattle.std.proofs.lemmas.Slice.Eq.{bytes_eq-Decides}
use Rattle.std.proofs.lemmas.Bool.Decides.{nat_tests}
use Rattle.bl_site.specs.Disk.{Disk, File, Name}
use Rattle.bl_site.specs.Calls.{Syncs}
use Rattle.bl_site.specs.declared.site.Site.{Ghosts}
use Rattle.bl_names.specs.Names.{name_of}
use Rattle.bl_names.specs.declared.name.FileName.TheVariants.{Table, Blob}
use Rattle.bl_edit.specs.declared.edit.NewTable.{NewTable}
use Rattle.bl_edit.specs.declared.edit.BlobAddition.{BlobAddition}
use Rattle.bl_out.specs.Held.{HoldsFile, HoldsSealed, bytes_in, name_in}
use Rattle.bl_out.specs.Outputs.{Out, OutBlob, OutFile, OutTable, TableOf, BlobOf, IsSealedAs, close_blob, close_table, files_of, next_file, on_last, on_place, sealed_next}
use Rattle.bl_out.specs.declared.sealed.Sealed.{Sealed}
use Rattle.bl_out.specs.declared.sealed.Sealed.TheVariants as sealed
use Rattle.bl_out.specs.Quiet.{IsNoneOf}
use Rattle.bl_out.specs.States.{AreBlobs, AreDrawn, AreFilled, AreTables, AscendTo, Becomes, BlobHand, Hand, IsBlobClosedAs, IsClosedAs, IsOrdered, IsOut, State, names_of}
use Rattle.bl_out.specs.Steps.{IsNext, closed_blob, closed_last, sealed_one}
use Rattle.bl_out.proofs.BecomeLemmas.{all_at, becomes_as, becomes_same, becomes_then, not_blob, not_table, on_last_numbers, ordered_closed}
use Rattle.bl_out.proofs.HandLemmas.{blobs_count, ends_in_blob, ends_in_table, tables_count}
use Rattle.bl_out.proofs.FileLemmas.{HoldsFirst, all_to, some_is, still_there}
use Rattle.bl_out.proofs.StepLemmas.{first_holds, holds_first, tables_at_least, there_on}

-- ---- a file is synced

apart : (a b : Name) → (a ≡ b) ⊎ (a ≢ b)
apart a b = by (bytes_eq a b) (bytes_eq-Decides a b)
  where
    by : (t : Bool) → Decides t (a ≡ b) → (a ≡ b) ⊎ (a ≢ b)
    by true d = inl (d.0 refl)
    by false d = inr (λ same. false≢true (d.1 same))

module _ (name : Name) (old new : Disk) (synced : Syncs name old new) where
  -- what a file is now that was this one
  now_on : (f : OutFile) (file : File) → old (name_of (name_in f)) ≡ Some file → (new (name_of (name_in f)) ≡ Some file) ⊎ (new (name_of (name_in f)) ≡ Some (record { read = file.read; front = file.read; handed = [] }))
  now_on f file there = ⊎_elim
      (λ same.
      let is : synced.file ≡ file = some_is (sym synced.was ∙ ap old (sym same) ∙ there) in
      inr (ap new same ∙ synced.puts.at ∙ ap (λ (x : File). Some (record { read = x.read; front = x.read; handed = [] })) is))
      (λ differs. inl (synced.puts.others (name_of (name_in f)) differs ∙ there))
      (apart (name_of (name_in f)) name)

  file_stays : (f : OutFile) → HoldsFile old f → HoldsFile new f
  file_stays f h = ⊎_elim
      (λ same. record { file = h.file; there = same; read = h.read; written = h.written })
      (λ put. record { file = record { read = h.file.read; front = h.file.read; handed = [] }; there = put; read = h.read; written = append-nil h.file.read ∙ h.read })
      (now_on f h.file h.there)

  sealed_stays : (f : OutFile) → HoldsSealed old f → HoldsSealed new f
  sealed_stays f h = ⊎_elim
      (λ same. record { file = h.file; there = same; read = h.read; front = h.front; handed = h.handed })
      (λ put. record { file = record { read = h.file.read; front = h.file.read; handed = [] }; there = put; read = h.read; front = h.read; handed = refl })
      (now_on f h.file h.there)

  file_seals : (f : OutFile) → name ≡ name_of (name_in f) → HoldsFile old f → HoldsSealed new f
  file_seals f same h =
      let is : synced.file ≡ h.file = some_is (sym synced.was ∙ ap old same ∙ h.there) in
      let read : synced.file.read ≡ bytes_in f = ap (λ (x : File). x.read) is ∙ h.read in
      record { file = record { read = synced.file.read; front = synced.file.read; handed = [] }; there = ap new (sym same) ∙ synced.puts.at; read = read; front = read; handed = refl }

  all_stay : (fs : List OutFile) → AllByRecursion (HoldsFile old) fs → AllByRecursion (HoldsFile new) fs
  all_stay fs h = all_to (HoldsFile old) (HoldsFile new) fs file_stays h

  first_seals : (n : ℕ) (fs : List OutFile) → IsSomeAnd (slice_get fs n) (λ f. name ≡ name_of (name_in f)) → HoldsFirst old n fs → HoldsFirst new (suc n) fs
  unfolding HoldsFirst
  first_seals n [] next h = absurd next
  first_seals zero (f ∷ fs) next h = ((file_seals f next h.1.0, tt), all_stay fs h.1.1)
  first_seals (suc n) (f ∷ fs) next h =
      let more : HoldsFirst new (suc n) fs = first_seals n fs next (h.0.1, h.1) in
      ((sealed_stays f h.0.0, more.0), more.1)

-- ---- those that are not sealed are there

drop_more : {A : Type 0} (P : A → Type 0) (n m : ℕ) (xs : List A) → n ≤ m → AllByRecursion P (drop n xs) → AllByRecursion P (drop m xs)
drop_more {A = A} P zero m xs le all = behind m xs all
  where
    behind : (m : ℕ) (xs : List A) → AllByRecursion P xs → AllByRecursion P (drop m xs)
    behind zero xs all = all
    behind (suc m) [] all = tt
    behind (suc m) (x ∷ xs) all = behind m xs all.1
drop_more P (suc n) zero xs le all = absurd (omega arith)
drop_more P (suc n) (suc m) [] le all = tt
drop_more P (suc n) (suc m) (x ∷ xs) le all = drop_more P n m xs (omega arith) all

module _ {S : Type 0} (g : Ghosts S) (s : State) (next : ℕ) (old new : S) where
  -- the next file is synced
  pub one_seals : (name : Name) → ((o : Out) → IsOut o s → IsNext name o) → (g.shows → Syncs name (g.disk old) (g.disk new)) → (g.shows → g.certain old → g.certain new)
      → Becomes g next sealed_one s (record s { sealed = s.sealed + 1; failed = true }) old new
  one_seals name is_next synced certain = record {
    out = λ o is. record { options = is.options; one = is.one; tables = is.tables; blobs = is.blobs; drawn = is.drawn; sealed = ap (λ (n : ℕ). n + 1) is.sealed };
    holds = λ shown o is up held.
        let one : suc o.sealed ≡ o.sealed + 1 = omega arith in
        holds_first (g.disk new) (sealed_one o) (subst (λ (n : ℕ). HoldsFirst (g.disk new) n (files_of o)) one
        (first_seals name (g.disk old) (g.disk new) (synced shown) o.sealed (files_of o) (is_next o is) (first_holds (g.disk old) o held)));
    there = λ shown there.
        let on = there_on (g.disk old) (g.disk new) s (still_there name _ (g.disk old) (g.disk new) (synced shown).puts) there in (
          on.0,
          on.1,
          drop_more (λ (t : NewTable). IsSome (g.disk new (name_of (Table t.number)))) s.sealed (s.sealed + 1) s.tables (omega arith) on.2,
          drop_more (λ (b : BlobAddition). IsSome (g.disk new (name_of (Blob b.number)))) (s.sealed - length s.tables) (s.sealed + 1 - length s.tables) s.blobs (omega arith) on.3,
        );
    certain = certain;
  }

-- ---- which file is next

-- tests of places
is_less : (a b : ℕ) → a < b → nat_lt a b ≡ true
is_less a b less = grind (arith, nat_tests)

not_less : (a b : ℕ) → b ≤ a → nat_lt a b ≡ false
not_less a b le = grind (arith, nat_tests)

is_most : (a b : ℕ) → a ≤ b → nat_le a b ≡ true
is_most a b le = grind (arith, nat_tests)

not_most : (a b : ℕ) → b < a → nat_le a b ≡ false
not_most a b less = grind (arith, nat_tests)

place_beyond : {A : Type 0} (f : A → A) (k : ℕ) (xs : List A) → length xs ≤ k → on_place f k xs ≡ xs
place_beyond f k [] le = refl
place_beyond f zero (x ∷ xs) le = absurd (omega arith)
place_beyond f (suc k) (x ∷ xs) le = ap (λ ys. x ∷ ys) (place_beyond f k xs (omega arith))

place_last : {A : Type 0} (f : A → A) (k : ℕ) (xs : List A) → length xs ≡ k + 1 → on_place f k xs ≡ on_last f xs
place_last f k [] e = absurd (omega arith)
place_last f zero (x ∷ []) e = refl
place_last f zero (x ∷ y ∷ xs) e = absurd (omega arith)
place_last f (suc k) (x ∷ []) e = absurd (omega arith)
place_last f (suc k) (x ∷ y ∷ xs) e = ap (λ ys. x ∷ ys) (place_last f k (y ∷ xs) (omega arith))

-- where a file is closed, closing it changes nothing
tables_place : (ts : List OutTable) (ns : List NewTable) (h : Option Hand) (k : ℕ) → AreTables ts ns h → k < length ns → on_place close_table k ts ≡ ts
tables_place [] ns h k a less = refl
tables_place (t ∷ ts) [] h k a less = absurd (omega arith)
tables_place (t ∷ ts) (n ∷ ns) h zero a less = λ i. record t { closed = sym a.0.closed i } ∷ ts
tables_place (t ∷ ts) (n ∷ ns) h (suc k) a less = ap (λ us. t ∷ us) (tables_place ts ns h k a.1 (omega arith))

blobs_place : (bs : List OutBlob) (ns : List BlobAddition) (h : Option BlobHand) (k : ℕ) → AreBlobs bs ns h → k < length ns → on_place close_blob k bs ≡ bs
blobs_place [] ns h k a less = refl
blobs_place (b ∷ bs) [] h k a less = absurd (omega arith)
blobs_place (b ∷ bs) (n ∷ ns) h zero a less = λ i. record b { closed = sym a.0.closed i } ∷ bs
blobs_place (b ∷ bs) (n ∷ ns) h (suc k) a less = ap (λ cs. b ∷ cs) (blobs_place bs ns h k a.1 (omega arith))

blobs_at_least : (bs : List OutBlob) (ns : List BlobAddition) (h : Option BlobHand) → AreBlobs bs ns h → length ns ≤ length bs
blobs_at_least bs [] h a = omega arith
blobs_at_least [] (n ∷ ns) h a = absurd a
blobs_at_least (b ∷ bs) (n ∷ ns) h a = let less = blobs_at_least bs ns h a.1 in omega arith

tables_with : (ts : List OutTable) (ns : List NewTable) (h : Option Hand) → AreTables ts ns h → IsSome h → length ts ≡ length ns + 1
tables_with ts ns None a hand = absurd (false≢true hand)
tables_with ts ns (Some h) a hand = let e = ends_in_table ts ns h a in omega (arith, ap length e.is, length-append e.front (e.last ∷ []), tables_count e.front ns e.closed)

blobs_with : (bs : List OutBlob) (ns : List BlobAddition) (h : Option BlobHand) → AreBlobs bs ns h → IsSome h → length bs ≡ length ns + 1
blobs_with bs ns None a hand = absurd (false≢true hand)
blobs_with bs ns (Some h) a hand = let e = ends_in_blob bs ns h a in omega (arith, ap length e.is, length-append e.front (e.last ∷ []), blobs_count e.front ns e.closed)

-- the next output by these tests
next_by : Bool → Bool → Out → Out
next_by within behind o = if within
    then record o {
      sealed = o.sealed + 1;
      tables = on_place close_table o.sealed o.tables;
      blobs = if behind then on_place close_blob (o.sealed - length o.tables) o.blobs else o.blobs;
    }
    else o

-- a closed table at this place of the files
pub record TableAt (ts : List OutTable) (fs : List OutFile) (k : ℕ) (n : NewTable) : Type 0 where
  pub table : OutTable
  pub is : slice_get (map TableOf ts ++ fs) k ≡ Some (TableOf table)
  pub closed : IsClosedAs table n
  pub filled : AllByRecursion (λ t. 1 ≤ length t.entries) ts → 1 ≤ length table.entries

table_at : (ts : List OutTable) (ns : List NewTable) (h : Option Hand) (fs : List OutFile) (k : ℕ) (n : NewTable) → AreTables ts ns h → slice_get ns k ≡ Some n → TableAt ts fs k n
table_at ts [] h fs k n a at = absurd cc
table_at [] (m ∷ ns) h fs k n a at = absurd a
table_at (t ∷ ts) (m ∷ ns) h fs zero n a at = record { table = t; is = refl; closed = subst (IsClosedAs t) (some_is at) a.0; filled = λ all. all.0 }
table_at (t ∷ ts) (m ∷ ns) h fs (suc k) n a at =
    let r = table_at ts ns h fs k n a.1 at in
    record { table = r.table; is = r.is; closed = r.closed; filled = λ all. r.filled all.1 }

pub record BlobAt (bs : List OutBlob) (k : ℕ) (n : BlobAddition) : Type 0 where
  pub blob : OutBlob
  pub is : slice_get bs k ≡ Some blob
  pub closed : IsBlobClosedAs blob n

blob_at : (bs : List OutBlob) (ns : List BlobAddition) (h : Option BlobHand) (k : ℕ) (n : BlobAddition) → AreBlobs bs ns h → slice_get ns k ≡ Some n → BlobAt bs k n
blob_at bs [] h k n a at = absurd cc
blob_at [] (m ∷ ns) h k n a at = absurd a
blob_at (b ∷ bs) (m ∷ ns) h zero n a at = record { blob = b; is = refl; closed = subst (IsBlobClosedAs b) (some_is at) a.0 }
blob_at (b ∷ bs) (m ∷ ns) h (suc k) n a at = let r = blob_at bs ns h k n a.1 at in record { blob = r.blob; is = r.is; closed = r.closed }

behind_tables : (ts : List OutTable) (bs : List OutBlob) (b : OutBlob) (k m : ℕ) → length ts + k ≡ m → slice_get bs k ≡ Some b → slice_get (map TableOf ts ++ map BlobOf bs) m ≡ Some (BlobOf b)
behind_tables [] [] b k m e at = absurd cc
behind_tables [] (c ∷ bs) b zero zero e at = ap (λ (x : OutBlob). Some (BlobOf x)) (some_is at)
behind_tables [] (c ∷ bs) b zero (suc m) e at = absurd (omega arith)
behind_tables [] (c ∷ bs) b (suc k) zero e at = absurd (omega arith)
behind_tables [] (c ∷ bs) b (suc k) (suc m) e at = behind_tables [] bs b k m (omega arith) at
behind_tables (t ∷ ts) bs b k zero e at = absurd (omega arith)
behind_tables (t ∷ ts) bs b k (suc m) e at = behind_tables ts bs b k m (omega arith) at

-- ---- what is answered of it

as_table : (t : OutTable) (r : Option Sealed) → IsSealedAs (Some (TableOf (close_table t))) r → IsSealedAs (Some (TableOf t)) r
as_table t None a = absurd a
as_table t (Some (sealed.Table n)) a = record { level = a.level; number = a.number; size = a.size; as_named = a.as_named }
as_table t (Some (sealed.Blob n)) a = absurd a

as_blob : (b : OutBlob) (r : Option Sealed) → IsSealedAs (Some (BlobOf (close_blob b))) r → IsSealedAs (Some (BlobOf b)) r
as_blob b None a = absurd a
as_blob b (Some (sealed.Table n)) a = absurd a
as_blob b (Some (sealed.Blob n)) a = a

as_tables : (ts : List OutTable) (fs : List OutFile) (k : ℕ) (r : Option Sealed) → IsSealedAs (slice_get (map TableOf (on_last close_table ts) ++ fs) k) r → IsSealedAs (slice_get (map TableOf ts ++ fs) k) r
as_tables [] fs k r a = a
as_tables (t ∷ []) fs zero r a = as_table t r a
as_tables (t ∷ []) fs (suc k) r a = a
as_tables (t ∷ u ∷ ts) fs zero r a = a
as_tables (t ∷ u ∷ ts) fs (suc k) r a = as_tables (u ∷ ts) fs k r a

as_blobs : (bs : List OutBlob) (k : ℕ) (r : Option Sealed) → IsSealedAs (slice_get (map BlobOf (on_last close_blob bs)) k) r → IsSealedAs (slice_get (map BlobOf bs) k) r
as_blobs [] k r a = a
as_blobs (b ∷ []) zero r a = as_blob b r a
as_blobs (b ∷ []) (suc k) r a = a
as_blobs (b ∷ c ∷ bs) zero r a = a
as_blobs (b ∷ c ∷ bs) (suc k) r a = as_blobs (c ∷ bs) k r a

as_files : (ts : List OutTable) (bs : List OutBlob) (k : ℕ) (r : Option Sealed) → IsSealedAs (slice_get (map TableOf ts ++ map BlobOf (on_last close_blob bs)) k) r → IsSealedAs (slice_get (map TableOf ts ++ map BlobOf bs) k) r
as_files [] bs k r a = as_blobs bs k r a
as_files (t ∷ ts) bs zero r a = a
as_files (t ∷ ts) bs (suc k) r a = as_files ts bs k r a

-- a file that is closed is named as before
pub table_as_before : (o : Out) (r : Option Sealed) → IsSealedAs (next_file (closed_last o)) r → IsSealedAs (next_file o) r
table_as_before o r a = as_tables o.tables (map BlobOf o.blobs) o.sealed r a

pub blob_as_before : (o : Out) (r : Option Sealed) → IsSealedAs (next_file (closed_blob o)) r → IsSealedAs (next_file o) r
blob_as_before o r a = as_files o.tables o.blobs o.sealed r a

filled_last : (ts : List OutTable) → AllByRecursion (λ t. 1 ≤ length t.entries) ts → AllByRecursion (λ t. 1 ≤ length t.entries) (on_last close_table ts)
filled_last [] all = tt
filled_last (t ∷ []) all = all
filled_last (t ∷ u ∷ ts) all = (all.0, filled_last (u ∷ ts) all.1)

pub filled_closed : (o : Out) → AreFilled o → AreFilled (closed_last o)
filled_closed o all = filled_last o.tables all

module _ (o : Out) (s : State) (is : IsOut o s) where
  -- the next file is a closed table
  the_table : (n : NewTable) → slice_get s.tables s.sealed ≡ Some n → TableAt o.tables (map BlobOf o.blobs) o.sealed n
  the_table n at = table_at o.tables s.tables s.table (map BlobOf o.blobs) o.sealed n is.tables (ap (slice_get s.tables) is.sealed ∙ at)

  pub table_is_next : (n : NewTable) → slice_get s.tables s.sealed ≡ Some n → IsNext (name_of (Table n.number)) o
  table_is_next n at =
      let r = the_table n at in
      subst (λ (f : Option OutFile). IsSomeAnd f (λ x. name_of (Table n.number) ≡ name_of (name_in x))) (sym r.is) (ap (λ (m : ℕ). name_of (Table m)) (sym r.closed.number))

  pub table_answers : (n : NewTable) → slice_get s.tables s.sealed ≡ Some n → AreFilled o → IsSealedAs (next_file o) (Some (sealed.Table n))
  table_answers n at filled =
      let r = the_table n at in
      subst (λ (f : Option OutFile). IsSealedAs f (Some (sealed.Table n))) (sym r.is) (r.closed.names (r.filled filled))

  -- it is a closed blob file
  the_blob : s.table ≡ None → length s.tables ≤ s.sealed → (n : BlobAddition) → slice_get s.blobs (s.sealed - length s.tables) ≡ Some n
      → (b : OutBlob) × (next_file o ≡ Some (BlobOf b)) × IsBlobClosedAs b n
  the_blob none le n at =
      let r = blob_at o.blobs s.blobs s.blob (s.sealed - length s.tables) n is.blobs at in
      let count : length o.tables ≡ length s.tables = tables_count o.tables s.tables (subst (AreTables o.tables s.tables) none is.tables) in
      (r.blob, behind_tables o.tables o.blobs r.blob (s.sealed - length s.tables) o.sealed (omega (arith, is.sealed, count)) r.is, r.closed)

  pub blob_is_next : s.table ≡ None → length s.tables ≤ s.sealed → (n : BlobAddition) → slice_get s.blobs (s.sealed - length s.tables) ≡ Some n → IsNext (name_of (Blob n.number)) o
  blob_is_next none le n at =
      let r = the_blob none le n at in
      let number : n.number ≡ r.0.number = ap (λ (x : BlobAddition). x.number) r.2.names in
      subst (λ (f : Option OutFile). IsSomeAnd f (λ x. name_of (Blob n.number) ≡ name_of (name_in x))) (sym r.1) (ap (λ (m : ℕ). name_of (Blob m)) number)

  pub blob_answers : s.table ≡ None → length s.tables ≤ s.sealed → (n : BlobAddition) → slice_get s.blobs (s.sealed - length s.tables) ≡ Some n → IsSealedAs (next_file o) (Some (sealed.Blob n))
  blob_answers none le n at =
      let r = the_blob none le n at in
      subst (λ (f : Option OutFile). IsSealedAs f (Some (sealed.Blob n))) (sym r.1) r.2.names

  -- ---- which output there is then

  count_files : length (files_of o) ≡ length o.tables + length o.blobs
  count_files = omega (arith, length-append (map TableOf o.tables) (map BlobOf o.blobs), length-map o.tables TableOf, length-map o.blobs BlobOf)

  next_tables : (ts : List OutTable) → o.sealed < length o.tables → on_place close_table o.sealed o.tables ≡ ts → sealed_next o ≡ record o { sealed = o.sealed + 1; tables = ts }
  unfolding next_by
  next_tables ts less same =
      let within : nat_lt o.sealed (length (files_of o)) ≡ true = is_less o.sealed (length (files_of o)) (omega (arith, count_files)) in
      let before : nat_le (length o.tables) o.sealed ≡ false = not_most (length o.tables) o.sealed less in
      (λ i. next_by (within i) (before i) o) ∙ (λ i. record o { sealed = o.sealed + 1; tables = same i })

  next_blobs : (bs : List OutBlob) → length o.tables ≤ o.sealed → o.sealed < length o.tables + length o.blobs → on_place close_blob (o.sealed - length o.tables) o.blobs ≡ bs
      → sealed_next o ≡ record o { sealed = o.sealed + 1; blobs = bs }
  unfolding next_by
  next_blobs bs le less same =
      let within : nat_lt o.sealed (length (files_of o)) ≡ true = is_less o.sealed (length (files_of o)) (omega (arith, count_files)) in
      let behind : nat_le (length o.tables) o.sealed ≡ true = is_most (length o.tables) o.sealed le in
      (λ i. next_by (within i) (behind i) o) ∙ (λ i. record o { sealed = o.sealed + 1; tables = place_beyond close_table o.sealed o.tables le i; blobs = same i })

  pub table_next : s.sealed < length s.tables → sealed_next o ≡ sealed_one o
  table_next less = next_tables o.tables (omega (arith, is.sealed, tables_at_least o.tables s.tables s.table is.tables)) (tables_place o.tables s.tables s.table o.sealed is.tables (omega (arith, is.sealed)))

  pub hand_next : IsSome s.table → s.sealed ≡ length s.tables → sealed_next o ≡ sealed_one (closed_last o)
  hand_next hand all =
      let count : length o.tables ≡ length s.tables + 1 = tables_with o.tables s.tables s.table is.tables hand in
      next_tables (on_last close_table o.tables) (omega (arith, is.sealed)) (place_last close_table o.sealed o.tables (omega (arith, is.sealed)))

  pub blob_next : s.table ≡ None → length s.tables ≤ s.sealed → s.sealed < length s.tables + length s.blobs → sealed_next o ≡ sealed_one o
  blob_next none le less =
      let count : length o.tables ≡ length s.tables = tables_count o.tables s.tables (subst (AreTables o.tables s.tables) none is.tables) in
      let least : length s.blobs ≤ length o.blobs = blobs_at_least o.blobs s.blobs s.blob is.blobs in
      next_blobs o.blobs (omega (arith, is.sealed)) (omega (arith, is.sealed)) (blobs_place o.blobs s.blobs s.blob (o.sealed - length o.tables) is.blobs (omega (arith, is.sealed)))

  pub blob_hand_next : s.table ≡ None → IsSome s.blob → s.sealed ≡ length s.tables + length s.blobs → sealed_next o ≡ sealed_one (closed_blob o)
  blob_hand_next none hand all =
      let count : length o.tables ≡ length s.tables = tables_count o.tables s.tables (subst (AreTables o.tables s.tables) none is.tables) in
      let blobs : length o.blobs ≡ length s.blobs + 1 = blobs_with o.blobs s.blobs s.blob is.blobs hand in
      next_blobs (on_last close_blob o.blobs) (omega (arith, is.sealed)) (omega (arith, is.sealed)) (place_last close_blob (o.sealed - length o.tables) o.blobs (omega (arith, is.sealed)))

  -- all are sealed
  none_left : s.table ≡ None → s.blob ≡ None → s.sealed ≡ length s.tables + length s.blobs → length (files_of o) ≤ o.sealed
  none_left none no_blob all =
      let count : length o.tables ≡ length s.tables = tables_count o.tables s.tables (subst (AreTables o.tables s.tables) none is.tables) in
      let blobs : length o.blobs ≡ length s.blobs = blobs_count o.blobs s.blobs (subst (AreBlobs o.blobs s.blobs) no_blob is.blobs) in
      omega (arith, is.sealed, count_files)

  pub none_next : s.table ≡ None → s.blob ≡ None → s.sealed ≡ length s.tables + length s.blobs → sealed_next o ≡ o
  unfolding next_by
  none_next none no_blob all =
      let beyond : nat_lt o.sealed (length (files_of o)) ≡ false = not_less o.sealed (length (files_of o)) (none_left none no_blob all) in
      λ i. next_by (beyond i) (nat_le (length o.tables) o.sealed) o

  pub none_answers : s.table ≡ None → s.blob ≡ None → s.sealed ≡ length s.tables + length s.blobs → IsSealedAs (next_file o) None
  none_answers none no_blob all = subst (λ (f : Option OutFile). IsSealedAs f None) (sym (slice_get_past (files_of o) o.sealed (none_left none no_blob all))) tt

-- ---- one call after the other

as_next : (p q : Out) → q ≡ p → record p { given = q.given } ≡ q
as_next p q e = (λ i. record p { given = (e i).given }) ∙ sym e

ordered_closed_blob : (next : ℕ) (o : Out) → IsOrdered next o → IsOrdered next (closed_blob o)
ordered_closed_blob next o up = record { tables = up.tables; blobs = subst (AscendTo next) (sym (on_last_numbers (λ (b : OutBlob). b.number) close_blob (λ b. refl) o.blobs)) up.blobs }

module _ {S : Type 0} (g : Ghosts S) (next : ℕ) (a : State) where
  pub seals_table : (b : State) (s t : S) → a.sealed < length a.tables → Becomes g next sealed_one a b s t → Becomes g next sealed_next a b s t
  seals_table b s t less first = becomes_as g next sealed_one sealed_next a b s t (λ o is. as_next (sealed_one o) (sealed_next o) (table_next o a is less)) first

  pub seals_hand : (b c : State) (s t u : S) → IsSome a.table → a.sealed ≡ length a.tables → Becomes g next closed_last a b s t → Becomes g next sealed_one b c t u → Becomes g next sealed_next a c s u
  seals_hand b c s t u hand all first second =
      becomes_as g next (λ o. sealed_one (closed_last o)) sealed_next a c s u (λ o is. as_next (sealed_one (closed_last o)) (sealed_next o) (hand_next o a is hand all))
      (becomes_then g next next closed_last sealed_one a b c s t u (λ o is up. ordered_closed next o up) first second)

  pub seals_blob : (b : State) (s t : S) → a.table ≡ None → length a.tables ≤ a.sealed → a.sealed < length a.tables + length a.blobs → Becomes g next sealed_one a b s t → Becomes g next sealed_next a b s t
  seals_blob b s t none le less first = becomes_as g next sealed_one sealed_next a b s t (λ o is. as_next (sealed_one o) (sealed_next o) (blob_next o a is none le less)) first

  pub seals_blob_hand : (b c : State) (s t u : S) → a.table ≡ None → IsSome a.blob → a.sealed ≡ length a.tables + length a.blobs → Becomes g next closed_blob a b s t → Becomes g next sealed_one b c t u → Becomes g next sealed_next a c s u
  seals_blob_hand b c s t u none hand all first second =
      becomes_as g next (λ o. sealed_one (closed_blob o)) sealed_next a c s u (λ o is. as_next (sealed_one (closed_blob o)) (sealed_next o) (blob_hand_next o a is none hand all))
      (becomes_then g next next closed_blob sealed_one a b c s t u (λ o is up. ordered_closed_blob next o up) first second)

  pub seals_none : (s : S) → a.table ≡ None → a.blob ≡ None → a.sealed ≡ length a.tables + length a.blobs → Becomes g next sealed_next a a s s
  seals_none s none no_blob all = becomes_as g next (λ o. o) sealed_next a a s s (λ o is. as_next o (sealed_next o) (none_next o a is none no_blob all)) (becomes_same g next a s)

-- ---- closed files are among those drawn

pub closed_among : (s : State) (n : NewTable) (k : ℕ) → AreDrawn s → k < length s.tables → n ≡ get_or s.tables k n → (name : Name) → name ≡ name_of (Table n.number) → (other : Name) → IsNoneOf (names_of s.drawn) other → IsNoneOf (name ∷ []) other
closed_among s n k d less is name same other none =
    let among : Contains s.drawn n.number = all_at (λ (t : NewTable). Contains s.drawn t.number) s.tables n d.tables (k, less, sym is) in
    subst (λ (m : Name). IsNoneOf (m ∷ []) other) (sym same) (not_table s.drawn n.number among other none)

pub closed_blob_among : (s : State) (n : BlobAddition) (k : ℕ) → AreDrawn s → k < length s.blobs → n ≡ get_or s.blobs k n → (name : Name) → name ≡ name_of (Blob n.number) → (other : Name) → IsNoneOf (names_of s.drawn) other → IsNoneOf (name ∷ []) other
closed_blob_among s n k d less is name same other none =
    let among : Contains s.drawn n.number = all_at (λ (t : BlobAddition). Contains s.drawn t.number) s.blobs n d.blobs (k, less, sym is) in
    subst (λ (m : Name). IsNoneOf (m ∷ []) other) (sym same) (not_blob s.drawn n.number among other none)

-- what holds at Ok
pub ok_to : {T E : Type 0} (r : Result T E) (P Q : T → Type 0) → ((x : T) → P x → Q x) → IfOk r P → IfOk r Q
ok_to (Ok x) P Q f p = f x p
ok_to (Err e) P Q f p = tt
