-- What each part of a call does to an output, its memory and its files.
use Rattle.std.proofs.Common.{◌≡◌, ◌≢◌, ℕ, ◌+◌, ◌-◌, ◌<◌, ◌≤◌, List, [], ◌∷◌, ◌++◌, length, drop, refl, sym, ◌∙◌, ap, subst, arith, Option, Some, None}
use Rattle.std.specs.Prelude.{map, IfSome, IsSome, Contains}
use Rattle.std.specs.List.{AllByRecursion}
use Rattle.bl_site.specs.Disk.{Disk, Name}
use Rattle.bl_site.specs.Calls.{Creates}
use Rattle.bl_names.specs.Names.{IsNumber, NamesOne, name_of}
use Rattle.bl_names.specs.declared.name.FileName.TheVariants.{Table, Blob}
use Rattle.bl_edit.specs.declared.edit.NewTable.{NewTable}
use Rattle.bl_edit.specs.declared.edit.BlobAddition.{BlobAddition}
use Rattle.bl_table.specs.Spelling.{cut}
use Rattle.bl_out.specs.Held.{HoldsFile, HoldsOut}
use Rattle.bl_out.specs.Making.{Follows}
use Rattle.bl_out.specs.Outputs.{Out, OutBlob, OutTable, TableOf, BlobOf, blob_bytes, files_of, new_blob, new_table, on_last, table_bytes}
use Rattle.bl_out.specs.States.{AreBlobs, AreDrawn, AreTables, AreThere, AscendTo, BlobHand, Hand, IsBlobHandOf, IsHandOf, IsOrdered, IsOut, State}
use Rattle.bl_out.specs.Steps.{with_blob, with_table}
use Rattle.bl_out.proofs.BecomeLemmas.{all_at}
use Rattle.bl_out.proofs.FileLemmas.{HoldsFirst, Same, all_front, all_to, all_two, begins_empty, below_last, below_next, blob_begins, blob_changes, blobs_differ, grows, kinds_differ, table_begins, table_changes, tables_differ}
use Rattle.bl_out.proofs.HandLemmas.{blobs_count, blobs_numbers, ends_in_blob, ends_in_table, on_last_behind, tables_count, tables_numbers}

-- ---- numbers of files

numbers_in : {A : Type 0} (number : A → ℕ) (drawn : List ℕ) (xs : List A) → AllByRecursion IsNumber drawn → AllByRecursion (λ x. Contains drawn (number x)) xs → AllByRecursion (λ x. IsNumber (number x)) xs
numbers_in number drawn xs all among = all_to (λ x. Contains drawn (number x)) (λ x. IsNumber (number x)) xs (λ x is. all_at IsNumber drawn (number x) all is) among

number_in : {A : Type 0} (number : A → ℕ) (drawn : List ℕ) (o : Option A) → AllByRecursion IsNumber drawn → IfSome o (λ x. Contains drawn (number x)) → IfSome o (λ x. IsNumber (number x))
number_in number drawn None all among = tt
number_in number drawn (Some x) all among = all_at IsNumber drawn (number x) all among

pub table_numbers : (o : Out) (s : State) → IsOut o s → AreDrawn s → AllByRecursion (λ t. IsNumber t.number) o.tables
table_numbers o s is d = tables_numbers IsNumber o.tables s.tables s.table is.tables (numbers_in (λ (n : NewTable). n.number) s.drawn s.tables d.numbers d.tables) (number_in (λ (h : Hand). h.number) s.drawn s.table d.numbers d.table)

pub blob_numbers : (o : Out) (s : State) → IsOut o s → AreDrawn s → AllByRecursion (λ b. IsNumber b.number) o.blobs
blob_numbers o s is d = blobs_numbers IsNumber o.blobs s.blobs s.blob is.blobs (numbers_in (λ (n : BlobAddition). n.number) s.drawn s.blobs d.numbers d.blobs) (number_in (λ (h : BlobHand). h.number) s.drawn s.blob d.numbers d.blob)

pub some_of : {A : Type 0} (o : Option A) (x : A) (P : A → Type 0) → o ≡ Some x → IfSome o P → P x
some_of {A = A} o x P is p = let q : IfSome (Some x) P = subst (λ (r : Option A). IfSome r P) is p in q

pub hand_number : (s : State) (h : Hand) → s.table ≡ Some h → AreDrawn s → IsNumber h.number
hand_number s h is d = some_of s.table h (λ k. IsNumber k.number) is (number_in (λ (k : Hand). k.number) s.drawn s.table d.numbers d.table)

pub blob_number : (s : State) (h : BlobHand) → s.blob ≡ Some h → AreDrawn s → IsNumber h.number
blob_number s h is d = some_of s.blob h (λ k. IsNumber k.number) is (number_in (λ (k : BlobHand). k.number) s.drawn s.blob d.numbers d.blob)

pub tables_at_least : (ts : List OutTable) (ns : List NewTable) (h : Option Hand) → AreTables ts ns h → length ns ≤ length ts
tables_at_least ts [] h a = omega arith
tables_at_least [] (n ∷ ns) h a = absurd a
tables_at_least (t ∷ ts) (n ∷ ns) h a = let less = tables_at_least ts ns h a.1 in omega arith

-- ---- what the files hold

pub first_holds : (disk : Disk) (o : Out) → HoldsOut disk o → HoldsFirst disk o.sealed (files_of o)
unfolding HoldsFirst
first_holds disk o h = (h.sealed, h.others)

pub holds_first : (disk : Disk) (o : Out) → HoldsFirst disk o.sealed (files_of o) → HoldsOut disk o
unfolding HoldsFirst
holds_first disk o h = record { sealed = h.0; others = h.1 }

module _ (one : NamesOne) (s : State) (d : AreDrawn s) (old new : Disk) (next : ℕ) (o : Out) (is : IsOut o s) (up : IsOrdered next o) where
  -- all other tables, and all blob files, are as they were
  tables_same : (n : ℕ) → IsNumber n → ((other : Name) → other ≢ name_of (Table n) → new other ≡ old other) → (ts : List OutTable) → AllByRecursion (λ t. t.number < n) ts → AllByRecursion (λ t. IsNumber t.number) ts
      → AllByRecursion (λ t. Same old new (TableOf t)) ts
  tables_same n is_n others ts below numbers = all_two (λ t. t.number < n) (λ t. IsNumber t.number) (λ t. Same old new (TableOf t)) ts
      (λ t less is_t. others (name_of (Table t.number)) (tables_differ one t.number n is_t is_n less)) below numbers

  blobs_beside : (n : ℕ) → IsNumber n → ((other : Name) → other ≢ name_of (Table n) → new other ≡ old other) → (bs : List OutBlob) → AllByRecursion (λ b. IsNumber b.number) bs → AllByRecursion (λ b. Same old new (BlobOf b)) bs
  blobs_beside n is_n others bs numbers = all_to (λ b. IsNumber b.number) (λ b. Same old new (BlobOf b)) bs
      (λ b is_b. others (name_of (Blob b.number)) (λ same. kinds_differ one n b.number is_n is_b (sym same))) numbers

  blobs_same : (n : ℕ) → IsNumber n → ((other : Name) → other ≢ name_of (Blob n) → new other ≡ old other) → (bs : List OutBlob) → AllByRecursion (λ b. b.number < n) bs → AllByRecursion (λ b. IsNumber b.number) bs
      → AllByRecursion (λ b. Same old new (BlobOf b)) bs
  blobs_same n is_n others bs below numbers = all_two (λ b. b.number < n) (λ b. IsNumber b.number) (λ b. Same old new (BlobOf b)) bs
      (λ b less is_b. others (name_of (Blob b.number)) (blobs_differ one b.number n is_b is_n less)) below numbers

  tables_beside : (n : ℕ) → IsNumber n → ((other : Name) → other ≢ name_of (Blob n) → new other ≡ old other) → (ts : List OutTable) → AllByRecursion (λ t. IsNumber t.number) ts → AllByRecursion (λ t. Same old new (TableOf t)) ts
  tables_beside n is_n others ts numbers = all_to (λ t. IsNumber t.number) (λ t. Same old new (TableOf t)) ts
      (λ t is_t. others (name_of (Table t.number)) (kinds_differ one t.number n is_t is_n)) numbers

  pub last_table_holds : (h : Hand) → s.table ≡ Some h → s.sealed ≤ length s.tables → (c : OutTable → OutTable) → ((t : OutTable) → (c t).number ≡ t.number)
      → ((t : OutTable) → IsHandOf t h → Follows (name_of (Table h.number)) (table_bytes t) (table_bytes (c t)) old new) → HoldsOut old o → HoldsOut new (record o { tables = on_last c o.tables })
  last_table_holds h hand sealed c same follows held =
      let e = ends_in_table o.tables s.tables h (subst (AreTables o.tables s.tables) hand is.tables) in
      let is_h = hand_number s h hand d in
      let after = follows e.last e.hand in
      let numbers : AllByRecursion (λ t. IsNumber t.number) (e.front ++ e.last ∷ []) = subst (AllByRecursion (λ t. IsNumber t.number)) e.is (table_numbers o s is d) in
      let below : AllByRecursion (λ t. t.number < e.last.number) e.front = below_last (λ (t : OutTable). t.number) next e.front e.last (subst (λ (ts : List OutTable). AscendTo next (map (λ t. t.number) ts)) e.is up.tables) in
      let below_h : AllByRecursion (λ t. t.number < h.number) e.front = subst (λ (n : ℕ). AllByRecursion (λ t. t.number < n) e.front) e.hand.number below in
      let long : o.sealed ≤ length e.front = omega (arith, is.sealed, tables_count e.front s.tables e.closed) in
      let name : name_of (Table h.number) ≡ name_of (Table e.last.number) = ap (λ (n : ℕ). name_of (Table n)) (sym e.hand.number) in
      let grown : HoldsFile old (TableOf e.last) → HoldsFile new (TableOf (c e.last)) = grows old new (TableOf e.last) (TableOf (c e.last)) (ap (λ (n : ℕ). name_of (Table n)) (same e.last))
      (subst (λ (n : Name). Follows n (table_bytes e.last) (table_bytes (c e.last)) old new) name after) in
      let goal : HoldsFirst new o.sealed (map TableOf (e.front ++ c e.last ∷ []) ++ map BlobOf o.blobs) =
      table_changes old new o.sealed e.front e.last (c e.last) o.blobs long
      (tables_same h.number is_h after.appends.puts.others e.front below_h (all_front (λ t. IsNumber t.number) e.front (e.last ∷ []) numbers))
      (blobs_beside h.number is_h after.appends.puts.others o.blobs (blob_numbers o s is d)) grown
      (subst (λ (ts : List OutTable). HoldsFirst old o.sealed (map TableOf ts ++ map BlobOf o.blobs)) e.is (first_holds old o held)) in
      let last : on_last c o.tables ≡ e.front ++ c e.last ∷ [] = ap (on_last c) e.is ∙ on_last_behind c e.front e.last in
      holds_first new (record o { tables = on_last c o.tables }) (subst (λ (ts : List OutTable). HoldsFirst new o.sealed (map TableOf ts ++ map BlobOf o.blobs)) (sym last) goal)

  pub last_blob_holds : (h : BlobHand) → s.blob ≡ Some h → s.sealed ≤ length s.tables + length s.blobs → (c : OutBlob → OutBlob) → ((b : OutBlob) → (c b).number ≡ b.number)
      → ((b : OutBlob) → IsBlobHandOf b h → Follows (name_of (Blob h.number)) (blob_bytes b) (blob_bytes (c b)) old new) → HoldsOut old o → HoldsOut new (record o { blobs = on_last c o.blobs })
  last_blob_holds h hand sealed c same follows held =
      let e = ends_in_blob o.blobs s.blobs h (subst (AreBlobs o.blobs s.blobs) hand is.blobs) in
      let is_h = blob_number s h hand d in
      let after = follows e.last e.hand in
      let numbers : AllByRecursion (λ b. IsNumber b.number) (e.front ++ e.last ∷ []) = subst (AllByRecursion (λ b. IsNumber b.number)) e.is (blob_numbers o s is d) in
      let below : AllByRecursion (λ b. b.number < e.last.number) e.front = below_last (λ (b : OutBlob). b.number) next e.front e.last (subst (λ (bs : List OutBlob). AscendTo next (map (λ b. b.number) bs)) e.is up.blobs) in
      let below_h : AllByRecursion (λ b. b.number < h.number) e.front = subst (λ (n : ℕ). AllByRecursion (λ b. b.number < n) e.front) e.hand.number below in
      let long : o.sealed ≤ length o.tables + length e.front = omega (arith, is.sealed, blobs_count e.front s.blobs e.closed, tables_at_least o.tables s.tables s.table is.tables) in
      let name : name_of (Blob h.number) ≡ name_of (Blob e.last.number) = ap (λ (n : ℕ). name_of (Blob n)) (sym e.hand.number) in
      let grown : HoldsFile old (BlobOf e.last) → HoldsFile new (BlobOf (c e.last)) = grows old new (BlobOf e.last) (BlobOf (c e.last)) (ap (λ (n : ℕ). name_of (Blob n)) (same e.last))
      (subst (λ (n : Name). Follows n (blob_bytes e.last) (blob_bytes (c e.last)) old new) name after) in
      let goal : HoldsFirst new o.sealed (map TableOf o.tables ++ map BlobOf (e.front ++ c e.last ∷ [])) =
      blob_changes old new o.sealed o.tables e.front e.last (c e.last) long
      (tables_beside h.number is_h after.appends.puts.others o.tables (table_numbers o s is d))
      (blobs_same h.number is_h after.appends.puts.others e.front below_h (all_front (λ b. IsNumber b.number) e.front (e.last ∷ []) numbers)) grown
      (subst (λ (bs : List OutBlob). HoldsFirst old o.sealed (map TableOf o.tables ++ map BlobOf bs)) e.is (first_holds old o held)) in
      let last : on_last c o.blobs ≡ e.front ++ c e.last ∷ [] = ap (on_last c) e.is ∙ on_last_behind c e.front e.last in
      holds_first new (record o { blobs = on_last c o.blobs }) (subst (λ (bs : List OutBlob). HoldsFirst new o.sealed (map TableOf o.tables ++ map BlobOf bs)) (sym last) goal)

  pub new_table_holds : IsNumber next → s.sealed ≤ length s.tables → Creates (name_of (Table next)) old new → HoldsOut old o → HoldsOut new (with_table next o)
  unfolding cut
  new_table_holds is_next sealed made held =
      let long : o.sealed ≤ length o.tables = omega (arith, is.sealed, tables_at_least o.tables s.tables s.table is.tables) in
      holds_first new (with_table next o) (table_begins old new o.sealed o.tables (new_table next) o.blobs long
      (tables_same next is_next made.others o.tables (below_next (λ (t : OutTable). t.number) next o.tables up.tables) (table_numbers o s is d))
      (blobs_beside next is_next made.others o.blobs (blob_numbers o s is d))
      (begins_empty old new (TableOf (new_table next)) made refl) (first_holds old o held))

  pub new_blob_holds : IsNumber next → s.sealed ≤ length s.tables + length s.blobs → s.blob ≡ None → Creates (name_of (Blob next)) old new → HoldsOut old o → HoldsOut new (with_blob next o)
  new_blob_holds is_next sealed none made held =
      let count : length o.blobs ≡ length s.blobs = blobs_count o.blobs s.blobs (subst (AreBlobs o.blobs s.blobs) none is.blobs) in
      let long : o.sealed ≤ length o.tables + length o.blobs = omega (arith, is.sealed, tables_at_least o.tables s.tables s.table is.tables) in
      holds_first new (with_blob next o) (blob_begins old new o.sealed o.tables o.blobs (new_blob next) long
      (tables_beside next is_next made.others o.tables (table_numbers o s is d))
      (blobs_same next is_next made.others o.blobs (below_next (λ (b : OutBlob). b.number) next o.blobs up.blobs) (blob_numbers o s is d))
      (begins_empty old new (BlobOf (new_blob next)) made refl) (first_holds old o held))

-- ---- what is there

if_some_to : {A : Type 0} (P Q : A → Type 0) (o : Option A) → ((x : A) → P x → Q x) → IfSome o P → IfSome o Q
if_some_to P Q None f p = tt
if_some_to P Q (Some x) f p = f x p

pub there_on : (old new : Disk) (s : State) → ((name : Name) → IsSome (old name) → IsSome (new name)) → AreThere old s → AreThere new s
there_on old new s still there = (
  if_some_to (λ (h : Hand). IsSome (old (name_of (Table h.number)))) (λ h. IsSome (new (name_of (Table h.number)))) s.table (λ h. still (name_of (Table h.number))) there.0,
  if_some_to (λ (b : BlobHand). IsSome (old (name_of (Blob b.number)))) (λ b. IsSome (new (name_of (Blob b.number)))) s.blob (λ b. still (name_of (Blob b.number))) there.1,
  all_to (λ (t : NewTable). IsSome (old (name_of (Table t.number)))) (λ t. IsSome (new (name_of (Table t.number)))) (drop s.sealed s.tables) (λ t. still (name_of (Table t.number))) there.2,
  all_to (λ (b : BlobAddition). IsSome (old (name_of (Blob b.number)))) (λ b. IsSome (new (name_of (Blob b.number)))) (drop (s.sealed - length s.tables) s.blobs) (λ b. still (name_of (Blob b.number))) there.3,
)
