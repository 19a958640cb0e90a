-- The files of an output are sealed one by one, and the edit names them.
use Rattle.std.proofs.Common.{◌≡◌, ◌⊎◌, inl, inr, ℕ, ◌+◌, ◌-◌, ◌<◌, ◌≤◌, zero, suc, Bool, true, false, List, [], ◌∷◌, ◌++◌, length, take, Option, None, Some, refl, sym, ◌∙◌, ap, subst, arith, length-append}
use Rattle.std.specs.Prelude.{map, slice_get}
use Rattle.std.specs.List.{AllByRecursion}
use Rattle.bl_site.specs.Causes.{Rose}
use Rattle.bl_site.specs.Quiet.{TellsNothing}
use Rattle.bl_site.specs.declared.site.Site.{Ghosts}
use Rattle.bl_edit.specs.Bounds.{FitsWords}
use Rattle.bl_edit.specs.declared.edit.BlobAddition.{BlobAddition}
use Rattle.bl_edit.specs.declared.edit.Edit.{Edit}
use Rattle.bl_edit.specs.declared.edit.NewTable.{NewTable}
use Rattle.bl_edit.specs.Reading.{no_field}
use Rattle.bl_out.specs.Held.{HoldsOut}
use Rattle.bl_out.specs.Made.{IsMade, SealsNext, SealsToTheEnd, IsTableFrom, on_first, sealed_to}
use Rattle.bl_out.specs.Outputs.{AreNamed, BlobOf, IsEditOf, IsSealedAs, NamesTable, Out, OutBlob, OutFile, OutTable, TableOf, addition_of, close_blob, close_table, files_of, finished, next_file, sealed_next}
use Rattle.bl_out.specs.Quiet.{TouchesOnly}
use Rattle.bl_out.specs.States.{AreBlobs, AreFilled, AreTables, AreThere, AscendTo, Becomes, BlobHand, Hand, IsOrdered, IsOut, State, names_of}
use Rattle.std.proofs.Common.{nat_lt}
use Rattle.std.proofs.lemmas.Bool.{ltb-true, ltb-false}
use Rattle.bl_site.proofs.Quiet.{silent_on}
use Rattle.bl_out.proofs.QuietLemmas.{IsNow, IsOnly, touches_join, touches_nothing}
use Rattle.bl_out.specs.declared.sealed.Sealed.{Sealed}
use Rattle.bl_out.specs.declared.sealed.Sealed.TheVariants as sealed
use Rattle.bl_flush.specs.Jobs.{with_sealed}
use Rattle.bl_flush.proofs.TakenLemmas.{rose_then}

abbrev pub one_if : {A : Type 0} → Option A → ℕ
one_if None = 0
one_if (Some x) = 1

-- how many files are not sealed yet
abbrev pub files_left : State → ℕ
files_left s = length s.tables + one_if s.table + (length s.blobs + one_if s.blob) - s.sealed

-- the edit names the first so many files
pub record NamesFirst (k : ℕ) (o : Out) (e : Edit) : Type 0 where
  pub tables : List NewTable
  pub named : AreNamed (take k o.tables) tables
  pub is : e ≡ record no_field { added = tables; blobs = map addition_of (take (k - length o.tables) o.blobs) }

-- of an output that was made: so many of its files are sealed, and the edit names them
pub record AreSealed {S : Type 0} (g : Ghosts S) (o : Out) (s : State) (e : Edit) (start site : S) : Type 0 where
  pub out : IsOut (sealed_to s.sealed o) s
  pub within : s.sealed ≤ length (files_of o)
  pub holds : g.shows → HoldsOut (g.disk start) o → HoldsOut (g.disk site) (sealed_to s.sealed o)
  pub names : NamesFirst s.sealed o e

pub record IsSealing {S : Type 0} (g : Ghosts S) (began s : State) (e : Edit) (start site : S) : Type 0 where
  pub sealed : (o : Out) (from next : ℕ) → IsOut o began → IsMade from next o → AreSealed g o s e start site
  pub usable : s.failed ≡ false
  pub drawn : s.drawn ≡ began.drawn
  pub there : g.shows → AreThere (g.disk site) s
  pub certain : g.shows → g.certain start → g.certain site
  pub fits : FitsWords e
  pub touches : TouchesOnly g (names_of began.drawn) start site
  pub tells_nothing : TellsNothing g start site
  pub asked : Rose (g.changes start) (g.changes site) ⊎ (site ≡ start)

-- ---- lists

take_more : {A : Type 0} (k : ℕ) (xs : List A) (x : A) → slice_get xs k ≡ Some x → take (suc k) xs ≡ take k xs ++ x ∷ []
take_more k [] x e = absurd cc
take_more zero (y ∷ xs) x e = let same : y ≡ x = cc in ap (λ z. z ∷ []) same
take_more (suc k) (y ∷ xs) x e = ap (λ zs. y ∷ zs) (take_more k xs x e)

take_all : {A : Type 0} (k : ℕ) (xs : List A) → length xs ≤ k → take k xs ≡ xs
take_all zero [] h = refl
take_all zero (x ∷ xs) h = absurd (omega arith)
take_all (suc k) [] h = refl
take_all (suc k) (x ∷ xs) h = ap (λ ys. x ∷ ys) (take_all k xs (omega arith))

get_next : {A : Type 0} (f : A → A) (k : ℕ) (xs : List A) → slice_get (on_first f k xs) k ≡ slice_get xs k
get_next f zero xs = refl
get_next f (suc k) [] = refl
get_next f (suc k) (x ∷ xs) = get_next f k xs

get_end : {A : Type 0} (xs : List A) (k : ℕ) → length xs ≤ k → slice_get xs k ≡ None
get_end [] k h = refl
get_end (x ∷ xs) zero h = absurd (omega arith)
get_end (x ∷ xs) (suc k) h = get_end xs k (omega arith)

get_some : {A : Type 0} (xs : List A) (k : ℕ) → k < length xs → (x : A) × (slice_get xs k ≡ Some x)
get_some [] k h = absurd (omega arith)
get_some (x ∷ xs) zero h = (x, refl)
get_some (x ∷ xs) (suc k) h = get_some xs k (omega arith)

get_left : {A B : Type 0} (f : A → B) (xs : List A) (ys : List B) (k : ℕ) (x : A) → slice_get xs k ≡ Some x → slice_get (map f xs ++ ys) k ≡ Some (f x)
get_left f [] ys k x e = absurd cc
get_left f (z ∷ xs) ys zero x e = let is : z ≡ x = cc in ap (λ w. Some (f w)) is
get_left f (z ∷ xs) ys (suc k) x e = get_left f xs ys k x e

get_right : {A B : Type 0} (f : A → B) (xs : List A) (ys : List B) (k : ℕ) → length xs ≤ k → slice_get (map f xs ++ ys) k ≡ slice_get ys (k - length xs)
get_right f [] ys k h = let e : k ≡ k - 0 = omega arith in ap (slice_get ys) e
get_right f (x ∷ xs) ys zero h = absurd (omega arith)
get_right f (x ∷ xs) ys (suc k) h = let e : k - length xs ≡ suc k - suc (length xs) = omega arith in get_right f xs ys k (omega arith) ∙ ap (slice_get ys) e

get_mapped : {A B : Type 0} (f : A → B) (xs : List A) (k : ℕ) (x : A) → slice_get xs k ≡ Some x → slice_get (map f xs) k ≡ Some (f x)
get_mapped f [] k x e = absurd cc
get_mapped f (z ∷ xs) zero x e = let is : z ≡ x = cc in ap (λ w. Some (f w)) is
get_mapped f (z ∷ xs) (suc k) x e = get_mapped f xs k x e

length_first : {A : Type 0} (f : A → A) (k : ℕ) (xs : List A) → length (on_first f k xs) ≡ length xs
length_first f zero xs = refl
length_first f (suc k) [] = refl
length_first f (suc k) (x ∷ xs) = ap suc (length_first f k xs)

length_map : {A B : Type 0} (f : A → B) (xs : List A) → length (map f xs) ≡ length xs
length_map f [] = refl
length_map f (x ∷ xs) = ap suc (length_map f xs)

length_files : (ts : List OutTable) (bs : List OutBlob) → length (map TableOf ts ++ map BlobOf bs) ≡ length ts + length bs
length_files ts bs = length-append (map TableOf ts) (map BlobOf bs) ∙ (λ i. length_map TableOf ts i + length_map BlobOf bs i)

named_first : {A : Type 0} (f : A → A) (key : A → ℕ) (same : (x : A) → key (f x) ≡ key x) (k : ℕ) (xs : List A) → map key (on_first f k xs) ≡ map key xs
named_first f key same zero xs = refl
named_first f key same (suc k) [] = refl
named_first f key same (suc k) (x ∷ xs) = λ i. same x i ∷ named_first f key same k xs i

all_first : {A : Type 0} (P : A → Type 0) (f : A → A) (to : (x : A) → P x → P (f x)) (k : ℕ) (xs : List A) → AllByRecursion P xs → AllByRecursion P (on_first f k xs)
all_first P f to zero xs h = h
all_first P f to (suc k) [] h = tt
all_first P f to (suc k) (x ∷ xs) h = (to x h.0, all_first P f to k xs h.1)

named_more : (ts : List OutTable) (ns : List NewTable) (t : OutTable) (n : NewTable) → AreNamed ts ns → NamesTable t n → AreNamed (ts ++ t ∷ []) (ns ++ n ∷ [])
named_more [] [] t n h is = (is, tt)
named_more [] (m ∷ ns) t n h is = absurd h
named_more (u ∷ ts) [] t n h is = absurd h
named_more (u ∷ ts) (m ∷ ns) t n h is = (h.0, named_more ts ns t n h.1 is)

named_closed : (ts : List OutTable) (ns : List NewTable) → AreNamed ts ns → AreNamed (map close_table ts) ns
named_closed [] [] h = tt
named_closed [] (n ∷ ns) h = absurd h
named_closed (t ∷ ts) [] h = absurd h
named_closed (t ∷ ts) (n ∷ ns) h = (record { level = h.0.level; number = h.0.number; size = h.0.size; as_named = h.0.as_named }, named_closed ts ns h.1)

additions_closed : (bs : List OutBlob) → map addition_of (map close_blob bs) ≡ map addition_of bs
additions_closed [] = refl
additions_closed (b ∷ bs) = ap (λ more. addition_of b ∷ more) (additions_closed bs)

map_more : {A B : Type 0} (f : A → B) (xs : List A) (x : A) → map f (xs ++ x ∷ []) ≡ map f xs ++ f x ∷ []
map_more f [] x = refl
map_more f (y ∷ xs) x = ap (λ ys. f y ∷ ys) (map_more f xs x)

-- ---- how many files there are

tables_many : (ts : List OutTable) (ns : List NewTable) (h : Option Hand) → AreTables ts ns h → length ns + one_if h ≡ length ts
tables_many [] [] None a = refl
tables_many [] [] (Some h) a = absurd a
tables_many [] (n ∷ ns) h a = absurd a
tables_many (t ∷ ts) [] None a = absurd a
tables_many (t ∷ ts) [] (Some h) a = let e : length ts ≡ 0 = ap length a.1 in omega (arith, e)
tables_many (t ∷ ts) (n ∷ ns) h a = let e = tables_many ts ns h a.1 in omega (arith, e)

blobs_many : (bs : List OutBlob) (ns : List BlobAddition) (h : Option BlobHand) → AreBlobs bs ns h → length ns + one_if h ≡ length bs
blobs_many [] [] None a = refl
blobs_many [] [] (Some h) a = absurd a
blobs_many [] (n ∷ ns) h a = absurd a
blobs_many (b ∷ bs) [] None a = absurd a
blobs_many (b ∷ bs) [] (Some h) a = let e : length bs ≡ 0 = ap length a.1 in omega (arith, e)
blobs_many (b ∷ bs) (n ∷ ns) h a = let e = blobs_many bs ns h a.1 in omega (arith, e)

-- those that are left
left_of : (o : Out) (s : State) → IsOut o s → files_left s ≡ length (files_of o) - o.sealed
left_of o s out =
    let ts = tables_many o.tables s.tables s.table out.tables in
    let bs = blobs_many o.blobs s.blobs s.blob out.blobs in
    let n = length_files o.tables o.blobs in
    let k = out.sealed in
    omega (arith, ts, bs, n, k)

size_to : (k : ℕ) (o : Out) → length (files_of (sealed_to k o)) ≡ length (files_of o)
size_to k o =
    length_files (on_first close_table k o.tables) (on_first close_blob (k - length o.tables) o.blobs)
    ∙ (λ i. length_first close_table k o.tables i + length_first close_blob (k - length o.tables) o.blobs i) ∙ sym (length_files o.tables o.blobs)

sealed_zero : (o : Out) → o.sealed ≡ 0 → sealed_to 0 o ≡ o
sealed_zero o e = let z : 0 - length o.tables ≡ 0 = omega arith in λ i. record o { tables = o.tables; blobs = on_first close_blob (z i) o.blobs; sealed = sym e i }

-- ---- a file more

table_by : (k : ℕ) (o : Out) (e : Edit) → NamesFirst k o e → k < length o.tables → (t : OutTable) → slice_get o.tables k ≡ Some t → (x : Sealed) → IsSealedAs (Some (TableOf t)) (Some x) → NamesFirst (suc k) o (with_sealed x e)
table_by k o e names less t there (sealed.Table named) is =
    let none : k - length o.tables ≡ suc k - length o.tables = omega arith in
    record {
      tables = names.tables ++ named ∷ [];
      named = subst (λ (ts : List OutTable). AreNamed ts (names.tables ++ named ∷ [])) (sym (take_more k o.tables t there)) (named_more (take k o.tables) names.tables t named names.named is);
      is = ap (λ f. with_sealed (sealed.Table named) f) names.is ∙ ap (λ n. record no_field { added = names.tables ++ named ∷ []; blobs = map addition_of (take n o.blobs) }) none;
    }
table_by k o e names less t there (sealed.Blob named) is = absurd is

blob_by : (k : ℕ) (o : Out) (e : Edit) → NamesFirst k o e → length o.tables ≤ k → (b : OutBlob) → slice_get o.blobs (k - length o.tables) ≡ Some b → (x : Sealed) → IsSealedAs (Some (BlobOf b)) (Some x) → NamesFirst (suc k) o (with_sealed x e)
blob_by k o e names all b there (sealed.Table named) is = absurd is
blob_by k o e names all b there (sealed.Blob named) is =
    let one : suc (k - length o.tables) ≡ suc k - length o.tables = omega arith in
    let ts : take k o.tables ≡ take (suc k) o.tables = take_all k o.tables all ∙ sym (take_all (suc k) o.tables (omega arith)) in
    let more : map addition_of (take (k - length o.tables) o.blobs) ++ addition_of b ∷ [] ≡ map addition_of (take (suc k - length o.tables) o.blobs) =
    sym (map_more addition_of (take (k - length o.tables) o.blobs) b) ∙ ap (map addition_of) (sym (take_more (k - length o.tables) o.blobs b there)) ∙ ap (λ n. map addition_of (take n o.blobs)) one in
    record {
      tables = names.tables;
      named = subst (λ (us : List OutTable). AreNamed us names.tables) ts names.named;
      is = ap (λ f. with_sealed (sealed.Blob named) f) names.is ∙ ap (λ c. record no_field { added = names.tables; blobs = map addition_of (take (k - length o.tables) o.blobs) ++ c ∷ [] }) is
          ∙ ap (λ cs. record no_field { added = names.tables; blobs = cs }) more;
    }

module _ (k : ℕ) (o : Out) (x : Sealed) (e : Edit) (names : NamesFirst k o e) where
  -- the next file is a table
  a_table : k < length o.tables → IsSealedAs (next_file (sealed_to k o)) (Some x) → NamesFirst (suc k) o (with_sealed x e)
  a_table less is =
      let t = get_some o.tables k less in
      let next : next_file (sealed_to k o) ≡ Some (TableOf t.0) = get_left TableOf (on_first close_table k o.tables) (map BlobOf (on_first close_blob (k - length o.tables) o.blobs)) k t.0 (get_next close_table k o.tables ∙ t.1) in
      table_by k o e names less t.0 t.1 x (subst (λ (n : Option OutFile). IsSealedAs n (Some x)) next is)

  -- it is a blob file
  a_blob : length o.tables ≤ k → k < length (files_of o) → IsSealedAs (next_file (sealed_to k o)) (Some x) → NamesFirst (suc k) o (with_sealed x e)
  a_blob all less is =
      let j : ℕ = k - length o.tables in
      let many = length_files o.tables o.blobs in
      let small : j < length o.blobs = omega (arith, many) in
      let b = get_some o.blobs j small in
      let size : length (on_first close_table k o.tables) ≡ length o.tables = length_first close_table k o.tables in
      let place : k - length (on_first close_table k o.tables) ≡ j = ap (λ n. k - n) size in
      let next : next_file (sealed_to k o) ≡ Some (BlobOf b.0) =
      get_right TableOf (on_first close_table k o.tables) (map BlobOf (on_first close_blob j o.blobs)) k (omega arith) ∙ ap (slice_get (map BlobOf (on_first close_blob j o.blobs))) place
      ∙ get_mapped BlobOf (on_first close_blob j o.blobs) j b.0 (get_next close_blob j o.blobs ∙ b.1) in
      blob_by k o e names all b.0 b.1 x (subst (λ (n : Option OutFile). IsSealedAs n (Some x)) next is)

  pub one_more : k < length (files_of o) → IsSealedAs (next_file (sealed_to k o)) (Some x) → NamesFirst (suc k) o (with_sealed x e)
  one_more less is = by (nat_lt k (length o.tables)) refl
    where
      by : (b : Bool) → nat_lt k (length o.tables) ≡ b → NamesFirst (suc k) o (with_sealed x e)
      by true t = a_table (ltb-true k (length o.tables) t) is
      by false t = a_blob (ltb-false k (length o.tables) t) less is

-- there is a next file where one was sealed, and none where none was
there_was : (k : ℕ) (o : Out) (x : Sealed) → IsSealedAs (next_file (sealed_to k o)) (Some x) → k < length (files_of o)
there_was k o x is = by (nat_lt k (length (files_of o))) refl
  where
    by : (b : Bool) → nat_lt k (length (files_of o)) ≡ b → k < length (files_of o)
    by true t = ltb-true k (length (files_of o)) t
    by false t =
        let le : length (files_of o) ≤ k = ltb-false k (length (files_of o)) t in
        let none : next_file (sealed_to k o) ≡ None = get_end (files_of (sealed_to k o)) k (let e = size_to k o in omega (arith, e)) in
        absurd (subst (λ (n : Option OutFile). IsSealedAs n (Some x)) none is)

not_none : (f : OutFile) → IsSealedAs (Some f) None → ⊥
not_none (TableOf t) h = h
not_none (BlobOf b) h = h

there_was_none : (k : ℕ) (o : Out) → IsSealedAs (next_file (sealed_to k o)) None → length (files_of o) ≤ k
there_was_none k o is = by (nat_lt k (length (files_of o))) refl
  where
    by : (b : Bool) → nat_lt k (length (files_of o)) ≡ b → length (files_of o) ≤ k
    by false t = ltb-false k (length (files_of o)) t
    by true t =
        let less : k < length (files_of (sealed_to k o)) = let e = size_to k o in let l = ltb-true k (length (files_of o)) t in omega (arith, e, l) in
        let f = get_some (files_of (sealed_to k o)) k less in
        absurd (not_none f.0 (subst (λ (n : Option OutFile). IsSealedAs n None) f.1 is))

module _ {S : Type 0} (g : Ghosts S) (began : State) (start : S) where
  filled : (k : ℕ) (o : Out) (from next : ℕ) → IsMade from next o → AreFilled (sealed_to k o)
  filled k o from next m = all_first (λ t. 1 ≤ length t.entries) close_table (λ t h. h) k o.tables (some_each o.tables m.tables)
    where
      some_each : (ts : List OutTable) → AllByRecursion (IsTableFrom from) ts → AllByRecursion (λ t. 1 ≤ length t.entries) ts
      some_each [] h = tt
      some_each (t ∷ ts) h = (h.0.some, some_each ts h.1)

  ordered : (k : ℕ) (o : Out) (from next : ℕ) → IsMade from next o → IsOrdered next (sealed_to k o)
  ordered k o from next m = record {
    tables = subst (AscendTo next) (sym (named_first close_table (λ (t : OutTable). t.number) (λ t. refl) k o.tables)) m.ordered.tables;
    blobs = subst (AscendTo next) (sym (named_first close_blob (λ (b : OutBlob). b.number) (λ b. refl) (k - length o.tables) o.blobs)) m.ordered.blobs;
  }

  pub sealing_starts : (g.shows → IsOnly g start) → (g.shows → IsNow g start) → began.failed ≡ false → (g.shows → AreThere (g.disk start) began) → FitsWords no_field → IsSealing g began began no_field start start
  sealing_starts only now usable there fits = record {
    sealed = λ o from next out made.
        let none : began.sealed ≡ 0 = sym out.sealed ∙ made.unsealed in
        let same : sealed_to began.sealed o ≡ o = ap (λ k. sealed_to k o) none ∙ sealed_zero o made.unsealed in
        let z : began.sealed - length o.tables ≡ 0 = omega (arith, none) in
        record {
          out = subst (λ (p : Out). IsOut p began) (sym same) out;
          within = omega (arith, none);
          holds = λ shown h. subst (HoldsOut (g.disk start)) (sym same) h;
          names = record { tables = []; named = subst (λ (k : ℕ). AreNamed (take k o.tables) []) (sym none) tt; is = ap (λ k. record no_field { added = []; blobs = map addition_of (take k o.blobs) }) (sym z) };
        };
    usable = usable;
    drawn = refl;
    there = there;
    certain = λ shown sure. sure;
    fits = fits;
    touches = touches_nothing g (names_of began.drawn) start only now;
    tells_nothing = record { told = λ shown. refl; later = omega arith; tell_faults = refl };
    asked = inr refl;
  }

  asked_on : (mid new : S) → Rose (g.changes start) (g.changes mid) ⊎ (mid ≡ start) → Rose (g.changes mid) (g.changes new) ⊎ (new ≡ mid) → Rose (g.changes start) (g.changes new) ⊎ (new ≡ start)
  asked_on mid new (inl a) (inl b) = inl (rose_then (g.changes start) (g.changes mid) (g.changes new) a b)
  asked_on mid new (inl a) (inr b) = inl (subst (λ (x : S). Rose (g.changes start) (g.changes x)) (sym b) a)
  asked_on mid new (inr a) (inl b) = inl (subst (λ (x : S). Rose (g.changes x) (g.changes new)) a b)
  asked_on mid new (inr a) (inr b) = inr (b ∙ a)

  module _ (s s_new : State) (e : Edit) (site site_new : S) (i : IsSealing g began s e start site) (drawn : s_new.drawn ≡ s.drawn) (touches : TouchesOnly g (names_of s_new.drawn) site site_new) (silent : TellsNothing g site site_new)
      (asked : Rose (g.changes site) (g.changes site_new) ⊎ (site_new ≡ site)) where
    pub touches_so : TouchesOnly g (names_of began.drawn) start site_new
    touches_so = touches_join g (names_of began.drawn) start site site_new i.touches i.certain i.tells_nothing (subst (λ (ns : List ℕ). TouchesOnly g (names_of ns) site site_new) (drawn ∙ i.drawn) touches)

    pub tells_so : TellsNothing g start site_new
    tells_so = silent_on g start site site_new i.tells_nothing silent

    pub asked_so : Rose (g.changes start) (g.changes site_new) ⊎ (site_new ≡ start)
    asked_so = asked_on site site_new i.asked asked

    module _ (law : SealsNext) (becomes : (next : ℕ) → Becomes g next sealed_next s s_new site site_new) (usable : s_new.failed ≡ false) where
      -- the next file of an output that was made is sealed
      one_sealed : (o : Out) (from next : ℕ) → IsOut o began → IsMade from next o → (x : Sealed) → IsSealedAs (next_file (sealed_to s.sealed o)) (Some x) → AreSealed g o s_new (with_sealed x e) start site_new × (s_new.sealed ≡ suc s.sealed)
      one_sealed o from next out made x is =
          let a = i.sealed o from next out made in
          let less = there_was s.sealed o x is in
          let step : sealed_next (sealed_to s.sealed o) ≡ sealed_to (suc s.sealed) o = law s.sealed o less in
          let now : IsOut (sealed_to (suc s.sealed) o) s_new = subst (λ (p : Out). IsOut p s_new) step ((becomes next).out (sealed_to s.sealed o) a.out) in
          let count : s_new.sealed ≡ suc s.sealed = sym now.sealed in (
            record {
              out = subst (λ (k : ℕ). IsOut (sealed_to k o) s_new) (sym count) now;
              within = omega (arith, less, count);
              holds = λ shown h. subst (λ (k : ℕ). HoldsOut (g.disk site_new) (sealed_to k o)) (sym count) (subst (HoldsOut (g.disk site_new)) step ((becomes next).holds shown (sealed_to s.sealed o) a.out (ordered s.sealed o from next made) (a.holds shown h)));
              names = subst (λ (k : ℕ). NamesFirst k o (with_sealed x e)) (sym count) (one_more s.sealed o x e a.names less is);
            },
            count,
          )

      pub sealing_goes_on : (x : Sealed) → ((o : Out) → IsOut o s → AreFilled o → IsSealedAs (next_file o) (Some x)) → FitsWords (with_sealed x e) → IsSealing g began s_new (with_sealed x e) start site_new
      sealing_goes_on x named fits = record {
        sealed = λ o from next out made. (one_sealed o from next out made x (named (sealed_to s.sealed o) (i.sealed o from next out made).out (filled s.sealed o from next made))).0;
        usable = usable;
        drawn = drawn ∙ i.drawn;
        there = λ shown. (becomes 0).there shown (i.there shown);
        certain = λ shown sure. (becomes 0).certain shown (i.certain shown sure);
        fits = fits;
        touches = touches_so;
        tells_nothing = tells_so;
        asked = asked_so;
      }

      pub fewer_left : (x : Sealed) → ((o : Out) → IsOut o s → AreFilled o → IsSealedAs (next_file o) (Some x)) → (o : Out) (from next : ℕ) → IsOut o began → IsMade from next o → files_left s_new < files_left s
      fewer_left x named o from next out made =
          let a = i.sealed o from next out made in
          let is = named (sealed_to s.sealed o) a.out (filled s.sealed o from next made) in
          let b = one_sealed o from next out made x is in
          let less = there_was s.sealed o x is in
          let n = left_of (sealed_to s.sealed o) s a.out in
          let m = left_of (sealed_to s_new.sealed o) s_new b.0.out in
          let p = size_to s.sealed o in
          let q = size_to s_new.sealed o in
          let c = b.1 in
          omega (arith, less, n, m, p, q, c)

  -- all are sealed
  module _ (s : State) (e : Edit) (site : S) (i : IsSealing g began s e start site) (law : SealsToTheEnd) (named : (o : Out) → IsOut o s → AreFilled o → IsSealedAs (next_file o) None) (o : Out) (from next : ℕ) (out : IsOut o began) (made : IsMade from next o) where
    abbrev a : AreSealed g o s e start site
    a = i.sealed o from next out made

    all : s.sealed ≡ length (files_of o)
    all = let le = there_was_none s.sealed o (named (sealed_to s.sealed o) a.out (filled s.sealed o from next made)) in let ge = a.within in omega (arith, le, ge)

    done : sealed_to s.sealed o ≡ finished o
    done = ap (λ k. sealed_to k o) all ∙ (law o).1

    pub edit_done : IsEditOf (finished o) e
    edit_done =
        let many = length_files o.tables o.blobs in
        let ts : take s.sealed o.tables ≡ o.tables = take_all s.sealed o.tables (omega (arith, all, many)) in
        let bs : take (s.sealed - length o.tables) o.blobs ≡ o.blobs = take_all (s.sealed - length o.tables) o.blobs (omega (arith, all, many)) in
        record {
          tables = a.names.tables;
          named = named_closed o.tables a.names.tables (subst (λ (us : List OutTable). AreNamed us a.names.tables) ts a.names.named);
          is = a.names.is ∙ ap (λ cs. record no_field { added = a.names.tables; blobs = map addition_of cs }) bs ∙ ap (λ as_. record no_field { added = a.names.tables; blobs = as_ }) (sym (additions_closed o.blobs));
        }

    pub held_done : g.shows → HoldsOut (g.disk start) o → HoldsOut (g.disk site) (finished o)
    held_done shown h = subst (HoldsOut (g.disk site)) done (a.holds shown h)
