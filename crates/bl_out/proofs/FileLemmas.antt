-- What the files hold where one of them changes.
use Rattle.std.proofs.Common.{◌≡◌, ◌≢◌, ℕ, zero, suc, ◌+◌, ◌<◌, ◌≤◌, List, [], ◌∷◌, ◌++◌, length, take, drop, refl, sym, ◌∙◌, ap, subst, arith, Option, Some, None, append_assoc, append-nil, length-append}
use Rattle.std.specs.Prelude.{map, IsSome, is_some}
use Rattle.std.specs.List.{AllByRecursion}
use Rattle.std.proofs.lemmas.List.{map-append, length-map}
use Rattle.std.proofs.lemmas.Bool.{false≢true}
use Rattle.bl_site.specs.Disk.{Disk, File, Name}
use Rattle.bl_site.specs.Calls.{Creates, Puts}
use Rattle.bl_names.specs.Names.{IsNumber, NamesOne, name_of}
use Rattle.bl_names.specs.declared.name.FileName.TheVariants.{Table, Blob}
use Rattle.bl_out.specs.Held.{HoldsFile, HoldsSealed, bytes_in, name_in}
use Rattle.bl_out.specs.Making.{Follows}
use Rattle.bl_out.specs.Outputs.{OutBlob, OutFile, OutTable, TableOf, BlobOf}
use Rattle.bl_out.specs.States.{AscendTo}

-- ---- all of a list

pub all_both : {A : Type 0} (P : A → Type 0) (xs ys : List A) → AllByRecursion P xs → AllByRecursion P ys → AllByRecursion P (xs ++ ys)
all_both P [] ys p q = q
all_both P (x ∷ xs) ys p q = (p.0, all_both P xs ys p.1 q)

pub all_front : {A : Type 0} (P : A → Type 0) (xs ys : List A) → AllByRecursion P (xs ++ ys) → AllByRecursion P xs
all_front P [] ys p = tt
all_front P (x ∷ xs) ys p = (p.0, all_front P xs ys p.1)

pub all_behind : {A : Type 0} (P : A → Type 0) (xs ys : List A) → AllByRecursion P (xs ++ ys) → AllByRecursion P ys
all_behind P [] ys p = p
all_behind P (x ∷ xs) ys p = all_behind P xs ys p.1

pub all_to : {A : Type 0} (P Q : A → Type 0) (xs : List A) → ((x : A) → P x → Q x) → AllByRecursion P xs → AllByRecursion Q xs
all_to P Q [] f p = tt
all_to P Q (x ∷ xs) f p = (f x p.0, all_to P Q xs f p.1)

pub all_two : {A : Type 0} (P Q R : A → Type 0) (xs : List A) → ((x : A) → P x → Q x → R x) → AllByRecursion P xs → AllByRecursion Q xs → AllByRecursion R xs
all_two P Q R [] f p q = tt
all_two P Q R (x ∷ xs) f p q = (f x p.0 q.0, all_two P Q R xs f p.1 q.1)

all_map : {A B : Type 0} (f : A → B) (P : B → Type 0) (xs : List A) → AllByRecursion (λ x. P (f x)) xs → AllByRecursion P (map f xs)
all_map f P [] p = tt
all_map f P (x ∷ xs) p = (p.0, all_map f P xs p.1)

all_of_map : {A B : Type 0} (f : A → B) (P : B → Type 0) (xs : List A) → AllByRecursion P (map f xs) → AllByRecursion (λ x. P (f x)) xs
all_of_map f P [] p = tt
all_of_map f P (x ∷ xs) p = (p.0, all_of_map f P xs p.1)

-- ---- ascending numbers

-- those before the last one are below it
pub below_last : {A : Type 0} (number : A → ℕ) (next : ℕ) (front : List A) (x : A) → AscendTo next (map number (front ++ x ∷ [])) → AllByRecursion (λ y. number y < number x) front
below_last number next [] x up = tt
below_last number next (y ∷ front) x up =
    let above : AllByRecursion (λ y. number y < number x) front = below_last number next front x up.2 in
    let behind : AllByRecursion (λ z. number y < number z) (front ++ x ∷ []) = all_of_map number (λ m. number y < m) (front ++ x ∷ []) up.1 in
    ((all_behind (λ z. number y < number z) front (x ∷ []) behind).0, above)

pub below_next : {A : Type 0} (number : A → ℕ) (next : ℕ) (xs : List A) → AscendTo next (map number xs) → AllByRecursion (λ y. number y < next) xs
below_next number next [] up = tt
below_next number next (y ∷ xs) up = (up.0, below_next number next xs up.2)

pub ascend_more : {A : Type 0} (number : A → ℕ) (next : ℕ) (xs : List A) (x : A) → number x ≡ next → AscendTo next (map number xs) → AscendTo (next + 1) (map number (xs ++ x ∷ []))
ascend_more number next [] x is up = (omega arith, tt, tt)
ascend_more number next (y ∷ xs) x is up =
    let below : number y < next = up.0 in
    let last : AllByRecursion (λ z. number y < number z) (x ∷ []) = (omega arith, tt) in
    (omega arith, all_map number (λ m. number y < m) (xs ++ x ∷ []) (all_both (λ z. number y < number z) xs (x ∷ []) (all_of_map number (λ m. number y < m) xs up.1) last), ascend_more number next xs x is up.2)

pub ascend_later : (next : ℕ) (ns : List ℕ) → AscendTo next ns → AscendTo (next + 1) ns
ascend_later next [] up = tt
ascend_later next (n ∷ ns) up = let below : n < next = up.0 in (omega arith, up.1, ascend_later next ns up.2)

-- ---- names

pub tables_differ : NamesOne → (m n : ℕ) → IsNumber m → IsNumber n → m < n → name_of (Table m) ≢ name_of (Table n)
tables_differ names_one m n is_m is_n less same =
    let one : Table m ≡ Table n = names_one (name_of (Table m)) (Table m) (Table n) (is_m, refl) (is_n, same) in
    let e : m ≡ n = cc in absurd (omega arith)

pub blobs_differ : NamesOne → (m n : ℕ) → IsNumber m → IsNumber n → m < n → name_of (Blob m) ≢ name_of (Blob n)
blobs_differ names_one m n is_m is_n less same =
    let one : Blob m ≡ Blob n = names_one (name_of (Blob m)) (Blob m) (Blob n) (is_m, refl) (is_n, same) in
    let e : m ≡ n = cc in absurd (omega arith)

pub kinds_differ : NamesOne → (m n : ℕ) → IsNumber m → IsNumber n → name_of (Table m) ≢ name_of (Blob n)
kinds_differ names_one m n is_m is_n same = let one : Table m ≡ Blob n = names_one (name_of (Table m)) (Table m) (Blob n) (is_m, refl) (is_n, same) in absurd cc

-- ---- one file changes

-- the file is as it was
abbrev pub Same : Disk → Disk → OutFile → Type 0
Same old new f = new (name_of (name_in f)) ≡ old (name_of (name_in f))

-- the first so many are sealed, and the others hold what was written
unfoldable pub HoldsFirst : Disk → ℕ → List OutFile → Type 0
HoldsFirst disk n fs = AllByRecursion (HoldsSealed disk) (take n fs) × AllByRecursion (HoldsFile disk) (drop n fs)

sealed_on : (old new : Disk) (f : OutFile) → Same old new f → HoldsSealed old f → HoldsSealed new f
sealed_on old new f same h = record { file = h.file; there = same ∙ h.there; read = h.read; front = h.front; handed = h.handed }

file_on : (old new : Disk) (f : OutFile) → Same old new f → HoldsFile old f → HoldsFile new f
file_on old new f same h = record { file = h.file; there = same ∙ h.there; read = h.read; written = h.written }

all_on : (old new : Disk) (fs : List OutFile) → AllByRecursion (Same old new) fs → AllByRecursion (HoldsFile old) fs → AllByRecursion (HoldsFile new) fs
all_on old new fs same h = all_two (Same old new) (HoldsFile old) (HoldsFile new) fs (file_on old new) same h

first_on : (old new : Disk) (n : ℕ) (fs : List OutFile) → AllByRecursion (Same old new) fs → HoldsFirst old n fs → HoldsFirst new n fs
unfolding HoldsFirst
first_on old new zero fs same h = (tt, all_on old new fs same h.1)
first_on old new (suc n) [] same h = (tt, tt)
first_on old new (suc n) (f ∷ fs) same h =
    let more : HoldsFirst new n fs = first_on old new n fs same.1 (h.0.1, h.1) in
    ((sealed_on old new f same.0 h.0.0, more.0), more.1)

first_of : (disk : Disk) (n : ℕ) (xs ys : List OutFile) → n ≤ length xs → HoldsFirst disk n (xs ++ ys) → HoldsFirst disk n xs × AllByRecursion (HoldsFile disk) ys
unfolding HoldsFirst
first_of disk zero xs ys le h = ((tt, all_front (HoldsFile disk) xs ys h.1), all_behind (HoldsFile disk) xs ys h.1)
first_of disk (suc n) [] ys le h = absurd (omega arith)
first_of disk (suc n) (x ∷ xs) ys le h =
    let more : HoldsFirst disk n xs × AllByRecursion (HoldsFile disk) ys = first_of disk n xs ys (omega arith) (h.0.1, h.1) in
    (((h.0.0, more.0.0), more.0.1), more.1)

first_with : (disk : Disk) (n : ℕ) (xs ys : List OutFile) → n ≤ length xs → HoldsFirst disk n xs → AllByRecursion (HoldsFile disk) ys → HoldsFirst disk n (xs ++ ys)
unfolding HoldsFirst
first_with disk zero xs ys le h more = (tt, all_both (HoldsFile disk) xs ys h.1 more)
first_with disk (suc n) [] ys le h more = absurd (omega arith)
first_with disk (suc n) (x ∷ xs) ys le h more =
    let rest : HoldsFirst disk n (xs ++ ys) = first_with disk n xs ys (omega arith) (h.0.1, h.1) more in
    ((h.0.0, rest.0), rest.1)

-- a file in the middle, behind the sealed ones, has changed
pub one_changes : (old new : Disk) (n : ℕ) (front : List OutFile) (x y : OutFile) (back : List OutFile) → n ≤ length front → AllByRecursion (Same old new) front → AllByRecursion (Same old new) back
    → (HoldsFile old x → HoldsFile new y) → HoldsFirst old n (front ++ x ∷ back) → HoldsFirst new n (front ++ y ∷ back)
one_changes old new n front x y back le before behind change h =
    let parts = first_of old n front (x ∷ back) le h in
    first_with new n front (y ∷ back) le (first_on old new n front before parts.0) (change parts.1.0, all_on old new back behind parts.1.1)

-- one more is there
pub one_more_file : (old new : Disk) (n : ℕ) (front : List OutFile) (y : OutFile) (back : List OutFile) → n ≤ length front → AllByRecursion (Same old new) front → AllByRecursion (Same old new) back
    → HoldsFile new y → HoldsFirst old n (front ++ back) → HoldsFirst new n (front ++ y ∷ back)
one_more_file old new n front y back le before behind made h =
    let parts = first_of old n front back le h in
    first_with new n front (y ∷ back) le (first_on old new n front before parts.0) (made, all_on old new back behind parts.1)

pub some_is : {A : Type 0} {x y : A} → Some x ≡ Some y → x ≡ y
some_is e = cc

-- bytes follow in a file
pub grows : (old new : Disk) (f : OutFile) (g : OutFile) → name_of (name_in g) ≡ name_of (name_in f) → Follows (name_of (name_in f)) (bytes_in f) (bytes_in g) old new → HoldsFile old f → HoldsFile new g
grows old new f g same follows held =
    let was = follows.appends.file in
    let is : was ≡ held.file = some_is (sym follows.appends.was ∙ held.there) in
    record {
      file = record { read = was.read ++ follows.bytes; front = was.front; handed = was.handed ++ follows.bytes };
      there = ap new same ∙ follows.appends.puts.at;
      read = ap (λ (x : File). x.read ++ follows.bytes) is ∙ ap (λ (bs : List ℕ). bs ++ follows.bytes) held.read ∙ sym follows.behind;
      written = sym (append_assoc was.front was.handed follows.bytes) ∙ ap (λ (x : File). (x.front ++ x.handed) ++ follows.bytes) is ∙ ap (λ (bs : List ℕ). bs ++ follows.bytes) held.written ∙ sym follows.behind;
    }

-- a file that is made is empty
pub begins_empty : (old new : Disk) (f : OutFile) → Creates (name_of (name_in f)) old new → bytes_in f ≡ [] → HoldsFile new f
begins_empty old new f made empty = record { file = record { read = []; front = []; handed = [] }; there = made.at; read = sym empty; written = sym empty }

-- what was there is there
pub still_there : (name : Name) (file : File) (old new : Disk) → Puts name file old new → (other : Name) → IsSome (old other) → IsSome (new other)
still_there name file old new puts other was = by (new other) refl
  where
    by : (o : Option File) → new other ≡ o → IsSome (new other)
    by (Some x) e = ap is_some e
    by None e =
        let differs : other ≢ name = λ (same : other ≡ name). let at : new name ≡ None = ap new (sym same) ∙ e in let there = puts.at in cc in
        let gone : old other ≡ None = sym (puts.others other differs) ∙ e in
        absurd (false≢true (sym (ap is_some gone) ∙ was))

-- ---- tables, and then blob files

files_split : (front : List OutTable) (t : OutTable) (bs : List OutBlob) → map TableOf (front ++ t ∷ []) ++ map BlobOf bs ≡ map TableOf front ++ TableOf t ∷ map BlobOf bs
files_split front t bs = ap (λ (fs : List OutFile). fs ++ map BlobOf bs) (map-append TableOf front (t ∷ [])) ∙ append_assoc (map TableOf front) (TableOf t ∷ []) (map BlobOf bs)

blobs_split : (ts : List OutTable) (front : List OutBlob) (b : OutBlob) → map TableOf ts ++ map BlobOf (front ++ b ∷ []) ≡ (map TableOf ts ++ map BlobOf front) ++ BlobOf b ∷ []
blobs_split ts front b = ap (λ (fs : List OutFile). map TableOf ts ++ fs) (map-append BlobOf front (b ∷ [])) ∙ sym (append_assoc (map TableOf ts) (map BlobOf front) (BlobOf b ∷ []))

module _ (old new : Disk) (n : ℕ) where
  pub table_changes : (front : List OutTable) (t u : OutTable) (bs : List OutBlob) → n ≤ length front → AllByRecursion (λ x. Same old new (TableOf x)) front → AllByRecursion (λ x. Same old new (BlobOf x)) bs
      → (HoldsFile old (TableOf t) → HoldsFile new (TableOf u)) → HoldsFirst old n (map TableOf (front ++ t ∷ []) ++ map BlobOf bs) → HoldsFirst new n (map TableOf (front ++ u ∷ []) ++ map BlobOf bs)
  table_changes front t u bs le before behind change h =
      let long : n ≤ length (map TableOf front) = omega (arith, length-map front TableOf) in
      subst (HoldsFirst new n) (sym (files_split front u bs))
      (one_changes old new n (map TableOf front) (TableOf t) (TableOf u) (map BlobOf bs) long (all_map TableOf (Same old new) front before) (all_map BlobOf (Same old new) bs behind) change
      (subst (HoldsFirst old n) (files_split front t bs) h))

  pub table_begins : (ts : List OutTable) (u : OutTable) (bs : List OutBlob) → n ≤ length ts → AllByRecursion (λ x. Same old new (TableOf x)) ts → AllByRecursion (λ x. Same old new (BlobOf x)) bs
      → HoldsFile new (TableOf u) → HoldsFirst old n (map TableOf ts ++ map BlobOf bs) → HoldsFirst new n (map TableOf (ts ++ u ∷ []) ++ map BlobOf bs)
  table_begins ts u bs le before behind made h =
      let long : n ≤ length (map TableOf ts) = omega (arith, length-map ts TableOf) in
      subst (HoldsFirst new n) (sym (files_split ts u bs))
      (one_more_file old new n (map TableOf ts) (TableOf u) (map BlobOf bs) long (all_map TableOf (Same old new) ts before) (all_map BlobOf (Same old new) bs behind) made h)

  all_before : (ts : List OutTable) (bs : List OutBlob) → AllByRecursion (λ x. Same old new (TableOf x)) ts → AllByRecursion (λ x. Same old new (BlobOf x)) bs → AllByRecursion (Same old new) (map TableOf ts ++ map BlobOf bs)
  all_before ts bs p q = all_both (Same old new) (map TableOf ts) (map BlobOf bs) (all_map TableOf (Same old new) ts p) (all_map BlobOf (Same old new) bs q)

  files_length : (ts : List OutTable) (bs : List OutBlob) → n ≤ length ts + length bs → n ≤ length (map TableOf ts ++ map BlobOf bs)
  files_length ts bs le = omega (arith, length-append (map TableOf ts) (map BlobOf bs), length-map ts TableOf, length-map bs BlobOf)

  pub blob_changes : (ts : List OutTable) (front : List OutBlob) (b c : OutBlob) → n ≤ length ts + length front → AllByRecursion (λ x. Same old new (TableOf x)) ts → AllByRecursion (λ x. Same old new (BlobOf x)) front
      → (HoldsFile old (BlobOf b) → HoldsFile new (BlobOf c)) → HoldsFirst old n (map TableOf ts ++ map BlobOf (front ++ b ∷ [])) → HoldsFirst new n (map TableOf ts ++ map BlobOf (front ++ c ∷ []))
  blob_changes ts front b c le before behind change h =
      subst (HoldsFirst new n) (sym (blobs_split ts front c))
      (one_changes old new n (map TableOf ts ++ map BlobOf front) (BlobOf b) (BlobOf c) [] (files_length ts front le) (all_before ts front before behind) tt change
      (subst (HoldsFirst old n) (blobs_split ts front b) h))

  pub blob_begins : (ts : List OutTable) (bs : List OutBlob) (c : OutBlob) → n ≤ length ts + length bs → AllByRecursion (λ x. Same old new (TableOf x)) ts → AllByRecursion (λ x. Same old new (BlobOf x)) bs
      → HoldsFile new (BlobOf c) → HoldsFirst old n (map TableOf ts ++ map BlobOf bs) → HoldsFirst new n (map TableOf ts ++ map BlobOf (bs ++ c ∷ []))
  blob_begins ts bs c le before behind made h =
      subst (HoldsFirst new n) (sym (blobs_split ts bs c))
      (one_more_file old new n (map TableOf ts ++ map BlobOf bs) (BlobOf c) [] (files_length ts bs le) (all_before ts bs before behind) tt made
      (subst (HoldsFirst old n) (sym (append-nil (map TableOf ts ++ map BlobOf bs))) h))
