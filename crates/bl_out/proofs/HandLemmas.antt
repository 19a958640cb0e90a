-- The files of an output against those in memory.
use Rattle.std.proofs.Common.{◌≡◌, ℕ, suc, false, List, [], ◌∷◌, ◌++◌, length, refl, sym, ap, subst, Option, Some, None}
use Rattle.std.specs.Prelude.{not, IfSome}
use Rattle.std.specs.List.{AllByRecursion}
use Rattle.bl_entry.specs.declared.key.Entry.{Entry}
use Rattle.bl_entry.specs.Entries.{last_of}
use Rattle.bl_edit.specs.declared.edit.NewTable.{NewTable}
use Rattle.bl_edit.specs.declared.edit.BlobAddition.{BlobAddition}
use Rattle.bl_out.specs.Outputs.{Out, OutBlob, OutTable, close_table, goes_on, on_last, passes}
use Rattle.bl_out.specs.States.{AreBlobs, AreTables, BlobHand, Hand, IsBlobClosedAs, IsBlobHandOf, IsClosedAs, IsHandOf}

-- ---- the last one

pub on_last_behind : {A : Type 0} (f : A → A) (xs : List A) (x : A) → on_last f (xs ++ x ∷ []) ≡ xs ++ f x ∷ []
on_last_behind f [] x = refl
on_last_behind f (y ∷ []) x = refl
on_last_behind f (y ∷ z ∷ xs) x = ap (λ ys. y ∷ ys) (on_last_behind f (z ∷ xs) x)

pub last_behind : {A : Type 0} (xs : List A) (x : A) → last_of (xs ++ x ∷ []) ≡ Some x
last_behind [] x = refl
last_behind (y ∷ []) x = refl
last_behind (y ∷ z ∷ xs) x = last_behind (z ∷ xs) x

-- ---- tables

pub record EndsInTable (ts : List OutTable) (ns : List NewTable) (h : Hand) : Type 0 where
  pub front : List OutTable
  pub last : OutTable
  pub is : ts ≡ front ++ last ∷ []
  pub closed : AreTables front ns None
  pub hand : IsHandOf last h

pub ends_in_table : (ts : List OutTable) (ns : List NewTable) (h : Hand) → AreTables ts ns (Some h) → EndsInTable ts ns h
ends_in_table [] [] h a = absurd a
ends_in_table [] (n ∷ ns) h a = absurd a
ends_in_table (t ∷ ts) [] h a = record { front = []; last = t; is = ap (λ us. t ∷ us) a.1; closed = tt; hand = a.0 }
ends_in_table (t ∷ ts) (n ∷ ns) h a = let r = ends_in_table ts ns h a.1 in
    record { front = t ∷ r.front; last = r.last; is = ap (λ us. t ∷ us) r.is; closed = (a.0, r.closed); hand = r.hand }

-- behind closed tables one is in hand
pub tables_begin : (ts : List OutTable) (ns : List NewTable) (t : OutTable) (h : Hand) → AreTables ts ns None → IsHandOf t h → AreTables (ts ++ t ∷ []) ns (Some h)
tables_begin [] [] t h a is = (is, refl)
tables_begin [] (n ∷ ns) t h a is = absurd a
tables_begin (u ∷ ts) [] t h a is = absurd a
tables_begin (u ∷ ts) (n ∷ ns) t h a is = (a.0, tables_begin ts ns t h a.1 is)

-- or one more that is closed
pub tables_close : (ts : List OutTable) (ns : List NewTable) (t : OutTable) (n : NewTable) → AreTables ts ns None → IsClosedAs t n → AreTables (ts ++ t ∷ []) (ns ++ n ∷ []) None
tables_close [] [] t n a is = (is, tt)
tables_close [] (m ∷ ns) t n a is = absurd a
tables_close (u ∷ ts) [] t n a is = absurd a
tables_close (u ∷ ts) (m ∷ ns) t n a is = (a.0, tables_close ts ns t n a.1 is)

pub tables_count : (ts : List OutTable) (ns : List NewTable) → AreTables ts ns None → length ts ≡ length ns
tables_count [] [] a = refl
tables_count [] (n ∷ ns) a = absurd a
tables_count (t ∷ ts) [] a = absurd a
tables_count (t ∷ ts) (n ∷ ns) a = ap suc (tables_count ts ns a.1)

-- where all are closed, closing the last one changes nothing
pub tables_closed : (ts : List OutTable) (ns : List NewTable) → AreTables ts ns None → on_last close_table ts ≡ ts
tables_closed [] ns a = refl
tables_closed (t ∷ []) [] a = absurd a
tables_closed (t ∷ []) (n ∷ ns) a = λ i. record t { closed = sym a.0.closed i } ∷ []
tables_closed (t ∷ u ∷ ts) [] a = absurd a
tables_closed (t ∷ u ∷ ts) (n ∷ ns) a = ap (λ us. t ∷ us) (tables_closed (u ∷ ts) ns a.1)

-- and none goes on
pub none_goes_on : (o : Out) (e : Entry) (ts : List OutTable) (ns : List NewTable) → AreTables ts ns None → passes (goes_on o e) (last_of ts) ≡ false
none_goes_on o e [] ns a = refl
none_goes_on o e (t ∷ []) [] a = absurd a
none_goes_on o e (t ∷ []) (n ∷ ns) a = let closed = a.0.closed in cc
none_goes_on o e (t ∷ u ∷ ts) [] a = absurd a
none_goes_on o e (t ∷ u ∷ ts) (n ∷ ns) a = none_goes_on o e (u ∷ ts) ns a.1

-- their numbers are those in memory
pub tables_numbers : (P : ℕ → Type 0) (ts : List OutTable) (ns : List NewTable) (h : Option Hand) → AreTables ts ns h → AllByRecursion (λ n. P n.number) ns → IfSome h (λ k. P k.number) → AllByRecursion (λ t. P t.number) ts
tables_numbers P [] ns h a all hand = tt
tables_numbers P (t ∷ ts) [] None a all hand = absurd a
tables_numbers P (t ∷ ts) [] (Some h) a all hand = subst (λ us. AllByRecursion (λ u. P u.number) (t ∷ us)) (sym a.1) (subst P (sym a.0.number) hand, tt)
tables_numbers P (t ∷ ts) (n ∷ ns) h a all hand = (subst P (sym a.0.number) all.0, tables_numbers P ts ns h a.1 all.1 hand)

-- ---- blob files

pub record EndsInBlob (bs : List OutBlob) (ns : List BlobAddition) (h : BlobHand) : Type 0 where
  pub front : List OutBlob
  pub last : OutBlob
  pub is : bs ≡ front ++ last ∷ []
  pub closed : AreBlobs front ns None
  pub hand : IsBlobHandOf last h

pub ends_in_blob : (bs : List OutBlob) (ns : List BlobAddition) (h : BlobHand) → AreBlobs bs ns (Some h) → EndsInBlob bs ns h
ends_in_blob [] [] h a = absurd a
ends_in_blob [] (n ∷ ns) h a = absurd a
ends_in_blob (b ∷ bs) [] h a = record { front = []; last = b; is = ap (λ cs. b ∷ cs) a.1; closed = tt; hand = a.0 }
ends_in_blob (b ∷ bs) (n ∷ ns) h a = let r = ends_in_blob bs ns h a.1 in
    record { front = b ∷ r.front; last = r.last; is = ap (λ cs. b ∷ cs) r.is; closed = (a.0, r.closed); hand = r.hand }

pub blobs_begin : (bs : List OutBlob) (ns : List BlobAddition) (b : OutBlob) (h : BlobHand) → AreBlobs bs ns None → IsBlobHandOf b h → AreBlobs (bs ++ b ∷ []) ns (Some h)
blobs_begin [] [] b h a is = (is, refl)
blobs_begin [] (n ∷ ns) b h a is = absurd a
blobs_begin (c ∷ bs) [] b h a is = absurd a
blobs_begin (c ∷ bs) (n ∷ ns) b h a is = (a.0, blobs_begin bs ns b h a.1 is)

pub blobs_close : (bs : List OutBlob) (ns : List BlobAddition) (b : OutBlob) (n : BlobAddition) → AreBlobs bs ns None → IsBlobClosedAs b n → AreBlobs (bs ++ b ∷ []) (ns ++ n ∷ []) None
blobs_close [] [] b n a is = (is, tt)
blobs_close [] (m ∷ ns) b n a is = absurd a
blobs_close (c ∷ bs) [] b n a is = absurd a
blobs_close (c ∷ bs) (m ∷ ns) b n a is = (a.0, blobs_close bs ns b n a.1 is)

pub blobs_count : (bs : List OutBlob) (ns : List BlobAddition) → AreBlobs bs ns None → length bs ≡ length ns
blobs_count [] [] a = refl
blobs_count [] (n ∷ ns) a = absurd a
blobs_count (b ∷ bs) [] a = absurd a
blobs_count (b ∷ bs) (n ∷ ns) a = ap suc (blobs_count bs ns a.1)

-- none is open
pub no_blob : (bs : List OutBlob) (ns : List BlobAddition) → AreBlobs bs ns None → passes (λ (b : OutBlob). not b.closed) (last_of bs) ≡ false
no_blob [] ns a = refl
no_blob (b ∷ []) [] a = absurd a
no_blob (b ∷ []) (n ∷ ns) a = let closed = a.0.closed in cc
no_blob (b ∷ c ∷ bs) [] a = absurd a
no_blob (b ∷ c ∷ bs) (n ∷ ns) a = no_blob (c ∷ bs) ns a.1

pub blobs_numbers : (P : ℕ → Type 0) (bs : List OutBlob) (ns : List BlobAddition) (h : Option BlobHand) → AreBlobs bs ns h → AllByRecursion (λ n. P n.number) ns → IfSome h (λ k. P k.number) → AllByRecursion (λ b. P b.number) bs
blobs_numbers P [] ns h a all hand = tt
blobs_numbers P (b ∷ bs) [] None a all hand = absurd a
blobs_numbers P (b ∷ bs) [] (Some h) a all hand = subst (λ cs. AllByRecursion (λ c. P c.number) (b ∷ cs)) (sym a.1) (subst P (sym a.0.number) hand, tt)
blobs_numbers P (b ∷ bs) (n ∷ ns) h a all hand =
    let same : b.number ≡ n.number = sym (ap (λ (m : BlobAddition). m.number) a.0.names) in
    (subst P (sym same) all.0, blobs_numbers P bs ns h a.1 all.1 hand)
