-- What is found in blob files, and what an edit leaves of them.
use Rattle.std.proofs.Common.{◌≡◌, ◌≢◌, ℕ, ◌<◌, ◌≤◌, Bool, true, false, cond, nat_lt, List, [], ◌∷◌, ◌++◌, refl, sym, ◌∙◌, ap, subst, arith, Option, Some, None, inl, inr}
use Rattle.std.specs.Prelude.{◌==◌, map, filter, find}
use Rattle.std.specs.List.{AllByRecursion}
use Rattle.std.proofs.lemmas.Bool.{false≢true, eqb-true, eq-eqb}
use Rattle.bl_blob.specs.BlobFile.{Record, blobs_of}
use Rattle.bl_build.specs.declared.meta.BlobMeta.{BlobMeta}
use Rattle.bl_build.specs.Listing.{Ascends, placed, all_placed}
use Rattle.bl_entry.specs.declared.key.Kind.{Kind}
use Rattle.bl_entry.specs.declared.key.Kind.TheVariants.{Deletion, Value, BlobRef}
use Rattle.bl_entry.specs.declared.key.Entry.{Entry}
use Rattle.bl_entry.specs.Revisions.{Revision}
use Rattle.bl_index.specs.declared.index.BlobIndex.{BlobIndex}
use Rattle.bl_out.specs.References.{index_in, index_of}
use Rattle.bl_folder.specs.Entries.{records_by}
use Rattle.bl_folder.specs.Holding.{BlobFile}
use Rattle.bl_out.specs.Finding.{◌then◌}
use Rattle.bl_out.specs.Values.{is_named, resolved, put_of, revision_of}
use Rattle.bl_compacted.specs.Pairs.{Pairwise}
use Rattle.bl_compacted.proofs.Finding.{some_is, went}
use Rattle.bl_compacted.specs.Installing.{from_linked_on, number_of, with_meta}
use Rattle.bl_compacted.specs.Shuffles.{Shuffled, keep, turn, join}
use Rattle.bl_compacted.proofs.Lists.{In, by_test, in_all, all_in, middle, same}

-- ---- the records of a file

abbrev pub records_at : ℕ → List BlobFile → Option (List Record)
records_at n [] = None
records_at n (b ∷ bs) = cond (b.meta.number == n) (Some b.records) (records_at n bs)

abbrev value_in : List ℕ → BlobIndex → Option (List Record) → Option (List ℕ)
value_in key index o = o then λ rs. find (is_named key index) (blobs_of rs) then λ r. Some r.value

found_by : (n : ℕ) (blobs : List BlobFile) → records_by blobs n ≡ records_at n blobs
found_by n [] = refl
found_by n (b ∷ bs) = by (b.meta.number == n) (found_by n bs)
  where
    by : (t : Bool) → records_by bs n ≡ records_at n bs → (cond t (Some b) (find (λ x. x.meta.number == n) bs) then λ x. Some x.records) ≡ cond t (Some b.records) (records_at n bs)
    by true e = refl
    by false e = e

resolved_by : (blobs : List BlobFile) (key : List ℕ) (index : BlobIndex) → resolved (records_by blobs) key index ≡ value_in key index (records_at index.file blobs)
resolved_by blobs key index = ap (value_in key index) (found_by index.file blobs)

-- an entry reads alike where the file that it names has the same records
pub revision_same : (us bs : List BlobFile) (e : Entry) → ((i : BlobIndex) → index_of e ≡ Some i → records_at i.file us ≡ records_at i.file bs) → revision_of (records_by us) e ≡ revision_of (records_by bs) e
revision_same us bs e same_records = ap (λ o. o then λ put. Some (record { key = e.key.user; seq = e.key.seq; put = put })) (by_kind e.key.kind refl)
  where
    by_index : (o : Option BlobIndex) → index_of e ≡ o
        → (o then λ index. resolved (records_by us) e.key.user index then λ value. Some (Some value)) ≡ (o then λ index. resolved (records_by bs) e.key.user index then λ value. Some (Some value))
    by_index None is = refl
    by_index (Some i) is =
        ap (λ (v : Option (List ℕ)). v then λ value. Some (Some value))
        (resolved_by us e.key.user i ∙ ap (value_in e.key.user i) (same_records i is) ∙ sym (resolved_by bs e.key.user i))

    by_kind : (k : Kind) → e.key.kind ≡ k → put_of (records_by us) k e ≡ put_of (records_by bs) k e
    by_kind Deletion is = refl
    by_kind Value is = refl
    by_kind BlobRef is = by_index (index_of e) refl

-- where it reads as something, the file that it names is there
pub refers_there : (bs : List BlobFile) (e : Entry) (r : Revision) (i : BlobIndex) → revision_of (records_by bs) e ≡ Some r → index_of e ≡ Some i → (rs : List Record) × (records_at i.file bs ≡ Some rs)
refers_there bs e r i reads is =
    let p = went (put_of (records_by bs) e.key.kind e) (λ put. Some (record { key = e.key.user; seq = e.key.seq; put = put })) r reads in
    by_kind e.key.kind refl p.from p.gives is
  where
    by_kind : (k : Kind) → e.key.kind ≡ k → (put : Option (List ℕ)) → put_of (records_by bs) k e ≡ Some put → index_in k e.value ≡ Some i → (rs : List Record) × (records_at i.file bs ≡ Some rs)
    by_kind Deletion k put a b = absurd cc
    by_kind Value k put a b = absurd cc
    by_kind BlobRef k put a b =
        let x = went (index_of e) (λ index. resolved (records_by bs) e.key.user index then λ value. Some (Some value)) put a in
        let y = went (resolved (records_by bs) e.key.user x.from) (λ value. Some (Some value)) put x.makes in
        let z = went (records_at x.from.file bs) (λ rs. find (is_named e.key.user x.from) (blobs_of rs) then λ r. Some r.value) y.from (sym (resolved_by bs e.key.user x.from) ∙ y.gives) in
        let one : x.from ≡ i = some_is (sym x.gives ∙ is) in
        (z.from, subst (λ (j : BlobIndex). records_at j.file bs ≡ Some z.from) one z.gives)

pub records_there : (n : ℕ) (bs : List BlobFile) (rs : List Record) → records_at n bs ≡ Some rs → (b : BlobFile) × In b bs × (b.meta.number ≡ n)
records_there n [] rs e = absurd cc
records_there n (b ∷ bs) rs e =
    by_test (b.meta.number == n) (λ t. (b, inl refl, eqb-true b.meta.number n t))
    (λ t. further (records_there n bs rs (sym (ap (λ c. cond c (Some b.records) (records_at n bs)) t) ∙ e)))
  where
    further : (x : BlobFile) × In x bs × (x.meta.number ≡ n) → (x : BlobFile) × In x (b ∷ bs) × (x.meta.number ≡ n)
    further (x, i, is) = (x, inr i, is)

-- ---- accounts changed

other : (a b : ℕ) → a ≢ b → (a == b) ≡ false
other a b n = by_test (a == b) (λ t. absurd (n (eqb-true a b t))) (λ t. t)

pub records_mapped : (f : BlobMeta → BlobMeta) → ((m : BlobMeta) → (f m).number ≡ m.number) → (n : ℕ) (bs : List BlobFile) → records_at n (map (with_meta f) bs) ≡ records_at n bs
records_mapped f keeps n [] = refl
records_mapped f keeps n (b ∷ bs) = λ i. cond (keeps b.meta i == n) (Some b.records) (records_mapped f keeps n bs i)

-- ---- files left out

pub records_filtered : (p : BlobFile → Bool) (n : ℕ) (bs : List BlobFile) → AllByRecursion (λ b. b.meta.number ≡ n → p b ≡ true) bs → records_at n (filter p bs) ≡ records_at n bs
records_filtered p n [] h = refl
records_filtered p n (b ∷ bs) h =
    by_test (p b)
    (λ t.
    ap (λ c. records_at n (cond c (b ∷ filter p bs) (filter p bs))) t ∙ ap (cond (b.meta.number == n) (Some b.records)) (records_filtered p n bs h.1))
    (λ t.
    ap (λ c. records_at n (cond c (b ∷ filter p bs) (filter p bs))) t ∙ records_filtered p n bs h.1
    ∙ sym (ap (λ c. cond c (Some b.records) (records_at n bs)) (other b.meta.number n (λ is. false≢true (sym t ∙ h.0 is)))))

-- from the least linked file on, a file that is there stays
pub records_from : (n : ℕ) (bs : List BlobFile) (l : BlobFile) → Ascends number_of bs → In l bs → (l.meta.linked == 0) ≡ false → l.meta.number ≤ n → records_at n (from_linked_on bs) ≡ records_at n bs
records_from n [] l up i linked le = absurd i
records_from n (b ∷ bs) l up i linked le =
    by_test (b.meta.linked == 0)
    (λ t. ap (λ c. records_at n (cond c (from_linked_on bs) (b ∷ bs))) t ∙ skipped (λ j. records_from n bs l up.1 j linked le) t i)
    (λ t. ap (λ c. records_at n (cond c (from_linked_on bs) (b ∷ bs))) t)
  where
    skipped : (In l bs → records_at n (from_linked_on bs) ≡ records_at n bs) → (b.meta.linked == 0) ≡ true → In l (b ∷ bs) → records_at n (from_linked_on bs) ≡ records_at n (b ∷ bs)
    skipped more t (inl is) = absurd (false≢true (sym linked ∙ sym (ap (λ (x : BlobFile). x.meta.linked == 0) is) ∙ t))
    skipped more t (inr j) =
        let below : b.meta.number < l.meta.number = in_all (λ y. b.meta.number < y.meta.number) l bs up.0 j in
        more j ∙ sym (ap (λ c. cond c (Some b.records) (records_at n bs)) (other b.meta.number n (λ is. absurd (omega arith))))

-- ---- new files in their places

placed_other : (n : ℕ) (x : BlobFile) (ys : List BlobFile) → x.meta.number ≢ n → records_at n (placed number_of x ys) ≡ records_at n ys
placed_other n x [] ne = ap (λ c. cond c (Some x.records) None) (other x.meta.number n ne)
placed_other n x (y ∷ ys) ne =
    by_test (nat_lt y.meta.number x.meta.number)
    (λ t. ap (λ c. records_at n (cond c (y ∷ placed number_of x ys) (x ∷ y ∷ ys))) t ∙ ap (cond (y.meta.number == n) (Some y.records)) (placed_other n x ys ne))
    (λ t. ap (λ c. records_at n (cond c (y ∷ placed number_of x ys) (x ∷ y ∷ ys))) t ∙ ap (λ c. cond c (Some x.records) (records_at n (y ∷ ys))) (other x.meta.number n ne))

placed_this : (n : ℕ) (x : BlobFile) (ys : List BlobFile) → x.meta.number ≡ n → AllByRecursion (λ y. y.meta.number ≢ n) ys → records_at n (placed number_of x ys) ≡ Some x.records
placed_this n x [] is h = ap (λ c. cond c (Some x.records) None) (eq-eqb x.meta.number n is)
placed_this n x (y ∷ ys) is h =
    by_test (nat_lt y.meta.number x.meta.number)
    (λ t.
    ap (λ c. records_at n (cond c (y ∷ placed number_of x ys) (x ∷ y ∷ ys))) t ∙ ap (λ c. cond c (Some y.records) (records_at n (placed number_of x ys))) (other y.meta.number n h.0)
    ∙ placed_this n x ys is h.1)
    (λ t. ap (λ c. records_at n (cond c (y ∷ placed number_of x ys) (x ∷ y ∷ ys))) t ∙ ap (λ c. cond c (Some x.records) (records_at n (y ∷ ys))) (eq-eqb x.meta.number n is))

pub records_old : (n : ℕ) (xs ys : List BlobFile) → AllByRecursion (λ x. x.meta.number ≢ n) xs → records_at n (all_placed number_of xs ys) ≡ records_at n ys
records_old n [] ys h = refl
records_old n (x ∷ xs) ys h = records_old n xs (placed number_of x ys) h.1 ∙ placed_other n x ys h.0

all_one : (P : BlobFile → Type 0) (x : BlobFile) (ys : List BlobFile) → P x → AllByRecursion P ys → AllByRecursion P (placed number_of x ys)
all_one P x [] p h = (p, tt)
all_one P x (y ∷ ys) p h =
    elim (nat_lt y.meta.number x.meta.number) as (λ b. AllByRecursion P (cond b (y ∷ placed number_of x ys) (x ∷ y ∷ ys))) [ true ↦ (h.0, all_one P x ys p h.1) | false ↦ (p, h) ]

pub records_new : (n : ℕ) (xs ys : List BlobFile) → Pairwise (λ a b. a.meta.number ≢ b.meta.number) xs → AllByRecursion (λ y. y.meta.number ≢ n) ys → (rs : List Record) → records_at n xs ≡ Some rs
    → records_at n (all_placed number_of xs ys) ≡ Some rs
records_new n [] ys once h rs e = absurd cc
records_new n (x ∷ xs) ys once h rs e =
    by_test (x.meta.number == n)
    (λ t.
    let is : x.meta.number ≡ n = eqb-true x.meta.number n t in
    records_old n xs (placed number_of x ys) (all_in (λ z. z.meta.number ≢ n) xs (λ z i eq. in_all (λ b. x.meta.number ≢ b.meta.number) z xs once.0 i (is ∙ sym eq)))
    ∙ placed_this n x ys is h ∙ sym (ap (λ c. cond c (Some x.records) (records_at n xs)) t) ∙ e)
    (λ t.
    records_new n xs (placed number_of x ys) once.1 (all_one (λ y. y.meta.number ≢ n) x ys (λ is. false≢true (sym t ∙ eq-eqb x.meta.number n is)) h) rs
    (sym (ap (λ c. cond c (Some x.records) (records_at n xs)) t) ∙ e))

-- ---- places only change the order

placed_shuffles : {A : Type 0} (key : A → ℕ) (x : A) (ys : List A) → Shuffled (x ∷ ys) (placed key x ys)
placed_shuffles key x [] = same (x ∷ [])
placed_shuffles {A = A} key x (y ∷ ys) =
    elim (nat_lt (key y) (key x)) as (λ b. Shuffled (x ∷ y ∷ ys) (cond b (y ∷ placed key x ys) (x ∷ y ∷ ys))) [
      | true ↦ join turn (keep (placed_shuffles key x ys))
      | false ↦ same (x ∷ y ∷ ys)
    ]

pub all_placed_shuffles : {A : Type 0} (key : A → ℕ) (xs ys : List A) → Shuffled (xs ++ ys) (all_placed key xs ys)
all_placed_shuffles key [] ys = same ys
all_placed_shuffles key (x ∷ xs) ys = join (middle x xs ys) (join (right xs (placed_shuffles key x ys)) (all_placed_shuffles key xs (placed key x ys)))
  where
    right : {A : Type 0} (zs : List A) {us vs : List A} → Shuffled us vs → Shuffled (zs ++ us) (zs ++ vs)
    right [] s = s
    right (z ∷ zs) s = keep (right zs s)
