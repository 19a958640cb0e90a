-- Revisions of which some are flushed: what is kept of them moves into a table.
use Rattle.std.proofs.Common.{◌≡◌, ℕ, ◌+◌, ◌≤◌, Bool, true, false, cond, List, [], ◌∷◌, ◌++◌, length, refl, sym, ◌∙◌, ap, subst, arith, inl, inr, Option, Some, None}
use Rattle.std.specs.Prelude.{◌⊎◌, ◌==◌, filter, find, max, option_and_then, sum}
use Rattle.std.specs.List.{AllByRecursion, IsDistinct, cons_option, fold}
use Rattle.std.specs.Option.{option_map}
use Rattle.std.proofs.lemmas.Bool.{eqb-true, leb-true, le-leb}
use Rattle.std.proofs.lemmas.Grind.{flat_map-append}
use Rattle.std.proofs.lemmas.List.{length-append, map-append}
use Rattle.std.proofs.lemmas.List.Elements.{filter-append, filter_map-append}
use Rattle.std.proofs.lemmas.List.Sums.{sum_by-append}
use Rattle.bl_index.specs.declared.index.BlobIndex.{BlobIndex}
use Rattle.bl_entry.specs.declared.key.Kind.{Kind}
use Rattle.bl_entry.specs.declared.key.Kind.TheVariants.{Deletion, Value, BlobRef}
use Rattle.bl_entry.specs.declared.key.Entry.{Entry}
use Rattle.bl_entry.specs.Revisions.{Revision, value_at}
use Rattle.bl_entry.proofs.ItemLemmas.{each_cons, some_is, went}
use Rattle.bl_entry.specs.Items.{each_of}
use Rattle.bl_out.proofs.AmongLemmas.{Among, all_left, all_right, among_left, among_parts, among_right, distinct_cross, distinct_join, distinct_left, distinct_right, each_more}
use Rattle.bl_folder.proofs.RecordLemmas.{number, sizes}
use Rattle.bl_folder.proofs.SeenLemmas.{flip, same_value}
use Rattle.bl_folder.specs.Entries.{records_by}
use Rattle.bl_folder.specs.Holding.{BlobFile}
use Rattle.bl_out.specs.Finding.{◌then◌}
use Rattle.bl_out.specs.References.{Reference, index_in, index_of, reference_of, references}
use Rattle.bl_out.specs.Tables.{TableFile, greatest_of, table_entries}
use Rattle.bl_out.specs.Values.{put_of, resolved, revision_of, same_revision, value_in}

-- ---- the revisions before, and those behind

abbrev pub before : List Revision → List Revision → List Revision → List Revision → List Revision
before ra rb rk rr = (ra ++ rb) ++ (rk ++ rr)

abbrev pub now : List Revision → List Revision → List Revision → List Revision → List Revision
now ra rb rt rr = (ra ++ (rt ++ rb)) ++ rr

module _ (ra rb rk rr rt : List Revision) (distinct : IsDistinct same_revision (before ra rb rk rr)) (part : (r : Revision) → Among r rt → Among r rk) where
  pub once_now : IsDistinct same_revision rt → IsDistinct same_revision (now ra rb rt rr)
  once_now two =
      let olds : IsDistinct same_revision (ra ++ rb) = distinct_left same_revision (ra ++ rb) (rk ++ rr) distinct in
      let news : IsDistinct same_revision (rk ++ rr) = distinct_right same_revision (ra ++ rb) (rk ++ rr) distinct in
      let across = distinct_cross same_revision (ra ++ rb) (rk ++ rr) distinct in
      distinct_join same_revision (ra ++ (rt ++ rb)) rr
      (distinct_join same_revision ra (rt ++ rb) (distinct_left same_revision ra rb olds)
      (distinct_join same_revision rt rb two (distinct_right same_revision ra rb olds) (λ x y a b. flip y x (across y x (among_right ra rb y b) (among_left rk rr x (part x a)))))
      (λ x y a b. from_either x y (λ h. across x y (among_left ra rb x a) (among_left rk rr y (part y h))) (λ h. distinct_cross same_revision ra rb olds x y a h) (among_parts rt rb y b)))
      (distinct_right same_revision rk rr news)
      (λ x y a b. from_three x y (λ h. across x y (among_left ra rb x h) (among_right rk rr y b)) (λ h. distinct_cross same_revision rk rr news x y (part x h) b) (λ h. across x y (among_right ra rb x h) (among_right rk rr y b)) (among_parts ra (rt ++ rb) x a))
    where
      from_either : (x y : Revision) → (Among y rt → same_revision x y ≡ false) → (Among y rb → same_revision x y ≡ false) → (Among y rt ⊎ Among y rb) → same_revision x y ≡ false
      from_either x y f g (inl h) = f h
      from_either x y f g (inr h) = g h

      either_two : (x y : Revision) → (Among x rt → same_revision x y ≡ false) → (Among x rb → same_revision x y ≡ false) → (Among x rt ⊎ Among x rb) → same_revision x y ≡ false
      either_two x y f g (inl h) = f h
      either_two x y f g (inr h) = g h

      from_three : (x y : Revision) → (Among x ra → same_revision x y ≡ false) → (Among x rt → same_revision x y ≡ false) → (Among x rb → same_revision x y ≡ false) → (Among x ra ⊎ Among x (rt ++ rb)) → same_revision x y ≡ false
      from_three x y f g k (inl h) = f h
      from_three x y f g k (inr h) = either_two x y g k (among_parts rt rb x h)

  from_now : (r : Revision) → Among r (now ra rb rt rr) → Among r (before ra rb rk rr)
  from_now r h = elim (among_parts (ra ++ (rt ++ rb)) rr r h) [
    | inl a ↦ elim (among_parts ra (rt ++ rb) r a) [
      | inl b ↦ among_left (ra ++ rb) (rk ++ rr) r (among_left ra rb r b)
      | inr b ↦ elim (among_parts rt rb r b) [
        | inl c ↦ among_right (ra ++ rb) (rk ++ rr) r (among_left rk rr r (part r c))
        | inr c ↦ among_left (ra ++ rb) (rk ++ rr) r (among_right ra rb r c)
      ]
    ]
    | inr a ↦ among_right (ra ++ rb) (rk ++ rr) r (among_right rk rr r a)
  ]

  to_now : (r : Revision) → Among r (before ra rb rk rr) → (Among r rk → Among r rt) → Among r (now ra rb rt rr)
  to_now r h moved = elim (among_parts (ra ++ rb) (rk ++ rr) r h) [
    | inl a ↦ elim (among_parts ra rb r a) [
      | inl b ↦ among_left (ra ++ (rt ++ rb)) rr r (among_left ra (rt ++ rb) r b)
      | inr b ↦ among_left (ra ++ (rt ++ rb)) rr r (among_right ra (rt ++ rb) r (among_right rt rb r b))
    ]
    | inr a ↦ elim (among_parts rk rr r a) [
      | inl b ↦ among_left (ra ++ (rt ++ rb)) rr r (among_right ra (rt ++ rb) r (among_left rt rb r (moved b)))
      | inr b ↦ among_right (ra ++ (rt ++ rb)) rr r b
    ]
  ]

  pub value_now : (s : ℕ) (key : List ℕ) → ((r : Revision) → Among r rk → r.key ≡ key → r.seq ≤ s → ((q : Revision) → Among q rk → q.key ≡ key → q.seq ≤ s → q.seq ≤ r.seq) → Among r rt)
      → value_at (now ra rb rt rr) s key ≡ value_at (before ra rb rk rr) s key
  value_now s key moved =
      same_value (before ra rb rk rr) (now ra rb rt rr) s key distinct from_now
      (λ r there k le most. to_now r there (λ h. moved r h k (leb-true r.seq s le) (λ q a b c. most q (among_right (ra ++ rb) (rk ++ rr) q (among_left rk rr q a)) b (le-leb q.seq s c))))

-- ---- tables and their entries

pub entries_join : (ts us : List TableFile) → table_entries (ts ++ us) ≡ table_entries ts ++ table_entries us
entries_join ts us = flat_map-append (λ (t : TableFile). t.entries) ts us

pub all_flat : (P : Entry → Type 0) (ts : List TableFile) → AllByRecursion P (table_entries ts) → AllByRecursion (λ t. AllByRecursion P t.entries) ts
all_flat P [] h = tt
all_flat P (t ∷ ts) h = (all_left P t.entries (table_entries ts) h, all_flat P ts (all_right P t.entries (table_entries ts) h))

-- ---- what resolves does so with more blob files

find_more : {A : Type 0} (p : A → Bool) (xs ys : List A) (x : A) → find p xs ≡ Some x → find p (xs ++ ys) ≡ Some x
find_more p [] ys x e = absurd cc
find_more p (z ∷ xs) ys x e = by (p z) e (find_more p xs ys x)
  where
    by : (b : Bool) → cond b (Some z) (find p xs) ≡ Some x → (find p xs ≡ Some x → find p (xs ++ ys) ≡ Some x) → cond b (Some z) (find p (xs ++ ys)) ≡ Some x
    by true f more = f
    by false f more = more f

resolved_more : (bs more : List BlobFile) (key : List ℕ) (index : BlobIndex) (v : List ℕ) → resolved (records_by bs) key index ≡ Some v → resolved (records_by (bs ++ more)) key index ≡ Some v
resolved_more bs more key index v e =
    let w = went (records_by bs index.file) (value_in key index) v e in
    let f = went (find (λ b. b.meta.number == index.file) bs) (λ (b : BlobFile). Some b.records) w.from w.gives in
    ap (λ o. option_and_then (value_in key index) (option_and_then (λ (b : BlobFile). Some b.records) o)) (find_more (λ b. b.meta.number == index.file) bs more f.from f.gives)
    ∙ ap (option_and_then (value_in key index)) f.makes ∙ w.makes

put_more : (bs more : List BlobFile) (e : Entry) (k : Kind) (put : Option (List ℕ)) → put_of (records_by bs) k e ≡ Some put → put_of (records_by (bs ++ more)) k e ≡ Some put
put_more bs more e Deletion put h = h
put_more bs more e Value put h = h
put_more bs more e BlobRef put h =
    let a = went (index_of e) (λ index. resolved (records_by bs) e.key.user index then λ value. Some (Some value)) put h in
    let b = went (resolved (records_by bs) e.key.user a.from) (λ value. Some (Some value)) put a.makes in
    ap (option_and_then (λ index. resolved (records_by (bs ++ more)) e.key.user index then λ value. Some (Some value))) a.gives
    ∙ ap (option_and_then (λ value. Some (Some value))) (resolved_more bs more e.key.user a.from b.from b.gives) ∙ b.makes

pub revisions_more : (bs more : List BlobFile) (es : List Entry) (rs : List Revision) → each_of (revision_of (records_by bs)) es ≡ Some rs → each_of (revision_of (records_by (bs ++ more))) es ≡ Some rs
revisions_more bs more [] rs h = h
revisions_more bs more (e ∷ es) rs h =
    let c = each_cons (revision_of (records_by bs)) e es rs h in
    let p = went (put_of (records_by bs) e.key.kind e) (λ put. Some (record { key = e.key.user; seq = e.key.seq; put = put })) c.first c.gives in
    each_more (revision_of (records_by (bs ++ more))) e es c.first c.rest
    (ap (option_and_then (λ put. Some (record { key = e.key.user; seq = e.key.seq; put = put }))) (put_more bs more e e.key.kind p.from p.gives) ∙ p.makes)
    (revisions_more bs more es c.rest c.more)
    ∙ ap Some c.is

-- ---- what is resolved names a file that is there

module _ (P : ℕ → Type 0) (bs : List BlobFile) (of_all : AllByRecursion (λ b. P (number b)) bs) where
  found_is : (n : ℕ) (cs : List BlobFile) (b : BlobFile) → AllByRecursion (λ c. P (number c)) cs → find (λ c. c.meta.number == n) cs ≡ Some b → P n
  found_is n [] b h e = absurd cc
  found_is n (c ∷ cs) b h e = by (c.meta.number == n) refl e (found_is n cs b h.1)
    where
      by : (t : Bool) → (c.meta.number == n) ≡ t → cond t (Some c) (find (λ d. d.meta.number == n) cs) ≡ Some b → (find (λ d. d.meta.number == n) cs ≡ Some b → P n) → P n
      by true t f more = subst P (eqb-true c.meta.number n t) h.0
      by false t f more = more f

  index_is : (e : Entry) (k : Kind) (put : Option (List ℕ)) (i : BlobIndex) → put_of (records_by bs) k e ≡ Some put → index_of e ≡ Some i → index_in k e.value ≡ Some i → P i.file
  index_is e Deletion put i h is at = absurd cc
  index_is e Value put i h is at = absurd cc
  index_is e BlobRef put i h is at =
      let a = went (index_of e) (λ index. resolved (records_by bs) e.key.user index then λ value. Some (Some value)) put h in
      let b = went (resolved (records_by bs) e.key.user a.from) (λ value. Some (Some value)) put a.makes in
      let d = went (records_by bs a.from.file) (value_in e.key.user a.from) b.from b.gives in
      let c = went (find (λ x. x.meta.number == a.from.file) bs) (λ (x : BlobFile). Some x.records) d.from d.gives in
      let same : a.from ≡ i = some_is (sym a.gives ∙ is) in
      subst (λ (j : BlobIndex). P j.file) same (found_is a.from.file bs c.from of_all c.gives)

  pub named_there : (es : List Entry) (rs : List Revision) → each_of (revision_of (records_by bs)) es ≡ Some rs → AllByRecursion (λ r. P r.index.file) (references es)
  named_there [] rs h = tt
  named_there (e ∷ es) rs h =
      let c = each_cons (revision_of (records_by bs)) e es rs h in
      let p = went (put_of (records_by bs) e.key.kind e) (λ put. Some (record { key = e.key.user; seq = e.key.seq; put = put })) c.first c.gives in
      by (index_of e) refl p.from p.gives (named_there es c.rest c.more)
    where
      by : (o : Option BlobIndex) → index_of e ≡ o → (put : Option (List ℕ)) → put_of (records_by bs) e.key.kind e ≡ Some put → AllByRecursion (λ r. P r.index.file) (references es)
          → AllByRecursion (λ r. P r.index.file) (cons_option (option_map (λ index. record { key = e.key.user; index = index }) o) (references es))
      by None is put h more = more
      by (Some i) is put h more = (index_is e e.key.kind put i h is is, more)

-- ---- references of three lists

pub references_three : (xs ys zs : List Entry) → references (xs ++ (ys ++ zs)) ≡ references xs ++ (references ys ++ references zs)
references_three xs ys zs = filter_map-append reference_of xs (ys ++ zs) ∙ ap (λ rs. references xs ++ rs) (filter_map-append reference_of ys zs)

pub references_two : (xs ys : List Entry) → references (xs ++ ys) ≡ references xs ++ references ys
references_two xs ys = filter_map-append reference_of xs ys

abbrev pub of_one : ℕ → List Reference → List Reference
of_one n rs = filter (λ r. r.index.file == n) rs

pub count_three : (n : ℕ) (xs ys zs : List Reference) → length (of_one n (xs ++ (ys ++ zs))) ≡ length (of_one n (xs ++ zs)) + length (of_one n ys)
count_three n xs ys zs =
    let a : of_one n (xs ++ (ys ++ zs)) ≡ of_one n xs ++ (of_one n ys ++ of_one n zs) = filter-append (λ r. r.index.file == n) xs (ys ++ zs) ∙ ap (λ rs. of_one n xs ++ rs) (filter-append (λ r. r.index.file == n) ys zs) in
    let b : of_one n (xs ++ zs) ≡ of_one n xs ++ of_one n zs = filter-append (λ r. r.index.file == n) xs zs in
    let c = length-append (of_one n xs) (of_one n ys ++ of_one n zs) in
    let d = length-append (of_one n ys) (of_one n zs) in
    let e = length-append (of_one n xs) (of_one n zs) in
    ap length a ∙ c ∙ ap (λ k. length (of_one n xs) + k) d ∙ turned (length (of_one n xs)) (length (of_one n ys)) (length (of_one n zs)) ∙ sym (ap (λ k. k + length (of_one n ys)) (ap length b ∙ e))
  where
    turned : (x y z : ℕ) → x + (y + z) ≡ (x + z) + y
    turned x y z = omega arith

total : List Reference → ℕ
total rs = sum (sizes rs)

total_two : (xs ys : List Reference) → total (xs ++ ys) ≡ total xs + total ys
unfolding total
total_two xs ys = ap sum (map-append _ xs ys) ∙ sum_by-append (λ n. n) (sizes xs) (sizes ys)

pub bytes_three : (n : ℕ) (xs ys zs : List Reference) → sum (sizes (of_one n (xs ++ (ys ++ zs)))) ≡ sum (sizes (of_one n (xs ++ zs))) + sum (sizes (of_one n ys))
unfolding total
bytes_three n xs ys zs =
    let a : of_one n (xs ++ (ys ++ zs)) ≡ of_one n xs ++ (of_one n ys ++ of_one n zs) = filter-append (λ r. r.index.file == n) xs (ys ++ zs) ∙ ap (λ rs. of_one n xs ++ rs) (filter-append (λ r. r.index.file == n) ys zs) in
    let b : of_one n (xs ++ zs) ≡ of_one n xs ++ of_one n zs = filter-append (λ r. r.index.file == n) xs zs in
    ap total a ∙ total_two (of_one n xs) (of_one n ys ++ of_one n zs) ∙ ap (λ k. total (of_one n xs) + k) (total_two (of_one n ys) (of_one n zs))
    ∙ turned (total (of_one n xs)) (total (of_one n ys)) (total (of_one n zs)) ∙ sym (ap (λ k. k + total (of_one n ys)) (ap total b ∙ total_two (of_one n xs) (of_one n zs)))
  where
    turned : (x y z : ℕ) → x + (y + z) ≡ (x + z) + y
    turned x y z = omega arith

-- ---- the greatest of some numbers

fold_over : (a : ℕ) (ns : List ℕ) → (a ≤ fold max a ns) × AllByRecursion (λ n. n ≤ fold max a ns) ns
fold_over a [] = (omega arith, tt)
fold_over a (n ∷ ns) = step (fold_over (max a n) ns)
  where
    step : (max a n ≤ fold max (max a n) ns) × AllByRecursion (λ m. m ≤ fold max (max a n) ns) ns → (a ≤ fold max (max a n) ns) × AllByRecursion (λ m. m ≤ fold max (max a n) ns) (n ∷ ns)
    step (h, k) = (omega arith, (omega arith, k))

fold_under : (k a : ℕ) (ns : List ℕ) → a ≤ k → AllByRecursion (λ n. n ≤ k) ns → fold max a ns ≤ k
fold_under k a [] h r = h
fold_under k a (n ∷ ns) h r = let one : n ≤ k = r.0 in fold_under k (max a n) ns (omega arith) r.1

pub under_greatest : (ns : List ℕ) (m : ℕ) → greatest_of ns ≡ Some m → AllByRecursion (λ n. n ≤ m) ns
under_greatest [] m e = tt
under_greatest (n ∷ ns) m e = subst (λ (k : ℕ). AllByRecursion (λ j. j ≤ k) (n ∷ ns)) (some_is e) ((fold_over n ns).0, (fold_over n ns).1)

pub greatest_under : (k : ℕ) (ns : List ℕ) (m : ℕ) → greatest_of ns ≡ Some m → AllByRecursion (λ n. n ≤ k) ns → m ≤ k
greatest_under k [] m e h = absurd cc
greatest_under k (n ∷ ns) m e h = subst (λ (j : ℕ). j ≤ k) (some_is e) (fold_under k n ns h.0 h.1)
