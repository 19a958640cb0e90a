-- What an edit says of a table is in bounds, where the entries of the table are.
use Rattle.std.proofs.Common.{◌≡◌, ℕ, ◌<◌, ◌≤◌, ◌^◌, ◌-◌, nat_le, Bool, true, false, List, [], ◌∷◌, refl, sym, subst, arith, Option, Some, None}
use Rattle.std.specs.Prelude.{◌==◌, ◌||◌, min, max, map, unwrap_or, IfSome, IsTrue}
use Rattle.std.specs.List.{AllByRecursion, cons_option, fold}
use Rattle.std.specs.Option.{option_map}
use Rattle.std.specs.Result.{result_ok}
use Rattle.std.proofs.lemmas.Bool.{and_from, leb-false, leb-true, le-leb, lt-ltb}
use Rattle.bl_entry.specs.declared.key.Kind.{Kind}
use Rattle.bl_entry.specs.declared.key.Kind.TheVariants.{Deletion, Value, BlobRef}
use Rattle.bl_entry.specs.declared.key.Entry.{Entry}
use Rattle.bl_entry.specs.Entries.{IsProper, IsValueOf, last_of}
use Rattle.bl_entry.specs.Keys.{key_bytes}
use Rattle.bl_entry.proofs.ItemLemmas.{all_of_map, some_is}
use Rattle.bl_entry.proofs.ListLemmas.{by_test}
use Rattle.bl_edit.specs.Bounds.{is_key, is_number, is_seq, table_fits}
use Rattle.bl_edit.specs.declared.edit.NewTable.{NewTable}
use Rattle.bl_index.proofs.IndexLemmas.{reads_all}
use Rattle.bl_out.proofs.SpellLemmas.{key_fits}
use Rattle.bl_out.specs.References.{Reference, index_in, references}
use Rattle.bl_out.specs.Tables.{IsAsNamed, first_of, greatest_of, least_of, oldest_of}

pub number_fits : (n : ℕ) → 1 ≤ n → n < 10 ^ 15 → IsTrue (is_number n)
number_fits n low high = and_from (nat_le 1 n) (nat_le n 999999999999999) (le-leb 1 n low) (le-leb n 999999999999999 (omega arith))

-- ---- the least and the greatest of some numbers

fold_holds : (P : ℕ → Type 0) (f : ℕ → ℕ → ℕ) → ((a b : ℕ) → P a → P b → P (f a b)) → (n : ℕ) (ns : List ℕ) → P n → AllByRecursion P ns → P (fold f n ns)
fold_holds P f two n [] h k = h
fold_holds P f two n (m ∷ ms) h k = fold_holds P f two (f n m) ms (two n m h k.0) k.1

min_holds : (P : ℕ → Type 0) (a b : ℕ) → P a → P b → P (min a b)
min_holds P a b h k =
    by_test (nat_le a b)
    (λ t. let le : a ≤ b = leb-true a b t in subst P (sym (left le)) h)
    (λ f. let lt : b < a = leb-false a b f in subst P (sym (right lt)) k)
  where
    left : a ≤ b → min a b ≡ a
    left le = grind arith

    right : b < a → min a b ≡ b
    right lt = grind arith

max_holds : (P : ℕ → Type 0) (a b : ℕ) → P a → P b → P (max a b)
max_holds P a b h k =
    by_test (nat_le a b)
    (λ t. let le : a ≤ b = leb-true a b t in subst P (sym (right le)) k)
    (λ f. let lt : b < a = leb-false a b f in subst P (sym (left lt)) h)
  where
    left : b < a → max a b ≡ a
    left lt = grind arith

    right : a ≤ b → max a b ≡ b
    right le = grind arith

least_holds : (P : ℕ → Type 0) (ns : List ℕ) (n : ℕ) → AllByRecursion P ns → least_of ns ≡ Some n → P n
least_holds P [] n h e = absurd cc
least_holds P (m ∷ ms) n h e = subst P (some_is e) (fold_holds P min (min_holds P) m ms h.0 h.1)

greatest_holds : (P : ℕ → Type 0) (ns : List ℕ) (n : ℕ) → AllByRecursion P ns → greatest_of ns ≡ Some n → P n
greatest_holds P [] n h e = absurd cc
greatest_holds P (m ∷ ms) n h e = subst P (some_is e) (fold_holds P max (max_holds P) m ms h.0 h.1)

-- ---- keys and sequences

first_proper : (es : List Entry) → AllByRecursion IsProper es → IfSome (first_of es) IsProper
first_proper [] h = tt
first_proper (e ∷ es) h = h.0

last_proper : (es : List Entry) → AllByRecursion IsProper es → IfSome (last_of es) IsProper
last_proper [] h = tt
last_proper (e ∷ []) h = h.0
last_proper (e ∷ d ∷ es) h = last_proper (d ∷ es) h.1

end_fits : (o : Option Entry) (key : List ℕ) → IfSome o IsProper → option_map (λ e. key_bytes e.key) o ≡ Some key → IsTrue (is_key key)
end_fits None key h e = absurd cc
end_fits (Some x) key h e = subst (λ (k : List ℕ). IsTrue (is_key k)) (some_is e) (key_fits x.key h.key)

seqs_fit : (es : List Entry) → AllByRecursion IsProper es → AllByRecursion (λ n. IsTrue (is_seq n)) (map (λ e. e.key.seq) es)
seqs_fit [] h = tt
seqs_fit (e ∷ es) h = let le : e.key.seq ≤ 2 ^ 56 - 1 = h.0.key.seq in (lt-ltb e.key.seq (2 ^ 56) (omega arith), seqs_fit es h.1)

-- ---- blob files that are named

one_names : (user : List ℕ) (k : Kind) (value : List ℕ) (rs : List Reference) → IsValueOf k value → AllByRecursion (λ (r : Reference). IsTrue (is_number r.index.file)) rs
    → AllByRecursion (λ (r : Reference). IsTrue (is_number r.index.file)) (cons_option (option_map (λ index. record { key = user; index = index }) (index_in k value)) rs)
one_names user Deletion value rs v h = h
one_names user Value value rs v h = h
one_names user BlobRef value rs (file, offset, size, is, low, high) h =
    subst (λ r. AllByRecursion (λ (x : Reference). IsTrue (is_number x.index.file)) (cons_option (option_map (λ index. record { key = user; index = index }) (result_ok r)) rs))
    (sym (reads_all value (record { file = file; offset = offset; size = size }) is)) (number_fits file low high, h)

names_fit : (es : List Entry) → AllByRecursion IsProper es → AllByRecursion (λ (r : Reference). IsTrue (is_number r.index.file)) (references es)
names_fit [] h = tt
names_fit (e ∷ es) h = one_names e.key.user e.key.kind e.value (references es) h.0.value (names_fit es h.1)

or_right : (a b : Bool) → b ≡ true → (a || b) ≡ true
or_right true b h = refl
or_right false b h = h

oldest_in : (ns : List ℕ) → AllByRecursion (λ n. IsTrue (is_number n)) ns → ((unwrap_or (least_of ns) 0 == 0) || is_number (unwrap_or (least_of ns) 0)) ≡ true
oldest_in [] h = refl
oldest_in (n ∷ ns) h = or_right (fold min n ns == 0) (is_number (fold min n ns)) (fold_holds (λ m. IsTrue (is_number m)) min (min_holds (λ m. IsTrue (is_number m))) n ns h.0 h.1)

oldest_fits : (es : List Entry) (n : ℕ) → AllByRecursion IsProper es → oldest_of es ≡ n → ((n == 0) || is_number n) ≡ true
oldest_fits es n proper is =
    subst (λ m. ((m == 0) || is_number m) ≡ true) is
    (oldest_in (map (λ r. r.index.file) (references es)) (all_of_map (λ (r : Reference). r.index.file) (λ m. IsTrue (is_number m)) (references es) (names_fit es proper)))

-- ---- all of it

pub named_fits : (es : List Entry) (n : NewTable) → AllByRecursion IsProper es → n.level ≡ 0 → 1 ≤ n.number → n.number < 10 ^ 15 → IsAsNamed (record { meta = n; entries = es }) → IsTrue (table_fits n)
named_fits es n proper level low high named =
    and_from _ _
    (and_from _ _
    (and_from _ _
    (and_from _ _
    (and_from _ _
    (and_from _ _ (le-leb n.level 6 (omega arith)) (number_fits n.number low high))
    (end_fits (first_of es) n.smallest (first_proper es proper) named.smallest))
    (end_fits (last_of es) n.largest (last_proper es proper) named.largest))
    (least_holds (λ m. IsTrue (is_seq m)) (map (λ e. e.key.seq) es) n.least_seq (seqs_fit es proper) named.least))
    (greatest_holds (λ m. IsTrue (is_seq m)) (map (λ e. e.key.seq) es) n.most_seq (seqs_fit es proper) named.most))
    (oldest_fits es n.oldest_blob proper named.oldest)
