-- Entries that are decoded from a table's.
use Rattle.std.proofs.Common.{◌≡◌, ℕ, suc, ◌+◌, ◌*◌, ◌/◌, ◌%◌, ◌^◌, ◌<◌, ◌≤◌, ◌==◌, nat_lt, Bool, true, false, cond, List, [], ◌∷◌, ◌++◌, length, map, take, drop, get_or, Option, Some, None, Result, Ok, Err, refl, sym, ◌∙◌, ap, subst, arith, Global}
use Rattle.std.specs.Prelude.{◌&&◌, nat_le, IfOk, IsTrue, Vec}
use Rattle.std.specs.List.{AllByRecursion, list_all}
use Rattle.std.specs.Cmp.{IsTotalOrder, on_total, back_total, then_total, nat_cmp_total}
use Rattle.std.specs.Cmp.Lexicographic.{nat_list_cmp_total}
use Rattle.std.specs.Ordering.{is_lt, nat_cmp, ordering_then}
use Rattle.std.specs.declared.cmp.Ordering.{Ordering}
use Rattle.std.specs.declared.cmp.Ordering.TheVariants.{Less}
use Rattle.std.proofs.lemmas.Bool.{eqb-true, false≢true}
use Rattle.std.proofs.lemmas.List.{map-id, take-append-drop}
use Rattle.std.proofs.Math.Seq.{drop-cons}
use Rattle.bl_code.proofs.Basics.{less_is, need_then, ok_is}
use Rattle.bl_code.proofs.ChainLemmas.{or_fault_ok, then_ok}
use Rattle.bl_code.specs.BlobIndex.{IsBlobIndex}
use Rattle.bl_code.specs.Order.{bytes_cmp, key_order, number_part, user_part}
use Rattle.bl_code.specs.Reading.{◌>>=◌, need, or_fault}
use Rattle.bl_entry.specs.Entries.{IsProper, IsValueOf, stands_before}
use Rattle.bl_entry.specs.Keys.{IsKey, Key, key_cmp, key_number, kind_number, kind_of, max_key, max_seq, read_key}
use Rattle.bl_entry.specs.declared.key.BadKey.{BadKey}
use Rattle.bl_entry.specs.declared.key.BadKey.TheVariants as bad
use Rattle.bl_entry.specs.declared.key.Entry.{Entry}
use Rattle.bl_entry.specs.declared.key.Kind.{Kind}
use Rattle.bl_entry.specs.declared.key.Kind.TheVariants.{Deletion, Value, BlobRef}
use Rattle.bl_index.specs.declared.index.BlobIndex.{BlobIndex}
use Rattle.bl_table.specs.Grammar.{KeysAscend}
use Rattle.bl_table.specs.declared.entry.BlockEntry.{BlockEntry}
use Rattle.bl_cache.specs.declared.fault.Unread.{Unread}
use Rattle.bl_cache.specs.Reading.{entry_with, is_value, proper_entries, proper_entry}
use Rattle.bl_cache.specs.Runs.{is_key, is_run}

-- the value of a blob reference is in bounds
pub names_a_file : (kind : Kind) (value : List ℕ) (i : BlobIndex) → kind ≡ BlobRef → IsBlobIndex value i.file i.offset i.size → 1 ≤ i.file → nat_lt i.file (10 ^ 15) ≡ true → IsValueOf kind value
names_a_file kind value i is index some below =
    let less : i.file < 10 ^ 15 = grind arith in
    subst (λ (k : Kind). IsValueOf k value) (sym is) (i.file, i.offset, i.size, index, some, less)

-- ---- one entry after another

-- these items have been decoded
pub record IsDecoded (items : List BlockEntry) (es : List Entry) : Type 0 where
  pub given : proper_entries items ≡ Ok es
  pub proper : AllByRecursion IsProper es

pub none_decoded : IsDecoded [] []
none_decoded = record { given = refl; proper = tt }

all_push : (P : Entry → Type 0) (xs : List Entry) (x : Entry) → AllByRecursion P xs → P x → AllByRecursion P (xs ++ x ∷ [])
all_push P [] x h p = (p, tt)
all_push P (y ∷ xs) x h p = (h.0, all_push P xs x h.1 p)

entries_then : (items more : List BlockEntry) (es : List Entry) → proper_entries items ≡ Ok es
    → proper_entries (items ++ more) ≡ (proper_entries more >>= λ xs. Ok (es ++ xs))
entries_then [] more es h = behind (proper_entries more) ∙ ap (λ ys. proper_entries more >>= λ xs. Ok (ys ++ xs)) (ok_is h)
  where
    behind : (r : Result (List Entry) ℕ) → r ≡ (r >>= λ xs. Ok ([] ++ xs))
    behind (Ok xs) = refl
    behind (Err place) = refl
entries_then (item ∷ items) more es h =
    let (e, at, rest) = then_ok (proper_entry item) (λ x. proper_entries items >>= λ xs. Ok (x ∷ xs)) es h in
    let (xs, given, is) = then_ok (proper_entries items) (λ ys. Ok (e ∷ ys)) es rest in
    ap (λ r. r >>= λ x. proper_entries (items ++ more) >>= λ ys. Ok (x ∷ ys)) at
    ∙ ap (λ r. r >>= λ ys. Ok (e ∷ ys)) (entries_then items more xs given)
    ∙ moved e xs (proper_entries more)
    ∙ ap (λ ys. proper_entries more >>= λ zs. Ok (ys ++ zs)) (ok_is is)
  where
    moved : (e : Entry) (xs : List Entry) (r : Result (List Entry) ℕ) → ((r >>= λ zs. Ok (xs ++ zs)) >>= λ ys. Ok (e ∷ ys)) ≡ (r >>= λ zs. Ok ((e ∷ xs) ++ zs))
    moved e xs (Ok zs) = refl
    moved e xs (Err place) = refl

pub one_more : (items : List BlockEntry) (item : BlockEntry) (es : List Entry) (e : Entry) → IsDecoded items es → proper_entry item ≡ Ok e → IsProper e → IsDecoded (items ++ item ∷ []) (es ++ e ∷ [])
one_more items item es e h given proper = record {
  given = entries_then items (item ∷ []) es h.given ∙ ap (λ r. (r >>= λ x. Ok (x ∷ [])) >>= λ xs. Ok (es ++ xs)) given;
  proper = all_push IsProper es e h.proper proper;
}

fault_behind : (items rest : List BlockEntry) (item : BlockEntry) (es : List Entry) (place : ℕ) → IsDecoded items es → proper_entry item ≡ Err place → proper_entries (items ++ item ∷ rest) ≡ Err place
fault_behind items rest item es place h fault =
    entries_then items (item ∷ rest) es h.given ∙ ap (λ r. (r >>= λ x. proper_entries rest >>= λ xs. Ok (x ∷ xs)) >>= λ xs. Ok (es ++ xs)) fault

-- the item in turn is at fault
pub fault_in : (items xs : List BlockEntry) (item : BlockEntry) (es : List Entry) (place : ℕ) → map (λ x. x) xs ≡ take (length xs) items → length xs < length items → item ≡ get_or items (length xs) item
    → IsDecoded xs es → proper_entry item ≡ Err place → proper_entries items ≡ Err place
fault_in items xs item es place front lt turn h fault =
    let rest : List BlockEntry = drop (suc (length xs)) items in
    let whole : xs ++ item ∷ rest ≡ items =
    (λ i. (sym (map-id xs) ∙ front) i ++ turn i ∷ rest) ∙ ap (λ ys. take (length xs) items ++ ys) (sym (drop-cons items (length xs) item lt)) ∙ take-append-drop (length xs) items in
    ap proper_entries (sym whole) ∙ fault_behind xs rest item es place h fault

-- ---- the order of keys that are read is that of their bytes

some_kind : {a b : Kind} → Some a ≡ Some b → a ≡ b
some_kind e = cc

kind_tests : (a b c : Bool) (n : ℕ) (k : Kind) → (n == 0) ≡ a → (n == 1) ≡ b → (n == 0x11) ≡ c
    → cond a (Some Deletion) (cond b (Some Value) (cond c (Some BlobRef) None)) ≡ Some k → kind_number k ≡ n
kind_tests true b c n k p q r h = ap kind_number (some_kind (sym h)) ∙ sym (eqb-true n 0 p)
kind_tests false true c n k p q r h = ap kind_number (some_kind (sym h)) ∙ sym (eqb-true n 1 q)
kind_tests false false true n k p q r h = ap kind_number (some_kind (sym h)) ∙ sym (eqb-true n 0x11 r)
kind_tests false false false n k p q r h = cc

kind_is : (n : ℕ) (k : Kind) → kind_of n ≡ Some k → kind_number k ≡ n
kind_is n k h = kind_tests (n == 0) (n == 1) (n == 0x11) n k refl refl refl h

abbrev kind_with : List ℕ → Kind → Result Key BadKey
kind_with bytes kind = Ok (record { user = user_part bytes; seq = number_part bytes / 256; kind = kind })

abbrev long_with : List ℕ → Result Key BadKey
long_with bytes = or_fault bad.Kind (kind_of (number_part bytes % 256)) >>= kind_with bytes

-- what is read of a key
pub record HasParts (bytes : List ℕ) (k : Key) : Type 0 where
  pub user : k.user ≡ user_part bytes
  pub number : key_number k ≡ number_part bytes

parts_of : (bytes : List ℕ) (k : Key) → read_key bytes ≡ Ok k → HasParts bytes k
unfolding read_key
parts_of bytes k e =
    let (long_test, e1) = need_then (nat_lt 8 (length bytes)) bad.Short (λ _. need (nat_lt (length bytes) (max_key + 9)) bad.Long >>= λ _. long_with bytes) k e in
    let (short_test, e2) = need_then (nat_lt (length bytes) (max_key + 9)) bad.Long (λ _. long_with bytes) k e1 in
    let (kind, at_kind, e3) = then_ok (or_fault bad.Kind (kind_of (number_part bytes % 256))) (kind_with bytes) k e2 in
    let number : kind_number kind ≡ number_part bytes % 256 = kind_is (number_part bytes % 256) kind (or_fault_ok bad.Kind (kind_of (number_part bytes % 256)) kind at_kind) in
    let together : number_part bytes / 256 * 256 + kind_number kind ≡ number_part bytes = omega arith in
    subst (HasParts bytes) (ok_is e3) (record { user = refl; number = together })

same_order : (a b : List ℕ) (x y : Key) → HasParts a x → HasParts b y → key_cmp x y ≡ key_order a b
same_order a b x y p q =
    (λ i. ordering_then (bytes_cmp (p.user i) (q.user i)) (nat_cmp (q.number i) (p.number i)))

-- what an item was decoded to
entry_of : (place : ℕ) (value : List ℕ) (r : Result Key BadKey) (e : Entry) → entry_with place value r ≡ Ok e → r ≡ Ok e.key
entry_of place value (Err why) e h = absurd (let wrong = h in cc wrong)
entry_of place value (Ok key) e h = by (is_value key.kind value) h
  where
    by : (b : Bool) → cond b (Ok (record { key = key; value = value })) (Err place) ≡ Ok e → ◌≡◌ {A = Result Key BadKey} (Ok key) (Ok e.key)
    by true k = ap (λ (x : Entry). Ok x.key) (ok_is k)
    by false k = absurd (let wrong = k in cc wrong)

item_parts : (item : BlockEntry) (e : Entry) → proper_entry item ≡ Ok e → HasParts item.key e.key
item_parts item e h = parts_of item.key e.key (entry_of item.place item.value (read_key item.key) e h)

-- ---- a table's entries are a run's

key_total : IsTotalOrder key_cmp
key_total = then_total (on_total (λ (k : Key). k.user) nat_list_cmp_total) (back_total (on_total key_number nat_cmp_total))

lt_of : (o : Ordering) → o ≡ Less → is_lt o ≡ true
lt_of o h = ap is_lt h

-- an entry stands before the first of a list
abbrev pub IsFirst : Entry → List Entry → Type 0
IsFirst e [] = Unit {0}
IsFirst e (x ∷ es) = stands_before e x ≡ true

both_true : (a b : Bool) → a ≡ true → b ≡ true → (a && b) ≡ true
both_true a b p q = ap (λ x. x && b) p ∙ q

split : (a b : Bool) → (a && b) ≡ true → (a ≡ true) × (b ≡ true)
split true b h = (refl, h)
split false b h = absurd (false≢true h)

key_passes : (k : Key) → IsKey k → is_key k ≡ true
key_passes k h =
    let a : nat_le 1 (length k.user) ≡ true = within 1 (length k.user) h.some in
    let b : nat_le (length k.user) max_key ≡ true = within (length k.user) max_key h.no_longer in
    let c : nat_le k.seq max_seq ≡ true = within k.seq max_seq h.seq in
    both_true (nat_le 1 (length k.user) && nat_le (length k.user) max_key) (nat_le k.seq max_seq) (both_true (nat_le 1 (length k.user)) (nat_le (length k.user) max_key) a b) c
  where
    within : (m n : ℕ) → m ≤ n → nat_le m n ≡ true
    within m n le = grind arith

-- one that stands before the first stands before all
before_all : (e : Entry) (es : List Entry) → is_run es ≡ true → IsFirst e es → list_all (stands_before e) es ≡ true
before_all e [] r f = refl
before_all e (x ∷ es) r f =
    let p = split (is_key x.key && list_all (stands_before x) es) (is_run es) r in
    let q = split (is_key x.key) (list_all (stands_before x) es) p.0 in
    both_true (stands_before e x) (list_all (stands_before e) es) f (each es q.1)
  where
    each : (ys : List Entry) → list_all (stands_before x) ys ≡ true → list_all (stands_before e) ys ≡ true
    each [] h = refl
    each (y ∷ ys) h =
        let p = split (stands_before x y) (list_all (stands_before x) ys) h in
        both_true (stands_before e y) (list_all (stands_before e) ys)
        (lt_of (key_cmp e.key y.key) (key_total.trans e.key x.key y.key (less_is (key_cmp e.key x.key) f) (less_is (key_cmp x.key y.key) p.0))) (each ys p.1)

first_behind : (before : List ℕ) (e : Entry) (items : List BlockEntry) (es : List Entry) → HasParts before e.key → KeysAscend (Some before) items → proper_entries items ≡ Ok es → IsFirst e es
first_behind before e [] es parts up given = subst (IsFirst e) (ok_is given) tt
first_behind before e (item ∷ items) es parts up given =
    let (x, at, rest) = then_ok (proper_entry item) (λ y. proper_entries items >>= λ ys. Ok (y ∷ ys)) es given in
    let (xs, more, is) = then_ok (proper_entries items) (λ ys. Ok (x ∷ ys)) es rest in
    subst (IsFirst e) (ok_is is) (ap is_lt (same_order before item.key e.key x.key parts (item_parts item x at)) ∙ up.1)

pub is_run_of : (before : Option (List ℕ)) (items : List BlockEntry) (es : List Entry) → KeysAscend before items → proper_entries items ≡ Ok es → AllByRecursion IsProper es → is_run es ≡ true
is_run_of before [] es up given proper = ap is_run (sym (ok_is given))
is_run_of before (item ∷ items) es up given proper =
    let (x, at, rest) = then_ok (proper_entry item) (λ y. proper_entries items >>= λ ys. Ok (y ∷ ys)) es given in
    let (xs, more, is) = then_ok (proper_entries items) (λ ys. Ok (x ∷ ys)) es rest in
    let all : AllByRecursion IsProper (x ∷ xs) = subst (AllByRecursion IsProper) (sym (ok_is is)) proper in
    let run : is_run xs ≡ true = is_run_of (Some item.key) items xs up.2 more all.1 in
    let first : IsFirst x xs = first_behind item.key x items xs (item_parts item x at) up.2 more in
    ap is_run (sym (ok_is is))
    ∙ both_true (is_key x.key && list_all (stands_before x) xs) (is_run xs)
    (both_true (is_key x.key) (list_all (stands_before x) xs) (key_passes x.key all.0.key) (before_all x xs run first)) run

pub ok_is_run : (items : List BlockEntry) (r : Result (Vec Entry Global) Unread) → KeysAscend None items → IfOk r (λ es. proper_entries items ≡ Ok es.items) → IfOk r (λ es. AllByRecursion IsProper es.items) → IfOk r (λ es. IsTrue (is_run es.items))
ok_is_run items (Ok es) up given proper = is_run_of None items es.items up given proper
ok_is_run items (Err why) up given proper = tt
