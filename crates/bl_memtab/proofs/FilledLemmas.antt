-- A memory table that is filled with what batches write.
use Rattle.std.proofs.Common.{◌≡◌, ◌≢◌, ℕ, zero, suc, ◌+◌, ◌<◌, ◌≤◌, Bool, true, false, cond, nat_lt, List, [], ◌∷◌, ◌++◌, length, map, refl, sym, ◌∙◌, ap, subst, arith, append_assoc, append-nil}
use Rattle.std.specs.Prelude.{Option, Some, None, option_and_then}
use Rattle.std.specs.List.{AllByRecursion, prefix_len, insert}
use Rattle.std.specs.List.Sorted.{IsPermutation, IsStrictlySortedBy}
use Rattle.std.proofs.lemmas.Bool.{lt-ltb}
use Rattle.std.proofs.lemmas.List.{map-append}
use Rattle.std.proofs.lemmas.List.Sorted.{IsPermutation-insert, IsPermutation-refl, IsPermutation-to_front, IsPermutation-trans, IsPermutation-cons}
use Rattle.bl_code.proofs.Basics.{all_from}
use Rattle.bl_entry.specs.Entries.{EntriesUpTo}
use Rattle.bl_entry.specs.Keys.{KeysDiffer}
use Rattle.bl_entry.specs.Latest.{LatestIsTheValue, AscendingAreInOrder, revision_of}
use Rattle.bl_entry.specs.Revisions.{Revision, later, newest, seen, value_at}
use Rattle.bl_entry.specs.Written.{EntriesAreRevisions, entries_from, entry}
use Rattle.bl_entry.specs.declared.key.Entry.{Entry}
use Rattle.bl_entry.proofs.LaterLemmas.{is_seen_at, seen_cons}
use Rattle.bl_entry.proofs.ListLemmas.{all_append, by_test}
use Rattle.bl_memtab.specs.Filled.{HeldIsTheValue, Holds, LaterIsFree, NoneIsHeld, OneMoreIsHeld, OperationsAreHeld, filled}
use Rattle.bl_memtab.specs.Rows.{before}
use Rattle.bl_memtab.specs.Tables.{IsFree, with_entry}
use Rattle.bl_memtab.proofs.PlaceLemmas.{sorted_insert, with_entry_is}
use Rattle.bl_memtab.proofs.PutLemmas.{all_insert}

pub later_is_free : LaterIsFree
later_is_free [] last key h lt = tt
later_is_free (x ∷ es) last key h lt = (other, later_is_free es last key h.1 lt)
  where
    other : x.key ≢ key
    other e = let same : x.key.seq ≡ key.seq = ap (λ k. k.seq) e in absurd (omega (arith, h.0))

-- ---- the newest of what is seen, wherever a later one stands

-- of a later one and another, the later is the newest, whichever stands first
later_swap : (y e : Revision) (o : Option Revision) → y.seq < e.seq → later y (Some (later e o)) ≡ later e (Some (later y o))
later_swap y e None lt =
    let up : nat_lt y.seq e.seq ≡ true = lt-ltb y.seq e.seq lt in
    let down : nat_lt e.seq y.seq ≡ false = grind arith in
    ap (λ b. cond b e y) up ∙ sym (ap (λ b. cond b y e) down)
later_swap y e (Some o) lt =
    by_test (nat_lt e.seq o.seq)
    (λ a.
    let c : nat_lt y.seq o.seq ≡ true = grind arith in
    let left : later y (Some (later e (Some o))) ≡ o = ap (λ b. later y (Some (cond b o e))) a ∙ ap (λ b. cond b o y) c in
    let right : later e (Some (later y (Some o))) ≡ o = ap (λ b. later e (Some (cond b o y))) c ∙ ap (λ b. cond b o e) a in
    left ∙ sym right)
    (λ a.
    let c : nat_lt y.seq e.seq ≡ true = lt-ltb y.seq e.seq lt in
    let left : later y (Some (later e (Some o))) ≡ e = ap (λ b. later y (Some (cond b o e))) a ∙ ap (λ b. cond b e y) c in
    let f : nat_lt e.seq y.seq ≡ false = grind arith in
    let right : later e (Some (later y (Some o))) ≡ e =
    by_test (nat_lt y.seq o.seq)
    (λ d. ap (λ b. later e (Some (cond b o y))) d ∙ ap (λ b. cond b o e) a)
    (λ d. ap (λ b. later e (Some (cond b o y))) d ∙ ap (λ b. cond b y e) f) in
    left ∙ sym right)

swap_seen : (s t : Bool) (y e : Revision) (o : Option Revision) → y.seq < e.seq
    → cond s (Some (later y (cond t (Some (later e o)) o))) (cond t (Some (later e o)) o) ≡ cond t (Some (later e (cond s (Some (later y o)) o))) (cond s (Some (later y o)) o)
swap_seen true true y e o lt = ap Some (later_swap y e o lt)
swap_seen true false y e o lt = refl
swap_seen false true y e o lt = refl
swap_seen false false y e o lt = refl

newest_insert : (seq last : ℕ) (key : List ℕ) (e : Entry) (es : List Entry) (n : ℕ) → EntriesUpTo last es → last < e.key.seq
    → newest (seen seq key (map revision_of (insert es n e))) ≡ newest (seen seq key (map revision_of (e ∷ es)))
newest_insert seq last key e [] zero h lt = refl
newest_insert seq last key e [] (suc n) h lt = refl
newest_insert seq last key e (y ∷ es) zero h lt = refl
newest_insert seq last key e (y ∷ es) (suc n) h lt =
    let r : Revision = revision_of e in
    let x : Revision = revision_of y in
    let o : Option Revision = newest (seen seq key (map revision_of es)) in
    let before : y.key.seq < e.key.seq = omega (arith, h.0) in
    seen_cons seq key x (map revision_of (insert es n e))
    ∙ ap (λ p. cond (is_seen_at seq key x) (Some (later x p)) p) (newest_insert seq last key e es n h.1 lt ∙ seen_cons seq key r (map revision_of es))
    ∙ swap_seen (is_seen_at seq key x) (is_seen_at seq key r) x r o before
    ∙ sym (seen_cons seq key r (x ∷ map revision_of es) ∙ ap (λ p. cond (is_seen_at seq key r) (Some (later r p)) p) (seen_cons seq key x (map revision_of es)))

newest_behind : (seq last : ℕ) (key : List ℕ) (r : Revision) (rs : List Revision) → AllByRecursion (λ x. x.seq ≤ last) rs → last < r.seq
    → newest (seen seq key (rs ++ r ∷ [])) ≡ newest (seen seq key (r ∷ rs))
newest_behind seq last key r [] h lt = refl
newest_behind seq last key r (x ∷ rs) h lt =
    let o : Option Revision = newest (seen seq key rs) in
    let before : x.seq < r.seq = omega (arith, h.0) in
    seen_cons seq key x (rs ++ r ∷ [])
    ∙ ap (λ p. cond (is_seen_at seq key x) (Some (later x p)) p) (newest_behind seq last key r rs h.1 lt ∙ seen_cons seq key r rs)
    ∙ swap_seen (is_seen_at seq key x) (is_seen_at seq key r) x r o before
    ∙ sym (seen_cons seq key r (x ∷ rs) ∙ ap (λ p. cond (is_seen_at seq key r) (Some (later r p)) p) (seen_cons seq key x rs))

all_revisions : (last : ℕ) (es : List Entry) → EntriesUpTo last es → AllByRecursion (λ x. x.seq ≤ last) (map revision_of es)
all_revisions last [] h = tt
all_revisions last (e ∷ es) h = (h.0, all_revisions last es h.1)

up_to_later : (last next : ℕ) (es : List Entry) → EntriesUpTo last es → last ≤ next → EntriesUpTo next es
up_to_later last next es h le = all_from (λ e. e.key.seq ≤ last) (λ e. e.key.seq ≤ next) es (λ e k. omega (arith, k)) h

-- ---- one more, and operations

pub one_more_is_held : KeysDiffer → OneMoreIsHeld
one_more_is_held differ es written last e h lt =
    let free : IsFree e.key es = later_is_free es last e.key h.up_to lt in
    let n : ℕ = prefix_len (before e.key) es in
    let is : with_entry e es ≡ insert es n e = with_entry_is differ e es h.ascending free in
    let next : ℕ = e.key.seq in
    let le : last ≤ next = omega arith in
    let here : e.key.seq ≤ next = omega arith in
    let r : Revision = revision_of e in
    let moved : IsPermutation (written ++ e ∷ []) (insert es n e) =
    IsPermutation-trans (written ++ e ∷ []) (e ∷ written) (insert es n e) (IsPermutation-to_front written e)
    (IsPermutation-trans (e ∷ written) (e ∷ es) (insert es n e) (IsPermutation-cons e written es h.same) (IsPermutation-insert es n e)) in
    let tells = λ (seq : ℕ) (key : List ℕ).
    newest_insert seq last key e es n h.up_to lt
    ∙ seen_cons seq key r (map revision_of es)
    ∙ ap (λ p. cond (is_seen_at seq key r) (Some (later r p)) p) (h.newest_is seq key)
    ∙ sym (seen_cons seq key r (map revision_of written))
    ∙ sym (ap (λ rs. newest (seen seq key rs)) (map-append revision_of written (e ∷ [])) ∙ newest_behind seq last key r (map revision_of written) (all_revisions last written h.all_up_to) lt) in
    let all : Holds (insert es n e) (written ++ e ∷ []) next = record {
      ascending = sorted_insert differ e es h.ascending free;
      same = moved;
      up_to = all_insert (λ x. x.key.seq ≤ next) es n e (up_to_later last next es h.up_to le) here;
      all_up_to = all_append (λ x. x.key.seq ≤ next) written (e ∷ []) (up_to_later last next written h.all_up_to le) (here, tt);
      newest_is = tells;
    } in
    (free, subst (λ xs. Holds xs (written ++ e ∷ []) next) (sym is) all)

seq_of : (user : List ℕ) (seq : ℕ) (put : Option (List ℕ)) → (entry user seq put).key.seq ≡ seq
seq_of user seq None = refl
seq_of user seq (Some value) = refl

pub operations_are_held : KeysDiffer → OperationsAreHeld
unfolding entries_from
operations_are_held differ es written last [] h =
    let same : written ≡ written ++ [] = sym (append-nil written) in
    let more : last ≡ last + 0 = omega arith in
    (tt, subst (λ n. Holds es (written ++ []) n) more (subst (λ xs. Holds es xs last) same h))
operations_are_held differ es written last (o ∷ more) h =
    let e : Entry = entry o.key (last + 1) o.put in
    let seq : e.key.seq ≡ last + 1 = seq_of o.key (last + 1) o.put in
    let one = one_more_is_held differ es written last e h (omega (arith, seq)) in
    let held : Holds (with_entry e es) (written ++ e ∷ []) (last + 1) = subst (λ n. Holds (with_entry e es) (written ++ e ∷ []) n) seq one.1 in
    let rest = operations_are_held differ (with_entry e es) (written ++ e ∷ []) (last + 1) more held in
    let all : (written ++ e ∷ []) ++ entries_from (last + 1 + 1) more ≡ written ++ e ∷ entries_from (last + 1 + 1) more = append_assoc written (e ∷ []) (entries_from (last + 1 + 1) more) in
    let n : last + 1 + length more ≡ last + suc (length more) = omega arith in
    let t : List Entry = filled (with_entry e es) (entries_from (last + 1 + 1) more) in
    ((one.0, rest.0), subst (λ k. Holds t (written ++ e ∷ entries_from (last + 1 + 1) more) k) n (subst (λ xs. Holds t xs (last + 1 + length more)) all rest.1))

pub held_is_the_value : AscendingAreInOrder → LatestIsTheValue → EntriesAreRevisions → HeldIsTheValue
held_is_the_value order value are es batches last seq key h =
    sym (value es key seq (order es h.ascending))
    ∙ ap (option_and_then (λ r. r.put)) (h.newest_is seq key)
    ∙ ap (λ rs. value_at rs seq key) (are batches)

pub none_is_held : NoneIsHeld
unfolding IsStrictlySortedBy
none_is_held last = record { ascending = tt; same = IsPermutation-refl []; up_to = tt; all_up_to = tt; newest_is = λ seq key. refl }
