-- A memory of some batches, and what a flush keeps of it.
use Rattle.std.proofs.Common.{◌≡◌, ℕ, suc, ◌+◌, ◌<◌, ◌≤◌, nat_le, Bool, true, false, List, [], ◌∷◌, length, refl, sym, ◌∙◌, ap, arith, inl, inr, Option, Some, None}
use Rattle.std.specs.Prelude.{◌==◌, ◌&&◌, map, sum_by, if◌then◌else◌}
use Rattle.std.specs.List.{AllByRecursion, IsDistinct}
use Rattle.std.specs.List.Sorted.{IsStrictlySortedBy}
use Rattle.std.specs.Ordering.{is_lt, nat_cmp, ordering_then}
use Rattle.std.specs.declared.cmp.Ordering.TheVariants.{Less, Equal}
use Rattle.std.specs.Cmp.{tied_itself}
use Rattle.std.specs.Cmp.Lexicographic.{nat_list_cmp_total}
use Rattle.std.proofs.lemmas.Bool.{and_from, eqb-true, le-leb, leb-true}
use Rattle.std.proofs.lemmas.List.Sums.{sum_by-cons}
use Rattle.bl_code.specs.Order.{bytes_cmp, same_bytes}
use Rattle.bl_entry.specs.declared.batch.Operation.{Operation}
use Rattle.bl_entry.specs.declared.key.Kind.{Kind}
use Rattle.bl_entry.specs.declared.key.Kind.TheVariants.{Deletion, Value, BlobRef}
use Rattle.bl_entry.specs.declared.key.Entry.{Entry}
use Rattle.bl_entry.specs.Batches.{Batch}
use Rattle.bl_entry.specs.Entries.{AreInOrder, EntriesUpTo, IsAscending, is_deletion}
use Rattle.bl_entry.specs.Keys.{Key, key_cmp, key_number, kind_number}
use Rattle.bl_entry.specs.Kept.{KeptTellTheSame, MayBeAsked, is_newest, kept}
use Rattle.bl_entry.specs.Revisions.{Revision, revisions_from, revisions_of, seen}
use Rattle.bl_code.proofs.Basics.{all_from}
use Rattle.bl_entry.proofs.ListLemmas.{all_append}
use Rattle.bl_entry.proofs.OrderLemmas.{nat_cmp_lt}
use Rattle.bl_entry.specs.Latest.{revision_of}
use Rattle.bl_out.proofs.AmongLemmas.{Among, among_filter, to_filter}
use Rattle.bl_folder.proofs.SeenLemmas.{both_true, key_same, newest_is, newest_there, one_revision, same_key}
use Rattle.bl_out.proofs.WrittenLemmas.{IsPlain}
use Rattle.bl_folder.specs.Flushes.{Follow, IsKeptAt}
use Rattle.bl_folder.specs.Fronts.{last_after}
use Rattle.bl_out.specs.Values.{same_revision}
use Rattle.bl_out.specs.Written.{IsPlainKind}

-- ---- the sequences of batches

from_bounds : (seq : ℕ) (os : List Operation) → AllByRecursion (λ r. (seq ≤ r.seq) × (r.seq < seq + length os)) (revisions_from seq os)
unfolding revisions_from
from_bounds seq [] = tt
from_bounds seq (o ∷ os) = (
  (omega arith, omega arith),
  all_from (λ (r : Revision). (seq + 1 ≤ r.seq) × (r.seq < seq + 1 + length os)) (λ r. (seq ≤ r.seq) × (r.seq < seq + suc (length os))) (revisions_from (seq + 1) os) (λ r (a, b). (omega arith, omega arith)) (from_bounds (seq + 1) os),
)

-- the sequences of batches that follow each other
pub following : (before : ℕ) (bs : List Batch) → Follow before bs → AllByRecursion (λ r. (before < r.seq) × (r.seq ≤ last_after before bs)) (revisions_of bs)
following before [] f = tt
following before (b ∷ bs) f =
    let first : b.first ≡ before + 1 = f.0 in
    let total : sum_by (λ (c : Batch). length c.operations) (b ∷ bs) ≡ length b.operations + sum_by (λ (c : Batch). length c.operations) bs = sum_by-cons (λ (c : Batch). length c.operations) b bs in
    all_append (λ (r : Revision). (before < r.seq) × (r.seq ≤ last_after before (b ∷ bs))) (revisions_from b.first b.operations) (revisions_of bs)
    (all_from (λ (r : Revision). (b.first ≤ r.seq) × (r.seq < b.first + length b.operations)) (λ r. (before < r.seq) × (r.seq ≤ last_after before (b ∷ bs))) (revisions_from b.first b.operations) (λ r (h, k). (omega arith, omega arith)) (from_bounds b.first b.operations))
    (all_from (λ (r : Revision). (before + length b.operations < r.seq) × (r.seq ≤ last_after (before + length b.operations) bs)) (λ r. (before < r.seq) × (r.seq ≤ last_after before (b ∷ bs))) (revisions_of bs) (λ r (h, k). (omega arith, omega arith)) (following (before + length b.operations) bs f.1))

-- ---- keys in order

-- of one user key the greater number stands before
user_before : (x y : Key) → x.user ≡ y.user → is_lt (key_cmp x y) ≡ true → key_number y < key_number x
user_before x y same lt =
    let users : bytes_cmp x.user y.user ≡ Equal = ap (λ u. bytes_cmp u y.user) same ∙ tied_itself nat_list_cmp_total y.user in
    nat_cmp_lt (key_number y) (key_number x) (sym (ap (λ o. is_lt (ordering_then o (nat_cmp (key_number y) (key_number x)))) users) ∙ lt)

-- puts and deletions that write the same are of one kind
one_kind : (k j : Kind) (v w : List ℕ) → IsPlainKind k → IsPlainKind j → ◌≡◌ {A = Option (List ℕ)} (if is_deletion k then None else Some v) (if is_deletion j then None else Some w) → k ≡ j
one_kind Deletion Deletion v w p q e = refl
one_kind Deletion Value v w p q e = absurd cc
one_kind Value Deletion v w p q e = absurd cc
one_kind Value Value v w p q e = refl
one_kind BlobRef j v w p q e = absurd p
one_kind Deletion BlobRef v w p q e = absurd q
one_kind Value BlobRef v w p q e = absurd q

-- of one revision there is one entry in order
not_before : (x y : Entry) → IsPlain x → IsPlain y → revision_of x ≡ revision_of y → is_lt (key_cmp x.key y.key) ≡ true → ⊥
not_before x y p q e lt =
    let users : x.key.user ≡ y.key.user = ap (λ (r : Revision). r.key) e in
    let seqs : x.key.seq ≡ y.key.seq = ap (λ (r : Revision). r.seq) e in
    let kinds : x.key.kind ≡ y.key.kind = one_kind x.key.kind y.key.kind x.value y.value p q (ap (λ (r : Revision). r.put) e) in
    let numbers : kind_number x.key.kind ≡ kind_number y.key.kind = ap kind_number kinds in
    let less : key_number y.key < key_number x.key = user_before x.key y.key users lt in
    omega arith

-- ---- the entries of a memory are of different user keys or sequences

abbrev pub same_two : Entry → Entry → Bool
same_two x y = same_revision (revision_of x) (revision_of y)

and_false : (b : Bool) → (b && false) ≡ false
and_false true = refl
and_false false = refl

module _ (rs : List Revision) (distinct : IsDistinct same_revision rs) where
  two : (x y : Entry) → Among (revision_of x) rs → Among (revision_of y) rs → IsPlain x → IsPlain y → key_cmp x.key y.key ≡ Less → same_two x y ≡ false
  two x y a b p q lt = by (same_bytes x.key.user y.key.user) (x.key.seq == y.key.seq) refl refl
    where
      by : (s t : Bool) → same_bytes x.key.user y.key.user ≡ s → (x.key.seq == y.key.seq) ≡ t → same_two x y ≡ false
      by false t f g = ap (λ b. b && (x.key.seq == y.key.seq)) f
      by true false f g = ap (λ b. same_bytes x.key.user y.key.user && b) g ∙ and_false (same_bytes x.key.user y.key.user)
      by true true f g = absurd (not_before x y p q (one_revision rs distinct (revision_of x) (revision_of y) a b (same_key x.key.user y.key.user f) (eqb-true x.key.seq y.key.seq g)) (ap is_lt lt))

  pub all_two : (es : List Entry) → IsAscending es → AllByRecursion IsPlain es → AllByRecursion (λ e. Among (revision_of e) rs) es → IsDistinct same_two es
  unfolding IsStrictlySortedBy IsDistinct
  all_two [] up plain there = tt
  all_two (x ∷ es) up plain there = (each es up.0 plain.1 there.1, all_two es up.1 plain.1 there.1)
    where
      each : (ys : List Entry) → AllByRecursion (λ k. key_cmp x.key k ≡ Less) (map (λ e. e.key) ys) → AllByRecursion IsPlain ys → AllByRecursion (λ e. Among (revision_of e) rs) ys → AllByRecursion (λ y. same_two x y ≡ false) ys
      each [] h p a = tt
      each (y ∷ ys) h p a = (two x y there.0 a.0 plain.0 p.0 h.0, each ys h.1 p.1 a.1)

pub two_mapped : (es : List Entry) → IsDistinct same_two es → IsDistinct same_revision (map revision_of es)
unfolding IsDistinct
two_mapped [] h = tt
two_mapped (x ∷ es) h = (each es h.0, two_mapped es h.1)
  where
    each : (ys : List Entry) → AllByRecursion (λ y. same_two x y ≡ false) ys → AllByRecursion (λ r. same_revision (revision_of x) r ≡ false) (map revision_of ys)
    each [] k = tt
    each (y ∷ ys) k = (k.0, each ys k.1)

-- ---- what is kept

pub kept_is_part : (snapshots : List ℕ) (memory : List Entry) (e : Entry) → Among e (kept snapshots false memory) → Among e memory
kept_is_part snapshots memory e h = (among_filter (λ x. is_newest snapshots memory x && true) memory e h).0

-- the greatest revision that is seen at a sequence which the flush keeps is kept
module _ (tell : KeptTellTheSame) (snapshots : List ℕ) (last s : ℕ) (at : IsKeptAt snapshots last s) (rs : List Revision) (distinct : IsDistinct same_revision rs) (memory : List Entry)
    (order : AreInOrder memory) (low : EntriesUpTo last memory) (told : (r : Revision) → Among r (map revision_of memory) → Among r rs) where
  asked : MayBeAsked snapshots s memory
  asked = elim at [ inl there ↦ inl there | inr le ↦ inr (all_from (λ e. e.key.seq ≤ last) (λ e. e.key.seq ≤ s) memory (λ e up. omega arith) low) ]

  abbrev is_seen : List ℕ → Revision → Bool
  is_seen key r = same_bytes r.key key && nat_le r.seq s

  pub greatest_is_kept : (key : List ℕ) (r : Revision) → Among r (map revision_of memory) → r.key ≡ key → r.seq ≤ s → ((q : Revision) → Among q rs → q.key ≡ key → q.seq ≤ s → q.seq ≤ r.seq)
      → Among r (map revision_of (kept snapshots false memory))
  greatest_is_kept key r there is le most =
      let keeps : List Revision = map revision_of (kept snapshots false memory) in
      (among_filter (is_seen key) keeps r
      (newest_there (seen s key keeps) r
      (tell snapshots memory s key order asked
      ∙ newest_is (seen s key (map revision_of memory)) r
      (to_filter (is_seen key) (map revision_of memory) r there (and_from (same_bytes r.key key) (nat_le r.seq s) (key_same r.key key is) (le-leb r.seq s le)))
      (λ q h. let a = seen_parts key q h in most q a.0 a.1 a.2)
      (λ q h e. let a = seen_parts key q h in one_revision rs distinct q r a.0 (told r there) (a.1 ∙ sym is) e)))).0
    where
      seen_parts : (k : List ℕ) (q : Revision) → Among q (seen s k (map revision_of memory)) → Among q rs × (q.key ≡ k) × (q.seq ≤ s)
      seen_parts k q h =
          let a = among_filter (is_seen k) (map revision_of memory) q h in
          let t = both_true (same_bytes q.key k) (nat_le q.seq s) a.1 in
          (told q a.0, same_key q.key k t.0, leb-true q.seq s t.1)
