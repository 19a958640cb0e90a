-- The values that a compaction keeps.
use Rattle.std.proofs.Common.{◌≡◌, ◌≢◌, ℕ, ◌<◌, ◌≤◌, nat_lt, true, List, ◌++◌, sym, ◌∙◌, ap, subst, arith, Option, Some, None, inl, inr}
use Rattle.std.specs.Prelude.{◌⊎◌}
use Rattle.std.proofs.lemmas.Bool.{ltb-true, ltb-false, cases_eq}
use Rattle.bl_entry.specs.declared.key.Entry.{Entry}
use Rattle.bl_entry.specs.declared.key.Kind.{Kind}
use Rattle.bl_entry.specs.declared.key.Kind.TheVariants.{Deletion, Value, BlobRef}
use Rattle.bl_entry.specs.Entries.{is_deletion, stands_before}
use Rattle.bl_entry.specs.Kept.{stripe}
use Rattle.bl_entry.specs.Revisions.{Revision, revisions_of, value_at}
use Rattle.bl_folder.specs.Entries.{records_by}
use Rattle.bl_folder.specs.Holding.{BlobFile}
use Rattle.bl_out.specs.Tables.{TableFile}
use Rattle.bl_entry.specs.Items.{each_of}
use Rattle.bl_out.specs.Finding.{◌then◌}
use Rattle.bl_out.specs.Values.{put_of, revision_of}
use Rattle.bl_compacted.specs.Laws.{IsKeptAt}
use Rattle.bl_compacted.proofs.Finding.{some_is, went}
use Rattle.bl_compacted.proofs.Apart.{once_pairs}
use Rattle.bl_compacted.proofs.Lists.{In, all_in, by_test, each_gives, each_in, from_contains, in_all, in_append, in_append_left, in_append_right, in_pairs, of_each, of_flat}
use Rattle.bl_compacted.proofs.ValueLemmas.{Dead, Fate, Superseded, value_same}
use Rattle.bl_compacted.proofs.KeptLemmas.{Dropped, Outdone, before_later, kept_first, kept_in, kept_or, later_before, not_itself, stripe_over, stripe_up}
use Rattle.bl_compacted.proofs.Jobs.{Differ, Hands, Job, Reads, after_either, after_reads, all_files, comes_out, entries_after, ins_differ, ins_old, ins_read, keeps, kept_read, left, old, old_either, old_stays, out_of, out_reads, outs, outs_after, read_parts, rest, rest_after, rest_old, rest_read, stay, tables_read}
use Rattle.bl_compacted.proofs.LeftLemmas.{left_reads}
use Rattle.bl_compacted.proofs.LevelLemmas.{lies, seq_behind}

-- ---- what is found after

pub now_tables : (j : Job) → (rs : List Revision) × (each_of (revision_of (records_by (left j))) (entries_after j) ≡ Some rs)
now_tables j = each_gives (revision_of (records_by (left j))) (entries_after j) (all_in (Reads (left j)) (entries_after j) (λ x i. let r = after_reads j x i in (r.0, left_reads j x r.0 i r.1)))

unfoldable pub now : Job → List Revision
now j = (now_tables j).0 ++ revisions_of j.h.batches

pub now_is : (j : Job) → (each_of (revision_of (records_by (left j))) (entries_after j) then λ es. Some (es ++ revisions_of j.h.batches)) ≡ Some (now j)
unfolding now
now_is j = ap (λ o. o then λ es. Some (es ++ revisions_of j.h.batches)) (now_tables j).1

pub now_from : (j : Job) (q : Revision) → In q (now j) → ((y : Entry) × In y (entries_after j) × (revision_of (records_by (left j)) y ≡ Some q)) ⊎ In q (revisions_of j.h.batches)
unfolding now
now_from j q i = by (in_append q (now_tables j).0 (revisions_of j.h.batches) i)
  where
    by : In q (now_tables j).0 ⊎ In q (revisions_of j.h.batches) → ((y : Entry) × In y (entries_after j) × (revision_of (records_by (left j)) y ≡ Some q)) ⊎ In q (revisions_of j.h.batches)
    by (inl k) = inl (of_each (revision_of (records_by (left j))) q (entries_after j) (now_tables j).0 (now_tables j).1 k)
    by (inr k) = inr k

in_now : (j : Job) (x : Entry) (r : Revision) → In x (entries_after j) → revision_of (records_by (all_files j)) x ≡ Some r → In r (now j)
unfolding now
in_now j x r i reads =
    let y = each_in (revision_of (records_by (left j))) x (entries_after j) (now_tables j).0 (now_tables j).1 i in
    let same : y.0 ≡ r = some_is (sym y.2 ∙ left_reads j x r i reads) in
    subst (λ (q : Revision). In q ((now_tables j).0 ++ revisions_of j.h.batches)) same (in_append_left y.0 (now_tables j).0 (revisions_of j.h.batches) y.1)

batch_now : (j : Job) (r : Revision) → In r (revisions_of j.h.batches) → In r (now j)
unfolding now
batch_now j r i = in_append_right r (now_tables j).0 (revisions_of j.h.batches) i

in_found : (j : Job) (x : Entry) (r : Revision) → In x (old j) → revision_of (records_by j.h.blobs) x ≡ Some r → In r j.found
in_found j x r i reads =
    let t = tables_read j in
    let y = each_in (revision_of (records_by j.h.blobs)) x (old j) t.from t.gives i in
    let same : y.0 ≡ r = some_is (sym y.2 ∙ reads) in
    subst (In r) (some_is t.makes) (in_append_left r t.from (revisions_of j.h.batches) (subst (λ (q : Revision). In q t.from) same y.1))

found_from : (j : Job) (q : Revision) → In q j.found → ((x : Entry) × In x (old j) × (revision_of (records_by j.h.blobs) x ≡ Some q)) ⊎ In q (revisions_of j.h.batches)
found_from j q i =
    let t = tables_read j in
    by t.from t.gives (in_append q t.from (revisions_of j.h.batches) (subst (In q) (sym (some_is t.makes)) i))
  where
    by : (rs : List Revision) → each_of (revision_of (records_by j.h.blobs)) (old j) ≡ Some rs → In q rs ⊎ In q (revisions_of j.h.batches)
        → ((x : Entry) × In x (old j) × (revision_of (records_by j.h.blobs) x ≡ Some q)) ⊎ In q (revisions_of j.h.batches)
    by rs g (inl k) = inl (of_each (revision_of (records_by j.h.blobs)) q (old j) rs g k)
    by rs g (inr k) = inr k

-- each entry after reads as one before
pub record Before (j : Job) (y : Entry) (q : Revision) : Type 0 where
  pub entry : Entry
  pub there : In entry (old j)
  pub reads : revision_of (records_by j.h.blobs) entry ≡ Some q

pub before : (j : Job) (y : Entry) (q : Revision) → In y (entries_after j) → revision_of (records_by (left j)) y ≡ Some q → Before j y q
before j y q i reads = by (after_either j y i)
  where
    is : (r : Revision) → revision_of (records_by (all_files j)) y ≡ Some r → r ≡ q
    is r g = some_is (sym (left_reads j y r i g) ∙ reads)

    by : In y (outs j) ⊎ In y (rest j) → Before j y q
    by (inl k) =
        let p = out_of j y k in
        let r = in_all (Reads j.h.blobs) p.0 (keeps j) (kept_read j) p.1 in
        record { entry = p.0; there = ins_old j p.0 (kept_in j.plan.snapshots j.plan.bottom j.c.ins p.0 p.1); reads = r.1 ∙ ap Some (is r.0 (out_reads j p.0 y r.0 p.2 r.1)) }
    by (inr k) =
        let r = in_all (Reads j.h.blobs) y (rest j) (rest_read j) k in
        record { entry = y; there = rest_old j y k; reads = r.1 ∙ ap Some (is r.0 (old_stays j y r.0 r.1)) }

pub now_in_found : (j : Job) (q : Revision) → In q (now j) → In q j.found
now_in_found j q i = by (now_from j q i)
  where
    by : ((y : Entry) × In y (entries_after j) × (revision_of (records_by (left j)) y ≡ Some q)) ⊎ In q (revisions_of j.h.batches) → In q j.found
    by (inl y) = let b = before j y.0 q y.1 y.2 in in_found j b.entry q b.there b.reads
    by (inr k) =
        let t = tables_read j in
        subst (In q) (some_is t.makes) (in_append_right q t.from (revisions_of j.h.batches) k)

-- ---- what may go

pub hands_key : (j : Job) (k o : Entry) → Hands j k o → (o.key.user ≡ k.key.user) × (o.key.seq ≡ k.key.seq)
hands_key j k o (inl h) = (ap (λ (e : Entry). e.key.user) h.0, ap (λ (e : Entry). e.key.seq) h.0)
hands_key j k o (inr w) = (w.user, w.seq)

deletion_put : (bs : List BlobFile) (x : Entry) (r : Revision) → is_deletion x.key.kind ≡ true → revision_of (records_by bs) x ≡ Some r → r.put ≡ None
deletion_put bs x r d reads =
    let p = went (put_of (records_by bs) x.key.kind x) (λ put. Some (record { key = x.key.user; seq = x.key.seq; put = put })) r reads in
    let put : p.from ≡ r.put = ap (λ (q : Revision). q.put) (some_is p.makes) in
    sym put ∙ by x.key.kind d p.from p.gives
  where
    by : (k : Kind) → is_deletion k ≡ true → (put : Option (List ℕ)) → put_of (records_by bs) k x ≡ Some put → put ≡ None
    by Deletion t put e = sym (some_is e)
    by Value t put e = absurd cc
    by BlobRef t put e = absurd cc

-- in a stripe of the plan no sequence that is kept lies between two
stable : (j : Job) (s : ℕ) (x other : Entry) → IsKeptAt j.plan j.c.ins s → In other j.c.ins → stripe j.plan.snapshots other.key.seq ≡ stripe j.plan.snapshots x.key.seq → x.key.seq ≤ s → other.key.seq ≤ s
stable j s x other (inl c) i same le =
    by_test (nat_lt s other.key.seq)
    (λ t.
    let over : stripe j.plan.snapshots x.key.seq < stripe j.plan.snapshots other.key.seq = stripe_over j.plan.snapshots s x.key.seq other.key.seq (from_contains s j.plan.snapshots c) le (ltb-true s other.key.seq t) in
    absurd (omega arith))
    (λ t. ltb-false s other.key.seq t)
stable j s x other (inr all) i same le = in_all (λ (e : Entry). e.key.seq ≤ s) other j.c.ins all i

one_of : (j : Job) (x y : Entry) → In x j.c.ins → In y j.c.ins → x.key.user ≡ y.key.user → x.key.seq ≡ y.key.seq → x ≡ y
one_of j x y i k u s = by (in_pairs Differ x y j.c.ins (ins_differ j) i k)
  where
    no : Differ x y → ⊥
    no (inl n) = n u
    no (inr n) = n s

    no_back : Differ y x → ⊥
    no_back (inl n) = n (sym u)
    no_back (inr n) = n (sym s)

    by : (x ≡ y) ⊎ (Differ x y ⊎ Differ y x) → x ≡ y
    by (inl e) = e
    by (inr (inl d)) = absurd (no d)
    by (inr (inr d)) = absurd (no_back d)

outdone_later : (j : Job) (x other : Entry) → In x j.c.ins → In other j.c.ins → other.key.user ≡ x.key.user → stands_before other x ≡ true → x.key.seq < other.key.seq
outdone_later j x other i k u b =
    let le : x.key.seq ≤ other.key.seq = before_later other x u b in
    elim (cases_eq other.key.seq x.key.seq) [
      | inl e ↦ absurd (not_itself other x (one_of j other x k i u e) b)
      | inr ne ↦ less other.key.seq x.key.seq le ne
    ]
  where
    less : (a c : ℕ) → c ≤ a → a ≢ c → c < a
    less a c le ne = omega arith

superseded : (j : Job) (s : ℕ) (x : Entry) (r : Revision) → IsKeptAt j.plan j.c.ins s → In x j.c.ins → revision_of (records_by j.h.blobs) x ≡ Some r → r.seq ≤ s → Outdone j.plan.snapshots j.c.ins x → Superseded j.found s r
superseded j s x r at i reads le o =
    let q = in_all (Reads j.h.blobs) o.0 j.c.ins (ins_read j) o.1 in
    let of_x = read_parts j.h.blobs x r reads in
    let of_o = read_parts j.h.blobs o.0 q.0 q.1 in
    let r_seq : r.seq ≡ x.key.seq = of_x.1 in
    let q_seq : q.0.seq ≡ o.0.key.seq = of_o.1 in
    let lt : x.key.seq < o.0.key.seq = outdone_later j x o.0 i o.1 o.2 o.4 in
    let up : o.0.key.seq ≤ s = stable j s x o.0 at o.1 o.3 (omega arith) in
    (q.0, in_found j o.0 q.0 (ins_old j o.0 o.1) q.1, of_o.0 ∙ o.2 ∙ sym of_x.0, omega arith, omega arith)

-- behind a deletion that is dropped nothing of its key is left
after_dropped : (j : Job) (x y : Entry) → In x j.c.ins → Dropped j.plan.snapshots j.plan.bottom j.c.ins x → In y (entries_after j) → y.key.user ≡ x.key.user → x.key.seq < y.key.seq
after_dropped j x y i d k u = by (after_either j y k)
  where
    less : (a c : ℕ) → c ≤ a → a ≢ c → c < a
    less a c le ne = omega arith

    came : (p : Entry) → In p (keeps j) → p.key.user ≡ x.key.user → x.key.seq < p.key.seq
    came p m e =
        let at : In p j.c.ins = kept_in j.plan.snapshots j.plan.bottom j.c.ins p m in
        by_test (nat_lt p.key.seq x.key.seq)
        (λ t.
        let lt : p.key.seq < x.key.seq = ltb-true p.key.seq x.key.seq t in
        let low : stripe j.plan.snapshots p.key.seq ≤ stripe j.plan.snapshots x.key.seq = stripe_up j.plan.snapshots p.key.seq x.key.seq (omega arith) in
        let zero_ : stripe j.plan.snapshots x.key.seq ≡ 0 = d.stripe_is in
        absurd (kept_first j.plan.snapshots j.plan.bottom j.c.ins p x m i (sym e) (omega arith) (later_before x p (sym e) lt)))
        (λ t.
        elim (cases_eq p.key.seq x.key.seq) [
          | inl s ↦ absurd (d.not_kept (subst (λ (z : Entry). In z (keeps j)) (one_of j p x at i e s) m))
          | inr ne ↦ less p.key.seq x.key.seq (ltb-false p.key.seq x.key.seq t) ne
        ])

    by : In y (outs j) ⊎ In y (rest j) → x.key.seq < y.key.seq
    by (inl m) =
        let p = out_of j y m in
        let key = hands_key j p.0 y p.2 in
        let lt : x.key.seq < p.0.key.seq = came p.0 p.1 (sym key.0 ∙ u) in
        let e : y.key.seq ≡ p.0.key.seq = key.1 in
        omega arith
    by (inr m) =
        let t = of_flat (λ (z : TableFile). z.entries) y (stay j) m in
        elim (lies j t.0 x y i t.1 t.2 (sym u)) [
          | inl h ↦ h.1
          | inr h ↦ absurd (h.2 d.bottom_is)
        ]

dead : (j : Job) (s : ℕ) (x : Entry) (r : Revision) → In x j.c.ins → revision_of (records_by j.h.blobs) x ≡ Some r → Dropped j.plan.snapshots j.plan.bottom j.c.ins x → Dead (now j) s r
dead j s x r i reads d =
    let of_x = read_parts j.h.blobs x r reads in
    (deletion_put j.h.blobs x r d.deletion reads, λ q k e le. by of_x.0 of_x.1 q e (now_from j q k))
  where
    by : r.key ≡ x.key.user → r.seq ≡ x.key.seq → (q : Revision) → q.key ≡ r.key → ((y : Entry) × In y (entries_after j) × (revision_of (records_by (left j)) y ≡ Some q)) ⊎ In q (revisions_of j.h.batches) → r.seq < q.seq
    by rk rs q e (inl y) =
        let of_y = read_parts (left j) y.0 q y.2 in
        let lt : x.key.seq < y.0.key.seq = after_dropped j x y.0 i d y.1 (sym of_y.0 ∙ e ∙ rk) in
        let is : q.seq ≡ y.0.key.seq = of_y.1 in
        omega arith
    by rk rs q e (inr b) =
        let ahead : j.h.live.standing.last_sequence < q.seq = in_all (λ (z : Revision). j.h.live.standing.last_sequence < z.seq) q (revisions_of j.h.batches) j.held.ahead b in
        let behind : x.key.seq ≤ j.h.live.standing.last_sequence = seq_behind j x (ins_old j x i) in
        omega arith

-- ---- the values

pub values_kept : (j : Job) (s : ℕ) (key : List ℕ) → IsKeptAt j.plan j.c.ins s → value_at (now j) s key ≡ value_at j.found s key
values_kept j s key at = value_same j.found (now j) s key (once_pairs j.found j.sound.once) (now_in_found j) (λ r i k le. by_origin r le (found_from j r i))
  where
    went_in : (x : Entry) (r : Revision) → In x j.c.ins → revision_of (records_by j.h.blobs) x ≡ Some r → r.seq ≤ s → In x (keeps j) ⊎ (Outdone j.plan.snapshots j.c.ins x ⊎ Dropped j.plan.snapshots j.plan.bottom j.c.ins x) → Fate j.found (now j) s r
    went_in x r i reads le (inl k) = let o = comes_out j x k in inl (in_now j o.0 r (outs_after j o.0 o.1) (out_reads j x o.0 r o.2 reads))
    went_in x r i reads le (inr (inl o)) = inr (inl (superseded j s x r at i reads le o))
    went_in x r i reads le (inr (inr d)) = inr (inr (dead j s x r i reads d))

    by_place : (x : Entry) (r : Revision) → revision_of (records_by j.h.blobs) x ≡ Some r → r.seq ≤ s → In x j.c.ins ⊎ In x (rest j) → Fate j.found (now j) s r
    by_place x r reads le (inl i) = went_in x r i reads le (kept_or j.plan.snapshots j.plan.bottom j.c.ins x i)
    by_place x r reads le (inr i) = inl (in_now j x r (rest_after j x i) (old_stays j x r reads))

    by_origin : (r : Revision) → r.seq ≤ s → ((x : Entry) × In x (old j) × (revision_of (records_by j.h.blobs) x ≡ Some r)) ⊎ In r (revisions_of j.h.batches) → Fate j.found (now j) s r
    by_origin r le (inl x) = by_place x.0 r x.2 le (old_either j x.0 x.1)
    by_origin r le (inr b) = inl (batch_now j r b)
