-- The map of a folder is given to readers.
use Rattle.std.proofs.Common.{◌≡◌, nat_le, true, ℕ, zero, suc, ◌+◌, ◌<◌, ◌≤◌, List, [], ◌∷◌, ◌++◌, length, take, drop, refl, sym, ◌∙◌, ap, subst, arith, inl, inr, Option, Some, None}
use Rattle.std.specs.Prelude.{max, map, flat_map, sum_by}
use Rattle.std.specs.List.{AllByRecursion, IsDistinct, fold}
use Rattle.std.proofs.lemmas.Bool.{leb-true}
use Rattle.std.proofs.lemmas.Grind.{flat_map-append}
use Rattle.std.proofs.lemmas.List.{append-nil, take-append-drop}
use Rattle.std.proofs.lemmas.List.Sums.{sum_by-cons}
use Rattle.bl_site.specs.Disk.{Folder}
use Rattle.bl_code.proofs.Basics.{all_from}
use Rattle.bl_entry.specs.declared.batch.Operation.{Operation}
use Rattle.bl_entry.specs.declared.key.Entry.{Entry}
use Rattle.bl_entry.specs.Batches.{Batch}
use Rattle.bl_entry.specs.Entries.{IsProper}
use Rattle.bl_entry.specs.Items.{each_of}
use Rattle.bl_entry.specs.Latest.{revision_of as memory_revision}
use Rattle.bl_entry.specs.Revisions.{AreUpTo, Map, Revision, revisions_from, revisions_of, value_at}
use Rattle.bl_entry.proofs.ItemLemmas.{each_cons, some_is, went}
use Rattle.bl_entry.proofs.ListLemmas.{all_append}
use Rattle.bl_edit.specs.declared.edit.NewTable.{NewTable}
use Rattle.bl_out.specs.Tables.{IsAsNamed, TableFile, greatest_of, table_entries}
use Rattle.bl_out.specs.Values.{Records, put_of, revision_of, same_revision}
use Rattle.bl_out.specs.Written.{IsPlainKind}
use Rattle.bl_out.proofs.AmongLemmas.{Among, all_at, all_by, all_unmapped, among_left, among_map, among_parts, among_right, distinct_left, from_among, to_among}
use Rattle.bl_folder.specs.Entries.{records_by}
use Rattle.bl_folder.specs.Flushes.{Follow, IsMemoryOf, IsWhole}
use Rattle.bl_folder.specs.FlushLaws.{HeldAreWhole}
use Rattle.bl_folder.specs.Fronts.{last_after}
use Rattle.bl_folder.specs.Holding.{Holding}
use Rattle.bl_folder.specs.Stands.{StandsLive}
use Rattle.bl_folder.proofs.FlushLemmas.{follow_take}
use Rattle.bl_read.specs.Giving.{AreNewer, Gives, IsNewer, memories_of, revisions_in}
use Rattle.bl_read.specs.Sound.{SoundFoldersGiveTheirMap}
use Rattle.bl_read.proofs.SeenLemmas.{same_value}

-- ---- the sequences of batches

from_bounds : (seq : ℕ) (os : List Operation) → AllByRecursion (λ r. (seq ≤ r.seq) × (r.seq < seq + length os)) (revisions_from seq os)
unfolding revisions_from
from_bounds seq [] = tt
from_bounds seq (o ∷ os) = (
  (omega arith, omega arith),
  all_from (λ (r : Revision). (seq + 1 ≤ r.seq) × (r.seq < seq + 1 + length os)) (λ r. (seq ≤ r.seq) × (r.seq < seq + suc (length os))) (revisions_from (seq + 1) os) (λ r (a, b). (omega arith, omega arith)) (from_bounds (seq + 1) os),
)

-- the sequences of batches that follow each other
following : (before : ℕ) (bs : List Batch) → Follow before bs → AllByRecursion (λ r. (before < r.seq) × (r.seq ≤ last_after before bs)) (revisions_of bs)
following before [] f = tt
following before (b ∷ bs) f =
    let first : b.first ≡ before + 1 = f.0 in
    let total : sum_by (λ (c : Batch). length c.operations) (b ∷ bs) ≡ length b.operations + sum_by (λ (c : Batch). length c.operations) bs = sum_by-cons (λ (c : Batch). length c.operations) b bs in
    all_append (λ (r : Revision). (before < r.seq) × (r.seq ≤ last_after before (b ∷ bs))) (revisions_from b.first b.operations) (revisions_of bs)
    (all_from (λ (r : Revision). (b.first ≤ r.seq) × (r.seq < b.first + length b.operations)) (λ r. (before < r.seq) × (r.seq ≤ last_after before (b ∷ bs))) (revisions_from b.first b.operations) (λ r (h, k). (omega arith, omega arith)) (from_bounds b.first b.operations))
    (all_from (λ (r : Revision). (before + length b.operations < r.seq) × (r.seq ≤ last_after (before + length b.operations) bs)) (λ r. (before < r.seq) × (r.seq ≤ last_after before (b ∷ bs))) (revisions_of bs) (λ r (h, k). (omega arith, omega arith)) (following (before + length b.operations) bs f.1))

follow_drop : (count before : ℕ) (bs : List Batch) → Follow before bs → Follow (last_after before (take count bs)) (drop count bs)
follow_drop zero before bs h = let e : before ≡ before + 0 = omega arith in subst (λ n. Follow n bs) e h
follow_drop (suc count) before [] h = tt
follow_drop (suc count) before (b ∷ bs) h =
    let total : sum_by (λ (c : Batch). length c.operations) (b ∷ take count bs) ≡ length b.operations + sum_by (λ (c : Batch). length c.operations) (take count bs) =
    sum_by-cons (λ (c : Batch). length c.operations) b (take count bs) in
    let e : last_after (before + length b.operations) (take count bs) ≡ last_after before (b ∷ take count bs) = omega arith in
    subst (λ n. Follow n (drop count bs)) e (follow_drop count (before + length b.operations) bs h.1)

follow_both : (before : ℕ) (bs more : List Batch) → Follow before bs → Follow (last_after before bs) more → Follow before (bs ++ more)
follow_both before [] more h k = let e : before + 0 ≡ before = omega arith in subst (λ n. Follow n more) e k
follow_both before (b ∷ bs) more h k =
    let total : sum_by (λ (c : Batch). length c.operations) (b ∷ bs) ≡ length b.operations + sum_by (λ (c : Batch). length c.operations) bs = sum_by-cons (λ (c : Batch). length c.operations) b bs in
    let e : last_after before (b ∷ bs) ≡ last_after (before + length b.operations) bs = omega arith in
    (h.0, follow_both (before + length b.operations) bs more h.1 (subst (λ n. Follow n more) e k))

-- ---- the sequences of tables

fold_over : (a : ℕ) (ns : List ℕ) → (a ≤ fold max a ns) × AllByRecursion (λ n. n ≤ fold max a ns) ns
fold_over a [] = (omega arith, tt)
fold_over a (n ∷ ns) = step (fold_over (max a n) ns)
  where
    step : (max a n ≤ fold max (max a n) ns) × AllByRecursion (λ m. m ≤ fold max (max a n) ns) ns → (a ≤ fold max (max a n) ns) × AllByRecursion (λ m. m ≤ fold max (max a n) ns) (n ∷ ns)
    step (h, k) = (omega arith, (omega arith, k))

under_greatest : (ns : List ℕ) (m : ℕ) → greatest_of ns ≡ Some m → AllByRecursion (λ n. n ≤ m) ns
under_greatest [] m e = tt
under_greatest (n ∷ ns) m e = subst (λ (k : ℕ). AllByRecursion (λ j. j ≤ k) (n ∷ ns)) (some_is e) ((fold_over n ns).0, (fold_over n ns).1)

module _ (h : Holding) (whole : IsWhole h) (named : AllByRecursion IsAsNamed h.tables) (behind : AllByRecursion (λ t. t.most_seq ≤ h.live.standing.last_sequence) h.live.version.tables) where
  last_old : ℕ
  last_old = h.live.standing.last_sequence

  old_seqs : (b : TableFile) → Among b h.tables → AllByRecursion (λ y. y.key.seq ≤ last_old) b.entries
  unfolding last_old
  old_seqs b there =
      let most : b.meta.most_seq ≤ h.live.standing.last_sequence = all_at (λ (t : NewTable). t.most_seq ≤ h.live.standing.last_sequence) h.live.version.tables b.meta behind (subst (Among b.meta) whole.tables (among_map (λ (t : TableFile). t.meta) h.tables b there)) in
      all_from (λ (y : Entry). y.key.seq ≤ b.meta.most_seq) (λ y. y.key.seq ≤ h.live.standing.last_sequence) b.entries (λ y le. omega arith)
      (all_unmapped (λ (y : Entry). y.key.seq) (λ n. n ≤ b.meta.most_seq) b.entries (under_greatest (map (λ e. e.key.seq) b.entries) b.meta.most_seq (all_at IsAsNamed h.tables b named there).most))

  all_old : (ts : List TableFile) → ((b : TableFile) → Among b ts → AllByRecursion (λ y. y.key.seq ≤ last_old) b.entries) → AllByRecursion (λ y. y.key.seq ≤ last_old) (table_entries ts)
  all_old [] each = tt
  all_old (t ∷ ts) each = all_append (λ (y : Entry). y.key.seq ≤ last_old) t.entries (table_entries ts) (each t (inl refl)) (all_old ts (λ b there. each b (inr there)))

  tables_old : AllByRecursion (λ y. y.key.seq ≤ h.live.standing.last_sequence) (table_entries h.tables)
  unfolding last_old
  tables_old = all_old h.tables old_seqs

-- what is told of an entry has its sequence
seq_of : (held : Records) (e : Entry) (r : Revision) → revision_of held e ≡ Some r → r.seq ≡ e.key.seq
seq_of held e r is =
    let p = went (put_of held e.key.kind e) (λ put. Some (record { key = e.key.user; seq = e.key.seq; put = put })) r is in
    sym (ap (λ (q : Revision). q.seq) (some_is p.makes))

found_seqs : (held : Records) (last : ℕ) (es : List Entry) (found : List Revision) → each_of (revision_of held) es ≡ Some found → AllByRecursion (λ y. y.key.seq ≤ last) es → AreUpTo last found
found_seqs held last [] found e h = subst (AreUpTo last) (some_is e) tt
found_seqs held last (x ∷ es) found e h =
    let c = each_cons (revision_of held) x es found e in
    let same : c.first.seq ≡ x.key.seq = seq_of held x c.first c.gives in
    let le : x.key.seq ≤ last = h.0 in
    subst (AreUpTo last) c.is (omega arith, found_seqs held last es c.rest c.more h.1)

-- ---- a memory of batches behind what stands below it

to_batches : (bs : List Batch) (memory : List Entry) → IsMemoryOf bs memory → (q : Revision) → Among q (revisions_in memory) → Among q (revisions_of bs)
to_batches bs memory of q h = to_among (revisions_of bs) q ((of.same q).0 (from_among (map memory_revision memory) q h))

to_memory : (bs : List Batch) (memory : List Entry) → IsMemoryOf bs memory → (q : Revision) → Among q (revisions_of bs) → Among q (revisions_in memory)
to_memory bs memory of q h = to_among (map memory_revision memory) q ((of.same q).1 (from_among (revisions_of bs) q h))

module _ (older : List Revision) (last : ℕ) (bs : List Batch) (memory : List Entry) (low : AreUpTo last older) (follow : Follow last bs) (of : IsMemoryOf bs memory) where
  seqs : (e : Entry) → Among e memory → (last < e.key.seq) × (e.key.seq ≤ last_after last bs)
  seqs e there = all_at (λ (r : Revision). (last < r.seq) × (r.seq ≤ last_after last bs)) (revisions_of bs) (memory_revision e) (following last bs follow) (to_batches bs memory of (memory_revision e) (among_map memory_revision memory e there))

  is_newer : IsNewer memory older
  is_newer = record {
    ascending = of.ascending;
    plain = all_by (λ e. IsProper e × IsPlainKind e.key.kind) memory (λ e there. (all_at IsProper memory e of.proper there, all_at (λ e. IsPlainKind e.key.kind) memory e of.plain there));
    last = last;
    below = low;
    above = all_by (λ e. last < e.key.seq) memory (λ e there. (seqs e there).0);
  }

  up_to : AreUpTo (last_after last bs) (older ++ revisions_in memory)
  up_to =
      all_append (λ (r : Revision). r.seq ≤ last_after last bs) older (revisions_in memory) (all_from (λ (r : Revision). r.seq ≤ last) (λ r. r.seq ≤ last_after last bs) older (λ r le. omega arith) low)
      (all_by (λ (r : Revision). r.seq ≤ last_after last bs) (revisions_in memory) (λ r there.
      (all_at (λ (r : Revision). (last < r.seq) × (r.seq ≤ last_after last bs)) (revisions_of bs) r (following last bs follow) (to_batches bs memory of r there)).1))

-- ---- the map

module _ (law : HeldAreWhole) (folder : Folder) (m : Map) (s : StandsLive folder m) (more : List Batch) (next : Follow s.holding.last more) where
  whole : IsWhole s.holding
  whole = law folder s.manifest s.holding s.holds

  held : Records
  held = records_by s.holding.blobs

  tables : (found : List Revision) × (each_of (revision_of held) (table_entries s.holding.tables) ≡ Some found) × (found ++ revisions_of s.holding.batches ≡ s.found)
  unfolding held
  tables =
      let w = went (each_of (revision_of (records_by s.holding.blobs)) (table_entries s.holding.tables)) (λ es. Some (es ++ revisions_of s.holding.batches)) s.found s.sound.resolve in
      (w.from, w.gives, some_is w.makes)

  low : AreUpTo s.holding.live.standing.last_sequence tables.0
  low = found_seqs held s.holding.live.standing.last_sequence (table_entries s.holding.tables) tables.0 tables.1 (tables_old s.holding whole s.sound.tables s.sound.behind)

  follows : Follow s.holding.live.standing.last_sequence (s.holding.batches ++ more)
  follows = follow_both s.holding.live.standing.last_sequence s.holding.batches more whole.follow (subst (λ n. Follow n more) whole.last next)

  -- what the further batches write is not seen at the last sequence
  not_seen : (q : Revision) → Among q (revisions_of more) → nat_le q.seq s.holding.last ≡ true → ⊥
  not_seen q there le =
      let above : s.holding.last < q.seq = (all_at (λ (r : Revision). (s.holding.last < r.seq) × (r.seq ≤ last_after s.holding.last more)) (revisions_of more) q (following s.holding.last more next) there).0 in
      let most : q.seq ≤ s.holding.last = leb-true q.seq s.holding.last le in
      absurd (omega (arith, above, most))

  split_more : revisions_of (s.holding.batches ++ more) ≡ revisions_of s.holding.batches ++ revisions_of more
  split_more = flat_map-append (λ (b : Batch). revisions_from b.first b.operations) s.holding.batches more

  gives : (waiting : Option (List Entry)) (in_use : List Entry) → AreNewer tables.0 (memories_of waiting in_use)
      → ((q : Revision) → Among q (flat_map revisions_in (memories_of waiting in_use)) → Among q (revisions_of (s.holding.batches ++ more)))
      → ((q : Revision) → Among q (revisions_of (s.holding.batches ++ more)) → Among q (flat_map revisions_in (memories_of waiting in_use)))
      → Gives folder (record { version = s.holding.live.version; memories = memories_of waiting in_use }) s.holding.last m
  unfolding held
  gives waiting in_use newer sub to =
      let told : List Revision = flat_map revisions_in (memories_of waiting in_use) in
      let wrote : List Revision = revisions_of s.holding.batches in
      let distinct : IsDistinct same_revision (tables.0 ++ wrote) = subst (IsDistinct same_revision) (sym tables.2) s.sound.once in
      record {
        tables = s.holding.tables;
        blobs = s.holding.blobs;
        read_tables = s.holds.tables;
        read_blobs = s.holds.blobs;
        spelled = s.holds.spelled;
        named = s.sound.tables;
        proper = s.sound.proper;
        found = tables.0;
        resolve = tables.1;
        once = distinct_left same_revision tables.0 wrote distinct;
        newer = newer;
        map_is = λ key. s.sound.map_is key ∙ sym (ap (λ rs. value_at rs s.holding.last key) tables.2) ∙ sym (same_value (tables.0 ++ wrote) (tables.0 ++ told) s.holding.last key distinct
            (λ q there le. elim (among_parts tables.0 told q there) [
              | inl a ↦ among_left tables.0 wrote q a
              | inr b ↦ elim (among_parts wrote (revisions_of more) q (subst (Among q) split_more (sub q b))) [ inl x ↦ among_right tables.0 wrote q x | inr y ↦ absurd (not_seen q y le) ]
            ])
            (λ q there le. elim (among_parts tables.0 wrote q there) [
              | inl a ↦ among_left tables.0 told q a
              | inr b ↦ among_right tables.0 told q (to q (subst (Among q) (sym split_more) (among_left wrote (revisions_of more) q b)))
            ]));
      }

  behind : (bs : List Batch) (memory : List Entry) (older : List Revision) (last : ℕ) → AreUpTo last older → Follow last bs → IsMemoryOf bs memory → IsNewer memory older
  behind bs memory older last low follow of = is_newer older last bs memory low follow of

  one : (in_use : List Entry) → IsMemoryOf (s.holding.batches ++ more) in_use → Gives folder (record { version = s.holding.live.version; memories = in_use ∷ [] }) s.holding.last m
  one in_use of =
      gives None in_use (behind (s.holding.batches ++ more) in_use tables.0 s.holding.live.standing.last_sequence low follows of, tt)
      (λ q there. to_batches (s.holding.batches ++ more) in_use of q (subst (Among q) (append-nil (revisions_in in_use)) there))
      (λ q there. subst (Among q) (sym (append-nil (revisions_in in_use))) (to_memory (s.holding.batches ++ more) in_use of q there))

  module _ (count : ℕ) (waiting in_use : List Entry) (first : IsMemoryOf (take count (s.holding.batches ++ more)) waiting) (second : IsMemoryOf (drop count (s.holding.batches ++ more)) in_use) where
    split : revisions_of (s.holding.batches ++ more) ≡ revisions_of (take count (s.holding.batches ++ more)) ++ revisions_of (drop count (s.holding.batches ++ more))
    split =
        ap revisions_of (sym (take-append-drop count (s.holding.batches ++ more)))
        ∙ flat_map-append (λ (b : Batch). revisions_from b.first b.operations) (take count (s.holding.batches ++ more)) (drop count (s.holding.batches ++ more))

    two : Gives folder (record { version = s.holding.live.version; memories = waiting ∷ in_use ∷ [] }) s.holding.last m
    two =
        let front : List Batch = take count (s.holding.batches ++ more) in
        let back : List Batch = drop count (s.holding.batches ++ more) in
        let old : ℕ = s.holding.live.standing.last_sequence in
        let first_follows : Follow old front = follow_take count old (s.holding.batches ++ more) follows in
        gives (Some waiting) in_use (
          behind front waiting tables.0 old low first_follows first,
          (
            behind back in_use (tables.0 ++ revisions_in waiting) (last_after old front) (up_to tables.0 old front waiting low first_follows first) (follow_drop count old (s.holding.batches ++ more) follows) second,
            tt,
          ),
        )
        (λ q there. subst (Among q) (sym split) (elim (among_parts (revisions_in waiting) (revisions_in in_use ++ []) q there) [
          | inl a ↦ among_left (revisions_of front) (revisions_of back) q (to_batches front waiting first q a)
          | inr b ↦ among_right (revisions_of front) (revisions_of back) q (to_batches back in_use second q (subst (Among q) (append-nil (revisions_in in_use)) b))
        ]))
        (λ q there. elim (among_parts (revisions_of front) (revisions_of back) q (subst (Among q) split there)) [
          | inl a ↦ among_left (revisions_in waiting) (revisions_in in_use ++ []) q (to_memory front waiting first q a)
          | inr b ↦ among_right (revisions_in waiting) (revisions_in in_use ++ []) q (subst (Among q) (sym (append-nil (revisions_in in_use))) (to_memory back in_use second q b))
        ])

pub sound_given : HeldAreWhole → SoundFoldersGiveTheirMap
sound_given law folder m s more None in_use next of = one law folder m s more next in_use of
sound_given law folder m s more (Some waiting) in_use next (count, first, second) = two law folder m s more next count waiting in_use first second
