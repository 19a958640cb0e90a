-- What a cut leaves, from line to line.
use Rattle.std.proofs.Common.{◌≡◌, ℕ, ◌+◌, ◌^◌, ◌<◌, ◌≤◌, Bool, true, false, cond, List, [], ◌∷◌, ◌++◌, length, take, refl, sym, ◌∙◌, ap, subst, arith, append_assoc, append-nil, length-append, inl, inr}
use Rattle.std.proofs.Math.Seq.{take-append-add}
use Rattle.std.proofs.lemmas.Bool.{cases_lt}
use Rattle.std.proofs.lemmas.Grind.{flat_map-append}
use Rattle.std.proofs.lemmas.List.{map-append, take-append-le, nil_from_length}
use Rattle.bl_site.specs.Disk.{Folder, Disk, Cut, IsCut}
use Rattle.bl_entry.specs.Batches.{Batch}
use Rattle.bl_script.specs.declared.command.Parsed.{Parsed}
use Rattle.bl_script.specs.declared.command.Parsed.TheVariants.{Nothing}
use Rattle.bl_records.specs.Chance.{NoChanceMatch}
use Rattle.bl_records.proofs.HeldLemmas.{within_of}
use Rattle.bl_wal.specs.Held.{record_of}
use Rattle.bl_logstore.specs.Cuts.{LeavesFirst, AreLeftWhole}
use Rattle.bl_logstore.specs.Folders.{Stands, LogStands}
use Rattle.bl_logstore.specs.Laws.{CutsStand, BatchesMakeMap}
use Rattle.bl_logstore.specs.Stored.{Stored, next_batch}
use Rattle.bl_shell.specs.Machine.{Write, Line, Runs, after_writes, orders_of, reply_of, writes_of, told_by, written_by, operations_in, numbered, Start}
use Rattle.bl_shell.specs.Synced.{syncs, before_sync, synced, begun, CutOf, StandsAfter}
use Rattle.bl_shell.specs.Carried.{state_of, IsServable, TellsFront, StandsFirst, CutTelling, CutIn, IsWrite, IsTold, IsMade}
use Rattle.bl_shell.proofs.HistoryLemmas.{goes, runs_then, told_more, written_more, numbered_more, line_of, next_of, step_of}
use Rattle.bl_shell.proofs.StayLemmas.{none_numbered, one_numbered, stays_same}
use Rattle.bl_shell.proofs.SyncedLemmas.{says, yes_or_no, begun_within, begun_of_more, synced_of_more, synced_all, begun_all, synced_in, synced_with, begun_in, stands_after, numbered-length}

-- of the older batches and the first ones of a log
pub leaves_first : (older own batches : List Batch) (count least : ℕ) (told : List ℕ) (c : Cut) → older ++ own ≡ batches → least ≤ length older + count
    → LeavesFirst older own count told c → NoChanceMatch c.folder c.written → StandsFirst c.folder batches least
leaves_first older own batches count least told c all le l chance =
    let s = l.stands chance in
    let long : length batches ≡ length older + length own = ap length (sym all) ∙ length-append older own in
    let first : older ++ take s.0 own ≡ take (length older + s.0) batches = sym (take-append-add older own s.0) ∙ ap (take (length older + s.0)) all in
    let P : List Batch → Type 0 = λ bs. Stands c.folder bs s.3.0 in
    record {
      count = length older + s.0;
      at_least = omega (arith, le, s.1);
      at_most = omega (arith, long, s.2);
      last = s.3.0;
      stands = subst P first s.3.1;
    }

-- the first ones of some batches, and of more
first_of_more : (folder : Folder) (batches more : List Batch) (least : ℕ) → StandsFirst folder batches least → StandsFirst folder (batches ++ more) least
first_of_more folder batches more least s =
    let P : List Batch → Type 0 = λ bs. Stands folder bs s.last in
    record {
      count = s.count;
      at_least = s.at_least;
      at_most = omega (arith, s.at_most, length-append batches more);
      last = s.last;
      stands = subst P (sym (take-append-le s.count batches more s.at_most)) s.stands;
    }

first_from : (folder : Folder) (batches : List Batch) (less least : ℕ) → less ≤ least → StandsFirst folder batches least → StandsFirst folder batches less
first_from folder batches less least le s = record { count = s.count; at_least = omega (arith, le, s.at_least); at_most = s.at_most; last = s.last; stands = s.stands }

pub first_stays : CutsStand → (store : Stored) (batches : List Batch) (least : ℕ) (disk : Disk) (told : List ℕ) (c : Cut) → IsServable store batches least disk → IsCut disk told c
    → NoChanceMatch c.folder c.written → StandsFirst c.folder batches least
first_stays law store batches least disk told c s is =
    leaves_first s.older s.own batches s.synced least told c s.all s.at_least (law store.log s.older s.own s.synced store.last disk told c s.carries.on is)

pub whole_stays : CutsStand → (store : Stored) (batches : List Batch) (least : ℕ) (disk : Disk) (told : List ℕ) (c : Cut) → IsServable store batches least disk → IsCut disk told c → AreLeftWhole c
whole_stays law store batches least disk told c s is = (law store.log s.older s.own s.synced store.last disk told c s.carries.on is).whole

-- what is told of a line, seen from the order's beginning
pub cut_at : (disk mid : Disk) (bytes reply told told_mid : List ℕ) (c : Cut) → mid ≡ disk → (TellsFront bytes told_mid c.told → TellsFront reply told c.told) → CutTelling mid bytes told_mid c → CutTelling disk reply told c
cut_at disk mid bytes reply told told_mid c same tells t = record {
  tells = tells t.tells;
  is_cut = let P : Disk → Type 0 = λ d. IsCut d c.told c in subst P same t.is_cut;
}

-- not more batches than there are
pub least_within : (store : Stored) (batches : List Batch) (least : ℕ) (disk : Disk) → IsServable store batches least disk → least ≤ length batches
least_within store batches least disk s = omega (arith, s.at_least, within_of record_of s.own s.synced s.carries.on.holds.within, ap length s.all, length-append s.older s.own)

abbrev none_told : (reply told told_now : List ℕ) → told_now ≡ told → TellsFront reply told told_now
none_told reply told told_now same = record { front = []; rest = reply; whole = refl; told_is = same ∙ sym (append-nil told) }

-- nothing was told yet, and nothing written
pub cut_quiet : (order : Parsed) (store : Stored) (batches : List Batch) (least : ℕ) (told : List ℕ) (c : Cut) → c.told ≡ told → AreLeftWhole c
    → (NoChanceMatch c.folder c.written → StandsFirst c.folder batches least) → CutIn order store batches least told c
cut_quiet order store batches least told c same older first = record {
  tells = none_told (reply_of order store.now) told c.told same;
  whole = older;
  stands = λ chance. first_of_more c.folder batches (numbered (store.last + 1) (writes_of order)) least (first chance);
  synced = λ chance sync none. absurd (says order store.now sync none);
}

pub cut_now : CutsStand → (order : Parsed) (store : Stored) (batches : List Batch) (least : ℕ) (disk : Disk) (told : List ℕ) (c : Cut) → IsServable store batches least disk → IsCut disk told c
    → CutIn order store batches least told c
cut_now law order store batches least disk told c s is =
    cut_quiet order store batches least told c is.told_is (whole_stays law store batches least disk told c s is) (first_stays law store batches least disk told c s is)

-- nothing was told yet, and a batch is on its way to the log
pub cut_writing : (order : Parsed) (operations : Write) (store : Stored) (batches : List Batch) (least : ℕ) (disk : Disk) (told : List ℕ) (c : Cut) → IsWrite order operations → (s : IsServable store batches least disk)
    → LeavesFirst s.older (s.own ++ next_batch store operations ∷ []) s.synced told c → CutIn order store batches least told c
cut_writing order operations store batches least disk told c w s l =
    let b = next_batch store operations in
    let all : s.older ++ (s.own ++ b ∷ []) ≡ batches ++ numbered (store.last + 1) (writes_of order) =
    sym (append_assoc s.older s.own (b ∷ [])) ∙ ap (λ bs. bs ++ b ∷ []) s.all ∙ ap (λ bs. batches ++ bs) (sym (ap (numbered (store.last + 1)) w.writes ∙ one_numbered (store.last + 1) operations)) in
    record {
      tells = none_told (reply_of order store.now) told c.told l.told_is;
      whole = l.whole;
      stands = leaves_first s.older (s.own ++ b ∷ []) _ s.synced least told c all s.at_least l;
      synced = λ chance sync none. absurd (says order store.now sync none);
    }

-- the order is done, and the reply is told
pub cut_told : CutsStand → (order : Parsed) (store next : Stored) (batches : List Batch) (least : ℕ) (disk : Disk) (told : List ℕ) (c : Cut) → least ≤ length batches
    → IsServable next (batches ++ numbered (store.last + 1) (writes_of order)) (cond (syncs order) (length batches) least) disk → CutTelling disk (reply_of order store.now) told c
    → CutIn order store batches least told c
cut_told law order store next batches least disk told c le s t =
    let all = batches ++ numbered (store.last + 1) (writes_of order) in
    let first = first_stays law next all (cond (syncs order) (length batches) least) disk c.told c s t.is_cut in
    record {
      tells = t.tells;
      whole = whole_stays law next all (cond (syncs order) (length batches) least) disk c.told c s t.is_cut;
      stands = λ chance. first_from c.folder all least (cond (syncs order) (length batches) least) (either (syncs order)) (first chance);
      synced = λ chance sync none. let P : Bool → Type 0 = λ b. StandsFirst c.folder all (cond b (length batches) least) in subst P sync (first chance);
    }
  where
    either : (b : Bool) → least ≤ cond b (length batches) least
    either true = le
    either false = omega arith

-- an order only tells
pub cut_only_told : CutsStand → (order : Parsed) (store : Stored) (batches : List Batch) (least : ℕ) (disk : Disk) (reply told : List ℕ) (c : Cut) → IsTold order store.now reply → IsServable store batches least disk
    → CutTelling disk reply told c → CutIn order store batches least told c
cut_only_told law order store batches least disk reply told c t s k =
    let R : List ℕ → Type 0 = λ r. CutTelling disk r told c in
    let W : List Write → Type 0 = λ ws. IsServable store (batches ++ numbered (store.last + 1) ws) (cond (syncs order) (length batches) least) disk in
    let B : Bool → Type 0 = λ b. IsServable store (batches ++ numbered (store.last + 1) []) (cond b (length batches) least) disk in
    let N : List Batch → Type 0 = λ bs. IsServable store (batches ++ bs) least disk in
    cut_told law order store store batches least disk told c (least_within store batches least disk s)
    (subst W (sym t.writes) (subst B (sym t.no_sync) (subst N (sym (none_numbered (store.last + 1))) (stays_same store batches least disk disk refl s)))) (subst R (sym t.tells) k)

-- what was told and what the folder holds, as the history has it
module _ (make : BatchesMakeMap) (began : Start) (told0 : List ℕ) (made : IsMade began) where
  -- between two lines
  pub cut_between : (history : List Line) (store : Stored) (told : List ℕ) (c : Cut) → Runs (record { now = began.now }) history (state_of store) → told ≡ told0 ++ told_by history → c.told ≡ told → AreLeftWhole c
      → (NoChanceMatch c.folder c.written → StandsFirst c.folder (began.batches ++ numbered (began.last + 1) (written_by history)) (length began.batches + before_sync history))
      → CutOf began (orders_of history) told0 c
  cut_between history store told c runs is same older first = record {
    history = history;
    last = state_of store;
    is_history = record { orders_are = refl; runs = runs };
    replies = told_by history;
    more = [];
    replies_are = append-nil (told_by history);
    told_is = same ∙ is;
    whole = older;
    stands = λ chance.
        stands_after make began c.folder history (length (told_by history)) (length began.batches + before_sync history) made (omega (arith, synced_all history)) (omega (arith, begun_all history)) (first chance);
  }

  -- in a line
  pub cut_in_line : (history : List Line) (store : Stored) (order : Parsed) (told : List ℕ) (c : Cut) → Runs (record { now = began.now }) history (state_of store) → told ≡ told0 ++ told_by history
      → store.last ≡ began.last + operations_in (written_by history)
      → CutIn order store (began.batches ++ numbered (began.last + 1) (written_by history)) (length began.batches + before_sync history) told c → CutOf began (orders_of history ++ (order ∷ [])) told0 c
  unfolding line_of
  cut_in_line history store order told c runs is last i =
      let line = line_of order (state_of store) in
      let found = length began.batches in
      let writes = written_by history in
      let n = began.last + 1 in
      let long : length (told_by history ++ i.tells.front) ≡ length (told_by history) + length i.tells.front = length-append (told_by history) i.tells.front in
      let whole : length line.told ≡ length i.tells.front + length i.tells.rest = ap length (sym i.tells.whole) ∙ length-append i.tells.front i.tells.rest in
      let follow : store.last + 1 ≡ n + operations_in writes = omega (arith, last) in
      let all : (began.batches ++ numbered n writes) ++ numbered (store.last + 1) line.wrote ≡ began.batches ++ numbered n (written_by (history ++ line ∷ [])) =
      ap (λ k. (began.batches ++ numbered n writes) ++ numbered k line.wrote) follow
      ∙ append_assoc began.batches (numbered n writes) (numbered (n + operations_in writes) line.wrote)
      ∙ ap (λ bs. began.batches ++ bs) (sym (ap (numbered n) (written_more history line) ∙ numbered_more n writes line.wrote)) in
      let batches : length (began.batches ++ numbered n writes) ≡ found + length writes = length-append began.batches (numbered n writes) ∙ ap (λ m. found + m) (numbered-length n writes) in
      let F : ℕ → List Batch → Type 0 = λ least bs. StandsFirst c.folder bs least in
      let A : ℕ → Type 0 = λ count. StandsAfter c.folder began (history ++ line ∷ []) count in
      let count = length (told_by history) + length i.tells.front in
      let high : length (written_by (history ++ line ∷ [])) ≤ begun count (history ++ line ∷ []) = omega (arith, begun_in history line (length i.tells.front)) in
      let after = λ (least : ℕ) (low : found + synced count (history ++ line ∷ []) ≤ least) (s : StandsFirst c.folder ((began.batches ++ numbered n writes) ++ numbered (store.last + 1) line.wrote) least).
      stands_after make began c.folder (history ++ line ∷ []) count least made low high (subst (F least) all s) in
      record {
        history = history ++ line ∷ [];
        last = next_of order (state_of store);
        is_history = record {
          orders_are = map-append (λ (l : Line). l.order) history (line ∷ []);
          runs = runs_then history (line ∷ []) (record { now = began.now }) (state_of store) (next_of order (state_of store)) runs (next_of order (state_of store), step_of order (state_of store), refl);
        };
        replies = told_by history ++ i.tells.front;
        more = i.tells.rest;
        replies_are = append_assoc (told_by history) i.tells.front i.tells.rest ∙ ap (λ t. told_by history ++ t) i.tells.whole ∙ sym (told_more history line);
        told_is = i.tells.told_is ∙ ap (λ t. t ++ i.tells.front) is ∙ append_assoc told0 (told_by history) i.tells.front;
        whole = i.whole;
        stands = λ chance. subst A (sym long)
            (elim (cases_lt (length i.tells.front) (length line.told)) [
              | inl lt ↦ after (found + before_sync history) (omega (arith, synced_in history line (length i.tells.front) lt)) (i.stands chance)
              | inr le ↦ elim (yes_or_no (syncs order)) [
                | inl sync ↦ after (length (began.batches ++ numbered n writes)) (omega (arith, synced_with history line (length i.tells.front) le, ap (λ b. cond b (length writes) (before_sync history)) sync, batches))
                    (i.synced chance sync (nil_from_length i.tells.rest (omega (arith, whole, le))))
                | inr quiet ↦ after (found + before_sync history) (omega (arith, synced_with history line (length i.tells.front) le, ap (λ b. cond b (length writes) (before_sync history)) quiet)) (i.stands chance)
              ]
            ]);
      }

  -- in a line that is not accepted
  pub cut_refused : (history : List Line) (store : Stored) (told : List ℕ) (c : Cut) → Runs (record { now = began.now }) history (state_of store) → told ≡ told0 ++ told_by history
      → CutIn Nothing store (began.batches ++ numbered (began.last + 1) (written_by history)) (length began.batches + before_sync history) told c → CutOf began (orders_of history) told0 c
  cut_refused history store told c runs is i =
      let least = length began.batches + before_sync history in
      let batches = began.batches ++ numbered (began.last + 1) (written_by history) in
      let none : i.tells.front ≡ [] = nil_from_length i.tells.front (omega (arith, ap length i.tells.whole, length-append i.tells.front i.tells.rest)) in
      let F : List Batch → Type 0 = λ bs. StandsFirst c.folder bs least in
      cut_between history store told c runs is (i.tells.told_is ∙ ap (λ f. told ++ f) none ∙ append-nil told) i.whole
      (λ chance. subst F (ap (λ bs. batches ++ bs) (none_numbered (store.last + 1)) ∙ append-nil batches) (i.stands chance))

-- a cut of some orders is one of more: the history goes on, and no count changes for it
pub cut_of_more : (began : Start) (given more : List Parsed) (told : List ℕ) (c : Cut) → CutOf began given told c → CutOf began (given ++ more) told c
cut_of_more began given more told c o =
    let g = goes more o.last in
    let h = o.history in
    let short : length o.replies ≤ length (told_by h) = omega (arith, ap length o.replies_are, length-append o.replies o.more) in
    record {
      history = h ++ g.history;
      last = g.last;
      is_history = record {
        orders_are = map-append (λ (l : Line). l.order) h g.history ∙ ap (λ os. os ++ orders_of g.history) o.is_history.orders_are ∙ ap (λ os. given ++ os) g.orders_are;
        runs = runs_then h g.history (record { now = began.now }) o.last g.last o.is_history.runs g.runs;
      };
      replies = o.replies;
      more = o.more ++ told_by g.history;
      replies_are = sym (append_assoc o.replies o.more (told_by g.history)) ∙ ap (λ t. t ++ told_by g.history) o.replies_are ∙ sym (flat_map-append (λ (l : Line). l.told) h g.history);
      told_is = o.told_is;
      whole = o.whole;
      stands = λ chance.
          let s = o.stands chance in
          let few : s.writes ≤ length (written_by h) = omega (arith, s.at_most, begun_within h (length o.replies)) in
          let same : take s.writes (written_by (h ++ g.history)) ≡ take s.writes (written_by h) =
          ap (take s.writes) (flat_map-append (λ (l : Line). l.wrote) h g.history) ∙ take-append-le s.writes (written_by h) (written_by g.history) few in
          let P : List Write → Type 0 = λ ws. LogStands c.folder (after_writes ws began.now) in
          let F : List Write → Type 0 = λ ws. began.last + operations_in ws < 2 ^ 56 in
          record {
            writes = s.writes;
            at_least = omega (arith, synced_of_more h g.history o.last g.last (length o.replies) short g.runs, s.at_least);
            at_most = omega (arith, begun_of_more h g.history (length o.replies), s.at_most);
            fits = subst F (sym same) s.fits;
            stands = subst P (sym same) s.stands;
          };
    }

pub cut_of_given : (began : Start) (given all more : List Parsed) (told : List ℕ) (c : Cut) → all ≡ given ++ more → CutOf began given told c → CutOf began all told c
cut_of_given began given all more told c is o = let P : List Parsed → Type 0 = λ g. CutOf began g told c in subst P (sym is) (cut_of_more began given more told c o)
