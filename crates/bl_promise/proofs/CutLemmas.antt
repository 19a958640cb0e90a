-- What a cut leaves while a line is obeyed.
use Rattle.std.proofs.Common.{◌≡◌, inl, inr, ℕ, ◌+◌, ◌≤◌, Bool, true, false, List, [], ◌∷◌, ◌++◌, length, take, refl, sym, ◌∙◌, ap, subst, cond, arith, append-nil, append_assoc, length-append}
use Rattle.std.proofs.lemmas.Bool.{cases_lt}
use Rattle.std.proofs.lemmas.List.{nil_from_length, take-append-le}
use Rattle.bl_site.specs.Disk.{Cut}
use Rattle.bl_entry.specs.Revisions.{Map}
use Rattle.bl_open.specs.SteadyCuts.{IsLeftFor, LeavesMap}
use Rattle.bl_edit.specs.Options.{Values}
use Rattle.bl_machine.specs.Writes.{Write, after_writes}
use Rattle.bl_machine.specs.State.{State}
use Rattle.bl_machine.specs.Step.{Line, Step}
use Rattle.bl_machine.specs.History.{Runs, map_after, told_by, written_by}
use Rattle.bl_machine.specs.Synced.{before_sync, begun, synced, syncs}
use Rattle.bl_machine.proofs.HistoryLemmas.{told_more, written_joined, told_joined, written_more}
use Rattle.bl_machine.proofs.SyncedLemmas.{before_sync_more, begun_are_written, begun_in, more_lines_keep, begun_all, synced_all, synced_have_begun, synced_in, synced_with, syncing_says, yes_or_no}
use Rattle.bl_records.specs.Chance.{NoChanceMatch}
use Rattle.bl_store.specs.Held.{Held, maps_of}
use Rattle.bl_promise.specs.Start.{Start}
use Rattle.bl_promise.specs.Cuts.{CutOf, IsLeft, StandsAfter}
use Rattle.bl_promise.specs.Carried.{IsWrittenBy}
use Rattle.bl_promise.proofs.MapLemmas.{counted, map_is}

-- ---- one more line, of whose reply so many bytes were told

-- of a reply that isn't told whole: what was synced before it
none_synced : (o : Values) (history : List Line) (line : Line) (old new : State) (k : ℕ) → Step o old line new → k ≡ 0 → synced (length (told_by history) + k) (history ++ line ∷ []) ≡ before_sync history
none_synced o history line old new k step none =
    elim (cases_lt k (length line.told)) [
      | inl less ↦ synced_in history line k less
      | inr more ↦ elim (yes_or_no (syncs line.order)) [
        | inl is ↦ absurd (syncing_says o old line new step is (nil_from_length line.told (omega (arith, more, none))))
        | inr quiet ↦ synced_with history line k more ∙ ap (λ b. cond b (length (written_by history)) (before_sync history)) quiet
      ]
    ]

-- the folder stands for one of these maps, so it does for the map after some writes of the history
stands_after : (began : Start) (history : List Line) (line : Line) (earlier : List Write) (held : Held) (least k : ℕ) (c : Cut) → held.before ≡ after_writes earlier began.now
    → written_by (history ++ line ∷ []) ≡ earlier ++ held.writes → synced (length (told_by history) + k) (history ++ line ∷ []) ≤ length earlier + least
    → (told : List ℕ) → LeavesMap (maps_of held) least (length held.writes) told c → NoChanceMatch c.folder c.written
    → StandsAfter c began (history ++ line ∷ []) (length (told_by history) + k)
stands_after began history line earlier held least k c before writes low told l chance =
    let s = l.stands chance in
    let all : begun (length (told_by history) + k) (history ++ line ∷ []) ≡ length earlier + length held.writes = begun_in history line k ∙ counted (history ++ line ∷ []) earlier held writes in
    record {
      writes = length earlier + s.0;
      at_least = omega (arith, low, s.1);
      at_most = omega (arith, all, s.2);
      left = inr (subst (λ (m : Map). IsLeftFor m c) (map_is began (history ++ line ∷ []) earlier held s.0 before writes) s.3);
    }

-- a cut that has told so much of the reply
cut_at : (began : Start) (history : List Line) (line : Line) (earlier : List Write) (held : Held) (least : ℕ) (front rest told0 : List ℕ) (c : Cut) → held.before ≡ after_writes earlier began.now
    → written_by (history ++ line ∷ []) ≡ earlier ++ held.writes → synced (length (told_by history) + length front) (history ++ line ∷ []) ≤ length earlier + least
    → front ++ rest ≡ line.told → LeavesMap (maps_of held) least (length held.writes) ((told0 ++ told_by history) ++ front) c → CutOf began (history ++ line ∷ []) told0 c
cut_at began history line earlier held least front rest told0 c before writes low whole l = record {
  replies = told_by history ++ front;
  more = rest;
  replies_are = append_assoc (told_by history) front rest ∙ ap (λ t. told_by history ++ t) whole ∙ sym (told_more history line);
  told_is = l.told_is ∙ append_assoc told0 (told_by history) front;
  stands = λ chance. subst (λ (n : ℕ). StandsAfter c began (history ++ line ∷ []) n) (sym (length-append (told_by history) front))
      (stands_after began history line earlier held least (length front) c before writes low _ l chance);
}

-- While the call is made, nothing of the reply was told: the writes of the line besides, and what was durable before.
pub cut_in_call : (o : Values) (began : Start) (history : List Line) (line : Line) (old new : State) (earlier : List Write) (held during : Held) (told0 : List ℕ) (c : Cut) → Step o old line new
    → IsWrittenBy began earlier held history → during.before ≡ held.before → during.writes ≡ held.writes ++ line.wrote
    → LeavesMap (maps_of during) held.durable (length during.writes) (told0 ++ told_by history) c → CutOf began (history ++ line ∷ []) told0 c
cut_in_call o began history line old new earlier held during told0 c step w before writes l =
    let all : written_by (history ++ line ∷ []) ≡ earlier ++ during.writes =
    written_more history line ∙ ap (λ ws. ws ++ line.wrote) w.writes ∙ append_assoc earlier held.writes line.wrote ∙ ap (λ ws. earlier ++ ws) (sym writes) in
    let none : synced (length (told_by history) + 0) (history ++ line ∷ []) ≡ before_sync history = none_synced o history line old new 0 step refl in
    let durable = w.durable in
    cut_at began history line earlier during held.durable [] line.told told0 c (before ∙ w.before) all (omega (arith, none, durable)) refl
    (subst (λ (t : List ℕ). LeavesMap (maps_of during) held.durable (length during.writes) t c) (sym (append-nil (told0 ++ told_by history))) l)

-- Once the line is obeyed, while a front of its reply is told: what was synced by then.
pub cut_in_reply : (began : Start) (history : List Line) (line : Line) (earlier : List Write) (held : Held) (front rest told0 : List ℕ) (c : Cut) → IsWrittenBy began earlier held (history ++ line ∷ [])
    → front ++ rest ≡ line.told → LeavesMap (maps_of held) held.durable (length held.writes) ((told0 ++ told_by history) ++ front) c → CutOf began (history ++ line ∷ []) told0 c
cut_in_reply began history line earlier held front rest told0 c w whole l =
    let durable = w.durable in
    let n = length front in
    let more : before_sync (history ++ line ∷ []) ≡ cond (syncs line.order) (length (written_by history)) (before_sync history) = before_sync_more history line in
    let low : synced (length (told_by history) + n) (history ++ line ∷ []) ≤ before_sync (history ++ line ∷ []) = synced_most history line n in
    cut_at began history line earlier held held.durable front rest told0 c w.before w.writes (omega (arith, low, durable)) whole l
  where
    before_within : (history : List Line) → before_sync history ≤ length (written_by history)
    before_within history = omega (arith, synced_have_begun (length (told_by history)) history, synced_all history, begun_all history)

    before_grows : (b : Bool) (history : List Line) → before_sync history ≤ cond b (length (written_by history)) (before_sync history)
    before_grows true history = before_within history
    before_grows false history = omega arith

    synced_most : (history : List Line) (line : Line) (k : ℕ) → synced (length (told_by history) + k) (history ++ line ∷ []) ≤ before_sync (history ++ line ∷ [])
    synced_most history line k = elim (cases_lt k (length line.told)) [
      | inl less ↦ omega (arith, synced_in history line k less, before_sync_more history line, before_grows (syncs line.order) history)
      | inr reached ↦ omega (arith, synced_with history line k reached, before_sync_more history line)
    ]

-- ---- more lines

take_more : (xs ys : List Write) (n : ℕ) → n ≤ length xs → take n (xs ++ ys) ≡ take n xs
take_more xs ys n le = take-append-le n xs ys le

stands_more : (o : Values) (began : Start) (history more : List Line) (mid last : State) (c : Cut) (count : ℕ) → Runs o mid more last → count ≤ length (told_by history)
    → StandsAfter c began history count → StandsAfter c began (history ++ more) count
stands_more o began history more mid last c count runs le s =
    let law = more_lines_keep o history more mid last count runs le in
    let within : s.writes ≤ length (written_by history) = omega (arith, s.at_most, begun_are_written count history) in
    let same : map_after s.writes (history ++ more) began.now ≡ map_after s.writes history began.now =
    ap (λ ws. after_writes (take s.writes ws) began.now) (written_joined history more)
    ∙ ap (λ ws. after_writes ws began.now) (take_more (written_by history) (written_by more) s.writes within) in
    record {
      writes = s.writes;
      at_least = omega (arith, law.0, s.at_least);
      at_most = omega (arith, law.1, s.at_most);
      left = subst (λ (m : Map). IsLeft m c) (sym same) s.left;
    }

pub lines_keep_cuts : (o : Values) (began : Start) (history more : List Line) (mid last : State) (told : List ℕ) (c : Cut) → Runs o mid more last
    → CutOf began history told c → CutOf began (history ++ more) told c
lines_keep_cuts o began history more mid last told c runs k =
    let long : length k.replies ≤ length (told_by history) = omega (arith, length-append k.replies k.more, ap length k.replies_are) in
    record {
      replies = k.replies;
      more = k.more ++ told_by more;
      replies_are = sym (append_assoc k.replies k.more (told_by more)) ∙ ap (λ t. t ++ told_by more) k.replies_are ∙ sym (told_joined history more);
      told_is = k.told_is;
      stands = λ chance. stands_more o began history more mid last c (length k.replies) runs long (k.stands chance);
    }

-- ---- between two lines

stands_between : (began : Start) (history : List Line) (earlier : List Write) (held : Held) (told : List ℕ) (c : Cut) → IsWrittenBy began earlier held history
    → LeavesMap (maps_of held) held.durable (length held.writes) told c → NoChanceMatch c.folder c.written → StandsAfter c began history (length (told_by history))
stands_between began history earlier held told c w l chance =
    let s = l.stands chance in
    let durable = w.durable in
    record {
      writes = length earlier + s.0;
      at_least = omega (arith, synced_all history, durable, s.1);
      at_most = omega (arith, begun_all history, counted history earlier held w.writes, s.2);
      left = inr (subst (λ (m : Map). IsLeftFor m c) (map_is began history earlier held s.0 w.before w.writes) s.3);
    }

-- All replies were told, and no line is obeyed.
pub cut_between : (began : Start) (history : List Line) (earlier : List Write) (held : Held) (told0 : List ℕ) (c : Cut) → IsWrittenBy began earlier held history
    → LeavesMap (maps_of held) held.durable (length held.writes) (told0 ++ told_by history) c → CutOf began history told0 c
cut_between began history earlier held told0 c w l = record {
  replies = told_by history;
  more = [];
  replies_are = append-nil (told_by history);
  told_is = l.told_is;
  stands = λ chance. stands_between began history earlier held _ c w l chance;
}
