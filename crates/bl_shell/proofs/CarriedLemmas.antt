-- What the shell carries, from piece to piece of the script.
use Rattle.std.proofs.Common.{◌≡◌, ◌⊎◌, inl, inr, ℕ, ◌+◌, List, [], ◌∷◌, ◌++◌, length, map, refl, sym, ◌∙◌, ap, subst, append_assoc, append-nil, arith}
use Rattle.std.proofs.lemmas.List.{map-append}
use Rattle.bl_site.specs.Disk.{Folder, Disk, Cut, IsCut, folder_of}
use Rattle.bl_site.specs.Calls.{LeavesOnly}
use Rattle.bl_site.proofs.Moments.{joins, widened}
use Rattle.bl_entry.specs.Batches.{Batch}
use Rattle.bl_script.specs.declared.command.Parsed.{Parsed}
use Rattle.bl_script.specs.declared.command.Parsed.TheVariants.{Nothing}
use Rattle.bl_script.specs.Lines.{lines_in, whole_lines_in, without_return}
use Rattle.bl_script.specs.Parsing.{parsed}
use Rattle.bl_logstore.specs.Laws.{CutsStand, StoresStand, BatchesMakeMap}
use Rattle.bl_logstore.specs.Stored.{Stored}
use Rattle.bl_shell.specs.declared.lines.LineInHand.{LineInHand}
use Rattle.bl_shell.specs.Machine.{Line, orders, orders_of, reply_of, told_by, written_by, numbered, reopens_in, Start}
use Rattle.bl_shell.specs.Carried.{state_of, Holds, IsServable, TellsFront, Obeyed, Passes, HasRoom, StandsAtStart, Steady, Carried, CutIn, NoLineEnd}
use Rattle.bl_shell.specs.Cuts.{Stops}
use Rattle.bl_shell.specs.Synced.{before_sync, CutOf}
use Rattle.bl_shell.specs.Telling.{IsStartOf, HasBegun, HasFaltered, HasTaken}
use Rattle.bl_shell.proofs.HistoryLemmas.{told_more}
use Rattle.bl_shell.proofs.BreakLemmas.{breaks_between, breaks_in, next_fits}
use Rattle.bl_shell.proofs.LimitLemmas.{lines_fit}
use Rattle.bl_shell.proofs.LeaveLemmas.{Reached, reached_more, leaves_logs}
use Rattle.bl_shell.proofs.LineLemmas.{letters_stay, letters_join, line_ends, whole_ends, no_whole}
use Rattle.bl_shell.proofs.CutLemmas.{first_stays, whole_stays, cut_between, cut_in_line, cut_refused, cut_of_more, cut_of_given}
use Rattle.bl_shell.proofs.StayLemmas.{none_numbered, no_operations}
use Rattle.bl_shell.proofs.SyncedLemmas.{no_syncs}

starts_stays : (began : Start) (folder : Folder) (store : Stored) (disk : Disk) → StandsAtStart began folder store disk
    → IsServable store (began.batches ++ numbered (began.last + 1) (written_by [])) (length began.batches + before_sync []) disk
starts_stays began folder store disk s =
    let P : List Batch → Type 0 = λ bs. IsServable store bs (length began.batches + before_sync []) disk in
    let L : ℕ → Type 0 = λ least. IsServable store began.batches least disk in
    let none : length began.batches ≡ length began.batches + before_sync [] = omega (arith, no_syncs) in
    subst P (sym (ap (λ more. began.batches ++ more) (none_numbered (began.last + 1)) ∙ append-nil began.batches)) (subst L none s.stays)

-- before the first byte
pub starts : (began : Start) (folder : Folder) (told : List ℕ) (store : Stored) (line : LineInHand) (disk : Disk) (steady : (Cut → Type 0) → Type 0) → StandsAtStart began folder store disk → Holds line []
    → steady (CutOf began [] told) → Carried began folder told [] store line disk told steady
unfolding reopens_in
starts began folder told store line disk steady s held cuts = record {
  history = [];
  front = [];
  held = held;
  whole = λ more. refl;
  cut = λ more. refl;
  runs = ap (λ m. record { now = m }) s.now_is;
  told_is = sym (append-nil told);
  stays = starts_stays began folder store disk s;
  made = s.made;
  cuts = cuts;
  last_is = omega (arith, s.last_is, no_operations);
  number_is = omega (arith, s.number_is);
  keeps = s.keeps;
}

-- what a cut finds there
pub cut_at_start : CutsStand → BatchesMakeMap → (began : Start) (folder : Folder) (store : Stored) (disk : Disk) (told : List ℕ) (c : Cut) → StandsAtStart began folder store disk → IsCut disk told c → CutOf began [] told c
cut_at_start law make began folder store disk told c s is =
    cut_between make began told s.made [] store told c (ap (λ m. record { now = m }) s.now_is) (sym (append-nil told)) is.told_is (whole_stays law store _ _ disk told c (starts_stays began folder store disk s) is)
    (first_stays law store _ _ disk told c (starts_stays began folder store disk s) is)

module _ {D : Type 0} (certain : D → Type 0) (clock : D → ℕ) (left_since : D → ℕ → Cut → Type 0) (make : BatchesMakeMap) (began : Start) (folder : Folder) (told0 script : List ℕ)
    (store : Stored) (line : LineInHand) (disk : Disk) (told : List ℕ) (start old new : D) (k : Carried began folder told0 script store line disk told (Steady certain clock left_since start old)) where
  -- the cuts up to the end of the line in hand
  pub line_cuts : (order : Parsed) → LeavesOnly clock left_since old new (CutIn order store (began.batches ++ numbered (began.last + 1) (written_by k.history)) (length began.batches + before_sync k.history) told)
      → LeavesOnly clock left_since start new (CutOf began (orders_of k.history ++ (order ∷ [])) told0)
  line_cuts order leaves =
      let P : Cut → Type 0 = CutOf began (orders_of k.history ++ (order ∷ [])) told0 in
      joins clock left_since start old new P (widened clock left_since start old _ P (λ c o. cut_of_more began (orders_of k.history) (order ∷ []) told0 c o) k.cuts.leaves)
      (widened clock left_since old new _ P (λ c i. cut_in_line make began told0 k.made k.history store order told c k.runs k.told_is k.last_is i) leaves)

  -- and of a line that is not accepted
  pub refused_cuts : LeavesOnly clock left_since old new (CutIn Nothing store (began.batches ++ numbered (began.last + 1) (written_by k.history)) (length began.batches + before_sync k.history) told)
      → LeavesOnly clock left_since start new (CutOf began (orders_of k.history) told0)
  refused_cuts leaves =
      let P : Cut → Type 0 = CutOf began (orders_of k.history) told0 in
      joins clock left_since start old new P k.cuts.leaves (widened clock left_since old new _ P (λ c i. cut_refused make began told0 k.made k.history store told c k.runs k.told_is i) leaves)

module _ {D : Type 0} (certain : D → Type 0) (clock : D → ℕ) (left_since : D → ℕ → Cut → Type 0) (began : Start) (folder : Folder) (told0 script : List ℕ) where
  -- so far, of a script that goes on
  pub cuts_so_far : (store : Stored) (line : LineInHand) (disk : Disk) (told : List ℕ) (start now : D) (k : Carried began folder told0 script store line disk told (Steady certain clock left_since start now)) (more : List ℕ)
      → LeavesOnly clock left_since start now (CutOf began (orders (script ++ more)) told0)
  cuts_so_far store line disk told start now k more = widened clock left_since start now _ _ (λ c o. cut_of_given began (orders_of k.history) (orders (script ++ more)) (map parsed (lines_in k.front more)) told0 c (k.cut more) o) k.cuts.leaves

module _ (began : Start) (folder : Folder) (told0 : List ℕ) (steady : (Cut → Type 0) → Type 0) where
  -- bytes in which no line ends
  pub pushed : (script : List ℕ) (store : Stored) (line line_next : LineInHand) (chunk : List ℕ) (disk : Disk) (told : List ℕ)
      → ((front : List ℕ) → Holds line front → Holds line_next (front ++ chunk)) → NoLineEnd chunk
      → Carried began folder told0 script store line disk told steady → Carried began folder told0 (script ++ chunk) store line_next disk told steady
  pushed script store line line_next chunk disk told grows none c = record {
    history = c.history;
    front = c.front ++ chunk;
    held = grows c.front c.held;
    whole = λ more. ap (λ s. map parsed (whole_lines_in [] s)) (append_assoc script chunk more) ∙ c.whole (chunk ++ more)
        ∙ ap (λ ls. orders_of c.history ++ map parsed ls) (letters_join chunk c.front more none);
    cut = λ more. ap (λ s. map parsed (lines_in [] s)) (append_assoc script chunk more) ∙ c.cut (chunk ++ more)
        ∙ ap (λ ls. orders_of c.history ++ map parsed ls) (letters_stay chunk c.front more none);
    runs = c.runs;
    told_is = c.told_is;
    stays = c.stays;
    made = c.made;
    cuts = c.cuts;
    last_is = c.last_is;
    number_is = c.number_is;
    keeps = c.keeps;
  }

  -- the orders of the script, where the line in hand ends
  pub here : (script : List ℕ) (store : Stored) (line : LineInHand) (disk : Disk) (told more : List ℕ) (c : Carried began folder told0 script store line disk told steady)
      → map parsed (lines_in [] (script ++ 10 ∷ more)) ≡ orders_of c.history ++ (parsed (without_return c.front) ∷ map parsed (lines_in [] more))
  here script store line disk told more c = c.cut (10 ∷ more) ∙ ap (λ ls. orders_of c.history ++ map parsed ls) (line_ends c.front more)

  reached : (script : List ℕ) (store : Stored) (line : LineInHand) (disk : Disk) (told : List ℕ) (c : Carried began folder told0 script store line disk told steady) → Reached began folder c.history store disk
  reached script store line disk told c = record { runs = c.runs; stays = c.stays; last_is = c.last_is; number_is = c.number_is; keeps = c.keeps }

  -- the line in hand is obeyed
  pub line_obeyed : (script : List ℕ) (store next : Stored) (line line_next : LineInHand) (order : Parsed) (disk disk_next : Disk) (told told_next : List ℕ) (steady_next : (Cut → Type 0) → Type 0)
      → ((front : List ℕ) → Holds line front → order ≡ parsed (without_return front)) → Holds line_next [] → Obeyed order store next disk disk_next told told_next
      → (c : Carried began folder told0 script store line disk told steady) → steady_next (CutOf began (orders_of c.history ++ (order ∷ [])) told0)
      → Carried began folder told0 (script ++ 10 ∷ []) next line_next disk_next told_next steady_next
  line_obeyed script store next line line_next order disk disk_next told told_next steady_next is empty o c cuts =
      let ordered : o.line.order ≡ parsed (without_return c.front) = o.ordered ∙ is c.front c.held in
      let grown : orders_of (c.history ++ o.line ∷ []) ≡ orders_of c.history ++ (o.line.order ∷ []) = map-append (λ (l : Line). l.order) c.history (o.line ∷ []) in
      let m = reached_more began folder c.history order store next disk disk_next told told_next o (reached script store line disk told c) in
      record {
        history = c.history ++ o.line ∷ [];
        front = [];
        held = empty;
        whole = λ more.
            ap (λ s. map parsed (whole_lines_in [] s)) (append_assoc script (10 ∷ []) more)
            ∙ c.whole (10 ∷ more) ∙ ap (λ ls. orders_of c.history ++ map parsed ls) (whole_ends c.front more)
            ∙ ap (λ (x : Parsed). orders_of c.history ++ (x ∷ map parsed (whole_lines_in [] more))) (sym ordered)
            ∙ sym (append_assoc (orders_of c.history) (o.line.order ∷ []) (map parsed (whole_lines_in [] more)))
            ∙ ap (λ xs. xs ++ map parsed (whole_lines_in [] more)) (sym grown);
        cut = λ more.
            ap (λ s. map parsed (lines_in [] s)) (append_assoc script (10 ∷ []) more)
            ∙ here script store line disk told more c
            ∙ ap (λ (x : Parsed). orders_of c.history ++ (x ∷ map parsed (lines_in [] more))) (sym ordered)
            ∙ sym (append_assoc (orders_of c.history) (o.line.order ∷ []) (map parsed (lines_in [] more)))
            ∙ ap (λ xs. xs ++ map parsed (lines_in [] more)) (sym grown);
        runs = m.runs;
        told_is = o.told_is ∙ ap (λ t. t ++ o.line.told) c.told_is ∙ append_assoc told0 (told_by c.history) o.line.told ∙ ap (λ t. told0 ++ t) (sym (told_more c.history o.line));
        stays = m.stays;
        made = c.made;
        cuts = let P : List Parsed → Type 0 = λ g. steady_next (CutOf began g told0) in
            subst P (sym (grown ∙ ap (λ (x : Parsed). orders_of c.history ++ (x ∷ [])) o.ordered)) cuts;
        last_is = m.last_is;
        number_is = m.number_is;
        keeps = m.keeps;
      }

  -- the run breaks off as the line in hand is obeyed
  pub line_broken : (script more : List ℕ) (store : Stored) (line : LineInHand) (order : Parsed) (disk : Disk) (told told_next : List ℕ) → IsStartOf folder began
      → ((front : List ℕ) → Holds line front → order ≡ parsed (without_return front)) → TellsFront (reply_of order store.now) told told_next → (told_next ≡ told) ⊎ HasRoom order store
      → Carried began folder told0 script store line disk told steady → HasBegun folder (script ++ 10 ∷ more) told0 told_next
  line_broken script more store line order disk told told_next begins is tells room c =
      breaks_in folder began (script ++ 10 ∷ more) told0 told told_next c.history (state_of store) order (map parsed (lines_in [] more)) begins (lines_fit began c.history store _ _ disk c.stays c.last_is c.number_is)
      (elim room [ inl same ↦ inl same | inr r ↦ inr (next_fits began c.history (state_of store) order store.last store.log.number c.last_is c.number_is r.sequences r.number) ])
      (here script store line disk told more c ∙ ap (λ (x : Parsed). orders_of c.history ++ (x ∷ map parsed (lines_in [] more))) (sym (is c.front c.held)))
      c.runs c.told_is tells

  -- the line in hand would pass a limit
  pub line_full : StoresStand → BatchesMakeMap → (script more : List ℕ) (store : Stored) (line : LineInHand) (order : Parsed) (disk : Disk) (after : Folder) (told told_next : List ℕ) (limit : ℕ) (since : (Cut → Type 0) → Type 0)
      → IsStartOf folder began → after ≡ folder_of disk
      → ((front : List ℕ) → Holds line front → order ≡ parsed (without_return front)) → Passes order store.last store.log.number limit → told_next ≡ told
      → (c : Carried began folder told0 script store line disk told steady) → since (CutOf began (orders_of c.history) told0) → Stops folder after (script ++ 10 ∷ more) told0 told_next limit since
  line_full stand make script more store line order disk after told told_next limit since begins stays is passes same c cuts =
      let P : ℕ → Type 0 = λ l. Passes order l (began.number + reopens_in c.history) limit in
      let Q : ℕ → Type 0 = λ n. Passes order store.last n limit in
      record {
        replies = told_by c.history;
        passes = record {
          began = began;
          begins = begins;
          history = c.history;
          mid = state_of store;
          order = order;
          rest = map parsed (lines_in [] more);
          orders_are = here script store line disk told more c ∙ ap (λ (x : Parsed). orders_of c.history ++ (x ∷ map parsed (lines_in [] more))) (sym (is c.front c.held));
          runs = c.runs;
          fits = lines_fit began c.history store _ _ disk c.stays c.last_is c.number_is;
          passes = subst P c.last_is (subst Q c.number_is passes);
          replies_are = refl;
          leaves = leaves_logs stand make began folder after c.history store disk stays (reached script store line disk told c);
        };
        told_is = same ∙ c.told_is;
        cuts = cuts;
      }

  -- the orders of the script, up to the line in hand and behind it
  pub orders_here : (script : List ℕ) (store : Stored) (line : LineInHand) (order : Parsed) (disk : Disk) (told more : List ℕ) (c : Carried began folder told0 script store line disk told steady)
      → ((front : List ℕ) → Holds line front → order ≡ parsed (without_return front)) → orders (script ++ 10 ∷ more) ≡ (orders_of c.history ++ (order ∷ [])) ++ map parsed (lines_in [] more)
  orders_here script store line order disk told more c is =
      here script store line disk told more c ∙ ap (λ (x : Parsed). orders_of c.history ++ (x ∷ map parsed (lines_in [] more))) (sym (is c.front c.held))
      ∙ sym (append_assoc (orders_of c.history) (order ∷ []) (map parsed (lines_in [] more)))

  -- it was obeyed, and its reply could not be told whole
  pub line_faltered : StoresStand → BatchesMakeMap → (script more : List ℕ) (store next : Stored) (line : LineInHand) (order : Parsed) (disk disk_next : Disk) (told told_next : List ℕ) → IsStartOf folder began
      → ((front : List ℕ) → Holds line front → order ≡ parsed (without_return front)) → Obeyed order store next disk disk_next told (told ++ reply_of order store.now)
      → TellsFront (reply_of order store.now) told told_next → Carried began folder told0 script store line disk told steady → HasFaltered folder (folder_of disk_next) (script ++ 10 ∷ more) told0 told_next
  line_faltered stand make script more store next line order disk disk_next told told_next begins is o tells c =
      let m = reached_more began folder c.history order store next disk disk_next told (told ++ reply_of order store.now) o (reached script store line disk told c) in
      let grown : orders_of (c.history ++ o.line ∷ []) ≡ orders_of c.history ++ (o.line.order ∷ []) = map-append (λ (l : Line). l.order) c.history (o.line ∷ []) in
      let says : reply_of order store.now ≡ o.line.told = sym (o.step.told_is ∙ ap (λ (x : Parsed). reply_of x store.now) o.ordered) in
      let P : List ℕ → Type 0 = λ b. TellsFront b (told0 ++ told_by c.history) told_next in
      let Q : List ℕ → Type 0 = λ t. TellsFront (reply_of order store.now) t told_next in
      record {
        began = began;
        begins = begins;
        history = c.history;
        line = o.line;
        rest = map parsed (lines_in [] more);
        last = state_of next;
        orders_are = orders_here script store line order disk told more c is
            ∙ ap (λ os. os ++ map parsed (lines_in [] more)) (ap (λ (x : Parsed). orders_of c.history ++ (x ∷ [])) (sym o.ordered) ∙ sym grown);
        runs = m.runs;
        front = subst P says (subst Q c.told_is tells);
        fits = lines_fit began (c.history ++ o.line ∷ []) next _ _ disk_next m.stays m.last_is m.number_is;
        leaves = leaves_logs stand make began folder (folder_of disk_next) (c.history ++ o.line ∷ []) next disk_next refl m;
      }

  -- the run breaks off between two bytes
  pub broken : (script more : List ℕ) (store : Stored) (line : LineInHand) (disk : Disk) (told : List ℕ) → IsStartOf folder began
      → Carried began folder told0 script store line disk told steady → HasBegun folder (script ++ more) told0 told
  broken script more store line disk told begins c =
      breaks_between folder began (script ++ more) told0 told c.history (state_of store) (map parsed (lines_in c.front more)) begins (lines_fit began c.history store _ _ disk c.stays c.last_is c.number_is) (c.cut more) c.runs c.told_is

  -- it breaks off for what the script brings: the replies to the whole lines are told
  pub taken : StoresStand → BatchesMakeMap → (script : List ℕ) (store : Stored) (line : LineInHand) (disk : Disk) (told : List ℕ) → IsStartOf folder began
      → Carried began folder told0 script store line disk told steady → HasTaken folder (folder_of disk) script told0 told
  taken stand make script store line disk told begins c = record {
    began = began;
    begins = begins;
    history = c.history;
    last = state_of store;
    is_history = record {
      orders_are = sym (ap (λ s. map parsed (whole_lines_in [] s)) (sym (append-nil script)) ∙ c.whole [] ∙ ap (λ ls. orders_of c.history ++ map parsed ls) (no_whole c.front) ∙ append-nil (orders_of c.history));
      runs = c.runs;
    };
    told_is = c.told_is;
    fits = lines_fit began c.history store _ _ disk c.stays c.last_is c.number_is;
    leaves = leaves_logs stand make began folder (folder_of disk) c.history store disk refl (reached script store line disk told c);
  }
