-- The script's end.
use Rattle.std.proofs.Common.{◌≡◌, ℕ, ◌+◌, ◌<◌, Bool, true, false, List, [], ◌∷◌, ◌++◌, length, map, Option, refl, sym, ◌∙◌, ap, subst, arith, append-nil, length-append, inl, inr}
use Rattle.std.proofs.lemmas.Bool.{cases_lt}
use Rattle.std.proofs.lemmas.List.{nil_from_length, take_all, length-map}
use Rattle.bl_site.specs.Calls.{LeavesOnly}
use Rattle.bl_site.specs.Disk.{File, Folder, Disk, Cut, folder_of}
use Rattle.bl_site.proofs.Moments.{joins, widened, cut_of_only}
use Rattle.bl_names.specs.Names.{IsNumber}
use Rattle.bl_entry.specs.Batches.{Batch}
use Rattle.bl_entry.specs.Revisions.{Map, revisions_of, IsMapAt}
use Rattle.bl_script.specs.Lines.{lines_in, last_line, without_return}
use Rattle.bl_script.specs.Parsing.{parsed}
use Rattle.bl_script.specs.declared.command.Parsed.{Parsed}
use Rattle.bl_wal.specs.LogFile.{LogFile, log_name}
use Rattle.bl_log.specs.Layout.{written}
use Rattle.bl_wal.specs.Held.{log_of, record_of}
use Rattle.bl_logstore.specs.Cuts.{LeavesFirst}
use Rattle.bl_logstore.specs.Folders.{Stands}
use Rattle.bl_logstore.specs.Laws.{StoresStand, BatchesMakeMap, OlderLogsAreSynced, SyncedStoresAreLeft}
use Rattle.bl_logstore.specs.Stored.{Stored, StandsOn, Carries, IsSynced}
use Rattle.bl_shell.specs.declared.lines.LineInHand.{LineInHand}
use Rattle.bl_shell.specs.Machine.{orders, orders_of, told_by, written_by, numbered, Start}
use Rattle.bl_shell.specs.Carried.{state_of, Steady, Carried, Finished}
use Rattle.bl_shell.specs.Cuts.{IsKept, Stops}
use Rattle.bl_shell.specs.Synced.{before_sync, CutOf}
use Rattle.bl_shell.specs.Telling.{IsStartOf, HasRun, HasBegun, HasFaltered}
use Rattle.bl_shell.proofs.BreakLemmas.{all_within}
use Rattle.bl_shell.proofs.LeaveLemmas.{leaves_logs}
use Rattle.bl_shell.proofs.LimitLemmas.{lines_fit}
use Rattle.bl_shell.proofs.LineLemmas.{line_ends, lines_end, last_is}
use Rattle.bl_shell.proofs.CutLemmas.{cut_between, leaves_first}

in_hand : (long : Bool) (bytes front : List ℕ) → (long ≡ false → bytes ≡ front) → (long ≡ true → 67108865 < length front) → ((long ≡ false) × (bytes ≡ []) → ⊥) → front ≡ [] → ⊥
in_hand true bytes front kept much some none = omega (arith, much refl, ap length none)
in_hand false bytes front kept much some none = some (refl, kept refl ∙ none)

module _ (began : Start) (folder : Folder) (told0 : List ℕ) (steady : (Cut → Type 0) → Type 0) where
  -- the orders of a script that ends here
  orders_here : (script : List ℕ) (store : Stored) (line : LineInHand) (disk : Disk) (told : List ℕ) (c : Carried began folder told0 script store line disk told steady)
      → orders script ≡ orders_of c.history ++ map parsed (last_line c.front)
  orders_here script store line disk told c =
      ap (λ s. map parsed (lines_in [] s)) (sym (append-nil script)) ∙ c.cut [] ∙ ap (λ ls. orders_of c.history ++ map parsed ls) (lines_end c.front)

  -- no line is in hand
  pub ends_between : (script : List ℕ) (store : Stored) (line : LineInHand) (disk : Disk) (told : List ℕ) → line.long ≡ false → line.bytes.items ≡ []
      → Carried began folder told0 script store line disk told steady → Finished began folder script told0 store disk told steady
  ends_between script store line disk told short none c =
      let nothing : c.front ≡ [] = sym (c.held.kept short) ∙ none in
      record {
        history = c.history;
        is_history = record {
          orders_are = sym (orders_here script store line disk told c ∙ ap (λ f. orders_of c.history ++ map parsed (last_line f)) nothing ∙ append-nil (orders_of c.history));
          runs = c.runs;
        };
        told_is = c.told_is;
        stays = c.stays;
        made = c.made;
        cuts = c.cuts;
        last_is = c.last_is;
        number_is = c.number_is;
        keeps = c.keeps;
      }

  -- a last line without an end has the orders of one with it
  pub same_orders : (script : List ℕ) (store : Stored) (line : LineInHand) (disk : Disk) (told : List ℕ) → ((line.long ≡ false) × (line.bytes.items ≡ []) → ⊥)
      → Carried began folder told0 script store line disk told steady → orders (script ++ 10 ∷ []) ≡ orders script
  same_orders script store line disk told some c =
      let os = orders_of c.history in
      c.cut (10 ∷ []) ∙ ap (λ ls. os ++ map parsed ls) (line_ends c.front [] ∙ ap (λ ls. without_return c.front ∷ ls) (lines_end []) ∙ sym (last_is c.front (in_hand line.long line.bytes.items c.front c.held.kept c.held.long some)))
      ∙ sym (orders_here script store line disk told c)

  pub finished_so : (script other : List ℕ) (store : Stored) (disk : Disk) (told : List ℕ) → orders script ≡ orders other
      → Finished began folder script told0 store disk told steady → Finished began folder other told0 store disk told steady
  finished_so script other store disk told same f = record {
    history = f.history;
    is_history = record { orders_are = f.is_history.orders_are ∙ same; runs = f.is_history.runs };
    told_is = f.told_is;
    stays = f.stays;
    made = f.made;
    cuts = f.cuts;
    last_is = f.last_is;
    number_is = f.number_is;
    keeps = f.keeps;
  }

pub begun_so : (folder : Folder) (script other told0 told : List ℕ) → orders script ≡ orders other → HasBegun folder script told0 told → HasBegun folder other told0 told
begun_so folder script other told0 told same b = record {
  began = b.began;
  begins = b.begins;
  history = b.history;
  last = b.last;
  is_history = record { orders_are = b.is_history.orders_are ∙ same; runs = b.is_history.runs };
  front = b.front;
  fits = b.fits;
}

pub stops_so : (folder after : Folder) (script other told0 told : List ℕ) (limit : ℕ) (since : (Cut → Type 0) → Type 0) → orders script ≡ orders other → Stops folder after script told0 told limit since → Stops folder after other told0 told limit since
stops_so folder after script other told0 told limit since same s =
    let p = s.passes in
    record {
      replies = s.replies;
      passes = record {
        began = p.began;
        begins = p.begins;
        history = p.history;
        mid = p.mid;
        order = p.order;
        rest = p.rest;
        orders_are = sym same ∙ p.orders_are;
        runs = p.runs;
        fits = p.fits;
        passes = p.passes;
        replies_are = p.replies_are;
        leaves = p.leaves;
      };
      told_is = s.told_is;
      cuts = s.cuts;
    }

pub falters_so : (folder after : Folder) (script other told0 told : List ℕ) → orders script ≡ orders other → HasFaltered folder after script told0 told → HasFaltered folder after other told0 told
falters_so folder after script other told0 told same f = record {
  began = f.began;
  begins = f.begins;
  history = f.history;
  line = f.line;
  rest = f.rest;
  last = f.last;
  orders_are = sym same ∙ f.orders_are;
  runs = f.runs;
  front = f.front;
  fits = f.fits;
  leaves = f.leaves;
}

-- the log is synced, and the folder stands for the last map
pub has_run : StoresStand → BatchesMakeMap → (began : Start) (folder : Folder) (script told0 : List ℕ) (store : Stored) (disk disk_next : Disk) (told : List ℕ) (steady : (Cut → Type 0) → Type 0)
    → IsStartOf folder began → folder_of disk_next ≡ folder_of disk → Finished began folder script told0 store disk told steady → HasRun folder (folder_of disk_next) script told0 told
has_run stand make began folder script told0 store disk disk_next told steady begins same f =
    record {
      began = began;
      begins = begins;
      history = f.history;
      last = state_of store;
      is_history = f.is_history;
      told_is = f.told_is;
      fits = lines_fit began f.history store _ _ disk f.stays f.last_is f.number_is;
      leaves = leaves_logs stand make began folder (folder_of disk_next) f.history store disk same
          (record { runs = f.is_history.runs; stays = f.stays; last_is = f.last_is; number_is = f.number_is; keeps = f.keeps });
    }

-- all is told, and the log could not be synced
pub all_begun : (began : Start) (folder : Folder) (script told0 : List ℕ) (store : Stored) (disk : Disk) (told next : List ℕ) (steady : (Cut → Type 0) → Type 0) → IsStartOf folder began → next ≡ told
    → Finished began folder script told0 store disk told steady → HasBegun folder script told0 next
all_begun began folder script told0 store disk told next steady begins same f = record {
  began = began;
  begins = begins;
  history = f.history;
  last = state_of store;
  is_history = f.is_history;
  front = record { front = told_by f.history; rest = []; whole = append-nil (told_by f.history); told_is = same ∙ f.told_is };
  fits = all_within began f.history (lines_fit began f.history store _ _ disk f.stays f.last_is f.number_is);
}

module _ {D : Type 0} (certain : D → Type 0) (clock : D → ℕ) (left_since : D → ℕ → Cut → Type 0) (make : BatchesMakeMap) (began : Start) (folder : Folder) (script told0 : List ℕ) where
  -- the cuts while the log is synced
  pub last_cuts : (store : Stored) (disk : Disk) (told : List ℕ) (start old new : D) (f : Finished began folder script told0 store disk told (Steady certain clock left_since start old))
      → LeavesOnly clock left_since old new (LeavesFirst f.stays.older f.stays.own f.stays.synced told) → LeavesOnly clock left_since start new (CutOf began (orders script) told0)
  last_cuts store disk told start old new f leaves =
      let h = f.history in
      let s = f.stays in
      let all = began.batches ++ numbered (began.last + 1) (written_by h) in
      let least = length began.batches + before_sync h in
      let Q : Cut → Type 0 = CutOf began (orders_of h) told0 in
      let P : List Parsed → Type 0 = λ os. LeavesOnly clock left_since start new (CutOf began os told0) in
      subst P f.is_history.orders_are
      (joins clock left_since start old new Q f.cuts.leaves
      (widened clock left_since old new (LeavesFirst s.older s.own s.synced told) Q
      (λ c l. cut_between make began told0 f.made h store told c f.is_history.runs f.told_is l.told_is l.whole (leaves_first s.older s.own all s.synced least told c s.all s.at_least l)) leaves))

all_synced : (log : LogFile) (older own : List Batch) (last : ℕ) (disk : Disk) → log.failed ≡ false → StandsOn log older own (length own) last disk → (number : ℕ) → IsNumber number → IsSynced (disk (log_name number))
all_synced log older own last disk whole on number is = elim (cases_lt log.number number) [
  | inl above ↦ let P : Option File → Type 0 = λ o. IsSynced o in subst P (sym (on.newest number above is.1)) tt
  | inr le ↦ elim (cases_lt number log.number) [
    | inl below ↦ on.below_synced number is below
    | inr ge ↦
        let h = on.holds in
        let front : h.file.front ≡ log_of own = h.front ∙ ap (written 0) (take_all (length own) (map record_of own) (omega (arith, length-map own record_of))) in
        let none : h.file.handed ≡ [] = nil_from_length h.file.handed (omega (arith, ap length h.all, length-append h.file.front h.file.handed, ap length front)) in
        let e : log.number ≡ number = omega (arith, le, ge) in
        let P : ℕ → Type 0 = λ n. IsSynced (disk (log_name n)) in
        let Q : Option File → Type 0 = λ o. IsSynced o in
        subst P e (subst Q (sym h.there) (front ∙ sym (h.reads whole), none))
  ]
]

-- the log is synced: no cut from now on leaves another map
pub is_kept : SyncedStoresAreLeft → BatchesMakeMap → OlderLogsAreSynced → (began : Start) (folder : Folder) (script told0 : List ℕ) (store next : Stored) (disk disk_next : Disk) (told told_next : List ℕ) (steady : (Cut → Type 0) → Type 0)
    (certain : Type 0) (may_be : Disk → Type 0) → IsStartOf folder began → certain → ((other : Disk) → may_be other → other ≡ disk_next) → next ≡ store
    → ((older own : List Batch) (synced : ℕ) → Carries store older own synced disk → Carries next older own (length own) disk_next) → Finished began folder script told0 store disk told steady
    → IsKept certain may_be disk_next told_next folder script
is_kept left make law began folder script told0 store next disk disk_next told told_next steady certain may_be begins sure only same carried f =
    let s = f.stays in
    let k = carried s.older s.own s.synced s.carries in
    record {
      certain_now = sure;
      synced = λ number is. all_synced next.log s.older s.own next.last disk_next (ap (λ (x : Stored). x.log.failed) same ∙ s.whole) k.on number is;
      whole = law next.log s.older s.own (length s.own) next.last disk_next k.on;
      stands = λ c leaves.
          let bs = s.older ++ s.own in
          let there : Stands c.folder bs next.last = left next.log s.older s.own next.last disk_next told_next c k.on (cut_of_only may_be disk_next told_next c only leaves) in
          let M : Map → Type 0 = λ m. IsMapAt (revisions_of bs) next.last m in
          record {
            began = began;
            begins = begins;
            history = f.history;
            last = state_of store;
            is_history = f.is_history;
            stands = record { batches = bs; last = next.last; stands = there; map_is = subst M (sym k.now_is ∙ ap (λ (x : Stored). x.now) same) (make c.folder bs next.last there.have) };
          };
    }
