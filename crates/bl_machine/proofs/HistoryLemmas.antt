-- Histories of the machine: what they change, and how they go on.
use Rattle.std.proofs.Common.{◌≡◌, ℕ, ◌+◌, false, List, [], ◌∷◌, ◌++◌, refl, sym, ◌∙◌, ap, subst, append-nil, arith}
use Rattle.std.specs.Prelude.{◌||◌, if◌then◌else◌, map}
use Rattle.std.specs.FinMap.{get}
use Rattle.std.proofs.lemmas.Grind.{flat_map-append}
use Rattle.std.proofs.lemmas.List.{map-append}
use Rattle.bl_entry.specs.Batches.{put_of, deletion_of}
use Rattle.bl_entry.specs.Revisions.{Map, after_operations}
use Rattle.bl_edit.specs.Options.{Values}
use Rattle.bl_script.specs.declared.command.Command.TheVariants as command
use Rattle.bl_script.specs.declared.command.Parsed.{Parsed}
use Rattle.bl_script.specs.declared.command.Parsed.TheVariants.{Nothing, Refused, Go}
use Rattle.bl_script.specs.Printing.{ok_line, value_line, refusal_line}
use Rattle.bl_machine.specs.Writes.{Write, operation, after_writes, operations_in, bytes_of}
use Rattle.bl_machine.specs.State.{State, IsInOrder}
use Rattle.bl_machine.specs.Step.{Line, Step, Obeys, Writes, switches, writes_of, scan_lines, pairs_between, files_lines}
use Rattle.bl_machine.specs.History.{Runs, orders_of, told_by, written_by, IsHistory}
use Rattle.bl_machine.specs.Laws.{GoesOn, LinesGoOn, FrontsGoOn, MapsFollowWrites, may_change_files, OthersKeepFiles}

-- ---- lists of lines

pub runs_then : (o : Values) (xs ys : List Line) (a b c : State) → Runs o a xs b → Runs o b ys c → Runs o a (xs ++ ys) c
runs_then o [] ys a b c same second = let P : State → Type 0 = λ s. Runs o s ys c in subst P same second
runs_then o (x ∷ xs) ys a b c (mid, step, first) second = (mid, step, runs_then o xs ys mid b c first second)

pub orders_joined : (xs ys : List Line) → orders_of (xs ++ ys) ≡ orders_of xs ++ orders_of ys
orders_joined xs ys = map-append (λ (l : Line). l.order) xs ys

pub told_joined : (xs ys : List Line) → told_by (xs ++ ys) ≡ told_by xs ++ told_by ys
told_joined xs ys = flat_map-append (λ (l : Line). l.told) xs ys

pub written_joined : (xs ys : List Line) → written_by (xs ++ ys) ≡ written_by xs ++ written_by ys
written_joined xs ys = flat_map-append (λ (l : Line). l.wrote) xs ys

-- one line more
pub told_more : (history : List Line) (line : Line) → told_by (history ++ line ∷ []) ≡ told_by history ++ line.told
told_more history line = told_joined history (line ∷ []) ∙ ap (λ t. told_by history ++ t) (append-nil line.told)

pub written_more : (history : List Line) (line : Line) → written_by (history ++ line ∷ []) ≡ written_by history ++ line.wrote
written_more history line = written_joined history (line ∷ []) ∙ ap (λ t. written_by history ++ t) (append-nil line.wrote)

-- ---- writes

pub operations_joined : (writes more : List Write) → operations_in (writes ++ more) ≡ operations_in writes + operations_in more
unfolding operations_in
operations_joined [] more = omega arith
operations_joined (w ∷ writes) more = omega (arith, operations_joined writes more)

pub after_joined : (writes more : List Write) (m : Map) → after_writes (writes ++ more) m ≡ after_writes more (after_writes writes m)
unfolding after_writes
after_joined [] more m = refl
after_joined (w ∷ writes) more m = after_joined writes more (after_operations w m)

pub after_none : (m : Map) → after_writes [] m ≡ m
unfolding after_writes
after_none m = refl

pub after_one : (w : Write) (m : Map) → after_writes (w ∷ []) m ≡ after_operations w m
unfolding after_writes
after_one w m = refl

-- ---- states

-- states are the same where their fields are
pub same_state : (s t : State) → s.now ≡ t.now → s.listing ≡ t.listing → s.waits ≡ t.waits → s.runs ≡ t.runs → s.buffered ≡ t.buffered → s ≡ t
same_state s t now listing waits runs buffered =
    ap (λ x. record s { now = x }) now ∙ ap (λ x. record s { now = t.now; listing = x }) listing ∙ ap (λ x. record s { now = t.now; listing = t.listing; waits = x }) waits
    ∙ ap (λ x. record t { runs = x; buffered = s.buffered }) runs ∙ ap (λ x. record t { buffered = x }) buffered

-- ---- a map follows what is written

obeyed_map : (o : Values) (old new : State) (order : Parsed) (told : List ℕ) → Obeys o order old told new → new.now ≡ after_writes (writes_of old order) old.now
unfolding after_writes
obeyed_map o old new Nothing told obeys = ap (λ (s : State). s.now) obeys.same
obeyed_map o old new (Refused why) told obeys = ap (λ (s : State). s.now) obeys.same
obeyed_map o old new (Go (command.Put key value)) told obeys = ap (λ (s : State). s.now) obeys.left
obeyed_map o old new (Go (command.Del key)) told obeys = ap (λ (s : State). s.now) obeys.left
obeyed_map o old new (Go (command.Batch operations)) told obeys = ap (λ (s : State). s.now) obeys.left
obeyed_map o old new (Go (command.Get key)) told obeys = ap (λ (s : State). s.now) obeys.same
obeyed_map o old new (Go (command.Scan from to)) told obeys = ap (λ (s : State). s.now) obeys.same
obeyed_map o old new (Go command.Sync) told obeys = ap (λ (s : State). s.now) obeys.same
obeyed_map o old new (Go command.Flush) told obeys = ap (λ (s : State). s.now) obeys.left
obeyed_map o old new (Go command.Files) told obeys = ap (λ (s : State). s.now) obeys.same
obeyed_map o old new (Go command.Reopen) told obeys = ap (λ (s : State). s.now) obeys.left

pub step_map : (o : Values) (old : State) (line : Line) (new : State) → Step o old line new → new.now ≡ after_writes line.wrote old.now
step_map o old line new step = obeyed_map o old new line.order line.told step.obeys ∙ ap (λ ws. after_writes ws old.now) (sym step.wrote_is)

pub maps_follow : MapsFollowWrites
maps_follow o first [] last same = ap (λ (s : State). s.now) same ∙ sym (after_none first.now)
maps_follow o first (line ∷ history) last (mid, step, runs) =
    maps_follow o mid history last runs ∙ ap (after_writes (written_by history)) (step_map o first line mid step)
    ∙ sym (after_joined line.wrote (written_by history) first.now)

-- ---- files

obeyed_files : (o : Values) (old new : State) (order : Parsed) (told : List ℕ) → Obeys o order old told new → may_change_files order ≡ false → new.listing ≡ old.listing
obeyed_files o old new Nothing told obeys none = ap (λ (s : State). s.listing) obeys.same
obeyed_files o old new (Refused why) told obeys none = ap (λ (s : State). s.listing) obeys.same
obeyed_files o old new (Go (command.Put key value)) told obeys none = cc none
obeyed_files o old new (Go (command.Del key)) told obeys none = cc none
obeyed_files o old new (Go (command.Batch operations)) told obeys none = cc none
obeyed_files o old new (Go (command.Get key)) told obeys none = ap (λ (s : State). s.listing) obeys.same
obeyed_files o old new (Go (command.Scan from to)) told obeys none = ap (λ (s : State). s.listing) obeys.same
obeyed_files o old new (Go command.Sync) told obeys none = ap (λ (s : State). s.listing) obeys.same
obeyed_files o old new (Go command.Flush) told obeys none = cc none
obeyed_files o old new (Go command.Files) told obeys none = ap (λ (s : State). s.listing) obeys.same
obeyed_files o old new (Go command.Reopen) told obeys none = cc none

pub others_keep_files : OthersKeepFiles
others_keep_files o old line new step none = obeyed_files o old new line.order line.told step.obeys none

pub order_stays : (o : Values) (first : State) (history : List Line) (last : State) → IsInOrder first.listing → Runs o first history last → IsInOrder last.listing
order_stays o first [] last order same = let P : State → Type 0 = λ s. IsInOrder s.listing in subst P (sym same) order
order_stays o first (line ∷ history) last order (mid, step, runs) = order_stays o mid history last step.in_order runs

-- ---- never stuck: of each line one reply and one next state, in which the files are as they were

-- a line that tells this and changes nothing
quiet_line : (o : Values) (s : State) (order : Parsed) (told : List ℕ) → IsInOrder s.listing → Obeys o order s told s → GoesOn o s order
quiet_line o s order told in_order obeys = record {
  line = record { order = order; wrote = writes_of s order; told = told };
  ordered = refl;
  next = s;
  step = record { obeys = obeys; wrote_is = refl; in_order = in_order };
}

abbrev after_write : Values → Write → State → State
after_write o operations s = record s {
  now = after_operations operations s.now;
  waits = switches o s || s.waits;
  buffered = (if switches o s then 0 else s.buffered) + bytes_of operations;
}

write_line : (o : Values) (s : State) (order : Parsed) (operations : Write) → IsInOrder s.listing → ((new : State) → Writes o operations s ok_line new → Obeys o order s ok_line new) → GoesOn o s order
write_line o s order operations in_order obeys = record {
  line = record { order = order; wrote = writes_of s order; told = ok_line };
  ordered = refl;
  next = after_write o operations s;
  step = record {
    obeys = obeys (after_write o operations s) (record { told_is = refl; job = λ set. set; left = refl });
    wrote_is = refl;
    in_order = in_order;
  };
}

pub lines_go_on : LinesGoOn
lines_go_on o s Nothing order = quiet_line o s Nothing [] order (record { told_is = refl; same = refl })
lines_go_on o s (Refused why) order = quiet_line o s (Refused why) (refusal_line why) order (record { told_is = refl; same = refl })
lines_go_on o s (Go (command.Put key value)) order = write_line o s (Go (command.Put key value)) (put_of key value ∷ []) order (λ new w. w)
lines_go_on o s (Go (command.Del key)) order = write_line o s (Go (command.Del key)) (deletion_of key ∷ []) order (λ new w. w)
lines_go_on o s (Go (command.Batch operations)) order = write_line o s (Go (command.Batch operations)) (map operation operations) order (λ new w. w)
lines_go_on o s (Go (command.Get key)) order = quiet_line o s (Go (command.Get key)) (value_line (get s.now key)) order (record { told_is = refl; same = refl })
lines_go_on o s (Go (command.Scan from to)) order = quiet_line o s (Go (command.Scan from to)) (scan_lines (pairs_between from to s.now)) order (record { told_is = refl; same = refl })
lines_go_on o s (Go command.Sync) order = quiet_line o s (Go command.Sync) ok_line order (record { told_is = refl; same = refl })
lines_go_on o s (Go command.Flush) order = record {
  line = record { order = Go command.Flush; wrote = []; told = ok_line };
  ordered = refl;
  next = record s { waits = false; buffered = 0 };
  step = record { obeys = record { told_is = refl; job = λ set. set; left = refl }; wrote_is = refl; in_order = order };
}
lines_go_on o s (Go command.Files) order = quiet_line o s (Go command.Files) (files_lines s.listing) order (record { told_is = refl; same = refl })
lines_go_on o s (Go command.Reopen) order = record {
  line = record { order = Go command.Reopen; wrote = []; told = ok_line };
  ordered = refl;
  next = record s { waits = false; runs = false; buffered = 0 };
  step = record { obeys = record { told_is = refl; left = refl }; wrote_is = refl; in_order = order };
}

-- and so of each list of orders a history
pub record Goes (o : Values) (first : State) (given : List Parsed) : Type 0 where
  pub history : List Line
  pub last : State
  pub is_history : IsHistory o first given history last

pub goes : (o : Values) (given : List Parsed) (first : State) → IsInOrder first.listing → Goes o first given
goes o [] first in_order = record { history = []; last = first; is_history = record { orders_are = refl; runs = refl } }
goes o (order ∷ given) first in_order =
    let one = lines_go_on o first order in_order in
    let rest = goes o given one.next one.step.in_order in
    record {
      history = one.line ∷ rest.history;
      last = rest.last;
      is_history = record {
        orders_are = ap (λ x. x ∷ orders_of rest.history) one.ordered ∙ ap (λ os. order ∷ os) rest.is_history.orders_are;
        runs = (one.next, one.step, rest.is_history.runs);
      };
    }

pub fronts_go_on : FrontsGoOn
fronts_go_on o first given front mid in_order f =
    let more = goes o f.rest mid (order_stays o first front mid in_order f.runs) in
    record {
      more = more.history;
      last = more.last;
      is_history = record {
        orders_are = orders_joined front more.history ∙ ap (λ os. orders_of front ++ os) more.is_history.orders_are ∙ f.orders_are;
        runs = runs_then o front more.history first mid more.last f.runs more.is_history.runs;
      };
    }
