-- A run that breaks off: what it told, and the lines that it had obeyed.
use Rattle.std.proofs.Common.{◌≡◌, ◌⊎◌, inl, inr, ℕ, ◌+◌, ◌-◌, ◌^◌, ◌<◌, ◌≤◌, Bool, true, false, cond, leb, List, [], ◌∷◌, ◌++◌, length, refl, sym, ◌∙◌, ap, subst, append_assoc, append-nil, length-append, arith}
use Rattle.std.proofs.lemmas.Bool.{leb-true}
use Rattle.std.proofs.lemmas.List.{map-append, nil_from_length}
use Rattle.std.proofs.lemmas.Grind.{flat_map-append}
use Rattle.bl_site.specs.Disk.{Folder}
use Rattle.bl_entry.specs.Revisions.{Map}
use Rattle.bl_script.specs.declared.command.Command.TheVariants as command
use Rattle.bl_script.specs.declared.command.Parsed.{Parsed}
use Rattle.bl_script.specs.declared.command.Parsed.TheVariants.{Nothing, Refused, Go}
use Rattle.bl_shell.specs.Machine.{State, Line, Runs, writes_of, reply_of, orders, orders_of, told_by, written_by, operations_in, reopens, reopens_in, Start, Fits}
use Rattle.bl_shell.specs.Synced.{whole_within}
use Rattle.bl_shell.specs.Carried.{TellsFront}
use Rattle.bl_shell.specs.Telling.{IsStartOf, HasBegun}
use Rattle.bl_shell.proofs.HistoryLemmas.{runs_then, goes, line_of, next_of, step_of, written_more, operations_more, reopens_more, reopens_joined}
use Rattle.bl_shell.proofs.SyncedLemmas.{whole_front}

-- an order that tells nothing writes nothing and opens nothing
silent_writes : (order : Parsed) (m : Map) → reply_of order m ≡ [] → writes_of order ≡ []
silent_writes Nothing m none = refl
silent_writes (Refused why) m none = refl
silent_writes (Go (command.Put key value)) m none = cc none
silent_writes (Go (command.Del key)) m none = cc none
silent_writes (Go (command.Batch operations)) m none = cc none
silent_writes (Go (command.Get key)) m none = refl
silent_writes (Go (command.Scan from to)) m none = refl
silent_writes (Go command.Sync) m none = refl
silent_writes (Go command.Flush) m none = refl
silent_writes (Go command.Files) m none = refl
silent_writes (Go command.Reopen) m none = refl

silent_opens : (order : Parsed) (m : Map) → reply_of order m ≡ [] → reopens order ≡ 0
silent_opens Nothing m none = refl
silent_opens (Refused why) m none = refl
silent_opens (Go (command.Put key value)) m none = refl
silent_opens (Go (command.Del key)) m none = refl
silent_opens (Go (command.Batch operations)) m none = refl
silent_opens (Go (command.Get key)) m none = refl
silent_opens (Go (command.Scan from to)) m none = refl
silent_opens (Go command.Sync) m none = refl
silent_opens (Go command.Flush) m none = refl
silent_opens (Go command.Files) m none = refl
silent_opens (Go command.Reopen) m none = cc none

-- these lines take no sequence and no number
record AreQuiet (lines : List Line) : Type 0 where
  pub sequences : operations_in (written_by lines) ≡ 0
  pub numbers : reopens_in lines ≡ 0

none_quiet : AreQuiet []
unfolding operations_in reopens_in
none_quiet = record { sequences = refl; numbers = refl }

no_operations : operations_in [] ≡ 0
unfolding operations_in
no_operations = refl

quiet_then : (line : Line) (lines : List Line) (a b : State) → line.wrote ≡ [] → reopens line.order ≡ 0 → AreQuiet lines → AreQuiet (line ∷ lines)
unfolding reopens_in
quiet_then line lines a b none opens quiet = record {
  sequences = operations_more line.wrote (written_by lines) ∙ omega (arith, ap operations_in none, no_operations, quiet.sequences);
  numbers = omega (arith, opens, quiet.numbers);
}

-- of lines that were not reached, those that lie whole in what was told of them take none
none_reached : (more : List Line) (a b : State) → Runs a more b → AreQuiet (whole_within 0 more)
unfolding whole_within
none_reached [] a b runs = none_quiet
none_reached (y ∷ more) a b (mid, step, runs) = by_length (none_reached more mid b runs) (leb (length y.told) 0) refl
  where
    by_length : AreQuiet (whole_within 0 more) → (t : Bool) → leb (length y.told) 0 ≡ t → AreQuiet (cond t (y ∷ whole_within (0 - length y.told) more) [])
    by_length quiet false is = none_quiet
    by_length quiet true is =
        let le : length y.told ≤ 0 = leb-true (length y.told) 0 is in
        let none : reply_of y.order a.now ≡ [] = sym step.told_is ∙ nil_from_length y.told (omega (arith, le)) in
        let zero : 0 - length y.told ≡ 0 = omega arith in
        let Q : ℕ → Type 0 = λ n. AreQuiet (whole_within n more) in
        quiet_then y _ a mid (step.wrote_is ∙ silent_writes y.order a.now none) (silent_opens y.order a.now none) (subst Q (sym zero) quiet)

-- quiet lines behind some change nothing
fits_still : (began : Start) (done more : List Line) → Fits began done → AreQuiet more → Fits began (done ++ more)
fits_still began done more fits quiet = record {
  sequences = omega (arith, fits.sequences, quiet.sequences, operations_more (written_by done) (written_by more), ap operations_in (flat_map-append (λ (l : Line). l.wrote) done more));
  numbers = omega (arith, fits.numbers, quiet.numbers, reopens_joined done more);
}

-- the lines that lie whole in what was told, up to the one in hand
reached_fit : (began : Start) (done more : List Line) (line : Line) (a b : State) (k : ℕ) → k ≤ length line.told → Runs a (line ∷ more) b → Fits began done → (k ≡ 0) ⊎ Fits began (done ++ line ∷ [])
    → Fits began (done ++ whole_within k (line ∷ more))
unfolding whole_within
reached_fit began done more line a b k le (mid, step, runs) fits (inl zero) =
    let Q : ℕ → Type 0 = λ n. Fits began (done ++ whole_within n (line ∷ more)) in
    subst Q (sym zero) (fits_still began done _ fits (none_reached (line ∷ more) a b (mid, step, runs)))
reached_fit began done more line a b k le (mid, step, runs) fits (inr room) = by_length (leb (length line.told) k) refl
  where
    by_length : (t : Bool) → leb (length line.told) k ≡ t → Fits began (done ++ cond t (line ∷ whole_within (k - length line.told) more) [])
    by_length false is = fits_still began done [] fits none_quiet
    by_length true is =
        let zero : 0 ≡ k - length line.told = omega (arith, le) in
        let Q : ℕ → Type 0 = λ n. Fits began (done ++ line ∷ whole_within n more) in
        let R : List Line → Type 0 = λ ls. Fits began ls in
        subst Q zero (subst R (append_assoc done (line ∷ []) (whole_within 0 more)) (fits_still began (done ++ line ∷ []) (whole_within 0 more) room (none_reached more mid b runs)))

-- some lines are done, and of what the others tell a front is told
begun : (folder : Folder) (began : Start) (script told0 told : List ℕ) (done more : List Line) (state last : State) (front rest : List ℕ) → IsStartOf folder began
    → orders_of (done ++ more) ≡ orders script → Runs (record { now = began.now }) done state → Runs state more last
    → front ++ rest ≡ told_by more → told ≡ told0 ++ (told_by done ++ front) → Fits began (done ++ whole_within (length front) more) → HasBegun folder script told0 told
begun folder began script told0 told done more state last front rest begins given first second whole is fits = record {
  began = began;
  begins = begins;
  history = done ++ more;
  last = last;
  is_history = record { orders_are = given; runs = runs_then done more (record { now = began.now }) state last first second };
  front = record {
    front = told_by done ++ front;
    rest = rest;
    whole = append_assoc (told_by done) front rest ∙ ap (λ t. told_by done ++ t) whole ∙ sym (flat_map-append (λ (l : Line). l.told) done more);
    told_is = is;
  };
  fits = let R : List Line → Type 0 = λ ls. Fits began ls in
      subst R (sym (ap (λ n. whole_within n (done ++ more)) (length-append (told_by done) front) ∙ whole_front done more (length front))) fits;
}

-- the run breaks off between two lines
pub breaks_between : (folder : Folder) (began : Start) (script told0 told : List ℕ) (done : List Line) (state : State) (given : List Parsed) → IsStartOf folder began → Fits began done
    → orders script ≡ orders_of done ++ given → Runs (record { now = began.now }) done state → told ≡ told0 ++ told_by done → HasBegun folder script told0 told
breaks_between folder began script told0 told done state given begins fits cut runs is =
    let g = goes given state in
    begun folder began script told0 told done g.history state g.last [] (told_by g.history) begins
    (map-append (λ (l : Line). l.order) done g.history ∙ ap (λ os. orders_of done ++ os) g.orders_are ∙ sym cut) runs g.runs refl
    (is ∙ ap (λ t. told0 ++ t) (sym (append-nil (told_by done)))) (fits_still began done _ fits (none_reached g.history state g.last g.runs))

-- The run breaks off in a line, of whose reply a front is told: nothing, or the line passes no limit.
pub breaks_in : (folder : Folder) (began : Start) (script told0 told told_next : List ℕ) (done : List Line) (state : State) (order : Parsed) (given : List Parsed) → IsStartOf folder began → Fits began done
    → (told_next ≡ told) ⊎ Fits began (done ++ line_of order state ∷ [])
    → orders script ≡ orders_of done ++ (order ∷ given) → Runs (record { now = began.now }) done state → told ≡ told0 ++ told_by done
    → TellsFront (reply_of order state.now) told told_next → HasBegun folder script told0 told_next
unfolding line_of
breaks_in folder began script told0 told told_next done state order given begins fits room cut runs is tells =
    let g = goes given (next_of order state) in
    let line = line_of order state in
    let k = length tells.front in
    let short : k ≤ length line.told = omega (arith, ap length tells.whole, length-append tells.front tells.rest) in
    let reached : (k ≡ 0) ⊎ Fits began (done ++ line ∷ []) = elim room [
      | inl same ↦ inl (omega (arith, ap length (sym same ∙ tells.told_is), length-append told tells.front))
      | inr next ↦ inr next
    ] in
    begun folder began script told0 told_next done (line ∷ g.history) state g.last tells.front (tells.rest ++ told_by g.history) begins
    (map-append (λ (l : Line). l.order) done (line ∷ g.history) ∙ ap (λ os. orders_of done ++ (order ∷ os)) g.orders_are ∙ sym cut)
    runs (next_of order state, step_of order state, g.runs)
    (sym (append_assoc tells.front tells.rest (told_by g.history)) ∙ ap (λ t. t ++ told_by g.history) tells.whole)
    (tells.told_is ∙ ap (λ t. t ++ tells.front) is ∙ append_assoc told0 (told_by done) tells.front)
    (reached_fit began done g.history line state g.last k short (next_of order state, step_of order state, g.runs) fits reached)

-- the line in hand passes no limit of the store that is there
pub next_fits : (began : Start) (done : List Line) (state : State) (order : Parsed) (last number : ℕ) → last ≡ began.last + operations_in (written_by done) → number ≡ began.number + reopens_in done
    → last + operations_in (writes_of order) < 2 ^ 56 → number + reopens order < 10 ^ 15 → Fits began (done ++ line_of order state ∷ [])
unfolding line_of
next_fits began done state order last number last_is number_is sequences numbers =
    let line = line_of order state in
    record {
      sequences = omega (arith, last_is, sequences, ap operations_in (written_more done line), operations_more (written_by done) line.wrote);
      numbers = omega (arith, number_is, numbers, reopens_more done line);
    }

-- all replies were told
pub all_within : (began : Start) (history : List Line) → Fits began history → Fits began (whole_within (length (told_by history)) history)
unfolding whole_within
all_within began history fits =
    let R : List Line → Type 0 = λ ls. Fits began ls in
    let zero : length (told_by history) ≡ length (told_by history) + 0 = omega arith in
    subst R (sym (ap (λ ls. whole_within (length (told_by history)) ls) (sym (append-nil history)) ∙ ap (λ n. whole_within n (history ++ [])) zero ∙ whole_front history [] 0 ∙ append-nil history)) fits
