-- Histories of the machine.
use Rattle.std.proofs.Common.{◌≡◌, ℕ, ◌+◌, List, [], ◌∷◌, ◌++◌, length, refl, ◌∙◌, ap, subst, append-nil, arith}
use Rattle.std.proofs.lemmas.Grind.{flat_map-append}
use Rattle.bl_entry.specs.Batches.{Batch}
use Rattle.bl_script.specs.declared.command.Parsed.{Parsed}
use Rattle.bl_shell.specs.Machine.{State, Write, Line, Step, Runs, writes_of, reply_of, after_writes, orders_of, told_by, written_by, operations_in, numbered, reopens, reopens_in}

pub runs_then : (xs ys : List Line) (a b c : State) → Runs a xs b → Runs b ys c → Runs a (xs ++ ys) c
runs_then [] ys a b c same second = let P : State → Type 0 = λ s. Runs s ys c in subst P same second
runs_then (x ∷ xs) ys a b c (mid, step, first) second = (mid, step, runs_then xs ys mid b c first second)

pub told_more : (history : List Line) (line : Line) → told_by (history ++ line ∷ []) ≡ told_by history ++ line.told
told_more history line = flat_map-append (λ (l : Line). l.told) history (line ∷ []) ∙ ap (λ t. told_by history ++ t) (append-nil line.told)

pub written_more : (history : List Line) (line : Line) → written_by (history ++ line ∷ []) ≡ written_by history ++ line.wrote
written_more history line = flat_map-append (λ (l : Line). l.wrote) history (line ∷ []) ∙ ap (λ t. written_by history ++ t) (append-nil line.wrote)

pub reopens_more : (history : List Line) (line : Line) → reopens_in (history ++ line ∷ []) ≡ reopens_in history + reopens line.order
unfolding reopens_in
reopens_more [] line = omega arith
reopens_more (l ∷ history) line = omega (arith, reopens_more history line)

pub reopens_joined : (history more : List Line) → reopens_in (history ++ more) ≡ reopens_in history + reopens_in more
unfolding reopens_in
reopens_joined [] more = omega arith
reopens_joined (l ∷ history) more = omega (arith, reopens_joined history more)

pub operations_more : (writes more : List Write) → operations_in (writes ++ more) ≡ operations_in writes + operations_in more
unfolding operations_in
operations_more [] more = omega arith
operations_more (w ∷ writes) more = omega (arith, operations_more writes more)

pub numbered_more : (first : ℕ) (writes more : List Write) → numbered first (writes ++ more) ≡ numbered first writes ++ numbered (first + operations_in writes) more
unfolding numbered operations_in
numbered_more first [] more = let e : first ≡ first + 0 = omega arith in ap (λ n. numbered n more) e
numbered_more first (w ∷ writes) more =
    let e : (first + length w) + operations_in writes ≡ first + (length w + operations_in writes) = omega arith in
    let b : Batch = record { first = first; operations = w } in
    ap (λ bs. b ∷ bs) (numbered_more (first + length w) writes more ∙ ap (λ n. numbered (first + length w) writes ++ numbered n more) e)

-- the machine is never stuck: a line of each order, and the state after it
unfoldable pub line_of : Parsed → State → Line
line_of order state = record { order = order; wrote = writes_of order; told = reply_of order state.now }

pub next_of : Parsed → State → State
next_of order state = record { now = after_writes (writes_of order) state.now }

pub step_of : (order : Parsed) (state : State) → Step state (line_of order state) (next_of order state)
unfolding line_of next_of
step_of order state = record { told_is = refl; wrote_is = refl; now_is = refl }

-- and a history of each list of orders
pub record Goes (state : State) (given : List Parsed) : Type 0 where
  pub history : List Line
  pub last : State
  pub orders_are : orders_of history ≡ given
  pub runs : Runs state history last

pub goes : (given : List Parsed) (state : State) → Goes state given
unfolding line_of
goes [] state = record { history = []; last = state; orders_are = refl; runs = refl }
goes (order ∷ given) state =
    let rest = goes given (next_of order state) in
    record {
      history = line_of order state ∷ rest.history;
      last = rest.last;
      orders_are = ap (λ os. order ∷ os) rest.orders_are;
      runs = (next_of order state, step_of order state, rest.runs);
    }
