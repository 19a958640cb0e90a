-- How many writes are synced, and how many have begun.
use Rattle.std.proofs.Common.{◌≡◌, ◌⊎◌, ℕ, ◌+◌, ◌-◌, ◌<◌, ◌≤◌, Bool, true, false, cond, leb, ◌||◌, List, [], ◌∷◌, ◌++◌, length, refl, sym, ◌∙◌, ap, arith, append-nil, length-append, add_assoc, zero-add, inl, inr}
use Rattle.std.specs.List.{list_any}
use Rattle.std.proofs.Math.Bool.{or-false, or-true}
use Rattle.std.proofs.lemmas.Bool.{le-leb, leb-true, leb-false}
use Rattle.std.proofs.lemmas.List.{nil_from_length}
use Rattle.std.proofs.lemmas.Bool.Decides.{nat_tests}
use Rattle.std.proofs.lemmas.List.Folds.{list_any-append}
use Rattle.bl_edit.specs.Options.{Values}
use Rattle.bl_script.specs.declared.command.Command.TheVariants as command
use Rattle.bl_script.specs.declared.command.Parsed.{Parsed}
use Rattle.bl_script.specs.declared.command.Parsed.TheVariants.{Nothing, Refused, Go}
use Rattle.bl_machine.specs.State.{State}
use Rattle.bl_machine.specs.Step.{Line, Step, Obeys}
use Rattle.bl_machine.specs.History.{Runs, told_by, written_by}
use Rattle.bl_machine.specs.Synced.{syncs, whole_within, before_sync, synced, begun}
use Rattle.bl_machine.specs.Laws.{SyncedHaveBegun, BegunAreWritten, MoreToldMoreSynced, AllAreTold, MoreLinesKeepSynced}
use Rattle.bl_machine.proofs.HistoryLemmas.{written_more}

abbrev pub test : Line → Bool
test line = syncs line.order

pub yes_or_no : (b : Bool) → (b ≡ true) ⊎ (b ≡ false)
yes_or_no true = inl refl
yes_or_no false = inr refl

-- the reply of a line that syncs has a byte
says : (o : Values) (old new : State) (order : Parsed) (told : List ℕ) → Obeys o order old told new → syncs order ≡ true → told ≡ [] → ⊥
says o old new Nothing told obeys is none = cc is
says o old new (Refused why) told obeys is none = cc is
says o old new (Go (command.Put key value)) told obeys is none = cc is
says o old new (Go (command.Del key)) told obeys is none = cc is
says o old new (Go (command.Batch operations)) told obeys is none = cc is
says o old new (Go (command.Get key)) told obeys is none = cc is
says o old new (Go (command.Scan from to)) told obeys is none = cc is
says o old new (Go command.Sync) told obeys is none = let e : told ≡ told = refl in cc (obeys.told_is, none)
says o old new (Go command.Flush) told obeys is none = cc (obeys.told_is, none)
says o old new (Go command.Files) told obeys is none = cc is
says o old new (Go command.Reopen) told obeys is none = cc (obeys.told_is, none)

pub syncing_says : (o : Values) (old : State) (line : Line) (new : State) → Step o old line new → syncs line.order ≡ true → line.told ≡ [] → ⊥
syncing_says o old line new step is none = says o old new line.order line.told step.obeys is none

-- ---- all replies of some lines were told, and so many bytes of those behind them

pub whole_front : (done more : List Line) (k : ℕ) → whole_within (length (told_by done) + k) (done ++ more) ≡ done ++ whole_within k more
unfolding whole_within
whole_front [] more k = let e : 0 + k ≡ k = omega arith in ap (λ n. whole_within n more) e
whole_front (x ∷ done) more k =
    let l = length x.told in
    let n = length (told_by (x ∷ done)) + k in
    let long : length (told_by (x ∷ done)) ≡ length x.told + length (told_by done) = length-append x.told (told_by done) in
    let yes : leb l n ≡ true = le-leb l n (omega (arith, long)) in
    let rest : n - l ≡ length (told_by done) + k = omega (arith, long) in
    ap (λ b. cond b (x ∷ whole_within (n - l) (done ++ more)) []) yes ∙ ap (λ m. x ∷ whole_within m (done ++ more)) rest ∙ ap (λ ls. x ∷ ls) (whole_front done more k)

pub whole_line : (line : Line) (k : ℕ) → length line.told ≤ k → whole_within k (line ∷ []) ≡ line ∷ []
unfolding whole_within
whole_line line k le = ap (λ b. cond b (line ∷ []) []) (le-leb (length line.told) k le)

pub no_whole_line : (line : Line) (k : ℕ) → k < length line.told → whole_within k (line ∷ []) ≡ []
unfolding whole_within
no_whole_line line k lt = let no : leb (length line.told) k ≡ false = grind (arith, nat_tests) in ap (λ b. cond b (line ∷ []) []) no

none_whole : (k : ℕ) → whole_within k [] ≡ []
unfolding whole_within
none_whole k = refl

pub begun_front : (done more : List Line) (k : ℕ) → begun (length (told_by done) + k) (done ++ more) ≡ length (written_by done) + begun k more
unfolding begun
begun_front [] more k = let e : 0 + k ≡ k = omega arith in ap (λ n. begun n more) e ∙ sym (zero-add (begun k more))
begun_front (x ∷ done) more k =
    let l = length x.told in
    let n = length (told_by (x ∷ done)) + k in
    let long : length (told_by (x ∷ done)) ≡ length x.told + length (told_by done) = length-append x.told (told_by done) in
    let wide : length (written_by (x ∷ done)) ≡ length x.wrote + length (written_by done) = length-append x.wrote (written_by done) in
    let yes : leb l n ≡ true = le-leb l n (omega (arith, long)) in
    let rest : n - l ≡ length (told_by done) + k = omega (arith, long) in
    ap (λ b. length x.wrote + cond b (begun (n - l) (done ++ more)) 0) yes ∙ ap (λ m. length x.wrote + begun m (done ++ more)) rest
    ∙ ap (λ m. length x.wrote + m) (begun_front done more k) ∙ sym (add_assoc (length x.wrote) (length (written_by done)) (begun k more)) ∙ ap (λ m. m + begun k more) (sym wide)

none : (n : ℕ) (b : Bool) → n + cond b 0 0 ≡ n
none n true = omega arith
none n false = omega arith

pub begun_line : (line : Line) (k : ℕ) → begun k (line ∷ []) ≡ length line.wrote
unfolding begun
begun_line line k = none (length line.wrote) (leb (length line.told) k)

none_begun : (k : ℕ) → begun k [] ≡ 0
unfolding begun
none_begun k = refl

-- ---- one line more

any_syncs : (done : List Line) (line : Line) (b : Bool) → syncs line.order ≡ b → list_any test (done ++ line ∷ []) ≡ (list_any test done || (b || false))
any_syncs done line b is = list_any-append test done (line ∷ []) ∙ ap (λ x. list_any test done || (x || false)) is

by_line : (done : List Line) (line : Line) (b : Bool) → syncs line.order ≡ b → before_sync (done ++ line ∷ []) ≡ cond b (length (written_by done)) (before_sync done)
unfolding before_sync
by_line [] line true is = refl
by_line [] line false is = refl
by_line (x ∷ done) line true is =
    let a : list_any test (done ++ line ∷ []) ≡ true = any_syncs done line true is ∙ or-true (list_any test done) in
    ap (λ b. cond b (length x.wrote + before_sync (done ++ line ∷ [])) 0) a ∙ ap (λ n. length x.wrote + n) (by_line done line true is) ∙ sym (length-append x.wrote (written_by done))
by_line (x ∷ done) line false is =
    let a : list_any test (done ++ line ∷ []) ≡ list_any test done = any_syncs done line false is ∙ or-false (list_any test done) in
    ap (λ b. cond b (length x.wrote + before_sync (done ++ line ∷ [])) 0) a ∙ ap (λ n. cond (list_any test done) (length x.wrote + n) 0) (by_line done line false is)

-- if it syncs, all writes are before it
pub before_sync_more : (done : List Line) (line : Line) → before_sync (done ++ line ∷ []) ≡ cond (syncs line.order) (length (written_by done)) (before_sync done)
before_sync_more done line = by_line done line (syncs line.order) refl

pub no_syncs : before_sync [] ≡ 0
unfolding before_sync
no_syncs = refl

-- all replies were told
pub synced_all : (done : List Line) → synced (length (told_by done)) done ≡ before_sync done
synced_all done =
    let e : length (told_by done) ≡ length (told_by done) + 0 = omega arith in
    ap before_sync (ap (λ n. whole_within n done) e ∙ ap (whole_within (length (told_by done) + 0)) (sym (append-nil done)) ∙ whole_front done [] 0 ∙ ap (λ ls. done ++ ls) (none_whole 0) ∙ append-nil done)

pub begun_all : (done : List Line) → begun (length (told_by done)) done ≡ length (written_by done)
begun_all done =
    let e : length (told_by done) ≡ length (told_by done) + 0 = omega arith in
    ap (λ n. begun n done) e ∙ ap (begun (length (told_by done) + 0)) (sym (append-nil done)) ∙ omega (arith, begun_front done [] 0, none_begun 0)

pub all_are_told : AllAreTold
all_are_told history = (synced_all history, begun_all history)

-- of the reply to one line more a front was told
pub synced_in : (done : List Line) (line : Line) (k : ℕ) → k < length line.told → synced (length (told_by done) + k) (done ++ line ∷ []) ≡ before_sync done
synced_in done line k lt = ap before_sync (whole_front done (line ∷ []) k ∙ ap (λ ls. done ++ ls) (no_whole_line line k lt) ∙ append-nil done)

-- or all of it
pub synced_with : (done : List Line) (line : Line) (k : ℕ) → length line.told ≤ k → synced (length (told_by done) + k) (done ++ line ∷ []) ≡ cond (syncs line.order) (length (written_by done)) (before_sync done)
synced_with done line k le = ap before_sync (whole_front done (line ∷ []) k ∙ ap (λ ls. done ++ ls) (whole_line line k le)) ∙ before_sync_more done line

pub begun_in : (done : List Line) (line : Line) (k : ℕ) → begun (length (told_by done) + k) (done ++ line ∷ []) ≡ length (written_by (done ++ line ∷ []))
begun_in done line k = omega (arith, begun_front done (line ∷ []) k, begun_line line k, ap length (written_more done line), length-append (written_by done) line.wrote)

-- ---- bounds

at_most : (b : Bool) (n most : ℕ) → n ≤ most → cond b n 0 ≤ most
at_most true n most le = le
at_most false n most le = omega arith

both_most : (b : Bool) (n most : ℕ) → n ≤ most → cond b n 0 ≤ cond b most 0
both_most true n most le = le
both_most false n most le = omega arith

pub begun_are_written : BegunAreWritten
unfolding begun
begun_are_written count [] = omega arith
begun_are_written count (x ∷ history) =
    let wide : length (written_by (x ∷ history)) ≡ length x.wrote + length (written_by history) = length-append x.wrote (written_by history) in
    let rest : cond (leb (length x.told) count) (begun (count - length x.told) history) 0 ≤ length (written_by history) = at_most (leb (length x.told) count) _ _ (begun_are_written (count - length x.told) history) in
    omega (arith, wide, rest)

pub synced_have_begun : SyncedHaveBegun
unfolding whole_within before_sync begun
synced_have_begun count [] = omega arith
synced_have_begun count (x ∷ history) = by_length (synced_have_begun (count - length x.told) history) (leb (length x.told) count)
  where
    by_length : before_sync (whole_within (count - length x.told) history) ≤ begun (count - length x.told) history → (t : Bool)
        → before_sync (cond t (x ∷ whole_within (count - length x.told) history) []) ≤ length x.wrote + cond t (begun (count - length x.told) history) 0
    by_length rest true = at_most (list_any test (whole_within (count - length x.told) history)) _ _ (omega (arith, rest))
    by_length rest false = omega arith

-- ---- lines behind those whose replies were told

second_false : (a b : Bool) → (a || b) ≡ false → b ≡ false
second_false true b is = cc is
second_false false b is = is

both_false : (a b : Bool) → a ≡ false → b ≡ false → (a || b) ≡ false
both_false true b first second = cc first
both_false false b first second = second

says_not : (o : Values) (old : State) (line : Line) (new : State) → Step o old line new → line.told ≡ [] → syncs line.order ≡ false
says_not o old line new step silent = elim (yes_or_no (syncs line.order)) [ inl sync ↦ absurd (syncing_says o old line new step sync silent) | inr quiet ↦ quiet ]

begun_of_more : (history more : List Line) (count : ℕ) → begun count history ≤ begun count (history ++ more)
unfolding begun
begun_of_more [] more count = omega arith
begun_of_more (x ∷ history) more count =
    let rest : cond (leb (length x.told) count) (begun (count - length x.told) history) 0 ≤ cond (leb (length x.told) count) (begun (count - length x.told) (history ++ more)) 0 =
    both_most (leb (length x.told) count) _ _ (begun_of_more history more (count - length x.told)) in
    omega (arith, rest)

none_sync : (lines : List Line) → list_any test lines ≡ false → before_sync lines ≡ 0
unfolding before_sync
none_sync [] quiet = refl
none_sync (x ∷ lines) quiet = ap (λ b. cond b (length x.wrote + before_sync lines) 0) (second_false (test x) (list_any test lines) quiet)

-- of lines that were not reached, none that syncs lies whole
none_reached : (o : Values) (more : List Line) (a b : State) → Runs o a more b → list_any test (whole_within 0 more) ≡ false
unfolding whole_within
none_reached o [] a b runs = refl
none_reached o (y ∷ more) a b (mid, step, runs) = by_length (none_reached o more mid b runs) (leb (length y.told) 0) refl
  where
    by_length : list_any test (whole_within 0 more) ≡ false → (t : Bool) → leb (length y.told) 0 ≡ t → list_any test (cond t (y ∷ whole_within (0 - length y.told) more) []) ≡ false
    by_length quiet false is = refl
    by_length quiet true is =
        let le : length y.told ≤ 0 = leb-true (length y.told) 0 is in
        let silent : y.told ≡ [] = nil_from_length y.told (omega (arith, le)) in
        let zero : 0 - length y.told ≡ 0 = omega arith in
        both_false (test y) (list_any test (whole_within (0 - length y.told) more)) (says_not o a y mid step silent) (ap (λ n. list_any test (whole_within n more)) zero ∙ quiet)

-- the same lines sync, and the same number of writes is before them
unfoldable pub Alike : List Line → List Line → Type 0
Alike xs ys = (before_sync xs ≡ before_sync ys) × (list_any test xs ≡ list_any test ys)

alike : (o : Values) (history more : List Line) (a b : State) (count : ℕ) → count ≤ length (told_by history) → Runs o a more b → Alike (whole_within count (history ++ more)) (whole_within count history)
unfolding whole_within before_sync Alike
alike o [] more a b count le runs =
    let zero : count ≡ 0 = omega (arith, le) in
    let quiet : list_any test (whole_within count more) ≡ false = ap (λ n. list_any test (whole_within n more)) zero ∙ none_reached o more a b runs in
    (none_sync (whole_within count more) quiet, quiet)
alike o (x ∷ history) more a b count le runs = by_length (λ less. alike o history more a b (count - length x.told) less runs) (leb (length x.told) count) refl
  where
    by_length : (count - length x.told ≤ length (told_by history) → Alike (whole_within (count - length x.told) (history ++ more)) (whole_within (count - length x.told) history)) → (t : Bool) → leb (length x.told) count ≡ t
        → Alike (cond t (x ∷ whole_within (count - length x.told) (history ++ more)) []) (cond t (x ∷ whole_within (count - length x.told) history) [])
    by_length rest false is = (refl, refl)
    by_length rest true is =
        let long : length (told_by (x ∷ history)) ≡ length x.told + length (told_by history) = length-append x.told (told_by history) in
        let h = rest (omega (arith, le, long)) in (
          ap (λ t. cond t (length x.wrote + before_sync (whole_within (count - length x.told) (history ++ more))) 0) h.1
              ∙ ap (λ n. cond (list_any test (whole_within (count - length x.told) history)) (length x.wrote + n) 0) h.0,
          ap (λ t. test x || t) h.1,
        )

pub more_lines_keep : MoreLinesKeepSynced
unfolding Alike
more_lines_keep o history more mid last count runs le = ((alike o history more mid last count le runs).0, begun_of_more history more count)

-- ---- more is told

-- no fewer lines: what syncs among the first ones still does, and no fewer writes are before it
Grows : List Line → List Line → Type 0
Grows xs ys = (before_sync xs ≤ before_sync ys) × (list_any test xs ≡ true → list_any test ys ≡ true)

grows_by : (w : ℕ) (a b : Bool) (m n : ℕ) → m ≤ n → (a ≡ true → b ≡ true) → cond a (w + m) 0 ≤ cond b (w + n) 0
grows_by w true true m n le still = omega (arith, le)
grows_by w true false m n le still = cc (still refl)
grows_by w false true m n le still = omega arith
grows_by w false false m n le still = omega arith

or_grows : (t a b : Bool) → (a ≡ true → b ≡ true) → (t || a) ≡ true → (t || b) ≡ true
or_grows true a b still is = refl
or_grows false a b still is = still is

grows : (less count : ℕ) (history : List Line) → less ≤ count → Grows (whole_within less history) (whole_within count history) × (begun less history ≤ begun count history)
unfolding whole_within before_sync begun Grows
grows less count [] le = ((omega arith, λ is. is), omega arith)
grows less count (x ∷ history) le = by_lengths (λ fewer. grows (less - length x.told) (count - length x.told) history fewer) (leb (length x.told) less) (leb (length x.told) count) refl refl
  where
    by_lengths : (less - length x.told ≤ count - length x.told → Grows (whole_within (less - length x.told) history) (whole_within (count - length x.told) history) × (begun (less - length x.told) history ≤ begun (count - length x.told) history))
        → (s t : Bool) → leb (length x.told) less ≡ s → leb (length x.told) count ≡ t
        → Grows (cond s (x ∷ whole_within (less - length x.told) history) []) (cond t (x ∷ whole_within (count - length x.told) history) [])
        × (length x.wrote + cond s (begun (less - length x.told) history) 0 ≤ length x.wrote + cond t (begun (count - length x.told) history) 0)
    by_lengths rest true true is also =
        let h = rest (omega (arith, le)) in
        let a = list_any test (whole_within (less - length x.told) history) in
        let b = list_any test (whole_within (count - length x.told) history) in
        ((grows_by (length x.wrote) a b _ _ h.0.0 h.0.1, or_grows (test x) a b h.0.1), omega (arith, h.1))
    by_lengths rest true false is also = absurd (omega (arith, leb-true (length x.told) less is, leb-false (length x.told) count also, le))
    by_lengths rest false true is also = ((omega arith, λ e. cc e), omega arith)
    by_lengths rest false false is also = ((omega arith, λ e. e), omega arith)

pub more_told : MoreToldMoreSynced
unfolding Grows
more_told less count history le = let g = grows less count history le in (g.0.0, g.1)
