-- How many writes a cut holds.
use Rattle.std.proofs.Common.{◌≡◌, ◌⊎◌, ℕ, zero, suc, ◌+◌, ◌-◌, ◌^◌, ◌<◌, ◌≤◌, Bool, true, false, cond, leb, ◌||◌, List, [], ◌∷◌, ◌++◌, length, take, refl, sym, ◌∙◌, ap, subst, arith, append-nil, length-append, add_assoc, zero-add, inl, inr}
use Rattle.std.specs.List.{list_any}
use Rattle.std.specs.FinMap.{empty}
use Rattle.std.proofs.Math.Seq.{take-append-add}
use Rattle.std.proofs.Math.Bool.{or-false, or-true}
use Rattle.std.proofs.lemmas.Bool.{le-leb, leb-true}
use Rattle.std.proofs.lemmas.List.{nil_from_length}
use Rattle.std.proofs.lemmas.Bool.Decides.{nat_tests}
use Rattle.std.proofs.lemmas.List.Folds.{list_any-append}
use Rattle.bl_site.specs.Disk.{Folder}
use Rattle.bl_entry.specs.Batches.{Batch}
use Rattle.bl_entry.specs.Revisions.{Map, revisions_of, IsMapAt}
use Rattle.bl_script.specs.declared.command.Command.TheVariants as command
use Rattle.bl_script.specs.declared.command.Parsed.{Parsed}
use Rattle.bl_script.specs.declared.command.Parsed.TheVariants.{Nothing, Refused, Go}
use Rattle.bl_logstore.specs.Folders.{Stands, LogStands}
use Rattle.bl_logstore.specs.Logs.{after_batches}
use Rattle.bl_logstore.specs.Laws.{BatchesMakeMap}
use Rattle.bl_shell.specs.Machine.{State, Write, Line, Runs, after_writes, reply_of, told_by, written_by, operations_in, numbered, Start}
use Rattle.bl_shell.specs.Synced.{syncs, whole_within, before_sync, synced, begun, StandsAfter}
use Rattle.bl_shell.specs.Carried.{StandsFirst, IsMade}
use Rattle.bl_shell.proofs.HistoryLemmas.{written_more}
use Rattle.bl_shell.proofs.LimitLemmas.{ends, operations_joined, operations_numbered}

pub yes_or_no : (b : Bool) → (b ≡ true) ⊎ (b ≡ false)
yes_or_no true = inl refl
yes_or_no false = inr refl

-- the reply of a line that syncs has a byte
pub says : (order : Parsed) (m : Map) → syncs order ≡ true → reply_of order m ≡ [] → ⊥
says Nothing m is none = cc is
says (Refused why) m is none = cc is
says (Go (command.Put key value)) m is none = cc is
says (Go (command.Del key)) m is none = cc is
says (Go (command.Batch operations)) m is none = cc is
says (Go (command.Get key)) m is none = cc is
says (Go (command.Scan from to)) m is none = cc is
says (Go command.Sync) m is none = cc none
says (Go command.Flush) m is none = cc is
says (Go command.Files) m is none = cc is
says (Go command.Reopen) m is none = cc none

-- all lines whose replies were told, and of the others those that the further bytes have whole
pub whole_front : (done more : List Line) (k : ℕ) → whole_within (length (told_by done) + k) (done ++ more) ≡ done ++ whole_within k more
unfolding whole_within
whole_front [] more k = let e : 0 + k ≡ k = omega arith in ap (λ n. whole_within n more) e
whole_front (x ∷ done) more k =
    let l = length x.told in
    let n = length (told_by (x ∷ done)) + k in
    let long : length (told_by (x ∷ done)) ≡ length x.told + length (told_by done) = length-append x.told (told_by done) in
    let yes : leb l n ≡ true = le-leb l n (omega (arith, long)) in
    let rest : n - l ≡ length (told_by done) + k = omega (arith, long) in
    ap (λ b. cond b (x ∷ whole_within (n - l) (done ++ more)) []) yes ∙ ap (λ m. x ∷ whole_within m (done ++ more)) rest ∙ ap (λ ls. x ∷ ls) (whole_front done more k)

pub whole_line : (line : Line) (k : ℕ) → length line.told ≤ k → whole_within k (line ∷ []) ≡ line ∷ []
unfolding whole_within
whole_line line k le = ap (λ b. cond b (line ∷ []) []) (le-leb (length line.told) k le)

pub no_whole_line : (line : Line) (k : ℕ) → k < length line.told → whole_within k (line ∷ []) ≡ []
unfolding whole_within
no_whole_line line k lt = let no : leb (length line.told) k ≡ false = grind (arith, nat_tests) in ap (λ b. cond b (line ∷ []) []) no

none_whole : (k : ℕ) → whole_within k [] ≡ []
unfolding whole_within
none_whole k = refl

pub begun_front : (done more : List Line) (k : ℕ) → begun (length (told_by done) + k) (done ++ more) ≡ length (written_by done) + begun k more
unfolding begun
begun_front [] more k = let e : 0 + k ≡ k = omega arith in ap (λ n. begun n more) e ∙ sym (zero-add (begun k more))
begun_front (x ∷ done) more k =
    let l = length x.told in
    let n = length (told_by (x ∷ done)) + k in
    let long : length (told_by (x ∷ done)) ≡ length x.told + length (told_by done) = length-append x.told (told_by done) in
    let wide : length (written_by (x ∷ done)) ≡ length x.wrote + length (written_by done) = length-append x.wrote (written_by done) in
    let yes : leb l n ≡ true = le-leb l n (omega (arith, long)) in
    let rest : n - l ≡ length (told_by done) + k = omega (arith, long) in
    ap (λ b. length x.wrote + cond b (begun (n - l) (done ++ more)) 0) yes ∙ ap (λ m. length x.wrote + begun m (done ++ more)) rest
    ∙ ap (λ m. length x.wrote + m) (begun_front done more k) ∙ sym (add_assoc (length x.wrote) (length (written_by done)) (begun k more)) ∙ ap (λ m. m + begun k more) (sym wide)

none : (n : ℕ) (b : Bool) → n + cond b 0 0 ≡ n
none n true = omega arith
none n false = omega arith

pub begun_line : (line : Line) (k : ℕ) → begun k (line ∷ []) ≡ length line.wrote
unfolding begun
begun_line line k = none (length line.wrote) (leb (length line.told) k)

none_begun : (k : ℕ) → begun k [] ≡ 0
unfolding begun
none_begun k = refl

pub no_syncs : before_sync [] ≡ 0
unfolding before_sync
no_syncs = refl

any_syncs : (done : List Line) (line : Line) (b : Bool) → syncs line.order ≡ b → list_any (λ (l : Line). syncs l.order) (done ++ line ∷ []) ≡ (list_any (λ (l : Line). syncs l.order) done || (b || false))
any_syncs done line b is = list_any-append (λ (l : Line). syncs l.order) done (line ∷ []) ∙ ap (λ x. list_any (λ (l : Line). syncs l.order) done || (x || false)) is

by_line : (done : List Line) (line : Line) (b : Bool) → syncs line.order ≡ b → before_sync (done ++ line ∷ []) ≡ cond b (length (written_by done)) (before_sync done)
unfolding before_sync
by_line [] line true is = refl
by_line [] line false is = refl
by_line (x ∷ done) line true is =
    let a : list_any (λ (l : Line). syncs l.order) (done ++ line ∷ []) ≡ true = any_syncs done line true is ∙ or-true (list_any (λ (l : Line). syncs l.order) done) in
    ap (λ b. cond b (length x.wrote + before_sync (done ++ line ∷ [])) 0) a ∙ ap (λ n. length x.wrote + n) (by_line done line true is) ∙ sym (length-append x.wrote (written_by done))
by_line (x ∷ done) line false is =
    let a : list_any (λ (l : Line). syncs l.order) (done ++ line ∷ []) ≡ list_any (λ (l : Line). syncs l.order) done = any_syncs done line false is ∙ or-false (list_any (λ (l : Line). syncs l.order) done) in
    ap (λ b. cond b (length x.wrote + before_sync (done ++ line ∷ [])) 0) a ∙ ap (λ n. cond (list_any (λ (l : Line). syncs l.order) done) (length x.wrote + n) 0) (by_line done line false is)

-- one line more: if it syncs, all writes are before it
pub before_sync_more : (done : List Line) (line : Line) → before_sync (done ++ line ∷ []) ≡ cond (syncs line.order) (length (written_by done)) (before_sync done)
before_sync_more done line = by_line done line (syncs line.order) refl

-- all replies were told
pub synced_all : (done : List Line) → synced (length (told_by done)) done ≡ before_sync done
synced_all done =
    let e : length (told_by done) ≡ length (told_by done) + 0 = omega arith in
    ap before_sync (ap (λ n. whole_within n done) e ∙ ap (whole_within (length (told_by done) + 0)) (sym (append-nil done)) ∙ whole_front done [] 0 ∙ ap (λ ls. done ++ ls) (none_whole 0) ∙ append-nil done)

pub begun_all : (done : List Line) → begun (length (told_by done)) done ≡ length (written_by done)
begun_all done =
    let e : length (told_by done) ≡ length (told_by done) + 0 = omega arith in
    ap (λ n. begun n done) e ∙ ap (begun (length (told_by done) + 0)) (sym (append-nil done)) ∙ omega (arith, begun_front done [] 0, none_begun 0)

-- of the reply to one line more a front was told
pub synced_in : (done : List Line) (line : Line) (k : ℕ) → k < length line.told → synced (length (told_by done) + k) (done ++ line ∷ []) ≡ before_sync done
synced_in done line k lt = ap before_sync (whole_front done (line ∷ []) k ∙ ap (λ ls. done ++ ls) (no_whole_line line k lt) ∙ append-nil done)

pub synced_with : (done : List Line) (line : Line) (k : ℕ) → length line.told ≤ k → synced (length (told_by done) + k) (done ++ line ∷ []) ≡ cond (syncs line.order) (length (written_by done)) (before_sync done)
synced_with done line k le = ap before_sync (whole_front done (line ∷ []) k ∙ ap (λ ls. done ++ ls) (whole_line line k le)) ∙ before_sync_more done line

pub begun_in : (done : List Line) (line : Line) (k : ℕ) → begun (length (told_by done) + k) (done ++ line ∷ []) ≡ length (written_by (done ++ line ∷ []))
begun_in done line k = omega (arith, begun_front done (line ∷ []) k, begun_line line k, ap length (written_more done line), length-append (written_by done) line.wrote)

-- the batches of writes
pub numbered-length : (first : ℕ) (writes : List Write) → length (numbered first writes) ≡ length writes
unfolding numbered
numbered-length first [] = refl
numbered-length first (w ∷ writes) = omega (arith, numbered-length (first + length w) writes)

pub numbered-take : (first : ℕ) (writes : List Write) (k : ℕ) → take k (numbered first writes) ≡ numbered first (take k writes)
unfolding numbered
numbered-take first [] zero = refl
numbered-take first [] (suc k) = refl
numbered-take first (w ∷ writes) zero = refl
numbered-take first (w ∷ writes) (suc k) = ap (λ bs. record { first = first; operations = w } ∷ bs) (numbered-take (first + length w) writes k)

after_joined : (xs ys : List Batch) (m : Map) → after_batches (xs ++ ys) m ≡ after_batches ys (after_batches xs m)
unfolding after_batches
after_joined [] ys m = refl
after_joined (x ∷ xs) ys m = after_joined xs ys _

after_numbered : (first : ℕ) (writes : List Write) (m : Map) → after_batches (numbered first writes) m ≡ after_writes writes m
unfolding after_batches numbered after_writes
after_numbered first [] m = refl
after_numbered first (w ∷ writes) m = after_numbered (first + length w) writes _

-- a folder of the batches found and of those of some writes
pub log_stands : BatchesMakeMap → (began : Start) (folder : Folder) (writes : List Write) (left : ℕ) → IsMade began
    → Stands folder (began.batches ++ numbered (began.last + 1) writes) left → LogStands folder (after_writes writes began.now)
log_stands make began folder writes left made there =
    let bs = began.batches ++ numbered (began.last + 1) writes in
    let M : Map → Type 0 = λ m. IsMapAt (revisions_of bs) left m in
    record {
      batches = bs;
      last = left;
      stands = there;
      map_is = subst M (after_joined began.batches (numbered (began.last + 1) writes) empty ∙ after_numbered (began.last + 1) writes (after_batches began.batches empty) ∙ ap (after_writes writes) (sym made.now_is)) (make folder bs left there.have);
    }

-- no more of them than there are sequences
writes_fit : (began : Start) (writes : List Write) (folder : Folder) (last : ℕ) → IsMade began → Stands folder (began.batches ++ numbered (began.last + 1) writes) last → began.last + operations_in writes < 2 ^ 56
writes_fit began writes folder last made there =
    let bs = numbered (began.last + 1) writes in
    let e = ends _ 0 last (began.batches ++ bs) there.have.are in
    let small : last < 2 ^ 56 = e.fits (omega arith) in
    omega (arith, small, e.counted, operations_joined began.batches bs, operations_numbered (began.last + 1) writes, made.last_is)

-- the first of the batches found and of those of a history's writes
pub stands_after : BatchesMakeMap → (began : Start) (folder : Folder) (history : List Line) (count least : ℕ) → IsMade began
    → length began.batches + synced count history ≤ least → length (written_by history) ≤ begun count history
    → StandsFirst folder (began.batches ++ numbered (began.last + 1) (written_by history)) least → StandsAfter folder began history count
stands_after make began folder history count least made low high s =
    let writes = written_by history in
    let n = began.last + 1 in
    let found = length began.batches in
    let k = s.count - found in
    let is : s.count ≡ found + k = omega (arith, low, s.at_least) in
    let long : length (began.batches ++ numbered n writes) ≡ found + length writes = length-append began.batches (numbered n writes) ∙ ap (λ m. found + m) (numbered-length n writes) in
    let first : take s.count (began.batches ++ numbered n writes) ≡ began.batches ++ numbered n (take k writes) =
    ap (λ m. take m (began.batches ++ numbered n writes)) is ∙ take-append-add began.batches (numbered n writes) k ∙ ap (λ bs. began.batches ++ bs) (numbered-take n writes k) in
    let P : List Batch → Type 0 = λ bs. Stands folder bs s.last in
    let there : Stands folder (began.batches ++ numbered n (take k writes)) s.last = subst P first s.stands in
    record {
      writes = k;
      at_least = omega (arith, low, s.at_least, is);
      at_most = omega (arith, high, s.at_most, is, long);
      fits = writes_fit began (take k writes) folder s.last made there;
      stands = log_stands make began folder (take k writes) s.last made there;
    }

at_most : (b : Bool) (n most : ℕ) → n ≤ most → cond b n 0 ≤ most
at_most true n most le = le
at_most false n most le = omega arith

both_most : (b : Bool) (n most : ℕ) → n ≤ most → cond b n 0 ≤ cond b most 0
both_most true n most le = le
both_most false n most le = omega arith

second_false : (a b : Bool) → (a || b) ≡ false → b ≡ false
second_false true b is = cc is
second_false false b is = is

both_false : (a b : Bool) → a ≡ false → b ≡ false → (a || b) ≡ false
both_false true b first second = cc first
both_false false b first second = second

says_not : (order : Parsed) (m : Map) → reply_of order m ≡ [] → syncs order ≡ false
says_not order m none = elim (yes_or_no (syncs order)) [ inl sync ↦ absurd (says order m sync none) | inr quiet ↦ quiet ]

-- More lines that were not reached change no count. What was begun of them may be one more.
pub begun_within : (history : List Line) (count : ℕ) → begun count history ≤ length (written_by history)
unfolding begun
begun_within [] count = omega arith
begun_within (x ∷ history) count =
    let wide : length (written_by (x ∷ history)) ≡ length x.wrote + length (written_by history) = length-append x.wrote (written_by history) in
    let rest : cond (leb (length x.told) count) (begun (count - length x.told) history) 0 ≤ length (written_by history) = at_most (leb (length x.told) count) _ _ (begun_within history (count - length x.told)) in
    omega (arith, wide, rest)

pub begun_of_more : (history more : List Line) (count : ℕ) → begun count history ≤ begun count (history ++ more)
unfolding begun
begun_of_more [] more count = omega arith
begun_of_more (x ∷ history) more count =
    let rest : cond (leb (length x.told) count) (begun (count - length x.told) history) 0 ≤ cond (leb (length x.told) count) (begun (count - length x.told) (history ++ more)) 0 =
    both_most (leb (length x.told) count) _ _ (begun_of_more history more (count - length x.told)) in
    omega (arith, rest)

abbrev test : Line → Bool
test line = syncs line.order

none_sync : (lines : List Line) → list_any test lines ≡ false → before_sync lines ≡ 0
unfolding before_sync
none_sync [] none = refl
none_sync (x ∷ lines) none = ap (λ b. cond b (length x.wrote + before_sync lines) 0) (second_false (test x) (list_any test lines) none)

-- of lines that were not reached, none that syncs lies whole
none_reached : (more : List Line) (a b : State) → Runs a more b → list_any test (whole_within 0 more) ≡ false
unfolding whole_within
none_reached [] a b runs = refl
none_reached (y ∷ more) a b (mid, step, runs) = by_length (none_reached more mid b runs) (leb (length y.told) 0) refl
  where
    by_length : list_any test (whole_within 0 more) ≡ false → (t : Bool) → leb (length y.told) 0 ≡ t → list_any test (cond t (y ∷ whole_within (0 - length y.told) more) []) ≡ false
    by_length quiet false is = refl
    by_length quiet true is =
        let le : length y.told ≤ 0 = leb-true (length y.told) 0 is in
        let none : reply_of y.order a.now ≡ [] = sym step.told_is ∙ nil_from_length y.told (omega (arith, le)) in
        let zero : 0 - length y.told ≡ 0 = omega arith in
        both_false (test y) (list_any test (whole_within (0 - length y.told) more)) (says_not y.order a.now none) (ap (λ n. list_any test (whole_within n more)) zero ∙ quiet)

-- the same lines sync, and the same number of writes is before them
Alike : List Line → List Line → Type 0
Alike xs ys = (before_sync xs ≡ before_sync ys) × (list_any test xs ≡ list_any test ys)

alike : (history more : List Line) (a b : State) (count : ℕ) → count ≤ length (told_by history) → Runs a more b → Alike (whole_within count (history ++ more)) (whole_within count history)
unfolding whole_within before_sync Alike
alike [] more a b count le runs =
    let zero : count ≡ 0 = omega (arith, le) in
    let none : list_any test (whole_within count more) ≡ false = ap (λ n. list_any test (whole_within n more)) zero ∙ none_reached more a b runs in
    (none_sync (whole_within count more) none, none)
alike (x ∷ history) more a b count le runs = by_length (λ less. alike history more a b (count - length x.told) less runs) (leb (length x.told) count) refl
  where
    by_length : (count - length x.told ≤ length (told_by history) → Alike (whole_within (count - length x.told) (history ++ more)) (whole_within (count - length x.told) history)) → (t : Bool) → leb (length x.told) count ≡ t
        → Alike (cond t (x ∷ whole_within (count - length x.told) (history ++ more)) []) (cond t (x ∷ whole_within (count - length x.told) history) [])
    by_length rest false is = (refl, refl)
    by_length rest true is =
        let long : length (told_by (x ∷ history)) ≡ length x.told + length (told_by history) = length-append x.told (told_by history) in
        let h = rest (omega (arith, le, long)) in (
          ap (λ t. cond t (length x.wrote + before_sync (whole_within (count - length x.told) (history ++ more))) 0) h.1
              ∙ ap (λ n. cond (list_any test (whole_within (count - length x.told) history)) (length x.wrote + n) 0) h.0,
          ap (λ t. test x || t) h.1,
        )

pub synced_of_more : (history more : List Line) (a b : State) (count : ℕ) → count ≤ length (told_by history) → Runs a more b → synced count (history ++ more) ≡ synced count history
unfolding Alike
synced_of_more history more a b count le runs = (alike history more a b count le runs).0
