-- Histories of worked scripts, line by line.
use Rattle.std.proofs.Common.{◌≡◌, ℕ, ◌+◌, Bool, true, false, cond, List, [], ◌∷◌, ◌++◌, codes, Some, refl, sym, ◌∙◌, ap, subst}
use Rattle.std.specs.Prelude.{nat_le, ◌||◌}
use Rattle.std.specs.FinMap.{get, insert, empty, get-insert, get-empty}
use Rattle.std.specs.Cmp.Lexicographic.{nat_list_cmp_total}
use Rattle.percent_encoding.specs.Percent.{percent_decode}
use Rattle.bl_entry.specs.Batches.{put_of}
use Rattle.bl_entry.specs.Revisions.{after_operations}
use Rattle.bl_edit.specs.Options.{Values}
use Rattle.bl_build.specs.Listing.{Listing, nothing}
use Rattle.bl_script.specs.declared.command.Command.TheVariants.{Put, Get, Flush, Files}
use Rattle.bl_script.specs.declared.command.Parsed.{Parsed}
use Rattle.bl_script.specs.declared.command.Parsed.TheVariants.{Go}
use Rattle.bl_script.specs.Lines.{lines_in, words_in}
use Rattle.bl_script.specs.Parsing.{parsed}
use Rattle.bl_script.specs.Printing.{ok_line, value_line}
use Rattle.std.specs.Fmt.{digits}
use Rattle.bl_machine.specs.Writes.{bytes_of}
use Rattle.bl_machine.specs.State.{State, start, IsInOrder}
use Rattle.bl_machine.specs.Step.{Line, Obeys, switches, writes_of, files_lines}
use Rattle.bl_machine.specs.History.{orders_of, told_by, orders, IsHistory}
use Rattle.bl_machine.specs.Rows.{HistoryOf, TellsRow, PutIsRead, FlushedIsListed, InlineIsListed, NoneAreListed, EmptyIsRead, SecondPutSwitches, FlushEmpties, flushed_table, with_blob}

-- ---- a history, by its first line

record Begins (o : Values) (s : State) (order : Parsed) (given : List Parsed) (history : List Line) (last : State) : Type 0 where
  pub line : Line
  pub mid : State
  pub more : List Line
  pub obeys : Obeys o order s line.told mid
  pub told_is : told_by history ≡ line.told ++ told_by more
  pub rest : IsHistory o mid given more last

begins : (o : Values) (s : State) (order : Parsed) (given : List Parsed) (history : List Line) (last : State) → IsHistory o s (order ∷ given) history last → Begins o s order given history last
begins o s order given [] last h = cc h.orders_are
begins o s order given (line ∷ more) last h =
    let (mid, step, runs) = h.runs in
    let same : line.order ≡ order = let e = h.orders_are in cc e in
    let others : orders_of more ≡ given = let e = h.orders_are in cc e in
    let P : Parsed → Type 0 = λ p. Obeys o p s line.told mid in
    record { line = line; mid = mid; more = more; obeys = subst P same step.obeys; told_is = refl; rest = record { orders_are = others; runs = runs } }

no_more : (o : Values) (s : State) (history : List Line) (last : State) → IsHistory o s [] history last → (history ≡ []) × (last ≡ s)
no_more o s [] last h = (refl, h.runs)
no_more o s (line ∷ more) last h = let e = h.orders_are in cc e

-- ---- and one that is made of lines

one_more : (o : Values) (s mid : State) (order : Parsed) (told : List ℕ) (given : List Parsed) (history : List Line) (last : State) → IsInOrder mid.listing → Obeys o order s told mid
    → IsHistory o mid given history last → IsHistory o s (order ∷ given) (record { order = order; wrote = writes_of s order; told = told } ∷ history) last
one_more o s mid order told given history last in_order obeys h = record {
  orders_are = ap (λ os. order ∷ os) h.orders_are;
  runs = (mid, record { obeys = obeys; wrote_is = refl; in_order = in_order }, h.runs);
}

none : (o : Values) (s : State) → IsHistory o s [] [] s
none o s = record { orders_are = refl; runs = refl }

-- ---- a put is read

abbrev first_state : State
first_state = start empty nothing

abbrev reads_of : List ℕ → List ℕ → List Parsed
reads_of key value = Go (Put key value) ∷ Go (Get (codes "a")) ∷ Go (Get (codes "b")) ∷ []

-- the map after a put in a map without keys
after_put : (o : Values) (key value told : List ℕ) (mid : State) → Obeys o (Go (Put key value)) first_state told mid → mid.now ≡ insert empty key value
after_put o key value told mid w = ap (λ (s : State). s.now) w.left

reads_each : (o : Values) (value : List ℕ) (history : List Line) (last : State) → IsHistory o first_state (reads_of (codes "a") value) history last
    → told_by history ≡ ok_line ++ (value_line (Some value) ++ (codes "none\n" ++ []))
reads_each o value history last h =
    let a = begins o first_state _ _ history last h in
    let b = begins o a.mid _ _ a.more last a.rest in
    let c = begins o b.mid _ _ b.more last b.rest in
    let d = no_more o c.mid c.more last c.rest in
    let now : a.mid.now ≡ insert empty (codes "a") value = after_put o (codes "a") value a.line.told a.mid a.obeys in
    let first : b.line.told ≡ value_line (Some value) =
    b.obeys.told_is ∙ ap (λ m. value_line (get m (codes "a"))) now ∙ ap value_line (get-insert nat_list_cmp_total empty (codes "a") value (codes "a")) in
    let second : c.line.told ≡ codes "none\n" =
    c.obeys.told_is ∙ ap (λ (s : State). value_line (get s.now (codes "b"))) b.obeys.same ∙ ap (λ m. value_line (get m (codes "b"))) now
    ∙ ap value_line (get-insert nat_list_cmp_total empty (codes "a") value (codes "b") ∙ get-empty _ (codes "b")) in
    a.told_is ∙ ap (λ t. t ++ told_by a.more) a.obeys.told_is
    ∙ ap (λ t. ok_line ++ t) (b.told_is ∙ ap (λ t. t ++ told_by b.more) first ∙ ap (λ t. value_line (Some value) ++ t) (c.told_is ∙ ap (λ t. t ++ told_by c.more) second ∙ ap (λ ls. codes "none\n" ++ told_by ls) d.0))

-- a history of what a script orders is one of the script
made_of : {o : Values} {given : List Parsed} {history : List Line} {last : State} (script : List ℕ) → orders script ≡ given → IsHistory o first_state given history last
    → (h : HistoryOf o script) × (h.last.listing ≡ last.listing)
made_of {o = o} {given = given} {history = history} {last = last} script is made =
    let P : List Parsed → Type 0 = λ os. IsHistory o first_state os history last in
    (record { history = history; last = last; is_history = subst P (sym is) made }, refl)

-- after a put, with these files
abbrev put_in : Values → List ℕ → List ℕ → Listing → State → State
put_in o key value files s = record s {
  now = after_operations (put_of key value ∷ []) s.now;
  listing = files;
  waits = switches o s || s.waits;
  buffered = cond (switches o s) 0 s.buffered + bytes_of (put_of key value ∷ []);
}

obeys_put : (o : Values) (key value : List ℕ) (files : Listing) (s : State) → Obeys o (Go (Put key value)) s ok_line (put_in o key value files s)
obeys_put o key value files s = record { told_is = refl; job = λ set. set; left = refl }

reads_script : orders (codes "put a =xyz\nget a\nget b\n") ≡ reads_of (codes "a") (codes "xyz")
unfolding lines_in parsed words_in percent_decode
reads_script = refl

pub put_is_read : PutIsRead
put_is_read files in_order = record {
  each = λ o h same.
      let P : List Parsed → Type 0 = λ os. IsHistory o first_state os h.history h.last in
      reads_each o (codes "xyz") h.history h.last (subst P reads_script h.is_history);
  one = λ o.
      let s = put_in o (codes "a") (codes "xyz") files first_state in
      made_of _ reads_script
      (one_more o first_state s _ ok_line _ _ s in_order (obeys_put o (codes "a") (codes "xyz") files first_state)
      (one_more o s s (Go (Get (codes "a"))) _ _ _ s in_order (record { told_is = refl; same = refl })
      (one_more o s s (Go (Get (codes "b"))) _ _ _ s in_order (record { told_is = refl; same = refl }) (none o s))));
}

-- ---- files are listed

abbrev listed : List ℕ → List ℕ → List Parsed
listed key value = Go (Put key value) ∷ Go Flush ∷ Go Files ∷ []

files_last : (o : Values) (s : State) (history : List Line) (last : State) → IsHistory o s (Go Files ∷ []) history last → told_by history ≡ files_lines last.listing ++ []
files_last o s history last h =
    let a = begins o s _ _ history last h in
    let b = no_more o a.mid a.more last a.rest in
    let same : s.listing ≡ last.listing = ap (λ (t : State). t.listing) (sym (b.1 ∙ a.obeys.same)) in
    a.told_is ∙ ap (λ t. t ++ told_by a.more) a.obeys.told_is ∙ ap (λ l. files_lines l ++ told_by a.more) same ∙ ap (λ ls. files_lines last.listing ++ told_by ls) b.0

listed_each : (o : Values) (key value : List ℕ) (history : List Line) (last : State) → IsHistory o first_state (listed key value) history last
    → told_by history ≡ ok_line ++ (ok_line ++ (files_lines last.listing ++ []))
listed_each o key value history last h =
    let a = begins o first_state _ _ history last h in
    let b = begins o a.mid _ _ a.more last a.rest in
    a.told_is ∙ ap (λ t. t ++ told_by a.more) a.obeys.told_is
    ∙ ap (λ t. ok_line ++ t) (b.told_is ∙ ap (λ t. t ++ told_by b.more) b.obeys.told_is ∙ ap (λ t. ok_line ++ t) (files_last o b.mid b.more last b.rest))

abbrev flushed : State → State
flushed s = record s { waits = false; buffered = 0 }

obeys_flush : (o : Values) (s : State) → Obeys o (Go Flush) s ok_line (flushed s)
obeys_flush o s = record { told_is = refl; job = λ set. set; left = refl }

-- a row of three such lines
listed_row : (script key value told : List ℕ) (files : Listing) → IsInOrder files → orders script ≡ listed key value → ok_line ++ (ok_line ++ (files_lines files ++ [])) ≡ told → TellsRow script files told
listed_row script key value told files in_order is text = record {
  each = λ o h same.
      let P : List Parsed → Type 0 = λ os. IsHistory o first_state os h.history h.last in
      listed_each o key value h.history h.last (subst P is h.is_history) ∙ ap (λ l. ok_line ++ (ok_line ++ (files_lines l ++ []))) same ∙ text;
  one = λ o.
      let s = put_in o key value files first_state in
      let t = flushed s in
      made_of _ is
      (one_more o first_state s (Go (Put key value)) ok_line _ _ t in_order (obeys_put o key value files first_state)
      (one_more o s t (Go Flush) ok_line _ _ t in_order (obeys_flush o s)
      (one_more o t t (Go Files) _ _ _ t in_order (record { told_is = refl; same = refl }) (none o t))));
}

-- one table, with or without a blob file
one_table : (kind size oldest : ℕ) → IsInOrder (flushed_table kind size oldest)
one_table kind size oldest = record { tables = (tt, tt); blobs = tt }

one_blob : (bytes : ℕ) → IsInOrder (with_blob bytes)
one_blob bytes = record { tables = (tt, tt); blobs = (tt, tt) }

no_files : IsInOrder nothing
no_files = record { tables = tt; blobs = tt }

flushed_script : orders (codes "put a =xyz\nflush\nfiles\n") ≡ listed (codes "a") (codes "xyz")
unfolding lines_in parsed words_in percent_decode
flushed_script = refl

inline_script : orders (codes "put a =xy\nflush\nfiles\n") ≡ listed (codes "a") (codes "xy")
unfolding lines_in parsed words_in percent_decode
inline_script = refl

pub flushed_is_listed : FlushedIsListed
unfolding digits
flushed_is_listed = listed_row _ (codes "a") (codes "xyz") _ (with_blob 36) (one_blob 36) flushed_script refl

pub inline_is_listed : InlineIsListed
unfolding digits
inline_is_listed = listed_row _ (codes "a") (codes "xy") _ (flushed_table 1 115 0) (one_table 1 115 0) inline_script refl

none_script : orders (codes "flush\nfiles\n") ≡ Go Flush ∷ Go Files ∷ []
unfolding lines_in parsed words_in
none_script = refl

pub none_are_listed : NoneAreListed
none_are_listed = record {
  each = λ o h same.
      let P : List Parsed → Type 0 = λ os. IsHistory o first_state os h.history h.last in
      let a = begins o first_state _ _ h.history h.last (subst P none_script h.is_history) in
      a.told_is ∙ ap (λ t. t ++ told_by a.more) a.obeys.told_is ∙ ap (λ t. ok_line ++ t) (files_last o a.mid a.more h.last a.rest) ∙ ap (λ l. ok_line ++ (files_lines l ++ [])) same;
  one = λ o.
      let s = first_state in
      made_of _ none_script
      (one_more o s (flushed s) (Go Flush) ok_line _ _ (flushed s) no_files (obeys_flush o s)
      (one_more o (flushed s) (flushed s) (Go Files) _ _ _ (flushed s) no_files (record { told_is = refl; same = refl }) (none o (flushed s))));
}

-- and a value of no byte is read

abbrev listed_and_read : List Parsed
listed_and_read = Go (Put (codes "a") []) ∷ Go Flush ∷ Go Files ∷ Go (Get (codes "a")) ∷ []

empty_script : orders (codes "put a =\nflush\nfiles\nget a\n") ≡ listed_and_read
unfolding lines_in parsed words_in percent_decode
empty_script = refl

read_each : (o : Values) (history : List Line) (last : State) → IsHistory o first_state listed_and_read history last
    → told_by history ≡ ok_line ++ (ok_line ++ (files_lines last.listing ++ (codes "value =\n" ++ [])))
read_each o history last h =
    let a = begins o first_state _ _ history last h in
    let b = begins o a.mid _ _ a.more last a.rest in
    let c = begins o b.mid _ _ b.more last b.rest in
    let d = begins o c.mid _ _ c.more last c.rest in
    let e = no_more o d.mid d.more last d.rest in
    let now : c.mid.now ≡ insert empty (codes "a") [] =
    ap (λ (s : State). s.now) c.obeys.same ∙ ap (λ (s : State). s.now) b.obeys.left ∙ after_put o (codes "a") [] a.line.told a.mid a.obeys in
    let files : b.mid.listing ≡ last.listing = ap (λ (s : State). s.listing) (sym (e.1 ∙ d.obeys.same ∙ c.obeys.same)) in
    let read : d.line.told ≡ codes "value =\n" =
    d.obeys.told_is ∙ ap (λ m. value_line (get m (codes "a"))) now ∙ ap value_line (get-insert nat_list_cmp_total empty (codes "a") [] (codes "a")) in
    a.told_is ∙ ap (λ t. t ++ told_by a.more) a.obeys.told_is
    ∙ ap (λ t. ok_line ++ t) (b.told_is ∙ ap (λ t. t ++ told_by b.more) b.obeys.told_is ∙ ap (λ t. ok_line ++ t)
    (c.told_is ∙ ap (λ t. t ++ told_by c.more) (c.obeys.told_is ∙ ap files_lines files)
    ∙ ap (λ t. files_lines last.listing ++ t) (d.told_is ∙ ap (λ t. t ++ told_by d.more) read ∙ ap (λ ls. codes "value =\n" ++ told_by ls) e.0)))

pub empty_is_read : EmptyIsRead
unfolding digits
empty_is_read = record {
  each = λ o h same.
      let P : List Parsed → Type 0 = λ os. IsHistory o first_state os h.history h.last in
      read_each o h.history h.last (subst P empty_script h.is_history) ∙ ap (λ l. ok_line ++ (ok_line ++ (files_lines l ++ (codes "value =\n" ++ [])))) same;
  one = λ o.
      let files = with_blob 33 in
      let s = put_in o (codes "a") [] files first_state in
      let t = flushed s in
      made_of _ empty_script
      (one_more o first_state s (Go (Put (codes "a") [])) ok_line _ _ t (one_blob 33) (obeys_put o (codes "a") [] files first_state)
      (one_more o s t (Go Flush) ok_line _ _ t (one_blob 33) (obeys_flush o s)
      (one_more o t t (Go Files) _ _ _ t (one_blob 33) (record { told_is = refl; same = refl })
      (one_more o t t (Go (Get (codes "a"))) _ _ _ t (one_blob 33) (record { told_is = refl; same = refl }) (none o t)))));
}

-- ---- memories are switched

abbrev two_puts : List Parsed → List Parsed
two_puts more = Go (Put (codes "a") (codes "1")) ∷ Go (Put (codes "b") (codes "2")) ∷ more

puts_script : orders (codes "put a =1\nput b =2\n") ≡ two_puts []
unfolding lines_in parsed words_in percent_decode
puts_script = refl

puts_flush_script : orders (codes "put a =1\nput b =2\nflush\n") ≡ two_puts (Go Flush ∷ [])
unfolding lines_in parsed words_in percent_decode
puts_flush_script = refl

record AfterTwo (o : Values) (last : State) (given : List Parsed) : Type 0 where
  pub mid : State
  pub first : Obeys o (Go (Put (codes "a") (codes "1"))) first_state ok_line mid
  pub state : State
  pub second : Obeys o (Go (Put (codes "b") (codes "2"))) mid ok_line state
  pub more : List Line
  pub rest : IsHistory o state given more last

after_two : (o : Values) (given : List Parsed) (history : List Line) (last : State) → IsHistory o first_state (two_puts given) history last → AfterTwo o last given
after_two o given history last h =
    let a = begins o first_state _ _ history last h in
    let b = begins o a.mid _ _ a.more last a.rest in
    let P : List ℕ → Type 0 = λ t. Obeys o (Go (Put (codes "a") (codes "1"))) first_state t a.mid in
    let Q : List ℕ → Type 0 = λ t. Obeys o (Go (Put (codes "b") (codes "2"))) a.mid t b.mid in
    record { mid = a.mid; first = subst P a.obeys.told_is a.obeys; state = b.mid; second = subst Q b.obeys.told_is b.obeys; more = b.more; rest = b.rest }

-- after one put nothing waits, where the buffer holds something
after_one : (o : Values) (size : ℕ) (mid : State) → o.write_buffer ≡ size → nat_le size 0 ≡ false → Obeys o (Go (Put (codes "a") (codes "1"))) first_state ok_line mid
    → (mid.waits ≡ false) × (mid.buffered ≡ 10)
after_one o size mid is some w =
    let no : switches o first_state ≡ false = ap (λ n. nat_le n 0) is ∙ some in
    (ap (λ (s : State). s.waits) w.left ∙ ap (λ t. t || false) no, ap (λ (s : State). s.buffered) w.left ∙ ap (λ t. cond t 0 0 + 10) no)

switched : (o : Values) (size : ℕ) (t : Bool) (mid state : State) → o.write_buffer ≡ size → nat_le size 0 ≡ false → nat_le size 10 ≡ t → Obeys o (Go (Put (codes "a") (codes "1"))) first_state ok_line mid
    → Obeys o (Go (Put (codes "b") (codes "2"))) mid ok_line state → (state.waits ≡ (t || false)) × (state.buffered ≡ cond t 0 10 + 10)
switched o size t mid state is some test first second =
    let one = after_one o size mid is some first in
    let yes : switches o mid ≡ t = ap (λ n. nat_le n mid.buffered) is ∙ ap (λ b. nat_le size b) one.1 ∙ test in (
      ap (λ (s : State). s.waits) second.left ∙ ap (λ b. b || mid.waits) yes ∙ ap (λ w. t || w) one.0,
      ap (λ (s : State). s.buffered) second.left ∙ ap (λ b. cond b 0 mid.buffered + 10) yes ∙ ap (λ n. cond t 0 n + 10) one.1,
    )

pub second_put_switches : SecondPutSwitches
second_put_switches = record { full = λ o h is. by_size o h 10 true is refl refl; not_full = λ o h is. by_size o h 11 false is refl refl }
  where
    by_size : (o : Values) (h : HistoryOf o (codes "put a =1\nput b =2\n")) (size : ℕ) (t : Bool) → o.write_buffer ≡ size → nat_le size 0 ≡ false → nat_le size 10 ≡ t
        → (h.last.waits ≡ (t || false)) × (h.last.buffered ≡ cond t 0 10 + 10)
    by_size o h size t is some test =
        let P : List Parsed → Type 0 = λ os. IsHistory o first_state os h.history h.last in
        let two = after_two o [] h.history h.last (subst P puts_script h.is_history) in
        let end = (no_more o two.state two.more h.last two.rest).1 in
        let s = switched o size t two.mid two.state is some test two.first two.second in
        (ap (λ (s : State). s.waits) end ∙ s.0, ap (λ (s : State). s.buffered) end ∙ s.1)

pub flush_empties : FlushEmpties
flush_empties o h =
    let P : List Parsed → Type 0 = λ os. IsHistory o first_state os h.history h.last in
    let two = after_two o (Go Flush ∷ []) h.history h.last (subst P puts_flush_script h.is_history) in
    let f = begins o two.state _ _ two.more h.last two.rest in
    let end = (no_more o f.mid f.more h.last f.rest).1 in
    (ap (λ (s : State). s.waits) (end ∙ f.obeys.left), ap (λ (s : State). s.buffered) (end ∙ f.obeys.left))
