-- Worked cuts and runs that are none.
use Rattle.std.proofs.Common.{◌≡◌, ◌≢◌, ◌⊎◌, inl, inr, ⊎_elim, ℕ, ◌≤◌, List, [], ◌∷◌, ◌++◌, length, get_or, None, Some, refl, sym, ◌∙◌, ap, subst, arith, append-nil, length-append}
use Rattle.std.specs.Prelude.{codes}
use Rattle.std.specs.FinMap.{empty, get, get-empty, get-insert}
use Rattle.std.specs.Cmp.Lexicographic.{nat_list_cmp_total}
use Rattle.std.specs.List.{AllByRecursion}
use Rattle.std.specs.Fmt.{digits}
use Rattle.std.proofs.lemmas.List.{append_cancel_left, take_all}
use Rattle.percent_encoding.specs.Percent.{percent_decode}
use Rattle.bl_site.specs.Disk.{Cut, Folder, Name, folder_of}
use Rattle.bl_names.specs.declared.name.FileName.TheVariants.{Current}
use Rattle.bl_names.specs.Names.{name_of}
use Rattle.bl_edit.specs.Options.{Values}
use Rattle.bl_build.specs.Listing.{nothing}
use Rattle.bl_entry.specs.Batches.{put_of}
use Rattle.bl_entry.specs.Revisions.{Map}
use Rattle.bl_folder.specs.Laws.{StandsForOne}
use Rattle.bl_folder.specs.Live.{IsFresh}
use Rattle.bl_folder.specs.Stands.{Stands, StandsLive}
use Rattle.bl_open.specs.Options.{Words}
use Rattle.bl_records.specs.Chance.{NoChanceMatch}
use Rattle.bl_script.specs.declared.command.Command.TheVariants.{Put, Sync}
use Rattle.bl_script.specs.declared.command.Parsed.{Parsed}
use Rattle.bl_script.specs.declared.command.Parsed.TheVariants.{Go}
use Rattle.bl_script.specs.Lines.{lines_in, whole_lines_in, words_in}
use Rattle.bl_script.specs.Parsing.{parsed}
use Rattle.bl_script.specs.Printing.{ok_line}
use Rattle.bl_machine.specs.Writes.{Write, after_writes}
use Rattle.bl_machine.specs.State.{State, start}
use Rattle.bl_machine.specs.Step.{Line, Obeys, Step, writes_of}
use Rattle.bl_machine.specs.History.{IsHistory, Runs, map_after, orders, orders_of, told_by, whole_orders, written_by}
use Rattle.bl_machine.specs.Synced.{before_sync, begun, synced, whole_within}
use Rattle.bl_machine.proofs.HistoryLemmas.{maps_follow, order_stays}
use Rattle.bl_machine.specs.Rows.{PutIsRead}
use Rattle.bl_promise.specs.Cuts.{CutStands, IsErrorFront, StandsAfter, told_only}
use Rattle.bl_promise.specs.Start.{IsStartOf, Start}
use Rattle.bl_promise.specs.Refuted.{CountsRow, EmptyScriptRow, ErrorLinesRow, NoReplyIsBeforeTheBarrier, NoReplyIsLeftOut, NoReplyIsToldTwice, PutIsReadRow, SkippedSyncsAreSeen, ToldSyncsAreKept, WritesAreNotKeptBack}

-- ---- an error line begins with an e

error_begins : (bytes : List ℕ) → IsErrorFront bytes → (bytes ≡ []) ⊎ ((more : List ℕ) × (bytes ≡ 101 ∷ more))
error_begins [] e = inl refl
error_begins (b ∷ bs) e =
    let first : b ≡ 101 = ⊎_elim (λ corrupt. ap (λ l. get_or l 0 0) (e.whole ∙ corrupt.1.1)) (λ more. ⊎_elim (λ full. ap (λ l. get_or l 0 0) (e.whole ∙ full.1)) (λ differ. ap (λ l. get_or l 0 0) (e.whole ∙ differ.1.1.1)) more) e.is_error in
    inr (bs, ap (λ x. x ∷ bs) first)

no_e : (front more bytes : List ℕ) → front ++ 101 ∷ more ≡ bytes → AllByRecursion (λ b. b ≢ 101) bytes → ⊥
no_e [] more bytes is none = let P : List ℕ → Type 0 = AllByRecursion (λ b. b ≢ 101) in (subst P (sym is) none).0 refl
no_e (b ∷ front) more bytes is none = let P : List ℕ → Type 0 = AllByRecursion (λ x. x ≢ 101) in no_e front more (front ++ 101 ∷ more) refl (subst P (sym is) none).1

pub no_reply_before : NoReplyIsBeforeTheBarrier
no_reply_before may_be folder told more c is before =
    let same : before.error ≡ ok_line ++ more = append_cancel_left told before.error (ok_line ++ more) (sym before.told_is ∙ is) in
    let first : get_or before.error 0 0 ≡ 111 = ap (λ l. get_or l 0 0) same in
    elim (error_begins before.error before.is_error) [
      | inl none ↦ let zero_ : get_or before.error 0 0 ≡ 0 = ap (λ l. get_or l 0 0) none in absurd (omega (arith, first, zero_))
      | inr some ↦ let e : get_or before.error 0 0 ≡ 101 = ap (λ l. get_or l 0 0) some.1 in absurd (omega (arith, first, e))
    ]

-- ---- the lines of the scripts

one_put : List Write
one_put = (put_of (codes "a") (codes "1") ∷ []) ∷ []

-- what the line `put a =1` tells and writes
record IsPut (line : Line) : Type 0 where
  pub told : line.told ≡ ok_line
  pub wrote : line.wrote ≡ one_put

put_is : (o : Values) (line : Line) (old new : State) → line.order ≡ Go (Put (codes "a") (codes "1")) → Step o old line new → IsPut line
unfolding one_put
put_is o line old new is step =
    let obeys : Obeys o (Go (Put (codes "a") (codes "1"))) old line.told new = subst (λ (p : Parsed). Obeys o p old line.told new) is step.obeys in
    record { told = obeys.told_is; wrote = step.wrote_is ∙ ap (writes_of old) is }

sync_tells : (o : Values) (line : Line) (old new : State) → line.order ≡ Go Sync → Step o old line new → (line.told ≡ ok_line) × (line.wrote ≡ [])
sync_tells o line old new is step =
    let obeys : Obeys o (Go Sync) old line.told new = subst (λ (p : Parsed). Obeys o p old line.told new) is step.obeys in
    (obeys.told_is, step.wrote_is ∙ ap (writes_of old) is)

-- what the map after it has
has_key : (m : Map) → get (after_writes one_put m) (codes "a") ≡ Some (codes "1")
unfolding one_put after_writes
has_key m = get-insert nat_list_cmp_total m (codes "a") (codes "1") (codes "a")

not_empty : (m n : Map) → n ≡ after_writes one_put m → n ≡ empty → ⊥
not_empty m n is none =
    let there : Some (codes "1") ≡ None = sym (has_key m) ∙ ap (λ (x : Map). get x (codes "a")) (sym is ∙ none) ∙ get-empty _ (codes "a") in
    cc there

-- ---- told syncs are kept

-- both lines were told, so the history has them both, and no other
record HasBoth (history : List Line) : Type 0 where
  pub written : written_by history ≡ one_put
  pub synced_one : synced 6 history ≡ 1

line_is : (x : Line) (order : Parsed) (wrote : List Write) (told : List ℕ) → x.order ≡ order → x.wrote ≡ wrote → x.told ≡ told → x ≡ record { order = order; wrote = wrote; told = told }
line_is x order wrote told ordered written says =
    let L : Parsed → List Write → List ℕ → Line = λ o w t. record { order = o; wrote = w; told = t } in
    ap (λ (o : Parsed). L o x.wrote x.told) ordered ∙ ap (λ w. L order w x.told) written ∙ ap (λ t. L order wrote t) says

put_line : Line
put_line = record { order = Go (Put (codes "a") (codes "1")); wrote = (put_of (codes "a") (codes "1") ∷ []) ∷ []; told = ok_line }

sync_line : Line
sync_line = record { order = Go Sync; wrote = []; told = ok_line }

one_synced : synced 6 (put_line ∷ sync_line ∷ []) ≡ 1
unfolding put_line sync_line whole_within before_sync
one_synced = refl

one_written : written_by (put_line ∷ sync_line ∷ []) ≡ one_put
unfolding put_line sync_line one_put
one_written = refl

both_counted : (x y : Line) → x.order ≡ Go (Put (codes "a") (codes "1")) → y.order ≡ Go Sync → IsPut x → y.told ≡ ok_line → y.wrote ≡ [] → HasBoth (x ∷ y ∷ [])
unfolding put_line sync_line one_put
both_counted x y first second p told wrote =
    let one : x ≡ put_line = line_is x (Go (Put (codes "a") (codes "1"))) ((put_of (codes "a") (codes "1") ∷ []) ∷ []) ok_line first p.wrote p.told in
    let two : y ≡ sync_line = line_is y (Go Sync) [] ok_line second wrote told in
    let same : x ∷ y ∷ [] ≡ put_line ∷ sync_line ∷ [] = ap (λ l. l ∷ y ∷ []) one ∙ ap (λ l. put_line ∷ l ∷ []) two in
    record { written = ap written_by same ∙ one_written; synced_one = ap (synced 6) same ∙ one_synced }

two_lines : (o : Values) (s last : State) (history : List Line) (rest : List Parsed) → orders_of history ++ rest ≡ Go (Put (codes "a") (codes "1")) ∷ Go Sync ∷ [] → Runs o s history last → 6 ≤ length (told_by history) → HasBoth history
two_lines o s last [] rest e runs long = absurd (omega (arith, long))
two_lines o s last (x ∷ []) rest e (mid, step, done) long =
    let first : x.order ≡ Go (Put (codes "a") (codes "1")) = cc e in
    let p = put_is o x s mid first step in
    absurd (omega (arith, long, ap length (append-nil x.told ∙ p.told)))
two_lines o s last (x ∷ y ∷ []) rest e (mid, step, (between, next, done)) long =
    let first : x.order ≡ Go (Put (codes "a") (codes "1")) = cc e in
    let second : y.order ≡ Go Sync = cc e in
    let t = sync_tells o y mid between second next in
    both_counted x y first second (put_is o x s mid first step) t.0 t.1
two_lines o s last (x ∷ y ∷ z ∷ more) rest e runs long = absurd (cc e)

no_file_live : (folder : Folder) (m : Map) → ((name : Name) → folder name ≡ None) → StandsLive folder m → ⊥
no_file_live folder m none s = let is = s.holds.live.current in let none_there : folder (name_of Current) ≡ None = none (name_of Current) in cc (none_there, is)

one_long : length one_put ≡ 1
unfolding one_put
one_long = refl

stands_not : (c : Cut) (began : Start) (history : List Line) → ((name : Name) → c.folder name ≡ None) → HasBoth history → StandsAfter c began history 6 → ⊥
stands_not c began history none h s =
    let some : 1 ≤ s.writes = omega (arith, h.synced_one, s.at_least) in
    let short : length (written_by history) ≤ s.writes = omega (arith, some, ap length h.written, one_long) in
    let all : map_after s.writes history began.now ≡ after_writes one_put began.now = ap (λ ws. after_writes ws began.now) (take_all s.writes (written_by history) short ∙ h.written) in
    ⊎_elim (λ fresh. not_empty began.now (map_after s.writes history began.now) all fresh.1) (λ live. no_file_live c.folder (map_after s.writes history began.now) none live.stands) s.left

stands_none : (c : Cut) (words : Words) → c.told ≡ ok_line ++ ok_line → ((name : Name) → c.folder name ≡ None)
    → CutStands (λ _. None) words (Go (Put (codes "a") (codes "1")) ∷ Go Sync ∷ []) [] c → ⊥
stands_none c words told none s =
    let k = s.cut in
    let all : k.replied ++ k.error ≡ ok_line ++ ok_line = sym k.told_is ∙ told in
    let letters : AllByRecursion (λ b. b ≢ 101) (ok_line ++ ok_line) = (λ e. omega (arith, e), (λ e. omega (arith, e), (λ e. omega (arith, e), (λ e. omega (arith, e), (λ e. omega (arith, e), (λ e. omega (arith, e), tt)))))) in
    elim (error_begins k.error k.is_error) [
      | inr some ↦ no_e k.replied some.0 (ok_line ++ ok_line) (ap (λ e. k.replied ++ e) (sym some.1) ∙ all) letters
      | inl nothing ↦
          let replied : k.replied ≡ ok_line ++ ok_line = sym (append-nil k.replied) ∙ ap (λ e. k.replied ++ e) (sym nothing) ∙ all in
          let cut = k.cut in
          let size : length cut.replies ≡ 6 = ap length (sym cut.told_is ∙ replied) in
          let long : 6 ≤ length (told_by s.of.history) = omega (arith, size, length-append cut.replies cut.more, ap length cut.replies_are) in
          let chance : NoChanceMatch c.folder c.written = record { logs = λ n is bytes there. absurd (cc (there, none _)); manifests = λ n is bytes there. absurd (cc (there, none _)) } in
          let after : StandsAfter (told_only k.replied c) s.of.began s.of.history (length cut.replies) = cut.stands chance in
          stands_not (told_only k.replied c) s.of.began s.of.history none (two_lines s.of.began.options _ s.of.last s.of.history s.of.is_front.rest s.of.is_front.orders_are s.of.is_front.runs long)
          (subst (StandsAfter (told_only k.replied c) s.of.began s.of.history) size after)
    ]

pub syncs_kept : ToldSyncsAreKept
syncs_kept words may_be c told none cut = ⊎_elim (no_reply_before may_be (λ _. None) [] ok_line c told) (stands_none c words told none) cut

-- ---- writes are not kept back

put_script : orders (codes "put a =1\n") ≡ Go (Put (codes "a") (codes "1")) ∷ []
unfolding lines_in parsed words_in percent_decode
put_script = refl

put_whole : whole_orders (codes "put a =1\n") ≡ Go (Put (codes "a") (codes "1")) ∷ []
unfolding whole_lines_in parsed words_in percent_decode
put_whole = refl

-- a history of the one line
record HasPut (o : Values) (s last : State) (history : List Line) : Type 0 where
  pub now_is : last.now ≡ after_writes one_put s.now
  pub told : told_by history ≡ ok_line

one_line : (o : Values) (s last : State) (history : List Line) → orders_of history ≡ Go (Put (codes "a") (codes "1")) ∷ [] → Runs o s history last → HasPut o s last history
one_line o s last [] e runs = absurd (cc e)
one_line o s last (x ∷ []) e (mid, step, done) =
    let first : x.order ≡ Go (Put (codes "a") (codes "1")) = cc e in
    let p = put_is o x s mid first step in
    record { now_is = maps_follow o s (x ∷ []) last (mid, step, done) ∙ ap (λ ws. after_writes ws s.now) (append-nil x.wrote ∙ p.wrote); told = append-nil x.told ∙ p.told }
one_line o s last (x ∷ y ∷ more) e runs = absurd (cc e)

pub not_kept_back : StandsForOne → WritesAreNotKeptBack
not_kept_back one words disk after empty_after t =
    let of = t.obeyed.of in
    let all : t.taken ≡ codes "put a =1\n" = sym (append-nil t.taken) ∙ t.rest in
    let p = one_line of.began.options _ of.last of.history (of.is_history.orders_are ∙ ap whole_orders all ∙ put_whole) of.is_history.runs in
    not_empty of.began.now of.last.now p.now_is (one (folder_of after) of.last.now empty t.obeyed.leaves.stands empty_after)

pub not_told_twice : NoReplyIsToldTwice
not_told_twice words disk after h =
    let of = h.obeyed.of in
    let p = one_line of.began.options _ of.last of.history (of.is_history.orders_are ∙ put_script) of.is_history.runs in
    let same : ok_line ++ ok_line ≡ ok_line = h.obeyed.told_is ∙ p.told in
    absurd (omega (arith, ap length same))

pub not_left_out : NoReplyIsLeftOut
not_left_out words disk after h =
    let of = h.obeyed.of in
    let p = one_line of.began.options _ of.last of.history (of.is_history.orders_are ∙ put_script) of.is_history.runs in
    let same : [] ≡ ok_line = h.obeyed.told_is ∙ p.told in
    absurd (omega (arith, ap length same))

-- ---- logs

pub skipped_seen : SkippedSyncsAreSeen
skipped_seen disk manifest live lower upper x is_live is_number needed less there handed some whole =
    handed (whole manifest live is_live lower upper is_number (omega (arith, needed)) less some x there).handed

-- ---- rows

-- on a fresh folder a run begins with the empty map, and no files
record BeginsEmpty (began : Start) : Type 0 where
  pub now : began.now ≡ empty
  pub files : began.listing ≡ nothing

begins_empty : (folder : Folder) (words : Words) (began : Start) → IsFresh folder → IsStartOf folder words began → BeginsEmpty began
begins_empty folder words began fresh b =
    ⊎_elim (λ f. record { now = f.now_is; files = f.listing_is })
    (λ live. let is = live.stands.holds.live.current in absurd (cc (fresh.current, is))) b.on

empty_script : orders [] ≡ []
unfolding lines_in
empty_script = refl

no_line : (o : Values) (s last : State) (history : List Line) → orders_of history ≡ [] → Runs o s history last → (told_by history ≡ []) × (last ≡ s)
no_line o s last [] e runs = (refl, runs)
no_line o s last (x ∷ more) e runs = absurd (cc e)

pub empty_row : EmptyScriptRow
empty_row words disk after told fresh h =
    let of = h.obeyed.of in
    let b = begins_empty (folder_of disk) words of.began fresh of.begins in
    let p = no_line of.began.options _ of.last of.history (of.is_history.orders_are ∙ empty_script) of.is_history.runs in
    (h.obeyed.told_is ∙ p.0, subst (Stands (folder_of after)) (ap (λ (x : State). x.now) p.1 ∙ b.now) h.obeyed.leaves.stands)

pub read_row : PutIsRead → PutIsReadRow
read_row law words disk after told fresh h =
    let of = h.obeyed.of in
    let b = begins_empty (folder_of disk) words of.began fresh of.begins in
    let first : start of.began.now of.began.listing ≡ start empty nothing = ap (λ m. start m of.began.listing) b.now ∙ ap (start empty) b.files in
    let history = subst (λ (x : State). IsHistory of.began.options x (orders (codes "put a =xyz\nget a\nget b\n")) of.history of.last) first of.is_history in
    let in_order = order_stays of.began.options (start of.began.now of.began.listing) of.history of.last of.begins.in_order of.is_history.runs in
    h.obeyed.told_is ∙ (law of.last.listing in_order).each of.began.options (record { history = of.history; last = of.last; is_history = history }) refl

pub counts_row : CountsRow
unfolding whole_within before_sync begun
counts_row = record { synced = refl; begun = refl }

pub error_lines_row : ErrorLinesRow
unfolding digits
error_lines_row = record { corrupt = refl; full = refl; differ = refl; last = refl }
