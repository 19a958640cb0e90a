-- Worked cuts that no run may leave.
use Rattle.std.proofs.Common.{◌≡◌, ◌≢◌, ◌⊎◌, inl, inr, ⊎_elim, ℕ, ◌≤◌, List, [], ◌∷◌, ◌++◌, length, take, get_or, codes, None, Some, refl, sym, ◌∙◌, ap, subst, arith, append-nil}
use Rattle.std.specs.FinMap.{get, get-insert}
use Rattle.std.specs.Cmp.Lexicographic.{nat_list_cmp_total}
use Rattle.std.specs.List.{AllByRecursion}
use Rattle.std.proofs.lemmas.List.{append_cancel_left, take_all}
use Rattle.bl_site.specs.Disk.{Name, Folder, Cut}
use Rattle.bl_entry.specs.Batches.{put_of}
use Rattle.bl_entry.specs.Records.{batches_of}
use Rattle.bl_entry.specs.Revisions.{Map, revisions_of, value_at}
use Rattle.bl_records.specs.Chance.{NoChanceMatch}
use Rattle.bl_script.specs.declared.command.Command.TheVariants.{Put, Sync}
use Rattle.bl_script.specs.declared.command.Parsed.{Parsed}
use Rattle.bl_script.specs.declared.command.Parsed.TheVariants.{Go}
use Rattle.bl_script.specs.Printing.{ok_line}
use Rattle.bl_wal.specs.LogFile.{log_name}
use Rattle.bl_logstore.specs.Logs.{HaveBatches, records_up_to, bytes_in}
use Rattle.bl_logstore.specs.Folders.{LogStands}
use Rattle.bl_logstore.specs.Laws.{BatchesAreOnce}
use Rattle.bl_shell.specs.Cuts.{IsErrorFront, CutStands}
use Rattle.bl_shell.specs.Laws.{ToldSyncsAreKept, NoReplyIsBeforeTheBarrier}
use Rattle.bl_shell.specs.Machine.{State, Write, Line, Step, IsHistory, reply_of, writes_of, after_writes, written_by}
use Rattle.bl_shell.specs.Synced.{StandsAfter, whole_within, before_sync, synced}

-- an error line begins with an e
error_begins : (bytes : List ℕ) → IsErrorFront bytes → (bytes ≡ []) ⊎ ((more : List ℕ) × (bytes ≡ 101 ∷ more))
error_begins [] e = inl refl
error_begins (b ∷ bs) e =
    let first : b ≡ 101 = elim e.is_error [ inl corrupt ↦ ap (λ l. get_or l 0 0) (e.whole ∙ corrupt.1.1) | inr full ↦ ap (λ l. get_or l 0 0) (e.whole ∙ full.1) ] in
    inr (bs, ap (λ x. x ∷ bs) first)

no_e : (front more bytes : List ℕ) → front ++ 101 ∷ more ≡ bytes → AllByRecursion (λ b. b ≢ 101) bytes → ⊥
no_e [] more bytes is none = let P : List ℕ → Type 0 = AllByRecursion (λ b. b ≢ 101) in (subst P (sym is) none).0 refl
no_e (b ∷ front) more bytes is none = let P : List ℕ → Type 0 = AllByRecursion (λ x. x ≢ 101) in no_e front more (front ++ 101 ∷ more) refl (subst P (sym is) none).1

pub no_reply_before : NoReplyIsBeforeTheBarrier
no_reply_before may_be folder told more c is before =
    let same : before.error ≡ ok_line ++ more = append_cancel_left told before.error (ok_line ++ more) (sym before.told_is ∙ is) in
    let first : get_or before.error 0 0 ≡ 111 = ap (λ l. get_or l 0 0) same in
    elim (error_begins before.error before.is_error) [
      | inl none ↦ let zero_ : get_or before.error 0 0 ≡ 0 = ap (λ l. get_or l 0 0) none in absurd (omega (arith, first, zero_))
      | inr some ↦ let e : get_or before.error 0 0 ≡ 101 = ap (λ l. get_or l 0 0) some.1 in absurd (omega (arith, first, e))
    ]

-- the two lines
put_order : Parsed
put_order = Go (Put (codes "a") (codes "1"))

put_line : Line
put_line = record { order = Go (Put (codes "a") (codes "1")); wrote = (put_of (codes "a") (codes "1") ∷ []) ∷ []; told = ok_line }

sync_line : Line
sync_line = record { order = Go Sync; wrote = []; told = ok_line }

line_is : (x : Line) (order : Parsed) (old new : State) (told : List ℕ) → x.order ≡ order → reply_of order old.now ≡ told → Step old x new → x ≡ record { order = order; wrote = writes_of order; told = told }
line_is x order old new told is says step =
    let told_is : x.told ≡ told = step.told_is ∙ ap (λ (o : Parsed). reply_of o old.now) is ∙ says in
    let wrote_is : x.wrote ≡ writes_of order = step.wrote_is ∙ ap writes_of is in
    let L : Parsed → List Write → List ℕ → Line = λ o w t. record { order = o; wrote = w; told = t } in
    ap (λ (o : Parsed). L o x.wrote x.told) is ∙ ap (λ w. L order w x.told) wrote_is ∙ ap (λ t. L order (writes_of order) t) told_is

two_lines : (history : List Line) (now : Map) (last : State) → IsHistory now (Go (Put (codes "a") (codes "1")) ∷ Go Sync ∷ []) history last → history ≡ put_line ∷ sync_line ∷ []
unfolding put_line sync_line
two_lines [] now last h = absurd (cc h.orders_are)
two_lines (x ∷ []) now last h = absurd (cc h.orders_are)
two_lines (x ∷ y ∷ z ∷ more) now last h = absurd (cc h.orders_are)
two_lines (x ∷ y ∷ []) now last h =
    let first : x.order ≡ Go (Put (codes "a") (codes "1")) = cc h.orders_are in
    let second : y.order ≡ Go Sync = cc h.orders_are in
    let one : x ≡ put_line = line_is x (Go (Put (codes "a") (codes "1"))) (record { now = now }) h.runs.0 ok_line first refl h.runs.1 in
    let two : y ≡ sync_line = line_is y (Go Sync) h.runs.0 h.runs.2.0 ok_line second refl h.runs.2.1 in
    ap (λ l. l ∷ y ∷ []) one ∙ ap (λ l. put_line ∷ l ∷ []) two

one_synced : synced 6 (put_line ∷ sync_line ∷ []) ≡ 1
unfolding put_line sync_line whole_within before_sync
one_synced = refl

one_written : written_by (put_line ∷ sync_line ∷ []) ≡ (put_of (codes "a") (codes "1") ∷ []) ∷ []
unfolding put_line sync_line
one_written = refl

has_key : (m : Map) → get (after_writes ((put_of (codes "a") (codes "1") ∷ []) ∷ []) m) (codes "a") ≡ Some (codes "1")
unfolding after_writes
has_key m = get-insert nat_list_cmp_total m (codes "a") (codes "1") (codes "a")

-- no file, no batch
empty_folder : (folder : Folder) → ((name : Name) → folder name ≡ None) → HaveBatches folder [] 0
unfolding records_up_to batches_of
empty_folder folder none = record { top = 0; is_number = omega arith; no_more = λ number above below. ap bytes_in (none (log_name number)); are = refl }

empty_map : BatchesAreOnce → (folder : Folder) (m : Map) → ((name : Name) → folder name ≡ None) → LogStands folder m → get m (codes "a") ≡ None
empty_map once folder m none s =
    let same : s.batches ≡ [] = (once folder s.batches [] s.last 0 s.stands.have (empty_folder folder none)).0 in
    s.map_is (codes "a") ∙ ap (λ bs. value_at (revisions_of bs) s.last (codes "a")) same

not_empty : BatchesAreOnce → (folder : Folder) (now : Map) (writes : List Write) → ((name : Name) → folder name ≡ None) → writes ≡ (put_of (codes "a") (codes "1") ∷ []) ∷ [] → LogStands folder (after_writes writes now) → ⊥
not_empty once folder now writes none is s =
    let P : List Write → Type 0 = λ ws. LogStands folder (after_writes ws now) in
    let there : Some (codes "1") ≡ None = sym (has_key now) ∙ empty_map once folder _ none (subst P is s) in
    cc there

stands_not : BatchesAreOnce → (c : Cut) → c.told ≡ ok_line ++ ok_line → ((name : Name) → c.folder name ≡ None) → CutStands (λ _. None) (Go (Put (codes "a") (codes "1")) ∷ Go Sync ∷ []) [] c → ⊥
stands_not once c told none s =
    let all : s.replied ++ s.error ≡ ok_line ++ ok_line = sym s.told_is ∙ told in
    let letters : AllByRecursion (λ b. b ≢ 101) (ok_line ++ ok_line) = (λ e. omega (arith, e), (λ e. omega (arith, e), (λ e. omega (arith, e), (λ e. omega (arith, e), (λ e. omega (arith, e), (λ e. omega (arith, e), tt)))))) in
    elim (error_begins s.error s.is_error) [
      | inr some ↦ no_e s.replied some.0 (ok_line ++ ok_line) (ap (λ e. s.replied ++ e) (sym some.1) ∙ all) letters
      | inl nothing ↦
          let k = s.stands in
          let replied : s.replied ≡ ok_line ++ ok_line = sym (append-nil s.replied) ∙ ap (λ e. s.replied ++ e) (sym nothing) ∙ all in
          let size : length k.replies ≡ 6 = ap length (sym k.told_is ∙ replied) in
          let chance : NoChanceMatch c.folder c.written = record { logs = λ n is bytes there. absurd (cc (there, none _)); manifests = λ n is bytes there. absurd (cc (there, none _)) } in
          let after : StandsAfter c.folder s.began k.history (length k.replies) = k.stands chance in
          let lines : k.history ≡ put_line ∷ sync_line ∷ [] = two_lines k.history s.began.now k.last k.is_history in
          let count : synced (length k.replies) k.history ≡ 1 = ap (λ n. synced n k.history) size ∙ ap (synced 6) lines ∙ one_synced in
          let some : 1 ≤ after.writes = omega (arith, count, after.at_least) in
          let written : written_by k.history ≡ (put_of (codes "a") (codes "1") ∷ []) ∷ [] = ap written_by lines ∙ one_written in
          let short : length (written_by k.history) ≤ after.writes = omega (arith, some, ap length written) in
          not_empty once c.folder s.began.now (take after.writes (written_by k.history)) none (take_all after.writes (written_by k.history) short ∙ written) after.stands
    ]

pub syncs_kept : BatchesAreOnce → ToldSyncsAreKept
syncs_kept once may_be c told none cut = ⊎_elim (no_reply_before may_be (λ _. None) [] ok_line c told) (stands_not once c told none) cut
