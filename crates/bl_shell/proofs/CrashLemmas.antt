-- The cuts of a whole run.
use Rattle.std.proofs.Common.{◌≡◌, inl, inr, arith, ℕ, ◌≤◌, List, [], ◌++◌, take, drop, Option, None, Some, refl, sym, ◌∙◌, ap, subst, append-nil}
use Rattle.std.specs.Option.{option_map}
use Rattle.std.proofs.lemmas.List.{take-append-drop}
use Rattle.bl_site.specs.Disk.{Name, File, Folder, Disk, Cut, IsRemnant, IsLeft, IsCut, MayLeave, folder_of}
use Rattle.bl_site.specs.Calls.{LeavesOnly, Tells}
use Rattle.bl_site.proofs.Moments.{started, joins, widened}
use Rattle.bl_script.specs.declared.command.Parsed.{Parsed}
use Rattle.bl_logstore.specs.Cuts.{BeforeBarrier, FindsOpened}
use Rattle.bl_logstore.specs.Laws.{CutsStand, BatchesMakeMap}
use Rattle.bl_logstore.specs.Stored.{HasNextLog, IsOpened}
use Rattle.bl_logstore.proofs.BehindLemmas.{finds_no_next, no_call_no_new}
use Rattle.bl_shell.specs.Machine.{Start}
use Rattle.bl_shell.specs.declared.stop.Stop.{Stop}
use Rattle.bl_shell.specs.declared.stop.Stop.TheVariants as stop
use Rattle.bl_shell.specs.declared.status.Status.{Status}
use Rattle.bl_shell.specs.declared.status.Status.TheVariants.{Full}
use Rattle.bl_shell.specs.Causes.{MayEnd, EndsAs, status_of}
use Rattle.bl_shell.specs.Cuts.{IsErrorFront, told_only, CutOfRun, CutInRun, CutPast, CutStands, FromSomeMoment, HasStopped, Stops, StopsRun, TellsError, as_it_reads, given_before}
use Rattle.bl_shell.specs.Synced.{CutOf}
use Rattle.bl_shell.specs.Telling.{IsStartOf, corrupt_line, full_line}
use Rattle.bl_shell.proofs.CarriedLemmas.{cut_at_start}
use Rattle.bl_shell.proofs.CutLemmas.{cut_of_more}
use Rattle.bl_shell.proofs.TopLemmas.{began_of, begins_open, starts_open}

abbrev no_error : IsErrorFront []
no_error = record { line = full_line 0; is_error = inr (0, refl); rest = full_line 0; whole = refl }

-- nothing of an error line, or a front of it
pub corrupt_error : (name : Name) (place count : ℕ) → IsErrorFront (take count (corrupt_line name place))
corrupt_error name place count = record { line = corrupt_line name place; is_error = inl (name, (place, refl)); rest = drop count (corrupt_line name place); whole = take-append-drop count (corrupt_line name place) }

pub full_error : (limit count : ℕ) → IsErrorFront (take count (full_line limit))
full_error limit count = record { line = full_line limit; is_error = inr (limit, refl); rest = drop count (full_line limit); whole = take-append-drop count (full_line limit) }

pub as_read : (o : Option File) → ((file : File) → o ≡ Some file → IsRemnant file file.read) → IsLeft o (option_map (λ (file : File). file.read) o)
as_read None remnant = tt
as_read (Some file) remnant = remnant file refl

-- before the first call
pub before_calls : (folder : Folder) (may_be : Disk → Type 0) (told : List ℕ) (c : Cut) → MayLeave may_be told c → BeforeBarrier folder may_be told c
before_calls folder may_be told c leaves = record {
  told_is = leaves.is_cut.told_is;
  found = c.folder;
  was = (leaves.disk, leaves.possible, leaves.is_cut.image);
  perhaps = inl refl;
}

past_with_error : (folder : Folder) (given : List Parsed) (told replied error : List ℕ) (c : Cut) → IsErrorFront error → c.told ≡ replied ++ error → CutPast folder given told (told_only replied c) → CutStands folder given told c
past_with_error folder given told replied error c is says (began, begins, of) = record { began = began; begins = begins; replied = replied; error = error; is_error = is; told_is = says; stands = of }

-- what is told more is a front of an error line
with_error : (may_be : Disk → Type 0) (folder : Folder) (given : List Parsed) (told replied error : List ℕ) (c : Cut) → IsErrorFront error → c.told ≡ replied ++ error
    → CutInRun may_be folder given told (told_only replied c) → CutOfRun may_be folder given told c
with_error may_be folder given told replied error c is says (inl b) =
    inl (record { error = error; is_error = is; told_is = says ∙ ap (λ t. t ++ error) b.told_is; before = record { told_is = refl; found = b.found; was = b.was; perhaps = b.perhaps } })
with_error may_be folder given told replied error c is says (inr past) = inr (past_with_error folder given told replied error c is says past)

pub no_error_yet : (may_be : Disk → Type 0) (folder : Folder) (given : List Parsed) (told : List ℕ) (c : Cut) → CutInRun may_be folder given told c → CutOfRun may_be folder given told c
no_error_yet may_be folder given told c cut = with_error may_be folder given told c.told [] c no_error (sym (append-nil c.told)) cut

-- a cut that finds the disk as after an opening that ended well
pub opened_cut : CutsStand → BatchesMakeMap → (folder : Folder) (given : List Parsed) (told : List ℕ) (c : Cut) → FindsOpened folder told c → CutPast folder given told c
opened_cut law makes folder given told c f =
    let store = f.opened.store in
    let o = f.opened.opens in
    let began = began_of folder store f.disk o in
    (began, begins_open folder store f.disk o makes, cut_of_more began [] given told c (cut_at_start law makes began folder store f.disk told c (starts_open folder store f.disk o f.opened.usable) f.is_cut))

module _ {D : Type 0} (clock : D → ℕ) (left_since : D → ℕ → Cut → Type 0) (told : D → List ℕ) (may_be : D → Disk → Type 0) where
  -- no call was made
  pub unopened : (site : D) (folder : Folder) (given : List Parsed) → ((c : Cut) → left_since site (clock site) c → MayLeave (may_be site) (told site) c)
      → LeavesOnly clock left_since site site (CutInRun (may_be site) folder given (told site))
  unopened site folder given now = started clock left_since site (CutInRun (may_be site) folder given (told site)) (λ c left. inl (before_calls folder (may_be site) (told site) c (now c left)))

  pub untouched : (site : D) (folder : Folder) (given : List Parsed) → ((c : Cut) → left_since site (clock site) c → MayLeave (may_be site) (told site) c)
      → LeavesOnly clock left_since site site (CutOfRun (may_be site) folder given (told site))
  untouched site folder given now = widened clock left_since site site _ _ (λ c cut. no_error_yet (may_be site) folder given (told site) c cut) (unopened site folder given now)

  -- the opening, and the lines behind it
  pub opened_then : (old mid new : D) (folder : Folder) (given : List Parsed) (began : Start) → IsStartOf folder began
      → LeavesOnly clock left_since old mid (BeforeBarrier folder (may_be old) (told old)) → LeavesOnly clock left_since mid new (CutOf began given (told mid)) → told mid ≡ told old
      → LeavesOnly clock left_since old new (CutInRun (may_be old) folder given (told old))
  opened_then old mid new folder given began begins first second same =
      let P : Cut → Type 0 = CutInRun (may_be old) folder given (told old) in
      let Q : List ℕ → Cut → Type 0 = λ t c. CutOf began given t c in
      joins clock left_since old mid new P (widened clock left_since old mid _ P (λ c b. inl b) first)
      (widened clock left_since mid new _ P (λ c o. inr (began, begins, (let R : List ℕ → Type 0 = λ t. Q t c in subst R same o))) second)

  pub opened_stops : (old mid new : D) (folder after : Folder) (script : List ℕ) (limit : ℕ) → LeavesOnly clock left_since old mid (BeforeBarrier folder (may_be old) (told old))
      → Stops folder after script (told mid) (told new) limit (LeavesOnly clock left_since mid new) → told mid ≡ told old
      → StopsRun (may_be old) folder after script (told old) (told new) limit (LeavesOnly clock left_since old new)
  opened_stops old mid new folder after script limit first s same = record {
    replies = s.replies;
    full = inr s.passes;
    told_is = s.told_is ∙ ap (λ t. t ++ s.replies) same;
    cuts = opened_then old mid new folder _ s.passes.began s.passes.begins first s.cuts same;
  }

  -- what reads is one of the things that a cut leaves
  pub reads_since : (disk : D → Disk) (old new : D) (P : Cut → Type 0) → LeavesOnly clock left_since old new P → may_be new (disk new) → ((name : Name) (file : File) → disk new name ≡ Some file → IsRemnant file file.read)
      → ((t : ℕ) (c : Cut) → t ≤ clock new → MayLeave (may_be new) (told new) c → left_since new t c) → left_since new (clock old) (as_it_reads (disk new) (told new))
  reads_since disk old new P leaves reads remnant counts = counts (clock old) (as_it_reads (disk new) (told new)) leaves.later (record {
    disk = disk new;
    possible = reads;
    is_cut = record { image = λ name. as_read (disk new name) (remnant name); told_is = refl; written_is = λ name. refl };
  })

  -- no line is told
  pub silent : (site : D) → ((c : Cut) → left_since site (clock site) c → MayLeave (may_be site) (told site) c) → LeavesOnly clock left_since site site (TellsError (may_be site) (told site))
  silent site now = started clock left_since site (TellsError (may_be site) (told site))
      (λ c left. let P : List ℕ → Type 0 = λ t. MayLeave (may_be site) t c in record { error = []; is_error = no_error; leaves = subst P (sym (append-nil (told site))) (now c left) })

  -- the opening, from which on every cut is one of the lines behind it
  pub opened_past : (old mid new : D) (folder : Folder) (given : List Parsed) (began : Start) → IsStartOf folder began → clock old ≤ clock mid → LeavesOnly clock left_since mid new (CutOf began given (told mid)) → told mid ≡ told old
      → FromSomeMoment clock left_since old new (CutPast folder given (told old))
  opened_past old mid new folder given began begins later leaves same = record {
    moment = clock mid;
    not_before = later;
    not_after = leaves.later;
    each = λ c left. (began, begins, (let R : List ℕ → Type 0 = λ t. CutOf began given t c in subst R same (leaves.each c left)));
  }

  -- an opening that made the next log
  pub failed_behind : CutsStand → BatchesMakeMap → (old new : D) (folder : Folder) (given : List Parsed) → LeavesOnly clock left_since old new (λ c. HasNextLog folder c.written → FindsOpened folder (told old) c)
      → LeavesOnly clock left_since old new (λ c. HasNextLog folder c.written → CutPast folder given (told old) c)
  failed_behind law makes old new folder given leaves = widened clock left_since old new _ _ (λ c opened next. opened_cut law makes folder given (told old) c (opened next)) leaves

  pub unended_behind : (old new : D) (folder : Folder) (given : List Parsed) → LeavesOnly clock left_since old new (λ c. HasNextLog folder c.written → CutPast folder given (told old) c)
      → LeavesOnly clock left_since old new (λ c. HasNextLog folder c.written → CutStands folder given (told old) c)
  unended_behind old new folder given leaves =
      widened clock left_since old new _ _ (λ c past next. past_with_error folder given (told old) c.told [] c no_error (sym (append-nil c.told)) (past next)) leaves

  -- a disk as after an opening that ended well: what a cut may leave now
  pub opened_now : CutsStand → BatchesMakeMap → (disk : D → Disk) (old new : D) (folder : Folder) (given : List Parsed) → IsOpened folder (disk new) → clock old ≤ clock new → told new ≡ told old
      → ((c : Cut) → left_since new (clock new) c → IsCut (disk new) (told new) c) → FromSomeMoment clock left_since old new (CutPast folder given (told old))
  opened_now law makes disk old new folder given opened later same now = record {
    moment = clock new;
    not_before = later;
    not_after = omega arith;
    each = λ c left.
        let Q : List ℕ → Type 0 = λ t. IsCut (disk new) t c in
        opened_cut law makes folder given (told old) c (record { disk = disk new; opened = opened; is_cut = subst Q same (now c left) });
  }

  -- no call was made: no cut finds the next log
  pub unopened_behind : (disk : D → Disk) (site : D) (Q : Cut → Type 0) → ((other : Disk) → may_be site other → other ≡ disk site) → ((c : Cut) → left_since site (clock site) c → MayLeave (may_be site) (told site) c)
      → LeavesOnly clock left_since site site (λ c. HasNextLog (folder_of (disk site)) c.written → Q c)
  unopened_behind disk site Q only now =
      widened clock left_since site site _ _ (λ c none next. absurd (finds_no_next (disk site) c none next)) (no_call_no_new clock left_since disk told may_be site only now)

  -- the opening, and the lines behind it
  pub opened_behind : CutsStand → BatchesMakeMap → (old mid new : D) (folder : Folder) (given : List Parsed) (began : Start) → IsStartOf folder began
      → LeavesOnly clock left_since old mid (λ c. HasNextLog folder c.written → FindsOpened folder (told old) c) → LeavesOnly clock left_since mid new (CutOf began given (told mid)) → told mid ≡ told old
      → LeavesOnly clock left_since old new (λ c. HasNextLog folder c.written → CutPast folder given (told old) c)
  opened_behind law makes old mid new folder given began begins first second same =
      let P : Cut → Type 0 = λ c. HasNextLog folder c.written → CutPast folder given (told old) c in
      joins clock left_since old mid new P (failed_behind law makes old mid folder given first)
      (widened clock left_since mid new _ P (λ c o next. (began, begins, (let R : List ℕ → Type 0 = λ t. CutOf began given t c in subst R same o))) second)

  -- a line of an error is told
  pub ended_behind : (old mid new : D) (folder : Folder) (given : List Parsed) → LeavesOnly clock left_since old mid (λ c. HasNextLog folder c.written → CutPast folder given (told old) c)
      → LeavesOnly clock left_since mid new (TellsError (may_be mid) (told mid)) → ((t : ℕ) (c : Cut) → t ≤ clock mid → MayLeave (may_be mid) (told mid) c → left_since mid t c)
      → LeavesOnly clock left_since old new (λ c. HasNextLog folder c.written → CutStands folder given (told old) c)
  ended_behind old mid new folder given first second counts =
      let P : Cut → Type 0 = λ c. HasNextLog folder c.written → CutStands folder given (told old) c in
      joins clock left_since old mid new P (unended_behind old mid folder given first)
      (widened clock left_since mid new _ P (λ c t next. past_with_error folder given (told old) (told mid) t.error c t.is_error t.leaves.is_cut.told_is
      (first.each (told_only (told mid) c) (counts (clock old) (told_only (told mid) c) first.later (record {
        disk = t.leaves.disk;
        possible = t.leaves.possible;
        is_cut = record { image = t.leaves.is_cut.image; told_is = refl; written_is = t.leaves.is_cut.written_is };
      })) (record { number = next.number; is_number = next.is_number; next = next.next; there = next.there }))) second)

  pub past_unended : (old new : D) (folder : Folder) (given : List Parsed) → FromSomeMoment clock left_since old new (CutPast folder given (told old)) → FromSomeMoment clock left_since old new (CutStands folder given (told old))
  past_unended old new folder given past = record {
    moment = past.moment;
    not_before = past.not_before;
    not_after = past.not_after;
    each = λ c left. past_with_error folder given (told old) c.told [] c no_error (sym (append-nil c.told)) (past.each c left);
  }

  -- and a line that ends the run is told
  pub past_ended : (old mid new : D) (folder : Folder) (given : List Parsed) → FromSomeMoment clock left_since old mid (CutPast folder given (told old))
      → LeavesOnly clock left_since mid new (TellsError (may_be mid) (told mid)) → ((t : ℕ) (c : Cut) → t ≤ clock mid → MayLeave (may_be mid) (told mid) c → left_since mid t c)
      → FromSomeMoment clock left_since old new (CutStands folder given (told old))
  past_ended old mid new folder given past tells counts = record {
    moment = past.moment;
    not_before = past.not_before;
    not_after = omega (arith, past.not_after, tells.later);
    each = λ c left. elim (tells.before past.moment c past.not_after left) [
      | inl was ↦ past_with_error folder given (told old) c.told [] c no_error (sym (append-nil c.told)) (past.each c was)
      | inr t ↦ past_with_error folder given (told old) (told mid) t.error c t.is_error t.leaves.is_cut.told_is
          (past.each (told_only (told mid) c) (counts past.moment (told_only (told mid) c) past.not_after (record {
            disk = t.leaves.disk;
            possible = t.leaves.possible;
            is_cut = record { image = t.leaves.is_cut.image; told_is = refl; written_is = t.leaves.is_cut.written_is };
          })))
    ];
  }

  -- a line of an error is told
  pub line_told : (old new : D) (line : List ℕ) → ((count : ℕ) → IsErrorFront (take count line)) → LeavesOnly clock left_since old new (Tells (may_be old) (told old) line)
      → LeavesOnly clock left_since old new (TellsError (may_be old) (told old))
  line_told old new line is leaves = widened clock left_since old new _ _ (λ c t. record { error = take t.count line; is_error = is t.count; leaves = t.leaves }) leaves

  -- the run, and the line that ends it: a cut while that is told might have been left before it too, but for what it tells
  pub ended : (old mid new : D) (folder : Folder) (given : List Parsed) → LeavesOnly clock left_since old mid (CutInRun (may_be old) folder given (told old))
      → LeavesOnly clock left_since mid new (TellsError (may_be mid) (told mid)) → ((t : ℕ) (c : Cut) → t ≤ clock mid → MayLeave (may_be mid) (told mid) c → left_since mid t c)
      → LeavesOnly clock left_since old new (CutOfRun (may_be old) folder given (told old))
  ended old mid new folder given first second counts =
      let P : Cut → Type 0 = CutOfRun (may_be old) folder given (told old) in
      joins clock left_since old mid new P (widened clock left_since old mid _ P (λ c cut. no_error_yet (may_be old) folder given (told old) c cut) first)
      (widened clock left_since mid new _ P (λ c t. with_error (may_be old) folder given (told old) (told mid) t.error c t.is_error t.leaves.is_cut.told_is
      (first.each (told_only (told mid) c) (counts (clock old) (told_only (told mid) c) first.later (record {
        disk = t.leaves.disk;
        possible = t.leaves.possible;
        is_cut = record { image = t.leaves.is_cut.image; told_is = refl; written_is = t.leaves.is_cut.written_is };
      })))) second)

stop_of_full : (s : Stop) → status_of s ≡ Full → (limit : ℕ) × (s ≡ stop.Full limit)
stop_of_full stop.Read is = absurd (cc is)
stop_of_full stop.Tell is = absurd (cc is)
stop_of_full stop.Disk is = absurd (cc is)
stop_of_full stop.OutOfMemory is = absurd (cc is)
stop_of_full stop.Long is = absurd (cc is)
stop_of_full (stop.Corrupt name place) is = absurd (cc is)
stop_of_full (stop.Full limit) is = (limit, refl)

-- which stop ended a run at a limit
pub stop_is_full : (s : Stop) (status : Status) → MayEnd s status → status ≡ Full → (limit : ℕ) × (s ≡ stop.Full limit)
stop_is_full s status may is = elim may [
  | inl same ↦ stop_of_full s (sym same ∙ is)
  | inr more ↦ elim more [ inl other ↦ absurd (cc (other, is)) | inr other ↦ absurd (cc (other, is)) ]
]

full_told : (status : Status) (limit : ℕ) (mid next : List ℕ) → status ≡ Full → EndsAs Full status (full_line limit) mid next → next ≡ mid ++ full_line limit
full_told status limit mid next is ends = elim ends [
  | inl all ↦ all.1
  | inr more ↦ elim more [ inl some ↦ absurd (cc (some.0, is)) | inr none ↦ absurd (cc (none.0, is)) ]
]

-- a run that a limit ended
pub has_stopped : (status : Status) (may_be : Disk → Type 0) (folder after : Folder) (script told mid next : List ℕ) (limit : ℕ) (before since : (Cut → Type 0) → Type 0) → status ≡ Full
    → (s : StopsRun may_be folder after script told mid limit before) → EndsAs Full status (full_line limit) mid next
    → since (CutOfRun may_be folder (given_before folder after script s.replies limit s.full) told) → HasStopped may_be folder after script told next since
has_stopped status may_be folder after script told mid next limit before since is s ends cuts = record {
  replies = s.replies;
  limit = limit;
  full = s.full;
  told_is = full_told status limit mid next is ends ∙ ap (λ t. t ++ full_line limit) s.told_is;
  cuts = cuts;
}
