-- A run, from its folder to its last line.
use Rattle.std.proofs.Common.{false, arith, ◌^◌, ◌≡◌, ◌⊎◌, inl, inr, ℕ, List, [], ◌++◌, refl, sym, ◌∙◌, ap, subst, append-nil}
use Rattle.std.specs.FinMap.{empty}
use Rattle.bl_site.specs.Disk.{Name, Folder, Disk, folder_of}
use Rattle.bl_logstore.specs.declared.error.StoreErr.{StoreErr}
use Rattle.bl_logstore.specs.declared.error.StoreErr.TheVariants as store
use Rattle.bl_logstore.specs.Causes.{IsOpening as IsStoreOpening, IsUntouched as IsUntouchedStore}
use Rattle.bl_logstore.specs.Damage.{IsDamaged}
use Rattle.bl_logstore.specs.Folders.{Stands}
use Rattle.bl_logstore.specs.Laws.{BatchesMakeMap}
use Rattle.bl_logstore.specs.Logs.{after_batches}
use Rattle.bl_logstore.specs.Stored.{Stored, Opens, HasNextLog}
use Rattle.bl_shell.specs.Machine.{Start}
use Rattle.bl_shell.specs.declared.stop.Stop.{Stop}
use Rattle.bl_shell.specs.declared.stop.Stop.TheVariants as stop
use Rattle.bl_shell.specs.declared.status.Status.{Status}
use Rattle.bl_shell.specs.declared.status.Status.TheVariants.{Done, Words, ReadFault, Long, TellFault, DiskFault, OutOfMemory, Corrupt, Full}
use Rattle.bl_shell.specs.Causes.{IsForScript, IsNotOfScript, IsReading, IsSilent, IsOpening, IsOfDamaged, MayEnd, EndsAs, status_of, stop_of_store}
use Rattle.bl_shell.specs.Carried.{StandsAtStart, TellsFront}
use Rattle.bl_shell.specs.Cuts.{IsPastOpening, StopsBeforeScript}
use Rattle.bl_shell.specs.Telling.{IsStartOf, HasBegun, HasFaltered, HasEnded, PassesIn, IsFull, corrupt_line, full_line}
use Rattle.bl_logstore.proofs.OtherLemmas.{same_no_next}
use Rattle.bl_shell.proofs.BreakLemmas.{breaks_in}
use Rattle.bl_shell.proofs.LimitLemmas.{ends}
use Rattle.bl_shell.proofs.TellLemmas.{tells_nothing}

-- where a run begins that opened this store
pub began_of : (folder : Folder) (store : Stored) (disk : Disk) → Opens folder store disk → Start
began_of folder store disk o = record { batches = o.batches; last = store.last; now = store.now; number = store.log.number }

module _ (folder : Folder) (store : Stored) (disk : Disk) (o : Opens folder store disk) where
  pub stands_open : Stands folder o.batches store.last
  stands_open = record { only = o.only; have = o.had }

  pub begins_open : BatchesMakeMap → IsStartOf folder (began_of folder store disk o)
  unfolding began_of
  begins_open makes = record {
    stands = stands_open;
    map_is = rw o.carries.now_is (rw (append-nil o.batches) (makes folder o.batches store.last o.had));
    next = o.next;
  }

  pub starts_open : store.broken ≡ false → StandsAtStart (began_of folder store disk o) folder store disk
  unfolding began_of
  starts_open usable = record {
    stays = record { usable = usable; whole = o.whole; older = o.batches; own = []; synced = 0; carries = o.carries; all = append-nil o.batches; at_least = omega arith };
    now_is = refl;
    made = record {
      now_is = o.carries.now_is ∙ ap (λ bs. after_batches bs empty) (append-nil o.batches);
      last_is = omega (arith, (ends _ 0 store.last o.batches o.had.are).counted);
    };
    last_is = refl;
    number_is = refl;
    keeps = λ name others. o.made.others name (λ is. others store.log.number (omega arith) o.carries.on.is_number is);
  }

-- how an opening stops a run over a damaged folder
pub opening_stops : (e : StoreErr) → IsStoreOpening e → ((number : ℕ) → e ≡ store.Full number → ⊥) → IsOpening (stop_of_store e)
opening_stops store.Disk is full = tt
opening_stops store.OutOfMemory is full = tt
opening_stops (store.Corrupt name place) is full = tt
opening_stops (store.Full number) is full = absurd (full number refl)
opening_stops store.Broken is full = absurd is

-- which failure of a store such a stop is
pub stop_full : (e : StoreErr) (limit : ℕ) → stop_of_store e ≡ stop.Full limit → e ≡ store.Full limit
stop_full store.Disk limit is = absurd (cc is)
stop_full store.OutOfMemory limit is = absurd (cc is)
stop_full (store.Corrupt name place) limit is = absurd (cc is)
stop_full (store.Full number) limit is = let same : number ≡ limit = cc is in ap store.Full same
stop_full store.Broken limit is = absurd (cc is)

pub stop_not_tell : (e : StoreErr) → stop_of_store e ≡ stop.Tell → ⊥
stop_not_tell store.Disk is = cc is
stop_not_tell store.OutOfMemory is = cc is
stop_not_tell (store.Corrupt name place) is = cc is
stop_not_tell (store.Full number) is = cc is
stop_not_tell store.Broken is = cc is

pub stop_corrupt : (e : StoreErr) (name : Name) (place : ℕ) → stop_of_store e ≡ stop.Corrupt name place → e ≡ store.Corrupt name place
stop_corrupt store.Disk name place is = absurd (cc is)
stop_corrupt store.OutOfMemory name place is = absurd (cc is)
stop_corrupt (store.Corrupt other spot) name place is =
    let named : other ≡ name = cc is in
    let placed : spot ≡ place = cc is in
    ap (λ n. store.Corrupt n spot) named ∙ ap (store.Corrupt name) placed
stop_corrupt (store.Full number) name place is = absurd (cc is)
stop_corrupt store.Broken name place is = absurd (cc is)

-- a front of the replies was told, and then a limit stood in the way of the next line
passes_begun : (folder after : Folder) (script replies told next : List ℕ) (limit : ℕ) → PassesIn folder after script replies limit → next ≡ told ++ replies → HasBegun folder script told next
passes_begun folder after script replies told next limit p is =
    breaks_in folder p.began script told next next p.history p.mid p.order p.rest p.begins p.fits (inl refl) p.orders_are p.runs (is ∙ ap (λ r. told ++ r) p.replies_are) (tells_nothing _ _ _ refl)

full_begun : (folder after : Folder) (script replies told next : List ℕ) (limit : ℕ) → IsFull folder after script replies limit → next ≡ told ++ replies → (next ≡ told) ⊎ HasBegun folder script told next
full_begun folder after script replies told next limit full is = elim full [
  | inl f ↦ inl (is ∙ ap (λ r. told ++ r) f.none_told ∙ append-nil told)
  | inr p ↦ inr (passes_begun folder after script replies told next limit p is)
]

-- how a run ends whose last line is told, or could not be
abbrev pub IsShort : Status → Type 0
IsShort status = (status ≡ TellFault) ⊎ (status ≡ DiskFault) ⊎ (status ≡ OutOfMemory)

-- what a run told that ended short
abbrev pub Front : Folder → Folder → List ℕ → List ℕ → List ℕ → Status → Type 0
Front folder after script told next status =
    (next ≡ told) ⊎ HasBegun folder script told next ⊎ ((status ≡ TellFault) × HasEnded folder after script told next)

module _ (folder after : Folder) (script told mid next : List ℕ) (status : Status) where
  -- a front of the line that ends it
  corrupt_ended : (name : Name) (place : ℕ) → IsDamaged folder name place → after ≡ folder → mid ≡ told → TellsFront (corrupt_line name place) mid next → HasEnded folder after script told next
  corrupt_ended name place damaged kept same tells = record {
    replies = [];
    line = corrupt_line name place;
    ends = inl (name, (place, (damaged, kept, refl, refl)));
    front = let P : List ℕ → Type 0 = λ t. TellsFront (corrupt_line name place) t next in subst P (same ∙ sym (append-nil told)) tells;
  }

  full_ended : (replies : List ℕ) (limit : ℕ) → IsFull folder after script replies limit → mid ≡ told ++ replies → TellsFront (full_line limit) mid next → HasEnded folder after script told next
  full_ended replies limit full is tells = record {
    replies = replies;
    line = full_line limit;
    ends = inr (limit, (full, refl));
    front = let P : List ℕ → Type 0 = λ t. TellsFront (full_line limit) t next in subst P is tells;
  }

  corrupt_front : (name : Name) (place : ℕ) → IsDamaged folder name place → after ≡ folder → mid ≡ told → EndsAs Corrupt status (corrupt_line name place) mid next → IsShort status → Front folder after script told next status
  corrupt_front name place damaged kept same ends short = elim ends [
    | inl all ↦ absurd (elim short [ inl s ↦ cc (all.0, s) | inr more ↦ elim more [ inl s ↦ cc (all.0, s) | inr s ↦ cc (all.0, s) ] ])
    | inr more ↦ elim more [ inl some ↦ inr (inr (some.0, corrupt_ended name place damaged kept same some.1)) | inr none ↦ inl (none.1 ∙ same) ]
  ]

  full_front : (replies : List ℕ) (limit : ℕ) → IsFull folder after script replies limit → mid ≡ told ++ replies → EndsAs Full status (full_line limit) mid next → IsShort status → Front folder after script told next status
  full_front replies limit full is ends short = elim ends [
    | inl all ↦ absurd (elim short [ inl s ↦ cc (all.0, s) | inr more ↦ elim more [ inl s ↦ cc (all.0, s) | inr s ↦ cc (all.0, s) ] ])
    | inr more ↦ elim more [
      | inl some ↦ inr (inr (some.0, full_ended replies limit full is some.1))
      | inr none ↦ elim (full_begun folder after script replies told next limit full (none.1 ∙ is)) [ inl quiet ↦ inl quiet | inr begun ↦ inr (inl begun) ]
    ]
  ]

  silent_front : (s : Stop) → IsSilent s → next ≡ mid → (IsSilent s → (mid ≡ told) ⊎ HasBegun folder script told mid) → Front folder after script told next status
  silent_front s silent same front = elim (front silent) [
    | inl quiet ↦ inl (same ∙ quiet)
    | inr begun ↦ inr (inl (let P : List ℕ → Type 0 = λ t. HasBegun folder script told t in subst P (sym same) begun))
  ]

  -- what a run told that a stop ended
  pub ended_front : (s : Stop) → (IsSilent s → next ≡ mid) → (IsSilent s → (mid ≡ told) ⊎ HasBegun folder script told mid)
      → ((name : Name) (place : ℕ) → s ≡ stop.Corrupt name place → IsDamaged folder name place × (mid ≡ told) × (after ≡ folder))
      → ((name : Name) (place : ℕ) → s ≡ stop.Corrupt name place → EndsAs Corrupt status (corrupt_line name place) mid next)
      → ((limit : ℕ) → s ≡ stop.Full limit → (replies : List ℕ) × IsFull folder after script replies limit × (mid ≡ told ++ replies))
      → ((limit : ℕ) → s ≡ stop.Full limit → EndsAs Full status (full_line limit) mid next) → IsShort status → Front folder after script told next status
  ended_front stop.Read same front damaged corrupt full fulls short = silent_front stop.Read tt (same tt) front
  ended_front stop.Tell same front damaged corrupt full fulls short = silent_front stop.Tell tt (same tt) front
  ended_front stop.Disk same front damaged corrupt full fulls short = silent_front stop.Disk tt (same tt) front
  ended_front stop.OutOfMemory same front damaged corrupt full fulls short = silent_front stop.OutOfMemory tt (same tt) front
  ended_front stop.Long same front damaged corrupt full fulls short = silent_front stop.Long tt (same tt) front
  ended_front (stop.Corrupt name place) same front damaged corrupt full fulls short =
      let d = damaged name place refl in
      corrupt_front name place d.0 d.2 d.1 (corrupt name place refl) short
  ended_front (stop.Full limit) same front damaged corrupt full fulls short =
      let f = full limit refl in
      full_front f.0 limit f.1 f.2 (fulls limit refl) short

  of_front : (meant : Status) (line : List ℕ) → status ≡ TellFault → (meant ≡ TellFault → ⊥) → EndsAs meant status line mid next → TellsFront line mid next
  of_front meant line is other ends = elim ends [
    | inl all ↦ absurd (other (sym all.0 ∙ is))
    | inr more ↦ elim more [ inl some ↦ some.1 | inr none ↦ absurd (cc (none.0, is)) ]
  ]

  -- what a run left that could not tell a line
  pub untold : (s : Stop) → status ≡ TellFault → (IsSilent s → (status ≡ status_of s) × (next ≡ mid)) → (s ≡ stop.Tell → HasFaltered folder after script told mid)
      → ((name : Name) (place : ℕ) → s ≡ stop.Corrupt name place → IsDamaged folder name place × (mid ≡ told) × (after ≡ folder))
      → ((name : Name) (place : ℕ) → s ≡ stop.Corrupt name place → EndsAs Corrupt status (corrupt_line name place) mid next)
      → ((limit : ℕ) → s ≡ stop.Full limit → (replies : List ℕ) × IsFull folder after script replies limit × (mid ≡ told ++ replies))
      → ((limit : ℕ) → s ≡ stop.Full limit → EndsAs Full status (full_line limit) mid next) → HasFaltered folder after script told next ⊎ HasEnded folder after script told next
  untold stop.Read is silent faltered damaged corrupt full fulls = absurd (cc ((silent tt).0, is))
  untold stop.Tell is silent faltered damaged corrupt full fulls =
      inl (let P : List ℕ → Type 0 = λ t. HasFaltered folder after script told t in subst P (sym (silent tt).1) (faltered refl))
  untold stop.Disk is silent faltered damaged corrupt full fulls = absurd (cc ((silent tt).0, is))
  untold stop.OutOfMemory is silent faltered damaged corrupt full fulls = absurd (cc ((silent tt).0, is))
  untold stop.Long is silent faltered damaged corrupt full fulls = absurd (cc ((silent tt).0, is))
  untold (stop.Corrupt name place) is silent faltered damaged corrupt full fulls =
      let d = damaged name place refl in
      inr (corrupt_ended name place d.0 d.2 d.1 (of_front Corrupt (corrupt_line name place) is (λ e. cc e) (corrupt name place refl)))
  untold (stop.Full limit) is silent faltered damaged corrupt full fulls =
      let f = full limit refl in
      inr (full_ended f.0 limit f.1 f.2 (of_front Full (full_line limit) is (λ e. cc e) (fulls limit refl)))

-- where an inner stop ends a run, its status is none of one that has read
not_for_script : (s : Stop) → IsNotOfScript s → IsForScript (status_of s) → ⊥
not_for_script stop.Read inner read = inner
not_for_script stop.Tell inner read = read
not_for_script stop.Disk inner read = read
not_for_script stop.OutOfMemory inner read = read
not_for_script stop.Long inner read = inner
not_for_script (stop.Corrupt name place) inner read = read
not_for_script (stop.Full limit) inner read = read

unread_status : (s : Stop) (status : Status) → IsNotOfScript s → MayEnd s status → IsForScript status → ⊥
unread_status s status inner may read = elim may [
  | inl is ↦ not_for_script s inner (subst IsForScript is read)
  | inr more ↦ elim more [ inl is ↦ subst IsForScript is read | inr is ↦ subst IsForScript is read ]
]

-- a run that was stopped before it read anything is past its opening where the next log was made
pub only_made : (s : Stop) (status : Status) (left left_after : List ℕ) (made : Type 0) → IsNotOfScript s → MayEnd s status → left_after ≡ left → IsPastOpening status left left_after ⊎ made → made
only_made s status left left_after made inner may same past = elim past [
  | inl read ↦ elim read [ inl is ↦ absurd (unread_status s status inner may is) | inr ne ↦ absurd (ne same) ]
  | inr is ↦ is
]

-- which words do not do
pub words_are_not_past : (folder : Folder) (disk : Disk) (status : Status) (left left_after : List ℕ) (made : Type 0) → folder ≡ folder_of disk → status ≡ Words → left_after ≡ left → (made → HasNextLog folder disk)
    → IsPastOpening status left left_after ⊎ made → ⊥
words_are_not_past folder disk status left left_after made as_it_was is same next past = elim past [
  | inl read ↦ elim read [ inl for_script ↦ subst IsForScript is for_script | inr ne ↦ ne same ]
  | inr it ↦ same_no_next folder disk as_it_was (next it)
]

-- a stop of the opening: at one with a line the folder reads as it did
pub not_opened : (e : StoreErr) (folder : Folder) (disk : Disk) → (IsUntouchedStore e → folder_of disk ≡ folder) → StopsBeforeScript folder disk (stop_of_store e)
not_opened store.Disk folder disk same = (tt, inl tt)
not_opened store.OutOfMemory folder disk same = (tt, inl tt)
not_opened (store.Corrupt name place) folder disk same = (tt, inr (same_no_next folder disk (sym (same tt))))
not_opened (store.Full number) folder disk same = (tt, inr (same_no_next folder disk (sym (same tt))))
not_opened store.Broken folder disk same = (tt, inl tt)

pub unasked : (s : Stop) (folder : Folder) (disk : Disk) → s ≡ stop.OutOfMemory → StopsBeforeScript folder disk s
unasked s folder disk is = subst (StopsBeforeScript folder disk) (sym is) (tt, inl tt)

-- which stops end a run in a status for what the script brings
for_script : (s : Stop) → IsForScript (status_of s) → IsReading s × IsSilent s
for_script stop.Read read = (tt, tt)
for_script stop.Tell read = absurd read
for_script stop.Disk read = absurd read
for_script stop.OutOfMemory read = absurd read
for_script stop.Long read = (tt, tt)
for_script (stop.Corrupt name place) read = absurd read
for_script (stop.Full limit) read = absurd read

pub stop_is_reading : (s : Stop) (status : Status) → MayEnd s status → (status ≡ ReadFault) ⊎ (status ≡ Long) → IsReading s × IsSilent s
stop_is_reading s status may brought =
    let read : IsForScript status = elim brought [ inl is ↦ subst IsForScript (sym is) tt | inr is ↦ subst IsForScript (sym is) tt ] in
    elim may [
      | inl is ↦ for_script s (subst IsForScript is read)
      | inr more ↦ elim more [ inl is ↦ absurd (subst IsForScript is read) | inr is ↦ absurd (subst IsForScript is read) ]
    ]

stop_of_long : (s : Stop) → status_of s ≡ Long → s ≡ stop.Long
stop_of_long stop.Read is = absurd (cc is)
stop_of_long stop.Tell is = absurd (cc is)
stop_of_long stop.Disk is = absurd (cc is)
stop_of_long stop.OutOfMemory is = absurd (cc is)
stop_of_long stop.Long is = refl
stop_of_long (stop.Corrupt name place) is = absurd (cc is)
stop_of_long (stop.Full limit) is = absurd (cc is)

pub stop_is_long : (s : Stop) (status : Status) → MayEnd s status → status ≡ Long → s ≡ stop.Long
stop_is_long s status may is = elim may [
  | inl same ↦ stop_of_long s (sym same ∙ is)
  | inr more ↦ elim more [ inl other ↦ absurd (cc (other, is)) | inr other ↦ absurd (cc (other, is)) ]
]

stop_of_corrupt : (s : Stop) → status_of s ≡ Corrupt → (name : Name) × ((place : ℕ) × (s ≡ stop.Corrupt name place))
stop_of_corrupt stop.Read is = absurd (cc is)
stop_of_corrupt stop.Tell is = absurd (cc is)
stop_of_corrupt stop.Disk is = absurd (cc is)
stop_of_corrupt stop.OutOfMemory is = absurd (cc is)
stop_of_corrupt stop.Long is = absurd (cc is)
stop_of_corrupt (stop.Corrupt name place) is = (name, (place, refl))
stop_of_corrupt (stop.Full limit) is = absurd (cc is)

-- which stop ended a run as over a damaged folder
pub stop_is_corrupt : (s : Stop) (status : Status) → MayEnd s status → status ≡ Corrupt → (name : Name) × ((place : ℕ) × (s ≡ stop.Corrupt name place))
stop_is_corrupt s status may is = elim may [
  | inl same ↦ stop_of_corrupt s (sym same ∙ is)
  | inr more ↦ elim more [ inl other ↦ absurd (cc (other, is)) | inr other ↦ absurd (cc (other, is)) ]
]

-- the whole line was told
pub corrupt_told : (status : Status) (name : Name) (place : ℕ) (told mid next : List ℕ) → status ≡ Corrupt → EndsAs Corrupt status (corrupt_line name place) mid next → mid ≡ told → next ≡ told ++ corrupt_line name place
corrupt_told status name place told mid next is ends same = elim ends [
  | inl all ↦ all.1 ∙ ap (λ t. t ++ corrupt_line name place) same
  | inr more ↦ elim more [ inl some ↦ absurd (cc (some.0, is)) | inr none ↦ absurd (cc (none.0, is)) ]
]

refused_as : (s : Stop) (status : Status) → IsOpening s → status ≡ status_of s → IsOfDamaged status
refused_as stop.Read status is same = absurd is
refused_as stop.Tell status is same = absurd is
refused_as stop.Disk status is same = inr (inl same)
refused_as stop.OutOfMemory status is same = inr (inr (inr same))
refused_as stop.Long status is same = absurd is
refused_as (stop.Corrupt name place) status is same = inl same
refused_as (stop.Full limit) status is same = absurd is

-- a stop of the opening ends a run so
pub refused : (s : Stop) (status : Status) → IsOpening s → MayEnd s status → IsOfDamaged status
refused s status opening may = elim may [
  | inl same ↦ refused_as s status opening same
  | inr more ↦ elim more [ inl other ↦ inr (inr (inl other)) | inr other ↦ inr (inr (inr other)) ]
]

-- a folder of a log of the greatest number ends a run so, or at the limit
pub at_the_limit : (s : Stop) (status : Status) → IsOpening s ⊎ (s ≡ stop.Full (10 ^ 15)) → MayEnd s status → (status ≡ Full) ⊎ IsOfDamaged status
at_the_limit s status how may = elim how [
  | inl opening ↦ inr (refused s status opening may)
  | inr limit ↦ elim may [
    | inl same ↦ inl (same ∙ ap status_of limit)
    | inr more ↦ inr (elim more [ inl other ↦ inr (inr (inl other)) | inr other ↦ inr (inr (inr other)) ])
  ]
]

no_stop_is_done : (s : Stop) → status_of s ≡ Done → ⊥
no_stop_is_done stop.Read is = cc is
no_stop_is_done stop.Tell is = cc is
no_stop_is_done stop.Disk is = cc is
no_stop_is_done stop.OutOfMemory is = cc is
no_stop_is_done stop.Long is = cc is
no_stop_is_done (stop.Corrupt name place) is = cc is
no_stop_is_done (stop.Full limit) is = cc is

-- a run that a stop ends is not done
pub not_done : (s : Stop) (status : Status) → MayEnd s status → status ≡ Done → ⊥
not_done s status may is = elim may [
  | inl same ↦ no_stop_is_done s (sym same ∙ is)
  | inr more ↦ elim more [ inl other ↦ cc (other, is) | inr other ↦ cc (other, is) ]
]
