-- What a call leaves in the record.
use Rattle.std.specs.Prelude.{◌≡◌, Bool, true, false, cond, [], ◌∷◌, ◌++◌, Result, Ok, Err}
use Rattle.bl_site.specs.Causes.{one_more}
use Rattle.bl_site.specs.declared.site.SiteErr.{SiteErr}
use Rattle.bl_site.specs.declared.site.SiteErr.TheVariants.{DiskFailed, TellFailed, OutOfMemory}
use Rattle.bl_site_mem.specs.Record.{Call, Memory, is_change, fails_next}

-- the memory with one call more
abbrev pub with_call : Call → Bool → Memory → Memory
with_call call failed memory = record { entries = memory.entries ++ record { call = call; failed = failed } ∷ []; failing = memory.failing; changes = memory.changes }

-- the memory with a change counted, where the call is one
abbrev pub counted : Call → Memory → Memory
counted call memory = record { entries = memory.entries; failing = memory.failing; changes = cond (is_change call) (one_more memory.changes) memory.changes }

-- the call is in the record, and fails where its number says so
abbrev pub Adds : Call → Bool → Memory → Memory → Type 0
Adds call failed old new = (fails_next old ≡ failed) × (new ≡ with_call call failed old)

-- and where memory failed all is as before
abbrev pub IsAsked : {T : Type 0} → Call → Result T SiteErr → Memory → Memory → Type 0
IsAsked call (Ok x) old new = Adds call false old new
IsAsked call (Err DiskFailed) old new = Adds call true old new
IsAsked call (Err TellFailed) old new = Adds call true old new
IsAsked call (Err OutOfMemory) old new = new ≡ old

-- the same, of a call that is counted first
abbrev pub IsRecorded : {T : Type 0} → Call → Result T SiteErr → Memory → Memory → Type 0
IsRecorded call result old new = IsAsked call result (counted call old) new
