-- How a call of an opening fails that only reads.
use Rattle.bl_open.specs.declared.error.OpenErr.{OpenErr}
use Rattle.bl_open.specs.declared.error.OpenErr.TheVariants.{Disk, Corrupt, Full, Differ, OutOfMemory}

-- the disk failed, a file is damaged, or memory ran out
abbrev pub IsReading : OpenErr → Type 0
IsReading Disk = Unit {0}
IsReading (Corrupt name place) = Unit {0}
IsReading (Full next) = ⊥
IsReading (Differ option stored asked) = ⊥
IsReading OutOfMemory = Unit {0}

-- so does a call that also compares the words with the options
abbrev pub IsLoading : OpenErr → Type 0
IsLoading Disk = Unit {0}
IsLoading (Corrupt name place) = Unit {0}
IsLoading (Full next) = ⊥
IsLoading (Differ option stored asked) = Unit {0}
IsLoading OutOfMemory = Unit {0}
