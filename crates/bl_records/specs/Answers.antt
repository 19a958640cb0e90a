-- What a reader that has found some records of a file answers next.
use Rattle.std.specs.Prelude.{ℕ, List, Option}
use Rattle.bl_records.specs.FileReading.{FileReading, HasFound, FindsNext, EndsBehind}
use Rattle.bl_records.specs.declared.reader.NextRecord.{NextRecord}
use Rattle.bl_records.specs.declared.reader.NextRecord.TheVariants.{Record, End, Absent}

abbrev pub Answers : NextRecord → Option (List ℕ) → List (List ℕ × ℕ) → FileReading → Type 0
Answers (Record payload) file found reader = FindsNext file found payload reader
Answers (End place cause) file found reader = HasFound file found reader × EndsBehind file found place cause
Answers Absent file found reader = HasFound file found reader
