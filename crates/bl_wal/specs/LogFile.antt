-- A log that is written.
use Rattle.std.specs.Prelude.{ℕ, ◌+◌, ◌%◌, Bool, false, List, length}
use Rattle.bl_site.specs.Disk.{Name}
use Rattle.bl_names.specs.Names.{name_of}
use Rattle.bl_names.specs.declared.name.FileName.TheVariants.{Log}
use Rattle.bl_entry.specs.Batches.{batch_bytes}
use Rattle.bl_entry.specs.declared.batch.Operation.{Operation}
use Rattle.bl_log.specs.Layout.{layout}
use Rattle.bl_records.specs.WrittenFile.{WrittenFile}

abbrev pub log_name : ℕ → Name
log_name number = name_of (Log number)

-- a log's number, the place in its block at which the next record stands, and whether a call of it has failed
pub record LogFile : Type 0 where
  pub number : ℕ
  pub place : ℕ
  pub failed : Bool

abbrev pub new_log : ℕ → LogFile
new_log number = record { number = number; place = 0; failed = false }

-- the bytes that append a batch as one record
abbrev pub record_bytes : ℕ → ℕ → List Operation → List ℕ
record_bytes place first operations = layout place (batch_bytes first operations)

-- the log behind these bytes more
abbrev pub behind : LogFile → List ℕ → LogFile
behind log bytes = record { number = log.number; place = (log.place + length bytes) % 32768; failed = log.failed }

-- the file that it is
abbrev pub file_of : LogFile → WrittenFile
file_of log = record { name = log_name log.number; place = log.place; failed = log.failed }
