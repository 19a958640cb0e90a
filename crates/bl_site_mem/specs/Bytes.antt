-- The record as it is stored, with copies of names and bytes, read as a record of calls.
use Rattle.std.specs.Prelude.{map, List}
use Rattle.std.specs.String.{string_bytes}
use Rattle.bl_site_mem.specs.declared.record.KeptCall.{KeptCall}
use Rattle.bl_site_mem.specs.declared.record.KeptCall.TheVariants as kept
use Rattle.bl_site_mem.specs.declared.record.KeptEntry.{KeptEntry}
use Rattle.bl_site_mem.specs.Record.{Call, Entry, Look, Create, Append, Sync, Rename, Remove, Tell, PutFile}

abbrev pub call_of : KeptCall → Call
call_of kept.Look = Look
call_of (kept.Create name) = Create (string_bytes name)
call_of (kept.Append name bytes) = Append (string_bytes name) bytes.items
call_of (kept.Sync name) = Sync (string_bytes name)
call_of (kept.Rename from to) = Rename (string_bytes from) (string_bytes to)
call_of (kept.Remove name) = Remove (string_bytes name)
call_of (kept.Tell bytes) = Tell bytes.items
call_of (kept.PutFile name bytes) = PutFile (string_bytes name) bytes.items

abbrev pub entry_of : KeptEntry → Entry
entry_of entry = record { call = call_of entry.call; failed = entry.failed }

abbrev pub entries_of : List KeptEntry → List Entry
entries_of entries = map entry_of entries
