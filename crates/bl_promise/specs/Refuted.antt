-- What no run may leave, and what error lines say: worked cuts, runs and lines.
use Rattle.std.specs.Prelude.{◌≡◌, ◌≢◌, ℕ, ◌+◌, ◌^◌, ◌<◌, Bool, IsTrue, List, [], ◌∷◌, ◌++◌, codes, map, None, Some}
use Rattle.std.specs.FinMap.{empty}
use Rattle.bl_site.specs.Disk.{Cut, Disk, File, Folder, Name, folder_of, written_of}
use Rattle.bl_names.specs.declared.name.FileName.TheVariants.{Log}
use Rattle.bl_names.specs.Names.{IsNumber, name_of}
use Rattle.bl_build.specs.Restoring.{Restored}
use Rattle.bl_entry.specs.Batches.{put_of}
use Rattle.bl_folder.specs.Files.{log_bytes}
use Rattle.bl_folder.specs.Live.{IsFresh, IsLive}
use Rattle.bl_folder.specs.Stands.{Stands}
use Rattle.bl_open.specs.Options.{Words}
use Rattle.bl_script.specs.declared.command.Command.TheVariants.{Put, Sync}
use Rattle.bl_script.specs.declared.command.Parsed.TheVariants.{Go}
use Rattle.bl_script.specs.Printing.{ok_line}
use Rattle.bl_machine.specs.Step.{Line}
use Rattle.bl_machine.specs.Synced.{begun, synced}
use Rattle.bl_promise.specs.Cuts.{CutBefore, CutOfRun, corrupt_line, differ_line, full_line}
use Rattle.bl_promise.specs.Run.{Run}
use Rattle.bl_promise.specs.Telling.{HasRun, HasTaken}
use Rattle.bl_promise.specs.Headline.{AreLogsWhole}

-- ---- cuts

-- `may_be` tells which disks a cut before the run might have found.

-- On an empty folder `put a =1` and `sync` were ordered, and both replies told: no run allows a cut that leaves no file.
abbrev pub ToldSyncsAreKept : Type 0
ToldSyncsAreKept = (words : Words) (may_be : Disk → Bool) (c : Cut) → c.told ≡ ok_line ++ ok_line → ((name : Name) → c.folder name ≡ None)
    → CutOfRun (λ _. None) words (λ disk. IsTrue (may_be disk)) (Go (Put (codes "a") (codes "1")) ∷ Go Sync ∷ []) [] c → ⊥

-- A cut that has told the reply `ok`, and anything behind it, is none before the barrier.
abbrev pub NoReplyIsBeforeTheBarrier : Type 0
NoReplyIsBeforeTheBarrier = (may_be : Disk → Bool) (folder : Folder) (told more : List ℕ) (c : Cut) → c.told ≡ told ++ (ok_line ++ more)
    → CutBefore folder (λ disk. IsTrue (may_be disk)) told c → ⊥

-- ---- runs

-- a run that took its whole script and told this, without a cut
abbrev pub ended_run : Words → (disk after : Disk) → (script told : List ℕ) → Run
ended_run words disk after script told = record {
  words = words;
  disk = disk;
  disk_after = after;
  script = script;
  left = [];
  told = [];
  told_after = told;
  certain = Unit {0};
  certain_after = Unit {0};
  may_be = λ other. other ≡ disk;
  may_be_after = λ other. other ≡ after;
  EachCut = λ P. Unit {0};
  EachLateCut = λ P. Unit {0};
  MightBeLeft = λ c. Unit {0};
}

-- `put a =1` was taken, its reply told, and then the script could not be read on: no run leaves a folder that stands for the empty map, as if writes were kept in memory until the end.
abbrev pub WritesAreNotKeptBack : Type 0
WritesAreNotKeptBack = (words : Words) (disk after : Disk) → Stands (folder_of after) empty → HasTaken (ended_run words disk after (codes "put a =1\n") ok_line) ⊥ → ⊥

-- Nor does a run that is done with that script tell two replies,
abbrev pub NoReplyIsToldTwice : Type 0
NoReplyIsToldTwice = (words : Words) (disk after : Disk) → HasRun (ended_run words disk after (codes "put a =1\n") (ok_line ++ ok_line)) → ⊥

-- or none.
abbrev pub NoReplyIsLeftOut : Type 0
NoReplyIsLeftOut = (words : Words) (disk after : Disk) → HasRun (ended_run words disk after (codes "put a =1\n") []) → ⊥

-- ---- disks

-- Where a needed log has an unsynced byte and one behind it has a byte, logs are not whole.
abbrev pub SkippedSyncsAreSeen : Type 0
SkippedSyncsAreSeen = (disk : Disk) (manifest : ℕ) (live : Restored) (lower upper : ℕ) (x : File) → IsLive (folder_of disk) manifest live → IsNumber lower → live.standing.log_number < lower + 1 → lower < upper
    → disk (name_of (Log lower)) ≡ Some x → x.handed ≢ [] → log_bytes (written_of disk) upper ≢ [] → AreLogsWhole disk → ⊥

-- ---- rows

-- On a fresh folder the empty script tells nothing, and leaves a folder that stands for the empty map;
abbrev pub EmptyScriptRow : Type 0
EmptyScriptRow = (words : Words) (disk after : Disk) (told : List ℕ) → IsFresh (folder_of disk) → HasRun (ended_run words disk after [] told) → (told ≡ []) × Stands (folder_of after) empty

-- and a put is read, while another key has no value.
abbrev pub PutIsReadRow : Type 0
PutIsReadRow = (words : Words) (disk after : Disk) (told : List ℕ) → IsFresh (folder_of disk) → HasRun (ended_run words disk after (codes "put a =xyz\nget a\nget b\n") told)
    → told ≡ codes "ok\nvalue =xyz\nnone\n"

-- `put a =1`, `sync`, `put b =2`
abbrev pub three_lines : List Line
three_lines =
    record { order = Go (Put (codes "a") (codes "1")); wrote = (put_of (codes "a") (codes "1") ∷ []) ∷ []; told = ok_line }
    ∷ record { order = Go Sync; wrote = []; told = ok_line }
    ∷ record { order = Go (Put (codes "b") (codes "2")); wrote = (put_of (codes "b") (codes "2") ∷ []) ∷ []; told = ok_line }
    ∷ []

-- By the bytes told, the first write is synced once the reply to `sync` is whole, and the second has begun then.
pub record CountsRow : Type 0 where
  pub synced : map (λ count. synced count three_lines) (0 ∷ 3 ∷ 5 ∷ 6 ∷ 9 ∷ []) ≡ 0 ∷ 0 ∷ 0 ∷ 1 ∷ 1 ∷ []
  pub begun : map (λ count. begun count three_lines) (0 ∷ 3 ∷ 5 ∷ 6 ∷ 9 ∷ []) ≡ 1 ∷ 1 ∷ 1 ∷ 2 ∷ 2 ∷ []

-- the lines that end a run
pub record ErrorLinesRow : Type 0 where
  pub corrupt : corrupt_line (codes "000012.sst") 45 ≡ codes "error corrupt 000012.sst 45\n"
  pub full : full_line (10 ^ 15) ≡ codes "error full 1000000000000000\n"
  pub differ : differ_line 1 0 4096 ≡ codes "error differ min-blob-size 0 4096\n"
  pub last : differ_line 9 100 50 ≡ codes "error differ force-threshold 100 50\n"
