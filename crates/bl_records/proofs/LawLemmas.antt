-- What written files read as, also once the power was cut.
use Rattle.std.proofs.Common.{◌≡◌, ◌⊎◌, inl, inr, ℕ, ◌+◌, ◌≤◌, List, [], ◌∷◌, ◌++◌, length, take, Option, Some, refl, sym, ◌∙◌, ap, subst, arith, length-append, length-take-le}
use Rattle.std.proofs.lemmas.List.{take-append-le, take_all, nil_from_length}
use Rattle.std.specs.Option.{option_map}
use Rattle.bl_site.specs.Disk.{Disk, File, Cut, IsCut, IsRemnant, IsLeft}
use Rattle.bl_site.proofs.Images.{left_some, whole_remnant}
use Rattle.bl_names.specs.Names.{name_of}
use Rattle.bl_names.specs.declared.name.FileName.{FileName}
use Rattle.bl_log.specs.Log.{records, IsLog}
use Rattle.bl_log.specs.Layout.{written}
use Rattle.bl_log.specs.Written.{OnlyWritten}
use Rattle.bl_records.specs.Chance.{IsOnlyWritten}
use Rattle.bl_records.specs.WrittenFile.{WrittenFile}
use Rattle.bl_records.specs.Held.{HasWritten, HoldsRecords, ReadsAs, ReadsFirst}
use Rattle.bl_records.specs.Laws.{CutAppendsReadAsFronts, CutFilesReadAsFronts, FilesAreRead, RemnantsReadAsFronts, SyncedFilesAreLeft, SyncedRemnantsAreWhole}
use Rattle.bl_records.proofs.HeldLemmas.{same_holds, handed_written, synced_written}

-- what is the first of some things, and has the first of them in it, is the first so many
both_first : {X : Type 0} (some all front more rest : List X) → all ≡ some ++ more → some ≡ front ++ rest → (length front ≤ length some) × (length some ≤ length all) × (some ≡ take (length some) all)
both_first some all front more rest whole has =
    let n : length all ≡ length some + length more = ap length whole ∙ length-append some more in
    let m : length some ≡ length front + length rest = ap length has ∙ length-append front rest in
    (omega arith, omega arith, sym (take_all (length some) some (omega arith)) ∙ sym (take-append-le (length some) some more (omega arith)) ∙ ap (take (length some)) (sym whole))

-- ---- what logs promise

unfoldable pub WrittenIsLog : Type 0
WrittenIsLog = (payloads : List (List ℕ)) → IsLog (written 0 payloads) payloads

unfoldable pub LogIsRead : Type 0
LogIsRead = (bytes : List ℕ) (payloads : List (List ℕ)) → IsLog bytes payloads → records bytes ≡ payloads

unfoldable pub LogIsReadFirst : Type 0
LogIsReadFirst = (bytes : List ℕ) (payloads : List (List ℕ)) → IsLog bytes payloads → (more : List ℕ) → (rest : List (List ℕ)) × (records (bytes ++ more) ≡ payloads ++ rest)

unfoldable pub OnlyWrittenIsFirst : Type 0
OnlyWrittenIsFirst = (bytes all : List ℕ) → OnlyWritten bytes all → (rest : List (List ℕ)) × (records all ≡ records bytes ++ rest)

pub files_read : WrittenIsLog → LogIsRead → FilesAreRead
unfolding WrittenIsLog LogIsRead
files_read is_log is_read payloads = is_read (written 0 payloads) payloads (is_log payloads)

-- ---- one file

pub remnants_read : WrittenIsLog → LogIsRead → LogIsReadFirst → OnlyWrittenIsFirst → RemnantsReadAsFronts
unfolding WrittenIsLog LogIsRead LogIsReadFirst OnlyWrittenIsFirst
remnants_read is_log is_read is_first only file payloads synced bytes h remnant matches =
    let more = only bytes (written 0 payloads) matches in
    let whole : payloads ≡ records bytes ++ more.0 = sym (files_read is_log is_read payloads) ∙ more.1 in
    let rest = is_first (written 0 (take synced payloads)) (take synced payloads) (is_log (take synced payloads)) remnant.tail in
    let begins : bytes ≡ written 0 (take synced payloads) ++ remnant.tail = remnant.split ∙ ap (λ f. f ++ remnant.tail) h.front in
    let both = both_first (records bytes) payloads (take synced payloads) more.0 rest.0 whole (ap records begins ∙ rest.1) in
    let n : length (take synced payloads) ≡ synced = length-take-le synced payloads h.within in
    record { count = length (records bytes); at_least = omega (arith, both.0, n); at_most = both.1; reads = both.2 }

pub remnants_whole : SyncedRemnantsAreWhole
remnants_whole file payloads bytes h remnant =
    let front : file.front ≡ written 0 payloads = h.front ∙ ap (written 0) (take_all (length payloads) payloads (omega arith)) in
    let size : length (file.front ++ file.handed) ≡ length file.front = ap length (h.all ∙ sym front) in
    let none : file.handed ≡ [] = nil_from_length file.handed (omega (arith, size, length-append file.front file.handed)) in
    whole_remnant file bytes none remnant ∙ front

-- ---- a folder

has_written : (disk : Disk) (writer : WrittenFile) (payloads : List (List ℕ)) (synced : ℕ) (h : HoldsRecords disk writer payloads synced) → HasWritten h.file payloads synced
has_written disk writer payloads synced h = record { within = h.within; front = h.front; all = h.all }

-- what a cut leaves of a file
left_of : (disk : Disk) (name : List ℕ) (file : File) (told : List ℕ) (c : Cut) → disk name ≡ Some file → IsCut disk told c → (bytes : List ℕ) × (c.folder name ≡ Some bytes) × IsRemnant file bytes
left_of disk name file told c there is = left_some file (c.folder name) (subst (λ (o : Option File). IsLeft o (c.folder name)) there (is.image name))

-- so the whole form follows from that of one file
left_first : WrittenIsLog → LogIsRead → LogIsReadFirst → OnlyWrittenIsFirst → (disk : Disk) (name : List ℕ) (at : File) (file : FileName) (payloads : List (List ℕ)) (synced : ℕ) (told : List ℕ) (c : Cut)
    → name ≡ name_of file → disk name ≡ Some at → HasWritten at payloads synced → IsCut disk told c → IsOnlyWritten c.folder c.written file → ReadsFirst c.folder name payloads synced
left_first is_log is_read is_first only disk name at file payloads synced told c named there h is chance =
    let left = left_of disk name at told c there is in
    let known = chance left.0 (ap c.folder (sym named) ∙ left.1) in
    let was : c.written name ≡ Some (written 0 payloads) = is.written_is name ∙ ap (λ (o : Option File). option_map (λ (f : File). f.front ++ f.handed) o) there ∙ ap Some h.all in
    let same : known.0 ≡ written 0 payloads = let e : Some known.0 ≡ Some (written 0 payloads) = sym known.1 ∙ ap c.written (sym named) ∙ was in cc e in
    record {
      bytes = left.0;
      there = left.1;
      first = remnants_read is_log is_read is_first only at payloads synced left.0 h left.2 (subst (OnlyWritten left.0) same known.2);
    }

pub cut_reads : WrittenIsLog → LogIsRead → LogIsReadFirst → OnlyWrittenIsFirst → CutFilesReadAsFronts
cut_reads is_log is_read is_first only disk writer file payloads synced told c named h is chance =
    left_first is_log is_read is_first only disk writer.name h.file file payloads synced told c named h.there (has_written disk writer payloads synced h) is chance

left_whole : (disk : Disk) (name : List ℕ) (at : File) (payloads : List (List ℕ)) (told : List ℕ) (c : Cut) → disk name ≡ Some at → HasWritten at payloads (length payloads) → IsCut disk told c
    → c.folder name ≡ Some (written 0 payloads)
left_whole disk name at payloads told c there h is =
    let left = left_of disk name at told c there is in
    left.1 ∙ ap Some (remnants_whole at payloads left.0 h left.2)

pub synced_left : SyncedFilesAreLeft
synced_left disk writer payloads told c h is = left_whole disk writer.name h.file payloads told c h.there (has_written disk writer payloads (length payloads) h) is

-- ---- while one record more is appended

-- the first so many of records and one more, where these are no fewer: all but it, or all
one_or_both : (folder : List ℕ → Option (List ℕ)) (name : List ℕ) (payloads : List (List ℕ)) (payload : List ℕ) → ReadsFirst folder name (payloads ++ payload ∷ []) (length payloads)
    → ReadsAs folder name payloads ⊎ ReadsAs folder name (payloads ++ payload ∷ [])
one_or_both folder name payloads payload reads =
    let first = reads.first in
    let long : length (payloads ++ payload ∷ []) ≡ length payloads + 1 = length-append payloads (payload ∷ []) in
    let count : (first.count ≡ length payloads) ⊎ (length (payloads ++ payload ∷ []) ≤ first.count) = grind (arith, first.at_least, first.at_most) in
    elim count [
      | inl fewer ↦ inl (record { bytes = reads.bytes; there = reads.there; reads = first.reads ∙ ap (λ n. take n (payloads ++ payload ∷ [])) fewer ∙ take-append-le (length payloads) payloads (payload ∷ []) (omega arith) ∙ take_all (length payloads) payloads (omega arith) })
      | inr all ↦ inr (record { bytes = reads.bytes; there = reads.there; reads = first.reads ∙ take_all first.count (payloads ++ payload ∷ []) all })
    ]

pub appends_read : WrittenIsLog → LogIsRead → LogIsReadFirst → OnlyWrittenIsFirst → CutAppendsReadAsFronts
appends_read is_log is_read is_first only disk during writer file payloads payload told c open_ named h partly is chance = elim partly [
  | inl same ↦
      (let kept = same_holds disk during writer writer payloads (length payloads) same refl (λ still. refl) h in
      inl (record { bytes = written 0 payloads; there = synced_left during writer payloads told c kept is; reads = files_read is_log is_read payloads }))
  | inr a ↦ elim a.written [
    | inl handed ↦ one_or_both c.folder writer.name payloads payload
        (left_first is_log is_read is_first only during writer.name a.now file (payloads ++ payload ∷ []) (length payloads) told c named a.puts.at
        (handed_written disk writer payloads payload (length payloads) a.file a.now open_ a.was handed.0 handed.1 h) is chance)
    | inr synced ↦ inr (record {
      bytes = written 0 (payloads ++ payload ∷ []);
      there = left_whole during writer.name a.now (payloads ++ payload ∷ []) told c a.puts.at (synced_written disk writer payloads payload (length payloads) a.file a.now open_ a.was synced.0 synced.1 h) is;
      reads = files_read is_log is_read (payloads ++ payload ∷ []);
    })
  ]
]
