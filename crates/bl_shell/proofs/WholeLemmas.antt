-- That logs have no unsynced byte, by what every cut leaves of them.
use Rattle.std.proofs.Common.{◌≡◌, inl, inr, ℕ, List, [], ◌++◌, length, Option, None, Some, refl, sym, ◌∙◌, ap, arith, append-nil, length-append}
use Rattle.std.specs.Option.{option_map}
use Rattle.std.proofs.lemmas.List.{nil_from_length}
use Rattle.bl_site.specs.Disk.{Name, File, Disk, Cut, IsRemnant, IsLeft, IsCut, written_of}
use Rattle.bl_wal.specs.LogFile.{log_name}
use Rattle.bl_logstore.specs.Cuts.{HasData, HasBytes, AreLeftWhole, AreWhole}
use Rattle.bl_logstore.specs.Stored.{IsSynced}
use Rattle.bl_shell.specs.Cuts.{as_it_reads}
use Rattle.bl_shell.proofs.CrashLemmas.{as_read}

abbrev read_in : Option File → Option (List ℕ)
read_in o = option_map (λ (file : File). file.read) o

abbrev front_in : Option File → Option (List ℕ)
front_in o = option_map (λ (file : File). file.front) o

abbrev written_in : Option File → Option (List ℕ)
written_in o = option_map (λ (file : File). file.front ++ file.handed) o

-- what reads was written
written_data : (o : Option File) → ((file : File) → o ≡ Some file → IsRemnant file file.read) → HasData o → HasBytes (written_in o)
written_data None remnant has = absurd has
written_data (Some file) remnant has = λ none.
    let r = remnant file refl in
    elim has [
      | inl reads ↦ reads (nil_from_length file.read (omega (arith, ap length r.split, length-append file.front r.tail, r.no_longer, ap length none, length-append file.front file.handed)))
      | inr wrote ↦ wrote none
    ]

-- no tail of it can be lost, and none be other
synced_of : (o : Option File) → read_in o ≡ written_in o → front_in o ≡ written_in o → IsSynced o
synced_of None reads fronts = tt
synced_of (Some file) reads fronts =
    let read : file.read ≡ file.front ++ file.handed = cc reads in
    let front : file.front ≡ file.front ++ file.handed = cc fronts in
    (front ∙ sym read, nil_from_length file.handed (omega (arith, ap length front, length-append file.front file.handed)))

-- a cut that leaves the synced bytes alone
abbrev fronts_alone : Disk → List ℕ → Cut
fronts_alone disk told = record { folder = λ (name : Name). front_in (disk name); told = told; written = written_of disk }

front_left : (o : Option File) → IsLeft o (front_in o)
front_left None = tt
front_left (Some file) = record { tail = []; split = sym (append-nil file.front); no_longer = omega arith }

pub whole_disk : (disk : Disk) (told : List ℕ) → ((name : Name) (file : File) → disk name ≡ Some file → IsRemnant file file.read) → ((c : Cut) → IsCut disk told c → AreLeftWhole c) → AreWhole disk
whole_disk disk told remnant whole lower upper is lt less has =
    let has_bytes = written_data (disk (log_name upper)) (remnant (log_name upper)) has in
    let as_read = whole (as_it_reads disk told) (record { image = λ name. as_read (disk name) (remnant name); told_is = refl; written_is = λ name. refl }) in
    let alone = whole (fronts_alone disk told) (record { image = λ name. front_left (disk name); told_is = refl; written_is = λ name. refl }) in
    synced_of (disk (log_name lower)) (as_read lower upper is lt less (inr has_bytes)) (alone lower upper is lt less (inr has_bytes))
