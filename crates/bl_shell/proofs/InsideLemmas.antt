-- A run that reads nothing, and one that ends in Words or Done.
use Rattle.std.proofs.Common.{◌≡◌, ◌⊎◌, ℕ, ◌-◌, ◌^◌, arith, inl, inr, ap, refl, IsSome}
use Rattle.bl_site.specs.Disk.{Folder}
use Rattle.bl_names.specs.Names.{IsNumber}
use Rattle.bl_wal.specs.LogFile.{log_name}
use Rattle.bl_logstore.specs.Causes.{IsOpening as IsStoreOpening}
use Rattle.bl_logstore.specs.Folders.{IsNext}
use Rattle.bl_logstore.specs.declared.error.StoreErr.{StoreErr}
use Rattle.bl_logstore.specs.declared.error.StoreErr.TheVariants as store
use Rattle.bl_shell.specs.Causes.{IsOpening, IsReading, stop_of_store}
use Rattle.bl_shell.specs.Headline.{Run, AnswersAsMap, folder, folder_after, IsFailure}
use Rattle.bl_shell.specs.Telling.{HasRun}
use Rattle.bl_shell.specs.declared.status.Status.{Status}
use Rattle.bl_shell.specs.declared.status.Status.TheVariants.{Done, Words, TellFault, DiskFault, OutOfMemory}
use Rattle.bl_shell.specs.declared.stop.Stop.TheVariants as stop

-- an opening does not stop for what the script brings
pub opening_reads_nothing : (e : StoreErr) → IsReading (stop_of_store e) → ⊥
opening_reads_nothing store.Disk is = is
opening_reads_nothing store.OutOfMemory is = is
opening_reads_nothing (store.Corrupt name place) is = is
opening_reads_nothing (store.Full number) is = is
opening_reads_nothing store.Broken is = is

-- it stops as an opening, or at the last number
pub opening_or_full : (e : StoreErr) → IsStoreOpening e → ((number : ℕ) → e ≡ store.Full number → number ≡ 10 ^ 15) → IsOpening (stop_of_store e) ⊎ (stop_of_store e ≡ stop.Full (10 ^ 15))
opening_or_full store.Disk is full = inl tt
opening_or_full store.OutOfMemory is full = inl tt
opening_or_full (store.Corrupt name place) is full = inl tt
opening_or_full (store.Full number) is full = inr (ap stop.Full (full number refl))
opening_or_full store.Broken is full = absurd is

-- behind a log of the greatest number there is none
pub no_more_logs : (found : Folder) (number : ℕ) → IsNumber number → IsNext found number → IsSome (found (log_name (10 ^ 15 - 1))) → ⊥
no_more_logs found number is next last = omega (arith, is, next.above (10 ^ 15 - 1) (omega arith, omega arith) last)

failed_how : (status : Status) → IsFailure status → (status ≡ TellFault → ⊥) → (status ≡ DiskFault → ⊥) → (status ≡ OutOfMemory → ⊥) → ⊥
failed_how status failed tell disk memory = elim failed [ inl is ↦ tell is | inr more ↦ elim more [ inl is ↦ disk is | inr is ↦ memory is ] ]

pub words_answer : (run : Run) → AnswersAsMap run Words
words_answer run = record {
  done = λ is. absurd (cc is);
  taken = λ how. absurd (elim how [ inl is ↦ cc is | inr is ↦ cc is ]);
  full = λ is. absurd (cc is);
  failed = λ how. absurd (failed_how Words how (λ is. cc is) (λ is. cc is) (λ is. cc is));
  untold = λ is. absurd (cc is);
}

pub done_answers : (run : Run) → HasRun (folder run) (folder_after run) run.script run.told run.told_after → AnswersAsMap run Done
done_answers run has = record {
  done = λ is. has;
  taken = λ how. absurd (elim how [ inl is ↦ cc is | inr is ↦ cc is ]);
  full = λ is. absurd (cc is);
  failed = λ how. absurd (failed_how Done how (λ is. cc is) (λ is. cc is) (λ is. cc is));
  untold = λ is. absurd (cc is);
}
