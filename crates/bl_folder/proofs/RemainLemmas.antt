-- The batches that remain in logs.
use Rattle.std.proofs.Common.{◌≡◌, ℕ, zero, suc, ◌+◌, List, ◌++◌, sym, ◌∙◌, ap, arith, Option, Some, None, append_assoc, append-nil}
use Rattle.std.specs.Prelude.{option_and_then}
use Rattle.std.proofs.lemmas.List.{append_cancel_left}
use Rattle.bl_site.specs.Disk.{Folder}
use Rattle.bl_log.specs.Log.{records}
use Rattle.bl_entry.specs.Batches.{Batch}
use Rattle.bl_entry.specs.Records.{BatchesJoin, and_batches, batches_of}
use Rattle.bl_folder.specs.Files.{log_bytes}
use Rattle.bl_folder.specs.Logs.{log_records}
use Rattle.bl_folder.specs.FlushLaws.{LogsAlike, LogsSplit}
use Rattle.bl_folder.proofs.LogLemmas.{behind_the_last, same_logs}
use Rattle.bl_folder.proofs.OneLemmas.{pair_is}

pub logs_alike : LogsAlike
logs_alike old new from before last batches same h = record {
  count = h.count;
  no_more = λ n le. same n (omega arith) ∙ h.no_more n le;
  are = ap (λ rs. batches_of rs before) (same_logs old new from h.count same) ∙ h.are;
}

two_parts : (folder : Folder) (from skip count : ℕ) → log_records folder from (skip + count) ≡ log_records folder from skip ++ log_records folder (from + skip) count
unfolding log_records
two_parts folder from skip zero = let e : skip + 0 ≡ skip = omega arith in ap (log_records folder from) e ∙ sym (append-nil (log_records folder from skip))
two_parts folder from skip (suc count) =
    let e : skip + suc count ≡ suc (skip + count) = omega arith in
    let at : from + (skip + count) ≡ (from + skip) + count = omega arith in
    ap (log_records folder from) e ∙ (λ i. two_parts folder from skip count i ++ records (log_bytes folder (at i)))
    ∙ append_assoc (log_records folder from skip) (log_records folder (from + skip) count) (records (log_bytes folder ((from + skip) + count)))

rest_is : (front back : List Batch) (last : ℕ) (o : Option (List Batch × ℕ)) → and_batches front o ≡ Some (front ++ back, last) → o ≡ Some (back, last)
rest_is front back last None h = absurd cc
rest_is front back last (Some x) h =
    let p = pair_is h in
    let same : x.0 ≡ back = append_cancel_left front x.0 back p.0 in
    λ i. Some (same i, p.1 i)

pub logs_split : BatchesJoin → LogsSplit
logs_split join folder from skip before mid last front back h first =
    let c : ℕ = h.count in
    let swap : skip + c ≡ c + skip = omega arith in
    let all : batches_of (log_records folder from skip ++ log_records folder (from + skip) c) before ≡ Some (front ++ back, last) =
    ap (λ rs. batches_of rs before) (sym (two_parts folder from skip c) ∙ ap (log_records folder from) swap ∙ behind_the_last folder from c skip h.no_more) ∙ h.are in
    let joined : and_batches front (batches_of (log_records folder (from + skip) c) mid) ≡ Some (front ++ back, last) =
    sym (join (log_records folder from skip) (log_records folder (from + skip) c) before ∙ ap (option_and_then (λ x. and_batches x.0 (batches_of (log_records folder (from + skip) c) x.1))) first) ∙ all in
    record { count = c; no_more = λ n le. h.no_more n (omega arith); are = rest_is front back last (batches_of (log_records folder (from + skip) c) mid) joined }
