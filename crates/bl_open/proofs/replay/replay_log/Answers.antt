use Rattle.std.proofs.Common.{◌≡◌, [], ◌∷◌, ◌+◌, ◌<◌, ◌^◌, ◌++◌, length, List, ℕ, Option, Err, sym, ◌∙◌, ap, subst}
use Rattle.std.proofs.lemmas.Result.{err_from_is_err_and}
use Rattle.bl_site.specs.Disk.{folder_of}
use Rattle.bl_site.proofs.Quiet.{reads_nothing, reads_on}
use Rattle.bl_entry.proofs.ListLemmas.{all_append}
use Rattle.bl_entry.specs.Written.{entries_from}
use Rattle.bl_entry.specs.declared.key.Entry.{Entry}
use Rattle.bl_memtab.specs.Filled.{Holds}
use Rattle.bl_wal.specs.LogFile.{log_name}
use Rattle.bl_wal.specs.Replay.{BreaksOffAt, HasReplayed, IsNext}
use Rattle.bl_wal.specs.declared.error.WalErr.TheVariants as wal
use Rattle.bl_wal.proofs.ProgressLemmas.{ends_behind, one_more, same_file}
use Rattle.bl_folder.specs.Memories.{IsInBounds}
use Rattle.bl_open.proofs.ReplayLemmas.{filled_more, follows_end, follows_next, held_more, last_fits, log_ended, nothing_yet, wal_corrupt}
use Rattle.bl_open.specs.Replaying.{IsFilled}
use Rattle.bl_open.proofs.replay.replay_log.Goals as goal

pub batches-init : goal.batches-init
batches-init g c =
    let file = folder_of (g.S.Site.disk c.args.site.now) (log_name c.args.number) in
    record {
      name = c.in_ok-batches.ensures.name;
      filled = subst (IsFilled c.args.memory.now) (sym c.in_ok-batches.ensures.last) c.requires.filled;
      progress = λ shown. nothing_yet c.args.last file c.args.memory.now c.in_ok-batches.batches (c.in_ok-batches.ensures.begins file) c.in_ok-batches.ensures.last;
      bound = λ lt. subst (λ n. n < 2 ^ 56) (sym c.in_ok-batches.ensures.last) lt;
      quiet = reads_nothing g.S.Site c.args.site.now;
    }

pub returns-in_err-batch-clause-corrupt : goal.returns-in_err-batch-clause-corrupt
returns-in_err-batch-clause-corrupt g c = λ shown name place is.
    let site = g.S.Site in
    let p = err_from_is_err_and c.from_residual-in_err-batch.result c.from_residual-in_err-batch.ensures.1 in
    let e : c.in_err-batch.field-0.0 ≡ wal.Corrupt name place = wal_corrupt c.in_err-batch.field-0.0 name place (cc (is, p.1, p.2)) in
    let i = c.batches.invariant in
    let same = same_file (folder_of (site.disk c.batches.site)) (folder_of (site.disk c.args.site.now)) c.batches.batches.records.name (log_name c.args.number) (ap folder_of (i.quiet.stays shown).same) i.name in
    let so_far = i.progress shown in (
      c.in_err-batch.ensures.named name place (ap Err e) ∙ i.name,
      subst (λ (f : Option (List ℕ)). BreaksOffAt f c.args.last place) same
          (c.in_err-batch.ensures.corrupt shown name place (ap Err e) c.args.last so_far.batches (subst (λ (f : Option (List ℕ)). HasReplayed f c.args.last so_far.batches c.batches.batches) (sym same) so_far.has)),
    )

pub returns-in_err-batch-clause-quiet : goal.returns-in_err-batch-clause-quiet
returns-in_err-batch-clause-quiet g c = reads_on g.S.Site c.args.site.now c.batches.site c.next.new.site c.batches.invariant.quiet c.next.ensures.quiet

pub returns-in_err-insert_batch-in-Batch-clause-quiet : goal.returns-in_err-insert_batch-in-Batch-clause-quiet
returns-in_err-insert_batch-in-Batch-clause-quiet g c = reads_on g.S.Site c.args.site.now c.batches.site c.next.new.site c.batches.invariant.quiet c.next.ensures.quiet

pub returns-in-End-clause-quiet : goal.returns-in-End-clause-quiet
returns-in-End-clause-quiet g c = reads_on g.S.Site c.args.site.now c.batches.site c.next.new.site c.batches.invariant.quiet c.next.ensures.quiet

pub returns-in-End-clause-replayed : goal.returns-in-End-clause-replayed
returns-in-End-clause-replayed g c = λ shown.
    let site = g.S.Site in
    let folder = folder_of (site.disk c.args.site.now) in
    let i = c.batches.invariant in
    let same = same_file (folder_of (site.disk c.batches.site)) folder c.batches.batches.records.name (log_name c.args.number) (ap folder_of (i.quiet.stays shown).same) i.name in
    let so_far = i.progress shown in
    let end = ends_behind c.in_ok-batch.field-0 c.in-End.field-0 _ _ c.args.last so_far.batches c.batches.batches c.next.new.self c.in-End.is same (c.in_ok-batch.ensures.answers shown) so_far.has in
    log_ended folder c.args.number c.args.last c.last-last.result c.next.new.self.last c.args.memory.now c.batches.memory c.batches.batches c.in-End.field-0 so_far end
    (follows_end c.in_ok-batch.field-0 c.in-End.field-0 c.batches.batches.last c.next.new.self.last c.in-End.is c.in_ok-batch.ensures.follows) c.last-last.ensures

pub returns-in-End-clause-bound : goal.returns-in-End-clause-bound
returns-in-End-clause-bound g c = λ lt. subst (λ n. n < 2 ^ 56) (sym c.last-last.ensures) (c.batches.invariant.bound lt)

pub batches-preserved : goal.batches-preserved
batches-preserved g c =
    let site = g.S.Site in
    let folder = folder_of (site.disk c.args.site.now) in
    let i = c.batches.invariant in
    let first = c.in-Batch.field-0 in
    let next : IsNext first c.in-Batch.batch c.batches.batches.last c.next.new.self.last = follows_next c.in_ok-batch.field-0 first c.in-Batch.batch c.batches.batches.last c.next.new.self.last c.in-Batch.is c.in_ok-batch.ensures.follows in
    let fits : IsInBounds (record { first = first; operations = c.in-Batch.batch }) = record { operations = c.insert_batch.ensures.fit; sequences = next.bounds } in
    let more = subst (λ n. (written : List Entry) → Holds c.batches.memory written n → Holds c.insert_batch.new.memory (written ++ entries_from (n + 1) c.in-Batch.batch) (n + length c.in-Batch.batch)) c.last-last.ensures c.in_ok-insert_batch-in-Batch.ensures.holds in
    record {
      name = c.next.ensures.name ∙ i.name;
      filled = filled_more first c.batches.batches.last c.next.new.self.last c.in-Batch.batch c.batches.memory c.insert_batch.new.memory fits next more i.filled;
      progress = λ shown.
          let same = same_file (folder_of (site.disk c.batches.site)) folder c.batches.batches.records.name (log_name c.args.number) (ap folder_of (i.quiet.stays shown).same) i.name in
          let so_far = i.progress shown in
          record {
            batches = so_far.batches ++ record { first = first; operations = c.in-Batch.batch } ∷ [];
            has = one_more c.in_ok-batch.field-0 first c.in-Batch.batch _ _ c.args.last so_far.batches c.batches.batches c.next.new.self c.in-Batch.is same (c.in_ok-batch.ensures.answers shown) so_far.has;
            fit = all_append IsInBounds so_far.batches (record { first = first; operations = c.in-Batch.batch } ∷ []) so_far.fit (fits, tt);
            holds = λ written h. held_more written so_far.batches first c.batches.batches.last c.next.new.self.last c.in-Batch.batch c.batches.memory c.insert_batch.new.memory next more (so_far.holds written h);
          };
      bound = λ lt. last_fits first c.batches.batches.last c.next.new.self.last c.in-Batch.batch next (i.bound lt);
      quiet = reads_on site c.args.site.now c.batches.site c.next.new.site i.quiet c.next.ensures.quiet;
    }
