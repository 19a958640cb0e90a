use Rattle.std.proofs.Common.{◌≡◌, [], ◌∷◌, ◌++◌, List, ℕ, Option, Err, sym, ◌∙◌, ap, subst}
use Rattle.std.proofs.lemmas.Result.{err_from_is_err_and}
use Rattle.bl_site.specs.Disk.{folder_of}
use Rattle.bl_site.proofs.Quiet.{reads_nothing, reads_on}
use Rattle.bl_wal.specs.LogFile.{log_name}
use Rattle.bl_wal.proofs.ProgressLemmas.{all_entries, ends_at, ends_behind, entries_join, one_more, same_file}
use Rattle.bl_wal.specs.Replay.{BreaksOffAt, HasEntries, HasReplayed}
use Rattle.bl_wal.specs.declared.error.WalErr.TheVariants.{Corrupt}
use Rattle.bl_entry.specs.declared.key.Entry.{Entry}
use Rattle.bl_wal.proofs.replayed.replay.Goals as goal

pub batches-init : goal.batches-init
batches-init g c =
    let site = g.S.Site in
    record {
      name = c.in_ok-batches.ensures.name;
      progress = λ shown. record { batches = []; has = c.in_ok-batches.ensures.begins (folder_of (site.disk c.args.site.now) (log_name c.args.number)); entries_are = c.new-entries.ensures.items };
      quiet = reads_nothing site c.args.site.now;
    }

pub returns-in_err-first-clause-corrupt : goal.returns-in_err-first-clause-corrupt
returns-in_err-first-clause-corrupt g c = λ shown name place is.
    let site = g.S.Site in
    let p = err_from_is_err_and c.from_residual-in_err-first.result c.from_residual-in_err-first.ensures.1 in
    let e : c.in_err-first.field-0.0 ≡ Corrupt name place = cc (is, p.1, p.2) in
    let i = c.batches.invariant in
    let same = same_file (folder_of (site.disk c.batches.site)) (folder_of (site.disk c.args.site.now)) c.batches.batches.records.name (log_name c.args.number) (ap folder_of (i.quiet.stays shown).same) i.name in
    let so_far = i.progress shown in (
      c.in_err-first.ensures.named name place (ap Err e) ∙ i.name,
      subst (λ (f : Option (List ℕ)). BreaksOffAt f c.args.last place) same
          (c.in_err-first.ensures.corrupt shown name place (ap Err e) c.args.last so_far.batches (subst (λ (f : Option (List ℕ)). HasReplayed f c.args.last so_far.batches c.batches.batches) (sym same) so_far.has)),
    )

pub returns-in_err-first-clause-quiet : goal.returns-in_err-first-clause-quiet
returns-in_err-first-clause-quiet g c = reads_on g.S.Site c.args.site.now c.batches.site c.next.new.site c.batches.invariant.quiet c.next.ensures.quiet

pub returns-in_err-put_entries-in-Batch-clause-quiet : goal.returns-in_err-put_entries-in-Batch-clause-quiet
returns-in_err-put_entries-in-Batch-clause-quiet g c = reads_on g.S.Site c.args.site.now c.batches.site c.next.new.site c.batches.invariant.quiet c.next.ensures.quiet

pub returns-in-End-clause-quiet : goal.returns-in-End-clause-quiet
returns-in-End-clause-quiet g c = reads_on g.S.Site c.args.site.now c.batches.site c.next.new.site c.batches.invariant.quiet c.next.ensures.quiet

pub returns-in-End-clause-replayed : goal.returns-in-End-clause-replayed
returns-in-End-clause-replayed g c = λ shown.
    let site = g.S.Site in
    let folder = folder_of (site.disk c.args.site.now) in
    let i = c.batches.invariant in
    let same = same_file (folder_of (site.disk c.batches.site)) folder c.batches.batches.records.name (log_name c.args.number) (ap folder_of (i.quiet.stays shown).same) i.name in
    let so_far = i.progress shown in
    let end = ends_behind c.in_ok-first.field-0 c.in-End.ended _ _ c.args.last so_far.batches c.batches.batches c.next.new.self c.in-End.is same (c.in_ok-first.ensures.answers shown) so_far.has in
    let P : List Entry → Type 0 = λ es. HasEntries folder c.args.number c.args.last es c.last.result in
    let Q : ℕ → Type 0 = λ n. HasEntries folder c.args.number c.args.last c.batches.entries.items n in
    subst P (sym c.from_vec.ensures) (subst Q (sym c.last.ensures) (all_entries folder c.args.number c.args.last so_far.batches c.next.new.self.last c.in-End.ended c.batches.entries.items end so_far.entries_are))

pub returns-in-End-clause-ended : goal.returns-in-End-clause-ended
returns-in-End-clause-ended g c = λ shown.
    let site = g.S.Site in
    let folder = folder_of (site.disk c.args.site.now) in
    let i = c.batches.invariant in
    let same = same_file (folder_of (site.disk c.batches.site)) folder c.batches.batches.records.name (log_name c.args.number) (ap folder_of (i.quiet.stays shown).same) i.name in
    let so_far = i.progress shown in
    ends_at folder c.args.number c.args.last so_far.batches c.next.new.self.last c.in-End.ended
    (ends_behind c.in_ok-first.field-0 c.in-End.ended _ _ c.args.last so_far.batches c.batches.batches c.next.new.self c.in-End.is same (c.in_ok-first.ensures.answers shown) so_far.has)

pub batches-preserved : goal.batches-preserved
batches-preserved g c =
    let site = g.S.Site in
    let folder = folder_of (site.disk c.args.site.now) in
    let i = c.batches.invariant in
    record {
      name = c.next.ensures.name ∙ i.name;
      progress = λ shown.
          let same = same_file (folder_of (site.disk c.batches.site)) folder c.batches.batches.records.name (log_name c.args.number) (ap folder_of (i.quiet.stays shown).same) i.name in
          let so_far = i.progress shown in
          record {
            batches = so_far.batches ++ record { first = c.in-Batch.first; operations = c.in-Batch.batch } ∷ [];
            has = one_more c.in_ok-first.field-0 c.in-Batch.first c.in-Batch.batch _ _ c.args.last so_far.batches c.batches.batches c.next.new.self c.in-Batch.is same (c.in_ok-first.ensures.answers shown) so_far.has;
            entries_are = entries_join so_far.batches (record { first = c.in-Batch.first; operations = c.in-Batch.batch }) c.batches.entries.items c.put_entries.new.entries.items so_far.entries_are c.in_ok-put_entries-in-Batch.ensures.put;
          };
      quiet = reads_on site c.args.site.now c.batches.site c.next.new.site i.quiet c.next.ensures.quiet;
    }
