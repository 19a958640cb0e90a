use Rattle.std.proofs.Common.{◌≡◌, None, Some, inl, sym, ◌∙◌, ap, subst}
use Rattle.bl_site.specs.Disk.{Disk, folder_of}
use Rattle.bl_names.specs.Names.{manifest_name}
use Rattle.bl_records.proofs.AnswerLemmas.{record_of, end_of}
use Rattle.bl_site.proofs.Quiet.{reads_nothing, reads_on}
use Rattle.bl_manifest.specs.Restores.{SequenceFits}
use Rattle.bl_manifest.proofs.ProgressLemmas.{begins, record_taken, ended, ended_short, broke_off, taken_of, corrupt_is, restored_fits}
use Rattle.bl_manifest.proofs.read.read_all.Goals as goal

pub records-init : goal.records-init
records-init g c =
    let site = g.S.Site in
    record {
      name = c.in_ok-records.ensures.name ∙ c.in_ok-name.ensures;
      progress = λ shown. begins (folder_of (site.disk c.args.site.now) (manifest_name c.args.number)) c.in_ok-records.records c.empty-version.result c.new-known.result (c.in_ok-records.ensures.begins _) c.empty-version.ensures c.new-known.ensures;
      fits = subst SequenceFits (sym c.new-known.ensures) tt;
      quiet = reads_nothing site c.args.site.now;
    }

pub returns-in_err-payload-clause-quiet : goal.returns-in_err-payload-clause-quiet
returns-in_err-payload-clause-quiet g c = reads_on g.S.Site c.args.site.now c.records.site c.next.new.site c.records.invariant.quiet c.next.ensures.quiet

pub returns-in_err-taken-in-Record-clause-quiet : goal.returns-in_err-taken-in-Record-clause-quiet
returns-in_err-taken-in-Record-clause-quiet g c = reads_on g.S.Site c.args.site.now c.records.site c.next.new.site c.records.invariant.quiet c.next.ensures.quiet

pub returns-in_default-clause-quiet : goal.returns-in_default-clause-quiet
returns-in_default-clause-quiet g c = reads_on g.S.Site c.args.site.now c.records.site c.next.new.site c.records.invariant.quiet c.next.ensures.quiet

pub returns-in_default-standing_of-clause-quiet : goal.returns-in_default-standing_of-clause-quiet
returns-in_default-standing_of-clause-quiet g c = reads_on g.S.Site c.args.site.now c.records.site c.next.new.site c.records.invariant.quiet c.next.ensures.quiet

pub returns-in-End-clause-quiet : goal.returns-in-End-clause-quiet
returns-in-End-clause-quiet g c = reads_on g.S.Site c.args.site.now c.records.site c.next.new.site c.records.invariant.quiet c.next.ensures.quiet

pub returns-in-Absent-clause-quiet : goal.returns-in-Absent-clause-quiet
returns-in-Absent-clause-quiet g c = reads_on g.S.Site c.args.site.now c.records.site c.next.new.site c.records.invariant.quiet c.next.ensures.quiet

pub returns-in_default-clause-corrupt : goal.returns-in_default-clause-corrupt
returns-in_default-clause-corrupt g c = λ shown file place e.
    let site = g.S.Site in
    let folder = folder_of (site.disk c.args.site.now) in
    let same : folder_of (site.disk c.records.site) c.records.records.name ≡ folder (manifest_name c.args.number) =
    ap (λ (d : Disk). folder_of d c.records.records.name) (c.records.invariant.quiet.stays shown).same ∙ ap folder c.records.invariant.name in
    let is = corrupt_is c.corrupt.result c.name.result.now file c.place.result place c.corrupt.ensures (cc e) in
    let t = taken_of c.in_ok-taken-in-Record.taken None c.in-Record.payload c.as_slice.result.now _ _ _ c.in_default.is c.as_slice.ensures c.in_ok-taken-in-Record.ensures.taken in (
      is.0 ∙ c.name.ensures ∙ c.next.ensures.name ∙ c.records.invariant.name,
      broke_off folder c.args.number c.records.records c.next.new.self c.in-Record.payload c.records.version c.records.known place
          (record_of c.in_ok-payload.field-0 c.in-Record.payload (folder_of (site.disk c.records.site) c.records.records.name) (folder (manifest_name c.args.number)) c.records.records c.next.new.self c.in-Record.is same (c.in_ok-payload.ensures.answers shown)) t (is.1 ∙ c.place.ensures) (c.records.invariant.progress shown),
    )

pub returns-in_default-standing_of-clause-corrupt : goal.returns-in_default-standing_of-clause-corrupt
returns-in_default-standing_of-clause-corrupt g c = λ shown file place e.
    let site = g.S.Site in
    let folder = folder_of (site.disk c.args.site.now) in
    let same : folder_of (site.disk c.records.site) c.records.records.name ≡ folder (manifest_name c.args.number) =
    ap (λ (d : Disk). folder_of d c.records.records.name) (c.records.invariant.quiet.stays shown).same ∙ ap folder c.records.invariant.name in
    let is = corrupt_is c.corrupt-in_default-standing_of.result c.name-in_default-standing_of.result.now file c.in-End.place place c.corrupt-in_default-standing_of.ensures (cc e) in (
      is.0 ∙ c.name-in_default-standing_of.ensures ∙ c.next.ensures.name ∙ c.records.invariant.name,
      ended_short c.placed_records_are_records.ensures folder c.args.number c.records.records c.records.version c.records.known c.in-End.place c.in-End.field-1 place
          (end_of c.in_ok-payload.field-0 c.in-End.place c.in-End.field-1 (folder_of (site.disk c.records.site) c.records.records.name) (folder (manifest_name c.args.number)) c.records.records c.next.new.self c.in-End.is same (c.in_ok-payload.ensures.answers shown)) (sym c.in_default-standing_of.ensures) is.1 (c.records.invariant.progress shown),
    )

pub returns-in-Absent-clause-corrupt : goal.returns-in-Absent-clause-corrupt
returns-in-Absent-clause-corrupt g c = λ shown file place e.
    let site = g.S.Site in
    let folder = folder_of (site.disk c.args.site.now) in
    let same : folder_of (site.disk c.records.site) c.records.records.name ≡ folder (manifest_name c.args.number) =
    ap (λ (d : Disk). folder_of d c.records.records.name) (c.records.invariant.quiet.stays shown).same ∙ ap folder c.records.invariant.name in
    let is = corrupt_is c.corrupt-in-Absent.result c.name-in-Absent.result.now file 0 place c.corrupt-in-Absent.ensures (cc e) in
    (is.0 ∙ c.name-in-Absent.ensures ∙ c.next.ensures.name ∙ c.records.invariant.name, inl (sym same ∙ c.in_ok-payload.ensures.absent shown c.in-Absent.is, is.1))

pub returns-in-End-clause-restored : goal.returns-in-End-clause-restored
returns-in-End-clause-restored g c = λ shown.
    let site = g.S.Site in
    let folder = folder_of (site.disk c.args.site.now) in
    let same : folder_of (site.disk c.records.site) c.records.records.name ≡ folder (manifest_name c.args.number) =
    ap (λ (d : Disk). folder_of d c.records.records.name) (c.records.invariant.quiet.stays shown).same ∙ ap folder c.records.invariant.name in
    ended c.placed_records_are_records.ensures folder c.args.number c.records.records c.records.version c.records.known c.in-Some-standing_of.standing c.in-End.place c.in-End.field-1
    (end_of c.in_ok-payload.field-0 c.in-End.place c.in-End.field-1 (folder_of (site.disk c.records.site) c.records.records.name) (folder (manifest_name c.args.number)) c.records.records c.next.new.self c.in-End.is same (c.in_ok-payload.ensures.answers shown)) (sym c.in-Some-standing_of.ensures) (c.records.invariant.progress shown)

pub returns-in-End-clause-bounds : goal.returns-in-End-clause-bounds
returns-in-End-clause-bounds g c = (restored_fits c.records.known c.in-Some-standing_of.standing (sym c.in-Some-standing_of.ensures) c.records.invariant.fits).0

pub returns-in-End-clause-numbers : goal.returns-in-End-clause-numbers
returns-in-End-clause-numbers g c = (restored_fits c.records.known c.in-Some-standing_of.standing (sym c.in-Some-standing_of.ensures) c.records.invariant.fits).1

pub records-preserved : goal.records-preserved
records-preserved g c =
    let site = g.S.Site in
    let folder = folder_of (site.disk c.args.site.now) in
    let t = taken_of c.in_ok-taken-in-Record.taken (Some c.in-Some.next) c.in-Record.payload c.as_slice.result.now _ _ _ c.in-Some.is c.as_slice.ensures c.in_ok-taken-in-Record.ensures.taken in
    record {
      name = c.next.ensures.name ∙ c.records.invariant.name;
      progress = λ shown.
          let same : folder_of (site.disk c.records.site) c.records.records.name ≡ folder (manifest_name c.args.number) =
          ap (λ (d : Disk). folder_of d c.records.records.name) (c.records.invariant.quiet.stays shown).same ∙ ap folder c.records.invariant.name in
          record_taken (folder (manifest_name c.args.number)) c.records.records c.next.new.self c.in-Record.payload _ _ _ _
          (record_of c.in_ok-payload.field-0 c.in-Record.payload (folder_of (site.disk c.records.site) c.records.records.name) (folder (manifest_name c.args.number)) c.records.records c.next.new.self c.in-Record.is same (c.in_ok-payload.ensures.answers shown)) t (c.records.invariant.progress shown);
      fits = c.take_record.ensures.fits c.records.invariant.fits;
      quiet = reads_on site c.args.site.now c.records.site c.next.new.site c.records.invariant.quiet c.next.ensures.quiet;
    }
