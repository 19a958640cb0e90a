use Rattle.std.proofs.Common.{◌≡◌, List, ℕ, Option, sym, ◌∙◌, ap, subst}
use Rattle.bl_site.specs.Disk.{folder_of}
use Rattle.bl_records.proofs.AnswerLemmas.{end_of, record_of}
use Rattle.bl_wal.proofs.ProgressLemmas.{batch_taken, broke_off, corrupt_is, ended, taken_none, taken_some}
use Rattle.bl_wal.specs.Replay.{BatchReading, HasReplayed}
use Rattle.bl_wal.proofs.batches.BatchReader.next.Goals as goal

pub returns-in-Some-clause-answers : goal.returns-in-Some-clause-answers
returns-in-Some-clause-answers g c = λ shown before batches p.
    let folder = folder_of (g.S.Site.disk c.args.site.now) in
    let file : Option (List ℕ) = folder c.args.self.now.records.name in
    let old : BatchReading = record { records = c.self.inside.records; last = c.self.inside.last } in
    let new : BatchReading = record { records = c.next.new.self; last = c.take_batch.new.last } in
    let is : old ≡ c.args.self.now = c.self.view_is in
    let there : folder c.self.inside.records.name ≡ file = ap (λ (r : BatchReading). folder r.records.name) is in
    let t = taken_some c.in_ok-first-in-Record.field-0 c.in-Some.first c.in-Some.batch c.as_slice.result.now c.in-Record.payload c.self.inside.last c.take_batch.new.last c.in-Some.is c.as_slice.ensures c.in_ok-first-in-Record.ensures.taken in
    batch_taken before file c.batches_join.ensures.join old new c.in-Record.payload batches (record { first = c.in-Some.first; operations = c.in-Some.batch })
    (record_of c.in_ok-payload.field-0 c.in-Record.payload (folder c.self.inside.records.name) file c.self.inside.records c.next.new.self c.in-Record.is there (c.in_ok-payload.ensures.answers shown))
    t.0 (subst (HasReplayed file before batches) (sym is) p)

pub returns-in-Record-clause-corrupt : goal.returns-in-Record-clause-corrupt
returns-in-Record-clause-corrupt g c = λ shown name place e before batches p.
    let folder = folder_of (g.S.Site.disk c.args.site.now) in
    let file : Option (List ℕ) = folder c.args.self.now.records.name in
    let old : BatchReading = record { records = c.self.inside.records; last = c.self.inside.last } in
    let is : old ≡ c.args.self.now = c.self.view_is in
    let there : folder c.self.inside.records.name ≡ file = ap (λ (r : BatchReading). folder r.records.name) is in
    let at = corrupt_is c.corrupt.result c.name.result.now name c.place.result place c.corrupt.ensures (cc e) in
    let none = taken_none c.in_ok-first-in-Record.field-0 c.as_slice.result.now c.in-Record.payload c.self.inside.last c.take_batch.new.last c.in-None.is c.as_slice.ensures c.in_ok-first-in-Record.ensures.taken in
    broke_off before file old c.next.new.self c.in-Record.payload batches place
    (record_of c.in_ok-payload.field-0 c.in-Record.payload (folder c.self.inside.records.name) file c.self.inside.records c.next.new.self c.in-Record.is there (c.in_ok-payload.ensures.answers shown))
    none (at.1 ∙ c.place.ensures) (subst (HasReplayed file before batches) (sym is) p)

pub returns-in-End-clause-answers : goal.returns-in-End-clause-answers
returns-in-End-clause-answers g c = λ shown before batches p.
    let folder = folder_of (g.S.Site.disk c.args.site.now) in
    let file : Option (List ℕ) = folder c.args.self.now.records.name in
    let old : BatchReading = record { records = c.self.inside.records; last = c.self.inside.last } in
    let is : old ≡ c.args.self.now = c.self.view_is in
    let there : folder c.self.inside.records.name ≡ file = ap (λ (r : BatchReading). folder r.records.name) is in
    ended before file c.placed_records_are_records.ensures old batches c.in-End.place c.in-End.cause
    (end_of c.in_ok-payload.field-0 c.in-End.place c.in-End.cause (folder c.self.inside.records.name) file c.self.inside.records c.next.new.self c.in-End.is there (c.in_ok-payload.ensures.answers shown))
    (subst (HasReplayed file before batches) (sym is) p)
