use Rattle.std.proofs.Common.{[], ◌≡◌, ◌+◌, ◌∙◌, ◌≤◌, ℕ, ap, sym, subst, arith, refl}
use Rattle.std.specs.Prelude.{◌^◌}
use Rattle.bl_open.proofs.AddLemmas.{adds_flush, are_numbered}
use Rattle.std.proofs.lemmas.Result.{err_from_is_err_and}
use Rattle.bl_out.specs.declared.error.JobErr.TheVariants.{Full as JobFull}
use Rattle.bl_open.specs.Causes.{of_job}
use Rattle.bl_open.specs.declared.error.OpenErr.TheVariants.{Full}
use Rattle.bl_open.proofs.FullLemmas.{wanted_up}
use Rattle.bl_open.proofs.KeepLemmas.{flush_keeps, store_keeps, then_keeps}
use Rattle.bl_open.proofs.LoadedLemmas.{after, flush_cuts, flush_sides, live_after, manifest_spare, no_cuts, no_settled, no_sides, rests_now, settled_now, store_cuts, store_sides, tables_after}
use Rattle.bl_open.specs.Beginning.{first_file}
use Rattle.bl_site.specs.Calls.{LeavesOnly}
use Rattle.bl_names.specs.declared.name.FileName.TheVariants.{Manifest}
use Rattle.bl_names.specs.Names.{IsNumber}
use Rattle.bl_wal.specs.LogFile.{log_name}
use Rattle.bl_open.specs.Barrier.{IsOnEitherSide}
use Rattle.bl_open.specs.Found.{IsLeftAs, IsSpareFor}
use Rattle.bl_open.specs.Installations.{IsInstalled}
use Rattle.bl_wal.specs.Held.{HoldsBatches}
use Rattle.bl_open.specs.Steady.{Maps}
use Rattle.bl_open.proofs.SyncedLemmas.{flushes_synced, others_synced}
use Rattle.bl_open.specs.Synced.{as_synced}
use Rattle.bl_open.proofs.begin.begin.Goals as goal

pub returns-in_err-manifest-clause-sides : goal.returns-in_err-manifest-clause-sides
returns-in_err-manifest-clause-sides g c = λ shown found h m s.
    no_sides g.S.Site found h m c.args.loaded c.args.site.now s (g.met.S.Site.only_now shown c.args.site.now) (first_file c.args.loaded.memory c.args.loaded.first)

pub returns-in_err-manifest-clause-cuts : goal.returns-in_err-manifest-clause-cuts
returns-in_err-manifest-clause-cuts g c = λ shown sure found h m s.
    no_cuts g.S.Site found h m c.args.loaded c.args.site.now s (g.met.S.Site.only_now shown c.args.site.now) c.barriers_let_disks_rest.ensures.cuts (λ other. g.met.S.Site.only shown c.args.site.now other sure)

pub returns-in_err-manifest-clause-settled : goal.returns-in_err-manifest-clause-settled
returns-in_err-manifest-clause-settled g c = λ shown found h m s.
    no_settled g.S.Site found h m c.args.loaded c.args.site.now s (g.met.S.Site.only_now shown c.args.site.now) c.barriers_let_disks_rest.ensures.rests c.barriers_let_disks_rest.ensures.stay_settled

pub returns-in_err-log-clause-sides : goal.returns-in_err-log-clause-sides
returns-in_err-log-clause-sides g c = λ shown found h m s.
    no_sides g.S.Site found h m c.args.loaded c.args.site.now s (g.met.S.Site.only_now shown c.args.site.now) (first_file c.args.loaded.memory c.args.loaded.first)

pub returns-in_err-log-clause-cuts : goal.returns-in_err-log-clause-cuts
returns-in_err-log-clause-cuts g c = λ shown sure found h m s.
    no_cuts g.S.Site found h m c.args.loaded c.args.site.now s (g.met.S.Site.only_now shown c.args.site.now) c.barriers_let_disks_rest.ensures.cuts (λ other. g.met.S.Site.only shown c.args.site.now other sure)

pub returns-in_err-log-clause-settled : goal.returns-in_err-log-clause-settled
returns-in_err-log-clause-settled g c = λ shown found h m s.
    no_settled g.S.Site found h m c.args.loaded c.args.site.now s (g.met.S.Site.only_now shown c.args.site.now) c.barriers_let_disks_rest.ensures.rests c.barriers_let_disks_rest.ensures.stay_settled

pub returns-in_err-edit-clause-sides : goal.returns-in_err-edit-clause-sides
returns-in_err-edit-clause-sides g c = λ shown found h m s.
    let old = c.args.site.now in
    let at : c.draw-2.new.self ≡ c.args.loaded.first + 2 = omega (arith, c.in_ok-log.ensures.drawn.2, c.in_ok-manifest.ensures.drawn.2, c.from-numbers.ensures) in
    flush_sides g.S.Site found h m c.args.loaded old s (g.met.S.Site.only_now shown old) c.drawn_files_let_disks_rest.ensures.rest c.barriers_let_disks_rest.ensures.cuts
    c.flush_found.new.site c.draw-2.new.self at (c.flush_found.ensures.others shown) c.flush_found.ensures.idle (c.flush_found.ensures.sides shown)

pub returns-in_err-edit-clause-cuts : goal.returns-in_err-edit-clause-cuts
returns-in_err-edit-clause-cuts g c = λ shown sure found h m s.
    let old = c.args.site.now in
    let at : c.draw-2.new.self ≡ c.args.loaded.first + 2 = omega (arith, c.in_ok-log.ensures.drawn.2, c.in_ok-manifest.ensures.drawn.2, c.from-numbers.ensures) in
    flush_cuts g.S.Site found h m c.args.loaded old s (g.met.S.Site.only_now shown old) c.drawn_files_let_disks_rest.ensures.rest c.barriers_let_disks_rest.ensures.cuts
    c.flush_found.new.site c.draw-2.new.self at (c.flush_found.ensures.others shown) c.flush_found.ensures.idle (c.flush_found.ensures.cuts shown sure) (λ other. g.met.S.Site.only shown old other sure)

pub returns-in_err-edit-clause-settled : goal.returns-in_err-edit-clause-settled
returns-in_err-edit-clause-settled g c = λ shown found h m s.
    let old = c.args.site.now in
    let at : c.draw-2.new.self ≡ c.args.loaded.first + 2 = omega (arith, c.in_ok-log.ensures.drawn.2, c.in_ok-manifest.ensures.drawn.2, c.from-numbers.ensures) in
    settled_now g.S.Site found h m c.args.loaded old s (g.met.S.Site.only_now shown old) c.drawn_files_let_disks_rest.ensures.rest c.barriers_let_disks_rest.ensures.cuts
    c.flush_found.new.site c.draw-2.new.self at (c.flush_found.ensures.others shown) c.flush_found.ensures.idle c.barriers_let_disks_rest.ensures.rests c.barriers_let_disks_rest.ensures.stay_settled

pub returns-in_err-version-clause-sides : goal.returns-in_err-version-clause-sides
returns-in_err-version-clause-sides g c = λ shown found h m s.
    let old = c.args.site.now in
    let at : c.draw-2.new.self ≡ c.args.loaded.first + 2 = omega (arith, c.in_ok-log.ensures.drawn.2, c.in_ok-manifest.ensures.drawn.2, c.from-numbers.ensures) in
    flush_sides g.S.Site found h m c.args.loaded old s (g.met.S.Site.only_now shown old) c.drawn_files_let_disks_rest.ensures.rest c.barriers_let_disks_rest.ensures.cuts
    c.flush_found.new.site c.draw-2.new.self at (c.flush_found.ensures.others shown) c.flush_found.ensures.idle (c.flush_found.ensures.sides shown)

pub returns-in_err-version-clause-cuts : goal.returns-in_err-version-clause-cuts
returns-in_err-version-clause-cuts g c = λ shown sure found h m s.
    let old = c.args.site.now in
    let at : c.draw-2.new.self ≡ c.args.loaded.first + 2 = omega (arith, c.in_ok-log.ensures.drawn.2, c.in_ok-manifest.ensures.drawn.2, c.from-numbers.ensures) in
    flush_cuts g.S.Site found h m c.args.loaded old s (g.met.S.Site.only_now shown old) c.drawn_files_let_disks_rest.ensures.rest c.barriers_let_disks_rest.ensures.cuts
    c.flush_found.new.site c.draw-2.new.self at (c.flush_found.ensures.others shown) c.flush_found.ensures.idle (c.flush_found.ensures.cuts shown sure) (λ other. g.met.S.Site.only shown old other sure)

pub returns-in_err-version-clause-settled : goal.returns-in_err-version-clause-settled
returns-in_err-version-clause-settled g c = λ shown found h m s.
    let old = c.args.site.now in
    let at : c.draw-2.new.self ≡ c.args.loaded.first + 2 = omega (arith, c.in_ok-log.ensures.drawn.2, c.in_ok-manifest.ensures.drawn.2, c.from-numbers.ensures) in
    settled_now g.S.Site found h m c.args.loaded old s (g.met.S.Site.only_now shown old) c.drawn_files_let_disks_rest.ensures.rest c.barriers_let_disks_rest.ensures.cuts
    c.flush_found.new.site c.draw-2.new.self at (c.flush_found.ensures.others shown) c.flush_found.ensures.idle c.barriers_let_disks_rest.ensures.rests c.barriers_let_disks_rest.ensures.stay_settled

pub returns-in_err-manifest-2-clause-sides : goal.returns-in_err-manifest-2-clause-sides
returns-in_err-manifest-2-clause-sides g c = λ shown found h m s.
    let site = g.S.Site in
    let laws = c.barriers_let_disks_rest.ensures in
    let flush = c.flushed_tables_make_the_map.ensures in
    let l = c.args.loaded in
    let old = c.args.site.now in
    let mid = c.flush_found.new.site in
    let at : c.draw-2.new.self ≡ l.first + 2 = omega (arith, c.in_ok-log.ensures.drawn.2, c.in_ok-manifest.ensures.drawn.2, c.from-numbers.ensures) in
    let at_log : c.in_ok-log.log ≡ l.first + 1 = c.in_ok-log.ensures.drawn.0 ∙ c.in_ok-manifest.ensures.drawn.2 ∙ ap (λ (n : ℕ). n + 1) c.from-numbers.ensures in
    let at_manifest : c.in_ok-manifest.manifest ≡ l.first = c.in_ok-manifest.ensures.drawn.0 ∙ c.from-numbers.ensures in
    let most : c.flush_found.new.numbers ≤ 10 ^ 15 = omega (arith, c.next.ensures.value, c.next.ensures.bound) in
    let flushes = c.in_ok-edit.ensures.flushes shown in
    let keeps = c.flush_found.ensures.others shown in
    let next = c.in_ok-version.ensures.next in
    let e = c.in_ok-edit.edit in
    let v = c.in_ok-version.version in
    let h_after = after flush.tables flush.applies h m l (site.disk old) (site.disk mid) e c.draw-2.new.self c.flush_found.new.numbers v s.holds at c.requires.bounded.some most flushes keeps next.0 next.1 in
    let live = live_after flush.tables flush.applies h m l (site.disk old) (site.disk mid) e c.draw-2.new.self c.flush_found.new.numbers v s.holds at c.requires.bounded.some most flushes keeps next.0 next.1
    c.in_ok-log.log c.next.result at_log c.next.ensures.value in
    let tables = λ (maps : Maps) (first : maps 0 ≡ m). tables_after flush.tables flush.applies h m l (site.disk old) (site.disk mid) e c.draw-2.new.self c.flush_found.new.numbers v s.holds at c.requires.bounded.some most flushes keeps next.0 next.1
    maps c.in_ok-log.log first at_log in
    let rests = rests_now site found h m l old s (g.met.S.Site.only_now shown old) c.drawn_files_let_disks_rest.ensures.rest laws.cuts mid c.draw-2.new.self at keeps c.flush_found.ensures.idle in
    let spare : IsSpareFor found (Manifest c.in_ok-manifest.manifest) = subst (λ (n : ℕ). IsSpareFor found (Manifest n)) (sym at_manifest) (manifest_spare laws.numbers l.first found s.below) in
    let start : LeavesOnly site.clock site.left_since mid c.start_store.new.site (IsOnEitherSide (log_name (l.first + 1)) (site.may_be mid) (IsLeftAs found m) (site.told mid)) =
    subst (λ (n : ℕ). LeavesOnly site.clock site.left_since mid c.start_store.new.site (IsOnEitherSide (log_name n) (site.may_be mid) (IsLeftAs found m) (site.told mid))) at_log
    (c.start_store.ensures.sides shown found (λ n. m) h_after rests spare (tables (λ n. m) refl) live) in
    store_sides site found h m l old s (g.met.S.Site.only_now shown old) c.drawn_files_let_disks_rest.ensures.rest laws.cuts mid c.draw-2.new.self at keeps c.flush_found.ensures.idle
    c.start_store.new.site (c.flush_found.ensures.tells_nothing.told shown) (c.in_ok-edit.ensures.passed shown) (c.flush_found.ensures.sides shown) start
    (λ sure. c.start_store.ensures.cuts shown sure found (λ n. m) h_after rests spare (tables (λ n. m) refl) live)

pub returns-in_err-manifest-2-clause-cuts : goal.returns-in_err-manifest-2-clause-cuts
returns-in_err-manifest-2-clause-cuts g c = λ shown sure found h m s.
    let site = g.S.Site in
    let laws = c.barriers_let_disks_rest.ensures in
    let flush = c.flushed_tables_make_the_map.ensures in
    let l = c.args.loaded in
    let old = c.args.site.now in
    let mid = c.flush_found.new.site in
    let at : c.draw-2.new.self ≡ l.first + 2 = omega (arith, c.in_ok-log.ensures.drawn.2, c.in_ok-manifest.ensures.drawn.2, c.from-numbers.ensures) in
    let at_log : c.in_ok-log.log ≡ l.first + 1 = c.in_ok-log.ensures.drawn.0 ∙ c.in_ok-manifest.ensures.drawn.2 ∙ ap (λ (n : ℕ). n + 1) c.from-numbers.ensures in
    let at_manifest : c.in_ok-manifest.manifest ≡ l.first = c.in_ok-manifest.ensures.drawn.0 ∙ c.from-numbers.ensures in
    let most : c.flush_found.new.numbers ≤ 10 ^ 15 = omega (arith, c.next.ensures.value, c.next.ensures.bound) in
    let flushes = c.in_ok-edit.ensures.flushes shown in
    let keeps = c.flush_found.ensures.others shown in
    let next = c.in_ok-version.ensures.next in
    let e = c.in_ok-edit.edit in
    let v = c.in_ok-version.version in
    let h_after = after flush.tables flush.applies h m l (site.disk old) (site.disk mid) e c.draw-2.new.self c.flush_found.new.numbers v s.holds at c.requires.bounded.some most flushes keeps next.0 next.1 in
    let live = live_after flush.tables flush.applies h m l (site.disk old) (site.disk mid) e c.draw-2.new.self c.flush_found.new.numbers v s.holds at c.requires.bounded.some most flushes keeps next.0 next.1
    c.in_ok-log.log c.next.result at_log c.next.ensures.value in
    let tables = λ (maps : Maps) (first : maps 0 ≡ m). tables_after flush.tables flush.applies h m l (site.disk old) (site.disk mid) e c.draw-2.new.self c.flush_found.new.numbers v s.holds at c.requires.bounded.some most flushes keeps next.0 next.1
    maps c.in_ok-log.log first at_log in
    let rests = rests_now site found h m l old s (g.met.S.Site.only_now shown old) c.drawn_files_let_disks_rest.ensures.rest laws.cuts mid c.draw-2.new.self at keeps c.flush_found.ensures.idle in
    let spare : IsSpareFor found (Manifest c.in_ok-manifest.manifest) = subst (λ (n : ℕ). IsSpareFor found (Manifest n)) (sym at_manifest) (manifest_spare laws.numbers l.first found s.below) in
    store_cuts site found h m l old s (g.met.S.Site.only_now shown old) c.drawn_files_let_disks_rest.ensures.rest laws.cuts mid c.draw-2.new.self at keeps c.flush_found.ensures.idle
    c.start_store.new.site (c.flush_found.ensures.tells_nothing.told shown) (c.in_ok-edit.ensures.passed shown) (c.flush_found.ensures.cuts shown sure) (λ other. g.met.S.Site.only shown old other sure) sure
    (λ certain. c.start_store.ensures.cuts shown certain found (λ n. m) h_after rests spare (tables (λ n. m) refl) live)

pub returns-in_err-manifest-2-clause-settled : goal.returns-in_err-manifest-2-clause-settled
returns-in_err-manifest-2-clause-settled g c = λ shown found h m s.
    let site = g.S.Site in
    let laws = c.barriers_let_disks_rest.ensures in
    let flush = c.flushed_tables_make_the_map.ensures in
    let l = c.args.loaded in
    let old = c.args.site.now in
    let mid = c.flush_found.new.site in
    let at : c.draw-2.new.self ≡ l.first + 2 = omega (arith, c.in_ok-log.ensures.drawn.2, c.in_ok-manifest.ensures.drawn.2, c.from-numbers.ensures) in
    let at_log : c.in_ok-log.log ≡ l.first + 1 = c.in_ok-log.ensures.drawn.0 ∙ c.in_ok-manifest.ensures.drawn.2 ∙ ap (λ (n : ℕ). n + 1) c.from-numbers.ensures in
    let at_manifest : c.in_ok-manifest.manifest ≡ l.first = c.in_ok-manifest.ensures.drawn.0 ∙ c.from-numbers.ensures in
    let most : c.flush_found.new.numbers ≤ 10 ^ 15 = omega (arith, c.next.ensures.value, c.next.ensures.bound) in
    let flushes = c.in_ok-edit.ensures.flushes shown in
    let keeps = c.flush_found.ensures.others shown in
    let next = c.in_ok-version.ensures.next in
    let e = c.in_ok-edit.edit in
    let v = c.in_ok-version.version in
    let h_after = after flush.tables flush.applies h m l (site.disk old) (site.disk mid) e c.draw-2.new.self c.flush_found.new.numbers v s.holds at c.requires.bounded.some most flushes keeps next.0 next.1 in
    let live = live_after flush.tables flush.applies h m l (site.disk old) (site.disk mid) e c.draw-2.new.self c.flush_found.new.numbers v s.holds at c.requires.bounded.some most flushes keeps next.0 next.1
    c.in_ok-log.log c.next.result at_log c.next.ensures.value in
    let tables = λ (maps : Maps) (first : maps 0 ≡ m). tables_after flush.tables flush.applies h m l (site.disk old) (site.disk mid) e c.draw-2.new.self c.flush_found.new.numbers v s.holds at c.requires.bounded.some most flushes keeps next.0 next.1
    maps c.in_ok-log.log first at_log in
    let rests = rests_now site found h m l old s (g.met.S.Site.only_now shown old) c.drawn_files_let_disks_rest.ensures.rest laws.cuts mid c.draw-2.new.self at keeps c.flush_found.ensures.idle in
    let spare : IsSpareFor found (Manifest c.in_ok-manifest.manifest) = subst (λ (n : ℕ). IsSpareFor found (Manifest n)) (sym at_manifest) (manifest_spare laws.numbers l.first found s.below) in
    c.start_store.ensures.settled shown found (λ n. m) h_after rests spare (tables (λ n. m) refl) live

pub returns-clause-sides : goal.returns-clause-sides
returns-clause-sides g c = λ shown found h m s.
    let site = g.S.Site in
    let laws = c.barriers_let_disks_rest.ensures in
    let flush = c.flushed_tables_make_the_map.ensures in
    let l = c.args.loaded in
    let old = c.args.site.now in
    let mid = c.flush_found.new.site in
    let at : c.draw-2.new.self ≡ l.first + 2 = omega (arith, c.in_ok-log.ensures.drawn.2, c.in_ok-manifest.ensures.drawn.2, c.from-numbers.ensures) in
    let at_log : c.in_ok-log.log ≡ l.first + 1 = c.in_ok-log.ensures.drawn.0 ∙ c.in_ok-manifest.ensures.drawn.2 ∙ ap (λ (n : ℕ). n + 1) c.from-numbers.ensures in
    let at_manifest : c.in_ok-manifest.manifest ≡ l.first = c.in_ok-manifest.ensures.drawn.0 ∙ c.from-numbers.ensures in
    let most : c.flush_found.new.numbers ≤ 10 ^ 15 = omega (arith, c.next.ensures.value, c.next.ensures.bound) in
    let flushes = c.in_ok-edit.ensures.flushes shown in
    let keeps = c.flush_found.ensures.others shown in
    let next = c.in_ok-version.ensures.next in
    let e = c.in_ok-edit.edit in
    let v = c.in_ok-version.version in
    let h_after = after flush.tables flush.applies h m l (site.disk old) (site.disk mid) e c.draw-2.new.self c.flush_found.new.numbers v s.holds at c.requires.bounded.some most flushes keeps next.0 next.1 in
    let live = live_after flush.tables flush.applies h m l (site.disk old) (site.disk mid) e c.draw-2.new.self c.flush_found.new.numbers v s.holds at c.requires.bounded.some most flushes keeps next.0 next.1
    c.in_ok-log.log c.next.result at_log c.next.ensures.value in
    let tables = λ (maps : Maps) (first : maps 0 ≡ m). tables_after flush.tables flush.applies h m l (site.disk old) (site.disk mid) e c.draw-2.new.self c.flush_found.new.numbers v s.holds at c.requires.bounded.some most flushes keeps next.0 next.1
    maps c.in_ok-log.log first at_log in
    let rests = rests_now site found h m l old s (g.met.S.Site.only_now shown old) c.drawn_files_let_disks_rest.ensures.rest laws.cuts mid c.draw-2.new.self at keeps c.flush_found.ensures.idle in
    let spare : IsSpareFor found (Manifest c.in_ok-manifest.manifest) = subst (λ (n : ℕ). IsSpareFor found (Manifest n)) (sym at_manifest) (manifest_spare laws.numbers l.first found s.below) in
    let start : LeavesOnly site.clock site.left_since mid c.start_store.new.site (IsOnEitherSide (log_name (l.first + 1)) (site.may_be mid) (IsLeftAs found m) (site.told mid)) =
    subst (λ (n : ℕ). LeavesOnly site.clock site.left_since mid c.start_store.new.site (IsOnEitherSide (log_name n) (site.may_be mid) (IsLeftAs found m) (site.told mid))) at_log
    (c.start_store.ensures.sides shown found (λ n. m) h_after rests spare (tables (λ n. m) refl) live) in
    store_sides site found h m l old s (g.met.S.Site.only_now shown old) c.drawn_files_let_disks_rest.ensures.rest laws.cuts mid c.draw-2.new.self at keeps c.flush_found.ensures.idle
    c.start_store.new.site (c.flush_found.ensures.tells_nothing.told shown) (c.in_ok-edit.ensures.passed shown) (c.flush_found.ensures.sides shown) start
    (λ sure. c.start_store.ensures.cuts shown sure found (λ n. m) h_after rests spare (tables (λ n. m) refl) live)

pub returns-clause-cuts : goal.returns-clause-cuts
returns-clause-cuts g c = λ shown sure found h m s.
    let site = g.S.Site in
    let laws = c.barriers_let_disks_rest.ensures in
    let flush = c.flushed_tables_make_the_map.ensures in
    let l = c.args.loaded in
    let old = c.args.site.now in
    let mid = c.flush_found.new.site in
    let at : c.draw-2.new.self ≡ l.first + 2 = omega (arith, c.in_ok-log.ensures.drawn.2, c.in_ok-manifest.ensures.drawn.2, c.from-numbers.ensures) in
    let at_log : c.in_ok-log.log ≡ l.first + 1 = c.in_ok-log.ensures.drawn.0 ∙ c.in_ok-manifest.ensures.drawn.2 ∙ ap (λ (n : ℕ). n + 1) c.from-numbers.ensures in
    let at_manifest : c.in_ok-manifest.manifest ≡ l.first = c.in_ok-manifest.ensures.drawn.0 ∙ c.from-numbers.ensures in
    let most : c.flush_found.new.numbers ≤ 10 ^ 15 = omega (arith, c.next.ensures.value, c.next.ensures.bound) in
    let flushes = c.in_ok-edit.ensures.flushes shown in
    let keeps = c.flush_found.ensures.others shown in
    let next = c.in_ok-version.ensures.next in
    let e = c.in_ok-edit.edit in
    let v = c.in_ok-version.version in
    let h_after = after flush.tables flush.applies h m l (site.disk old) (site.disk mid) e c.draw-2.new.self c.flush_found.new.numbers v s.holds at c.requires.bounded.some most flushes keeps next.0 next.1 in
    let live = live_after flush.tables flush.applies h m l (site.disk old) (site.disk mid) e c.draw-2.new.self c.flush_found.new.numbers v s.holds at c.requires.bounded.some most flushes keeps next.0 next.1
    c.in_ok-log.log c.next.result at_log c.next.ensures.value in
    let tables = λ (maps : Maps) (first : maps 0 ≡ m). tables_after flush.tables flush.applies h m l (site.disk old) (site.disk mid) e c.draw-2.new.self c.flush_found.new.numbers v s.holds at c.requires.bounded.some most flushes keeps next.0 next.1
    maps c.in_ok-log.log first at_log in
    let rests = rests_now site found h m l old s (g.met.S.Site.only_now shown old) c.drawn_files_let_disks_rest.ensures.rest laws.cuts mid c.draw-2.new.self at keeps c.flush_found.ensures.idle in
    let spare : IsSpareFor found (Manifest c.in_ok-manifest.manifest) = subst (λ (n : ℕ). IsSpareFor found (Manifest n)) (sym at_manifest) (manifest_spare laws.numbers l.first found s.below) in
    store_cuts site found h m l old s (g.met.S.Site.only_now shown old) c.drawn_files_let_disks_rest.ensures.rest laws.cuts mid c.draw-2.new.self at keeps c.flush_found.ensures.idle
    c.start_store.new.site (c.flush_found.ensures.tells_nothing.told shown) (c.in_ok-edit.ensures.passed shown) (c.flush_found.ensures.cuts shown sure) (λ other. g.met.S.Site.only shown old other sure) sure
    (λ certain. c.start_store.ensures.cuts shown certain found (λ n. m) h_after rests spare (tables (λ n. m) refl) live)

pub returns-clause-settled : goal.returns-clause-settled
returns-clause-settled g c = λ shown found h m s.
    let site = g.S.Site in
    let laws = c.barriers_let_disks_rest.ensures in
    let flush = c.flushed_tables_make_the_map.ensures in
    let l = c.args.loaded in
    let old = c.args.site.now in
    let mid = c.flush_found.new.site in
    let at : c.draw-2.new.self ≡ l.first + 2 = omega (arith, c.in_ok-log.ensures.drawn.2, c.in_ok-manifest.ensures.drawn.2, c.from-numbers.ensures) in
    let at_log : c.in_ok-log.log ≡ l.first + 1 = c.in_ok-log.ensures.drawn.0 ∙ c.in_ok-manifest.ensures.drawn.2 ∙ ap (λ (n : ℕ). n + 1) c.from-numbers.ensures in
    let at_manifest : c.in_ok-manifest.manifest ≡ l.first = c.in_ok-manifest.ensures.drawn.0 ∙ c.from-numbers.ensures in
    let most : c.flush_found.new.numbers ≤ 10 ^ 15 = omega (arith, c.next.ensures.value, c.next.ensures.bound) in
    let flushes = c.in_ok-edit.ensures.flushes shown in
    let keeps = c.flush_found.ensures.others shown in
    let next = c.in_ok-version.ensures.next in
    let e = c.in_ok-edit.edit in
    let v = c.in_ok-version.version in
    let h_after = after flush.tables flush.applies h m l (site.disk old) (site.disk mid) e c.draw-2.new.self c.flush_found.new.numbers v s.holds at c.requires.bounded.some most flushes keeps next.0 next.1 in
    let live = live_after flush.tables flush.applies h m l (site.disk old) (site.disk mid) e c.draw-2.new.self c.flush_found.new.numbers v s.holds at c.requires.bounded.some most flushes keeps next.0 next.1
    c.in_ok-log.log c.next.result at_log c.next.ensures.value in
    let tables = λ (maps : Maps) (first : maps 0 ≡ m). tables_after flush.tables flush.applies h m l (site.disk old) (site.disk mid) e c.draw-2.new.self c.flush_found.new.numbers v s.holds at c.requires.bounded.some most flushes keeps next.0 next.1
    maps c.in_ok-log.log first at_log in
    let rests = rests_now site found h m l old s (g.met.S.Site.only_now shown old) c.drawn_files_let_disks_rest.ensures.rest laws.cuts mid c.draw-2.new.self at keeps c.flush_found.ensures.idle in
    let spare : IsSpareFor found (Manifest c.in_ok-manifest.manifest) = subst (λ (n : ℕ). IsSpareFor found (Manifest n)) (sym at_manifest) (manifest_spare laws.numbers l.first found s.below) in
    c.start_store.ensures.settled shown found (λ n. m) h_after rests spare (tables (λ n. m) refl) live

pub returns-clause-opened : goal.returns-clause-opened
returns-clause-opened g c = λ shown names below h m s maps first.
    let site = g.S.Site in
    let flush = c.flushed_tables_make_the_map.ensures in
    let l = c.args.loaded in
    let old = as_synced names (site.disk c.args.site.now) in
    let mid = as_synced names (site.disk c.flush_found.new.site) in
    let at : c.draw-2.new.self ≡ l.first + 2 = omega (arith, c.in_ok-log.ensures.drawn.2, c.in_ok-manifest.ensures.drawn.2, c.from-numbers.ensures) in
    let at_log : c.in_ok-log.log ≡ l.first + 1 = c.in_ok-log.ensures.drawn.0 ∙ c.in_ok-manifest.ensures.drawn.2 ∙ ap (λ (n : ℕ). n + 1) c.from-numbers.ensures in
    let most : c.flush_found.new.numbers ≤ 10 ^ 15 = omega (arith, c.next.ensures.value, c.next.ensures.bound) in
    let flushes = flushes_synced c.names_one.ensures l.first c.draw-2.new.self c.flush_found.new.numbers names l.options l.memory (site.disk c.flush_found.new.site) c.in_ok-edit.edit below c.requires.bounded.some (omega (arith, at)) most (c.in_ok-edit.ensures.flushes shown) in
    let keeps = others_synced c.draw-2.new.self names (site.disk c.args.site.now) (site.disk c.flush_found.new.site) (c.flush_found.ensures.others shown) in
    let next = c.in_ok-version.ensures.next in
    let e = c.in_ok-edit.edit in
    let v = c.in_ok-version.version in
    let h_after = after flush.tables flush.applies h m l old mid e c.draw-2.new.self c.flush_found.new.numbers v s at c.requires.bounded.some most flushes keeps next.0 next.1 in
    let live = live_after flush.tables flush.applies h m l old mid e c.draw-2.new.self c.flush_found.new.numbers v s at c.requires.bounded.some most flushes keeps next.0 next.1
    c.in_ok-log.log c.next.result at_log c.next.ensures.value in
    let tables = λ (maps : Maps) (first : maps 0 ≡ m). tables_after flush.tables flush.applies h m l old mid e c.draw-2.new.self c.flush_found.new.numbers v s at c.requires.bounded.some most flushes keeps next.0 next.1
    maps c.in_ok-log.log first at_log in
    record {
      holding = h_after;
      live = live;
      batches = (tables maps first).batches;
      steady = c.in_ok-manifest-2.ensures.steady shown names l.first below maps h_after (tables maps first) live;
    }

pub returns-clause-adds : goal.returns-clause-adds
returns-clause-adds g c = λ shown.
    let l = c.args.loaded in
    let at : c.draw-2.new.self ≡ c.in_ok-log.log + 1 = omega (arith, c.in_ok-log.ensures.drawn.2, c.in_ok-log.ensures.drawn.0) in
    adds_flush l.version l.memory l.options c.draw-2.new.self c.flush_found.new.numbers (g.S.Site.disk c.flush_found.new.site) c.in_ok-edit.edit (c.in_ok-edit.ensures.flushes shown) c.in_ok-edit.ensures.draws
    _ at c.next.ensures.value refl c.in_ok-version.ensures.next.0

pub returns-clause-in_place : goal.returns-clause-in_place
returns-clause-in_place g c = λ shown.
    let l = c.args.loaded in
    let at : c.draw-2.new.self ≡ l.first + 2 = omega (arith, c.in_ok-log.ensures.drawn.2, c.in_ok-manifest.ensures.drawn.2, c.from-numbers.ensures) in
    let at_from : c.draw-2.new.self ≡ c.in_ok-log.log + 1 = omega (arith, c.in_ok-log.ensures.drawn.2, c.in_ok-log.ensures.drawn.0) in
    let made = c.in_ok-manifest-2.ensures.made in
    let at_log : c.in_ok-log.log ≡ c.in_ok-manifest.manifest + 1 = omega (arith, c.in_ok-log.ensures.drawn.0, c.in_ok-manifest.ensures.drawn.2, c.in_ok-manifest.ensures.drawn.0) in
    let most : c.flush_found.new.numbers ≤ 10 ^ 15 = omega (arith, c.next.ensures.value, c.next.ensures.bound) in
    record {
      installed = subst (λ n. IsInstalled n (record { version = c.in_ok-version.version; standing = record { log_number = c.in_ok-log.log; next_file = c.next.result; last_sequence = l.last; options = l.options } }) (g.S.Site.disk c.start_store.new.site)) (sym made.0) (c.in_ok-manifest-2.ensures.installed shown);
      usable = made.1;
      wal = made.2;
      log = subst (λ w. HoldsBatches (g.S.Site.disk c.start_store.new.site) w [] 0) (sym made.2) (c.in_ok-manifest-2.ensures.empty shown);
      numbers = are_numbered l.version l.memory l.options c.draw-2.new.self c.flush_found.new.numbers (g.S.Site.disk c.flush_found.new.site) c.in_ok-edit.edit (c.in_ok-edit.ensures.flushes shown) c.in_ok-edit.ensures.draws
          _ at_from c.next.ensures.value (at_log ∙ ap (λ n. n + 1) (sym made.0)) most l.first (omega (arith, at)) (c.requires.below shown) c.in_ok-version.ensures.next.0;
    }

pub returns-in_err-edit-clause-keeps : goal.returns-in_err-edit-clause-keeps
returns-in_err-edit-clause-keeps g c = λ shown.
    let at : c.draw-2.new.self ≡ c.args.loaded.first + 2 = omega (arith, c.in_ok-log.ensures.drawn.2, c.in_ok-manifest.ensures.drawn.2, c.from-numbers.ensures) in
    flush_keeps c.args.loaded.first c.draw-2.new.self (g.S.Site.disk c.args.site.now) (g.S.Site.disk c.flush_found.new.site) (omega (arith, at)) (c.flush_found.ensures.others shown)

pub returns-in_err-version-clause-keeps : goal.returns-in_err-version-clause-keeps
returns-in_err-version-clause-keeps g c = λ shown.
    let at : c.draw-2.new.self ≡ c.args.loaded.first + 2 = omega (arith, c.in_ok-log.ensures.drawn.2, c.in_ok-manifest.ensures.drawn.2, c.from-numbers.ensures) in
    flush_keeps c.args.loaded.first c.draw-2.new.self (g.S.Site.disk c.args.site.now) (g.S.Site.disk c.flush_found.new.site) (omega (arith, at)) (c.flush_found.ensures.others shown)

pub returns-in_err-manifest-2-clause-keeps : goal.returns-in_err-manifest-2-clause-keeps
returns-in_err-manifest-2-clause-keeps g c = λ shown.
    let at : c.draw-2.new.self ≡ c.args.loaded.first + 2 = omega (arith, c.in_ok-log.ensures.drawn.2, c.in_ok-manifest.ensures.drawn.2, c.from-numbers.ensures) in
    let at_manifest : c.in_ok-manifest.manifest ≡ c.args.loaded.first = c.in_ok-manifest.ensures.drawn.0 ∙ c.from-numbers.ensures in
    let at_log : c.in_ok-log.log ≡ c.args.loaded.first + 1 = omega (arith, c.in_ok-log.ensures.drawn.0, c.in_ok-manifest.ensures.drawn.2, c.from-numbers.ensures) in
    then_keeps c.args.loaded.first (g.S.Site.disk c.args.site.now) (g.S.Site.disk c.flush_found.new.site) (g.S.Site.disk c.start_store.new.site)
    (flush_keeps c.args.loaded.first c.draw-2.new.self (g.S.Site.disk c.args.site.now) (g.S.Site.disk c.flush_found.new.site) (omega (arith, at)) (c.flush_found.ensures.others shown))
    (store_keeps c.args.loaded.first c.in_ok-manifest.manifest c.in_ok-log.log (g.S.Site.disk c.flush_found.new.site) (g.S.Site.disk c.start_store.new.site) c.requires.bounded.some at_manifest at_log
    (omega (arith, c.in_ok-log.ensures.drawn.0, c.in_ok-log.ensures.drawn.1)) (c.start_store.ensures.others shown))

pub returns-clause-keeps : goal.returns-clause-keeps
returns-clause-keeps g c = λ shown.
    let at : c.draw-2.new.self ≡ c.args.loaded.first + 2 = omega (arith, c.in_ok-log.ensures.drawn.2, c.in_ok-manifest.ensures.drawn.2, c.from-numbers.ensures) in
    let at_manifest : c.in_ok-manifest.manifest ≡ c.args.loaded.first = c.in_ok-manifest.ensures.drawn.0 ∙ c.from-numbers.ensures in
    let at_log : c.in_ok-log.log ≡ c.args.loaded.first + 1 = omega (arith, c.in_ok-log.ensures.drawn.0, c.in_ok-manifest.ensures.drawn.2, c.from-numbers.ensures) in
    then_keeps c.args.loaded.first (g.S.Site.disk c.args.site.now) (g.S.Site.disk c.flush_found.new.site) (g.S.Site.disk c.start_store.new.site)
    (flush_keeps c.args.loaded.first c.draw-2.new.self (g.S.Site.disk c.args.site.now) (g.S.Site.disk c.flush_found.new.site) (omega (arith, at)) (c.flush_found.ensures.others shown))
    (store_keeps c.args.loaded.first c.in_ok-manifest.manifest c.in_ok-log.log (g.S.Site.disk c.flush_found.new.site) (g.S.Site.disk c.start_store.new.site) c.requires.bounded.some at_manifest at_log
    (omega (arith, c.in_ok-log.ensures.drawn.0, c.in_ok-log.ensures.drawn.1)) (c.start_store.ensures.others shown))

pub returns-clause-numbered : goal.returns-clause-numbered
returns-clause-numbered g c =
    let bounded = c.requires.bounded in
    let made = c.in_ok-manifest-2.ensures.made in
    let at_manifest : c.in_ok-manifest.manifest ≡ c.args.loaded.first = c.in_ok-manifest.ensures.drawn.0 ∙ c.from-numbers.ensures in
    let at_log : c.in_ok-log.log ≡ c.args.loaded.first + 1 = omega (arith, c.in_ok-log.ensures.drawn.0, c.in_ok-manifest.ensures.drawn.2, c.from-numbers.ensures) in
    let is_log : IsNumber c.in_ok-log.log = (omega (arith, at_log), omega (arith, c.in_ok-log.ensures.drawn.0, c.in_ok-log.ensures.drawn.1)) in
    record {
      within = record {
        some = c.next.ensures.some;
        most = c.next.ensures.bound;
        last = bounded.last;
        manifest = subst IsNumber (sym made.0) (omega (arith, at_manifest, bounded.some), omega (arith, c.in_ok-manifest.ensures.drawn.0, c.in_ok-manifest.ensures.drawn.1));
        usable = made.1;
        log = subst (λ w. IsNumber w.number) (sym made.2) is_log;
        wal = made.2;
      };
      manifest = made.0 ∙ at_manifest;
      log = at_log;
      options = refl;
      last = refl;
    }

pub returns-in_err-manifest-clause-full : goal.returns-in_err-manifest-clause-full
returns-in_err-manifest-clause-full g c = λ n is.
    let l = c.args.loaded in
    let p = err_from_is_err_and c.from_residual.result c.from_residual.ensures.1 in
    let full : c.in_err-manifest.field-0.0 ≡ JobFull (10 ^ 15) = cc c.in_err-manifest.ensures.full.0 in
    let told : p.0 ≡ Full (10 ^ 15) = p.2 ∙ ap of_job full in
    let up = wanted_up l.options (l.first + 2) l.memory in
    (cc (p.1, is, told), omega (arith, up, c.in_err-manifest.ensures.full.1, c.from-numbers.ensures))

pub returns-in_err-log-clause-full : goal.returns-in_err-log-clause-full
returns-in_err-log-clause-full g c = λ n is.
    let l = c.args.loaded in
    let p = err_from_is_err_and c.from_residual-in_err-log.result c.from_residual-in_err-log.ensures.1 in
    let full : c.in_err-log.field-0.0 ≡ JobFull (10 ^ 15) = cc c.in_err-log.ensures.full.0 in
    let told : p.0 ≡ Full (10 ^ 15) = p.2 ∙ ap of_job full in
    let up = wanted_up l.options (l.first + 2) l.memory in
    (cc (p.1, is, told), omega (arith, up, c.in_err-log.ensures.full.1, c.in_ok-manifest.ensures.drawn.2, c.from-numbers.ensures))
