use Rattle.std.proofs.Common.{◌≡◌, ◌^◌, inl, inr, false, sym, ap, refl, arith, Err}
use Rattle.std.proofs.lemmas.Result.{err_from_is_err_and}
use Rattle.bl_site.specs.Disk.{folder_of}
use Rattle.bl_names.specs.Names.{IsNumber}
use Rattle.bl_logstore.specs.declared.error.StoreErr.TheVariants.{Corrupt, Full}
use Rattle.bl_wal.specs.LogFile.{log_name}
use Rattle.bl_logstore.specs.Stored.{Stored, map_in}
use Rattle.bl_logstore.proofs.OpenLemmas.{none_left, next_is}
use Rattle.bl_logstore.proofs.BehindLemmas.{made_behind, unmade_behind}
use Rattle.bl_logstore.proofs.CarryLemmas.{is_next, is_opened, opens}
use Rattle.bl_logstore.proofs.BarrierLemmas.{read_before, made_before, read_stands, made_stands, stands_reads}
use Rattle.bl_logstore.proofs.OtherLemmas.{all_same, create_alone, log_alone, others_then, no_file_no_next, same_makes_no_file, then_makes_no_file}
use Rattle.bl_logstore.proofs.store.Store.open_site.Goals as goal

pub returns-clause-opened : goal.returns-clause-opened
returns-clause-opened g c = λ shown.
    let site = g.S.Site in
    let m = c.in_ok-memory.memory in
    let read = c.in_ok-memory.ensures.read shown in
    let store : Stored = record { log = c.in_ok-wal.wal; last = m.last; now = map_in m.map.entries; broken = false } in
    opens c.names_one.ensures (folder_of (site.disk c.args.site.now)) (site.disk c.read_logs.new.site) (site.disk c.create.new.site) store m.greatest c.in_ok-number.number
    read c.in_ok-number.ensures.next.0 c.in_ok-number.ensures.next.1 (c.in_ok-wal.ensures.created shown) c.in_ok-wal.ensures.made

pub returns-in_err-memory-clause-corrupt : goal.returns-in_err-memory-clause-corrupt
returns-in_err-memory-clause-corrupt g c = λ shown name place is.
    let p = err_from_is_err_and c.from_residual.result c.from_residual.ensures.1 in
    let e : c.in_err-memory.field-0.0 ≡ Corrupt name place = cc (is, p.1, p.2) in
    c.in_err-memory.ensures.corrupt shown name place (ap Err e)

pub returns-in_err-number-clause-full : goal.returns-in_err-number-clause-full
returns-in_err-number-clause-full g c = λ shown number is.
    let p = err_from_is_err_and c.from_residual-in_err-number.result c.from_residual-in_err-number.ensures.1 in
    let e : Full (10 ^ 15) ≡ Full number = cc (is, p.1, p.2, c.in_err-number.ensures.full.0) in
    let m = c.in_ok-memory.memory in
    let read = c.in_ok-memory.ensures.read shown in
    let limit = c.in_err-number.ensures.full.1 in
    let n = none_left (folder_of (g.S.Site.disk c.args.site.now)) (map_in m.map.entries) m.last m.greatest (10 ^ 15) read.only read.all c.in_ok-memory.ensures.bound refl (next_is m.greatest (10 ^ 15) limit) in
    let one : 10 ^ 15 ≡ number = cc e in
    (sym one, n.0, n.1)

pub returns-in_err-memory-clause-before : goal.returns-in_err-memory-clause-before
returns-in_err-memory-clause-before g c = λ shown. read_before g.S.Site (folder_of (g.S.Site.disk c.args.site.now)) c.args.site.now c.read_logs.new.site (c.read_logs.ensures.before shown)

pub returns-in_err-memory-clause-cuts : goal.returns-in_err-memory-clause-cuts
returns-in_err-memory-clause-cuts g c = λ shown sure log older own synced last whole on.
    let site = g.S.Site in
    let old = c.args.site.now in
    read_stands site c.cuts_stand.ensures old (λ other. g.met.S.Site.only shown old other sure) log older own synced last on
    c.read_logs.new.site (c.read_logs.ensures.cuts shown (stands_reads log older own synced last (site.disk old) whole on))

pub returns-in_err-number-clause-before : goal.returns-in_err-number-clause-before
returns-in_err-number-clause-before g c = λ shown. read_before g.S.Site (folder_of (g.S.Site.disk c.args.site.now)) c.args.site.now c.read_logs.new.site (c.read_logs.ensures.before shown)

pub returns-in_err-number-clause-cuts : goal.returns-in_err-number-clause-cuts
returns-in_err-number-clause-cuts g c = λ shown sure log older own synced last whole on.
    let site = g.S.Site in
    let old = c.args.site.now in
    read_stands site c.cuts_stand.ensures old (λ other. g.met.S.Site.only shown old other sure) log older own synced last on
    c.read_logs.new.site (c.read_logs.ensures.cuts shown (stands_reads log older own synced last (site.disk old) whole on))

pub returns-in_err-wal-clause-before : goal.returns-in_err-wal-clause-before
returns-in_err-wal-clause-before g c = λ shown.
    let site = g.S.Site in
    let old = c.args.site.now in
    let mid = c.read_logs.new.site in
    let m = c.in_ok-memory.memory in
    let next = c.in_ok-number.ensures.next in
    let read = c.in_ok-memory.ensures.read shown in
    let is : IsNumber c.in_ok-number.number = (omega (arith, next.0), next.1) in
    made_before site (folder_of (site.disk old)) c.in_ok-number.number old mid c.create.new.site
    (g.met.S.Site.counts_now shown mid) (c.read_logs.ensures.tells_nothing.told shown) is (is_next (folder_of (site.disk old)) (map_in m.map.entries) m.last m.greatest c.in_ok-number.number read.all next.0)
    (c.read_logs.ensures.before shown) (c.create.ensures.time shown)

pub returns-in_err-wal-clause-cuts : goal.returns-in_err-wal-clause-cuts
returns-in_err-wal-clause-cuts g c = λ shown sure log older own synced last whole on.
    let site = g.S.Site in
    let old = c.args.site.now in
    let mid = c.read_logs.new.site in
    let m = c.in_ok-memory.memory in
    let next = c.in_ok-number.ensures.next in
    let read = c.in_ok-memory.ensures.read shown in
    made_stands site c.cuts_stand.ensures old (λ other. g.met.S.Site.only shown old other sure) log older own synced last on
    c.names_one.ensures c.batches_are_once.ensures c.stores_stand.ensures mid c.create.new.site (map_in m.map.entries) m.last m.greatest c.in_ok-number.number whole
    (g.met.S.Site.counts_now shown mid) (c.read_logs.ensures.tells_nothing.told shown) (λ other. g.met.S.Site.only shown mid other (c.read_logs.ensures.certain shown sure)) read next.0 next.1
    (c.read_logs.ensures.cuts shown (stands_reads log older own synced last (site.disk old) whole on)) (c.create.ensures.time shown)

pub returns-in_err-wal-clause-others : goal.returns-in_err-wal-clause-others
returns-in_err-wal-clause-others g c = λ shown.
    let disk = g.S.Site.disk in
    let next = c.in_ok-number.ensures.next in
    let is : IsNumber c.in_ok-number.number = (omega (arith, next.0), next.1) in
    let mid = disk c.read_logs.new.site in
    let new = disk c.create.new.site in
    others_then (disk c.args.site.now) mid new (c.read_logs.ensures.others shown) (log_alone c.in_ok-number.number mid new is (elim c.in_err-wal.ensures.errors [
      | inl failed ↦ create_alone (log_name c.in_ok-number.number) mid new (c.in_err-wal.ensures.failed shown (ap Err failed))
      | inr memory ↦ all_same (log_name c.in_ok-number.number) mid new (c.in_err-wal.ensures.keeps shown (ap Err memory)).same
    ]))

pub returns-clause-others : goal.returns-clause-others
returns-clause-others g c = λ shown.
    let disk = g.S.Site.disk in
    let next = c.in_ok-number.ensures.next in
    let is : IsNumber c.in_ok-number.number = (omega (arith, next.0), next.1) in
    let mid = disk c.read_logs.new.site in
    let new = disk c.create.new.site in
    others_then (disk c.args.site.now) mid new (c.read_logs.ensures.others shown) (log_alone c.in_ok-number.number mid new is (c.in_ok-wal.ensures.created shown).others)

pub returns-clause-before : goal.returns-clause-before
returns-clause-before g c = λ shown.
    let site = g.S.Site in
    let old = c.args.site.now in
    let mid = c.read_logs.new.site in
    let m = c.in_ok-memory.memory in
    let next = c.in_ok-number.ensures.next in
    let read = c.in_ok-memory.ensures.read shown in
    let is : IsNumber c.in_ok-number.number = (omega (arith, next.0), next.1) in
    made_before site (folder_of (site.disk old)) c.in_ok-number.number old mid c.create.new.site
    (g.met.S.Site.counts_now shown mid) (c.read_logs.ensures.tells_nothing.told shown) is (is_next (folder_of (site.disk old)) (map_in m.map.entries) m.last m.greatest c.in_ok-number.number read.all next.0)
    (c.read_logs.ensures.before shown) (c.create.ensures.time shown)

pub returns-clause-cuts : goal.returns-clause-cuts
returns-clause-cuts g c = λ shown sure log older own synced last whole on.
    let site = g.S.Site in
    let old = c.args.site.now in
    let mid = c.read_logs.new.site in
    let m = c.in_ok-memory.memory in
    let next = c.in_ok-number.ensures.next in
    let read = c.in_ok-memory.ensures.read shown in
    made_stands site c.cuts_stand.ensures old (λ other. g.met.S.Site.only shown old other sure) log older own synced last on
    c.names_one.ensures c.batches_are_once.ensures c.stores_stand.ensures mid c.create.new.site (map_in m.map.entries) m.last m.greatest c.in_ok-number.number whole
    (g.met.S.Site.counts_now shown mid) (c.read_logs.ensures.tells_nothing.told shown) (λ other. g.met.S.Site.only shown mid other (c.read_logs.ensures.certain shown sure)) read next.0 next.1
    (c.read_logs.ensures.cuts shown (stands_reads log older own synced last (site.disk old) whole on)) (c.create.ensures.time shown)

pub returns-in_err-memory-clause-made : goal.returns-in_err-memory-clause-made
returns-in_err-memory-clause-made g c = λ shown next. absurd (no_file_no_next (g.S.Site.disk c.args.site.now) (g.S.Site.disk c.read_logs.new.site) (c.read_logs.ensures.no_file shown) next)

pub returns-in_err-number-clause-made : goal.returns-in_err-number-clause-made
returns-in_err-number-clause-made g c = λ shown next. absurd (no_file_no_next (g.S.Site.disk c.args.site.now) (g.S.Site.disk c.read_logs.new.site) (c.read_logs.ensures.no_file shown) next)

pub returns-in_err-wal-clause-made : goal.returns-in_err-wal-clause-made
returns-in_err-wal-clause-made g c = λ shown next.
    let site = g.S.Site in
    let folder = folder_of (site.disk c.args.site.now) in
    let mid = site.disk c.read_logs.new.site in
    let new = site.disk c.create.new.site in
    let m = c.in_ok-memory.memory in
    let number = c.in_ok-number.number in
    let none = λ (same : new ≡ mid). absurd (no_file_no_next (site.disk c.args.site.now) new (then_makes_no_file (site.disk c.args.site.now) mid new (c.read_logs.ensures.no_file shown) (same_makes_no_file mid new same)) next) in
    elim c.in_err-wal.ensures.errors [
      | inl failed ↦ elim (c.in_err-wal.ensures.failed shown (ap Err failed)) [
        | inl same ↦ none same
        | inr made ↦
            let read = c.in_ok-memory.ensures.read shown in
            is_opened c.names_one.ensures folder mid new (map_in m.map.entries) m.last m.greatest number read c.in_ok-number.ensures.next.0 c.in_ok-number.ensures.next.1 made
      ]
      | inr memory ↦ none (c.in_err-wal.ensures.keeps shown (ap Err memory)).same
    ]

pub returns-clause-made : goal.returns-clause-made
returns-clause-made g c = λ shown next. record { store = _; usable = refl; opens = returns-clause-opened g c shown }

pub returns-in_err-memory-clause-behind : goal.returns-in_err-memory-clause-behind
returns-in_err-memory-clause-behind g c = λ shown sure.
    let site = g.S.Site in
    unmade_behind site c.args.site.now c.read_logs.new.site (c.read_logs.ensures.no_new shown sure)

pub returns-in_err-number-clause-behind : goal.returns-in_err-number-clause-behind
returns-in_err-number-clause-behind g c = λ shown sure.
    let site = g.S.Site in
    unmade_behind site c.args.site.now c.read_logs.new.site (c.read_logs.ensures.no_new shown sure)

pub returns-in_err-wal-clause-behind : goal.returns-in_err-wal-clause-behind
returns-in_err-wal-clause-behind g c = λ shown sure.
    let site = g.S.Site in
    let old = c.args.site.now in
    let mid = c.read_logs.new.site in
    let m = c.in_ok-memory.memory in
    let number = c.in_ok-number.number in
    let read = c.in_ok-memory.ensures.read shown in
    made_behind site number old mid c.create.new.site (c.read_logs.ensures.no_file shown) (c.read_logs.ensures.no_new shown sure) (c.create.ensures.time shown)
    (λ other. g.met.S.Site.only shown mid other (c.read_logs.ensures.certain shown sure)) (c.read_logs.ensures.tells_nothing.told shown)
    (λ after made. is_opened c.names_one.ensures (folder_of (site.disk old)) (site.disk mid) after (map_in m.map.entries) m.last m.greatest number read c.in_ok-number.ensures.next.0 c.in_ok-number.ensures.next.1 made)

pub returns-clause-behind : goal.returns-clause-behind
returns-clause-behind g c = λ shown sure.
    let site = g.S.Site in
    let old = c.args.site.now in
    let mid = c.read_logs.new.site in
    let m = c.in_ok-memory.memory in
    let number = c.in_ok-number.number in
    let read = c.in_ok-memory.ensures.read shown in
    made_behind site number old mid c.create.new.site (c.read_logs.ensures.no_file shown) (c.read_logs.ensures.no_new shown sure) (c.create.ensures.time shown)
    (λ other. g.met.S.Site.only shown mid other (c.read_logs.ensures.certain shown sure)) (c.read_logs.ensures.tells_nothing.told shown)
    (λ after made. is_opened c.names_one.ensures (folder_of (site.disk old)) (site.disk mid) after (map_in m.map.entries) m.last m.greatest number read c.in_ok-number.ensures.next.0 c.in_ok-number.ensures.next.1 made)
