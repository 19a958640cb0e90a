use Rattle.std.proofs.Common.{◌≡◌, ℕ, ◌+◌, length, true, false, refl, sym, ◌∙◌, ap, subst, arith, inl, inr, [], List, Err, Ok, drop, ◌<◌, ◌^◌}
use Rattle.bl_site.specs.Disk.{Cut, Disk, IsCut}
use Rattle.bl_site.specs.Calls.{LeavesOnly}
use Rattle.bl_entry.specs.Written.{entries_of}
use Rattle.bl_names.specs.Names.{IsNumber}
use Rattle.bl_wal.specs.Held.{HoldsOneMore}
use Rattle.bl_wal.specs.LogFile.{LogFile, log_name}
use Rattle.bl_wal.specs.declared.error.WalErr.{WalErr}
use Rattle.bl_folder.specs.Memories.{IsInBounds}
use Rattle.bl_open.specs.SteadyCalls.{KeepsAllBut}
use Rattle.bl_open.specs.SteadyCuts.{LeavesMap}
use Rattle.bl_store.specs.Calls.{CutsOfCall, HasAppended, LeavesStore}
use Rattle.bl_store.specs.Held.{maps_of, with_write}
use Rattle.bl_store.specs.Standing.{StandsFor}
use Rattle.bl_store.specs.Stored.{Stored}
use Rattle.bl_store.proofs.AppendLemmas.{cut_wrote, filled_more, next_batch, settled_wrote, written_stands}
use Rattle.bl_store.proofs.BreakLemmas.{true_false}
use Rattle.bl_store.proofs.HeldLemmas.{one_longer}
use Rattle.bl_store.proofs.InsertLemmas.{bytes_more}
use Rattle.bl_store.proofs.LogLemmas.{log_there, some_stand}
use Rattle.bl_store.proofs.MomentLemmas.{cut_more, cut_of, one_call, settled_of}
use Rattle.bl_store.proofs.GivesLemmas.{KeptLaws, kept_behind, still_gives}
use Rattle.bl_store.specs.Reading.{StillGives, view_of}
use Rattle.bl_store.specs.Held.{now_of}
use Rattle.bl_store.proofs.PartLemmas.{partly_gives}
use Rattle.bl_store.proofs.store.Store.append.Goals as goal

pub returns-in-Err-clause-stands : goal.returns-in-Err-clause-stands
returns-in-Err-clause-stands g c = λ shown names held.
    let old = g.S.Site.disk c.args.site.now in
    let new = g.S.Site.disk c.append.new.site in
    let e = c.in-Err.ensures in
    let b = c.failed-self-inside.result in
    let i = c.self.inside in
    let here : Stored = record { version = i.version; standing = i.standing; manifest = i.manifest; log = i.wal; next = i.numbers; last = i.last; memory = i.memory; waiting = i.waiting; broken = i.broken } in
    let usable : i.broken ≡ false = ap (λ (x : Stored). x.broken) c.self.view_is ∙ c.requires.usable in
    let w = c.args.batch.now in
    let keeps : KeepsAllBut (log_name i.wal.number) old new = elim e.errors [
      | inl failed ↦ (e.torn shown (ap Err failed)).appends.puts.others
      | inr memory ↦ λ other ne. ap (λ (d : Disk). d other) (e.touches.keeps shown (ap Err memory)).same
    ] in
    let after : Stored = record here { log = c.append.new.self; broken = b } in
    let one = c.names_one.ensures in
    let P : Stored → Type 0 = λ x. StandsFor names held x old → LeavesStore {T = Unit {0}} names held (with_write w held) (Err c.into.result) after new in
    subst P c.self.view_is (λ t.
    let holds = e.holds shown t.steady.own t.steady.synced (log_there one names held here old t) in
    let held_on : (m : c.in-Err.error ≡ Rattle.bl_wal.specs.declared.error.WalErr.TheVariants.OutOfMemory) → StandsFor names held after new = λ m.
    some_stand one c.writes_keep_disks_steady.ensures.syncs names held here old new t c.append.new.self e.number keeps b
    (subst (λ (x : WalErr). HoldsOneMore (Err x) new c.append.new.self t.steady.own (next_batch here w) t.steady.synced) m holds) in
    record {
      ok = tt;
      err = λ no_. elim e.errors [
        | inl d ↦ (let is : b ≡ true = c.failed-self-inside.ensures ∙ e.disk_fails (ap Err d) in absurd (true_false (sym is ∙ no_)))
        | inr m ↦ held_on m
      ];
      settled = λ none chance. elim e.errors [
        | inl d ↦
            let t0 = subst (λ ns. StandsFor ns held here old) none t in
            settled_wrote one c.writes_keep_disks_steady.ensures.writes held here old new t0 w c.append.new.self e.number keeps (e.reads_torn (ap Err d))
            (subst (λ (x : WalErr). HoldsOneMore (Err x) new c.append.new.self t0.steady.own (next_batch here w) t0.steady.synced) d (e.holds shown t0.steady.own t0.steady.synced (log_there one [] held here old t0)))
            c.steady_disks_stand.ensures.settled (c.self.invariant.manifest usable)
        | inr m ↦ settled_of c.steady_disks_stand.ensures.settled held after new (subst (λ ns. StandsFor ns held after new) none (held_on m)) (c.self.invariant.manifest usable)
      ];
    })

pub returns-in-Err-clause-cuts : goal.returns-in-Err-clause-cuts
returns-in-Err-clause-cuts g c = λ shown sure held.
    let s = g.S.Site in
    let from = c.args.site.now in
    let to = c.append.new.site in
    let old = s.disk from in
    let new = s.disk to in
    let e = c.in-Err.ensures in
    let b = c.failed-self-inside.result in
    let i = c.self.inside in
    let here : Stored = record { version = i.version; standing = i.standing; manifest = i.manifest; log = i.wal; next = i.numbers; last = i.last; memory = i.memory; waiting = i.waiting; broken = i.broken } in
    let usable : i.broken ≡ false = ap (λ (x : Stored). x.broken) c.self.view_is ∙ c.requires.usable in
    let w = c.args.batch.now in
    let keeps : KeepsAllBut (log_name i.wal.number) old new = elim e.errors [
      | inl failed ↦ (e.torn shown (ap Err failed)).appends.puts.others
      | inr memory ↦ λ other ne. ap (λ (d : Disk). d other) (e.touches.keeps shown (ap Err memory)).same
    ] in
    let after : Stored = record here { log = c.append.new.self; broken = b } in
    let one = c.names_one.ensures in
    let cuts = c.steady_disks_are_left.ensures.cuts in
    let P : Stored → Type 0 = λ x. StandsFor [] held x old → CutsOfCall s held (with_write w held) from to in
    subst P c.self.view_is (λ t.
    let holds = e.holds shown t.steady.own t.steady.synced (log_there one [] held here old t) in
    let Q : List ℕ → Cut → Type 0 = LeavesMap (maps_of (with_write w held)) held.durable (length held.writes + 1) in
    let left : (k : Cut) → IsCut new (s.told to) k → Q (s.told to) k = λ k cut. elim e.errors [
      | inl d ↦
          cut_wrote one c.writes_keep_disks_steady.ensures.writes held here old new t w c.append.new.self e.number keeps (e.reads_torn (ap Err d))
          (subst (λ (x : WalErr). HoldsOneMore (Err x) new c.append.new.self t.steady.own (next_batch here w) t.steady.synced) d holds) cuts (s.told to) k cut
      | inr m ↦
          cut_more held w held.durable (s.told to) k
          (cut_of cuts held after new (s.told to) k
          (some_stand one c.writes_keep_disks_steady.ensures.syncs [] held here old new t c.append.new.self e.number keeps b
          (subst (λ (x : WalErr). HoldsOneMore (Err x) new c.append.new.self t.steady.own (next_batch here w) t.steady.synced) m holds)) cut)
    ] in
    subst (λ (n : ℕ). LeavesOnly s.clock s.left_since from to (LeavesMap (maps_of (with_write w held)) held.durable n (s.told from))) (sym (one_longer held w))
    (one_call s from to Q (λ other. g.met.S.Site.only shown from other sure) (g.met.S.Site.only_now shown from) (λ other. g.met.S.Site.only shown to other (e.touches.certain shown sure))
    (e.tells_nothing.told shown) (e.touches.time shown) (λ k cut. cut_more held w held.durable (s.told from) k (cut_of cuts held here old (s.told from) k t cut)) left))

-- ---- the log has the batch

pub returns-in-Err-insert_batch-clause-stands : goal.returns-in-Err-insert_batch-clause-stands
returns-in-Err-insert_batch-clause-stands g c = λ shown names held.
    let old = g.S.Site.disk c.args.site.now in
    let new = g.S.Site.disk c.append.new.site in
    let e = c.in_default.ensures in
    let i = c.self.inside in
    let here : Stored = record { version = i.version; standing = i.standing; manifest = i.manifest; log = i.wal; next = i.numbers; last = i.last; memory = i.memory; waiting = i.waiting; broken = i.broken } in
    let usable : i.broken ≡ false = ap (λ (x : Stored). x.broken) c.self.view_is ∙ c.requires.usable in
    let w = c.args.batch.now in
    let after : Stored = record here { log = c.append.new.self; memory = c.insert_batch.new.memory; broken = true } in
    let one = c.names_one.ensures in
    let P : Stored → Type 0 = λ x. StandsFor names held x old → LeavesStore {T = Unit {0}} names held (with_write w held) (Err c.in-Err-insert_batch.error) after new in
    subst P c.self.view_is (λ t. record {
      ok = tt;
      err = λ no_. absurd (true_false no_);
      settled = λ none chance.
          let t0 = subst (λ ns. StandsFor ns held here old) none t in
          settled_wrote one c.writes_keep_disks_steady.ensures.writes held here old new t0 w c.append.new.self e.number (e.appended shown).puts.others e.reads
          (e.holds shown t0.steady.own t0.steady.synced (log_there one [] held here old t0)) c.steady_disks_stand.ensures.settled (c.self.invariant.manifest usable);
    })

pub returns-in-Err-insert_batch-clause-cuts : goal.returns-in-Err-insert_batch-clause-cuts
returns-in-Err-insert_batch-clause-cuts g c = λ shown sure held.
    let s = g.S.Site in
    let from = c.args.site.now in
    let to = c.append.new.site in
    let old = s.disk from in
    let new = s.disk to in
    let e = c.in_default.ensures in
    let i = c.self.inside in
    let here : Stored = record { version = i.version; standing = i.standing; manifest = i.manifest; log = i.wal; next = i.numbers; last = i.last; memory = i.memory; waiting = i.waiting; broken = i.broken } in
    let usable : i.broken ≡ false = ap (λ (x : Stored). x.broken) c.self.view_is ∙ c.requires.usable in
    let w = c.args.batch.now in
    let one = c.names_one.ensures in
    let cuts = c.steady_disks_are_left.ensures.cuts in
    let P : Stored → Type 0 = λ x. StandsFor [] held x old → CutsOfCall s held (with_write w held) from to in
    subst P c.self.view_is (λ t.
    let holds = e.holds shown t.steady.own t.steady.synced (log_there one [] held here old t) in
    let Q : List ℕ → Cut → Type 0 = LeavesMap (maps_of (with_write w held)) held.durable (length held.writes + 1) in
    subst (λ (n : ℕ). LeavesOnly s.clock s.left_since from to (LeavesMap (maps_of (with_write w held)) held.durable n (s.told from))) (sym (one_longer held w))
    (one_call s from to Q (λ other. g.met.S.Site.only shown from other sure) (g.met.S.Site.only_now shown from) (λ other. g.met.S.Site.only shown to other (e.touches.certain shown sure))
    (e.tells_nothing.told shown) (e.touches.time shown) (λ k cut. cut_more held w held.durable (s.told from) k (cut_of cuts held here old (s.told from) k t cut))
    (λ k cut. cut_wrote one c.writes_keep_disks_steady.ensures.writes held here old new t w c.append.new.self e.number (e.appended shown).puts.others e.reads holds cuts (s.told to) k cut)))

pub invariant_of-self-2 : goal.invariant_of-self-2
invariant_of-self-2 g c =
    let e = c.in_default.ensures in
    let v = c.self.invariant in
    let i = c.self.inside in
    let here : Stored = record { version = i.version; standing = i.standing; manifest = i.manifest; log = i.wal; next = i.numbers; last = i.last; memory = i.memory; waiting = i.waiting; broken = i.broken } in
    let usable : i.broken ≡ false = ap (λ (x : Stored). x.broken) c.self.view_is ∙ c.requires.usable in
    let w = c.args.batch.now in
    let count : c.from.result ≡ length w = c.from.ensures ∙ c.count.ensures in
    let room : i.last + length w < 2 ^ 56 = subst (λ (x : Stored). x.last + length w < 2 ^ 56) (sym c.self.view_is) c.requires.room in
    let fits : IsInBounds (next_batch here w) = record { operations = c.insert_batch.ensures.fit; sequences = λ some. omega (arith, room) } in
    let filled = filled_more i.memory c.insert_batch.new.memory i.last (next_batch here w) (i.last + length w) (v.filled usable) fits (c.in_default-insert_batch.ensures.holds) in
    record {
      log_number = subst IsNumber (sym e.number) v.log_number;
      manifest_number = v.manifest_number;
      log = λ no_. ap (λ (l : LogFile). l.failed) e.moved ∙ v.log usable;
      manifest = v.manifest;
      filled = λ no_. subst (λ n. Rattle.bl_open.specs.Replaying.IsFilled c.insert_batch.new.memory (i.last + n)) (sym count) filled;
      waits = v.waits;
      last = omega (arith, room, count);
      next = v.next;
    }

pub returns-clause-appended : goal.returns-clause-appended
returns-clause-appended g c =
    let i = c.self.inside in
    let here : Stored = record { version = i.version; standing = i.standing; manifest = i.manifest; log = i.wal; next = i.numbers; last = i.last; memory = i.memory; waiting = i.waiting; broken = i.broken } in
    let usable : i.broken ≡ false = ap (λ (x : Stored). x.broken) c.self.view_is ∙ c.requires.usable in
    let w = c.args.batch.now in
    let count : c.from.result ≡ length w = c.from.ensures ∙ c.count.ensures in
    let filled = c.self.invariant.filled usable in
    let after : Stored = record here { log = c.append.new.self; last = i.last + c.from.result; memory = c.insert_batch.new.memory } in
    let P : Stored → Type 0 = λ x. HasAppended w x after in
    subst P c.self.view_is (record {
      last = ap (λ n. i.last + n) count;
      bytes = bytes_more i.memory c.insert_batch.new.memory (entries_of filled.batches) i.last (i.last + length w) w filled.holds (c.in_default-insert_batch.ensures.holds (entries_of filled.batches) filled.holds);
      rest = refl;
    })

pub returns-clause-stands : goal.returns-clause-stands
returns-clause-stands g c = λ shown names held.
    let old = g.S.Site.disk c.args.site.now in
    let new = g.S.Site.disk c.append.new.site in
    let e = c.in_default.ensures in
    let i = c.self.inside in
    let here : Stored = record { version = i.version; standing = i.standing; manifest = i.manifest; log = i.wal; next = i.numbers; last = i.last; memory = i.memory; waiting = i.waiting; broken = i.broken } in
    let usable : i.broken ≡ false = ap (λ (x : Stored). x.broken) c.self.view_is ∙ c.requires.usable in
    let w = c.args.batch.now in
    let count : c.from.result ≡ length w = c.from.ensures ∙ c.count.ensures in
    let room : i.last + length w < 2 ^ 56 = subst (λ (x : Stored). x.last + length w < 2 ^ 56) (sym c.self.view_is) c.requires.room in
    let fits : IsInBounds (next_batch here w) = record { operations = c.insert_batch.ensures.fit; sequences = λ some. omega (arith, room) } in
    let after : Stored = record here { log = c.append.new.self; last = i.last + c.from.result; memory = c.insert_batch.new.memory } in
    let one = c.names_one.ensures in
    let P : Stored → Type 0 = λ x. StandsFor names held x old → LeavesStore {T = Unit {0}} names held (with_write w held) (Ok (tt {0})) after new in
    subst P c.self.view_is (λ t.
    let holds = e.holds shown t.steady.own t.steady.synced (log_there one names held here old t) in
    let stands : StandsFor names (with_write w held) after new =
    subst (λ n. StandsFor names (with_write w held) (record after { last = i.last + n }) new) (sym count)
    (written_stands one c.writes_keep_disks_steady.ensures.writes names held here old new t w c.append.new.self e.number (e.appended shown).puts.others e.reads holds c.insert_batch.new.memory fits
    (c.in_default-insert_batch.ensures.holds (entries_of (drop t.steady.below t.steady.holding.batches)) t.carries.memory)) in
    record {
      ok = stands;
      err = tt;
      settled = λ none chance. settled_of c.steady_disks_stand.ensures.settled (with_write w held) after new (subst (λ ns. StandsFor ns (with_write w held) after new) none stands) (c.self.invariant.manifest usable);
    })

pub returns-clause-cuts : goal.returns-clause-cuts
returns-clause-cuts g c = λ shown sure held.
    let s = g.S.Site in
    let from = c.args.site.now in
    let to = c.append.new.site in
    let old = s.disk from in
    let new = s.disk to in
    let e = c.in_default.ensures in
    let i = c.self.inside in
    let here : Stored = record { version = i.version; standing = i.standing; manifest = i.manifest; log = i.wal; next = i.numbers; last = i.last; memory = i.memory; waiting = i.waiting; broken = i.broken } in
    let usable : i.broken ≡ false = ap (λ (x : Stored). x.broken) c.self.view_is ∙ c.requires.usable in
    let w = c.args.batch.now in
    let one = c.names_one.ensures in
    let cuts = c.steady_disks_are_left.ensures.cuts in
    let P : Stored → Type 0 = λ x. StandsFor [] held x old → CutsOfCall s held (with_write w held) from to in
    subst P c.self.view_is (λ t.
    let holds = e.holds shown t.steady.own t.steady.synced (log_there one [] held here old t) in
    let Q : List ℕ → Cut → Type 0 = LeavesMap (maps_of (with_write w held)) held.durable (length held.writes + 1) in
    subst (λ (n : ℕ). LeavesOnly s.clock s.left_since from to (LeavesMap (maps_of (with_write w held)) held.durable n (s.told from))) (sym (one_longer held w))
    (one_call s from to Q (λ other. g.met.S.Site.only shown from other sure) (g.met.S.Site.only_now shown from) (λ other. g.met.S.Site.only shown to other (e.touches.certain shown sure))
    (e.tells_nothing.told shown) (e.touches.time shown) (λ k cut. cut_more held w held.durable (s.told from) k (cut_of cuts held here old (s.told from) k t cut))
    (λ k cut. cut_wrote one c.writes_keep_disks_steady.ensures.writes held here old new t w c.append.new.self e.number (e.appended shown).puts.others e.reads holds cuts (s.told to) k cut)))

-- ---- what readers are given behind a failure

pub returns-in-Err-clause-gives : goal.returns-in-Err-clause-gives
returns-in-Err-clause-gives g c = λ shown names held.
    let old = g.S.Site.disk c.args.site.now in
    let new = g.S.Site.disk c.append.new.site in
    let e = c.in-Err.ensures in
    let i = c.self.inside in
    let here : Stored = record { version = i.version; standing = i.standing; manifest = i.manifest; log = i.wal; next = i.numbers; last = i.last; memory = i.memory; waiting = i.waiting; broken = i.broken } in
    let usable : i.broken ≡ false = ap (λ (x : Stored). x.broken) c.self.view_is ∙ c.requires.usable in
    let keeps : KeepsAllBut (log_name i.wal.number) old new = elim e.errors [
      | inl failed ↦ (e.torn shown (ap Err failed)).appends.puts.others
      | inr memory ↦ λ other ne. ap (λ (d : Disk). d other) (e.touches.keeps shown (ap Err memory)).same
    ] in
    let after : Stored = record here { log = c.append.new.self; broken = c.failed-self-inside.result } in
    let laws : KeptLaws = record { one = c.names_one.ensures; whole = c.held_are_whole.ensures; written = c.steady_disks_stand.ensures.written; gives = c.stores_give_their_map.ensures } in
    let P : Stored → Type 0 = λ x. StandsFor names held x old → StillGives {T = Unit {0}} held (Err c.into.result) after new in
    subst P c.self.view_is (λ t. still_gives laws names held here after old new c.self.invariant usable t (λ name own. keeps name (λ is. own (inl is))) refl refl)

pub returns-in-Err-insert_batch-clause-gives : goal.returns-in-Err-insert_batch-clause-gives
returns-in-Err-insert_batch-clause-gives g c = λ shown names held.
    let old = g.S.Site.disk c.args.site.now in
    let new = g.S.Site.disk c.append.new.site in
    let e = c.in_default.ensures in
    let i = c.self.inside in
    let here : Stored = record { version = i.version; standing = i.standing; manifest = i.manifest; log = i.wal; next = i.numbers; last = i.last; memory = i.memory; waiting = i.waiting; broken = i.broken } in
    let usable : i.broken ≡ false = ap (λ (x : Stored). x.broken) c.self.view_is ∙ c.requires.usable in
    let w = c.args.batch.now in
    let room : here.last + length w < 2 ^ 56 = subst (λ (x : Stored). x.last + length w < 2 ^ 56) (sym c.self.view_is) c.requires.room in
    let after : Stored = record here { log = c.append.new.self; memory = c.insert_batch.new.memory; broken = true } in
    let laws : KeptLaws = record { one = c.names_one.ensures; whole = c.held_are_whole.ensures; written = c.steady_disks_stand.ensures.written; gives = c.stores_give_their_map.ensures } in
    let P : Stored → Type 0 = λ x. StandsFor names held x old → StillGives {T = Unit {0}} held (Err c.in-Err-insert_batch.error) after new in
    subst P c.self.view_is (λ t.
    kept_behind laws names held here after old new c.self.invariant t (λ name own. (e.appended shown).puts.others name (λ is. own (inl is))) (view_of after) here.last (now_of held) refl
    (partly_gives c.folders_stand_for_one_map.ensures.holding c.memories_tell_what_was_inserted.ensures.memory c.sound_folders_give_their_map.ensures c.steady_disks_stand.ensures.hold c.steady_disks_stand.ensures.stand
    names held here old c.self.invariant usable t w c.in-Err-insert_batch.ensures.fit room c.insert_batch.new.memory c.in-Err-insert_batch.ensures.partly))
