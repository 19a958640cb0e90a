use Rattle.std.proofs.Common.{ℕ, ◌+◌, ◌∷◌, ◌++◌, [], length, ◌∙◌, ap, subst, refl, inl, inr, true, Err}
use Rattle.bl_wal.specs.LogFile.{log_name}
use Rattle.bl_logstore.specs.Stored.{Stored, map_in, next_batch, StandsOn, Carries, MayHold, KeepsAllBut}
use Rattle.bl_logstore.proofs.CarryLemmas.{carried, may_hold, changes, more_follow}
use Rattle.bl_logstore.proofs.MomentLemmas.{still_stands_more, append_stands}
use Rattle.bl_logstore.proofs.OtherLemmas.{all_same}
use Rattle.bl_logstore.proofs.store.Store.write.Goals as goal

pub returns-in-Err-clause-held : goal.returns-in-Err-clause-held
returns-in-Err-clause-held g c = λ shown older own synced.
    let old = g.S.Site.disk c.args.site.now in
    let new = g.S.Site.disk c.append.new.site in
    let next : Stored = record { log = c.append.new.self; last = c.self.inside.last; now = map_in c.self.inside.map.entries; broken = c.failed-self-inside.result } in
    let here : Stored = record { log = c.self.inside.wal; last = c.self.inside.last; now = map_in c.self.inside.map.entries; broken = c.self.inside.broken } in
    let P : Stored → Type 0 = λ s. Carries s older own synced old → MayHold s next c.args.batch.now older own synced new in
    subst P c.self.view_is (λ carries.
    may_hold c.records_are_batches.ensures.next c.names_one.ensures here c.append.new.self c.args.batch.now older own synced old new c.in-Err.error c.append.ensures.number
    (c.in-Err.ensures.holds shown own synced carries.on.holds) (λ is. (c.in-Err.ensures.torn shown is).appends.puts.others) (λ is. (c.in-Err.ensures.touches.keeps shown is).same) c.in-Err.ensures.reads_torn carries)

pub returns-in-Err-put_operations-clause-held : goal.returns-in-Err-put_operations-clause-held
returns-in-Err-put_operations-clause-held g c = λ shown older own synced.
    let old = g.S.Site.disk c.args.site.now in
    let new = g.S.Site.disk c.append.new.site in
    let next : Stored = record { log = c.append.new.self; last = c.self.inside.last + c.from-count.result; now = map_in c.put_operations.new.map.entries; broken = true } in
    let here : Stored = record { log = c.self.inside.wal; last = c.self.inside.last; now = map_in c.self.inside.map.entries; broken = c.self.inside.broken } in
    let b = next_batch here c.args.batch.now in
    let P : Stored → Type 0 = λ s. Carries s older own synced old → MayHold s next c.args.batch.now older own synced new in
    subst P c.self.view_is (λ carries.
    inr (changes c.names_one.ensures here.log older own synced here.last old new c.append.new.self (own ++ b ∷ []) synced (here.last + length c.args.batch.now) carries.on c.append.ensures.number
    (c.in_default.ensures.appended shown).puts.others (c.in_default.ensures.holds shown own synced carries.on.holds)
    (more_follow c.records_are_batches.ensures.next own carries.on.between here.last b carries.on.follow c.in_default.ensures.reads refl)))

pub returns-clause-carried : goal.returns-clause-carried
returns-clause-carried g c = λ shown older own synced.
    let old = g.S.Site.disk c.args.site.now in
    let new = g.S.Site.disk c.append.new.site in
    let next : Stored = record { log = c.append.new.self; last = c.self.inside.last + c.from-count.result; now = map_in c.put_operations.new.map.entries; broken = c.self.inside.broken } in
    let here : Stored = record { log = c.self.inside.wal; last = c.self.inside.last; now = map_in c.self.inside.map.entries; broken = c.self.inside.broken } in
    let P : Stored → Type 0 = λ s. Carries s older own synced old → Carries next older (own ++ next_batch s c.args.batch.now ∷ []) synced new in
    subst P c.self.view_is (λ carries.
    carried c.records_are_batches.ensures.next c.names_one.ensures here c.append.new.self (c.self.inside.last + c.from-count.result) (map_in c.put_operations.new.map.entries) c.self.inside.broken
    c.args.batch.now older own synced old new c.append.ensures.number (ap (λ n. c.self.inside.last + n) (c.from-count.ensures ∙ c.count.ensures))
    (c.in_default.ensures.appended shown).puts.others (c.in_default.ensures.holds shown own synced carries.on.holds) c.in_default.ensures.reads c.in_default-put_operations.ensures.put carries)

pub returns-in-Err-clause-others : goal.returns-in-Err-clause-others
returns-in-Err-clause-others g c = λ shown.
    let old = g.S.Site.disk c.args.site.now in
    let new = g.S.Site.disk c.append.new.site in
    let here : Stored = record { log = c.self.inside.wal; last = c.self.inside.last; now = map_in c.self.inside.map.entries; broken = c.self.inside.broken } in
    let P : Stored → Type 0 = λ s. KeepsAllBut (log_name s.log.number) old new in
    subst P c.self.view_is (elim c.in-Err.ensures.errors [
      | inl failed ↦ (c.in-Err.ensures.torn shown (ap Err failed)).appends.puts.others
      | inr memory ↦ all_same (log_name here.log.number) old new (c.in-Err.ensures.touches.keeps shown (ap Err memory)).same
    ])

pub returns-in-Err-put_operations-clause-others : goal.returns-in-Err-put_operations-clause-others
returns-in-Err-put_operations-clause-others g c = λ shown.
    let P : Stored → Type 0 = λ s. KeepsAllBut (log_name s.log.number) (g.S.Site.disk c.args.site.now) (g.S.Site.disk c.append.new.site) in
    subst P c.self.view_is (c.in_default.ensures.appended shown).puts.others

pub returns-clause-others : goal.returns-clause-others
returns-clause-others g c = λ shown.
    let P : Stored → Type 0 = λ s. KeepsAllBut (log_name s.log.number) (g.S.Site.disk c.args.site.now) (g.S.Site.disk c.append.new.site) in
    subst P c.self.view_is (c.in_default.ensures.appended shown).puts.others

pub returns-then-self-clause-cuts : goal.returns-then-self-clause-cuts
returns-then-self-clause-cuts g c = λ shown sure older own synced carries.
    let site = g.S.Site in
    let old = c.args.site.now in
    let store = c.args.self.now in
    let b = next_batch store c.args.batch.now in
    still_stands_more site c.cuts_stand.ensures old (g.met.S.Site.only_now shown old) (λ other. g.met.S.Site.only shown old other sure)
    store.log older own synced store.last carries.on (b ∷ [])

pub returns-then-self-gt-MAX_SEQUENCE-clause-cuts : goal.returns-then-self-gt-MAX_SEQUENCE-clause-cuts
returns-then-self-gt-MAX_SEQUENCE-clause-cuts g c = λ shown sure older own synced carries.
    let site = g.S.Site in
    let old = c.args.site.now in
    let store = c.args.self.now in
    let b = next_batch store c.args.batch.now in
    still_stands_more site c.cuts_stand.ensures old (g.met.S.Site.only_now shown old) (λ other. g.met.S.Site.only shown old other sure)
    store.log older own synced store.last carries.on (b ∷ [])

pub returns-in-Err-clause-cuts : goal.returns-in-Err-clause-cuts
returns-in-Err-clause-cuts g c = λ shown sure older own synced carries.
    let site = g.S.Site in
    let old = c.args.site.now in
    let store = c.args.self.now in
    let b = next_batch store c.args.batch.now in
    let new = c.append.new.site in
    append_stands site c.cuts_stand.ensures old (g.met.S.Site.only_now shown old) (λ other. g.met.S.Site.only shown old other sure)
    store.log older own synced store.last carries.on new c.append.new.self (b ∷ []) (store.last + length c.args.batch.now) (c.append.ensures.tells_nothing.told shown)
    (λ other. g.met.S.Site.only shown new other (c.append.ensures.touches.certain shown sure)) (c.append.ensures.touches.time shown) (returns-in-Err-clause-held g c shown older own synced carries)

pub returns-in-Err-put_operations-clause-cuts : goal.returns-in-Err-put_operations-clause-cuts
returns-in-Err-put_operations-clause-cuts g c = λ shown sure older own synced carries.
    let site = g.S.Site in
    let old = c.args.site.now in
    let store = c.args.self.now in
    let b = next_batch store c.args.batch.now in
    let new = c.append.new.site in
    append_stands site c.cuts_stand.ensures old (g.met.S.Site.only_now shown old) (λ other. g.met.S.Site.only shown old other sure)
    store.log older own synced store.last carries.on new c.append.new.self (b ∷ []) (store.last + length c.args.batch.now) (c.append.ensures.tells_nothing.told shown)
    (λ other. g.met.S.Site.only shown new other (c.append.ensures.touches.certain shown sure)) (c.append.ensures.touches.time shown) (returns-in-Err-put_operations-clause-held g c shown older own synced carries)

pub returns-clause-cuts : goal.returns-clause-cuts
returns-clause-cuts g c = λ shown sure older own synced carries.
    let site = g.S.Site in
    let old = c.args.site.now in
    let store = c.args.self.now in
    let b = next_batch store c.args.batch.now in
    let new = c.append.new.site in
    let L : ℕ → Type 0 = λ l. StandsOn c.append.new.self older (own ++ b ∷ []) synced l (site.disk new) in
    append_stands site c.cuts_stand.ensures old (g.met.S.Site.only_now shown old) (λ other. g.met.S.Site.only shown old other sure)
    store.log older own synced store.last carries.on new c.append.new.self (b ∷ []) (store.last + length c.args.batch.now) (c.append.ensures.tells_nothing.told shown)
    (λ other. g.met.S.Site.only shown new other (c.append.ensures.touches.certain shown sure)) (c.append.ensures.touches.time shown) (inr (subst L (ap (λ n. c.self.inside.last + n) (c.from-count.ensures ∙ c.count.ensures) ∙ ap (λ (s : Stored). s.last + length c.args.batch.now) c.self.view_is) (returns-clause-carried g c shown older own synced carries).on))
