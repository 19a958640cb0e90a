use Rattle.std.proofs.Common.{ap, ◌∙◌, refl, true, Some, None}
use Rattle.std.specs.Prelude.{◌&&◌}
use Rattle.bl_code.specs.Order.{bytes_le, bytes_lt}
use Rattle.bl_logstore.specs.Pairs.{is_from, is_before, pairs_between}
use Rattle.bl_logstore.specs.Stored.{Stored}
use Rattle.bl_logstore.proofs.MapLemmas.{part_is, not_past}
use Rattle.bl_logstore.proofs.store.Store.pairs.Goals as goal

pub returns-in-Some-Some : goal.returns-in-Some-Some
returns-in-Some-Some c =
    let from = c.in-Some-Some.from.now in
    let to = c.in-Some-Some.to.now in
    rw (c.in-Some-Some.is-0, c.in-Some-Some.is-1)
    (part_is (λ e. bytes_le from e.0 && bytes_lt e.0 to) (λ e. is_from (Some from) e.0 && is_before (Some to) e.0) c.self.inside.map.entries c.between.result c.len-keys_ascend.ensures.ordered c.between.ensures (λ e. refl)
    ∙ ap (λ (s : Stored). pairs_between (Some from) (Some to) s.now) c.self.view_is)

pub returns-in-Some-None : goal.returns-in-Some-None
returns-in-Some-None c =
    let from = c.in-Some-None.from.now in
    rw (c.in-Some-None.is-0, c.in-Some-None.is-1)
    (part_is _ (λ e. is_from (Some from) e.0 && is_before None e.0) c.self.inside.map.entries c.range.result c.len-keys_ascend.ensures.ordered (c.range.ensures.between tt) (λ e. refl)
    ∙ ap (λ (s : Stored). pairs_between (Some from) None s.now) c.self.view_is)

pub returns-in-None-Some : goal.returns-in-None-Some
returns-in-None-Some c =
    let to = c.in-None-Some.to.now in
    rw (c.in-None-Some.is-0, c.in-None-Some.is-1)
    (part_is _ (λ e. is_from None e.0 && is_before (Some to) e.0) c.self.inside.map.entries c.range-in-None-Some.result c.len-keys_ascend.ensures.ordered (c.range-in-None-Some.ensures.between tt)
    (λ e. ap (λ b. true && b) (not_past e.0 to))
    ∙ ap (λ (s : Stored). pairs_between None (Some to) s.now) c.self.view_is)

pub returns-in-None-None : goal.returns-in-None-None
returns-in-None-None c =
    rw (c.in-None-None.is-0, c.in-None-None.is-1)
    (part_is _ (λ e. is_from None e.0 && is_before None e.0) c.self.inside.map.entries c.range-in-None-None.result c.len-keys_ascend.ensures.ordered (c.range-in-None-None.ensures.between tt) (λ e. refl)
    ∙ ap (λ (s : Stored). pairs_between None None s.now) c.self.view_is)
