use Rattle.std.proofs.Common.{◌≡◌, ◌+◌, ◌<◌, ◌≤◌, List, [], inl, None, sym, subst, refl, arith}
use Rattle.std.specs.FinMap.{empty}
use Rattle.std.specs.Prelude.{◌^◌}
use Rattle.bl_flush.specs.Jobs.{next_of}
use Rattle.bl_site.specs.Disk.{folder_of}
use Rattle.bl_build.specs.Listing.{Listing, nothing}
use Rattle.bl_build.specs.Versions.{IsVersion}
use Rattle.bl_folder.specs.Holding.{Holding}
use Rattle.bl_folder.specs.Numbers.{IsFirstNumber}
use Rattle.bl_entry.specs.declared.key.Entry.{Entry}
use Rattle.bl_folder.specs.Flushes.{IsBelow}
use Rattle.bl_open.proofs.AddLemmas.{nothing_added}
use Rattle.bl_open.proofs.FullLemmas.{fresh_enough, on_ok}
use Rattle.bl_open.proofs.KeepLemmas.{begun_kept}
use Rattle.bl_open.proofs.MomentLemmas.{all_or}
use Rattle.bl_open.specs.Found.{IsLeftAs}
use Rattle.bl_open.proofs.OpenedLemmas.{each_and, each_ok, new_or_found, nothing_passes}
use Rattle.bl_open.proofs.StartingLemmas.{holds_fresh, starts_fresh}
use Rattle.bl_open.specs.Beginning.{AddsFlush, IsNumbered, IsWithin, first_file}
use Rattle.bl_open.specs.Fresh.{no_holding}
use Rattle.bl_open.specs.Recovering.{IsFullFresh, TakesFresh}
use Rattle.bl_open.specs.declared.begin.Loaded.{Loaded}
use Rattle.bl_open.proofs.opening.create_among.Goals as goal

pub returns-clause-takes : goal.returns-clause-takes
returns-clause-takes g c = λ shown.
    let folder = folder_of (g.S.Site.disk c.args.site.now) in
    let l : Loaded = record { version = c.empty-version.result; options = c.args.options; memory = c.start.result; last = 0; first = c.first_number.result } in
    let is : IsVersion nothing = subst IsVersion c.empty-version.ensures c.version_is_in_order.ensures in
    let some : 1 ≤ 1 = omega arith in
    let first : IsFirstNumber folder nothing 1 c.first_number.result = c.first_number.ensures.first folder nothing is (nothing_passes folder) (c.requires.listed shown) (inl some) in
    let none : c.start.result ≡ [] = c.start.ensures in
    each_ok c.begin.result (λ o. IsNumbered l o × AddsFlush l.version l.memory o) (TakesFresh folder c.args.options)
    (λ o both. let n = both.0 in record {
      fresh = c.requires.fresh shown;
      first = subst (IsFirstNumber folder nothing 1) (sym n.manifest) first;
      version_is = (nothing_added o (subst (λ (v : Listing). AddsFlush v [] o) c.empty-version.ensures (subst (λ (es : List Entry). AddsFlush l.version es o) none both.1))).0;
      options_are = n.options;
      last = n.last;
      next = (nothing_added o (subst (λ (v : Listing). AddsFlush v [] o) c.empty-version.ensures (subst (λ (es : List Entry). AddsFlush l.version es o) none both.1))).1;
    })
    (each_and c.begin.result (IsNumbered l) (AddsFlush l.version l.memory) c.begin.ensures.numbered (c.begin.ensures.adds shown))

pub begin-requires-clause-below : goal.begin-requires-clause-below
begin-requires-clause-below g c = λ shown. subst (λ (v : Listing). IsBelow c.first_number.result v) (sym c.empty-version.ensures) (record { tables = tt; blobs = tt })

pub returns-clause-opened : goal.returns-clause-opened
returns-clause-opened g c = λ shown maps at_first.
    let disk = g.S.Site.disk c.args.site.now in
    let l : Loaded = record { version = c.empty-version.result; options = c.args.options; memory = c.start.result; last = 0; first = c.first_number.result } in
    let is : IsVersion nothing = subst IsVersion c.empty-version.ensures c.version_is_in_order.ensures in
    let some : 1 ≤ 1 = omega arith in
    let first = c.first_number.ensures.first (folder_of disk) nothing is (nothing_passes (folder_of disk)) (c.requires.listed shown) (inl some) in
    let h : Holding = no_holding (record { log_number = l.first; next_file = l.first; last_sequence = 0; options = l.options }) in
    let s = holds_fresh c.stores_begin.ensures.fresh c.memories_tell_what_was_inserted.ensures.memory c.batches_are_held.ensures.none disk l is first c.empty-version.ensures c.start.ensures refl in
    c.begin.ensures.opened shown [] tt h empty s maps at_first

pub returns-clause-cuts : goal.returns-clause-cuts
returns-clause-cuts g c = λ shown settled.
    let disk = g.S.Site.disk c.args.site.now in
    let l : Loaded = record { version = c.empty-version.result; options = c.args.options; memory = c.start.result; last = 0; first = c.first_number.result } in
    let is : IsVersion nothing = subst IsVersion c.empty-version.ensures c.version_is_in_order.ensures in
    let some : 1 ≤ 1 = omega arith in
    let first = c.first_number.ensures.first (folder_of disk) nothing is (nothing_passes (folder_of disk)) (c.requires.listed shown) (inl some) in
    let h : Holding = no_holding (record { log_number = l.first; next_file = l.first; last_sequence = 0; options = l.options }) in
    let s = starts_fresh c.barriers_let_disks_rest.ensures.fresh c.stores_begin.ensures.fresh c.memories_tell_what_was_inserted.ensures.memory c.batches_are_held.ensures.none disk l settled (c.requires.fresh shown) is first c.empty-version.ensures c.start.ensures refl in
    record { first = first_file l.memory l.first; is_new = new_or_found g.S.Site (folder_of disk) nothing 1 l.first l.memory c.args.site.now c.begin.new.site (g.met.S.Site.only_now shown c.args.site.now) first c.begin.ensures.unmade; sides = c.begin.ensures.sides shown None h empty s; finds = λ sure. all_or g.S.Site (IsLeftAs None empty) c.args.site.now c.begin.new.site (c.begin.ensures.cuts shown sure None h empty s) }

pub returns-clause-settled : goal.returns-clause-settled
returns-clause-settled g c = λ shown settled.
    let disk = g.S.Site.disk c.args.site.now in
    let l : Loaded = record { version = c.empty-version.result; options = c.args.options; memory = c.start.result; last = 0; first = c.first_number.result } in
    let is : IsVersion nothing = subst IsVersion c.empty-version.ensures c.version_is_in_order.ensures in
    let some : 1 ≤ 1 = omega arith in
    let first = c.first_number.ensures.first (folder_of disk) nothing is (nothing_passes (folder_of disk)) (c.requires.listed shown) (inl some) in
    let h : Holding = no_holding (record { log_number = l.first; next_file = l.first; last_sequence = 0; options = l.options }) in
    let s = starts_fresh c.barriers_let_disks_rest.ensures.fresh c.stores_begin.ensures.fresh c.memories_tell_what_was_inserted.ensures.memory c.batches_are_held.ensures.none disk l settled (c.requires.fresh shown) is first c.empty-version.ensures c.start.ensures refl in
    c.begin.ensures.settled shown None h empty s

pub returns-clause-keeps : goal.returns-clause-keeps
returns-clause-keeps g c = λ shown.
    let disk = g.S.Site.disk c.args.site.now in
    let is : IsVersion nothing = subst IsVersion c.empty-version.ensures c.version_is_in_order.ensures in
    let some : 1 ≤ 1 = omega arith in
    let first = c.first_number.ensures.first (folder_of disk) nothing is (nothing_passes (folder_of disk)) (c.requires.listed shown) (inl some) in
    begun_kept c.begin.result disk disk (g.S.Site.disk c.begin.new.site) nothing 1 c.first_number.result (λ name no. refl) refl first (c.begin.ensures.keeps shown)

pub returns-clause-within : goal.returns-clause-within
returns-clause-within g c =
    let l : Loaded = record { version = c.empty-version.result; options = c.args.options; memory = c.start.result; last = 0; first = c.first_number.result } in
    each_ok c.begin.result (IsNumbered l) IsWithin (λ o n. n.within) c.begin.ensures.numbered

pub returns-clause-full : goal.returns-clause-full
returns-clause-full g c = λ n is.
    let full = c.begin.ensures.full n is in (
      full.0,
      λ shown.
          let folder = folder_of (g.S.Site.disk c.args.site.now) in
          let is_version : IsVersion nothing = subst IsVersion c.empty-version.ensures c.version_is_in_order.ensures in
          let some : 1 ≤ 1 = omega arith in
          record {
            fresh = c.requires.fresh shown;
            first = c.first_number.result;
            is_first = c.first_number.ensures.first folder nothing is_version (nothing_passes folder) (c.requires.listed shown) (inl some);
            past = subst (λ (es : List Entry). 10 ^ 15 < next_of c.args.options [] (c.first_number.result + 2) es) c.start.ensures full.1;
          },
    )

pub returns-clause-enough : goal.returns-clause-enough
returns-clause-enough g c = λ shown.
    let folder = folder_of (g.S.Site.disk c.args.site.now) in
    let l : Loaded = record { version = c.empty-version.result; options = c.args.options; memory = c.start.result; last = 0; first = c.first_number.result } in
    on_ok c.begin.result (λ o. TakesFresh folder c.args.options o × IsNumbered l o) (IsFullFresh folder → ⊥)
    (λ o both. fresh_enough folder c.args.options l o both.0 both.1)
    (each_and c.begin.result (TakesFresh folder c.args.options) (IsNumbered l) (returns-clause-takes g c shown) c.begin.ensures.numbered)
