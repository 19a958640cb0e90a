use Rattle.std.proofs.Common.{◌≡◌, ap}
use Rattle.std.specs.Option.{option_copied}
use Rattle.std.proofs.lemmas.Result.{err_from_is_err_and}
use Rattle.bl_site.specs.Disk.{Folder, folder_of}
use Rattle.bl_site.proofs.Quiet.{reads_on}
use Rattle.bl_read.specs.Giving.{View, memories_of}
use Rattle.bl_read.proofs.PairLemmas.{damaged_at, ended, gives_at, goes_on, scan_at, there, told_pair}
use Rattle.bl_read.proofs.pairs.pair_from.Goals as goal

pub returns-in_err-key-clause-corrupt : goal.returns-in_err-key-clause-corrupt
returns-in_err-key-clause-corrupt g c = λ shown version scan name place is.
    let f : Folder = folder_of (g.S.Site.disk c.args.site.now) in
    let now : Folder = folder_of (g.S.Site.disk c.keys.site) in
    let same : now ≡ f = ap folder_of (c.keys.invariant.quiet.stays shown).same in
    damaged_at f now same version c.keys.merged (c.keys.invariant.scan shown version scan) name
    (λ at. c.in_err-key.ensures.corrupt shown version at name place (let p = err_from_is_err_and c.from_residual.result c.from_residual.ensures.1 in cc (p.1, p.2, is)))

pub returns-in-Some-put-clause-value : goal.returns-in-Some-put-clause-value
returns-in-Some-put-clause-value g c = λ shown version scan m gives.
    let f : Folder = folder_of (g.S.Site.disk c.args.site.now) in
    let now : Folder = folder_of (g.S.Site.disk c.keys.site) in
    let same : now ≡ f = ap folder_of (c.keys.invariant.quiet.stays shown).same in
    let view : View = record { version = version; memories = memories_of (option_copied c.args.memories.waiting) c.args.memories.in_use.now } in
    told_pair m c.args.bound c.keys.bound (c.keys.invariant.next shown version scan m gives) c.in_ok-key.field-0
    (c.in_ok-key.ensures.told shown version (there f now same version c.keys.merged (c.keys.invariant.scan shown version scan)) m (gives_at f now same view c.args.seq m gives))
    c.in-Some.field-0 c.in-Some-put.value c.in-Some.is (cc (c.in-Some.put-is, c.in-Some-put.is))

pub returns-in-None-clause-value : goal.returns-in-None-clause-value
returns-in-None-clause-value g c = λ shown version scan m gives.
    let f : Folder = folder_of (g.S.Site.disk c.args.site.now) in
    let now : Folder = folder_of (g.S.Site.disk c.keys.site) in
    let same : now ≡ f = ap folder_of (c.keys.invariant.quiet.stays shown).same in
    let view : View = record { version = version; memories = memories_of (option_copied c.args.memories.waiting) c.args.memories.in_use.now } in
    ended m c.args.bound c.keys.bound (c.keys.invariant.next shown version scan m gives) c.in_ok-key.field-0
    (c.in_ok-key.ensures.told shown version (there f now same version c.keys.merged (c.keys.invariant.scan shown version scan)) m (gives_at f now same view c.args.seq m gives))
    c.in-None.is

pub keys-preserved : goal.keys-preserved
keys-preserved g c =
    let f : Folder = folder_of (g.S.Site.disk c.args.site.now) in
    let now : Folder = folder_of (g.S.Site.disk c.keys.site) in
    record {
      scan = λ shown version scan.
          let same : now ≡ f = ap folder_of (c.keys.invariant.quiet.stays shown).same in
          scan_at f now same version c.keys.merged (c.keys.invariant.scan shown version scan) c.told_next.new.merged (c.in_ok-key.ensures.scan shown version);
      next = λ shown version scan m gives.
          let same : now ≡ f = ap folder_of (c.keys.invariant.quiet.stays shown).same in
          let view : View = record { version = version; memories = memories_of (option_copied c.args.memories.waiting) c.args.memories.in_use.now } in
          goes_on m c.args.bound c.keys.bound (c.keys.invariant.next shown version scan m gives) c.in_ok-key.field-0
          (c.in_ok-key.ensures.told shown version (there f now same version c.keys.merged (c.keys.invariant.scan shown version scan)) m (gives_at f now same view c.args.seq m gives))
          c.in-Some.field-0 c.in-Some.is (cc (c.in-Some.put-is, c.in-None-put.is));
      quiet = reads_on g.S.Site c.args.site.now c.keys.site c.told_next.new.site c.keys.invariant.quiet c.in_ok-key.ensures.quiet;
    }
