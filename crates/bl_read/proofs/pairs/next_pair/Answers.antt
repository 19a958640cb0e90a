use Rattle.std.proofs.Common.{◌≡◌, sym, ◌∙◌, ap, subst}
use Rattle.std.specs.Prelude.{IfOk}
use Rattle.std.specs.Option.{option_copied}
use Rattle.bl_site.specs.Disk.{Folder, folder_of}
use Rattle.bl_read.specs.Giving.{Gives, View, memories_of}
use Rattle.bl_read.specs.Scanning.{next_in}
use Rattle.bl_read.proofs.PairLemmas.{damaged_at, gives_at, there}
use Rattle.bl_read.proofs.pairs.next_pair.Goals as goal

pub returns-clause-value : goal.returns-clause-value
returns-clause-value g c = λ shown m gives.
    let f : Folder = folder_of (g.S.Site.disk c.args.site.now) in
    let now : Folder = folder_of (g.S.Site.disk c.open.new.site) in
    let same : now ≡ f = ap folder_of (c.in_ok-pairs.ensures.quiet.stays shown).same in
    let view : View = record { version = c.args.version.now; memories = memories_of (option_copied c.args.memories.waiting) c.args.memories.in_use.now } in
    subst (λ b. IfOk c.next.result (λ found. found ≡ next_in b m)) (c.in_ok-pairs.ensures.bound ∙ c.in_ok-bound.ensures.copy)
    (c.next.ensures.value shown c.args.version.now (there f now same c.args.version.now c.in_ok-pairs.pairs.tables (c.in_ok-pairs.ensures.scan shown)) m
    (subst (λ s. Gives now view s m) (sym c.in_ok-pairs.ensures.seq) (gives_at f now same view c.args.seq m gives)))

pub returns-clause-corrupt : goal.returns-clause-corrupt
returns-clause-corrupt g c = λ shown name place is.
    let f : Folder = folder_of (g.S.Site.disk c.args.site.now) in
    let now : Folder = folder_of (g.S.Site.disk c.open.new.site) in
    let same : now ≡ f = ap folder_of (c.in_ok-pairs.ensures.quiet.stays shown).same in
    damaged_at f now same c.args.version.now c.in_ok-pairs.pairs.tables (c.in_ok-pairs.ensures.scan shown) name
    (λ at. c.next.ensures.corrupt shown c.args.version.now at name place is)
