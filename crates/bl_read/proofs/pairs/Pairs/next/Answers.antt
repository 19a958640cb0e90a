use Rattle.std.proofs.Common.{sym, ◌∙◌, ap, subst}
use Rattle.std.specs.Option.{option_copied}
use Rattle.bl_site.specs.Disk.{Folder, folder_of}
use Rattle.bl_read.specs.Giving.{Gives, View, memories_of}
use Rattle.bl_read.specs.Scan.{Scan}
use Rattle.bl_read.specs.Scanning.{IsScan, next_in}
use Rattle.bl_read.proofs.pairs.Pairs.next.Goals as goal

pub returns-in_ok-self-inside-in-Some-clause-value : goal.returns-in_ok-self-inside-in-Some-clause-value
returns-in_ok-self-inside-in-Some-clause-value g c = λ shown version scan m gives.
    let f : Folder = folder_of (g.S.Site.disk c.args.site.now) in
    let view : View = record { version = version; memories = memories_of (option_copied c.args.memories.waiting) c.args.memories.in_use.now } in
    sym c.in-Some.is
    ∙ c.in_ok-found.ensures.value shown version (subst (λ (s : Scan). IsScan f version s.tables) (sym c.self.view_is) scan) m (subst (λ (s : Scan). Gives f view s.seq m) (sym c.self.view_is) gives)
    ∙ ap (λ b. next_in b m) (c.in_ok-bound.ensures.copy ∙ ap (λ (s : Scan). s.bound) c.self.view_is)

pub returns-in-None-clause-value : goal.returns-in-None-clause-value
returns-in-None-clause-value g c = λ shown version scan m gives.
    let f : Folder = folder_of (g.S.Site.disk c.args.site.now) in
    let view : View = record { version = version; memories = memories_of (option_copied c.args.memories.waiting) c.args.memories.in_use.now } in
    sym c.in-None.is
    ∙ c.in_ok-found.ensures.value shown version (subst (λ (s : Scan). IsScan f version s.tables) (sym c.self.view_is) scan) m (subst (λ (s : Scan). Gives f view s.seq m) (sym c.self.view_is) gives)
    ∙ ap (λ b. next_in b m) (c.in_ok-bound.ensures.copy ∙ ap (λ (s : Scan). s.bound) c.self.view_is)
