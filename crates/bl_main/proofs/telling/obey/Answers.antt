use Rattle.std.proofs.Common.{ℕ, List, subst}
use Rattle.bl_site.specs.Disk.{Disk, folder_of}
use Rattle.bl_shell.specs.Telling.{HasRun}
use Rattle.bl_main.proofs.telling.obey.Goals as goal

pub returns-clause-done : goal.returns-clause-done
returns-clause-done g c = λ shown read is.
    let before = c.list_logs-earlier in
    let after = c.run-status.new.site in
    subst (λ (disk : Disk). HasRun (folder_of disk) (folder_of (g.S.Site.disk after)) (g.R.Source.left c.args.script.now) (g.S.Site.told c.args.site.now) (g.S.Site.told after))
    (before.ensures.stays shown)
    (subst (λ (told : List ℕ). HasRun (folder_of (g.S.Site.disk before.new.site)) (folder_of (g.S.Site.disk after)) (g.R.Source.left c.args.script.now) told (g.S.Site.told after))
    (before.ensures.quiet.told shown) ((c.run-status.ensures.answers shown read).done is))
