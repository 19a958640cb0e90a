use Rattle.std.proofs.Common.{◌∙◌, sym}
use Rattle.bl_site_host.proofs.Kept.{last_told}
use Rattle.bl_site_host.proofs.site.HostSiteSite.tell.Goals as goal

pub returns-then-is_err-clause-kept : goal.returns-then-is_err-clause-kept
returns-then-is_err-clause-kept g c = last_told _ _ _ _ c.tell.result (sym c.is_err.ensures.value ∙ c.if-is_err.true) c.tell.ensures.disk c.tell.ensures.kept
