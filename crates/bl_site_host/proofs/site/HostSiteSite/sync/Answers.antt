use Rattle.bl_site_host.proofs.Kept.{last_of, stops_of}
use Rattle.bl_site_host.proofs.site.HostSiteSite.sync.Goals as goal

pub returns-clause-kept : goal.returns-clause-kept
returns-clause-kept g c = last_of _ _ _ _ c.sync-done.result c.counted.result _ _ c.counted.ensures.answered c.sync-done.ensures.kept

pub returns-clause-failed : goal.returns-clause-failed
returns-clause-failed g c = λ shown disk. stops_of _ c.sync-done.result c.counted.result _ _ c.counted.ensures.answered (c.sync-done.ensures.failed shown) disk
