use Rattle.std.proofs.Common.{◌≡◌, ap, subst, Err}
use Rattle.bl_site.specs.Disk.{Folder, folder_of}
use Rattle.bl_read.specs.Reading.{IsDamaged}
use Rattle.bl_store.specs.Stored.{Stored}
use Rattle.bl_store.specs.declared.error.StoreErr.TheVariants.{Corrupt}
use Rattle.bl_store.proofs.ReadLemmas.{corrupt_of}
use Rattle.bl_store.proofs.store.Store.pair_now.Goals as goal

pub returns-in-Err-clause-corrupt : goal.returns-in-Err-clause-corrupt
returns-in-Err-clause-corrupt g c = λ shown name place is.
    let f : Folder = folder_of (g.S.Site.disk c.args.site.now) in
    let told : c.into.result ≡ Corrupt name place = cc is in
    subst (λ (s : Stored). IsDamaged f s.version name) c.self.view_is (c.in-Err.ensures.corrupt shown name place (ap Err (corrupt_of c.in-Err.error c.into.result name place c.into.ensures told)))
