use Rattle.std.proofs.Common.{Some, refl, sym, subst}
use Rattle.bl_site_host.specs.Failures.{IsPut}
use Rattle.bl_site_host.proofs.keeper.Failures.put.Goals as goal

pub returns-in-Disk : goal.returns-in-Disk
returns-in-Disk c = subst (λ fault. IsPut c.args.asked c.args.name.now fault c.args.self.now.last (Some c.new.result)) (sym c.in-Disk.is) (c.new.result, refl, c.new.ensures.of, c.new.ensures.error)
