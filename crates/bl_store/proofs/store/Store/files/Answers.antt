use Rattle.bl_store.proofs.ReportLemmas.{on_disk_as}
use Rattle.bl_store.proofs.store.Store.files.Goals as goal

pub returns-in_err-edit-clause-on_disk : goal.returns-in_err-edit-clause-on_disk
returns-in_err-edit-clause-on_disk c = on_disk_as c.steady_disks_stand.ensures.hold c.steady_disks_stand.ensures.stand _ c.args.self.now c.self.invariant c.self.view_is

pub returns-in_err-from_slice-clause-on_disk : goal.returns-in_err-from_slice-clause-on_disk
returns-in_err-from_slice-clause-on_disk c = on_disk_as c.steady_disks_stand.ensures.hold c.steady_disks_stand.ensures.stand _ c.args.self.now c.self.invariant c.self.view_is

pub returns-clause-on_disk : goal.returns-clause-on_disk
returns-clause-on_disk c = on_disk_as c.steady_disks_stand.ensures.hold c.steady_disks_stand.ensures.stand _ c.args.self.now c.self.invariant c.self.view_is
