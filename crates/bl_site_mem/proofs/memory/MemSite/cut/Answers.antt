use Rattle.std.proofs.Common.{ap, subst, ◌∙◌, List, IfOk}
use Rattle.bl_site_mem.specs.Record.{Entry, Memory, disk_of}
use Rattle.bl_site_mem.specs.Bytes.{entries_of}
use Rattle.bl_site_mem.proofs.Cutting.{if_ok_map, IsCutDisk, cut_image, cut_was_left}
use Rattle.bl_site_mem.proofs.memory.MemSite.cut.Goals as goal

pub returns-clause-image : goal.returns-clause-image
returns-clause-image c =
    let is = ap entries_of c.as_slice.ensures.value ∙ ap (λ (m : Memory). m.entries) c.self.view_is in
    let left = subst (λ (es : List Entry). IfOk c.cut_of.result (λ site. IsCutDisk c.args.at c.args.keep c.args.fill es (disk_of site))) is c.cut_of.ensures.left in
    if_ok_map c.cut_of.result _ _ (λ site is_left. cut_image c.args.at c.args.keep c.args.fill c.args.self.now.entries (disk_of site) is_left) left

pub returns-clause-was_left : goal.returns-clause-was_left
returns-clause-was_left c =
    let is = ap entries_of c.as_slice.ensures.value ∙ ap (λ (m : Memory). m.entries) c.self.view_is in
    let left = subst (λ (es : List Entry). IfOk c.cut_of.result (λ site. IsCutDisk c.args.at c.args.keep c.args.fill es (disk_of site))) is c.cut_of.ensures.left in
    if_ok_map c.cut_of.result _ _ (λ site is_left. cut_was_left c.args.at c.args.keep c.args.fill c.args.self.now.entries (disk_of site) is_left) left
