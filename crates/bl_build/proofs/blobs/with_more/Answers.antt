use Rattle.std.proofs.Common.{◌<◌, ◌+◌, arith, inl, inr}
use Rattle.std.proofs.lemmas.Bool.{cases_lt}
use Rattle.bl_build.proofs.Files.{over_count, over_bytes}
use Rattle.bl_build.proofs.blobs.with_more.Goals as goal

pub returns-in_err-count : goal.returns-in_err-count
returns-in_err-count c =
    let over : c.args.file.now.total.count < c.args.file.now.garbage.count + c.args.more.now.count =
    elim (cases_lt (c.args.file.now.garbage.count + c.args.more.now.count) 18446744073709551616) [ inl less ↦ absurd (c.in_err-count.ensures less) | inr more ↦ omega arith ] in
    rw c.from_residual.ensures (over_count c.args.file.now c.args.more.now c.requires over)

pub returns-in_err-bytes : goal.returns-in_err-bytes
returns-in_err-bytes c =
    let over : c.args.file.now.total.bytes < c.args.file.now.garbage.bytes + c.args.more.now.bytes =
    elim (cases_lt (c.args.file.now.garbage.bytes + c.args.more.now.bytes) 18446744073709551616) [ inl less ↦ absurd (c.in_err-bytes.ensures less) | inr more ↦ omega arith ] in
    rw c.from_residual-in_err-bytes.ensures (over_bytes c.args.file.now c.args.more.now c.requires over)
