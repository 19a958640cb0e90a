use Rattle.std.proofs.Common.{◌≡◌, ap, arith}
use Rattle.bl_index.specs.declared.index.BlobIndex.{BlobIndex}
use Rattle.bl_read.proofs.put.named.Goals as goal

pub unreachable-requires : goal.unreachable-requires
unreachable-requires g c =
    let (file, offset, size, is, low, high) = c.requires in
    let read = (c.decode_index.ensures.accepts (record { file = file; offset = offset; size = size })).1 is in
    cc (read, c.in-Err.is)

pub value-requires : goal.value-requires
value-requires g c =
    let (file, offset, size, is, low, high) = c.requires in
    let read = (c.decode_index.ensures.accepts (record { file = file; offset = offset; size = size })).1 is in
    let same : c.in-Ok.index ≡ record { file = file; offset = offset; size = size } = cc (read, c.in-Ok.is) in
    let number : c.in-Ok.index.file ≡ file = ap (λ (i : BlobIndex). i.file) same in
    (omega (arith, number, low), omega (arith, number, high))
