use Rattle.std.proofs.Common.{◌^◌}
use Rattle.std.specs.Int.{w16, w32, w64}
use Rattle.bl_code.specs.Numbers.{fixed16, fixed32, fixed64}
use Rattle.bl_code.proofs.ReadingLemmas.{fixed_again, varint32_again, varint64_again, slice_again, both16, both32, both64}
use Rattle.bl_code.proofs.laws.what_is_put_is_taken_again.Goals as goal

pub returns-clause-fixed16 : goal.returns-clause-fixed16
returns-clause-fixed16 c = fixed_again w16 fixed16 (2 ^ 16) both16

pub returns-clause-fixed32 : goal.returns-clause-fixed32
returns-clause-fixed32 c = fixed_again w32 fixed32 (2 ^ 32) both32

pub returns-clause-fixed64 : goal.returns-clause-fixed64
returns-clause-fixed64 c = fixed_again w64 fixed64 (2 ^ 64) both64

pub returns-clause-varint32 : goal.returns-clause-varint32
returns-clause-varint32 c = varint32_again

pub returns-clause-varint64 : goal.returns-clause-varint64
returns-clause-varint64 c = varint64_again

pub returns-clause-slice : goal.returns-clause-slice
returns-clause-slice c = slice_again
