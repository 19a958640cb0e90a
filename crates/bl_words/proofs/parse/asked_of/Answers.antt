use Rattle.std.proofs.Common.{arith}
use Rattle.bl_words.proofs.parse.asked_of.Goals as goal

pub invariant_of-result : goal.invariant_of-result
invariant_of-result c = record {
  min_blob_size = c.requires 1 (omega arith, omega arith);
  blob_file_size = c.requires 2 (omega arith, omega arith);
  write_buffer = c.requires 3 (omega arith, omega arith);
  table_size = c.requires 4 (omega arith, omega arith);
  level0_trigger = c.requires 5 (omega arith, omega arith);
  level_base = c.requires 6 (omega arith, omega arith);
  level_factor = c.requires 7 (omega arith, omega arith);
  age_cutoff = c.requires 8 (omega arith, omega arith);
  force_threshold = c.requires 9 (omega arith, omega arith);
}
