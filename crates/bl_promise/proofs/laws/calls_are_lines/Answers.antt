use Rattle.bl_promise.proofs.LineLemmas.{begun_carry, bytes_in_logs, flushes_are_lines, quiet_lines_stay, reopenings_are_lines, stores_in_order, syncs_are_lines, writes_are_lines}
use Rattle.bl_promise.proofs.laws.calls_are_lines.Goals as goal

pub returns : goal.returns
returns c =
    let order = stores_in_order c.steady_disks_stand.ensures.written c.live_parts_have_a_version.ensures in
    record {
      order = order;
      writes = writes_are_lines order;
      flushes = flushes_are_lines order;
      syncs = syncs_are_lines order;
      reopenings = reopenings_are_lines order;
      quiet = quiet_lines_stay order;
      begun = begun_carry;
      bytes = bytes_in_logs;
    }
