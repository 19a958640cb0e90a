use Rattle.bl_open.proofs.BeginLemmas.{fresh_has_tables, logs_begin, manifests_make_ready}
use Rattle.bl_open.proofs.laws.stores_begin.Goals as goal

pub returns : goal.returns
returns c =
    let laws = c.tables_are_installed.ensures in
    record {
      logs = logs_begin c.names_one.ensures laws.files;
      ready = manifests_make_ready c.names_one.ensures c.synced_manifests_are_left.ensures c.live_parts_have_a_version.ensures laws.backed laws.beginnings;
      fresh = fresh_has_tables;
    }
