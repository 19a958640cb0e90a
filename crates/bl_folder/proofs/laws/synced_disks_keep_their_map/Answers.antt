use Rattle.bl_folder.proofs.SyncedLemmas.{cuts_of_synced, synced_are_settled}
use Rattle.bl_folder.proofs.laws.synced_disks_keep_their_map.Goals as goal

pub returns : goal.returns
returns c = record { settled = synced_are_settled; cuts = cuts_of_synced c.text_names_one.ensures }
