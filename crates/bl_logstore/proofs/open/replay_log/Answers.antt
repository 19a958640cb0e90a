use Rattle.std.proofs.Common.{ap, ◌∙◌}
use Rattle.bl_site.specs.Disk.{folder_of}
use Rattle.bl_logstore.specs.Stored.{map_in}
use Rattle.bl_logstore.specs.Replaying.{after_entries}
use Rattle.std.proofs.lemmas.Result.{on_ok_weaker}
use Rattle.bl_logstore.proofs.ReplayLemmas.{replayed_one}
use Rattle.bl_logstore.proofs.open.replay_log.Goals as goal

pub returns-clause-replayed : goal.returns-clause-replayed
returns-clause-replayed g c = λ shown. on_ok_weaker c.put_entries.result (λ written before.
    replayed_one c.batches_join.ensures.join (folder_of (g.S.Site.disk c.args.site.now)) c.args.number c.args.memory.now.last c.in_ok-replayed.replayed.last c.in_ok-replayed.replayed.entries
    (map_in c.args.memory.now.map.entries) (map_in c.put_entries.new.map.entries) c.requires (c.in_ok-replayed.ensures.replayed shown)
    (written ∙ ap (λ es. after_entries es (map_in c.args.memory.now.map.entries)) c.into_vec.ensures) before)
    c.put_entries.ensures.put
