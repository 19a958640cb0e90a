use Rattle.std.proofs.Common.{arith}
use Rattle.bl_site_host.proofs.Sound.{on_synced}
use Rattle.bl_site_host.proofs.folder.Folder.close_oldest.Goals as goal
use Rattle.bl_site_host.proofs.folder.Folder.close_oldest.Goals.{in_default-via-in-Some+else-take_oldest, in_default-via-in_default}

pub returns-in-Some-clause-synced : goal.returns-in-Some-clause-synced
returns-in-Some-clause-synced g c = λ shown. on_synced _ _ _ c.synced.ensures.done (λ good any. record {
  oldest = c.in-Some.oldest;
  others = c.in-Some.ensures.oldest;
  synced = λ _. rw good at (c.sync_file-done.ensures shown);
})

pub returns-in_default-clause-synced : goal.returns-in_default-clause-synced
returns-in_default-clause-synced g c = λ shown any. elim c.in_default.branch [
  | in_default-via-in-Some+else-take_oldest w ↦ record {
    oldest = w.in-Some.oldest;
    others = w.in-Some.ensures.oldest;
    synced = λ marked. let no = w.if-take_oldest.false in cc;
  }
  | in_default-via-in_default w ↦ absurd (omega (arith, w.in_default.ensures.none))
]
