use Rattle.bl_store.specs.CompactionLaws.{SteadyAreHeld}
use Rattle.bl_store.proofs.CompactLemmas.{due_may_install, held_of, jobs_are_compactions, numbers_are_fresh}
use Rattle.bl_store.proofs.compacted.jobs_may_be_installed.Goals as goal

pub returns : goal.returns
returns c =
    let held : SteadyAreHeld = held_of c.steady_disks_stand.ensures.written c.folders_are_held.ensures in
    record {
      held = held;
      due = due_may_install held c.plans_are_closed.ensures.due c.plans_are_closed.ensures.full;
      jobs = jobs_are_compactions held c.jobs_compact.ensures.compact;
      fresh = numbers_are_fresh held;
    }
