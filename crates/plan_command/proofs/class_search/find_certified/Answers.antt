use Rattle.std.proofs.Common.{◌+◌, ◌*◌, []}
use Rattle.dd_sets.proofs.OwnedLemmas.{own_chain}
use Rattle.task_core.specs.Tasks.{action_count}
use Rattle.plan_command.proofs.SearchRooms.{room_after}
use Rattle.plan_command.proofs.class_search.find_certified.Goals as goal

pub returns-in-None-clause-full : goal.returns-in-None-clause-full
returns-in-None-clause-full c full w bounds =
    room_after _ _ (3 * action_count c.args.task.now + 32) 16 c.find_certificate.ensures.slots (c.find_existing.ensures.full full w bounds)

pub returns-in-None-clause-slots : goal.returns-in-None-clause-slots
returns-in-None-clause-slots c = own_chain _ _ _ [] [] c.find_certificate.ensures.slots c.find_existing.ensures.slots
