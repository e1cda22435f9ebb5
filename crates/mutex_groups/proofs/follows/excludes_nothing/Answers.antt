use Rattle.task_core.proofs.TaskSystem.{invariant_within_256}
use Rattle.mutex_groups.proofs.Soundness.{excludes}
use Rattle.mutex_groups.proofs.follows.excludes_nothing.Goals as goal

pub follows-requires : goal.follows-requires
follows-requires c = invariant_within_256 c.args.task.now

pub returns-then-are_one_of : goal.returns-then-are_one_of
returns-then-are_one_of c = λ t. excludes c.args.task.now c.args.groups.now (c.are_one_of.ensures c.if-are_one_of.true) (c.follows.ensures t)
