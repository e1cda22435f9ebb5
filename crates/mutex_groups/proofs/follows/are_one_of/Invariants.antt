-- It is so of each group so far.
use Rattle.std.proofs.Common.{take}
use Rattle.mutex_groups.specs.Groups.{AreInductive}
use Rattle.mutex_groups.proofs.follows.are_one_of.Given as goal

abbrev pub invariant-loop-members : goal.invariant-loop-members
invariant-loop-members l = AreInductive l.task (take l.members-index l.groups)
