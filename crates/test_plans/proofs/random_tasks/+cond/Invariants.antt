-- Parts are less deep than what they are parts of.
use Rattle.std.proofs.Common.{◌+◌, ◌*◌}
use Rattle.test_plans.proofs.random_tasks.+cond.Given as goal

abbrev pub decreases-cond : goal.decreases-cond
decreases-cond l = 2 * l.depth

abbrev pub decreases-conds : goal.decreases-conds
decreases-conds l = 2 * l.depth + 1
