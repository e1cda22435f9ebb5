use Rattle.std.proofs.Common.{◌≡◌, ◌++◌, drop, map}
use Rattle.ctl_syntax.specs.GoalSteps.{plain_parts}
use Rattle.ctl_syntax.specs.Conditions.{condition_value}
use Rattle.ctl_syntax.specs.Values.{ctl_value}
use Rattle.ctl_syntax.proofs.rows.plain_copies.Given as goal

abbrev pub invariant-loop-goal : goal.invariant-loop-goal
invariant-loop-goal l =
    map condition_value l.copies.items ++ map condition_value (plain_parts (map ctl_value (drop l.goal-index l.goals)))
    ≡ map condition_value (plain_parts (map ctl_value l.goals))
