use Rattle.std.proofs.Common.{◌≡◌, drop, map}
use Rattle.std.specs.List.{list_all}
use Rattle.ctl_syntax.specs.GoalSteps.{is_visit}
use Rattle.ctl_syntax.specs.Values.{ctl_value}
use Rattle.ctl_syntax.proofs.context_goals.are_visits.Given as goal

abbrev pub invariant-loop-goal : goal.invariant-loop-goal
invariant-loop-goal l =
    list_all is_visit (map ctl_value (drop l.goal-index l.goals)) ≡ list_all is_visit (map ctl_value l.goals)
