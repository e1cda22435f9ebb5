use Rattle.std.proofs.Common.{◌≡◌, ◌++◌, drop, map}
use Rattle.ground_instances.specs.Tables.{setting_in}
use Rattle.pddl_ast.specs.Values.{temporal_value}
use Rattle.pddl_system.specs.CtlGoals.{goal_value, grounded_goal}
use Rattle.ground_task.proofs.goals.+grounding_goals.Given as goal

abbrev pub invariant-goals_over_conditions-loop-part : goal.invariant-goals_over_conditions-loop-part
invariant-goals_over_conditions-loop-part l =
    map goal_value l.goals.items ++ map (grounded_goal (setting_in l.setting) l.fluents) (map temporal_value (drop l.part-index l.parts))
    ≡ map (grounded_goal (setting_in l.setting) l.fluents) (map temporal_value l.parts)
