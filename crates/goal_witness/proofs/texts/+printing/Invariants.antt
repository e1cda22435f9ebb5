-- The text so far, and what is left of the goals, are together the whole.
use Rattle.std.proofs.Common.{◌≡◌, ◌++◌, drop, map, string_bytes}
use Rattle.ctl_syntax.specs.Goals.{goal_row}
use Rattle.ctl_syntax.specs.Values.{ctl_value}
use Rattle.task_core.specs.Names.{name_bytes}
use Rattle.goal_witness.specs.Texts.{parts_text}
use Rattle.goal_witness.proofs.texts.+printing.Given as goal

abbrev pub invariant-push_goals-loop-goal : goal.invariant-push_goals-loop-goal
invariant-push_goals-loop-goal l =
    string_bytes l.out ++ parts_text (map name_bytes l.fluents) (goal_row (map ctl_value (drop l.goal-index l.goals)))
    ≡ string_bytes l.fn.out ++ parts_text (map name_bytes l.fluents) (goal_row (map ctl_value l.goals))
