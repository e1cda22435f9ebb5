use Rattle.std.proofs.Common.{List, map, ap, ◌∙◌}
use Rattle.ctl_syntax.specs.Conditions.{CondTree, condition_value}
use Rattle.ctl_syntax.specs.Goals.{CtlTree, all, ag, goal_row, map_plain}
use Rattle.ctl_syntax.specs.Values.{ctl_value}
use Rattle.fair_theory.proofs.GoalRows.{kept_rows}
use Rattle.fair_theory.proofs.goals.visits_goal.Goals as goal

pub returns : goal.returns
returns c =
    ap (map_plain condition_value) c.in_ok-made.ensures
    ∙ kept_rows condition_value (map ctl_value c.in_ok-goals.goals.items)
    ∙ ap (λ (gs : List (CtlTree CondTree)). ag (all (goal_row gs))) c.in_ok-goals.ensures
