use Rattle.control_command.proofs.Yes.{judged_controller}
use Rattle.control_command.proofs.sought.judged_plans_control.Goals as goal

pub returns : goal.returns
returns c = λ kind d p g plan of judged. judged_controller c.grounded_goals_are_true.ensures.truth c.yes_is_solution.ensures c.good_rules_control.ensures kind d p g plan of judged
