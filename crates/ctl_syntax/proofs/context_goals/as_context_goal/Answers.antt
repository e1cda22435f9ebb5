use Rattle.ctl_syntax.specs.Values.{ctl_value}
use Rattle.ctl_syntax.proofs.GoalConditions.{answer_depth, answer_names}
use Rattle.ctl_syntax.proofs.context_goals.as_context_goal.Goals as goal

pub returns-clause-names : goal.returns-clause-names
returns-clause-names c = λ n below. answer_names n (ctl_value c.args.goal.now) c.context_goal.result below c.context_goal.ensures

pub returns-clause-shallow : goal.returns-clause-shallow
returns-clause-shallow c = λ n deep. answer_depth n (ctl_value c.args.goal.now) c.context_goal.result deep c.context_goal.ensures
