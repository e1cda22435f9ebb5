use Rattle.ctl_syntax.proofs.GoalConditions.{true_alike}
use Rattle.ctl_syntax.proofs.GoalTruth.{not_both}
use Rattle.ctl_syntax.proofs.laws.context_goals_are_true.Goals as goal

pub returns-clause-alike : goal.returns-clause-alike
returns-clause-alike c = true_alike

pub returns-clause-one : goal.returns-clause-one
returns-clause-one c = λ goal chain visits first second. not_both goal chain visits first second
