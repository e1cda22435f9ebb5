use Rattle.pddl_system.proofs.CtlGoals.{grounded_goals_are_shallow, grounded_goals_are_true, grounded_goals_name_fluents}
use Rattle.pddl_system.proofs.laws.grounded_goals_are_true.Goals as goal

pub returns-clause-truth : goal.returns-clause-truth
returns-clause-truth c = grounded_goals_are_true

pub returns-clause-fluents : goal.returns-clause-fluents
returns-clause-fluents c = grounded_goals_name_fluents

pub returns-clause-shallow : goal.returns-clause-shallow
returns-clause-shallow c = grounded_goals_are_shallow
