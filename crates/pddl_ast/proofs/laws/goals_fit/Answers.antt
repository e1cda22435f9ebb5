use Rattle.pddl_ast.proofs.GoalFitting.{temporal-fits}
use Rattle.pddl_ast.proofs.laws.goals_fit.Goals as goal

pub returns : goal.returns
returns c = temporal-fits
