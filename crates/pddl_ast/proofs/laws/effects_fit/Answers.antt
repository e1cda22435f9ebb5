use Rattle.pddl_ast.proofs.TreeFitting.{effect-fits, first_effect-fits}
use Rattle.pddl_ast.proofs.laws.effects_fit.Goals as goal

pub returns : goal.returns
returns c = record { effect = effect-fits; first = first_effect-fits }
