use Rattle.pddl_ast.proofs.TreeFitting.{formula-fits, first_formula-fits}
use Rattle.pddl_ast.proofs.laws.formulas_fit.Goals as goal

pub returns : goal.returns
returns c = record { formula = formula-fits; first = first_formula-fits }
