use Rattle.pddl_ast.proofs.Fitting.{ground_atom-fits}
use Rattle.pddl_ast.proofs.laws.ground_atoms_fit.Goals as goal

pub returns : goal.returns
returns c = ground_atom-fits
