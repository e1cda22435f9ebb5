use Rattle.pddl_ast.proofs.Fitting.{types-within, types-length}
use Rattle.pddl_ast.proofs.laws.types_fit.Goals as goal

pub returns : goal.returns
returns c = record { within = types-within; one_each = types-length }
