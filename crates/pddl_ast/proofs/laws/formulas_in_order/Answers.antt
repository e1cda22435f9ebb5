use Rattle.pddl_ast.proofs.TreeOrders.{formulas-in_order, formula-in_order}
use Rattle.pddl_ast.proofs.laws.formulas_in_order.Goals as goal

pub returns : goal.returns
returns c = record { row = formulas-in_order; formula = formula-in_order }
