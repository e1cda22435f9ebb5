use Rattle.pddl_ast.proofs.TreeOrders.{effects-in_order, effect-in_order}
use Rattle.pddl_ast.proofs.laws.effects_in_order.Goals as goal

pub returns : goal.returns
returns c = record { row = effects-in_order; effect = effect-in_order }
