use Rattle.pddl_ast.proofs.GoalOrders.{temporals-in_order, temporal-in_order}
use Rattle.pddl_ast.proofs.laws.goals_in_order.Goals as goal

pub returns : goal.returns
returns c = record { row = temporals-in_order; goal = temporal-in_order }
