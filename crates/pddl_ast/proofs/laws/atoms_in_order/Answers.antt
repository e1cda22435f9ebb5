use Rattle.pddl_ast.proofs.Orders.{atom-in_order, ground_atom-in_order}
use Rattle.pddl_ast.proofs.laws.atoms_in_order.Goals as goal

pub returns : goal.returns
returns c = record { atom = atom-in_order; ground_atom = ground_atom-in_order }
