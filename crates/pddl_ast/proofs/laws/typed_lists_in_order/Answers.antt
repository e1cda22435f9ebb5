use Rattle.std.proofs.Common.{false}
use Rattle.pddl_ast.proofs.Orders.{names-in_order}
use Rattle.pddl_ast.proofs.laws.typed_lists_in_order.Goals as goal

pub returns : goal.returns
returns c = λ declares types before list lo hi h. names-in_order declares types list before false lo hi h
