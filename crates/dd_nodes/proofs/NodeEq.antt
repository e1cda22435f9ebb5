-- The derived `==` of nodes is equality.
use Rattle.std.proofs.Common.{rules, ◌≡◌, Bool, true}
use Rattle.dd_nodes.specs.declared.node.Node.{Node}
use Rattle.dd_nodes.specs.contracts.node.NodePartialEq.TheImpl.{eq-value}

abbrev pub node_eq : Node → Node → Bool
node_eq = eq-value.it

pub same : (a b : Node) → node_eq a b ≡ true → a ≡ b
same a b e = search rules

pub own : (a : Node) → node_eq a a ≡ true
own a = search rules
