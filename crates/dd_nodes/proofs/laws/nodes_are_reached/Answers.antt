-- By the count of functions that do not agree.
use Rattle.dd_nodes.proofs.NodeCount.{nodes_counted}
use Rattle.dd_nodes.proofs.laws.nodes_are_reached.Goals as goal

pub returns : goal.returns
returns c vars list reduced from reached numbers all = nodes_counted vars list reduced from reached numbers all
