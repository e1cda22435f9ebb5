-- All nodes are reached from the roots.
use Rattle.dd_nodes.proofs.CollectedCount.{collected_counted}
use Rattle.dd_nodes.proofs.laws.collected_nodes_are_counted.Goals as goal

pub returns : goal.returns
returns c vars before after old new reduced collected = collected_counted vars before after old new reduced collected
