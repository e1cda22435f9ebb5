-- By the walks that fix variables.
use Rattle.std.proofs.Common.{subst}
use Rattle.dd_nodes.specs.NodeList.{function}
use Rattle.dd_nodes.specs.Subfunctions.{IsSubfunction}
use Rattle.dd_nodes.proofs.Reaching.{sub_reached, reached_sub}
use Rattle.dd_nodes.proofs.laws.subfunctions_are_reached.Goals as goal

pub returns : goal.returns
returns c vars nodes reduced n number g =
    (sub_reached vars nodes reduced n g, λ found. subst (IsSubfunction vars (function nodes n)) found.2 (reached_sub vars nodes reduced n found.0 found.1))
