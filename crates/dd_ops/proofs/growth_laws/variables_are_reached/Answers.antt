use Rattle.dd_ops.proofs.GrowthReached.{sees_reached, reached_sees}
use Rattle.dd_ops.proofs.growth_laws.variables_are_reached.Goals as goal

pub returns : goal.returns
returns c vars nodes reduced n number v = (sees_reached vars nodes reduced n v, reached_sees vars nodes reduced n v)
