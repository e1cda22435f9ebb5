-- By the walk, which looks at variables alone.
use Rattle.dd_nodes.proofs.Dependence.{depends_number}
use Rattle.dd_nodes.proofs.laws.depends_on_variables.Goals as goal

pub returns : goal.returns
returns c vars list reduced n number = depends_number vars list reduced n
