-- A branch that is `f` itself is true where it is taken first, and false where it is taken second.
use Rattle.dd_ops.proofs.Restated.{restated_constants}
use Rattle.dd_ops.proofs.question.with_constants.Goals as goal

pub returns : goal.returns
returns c nodes asked = restated_constants nodes c.args.q asked c.unless_same.result c.unless_same-2.result c.unless_same.ensures c.unless_same-2.ensures
