use Rattle.controller_code.proofs.RowsMean.{steps_told}
use Rattle.controller_code.proofs.laws.steps_are_read.Goals as goal

pub returns : goal.returns
returns c = steps_told
