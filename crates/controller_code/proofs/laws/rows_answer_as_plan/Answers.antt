use Rattle.controller_code.proofs.RowsMean.{answer_told}
use Rattle.controller_code.proofs.laws.rows_answer_as_plan.Goals as goal

pub returns : goal.returns
returns c = answer_told c.args.task.now
