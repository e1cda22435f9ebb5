use Rattle.controller_code.proofs.RowsFound.{rows_found}
use Rattle.controller_code.proofs.RowsMean.{outcome_told}
use Rattle.controller_code.proofs.laws.rows_lead_as_outcome.Goals as goal

pub returns-clause-found : goal.returns-clause-found
returns-clause-found c = rows_found c.args.task.now

pub returns-clause-lead : goal.returns-clause-lead
returns-clause-lead c = outcome_told
