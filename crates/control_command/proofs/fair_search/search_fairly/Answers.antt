use Rattle.control_command.proofs.FairAnswers.{full_try}
use Rattle.control_command.proofs.fair_search.search_fairly.Goals as goal

pub returns-clause-full : goal.returns-clause-full
returns-clause-full c is = full_try c.args.nodes c.args.task.now (c.search_in_tries.ensures.full is)
