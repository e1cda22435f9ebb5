use Rattle.fair_theory.specs.FairPlans.{sets_of_goal}
use Rattle.control_command.proofs.FairAnswers.{found_of}
use Rattle.control_command.proofs.fair_search.find_fairly.Goals as goal

pub returns-clause-found : goal.returns-clause-found
returns-clause-found c = found_of c.args.task.now (sets_of_goal c.args.goal.now) c.fair_plan.result c.fair_plan.ensures.answer
