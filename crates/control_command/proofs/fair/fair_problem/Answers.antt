use Rattle.pddl_ast.specs.Values.{domain_value, problem_value}
use Rattle.command_base.specs.Values.{answer_of}
use Rattle.control_command.specs.Values.{fair_words_of}
use Rattle.control_command.proofs.FairAnswers.{tried_then}
use Rattle.control_command.proofs.fair.fair_problem.Goals as goal

pub returns : goal.returns
returns c =
    tried_then (fair_words_of c.args.asked.now) (domain_value c.args.domain.now) (problem_value c.args.problem.now) (answer_of c.fair_grounded.result)
    c.in_ok-check_goal.ensures.goal c.in_ok-grounded.ensures.within c.fair_grounded.ensures
