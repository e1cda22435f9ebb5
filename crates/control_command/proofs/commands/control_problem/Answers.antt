use Rattle.pddl_ast.specs.Values.{domain_value, problem_value}
use Rattle.command_base.specs.Values.{answer_of}
use Rattle.control_command.specs.Values.{control_words_of}
use Rattle.control_command.proofs.Answers.{controlled_then}
use Rattle.control_command.proofs.commands.control_problem.Goals as goal

pub returns : goal.returns
returns c =
    controlled_then (control_words_of c.args.asked.now) (domain_value c.args.domain.now) (problem_value c.args.problem.now) (answer_of c.control_grounded.result)
    c.in_ok-check_goal.ensures.goal c.in_ok-grounded.ensures.within c.control_grounded.ensures
