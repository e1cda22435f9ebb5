use Rattle.pddl_ast.specs.Values.{domain_value, problem_value}
use Rattle.command_base.specs.Values.{answer_of, plan_words_of}
use Rattle.why_command.proofs.Whys.{why_then}
use Rattle.why_command.proofs.commands.why_problem.Goals as goal

pub returns : goal.returns
returns c =
    why_then (plan_words_of c.args.asked.now) (domain_value c.args.domain.now) (problem_value c.args.problem.now) (answer_of c.why_grounded.result)
    c.in_ok-check_goal.ensures.goal c.in_ok-grounded.ensures.within c.why_grounded.ensures
