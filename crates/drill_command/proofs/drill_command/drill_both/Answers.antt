use Rattle.pddl_ast.specs.Values.{domain_value, problem_value}
use Rattle.command_base.specs.Values.{answer_of, drill_words_of}
use Rattle.drill_command.proofs.DrillAnswers.{drilled_answer}
use Rattle.drill_command.proofs.drill_command.drill_both.Goals as goal

pub returns : goal.returns
returns c =
    drilled_answer (drill_words_of c.args.asked.now) (domain_value c.args.domain.now) (problem_value c.args.problem.now) c.in_ok-task.task (answer_of c.drill_task.result)
    c.in_ok-task.ensures.task c.in_ok-task.ensures.system c.in_ok-task.ensures.within c.in_ok-check_goal.ensures.goal c.drill_task.ensures
