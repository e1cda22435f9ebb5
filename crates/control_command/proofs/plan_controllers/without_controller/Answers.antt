use Rattle.pddl_ast.specs.Values.{domain_value, problem_value}
use Rattle.control_command.specs.Values.{control_words_of}
use Rattle.control_command.proofs.Answers.{planned_then, refusal_then}
use Rattle.control_command.proofs.plan_controllers.without_controller.Goals as goal

pub controller_of_planned-requires-clause-found : goal.controller_of_planned-requires-clause-found
controller_of_planned-requires-clause-found c =
    let s = c.args.sought.now in
    planned_then (control_words_of s.asked.now) (domain_value s.domain.now) (problem_value s.problem.now) s.grounded.now.task c.find_grounded.result c.in-Ok.planned c.in-Ok.is c.find_grounded.ensures.answer

pub returns-in-Err : goal.returns-in-Err
returns-in-Err c =
    let s = c.args.sought.now in
    refusal_then (control_words_of s.asked.now) (domain_value s.domain.now) (problem_value s.problem.now) s.grounded.now.task c.find_grounded.result c.in-Err.refusal c.in-Err.is c.find_grounded.ensures.answer
