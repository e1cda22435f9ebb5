use Rattle.std.proofs.Common.{inl, inr, rules}
use Rattle.pddl_ast.specs.Values.{domain_value, problem_value}
use Rattle.command_base.specs.Values.{plan_words_of}
use Rattle.plan_command.specs.Plannings.{shown_planned}
use Rattle.plan_command.proofs.PlanAnswers.{planned_answer, too_few}
use Rattle.plan_command.proofs.plan_command.plan_class.Goals as goal

pub returns-in-Ok-Some-clause-answer : goal.returns-in-Ok-Some-clause-answer
returns-in-Ok-Some-clause-answer c =
    let asked = plan_words_of c.args.request.now.asked.now in
    let domain = domain_value c.args.request.now.domain.now in
    let problem = problem_value c.args.request.now.problem.now in
    inr (inr (planned_answer asked c.args.class domain problem c.args.task.now (shown_planned c.args.task.now c.in-Ok-Some.planned) c.requires.class c.requires.task (search rules) (search rules)))

pub returns-in-Err-Full-clause-answer : goal.returns-in-Err-Full-clause-answer
returns-in-Err-Full-clause-answer c =
    let asked = plan_words_of c.args.request.now.asked.now in
    let domain = domain_value c.args.request.now.domain.now in
    let problem = problem_value c.args.request.now.problem.now in
    inr (inl (too_few asked c.args.class domain problem c.args.task.now c.requires.class c.requires.task (search rules) (search rules) (search rules), search rules))
