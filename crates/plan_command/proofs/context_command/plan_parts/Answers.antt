use Rattle.std.proofs.Common.{inl, inr, rules}
use Rattle.pddl_ast.specs.Values.{domain_value, problem_value}
use Rattle.command_base.specs.Values.{plan_words_of}
use Rattle.plan_command.specs.Plannings.{shown_planned}
use Rattle.plan_command.proofs.ContextAnswers.{few_nodes, goal_then}
use Rattle.plan_command.proofs.context_command.plan_parts.Goals as goal

pub returns-in-Ok-Some-clause-answer : goal.returns-in-Ok-Some-clause-answer
returns-in-Ok-Some-clause-answer c =
    let domain = domain_value c.args.request.now.domain.now in
    let problem = problem_value c.args.request.now.problem.now in
    inr (inr (goal_then domain problem c.args.goal.now c.requires.goal (plan_words_of c.args.request.now.asked.now) c.args.task.now (shown_planned c.args.task.now c.in-Ok-Some.planned)
    c.requires.kind c.requires.task (search rules) (search rules) (search rules)))

pub returns-in-Err-Full-clause-answer : goal.returns-in-Err-Full-clause-answer
returns-in-Err-Full-clause-answer c =
    let domain = domain_value c.args.request.now.domain.now in
    let problem = problem_value c.args.request.now.problem.now in
    inr (inl (
      few_nodes domain problem c.args.goal.now c.requires.goal (plan_words_of c.args.request.now.asked.now) c.args.task.now c.requires.kind c.requires.task (search rules) (search rules) (search rules),
      search rules,
    ))
