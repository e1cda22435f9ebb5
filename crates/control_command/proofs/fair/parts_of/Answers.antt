use Rattle.pddl_ast.specs.Values.{domain_value, problem_value}
use Rattle.control_command.proofs.FairGoalParts.{none_stands, some_stands}
use Rattle.control_command.proofs.fair.parts_of.Goals as goal

pub returns-clause-stands : goal.returns-clause-stands
returns-clause-stands c =
    let s = c.args.sought.now in
    some_stands c.grounded_goals_are_true.ensures.truth (domain_value s.domain.now) (problem_value s.problem.now) c.args.goal.now c.as_context_goal.result c.requires.goal
    c.as_context_goal.ensures.answer

pub returns-clause-none : goal.returns-clause-none
returns-clause-none c =
    let s = c.args.sought.now in
    none_stands (domain_value s.domain.now) (problem_value s.problem.now) c.args.goal.now c.as_context_goal.result c.requires.goal c.as_context_goal.ensures.answer
