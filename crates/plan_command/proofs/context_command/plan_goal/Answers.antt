use Rattle.std.proofs.Common.{inr, ap, sym, ◌∙◌, rules, Option}
use Rattle.std.specs.Option.{option_map}
use Rattle.pddl_ast.specs.Values.{domain_value, problem_value}
use Rattle.ctl_syntax.specs.GoalValues.{tree_of_goal}
use Rattle.command_base.specs.Values.{plan_words_of}
use Rattle.ctl_syntax.specs.declared.context_goals.ContextGoal.{ContextGoal}
use Rattle.plan_command.proofs.ContextAnswers.{goal_stands, no_goal_found, refused_then}
use Rattle.plan_command.proofs.context_command.plan_goal.Goals as goal

pub plan_parts-requires-clause-goal : goal.plan_parts-requires-clause-goal
plan_parts-requires-clause-goal c =
    goal_stands c.grounded_goals_are_true.ensures.truth (domain_value c.args.request.now.domain.now) (problem_value c.args.request.now.problem.now) c.args.goal.now c.in-Some.goal c.requires.goal
    (sym (ap (λ (o : Option ContextGoal). option_map tree_of_goal o) c.in-Some.is) ∙ c.in_ok-goal.ensures.answer)

pub returns-in_ok-from_str-in-None-clause-answer : goal.returns-in_ok-from_str-in-None-clause-answer
returns-in_ok-from_str-in-None-clause-answer c =
    let domain = domain_value c.args.request.now.domain.now in
    let problem = problem_value c.args.request.now.problem.now in
    let none = no_goal_found domain problem c.args.goal.now c.requires.goal (sym (ap (λ (o : Option ContextGoal). option_map tree_of_goal o) c.in-None.is) ∙ c.in_ok-goal.ensures.answer) in
    inr (inr (refused_then domain problem (plan_words_of c.args.request.now.asked.now) _ c.requires.kind none (search rules)))
