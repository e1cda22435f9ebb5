use Rattle.std.proofs.Common.{inr, refl}
use Rattle.std.proofs.lemmas.Result.{err_from_is_err_and}
use Rattle.pddl_ast.specs.Values.{domain_value, problem_value}
use Rattle.plan_io.specs.Fetches.{FailedLast}
use Rattle.command_base.specs.Values.{answer_of, kind_of, refusal_of}
use Rattle.explain_command.specs.Values.{explain_words_of, lined_of}
use Rattle.check_command.proofs.CheckAnswers.{goal_in}
use Rattle.explain_command.proofs.Explaining.{explained_answer, plan_refused}
use Rattle.explain_command.proofs.commands.explain_problem.Goals as goal

pub returns-in_err-lined-clause-answer : goal.returns-in_err-lined-clause-answer
returns-in_err-lined-clause-answer g c =
    let p = err_from_is_err_and c.from_residual-in_err-lined.result c.from_residual-in_err-lined.ensures.1 in
    let held = g.S.Shelf.held c.args.shelf.now in
    let failed = FailedLast g.S.Shelf.fetched g.S.Shelf.faults c.args.shelf.now c.read_lined.new.shelf in
    let domain = domain_value c.args.domain.now in
    let problem = problem_value c.args.problem.now in
    rw (p.1, p.2) (plan_refused held failed (explain_words_of c.args.asked.now) domain problem c.in_ok-grounded.grounded.task (refusal_of c.in_err-lined.field-0.0)
    c.in_ok-grounded.ensures.task c.in_ok-grounded.ensures.within c.in_ok-check_goal.ensures.goal c.in_err-lined.ensures.refused)

pub explain_read-requires-clause-goal : goal.explain_read-requires-clause-goal
explain_read-requires-clause-goal g c =
    goal_in (kind_of c.args.asked.now.check.kind) (domain_value c.args.domain.now) (problem_value c.args.problem.now) c.in_ok-grounded.grounded.task c.in_ok-grounded.grounded.ctl
    c.in_ok-grounded.ensures.task c.in_ok-grounded.ensures.ctl c.in_ok-check_goal.ensures.goal

pub returns-clause-answer : goal.returns-clause-answer
returns-clause-answer g c =
    let held = g.S.Shelf.held c.args.shelf.now in
    let failed = FailedLast g.S.Shelf.fetched g.S.Shelf.faults c.args.shelf.now c.read_lined.new.shelf in
    let domain = domain_value c.args.domain.now in
    let problem = problem_value c.args.problem.now in
    explained_answer c.grounded_goals_are_true.ensures.truth c.fair_goals_are_true.ensures.alike held failed (explain_words_of c.args.asked.now) domain problem c.in_ok-grounded.grounded.task c.in_ok-grounded.grounded.ctl
    (lined_of c.in_ok-lined.lined) (answer_of c.explain_read.result) c.requires.fair
    c.in_ok-grounded.ensures.task c.in_ok-grounded.ensures.system c.in_ok-grounded.ensures.ctl c.in_ok-grounded.ensures.within c.in_ok-check_goal.ensures.goal
    c.in_ok-lined.ensures.holds c.explain_read.ensures

pub returns-in_err-lined-clause-fetches : goal.returns-in_err-lined-clause-fetches
returns-in_err-lined-clause-fetches g c =
    inr ((c.in_ok-check_goal.ensures.goal, c.in_ok-grounded.ensures.within), (c.read_lined.new.shelf, c.in_err-lined.ensures.fetch, refl))

pub returns-clause-fetches : goal.returns-clause-fetches
returns-clause-fetches g c =
    inr ((c.in_ok-check_goal.ensures.goal, c.in_ok-grounded.ensures.within), (c.read_lined.new.shelf, c.in_ok-lined.ensures.fetch, refl))
