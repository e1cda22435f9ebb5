use Rattle.std.proofs.Common.{inr, refl}
use Rattle.std.proofs.lemmas.Result.{err_from_is_err_and}
use Rattle.pddl_ast.specs.Values.{domain_value, problem_value}
use Rattle.plan_certs.specs.Named.{plain_certificate}
use Rattle.plan_io.specs.Fetches.{FailedLast}
use Rattle.command_base.specs.Grounding.{GroundThen, for_tables}
use Rattle.refute_command.specs.RefuteCommand.{RefuteThen}
use Rattle.command_base.specs.Values.{answer_of, refusal_of, refute_words_of}
use Rattle.command_base.proofs.TaskGoals.{goal_refused, limit_refused}
use Rattle.refute_command.proofs.RefuteAnswers.{certificate_refused, refuted_answer, refuted_early, table_goal}
use Rattle.refute_command.proofs.refute_command.refute_problem.Goals as goal

pub returns-in_err-check_goal-clause-answer : goal.returns-in_err-check_goal-clause-answer
returns-in_err-check_goal-clause-answer g c =
    let p = err_from_is_err_and c.from_residual.result c.from_residual.ensures.1 in
    let held = g.S.Shelf.held c.args.shelf.now in
    let failed = FailedLast g.S.Shelf.fetched g.S.Shelf.faults c.args.shelf.now c.args.shelf.now in
    let asked = refute_words_of c.args.asked.now in
    let domain = domain_value c.args.domain.now in
    let problem = problem_value c.args.problem.now in
    rw (p.1, p.2) (refuted_early held failed asked domain problem _
    (goal_refused for_tables asked.problem problem (GroundThen domain problem (RefuteThen held failed asked domain problem)) (refusal_of c.in_err-check_goal.field-0.0) c.in_err-check_goal.ensures.refused))

pub returns-in_err-grounded-clause-answer : goal.returns-in_err-grounded-clause-answer
returns-in_err-grounded-clause-answer g c =
    let p = err_from_is_err_and c.from_residual-in_err-grounded.result c.from_residual-in_err-grounded.ensures.1 in
    let held = g.S.Shelf.held c.args.shelf.now in
    let failed = FailedLast g.S.Shelf.fetched g.S.Shelf.faults c.args.shelf.now c.args.shelf.now in
    let asked = refute_words_of c.args.asked.now in
    let domain = domain_value c.args.domain.now in
    let problem = problem_value c.args.problem.now in
    rw (p.1, p.2) (refuted_early held failed asked domain problem _
    (limit_refused for_tables asked.problem domain problem (RefuteThen held failed asked domain problem) (refusal_of c.in_err-grounded.field-0.0) c.in_ok-check_goal.ensures.goal c.in_err-grounded.ensures.refused))

pub returns-in_err-read-clause-answer : goal.returns-in_err-read-clause-answer
returns-in_err-read-clause-answer g c =
    let p = err_from_is_err_and c.from_residual-in_err-read.result c.from_residual-in_err-read.ensures.1 in
    let held = g.S.Shelf.held c.args.shelf.now in
    let failed = FailedLast g.S.Shelf.fetched g.S.Shelf.faults c.args.shelf.now c.read_certificate_file.new.shelf in
    let domain = domain_value c.args.domain.now in
    let problem = problem_value c.args.problem.now in
    rw (p.1, p.2) (certificate_refused held failed (refute_words_of c.args.asked.now) domain problem c.in_ok-grounded.grounded.task (refusal_of c.in_err-read.field-0.0)
    c.in_ok-grounded.ensures.task c.in_ok-grounded.ensures.within c.in_ok-check_goal.ensures.goal c.in_err-read.ensures.refused)

pub judge_certificate-requires-clause-goal : goal.judge_certificate-requires-clause-goal
judge_certificate-requires-clause-goal g c =
    table_goal (domain_value c.args.domain.now) (problem_value c.args.problem.now) c.in_ok-grounded.grounded.task
    c.in_ok-grounded.ensures.task c.in_ok-check_goal.ensures.goal

pub returns-clause-answer : goal.returns-clause-answer
returns-clause-answer g c =
    let held = g.S.Shelf.held c.args.shelf.now in
    let failed = FailedLast g.S.Shelf.fetched g.S.Shelf.faults c.args.shelf.now c.read_certificate_file.new.shelf in
    let domain = domain_value c.args.domain.now in
    let problem = problem_value c.args.problem.now in
    refuted_answer held failed (refute_words_of c.args.asked.now) domain problem c.in_ok-grounded.grounded.task
    (plain_certificate c.in_ok-read.read.certificate) (answer_of c.judge_certificate.result)
    c.in_ok-grounded.ensures.task c.in_ok-grounded.ensures.system c.in_ok-grounded.ensures.within c.in_ok-check_goal.ensures.goal
    c.in_ok-read.ensures.holds c.judge_certificate.ensures

pub returns-in_err-read-clause-fetches : goal.returns-in_err-read-clause-fetches
returns-in_err-read-clause-fetches g c =
    inr ((c.in_ok-check_goal.ensures.goal, c.in_ok-grounded.ensures.within), (c.read_certificate_file.new.shelf, c.in_err-read.ensures.fetch, refl))

pub returns-clause-fetches : goal.returns-clause-fetches
returns-clause-fetches g c =
    inr ((c.in_ok-check_goal.ensures.goal, c.in_ok-grounded.ensures.within), (c.read_certificate_file.new.shelf, c.in_ok-read.ensures.fetch, refl))
