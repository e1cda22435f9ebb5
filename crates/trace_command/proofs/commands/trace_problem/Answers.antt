use Rattle.std.proofs.Common.{inr}
use Rattle.std.proofs.lemmas.Result.{err_from_is_err_and}
use Rattle.pddl_ast.specs.Values.{domain_value, problem_value}
use Rattle.plan_io.specs.Fetches.{FailedLast}
use Rattle.command_base.specs.Values.{answer_of, refusal_of, replay_words_of}
use Rattle.replay_command.proofs.RunFetched.{task_fetched}
use Rattle.replay_command.proofs.ReplayAnswers.{ground_refused}
use Rattle.trace_command.specs.Told.{IsToldOf}
use Rattle.trace_command.proofs.AfterFiles.{task_answer}
use Rattle.trace_command.proofs.commands.trace_problem.Goals as goal

pub returns-in_err-task-clause-answer : goal.returns-in_err-task-clause-answer
returns-in_err-task-clause-answer g c =
    let p = err_from_is_err_and c.from_residual.result c.from_residual.ensures.1 in
    let held = g.S.Shelf.held c.args.shelf.now in
    let failed = FailedLast g.S.Shelf.fetched g.S.Shelf.faults c.args.shelf.now c.args.shelf.now in
    let domain = domain_value c.args.sought.now.domain.now in
    let problem = problem_value c.args.sought.now.problem.now in
    rw (p.1, p.2) (ground_refused domain problem (IsToldOf held failed (replay_words_of c.args.sought.now.asked.now) domain problem) (refusal_of c.in_err-task.field-0.0) c.in_err-task.ensures.refused)

pub returns-clause-answer : goal.returns-clause-answer
returns-clause-answer g c =
    let held = g.S.Shelf.held c.args.shelf.now in
    let failed = FailedLast g.S.Shelf.fetched g.S.Shelf.faults c.args.shelf.now c.trace_task.new.shelf in
    task_answer held failed (replay_words_of c.args.sought.now.asked.now) (domain_value c.args.sought.now.domain.now) (problem_value c.args.sought.now.problem.now) c.in_ok-task.task (answer_of c.trace_task.result)
    c.in_ok-task.ensures.task c.in_ok-task.ensures.within c.trace_task.ensures.answer

pub returns-clause-fetches : goal.returns-clause-fetches
returns-clause-fetches g c =
    let held = g.S.Shelf.held c.args.shelf.now in
    let failed = FailedLast g.S.Shelf.fetched g.S.Shelf.faults c.args.shelf.now c.trace_task.new.shelf in
    inr (
      c.in_ok-task.ensures.within,
      task_fetched held failed g.S.Shelf.fetched (replay_words_of c.args.sought.now.asked.now) (domain_value c.args.sought.now.domain.now) (problem_value c.args.sought.now.problem.now) c.in_ok-task.task _
          c.args.shelf.now c.trace_task.new.shelf c.in_ok-task.ensures.task c.trace_task.ensures.fetches,
    )
