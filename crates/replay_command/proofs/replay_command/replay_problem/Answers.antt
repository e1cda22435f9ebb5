use Rattle.std.proofs.Common.{inr, map}
use Rattle.std.proofs.lemmas.Result.{err_from_is_err_and}
use Rattle.pddl_ast.specs.Values.{domain_value, problem_value}
use Rattle.pddl_system.specs.Systems.{action_names, fluent_names, system}
use Rattle.plan_io.specs.Fetches.{FailedLast}
use Rattle.run_replay.specs.TraceTexts.{tallies_of}
use Rattle.command_base.specs.Following.{HasTooManyStates}
use Rattle.command_base.specs.InitialStates.{empty_init}
use Rattle.replay_command.specs.ReplayCommand.{ReplayThen, Tallies}
use Rattle.command_base.specs.Values.{answer_of, refusal_of, replay_words_of}
use Rattle.replay_command.proofs.RunFetched.{task_fetched}
use Rattle.replay_command.proofs.ReplayAnswers.{ground_refused, replay_answer}
use Rattle.replay_command.proofs.replay_command.replay_problem.Goals as goal

pub returns-in_err-task-clause-answer : goal.returns-in_err-task-clause-answer
returns-in_err-task-clause-answer g c =
    let p = err_from_is_err_and c.from_residual.result c.from_residual.ensures.1 in
    let held = g.S.Shelf.held c.args.shelf.now in
    let failed = FailedLast g.S.Shelf.fetched g.S.Shelf.faults c.args.shelf.now c.args.shelf.now in
    let tallies : Tallies = tallies_of (map (λ monitor. (goal.Monitor-dyn g (monitor.vtable, monitor.value)).shown monitor.value) c.args.monitors.now.items) in
    let domain = domain_value c.args.sought.now.domain.now in
    let problem = problem_value c.args.sought.now.problem.now in
    rw (p.1, p.2) (ground_refused domain problem
    (ReplayThen held failed tallies (replay_words_of c.args.sought.now.asked.now) (fluent_names domain problem) (action_names domain problem) (HasTooManyStates domain problem) (empty_init c.args.sought.now.asked.now.problem.now problem) (system domain problem)) (refusal_of c.in_err-task.field-0.0) c.in_err-task.ensures.refused)

pub returns-clause-answer : goal.returns-clause-answer
returns-clause-answer g c =
    let held = g.S.Shelf.held c.args.shelf.now in
    let failed = FailedLast g.S.Shelf.fetched g.S.Shelf.faults c.args.shelf.now c.replay_task.new.shelf in
    let tallies : Tallies = tallies_of (map (λ monitor. (goal.Monitor-dyn g (monitor.vtable, monitor.value)).shown monitor.value) c.args.monitors.now.items) in
    replay_answer held failed tallies (replay_words_of c.args.sought.now.asked.now) (domain_value c.args.sought.now.domain.now) (problem_value c.args.sought.now.problem.now) c.in_ok-task.task (answer_of c.replay_task.result)
    c.in_ok-task.ensures.task c.in_ok-task.ensures.system c.in_ok-task.ensures.within c.replay_task.ensures.answer

pub returns-clause-fetches : goal.returns-clause-fetches
returns-clause-fetches g c =
    let held = g.S.Shelf.held c.args.shelf.now in
    let failed = FailedLast g.S.Shelf.fetched g.S.Shelf.faults c.args.shelf.now c.replay_task.new.shelf in
    inr (
      c.in_ok-task.ensures.within,
      task_fetched held failed g.S.Shelf.fetched (replay_words_of c.args.sought.now.asked.now) (domain_value c.args.sought.now.domain.now) (problem_value c.args.sought.now.problem.now) c.in_ok-task.task _
          c.args.shelf.now c.replay_task.new.shelf c.in_ok-task.ensures.task c.replay_task.ensures.fetches,
    )
