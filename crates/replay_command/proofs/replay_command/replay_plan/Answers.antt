use Rattle.std.proofs.Common.{map, refl}
use Rattle.std.proofs.lemmas.Result.{err_from_is_err_and}
use Rattle.pddl_ast.specs.Values.{problem_value}
use Rattle.plan_io.specs.Fetches.{FailedLast}
use Rattle.plan_rules.specs.Rules.{plain_of}
use Rattle.run_replay.specs.Records.{record_value}
use Rattle.run_replay.specs.TraceTexts.{tallies_of}
use Rattle.task_core.specs.Tasks.{action_names, system_of}
use Rattle.command_base.specs.Following.{most_followed}
use Rattle.command_base.specs.InitialStates.{empty_init}
use Rattle.replay_command.specs.ReplayCommand.{Tallies}
use Rattle.command_base.specs.Values.{answer_of, refusal_of}
use Rattle.replay_command.proofs.ReplayAnswers.{record_answer, record_refused}
use Rattle.replay_command.proofs.replay_command.replay_plan.Goals as goal
use Rattle.task_core.specs.Initials.{HasTooManyInitial}

pub returns-in_err-recorded-clause-answer : goal.returns-in_err-recorded-clause-answer
returns-in_err-recorded-clause-answer g c =
    let p = err_from_is_err_and c.from_residual.result c.from_residual.ensures.1 in
    let held = g.S.Shelf.held c.args.shelf.now in
    let failed = FailedLast g.S.Shelf.fetched g.S.Shelf.faults c.args.shelf.now c.read_record_file.new.shelf in
    let tallies : Tallies = tallies_of (map (λ monitor. (goal.Monitor-dyn g (monitor.vtable, monitor.value)).shown monitor.value) c.args.monitors.now.items) in
    let task = c.args.request.now.task.now in
    let empty = empty_init c.args.request.now.asked.now.problem.now (problem_value c.args.request.now.problem.now) in
    rw (p.1, p.2) (record_refused held failed tallies c.args.request.now.asked.now.recorded.now (action_names task) (HasTooManyInitial task most_followed) empty (system_of task) (plain_of c.args.request.now.plan.now)
    (refusal_of c.in_err-recorded.field-0.0) c.in_err-recorded.ensures.refused)

pub returns-clause-answer : goal.returns-clause-answer
returns-clause-answer g c =
    let held = g.S.Shelf.held c.args.shelf.now in
    let failed = FailedLast g.S.Shelf.fetched g.S.Shelf.faults c.args.shelf.now c.read_record_file.new.shelf in
    let tallies : Tallies = tallies_of (map (λ monitor. (goal.Monitor-dyn g (monitor.vtable, monitor.value)).shown monitor.value) c.args.monitors.now.items) in
    let task = c.args.request.now.task.now in
    let empty = empty_init c.args.request.now.asked.now.problem.now (problem_value c.args.request.now.problem.now) in
    record_answer held failed tallies c.args.request.now.asked.now.recorded.now (action_names task) (HasTooManyInitial task most_followed) empty (system_of task) (plain_of c.args.request.now.plan.now)
    (record_value c.in_ok-recorded.recorded) (answer_of c.replay_record.result) c.in_ok-recorded.ensures.holds c.replay_record.ensures

pub returns-in_err-recorded-clause-fetches : goal.returns-in_err-recorded-clause-fetches
returns-in_err-recorded-clause-fetches g c = (c.read_record_file.new.shelf, c.in_err-recorded.ensures.fetch, refl)

pub returns-clause-fetches : goal.returns-clause-fetches
returns-clause-fetches g c = (c.read_record_file.new.shelf, c.in_ok-recorded.ensures.fetch, refl)
