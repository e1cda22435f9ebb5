use Rattle.std.proofs.Common.{inl, inr, map, refl}
use Rattle.std.proofs.lemmas.Result.{err_from_is_err_and}
use Rattle.pddl_ast.specs.Values.{problem_value}
use Rattle.plan_io.specs.Fetches.{FailedLast}
use Rattle.plan_rules.specs.Rules.{plain_of}
use Rattle.run_replay.specs.TraceTexts.{tallies_of}
use Rattle.task_core.specs.Tasks.{action_names, fluent_names, system_of}
use Rattle.command_base.specs.Following.{most_followed}
use Rattle.command_base.specs.InitialStates.{empty_init}
use Rattle.replay_command.specs.ReplayCommand.{Tallies}
use Rattle.command_base.specs.Values.{answer_of, placed_of, refusal_of, replay_words_of}
use Rattle.command_base.proofs.Fetched.{plan_stops}
use Rattle.command_base.proofs.Later.{failed_over}
use Rattle.replay_command.proofs.ReplayAnswers.{plan_answer, plan_refused, record_later}
use Rattle.replay_command.proofs.replay_command.replay_task.Goals as goal
use Rattle.task_core.specs.Initials.{HasTooManyInitial}

pub returns-in_err-read-clause-answer : goal.returns-in_err-read-clause-answer
returns-in_err-read-clause-answer g c =
    let p = err_from_is_err_and c.from_residual.result c.from_residual.ensures.1 in
    let held = g.S.Shelf.held c.args.shelf.now in
    let failed = FailedLast g.S.Shelf.fetched g.S.Shelf.faults c.args.shelf.now c.read_plan_file.new.shelf in
    let tallies : Tallies = tallies_of (map (λ monitor. (goal.Monitor-dyn g (monitor.vtable, monitor.value)).shown monitor.value) c.args.monitors.now.items) in
    let task = c.args.request.now.task.now in
    let empty = empty_init c.args.request.now.asked.now.problem.now (problem_value c.args.request.now.problem.now) in
    rw (p.1, p.2) (plan_refused held failed tallies (replay_words_of c.args.request.now.asked.now) (fluent_names task) (action_names task) (HasTooManyInitial task most_followed) empty (system_of task)
    (refusal_of c.in_err-read.field-0.0) c.in_err-read.ensures.refused)

pub returns-clause-answer : goal.returns-clause-answer
returns-clause-answer g c =
    let task = c.args.request.now.task.now in
    let empty = empty_init c.args.request.now.asked.now.problem.now (problem_value c.args.request.now.problem.now) in
    let held = g.S.Shelf.held c.args.shelf.now in
    let held' = g.S.Shelf.held c.read_plan_file.new.shelf in
    let failed = FailedLast g.S.Shelf.fetched g.S.Shelf.faults c.args.shelf.now c.replay_plan.new.shelf in
    let failed' = FailedLast g.S.Shelf.fetched g.S.Shelf.faults c.read_plan_file.new.shelf c.replay_plan.new.shelf in
    let tallies : Tallies = tallies_of (map (λ monitor. (goal.Monitor-dyn g (monitor.vtable, monitor.value)).shown monitor.value) c.args.monitors.now.items) in
    let name = c.args.request.now.asked.now.recorded.now in
    let over = failed_over g.S.Shelf.fetched g.S.Shelf.faults c.args.shelf.now c.read_plan_file.new.shelf c.replay_plan.new.shelf c.args.request.now.asked.now.plan.now name
    c.in_ok-read.ensures.fetch c.in_ok-read.ensures.shelf.quiet in
    let sys = system_of task in
    let actions = action_names task in
    let many = HasTooManyInitial task most_followed in
    plan_answer held failed tallies (replay_words_of c.args.request.now.asked.now) (fluent_names task) actions many empty sys (placed_of c.in_ok-read.read) (answer_of c.replay_plan.result) c.in_ok-read.ensures.holds
    (record_later held held' failed failed' tallies name actions many empty sys (plain_of c.in_ok-read.read.plan) (answer_of c.replay_plan.result) c.in_ok-read.ensures.shelf.kept over c.replay_plan.ensures.answer)

pub returns-in_err-read-clause-fetches : goal.returns-in_err-read-clause-fetches
returns-in_err-read-clause-fetches g c =
    let p = err_from_is_err_and c.from_residual.result c.from_residual.ensures.1 in
    let held = g.S.Shelf.held c.args.shelf.now in
    let failed = FailedLast g.S.Shelf.fetched g.S.Shelf.faults c.args.shelf.now c.read_plan_file.new.shelf in
    let task = c.args.request.now.task.now in
    rw (p.1, p.2) (
      c.read_plan_file.new.shelf,
      c.in_err-read.ensures.fetch,
      inl (plan_stops held failed (fluent_names task) (action_names task) c.args.request.now.asked.now.plan.now (refusal_of c.in_err-read.field-0.0) c.in_err-read.ensures.refused, refl),
    )

pub returns-clause-fetches : goal.returns-clause-fetches
returns-clause-fetches g c =
    let placed = placed_of c.in_ok-read.read in (
      c.read_plan_file.new.shelf,
      c.in_ok-read.ensures.fetch,
      inr ((placed.plan, record { place = placed.place; holds = c.in_ok-read.ensures.holds }), c.replay_plan.ensures.fetches),
    )
