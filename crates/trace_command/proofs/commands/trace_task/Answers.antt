use Rattle.std.proofs.Common.{inl, inr, refl}
use Rattle.std.proofs.lemmas.Result.{err_from_is_err_and}
use Rattle.pddl_ast.specs.Values.{problem_value}
use Rattle.plan_io.specs.Fetches.{FailedLast}
use Rattle.task_core.specs.Tasks.{action_names, fluent_names}
use Rattle.command_base.specs.InitialStates.{empty_init}
use Rattle.command_base.specs.Values.{answer_of, refusal_of, replay_words_of}
use Rattle.command_base.proofs.Fetched.{plan_stops}
use Rattle.command_base.proofs.Later.{failed_over}
use Rattle.explain_command.specs.Values.{lined_of}
use Rattle.trace_command.proofs.AfterFiles.{lined_holds, plan_answer, plan_refused, record_later}
use Rattle.trace_command.proofs.commands.trace_task.Goals as goal

pub returns-in_err-lined-clause-answer : goal.returns-in_err-lined-clause-answer
returns-in_err-lined-clause-answer g c =
    let p = err_from_is_err_and c.from_residual.result c.from_residual.ensures.1 in
    let held = g.S.Shelf.held c.args.shelf.now in
    let failed = FailedLast g.S.Shelf.fetched g.S.Shelf.faults c.args.shelf.now c.read_lined.new.shelf in
    let empty = empty_init c.args.request.now.asked.now.problem.now (problem_value c.args.request.now.problem.now) in
    rw (p.1, p.2) (plan_refused held failed (replay_words_of c.args.request.now.asked.now) empty c.args.request.now.task.now (refusal_of c.in_err-lined.field-0.0) c.in_err-lined.ensures.refused)

pub returns-clause-answer : goal.returns-clause-answer
returns-clause-answer g c =
    let task = c.args.request.now.task.now in
    let asked = replay_words_of c.args.request.now.asked.now in
    let empty = empty_init asked.problem (problem_value c.args.request.now.problem.now) in
    let held = g.S.Shelf.held c.args.shelf.now in
    let held' = g.S.Shelf.held c.read_lined.new.shelf in
    let failed = FailedLast g.S.Shelf.fetched g.S.Shelf.faults c.args.shelf.now c.trace_plan.new.shelf in
    let failed' = FailedLast g.S.Shelf.fetched g.S.Shelf.faults c.read_lined.new.shelf c.trace_plan.new.shelf in
    let over = failed_over g.S.Shelf.fetched g.S.Shelf.faults c.args.shelf.now c.read_lined.new.shelf c.trace_plan.new.shelf asked.plan asked.recorded
    c.in_ok-lined.ensures.fetch c.in_ok-lined.ensures.shelf.quiet in
    let lined = lined_of c.in_ok-lined.lined in
    plan_answer held failed asked empty task lined (answer_of c.trace_plan.result) c.in_ok-lined.ensures.holds
    (record_later held held' failed failed' asked.recorded empty task lined (answer_of c.trace_plan.result) c.in_ok-lined.ensures.shelf.kept over c.trace_plan.ensures.answer)

pub returns-in_err-lined-clause-fetches : goal.returns-in_err-lined-clause-fetches
returns-in_err-lined-clause-fetches g c =
    let p = err_from_is_err_and c.from_residual.result c.from_residual.ensures.1 in
    let held = g.S.Shelf.held c.args.shelf.now in
    let failed = FailedLast g.S.Shelf.fetched g.S.Shelf.faults c.args.shelf.now c.read_lined.new.shelf in
    let task = c.args.request.now.task.now in
    rw (p.1, p.2) (
      c.read_lined.new.shelf,
      c.in_err-lined.ensures.fetch,
      inl (plan_stops held failed (fluent_names task) (action_names task) c.args.request.now.asked.now.plan.now (refusal_of c.in_err-lined.field-0.0) c.in_err-lined.ensures.refused, refl),
    )

pub returns-clause-fetches : goal.returns-clause-fetches
returns-clause-fetches g c =
    let task = c.args.request.now.task.now in
    let lined = lined_of c.in_ok-lined.lined in
    let held = g.S.Shelf.held c.args.shelf.now in (
      c.read_lined.new.shelf,
      c.in_ok-lined.ensures.fetch,
      inr (
        (lined.placed.plan, record { place = lined.placed.place; holds = lined_holds held (fluent_names task) (action_names task) c.args.request.now.asked.now.plan.now lined c.in_ok-lined.ensures.holds }),
        c.trace_plan.ensures.fetches,
      ),
    )
