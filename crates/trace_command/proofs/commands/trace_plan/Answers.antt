use Rattle.std.proofs.Common.{refl}
use Rattle.std.proofs.lemmas.Result.{err_from_is_err_and}
use Rattle.pddl_ast.specs.Values.{problem_value}
use Rattle.plan_io.specs.Fetches.{FailedLast}
use Rattle.run_replay.specs.Records.{record_value}
use Rattle.command_base.specs.InitialStates.{empty_init}
use Rattle.command_base.specs.Values.{answer_of, refusal_of}
use Rattle.explain_command.specs.Values.{lined_of}
use Rattle.trace_command.proofs.AfterFiles.{record_answer, record_refused}
use Rattle.trace_command.proofs.commands.trace_plan.Goals as goal

pub returns-in_err-recorded-clause-answer : goal.returns-in_err-recorded-clause-answer
returns-in_err-recorded-clause-answer g c =
    let p = err_from_is_err_and c.from_residual.result c.from_residual.ensures.1 in
    let held = g.S.Shelf.held c.args.shelf.now in
    let failed = FailedLast g.S.Shelf.fetched g.S.Shelf.faults c.args.shelf.now c.read_record_file.new.shelf in
    let request = c.args.request.now in
    let empty = empty_init request.asked.now.problem.now (problem_value request.problem.now) in
    rw (p.1, p.2) (record_refused held failed request.asked.now.recorded.now empty request.task.now (lined_of request.lined.now) (refusal_of c.in_err-recorded.field-0.0) c.in_err-recorded.ensures.refused)

pub returns-clause-answer : goal.returns-clause-answer
returns-clause-answer g c =
    let held = g.S.Shelf.held c.args.shelf.now in
    let failed = FailedLast g.S.Shelf.fetched g.S.Shelf.faults c.args.shelf.now c.read_record_file.new.shelf in
    let request = c.args.request.now in
    let empty = empty_init request.asked.now.problem.now (problem_value request.problem.now) in
    record_answer held failed request.asked.now.recorded.now empty request.task.now (lined_of request.lined.now) (record_value c.in_ok-recorded.recorded) (answer_of c.show_record.result) c.in_ok-recorded.ensures.holds c.show_record.ensures

pub returns-in_err-recorded-clause-fetches : goal.returns-in_err-recorded-clause-fetches
returns-in_err-recorded-clause-fetches g c = (c.read_record_file.new.shelf, c.in_err-recorded.ensures.fetch, refl)

pub returns-clause-fetches : goal.returns-clause-fetches
returns-clause-fetches g c = (c.read_record_file.new.shelf, c.in_ok-recorded.ensures.fetch, refl)
