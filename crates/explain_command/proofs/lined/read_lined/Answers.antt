use Rattle.plan_io.specs.Fetches.{FailedLast}
use Rattle.plan_rules.specs.Readings.{HasPlanFault}
use Rattle.task_core.specs.Tasks.{action_names, fluent_names}
use Rattle.command_base.specs.Values.{refusal_of}
use Rattle.command_base.proofs.Refusals.{misread_file}
use Rattle.explain_command.proofs.lined.read_lined.Goals as goal

pub returns-clause-refused : goal.returns-clause-refused
returns-clause-refused g c =
    let held = g.S.Shelf.held c.args.shelf.now in
    let failed = FailedLast g.S.Shelf.fetched g.S.Shelf.faults c.args.shelf.now c.fetch.new.shelf in
    let file = rw (← c.deref.ensures.value) at c.in_ok-bytes.ensures.file in
    misread_file held failed (HasPlanFault (fluent_names c.args.task.now) (action_names c.args.task.now)) c.args.name.now c.deref.result.now c.in-Err.error (refusal_of c.in_ok-misread-in-Err.field-0) file c.in-Err.ensures.fault c.in_ok-misread-in-Err.ensures
