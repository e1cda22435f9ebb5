use Rattle.task_core.specs.States.{vector}
use Rattle.task_core.specs.Tasks.{fluent_count}
use Rattle.trace.proofs.Stopping.{at_no_outcome, at_plan_end, at_refusal}
use Rattle.trace.proofs.stops.stop_at.Goals as goal

pub returns-in_ok-goal_parts-in-PlanEnds : goal.returns-in_ok-goal_parts-in-PlanEnds
returns-in_ok-goal_parts-in-PlanEnds c = λ rules context number ruled.
    at_plan_end c.args.task.now rules (vector (fluent_count c.args.task.now) c.args.state.now) context number c.args.halt c.in_ok-goal_parts-in-PlanEnds.field-0 c.in-PlanEnds.is c.in_ok-goal_parts-in-PlanEnds.ensures

pub returns-in-NoOutcome : goal.returns-in-NoOutcome
returns-in-NoOutcome c = λ rules context number ruled.
    at_no_outcome c.args.task.now rules (vector (fluent_count c.args.task.now) c.args.state.now) context number c.args.halt c.in-NoOutcome.counting c.in-NoOutcome.word c.in-NoOutcome.outcomes c.in-NoOutcome.is ruled

pub returns-in_ok-parts-in-NotExecutable : goal.returns-in_ok-parts-in-NotExecutable
returns-in_ok-parts-in-NotExecutable c = λ rules context number ruled.
    at_refusal c.args.task.now rules (vector (fluent_count c.args.task.now) c.args.state.now) context number c.args.halt c.in-NotExecutable.counting c.in_ok-parts-in-NotExecutable.parts c.in-NotExecutable.is
    c.in_ok-parts-in-NotExecutable.ensures ruled
