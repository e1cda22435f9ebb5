use Rattle.std.proofs.Common.{List, subst}
use Rattle.std.proofs.lemmas.Result.{IfOk-weaker}
use Rattle.plan_rules.specs.Rules.{ContextRule, plain_of}
use Rattle.task_core.specs.States.{vector}
use Rattle.task_core.specs.Tasks.{fluent_count}
use Rattle.trace.specs.RecordedRuns.{IsRecordedRun}
use Rattle.trace.specs.Turns.{HasHalted}
use Rattle.trace.specs.Values.{run_value}
use Rattle.trace.proofs.runs.recorded_run.Goals as goal

pub stopped-requires : goal.stopped-requires
stopped-requires c = c.in_ok-halted.ensures.in_task

pub returns : goal.returns
returns c =
    let task = c.args.task.now in
    let plan = plain_of c.args.plan.now in
    let first = vector (fluent_count task) c.args.first.now in
    let words = c.args.words.now in
    let has = subst (λ (rules : List ContextRule). HasHalted task rules first words c.in_ok-halted.halted) c.in_ok-rules.ensures.rules c.in_ok-halted.ensures in
    IfOk-weaker c.stopped.result _ (λ run. IsRecordedRun task plan first words (run_value (fluent_count task) run)) (λ run is. is plan first words has) c.stopped.ensures
