use Rattle.std.proofs.Common.{append_assoc, arith}
use Rattle.task_core.specs.Tasks.{action_names, fluent_count}
use Rattle.run_replay.specs.TraceTexts.{step_line}
use Rattle.run_replay.proofs.TextLemmas.{lines_more}
use Rattle.run_replay.proofs.text.push_steps.Goals as goal

pub loop-step-preserved : goal.loop-step-preserved
loop-step-preserved c =
    let task = c.args.task.now in
    let more = lines_more (step_line (action_names task)) (fluent_count task) c.args.steps.now c.loop-step.step-index c.step-item.result c.loop-step-test.true c.step-item.is in
    let made = c.in_ok-push_step.ensures (fluent_count task) in
    grind (arith, append_assoc, more, made, c.loop-step.invariant, c.deref.ensures.value)
