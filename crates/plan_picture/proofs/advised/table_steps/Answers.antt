use Rattle.std.proofs.Common.{◌≡◌, ◌<◌, ◌∙◌, ap, arith, false, map, sym}
use Rattle.std.specs.Prelude.{slice_index_or}
use Rattle.plan_rules.specs.Denoted.{advises}
use Rattle.plan_rules.specs.Rules.{rule_of}
use Rattle.task_core.specs.States.{vector}
use Rattle.task_core.specs.Tasks.{action_count, fluent_count, system_of}
use Rattle.plan_picture.specs.Places.{configurations_of}
use Rattle.plan_picture.proofs.AmongActions.{more_steps, no_more_steps}
use Rattle.plan_picture.proofs.advised.table_steps.Goals as goal
use Rattle.plan_picture.proofs.advised.table_steps.Goals.{then-is_marked+in_ok-add_steps, else-is_marked}

pub loop-number-preserved : goal.loop-number-preserved
loop-number-preserved c =
    let task = c.args.task.now in
    let sys = system_of task in
    let places = configurations_of (fluent_count task) c.args.places.now in
    let rules = map rule_of c.args.rules.now in
    let s = vector (fluent_count task) c.args.state.now in
    let k = c.loop-number.number in
    let below : k < action_count task = omega (arith, c.loop-number-test.true, c.len-number-end.ensures) in
    let same : c.is_marked.result ≡ advises rules s k =
    c.is_marked.ensures ∙ ap (λ bools. slice_index_or bools k false) c.deref.ensures.value ∙ c.in_ok-marks.ensures.marks k below in
    elim c.if-is_marked.branch [
      | then-is_marked+in_ok-add_steps w ↦
          rw w.steps-is (more_steps sys places rules s k _ _ (sym same ∙ w.if-is_marked.true) c.loop-number.invariant w.in_ok-add_steps.ensures.steps)
      | else-is_marked w ↦ rw w.steps-is (no_more_steps sys places rules s k _ (sym same ∙ w.if-is_marked.false) c.loop-number.invariant)
    ]
