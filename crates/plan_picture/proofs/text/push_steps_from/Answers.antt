use Rattle.std.proofs.Common.{take}
use Rattle.std.specs.List.{flat_map}
use Rattle.plan_picture.specs.Labels.{line_of_step}
use Rattle.plan_picture.proofs.Numbered.{flat_map_shorter, longer_whole}
use Rattle.plan_picture.proofs.text.push_steps_from.Goals as goal

pub returns-then-is_too_long-clause-long : goal.returns-then-is_too_long-clause-long
returns-then-is_too_long-clause-long c = λ is.
    let line = line_of_step c.args.shown.now c.args.number in
    let steps = c.args.steps.now in
    let some = take c.loop-step.step-index steps in
    longer_whole c.args.out.now.items (flat_map line some) (flat_map line steps) c.loop-step.out.items _
    c.loop-step.invariant (flat_map_shorter line steps c.loop-step.step-index) (rw c.deref.ensures.value at (c.is_too_long.ensures.0 c.if-is_too_long.true))
