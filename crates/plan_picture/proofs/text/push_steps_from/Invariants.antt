use Rattle.std.proofs.Common.{◌≡◌, ◌++◌, take}
use Rattle.std.specs.List.{flat_map}
use Rattle.plan_picture.specs.Labels.{line_of_step}
use Rattle.plan_picture.proofs.text.push_steps_from.Given as goal

abbrev pub invariant-loop-step : goal.invariant-loop-step
invariant-loop-step l = l.out.items ≡ l.fn.out.items ++ flat_map (line_of_step l.shown l.number) (take l.step-index l.steps)
