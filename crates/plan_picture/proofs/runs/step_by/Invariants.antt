-- None so far is by the outcome.
use Rattle.std.proofs.Common.{◌≡◌, drop, map}
use Rattle.plan_picture.specs.Runs.{step_by}
use Rattle.plan_picture.specs.Values.{step_value}
use Rattle.plan_picture.proofs.runs.step_by.Given as goal

abbrev pub invariant-loop-step : goal.invariant-loop-step
invariant-loop-step l = step_by l.action.0 l.outcome (map step_value (drop l.step-index l.steps)) ≡ step_by l.action.0 l.outcome (map step_value l.steps)
