use Rattle.std.proofs.Common.{◌≡◌, map, take}
use Rattle.plan_page.specs.Pages.{step_data}
use Rattle.plan_picture.specs.Values.{step_value}
use Rattle.serde_json.specs.View.{view}
use Rattle.plan_page.proofs.values.step_values.Given as goal

abbrev pub invariant-loop-step : goal.invariant-loop-step
invariant-loop-step l = map view l.values.items ≡ map step_data (map step_value (take l.step-index l.steps))
