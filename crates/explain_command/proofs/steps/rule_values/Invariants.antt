use Rattle.std.proofs.Common.{◌≡◌, ℕ, map, take}
use Rattle.plan_witness.specs.Values.{steps_value}
use Rattle.serde_json.specs.View.{view}
use Rattle.explain_command.specs.Documents.{rule_data}
use Rattle.explain_command.proofs.steps.rule_values.Given as goal

abbrev pub invariant-loop-step : goal.invariant-loop-step
invariant-loop-step l = (n : ℕ) → map view l.numbers.items ≡ map rule_data (steps_value n (take l.step-index l.steps))
