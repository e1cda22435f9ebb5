use Rattle.std.proofs.Common.{◌≡◌, map, take}
use Rattle.plan_document.specs.Actions.{outcome_data}
use Rattle.serde_json.specs.View.{view}
use Rattle.task_core.specs.Names.{name_bytes}
use Rattle.plan_document.proofs.actions.outcome_array.Given as goal

abbrev pub invariant-loop-outcome : goal.invariant-loop-outcome
invariant-loop-outcome l = map view l.list.items ≡ map (outcome_data (map name_bytes l.fluents)) (take l.outcome-index l.outcomes)
