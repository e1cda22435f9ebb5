use Rattle.std.proofs.Common.{◌≡◌, map, take}
use Rattle.plan_document.specs.Actions.{change_data}
use Rattle.serde_json.specs.View.{view}
use Rattle.task_core.specs.Names.{name_bytes}
use Rattle.plan_document.proofs.actions.outcome_value.Given as goal

abbrev pub invariant-loop-change : goal.invariant-loop-change
invariant-loop-change l = map view l.changes.items ≡ map (change_data (map name_bytes l.fluents)) (take l.change-index l.outcome.changes.items)
