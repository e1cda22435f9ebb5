use Rattle.std.proofs.Common.{◌≡◌, map, take}
use Rattle.plan_document.specs.Actions.{condition_data}
use Rattle.serde_json.specs.View.{view}
use Rattle.task_core.specs.Names.{name_bytes}
use Rattle.plan_document.proofs.actions.+making.Given as goal

abbrev pub invariant-condition_array-loop-cond : goal.invariant-condition_array-loop-cond
invariant-condition_array-loop-cond l = map view l.list.items ≡ map (condition_data (map name_bytes l.fluents)) (take l.cond-index l.conds)
