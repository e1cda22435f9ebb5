use Rattle.std.proofs.Common.{◌≡◌, map, take}
use Rattle.plan_document.specs.Names.{name_data}
use Rattle.serde_json.specs.View.{view}
use Rattle.task_core.specs.Names.{name_of}
use Rattle.plan_document.proofs.names.action_array.Given as goal

abbrev pub invariant-loop-action : goal.invariant-loop-action
invariant-loop-action l = map view l.names.items ≡ map name_data (map name_of (take l.action-index l.actions))
