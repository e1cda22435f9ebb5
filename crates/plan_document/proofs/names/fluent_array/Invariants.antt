use Rattle.std.proofs.Common.{◌≡◌, map, take}
use Rattle.plan_document.specs.Names.{name_data}
use Rattle.serde_json.specs.View.{view}
use Rattle.task_core.specs.Names.{name_bytes}
use Rattle.plan_document.proofs.names.fluent_array.Given as goal

abbrev pub invariant-loop-fluent : goal.invariant-loop-fluent
invariant-loop-fluent l = map view l.names.items ≡ map name_data (map name_bytes (take l.fluent-index l.fluents))
