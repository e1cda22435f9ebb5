use Rattle.std.proofs.Common.{◌≡◌, map, take}
use Rattle.task_core.specs.Names.{name_bytes}
use Rattle.plan_rules.proofs.reader.fluent_table.Given as goal

abbrev pub invariant-loop-name : goal.invariant-loop-name
invariant-loop-name l = l.table ≡ map name_bytes (take l.name-index l.task.fluents.items)
