use Rattle.std.proofs.Common.{◌≡◌, map, take}
use Rattle.task_core.specs.Names.{name_of}
use Rattle.plan_rules.proofs.reader.action_table.Given as goal

abbrev pub invariant-loop-action : goal.invariant-loop-action
invariant-loop-action l = l.table ≡ map name_of (take l.action-index l.task.actions.items)
