use Rattle.std.proofs.Common.{◌≡◌, map, take}
use Rattle.task_core.specs.Names.{name_bytes}
use Rattle.short_conditions.proofs.tasks.copied_names.Given as goal

abbrev pub invariant-loop-name : goal.invariant-loop-name
invariant-loop-name l = map name_bytes l.copies.items ≡ map name_bytes (take l.name-index l.names)
