use Rattle.std.proofs.Common.{◌≡◌, ◌++◌, map, take, string_bytes}
use Rattle.std.specs.List.{flat_map}
use Rattle.task_core.specs.Names.{name_bytes}
use Rattle.ground_command.specs.GroundCommand.{fluent_line}
use Rattle.ground_command.proofs.ground_command.push_fluents.Given as goal

abbrev pub invariant-loop-fluent : goal.invariant-loop-fluent
invariant-loop-fluent l =
    string_bytes l.out ≡ string_bytes l.fn.out ++ flat_map fluent_line (map name_bytes (take l.fluent-index l.fluents))
