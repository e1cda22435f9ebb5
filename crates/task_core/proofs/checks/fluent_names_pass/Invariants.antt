-- The loop goes on while each part so far passes.
use Rattle.std.proofs.Common.{◌≡◌, drop, map}
use Rattle.std.specs.List.{list_all}
use Rattle.task_core.specs.Names.{name_bytes}
use Rattle.task_core.specs.Checks.{fluent_name_passes}
use Rattle.task_core.proofs.checks.fluent_names_pass.Given as goal

abbrev pub invariant-loop-name : goal.invariant-loop-name
invariant-loop-name l = list_all fluent_name_passes (map name_bytes (drop l.name-index l.names)) ≡ list_all fluent_name_passes (map name_bytes l.names)
