-- The loop goes on while each part so far passes.
use Rattle.std.proofs.Common.{◌≡◌, drop, map}
use Rattle.std.specs.List.{list_all}
use Rattle.task_core.specs.Names.{name_of}
use Rattle.task_core.specs.Checks.{name_passes}
use Rattle.task_core.proofs.checks.action_names_pass.Given as goal

abbrev pub invariant-loop-action : goal.invariant-loop-action
invariant-loop-action l = list_all name_passes (map name_of (drop l.action-index l.actions)) ≡ list_all name_passes (map name_of l.actions)
