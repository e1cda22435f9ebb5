-- The loop goes on while each part so far passes.
use Rattle.std.proofs.Common.{◌≡◌, drop, map}
use Rattle.task_core.specs.Names.{name_bytes, name_of}
use Rattle.task_core.specs.Checks.{is_among}
use Rattle.task_core.proofs.checks.is_action_named.Given as goal

abbrev pub invariant-loop-action : goal.invariant-loop-action
invariant-loop-action l = is_among (map name_of (drop l.action-index l.actions)) (name_bytes l.name) ≡ is_among (map name_of l.actions) (name_bytes l.name)
