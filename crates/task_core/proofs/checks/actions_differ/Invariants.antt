-- The loop goes on while each part so far passes.
use Rattle.std.proofs.Common.{◌≡◌, drop, map}
use Rattle.task_core.specs.Names.{name_of}
use Rattle.task_core.specs.Checks.{all_differ}
use Rattle.task_core.proofs.checks.actions_differ.Given as goal

abbrev pub invariant-loop-i : goal.invariant-loop-i
invariant-loop-i l = all_differ (map name_of (drop l.i l.actions)) ≡ all_differ (map name_of l.actions)
