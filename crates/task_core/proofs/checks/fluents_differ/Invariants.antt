-- The loop goes on while each part so far passes.
use Rattle.std.proofs.Common.{◌≡◌, drop, map}
use Rattle.task_core.specs.Names.{name_bytes}
use Rattle.task_core.specs.Checks.{all_differ}
use Rattle.task_core.proofs.checks.fluents_differ.Given as goal

abbrev pub invariant-loop-i : goal.invariant-loop-i
invariant-loop-i l = all_differ (map name_bytes (drop l.i l.fluents)) ≡ all_differ (map name_bytes l.fluents)
