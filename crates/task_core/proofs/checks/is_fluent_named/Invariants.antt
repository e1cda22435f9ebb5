-- The loop goes on while each part so far passes.
use Rattle.std.proofs.Common.{◌≡◌, drop, map}
use Rattle.task_core.specs.Names.{name_bytes}
use Rattle.task_core.specs.Checks.{is_among}
use Rattle.task_core.proofs.checks.is_fluent_named.Given as goal

abbrev pub invariant-loop-fluent : goal.invariant-loop-fluent
invariant-loop-fluent l = is_among (map name_bytes (drop l.fluent-index l.fluents)) (name_bytes l.name) ≡ is_among (map name_bytes l.fluents) (name_bytes l.name)
