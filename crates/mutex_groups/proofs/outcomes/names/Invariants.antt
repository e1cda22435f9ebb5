-- The loop goes on while no literal says so.
use Rattle.std.proofs.Common.{◌≡◌, drop}
use Rattle.task_core.specs.Initial.{names_it}
use Rattle.mutex_groups.proofs.outcomes.names.Given as goal

abbrev pub invariant-loop-lit : goal.invariant-loop-lit
invariant-loop-lit l = names_it l.positive l.fluent.0 (drop l.lit-index l.lits) ≡ names_it l.positive l.fluent.0 l.lits
