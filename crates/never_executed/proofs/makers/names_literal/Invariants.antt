-- The loop goes on while no literal is the one.
use Rattle.std.proofs.Common.{◌≡◌, drop}
use Rattle.task_core.specs.Initial.{names_it}
use Rattle.never_executed.specs.Makers.{change_names}
use Rattle.never_executed.proofs.makers.names_literal.Given as goal

abbrev pub invariant-loop-other : goal.invariant-loop-other
invariant-loop-other l = names_it l.lit.positive l.lit.fluent.0 (drop l.other-index l.other-items) ≡ change_names l.lit l.change
