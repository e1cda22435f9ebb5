-- The loop goes on while no change names the literal.
use Rattle.std.proofs.Common.{◌≡◌, drop}
use Rattle.std.specs.List.{list_any}
use Rattle.never_executed.specs.Makers.{change_names, outcome_names}
use Rattle.never_executed.proofs.makers.names.Given as goal

abbrev pub invariant-loop-change : goal.invariant-loop-change
invariant-loop-change l = list_any (change_names l.lit) (drop l.change-index l.change-items) ≡ outcome_names l.lit l.outcome
