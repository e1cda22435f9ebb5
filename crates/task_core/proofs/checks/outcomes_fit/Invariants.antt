-- The loop goes on while each part so far passes.
use Rattle.std.proofs.Common.{◌≡◌, drop}
use Rattle.std.specs.List.{list_all}
use Rattle.task_core.specs.Actions.{outcome_within}
use Rattle.task_core.proofs.checks.outcomes_fit.Given as goal

abbrev pub invariant-loop-outcome : goal.invariant-loop-outcome
invariant-loop-outcome l = list_all (outcome_within l.fluents) (drop l.outcome-index l.outcomes) ≡ list_all (outcome_within l.fluents) l.outcomes
