-- The loop goes on while each part so far passes.
use Rattle.std.proofs.Common.{◌≡◌, drop}
use Rattle.std.specs.List.{list_all}
use Rattle.task_core.specs.Actions.{action_is_shallow, outcome_is_shallow}
use Rattle.task_core.proofs.checks.action_is_shallow.Given as goal

abbrev pub invariant-loop-outcome : goal.invariant-loop-outcome
invariant-loop-outcome l = list_all outcome_is_shallow (drop l.outcome-index l.outcome-items) ≡ action_is_shallow l.action
