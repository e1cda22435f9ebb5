-- The loop goes on while each part so far passes.
use Rattle.std.proofs.Common.{◌≡◌, drop}
use Rattle.std.specs.List.{list_all}
use Rattle.task_core.specs.Actions.{change_is_shallow, outcome_is_shallow}
use Rattle.task_core.proofs.checks.outcome_is_shallow.Given as goal

abbrev pub invariant-loop-change : goal.invariant-loop-change
invariant-loop-change l = list_all change_is_shallow (drop l.change-index l.change-items) ≡ outcome_is_shallow l.outcome
