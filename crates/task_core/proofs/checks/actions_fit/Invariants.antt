-- The loop goes on while each part so far passes.
use Rattle.std.proofs.Common.{◌≡◌, drop}
use Rattle.std.specs.List.{list_all}
use Rattle.task_core.specs.Actions.{action_within}
use Rattle.task_core.proofs.checks.actions_fit.Given as goal

abbrev pub invariant-loop-action : goal.invariant-loop-action
invariant-loop-action l = list_all (action_within l.fluents) (drop l.action-index l.actions) ≡ list_all (action_within l.fluents) l.actions
