-- Each fluent is as the changes so far leave it.
use Rattle.std.proofs.Common.{◌≡◌, ℕ, take, cond}
use Rattle.std.specs.List.{list_any}
use Rattle.task_core.specs.States.{truth}
use Rattle.task_core.specs.Actions.{change_makes}
use Rattle.task_core.proofs.steps.with_changes.Given as goal

abbrev pub invariant-loop-change : goal.invariant-loop-change
invariant-loop-change l = (f : ℕ) → truth l.state f ≡ cond (list_any (change_makes l.positive (truth l.old) f) (take l.change-index l.change-items)) l.positive (truth l.fn.next f)
