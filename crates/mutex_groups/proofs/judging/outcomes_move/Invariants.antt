-- Each outcome so far moves the truth, or leaves it.
use Rattle.std.proofs.Common.{take}
use Rattle.std.specs.List.{All}
use Rattle.task_core.specs.States.{truth}
use Rattle.task_core.specs.declared.actions.Outcome.{Outcome}
use Rattle.relaxed_reach.specs.Literals.{has}
use Rattle.mutex_groups.specs.Cases.{Moves}
use Rattle.mutex_groups.proofs.judging.outcomes_move.Given as goal

abbrev pub invariant-loop-outcome : goal.invariant-loop-outcome
invariant-loop-outcome l = All (λ (o : Outcome). Moves (truth l.case.members.now) (has l.case.literals.now) l.case.fluent.0 o.changes.items) (take l.outcome-index l.outcomes)
