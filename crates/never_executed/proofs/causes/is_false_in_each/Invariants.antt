-- In each instance so far the part can't hold.
use Rattle.std.proofs.Common.{◌≡◌, take, true}
use Rattle.std.specs.List.{All}
use Rattle.relaxed_reach.specs.Literals.{has}
use Rattle.task_core.specs.declared.actions.GroundAction.{GroundAction}
use Rattle.never_executed.specs.NeverRuns.{is_of}
use Rattle.never_executed.specs.Parts.{IsFalsePart}
use Rattle.never_executed.proofs.causes.is_false_in_each.Given as goal

abbrev pub invariant-loop-action : goal.invariant-loop-action
invariant-loop-action l =
    All (λ (a : GroundAction). is_of l.name a ≡ true → IsFalsePart (has l.looked.literals.now) l.part a.exec) (take l.action-index l.action-items)
