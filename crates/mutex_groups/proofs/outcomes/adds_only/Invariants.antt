-- The loop goes on while no change may add another member.
use Rattle.std.proofs.Common.{◌≡◌, drop}
use Rattle.std.specs.List.{list_any}
use Rattle.task_core.specs.States.{truth}
use Rattle.relaxed_reach.specs.Literals.{has}
use Rattle.mutex_groups.specs.Cases.{may_add_other}
use Rattle.mutex_groups.proofs.outcomes.adds_only.Given as goal

abbrev pub invariant-loop-change : goal.invariant-loop-change
invariant-loop-change l = list_any (may_add_other (truth l.case.members.now) (has l.case.literals.now) l.target.0) (drop l.change-index l.changes) ≡ list_any (may_add_other (truth l.case.members.now) (has l.case.literals.now) l.target.0) l.changes
