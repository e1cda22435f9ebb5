-- The loop goes on while each change so far moves the truth, or leaves it.
use Rattle.std.proofs.Common.{◌≡◌, drop}
use Rattle.std.specs.List.{list_all}
use Rattle.relaxed_reach.specs.Literals.{has}
use Rattle.mutex_groups.specs.Cases.{may_move}
use Rattle.mutex_groups.proofs.outcomes.all_move.Given as goal

abbrev pub invariant-loop-change : goal.invariant-loop-change
invariant-loop-change l = list_all (may_move (has l.case.literals.now) l.case.fluent.0 l.target.0) (drop l.change-index l.changes) ≡ list_all (may_move (has l.case.literals.now) l.case.fluent.0 l.target.0) l.changes
