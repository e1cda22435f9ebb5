-- The loop goes on while no change makes it so in any case.
use Rattle.std.proofs.Common.{◌≡◌, drop}
use Rattle.relaxed_reach.specs.Literals.{has}
use Rattle.mutex_groups.specs.Cases.{is_sure}
use Rattle.mutex_groups.proofs.outcomes.is_sure.Given as goal

abbrev pub invariant-loop-change : goal.invariant-loop-change
invariant-loop-change l = is_sure (has l.literals) l.fluent.0 l.positive (drop l.change-index l.changes) ≡ is_sure (has l.literals) l.fluent.0 l.positive l.changes
